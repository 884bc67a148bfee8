-- Insertion leads from the tree to a tree with the new entry: the subtree's theorem at the root, where the rule writes
-- page 0 or splits it under a new root, and the memory after the writes.
use Prim.Native.Nat.{ℕ, suc, ◌+◌, ◌*◌, ◌≤◌, ◌<◌}
use mathlib.Core.List.{List, [], ◌∷◌, ◌++◌, append-nil}
use mathlib.Core.Logic.{inl, inr, ⊎_elim}
use mathlib.Core.Path.{◌≡◌, refl, sym, ap, ap₂, ◌∙◌, subst}
use native.Mathlib.Numerals.{add-one}
use native.Mathlib.Omega.{arith}
use borrow.Author.Tests.{leb-true, leb-false}
use lib.Dec.{leb}
use lib.ListN.{length, take, drop}
use lib.Seq.{drop-drop}
use Rattle.ground.specs.Limits.{word_range}
use Rattle.ground.specs.Tests.{member}
use Rattle.ground.proofs.Choice.{by_test}
use Rattle.page.specs.Words.{Entry, Page, μ, keyed}
use Rattle.page.specs.Splits.{Parted, raised}
use Rattle.pool.specs.Pool.{Write, write}
use Rattle.change.specs.Insertion.{lowest, room, settled, insertion}
use Rattle.change.proofs.RuleLaws.{settled_fits, settled_raises}
use Rattle.tree.specs.Tree.{Node, Tr, page_number, page_of, entries_of, once, occurs, InRange, root_least, Holds, Stands, way, Forms, node}
use Rattle.tree.specs.Sorted.{inserted}
use Rattle.tree.specs.Change.{memory_after, written_pages, Fitting, Leads, FreeFor}
use Rattle.tree.specs.Insertion.{fillings, new_pages, tree_room, InsertionLeads, RoomOfTree}
use Rattle.tree.proofs.Pages.{row_page_raised}
use Rattle.tree.proofs.Memory.{times, times_cut, times_member, member_times, absent_times, distinct_times, times_distinct, times_written, unwritten, Stores, stores_left, stores_right, written_stores, fitting_append, fits_page, holds_top}
use Rattle.tree.proofs.InsertionWay.{new_pages_full}
use Rattle.tree.proofs.InsertionSplit.{Halves, halves}
use Rattle.tree.proofs.Search.{page_of_level}
use Rattle.tree.proofs.InsertionTree.{tree_most, tree_shrink, taken_last, begun, Change, Grown, grown, Piece, piece_stopped, piece_written}
use Rattle.tree.proofs.InsertionHeld.{held_rule, held_pages, room_tree}

-- What the writes make of the whole tree, before they are put into the memory.
record Made (k : ℕ) (memory : ℕ → Page) (free : List ℕ) (l : ℕ) (t : Tr l) (writes : List Write) (es : List Entry) : Type 0 where
  height : ℕ
  tree : Tr height
  root : page_number height tree ≡ 0
  in_range : InRange k (root_least height) (2 * k) height tree 0 word_range
  entries : entries_of height tree ≡ es
  -- it has the old pages, and free ones besides; every page that is written is one of them
  more : (q : ℕ) → occurs q l t ≤ occurs q height tree
  most : (q : ℕ) → occurs q height tree ≤ occurs q l t + times q free
  inside : (q : ℕ) → times q (written_pages writes) ≤ occurs q height tree
  fitting : Fitting k writes
  -- a memory that has the writes, and else is as it was, holds the tree
  holds : (M : ℕ → Page) → Stores M writes
      → ((q : ℕ) → times q (written_pages writes) ≡ 0 → 1 ≤ occurs q l t → M q ≡ memory q)
      → Holds M height tree
  -- every page that is not written keeps its level and range
  keeps : (q level a b : ℕ) → times q (written_pages writes) ≡ 0
      → Stands l t 0 word_range q level a b → Stands height tree 0 word_range q level a b

-- pages of the tree and free pages are different
apart : (n l : ℕ) (t : Tr l) (free : List ℕ)
    → FreeFor n l t free → ((q : ℕ) → occurs q l t ≤ 1) → (q : ℕ) → occurs q l t + times q free ≤ 1
apart n l t free f d q =
    by_test (member q free)
    (λ m. let none = f.outside q m in let one = distinct_times free f.different q in omega arith)
    (λ m. let none = absent_times q free m in let one = d q in omega arith)

-- the memory after such writes forms the tree
made_leads : (k n : ℕ) (memory : ℕ → Page) (free : List ℕ) (l : ℕ) (t : Tr l) (writes : List Write) (es : List Entry)
    → Forms k n memory l t → FreeFor n l t free → Made k memory free l t writes es → Leads k n memory l t writes es
made_leads k n memory free l t writes es forms f made =
    let M : ℕ → Page = memory_after memory writes in
    let different : (q : ℕ) → occurs q made.height made.tree ≤ 1
    = λ q. let a = apart n l t free f forms.different q in let m = made.most q in omega arith in
    let single : (q : ℕ) → times q (written_pages writes) ≤ 1
    = λ q. let i = made.inside q in let d = different q in omega arith in
    let within : (q : ℕ) → 1 ≤ occurs q made.height made.tree → q < n
    = λ q o.
    by_test (member q free)
    (λ m. f.within q m)
    (λ m. let none = absent_times q free m in let b = made.most q in forms.within q (omega arith)) in
    record {
      height = made.height;
      tree = made.tree;
      forms = record {
        root = made.root;
        in_range = made.in_range;
        holds = made.holds M (written_stores memory writes single) (λ q z o. unwritten memory writes q z);
        different = different;
        within = within;
        others =
            λ q h o.
            let i = made.inside q in
            let m = made.more q in
            unwritten memory writes q (omega arith) ∙ forms.others q h (omega arith);
      };
      entries = made.entries;
      different = times_distinct (written_pages writes) single;
      inside = λ q m. let o = member_times q (written_pages writes) m in let i = made.inside q in within q (omega arith);
      fitting = made.fitting;
      keeps = λ q level a b m s. made.keeps q level a b (absent_times q (written_pages writes) m) s;
    }

-- a root over two trees: page 0, with the key r between them
abbrev over : {C : Type 0} → C → ℕ → C → Node C
over a r b = node 0 (keyed 0 a ∷ keyed r b ∷ [])

-- The tree t with page 0 as its root, and what the rule does there.
module _ (k : ℕ) (memory : ℕ → Page) (x v : ℕ) (free : List ℕ) (l : ℕ) (t : Tr l) (root : page_number l t ≡ 0)
    (separate : (q : ℕ) → occurs q l t + times q free ≤ 1) where
  -- these writes make a tree with the entry in it
  abbrev Makes : List Write → Type 0
  Makes writes = Made k memory free l t writes (inserted x v (entries_of l t))

  -- where the halves of page 0 go: the left one to the next free page,
  abbrev first_new : ℕ → ℕ
  first_new taken = lowest (drop taken free)

  -- the right one to the page behind it in the free list
  abbrev second_new : ℕ → ℕ
  second_new taken = lowest (drop (suc taken) free)

  -- one tree again: page 0 is still the root
  made_one : (taken : ℕ) (tree : Tr l) (writes : List Write)
      → page_number l tree ≡ page_number l t
      → Piece k memory x v free (root_least l) l (keyed 0 t) word_range taken (keyed 0 tree ∷ []) writes
      → Makes writes
  made_one taken tree writes e piece = record {
    height = l;
    tree = tree;
    root = e ∙ root;
    in_range = piece.span.1;
    entries = sym (append-nil (entries_of l tree)) ∙ piece.entries;
    more = λ q. let p = piece.pages q in omega arith;
    most = λ q. let p = piece.pages q in let c = times_cut q taken free in omega arith;
    inside = λ q. let i = piece.inside q in omega arith;
    fitting = piece.fitting;
    holds = λ M s same. (piece.holds M s same).0;
    keeps = λ q level a b z s. ⊎_elim (λ w. w) (λ w. absurd w) (piece.keeps q level a b z s);
  }

  -- page 0 splits: two new pages under it, and the tree is one level higher
  made_two : (taken : ℕ) (tree : Tr l) (writes : List Write)
      → 1 ≤ k
      → Change k memory x v free l t 0 word_range taken tree writes
      → suc taken < length free
      → (h : Halves k l tree 0 word_range (first_new taken) (second_new taken))
      → Makes
      (writes ++ write (first_new taken) (page_of l h.left) ∷ write (second_new taken) (page_of l h.right)
      ∷ write (page_number l t) (page_of (suc l) (over h.left h.between h.right)) ∷ [])
  made_two taken tree writes one change room h =
      let a : ℕ = first_new taken in
      let b : ℕ = second_new taken in
      let own : ℕ = page_number l t in
      let new : Tr (suc l) = over h.left h.between h.right in
      let three : List Write = write a (page_of l h.left) ∷ write b (page_of l h.right) ∷ write own (page_of (suc l) new) ∷ [] in
      let counted : (q : ℕ) → occurs q (suc l) new ≡ occurs q l tree + once q a + once q b
      = λ q.
      let o = h.occur q in
      let r : once q (page_number l tree) ≡ once q 0 = ap (once q) (change.root ∙ root) in
      omega arith in
      let taking : (q : ℕ) → times q (take (suc (suc taken)) free) ≡ times q (take taken free) + once q a + once q b
      = λ q. let f = taken_last q taken free (omega arith) in let g = taken_last q (suc taken) free room in omega arith in
      record {
        height = suc l;
        tree = new;
        root = refl;
        in_range = record {
          least = omega arith;
          most = omega arith;
          low = refl;
          children = (h.from, h.left_in, (h.to, h.right_in, tt));
        };
        entries =
            ap (λ (es : List Entry). entries_of l h.left ++ es) (append-nil (entries_of l h.right))
            ∙ h.entries
            ∙ change.entries;
        more = λ q. let c = counted q in let p = change.pages q in omega arith;
        most =
            λ q.
            let c = counted q in
            let p = change.pages q in
            let g = taking q in
            let cut = times_cut q (suc (suc taken)) free in
            omega arith;
        inside =
            λ q.
            let c = counted q in
            let i = change.inside q in
            let w = times_written q writes three in
            omega arith;
        fitting =
            fitting_append k writes three change.fitting (
              fits_page k l h.left (tree_most k k (2 * k) l h.left 0 h.between h.left_in),
              (
                fits_page k l h.right (tree_most k k (2 * k) l h.right h.between word_range h.right_in),
                (fits_page k (suc l) new (omega arith), tt),
              ),
            );
        holds =
            λ M s same.
            let parts = stores_right M writes three s in
            let under = h.below M
            (change.below M (stores_left M writes three s)
            (λ q z o.
            let w = times_written q writes three in
            let g = taking q in
            let cut = times_cut q (suc (suc taken)) free in
            let f = separate q in
            same q (omega arith) o)) in (
              ap M (sym root) ∙ parts.1.1.0,
              (
                holds_top M l h.left (ap M h.left_at ∙ parts.0) under.0,
                (holds_top M l h.right (ap M h.right_at ∙ parts.1.0) under.1, tt),
              ),
            );
        keeps =
            λ q level c d z s.
            let w = times_written q writes three in
            let r : once q (page_number l tree) ≡ once q own = ap (once q) change.root in
            let was = change.keeps q level c d (omega arith) s in
            inr (⊎_elim (λ u. inl u) (λ u. inr (inl u)) (h.stands q level c d (omega arith) was));
      }

  -- the rule's writes at page 0, where it splits
  raised_writes : (taken : ℕ) (tree : Tr l) (h : Halves k l tree 0 word_range (first_new taken) (second_new taken))
      → 2 * k < μ (page_of l tree)
      → settled k memory x (drop taken free) [] (page_number l t) (page_of l tree)
      ≡ write (first_new taken) (page_of l h.left) ∷ write (second_new taken) (page_of l h.right)
      ∷ write (page_number l t) (page_of (suc l) (over h.left h.between h.right)) ∷ []
  raised_writes taken tree h big =
      let a : ℕ = first_new taken in
      let b : ℕ = second_new taken in
      let next : drop 1 (drop taken free) ≡ drop (suc taken) free
      = drop-drop 1 taken free ∙ ap (λ (i : ℕ). drop i free) (add-one taken) in
      settled_raises k memory x (drop taken free) (page_number l t) (page_of l tree) big
      ∙ ap₂ (λ (rest : List ℕ) (S : Parted). write a S.left ∷ write (lowest rest) S.right
      ∷ write (page_number l t) (raised (page_of l tree) a S.between (lowest rest)) ∷ [])
      next h.pages
      ∙ ap (λ (P : Page). write a (page_of l h.left) ∷ write b (page_of l h.right) ∷ write (page_number l t) P ∷ [])
      (row_page_raised l (page_number l) (page_of l tree) (keyed 0 h.left) (keyed h.between h.right) a h.between b
      (page_of_level l tree ∙ add-one l) h.left_at refl h.right_at)

  -- they make a tree one level higher
  made_raised : (taken : ℕ) (tree : Tr l) (writes : List Write)
      → 1 ≤ k
      → Change k memory x v free l t 0 word_range taken tree writes
      → suc taken < length free
      → 2 * k < μ (page_of l tree)
      → Halves k l tree 0 word_range (first_new taken) (second_new taken)
      → Makes (writes ++ settled k memory x (drop taken free) [] (page_number l t) (page_of l tree))
  made_raised taken tree writes one change room big h =
      subst (λ (W : List Write). Makes (writes ++ W)) (sym (raised_writes taken tree h big))
      (made_two taken tree writes one change room h)

  -- page 0 is written with one pair more
  made_written : (taken : ℕ) (tree : Tr l) (writes : List Write)
      → 0 < word_range
      → Holds memory l t
      → Change k memory x v free l t 0 word_range taken tree writes
      → InRange k (root_least l) (2 * k) l tree 0 word_range
      → μ (page_of l tree) ≤ 2 * k
      → Makes (writes ++ settled k memory x (drop taken free) [] (page_number l t) (page_of l tree))
  made_written taken tree writes some held change r fits =
      subst (λ (W : List Write). Makes (writes ++ W))
      (sym (settled_fits k memory x (drop taken free) [] (page_number l t) (page_of l tree) fits))
      (made_one taken tree (writes ++ write (page_number l t) (page_of l tree) ∷ []) change.root
      (piece_written k memory x v free (root_least l) l (keyed 0 t) word_range some held separate taken tree writes change r))

  -- the whole change at the root, by what has come of the tree below page 0
  made : 1 ≤ k
      → x < word_range
      → InRange k (root_least l) (2 * k) l t 0 word_range
      → Holds memory l t
      → tree_room k x l t ≤ length free
      → Grown k memory x v free (root_least l) l t 0 word_range
      → Makes (begun k memory x v free (way x l t ++ []))
  made one small r held enough g =
      let taken : ℕ = g.taken in
      let tree : Tr l = g.tree in
      ⊎_elim
      (λ o. subst Makes (sym (o.whole []))
      (made_one taken tree g.writes g.change.root
      (piece_stopped k memory x v free (root_least l) l (keyed 0 t) word_range (omega arith) held separate
      taken tree g.writes g.change o)))
      (λ o. subst Makes (sym (o.whole []))
      (by_test (leb (μ (page_of l tree)) (2 * k))
      (λ b.
      let fits = leb-true (μ (page_of l tree)) (2 * k) b in
      made_written taken tree g.writes (omega arith) held g.change
      (tree_shrink k (root_least l) (2 * k + 1) (2 * k) l tree 0 word_range o.in_range fits) fits)
      (λ b.
      let big = leb-false (μ (page_of l tree)) (2 * k) b in
      let most = tree_most k (root_least l) (2 * k) l t 0 word_range r in
      let full = new_pages_full k (μ (page_of l t)) [] (omega (arith, o.more)) in
      let counted : new_pages k (fillings x l t) ≡ taken + new_pages k (μ (page_of l t) ∷ [])
      = sym (ap (new_pages k) (append-nil (fillings x l t))) ∙ o.room [] in
      made_raised taken tree g.writes one g.change (omega arith) big
      (halves k (root_least l) l tree 0 word_range (first_new taken) (second_new taken) one o.in_range big))))
      g.outcome

-- An insertion leads to a tree with the new entry, and writes the held pages and the first free ones.
pub insertion_leads : InsertionLeads
insertion_leads k n memory l t x v free leaf fathers one forms small new held f enough =
    let counted = room_tree k memory n l t x leaf fathers forms small held in
    let pages = held_pages k memory n l t x leaf fathers forms small held v free enough in
    let separate = apart n l t free f forms.different in
    let whole : new_pages k (fillings x l t ++ []) ≡ tree_room k x l t = ap (new_pages k) (append-nil (fillings x l t)) in
    let tree = grown k memory x v free (root_least l) l t 0 word_range [] one forms.in_range (omega arith) small new forms.holds
    separate (omega arith) in
    let change = made k memory x v free l t forms.root separate one small forms.in_range forms.holds (omega arith) tree in
    record {
      leads =
          subst (λ (W : List Write). Leads k n memory l t W (inserted x v (entries_of l t)))
          (held_rule k memory n l t x leaf fathers forms small held v free)
          (made_leads k n memory free l t (begun k memory x v free (way x l t ++ [])) (inserted x v (entries_of l t)) forms f change);
      writes =
          λ q m.
          let o = member_times q (written_pages (insertion k memory x v free leaf fathers)) m in
          let p = pages q in
          by_test (member q (leaf ∷ fathers))
          (λ b. inl b)
          (λ b. let none = absent_times q (leaf ∷ fathers) b in
          inr (times_member q (take (room k memory leaf (leaf ∷ fathers)) free) (omega arith)));
      rewrites =
          λ q m.
          let o = member_times q (leaf ∷ fathers) m in
          let p = pages q in
          times_member q (written_pages (insertion k memory x v free leaf fathers)) (omega arith);
      takes =
          λ q m.
          let o = member_times q (take (room k memory leaf (leaf ∷ fathers)) free) m in
          let p = pages q in
          times_member q (written_pages (insertion k memory x v free leaf fathers)) (omega arith);
    }

-- The count of room on the held pages is the number of new pages that the tree needs.
pub room_of_tree : RoomOfTree
room_of_tree k n memory l t x leaf fathers forms small held = room_tree k memory n l t x leaf fathers forms small held
