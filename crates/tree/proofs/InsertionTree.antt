-- A subtree into which an entry is inserted. The rule goes up from the leaf; at each level it has stopped further down, or
-- it has come to the subtree's own page, which now has one pair more and is still to be written or split.
use Prim.Native.Nat.{ℕ, zero, suc, ◌+◌, ◌*◌, ◌≤◌, ◌<◌}
use mathlib.Core.Bool.{false}
use mathlib.Core.List.{List, [], ◌∷◌, ◌++◌, append_assoc, append-nil}
use mathlib.Core.Logic.{◌⊎◌, inl, inr, ⊎_elim}
use mathlib.Core.Path.{◌≡◌, refl, sym, ap, ap₂, ◌∙◌, subst}
use native.Mathlib.Numerals.{add-one}
use native.Mathlib.Omega.{arith}
use borrow.Author.Tests.{leb-true, leb-false}
use lib.Dec.{leb}
use lib.ListN.{length, take, drop, length-append}
use lib.Seq.{drop-drop}
use Rattle.ground.proofs.Choice.{by_test}
use Rattle.page.specs.Words.{Keyed, Entry, Page, entry, μ, keyed}
use Rattle.page.specs.Place.{place, has}
use Rattle.page.specs.Splits.{Parted, put}
use Rattle.pool.specs.Pool.{Write, write}
use Rattle.change.specs.Insertion.{lowest, settled, insertion}
use Rattle.change.proofs.RuleLaws.{settled_fits, settled_splits}
use Rattle.tree.specs.Rows.{head_key, Span, Somewhere, Each, gathered, total}
use Rattle.tree.specs.Tree.{Leaf, Tr, page_number, page_of, entries_of, once, occurs, LeafIn, NodeIn, InRange, Holds, HoldsBelow, Stands, way, node, ChildIn}
use Rattle.tree.specs.Sorted.{inserted}
use Rattle.tree.specs.Change.{written_pages, Fitting}
use Rattle.tree.specs.Insertion.{fillings, new_pages}
use Rattle.tree.proofs.Rows.{head_key_append, span_replace, middle_rises, middle_has, middle_before, middle_after, spot, followed_spot, gathered_append, total_append, each_append, each_left, each_right, somewhere_left, somewhere_right, somewhere_cases}
use Rattle.tree.proofs.Sorted.{Within, within_gathered, has_parts, inserted_parts, within_inserted, length_inserted}
use Rattle.tree.proofs.Pages.{row_page_place, row_page_same, row_page_put, row_page_μ_around}
use Rattle.tree.proofs.Memory.{once_same, times, times_cut, times_written, Stores, stores_left, stores_right, fitting_append, fits_page, holds_top, top_holds, root_occurs, row_same, total_middle}
use Rattle.tree.proofs.InsertionWay.{new_pages_full, new_pages_space}
use Rattle.tree.proofs.Search.{within_entries}
use Rattle.tree.proofs.InsertionSplit.{Halves, halves}
use Rattle.tree.proofs.Ways.{row_μ}

-- the root page of a tree in range has no more than the range allows
pub tree_most : (k m M l : ℕ) (t : Tr l) (lo hi : ℕ) → InRange k m M l t lo hi → μ (page_of l t) ≤ M
tree_most k m M zero t lo hi r = r.most
tree_most k m M (suc l) t lo hi r = let n = row_μ (suc (suc l)) (page_number l) t.row (omega (arith, r.least)) in omega (arith, r.most)

-- and is in range with a smaller bound that its root page meets
pub tree_shrink : (k m M M' l : ℕ) (t : Tr l) (lo hi : ℕ) → InRange k m M l t lo hi → μ (page_of l t) ≤ M' → InRange k m M' l t lo hi
tree_shrink k m M M' zero t lo hi r h = record { least = r.least; most = h; low = r.low; rising = r.rising }
tree_shrink k m M M' (suc l) t lo hi r h =
    let n = row_μ (suc (suc l)) (page_number l) t.row (omega (arith, r.least)) in
    record { least = r.least; most = omega arith; low = r.low; children = r.children }

-- one page more taken from the front of a free list
pub taken_last : (q j : ℕ) (free : List ℕ)
    → j < length free → times q (take (suc j) free) ≡ times q (take j free) + once q (lowest (drop j free))
taken_last q j [] h = absurd (omega arith)
taken_last q zero (a ∷ rest) h = omega arith
taken_last q (suc j) (a ∷ rest) h = let ih = taken_last q j rest (omega arith) in omega arith

-- the rule, begun at the bottom of a way
abbrev pub begun : ℕ → (ℕ → Page) → ℕ → ℕ → List ℕ → List ℕ → List Write
begun k memory x v free [] = []
begun k memory x v free (leaf ∷ fathers) = insertion k memory x v free leaf fathers

module _ (k : ℕ) (memory : ℕ → Page) (x v : ℕ) (free : List ℕ) where
  -- ---- what has come of a tree

  -- What has come of the tree t, with its range, by these writes and with so many pages taken: it has the entry in it and
  -- the taken pages besides. Its own page is not written yet.
  pub record Change (l : ℕ) (t : Tr l) (lo hi taken : ℕ) (tree : Tr l) (writes : List Write) : Type 0 where
    pub root : page_number l tree ≡ page_number l t
    pub entries : entries_of l tree ≡ inserted x v (entries_of l t)
    pub pages : (q : ℕ) → occurs q l tree ≡ occurs q l t + times q (take taken free)
    -- the writes are of pages below the root, each once
    pub inside : (q : ℕ) → times q (written_pages writes) + once q (page_number l t) ≤ occurs q l tree
    pub fitting : Fitting k writes
    -- a memory that has the writes, and else is as it was, holds the tree below its root
    pub below : (M : ℕ → Page) → Stores M writes
        → ((q : ℕ) → times q (written_pages writes) + once q (page_number l t) ≡ 0 → 1 ≤ occurs q l t → M q ≡ memory q)
        → HoldsBelow M l tree
    -- every page that is not written keeps its level and range
    pub keeps : (q level a b : ℕ) → times q (written_pages writes) ≡ 0 → Stands l t lo hi q level a b → Stands l tree lo hi q level a b

  -- the rule has stopped further down, whatever stands above
  pub record Stopped (m l : ℕ) (t : Tr l) (lo hi taken : ℕ) (tree : Tr l) (writes : List Write) : Type 0 where
    pub whole : (up : List ℕ) → begun k memory x v free (way x l t ++ up) ≡ writes
    pub page : page_of l tree ≡ page_of l t
    pub in_range : InRange k m (2 * k) l tree lo hi
    pub room : (more : List ℕ) → new_pages k (fillings x l t ++ more) ≡ taken

  -- the rule has come to the tree's own page
  pub record Reached (m l : ℕ) (t : Tr l) (lo hi taken : ℕ) (tree : Tr l) (writes : List Write) : Type 0 where
    pub whole : (up : List ℕ)
        → begun k memory x v free (way x l t ++ up)
        ≡ writes ++ settled k memory x (drop taken free) up (page_number l t) (page_of l tree)
    pub more : μ (page_of l tree) ≡ suc (μ (page_of l t))
    pub in_range : InRange k m (2 * k + 1) l tree lo hi
    pub room : (more : List ℕ) → new_pages k (fillings x l t ++ more) ≡ taken + new_pages k (μ (page_of l t) ∷ more)

  -- a tree with the entry in it, and how far the rule has come
  pub record Grown (m l : ℕ) (t : Tr l) (lo hi : ℕ) : Type 0 where
    pub taken : ℕ
    pub tree : Tr l
    pub writes : List Write
    pub change : Change l t lo hi taken tree writes
    pub outcome : Stopped m l t lo hi taken tree writes ⊎ Reached m l t lo hi taken tree writes

  -- a leaf with the entry in it
  leaf_grown : (m : ℕ) (t : Leaf) (lo hi : ℕ)
      → LeafIn m (2 * k) t lo hi
      → lo ≤ x
      → x < hi
      → has x t.entries ≡ false
      → Holds memory zero t
      → Grown m zero t lo hi
  unfolding insertion put inserted
  leaf_grown m t lo hi r low high new held =
      let n = length_inserted x v t.entries in
      let within : Within lo (inserted x v t.entries) hi
      = within_inserted x v lo hi t.entries (r.low, r.rising) low high new in
      record {
        taken = 0;
        tree = record { at = t.at; entries = inserted x v t.entries };
        writes = [];
        change = record {
          root = refl;
          entries = refl;
          pages = λ q. omega arith;
          inside = λ q. omega arith;
          fitting = tt;
          below = λ M s same. tt;
          keeps = λ q level a b h s. s;
        };
        outcome = inr (record {
          whole = λ up. ap (λ (P : Page). settled k memory x free up t.at (put (place x P.entries) (entry x v) P)) held;
          more = n;
          in_range = record { least = omega (arith, r.least); most = omega (arith, r.most); low = within.0; rising = within.1 };
          room = λ more. omega arith;
        });
      }

  -- ---- one child of a row, replaced

  -- What stands in a row for the child d, whose range ends at b, after these writes: one child, or two, with at least m.
  pub record Piece (m l : ℕ) (d : Keyed (Tr l)) (b taken : ℕ) (row : List (Keyed (Tr l))) (writes : List Write) : Type 0 where
    pub starts : head_key row b ≡ d.key
    pub span : Span (InRange k m (2 * k) l) row b
    pub entries : gathered (entries_of l) row ≡ inserted x v (entries_of l d.value)
    pub pages : (q : ℕ) → total (occurs q l) row ≡ occurs q l d.value + times q (take taken free)
    pub inside : (q : ℕ) → times q (written_pages writes) ≤ total (occurs q l) row
    pub fitting : Fitting k writes
    pub holds : (M : ℕ → Page) → Stores M writes
        → ((q : ℕ) → times q (written_pages writes) ≡ 0 → 1 ≤ occurs q l d.value → M q ≡ memory q)
        → Each (Holds M l) row
    pub keeps : (q level a c : ℕ) → times q (written_pages writes) ≡ 0 → Stands l d.value d.key b q level a c
        → Somewhere (λ (t : Tr l) (lo hi : ℕ). Stands l t lo hi q level a c) row b

  -- A node at page p with the child d, to which x belongs.
  module _ (l p : ℕ) (xs : List (Keyed (Tr l))) (d : Keyed (Tr l)) (ys : List (Keyed (Tr l))) (hi : ℕ)
      (span : Span (ChildIn k l) (xs ++ d ∷ ys) hi) (from : d.key ≤ x) (to : x < head_key ys hi) where
    -- the entries before d's
    before_within : Within (head_key xs d.key) (gathered (entries_of l) xs) d.key
    before_within =
        within_gathered (ChildIn k l) (entries_of l) xs d.key (λ c a b h. within_entries k k (2 * k) l c a b)
        (middle_before (ChildIn k l) xs d ys hi span)

    -- the entries behind d's
    after_within : Within (head_key ys hi) (gathered (entries_of l) ys) hi
    after_within =
        within_gathered (ChildIn k l) (entries_of l) ys hi (λ c a b h. within_entries k k (2 * k) l c a b)
        (middle_after (ChildIn k l) xs d ys hi span)

    -- x is sought among d's entries
    node_has : has x (gathered (entries_of l) (xs ++ d ∷ ys)) ≡ has x (entries_of l d.value)
    node_has =
        ap (has x) (gathered_append (entries_of l) xs (d ∷ ys))
        ∙ has_parts x (head_key xs d.key) d.key (head_key ys hi) hi
        (gathered (entries_of l) xs) (entries_of l d.value) (gathered (entries_of l) ys)
        before_within after_within from to

    -- x's way goes through d
    node_way : (up : List ℕ) → way x (suc l) (node p (xs ++ d ∷ ys)) ++ up ≡ way x l d.value ++ p ∷ up
    node_way up =
        ap (λ (w : List ℕ). (w ++ p ∷ []) ++ up) (followed_spot (ChildIn k l) (way x l) [] x xs d ys hi span from to)
        ∙ append_assoc (way x l d.value) (p ∷ []) up

    -- and so the numbers on it
    node_fillings : (more : List ℕ) → fillings x (suc l) (node p (xs ++ d ∷ ys)) ++ more
        ≡ fillings x l d.value ++ μ (page_of (suc l) (node p (xs ++ d ∷ ys))) ∷ more
    node_fillings more =
        ap (λ (w : List ℕ). (w ++ μ (page_of (suc l) (node p (xs ++ d ∷ ys))) ∷ []) ++ more)
        (followed_spot (ChildIn k l) (fillings x l) [] x xs d ys hi span from to)
        ∙ append_assoc (fillings x l d.value) (μ (page_of (suc l) (node p (xs ++ d ∷ ys))) ∷ []) more

    -- the row with the piece in it
    module _ (taken : ℕ) (row : List (Keyed (Tr l))) (writes : List Write) (piece : Piece k l d (head_key ys hi) taken row writes)
        (apart : (q : ℕ) → occurs q (suc l) (node p (xs ++ d ∷ ys)) + times q free ≤ 1) where
      -- the children are in range again
      graft_span : Span (ChildIn k l) (xs ++ (row ++ ys)) hi
      graft_span = span_replace (ChildIn k l) xs (d ∷ []) row ys hi span piece.span piece.starts

      -- how often a page stands in the parts of the node
      counted : (q : ℕ) → occurs q (suc l) (node p (xs ++ d ∷ ys))
          ≡ once q p + (total (occurs q l) xs + (occurs q l d.value + total (occurs q l) ys))
      counted q = let sum = total_middle (occurs q l) xs d ys in omega arith

      -- and in those of the new node
      graft_counted : (q : ℕ) → occurs q (suc l) (node p (xs ++ (row ++ ys)))
          ≡ once q p + (total (occurs q l) xs + (total (occurs q l) row + total (occurs q l) ys))
      graft_counted q =
          let outer = total_append (occurs q l) xs (row ++ ys) in
          let inner = total_append (occurs q l) row ys in
          omega arith

      -- no page of another child is written
      elsewhere : (q : ℕ) → 1 ≤ total (occurs q l) xs + total (occurs q l) ys → times q (written_pages writes) + once q p ≡ 0
      elsewhere q o =
          let c = counted q in
          let a = apart q in
          let i = piece.inside q in
          let g = piece.pages q in
          let t = times_cut q taken free in
          omega arith

      -- the entry goes among d's entries
      graft_entries : gathered (entries_of l) (xs ++ (row ++ ys)) ≡ inserted x v (gathered (entries_of l) (xs ++ d ∷ ys))
      graft_entries =
          let f : Tr l → List Entry = entries_of l in
          gathered_append f xs (row ++ ys)
          ∙ ap (λ (es : List Entry). gathered f xs ++ es)
          (gathered_append f row ys ∙ ap (λ (es : List Entry). es ++ gathered f ys) piece.entries)
          ∙ sym
          (inserted_parts x (head_key xs d.key) d.key (head_key ys hi) hi (gathered f xs) (f d.value) (gathered f ys)
          before_within after_within from to v)
          ∙ sym (ap (inserted x v) (gathered_append f xs (d ∷ ys)))

      -- the piece holds by its writes, and the other children as they did
      graft_below : (M : ℕ → Page) → Each (Holds memory l) (xs ++ d ∷ ys) → Stores M writes
          → ((q : ℕ) → times q (written_pages writes) + once q p ≡ 0 → 1 ≤ occurs q (suc l) (node p (xs ++ d ∷ ys)) → M q ≡ memory q)
          → Each (Holds M l) (xs ++ (row ++ ys))
      graft_below M held s same =
          let old = each_right (Holds memory l) xs (d ∷ ys) held in
          each_append (Holds M l) xs (row ++ ys)
          (row_same memory M l xs (λ q o. let c = counted q in same q (elsewhere q (omega arith)) (omega arith))
          (each_left (Holds memory l) xs (d ∷ ys) held))
          (each_append (Holds M l) row ys
          (piece.holds M s (λ q z o. let c = counted q in let a = apart q in same q (omega arith) (omega arith)))
          (row_same memory M l ys (λ q o. let c = counted q in same q (elsewhere q (omega arith)) (omega arith)) old.1))

      -- what stands before d and behind it stands where it stood
      graft_keeps : (lo q level a b : ℕ) → times q (written_pages writes) ≡ 0
          → Stands (suc l) (node p (xs ++ d ∷ ys)) lo hi q level a b → Stands (suc l) (node p (xs ++ (row ++ ys))) lo hi q level a b
      graft_keeps lo q level a b z (inl s) = inl s
      graft_keeps lo q level a b z (inr s) =
          let Q : Tr l → ℕ → ℕ → Type 0 = λ (t : Tr l) (lo' hi' : ℕ). Stands l t lo' hi' q level a b in
          let start : d.key ≡ head_key (row ++ ys) hi = sym (head_key_append row ys hi ∙ piece.starts) in
          inr (⊎_elim
          (λ w. somewhere_left Q xs (row ++ ys) hi (subst (λ (n : ℕ). Somewhere Q xs n) start w))
          (λ w. somewhere_right Q xs (row ++ ys) hi
          (⊎_elim
          (λ here. somewhere_left Q row ys hi (piece.keeps q level a b z here))
          (λ there. somewhere_right Q row ys hi there)
          w))
          (somewhere_cases Q xs (d ∷ ys) hi s))

      -- the node with the piece in it
      graft : (lo : ℕ) → Each (Holds memory l) (xs ++ d ∷ ys)
          → Change (suc l) (node p (xs ++ d ∷ ys)) lo hi taken (node p (xs ++ (row ++ ys))) writes
      graft lo held = record {
        root = refl;
        entries = graft_entries;
        pages = λ q. let g = piece.pages q in let c = counted q in let d = graft_counted q in omega arith;
        inside = λ q. let i = piece.inside q in let d = graft_counted q in omega arith;
        fitting = piece.fitting;
        below = λ M s same. graft_below M held s same;
        keeps = graft_keeps lo;
      }

  -- What a change of the child d makes of it in the row.
  module _ (m l : ℕ) (d : Keyed (Tr l)) (b : ℕ) (rises : d.key < b) (held : Holds memory l d.value)
      (apart : (q : ℕ) → occurs q l d.value + times q free ≤ 1)
      (taken : ℕ) (tree : Tr l) (writes : List Write) (change : Change l d.value d.key b taken tree writes) where
    -- one child again, after writes W that may hold the child's own page besides
    piece_one : (W : List Write)
        → InRange k m (2 * k) l tree d.key b
        → Fitting k W
        → ((q : ℕ) → times q (written_pages writes) ≤ times q (written_pages W))
        → ((q : ℕ) → times q (written_pages W) ≤ times q (written_pages writes) + once q (page_number l d.value))
        → ((M : ℕ → Page) → Stores M W → Stores M writes)
        → ((M : ℕ → Page)
        → Stores M W
        → ((q : ℕ) → times q (written_pages W) ≡ 0 → 1 ≤ occurs q l d.value → M q ≡ memory q)
        → M (page_number l d.value) ≡ page_of l tree)
        → Piece m l d b taken (keyed d.key tree ∷ []) W
    piece_one W r f least most sub own = record {
      starts = refl;
      span = (rises, r, tt);
      entries = append-nil (entries_of l tree) ∙ change.entries;
      pages = λ q. let p = change.pages q in omega arith;
      inside = λ q. let i = change.inside q in let m = most q in omega arith;
      fitting = f;
      holds =
          λ M s same. (
            holds_top M l tree (ap M change.root ∙ own M s same)
                (change.below M (sub M s) (λ q z o. let m = most q in same q (omega arith) o)),
            tt,
          );
      keeps = λ q level a c z s. let m = least q in inl (change.keeps q level a c (omega arith) s);
    }

    -- the rule has stopped below the child: its page is as it was
    pub piece_stopped : Stopped m l d.value d.key b taken tree writes → Piece m l d b taken (keyed d.key tree ∷ []) writes
    piece_stopped o =
        let own : ℕ = page_number l d.value in
        piece_one writes o.in_range change.fitting (λ q. omega arith) (λ q. omega arith) (λ M s. s)
        (λ M s same.
        let one = once_same own own refl in
        let root = root_occurs own l d.value in
        let i = change.inside own in
        let p = change.pages own in
        let a = apart own in
        let c = times_cut own taken free in
        same own (omega arith) (omega arith) ∙ top_holds memory l d.value held ∙ sym o.page)

    -- the child's page is written with one pair more
    pub piece_written : InRange k m (2 * k) l tree d.key b
        → Piece m l d b taken (keyed d.key tree ∷ []) (writes ++ write (page_number l d.value) (page_of l tree) ∷ [])
    piece_written r =
        let own : List Write = write (page_number l d.value) (page_of l tree) ∷ [] in
        piece_one (writes ++ own) r
        (fitting_append k writes own change.fitting (fits_page k l tree (tree_most k m (2 * k) l tree d.key b r), tt))
        (λ q. let t = times_written q writes own in omega arith)
        (λ q. let t = times_written q writes own in omega arith)
        (λ M s. stores_left M writes own s)
        (λ M s same. (stores_right M writes own s).0)

    -- the child is split: two children
    piece_two : taken < length free
        → (h : Halves k l tree d.key b (page_number l d.value) (lowest (drop taken free)))
        → Piece k l d b (suc taken) (keyed d.key h.left ∷ keyed h.between h.right ∷ [])
        (writes ++ write (lowest (drop taken free)) (page_of l h.right) ∷ write (page_number l d.value) (page_of l h.left) ∷ [])
    piece_two room h =
        let a : ℕ = lowest (drop taken free) in
        let own : ℕ = page_number l d.value in
        let two : List Write = write a (page_of l h.right) ∷ write own (page_of l h.left) ∷ [] in
        record {
          starts = refl;
          span = (h.from, h.left_in, (h.to, h.right_in, tt));
          entries =
              ap (λ (es : List Entry). entries_of l h.left ++ es) (append-nil (entries_of l h.right))
              ∙ h.entries
              ∙ change.entries;
          pages =
              λ q.
              let o = h.occur q in
              let r : once q (page_number l tree) ≡ once q own = ap (once q) change.root in
              let p = change.pages q in
              let t = taken_last q taken free room in
              omega arith;
          inside =
              λ q.
              let o = h.occur q in
              let r : once q (page_number l tree) ≡ once q own = ap (once q) change.root in
              let i = change.inside q in
              let t = times_written q writes two in
              omega arith;
          fitting =
              fitting_append k writes two change.fitting (
                fits_page k l h.right (tree_most k k (2 * k) l h.right h.between b h.right_in),
                (fits_page k l h.left (tree_most k k (2 * k) l h.left d.key h.between h.left_in), tt),
              );
          holds =
              λ M s same.
              let new = stores_right M writes two s in
              let under = h.below M
              (change.below M (stores_left M writes two s)
              (λ q z o.
              let t = times_written q writes two in
              let c = times_cut q (suc taken) free in
              let n = taken_last q taken free room in
              let f = apart q in
              same q (omega arith) o)) in (
                holds_top M l h.left (ap M h.left_at ∙ new.1.0) under.0,
                (holds_top M l h.right (ap M h.right_at ∙ new.0) under.1, tt),
              );
          keeps =
              λ q level c e z s.
              let t = times_written q writes two in
              let r : once q (page_number l tree) ≡ once q own = ap (once q) change.root in
              ⊎_elim (λ w. inl w) (λ w. inr (inl w)) (h.stands q level c e (omega arith) (change.keeps q level c e (omega arith) s));
        }

  -- ---- a node, by its child on x's way

  -- A node at page p with the child d, to which x belongs, after what has come of d.
  module _ (one : 1 ≤ k) (m l p : ℕ) (xs : List (Keyed (Tr l))) (d : Keyed (Tr l)) (ys : List (Keyed (Tr l))) (lo hi : ℕ)
      (r : NodeIn (ChildIn k l) m (2 * k) (node p (xs ++ d ∷ ys)) lo hi) (from : d.key ≤ x) (to : x < head_key ys hi)
      (held : Holds memory (suc l) (node p (xs ++ d ∷ ys)))
      (apart : (q : ℕ) → occurs q (suc l) (node p (xs ++ d ∷ ys)) + times q free ≤ 1) where
    -- the child's range is not empty,
    child_rises : d.key < head_key ys hi
    child_rises = middle_rises (ChildIn k l) xs d ys hi r.children

    -- the memory holds the child,
    child_held : Holds memory l d.value
    child_held = (each_right (Holds memory l) xs (d ∷ ys) held.1).0

    -- and no free page is one of its pages
    child_apart : (q : ℕ) → occurs q l d.value + times q free ≤ 1
    child_apart q = let a = apart q in let c = total_middle (occurs q l) xs d ys in omega arith

    -- the node with one child for one is in range,
    same_range : (taken : ℕ) (tree : Tr l) (writes : List Write) → Piece k l d (head_key ys hi) taken (keyed d.key tree ∷ []) writes
        → InRange k m (2 * k) (suc l) (node p (xs ++ keyed d.key tree ∷ ys)) lo hi
    same_range taken tree writes piece =
        let new : Keyed (Tr l) = keyed d.key tree in
        let n = length-append xs (d ∷ ys) in
        let n' = length-append xs (new ∷ ys) in
        record {
          least = omega (arith, r.least);
          most = omega (arith, r.most);
          low = head_key_append xs (new ∷ ys) hi ∙ sym (head_key_append xs (d ∷ ys) hi) ∙ r.low;
          children = graft_span l p xs d ys hi r.children from to taken (new ∷ []) writes piece apart;
        }

    -- and its page is as it was
    same_page : (tree : Tr l) → page_number l tree ≡ page_number l d.value
        → page_of (suc l) (node p (xs ++ keyed d.key tree ∷ ys)) ≡ page_of (suc l) (node p (xs ++ d ∷ ys))
    same_page tree e = row_page_same (suc (suc l)) (page_number l) xs d (keyed d.key tree) ys refl e

    -- the rule has stopped below the child
    node_stopped : (taken : ℕ) (tree : Tr l) (writes : List Write)
        → Change l d.value d.key (head_key ys hi) taken tree writes
        → Stopped k l d.value d.key (head_key ys hi) taken tree writes
        → Grown m (suc l) (node p (xs ++ d ∷ ys)) lo hi
    node_stopped taken tree writes change o =
        let new : Keyed (Tr l) = keyed d.key tree in
        let piece = piece_stopped k l d (head_key ys hi) child_rises child_held child_apart taken tree writes change o in
        record {
          taken = taken;
          tree = node p (xs ++ new ∷ ys);
          writes = writes;
          change = graft l p xs d ys hi r.children from to taken (new ∷ []) writes piece apart lo held.1;
          outcome = inl (record {
            whole = λ up. ap (begun k memory x v free) (node_way l p xs d ys hi r.children from to up) ∙ o.whole (p ∷ up);
            page = same_page tree change.root;
            in_range = same_range taken tree writes piece;
            room = λ more. ap (new_pages k) (node_fillings l p xs d ys hi r.children from to more) ∙ o.room _;
          });
        }

    -- the rule writes the child's page and stops
    node_written : (taken : ℕ) (tree : Tr l) (writes : List Write)
        → Change l d.value d.key (head_key ys hi) taken tree writes
        → Reached k l d.value d.key (head_key ys hi) taken tree writes
        → μ (page_of l tree) ≤ 2 * k
        → Grown m (suc l) (node p (xs ++ d ∷ ys)) lo hi
    node_written taken tree writes change o fits =
        let new : Keyed (Tr l) = keyed d.key tree in
        let own : List Write = write (page_number l d.value) (page_of l tree) ∷ [] in
        let piece = piece_written k l d (head_key ys hi) child_rises child_held child_apart taken tree writes change
        (tree_shrink k k (2 * k + 1) (2 * k) l tree d.key (head_key ys hi) o.in_range fits) in
        record {
          taken = taken;
          tree = node p (xs ++ new ∷ ys);
          writes = writes ++ own;
          change = graft l p xs d ys hi r.children from to taken (new ∷ []) (writes ++ own) piece apart lo held.1;
          outcome = inl (record {
            whole =
                λ up.
                ap (begun k memory x v free) (node_way l p xs d ys hi r.children from to up)
                ∙ o.whole (p ∷ up)
                ∙ ap (λ (W : List Write). writes ++ W)
                (settled_fits k memory x (drop taken free) (p ∷ up) (page_number l d.value) (page_of l tree) fits);
            page = same_page tree change.root;
            in_range = same_range taken tree (writes ++ own) piece;
            room =
                λ more.
                ap (new_pages k) (node_fillings l p xs d ys hi r.children from to more)
                ∙ o.room _
                ∙ (let none = new_pages_space k (μ (page_of l d.value)) (μ (page_of (suc l) (node p (xs ++ d ∷ ys))) ∷ more)
                (omega (arith, o.more)) in omega arith);
          });
        }

    -- the child that takes no more is full
    child_full : (taken : ℕ) (tree : Tr l) (writes : List Write) → Reached k l d.value d.key (head_key ys hi) taken tree writes
        → 2 * k < μ (page_of l tree) → μ (page_of l d.value) ≡ 2 * k
    child_full taken tree writes o big =
        let most = tree_most k k (2 * k) l d.value d.key (head_key ys hi) (middle_has (ChildIn k l) xs d ys hi r.children) in
        omega (arith, o.more)

    -- the pages taken, counted with the child's split
    split_room : (taken : ℕ) (tree : Tr l) (writes : List Write) → Reached k l d.value d.key (head_key ys hi) taken tree writes
        → 2 * k < μ (page_of l tree)
        → (more : List ℕ)
        → new_pages k (fillings x (suc l) (node p (xs ++ d ∷ ys)) ++ more)
        ≡ suc taken + new_pages k (μ (page_of (suc l) (node p (xs ++ d ∷ ys))) ∷ more)
    split_room taken tree writes o big more =
        ap (new_pages k) (node_fillings l p xs d ys hi r.children from to more)
        ∙ o.room _
        ∙ (let full = new_pages_full k (μ (page_of l d.value)) (μ (page_of (suc l) (node p (xs ++ d ∷ ys))) ∷ more)
        (child_full taken tree writes o big) in omega arith)

    -- the node's page as the rule puts the new child in
    split_page : (a : ℕ) (left right : Tr l) (key : ℕ) → page_number l left ≡ page_number l d.value → page_number l right ≡ a
        → put (place x (memory p).entries) (entry key a) (memory p)
        ≡ page_of (suc l) (node p (xs ++ keyed d.key left ∷ keyed key right ∷ ys))
    split_page a left right key e f =
        ap (λ (F : Page). put (place x F.entries) (entry key a) F) held.0
        ∙ ap (λ (i : ℕ). put i (entry key a) (page_of (suc l) (node p (xs ++ d ∷ ys))))
        (row_page_place (ChildIn k l) (suc (suc l)) (page_number l) xs d ys hi x r.children from to)
        ∙ row_page_put (suc (suc l)) (page_number l) xs d (keyed d.key left) (keyed key right) ys key a refl e refl f

    -- the rule splits the child and comes to the node's page
    node_split : (taken : ℕ) (tree : Tr l) (writes : List Write)
        → Change l d.value d.key (head_key ys hi) taken tree writes
        → Reached k l d.value d.key (head_key ys hi) taken tree writes
        → 2 * k < μ (page_of l tree)
        → (more : List ℕ)
        → new_pages k (fillings x (suc l) (node p (xs ++ d ∷ ys)) ++ more) ≤ length free
        → Grown m (suc l) (node p (xs ++ d ∷ ys)) lo hi
    node_split taken tree writes change o big more enough =
        let a : ℕ = lowest (drop taken free) in
        let own : ℕ = page_number l d.value in
        let counted = split_room taken tree writes o big more in
        let room : taken < length free = omega arith in
        let h = halves k k l tree d.key (head_key ys hi) own a one o.in_range big in
        let left : Keyed (Tr l) = keyed d.key h.left in
        let right : Keyed (Tr l) = keyed h.between h.right in
        let two : List Write = write a (page_of l h.right) ∷ write own (page_of l h.left) ∷ [] in
        let piece = piece_two k l d (head_key ys hi) child_rises child_held child_apart taken tree writes change room h in
        let n = length-append xs (d ∷ ys) in
        let n' = length-append xs (left ∷ right ∷ ys) in
        let next : drop 1 (drop taken free) ≡ drop (suc taken) free
        = drop-drop 1 taken free ∙ ap (λ (i : ℕ). drop i free) (add-one taken) in
        record {
          taken = suc taken;
          tree = node p (xs ++ left ∷ right ∷ ys);
          writes = writes ++ two;
          change = graft l p xs d ys hi r.children from to (suc taken) (left ∷ right ∷ []) (writes ++ two) piece apart lo held.1;
          outcome = inr (record {
            whole =
                λ up.
                ap (begun k memory x v free) (node_way l p xs d ys hi r.children from to up)
                ∙ o.whole (p ∷ up)
                ∙ ap (λ (W : List Write). writes ++ W) (settled_splits k memory x (drop taken free) p up own (page_of l tree) big)
                ∙ ap (λ (S : Parted). writes ++ write a S.right ∷ write own S.left
                ∷ settled k memory x (drop 1 (drop taken free)) up p
                (put (place x (memory p).entries) (entry S.between a) (memory p)))
                h.pages
                ∙ ap₂ (λ (rest : List ℕ) (P : Page). writes ++ write a (page_of l h.right) ∷ write own (page_of l h.left)
                ∷ settled k memory x rest up p P)
                next (split_page a h.left h.right h.between h.left_at h.right_at)
                ∙ sym
                (append_assoc writes two
                (settled k memory x (drop (suc taken) free) up p (page_of (suc l) (node p (xs ++ left ∷ right ∷ ys)))));
            more =
                let before = row_page_μ_around (suc (suc l)) (page_number l) xs d ys in
                let after = row_page_μ_around (suc (suc l)) (page_number l) xs left (right ∷ ys) in
                omega arith;
            in_range = record {
              least = omega (arith, r.least);
              most = omega (arith, r.most);
              low = head_key_append xs (left ∷ right ∷ ys) hi ∙ sym (head_key_append xs (d ∷ ys) hi) ∙ r.low;
              children = graft_span l p xs d ys hi r.children from to (suc taken) (left ∷ right ∷ []) (writes ++ two) piece apart;
            };
            room = split_room taken tree writes o big;
          });
        }

    -- the node, by what has come of its child
    node_grown : (more : List ℕ) → new_pages k (fillings x (suc l) (node p (xs ++ d ∷ ys)) ++ more) ≤ length free
        → Grown k l d.value d.key (head_key ys hi) → Grown m (suc l) (node p (xs ++ d ∷ ys)) lo hi
    node_grown more enough g =
        ⊎_elim
        (λ o. node_stopped g.taken g.tree g.writes g.change o)
        (λ o.
        by_test (leb (μ (page_of l g.tree)) (2 * k))
        (λ t. node_written g.taken g.tree g.writes g.change o (leb-true (μ (page_of l g.tree)) (2 * k) t))
        (λ t. node_split g.taken g.tree g.writes g.change o (leb-false (μ (page_of l g.tree)) (2 * k) t) more enough))
        g.outcome

  -- A tree in which x is not yet, with free pages enough: by its child on x's way, and so down to the leaf.
  pub grown : (m l : ℕ) (t : Tr l) (lo hi : ℕ) (more : List ℕ)
      → 1 ≤ k
      → InRange k m (2 * k) l t lo hi
      → lo ≤ x
      → x < hi
      → has x (entries_of l t) ≡ false
      → Holds memory l t
      → ((q : ℕ) → occurs q l t + times q free ≤ 1)
      → new_pages k (fillings x l t ++ more) ≤ length free
      → Grown m l t lo hi
  grown m zero t lo hi more one r low high new held apart enough = leaf_grown m t lo hi r low high new held
  grown m (suc l) t lo hi more one r low high new held apart enough =
      let s = spot (ChildIn k l) x t.row hi r.children (omega (arith, r.low)) high in
      let xs : List (Keyed (Tr l)) = s.before in
      let d : Keyed (Tr l) = s.here in
      let ys : List (Keyed (Tr l)) = s.after in
      let R : NodeIn (ChildIn k l) m (2 * k) (node t.at (xs ++ d ∷ ys)) lo hi
      = subst (λ (row : List (Keyed (Tr l))). NodeIn (ChildIn k l) m (2 * k) (node t.at row) lo hi) s.whole r in
      let H : Holds memory (suc l) (node t.at (xs ++ d ∷ ys))
      = subst (λ (row : List (Keyed (Tr l))). Holds memory (suc l) (node t.at row)) s.whole held in
      let A : (q : ℕ) → occurs q (suc l) (node t.at (xs ++ d ∷ ys)) + times q free ≤ 1
      = subst (λ (row : List (Keyed (Tr l))). (q : ℕ) → occurs q (suc l) (node t.at row) + times q free ≤ 1) s.whole apart in
      let E : new_pages k (fillings x (suc l) (node t.at (xs ++ d ∷ ys)) ++ more) ≤ length free
      = subst (λ (row : List (Keyed (Tr l))). new_pages k (fillings x (suc l) (node t.at row) ++ more) ≤ length free) s.whole enough in
      let N : has x (gathered (entries_of l) (xs ++ d ∷ ys)) ≡ false
      = subst (λ (row : List (Keyed (Tr l))). has x (gathered (entries_of l) row) ≡ false) s.whole new in
      subst (λ (row : List (Keyed (Tr l))). Grown m (suc l) (node t.at row) lo hi) (sym s.whole)
      (node_grown one m l t.at xs d ys lo hi R s.from s.to H A more E
      (grown k l d.value d.key (head_key ys hi) (μ (page_of (suc l) (node t.at (xs ++ d ∷ ys))) ∷ more) one
      (middle_has (ChildIn k l) xs d ys hi R.children)
      s.from
      s.to
      (sym (node_has l t.at xs d ys hi R.children s.from s.to) ∙ N)
      (child_held one m l t.at xs d ys lo hi R s.from s.to H A)
      (child_apart one m l t.at xs d ys lo hi R s.from s.to H A)
      (subst (λ (ns : List ℕ). new_pages k ns ≤ length free) (node_fillings l t.at xs d ys hi R.children s.from s.to more) E)))
