-- A deletion in a tree, from the leaf upward: what becomes of each page on the key's way, level by level.
use Prim.Native.Nat.{ℕ, zero, suc, ◌*◌, ◌≤◌, ◌<◌}
use native.Mathlib.Omega.{arith}
use mathlib.Core.Bool.{true, false, ◌&&◌}
use mathlib.Core.List.{List, [], ◌∷◌, ◌++◌, append_assoc}
use mathlib.Core.Logic.{◌⊎◌, inl, inr}
use mathlib.Core.Path.{◌≡◌, refl, sym, ap, ◌∙◌, subst}
use borrow.Author.Tests.{ne_eqb}
use lib.Dec.{eqb}
use lib.Seq.{append_snoc}
use Rattle.ground.specs.Limits.{word_range}
use Rattle.ground.proofs.Bools.{and_first_fails}
use Rattle.ground.proofs.Choice.{cond-false}
use Rattle.page.specs.Words.{Keyed, Entry, Page, μ, free_page, keyed}
use Rattle.page.specs.Place.{has, without}
use Rattle.page.specs.Splits.{with_entries}
use Rattle.pool.specs.Pool.{Write, write}
use Rattle.change.specs.Deletion.{Need, nothing, astray, needs, shrunk, deletion}
use Rattle.tree.specs.Rows.{head_key, Span, gathered}
use Rattle.tree.specs.Tree.{Tr, page_number, entries_of, occurs, InRange, root_least, Holds, way, Forms, ChildIn}
use Rattle.tree.proofs.Rows.{spot, followed_spot, total_append, gathered_append}
use Rattle.page.proofs.PlaceLaws.{length_without}
use Rattle.tree.proofs.Sorted.{within_without, has_parts}
use Rattle.tree.proofs.Memory.{once_same, root_occurs}
use Rattle.tree.proofs.Mend.{tree_at, page_in, Run, occurs_in, run_left, run_right, run_within}
use Rattle.tree.proofs.MendPatch.{Patch}
use Rattle.tree.proofs.MendShort.{page_written, page_kept}
use Rattle.tree.proofs.DeletionStep.{Settled, Reached, Joined, Step, stays, evens, joins, Row, child_range, child_held, child_different, child_step}

-- the rule on a path that is given as one list, from the leaf upward
abbrev pub asks_on : ℕ → (ℕ → Page) → ℕ → List ℕ → List ℕ → Need
asks_on k memory x [] siblings = astray
asks_on k memory x (leaf ∷ fathers) siblings = needs k memory x leaf fathers siblings

abbrev pub changes_on : ℕ → (ℕ → Page) → ℕ → List ℕ → List ℕ → List Write
changes_on k memory x [] siblings = []
changes_on k memory x (leaf ∷ fathers) siblings = deletion k memory x leaf fathers siblings

-- A tree in a memory, with a key that stands in it.
pub record Given (k : ℕ) (memory : ℕ → Page) (x m l : ℕ) (t : Tr l) (lo hi : ℕ) : Type 0 where
  pub range : InRange k m (2 * k) l t lo hi
  pub from : lo ≤ x
  pub to : x < hi
  pub there : has x (entries_of l t) ≡ true
  pub held : Holds memory l t
  pub different : (q : ℕ) → occurs q l t ≤ 1

-- the whole tree
pub forms_given : (k n : ℕ) (memory : ℕ → Page) (x l : ℕ) (t : Tr l) → Forms k n memory l t → x < word_range → has x (entries_of l t) ≡ true
    → Given k memory x (root_least l) l t 0 word_range
forms_given k n memory x l t forms word there =
    record {
      range = forms.in_range;
      from = omega arith;
      to = word;
      there = there;
      held = forms.holds;
      different = forms.different;
    }

module _ (k : ℕ) (memory : ℕ → Page) (x : ℕ) where
  -- ---- the leaf

  leaf_patch : (es : List Entry) (lo hi : ℕ) → Run k zero es lo hi → Patch k memory x zero es (without x es) lo hi []
  leaf_patch es lo hi r =
      record {
        runs = within_without x lo hi es r;
        entries = refl;
        fewer = λ q. omega arith;
        gone = λ M s q o n. absurd (omega arith);
        holds = λ M s u. tt;
        writes = λ q. omega arith;
        fitting = tt;
        keeps = λ q level a b u s. s;
      }

  pub leaf_reached : (m : ℕ) (t : Tr zero) (lo hi : ℕ) → Given k memory x m zero t lo hi → (up siblings : List ℕ)
      → asks_on k memory x (way x zero t ++ up) siblings ≡ nothing
      → Reached k memory x zero t lo hi up (changes_on k memory x (way x zero t ++ up) siblings)
  unfolding deletion
  leaf_reached m t lo hi g up siblings asks =
      record {
        new = without x t.entries;
        shorter = length_without x t.entries g.there;
        below = [];
        patch = leaf_patch t.entries lo hi (g.range.low, g.range.rising);
        rest = siblings;
        rule = ap (λ (Q : Page). shrunk k memory x up siblings t.at (with_entries Q (without x Q.entries))) g.held;
        asks = asks;
      }

  -- ---- an upper page

  -- the way through a page is the way through the child to which x belongs, and the page
  pub node_way : (l n : ℕ) (xs : List (Keyed (Tr l))) (c : Keyed (Tr l)) (ys : List (Keyed (Tr l))) (hi : ℕ)
      → Span (ChildIn k l) (xs ++ c ∷ ys) hi → c.key ≤ x → x < head_key ys hi
      → way x (suc l) (tree_at (suc l) n (xs ++ c ∷ ys)) ≡ way x l c.value ++ n ∷ []
  node_way l n xs c ys hi s from to = ap (λ (w : List ℕ). w ++ n ∷ []) (followed_spot (ChildIn k l) (way x l) [] x xs c ys hi s from to)

  -- and so with the pages above it
  pub way_through : (l n : ℕ) (xs : List (Keyed (Tr l))) (c : Keyed (Tr l)) (ys : List (Keyed (Tr l))) (hi : ℕ) (up : List ℕ)
      → Span (ChildIn k l) (xs ++ c ∷ ys) hi → c.key ≤ x → x < head_key ys hi
      → way x (suc l) (tree_at (suc l) n (xs ++ c ∷ ys)) ++ up ≡ way x l c.value ++ n ∷ up
  way_through l n xs c ys hi up s from to =
      ap (λ (w : List ℕ). w ++ up) (node_way l n xs c ys hi s from to) ∙ append_snoc (way x l c.value) n up

  -- a key that stands below the page stands in the child to which it belongs
  there_in : (l : ℕ) (xs : List (Keyed (Tr l))) (c : Keyed (Tr l)) (ys : List (Keyed (Tr l))) (lo hi : ℕ)
      → Run k (suc l) (xs ++ c ∷ ys) lo hi → c.key ≤ x → x < head_key ys hi
      → has x (gathered (entries_of l) (xs ++ c ∷ ys)) ≡ true → has x (entries_of l c.value) ≡ true
  there_in l xs c ys lo hi run from to h =
      let all : Run k (suc l) (c ∷ ys) c.key hi = run_right k (suc l) xs (c ∷ ys) lo hi run in
      sym
      (has_parts x lo c.key (head_key ys hi) hi (gathered (entries_of l) xs) (entries_of l c.value) (gathered (entries_of l) ys)
      (run_within k (suc l) xs lo c.key (run_left k (suc l) xs (c ∷ ys) lo hi run))
      (run_within k (suc l) ys (head_key ys hi) hi (run_right k (suc l) (c ∷ []) ys c.key hi all))
      from to)
      ∙ ap (has x) (sym (gathered_append (entries_of l) xs (c ∷ ys)))
      ∙ h

  -- A page with the child c to which x belongs: its row, and c with the key.
  module _ (m l n : ℕ) (xs : List (Keyed (Tr l))) (c : Keyed (Tr l)) (ys : List (Keyed (Tr l))) (lo hi : ℕ) (from : c.key ≤ x) (to : x < head_key ys hi)
      (g : Given k memory x m (suc l) (tree_at (suc l) n (xs ++ c ∷ ys)) lo hi) where
    given_row : Row k memory l (xs ++ c ∷ ys) lo hi
    given_row = record { span = g.range.children; begins = g.range.low; held = g.held.1; different = λ q. omega (arith, g.different q) }

    pub given_child : Given k memory x k l c.value c.key (head_key ys hi)
    given_child =
        record {
          range = child_range k memory x l xs c ys lo hi given_row;
          from = from;
          to = to;
          there = there_in l xs c ys lo hi (g.range.low, g.range.children) from to g.there;
          held = child_held k memory x l xs c ys lo hi given_row;
          different = child_different k memory x l xs c ys lo hi given_row;
        }

  -- a child of a row without page 0 is another page, and so are all its pages
  pub child_missing : (l : ℕ) (xs : List (Keyed (Tr l))) (c : Keyed (Tr l)) (ys : List (Keyed (Tr l)))
      → occurs_in 0 (suc l) (xs ++ c ∷ ys) ≡ 0 → occurs 0 l c.value ≡ 0
  child_missing l xs c ys none = omega (arith, total_append (occurs 0 l) xs (c ∷ ys))

  pub missing_other : (l : ℕ) (t : Tr l) → occurs 0 l t ≡ 0 → page_number l t ≡ 0 → ⊥
  missing_other l t none e =
      let top = root_occurs 0 l t in
      let is = once_same 0 (page_number l t) (sym e) in
      omega arith

  -- What becomes of a tree on the key's way.
  abbrev pub Outcome : (l : ℕ) → Tr l → ℕ → ℕ → List ℕ → List Write → Type 0
  Outcome l t lo hi up W = Settled k memory x l t lo hi W ⊎ Reached k memory x l t lo hi up W

  -- the step at a page, from what becomes of any child
  module _ (one : 1 ≤ k) (m l : ℕ) (more : 1 ≤ m)
      (child : (c : Tr l) (lo hi : ℕ) → Given k memory x k l c lo hi → occurs 0 l c ≡ 0 → (up siblings : List ℕ)
      → asks_on k memory x (way x l c ++ up) siblings ≡ nothing → Outcome l c lo hi up (changes_on k memory x (way x l c ++ up) siblings)) where
    step_at : (n : ℕ) (xs : List (Keyed (Tr l))) (c : Keyed (Tr l)) (ys : List (Keyed (Tr l))) (lo hi : ℕ)
        → c.key ≤ x → x < head_key ys hi
        → Given k memory x m (suc l) (tree_at (suc l) n (xs ++ c ∷ ys)) lo hi → occurs_in 0 (suc l) (xs ++ c ∷ ys) ≡ 0 → (up siblings : List ℕ)
        → asks_on k memory x (way x (suc l) (tree_at (suc l) n (xs ++ c ∷ ys)) ++ up) siblings ≡ nothing
        → Step k memory x l n up (xs ++ c ∷ ys) lo hi (changes_on k memory x (way x (suc l) (tree_at (suc l) n (xs ++ c ∷ ys)) ++ up) siblings)
    step_at n xs c ys lo hi from to g none up siblings asks =
        let path = way_through l n xs c ys hi up g.range.children from to in
        let missing = child_missing l xs c ys none in
        subst (λ (p : List ℕ). Step k memory x l n up (xs ++ c ∷ ys) lo hi (changes_on k memory x p siblings)) (sym path)
        (child_step k memory x l one xs c ys lo hi n up (changes_on k memory x (way x l c.value ++ n ∷ up) siblings)
        (given_row m l n xs c ys lo hi from to g)
        (omega (arith, g.range.least))
        g.held.0
        (missing_other l c.value missing)
        from to
        (child c.value c.key (head_key ys hi) (given_child m l n xs c ys lo hi from to g) missing (n ∷ up) siblings
        (subst (λ (p : List ℕ). asks_on k memory x p siblings ≡ nothing) path asks)))

    pub step_in : (t : Tr (suc l)) (lo hi : ℕ) → Given k memory x m (suc l) t lo hi → occurs_in 0 (suc l) t.row ≡ 0 → (up siblings : List ℕ)
        → asks_on k memory x (way x (suc l) t ++ up) siblings ≡ nothing
        → Step k memory x l t.at up t.row lo hi (changes_on k memory x (way x (suc l) t ++ up) siblings)
    step_in t lo hi g none up siblings asks =
        let sp = spot (ChildIn k l) x t.row hi g.range.children (omega (arith, g.range.low, g.from)) g.to in
        subst
        (λ (row : List (Keyed (Tr l))).
        Given k memory x m (suc l) (tree_at (suc l) t.at row) lo hi
        → occurs_in 0 (suc l) row ≡ 0
        → asks_on k memory x (way x (suc l) (tree_at (suc l) t.at row) ++ up) siblings ≡ nothing
        → Step k memory x l t.at up row lo hi (changes_on k memory x (way x (suc l) (tree_at (suc l) t.at row) ++ up) siblings))
        (sym sp.whole)
        (λ g' none' asks'. step_at t.at sp.before sp.here sp.after lo hi sp.from sp.to g' none' up siblings asks')
        g none asks

  -- ---- a page below the root

  -- two children joined, and the page has not collapsed: the rule goes on above it
  pub joined_on : (l f : ℕ) (up : List ℕ) (row : List (Keyed (Tr l))) (lo hi : ℕ) (W : List Write) (h : Joined k memory x l f up row lo hi W)
      → eqb f 0 && eqb (μ (page_in (suc l) h.new)) 0 ≡ false
      → W
      ≡ (h.below ++ write (page_number l h.left.value) (page_in l h.things) ∷ write (page_number l h.right.value) free_page ∷ [])
      ++ shrunk k memory x up h.rest f (page_in (suc l) h.new)
  joined_on l f up row lo hi W h stands =
      let a = page_number l h.left.value in
      let b = page_number l h.right.value in
      let above : List Write = shrunk k memory x up h.rest f (page_in (suc l) h.new) in
      h.rule
      ∙ ap (λ (U : List Write). h.below ++ U)
      (cond-false
      (write f (page_in l h.things) ∷ write a free_page ∷ write b free_page ∷ [])
      (write a (page_in l h.things) ∷ write b free_page ∷ above)
      stands)
      ∙ sym (append_assoc h.below (write a (page_in l h.things) ∷ write b free_page ∷ []) above)

  -- from what becomes of the row to what becomes of the page
  page_outcome : (one : 1 ≤ k) (l : ℕ) (t : Tr (suc l)) (lo hi : ℕ) (up : List ℕ) (W : List Write)
      → Given k memory x k (suc l) t lo hi → (t.at ≡ 0 → ⊥)
      → Step k memory x l t.at up t.row lo hi W → Outcome (suc l) t lo hi up W
  page_outcome one l t lo hi up W g other (stays h) =
      let least = g.range.least in
      let most = g.range.most in
      let size = h.size in
      inl
      (record {
        tree = tree_at (suc l) t.at h.new;
        number = refl;
        patch =
            page_kept k memory x (suc l) one (keyed lo t) hi h.new W g.range (omega (arith, g.from, g.to)) g.different h.patch
            (omega arith) (omega arith) h.same g.held.0;
      })
  page_outcome one l t lo hi up W g other (evens h) =
      let least = g.range.least in
      let most = g.range.most in
      let size = h.size in
      inl
      (record {
        tree = tree_at (suc l) t.at h.new;
        number = refl;
        patch =
            subst (λ (U : List Write). Patch k memory x (suc (suc l)) (keyed lo t ∷ []) (keyed lo (tree_at (suc l) t.at h.new) ∷ []) lo hi U)
            (sym h.rule)
            (page_written k memory x (suc l) one (keyed lo t) hi h.new h.below g.range (omega (arith, g.from, g.to)) g.different h.patch
            (omega arith) (omega arith));
      })
  page_outcome one l t lo hi up W g other (joins h) =
      inr
      (record {
        new = h.new;
        shorter = h.shorter;
        below = h.below ++ write (page_number l h.left.value) (page_in l h.things) ∷ write (page_number l h.right.value) free_page ∷ [];
        patch = h.patch;
        rest = h.rest;
        rule = joined_on l t.at up t.row lo hi W h (and_first_fails _ (ne_eqb t.at 0 other));
        asks = h.asks;
      })

  -- what becomes of a tree below the root
  pub outcome : 1 ≤ k → (l : ℕ) (t : Tr l) (lo hi : ℕ) → Given k memory x k l t lo hi → occurs 0 l t ≡ 0 → (up siblings : List ℕ)
      → asks_on k memory x (way x l t ++ up) siblings ≡ nothing → Outcome l t lo hi up (changes_on k memory x (way x l t ++ up) siblings)
  outcome one zero t lo hi g none up siblings asks = inr (leaf_reached k t lo hi g up siblings asks)
  outcome one (suc l) t lo hi g none up siblings asks =
      page_outcome one l t lo hi up (changes_on k memory x (way x (suc l) t ++ up) siblings) g
      (missing_other (suc l) t none)
      (step_in one k l one (λ c lo' hi' g' none' up' siblings' asks'. outcome one l c lo' hi' g' none' up' siblings' asks')
      t lo hi g (omega arith) up siblings asks)
