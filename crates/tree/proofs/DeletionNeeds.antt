-- The siblings that a deletion asks for: going up the tree, each page on the way either can spare one, or its neighbour
-- under the same father is asked for. All pages on the way and all siblings hang in different places.
use Prim.Native.Nat.{ℕ, zero, suc, ◌+◌, ◌*◌, ◌≤◌, ◌<◌}
use native.Mathlib.Omega.{arith}
use native.Mathlib.Numerals.{add-one}
use mathlib.Core.Bool.{true, cond}
use mathlib.Core.List.{List, [], ◌∷◌, ◌++◌, append-nil}
use mathlib.Core.Logic.{inl, inr}
use mathlib.Core.Path.{◌≡◌, refl, sym, ap, ◌∙◌, subst, subst₂}
use borrow.Author.Tests.{ltb-true, ltb-false}
use lib.Dec.{ltb}
use lib.ListN.{length, get_or, length-append, get_or-append}
use lib.Seq.{append_snoc, get_or_at}
use Rattle.ground.specs.Limits.{word_range}
use Rattle.ground.proofs.Choice.{by_test, cond-true, cond-false}
use Rattle.page.specs.Words.{Keyed, Page, μ}
use Rattle.page.specs.Place.{has}
use Rattle.page.specs.Short.{neighbour}
use Rattle.change.specs.Deletion.{nothing, sibling, astray, satisfied, needs}
use Rattle.tree.specs.Rows.{head_key, Span, total}
use Rattle.tree.specs.Tree.{Tr, page_number, entries_of, once, occurs, Stands, way, Forms, ChildIn}
use Rattle.tree.specs.Change.{HeldWay}
use Rattle.tree.specs.Deletion.{can_spare, Asked, Beside, Wanted, Needed, SiblingsThere}
use Rattle.tree.proofs.Search.{way_length, way_top}
use Rattle.tree.proofs.Rows.{head_key_append, head_key_most, span_left, span_right, total_append, somewhere_right, spot}
use Rattle.tree.proofs.Memory.{once_same, times, times_append, member_times, times_absent, times_distinct, root_occurs}
use Rattle.tree.proofs.Mend.{tree_at, page_in, occurs_in, StandsIn, stands_top}
use Rattle.tree.proofs.Pages.{right_neighbour, left_neighbour}
use Rattle.tree.proofs.DeletionRule.{sibling≢nothing, astray≢nothing, astray≢sibling, sibling_same, needs_spare, needs_ask, needs_next, needs_root, needs_length, needs_held}
use Rattle.tree.proofs.DeletionStep.{one_last}
use Rattle.tree.proofs.DeletionTree.{asks_on, Given, forms_given, node_way, way_through, given_child, child_missing, missing_other}

-- ---- the neighbour of a child

-- Page s is a child of the row, other than c: which it is, and where it stands.
record Neighbour (l : ℕ) (row : List (Keyed (Tr l))) (hi : ℕ) (c : Tr l) (s : ℕ) : Type 0 where
  tree : Tr l
  is : s ≡ page_number l tree
  apart : (q : ℕ) → occurs q l c + occurs q l tree ≤ total (occurs q l) row
  low : ℕ
  high : ℕ
  stands : StandsIn (suc l) row hi s (suc l) low high
  low_inside : head_key row hi ≤ low
  high_inside : high ≤ hi

module _ (k x l : ℕ) where
  -- a child's range is inside the row's
  child_inside : (xs : List (Keyed (Tr l))) (d : Keyed (Tr l)) (ys : List (Keyed (Tr l))) (hi : ℕ) → Span (ChildIn k l) (xs ++ d ∷ ys) hi
      → (head_key (xs ++ d ∷ ys) hi ≤ d.key) × (head_key ys hi ≤ hi)
  child_inside xs d ys hi s =
      let P = ChildIn k l in
      let first : head_key (xs ++ d ∷ ys) hi ≡ head_key xs d.key = head_key_append xs (d ∷ ys) hi in
      let start : head_key xs d.key ≤ d.key = head_key_most P xs d.key (span_left P xs (d ∷ ys) hi s) in
      (omega arith, head_key_most P ys hi (span_right P xs (d ∷ ys) hi s).2)

  -- a page of a child is one of the row,
  child_stands : (xs : List (Keyed (Tr l))) (d : Keyed (Tr l)) (ys : List (Keyed (Tr l))) (hi q level a b : ℕ)
      → Stands l d.value d.key (head_key ys hi) q level a b → StandsIn (suc l) (xs ++ d ∷ ys) hi q level a b
  child_stands xs d ys hi q level a b s =
      somewhere_right (λ (c : Tr l) (lo' hi' : ℕ). Stands l c lo' hi' q level a b) xs (d ∷ ys) hi (inl s)

  -- and so is the child's own page
  child_page : (xs : List (Keyed (Tr l))) (d : Keyed (Tr l)) (ys : List (Keyed (Tr l))) (hi q : ℕ) → page_number l d.value ≡ q
      → StandsIn (suc l) (xs ++ d ∷ ys) hi q (suc l) d.key (head_key ys hi)
  child_page xs d ys hi q is =
      child_stands xs d ys hi q (suc l) d.key (head_key ys hi)
      (stands_top l d.value d.key (head_key ys hi) q (suc l) d.key (head_key ys hi) (is, refl, refl, refl))

  -- c has a right neighbour s
  right_beside : (xs : List (Keyed (Tr l))) (c s : Keyed (Tr l)) (ys : List (Keyed (Tr l))) (hi : ℕ) (F : Page)
      → Span (ChildIn k l) (xs ++ c ∷ s ∷ ys) hi → F ≡ page_in (suc l) (xs ++ c ∷ s ∷ ys) → c.key ≤ x → x < s.key
      → Neighbour l (xs ++ c ∷ s ∷ ys) hi c.value (neighbour x F)
  right_beside xs c s ys hi F span top from to =
      let P = ChildIn k l in
      let is : neighbour x F ≡ page_number l s.value
      = ap (neighbour x) top ∙ right_neighbour P (suc (suc l)) (page_number l) xs c s ys hi x span from to in
      let snoc : (xs ++ c ∷ []) ++ s ∷ ys ≡ xs ++ c ∷ s ∷ ys = append_snoc xs c (s ∷ ys) in
      let inside : (head_key (xs ++ c ∷ s ∷ ys) hi ≤ s.key) × (head_key ys hi ≤ hi)
      = subst (λ (row : List (Keyed (Tr l))). (head_key row hi ≤ s.key) × (head_key ys hi ≤ hi)) snoc
      (child_inside (xs ++ c ∷ []) s ys hi (subst (λ (row : List (Keyed (Tr l))). Span P row hi) (sym snoc) span)) in
      record {
        tree = s.value;
        is = is;
        apart = λ q. omega (arith, total_append (occurs q l) xs (c ∷ s ∷ ys));
        low = s.key;
        high = head_key ys hi;
        stands =
            subst (λ (row : List (Keyed (Tr l))). StandsIn (suc l) row hi (neighbour x F) (suc l) s.key (head_key ys hi)) snoc
            (child_page (xs ++ c ∷ []) s ys hi (neighbour x F) (sym is));
        low_inside = inside.0;
        high_inside = inside.1;
      }

  -- c is the last child, and has a left neighbour s
  left_beside : (xs : List (Keyed (Tr l))) (s c : Keyed (Tr l)) (hi : ℕ) (F : Page) → c.key ≤ x → x < hi
      → Span (ChildIn k l) (xs ++ s ∷ c ∷ []) hi → F ≡ page_in (suc l) (xs ++ s ∷ c ∷ [])
      → Neighbour l (xs ++ s ∷ c ∷ []) hi c.value (neighbour x F)
  left_beside xs s c hi F from to span top =
      let is : neighbour x F ≡ page_number l s.value
      = ap (neighbour x) top ∙ left_neighbour (ChildIn k l) (suc (suc l)) (page_number l) xs s c hi x span from to in
      let inside = child_inside xs s (c ∷ []) hi span in
      record {
        tree = s.value;
        is = is;
        apart = λ q. omega (arith, total_append (occurs q l) xs (s ∷ c ∷ []));
        low = s.key;
        high = c.key;
        stands = child_page xs s (c ∷ []) hi (neighbour x F) (sym is);
        low_inside = inside.0;
        high_inside = inside.1;
      }

  -- the neighbour that the rule names is a child of the row, other than the one to which x belongs
  beside_of : (xs : List (Keyed (Tr l))) (c : Keyed (Tr l)) (ys : List (Keyed (Tr l))) (hi : ℕ) (F : Page) → 2 ≤ length (xs ++ c ∷ ys)
      → Span (ChildIn k l) (xs ++ c ∷ ys) hi → F ≡ page_in (suc l) (xs ++ c ∷ ys) → c.key ≤ x → x < head_key ys hi
      → Neighbour l (xs ++ c ∷ ys) hi c.value (neighbour x F)
  beside_of xs c (s ∷ ys) hi F enough span top from to = right_beside xs c s ys hi F span top from to
  beside_of xs c [] hi F enough span top from to =
      let (L, s, cut) = one_last xs (omega (arith, length-append xs (c ∷ []))) in
      subst (λ (row : List (Keyed (Tr l))). Span (ChildIn k l) row hi → F ≡ page_in (suc l) row → Neighbour l row hi c.value (neighbour x F))
      (sym (ap (λ (row : List (Keyed (Tr l))). row ++ c ∷ []) cut ∙ append_snoc L s (c ∷ [])))
      (left_beside L s c hi F from to)
      span top

-- ---- a sibling that is wanted, in a tree

-- s stands beside the page of x's way that has i pages of the way below it, and the father is the next page of the way
abbrev OnWay : (x l : ℕ) → Tr l → (lo hi s i : ℕ) → Type 0
OnWay x l t lo hi s i = Beside l t lo hi s (get_or (way x l t) i 0) (get_or (way x l t) (suc i) 0) (suc i)

module _ (k : ℕ) (memory : ℕ → Page) (x l n : ℕ) (xs : List (Keyed (Tr l))) (c : Keyed (Tr l)) (ys : List (Keyed (Tr l))) (lo hi : ℕ)
    (span : Span (ChildIn k l) (xs ++ c ∷ ys) hi) (begins : head_key (xs ++ c ∷ ys) hi ≡ lo) (low : c.key ≤ x) (high : x < head_key ys hi) where
  abbrev whole : Tr (suc l)
  whole = tree_at (suc l) n (xs ++ c ∷ ys)

  child_in : ChildIn k l c.value c.key (head_key ys hi)
  child_in = (span_right (ChildIn k l) xs (c ∷ ys) hi span).1

  child_way : length (way x l c.value) ≡ suc l
  child_way = way_length k x k (2 * k) l c.value c.key (head_key ys hi) child_in low high ∙ add-one l

  path : way x (suc l) whole ≡ way x l c.value ++ n ∷ []
  path = node_way k memory x l n xs c ys hi span low high

  -- a page of the child's way is on the tree's way, as far from the leaf
  path_at : (i : ℕ) → i ≤ l → get_or (way x l c.value) i 0 ≡ get_or (way x (suc l) whole) i 0
  path_at i h =
      sym
      (ap (λ (w : List ℕ). get_or w i 0) path
      ∙ get_or-append (way x l c.value) (n ∷ []) 0 i (omega (arith, child_way)))

  -- what is wanted below the child
  beside_below : (s i : ℕ) → i < l → OnWay x l c.value c.key (head_key ys hi) s i → OnWay x (suc l) whole lo hi s i
  beside_below s i h b =
      let p : ℕ = get_or (way x l c.value) i 0 in
      let father : ℕ = get_or (way x l c.value) (suc i) 0 in
      subst₂ (λ (q r : ℕ). Beside (suc l) whole lo hi s q r (suc i)) (path_at i (omega arith)) (path_at (suc i) h)
      (record {
        low = b.low;
        high = b.high;
        stands = inr (child_stands k x l xs c ys hi s (suc i) b.low b.high b.stands);
        from = b.from;
        to = b.to;
        beside = inr (child_stands k x l xs c ys hi p (suc i) b.from b.to b.beside);
        least = b.least;
        most = b.most;
        under = inr (child_stands k x l xs c ys hi father (suc (suc i)) b.least b.most b.under);
        low_inside = b.low_inside;
        high_inside = b.high_inside;
        from_inside = b.from_inside;
        to_inside = b.to_inside;
      })

  -- what is wanted beside the child itself
  beside_child : (s : ℕ) → Neighbour l (xs ++ c ∷ ys) hi c.value s → OnWay x (suc l) whole lo hi s l
  beside_child s b =
      let is : page_number l c.value ≡ get_or (way x (suc l) whole) l 0
      = sym (way_top k x k (2 * k) l c.value c.key (head_key ys hi) child_in low high) ∙ path_at l (omega arith) in
      let father : n ≡ get_or (way x (suc l) whole) (suc l) 0
      = sym (ap (λ (w : List ℕ). get_or w (suc l) 0) path ∙ get_or_at (way x l c.value) n [] 0 (suc l) child_way) in
      let ends = child_inside k x l xs c ys hi span in
      record {
        low = b.low;
        high = b.high;
        stands = inr b.stands;
        from = c.key;
        to = head_key ys hi;
        beside = inr (child_page k x l xs c ys hi (get_or (way x (suc l) whole) l 0) is);
        least = lo;
        most = hi;
        under = inl (father, refl, refl, refl);
        low_inside = omega (arith, b.low_inside);
        high_inside = b.high_inside;
        from_inside = omega (arith, ends.0);
        to_inside = ends.1;
      }

-- ---- the siblings, level by level

-- How far the siblings lead in the tree t on the whole path p: they are enough below the top page of t; or one more is
-- wanted there; or the first of them are for the pages below the top page, and the rest for those from it on upward.
-- Each page on t's way and each sibling is counted as a page of t.
data Climb (k : ℕ) (memory : ℕ → Page) (x : ℕ) (p siblings : List ℕ) (l : ℕ) (t : Tr l) (lo hi : ℕ) (up : List ℕ) : Type 0 where
  enough : asks_on k memory x p siblings ≡ nothing
      → ((q : ℕ) → times q (way x l t) + times q siblings ≤ occurs q l t)
      → Climb k memory x p siblings l t lo hi up
  wants : (s : ℕ)
      → asks_on k memory x p siblings ≡ sibling s
      → ((q : ℕ) → times q (way x l t) + (times q siblings + once q s) ≤ occurs q l t)
      → length siblings < l
      → OnWay x l t lo hi s (length siblings)
      → Climb k memory x p siblings l t lo hi up
  climbs : (used rest : List ℕ)
      → siblings ≡ used ++ rest
      → length used ≡ l
      → ((r : List ℕ) → asks_on k memory x p (used ++ r) ≡ needs k memory x (page_number l t) up r)
      → ((q : ℕ) → times q (way x l t) + times q used ≤ occurs q l t)
      → Climb k memory x p siblings l t lo hi up

-- the siblings were asked for one after the other, on the path p
abbrev AskedOn : ℕ → (ℕ → Page) → ℕ → List ℕ → List ℕ → Type 0
AskedOn k memory x p siblings =
    (before : List ℕ) (s : ℕ) (after : List ℕ) → siblings ≡ before ++ s ∷ after → asks_on k memory x p before ≡ sibling s

module _ (k : ℕ) (memory : ℕ → Page) (x : ℕ) (p siblings : List ℕ) (asked : AskedOn k memory x p siblings) where
  -- One level: from the child c to its father n.
  module _ (m l n : ℕ) (xs : List (Keyed (Tr l))) (c : Keyed (Tr l)) (ys : List (Keyed (Tr l))) (lo hi : ℕ)
      (more : 1 ≤ m) (from : c.key ≤ x) (to : x < head_key ys hi)
      (g : Given k memory x m (suc l) (tree_at (suc l) n (xs ++ c ∷ ys)) lo hi) (other : page_number l c.value ≡ 0 → ⊥) (up : List ℕ) where
    abbrev node : Tr (suc l)
    node = tree_at (suc l) n (xs ++ c ∷ ys)

    abbrev own : ℕ
    own = page_number l c.value

    node_occurs : (q : ℕ) → times q (way x (suc l) node) ≡ times q (way x l c.value) + (once q n + 0)
    node_occurs q =
        ap (times q) (node_way k memory x l n xs c ys hi g.range.children from to) ∙ times_append q (way x l c.value) (n ∷ [])

    child_occurs : (q : ℕ) → once q n + occurs q l c.value ≤ occurs q (suc l) node
    child_occurs q = omega (arith, total_append (occurs q l) xs (c ∷ ys))

    next : Neighbour l (xs ++ c ∷ ys) hi c.value (neighbour x (memory n))
    next = beside_of k x l xs c ys hi (memory n) (omega (arith, g.range.least)) g.range.children g.held.0 from to

    -- the neighbour's page is none of the child's
    next_occurs : (q : ℕ) → once q n + (occurs q l c.value + once q (neighbour x (memory n))) ≤ occurs q (suc l) node
    next_occurs q =
        let is : once q (neighbour x (memory n)) ≡ once q (page_number l next.tree) = ap (once q) next.is in
        omega (arith, next.apart q, root_occurs q l next.tree)

    -- the siblings were for the pages below c, and c asks for its neighbour or not
    climb_none : (used : List ℕ) → siblings ≡ used ++ [] → length used ≡ l
        → ((r : List ℕ) → asks_on k memory x p (used ++ r) ≡ needs k memory x own (n ∷ up) r)
        → ((q : ℕ) → times q (way x l c.value) + times q used ≤ occurs q l c.value)
        → Climb k memory x p siblings (suc l) node lo hi up
    climb_none used is len eq count =
        let all : siblings ≡ used = is ∙ append-nil used in
        let size : length siblings ≡ l = ap length all ∙ len in
        let here : asks_on k memory x p siblings ≡ needs k memory x own (n ∷ up) [] = ap (asks_on k memory x p) is ∙ eq [] in
        let same : (q : ℕ) → times q siblings ≡ times q used = λ q. ap (times q) all in
        by_test (ltb k (μ (memory own)))
        (λ t.
        enough
        (here ∙ needs_spare k memory x own n up (ltb-true k (μ (memory own)) t))
        (λ q. omega (arith, node_occurs q, child_occurs q, count q, same q)))
        (λ t.
        wants (neighbour x (memory n))
        (here ∙ needs_ask k memory x own n up other (ltb-false k (μ (memory own)) t))
        (λ q. omega (arith, node_occurs q, next_occurs q, count q, same q))
        (omega arith)
        (subst (λ (i : ℕ). OnWay x (suc l) node lo hi (neighbour x (memory n)) i) (sym size)
        (beside_child k memory x l n xs c ys lo hi g.range.children g.range.low from to (neighbour x (memory n)) next)))

    -- c asked for its neighbour s, which is held
    module _ (used : List ℕ) (s : ℕ) (rest : List ℕ) (is : siblings ≡ used ++ s ∷ rest) (len : length used ≡ l)
        (eq : (r : List ℕ) → asks_on k memory x p (used ++ r) ≡ needs k memory x own (n ∷ up) r)
        (count : (q : ℕ) → times q (way x l c.value) + times q used ≤ occurs q l c.value) where
      asks_s : needs k memory x own (n ∷ up) [] ≡ sibling s
      asks_s = sym (eq []) ∙ ap (asks_on k memory x p) (append-nil used) ∙ asked used s rest is

      few : μ (memory own) ≤ k
      few =
          by_test (ltb k (μ (memory own)))
          (λ t. sibling≢nothing (sym asks_s ∙ needs_spare k memory x own n up (ltb-true k (μ (memory own)) t)))
          (λ t. ltb-false k (μ (memory own)) t)

      is_next : s ≡ neighbour x (memory n)
      is_next = sibling_same (sym asks_s ∙ needs_ask k memory x own n up other few)

      -- what is needed with s and more siblings r
      with_s : (r : List ℕ) → asks_on k memory x p (used ++ s ∷ r) ≡ cond (ltb k (μ (memory s))) (satisfied r) (needs k memory x n up r)
      with_s r = eq (s ∷ r) ∙ needs_next k memory x own n up s r other few is_next

      counted : (q : ℕ) → times q (way x (suc l) node) + times q (used ++ s ∷ []) ≤ occurs q (suc l) node
      counted q =
          let same : once q s ≡ once q (neighbour x (memory n)) = ap (once q) is_next in
          omega (arith, node_occurs q, next_occurs q, count q, times_append q used (s ∷ []))

      -- s can spare one: nothing more was asked for
      climb_spare : ltb k (μ (memory s)) ≡ true → (r : List ℕ) → siblings ≡ used ++ s ∷ r → Climb k memory x p siblings (suc l) node lo hi up
      climb_spare t [] all =
          enough
          (ap (asks_on k memory x p) all ∙ with_s [] ∙ cond-true nothing (needs k memory x n up []) t)
          (λ q. omega (arith, counted q, ap (times q) all))
      climb_spare t (s' ∷ r) all =
          sibling≢nothing
          (sym (asked (used ++ s ∷ []) s' r (all ∙ sym (append_snoc used s (s' ∷ r))))
          ∙ with_s []
          ∙ cond-true nothing (needs k memory x n up []) t)

      -- otherwise the two join, and the rest is for the father and the pages above it
      climb_some : Climb k memory x p siblings (suc l) node lo hi up
      climb_some =
          by_test (ltb k (μ (memory s)))
          (λ t. climb_spare t rest is)
          (λ t.
          climbs (used ++ s ∷ []) rest
          (is ∙ sym (append_snoc used s rest))
          (length-append used (s ∷ []) ∙ omega arith)
          (λ r. ap (asks_on k memory x p) (append_snoc used s r) ∙ with_s r ∙ cond-false (satisfied r) (needs k memory x n up r) t)
          counted)

    node_climb : Climb k memory x p siblings l c.value c.key (head_key ys hi) (n ∷ up) → Climb k memory x p siblings (suc l) node lo hi up
    node_climb (enough e count) = enough e (λ q. omega (arith, node_occurs q, child_occurs q, count q))
    node_climb (wants s e count h b) =
        wants s e (λ q. omega (arith, node_occurs q, child_occurs q, count q)) (omega arith)
        (beside_below k memory x l n xs c ys lo hi g.range.children g.range.low from to s (length siblings) h b)
    node_climb (climbs used [] is len eq count) = climb_none used is len eq count
    node_climb (climbs used (s ∷ rest) is len eq count) = climb_some used s rest is len eq count

  -- the step at a page, from any child
  module _ (m l : ℕ) (more : 1 ≤ m)
      (child : (c : Tr l) (lo hi : ℕ) → Given k memory x k l c lo hi → occurs 0 l c ≡ 0 → (up : List ℕ) → p ≡ way x l c ++ up
      → Climb k memory x p siblings l c lo hi up) where
    climb_at : (n : ℕ) (xs : List (Keyed (Tr l))) (c : Keyed (Tr l)) (ys : List (Keyed (Tr l))) (lo hi : ℕ)
        → c.key ≤ x → x < head_key ys hi
        → Given k memory x m (suc l) (tree_at (suc l) n (xs ++ c ∷ ys)) lo hi → occurs_in 0 (suc l) (xs ++ c ∷ ys) ≡ 0 → (up : List ℕ)
        → p ≡ way x (suc l) (tree_at (suc l) n (xs ++ c ∷ ys)) ++ up
        → Climb k memory x p siblings (suc l) (tree_at (suc l) n (xs ++ c ∷ ys)) lo hi up
    climb_at n xs c ys lo hi from to g none up is =
        let missing = child_missing k memory x l xs c ys none in
        node_climb m l n xs c ys lo hi more from to g (missing_other k memory x l c.value missing) up
        (child c.value c.key (head_key ys hi) (given_child k memory x m l n xs c ys lo hi from to g) missing (n ∷ up)
        (is ∙ way_through k memory x l n xs c ys hi up g.range.children from to))

    climb_in : (t : Tr (suc l)) (lo hi : ℕ) → Given k memory x m (suc l) t lo hi → occurs_in 0 (suc l) t.row ≡ 0 → (up : List ℕ)
        → p ≡ way x (suc l) t ++ up → Climb k memory x p siblings (suc l) t lo hi up
    climb_in t lo hi g none up is =
        let sp = spot (ChildIn k l) x t.row hi g.range.children (omega (arith, g.range.low, g.from)) g.to in
        subst
        (λ (row : List (Keyed (Tr l))).
        Given k memory x m (suc l) (tree_at (suc l) t.at row) lo hi
        → occurs_in 0 (suc l) row ≡ 0
        → p ≡ way x (suc l) (tree_at (suc l) t.at row) ++ up
        → Climb k memory x p siblings (suc l) (tree_at (suc l) t.at row) lo hi up)
        (sym sp.whole)
        (λ g' none' is'. climb_at t.at sp.before sp.here sp.after lo hi sp.from sp.to g' none' up is')
        g none is

  -- at the leaf nothing is used yet
  leaf_climb : (t : Tr zero) (lo hi : ℕ) (up : List ℕ) → p ≡ way x zero t ++ up → Climb k memory x p siblings zero t lo hi up
  leaf_climb t lo hi up is =
      climbs [] siblings refl refl
      (λ r. ap (λ (w : List ℕ). asks_on k memory x w r) is)
      (λ q. omega arith)

  -- a tree below the root
  climb : 1 ≤ k → (l : ℕ) (t : Tr l) (lo hi : ℕ) → Given k memory x k l t lo hi → occurs 0 l t ≡ 0 → (up : List ℕ)
      → p ≡ way x l t ++ up → Climb k memory x p siblings l t lo hi up
  climb one zero t lo hi g none up is = leaf_climb t lo hi up is
  climb one (suc l) t lo hi g none up is =
      climb_in k l one (λ c lo' hi' g' none' up' is'. climb one l c lo' hi' g' none' up' is') t lo hi g (omega arith) up is

  -- the whole tree
  root_climb : (n : ℕ) → 1 ≤ k → (l : ℕ) (t : Tr l) → Forms k n memory l t → x < word_range → has x (entries_of l t) ≡ true
      → p ≡ way x l t ++ [] → Climb k memory x p siblings l t 0 word_range []
  root_climb n one zero t forms word there is = leaf_climb t 0 word_range [] is
  root_climb n one (suc l) t forms word there is =
      let root = once_same 0 t.at (sym forms.root) in
      climb_in 1 l (omega arith) (λ c lo hi g none up is'. climb one l c lo hi g none up is')
      t 0 word_range (forms_given k n memory x (suc l) t forms word there) (omega (arith, forms.different 0)) [] is

-- ---- at the root

-- siblings that were asked for are fewer than path pages
few_asked : (k : ℕ) (memory : ℕ → Page) (x leaf : ℕ) (fathers siblings : List ℕ) → Asked k memory x leaf fathers siblings
    → length siblings ≤ length fathers
few_asked k memory x leaf fathers [] asked = omega arith
few_asked k memory x leaf fathers (s ∷ ss) asked =
    let (L, e, cut) = one_last (s ∷ ss) (omega arith) in
    let shorter = needs_length k memory x leaf fathers L e (asked L e [] cut) in
    omega (arith, ap length cut, length-append L (e ∷ []))

module _ (k n : ℕ) (memory : ℕ → Page) (x l : ℕ) (t : Tr l) (leaf : ℕ) (fathers siblings : List ℕ)
    (forms : Forms k n memory l t) (held : HeldWay (can_spare k memory) x l t leaf fathers) (asked : Asked k memory x leaf fathers siblings) where
  -- what the held way needs is what the whole way needs
  held_asks : (ss : List ℕ) → asks_on k memory x (way x l t) ss ≡ needs k memory x leaf fathers ss
  held_asks ss = ap (λ (p : List ℕ). asks_on k memory x p ss) held.whole ∙ needs_held k memory x fathers held.above ss leaf held.top

  whole_asked : AskedOn k memory x (way x l t) siblings
  whole_asked before s after e = held_asks before ∙ asked before s after e

  module _ (count : (q : ℕ) → times q (way x l t) + times q siblings ≤ occurs q l t) where
    needed_of : (needs k memory x leaf fathers siblings ≡ astray → ⊥)
        → ((s : ℕ) → needs k memory x leaf fathers siblings ≡ sibling s → Wanted l t x leaf fathers siblings s)
        → Needed k memory l t x leaf fathers siblings
    needed_of course wanted =
        record {
          on_course = course;
          wanted = wanted;
          few = few_asked k memory x leaf fathers siblings asked;
          different =
              times_distinct (way x l t ++ siblings)
              (λ q. omega (arith, times_append q (way x l t) siblings, count q, forms.different q));
          pages = λ q m. let o = member_times q siblings m in omega (arith, count q);
        }

    needed_none : needs k memory x leaf fathers siblings ≡ nothing → Needed k memory l t x leaf fathers siblings
    needed_none e = needed_of (λ h. astray≢nothing (sym h ∙ e)) (λ s h. sibling≢nothing (sym h ∙ e))

  -- a page of the whole way is one of the held way, as far from the leaf
  held_at : (i : ℕ) → i < suc (length fathers) → get_or (way x l t) i 0 ≡ get_or (leaf ∷ fathers) i 0
  held_at i h = ap (λ (w : List ℕ). get_or w i 0) held.whole ∙ get_or-append (leaf ∷ fathers) held.above 0 i h

  wanted_of : (s : ℕ) → needs k memory x leaf fathers siblings ≡ sibling s
      → ((q : ℕ) → times q (way x l t) + (times q siblings + once q s) ≤ occurs q l t)
      → OnWay x l t 0 word_range s (length siblings) → Wanted l t x leaf fathers siblings s
  wanted_of s e count b =
      let inside : length siblings < length fathers = needs_length k memory x leaf fathers siblings s e in
      let self = once_same s s refl in
      record {
        father_held = inside;
        place =
            subst₂ (λ (p father : ℕ). Beside l t 0 word_range s p father (suc (length siblings)))
            (held_at (length siblings) (omega arith)) (held_at (suc (length siblings)) (omega arith)) b;
        off_way = times_absent s (way x l t) (omega (arith, count s, forms.different s));
        not_held = times_absent s siblings (omega (arith, count s, forms.different s));
      }

  -- page 0 needs nothing, so the siblings end where the way does
  needed_by : Climb k memory x (way x l t) siblings l t 0 word_range [] → Needed k memory l t x leaf fathers siblings
  needed_by (enough e count) = needed_none count (sym (held_asks siblings) ∙ e)
  needed_by (wants s e count h b) =
      let here : needs k memory x leaf fathers siblings ≡ sibling s = sym (held_asks siblings) ∙ e in
      needed_of (λ q. omega (arith, count q))
      (λ g. astray≢sibling (sym g ∙ here))
      (λ s' g. subst (λ (r : ℕ). Wanted l t x leaf fathers siblings r) (sibling_same (sym here ∙ g)) (wanted_of s here count b))
  needed_by (climbs used [] is len eq count) =
      needed_none (λ q. omega (arith, count q, ap (times q) (is ∙ append-nil used)))
      (sym (held_asks siblings) ∙ ap (asks_on k memory x (way x l t)) is ∙ eq [] ∙ needs_root k memory x (page_number l t) forms.root)
  needed_by (climbs used (s ∷ rest) is len eq count) =
      sibling≢nothing
      (sym (whole_asked used s rest is)
      ∙ ap (asks_on k memory x (way x l t)) (sym (append-nil used))
      ∙ eq []
      ∙ needs_root k memory x (page_number l t) forms.root)

pub siblings_there : SiblingsThere
siblings_there k n memory l t x leaf fathers siblings one forms word there held asked =
    needed_by k n memory x l t leaf fathers siblings forms held asked
    (root_climb k memory x (way x l t) siblings (whole_asked k n memory x l t leaf fathers siblings forms held asked) n one l t forms word there
    (sym (append-nil (way x l t))))
