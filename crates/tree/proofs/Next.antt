-- The next entry at or above a key: where x's leaf has none, it is the first of a second leaf, on the way of the reference key just
-- right of x's route.
use Prim.Native.Nat.{ℕ, zero, suc, ◌+◌, ◌*◌, ◌≤◌, ◌<◌}
use mathlib.Core.Bool.{true, false}
use mathlib.Core.Logic.{◌≢◌}
use mathlib.Core.Path.{◌≡◌, refl, sym, ap, ◌∙◌, subst, subst₂}
use mathlib.Core.List.{List, [], ◌∷◌, ◌++◌}
use native.Mathlib.Omega.{arith}
use borrow.Author.Tests.{leb-true, leb-false, ltb-true, ltb-false}
use lib.Dec.{leb, ltb}
use lib.ListN.{length, get_or}
use lib.Seq.{append_snoc}
use Rattle.ground.specs.Limits.{word_range}
use Rattle.ground.proofs.Choice.{by_test}
use Rattle.page.specs.Words.{Keyed, Entry, Page, μ}
use Rattle.page.specs.Place.{place, pointer, at_or_above}
use Rattle.page.specs.Short.{has_right, neighbour}
use Rattle.tree.specs.Rows.{head_key, Span, gathered, total, row_page}
use Rattle.tree.specs.Tree.{Tr, page_number, entries_of, occurs, root_least, InRange, Holds, way, leaf_on, Forms}
use Rattle.tree.specs.Facts.{SameFirst, SecondWay, NextFacts}
use Rattle.tree.proofs.Rows.{head_key_most, middle_has, middle_rises, middle_after, total_append}
use Rattle.tree.proofs.Sorted.{Within, within_gathered, at_or_above_from, at_or_above_second}
use Rattle.tree.proofs.Pages.{row_page_place, row_page_μ_around, right_neighbour}
use Rattle.tree.proofs.Search.{Down, down, down_at, each_here, within_entries, way_lower, way_top}
use Rattle.tree.proofs.Memory.{stands_occurs}
use Rattle.tree.proofs.Ways.{way_stands}
use Rattle.tree.proofs.Nearest.{nearest_append, nearest_below, way_through, leaf_through, leaf_nearest, top_page, none_nearest, leftmost_first, leftmost_way}

-- A second way whose key is in the tree's range.
record SecondWithin (memory : ℕ → Page) (x l : ℕ) (t : Tr l) (i hi : ℕ) : Type 0 where
  second : SecondWay memory x l t i
  within : second.key < hi

-- a child with another to its right is followed by it
next_child : {C : Type 0} (P : C → ℕ → ℕ → Type 0) (lv : ℕ) (at : C → ℕ) (xs : List (Keyed C)) (d : Keyed C) (ys : List (Keyed C)) (hi x : ℕ)
    → Span P (xs ++ d ∷ ys) hi → d.key ≤ x → x < head_key ys hi → has_right x (row_page lv at (xs ++ d ∷ ys)) ≡ true
    → (X : Type 0) → ((s : Keyed C) (zs : List (Keyed C)) → ys ≡ s ∷ zs → X) → X
next_child P lv at xs d [] hi x span low high some X f =
    let few = ltb-true (place x (row_page lv at (xs ++ d ∷ [])).entries) (μ (row_page lv at (xs ++ d ∷ []))) some in
    let a : place x (row_page lv at (xs ++ d ∷ [])).entries ≡ length xs = row_page_place P lv at xs d [] hi x span low high in
    let b : μ (row_page lv at (xs ++ d ∷ [])) ≡ length xs + 0 = row_page_μ_around lv at xs d [] in
    absurd (omega arith)
next_child P lv at xs d (s ∷ ys) hi x span low high some X f = f s ys refl

-- a page on a way is a page of the tree
page_occurs : (k y m M l : ℕ) (t : Tr l) (lo hi : ℕ) → InRange k m M l t lo hi → lo ≤ y → y < hi → (j : ℕ) → j ≤ l → 1 ≤ occurs (get_or (way y l t) j 0) l t
page_occurs k y m M l t lo hi r low high j b =
    let p = way_stands k y m M l t lo hi r low high j b in
    stands_occurs l t lo hi (get_or (way y l t) j 0) (j + 1) p.from p.to p.stands

-- no page hangs in two places below a child
child_once : (l : ℕ) (t : Tr (suc l)) (before : List (Keyed (Tr l))) (here : Keyed (Tr l)) (after : List (Keyed (Tr l)))
    → t.row ≡ before ++ here ∷ after → ((q : ℕ) → occurs q (suc l) t ≤ 1) → (q : ℕ) → occurs q l here.value ≤ 1
child_once l t before here after whole once q =
    omega (arith, once q, ap (total (occurs q l)) whole, total_append (occurs q l) before (here ∷ after))

-- Where x belongs to the child `here` of the root page, and `next` is the child to the right of it.
module _ (k x : ℕ) (memory : ℕ → Page) (m M l : ℕ) (t : Tr (suc l)) (lo hi : ℕ) (r : InRange k m M (suc l) t lo hi)
    (h : Holds memory (suc l) t) (low : lo ≤ x) (high : x < hi)
    (before : List (Keyed (Tr l))) (here next : Keyed (Tr l)) (after : List (Keyed (Tr l)))
    (whole : t.row ≡ before ++ here ∷ next ∷ after) (from : here.key ≤ x) (to : x < next.key) where
  abbrev Child : Tr l → ℕ → ℕ → Type 0
  Child = InRange k k (2 * k) l

  spanned : Span Child (before ++ here ∷ next ∷ after) hi
  spanned = subst (λ (row : List (Keyed (Tr l))). Span Child row hi) whole r.children

  -- the same row, cut before the next child
  whole_next : t.row ≡ (before ++ here ∷ []) ++ next ∷ after
  whole_next = whole ∙ sym (append_snoc before here (next ∷ after))

  spanned_next : Span Child ((before ++ here ∷ []) ++ next ∷ after) hi
  spanned_next = subst (λ (row : List (Keyed (Tr l))). Span Child row hi) whole_next r.children

  next_rises : next.key < head_key after hi
  next_rises = middle_rises Child (before ++ here ∷ []) next after hi spanned_next

  next_within : next.key < hi
  next_within = let most = head_key_most Child after hi (middle_after Child (before ++ here ∷ []) next after hi spanned_next) in omega (arith, next_rises)

  next_in_range : Child next.value next.key (head_key after hi)
  next_in_range = middle_has Child (before ++ here ∷ []) next after hi spanned_next

  here_in_range : Child here.value here.key next.key
  here_in_range = middle_has Child before here (next ∷ after) hi spanned

  next_holds : Holds memory l next.value
  next_holds = each_here (Holds memory l) (before ++ here ∷ []) next after t.row whole_next h.1

  here_holds : Holds memory l here.value
  here_holds = each_here (Holds memory l) before here (next ∷ after) t.row whole h.1

  -- x's way goes through the one child, the second way through the other,
  here_through : (j : ℕ) → j ≤ l → get_or (way x (suc l) t) j 0 ≡ get_or (way x l here.value) j 0
  here_through = way_through k m M x l t lo hi r before here (next ∷ after) whole from to

  next_through : (j : ℕ) → j ≤ l → get_or (way next.key (suc l) t) j 0 ≡ get_or (way next.key l next.value) j 0
  next_through = way_through k m M next.key l t lo hi r (before ++ here ∷ []) next after whole_next (omega arith) next_rises

  -- so they part, since no page hangs in two places;
  next_parts : ((q : ℕ) → occurs q (suc l) t ≤ 1) → (j : ℕ) → j ≤ l → get_or (way next.key (suc l) t) j 0 ≢ get_or (way x (suc l) t) j 0
  next_parts once j b e =
      let q : ℕ = get_or (way x l here.value) j 0 in
      let same : get_or (way next.key l next.value) j 0 ≡ q = sym (next_through j b) ∙ e ∙ here_through j b in
      let one : 1 ≤ occurs q l here.value = page_occurs k x k (2 * k) l here.value here.key next.key here_in_range from to j b in
      let other : 1 ≤ occurs q l next.value
      = subst (λ (p : ℕ). 1 ≤ occurs p l next.value) same
      (page_occurs k next.key k (2 * k) l next.value next.key (head_key after hi) next_in_range (omega arith) next_rises j b) in
      omega (arith, once q, ap (total (occurs q l)) whole, total_append (occurs q l) before (here ∷ next ∷ after))

  -- the root page is on both,
  next_meets : get_or (way next.key (suc l) t) (suc l) 0 ≡ get_or (way x (suc l) t) (suc l) 0
  next_meets =
      way_top k next.key m M (suc l) t lo hi r (omega arith) next_within ∙ sym (way_top k x m M (suc l) t lo hi r low high)

  -- and the second way turns to its next child
  next_turns : get_or (way next.key (suc l) t) l 0 ≡ neighbour x (memory (get_or (way x (suc l) t) (suc l) 0))
  next_turns =
      next_through l (omega arith)
      ∙ way_top k next.key k (2 * k) l next.value next.key (head_key after hi) next_in_range (omega arith) next_rises
      ∙ sym (ap (neighbour x) (top_page k x memory m M l t lo hi r h low high (before ++ here ∷ next ∷ after) whole)
      ∙ right_neighbour Child (suc (suc l)) (page_number l) before here next after hi x spanned from to)

  next_leftmost : (j : ℕ) → j < l → get_or (way next.key (suc l) t) j 0 ≡ pointer 0 (memory (get_or (way next.key (suc l) t) (suc j) 0))
  next_leftmost j b =
      next_through j (omega arith)
      ∙ leftmost_way k memory k (2 * k) l next.value next.key (head_key after hi) next_in_range next_holds next_rises j b
      ∙ ap (λ (q : ℕ). pointer 0 (memory q)) (sym (next_through (suc j) b))

  -- the entries from the next child on are all above x
  next_above : at_or_above x (gathered (entries_of l) (next ∷ after)) ≡ gathered (entries_of l) (next ∷ after)
  next_above =
      let inner : (c : Tr l) (a b : ℕ) → a < b → Child c a b → Within a (entries_of l c) b = λ c a b h s. within_entries k k (2 * k) l c a b s in
      let w = within_gathered Child (entries_of l) (next ∷ after) hi inner (middle_after Child before here (next ∷ after) hi spanned) in
      at_or_above_from x hi (gathered (entries_of l) (next ∷ after)) (omega (arith, w.0))

  -- where the child of x's way has no entry at or above x, the second leaf has the first
  next_nearest : 1 ≤ k → at_or_above x (leaf_on x (suc l) t) ≡ [] → ((j : ℕ) → j < l → has_right x (memory (get_or (way x (suc l) t) (suc j) 0)) ≡ false)
      → SameFirst (leaf_on next.key (suc l) t) (at_or_above x (entries_of (suc l) t))
  unfolding down_at
  next_nearest some none last =
      let empty : at_or_above x (entries_of l here.value) ≡ []
      = none_nearest k x memory k (2 * k) l here.value here.key next.key here_in_range here_holds from to
      (sym (ap (at_or_above x) (leaf_through k m M x l t lo hi r before here (next ∷ after) whole from to)) ∙ none)
      (λ j b. ap (λ (q : ℕ). has_right x (memory q)) (sym (here_through (suc j) b)) ∙ last j b) in
      let entries : at_or_above x (entries_of (suc l) t) ≡ entries_of l next.value ++ gathered (entries_of l) after
      = nearest_below k x l t hi (down_at k m M x l t lo hi r before here (next ∷ after) whole from to)
      ∙ at_or_above_second x (entries_of l here.value) (gathered (entries_of l) (next ∷ after)) empty
      ∙ next_above in
      let first = leftmost_first k some k (2 * k) l next.value next.key (head_key after hi) some next_in_range in
      record {
        first = first.first;
        rest = first.rest;
        rest' = first.rest' ++ gathered (entries_of l) after;
        one = leaf_through k m M next.key l t lo hi r (before ++ here ∷ []) next after whole_next (omega arith) next_rises ∙ first.one;
        other = entries ∙ ap (λ (es : List Entry). es ++ gathered (entries_of l) after) first.other;
      }

  -- the second way that turns at the root page
  second_top : 1 ≤ k → hi ≤ word_range → ((q : ℕ) → occurs q (suc l) t ≤ 1) → SecondWithin memory x (suc l) t l hi
  second_top some words once = record {
    second = record {
      key = next.key;
      in_words = omega (arith, next_within);
      later = to;
      meets = λ j a b. let e : j ≡ suc l = omega arith in
          subst (λ (i : ℕ). get_or (way next.key (suc l) t) i 0 ≡ get_or (way x (suc l) t) i 0) (sym e) next_meets;
      parts = next_parts once;
      turns = next_turns;
      leftmost = next_leftmost;
      nearest = next_nearest some;
    };
    within = next_within;
  }

-- A second way through the child to which x belongs is one through the tree.
module _ (k x : ℕ) (memory : ℕ → Page) (m M l : ℕ) (t : Tr (suc l)) (lo hi : ℕ) (r : InRange k m M (suc l) t lo hi)
    (low : lo ≤ x) (high : x < hi) (d : Down k x l t hi) (i : ℕ) (under : i < l)
    (s : SecondWithin memory x l d.here.value i (head_key d.after hi)) where
  abbrev y : ℕ
  y = s.second.key

  y_from : d.here.key ≤ y
  y_from = omega (arith, d.from, s.second.later)

  y_within : y < hi
  y_within =
      let most = head_key_most (InRange k k (2 * k) l) d.after hi (middle_after (InRange k k (2 * k) l) d.before d.here d.after hi d.span) in
      omega (arith, s.within)

  x_through : (j : ℕ) → j ≤ l → get_or (way x (suc l) t) j 0 ≡ get_or (way x l d.here.value) j 0
  x_through = way_lower k x l t hi d

  y_through : (j : ℕ) → j ≤ l → get_or (way y (suc l) t) j 0 ≡ get_or (way y l d.here.value) j 0
  y_through = way_through k m M y l t lo hi r d.before d.here d.after d.whole y_from s.within

  below_meets : (j : ℕ) → i < j → j ≤ suc l → get_or (way y (suc l) t) j 0 ≡ get_or (way x (suc l) t) j 0
  below_meets j a b =
      by_test (leb j l)
      (λ n. let lower = leb-true j l n in y_through j lower ∙ s.second.meets j a lower ∙ sym (x_through j lower))
      (λ n. let over = leb-false j l n in
      let e : j ≡ suc l = omega arith in
      rw (e) (way_top k y m M (suc l) t lo hi r (omega (arith, s.second.later)) y_within ∙ sym (way_top k x m M (suc l) t lo hi r low high)))

  below_nearest : at_or_above x (leaf_on x (suc l) t) ≡ [] → ((j : ℕ) → j < i → has_right x (memory (get_or (way x (suc l) t) (suc j) 0)) ≡ false)
      → SameFirst (leaf_on y (suc l) t) (at_or_above x (entries_of (suc l) t))
  below_nearest none last =
      subst₂ SameFirst
      (sym (leaf_through k m M y l t lo hi r d.before d.here d.after d.whole y_from s.within))
      (sym (nearest_below k x l t hi d))
      (nearest_append x (leaf_on y l d.here.value) (entries_of l d.here.value) (gathered (entries_of l) d.after)
      (s.second.nearest (sym (ap (at_or_above x) d.leaf_of) ∙ none)
      (λ j b. ap (λ (q : ℕ). has_right x (memory q)) (sym (x_through (suc j) (omega arith))) ∙ last j b)))

  second_below : SecondWithin memory x (suc l) t i hi
  second_below = record {
    second = record {
      key = y;
      in_words = s.second.in_words;
      later = s.second.later;
      meets = below_meets;
      parts = λ j b e. s.second.parts j b (sym (y_through j (omega arith)) ∙ e ∙ x_through j (omega arith));
      turns = y_through i (omega arith) ∙ s.second.turns ∙ ap (λ (q : ℕ). neighbour x (memory q)) (sym (x_through (suc i) under));
      leftmost = λ j b. y_through j (omega arith) ∙ s.second.leftmost j b ∙ ap (λ (q : ℕ). pointer 0 (memory q)) (sym (y_through (suc j) (omega arith)));
      nearest = below_nearest;
    };
    within = y_within;
  }

module _ (k x : ℕ) (memory : ℕ → Page) (some : 1 ≤ k) where
  -- each page of x's way with a child to the right of the route begins a second way
  second_way : (m M l : ℕ) (t : Tr l) (lo hi : ℕ) → InRange k m M l t lo hi → Holds memory l t → ((q : ℕ) → occurs q l t ≤ 1) → hi ≤ word_range
      → lo ≤ x → x < hi → (i : ℕ) → i < l → has_right x (memory (get_or (way x l t) (suc i) 0)) ≡ true → SecondWithin memory x l t i hi
  second_way m M zero t lo hi r h once words low high i b right = absurd (omega arith)
  second_way m M (suc l) t lo hi r h once words low high i b right =
      let d = down k m M x l t lo hi r low high in
      let P : Tr l → ℕ → ℕ → Type 0 = InRange k k (2 * k) l in
      by_test (ltb i l)
      (λ y. let under = ltb-true i l y in
      let most = head_key_most P d.after hi (middle_after P d.before d.here d.after hi d.span) in
      second_below k x memory m M l t lo hi r low high d i under
      (second_way k (2 * k) l d.here.value d.here.key (head_key d.after hi) d.child
      (each_here (Holds memory l) d.before d.here d.after t.row d.whole h.1)
      (child_once l t d.before d.here d.after d.whole once)
      (omega arith) d.from d.to i under
      (ap (λ (q : ℕ). has_right x (memory q)) (sym (way_lower k x l t hi d (suc i) under)) ∙ right)))
      (λ n. let over = ltb-false i l n in
      let e : i ≡ l = omega arith in
      let row : List (Keyed (Tr l)) = d.before ++ d.here ∷ d.after in
      let root : has_right x (row_page (suc (suc l)) (page_number l) row) ≡ true
      = ap (has_right x) (sym (top_page k x memory m M l t lo hi r h low high row d.whole))
      ∙ subst (λ (j : ℕ). has_right x (memory (get_or (way x (suc l) t) (suc j) 0)) ≡ true) e right in
      subst (λ (j : ℕ). SecondWithin memory x (suc l) t j hi) (sym e)
      (next_child P (suc (suc l)) (page_number l) d.before d.here d.after hi x d.span d.from d.to root
      (SecondWithin memory x (suc l) t l hi)
      (λ next after cut. second_top k x memory m M l t lo hi r h low high d.before d.here next after
      (d.whole ∙ ap (λ (ds : List (Keyed (Tr l))). d.before ++ d.here ∷ ds) cut) d.from
      (subst (λ (ds : List (Keyed (Tr l))). x < head_key ds hi) cut d.to) some words once)))

pub next_facts : (k n : ℕ) (memory : ℕ → Page) (l : ℕ) (t : Tr l) → 1 ≤ k → Forms k n memory l t → (x : ℕ) → x < word_range → NextFacts memory x l t
next_facts k n memory l t some forms x key = record {
  here = leaf_nearest k x (root_least l) (2 * k) l t 0 word_range forms.in_range (omega arith) key;
  nowhere = none_nearest k x memory (root_least l) (2 * k) l t 0 word_range forms.in_range forms.holds (omega arith) key;
  second = λ i b right.
      (second_way k x memory some (root_least l) (2 * k) l t 0 word_range forms.in_range forms.holds forms.different (omega arith) (omega arith) key i b right).second;
}
