-- The first entry at or above a key, by its leaf: the leaf on x's way decides where it has one, or where no page of the way has a
-- child to the right. And the lowest key of a tree's range: its way is the leftmost one, and its leaf has the tree's first entry.
use Prim.Native.Nat.{ℕ, zero, suc, ◌+◌, ◌*◌, ◌≤◌, ◌<◌}
use mathlib.Core.Bool.{false}
use mathlib.Core.Path.{◌≡◌, refl, sym, ap, ◌∙◌, subst, subst₂}
use mathlib.Core.List.{List, [], ◌∷◌, ◌++◌}
use native.Mathlib.Omega.{arith}
use borrow.Author.Tests.{ltb-true, ltb-false}
use lib.Dec.{ltb}
use lib.ListN.{length, get_or}
use Rattle.ground.proofs.Bools.{not_both}
use Rattle.ground.proofs.Choice.{by_test}
use Rattle.page.specs.Words.{Keyed, keyed, Entry, Page}
use Rattle.page.specs.Place.{pointer, at_or_above}
use Rattle.page.specs.Short.{has_right}
use Rattle.tree.specs.Rows.{head_key, Span, gathered, row_page}
use Rattle.tree.specs.Tree.{Tr, page_number, entries_of, InRange, Holds, way, leaf_on}
use Rattle.tree.specs.Facts.{SameFirst}
use Rattle.tree.proofs.Rows.{middle_before}
use Rattle.tree.proofs.Sorted.{Within, within_gathered, at_or_above_from, at_or_above_behind, at_or_above_second, at_or_above_first}
use Rattle.tree.proofs.Pages.{right_has_right}
use Rattle.tree.proofs.Search.{Down, down, down_at, each_here, within_entries, entries_parts, way_lower, way_top}

-- a first entry at or above x stays the first where more entries come behind
pub nearest_append : (x : ℕ) (es front back : List Entry) → SameFirst es (at_or_above x front) → SameFirst es (at_or_above x (front ++ back))
nearest_append x es front back s = record {
  first = s.first;
  rest = s.rest;
  rest' = s.rest' ++ back;
  one = s.one;
  other = at_or_above_first x front back s.first s.rest' s.other;
}

-- a child that has none to its right is the last one
last_child : {C : Type 0} (P : C → ℕ → ℕ → Type 0) (lv : ℕ) (at : C → ℕ) (xs : List (Keyed C)) (d : Keyed C) (ys : List (Keyed C)) (hi x : ℕ)
    → Span P (xs ++ d ∷ ys) hi → d.key ≤ x → x < head_key ys hi → has_right x (row_page lv at (xs ++ d ∷ ys)) ≡ false → ys ≡ []
last_child P lv at xs d [] hi x span low high none = refl
last_child P lv at xs d (s ∷ ys) hi x span low high none = not_both (right_has_right P lv at xs d s ys hi x span low high) none

-- The way of y through the child to which y belongs,
module _ (k m M y l : ℕ) (t : Tr (suc l)) (lo hi : ℕ) (r : InRange k m M (suc l) t lo hi)
    (before : List (Keyed (Tr l))) (here : Keyed (Tr l)) (after : List (Keyed (Tr l))) (whole : t.row ≡ before ++ here ∷ after)
    (from : here.key ≤ y) (to : y < head_key after hi) where
  -- page by page,
  pub way_through : (j : ℕ) → j ≤ l → get_or (way y (suc l) t) j 0 ≡ get_or (way y l here.value) j 0
  unfolding down_at
  way_through j h = way_lower k y l t hi (down_at k m M y l t lo hi r before here after whole from to) j h

  -- and its leaf
  pub leaf_through : leaf_on y (suc l) t ≡ leaf_on y l here.value
  unfolding down_at
  leaf_through = (down_at k m M y l t lo hi r before here after whole from to).leaf_of

module _ (k x : ℕ) where
  -- the entries before the child to which x belongs are all below x
  pub nearest_below : (l : ℕ) (t : Tr (suc l)) (hi : ℕ) (d : Down k x l t hi)
      → at_or_above x (entries_of (suc l) t) ≡ at_or_above x (entries_of l d.here.value ++ gathered (entries_of l) d.after)
  nearest_below l t hi d =
      let P : Tr l → ℕ → ℕ → Type 0 = InRange k k (2 * k) l in
      let inner : (c : Tr l) (a b : ℕ) → a < b → P c a b → Within a (entries_of l c) b = λ c a b h s. within_entries k k (2 * k) l c a b s in
      let low = within_gathered P (entries_of l) d.before d.here.key inner (middle_before P d.before d.here d.after hi d.span) in
      ap (at_or_above x) (entries_parts k x l t hi d)
      ∙ at_or_above_second x (gathered (entries_of l) d.before) (entries_of l d.here.value ++ gathered (entries_of l) d.after)
      (at_or_above_behind x d.here.key (gathered (entries_of l) d.before) low.1 d.from)

  -- a leaf of x's way with an entry at or above x has the tree's first
  pub leaf_nearest : (m M l : ℕ) (t : Tr l) (lo hi : ℕ) → InRange k m M l t lo hi → lo ≤ x → x < hi
      → (e : Entry) (es : List Entry) → at_or_above x (leaf_on x l t) ≡ e ∷ es → SameFirst (at_or_above x (leaf_on x l t)) (at_or_above x (entries_of l t))
  leaf_nearest m M zero t lo hi r low high e es some = record { first = e; rest = es; rest' = es; one = some; other = some }
  leaf_nearest m M (suc l) t lo hi r low high e es some =
      let d = down k m M x l t lo hi r low high in
      let leaf : at_or_above x (leaf_on x (suc l) t) ≡ at_or_above x (leaf_on x l d.here.value) = ap (at_or_above x) d.leaf_of in
      let ih = leaf_nearest k (2 * k) l d.here.value d.here.key (head_key d.after hi) d.child d.from d.to e es (sym leaf ∙ some) in
      subst₂ SameFirst (sym leaf) (sym (nearest_below l t hi d))
      (nearest_append x (at_or_above x (leaf_on x l d.here.value)) (entries_of l d.here.value) (gathered (entries_of l) d.after) ih)

  module _ (memory : ℕ → Page) where
    -- the root page, as x's way meets it
    pub top_page : (m M l : ℕ) (t : Tr (suc l)) (lo hi : ℕ) → InRange k m M (suc l) t lo hi → Holds memory (suc l) t → lo ≤ x → x < hi
        → (row : List (Keyed (Tr l))) → t.row ≡ row → memory (get_or (way x (suc l) t) (suc l) 0) ≡ row_page (suc (suc l)) (page_number l) row
    top_page m M l t lo hi r h low high row whole =
        ap memory (way_top k x m M (suc l) t lo hi r low high) ∙ h.0 ∙ ap (row_page (suc (suc l)) (page_number l)) whole

    -- a leaf without, at the end of a way without a child to the right: there is none
    pub none_nearest : (m M l : ℕ) (t : Tr l) (lo hi : ℕ) → InRange k m M l t lo hi → Holds memory l t → lo ≤ x → x < hi
        → at_or_above x (leaf_on x l t) ≡ [] → ((i : ℕ) → i < l → has_right x (memory (get_or (way x l t) (suc i) 0)) ≡ false)
        → at_or_above x (entries_of l t) ≡ []
    none_nearest m M zero t lo hi r h low high none last = none
    none_nearest m M (suc l) t lo hi r h low high none last =
        let d = down k m M x l t lo hi r low high in
        let row : List (Keyed (Tr l)) = d.before ++ d.here ∷ d.after in
        let end : d.after ≡ []
        = last_child (InRange k k (2 * k) l) (suc (suc l)) (page_number l) d.before d.here d.after hi x d.span d.from d.to
        (ap (has_right x) (sym (top_page m M l t lo hi r h low high row d.whole)) ∙ last l (omega arith)) in
        let ih = none_nearest k (2 * k) l d.here.value d.here.key (head_key d.after hi) d.child
        (each_here (Holds memory l) d.before d.here d.after t.row d.whole h.1) d.from d.to
        (sym (ap (at_or_above x) d.leaf_of) ∙ none)
        (λ i b. ap (λ (q : ℕ). has_right x (memory q)) (sym (way_lower k x l t hi d (suc i) b)) ∙ last i (omega arith)) in
        nearest_below l t hi d
        ∙ at_or_above_second x (entries_of l d.here.value) (gathered (entries_of l) d.after) ih
        ∙ ap (λ (ds : List (Keyed (Tr l))). at_or_above x (gathered (entries_of l) ds)) end
        ∙ at_or_above_from x x [] (omega arith)

-- ---- the leftmost way

-- a list with entries has a first one
first_of : (es : List Entry) → 1 ≤ length es → SameFirst es es
first_of [] h = absurd (omega arith)
first_of (e ∷ es) h = record { first = e; rest = es; rest' = es; one = refl; other = refl }

-- The first child of a row, where the row begins at lo.
record Leading (k l : ℕ) (row : List (Keyed (Tr l))) (lo hi : ℕ) : Type 0 where
  child : Tr l
  after : List (Keyed (Tr l))
  whole : row ≡ keyed lo child ∷ after
  rises : lo < head_key after hi
  in_range : InRange k k (2 * k) l child lo (head_key after hi)

leading_row : (k l : ℕ) (row : List (Keyed (Tr l))) (hi : ℕ) → 1 ≤ length row → Span (InRange k k (2 * k) l) row hi → Leading k l row (head_key row hi) hi
leading_row k l [] hi h s = absurd (omega arith)
leading_row k l (d ∷ ds) hi h s = record { child = d.value; after = ds; whole = refl; rises = s.0; in_range = s.1 }

leading : (k m M l : ℕ) (t : Tr (suc l)) (lo hi : ℕ) → InRange k m M (suc l) t lo hi → Leading k l t.row lo hi
leading k m M l t lo hi r =
    let some : m + 1 ≤ length t.row = r.least in
    subst (λ (a : ℕ). Leading k l t.row a hi) r.low (leading_row k l t.row hi (omega arith) r.children)

-- the leaf on the way of the lowest key of the range has the tree's first entry
pub leftmost_first : (k : ℕ) → 1 ≤ k → (m M l : ℕ) (t : Tr l) (lo hi : ℕ) → 1 ≤ m → InRange k m M l t lo hi → SameFirst (leaf_on lo l t) (entries_of l t)
leftmost_first k some m M zero t lo hi full r =
    let least : m ≤ length t.entries = r.least in
    first_of t.entries (omega arith)
leftmost_first k some m M (suc l) t lo hi full r =
    let c = leading k m M l t lo hi r in
    let ih = leftmost_first k some k (2 * k) l c.child lo (head_key c.after hi) some c.in_range in
    record {
      first = ih.first;
      rest = ih.rest;
      rest' = ih.rest' ++ gathered (entries_of l) c.after;
      one = leaf_through k m M lo l t lo hi r [] (keyed lo c.child) c.after c.whole (omega arith) c.rises ∙ ih.one;
      other = ap (gathered (entries_of l)) c.whole ∙ ap (λ (es : List Entry). es ++ gathered (entries_of l) c.after) ih.other;
    }

-- and that way goes by p0 of each page
pub leftmost_way : (k : ℕ) (memory : ℕ → Page) (m M l : ℕ) (t : Tr l) (lo hi : ℕ) → InRange k m M l t lo hi → Holds memory l t → lo < hi
    → (j : ℕ) → j < l → get_or (way lo l t) j 0 ≡ pointer 0 (memory (get_or (way lo l t) (suc j) 0))
leftmost_way k memory m M zero t lo hi r h rising j b = absurd (omega arith)
leftmost_way k memory m M (suc l) t lo hi r h rising j b =
    let c = leading k m M l t lo hi r in
    let through = way_through k m M lo l t lo hi r [] (keyed lo c.child) c.after c.whole (omega arith) c.rises in
    let ih = leftmost_way k memory k (2 * k) l c.child lo (head_key c.after hi) c.in_range
    (each_here (Holds memory l) [] (keyed lo c.child) c.after t.row c.whole h.1) c.rises in
    by_test (ltb j l)
    (λ y. let under = ltb-true j l y in
    through j (omega arith) ∙ ih j under ∙ ap (λ (q : ℕ). pointer 0 (memory q)) (sym (through (suc j) under)))
    (λ n. let over = ltb-false j l n in
    let e : j ≡ l = omega arith in
    rw (e)
    (through l (omega arith)
    ∙ way_top k lo k (2 * k) l c.child lo (head_key c.after hi) c.in_range (omega arith) c.rises
    ∙ ap (pointer 0) (sym (top_page k lo memory m M l t lo hi r h (omega arith) rising (keyed lo c.child ∷ c.after) c.whole))))
