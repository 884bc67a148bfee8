-- A move is a join cut at another place: one pair further right where the left page gains, one further left where the right
-- page gains. Leaves have no p0 in their value, so that both halves of the cut begin alike.
use Prim.Native.Nat.{ℕ, suc, ◌-◌, ◌≤◌}
use mathlib.Core.Bool.{Bool, true, false, cond}
use mathlib.Core.List.{List, [], ◌∷◌, ◌++◌}
use mathlib.Core.Path.{◌≡◌, refl, sym, ap, ◌∙◌}
use native.Mathlib.Omega.{arith}
use lib.Dec.{eqb}
use lib.ListN.{length, take, drop, get_or-append}
use lib.Seq.{take-append-le, drop-append-le, drop-cons, drop-length, drop_at}
use Rattle.page.specs.Words.{Entry, Page, entry, page, μ, is_leaf, key_of, value_of}
use Rattle.page.specs.Splits.{Parted, parted, with_entries, entry_at, split}
use Rattle.page.specs.Short.{from_right, from_left, joined}

-- the pages as their father's neighbours: one level, and no p0 in a leaf
pub record Neighbours (L R : Page) : Type 0 where
  pub level : L.level ≡ R.level
  pub left_first : is_leaf L ≡ true → L.first ≡ 0
  pub right_first : is_leaf R ≡ true → R.first ≡ 0

-- a page cut at c, as a leaf or not
abbrev cut_at : Bool → ℕ → Page → Parted
cut_at leaf c P =
    parted
    (with_entries P (take c P.entries))
    (entry_at c P.entries).key
    (cond leaf (with_entries P (drop c P.entries)) (page P.level (entry_at c P.entries).value (drop (suc c) P.entries)))

-- a list with at least one pair begins with its first
one_first : (es : List Entry) → 1 ≤ length es → take 1 es ≡ entry_at 0 es ∷ []
one_first [] h = absurd (omega arith)
one_first (e ∷ es) h = refl

-- the second pair is the first behind the first
second : (es : List Entry) → entry_at 1 es ≡ entry_at 0 (drop 1 es)
second [] = refl
second (e ∷ es) = refl

-- one past the seam of two lists
take_past : (a b : List Entry) → take (suc (length a)) (a ++ b) ≡ a ++ take 1 b
take_past [] b = refl
take_past (e ∷ a) b = ap (λ (es : List Entry). e ∷ es) (take_past a b)

drop_past : (a b : List Entry) → drop (suc (length a)) (a ++ b) ≡ drop 1 b
drop_past [] b = refl
drop_past (e ∷ a) b = drop_past a b

drop_past_two : (a b : List Entry) → drop (suc (suc (length a))) (a ++ b) ≡ drop 2 b
drop_past_two [] b = refl
drop_past_two (e ∷ a) b = drop_past_two a b

at_past : (a b : List Entry) → entry_at (suc (length a)) (a ++ b) ≡ entry_at 1 b
at_past [] b = refl
at_past (e ∷ a) b = at_past a b

-- from the last pair of the first of two lists on
drop_last : (a b : List Entry) (c : ℕ) → suc c ≡ length a → drop c (a ++ b) ≡ entry_at c a ∷ b
drop_last a b c e =
    let rest : drop (suc c) a ≡ [] = ap (λ (n : ℕ). drop n a) e ∙ drop-length a in
    drop-append-le c a b (omega arith)
    ∙ ap (λ (es : List Entry). es ++ b) (drop-cons a c (entry 0 0) (omega arith))
    ∙ ap (λ (es : List Entry). entry_at c a ∷ (es ++ b)) rest

module _ (r : ℕ) (L R : Page) (beside : Neighbours L R) where
  -- both are leaves, or none is
  alike : is_leaf R ≡ is_leaf L
  alike = ap (λ (l : ℕ). eqb l 1) (sym beside.level)

  -- where both are leaves their first pointers are both 0
  firsts : is_leaf L ≡ true → R.first ≡ L.first
  firsts leaf = beside.right_first (alike ∙ leaf) ∙ sym (beside.left_first leaf)

  -- the pairs of the two joined
  abbrev both : Bool → List Entry
  both leaf = L.entries ++ cond leaf R.entries (entry r R.first ∷ R.entries)

  right_cut : (leaf : Bool) → is_leaf L ≡ leaf → 1 ≤ μ R
      → cond leaf
      (parted (with_entries L (L.entries ++ entry_at 0 R.entries ∷ [])) (entry_at 0 (drop 1 R.entries)).key (with_entries R (drop 1 R.entries)))
      (parted
      (with_entries L (L.entries ++ entry r R.first ∷ []))
      (entry_at 0 R.entries).key
      (page R.level (entry_at 0 R.entries).value (drop 1 R.entries)))
      ≡ cut_at leaf (suc (μ L)) (with_entries L (both leaf))
  right_cut true leaf some =
      let p = sym (take_past L.entries R.entries ∙ ap (λ (es : List Entry). L.entries ++ es) (one_first R.entries some)) in
      let q = sym (ap key_of (at_past L.entries R.entries ∙ second R.entries)) in
      let s = sym (drop_past L.entries R.entries) in
      λ i. parted (page L.level L.first (p i)) (q i) (page (sym beside.level i) (firsts leaf i) (s i))
  right_cut false upper some =
      let Y : List Entry = entry r R.first ∷ R.entries in
      let p = sym (take_past L.entries Y) in
      let q = sym (ap key_of (at_past L.entries Y)) in
      let v = sym (ap value_of (at_past L.entries Y)) in
      let s = sym (drop_past_two L.entries Y) in
      λ i. parted (page L.level L.first (p i)) (q i) (page (sym beside.level i) (v i) (s i))

  -- from the right page to the left one
  pub from_right_cut : 1 ≤ μ R → from_right r L R ≡ split (suc (μ L)) (joined r L R)
  unfolding from_right joined split
  from_right_cut some = right_cut (is_leaf L) refl some

  left_cut : (leaf : Bool) → is_leaf L ≡ leaf → (c : ℕ) → suc c ≡ μ L
      → cond leaf
      (parted (with_entries L (take c L.entries)) (entry_at c L.entries).key (with_entries R (entry_at c L.entries ∷ R.entries)))
      (parted
      (with_entries L (take c L.entries))
      (entry_at c L.entries).key
      (page R.level (entry_at c L.entries).value (entry r R.first ∷ R.entries)))
      ≡ cut_at leaf c (with_entries L (both leaf))
  left_cut true leaf c last =
      let p = sym (take-append-le c L.entries R.entries (omega arith)) in
      let q = sym (ap key_of (get_or-append L.entries R.entries (entry 0 0) c (omega arith))) in
      let s = sym (drop_last L.entries R.entries c last) in
      λ i. parted (page L.level L.first (p i)) (q i) (page (sym beside.level i) (firsts leaf i) (s i))
  left_cut false upper c last =
      let Y : List Entry = entry r R.first ∷ R.entries in
      let p = sym (take-append-le c L.entries Y (omega arith)) in
      let e = get_or-append L.entries Y (entry 0 0) c (omega arith) in
      let q = sym (ap key_of e) in
      let v = sym (ap value_of e) in
      let s = sym (drop_at L.entries Y (suc c) (sym last)) in
      λ i. parted (page L.level L.first (p i)) (q i) (page (sym beside.level i) (v i) (s i))

  -- from the left page to the right one
  pub from_left_cut : 1 ≤ μ L → from_left r L R ≡ split (μ L - 1) (joined r L R)
  unfolding from_left joined split
  from_left_cut some =
      let c : ℕ = μ L - 1 in
      let moving : Entry = entry_at c L.entries in
      let last : suc (μ L - 1) ≡ μ L = omega arith in
      ap (λ (leaf : Bool). cond leaf
      (parted (with_entries L (take c L.entries)) moving.key (with_entries R (moving ∷ R.entries)))
      (parted (with_entries L (take c L.entries)) moving.key (page R.level moving.value (entry r R.first ∷ R.entries))))
      alike
      ∙ left_cut (is_leaf L) refl c last
