-- Where a key stands: `place`, `has`, `information` and `without` by index, on rising keys.
use Prim.Native.Nat.{ℕ, zero, suc, ◌+◌, ◌-◌, ◌≤◌, ◌<◌}
use mathlib.Core.Bool.{Bool, true, false, ◌||◌, false≢true, or_assoc}
use mathlib.Core.List.{List, [], ◌∷◌, ◌++◌}
use mathlib.Core.Logic.{⊎_elim, ◌≢◌}
use mathlib.Core.Path.{◌≡◌, refl, sym, ap, ◌∙◌}
use native.Mathlib.Nat.{le_of_suc-le-suc, not-suc-le-zero, le_trans, le_of_eq, lt_trans}
use native.Mathlib.Omega.{arith}
use borrow.Author.Tests.{leb-true, leb-false, le-leb, lt-leb, ltb-true, ltb-false, eqb-true, eq-eqb, ne_eqb}
use lib.Dec.{leb, ltb, eqb}
use lib.ListN.{length, take, drop}
use Rattle.ground.specs.Tests.{count}
use Rattle.ground.proofs.Bools.{or_first, or_second, or_cases, or_first_fails, or_second_fails, true_or_false, not_both}
use Rattle.ground.proofs.Choice.{by_test, cond_ind, cond-true, cond-false}
use Rattle.ground.proofs.Tests.{count_append, count_most}
use Rattle.page.specs.Words.{Keyed, Entry}
use Rattle.page.specs.Splits.{entry_at}
use Rattle.page.specs.Sound.{rises}
use Rattle.page.specs.Place.{place, has, information, at_or_above, without}
use Rattle.page.proofs.RiseLaws.{key_at, rises_at, rises_drop, rises_without_middle}

-- ---- place

-- a key's place is at most the number of pairs
pub place_most : {A : Type 0} (x : ℕ) (es : List (Keyed A)) → place x es ≤ length es
unfolding place
place_most {A} x es = count_most (λ (e : Keyed A). leb e.key x) es

-- in two lists, one behind the other, a key's places add up
pub place_append : {A : Type 0} (x : ℕ) (front back : List (Keyed A)) → place x (front ++ back) ≡ place x front + place x back
unfolding place
place_append {A} x front back = count_append (λ (e : Keyed A). leb e.key x) front back

-- an entry in front whose key is at most x moves x's place by one
pub place_passes : (x : ℕ) (e : Entry) (es : List Entry) → e.key ≤ x → place x (e ∷ es) ≡ suc (place x es)
unfolding place count
place_passes x e es h = cond-true (suc (place x es)) (place x es) (le-leb e.key x h)

-- an entry in front whose key is greater than x leaves x's place
pub place_skips : (x : ℕ) (e : Entry) (es : List Entry) → x < e.key → place x (e ∷ es) ≡ place x es
unfolding place count
place_skips x e es h = cond-false (suc (place x es)) (place x es) (lt-leb e.key x h)

-- The first m keys are at most x and the others greater: x's place is m.
pub place_is : (x : ℕ) (es : List Entry) (m : ℕ) → m ≤ length es → ((i : ℕ) → i < m → key_at i es ≤ x)
    → ((i : ℕ) → m ≤ i → i < length es → x < key_at i es) → place x es ≡ m
unfolding place count
place_is x [] m h low high = omega arith
place_is x (e ∷ es) zero h low high =
    place_skips x e es (high 0 (omega arith) (omega arith))
    ∙ place_is x es 0 (omega arith) (λ i l. absurd (not-suc-le-zero l)) (λ i l b. high (suc i) (omega arith) (omega arith))
place_is x (e ∷ es) (suc m) h low high =
    let rest = place_is x es m (omega arith) (λ i l. low (suc i) (omega arith)) (λ i l b. high (suc i) (omega arith) (omega arith)) in
    place_passes x e es (low 0 (omega arith)) ∙ ap suc rest

-- keys that rise from one greater than x on: none is at most x
place_zero : (x : ℕ) (e : Entry) (es : List Entry) → rises (e ∷ es) ≡ true → x < e.key → place x (e ∷ es) ≡ 0
place_zero x e es t h =
    place_is x (e ∷ es) 0 (omega arith) (λ i l. absurd (not-suc-le-zero l)) greater
  where
    greater : (i : ℕ) → 0 ≤ i → i < length (e ∷ es) → x < key_at i (e ∷ es)
    greater zero l b = h
    greater (suc i) l b = lt_trans h (rises_at (e ∷ es) t 0 (suc i) (omega arith) b)

-- on rising keys, those before x's place are at most x
pub place_before : (x : ℕ) (es : List Entry) → rises es ≡ true → (i : ℕ) → i < place x es → key_at i es ≤ x
place_before x [] t i h = absurd (not-suc-le-zero (le_trans h (place_most x [])))
place_before x (e ∷ es) t i h =
    ⊎_elim
    (λ p. let low = leb-true e.key x p in
    let step = place_passes x e es low in
    at i low (λ j l. place_before x es (rises_drop 1 (e ∷ es) t) j (omega arith)) h)
    (λ p. let zero-place = place_zero x e es t (leb-false e.key x p) in absurd (omega arith))
    (true_or_false (leb e.key x))
  where
    at : (i : ℕ) → e.key ≤ x → ((j : ℕ) → suc j < place x (e ∷ es) → key_at j es ≤ x) → i < place x (e ∷ es)
        → key_at i (e ∷ es) ≤ x
    at zero low f l = low
    at (suc j) low f l = f j l

-- on rising keys, those from x's place on are greater than x
pub place_behind : (x : ℕ) (es : List Entry) → rises es ≡ true → (i : ℕ) → place x es ≤ i → i < length es → x < key_at i es
place_behind x [] t i l h = absurd (not-suc-le-zero h)
place_behind x (e ∷ es) t zero l h =
    ⊎_elim
    (λ p. let step = place_passes x e es (leb-true e.key x p) in absurd (omega arith))
    (λ p. leb-false e.key x p)
    (true_or_false (leb e.key x))
place_behind x (e ∷ es) t (suc i) l h =
    ⊎_elim
    (λ p. let step = place_passes x e es (leb-true e.key x p) in
    place_behind x es (rises_drop 1 (e ∷ es) t) i (omega arith) (omega arith))
    (λ p. lt_trans (leb-false e.key x p) (rises_at (e ∷ es) t 0 (suc i) (omega arith) h))
    (true_or_false (leb e.key x))

-- on rising keys, one at most x stands before x's place,
pub at_most_before : (x : ℕ) (es : List Entry) → rises es ≡ true → (i : ℕ) → i < length es → key_at i es ≤ x → i < place x es
at_most_before x es t i h low =
    by_test (ltb i (place x es)) (ltb-true i (place x es))
    (λ f. let high = place_behind x es t i (ltb-false i (place x es) f) h in absurd (omega arith))

-- and one greater than x stands behind it
pub above_behind : (x : ℕ) (es : List Entry) → rises es ≡ true → (i : ℕ) → x < key_at i es → place x es ≤ i
above_behind x es t i high =
    by_test (ltb i (place x es))
    (λ f. let low = place_before x es t i (ltb-true i (place x es) f) in absurd (omega arith))
    (ltb-false i (place x es))

-- on rising keys, the place of the key at index i is just behind it
pub place_at : (x : ℕ) (es : List Entry) → rises es ≡ true → (i : ℕ) → i < length es → key_at i es ≡ x → place x es ≡ suc i
place_at x es t i h e =
    let low = at_most_before x es t i h (le_of_eq e) in
    let most = place_most x es in
    by_test (ltb (suc i) (length es))
    (λ more. let up = rises_at es t i (suc i) (omega arith) (ltb-true (suc i) (length es) more) in
    let high = above_behind x es t (suc i) (omega arith) in
    omega arith)
    (λ last. let end = ltb-false (suc i) (length es) last in omega arith)

-- ---- has

-- the key stands where it stands at an index
pub has_from : (x : ℕ) (es : List Entry) (i : ℕ) → i < length es → key_at i es ≡ x → has x es ≡ true
unfolding has
has_from x [] i h e = absurd (not-suc-le-zero h)
has_from x (f ∷ es) zero h e = or_first (has x es) (eq-eqb f.key x e)
has_from x (f ∷ es) (suc i) h e = or_second (eqb f.key x) (has_from x es i (le_of_suc-le-suc h) e)

-- a key that stands does so at some index
pub has_at : (x : ℕ) (es : List Entry) → has x es ≡ true → (i : ℕ) × (i < length es) × (key_at i es ≡ x)
unfolding has
has_at x [] t = absurd (false≢true t)
has_at x (f ∷ es) t =
    ⊎_elim
    (λ here. (0, omega arith, eqb-true f.key x here))
    (λ later. let found = has_at x es later in (suc found.0, omega arith, found.2))
    (or_cases (eqb f.key x) (has x es) t)

-- a key that does not stand is at no index
pub has_not_at : (x : ℕ) (es : List Entry) → has x es ≡ false → (i : ℕ) → i < length es → key_at i es ≢ x
has_not_at x es f i h e = not_both (has_from x es i h e) f

-- a key stands in two lists where it stands in one of them
pub has_append : (x : ℕ) (front back : List Entry) → has x (front ++ back) ≡ has x front || has x back
unfolding has
has_append x [] back = refl
has_append x (e ∷ front) back =
    ap (λ (b : Bool). eqb e.key x || b) (has_append x front back) ∙ sym (or_assoc (eqb e.key x) (has x front) (has x back))

-- on rising keys, a key that stands does so just before its place
pub has_place : (x : ℕ) (es : List Entry) → rises es ≡ true → has x es ≡ true → (0 < place x es) × (key_at (place x es - 1) es ≡ x)
has_place x es t y =
    let found = has_at x es y in
    let i : ℕ = found.0 in
    let p = place_at x es t i found.1 found.2 in
    let back : place x es - 1 ≡ i = omega arith in
    (omega arith, ap (λ (j : ℕ). key_at j es) back ∙ found.2)

-- ---- information

-- where a key does not stand, its information is 0
pub information_none : (x : ℕ) (es : List Entry) → has x es ≡ false → information x es ≡ 0
unfolding has information
information_none x [] f = refl
information_none x (e ∷ es) f =
    cond-false e.value (information x es) (or_first_fails (eqb e.key x) (has x es) f)
    ∙ information_none x es (or_second_fails (eqb e.key x) (has x es) f)

-- on rising keys, the information of the key at index i is the value there
pub information_at : (x : ℕ) (es : List Entry) → rises es ≡ true → (i : ℕ) → i < length es → key_at i es ≡ x
    → information x es ≡ (entry_at i es).value
unfolding information
information_at x [] t i h e = absurd (not-suc-le-zero h)
information_at x (f ∷ es) t zero h e = cond-true f.value (information x es) (eq-eqb f.key x e)
information_at x (f ∷ es) t (suc i) h e =
    let up = rises_at (f ∷ es) t 0 (suc i) (omega arith) h in
    cond-false f.value (information x es) (ne_eqb f.key x (λ s. absurd (omega arith)))
    ∙ information_at x es (rises_drop 1 (f ∷ es) t) i (le_of_suc-le-suc h) e

-- ---- at or above

-- the entries at or above x begin with the first that is,
pub above_first : (x : ℕ) (e : Entry) (es : List Entry) → x ≤ e.key → at_or_above x (e ∷ es) ≡ e ∷ es
unfolding at_or_above
above_first x e es h = cond-true (e ∷ es) (at_or_above x es) (le-leb x e.key h)

-- and one that is below is passed over
pub above_later : (x : ℕ) (e : Entry) (es : List Entry) → e.key < x → at_or_above x (e ∷ es) ≡ at_or_above x es
unfolding at_or_above
above_later x e es h = cond-false (e ∷ es) (at_or_above x es) (lt-leb x e.key h)

-- ---- without

-- where a key does not stand, the entries less the key are the entries
pub without_none : (x : ℕ) (es : List Entry) → has x es ≡ false → without x es ≡ es
unfolding has without
without_none x [] f = refl
without_none x (e ∷ es) f =
    cond-false es (e ∷ without x es) (or_first_fails (eqb e.key x) (has x es) f)
    ∙ ap (λ (r : List Entry). e ∷ r) (without_none x es (or_second_fails (eqb e.key x) (has x es) f))

-- on rising keys, the entries less the key at index i are those before i and those behind it
pub without_at : (x : ℕ) (es : List Entry) → rises es ≡ true → (i : ℕ) → i < length es → key_at i es ≡ x
    → without x es ≡ take i es ++ drop (suc i) es
unfolding without
without_at x [] t i h e = absurd (not-suc-le-zero h)
without_at x (f ∷ es) t zero h e = cond-true es (f ∷ without x es) (eq-eqb f.key x e)
without_at x (f ∷ es) t (suc i) h e =
    let up = rises_at (f ∷ es) t 0 (suc i) (omega arith) h in
    cond-false es (f ∷ without x es) (ne_eqb f.key x (λ s. absurd (omega arith)))
    ∙ ap (λ (r : List Entry). f ∷ r) (without_at x es (rises_drop 1 (f ∷ es) t) i (le_of_suc-le-suc h) e)

-- the entries less a key that stands are one fewer
pub length_without : (x : ℕ) (es : List Entry) → has x es ≡ true → suc (length (without x es)) ≡ length es
unfolding has without
length_without x [] t = absurd (false≢true t)
length_without x (e ∷ es) t =
    cond_ind (λ (l : List Entry). suc (length l) ≡ suc (length es)) (eqb e.key x)
    (λ here. refl)
    (λ there. ap suc (length_without x es
    (⊎_elim (λ here. not_both here there) (λ later. later) (or_cases (eqb e.key x) (has x es) t))))

-- rising keys less one rise
pub rises_without : (x : ℕ) (es : List Entry) → rises es ≡ true → rises (without x es) ≡ true
rises_without x es t =
    ⊎_elim
    (λ y. let found = has_at x es y in
    rw (without_at x es t found.0 found.1 found.2) (rises_without_middle es t found.0 (suc found.0) (omega arith)))
    (λ f. rw (without_none x es f) t)
    (true_or_false (has x es))
