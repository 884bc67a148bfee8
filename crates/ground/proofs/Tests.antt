-- Laws of the tests over lists and over all numbers below a bound. For each: of nothing, of one more, what it tells
-- and what tells it.
use Prim.Native.Nat.{ℕ, zero, suc, ◌+◌, ◌≤◌, ◌<◌}
use mathlib.Core.Bool.{Bool, true, false, cond, not, ◌&&◌, ◌||◌, and_assoc, and-false, and-true, or_assoc, or-false, false≢true, true≢false}
use mathlib.Core.List.{List, [], ◌∷◌, ◌++◌, append-nil, reverse, reverse-cons}
use mathlib.Core.Logic.{◌⊎◌, inl, inr, ⊎_elim, ◌≢◌}
use mathlib.Core.Path.{◌≡◌, refl, sym, ap, ap₂, ◌∙◌, subst}
use native.Mathlib.Nat.{le_of_suc-le-suc, not-suc-le-zero, eq-or-lt_of_le, ne_of_lt}
use native.Mathlib.Omega.{arith}
use borrow.Author.Tests.{ltb-true, ltb-false, eqb-true, eq-eqb, ne_eqb, not-true}
use lib.Dec.{eqb, ltb}
use lib.ListN.{length, get_or, take, drop, length-append, length-take, take-append-drop, get_or-append}
use lib.Seq.{take-suc, get_or-append_seam, get_or-take, drop-append-le}
use Rattle.std.specs.List.{list_any}
use Rattle.ground.specs.Tests.{all, count, member, distinct, apart, all_below, any_below, count_below, list_below, first_below}
use Rattle.ground.proofs.Bools.{and_first, and_second, and_both, and_fails, or_first, or_second, or_cases, not_of_false, true_or_false, not_both, same_if_true_together, false_if_not_true}
use Rattle.ground.proofs.Choice.{cond_ind, cond-true, cond-false}

module _ {A : Type 0} (p : A → Bool) where
  -- ---- every element passes

  -- in an empty list every element passes
  pub all_none : all p [] ≡ true
  unfolding all
  all_none = refl

  -- every element of two lists passes where every element of each does
  pub all_append : (xs ys : List A) → all p (xs ++ ys) ≡ all p xs && all p ys
  unfolding all
  all_append [] ys = refl
  all_append (x ∷ xs) ys = ap (λ (b : Bool). p x && b) (all_append xs ys) ∙ sym (and_assoc (p x) (all p xs) (all p ys))

  -- one element more
  pub all_more : (xs : List A) (i : ℕ) (d : A) → i < length xs → all p (take (suc i) xs) ≡ all p (take i xs) && p (get_or xs i d)
  unfolding all
  all_more xs i d h =
      ap (all p) (take-suc xs i d h)
      ∙ all_append (take i xs) (get_or xs i d ∷ [])
      ∙ ap (λ (b : Bool). all p (take i xs) && b) (and-true (p (get_or xs i d)))

  -- every element passes, so the one at index i does
  pub all_at : (xs : List A) (d : A) → all p xs ≡ true → (i : ℕ) → i < length xs → p (get_or xs i d) ≡ true
  unfolding all
  all_at [] d t i h = absurd (not-suc-le-zero h)
  all_at (x ∷ xs) d t zero h = and_first (p x) (all p xs) t
  all_at (x ∷ xs) d t (suc i) h = all_at xs d (and_second (p x) (all p xs) t) i (le_of_suc-le-suc h)

  -- the element at each index passes, so every element does
  pub all_from : (xs : List A) (d : A) → ((i : ℕ) → i < length xs → p (get_or xs i d) ≡ true) → all p xs ≡ true
  unfolding all
  all_from [] d f = refl
  all_from (x ∷ xs) d f = and_both (f 0 (omega arith)) (all_from xs d (λ i h. f (suc i) (omega arith)))

  -- the element at index i fails, so not every element passes
  pub all_stops : (xs : List A) (d : A) (i : ℕ) → i < length xs → p (get_or xs i d) ≡ false → all p xs ≡ false
  all_stops xs d i h f = false_if_not_true (all p xs) (λ t. not_both (all_at xs d t i h) f)

  -- ---- how many elements pass

  -- of two lists as many pass as of each together
  pub count_append : (xs ys : List A) → count p (xs ++ ys) ≡ count p xs + count p ys
  unfolding count
  count_append [] ys = omega arith
  count_append (x ∷ xs) ys = one_more (p x) (count p xs) (count p ys) (count_append xs ys)
    where
      one_more : {n : ℕ} (b : Bool) (m l : ℕ) → n ≡ m + l → cond b (suc n) n ≡ cond b (suc m) m + l
      one_more true m l e = omega arith
      one_more false m l e = e

  -- at most all elements pass
  pub count_most : (xs : List A) → count p xs ≤ length xs
  unfolding count
  count_most [] = omega arith
  count_most (x ∷ xs) =
      let rest = count_most xs in
      cond_ind (λ (n : ℕ). n ≤ suc (length xs)) (p x) (λ y. omega arith) (λ n. omega arith)

  -- one element more
  pub count_more : (xs : List A) (i : ℕ) (d : A) → i < length xs
      → count p (take (suc i) xs) ≡ count p (take i xs) + cond (p (get_or xs i d)) 1 0
  unfolding count
  count_more xs i d h = ap (count p) (take-suc xs i d h) ∙ count_append (take i xs) (get_or xs i d ∷ [])

  -- of a list turned round as many pass
  pub count_reverse : (xs : List A) → count p (reverse xs) ≡ count p xs
  unfolding count
  count_reverse [] = refl
  count_reverse (x ∷ xs) =
      ap (count p) (reverse-cons x xs) ∙ count_append (reverse xs) (x ∷ []) ∙ one_more (p x) (count_reverse xs)
    where
      one_more : {c d : ℕ} (b : Bool) → c ≡ d → c + cond b 1 0 ≡ cond b (suc d) d
      one_more true e = omega arith
      one_more false e = omega arith

-- ---- a number stands in a list

-- the library's test for an element
pub member_any : (x : ℕ) (xs : List ℕ) → list_any (λ (y : ℕ). eqb y x) xs ≡ member x xs
unfolding member
member_any x [] = refl
member_any x (y ∷ xs) =
    ap₂ (λ (b c : Bool). b || c)
    (same_if_true_together (eqb y x) (eqb x y) (λ h. eq-eqb x y (sym (eqb-true y x h))) (λ h. eq-eqb y x (sym (eqb-true x y h))))
    (member_any x xs)

-- no number stands in an empty list
pub member_none : (x : ℕ) → member x [] ≡ false
unfolding member
member_none x = refl

-- a number stands in a list that begins with it,
pub member_here : (x : ℕ) (xs : List ℕ) → member x (x ∷ xs) ≡ true
unfolding member
member_here x xs = or_first (member x xs) (eq-eqb x x refl)

-- and where it stands behind another
pub member_there : (y x : ℕ) (xs : List ℕ) → member x xs ≡ true → member x (y ∷ xs) ≡ true
unfolding member
member_there y x xs m = or_second (eqb x y) m

-- it stands in front or behind
pub member_cases : (x y : ℕ) (xs : List ℕ) → member x (y ∷ xs) ≡ true → (x ≡ y) ⊎ (member x xs ≡ true)
unfolding member
member_cases x y xs m = ⊎_elim (λ e. inl (eqb-true x y e)) inr (or_cases (eqb x y) (member x xs) m)

-- what stands in a list of one number is that number
pub member_one : (x y : ℕ) → member x (y ∷ []) ≡ true → x ≡ y
member_one x y m = ⊎_elim (λ e. e) (λ h. not_both h (member_none x)) (member_cases x y [] m)

-- with another number in front it stands in a list where it did
pub member_other : (y x : ℕ) (xs : List ℕ) → x ≢ y → member x xs ≡ member x (y ∷ xs)
unfolding member
member_other y x xs n = sym (ap (λ (b : Bool). b || member x xs) (ne_eqb x y n))

-- a number stands in two lists where it stands in one of them
pub member_append : (x : ℕ) (xs ys : List ℕ) → member x (xs ++ ys) ≡ member x xs || member x ys
unfolding member
member_append x [] ys = refl
member_append x (y ∷ xs) ys =
    ap (λ (b : Bool). eqb x y || b) (member_append x xs ys) ∙ sym (or_assoc (eqb x y) (member x xs) (member x ys))

-- a number that stands further behind stands in the list
pub member_inside : (x : ℕ) (xs ys : List ℕ) → member x (xs ++ x ∷ ys) ≡ true
member_inside x xs ys = member_append x xs (x ∷ ys) ∙ or_second (member x xs) (member_here x ys)

-- what stands in a list that ends with y stands before the end, or is y
pub member_last : (x : ℕ) (xs : List ℕ) (y : ℕ) → member x (xs ++ y ∷ []) ≡ true → (member x xs ≡ true) ⊎ (x ≡ y)
member_last x xs y m =
    ⊎_elim inl (λ h. inr (member_one x y h)) (or_cases (member x xs) (member x (y ∷ [])) (sym (member_append x xs (y ∷ [])) ∙ m))

-- the last number put first
pub member_first : (x y : ℕ) (xs : List ℕ) → member x (xs ++ y ∷ []) ≡ true → member x (y ∷ xs) ≡ true
member_first x y xs m =
    ⊎_elim
    (λ h. member_there y x xs h)
    (λ e. subst (λ (z : ℕ). member x (z ∷ xs) ≡ true) e (member_here x xs))
    (member_last x xs y m)

-- behind the first number, more numbers at the end
pub member_wider : (x y : ℕ) (xs more : List ℕ) → member x (y ∷ xs) ≡ true → member x (y ∷ (xs ++ more)) ≡ true
unfolding member
member_wider x y xs more m =
    ⊎_elim
    (λ e. or_first (member x (xs ++ more)) e)
    (λ h. or_second (eqb x y) (member_append x xs more ∙ or_first (member x more) h))
    (or_cases (eqb x y) (member x xs) m)

-- and other numbers before the rest
pub member_behind : (x y : ℕ) (more xs : List ℕ) → member x (y ∷ xs) ≡ true → member x (y ∷ (more ++ xs)) ≡ true
unfolding member
member_behind x y more xs m =
    ⊎_elim
    (λ e. or_first (member x (more ++ xs)) e)
    (λ h. or_second (eqb x y) (member_append x more xs ∙ or_second (member x more) h))
    (or_cases (eqb x y) (member x xs) m)

-- what stands among the first of a list stands in it
pub member_take : (x i : ℕ) (xs : List ℕ) → member x (take i xs) ≡ true → member x xs ≡ true
member_take x i xs m =
    sym (ap (member x) (take-append-drop i xs)) ∙ member_append x (take i xs) (drop i xs) ∙ or_first (member x (drop i xs)) m

-- one element more
pub member_more : (x : ℕ) (xs : List ℕ) (i d : ℕ) → i < length xs
    → member x (take (suc i) xs) ≡ member x (take i xs) || eqb x (get_or xs i d)
unfolding member
member_more x xs i d h =
    ap (member x) (take-suc xs i d h)
    ∙ member_append x (take i xs) (get_or xs i d ∷ [])
    ∙ ap (λ (b : Bool). member x (take i xs) || b) (or-false (eqb x (get_or xs i d)))

-- the element at an index stands in the list
pub member_from : (x : ℕ) (xs : List ℕ) (i d : ℕ) → i < length xs → get_or xs i d ≡ x → member x xs ≡ true
unfolding member
member_from x [] i d h e = absurd (not-suc-le-zero h)
member_from x (y ∷ xs) zero d h e = or_first (member x xs) (eq-eqb x y (sym e))
member_from x (y ∷ xs) (suc i) d h e = or_second (eqb x y) (member_from x xs i d (le_of_suc-le-suc h) e)

-- and so does it among the first n
pub member_among : (x : ℕ) (xs : List ℕ) (n i d : ℕ) → i < length xs → i < n → get_or xs i d ≡ x → member x (take n xs) ≡ true
member_among x xs n i d h l e =
    member_from x (take n xs) i d (omega (arith, length-take n xs)) (get_or-take n xs i d l ∙ e)

-- a number that stands in the list stands there at some index
pub member_at : (x : ℕ) (xs : List ℕ) (d : ℕ) → member x xs ≡ true → (i : ℕ) × (i < length xs) × (get_or xs i d ≡ x)
unfolding member
member_at x [] d t = absurd (false≢true t)
member_at x (y ∷ xs) d t =
    ⊎_elim
    (λ e. (0, omega arith, sym (eqb-true x y e)))
    (λ r. let found = member_at x xs d r in (suc found.0, omega arith, found.2))
    (or_cases (eqb x y) (member x xs) t)

-- a number that does not stand in the list stands there at no index
pub not_member_at : (x : ℕ) (xs : List ℕ) (d : ℕ) → member x xs ≡ false → (i : ℕ) → i < length xs → get_or xs i d ≢ x
not_member_at x xs d f i h e = not_both (member_from x xs i d h e) f

-- a number that stands at no index does not stand in the list
pub not_member_from : (x : ℕ) (xs : List ℕ) (d : ℕ) → ((i : ℕ) → i < length xs → get_or xs i d ≢ x) → member x xs ≡ false
not_member_from x xs d f =
    false_if_not_true (member x xs) (λ m. let found = member_at x xs d m in f found.0 found.1 found.2)

-- every element passes, so each number that stands in the list does
pub all_member : (p : ℕ → Bool) (xs : List ℕ) → all p xs ≡ true → (x : ℕ) → member x xs ≡ true → p x ≡ true
all_member p xs t x m =
    let found = member_at x xs 0 m in
    subst (λ (y : ℕ). p y ≡ true) found.2 (all_at p xs 0 t found.0 found.1)

-- each number that stands in the list passes, so every element does
pub all_from_members : (p : ℕ → Bool) (xs : List ℕ) → ((x : ℕ) → member x xs ≡ true → p x ≡ true) → all p xs ≡ true
all_from_members p xs f = all_from p xs 0 (λ i h. f (get_or xs i 0) (member_from (get_or xs i 0) xs i 0 h refl))

-- not every element passes, so a number of the list fails
pub all_fails_at : (p : ℕ → Bool) (xs : List ℕ) → all p xs ≡ false → (x : ℕ) × (member x xs ≡ true) × (p x ≡ false)
unfolding all
all_fails_at p [] f = absurd (true≢false f)
all_fails_at p (y ∷ ys) f =
    ⊎_elim
    (λ e. (y, member_here y ys, e))
    (λ e. let (x, m, q) = all_fails_at p ys e in (x, member_there y x ys m, q))
    (and_fails (p y) (all p ys) f)

-- ---- no number stands in a list twice

-- in an empty list no number stands twice
pub distinct_none : distinct [] ≡ true
unfolding distinct
distinct_none = refl

-- in two lists no number stands twice where that holds of each and the two are apart
pub distinct_append : (xs ys : List ℕ) → distinct (xs ++ ys) ≡ distinct xs && distinct ys && apart xs ys
unfolding distinct apart all
distinct_append [] ys = sym (and-true (distinct ys))
distinct_append (x ∷ xs) ys =
    ap (λ (b : Bool). not b && distinct (xs ++ ys)) (member_append x xs ys)
    ∙ ap (λ (b : Bool). not (member x xs || member x ys) && b) (distinct_append xs ys)
    ∙ regroup (member x xs) (member x ys) (distinct xs) (distinct ys) (all (λ (y : ℕ). not (member y ys)) xs)
  where
    regroup : (m n a b c : Bool) → not (m || n) && (a && b && c) ≡ not m && a && b && (not n && c)
    regroup true n a b c = refl
    regroup false true a b c = sym (and-false (a && b))
    regroup false false a b c = refl

-- in the first of two lists no number stands twice
pub distinct_front : (xs ys : List ℕ) → distinct (xs ++ ys) ≡ true → distinct xs ≡ true
distinct_front xs ys t =
    and_first (distinct xs) (distinct ys)
    (and_first (distinct xs && distinct ys) (apart xs ys) (sym (distinct_append xs ys) ∙ t))

-- in the second of two lists no number stands twice
pub distinct_back : (xs ys : List ℕ) → distinct (xs ++ ys) ≡ true → distinct ys ≡ true
distinct_back xs ys t =
    and_second (distinct xs) (distinct ys)
    (and_first (distinct xs && distinct ys) (apart xs ys) (sym (distinct_append xs ys) ∙ t))

-- two lists in which together no number stands twice are apart
pub distinct_apart : (xs ys : List ℕ) → distinct (xs ++ ys) ≡ true → apart xs ys ≡ true
distinct_apart xs ys t = and_second (distinct xs && distinct ys) (apart xs ys) (sym (distinct_append xs ys) ∙ t)

-- lists apart, in each of which no number stands twice, have no number twice together
pub distinct_join : (xs ys : List ℕ) → distinct xs ≡ true → distinct ys ≡ true → apart xs ys ≡ true → distinct (xs ++ ys) ≡ true
distinct_join xs ys tx ty ta = distinct_append xs ys ∙ and_both (and_both tx ty) ta

-- a number of the first of two lists that are apart does not stand in the second
pub apart_member : (xs ys : List ℕ) → apart xs ys ≡ true → (x : ℕ) → member x xs ≡ true → member x ys ≡ false
unfolding apart
apart_member xs ys t x m = not-true (member x ys) (all_member (λ (y : ℕ). not (member y ys)) xs t x m)

-- lists are apart where no number of the first stands in the second
pub apart_from : (xs ys : List ℕ) → ((x : ℕ) → member x xs ≡ true → member x ys ≡ false) → apart xs ys ≡ true
unfolding apart
apart_from xs ys f = all_from_members (λ (y : ℕ). not (member y ys)) xs (λ x m. not_of_false (f x m))

-- apart one way is apart the other way
pub apart_swap : (xs ys : List ℕ) → apart xs ys ≡ true → apart ys xs ≡ true
apart_swap xs ys t = apart_from ys xs (λ y m. false_if_not_true (member y xs) (λ i. not_both m (apart_member xs ys t y i)))

-- a list is apart from one number where the number does not stand in it
pub apart_one : (xs : List ℕ) (a : ℕ) → apart xs (a ∷ []) ≡ not (member a xs)
unfolding member
apart_one xs a =
    same_if_true_together
    (apart xs (a ∷ []))
    (not (member a xs))
    (λ t. not_of_false (apart_member (a ∷ []) xs (apart_swap xs (a ∷ []) t) a (or_first false (eq-eqb a a refl))))
    (λ t. apart_swap (a ∷ []) xs
    (apart_from (a ∷ []) xs
    (λ x m. subst (λ (y : ℕ). member y xs ≡ false)
    (sym (eqb-true x a (sym (or-false (eqb x a)) ∙ m)))
    (not-true (member a xs) t))))

-- one number more stands in no list twice if none did and it is new
pub distinct_snoc : (xs : List ℕ) (a : ℕ) → distinct (xs ++ a ∷ []) ≡ distinct xs && not (member a xs)
unfolding distinct member
distinct_snoc xs a =
    distinct_append xs (a ∷ [])
    ∙ ap (λ (b : Bool). b && apart xs (a ∷ [])) (and-true (distinct xs))
    ∙ ap (λ (b : Bool). distinct xs && b) (apart_one xs a)

-- one element more
pub distinct_more : (xs : List ℕ) (i d : ℕ) → i < length xs
    → distinct (take (suc i) xs) ≡ distinct (take i xs) && not (member (get_or xs i d) (take i xs))
distinct_more xs i d h = ap distinct (take-suc xs i d h) ∙ distinct_snoc (take i xs) (get_or xs i d)

-- no number stands twice, so what stands at two indices differs
pub distinct_at : (xs : List ℕ) (d : ℕ) → distinct xs ≡ true → (i j : ℕ) → i < j → j < length xs → get_or xs i d ≢ get_or xs j d
unfolding distinct
distinct_at [] d t i j l h e = absurd (not-suc-le-zero h)
distinct_at (x ∷ xs) d t i zero l h e = absurd (not-suc-le-zero l)
distinct_at (x ∷ xs) d t zero (suc j) l h e =
    not_both
    (member_from x xs j d (le_of_suc-le-suc h) (sym e))
    (not-true (member x xs) (and_first (not (member x xs)) (distinct xs) t))
distinct_at (x ∷ xs) d t (suc i) (suc j) l h e =
    distinct_at xs d (and_second (not (member x xs)) (distinct xs) t) i j (le_of_suc-le-suc l) (le_of_suc-le-suc h) e

-- what stands at any two indices differs, so no number stands twice
pub distinct_from : (xs : List ℕ) (d : ℕ) → ((i j : ℕ) → i < j → j < length xs → get_or xs i d ≢ get_or xs j d) → distinct xs ≡ true
unfolding distinct
distinct_from [] d f = refl
distinct_from (x ∷ xs) d f =
    and_both
    (not_of_false
    (false_if_not_true (member x xs)
    (λ m. let found = member_at x xs d m in f 0 (suc found.0) (omega arith) (omega arith) (sym found.2))))
    (distinct_from xs d (λ i j l h. f (suc i) (suc j) (omega arith) (omega arith)))

-- ---- numbers below a bound

-- below n + 1 is below n, or n
pub below_or_at : (P : ℕ → Type 0) {i n : ℕ} → i < suc n → (i < n → P i) → P n → P i
below_or_at P h f at = ⊎_elim (λ e. subst P (sym e) at) f (eq-or-lt_of_le (le_of_suc-le-suc h))

-- a number greater than all of a rising list goes on the list at its end
snoc_rises : (xs : List ℕ) (a d : ℕ) → ((i j : ℕ) → i < j → j < length xs → get_or xs i d < get_or xs j d)
    → ((i : ℕ) → i < length xs → get_or xs i d < a) → (i j : ℕ) → i < j → j < length (xs ++ a ∷ [])
    → get_or (xs ++ a ∷ []) i d < get_or (xs ++ a ∷ []) j d
snoc_rises xs a d rising below i j l h =
    let within : j < suc (length xs) = omega (arith, length-append xs (a ∷ [])) in
    below_or_at (λ (z : ℕ). i < z → get_or (xs ++ a ∷ []) i d < get_or (xs ++ a ∷ []) z d)
    within
    (λ inside l'. rw (get_or-append xs (a ∷ []) d i (omega arith), get_or-append xs (a ∷ []) d j inside)
    (rising i j l' inside))
    (λ l'. rw (get_or-append xs (a ∷ []) d i l', get_or-append_seam xs a [] d) (below i l'))
    l

module _ (p : ℕ → Bool) where
  -- ---- every number below n passes

  -- below 0 every number passes
  pub all_below_none : all_below 0 p ≡ true
  unfolding all_below
  all_below_none = refl

  -- one number more
  pub all_below_more : (n : ℕ) → all_below (suc n) p ≡ all_below n p && p n
  unfolding all_below
  all_below_more n = refl

  -- every number below n passes, so each does
  pub all_below_at : (n : ℕ) → all_below n p ≡ true → (i : ℕ) → i < n → p i ≡ true
  unfolding all_below
  all_below_at zero t i h = absurd (not-suc-le-zero h)
  all_below_at (suc n) t i h =
      let before = and_first (all_below n p) (p n) t in
      below_or_at (λ (j : ℕ). p j ≡ true) h (λ l. all_below_at n before i l) (and_second (all_below n p) (p n) t)

  -- each number below n passes, so every one does
  pub all_below_from : (n : ℕ) → ((i : ℕ) → i < n → p i ≡ true) → all_below n p ≡ true
  unfolding all_below
  all_below_from zero f = refl
  all_below_from (suc n) f = and_both (all_below_from n (λ i h. f i (omega arith))) (f n (omega arith))

  -- a number below n fails, so not every one passes
  pub all_below_stops : (n i : ℕ) → i < n → p i ≡ false → all_below n p ≡ false
  all_below_stops n i h f = false_if_not_true (all_below n p) (λ t. not_both (all_below_at n t i h) f)

  -- not every number below n passes, so one fails
  pub all_below_false_at : (n : ℕ) → all_below n p ≡ false → (i : ℕ) × (i < n) × (p i ≡ false)
  unfolding all_below
  all_below_false_at zero f = absurd (true≢false f)
  all_below_false_at (suc n) f =
      ⊎_elim
      (λ b. let found = all_below_false_at n b in (found.0, omega arith, found.2))
      (λ a. (n, omega arith, a))
      (and_fails (all_below n p) (p n) f)

  -- ---- some number below n passes

  -- below 0 no number passes
  pub any_below_none : any_below 0 p ≡ false
  unfolding any_below
  any_below_none = refl

  -- one number more
  pub any_below_more : (n : ℕ) → any_below (suc n) p ≡ any_below n p || p n
  unfolding any_below
  any_below_more n = refl

  -- some number below n passes: this one
  pub any_below_at : (n : ℕ) → any_below n p ≡ true → (i : ℕ) × (i < n) × (p i ≡ true)
  unfolding any_below
  any_below_at zero t = absurd (false≢true t)
  any_below_at (suc n) t =
      ⊎_elim
      (λ b. let found = any_below_at n b in (found.0, omega arith, found.2))
      (λ a. (n, omega arith, a))
      (or_cases (any_below n p) (p n) t)

  -- a number below n passes, so some one does
  pub any_below_from : (n i : ℕ) → i < n → p i ≡ true → any_below n p ≡ true
  unfolding any_below
  any_below_from zero i h t = absurd (not-suc-le-zero h)
  any_below_from (suc n) i h t =
      ⊎_elim
      (λ e. or_second (any_below n p) (subst (λ (j : ℕ). p j ≡ true) e t))
      (λ l. or_first (p n) (any_below_from n i l t))
      (eq-or-lt_of_le (le_of_suc-le-suc h))

  -- no number below n passes, so each fails
  pub any_below_false_at : (n : ℕ) → any_below n p ≡ false → (i : ℕ) → i < n → p i ≡ false
  any_below_false_at n f i h = false_if_not_true (p i) (λ t. not_both (any_below_from n i h t) f)

  -- each number below n fails, so none passes
  pub any_below_fails : (n : ℕ) → ((i : ℕ) → i < n → p i ≡ false) → any_below n p ≡ false
  any_below_fails n f =
      false_if_not_true (any_below n p) (λ t. let found = any_below_at n t in not_both found.2 (f found.0 found.1))

  -- ---- how many numbers below n pass, and which

  -- below 0 none passes
  pub count_below_none : count_below 0 p ≡ 0
  unfolding count_below
  count_below_none = refl

  -- one number more
  pub count_below_more : (n : ℕ) → count_below (suc n) p ≡ cond (p n) (suc (count_below n p)) (count_below n p)
  unfolding count_below
  count_below_more n = refl

  -- one number more that passes
  pub count_below_passes : (n : ℕ) → p n ≡ true → count_below (suc n) p ≡ suc (count_below n p)
  count_below_passes n t = count_below_more n ∙ cond-true (suc (count_below n p)) (count_below n p) t

  -- one number more that fails
  pub count_below_skips : (n : ℕ) → p n ≡ false → count_below (suc n) p ≡ count_below n p
  count_below_skips n f = count_below_more n ∙ cond-false (suc (count_below n p)) (count_below n p) f

  -- each number below n fails, so none passes
  pub count_below_fails : (n : ℕ) → ((i : ℕ) → i < n → p i ≡ false) → count_below n p ≡ 0
  count_below_fails zero f = count_below_none
  count_below_fails (suc n) f = count_below_skips n (f n (omega arith)) ∙ count_below_fails n (λ i h. f i (omega arith))

  -- one of them passes, so the count is not 0
  pub count_below_some : (n i : ℕ) → i < n → p i ≡ true → 0 < count_below n p
  count_below_some zero i h t = absurd (not-suc-le-zero h)
  count_below_some (suc n) i h t =
      ⊎_elim
      (λ q. omega (arith, count_below_passes n q))
      (λ q.
      let below : i < n = below_or_at (λ (j : ℕ). p j ≡ true → j < n) h (λ l _. l) (λ r. not_both r q) t in
      omega (arith, count_below_skips n q, count_below_some n i below t))
      (true_or_false (p n))

  -- at most all numbers below n pass
  pub count_below_most : (n : ℕ) → count_below n p ≤ n
  unfolding count_below
  count_below_most zero = omega arith
  count_below_most (suc n) =
      let before = count_below_most n in
      cond_ind (λ (c : ℕ). c ≤ suc n) (p n) (λ t. omega arith) (λ f. omega arith)

  -- below 0 none passes
  pub list_below_none : list_below 0 p ≡ []
  unfolding list_below
  list_below_none = refl

  -- one number more
  pub list_below_more : (n : ℕ) → list_below (suc n) p ≡ list_below n p ++ cond (p n) (n ∷ []) []
  unfolding list_below
  list_below_more n = refl

  -- one number more that passes stands last in the list
  pub list_below_passes : (n : ℕ) → p n ≡ true → list_below (suc n) p ≡ list_below n p ++ n ∷ []
  list_below_passes n t = list_below_more n ∙ ap (λ (r : List ℕ). list_below n p ++ r) (cond-true (n ∷ []) [] t)

  -- one number more that fails leaves the list
  pub list_below_skips : (n : ℕ) → p n ≡ false → list_below (suc n) p ≡ list_below n p
  list_below_skips n f =
      list_below_more n ∙ ap (λ (r : List ℕ). list_below n p ++ r) (cond-false (n ∷ []) [] f) ∙ append-nil (list_below n p)

  -- the list is as long as numbers pass
  pub length_list_below : (n : ℕ) → length (list_below n p) ≡ count_below n p
  unfolding list_below count_below
  length_list_below zero = refl
  length_list_below (suc n) = one_more (p n) (list_below n p) (length_list_below n)
    where
      one_more : {c : ℕ} (b : Bool) (xs : List ℕ) → length xs ≡ c → length (xs ++ cond b (n ∷ []) []) ≡ cond b (suc c) c
      one_more true xs e = omega (arith, length-append xs (n ∷ []))
      one_more false xs e = ap length (append-nil xs) ∙ e

  -- what stands in the list is below n and passes
  pub list_below_at : (n x : ℕ) → member x (list_below n p) ≡ true → (x < n) × (p x ≡ true)
  unfolding list_below member
  list_below_at zero x m = absurd (false≢true m)
  list_below_at (suc n) x m =
      ⊎_elim
      (λ f. let found = list_below_at n x f in (omega arith, found.1))
      (λ l. last (p n) refl l)
      (or_cases (member x (list_below n p)) (member x (cond (p n) (n ∷ []) []))
      (sym (member_append x (list_below n p) (cond (p n) (n ∷ []) [])) ∙ m))
    where
      last : (b : Bool) → p n ≡ b → member x (cond b (n ∷ []) []) ≡ true → (x < suc n) × (p x ≡ true)
      last true e l = let x≡n = eqb-true x n (sym (or-false (eqb x n)) ∙ l) in (omega arith, ap p x≡n ∙ e)
      last false e l = absurd (false≢true l)

  -- every number below n that passes stands in the list
  pub list_below_from : (n x : ℕ) → x < n → p x ≡ true → member x (list_below n p) ≡ true
  unfolding member
  list_below_from zero x h t = absurd (not-suc-le-zero h)
  list_below_from (suc n) x h t =
      ap (member x) (list_below_more n)
      ∙ member_append x (list_below n p) (cond (p n) (n ∷ []) [])
      ∙ ⊎_elim
      (λ e. or_second (member x (list_below n p))
      (ap (member x) (cond-true (n ∷ []) [] (sym (ap p e) ∙ t)) ∙ or_first false (eq-eqb x n e)))
      (λ l. or_first (member x (cond (p n) (n ∷ []) [])) (list_below_from n x l t))
      (eq-or-lt_of_le (le_of_suc-le-suc h))

  -- what stands at an index of the list is below n and passes
  pub list_below_index : (n i d : ℕ) → i < length (list_below n p)
      → (get_or (list_below n p) i d < n) × (p (get_or (list_below n p) i d) ≡ true)
  list_below_index n i d h =
      let x : ℕ = get_or (list_below n p) i d in
      list_below_at n x (member_from x (list_below n p) i d h refl)

  -- the list rises
  pub list_below_rises : (n d i j : ℕ) → i < j → j < length (list_below n p) → get_or (list_below n p) i d < get_or (list_below n p) j d
  list_below_rises zero d i j l h = absurd (not-suc-le-zero (subst (λ (xs : List ℕ). j < length xs) list_below_none h))
  list_below_rises (suc n) d i j l h =
      let before = list_below_rises n d in
      ⊎_elim
      (λ t. subst (λ (xs : List ℕ). j < length xs → get_or xs i d < get_or xs j d) (sym (list_below_passes n t))
      (snoc_rises (list_below n p) n d before (λ m b. (list_below_index n m d b).0) i j l) h)
      (λ f. subst (λ (xs : List ℕ). j < length xs → get_or xs i d < get_or xs j d) (sym (list_below_skips n f)) (before i j l) h)
      (true_or_false (p n))

  -- no number stands in the list twice
  pub list_below_distinct : (n : ℕ) → distinct (list_below n p) ≡ true
  list_below_distinct n = distinct_from (list_below n p) 0 (λ i j l h. ne_of_lt (list_below_rises n 0 i j l h))

  -- ---- the first number below n that passes

  -- with none below 0, the first is 0
  pub first_below_none : first_below 0 p ≡ 0
  unfolding first_below
  first_below_none = refl

  -- one number more
  pub first_below_more : (n : ℕ) → first_below (suc n) p ≡ cond (ltb (first_below n p) n) (first_below n p) (cond (p n) n (suc n))
  unfolding first_below
  first_below_more n = refl

  -- a is at most n, passes if it is below n, and nothing below it passes
  record IsFirst (n a : ℕ) : Type 0 where
    most : a ≤ n
    passes : a < n → p a ≡ true
    before : (i : ℕ) → i < a → p i ≡ false

  first_below_is : (n : ℕ) → IsFirst n (first_below n p)
  unfolding first_below
  first_below_is zero =
      record { most = omega arith; passes = λ h. absurd (not-suc-le-zero h); before = λ i h. absurd (not-suc-le-zero h) }
  first_below_is (suc n) =
      let f : ℕ = first_below n p in
      let was = first_below_is n in
      cond_ind (IsFirst (suc n)) (ltb f n)
      (λ t. let h = ltb-true f n t in record { most = omega arith; passes = λ l. was.passes h; before = was.before })
      (λ o. let h = ltb-false f n o in
      cond_ind (IsFirst (suc n)) (p n)
      (λ t. record { most = omega arith; passes = λ l. t; before = λ i l. was.before i (omega arith) })
      (λ e. record {
        most = omega arith;
        passes = λ l. absurd (omega arith);
        before = λ i l. below_or_at (λ (j : ℕ). p j ≡ false) l (λ b. was.before i (omega arith)) e;
      }))

  -- the first is at most n
  pub first_below_most : (n : ℕ) → first_below n p ≤ n
  first_below_most n = (first_below_is n).most

  -- where the first is below n, it passes
  pub first_below_passes : (n : ℕ) → first_below n p < n → p (first_below n p) ≡ true
  first_below_passes n = (first_below_is n).passes

  -- nothing below the first passes
  pub first_below_before : (n i : ℕ) → i < first_below n p → p i ≡ false
  first_below_before n = (first_below_is n).before

  -- the first is at most any number that passes
  pub first_below_least : (n i : ℕ) → p i ≡ true → first_below n p ≤ i
  first_below_least n i t =
      ⊎_elim
      (λ l. not_both t (first_below_before n i (ltb-true i (first_below n p) l)))
      (ltb-false i (first_below n p))
      (true_or_false (ltb i (first_below n p)))

  -- a number below n that passes, with none below it that does, is the first
  pub first_below_found : (n a : ℕ) → a < n → p a ≡ true → ((i : ℕ) → i < a → p i ≡ false) → first_below n p ≡ a
  first_below_found n a h t f =
      let least = first_below_least n a t in
      ⊎_elim
      (λ e. e)
      (λ l. not_both (first_below_passes n (omega arith)) (f (first_below n p) l))
      (eq-or-lt_of_le least)

  -- each number below n fails, so the first is n
  pub first_below_fails : (n : ℕ) → ((i : ℕ) → i < n → p i ≡ false) → first_below n p ≡ n
  first_below_fails n f =
      ⊎_elim (λ e. e) (λ l. not_both (first_below_passes n l) (f (first_below n p) l)) (eq-or-lt_of_le (first_below_most n))

  -- the first is n, so each number below n fails
  pub first_below_all_fail : (n : ℕ) → first_below n p ≡ n → (i : ℕ) → i < n → p i ≡ false
  first_below_all_fail n e i h = first_below_before n i (omega arith)

  -- none below n passes and n fails: none below n + 1 passes
  pub first_below_goes_on : (n : ℕ) → first_below n p ≡ n → p n ≡ false → first_below (suc n) p ≡ suc n
  first_below_goes_on n e f =
      first_below_fails (suc n) (λ i h. below_or_at (λ (j : ℕ). p j ≡ false) h (λ l. first_below_all_fail n e i l) f)

  -- none below i passes and i does: below any greater bound i is the first
  pub first_below_stops : (n i : ℕ) → i < n → first_below i p ≡ i → p i ≡ true → first_below n p ≡ i
  first_below_stops n i h e t = first_below_found n i h t (first_below_all_fail i e)

  -- where some number passes, the list begins with the first
  pub list_below_first : (n d : ℕ) → first_below n p < n → get_or (list_below n p) 0 d ≡ first_below n p
  list_below_first n d h =
      let a : ℕ = first_below n p in
      let found = member_at a (list_below n p) d (list_below_from n a h (first_below_passes n h)) in
      let head = list_below_index n 0 d (omega arith) in
      let least = first_below_least n (get_or (list_below n p) 0 d) head.1 in
      first_index found.0 found.2 found.1 least
    where
      first_index : (i : ℕ) → get_or (list_below n p) i d ≡ first_below n p → i < length (list_below n p)
          → first_below n p ≤ get_or (list_below n p) 0 d
          → get_or (list_below n p) 0 d ≡ first_below n p
      first_index zero e l least = e
      first_index (suc i) e l least = let rising = list_below_rises n d 0 (suc i) (omega arith) l in absurd (omega arith)

-- ---- two tests that agree below n

module _ (p q : ℕ → Bool) where
  -- every number passes the one where every number passes the other
  pub all_below_same : (n : ℕ) → ((i : ℕ) → i < n → p i ≡ q i) → all_below n p ≡ all_below n q
  unfolding all_below
  all_below_same zero f = refl
  all_below_same (suc n) f = ap₂ (λ (a b : Bool). a && b) (all_below_same n (λ i h. f i (omega arith))) (f n (omega arith))

  -- some number passes the one where some number passes the other
  pub any_below_same : (n : ℕ) → ((i : ℕ) → i < n → p i ≡ q i) → any_below n p ≡ any_below n q
  unfolding any_below
  any_below_same zero f = refl
  any_below_same (suc n) f = ap₂ (λ (a b : Bool). a || b) (any_below_same n (λ i h. f i (omega arith))) (f n (omega arith))

  -- as many numbers pass the one as the other
  pub count_below_same : (n : ℕ) → ((i : ℕ) → i < n → p i ≡ q i) → count_below n p ≡ count_below n q
  unfolding count_below
  count_below_same zero f = refl
  count_below_same (suc n) f =
      ap₂ (λ (c : ℕ) (b : Bool). cond b (suc c) c) (count_below_same n (λ i h. f i (omega arith))) (f n (omega arith))

  -- the same numbers pass the one and the other
  pub list_below_same : (n : ℕ) → ((i : ℕ) → i < n → p i ≡ q i) → list_below n p ≡ list_below n q
  unfolding list_below
  list_below_same zero f = refl
  list_below_same (suc n) f =
      ap₂ (λ (xs : List ℕ) (b : Bool). xs ++ cond b (n ∷ []) []) (list_below_same n (λ i h. f i (omega arith))) (f n (omega arith))

-- no number below n passes, so the list is empty
pub list_below_fails : (p : ℕ → Bool) (n : ℕ) → ((i : ℕ) → i < n → p i ≡ false) → list_below n p ≡ []
list_below_fails p zero f = list_below_none p
list_below_fails p (suc n) f = list_below_skips p n (f n (omega arith)) ∙ list_below_fails p n (λ i h. f i (omega arith))

-- ---- a test with one passing number taken out: q is p, but that a fails

module _ (p q : ℕ → Bool) (a : ℕ) (passed : p a ≡ true) (fails : q a ≡ false) where
  -- one number less passes
  pub count_below_less : (n : ℕ) → a < n → ((i : ℕ) → i < n → i ≢ a → q i ≡ p i) → count_below n q + 1 ≡ count_below n p
  count_below_less zero h same = absurd (not-suc-le-zero h)
  count_below_less (suc n) h same =
      ⊎_elim
      (λ e. let before = count_below_same q p n (λ i l. same i (omega arith) (omega arith)) in
      omega (arith, count_below_passes p n (sym (ap p e) ∙ passed), count_below_skips q n (sym (ap q e) ∙ fails)))
      (λ l. let less = count_below_less n l (λ i b. same i (omega arith)) in
      let agree = same n (omega arith) (omega arith) in
      ⊎_elim
      (λ t. omega (arith, count_below_passes p n t, count_below_passes q n (agree ∙ t)))
      (λ f. omega (arith, count_below_skips p n f, count_below_skips q n (agree ∙ f)))
      (true_or_false (p n)))
      (eq-or-lt_of_le (le_of_suc-le-suc h))

  -- the first is taken out, so the list loses its first
  pub list_below_less : (n : ℕ) → a < n → ((i : ℕ) → i < a → p i ≡ false) → ((i : ℕ) → i < n → i ≢ a → q i ≡ p i)
      → list_below n q ≡ drop 1 (list_below n p)
  list_below_less zero h first same = absurd (not-suc-le-zero h)
  list_below_less (suc n) h first same =
      ⊎_elim
      (λ e. let none = list_below_fails p n (λ i l. first i (omega arith)) in
      let was = list_below_passes p n (sym (ap p e) ∙ passed) ∙ ap (λ (xs : List ℕ). xs ++ n ∷ []) none in
      list_below_skips q n (sym (ap q e) ∙ fails)
      ∙ list_below_same q p n (λ i l. same i (omega arith) (omega arith))
      ∙ none
      ∙ sym (ap (drop 1) was))
      (λ l. let less = list_below_less n l first (λ i b. same i (omega arith)) in
      let found = member_at a (list_below n p) 0 (list_below_from p n a l passed) in
      list_below_more q n
      ∙ ap₂ (λ (xs : List ℕ) (b : Bool). xs ++ cond b (n ∷ []) []) less (same n (omega arith) (omega arith))
      ∙ sym (drop-append-le 1 (list_below n p) (cond (p n) (n ∷ []) []) (omega arith))
      ∙ sym (ap (drop 1) (list_below_more p n)))
      (eq-or-lt_of_le (le_of_suc-le-suc h))
