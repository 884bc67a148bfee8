-- Tests over lists and over all numbers below a bound, and the first number that passes one. The rules are written with them.
use Rattle.std.specs.Prelude.{ℕ, zero, suc, ◌-◌, Bool, true, false, cond, not, ◌&&◌, ◌||◌, List, [], ◌∷◌, ◌++◌, eqb, ltb, length, replicate}

-- every element passes
unfoldable pub all : {A : Type 0} → (A → Bool) → List A → Bool
all p [] = true
all p (x ∷ xs) = p x && all p xs

-- how many elements pass
unfoldable pub count : {A : Type 0} → (A → Bool) → List A → ℕ
count p [] = 0
count p (x ∷ xs) = cond (p x) (suc (count p xs)) (count p xs)

-- x stands in the list
unfoldable pub member : ℕ → List ℕ → Bool
member x [] = false
member x (y ∷ ys) = eqb x y || member x ys

-- no number stands in the list twice
unfoldable pub distinct : List ℕ → Bool
distinct [] = true
distinct (x ∷ xs) = not (member x xs) && distinct xs

-- the two lists have no number in common
unfoldable pub apart : List ℕ → List ℕ → Bool
apart xs ys = all (λ x. not (member x ys)) xs

-- every number below n passes
unfoldable pub all_below : ℕ → (ℕ → Bool) → Bool
all_below zero p = true
all_below (suc n) p = all_below n p && p n

-- some number below n passes
unfoldable pub any_below : ℕ → (ℕ → Bool) → Bool
any_below zero p = false
any_below (suc n) p = any_below n p || p n

-- how many numbers below n pass
unfoldable pub count_below : ℕ → (ℕ → Bool) → ℕ
count_below zero p = 0
count_below (suc n) p = cond (p n) (suc (count_below n p)) (count_below n p)

-- the numbers below n that pass, in rising order
unfoldable pub list_below : ℕ → (ℕ → Bool) → List ℕ
list_below zero p = []
list_below (suc n) p = list_below n p ++ cond (p n) (n ∷ []) []

-- the least number below n that passes, or n where none does
unfoldable pub first_below : ℕ → (ℕ → Bool) → ℕ
first_below zero p = zero
first_below (suc n) p = cond (ltb (first_below n p) n) (first_below n p) (cond (p n) n (suc n))

-- a list in an array of n cells: the cells behind it hold this
unfoldable pub filled : {A : Type 0} → A → ℕ → List A → List A
filled none n xs = xs ++ replicate (n - length xs) none

-- of numbers: 0
abbrev pub padded : ℕ → List ℕ → List ℕ
padded n xs = filled 0 n xs
