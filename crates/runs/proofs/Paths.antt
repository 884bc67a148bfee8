-- Laws of paths: a slot's path goes from the top downward, the way of a key from the leaf upward. What is said of a list is said
-- here of the list turned round, and of a stretch of a list.
use Prim.Native.Nat.{ℕ, zero, suc, ◌+◌, ◌≤◌, ◌<◌}
use native.Mathlib.Omega.{arith}
use mathlib.Core.List.{List, [], ◌∷◌, ◌++◌, reverse, reverse-cons, head-eq_of_cons-eq, tail-eq_of_cons-eq}
use mathlib.Core.Bool.{true, false≢true}
use mathlib.Core.Path.{◌≡◌, refl, sym, ap, ◌∙◌}
use lib.ListN.{length, get_or, take, drop, length-append, length-drop, take-append-drop}
use lib.Seq.{get_or-drop, drop-drop}
use Rattle.ground.specs.Tests.{member}
use Rattle.ground.proofs.Bools.{same_if_true_together}
use Rattle.footing.specs.Granted.{is_none}
use Rattle.tree.specs.Change.{top_of, below_top}
use Rattle.tree.proofs.Memory.{times, times_append, member_times, times_member}

-- a list of no length is empty
pub no_length : {A : Type 0} (xs : List A) → length xs ≡ 0 → xs ≡ []
no_length [] e = refl
no_length (x ∷ xs) e = absurd (omega arith)

-- and so is one that passes the test of it
pub none_is : {A : Type 0} (xs : List A) → is_none xs ≡ true → xs ≡ []
none_is [] e = refl
none_is (x ∷ xs) e = absurd (false≢true e)

-- ---- what holds at the first index and at those behind it holds at each

pub first_alone : (Q : ℕ → Type 0) → Q 0 → (j : ℕ) → j ≤ 0 → Q j
first_alone Q first zero h = first
first_alone Q first (suc j) h = absurd (omega arith)

pub first_up_to : (n : ℕ) (Q : ℕ → Type 0) → Q 0 → ((j : ℕ) → j ≤ n → Q (suc j)) → (j : ℕ) → j ≤ suc n → Q j
first_up_to n Q first rest zero h = first
first_up_to n Q first rest (suc j) h = rest j (omega arith)

pub first_below : (n : ℕ) (Q : ℕ → Type 0) → Q 0 → ((j : ℕ) → j < n → Q (suc j)) → (j : ℕ) → j < suc n → Q j
first_below n Q first rest zero h = first
first_below n Q first rest (suc j) h = rest j (omega arith)

-- ---- a list turned round

-- has each number as often
pub times_reverse : (q : ℕ) (xs : List ℕ) → times q (reverse xs) ≡ times q xs
times_reverse q [] = refl
times_reverse q (x ∷ xs) =
    let ih = times_reverse q xs in
    ap (times q) (reverse-cons x xs) ∙ times_append q (reverse xs) (x ∷ []) ∙ omega arith

-- and the same numbers
pub member_reverse : (q : ℕ) (xs : List ℕ) → member q (reverse xs) ≡ member q xs
member_reverse q xs =
    same_if_true_together (member q (reverse xs)) (member q xs)
    (λ m. let some = member_times q (reverse xs) m in times_member q xs (omega (arith, times_reverse q xs)))
    (λ m. let some = member_times q xs m in times_member q (reverse xs) (omega (arith, times_reverse q xs)))

-- ---- a stretch of a list

-- a list that has the numbers of another at its beginning begins with it
begins : (xs part : List ℕ) → length part ≤ length xs → ((j : ℕ) → j < length part → get_or xs j 0 ≡ get_or part j 0)
    → xs ≡ part ++ drop (length part) xs
begins xs [] h f = refl
begins [] (p ∷ part) h f = absurd (omega arith)
begins (x ∷ xs) (p ∷ part) h f =
    let rest = begins xs part (omega arith) (λ j b. f (suc j) (omega arith)) in
    λ i. f 0 (omega arith) i ∷ rest i

-- a list that has them from index i on is cut so
pub stretch : (xs part : List ℕ) (i : ℕ) → i + length part ≤ length xs → ((j : ℕ) → j < length part → get_or xs (i + j) 0 ≡ get_or part j 0)
    → xs ≡ take i xs ++ (part ++ drop (i + length part) xs)
stretch xs part i h f =
    let rest : drop i xs ≡ part ++ drop (length part) (drop i xs)
    = begins (drop i xs) part (omega (arith, length-drop i xs)) (λ j b. get_or-drop i xs j 0 ∙ f j b) in
    sym (take-append-drop i xs)
    ∙ ap (λ (ys : List ℕ). take i xs ++ ys) (rest ∙ ap (λ (ys : List ℕ). part ++ ys) (drop-drop (length part) i xs))

-- ---- the top of a path that is given upward

pub top_last : (p : ℕ) (fathers below : List ℕ) (top : ℕ) → p ∷ fathers ≡ below ++ top ∷ []
    → (top_of p fathers ≡ top) × (below_top p fathers ≡ below)
top_last p [] [] top e = (head-eq_of_cons-eq e, refl)
top_last p [] (b ∷ bs) top e = absurd (omega (arith, ap length (tail-eq_of_cons-eq e), length-append bs (top ∷ [])))
top_last p (f ∷ up) [] top e = absurd (omega (arith, ap length (tail-eq_of_cons-eq e)))
top_last p (f ∷ up) (b ∷ bs) top e =
    let ih = top_last f up bs top (tail-eq_of_cons-eq e) in
    (ih.0, (λ i. head-eq_of_cons-eq e i ∷ ih.1 i))
