-- Taking tests apart and putting them together: what `and`, `or` and `not` tell of their parts.
use mathlib.Core.Bool.{Bool, true, false, not, ◌&&◌, ◌||◌, true≢false, false≢true}
use mathlib.Core.Logic.{◌⊎◌, inl, inr}
use mathlib.Core.Path.{◌≡◌, refl, sym, ◌∙◌, subst}

-- a test is true or false
pub true_or_false : (a : Bool) → (a ≡ true) ⊎ (a ≡ false)
true_or_false true = inl refl
true_or_false false = inr refl

-- no test is both true and false
pub not_both : {a : Bool} {X : Type 0} → a ≡ true → a ≡ false → X
not_both t f = absurd (true≢false (sym t ∙ f))

-- a test that cannot be true is false
pub false_if_not_true : (a : Bool) → (a ≡ true → ⊥) → a ≡ false
false_if_not_true true h = absurd (h refl)
false_if_not_true false h = refl

-- two tests of which each is true where the other is are equal
pub same_if_true_together : (a b : Bool) → (a ≡ true → b ≡ true) → (b ≡ true → a ≡ true) → a ≡ b
same_if_true_together true b f g = sym (f refl)
same_if_true_together false true f g = g refl
same_if_true_together false false f g = refl

-- both hold, so the first does
pub and_first : (a b : Bool) → a && b ≡ true → a ≡ true
and_first true b e = refl
and_first false b e = e

-- both hold, so the second does
pub and_second : (a b : Bool) → a && b ≡ true → b ≡ true
and_second true b e = e
and_second false b e = absurd (false≢true e)

-- each holds, so both do
pub and_both : {a b : Bool} → a ≡ true → b ≡ true → a && b ≡ true
and_both {b = b} p q = subst (λ (t : Bool). t && b ≡ true) (sym p) q

-- the first fails, so not both hold
pub and_first_fails : {a : Bool} (b : Bool) → a ≡ false → a && b ≡ false
and_first_fails b p = subst (λ (t : Bool). t && b ≡ false) (sym p) refl

-- the second fails, so not both hold
pub and_second_fails : (a : Bool) {b : Bool} → b ≡ false → a && b ≡ false
and_second_fails true q = q
and_second_fails false q = refl

-- not both hold, so one of them fails
pub and_fails : (a b : Bool) → a && b ≡ false → (a ≡ false) ⊎ (b ≡ false)
and_fails true b e = inr e
and_fails false b e = inl refl

-- the first holds, so one does
pub or_first : {a : Bool} (b : Bool) → a ≡ true → a || b ≡ true
or_first b p = subst (λ (t : Bool). t || b ≡ true) (sym p) refl

-- the second holds, so one does
pub or_second : (a : Bool) {b : Bool} → b ≡ true → a || b ≡ true
or_second true q = refl
or_second false q = q

-- one holds: the first or the second
pub or_cases : (a b : Bool) → a || b ≡ true → (a ≡ true) ⊎ (b ≡ true)
or_cases true b e = inl refl
or_cases false b e = inr e

-- each fails, so none holds
pub or_none : {a b : Bool} → a ≡ false → b ≡ false → a || b ≡ false
or_none {b = b} p q = subst (λ (t : Bool). t || b ≡ false) (sym p) q

-- none holds, so the first fails
pub or_first_fails : (a b : Bool) → a || b ≡ false → a ≡ false
or_first_fails true b e = e
or_first_fails false b e = refl

-- none holds, so the second fails
pub or_second_fails : (a b : Bool) → a || b ≡ false → b ≡ false
or_second_fails true b e = absurd (true≢false e)
or_second_fails false b e = e

-- what fails, its negation holds
pub not_of_false : {a : Bool} → a ≡ false → not a ≡ true
not_of_false p = subst (λ (t : Bool). not t ≡ true) (sym p) refl

-- what holds, its negation fails
pub not_of_true : {a : Bool} → a ≡ true → not a ≡ false
not_of_true p = subst (λ (t : Bool). not t ≡ false) (sym p) refl
