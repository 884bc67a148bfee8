-- Case splits: a choice by a test, taken apart once for all.
use Prim.Native.Nat.{ℕ}
use mathlib.Core.Bool.{Bool, true, false, cond}
use mathlib.Core.Logic.{◌⊎◌, inl, inr, ⊎_elim, ◌≢◌}
use mathlib.Core.Path.{◌≡◌, refl, sym, subst}
use borrow.Author.Tests.{eqb-true, eqb-false}
use lib.Dec.{eqb}
use Rattle.ground.proofs.Bools.{true_or_false}

-- what follows from a test's success and from its failure holds
pub by_test : {X : Type 0} (b : Bool) → (b ≡ true → X) → (b ≡ false → X) → X
by_test b f g = ⊎_elim f g (true_or_false b)

-- two numbers are the same or not
pub same_or_not : (a b : ℕ) → (a ≡ b) ⊎ (a ≢ b)
same_or_not a b = by_test (eqb a b) (λ t. inl (eqb-true a b t)) (λ f. inr (eqb-false a b f))

-- what holds of both branches, each under what the test told, holds of the choice
pub cond_ind {ℓ ℓ'} : {A : Type ℓ} (P : A → Type ℓ') (b : Bool) {x y : A} → (b ≡ true → P x) → (b ≡ false → P y) → P (cond b x y)
cond_ind P true f g = f refl
cond_ind P false f g = g refl

pub cond-true {ℓ} : {A : Type ℓ} {b : Bool} (x y : A) → b ≡ true → cond b x y ≡ x
cond-true x y e = subst (λ (t : Bool). cond t x y ≡ x) (sym e) refl

pub cond-false {ℓ} : {A : Type ℓ} {b : Bool} (x y : A) → b ≡ false → cond b x y ≡ y
cond-false x y e = subst (λ (t : Bool). cond t x y ≡ y) (sym e) refl
