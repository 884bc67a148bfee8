-- What a lock report says of the held pages.
use Prim.Native.Nat.{ℕ, ◌+◌, ◌<◌}
use mathlib.Core.Bool.{true, false, ◌&&◌}
use mathlib.Core.Path.{◌≡◌, refl, sym, ap, ◌∙◌}
use native.Mathlib.Omega.{arith}
use lib.Dec.{eqb}
use borrow.Author.Tests.{eq-eqb}
use Rattle.ground.specs.Limits.{slot_count}
use Rattle.ground.specs.Tests.{count_below}
use Rattle.ground.proofs.Bools.{and_both, and_first_fails}
use Rattle.ground.proofs.Choice.{cond-true, cond-false}
use Rattle.ground.proofs.Tests.{any_below_from, any_below_fails, count_below_fails, count_below_less, first_below_passes, first_below_before, first_below_fails}
use Rattle.slots.specs.declared.Lock.{Lock}
use Rattle.slots.specs.declared.Lock.TheVariants.{None, Rho, Xi, UpdaterRho, Alpha}
use Rattle.slots.specs.declared.State.{State}
use Rattle.slots.specs.Parts.{holds_at}
use Rattle.slots.specs.Locks.{lock_held_at}
use Rattle.slots.specs.Heard.{lock_number}
use Rattle.slots.specs.Report.{holders, lowest_holder, held_under, lock_kind}
use Rattle.slots.proofs.SoundFacts.{SoundState}
use Rattle.slots.proofs.Clashes.{update_alone}

-- "with no holder: none, 0, and 16"
pub record NoHolder (st : State) (p : ℕ) : Type 0 where
  pub count : holders st p ≡ 0
  pub lowest : lowest_holder st p ≡ slot_count
  pub kind : lock_kind st p ≡ None

pub nobody_holds : (st : State) (p : ℕ) → ((s : ℕ) → s < slot_count → holds_at st s p ≡ false) → NoHolder st p
nobody_holds st p h =
    let none : holders st p ≡ 0 = count_below_fails (λ (s : ℕ). holds_at st s p) slot_count h in
    record {
      count = none;
      lowest = first_below_fails (λ (s : ℕ). holds_at st s p) slot_count h;
      kind = cond-false Xi _ (not_under Xi) ∙ cond-false Alpha _ (not_under Alpha) ∙ cond-false UpdaterRho _ (not_under UpdaterRho) ∙ cond-false Rho None (not_under Rho);
    }
  where
    not_under : (lock : Lock) → held_under st p lock ≡ false
    not_under lock = any_below_fails _ slot_count (λ s b. and_first_fails (eqb (lock_number (lock_held_at st s p)) (lock_number lock)) (h s b))

-- The lowest-numbered holder holds the page, and no lower slot does.
pub record LowestHolds (st : State) (p : ℕ) : Type 0 where
  pub holds : holds_at st (lowest_holder st p) p ≡ true
  pub none_below : (s : ℕ) → s < lowest_holder st p → holds_at st s p ≡ false

pub lowest_holds : (st : State) (p : ℕ) → lowest_holder st p < slot_count → LowestHolds st p
lowest_holds st p h = record {
  holds = first_below_passes (λ (s : ℕ). holds_at st s p) slot_count h;
  none_below = λ s. first_below_before (λ (t : ℕ). holds_at st t p) slot_count s;
}

-- a page that a slot holds under this kind
pub held_under_lem : (st : State) (s p : ℕ) (lock : Lock) → s < slot_count → holds_at st s p ≡ true → lock_held_at st s p ≡ lock → held_under st p lock ≡ true
held_under_lem st s p lock b h e =
    any_below_from (λ (t : ℕ). holds_at st t p && eqb (lock_number (lock_held_at st t p)) (lock_number lock)) slot_count s b
    (and_both h (eq-eqb (lock_number (lock_held_at st s p)) (lock_number lock) (ap lock_number e)))

-- A page that a slot holds under ξ has one holder, and the report says ξ.
pub record HeldByUpdate (st : State) (p : ℕ) : Type 0 where
  pub count : holders st p ≡ 1
  pub kind : lock_kind st p ≡ Xi

pub update_holds : (st : State) → SoundState st → (s p : ℕ) → s < slot_count → lock_held_at st s p ≡ Xi → holds_at st s p ≡ true → HeldByUpdate st p
update_holds st f s p b x h =
    record { count = only_one; kind = cond-true Xi _ (held_under_lem st s p Xi b h x) }
  where
    none_else : count_below slot_count (λ (t : ℕ). false) ≡ 0
    none_else = count_below_fails (λ (t : ℕ). false) slot_count (λ _ _. refl)

    only_one : holders st p ≡ 1
    only_one =
        let less : count_below slot_count (λ (t : ℕ). false) + 1 ≡ holders st p =
        count_below_less (λ (t : ℕ). holds_at st t p) (λ (t : ℕ). false) s h refl slot_count b (λ t c n. sym (update_alone st f s t p b c (λ e. n (sym e)) x h)) in
        omega (arith, none_else, less)
