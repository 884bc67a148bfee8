-- A refused beginning leaves the state as given.
use Prim.Native.Nat.{ℕ}
use mathlib.Core.Bool.{true, not, false≢true}
use mathlib.Core.Path.{◌≡◌, refl}
use lib.Dec.{ltb}
use Rattle.ground.specs.Limits.{slot_count}
use Rattle.ground.proofs.Choice.{cond_ind}
use Rattle.slots.specs.declared.Op.{Op}
use Rattle.slots.specs.declared.State.{State}
use Rattle.slots.specs.declared.Outcome.{Outcome}
use Rattle.slots.specs.Heard.{refuses}
use Rattle.slots.specs.Operations.{blank_tag}
use Rattle.slots.specs.Parts.{open_at}
use Rattle.slots.specs.Sound.{sound}
use Rattle.slots.specs.Begin.{begun}

pub begin_refused : (st : State) (s : ℕ) (op : Op) → refuses (begun st s op).answer ≡ true → (begun st s op).state ≡ st
unfolding begun
begin_refused st s op =
    cond_ind AsGiven (not (sound st)) (λ _ _. refl)
    (λ _. cond_ind AsGiven (not (ltb s slot_count)) (λ _ _. refl)
    (λ _. cond_ind AsGiven (open_at st s) (λ _ _. refl)
    (λ _. cond_ind AsGiven (blank_tag op) (λ _ _. refl) (λ _ h. absurd (false≢true h)))))
  where
    AsGiven : Outcome → Type 0
    AsGiven o = refuses o.answer ≡ true → o.state ≡ st
