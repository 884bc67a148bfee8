-- A step in a state of a run, in two cases: nothing changes, or the slot's want is granted.
use Prim.Native.Nat.{ℕ, ◌<◌}
use mathlib.Core.Bool.{true, false}
use mathlib.Core.List.{List}
use mathlib.Core.Logic.{◌⊎◌, inl, inr}
use mathlib.Core.Path.{◌≡◌, refl}
use native.Mathlib.Omega.{arith}
use Rattle.ground.specs.Limits.{slot_count}
use Rattle.ground.proofs.Bools.{not_both}
use Rattle.slots.specs.declared.Op.{Op}
use Rattle.slots.specs.declared.State.{State}
use Rattle.slots.specs.declared.Answer.{Answer}
use Rattle.slots.specs.declared.Answer.TheVariants.{Waiting, BadSlot, SlotIdle}
use Rattle.slots.specs.Heard.{changes_nothing}
use Rattle.slots.specs.Parts.{open_at, Opened}
use Rattle.slots.specs.Grant.{grants}
use Rattle.index.specs.Step.{left, stepped}
use Rattle.runs.proofs.Invariant.{Invariant}
use Rattle.runs.proofs.Calls.{StepOf, no_slot, idle, waits, onward, over, step_of}

-- The step changes nothing, and the slot is none that is granted its want.
pub record Rests (st : State) (ws : List ℕ) (s : ℕ) : Type 0 where
  pub says : Answer
  pub nothing : changes_nothing says ≡ true
  pub does : stepped st ws s ≡ left says st ws
  pub barred : s < slot_count → open_at st s ≡ true → grants st s ≡ false

-- The slot is open and is granted its want.
pub record Goes (st : State) (s : ℕ) : Type 0 where
  pub op : Op
  pub inside : s < slot_count
  pub runs : Opened st s op
  pub granted : grants st s ≡ true

by_step : (st : State) (ws : List ℕ) (inv : Invariant st ws) (s : ℕ) → StepOf st ws inv s → Rests st ws s ⊎ Goes st s
by_step st ws inv s (no_slot b e) = inl (record { says = BadSlot; nothing = refl; does = e; barred = λ c _. absurd (omega (arith, b, c)) })
by_step st ws inv s (idle b c e) = inl (record { says = SlotIdle; nothing = refl; does = e; barred = λ _ o. not_both o c })
by_step st ws inv s (waits op b runs g e) = inl (record { says = Waiting; nothing = refl; does = e; barred = λ _ _. g })
by_step st ws inv s (onward op z b runs g e same stance locked takes) = inr (record { op = op; inside = b; runs = runs; granted = g })
by_step st ws inv s (over op a writes b runs g e ended) = inr (record { op = op; inside = b; runs = runs; granted = g })

pub step_cases : (st : State) (ws : List ℕ) → Invariant st ws → (s : ℕ) → Rests st ws s ⊎ Goes st s
step_cases st ws inv s = by_step st ws inv s (step_of st ws inv s)
