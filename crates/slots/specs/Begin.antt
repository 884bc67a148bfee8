-- Beginning an operation, for every argument. "What the caller hears" of document 01.
use Rattle.std.specs.Prelude.{ℕ, cond, not, ltb}
use Rattle.ground.specs.Limits.{slot_count}
use Rattle.slots.specs.declared.Op.{Op}
use Rattle.slots.specs.declared.State.{State}
use Rattle.slots.specs.declared.Outcome.{Outcome}
use Rattle.slots.specs.declared.Answer.{Answer}
use Rattle.slots.specs.declared.Answer.TheVariants.{Begun, BadState, BadSlot, SlotBusy, BadKey}
use Rattle.slots.specs.Operations.{blank_tag}
use Rattle.slots.specs.Parts.{open_at}
use Rattle.slots.specs.Sound.{sound}
use Rattle.slots.specs.Book.{begins}

abbrev pub outcome : Answer → State → Outcome
outcome a st = record { answer = a; state = st }

-- "Order. Begin: 1, 3, 4."; 02 (viii): "as 8 (BadKey), after SlotBusy"
unfoldable pub begun : State → ℕ → Op → Outcome
begun st s op =
    cond (not (sound st))
    (outcome BadState st)
    (cond (not (ltb s slot_count))
    (outcome BadSlot st)
    (cond (open_at st s) (outcome SlotBusy st) (cond (blank_tag op) (outcome BadKey st) (outcome Begun (begins st s op)))))
