-- The calls of a run, and what goes by which call it is, a row for each: what it answers and leaves, which numbers it is made with,
-- whether it begins or steps, and what can be heard. Beside these, `done` goes by the call (in Done), and `CallLocks` (demand 2).
use Rattle.std.specs.Prelude.{ℕ, ◌<◌, Bool, true, false, List, [], ◌∷◌, eqb}
use Rattle.ground.specs.Limits.{word_range}
use Rattle.slots.specs.declared.Op.{Op}
use Rattle.slots.specs.declared.Lock.TheVariants.{None}
use Rattle.slots.specs.declared.Answer.{Answer}
use Rattle.slots.specs.declared.Answer.TheVariants.{Waiting, Moved, Begun, Reported, BadSlot, SlotBusy, SlotIdle, BadPage, BadKey}
use Rattle.slots.specs.declared.State.{State}
use Rattle.slots.specs.Operations.{key_of, information_of}
use Rattle.slots.specs.Heard.{ending}
use Rattle.slots.specs.Begin.{begun}
use Rattle.slots.specs.Report.{reported}
use Rattle.index.specs.Step.{Left, left, stepped}

-- "The order of calls is the schedule." "A run starts with a pool made and has no other making among its calls".
pub data Call : Type 0 where
  begin : ℕ → Op → Call
  step : ℕ → Call
  report : ℕ → Call

-- one call: what it answers and leaves
unfoldable pub called : State → List ℕ → Call → Left
called st ws (begin s op) = left (begun st s op).answer (begun st s op).state ws
called st ws (step s) = stepped st ws s
called st ws (report p) = left (reported st p) st ws

-- A call as a caller can make it. "Keys and information are any 32-bit unsigned numbers." (An operation without information has 0 for it.)
-- Slots and pages are any numbers.
abbrev pub CallInWords : Call → Type 0
CallInWords (begin s op) = (key_of op < word_range) × (information_of op < word_range)
CallInWords (step s) = Unit {0}
CallInWords (report p) = Unit {0}

-- it begins an operation
abbrev pub is_begin : Call → Bool
is_begin (begin s op) = true
is_begin (step s) = false
is_begin (report p) = false

-- it steps slot s
abbrev pub is_step_of : ℕ → Call → Bool
is_step_of s (begin t op) = false
is_step_of s (step t) = eqb t s
is_step_of s (report p) = false

-- what can be heard of it in a run: BadState, BadPool and Damaged never are
abbrev pub answers_of : Call → List Answer
answers_of (begin s op) = Begun ∷ BadSlot ∷ SlotBusy ∷ BadKey ∷ []
answers_of (step s) = Waiting ∷ Moved ∷ BadSlot ∷ SlotIdle ∷ ending
answers_of (report p) = Reported None 0 0 ∷ BadPage ∷ []
