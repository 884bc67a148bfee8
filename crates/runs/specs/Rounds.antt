-- "if none is begun, 304 rounds that each step every open slot end them all", 608 with 02 (vi): what a round is, and what many rounds are.
use Rattle.std.specs.Prelude.{ℕ, ◌≤◌, ◌<◌, Bool, true, false, ◌||◌, List, [], ◌∷◌, ◌++◌, ◌≡◌, length}
use Rattle.ground.specs.Limits.{slot_count, rounds_enough}
use Rattle.slots.specs.declared.State.{State}
use Rattle.slots.specs.Parts.{open_at}
use Rattle.runs.specs.Calls.{Call, is_begin, is_step_of}
use Rattle.runs.specs.Run.{run}

-- an operation is begun by one of the calls
abbrev pub any_begin : List Call → Bool
any_begin [] = false
any_begin (c ∷ cs) = is_begin c || any_begin cs

-- slot s is stepped by one of the calls
abbrev pub any_step_of : ℕ → List Call → Bool
any_step_of s [] = false
any_step_of s (c ∷ cs) = is_step_of s c || any_step_of s cs

-- A round that starts in this state: steps and reports, in which every slot open at its start is stepped, in any order.
-- Further steps may stand among them.
pub record Round (st : State) (cs : List Call) : Type 0 where
  pub no_begin : any_begin cs ≡ false
  pub every_open : (s : ℕ) → s < slot_count → open_at st s ≡ true → any_step_of s cs ≡ true

-- the calls of many rounds
abbrev pub all_calls : List (List Call) → List Call
all_calls [] = []
all_calls (cs ∷ rest) = cs ++ all_calls rest

-- Rounds one after the other, each judged at the state where it starts.
abbrev pub Rounds : State → List ℕ → List (List Call) → Type 0
Rounds st ws [] = Unit {0}
Rounds st ws (cs ∷ rest) = Round st cs × Rounds (run cs st ws).state (run cs st ws).words rest

-- 02 (vi): "16 × 38 = 608 rounds", or more, from this state on close every slot.
abbrev pub RoundsClose : State → List ℕ → Type 0
RoundsClose st ws =
    (rounds : List (List Call)) → Rounds st ws rounds → rounds_enough ≤ length rounds
    → (s : ℕ) → s < slot_count → open_at (run (all_calls rounds) st ws).state s ≡ false
