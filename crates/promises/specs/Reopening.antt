-- A round trip, which 02 (vii) makes: what a run leaves is "a pool that somebody hands us", and the check "accepts words with k and N exactly if
-- they form the B*-tree". So who keeps the words of a pool, at whatever moment, and opens them later with the same k and N, goes on with the lots that
-- were there. An operation that was open then is closed without an answer, and has written nothing.
use Rattle.std.specs.Prelude.{List, ◌≡◌}
use Rattle.slots.specs.declared.Answer.TheVariants.{Opened}
use Rattle.slots.specs.Parts.{idle_state}
use Rattle.index.specs.Step.{Left}
use Rattle.index.specs.Open.{opened}
use Rattle.runs.specs.Run.{Call, Start, IsStart, opened_start, run_from, Run}
use Rattle.runs.specs.Done.{plain_entries, ops_of}
use Rattle.promises.specs.Demand3.{done_in}

-- the words that the run left, opened with the start's k and N
abbrev pub reopened : Start → List Call → Left
reopened start cs = opened start.state.k start.state.n (run_from start cs).words

pub record Reopening (start : Start) (cs : List Call) : Type 0 where
  pub answer : (reopened start cs).answer ≡ Opened
  pub words : (reopened start cs).words ≡ (run_from start cs).words
  -- "Acceptance gives a state with all slots closed."
  pub state : (reopened start cs).state ≡ idle_state start.state.k start.state.n
  -- A run can start there, "the sorted list beginning with its entries": those that the plain list has after the run's ended operations.
  pub starts : IsStart (opened_start start.state.k start.state.n (run_from start cs).words (plain_entries (ops_of (done_in cs (run_from start cs))) start.entries))

abbrev pub ReopeningHolds : Type 0
ReopeningHolds = (start : Start) (cs : List Call) → Run start cs → Reopening start cs
