-- What demands 2 and 3 come to for the little program: of the bytes that it reads and writes. And 02 (iv), (v) and (viii), of the calls of its lines.
use Rattle.std.specs.Prelude.{ℕ, ◌≤◌, Bool, true, not, ◌||◌, ◌≡◌, length}
use mathlib.Core.List.{List, [], ◌++◌, flatten}
use Rattle.ground.specs.Tests.{all}
use Rattle.slots.specs.declared.Answer.{Answer}
use Rattle.lines.specs.Text.{bytes, starts_with}
use Rattle.talk.specs.Split.{Line, ended, unended, lines_of}
use Rattle.talk.specs.Talk.{most_bytes, program_writes}
use Rattle.runs.specs.Run.{Call, run_from}
use Rattle.runs.specs.Done.{Done, nobody, done, plain_answers, ops_of, answers_in}
use Rattle.promises.specs.TopOpen.{TopOpen}
use Rattle.promises.specs.Regrading.{LotStays}
use Rattle.promises.specs.NoBlank.{NoBlank}
use Rattle.script.specs.Script.{said_by, script_calls, script_start}

-- ---- demand 2: BadState, BadPool and Damaged are never said

-- the bytes of a line
abbrev pub text_of : Line → List ℕ
text_of (ended line) = line
text_of (unended line) = line

-- the line is none of the three, nor begins with one
abbrev pub quiet : Line → Bool
quiet line = not (starts_with (bytes "BadState") (text_of line) || starts_with (bytes "BadPool") (text_of line) || starts_with (bytes "Damaged") (text_of line))

-- no line of what is written, whatever was read
abbrev pub NeverSaid : Type 0
NeverSaid = (input : List ℕ) → all quiet (lines_of (program_writes input)) ≡ true

-- ---- demand 3: "list the ended operations, save those answered "no room", in the order of their answers. A plain sorted list,
-- worked through one operation after another, gives the same answers"

-- These answers can be read off an output: one for each good line of the input, and written out they are the output, with
-- BadLine for every other line.
pub record Reads (input output : List ℕ) (heard : List Answer) : Type 0 where
  pub each : length heard ≡ length (script_calls input)
  pub whole : output ≡ flatten (said_by (lines_of input) heard)

-- the operations that ended by these answers
abbrev pub script_done : List ℕ → List Answer → List Done
script_done input heard = done (script_calls input) heard nobody

pub record SortedListSays (input : List ℕ) : Type 0 where
  pub heard : List Answer
  pub read : Reads input (program_writes input) heard
  -- no other answers can be read off it
  pub once : (other : List Answer) → Reads input (program_writes input) other → other ≡ heard
  pub same : answers_in (script_done input heard) ≡ plain_answers (ops_of (script_done input heard)) []

abbrev pub ScriptAgrees : Type 0
ScriptAgrees = (input : List ℕ) → length input ≤ most_bytes → SortedListSays input

-- ---- 02 (iv): wherever the calls of its good lines are cut in two, a lot that is there, and that is not deleted from there on, is at no
-- moment nowhere. What is written are the answers of these calls (`ProgramIsRun`).

abbrev pub ScriptKeepsLots : Type 0
ScriptKeepsLots =
    (input : List ℕ) (before between : List Call) (x : ℕ) → script_calls input ≡ before ++ between
    → LotStays script_start before between x

-- ---- 02 (v): after any of these calls, nobody waits for page 0 or an upper page but for an update by the first way.

abbrev pub ScriptTopOpen : Type 0
ScriptTopOpen =
    (input : List ℕ) (before rest : List Call) → script_calls input ≡ before ++ rest
    → TopOpen (run_from script_start before).state (run_from script_start before).words

-- ---- 02 (viii): after any of these calls there is no lot of a blank tag, and no answer so far has named one.

abbrev pub ScriptNoBlank : Type 0
ScriptNoBlank = (input : List ℕ) (before rest : List Call) → script_calls input ≡ before ++ rest → NoBlank script_start before
