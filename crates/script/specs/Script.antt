-- The little program's input as the calls of a run, and its output as their answers. "The little program" of document 01.
use Rattle.std.specs.Prelude.{ℕ, ◌≤◌, ◌≡◌, length}
use mathlib.Core.List.{List, [], ◌∷◌, map, flatten}
use Rattle.slots.specs.declared.Answer.{Answer}
use Rattle.lines.specs.declared.Command.{Command}
use Rattle.lines.specs.declared.Command.TheVariants.{Begin, Step, Bad}
use Rattle.lines.specs.Meaning.{meaning}
use Rattle.lines.specs.Names.{answer_line, bad_line}
use Rattle.talk.specs.Split.{Line, ended, unended, lines_of}
use Rattle.talk.specs.Talk.{program_k, program_pages, blank, most_bytes, program_writes}
use Rattle.runs.specs.Run.{Call, begin, step, Told, Start, fresh_start, run_from, Run}

-- ---- the script

-- what a line asks for; "an unended last one .. gives BadLine", and asks for nothing
abbrev pub command_in : Line → Command
command_in (ended line) = meaning line
command_in (unended line) = Bad

abbrev pub commands_in : List Line → List Command
commands_in lines = map command_in lines

-- the calls that commands name; what is no command calls nothing
unfoldable pub calls_by : List Command → List Call
calls_by [] = []
calls_by (Begin s op ∷ rest) = begin s op ∷ calls_by rest
calls_by (Step s ∷ rest) = step s ∷ calls_by rest
calls_by (Bad ∷ rest) = calls_by rest

abbrev pub calls_of : List Line → List Call
calls_of lines = calls_by (commands_in lines)

-- ---- what is said to it

-- "Each line is answered by one": a good line by the next answer, another by BadLine. Each with its line feed.
unfoldable pub said_to : List Command → List Answer → List (List ℕ)
said_to [] heard = []
said_to (Begin s op ∷ rest) [] = []
said_to (Begin s op ∷ rest) (a ∷ heard) = answer_line a ∷ said_to rest heard
said_to (Step s ∷ rest) [] = []
said_to (Step s ∷ rest) (a ∷ heard) = answer_line a ∷ said_to rest heard
said_to (Bad ∷ rest) heard = bad_line ∷ said_to rest heard

abbrev pub said_by : List Line → List Answer → List (List ℕ)
said_by lines heard = said_to (commands_in lines) heard

-- ---- the run: "It makes a pool with k = 2, N = 64", and makes the calls of the good lines, one after the other

abbrev pub script_calls : List ℕ → List Call
script_calls input = calls_of (lines_of input)

abbrev pub script_start : Start
script_start = fresh_start program_k program_pages blank

abbrev pub script_run : List ℕ → Told
script_run input = run_from script_start (script_calls input)

-- it is a run, as the demands speak of runs
abbrev pub ScriptRuns : Type 0
ScriptRuns = (input : List ℕ) → Run script_start (script_calls input)

-- and what the program writes are its answers, line by line, unless the input is too long
abbrev pub ProgramIsRun : Type 0
ProgramIsRun = (input : List ℕ) → length input ≤ most_bytes → program_writes input ≡ flatten (said_by (lines_of input) (script_run input).answers)
