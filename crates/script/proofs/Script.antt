-- What the little program writes are the answers of a run, one a good line, with BadLine for every other line.
use Prim.Native.Nat.{ℕ, ◌≤◌, ◌<◌}
use mathlib.Core.List.{List, [], ◌∷◌, ◌++◌, flatten}
use mathlib.Core.Logic.{⊎_elim}
use mathlib.Core.Path.{◌≡◌, refl, sym, ap, subst}
use native.Mathlib.Omega.{arith}
use borrow.Author.Tests.{le-ltb}
use lib.ListN.{length, length-replicate}
use Rattle.ground.specs.Limits.{largest_k, largest_n, word_range}
use Rattle.pool.specs.Pool.{pool_length}
use Rattle.slots.specs.declared.State.{State}
use Rattle.slots.specs.Begin.{begun}
use Rattle.lines.specs.declared.Command.{Command}
use Rattle.lines.specs.declared.Command.TheVariants.{Begin, Step, Bad}
use Rattle.lines.specs.Meaning.{meaning, largest}
use Rattle.lines.specs.Forms.{Good, to_search, to_insert, to_delete, to_next, to_regrade, to_step}
use Rattle.lines.specs.Names.{answer_line, bad_line}
use Rattle.lines.proofs.Grammar.{means_good}
use Rattle.index.specs.Step.{stepped}
use Rattle.talk.specs.Split.{Line, ended, unended, lines_of}
use Rattle.talk.specs.Talk.{commanded, replies, program_k, program_pages, blank, opening, most_bytes, program_writes}
use Rattle.runs.specs.Run.{called, run, fresh_pool, run_from, InWords}
use Rattle.script.specs.Script.{commands_in, calls_by, calls_of, said_to, said_by, ScriptRuns, ProgramIsRun}

-- ---- what is written

-- a command, and the lines behind it
command_run : (c : Command) (st : State) (ws : List ℕ) (lines : List Line)
    → ((next : State) (after : List ℕ) → replies next after lines ≡ flatten (said_by lines (run (calls_of lines) next after).answers))
    → (commanded st ws c).said ++ replies (commanded st ws c).state (commanded st ws c).words lines
    ≡ flatten (said_to (c ∷ commands_in lines) (run (calls_by (c ∷ commands_in lines)) st ws).answers)
unfolding flatten calls_by said_to called run
command_run (Begin s op) st ws lines rest = ap (λ (bs : List ℕ). answer_line (begun st s op).answer ++ bs) (rest (begun st s op).state ws)
command_run (Step s) st ws lines rest =
    ap (λ (bs : List ℕ). answer_line (stepped st ws s).answer ++ bs) (rest (stepped st ws s).state (stepped st ws s).words)
command_run Bad st ws lines rest = ap (λ (bs : List ℕ). bad_line ++ bs) (rest st ws)

replies_run : (lines : List Line) (st : State) (ws : List ℕ) → replies st ws lines ≡ flatten (said_by lines (run (calls_of lines) st ws).answers)
unfolding replies flatten said_to
replies_run [] st ws = refl
replies_run (ended line ∷ lines) st ws = command_run (meaning line) st ws lines (replies_run lines)
replies_run (unended line ∷ lines) st ws = command_run Bad st ws lines (replies_run lines)

-- an input that is not too long is answered line by line
pub program_is_run : ProgramIsRun
unfolding program_writes run_from
program_is_run input h = rw (le-ltb most_bytes (length input) h) (replies_run (lines_of input) opening.state opening.words)

-- ---- it is a run

-- a number of a line is a word
number_word : {n : ℕ} → n ≤ largest → n < word_range
unfolding word_range
number_word h = omega (arith, h)

good_in_words : (line : List ℕ) {c : Command} (rest : List Command) → Good line c → InWords (calls_by rest) → InWords (calls_by (c ∷ rest))
unfolding calls_by
good_in_words line rest (to_search ss ks hs hk e) h = ((number_word hk.small, number_word {n = 0} (omega arith)), h)
good_in_words line rest (to_insert way ss ks is hs hk hi e) h = ((number_word hk.small, number_word hi.small), h)
good_in_words line rest (to_delete way ss ks hs hk e) h = ((number_word hk.small, number_word {n = 0} (omega arith)), h)
good_in_words line rest (to_next ss ks hs hk e) h = ((number_word hk.small, number_word {n = 0} (omega arith)), h)
good_in_words line rest (to_regrade way ss ks is hs hk hi e) h = ((number_word hk.small, number_word hi.small), h)
good_in_words line rest (to_step ss hs e) h = (tt, h)

-- keys and informations of good lines are words
pub script_in_words : (lines : List Line) → InWords (calls_of lines)
unfolding calls_by
script_in_words [] = tt
script_in_words (ended line ∷ lines) =
    let rest = script_in_words lines in
    ⊎_elim
    (λ e. subst (λ (c : Command). InWords (calls_by (c ∷ commands_in lines))) (sym e) rest)
    (λ good. good_in_words line (commands_in lines) good rest)
    (means_good line)
script_in_words (unended line ∷ lines) = script_in_words lines

pub script_runs : ScriptRuns
unfolding largest_k largest_n blank
script_runs input =
    record {
      starts = fresh_pool program_k program_pages blank refl (length-replicate (pool_length program_k program_pages) 0);
      in_words = script_in_words (lines_of input);
    }
