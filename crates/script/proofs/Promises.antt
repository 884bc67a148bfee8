-- Demands 2 and 3, 02 (iv), (v) and (viii) for the little program.
use Prim.Native.Nat.{ℕ}
use mathlib.Core.Bool.{true}
use mathlib.Core.List.{List, []}
use mathlib.Core.Logic.{⊎_elim}
use mathlib.Core.Path.{◌≡◌, refl, sym, ap, subst, ◌∙◌}
use borrow.Author.Tests.{ltb-false}
use lib.Dec.{ltb}
use lib.ListN.{length}
use Rattle.ground.specs.Tests.{all}
use Rattle.ground.proofs.Bools.{true_or_false}
use Rattle.ground.proofs.Choice.{cond-true}
use Rattle.lines.specs.Text.{starts_with}
use Rattle.lines.specs.Names.{too_long}
use Rattle.talk.specs.Split.{lines_of}
use Rattle.talk.specs.Talk.{opening, most_bytes, program_writes}
use Rattle.runs.specs.Run.{run, run_from, Run}
use Rattle.runs.proofs.Invariant.{Invariant}
use Rattle.runs.proofs.Runs.{holds_after}
use Rattle.runs.proofs.Agreement.{agreement}
use Rattle.promises.proofs.Demand3.{run_before}
use Rattle.promises.proofs.TopOpen.{top_open_holds}
use Rattle.promises.proofs.Regrading.{regrading_holds}
use Rattle.promises.proofs.NoBlank.{no_blank_holds}
use Rattle.script.specs.Script.{commands_in, calls_by, script_calls, script_start, script_run}
use Rattle.script.specs.Promises.{quiet, NeverSaid, ScriptAgrees, ScriptKeepsLots, ScriptTopOpen, ScriptNoBlank}
use Rattle.script.proofs.Script.{program_is_run, script_in_words, script_runs}
use Rattle.script.proofs.Heard.{is_spoken, script_hears, said_quiet}
use Rattle.script.proofs.Reading.{answers_once, each_answered}

-- what holds of a run holds at its start: of the empty input's run
opening_holds : Invariant opening.state opening.words
unfolding lines_of calls_by run run_from
opening_holds = holds_after script_start (script_calls []) (script_runs [])

pub script_heard : (input : List ℕ) → all is_spoken (script_run input).answers ≡ true
unfolding run_from
script_heard input = script_hears (commands_in (lines_of input)) opening.state opening.words opening_holds (script_in_words (lines_of input))

too_long_quiet : all quiet (lines_of too_long) ≡ true
unfolding all starts_with lines_of
too_long_quiet = refl

pub never_said : NeverSaid
unfolding program_writes
never_said input =
    ⊎_elim
    (λ t. ap (λ (bs : List ℕ). all quiet (lines_of bs)) (cond-true too_long _ t) ∙ too_long_quiet)
    (λ f. ap (λ (bs : List ℕ). all quiet (lines_of bs)) (program_is_run input (ltb-false most_bytes (length input) f))
    ∙ said_quiet (commands_in (lines_of input)) (script_run input).answers (script_heard input))
    (true_or_false (ltb most_bytes (length input)))

pub script_agrees : ScriptAgrees
unfolding run_from
script_agrees input h = record {
  heard = (script_run input).answers;
  read = record { each = each_answered (script_calls input) opening.state opening.words; whole = program_is_run input h };
  once = λ other r. answers_once (commands_in (lines_of input)) other (script_run input).answers r.each
      (each_answered (script_calls input) opening.state opening.words) (script_heard input)
      (ap lines_of (sym r.whole ∙ program_is_run input h));
  same = (agreement script_start (script_calls input) (script_runs input)).answers;
}

pub script_keeps_lots : ScriptKeepsLots
script_keeps_lots input before between x e =
    regrading_holds script_start before between x (subst (Run script_start) e (script_runs input))

pub script_top_open : ScriptTopOpen
script_top_open input before rest e =
    top_open_holds script_start before (run_before script_start (script_calls input) before rest e (script_runs input))

pub script_no_blank : ScriptNoBlank
script_no_blank input before rest e =
    no_blank_holds script_start before (run_before script_start (script_calls input) before rest e (script_runs input))
