-- `answer_lines` meets its contract: what is written so far, with the answers to the lines that are left, is the whole.
-- Each answer is at most 8 bytes for each byte of its line, so that there is room for the next.
use mathlib.Core.Path.{refl, sym, ◌∙◌}
use native.Mathlib.Omega.{arith}
use borrow.Author.Rules.{rules}
use Rattle.talk.proofs.Going.{going_start, going_on, going_last, going_done}
use Rattle.talk.proofs.answering.answer_lines.Goals as goal

pub loop-at-init : goal.loop-at-init
loop-at-init c = (going_start _ _ _ _, refl, refl)

pub returns-then-stop-input : goal.returns-then-stop-input
returns-then-stop-input c =
    going_last _ _ _ c.loop-at.invariant.0
    c.loop-at-test.true
    (sym c.line_end-stop.ensures.0 ∙ c.if-stop-input.true)
    c.write_bad_line.ensures.0 c.write_bad_line.ensures.1

pub loop-at-preserved : goal.loop-at-preserved
loop-at-preserved c = (
  going_on _ _ _ c.loop-at.invariant.0
      c.line_end-stop.ensures.0
      (omega (
        arith,
        c.if-stop-input.false,
        c.line_end-stop.ensures.2,
      ))
      c.read_line-command.ensures
      c.obey-end.ensures,
  search rules,
  search rules,
)

pub returns : goal.returns
returns c = going_done _ _ _ c.loop-at.invariant.0 c.loop-at-test.false
