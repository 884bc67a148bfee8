-- The words passed do.
use Rattle.soundness.proofs.CheckingLaws.{passes_none, passes_on, passes_stop}
use Rattle.soundness.specs.Checking.{Tells, column_passes}
use native.Mathlib.Omega.{arith}
use mathlib.Core.Path.{◌≡◌, sym, ap, ◌∙◌}
use Rattle.soundness.proofs.checking.column_passes.Goals as goal

pub loop-i-init : goal.loop-i-init
loop-i-init g c = (omega arith, λ p _. passes_none p c.args.slot.cells.now c.args.from c.args.slot.s)

pub returns-then-not-test : goal.returns-then-not-test
unfolding Tells
returns-then-not-test g c = λ p tells.
    let said = tells c.word.result c.test.result (omega arith) c.test.ensures ∙ ap p c.word.ensures in
    sym (passes_stop p c.args.slot.cells.now c.args.from c.args.slot.s c.loop-i.i c.args.count (omega arith) (sym said ∙ c.if-not-test.true))

pub loop-i-preserved : goal.loop-i-preserved
unfolding Tells
loop-i-preserved g c = (
  omega arith,
  λ p tells.
      let said = tells c.word.result c.test.result (omega arith) c.test.ensures ∙ ap p c.word.ensures in
      passes_on p c.args.slot.cells.now c.args.from c.args.slot.s c.loop-i.i (c.loop-i.invariant.1 p tells) (sym said ∙ c.if-not-test.false),
)

pub returns : goal.returns
returns g c = λ p tells.
    let end : c.loop-i.i ≡ c.args.count = omega arith in
    sym (ap (column_passes p c.args.slot.cells.now c.args.from c.args.slot.s) (sym end) ∙ c.loop-i.invariant.1 p tells)
