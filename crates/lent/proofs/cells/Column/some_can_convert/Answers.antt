-- Whether one of the slots passed wants the page, and holds some page.
use Rattle.lent.proofs.HoldLaws.{any_on}
use Rattle.lent.specs.Holds.{may_convert}
use Rattle.ground.proofs.Tests.{any_below_none}
use native.Mathlib.Omega.{arith}
use mathlib.Core.Path.{sym, ap₂, ◌∙◌}
use mathlib.Core.Bool.{Bool, ◌||◌}
use Rattle.lent.proofs.cells.Column.some_can_convert.Goals as goal

pub loop-t-init : goal.loop-t-init
loop-t-init c = (omega arith, sym (any_below_none (may_convert c.args.self.cells.now c.args.self.s c.args.p)))

pub loop-t-preserved : goal.loop-t-preserved
loop-t-preserved c = (
  omega arith,
  ap₂ (λ (a b : Bool). a || b) c.loop-t.invariant.1 c.can_convert-found.ensures
      ∙ sym (any_on (may_convert c.args.self.cells.now c.args.self.s c.args.p) c.loop-t.t),
)
