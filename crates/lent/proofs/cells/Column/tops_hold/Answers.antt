-- Whether one of the slots passed has the page on top.
use Rattle.lent.proofs.HoldLaws.{any_on}
use Rattle.ground.proofs.Tests.{any_below_none}
use mathlib.Core.Path.{sym, ap₂, ◌∙◌}
use mathlib.Core.Bool.{Bool, ◌||◌}
use Rattle.lent.specs.Holds.{top_holds}
use native.Mathlib.Omega.{arith}
use Rattle.lent.proofs.cells.Column.tops_hold.Goals as goal

pub loop-t-init : goal.loop-t-init
loop-t-init c = (omega arith, sym (any_below_none (top_holds c.args.self.cells.now c.args.self.s c.args.row c.args.p)))

pub loop-t-preserved : goal.loop-t-preserved
loop-t-preserved c = (
  omega arith,
  ap₂ (λ (a b : Bool). a || b) c.loop-t.invariant.1 c.is_top-found.ensures
      ∙ sym (any_on (top_holds c.args.self.cells.now c.args.self.s c.args.row c.args.p) c.loop-t.t),
)
