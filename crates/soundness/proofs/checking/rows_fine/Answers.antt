-- Whether all rows passed are fine.
use Rattle.soundness.specs.Checking.{row_fine}
use Rattle.lent.proofs.HoldLaws.{all_on}
use Rattle.ground.proofs.Tests.{all_below_none}
use native.Mathlib.Omega.{arith}
use mathlib.Core.Path.{sym, ap₂, ◌∙◌}
use mathlib.Core.Bool.{Bool, ◌&&◌}
use Rattle.soundness.proofs.checking.rows_fine.Goals as goal

pub loop-s-init : goal.loop-s-init
loop-s-init c = (omega arith, sym (all_below_none (row_fine c.args.cells.now c.args.n)))

pub loop-s-preserved : goal.loop-s-preserved
loop-s-preserved c = (
  omega arith,
  ap₂ (λ (a b : Bool). a && b) c.loop-s.invariant.1 c.is_fine-good.ensures ∙ sym (all_on (row_fine c.args.cells.now c.args.n) c.loop-s.s),
)
