-- Whether one of the slots passed holds more than one page.
use Rattle.lent.proofs.HoldLaws.{any_on}
use Rattle.lent.specs.Holds.{is_deep}
use Rattle.ground.proofs.Tests.{any_below_none}
use native.Mathlib.Omega.{arith}
use mathlib.Core.Path.{sym, ap₂, ◌∙◌}
use mathlib.Core.Bool.{Bool, ◌||◌}
use Rattle.lent.proofs.granting.some_deep.Goals as goal

pub loop-t-init : goal.loop-t-init
loop-t-init c = (omega arith, sym (any_below_none (is_deep c.args.cells.now)))

pub loop-t-preserved : goal.loop-t-preserved
loop-t-preserved c =
    let ws = c.args.cells.now in
    let l = c.loop-t in
    (omega arith, ap₂ (λ (a b : Bool). a || b) l.invariant.1 c.is_deep-found.ensures ∙ sym (any_on (is_deep ws) l.t))
