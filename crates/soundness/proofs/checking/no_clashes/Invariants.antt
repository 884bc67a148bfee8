-- The slots that hold under ξ or α are taken off their mask from the lowest on; each holds its pages alone.
use Rattle.soundness.proofs.WalkLaws.{Walked}
use Rattle.soundness.proofs.checking.no_clashes.Given as goal

abbrev pub invariant-loop-left : goal.invariant-loop-left
invariant-loop-left l = Walked l.cells l.left

abbrev pub decreases-loop-left : goal.decreases-loop-left
decreases-loop-left l = l.left
