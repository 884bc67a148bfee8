-- A page is met; then its children are gone through, each one level lower. The measure is the level.
use Rattle.opening.proofs.WalkLaws.{Descends}
use Rattle.opening.proofs.hanging.+hangs.Given as goal

abbrev pub decreases-hangs : goal.decreases-hangs
decreases-hangs l = l.level

abbrev pub invariant-loop-i : goal.invariant-loop-i
invariant-loop-i l = Descends l.shape.k l.shape.n l.words l.level l.p l.low l.high l.initial.marks l.m l.i l.from l.marks
