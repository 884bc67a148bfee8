-- The loop's invariant: of the cells behind the count the first ones passed hold this, and the others are as they were.
use Rattle.std.proofs.Common.{◌≡◌, ◌++◌}
use Rattle.std.proofs.Math.ListN.{drop, replicate}
use Rattle.slots.proofs.making.keep_first.Given as goal

abbrev pub invariant-loop-cell : goal.invariant-loop-cell
invariant-loop-cell g l = l.cell-items ≡ replicate l.cell-index l.none ++ drop l.cell-index l.initial.cell-items
