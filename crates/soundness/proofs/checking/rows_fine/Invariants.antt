-- Whether all rows passed are fine.
use Rattle.soundness.specs.Checking.{row_fine}
use Rattle.lent.specs.Layout.{row_length}
use Rattle.ground.specs.Tests.{all_below}
use mathlib.Core.Path.{◌≡◌}
use Prim.Native.Nat.{◌≤◌}
use Rattle.soundness.proofs.checking.rows_fine.Given as goal

abbrev pub invariant-loop-s : goal.invariant-loop-s
invariant-loop-s l = (l.s ≤ row_length) × (l.good ≡ all_below l.s (row_fine l.cells l.n))
