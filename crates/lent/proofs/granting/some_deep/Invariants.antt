-- Whether one of the slots passed holds more than one page.
use Rattle.lent.specs.Layout.{row_length}
use Rattle.lent.specs.Holds.{is_deep}
use Rattle.ground.specs.Tests.{any_below}
use mathlib.Core.Path.{◌≡◌}
use Prim.Native.Nat.{◌≤◌}
use Rattle.lent.proofs.granting.some_deep.Given as goal

abbrev pub invariant-loop-t : goal.invariant-loop-t
invariant-loop-t l = (l.t ≤ row_length) × (l.found ≡ any_below l.t (is_deep l.cells))
