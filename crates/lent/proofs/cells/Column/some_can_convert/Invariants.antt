-- Whether one of the slots passed wants the page, and holds some page.
use Rattle.lent.specs.Layout.{row_length}
use Rattle.lent.specs.Holds.{may_convert}
use Rattle.ground.specs.Tests.{any_below}
use mathlib.Core.Path.{◌≡◌}
use Prim.Native.Nat.{◌≤◌}
use Rattle.lent.proofs.cells.Column.some_can_convert.Given as goal

abbrev pub invariant-loop-t : goal.invariant-loop-t
invariant-loop-t l = (l.t ≤ row_length) × (l.found ≡ any_below l.t (may_convert l.self.cells.now l.self.s l.p))
