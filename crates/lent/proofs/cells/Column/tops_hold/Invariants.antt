-- Whether one of the slots passed has the page on top.
use Rattle.lent.specs.Layout.{row_length}
use Rattle.lent.specs.Holds.{top_holds}
use Rattle.ground.specs.Tests.{any_below}
use mathlib.Core.Path.{◌≡◌}
use Prim.Native.Nat.{◌≤◌}
use Rattle.lent.proofs.cells.Column.tops_hold.Given as goal

abbrev pub invariant-loop-t : goal.invariant-loop-t
invariant-loop-t l = (l.t ≤ row_length) × (l.found ≡ any_below l.t (top_holds l.self.cells.now l.self.s l.row l.p))
