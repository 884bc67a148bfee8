-- Of the rows passed none is page p.
use Rattle.lent.specs.Words.{column}
use Rattle.ground.specs.Tests.{member}
use lib.ListN.{take}
use mathlib.Core.Bool.{false}
use mathlib.Core.Path.{◌≡◌}
use Prim.Native.Nat.{◌≤◌}
use Rattle.lent.proofs.cells.Column.has.Given as goal

abbrev pub invariant-loop-j : goal.invariant-loop-j
invariant-loop-j l = (l.j ≤ l.count) × (member l.p (take l.j (column l.self.cells.now l.row l.self.s)) ≡ false)
