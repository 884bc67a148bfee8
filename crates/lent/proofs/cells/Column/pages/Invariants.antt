-- The rows passed stand in the array, and 0 behind them.
use Rattle.lent.specs.Layout.{column_length}
use Rattle.lent.specs.Words.{column}
use Rattle.ground.specs.Tests.{padded}
use lib.ListN.{take}
use mathlib.Core.Path.{◌≡◌}
use Prim.Native.Nat.{◌≤◌}
use Rattle.lent.proofs.cells.Column.pages.Given as goal

abbrev pub invariant-loop-j : goal.invariant-loop-j
invariant-loop-j l = (l.j ≤ column_length) × (l.pages ≡ padded column_length (take l.j (column l.self.cells.now l.row l.self.s)))
