-- The first kinds are copied, and none stands behind them.
use Rattle.lent.specs.Layout.{column_length}
use Rattle.lent.specs.Words.{lock_column}
use Rattle.slots.specs.declared.Lock.TheVariants.{None}
use Rattle.slots.specs.Parts.{under}
use Rattle.ground.specs.Tests.{filled}
use lib.ListN.{take}
use mathlib.Core.Path.{◌≡◌}
use Prim.Native.Nat.{◌≤◌}
use Rattle.lent.proofs.cells.Column.locks.Given as goal

abbrev pub invariant-loop-j : goal.invariant-loop-j
invariant-loop-j l = (l.j ≤ column_length) × (l.locks ≡ filled (under None) column_length (take l.j (lock_column l.self.cells.now l.row l.self.s)))
