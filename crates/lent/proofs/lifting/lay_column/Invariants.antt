-- The words passed are written down the column.
use Rattle.lent.specs.Layout.{column_length}
use Rattle.lent.specs.Words.{spread, hold_words}
use lib.ListN.{take}
use mathlib.Core.Path.{◌≡◌}
use Prim.Native.Nat.{◌≤◌}
use Rattle.lent.proofs.lifting.lay_column.Given as goal

abbrev pub invariant-loop-j : goal.invariant-loop-j
invariant-loop-j l = (l.j ≤ column_length) × (l.cells ≡ spread l.initial.cells l.row l.s (take l.j (hold_words l.pages l.locks)))
