-- The answer is that of the walk from place i on: at the end, at slot s and at an older want that clashes it is known.
use Rattle.lent.specs.Words.{as_read}
use Rattle.slots.proofs.HoldingLaws.{no_older_from}
use Rattle.slots.specs.Grant.{no_older}
use mathlib.Core.Path.{◌≡◌}
use Prim.Native.Nat.{◌≤◌, ◌-◌}
use Rattle.lent.proofs.cells.Column.no_older.Given as goal

abbrev pub invariant-loop-i : goal.invariant-loop-i
invariant-loop-i l = (l.i ≤ l.waiting) × (no_older (as_read l.self.cells.now) l.self.s ≡ no_older_from (as_read l.self.cells.now) l.self.s l.i)

abbrev pub decreases-loop-i : goal.decreases-loop-i
decreases-loop-i l = l.waiting - l.i
