-- The words passed do.
use Rattle.soundness.specs.Checking.{Tells, column_passes}
use mathlib.Core.Path.{◌≡◌}
use mathlib.Core.Bool.{Bool, true}
use Prim.Native.Nat.{ℕ, ◌≤◌}
use Rattle.soundness.proofs.checking.column_passes.Given as goal

abbrev pub invariant-loop-i : goal.invariant-loop-i
invariant-loop-i g l = (l.i ≤ l.count) × ((p : ℕ → Bool) → Tells (goal.F-post g l.test) p → column_passes p l.slot.cells.now l.from l.slot.s l.i ≡ true)
