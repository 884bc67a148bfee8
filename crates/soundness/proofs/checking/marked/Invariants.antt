-- The marks passed are counted.
use Rattle.ground.specs.Tests.{count_below}
use Rattle.lent.specs.Layout.{row_length}
use mathlib.Core.Path.{◌≡◌}
use mathlib.Core.Bool.{Bool, false}
use mathlib.Core.List.{List}
use lib.ListN.{get_or}
use Prim.Native.Nat.{ℕ, ◌≤◌}
use Rattle.soundness.proofs.checking.marked.Given as goal

abbrev pub passed : List Bool → ℕ → Bool
passed marks t = get_or marks t false

abbrev pub invariant-loop-s : goal.invariant-loop-s
invariant-loop-s l = (l.s ≤ row_length) × (l.count ≤ l.s) × (l.count ≡ count_below l.s (passed l.marks))
