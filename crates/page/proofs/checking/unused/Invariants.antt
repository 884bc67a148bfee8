-- The loop's invariant: the words passed are 0, or not all are.
use Prim.Native.Nat.{ℕ, ◌≤◌, ◌<◌}
use mathlib.Core.Path.{◌≡◌}
use lib.Dec.{eqb}
use lib.ListN.{get_or, drop}
use Rattle.ground.specs.Tests.{all}
use Rattle.page.proofs.SofarLaws.{Sofar}
use Rattle.page.proofs.checking.unused.Given as goal

abbrev pub invariant-loop-i : goal.invariant-loop-i
invariant-loop-i l = Sofar (all (λ (x : ℕ). eqb x 0) (drop l.from l.w)) l.good ((j : ℕ) → j < l.i → l.from ≤ j → get_or l.w j 0 ≡ 0)
