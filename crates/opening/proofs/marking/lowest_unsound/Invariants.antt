-- The scan stands at page p: every page before it is sound by itself and has its mark.
use Prim.Native.Nat.{ℕ}
use mathlib.Core.Bool.{not}
use mathlib.Core.Path.{◌≡◌}
use Rattle.ground.specs.Tests.{first_below}
use Rattle.opening.specs.Opening.{sound_alone}
use Rattle.opening.proofs.ScanLaws.{Passed}
use Rattle.opening.proofs.marking.lowest_unsound.Given as goal

abbrev pub invariant-loop-p : goal.invariant-loop-p
invariant-loop-p l = (first_below l.p (λ (p : ℕ). not (sound_alone l.shape.k l.shape.n l.words p)) ≡ l.p) × Passed l.shape.k l.words l.marks l.p
