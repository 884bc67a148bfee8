-- The mask has a bit for each of the slots passed that holds under ξ or α.
use Rattle.soundness.specs.Checking.{excludes}
use Rattle.slots.specs.Report.{mask_below}
use Rattle.lent.specs.Layout.{row_length}
use mathlib.Core.Path.{◌≡◌}
use Prim.Native.Nat.{◌≤◌}
use Rattle.soundness.proofs.checking.excluding.Given as goal

abbrev pub invariant-loop-s : goal.invariant-loop-s
invariant-loop-s l = (l.s ≤ row_length) × (l.mask ≡ mask_below l.s (excludes l.cells))
