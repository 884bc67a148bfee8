-- The mask has a bit for each of the slots passed that holds the page.
use Rattle.lent.specs.Layout.{row_length}
use Rattle.lent.specs.Words.{as_read}
use Rattle.slots.specs.Report.{mask_below}
use Rattle.slots.specs.Parts.{holds_at}
use mathlib.Core.Path.{◌≡◌}
use Prim.Native.Nat.{ℕ, ◌≤◌}
use Rattle.index.proofs.reporting.holders.Given as goal

abbrev pub invariant-loop-s : goal.invariant-loop-s
invariant-loop-s l = (l.s ≤ row_length) × (l.mask ≡ mask_below l.s (λ (t : ℕ). holds_at (as_read l.cells) t l.p))
