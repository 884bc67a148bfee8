-- The loop's invariant: the first i kinds are copied, with ξ where page p stands, and no lock stands behind them.
use Prim.Native.Nat.{◌≤◌}
use mathlib.Core.Path.{◌≡◌}
use lib.ListN.{length, take}
use Rattle.slots.specs.Parts.{lock_cells, with_xi}
use Rattle.slots.proofs.making.with_xi.Given as goal

abbrev pub invariant-loop-i : goal.invariant-loop-i
invariant-loop-i l =
    (l.i ≤ l.count) × (l.next ≡ lock_cells (with_xi l.p (take l.i l.pages) (take l.i l.locks))) × (length l.pages ≡ 10) × (length l.locks ≡ 10)
