-- The loop's invariant: whether ξ stands before α is what is asked from cell i on, by whether there was α.
use Prim.Native.Nat.{◌≤◌}
use mathlib.Core.Path.{◌≡◌}
use lib.ListN.{length}
use Rattle.slots.specs.Parts.{stand_of}
use Rattle.footing.specs.Granted.{locks_in_turn}
use Rattle.footing.specs.Fitting.{xi_then_alpha}
use Rattle.footing.proofs.TurnLaws.{follow_from}
use Rattle.footing.proofs.converting.xi_then_alpha.Given as goal

abbrev pub invariant-loop-i : goal.invariant-loop-i
invariant-loop-i l =
    (l.i ≤ l.slot.depth)
    × (l.slot.depth ≤ 10)
    × (l.slot.breadth ≤ 10)
    × ((length l.slot.locks ≡ 10) × (length l.slot.sidelocks ≡ 10))
    × (xi_then_alpha (locks_in_turn (stand_of l.fn.op l.slot)) ≡ follow_from l.slot l.alpha l.i)
