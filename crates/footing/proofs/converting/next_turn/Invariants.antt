-- The loop's invariant: what is left to convert is what is left from cell i on.
use Prim.Native.Nat.{◌≤◌}
use mathlib.Core.Path.{◌≡◌}
use lib.ListN.{length}
use Rattle.slots.specs.Parts.{stand_of}
use Rattle.footing.specs.Granted.{to_convert}
use Rattle.footing.specs.Standing.{turn_of}
use Rattle.footing.proofs.TurnLaws.{left_from}
use Rattle.footing.proofs.converting.next_turn.Given as goal

abbrev pub invariant-loop-i : goal.invariant-loop-i
invariant-loop-i l =
    (l.i ≤ l.slot.depth)
    × (l.slot.depth ≤ 10)
    × (l.slot.breadth ≤ 10)
    × ((length l.slot.path ≡ 10) × (length l.slot.locks ≡ 10) × (length l.slot.beside ≡ 10) × (length l.slot.sidelocks ≡ 10))
    × (turn_of (to_convert (stand_of l.fn.op l.slot)) ≡ turn_of (left_from l.slot l.i))
