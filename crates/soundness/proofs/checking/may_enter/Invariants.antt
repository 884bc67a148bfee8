-- The pages passed may stand beside the other one and the first of the path; a page that may not ends the walk.
use Rattle.soundness.specs.Checking.{may_enter}
use Rattle.lent.specs.Layout.{path_row}
use Rattle.lent.specs.Words.{column}
use lib.ListN.{take}
use mathlib.Core.Path.{◌≡◌}
use mathlib.Core.Bool.{true}
use Prim.Native.Nat.{◌≤◌}
use Rattle.soundness.proofs.checking.may_enter.Given as goal

abbrev pub invariant-loop-i : goal.invariant-loop-i
invariant-loop-i l = (l.i ≤ l.count) × (may_enter l.n l.other (take l.own (column l.slot.cells.now path_row l.slot.s)) (take l.i (column l.slot.cells.now l.row l.slot.s)) ≡ true)
