-- What the order has named so far are open slots, none twice, and the marks left are those of the other open slots. As many
-- slots are open as wait, so none is left once all that wait are named.
use Rattle.soundness.proofs.CheckingLawsOrder.{Naming}
use Rattle.lent.specs.Layout.{row_length}
use Rattle.lent.specs.Words.{order_in}
use lib.ListN.{length}
use mathlib.Core.Path.{◌≡◌}
use Prim.Native.Nat.{◌≤◌}
use Rattle.soundness.proofs.checking.order_sound.Given as goal

abbrev pub invariant-loop-i : goal.invariant-loop-i
invariant-loop-i l = (l.i ≤ l.waiting) × (l.waiting ≤ row_length) × (length l.unnamed ≡ row_length) × Naming l.initial.unnamed l.unnamed (order_in l.cells) l.i
