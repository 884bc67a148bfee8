-- The order that slot s leaves for its end, and the slot as given.
use Rattle.lent.proofs.WritingLaws.{requeued_writes}
use Rattle.lent.specs.Layout.{waiting_at, row_length}
use Rattle.lent.specs.Words.{order_in, order_laid, slot_laid}
use Rattle.slots.specs.Book.{leaving}
use Rattle.slots.specs.Parts.{waiting_order}
use Rattle.ground.specs.Tests.{member}
use lib.ListN.{take, drop, get_or}
use mathlib.Core.List.{List, ◌∷◌, ◌++◌}
use mathlib.Core.Path.{◌≡◌, sym, ap, ◌∙◌, subst}
use mathlib.Core.Bool.{true}
use Prim.Native.Nat.{ℕ, ◌≤◌}
use Rattle.lent.proofs.book.requeues.Goals as goal

pub leave_order-requires : goal.leave_order-requires
unfolding waiting_order
leave_order-requires c =
    let w = c.waiting_of-waiting.ensures in (
      c.told-cells,
      subst (λ (n : ℕ). n ≤ row_length) (sym w) c.requires.1,
      subst (λ (n : ℕ). member c.args.s (take n (order_in c.args.cells.now)) ≡ true) (sym w) c.requires.2,
    )

pub returns : goal.returns
returns c =
    let ws = c.args.cells.now in
    let s = c.args.s in
    c.lay.ensures
    ∙ ap (λ (l : List ℕ). slot_laid l s c.args.slot)
    (c.leave_order.ensures
    ∙ ap (λ (n : ℕ). order_laid ws (get_or ws waiting_at 0) (leaving s (take n (order_in ws)) ++ s ∷ drop n (order_in ws))) c.waiting_of-waiting.ensures)
    ∙ requeued_writes ws s c.told-cells c.requires.0 c.args.slot
