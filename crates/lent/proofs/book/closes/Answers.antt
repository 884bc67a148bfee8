-- The order that slot s leaves, one fewer that wait, and the slot closed.
use Rattle.lent.proofs.StateLaws.{closed_halves}
use Rattle.lent.proofs.WritingLaws.{fewer_laid, closes_writes}
use Rattle.lent.specs.Layout.{waiting_at, row_length}
use Rattle.lent.specs.Words.{order_in, order_laid, slot_laid}
use Rattle.lent.specs.Holds.{InHalves}
use Rattle.slots.proofs.MakingLaws.{member_some}
use Rattle.slots.specs.Book.{leaving}
use Rattle.slots.specs.Parts.{waiting_order}
use Rattle.slots.specs.declared.Slot.{Slot}
use Rattle.ground.specs.Tests.{member}
use lib.ListN.{take, drop, get_or, set}
use native.Mathlib.Omega.{arith}
use mathlib.Core.List.{List, ◌∷◌, ◌++◌}
use mathlib.Core.Path.{◌≡◌, sym, ap, ap₂, ◌∙◌, subst}
use mathlib.Core.Bool.{true}
use Prim.Native.Nat.{ℕ, ◌-◌, ◌≤◌}
use Rattle.lent.proofs.book.closes.Goals as goal

pub leave_order-requires : goal.leave_order-requires
unfolding waiting_order
leave_order-requires c =
    let w = c.waiting_of-waiting.ensures in (
      c.told-cells,
      subst (λ (n : ℕ). n ≤ row_length) (sym w) c.requires.1,
      subst (λ (n : ℕ). member c.args.s (take n (order_in c.args.cells.now)) ≡ true) (sym w) c.requires.2,
    )

pub overflow_sub-cells : goal.overflow_sub-cells
unfolding waiting_order
overflow_sub-cells c =
    let some = member_some c.args.s (order_in c.args.cells.now) (get_or c.args.cells.now waiting_at 0) c.requires.2 in
    omega (arith, c.waiting_of-waiting.ensures)

pub lay-requires : goal.lay-requires
lay-requires c =
    let depth = ap (λ (x : Slot). x.depth) c.closed_slot.ensures in
    let beside = ap (λ (x : Slot). x.breadth) c.closed_slot.ensures in
    (c.requires.0, omega arith, omega arith, subst InHalves (sym c.closed_slot.ensures) closed_halves)

pub returns : goal.returns
returns c =
    let ws = c.args.cells.now in
    let s = c.args.s in
    let w = c.waiting_of-waiting.ensures in
    c.lay.ensures
    ∙ ap₂ (λ (l : List ℕ) (x : Slot). slot_laid l s x)
    (ap (λ (l : List ℕ). set l 2 (c.waiting_of-waiting.result - 1)) c.leave_order.ensures
    ∙ fewer_laid ws _ (get_or ws waiting_at 0) (c.waiting_of-waiting.result - 1) c.told-cells
    ∙ ap (λ (n : ℕ). order_laid ws (n - 1) (leaving s (take n (order_in ws)) ++ 0 ∷ drop n (order_in ws))) w)
    c.closed_slot.ensures
    ∙ closes_writes ws s c.told-cells c.requires.0
