-- One more waits, and the slot is the fresh one.
use Rattle.lent.proofs.StateLaws.{fresh_halves}
use Rattle.lent.proofs.WritingLaws.{begins_writes}
use Rattle.lent.specs.Words.{order_in, order_laid, slot_laid}
use Rattle.lent.specs.Holds.{InHalves}
use Rattle.slots.specs.declared.Slot.{Slot}
use lib.ListN.{set}
use native.Mathlib.Omega.{arith}
use mathlib.Core.List.{List}
use mathlib.Core.Path.{sym, ap, ap₂, ◌∙◌, subst}
use Prim.Native.Nat.{ℕ, ◌+◌}
use Rattle.lent.proofs.book.begins.Goals as goal

pub lay-requires : goal.lay-requires
lay-requires c =
    let depth = ap (λ (x : Slot). x.depth) c.fresh_slot.ensures in
    let beside = ap (λ (x : Slot). x.breadth) c.fresh_slot.ensures in
    (c.requires.0, omega arith, omega arith, subst InHalves (sym c.fresh_slot.ensures) (fresh_halves c.args.op))

pub returns : goal.returns
returns c =
    let ws = c.args.cells.now in
    let s = c.args.s in
    c.lay.ensures
    ∙ ap₂ (λ (l : List ℕ) (x : Slot). slot_laid l s x)
    (c.join_order.ensures ∙ ap (λ (n : ℕ). order_laid ws (n + 1) (set (order_in ws) n s)) c.waiting_of-waiting.ensures)
    c.fresh_slot.ensures
    ∙ begins_writes ws s c.told-cells c.requires.0 c.args.op
