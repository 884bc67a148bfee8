-- The fresh slot of the operation by the first way is put where the old one was, and stands last in the waiting order.
use mathlib.Core.Path.{◌≡◌, sym, ap, ◌∙◌, subst}
use native.Mathlib.Omega.{arith}
use Rattle.ground.specs.Limits.{slot_count}
use Rattle.slots.specs.declared.Op.{Op}
use Rattle.slots.specs.declared.Slot.{Slot}
use Rattle.slots.specs.Parts.{fresh_stand, slot_of}
use Rattle.slots.specs.Book.{requeued, goes_on}
use Rattle.lent.specs.Words.{as_read, laid_into}
use Rattle.lent.specs.Holds.{InHalves}
use Rattle.lent.proofs.StateLaws.{fresh_halves}
use Rattle.index.proofs.acting.begin_again.Goals as goal

pub requeues-requires : goal.requeues-requires
unfolding slot_count
requeues-requires c =
    let w = c.requires in
    let depth : c.fresh_slot.result.depth ≡ 0 = ap (λ (slot : Slot). slot.depth) c.fresh_slot.ensures in
    let breadth : c.fresh_slot.result.breadth ≡ 0 = ap (λ (slot : Slot). slot.breadth) c.fresh_slot.ensures in
    (w.inside, w.few, w.named, omega arith, omega arith, subst InHalves (sym c.fresh_slot.ensures) (fresh_halves c.first_way-first.result))

pub returns : goal.returns
unfolding goes_on
returns c =
    let cells = c.args.state.now in
    c.requeues.ensures
    ∙ ap (λ (slot : Slot). laid_into cells c.args.s (requeued (as_read cells) c.args.s slot))
    (c.fresh_slot.ensures ∙ ap (λ (o : Op). slot_of (fresh_stand o)) c.first_way-first.ensures)
