-- The wanted page; then all others, if it is no conversion; else the lock of the wanted one, and all.
use Rattle.soundness.proofs.CheckingLawsSlot.{pages_high, pages_plain, pages_converted}
use Rattle.std.proofs.Common.{rules}
use Rattle.soundness.proofs.checking.pages_fine.Goals as goal

pub returns-then-n-want : goal.returns-then-n-want
returns-then-n-want c =
    pages_high c.args.slot.cells.now c.args.n c.args.slot.s c.want-want.ensures c.if-n-want.true

pub returns-then-not-wants_conversion : goal.returns-then-not-wants_conversion
returns-then-not-wants_conversion c =
    pages_plain c.args.slot.cells.now c.args.n c.args.slot.s c.want-want.ensures c.if-n-want.false {c = c.wants_conversion.result} (search rules)
    c.if-not-wants_conversion.true c.all_enter.ensures

pub returns-then-held_lock-eq-ALPHA : goal.returns-then-held_lock-eq-ALPHA
returns-then-held_lock-eq-ALPHA c =
    pages_converted c.args.slot.cells.now c.args.n c.args.slot.s c.want-want.ensures c.if-n-want.false {c = c.wants_conversion.result} (search rules)
    c.if-not-wants_conversion.false
    c.held_lock.result c.held_lock.ensures c.if-held_lock-eq-ALPHA.true c.all_enter-then-held_lock-eq-ALPHA.ensures
