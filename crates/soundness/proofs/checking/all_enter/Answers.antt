-- The path, then the siblings.
use Rattle.soundness.proofs.CheckingLawsSlot.{once_path, once_siblings}
use Rattle.lent.specs.Words.{slot_in}
use Rattle.std.proofs.Common.{rules}
use mathlib.Core.Path.{◌∙◌}
use Rattle.soundness.proofs.checking.all_enter.Goals as goal

pub returns-then-may_enter : goal.returns-then-may_enter
returns-then-may_enter c =
    once_siblings c.args.n c.args.other (slot_in c.args.slot.cells.now c.args.slot.s) {r = c.may_enter.result} (search rules) c.if-may_enter.true (search rules)

pub returns-else-may_enter : goal.returns-else-may_enter
returns-else-may_enter c =
    c.if-may_enter.false
    ∙ once_path c.args.n c.args.other (slot_in c.args.slot.cells.now c.args.slot.s) {r = c.may_enter.result} (search rules) c.if-may_enter.false
