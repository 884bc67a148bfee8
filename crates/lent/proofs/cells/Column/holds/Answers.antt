-- A page is held where it stands on the path or among the siblings.
use Rattle.lent.specs.Words.{slot_in}
use Rattle.slots.proofs.HoldingLaws.{holds_split}
use Rattle.std.proofs.Common.{arith}
use Rattle.std.proofs.lemmas.Grind.{common_steps}
use Rattle.lent.proofs.cells.Column.holds.Goals as goal

pub returns-then-has : goal.returns-then-has
returns-then-has c =
    let split = holds_split (slot_in c.args.self.cells.now c.args.self.s) c.args.p in
    grind (arith, common_steps, split)

pub returns-else-has : goal.returns-else-has
returns-else-has c =
    let split = holds_split (slot_in c.args.self.cells.now c.args.self.s) c.args.p in
    grind (arith, common_steps, split)
