-- The cell behind those that wait, and their number.
use Rattle.lent.proofs.WritingLaws.{joined}
use Rattle.lent.proofs.book.join_order.Goals as goal

pub returns : goal.returns
returns c = joined c.args.cells.now c.args.waiting c.args.s c.told-cells c.requires.0
