-- The numbers of the slot, row by row.
use Rattle.lent.proofs.WritingLaws.{laid_by}
use Rattle.lent.proofs.lifting.lay.Goals as goal

pub returns : goal.returns
returns c =
    laid_by c.args.cells.now c.args.s c.args.slot c.lay_task.ensures c.put.ensures c.from.ensures c.put-2.ensures c.put-3.ensures c.put-4.ensures c.lay_column.ensures c.lay_column-2.ensures
