-- Which locks clash is told by the row of the slot's own want.
use Rattle.lent.proofs.HoldLaws.{no_clash_words}
use Rattle.lent.proofs.cells.Column.no_clash.Goals as goal

pub returns : goal.returns
returns c =
    no_clash_words c.args.self.cells.now c.args.self.s c.args.self.in_row c.args.row c.requires.1 c.want.ensures c.others_hold.ensures
