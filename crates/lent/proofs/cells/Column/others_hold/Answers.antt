-- The tops, then the slots that hold more, if there are any.
use Rattle.std.proofs.Common.{◌∙◌, ◌≡◌, length, rules}
use Rattle.lent.proofs.HoldLaws.{others_top, others_shallow, others_deep}
use Rattle.lent.proofs.cells.Column.others_hold.Goals.{Start}
use Rattle.lent.proofs.cells.Column.others_hold.Goals as goal

-- the row has its four places
four : (c : Start) → length c.args.row ≡ 4
four c = search rules

pub returns-then-tops_hold : goal.returns-then-tops_hold
returns-then-tops_hold c =
    c.if-tops_hold.true ∙ others_top c.args.self.cells.now c.args.self.s c.args.row (four (goal.at.returns-then-tops_hold c).Start) c.args.p c.tops_hold.ensures c.if-tops_hold.true

pub returns-else-some_deep : goal.returns-else-some_deep
returns-else-some_deep c =
    c.if-some_deep.false ∙ others_shallow c.args.self.cells.now c.args.self.s c.args.row (four (goal.at.returns-else-some_deep c).Start) c.args.p c.tops_hold.ensures c.if-tops_hold.false c.some_deep.ensures c.if-some_deep.false

pub returns-then-some_deep : goal.returns-then-some_deep
returns-then-some_deep c =
    others_deep c.args.self.cells.now c.args.self.s c.args.row (four (goal.at.returns-then-some_deep c).Start) c.args.p c.tops_hold.ensures c.if-tops_hold.false c.some_deep_holds.ensures
