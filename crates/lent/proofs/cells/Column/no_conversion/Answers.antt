-- The slots that may convert the page, and if there are any, those that do.
use Rattle.std.proofs.Common.{ap, ◌∙◌, not}
use Rattle.lent.proofs.HoldLaws.{conversion_none, conversion_some}
use Rattle.lent.proofs.cells.Column.no_conversion.Goals.{then-some_can_convert, else-some_can_convert}
use Rattle.lent.proofs.cells.Column.no_conversion.Goals as goal

pub returns : goal.returns
returns c =
    elim c.if-some_can_convert.branch [
      | then-some_can_convert w ↦
          ap not w.result-is ∙ conversion_some c.args.self.cells.now c.args.self.s c.args.self.in_row c.want-want.ensures w.some_converts.ensures
      | else-some_can_convert w ↦
          ap not (w.result-is ∙ w.if-some_can_convert.false) ∙ conversion_none c.args.self.cells.now c.args.self.s c.args.self.in_row c.want-want.ensures c.some_can_convert.ensures w.if-some_can_convert.false
    ]
