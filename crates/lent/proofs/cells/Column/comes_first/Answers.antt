-- No want comes before it, or it is a conversion.
use Rattle.std.proofs.Common.{Bool, ◌∙◌, ap, sym, ◌||◌}
use Rattle.std.proofs.Math.Bool.{or-false}
use Rattle.lent.proofs.HoldLaws.{converts_words}
use Rattle.lent.specs.Words.{as_read}
use Rattle.slots.specs.Grant.{converts_at}
use Rattle.lent.proofs.cells.Column.comes_first.Goals as goal

pub returns-else-none_before : goal.returns-else-none_before
returns-else-none_before c =
    let own : Bool = converts_at (as_read c.args.self.cells.now) c.args.self.s in
    converts_words c.args.self.cells.now c.args.self.s c.args.self.in_row c.want.ensures c.holds.ensures
    ∙ sym (or-false own)
    ∙ ap (λ (b : Bool). own || b) (sym c.if-none_before.false ∙ c.none_before.ensures)
