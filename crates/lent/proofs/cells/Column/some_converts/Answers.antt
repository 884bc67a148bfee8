-- One of the slots does.
use Rattle.std.proofs.Common.{◌∙◌, refl, rules}
use Rattle.std.proofs.lemmas.Iterator.{YieldsList-from_range}
use Rattle.std.proofs.lemmas.Iterator.Search.{any_from_yields_List}
use Rattle.lent.proofs.HoldLaws.{any_in_range}
use Rattle.lent.specs.Holds.{other_converts}
use Rattle.lent.specs.Layout.{row_length}
use Rattle.lent.proofs.cells.Column.some_converts.Goals as goal

pub returns : goal.returns
returns c =
    let converts = other_converts c.args.self.cells.now c.args.self.s c.args.p in
    any_from_yields_List converts _ _ c.any.result c.any.ensures.ran (YieldsList-from_range 0 row_length row_length refl refl) (λ x b q k. search rules)
    ∙ any_in_range converts row_length
