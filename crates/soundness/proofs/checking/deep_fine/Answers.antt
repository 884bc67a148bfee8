-- Where no slot holds more than one page there is nothing to look at. Else the slots are asked one behind the other.
use Rattle.std.proofs.Common.{◌∙◌, refl, rules}
use Rattle.std.proofs.lemmas.Iterator.{YieldsList-from_range}
use Rattle.std.proofs.lemmas.Iterator.Search.{all_from_yields_List}
use Rattle.soundness.proofs.CheckingLaws.{all_in_range}
use Rattle.soundness.specs.Checking.{more_fine, deep_fine}
use Rattle.lent.specs.Layout.{row_length}
use Rattle.lent.specs.Holds.{is_deep}
use Rattle.ground.proofs.Tests.{all_below_from, any_below_false_at}
use Rattle.ground.proofs.Bools.{or_first, not_of_false}
use mathlib.Core.Path.{sym}
use Rattle.soundness.proofs.checking.deep_fine.Goals as goal

pub returns-then-not-some_deep : goal.returns-then-not-some_deep
returns-then-not-some_deep c =
    let none = sym c.some_deep.ensures ∙ c.if-not-some_deep.true in
    not_of_false c.if-not-some_deep.true
    ∙ sym
    (all_below_from (deep_fine c.args.cells.now c.args.n) row_length
    (λ s b. or_first (more_fine c.args.cells.now c.args.n s) (not_of_false (any_below_false_at (is_deep c.args.cells.now) row_length none s b))))

pub returns-else-not-some_deep : goal.returns-else-not-some_deep
returns-else-not-some_deep c =
    let fine = deep_fine c.args.cells.now c.args.n in
    all_from_yields_List fine _ _ c.all.result c.all.ensures.ran (YieldsList-from_range 0 row_length row_length refl refl) (λ s b q k. search rules)
    ∙ all_in_range fine row_length
