-- Each of the kinds is compared with this one.
use mathlib.Core.Path.{◌∙◌}
use borrow.Author.Rules.{rules}
use borrow.Author.Tests.{tests}
use Rattle.std.proofs.lemmas.Iterator.{YieldsList-from_slice}
use Rattle.std.proofs.lemmas.Iterator.Search.{all_from_yields_List}
use Rattle.slots.specs.declared.Under.{Under}
use Rattle.slots.specs.Locks.{same_lock}
use Rattle.footing.proofs.LookLaws.{all_listed}
use Rattle.footing.proofs.ConvertLaws.{same_kind}
use Rattle.footing.proofs.fitting.all_kind.Goals as goal

pub returns : goal.returns
returns c =
    let lock = c.args.lock in
    all_from_yields_List (λ (u : Under). same_lock u.lock lock) _ _ c.all.result c.all.ensures.ran (YieldsList-from_slice c.args.locks.now (search rules))
    (λ x b q k. search (rules, tests, same_kind))
    ∙ all_listed (λ (u : Under). same_lock u.lock lock) c.args.locks.now
