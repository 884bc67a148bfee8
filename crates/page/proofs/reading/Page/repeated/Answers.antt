-- The test goes over the pointers before pi.
use mathlib.Core.Logic.{◌≢◌}
use mathlib.Core.Path.{◌≡◌, refl}
use native.Mathlib.Omega.{arith}
use borrow.Author.Tests.{tests}
use Rattle.page.specs.Words.{view}
use Rattle.page.specs.Place.{pointer}
use Rattle.std.proofs.Common.{rules}
use Rattle.std.proofs.lemmas.Iterator.{cases_from_any, YieldsList-from_range}
use Rattle.page.proofs.CheckingLaws.{repeated_told}
use Rattle.page.proofs.reading.Page.repeated.Goals as goal

pub returns : goal.returns
returns c =
    let i = c.args.i in
    let P = view c.args.self.words.now in
    repeated_told c.args.self.words.now c.args.self.readable i c.requires.i_bound c.any.result
    (cases_from_any _ _ _ (λ j. pointer j P ≡ pointer i P) (λ j. pointer j P ≢ pointer i P)
    c.any.ensures.ran (YieldsList-from_range 0 i i refl (omega arith)) (λ x q k. search (rules, tests, c.pointer-q.ensures)) (λ x q k. search (rules, tests, c.pointer-q.ensures)))
