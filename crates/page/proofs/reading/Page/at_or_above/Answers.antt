-- The first entry that is not below x is the answer, if there is one.
use mathlib.Core.Path.{sym, ap, ap₂, ◌∙◌}
use native.Mathlib.Omega.{arith}
use Rattle.page.specs.Words.{view}
use Rattle.page.specs.Reading.{nearest}
use Rattle.std.specs.Prelude.{ℕ, Some}
use Rattle.page.proofs.ReadingLaws.{readable_μ, above_found, above_none}
use Rattle.page.proofs.reading.Page.at_or_above.Goals as goal

pub returns-then-count-i : goal.returns-then-count-i
returns-then-count-i c =
    let first = c.keys_below-i in
    let long = readable_μ c.args.self.words.now c.args.self.readable in
    sym (ap nearest (above_none c.args.x (view c.args.self.words.now).entries first.result first.ensures (omega arith)))

pub returns : goal.returns
returns c =
    let first = c.keys_below-i in
    let long = readable_μ c.args.self.words.now c.args.self.readable in
    ap₂ (λ (a b : ℕ). Some (a, b)) c.key.ensures c.value.ensures
    ∙ sym
    (ap nearest (above_found c.args.x (view c.args.self.words.now).entries first.result first.ensures (omega arith)))
