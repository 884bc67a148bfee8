-- The branch is the test by which `between_at` chooses. With at least one key, a place that is not below μ is not 0.
use mathlib.Core.Path.{sym, ◌∙◌}
use native.Mathlib.Omega.{arith}
use Rattle.page.specs.Words.{view}
use Rattle.page.proofs.ReadingLaws.{readable_μ, between_right, between_left}
use Rattle.page.proofs.reading.Page.between_at.Goals as goal

pub returns-then-i-count : goal.returns-then-i-count
returns-then-i-count c =
    let place = c.place-i in
    let count = c.count in
    let m = count.ensures ∙ sym (readable_μ c.args.self.words.now c.args.self.readable) in
    record { value = between_right c.args.x place.result count.result (view c.args.self.words.now) place.ensures.value m c.if-i-count.true; upper_bound = omega arith }

pub returns-else-i-count : goal.returns-else-i-count
returns-else-i-count c =
    let place = c.place-i in
    let count = c.count in
    let m = count.ensures ∙ sym (readable_μ c.args.self.words.now c.args.self.readable) in
    record { value = between_left c.args.x place.result count.result (view c.args.self.words.now) place.ensures.value m c.if-i-count.false; upper_bound = omega arith }
