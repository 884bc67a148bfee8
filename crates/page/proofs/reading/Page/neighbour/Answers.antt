-- The branch is the test by which `neighbour` chooses. With at least one key, a place that is not below μ is not 0.
use mathlib.Core.Path.{sym, ◌∙◌}
use Rattle.page.specs.Words.{view}
use Rattle.page.proofs.ReadingLaws.{readable_μ, neighbour_right, neighbour_left}
use Rattle.page.proofs.reading.Page.neighbour.Goals as goal

pub returns-then-i-count : goal.returns-then-i-count
returns-then-i-count c =
    let place = c.place-i in
    let count = c.count in
    let m = count.ensures ∙ sym (readable_μ c.args.self.words.now c.args.self.readable) in
    c.pointer.ensures
    ∙ neighbour_right c.args.x place.result count.result (view c.args.self.words.now) place.ensures.value m c.if-i-count.true

pub returns-else-i-count : goal.returns-else-i-count
returns-else-i-count c =
    let place = c.place-i in
    let count = c.count in
    let m = count.ensures ∙ sym (readable_μ c.args.self.words.now c.args.self.readable) in
    c.pointer-else-i-count.ensures
    ∙ neighbour_left c.args.x place.result count.result (view c.args.self.words.now) place.ensures.value m c.if-i-count.false
