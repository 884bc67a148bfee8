-- After i turns the first i free pages stand in the cells, and the other free pages are those from `from` on.
use mathlib.Core.Path.{sym, ◌∙◌}
use native.Mathlib.Omega.{arith}
use lib.ListN.{length-take}
use Rattle.ground.specs.Limits.{most_new}
use Rattle.pool.proofs.LyingLaws.{taking_starts, taking_on, taking_done, taking_stops}
use Rattle.pool.proofs.lying.take_pages.Goals as goal

pub loop-page-init : goal.loop-page-init
unfolding most_new
loop-page-init c = taking_starts c.args.shape.k c.args.shape.n c.args.need c.args.words.now c.requires.2 c.requires.0

pub returns-then-p-shape : goal.returns-then-p-shape
unfolding most_new
returns-then-p-shape c =
    taking_stops c.args.shape.k c.args.shape.n c.args.need c.args.words.now c.requires.2
    c.loop-page.page-items
    c.loop-page.from
    c.loop-page.page-index
    c.loop-page.invariant
    (omega (arith, simp length-take at c.loop-page-test.true))
    (sym c.next_free-p.ensures ∙ c.if-p-shape.true)

pub loop-page-preserved : goal.loop-page-preserved
unfolding most_new
loop-page-preserved c =
    taking_on c.args.shape.k c.args.shape.n c.args.need c.args.words.now c.requires.2
    c.loop-page.page-items
    c.loop-page.from
    c.loop-page.page-index
    c.loop-page.invariant
    c.next_free-p.result
    (omega (arith, simp length-take at c.loop-page-test.true))
    c.next_free-p.ensures
    c.if-p-shape.false

pub returns : goal.returns
unfolding most_new
returns c =
    taking_done c.args.shape.k c.args.shape.n c.args.need c.args.words.now c.requires.2
    c.loop-page.page-items
    c.loop-page.from
    c.loop-page.page-index
    c.loop-page.invariant
    (omega (arith, simp length-take at c.loop-page-test.false))
