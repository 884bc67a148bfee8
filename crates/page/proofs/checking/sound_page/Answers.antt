-- The test is a conjunction of four parts, asked in its order. Where the first holds, μ is at most 2k, so that the words that
-- the others read are there.
use mathlib.Core.Bool.{cond, ◌&&◌}
use mathlib.Core.Path.{◌≡◌, sym, ◌∙◌}
use Rattle.page.specs.Words.{view, is_leaf, pointers}
use Rattle.page.specs.Sound.{rises, no_blank, good_pointers}
use Rattle.page.specs.Reading.{in_shape}
use Rattle.ground.proofs.Bools.{and_first_fails}
use Rattle.page.proofs.CheckingLaws.{shape_readable, some_fails, zeros_left}
use Rattle.page.proofs.checking.sound_page.Goals.{then-rising, else-rising, Joined-rising}
use Rattle.page.proofs.checking.sound_page.Goals as goal

-- what the first three tests tell
three : (c : Joined-rising)
    → c.if-rising.value
    ≡ in_shape c.args.k c.args.p c.args.w.now
    && rises (view c.args.w.now).entries
    && cond (is_leaf (view c.args.w.now)) (no_blank (view c.args.w.now).entries) (good_pointers c.args.n (pointers (view c.args.w.now)))
three c =
    let shape = sym c.in_shape.ensures ∙ c.if-not-in_shape.false in
    elim c.if-rising.branch [
      | then-rising w ↦ rw (shape, sym c.rising.ensures ∙ w.if-rising.true) (w.value-is ∙ w.sound_on_level.ensures)
      | else-rising w ↦ rw (shape, sym c.rising.ensures ∙ w.if-rising.false) (w.value-is ∙ w.if-rising.false)
    ]

pub returns-then-not-in_shape : goal.returns-then-not-in_shape
returns-then-not-in_shape c =
    some_fails c.args.k c.args.n c.args.p c.args.w.now
    (and_first_fails _ (and_first_fails _ (sym c.in_shape.ensures ∙ c.if-not-in_shape.true)))

pub invariant_of-page : goal.invariant_of-page
invariant_of-page c =
    record { readable = shape_readable c.args.k c.args.p c.args.w.now c.requires (sym c.in_shape.ensures ∙ c.if-not-in_shape.false) }

pub returns-then-sound_on_level : goal.returns-then-sound_on_level
returns-then-sound_on_level c =
    c.unused.ensures
    ∙ zeros_left c.args.k c.args.n c.args.p c.args.w.now c.pairs_from.result c.count.result
    (sym (three (goal.at.returns-then-sound_on_level c).Joined-rising) ∙ c.if-sound_on_level.true) c.pairs_from.ensures c.count.ensures

pub returns-else-sound_on_level : goal.returns-else-sound_on_level
returns-else-sound_on_level c =
    c.if-sound_on_level.false
    ∙ some_fails c.args.k c.args.n c.args.p c.args.w.now (sym (three (goal.at.returns-else-sound_on_level c).Joined-rising) ∙ c.if-sound_on_level.false)
