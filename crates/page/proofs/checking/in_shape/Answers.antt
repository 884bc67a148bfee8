-- Each of the two parts is the test in words 0 and 1 that `in_shape` asks.
use mathlib.Core.Bool.{◌&&◌}
use mathlib.Core.Path.{◌≡◌, refl, sym, ◌∙◌}
use borrow.Author.Tests.{le-leb, lt-leb}
use lib.Dec.{leb, eqb}
use lib.ListN.{get_or}
use Rattle.ground.specs.Limits.{tallest}
use Rattle.page.specs.Sound.{in_range}
use Rattle.page.proofs.CheckingLaws.{shape_rewritten}
use Rattle.page.proofs.ReadingLaws.{view_level}
use Rattle.page.proofs.checking.in_shape.Goals.{Joined-l-ge1, then-l-ge1, else-l-ge1, Joined-least-m, then-least-m, else-least-m}
use Rattle.page.proofs.checking.in_shape.Goals as goal

level : (c : Joined-l-ge1) → c.if-l-ge1.level_fits ≡ leb 1 (get_or c.args.w.now 0 0) && leb (get_or c.args.w.now 0 0) tallest
unfolding tallest
level c =
    elim c.if-l-ge1.branch [
      | then-l-ge1 w ↦ rw (le-leb _ _ w.if-l-ge1.true) w.level_fits-is
      | else-l-ge1 w ↦ rw (lt-leb _ _ w.if-l-ge1.false) (w.level_fits-is ∙ lt-leb _ _ w.if-l-ge1.false)
    ]

count : (c : Joined-least-m) → c.if-least-m.count_fits ≡ in_range c.args.k c.args.p (eqb (get_or c.args.w.now 0 0) 1) (get_or c.args.w.now 1 0)
count c =
    elim c.if-least-m.branch [
      | then-least-m w ↦ rw (← c.least.ensures, le-leb _ _ w.if-least-m.true) w.count_fits-is
      | else-least-m w ↦ rw (← c.least.ensures, lt-leb _ _ w.if-least-m.false) (w.count_fits-is ∙ lt-leb _ _ w.if-least-m.false)
    ]

pub returns-then-level_fits : goal.returns-then-level_fits
returns-then-level_fits c =
    count (goal.at.returns-then-level_fits c).Joined-least-m
    ∙ sym
    (shape_rewritten c.args.k c.args.p c.args.w.now (get_or c.args.w.now 0 0) (get_or c.args.w.now 1 0) (sym (view_level c.args.w.now)) refl
    ∙ rw (sym (level (goal.at.returns-then-level_fits c).Joined-l-ge1) ∙ c.if-level_fits.true) refl)

pub returns-else-level_fits : goal.returns-else-level_fits
returns-else-level_fits c =
    c.if-level_fits.false
    ∙ sym
    (shape_rewritten c.args.k c.args.p c.args.w.now (get_or c.args.w.now 0 0) (get_or c.args.w.now 1 0) (sym (view_level c.args.w.now)) refl
    ∙ rw (sym (level (goal.at.returns-else-level_fits c).Joined-l-ge1) ∙ c.if-level_fits.false) refl)
