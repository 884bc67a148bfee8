-- Level, keys and mark are asked one after the other.
use Prim.Native.Nat.{suc}
use mathlib.Core.Bool.{cond, false≢true}
use mathlib.Core.Path.{◌≡◌, refl, sym, ◌∙◌}
use native.Mathlib.Numerals.{add-one}
use borrow.Author.Tests.{eq-eqb, ne_eqb}
use lib.Dec.{eqb}
use Rattle.ground.proofs.Choice.{cond-true, cond-false}
use Rattle.pool.specs.Pool.{page_at}
use Rattle.opening.specs.Marks.{marked}
use Rattle.opening.proofs.WalkLaws.{meet_off, meet_out, meet_again, meet_new}
use Rattle.opening.proofs.hanging.meet.Goals.{Joined-level-eq1, then-level-eq1, else-level-eq1}
use Rattle.opening.proofs.hanging.meet.Goals as goal

pub returns-then-level_of-level : goal.returns-then-level_of-level
returns-then-level_of-level c =
    let P = page_at c.args.shape.k c.args.words.now c.args.p in record {
      value = meet_off P c.args.level c.args.low c.args.high (cond (eqb c.args.level 1) c.args.low (suc c.args.low)) (marked c.args.marks.now c.args.p) refl
          (λ e. c.if-level_of-level.true (c.level_of.ensures ∙ e));
      marks_after = λ no. absurd (false≢true no);
    }

-- where the page's own keys begin
begins : (c : Joined-level-eq1) → c.if-level-eq1.from ≡ cond (eqb c.args.level 1) c.args.low (suc c.args.low)
begins c =
    let level = c.args.level in
    let low = c.args.low in
    elim c.if-level-eq1.branch [
      | then-level-eq1 w ↦ w.from-is ∙ sym (cond-true low (suc low) (eq-eqb level 1 w.if-level-eq1.true))
      | else-level-eq1 w ↦ w.from-is ∙ add-one low ∙ sym (cond-false low (suc low) (ne_eqb level 1 w.if-level-eq1.false))
    ]

pub returns-then-not-within : goal.returns-then-not-within
returns-then-not-within c =
    let P = page_at c.args.shape.k c.args.words.now c.args.p in record {
      value = meet_out P c.args.level c.args.low c.args.high c.if-level-eq1.from (marked c.args.marks.now c.args.p) (begins (goal.at.returns-then-not-within c).Joined-level-eq1)
          (sym c.within.ensures ∙ c.if-not-within.true);
      marks_after = λ no. absurd (false≢true no);
    }

pub returns-then-marks-at : goal.returns-then-marks-at
returns-then-marks-at c =
    let P = page_at c.args.shape.k c.args.words.now c.args.p in record {
      value = meet_again P c.args.level c.args.low c.args.high c.if-level-eq1.from (marked c.args.marks.now c.args.p) (begins (goal.at.returns-then-marks-at c).Joined-level-eq1)
          c.if-marks-at.true;
      marks_after = λ no. absurd (false≢true no);
    }

pub returns : goal.returns
returns c =
    let P = page_at c.args.shape.k c.args.words.now c.args.p in record {
      value = meet_new P c.args.level c.args.low c.args.high c.if-level-eq1.from (marked c.args.marks.now c.args.p) (begins (goal.at.returns c).Joined-level-eq1)
          (sym c.level_of.ensures ∙ c.if-level_of-level.false)
          (sym c.within.ensures ∙ c.if-not-within.false)
          c.if-marks-at.false;
      marks_after = λ _. refl;
    }
