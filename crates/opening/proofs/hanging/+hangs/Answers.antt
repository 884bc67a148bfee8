-- A page is met; then its children are gone through, each one level lower.
use mathlib.Core.Path.{sym, ◌∙◌}
use native.Mathlib.Omega.{arith}
use Rattle.opening.proofs.WalkLaws.{level_leaf, level_upper, level_marked, child_walk, descends_fails, descends_on, descends_last}
use Rattle.opening.proofs.hanging.+hangs.Goals as goal

pub returns-then-level-eq1-clause-marks_after : goal.returns-then-level-eq1-clause-marks_after
returns-then-level-eq1-clause-marks_after t c =
    let was = c.args in
    λ _. c.meet.ensures.marks_after c.if-not-meet.false
    ∙ sym (level_leaf was.shape.k was.shape.n was.words.now was.level was.p was.low was.high was.marks.now c.if-level-eq1.true
    (sym c.meet.ensures.value ∙ c.if-not-meet.false)).1

pub hangs-requires : goal.hangs-requires
hangs-requires t c =
    let d = c.loop-i.invariant in (
      omega (arith, d.above, c.decreases),
      (
        child_walk d c.pointer_of-child.result c.pointer_of-child.ensures c.loop-i-test.true,
        (omega (arith, d.above), d.bottom, omega (arith, d.top, c.end_of-to.ensures.upper_bound), d.room),
      ),
    )

pub returns-then-not-hangs-clause-value : goal.returns-then-not-hangs-clause-value
returns-then-not-hangs-clause-value t c =
    let was = c.args in
    let d = c.loop-i.invariant in
    let good = c.if-not-meet.false in
    descends_fails d c.hangs.result c.pointer_of-child.result c.end_of-to.result c.pointer_of-child.ensures c.end_of-to.ensures.value c.loop-i-test.true
    c.hangs.ensures.value c.if-not-hangs.true
    ∙ sym (level_upper was.shape.k was.shape.n was.words.now was.level was.p was.low was.high was.marks.now d.above
    (sym c.meet.ensures.value ∙ good) _ (c.meet.ensures.marks_after good))

pub loop-i-preserved : goal.loop-i-preserved
loop-i-preserved t c =
    let good = c.if-not-hangs.false in
    descends_on c.loop-i.invariant c.hangs.result c.pointer_of-child.result c.end_of-to.result c.pointer_of-child.ensures c.end_of-to.ensures.value
    c.loop-i-test.true c.hangs.ensures.value good c.end_of-to.ensures.upper_bound _ (c.hangs.ensures.marks_after good)

pub returns-else-not-hangs-clause-value : goal.returns-else-not-hangs-clause-value
returns-else-not-hangs-clause-value t c =
    let was = c.args in
    let good = c.if-not-meet.false in
    (descends_last c.loop-i.invariant c.hangs.result c.pointer_of-child.result c.end_of-to.result c.pointer_of-child.ensures c.end_of-to.ensures.value
    (omega arith) c.hangs.ensures.value c.if-not-hangs.false c.end_of-to.ensures.upper_bound _ (c.hangs.ensures.marks_after c.if-not-hangs.false)).0
    ∙ sym (level_upper was.shape.k was.shape.n was.words.now was.level was.p was.low was.high was.marks.now c.loop-i.invariant.above (sym c.meet.ensures.value ∙ good) _ (c.meet.ensures.marks_after good))

pub returns-else-not-hangs-clause-marks_after : goal.returns-else-not-hangs-clause-marks_after
returns-else-not-hangs-clause-marks_after t c =
    let was = c.args in
    let good = c.if-not-meet.false in
    λ _. (descends_last c.loop-i.invariant c.hangs.result c.pointer_of-child.result c.end_of-to.result c.pointer_of-child.ensures c.end_of-to.ensures.value
    (omega arith) c.hangs.ensures.value c.if-not-hangs.false c.end_of-to.ensures.upper_bound _ (c.hangs.ensures.marks_after c.if-not-hangs.false)).1
    ∙ sym (level_marked was.shape.k was.shape.n was.words.now was.level was.p was.low was.high was.marks.now c.loop-i.invariant.above (sym c.meet.ensures.value ∙ good) _ (c.meet.ensures.marks_after good))
