-- Each turn goes one page up along the rule: what the rule has still to write over the words before the last page was written is the same.
use mathlib.Core.Logic.{⊎_map}
use Rattle.deletion.proofs.ClimbLaws.{going_starts, going_ends, going_readable, going_enough, going_mends, going_stays, going_goes}
use Rattle.deletion.proofs.deleting.climb.Goals as goal

pub loop-s-init : goal.loop-s-init
loop-s-init c =
    let zipped = c.zip-s-items.ensures.second in
    going_starts c.args.x c.requires
    (rw (c.into_iter-s-iterator.ensures.into_iter_gives, c.zip-s-items.ensures.first) c.iter.ensures.rest)
    (rw (c.into_iter-s-iterator.ensures.into_iter_gives, zipped, c.rev.ensures.source) c.array_windows.ensures.rest)
    (rw (c.into_iter-s-iterator.ensures.into_iter_gives, zipped, c.rev.ensures.source) c.array_windows.ensures.size)

pub count_of-own-requires-clause-readable : goal.count_of-own-requires-clause-readable
count_of-own-requires-clause-readable c =
    let step = c.in-Some.ensures.steps in
    going_readable c.args.x c.requires c.loop-s.invariant _ _ _ step.0 step.1.1.0 step.1.1.1

pub returns-then-shape-own : goal.returns-then-shape-own
returns-then-shape-own c =
    let step = c.in-Some.ensures.steps in
    going_enough c.args.x c.requires c.loop-s.invariant _ _ _ step.0 step.1.1.0 step.1.1.1 c.count_of-own.ensures c.if-shape-own.true

pub mend-requires-clause-mending : goal.mend-requires-clause-mending
mend-requires-clause-mending c =
    let step = c.in-Some.ensures.steps in
    going_mends c.args.x c.requires c.loop-s.invariant _ _ _ step.0 step.1.1.0 step.1.1.1 c.count_of-own.ensures c.if-shape-own.false

pub returns-then-not-mend : goal.returns-then-not-mend
returns-then-not-mend c =
    let step = c.in-Some.ensures.steps in
    going_stays c.args.x c.requires c.loop-s.invariant _ _ _ step.0 step.1.1.0 step.1.1.1 c.count_of-own.ensures c.if-shape-own.false
    (c.mend.ensures.words_after, c.mend.ensures.value) c.if-not-mend.true

pub loop-s-preserved : goal.loop-s-preserved
loop-s-preserved c =
    let step = c.in-Some.ensures.steps in
    going_goes c.args.x c.requires c.loop-s.invariant _ _ _ step.0 step.1.1.0 step.1.1.1 c.count_of-own.ensures c.if-shape-own.false
    (c.mend.ensures.words_after, c.mend.ensures.value) c.if-not-mend.false step.1.0 step.1.1.2

pub returns : goal.returns
returns c = going_ends c.args.x c.requires c.loop-s.invariant (⊎_map (λ e. e.1.0) (λ e. e.1.1.0) c.in-None.ensures.steps)
