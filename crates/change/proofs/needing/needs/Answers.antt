-- What is needed is the same from the leaf on and from the last of the pages held on with the siblings left: each turn goes
-- one page up along the rule.
use mathlib.Core.Path.{sym, ◌∙◌}
use native.Mathlib.Omega.{arith}
use Rattle.change.proofs.NeedLaws.{path_known, next_known, rest_held, losing_starts, at_top, page_known, above_known, above_upper, above_key, here, loses_on, stop_spared, stop_top, stop_sibling, stop_astray, stop_shares, goes_up}
use Rattle.change.proofs.needing.needs.Goals as goal

pub loop-father-init : goal.loop-father-init
loop-father-init c =
    losing_starts c.args.x c.requires
    (rw (c.into_iter-father-iterator.ensures.into_iter_gives, c.rev-father-items.ensures.source) c.array_windows.ensures.rest)
    (rw (c.into_iter-father-iterator.ensures.into_iter_gives, c.rev-father-items.ensures.source) c.array_windows.ensures.size)

pub spares-requires : goal.spares-requires
spares-requires c =
    let step = c.in-Some.ensures.steps.1 in
    let known = page_known c.args.x c.requires c.loop-father.invariant _ step.0 step.1 in
    record { in_pool = known.in_pool; readable = known.readable }

pub returns-then-spares : goal.returns-then-spares
returns-then-spares c =
    let step = c.in-Some.ensures.steps.1 in
    stop_spared c.args.x c.requires _ _ c.loop-father.left.now (here c.args.x c.requires c.loop-father.invariant _ step.0 step.1)
    (sym c.spares.ensures ∙ c.if-spares.true) c.satisfied.ensures

pub neighbour_of-wanted-requires : goal.neighbour_of-wanted-requires
neighbour_of-wanted-requires c =
    let step = c.in-Some.ensures.steps.1 in
    let known = above_known c.args.x c.requires c.loop-father.invariant _ step.0 step.1 in
    record {
      in_pool = known.in_pool;
      readable = known.readable;
      p_value = above_upper c.args.x c.requires c.loop-father.invariant _ step.0 step.1;
      p_value_2 = known.facts.rising;
      bound = above_key c.args.x c.requires c.loop-father.invariant _ step.0 step.1;
    }

pub returns-in_default : goal.returns-in_default
returns-in_default c =
    let step = c.in-Some.ensures.steps.1 in
    stop_sibling c.args.x c.requires _ _ _ c.loop-father.left.now (here c.args.x c.requires c.loop-father.invariant _ step.0 step.1)
    (sym c.spares.ensures ∙ c.if-spares.false) c.neighbour_of-wanted.ensures c.in_default.ensures.cases

pub returns-then-s-wanted : goal.returns-then-s-wanted
returns-then-s-wanted c =
    let step = c.in-Some.ensures.steps.1 in
    stop_astray c.args.x c.requires _ _ _ c.loop-father.left.now (here c.args.x c.requires c.loop-father.invariant _ step.0 step.1)
    (sym c.spares.ensures ∙ c.if-spares.false) c.neighbour_of-wanted.ensures _ c.in-Some-split_first.rest.now c.in-Some-split_first.ensures.cases.0 c.if-s-wanted.true

pub count_of-requires : goal.count_of-requires
count_of-requires c =
    let known = next_known c.args.x c.requires c.in-Some-split_first.ensures.cases.0 c.loop-father.invariant.left_held in
    record { in_pool = known.in_pool; readable = known.readable }

pub returns-then-shape-count_of : goal.returns-then-shape-count_of
returns-then-shape-count_of c =
    let step = c.in-Some.ensures.steps.1 in
    stop_shares c.args.x c.requires _ _ _ c.loop-father.left.now (here c.args.x c.requires c.loop-father.invariant _ step.0 step.1)
    (sym c.spares.ensures ∙ c.if-spares.false) c.neighbour_of-wanted.ensures _ c.in-Some-split_first.rest.now c.in-Some-split_first.ensures.cases.0 c.if-s-wanted.false
    (omega (arith, c.count_of.ensures)) c.satisfied-then-shape-count_of.ensures

pub loop-father-preserved : goal.loop-father-preserved
loop-father-preserved c =
    let step = c.in-Some.ensures.steps.1 in
    let next = c.in-Some-split_first.ensures.cases.0 in
    loses_on c.args.x c.requires c.loop-father.invariant _ step.0 step.1 c.in-Some.ensures.steps.0 step.2
    (rest_held c.args.x c.requires next c.loop-father.invariant.left_held)
    (goes_up c.args.x c.requires _ _ _ c.loop-father.left.now (here c.args.x c.requires c.loop-father.invariant _ step.0 step.1)
    (sym c.spares.ensures ∙ c.if-spares.false) c.neighbour_of-wanted.ensures _ c.in-Some-split_first.rest.now next c.if-s-wanted.false
    (omega (arith, c.count_of.ensures)))

pub spares-requires-2 : goal.spares-requires-2
spares-requires-2 c =
    let known = path_known c.args.x c.requires 0 c.requires.some in
    record { in_pool = known.in_pool; readable = known.readable }

pub returns-then-spares-2 : goal.returns-then-spares-2
returns-then-spares-2 c =
    stop_spared c.args.x c.requires _ _ c.loop-father.left.now (at_top c.args.x c.requires c.loop-father.invariant c.in-None.ensures.steps.1.0)
    (sym c.spares-2.ensures ∙ c.if-spares-2.true) c.satisfied-then-spares-2.ensures

pub returns-else-spares-2 : goal.returns-else-spares-2
returns-else-spares-2 c =
    stop_top c.args.x c.requires _ c.loop-father.left.now (at_top c.args.x c.requires c.loop-father.invariant c.in-None.ensures.steps.1.0)
    (sym c.spares-2.ensures ∙ c.if-spares-2.false)
