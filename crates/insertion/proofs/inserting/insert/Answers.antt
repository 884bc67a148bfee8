-- Each turn settles one page as the rule does and goes up to its father, which is as it was before the change. What the rule
-- has still to write, written to the words so far, is the whole change.
use Prim.Native.Nat.{◌-◌}
use mathlib.Core.Logic.{⊎_map}
use lib.ListN.{length}
use Rattle.insertion.proofs.InsertLaws.{Along, along_held, along_two, along_top, rising_starts, rising_ends, rising_held, rising_new, rising_done, rises}
use Rattle.insertion.proofs.inserting.insert.Goals.{In-None}
use Rattle.insertion.proofs.inserting.insert.Goals as goal

-- after the last one it stands at the top
top : (c : In-None)
    → Along c.args.shape.k c.args.words.now c.args.path.now c.args.pages.now c.args.x c.args.v c.loop-a.words 0 (length c.args.path.now - 1) c.loop-a.key c.loop-a.value
top c = rising_ends c.args.x c.args.v c.requires c.loop-a.invariant (⊎_map (λ e. e.1.0) (λ e. e.1.0) c.in-None.ensures.steps)

pub loop-a-init : goal.loop-a-init
loop-a-init c = rising_starts c.args.x c.args.v c.requires
    (rw (c.into_iter-a-iterator.ensures.into_iter_gives, c.zip-a-items.ensures.first) c.iter.ensures.rest)
    (rw (c.into_iter-a-iterator.ensures.into_iter_gives, c.zip-a-items.ensures.second, c.rev.ensures.source) c.iter-2.ensures.rest)

pub settle-requires : goal.settle-requires
settle-requires c =
    record {
      held = rising_held c.args.x c.args.v c.requires c.loop-a.invariant _ _ _ _ c.in-Some.ensures.steps.0 c.in-Some.ensures.steps.1;
      a_lt_n = rising_new c.args.x c.args.v c.requires c.loop-a.invariant _ _ _ _ c.in-Some.ensures.steps.0 c.in-Some.ensures.steps.1;
    }

pub returns-in_default : goal.returns-in_default
returns-in_default c = rising_done c.args.x c.args.v c.requires c.loop-a.invariant _ _ _ _ c.in-Some.ensures.steps.0 c.in-Some.ensures.steps.1 c.in_default.ensures

pub loop-a-preserved : goal.loop-a-preserved
loop-a-preserved c = rises c.args.x c.args.v c.requires c.loop-a.invariant _ _ _ _ c.in-Some.ensures.steps.0 c.in-Some.ensures.steps.1 c.in-Some-settle.ensures

pub settle_top-requires : goal.settle_top-requires
settle_top-requires c =
    let a = top (goal.at.settle_top-requires c).In-None in
    record { held = along_held c.args.x c.args.v c.requires 0 _ _ _ a; a_lt_n = λ over. along_two c.args.x c.args.v c.requires _ _ _ a over }

pub returns : goal.returns
returns c = along_top c.args.x c.args.v c.requires _ _ _ (top (goal.at.returns c).In-None) c.settle_top.ensures
