-- The page and its sibling are settled as left and right one, whichever way they stand, and the key between them is the father's.
use Rattle.deletion.proofs.MendLaws.{settling_right, settling_left, mended_right, mended_left}
use Rattle.deletion.proofs.deleting.mend.Goals as goal

pub settle-requires : goal.settle-requires
settle-requires c = settling_right c.requires.mending c.between_of-b.ensures.upper_bound c.count_of-spare.ensures c.requires.own_value

pub returns-then-has_right_of-clause-words_after : goal.returns-then-has_right_of-clause-words_after
returns-then-has_right_of-clause-words_after c =
    (mended_right c.requires.mending c.args.x c.between_of-b.ensures.value c.key_of-r.ensures c.count_of-spare.ensures c.requires.own_value
    c.has_right_of.ensures
    c.if-has_right_of.true
    (c.settle.ensures.words_after, c.settle.ensures.value)).0

pub settle-requires-2 : goal.settle-requires-2
settle-requires-2 c = settling_left c.requires.mending c.between_of-b.ensures.upper_bound c.count_of-spare.ensures c.requires.own_value

pub returns-clause-words_after : goal.returns-clause-words_after
returns-clause-words_after c =
    (mended_left c.requires.mending c.args.x c.between_of-b.ensures.value c.key_of-r.ensures c.count_of-spare.ensures c.requires.own_value
    c.has_right_of.ensures
    c.if-has_right_of.false
    (c.settle-2.ensures.words_after, c.settle-2.ensures.value)).0
