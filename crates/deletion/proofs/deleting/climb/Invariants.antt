-- Each turn goes one page up along the rule: what the rule has still to write over the words before the last page was written is the same.
use Rattle.deletion.proofs.ClimbLaws.{Going}
use Rattle.deletion.proofs.deleting.climb.Given as goal

abbrev pub invariant-loop-s : goal.invariant-loop-s
invariant-loop-s l =
    Going l.shape.k l.shape.n l.initial.words l.x l.path l.siblings l.words l.s-iterator.a.rest.now l.s-iterator.b.iter.parts.rest.now l.s-iterator.b.iter.parts.size
