-- Each turn settles one page as the rule does and goes up to its father, which is as it was before the change. What the rule
-- has still to write, written to the words so far, is the whole change.
use Rattle.insertion.proofs.InsertLaws.{Rising}
use Rattle.insertion.proofs.inserting.insert.Given as goal

abbrev pub invariant-loop-a : goal.invariant-loop-a
invariant-loop-a l =
    Rising l.shape.k l.initial.words l.path l.pages l.x l.v l.words l.a-iterator.a.rest.now l.a-iterator.b.iter.rest.now l.key l.value
