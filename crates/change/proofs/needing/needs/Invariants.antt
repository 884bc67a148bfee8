-- What is needed is the same from the leaf on and from the last of the pages held on with the siblings left: each turn goes
-- one page up along the rule.
use Rattle.change.proofs.NeedLaws.{Losing}
use Rattle.change.proofs.needing.needs.Given as goal

abbrev pub invariant-loop-father : goal.invariant-loop-father
invariant-loop-father l =
    Losing l.shape.k l.shape.n l.words l.path l.siblings l.x l.father-iterator.iter.parts.rest.now l.left l.father-iterator.iter.parts.size
