-- Where the levels are wrong the page does not name the other; where they are right it is no leaf, has a reference key, and the neighbour that it names tells.
use borrow.Author.Tests.{eqb-true}
use Rattle.change.proofs.HeldLaws.{held_upper}
use Rattle.footing.proofs.LookLaws.{told_true, known_first, father_upper}
use Rattle.footing.proofs.looking.leads_across.Goals as goal

pub neighbour_of-requires : goal.neighbour_of-requires
neighbour_of-requires c =
    let known = known_first c.requires in
    let upper = father_upper c.requires (eqb-true _ _ (told_true c.lies_below.ensures c.if-lies_below.true)) in
    record { in_pool = known.in_pool; readable = known.readable; p_value = upper; p_value_2 = known.facts.rising; bound = held_upper c.requires.least known upper }
