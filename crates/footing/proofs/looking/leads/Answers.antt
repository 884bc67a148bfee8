-- Where the levels are wrong the page does not lead there; where they are right it is no leaf, and its route tells.
use borrow.Author.Tests.{eqb-true}
use Rattle.footing.proofs.LookLaws.{told_true, known_first, father_upper}
use Rattle.footing.proofs.looking.leads.Goals as goal

pub route_of-requires : goal.route_of-requires
route_of-requires c =
    let known = known_first c.requires in
    let upper = father_upper c.requires (eqb-true _ _ (told_true c.lies_below.ensures c.if-lies_below.true)) in
    record { in_pool = known.in_pool; readable = known.readable; p_value = upper; p_value_2 = known.facts.rising }
