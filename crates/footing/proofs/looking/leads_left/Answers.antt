-- Where the levels are wrong the page does not name the other; where they are right it is no leaf, and its p0 tells.
use Prim.Native.Nat.{zero-le}
use borrow.Author.Tests.{eqb-true}
use Rattle.footing.proofs.LookLaws.{told_true, known_first, father_upper}
use Rattle.footing.proofs.looking.leads_left.Goals as goal

pub pointer_of-requires : goal.pointer_of-requires
pointer_of-requires c =
    let known = known_first c.requires in
    let upper = father_upper c.requires (eqb-true _ _ (told_true c.lies_below.ensures c.if-lies_below.true)) in
    record { in_pool = known.in_pool; readable = known.readable; p_value = upper; i_bound = zero-le }
