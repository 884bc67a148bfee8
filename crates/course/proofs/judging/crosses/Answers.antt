-- The top page of the path tells: it has a child to the right of the route, which is then wanted, or there is none.
use borrow.Author.Tests.{not-true}
use lib.ListN.{get_or}
use Rattle.ground.proofs.Bools.{and_first}
use Rattle.page.specs.Short.{has_right}
use Rattle.page.specs.Words.{is_leaf}
use Rattle.pool.specs.Pool.{page_at}
use Rattle.change.proofs.HeldLaws.{held_upper}
use Rattle.footing.proofs.LookLaws.{told_true}
use Rattle.course.proofs.NextLaws.{top_known}
use Rattle.course.proofs.judging.crosses.Goals as goal

pub has_child_right-requires : goal.has_child_right-requires
has_child_right-requires c = let top = top_known c.requires in record { in_pool = top.in_pool; readable = top.readable; p_value = top.facts.rising }

pub neighbour_of-requires : goal.neighbour_of-requires
neighbour_of-requires c =
    let known = top_known c.requires in
    let top = page_at c.args.shape.k c.args.words.now (get_or c.args.stand.path 0 0) in
    let upper = not-true (is_leaf top) (and_first _ (has_right c.args.x top) (told_true c.has_child_right.ensures c.if-not-has_child_right.false)) in
    record { in_pool = known.in_pool; readable = known.readable; p_value = upper; p_value_2 = known.facts.rising; bound = held_upper c.requires.standing.held.least known upper }
