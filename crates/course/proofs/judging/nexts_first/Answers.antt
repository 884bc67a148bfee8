-- What is at or above the key in the leaf is answered; without it the top page of the path tells.
use Rattle.course.proofs.JudgeLaws.{stand_known}
use Rattle.course.proofs.judging.nexts_first.Goals as goal

pub at_or_above_of-requires : goal.at_or_above_of-requires
at_or_above_of-requires c = let leaf = stand_known c.requires in record { in_pool = leaf.in_pool; readable = leaf.readable; p_value = leaf.facts.rising }
