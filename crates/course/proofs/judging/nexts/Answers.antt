-- It stands at its first leaf, or on its second way.
use Rattle.course.proofs.NextLaws.{second_known}
use Rattle.course.proofs.judging.nexts.Goals as goal

pub nexts_left-requires : goal.nexts_left-requires
nexts_left-requires c = let last = second_known c.requires c.if-stand-eq0.false in record { in_pool = last.in_pool; readable = last.readable; p_value = last.facts.rising }
