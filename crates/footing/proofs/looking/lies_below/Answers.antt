-- Both sides of the test are what the callees say, and a level is small enough for one more.
use native.Mathlib.Omega.{arith}
use Rattle.ground.specs.Limits.{tallest}
use Rattle.footing.proofs.LookLaws.{known_first, known_second}
use Rattle.footing.proofs.looking.lies_below.Goals as goal

pub level_of-requires : goal.level_of-requires
level_of-requires c = (known_first c.requires).in_pool

pub level_of-requires-2 : goal.level_of-requires-2
level_of-requires-2 c = (known_second c.requires).in_pool

pub overflow_add-result : goal.overflow_add-result
unfolding tallest
overflow_add-result c = omega (arith, c.level_of-2.ensures, (known_second c.requires).facts.highest)
