-- Each arm of the match is the rule's for that operation and way, of what was read off the page.
use native.Mathlib.Omega.{arith}
use Rattle.ground.specs.Limits.{largest_k}
use Rattle.footing.proofs.looking.is_safe.Goals as goal

pub overflow_mul-result : goal.overflow_mul-result
unfolding largest_k
overflow_mul-result c = omega (arith, c.requires.in_pool.width)
