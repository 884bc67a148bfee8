-- Both ranges.
use Rattle.std.proofs.Common.{rules}
use Rattle.ground.specs.Limits.{largest_k, largest_n}
use Rattle.soundness.proofs.checking.numbers_in_range.Goals as goal

pub returns-then-contains : goal.returns-then-contains
unfolding largest_k largest_n
returns-then-contains c = search rules

pub returns-else-contains : goal.returns-else-contains
unfolding largest_k largest_n
returns-else-contains c = search rules
