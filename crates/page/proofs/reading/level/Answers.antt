-- The level of the page that the words stand for is word 0.
use native.Mathlib.Omega.{arith}
use Rattle.page.specs.Words.{view}
use Rattle.page.proofs.reading.level.Goals as goal

pub returns : goal.returns
unfolding view
returns c = omega arith
