-- A page starts where the rule says, is a page's size long, and ends no later than the pool.
use native.Mathlib.Omega.{arith}
use Rattle.ground.specs.Limits.{largest_k, largest_n}
use Rattle.pool.proofs.StretchLaws.{ends_in_pool}
use Rattle.pool.proofs.LyingLaws.{start_few}
use Rattle.pool.proofs.pages.stretch_of.Goals as goal

pub overflow_add-result : goal.overflow_add-result
unfolding largest_k largest_n
overflow_add-result c =
    let few = start_few c.args.shape.k c.args.p (omega arith) (omega arith) in
    omega arith

pub returns : goal.returns
returns c =
    let inside = ends_in_pool c.args.shape.k c.args.shape.n c.args.p (omega arith) in
    omega arith
