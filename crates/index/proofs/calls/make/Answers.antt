-- The state is cleared; by the test of the pool, making refuses or writes the fresh pool.
use Rattle.index.proofs.MakeLaws.{make_refuses, pool_small, pool_some, make_done}
use Rattle.ground.specs.Limits.{largest_k, largest_n}
use native.Mathlib.Omega.{arith}
use mathlib.Core.Path.{sym, ◌∙◌}
use Prim.Native.Nat.{◌≤◌}
use Rattle.index.proofs.calls.make.Goals.{Else-not-is_pool}
use Rattle.index.proofs.calls.make.Goals as goal

pub returns-then-not-is_pool : goal.returns-then-not-is_pool
returns-then-not-is_pool c =
    make_refuses c.args.state.now c.sized.ensures c.clear.ensures c.args.k c.args.n c.args.words.now (sym c.is_pool.ensures ∙ c.if-not-is_pool.true)

small : (c : Else-not-is_pool) → (c.args.k ≤ largest_k) × (c.args.n ≤ largest_n)
small c =
    pool_small c.args.k c.args.n c.args.words.now (sym c.is_pool.ensures ∙ c.if-not-is_pool.false)

pub overflow_cast-state : goal.overflow_cast-state
unfolding largest_k
overflow_cast-state c = omega (arith, (small (goal.at.overflow_cast-state c).Else-not-is_pool).0)

pub overflow_cast-state-2 : goal.overflow_cast-state-2
unfolding largest_n
overflow_cast-state-2 c = omega (arith, (small (goal.at.overflow_cast-state-2 c).Else-not-is_pool).1)

pub make_fresh-requires : goal.make_fresh-requires
make_fresh-requires c =
    pool_some c.args.k c.args.n c.args.words.now (sym c.is_pool.ensures ∙ c.if-not-is_pool.false)

pub returns : goal.returns
returns c =
    make_done c.args.state.now c.sized.ensures c.clear.ensures c.args.k c.args.n c.args.words.now (sym c.is_pool.ensures ∙ c.if-not-is_pool.false)
    c.make_fresh.ensures
