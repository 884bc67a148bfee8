-- The state is cleared; by the test of the pool and by the check, opening refuses or lays k and n.
use Rattle.index.proofs.MakeLaws.{pool_small, open_refuses, open_names, open_none, open_done}
use Rattle.opening.specs.declared.checking.Fault.{Fault}
use Rattle.std.specs.Prelude.{Err}
use Rattle.ground.specs.Limits.{largest_k, largest_n}
use native.Mathlib.Omega.{arith}
use mathlib.Core.Path.{sym, ap, ◌∙◌}
use Prim.Native.Nat.{◌≤◌}
use Rattle.index.proofs.calls.open.Goals.{Else-not-is_pool}
use Rattle.index.proofs.calls.open.Goals as goal

pub returns-then-not-is_pool : goal.returns-then-not-is_pool
returns-then-not-is_pool c =
    open_refuses c.args.state.now c.sized.ensures c.clear.ensures c.args.k c.args.n c.args.words.now (sym c.is_pool.ensures ∙ c.if-not-is_pool.true)

small : (c : Else-not-is_pool) → (c.args.k ≤ largest_k) × (c.args.n ≤ largest_n)
small c =
    pool_small c.args.k c.args.n c.args.words.now (sym c.is_pool.ensures ∙ c.if-not-is_pool.false)

pub overflow_cast-state : goal.overflow_cast-state
unfolding largest_k
overflow_cast-state c = omega (arith, (small (goal.at.overflow_cast-state c).Else-not-is_pool).0)

pub overflow_cast-state-in-Ok : goal.overflow_cast-state-in-Ok
unfolding largest_n
overflow_cast-state-in-Ok c = omega (arith, (small (goal.at.overflow_cast-state-in-Ok c).Else-not-is_pool).1)

pub returns-in-Err-Unsound : goal.returns-in-Err-Unsound
returns-in-Err-Unsound c =
    open_names c.args.state.now c.sized.ensures c.clear.ensures c.args.k c.args.n c.args.words.now
    (sym c.is_pool.ensures ∙ c.if-not-is_pool.false)
    (sym (ap (λ (fault : Fault). Err fault) c.in-Err-Unsound.field-0-is) ∙ sym c.in-Err-Unsound.is ∙ c.check.ensures)

pub returns-in-Err-NoTree : goal.returns-in-Err-NoTree
returns-in-Err-NoTree c =
    open_none c.args.state.now c.sized.ensures c.clear.ensures c.args.k c.args.n c.args.words.now
    (sym c.is_pool.ensures ∙ c.if-not-is_pool.false)
    (sym (ap (λ (fault : Fault). Err fault) c.in-Err-NoTree.field-0-is) ∙ sym c.in-Err-NoTree.is ∙ c.check.ensures)

pub returns-in-Ok : goal.returns-in-Ok
returns-in-Ok c =
    open_done c.args.state.now c.sized.ensures c.clear.ensures c.args.k c.args.n c.args.words.now
    (sym c.is_pool.ensures ∙ c.if-not-is_pool.false) c.in-Ok.ensures
