-- Making a pool, for every argument. "Pool and pages" and "What the caller hears" of document 01.
use Rattle.std.specs.Prelude.{ℕ, cond, ◌&&◌, List, eqb, length}
use Rattle.ground.specs.Limits.{k_in_range, n_in_range}
use Rattle.pool.specs.Pool.{pool_length, fresh}
use Rattle.slots.specs.declared.Answer.TheVariants.{Made, BadPool}
use Rattle.slots.specs.Parts.{idle_state}
use Rattle.index.specs.Step.{Left, left}

-- BadPool "when making a pool: k, N or length out of range": "as given; making returns an empty state, k and N 0, which
-- is itself BadState". "Making a fresh pool writes every word".
unfoldable pub made : ℕ → ℕ → List ℕ → Left
made k n ws =
    cond (k_in_range k && n_in_range n && eqb (length ws) (pool_length k n))
    (left Made (idle_state k n) (fresh k n))
    (left BadPool (idle_state 0 0) ws)
