-- Opening a pool that somebody hands us, for every argument. 02 (vii).
use Rattle.std.specs.Prelude.{ℕ, cond, ◌&&◌, List, eqb, length, ⊤, Result, Ok, Err}
use Rattle.ground.specs.Limits.{k_in_range, n_in_range}
use Rattle.pool.specs.Pool.{pool_length}
use Rattle.opening.specs.declared.checking.Fault.{Fault}
use Rattle.opening.specs.declared.checking.Fault.TheVariants.{Unsound, NoTree}
use Rattle.opening.specs.Opening.{checked}
use Rattle.slots.specs.declared.Answer.TheVariants.{BadPool, Opened, BadPageInPool, BadTree}
use Rattle.slots.specs.Parts.{idle_state}
use Rattle.index.specs.Step.{Left, left}

-- "A refusal leaves the words as given, returns the empty state, and gives the lowest-numbered page that is not sound by itself ..; if all are,
-- it says BadTree. Acceptance gives a state with all slots closed."
abbrev pub opened_as : ℕ → ℕ → List ℕ → Result ⊤ Fault → Left
opened_as k n ws (Err (Unsound p)) = left (BadPageInPool p) (idle_state 0 0) ws
opened_as k n ws (Ok _) = left Opened (idle_state k n) ws
opened_as k n ws (Err NoTree) = left BadTree (idle_state 0 0) ws

-- "These are refusals 9 (BadPageInPool, with the page) and 10 (BadTree), after BadPool."
unfoldable pub opened : ℕ → ℕ → List ℕ → Left
opened k n ws =
    cond (k_in_range k && n_in_range n && eqb (length ws) (pool_length k n))
    (opened_as k n ws (checked k n ws))
    (left BadPool (idle_state 0 0) ws)
