-- The scan stands at page p and at its first word; no page from `from` up to p is free. It ends at the first page that
-- is free, or behind the last page.
use Prim.Native.Nat.{◌-◌, ◌≤◌}
use mathlib.Core.Path.{◌≡◌}
use Rattle.ground.specs.Tests.{first_below}
use Rattle.pool.specs.Pool.{start, free_from}
use Rattle.pool.proofs.lying.next_free.Given as goal

abbrev pub invariant-loop-p : goal.invariant-loop-p
invariant-loop-p l = (l.from ≤ l.p) × (l.p ≤ l.shape.n) × (l.at ≡ start l.shape.k l.p) × (first_below l.p (free_from l.shape.k l.words l.from) ≡ l.p)

abbrev pub decreases-loop-p : goal.decreases-loop-p
decreases-loop-p l = l.shape.n - l.p
