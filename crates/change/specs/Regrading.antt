-- The whole change of a regrading, as a list of page writes. 02 (iv): an operation "that puts new information under a key that is
-- there". It reads the memory as it was before the change: `memory p` is page p then.
use Rattle.std.specs.Prelude.{ℕ, List, [], ◌∷◌}
use Rattle.page.specs.Words.{Page}
use Rattle.page.specs.Place.{regraded}
use Rattle.page.specs.Splits.{with_entries}
use Rattle.pool.specs.Pool.{Write, write}

-- one page is written: the leaf, with the new information under the key
unfoldable pub regrading : (ℕ → Page) → ℕ → ℕ → ℕ → List Write
regrading memory x v leaf = write leaf (with_entries (memory leaf) (regraded x v (memory leaf).entries)) ∷ []
