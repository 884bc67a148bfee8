-- What the functions of an insertion ask of the pages that it holds and takes, and what becomes of one page.
use Rattle.std.specs.Prelude.{ℕ, ◌*◌, ◌≤◌, ◌<◌, true, List, ◌++◌, ◌⊎◌, ◌≡◌, length, get_or, take, Option, Some, None}
use Rattle.ground.specs.Limits.{most_new}
use Rattle.ground.specs.Tests.{distinct}
use Rattle.page.specs.Words.{Page, entry, μ}
use Rattle.page.specs.Place.{place}
use Rattle.page.specs.Splits.{put, split}
use Rattle.pool.specs.Pool.{page_at, write, written}
use Rattle.change.specs.Insertion.{room}
use Rattle.change.specs.Held.{Holding, leaf_of}

-- These are the pages of an insertion that stands at its leaf, and the new pages that it takes, as many as the count of room
-- says. The top of the path is page 0 or has space. No page stands twice among them.
pub record Inserting (k n : ℕ) (ws path pages : List ℕ) : Type 0 where
  pub holding : Holding k n ws path
  pub top : (get_or path 0 0 ≡ 0) ⊎ (μ (page_at k ws (get_or path 0 0)) < 2 * k)
  pub cells : length pages ≡ most_new
  pub enough : room k (page_at k ws) (leaf_of (length path) path) path ≤ most_new
  pub inside : (t : ℕ) → t < room k (page_at k ws) (leaf_of (length path) path) path → get_or pages t 0 < n
  pub apart : distinct (path ++ take (room k (page_at k ws) (leaf_of (length path) path) path) pages) ≡ true

-- the page F with one pair more, at the place of x
abbrev pub grown : ℕ → ℕ → ℕ → Page → Page
grown x key value F = put (place x F.entries) (entry key value) F

-- What became of page p, whose value is to be P: it was written; or it was split, the right half went to page a, and the key
-- between the halves goes up.
abbrev pub settled_as : ℕ → ℕ → Page → ℕ → List ℕ → List ℕ → Option ℕ → Type 0
settled_as k p P a ws after None = (μ P ≤ 2 * k) × (after ≡ written k (write p P) ws)
settled_as k p P a ws after (Some key) =
    (2 * k < μ P)
    × (key ≡ (split k P).between)
    × (after ≡ written k (write p (split k P).left) (written k (write a (split k P).right) ws))
