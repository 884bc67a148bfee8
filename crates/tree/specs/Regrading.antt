-- A regrading as a change of the tree: one information is another, and all else stays.
use Rattle.std.specs.Prelude.{ℕ, ◌<◌, true, ◌≡◌, List, ◌∷◌}
use Rattle.ground.specs.Limits.{word_range}
use Rattle.ground.specs.Tests.{member}
use Rattle.page.specs.Words.{Page}
use Rattle.page.specs.Place.{regraded}
use Rattle.change.specs.Regrading.{regrading}
use Rattle.tree.specs.Tree.{Tr, entries_of, occurs, way, Forms}
use Rattle.tree.specs.Change.{written_pages, Leads}

-- What the regrading of x with the new information v does to the tree t.
pub record Regrades (k n : ℕ) (memory : ℕ → Page) (l : ℕ) (t : Tr l) (x v leaf : ℕ) : Type 0 where
  -- "puts new information under a key that is there": the pages form a tree again, with the same keys
  pub leads : Leads k n memory l t (regrading memory x v leaf) (regraded x v (entries_of l t))
  -- it writes no page but the leaf
  pub writes : (q : ℕ) → member q (written_pages (regrading memory x v leaf)) ≡ true → q ≡ leaf
  -- the tree is as high as it was, of the same pages, and every key has the way that it had
  pub height : leads.height ≡ l
  pub pages : (q : ℕ) → occurs q leads.height leads.tree ≡ occurs q l t
  pub ways : (y : ℕ) → way y leads.height leads.tree ≡ way y l t

-- A regrading by an operation that holds the leaf on its way. Where the key is not there, nothing changes.
abbrev pub RegradingLeads : Type 0
RegradingLeads =
    (k n : ℕ) (memory : ℕ → Page) (l : ℕ) (t : Tr l) (x v leaf : ℕ) (rest : List ℕ)
    → Forms k n memory l t
    → x < word_range
    → way x l t ≡ leaf ∷ rest
    → Regrades k n memory l t x v leaf
