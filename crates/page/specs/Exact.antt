-- A page's words that are nothing but its value.
use Rattle.std.specs.Prelude.{ℕ, ◌*◌, ◌≤◌, List, ◌≡◌, length, get_or}
use Rattle.page.specs.Words.{size, encode, view}

-- The words are a page's, at most 2k pairs, and they are exactly the words of the value that they stand for.
pub record Exact (k : ℕ) (ws : List ℕ) : Type 0 where
  pub whole : length ws ≡ size k
  pub in_room : get_or ws 1 0 ≤ 2 * k
  pub words : ws ≡ encode k (view ws)
