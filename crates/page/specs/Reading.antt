-- What reading and testing a page's words asks and answers.
use Rattle.std.specs.Prelude.{ℕ, ◌+◌, ◌*◌, ◌≤◌, ◌<◌, Bool, cond, ◌&&◌, List, [], ◌∷◌, leb, length, get_or, Option, Some, None}
use Rattle.ground.specs.Limits.{tallest}
use Rattle.page.specs.Words.{Entry, is_leaf, pairs_from, view}
use Rattle.page.specs.Place.{has, information}
use Rattle.page.specs.Sound.{in_range}
use Rattle.page.specs.Splits.{entry_at}

-- The words that stand for a page are there: those before the pairs, and two for each of as many pairs as word 1 says.
pub record Readable (ws : List ℕ) : Type 0 where
  pub three : 3 ≤ length ws
  pub inside : pairs_from (get_or ws 0 0) + 2 * get_or ws 1 0 ≤ length ws

-- what stands under a key: its information, if the key is there
abbrev pub looked : ℕ → List Entry → Option ℕ
looked x es = cond (has x es) (Some (information x es)) None

-- Entry r is the first whose key is at or above x: every key before it is below x.
pub record FirstFrom (x : ℕ) (es : List Entry) (r : ℕ) : Type 0 where
  pub within : r ≤ length es
  pub before : (j : ℕ) → j < r → (entry_at j es).key < x
  pub here : r < length es → x ≤ (entry_at r es).key

-- the first of some entries: its key and what stands behind it
abbrev pub nearest : List Entry → Option (ℕ × ℕ)
nearest [] = None
nearest (e ∷ es) = Some (e.key, e.value)

-- "level 1 to 10 .., μ in range"
unfoldable pub in_shape : ℕ → ℕ → List ℕ → Bool
in_shape k p ws = leb 1 (view ws).level && leb (view ws).level tallest && in_range k p (is_leaf (view ws)) (get_or ws 1 0)
