-- Marks, one for each page: "marks each page it meets". And what the functions of the walk ask and say.
use Rattle.std.specs.Prelude.{ℕ, suc, ◌≤◌, ◌<◌, Bool, true, false, cond, not, ◌&&◌, List, [], ◌∷◌, ◌≡◌, eqb, ltb, length, get_or, set}
use Rattle.ground.specs.Limits.{largest_k, largest_n}
use Rattle.page.specs.Words.{Entry, Page}
use Rattle.page.specs.Splits.{entry_at}
use Rattle.pool.specs.Pool.{pool_length, page_at}
use Rattle.opening.specs.Opening.{sound_alone, within}

-- page q has a mark
abbrev pub marked : List Bool → ℕ → Bool
marked marks q = get_or marks q false

-- the marks once these pages are met
unfoldable pub marked_by : List ℕ → List Bool → List Bool
marked_by [] marks = marks
marked_by (q ∷ qs) marks = marked_by qs (set marks q true)

-- each of these pages has no mark when it is met
unfoldable pub unmet : List ℕ → List Bool → Bool
unmet [] marks = true
unmet (q ∷ qs) marks = not (marked marks q) && unmet qs (set marks q true)

-- the mark of a page before the walk: a page on no level is never met
abbrev pub free_mark : ℕ → List ℕ → ℕ → Bool
free_mark k ws q = eqb (page_at k ws q).level 0

-- a page's own part of `hangs`: its level and its keys
abbrev pub fits_at : Page → ℕ → ℕ → ℕ → Bool
fits_at P level lo hi = eqb P.level level && within (cond (eqb level 1) lo (suc lo)) hi P.entries

-- where the keys under pi end
abbrev pub end_at : ℕ → ℕ → List Entry → ℕ
end_at i hi es = cond (ltb i (length es)) (entry_at i es).key hi

-- The words of a pool.
pub record Handed (k n : ℕ) (ws : List ℕ) : Type 0 where
  pub width : k ≤ largest_k
  pub some : 1 ≤ n
  pub most : n ≤ largest_n
  pub whole : length ws ≡ pool_length k n

-- each page of which is sound by itself
pub record AllSound (k n : ℕ) (ws : List ℕ) : Type 0 where
  pub handed : Handed k n ws
  pub sound : (q : ℕ) → q < n → sound_alone k n ws q ≡ true

-- and p is one of them
pub record Walk (k n : ℕ) (ws : List ℕ) (p : ℕ) : Type 0 where
  pub pool : AllSound k n ws
  pub inside : p < n
