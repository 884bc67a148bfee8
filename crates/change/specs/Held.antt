-- What the functions of a change ask of the pages that an operation holds, and how their lists stand for the rule's.
-- A path goes from the top downward; the rule's lists go upward, from the leaf.
use Rattle.std.specs.Prelude.{ℕ, zero, suc, ◌+◌, ◌-◌, ◌≤◌, ◌<◌, true, List, [], ◌∷◌, ◌++◌, ◌≡◌, length, get_or, Option, Some, None, Result, Ok, Err}
use Rattle.ground.specs.Limits.{largest_k, largest_n, path_holds}
use Rattle.ground.specs.Tests.{member}
use Rattle.page.specs.Sound.{sound_by_itself}
use Rattle.pool.specs.Pool.{pool_length, words_of, page_at}
use Rattle.change.specs.Deletion as rule
use Rattle.change.specs.declared.needing.Astray.{Astray}

-- Page p is one of a pool of n pages, and it is sound by itself.
pub record HeldPage (k n : ℕ) (ws : List ℕ) (p : ℕ) : Type 0 where
  pub inside : p < n
  pub sound : sound_by_itself k n p (words_of k p ws) ≡ true

-- The words are a pool's, and each of these pages is one of it and sound by itself.
pub record Held (k n : ℕ) (ws pages : List ℕ) : Type 0 where
  pub least : 1 ≤ k
  pub width : k ≤ largest_k
  pub most : n ≤ largest_n
  pub whole : length ws ≡ pool_length k n
  pub each : (p : ℕ) → member p pages ≡ true → HeldPage k n ws p

-- the first i pages of a path, upward
unfoldable pub upward : ℕ → List ℕ → List ℕ
upward zero path = []
upward (suc i) path = get_or path i 0 ∷ upward i path

-- the last of the first `depth` pages of a path, and those above it, upward
abbrev pub leaf_of : ℕ → List ℕ → ℕ
leaf_of depth path = get_or path (depth - 1) 0

abbrev pub fathers_of : ℕ → List ℕ → List ℕ
fathers_of depth path = upward (depth - 1) path

-- These are the pages of a deletion that stands at its leaf: each page of the path lies a level above the next one.
pub record Needing (k n : ℕ) (ws path siblings : List ℕ) : Type 0 where
  pub some : 1 ≤ length path
  pub deep : length path ≤ path_holds
  pub few : length siblings ≤ path_holds
  pub held : Held k n ws (path ++ siblings)
  pub descends : (i : ℕ) → suc i < length path → (page_at k ws (get_or path i 0)).level ≡ (page_at k ws (get_or path (suc i) 0)).level + 1

-- the rule's word for what the code answers
abbrev pub need_of : Result (Option ℕ) Astray → rule.Need
need_of (Ok None) = rule.nothing
need_of (Ok (Some s)) = rule.sibling s
need_of (Err _) = rule.astray

-- These are the pages of an insertion or a regrading that stands at its leaf.
pub record Holding (k n : ℕ) (ws path : List ℕ) : Type 0 where
  pub some : 1 ≤ length path
  pub deep : length path ≤ path_holds
  pub held : Held k n ws path
