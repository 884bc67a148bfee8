-- Where a page lies in the lent words, and what is asked of every function on one page of the pool.
use Rattle.std.specs.Prelude.{ℕ, ◌+◌, ◌≤◌, ◌<◌, List, ◌≡◌, length}
use Rattle.ground.specs.Limits.{largest_k, largest_n}
use Rattle.page.specs.Words.{size}
use Rattle.pool.specs.Pool.{pool_length, start}
use Rattle.std.specs.declared.ops.Range.{Range}

-- The words are those of a pool of n pages, and page p is one of them.
pub record InPool (k n p : ℕ) (ws : List ℕ) : Type 0 where
  pub width : k ≤ largest_k
  pub most : n ≤ largest_n
  pub whole : length ws ≡ pool_length k n
  pub inside : p < n

-- The stretch of words is page p's, and it lies in a pool of n pages.
pub record Lies (k n p : ℕ) (s : Range ℕ) : Type 0 where
  pub from : s.start ≡ start k p
  pub to : s.end ≡ start k p + size k
  pub inside : s.end ≤ pool_length k n
