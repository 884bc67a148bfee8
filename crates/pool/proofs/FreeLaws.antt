-- Free pages: which they are, by the test and in the list of them.
use Prim.Native.Nat.{ℕ, ◌<◌}
use mathlib.Core.Bool.{true, not, ◌&&◌}
use mathlib.Core.List.{List}
use mathlib.Core.Logic.{◌≢◌}
use mathlib.Core.Path.{◌≡◌, refl, sym, ◌∙◌}
use borrow.Author.Tests.{eqb-true, eqb-false, eq-eqb, ne_eqb, not-true}
use lib.Dec.{eqb}
use lib.ListN.{length, get_or}
use Rattle.ground.specs.Tests.{member, list_below}
use Rattle.ground.proofs.Bools.{and_first, and_second, and_both, not_of_false}
use Rattle.ground.proofs.Tests.{list_below_at, list_below_from, list_below_index}
use Rattle.page.specs.Words.{view}
use Rattle.pool.specs.Pool.{page_at, is_free, free_pages}

-- a page is free by its number and the level of its value
pub is_free_level : (k : ℕ) (ws : List ℕ) (p : ℕ) → is_free k ws p ≡ not (eqb p 0) && eqb (page_at k ws p).level 0
unfolding is_free page_at view
is_free_level k ws p = refl

-- What it is to be a free page of a pool of n pages.
pub record Free (k n : ℕ) (ws : List ℕ) (p : ℕ) : Type 0 where
  pub in_pool : p < n
  pub not_root : p ≢ 0
  pub level : (page_at k ws p).level ≡ 0

module _ (k n : ℕ) (ws : List ℕ) where
  -- a page that passes the test is free
  pub test_free : (p : ℕ) → p < n → is_free k ws p ≡ true → Free k n ws p
  test_free p h t =
      let parts : not (eqb p 0) && eqb (page_at k ws p).level 0 ≡ true = sym (is_free_level k ws p) ∙ t in
      record {
        in_pool = h;
        not_root = eqb-false p 0 (not-true (eqb p 0) (and_first (not (eqb p 0)) (eqb (page_at k ws p).level 0) parts));
        level = eqb-true (page_at k ws p).level 0 (and_second (not (eqb p 0)) (eqb (page_at k ws p).level 0) parts);
      }

  -- a free page passes the test
  pub free_test : (p : ℕ) → Free k n ws p → is_free k ws p ≡ true
  free_test p f =
      is_free_level k ws p
      ∙ and_both (not_of_false (ne_eqb p 0 f.not_root)) (eq-eqb (page_at k ws p).level 0 f.level)

  -- every page of the list is free
  pub free_pages_free : (p : ℕ) → member p (free_pages k n ws) ≡ true → Free k n ws p
  unfolding free_pages
  free_pages_free p m = let found = list_below_at (is_free k ws) n p m in test_free p found.0 found.1

  -- every free page is in the list
  pub free_free_pages : (p : ℕ) → Free k n ws p → member p (free_pages k n ws) ≡ true
  unfolding free_pages
  free_free_pages p f = list_below_from (is_free k ws) n p f.in_pool (free_test p f)

  -- the page at an index of the list is free; the lowest is the one at 0
  pub free_pages_at : (i d : ℕ) → i < length (free_pages k n ws) → Free k n ws (get_or (free_pages k n ws) i d)
  unfolding free_pages
  free_pages_at i d h =
      let found = list_below_index (is_free k ws) n i d h in
      test_free (get_or (list_below n (is_free k ws)) i d) found.0 found.1
