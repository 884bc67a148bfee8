-- A page's value that has room in a page's words, and that its words give back.
use Rattle.std.specs.Prelude.{ℕ, ◌*◌, ◌≤◌, true, ◌≡◌}
use Rattle.page.specs.Words.{Page, μ, is_leaf}

pub record Fits (k : ℕ) (P : Page) : Type 0 where
  -- "μ is k to 2k in every page but page 0", and at most 2k there
  pub room : μ P ≤ 2 * k
  -- "Above level 1 follow p0, r1, p1": a leaf has no p0, and its value holds 0 there
  pub leaf_first : is_leaf P ≡ true → P.first ≡ 0
