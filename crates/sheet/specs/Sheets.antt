-- A page laid out in a buffer, with room for more pairs than a page has.
use Rattle.std.specs.Prelude.{ℕ, cond, List, [], ◌∷◌, ◌≡◌, eqb, length}
use Rattle.page.specs.Words.{Page, page, μ, pairs}
use Rattle.sheet.specs.declared.sheets.Sheet.{Sheet}

-- The words before a page's pairs: level, number of pairs and, above the leaves, p0.
abbrev pub before_pairs : ℕ → ℕ → ℕ → List ℕ
before_pairs level m first = level ∷ m ∷ cond (eqb level 1) [] (first ∷ [])

-- The page that a sheet holds: of the words in its buffer the first pairs, as many as it counts.
abbrev pub sheet_page : Sheet → Page
sheet_page s = page s.level s.first (pairs s.count s.pairs)

-- The sheet holds the page P, and counts its pairs; its buffer is whole.
pub record OnSheet (P : Page) (s : Sheet) : Type 0 where
  pub value : sheet_page s ≡ P
  pub counted : s.count ≡ μ P
  pub buffer : length s.pairs ≡ 100
