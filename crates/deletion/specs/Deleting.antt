-- What the functions of a deletion ask of two neighbours under one father, and what one round of the rule writes.
use Rattle.std.specs.Prelude.{ℕ, ◌+◌, ◌*◌, ◌≤◌, ◌<◌, Bool, true, false, cond, ◌&&◌, List, [], ◌∷◌, ◌≢◌, ◌≡◌, ltb, eqb, length, get_or}
use Rattle.ground.specs.Limits.{path_holds}
use Rattle.page.specs.Words.{Page, μ, is_leaf, free_page}
use Rattle.page.specs.Splits.{split}
use Rattle.page.specs.Place.{has}
use Rattle.page.specs.Sound.{rises}
use Rattle.page.specs.Short.{between_at, joined, merged, less_key, rekeyed}
use Rattle.page.specs.Exact.{Exact}
use Rattle.sheet.specs.Sheets.{OnSheet, sheet_page}
use Rattle.sheet.specs.declared.sheets.Sheet.{Sheet}
use Rattle.pool.specs.Pool.{pool_length, words_of, page_at, Write, write}
use Rattle.pool.specs.Wrapped.{InPool}
use Rattle.change.specs.Deletion.{left_one, right_one, shares}
use Rattle.change.specs.Held.{Needing, leaf_of}

-- The page f of the pool, which has a key at place b, and two other pages l and w.
pub record Three (k n : ℕ) (ws : List ℕ) (f b l w : ℕ) : Type 0 where
  pub father : InPool k n f ws
  pub left : InPool k n l ws
  pub right : InPool k n w ws
  pub over_left : f ≢ l
  pub over_right : f ≢ w
  pub exact : Exact k (words_of k f ws)
  pub key : b < μ (page_at k ws f)

-- The buffer holds a page, and no p0 if that is a leaf.
pub record Sheeted (s : Sheet) : Type 0 where
  pub holds : OnSheet (sheet_page s) s
  pub leaf_first : is_leaf (sheet_page s) ≡ true → s.first ≡ 0

-- Its page can be cut at pair c into two with room for each.
pub record Cutting (k n : ℕ) (ws : List ℕ) (f b l w c : ℕ) (s : Sheet) : Type 0 where
  pub three : Three k n ws f b l w
  pub sheet : Sheeted s
  pub left_room : c ≤ 2 * k
  pub cut : c < s.count
  pub right_room : s.count ≤ c + 2 * k
  pub few : s.count ≤ 50

-- Its page has room in one.
pub record Joining (k n : ℕ) (ws : List ℕ) (f b l w : ℕ) (s : Sheet) : Type 0 where
  pub three : Three k n ws f b l w
  pub sheet : Sheeted s
  pub room : s.count ≤ 2 * k

-- the joined page J of the neighbours l and w cut at pair c, and the father's key between them
abbrev pub sharing : ℕ → Page → ℕ → ℕ → ℕ → ℕ → Page → List Write
sharing f F b l w c J =
    write l (split c J).left ∷ write w (split c J).right ∷ write f (rekeyed b (split c J).between F) ∷ []

-- page 0 takes the joined page
abbrev pub collapsing : ℕ → ℕ → ℕ → Page → List Write
collapsing f l w J = write f J ∷ write l free_page ∷ write w free_page ∷ []

-- the left page takes the joined page, and the father loses a key
abbrev pub uniting : ℕ → Page → ℕ → ℕ → ℕ → Page → List Write
uniting f F b l w J = write l J ∷ write w free_page ∷ write f (less_key b F) ∷ []

-- page 0 would be left with no key
abbrev pub emptied : ℕ → Page → ℕ → Bool
emptied f F b = eqb f 0 && eqb (μ (less_key b F)) 0

-- What one round writes: the neighbours share, if one can spare; or page 0 collapses; or they unite.
unfoldable pub paired : Bool → ℕ → Page → ℕ → ℕ → ℕ → ℕ → Page → List Write
paired spares f F b l w c J = cond spares (sharing f F b l w c J) (cond (emptied f F b) (collapsing f l w J) (uniting f F b l w J))

-- the father lost a key
unfoldable pub lost : Bool → ℕ → Page → ℕ → Bool
lost spares f F b = cond spares false (cond (emptied f F b) false true)

-- The neighbours l and w under f, with the key r between them: whether one spares one, and at which pair the two are cut.
pub record Settling (k n : ℕ) (ws : List ℕ) (f b r l w : ℕ) (spares : Bool) (c : ℕ) : Type 0 where
  pub three : Three k n ws f b l w
  pub left_exact : Exact k (words_of k l ws)
  pub right_exact : Exact k (words_of k w ws)
  pub level : (page_at k ws l).level ≡ (page_at k ws w).level
  pub few : μ (page_at k ws l) + μ (page_at k ws w) + 1 ≤ 50
  pub left_room : spares ≡ true → c ≤ 2 * k
  pub cut : spares ≡ true → c < μ (joined r (page_at k ws l) (page_at k ws w))
  pub right_room : spares ≡ true → μ (joined r (page_at k ws l) (page_at k ws w)) ≤ c + 2 * k
  pub room : spares ≡ false → μ (joined r (page_at k ws l) (page_at k ws w)) ≤ 2 * k

-- The short page p and its sibling s, under the father f, are three pages of the pool.
pub record Mending (k n : ℕ) (ws : List ℕ) (f p s : ℕ) : Type 0 where
  pub father : InPool k n f ws
  pub page : InPool k n p ws
  pub beside : InPool k n s ws
  pub over_page : f ≢ p
  pub over_beside : f ≢ s
  pub apart : p ≢ s
  pub father_exact : Exact k (words_of k f ws)
  pub page_exact : Exact k (words_of k p ws)
  pub beside_exact : Exact k (words_of k s ws)
  pub rising : rises (page_at k ws f).entries ≡ true
  pub key : 1 ≤ μ (page_at k ws f)
  pub level : (page_at k ws p).level ≡ (page_at k ws s).level
  pub short : μ (page_at k ws p) < k
  pub some : 1 ≤ μ (page_at k ws s)

-- What one round of the rule writes where the page is short: all up to the father's own value.
unfoldable pub round : ℕ → ℕ → ℕ → Page → ℕ → Page → ℕ → Page → List Write
round k x p P s S f F =
    let b = between_at x F in
    let J = merged x F P S in
    let left = left_one x F p s in
    let right = right_one x F p s in
    cond (ltb k (μ S)) (shares x p P s S f F) (cond (emptied f F b) (collapsing f left right J) (uniting f F b left right J))

-- These are a path and siblings of a deletion whose leaf lost x: every page can be read and written, those above the
-- leaf have keys, a sibling lies beside its page and is not empty, and no page stands twice.
pub record Climbing (k n : ℕ) (ws path siblings : List ℕ) : Type 0 where
  pub some : 1 ≤ length path
  pub deep : length path ≤ path_holds
  pub few : length siblings ≤ path_holds
  pub whole : length ws ≡ pool_length k n
  pub path_in : (i : ℕ) → i < length path → InPool k n (get_or path i 0) ws
  pub path_exact : (i : ℕ) → i < length path → Exact k (words_of k (get_or path i 0) ws)
  pub rising : (i : ℕ) → i + 1 < length path → rises (page_at k ws (get_or path i 0)).entries ≡ true
  pub key : (i : ℕ) → i + 1 < length path → 1 ≤ μ (page_at k ws (get_or path i 0))
  pub beside_in : (j : ℕ) → j < length siblings → InPool k n (get_or siblings j 0) ws
  pub beside_exact : (j : ℕ) → j < length siblings → Exact k (words_of k (get_or siblings j 0) ws)
  pub beside_some : (j : ℕ) → j < length siblings → 1 ≤ μ (page_at k ws (get_or siblings j 0))
  pub levels : (i j : ℕ) → j < length siblings → i + j + 1 ≡ length path → (page_at k ws (get_or path i 0)).level ≡ (page_at k ws (get_or siblings j 0)).level
  pub path_apart : (i t : ℕ) → i < t → t < length path → get_or path i 0 ≢ get_or path t 0
  pub beside_apart : (j t : ℕ) → j < t → t < length siblings → get_or siblings j 0 ≢ get_or siblings t 0
  pub across : (i j : ℕ) → i < length path → j < length siblings → get_or path i 0 ≢ get_or siblings j 0

-- These are the pages of a deletion of x that stands at its leaf, and x stands there. A sibling lies beside its page and
-- is not page 0, and no page stands twice.
pub record Deleting (k n : ℕ) (ws : List ℕ) (x : ℕ) (path siblings : List ℕ) : Type 0 where
  pub held : Needing k n ws path siblings
  pub stands : has x (page_at k ws (leaf_of (length path) path)).entries ≡ true
  pub levels : (i j : ℕ) → j < length siblings → i + j + 1 ≡ length path → (page_at k ws (get_or path i 0)).level ≡ (page_at k ws (get_or siblings j 0)).level
  pub others : (j : ℕ) → j < length siblings → get_or siblings j 0 ≢ 0
  pub path_apart : (i t : ℕ) → i < t → t < length path → get_or path i 0 ≢ get_or path t 0
  pub beside_apart : (j t : ℕ) → j < t → t < length siblings → get_or siblings j 0 ≢ get_or siblings t 0
  pub across : (i j : ℕ) → i < length path → j < length siblings → get_or path i 0 ≢ get_or siblings j 0
