-- What follows from a pool's being a tree: of the way of a key, of the places of pages, of the tree's size and height, and of
-- the pages that are free. The proofs are in files of their own: Search, Next, Ways, Height, SoundPages, Determined, Words.
use Rattle.std.specs.Prelude.{ℕ, zero, suc, ◌+◌, ◌-◌, ◌^◌, ◌≤◌, ◌<◌, ◌≡◌, true, false, ◌≢◌, List, [], ◌∷◌, ◌++◌, eqb, length, get_or}
use Rattle.ground.specs.Limits.{tallest, word_range}
use Rattle.ground.specs.Tests.{member}
use Rattle.page.specs.Words.{Entry, Page, page, μ}
use Rattle.page.specs.Place.{pointer, route, has, information, at_or_above}
use Rattle.page.specs.Short.{has_right, neighbour}
use Rattle.pool.specs.Pool.{is_free, free_pages}
use Rattle.tree.specs.Rows.{total}
use Rattle.tree.specs.Tree.{Tr, entries_of, occurs, Stands, way, leaf_on}
use Rattle.tree.specs.Change.{FreeFor}

-- The way of x through the tree t and through the memory.
pub record WayFacts (memory : ℕ → Page) (x l : ℕ) (t : Tr l) : Type 0 where
  -- one page on each level, page i of the way on level i + 1
  pub pages : length (way x l t) ≡ l + 1
  pub level : (i : ℕ) → i ≤ l → (memory (get_or (way x l t) i 0)).level ≡ i + 1
  -- "Page 0 is always the root"
  pub root : get_or (way x l t) l 0 ≡ 0
  -- "The route for a key is pi, where i is how many reference keys are at most the key."
  pub leads : (i : ℕ) → i < l → route x (memory (get_or (way x l t) (suc i) 0)) ≡ get_or (way x l t) i 0
  -- the same of a page q of the way and its father p, the next one above it
  pub father : (lower : List ℕ) (q p : ℕ) (upper : List ℕ) → way x l t ≡ lower ++ q ∷ p ∷ upper
      → (route x (memory p) ≡ q) × ((memory p).level ≡ (memory q).level + 1)
  -- "A leaf is level 1": the way begins at the leaf,
  pub leaf : memory (get_or (way x l t) 0 0) ≡ page 1 0 (leaf_on x l t)
  -- which decides for the whole tree whether the key is there, and what stands with it
  pub decides : has x (leaf_on x l t) ≡ has x (entries_of l t)
  pub tells : information x (leaf_on x l t) ≡ information x (entries_of l t)

-- Two lists begin with the same entry.
pub record SameFirst (es es' : List Entry) : Type 0 where
  pub first : Entry
  pub rest : List Entry
  pub rest' : List Entry
  pub one : es ≡ first ∷ rest
  pub other : es' ≡ first ∷ rest'

-- The page of x's way on level i + 2 has a child to the right of x's route. The leftmost way of that child is the way of the
-- reference key between the two.
pub record SecondWay (memory : ℕ → Page) (x l : ℕ) (t : Tr l) (i : ℕ) : Type 0 where
  pub key : ℕ
  pub in_words : key < word_range
  pub later : x < key
  -- down to that page it is x's way, and below it no page is
  pub meets : (j : ℕ) → i < j → j ≤ l → get_or (way key l t) j 0 ≡ get_or (way x l t) j 0
  pub parts : (j : ℕ) → j ≤ i → get_or (way key l t) j 0 ≢ get_or (way x l t) j 0
  -- "the next child to the right", and from there "the leftmost way", by p0 of each page
  pub turns : get_or (way key l t) i 0 ≡ neighbour x (memory (get_or (way x l t) (suc i) 0))
  pub leftmost : (j : ℕ) → j < i → get_or (way key l t) j 0 ≡ pointer 0 (memory (get_or (way key l t) (suc j) 0))
  -- where x's leaf has no entry at or above x, and no lower page of its way a child to the right, the first entry of the
  -- second leaf is the tree's first at or above x
  pub nearest : at_or_above x (leaf_on x l t) ≡ [] → ((j : ℕ) → j < i → has_right x (memory (get_or (way x l t) (suc j) 0)) ≡ false)
      → SameFirst (leaf_on key l t) (at_or_above x (entries_of l t))

-- "the first entry whose key is at or above a given one, or None"
pub record NextFacts (memory : ℕ → Page) (x l : ℕ) (t : Tr l) : Type 0 where
  -- a leaf of the way that has such an entry decides for the whole tree
  pub here : (e : Entry) (es : List Entry) → at_or_above x (leaf_on x l t) ≡ e ∷ es → SameFirst (at_or_above x (leaf_on x l t)) (at_or_above x (entries_of l t))
  -- it has none, and no page of the way has a child to the right: there is none
  pub nowhere : at_or_above x (leaf_on x l t) ≡ [] → ((i : ℕ) → i < l → has_right x (memory (get_or (way x l t) (suc i) 0)) ≡ false)
      → at_or_above x (entries_of l t) ≡ []
  pub second : (i : ℕ) → i < l → has_right x (memory (get_or (way x l t) (suc i) 0)) ≡ true → SecondWay memory x l t i

-- Page q stands somewhere in the tree t.
pub record Placed (l : ℕ) (t : Tr l) (lo hi q : ℕ) : Type 0 where
  pub level : ℕ
  pub from : ℕ
  pub to : ℕ
  pub stands : Stands l t lo hi q level from to

-- Page q stands on this level of the tree t, with a range that lies between a and b.
pub record PlacedWithin (l : ℕ) (t : Tr l) (lo hi q level a b : ℕ) : Type 0 where
  pub from : ℕ
  pub to : ℕ
  pub stands : Stands l t lo hi q level from to
  pub low : a ≤ from
  pub rises : from < to
  pub high : to ≤ b

-- Page q stands on this level of the tree t, with a range that has x.
pub record PlacedFor (x l : ℕ) (t : Tr l) (lo hi q level : ℕ) : Type 0 where
  pub from : ℕ
  pub to : ℕ
  pub stands : Stands l t lo hi q level from to
  pub low : from ≤ x
  pub high : x < to

-- A place is inside the tree.
pub record PlaceInside (l lo hi level a b : ℕ) : Type 0 where
  pub lowest : 1 ≤ level
  pub highest : level ≤ l + 1
  pub low : lo ≤ a
  pub rises : a < b
  pub high : b ≤ hi

-- Two places are one.
pub record SamePlace (level a b level' a' b' : ℕ) : Type 0 where
  pub same_level : level ≡ level'
  pub same_from : a ≡ a'
  pub same_to : b ≡ b'

-- Where the pages of the tree t stand, in the tree and in the memory.
pub record PlaceFacts (memory : ℕ → Page) (l : ℕ) (t : Tr l) : Type 0 where
  -- each page of the tree has a place, and what has a place is a page of the tree
  pub placed : (q : ℕ) → 1 ≤ occurs q l t → Placed l t 0 word_range q
  pub counted : (q level a b : ℕ) → Stands l t 0 word_range q level a b → 1 ≤ occurs q l t
  -- it has one place only, inside the tree, and the memory has that level there
  pub only : (q level a b level' a' b' : ℕ) → Stands l t 0 word_range q level a b → Stands l t 0 word_range q level' a' b'
      → SamePlace level a b level' a' b'
  pub inside : (q level a b : ℕ) → Stands l t 0 word_range q level a b → PlaceInside l 0 word_range level a b
  pub level : (q level a b : ℕ) → Stands l t 0 word_range q level a b → (memory q).level ≡ level
  -- the pages of x's way stand in ranges that have x, and every page that stands in such a range is on x's way
  pub on_way : (x i : ℕ) → x < word_range → i ≤ l → PlacedFor x l t 0 word_range (get_or (way x l t) i 0) (i + 1)
  pub way_has : (x i q a b : ℕ) → Stands l t 0 word_range q (i + 1) a b → a ≤ x → x < b → get_or (way x l t) i 0 ≡ q
  -- ways that meet have met above
  pub above : (x y q : ℕ) (lower upper lower' upper' : List ℕ) → x < word_range → y < word_range
      → way x l t ≡ lower ++ q ∷ upper → way y l t ≡ lower' ++ q ∷ upper' → upper ≡ upper'
  -- "Keys under p(i-1) are less than ri; keys under pi are at least ri": what a page points to stands one level lower,
  -- in a part of its range
  pub pointed : (p i a b j : ℕ) → Stands l t 0 word_range p (i + 2) a b → j ≤ μ (memory p)
      → PlacedWithin l t 0 word_range (pointer j (memory p)) (i + 1) a b
  -- "A page left with k-1 uses its right neighbour under the same father; if it has none, the left one.": so does that one
  pub neighbours : (p i a b x : ℕ) → Stands l t 0 word_range p (i + 2) a b → PlacedWithin l t 0 word_range (neighbour x (memory p)) (i + 1) a b
  -- a page has one father,
  pub one_father : (p i a b j p' i' a' b' j' : ℕ) → Stands l t 0 word_range p (i + 2) a b → j ≤ μ (memory p)
      → Stands l t 0 word_range p' (i' + 2) a' b' → j' ≤ μ (memory p')
      → pointer j (memory p) ≡ pointer j' (memory p') → p ≡ p'
  -- which is above it on every way that it is on
  pub father_above : (x c p i a b j : ℕ) → x < word_range → c ≤ l → Stands l t 0 word_range p (i + 2) a b → j ≤ μ (memory p)
      → get_or (way x l t) c 0 ≡ pointer j (memory p) → get_or (way x l t) (suc c) 0 ≡ p

-- how many pages the tree has
abbrev pub page_count : (l : ℕ) → Tr l → ℕ
page_count zero t = 1
page_count (suc l) t = 1 + total (page_count l) t.row

-- "Each page above level 1 has at least two children, so a tree of height h has at least 2^h - 1 pages, and h is at most 10."
pub record HeightFacts (n l : ℕ) (t : Tr l) : Type 0 where
  pub many : 2 ^ (l + 1) - 1 ≤ page_count l t
  -- the pages are different and of the pool
  pub in_pool : page_count l t ≤ n
  pub height : l + 1 ≤ tallest

-- a tree, of whatever height
abbrev pub AnyTree : Type 0
AnyTree = (l : ℕ) × Tr l

abbrev pub any_tree : (l : ℕ) → Tr l → AnyTree
any_tree l t = (l, t)

-- the empty tree: page 0 is a leaf without entries
abbrev pub empty_tree : Tr 0
empty_tree = record { at = 0; entries = [] }

-- "each time the lowest-numbered free one": the free pages of a pool, in the rule's list, are the pages that are not the tree's.
pub record FreeFacts (k n : ℕ) (ws : List ℕ) (l : ℕ) (t : Tr l) : Type 0 where
  pub test : (q : ℕ) → q < n → is_free k ws q ≡ eqb (occurs q l t) 0
  pub free : FreeFor n l t (free_pages k n ws)
  pub every : (q : ℕ) → q < n → occurs q l t ≡ 0 → member q (free_pages k n ws) ≡ true
  -- the free pages and the tree's are the pool's
  pub count : length (free_pages k n ws) + page_count l t ≡ n
