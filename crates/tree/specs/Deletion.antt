-- A deletion as a change of the tree, and the siblings that it needs.
use Rattle.std.specs.Prelude.{ℕ, suc, ◌≤◌, ◌<◌, Bool, true, false, ◌≡◌, List, ◌∷◌, ◌++◌, ltb, length, get_or}
use Rattle.ground.specs.Limits.{word_range}
use Rattle.ground.specs.Tests.{member, distinct}
use Rattle.page.specs.Words.{Page, μ}
use Rattle.page.specs.Place.{has, without}
use Rattle.change.specs.Deletion.{nothing, sibling, astray, needs, deletion}
use Rattle.tree.specs.Tree.{Tr, entries_of, occurs, Stands, way, Forms}
use Rattle.tree.specs.Change.{written_pages, Leads, HeldWay}

-- "Deletion: the same with μ > k": all ancestors of a page that can spare one are given up.
abbrev pub can_spare : ℕ → (ℕ → Page) → ℕ → Bool
can_spare k memory p = ltb k (μ (memory p))

-- What the deletion of x does to the tree t.
pub record Deletes (k n : ℕ) (memory : ℕ → Page) (l : ℕ) (t : Tr l) (x leaf : ℕ) (fathers siblings : List ℕ) : Type 0 where
  -- "When no more is needed, the whole change is made in that step": the pages form a tree again, less the key
  pub leads : Leads k n memory l t (deletion k memory x leaf fathers siblings) (without x (entries_of l t))
  -- it writes no page but those that it holds
  pub writes : (q : ℕ) → member q (written_pages (deletion k memory x leaf fathers siblings)) ≡ true → member q ((leaf ∷ fathers) ++ siblings) ≡ true

-- A deletion of a key that is there, by an operation that holds the lower part of its way and needs no more siblings.
abbrev pub DeletionLeads : Type 0
DeletionLeads =
    (k n : ℕ) (memory : ℕ → Page) (l : ℕ) (t : Tr l) (x leaf : ℕ) (fathers siblings : List ℕ)
    → 1 ≤ k
    → Forms k n memory l t
    → x < word_range
    → has x (entries_of l t) ≡ true
    → HeldWay (can_spare k memory) x l t leaf fathers
    → needs k memory x leaf fathers siblings ≡ nothing
    → Deletes k n memory l t x leaf fathers siblings

-- The siblings were taken one after the other, each when the rule asked for it.
abbrev pub Asked : ℕ → (ℕ → Page) → ℕ → ℕ → List ℕ → List ℕ → Type 0
Asked k memory x leaf fathers siblings =
    (before : List ℕ) (s : ℕ) (after : List ℕ) → siblings ≡ before ++ s ∷ after → needs k memory x leaf fathers before ≡ sibling s

-- Pages s and p of the tree are on this level, under the same father: their ranges are parts of its range.
pub record Beside (l : ℕ) (t : Tr l) (lo hi s p father level : ℕ) : Type 0 where
  pub low : ℕ
  pub high : ℕ
  pub stands : Stands l t lo hi s level low high
  pub from : ℕ
  pub to : ℕ
  pub beside : Stands l t lo hi p level from to
  pub least : ℕ
  pub most : ℕ
  pub under : Stands l t lo hi father (suc level) least most
  pub low_inside : least ≤ low
  pub high_inside : high ≤ most
  pub from_inside : least ≤ from
  pub to_inside : to ≤ most

-- The sibling s that a deletion wants: "a page left with k-1 uses its right neighbour under the same father; if it has
-- none, the left one". As many siblings are held as pages of the path below the page that s is to help.
pub record Wanted (l : ℕ) (t : Tr l) (x leaf : ℕ) (fathers siblings : List ℕ) (s : ℕ) : Type 0 where
  -- the father is held, and s is a page of the tree beside that page, under it
  pub father_held : length siblings < length fathers
  pub place : Beside l t 0 word_range s (get_or (leaf ∷ fathers) (length siblings) 0) (get_or fathers (length siblings) 0) (suc (length siblings))
  -- no slot "wants one it holds"
  pub off_way : member s (way x l t) ≡ false
  pub not_held : member s siblings ≡ false

-- What a deletion that stands at its leaf holds and wants.
pub record Needed (k : ℕ) (memory : ℕ → Page) (l : ℕ) (t : Tr l) (x leaf : ℕ) (fathers siblings : List ℕ) : Type 0 where
  -- it holds the pages that the rules would have it hold
  pub on_course : needs k memory x leaf fathers siblings ≡ astray → ⊥
  -- what it wants is there to be had
  pub wanted : (s : ℕ) → needs k memory x leaf fathers siblings ≡ sibling s → Wanted l t x leaf fathers siblings s
  -- "no siblings or fewer of them than path pages"
  pub few : length siblings ≤ length fathers
  -- "no slot holds a page twice"
  pub different : distinct (way x l t ++ siblings) ≡ true
  -- the siblings are pages of the tree
  pub pages : (q : ℕ) → member q siblings ≡ true → 1 ≤ occurs q l t

-- A deletion of a key that is there, by an operation that holds the lower part of its way and has taken each sibling that
-- it was asked to take.
abbrev pub SiblingsThere : Type 0
SiblingsThere =
    (k n : ℕ) (memory : ℕ → Page) (l : ℕ) (t : Tr l) (x leaf : ℕ) (fathers siblings : List ℕ)
    → 1 ≤ k
    → Forms k n memory l t
    → x < word_range
    → has x (entries_of l t) ≡ true
    → HeldWay (can_spare k memory) x l t leaf fathers
    → Asked k memory x leaf fathers siblings
    → Needed k memory l t x leaf fathers siblings
