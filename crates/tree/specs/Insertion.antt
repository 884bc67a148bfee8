-- An insertion as a change of the tree, and the room that it needs, counted on the tree alone.
use Rattle.std.specs.Prelude.{ℕ, zero, suc, ◌*◌, ◌≤◌, ◌<◌, Bool, true, false, cond, ◌≡◌, List, [], ◌∷◌, ◌++◌, ◌⊎◌, ltb, eqb, length, take}
use Rattle.ground.specs.Limits.{word_range}
use Rattle.ground.specs.Tests.{member}
use Rattle.page.specs.Words.{Page, μ}
use Rattle.page.specs.Place.{has}
use Rattle.change.specs.Insertion.{room, insertion}
use Rattle.tree.specs.Rows.{followed}
use Rattle.tree.specs.Tree.{Tr, page_of, entries_of, Forms}
use Rattle.tree.specs.Sorted.{inserted}
use Rattle.tree.specs.Change.{written_pages, Leads, HeldWay, FreeFor}

-- "Insertion: if the page has μ < 2k, all its ancestors are given up."
abbrev pub has_space : ℕ → (ℕ → Page) → ℕ → Bool
has_space k memory p = ltb (μ (memory p)) (2 * k)

-- the number μ of each page on x's way, from the leaf upward
abbrev pub fillings : ℕ → (l : ℕ) → Tr l → List ℕ
fillings x zero t = μ (page_of zero t) ∷ []
fillings x (suc l) t = followed (fillings x l) [] x t.row ++ μ (page_of (suc l) t) ∷ []

-- How many new pages an insertion takes, by the numbers μ on its way: one for each full page from the leaf upward, as far
-- as the first that is not full; and one more where every page is full, so that the root splits too.
abbrev pub new_pages : ℕ → List ℕ → ℕ
new_pages k [] = 1
new_pages k (n ∷ ns) = cond (eqb n (2 * k)) (suc (new_pages k ns)) 0

-- the new pages that the tree needs for x
abbrev pub tree_room : ℕ → ℕ → (l : ℕ) → Tr l → ℕ
tree_room k x l t = new_pages k (fillings x l t)

-- What the insertion of x with the information v does to the tree t.
pub record Inserts (k n : ℕ) (memory : ℕ → Page) (l : ℕ) (t : Tr l) (x v : ℕ) (free : List ℕ) (leaf : ℕ) (fathers : List ℕ) : Type 0 where
  -- "then the whole change is made": the pages form a tree again, with the new entry in its place
  pub leads : Leads k n memory l t (insertion k memory x v free leaf fathers) (inserted x v (entries_of l t))
  -- it writes no page but those that it holds, and as many new ones as the count of room says
  pub writes : (q : ℕ)
      → member q (written_pages (insertion k memory x v free leaf fathers)) ≡ true
      → (member q (leaf ∷ fathers) ≡ true) ⊎ (member q (take (room k memory leaf (leaf ∷ fathers)) free) ≡ true)
  -- every page that it holds is written
  pub rewrites : (q : ℕ) → member q (leaf ∷ fathers) ≡ true → member q (written_pages (insertion k memory x v free leaf fathers)) ≡ true
  -- "New pages are taken as needed .., each time the lowest-numbered free one": as many as the count of room says are
  -- taken, the first ones of the list of free pages, and each is written
  pub takes : (q : ℕ)
      → member q (take (room k memory leaf (leaf ∷ fathers)) free) ≡ true
      → member q (written_pages (insertion k memory x v free leaf fathers)) ≡ true

-- An insertion of a key that is not there, into a tree with room for it, by an operation that holds the lower part of its
-- way and knows the free pages.
abbrev pub InsertionLeads : Type 0
InsertionLeads =
    (k n : ℕ) (memory : ℕ → Page) (l : ℕ) (t : Tr l) (x v : ℕ) (free : List ℕ) (leaf : ℕ) (fathers : List ℕ)
    → 1 ≤ k
    → Forms k n memory l t
    → x < word_range
    → has x (entries_of l t) ≡ false
    → HeldWay (has_space k memory) x l t leaf fathers
    → FreeFor n l t free
    → room k memory leaf (leaf ∷ fathers) ≤ length free
    → Inserts k n memory l t x v free leaf fathers

-- "Room: an insertion into a leaf with μ < 2k needs none. Otherwise it needs one page for each page it holds with
-- μ = 2k, and one more if page 0 is one of those full pages." What the held pages say is what the tree needs.
abbrev pub RoomOfTree : Type 0
RoomOfTree =
    (k n : ℕ) (memory : ℕ → Page) (l : ℕ) (t : Tr l) (x leaf : ℕ) (fathers : List ℕ)
    → Forms k n memory l t
    → x < word_range
    → HeldWay (has_space k memory) x l t leaf fathers
    → room k memory leaf (leaf ∷ fathers) ≡ tree_room k x l t
