-- Where an open slot stands in the tree: which pages of its key's way it holds, and which page it wants.
-- "Slots, locks and steps" of document 01, said of the tree as it is at that moment. A slot's path is given from the top
-- downward, the way of a key from the leaf upward.
use Rattle.std.specs.Prelude.{ℕ, suc, ◌*◌, ◌≤◌, ◌<◌, true, false, cond, ◌&&◌, List, [], ◌∷◌, ◌++◌, reverse, map, ◌⊎◌, ◌≢◌, ◌≡◌, length, get_or}
use Rattle.page.specs.Words.{Page, μ}
use Rattle.page.specs.Place.{place, pointer, has, at_or_above}
use Rattle.page.specs.Short.{neighbour}
use Rattle.ground.specs.Tests.{member}
use Rattle.slots.specs.declared.Op.{Op}
use Rattle.slots.specs.declared.Op.TheVariants.{Search, Insert, Delete, Next, Regrade}
use Rattle.slots.specs.declared.Way.TheVariants.{First, Second, Third}
use Rattle.slots.specs.declared.Lock.{Lock}
use Rattle.slots.specs.declared.Lock.TheVariants.{Xi}
use Rattle.slots.specs.Parts.{key_of, is_delete, is_next, is_second, is_third, first_way, held_lock, goes_beside, under, with_xi, converting, Stand, fresh_stand}
use Rattle.slots.specs.Grant.{older_than}
use Rattle.footing.specs.Granted.{is_safe, answered_at_once, change_known, pages_in_turn}
use Rattle.footing.specs.Fitting.{lock_due}
use Rattle.tree.specs.Tree.{Tr, entries_of, way}
use Rattle.tree.specs.Deletion.{Asked}

-- When a page is safe for an operation: then all its ancestors are given up. "Search gives up the father." "Insertion: if the page
-- has μ < 2k". "Deletion: the same with μ > k". Next: it is no leaf, and "still has a child to the right of the route".
-- Regrading: "every page is safe for it". By the second way an update gives up the father as a search does, by the third its ancestors as by the
-- first. The rule's test of it is `is_safe`, proved to be this.
abbrev pub Safe : Op → ℕ → Page → Type 0
Safe (Search x) k P = Unit {0}
Safe (Insert x v First) k P = μ P < 2 * k
Safe (Insert x v Second) k P = Unit {0}
Safe (Insert x v Third) k P = μ P < 2 * k
Safe (Delete x First) k P = k < μ P
Safe (Delete x Second) k P = Unit {0}
Safe (Delete x Third) k P = k < μ P
Safe (Next x) k P = (P.level ≢ 1) × (place x P.entries < μ P)
Safe (Regrade x v First) k P = Unit {0}
Safe (Regrade x v Second) k P = Unit {0}
Safe (Regrade x v Third) k P = Unit {0}

-- The pages of a path are those whose ancestors could not be given up: the top one is page 0 or safe for the operation, and
-- none below it is safe. (For a search, a regrading and an update by the second way every page is safe: so they hold one.)
pub record Rightly (op : Op) (k : ℕ) (memory : ℕ → Page) (path : List ℕ) : Type 0 where
  pub some : 1 ≤ length path
  pub top : (get_or path 0 0 ≡ 0) ⊎ (is_safe op k (memory (get_or path 0 0)) ≡ true)
  pub unsafe : (i : ℕ) → suc i < length path → is_safe op k (memory (get_or path (suc i) 0)) ≡ false

-- "Beginning an operation makes the slot want page 0." It holds nothing yet.
pub record Starting (z : Stand) : Type 0 where
  pub no_path : z.path ≡ []
  pub no_siblings : z.beside ≡ []
  pub wants_root : z.want ≡ 0

-- Coming down: it holds a stretch of its key's way and wants the next page of it.
pub record Coming (k : ℕ) (memory : ℕ → Page) (l : ℕ) (t : Tr l) (z : Stand) : Type 0 where
  pub lower : List ℕ
  pub upper : List ℕ
  pub whole : way (key_of z.op) l t ≡ lower ++ z.want ∷ (reverse z.path ++ upper)
  pub rightly : Rightly z.op k memory z.path
  pub no_siblings : z.beside ≡ []

-- At its leaf: "Deletion .. If the leaf would be short, and is not page 0, the slot wants its sibling, then, if the two join
-- and the father would be short too and is not page 0, the father's sibling, and so on up."
pub record WantsSibling (k : ℕ) (memory : ℕ → Page) (l : ℕ) (t : Tr l) (z : Stand) : Type 0 where
  pub deletes : is_delete z.op ≡ true
  pub there : has (key_of z.op) (entries_of l t) ≡ true
  pub upper : List ℕ
  pub whole : way (key_of z.op) l t ≡ reverse z.path ++ upper
  pub rightly : Rightly z.op k memory z.path
  -- the father of the page that the wanted sibling is to help is held too
  pub fewer : suc (length z.beside) < length z.path
  -- the pages of the path that would be short, from the leaf upward: each has k and is not page 0
  pub short : (j : ℕ) → j ≤ length z.beside → μ (memory (get_or (reverse z.path) j 0)) ≡ k
  pub not_root : (j : ℕ) → j ≤ length z.beside → get_or (reverse z.path) j 0 ≢ 0
  -- "A page left with k-1 uses its right neighbour under the same father; if it has none, the left one.": each sibling is
  -- that neighbour of its page, and has k, so that the two join
  pub neighbours : (j : ℕ) → j < length z.beside → get_or z.beside j 0 ≡ neighbour (key_of z.op) (memory (get_or (reverse z.path) (suc j) 0))
  pub joining : (j : ℕ) → j < length z.beside → μ (memory (get_or z.beside j 0)) ≡ k
  pub wants_next : z.want ≡ neighbour (key_of z.op) (memory (get_or (reverse z.path) (suc (length z.beside)) 0))

-- Past its leaf: Next, "if the leaf has no such key, goes down the leftmost way of the next child to the right, giving nothing up
-- until its answer". The second way, as far as it is held, stands beside the path, and the want behind it.
pub record Crossing (k : ℕ) (memory : ℕ → Page) (l : ℕ) (t : Tr l) (z : Stand) : Type 0 where
  pub asks_next : is_next z.op ≡ true
  pub upper : List ℕ
  pub whole : way (key_of z.op) l t ≡ reverse z.path ++ upper
  pub rightly : Rightly z.op k memory z.path
  -- the leaf has no key at or above the key
  pub none : at_or_above (key_of z.op) (memory (get_or (reverse z.path) 0 0)).entries ≡ []
  -- the top page, the lowest of the way that has one, has a child to the right
  pub right : is_safe z.op k (memory (get_or z.path 0 0)) ≡ true
  -- the second way goes down from there, so it is shorter than the first
  pub fewer : suc (length z.beside) < length z.path
  -- "the next child to the right", and p0 of each page behind it
  pub turns : get_or (z.beside ++ z.want ∷ []) 0 0 ≡ neighbour (key_of z.op) (memory (get_or z.path 0 0))
  pub leftmost : (j : ℕ) → j < length z.beside → get_or (z.beside ++ z.want ∷ []) (suc j) 0 ≡ pointer 0 (memory (get_or z.beside j 0))

-- At its leaf, its change is known: 02 (vi): "When the change is known, path and siblings are converted to ξ from the top down, path page before
-- sibling on each level, one conversion a step. A conversion wants a held page".
pub record Converting (k : ℕ) (memory : ℕ → Page) (l : ℕ) (t : Tr l) (z : Stand) : Type 0 where
  pub third : is_third z.op ≡ true
  pub leaf : ℕ
  pub fathers : List ℕ
  pub upward : reverse z.path ≡ leaf ∷ fathers
  pub upper : List ℕ
  pub whole : way (key_of z.op) l t ≡ reverse z.path ++ upper
  pub rightly : Rightly z.op k memory z.path
  -- the key is not one that is answered at once, and no sibling is needed any more
  pub known : change_known k memory z leaf fathers ≡ true
  -- each sibling that it holds was asked for in its turn
  pub asked : Asked k memory (key_of z.op) leaf fathers z.beside
  -- what was converted, the page that is wanted, and what is still to be converted
  pub done : List ℕ
  pub rest : List ℕ
  pub turns : pages_in_turn z ≡ done ++ z.want ∷ rest

-- The kind of lock with which it wants a new page: the kind with which its operation goes down; by the second way "a ξ-lock wanted on the
-- leaf": ξ exactly if the lowest page that it holds is on level 2.
abbrev pub WantsWith : (ℕ → Page) → Stand → Type 0
WantsWith memory z = z.lock ≡ lock_due z.op memory (reverse z.path)

-- The kind of lock under which the rules would have it hold page p: the kind with which its operation goes down, and ξ where it was converted: before
-- the page that is wanted now.
abbrev pub held_due : Stand → ℕ → Lock
held_due z p = cond (converting z && member p (older_than z.want (pages_in_turn z))) Xi (held_lock z.op)

-- 02 (vi): "Each held page now carries its kind": the one that is due.
pub record HoldsWith (z : Stand) : Type 0 where
  pub path : z.locks ≡ map (λ (p : ℕ). under (held_due z p)) z.path
  pub beside : z.sidelocks ≡ map (λ (p : ℕ). under (held_due z p)) z.beside

-- The kinds of lock with which it wants and holds.
pub record Locked (memory : ℕ → Page) (z : Stand) : Type 0 where
  pub wants : converting z ≡ false → WantsWith memory z
  pub converts : converting z ≡ true → z.lock ≡ Xi
  pub holds : HoldsWith z

-- An open slot stands in the tree as the rules would have it: it gathers pages, or it converts those that it holds.
abbrev pub Gathering : ℕ → (ℕ → Page) → (l : ℕ) → Tr l → Stand → Type 0
Gathering k memory l t z = Starting z ⊎ (Coming k memory l t z ⊎ (WantsSibling k memory l t z ⊎ Crossing k memory l t z))

abbrev pub Stance : ℕ → (ℕ → Page) → (l : ℕ) → Tr l → Stand → Type 0
Stance k memory l t z = Gathering k memory l t z ⊎ Converting k memory l t z

-- ---- what a slot that stands at z and goes on holds afterwards, at z'

-- In the first three cases it takes a page that it did not hold (new), goes on with its operation (same), and holds the page under the kind of lock that
-- it wanted it with, and what it keeps under the kind that it had (locks, sidelocks).

-- the lowest page of its path is a leaf
abbrev pub StandsAtLeaf : (ℕ → Page) → List ℕ → Type 0
StandsAtLeaf memory path = (1 ≤ length path) × ((memory (get_or (reverse path) 0 0)).level ≡ 1)

-- "Search gives up the father." "Insertion: if the page has μ < 2k, all its ancestors are given up." "Deletion: the same with
-- μ > k". Next keeps its locks "from the lowest page on its way that still has a child to the right". Regrading: "every page is safe
-- for it". Coming down to a page that is safe for the operation, it holds that page alone.
pub record GivesUp (k : ℕ) (memory : ℕ → Page) (z z' : Stand) : Type 0 where
  pub same : z'.op ≡ z.op
  pub new : converting z ≡ false
  pub comes_down : StandsAtLeaf memory z.path → ⊥
  pub safe : is_safe z.op k (memory z.want) ≡ true
  pub no_siblings : z.beside ≡ []
  pub holds : z'.path ≡ z.want ∷ []
  pub locks : z'.locks ≡ under z.lock ∷ []
  pub still : z'.beside ≡ []
  pub sidelocks : z'.sidelocks ≡ []

-- coming down to one that is not safe, it gives up nothing
pub record Keeps (k : ℕ) (memory : ℕ → Page) (z z' : Stand) : Type 0 where
  pub same : z'.op ≡ z.op
  pub new : converting z ≡ false
  pub comes_down : StandsAtLeaf memory z.path → ⊥
  pub unsafe : is_safe z.op k (memory z.want) ≡ false
  pub no_siblings : z.beside ≡ []
  pub holds : z'.path ≡ z.path ++ z.want ∷ []
  pub locks : z'.locks ≡ z.locks ++ under z.lock ∷ []
  pub still : z'.beside ≡ []
  pub sidelocks : z'.sidelocks ≡ []

-- a deletion at its leaf takes the sibling, and a Next the page of its second way, beside all that it holds
pub record TakesBeside (memory : ℕ → Page) (z z' : Stand) : Type 0 where
  pub same : z'.op ≡ z.op
  pub new : converting z ≡ false
  pub beside : goes_beside z.op ≡ true
  pub at_leaf : StandsAtLeaf memory z.path
  pub still : z'.path ≡ z.path
  pub locks : z'.locks ≡ z.locks
  pub holds : z'.beside ≡ z.beside ++ z.want ∷ []
  pub sidelocks : z'.sidelocks ≡ z.sidelocks ++ under z.lock ∷ []

-- 02 (v): "A key already there or missing is answered at once; a safe leaf is changed; otherwise all locks are given up and the operation
-- begins again by the first way. If page 0 is a leaf, it begins again in any case." Then it holds nothing and wants page 0, as an operation
-- of the first way that has just begun.
pub record BeginsAgain (k : ℕ) (memory : ℕ → Page) (z z' : Stand) : Type 0 where
  pub second : is_second z.op ≡ true
  pub new : converting z ≡ false
  pub leaf : (memory z.want).level ≡ 1
  pub why : (z.want ≡ 0)
      ⊎ ((answered_at_once z.op (memory z.want).entries ≡ false) × (is_safe (first_way z.op) k (memory z.want) ≡ false))
  pub fresh : z' ≡ fresh_stand (first_way z.op)

-- 02 (vi): "one conversion a step": it holds what it held, and the page that it wanted with ξ now. It wants the next one.
pub record Converts (z z' : Stand) : Type 0 where
  pub same : z'.op ≡ z.op
  pub third : is_third z.op ≡ true
  pub held : converting z ≡ true
  pub still : z'.path ≡ z.path
  pub locks : z'.locks ≡ with_xi z.want z.path z.locks
  pub beside : z'.beside ≡ z.beside
  pub sidelocks : z'.sidelocks ≡ with_xi z.want z.beside z.sidelocks
  -- the page that follows in the order of conversion
  pub done : List ℕ
  pub rest : List ℕ
  pub turns : pages_in_turn z ≡ done ++ z.want ∷ (z'.want ∷ rest)

-- one of the five; of the operation and the pages at most one can be
abbrev pub Gathers : ℕ → (ℕ → Page) → Stand → Stand → Type 0
Gathers k memory z z' = GivesUp k memory z z' ⊎ (Keeps k memory z z' ⊎ (TakesBeside memory z z' ⊎ BeginsAgain k memory z z'))

abbrev pub Takes : ℕ → (ℕ → Page) → Stand → Stand → Type 0
Takes k memory z z' = Gathers k memory z z' ⊎ Converts z z'
