-- What the tree's theorems say of a change, that is, of a list of page writes: it leads from one tree to the next.
use Rattle.std.specs.Prelude.{ℕ, ◌<◌, Bool, true, false, cond, not, ◌≡◌, List, [], ◌∷◌, ◌++◌, map, ◌⊎◌, eqb}
use Rattle.ground.specs.Limits.{word_range}
use Rattle.ground.specs.Tests.{all, member, distinct}
use Rattle.page.specs.Words.{Entry, Page}
use Rattle.page.specs.Fits.{Fits}
use Rattle.pool.specs.Pool.{Write}
use Rattle.tree.specs.Tree.{Tr, entries_of, occurs, Stands, way, Forms}

-- the memory after one page is written, and after a list of pages is
abbrev pub memory_with : (ℕ → Page) → Write → ℕ → Page
memory_with memory w q = cond (eqb q w.at) w.value (memory q)

abbrev pub memory_after : (ℕ → Page) → List Write → ℕ → Page
memory_after memory [] = memory
memory_after memory (w ∷ rest) = memory_after (memory_with memory w) rest

abbrev pub written_pages : List Write → List ℕ
written_pages writes = map (λ (w : Write). w.at) writes

-- each page that is written has room for its value
abbrev pub Fitting : ℕ → List Write → Type 0
Fitting k [] = Unit {0}
Fitting k (w ∷ rest) = Fits k w.value × Fitting k rest

-- These writes lead from the tree t to a tree with these entries.
pub record Leads (k n : ℕ) (memory : ℕ → Page) (l : ℕ) (t : Tr l) (writes : List Write) (es : List Entry) : Type 0 where
  pub height : ℕ
  pub tree : Tr height
  -- the pages form a tree again, and every other page is all zeros
  pub forms : Forms k n (memory_after memory writes) height tree
  pub entries : entries_of height tree ≡ es
  -- no page is written twice, and none outside the pool
  pub different : distinct (written_pages writes) ≡ true
  pub inside : (q : ℕ) → member q (written_pages writes) ≡ true → q < n
  pub fitting : Fitting k writes
  -- every page that is not written keeps its level and key range
  pub keeps : (q level a b : ℕ) → member q (written_pages writes) ≡ false → Stands l t 0 word_range q level a b → Stands height tree 0 word_range q level a b

-- the last page of a path that is given upward: its top
abbrev pub top_of : ℕ → List ℕ → ℕ
top_of p [] = p
top_of p (f ∷ up) = top_of f up

-- the pages of such a path that are not its top
abbrev pub below_top : ℕ → List ℕ → List ℕ
below_top p [] = []
below_top p (f ∷ up) = p ∷ below_top f up

-- The pages that an update of key x holds on its way, from the leaf upward: the lower part of x's way, the top page safe
-- or page 0, and none below it safe.
pub record HeldWay (is_safe : ℕ → Bool) (x l : ℕ) (t : Tr l) (leaf : ℕ) (fathers : List ℕ) : Type 0 where
  pub above : List ℕ
  pub whole : way x l t ≡ (leaf ∷ fathers) ++ above
  pub top : (above ≡ []) ⊎ (is_safe (top_of leaf fathers) ≡ true)
  pub unsafe : all (λ (p : ℕ). not (is_safe p)) (below_top leaf fathers) ≡ true

-- Free pages: below n, none twice, and none of the tree's.
pub record FreeFor (n l : ℕ) (t : Tr l) (free : List ℕ) : Type 0 where
  pub different : distinct free ≡ true
  pub within : (q : ℕ) → member q free ≡ true → q < n
  pub outside : (q : ℕ) → member q free ≡ true → occurs q l t ≡ 0
