-- The rules of an insertion and of a deletion, a page at a time: where a page is written and the change ends, where it is split,
-- and where page 0 rises.
use Prim.Native.Nat.{ℕ, ◌*◌, ◌≤◌, ◌<◌}
use mathlib.Core.List.{List, [], ◌∷◌}
use mathlib.Core.Path.{◌≡◌, refl}
use borrow.Author.Tests.{le-leb, lt-leb}
use lib.ListN.{drop}
use Rattle.ground.proofs.Choice.{cond-true, cond-false}
use Rattle.page.specs.Words.{Page, entry, μ}
use Rattle.page.specs.Place.{place}
use Rattle.page.specs.Splits.{put, split, raised}
use Rattle.pool.specs.Pool.{write}
use Rattle.change.specs.Insertion.{lowest, settled}
use Rattle.change.specs.Deletion.{shrunk}

module _ (k : ℕ) (memory : ℕ → Page) (x : ℕ) where
  -- ---- a page with one pair more

  -- a page of at most 2k is written
  pub settled_fits : (free up : List ℕ) (p : ℕ) (P : Page) → μ P ≤ 2 * k → settled k memory x free up p P ≡ write p P ∷ []
  unfolding settled
  settled_fits free [] p P h = cond-true _ _ (le-leb (μ P) (2 * k) h)
  settled_fits free (f ∷ up) p P h = cond-true _ _ (le-leb (μ P) (2 * k) h)

  -- one that has more is split, and its father has one reference key more
  pub settled_splits : (free : List ℕ) (f : ℕ) (up : List ℕ) (p : ℕ) (P : Page) → 2 * k < μ P
      → settled k memory x free (f ∷ up) p P
      ≡ write (lowest free) (split k P).right ∷ write p (split k P).left
      ∷ settled k memory x (drop 1 free) up f (put (place x (memory f).entries) (entry (split k P).between (lowest free)) (memory f))
  unfolding settled
  settled_splits free f up p P h = cond-false _ _ (lt-leb (μ P) (2 * k) h)

  -- page 0 is split under a new root
  pub settled_raises : (free : List ℕ) (p : ℕ) (P : Page) → 2 * k < μ P
      → settled k memory x free [] p P
      ≡ write (lowest free) (split k P).left ∷ write (lowest (drop 1 free)) (split k P).right
      ∷ write p (raised P (lowest free) (split k P).between (lowest (drop 1 free))) ∷ []
  unfolding settled
  settled_raises free p P h = cond-false _ _ (lt-leb (μ P) (2 * k) h)

  -- ---- a page with one pair less

  -- the top page is written as it is,
  pub shrunk_top : (siblings : List ℕ) (p : ℕ) (P : Page) → shrunk k memory x [] siblings p P ≡ write p P ∷ []
  unfolding shrunk
  shrunk_top siblings p P = refl

  -- and so is one that has no sibling
  pub shrunk_alone : (fathers : List ℕ) (p : ℕ) (P : Page) → shrunk k memory x fathers [] p P ≡ write p P ∷ []
  unfolding shrunk
  shrunk_alone [] p P = refl
  shrunk_alone (f ∷ up) p P = refl
