-- What bars a want. 01: "A step grants the want when no other slot holds a clashing lock on that page and no older want is for the
-- same page. Otherwise it is answered Waiting". 02 (iii): "a want waits only for held locks and older wants that clash with it."
use Rattle.std.specs.Prelude.{ℕ, ◌<◌, true, false, List, ◌∷◌, ◌++◌, ◌⊎◌, ◌≢◌, ◌≡◌}
use Rattle.ground.specs.Limits.{slot_count}
use Rattle.ground.specs.Tests.{member}
use Rattle.slots.specs.declared.State.{State}
use Rattle.slots.specs.Parts.{want_at, holds_at, waiting_order}
use Rattle.slots.specs.Locks.{lock_held_at, lock_wanted_at, clash}
use Rattle.slots.specs.Grant.{older_than, converts_at}

-- another slot holds the page that slot s wants, under a kind that clashes with the one it wants
pub record Holder (st : State) (s : ℕ) : Type 0 where
  pub slot : ℕ
  pub below : slot < slot_count
  pub other : slot ≢ s
  pub holds : holds_at st slot (want_at st s) ≡ true
  pub clashes : clash (lock_held_at st slot (want_at st s)) (lock_wanted_at st s) ≡ true

-- an older want is for the same page, with a kind that clashes with its own
pub record Older (st : State) (s : ℕ) : Type 0 where
  pub slot : ℕ
  pub older : member slot (older_than s (waiting_order st)) ≡ true
  pub same : want_at st slot ≡ want_at st s
  pub clashes : clash (lock_wanted_at st slot) (lock_wanted_at st s) ≡ true

-- 02 (vi): "A conversion .. comes before every other want on it": another slot waits to convert the page that slot s wants
pub record Converter (st : State) (s : ℕ) : Type 0 where
  pub slot : ℕ
  pub below : slot < slot_count
  pub other : slot ≢ s
  pub same : want_at st slot ≡ want_at st s
  pub converts : converts_at st slot ≡ true

-- A conversion is barred by held locks alone, any other want by older wants and by conversions too.
abbrev pub Barred : State → ℕ → Type 0
Barred st s = Holder st s ⊎ ((converts_at st s ≡ false) × (Older st s ⊎ Converter st s))

-- "Wants stand in a waiting order, oldest first.": slot t stands before slot s in the order. For the slots of an order `older_than`
-- is proved to be this.
pub record Before (t s : ℕ) (order : List ℕ) : Type 0 where
  pub front : List ℕ
  pub between : List ℕ
  pub behind : List ℕ
  pub whole : order ≡ front ++ t ∷ (between ++ s ∷ behind)
