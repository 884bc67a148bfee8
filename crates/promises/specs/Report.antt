-- What a lock report says, in plain terms: by the slots that hold the page, and by the kinds of lock that they hold it with. "A lock report for a page gives the lock
-- kind, how many slots hold the page, and the lowest-numbered holder; with no holder: none, 0, and 16."
use Rattle.std.specs.Prelude.{ℕ, ◌<◌, List, ◌⊎◌, ◌≡◌, length}
use Rattle.ground.specs.Limits.{slot_count}
use Rattle.slots.specs.declared.State.{State}
use Rattle.slots.specs.declared.Lock.{Lock}
use Rattle.slots.specs.declared.Lock.TheVariants.{None, Rho, Xi, UpdaterRho, Alpha}
use Rattle.promises.specs.Terms.{Exactly, In, Once, Holds, HoldsAs}

-- these slots, all different, are just those that hold the page
pub record Holders (st : State) (p : ℕ) (slots : List ℕ) : Type 0 where
  pub different : Once slots
  pub just : (s : ℕ) → Exactly (In s slots) ((s < slot_count) × Holds st s p)

-- no slot holds the page
abbrev pub Nobody : State → ℕ → Type 0
Nobody st p = (s : ℕ) → s < slot_count → Holds st s p → ⊥

-- slot s holds the page, and no slot below it does
pub record Lowest (st : State) (p s : ℕ) : Type 0 where
  pub inside : s < slot_count
  pub holds : Holds st s p
  pub none_below : (t : ℕ) → t < s → Holds st t p → ⊥

-- some slot holds the page with this kind of lock; none does
abbrev pub HeldAs : State → ℕ → Lock → Type 0
HeldAs st p lock = (s : ℕ) × (s < slot_count) × HoldsAs st s p lock

abbrev pub NotHeldAs : State → ℕ → Lock → Type 0
NotHeldAs st p lock = (s : ℕ) → s < slot_count → HoldsAs st s p lock → ⊥

-- "the lock kind .. with no holder: none". 02 (vi): "a lock report gives the first that is there of ξ, α, updater's ρ, ρ"
abbrev pub KindIs : State → ℕ → Lock → Type 0
KindIs st p None = Nobody st p
KindIs st p Xi = HeldAs st p Xi
KindIs st p Alpha = HeldAs st p Alpha × NotHeldAs st p Xi
KindIs st p UpdaterRho = HeldAs st p UpdaterRho × NotHeldAs st p Alpha × NotHeldAs st p Xi
KindIs st p Rho = HeldAs st p Rho × NotHeldAs st p UpdaterRho × NotHeldAs st p Alpha × NotHeldAs st p Xi

pub record Reports (st : State) (p : ℕ) (kind : Lock) (count lowest : ℕ) : Type 0 where
  -- "the lock kind"
  pub kind_is : KindIs st p kind
  -- "how many slots hold the page"
  pub count_is : (slots : List ℕ) × Holders st p slots × (length slots ≡ count)
  -- "the lowest-numbered holder; with no holder: .. 16"
  pub lowest_is : (Nobody st p × (lowest ≡ slot_count)) ⊎ Lowest st p lowest
