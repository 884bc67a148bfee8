-- The plain terms in which the demands are stated, over no word of the rules but what reads a state: its slots, what a slot holds and
-- wants, and the operation that it is open with.
use Rattle.std.specs.Prelude.{ℕ, suc, ◌≤◌, ◌<◌, List, [], ◌∷◌, reverse, ◌⊎◌, ◌≢◌, ◌≡◌, length, get_or}
use Rattle.ground.specs.Limits.{blank_key}
use Rattle.page.specs.Words.{Page, μ}
use Rattle.page.specs.Short.{neighbour}
use Rattle.slots.specs.declared.Op.{Op}
use Rattle.slots.specs.declared.Op.TheVariants.{Search, Insert, Delete, Next, Regrade}
use Rattle.slots.specs.declared.Way.TheVariants.{First, Second, Third}
use Rattle.slots.specs.declared.Lock.{Lock}
use Rattle.slots.specs.declared.Lock.TheVariants.{None, Rho, Xi, UpdaterRho, Alpha}
use Rattle.slots.specs.declared.State.{State}
use Rattle.slots.specs.Parts.{held, held_locks, under, slot_at, Stand, holding, holding_locks, Opened}
use Rattle.footing.specs.Granted.{pages_in_turn}
use Rattle.runs.specs.Waits.{Before}

-- P holds exactly if Q does
abbrev pub Exactly : Type 0 → Type 0 → Type 0
Exactly P Q = (P → Q) × (Q → P)

-- x stands in the list
abbrev pub In : ℕ → List ℕ → Type 0
In x xs = (i : ℕ) × (i < length xs) × (get_or xs i 0 ≡ x)

-- no number stands in the list twice
abbrev pub Once : List ℕ → Type 0
Once xs = (i j : ℕ) → i < j → j < length xs → get_or xs i 0 ≢ get_or xs j 0

-- slot s holds page p
abbrev pub Holds : State → ℕ → ℕ → Type 0
Holds st s p = In p (held (slot_at st s))

-- slot s is open
abbrev pub IsOpen : State → ℕ → Type 0
IsOpen st s = (op : Op) × Opened st s op

-- 02 (viii): "Begin shall refuse key 0 for every operation but that of (i)": it is such an operation
abbrev pub Blank : Op → Type 0
Blank (Search x) = x ≡ blank_key
Blank (Insert x v way) = x ≡ blank_key
Blank (Delete x way) = x ≡ blank_key
Blank (Next x) = ⊥
Blank (Regrade x v way) = x ≡ blank_key

-- ---- kinds of lock

-- 02 (vi): "ρ goes with all but ξ; updater's ρ with both ρ only; α with ρ only; ξ with nothing.": the kinds that go together on a page. What is no
-- lock goes with everything.
abbrev pub GoTogether : Lock → Lock → Type 0
GoTogether None None = Unit {0}
GoTogether None Rho = Unit {0}
GoTogether None Xi = Unit {0}
GoTogether None UpdaterRho = Unit {0}
GoTogether None Alpha = Unit {0}
GoTogether Rho None = Unit {0}
GoTogether Rho Rho = Unit {0}
GoTogether Rho Xi = ⊥
GoTogether Rho UpdaterRho = Unit {0}
GoTogether Rho Alpha = Unit {0}
GoTogether Xi None = Unit {0}
GoTogether Xi Rho = ⊥
GoTogether Xi Xi = ⊥
GoTogether Xi UpdaterRho = ⊥
GoTogether Xi Alpha = ⊥
GoTogether UpdaterRho None = Unit {0}
GoTogether UpdaterRho Rho = Unit {0}
GoTogether UpdaterRho Xi = ⊥
GoTogether UpdaterRho UpdaterRho = Unit {0}
GoTogether UpdaterRho Alpha = ⊥
GoTogether Alpha None = Unit {0}
GoTogether Alpha Rho = Unit {0}
GoTogether Alpha Xi = ⊥
GoTogether Alpha UpdaterRho = ⊥
GoTogether Alpha Alpha = ⊥

-- 02 (vi): "Each held page now carries its kind": slot s holds page p with a lock of this kind
abbrev pub HoldsAs : State → ℕ → ℕ → Lock → Type 0
HoldsAs st s p lock =
    (i : ℕ) × (i < length (held (slot_at st s))) × (get_or (held (slot_at st s)) i 0 ≡ p) × ((get_or (held_locks (slot_at st s)) i (under None)).lock ≡ lock)

-- The kind of lock with which an operation goes down: "Searches use ρ-locks, insertions and deletions ξ-locks." A Next "uses ρ-locks", a regrading "takes
-- ξ-locks". 02 (v), by the second way: "ρ-locks down"; 02 (vi): "The ρ of (v) becomes a kind of its own, updater's ρ."; by the
-- third way "updaters go down with α-locks".
abbrev pub GoesWith : Op → Lock → Type 0
GoesWith (Search x) lock = lock ≡ Rho
GoesWith (Insert x v First) lock = lock ≡ Xi
GoesWith (Insert x v Second) lock = lock ≡ UpdaterRho
GoesWith (Insert x v Third) lock = lock ≡ Alpha
GoesWith (Delete x First) lock = lock ≡ Xi
GoesWith (Delete x Second) lock = lock ≡ UpdaterRho
GoesWith (Delete x Third) lock = lock ≡ Alpha
GoesWith (Next x) lock = lock ≡ Rho
GoesWith (Regrade x v First) lock = lock ≡ Xi
GoesWith (Regrade x v Second) lock = lock ≡ UpdaterRho
GoesWith (Regrade x v Third) lock = lock ≡ Alpha

-- ---- ways

-- it is an update by the first way
abbrev pub ByFirst : Op → Type 0
ByFirst (Search x) = ⊥
ByFirst (Insert x v First) = Unit {0}
ByFirst (Insert x v Second) = ⊥
ByFirst (Insert x v Third) = ⊥
ByFirst (Delete x First) = Unit {0}
ByFirst (Delete x Second) = ⊥
ByFirst (Delete x Third) = ⊥
ByFirst (Next x) = ⊥
ByFirst (Regrade x v First) = Unit {0}
ByFirst (Regrade x v Second) = ⊥
ByFirst (Regrade x v Third) = ⊥

-- it is an update by the second way
abbrev pub BySecond : Op → Type 0
BySecond (Search x) = ⊥
BySecond (Insert x v First) = ⊥
BySecond (Insert x v Second) = Unit {0}
BySecond (Insert x v Third) = ⊥
BySecond (Delete x First) = ⊥
BySecond (Delete x Second) = Unit {0}
BySecond (Delete x Third) = ⊥
BySecond (Next x) = ⊥
BySecond (Regrade x v First) = ⊥
BySecond (Regrade x v Second) = Unit {0}
BySecond (Regrade x v Third) = ⊥

-- it is an update by the third way
abbrev pub ByThird : Op → Type 0
ByThird (Search x) = ⊥
ByThird (Insert x v First) = ⊥
ByThird (Insert x v Second) = ⊥
ByThird (Insert x v Third) = Unit {0}
ByThird (Delete x First) = ⊥
ByThird (Delete x Second) = ⊥
ByThird (Delete x Third) = Unit {0}
ByThird (Next x) = ⊥
ByThird (Regrade x v First) = ⊥
ByThird (Regrade x v Second) = ⊥
ByThird (Regrade x v Third) = Unit {0}

-- slot s is open with an update by the first way, or by the third
abbrev pub FirstAt : State → ℕ → Type 0
FirstAt st s = (op : Op) × Opened st s op × ByFirst op

abbrev pub ThirdAt : State → ℕ → Type 0
ThirdAt st s = (op : Op) × Opened st s op × ByThird op

-- ---- wants

-- 02 (vi): "A conversion wants a held page": slot s wants a page that it holds
abbrev pub Converts : State → ℕ → Type 0
Converts st s = Holds st s (slot_at st s).want

-- the same of a slot that stands here, and the kinds of the pages that it holds
abbrev pub ConvertsHere : Stand → Type 0
ConvertsHere z = In z.want (holding z)

abbrev pub HeldHere : Stand → ℕ → Lock → Type 0
HeldHere z p lock = (i : ℕ) × (i < length (holding z)) × (get_or (holding z) i 0 ≡ p) × ((get_or (holding_locks z) i (under None)).lock ≡ lock)

-- slot s wants its page with a ξ-lock
abbrev pub WantsXi : State → ℕ → Type 0
WantsXi st s = (slot_at st s).lock ≡ Xi

-- an update by the second way that has come down to level 2: what it wants next is its leaf
abbrev pub AboveItsLeaf : (ℕ → Page) → Stand → Type 0
AboveItsLeaf memory z = BySecond z.op × (1 ≤ length z.path) × ((memory (get_or (reverse z.path) 0 0)).level ≡ 2)

-- The kind of lock with which a slot that stands here wants its page: the one with which it goes down, but by the second way "a ξ-lock wanted on
-- the leaf", and ξ as a conversion.
pub record WantsAs (memory : ℕ → Page) (z : Stand) : Type 0 where
  pub turn : ConvertsHere z → z.lock ≡ Xi
  pub leaf : AboveItsLeaf memory z → z.lock ≡ Xi
  pub other : (ConvertsHere z → ⊥) → (AboveItsLeaf memory z → ⊥) → GoesWith z.op z.lock

-- 02 (vi): "path and siblings are converted to ξ from the top down, path page before sibling on each level, one conversion a step": page p has been
-- converted, if it stands before the page that is wanted now in this order.
abbrev pub Converted : Stand → ℕ → Type 0
Converted z p = ConvertsHere z × Before p z.want (pages_in_turn z)

-- ---- what a deletion needs

-- The siblings of a deletion of x are all there. Its path is given upward, from the leaf: "If the leaf would be short, and is not page 0, the slot wants
-- its sibling, then, if the two join and the father would be short too and is not page 0, the father's sibling, and so on up."
pub record Enough (k : ℕ) (memory : ℕ → Page) (x : ℕ) (upward beside : List ℕ) : Type 0 where
  -- each page with a sibling would be short, and is not page 0; its sibling is its neighbour; all but the last join with it
  pub fewer : length beside < length upward
  pub short : (j : ℕ) → j < length beside → μ (memory (get_or upward j 0)) ≤ k
  pub not_root : (j : ℕ) → j < length beside → get_or upward j 0 ≢ 0
  pub neighbours : (j : ℕ) → j < length beside → get_or beside j 0 ≡ neighbour x (memory (get_or upward (suc j) 0))
  pub joining : (j : ℕ) → suc j < length beside → μ (memory (get_or beside j 0)) ≤ k
  -- the last one has an entry to spare, or the page above those would not be short, or is page 0
  pub last : ((j : ℕ) × (suc j ≡ length beside) × (k < μ (memory (get_or beside j 0))))
      ⊎ ((get_or upward (length beside) 0 ≡ 0) ⊎ (k < μ (memory (get_or upward (length beside) 0))))

-- the siblings held beside a path, given upward, are all that is needed; only a deletion has any
abbrev pub SiblingsDone : Op → ℕ → (ℕ → Page) → List ℕ → List ℕ → Type 0
SiblingsDone (Search x) k memory upward beside = beside ≡ []
SiblingsDone (Insert x v way) k memory upward beside = beside ≡ []
SiblingsDone (Delete x way) k memory upward beside = Enough k memory x upward beside
SiblingsDone (Next x) k memory upward beside = beside ≡ []
SiblingsDone (Regrade x v way) k memory upward beside = beside ≡ []

abbrev pub NoMore : ℕ → (ℕ → Page) → Stand → ℕ → List ℕ → Type 0
NoMore k memory z leaf fathers = SiblingsDone z.op k memory (leaf ∷ fathers) z.beside
