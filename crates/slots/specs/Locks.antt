-- Kinds of lock: under which a slot holds a page, which it wants, and which clash. "Slots, locks and steps" of document 01.
use Rattle.std.specs.Prelude.{ℕ, Bool, true, false, cond, not, ◌&&◌, ◌||◌, List, [], ◌∷◌, eqb, get_or}
use Rattle.ground.specs.Limits.{slot_count}
use Rattle.ground.specs.Tests.{all_below}
use Rattle.slots.specs.declared.Op.{Op}
use Rattle.slots.specs.declared.Lock.{Lock}
use Rattle.slots.specs.declared.Lock.TheVariants.{None, Rho, Xi, UpdaterRho, Alpha}
use Rattle.slots.specs.declared.Slot.{Slot}
use Rattle.slots.specs.declared.Under.{Under}
use Rattle.slots.specs.declared.State.{State}
use Rattle.slots.specs.Operations.{held_lock, is_second, is_third}
use Rattle.slots.specs.Heard.{lock_number}
use Rattle.slots.specs.Parts.{held, held_locks, Stand, holding, holding_locks, slot_at, holds_at}

-- the kind in the cell of page p; none, if it is not among them
unfoldable pub lock_among : ℕ → List ℕ → List Under → Lock
lock_among p [] locks = None
lock_among p (q ∷ pages) [] = None
lock_among p (q ∷ pages) (u ∷ locks) = cond (eqb p q) u.lock (lock_among p pages locks)

-- 02 (vi): "Each held page now carries its kind": the kind under which a slot holds page p, and the kind that it wants. Whatever asks for a
-- lock asks one of these two.
abbrev pub lock_held : Slot → ℕ → Lock
lock_held s p = lock_among p (held s) (held_locks s)

abbrev pub lock_wanted : Slot → Lock
lock_wanted s = s.lock

abbrev pub same_lock : Lock → Lock → Bool
same_lock a b = eqb (lock_number a) (lock_number b)

-- the kinds that an operation can hold a page under at all: the one with which it goes down, and by the third way ξ, where it was converted
abbrev pub can_hold : Op → Lock → Bool
can_hold op lock = same_lock lock (held_lock op) || (is_third op && same_lock lock Xi)

-- the kinds that an operation can want at all: the one with which it goes down; by the second way "a ξ-lock wanted on the leaf"; by the third ξ, as
-- a conversion
abbrev pub can_want : Op → Lock → Bool
can_want op lock = same_lock lock (held_lock op) || ((is_second op || is_third op) && same_lock lock Xi)

-- the kind under which a slot that stands here holds page p
abbrev pub lock_in : Stand → ℕ → Lock
lock_in z p = lock_among p (holding z) (holding_locks z)

-- the same of slot t of a state
abbrev pub lock_held_at : State → ℕ → ℕ → Lock
lock_held_at st t p = lock_held (slot_at st t) p

abbrev pub lock_wanted_at : State → ℕ → Lock
lock_wanted_at st t = lock_wanted (slot_at st t)

-- where a kind stands in the table: none stands behind its end
abbrev pub lock_place : Lock → ℕ
lock_place None = 4
lock_place Rho = 0
lock_place Xi = 1
lock_place UpdaterRho = 2
lock_place Alpha = 3

-- 02 (vi): "ρ goes with all but ξ; updater's ρ with both ρ only; α with ρ only; ξ with nothing. Each pair of lock kinds is looked up in one
-- table of four rows." A row for the kind held (or wanted earlier), in it a place for the kind wanted: whether they clash. Rows and places in
-- the order ρ, ξ, updater's ρ, α.
abbrev pub lock_table : List (List Bool)
lock_table =
    (false ∷ true ∷ false ∷ false ∷ [])
    ∷ (true ∷ true ∷ true ∷ true ∷ [])
    ∷ (false ∷ true ∷ false ∷ true ∷ [])
    ∷ (false ∷ true ∷ true ∷ true ∷ [])
    ∷ []

-- what a row says of a kind
abbrev pub in_row : List Bool → Lock → Bool
in_row row lock = get_or row (lock_place lock) false

-- held locks, older wants and the sound state all ask it
abbrev pub clash : Lock → Lock → Bool
clash held wanted = in_row (get_or lock_table (lock_place held) []) wanted

-- no other slot than s holds page p under a kind that clashes with this one
abbrev pub no_clash_on : State → ℕ → ℕ → Lock → Bool
no_clash_on st s p lock = all_below slot_count (λ (t : ℕ). eqb t s || not (holds_at st t p && clash (lock_held_at st t p) lock))
