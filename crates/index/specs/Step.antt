-- A step, for every argument. "Slots, locks and steps" and "What the caller hears" of document 01.
use Rattle.std.specs.Prelude.{ℕ, Bool, cond, not, List, ◌∷◌, ltb, eqb, length}
use Rattle.ground.specs.Limits.{slot_count}
use Rattle.pool.specs.Pool.{pool_length, applied}
use Rattle.slots.specs.declared.Task.{Task}
use Rattle.slots.specs.declared.Task.TheVariants.{Closed, Open}
use Rattle.slots.specs.declared.Slot.{Slot}
use Rattle.slots.specs.declared.State.{State}
use Rattle.slots.specs.declared.Answer.{Answer}
use Rattle.slots.specs.declared.Answer.TheVariants.{Waiting, Moved, BadState, BadPool, BadSlot, SlotIdle, Damaged}
use Rattle.slots.specs.Heard.{is_one_of, ending}
use Rattle.slots.specs.Parts.{slot_at, stand_of}
use Rattle.slots.specs.Sound.{sound}
use Rattle.slots.specs.Grant.{grants}
use Rattle.slots.specs.Book.{goes_on, closes}
use Rattle.footing.specs.Granted.{Verdict, broken, goes, ends}
use Rattle.footing.specs.Fitting.{verdict}

-- What a call leaves: the answer with the next state, and the words.
pub record Left : Type 0 where
  pub answer : Answer
  pub state : State
  pub words : List ℕ

abbrev pub left : Answer → State → List ℕ → Left
left a st ws = record { answer = a; state = st; words = ws }

-- "Step answers: Waiting, Moved, Found (information), NotFound, Inserted, AlreadyThere, Deleted (information), NoSuchKey,
-- NoRoom." All but Waiting are answers of a granted step: Moved, and those that end an operation, Next and None of 02 (i) and Regraded
-- of 02 (iv) among them.
abbrev pub of_granted : Answer → Bool
of_granted a = is_one_of a (Moved ∷ ending)

-- Moved, with the new holdings and want; an ending answer, with the pages written; or Damaged: "as given, the slot stays
-- open, the lock is not taken".
abbrev pub acted : State → List ℕ → ℕ → Verdict → Left
acted st ws s broken = left Damaged st ws
acted st ws s (goes z) = left Moved (goes_on st s z) ws
acted st ws s (ends answer writes) = left answer (closes st s) (applied st.k writes ws)

-- Slot s, by its task. "Otherwise it is answered Waiting and nothing changes."
abbrev pub stepped_task : State → List ℕ → ℕ → Slot → Task → Left
stepped_task st ws s slot Closed = left SlotIdle st ws
stepped_task st ws s slot (Open op) =
    cond (grants st s) (acted st ws s (verdict st.k st.n ws (stand_of op slot))) (left Waiting st ws)

-- "Order. .. Step: 1, 2, 3, 5, Waiting, 6."
unfoldable pub stepped : State → List ℕ → ℕ → Left
stepped st ws s =
    cond (not (sound st))
    (left BadState st ws)
    (cond (not (eqb (length ws) (pool_length st.k st.n)))
    (left BadPool st ws)
    (cond (not (ltb s slot_count)) (left BadSlot st ws) (stepped_task st ws s (slot_at st s) (slot_at st s).task)))
