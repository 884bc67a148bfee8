-- The state after a slot began, went on or closed. "Slots, locks and steps" of document 01.
-- Only that slot and the waiting order change. Cells of the order behind the waiting slots stay as given, but the one
-- that a closing leaves empty, which is 0.
use Rattle.std.specs.Prelude.{ℕ, ◌+◌, ◌-◌, cond, List, [], ◌∷◌, ◌++◌, eqb, drop, set}
use Rattle.slots.specs.declared.Op.{Op}
use Rattle.slots.specs.declared.Slot.{Slot}
use Rattle.slots.specs.declared.State.{State}
use Rattle.slots.specs.Parts.{Stand, fresh_stand, slot_of, closed_slot, waiting_order}

-- the state with slot s and the waiting order written anew
abbrev pub rewritten : State → ℕ → Slot → List ℕ → ℕ → State
rewritten st s slot order waiting = record { k = st.k; n = st.n; slots = set st.slots s slot; order = order; waiting = waiting }

-- the order without slot s
unfoldable pub leaving : ℕ → List ℕ → List ℕ
leaving s [] = []
leaving s (t ∷ ts) = cond (eqb t s) ts (t ∷ leaving s ts)

-- "Beginning an operation makes the slot want page 0."
unfoldable pub begins : State → ℕ → Op → State
begins st s op = rewritten st s (slot_of (fresh_stand op)) (set st.order st.waiting s) (st.waiting + 1)

-- "A new want goes to the end of the waiting order."
abbrev pub requeued : State → ℕ → Slot → State
requeued st s slot =
    rewritten st s slot (leaving s (waiting_order st) ++ s ∷ drop st.waiting st.order) st.waiting

unfoldable pub goes_on : State → ℕ → Stand → State
goes_on st s z = requeued st s (slot_of z)

-- "An answer that ends the operation gives up every lock and closes the slot."
unfoldable pub closes : State → ℕ → State
closes st s =
    rewritten st s closed_slot (leaving s (waiting_order st) ++ 0 ∷ drop st.waiting st.order) (st.waiting - 1)
