-- What a slot and a state are made of, read off as lists, and one maker for each. "Slots, locks and steps" of document 01.
use Rattle.std.specs.Prelude.{ℕ, Bool, true, false, cond, List, [], ◌∷◌, ◌++◌, ◌≡◌, eqb, length, get_or, take, replicate}
use Rattle.ground.specs.Limits.{path_holds, slot_count}
use Rattle.ground.specs.Tests.{member, padded, filled}
use Rattle.slots.specs.declared.Lock.{Lock}
use Rattle.slots.specs.declared.Lock.TheVariants.{None, Xi}
use Rattle.slots.specs.declared.Under.{Under}
use Rattle.slots.specs.declared.Op.{Op}
use Rattle.slots.specs.declared.Task.{Task}
use Rattle.slots.specs.declared.Task.TheVariants.{Closed, Open}
use Rattle.slots.specs.declared.Slot.{Slot}
use Rattle.slots.specs.declared.State.{State}
pub use Rattle.slots.specs.Operations.{key_of, only_reads, is_delete, is_next, goes_beside, held_lock, is_second, is_third, first_way}

abbrev pub is_open : Task → Bool
is_open Closed = false
is_open (Open op) = true

-- held under this kind of lock
abbrev pub under : Lock → Under
under lock = record { lock = lock }

-- the kinds of held pages in cells; behind them there is none
abbrev pub lock_cells : List Under → List Under
lock_cells locks = filled (under None) path_holds locks

-- "An open slot holds pages and wants exactly one more." 02 (vi): "Each held page now carries its kind".
-- A slot of this operation, want, lock wanted, path and pages beside it, with their kinds of lock; cells behind a length are 0, and no lock.
abbrev pub open_slot : Op → ℕ → Lock → List ℕ → List Under → List ℕ → List Under → Slot
open_slot op want lock path locks beside sidelocks = record { task = Open op; want = want; lock = lock; path = padded path_holds path; locks = lock_cells locks; depth = length path; beside = padded path_holds beside; sidelocks = lock_cells sidelocks; breadth = length beside }

-- "a closed slot holds nothing"; its cells are 0, and no lock
abbrev pub closed_slot : Slot
closed_slot = record { task = Closed; want = 0; lock = None; path = padded path_holds []; locks = lock_cells []; depth = 0; beside = padded path_holds []; sidelocks = lock_cells []; breadth = 0 }

-- the pages of a slot's path, from the top downward, those beside it, and all that it holds. Beside the path stand a deletion's
-- siblings, from the leaf's upward, or the second way of a Next, from the top downward.
unfoldable pub path_of : Slot → List ℕ
path_of s = take s.depth s.path

unfoldable pub beside_of : Slot → List ℕ
beside_of s = take s.breadth s.beside

abbrev pub held : Slot → List ℕ
held s = path_of s ++ beside_of s

-- the kinds of lock under which it holds them, in the same order
unfoldable pub locks_of : Slot → List Under
locks_of s = take s.depth s.locks

unfoldable pub sidelocks_of : Slot → List Under
sidelocks_of s = take s.breadth s.sidelocks

abbrev pub held_locks : Slot → List Under
held_locks s = locks_of s ++ sidelocks_of s

-- Where an open slot stands: its operation, the pages of its path, those beside it, the kinds under which it holds them, the page that it
-- wants, and the kind of lock that it wants it with.
pub record Stand : Type 0 where
  pub op : Op
  pub path : List ℕ
  pub locks : List Under
  pub beside : List ℕ
  pub sidelocks : List Under
  pub want : ℕ
  pub lock : Lock

abbrev pub stand : Op → List ℕ → List Under → List ℕ → List Under → ℕ → Lock → Stand
stand op path locks beside sidelocks want lock = record { op = op; path = path; locks = locks; beside = beside; sidelocks = sidelocks; want = want; lock = lock }

-- "Beginning an operation makes the slot want page 0.": with the kind under which it holds
abbrev pub fresh_stand : Op → Stand
fresh_stand op = stand op [] [] [] [] 0 (held_lock op)

-- all pages that it holds
abbrev pub holding : Stand → List ℕ
holding z = z.path ++ z.beside

-- and their kinds of lock
abbrev pub holding_locks : Stand → List Under
holding_locks z = z.locks ++ z.sidelocks

-- A stand made from another one, here and nowhere else, so that what a stand has besides is carried along: the same slot on these pages,
-- with the wanted page beside its path, with this page as its next want under this kind of lock, and with this operation. A page that is
-- granted is held under the kind with which it was wanted.
abbrev pub on_pages : Stand → List ℕ → List Under → List ℕ → List Under → Stand
on_pages z path locks beside sidelocks = stand z.op path locks beside sidelocks z.want z.lock

abbrev pub want_beside : Stand → Stand
want_beside z = on_pages z z.path z.locks (z.beside ++ z.want ∷ []) (z.sidelocks ++ under z.lock ∷ [])

abbrev pub wants_next : Stand → ℕ → Lock → Stand
wants_next z want lock = stand z.op z.path z.locks z.beside z.sidelocks want lock

abbrev pub with_op : Op → Stand → Stand
with_op op z = stand op z.path z.locks z.beside z.sidelocks z.want z.lock

-- A conversion: the wanted page, which it holds, is held with ξ from now on.
abbrev pub xi_on : ℕ → ℕ → Under → Under
xi_on p q u = cond (eqb p q) (under Xi) u

unfoldable pub with_xi : ℕ → List ℕ → List Under → List Under
with_xi p [] locks = locks
with_xi p (q ∷ pages) [] = []
with_xi p (q ∷ pages) (u ∷ locks) = xi_on p q u ∷ with_xi p pages locks

abbrev pub want_converted : Stand → Stand
want_converted z = on_pages z z.path (with_xi z.want z.path z.locks) z.beside (with_xi z.want z.beside z.sidelocks)

-- 02 (vi): "A conversion wants a held page"
abbrev pub converting : Stand → Bool
converting z = member z.want (holding z)

-- where a slot stands that is open with this operation
abbrev pub stand_of : Op → Slot → Stand
stand_of op s = stand op (path_of s) (locks_of s) (beside_of s) (sidelocks_of s) s.want s.lock

-- the slot that stands there
abbrev pub slot_of : Stand → Slot
slot_of z = open_slot z.op z.want z.lock z.path z.locks z.beside z.sidelocks

-- slot i of a state
abbrev pub slot_at : State → ℕ → Slot
slot_at st i = get_or st.slots i closed_slot

abbrev pub open_at : State → ℕ → Bool
open_at st i = is_open (slot_at st i).task

-- slot i is open with this operation
abbrev pub Opened : State → ℕ → Op → Type 0
Opened st i op = (slot_at st i).task ≡ Open op

abbrev pub want_at : State → ℕ → ℕ
want_at st i = (slot_at st i).want

-- slot i holds page p
abbrev pub holds_at : State → ℕ → ℕ → Bool
holds_at st i p = member p (held (slot_at st i))

-- "Wants stand in a waiting order, oldest first."
unfoldable pub waiting_order : State → List ℕ
waiting_order st = take st.waiting st.order

-- a state with every slot closed
abbrev pub idle_state : ℕ → ℕ → State
idle_state k n = record { k = k; n = n; slots = replicate slot_count closed_slot; order = replicate slot_count 0; waiting = 0 }
