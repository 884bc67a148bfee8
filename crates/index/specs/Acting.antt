-- What the functions that carry a course out ask and promise. A slot's arrays stand for the rule's lists as they do for a change.
use Rattle.std.specs.Prelude.{ℕ, ◌*◌, ◌≤◌, ◌<◌, Bool, true, cond, List, ◌⊎◌, ◌≡◌, ltb, length, get_or, Option, Some, None}
use Rattle.ground.specs.Limits.{slot_count, path_holds}
use Rattle.ground.specs.Tests.{member, distinct}
use Rattle.page.specs.Words.{μ}
use Rattle.pool.specs.Pool.{page_at, free_pages, applied}
use Rattle.change.specs.Insertion.{room, insertion}
use Rattle.change.specs.Deletion.{deletion}
use Rattle.change.specs.Regrading.{regrading}
use Rattle.change.specs.Held.{Holding, leaf_of, fathers_of}
use Rattle.slots.specs.declared.Op.{Op}
use Rattle.slots.specs.declared.Lock.{Lock}
use Rattle.slots.specs.declared.Slot.{Slot}
use Rattle.slots.specs.declared.State.{State}
use Rattle.slots.specs.declared.Answer.{Answer}
use Rattle.slots.specs.declared.Answer.TheVariants.{Inserted, NoRoom, Regraded, NoSuchKey}
use Rattle.slots.specs.Parts.{path_of, beside_of, waiting_order}
use Rattle.lent.specs.Words.{as_read, state_of, laid_into}
use Rattle.footing.specs.Granted.{Verdict, broken, goes, ends}
use Rattle.footing.specs.Standing.{SlotStanding}
use Rattle.index.specs.Step.{acted}

-- the words of the state after a verdict: as given, or with the slot and the order as the next state has them
abbrev pub acted_cells : List ℕ → ℕ → Verdict → State → List ℕ
acted_cells cells s broken st = cells
acted_cells cells s (goes z) st = laid_into cells s st
acted_cells cells s (ends answer writes) st = laid_into cells s st

-- What a granted step gives back and leaves, by its verdict.
pub record Leaves (cells ws : List ℕ) (s : ℕ) (v : Verdict) (r : Answer) (cells' after : List ℕ) : Type 0 where
  pub answer : r ≡ (acted (as_read cells) ws s v).answer
  pub state : state_of cells' ≡ (acted (as_read cells) ws s v).state
  pub all : cells' ≡ acted_cells cells s v (acted (as_read cells) ws s v).state
  pub words : after ≡ (acted (as_read cells) ws s v).words

-- Slot s of the state waits for its want.
pub record Waits (st : State) (s : ℕ) : Type 0 where
  pub inside : s < slot_count
  pub few : st.waiting ≤ slot_count
  pub named : member s (waiting_order st) ≡ true

-- It was granted, and the operation stands here.
pub record Acts (st : State) (ws : List ℕ) (s : ℕ) (op : Op) (stand : Slot) : Type 0 where
  pub waits : Waits st s
  pub stands : SlotStanding op st.k st.n ws stand

-- The pages that the slot holds are in the cells of its arrays.
pub record InCells (stand : Slot) : Type 0 where
  pub deep : stand.depth ≤ path_holds
  pub few : stand.breadth ≤ path_holds
  pub path : stand.depth ≤ length stand.path

-- What the whole change of an insertion asks, whichever way it came down: the pages of its path lie in the slot's array, none stands
-- there twice, and the top one is page 0 or has space.
pub record MayInsert (k n : ℕ) (ws : List ℕ) (stand : Slot) : Type 0 where
  pub cells : InCells stand
  pub holding : Holding k n ws (path_of stand)
  pub different : distinct (path_of stand) ≡ true
  pub top : (get_or (path_of stand) 0 0 ≡ 0) ⊎ (μ (page_at k ws (get_or (path_of stand) 0 0)) < 2 * k)

-- the slot with another want, under this kind of lock
abbrev pub wanting : ℕ → Lock → Slot → Slot
wanting want lock slot = record { task = slot.task; want = want; lock = lock; path = slot.path; locks = slot.locks; depth = slot.depth; beside = slot.beside; sidelocks = slot.sidelocks; breadth = slot.breadth }

-- the leaf that an operation stands at, and the pages above it, upward
abbrev pub stand_leaf : Slot → ℕ
stand_leaf stand = leaf_of stand.depth stand.path

abbrev pub stand_fathers : Slot → List ℕ
stand_fathers stand = fathers_of stand.depth stand.path

-- too few pages are free for the insertion that stands here
abbrev pub lacks_room : ℕ → ℕ → List ℕ → Slot → Bool
lacks_room k n ws stand = ltb (length (free_pages k n ws)) (room k (page_at k ws) (stand_leaf stand) (path_of stand))

-- what it answers, and the words that it leaves
abbrev pub room_answer : ℕ → ℕ → List ℕ → Slot → Answer
room_answer k n ws stand = cond (lacks_room k n ws stand) NoRoom Inserted

abbrev pub after_insertion : ℕ → ℕ → List ℕ → ℕ → ℕ → Slot → List ℕ
after_insertion k n ws x v stand =
    cond (lacks_room k n ws stand)
    ws
    (applied k (insertion k (page_at k ws) x v (free_pages k n ws) (stand_leaf stand) (stand_fathers stand)) ws)

-- the words that a deletion leaves
abbrev pub after_deletion : ℕ → List ℕ → ℕ → Slot → List ℕ
after_deletion k ws x stand = applied k (deletion k (page_at k ws) x (stand_leaf stand) (stand_fathers stand) (beside_of stand)) ws

-- what a regrading answers, by what stood under its key, and the words that it leaves
abbrev pub regrade_answer : Option ℕ → Answer
regrade_answer (Some old) = Regraded old
regrade_answer None = NoSuchKey

abbrev pub after_regrading : ℕ → List ℕ → ℕ → ℕ → Slot → List ℕ
after_regrading k ws x v stand = applied k (regrading (page_at k ws) x v (stand_leaf stand)) ws
