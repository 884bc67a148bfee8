-- The state as words: k, N, how many wait, the waiting order, and for each number of a slot one row of words, a word a slot.
-- How the rules' state is read from the words, how it is written, and what a call leaves.
use Rattle.std.specs.Prelude.{ℕ, zero, suc, ◌+◌, ◌*◌, ◌/◌, ◌%◌, Bool, cond, List, [], ◌∷◌, ◌++◌, Option, Some, None, leb, get_or, take, drop, set}
use Rattle.ground.specs.Limits.{slot_count}
use Rattle.ground.specs.Tests.{all_below}
use Rattle.slots.specs.declared.Op.{Op}
use Rattle.slots.specs.declared.Task.{Task}
use Rattle.slots.specs.declared.Task.TheVariants.{Closed, Open}
use Rattle.slots.specs.declared.Lock.TheVariants.{None as NoLock}
use Rattle.slots.specs.declared.Under.{Under}
use Rattle.slots.specs.declared.Slot.{Slot}
use Rattle.slots.specs.declared.State.{State}
use Rattle.slots.specs.declared.Answer.{Answer}
use Rattle.slots.specs.Heard.{lock_number, lock_named, changes_nothing}
use Rattle.slots.specs.Operations.{kind_number, key_of, information_of, asked_by}
pub use Rattle.slots.specs.Operations.{highest_kind}
use Rattle.slots.specs.Parts.{under, slot_at, idle_state}
use Rattle.lent.specs.Layout.{page_range, k_at, n_at, waiting_at, order_from, rows_from, row_length, column_length, kind_row, key_row, information_row, want_row, lock_row, depth_row, breadth_row, path_row, beside_row, row_words}

-- the list of what f gives for 0 to n - 1
unfoldable pub list_of : {A : Type 0} → ℕ → (ℕ → A) → List A
list_of zero f = []
list_of (suc n) f = list_of n f ++ f n ∷ []

-- where row r of slot s lies
abbrev pub address : ℕ → ℕ → ℕ
address r s = rows_from + row_length * r + s

-- the word in row r of slot s
abbrev pub cell : List ℕ → ℕ → ℕ → ℕ
cell ws r s = get_or ws (address r s) 0

-- the page of a held page's word, and the number of the kind of its lock
abbrev pub page_in : ℕ → ℕ
page_in w = w % page_range

abbrev pub number_in : ℕ → ℕ
number_in w = w / page_range

-- a column of slot s: the pages of its words in the rows from r on
unfoldable pub column : List ℕ → ℕ → ℕ → List ℕ
column ws r s = list_of column_length (λ (j : ℕ). page_in (cell ws (r + j) s))

-- and the kinds under which they are held. A number that is no kind stands for no lock, which no open slot may have.
unfoldable pub lock_column : List ℕ → ℕ → ℕ → List Under
lock_column ws r s = list_of column_length (λ (j : ℕ). under (lock_named (number_in (cell ws (r + j) s))))

-- the task that three numbers ask for; a kind that does not exist stands for none
abbrev pub task_of : Option Op → Task
task_of (Some op) = Open op
task_of None = Closed

-- "closed, or open with an operation enum carrying key and information"
abbrev pub task_from : ℕ → ℕ → ℕ → Task
task_from kind key information = task_of (asked_by kind key information)

-- slot s of these words
abbrev pub slot_in : List ℕ → ℕ → Slot
slot_in ws s = record {
  task = task_from (cell ws kind_row s) (cell ws key_row s) (cell ws information_row s);
  want = cell ws want_row s;
  lock = lock_named (cell ws lock_row s);
  path = column ws path_row s;
  locks = lock_column ws path_row s;
  depth = cell ws depth_row s;
  beside = column ws beside_row s;
  sidelocks = lock_column ws beside_row s;
  breadth = cell ws breadth_row s;
}

-- the waiting order
unfoldable pub order_in : List ℕ → List ℕ
order_in ws = take row_length (drop order_from ws)

-- the state as the words read
abbrev pub as_read : List ℕ → State
as_read ws = record { k = get_or ws k_at 0; n = get_or ws n_at 0; slots = list_of row_length (slot_in ws); order = order_in ws; waiting = get_or ws waiting_at 0 }

-- every kind exists
unfoldable pub known : List ℕ → Bool
known ws = all_below slot_count (λ (s : ℕ). leb (cell ws kind_row s) highest_kind)

-- The state of these words. A kind that does not exist makes them no state: they count as the empty one, "which is itself
-- BadState".
unfoldable pub state_of : List ℕ → State
state_of ws = cond (known ws) (as_read ws) (idle_state 0 0)

-- ---- writing

-- a task's kind, key and information; where it has none, 0
abbrev pub kind_of : Task → ℕ
kind_of Closed = 0
kind_of (Open op) = kind_number op

abbrev pub key_in : Task → ℕ
key_in Closed = 0
key_in (Open op) = key_of op

abbrev pub information_in : Task → ℕ
information_in Closed = 0
information_in (Open op) = information_of op

-- a held page with the kind of its lock, in one word
abbrev pub hold_word : ℕ → Under → ℕ
hold_word p u = p + page_range * lock_number u.lock

-- a column of them
unfoldable pub hold_words : List ℕ → List Under → List ℕ
hold_words pages locks = list_of column_length (λ (j : ℕ). hold_word (get_or pages j 0) (get_or locks j (under NoLock)))

-- the numbers of a slot, row by row
abbrev pub rows_of : Slot → List ℕ
rows_of slot =
    kind_of slot.task
    ∷ key_in slot.task
    ∷ information_in slot.task
    ∷ slot.want
    ∷ lock_number slot.lock
    ∷ slot.depth
    ∷ slot.breadth
    ∷ hold_words slot.path slot.locks
    ++ hold_words slot.beside slot.sidelocks

-- these numbers down the column of slot s, from row r on
unfoldable pub spread : List ℕ → ℕ → ℕ → List ℕ → List ℕ
spread ws r s [] = ws
spread ws r s (x ∷ xs) = spread (set ws (address r s) x) (suc r) s xs

-- a slot laid down in its column
unfoldable pub slot_laid : List ℕ → ℕ → Slot → List ℕ
slot_laid ws s slot = spread ws kind_row s (rows_of slot)

-- the number of those that wait, and the order
unfoldable pub order_laid : List ℕ → ℕ → List ℕ → List ℕ
order_laid ws waiting order = take waiting_at ws ++ waiting ∷ order ++ drop rows_from ws

-- the words with slot s and the waiting order as a state has them; all others stay
unfoldable pub laid_into : List ℕ → ℕ → State → List ℕ
laid_into ws s st = slot_laid (order_laid ws st.waiting st.order) s (slot_at st s)

-- What a call on slot s leaves: after a refusal and after Waiting every word as given, otherwise that slot and the order.
unfoldable pub lent_after : List ℕ → ℕ → Answer → State → List ℕ
lent_after ws s answer st = cond (changes_nothing answer) ws (laid_into ws s st)

-- all words of a state
unfoldable pub state_words : State → List ℕ
state_words st = st.k ∷ st.n ∷ st.waiting ∷ st.order ++ list_of row_words (λ (i : ℕ). get_or (rows_of (slot_at st (i % row_length))) (i / row_length) 0)
