-- Laws of the state in words: a slot laid down reads back, the order too, and what a call writes is the rule's next state.
use Prim.Native.Nat.{ℕ, suc, ◌+◌, ◌*◌, ◌-◌, ◌≤◌, ◌<◌}
use mathlib.Core.Bool.{true}
use mathlib.Core.Path.{◌≡◌, refl, sym, ap, ap₂, ◌∙◌, subst}
use mathlib.Core.List.{List, [], ◌∷◌, ◌++◌, append-nil}
use mathlib.Core.Logic.{◌≢◌, ⊎_elim}
use native.Mathlib.Omega.{arith}
use native.Mathlib.Nat.{not-suc-le-zero, le_of_suc-le-suc}
use lib.Dec.{leb, ltb}
use lib.ListN.{length, get_or, take, drop, set, length-append, length-drop, replicate, get_or-append, get_or-eq_default}
use lib.Seq.{ext_get_or, take_all, get_or-take, get_or-drop, get_or-append-add, take_at, length-take-le, get_or-set_same}
use borrow.Author.Tests.{le-leb, ltb-true, ltb-false}
use Rattle.ground.specs.Limits.{slot_count, path_holds}
use Rattle.ground.specs.Tests.{member, filled}
use Rattle.ground.proofs.Choice.{by_test, cond-true}
use Rattle.ground.proofs.Padded.{length_filled, padded_at}
use Rattle.ground.proofs.Tests.{member_from, all_below_at, all_below_from}
use Rattle.slots.specs.declared.Op.{Op}
use Rattle.slots.specs.declared.Task.{Task}
use Rattle.slots.specs.declared.Task.TheVariants.{Closed, Open}
use Rattle.slots.specs.declared.Lock.TheVariants.{None}
use Rattle.slots.specs.declared.Under.{Under}
use Rattle.slots.specs.declared.Slot.{Slot}
use Rattle.slots.specs.Heard.{lock_number, lock_named}
use Rattle.slots.specs.Parts.{under, Stand, fresh_stand, slot_of, closed_slot, slot_at}
use Rattle.slots.specs.Book.{rewritten}
use Rattle.slots.proofs.Unique.{lock_back}
use Rattle.slots.proofs.OperationLaws.{asked_back, kind_within}
use Rattle.slots.proofs.OrderLaws.{same_or_not}
use Rattle.lent.specs.Layout.{page_range, k_at, n_at, waiting_at, order_from, rows_from, row_length, column_length, kind_row, key_row, information_row, want_row, lock_row, depth_row, breadth_row, path_row, beside_row, row_count, state_length}
use Rattle.lent.specs.Words.{list_of, address, cell, page_in, number_in, column, lock_column, highest_kind, task_of, task_from, slot_in, order_in, as_read, known, state_of, kind_of, key_in, information_in, hold_word, hold_words, rows_of, spread, slot_laid, order_laid, laid_into}
use Rattle.lent.specs.Holds.{InHalves}
use Rattle.lent.proofs.ListLaws.{length_list_of, get_d_list_of, list_of_same, list_of_get_d, list_of_set}
use Rattle.lent.proofs.SpreadLaws.{length_spread, spread_beside, spread_front, spread_at}

-- The two numbers from which the layout is made are the limits'.
pub layout : (row_length ≡ slot_count) × (column_length ≡ path_holds)
unfolding slot_count path_holds
layout = (refl, refl)

-- words with three in front
pub by_front : (P : List ℕ → Type 0) → ((a b x : ℕ) (rest : List ℕ) → P (a ∷ b ∷ x ∷ rest)) → (ws : List ℕ) → 3 ≤ length ws → P ws
by_front P f [] h = absurd (not-suc-le-zero h)
by_front P f (a ∷ []) h = absurd (not-suc-le-zero (le_of_suc-le-suc h))
by_front P f (a ∷ b ∷ []) h = absurd (not-suc-le-zero (le_of_suc-le-suc (le_of_suc-le-suc h)))
by_front P f (a ∷ b ∷ x ∷ rest) h = f a b x rest

-- slot s of a state in words
pub slot_read : (ws : List ℕ) (s : ℕ) → s < row_length → slot_at (as_read ws) s ≡ slot_in ws s
slot_read ws s h = get_d_list_of row_length (slot_in ws) s closed_slot h

-- words whose kinds exist are read as they are
pub state_known : (ws : List ℕ) → known ws ≡ true → state_of ws ≡ as_read ws
unfolding state_of
state_known ws e = cond-true _ _ e

-- ---- a column

pub length_column : (ws : List ℕ) (r s : ℕ) → length (column ws r s) ≡ column_length
unfolding column
length_column ws r s = length_list_of column_length (λ (j : ℕ). page_in (cell ws (r + j) s))

pub column_cell : (ws : List ℕ) (r s j : ℕ) → j < column_length → get_or (column ws r s) j 0 ≡ page_in (cell ws (r + j) s)
unfolding column
column_cell ws r s j h = get_d_list_of column_length (λ (i : ℕ). page_in (cell ws (r + i) s)) j 0 h

-- and of the kinds of lock
pub length_locks : (ws : List ℕ) (r s : ℕ) → length (lock_column ws r s) ≡ column_length
unfolding lock_column
length_locks ws r s = length_list_of column_length (λ (j : ℕ). under (lock_named (number_in (cell ws (r + j) s))))

pub lock_cell : (ws : List ℕ) (r s j : ℕ) → j < column_length → get_or (lock_column ws r s) j (under None) ≡ under (lock_named (number_in (cell ws (r + j) s)))
unfolding lock_column
lock_cell ws r s j h = get_d_list_of column_length (λ (i : ℕ). under (lock_named (number_in (cell ws (r + i) s)))) j (under None) h

-- the words of held pages
pub length_hold : (pages : List ℕ) (locks : List Under) → length (hold_words pages locks) ≡ column_length
unfolding hold_words
length_hold pages locks = length_list_of column_length (λ (j : ℕ). hold_word (get_or pages j 0) (get_or locks j (under None)))

pub hold_cell : (pages : List ℕ) (locks : List Under) (j : ℕ) → j < column_length → get_or (hold_words pages locks) j 0 ≡ hold_word (get_or pages j 0) (get_or locks j (under None))
unfolding hold_words
hold_cell pages locks j h = get_d_list_of column_length (λ (i : ℕ). hold_word (get_or pages i 0) (get_or locks i (under None))) j 0 h

-- page and kind are read off such a word
word_page : (p : ℕ) (u : Under) → p < page_range → page_in (hold_word p u) ≡ p
word_page p u h = omega arith

word_number : (p : ℕ) (u : Under) → p < page_range → number_in (hold_word p u) ≡ lock_number u.lock
word_number p u h = omega arith

-- where the words of held pages stand, these pages and kinds are read
module _ (ws : List ℕ) (r s : ℕ) (pages : List ℕ) (locks : List Under) (halves : (i : ℕ) → get_or pages i 0 < page_range)
    (rows : (j : ℕ) → j < column_length → cell ws (r + j) s ≡ get_or (hold_words pages locks) j 0) where
  word_at : (j : ℕ) → j < column_length → cell ws (r + j) s ≡ hold_word (get_or pages j 0) (get_or locks j (under None))
  word_at j h = rows j h ∙ hold_cell pages locks j h

  pages_read : length pages ≡ column_length → column ws r s ≡ pages
  unfolding column
  pages_read long =
      list_of_same column_length (λ (j : ℕ). page_in (cell ws (r + j) s)) (λ (j : ℕ). get_or pages j 0)
      (λ j h. ap page_in (word_at j h) ∙ word_page (get_or pages j 0) (get_or locks j (under None)) (halves j))
      ∙ list_of_get_d pages 0 column_length long

  locks_read : length locks ≡ column_length → lock_column ws r s ≡ locks
  unfolding lock_column
  locks_read long =
      list_of_same column_length (λ (j : ℕ). under (lock_named (number_in (cell ws (r + j) s)))) (λ (j : ℕ). get_or locks j (under None))
      (λ j h.
      ap (λ (w : ℕ). under (lock_named (number_in w))) (word_at j h)
      ∙ ap (λ (i : ℕ). under (lock_named i)) (word_number (get_or pages j 0) (get_or locks j (under None)) (halves j))
      ∙ ap under (lock_back (get_or locks j (under None)).lock))
      ∙ list_of_get_d locks (under None) column_length long

-- an array that is full
pub filled_whole : {A : Type 0} (none : A) (l : List A) (n : ℕ) → length l ≡ column_length → column_length ≤ n → filled none column_length (take n l) ≡ l
unfolding filled
filled_whole none l n e h =
    ap (filled none column_length) (take_all n l (omega arith))
    ∙ ap (λ (m : ℕ). l ++ replicate (column_length - m) none) e
    ∙ append-nil l

-- ---- slots that can be laid down

-- A slot as the program has it: its arrays have their lengths, and its pages fit their half of a word. So it reads back as it was laid.
pub record Layable (slot : Slot) : Type 0 where
  pub path : length slot.path ≡ column_length
  pub locks : length slot.locks ≡ column_length
  pub beside : length slot.beside ≡ column_length
  pub sidelocks : length slot.sidelocks ≡ column_length
  pub halves : InHalves slot

-- pages below a word's half
pub below_halves : (pages : List ℕ) → ((p : ℕ) → member p pages ≡ true → p < page_range) → (i : ℕ) → get_or pages i 0 < page_range
below_halves pages below i =
    by_test (ltb i (length pages))
    (λ e. below (get_or pages i 0) (member_from (get_or pages i 0) pages i 0 (ltb-true i (length pages) e) refl))
    (λ e. subst (λ (p : ℕ). p < page_range) (sym (get_or-eq_default pages 0 (ltb-false i (length pages) e))) (omega arith))

-- a slot as it was read
pub read_halves : (ws : List ℕ) (s : ℕ) → InHalves (slot_in ws s)
read_halves ws s = record {
  path = column_halves path_row;
  beside = column_halves beside_row;
}
  where
    column_halves : (r i : ℕ) → get_or (column ws r s) i 0 < page_range
    column_halves r i =
        by_test (ltb i column_length)
        (λ e. subst (λ (p : ℕ). p < page_range) (sym (column_cell ws r s i (ltb-true i column_length e))) (omega arith))
        (λ e.
        let over = ltb-false i column_length e in
        subst (λ (p : ℕ). p < page_range) (sym (get_or-eq_default (column ws r s) 0 (omega (arith, length_column ws r s)))) (omega arith))

-- one that stands somewhere
pub stand_halves : (z : Stand) → ((i : ℕ) → get_or z.path i 0 < page_range) → ((i : ℕ) → get_or z.beside i 0 < page_range) → InHalves (slot_of z)
stand_halves z path beside = record {
  path = λ i. subst (λ (p : ℕ). p < page_range) (sym (padded_at path_holds z.path i)) (path i);
  beside = λ i. subst (λ (p : ℕ). p < page_range) (sym (padded_at path_holds z.beside i)) (beside i);
}

pub stand_layable : (z : Stand) → length z.path ≤ column_length → length z.locks ≤ column_length → length z.beside ≤ column_length → length z.sidelocks ≤ column_length
    → InHalves (slot_of z) → Layable (slot_of z)
unfolding path_holds
stand_layable z path locks beside sidelocks halves = record {
  path = length_filled 0 column_length z.path path;
  locks = length_filled (under None) column_length z.locks locks;
  beside = length_filled 0 column_length z.beside beside;
  sidelocks = length_filled (under None) column_length z.sidelocks sidelocks;
  halves = halves;
}

-- one that begins: it holds nothing
pub fresh_halves : (op : Op) → InHalves (slot_of (fresh_stand op))
fresh_halves op = stand_halves (fresh_stand op) none none
  where
    none : (i : ℕ) → get_or [] i 0 < page_range
    none i = omega arith

pub fresh_layable : (op : Op) → Layable (slot_of (fresh_stand op))
fresh_layable op = stand_layable (fresh_stand op) (omega arith) (omega arith) (omega arith) (omega arith) (fresh_halves op)

-- a closed one
pub closed_halves : InHalves closed_slot
closed_halves = record { path = none; beside = none }
  where
    none : (i : ℕ) → get_or closed_slot.path i 0 < page_range
    none i = subst (λ (p : ℕ). p < page_range) (sym (padded_at path_holds [] i)) (omega arith)

pub closed_layable : Layable closed_slot
unfolding filled path_holds
closed_layable = record { path = refl; locks = refl; beside = refl; sidelocks = refl; halves = closed_halves }

-- ---- a slot laid down

task_back : (t : Task) → task_from (kind_of t) (key_in t) (information_in t) ≡ t
task_back Closed = refl
task_back (Open op) = ap task_of (asked_back op)

kind_exists : (t : Task) → kind_of t ≤ highest_kind
kind_exists Closed = omega arith
kind_exists (Open op) = kind_within op

-- A slot whose numbers stand in these rows.
module _ (ws : List ℕ) (s : ℕ) (slot : Slot) (rows : (r : ℕ) → r < row_count → cell ws r s ≡ get_or (rows_of slot) r 0) where
  on_path : List ℕ
  on_path = hold_words slot.path slot.locks

  aside : List ℕ
  aside = hold_words slot.beside slot.sidelocks

  -- behind the seven numbers stand the pages, with their kinds of lock
  seven_behind : (j : ℕ) → get_or (rows_of slot) (path_row + j) 0 ≡ get_or (on_path ++ aside) j 0
  unfolding on_path aside
  seven_behind j =
      get_or-append-add (kind_of slot.task ∷ key_in slot.task ∷ information_in slot.task ∷ slot.want ∷ lock_number slot.lock ∷ slot.depth ∷ slot.breadth ∷ [])
      (hold_words slot.path slot.locks ++ hold_words slot.beside slot.sidelocks) j 0

  path_rows : (j : ℕ) → j < column_length → cell ws (path_row + j) s ≡ get_or on_path j 0
  unfolding on_path
  path_rows j h =
      rows (path_row + j) (omega arith) ∙ seven_behind j ∙ get_or-append on_path aside 0 j (omega (arith, length_hold slot.path slot.locks))

  beside_rows : (j : ℕ) → j < column_length → cell ws (beside_row + j) s ≡ get_or aside j 0
  unfolding on_path
  beside_rows j h =
      let same : beside_row + j ≡ path_row + (column_length + j) = omega arith in
      rows (beside_row + j) (omega arith)
      ∙ ap (λ (r : ℕ). get_or (rows_of slot) r 0) same
      ∙ seven_behind (column_length + j)
      ∙ subst (λ (n : ℕ). get_or (on_path ++ aside) (n + j) 0 ≡ get_or aside j 0) (length_hold slot.path slot.locks)
      (get_or-append-add on_path aside j 0)

  -- it reads as the slot
  pub rows_read : Layable slot → slot_in ws s ≡ slot
  unfolding on_path aside
  rows_read fits =
      let task : task_from (cell ws kind_row s) (cell ws key_row s) (cell ws information_row s) ≡ slot.task =
      ap (λ (a : ℕ). task_from a (cell ws key_row s) (cell ws information_row s)) (rows kind_row (omega arith))
      ∙ ap₂ (task_from (kind_of slot.task)) (rows key_row (omega arith)) (rows information_row (omega arith))
      ∙ task_back slot.task in
      λ i. record {
        task = task i;
        want = rows want_row (omega arith) i;
        lock = (ap lock_named (rows lock_row (omega arith)) ∙ lock_back slot.lock) i;
        path = pages_read ws path_row s slot.path slot.locks fits.halves.path path_rows fits.path i;
        locks = locks_read ws path_row s slot.path slot.locks fits.halves.path path_rows fits.locks i;
        depth = rows depth_row (omega arith) i;
        beside = pages_read ws beside_row s slot.beside slot.sidelocks fits.halves.beside beside_rows fits.beside i;
        sidelocks = locks_read ws beside_row s slot.beside slot.sidelocks fits.halves.beside beside_rows fits.sidelocks i;
        breadth = rows breadth_row (omega arith) i;
      }

  -- and its kind exists
  pub rows_kind : cell ws kind_row s ≤ highest_kind
  rows_kind = subst (λ (a : ℕ). a ≤ highest_kind) (sym (rows kind_row (omega arith))) (kind_exists slot.task)

module _ (ws : List ℕ) (s : ℕ) (slot : Slot) (long : length ws ≡ state_length) (inside : s < row_length) where
  rows_long : length (rows_of slot) ≡ row_count
  rows_long =
      ap (λ (n : ℕ). suc (suc (suc (suc (suc (suc (suc n)))))))
      (length-append (hold_words slot.path slot.locks) (hold_words slot.beside slot.sidelocks)
      ∙ omega (arith, length_hold slot.path slot.locks, length_hold slot.beside slot.sidelocks))

  row_laid : (r : ℕ) → r < row_count → cell (slot_laid ws s slot) r s ≡ get_or (rows_of slot) r 0
  unfolding slot_laid
  row_laid r h =
      let same : 0 + r ≡ r = omega arith in
      ap (λ (q : ℕ). cell (spread ws kind_row s (rows_of slot)) q s) (sym same)
      ∙ spread_at ws 0 s (rows_of slot) r inside (omega (arith, rows_long)) (omega (arith, rows_long))

  -- it reads back
  slot_laid_lem : Layable slot → slot_in (slot_laid ws s slot) s ≡ slot
  slot_laid_lem fits = rows_read (slot_laid ws s slot) s slot row_laid fits

  -- its kind exists
  laid_kind : cell (slot_laid ws s slot) kind_row s ≤ highest_kind
  laid_kind = rows_kind (slot_laid ws s slot) s slot row_laid

  -- the cells of the others stay
  laid_beside : (q t : ℕ) → t < row_length → t ≢ s → cell (slot_laid ws s slot) q t ≡ cell ws q t
  unfolding slot_laid
  laid_beside q t h n = spread_beside ws 0 s (rows_of slot) q t inside h n

  -- and the words in front
  laid_front : (i : ℕ) → i < rows_from → get_or (slot_laid ws s slot) i 0 ≡ get_or ws i 0
  unfolding slot_laid
  laid_front i h = spread_front ws 0 s (rows_of slot) i h

pub length_laid : (ws : List ℕ) (s : ℕ) (slot : Slot) → length (slot_laid ws s slot) ≡ length ws
unfolding slot_laid
length_laid ws s slot = length_spread ws kind_row s (rows_of slot)

-- ---- slots whose cells are the same

module _ (ws ws' : List ℕ) (s : ℕ) (e : (q : ℕ) → cell ws q s ≡ cell ws' q s) where
  column_same : (r : ℕ) → column ws r s ≡ column ws' r s
  unfolding column
  column_same r = list_of_same column_length (λ (j : ℕ). page_in (cell ws (r + j) s)) (λ (j : ℕ). page_in (cell ws' (r + j) s)) (λ j _. ap page_in (e (r + j)))

  locks_same : (r : ℕ) → lock_column ws r s ≡ lock_column ws' r s
  unfolding lock_column
  locks_same r =
      list_of_same column_length (λ (j : ℕ). under (lock_named (number_in (cell ws (r + j) s)))) (λ (j : ℕ). under (lock_named (number_in (cell ws' (r + j) s))))
      (λ j _. ap (λ (w : ℕ). under (lock_named (number_in w))) (e (r + j)))

  pub slot_same : slot_in ws s ≡ slot_in ws' s
  slot_same = λ i. record {
    task = task_from (e kind_row i) (e key_row i) (e information_row i);
    want = e want_row i;
    lock = lock_named (e lock_row i);
    path = column_same path_row i;
    locks = locks_same path_row i;
    depth = e depth_row i;
    beside = column_same beside_row i;
    sidelocks = locks_same beside_row i;
    breadth = e breadth_row i;
  }

-- ---- the order

pub length_order : (ws : List ℕ) → length ws ≡ state_length → length (order_in ws) ≡ row_length
unfolding order_in
length_order ws long = length-take-le row_length (drop order_from ws) (omega (arith, length-drop order_from ws))

pub order_cell : (ws : List ℕ) (i : ℕ) → i < row_length → get_or (order_in ws) i 0 ≡ get_or ws (i + order_from) 0
unfolding order_in
order_cell ws i h =
    let same : order_from + i ≡ i + order_from = omega arith in
    get_or-take row_length (drop order_from ws) i 0 h ∙ get_or-drop order_from ws i 0 ∙ ap (λ (j : ℕ). get_or ws j 0) same

order_same : (ws ws' : List ℕ) → length ws ≡ state_length → length ws' ≡ state_length → ((i : ℕ) → i < rows_from → get_or ws i 0 ≡ get_or ws' i 0) → order_in ws ≡ order_in ws'
order_same ws ws' long long' e =
    ext_get_or 0 (order_in ws) (order_in ws') (length_order ws long ∙ sym (length_order ws' long'))
    (λ i h. let b : i < row_length = omega (arith, length_order ws long) in
    order_cell ws i b ∙ e (i + order_from) (omega arith) ∙ sym (order_cell ws' i b))

module _ (ws : List ℕ) (waiting : ℕ) (order : List ℕ) (long : length ws ≡ state_length) (cells : length order ≡ row_length) where
  head : List ℕ
  head = take waiting_at ws ++ waiting ∷ order

  split : order_laid ws waiting order ≡ head ++ drop rows_from ws
  unfolding order_laid head
  split = refl

  head_long : length head ≡ rows_from
  unfolding head
  head_long = length-append (take waiting_at ws) (waiting ∷ order) ∙ omega (arith, length-take-le waiting_at ws (omega arith), cells)

  pub length_order_laid : length (order_laid ws waiting order) ≡ state_length
  length_order_laid = ap length split ∙ length-append head (drop rows_from ws) ∙ omega (arith, head_long, length-drop rows_from ws)

  -- the rows stay
  pub order_beside : (q t : ℕ) → cell (order_laid ws waiting order) q t ≡ cell ws q t
  order_beside q t =
      let same : address q t ≡ rows_from + (row_length * q + t) = omega arith in
      ap (λ (j : ℕ). get_or (order_laid ws waiting order) j 0) same
      ∙ ap (λ (l : List ℕ). get_or l (rows_from + (row_length * q + t)) 0) split
      ∙ subst (λ (n : ℕ). get_or (head ++ drop rows_from ws) (n + (row_length * q + t)) 0 ≡ get_or (drop rows_from ws) (row_length * q + t) 0) head_long
      (get_or-append-add head (drop rows_from ws) (row_length * q + t) 0)
      ∙ get_or-drop rows_from ws (row_length * q + t) 0
      ∙ ap (λ (j : ℕ). get_or ws j 0) (sym same)

-- what stands in front, and the order itself
module _ (waiting : ℕ) (order : List ℕ) (cells : length order ≡ row_length) where
  pub order_front : (ws : List ℕ) → length ws ≡ state_length
      → (get_or (order_laid ws waiting order) k_at 0 ≡ get_or ws k_at 0) × (get_or (order_laid ws waiting order) n_at 0 ≡ get_or ws n_at 0) × (get_or (order_laid ws waiting order) waiting_at 0 ≡ waiting)
  unfolding order_laid
  order_front ws long =
      by_front
      (λ (l : List ℕ). (get_or (order_laid l waiting order) k_at 0 ≡ get_or l k_at 0) × (get_or (order_laid l waiting order) n_at 0 ≡ get_or l n_at 0) × (get_or (order_laid l waiting order) waiting_at 0 ≡ waiting))
      (λ a b x rest. (refl, refl, refl))
      ws (omega arith)

  pub order_laid_lem : (ws : List ℕ) → length ws ≡ state_length → order_in (order_laid ws waiting order) ≡ order
  unfolding order_laid order_in
  order_laid_lem ws long =
      by_front (λ (l : List ℕ). order_in (order_laid l waiting order) ≡ order)
      (λ a b x rest. take_at order (drop row_length rest) row_length cells)
      ws (omega arith)

-- ---- what a call writes

module _ (ws : List ℕ) (s : ℕ) (slot : Slot) (order : List ℕ) (waiting : ℕ) (long : length ws ≡ state_length) (inside : s < row_length) where
  -- the slot of the next state
  pub next_slot : slot_at (rewritten (as_read ws) s slot order waiting) s ≡ slot
  next_slot = get_or-set_same (list_of row_length (slot_in ws)) s slot closed_slot (omega (arith, length_list_of row_length (slot_in ws)))

  pub written_laid : laid_into ws s (rewritten (as_read ws) s slot order waiting) ≡ slot_laid (order_laid ws waiting order) s slot
  unfolding laid_into
  written_laid = ap (slot_laid (order_laid ws waiting order) s) next_slot

  module _ (cells : length order ≡ row_length) (fits : Layable slot) where
    mid : List ℕ
    mid = order_laid ws waiting order

    after : List ℕ
    after = slot_laid mid s slot

    mid_long : length mid ≡ state_length
    unfolding mid
    mid_long = length_order_laid ws waiting order long cells

    front : (i : ℕ) → i < rows_from → get_or after i 0 ≡ get_or mid i 0
    unfolding after
    front i h = laid_front mid s slot mid_long inside i h

    others : (t : ℕ) → t < row_length → t ≢ s → (q : ℕ) → cell after q t ≡ cell ws q t
    unfolding after mid
    others t h n q = laid_beside mid s slot mid_long inside q t h n ∙ order_beside ws waiting order long cells q t

    slots_are : list_of row_length (slot_in after) ≡ set (list_of row_length (slot_in ws)) s slot
    unfolding after
    slots_are =
        list_of_set row_length (slot_in ws) (slot_in after) s slot closed_slot inside
        (slot_laid_lem mid s slot mid_long inside fits)
        (λ i b n. slot_same after ws i (others i b n))

    order_is : order_in after ≡ order
    unfolding after mid
    order_is =
        order_same after mid (length_laid mid s slot ∙ mid_long) mid_long front
        ∙ order_laid_lem waiting order cells ws long

    read_after : as_read after ≡ rewritten (as_read ws) s slot order waiting
    unfolding mid
    read_after =
        let fronts = order_front waiting order cells ws long in
        let k : get_or after k_at 0 ≡ get_or ws k_at 0 = front 0 (omega arith) ∙ fronts.0 in
        let n : get_or after n_at 0 ≡ get_or ws n_at 0 = front 1 (omega arith) ∙ fronts.1 in
        let w : get_or after waiting_at 0 ≡ waiting = front 2 (omega arith) ∙ fronts.2 in
        λ i. record { k = k i; n = n i; slots = slots_are i; order = order_is i; waiting = w i }

    known_after : known ws ≡ true → known after ≡ true
    unfolding known slot_count after
    known_after e =
        all_below_from (λ (t : ℕ). leb (cell after kind_row t) highest_kind) row_length
        (λ t b.
        ⊎_elim
        (λ q. subst (λ (u : ℕ). leb (cell after kind_row u) highest_kind ≡ true) (sym q) (le-leb (cell after kind_row s) highest_kind (laid_kind mid s slot mid_long inside)))
        (λ n. ap (λ (x : ℕ). leb x highest_kind) (others t b n 0) ∙ all_below_at (λ (u : ℕ). leb (cell ws kind_row u) highest_kind) row_length e t b)
        (same_or_not t s))

    -- the words written are those of the next state
    pub state_written : known ws ≡ true → state_of (laid_into ws s (rewritten (as_read ws) s slot order waiting)) ≡ rewritten (as_read ws) s slot order waiting
    unfolding after mid
    state_written e = ap state_of written_laid ∙ state_known after (known_after e) ∙ read_after
