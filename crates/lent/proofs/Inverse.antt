-- Words and state give each other back: the words of a state read as that state, and words in which no unused cell is filled are
-- the words of the state that they read as.
use Prim.Native.Nat.{ℕ, zero, suc, ◌+◌, ◌*◌, ◌-◌, ◌/◌, ◌%◌, ◌≤◌, ◌<◌}
use mathlib.Core.Bool.{Bool, true, false, ◌||◌}
use mathlib.Core.Path.{◌≡◌, refl, sym, ap, ap₂, ◌∙◌, subst}
use mathlib.Core.List.{List, ◌∷◌, ◌++◌}
use mathlib.Core.Logic.{◌⊎◌, inl, inr, ⊎_elim}
use native.Mathlib.Omega.{arith}
use lib.Dec.{eqb, leb, ltb}
use lib.ListN.{length, get_or, take, drop, set, replicate, length-drop, get_or-replicate, take-append-drop, get_or-append}
use lib.Seq.{ext_get_or, get_or-append-add, get_or-drop, take_at}
use borrow.Author.Tests.{le-leb, ltb-true, ltb-false}
use Rattle.ground.specs.Limits.{slot_count, path_holds}
use Rattle.ground.specs.Tests.{filled}
use Rattle.ground.proofs.Bools.{true_or_false}
use Rattle.ground.proofs.Tests.{all_below_from}
use Rattle.slots.specs.declared.Lock.TheVariants.{Alpha}
use Rattle.slots.specs.declared.Slot.{Slot}
use Rattle.slots.specs.declared.State.{State}
use Rattle.slots.specs.Heard.{lock_number, lock_named}
use Rattle.slots.specs.Parts.{under, closed_slot, slot_at, idle_state}
use Rattle.lent.specs.Layout.{rows_from, row_length, column_length, kind_row, key_row, information_row, lock_row, path_row, beside_row, row_count, row_words, state_length}
use Rattle.lent.specs.Words.{list_of, address, cell, page_in, number_in, column, lock_column, highest_kind, task_from, slot_in, order_in, as_read, known, state_of, kind_of, key_in, information_in, hold_word, hold_words, rows_of, state_words}
use Rattle.lent.proofs.ListLaws.{length_list_of, get_d_list_of, list_of_same, list_of_get_d}
use Rattle.lent.proofs.StateLaws.{Layable, closed_layable, by_front, slot_read, state_known, rows_read, rows_kind, column_cell, lock_cell, length_hold, hold_cell}
use Rattle.lent.proofs.HoldLaws.{by_kind}

less_or_not : (a b : ℕ) → (a < b) ⊎ (b ≤ a)
less_or_not a b = ⊎_elim (λ e. inl (ltb-true a b e)) (λ e. inr (ltb-false a b e)) (true_or_false (ltb a b))

-- Arrays have their lengths, and pages fit a half of a word: what is so of every state in the program.
pub record Sized (st : State) : Type 0 where
  pub slots : length st.slots ≡ row_length
  pub order : length st.order ≡ row_length
  pub slot : (s : ℕ) → s < row_length → Layable (slot_at st s)

module _ (st : State) (sized : Sized st) where
  row_of : ℕ → ℕ
  row_of i = get_or (rows_of (slot_at st (i % row_length))) (i / row_length) 0

  head : List ℕ
  head = st.k ∷ st.n ∷ st.waiting ∷ st.order

  words_split : state_words st ≡ head ++ list_of row_words row_of
  unfolding state_words head row_of
  words_split = refl

  head_long : length head ≡ rows_from
  unfolding head
  head_long = omega (arith, sized.order)

  words_cell : (s : ℕ) → s < row_length → (r : ℕ) → r < row_count → cell (state_words st) r s ≡ get_or (rows_of (slot_at st s)) r 0
  unfolding row_of
  words_cell s h r b =
      let same : address r s ≡ rows_from + (row_length * r + s) = omega arith in
      let slot : (row_length * r + s) % row_length ≡ s = omega arith in
      let row : (row_length * r + s) / row_length ≡ r = omega arith in
      ap (λ (i : ℕ). get_or (state_words st) i 0) same
      ∙ ap (λ (l : List ℕ). get_or l (rows_from + (row_length * r + s)) 0) words_split
      ∙ subst (λ (n : ℕ). get_or (head ++ list_of row_words row_of) (n + (row_length * r + s)) 0 ≡ get_or (list_of row_words row_of) (row_length * r + s) 0) head_long
      (get_or-append-add head (list_of row_words row_of) (row_length * r + s) 0)
      ∙ get_d_list_of row_words row_of (row_length * r + s) 0 (omega arith)
      ∙ ap₂ (λ (t q : ℕ). get_or (rows_of (slot_at st t)) q 0) slot row

  slot_words : (s : ℕ) → s < row_length → slot_in (state_words st) s ≡ slot_at st s
  slot_words s h = rows_read (state_words st) s (slot_at st s) (words_cell s h) (sized.slot s h)

  order_words : order_in (state_words st) ≡ st.order
  unfolding state_words order_in
  order_words = take_at st.order (list_of row_words (λ (i : ℕ). get_or (rows_of (slot_at st (i % row_length))) (i / row_length) 0)) row_length sized.order

  read_words : as_read (state_words st) ≡ st
  unfolding state_words
  read_words =
      let slots : list_of row_length (slot_in (state_words st)) ≡ st.slots =
      list_of_same row_length (slot_in (state_words st)) (slot_at st) slot_words ∙ list_of_get_d st.slots closed_slot row_length sized.slots in
      λ i. record { k = st.k; n = st.n; slots = slots i; order = order_words i; waiting = st.waiting }

  known_words : known (state_words st) ≡ true
  unfolding known slot_count
  known_words =
      all_below_from (λ (s : ℕ). leb (cell (state_words st) kind_row s) highest_kind) row_length
      (λ s h. le-leb (cell (state_words st) kind_row s) highest_kind (rows_kind (state_words st) s (slot_at st s) (words_cell s h)))

  -- the words of a state read as that state
  pub state_back : state_of (state_words st) ≡ st
  state_back = state_known (state_words st) known_words ∙ read_words

-- ---- an idle state

-- its words: k, N, and 0 everywhere else
pub idle_words : (k n : ℕ) → set (set (replicate state_length 0) 0 k) 1 n ≡ state_words (idle_state k n)
unfolding state_words slot_count path_holds filled list_of hold_words
idle_words k n = refl

pub idle_sized : (k n : ℕ) → Sized (idle_state k n)
unfolding slot_count
idle_sized k n = record {
  slots = refl;
  order = refl;
  slot = λ s h. subst Layable (sym (get_or-replicate row_length s closed_slot closed_slot h)) closed_layable;
}

-- ---- words that a state gives

-- the kinds that have information
abbrev pub informs : ℕ → Bool
informs kind = eqb kind 2 || eqb kind 5 || eqb kind 6 || eqb kind 8 || eqb kind 9 || eqb kind 11

-- Clean words: as many as a state has, every kind exists, and so does every lock, wanted or on a page, and no key or information stands
-- where the task has none.
pub record Clean (ws : List ℕ) : Type 0 where
  pub long : length ws ≡ state_length
  pub exist : (s : ℕ) → s < row_length → cell ws kind_row s ≤ highest_kind
  pub key : (s : ℕ) → s < row_length → cell ws kind_row s ≡ 0 → cell ws key_row s ≡ 0
  pub information : (s : ℕ) → s < row_length → informs (cell ws kind_row s) ≡ false → cell ws information_row s ≡ 0
  pub lock : (s : ℕ) → s < row_length → cell ws lock_row s ≤ lock_number Alpha
  pub locks : (s : ℕ) → s < row_length → (j : ℕ) → j < column_length + column_length → number_in (cell ws (path_row + j) s) ≤ lock_number Alpha

kind_back : (key information kind : ℕ) → kind ≤ highest_kind → kind_of (task_from kind key information) ≡ kind
kind_back key information = by_kind (λ (k : ℕ). kind_of (task_from k key information) ≡ k) refl refl refl refl refl refl refl refl refl refl refl refl

key_back : (key information kind : ℕ) → kind ≤ highest_kind → (kind ≡ 0 → key ≡ 0) → key_in (task_from kind key information) ≡ key
key_back key information =
    by_kind (λ (k : ℕ). (k ≡ 0 → key ≡ 0) → key_in (task_from k key information) ≡ key)
    (λ e. sym (e refl)) (λ _. refl) (λ _. refl) (λ _. refl) (λ _. refl) (λ _. refl) (λ _. refl) (λ _. refl) (λ _. refl) (λ _. refl) (λ _. refl) (λ _. refl)

information_back : (key information kind : ℕ) → kind ≤ highest_kind → (informs kind ≡ false → information ≡ 0) → information_in (task_from kind key information) ≡ information
information_back key information =
    by_kind (λ (k : ℕ). (informs k ≡ false → information ≡ 0) → information_in (task_from k key information) ≡ information)
    (λ e. sym (e refl)) (λ e. sym (e refl)) (λ _. refl) (λ e. sym (e refl)) (λ e. sym (e refl)) (λ _. refl) (λ _. refl) (λ e. sym (e refl)) (λ _. refl) (λ _. refl) (λ e. sym (e refl)) (λ _. refl)

number_back : (number : ℕ) → number ≤ lock_number Alpha → lock_number (lock_named number) ≡ number
number_back zero h = refl
number_back (suc zero) h = refl
number_back (suc (suc zero)) h = refl
number_back (suc (suc (suc zero))) h = refl
number_back (suc (suc (suc (suc zero)))) h = refl
number_back (suc (suc (suc (suc (suc n))))) h = absurd (omega arith)

-- a word is that of the page and the kind that are read off it
word_back : (w : ℕ) → number_in w ≤ lock_number Alpha → hold_word (page_in w) (under (lock_named (number_in w))) ≡ w
word_back w h = let number = number_back (number_in w) h in omega arith

module _ (ws : List ℕ) (clean : Clean ws) (s : ℕ) (h' : s < row_length) where
  -- the words of a column
  column_back : (r : ℕ) → ((j : ℕ) → j < column_length → number_in (cell ws (r + j) s) ≤ lock_number Alpha)
      → (j : ℕ) → j < column_length → get_or (hold_words (column ws r s) (lock_column ws r s)) j 0 ≡ cell ws (r + j) s
  column_back r exist j b =
      hold_cell (column ws r s) (lock_column ws r s) j b
      ∙ ap₂ hold_word (column_cell ws r s j b) (lock_cell ws r s j b)
      ∙ word_back (cell ws (r + j) s) (exist j b)

  on_path : List ℕ
  on_path = hold_words (column ws path_row s) (lock_column ws path_row s)

  aside : List ℕ
  aside = hold_words (column ws beside_row s) (lock_column ws beside_row s)

  path_long : length on_path ≡ column_length
  unfolding on_path
  path_long = length_hold (column ws path_row s) (lock_column ws path_row s)

  -- behind the seven numbers
  page_back : (q : ℕ) → q < column_length + column_length → get_or (on_path ++ aside) q 0 ≡ cell ws (path_row + q) s
  unfolding on_path aside
  page_back q b =
      ⊎_elim
      (λ few.
      get_or-append on_path aside 0 q (omega (arith, path_long)) ∙ column_back path_row (λ j h. clean.locks s h' j (omega arith)) q few)
      (λ many.
      let p : ℕ = q - column_length in
      let same : q ≡ length on_path + p = omega (arith, path_long) in
      let there : beside_row + p ≡ path_row + q = omega arith in
      ap (λ (i : ℕ). get_or (on_path ++ aside) i 0) same
      ∙ get_or-append-add on_path aside p 0
      ∙ column_back beside_row beside_exist p (omega arith)
      ∙ ap (λ (r : ℕ). cell ws r s) there)
      (less_or_not q column_length)
    where
      beside_exist : (j : ℕ) → j < column_length → number_in (cell ws (beside_row + j) s) ≤ lock_number Alpha
      beside_exist j h =
          let there : path_row + (column_length + j) ≡ beside_row + j = omega arith in
          subst (λ (r : ℕ). number_in (cell ws r s) ≤ lock_number Alpha) there (clean.locks s h' (column_length + j) (omega arith))

  row_back : (r : ℕ) → r < row_count → get_or (rows_of (slot_in ws s)) r 0 ≡ cell ws r s
  unfolding on_path aside
  row_back zero b = kind_back (cell ws key_row s) (cell ws information_row s) (cell ws kind_row s) (clean.exist s h')
  row_back (suc zero) b = key_back (cell ws key_row s) (cell ws information_row s) (cell ws kind_row s) (clean.exist s h') (clean.key s h')
  row_back (suc (suc zero)) b = information_back (cell ws key_row s) (cell ws information_row s) (cell ws kind_row s) (clean.exist s h') (clean.information s h')
  row_back (suc (suc (suc zero))) b = refl
  row_back (suc (suc (suc (suc zero)))) b = number_back (cell ws lock_row s) (clean.lock s h')
  row_back (suc (suc (suc (suc (suc zero))))) b = refl
  row_back (suc (suc (suc (suc (suc (suc zero)))))) b = refl
  row_back (suc (suc (suc (suc (suc (suc (suc q))))))) b =
      let same : 7 + q ≡ suc (suc (suc (suc (suc (suc (suc q)))))) = omega arith in
      page_back q (omega arith) ∙ ap (λ (r : ℕ). cell ws r s) same

-- the rows of the state that clean words read as
rows_back : (ws : List ℕ) → Clean ws → list_of row_words (λ (i : ℕ). get_or (rows_of (slot_at (as_read ws) (i % row_length))) (i / row_length) 0) ≡ drop rows_from ws
rows_back ws clean =
    let f : ℕ → ℕ = λ (i : ℕ). get_or (rows_of (slot_at (as_read ws) (i % row_length))) (i / row_length) 0 in
    let many : length (drop rows_from ws) ≡ row_words = length-drop rows_from ws ∙ omega (arith, clean.long) in
    ext_get_or 0 (list_of row_words f) (drop rows_from ws) (length_list_of row_words f ∙ sym many)
    (λ j b.
    let c : j < row_words = omega (arith, length_list_of row_words f) in
    let s : ℕ = j % row_length in
    let inside : s < row_length = omega arith in
    let same : address (j / row_length) (j % row_length) ≡ rows_from + j = omega arith in
    get_d_list_of row_words f j 0 c
    ∙ ap (λ (x : Slot). get_or (rows_of x) (j / row_length) 0) (slot_read ws s inside)
    ∙ row_back ws clean s inside (j / row_length) (omega arith)
    ∙ ap (λ (i : ℕ). get_or ws i 0) same
    ∙ sym (get_or-drop rows_from ws j 0))

read_back : (ws : List ℕ) → Clean ws → state_words (as_read ws) ≡ ws
unfolding state_words order_in
read_back ws clean =
    by_front
    (λ (l : List ℕ). list_of row_words (λ (i : ℕ). get_or (rows_of (slot_at (as_read l) (i % row_length))) (i / row_length) 0) ≡ drop rows_from l → state_words (as_read l) ≡ l)
    (λ a b x rest e. ap (λ (l : List ℕ). a ∷ b ∷ x ∷ (take row_length rest ++ l)) e ∙ ap (λ (l : List ℕ). a ∷ b ∷ x ∷ l) (take-append-drop row_length rest))
    ws (omega (arith, clean.long)) (rows_back ws clean)

-- clean words are the words of the state that they read as
pub words_back : (ws : List ℕ) → Clean ws → state_words (state_of ws) ≡ ws
unfolding known slot_count
words_back ws clean =
    ap state_words (state_known ws (all_below_from (λ (s : ℕ). leb (cell ws kind_row s) highest_kind) row_length (λ s h. le-leb (cell ws kind_row s) highest_kind (clean.exist s h))))
    ∙ read_back ws clean
