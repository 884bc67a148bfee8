-- The tests of a state in words together are the rule of a sound state, and what is known of the words of one.
use Prim.Native.Nat.{ℕ, ◌≤◌, ◌<◌}
use mathlib.Core.Bool.{Bool, true, false, not, ◌&&◌, ◌||◌}
use mathlib.Core.List.{List}
use mathlib.Core.Logic.{⊎_elim}
use mathlib.Core.Path.{◌≡◌, refl, sym, ap, ap₂, ◌∙◌, fun_ext}
use borrow.Author.Tests.{ltb-true, ne_eqb, le-leb}
use lib.Dec.{leb, ltb}
use lib.ListN.{get_or, take}
use Rattle.ground.specs.Limits.{k_in_range, n_in_range, slot_count}
use Rattle.ground.specs.Tests.{all, all_below, member, distinct}
use Rattle.ground.proofs.Bools.{and_first, and_second, and_both, not_of_false, and_first_fails, and_second_fails, not_both, false_if_not_true, true_or_false}
use Rattle.ground.proofs.Choice.{by_test, cond-false}
use Rattle.ground.proofs.Tests.{all_below_same, all_below_at, all_below_from}
use Rattle.slots.specs.declared.Slot.{Slot}
use Rattle.slots.specs.Parts.{idle_state, slot_at, open_at, is_open}
use Rattle.slots.specs.Sound.{names_each, order_sound, slot_sound, no_clashing_holds, sound}
use Rattle.slots.proofs.SoundFacts.{SoundSlot, SoundState, sound_slot, sound_facts, empty_unsound}
use Rattle.lent.specs.Layout.{k_at, n_at, waiting_at, row_length, kind_row, key_row, information_row}
use Rattle.lent.specs.Words.{cell, highest_kind, task_from, order_in, as_read, known, state_of}
use Rattle.lent.specs.Holds.{WithinRows, OpenOrder}
use Rattle.lent.proofs.StateLaws.{slot_read, state_known}
use Rattle.lent.proofs.HoldLaws.{all_both, by_kind, kind_known}
use Rattle.soundness.specs.Checking.{row_fine, deep_fine, open_kind, stands_alone}
use Rattle.soundness.proofs.CheckingLawsRows.{slot_fits, row_at, rows_short}
use Rattle.soundness.proofs.CheckingLawsAlone.{no_clashes}

-- ---- the order

-- two tests of open slots that agree on the slots
pub named_same : (p q : ℕ → Bool) (waiting : ℕ) (order : List ℕ) → ((s : ℕ) → s < slot_count → p s ≡ q s) → names_each p waiting order ≡ names_each q waiting order
unfolding names_each
named_same p q waiting order same =
    ap₂ (λ (a b : Bool). leb waiting slot_count && a && distinct (take waiting order) && b)
    (ap (λ (r : ℕ → Bool). all r (take waiting order)) (fun_ext agree))
    (all_below_same (λ (s : ℕ). not (p s) || member s (take waiting order)) (λ (s : ℕ). not (q s) || member s (take waiting order)) slot_count
    (λ s h. ap (λ (b : Bool). not b || member s (take waiting order)) (same s h)))
  where
    agree : (s : ℕ) → ltb s slot_count && p s ≡ ltb s slot_count && q s
    agree s =
        ⊎_elim
        (λ y. ap (λ (b : Bool). ltb s slot_count && b) (same s (ltb-true s slot_count y)))
        (λ f. and_first_fails (p s) f ∙ sym (and_first_fails (q s) f))
        (true_or_false (ltb s slot_count))

open_kind_lem : (key information kind : ℕ) → kind ≤ highest_kind → is_open (task_from kind key information) ≡ open_kind kind
open_kind_lem key information = by_kind (λ (k : ℕ). is_open (task_from k key information) ≡ open_kind k) refl refl refl refl refl refl refl refl refl refl refl refl

-- a slot is open as its kind tells
open_as : (ws : List ℕ) (s : ℕ) → known ws ≡ true → s < row_length → open_at (as_read ws) s ≡ open_kind (cell ws kind_row s)
open_as ws s e h = ap (λ (x : Slot). is_open x.task) (slot_read ws s h) ∙ open_kind_lem (cell ws key_row s) (cell ws information_row s) (cell ws kind_row s) (kind_known ws e s h)

pub kind_closed : (ws : List ℕ) (s : ℕ) → known ws ≡ true → s < row_length → cell ws kind_row s ≡ 0 → open_at (as_read ws) s ≡ false
kind_closed ws s e h z = open_as ws s e h ∙ ap open_kind z

pub kind_open : (ws : List ℕ) (s : ℕ) → known ws ≡ true → s < row_length → (cell ws kind_row s ≡ 0 → ⊥) → open_at (as_read ws) s ≡ true
kind_open ws s e h n =
    open_as ws s e h ∙ and_both (not_of_false (ne_eqb (cell ws kind_row s) 0 n)) (le-leb (cell ws kind_row s) highest_kind (kind_known ws e s h))

order_words : (ws : List ℕ) → known ws ≡ true → order_sound (as_read ws) ≡ names_each (λ (s : ℕ). open_kind (cell ws kind_row s)) (get_or ws waiting_at 0) (order_in ws)
unfolding slot_count
order_words ws e =
    named_same (open_at (as_read ws)) (λ (s : ℕ). open_kind (cell ws kind_row s)) (get_or ws waiting_at 0) (order_in ws)
    (λ s h. open_as ws s e h)

-- ---- the slots

slots_words : (ws : List ℕ) → known ws ≡ true
    → all_below row_length (row_fine ws (get_or ws n_at 0)) && all_below row_length (deep_fine ws (get_or ws n_at 0)) ≡ all_below slot_count (λ (s : ℕ). slot_sound (get_or ws n_at 0) (slot_at (as_read ws) s))
unfolding slot_count
slots_words ws e =
    all_both (row_fine ws (get_or ws n_at 0)) (deep_fine ws (get_or ws n_at 0)) row_length
    ∙ all_below_same _ _ row_length
    (λ s h. slot_fits ws (get_or ws n_at 0) s (kind_known ws e s h) ∙ ap (slot_sound (get_or ws n_at 0)) (sym (slot_read ws s h)))

-- rows that are fine are of kinds that exist
rows_known : (ws : List ℕ) (n : ℕ) → all_below row_length (row_fine ws n) ≡ true → known ws ≡ true
unfolding known slot_count
rows_known ws n e = all_below_from (λ (s : ℕ). leb (cell ws kind_row s) highest_kind) row_length (λ s h. le-leb (cell ws kind_row s) highest_kind (row_at ws n e s h).exists)

-- ---- the whole

reorder : (n w r d a : Bool) → n && w && (r && d) && a ≡ n && r && w && d && a
reorder false w r d a = refl
reorder true true true d a = refl
reorder true true false d a = refl
reorder true false true d a = refl
reorder true false false d a = refl

-- where the slots fail, what is asked last does not matter
last_any : (n w x a b : Bool) → x ≡ false → n && w && x && a ≡ n && w && x && b
last_any false w x a b f = refl
last_any true false x a b f = refl
last_any true true true a b f = not_both refl f
last_any true true false a b f = refl

module _ (ws : List ℕ) where
  abbrev pub numbers : Bool
  numbers = k_in_range (get_or ws k_at 0) && n_in_range (get_or ws n_at 0)

  abbrev pub rows : Bool
  rows = all_below row_length (row_fine ws (get_or ws n_at 0))

  abbrev pub names : Bool
  names = names_each (λ (s : ℕ). open_kind (cell ws kind_row s)) (get_or ws waiting_at 0) (order_in ws)

  abbrev pub deeps : Bool
  deeps = all_below row_length (deep_fine ws (get_or ws n_at 0))

  abbrev pub alones : Bool
  alones = all_below row_length (stands_alone ws)

  abbrev slots : Bool
  slots = all_below slot_count (λ (s : ℕ). slot_sound (get_or ws n_at 0) (slot_at (as_read ws) s))

  abbrev clashless : Bool
  clashless = no_clashing_holds (as_read ws)

  -- one slot of a state whose slots are sound
  slot_fact : slots ≡ true → (s : ℕ) → s < row_length → SoundSlot (get_or ws n_at 0) (slot_at (as_read ws) s)
  unfolding slot_count
  slot_fact t s h =
      sound_slot (get_or ws n_at 0) (slot_at (as_read ws) s) (all_below_at (λ (u : ℕ). slot_sound (get_or ws n_at 0) (slot_at (as_read ws) u)) row_length t s h)

  known_sound : known ws ≡ true → sound (as_read ws) ≡ numbers && rows && names && deeps && alones
  unfolding sound
  known_sound e =
      ap (λ (w : Bool). numbers && w && slots && clashless) (order_words ws e)
      ∙ by_test slots
      (λ t. ap (λ (a : Bool). numbers && names && slots && a) (no_clashes ws (get_or ws n_at 0) e (rows_short ws (get_or ws n_at 0) (and_first rows deeps (slots_words ws e ∙ t))) (slot_fact t)))
      (last_any numbers names slots clashless alones)
      ∙ ap (λ (x : Bool). numbers && names && x && alones) (sym (slots_words ws e))
      ∙ reorder numbers names rows deeps alones

  unknown_state : known ws ≡ false → sound (state_of ws) ≡ false
  unfolding state_of
  unknown_state f = ap sound (cond-false (as_read ws) (idle_state 0 0) f) ∙ empty_unsound

  pub whole : sound (state_of ws) ≡ numbers && rows && names && deeps && alones
  whole =
      ⊎_elim
      (λ e. ap sound (state_known ws e) ∙ known_sound e)
      (λ f.
      let none : rows ≡ false = false_if_not_true rows (λ t. not_both (rows_known ws (get_or ws n_at 0) t) f) in
      unknown_state f
      ∙ sym
      (and_first_fails alones (and_first_fails deeps (and_first_fails names (and_second_fails numbers none)))))
      (true_or_false (known ws))

  -- test by test
  pub sound_numbers : {n : Bool} → n ≡ numbers → n ≡ false → false ≡ sound (state_of ws)
  sound_numbers e f = sym (whole ∙ and_first_fails alones (and_first_fails deeps (and_first_fails names (and_first_fails rows (sym e ∙ f)))))

  pub sound_rows : {r : Bool} → r ≡ rows → r ≡ false → false ≡ sound (state_of ws)
  sound_rows e f = sym (whole ∙ and_first_fails alones (and_first_fails deeps (and_first_fails names (and_second_fails numbers (sym e ∙ f)))))

  pub sound_order : {w : Bool} → w ≡ names → w ≡ false → false ≡ sound (state_of ws)
  sound_order e f = sym (whole ∙ and_first_fails alones (and_first_fails deeps (and_second_fails (numbers && rows) (sym e ∙ f))))

  pub sound_deep : {d : Bool} → d ≡ deeps → d ≡ false → false ≡ sound (state_of ws)
  sound_deep e f = sym (whole ∙ and_first_fails alones (and_second_fails (numbers && rows && names) (sym e ∙ f)))

  pub sound_alone : {n r w d a : Bool} → n ≡ numbers → n ≡ true → r ≡ rows → r ≡ true → w ≡ names → w ≡ true → d ≡ deeps → d ≡ true → a ≡ alones → a ≡ sound (state_of ws)
  sound_alone en tn er tr ew tw ed td ea =
      ea
      ∙ sym
      (whole
      ∙ ap₂ (λ (x y : Bool). x && y && names && deeps && alones) (sym en ∙ tn) (sym er ∙ tr)
      ∙ ap₂ (λ (x y : Bool). x && y && alones) (sym ew ∙ tw) (sym ed ∙ td))

  -- the rows of a sound state are fine
  sound_rows_fine : sound (state_of ws) ≡ true → rows ≡ true
  sound_rows_fine e =
      and_second numbers rows
      (and_first (numbers && rows) names
      (and_first (numbers && rows && names) deeps
      (and_first (numbers && rows && names && deeps) alones (sym whole ∙ e))))

-- ---- what is known of the words of a sound state

order_open : (ws : List ℕ) → SoundState (as_read ws) → OpenOrder ws
unfolding slot_count
order_open ws facts = record {
  few = facts.waits;
  below = facts.order_below;
}

pub record SoundWords (ws : List ℕ) : Type 0 where
  pub exist : known ws ≡ true
  pub read : state_of ws ≡ as_read ws
  pub facts : SoundState (as_read ws)
  pub short : WithinRows ws
  pub order : OpenOrder ws

pub sound_words : (ws : List ℕ) → sound (state_of ws) ≡ true → SoundWords ws
sound_words ws e =
    let fine : all_below row_length (row_fine ws (get_or ws n_at 0)) ≡ true = sound_rows_fine ws e in
    let exist : known ws ≡ true = rows_known ws (get_or ws n_at 0) fine in
    let read : state_of ws ≡ as_read ws = state_known ws exist in
    let facts : SoundState (as_read ws) = sound_facts (as_read ws) (ap sound (sym read) ∙ e) in
    record {
      exist = exist;
      read = read;
      facts = facts;
      short = rows_short ws (get_or ws n_at 0) fine;
      order = order_open ws facts;
    }
