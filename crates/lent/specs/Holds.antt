-- Which other slots hold a page, or want it: what the test of a grant and the test of a sound state look for, on the words.
use Rattle.std.specs.Prelude.{ℕ, ◌≤◌, ◌<◌, Bool, true, not, ◌&&◌, ◌||◌, ◌≡◌, List, eqb, leb, ltb, get_or}
use Rattle.ground.specs.Limits.{slot_count}
use Rattle.ground.specs.Tests.{any_below, member}
use Rattle.slots.specs.declared.Lock.{Lock}
use Rattle.slots.specs.declared.Slot.{Slot}
use Rattle.slots.specs.Parts.{held, waiting_order}
use Rattle.slots.specs.Locks.{lock_held, in_row, clash}
use Rattle.slots.specs.Heard.{lock_named}
use Rattle.lent.specs.Layout.{page_range, waiting_at, row_length, column_length, want_row, lock_row, depth_row, breadth_row, path_row}
use Rattle.lent.specs.Words.{cell, page_in, number_in, slot_in, as_read}

-- no path is longer than its rows, nor are the pages beside it
pub record WithinRows (ws : List ℕ) : Type 0 where
  pub path : (s : ℕ) → s < row_length → cell ws depth_row s ≤ column_length
  pub beside : (s : ℕ) → s < row_length → cell ws breadth_row s ≤ column_length

-- a number that stands for a lock
abbrev pub is_lock_number : ℕ → Bool
is_lock_number number = leb 1 number && leb number 4

-- the waiting order is no longer than its row, and names slots
pub record OpenOrder (ws : List ℕ) : Type 0 where
  pub few : get_or ws waiting_at 0 ≤ row_length
  pub below : (t : ℕ) → member t (waiting_order (as_read ws)) ≡ true → t < slot_count

-- every page of a slot fits the half of a word that is for it
pub record InHalves (slot : Slot) : Type 0 where
  pub path : (i : ℕ) → get_or slot.path i 0 < page_range
  pub beside : (i : ℕ) → get_or slot.beside i 0 < page_range

-- A row of the table of locks stands for the kind that is wanted: what it says of another kind.

-- slot t is another one than s, and holds page p under a kind that clashes. (Where it does not hold the page it has no lock on it, and so
-- none that clashes.)
abbrev pub other_holds : List ℕ → ℕ → List Bool → ℕ → ℕ → Bool
other_holds ws s row p t = not (eqb t s) && in_row row (lock_held (slot_in ws t) p)

-- it holds page p so on top of its path
abbrev pub top_holds : List ℕ → ℕ → List Bool → ℕ → ℕ → Bool
top_holds ws s row p t =
    not (eqb t s)
    && (ltb 0 (cell ws depth_row t) && eqb p (page_in (cell ws path_row t)))
    && in_row row (lock_named (number_in (cell ws path_row t)))

-- it holds more than one page
abbrev pub is_deep : List ℕ → ℕ → Bool
is_deep ws t = ltb 1 (cell ws depth_row t) || ltb 0 (cell ws breadth_row t)

abbrev pub deep_holds : List ℕ → ℕ → List Bool → ℕ → ℕ → Bool
deep_holds ws s row p t = is_deep ws t && other_holds ws s row p t

-- some slot other than s holds page p under a kind that clashes
unfoldable pub others_hold : List ℕ → ℕ → List Bool → ℕ → Bool
others_hold ws s row p = any_below row_length (other_holds ws s row p)

-- slot t wants page p, with a kind that clashes
abbrev pub also_wants : List ℕ → List Bool → ℕ → ℕ → Bool
also_wants ws row p t = eqb (cell ws want_row t) p && in_row row (lock_named (cell ws lock_row t))

-- slot t is another one than s, wants page p and holds it: it waits to convert it
abbrev pub other_converts : List ℕ → ℕ → ℕ → ℕ → Bool
other_converts ws s p t = not (eqb t s) && (eqb (cell ws want_row t) p && member p (held (slot_in ws t)))

-- it is another one, wants page p, and holds some page
abbrev pub may_convert : List ℕ → ℕ → ℕ → ℕ → Bool
may_convert ws s p t = not (eqb t s) && eqb (cell ws want_row t) p && (ltb 0 (cell ws depth_row t) || ltb 0 (cell ws breadth_row t))

-- the row of a kind, by its number: what it says of each kind
abbrev pub RowOf : ℕ → List Bool → Type 0
RowOf number row = (lock : Lock) → in_row row lock ≡ clash (lock_named number) lock
