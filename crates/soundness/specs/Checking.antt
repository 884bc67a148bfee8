-- What the parts of the test of a state test, where the rule of a sound state has no name for it.
use Rattle.std.specs.Prelude.{ℕ, ◌+◌, ◌^◌, ◌<◌, ◌≡◌, Bool, cond, not, ◌&&◌, ◌||◌, List, [], leb, ltb, eqb, get_or}
use Rattle.ground.specs.Tests.{all, all_below, member, distinct}
use Rattle.slots.specs.declared.Lock.TheVariants.{Rho, Xi, UpdaterRho, Alpha}
use Rattle.slots.specs.declared.Slot.{Slot}
use Rattle.slots.specs.Parts.{held}
use Rattle.slots.specs.Heard.{lock_number, lock_named}
use Rattle.slots.specs.Locks.{lock_place, lock_table, lock_held, same_lock}
use Rattle.slots.specs.Sound.{below_and_once}
use Rattle.lent.specs.Layout.{column_length, kind_row, want_row, lock_row, depth_row, breadth_row, path_row, beside_row}
use Rattle.lent.specs.Words.{cell, page_in, number_in, highest_kind, slot_in}
use Rattle.lent.specs.Holds.{is_deep, others_hold}

-- a page below n, neither this other one nor one of the slot's own so far
abbrev pub enters : ℕ → ℕ → List ℕ → ℕ → Bool
enters n other own p = ltb p n && not (eqb p other) && not (member p own)

-- each of these pages is such a page, and no two are the same
unfoldable pub may_enter : ℕ → ℕ → List ℕ → List ℕ → Bool
may_enter n other own pages = all (enters n other own) pages && distinct pages

-- all pages that a slot holds are below n, none of them is this other one, and no two are the same
unfoldable pub held_once : ℕ → ℕ → Slot → Bool
held_once n other s = all (λ (p : ℕ). ltb p n) (held s) && distinct (held s) && not (member other (held s))

-- ---- the kinds

-- the updates by the first way, which hold under ξ
abbrev pub updates_kind : ℕ → Bool
updates_kind kind = eqb kind 2 || eqb kind 3 || eqb kind 5

-- those by the third way, which hold under α, or ξ
abbrev pub third_kind : ℕ → Bool
third_kind kind = ltb 8 kind

-- who holds under ξ or α
abbrev pub excludes_kind : ℕ → Bool
excludes_kind kind = updates_kind kind || third_kind kind

-- the number of the lock with which an open slot of this kind goes down: ξ for an update by the first way, α by the third, updater's ρ by the
-- second (the kinds above 5 below those), ρ for who only reads
abbrev pub kind_lock : ℕ → ℕ
kind_lock kind = cond (updates_kind kind) (lock_number Xi) (cond (third_kind kind) (lock_number Alpha) (cond (ltb 5 kind) (lock_number UpdaterRho) (lock_number Rho)))

-- a slot of this kind can hold under the lock of this number: the one with which it goes down, and by the third way ξ
abbrev pub kind_holds : ℕ → ℕ → Bool
kind_holds kind lock = eqb lock (kind_lock kind) || (third_kind kind && eqb lock (lock_number Xi))

-- it can want with the lock of this number: with the one with which it goes down, and by the second and the third way with ξ too
abbrev pub kind_wants : ℕ → ℕ → Bool
kind_wants kind lock = eqb lock (kind_lock kind) || (ltb 5 kind && eqb lock (lock_number Xi))

-- it wants a conversion: by the third way ξ is wanted so alone
abbrev pub as_conversion : ℕ → ℕ → Bool
as_conversion kind lock = third_kind kind && eqb lock (lock_number Xi)

-- the kinds of open slots
abbrev pub open_kind : ℕ → Bool
open_kind kind = not (eqb kind 0) && leb kind highest_kind

-- the kinds that may hold more than one page: deletions and Next, and insertions if none is beside the path, by the first and the third way
abbrev pub may_hold_more : ℕ → ℕ → Bool
may_hold_more kind breadth = eqb kind 3 || eqb kind 4 || eqb kind 10 || ((eqb kind 2 || eqb kind 9) && eqb breadth 0)

-- ---- the rows of a state in words

-- The top of a path, if there is one, is below n, and under a lock that the kind can hold it under. A slot that holds no more converts its
-- top, from α, if it wants it, and nothing else.
abbrev pub top_row : ℕ → ℕ → ℕ → ℕ → ℕ → ℕ → ℕ → Bool
top_row kind depth breadth n want lock top =
    (eqb depth 0 || (ltb (page_in top) n && kind_holds kind (number_in top)))
    && (ltb 1 depth
    || ltb 0 breadth
    || (as_conversion kind lock && (ltb 0 depth && eqb want (page_in top)) && eqb (number_in top) (lock_number Alpha))
    || (not (as_conversion kind lock) && not (ltb 0 depth && eqb want (page_in top))))

-- what the rows tell of a slot's pages: it holds nothing if it is closed, and fewer pages beside its path than on it, if any; the wanted
-- page is below n, and the top is as it should be
abbrev pub pages_row : ℕ → ℕ → ℕ → ℕ → ℕ → ℕ → ℕ → Bool
pages_row kind depth breadth n want lock top =
    leb kind highest_kind
    && leb depth column_length
    && (not (eqb kind 0) || eqb depth 0)
    && (eqb breadth 0 || ltb breadth depth)
    && (eqb kind 0 || ltb want n)
    && top_row kind depth breadth n want lock top

-- what they tell of a slot: its pages, and the lock that it wants if it is open
abbrev pub fine_row : ℕ → ℕ → ℕ → ℕ → ℕ → ℕ → ℕ → Bool
fine_row kind depth breadth n want lock top = pages_row kind depth breadth n want lock top && (eqb kind 0 || kind_wants kind lock)

abbrev pub top_fine : List ℕ → ℕ → ℕ → Bool
top_fine ws n s =
    top_row (cell ws kind_row s) (cell ws depth_row s) (cell ws breadth_row s) n (cell ws want_row s) (cell ws lock_row s) (cell ws path_row s)

abbrev pub row_fine : List ℕ → ℕ → ℕ → Bool
row_fine ws n s =
    fine_row (cell ws kind_row s) (cell ws depth_row s) (cell ws breadth_row s) n (cell ws want_row s) (cell ws lock_row s) (cell ws path_row s)

-- ---- the words of held pages

-- the first so many words of a column pass a test
unfoldable pub column_passes : (ℕ → Bool) → List ℕ → ℕ → ℕ → ℕ → Bool
column_passes test ws row s count = all_below count (λ (j : ℕ). test (cell ws (row + j) s))

-- a test that is handed in tells of each word what this one does
unfoldable pub Tells : (ℕ → Bool → Type 0) → (ℕ → Bool) → Type 0
Tells said test = (word : ℕ) (r : Bool) → word < 2 ^ 32 → said word r → r ≡ test word

-- the words of all pages that slot s holds do
abbrev pub held_pass : (ℕ → Bool) → List ℕ → ℕ → Bool
held_pass test ws s = column_passes test ws path_row s (cell ws depth_row s) && column_passes test ws beside_row s (cell ws breadth_row s)

-- a slot of this kind can hold a page under the lock of this word
abbrev pub word_under : ℕ → ℕ → Bool
word_under kind word = kind_holds kind (number_in word)

abbrev pub under_kind : List ℕ → ℕ → Bool
under_kind ws s = held_pass (word_under (cell ws kind_row s)) ws s

-- ---- the slots that hold more than one page

-- slot s wants a conversion of a page that it holds under α, or else a page that it does not hold
abbrev pub converts_fine : List ℕ → ℕ → Bool
converts_fine ws s =
    cond (as_conversion (cell ws kind_row s) (cell ws lock_row s))
    (same_lock (lock_held (slot_in ws s) (cell ws want_row s)) Alpha)
    (not (member (cell ws want_row s) (held (slot_in ws s))))

abbrev pub pages_fine : List ℕ → ℕ → ℕ → Bool
pages_fine ws n s = below_and_once n (slot_in ws s) && converts_fine ws s

-- a slot that holds more than one page is of such a kind, its pages are sound, and held under locks that its kind can hold them under
abbrev pub more_fine : List ℕ → ℕ → ℕ → Bool
more_fine ws n s = may_hold_more (cell ws kind_row s) (cell ws breadth_row s) && pages_fine ws n s && under_kind ws s

abbrev pub deep_fine : List ℕ → ℕ → ℕ → Bool
deep_fine ws n s = not (is_deep ws s) || more_fine ws n s

-- ---- locks that clash

-- no other slot holds the page of this word of slot s under a lock that clashes with the kind of this row
abbrev pub word_apart : List ℕ → ℕ → List Bool → ℕ → Bool
word_apart ws s row word = not (others_hold ws s row (page_in word))

abbrev pub apart_in : List ℕ → ℕ → List Bool → Bool
apart_in ws s row = held_pass (word_apart ws s row) ws s

-- the row of the table for the lock of this number, and that of ξ
abbrev pub row_for : ℕ → List Bool
row_for number = get_or lock_table (lock_place (lock_named number)) []

abbrev pub xi_row : List Bool
xi_row = row_for (lock_number Xi)

-- no other slot holds the page of this word of slot s under a lock that clashes with the word's own
abbrev pub word_alone : List ℕ → ℕ → ℕ → Bool
word_alone ws s word = word_apart ws s (row_for (number_in word)) word

abbrev pub each_alone : List ℕ → ℕ → Bool
each_alone ws s = held_pass (word_alone ws s) ws s

-- a slot by the third way asks for each page by its lock, one by the first for all by ξ
abbrev pub alone_in : List ℕ → ℕ → Bool
alone_in ws s = cond (third_kind (cell ws kind_row s)) (each_alone ws s) (apart_in ws s xi_row)

-- slot s holds under ξ or α
abbrev pub excludes : List ℕ → ℕ → Bool
excludes ws s = excludes_kind (cell ws kind_row s)

-- then no other slot holds its pages under a lock that clashes
abbrev pub stands_alone : List ℕ → ℕ → Bool
stands_alone ws s = not (excludes ws s) || alone_in ws s
