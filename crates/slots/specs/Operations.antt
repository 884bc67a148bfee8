-- What is listed by operation, in one table. A new operation is a row of `row_of` and a place in `operations`.
-- (How many pages it may hold stands in Sound.)
use Rattle.std.specs.Prelude.{ℕ, Bool, true, false, cond, not, ◌&&◌, ◌||◌, List, [], ◌∷◌, eqb, Option, Some, None}
use Rattle.ground.specs.Limits.{blank_key}
use Rattle.slots.specs.declared.Way.{Way}
use Rattle.slots.specs.declared.Way.TheVariants.{First, Second, Third}
use Rattle.slots.specs.declared.Lock.{Lock}
use Rattle.slots.specs.declared.Lock.TheVariants.{Rho, Xi, UpdaterRho, Alpha}
use Rattle.slots.specs.declared.Op.{Op}
use Rattle.slots.specs.declared.Op.TheVariants.{Search, Insert, Delete, Next, Regrade}

pub record Row : Type 0 where
  -- the number that stands for the operation in the words of a state and in a call of the library; 0 stands for none
  pub kind : ℕ
  pub key : ℕ
  -- 0 where it has none
  pub information : ℕ
  -- it only reads; the others update
  pub reads : Bool
  -- it may hold pages beside its path: a deletion's siblings, the second way of a Next. The others go straight down.
  pub beside : Bool
  -- the kind of lock with which it goes down
  pub lock : Lock

abbrev pub row : ℕ → ℕ → ℕ → Bool → Bool → Lock → Row
row kind key information reads beside lock = record { kind = kind; key = key; information = information; reads = reads; beside = beside; lock = lock }

-- what goes by the way of an update
abbrev pub by_way : {A : Type 0} → Way → A → A → A → A
by_way First first second third = first
by_way Second first second third = second
by_way Third first second third = third

-- kind, key, information, reads, beside, lock.
-- "Searches use ρ-locks, insertions and deletions ξ-locks." Next: "It uses ρ-locks". Regrading: "It takes ξ-locks". 02 (v), the second way:
-- "ρ-locks down, a ξ-lock wanted on the leaf"; 02 (vi): "The ρ of (v) becomes a kind of its own, updater's ρ." There a deletion takes no siblings.
-- 02 (vi), the third way: "updaters go down with α-locks".
abbrev pub row_of : Op → Row
row_of (Search x) = row 1 x 0 true false Rho
row_of (Insert x v way) = row (by_way way 2 6 9) x v false false (by_way way Xi UpdaterRho Alpha)
row_of (Delete x way) = row (by_way way 3 7 10) x 0 false (by_way way true false true) (by_way way Xi UpdaterRho Alpha)
row_of (Next x) = row 4 x 0 true true Rho
row_of (Regrade x v way) = row (by_way way 5 8 11) x v false false (by_way way Xi UpdaterRho Alpha)

-- all operations with this key and information, in the order of their kinds
abbrev pub operations : ℕ → ℕ → List Op
operations key information =
    Search key
    ∷ Insert key information First
    ∷ Delete key First
    ∷ Next key
    ∷ Regrade key information First
    ∷ Insert key information Second
    ∷ Delete key Second
    ∷ Regrade key information Second
    ∷ Insert key information Third
    ∷ Delete key Third
    ∷ Regrade key information Third
    ∷ []

abbrev pub highest_kind : ℕ
highest_kind = 11

-- ---- the columns

abbrev pub kind_number : Op → ℕ
kind_number op = (row_of op).kind

-- the key of an operation
abbrev pub key_of : Op → ℕ
key_of op = (row_of op).key

abbrev pub information_of : Op → ℕ
information_of op = (row_of op).information

-- the operations that only read
abbrev pub only_reads : Op → Bool
only_reads op = (row_of op).reads

-- the operations that may hold pages beside their path
abbrev pub goes_beside : Op → Bool
goes_beside op = (row_of op).beside

-- the kind of lock with which an operation goes down: under it it holds its pages, until it converts them
abbrev pub held_lock : Op → Lock
held_lock op = (row_of op).lock

-- a deletion by the first or the third way: these alone take siblings
abbrev pub is_delete : Op → Bool
is_delete op = eqb (kind_number op) (kind_number (Delete 0 First)) || eqb (kind_number op) (kind_number (Delete 0 Third))

abbrev pub is_next : Op → Bool
is_next op = eqb (kind_number op) (kind_number (Next 0))

-- 02 (viii): "Begin shall refuse key 0 for every operation but that of (i)", which is Next
unfoldable pub blank_tag : Op → Bool
blank_tag op = not (is_next op) && eqb (key_of op) blank_key

-- ---- ways

-- the way of an update; who only reads has none
abbrev pub way_of : Op → Option Way
way_of (Search x) = None
way_of (Insert x v way) = Some way
way_of (Delete x way) = Some way
way_of (Next x) = None
way_of (Regrade x v way) = Some way

-- it goes down by the second way
abbrev pub is_second : Op → Bool
is_second (Search x) = false
is_second (Insert x v way) = by_way way false true false
is_second (Delete x way) = by_way way false true false
is_second (Next x) = false
is_second (Regrade x v way) = by_way way false true false

-- it goes down by the third way
abbrev pub is_third : Op → Bool
is_third (Search x) = false
is_third (Insert x v way) = by_way way false false true
is_third (Delete x way) = by_way way false false true
is_third (Next x) = false
is_third (Regrade x v way) = by_way way false false true

-- the same operation by the first way
abbrev pub first_way : Op → Op
first_way (Search x) = Search x
first_way (Insert x v way) = Insert x v First
first_way (Delete x way) = Delete x First
first_way (Next x) = Next x
first_way (Regrade x v way) = Regrade x v First

-- ---- an operation as numbers

-- the operation of this kind, if there is one
abbrev pub of_kind : ℕ → List Op → Option Op
of_kind kind [] = None
of_kind kind (op ∷ ops) = cond (eqb kind (kind_number op)) (Some op) (of_kind kind ops)

-- kind, key and information: "closed, or open with an operation enum carrying key and information". Who has no information
-- does not look at it.
abbrev pub asked_by : ℕ → ℕ → ℕ → Option Op
asked_by kind key information = of_kind kind (operations key information)
