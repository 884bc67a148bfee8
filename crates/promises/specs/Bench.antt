-- Lots on the bench: the cases A to I that document 01 marks to be proved of the rules, as one table.
-- A row has what the rules give and what 01 says, each as lists of numbers: answers as they are heard, and words.
use Rattle.std.specs.Prelude.{ℕ, zero, suc, ◌≡◌, List, [], ◌∷◌, ◌++◌, map, length, replicate}
use Rattle.pool.specs.Pool.{pool_length, words_of, page_at, free_pages}
use Rattle.change.specs.Insertion.{room}
use Rattle.slots.specs.declared.Op.{Op}
use Rattle.slots.specs.declared.Op.TheVariants.{Search, Insert, Delete}
use Rattle.slots.specs.declared.Way.TheVariants.{First}
use Rattle.slots.specs.declared.Answer.TheVariants.{Moved, Found, NotFound, AlreadyThere, Deleted, NoRoom, Begun}
use Rattle.slots.specs.Heard.{heard}
use Rattle.slots.specs.Parts.{want_at}
use Rattle.runs.specs.Run.{Call, begin, step, Told, run, fresh_start, run_from}

pub record Row : Type 0 where
  pub given : List (List ℕ)
  pub said : List (List ℕ)

abbrev pub row : List (List ℕ) → List (List ℕ) → Row
row g s = record { given = g; said = s }

-- the one claim: in every row the rules give what is said
abbrev pub RowsHold : List Row → Type 0
RowsHold [] = Unit {0}
RowsHold (r ∷ rows) = (r.given ≡ r.said) × RowsHold rows

-- an operation begun in slot s and stepped n times
abbrev pub steps : ℕ → ℕ → List Call
steps s zero = []
steps s (suc n) = step s ∷ steps s n

abbrev pub runs : ℕ → Op → ℕ → List Call
runs s op n = begin s op ∷ steps s n

-- "information 7 throughout"
abbrev pub puts : ℕ → List Call
puts x = runs 0 (Insert x 7 First) 1

-- 10 and 20 inserted, then 30
abbrev pub two : List Call
two = puts 10 ++ puts 20

abbrev pub three : List Call
three = two ++ puts 30

-- a run from a fresh pool, made in words that were all 9
abbrev pub run_fresh : ℕ → ℕ → List Call → Told
run_fresh k n cs = run_from (fresh_start k n (replicate (pool_length k n) 9)) cs

-- k = 1: the run of some calls from a fresh pool of n pages; the run of more calls from there
abbrev pub pool : ℕ → List Call → Told
pool n cs = run_fresh 1 n cs

-- what is heard in a run, call by call
abbrev pub heard_in : Told → List (List ℕ)
heard_in t = map heard t.answers

abbrev pub going_on : Told → List Call → Told
going_on t cs = run cs t.state t.words

-- case E and the deletions that follow it
abbrev pub case_e : Told
case_e = pool 3 three

abbrev pub delete10 : List Call
delete10 = runs 0 (Delete 10 First) 3

abbrev pub delete20 : List Call
delete20 = runs 0 (Delete 20 First) 3

-- the words of pages 0, 1 and 2
abbrev pub pages : Told → List (List ℕ)
pages t = words_of 1 0 t.words ∷ words_of 1 1 t.words ∷ words_of 1 2 t.words ∷ []

-- how many pages an insertion into the root leaf needs, and how many of n pages are free
abbrev pub needed : Told → ℕ
needed t = room 1 (page_at 1 t.words) 0 (0 ∷ [])

abbrev pub free : ℕ → Told → ℕ
free n t = length (free_pages 1 n t.words)

-- A to I, in 01's order. "k = 1 unless said; information 7 throughout."
abbrev pub bench : List Row
bench =
    -- "A: fresh, N = 1: words 1,0,0,0,0,0,0."
    row ((pool 1 []).words ∷ []) ((1 ∷ 0 ∷ 0 ∷ 0 ∷ 0 ∷ 0 ∷ 0 ∷ []) ∷ [])
    -- "B: search 5 in A: NotFound in one grant."
    ∷ row (heard_in (pool 1 (runs 0 (Search 5) 1))) (heard Begun ∷ heard NotFound ∷ [])
    -- "C: insert 10, 20: page 0 is 1,2,10,7,20,7,0."
    ∷ row ((pool 1 two).words ∷ []) ((1 ∷ 2 ∷ 10 ∷ 7 ∷ 20 ∷ 7 ∷ 0 ∷ []) ∷ [])
    -- "D: then 30, N = 2: NoRoom (needs 2, free 1)."
    ∷ row
    ((needed (pool 2 two) ∷ free 2 (pool 2 two) ∷ []) ∷ (going_on (pool 2 two) (puts 30)).words ∷ heard_in (going_on (pool 2 two) (puts 30)))
    ((2 ∷ 1 ∷ []) ∷ (pool 2 two).words ∷ heard Begun ∷ heard NoRoom ∷ [])
    -- "E: then 30, N = 3: page 0 is 2,1,1,20,2,0,0; page 1 is 1,1,10,7,0,0,0; page 2 is 1,2,20,7,30,7,0."
    ∷ row (pages (pool 3 three))
    ((2 ∷ 1 ∷ 1 ∷ 20 ∷ 2 ∷ 0 ∷ 0 ∷ []) ∷ (1 ∷ 1 ∷ 10 ∷ 7 ∷ 0 ∷ 0 ∷ 0 ∷ []) ∷ (1 ∷ 2 ∷ 20 ∷ 7 ∷ 30 ∷ 7 ∷ 0 ∷ []) ∷ [])
    -- "F: in E, search 20: Found 7, by page 2, two grants."
    ∷ row
    ((want_at (going_on case_e (runs 0 (Search 20) 1)).state 0 ∷ []) ∷ heard_in (going_on case_e (runs 0 (Search 20) 2)))
    ((2 ∷ []) ∷ heard Begun ∷ heard Moved ∷ heard (Found 7) ∷ [])
    -- "G: in E, delete 10: three grants; page 0 is 2,1,1,30,2,0,0; page 1 holds 20, page 2 holds 30."
    ∷ row (heard_in (going_on case_e delete10) ++ pages (going_on case_e delete10))
    (heard Begun ∷ heard Moved ∷ heard Moved ∷ heard (Deleted 7)
    ∷ (2 ∷ 1 ∷ 1 ∷ 30 ∷ 2 ∷ 0 ∷ 0 ∷ []) ∷ (1 ∷ 1 ∷ 20 ∷ 7 ∷ 0 ∷ 0 ∷ 0 ∷ []) ∷ (1 ∷ 1 ∷ 30 ∷ 7 ∷ 0 ∷ 0 ∷ 0 ∷ []) ∷ [])
    -- "H: in G, delete 20: page 0 is 1,1,30,7,0,0,0; pages 1 and 2 all zero."
    ∷ row (heard_in (going_on (going_on case_e delete10) delete20) ++ pages (going_on (going_on case_e delete10) delete20))
    (heard Begun ∷ heard Moved ∷ heard Moved ∷ heard (Deleted 7)
    ∷ (1 ∷ 1 ∷ 30 ∷ 7 ∷ 0 ∷ 0 ∷ 0 ∷ []) ∷ (0 ∷ 0 ∷ 0 ∷ 0 ∷ 0 ∷ 0 ∷ 0 ∷ []) ∷ (0 ∷ 0 ∷ 0 ∷ 0 ∷ 0 ∷ 0 ∷ 0 ∷ []) ∷ [])
    -- "I: in E, insert 20: AlreadyThere, words unchanged." 02 (iv): "Case I becomes AlreadyThere 7."
    ∷ row (heard_in (going_on case_e (runs 0 (Insert 20 7 First) 2)) ++ pages (going_on case_e (runs 0 (Insert 20 7 First) 2)))
    (heard Begun ∷ heard Moved ∷ heard (AlreadyThere 7) ∷ pages case_e)
    ∷ []
