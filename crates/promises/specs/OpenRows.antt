-- Opening on the bench, 02 (vii): which words are accepted, what each refusal names, and how a run goes on from an accepted pool. k = 1 unless said.
-- A second program answers the same (`rust/twin`, whose tests read this table, its calls and its answers).
use Rattle.std.specs.Prelude.{ℕ, List, [], ◌∷◌, ◌++◌}
use Rattle.slots.specs.declared.Op.TheVariants.{Search, Insert, Delete}
use Rattle.slots.specs.declared.Way.TheVariants.{First}
use Rattle.slots.specs.declared.Lock.TheVariants.{None}
use Rattle.slots.specs.declared.Answer.TheVariants.{Moved, Found, NotFound, Inserted, Deleted, Begun, Reported, BadState, BadPool, SlotIdle, Opened, BadPageInPool, BadTree}
use Rattle.slots.specs.Heard.{heard}
use Rattle.index.specs.Open.{opened}
use Rattle.runs.specs.Run.{begin, step, report, Told, ran}
use Rattle.promises.specs.Bench.{Row, row, runs, pool, going_on, case_e}
use Rattle.promises.specs.MoreRows.{answers}
use Rattle.promises.specs.NextRows.{tens_words}
use Rattle.promises.specs.WideRows.{did}

-- what is heard when these words are opened with k and N
abbrev pub handed : ℕ → ℕ → List ℕ → List ℕ
handed k n ws = heard (opened k n ws).answer

-- the state and the words that it leaves, k = 1
abbrev pub from : ℕ → List ℕ → Told
from n ws = ran [] (opened 1 n ws).state (opened 1 n ws).words

-- ---- pages

abbrev pub blank : List ℕ
blank = 0 ∷ 0 ∷ 0 ∷ 0 ∷ 0 ∷ 0 ∷ 0 ∷ []

-- a leaf without a key, as page 0 may be
abbrev pub bare : List ℕ
bare = 1 ∷ 0 ∷ 0 ∷ 0 ∷ 0 ∷ 0 ∷ 0 ∷ []

-- case E's page 0, over pages 1 and 2, and its leaves
abbrev pub over : List ℕ
over = 2 ∷ 1 ∷ 1 ∷ 20 ∷ 2 ∷ 0 ∷ 0 ∷ []

abbrev pub ten : List ℕ
ten = 1 ∷ 1 ∷ 10 ∷ 7 ∷ 0 ∷ 0 ∷ 0 ∷ []

abbrev pub pair : List ℕ
pair = 1 ∷ 2 ∷ 20 ∷ 7 ∷ 30 ∷ 7 ∷ 0 ∷ []

-- the other leaves that stand in a row below
abbrev pub five : List ℕ
five = 1 ∷ 1 ∷ 5 ∷ 7 ∷ 0 ∷ 0 ∷ 0 ∷ []

abbrev pub nineteen : List ℕ
nineteen = 1 ∷ 1 ∷ 19 ∷ 7 ∷ 0 ∷ 0 ∷ 0 ∷ []

abbrev pub twenty : List ℕ
twenty = 1 ∷ 1 ∷ 20 ∷ 7 ∷ 0 ∷ 0 ∷ 0 ∷ []

abbrev pub thirty : List ℕ
thirty = 1 ∷ 1 ∷ 30 ∷ 7 ∷ 0 ∷ 0 ∷ 0 ∷ []

abbrev pub fifty : List ℕ
fifty = 1 ∷ 2 ∷ 40 ∷ 7 ∷ 50 ∷ 7 ∷ 0 ∷ []

-- the upper pages of the words of three levels: page 0 over pages 5 and 6, page 5 over the leaves 1 and 2, page 6 over the leaves 3 and 4
abbrev pub peak : List ℕ
peak = 3 ∷ 1 ∷ 5 ∷ 30 ∷ 6 ∷ 0 ∷ 0 ∷ []

abbrev pub west : List ℕ
west = 2 ∷ 1 ∷ 1 ∷ 20 ∷ 2 ∷ 0 ∷ 0 ∷ []

abbrev pub east : List ℕ
east = 2 ∷ 1 ∷ 3 ∷ 40 ∷ 4 ∷ 0 ∷ 0 ∷ []

-- nine pages' zeros
abbrev pub zeros : List ℕ
zeros = blank ++ blank ++ blank ++ blank ++ blank ++ blank ++ blank ++ blank ++ blank

abbrev pub open_rows : List Row
open_rows =
    -- ---- accepted
    -- E's words: "Acceptance gives a state with all slots closed.", and the words are as given
    row (handed 1 3 (over ++ ten ++ pair) ∷ handed 1 3 case_e.words ∷ (from 3 (over ++ ten ++ pair)).words ∷ [])
    (heard Opened ∷ heard Opened ∷ (over ++ ten ++ pair) ∷ [])
    ∷ row (answers (from 3 (over ++ ten ++ pair)) (step 0 ∷ step 15 ∷ report 0 ∷ report 2 ∷ []))
    (heard SlotIdle ∷ heard SlotIdle ∷ heard (Reported None 0 16) ∷ heard (Reported None 0 16) ∷ [])
    -- the run goes on from there: a search, an insertion that splits a leaf, a deletion
    ∷ row (did (from 3 (over ++ ten ++ pair)) (runs 0 (Search 20) 2))
    (heard Begun ∷ heard Moved ∷ heard (Found 7) ∷ (over ++ ten ++ pair) ∷ [])
    ∷ row (did (from 4 (over ++ ten ++ pair ++ blank)) (runs 0 (Insert 25 7 First) 2))
    (heard Begun ∷ heard Moved ∷ heard Inserted
    ∷ (2 ∷ 2 ∷ 1 ∷ 20 ∷ 2 ∷ 25 ∷ 3 ∷ ten ++ twenty ++ 1 ∷ 2 ∷ 25 ∷ 7 ∷ 30 ∷ 7 ∷ 0 ∷ []) ∷ [])
    ∷ row (did (from 3 (over ++ ten ++ pair)) (runs 0 (Delete 20 First) 2))
    (heard Begun ∷ heard Moved ∷ heard (Deleted 7) ∷ (over ++ ten ++ thirty) ∷ [])
    -- "Deleting the first key of a leaf changes no reference key by itself.": what that deletion left is opened in its turn
    ∷ row (handed 1 3 (over ++ ten ++ thirty) ∷ answers (from 3 (over ++ ten ++ thirty)) (runs 0 (Search 20) 2))
    (heard Opened ∷ heard Begun ∷ heard Moved ∷ heard NotFound ∷ [])
    -- what is left while an operation is open
    ∷ row (handed 1 3 (going_on case_e (runs 0 (Delete 10 First) 2)).words ∷ []) (heard Opened ∷ [])
    -- a fresh pool, and an empty leaf for page 0 in one page
    ∷ row (handed 1 3 (pool 3 []).words ∷ handed 1 3 (bare ++ blank ++ blank) ∷ handed 1 1 bare ∷ [])
    (heard Opened ∷ heard Opened ∷ heard Opened ∷ [])
    ∷ row (answers (from 1 bare) (runs 0 (Insert 5 7 First) 1 ++ runs 0 (Search 5) 1)) (heard Begun ∷ heard Inserted ∷ heard Begun ∷ heard (Found 7) ∷ [])
    -- the first key of a range, and the last; the highest key and information that there are
    ∷ row (handed 1 3 (over ++ nineteen ++ twenty) ∷ handed 1 1 (1 ∷ 1 ∷ 4294967295 ∷ 4294967295 ∷ 0 ∷ 0 ∷ 0 ∷ []) ∷ []) (heard Opened ∷ heard Opened ∷ [])
    -- pages in any order; three levels
    ∷ row (handed 1 3 (2 ∷ 1 ∷ 2 ∷ 20 ∷ 1 ∷ 0 ∷ 0 ∷ pair ++ ten) ∷ handed 1 4 (2 ∷ 1 ∷ 1 ∷ 20 ∷ 3 ∷ 0 ∷ 0 ∷ ten ++ blank ++ pair) ∷ handed 1 7 tens_words ∷ [])
    (heard Opened ∷ heard Opened ∷ heard Opened ∷ [])
    -- ---- 2, BadPool
    -- k 0 and 17, each with as many words as it would have; 16 is accepted; no page
    ∷ row (handed 0 1 (1 ∷ 0 ∷ 0 ∷ []) ∷ handed 17 1 (1 ∷ zeros ++ blank) ∷ handed 16 1 (1 ∷ 0 ∷ 0 ∷ 0 ∷ zeros) ∷ handed 1 0 [] ∷ [])
    (heard BadPool ∷ heard BadPool ∷ heard Opened ∷ heard BadPool ∷ [])
    -- a page too many, a page too few, a word too many, no word
    ∷ row (handed 1 4 (over ++ ten ++ pair) ∷ handed 1 2 (over ++ ten ++ pair) ∷ handed 1 3 (over ++ ten ++ pair ++ 0 ∷ []) ∷ handed 1 1 [] ∷ [])
    (heard BadPool ∷ heard BadPool ∷ heard BadPool ∷ heard BadPool ∷ [])
    -- before 9: page 0 is all zeros, and a page is missing
    ∷ row (handed 1 2 blank ∷ []) (heard BadPool ∷ [])
    -- ---- 9, BadPageInPool: "the lowest-numbered page that is not sound by itself"
    -- page 0 all zeros; a free page with one word, the first or the last
    ∷ row (handed 1 3 (blank ++ ten ++ pair) ∷ []) (heard (BadPageInPool 0) ∷ [])
    ∷ row (handed 1 4 (over ++ ten ++ pair ++ 0 ∷ 0 ∷ 0 ∷ 0 ∷ 0 ∷ 0 ∷ 5 ∷ []) ∷ handed 1 4 (over ++ ten ++ pair ++ 5 ∷ 0 ∷ 0 ∷ 0 ∷ 0 ∷ 0 ∷ 0 ∷ []) ∷ [])
    (heard (BadPageInPool 3) ∷ heard (BadPageInPool 3) ∷ [])
    -- level: page 1 on level 3, where 10 would be a pointer; page 0 on level 11
    ∷ row (handed 1 3 (over ++ 3 ∷ 1 ∷ 10 ∷ 7 ∷ 0 ∷ 0 ∷ 0 ∷ pair) ∷ []) (heard (BadPageInPool 1) ∷ [])
    ∷ row (handed 1 3 (11 ∷ 1 ∷ 1 ∷ 20 ∷ 2 ∷ 0 ∷ 0 ∷ ten ++ pair) ∷ []) (heard (BadPageInPool 0) ∷ [])
    -- μ: none in page 1, three in page 2; none in page 0, which is no leaf
    ∷ row (handed 1 3 (over ++ bare ++ pair) ∷ handed 1 3 (over ++ ten ++ 1 ∷ 3 ∷ 20 ∷ 7 ∷ 30 ∷ 7 ∷ 0 ∷ []) ∷ handed 1 3 (2 ∷ 0 ∷ 1 ∷ 0 ∷ 0 ∷ 0 ∷ 0 ∷ ten ++ blank) ∷ [])
    (heard (BadPageInPool 1) ∷ heard (BadPageInPool 2) ∷ heard (BadPageInPool 0) ∷ [])
    -- keys that do not rise
    ∷ row (handed 1 3 (over ++ ten ++ 1 ∷ 2 ∷ 30 ∷ 7 ∷ 20 ∷ 7 ∷ 0 ∷ []) ∷ handed 1 3 (over ++ ten ++ 1 ∷ 2 ∷ 30 ∷ 7 ∷ 30 ∷ 7 ∷ 0 ∷ []) ∷ [])
    (heard (BadPageInPool 2) ∷ heard (BadPageInPool 2) ∷ [])
    -- pointers: page 0, a page N, the same page twice
    ∷ row (handed 1 3 (2 ∷ 1 ∷ 0 ∷ 20 ∷ 2 ∷ 0 ∷ 0 ∷ ten ++ pair) ∷ handed 1 3 (2 ∷ 1 ∷ 1 ∷ 20 ∷ 3 ∷ 0 ∷ 0 ∷ ten ++ pair) ∷ handed 1 3 (2 ∷ 1 ∷ 2 ∷ 20 ∷ 2 ∷ 0 ∷ 0 ∷ blank ++ pair) ∷ [])
    (heard (BadPageInPool 0) ∷ heard (BadPageInPool 0) ∷ heard (BadPageInPool 0) ∷ [])
    -- unused words: behind a leaf's pairs, and behind an upper page's
    ∷ row (handed 1 3 (over ++ 1 ∷ 1 ∷ 10 ∷ 7 ∷ 0 ∷ 0 ∷ 1 ∷ pair) ∷ handed 1 3 (2 ∷ 1 ∷ 1 ∷ 20 ∷ 2 ∷ 1 ∷ 0 ∷ ten ++ pair) ∷ [])
    (heard (BadPageInPool 1) ∷ heard (BadPageInPool 0) ∷ [])
    -- two bad pages, and three: the lowest is named; before 10: where a sound page is in the wrong place too
    ∷ row (handed 1 3 (over ++ bare ++ bare) ∷ handed 1 3 (blank ++ bare ++ bare) ∷ handed 1 4 (over ++ twenty ++ pair ++ bare) ∷ [])
    (heard (BadPageInPool 1) ∷ heard (BadPageInPool 0) ∷ heard (BadPageInPool 3) ∷ [])
    -- k = 2: page 0 with one key over two leaves of two is accepted; a leaf of one is not sound
    ∷ row (handed 2 3 (2 ∷ 1 ∷ 1 ∷ 30 ∷ 2 ∷ 0 ∷ 0 ∷ 0 ∷ 0 ∷ 0 ∷ 0 ∷ 1 ∷ 2 ∷ 10 ∷ 7 ∷ 20 ∷ 7 ∷ 0 ∷ 0 ∷ 0 ∷ 0 ∷ 0 ∷ 1 ∷ 2 ∷ 30 ∷ 7 ∷ 40 ∷ 7 ∷ 0 ∷ 0 ∷ 0 ∷ 0 ∷ 0 ∷ [])
    ∷ handed 2 3 (2 ∷ 1 ∷ 1 ∷ 30 ∷ 2 ∷ 0 ∷ 0 ∷ 0 ∷ 0 ∷ 0 ∷ 0 ∷ 1 ∷ 2 ∷ 10 ∷ 7 ∷ 20 ∷ 7 ∷ 0 ∷ 0 ∷ 0 ∷ 0 ∷ 0 ∷ 1 ∷ 1 ∷ 30 ∷ 7 ∷ 0 ∷ 0 ∷ 0 ∷ 0 ∷ 0 ∷ 0 ∷ 0 ∷ []) ∷ [])
    (heard Opened ∷ heard (BadPageInPool 2) ∷ [])
    -- ---- 10, BadTree: every page is sound by itself
    -- a leaf under a page of level 3; a page of level 2 under one of level 2; a page that points to itself
    ∷ row (handed 1 3 (3 ∷ 1 ∷ 1 ∷ 20 ∷ 2 ∷ 0 ∷ 0 ∷ ten ++ pair) ∷ handed 1 5 (over ++ 2 ∷ 1 ∷ 3 ∷ 10 ∷ 4 ∷ 0 ∷ 0 ∷ pair ++ five ++ ten) ∷ [])
    (heard BadTree ∷ heard BadTree ∷ [])
    ∷ row (handed 1 3 (3 ∷ 1 ∷ 1 ∷ 20 ∷ 2 ∷ 0 ∷ 0 ∷ 2 ∷ 1 ∷ 1 ∷ 10 ∷ 2 ∷ 0 ∷ 0 ∷ pair) ∷ []) (heard BadTree ∷ [])
    -- a key out of its range: 20 before the reference key 20, 30 before it, 19 behind it
    ∷ row (handed 1 3 (over ++ twenty ++ pair) ∷ handed 1 3 (over ++ thirty ++ pair) ∷ handed 1 3 (over ++ ten ++ nineteen) ∷ [])
    (heard BadTree ∷ heard BadTree ∷ heard BadTree ∷ [])
    -- on three levels: a leaf's key beyond what stands above its father, behind it and before it; a reference key beyond that
    ∷ row (handed 1 7 (peak ++ ten ++ thirty ++ thirty ++ fifty ++ west ++ east) ∷ handed 1 7 (peak ++ ten ++ twenty ++ twenty ++ fifty ++ west ++ east) ∷ [])
    (heard BadTree ∷ heard BadTree ∷ [])
    ∷ row (handed 1 7 (peak ++ ten ++ twenty ++ thirty ++ fifty ++ 2 ∷ 1 ∷ 1 ∷ 30 ∷ 2 ∷ 0 ∷ 0 ∷ east) ∷ handed 1 7 (peak ++ ten ++ twenty ++ thirty ++ fifty ++ west ++ 2 ∷ 1 ∷ 3 ∷ 30 ∷ 4 ∷ 0 ∷ 0 ∷ []) ∷ [])
    (heard BadTree ∷ heard BadTree ∷ [])
    -- "no page hangs in two places": leaf 2 under both pages of level 2, which leaves leaf 3 out, or leaves it all zeros
    ∷ row (handed 1 7 (peak ++ ten ++ twenty ++ thirty ++ fifty ++ west ++ 2 ∷ 1 ∷ 2 ∷ 40 ∷ 4 ∷ 0 ∷ 0 ∷ []) ∷ handed 1 7 (peak ++ ten ++ twenty ++ blank ++ fifty ++ west ++ 2 ∷ 1 ∷ 2 ∷ 40 ∷ 4 ∷ 0 ∷ 0 ∷ []) ∷ [])
    (heard BadTree ∷ heard BadTree ∷ [])
    -- a pointer to a free page; a sound page that is not reached from page 0
    ∷ row (handed 1 3 (over ++ ten ++ blank) ∷ handed 1 4 (over ++ ten ++ pair ++ fifty) ∷ handed 1 2 (bare ++ ten) ∷ [])
    (heard BadTree ∷ heard BadTree ∷ heard BadTree ∷ [])
    -- ---- "A refusal leaves the words as given, returns the empty state"
    ∷ row ((from 3 (over ++ twenty ++ pair)).words ∷ (from 3 (over ++ bare ++ pair)).words ∷ (from 4 (over ++ ten ++ pair)).words ∷ [])
    ((over ++ twenty ++ pair) ∷ (over ++ bare ++ pair) ∷ (over ++ ten ++ pair) ∷ [])
    ∷ row (answers (from 3 (over ++ twenty ++ pair)) (begin 0 (Search 5) ∷ step 0 ∷ report 0 ∷ []) ++ answers (from 3 (over ++ bare ++ pair)) (begin 0 (Search 5) ∷ []) ++ answers (from 4 (over ++ ten ++ pair)) (begin 0 (Search 5) ∷ []))
    (heard BadState ∷ heard BadState ∷ heard BadState ∷ heard BadState ∷ heard BadState ∷ [])
    ∷ []
