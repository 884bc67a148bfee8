-- The blank tag on the bench, 02 (viii): which beginnings are refused, that a Next of 0 is not, and what a key 0 in a page does. k = 1.
-- A second program answers the same (`rust/twin`, whose tests read this table, its calls and its answers).
use Rattle.std.specs.Prelude.{ℕ, List, [], ◌∷◌, ◌++◌}
use Rattle.slots.specs.declared.Op.{Op}
use Rattle.slots.specs.declared.Op.TheVariants.{Search, Insert, Delete, Next, Regrade}
use Rattle.slots.specs.declared.Way.TheVariants.{First, Second, Third}
use Rattle.slots.specs.declared.Lock.TheVariants.{None, Rho}
use Rattle.slots.specs.declared.Answer.TheVariants.{Moved, Found, NotFound, Inserted, NoSuchKey, Begun, Reported, BadState, BadSlot, SlotBusy, SlotIdle, Damaged, Opened, BadPageInPool, BadTree, BadKey, Next as NextLot, None as NoLot}
use Rattle.slots.specs.Parts.{idle_state}
use Rattle.slots.specs.Heard.{heard}
use Rattle.runs.specs.Run.{begin, step, report, Told, ran, run}
use Rattle.promises.specs.Bench.{Row, row, runs, pool, going_on, heard_in, two, case_e}
use Rattle.promises.specs.MoreRows.{damaged, short, answers}
use Rattle.promises.specs.NextRows.{slot_open}
use Rattle.promises.specs.WideRows.{did}
use Rattle.promises.specs.OpenRows.{handed, from, bare, over, ten, pair, five}

-- a leaf with the key 0, alone and before another
abbrev pub blank_leaf : List ℕ
blank_leaf = 1 ∷ 1 ∷ 0 ∷ 7 ∷ 0 ∷ 0 ∷ 0 ∷ []

abbrev pub blank_first : List ℕ
blank_first = 1 ∷ 2 ∷ 0 ∷ 7 ∷ 5 ∷ 7 ∷ 0 ∷ []

-- page 0 with a reference key 0
abbrev pub over_blank : List ℕ
over_blank = 2 ∷ 1 ∷ 1 ∷ 0 ∷ 2 ∷ 0 ∷ 0 ∷ []

-- in E slot 0 begins this and steps once; then leaf 1 gets the key 0 in place of 10, and slot 0 steps again
abbrev pub meets : Op → List (List ℕ)
meets op = answers (damaged (going_on case_e (runs 0 op 1)) 9 0) (step 0 ∷ [])

-- one page, an empty leaf; a state that no beginning leaves: slot 0 is open with this and wants page 0
abbrev pub asking : Op → Told
asking op = ran [] (slot_open 1 op 0 [] []) bare

abbrev pub blank_rows : List Row
blank_rows =
    -- ---- 8, BadKey: "key 0 for every operation but that of (i)", by each way
    row (answers case_e (begin 0 (Search 0) ∷ begin 0 (Insert 0 7 First) ∷ begin 0 (Delete 0 First) ∷ begin 0 (Regrade 0 7 First) ∷ []))
    (heard BadKey ∷ heard BadKey ∷ heard BadKey ∷ heard BadKey ∷ [])
    ∷ row (answers case_e (begin 0 (Insert 0 7 Second) ∷ begin 0 (Delete 0 Second) ∷ begin 0 (Regrade 0 7 Second) ∷ []))
    (heard BadKey ∷ heard BadKey ∷ heard BadKey ∷ [])
    ∷ row (answers case_e (begin 0 (Insert 0 7 Third) ∷ begin 0 (Delete 0 Third) ∷ begin 0 (Regrade 0 7 Third) ∷ []))
    (heard BadKey ∷ heard BadKey ∷ heard BadKey ∷ [])
    -- "A refused call leaves pages, locks and waiting order exactly as found.": the slot is closed, page 0 is nobody's, and an insertion after it waits for nobody
    ∷ row (did case_e (begin 0 (Insert 0 7 First) ∷ step 0 ∷ report 0 ∷ []))
    (heard BadKey ∷ heard SlotIdle ∷ heard (Reported None 0 16) ∷ (over ++ ten ++ pair) ∷ [])
    ∷ row (answers case_e (begin 0 (Search 0) ∷ begin 1 (Insert 10 7 First) ∷ step 1 ∷ begin 0 (Search 20) ∷ []))
    (heard BadKey ∷ heard Begun ∷ heard Moved ∷ heard Begun ∷ [])
    -- an information 0 is no key 0, and the lowest lot is 1
    ∷ row (answers (from 1 bare) (runs 0 (Insert 1 0 First) 1 ++ runs 0 (Search 1) 1)) (heard Begun ∷ heard Inserted ∷ heard Begun ∷ heard (Found 0) ∷ [])
    -- "but that of (i)": the Next of 0 is the first lot, in E and behind the insertion of 1; in an empty pool there is none
    ∷ row (answers case_e (runs 0 (Next 0) 2)) (heard Begun ∷ heard Moved ∷ heard (NextLot 10 7) ∷ [])
    ∷ row (answers (from 1 bare) (runs 0 (Insert 1 7 First) 1 ++ runs 0 (Next 0) 1)) (heard Begun ∷ heard Inserted ∷ heard Begun ∷ heard (NextLot 1 7) ∷ [])
    ∷ row (answers (from 1 bare) (runs 0 (Next 0) 1)) (heard Begun ∷ heard NoLot ∷ [])
    -- ---- "after SlotBusy": 1, 3 and 4 come before it. A Next of 0 hears them too.
    ∷ row (heard_in (run (begin 0 (Search 0) ∷ begin 0 (Next 0) ∷ []) (idle_state 0 0) [])) (heard BadState ∷ heard BadState ∷ [])
    ∷ row (answers case_e (begin 16 (Search 0) ∷ begin 16 (Next 0) ∷ [])) (heard BadSlot ∷ heard BadSlot ∷ [])
    ∷ row (answers case_e (begin 2 (Search 5) ∷ begin 2 (Search 0) ∷ begin 2 (Next 0) ∷ begin 2 (Insert 0 7 Second) ∷ []))
    (heard Begun ∷ heard SlotBusy ∷ heard SlotBusy ∷ heard SlotBusy ∷ [])
    -- a beginning is not handed the pool: a word too few is not seen
    ∷ row (answers (short case_e) (begin 0 (Search 0) ∷ [])) (heard BadKey ∷ [])
    -- ---- "so does Damaged": a leaf with key 0, under each operation and way
    ∷ row (meets (Search 10) ++ meets (Next 10)) (heard Damaged ∷ heard Damaged ∷ [])
    ∷ row (meets (Insert 5 7 First) ++ meets (Delete 10 First) ++ meets (Regrade 10 8 First)) (heard Damaged ∷ heard Damaged ∷ heard Damaged ∷ [])
    ∷ row (meets (Insert 5 7 Second) ++ meets (Delete 10 Second) ++ meets (Regrade 10 8 Second)) (heard Damaged ∷ heard Damaged ∷ heard Damaged ∷ [])
    ∷ row (meets (Insert 5 7 Third) ++ meets (Delete 10 Third) ++ meets (Regrade 10 8 Third)) (heard Damaged ∷ heard Damaged ∷ heard Damaged ∷ [])
    -- the lock is not taken and the slot stays open
    ∷ row (answers (damaged (going_on case_e (runs 0 (Search 10) 1)) 9 0) (step 0 ∷ report 1 ∷ report 0 ∷ step 0 ∷ []))
    (heard Damaged ∷ heard (Reported None 0 16) ∷ heard (Reported Rho 1 0) ∷ heard Damaged ∷ [])
    -- page 0 as a leaf; who does not meet the leaf goes on
    ∷ row (answers (damaged (pool 1 two) 2 0) (runs 0 (Search 20) 1)) (heard Begun ∷ heard Damaged ∷ [])
    ∷ row (answers (damaged case_e 9 0) (runs 0 (Search 20) 2)) (heard Begun ∷ heard Moved ∷ heard (Found 7) ∷ [])
    -- only leaves are named: a page with a reference key 0 is sound by itself, and leads 10 to page 2
    ∷ row (answers (damaged case_e 3 0) (runs 0 (Search 20) 2 ++ runs 0 (Search 10) 2))
    (heard Begun ∷ heard Moved ∷ heard (Found 7) ∷ heard Begun ∷ heard Moved ∷ heard NotFound ∷ [])
    -- ---- "The check of (vii) treats a leaf with key 0 as a page that is not sound": alone, first of two, as page 0, and behind a page that is worse
    ∷ row (handed 1 3 (over ++ blank_leaf ++ pair) ∷ handed 1 3 (over ++ blank_first ++ pair) ∷ [])
    (heard (BadPageInPool 1) ∷ heard (BadPageInPool 1) ∷ [])
    ∷ row (handed 1 1 blank_leaf ∷ handed 1 3 (over ++ bare ++ blank_leaf) ∷ handed 1 3 (over ++ blank_leaf ++ bare) ∷ [])
    (heard (BadPageInPool 0) ∷ heard (BadPageInPool 1) ∷ heard (BadPageInPool 1) ∷ [])
    -- the words stay as given, and the state is the empty one
    ∷ row ((from 3 (over ++ blank_leaf ++ pair)).words ∷ answers (from 3 (over ++ blank_leaf ++ pair)) (begin 0 (Search 5) ∷ []))
    ((over ++ blank_leaf ++ pair) ∷ heard BadState ∷ [])
    -- a leaf with key 1 or with information 0 is accepted
    ∷ row (handed 1 1 (1 ∷ 1 ∷ 1 ∷ 7 ∷ 0 ∷ 0 ∷ 0 ∷ []) ∷ handed 1 1 (1 ∷ 1 ∷ 5 ∷ 0 ∷ 0 ∷ 0 ∷ 0 ∷ []) ∷ []) (heard Opened ∷ heard Opened ∷ [])
    -- a reference key 0 is no page's fault: no key is below it, so what stands before it is in the wrong place
    ∷ row (handed 1 3 (over_blank ++ five ++ pair) ∷ []) (heard BadTree ∷ [])
    -- ---- a state that somebody hands in with a key 0: 02 names begin, not the state. It is looked for, and inserted; the leaf is not sound then.
    ∷ row (answers (asking (Search 0)) (step 0 ∷ []) ++ answers (asking (Delete 0 First)) (step 0 ∷ [])) (heard NotFound ∷ heard NoSuchKey ∷ [])
    ∷ row (did (asking (Insert 0 7 First)) (step 0 ∷ runs 0 (Search 5) 1)) (heard Inserted ∷ heard Begun ∷ heard Damaged ∷ blank_leaf ∷ [])
    ∷ []
