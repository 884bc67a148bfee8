-- Regrading on the bench: what it writes and answers, which pages it holds, who waits for whom, and what a search hears meanwhile.
-- A second program answers the same (`rust/twin`, whose tests read this table, its calls and its answers).
use Rattle.std.specs.Prelude.{List, [], ◌∷◌, ◌++◌}
use Rattle.slots.specs.declared.Op.TheVariants.{Search, Insert, Delete, Next, Regrade}
use Rattle.slots.specs.declared.Way.TheVariants.{First}
use Rattle.slots.specs.declared.Lock.TheVariants.{None, Rho, Xi}
use Rattle.slots.specs.declared.Answer.TheVariants.{Waiting, Moved, Found, NotFound, Inserted, AlreadyThere, Deleted, NoSuchKey, Begun, Reported, Damaged, Next as NextLot, Regraded}
use Rattle.slots.specs.Heard.{heard}
use Rattle.runs.specs.Run.{begin, step, report, Told}
use Rattle.promises.specs.Bench.{Row, row, runs, two, pool, going_on, case_e, pages}
use Rattle.promises.specs.MoreRows.{tall, damaged, answers}
use Rattle.promises.specs.NextRows.{tens}

-- case E with 20 regraded to 8
abbrev pub downgraded : Told
downgraded = going_on case_e (runs 0 (Regrade 20 8 First) 2)

abbrev pub regrade_rows : List Row
regrade_rows =
    -- In E, on a full leaf and with no page free, regrade 20: two grants, and one word is another.
    row (answers case_e (runs 0 (Regrade 20 8 First) 2) ++ pages downgraded)
    (heard Begun ∷ heard Moved ∷ heard (Regraded 7)
    ∷ (2 ∷ 1 ∷ 1 ∷ 20 ∷ 2 ∷ 0 ∷ 0 ∷ []) ∷ (1 ∷ 1 ∷ 10 ∷ 7 ∷ 0 ∷ 0 ∷ 0 ∷ []) ∷ (1 ∷ 2 ∷ 20 ∷ 8 ∷ 30 ∷ 7 ∷ 0 ∷ []) ∷ [])
    -- Then everybody is told the new information: a search, an insertion, a Next, another regrading, a deletion.
    ∷ row (answers downgraded (runs 0 (Search 20) 2 ++ runs 0 (Insert 20 7 First) 2 ++ runs 0 (Next 15) 3))
    (heard Begun ∷ heard Moved ∷ heard (Found 8) ∷ heard Begun ∷ heard Moved ∷ heard (AlreadyThere 8)
    ∷ heard Begun ∷ heard Moved ∷ heard Moved ∷ heard (NextLot 20 8) ∷ [])
    ∷ row (answers downgraded (runs 0 (Regrade 20 9 First) 2 ++ runs 0 (Delete 20 First) 2))
    (heard Begun ∷ heard Moved ∷ heard (Regraded 8) ∷ heard Begun ∷ heard Moved ∷ heard (Deleted 9) ∷ [])
    -- On a leaf with no key to spare; on a root leaf.
    ∷ row (answers case_e (runs 0 (Regrade 10 8 First) 2) ++ pages (going_on case_e (runs 0 (Regrade 10 8 First) 2)))
    (heard Begun ∷ heard Moved ∷ heard (Regraded 7)
    ∷ (2 ∷ 1 ∷ 1 ∷ 20 ∷ 2 ∷ 0 ∷ 0 ∷ []) ∷ (1 ∷ 1 ∷ 10 ∷ 8 ∷ 0 ∷ 0 ∷ 0 ∷ []) ∷ (1 ∷ 2 ∷ 20 ∷ 7 ∷ 30 ∷ 7 ∷ 0 ∷ []) ∷ [])
    ∷ row (answers (pool 1 two) (runs 0 (Regrade 10 5 First) 1) ++ (going_on (pool 1 two) (runs 0 (Regrade 10 5 First) 1)).words ∷ [])
    (heard Begun ∷ heard (Regraded 7) ∷ (1 ∷ 2 ∷ 10 ∷ 5 ∷ 20 ∷ 7 ∷ 0 ∷ []) ∷ [])
    -- A key that is not there, and one in an empty pool: nothing changes.
    ∷ row (answers case_e (runs 0 (Regrade 25 8 First) 2) ++ pages (going_on case_e (runs 0 (Regrade 25 8 First) 2)))
    (heard Begun ∷ heard Moved ∷ heard NoSuchKey ∷ pages case_e)
    ∷ row (answers (pool 1 []) (runs 0 (Regrade 5 8 First) 1)) (heard Begun ∷ heard NoSuchKey ∷ [])
    -- The same information again is answered as any other.
    ∷ row (answers case_e (runs 0 (Regrade 20 7 First) 2) ++ pages (going_on case_e (runs 0 (Regrade 20 7 First) 2)))
    (heard Begun ∷ heard Moved ∷ heard (Regraded 7) ∷ pages case_e)
    -- It holds one page, with a ξ-lock, on its way down three levels.
    ∷ row (answers tall (runs 3 (Regrade 5 8 First) 1 ++ report 0 ∷ step 3 ∷ report 0 ∷ report 6 ∷ step 3 ∷ report 6 ∷ report 4 ∷ []))
    (heard Begun ∷ heard Moved ∷ heard (Reported Xi 1 3) ∷ heard Moved ∷ heard (Reported None 0 16) ∷ heard (Reported Xi 1 3) ∷ heard (Regraded 7)
    ∷ heard (Reported None 0 16) ∷ heard (Reported None 0 16) ∷ [])
    -- It waits behind a regrading, and a search behind both: one is told what the other put there.
    ∷ row (answers (pool 1 two) (begin 0 (Regrade 10 8 First) ∷ begin 1 (Regrade 10 9 First) ∷ begin 2 (Search 10) ∷ step 2 ∷ step 1 ∷ step 0 ∷ step 2 ∷ step 1 ∷ step 2 ∷ []))
    (heard Begun ∷ heard Begun ∷ heard Begun ∷ heard Waiting ∷ heard Waiting ∷ heard (Regraded 7) ∷ heard Waiting ∷ heard (Regraded 8) ∷ heard (Found 9) ∷ [])
    -- "During a downgrade the lot is for a moment nowhere": by deletion and insertion a search in between hears NotFound; beside a
    -- regrading one search hears the old information and one the new.
    ∷ row (answers case_e (runs 0 (Delete 20 First) 2 ++ runs 1 (Search 20) 2 ++ runs 0 (Insert 20 8 First) 2))
    (heard Begun ∷ heard Moved ∷ heard (Deleted 7) ∷ heard Begun ∷ heard Moved ∷ heard NotFound ∷ heard Begun ∷ heard Moved ∷ heard Inserted ∷ [])
    ∷ row (answers case_e (runs 1 (Search 20) 1 ++ runs 0 (Regrade 20 8 First) 1 ++ step 1 ∷ step 0 ∷ runs 1 (Search 20) 1 ++ step 0 ∷ step 1 ∷ step 1 ∷ []))
    (heard Begun ∷ heard Moved ∷ heard Begun ∷ heard Waiting ∷ heard (Found 7) ∷ heard Moved ∷ heard Begun ∷ heard Waiting ∷ heard (Regraded 7)
    ∷ heard Moved ∷ heard (Found 8) ∷ [])
    -- A Next that rests on the leaf, with the page above it, for its second way: a regrading of a lot in this leaf waits for it, where it
    -- comes to the pages held. On two levels that is page 0, on three page 5.
    ∷ row (answers case_e (runs 1 (Next 15) 2 ++ runs 0 (Regrade 10 8 First) 1 ++ report 1 ∷ step 1 ∷ step 0 ∷ step 0 ∷ []))
    (heard Begun ∷ heard Moved ∷ heard Moved ∷ heard Begun ∷ heard Waiting ∷ heard (Reported Rho 1 1) ∷ heard (NextLot 20 7) ∷ heard Moved ∷ heard (Regraded 7) ∷ [])
    ∷ row (answers tens (runs 1 (Next 15) 3 ++ runs 0 (Regrade 10 8 First) 2 ++ report 0 ∷ report 5 ∷ report 1 ∷ step 1 ∷ step 0 ∷ step 0 ∷ []))
    (heard Begun ∷ heard Moved ∷ heard Moved ∷ heard Moved ∷ heard Begun ∷ heard Moved ∷ heard Waiting
    ∷ heard (Reported Xi 1 0) ∷ heard (Reported Rho 1 1) ∷ heard (Reported Rho 1 1) ∷ heard (NextLot 20 7) ∷ heard Moved ∷ heard (Regraded 7) ∷ [])
    -- A leaf that is not sound: Damaged, and the lock is not taken.
    ∷ row (answers (damaged (going_on case_e (runs 0 (Regrade 20 8 First) 1)) 14 2) (step 0 ∷ report 2 ∷ [])) (heard Damaged ∷ heard (Reported None 0 16) ∷ [])
    ∷ []
