-- Lots on the bench that document 01 does not mark to be proved, and the shortcuts that lose a lot: what the rules say
-- where a shortcut would say something else. Then who waits behind whom, and one row for each refusal.
use Rattle.std.specs.Prelude.{ℕ, ◌*◌, List, [], ◌∷◌, ◌++◌, set, replicate, take}
use Rattle.page.specs.Words.{size}
use Rattle.slots.specs.declared.Op.TheVariants.{Search, Insert, Delete, Next}
use Rattle.slots.specs.declared.Way.TheVariants.{First}
use Rattle.slots.specs.declared.Lock.TheVariants.{None, Rho, Xi}
use Rattle.slots.specs.declared.Answer.TheVariants.{Waiting, Moved, Found, NotFound, Inserted, Deleted, NoSuchKey, Begun, Made, Reported, BadState, BadPool, BadSlot, SlotBusy, SlotIdle, Damaged, BadPage, None as NoLot}
use Rattle.slots.specs.Heard.{heard}
use Rattle.slots.specs.Parts.{idle_state}
use Rattle.index.specs.Step.{Left}
use Rattle.index.specs.Make.{made}
use Rattle.runs.specs.Run.{Call, begin, step, report, Told, ran, run}
use Rattle.promises.specs.Bench.{Row, row, runs, puts, pool, heard_in, going_on, case_e, delete10, delete20, pages}

-- a making with k and n, in words of the right number
abbrev pub making : ℕ → ℕ → Left
making k n = made k n (replicate (n * size k) 9)

-- Keys 1 to 5 inserted one after the other, k = 1, 7 pages: three levels. Page 0 leads to pages 5 and 6, page 5 to the
-- leaves 1 and 2, page 6 to the leaves 3 and 4.
abbrev pub tall : Told
tall = pool 7 (puts 1 ++ puts 2 ++ puts 3 ++ runs 0 (Insert 4 7 First) 2 ++ runs 0 (Insert 5 7 First) 2)

-- the words of a run with the word at place i changed
abbrev pub damaged : Told → ℕ → ℕ → Told
damaged t i w = ran [] t.state (set t.words i w)

-- the words of a run cut short, or with one word more
abbrev pub short : Told → Told
short t = ran [] t.state (take 20 t.words)

abbrev pub long : Told → Told
long t = ran [] t.state (t.words ++ 0 ∷ [])

-- the answers of some calls after a run
abbrev pub answers : Told → List Call → List (List ℕ)
answers t cs = heard_in (going_on t cs)

abbrev pub more : List Row
more =
    -- "J: in E, slot 0 begins search 10 and is granted page 0; slot 1 begins delete 20 and is stepped: Waiting. Slot 0
    -- steps: Found 7. Slot 1 steps: Moved."
    row (answers case_e (runs 0 (Search 10) 1 ++ runs 1 (Delete 20 First) 1 ++ step 0 ∷ step 1 ∷ []))
    (heard Begun ∷ heard Moved ∷ heard Begun ∷ heard Waiting ∷ heard (Found 7) ∷ heard Moved ∷ [])
    -- "K: two searches begun in slots 0 and 1; step 1:" as 02 (iii) has it, "NotFound in an empty pool".
    ∷ row (answers (pool 1 []) (begin 0 (Search 5) ∷ begin 1 (Search 5) ∷ step 1 ∷ [])) (heard Begun ∷ heard Begun ∷ heard NotFound ∷ [])
    -- "L: slot 15 accepted, 16 BadSlot; k 16 accepted, 0 and 17 BadPool; 1,024 pages accepted, 1,025 BadPool."
    ∷ row (answers (pool 1 []) (begin 15 (Search 5) ∷ begin 16 (Search 5) ∷ [])) (heard Begun ∷ heard BadSlot ∷ [])
    ∷ row (heard (making 16 1).answer ∷ heard (making 0 1).answer ∷ heard (making 17 1).answer ∷ [])
    (heard Made ∷ heard BadPool ∷ heard BadPool ∷ [])
    ∷ row (heard (making 1 1024).answer ∷ heard (making 1 1025).answer ∷ heard (making 1 0).answer ∷ [])
    (heard Made ∷ heard BadPool ∷ heard BadPool ∷ [])
    -- "Giving up the father before the child is granted: in E, after one grant of a search in slot 0, the report for page 0
    -- is ρ, 1, 0; the shortcut gives none, 0, 16." (For page 1, which nobody holds, it is none, 0, 16.)
    ∷ row (answers case_e (runs 0 (Search 20) 1 ++ report 0 ∷ report 1 ∷ []))
    (heard Begun ∷ heard Moved ∷ heard (Reported Rho 1 0) ∷ heard (Reported None 0 16) ∷ [])
    -- "Sending an equal key left, as 004 does: F fails." Row F of the bench.
    -- "Testing μ < 2k on a deletion: the father is given up though it must change."
    ∷ row (answers case_e (runs 3 (Delete 10 First) 2 ++ report 0 ∷ report 1 ∷ report 2 ∷ []))
    (heard Begun ∷ heard Moved ∷ heard Moved ∷ heard (Reported Xi 1 3) ∷ heard (Reported Xi 1 3) ∷ heard (Reported None 0 16) ∷ [])
    -- "Taking words from a sibling without its lock: a search resting there holds a page that no longer leads where it
    -- wants to go": slot 0's search rests on page 6, slot 1's deletion wants page 6 as sibling and waits.
    ∷ row (answers tall (runs 0 (Search 5) 2 ++ runs 1 (Delete 1 First) 5 ++ report 6 ∷ step 0 ∷ step 1 ∷ []))
    (heard Begun ∷ heard Moved ∷ heard Moved ∷ heard Begun ∷ heard Moved ∷ heard Moved ∷ heard Moved ∷ heard Moved ∷ heard Waiting
    ∷ heard (Reported Rho 1 0) ∷ heard (Found 7) ∷ heard (Deleted 7) ∷ [])
    ∷ row (pages (going_on tall (runs 1 (Delete 1 First) 5)))
    ((2 ∷ 2 ∷ 1 ∷ 3 ∷ 3 ∷ 4 ∷ 4 ∷ []) ∷ (1 ∷ 1 ∷ 2 ∷ 7 ∷ 0 ∷ 0 ∷ 0 ∷ []) ∷ (0 ∷ 0 ∷ 0 ∷ 0 ∷ 0 ∷ 0 ∷ 0 ∷ []) ∷ [])
    -- "Freeing a page without zeroing it, or never taking it again": pages 1 and 2, freed in H, are taken again.
    ∷ row (pages (going_on (going_on (going_on case_e delete10) delete20) (puts 10 ++ puts 20)))
    ((2 ∷ 1 ∷ 1 ∷ 20 ∷ 2 ∷ 0 ∷ 0 ∷ []) ∷ (1 ∷ 1 ∷ 10 ∷ 7 ∷ 0 ∷ 0 ∷ 0 ∷ []) ∷ (1 ∷ 2 ∷ 20 ∷ 7 ∷ 30 ∷ 7 ∷ 0 ∷ []) ∷ [])
    -- 02 (iii): "a want waits only for held locks and older wants that clash with it." A search behind an insertion, and an insertion
    -- behind a search; a deletion behind a Next; an insertion behind a deletion.
    ∷ row (answers (pool 1 []) (begin 0 (Insert 5 7 First) ∷ begin 1 (Search 5) ∷ step 1 ∷ step 0 ∷ step 1 ∷ []))
    (heard Begun ∷ heard Begun ∷ heard Waiting ∷ heard Inserted ∷ heard (Found 7) ∷ [])
    ∷ row (answers (pool 1 []) (begin 0 (Search 5) ∷ begin 1 (Insert 5 7 First) ∷ step 1 ∷ step 0 ∷ step 1 ∷ []))
    (heard Begun ∷ heard Begun ∷ heard Waiting ∷ heard NotFound ∷ heard Inserted ∷ [])
    ∷ row (answers (pool 1 []) (begin 0 (Next 5) ∷ begin 1 (Delete 5 First) ∷ step 1 ∷ step 0 ∷ step 1 ∷ []))
    (heard Begun ∷ heard Begun ∷ heard Waiting ∷ heard NoLot ∷ heard NoSuchKey ∷ [])
    ∷ row (answers (pool 1 []) (begin 0 (Delete 5 First) ∷ begin 1 (Insert 5 7 First) ∷ step 1 ∷ step 0 ∷ step 1 ∷ []))
    (heard Begun ∷ heard Begun ∷ heard Waiting ∷ heard NoSuchKey ∷ heard Inserted ∷ [])
    -- Behind a search and a Next an insertion waits for both, and a search behind it for the insertion: nobody passes an update.
    ∷ row (answers (pool 1 []) (begin 0 (Search 5) ∷ begin 1 (Next 5) ∷ begin 2 (Insert 5 7 First) ∷ begin 3 (Search 5) ∷ step 3 ∷ step 2 ∷ step 1 ∷ step 2 ∷ step 0 ∷ step 3 ∷ step 2 ∷ step 3 ∷ []))
    (heard Begun ∷ heard Begun ∷ heard Begun ∷ heard Begun ∷ heard Waiting ∷ heard Waiting ∷ heard NoLot ∷ heard Waiting ∷ heard NotFound ∷ heard Waiting ∷ heard Inserted ∷ heard (Found 7) ∷ [])
    -- The older of two wants for a leaf is a search's, and the younger search has its answer first.
    ∷ row (answers case_e (runs 0 (Search 20) 1 ++ runs 1 (Search 30) 2 ++ step 0 ∷ []))
    (heard Begun ∷ heard Moved ∷ heard Begun ∷ heard Moved ∷ heard (Found 7) ∷ heard (Found 7) ∷ [])
    -- 1, BadState: the empty state, for every call
    ∷ row (heard_in (run (begin 0 (Search 5) ∷ step 0 ∷ report 0 ∷ []) (idle_state 0 0) [])) (heard BadState ∷ heard BadState ∷ heard BadState ∷ [])
    -- 2, BadPool: a word too few, a word too many
    ∷ row (answers (short case_e) (step 0 ∷ []) ++ answers (long case_e) (step 0 ∷ [])) (heard BadPool ∷ heard BadPool ∷ [])
    -- 3, BadSlot: begin and step
    ∷ row (answers case_e (begin 16 (Search 5) ∷ step 16 ∷ [])) (heard BadSlot ∷ heard BadSlot ∷ [])
    -- 4, SlotBusy; 5, SlotIdle
    ∷ row (answers case_e (begin 2 (Search 5) ∷ begin 2 (Search 5) ∷ step 3 ∷ [])) (heard Begun ∷ heard SlotBusy ∷ heard SlotIdle ∷ [])
    -- 6, Damaged: page 2's level is 2, and then its keys do not rise; the lock is not taken and the slot stays open
    ∷ row (answers (damaged (going_on case_e (runs 0 (Search 20) 1)) 14 2) (step 0 ∷ report 2 ∷ report 0 ∷ step 0 ∷ []))
    (heard Damaged ∷ heard (Reported None 0 16) ∷ heard (Reported Rho 1 0) ∷ heard Damaged ∷ [])
    ∷ row (answers (damaged (going_on case_e (runs 0 (Search 20) 1)) 16 30) (step 0 ∷ [])) (heard Damaged ∷ [])
    -- 7, BadPage
    ∷ row (answers case_e (report 2 ∷ report 3 ∷ [])) (heard (Reported None 0 16) ∷ heard BadPage ∷ [])
    ∷ []
