-- Updates by the second way on the bench, k = 1: what they answer and write, which pages they hold, when they begin again, and who waits
-- for whom. Then what a sound state asks of them, and what the pages must be for a step. A second program answers the same (`rust/twin`,
-- whose tests read this table, its calls and its answers).
use Rattle.std.specs.Prelude.{ℕ, List, [], ◌∷◌, ◌++◌, map, set}
use Rattle.slots.specs.declared.Op.{Op}
use Rattle.slots.specs.declared.Op.TheVariants.{Search, Insert, Delete, Next, Regrade}
use Rattle.slots.specs.declared.Way.TheVariants.{First, Second}
use Rattle.slots.specs.declared.Lock.{Lock}
use Rattle.slots.specs.declared.Lock.TheVariants.{None, Rho, Xi, UpdaterRho, Alpha}
use Rattle.slots.specs.declared.Answer.TheVariants.{Reported, Regraded}
use Rattle.slots.specs.Heard.{heard}
use Rattle.slots.specs.Parts.{held_lock, under, open_slot, idle_state}
use Rattle.runs.specs.Run.{begin, step, report, Told, ran}
use Rattle.promises.specs.Bench.{Row, row, runs, puts, two, three, pool, going_on, case_e, delete10}
use Rattle.promises.specs.MoreRows.{damaged, answers}
use Rattle.promises.specs.LongRun.{began, onward, waits, found, entered, there, deleted, missing, no_page}
use Rattle.promises.specs.NextRows.{next, no_holder, reader, changer, damaged_step, bad_state, tens_words, tens, watched, slot_holding, slot_wanting, with_page}
use Rattle.promises.specs.WideRows.{did}
use Rattle.promises.specs.DamageRows.{once}

-- What is heard of a regrading, and of a page that slot 0 is to change, or that slot 1 reads. Then of a page that slot 0 holds with updater's ρ,
-- slot 1 does, or slots 0 and 1 do, one of them at least with updater's ρ.
abbrev pub regraded : List ℕ
regraded = heard (Regraded 7)

abbrev pub own_changer : List ℕ
own_changer = heard (Reported Xi 1 0)

abbrev pub other_reader : List ℕ
other_reader = heard (Reported Rho 1 1)

abbrev pub updater : List ℕ
updater = heard (Reported UpdaterRho 1 0)

abbrev pub other_updater : List ℕ
other_updater = heard (Reported UpdaterRho 1 1)

abbrev pub with_updater : List ℕ
with_updater = heard (Reported UpdaterRho 2 0)

-- case E with one page free, and the same once 25 is inserted: page 2 is split
abbrev pub roomy_e : Told
roomy_e = pool 4 three

abbrev pub split_by25 : List ℕ
split_by25 =
    2 ∷ 2 ∷ 1 ∷ 20 ∷ 2 ∷ 25 ∷ 3 ∷
    1 ∷ 1 ∷ 10 ∷ 7 ∷ 0 ∷ 0 ∷ 0 ∷
    1 ∷ 1 ∷ 20 ∷ 7 ∷ 0 ∷ 0 ∷ 0 ∷
    1 ∷ 2 ∷ 25 ∷ 7 ∷ 30 ∷ 7 ∷ 0 ∷ []

-- once 5 is inserted into page 1, and then 6, which splits it
abbrev pub split_by6 : List ℕ
split_by6 =
    2 ∷ 2 ∷ 1 ∷ 6 ∷ 3 ∷ 20 ∷ 2 ∷
    1 ∷ 1 ∷ 5 ∷ 7 ∷ 0 ∷ 0 ∷ 0 ∷
    1 ∷ 2 ∷ 20 ∷ 7 ∷ 30 ∷ 7 ∷ 0 ∷
    1 ∷ 2 ∷ 6 ∷ 7 ∷ 10 ∷ 7 ∷ 0 ∷ []

-- the three levels once 10 is deleted: two leaves join, then the two pages above them, and page 0 is lowered
abbrev pub joined : List ℕ
joined =
    2 ∷ 2 ∷ 1 ∷ 30 ∷ 3 ∷ 40 ∷ 4 ∷
    1 ∷ 1 ∷ 20 ∷ 7 ∷ 0 ∷ 0 ∷ 0 ∷
    0 ∷ 0 ∷ 0 ∷ 0 ∷ 0 ∷ 0 ∷ 0 ∷
    1 ∷ 1 ∷ 30 ∷ 7 ∷ 0 ∷ 0 ∷ 0 ∷
    1 ∷ 2 ∷ 40 ∷ 7 ∷ 50 ∷ 7 ∷ 0 ∷
    0 ∷ 0 ∷ 0 ∷ 0 ∷ 0 ∷ 0 ∷ 0 ∷
    0 ∷ 0 ∷ 0 ∷ 0 ∷ 0 ∷ 0 ∷ 0 ∷ []

-- every page of the three levels
abbrev pub seven_pages : List ℕ
seven_pages = 0 ∷ 1 ∷ 2 ∷ 3 ∷ 4 ∷ 5 ∷ 6 ∷ []

-- the three levels, where slot 0 has this operation, wants this page with this kind of lock, and holds this path and what stands beside it
abbrev pub standing : Op → ℕ → Lock → List ℕ → List ℕ → Told
standing op want lock path beside = ran [] (slot_wanting 7 op want lock path beside) tens_words

-- what a report for page 5 says there
abbrev pub judged : Op → ℕ → Lock → List ℕ → List ℕ → List (List ℕ)
judged op want lock path beside = answers (standing op want lock path beside) (report 5 ∷ [])

-- what it says where slots 0 and 1 have these operations: both hold page 5, slot 0 wants page 1 and slot 1 page 2, all with the kinds of their
-- operations
abbrev pub together : Op → Op → List (List ℕ)
together a b =
    answers
    (ran []
    (record { k = 1; n = 7; slots = set (set (idle_state 1 7).slots 0 (slot_holding a 1 (held_lock a) (5 ∷ []) [])) 1 (slot_holding b 2 (held_lock b) (5 ∷ []) []); order = set (idle_state 1 7).order 1 1; waiting = 2 })
    tens_words)
    (report 5 ∷ [])

-- a look at page 5 where slot 0 has this operation, wants page 6 with the kind of its operation, and holds these pages under these kinds of lock, on its
-- path and beside it
abbrev pub carried : Op → List ℕ → List Lock → List ℕ → List Lock → List (List ℕ)
carried op path locks beside sidelocks =
    answers
    (ran []
    (record { k = 1; n = 7; slots = set (idle_state 1 7).slots 0 (open_slot op 6 (held_lock op) path (map under locks) beside (map under sidelocks)); order = (idle_state 1 7).order; waiting = 1 })
    tens_words)
    (report 5 ∷ [])

-- where it holds page 5 alone
abbrev pub carried_one : Op → Lock → List (List ℕ)
carried_one op lock = carried op (5 ∷ []) (lock ∷ []) [] []

-- in E: two grants, or it begins again
abbrev pub second_in_e : List Row
second_in_e =
    -- "a safe leaf is changed": page 1 has room for 5, and for 15. Page 0 is held with updater's ρ until then.
    row (did case_e (begin 0 (Insert 5 7 Second) ∷ watched 2 (0 ∷ 1 ∷ 2 ∷ [])))
    (began
    ∷ onward ∷ updater ∷ no_holder ∷ no_holder
    ∷ entered ∷ no_holder ∷ no_holder ∷ no_holder
    ∷ (with_page case_e 1 (1 ∷ 2 ∷ 5 ∷ 7 ∷ 10 ∷ 7 ∷ 0 ∷ [])).words
    ∷ [])
    ∷ row (did case_e (runs 0 (Insert 15 7 Second) 2))
    (began ∷ onward ∷ entered ∷ (with_page case_e 1 (1 ∷ 2 ∷ 10 ∷ 7 ∷ 15 ∷ 7 ∷ 0 ∷ [])).words ∷ [])
    -- Page 2 has an entry to spare, so that 20 is deleted, though page 0's reference key is 20.
    ∷ row (did case_e (begin 0 (Delete 20 Second) ∷ watched 2 (0 ∷ 1 ∷ 2 ∷ [])))
    (began
    ∷ onward ∷ updater ∷ no_holder ∷ no_holder
    ∷ deleted ∷ no_holder ∷ no_holder ∷ no_holder
    ∷ (with_page case_e 2 (1 ∷ 1 ∷ 30 ∷ 7 ∷ 0 ∷ 0 ∷ 0 ∷ [])).words
    ∷ [])
    -- A regrading finds every leaf safe: a full one, and one with no entry to spare.
    ∷ row (did case_e (begin 0 (Regrade 20 8 Second) ∷ watched 2 (0 ∷ 1 ∷ 2 ∷ [])))
    (began
    ∷ onward ∷ updater ∷ no_holder ∷ no_holder
    ∷ regraded ∷ no_holder ∷ no_holder ∷ no_holder
    ∷ (with_page case_e 2 (1 ∷ 2 ∷ 20 ∷ 8 ∷ 30 ∷ 7 ∷ 0 ∷ [])).words
    ∷ [])
    ∷ row (did case_e (runs 0 (Regrade 10 8 Second) 2))
    (began ∷ onward ∷ regraded ∷ (with_page case_e 1 (1 ∷ 1 ∷ 10 ∷ 8 ∷ 0 ∷ 0 ∷ 0 ∷ [])).words ∷ [])
    -- "A key already there or missing is answered at once", also where the leaf is not safe: 20 and 30 in a full one, 10 in one with room;
    -- nothing to delete in a leaf with no entry to spare, then in the other; nothing to regrade.
    ∷ row (did case_e (runs 0 (Insert 20 9 Second) 2 ++ runs 0 (Insert 30 9 Second) 2 ++ runs 0 (Insert 10 9 Second) 2))
    (began ∷ onward ∷ there ∷ began ∷ onward ∷ there ∷ began ∷ onward ∷ there ∷ case_e.words ∷ [])
    ∷ row (did case_e (runs 0 (Delete 11 Second) 2 ++ runs 0 (Delete 99 Second) 2))
    (began ∷ onward ∷ missing ∷ began ∷ onward ∷ missing ∷ case_e.words ∷ [])
    ∷ row (did case_e (runs 0 (Regrade 11 8 Second) 2 ++ runs 0 (Regrade 25 8 Second) 2))
    (began ∷ onward ∷ missing ∷ began ∷ onward ∷ missing ∷ case_e.words ∷ [])
    -- "otherwise all locks are given up and the operation begins again by the first way": page 2 is full for 25. Nobody holds a page then, and
    -- page 0 comes again, with ξ. No page is free.
    ∷ row (did case_e (begin 0 (Insert 25 7 Second) ∷ watched 4 (0 ∷ 1 ∷ 2 ∷ [])))
    (began
    ∷ onward ∷ updater ∷ no_holder ∷ no_holder
    ∷ onward ∷ no_holder ∷ no_holder ∷ no_holder
    ∷ onward ∷ own_changer ∷ no_holder ∷ no_holder
    ∷ no_page ∷ no_holder ∷ no_holder ∷ no_holder
    ∷ case_e.words
    ∷ [])
    -- With a page free the leaf is split then. When it begins again no word has changed.
    ∷ row (did roomy_e (runs 0 (Insert 25 7 Second) 2) ++ did roomy_e (begin 0 (Insert 25 7 Second) ∷ watched 4 (0 ∷ 1 ∷ 2 ∷ 3 ∷ [])))
    (began ∷ onward ∷ onward ∷ roomy_e.words
    ∷ began
    ∷ onward ∷ updater ∷ no_holder ∷ no_holder ∷ no_holder
    ∷ onward ∷ no_holder ∷ no_holder ∷ no_holder ∷ no_holder
    ∷ onward ∷ own_changer ∷ no_holder ∷ no_holder ∷ no_holder
    ∷ entered ∷ no_holder ∷ no_holder ∷ no_holder ∷ no_holder
    ∷ split_by25
    ∷ [])
    -- A deletion of 10 would leave page 1 short: it begins again, and then come case G's three grants, and its words.
    ∷ row (did case_e (begin 0 (Delete 10 Second) ∷ watched 5 (0 ∷ 1 ∷ 2 ∷ [])))
    (began
    ∷ onward ∷ updater ∷ no_holder ∷ no_holder
    ∷ onward ∷ no_holder ∷ no_holder ∷ no_holder
    ∷ onward ∷ own_changer ∷ no_holder ∷ no_holder
    ∷ onward ∷ own_changer ∷ own_changer ∷ no_holder
    ∷ deleted ∷ no_holder ∷ no_holder ∷ no_holder
    ∷ (going_on case_e delete10).words
    ∷ [])
    ∷ []

-- "If page 0 is a leaf, it begins again in any case": whatever the key, and one grant more ends it
abbrev pub second_at_the_root : List Row
second_at_the_root =
    -- A key that is there. In another such leaf the insertion would be answered at once, and the deletion and the regrading made.
    row (answers (pool 1 two) (begin 0 (Insert 10 9 Second) ∷ watched 2 (0 ∷ [])))
    (began ∷ onward ∷ no_holder ∷ there ∷ no_holder ∷ [])
    ∷ row (did (pool 1 two) (begin 0 (Delete 10 Second) ∷ watched 2 (0 ∷ [])))
    (began ∷ onward ∷ no_holder ∷ deleted ∷ no_holder ∷ (1 ∷ 1 ∷ 20 ∷ 7 ∷ 0 ∷ 0 ∷ 0 ∷ []) ∷ [])
    ∷ row (did (pool 1 two) (begin 0 (Regrade 10 8 Second) ∷ watched 2 (0 ∷ [])))
    (began ∷ onward ∷ no_holder ∷ regraded ∷ no_holder ∷ (1 ∷ 2 ∷ 10 ∷ 8 ∷ 20 ∷ 7 ∷ 0 ∷ []) ∷ [])
    -- A key that is missing. Page 0 is full: no page is free, and then two are, so that it is split. It has room; it is empty. In a full one
    -- there is nothing to delete, and nothing to regrade.
    ∷ row (did (pool 1 two) (runs 0 (Insert 30 7 Second) 2) ++ did (pool 3 two) (runs 0 (Insert 30 7 Second) 2))
    (began ∷ onward ∷ no_page ∷ (pool 1 two).words ∷ began ∷ onward ∷ entered ∷ case_e.words ∷ [])
    ∷ row (did (pool 1 (puts 10)) (runs 0 (Insert 20 7 Second) 2) ++ did (pool 1 []) (runs 0 (Insert 10 7 Second) 2))
    (began ∷ onward ∷ entered ∷ (pool 1 two).words ∷ began ∷ onward ∷ entered ∷ (pool 1 (puts 10)).words ∷ [])
    ∷ row (did (pool 1 two) (runs 0 (Delete 30 Second) 2 ++ runs 0 (Regrade 30 8 Second) 2))
    (began ∷ onward ∷ missing ∷ began ∷ onward ∷ missing ∷ (pool 1 two).words ∷ [])
    ∷ []

-- who waits for whom
abbrev pub second_waits : List Row
second_waits =
    -- An insertion by the second way and a search hold the top page together, whoever comes first; one by the first way waits for both. Of the
    -- two kinds on the page a report has updater's ρ, whoever is the lowest holder.
    row (answers roomy_e (runs 0 (Insert 5 7 Second) 1 ++ runs 1 (Search 20) 1 ++ report 0 ∷ runs 2 (Insert 25 7 First) 1 ++ step 1 ∷ step 2 ∷ step 0 ∷ step 2 ∷ step 2 ∷ []))
    (began ∷ onward ∷ began ∷ onward ∷ with_updater ∷ began ∷ waits ∷ found ∷ waits ∷ entered ∷ onward ∷ entered ∷ [])
    ∷ row (answers case_e (begin 0 (Search 20) ∷ begin 1 (Insert 5 7 Second) ∷ step 1 ∷ report 0 ∷ step 0 ∷ report 0 ∷ step 1 ∷ step 0 ∷ []))
    (began ∷ began ∷ onward ∷ other_updater ∷ onward ∷ with_updater ∷ entered ∷ found ∷ [])
    -- Case J by the second way: the deletion does not wait.
    ∷ row (answers case_e (runs 0 (Search 10) 1 ++ runs 1 (Delete 20 Second) 2 ++ step 0 ∷ []))
    (began ∷ onward ∷ began ∷ onward ∷ deleted ∷ found ∷ [])
    -- It waits itself for an update by the first way: for its older want of page 0, and for its lock there.
    ∷ row (answers roomy_e (begin 0 (Insert 25 7 First) ∷ runs 1 (Insert 5 7 Second) 1 ++ step 0 ∷ step 1 ∷ step 0 ∷ step 1 ∷ step 1 ∷ []))
    (began ∷ began ∷ waits ∷ onward ∷ waits ∷ entered ∷ onward ∷ entered ∷ [])
    -- A Next rests on page 1: an insertion comes to page 0 beside it and waits before page 1, until the Next has its answer.
    ∷ row (answers case_e (runs 0 (Next 15) 2 ++ runs 1 (Insert 5 7 Second) 1 ++ report 0 ∷ report 1 ∷ step 1 ∷ step 0 ∷ step 1 ∷ []))
    (began ∷ onward ∷ onward ∷ began ∷ onward ∷ with_updater ∷ reader ∷ waits ∷ next 20 ∷ entered ∷ [])
    -- A deletion stands before page 2, and the Next that would go there on its second way waits: the lot is gone then.
    ∷ row (answers case_e (runs 1 (Delete 20 Second) 1 ++ runs 0 (Next 15) 3 ++ step 1 ∷ step 0 ∷ []))
    (began ∷ onward ∷ began ∷ onward ∷ onward ∷ waits ∷ deleted ∷ next 30 ∷ [])
    -- A search stands before the leaf, and an insertion waits behind it; then an insertion stands there, and a search waits.
    ∷ row (answers case_e (runs 1 (Search 10) 1 ++ runs 0 (Insert 5 7 Second) 2 ++ step 1 ∷ step 0 ∷ []))
    (began ∷ onward ∷ began ∷ onward ∷ waits ∷ found ∷ entered ∷ [])
    ∷ row (answers case_e (runs 0 (Insert 5 7 Second) 1 ++ runs 1 (Search 5) 2 ++ step 0 ∷ step 1 ∷ []))
    (began ∷ onward ∷ began ∷ onward ∷ waits ∷ entered ∷ found ∷ [])
    -- Two updates on two leaves: nobody waits.
    ∷ row (answers case_e (runs 0 (Insert 5 7 Second) 1 ++ runs 1 (Delete 20 Second) 2 ++ step 0 ∷ []))
    (began ∷ onward ∷ began ∷ onward ∷ deleted ∷ entered ∷ [])
    -- Two insertions on one leaf: both hold page 0, the younger one waits before page 1, finds it full then, and begins again.
    ∷ row (did roomy_e (begin 0 (Insert 5 7 Second) ∷ begin 1 (Insert 6 7 Second) ∷ step 0 ∷ step 1 ∷ report 0 ∷ step 1 ∷ step 0 ∷ report 0 ∷ step 1 ∷ report 0 ∷ step 1 ∷ report 0 ∷ step 1 ∷ []))
    (began ∷ began ∷ onward ∷ onward ∷ with_updater ∷ waits ∷ entered ∷ other_updater ∷ onward ∷ no_holder ∷ onward ∷ changer ∷ entered ∷ split_by6 ∷ [])
    -- "the want of page 0 goes to the end of the order": a deletion begins again, and a search that came later goes before it; one that came
    -- after that waits behind it.
    ∷ row (answers case_e (runs 0 (Delete 10 Second) 1 ++ begin 1 (Search 20) ∷ step 0 ∷ begin 2 (Search 30) ∷ step 0 ∷ step 2 ∷ step 1 ∷ step 0 ∷ step 1 ∷ step 0 ∷ step 2 ∷ step 0 ∷ step 0 ∷ step 2 ∷ step 2 ∷ []))
    (began ∷ onward ∷ began ∷ onward ∷ began ∷ waits ∷ waits ∷ onward ∷ waits ∷ found ∷ onward ∷ waits ∷ onward ∷ deleted ∷ onward ∷ found ∷ [])
    -- An insertion by the first way that came later goes before it. After it page 1 has an entry to spare, and two grants are enough.
    ∷ row (answers case_e (runs 0 (Delete 10 Second) 1 ++ begin 1 (Insert 5 7 First) ∷ step 0 ∷ step 0 ∷ step 1 ∷ step 0 ∷ step 1 ∷ step 0 ∷ step 0 ∷ []))
    (began ∷ onward ∷ began ∷ onward ∷ waits ∷ onward ∷ waits ∷ entered ∷ onward ∷ deleted ∷ [])
    -- Two deletions of one key from a root leaf: both begin again, one after the other, and the second finds nothing.
    ∷ row (answers (pool 1 (puts 10)) (begin 0 (Delete 10 Second) ∷ begin 1 (Delete 10 Second) ∷ step 0 ∷ step 1 ∷ step 1 ∷ step 0 ∷ step 1 ∷ []))
    (began ∷ began ∷ onward ∷ onward ∷ waits ∷ deleted ∷ missing ∷ [])
    -- One that has begun again waits for the updater's ρ of another one on page 0.
    ∷ row (answers case_e (runs 0 (Insert 25 7 Second) 1 ++ runs 1 (Insert 5 7 Second) 1 ++ step 0 ∷ report 0 ∷ step 0 ∷ step 1 ∷ step 0 ∷ []))
    (began ∷ onward ∷ began ∷ onward ∷ onward ∷ other_updater ∷ waits ∷ entered ∷ onward ∷ [])
    ∷ []

-- three levels
abbrev pub second_over_three : List Row
second_over_three =
    -- An insertion, a deletion and a regrading: page by page, one is held at a time, with updater's ρ, and the leaf never.
    row (did tens (begin 0 (Insert 15 7 Second) ∷ watched 3 seven_pages))
    (began
    ∷ onward ∷ updater ∷ no_holder ∷ no_holder ∷ no_holder ∷ no_holder ∷ no_holder ∷ no_holder
    ∷ onward ∷ no_holder ∷ no_holder ∷ no_holder ∷ no_holder ∷ no_holder ∷ updater ∷ no_holder
    ∷ entered ∷ no_holder ∷ no_holder ∷ no_holder ∷ no_holder ∷ no_holder ∷ no_holder ∷ no_holder
    ∷ (with_page tens 1 (1 ∷ 2 ∷ 10 ∷ 7 ∷ 15 ∷ 7 ∷ 0 ∷ [])).words
    ∷ [])
    ∷ row (did tens (begin 0 (Delete 50 Second) ∷ watched 3 seven_pages))
    (began
    ∷ onward ∷ updater ∷ no_holder ∷ no_holder ∷ no_holder ∷ no_holder ∷ no_holder ∷ no_holder
    ∷ onward ∷ no_holder ∷ no_holder ∷ no_holder ∷ no_holder ∷ no_holder ∷ no_holder ∷ updater
    ∷ deleted ∷ no_holder ∷ no_holder ∷ no_holder ∷ no_holder ∷ no_holder ∷ no_holder ∷ no_holder
    ∷ (with_page tens 4 (1 ∷ 1 ∷ 40 ∷ 7 ∷ 0 ∷ 0 ∷ 0 ∷ [])).words
    ∷ [])
    ∷ row (did tens (begin 0 (Regrade 30 8 Second) ∷ watched 3 seven_pages))
    (began
    ∷ onward ∷ updater ∷ no_holder ∷ no_holder ∷ no_holder ∷ no_holder ∷ no_holder ∷ no_holder
    ∷ onward ∷ no_holder ∷ no_holder ∷ no_holder ∷ no_holder ∷ no_holder ∷ no_holder ∷ updater
    ∷ regraded ∷ no_holder ∷ no_holder ∷ no_holder ∷ no_holder ∷ no_holder ∷ no_holder ∷ no_holder
    ∷ (with_page tens 3 (1 ∷ 1 ∷ 30 ∷ 8 ∷ 0 ∷ 0 ∷ 0 ∷ [])).words
    ∷ [])
    -- A deletion that begins again, and then holds its path and siblings: 3 + 5 grants.
    ∷ row (did tens (begin 0 (Delete 10 Second) ∷ watched 8 seven_pages))
    (began
    ∷ onward ∷ updater ∷ no_holder ∷ no_holder ∷ no_holder ∷ no_holder ∷ no_holder ∷ no_holder
    ∷ onward ∷ no_holder ∷ no_holder ∷ no_holder ∷ no_holder ∷ no_holder ∷ updater ∷ no_holder
    ∷ onward ∷ no_holder ∷ no_holder ∷ no_holder ∷ no_holder ∷ no_holder ∷ no_holder ∷ no_holder
    ∷ onward ∷ own_changer ∷ no_holder ∷ no_holder ∷ no_holder ∷ no_holder ∷ no_holder ∷ no_holder
    ∷ onward ∷ own_changer ∷ no_holder ∷ no_holder ∷ no_holder ∷ no_holder ∷ own_changer ∷ no_holder
    ∷ onward ∷ own_changer ∷ own_changer ∷ no_holder ∷ no_holder ∷ no_holder ∷ own_changer ∷ no_holder
    ∷ onward ∷ own_changer ∷ own_changer ∷ own_changer ∷ no_holder ∷ no_holder ∷ own_changer ∷ no_holder
    ∷ deleted ∷ no_holder ∷ no_holder ∷ no_holder ∷ no_holder ∷ no_holder ∷ no_holder ∷ no_holder
    ∷ joined
    ∷ [])
    -- "ρ-locks down, a ξ-lock wanted on the leaf": page 5 is wanted with updater's ρ, since a search passes the older want of it, and both hold
    -- it then; page 1 is wanted with ξ, since it waits behind the search's older want of it, and, where its own is older, the search waits.
    ∷ row (answers tens (runs 0 (Insert 15 7 Second) 1 ++ runs 1 (Search 10) 2 ++ step 0 ∷ report 5 ∷ step 0 ∷ step 1 ∷ step 0 ∷ []))
    (began ∷ onward ∷ began ∷ onward ∷ onward ∷ onward ∷ with_updater ∷ waits ∷ found ∷ entered ∷ [])
    ∷ row (answers tens (runs 0 (Insert 15 7 Second) 2 ++ runs 1 (Search 10) 3 ++ step 0 ∷ step 1 ∷ []))
    (began ∷ onward ∷ onward ∷ began ∷ onward ∷ onward ∷ waits ∷ entered ∷ found ∷ [])
    ∷ row (answers tens (runs 0 (Delete 50 Second) 1 ++ runs 1 (Search 50) 2 ++ step 0 ∷ report 6 ∷ step 0 ∷ step 1 ∷ step 0 ∷ []))
    (began ∷ onward ∷ began ∷ onward ∷ onward ∷ onward ∷ with_updater ∷ waits ∷ found ∷ deleted ∷ [])
    -- A Next holds pages 0 and 5 and the leaf 2, for its second way: an insertion passes the two upper pages and waits before the leaf.
    ∷ row (answers tens (runs 1 (Next 25) 3 ++ runs 0 (Insert 22 7 Second) 3 ++ report 0 ∷ report 5 ∷ report 2 ∷ step 1 ∷ step 0 ∷ step 1 ∷ step 0 ∷ []))
    (began ∷ onward ∷ onward ∷ onward ∷ began ∷ onward ∷ onward ∷ waits ∷ other_reader ∷ with_updater ∷ other_reader ∷ onward ∷ waits ∷ next 30 ∷ entered ∷ [])
    ∷ []

-- 1, BadState, clause by clause. A row has first what is sound: a report for page 5 says who holds it.
abbrev pub second_states : List Row
second_states =
    -- It holds one page at most: an insertion, a deletion, a regrading. By the first way the first two may hold two.
    row (judged (Insert 15 7 Second) 1 Xi (5 ∷ []) [] ++ judged (Insert 15 7 Second) 1 Xi (0 ∷ 5 ∷ []) [])
    (updater ∷ bad_state ∷ [])
    ∷ row (judged (Delete 10 Second) 1 Xi (5 ∷ []) [] ++ judged (Delete 10 Second) 1 Xi (0 ∷ 5 ∷ []) [])
    (updater ∷ bad_state ∷ [])
    ∷ row (judged (Regrade 10 8 Second) 1 Xi (5 ∷ []) [] ++ judged (Regrade 10 8 Second) 1 Xi (0 ∷ 5 ∷ []) [])
    (updater ∷ bad_state ∷ [])
    ∷ row (judged (Insert 15 7 First) 1 Xi (0 ∷ 5 ∷ []) [] ++ judged (Delete 10 First) 1 Xi (0 ∷ 5 ∷ []) [])
    (own_changer ∷ own_changer ∷ [])
    -- It holds none beside its path, where a deletion by the first way may.
    ∷ row (judged (Delete 10 First) 6 Xi (5 ∷ 1 ∷ []) (2 ∷ []) ++ judged (Delete 10 Second) 6 Xi (5 ∷ 1 ∷ []) (2 ∷ []))
    (own_changer ∷ bad_state ∷ [])
    ∷ row (judged (Delete 10 Second) 1 Xi (5 ∷ []) (2 ∷ []) ++ judged (Insert 15 7 Second) 1 Xi (5 ∷ []) (2 ∷ []) ++ judged (Regrade 10 8 Second) 1 Xi (5 ∷ []) (2 ∷ []))
    (bad_state ∷ bad_state ∷ bad_state ∷ [])
    -- It wants a page with updater's ρ or with ξ, whether it holds a page yet or not; not with plain ρ, not with α, and a lock there must be.
    ∷ row (judged (Insert 15 7 Second) 1 UpdaterRho (5 ∷ []) [] ++ judged (Insert 15 7 Second) 1 Xi (5 ∷ []) [] ++ judged (Insert 15 7 Second) 1 Rho (5 ∷ []) [] ++ judged (Insert 15 7 Second) 1 Alpha (5 ∷ []) [] ++ judged (Insert 15 7 Second) 1 None (5 ∷ []) [])
    (updater ∷ updater ∷ bad_state ∷ bad_state ∷ bad_state ∷ [])
    ∷ row (judged (Delete 10 Second) 1 UpdaterRho (5 ∷ []) [] ++ judged (Delete 10 Second) 1 Xi (5 ∷ []) [] ++ judged (Delete 10 Second) 1 Rho (5 ∷ []) [] ++ judged (Delete 10 Second) 1 Alpha (5 ∷ []) [] ++ judged (Delete 10 Second) 1 None (5 ∷ []) [])
    (updater ∷ updater ∷ bad_state ∷ bad_state ∷ bad_state ∷ [])
    ∷ row (judged (Regrade 10 8 Second) 1 UpdaterRho (5 ∷ []) [] ++ judged (Regrade 10 8 Second) 1 Xi (5 ∷ []) [] ++ judged (Regrade 10 8 Second) 1 Rho (5 ∷ []) [] ++ judged (Regrade 10 8 Second) 1 Alpha (5 ∷ []) [] ++ judged (Regrade 10 8 Second) 1 None (5 ∷ []) [])
    (updater ∷ updater ∷ bad_state ∷ bad_state ∷ bad_state ∷ [])
    ∷ row (judged (Insert 15 7 Second) 0 UpdaterRho [] [] ++ judged (Insert 15 7 Second) 0 Xi [] [] ++ judged (Insert 15 7 Second) 0 Rho [] [] ++ judged (Insert 15 7 Second) 0 Alpha [] [] ++ judged (Insert 15 7 Second) 0 None [] [])
    (no_holder ∷ no_holder ∷ bad_state ∷ bad_state ∷ bad_state ∷ [])
    -- Who only reads wants with ρ alone: a search, a Next.
    ∷ row (judged (Search 10) 1 Rho (5 ∷ []) [] ++ judged (Search 10) 1 Xi (5 ∷ []) [] ++ judged (Search 10) 1 UpdaterRho (5 ∷ []) [] ++ judged (Search 10) 1 Alpha (5 ∷ []) [] ++ judged (Search 10) 1 None (5 ∷ []) [])
    (reader ∷ bad_state ∷ bad_state ∷ bad_state ∷ bad_state ∷ [])
    ∷ row (judged (Next 10) 1 Rho (5 ∷ []) [] ++ judged (Next 10) 1 Xi (5 ∷ []) [] ++ judged (Next 10) 1 UpdaterRho (5 ∷ []) [] ++ judged (Next 10) 1 Alpha (5 ∷ []) [] ++ judged (Next 10) 1 None (5 ∷ []) [])
    (reader ∷ bad_state ∷ bad_state ∷ bad_state ∷ bad_state ∷ [])
    -- By the first way an update wants with ξ alone: an insertion, a deletion, a regrading.
    ∷ row (judged (Insert 15 7 First) 1 Xi (5 ∷ []) [] ++ judged (Insert 15 7 First) 1 Rho (5 ∷ []) [] ++ judged (Insert 15 7 First) 1 UpdaterRho (5 ∷ []) [] ++ judged (Insert 15 7 First) 1 Alpha (5 ∷ []) [] ++ judged (Insert 15 7 First) 1 None (5 ∷ []) [])
    (own_changer ∷ bad_state ∷ bad_state ∷ bad_state ∷ bad_state ∷ [])
    ∷ row (judged (Delete 10 First) 1 Xi (5 ∷ []) [] ++ judged (Delete 10 First) 1 Rho (5 ∷ []) [] ++ judged (Delete 10 First) 1 UpdaterRho (5 ∷ []) [] ++ judged (Delete 10 First) 1 Alpha (5 ∷ []) [] ++ judged (Delete 10 First) 1 None (5 ∷ []) [])
    (own_changer ∷ bad_state ∷ bad_state ∷ bad_state ∷ bad_state ∷ [])
    ∷ row (judged (Regrade 10 8 First) 1 Xi (5 ∷ []) [] ++ judged (Regrade 10 8 First) 1 Rho (5 ∷ []) [] ++ judged (Regrade 10 8 First) 1 UpdaterRho (5 ∷ []) [] ++ judged (Regrade 10 8 First) 1 Alpha (5 ∷ []) [] ++ judged (Regrade 10 8 First) 1 None (5 ∷ []) [])
    (own_changer ∷ bad_state ∷ bad_state ∷ bad_state ∷ bad_state ∷ [])
    -- 02 (vi): "Each held page now carries its kind": by the second way updater's ρ and no other, by the first way ξ, and ρ of a search and a Next.
    ∷ row (carried_one (Insert 15 7 Second) UpdaterRho ++ carried_one (Insert 15 7 Second) Rho ++ carried_one (Insert 15 7 Second) Xi ++ carried_one (Insert 15 7 Second) Alpha ++ carried_one (Insert 15 7 Second) None)
    (updater ∷ bad_state ∷ bad_state ∷ bad_state ∷ bad_state ∷ [])
    ∷ row (carried_one (Delete 10 Second) UpdaterRho ++ carried_one (Delete 10 Second) Rho ++ carried_one (Delete 10 Second) Xi ++ carried_one (Delete 10 Second) Alpha ++ carried_one (Delete 10 Second) None)
    (updater ∷ bad_state ∷ bad_state ∷ bad_state ∷ bad_state ∷ [])
    ∷ row (carried_one (Regrade 10 8 Second) UpdaterRho ++ carried_one (Regrade 10 8 Second) Rho ++ carried_one (Regrade 10 8 Second) Xi ++ carried_one (Regrade 10 8 Second) Alpha ++ carried_one (Regrade 10 8 Second) None)
    (updater ∷ bad_state ∷ bad_state ∷ bad_state ∷ bad_state ∷ [])
    ∷ row (carried_one (Insert 15 7 First) Xi ++ carried_one (Insert 15 7 First) Rho ++ carried_one (Insert 15 7 First) UpdaterRho ++ carried_one (Insert 15 7 First) Alpha ++ carried_one (Insert 15 7 First) None)
    (own_changer ∷ bad_state ∷ bad_state ∷ bad_state ∷ bad_state ∷ [])
    ∷ row (carried_one (Delete 10 First) Xi ++ carried_one (Delete 10 First) Rho ++ carried_one (Delete 10 First) UpdaterRho ++ carried_one (Delete 10 First) Alpha ++ carried_one (Delete 10 First) None)
    (own_changer ∷ bad_state ∷ bad_state ∷ bad_state ∷ bad_state ∷ [])
    ∷ row (carried_one (Regrade 10 8 First) Xi ++ carried_one (Regrade 10 8 First) Rho ++ carried_one (Regrade 10 8 First) UpdaterRho ++ carried_one (Regrade 10 8 First) Alpha ++ carried_one (Regrade 10 8 First) None)
    (own_changer ∷ bad_state ∷ bad_state ∷ bad_state ∷ bad_state ∷ [])
    ∷ row (carried_one (Search 10) Rho ++ carried_one (Search 10) Xi ++ carried_one (Search 10) UpdaterRho ++ carried_one (Search 10) Alpha ++ carried_one (Search 10) None)
    (reader ∷ bad_state ∷ bad_state ∷ bad_state ∷ bad_state ∷ [])
    ∷ row (carried_one (Next 10) Rho ++ carried_one (Next 10) Xi ++ carried_one (Next 10) UpdaterRho ++ carried_one (Next 10) Alpha ++ carried_one (Next 10) None)
    (reader ∷ bad_state ∷ bad_state ∷ bad_state ∷ bad_state ∷ [])
    -- Each of several pages has its own, on the path and beside it: of a deletion, of a Next.
    ∷ row (carried (Delete 10 First) (5 ∷ 1 ∷ []) (Xi ∷ Xi ∷ []) (2 ∷ []) (Xi ∷ []) ++ carried (Delete 10 First) (5 ∷ 1 ∷ []) (Xi ∷ Rho ∷ []) (2 ∷ []) (Xi ∷ []) ++ carried (Delete 10 First) (5 ∷ 1 ∷ []) (Xi ∷ Xi ∷ []) (2 ∷ []) (Rho ∷ []))
    (own_changer ∷ bad_state ∷ bad_state ∷ [])
    ∷ row (carried (Next 10) (5 ∷ 1 ∷ []) (Rho ∷ Rho ∷ []) (2 ∷ []) (Rho ∷ []) ++ carried (Next 10) (5 ∷ 1 ∷ []) (Rho ∷ UpdaterRho ∷ []) (2 ∷ []) (Rho ∷ []) ++ carried (Next 10) (5 ∷ 1 ∷ []) (Rho ∷ Rho ∷ []) (2 ∷ []) (UpdaterRho ∷ []))
    (reader ∷ bad_state ∷ bad_state ∷ [])
    -- What stands in a cell behind a length is the kind of no page.
    ∷ row (carried (Insert 15 7 Second) (5 ∷ []) (UpdaterRho ∷ Xi ∷ []) [] (Alpha ∷ []) ++ carried (Search 10) [] (Xi ∷ []) [] (Alpha ∷ []))
    (updater ∷ no_holder ∷ [])
    -- "a sound state has no clashing kinds on a page": two that go the second way may hold one page, and so may a search or a Next beside one; an
    -- update by the first way may not.
    ∷ row (together (Insert 15 7 Second) (Delete 20 Second) ++ together (Search 10) (Regrade 20 8 Second) ++ together (Insert 15 7 Second) (Next 20))
    (with_updater ∷ with_updater ∷ with_updater ∷ [])
    ∷ row (together (Insert 15 7 Second) (Delete 20 First) ++ together (Insert 15 7 First) (Delete 20 Second) ++ together (Regrade 10 8 Second) (Regrade 20 8 First))
    (bad_state ∷ bad_state ∷ bad_state ∷ [])
    -- Who waits goes by the kind that stands in the state, and no page is looked at: behind a want of page 0 with updater's ρ a search goes on;
    -- behind one with ξ, as no run has it, it waits.
    ∷ row (answers (standing (Insert 15 7 Second) 0 UpdaterRho [] []) (runs 1 (Search 10) 1) ++ answers (standing (Insert 15 7 Second) 0 Xi [] []) (runs 1 (Search 10) 1))
    (began ∷ onward ∷ began ∷ waits ∷ [])
    ∷ []

-- 6, Damaged, clause by clause
abbrev pub second_damage : List Row
second_damage =
    -- Nothing is held before page 0 is granted, and page 0 is wanted with updater's ρ: not with ξ, and no other page.
    row (once (standing (Insert 15 7 Second) 0 UpdaterRho [] []) ++ once (standing (Insert 15 7 Second) 0 Xi [] []) ++ once (standing (Insert 15 7 Second) 5 UpdaterRho [] []) ++ once (standing (Insert 15 7 Second) 1 Xi [] []))
    (onward ∷ damaged_step ∷ damaged_step ∷ damaged_step ∷ [])
    ∷ row (once (standing (Delete 20 Second) 0 UpdaterRho [] []) ++ once (standing (Delete 20 Second) 0 Xi [] []) ++ once (standing (Delete 20 Second) 5 UpdaterRho [] []))
    (onward ∷ damaged_step ∷ damaged_step ∷ [])
    ∷ row (once (standing (Regrade 10 8 Second) 0 UpdaterRho [] []) ++ once (standing (Regrade 10 8 Second) 0 Xi [] []) ++ once (standing (Regrade 10 8 Second) 5 UpdaterRho [] []))
    (onward ∷ damaged_step ∷ damaged_step ∷ [])
    -- From page 5, on level 2, a leaf is wanted, with ξ and not with updater's ρ: an insertion, a deletion that begins again, a regrading.
    ∷ row (once (standing (Insert 15 7 Second) 1 Xi (5 ∷ []) []) ++ once (standing (Insert 15 7 Second) 1 UpdaterRho (5 ∷ []) []))
    (entered ∷ damaged_step ∷ [])
    ∷ row (once (standing (Delete 10 Second) 1 Xi (5 ∷ []) []) ++ once (standing (Delete 10 Second) 1 UpdaterRho (5 ∷ []) []))
    (onward ∷ damaged_step ∷ [])
    ∷ row (once (standing (Regrade 10 8 Second) 1 Xi (5 ∷ []) []) ++ once (standing (Regrade 10 8 Second) 1 UpdaterRho (5 ∷ []) []))
    (regraded ∷ damaged_step ∷ [])
    -- From page 0, on level 3, an upper page is wanted, with updater's ρ and not with ξ.
    ∷ row (once (standing (Insert 15 7 Second) 5 UpdaterRho (0 ∷ []) []) ++ once (standing (Insert 15 7 Second) 5 Xi (0 ∷ []) []))
    (onward ∷ damaged_step ∷ [])
    ∷ row (once (standing (Delete 10 Second) 5 UpdaterRho (0 ∷ []) []) ++ once (standing (Delete 10 Second) 5 Xi (0 ∷ []) []))
    (onward ∷ damaged_step ∷ [])
    ∷ row (once (standing (Regrade 10 8 Second) 5 UpdaterRho (0 ∷ []) []) ++ once (standing (Regrade 10 8 Second) 5 Xi (0 ∷ []) []))
    (onward ∷ damaged_step ∷ [])
    -- The want is where the key leads: page 1 and not page 2, page 5 and not page 6.
    ∷ row (once (standing (Insert 15 7 Second) 2 Xi (5 ∷ []) []) ++ once (standing (Insert 15 7 Second) 6 UpdaterRho (0 ∷ []) []))
    (damaged_step ∷ damaged_step ∷ [])
    -- It never rests on its leaf, whatever it would want from there: its key is in the leaf 1 and the leaf would be short, so that by the first
    -- way the sibling would be next; nor on page 0, where that is a leaf.
    ∷ row (once (standing (Delete 10 Second) 2 Xi (1 ∷ []) []) ++ once (standing (Delete 10 Second) 2 UpdaterRho (1 ∷ []) []) ++ once (standing (Delete 10 Second) 0 UpdaterRho (1 ∷ []) []))
    (damaged_step ∷ damaged_step ∷ damaged_step ∷ [])
    ∷ row (once (standing (Insert 15 7 Second) 2 Xi (1 ∷ []) []) ++ once (standing (Regrade 10 8 Second) 2 Xi (1 ∷ []) []))
    (damaged_step ∷ damaged_step ∷ [])
    ∷ row (once (with_page (standing (Delete 10 Second) 1 Xi (0 ∷ []) []) 0 (1 ∷ 1 ∷ 10 ∷ 7 ∷ 0 ∷ 0 ∷ 0 ∷ [])) ++ once (with_page (standing (Delete 10 Second) 1 UpdaterRho (0 ∷ []) []) 0 (1 ∷ 1 ∷ 10 ∷ 7 ∷ 0 ∷ 0 ∷ 0 ∷ [])))
    (damaged_step ∷ damaged_step ∷ [])
    -- "where its father is held, one less than the father's": page 0 has page 5's level, and page 5 lies two above page 1, with either lock.
    ∷ row (once (damaged (standing (Insert 15 7 Second) 5 Xi (0 ∷ []) []) 0 2) ++ once (damaged (standing (Insert 15 7 Second) 5 UpdaterRho (0 ∷ []) []) 0 2))
    (damaged_step ∷ damaged_step ∷ [])
    ∷ row (once (damaged (standing (Insert 15 7 Second) 1 Xi (5 ∷ []) []) 35 3) ++ once (damaged (standing (Insert 15 7 Second) 1 UpdaterRho (5 ∷ []) []) 35 3))
    (damaged_step ∷ damaged_step ∷ [])
    -- Each of its two pages is sound by itself: an unused word of page 5 is 9, then one of page 1, at which it would else be answered or begin
    -- again. Of page 0, which it has given up, nothing is asked.
    ∷ row (once (damaged (standing (Insert 15 7 Second) 1 Xi (5 ∷ []) []) 41 9) ++ once (damaged (standing (Insert 15 7 Second) 1 Xi (5 ∷ []) []) 13 9) ++ once (damaged (standing (Insert 15 7 Second) 1 Xi (5 ∷ []) []) 6 9))
    (damaged_step ∷ damaged_step ∷ entered ∷ [])
    ∷ row (once (damaged (standing (Delete 10 Second) 1 Xi (5 ∷ []) []) 41 9) ++ once (damaged (standing (Delete 10 Second) 1 Xi (5 ∷ []) []) 13 9) ++ once (damaged (standing (Delete 10 Second) 1 Xi (5 ∷ []) []) 6 9))
    (damaged_step ∷ damaged_step ∷ onward ∷ [])
    -- "the page it would want next is none that it would then hold": page 5 leads to itself.
    ∷ row (once (damaged (standing (Insert 15 7 Second) 5 UpdaterRho (0 ∷ []) []) 37 5))
    (damaged_step ∷ [])
    -- "as given, the slot stays open, the lock is not taken"
    ∷ row (did (standing (Insert 15 7 Second) 1 UpdaterRho (5 ∷ []) []) (step 0 ∷ report 1 ∷ report 5 ∷ step 0 ∷ []))
    (damaged_step ∷ no_holder ∷ updater ∷ damaged_step ∷ tens_words ∷ [])
    ∷ []

-- all of them
abbrev pub second_rows : List Row
second_rows = second_in_e ++ second_at_the_root ++ second_waits ++ second_over_three ++ second_states ++ second_damage
