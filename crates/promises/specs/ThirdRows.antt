-- Updates by the third way on the bench, k = 1: what they answer and write, which pages they hold and under which kind of lock, how they convert
-- them, and who waits for whom. Then what a sound state asks of them, and what the pages must be for a step. A second program answers the same
-- (`rust/twin`, whose tests read this table, its calls and its answers).
use Rattle.std.specs.Prelude.{ℕ, List, [], ◌∷◌, ◌++◌, map, set}
use Rattle.slots.specs.declared.Op.{Op}
use Rattle.slots.specs.declared.Op.TheVariants.{Search, Insert, Delete, Next, Regrade}
use Rattle.slots.specs.declared.Way.TheVariants.{First, Second, Third}
use Rattle.slots.specs.declared.Lock.{Lock}
use Rattle.slots.specs.declared.Lock.TheVariants.{None, Rho, Xi, UpdaterRho, Alpha}
use Rattle.slots.specs.declared.Answer.TheVariants.{Reported}
use Rattle.slots.specs.Heard.{heard}
use Rattle.slots.specs.Parts.{held_lock, under, open_slot, idle_state}
use Rattle.runs.specs.Run.{begin, step, report, Told, ran}
use Rattle.promises.specs.Bench.{Row, row, runs, puts, two, pool, going_on, case_e, delete10}
use Rattle.promises.specs.MoreRows.{damaged, answers}
use Rattle.promises.specs.LongRun.{began, onward, waits, found, entered, there, deleted, missing, no_page}
use Rattle.promises.specs.NextRows.{next, no_holder, readers, damaged_step, bad_state, tens_words, tens, watched, with_page}
use Rattle.promises.specs.WideRows.{did}
use Rattle.promises.specs.DamageRows.{to_sixty, spare_leaf, once}
use Rattle.promises.specs.SecondRows.{regraded, own_changer, with_updater, roomy_e, split_by25, joined, seven_pages}

-- What is heard of a page that slot 0 holds with α, or that slots 0 and 1 hold, one of them with α.
abbrev pub own_alpha : List ℕ
own_alpha = heard (Reported Alpha 1 0)

abbrev pub with_alpha : List ℕ
with_alpha = heard (Reported Alpha 2 0)

-- 10, 20, .. 60, and nobody at work
abbrev pub sixty : Told
sixty = ran [] (idle_state 1 11) to_sixty

-- the three levels with 15 in page 1, which is full, and page 7 free
abbrev pub one_free : Told
one_free = ran [] (idle_state 1 8) ((with_page tens 1 (1 ∷ 2 ∷ 10 ∷ 7 ∷ 15 ∷ 7 ∷ 0 ∷ [])).words ++ 0 ∷ 0 ∷ 0 ∷ 0 ∷ 0 ∷ 0 ∷ 0 ∷ [])

-- In E slot 0 has page 0, and slot 1 wants it. Then both want it, slot 0 for longer, and slot 1 is stepped.
abbrev pub meets : Op → Op → List (List ℕ)
meets a b = answers case_e (runs 0 a 1 ++ runs 1 b 1)

abbrev pub follows : Op → Op → List (List ℕ)
follows a b = answers case_e (begin 0 a ∷ begin 1 b ∷ step 1 ∷ [])

-- the three levels, where slot 0 has this operation, wants this page with this kind of lock, and holds these pages under these kinds, on its path and
-- beside it
abbrev pub stands_with : Op → ℕ → Lock → List ℕ → List Lock → List ℕ → List Lock → Told
stands_with op want lock path locks beside sidelocks =
    ran []
    (record { k = 1; n = 7; slots = set (idle_state 1 7).slots 0 (open_slot op want lock path (map under locks) beside (map under sidelocks)); order = (idle_state 1 7).order; waiting = 1 })
    tens_words

-- what a report for page 5 says there
abbrev pub looked : Op → ℕ → Lock → List ℕ → List Lock → List ℕ → List Lock → List (List ℕ)
looked op want lock path locks beside sidelocks = answers (stands_with op want lock path locks beside sidelocks) (report 5 ∷ [])

-- what it says where slots 0 and 1 have these operations and hold page 5 under these kinds; slot 0 wants page 1 and slot 1 page 2, with the kinds with
-- which their operations go down
abbrev pub sharing : Op → Lock → Op → Lock → List (List ℕ)
sharing a l b m =
    answers
    (ran []
    (record { k = 1; n = 7; slots = set (set (idle_state 1 7).slots 0 (open_slot a 1 (held_lock a) (5 ∷ []) (under l ∷ []) [] [])) 1 (open_slot b 2 (held_lock b) (5 ∷ []) (under m ∷ []) [] []); order = set (idle_state 1 7).order 1 1; waiting = 2 })
    tens_words)
    (report 5 ∷ [])

-- a deletion of 10 there that has its path, pages 0, 5 and 1, and its siblings, pages 2 and 6, and wants one of them with ξ; then one that wants page 0, the
-- first of them, and holds another path and other siblings, all with α
abbrev pub converts : ℕ → List Lock → List Lock → Told
converts want locks sidelocks = stands_with (Delete 10 Third) want Xi (0 ∷ 5 ∷ 1 ∷ []) locks (2 ∷ 6 ∷ []) sidelocks

abbrev pub turns : Op → ℕ → List ℕ → List Lock → List ℕ → List Lock → Told
turns op top path locks beside sidelocks = stands_with op top Xi path locks beside sidelocks

-- in E: α down, then conversions, and the change with the last
abbrev pub third_in_e : List Row
third_in_e =
    -- Page 1 has room for 5: page 0 is given up, and page 1 alone is converted. A deletion of 20 and a regrading of 10 do the same with their leaves.
    row (did case_e (begin 0 (Insert 5 7 Third) ∷ watched 3 (0 ∷ 1 ∷ 2 ∷ [])))
    (began
    ∷ onward ∷ own_alpha ∷ no_holder ∷ no_holder
    ∷ onward ∷ no_holder ∷ own_alpha ∷ no_holder
    ∷ entered ∷ no_holder ∷ no_holder ∷ no_holder
    ∷ (with_page case_e 1 (1 ∷ 2 ∷ 5 ∷ 7 ∷ 10 ∷ 7 ∷ 0 ∷ [])).words
    ∷ [])
    ∷ row (did case_e (begin 0 (Delete 20 Third) ∷ watched 3 (0 ∷ 1 ∷ 2 ∷ [])))
    (began
    ∷ onward ∷ own_alpha ∷ no_holder ∷ no_holder
    ∷ onward ∷ no_holder ∷ no_holder ∷ own_alpha
    ∷ deleted ∷ no_holder ∷ no_holder ∷ no_holder
    ∷ (with_page case_e 2 (1 ∷ 1 ∷ 30 ∷ 7 ∷ 0 ∷ 0 ∷ 0 ∷ [])).words
    ∷ [])
    ∷ row (did case_e (begin 0 (Regrade 10 8 Third) ∷ watched 3 (0 ∷ 1 ∷ 2 ∷ [])))
    (began
    ∷ onward ∷ own_alpha ∷ no_holder ∷ no_holder
    ∷ onward ∷ no_holder ∷ own_alpha ∷ no_holder
    ∷ regraded ∷ no_holder ∷ no_holder ∷ no_holder
    ∷ (with_page case_e 1 (1 ∷ 1 ∷ 10 ∷ 8 ∷ 0 ∷ 0 ∷ 0 ∷ [])).words
    ∷ [])
    -- A key already there or missing is answered at once, with α alone, also where the leaf is not safe.
    ∷ row (did case_e (begin 0 (Insert 20 9 Third) ∷ watched 2 (0 ∷ 1 ∷ 2 ∷ [])))
    (began
    ∷ onward ∷ own_alpha ∷ no_holder ∷ no_holder
    ∷ there ∷ no_holder ∷ no_holder ∷ no_holder
    ∷ case_e.words
    ∷ [])
    ∷ row (did case_e (runs 0 (Insert 10 9 Third) 2 ++ runs 0 (Delete 11 Third) 2 ++ runs 0 (Delete 99 Third) 2 ++ runs 0 (Regrade 25 8 Third) 2))
    (began ∷ onward ∷ there ∷ began ∷ onward ∷ missing ∷ began ∷ onward ∷ missing ∷ began ∷ onward ∷ missing ∷ case_e.words ∷ [])
    -- A search reads the leaf that is held with α, and the lot is found there.
    ∷ row (answers case_e (runs 0 (Delete 20 Third) 2 ++ runs 1 (Search 10) 2))
    (began ∷ onward ∷ onward ∷ began ∷ onward ∷ found ∷ [])
    -- Page 2 is full for 25: pages 0 and 2 are converted. No page is free, which is said after the last conversion, and all is given up.
    ∷ row (did case_e (begin 0 (Insert 25 7 Third) ∷ watched 4 (0 ∷ 1 ∷ 2 ∷ [])))
    (began
    ∷ onward ∷ own_alpha ∷ no_holder ∷ no_holder
    ∷ onward ∷ own_alpha ∷ no_holder ∷ own_alpha
    ∷ onward ∷ own_changer ∷ no_holder ∷ own_alpha
    ∷ no_page ∷ no_holder ∷ no_holder ∷ no_holder
    ∷ case_e.words
    ∷ [])
    -- With a page free the leaf is split then; before the last conversion no word has changed.
    ∷ row (did roomy_e (runs 0 (Insert 25 7 Third) 3) ++ did roomy_e (begin 0 (Insert 25 7 Third) ∷ watched 4 (0 ∷ 1 ∷ 2 ∷ 3 ∷ [])))
    (began ∷ onward ∷ onward ∷ onward ∷ roomy_e.words
    ∷ began
    ∷ onward ∷ own_alpha ∷ no_holder ∷ no_holder ∷ no_holder
    ∷ onward ∷ own_alpha ∷ no_holder ∷ own_alpha ∷ no_holder
    ∷ onward ∷ own_changer ∷ no_holder ∷ own_alpha ∷ no_holder
    ∷ entered ∷ no_holder ∷ no_holder ∷ no_holder ∷ no_holder
    ∷ split_by25
    ∷ [])
    -- Case G: the sibling is wanted with α too, and converted behind the leaf.
    ∷ row (did case_e (begin 0 (Delete 10 Third) ∷ watched 6 (0 ∷ 1 ∷ 2 ∷ [])))
    (began
    ∷ onward ∷ own_alpha ∷ no_holder ∷ no_holder
    ∷ onward ∷ own_alpha ∷ own_alpha ∷ no_holder
    ∷ onward ∷ own_alpha ∷ own_alpha ∷ own_alpha
    ∷ onward ∷ own_changer ∷ own_alpha ∷ own_alpha
    ∷ onward ∷ own_changer ∷ own_changer ∷ own_alpha
    ∷ deleted ∷ no_holder ∷ no_holder ∷ no_holder
    ∷ (going_on case_e delete10).words
    ∷ [])
    ∷ []

-- page 0 as a leaf is converted like any other
abbrev pub third_at_the_root : List Row
third_at_the_root =
    row (did (pool 1 []) (begin 0 (Insert 10 7 Third) ∷ watched 2 (0 ∷ [])))
    (began ∷ onward ∷ own_alpha ∷ entered ∷ no_holder ∷ (pool 1 (puts 10)).words ∷ [])
    ∷ row (did (pool 1 two) (begin 0 (Delete 10 Third) ∷ watched 2 (0 ∷ [])))
    (began ∷ onward ∷ own_alpha ∷ deleted ∷ no_holder ∷ (1 ∷ 1 ∷ 20 ∷ 7 ∷ 0 ∷ 0 ∷ 0 ∷ []) ∷ [])
    ∷ row (did (pool 1 two) (runs 0 (Regrade 10 8 Third) 2))
    (began ∷ onward ∷ regraded ∷ (1 ∷ 2 ∷ 10 ∷ 8 ∷ 20 ∷ 7 ∷ 0 ∷ []) ∷ [])
    -- It is full: no page is free, and then two are.
    ∷ row (did (pool 1 two) (runs 0 (Insert 30 7 Third) 2) ++ did (pool 3 two) (runs 0 (Insert 30 7 Third) 2))
    (began ∷ onward ∷ no_page ∷ (pool 1 two).words ∷ began ∷ onward ∷ entered ∷ case_e.words ∷ [])
    ∷ row (did (pool 1 two) (runs 0 (Insert 10 9 Third) 1 ++ runs 0 (Delete 30 Third) 1 ++ runs 0 (Regrade 30 8 Third) 1))
    (began ∷ there ∷ began ∷ missing ∷ began ∷ missing ∷ (pool 1 two).words ∷ [])
    ∷ []

-- "ρ goes with all but ξ; updater's ρ with both ρ only; α with ρ only; ξ with nothing": who has page 0 with ρ, updater's ρ, α, ξ, before each who wants
-- it so; and the same of who wants it for longer
abbrev pub third_pairs : List Row
third_pairs =
    row (meets (Search 20) (Search 20) ++ meets (Search 20) (Insert 25 7 Second) ++ meets (Search 20) (Insert 25 7 Third) ++ meets (Search 20) (Insert 25 7 First))
    (began ∷ onward ∷ began ∷ onward ∷ began ∷ onward ∷ began ∷ onward ∷ began ∷ onward ∷ began ∷ onward ∷ began ∷ onward ∷ began ∷ waits ∷ [])
    ∷ row (meets (Insert 5 7 Second) (Search 20) ++ meets (Insert 5 7 Second) (Insert 25 7 Second) ++ meets (Insert 5 7 Second) (Insert 25 7 Third) ++ meets (Insert 5 7 Second) (Insert 25 7 First))
    (began ∷ onward ∷ began ∷ onward ∷ began ∷ onward ∷ began ∷ onward ∷ began ∷ onward ∷ began ∷ waits ∷ began ∷ onward ∷ began ∷ waits ∷ [])
    ∷ row (meets (Insert 5 7 Third) (Search 20) ++ meets (Insert 5 7 Third) (Insert 25 7 Second) ++ meets (Insert 5 7 Third) (Insert 25 7 Third) ++ meets (Insert 5 7 Third) (Insert 25 7 First))
    (began ∷ onward ∷ began ∷ onward ∷ began ∷ onward ∷ began ∷ waits ∷ began ∷ onward ∷ began ∷ waits ∷ began ∷ onward ∷ began ∷ waits ∷ [])
    ∷ row (meets (Insert 5 7 First) (Search 20) ++ meets (Insert 5 7 First) (Insert 25 7 Second) ++ meets (Insert 5 7 First) (Insert 25 7 Third) ++ meets (Insert 5 7 First) (Insert 25 7 First))
    (began ∷ onward ∷ began ∷ waits ∷ began ∷ onward ∷ began ∷ waits ∷ began ∷ onward ∷ began ∷ waits ∷ began ∷ onward ∷ began ∷ waits ∷ [])
    ∷ row (follows (Search 20) (Search 20) ++ follows (Search 20) (Insert 25 7 Second) ++ follows (Search 20) (Insert 25 7 Third) ++ follows (Search 20) (Insert 25 7 First))
    (began ∷ began ∷ onward ∷ began ∷ began ∷ onward ∷ began ∷ began ∷ onward ∷ began ∷ began ∷ waits ∷ [])
    ∷ row (follows (Insert 5 7 Second) (Search 20) ++ follows (Insert 5 7 Second) (Insert 25 7 Second) ++ follows (Insert 5 7 Second) (Insert 25 7 Third) ++ follows (Insert 5 7 Second) (Insert 25 7 First))
    (began ∷ began ∷ onward ∷ began ∷ began ∷ onward ∷ began ∷ began ∷ waits ∷ began ∷ began ∷ waits ∷ [])
    ∷ row (follows (Insert 5 7 Third) (Search 20) ++ follows (Insert 5 7 Third) (Insert 25 7 Second) ++ follows (Insert 5 7 Third) (Insert 25 7 Third) ++ follows (Insert 5 7 Third) (Insert 25 7 First))
    (began ∷ began ∷ onward ∷ began ∷ began ∷ waits ∷ began ∷ began ∷ waits ∷ began ∷ began ∷ waits ∷ [])
    ∷ row (follows (Insert 5 7 First) (Search 20) ++ follows (Insert 5 7 First) (Insert 25 7 Second) ++ follows (Insert 5 7 First) (Insert 25 7 Third) ++ follows (Insert 5 7 First) (Insert 25 7 First))
    (began ∷ began ∷ waits ∷ began ∷ began ∷ waits ∷ began ∷ began ∷ waits ∷ began ∷ began ∷ waits ∷ [])
    -- The same on page 5 of a state: the four kinds beside each other, and the ξ of a page that was converted. What clashes is no state.
    ∷ row (sharing (Search 10) Rho (Search 20) Rho ++ sharing (Search 10) Rho (Insert 25 7 Second) UpdaterRho ++ sharing (Search 10) Rho (Insert 25 7 Third) Alpha ++ sharing (Search 10) Rho (Insert 25 7 First) Xi ++ sharing (Search 10) Rho (Insert 25 7 Third) Xi)
    (readers ∷ with_updater ∷ with_alpha ∷ bad_state ∷ bad_state ∷ [])
    ∷ row (sharing (Insert 15 7 Second) UpdaterRho (Search 20) Rho ++ sharing (Insert 15 7 Second) UpdaterRho (Insert 25 7 Second) UpdaterRho ++ sharing (Insert 15 7 Second) UpdaterRho (Insert 25 7 Third) Alpha ++ sharing (Insert 15 7 Second) UpdaterRho (Insert 25 7 First) Xi ++ sharing (Insert 15 7 Second) UpdaterRho (Insert 25 7 Third) Xi)
    (with_updater ∷ with_updater ∷ bad_state ∷ bad_state ∷ bad_state ∷ [])
    ∷ row (sharing (Insert 15 7 Third) Alpha (Search 20) Rho ++ sharing (Insert 15 7 Third) Alpha (Insert 25 7 Second) UpdaterRho ++ sharing (Insert 15 7 Third) Alpha (Insert 25 7 Third) Alpha ++ sharing (Insert 15 7 Third) Alpha (Insert 25 7 First) Xi ++ sharing (Insert 15 7 Third) Alpha (Insert 25 7 Third) Xi)
    (with_alpha ∷ bad_state ∷ bad_state ∷ bad_state ∷ bad_state ∷ [])
    ∷ row (sharing (Insert 15 7 Third) Xi (Search 20) Rho ++ sharing (Insert 15 7 Third) Xi (Insert 25 7 Second) UpdaterRho ++ sharing (Insert 15 7 Third) Xi (Insert 25 7 Third) Alpha ++ sharing (Insert 15 7 Third) Xi (Insert 25 7 First) Xi ++ sharing (Insert 15 7 Third) Xi (Insert 25 7 Third) Xi)
    (bad_state ∷ bad_state ∷ bad_state ∷ bad_state ∷ bad_state ∷ [])
    ∷ row (sharing (Insert 15 7 Third) Alpha (Next 20) Rho ++ sharing (Next 10) Rho (Delete 20 Third) Alpha ++ sharing (Regrade 10 8 Third) Alpha (Delete 20 Third) Alpha)
    (with_alpha ∷ with_alpha ∷ bad_state ∷ [])
    ∷ []

-- who waits for a conversion, and for whom a conversion waits
abbrev pub third_waits : List Row
third_waits =
    -- Case J by the third way: the deletion does not wait for the search on page 0.
    row (answers case_e (runs 0 (Search 10) 1 ++ runs 1 (Delete 20 Third) 1 ++ report 0 ∷ step 1 ∷ step 1 ∷ step 0 ∷ []))
    (began ∷ onward ∷ began ∷ onward ∷ with_alpha ∷ onward ∷ deleted ∷ found ∷ [])
    -- A search rests on page 6, the second of three that are converted: page 0 is, page 6 waits until the search has gone.
    ∷ row (answers sixty (runs 1 (Search 40) 2 ++ runs 0 (Insert 65 7 Third) 4 ++ report 0 ∷ report 6 ∷ report 7 ∷ step 0 ∷ step 1 ∷ report 6 ∷ step 0 ∷ report 6 ∷ report 7 ∷ step 0 ∷ []))
    (began ∷ onward ∷ onward
    ∷ began ∷ onward ∷ onward ∷ onward ∷ onward ∷ own_changer ∷ with_alpha ∷ own_alpha
    ∷ waits ∷ found ∷ own_alpha ∷ onward ∷ own_changer ∷ own_alpha ∷ entered ∷ [])
    -- A search that comes while a conversion waits: page 0 has one reader, and the next one waits, though all three locks would go together. The
    -- conversion does not wait for that want, and is granted when the reader has gone.
    ∷ row (answers roomy_e (runs 1 (Search 10) 1 ++ runs 0 (Insert 25 7 Third) 3 ++ runs 2 (Search 20) 1 ++ report 0 ∷ step 1 ∷ step 2 ∷ step 0 ∷ step 2 ∷ step 0 ∷ step 2 ∷ step 2 ∷ []))
    (began ∷ onward ∷ began ∷ onward ∷ onward ∷ waits ∷ began ∷ waits ∷ with_alpha ∷ found ∷ waits ∷ onward ∷ waits ∷ entered ∷ onward ∷ found ∷ [])
    -- The same where its want is older than the conversion's.
    ∷ row (answers roomy_e (runs 1 (Search 10) 1 ++ begin 2 (Search 20) ∷ runs 0 (Insert 25 7 Third) 3 ++ step 2 ∷ step 1 ∷ step 2 ∷ step 0 ∷ step 0 ∷ step 2 ∷ []))
    (began ∷ onward ∷ began ∷ began ∷ onward ∷ onward ∷ waits ∷ waits ∷ found ∷ waits ∷ onward ∷ entered ∷ onward ∷ [])
    -- And of an older want with ξ, by the first way, with which it would clash.
    ∷ row (answers roomy_e (runs 0 (Insert 25 7 Third) 1 ++ begin 2 (Insert 5 7 First) ∷ step 2 ∷ step 0 ∷ step 2 ∷ step 0 ∷ step 2 ∷ step 0 ∷ step 2 ∷ []))
    (began ∷ onward ∷ began ∷ waits ∷ onward ∷ waits ∷ onward ∷ waits ∷ entered ∷ onward ∷ [])
    -- A Next rests on page 1, and a search stands before it: the conversion of page 1 waits for the Next, and the search for the conversion.
    ∷ row (answers case_e (runs 1 (Next 15) 2 ++ runs 2 (Search 10) 1 ++ runs 0 (Insert 5 7 Third) 3 ++ step 2 ∷ step 1 ∷ step 2 ∷ step 0 ∷ step 2 ∷ []))
    (began ∷ onward ∷ onward ∷ began ∷ onward ∷ began ∷ onward ∷ onward ∷ waits ∷ waits ∷ next 20 ∷ waits ∷ entered ∷ found ∷ [])
    -- "goes to the end of the order": an insertion's want of page 2 is younger than the search's after its first conversion, but comes before it.
    ∷ row (answers roomy_e (runs 0 (Insert 25 7 Third) 2 ++ begin 1 (Search 20) ∷ step 1 ∷ step 0 ∷ step 1 ∷ step 0 ∷ step 1 ∷ step 1 ∷ []))
    (began ∷ onward ∷ onward ∷ began ∷ waits ∷ onward ∷ waits ∷ entered ∷ onward ∷ found ∷ [])
    -- Two by the third way: the younger one waits before page 0, as long as the other needs it.
    ∷ row (answers case_e (runs 0 (Insert 5 7 Third) 1 ++ runs 1 (Delete 20 Third) 1 ++ step 0 ∷ step 1 ∷ step 1 ∷ step 1 ∷ step 0 ∷ []))
    (began ∷ onward ∷ began ∷ waits ∷ onward ∷ onward ∷ onward ∷ deleted ∷ entered ∷ [])
    -- "Room is counted in the step that makes the change": one page is free when the change of 45 is known, and 12 takes it.
    ∷ row (answers one_free (runs 0 (Insert 45 7 Third) 3 ++ runs 1 (Insert 12 7 Third) 5 ++ step 0 ∷ report 6 ∷ report 4 ∷ step 0 ∷ report 6 ∷ report 4 ∷ []))
    (began ∷ onward ∷ onward ∷ onward ∷ began ∷ onward ∷ onward ∷ onward ∷ onward ∷ entered ∷ onward ∷ own_changer ∷ own_alpha ∷ no_page ∷ no_holder ∷ no_holder ∷ [])
    ∷ []

-- three levels
abbrev pub third_over_three : List Row
third_over_three =
    -- A deletion with two siblings: five grants, then five conversions, page 0, pages 5 and 6, pages 1 and 2.
    row (did tens (begin 0 (Delete 10 Third) ∷ watched 10 seven_pages))
    (began
    ∷ onward ∷ own_alpha ∷ no_holder ∷ no_holder ∷ no_holder ∷ no_holder ∷ no_holder ∷ no_holder
    ∷ onward ∷ own_alpha ∷ no_holder ∷ no_holder ∷ no_holder ∷ no_holder ∷ own_alpha ∷ no_holder
    ∷ onward ∷ own_alpha ∷ own_alpha ∷ no_holder ∷ no_holder ∷ no_holder ∷ own_alpha ∷ no_holder
    ∷ onward ∷ own_alpha ∷ own_alpha ∷ own_alpha ∷ no_holder ∷ no_holder ∷ own_alpha ∷ no_holder
    ∷ onward ∷ own_alpha ∷ own_alpha ∷ own_alpha ∷ no_holder ∷ no_holder ∷ own_alpha ∷ own_alpha
    ∷ onward ∷ own_changer ∷ own_alpha ∷ own_alpha ∷ no_holder ∷ no_holder ∷ own_alpha ∷ own_alpha
    ∷ onward ∷ own_changer ∷ own_alpha ∷ own_alpha ∷ no_holder ∷ no_holder ∷ own_changer ∷ own_alpha
    ∷ onward ∷ own_changer ∷ own_alpha ∷ own_alpha ∷ no_holder ∷ no_holder ∷ own_changer ∷ own_changer
    ∷ onward ∷ own_changer ∷ own_changer ∷ own_alpha ∷ no_holder ∷ no_holder ∷ own_changer ∷ own_changer
    ∷ deleted ∷ no_holder ∷ no_holder ∷ no_holder ∷ no_holder ∷ no_holder ∷ no_holder ∷ no_holder
    ∷ joined
    ∷ [])
    -- An insertion gives page 0 up at page 6, which has room, and converts page 6 and its full leaf.
    ∷ row (did tens (begin 0 (Insert 45 7 Third) ∷ watched 5 (0 ∷ 4 ∷ 6 ∷ [])))
    (began
    ∷ onward ∷ own_alpha ∷ no_holder ∷ no_holder
    ∷ onward ∷ no_holder ∷ no_holder ∷ own_alpha
    ∷ onward ∷ no_holder ∷ own_alpha ∷ own_alpha
    ∷ onward ∷ no_holder ∷ own_alpha ∷ own_changer
    ∷ no_page ∷ no_holder ∷ no_holder ∷ no_holder
    ∷ tens_words
    ∷ [])
    -- A deletion with one sibling that has an entry to spare: page 6 is converted with the two leaves, though page 0 was needed as long as nobody knew.
    ∷ row (did tens (begin 0 (Delete 30 Third) ∷ watched 8 (0 ∷ 3 ∷ 4 ∷ 6 ∷ [])))
    (began
    ∷ onward ∷ own_alpha ∷ no_holder ∷ no_holder ∷ no_holder
    ∷ onward ∷ own_alpha ∷ no_holder ∷ no_holder ∷ own_alpha
    ∷ onward ∷ own_alpha ∷ own_alpha ∷ no_holder ∷ own_alpha
    ∷ onward ∷ own_alpha ∷ own_alpha ∷ own_alpha ∷ own_alpha
    ∷ onward ∷ own_changer ∷ own_alpha ∷ own_alpha ∷ own_alpha
    ∷ onward ∷ own_changer ∷ own_alpha ∷ own_alpha ∷ own_changer
    ∷ onward ∷ own_changer ∷ own_changer ∷ own_alpha ∷ own_changer
    ∷ deleted ∷ no_holder ∷ no_holder ∷ no_holder ∷ no_holder
    ∷ (with_page (with_page (with_page tens 3 (1 ∷ 1 ∷ 40 ∷ 7 ∷ 0 ∷ 0 ∷ 0 ∷ [])) 4 (1 ∷ 1 ∷ 50 ∷ 7 ∷ 0 ∷ 0 ∷ 0 ∷ [])) 6 (2 ∷ 1 ∷ 3 ∷ 50 ∷ 4 ∷ 0 ∷ 0 ∷ [])).words
    ∷ [])
    ∷ []

-- 1, BadState, clause by clause. A row has first what is sound: a report for page 5 says who holds it.
abbrev pub third_states : List Row
third_states =
    -- A page that is not held is wanted with α and with nothing else: an insertion, a deletion, a regrading.
    row (looked (Insert 15 7 Third) 1 Alpha (5 ∷ []) (Alpha ∷ []) [] [] ++ looked (Insert 15 7 Third) 1 Xi (5 ∷ []) (Alpha ∷ []) [] [] ++ looked (Insert 15 7 Third) 1 UpdaterRho (5 ∷ []) (Alpha ∷ []) [] [] ++ looked (Insert 15 7 Third) 1 Rho (5 ∷ []) (Alpha ∷ []) [] [] ++ looked (Insert 15 7 Third) 1 None (5 ∷ []) (Alpha ∷ []) [] [])
    (own_alpha ∷ bad_state ∷ bad_state ∷ bad_state ∷ bad_state ∷ [])
    ∷ row (looked (Delete 10 Third) 1 Alpha (5 ∷ []) (Alpha ∷ []) [] [] ++ looked (Delete 10 Third) 1 Xi (5 ∷ []) (Alpha ∷ []) [] [] ++ looked (Delete 10 Third) 1 UpdaterRho (5 ∷ []) (Alpha ∷ []) [] [] ++ looked (Delete 10 Third) 1 Rho (5 ∷ []) (Alpha ∷ []) [] [])
    (own_alpha ∷ bad_state ∷ bad_state ∷ bad_state ∷ [])
    ∷ row (looked (Regrade 10 8 Third) 1 Alpha (5 ∷ []) (Alpha ∷ []) [] [] ++ looked (Regrade 10 8 Third) 1 Xi (5 ∷ []) (Alpha ∷ []) [] [] ++ looked (Regrade 10 8 Third) 0 Xi [] [] [] [])
    (own_alpha ∷ bad_state ∷ bad_state ∷ [])
    -- "wants a held page only as such a conversion from α": with ξ, and not from ξ.
    ∷ row (looked (Insert 15 7 Third) 5 Xi (5 ∷ []) (Alpha ∷ []) [] [] ++ looked (Insert 15 7 Third) 5 Xi (5 ∷ []) (Xi ∷ []) [] [] ++ looked (Insert 15 7 Third) 5 Alpha (5 ∷ []) (Alpha ∷ []) [] [] ++ looked (Insert 15 7 Third) 5 Alpha (5 ∷ []) (Xi ∷ []) [] [] ++ looked (Insert 15 7 Third) 5 Rho (5 ∷ []) (Alpha ∷ []) [] [])
    (own_alpha ∷ bad_state ∷ bad_state ∷ bad_state ∷ bad_state ∷ [])
    ∷ row (looked (Delete 10 Third) 1 Xi (5 ∷ 1 ∷ []) (Xi ∷ Alpha ∷ []) (2 ∷ []) (Alpha ∷ []) ++ looked (Delete 10 Third) 2 Xi (5 ∷ 1 ∷ []) (Alpha ∷ Alpha ∷ []) (2 ∷ []) (Alpha ∷ []) ++ looked (Delete 10 Third) 2 Xi (5 ∷ 1 ∷ []) (Alpha ∷ Alpha ∷ []) (2 ∷ []) (Xi ∷ []) ++ looked (Delete 10 Third) 1 Xi (5 ∷ 1 ∷ []) (Alpha ∷ Xi ∷ []) (2 ∷ []) (Alpha ∷ []))
    (own_changer ∷ own_alpha ∷ bad_state ∷ bad_state ∷ [])
    -- Nobody else wants a page that it holds: by the first way, by the second, a search, a Next.
    ∷ row (looked (Insert 15 7 First) 5 Xi (5 ∷ []) (Xi ∷ []) [] [] ++ looked (Insert 15 7 Second) 5 Xi (5 ∷ []) (UpdaterRho ∷ []) [] [] ++ looked (Search 10) 5 Rho (5 ∷ []) (Rho ∷ []) [] [] ++ looked (Next 10) 5 Rho (5 ∷ []) (Rho ∷ []) [] [])
    (bad_state ∷ bad_state ∷ bad_state ∷ bad_state ∷ [])
    -- A page is held with α, or with ξ, and with no other kind; whether it is the right one is asked of the pages.
    ∷ row (looked (Insert 15 7 Third) 1 Alpha (5 ∷ []) (Xi ∷ []) [] [] ++ looked (Insert 15 7 Third) 1 Alpha (5 ∷ []) (Rho ∷ []) [] [] ++ looked (Insert 15 7 Third) 1 Alpha (5 ∷ []) (UpdaterRho ∷ []) [] [] ++ looked (Insert 15 7 Third) 1 Alpha (5 ∷ []) (None ∷ []) [] [])
    (own_changer ∷ bad_state ∷ bad_state ∷ bad_state ∷ [])
    ∷ row (looked (Delete 10 Third) 6 Alpha (5 ∷ 1 ∷ []) (Alpha ∷ Alpha ∷ []) (2 ∷ []) (Alpha ∷ []) ++ looked (Delete 10 Third) 6 Alpha (5 ∷ 1 ∷ []) (Alpha ∷ Rho ∷ []) (2 ∷ []) (Alpha ∷ []) ++ looked (Delete 10 Third) 6 Alpha (5 ∷ 1 ∷ []) (Alpha ∷ Alpha ∷ []) (2 ∷ []) (Rho ∷ []) ++ looked (Delete 10 Third) 6 Alpha (5 ∷ 1 ∷ []) (Alpha ∷ Xi ∷ []) (2 ∷ []) (Xi ∷ []))
    (own_alpha ∷ bad_state ∷ bad_state ∷ own_alpha ∷ [])
    -- By any other way nothing is held with α.
    ∷ row (looked (Insert 15 7 First) 1 Xi (5 ∷ []) (Alpha ∷ []) [] [] ++ looked (Insert 15 7 Second) 1 Xi (5 ∷ []) (Alpha ∷ []) [] [] ++ looked (Search 10) 1 Rho (5 ∷ []) (Alpha ∷ []) [] [] ++ looked (Insert 15 7 First) 1 Alpha (5 ∷ []) (Xi ∷ []) [] [])
    (bad_state ∷ bad_state ∷ bad_state ∷ bad_state ∷ [])
    -- Limits as by the first way: a regrading holds one page, siblings are a deletion's, and fewer than its path.
    ∷ row (looked (Regrade 10 8 Third) 1 Alpha (0 ∷ 5 ∷ []) (Alpha ∷ Alpha ∷ []) [] [] ++ looked (Insert 15 7 Third) 1 Alpha (0 ∷ 5 ∷ []) (Alpha ∷ Alpha ∷ []) [] [] ++ looked (Insert 15 7 Third) 6 Alpha (5 ∷ 1 ∷ []) (Alpha ∷ Alpha ∷ []) (2 ∷ []) (Alpha ∷ []) ++ looked (Delete 10 Third) 6 Alpha (5 ∷ 1 ∷ []) (Alpha ∷ Alpha ∷ []) (2 ∷ 0 ∷ []) (Alpha ∷ Alpha ∷ []))
    (bad_state ∷ own_alpha ∷ bad_state ∷ bad_state ∷ [])
    -- No page is held twice.
    ∷ row (looked (Delete 10 Third) 6 Alpha (5 ∷ 5 ∷ []) (Alpha ∷ Alpha ∷ []) [] [] ++ looked (Delete 10 Third) 5 Xi (5 ∷ 1 ∷ []) (Alpha ∷ Alpha ∷ []) (1 ∷ []) (Alpha ∷ []))
    (bad_state ∷ bad_state ∷ [])
    ∷ []

-- 6, Damaged, clause by clause
abbrev pub third_damage : List Row
third_damage =
    -- Whose turn it is: ξ up to the wanted page and α from it on, each of the five.
    row (once (converts 0 (Alpha ∷ Alpha ∷ Alpha ∷ []) (Alpha ∷ Alpha ∷ [])) ++ once (converts 5 (Xi ∷ Alpha ∷ Alpha ∷ []) (Alpha ∷ Alpha ∷ [])) ++ once (converts 6 (Xi ∷ Xi ∷ Alpha ∷ []) (Alpha ∷ Alpha ∷ [])) ++ once (converts 1 (Xi ∷ Xi ∷ Alpha ∷ []) (Alpha ∷ Xi ∷ [])) ++ once (converts 2 (Xi ∷ Xi ∷ Xi ∷ []) (Alpha ∷ Xi ∷ [])))
    (onward ∷ onward ∷ onward ∷ onward ∷ deleted ∷ [])
    -- From the leaf up; a sibling before its path page; a level too low; the last page while another is still α.
    ∷ row (once (converts 1 (Alpha ∷ Alpha ∷ Alpha ∷ []) (Alpha ∷ Alpha ∷ [])) ++ once (converts 6 (Xi ∷ Alpha ∷ Alpha ∷ []) (Alpha ∷ Alpha ∷ [])) ++ once (converts 1 (Xi ∷ Xi ∷ Alpha ∷ []) (Alpha ∷ Alpha ∷ [])) ++ once (converts 2 (Xi ∷ Xi ∷ Alpha ∷ []) (Alpha ∷ Xi ∷ [])) ++ once (converts 2 (Alpha ∷ Xi ∷ Xi ∷ []) (Alpha ∷ Xi ∷ [])))
    (damaged_step ∷ damaged_step ∷ damaged_step ∷ damaged_step ∷ damaged_step ∷ [])
    -- A page below its turn that has ξ already: on the path, beside it.
    ∷ row (once (converts 0 (Alpha ∷ Alpha ∷ Xi ∷ []) (Alpha ∷ Alpha ∷ [])) ++ once (converts 0 (Alpha ∷ Alpha ∷ Alpha ∷ []) (Xi ∷ Alpha ∷ [])) ++ once (converts 5 (Xi ∷ Alpha ∷ Alpha ∷ []) (Alpha ∷ Xi ∷ [])))
    (damaged_step ∷ damaged_step ∷ damaged_step ∷ [])
    -- As it goes down all that it holds has α: a path page, a sibling.
    ∷ row (once (stands_with (Insert 15 7 Third) 1 Alpha (5 ∷ []) (Alpha ∷ []) [] []) ++ once (stands_with (Insert 15 7 Third) 1 Alpha (5 ∷ []) (Xi ∷ []) [] []))
    (onward ∷ damaged_step ∷ [])
    ∷ row (once (stands_with (Delete 10 Third) 6 Alpha (0 ∷ 5 ∷ 1 ∷ []) (Alpha ∷ Alpha ∷ Alpha ∷ []) (2 ∷ []) (Alpha ∷ [])) ++ once (stands_with (Delete 10 Third) 6 Alpha (0 ∷ 5 ∷ 1 ∷ []) (Alpha ∷ Alpha ∷ Alpha ∷ []) (2 ∷ []) (Xi ∷ [])) ++ once (stands_with (Delete 10 Third) 6 Alpha (0 ∷ 5 ∷ 1 ∷ []) (Xi ∷ Alpha ∷ Alpha ∷ []) (2 ∷ []) (Alpha ∷ [])))
    (onward ∷ damaged_step ∷ damaged_step ∷ [])
    -- Nothing but page 0 is wanted first, and then what the key leads to; at its leaf an insertion and a regrading want nothing new.
    ∷ row (once (stands_with (Insert 15 7 Third) 0 Alpha [] [] [] []) ++ once (stands_with (Insert 15 7 Third) 5 Alpha [] [] [] []) ++ once (stands_with (Insert 15 7 Third) 6 Alpha (0 ∷ []) (Alpha ∷ []) [] []) ++ once (stands_with (Insert 15 7 Third) 2 Alpha (1 ∷ []) (Alpha ∷ []) [] []) ++ once (stands_with (Regrade 10 8 Third) 2 Alpha (1 ∷ []) (Alpha ∷ []) [] []))
    (onward ∷ damaged_step ∷ damaged_step ∷ damaged_step ∷ damaged_step ∷ [])
    -- It converts at its leaf, and not above it: an insertion, a regrading, a deletion.
    ∷ row (once (turns (Insert 15 7 Third) 1 (1 ∷ []) (Alpha ∷ []) [] []) ++ once (turns (Insert 15 7 Third) 5 (5 ∷ []) (Alpha ∷ []) [] []))
    (entered ∷ damaged_step ∷ [])
    ∷ row (once (turns (Regrade 10 8 Third) 1 (1 ∷ []) (Alpha ∷ []) [] []) ++ once (turns (Regrade 10 8 Third) 5 (5 ∷ []) (Alpha ∷ []) [] []))
    (regraded ∷ damaged_step ∷ [])
    ∷ row (once (turns (Delete 10 Third) 0 (0 ∷ 5 ∷ []) (Alpha ∷ Alpha ∷ []) [] []) ++ once (turns (Delete 10 Third) 0 (0 ∷ []) (Alpha ∷ []) [] []))
    (damaged_step ∷ damaged_step ∷ [])
    -- The leaf does not give the answer by itself: a key that is there, two that are missing.
    ∷ row (once (turns (Insert 10 7 Third) 1 (1 ∷ []) (Alpha ∷ []) [] []) ++ once (turns (Regrade 11 8 Third) 1 (1 ∷ []) (Alpha ∷ []) [] []) ++ once (turns (Delete 11 Third) 0 (0 ∷ 5 ∷ 1 ∷ []) (Alpha ∷ Alpha ∷ Alpha ∷ []) (2 ∷ 6 ∷ []) (Alpha ∷ Alpha ∷ [])))
    (damaged_step ∷ damaged_step ∷ damaged_step ∷ [])
    -- No sibling is needed but those that it holds: none, one of two; and where page 2 has an entry to spare, one is enough and two are too many.
    ∷ row (once (turns (Delete 10 Third) 0 (0 ∷ 5 ∷ 1 ∷ []) (Alpha ∷ Alpha ∷ Alpha ∷ []) [] []) ++ once (turns (Delete 10 Third) 0 (0 ∷ 5 ∷ 1 ∷ []) (Alpha ∷ Alpha ∷ Alpha ∷ []) (2 ∷ []) (Alpha ∷ [])))
    (damaged_step ∷ damaged_step ∷ [])
    ∷ row (once (with_page (turns (Delete 10 Third) 0 (0 ∷ 5 ∷ 1 ∷ []) (Alpha ∷ Alpha ∷ Alpha ∷ []) (2 ∷ []) (Alpha ∷ [])) 2 spare_leaf) ++ once (with_page (converts 0 (Alpha ∷ Alpha ∷ Alpha ∷ []) (Alpha ∷ Alpha ∷ [])) 2 spare_leaf))
    (onward ∷ damaged_step ∷ [])
    -- Each sibling is the one that the rules took, one level below its father.
    ∷ row (once (turns (Delete 10 Third) 0 (0 ∷ 5 ∷ 1 ∷ []) (Alpha ∷ Alpha ∷ Alpha ∷ []) (6 ∷ 2 ∷ []) (Alpha ∷ Alpha ∷ [])) ++ once (turns (Delete 10 Third) 0 (0 ∷ 5 ∷ 1 ∷ []) (Alpha ∷ Alpha ∷ Alpha ∷ []) (3 ∷ 6 ∷ []) (Alpha ∷ Alpha ∷ [])) ++ once (with_page (converts 0 (Alpha ∷ Alpha ∷ Alpha ∷ []) (Alpha ∷ Alpha ∷ [])) 2 (2 ∷ 1 ∷ 3 ∷ 20 ∷ 4 ∷ 0 ∷ 0 ∷ [])) ++ once (damaged (converts 0 (Alpha ∷ Alpha ∷ Alpha ∷ []) (Alpha ∷ Alpha ∷ [])) 42 3))
    (damaged_step ∷ damaged_step ∷ damaged_step ∷ damaged_step ∷ [])
    -- The path is the way of the key, from page 0 or a page that is safe, and none below that is: page 2 for 10; page 5 on top, with no key to spare; a
    -- full leaf without its father, and with it; page 5 above a leaf with room.
    ∷ row (once (turns (Delete 10 Third) 0 (0 ∷ 5 ∷ 2 ∷ []) (Alpha ∷ Alpha ∷ Alpha ∷ []) (1 ∷ 6 ∷ []) (Alpha ∷ Alpha ∷ [])) ++ once (turns (Delete 10 Third) 5 (5 ∷ 1 ∷ []) (Alpha ∷ Alpha ∷ []) (2 ∷ []) (Alpha ∷ [])))
    (damaged_step ∷ damaged_step ∷ [])
    ∷ row (once (turns (Insert 45 7 Third) 4 (4 ∷ []) (Alpha ∷ []) [] []) ++ once (turns (Insert 45 7 Third) 6 (6 ∷ 4 ∷ []) (Alpha ∷ Alpha ∷ []) [] []) ++ once (turns (Insert 15 7 Third) 5 (5 ∷ 1 ∷ []) (Alpha ∷ Alpha ∷ []) [] []))
    (damaged_step ∷ onward ∷ damaged_step ∷ [])
    -- Each page that it holds is sound by itself: an unused word of page 1 is 9, of page 6, of page 0; and one of page 3, which it does not hold.
    ∷ row (once (damaged (converts 0 (Alpha ∷ Alpha ∷ Alpha ∷ []) (Alpha ∷ Alpha ∷ [])) 13 9) ++ once (damaged (converts 0 (Alpha ∷ Alpha ∷ Alpha ∷ []) (Alpha ∷ Alpha ∷ [])) 48 9) ++ once (damaged (converts 0 (Alpha ∷ Alpha ∷ Alpha ∷ []) (Alpha ∷ Alpha ∷ [])) 6 9) ++ once (damaged (converts 0 (Alpha ∷ Alpha ∷ Alpha ∷ []) (Alpha ∷ Alpha ∷ [])) 27 9))
    (damaged_step ∷ damaged_step ∷ damaged_step ∷ onward ∷ [])
    -- "the page it would want next is none that it would then hold", as it goes down: page 5 leads to itself. A conversion is no such page.
    ∷ row (once (damaged (stands_with (Delete 20 Third) 5 Alpha (0 ∷ []) (Alpha ∷ []) [] []) 39 5))
    (damaged_step ∷ [])
    -- "as given, the slot stays open, the lock is not taken"
    ∷ row (did (converts 1 (Alpha ∷ Alpha ∷ Alpha ∷ []) (Alpha ∷ Alpha ∷ [])) (step 0 ∷ report 1 ∷ report 0 ∷ step 0 ∷ []))
    (damaged_step ∷ own_alpha ∷ own_alpha ∷ damaged_step ∷ tens_words ∷ [])
    ∷ []

-- all of them
abbrev pub third_rows : List Row
third_rows = third_in_e ++ third_at_the_root ++ third_pairs ++ third_waits ++ third_over_three ++ third_states ++ third_damage
