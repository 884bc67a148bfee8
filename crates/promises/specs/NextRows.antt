-- The next lot on the bench: where a Next goes, which pages it holds on its way, who waits for whom, and what is refused.
-- A second program answers the same (`rust/twin`, whose tests read this table, its calls and its answers).
use Rattle.std.specs.Prelude.{ℕ, zero, suc, ◌+◌, ◌*◌, List, [], ◌∷◌, ◌++◌, map, set, take, drop}
use Rattle.slots.specs.declared.Op.{Op}
use Rattle.slots.specs.declared.Op.TheVariants.{Insert, Delete, Next}
use Rattle.slots.specs.declared.Way.TheVariants.{First}
use Rattle.slots.specs.declared.Lock.{Lock}
use Rattle.slots.specs.declared.Lock.TheVariants.{None, Rho, Xi}
use Rattle.slots.specs.declared.Slot.{Slot}
use Rattle.slots.specs.declared.State.{State}
use Rattle.slots.specs.declared.Answer.TheVariants.{Reported, BadState, Damaged, Next as NextLot, None as NoLot}
use Rattle.slots.specs.Heard.{heard}
use Rattle.slots.specs.Parts.{held_lock, under, open_slot, idle_state}
use Rattle.runs.specs.Run.{Call, begin, step, report, Told, ran}
use Rattle.promises.specs.Bench.{Row, row, runs, puts, two, three, pool, case_e}
use Rattle.promises.specs.MoreRows.{damaged, answers}
use Rattle.promises.specs.LongRun.{began, onward, waits, entered}

-- what a Next hears, information 7
abbrev pub next : ℕ → List ℕ
next x = heard (NextLot x 7)

abbrev pub none : List ℕ
none = heard NoLot

-- what a report says: nobody holds the page; slot 0 reads it; slots 0 and 1 read it; slot 1 is to change it
abbrev pub no_holder : List ℕ
no_holder = heard (Reported None 0 16)

abbrev pub reader : List ℕ
reader = heard (Reported Rho 1 0)

abbrev pub readers : List ℕ
readers = heard (Reported Rho 2 0)

abbrev pub changer : List ℕ
changer = heard (Reported Xi 1 1)

abbrev pub damaged_step : List ℕ
damaged_step = heard Damaged

abbrev pub bad_state : List ℕ
bad_state = heard BadState

-- Three levels, k = 1, 7 pages: page 0 leads to pages 5 and 6, page 5 to the leaves 1 and 2, page 6 to the leaves 3 and 4.
abbrev pub tens_words : List ℕ
tens_words =
    3 ∷ 1 ∷ 5 ∷ 30 ∷ 6 ∷ 0 ∷ 0 ∷
    1 ∷ 1 ∷ 10 ∷ 7 ∷ 0 ∷ 0 ∷ 0 ∷
    1 ∷ 1 ∷ 20 ∷ 7 ∷ 0 ∷ 0 ∷ 0 ∷
    1 ∷ 1 ∷ 30 ∷ 7 ∷ 0 ∷ 0 ∷ 0 ∷
    1 ∷ 2 ∷ 40 ∷ 7 ∷ 50 ∷ 7 ∷ 0 ∷
    2 ∷ 1 ∷ 1 ∷ 20 ∷ 2 ∷ 0 ∷ 0 ∷
    2 ∷ 1 ∷ 3 ∷ 40 ∷ 4 ∷ 0 ∷ 0 ∷ []

-- all slots closed, and these words
abbrev pub tens : Told
tens = ran [] (idle_state 1 7) tens_words

-- a look at some pages
abbrev pub looks : List ℕ → List Call
looks [] = []
looks (p ∷ ps) = report p ∷ looks ps

-- n steps of slot 0, and after each a look at these pages
abbrev pub watched : ℕ → List ℕ → List Call
watched zero ps = []
watched (suc n) ps = step 0 ∷ looks ps ++ watched n ps

-- a slot with this operation that wants this page with this kind of lock, and holds this path and what stands beside it, each page with the kind of
-- its operation
abbrev pub slot_holding : Op → ℕ → Lock → List ℕ → List ℕ → Slot
slot_holding op want lock path beside =
    open_slot op want lock path (map (λ (p : ℕ). under (held_lock op)) path) beside (map (λ (p : ℕ). under (held_lock op)) beside)

-- a state of n pages in which slot 0 is such a slot
abbrev pub slot_wanting : ℕ → Op → ℕ → Lock → List ℕ → List ℕ → State
slot_wanting n op want lock path beside = record { k = 1; n = n; slots = set (idle_state 1 n).slots 0 (slot_holding op want lock path beside); order = (idle_state 1 n).order; waiting = 1 }

-- that wants it with the kind under which it holds
abbrev pub slot_open : ℕ → Op → ℕ → List ℕ → List ℕ → State
slot_open n op want path beside = slot_wanting n op want (held_lock op) path beside

-- slot 0 asks for the next lot from 25, in the words of three levels
abbrev pub next_slot : ℕ → ℕ → List ℕ → List ℕ → Told
next_slot n want path second = ran [] (slot_open n (Next 25) want path second) tens_words

-- at its leaf, before the first page of its second way
abbrev pub at_first_leaf : Told
at_first_leaf = next_slot 7 6 (0 ∷ 5 ∷ 2 ∷ []) []

-- on its second way, before the second leaf
abbrev pub on_second_way : Told
on_second_way = next_slot 7 3 (0 ∷ 5 ∷ 2 ∷ []) (6 ∷ [])

-- the same with other words in page p
abbrev pub with_page : Told → ℕ → List ℕ → Told
with_page t p page = ran [] t.state (take (p * 7) t.words ++ page ++ drop (7 + p * 7) t.words)

abbrev pub next_rows : List Row
next_rows =
    -- 10, 20, .. 50 inserted one after the other give the three levels
    row ((pool 7 (puts 10 ++ puts 20 ++ puts 30 ++ runs 0 (Insert 40 7 First) 2 ++ runs 0 (Insert 50 7 First) 2)).words ∷ []) (tens_words ∷ [])
    -- in an empty pool: None in one grant
    ∷ row (answers (pool 1 []) (runs 0 (Next 5) 1))
    (began ∷ none ∷ [])
    -- a root leaf with 10 and 20: a key that is there, between two, above all
    ∷ row (answers (pool 1 two) (runs 0 (Next 10) 1 ++ runs 0 (Next 11) 1 ++ runs 0 (Next 21) 1))
    (began ∷ next 10 ∷ began ∷ next 20 ∷ began ∷ none ∷ [])
    -- the same over two levels
    ∷ row (answers case_e (runs 0 (Next 20) 2 ++ runs 0 (Next 21) 2 ++ runs 0 (Next 31) 2))
    (began ∷ onward ∷ next 20 ∷ began ∷ onward ∷ next 30 ∷ began ∷ onward ∷ none ∷ [])
    -- two levels, by the second way: the leaf is kept beside page 0
    ∷ row (answers case_e (begin 0 (Next 15) ∷ watched 3 (0 ∷ 1 ∷ 2 ∷ [])))
    (began
    ∷ onward ∷ reader ∷ no_holder ∷ no_holder
    ∷ onward ∷ reader ∷ reader ∷ no_holder
    ∷ next 20 ∷ no_holder ∷ no_holder ∷ no_holder
    ∷ [])
    -- "the next child to the right", not the last: page 0 has three children
    ∷ row (answers (pool 4 (three ++ runs 0 (Insert 40 7 First) 2)) (runs 0 (Next 15) 3 ++ runs 0 (Next 25) 3))
    (began ∷ onward ∷ onward ∷ next 20 ∷ began ∷ onward ∷ onward ∷ next 30 ∷ [])
    -- three levels, by the second way from page 0: down to the leaf 2, then by page 6 to the leaf 3, giving nothing up
    ∷ row (answers tens (begin 0 (Next 25) ∷ watched 5 (0 ∷ 5 ∷ 2 ∷ 6 ∷ 3 ∷ [])))
    (began
    ∷ onward ∷ reader ∷ no_holder ∷ no_holder ∷ no_holder ∷ no_holder
    ∷ onward ∷ reader ∷ reader ∷ no_holder ∷ no_holder ∷ no_holder
    ∷ onward ∷ reader ∷ reader ∷ reader ∷ no_holder ∷ no_holder
    ∷ onward ∷ reader ∷ reader ∷ reader ∷ reader ∷ no_holder
    ∷ next 30 ∷ no_holder ∷ no_holder ∷ no_holder ∷ no_holder ∷ no_holder
    ∷ [])
    -- three levels, by the second way from page 5, which has a child to the right: page 0 is given up
    ∷ row (answers tens (begin 0 (Next 15) ∷ watched 4 (0 ∷ 5 ∷ 1 ∷ 2 ∷ [])))
    (began
    ∷ onward ∷ reader ∷ no_holder ∷ no_holder ∷ no_holder
    ∷ onward ∷ no_holder ∷ reader ∷ no_holder ∷ no_holder
    ∷ onward ∷ no_holder ∷ reader ∷ reader ∷ no_holder
    ∷ next 20 ∷ no_holder ∷ no_holder ∷ no_holder ∷ no_holder
    ∷ [])
    -- no page of the way has a child to the right: all are held from page 0, and the leaf says None
    ∷ row (answers tens (begin 0 (Next 51) ∷ watched 3 (0 ∷ 6 ∷ 4 ∷ [])))
    (began
    ∷ onward ∷ reader ∷ no_holder ∷ no_holder
    ∷ onward ∷ reader ∷ reader ∷ no_holder
    ∷ none ∷ no_holder ∷ no_holder ∷ no_holder
    ∷ [])
    -- an insertion waits above it until its answer; its key is the next one then
    ∷ row (answers tens (runs 0 (Next 25) 1 ++ runs 1 (Insert 26 7 First) 1 ++ step 0 ∷ step 1 ∷ step 0 ∷ step 1 ∷ step 0 ∷ step 1 ∷ step 0 ∷ step 1 ∷ step 1 ∷ step 1 ∷ runs 0 (Next 25) 3))
    (began ∷ onward ∷ began ∷ waits ∷ onward ∷ waits ∷ onward ∷ waits ∷ onward ∷ waits ∷ next 30 ∷ onward ∷ onward ∷ entered
    ∷ began ∷ onward ∷ onward ∷ next 26 ∷ [])
    -- where page 0 is given up the insertion comes in there, and waits for page 5
    ∷ row (answers tens (runs 0 (Next 15) 2 ++ runs 1 (Insert 16 7 First) 2 ++ report 0 ∷ report 5 ∷ step 0 ∷ step 1 ∷ step 0 ∷ step 1 ∷ step 1 ∷ []))
    (began ∷ onward ∷ onward ∷ began ∷ onward ∷ waits ∷ changer ∷ reader ∷ onward ∷ waits ∷ next 20 ∷ onward ∷ entered ∷ [])
    -- on its second way it waits for an insertion that holds page 6
    ∷ row (answers tens (runs 1 (Insert 35 7 First) 2 ++ report 6 ∷ runs 0 (Next 25) 4 ++ step 1 ∷ step 0 ∷ step 0 ∷ []))
    (began ∷ onward ∷ onward ∷ changer ∷ began ∷ onward ∷ onward ∷ onward ∷ waits ∷ entered ∷ onward ∷ next 30 ∷ [])
    -- two of them go together: slot 1 is granted page 2, for which slot 0's want is older (02 (iii)), and has its answer first
    ∷ row (answers tens (runs 0 (Next 25) 2 ++ runs 1 (Next 25) 3 ++ step 0 ∷ report 0 ∷ report 5 ∷ report 2 ∷ step 1 ∷ step 0 ∷ step 1 ∷ step 0 ∷ []))
    (began ∷ onward ∷ onward ∷ began ∷ onward ∷ onward ∷ onward ∷ onward ∷ readers ∷ readers ∷ readers
    ∷ onward ∷ onward ∷ next 30 ∷ next 30 ∷ [])
    -- 6, Damaged, clause by clause. Each page held and the wanted one is sound by itself: an unused word of pages 2, 6 and 3 is 9.
    -- Of page 4 nothing is asked.
    ∷ row (answers (damaged on_second_way 20 9) (step 0 ∷ []))
    (damaged_step ∷ [])
    ∷ row (answers (damaged on_second_way 47 9) (step 0 ∷ []))
    (damaged_step ∷ [])
    ∷ row (answers (damaged on_second_way 27 9) (step 0 ∷ []))
    (damaged_step ∷ [])
    ∷ row (answers (damaged on_second_way 34 9) (step 0 ∷ []))
    (next 30 ∷ [])
    -- coming down: page 5, the top of the path, is not page 0 and has no child to the right
    ∷ row (answers (next_slot 7 2 (5 ∷ []) []) (step 0 ∷ []))
    (damaged_step ∷ [])
    -- page 5, below the top, has a child to the right
    ∷ row (answers (with_page on_second_way 5 (2 ∷ 1 ∷ 2 ∷ 30 ∷ 3 ∷ 0 ∷ 0 ∷ [])) (step 0 ∷ []))
    (damaged_step ∷ [])
    -- page 5 leads to page 4, not to page 2
    ∷ row (answers (damaged on_second_way 39 4) (step 0 ∷ []))
    (damaged_step ∷ [])
    -- the levels of the path are 4, 2 and 1; they are 4, 3 and 1
    ∷ row (answers (damaged (damaged at_first_leaf 0 4) 42 3) (step 0 ∷ []))
    (damaged_step ∷ [])
    ∷ row (answers (damaged (damaged (damaged at_first_leaf 0 4) 42 3) 35 3) (step 0 ∷ []))
    (damaged_step ∷ [])
    -- page 6 stands beside a path that ends above the leaves, with the route wanted, and with the second way's page
    ∷ row (answers (next_slot 7 2 (0 ∷ 5 ∷ []) (6 ∷ [])) (step 0 ∷ []))
    (damaged_step ∷ [])
    ∷ row (answers (next_slot 7 3 (0 ∷ 5 ∷ []) (6 ∷ [])) (step 0 ∷ []))
    (damaged_step ∷ [])
    -- its leaf has a key at or above: 25, and not 24
    ∷ row (answers (damaged on_second_way 16 25) (step 0 ∷ []))
    (damaged_step ∷ [])
    ∷ row (answers (damaged on_second_way 16 24) (step 0 ∷ []))
    (next 30 ∷ [])
    -- page 0 has no child to the right: page 6 is its left neighbour
    ∷ row (answers (with_page on_second_way 0 (3 ∷ 1 ∷ 6 ∷ 20 ∷ 5 ∷ 0 ∷ 0 ∷ [])) (step 0 ∷ []))
    (damaged_step ∷ [])
    -- page 0's next child to the right is page 4
    ∷ row (answers (damaged on_second_way 4 4) (step 0 ∷ []))
    (damaged_step ∷ [])
    -- the next child has page 0's level
    ∷ row (answers (damaged at_first_leaf 42 3) (step 0 ∷ []))
    (damaged_step ∷ [])
    -- p0 of page 6 is page 1
    ∷ row (answers (damaged on_second_way 44 1) (step 0 ∷ []))
    (damaged_step ∷ [])
    -- p0 of page 6 has page 6's level
    ∷ row (answers (with_page on_second_way 3 (2 ∷ 1 ∷ 1 ∷ 40 ∷ 4 ∷ 0 ∷ 0 ∷ [])) (step 0 ∷ []))
    (damaged_step ∷ [])
    -- from page 6 it would want page 5, which it holds; the lock is not taken and the slot stays open
    ∷ row (answers (damaged at_first_leaf 44 5) (step 0 ∷ report 6 ∷ report 2 ∷ step 0 ∷ []))
    (damaged_step ∷ no_holder ∷ reader ∷ damaged_step ∷ [])
    -- from page 6 it would want page 6; from its leaf, page 2, it would want page 2
    ∷ row (answers (damaged at_first_leaf 44 6) (step 0 ∷ []))
    (damaged_step ∷ [])
    ∷ row (answers (damaged (next_slot 7 2 (0 ∷ 5 ∷ []) []) 4 2) (step 0 ∷ []))
    (damaged_step ∷ [])
    -- a deletion of 25, which its leaf has not, goes no second way
    ∷ row (answers (with_page (ran [] (slot_open 7 (Delete 25 First) 3 (5 ∷ 2 ∷ []) []) tens_words) 5 (2 ∷ 2 ∷ 1 ∷ 20 ∷ 2 ∷ 30 ∷ 3 ∷ [])) (step 0 ∷ []))
    (damaged_step ∷ [])
    -- "the leftmost way": by p0 of page 6, though 25 would be routed to page 4; at the second leaf no key below 25 is answered
    ∷ row (answers (damaged at_first_leaf 45 20) (step 0 ∷ step 0 ∷ []))
    (onward ∷ next 30 ∷ [])
    ∷ row (answers (damaged on_second_way 23 1) (step 0 ∷ []))
    (none ∷ [])
    -- 1, BadState: as many pages beside the path as on it
    ∷ row (answers (next_slot 7 2 (0 ∷ 5 ∷ []) (6 ∷ 3 ∷ [])) (step 0 ∷ report 0 ∷ []))
    (bad_state ∷ bad_state ∷ [])
    -- "In a sound state it may hold up to 19 pages": 10 on its path and 9 beside it, not 11 on its path
    ∷ row (answers (next_slot 20 19 (0 ∷ 1 ∷ 2 ∷ 3 ∷ 4 ∷ 5 ∷ 6 ∷ 7 ∷ 8 ∷ 9 ∷ []) (10 ∷ 11 ∷ 12 ∷ 13 ∷ 14 ∷ 15 ∷ 16 ∷ 17 ∷ 18 ∷ [])) (report 18 ∷ report 19 ∷ []))
    (reader ∷ no_holder ∷ [])
    ∷ row (answers (next_slot 20 19 (0 ∷ 1 ∷ 2 ∷ 3 ∷ 4 ∷ 5 ∷ 6 ∷ 7 ∷ 8 ∷ 9 ∷ 10 ∷ []) []) (report 9 ∷ []))
    (bad_state ∷ [])
    ∷ []
