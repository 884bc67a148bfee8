-- Damage on the bench, for insertions and deletions: each clause of "Pages are sound for a step", k = 1. A row has one step where the
-- clause fails, which is answered Damaged, and beside it one where it holds and all else is alike. Then how many pages an operation may
-- hold in a sound state. A second program answers the same (`rust/twin`, whose tests read this table, its calls and its answers).
use Rattle.std.specs.Prelude.{ℕ, List, [], ◌∷◌, ◌++◌}
use Rattle.slots.specs.declared.Op.{Op}
use Rattle.slots.specs.declared.Op.TheVariants.{Search, Insert, Delete, Regrade}
use Rattle.slots.specs.declared.Way.TheVariants.{First}
use Rattle.slots.specs.declared.Lock.TheVariants.{Xi}
use Rattle.slots.specs.declared.Answer.TheVariants.{Reported}
use Rattle.slots.specs.Heard.{heard}
use Rattle.runs.specs.Run.{step, report, Told, ran}
use Rattle.promises.specs.Bench.{Row, row, runs, puts, pool}
use Rattle.promises.specs.MoreRows.{damaged, answers}
use Rattle.promises.specs.LongRun.{onward, entered, deleted, no_page}
use Rattle.promises.specs.NextRows.{no_holder, damaged_step, bad_state, tens_words, slot_open, with_page}
use Rattle.promises.specs.WideRows.{did}

-- 10, 20, .. 60: page 0 over pages 5 and 6, page 6 and its last leaf, page 7, are full; pages 8, 9 and 10 are free
abbrev pub to_sixty : List ℕ
to_sixty =
    3 ∷ 1 ∷ 5 ∷ 30 ∷ 6 ∷ 0 ∷ 0 ∷
    1 ∷ 1 ∷ 10 ∷ 7 ∷ 0 ∷ 0 ∷ 0 ∷
    1 ∷ 1 ∷ 20 ∷ 7 ∷ 0 ∷ 0 ∷ 0 ∷
    1 ∷ 1 ∷ 30 ∷ 7 ∷ 0 ∷ 0 ∷ 0 ∷
    1 ∷ 1 ∷ 40 ∷ 7 ∷ 0 ∷ 0 ∷ 0 ∷
    2 ∷ 1 ∷ 1 ∷ 20 ∷ 2 ∷ 0 ∷ 0 ∷
    2 ∷ 2 ∷ 3 ∷ 40 ∷ 4 ∷ 50 ∷ 7 ∷
    1 ∷ 2 ∷ 50 ∷ 7 ∷ 60 ∷ 7 ∷ 0 ∷
    0 ∷ 0 ∷ 0 ∷ 0 ∷ 0 ∷ 0 ∷ 0 ∷
    0 ∷ 0 ∷ 0 ∷ 0 ∷ 0 ∷ 0 ∷ 0 ∷
    0 ∷ 0 ∷ 0 ∷ 0 ∷ 0 ∷ 0 ∷ 0 ∷ []

-- slot 0 inserts 65 there; it wants this page, and holds this path and these beside it
abbrev pub inserting : ℕ → List ℕ → List ℕ → Told
inserting want path beside = ran [] (slot_open 11 (Insert 65 7 First) want path beside) to_sixty

-- slot 0 deletes 10 where page 0 stands over pages 5 and 6, page 5 over the leaves 1 and 2, and no page but leaf 4 can spare a key
abbrev pub deleting : ℕ → List ℕ → List ℕ → Told
deleting want path beside = ran [] (slot_open 7 (Delete 10 First) want path beside) tens_words

-- slot 0 holds these pages of 20 and wants page 19: what a report for page 18 says
abbrev pub looked_at : Op → List ℕ → List ℕ → List (List ℕ)
looked_at op path beside = answers (ran [] (slot_open 20 op 19 path beside) []) (report 18 ∷ [])

abbrev pub ten_pages : List ℕ
ten_pages = 0 ∷ 1 ∷ 2 ∷ 3 ∷ 4 ∷ 5 ∷ 6 ∷ 7 ∷ 8 ∷ 9 ∷ []

abbrev pub eleven_pages : List ℕ
eleven_pages = ten_pages ++ 10 ∷ []

abbrev pub nine_beside : List ℕ
nine_beside = 10 ∷ 11 ∷ 12 ∷ 13 ∷ 14 ∷ 15 ∷ 16 ∷ 17 ∷ 18 ∷ []

-- what a step of slot 0 is answered
abbrev pub once : Told → List (List ℕ)
once t = answers t (step 0 ∷ [])

-- an insertion as it comes down: before page 0, before page 6, before its leaf
abbrev pub insert_before0 : Told
insert_before0 = inserting 0 [] []

abbrev pub insert_before6 : Told
insert_before6 = inserting 6 (0 ∷ []) []

abbrev pub insert_before7 : Told
insert_before7 = inserting 7 (0 ∷ 6 ∷ []) []

-- page 6 with one key, and room for another
abbrev pub roomy : List ℕ
roomy = 2 ∷ 1 ∷ 3 ∷ 50 ∷ 7 ∷ 0 ∷ 0 ∷ []

-- before page 7, with pages 0 and 6 a level higher, so that page 7 is to be no leaf
abbrev pub insert_higher : Told
insert_higher = damaged (damaged insert_before7 0 4) 42 3

-- a deletion as it comes down, and at its leaf: before the leaf's sibling, and before page 5's
abbrev pub delete_before0 : Told
delete_before0 = deleting 0 [] []

abbrev pub delete_before5 : Told
delete_before5 = deleting 5 (0 ∷ []) []

abbrev pub delete_before1 : Told
delete_before1 = deleting 1 (0 ∷ 5 ∷ []) []

abbrev pub delete_before2 : Told
delete_before2 = deleting 2 (0 ∷ 5 ∷ 1 ∷ []) []

abbrev pub delete_before6 : Told
delete_before6 = deleting 6 (0 ∷ 5 ∷ 1 ∷ []) (2 ∷ [])

-- page 5 over three leaves: it has a key to spare
abbrev pub three_leaves : List ℕ
three_leaves = 2 ∷ 2 ∷ 1 ∷ 20 ∷ 2 ∷ 30 ∷ 3 ∷ []

-- the leaf 2 with an entry to spare
abbrev pub spare_leaf : List ℕ
spare_leaf = 1 ∷ 2 ∷ 20 ∷ 7 ∷ 21 ∷ 7 ∷ 0 ∷ []

-- an insertion
abbrev pub insertion_damage : List Row
insertion_damage =
    row ((pool 11 (puts 10 ++ puts 20 ++ puts 30 ++ runs 0 (Insert 40 7 First) 2 ++ runs 0 (Insert 50 7 First) 2 ++ runs 0 (Insert 60 7 First) 3)).words ∷ [])
    (to_sixty ∷ [])
    -- No damage: it comes down, and at the leaf the lot is inserted.
    ∷ row (once insert_before0 ++ once insert_before6 ++ once insert_before7)
    (onward ∷ onward ∷ entered ∷ [])
    -- "level 1 to 10": page 0 has level 0; pages 0 and 6 have the levels 11 and 10, then 10 and 9.
    ∷ row (once (damaged insert_before0 0 0) ++ once insert_before0)
    (damaged_step ∷ onward ∷ [])
    ∷ row (once (damaged (damaged insert_before6 0 11) 42 10) ++ once (damaged (damaged insert_before6 0 10) 42 9))
    (damaged_step ∷ onward ∷ [])
    -- "where its father is held, one less than the father's": the wanted page 6 has page 0's level; of the pages held, page 0 lies two above page 6.
    ∷ row (once (damaged insert_before6 42 3) ++ once insert_before6)
    (damaged_step ∷ onward ∷ [])
    ∷ row (once (damaged insert_before7 0 4) ++ once insert_before7)
    (damaged_step ∷ entered ∷ [])
    -- "μ in range": page 6 has no key, then one; page 0 has none above the leaves, then none as a leaf; page 7 is to have three.
    ∷ row
    (once (with_page insert_before6 6 (2 ∷ 0 ∷ 3 ∷ 0 ∷ 0 ∷ 0 ∷ 0 ∷ []))
    ++ once (with_page insert_before6 6 (2 ∷ 1 ∷ 3 ∷ 40 ∷ 4 ∷ 0 ∷ 0 ∷ [])))
    (damaged_step ∷ onward ∷ [])
    ∷ row
    (once (with_page insert_before0 0 (3 ∷ 0 ∷ 6 ∷ 0 ∷ 0 ∷ 0 ∷ 0 ∷ []))
    ++ once (with_page insert_before0 0 (1 ∷ 0 ∷ 0 ∷ 0 ∷ 0 ∷ 0 ∷ 0 ∷ [])))
    (damaged_step ∷ entered ∷ [])
    ∷ row (once (damaged insert_before7 50 3) ++ once insert_before7)
    (damaged_step ∷ entered ∷ [])
    -- "rising keys": in the leaf 61 and 60, then 60 and 60, then 59 and 60; above it 50 and 50, then 49 and 50.
    ∷ row (once (damaged insert_before7 51 61) ++ once (damaged insert_before7 51 60) ++ once (damaged insert_before7 51 59))
    (damaged_step ∷ damaged_step ∷ entered ∷ [])
    ∷ row (once (damaged insert_before6 45 50) ++ once (damaged insert_before6 45 49))
    (damaged_step ∷ onward ∷ [])
    -- "pointers all different and from 1 to N-1": page 6 leads twice to page 4; to page 0; to page 11 of 11; to page 10.
    ∷ row
    (once (damaged insert_before6 44 4) ++ once (damaged insert_before6 44 0) ++ once (damaged insert_before6 44 11)
    ++ once (damaged insert_before6 44 10))
    (damaged_step ∷ damaged_step ∷ damaged_step ∷ onward ∷ [])
    -- "unused words 0": a word of the wanted page is 9, one of a page held; of page 5, which it does not meet, nothing is asked.
    ∷ row (once (damaged insert_before7 55 9) ++ once (damaged insert_before7 6 9) ++ once (damaged insert_before7 41 9))
    (damaged_step ∷ damaged_step ∷ entered ∷ [])
    -- The path is the key's way: page 6 leads to page 4, not to page 7; page 0 leads 65 to page 5, then, from 65 on, to page 6.
    ∷ row (once (damaged (damaged insert_before7 46 7) 48 4) ++ once insert_before7)
    (damaged_step ∷ entered ∷ [])
    ∷ row (once (damaged insert_before7 3 66) ++ once (damaged insert_before7 3 65))
    (damaged_step ∷ entered ∷ [])
    -- The top page is page 0 or safe: page 6 is full, then not. Page 0 may be full too: here there is no room for so many splits.
    ∷ row (once (inserting 7 (6 ∷ []) []) ++ once (with_page (inserting 7 (6 ∷ []) []) 6 roomy))
    (damaged_step ∷ entered ∷ [])
    ∷ row (once (with_page insert_before7 0 (3 ∷ 2 ∷ 5 ∷ 30 ∷ 6 ∷ 70 ∷ 8 ∷ [])))
    (no_page ∷ [])
    -- None below the top page is safe: page 6 has room for a key, so that page 0 would have been given up.
    ∷ row (once (with_page insert_before7 6 roomy) ++ once insert_before7)
    (damaged_step ∷ entered ∷ [])
    -- Nothing is held before page 0 is granted.
    ∷ row (once (inserting 6 [] []) ++ once insert_before0)
    (damaged_step ∷ onward ∷ [])
    -- The want is where the key leads: page 7, not page 4. An insertion goes on from no leaf.
    ∷ row (once (inserting 4 (0 ∷ 6 ∷ []) []) ++ once insert_before7)
    (damaged_step ∷ entered ∷ [])
    ∷ row (once (inserting 4 (0 ∷ 6 ∷ 7 ∷ []) []) ++ once (inserting 8 (0 ∷ 6 ∷ 7 ∷ []) []))
    (damaged_step ∷ damaged_step ∷ [])
    -- "the page it would want next is none that it would then hold": page 6 leads to itself; three levels up, page 7 leads to page 6, which is
    -- held, then to page 8; it has room for a key and leads to page 6, which is given up then.
    ∷ row (once (damaged insert_before6 48 6) ++ once insert_before6)
    (damaged_step ∷ onward ∷ [])
    ∷ row
    (once (with_page insert_higher 7 (2 ∷ 2 ∷ 3 ∷ 40 ∷ 4 ∷ 50 ∷ 6 ∷ []))
    ++ once (with_page insert_higher 7 (2 ∷ 2 ∷ 3 ∷ 40 ∷ 4 ∷ 50 ∷ 8 ∷ []))
    ++ once (with_page insert_higher 7 (2 ∷ 1 ∷ 3 ∷ 50 ∷ 6 ∷ 0 ∷ 0 ∷ [])))
    (damaged_step ∷ onward ∷ onward ∷ [])
    -- "as given, the slot stays open, the lock is not taken"
    ∷ row (did (damaged insert_before7 55 9) (step 0 ∷ report 7 ∷ report 6 ∷ step 0 ∷ []))
    (damaged_step ∷ no_holder ∷ heard (Reported Xi 1 0) ∷ damaged_step ∷ (damaged insert_before7 55 9).words ∷ [])
    ∷ []

-- a deletion
abbrev pub deletion_damage : List Row
deletion_damage =
    -- No damage: it comes down, goes on to the leaf's sibling and to the father's, and the lot is deleted.
    row (once delete_before0 ++ once delete_before5 ++ once delete_before1 ++ once delete_before2 ++ once delete_before6)
    (onward ∷ onward ∷ onward ∷ onward ∷ deleted ∷ [])
    -- "level 1 to 10"
    ∷ row (once (damaged delete_before0 0 0) ++ once delete_before0)
    (damaged_step ∷ onward ∷ [])
    ∷ row (once (damaged (damaged delete_before5 0 11) 35 10) ++ once (damaged (damaged delete_before5 0 10) 35 9))
    (damaged_step ∷ onward ∷ [])
    -- "where its father is held, one less than the father's": the wanted page 5 has page 0's level; page 0 lies two above page 5. A sibling
    -- has the level of the page beside it: page 2, wanted, is no leaf; page 6, wanted, has level 3; page 2, held, is no leaf.
    ∷ row (once (damaged delete_before5 35 3) ++ once delete_before5)
    (damaged_step ∷ onward ∷ [])
    ∷ row (once (damaged delete_before2 0 4) ++ once delete_before2)
    (damaged_step ∷ onward ∷ [])
    ∷ row
    (once (with_page delete_before2 2 (2 ∷ 1 ∷ 3 ∷ 40 ∷ 4 ∷ 0 ∷ 0 ∷ [])) ++ once (damaged delete_before6 42 3)
    ++ once (with_page delete_before6 2 (2 ∷ 1 ∷ 3 ∷ 40 ∷ 4 ∷ 0 ∷ 0 ∷ [])))
    (damaged_step ∷ damaged_step ∷ damaged_step ∷ [])
    -- "μ in range": page 0 has no key; the sibling wanted has none; the father's sibling is to have three.
    ∷ row
    (once (with_page delete_before5 0 (3 ∷ 0 ∷ 5 ∷ 0 ∷ 0 ∷ 0 ∷ 0 ∷ []))
    ++ once (with_page delete_before2 2 (1 ∷ 0 ∷ 0 ∷ 0 ∷ 0 ∷ 0 ∷ 0 ∷ [])) ++ once (damaged delete_before6 43 3))
    (damaged_step ∷ damaged_step ∷ damaged_step ∷ [])
    -- "rising keys": in the sibling 21 and 20, then 20 and 20, then 20 and 21, of which one moves over; above it 40 and 40, then 40 and 41.
    ∷ row
    (once (with_page delete_before2 2 (1 ∷ 2 ∷ 21 ∷ 7 ∷ 20 ∷ 7 ∷ 0 ∷ []))
    ++ once (with_page delete_before2 2 (1 ∷ 2 ∷ 20 ∷ 7 ∷ 20 ∷ 7 ∷ 0 ∷ [])) ++ once (with_page delete_before2 2 spare_leaf))
    (damaged_step ∷ damaged_step ∷ deleted ∷ [])
    ∷ row
    (once (with_page delete_before6 6 (2 ∷ 2 ∷ 3 ∷ 40 ∷ 4 ∷ 40 ∷ 1 ∷ []))
    ++ once (with_page delete_before6 6 (2 ∷ 2 ∷ 3 ∷ 40 ∷ 4 ∷ 41 ∷ 1 ∷ [])))
    (damaged_step ∷ deleted ∷ [])
    -- "pointers all different and from 1 to N-1": page 6 leads twice to page 4; to page 0; to page 7 of 7; to page 1.
    ∷ row
    (once (damaged delete_before6 44 4) ++ once (damaged delete_before6 44 0) ++ once (damaged delete_before6 44 7)
    ++ once (damaged delete_before6 44 1))
    (damaged_step ∷ damaged_step ∷ damaged_step ∷ deleted ∷ [])
    -- "unused words 0": a word of each page held and of the wanted one is 9; of pages 3 and 4 nothing is asked.
    ∷ row
    (once (damaged delete_before6 6 9) ++ once (damaged delete_before6 41 9) ++ once (damaged delete_before6 13 9)
    ++ once (damaged delete_before6 20 9) ++ once (damaged delete_before6 48 9))
    (damaged_step ∷ damaged_step ∷ damaged_step ∷ damaged_step ∷ damaged_step ∷ [])
    ∷ row (once (damaged delete_before6 27 9) ++ once (damaged delete_before6 34 9))
    (deleted ∷ deleted ∷ [])
    -- The path is the key's way: page 5 leads to page 2, not to page 1; page 0 leads 10 to page 6, then, below 11, to page 5; the same before the leaf.
    ∷ row (once (damaged (damaged delete_before6 37 2) 39 1) ++ once (damaged delete_before6 3 10) ++ once (damaged delete_before6 3 11))
    (damaged_step ∷ damaged_step ∷ deleted ∷ [])
    ∷ row (once (damaged delete_before1 3 10) ++ once (damaged delete_before1 3 11))
    (damaged_step ∷ onward ∷ [])
    -- The top page is page 0 or safe: page 5 has one key, then two; the leaf alone is held.
    ∷ row (once (deleting 2 (5 ∷ 1 ∷ []) []) ++ once (with_page (deleting 2 (5 ∷ 1 ∷ []) []) 5 three_leaves))
    (damaged_step ∷ deleted ∷ [])
    ∷ row (once (deleting 2 (1 ∷ []) []) ++ once delete_before2)
    (damaged_step ∷ onward ∷ [])
    -- None below the top page is safe: page 5 has a key to spare, before the leaf and at it; then the leaf has.
    ∷ row
    (once (with_page delete_before1 5 three_leaves) ++ once (with_page delete_before2 5 three_leaves)
    ++ once (with_page delete_before2 1 (1 ∷ 2 ∷ 10 ∷ 7 ∷ 11 ∷ 7 ∷ 0 ∷ [])))
    (damaged_step ∷ damaged_step ∷ damaged_step ∷ [])
    -- Nothing is held before page 0 is granted. The want is where the key leads: page 1, not page 2.
    ∷ row (once (deleting 5 [] []) ++ once delete_before0)
    (damaged_step ∷ onward ∷ [])
    ∷ row (once (deleting 2 (0 ∷ 5 ∷ []) []) ++ once delete_before1)
    (damaged_step ∷ onward ∷ [])
    -- Siblings are taken at the leaf, not before it.
    ∷ row (once (deleting 1 (0 ∷ 5 ∷ []) (2 ∷ [])) ++ once delete_before1)
    (damaged_step ∷ onward ∷ [])
    -- At the leaf the key is there: 10, not 11. Page 0 as a leaf needs no sibling.
    ∷ row (once (ran [] (slot_open 7 (Delete 11 First) 2 (0 ∷ 5 ∷ 1 ∷ []) []) tens_words) ++ once delete_before2)
    (damaged_step ∷ onward ∷ [])
    ∷ row (once (with_page (deleting 1 (0 ∷ []) []) 0 (1 ∷ 1 ∷ 10 ∷ 7 ∷ 0 ∷ 0 ∷ 0 ∷ [])))
    (damaged_step ∷ [])
    -- The siblings held are those taken so far: page 2, not page 3; and page 2 has no entry to spare, or no more would be needed. Nor are they more.
    ∷ row (once (deleting 6 (0 ∷ 5 ∷ 1 ∷ []) (3 ∷ [])) ++ once (with_page delete_before6 2 spare_leaf) ++ once delete_before6)
    (damaged_step ∷ damaged_step ∷ deleted ∷ [])
    ∷ row (once (deleting 3 (0 ∷ 5 ∷ 1 ∷ []) (2 ∷ 6 ∷ [])))
    (damaged_step ∷ [])
    -- The want is the next one: the leaf's sibling before the father's, then the father's. It is the right one where there is one: of three leaves,
    -- page 3 beside page 2, not page 1.
    ∷ row (once (deleting 6 (0 ∷ 5 ∷ 1 ∷ []) []) ++ once delete_before2)
    (damaged_step ∷ onward ∷ [])
    ∷ row (once (deleting 3 (0 ∷ 5 ∷ 1 ∷ []) (2 ∷ [])) ++ once delete_before6)
    (damaged_step ∷ deleted ∷ [])
    ∷ row
    (once (with_page (ran [] (slot_open 7 (Delete 20 First) 1 (5 ∷ 2 ∷ []) []) tens_words) 5 three_leaves)
    ++ once (with_page (ran [] (slot_open 7 (Delete 20 First) 3 (5 ∷ 2 ∷ []) []) tens_words) 5 three_leaves))
    (damaged_step ∷ deleted ∷ [])
    -- "the page it would want next is none that it would then hold": page 5 leads to itself; the leaf's sibling would be page 5; the father's sibling
    -- would be page 2, the leaf's.
    ∷ row (once (damaged delete_before5 37 5) ++ once (damaged delete_before1 39 5) ++ once (damaged delete_before2 4 2))
    (damaged_step ∷ damaged_step ∷ damaged_step ∷ [])
    -- "as given, the slot stays open, the lock is not taken"
    ∷ row (did (damaged delete_before6 48 9) (step 0 ∷ report 6 ∷ report 2 ∷ step 0 ∷ []))
    (damaged_step ∷ no_holder ∷ heard (Reported Xi 1 0) ∷ damaged_step ∷ (damaged delete_before6 48 9).words ∷ [])
    ∷ []

-- "a search holds at most 1 page, an insertion at most 10, a deletion at most 10 on its path and 9 siblings, with no siblings or fewer of them
-- than path pages; siblings only in deletions". A regrading "holds at most 1". Of a Next the rows stand with its others.
abbrev pub limit_rows : List Row
limit_rows =
    row (looked_at (Search 5) (0 ∷ []) [] ++ looked_at (Search 5) (0 ∷ 1 ∷ []) [] ++ looked_at (Search 5) [] [])
    (no_holder ∷ bad_state ∷ no_holder ∷ [])
    ∷ row (looked_at (Regrade 5 8 First) (0 ∷ []) [] ++ looked_at (Regrade 5 8 First) (0 ∷ 1 ∷ []) [])
    (no_holder ∷ bad_state ∷ [])
    ∷ row (looked_at (Insert 5 7 First) ten_pages [] ++ looked_at (Insert 5 7 First) eleven_pages [] ++ looked_at (Insert 5 7 First) (0 ∷ 1 ∷ []) (2 ∷ []))
    (no_holder ∷ bad_state ∷ bad_state ∷ [])
    ∷ row (looked_at (Delete 5 First) ten_pages nine_beside ++ looked_at (Delete 5 First) eleven_pages [])
    (heard (Reported Xi 1 0) ∷ bad_state ∷ [])
    ∷ row (looked_at (Delete 5 First) (0 ∷ 1 ∷ []) (2 ∷ []) ++ looked_at (Delete 5 First) (0 ∷ 1 ∷ []) (2 ∷ 3 ∷ []))
    (no_holder ∷ bad_state ∷ [])
    ∷ []

-- all of them
abbrev pub damage_rows : List Row
damage_rows = insertion_damage ++ deletion_damage ++ limit_rows
