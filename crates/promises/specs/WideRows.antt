-- Pages of two to four keys on the bench, k = 2: splits, moves and joins, at the leaves and above them, with every word.
-- Each row begins with a tree that is written out, a page a line, and has one operation; it names the pages whose words are then
-- others. A second program answers the same (`rust/twin`, whose tests read this table, its calls, answers and words).
use Rattle.std.specs.Prelude.{ℕ, ◌+◌, ◌*◌, List, [], ◌∷◌, ◌++◌, take, drop}
use Rattle.slots.specs.declared.Op.TheVariants.{Insert, Delete}
use Rattle.slots.specs.declared.Way.TheVariants.{First}
use Rattle.slots.specs.Parts.{idle_state}
use Rattle.runs.specs.Run.{Call, Told, ran}
use Rattle.promises.specs.Bench.{Row, row, runs, heard_in, going_on}
use Rattle.promises.specs.LongRun.{began, onward, entered, deleted}

-- k = 2: all slots closed, n pages, and these words
abbrev pub wide : ℕ → List ℕ → Told
wide n ws = ran [] (idle_state 2 n) ws

-- what is heard, and behind it all words
abbrev pub heard_and_left : Told → List (List ℕ)
heard_and_left t = heard_in t ++ t.words ∷ []

abbrev pub did : Told → List Call → List (List ℕ)
did t cs = heard_and_left (going_on t cs)

-- the words with page p written, k = 2
abbrev pub paged : ℕ → List ℕ → List ℕ → List ℕ
paged p page ws = take (p * 11) ws ++ page ++ drop (11 + p * 11) ws

abbrev pub freed : List ℕ
freed = 0 ∷ 0 ∷ 0 ∷ 0 ∷ 0 ∷ 0 ∷ 0 ∷ 0 ∷ 0 ∷ 0 ∷ 0 ∷ []

-- a full root leaf
abbrev pub root_leaf : List ℕ
root_leaf =
    1 ∷ 4 ∷ 10 ∷ 7 ∷ 20 ∷ 7 ∷ 30 ∷ 7 ∷ 40 ∷ 7 ∷ 0 ∷
    0 ∷ 0 ∷ 0 ∷ 0 ∷ 0 ∷ 0 ∷ 0 ∷ 0 ∷ 0 ∷ 0 ∷ 0 ∷
    0 ∷ 0 ∷ 0 ∷ 0 ∷ 0 ∷ 0 ∷ 0 ∷ 0 ∷ 0 ∷ 0 ∷ 0 ∷ []

-- three full leaves, and a free page
abbrev pub full_leaves : List ℕ
full_leaves =
    2 ∷ 2 ∷ 1 ∷ 50 ∷ 2 ∷ 100 ∷ 3 ∷ 0 ∷ 0 ∷ 0 ∷ 0 ∷
    1 ∷ 4 ∷ 10 ∷ 7 ∷ 20 ∷ 7 ∷ 30 ∷ 7 ∷ 40 ∷ 7 ∷ 0 ∷
    1 ∷ 4 ∷ 60 ∷ 7 ∷ 70 ∷ 7 ∷ 80 ∷ 7 ∷ 90 ∷ 7 ∷ 0 ∷
    1 ∷ 4 ∷ 110 ∷ 7 ∷ 120 ∷ 7 ∷ 130 ∷ 7 ∷ 140 ∷ 7 ∷ 0 ∷
    0 ∷ 0 ∷ 0 ∷ 0 ∷ 0 ∷ 0 ∷ 0 ∷ 0 ∷ 0 ∷ 0 ∷ 0 ∷ []

-- a full root over five leaves, of which the first, the third and the last are full; three free pages
abbrev pub full_root : List ℕ
full_root =
    2 ∷ 4 ∷ 1 ∷ 200 ∷ 2 ∷ 300 ∷ 3 ∷ 400 ∷ 4 ∷ 500 ∷ 5 ∷
    1 ∷ 4 ∷ 110 ∷ 7 ∷ 120 ∷ 7 ∷ 130 ∷ 7 ∷ 140 ∷ 7 ∷ 0 ∷
    1 ∷ 2 ∷ 200 ∷ 7 ∷ 210 ∷ 7 ∷ 0 ∷ 0 ∷ 0 ∷ 0 ∷ 0 ∷
    1 ∷ 4 ∷ 310 ∷ 7 ∷ 320 ∷ 7 ∷ 330 ∷ 7 ∷ 340 ∷ 7 ∷ 0 ∷
    1 ∷ 2 ∷ 400 ∷ 7 ∷ 410 ∷ 7 ∷ 0 ∷ 0 ∷ 0 ∷ 0 ∷ 0 ∷
    1 ∷ 4 ∷ 510 ∷ 7 ∷ 520 ∷ 7 ∷ 530 ∷ 7 ∷ 540 ∷ 7 ∷ 0 ∷
    0 ∷ 0 ∷ 0 ∷ 0 ∷ 0 ∷ 0 ∷ 0 ∷ 0 ∷ 0 ∷ 0 ∷ 0 ∷
    0 ∷ 0 ∷ 0 ∷ 0 ∷ 0 ∷ 0 ∷ 0 ∷ 0 ∷ 0 ∷ 0 ∷ 0 ∷
    0 ∷ 0 ∷ 0 ∷ 0 ∷ 0 ∷ 0 ∷ 0 ∷ 0 ∷ 0 ∷ 0 ∷ 0 ∷ []

-- three levels: page 0 over pages 1, 2 and 3, of which page 2 is full, over such leaves; two free pages
abbrev pub full_above : List ℕ
full_above =
    3 ∷ 2 ∷ 1 ∷ 100 ∷ 2 ∷ 600 ∷ 3 ∷ 0 ∷ 0 ∷ 0 ∷ 0 ∷
    2 ∷ 2 ∷ 4 ∷ 20 ∷ 5 ∷ 40 ∷ 6 ∷ 0 ∷ 0 ∷ 0 ∷ 0 ∷
    2 ∷ 4 ∷ 7 ∷ 200 ∷ 8 ∷ 300 ∷ 9 ∷ 400 ∷ 10 ∷ 500 ∷ 11 ∷
    2 ∷ 2 ∷ 12 ∷ 700 ∷ 13 ∷ 800 ∷ 14 ∷ 0 ∷ 0 ∷ 0 ∷ 0 ∷
    1 ∷ 2 ∷ 10 ∷ 7 ∷ 11 ∷ 7 ∷ 0 ∷ 0 ∷ 0 ∷ 0 ∷ 0 ∷
    1 ∷ 2 ∷ 20 ∷ 7 ∷ 21 ∷ 7 ∷ 0 ∷ 0 ∷ 0 ∷ 0 ∷ 0 ∷
    1 ∷ 2 ∷ 40 ∷ 7 ∷ 41 ∷ 7 ∷ 0 ∷ 0 ∷ 0 ∷ 0 ∷ 0 ∷
    1 ∷ 4 ∷ 110 ∷ 7 ∷ 120 ∷ 7 ∷ 130 ∷ 7 ∷ 140 ∷ 7 ∷ 0 ∷
    1 ∷ 2 ∷ 200 ∷ 7 ∷ 210 ∷ 7 ∷ 0 ∷ 0 ∷ 0 ∷ 0 ∷ 0 ∷
    1 ∷ 4 ∷ 310 ∷ 7 ∷ 320 ∷ 7 ∷ 330 ∷ 7 ∷ 340 ∷ 7 ∷ 0 ∷
    1 ∷ 2 ∷ 400 ∷ 7 ∷ 410 ∷ 7 ∷ 0 ∷ 0 ∷ 0 ∷ 0 ∷ 0 ∷
    1 ∷ 4 ∷ 510 ∷ 7 ∷ 520 ∷ 7 ∷ 530 ∷ 7 ∷ 540 ∷ 7 ∷ 0 ∷
    1 ∷ 2 ∷ 600 ∷ 7 ∷ 610 ∷ 7 ∷ 0 ∷ 0 ∷ 0 ∷ 0 ∷ 0 ∷
    1 ∷ 2 ∷ 700 ∷ 7 ∷ 710 ∷ 7 ∷ 0 ∷ 0 ∷ 0 ∷ 0 ∷ 0 ∷
    1 ∷ 2 ∷ 800 ∷ 7 ∷ 810 ∷ 7 ∷ 0 ∷ 0 ∷ 0 ∷ 0 ∷ 0 ∷
    0 ∷ 0 ∷ 0 ∷ 0 ∷ 0 ∷ 0 ∷ 0 ∷ 0 ∷ 0 ∷ 0 ∷ 0 ∷
    0 ∷ 0 ∷ 0 ∷ 0 ∷ 0 ∷ 0 ∷ 0 ∷ 0 ∷ 0 ∷ 0 ∷ 0 ∷ []

-- three leaves with two entries each; the middle one, or the outer ones, with three; and two leaves with two each
abbrev pub lean : List ℕ
lean =
    2 ∷ 2 ∷ 1 ∷ 50 ∷ 2 ∷ 100 ∷ 3 ∷ 0 ∷ 0 ∷ 0 ∷ 0 ∷
    1 ∷ 2 ∷ 10 ∷ 7 ∷ 20 ∷ 7 ∷ 0 ∷ 0 ∷ 0 ∷ 0 ∷ 0 ∷
    1 ∷ 2 ∷ 60 ∷ 7 ∷ 70 ∷ 7 ∷ 0 ∷ 0 ∷ 0 ∷ 0 ∷ 0 ∷
    1 ∷ 2 ∷ 110 ∷ 7 ∷ 120 ∷ 7 ∷ 0 ∷ 0 ∷ 0 ∷ 0 ∷ 0 ∷ []

abbrev pub spare_in_the_middle : List ℕ
spare_in_the_middle = paged 2 (1 ∷ 3 ∷ 60 ∷ 7 ∷ 70 ∷ 7 ∷ 80 ∷ 7 ∷ 0 ∷ 0 ∷ 0 ∷ []) lean

abbrev pub spare_at_the_ends : List ℕ
spare_at_the_ends =
    paged 1 (1 ∷ 3 ∷ 10 ∷ 7 ∷ 20 ∷ 7 ∷ 30 ∷ 7 ∷ 0 ∷ 0 ∷ 0 ∷ [])
    (paged 3 (1 ∷ 3 ∷ 110 ∷ 7 ∷ 120 ∷ 7 ∷ 130 ∷ 7 ∷ 0 ∷ 0 ∷ 0 ∷ []) lean)

abbrev pub lean_two : List ℕ
lean_two =
    2 ∷ 1 ∷ 1 ∷ 50 ∷ 2 ∷ 0 ∷ 0 ∷ 0 ∷ 0 ∷ 0 ∷ 0 ∷
    1 ∷ 2 ∷ 10 ∷ 7 ∷ 20 ∷ 7 ∷ 0 ∷ 0 ∷ 0 ∷ 0 ∷ 0 ∷
    1 ∷ 2 ∷ 60 ∷ 7 ∷ 70 ∷ 7 ∷ 0 ∷ 0 ∷ 0 ∷ 0 ∷ 0 ∷ []

-- three levels: page 0 over pages 1, 2 and 3 with two, three and two keys, over leaves with two entries each
abbrev pub spare_above : List ℕ
spare_above =
    3 ∷ 2 ∷ 1 ∷ 300 ∷ 2 ∷ 700 ∷ 3 ∷ 0 ∷ 0 ∷ 0 ∷ 0 ∷
    2 ∷ 2 ∷ 4 ∷ 100 ∷ 5 ∷ 200 ∷ 6 ∷ 0 ∷ 0 ∷ 0 ∷ 0 ∷
    2 ∷ 3 ∷ 7 ∷ 400 ∷ 8 ∷ 500 ∷ 9 ∷ 600 ∷ 10 ∷ 0 ∷ 0 ∷
    2 ∷ 2 ∷ 11 ∷ 800 ∷ 12 ∷ 900 ∷ 13 ∷ 0 ∷ 0 ∷ 0 ∷ 0 ∷
    1 ∷ 2 ∷ 10 ∷ 7 ∷ 20 ∷ 7 ∷ 0 ∷ 0 ∷ 0 ∷ 0 ∷ 0 ∷
    1 ∷ 2 ∷ 100 ∷ 7 ∷ 110 ∷ 7 ∷ 0 ∷ 0 ∷ 0 ∷ 0 ∷ 0 ∷
    1 ∷ 2 ∷ 200 ∷ 7 ∷ 210 ∷ 7 ∷ 0 ∷ 0 ∷ 0 ∷ 0 ∷ 0 ∷
    1 ∷ 2 ∷ 300 ∷ 7 ∷ 310 ∷ 7 ∷ 0 ∷ 0 ∷ 0 ∷ 0 ∷ 0 ∷
    1 ∷ 2 ∷ 400 ∷ 7 ∷ 410 ∷ 7 ∷ 0 ∷ 0 ∷ 0 ∷ 0 ∷ 0 ∷
    1 ∷ 2 ∷ 500 ∷ 7 ∷ 510 ∷ 7 ∷ 0 ∷ 0 ∷ 0 ∷ 0 ∷ 0 ∷
    1 ∷ 2 ∷ 600 ∷ 7 ∷ 610 ∷ 7 ∷ 0 ∷ 0 ∷ 0 ∷ 0 ∷ 0 ∷
    1 ∷ 2 ∷ 700 ∷ 7 ∷ 710 ∷ 7 ∷ 0 ∷ 0 ∷ 0 ∷ 0 ∷ 0 ∷
    1 ∷ 2 ∷ 800 ∷ 7 ∷ 810 ∷ 7 ∷ 0 ∷ 0 ∷ 0 ∷ 0 ∷ 0 ∷
    1 ∷ 2 ∷ 900 ∷ 7 ∷ 910 ∷ 7 ∷ 0 ∷ 0 ∷ 0 ∷ 0 ∷ 0 ∷ []

-- the same with two keys in each
abbrev pub lean_above : List ℕ
lean_above =
    3 ∷ 2 ∷ 1 ∷ 300 ∷ 2 ∷ 700 ∷ 3 ∷ 0 ∷ 0 ∷ 0 ∷ 0 ∷
    2 ∷ 2 ∷ 4 ∷ 100 ∷ 5 ∷ 200 ∷ 6 ∷ 0 ∷ 0 ∷ 0 ∷ 0 ∷
    2 ∷ 2 ∷ 7 ∷ 400 ∷ 8 ∷ 500 ∷ 9 ∷ 0 ∷ 0 ∷ 0 ∷ 0 ∷
    2 ∷ 2 ∷ 10 ∷ 800 ∷ 11 ∷ 900 ∷ 12 ∷ 0 ∷ 0 ∷ 0 ∷ 0 ∷
    1 ∷ 2 ∷ 10 ∷ 7 ∷ 20 ∷ 7 ∷ 0 ∷ 0 ∷ 0 ∷ 0 ∷ 0 ∷
    1 ∷ 2 ∷ 100 ∷ 7 ∷ 110 ∷ 7 ∷ 0 ∷ 0 ∷ 0 ∷ 0 ∷ 0 ∷
    1 ∷ 2 ∷ 200 ∷ 7 ∷ 210 ∷ 7 ∷ 0 ∷ 0 ∷ 0 ∷ 0 ∷ 0 ∷
    1 ∷ 2 ∷ 300 ∷ 7 ∷ 310 ∷ 7 ∷ 0 ∷ 0 ∷ 0 ∷ 0 ∷ 0 ∷
    1 ∷ 2 ∷ 400 ∷ 7 ∷ 410 ∷ 7 ∷ 0 ∷ 0 ∷ 0 ∷ 0 ∷ 0 ∷
    1 ∷ 2 ∷ 500 ∷ 7 ∷ 510 ∷ 7 ∷ 0 ∷ 0 ∷ 0 ∷ 0 ∷ 0 ∷
    1 ∷ 2 ∷ 700 ∷ 7 ∷ 710 ∷ 7 ∷ 0 ∷ 0 ∷ 0 ∷ 0 ∷ 0 ∷
    1 ∷ 2 ∷ 800 ∷ 7 ∷ 810 ∷ 7 ∷ 0 ∷ 0 ∷ 0 ∷ 0 ∷ 0 ∷
    1 ∷ 2 ∷ 900 ∷ 7 ∷ 910 ∷ 7 ∷ 0 ∷ 0 ∷ 0 ∷ 0 ∷ 0 ∷ []

-- three levels, page 0 over two pages with two keys each
abbrev pub lean_two_above : List ℕ
lean_two_above =
    3 ∷ 1 ∷ 1 ∷ 300 ∷ 2 ∷ 0 ∷ 0 ∷ 0 ∷ 0 ∷ 0 ∷ 0 ∷
    2 ∷ 2 ∷ 3 ∷ 100 ∷ 4 ∷ 200 ∷ 5 ∷ 0 ∷ 0 ∷ 0 ∷ 0 ∷
    2 ∷ 2 ∷ 6 ∷ 400 ∷ 7 ∷ 500 ∷ 8 ∷ 0 ∷ 0 ∷ 0 ∷ 0 ∷
    1 ∷ 2 ∷ 10 ∷ 7 ∷ 20 ∷ 7 ∷ 0 ∷ 0 ∷ 0 ∷ 0 ∷ 0 ∷
    1 ∷ 2 ∷ 100 ∷ 7 ∷ 110 ∷ 7 ∷ 0 ∷ 0 ∷ 0 ∷ 0 ∷ 0 ∷
    1 ∷ 2 ∷ 200 ∷ 7 ∷ 210 ∷ 7 ∷ 0 ∷ 0 ∷ 0 ∷ 0 ∷ 0 ∷
    1 ∷ 2 ∷ 300 ∷ 7 ∷ 310 ∷ 7 ∷ 0 ∷ 0 ∷ 0 ∷ 0 ∷ 0 ∷
    1 ∷ 2 ∷ 400 ∷ 7 ∷ 410 ∷ 7 ∷ 0 ∷ 0 ∷ 0 ∷ 0 ∷ 0 ∷
    1 ∷ 2 ∷ 500 ∷ 7 ∷ 510 ∷ 7 ∷ 0 ∷ 0 ∷ 0 ∷ 0 ∷ 0 ∷ []

-- "A leaf that would hold 2k+1 entries keeps the first k; the other k+1 go to a new page, whose first key goes up as reference key.
-- An upper page with 2k+1 reference keys keeps k, sends the middle one up, and the last k go to a new page."
abbrev pub split_rows : List Row
split_rows =
    -- A root leaf is split: the new key is the middle one, the first, the last.
    row (did (wide 3 root_leaf) (runs 0 (Insert 25 7 First) 1))
    (began ∷ entered ∷
    paged 0 (2 ∷ 1 ∷ 1 ∷ 25 ∷ 2 ∷ 0 ∷ 0 ∷ 0 ∷ 0 ∷ 0 ∷ 0 ∷ [])
    (paged 1 (1 ∷ 2 ∷ 10 ∷ 7 ∷ 20 ∷ 7 ∷ 0 ∷ 0 ∷ 0 ∷ 0 ∷ 0 ∷ [])
    (paged 2 (1 ∷ 3 ∷ 25 ∷ 7 ∷ 30 ∷ 7 ∷ 40 ∷ 7 ∷ 0 ∷ 0 ∷ 0 ∷ []) root_leaf)) ∷ [])
    ∷ row (did (wide 3 root_leaf) (runs 0 (Insert 5 7 First) 1))
    (began ∷ entered ∷
    paged 0 (2 ∷ 1 ∷ 1 ∷ 20 ∷ 2 ∷ 0 ∷ 0 ∷ 0 ∷ 0 ∷ 0 ∷ 0 ∷ [])
    (paged 1 (1 ∷ 2 ∷ 5 ∷ 7 ∷ 10 ∷ 7 ∷ 0 ∷ 0 ∷ 0 ∷ 0 ∷ 0 ∷ [])
    (paged 2 (1 ∷ 3 ∷ 20 ∷ 7 ∷ 30 ∷ 7 ∷ 40 ∷ 7 ∷ 0 ∷ 0 ∷ 0 ∷ []) root_leaf)) ∷ [])
    ∷ row (did (wide 3 root_leaf) (runs 0 (Insert 50 7 First) 1))
    (began ∷ entered ∷
    paged 0 (2 ∷ 1 ∷ 1 ∷ 30 ∷ 2 ∷ 0 ∷ 0 ∷ 0 ∷ 0 ∷ 0 ∷ 0 ∷ [])
    (paged 1 (1 ∷ 2 ∷ 10 ∷ 7 ∷ 20 ∷ 7 ∷ 0 ∷ 0 ∷ 0 ∷ 0 ∷ 0 ∷ [])
    (paged 2 (1 ∷ 3 ∷ 30 ∷ 7 ∷ 40 ∷ 7 ∷ 50 ∷ 7 ∷ 0 ∷ 0 ∷ 0 ∷ []) root_leaf)) ∷ [])
    -- The middle one of three leaves is split: the new key is the middle one, the first, the last.
    ∷ row (did (wide 5 full_leaves) (runs 0 (Insert 75 7 First) 2))
    (began ∷ onward ∷ entered ∷
    paged 0 (2 ∷ 3 ∷ 1 ∷ 50 ∷ 2 ∷ 75 ∷ 4 ∷ 100 ∷ 3 ∷ 0 ∷ 0 ∷ [])
    (paged 2 (1 ∷ 2 ∷ 60 ∷ 7 ∷ 70 ∷ 7 ∷ 0 ∷ 0 ∷ 0 ∷ 0 ∷ 0 ∷ [])
    (paged 4 (1 ∷ 3 ∷ 75 ∷ 7 ∷ 80 ∷ 7 ∷ 90 ∷ 7 ∷ 0 ∷ 0 ∷ 0 ∷ []) full_leaves)) ∷ [])
    ∷ row (did (wide 5 full_leaves) (runs 0 (Insert 55 7 First) 2))
    (began ∷ onward ∷ entered ∷
    paged 0 (2 ∷ 3 ∷ 1 ∷ 50 ∷ 2 ∷ 70 ∷ 4 ∷ 100 ∷ 3 ∷ 0 ∷ 0 ∷ [])
    (paged 2 (1 ∷ 2 ∷ 55 ∷ 7 ∷ 60 ∷ 7 ∷ 0 ∷ 0 ∷ 0 ∷ 0 ∷ 0 ∷ [])
    (paged 4 (1 ∷ 3 ∷ 70 ∷ 7 ∷ 80 ∷ 7 ∷ 90 ∷ 7 ∷ 0 ∷ 0 ∷ 0 ∷ []) full_leaves)) ∷ [])
    ∷ row (did (wide 5 full_leaves) (runs 0 (Insert 95 7 First) 2))
    (began ∷ onward ∷ entered ∷
    paged 0 (2 ∷ 3 ∷ 1 ∷ 50 ∷ 2 ∷ 80 ∷ 4 ∷ 100 ∷ 3 ∷ 0 ∷ 0 ∷ [])
    (paged 2 (1 ∷ 2 ∷ 60 ∷ 7 ∷ 70 ∷ 7 ∷ 0 ∷ 0 ∷ 0 ∷ 0 ∷ 0 ∷ [])
    (paged 4 (1 ∷ 3 ∷ 80 ∷ 7 ∷ 90 ∷ 7 ∷ 95 ∷ 7 ∷ 0 ∷ 0 ∷ 0 ∷ []) full_leaves)) ∷ [])
    -- The first one of three leaves is split, and the last one. "In the father the new pointer stands just right of the split page's."
    ∷ row (did (wide 5 full_leaves) (runs 0 (Insert 5 7 First) 2))
    (began ∷ onward ∷ entered ∷
    paged 0 (2 ∷ 3 ∷ 1 ∷ 20 ∷ 4 ∷ 50 ∷ 2 ∷ 100 ∷ 3 ∷ 0 ∷ 0 ∷ [])
    (paged 1 (1 ∷ 2 ∷ 5 ∷ 7 ∷ 10 ∷ 7 ∷ 0 ∷ 0 ∷ 0 ∷ 0 ∷ 0 ∷ [])
    (paged 4 (1 ∷ 3 ∷ 20 ∷ 7 ∷ 30 ∷ 7 ∷ 40 ∷ 7 ∷ 0 ∷ 0 ∷ 0 ∷ []) full_leaves)) ∷ [])
    ∷ row (did (wide 5 full_leaves) (runs 0 (Insert 145 7 First) 2))
    (began ∷ onward ∷ entered ∷
    paged 0 (2 ∷ 3 ∷ 1 ∷ 50 ∷ 2 ∷ 100 ∷ 3 ∷ 130 ∷ 4 ∷ 0 ∷ 0 ∷ [])
    (paged 3 (1 ∷ 2 ∷ 110 ∷ 7 ∷ 120 ∷ 7 ∷ 0 ∷ 0 ∷ 0 ∷ 0 ∷ 0 ∷ [])
    (paged 4 (1 ∷ 3 ∷ 130 ∷ 7 ∷ 140 ∷ 7 ∷ 145 ∷ 7 ∷ 0 ∷ 0 ∷ 0 ∷ []) full_leaves)) ∷ [])
    -- A leaf and a root above the leaves are split: its new key is the middle one, the first, the last.
    ∷ row (did (wide 9 full_root) (runs 0 (Insert 325 7 First) 2))
    (began ∷ onward ∷ entered ∷
    paged 0 (3 ∷ 1 ∷ 7 ∷ 325 ∷ 8 ∷ 0 ∷ 0 ∷ 0 ∷ 0 ∷ 0 ∷ 0 ∷ [])
    (paged 3 (1 ∷ 2 ∷ 310 ∷ 7 ∷ 320 ∷ 7 ∷ 0 ∷ 0 ∷ 0 ∷ 0 ∷ 0 ∷ [])
    (paged 6 (1 ∷ 3 ∷ 325 ∷ 7 ∷ 330 ∷ 7 ∷ 340 ∷ 7 ∷ 0 ∷ 0 ∷ 0 ∷ [])
    (paged 7 (2 ∷ 2 ∷ 1 ∷ 200 ∷ 2 ∷ 300 ∷ 3 ∷ 0 ∷ 0 ∷ 0 ∷ 0 ∷ [])
    (paged 8 (2 ∷ 2 ∷ 6 ∷ 400 ∷ 4 ∷ 500 ∷ 5 ∷ 0 ∷ 0 ∷ 0 ∷ 0 ∷ []) full_root)))) ∷ [])
    ∷ row (did (wide 9 full_root) (runs 0 (Insert 115 7 First) 2))
    (began ∷ onward ∷ entered ∷
    paged 0 (3 ∷ 1 ∷ 7 ∷ 300 ∷ 8 ∷ 0 ∷ 0 ∷ 0 ∷ 0 ∷ 0 ∷ 0 ∷ [])
    (paged 1 (1 ∷ 2 ∷ 110 ∷ 7 ∷ 115 ∷ 7 ∷ 0 ∷ 0 ∷ 0 ∷ 0 ∷ 0 ∷ [])
    (paged 6 (1 ∷ 3 ∷ 120 ∷ 7 ∷ 130 ∷ 7 ∷ 140 ∷ 7 ∷ 0 ∷ 0 ∷ 0 ∷ [])
    (paged 7 (2 ∷ 2 ∷ 1 ∷ 120 ∷ 6 ∷ 200 ∷ 2 ∷ 0 ∷ 0 ∷ 0 ∷ 0 ∷ [])
    (paged 8 (2 ∷ 2 ∷ 3 ∷ 400 ∷ 4 ∷ 500 ∷ 5 ∷ 0 ∷ 0 ∷ 0 ∷ 0 ∷ []) full_root)))) ∷ [])
    ∷ row (did (wide 9 full_root) (runs 0 (Insert 545 7 First) 2))
    (began ∷ onward ∷ entered ∷
    paged 0 (3 ∷ 1 ∷ 7 ∷ 400 ∷ 8 ∷ 0 ∷ 0 ∷ 0 ∷ 0 ∷ 0 ∷ 0 ∷ [])
    (paged 5 (1 ∷ 2 ∷ 510 ∷ 7 ∷ 520 ∷ 7 ∷ 0 ∷ 0 ∷ 0 ∷ 0 ∷ 0 ∷ [])
    (paged 6 (1 ∷ 3 ∷ 530 ∷ 7 ∷ 540 ∷ 7 ∷ 545 ∷ 7 ∷ 0 ∷ 0 ∷ 0 ∷ [])
    (paged 7 (2 ∷ 2 ∷ 1 ∷ 200 ∷ 2 ∷ 300 ∷ 3 ∷ 0 ∷ 0 ∷ 0 ∷ 0 ∷ [])
    (paged 8 (2 ∷ 2 ∷ 4 ∷ 500 ∷ 5 ∷ 530 ∷ 6 ∷ 0 ∷ 0 ∷ 0 ∷ 0 ∷ []) full_root)))) ∷ [])
    -- A leaf and the page above it are split, page 0 is not: the new key above is the middle one, the first, the last.
    ∷ row (did (wide 17 full_above) (runs 0 (Insert 325 7 First) 3))
    (began ∷ onward ∷ onward ∷ entered ∷
    paged 0 (3 ∷ 3 ∷ 1 ∷ 100 ∷ 2 ∷ 325 ∷ 16 ∷ 600 ∷ 3 ∷ 0 ∷ 0 ∷ [])
    (paged 2 (2 ∷ 2 ∷ 7 ∷ 200 ∷ 8 ∷ 300 ∷ 9 ∷ 0 ∷ 0 ∷ 0 ∷ 0 ∷ [])
    (paged 9 (1 ∷ 2 ∷ 310 ∷ 7 ∷ 320 ∷ 7 ∷ 0 ∷ 0 ∷ 0 ∷ 0 ∷ 0 ∷ [])
    (paged 15 (1 ∷ 3 ∷ 325 ∷ 7 ∷ 330 ∷ 7 ∷ 340 ∷ 7 ∷ 0 ∷ 0 ∷ 0 ∷ [])
    (paged 16 (2 ∷ 2 ∷ 15 ∷ 400 ∷ 10 ∷ 500 ∷ 11 ∷ 0 ∷ 0 ∷ 0 ∷ 0 ∷ []) full_above)))) ∷ [])
    ∷ row (did (wide 17 full_above) (runs 0 (Insert 115 7 First) 3))
    (began ∷ onward ∷ onward ∷ entered ∷
    paged 0 (3 ∷ 3 ∷ 1 ∷ 100 ∷ 2 ∷ 300 ∷ 16 ∷ 600 ∷ 3 ∷ 0 ∷ 0 ∷ [])
    (paged 2 (2 ∷ 2 ∷ 7 ∷ 120 ∷ 15 ∷ 200 ∷ 8 ∷ 0 ∷ 0 ∷ 0 ∷ 0 ∷ [])
    (paged 7 (1 ∷ 2 ∷ 110 ∷ 7 ∷ 115 ∷ 7 ∷ 0 ∷ 0 ∷ 0 ∷ 0 ∷ 0 ∷ [])
    (paged 15 (1 ∷ 3 ∷ 120 ∷ 7 ∷ 130 ∷ 7 ∷ 140 ∷ 7 ∷ 0 ∷ 0 ∷ 0 ∷ [])
    (paged 16 (2 ∷ 2 ∷ 9 ∷ 400 ∷ 10 ∷ 500 ∷ 11 ∷ 0 ∷ 0 ∷ 0 ∷ 0 ∷ []) full_above)))) ∷ [])
    ∷ row (did (wide 17 full_above) (runs 0 (Insert 545 7 First) 3))
    (began ∷ onward ∷ onward ∷ entered ∷
    paged 0 (3 ∷ 3 ∷ 1 ∷ 100 ∷ 2 ∷ 400 ∷ 16 ∷ 600 ∷ 3 ∷ 0 ∷ 0 ∷ [])
    (paged 2 (2 ∷ 2 ∷ 7 ∷ 200 ∷ 8 ∷ 300 ∷ 9 ∷ 0 ∷ 0 ∷ 0 ∷ 0 ∷ [])
    (paged 11 (1 ∷ 2 ∷ 510 ∷ 7 ∷ 520 ∷ 7 ∷ 0 ∷ 0 ∷ 0 ∷ 0 ∷ 0 ∷ [])
    (paged 15 (1 ∷ 3 ∷ 530 ∷ 7 ∷ 540 ∷ 7 ∷ 545 ∷ 7 ∷ 0 ∷ 0 ∷ 0 ∷ [])
    (paged 16 (2 ∷ 2 ∷ 10 ∷ 500 ∷ 11 ∷ 530 ∷ 15 ∷ 0 ∷ 0 ∷ 0 ∷ 0 ∷ []) full_above)))) ∷ [])
    ∷ []

-- "A page left with k-1 uses its right neighbour under the same father; if it has none, the left one."
abbrev pub short_rows : List Row
short_rows =
    -- "Deleting the first key of a leaf changes no reference key by itself."
    row (did (wide 4 spare_in_the_middle) (runs 0 (Delete 60 First) 2))
    (began ∷ onward ∷ deleted ∷ paged 2 (1 ∷ 2 ∷ 70 ∷ 7 ∷ 80 ∷ 7 ∷ 0 ∷ 0 ∷ 0 ∷ 0 ∷ 0 ∷ []) lean ∷ [])
    -- One entry moves over from the right, to the first leaf and to the middle one, and from the left, to the last.
    ∷ row (did (wide 4 spare_in_the_middle) (runs 0 (Delete 10 First) 3))
    (began ∷ onward ∷ onward ∷ deleted ∷
    paged 0 (2 ∷ 2 ∷ 1 ∷ 70 ∷ 2 ∷ 100 ∷ 3 ∷ 0 ∷ 0 ∷ 0 ∷ 0 ∷ [])
    (paged 1 (1 ∷ 2 ∷ 20 ∷ 7 ∷ 60 ∷ 7 ∷ 0 ∷ 0 ∷ 0 ∷ 0 ∷ 0 ∷ [])
    (paged 2 (1 ∷ 2 ∷ 70 ∷ 7 ∷ 80 ∷ 7 ∷ 0 ∷ 0 ∷ 0 ∷ 0 ∷ 0 ∷ []) lean)) ∷ [])
    ∷ row (did (wide 4 spare_at_the_ends) (runs 0 (Delete 70 First) 3))
    (began ∷ onward ∷ onward ∷ deleted ∷
    paged 0 (2 ∷ 2 ∷ 1 ∷ 50 ∷ 2 ∷ 120 ∷ 3 ∷ 0 ∷ 0 ∷ 0 ∷ 0 ∷ [])
    (paged 2 (1 ∷ 2 ∷ 60 ∷ 7 ∷ 110 ∷ 7 ∷ 0 ∷ 0 ∷ 0 ∷ 0 ∷ 0 ∷ [])
    (paged 3 (1 ∷ 2 ∷ 120 ∷ 7 ∷ 130 ∷ 7 ∷ 0 ∷ 0 ∷ 0 ∷ 0 ∷ 0 ∷ []) spare_at_the_ends)) ∷ [])
    ∷ row (did (wide 4 spare_in_the_middle) (runs 0 (Delete 120 First) 3))
    (began ∷ onward ∷ onward ∷ deleted ∷
    paged 0 (2 ∷ 2 ∷ 1 ∷ 50 ∷ 2 ∷ 80 ∷ 3 ∷ 0 ∷ 0 ∷ 0 ∷ 0 ∷ [])
    (paged 2 (1 ∷ 2 ∷ 60 ∷ 7 ∷ 70 ∷ 7 ∷ 0 ∷ 0 ∷ 0 ∷ 0 ∷ 0 ∷ [])
    (paged 3 (1 ∷ 2 ∷ 80 ∷ 7 ∷ 110 ∷ 7 ∷ 0 ∷ 0 ∷ 0 ∷ 0 ∷ 0 ∷ []) lean)) ∷ [])
    -- Two leaves join: the first and the middle one with the one on the right, the last one with the one on the left.
    ∷ row (did (wide 4 lean) (runs 0 (Delete 20 First) 3))
    (began ∷ onward ∷ onward ∷ deleted ∷
    paged 0 (2 ∷ 1 ∷ 1 ∷ 100 ∷ 3 ∷ 0 ∷ 0 ∷ 0 ∷ 0 ∷ 0 ∷ 0 ∷ [])
    (paged 1 (1 ∷ 3 ∷ 10 ∷ 7 ∷ 60 ∷ 7 ∷ 70 ∷ 7 ∷ 0 ∷ 0 ∷ 0 ∷ [])
    (paged 2 freed lean)) ∷ [])
    ∷ row (did (wide 4 lean) (runs 0 (Delete 60 First) 3))
    (began ∷ onward ∷ onward ∷ deleted ∷
    paged 0 (2 ∷ 1 ∷ 1 ∷ 50 ∷ 2 ∷ 0 ∷ 0 ∷ 0 ∷ 0 ∷ 0 ∷ 0 ∷ [])
    (paged 2 (1 ∷ 3 ∷ 70 ∷ 7 ∷ 110 ∷ 7 ∷ 120 ∷ 7 ∷ 0 ∷ 0 ∷ 0 ∷ [])
    (paged 3 freed lean)) ∷ [])
    ∷ row (did (wide 4 lean) (runs 0 (Delete 110 First) 3))
    (began ∷ onward ∷ onward ∷ deleted ∷
    paged 0 (2 ∷ 1 ∷ 1 ∷ 50 ∷ 2 ∷ 0 ∷ 0 ∷ 0 ∷ 0 ∷ 0 ∷ 0 ∷ [])
    (paged 2 (1 ∷ 3 ∷ 60 ∷ 7 ∷ 70 ∷ 7 ∷ 120 ∷ 7 ∷ 0 ∷ 0 ∷ 0 ∷ [])
    (paged 3 freed lean)) ∷ [])
    -- "If page 0 is left with no reference key, its one child's words move into page 0 and that child is freed."
    ∷ row (did (wide 3 lean_two) (runs 0 (Delete 70 First) 3))
    (began ∷ onward ∷ onward ∷ deleted ∷
    paged 0 (1 ∷ 3 ∷ 10 ∷ 7 ∷ 20 ∷ 7 ∷ 60 ∷ 7 ∷ 0 ∷ 0 ∷ 0 ∷ [])
    (paged 1 freed (paged 2 freed lean_two)) ∷ [])
    -- Two leaves join, and their father has a key to spare: page 0 is given up.
    ∷ row (did (wide 14 spare_above) (runs 0 (Delete 310 First) 4))
    (began ∷ onward ∷ onward ∷ onward ∷ deleted ∷
    paged 2 (2 ∷ 2 ∷ 7 ∷ 500 ∷ 9 ∷ 600 ∷ 10 ∷ 0 ∷ 0 ∷ 0 ∷ 0 ∷ [])
    (paged 7 (1 ∷ 3 ∷ 300 ∷ 7 ∷ 400 ∷ 7 ∷ 410 ∷ 7 ∷ 0 ∷ 0 ∷ 0 ∷ [])
    (paged 8 freed spare_above)) ∷ [])
    -- Two leaves join, and above them one reference key moves over "by way of the father, with its child": from the right, from the left.
    ∷ row (did (wide 14 spare_above) (runs 0 (Delete 10 First) 5))
    (began ∷ onward ∷ onward ∷ onward ∷ onward ∷ deleted ∷
    paged 0 (3 ∷ 2 ∷ 1 ∷ 400 ∷ 2 ∷ 700 ∷ 3 ∷ 0 ∷ 0 ∷ 0 ∷ 0 ∷ [])
    (paged 1 (2 ∷ 2 ∷ 4 ∷ 200 ∷ 6 ∷ 300 ∷ 7 ∷ 0 ∷ 0 ∷ 0 ∷ 0 ∷ [])
    (paged 2 (2 ∷ 2 ∷ 8 ∷ 500 ∷ 9 ∷ 600 ∷ 10 ∷ 0 ∷ 0 ∷ 0 ∷ 0 ∷ [])
    (paged 4 (1 ∷ 3 ∷ 20 ∷ 7 ∷ 100 ∷ 7 ∷ 110 ∷ 7 ∷ 0 ∷ 0 ∷ 0 ∷ [])
    (paged 5 freed spare_above)))) ∷ [])
    ∷ row (did (wide 14 spare_above) (runs 0 (Delete 910 First) 5))
    (began ∷ onward ∷ onward ∷ onward ∷ onward ∷ deleted ∷
    paged 0 (3 ∷ 2 ∷ 1 ∷ 300 ∷ 2 ∷ 600 ∷ 3 ∷ 0 ∷ 0 ∷ 0 ∷ 0 ∷ [])
    (paged 2 (2 ∷ 2 ∷ 7 ∷ 400 ∷ 8 ∷ 500 ∷ 9 ∷ 0 ∷ 0 ∷ 0 ∷ 0 ∷ [])
    (paged 3 (2 ∷ 2 ∷ 10 ∷ 700 ∷ 11 ∷ 800 ∷ 12 ∷ 0 ∷ 0 ∷ 0 ∷ 0 ∷ [])
    (paged 12 (1 ∷ 3 ∷ 800 ∷ 7 ∷ 810 ∷ 7 ∷ 900 ∷ 7 ∷ 0 ∷ 0 ∷ 0 ∷ [])
    (paged 13 freed spare_above)))) ∷ [])
    -- Two leaves join, and two pages above them: the first and the middle one with the one on the right, the last one with the one on the
    -- left. "both join in the left page, .. above the leaves [the father's reference key] comes down between them"
    ∷ row (did (wide 13 lean_above) (runs 0 (Delete 210 First) 5))
    (began ∷ onward ∷ onward ∷ onward ∷ onward ∷ deleted ∷
    paged 0 (3 ∷ 1 ∷ 1 ∷ 700 ∷ 3 ∷ 0 ∷ 0 ∷ 0 ∷ 0 ∷ 0 ∷ 0 ∷ [])
    (paged 1 (2 ∷ 4 ∷ 4 ∷ 100 ∷ 5 ∷ 300 ∷ 7 ∷ 400 ∷ 8 ∷ 500 ∷ 9 ∷ [])
    (paged 2 freed
    (paged 5 (1 ∷ 3 ∷ 100 ∷ 7 ∷ 110 ∷ 7 ∷ 200 ∷ 7 ∷ 0 ∷ 0 ∷ 0 ∷ [])
    (paged 6 freed lean_above)))) ∷ [])
    ∷ row (did (wide 13 lean_above) (runs 0 (Delete 400 First) 5))
    (began ∷ onward ∷ onward ∷ onward ∷ onward ∷ deleted ∷
    paged 0 (3 ∷ 1 ∷ 1 ∷ 300 ∷ 2 ∷ 0 ∷ 0 ∷ 0 ∷ 0 ∷ 0 ∷ 0 ∷ [])
    (paged 2 (2 ∷ 4 ∷ 7 ∷ 400 ∷ 8 ∷ 700 ∷ 10 ∷ 800 ∷ 11 ∷ 900 ∷ 12 ∷ [])
    (paged 3 freed
    (paged 8 (1 ∷ 3 ∷ 410 ∷ 7 ∷ 500 ∷ 7 ∷ 510 ∷ 7 ∷ 0 ∷ 0 ∷ 0 ∷ [])
    (paged 9 freed lean_above)))) ∷ [])
    ∷ row (did (wide 13 lean_above) (runs 0 (Delete 700 First) 5))
    (began ∷ onward ∷ onward ∷ onward ∷ onward ∷ deleted ∷
    paged 0 (3 ∷ 1 ∷ 1 ∷ 300 ∷ 2 ∷ 0 ∷ 0 ∷ 0 ∷ 0 ∷ 0 ∷ 0 ∷ [])
    (paged 2 (2 ∷ 4 ∷ 7 ∷ 400 ∷ 8 ∷ 500 ∷ 9 ∷ 700 ∷ 10 ∷ 900 ∷ 12 ∷ [])
    (paged 3 freed
    (paged 10 (1 ∷ 3 ∷ 710 ∷ 7 ∷ 800 ∷ 7 ∷ 810 ∷ 7 ∷ 0 ∷ 0 ∷ 0 ∷ [])
    (paged 11 freed lean_above)))) ∷ [])
    -- Joins on both levels, and page 0 is left with no reference key.
    ∷ row (did (wide 9 lean_two_above) (runs 0 (Delete 510 First) 5))
    (began ∷ onward ∷ onward ∷ onward ∷ onward ∷ deleted ∷
    paged 0 (2 ∷ 4 ∷ 3 ∷ 100 ∷ 4 ∷ 200 ∷ 5 ∷ 300 ∷ 6 ∷ 400 ∷ 7 ∷ [])
    (paged 1 freed
    (paged 2 freed
    (paged 7 (1 ∷ 3 ∷ 400 ∷ 7 ∷ 410 ∷ 7 ∷ 500 ∷ 7 ∷ 0 ∷ 0 ∷ 0 ∷ [])
    (paged 8 freed lean_two_above)))) ∷ [])
    ∷ []

-- all of them
abbrev pub wide_rows : List Row
wide_rows = split_rows ++ short_rows
