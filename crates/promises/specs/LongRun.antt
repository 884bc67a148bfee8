-- A long run on the bench: 219 calls by three slots, k = 1, N = 18. The tree rises from one leaf to four levels, loses
-- them again and ends as the fresh pool. On the way pages split, move over and join on levels 1, 2 and 3, with right and
-- with left neighbours, and every answer of a step is heard. The answers come from a second program (`rust/twin`).
use Rattle.std.specs.Prelude.{ℕ, zero, suc, List, [], ◌∷◌, ◌++◌}
use Rattle.pool.specs.Pool.{fresh}
use Rattle.slots.specs.declared.Op.{Op}
use Rattle.slots.specs.declared.Op.TheVariants.{Search, Insert, Delete}
use Rattle.slots.specs.declared.Way.TheVariants.{First}
use Rattle.slots.specs.declared.Answer.TheVariants.{Waiting, Moved, Found, NotFound, Inserted, AlreadyThere, Deleted, NoSuchKey, NoRoom, Begun}
use Rattle.slots.specs.Heard.{heard}
use Rattle.runs.specs.Run.{Call, begin, step}
use Rattle.promises.specs.Bench.{Row, row, run_fresh, heard_in}

abbrev pub began : List ℕ
began = heard Begun

abbrev pub onward : List ℕ
onward = heard Moved

abbrev pub waits : List ℕ
waits = heard Waiting

abbrev pub found : List ℕ
found = heard (Found 7)

abbrev pub absent : List ℕ
absent = heard NotFound

abbrev pub entered : List ℕ
entered = heard Inserted

abbrev pub there : List ℕ
there = heard (AlreadyThere 7)

abbrev pub deleted : List ℕ
deleted = heard (Deleted 7)

abbrev pub missing : List ℕ
missing = heard NoSuchKey

abbrev pub no_page : List ℕ
no_page = heard NoRoom

-- some calls so many times
unfoldable pub again : ℕ → List Call → List Call
again zero cs = []
again (suc r) cs = cs ++ again r cs

-- Three operations begun in slots 0, 1 and 2, then so many rounds by all three, by the last two, by the last.
abbrev pub three_at_once : Op → Op → Op → ℕ → ℕ → ℕ → List Call
three_at_once o p q all two one =
    begin 0 o
    ∷ begin 1 p
    ∷ begin 2 q
    ∷ again all (step 0 ∷ step 1 ∷ step 2 ∷ [])
    ++ again two (step 1 ∷ step 2 ∷ [])
    ++ again one (step 2 ∷ [])

abbrev pub long_run : List Call
long_run =
    three_at_once (Insert 1 7 First) (Delete 11 First) (Insert 14 7 First) 1 0 0
    ++ three_at_once (Insert 14 7 First) (Insert 7 7 First) (Insert 8 7 First) 1 0 1
    ++ three_at_once (Insert 2 7 First) (Insert 16 7 First) (Insert 7 7 First) 2 1 2
    ++ three_at_once (Insert 13 7 First) (Insert 3 7 First) (Insert 4 7 First) 3 1 1
    ++ three_at_once (Insert 9 7 First) (Search 17) (Insert 15 7 First) 3 1 1
    ++ three_at_once (Insert 6 7 First) (Insert 5 7 First) (Delete 14 First) 4 1 2
    ++ three_at_once (Delete 7 First) (Insert 11 7 First) (Delete 15 First) 5 0 4
    ++ three_at_once (Search 16) (Insert 10 7 First) (Delete 3 First) 4 1 4
    ++ three_at_once (Search 9) (Delete 5 First) (Delete 8 First) 4 3 6
    ++ three_at_once (Insert 12 7 First) (Delete 2 First) (Delete 9 First) 3 6 4
    ++ three_at_once (Delete 4 First) (Delete 1 First) (Delete 6 First) 4 3 4
    ++ three_at_once (Delete 12 First) (Delete 13 First) (Delete 10 First) 2 2 2
    ++ three_at_once (Delete 16 First) (Search 16) (Delete 16 First) 1 0 0

-- what is heard; each three operations begin a new line
abbrev pub long_answers : List (List ℕ)
long_answers =
    began ∷ began ∷ began ∷ entered ∷ missing ∷ entered ∷
    began ∷ began ∷ began ∷ there ∷ entered ∷ onward ∷ entered ∷
    began ∷ began ∷ began ∷ onward ∷ waits ∷ waits ∷ entered ∷ onward ∷ waits ∷ entered ∷ onward ∷ onward ∷ there ∷
    began ∷ began ∷ began ∷ onward ∷ waits ∷ waits ∷ onward ∷ onward ∷ waits ∷ entered ∷ onward ∷ onward ∷ entered ∷
    onward ∷ entered ∷
    began ∷ began ∷ began ∷ onward ∷ waits ∷ waits ∷ onward ∷ onward ∷ waits ∷ entered ∷ onward ∷ onward ∷ absent ∷
    onward ∷ entered ∷
    began ∷ began ∷ began ∷ onward ∷ waits ∷ waits ∷ onward ∷ onward ∷ waits ∷ onward ∷ onward ∷ onward ∷ entered ∷
    onward ∷ onward ∷ entered ∷ onward ∷ onward ∷ deleted ∷
    began ∷ began ∷ began ∷ onward ∷ waits ∷ waits ∷ onward ∷ onward ∷ waits ∷ onward ∷ onward ∷ onward ∷ onward ∷
    onward ∷ onward ∷ deleted ∷ no_page ∷ onward ∷ onward ∷ onward ∷ onward ∷ deleted ∷
    began ∷ began ∷ began ∷ onward ∷ waits ∷ waits ∷ onward ∷ onward ∷ waits ∷ onward ∷ onward ∷ onward ∷ found ∷
    onward ∷ onward ∷ entered ∷ onward ∷ onward ∷ onward ∷ onward ∷ deleted ∷
    began ∷ began ∷ began ∷ onward ∷ waits ∷ waits ∷ onward ∷ onward ∷ waits ∷ onward ∷ onward ∷ waits ∷ found ∷
    onward ∷ waits ∷ onward ∷ waits ∷ onward ∷ waits ∷ deleted ∷ onward ∷ onward ∷ onward ∷ onward ∷ onward ∷ onward ∷
    deleted ∷
    began ∷ began ∷ began ∷ onward ∷ waits ∷ waits ∷ onward ∷ waits ∷ waits ∷ entered ∷ onward ∷ waits ∷ onward ∷
    waits ∷ onward ∷ waits ∷ onward ∷ waits ∷ onward ∷ waits ∷ onward ∷ waits ∷ deleted ∷ onward ∷ onward ∷ onward ∷
    onward ∷ deleted ∷
    began ∷ began ∷ began ∷ onward ∷ waits ∷ waits ∷ onward ∷ onward ∷ waits ∷ onward ∷ waits ∷ waits ∷ deleted ∷
    onward ∷ waits ∷ onward ∷ waits ∷ onward ∷ waits ∷ deleted ∷ onward ∷ onward ∷ onward ∷ onward ∷ deleted ∷
    began ∷ began ∷ began ∷ onward ∷ waits ∷ waits ∷ deleted ∷ onward ∷ waits ∷ onward ∷ waits ∷ deleted ∷ onward ∷
    onward ∷ deleted ∷
    began ∷ began ∷ began ∷ deleted ∷ absent ∷ missing ∷ []

-- What is heard, and the fresh pool at the end.
abbrev pub long_rows : List Row
long_rows =
    row (heard_in (run_fresh 1 18 long_run)) long_answers
    ∷ row ((run_fresh 1 18 long_run).words ∷ []) (fresh 1 18 ∷ [])
    ∷ []
