-- What the caller hears, in one table: number, name and values of each answer, whether an operation ends with it, and whether pages
-- were written. "What the caller hears" of document 01.
-- Refusals have the numbers of 01's table. The other answers are numbered in the order in which 01 and 02 name them, from 32.
-- A new answer is a row of `said` and a place in `answers_with`.
use Rattle.std.specs.Prelude.{ℕ, Bool, true, false, cond, not, ◌&&◌, List, [], ◌∷◌, map, eqb, leb, ltb, length, get_or}
use Prim.Native.String.{String}
use Rattle.ground.specs.Tests.{member}
use Rattle.slots.specs.declared.Lock.{Lock}
use Rattle.slots.specs.declared.Lock.TheVariants.{None, Rho, Xi, UpdaterRho, Alpha}
use Rattle.slots.specs.declared.hearing.Heard.{Heard}
use Rattle.slots.specs.declared.Answer.{Answer}
use Rattle.slots.specs.declared.Answer.TheVariants.{Waiting, Moved, Found, NotFound, Inserted, AlreadyThere, Deleted, NoSuchKey, NoRoom, Begun, Made, Reported, BadState, BadPool, BadSlot, SlotBusy, SlotIdle, Damaged, BadPage, Next, None as NoLot, Regraded, Opened, BadPageInPool, BadTree, BadKey}

-- none, ρ, ξ; and those of 02 (vi) behind them
abbrev pub lock_number : Lock → ℕ
lock_number None = 0
lock_number Rho = 1
lock_number Xi = 2
lock_number UpdaterRho = 3
lock_number Alpha = 4

-- the lock kind of a number; a number that is no kind stands for none
abbrev pub lock_named : ℕ → Lock
lock_named i = cond (eqb i 1) Rho (cond (eqb i 2) Xi (cond (eqb i 3) UpdaterRho (cond (eqb i 4) Alpha None)))

-- the number of the first answer, Waiting: the refusals stand below it
abbrev pub first_answer : ℕ
first_answer = 32

pub record Said : Type 0 where
  pub number : ℕ
  pub name : String
  pub values : List ℕ
  -- an operation ends with it
  pub ends : Bool
  -- pages were written
  pub writes : Bool

-- a refusal that names something
abbrev refusal_of : ℕ → String → List ℕ → Said
refusal_of number name values = record { number = number; name = name; values = values; ends = false; writes = false }

abbrev refusal : ℕ → String → Said
refusal number name = refusal_of number name []

-- an answer after which nothing has ended
abbrev notice : ℕ → String → List ℕ → Said
notice number name values = record { number = number; name = name; values = values; ends = false; writes = false }

-- an answer that ends an operation, and wrote nothing
abbrev result : ℕ → String → List ℕ → Said
result number name values = record { number = number; name = name; values = values; ends = true; writes = false }

-- one that ends an operation, and wrote pages
abbrev change : ℕ → String → List ℕ → Said
change number name values = record { number = number; name = name; values = values; ends = true; writes = true }

abbrev pub said : Answer → Said
said BadState = refusal 1 "BadState"
said BadPool = refusal 2 "BadPool"
said BadSlot = refusal 3 "BadSlot"
said SlotBusy = refusal 4 "SlotBusy"
said SlotIdle = refusal 5 "SlotIdle"
said Damaged = refusal 6 "Damaged"
said BadPage = refusal 7 "BadPage"
said Waiting = notice first_answer "Waiting" []
said Moved = notice 33 "Moved" []
said (Found v) = result 34 "Found" (v ∷ [])
said NotFound = result 35 "NotFound" []
said Inserted = change 36 "Inserted" []
said (AlreadyThere v) = result 37 "AlreadyThere" (v ∷ [])
said (Deleted v) = change 38 "Deleted" (v ∷ [])
said NoSuchKey = result 39 "NoSuchKey" []
said NoRoom = result 40 "NoRoom" []
said Begun = notice 41 "Begun" []
said Made = notice 42 "Made" []
said (Reported kind holders lowest) = notice 43 "Reported" (lock_number kind ∷ holders ∷ lowest ∷ [])
said (Next x v) = result 44 "Next" (x ∷ v ∷ [])
said NoLot = result 45 "None" []
said (Regraded v) = change 46 "Regraded" (v ∷ [])
said Opened = notice 47 "Opened" []
said (BadPageInPool p) = refusal_of 9 "BadPageInPool" (p ∷ [])
said BadTree = refusal 10 "BadTree"
said BadKey = refusal 8 "BadKey"

-- all answers, each with as many of these values as it has
abbrev pub answers_with : List ℕ → List Answer
answers_with vs =
    BadState
    ∷ BadPool
    ∷ BadSlot
    ∷ SlotBusy
    ∷ SlotIdle
    ∷ Damaged
    ∷ BadPage
    ∷ Waiting
    ∷ Moved
    ∷ Found (get_or vs 0 0)
    ∷ NotFound
    ∷ Inserted
    ∷ AlreadyThere (get_or vs 0 0)
    ∷ Deleted (get_or vs 0 0)
    ∷ NoSuchKey
    ∷ NoRoom
    ∷ Begun
    ∷ Made
    ∷ Reported (lock_named (get_or vs 0 0)) (get_or vs 1 0) (get_or vs 2 0)
    ∷ Next (get_or vs 0 0) (get_or vs 1 0)
    ∷ NoLot
    ∷ Regraded (get_or vs 0 0)
    ∷ Opened
    ∷ BadPageInPool (get_or vs 0 0)
    ∷ BadTree
    ∷ BadKey
    ∷ []

-- ---- the columns

abbrev pub number_of : Answer → ℕ
number_of a = (said a).number

-- the number, and behind it the values
abbrev pub heard : Answer → List ℕ
heard a = (said a).number ∷ (said a).values

-- value i; where there is none, 0
abbrev pub value_of : Answer → ℕ → ℕ
value_of a i = get_or (said a).values i 0

-- the number, how many values, and three values
abbrev pub numbers_of : Answer → List ℕ
numbers_of a = number_of a ∷ length (said a).values ∷ value_of a 0 ∷ value_of a 1 ∷ value_of a 2 ∷ []

-- such numbers as a list
abbrev pub listed : Heard → List ℕ
listed r = r.number ∷ r.count ∷ r.values

-- the refusals: those of 01's table, and whatever stands below the answers
abbrev pub refuses : Answer → Bool
refuses a = ltb (number_of a) first_answer

-- after a refusal, and after Waiting, everything is as given (of a making: the pool)
abbrev pub changes_nothing : Answer → Bool
changes_nothing a = leb (number_of a) first_answer

-- the answer is one of a list, whatever their values
abbrev pub is_one_of : Answer → List Answer → Bool
is_one_of a list = member (number_of a) (map number_of list)

-- all answers that pass, with values 0
abbrev those : (Answer → Bool) → List Answer → List Answer
those test [] = []
those test (a ∷ list) = cond (test a) (a ∷ those test list) (those test list)

-- the answers that end an operation, save NoRoom
abbrev pub counted_answers : List Answer
counted_answers = those (λ (a : Answer). (said a).ends && not (eqb (number_of a) (number_of NoRoom))) (answers_with [])

-- all answers that end an operation
abbrev pub ending : List Answer
ending = NoRoom ∷ counted_answers

-- the answers of which pages are written
abbrev pub writing : List Answer
writing = those (λ (a : Answer). (said a).writes) (answers_with [])
