-- Lines and answers computed: those of document 01's example, good lines at the edge, lines that are just not good, and
-- the answers of the example.
use Prim.Native.Nat.{ℕ}
use Prim.Native.String.{String}
use mathlib.Core.List.{List, [], ◌∷◌, map}
use mathlib.Core.Path.{◌≡◌, refl}
use Rattle.slots.specs.declared.Op.TheVariants.{Search, Insert, Delete, Next, Regrade}
use Rattle.slots.specs.declared.Way.TheVariants.{First, Second, Third}
use Rattle.slots.specs.declared.Answer.{Answer}
use Rattle.slots.specs.declared.Answer.TheVariants.{Begun, Waiting, Inserted, Found, SlotIdle, AlreadyThere, Deleted, Next as NextLot, None as NoLot, Regraded, Opened, BadPageInPool, BadTree}
use Rattle.lines.specs.declared.Command.{Command}
use Rattle.lines.specs.declared.Command.TheVariants.{Begin, Step, Bad}
use Rattle.lines.specs.Text.{bytes, starts_with}
use Rattle.lines.specs.Meaning.{digits, value, front, stepping, searching, deleting, asking_next, informing, keying, inserting, asking_regrade, asking_third, asking_second, asking, beginning, meaning}
use Rattle.lines.specs.Decimal.{digits_within, decimal}
use Rattle.lines.specs.Names.{answer_line}

meanings : List String → List Command
meanings = map (λ line. meaning (bytes line))

good_lines :
    meanings (
    "b 0 i 12 3"
    ∷ "b 1 s 12"
    ∷ "t 1"
    ∷ "b 16 d 0"
    ∷ "t 0015"
    ∷ "b 4294967295 s 00004294967295"
    ∷ "b 3 n 12"
    ∷ "b 2 g 12 4294967295"
    ∷ "b 0 i2 12 3"
    ∷ "b 16 d2 0"
    ∷ "b 2 g2 0012 4294967295"
    ∷ "b 0 i3 12 3"
    ∷ "b 16 d3 0"
    ∷ "b 2 g3 0012 4294967295"
    ∷ []
    )
    ≡ Begin 0 (Insert 12 3 First)
    ∷ Begin 1 (Search 12)
    ∷ Step 1
    ∷ Begin 16 (Delete 0 First)
    ∷ Step 15
    ∷ Begin 4294967295 (Search 4294967295)
    ∷ Begin 3 (Next 12)
    ∷ Begin 2 (Regrade 12 4294967295 First)
    ∷ Begin 0 (Insert 12 3 Second)
    ∷ Begin 16 (Delete 0 Second)
    ∷ Begin 2 (Regrade 12 4294967295 Second)
    ∷ Begin 0 (Insert 12 3 Third)
    ∷ Begin 16 (Delete 0 Third)
    ∷ Begin 2 (Regrade 12 4294967295 Third)
    ∷ []
unfolding meanings starts_with digits value front stepping searching deleting asking_next informing keying inserting asking_regrade asking_third asking_second asking beginning meaning
good_lines = refl

bad_lines :
    meanings (
    ""
    ∷ "t"
    ∷ "t "
    ∷ "t 1 "
    ∷ " t 1"
    ∷ "t  1"
    ∷ "t\t1"
    ∷ "t 1\r"
    ∷ "t +1"
    ∷ "t 4294967296"
    ∷ "T 1"
    ∷ "b 1 s"
    ∷ "b 1 s 2 3"
    ∷ "b 1 i 2"
    ∷ "b 1 i 2  3"
    ∷ "b 1 n"
    ∷ "b 1 n x"
    ∷ "b 1 n 2 3"
    ∷ "b 1 g 2"
    ∷ "b 1 g 2 3 "
    ∷ "b 1 g 2 4294967296"
    ∷ "b 1 G 2 3"
    ∷ "b 1 x 2"
    ∷ "b 1 s2 2"
    ∷ "b 1 n2 2"
    ∷ "b 1 i2 2"
    ∷ "b 1 i4 2 3"
    ∷ "b 1 s3 2"
    ∷ "b 1 d3 2 3"
    ∷ "b 1 i 2 2 3"
    ∷ "b 1 i22 2 3"
    ∷ "b 1 d2 2 3"
    ∷ "b 1 d2  2"
    ∷ "b 1 g2 2 4294967296"
    ∷ []
    )
    ≡ Bad ∷ Bad ∷ Bad ∷ Bad ∷ Bad ∷ Bad ∷ Bad ∷ Bad ∷ Bad ∷ Bad ∷ Bad ∷ Bad ∷ Bad ∷ Bad ∷ Bad ∷ Bad ∷ Bad ∷ Bad ∷ Bad ∷ Bad ∷ Bad ∷ Bad ∷ Bad ∷ Bad ∷ Bad ∷ Bad ∷ Bad ∷ Bad ∷ Bad ∷ Bad ∷ Bad ∷ Bad ∷ Bad ∷ Bad ∷ []
unfolding meanings starts_with digits value front stepping searching deleting asking_next informing keying inserting asking_regrade asking_third asking_second asking beginning meaning
bad_lines = refl

-- ---- answers

lines_written : List Answer → List (List ℕ)
lines_written = map answer_line

answers :
    lines_written (Begun ∷ Waiting ∷ Inserted ∷ Found 3 ∷ SlotIdle ∷ Found 0 ∷ Deleted 4294967295 ∷ NextLot 4294967295 0 ∷ NoLot ∷ AlreadyThere 7 ∷ Regraded 4294967295 ∷ Opened ∷ BadPageInPool 7 ∷ BadTree ∷ [])
    ≡ map bytes ("Begun\n" ∷ "Waiting\n" ∷ "Inserted\n" ∷ "Found 3\n" ∷ "SlotIdle\n" ∷ "Found 0\n" ∷ "Deleted 4294967295\n" ∷ "Next 4294967295 0\n" ∷ "None\n" ∷ "AlreadyThere 7\n" ∷ "Regraded 4294967295\n" ∷ "Opened\n" ∷ "BadPageInPool 7\n" ∷ "BadTree\n" ∷ [])
unfolding lines_written digits_within decimal
answers = refl
