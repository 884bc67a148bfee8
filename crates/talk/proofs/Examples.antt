-- The little program computed: document 01's example, the making of its pool, and inputs at the edge.
use mathlib.Core.List.{[]}
use mathlib.Core.Path.{◌≡◌, refl}
use Rattle.ground.specs.Limits.{largest_k, largest_n}
use Rattle.pool.specs.Pool.{pool_length, fresh}
use Rattle.slots.specs.declared.Answer.TheVariants.{Made}
use Rattle.slots.specs.Parts.{idle_state}
use Rattle.lines.specs.Text.{bytes, starts_with as begins-with}
use Rattle.lines.specs.Meaning.{digits, value, front, stepping, searching, deleting, asking_next, informing, keying, inserting, asking_regrade, asking_third, asking_second, asking, beginning, meaning}
use Rattle.lines.specs.Decimal.{digits_within, decimal}
use Rattle.index.specs.Step.{left}
use Rattle.index.specs.Make.{made}
use Rattle.index.specs.Unfolded.{every_call}
use Rattle.talk.specs.Split.{lines_of}
use Rattle.talk.specs.Talk.{replies, program_k, program_pages, blank, opening, most_bytes, program_writes}

-- Everything that the program unfolds to: what a call does, what a line means, how an answer is written.
program : Unit {0}
unfolding every_call begins-with digits value front stepping searching deleting asking_next informing keying inserting asking_regrade asking_third asking_second asking beginning meaning digits_within decimal lines_of replies blank most_bytes program_writes
program = tt

-- the program's pool is made, and is fresh
pub opened : opening ≡ left Made (idle_state program_k program_pages) (fresh program_k program_pages)
unfolding largest_k largest_n pool_length made blank
opened = refl

-- "Input `b 0 i 12 3`, `b 1 s 12`, `t 1`, `t 0`, `t 1`, `t 1` writes, whole: `Begun`, `Begun`, `Waiting`, `Inserted`,
-- `Found 3`, `SlotIdle`, one a line, no header." The third line stays Waiting under 02 (iii): the older want is an insertion's, and ξ
-- goes with nothing.
pub example : program_writes (bytes "b 0 i 12 3\nb 1 s 12\nt 1\nt 0\nt 1\nt 1\n") ≡ bytes "Begun\nBegun\nWaiting\nInserted\nFound 3\nSlotIdle\n"
unfolding program
example = refl

-- the next lot at or above: none in the empty pool, then the only one
pub next_example : program_writes (bytes "b 0 n 5\nt 0\nb 0 i 12 3\nt 0\nb 0 n 5\nt 0\nb 0 n 13\nt 0\n") ≡ bytes "Begun\nNone\nBegun\nInserted\nBegun\nNext 12 3\nBegun\nNone\n"
unfolding program
next_example = refl

-- new information under a key: no such key in the empty pool; then the old information is answered, and the new one is there
pub regrade_example : program_writes (bytes "b 0 g 12 5\nt 0\nb 0 i 12 3\nt 0\nb 0 g 12 5\nt 0\nb 0 i 12 7\nt 0\n") ≡ bytes "Begun\nNoSuchKey\nBegun\nInserted\nBegun\nRegraded 3\nBegun\nAlreadyThere 5\n"
unfolding program
regrade_example = refl

-- the same insertion by the second way: the search goes by, since ρ goes with ρ; page 0 is a leaf, so that the insertion begins again
pub second_way_example : program_writes (bytes "b 0 i2 12 3\nb 1 s 12\nt 1\nt 0\nt 0\nb 1 g2 12 5\nt 1\nt 1\nb 0 d2 12\nt 0\nt 0\n") ≡ bytes "Begun\nBegun\nNotFound\nMoved\nInserted\nBegun\nMoved\nRegraded 3\nBegun\nMoved\nDeleted 5\n"
unfolding program
second_way_example = refl

-- page 0 above two leaves: a key already there is answered at the leaf, and a safe leaf is changed there
pub second_way_leaf_example : program_writes (bytes "b 0 i 10 1\nt 0\nb 0 i 20 2\nt 0\nb 0 i 30 3\nt 0\nb 0 i 40 4\nt 0\nb 0 i 50 5\nt 0\nb 0 i2 50 9\nt 0\nt 0\nb 0 d2 50\nt 0\nt 0\nb 0 d2 40\nt 0\nt 0\nt 0\n") ≡ bytes "Begun\nInserted\nBegun\nInserted\nBegun\nInserted\nBegun\nInserted\nBegun\nInserted\nBegun\nMoved\nAlreadyThere 5\nBegun\nMoved\nDeleted 5\nBegun\nMoved\nMoved\nMoved\n"
unfolding program
second_way_leaf_example = refl

-- "empty input writes nothing"
pub nothing : program_writes [] ≡ []
unfolding most_bytes program_writes lines_of replies
nothing = refl

-- "an unended last one .. gives BadLine", and is not run
pub unended : program_writes (bytes "\nt 0") ≡ bytes "BadLine\nBadLine\n"
unfolding most_bytes program_writes lines_of replies begins-with beginning stepping meaning
unended = refl
