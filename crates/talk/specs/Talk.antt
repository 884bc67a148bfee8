-- All that the little program writes for an input: "The little program" of document 01, with the rules of the calls.
use Rattle.std.specs.Prelude.{ℕ, cond, List, [], ◌∷◌, ◌++◌, ltb, length, replicate}
use Rattle.pool.specs.Pool.{pool_length}
use Rattle.slots.specs.declared.State.{State}
use Rattle.slots.specs.declared.Outcome.{Outcome}
use Rattle.slots.specs.Begin.{begun}
use Rattle.lines.specs.declared.Command.{Command}
use Rattle.lines.specs.declared.Command.TheVariants.{Begin, Step, Bad}
use Rattle.lines.specs.Meaning.{meaning}
use Rattle.lines.specs.Names.{answer_line, bad_line, too_long}
use Rattle.index.specs.Step.{Left, stepped}
use Rattle.index.specs.Make.{made}
use Rattle.talk.specs.Split.{Line, ended, unended, lines_of}

-- What a line leaves: the bytes of its answer, and the state and words for the next line.
pub record AfterLine : Type 0 where
  pub said : List ℕ
  pub state : State
  pub words : List ℕ

abbrev pub after_line : List ℕ → State → List ℕ → AfterLine
after_line said st ws = record { said = said; state = st; words = ws }

-- what a call leaves, its answer written out
abbrev pub after_begin : List ℕ → Outcome → AfterLine
after_begin ws r = after_line (answer_line r.answer) r.state ws

abbrev pub after_step : Left → AfterLine
after_step r = after_line (answer_line r.answer) r.state r.words

-- a command is the call that it names; what is no command calls nothing and "gives BadLine"
abbrev pub commanded : State → List ℕ → Command → AfterLine
commanded st ws (Begin s op) = after_begin ws (begun st s op)
commanded st ws (Step s) = after_step (stepped st ws s)
commanded st ws Bad = after_line bad_line st ws

-- "Another line, an unended last one, .. gives BadLine"
abbrev pub answered : State → List ℕ → Line → AfterLine
answered st ws (ended line) = commanded st ws (meaning line)
answered st ws (unended line) = after_line bad_line st ws

-- "Each line is answered by one": one behind the other, each call given what the last one left
unfoldable pub replies : State → List ℕ → List Line → List ℕ
replies st ws [] = []
replies st ws (line ∷ rest) =
    let r = answered st ws line in
    r.said ++ replies r.state r.words rest

-- "It makes a pool with k = 2, N = 64",
abbrev pub program_k : ℕ
program_k = 2

abbrev pub program_pages : ℕ
program_pages = 64

-- in words that are 0 before
unfoldable pub blank : List ℕ
blank = replicate (pool_length program_k program_pages) 0

abbrev pub opening : Left
opening = made program_k program_pages blank

-- "at most 65,536 bytes (more: one line TooLong)"
unfoldable pub most_bytes : ℕ
most_bytes = 65536

unfoldable pub program_writes : List ℕ → List ℕ
program_writes input =
    cond (ltb most_bytes (length input)) too_long (replies opening.state opening.words (lines_of input))
