-- Calls of the library, one after the other, each lent the words that the last one left, are a run. So the demands on runs are
-- demands on the library: on the words that it leaves and the numbers that it tells.
use Rattle.std.specs.Prelude.{ℕ, ◌<◌, Bool, true, not, ◌&&◌, List, [], ◌∷◌, map, ◌≡◌, eqb, get_or, Option, Some, None}
use Rattle.ground.specs.Limits.{word_range, blank_key}
use Rattle.ground.specs.Tests.{all, member}
use Rattle.page.specs.Words.{Entry}
use Rattle.slots.specs.declared.Op.{Op}
use Rattle.slots.specs.declared.Answer.TheVariants.{Made, Opened, BadState, BadPool, Damaged, Next}
use Rattle.slots.specs.Heard.{number_of}
use Rattle.slots.specs.Operations.{asked_by}
use Rattle.lent.specs.Words.{state_of}
use Rattle.embed.specs.Told.{told}
use Rattle.embed.specs.Statements.{MakeTells, OpenTells, BeginTells, StepTells, ReportTells}
use Rattle.tree.specs.Tree.{Tr, entries_of, PoolForms}
use Rattle.runs.specs.Run.{Call, begin, step, report, Start, fresh_start, opened_start, run_from, Run}
use Rattle.runs.specs.Done.{plain_entries, ops_of}
use Rattle.promises.specs.Demand1.{StepDemand}
use Rattle.promises.specs.Demand2.{AfterEveryCall, Demand2}
use Rattle.promises.specs.Demand3.{done_in, Demand3}
use Rattle.promises.specs.TopOpen.{TopOpen}
use Rattle.promises.specs.NoBlank.{NoBlank}
use Rattle.promises.specs.Regrading.{IsThere, NotDeleted, NeverNowhere}

-- ---- calls of the library

-- A call as it went: the numbers handed in, the words that it left where it may write, and the four numbers told.
pub data Went : Type 0 where
  begins : (slot kind key information : ℕ) (cells' four : List ℕ) → Went
  steps : (slot : ℕ) (cells' ws' four : List ℕ) → Went
  reports : (page : ℕ) (four : List ℕ) → Went

-- "each call given what the last one left": the first is lent the state's words `cells` and the pool's words `ws`, the last leaves
-- `last` and `lastWs`, and each keeps its promise. "Keys and information are any 32-bit unsigned numbers."
abbrev pub Follow : List ℕ → List ℕ → List Went → List ℕ → List ℕ → Type 0
Follow cells ws [] last lastWs = (last ≡ cells) × (lastWs ≡ ws)
Follow cells ws (begins s kind key information cells' four ∷ rest) last lastWs =
    (key < word_range) × (information < word_range) × BeginTells cells s kind key information cells' four × Follow cells' ws rest last lastWs
Follow cells ws (steps s cells' ws' four ∷ rest) last lastWs = StepTells cells ws s cells' ws' four × Follow cells' ws' rest last lastWs
Follow cells ws (reports p four ∷ rest) last lastWs = ReportTells cells p four × Follow cells ws rest last lastWs

-- How the library gave the words that the first call is lent, and what the run starts with then. "From a fresh pool": a making that
-- succeeds, in words of any content. 02 (vii): "also start from an accepted pool, the sorted list beginning with its entries": an opening that is told as
-- Opened, with the entries of the tree that its words form.
pub data OpenedBy (cells ws : List ℕ) : Start → Type 0 where
  making : (k n : ℕ) (given four : List ℕ) → MakeTells k n given cells ws four → four ≡ told Made → OpenedBy cells ws (fresh_start k n given)
  opening : (k n : ℕ) (four : List ℕ) (l : ℕ) (t : Tr l) → OpenTells k n ws cells four → four ≡ told Opened → PoolForms k n ws l t
      → OpenedBy cells ws (opened_start k n ws (entries_of l t))

-- Calls of the library from this start on.
pub record Served (start : Start) (calls : List Went) (last lastWs : List ℕ) : Type 0 where
  pub cells : List ℕ
  pub words : List ℕ
  pub opened : OpenedBy cells words start
  pub follow : Follow cells words calls last lastWs

-- ---- the run

-- An operation begun; a kind that does not exist is told so, changes nothing, and is passed over.
abbrev pub begins_with : ℕ → Option Op → List Call → List Call
begins_with s (Some op) rest = begin s op ∷ rest
begins_with s None rest = rest

-- the calls of the rules
unfoldable pub calls_in : List Went → List Call
calls_in [] = []
calls_in (begins s kind key information cells' four ∷ rest) = begins_with s (asked_by kind key information) (calls_in rest)
calls_in (steps s cells' ws' four ∷ rest) = step s ∷ calls_in rest
calls_in (reports p four ∷ rest) = report p ∷ calls_in rest

abbrev pub told_first : List ℕ → Option Op → List (List ℕ) → List (List ℕ)
told_first four (Some op) rest = four ∷ rest
told_first four None rest = rest

-- the four numbers told to each of them
unfoldable pub told_in : List Went → List (List ℕ)
told_in [] = []
told_in (begins s kind key information cells' four ∷ rest) = told_first four (asked_by kind key information) (told_in rest)
told_in (steps s cells' ws' four ∷ rest) = four ∷ told_in rest
told_in (reports p four ∷ rest) = four ∷ told_in rest

-- It is a run, as the demands speak of runs; the state that the last words read as, the pool's words and the numbers told are its.
pub record IsRun (start : Start) (calls : List Went) (last lastWs : List ℕ) : Type 0 where
  pub run : Run start (calls_in calls)
  pub state : state_of last ≡ (run_from start (calls_in calls)).state
  pub words : lastWs ≡ (run_from start (calls_in calls)).words
  pub answers : told_in calls ≡ map told (run_from start (calls_in calls)).answers

abbrev pub LibraryRuns : Type 0
LibraryRuns = (start : Start) (calls : List Went) (last lastWs : List ℕ) → Served start calls last lastWs → IsRun start calls last lastWs

-- Whatever words are told as Opened, there is such a tree: so every accepted pool is a start.
abbrev pub LibraryOpens : Type 0
LibraryOpens =
    (k n : ℕ) (ws cells four : List ℕ) → OpenTells k n ws cells four → four ≡ told Opened
    → (l : ℕ) × (t : Tr l) × PoolForms k n ws l t × OpenedBy cells ws (opened_start k n ws (entries_of l t))

-- what the plain list has after these calls
abbrev pub list_after : Start → List Went → List Entry
list_after start calls = plain_entries (ops_of (done_in (calls_in calls) (run_from start (calls_in calls)))) start.entries

-- The round trip: whoever opens the words that calls of the library have left, with the k and N of their start, is told Opened, and goes on from
-- there with that list.
abbrev pub LibraryReopens : Type 0
LibraryReopens =
    (start : Start) (calls : List Went) (last lastWs cells four : List ℕ) → Served start calls last lastWs
    → OpenTells start.state.k start.state.n lastWs cells four
    → (four ≡ told Opened) × OpenedBy cells lastWs (opened_start start.state.k start.state.n lastWs (list_after start calls))

-- ---- the demands

-- Demand 1 of a step, of any words at all that are lent as a state and as a pool: `StepTells` says what is told, this who is told what.
-- A state that words read as has the cells for kinds that the demand asks.
abbrev pub LibrarySteps : Type 0
LibrarySteps = (cells ws : List ℕ) (s : ℕ) → StepDemand (state_of cells) ws s

-- none of 1, 2 and 6
abbrev pub quiet_number : ℕ → Bool
quiet_number x = not (member x (map number_of (BadState ∷ BadPool ∷ Damaged ∷ [])))

abbrev pub quiet_four : List ℕ → Bool
quiet_four four = quiet_number (get_or four 0 0)

-- a lot was told, by a Next, and its key is that of a blank tag: the number stands first, the key behind it
abbrev pub blank_four : List ℕ → Bool
blank_four four = eqb (get_or four 0 0) (number_of (Next 0 0)) && eqb (get_or four 1 0) blank_key

-- Of every such list of calls, and so after each call of one.
pub record Kept (start : Start) (calls : List Went) (last lastWs : List ℕ) : Type 0 where
  -- demand 2 of the words themselves: tree, free pages, locks, and where every slot stands
  pub left : AfterEveryCall start.state.k start.state.n (state_of last) lastWs
  -- BadState, BadPool and Damaged were never told
  pub never_told : all quiet_four (told_in calls) ≡ true
  -- the demands whole, of the calls as a run
  pub second : Demand2 start (calls_in calls)
  pub third : Demand3 start (calls_in calls)
  -- 02 (v): nobody waits for page 0 or an upper page but for an update by the first way
  pub top : TopOpen (state_of last) lastWs
  -- 02 (viii): "Lot number 0 is printed on blank tags and gets scanned.": of the calls as a run there never is such a lot, and of the numbers told
  -- none names one
  pub no_blank : NoBlank start (calls_in calls)
  pub blank_never_told : all (λ (four : List ℕ). not (blank_four four)) (told_in calls) ≡ true

abbrev pub LibraryPromises : Type 0
LibraryPromises = (start : Start) (calls : List Went) (last lastWs : List ℕ) → Served start calls last lastWs → Kept start calls last lastWs

-- ---- 02 (iv): a lot that is not deleted is at no moment nowhere

-- The first of the calls is lent the words `mid` and `midWs`, the last leaves `last` and `lastWs`.
pub record LotKept (mid midWs : List ℕ) (between : List Went) (last lastWs : List ℕ) (x : ℕ) : Type 0 where
  -- what every search, insertion, regrading and Next is told, of the calls as a run
  pub never : NeverNowhere (state_of mid) midWs (calls_in between) x
  -- and the words that are left hold the lot
  pub still : (v : ℕ) × IsThere (state_of last) lastWs x v

-- Of whatever calls follow, and so after each of them.
abbrev pub LibraryKeepsLots : Type 0
LibraryKeepsLots =
    (start : Start) (before between : List Went) (mid midWs last lastWs : List ℕ) (x : ℕ) → Served start before mid midWs
    → Follow mid midWs between last lastWs → NotDeleted (state_of mid) midWs (calls_in between) x → LotKept mid midWs between last lastWs x
