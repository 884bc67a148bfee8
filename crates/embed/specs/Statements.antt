-- What the exported calls promise, for every argument: the four numbers of the answer, the rules' next state as the words left
-- read, every word of the state and every word of the pool. `cells'`, `after` and `heard'` are the lent words that a call leaves.
-- "A refused call leaves pages, locks and waiting order exactly as found." (demand 1) follows, and is said of making, opening, begin and
-- step (`kept`): a refused making, by 01, "returns an empty state", and so does a refused opening, by 02 (vii).
use Rattle.std.specs.Prelude.{ℕ, true, List, ◌≡◌, Option, Some, None}
use Rattle.slots.specs.declared.Op.{Op}
use Rattle.slots.specs.declared.State.{State}
use Rattle.slots.specs.Operations.{asked_by}
use Rattle.slots.specs.Parts.{idle_state}
use Rattle.slots.specs.Begin.{begun}
use Rattle.slots.specs.Report.{reported}
use Rattle.lent.specs.Words.{state_of, state_words, lent_after}
use Rattle.index.specs.Step.{stepped}
use Rattle.index.specs.Make.{made}
use Rattle.index.specs.Open.{opened}
use Rattle.embed.specs.Told.{told, bad_kind, leaves_all}

pub record MakeTells (k n : ℕ) (ws cells' after heard' : List ℕ) : Type 0 where
  pub answer : heard' ≡ told (made k n ws).answer
  pub state : state_of cells' ≡ (made k n ws).state
  pub all : cells' ≡ state_words (made k n ws).state
  pub words : after ≡ (made k n ws).words
  pub kept : leaves_all heard' ≡ true → (cells' ≡ state_words (idle_state 0 0)) × (after ≡ ws)

-- Opening is handed the pool's words to read, so it changes none.
pub record OpenTells (k n : ℕ) (ws cells' heard' : List ℕ) : Type 0 where
  pub answer : heard' ≡ told (opened k n ws).answer
  pub state : state_of cells' ≡ (opened k n ws).state
  pub all : cells' ≡ state_words (opened k n ws).state
  pub words : (opened k n ws).words ≡ ws
  pub kept : leaves_all heard' ≡ true → cells' ≡ state_words (idle_state 0 0)

-- A kind that does not exist is refused before the state is looked at, and leaves all as given.
abbrev pub begin_told : List ℕ → ℕ → Option Op → List ℕ
begin_told cells s (Some op) = told (begun (state_of cells) s op).answer
begin_told cells s None = bad_kind

abbrev pub begin_leaves : List ℕ → ℕ → Option Op → List ℕ
begin_leaves cells s (Some op) = lent_after cells s (begun (state_of cells) s op).answer (begun (state_of cells) s op).state
begin_leaves cells s None = cells

abbrev pub begin_next : List ℕ → ℕ → Option Op → State
begin_next cells s (Some op) = (begun (state_of cells) s op).state
begin_next cells s None = state_of cells

pub record BeginTells (cells : List ℕ) (s kind key information : ℕ) (cells' heard' : List ℕ) : Type 0 where
  pub answer : heard' ≡ begin_told cells s (asked_by kind key information)
  pub state : state_of cells' ≡ begin_next cells s (asked_by kind key information)
  pub all : cells' ≡ begin_leaves cells s (asked_by kind key information)
  pub kept : leaves_all heard' ≡ true → cells' ≡ cells

pub record StepTells (cells ws : List ℕ) (s : ℕ) (cells' after heard' : List ℕ) : Type 0 where
  pub answer : heard' ≡ told (stepped (state_of cells) ws s).answer
  pub state : state_of cells' ≡ (stepped (state_of cells) ws s).state
  pub all : cells' ≡ lent_after cells s (stepped (state_of cells) ws s).answer (stepped (state_of cells) ws s).state
  pub words : after ≡ (stepped (state_of cells) ws s).words
  pub kept : leaves_all heard' ≡ true → (cells' ≡ cells) × (after ≡ ws)

-- It is handed the state to read, and no pool, so it changes neither.
pub record ReportTells (cells : List ℕ) (p : ℕ) (heard' : List ℕ) : Type 0 where
  pub answer : heard' ≡ told (reported (state_of cells) p)
