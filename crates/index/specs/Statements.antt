-- What the public calls promise, for every argument: the answer by number and values, the rules' next state, every word of the
-- state and every word of the pool. `cells'` and `after` are the words that the call leaves.
use Rattle.std.specs.Prelude.{ℕ, ◌≡◌, List}
use Rattle.slots.specs.declared.Op.{Op}
use Rattle.slots.specs.declared.Answer.{Answer}
use Rattle.slots.specs.Heard.{heard}
use Rattle.slots.specs.Begin.{begun}
use Rattle.slots.specs.Report.{reported}
use Rattle.lent.specs.Words.{state_of, state_words, lent_after}
use Rattle.index.specs.Step.{stepped}
use Rattle.index.specs.Make.{made}
use Rattle.index.specs.Open.{opened}

-- Making writes every word of the state, also when it refuses.
pub record MakeSays (k n : ℕ) (ws : List ℕ) (r : Answer) (cells' after : List ℕ) : Type 0 where
  pub answer : heard r ≡ heard (made k n ws).answer
  pub state : state_of cells' ≡ (made k n ws).state
  pub all : cells' ≡ state_words (made k n ws).state
  pub words : after ≡ (made k n ws).words

-- So does opening. It is handed the pool's words to read, so it changes none.
pub record OpenSays (k n : ℕ) (ws : List ℕ) (r : Answer) (cells' : List ℕ) : Type 0 where
  pub answer : heard r ≡ heard (opened k n ws).answer
  pub state : state_of cells' ≡ (opened k n ws).state
  pub all : cells' ≡ state_words (opened k n ws).state
  pub words : (opened k n ws).words ≡ ws

-- Begin answers and leaves what the rules say. It is handed no pool.
pub record BeginSays (cells : List ℕ) (s : ℕ) (op : Op) (r : Answer) (cells' : List ℕ) : Type 0 where
  pub answer : heard r ≡ heard (begun (state_of cells) s op).answer
  pub state : state_of cells' ≡ (begun (state_of cells) s op).state
  pub all : cells' ≡ lent_after cells s (begun (state_of cells) s op).answer (begun (state_of cells) s op).state

-- So does a step.
pub record StepSays (cells ws : List ℕ) (s : ℕ) (r : Answer) (cells' after : List ℕ) : Type 0 where
  pub answer : heard r ≡ heard (stepped (state_of cells) ws s).answer
  pub state : state_of cells' ≡ (stepped (state_of cells) ws s).state
  pub all : cells' ≡ lent_after cells s (stepped (state_of cells) ws s).answer (stepped (state_of cells) ws s).state
  pub words : after ≡ (stepped (state_of cells) ws s).words

-- Report answers what the rules say. It is handed the words to read, and no pool, so it changes neither.
pub record ReportSays (cells : List ℕ) (p : ℕ) (r : Answer) : Type 0 where
  pub answer : heard r ≡ heard (reported (state_of cells) p)
