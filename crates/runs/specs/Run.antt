-- Calls one after the other, each given what the last one left, and what is heard and left at the end.
use Rattle.std.specs.Prelude.{ℕ, true, ◌&&◌, List, [], ◌∷◌, ◌≡◌, length}
use Rattle.ground.specs.Limits.{k_in_range, n_in_range}
use Rattle.page.specs.Words.{Entry}
use Rattle.pool.specs.Pool.{pool_length}
use Rattle.slots.specs.declared.Answer.{Answer}
use Rattle.slots.specs.declared.Answer.TheVariants.{Opened}
use Rattle.slots.specs.declared.State.{State}
use Rattle.index.specs.Make.{made}
use Rattle.index.specs.Open.{opened}
use Rattle.tree.specs.Tree.{Tr, entries_of, PoolForms}
pub use Rattle.runs.specs.Calls.{Call, begin, step, report, CallInWords}
unfoldable pub use Rattle.runs.specs.Calls.{called}

-- What is answered, call by call, and what the last call left.
pub record Told : Type 0 where
  pub answers : List Answer
  pub state : State
  pub words : List ℕ

abbrev pub ran : List Answer → State → List ℕ → Told
ran heardSo st ws = record { answers = heardSo; state = st; words = ws }

-- "each call given what the last one left"
unfoldable pub run : List Call → State → List ℕ → Told
run [] st ws = ran [] st ws
run (c ∷ cs) st ws =
    let one = called st ws c in
    let rest = run cs one.state one.words in
    ran (one.answer ∷ rest.answers) rest.state rest.words

-- What a run begins with: a state, the words of the pool, and the entries that demand 3's sorted list has then.
pub record Start : Type 0 where
  pub state : State
  pub words : List ℕ
  pub entries : List Entry

-- "From a fresh pool": what a making in these words leaves, and an empty list
abbrev pub fresh_start : ℕ → ℕ → List ℕ → Start
fresh_start k n ws = record { state = (made k n ws).state; words = (made k n ws).words; entries = [] }

-- 02 (vii): "Demands 2 and 3 then also start from an accepted pool, the sorted list beginning with its entries.": what an opening of these words
-- leaves, and a list with these entries
abbrev pub opened_start : ℕ → ℕ → List ℕ → List Entry → Start
opened_start k n ws es = record { state = (opened k n ws).state; words = (opened k n ws).words; entries = es }

-- The starts that there are: a pool made, with k and N in range and any words of the right number; and a pool that an opening accepts, with
-- the entries of the tree that its words form.
pub data IsStart : Start → Type 0 where
  fresh_pool : (k n : ℕ) (ws : List ℕ) → k_in_range k && n_in_range n ≡ true → length ws ≡ pool_length k n → IsStart (fresh_start k n ws)
  accepted_pool : (k n : ℕ) (ws : List ℕ) (l : ℕ) (t : Tr l) → (opened k n ws).answer ≡ Opened → PoolForms k n ws l t → IsStart (opened_start k n ws (entries_of l t))

-- the calls, one after the other, from this start on
unfoldable pub run_from : Start → List Call → Told
run_from start cs = run cs start.state start.words

-- calls as a caller can make them
abbrev pub InWords : List Call → Type 0
InWords [] = Unit {0}
InWords (c ∷ cs) = CallInWords c × InWords cs

-- A run: one of the starts, then any calls. Neither making nor opening is among them: "Like a making, a later opening, accepted or refused, ends
-- the run."
pub record Run (start : Start) (cs : List Call) : Type 0 where
  pub starts : IsStart start
  pub in_words : InWords cs
