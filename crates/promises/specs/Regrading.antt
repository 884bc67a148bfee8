-- The hope behind 02 (iv): "During a downgrade the lot is for a moment nowhere." A lot that is regraded, and not deleted, is at no moment
-- nowhere: after every call it is there, and who asks for it is told the information that stands there just then.
-- Of a run: its calls so far have left a state and words; from there on come the calls `between`.
use Rattle.std.specs.Prelude.{ℕ, ◌+◌, ◌≤◌, ◌<◌, true, List, [], ◌∷◌, ◌++◌, ◌⊎◌, ◌≡◌, length, get_or, set}
use Rattle.slots.specs.Parts.{Opened}
use Rattle.slots.specs.declared.Op.{Op}
use Rattle.slots.specs.declared.Op.TheVariants.{Search, Insert, Delete, Next, Regrade}
use Rattle.slots.specs.declared.Way.{Way}
use Rattle.slots.specs.declared.State.{State}
use Rattle.slots.specs.declared.Answer.{Answer}
use Rattle.slots.specs.declared.Answer.TheVariants.{Found, NotFound, AlreadyThere, Deleted, NoSuchKey, Next as NextLot, Regraded}
use Rattle.slots.specs.Heard.{is_one_of, ending}
use Rattle.index.specs.Step.{stepped}
use Rattle.tree.specs.Tree.{Tr, entries_of, PoolForms}
use Rattle.runs.specs.Run.{Call, step, run, Start, run_from, Run}
use Rattle.runs.specs.PlainFacts.{Among}

-- The lot x is there with information v: it is an entry of the tree that the words form. There is just one such tree (`pool_determined`).
pub record IsThere (st : State) (ws : List ℕ) (x v : ℕ) : Type 0 where
  pub height : ℕ
  pub tree : Tr height
  pub forms : PoolForms st.k st.n ws height tree
  pub there : Among x v (entries_of height tree)

-- Among the calls `between`, behind those that come first, a step of slot s ends the operation op with the answer a. An update ends by
-- the way by which it then goes: one that has begun again, by the first.
pub record EndsAmong (st : State) (ws : List ℕ) (between first : List Call) (s : ℕ) (op : Op) (a : Answer) : Type 0 where
  pub rest : List Call
  pub whole : between ≡ first ++ step s ∷ rest
  pub opened : Opened (run first st ws).state s op
  pub answer : (stepped (run first st ws).state (run first st ws).words s).answer ≡ a
  pub ends : is_one_of a ending ≡ true

-- A regrading that ended among the calls put the information v there.
pub record PutBy (st : State) (ws : List ℕ) (between : List Call) (x v : ℕ) : Type 0 where
  pub first : List Call
  pub slot : ℕ
  pub way : Way
  pub old : ℕ
  pub ended : EndsAmong st ws between first slot (Regrade x v way) (Regraded old)

-- What is asked of the calls: the lot is there when they begin, and among them no deletion of it ends. Whatever else is begun, stepped
-- and ended, of this lot and of others, is free; so are deletions of it that wait or are still on their way.
pub record NotDeleted (st : State) (ws : List ℕ) (between : List Call) (x : ℕ) : Type 0 where
  pub there : (v : ℕ) × IsThere st ws x v
  pub kept : (first : List Call) (s v : ℕ) (way : Way) → EndsAmong st ws between first s (Delete x way) (Deleted v) → ⊥

pub record NeverNowhere (st : State) (ws : List ℕ) (between : List Call) (x : ℕ) : Type 0 where
  -- after every call the lot is there, with the information that it had or with one that a regrading put there since. (This holds from
  -- any moment on to any later one: so it is the one that was put there last.)
  pub always : (first rest : List Call) → between ≡ first ++ rest
      → (v : ℕ) × IsThere (run first st ws).state (run first st ws).words x v × (IsThere st ws x v ⊎ PutBy st ws first x v)
  -- with one information only
  pub single : (first rest : List Call) (v w : ℕ) → between ≡ first ++ rest
      → IsThere (run first st ws).state (run first st ws).words x v → IsThere (run first st ws).state (run first st ws).words x w → v ≡ w
  -- every search of it that ends answers Found, with the information that stands there at the moment of the answer,
  pub searched : (first : List Call) (s : ℕ) (a : Answer) → EndsAmong st ws between first s (Search x) a
      → (v : ℕ) × (a ≡ Found v) × IsThere (run first st ws).state (run first st ws).words x v
  -- and so never NotFound
  pub never_not_found : (first : List Call) (s : ℕ) → EndsAmong st ws between first s (Search x) NotFound → ⊥
  -- every regrading of it that ends answers Regraded, with the information that stood there, and leaves the new one,
  pub regraded : (first : List Call) (s w : ℕ) (way : Way) (a : Answer) → EndsAmong st ws between first s (Regrade x w way) a
      → (v : ℕ) × (a ≡ Regraded v) × IsThere (run first st ws).state (run first st ws).words x v
      × IsThere (run (first ++ step s ∷ []) st ws).state (run (first ++ step s ∷ []) st ws).words x w
  -- and so never NoSuchKey
  pub never_no_such_key : (first : List Call) (s w : ℕ) (way : Way) → EndsAmong st ws between first s (Regrade x w way) NoSuchKey → ⊥
  -- an insertion of it is told what is there,
  pub already : (first : List Call) (s w : ℕ) (way : Way) (a : Answer) → EndsAmong st ws between first s (Insert x w way) a
      → (v : ℕ) × (a ≡ AlreadyThere v) × IsThere (run first st ws).state (run first st ws).words x v
  -- a Next from its key or a lower one does not pass it over: it answers this lot, or another that is there and comes before it,
  pub nexts : (first : List Call) (s y : ℕ) (a : Answer) → y ≤ x → EndsAmong st ws between first s (Next y) a
      → (z : ℕ) × (v : ℕ) × (a ≡ NextLot z v) × (y ≤ z) × (z ≤ x) × IsThere (run first st ws).state (run first st ws).words z v
  -- and no deletion of it ends, so that none says NoSuchKey either
  pub never_deleted : (first : List Call) (s : ℕ) (way : Way) (a : Answer) → EndsAmong st ws between first s (Delete x way) a → ⊥

-- the calls `between`, behind those before, as far as the lot x is concerned
abbrev pub LotStays : Start → List Call → List Call → ℕ → Type 0
LotStays start before between x =
    NotDeleted (run_from start before).state (run_from start before).words between x
    → NeverNowhere (run_from start before).state (run_from start before).words between x

-- Between any two calls of a run.
abbrev pub RegradingHolds : Type 0
RegradingHolds =
    (start : Start) (before between : List Call) (x : ℕ) → Run start (before ++ between) → LotStays start before between x

-- ---- what it writes

-- One word is another, the one behind the key x: it was the old information, and it is the new one.
pub record OneWord (ws after : List ℕ) (x old new : ℕ) : Type 0 where
  -- where the key stands
  pub at : ℕ
  pub inside : at + 1 < length ws
  pub key : get_or ws at 0 ≡ x
  pub was : get_or ws (at + 1) 0 ≡ old
  pub words : after ≡ set ws (at + 1) new

-- "answers Regraded with the old information": whatever state and words are, a regrading that is answered so has written one word.
abbrev pub RegradingWrites : Type 0
RegradingWrites =
    (st : State) (ws : List ℕ) (s x new old : ℕ) (way : Way) → Opened st s (Regrade x new way) → (stepped st ws s).answer ≡ Regraded old
    → OneWord ws (stepped st ws s).words x old new
