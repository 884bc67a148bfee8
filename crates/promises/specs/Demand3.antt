-- Demand 3, in the customer's words: "From a fresh pool, each call given what the last one left, in any order of calls: list the
-- ended operations, save those answered "no room", in the order of their answers. A plain sorted list, worked through one
-- operation after another, gives the same answers, and the tree holds its entries at every moment. "No room" changes nothing
-- and comes exactly when a new key needs more pages than are free. While any operation is open, some open one can be granted
-- its step, and if none is begun, 304 rounds that each step every open slot end them all."
-- Next of 02 (i) is among the operations: "Demand 3's sorted list learns this question." So is the regrading of 02 (iv): "Demand 3's
-- list learns the operation." 02 (v): an update by the second way ends once, whether it began again or not. 02 (vi): "A deletion takes at most 19 grants
-- and 19 conversions: 16 × 38 = 608 rounds." 02 (vii): "Demands 2 and 3 then also start from an accepted pool, the sorted list beginning with its
-- entries.": what is said here is said of every start (`IsStart`).
use Rattle.std.specs.Prelude.{ℕ, ◌+◌, ◌*◌, ◌≤◌, ◌<◌, true, false, List, ◌++◌, ◌⊎◌, ◌≢◌, ◌≡◌, length}
use Rattle.ground.specs.Limits.{slot_count, slot_grants, rounds_enough}
use Rattle.page.specs.Words.{is_leaf}
use Rattle.page.specs.Place.{has, information}
use Rattle.pool.specs.Pool.{page_at, free_pages}
use Rattle.slots.specs.declared.Op.{Op}
use Rattle.slots.specs.declared.Op.TheVariants.{Insert}
use Rattle.slots.specs.declared.Way.{Way}
use Rattle.slots.specs.declared.Way.TheVariants.{First, Third}
use Rattle.slots.specs.declared.State.{State}
use Rattle.slots.specs.declared.Answer.TheVariants.{Inserted, AlreadyThere, NoRoom, Moved}
use Rattle.slots.specs.Parts.{open_at, want_at, Opened}
use Rattle.slots.specs.Grant.{grants}
use Rattle.slots.specs.Heard.{changes_nothing}
use Rattle.index.specs.Step.{Left, stepped}
use Rattle.tree.specs.Tree.{Tr, entries_of, PoolForms}
use Rattle.tree.specs.Facts.{page_count}
use Rattle.tree.specs.Insertion.{tree_room}
use Rattle.runs.specs.Run.{Call, Told, Start, run_from, Run}
use Rattle.runs.specs.Done.{Done, nobody, done, plain_answers, plain_entries, ops_of, answers_in}
use Rattle.runs.specs.PlainFacts.{PlainFacts}
use Rattle.runs.specs.Rounds.{RoundsClose}
use Rattle.runs.specs.Counts.{CountsFrom}
use Rattle.promises.specs.Terms.{Converts}

-- ---- the same answers

-- "list the ended operations, save those answered "no room", in the order of their answers"
abbrev pub done_in : List Call → Told → List Done
done_in cs r = done cs r.answers nobody

-- "A plain sorted list, worked through one operation after another, gives the same answers, and the tree holds its entries at
-- every moment." The tree: the one that the words form, and there is just one (`pool_determined`). The list begins with the
-- start's entries: from a fresh pool, with none; from an accepted one, with those of its tree.
pub record Agreement (start : Start) (cs : List Call) (r : Told) : Type 0 where
  pub answers : answers_in (done_in cs r) ≡ plain_answers (ops_of (done_in cs r)) start.entries
  pub height : ℕ
  pub tree : Tr height
  pub forms : PoolForms start.state.k start.state.n r.words height tree
  pub only : (l : ℕ) (t : Tr l) → PoolForms start.state.k start.state.n r.words l t → entries_of l t ≡ entries_of height tree
  pub entries : entries_of height tree ≡ plain_entries (ops_of (done_in cs r)) start.entries

-- ---- room

-- An insertion of x by the first way that is granted its leaf, or one by the third that is not answered Moved, in a pool that is the tree t. ""No room" ..
-- comes exactly when a new key needs more pages than are free." 02 (vi): "Room is counted in the step that makes the change, after the last
-- conversion.": until then it is answered Moved. (By the second way it changes a leaf that has room, or begins again: demand 2.)
pub record RoomExact (k n : ℕ) (ws : List ℕ) (l : ℕ) (t : Tr l) (x : ℕ) (after : Left) : Type 0 where
  -- "a key already there is answered so", and AlreadyThere carries "the information there"
  pub there : has x (entries_of l t) ≡ true → after.answer ≡ AlreadyThere (information x (entries_of l t))
  pub no_room : has x (entries_of l t) ≡ false → length (free_pages k n ws) < tree_room k x l t → after.answer ≡ NoRoom
  pub room : has x (entries_of l t) ≡ false → tree_room k x l t ≤ length (free_pages k n ws) → after.answer ≡ Inserted

-- A step answered NoRoom: it was such an insertion, its key was new, the tree needs more pages than are free; ""No room" changes
-- nothing": no word, and so no entry.
pub record NoRoomSays (k n : ℕ) (st : State) (ws : List ℕ) (l : ℕ) (t : Tr l) (s : ℕ) (after : Left) : Type 0 where
  pub key : ℕ
  pub lot : ℕ
  pub way : Way
  pub inserts : Opened st s (Insert key lot way)
  pub granted : grants st s ≡ true
  -- by the first way it was granted its leaf; by the third a conversion; by the second it is never answered so
  pub here : ((way ≡ First) × (is_leaf (page_at k ws (want_at st s)) ≡ true)) ⊎ ((way ≡ Third) × Converts st s)
  pub new : has key (entries_of l t) ≡ false
  pub needs_more : length (free_pages k n ws) < tree_room k key l t
  pub words : after.words ≡ ws

pub record Room (k n : ℕ) (st : State) (ws : List ℕ) : Type 0 where
  -- the free pages that are counted are all that are not the tree's
  pub free : (l : ℕ) (t : Tr l) → PoolForms k n ws l t → length (free_pages k n ws) + page_count l t ≡ n
  pub exact : (l : ℕ) (t : Tr l) (s x v : ℕ) → PoolForms k n ws l t → s < slot_count → Opened st s (Insert x v First) → grants st s ≡ true
      → is_leaf (page_at k ws (want_at st s)) ≡ true → RoomExact k n ws l t x (stepped st ws s)
  pub exact_in_turn : (l : ℕ) (t : Tr l) (s x v : ℕ) → PoolForms k n ws l t → s < slot_count → Opened st s (Insert x v Third) → grants st s ≡ true
      → (stepped st ws s).answer ≢ Moved → RoomExact k n ws l t x (stepped st ws s)
  pub says : (l : ℕ) (t : Tr l) (s : ℕ) → PoolForms k n ws l t → (stepped st ws s).answer ≡ NoRoom → NoRoomSays k n st ws l t s (stepped st ws s)

-- ---- no standstill

-- "While any operation is open, some open one can be granted its step": its answer is not Waiting, and no refusal.
pub record SomeGoes (st : State) (ws : List ℕ) : Type 0 where
  pub slot : ℕ
  pub inside : slot < slot_count
  pub opened : open_at st slot ≡ true
  pub granted : grants st slot ≡ true
  pub answered : changes_nothing (stepped st ws slot).answer ≡ false

-- ---- the demand

-- k and N are those of the state that the run starts with.
pub record Demand3 (start : Start) (cs : List Call) : Type 0 where
  -- "A plain sorted list .. gives the same answers, and the tree holds its entries"
  pub agreement : Agreement start cs (run_from start cs)
  -- "at every moment": it holds of every run, and so after each of a run's calls
  pub every_moment : (before rest : List Call) → cs ≡ before ++ rest → Agreement start before (run_from start before)
  -- what the plain list means
  pub plain_list : (ops : List Op) → PlainFacts (plain_entries ops start.entries)
  -- ""No room" changes nothing and comes exactly when a new key needs more pages than are free."
  pub room : Room start.state.k start.state.n (run_from start cs).state (run_from start cs).words
  -- "While any operation is open, some open one can be granted its step"
  pub some_goes : (s : ℕ) → s < slot_count → open_at (run_from start cs).state s ≡ true → SomeGoes (run_from start cs).state (run_from start cs).words
  -- "and if none is begun, 304 rounds that each step every open slot end them all": 608 with 02 (vi)
  pub rounds : RoundsClose (run_from start cs).state (run_from start cs).words
  -- 01: "Granted steps, with h the level of page 0 when it is granted: search and insertion take h, deletion h to 2h-1. So at
  -- most 19 a slot, and 16 × 19 = 304." Next: "It takes at most 2h-1 grants, so 304 stands." A regrading takes h. By the second way:
  -- "At most 10 + 19 grants". By the third: "at most 19 grants and 19 conversions". Of whatever operation begins here, in whatever calls follow
  pub grant_counts : CountsFrom (run_from start cs).state (run_from start cs).words
  pub rounds_of_slots : rounds_enough ≡ slot_count * slot_grants

abbrev pub Demand3Holds : Type 0
Demand3Holds = (start : Start) (cs : List Call) → Run start cs → Demand3 start cs
