-- Demand 1, call by call: which answer is heard, exactly when, and what is then left.
-- "Whatever slots, keys, states and page words come in, every call ends, strays nowhere and refuses what it cannot use. Nothing
-- is left for the caller to check first. A refused call leaves pages, locks and waiting order exactly as found."
-- State, words and numbers are any here: no record asks anything of them but, of a step, that the slot has the cells
-- that its type says. That a call ends and strays nowhere, and that it
-- answers and leaves what `begun`, `stepped`, `reported`, `made` and `opened` say, is proved of the code, where no public call has a
-- `requires`.
-- Each record has 01's table for its call, row by row in 01's order. A row is heard exactly if it applies and none before it does.
use Rattle.std.specs.Prelude.{ℕ, ◌≤◌, ◌<◌, true, false, List, ◌⊎◌, ◌≢◌, ◌≡◌, length, replicate}
use Rattle.ground.specs.Limits.{largest_k, largest_n, slot_count, blank_key}
use Rattle.page.specs.Words.{size}
use Rattle.pool.specs.Pool.{pool_length, words_of, page_at, fresh}
use Rattle.slots.specs.declared.Op.{Op}
use Rattle.slots.specs.declared.Task.{Task}
use Rattle.slots.specs.declared.Task.TheVariants.{Closed, Open}
use Rattle.slots.specs.declared.Slot.{Slot}
use Rattle.slots.specs.declared.State.{State}
use Rattle.slots.specs.declared.Lock.{Lock}
use Rattle.slots.specs.declared.Answer.TheVariants.{Waiting, Begun, Made, Reported, BadState, BadPool, BadSlot, SlotBusy, SlotIdle, Damaged, BadPage, Opened, BadPageInPool, BadTree, BadKey}
use Rattle.slots.specs.Heard.{refuses, changes_nothing}
use Rattle.slots.specs.Parts.{stand_of, slot_at, open_at, idle_state}
use Rattle.slots.specs.Sound.{sound}
use Rattle.slots.specs.Grant.{grants}
use Rattle.slots.specs.Begin.{begun}
use Rattle.slots.specs.Report.{reported}
use Rattle.index.specs.Step.{of_granted, stepped}
use Rattle.index.specs.Make.{made}
use Rattle.index.specs.Open.{opened}
use Rattle.tree.specs.Tree.{Tr, entries_of, occurs, PoolForms}
use Rattle.runs.specs.PlainFacts.{Missing}
use Rattle.promises.specs.Terms.{Exactly, Blank}
use Rattle.promises.specs.SoundState.{Numbers, IsSound}
use Rattle.promises.specs.Report.{Reports}
use Rattle.promises.specs.SoundPages.{PageSound, SoundForStep}

-- "Order. Begin: 1, 3, 4."; 02 (viii): 8 "after SlotBusy". Begin is handed no words, so it leaves them.
pub record BeginDemand (st : State) (s : ℕ) (op : Op) : Type 0 where
  -- 1, "the state is not sound"
  pub bad_state : Exactly ((begun st s op).answer ≡ BadState) (sound st ≡ false)
  -- 3, "slot above 15"
  pub bad_slot : Exactly ((begun st s op).answer ≡ BadSlot) ((sound st ≡ true) × (slot_count ≤ s))
  -- 4, "begin on an open slot"
  pub slot_busy : Exactly ((begun st s op).answer ≡ SlotBusy) ((sound st ≡ true) × (s < slot_count) × (open_at st s ≡ true))
  -- 8, "key 0 for every operation but that of (i)"
  pub bad_key : Exactly ((begun st s op).answer ≡ BadKey) ((sound st ≡ true) × (s < slot_count) × (open_at st s ≡ false) × Blank op)
  -- "Begin answers: Begun."
  pub begins : Exactly ((begun st s op).answer ≡ Begun) ((sound st ≡ true) × (s < slot_count) × (open_at st s ≡ false) × (Blank op → ⊥))
  pub no_other : ((begun st s op).answer ≡ BadState) ⊎ ((begun st s op).answer ≡ BadSlot) ⊎ ((begun st s op).answer ≡ SlotBusy) ⊎ ((begun st s op).answer ≡ BadKey) ⊎ ((begun st s op).answer ≡ Begun)
  -- "A refused call leaves pages, locks and waiting order exactly as found."
  pub as_given : refuses (begun st s op).answer ≡ true → (begun st s op).state ≡ st

-- "word count is .. N(4k+3)"
abbrev pub WordsFit : State → List ℕ → Type 0
WordsFit st ws = length ws ≡ pool_length st.k st.n

-- "Pages are sound for a step if": of the step of a slot with this task. A closed slot meets no pages.
abbrev pub PagesSound : State → List ℕ → Slot → Task → Type 0
PagesSound st ws slot Closed = Unit {0}
PagesSound st ws slot (Open op) = SoundForStep st.k st.n ws (stand_of op slot)

abbrev pub PagesSoundAt : State → List ℕ → ℕ → Type 0
PagesSoundAt st ws s = PagesSound st ws (slot_at st s) (slot_at st s).task

-- Arrays are lists to the prover, so their lengths are said: a slot has as many cells for kinds of lock as for pages. By its type every slot has.
pub record Celled (slot : Slot) : Type 0 where
  pub path : length slot.locks ≡ length slot.path
  pub beside : length slot.sidelocks ≡ length slot.beside

-- "Step: 1, 2, 3, 5, Waiting, 6."
pub record StepDemand (st : State) (ws : List ℕ) (s : ℕ) : Type 0 where
  -- 1, "the state is not sound"
  pub bad_state : Exactly ((stepped st ws s).answer ≡ BadState) (sound st ≡ false)
  -- 2, "word count is not N(4k+3)"
  pub bad_pool : Exactly ((stepped st ws s).answer ≡ BadPool) ((sound st ≡ true) × (length ws ≢ pool_length st.k st.n))
  -- 3, "slot above 15"
  pub bad_slot : Exactly ((stepped st ws s).answer ≡ BadSlot) ((sound st ≡ true) × WordsFit st ws × (slot_count ≤ s))
  -- 5, "step on a closed slot"
  pub slot_idle : Exactly ((stepped st ws s).answer ≡ SlotIdle) ((sound st ≡ true) × WordsFit st ws × (s < slot_count) × (open_at st s ≡ false))
  -- "A step grants the want when .. Otherwise it is answered Waiting"
  pub waiting : Exactly ((stepped st ws s).answer ≡ Waiting) ((sound st ≡ true) × WordsFit st ws × (s < slot_count) × (open_at st s ≡ true) × (grants st s ≡ false))
  -- 6, "a granted step would meet pages that are not sound"
  pub damaged : Exactly ((stepped st ws s).answer ≡ Damaged) ((sound st ≡ true) × WordsFit st ws × (s < slot_count) × (open_at st s ≡ true) × (grants st s ≡ true) × (PagesSoundAt st ws s → ⊥))
  -- otherwise Moved, or an answer that ends the operation
  pub granted : Exactly (of_granted (stepped st ws s).answer ≡ true) ((sound st ≡ true) × WordsFit st ws × (s < slot_count) × (open_at st s ≡ true) × (grants st s ≡ true) × PagesSoundAt st ws s)
  pub no_other : ((stepped st ws s).answer ≡ BadState) ⊎ ((stepped st ws s).answer ≡ BadPool) ⊎ ((stepped st ws s).answer ≡ BadSlot) ⊎ ((stepped st ws s).answer ≡ SlotIdle) ⊎ ((stepped st ws s).answer ≡ Waiting) ⊎ ((stepped st ws s).answer ≡ Damaged) ⊎ (of_granted (stepped st ws s).answer ≡ true)
  -- "A refused call leaves pages, locks and waiting order exactly as found."; "Waiting and nothing changes"
  pub as_given : changes_nothing (stepped st ws s).answer ≡ true → ((stepped st ws s).state ≡ st) × ((stepped st ws s).words ≡ ws)
  -- "strays nowhere": whatever is heard, the pool has as many words as before
  pub same_length : length (stepped st ws s).words ≡ length ws

-- "Report: 1, 7." Report is handed no words and gives no state back, so it changes neither.
pub record ReportDemand (st : State) (p : ℕ) : Type 0 where
  -- 1, "the state is not sound"
  pub bad_state : Exactly (reported st p ≡ BadState) (sound st ≡ false)
  -- 7, "a lock report for a page N or above"
  pub bad_page : Exactly (reported st p ≡ BadPage) ((sound st ≡ true) × (st.n ≤ p))
  -- "A lock report for a page gives the lock kind, how many slots hold the page, and the lowest-numbered holder"
  pub reports : (kind : Lock) (count lowest : ℕ)
      → Exactly (reported st p ≡ Reported kind count lowest) ((sound st ≡ true) × (p < st.n) × Reports st p kind count lowest)
  pub no_other : (reported st p ≡ BadState) ⊎ (reported st p ≡ BadPage) ⊎ ((kind : Lock) × (count : ℕ) × (lowest : ℕ) × (reported st p ≡ Reported kind count lowest))

-- "k is 1 to 16. .. The pool has N pages, 1 to 1,024, .. and exactly N(4k+3) words."
pub record MakingInRange (k n : ℕ) (ws : List ℕ) : Type 0 where
  pub k_least : 1 ≤ k
  pub k_most : k ≤ largest_k
  pub n_least : 1 ≤ n
  pub n_most : n ≤ largest_n
  pub words : length ws ≡ pool_length k n

-- Making a pool.
pub record MakeDemand (k n : ℕ) (ws : List ℕ) : Type 0 where
  -- 2, "when making a pool: k, N or length out of range"
  pub bad_pool : Exactly ((made k n ws).answer ≡ BadPool) (MakingInRange k n ws → ⊥)
  pub makes : Exactly ((made k n ws).answer ≡ Made) (MakingInRange k n ws)
  pub no_other : ((made k n ws).answer ≡ BadPool) ⊎ ((made k n ws).answer ≡ Made)
  -- "as given; making returns an empty state, k and N 0, which is itself BadState"
  pub refused : (made k n ws).answer ≡ BadPool → ((made k n ws).words ≡ ws) × ((made k n ws).state ≡ idle_state 0 0)
  pub empty_refused : sound (idle_state 0 0) ≡ false
  -- "Making a fresh pool writes every word"; every slot is closed
  pub fresh_pool : (made k n ws).answer ≡ Made → ((made k n ws).words ≡ fresh k n) × ((made k n ws).state ≡ idle_state k n)
  pub same_length : length (made k n ws).words ≡ length ws

-- ---- opening a pool that somebody hands us, 02 (vii)

-- "sound by itself (all zeros and not page 0, or its level, μ, keys, pointers and unused words as 01 has them)", and, by (viii), if it is a leaf no key 0: page p
abbrev pub AloneSound : ℕ → ℕ → List ℕ → ℕ → Type 0
AloneSound k n ws p = ((p ≢ 0) × (words_of k p ws ≡ replicate (size k) 0)) ⊎ PageSound k n p (words_of k p ws) (page_at k ws p)

-- "the lowest-numbered page that is not sound by itself" is page p
pub record LowestUnsound (k n : ℕ) (ws : List ℕ) (p : ℕ) : Type 0 where
  pub in_pool : p < n
  pub unsound : AloneSound k n ws p → ⊥
  pub lower : (q : ℕ) → q < p → AloneSound k n ws q

-- "they form the B*-tree of document 01 from page 0, every other page is all zeros, and no page hangs in two places": the tree is demand 2's,
-- which has page 0 for its root and no page twice (`Forms`, its fields root and different). 02 (viii): the check "treats a leaf with key 0 as a page
-- that is not sound", so no lot of it is that of a blank tag.
pub record FormsTree (k n : ℕ) (ws : List ℕ) : Type 0 where
  pub height : ℕ
  pub tree : Tr height
  pub forms : PoolForms k n ws height tree
  pub free : (q : ℕ) → q < n → occurs q height tree ≡ 0 → words_of k q ws ≡ replicate (size k) 0
  pub no_blank : Missing blank_key (entries_of height tree)

-- Opening. "These are refusals 9 (BadPageInPool, with the page) and 10 (BadTree), after BadPool."
pub record OpenDemand (k n : ℕ) (ws : List ℕ) : Type 0 where
  -- 2: k, N or length out of range, as when making a pool
  pub bad_pool : Exactly ((opened k n ws).answer ≡ BadPool) (MakingInRange k n ws → ⊥)
  -- 9, "gives the lowest-numbered page that is not sound by itself"
  pub bad_page : (p : ℕ) → Exactly ((opened k n ws).answer ≡ BadPageInPool p) (MakingInRange k n ws × LowestUnsound k n ws p)
  -- 10, "if all are, it says BadTree"
  pub bad_tree : Exactly ((opened k n ws).answer ≡ BadTree) (MakingInRange k n ws × ((q : ℕ) → q < n → AloneSound k n ws q) × (FormsTree k n ws → ⊥))
  -- "accepts words with k and N exactly if they form the B*-tree"
  pub opens : Exactly ((opened k n ws).answer ≡ Opened) (MakingInRange k n ws × FormsTree k n ws)
  pub no_other : ((opened k n ws).answer ≡ BadPool) ⊎ ((p : ℕ) × ((opened k n ws).answer ≡ BadPageInPool p)) ⊎ ((opened k n ws).answer ≡ BadTree) ⊎ ((opened k n ws).answer ≡ Opened)
  -- "A refusal .. returns the empty state", which is itself BadState (`MakeDemand`, its field empty_refused)
  pub refused : refuses (opened k n ws).answer ≡ true → (opened k n ws).state ≡ idle_state 0 0
  -- "Acceptance gives a state with all slots closed."
  pub accepted : (opened k n ws).answer ≡ Opened → (opened k n ws).state ≡ idle_state k n
  -- "A refusal leaves the words as given", and so does acceptance
  pub as_given : (opened k n ws).words ≡ ws

-- ---- the demand

pub record Demand1 : Type 0 where
  pub begin : (st : State) (s : ℕ) (op : Op) → BeginDemand st s op
  pub step : (st : State) (ws : List ℕ) (s : ℕ) → Celled (slot_at st s) → StepDemand st ws s
  pub report : (st : State) (p : ℕ) → ReportDemand st p
  pub make : (k n : ℕ) (ws : List ℕ) → MakeDemand k n ws
  pub opening : (k n : ℕ) (ws : List ℕ) → OpenDemand k n ws
  -- a sound state, of which they speak by the rule's test, in plain terms
  pub sound_state : (st : State) → Exactly (sound st ≡ true) (IsSound st)
  pub numbers : Numbers
