-- Demand 2, in the customer's words: "Search, insertion and deletion follow Bayer and Schkolnick's first solution as our paper
-- fixes it. From a fresh pool, after every call, the pages form their B*-tree (an empty root leaf allowed), every other page is
-- free, no two locks clash, and each step takes and gives up just the locks the rules name."
-- Next of 02 (i) and the regrading of 02 (iv) are among the operations: whatever is said of every operation is said of them.
-- 02 (iii): "Demands 2 and 3 stand, with Waiting given exactly by the new rule.": `StepLocks`, its fields waits and waits_for.
-- 02 (vi), kinds of lock: `AfterEveryCall`, its fields locks and held_as; the third way: `MovesOn`, its field takes; `Ends`, its fields turned and all_xi;
-- `InTheWay`, conversions.
-- 02 (vii): "Demands 2 and 3 then also start from an accepted pool": what is said here is said of every start (`IsStart`).
-- 02 (v), updates by the second way: `AfterEveryCall`, its fields wants_as, second_held and second_above; `MovesOn`, its field taken; `Ends`, its
-- fields writes and stays.
use Rattle.std.specs.Prelude.{ℕ, suc, ◌-◌, ◌≤◌, ◌<◌, true, false, not, List, [], ◌∷◌, ◌++◌, ◌⊎◌, ◌≢◌, ◌≡◌, length, get_or, replicate}
use Rattle.ground.specs.Limits.{slot_count}
use Rattle.ground.specs.Tests.{member, distinct}
use Rattle.page.specs.Words.{Entry, Page, μ, size}
use Rattle.page.specs.Place.{place, pointer, has, at_or_above}
use Rattle.page.specs.Short.{neighbour}
use Rattle.pool.specs.Pool.{words_of, page_at}
use Rattle.slots.specs.declared.Op.{Op}
use Rattle.slots.specs.declared.Op.TheVariants.{Search, Insert, Delete, Next, Regrade}
use Rattle.slots.specs.declared.Way.{Way}
use Rattle.slots.specs.declared.Way.TheVariants.{First, Third}
use Rattle.slots.specs.declared.Lock.{Lock}
use Rattle.slots.specs.declared.Lock.TheVariants.{None, Xi}
use Rattle.slots.specs.declared.Slot.{Slot}
use Rattle.slots.specs.declared.State.{State}
use Rattle.slots.specs.declared.Answer.{Answer}
use Rattle.slots.specs.declared.Answer.TheVariants.{Waiting, Moved, Begun, NoRoom, Next as NextLot, Regraded}
use Rattle.slots.specs.Parts.{key_of, is_delete, is_next, is_second, is_third, first_way, held_lock, goes_beside, held, held_locks, under, Stand, on_pages, stand_of, slot_at, open_at, want_at, holds_at, waiting_order, Opened}
use Rattle.slots.specs.Locks.{lock_held, lock_wanted, clash}
use Rattle.slots.specs.Grant.{older_than}
use Rattle.slots.specs.Sound.{sound}
use Rattle.slots.specs.Heard.{changes_nothing, is_one_of, ending, writing}
use Rattle.slots.specs.Book.{leaving}
use Rattle.footing.specs.Granted.{is_safe, answered_at_once, change_known, pages_in_turn}
use Rattle.index.specs.Step.{Left}
use Rattle.tree.specs.Tree.{Tr, occurs, PoolForms}
use Rattle.runs.specs.Calls.{Call, begin, step, report, called, CallInWords, answers_of}
use Rattle.runs.specs.Run.{Start, run_from, Run}
use Rattle.runs.specs.Stance.{Safe, Stance, Takes}
use Rattle.runs.specs.Waits.{Barred, Before}
use Rattle.runs.specs.PlainFacts.{Among, AllBelow}
use Rattle.promises.specs.Terms.{Exactly, Holds, GoTogether, HoldsAs, GoesWith, BySecond, ByThird, Converts, WantsXi, WantsAs, Converted, NoMore}

-- ---- after every call

-- What a run with this k and N has left.
pub record AfterEveryCall (k n : ℕ) (st : State) (ws : List ℕ) : Type 0 where
  pub same_k : st.k ≡ k
  pub same_n : st.n ≡ n
  -- "the pages form their B*-tree (an empty root leaf allowed)"
  pub height : ℕ
  pub tree : Tr height
  pub forms : PoolForms k n ws height tree
  -- "every other page is free": "A free page has level 0, and in a pool that only these calls wrote it is all zeros."
  pub free : (q : ℕ) → q < n → occurs q height tree ≡ 0 → words_of k q ws ≡ replicate (size k) 0
  -- the state is sound
  pub sound_state : sound st ≡ true
  -- "no two locks clash": two different slots that hold one page hold it with kinds that go together
  pub locks : (s u p : ℕ) (a b : Lock) → s < slot_count → u < slot_count → s ≢ u → HoldsAs st s p a → HoldsAs st u p b → GoTogether a b
  -- "just the locks the rules name", where everybody stands: an open slot as `Stance` says; a closed one holds nothing
  pub stands : (s : ℕ) (op : Op) → s < slot_count → Opened st s op → Stance k (page_at k ws) height tree (stand_of op (slot_at st s))
  pub closed : (s : ℕ) → s < slot_count → open_at st s ≡ false → held (slot_at st s) ≡ []
  -- with which kind of lock it holds a page, and with which it wants one
  pub held_as : (s p : ℕ) (op : Op) (lock : Lock) → s < slot_count → Opened st s op → HoldsAs st s p lock
      → (Converted (stand_of op (slot_at st s)) p → lock ≡ Xi) × ((Converted (stand_of op (slot_at st s)) p → ⊥) → GoesWith op lock)
  -- only an update by the third way converts
  pub turns : (s : ℕ) (op : Op) → s < slot_count → Opened st s op → Converts st s → ByThird op
  pub wants_as : (s : ℕ) (op : Op) → s < slot_count → Opened st s op → WantsAs (page_at k ws) (stand_of op (slot_at st s))
  -- Regrading: "every page is safe for it, so it holds at most 1"
  pub one_held : (s x v : ℕ) (way : Way) → s < slot_count → Opened st s (Regrade x v way) → length (held (slot_at st s)) ≤ 1
  -- By the second way an update holds at most 1 page too, and never a leaf: granted its leaf, it is done with it or begins again.
  pub second_held : (s : ℕ) (op : Op) → s < slot_count → Opened st s op → BySecond op → length (held (slot_at st s)) ≤ 1
  pub second_above : (s p : ℕ) (op : Op) → s < slot_count → Opened st s op → BySecond op → holds_at st s p ≡ true → (page_at k ws p).level ≢ 1

-- ---- what one call takes and gives up

-- "Otherwise it is answered Waiting and nothing changes." Nor does a refusal change anything.
pub record Unchanged (st : State) (ws : List ℕ) (after : Left) : Type 0 where
  pub answer : changes_nothing after.answer ≡ true
  pub state : after.state ≡ st
  pub words : after.words ≡ ws

-- 02 (v): "otherwise all locks are given up and the operation begins again by the first way. .. Beginning again is answered Moved, and the
-- want of page 0 goes to the end of the order." Then it is an operation of the first way that has just begun.
pub record Anew (s : ℕ) (op op' : Op) (after : Left) : Type 0 where
  pub second : BySecond op
  pub first : op' ≡ first_way op
  pub nothing : held (slot_at after.state s) ≡ []
  pub root : want_at after.state s ≡ 0
  pub excludes : WantsXi after.state s

-- Answered Moved: the slot has its lock and goes on, or begins again.
pub record MovesOn (st : State) (ws : List ℕ) (s : ℕ) (after : Left) : Type 0 where
  pub op : Op
  pub op' : Op
  pub opened : Opened st s op
  pub answer : after.answer ≡ Moved
  pub words : after.words ≡ ws
  pub still : Opened after.state s op'
  -- the page that it wanted is now held, and the operation is the same; or it has begun again,
  pub taken : ((op' ≡ op) × (holds_at after.state s (want_at st s) ≡ true)) ⊎ Anew s op op' after
  -- given up are all ancestors or none, by the operation and the page granted, and nothing else; or all, where it begins again
  pub takes : Takes st.k (page_at st.k ws) (stand_of op (slot_at st s)) (stand_of op' (slot_at after.state s))
  -- "A new want goes to the end of the waiting order.": the others stand in the order they had
  pub order : waiting_order after.state ≡ leaving s (waiting_order st) ++ s ∷ []

-- the lot that is answered, if it is one, stands on this leaf
abbrev pub Seen : Page → Answer → Type 0
Seen P answer = (y v : ℕ) → answer ≡ NextLot y v → (P.level ≡ 1) × Among y v P.entries

-- Once granted its want, slot s has a ξ-lock on page q: it wanted it with ξ, or holds it with ξ.
abbrev pub HasXi : State → ℕ → ℕ → Type 0
HasXi st s q = ((q ≡ want_at st s) × WantsXi st s) ⊎ HoldsAs st s q Xi

-- "An answer that ends the operation gives up every lock and closes the slot."
pub record Ends (st : State) (ws : List ℕ) (s : ℕ) (after : Left) : Type 0 where
  pub op : Op
  pub opened : Opened st s op
  pub answer : is_one_of after.answer ending ≡ true
  pub nothing : held (slot_at after.state s) ≡ []
  pub closed : open_at after.state s ≡ false
  pub order : waiting_order after.state ≡ leaving s (waiting_order st)
  -- what it writes it has a ξ-lock on, by whatever way it came: every other page, unless it was free, has its words as before
  pub writes : (q : ℕ) → q < st.n → (HasXi st s q → ⊥) → (page_at st.k ws q).level ≢ 0
      → words_of st.k q after.words ≡ words_of st.k q ws
  -- and only where a lot was inserted, deleted or regraded does it write at all
  pub reads : is_one_of after.answer writing ≡ false → after.words ≡ ws
  -- a regrading writes the page that this step was granted, and no other, held or free
  pub regrades : (old : ℕ) → after.answer ≡ Regraded old → (q : ℕ) → q ≢ want_at st s → words_of st.k q after.words ≡ words_of st.k q ws
  -- 02 (v): "A key already there or missing is answered at once; a safe leaf is changed; otherwise .. the operation begins again by the first
  -- way. If page 0 is a leaf, it begins again in any case." Where it begins again, `Takes` has why
  pub stays : BySecond op → (want_at st s ≢ 0)
      × ((answered_at_once op (page_at st.k ws (want_at st s)).entries ≡ true) ⊎ (is_safe (first_way op) st.k (page_at st.k ws (want_at st s)) ≡ true))
  -- 02 (vi): "Room is counted in the step that makes the change, after the last conversion.": by the third way a change is made, or found to lack room,
  -- just where it converts, and then with ξ on all that it holds
  pub turned : ByThird op → Exactly (is_one_of after.answer (NoRoom ∷ writing) ≡ true) (Converts st s)
  pub all_xi : ByThird op → Converts st s → (q : ℕ) → Holds st s q → HasXi st s q
  -- the lot that a Next answers it reads on the leaf that this step was granted, not on one without its lock
  pub seen : Seen (page_at st.k ws (want_at st s)) after.answer

-- Slot u holds the page that slot s wants, and the two locks do not go together.
abbrev pub HoldsAgainst : State → ℕ → ℕ → Type 0
HoldsAgainst st s u = (lock : Lock) × HoldsAs st u (want_at st s) lock × (GoTogether lock (slot_at st s).lock → ⊥)

-- It wants the same page, and stands before s in the waiting order; and the two locks do not go together.
abbrev pub WantedBefore : State → ℕ → ℕ → Type 0
WantedBefore st s u =
    (want_at st u ≡ want_at st s) × Before u s (waiting_order st) × (GoTogether (slot_at st u).lock (slot_at st s).lock → ⊥)

-- It waits to convert the same page, whatever the two locks, and whichever is older.
abbrev pub ConvertsIt : State → ℕ → ℕ → Type 0
ConvertsIt st s u = (want_at st u ≡ want_at st s) × Converts st u

-- Another slot is in slot s's way. 02 (vi): "A conversion wants a held page and comes before every other want on it": so it waits for held locks alone.
pub record InTheWay (st : State) (s : ℕ) : Type 0 where
  pub slot : ℕ
  pub inside : slot < slot_count
  pub other : slot ≢ s
  pub there : HoldsAgainst st s slot ⊎ ((Converts st s → ⊥) × (WantedBefore st s slot ⊎ ConvertsIt st s slot))

-- "each step takes and gives up just the locks the rules name"
pub record StepLocks (st : State) (ws : List ℕ) (s : ℕ) (after : Left) : Type 0 where
  pub itself : Unchanged st ws after ⊎ (MovesOn st ws s after ⊎ Ends st ws s after)
  -- no other slot's operation, holdings or want change
  pub others : (u : ℕ) → u ≢ s → slot_at after.state u ≡ slot_at st u
  -- "A step grants the want when no other slot holds a clashing lock on that page and no older want" that clashes with it "is for the
  -- same page. Otherwise it is answered Waiting": by the rule's own words,
  pub waits : Exactly (after.answer ≡ Waiting) ((s < slot_count) × (open_at st s ≡ true) × Barred st s)
  -- and without them
  pub waits_for : Exactly (after.answer ≡ Waiting) ((s < slot_count) × (open_at st s ≡ true) × InTheWay st s)

-- "Beginning an operation makes the slot want page 0." It takes no lock.
pub record Begins (st : State) (ws : List ℕ) (s : ℕ) (op : Op) (after : Left) : Type 0 where
  pub answer : after.answer ≡ Begun
  pub words : after.words ≡ ws
  pub opened : Opened after.state s op
  pub nothing : held (slot_at after.state s) ≡ []
  pub root : want_at after.state s ≡ 0
  pub order : waiting_order after.state ≡ waiting_order st ++ s ∷ []
  pub others : (u : ℕ) → u ≢ s → slot_at after.state u ≡ slot_at st u

-- by call
abbrev pub CallLocks : State → List ℕ → Call → Left → Type 0
CallLocks st ws (begin s op) after = Unchanged st ws after ⊎ Begins st ws s op after
CallLocks st ws (step s) after = StepLocks st ws s after
CallLocks st ws (report p) after = (after.state ≡ st) × (after.words ≡ ws)

-- ---- the words of the rules that are used above, pinned

pub record Words (k : ℕ) : Type 0 where
  -- the key of an operation is the one that it names
  pub key : (x v : ℕ) (way : Way)
      → (key_of (Search x) ≡ x) × (key_of (Insert x v way) ≡ x) × (key_of (Delete x way) ≡ x) × (key_of (Next x) ≡ x) × (key_of (Regrade x v way) ≡ x)
  -- a deletion that takes siblings is a Delete of some key by the first way or the third, and nothing else is,
  pub deletion : (op : Op) → Exactly (is_delete op ≡ true) ((x : ℕ) × ((op ≡ Delete x First) ⊎ (op ≡ Delete x Third)))
  -- what asks for the next lot is a Next of some key,
  pub asks_next : (op : Op) → Exactly (is_next op ≡ true) ((x : ℕ) × (op ≡ Next x))
  -- and just these two may hold pages beside their path
  pub beside : (op : Op) → Exactly (goes_beside op ≡ true) ((x : ℕ) × ((op ≡ Delete x First) ⊎ ((op ≡ Delete x Third) ⊎ (op ≡ Next x))))
  -- who goes by the second way, and by the third; the same operation by the first; and what stands under the key of an update is answered at once just if an
  -- insertion's key is there, another one's is missing
  pub second : (op : Op) → Exactly (is_second op ≡ true) (BySecond op)
  pub third : (op : Op) → Exactly (is_third op ≡ true) (ByThird op)
  pub first : (x v : ℕ) (way : Way)
      → (first_way (Insert x v way) ≡ Insert x v First) × (first_way (Delete x way) ≡ Delete x First) × (first_way (Regrade x v way) ≡ Regrade x v First)
  pub at_once : (x v : ℕ) (way : Way) (es : List Entry)
      → (answered_at_once (Insert x v way) es ≡ has x es) × (answered_at_once (Delete x way) es ≡ not (has x es))
      × (answered_at_once (Regrade x v way) es ≡ not (has x es))
  -- when the change of an update is known: it is not answered at once; an insertion and a regrading have no siblings, a deletion all that it needs
  pub known : (z : Stand) (memory : ℕ → Page) (leaf : ℕ) (fathers : List ℕ)
      → Exactly (change_known k memory z leaf fathers ≡ true) ((answered_at_once z.op (memory leaf).entries ≡ false) × NoMore k memory z leaf fathers)
  -- the order of conversion: the top page of a path, then the sibling on its level, if there is one (the last taken is the highest), then those below
  pub turns_none : (z : Stand) → z.path ≡ [] → pages_in_turn z ≡ []
  pub turns_alone : (z : Stand) (top : ℕ) (below : List ℕ) → z.path ≡ top ∷ below → length z.beside ≤ length below
      → pages_in_turn z ≡ top ∷ pages_in_turn (on_pages z below z.locks z.beside z.sidelocks)
  pub turns_both : (z : Stand) (top s : ℕ) (below lower : List ℕ) → z.path ≡ top ∷ below → z.beside ≡ lower ++ s ∷ [] → length lower ≡ length below
      → pages_in_turn z ≡ top ∷ (s ∷ pages_in_turn (on_pages z below z.locks lower z.sidelocks))
  -- no entry of a list is at or above a key just if every key of it is below
  pub nearest : (x : ℕ) (es : List Entry) → Exactly (at_or_above x es ≡ []) (AllBelow x es)
  -- a page is safe, as 01 says when ancestors are given up
  pub safe : (op : Op) (P : Page) → Exactly (is_safe op k P ≡ true) (Safe op k P)
  -- "its right neighbour under the same father; if it has none, the left one": of the page to which F routes x
  pub right : (x : ℕ) (F : Page) → place x F.entries < μ F → neighbour x F ≡ pointer (suc (place x F.entries)) F
  pub left : (x : ℕ) (F : Page) → μ F ≤ place x F.entries → neighbour x F ≡ pointer (place x F.entries - 1) F
  -- the rule's table of kinds is 02's
  pub clashes : (a b : Lock) → Exactly (clash a b ≡ false) (GoTogether a b)
  -- the kind with which an operation goes down, the kind of a page that a slot holds, and the kind that it wants
  pub kind : (op : Op) (lock : Lock) → Exactly (lock ≡ held_lock op) (GoesWith op lock)
  pub held_kind : (a : Slot) (i : ℕ) → distinct (held a) ≡ true → i < length (held a)
      → lock_held a (get_or (held a) i 0) ≡ (get_or (held_locks a) i (under None)).lock
  pub wanted : (a : Slot) → lock_wanted a ≡ a.lock
  -- "Wants stand in a waiting order, oldest first."
  pub older : (s t : ℕ) (order : List ℕ) → distinct order ≡ true → member s order ≡ true → Exactly (member t (older_than s order) ≡ true) (Before t s order)
  -- a slot taken out of the order: those before it and those behind it stand as they stood
  pub leaves : (s : ℕ) (front behind : List ℕ) → member s front ≡ false → leaving s (front ++ s ∷ behind) ≡ front ++ behind

-- ---- the demand

-- k and N are those of the state that the run starts with.
pub record Demand2 (start : Start) (cs : List Call) : Type 0 where
  -- what the calls have left. It holds of every run, so it holds after every call of one.
  pub left : AfterEveryCall start.state.k start.state.n (run_from start cs).state (run_from start cs).words
  pub next : (c : Call) → CallInWords c
      → AfterEveryCall start.state.k start.state.n (called (run_from start cs).state (run_from start cs).words c).state (called (run_from start cs).state (run_from start cs).words c).words
  -- what any further call takes and gives up, and what it answers: never BadState, BadPool or Damaged
  pub locks : (c : Call) → CallLocks (run_from start cs).state (run_from start cs).words c (called (run_from start cs).state (run_from start cs).words c)
  pub heard : (c : Call) → is_one_of (called (run_from start cs).state (run_from start cs).words c).answer (answers_of c) ≡ true
  pub words : Words start.state.k

abbrev pub Demand2Holds : Type 0
Demand2Holds = (start : Start) (cs : List Call) → Run start cs → Demand2 start cs
