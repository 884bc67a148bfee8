-- "Granted steps, with h the level of page 0 when it is granted: search and insertion take h, deletion h to 2h-1. So at most 19 a
-- slot". Next: "It takes at most 2h-1 grants". A regrading goes down as a search does, and takes h. 02 (v), by the second way: "At most 10
-- + 19 grants". 02 (vi), by the third: "A deletion takes at most 19 grants and 19 conversions". Counted in a run, from where an operation has
-- begun to where it ends.
use Rattle.std.specs.Prelude.{ℕ, ◌+◌, ◌-◌, ◌*◌, ◌≤◌, Bool, true, false, not, cond, ◌&&◌, List, [], ◌∷◌, ◌≡◌, length}
use Rattle.ground.specs.Limits.{way_grants, second_grants, slot_grants}
use Rattle.pool.specs.Pool.{page_at}
use Rattle.slots.specs.declared.Op.{Op}
use Rattle.slots.specs.declared.Op.TheVariants.{Regrade}
use Rattle.slots.specs.declared.Way.TheVariants.{Third}
use Rattle.slots.specs.declared.Task.{Task}
use Rattle.slots.specs.declared.Task.TheVariants.{Closed, Open}
use Rattle.slots.specs.declared.State.{State}
use Rattle.slots.specs.declared.Answer.{Answer}
use Rattle.slots.specs.declared.Answer.TheVariants.{AlreadyThere, NoSuchKey, Begun}
use Rattle.slots.specs.Heard.{changes_nothing, is_one_of}
use Rattle.slots.specs.Operations.{goes_beside, is_second, is_third, first_way}
use Rattle.slots.specs.Parts.{path_of, beside_of, slot_at, open_at}
use Rattle.slots.specs.Grant.{converts_at}
use Rattle.runs.specs.Calls.{Call, begin, step, called, is_step_of}
use Rattle.runs.specs.Run.{InWords}

-- the call is a granted step of slot s: it is neither refused nor answered Waiting
abbrev pub granted_to : ℕ → State → List ℕ → Call → Bool
granted_to s st ws c = is_step_of s c && not (changes_nothing (called st ws c).answer)

-- how many granted steps the operation of slot s has among these calls, until it ends
unfoldable pub grants_of : ℕ → List Call → State → List ℕ → ℕ
grants_of s [] st ws = 0
grants_of s (c ∷ cs) st ws =
    let next = called st ws c in
    cond (granted_to s st ws c) 1 0 + cond (open_at next.state s) (grants_of s cs next.state next.words) 0

-- the operation of slot s ends among these calls
unfoldable pub ends_within : ℕ → List Call → State → List ℕ → Bool
ends_within s [] st ws = false
ends_within s (c ∷ cs) st ws =
    let next = called st ws c in
    cond (open_at next.state s) (ends_within s cs next.state next.words) true

-- "the level of page 0 when it is granted": it is what the first granted step grants; 0 where there is none
unfoldable pub height_granted : ℕ → List Call → State → List ℕ → ℕ
height_granted s [] st ws = 0
height_granted s (c ∷ cs) st ws =
    let next = called st ws c in
    cond (granted_to s st ws c) (page_at st.k ws 0).level (height_granted s cs next.state next.words)

-- ---- the second way

abbrev pub second_task : Task → Bool
second_task Closed = false
second_task (Open op) = is_second op

-- slot s is open with an operation that goes by the second way
abbrev pub second_at : State → ℕ → Bool
second_at st s = second_task (slot_at st s).task

-- the operation of slot s, which goes by the second way, begins again among these calls: then it is one of the first way
unfoldable pub begins_again : ℕ → List Call → State → List ℕ → Bool
begins_again s [] st ws = false
begins_again s (c ∷ cs) st ws =
    let next = called st ws c in
    cond (open_at next.state s) (cond (second_at next.state s) (begins_again s cs next.state next.words) true) false

-- how many granted steps it has by the second way, the one that begins it again among them
unfoldable pub grants_second : ℕ → List Call → State → List ℕ → ℕ
grants_second s [] st ws = 0
grants_second s (c ∷ cs) st ws =
    let next = called st ws c in
    cond (granted_to s st ws c) 1 0 + cond (second_at next.state s) (grants_second s cs next.state next.words) 0

-- What follows at some moment: the calls still to come, and what they find.
pub record Behind : Type 0 where
  pub calls : List Call
  pub state : State
  pub words : List ℕ

abbrev pub behind : List Call → State → List ℕ → Behind
behind cs st ws = record { calls = cs; state = st; words = ws }

-- where it has begun again
unfoldable pub behind_again : ℕ → List Call → State → List ℕ → Behind
behind_again s [] st ws = behind [] st ws
behind_again s (c ∷ cs) st ws =
    let next = called st ws c in
    cond (second_at next.state s) (behind_again s cs next.state next.words) (behind cs next.state next.words)

-- ---- the third way

-- A granted step of slot s takes a page, or converts one that it holds: "A conversion wants a held page".
abbrev pub taken_to : ℕ → State → List ℕ → Call → Bool
taken_to s st ws c = granted_to s st ws c && not (converts_at st s)

abbrev pub converted_to : ℕ → State → List ℕ → Call → Bool
converted_to s st ws c = granted_to s st ws c && converts_at st s

-- how many pages the operation of slot s takes among these calls, until it ends,
unfoldable pub pages_taken : ℕ → List Call → State → List ℕ → ℕ
pages_taken s [] st ws = 0
pages_taken s (c ∷ cs) st ws =
    let next = called st ws c in
    cond (taken_to s st ws c) 1 0 + cond (open_at next.state s) (pages_taken s cs next.state next.words) 0

-- and how many it converts
unfoldable pub conversions_of : ℕ → List Call → State → List ℕ → ℕ
conversions_of s [] st ws = 0
conversions_of s (c ∷ cs) st ws =
    let next = called st ws c in
    cond (converted_to s st ws c) 1 0 + cond (open_at next.state s) (conversions_of s cs next.state next.words) 0

-- where the operation of slot s ends: the next call, a step of slot s, ends it
unfoldable pub ends_at : ℕ → List Call → State → List ℕ → Behind
ends_at s [] st ws = behind [] st ws
ends_at s (c ∷ cs) st ws =
    let next = called st ws c in
    cond (open_at next.state s) (ends_at s cs next.state next.words) (behind (c ∷ cs) st ws)

-- what it holds there, on its path and beside it, and what that step answers
abbrev pub path_at_end : ℕ → List Call → State → List ℕ → ℕ
path_at_end s cs st ws = length (path_of (slot_at (ends_at s cs st ws).state s))

abbrev pub beside_at_end : ℕ → List Call → State → List ℕ → ℕ
beside_at_end s cs st ws = length (beside_of (slot_at (ends_at s cs st ws).state s))

abbrev pub answer_at_end : ℕ → List Call → State → List ℕ → Answer
answer_at_end s cs st ws = (called (ends_at s cs st ws).state (ends_at s cs st ws).words (step s)).answer

-- "a key already there is answered so", "a missing key is answered so": nothing is changed, and so nothing is converted
abbrev pub answered_so : Answer → Bool
answered_so a = is_one_of a (AlreadyThere 0 ∷ NoSuchKey ∷ [])

-- ---- the counts

-- The grants of slot s, which has just begun this operation by the first way, or one that only reads, among these calls.
pub record FirstCounts (s : ℕ) (op : Op) (cs : List Call) (st : State) (ws : List ℕ) : Type 0 where
  -- "search and insertion take h", and so does a regrading: they go straight down, and no further than their leaf
  pub exactly : goes_beside op ≡ false → ends_within s cs st ws ≡ true → grants_of s cs st ws ≡ height_granted s cs st ws
  -- "deletion h to 2h-1", and so does Next
  pub least : ends_within s cs st ws ≡ true → height_granted s cs st ws ≤ grants_of s cs st ws
  pub most : grants_of s cs st ws ≤ 2 * height_granted s cs st ws - 1
  -- "So at most 19"
  pub in_all : grants_of s cs st ws ≤ way_grants

-- The same of an operation that goes by the second way.
pub record SecondCounts (s : ℕ) (op : Op) (cs : List Call) (st : State) (ws : List ℕ) : Type 0 where
  -- where it does not begin again it takes h
  pub straight : begins_again s cs st ws ≡ false → ends_within s cs st ws ≡ true → grants_of s cs st ws ≡ height_granted s cs st ws
  -- where it does, h until then; and from then on what an operation by the first way takes that has just begun
  pub downward : begins_again s cs st ws ≡ true → grants_second s cs st ws ≡ height_granted s cs st ws
  pub afresh : begins_again s cs st ws ≡ true
      → FirstCounts s (first_way op) (behind_again s cs st ws).calls (behind_again s cs st ws).state (behind_again s cs st ws).words
  pub together : begins_again s cs st ws ≡ true
      → grants_of s cs st ws
      ≡ grants_second s cs st ws + grants_of s (behind_again s cs st ws).calls (behind_again s cs st ws).state (behind_again s cs st ws).words
  -- "At most 10 + 19 grants"
  pub in_all : grants_of s cs st ws ≤ second_grants

-- The same of an operation that goes by the third way.
pub record ThirdCounts (s : ℕ) (op : Op) (cs : List Call) (st : State) (ws : List ℕ) : Type 0 where
  -- each granted step takes a page or converts one
  pub together : grants_of s cs st ws ≡ pages_taken s cs st ws + conversions_of s cs st ws
  -- it takes h pages on its way down, and then its siblings
  pub taken : ends_within s cs st ws ≡ true → pages_taken s cs st ws ≡ height_granted s cs st ws + beside_at_end s cs st ws
  -- a key already there or missing is answered at the leaf: nothing is converted, so it takes h in all
  pub answered : ends_within s cs st ws ≡ true → answered_so (answer_at_end s cs st ws) ≡ true → grants_of s cs st ws ≡ height_granted s cs st ws
  -- otherwise "path and siblings are converted to ξ": all that it holds, each page once
  pub converted : ends_within s cs st ws ≡ true → answered_so (answer_at_end s cs st ws) ≡ false
      → conversions_of s cs st ws ≡ path_at_end s cs st ws + beside_at_end s cs st ws
  -- an insertion has no siblings: it takes h, and one for each page that it holds at its leaf
  pub straight : goes_beside op ≡ false → ends_within s cs st ws ≡ true → answered_so (answer_at_end s cs st ws) ≡ false
      → grants_of s cs st ws ≡ height_granted s cs st ws + path_at_end s cs st ws
  -- a regrading "holds at most 1": it takes h + 1
  pub regrades : (x v : ℕ) → op ≡ Regrade x v Third → ends_within s cs st ws ≡ true → answered_so (answer_at_end s cs st ws) ≡ false
      → grants_of s cs st ws ≡ height_granted s cs st ws + 1
  -- a deletion takes h, one for each sibling, and one for each page that it holds then
  pub changed : ends_within s cs st ws ≡ true → answered_so (answer_at_end s cs st ws) ≡ false
      → grants_of s cs st ws ≡ height_granted s cs st ws + beside_at_end s cs st ws + (path_at_end s cs st ws + beside_at_end s cs st ws)
  -- of each kind 2h-1 at most
  pub most_taken : pages_taken s cs st ws ≤ 2 * height_granted s cs st ws - 1
  pub most_converted : conversions_of s cs st ws ≤ 2 * height_granted s cs st ws - 1
  -- "at most 19 grants and 19 conversions"
  pub taken_in_all : pages_taken s cs st ws ≤ way_grants
  pub converted_in_all : conversions_of s cs st ws ≤ way_grants
  pub in_all : grants_of s cs st ws ≤ slot_grants

-- The grants of slot s, which has just begun this operation in this state, among these calls, by its way.
pub record GrantCounts (s : ℕ) (op : Op) (cs : List Call) (st : State) (ws : List ℕ) : Type 0 where
  pub first : is_second op ≡ false → is_third op ≡ false → FirstCounts s op cs st ws
  pub second : is_second op ≡ true → SecondCounts s op cs st ws
  pub third : is_third op ≡ true → ThirdCounts s op cs st ws

-- Whatever operation is begun in this state, and whatever is called then.
abbrev pub CountsFrom : State → List ℕ → Type 0
CountsFrom st ws =
    (s : ℕ) (op : Op) (cs : List Call) → InWords (begin s op ∷ cs) → (called st ws (begin s op)).answer ≡ Begun
    → GrantCounts s op cs (called st ws (begin s op)).state (called st ws (begin s op)).words
