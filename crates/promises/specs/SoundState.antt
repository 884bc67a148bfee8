-- A sound state in plain terms. "What the caller hears" of document 01; what may be held by a Next, by a regrading and by the second way is
-- 02 (i)'s, (iv)'s and (v)'s, and the kinds of lock, the third way and conversions are 02 (vi)'s.
-- Demand 1 has that the rule's test, `sound`, passes exactly then.
use Rattle.std.specs.Prelude.{ℕ, ◌≤◌, ◌<◌, ◌∷◌, ◌⊎◌, ◌≢◌, ◌≡◌}
use Rattle.ground.specs.Limits.{largest_k, largest_n, tallest, slot_count, search_holds, regrade_holds, second_holds, path_holds, sibling_holds}
use Rattle.slots.specs.declared.Op.{Op}
use Rattle.slots.specs.declared.Op.TheVariants.{Search, Insert, Delete, Next, Regrade}
use Rattle.slots.specs.declared.Way.TheVariants.{First, Second, Third}
use Rattle.slots.specs.declared.Lock.{Lock}
use Rattle.slots.specs.declared.Lock.TheVariants.{Xi, Alpha}
use Rattle.slots.specs.declared.Task.{Task}
use Rattle.slots.specs.declared.Task.TheVariants.{Closed, Open}
use Rattle.slots.specs.declared.State.{State}
use Rattle.slots.specs.Parts.{held, slot_at, want_at, waiting_order, Opened}
use Rattle.promises.specs.Terms.{Exactly, In, Once, IsOpen, GoTogether, HoldsAs, GoesWith, BySecond, ByThird, Converts}

-- The numbers that the demands name.
pub record Numbers : Type 0 where
  -- "k is 1 to 16."
  pub widest : largest_k ≡ 16
  -- "The pool has N pages, 1 to 1,024"
  pub largest : largest_n ≡ 1024
  -- "level 1 to 10"
  pub highest : tallest ≡ 10
  -- "There are 16 slots, 0 to 15."
  pub slots : slot_count ≡ 16
  -- "a search holds at most 1 page, an insertion at most 10, a deletion at most 10 on its path and 9 siblings"
  pub search : search_holds ≡ 1
  pub path : path_holds ≡ 10
  pub siblings : sibling_holds ≡ 9
  -- a regrading "holds at most 1", and so does an update by the second way
  pub regrading : regrade_holds ≡ 1
  pub second : second_holds ≡ 1

-- How many pages a slot holds on its path and beside it, by its task. "a search holds at most 1 page, an insertion at most 10, a deletion at
-- most 10 on its path and 9 siblings, with no siblings or fewer of them than path pages; siblings only in deletions; a closed slot holds
-- nothing". A Next "may hold up to 19 pages": on its path and beside it as many as a deletion. By the second way an update holds one page, by the third
-- as many as by the first.
abbrev pub InLimits : Task → ℕ → ℕ → Type 0
InLimits Closed path beside = (path ≡ 0) × (beside ≡ 0)
InLimits (Open (Search x)) path beside = (path ≤ search_holds) × (beside ≡ 0)
InLimits (Open (Insert x v First)) path beside = (path ≤ path_holds) × (beside ≡ 0)
InLimits (Open (Insert x v Second)) path beside = (path ≤ second_holds) × (beside ≡ 0)
InLimits (Open (Insert x v Third)) path beside = (path ≤ path_holds) × (beside ≡ 0)
InLimits (Open (Delete x First)) path beside = (path ≤ path_holds) × (beside ≤ sibling_holds) × ((beside ≡ 0) ⊎ (beside < path))
InLimits (Open (Delete x Second)) path beside = (path ≤ second_holds) × (beside ≡ 0)
InLimits (Open (Delete x Third)) path beside = (path ≤ path_holds) × (beside ≤ sibling_holds) × ((beside ≡ 0) ⊎ (beside < path))
InLimits (Open (Next x)) path beside = (path ≤ path_holds) × (beside ≤ sibling_holds) × ((beside ≡ 0) ⊎ (beside < path))
InLimits (Open (Regrade x v First)) path beside = (path ≤ regrade_holds) × (beside ≡ 0)
InLimits (Open (Regrade x v Second)) path beside = (path ≤ second_holds) × (beside ≡ 0)
InLimits (Open (Regrade x v Third)) path beside = (path ≤ regrade_holds) × (beside ≡ 0)

-- The kinds of lock that an operation can want at all: the one with which it goes down; by the second way "a ξ-lock wanted on the leaf"; by the third ξ,
-- as a conversion.
abbrev pub CanWant : Op → Lock → Type 0
CanWant op lock = GoesWith op lock ⊎ ((BySecond op ⊎ ByThird op) × (lock ≡ Xi))

-- The kinds that it can hold a page with: the one with which it goes down, and by the third way ξ, where it was converted.
abbrev pub CanHold : Op → Lock → Type 0
CanHold op lock = GoesWith op lock ⊎ (ByThird op × (lock ≡ Xi))

-- "wants a held page only as such a conversion from α", to ξ
pub record FromAlpha (st : State) (s : ℕ) (op : Op) : Type 0 where
  pub third : ByThird op
  pub held : HoldsAs st s (want_at st s) Alpha
  pub wants : (slot_at st s).lock ≡ Xi

pub record IsSound (st : State) : Type 0 where
  -- "k and N are in range"
  pub k_least : 1 ≤ st.k
  pub k_most : st.k ≤ largest_k
  pub n_least : 1 ≤ st.n
  pub n_most : st.n ≤ largest_n
  -- "the waiting order names each open slot once and no other"
  pub order_fits : st.waiting ≤ slot_count
  pub order_once : Once (waiting_order st)
  pub order_names : (s : ℕ) → Exactly (In s (waiting_order st)) ((s < slot_count) × IsOpen st s)
  -- "all pages named are below N": those that an open slot holds, and the one that it wants
  pub below : (s p : ℕ) → s < slot_count → IsOpen st s → In p (want_at st s ∷ held (slot_at st s)) → p < st.n
  -- "no slot holds a page twice or wants one it holds"; 02 (vi): "and wants a held page only as such a conversion from α". By the third way ξ is
  -- wanted so alone
  pub different : (s : ℕ) → s < slot_count → IsOpen st s → Once (held (slot_at st s))
  pub converts : (s : ℕ) (op : Op) → s < slot_count → Opened st s op → Converts st s → FromAlpha st s op
  pub new : (s : ℕ) (op : Op) → s < slot_count → Opened st s op → ByThird op → (slot_at st s).lock ≡ Xi → Converts st s
  -- how many pages a slot holds
  pub limits : (s : ℕ) → s < slot_count → InLimits (slot_at st s).task (slot_at st s).depth (slot_at st s).breadth
  -- the want is for a kind of lock that the operation can want
  pub wants : (s : ℕ) (op : Op) → s < slot_count → Opened st s op → CanWant op (slot_at st s).lock
  -- and every page is held with a kind that it can hold one with
  pub holds : (s p : ℕ) (op : Op) (lock : Lock) → s < slot_count → Opened st s op → HoldsAs st s p lock → CanHold op lock
  -- "no ξ-held page is held by another slot"; 02 (vi): "a sound state has no clashing kinds on a page"
  pub together : (s t p : ℕ) (a b : Lock) → s < slot_count → t < slot_count → s ≢ t → HoldsAs st s p a → HoldsAs st t p b → GoTogether a b
