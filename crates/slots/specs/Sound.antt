-- When a state is sound. "What the caller hears" of document 01.
use Rattle.std.specs.Prelude.{ℕ, Bool, true, cond, not, ◌&&◌, ◌||◌, List, ◌∷◌, leb, ltb, eqb, take}
use Rattle.ground.specs.Limits.{k_in_range, n_in_range, slot_count, search_holds, regrade_holds, second_holds, path_holds, sibling_holds}
use Rattle.ground.specs.Tests.{all, all_below, member, distinct}
use Rattle.slots.specs.declared.Op.TheVariants.{Search, Insert, Delete, Next, Regrade}
use Rattle.slots.specs.declared.Task.{Task}
use Rattle.slots.specs.declared.Task.TheVariants.{Closed, Open}
use Rattle.slots.specs.declared.Slot.{Slot}
use Rattle.slots.specs.declared.State.{State}
use Rattle.slots.specs.declared.Lock.{Lock}
use Rattle.slots.specs.declared.Lock.TheVariants.{Xi, Alpha}
use Rattle.slots.specs.Operations.{by_way, is_third}
use Rattle.slots.specs.Parts.{held, slot_at, open_at}
use Rattle.slots.specs.Locks.{lock_held, lock_held_at, same_lock, can_hold, can_want, no_clash_on}

-- the first so many cells of an order name each open slot once and no other
unfoldable pub names_each : (ℕ → Bool) → ℕ → List ℕ → Bool
names_each opened waiting order =
    leb waiting slot_count
    && all (λ (s : ℕ). ltb s slot_count && opened s) (take waiting order)
    && distinct (take waiting order)
    && all_below slot_count (λ (s : ℕ). not (opened s) || member s (take waiting order))

-- "the waiting order names each open slot once and no other"
abbrev pub order_sound : State → Bool
order_sound st = names_each (open_at st) st.waiting st.order

-- How many pages a slot may hold: on its path, and beside it.
pub record MayHold : Type 0 where
  pub on_path : ℕ
  pub beside : ℕ

abbrev pub may_hold : ℕ → ℕ → MayHold
may_hold on_path beside = record { on_path = on_path; beside = beside }

-- "a search holds at most 1 page, an insertion at most 10, a deletion at most 10 on its path and 9 siblings ..; siblings only in
-- deletions; a closed slot holds nothing". Next: "In a sound state it may hold up to 19 pages", 10 on its first way and 9 on
-- the second. Regrading: "every page is safe for it, so it holds at most 1". By the second way an update holds 1, by the third as many as by the first.
abbrev pub limits_of : Task → MayHold
limits_of Closed = may_hold 0 0
limits_of (Open (Search x)) = may_hold search_holds 0
limits_of (Open (Insert x v way)) = by_way way (may_hold path_holds 0) (may_hold second_holds 0) (may_hold path_holds 0)
limits_of (Open (Delete x way)) = by_way way (may_hold path_holds sibling_holds) (may_hold second_holds 0) (may_hold path_holds sibling_holds)
limits_of (Open (Next x)) = may_hold path_holds sibling_holds
limits_of (Open (Regrade x v way)) = by_way way (may_hold regrade_holds 0) (may_hold second_holds 0) (may_hold regrade_holds 0)

-- within these limits, and "with no siblings or fewer of them than path pages": so the limit beside the path is never what binds
abbrev pub within_limits : Task → ℕ → ℕ → Bool
within_limits task depth beside =
    leb depth (limits_of task).on_path && leb beside (limits_of task).beside && (eqb beside 0 || ltb beside depth)

-- "all pages named are below N; no slot holds a page twice". A closed slot names none.
abbrev pub below_and_once : ℕ → Slot → Bool
below_and_once n s = all (λ (p : ℕ). ltb p n) (s.want ∷ held s) && distinct (held s)

-- a test of an open slot
abbrev pub if_open : Task → Bool → Bool
if_open Closed test = true
if_open (Open op) test = test

-- the want of an open slot is for a kind that its operation can want. A closed slot's is not looked at.
abbrev pub wants_rightly : Task → Lock → Bool
wants_rightly Closed lock = true
wants_rightly (Open op) lock = can_want op lock

-- every page is held under a kind that the operation can hold one under. A closed slot holds none.
abbrev pub holds_rightly : Task → Slot → Bool
holds_rightly Closed s = true
holds_rightly (Open op) s = all (λ (p : ℕ). can_hold op (lock_held s p)) (held s)

-- 01: "no slot .. wants one it holds"; 02 (vi): "wants a held page only as such a conversion from α", to ξ. By the third way ξ is wanted so alone.
abbrev pub converts_rightly : Task → Slot → Bool
converts_rightly Closed s = true
converts_rightly (Open op) s =
    cond (member s.want (held s))
    (is_third op && same_lock (lock_held s s.want) Alpha && same_lock s.lock Xi)
    (not (is_third op && same_lock s.lock Xi))

unfoldable pub slot_sound : ℕ → Slot → Bool
slot_sound n s =
    within_limits s.task s.depth s.breadth
    && if_open s.task (below_and_once n s)
    && wants_rightly s.task s.lock
    && holds_rightly s.task s
    && converts_rightly s.task s

-- "no ξ-held page is held by another slot"; 02 (vi): "a sound state has no clashing kinds on a page"
unfoldable pub no_clashing_holds : State → Bool
no_clashing_holds st =
    all_below slot_count (λ (s : ℕ). all (λ (p : ℕ). no_clash_on st s p (lock_held_at st s p)) (held (slot_at st s)))

-- "A state is sound if k and N are in range; the waiting order .."
unfoldable pub sound : State → Bool
sound st =
    k_in_range st.k && n_in_range st.n
    && order_sound st
    && all_below slot_count (λ (s : ℕ). slot_sound st.n (slot_at st s))
    && no_clashing_holds st
