-- A sound state as facts: the test of document 01, taken apart and put together again.
use Prim.Native.Nat.{ℕ, ◌≤◌, ◌<◌}
use mathlib.Core.Bool.{Bool, true, false, not, ◌&&◌, ◌||◌}
use mathlib.Core.Path.{◌≡◌, refl, subst}
use mathlib.Core.List.{◌∷◌}
use lib.Dec.{leb, ltb}
use borrow.Author.Tests.{leb-true, le-leb, ltb-true, lt-ltb}
use Rattle.ground.specs.Limits.{largest_k, k_in_range, largest_n, n_in_range, slot_count}
use Rattle.ground.specs.Tests.{all, all_below, member, distinct}
use Rattle.ground.proofs.Bools.{not_both, and_first, and_second, and_both}
use Rattle.ground.proofs.Tests.{all_member, all_from_members, all_below_at, all_below_from}
use Rattle.slots.specs.declared.Op.{Op}
use Rattle.slots.specs.declared.Task.{Task}
use Rattle.slots.specs.declared.Task.TheVariants.{Closed, Open}
use Rattle.slots.specs.declared.Slot.{Slot}
use Rattle.slots.specs.declared.State.{State}
use Rattle.slots.specs.Parts.{is_open, held, slot_at, open_at, holds_at, waiting_order, idle_state}
use Rattle.slots.specs.Locks.{lock_held, lock_held_at, can_hold, clash, no_clash_on}
use Rattle.slots.specs.Sound.{names_each, order_sound, within_limits, below_and_once, if_open, wants_rightly, holds_rightly, converts_rightly, slot_sound, no_clashing_holds, sound}
use Rattle.slots.proofs.LockLaws.{others_go, others_go_from}

-- one slot, in a pool of n pages
pub record SoundSlot (n : ℕ) (s : Slot) : Type 0 where
  pub limits : within_limits s.task s.depth s.breadth ≡ true
  -- of an open slot: "all pages named are below N"
  pub below : is_open s.task ≡ true → (p : ℕ) → member p (s.want ∷ held s) ≡ true → p < n
  -- "no slot holds a page twice"
  pub different : is_open s.task ≡ true → distinct (held s) ≡ true
  -- its want is for a kind of lock that its operation can want
  pub rightly : wants_rightly s.task s.lock ≡ true
  -- "or wants one it holds", but as a conversion
  pub converts : converts_rightly s.task s ≡ true
  -- what it holds it holds under a kind that its operation can hold a page under
  pub under : (op : Op) → s.task ≡ Open op → (p : ℕ) → member p (held s) ≡ true → can_hold op (lock_held s p) ≡ true

pub record SoundState (st : State) : Type 0 where
  pub k_least : 1 ≤ st.k
  pub k_most : st.k ≤ largest_k
  pub n_least : 1 ≤ st.n
  pub n_most : st.n ≤ largest_n
  -- "the waiting order names each open slot once and no other"
  pub waits : st.waiting ≤ slot_count
  pub order_below : (s : ℕ) → member s (waiting_order st) ≡ true → s < slot_count
  pub order_open : (s : ℕ) → member s (waiting_order st) ≡ true → open_at st s ≡ true
  pub order_once : distinct (waiting_order st) ≡ true
  pub order_names : (s : ℕ) → s < slot_count → open_at st s ≡ true → member s (waiting_order st) ≡ true
  pub slot : (s : ℕ) → s < slot_count → SoundSlot st.n (slot_at st s)
  -- "no ξ-held page is held by another slot": two slots that hold one page hold it under kinds that go together
  pub locks : (s t : ℕ) → s < slot_count → t < slot_count → (s ≡ t → ⊥) → (p : ℕ) → holds_at st s p ≡ true → holds_at st t p ≡ true → clash (lock_held_at st s p) (lock_held_at st t p) ≡ false

-- a test of an open slot, by its task
if_open_lem : (task : Task) (test : Bool) → if_open task test ≡ true → is_open task ≡ true → test ≡ true
if_open_lem Closed test h e = not_both e refl
if_open_lem (Open op) test h e = h

if_open_from : (task : Task) (test : Bool) → (is_open task ≡ true → test ≡ true) → if_open task test ≡ true
if_open_from Closed test h = refl
if_open_from (Open op) test h = h refl

-- what is held, by the task
holds_under : (task : Task) (s : Slot) → holds_rightly task s ≡ true → (op : Op) → task ≡ Open op → (p : ℕ) → member p (held s) ≡ true → can_hold op (lock_held s p) ≡ true
holds_under task s h op e p m =
    all_member (λ (q : ℕ). can_hold op (lock_held s q)) (held s) (subst (λ (t : Task). holds_rightly t s ≡ true) e h) p m

under_holds : (task : Task) (s : Slot) → ((op : Op) → task ≡ Open op → (p : ℕ) → member p (held s) ≡ true → can_hold op (lock_held s p) ≡ true) → holds_rightly task s ≡ true
under_holds Closed s h = refl
under_holds (Open op) s h = all_from_members (λ (q : ℕ). can_hold op (lock_held s q)) (held s) (h op refl)

pub sound_slot : (n : ℕ) (s : Slot) → slot_sound n s ≡ true → SoundSlot n s
unfolding slot_sound
sound_slot n s h =
    let within = within_limits s.task s.depth s.breadth in
    let names = all (λ (p : ℕ). ltb p n) (s.want ∷ held s) in
    let opened = if_open s.task (below_and_once n s) in
    let wants = wants_rightly s.task s.lock in
    let holds = holds_rightly s.task s in
    let changes = converts_rightly s.task s in
    let four = and_first (within && opened && wants && holds) changes h in
    let three = and_first (within && opened && wants) holds four in
    let both = and_first (within && opened) wants three in
    let pages : is_open s.task ≡ true → below_and_once n s ≡ true = if_open_lem s.task (below_and_once n s) (and_second within opened both) in
    record {
      limits = and_first within opened both;
      below = λ o p m. ltb-true p n (all_member (λ (q : ℕ). ltb q n) (s.want ∷ held s) (and_first names (distinct (held s)) (pages o)) p m);
      different = λ o. and_second names (distinct (held s)) (pages o);
      rightly = and_second (within && opened) wants three;
      converts = and_second (within && opened && wants && holds) changes h;
      under = holds_under s.task s (and_second (within && opened && wants) holds four);
    }

pub slot_sound_lem : (n : ℕ) (s : Slot) → SoundSlot n s → slot_sound n s ≡ true
unfolding slot_sound
slot_sound_lem n s h =
    and_both
    (and_both
    (and_both
    (and_both h.limits
    (if_open_from s.task (below_and_once n s)
    (λ o. and_both (all_from_members (λ (q : ℕ). ltb q n) (s.want ∷ held s) (λ p m. lt-ltb p n (h.below o p m))) (h.different o))))
    h.rightly)
    (under_holds s.task s h.under))
    h.converts

-- the test of k and N, and those that go through the slots, by name
abbrev numbers_test : State → Bool
numbers_test st = k_in_range st.k && n_in_range st.n

abbrev slots_test : State → Bool
slots_test st = all_below slot_count (λ (s : ℕ). slot_sound st.n (slot_at st s))

abbrev page_test : State → ℕ → ℕ → Bool
page_test st s p = no_clash_on st s p (lock_held_at st s p)

abbrev pages_test : State → ℕ → Bool
pages_test st s = all (page_test st s) (held (slot_at st s))

module _ (st : State) (h : sound st ≡ true) where
  numbers_told : numbers_test st ≡ true
  unfolding sound
  numbers_told = and_first (numbers_test st) (order_sound st) (and_first (numbers_test st && order_sound st) (slots_test st) (and_first (numbers_test st && order_sound st && slots_test st) (no_clashing_holds st) h))

  order_told : order_sound st ≡ true
  unfolding sound
  order_told = and_second (numbers_test st) (order_sound st) (and_first (numbers_test st && order_sound st) (slots_test st) (and_first (numbers_test st && order_sound st && slots_test st) (no_clashing_holds st) h))

  slots_told : slots_test st ≡ true
  unfolding sound
  slots_told = and_second (numbers_test st && order_sound st) (slots_test st) (and_first (numbers_test st && order_sound st && slots_test st) (no_clashing_holds st) h)

  locks_told : no_clashing_holds st ≡ true
  unfolding sound
  locks_told = and_second (numbers_test st && order_sound st && slots_test st) (no_clashing_holds st) h

-- the four numbers
numbers_facts : (st : State) → numbers_test st ≡ true → (1 ≤ st.k) × (st.k ≤ largest_k) × (1 ≤ st.n) × (st.n ≤ largest_n)
numbers_facts st h =
    let ks = and_first (k_in_range st.k) (n_in_range st.n) h in
    let ns = and_second (k_in_range st.k) (n_in_range st.n) h in (
      leb-true 1 st.k (and_first (leb 1 st.k) (leb st.k largest_k) ks),
      leb-true st.k largest_k (and_second (leb 1 st.k) (leb st.k largest_k) ks),
      leb-true 1 st.n (and_first (leb 1 st.n) (leb st.n largest_n) ns),
      leb-true st.n largest_n (and_second (leb 1 st.n) (leb st.n largest_n) ns),
    )

-- the waiting order
abbrev named_test : State → ℕ → Bool
named_test st s = ltb s slot_count && open_at st s

abbrev names_test : State → ℕ → Bool
names_test st s = not (open_at st s) || member s (waiting_order st)

pub record OrderFacts (st : State) : Type 0 where
  pub waits : st.waiting ≤ slot_count
  pub named : (s : ℕ) → member s (waiting_order st) ≡ true → named_test st s ≡ true
  pub different : distinct (waiting_order st) ≡ true
  pub names : (s : ℕ) → s < slot_count → names_test st s ≡ true

order_facts : (st : State) → order_sound st ≡ true → OrderFacts st
unfolding names_each waiting_order
order_facts st h =
    let a = leb st.waiting slot_count in
    let b = all (named_test st) (waiting_order st) in
    let c = distinct (waiting_order st) in
    let d = all_below slot_count (names_test st) in
    record {
      waits = leb-true st.waiting slot_count (and_first a b (and_first (a && b) c (and_first (a && b && c) d h)));
      named = all_member (named_test st) (waiting_order st) (and_second a b (and_first (a && b) c (and_first (a && b && c) d h)));
      different = and_second (a && b) c (and_first (a && b && c) d h);
      names = all_below_at (names_test st) slot_count (and_second (a && b && c) d h);
    }

named_open : (up named : Bool) → not up || named ≡ true → up ≡ true → named ≡ true
named_open true named h e = h
named_open false named h e = not_both e refl

-- A sound state is what the record says.
pub sound_facts : (st : State) → sound st ≡ true → SoundState st
unfolding no_clashing_holds
sound_facts st h =
    let (kl, km, nl, nm) = numbers_facts st (numbers_told st h) in
    let o = order_facts st (order_told st h) in
    record {
      k_least = kl;
      k_most = km;
      n_least = nl;
      n_most = nm;
      waits = o.waits;
      order_below = λ s m. ltb-true s slot_count (and_first (ltb s slot_count) (open_at st s) (o.named s m));
      order_open = λ s m. and_second (ltb s slot_count) (open_at st s) (o.named s m);
      order_once = o.different;
      order_names = λ s b e. named_open (open_at st s) (member s (waiting_order st)) (o.names s b) e;
      slot = λ s b. sound_slot st.n (slot_at st s) (all_below_at (λ (t : ℕ). slot_sound st.n (slot_at st t)) slot_count (slots_told st h) s b);
      locks = λ s t b c n p hs ht. others_go st t p (lock_held_at st t p)
          (all_member (page_test st t) (held (slot_at st t)) (all_below_at (pages_test st) slot_count (locks_told st h) t c) p ht)
          s b n hs;
    }

names_from : (up named : Bool) → (up ≡ true → named ≡ true) → not up || named ≡ true
names_from true named h = h refl
names_from false named h = refl

-- And the record gives the test.
pub facts_sound : (st : State) → SoundState st → sound st ≡ true
unfolding sound names_each waiting_order no_clashing_holds
facts_sound st f =
    and_both
    (and_both
    (and_both
    (and_both (and_both (le-leb 1 st.k f.k_least) (le-leb st.k largest_k f.k_most)) (and_both (le-leb 1 st.n f.n_least) (le-leb st.n largest_n f.n_most)))
    (and_both
    (and_both
    (and_both (le-leb st.waiting slot_count f.waits) (all_from_members (named_test st) (waiting_order st) (λ s m. and_both (lt-ltb s slot_count (f.order_below s m)) (f.order_open s m))))
    f.order_once)
    (all_below_from (names_test st) slot_count (λ s b. names_from (open_at st s) (member s (waiting_order st)) (f.order_names s b)))))
    (all_below_from (λ (t : ℕ). slot_sound st.n (slot_at st t)) slot_count (λ s b. slot_sound_lem st.n (slot_at st s) (f.slot s b))))
    (all_below_from (pages_test st) slot_count
    (λ s b. all_from_members (page_test st s) (held (slot_at st s)) (λ p m. others_go_from st s p (lock_held_at st s p) (λ t c n h. f.locks t s c b n p h m))))

-- the empty state, k and N 0, "which is itself BadState"
pub empty_unsound : sound (idle_state 0 0) ≡ false
unfolding sound
empty_unsound = refl
