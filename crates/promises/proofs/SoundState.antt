-- The rule's test of a sound state passes exactly where the state is sound in plain terms.
use Prim.Native.Nat.{ℕ, ◌≤◌, ◌<◌}
use mathlib.Core.Bool.{Bool, true, not, ◌&&◌, ◌||◌}
use mathlib.Core.List.{◌∷◌}
use mathlib.Core.Logic.{◌⊎◌, inl, inr, ⊎_elim}
use mathlib.Core.Path.{◌≡◌, refl, sym, ap, subst, ◌∙◌}
use native.Mathlib.Omega.{arith}
use lib.Dec.{leb, ltb, eqb}
use borrow.Author.Tests.{leb-true, le-leb, ltb-true, lt-ltb, eqb-true, eq-eqb, not-true}
use Rattle.ground.specs.Tests.{member}
use Rattle.ground.specs.Limits.{largest_k, largest_n, tallest, slot_count, search_holds, regrade_holds, second_holds, path_holds, sibling_holds}
use Rattle.ground.proofs.Bools.{not_both, false_if_not_true, and_first, and_second, and_both, or_first, or_second, or_cases, not_of_false}
use Rattle.ground.proofs.Choice.{by_test, cond-true, cond-false}
use Rattle.ground.proofs.Tests.{member_at, distinct_at, distinct_from}
use Rattle.slots.specs.declared.Op.{Op}
use Rattle.slots.specs.declared.Op.TheVariants.{Search, Insert, Delete, Next, Regrade}
use Rattle.slots.specs.declared.Way.TheVariants.{First, Second, Third}
use Rattle.slots.specs.declared.Lock.{Lock}
use Rattle.slots.specs.declared.Lock.TheVariants.{Xi, Alpha}
use Rattle.slots.specs.declared.Task.{Task}
use Rattle.slots.specs.declared.Task.TheVariants.{Closed, Open}
use Rattle.slots.specs.declared.Slot.{Slot}
use Rattle.slots.specs.declared.State.{State}
use Rattle.slots.specs.Parts.{is_open, is_second, is_third, held, slot_at, want_at, waiting_order}
use Rattle.slots.specs.Locks.{lock_held, lock_held_at, same_lock, can_hold, can_want}
use Rattle.slots.specs.Sound.{within_limits, wants_rightly, converts_rightly, sound}
use Rattle.slots.proofs.SoundFacts.{SoundState, sound_facts, facts_sound}
use Rattle.slots.proofs.LockLaws.{same_lock_lem, can_hold_lem, can_hold_held, can_hold_xi, can_want_lem, can_want_held, can_want_xi}
use Rattle.runs.proofs.Progress.{opened}
use Rattle.promises.specs.Terms.{Exactly, GoTogether, HoldsAs, ByThird, Converts}
use Rattle.promises.specs.SoundState.{Numbers, InLimits, CanWant, CanHold, FromAlpha, IsSound}
use Rattle.promises.proofs.Terms.{in_member, together_told, with_goes, kind_is, second_named, named_second, third_named, named_third, holds_as, as_held, as_kind, sound_kind}

pub numbers : Numbers
unfolding largest_k largest_n tallest slot_count search_holds regrade_holds second_holds path_holds sibling_holds
numbers = record { widest = refl; largest = refl; highest = refl; slots = refl; search = refl; path = refl; siblings = refl; regrading = refl; second = refl }

-- ---- how many pages a slot holds

abbrev Within : ℕ → ℕ → ℕ → ℕ → Type 0
Within most few path beside = (path ≤ most) × (beside ≤ few) × ((beside ≡ 0) ⊎ (beside < path))

abbrev within : ℕ → ℕ → ℕ → ℕ → Bool
within most few path beside = leb path most && leb beside few && (eqb beside 0 || ltb beside path)

within_told : (most few path beside : ℕ) → within most few path beside ≡ true → Within most few path beside
within_told most few path beside h =
    let both = and_first (leb path most && leb beside few) (eqb beside 0 || ltb beside path) h in (
      leb-true path most (and_first (leb path most) (leb beside few) both),
      leb-true beside few (and_second (leb path most) (leb beside few) both),
      ⊎_elim (λ e. inl (eqb-true beside 0 e)) (λ e. inr (ltb-true beside path e))
          (or_cases (eqb beside 0) (ltb beside path) (and_second (leb path most && leb beside few) (eqb beside 0 || ltb beside path) h)),
    )

within_from : (most few path beside : ℕ) → Within most few path beside → within most few path beside ≡ true
within_from most few path beside (p, b, f) =
    and_both (and_both (le-leb path most p) (le-leb beside few b))
    (⊎_elim (λ e. or_first (ltb beside path) (eq-eqb beside 0 e)) (λ l. or_second (eqb beside 0) (lt-ltb beside path l)) f)

-- of an operation that holds nothing beside its path
none_told : (most path beside : ℕ) → within most 0 path beside ≡ true → (path ≤ most) × (beside ≡ 0)
none_told most path beside h = let (p, b, f) = within_told most 0 path beside h in (p, omega (arith, b))

none_from : (most path beside : ℕ) → (path ≤ most) × (beside ≡ 0) → within most 0 path beside ≡ true
none_from most path beside (p, b) = within_from most 0 path beside (p, omega (arith, b), inl b)

limits_told : (task : Task) (path beside : ℕ) → within_limits task path beside ≡ true → InLimits task path beside
limits_told Closed path beside h = let (p, b) = none_told 0 path beside h in (omega (arith, p), b)
limits_told (Open (Search x)) path beside h = none_told search_holds path beside h
limits_told (Open (Insert x v First)) path beside h = none_told path_holds path beside h
limits_told (Open (Insert x v Second)) path beside h = none_told second_holds path beside h
limits_told (Open (Insert x v Third)) path beside h = none_told path_holds path beside h
limits_told (Open (Delete x First)) path beside h = within_told path_holds sibling_holds path beside h
limits_told (Open (Delete x Second)) path beside h = none_told second_holds path beside h
limits_told (Open (Delete x Third)) path beside h = within_told path_holds sibling_holds path beside h
limits_told (Open (Next x)) path beside h = within_told path_holds sibling_holds path beside h
limits_told (Open (Regrade x v First)) path beside h = none_told regrade_holds path beside h
limits_told (Open (Regrade x v Second)) path beside h = none_told second_holds path beside h
limits_told (Open (Regrade x v Third)) path beside h = none_told regrade_holds path beside h

limits_from : (task : Task) (path beside : ℕ) → InLimits task path beside → within_limits task path beside ≡ true
limits_from Closed path beside (p, b) = none_from 0 path beside (omega (arith, p), b)
limits_from (Open (Search x)) path beside h = none_from search_holds path beside h
limits_from (Open (Insert x v First)) path beside h = none_from path_holds path beside h
limits_from (Open (Insert x v Second)) path beside h = none_from second_holds path beside h
limits_from (Open (Insert x v Third)) path beside h = none_from path_holds path beside h
limits_from (Open (Delete x First)) path beside h = within_from path_holds sibling_holds path beside h
limits_from (Open (Delete x Second)) path beside h = none_from second_holds path beside h
limits_from (Open (Delete x Third)) path beside h = within_from path_holds sibling_holds path beside h
limits_from (Open (Next x)) path beside h = within_from path_holds sibling_holds path beside h
limits_from (Open (Regrade x v First)) path beside h = none_from regrade_holds path beside h
limits_from (Open (Regrade x v Second)) path beside h = none_from second_holds path beside h
limits_from (Open (Regrade x v Third)) path beside h = none_from regrade_holds path beside h

-- ---- the kind of lock that it wants

wants_told : (op : Op) (lock : Lock) → can_want op lock ≡ true → CanWant op lock
wants_told op lock h =
    ⊎_elim
    (λ e. inl ((kind_is op lock).0 e))
    (λ e. inr (⊎_elim (λ b. inl (second_named op b)) (λ b. inr (third_named op b)) (or_cases (is_second op) (is_third op) e.0), e.1))
    (can_want_lem op lock h)

wants_from : (op : Op) (lock : Lock) → CanWant op lock → can_want op lock ≡ true
wants_from op lock (inl g) = ap (can_want op) (with_goes op lock g) ∙ can_want_held op
wants_from op lock (inr (other, e)) =
    ap (can_want op) e
    ∙ can_want_xi op (⊎_elim (λ b. or_first (is_third op) (named_second op b)) (λ b. or_second (is_second op) (named_third op b)) other)

-- ---- the kinds that it holds with

holds_told : (op : Op) (lock : Lock) → can_hold op lock ≡ true → CanHold op lock
holds_told op lock h = ⊎_elim (λ e. inl ((kind_is op lock).0 e)) (λ e. inr (third_named op e.0, e.1)) (can_hold_lem op lock h)

holds_from : (op : Op) (lock : Lock) → CanHold op lock → can_hold op lock ≡ true
holds_from op lock (inl g) = ap (can_hold op) (with_goes op lock g) ∙ can_hold_held op
holds_from op lock (inr (third, e)) = ap (can_hold op) e ∙ can_hold_xi op (named_third op third)

-- ---- a want of a held page

module _ (st : State) (s : ℕ) (op : Op) where
  abbrev slot : Slot
  slot = slot_at st s

  abbrev own : Bool
  own = member slot.want (held slot)

  abbrev from_alpha : Bool
  from_alpha = is_third op && same_lock (lock_held slot slot.want) Alpha && same_lock slot.lock Xi

  abbrev plain : Bool
  plain = is_third op && same_lock slot.lock Xi

  turn_told : converts_rightly (Open op) slot ≡ true → Converts st s → FromAlpha st s op
  turn_told h c =
      let m = in_member slot.want (held slot) c in
      let all = sym (cond-true from_alpha (not plain) m) ∙ h in
      let two = and_first (is_third op && same_lock (lock_held slot slot.want) Alpha) (same_lock slot.lock Xi) all in
      record {
        third = third_named op (and_first (is_third op) (same_lock (lock_held slot slot.want) Alpha) two);
        held = subst (HoldsAs st s slot.want) (same_lock_lem (lock_held slot slot.want) Alpha (and_second (is_third op) (same_lock (lock_held slot slot.want) Alpha) two))
            (holds_as st s slot.want m);
        wants = same_lock_lem slot.lock Xi (and_second (is_third op && same_lock (lock_held slot slot.want) Alpha) (same_lock slot.lock Xi) all);
      }

  new_told : converts_rightly (Open op) slot ≡ true → ByThird op → slot.lock ≡ Xi → Converts st s
  new_told h third e =
      by_test own
      (λ m. member_at slot.want (held slot) 0 m)
      (λ f. not_both (and_both (named_third op third) (ap (λ (l : Lock). same_lock l Xi) e)) (not-true plain (sym (cond-false from_alpha (not plain) f) ∙ h)))

  turn_from : ((lock : Lock) → HoldsAs st s slot.want lock → lock_held slot slot.want ≡ lock) → (Converts st s → FromAlpha st s op) → (ByThird op → slot.lock ≡ Xi → Converts st s) → converts_rightly (Open op) slot ≡ true
  turn_from kind turns new =
      by_test own
      (λ m.
      let a = turns (member_at slot.want (held slot) 0 m) in
      cond-true from_alpha (not plain) m
      ∙ and_both (and_both (named_third op a.third) (ap (λ (l : Lock). same_lock l Alpha) (kind Alpha a.held))) (ap (λ (l : Lock). same_lock l Xi) a.wants))
      (λ f.
      cond-false from_alpha (not plain) f
      ∙ not_of_false (false_if_not_true plain (λ y.
      not_both
      (in_member slot.want (held slot) (new (third_named op (and_first (is_third op) (same_lock slot.lock Xi) y)) (same_lock_lem slot.lock Xi (and_second (is_third op) (same_lock slot.lock Xi) y))))
      f)))

-- of a task; a closed slot's want is not looked at
rightly_told : (task : Task) (op : Op) (lock : Lock) → wants_rightly task lock ≡ true → task ≡ Open op → CanWant op lock
rightly_told task op lock h e = wants_told op lock (subst (λ (t : Task). wants_rightly t lock ≡ true) e h)

rightly_from : (task : Task) (lock : Lock) → ((op : Op) → task ≡ Open op → CanWant op lock) → wants_rightly task lock ≡ true
rightly_from Closed lock f = refl
rightly_from (Open op) lock f = wants_from op lock (f op refl)

-- ---- the whole

told : (st : State) → SoundState st → IsSound st
told st f = record {
  k_least = f.k_least;
  k_most = f.k_most;
  n_least = f.n_least;
  n_most = f.n_most;
  order_fits = f.waits;
  order_once = distinct_at (waiting_order st) 0 f.order_once;
  order_names = λ s. (
    (λ i. let m = in_member s (waiting_order st) i in (f.order_below s m, opened (slot_at st s).task (f.order_open s m))),
    (λ o. member_at s (waiting_order st) 0 (f.order_names s o.0 (ap is_open o.1.1))),
  );
  below = λ s p b o i. (f.slot s b).below (ap is_open o.1) p (in_member p (want_at st s ∷ held (slot_at st s)) i);
  different = λ s b o. distinct_at (held (slot_at st s)) 0 ((f.slot s b).different (ap is_open o.1));
  converts = λ s op b runs. turn_told st s op (subst (λ (t : Task). converts_rightly t (slot_at st s) ≡ true) runs (f.slot s b).converts);
  new = λ s op b runs. new_told st s op (subst (λ (t : Task). converts_rightly t (slot_at st s) ≡ true) runs (f.slot s b).converts);
  limits = λ s b. limits_told (slot_at st s).task (slot_at st s).depth (slot_at st s).breadth (f.slot s b).limits;
  wants = λ s op b runs. rightly_told (slot_at st s).task op (slot_at st s).lock (f.slot s b).rightly runs;
  holds = λ s p op lock b runs h.
      holds_told op lock (ap (can_hold op) (sym (sound_kind st f s p lock b h)) ∙ (f.slot s b).under op runs p (as_held st s p lock h));
  together = λ s t p x y b c n h g.
      subst (λ (l : Lock). GoTogether l y) (sound_kind st f s p x b h)
      (subst (GoTogether (lock_held_at st s p)) (sound_kind st f t p y c g)
      ((together_told (lock_held_at st s p) (lock_held_at st t p)).0 (f.locks s t b c n p (as_held st s p x h) (as_held st t p y g))));
}

-- a closed slot converts nothing
by_task : (st : State) → IsSound st → (s : ℕ) → s < slot_count → (task : Task) → (slot_at st s).task ≡ task → converts_rightly task (slot_at st s) ≡ true
by_task st g s b Closed e = refl
by_task st g s b (Open op) e =
    let once = distinct_from (held (slot_at st s)) 0 (g.different s b (op, e)) in
    turn_from st s op (λ lock h. as_kind st s (want_at st s) lock once h) (g.converts s op b e) (g.new s op b e)

from : (st : State) → IsSound st → SoundState st
from st g = record {
  k_least = g.k_least;
  k_most = g.k_most;
  n_least = g.n_least;
  n_most = g.n_most;
  waits = g.order_fits;
  order_below = λ s m. ((g.order_names s).0 (member_at s (waiting_order st) 0 m)).0;
  order_open = λ s m. ap is_open ((g.order_names s).0 (member_at s (waiting_order st) 0 m)).1.1;
  order_once = distinct_from (waiting_order st) 0 g.order_once;
  order_names = λ s b o. in_member s (waiting_order st) ((g.order_names s).1 (b, opened (slot_at st s).task o));
  slot = λ s b. record {
    limits = limits_from (slot_at st s).task (slot_at st s).depth (slot_at st s).breadth (g.limits s b);
    below = λ o p m. g.below s p b (opened (slot_at st s).task o) (member_at p (want_at st s ∷ held (slot_at st s)) 0 m);
    different = λ o. distinct_from (held (slot_at st s)) 0 (g.different s b (opened (slot_at st s).task o));
    converts = by_task st g s b (slot_at st s).task refl;
    rightly = rightly_from (slot_at st s).task (slot_at st s).lock (λ op runs. g.wants s op b runs);
    under = λ op runs p m.
        holds_from op (lock_held_at st s p) (g.holds s p op (lock_held_at st s p) b runs (holds_as st s p m));
  };
  locks = λ s t b c n p h m.
      (together_told (lock_held_at st s p) (lock_held_at st t p)).1
      (g.together s t p (lock_held_at st s p) (lock_held_at st t p) b c n (holds_as st s p h) (holds_as st t p m));
}

pub sound_is : (st : State) → Exactly (sound st ≡ true) (IsSound st)
sound_is st = ((λ h. told st (sound_facts st h)), (λ g. facts_sound st (from st g)))
