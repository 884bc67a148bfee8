-- Beginning, going on and closing keep a sound state sound, and leave every other slot as it was.
-- Arrays are lists to the prover, so the lengths are said: a state is shaped as its type says.
use Prim.Native.Nat.{ℕ, zero, suc, ◌+◌, ◌-◌, ◌≤◌, ◌<◌, min, zero-le}
use mathlib.Core.Bool.{Bool, true, false, not, ◌&&◌, ◌||◌, or-false}
use mathlib.Core.Logic.{◌≢◌, ⊎_elim}
use mathlib.Core.Path.{◌≡◌, refl, sym, ap, ap₂, subst, ◌∙◌}
use mathlib.Core.List.{List, [], ◌∷◌, ◌++◌}
use native.Mathlib.Omega.{arith}
use lib.ListN.{length, get_or, take, drop, set, replicate, length-set, length-append, length-take, length-drop, length-replicate}
use lib.Seq.{get_or-set_same, get_or-set_other}
use Rattle.ground.specs.Limits.{largest_k, largest_n, slot_count, search_holds, regrade_holds, second_holds, path_holds, sibling_holds}
use Rattle.ground.specs.Tests.{member, distinct, filled}
use Rattle.ground.proofs.Padded.{filled_list}
use Rattle.ground.proofs.Bools.{false_if_not_true, not_both, and_both, not_of_false}
use Rattle.ground.proofs.Choice.{cond-false}
use Rattle.ground.proofs.Tests.{member_none, member_one, member_append, member_inside, member_last, distinct_none, distinct_snoc}
use Rattle.slots.specs.declared.Op.{Op}
use Rattle.slots.specs.declared.Op.TheVariants.{Search, Insert, Delete, Next, Regrade}
use Rattle.slots.specs.declared.Way.TheVariants.{First, Second, Third}
use Rattle.slots.specs.declared.Task.{Task}
use Rattle.slots.specs.declared.Task.TheVariants.{Closed, Open}
use Rattle.slots.specs.declared.Lock.{Lock}
use Rattle.slots.specs.declared.Lock.TheVariants.{None, Xi}
use Rattle.slots.specs.declared.Under.{Under}
use Rattle.slots.specs.declared.Slot.{Slot}
use Rattle.slots.specs.declared.State.{State}
use Rattle.slots.specs.Parts.{is_open, held_lock, is_third, held, path_of, beside_of, locks_of, sidelocks_of, lock_cells, under, Stand, holding, holding_locks, on_pages, fresh_stand, stand_of, slot_of, slot_at, open_at, holds_at, waiting_order, closed_slot, idle_state}
use Rattle.slots.specs.Locks.{lock_among, lock_held, lock_held_at, same_lock, can_hold, can_want, clash}
use Rattle.slots.specs.Sound.{within_limits, converts_rightly}
use Rattle.slots.specs.Book.{rewritten, leaving, begins, goes_on, closes}
use Rattle.slots.proofs.SoundFacts.{SoundSlot, SoundState}
use Rattle.slots.proofs.LockLaws.{clash_swap, can_want_held, third_not_xi}
use Rattle.slots.proofs.OrderLaws.{same_or_not, length_waiting, length_leaving, member_leaving, leaving_gone, distinct_leaving, leaving_was, order_has_room, waiting_begins, waiting_requeued, waiting_closes}

-- the arrays have the lengths of their types
pub record Shaped (st : State) : Type 0 where
  pub slots : length st.slots ≡ slot_count
  pub order : length st.order ≡ slot_count

-- ---- one slot written, the others as they were

module _ (st : State) (shaped : Shaped st) (s : ℕ) (b : s < slot_count) (slot : Slot) (order : List ℕ) (waiting : ℕ) where
  pub slot_here : slot_at (rewritten st s slot order waiting) s ≡ slot
  slot_here = get_or-set_same st.slots s slot closed_slot (subst (λ (m : ℕ). s < m) (sym shaped.slots) b)

  pub slot_other : (t : ℕ) → t ≢ s → slot_at (rewritten st s slot order waiting) t ≡ slot_at st t
  slot_other t n = get_or-set_other st.slots s t slot closed_slot n

  -- what holds of the new slot at s, and of the old ones elsewhere, holds of all
  by_slot : (P : ℕ → Slot → Type 0) → P s slot → ((t : ℕ) → t ≢ s → P t (slot_at st t)) → (t : ℕ) → P t (slot_at (rewritten st s slot order waiting) t)
  by_slot P here other t =
      ⊎_elim
      (λ e. subst (λ (q : ℕ). P q (slot_at (rewritten st s slot order waiting) q)) (sym e) (subst (P s) (sym slot_here) here))
      (λ n. subst (P t) (sym (slot_other t n)) (other t n))
      (same_or_not t s)

-- What is to be known of the new slot and the new waiting order.
pub record Fits (st : State) (s : ℕ) (slot : Slot) (after : List ℕ) (waiting : ℕ) : Type 0 where
  pub waits : waiting ≤ slot_count
  pub below : (t : ℕ) → member t after ≡ true → t < slot_count
  pub different : distinct after ≡ true
  -- every other slot is in the order as it was
  pub others : (t : ℕ) → t ≢ s → member t after ≡ member t (waiting_order st)
  -- the slot itself is in the order just if it is open
  pub itself : member s after ≡ is_open slot.task
  pub sound : SoundSlot st.n slot
  -- a page that it holds and another does they hold under kinds that go together
  pub locks : (t : ℕ) → t < slot_count → t ≢ s → (p : ℕ) → member p (held slot) ≡ true → holds_at st t p ≡ true → clash (lock_held slot p) (lock_held_at st t p) ≡ false

keeps_sound : (st : State) → Shaped st → SoundState st → (s : ℕ) → s < slot_count → (slot : Slot) (order : List ℕ) (waiting : ℕ)
    → Fits st s slot (waiting_order (rewritten st s slot order waiting)) waiting → SoundState (rewritten st s slot order waiting)
unfolding waiting_order
keeps_sound st shaped f s b slot order waiting g =
    record {
      k_least = f.k_least;
      k_most = f.k_most;
      n_least = f.n_least;
      n_most = f.n_most;
      waits = g.waits;
      order_below = g.below;
      order_open = λ t m. by_slot st shaped s b slot order waiting (λ (q : ℕ) (sl : Slot). member q (take waiting order) ≡ true → is_open sl.task ≡ true)
          (λ q. sym g.itself ∙ q) (λ q n h. f.order_open q (sym (g.others q n) ∙ h)) t m;
      order_once = g.different;
      order_names = λ t c. by_slot st shaped s b slot order waiting (λ (q : ℕ) (sl : Slot). q < slot_count → is_open sl.task ≡ true → member q (take waiting order) ≡ true)
          (λ _ o. g.itself ∙ o) (λ q n d o. g.others q n ∙ f.order_names q d o) t c;
      slot = λ t. by_slot st shaped s b slot order waiting (λ (q : ℕ) (sl : Slot). q < slot_count → SoundSlot st.n sl) (λ _. g.sound) (λ q n d. f.slot q d) t;
      locks = two;
    }
  where
    next : State
    next = rewritten st s slot order waiting

    two : (t u : ℕ) → t < slot_count → u < slot_count → t ≢ u → (p : ℕ) → holds_at next t p ≡ true → holds_at next u p ≡ true → clash (lock_held_at next t p) (lock_held_at next u p) ≡ false
    two t u c d n p = by_slot st shaped s b slot order waiting
        (λ (q : ℕ) (sl : Slot). q < slot_count → q ≢ u → member p (held sl) ≡ true → holds_at next u p ≡ true → clash (lock_held sl p) (lock_held_at next u p) ≡ false)
        (λ _ m h. subst (λ (o : Slot). member p (held o) ≡ true → clash (lock_held slot p) (lock_held o p) ≡ false)
        (sym (slot_other st shaped s b slot order waiting u (λ e. m (sym e)))) (g.locks u d (λ e. m (sym e)) p h))
        (λ q k e m h. by_slot st shaped s b slot order waiting
        (λ (r : ℕ) (sl : Slot). r < slot_count → q ≢ r → member p (held sl) ≡ true → clash (lock_held_at st q p) (lock_held sl p) ≡ false)
        (λ _ _ i. clash_swap (lock_held_at st q p) (lock_held slot p) ∙ g.locks q e k p i h)
        (λ r _ a o i. f.locks q r e a o p h i) u d m)
        t c n

-- ---- what a new slot holds

pub path_new : (z : Stand) → path_of (slot_of z) ≡ z.path
unfolding path_of
path_new z = filled_list 0 path_holds z.path

pub beside_new : (z : Stand) → beside_of (slot_of z) ≡ z.beside
unfolding beside_of
beside_new z = filled_list 0 path_holds z.beside

pub held_new : (z : Stand) → held (slot_of z) ≡ holding z
held_new z = ap₂ (λ (ps ss : List ℕ). ps ++ ss) (path_new z) (beside_new z)

-- a kind for every page
pub record Paired (z : Stand) : Type 0 where
  pub path : length z.locks ≡ length z.path
  pub beside : length z.sidelocks ≡ length z.beside

-- a slot has as many cells for kinds as for pages
pub slot_paired : (op : Op) (slot : Slot) → length slot.locks ≡ length slot.path → length slot.sidelocks ≡ length slot.beside
    → Paired (stand_of op slot)
unfolding path_of beside_of locks_of sidelocks_of
slot_paired op slot path beside = record {
  path = first slot.depth slot.locks slot.path path;
  beside = first slot.breadth slot.sidelocks slot.beside beside;
}
  where
    first : (i : ℕ) (locks : List Under) (pages : List ℕ) → length locks ≡ length pages → length (take i locks) ≡ length (take i pages)
    first i locks pages e = length-take i locks ∙ ap (min i) e ∙ sym (length-take i pages)

-- and so a kind for every page that it holds
pub kinds_long : (z : Stand) → Paired z → length (holding_locks z) ≡ length (holding z)
kinds_long z paired =
    length-append z.locks z.sidelocks ∙ ap₂ (λ (a b : ℕ). a + b) paired.path paired.beside ∙ sym (length-append z.path z.beside)

module _ (z : Stand) (paired : Paired z) where
  pub locks_new : locks_of (slot_of z) ≡ z.locks
  unfolding locks_of
  locks_new = ap (λ (m : ℕ). take m (lock_cells z.locks)) (sym paired.path) ∙ filled_list (under None) path_holds z.locks

  pub sidelocks_new : sidelocks_of (slot_of z) ≡ z.sidelocks
  unfolding sidelocks_of
  sidelocks_new = ap (λ (m : ℕ). take m (lock_cells z.sidelocks)) (sym paired.beside) ∙ filled_list (under None) path_holds z.sidelocks

  -- under which kind it holds a page
  pub lock_new : (p : ℕ) → lock_held (slot_of z) p ≡ lock_among p (holding z) (holding_locks z)
  lock_new p = ap₂ (lock_among p) (held_new z) (ap₂ (λ (ls ss : List Under). ls ++ ss) locks_new sidelocks_new)

  -- where a slot stands that was made to stand there
  pub stand_new : stand_of z.op (slot_of z) ≡ z
  stand_new =
      ap₂ (λ (path : List ℕ) (locks : List Under). on_pages z path locks (beside_of (slot_of z)) (sidelocks_of (slot_of z))) (path_new z) locks_new
      ∙ ap₂ (λ (beside : List ℕ) (sidelocks : List Under). on_pages z z.path z.locks beside sidelocks) (beside_new z) sidelocks_new

-- a slot that holds nothing clashes with none
holds_none : (slot : Slot) → held slot ≡ [] → {X : Type 0} (p : ℕ) → member p (held slot) ≡ true → X
holds_none slot e p m = not_both m (ap (member p) e ∙ member_none p)

closed_holds_nothing : held closed_slot ≡ []
unfolding path_of beside_of filled
closed_holds_nothing = refl

closed_sound : (n : ℕ) → SoundSlot n closed_slot
closed_sound n = record { limits = refl; below = λ o. not_both o refl; different = λ o. not_both o refl; rightly = refl; converts = refl; under = λ op e p m. holds_none closed_slot closed_holds_nothing p m }

begun_limits : (op : Op) → within_limits (Open op) 0 0 ≡ true
unfolding search_holds regrade_holds second_holds path_holds sibling_holds
begun_limits (Search x) = refl
begun_limits (Insert x v First) = refl
begun_limits (Insert x v Second) = refl
begun_limits (Insert x v Third) = refl
begun_limits (Delete x First) = refl
begun_limits (Delete x Second) = refl
begun_limits (Delete x Third) = refl
begun_limits (Next x) = refl
begun_limits (Regrade x v First) = refl
begun_limits (Regrade x v Second) = refl
begun_limits (Regrade x v Third) = refl

-- another number behind a list
member_before : (t s : ℕ) (xs : List ℕ) → t ≢ s → member t (xs ++ s ∷ []) ≡ member t xs
member_before t s xs n =
    member_append t xs (s ∷ [])
    ∙ ap (λ (h : Bool). member t xs || h) (false_if_not_true (member t (s ∷ [])) (λ h. n (member_one t s h)))
    ∙ or-false (member t xs)

-- who wants a page that it does not hold, with the kind with which it goes down, converts none
fresh_converts : (op : Op) (s : Slot) → s.lock ≡ held_lock op → member s.want (held s) ≡ false → converts_rightly (Open op) s ≡ true
fresh_converts op s e new =
    cond-false _ _ new
    ∙ not_of_false (ap (λ (l : Lock). is_third op && same_lock l Xi) e ∙ third_not_xi op)

begun_sound : (n : ℕ) (op : Op) → 1 ≤ n → SoundSlot n (slot_of (fresh_stand op))
unfolding distinct member
begun_sound n op h =
    let holds : held (slot_of (fresh_stand op)) ≡ [] = held_new (fresh_stand op) in
    record {
      limits = begun_limits op;
      below = λ _ p m. subst (λ (q : ℕ). q < n) (sym (member_one p 0 (subst (λ (l : List ℕ). member p (0 ∷ l) ≡ true) holds m))) h;
      different = λ _. subst (λ (l : List ℕ). distinct l ≡ true) (sym holds) refl;
      rightly = can_want_held op;
      converts = fresh_converts op (slot_of (fresh_stand op)) refl (ap (member 0) holds ∙ member_none 0);
      under = λ _ _ p m. holds_none (slot_of (fresh_stand op)) holds p m;
    }

open_op : {a b : Op} → Open a ≡ Open b → a ≡ b
open_op {a} e = ap (λ (t : Task). op_in a t) e
  where
    op_in : Op → Task → Op
    op_in none Closed = none
    op_in none (Open op) = op

-- ---- the three ways a slot changes

module _ (st : State) (shaped : Shaped st) (f : SoundState st) (s : ℕ) (b : s < slot_count) where
  order_long : st.waiting ≤ length st.order
  order_long = subst (λ (m : ℕ). st.waiting ≤ m) (sym shaped.order) f.waits

  -- Beginning in a closed slot keeps a sound state sound, with the new want last.
  begins_fits : (op : Op) → open_at st s ≡ false → Fits st s (slot_of (fresh_stand op)) (waiting_order st ++ s ∷ []) (st.waiting + 1)
  begins_fits op closed =
      let room : st.waiting < slot_count = order_has_room st shaped.order f s b closed in
      let absent : member s (waiting_order st) ≡ false = false_if_not_true (member s (waiting_order st)) (λ m. not_both (f.order_open s m) closed) in
      record {
        waits = omega arith;
        below = λ t m. ⊎_elim (λ h. f.order_below t h) (λ e. subst (λ (q : ℕ). q < slot_count) (sym e) b) (member_last t (waiting_order st) s m);
        different = distinct_snoc (waiting_order st) s ∙ and_both f.order_once (ap not absent);
        others = λ t n. member_before t s (waiting_order st) n;
        itself = member_inside s (waiting_order st) [];
        sound = begun_sound st.n op f.n_least;
        locks = λ t c n p m _. holds_none (slot_of (fresh_stand op)) (held_new (fresh_stand op)) p m;
      }

  pub begins_sound : (op : Op) → open_at st s ≡ false → SoundState (begins st s op)
  unfolding begins
  begins_sound op closed =
      let room : st.waiting < length st.order = subst (λ (m : ℕ). st.waiting < m) (sym shaped.order) (order_has_room st shaped.order f s b closed) in
      keeps_sound st shaped f s b (slot_of (fresh_stand op)) (set st.order st.waiting s) (st.waiting + 1)
      (subst (λ (l : List ℕ). Fits st s (slot_of (fresh_stand op)) l (st.waiting + 1)) (sym (waiting_begins st s op room)) (begins_fits op closed))

  -- Closing keeps a sound state sound: the slot leaves the order.
  closes_fits : open_at st s ≡ true → Fits st s closed_slot (leaving s (waiting_order st)) (st.waiting - 1)
  closes_fits opened =
      record {
        waits = omega (arith, f.waits);
        below = λ t m. f.order_below t (leaving_was s t (waiting_order st) f.order_once m).1;
        different = distinct_leaving s (waiting_order st) f.order_once;
        others = λ t n. member_leaving s t (waiting_order st) n;
        itself = leaving_gone s (waiting_order st) f.order_once;
        sound = closed_sound st.n;
        locks = λ t c n p m _. holds_none closed_slot closed_holds_nothing p m;
      }

  pub closes_sound : open_at st s ≡ true → SoundState (closes st s)
  unfolding closes
  closes_sound opened =
      keeps_sound st shaped f s b closed_slot (leaving s (waiting_order st) ++ 0 ∷ drop st.waiting st.order) (st.waiting - 1)
      (subst (λ (l : List ℕ). Fits st s closed_slot l (st.waiting - 1)) (sym (waiting_closes st s order_long (f.order_names s b opened))) (closes_fits opened))

  -- Going on keeps a sound state sound, with the new want last, if the new holdings are within the limits, are different
  -- pages below N, and clash with no other slot's.
  requeued_fits : (slot : Slot) → open_at st s ≡ true → is_open slot.task ≡ true → SoundSlot st.n slot
      → ((t : ℕ) → t < slot_count → t ≢ s → (p : ℕ) → member p (held slot) ≡ true → holds_at st t p ≡ true → clash (lock_held slot p) (lock_held_at st t p) ≡ false)
      → Fits st s slot (leaving s (waiting_order st) ++ s ∷ []) st.waiting
  requeued_fits slot opened stays g h =
      let gone = leaving_gone s (waiting_order st) f.order_once in
      record {
        waits = f.waits;
        below = λ t m. ⊎_elim (λ q. f.order_below t (leaving_was s t (waiting_order st) f.order_once q).1) (λ e. subst (λ (r : ℕ). r < slot_count) (sym e) b)
            (member_last t (leaving s (waiting_order st)) s m);
        different = distinct_snoc (leaving s (waiting_order st)) s ∙ and_both (distinct_leaving s (waiting_order st) f.order_once) (ap not gone);
        others = λ t n. member_before t s (leaving s (waiting_order st)) n ∙ member_leaving s t (waiting_order st) n;
        itself = member_inside s (leaving s (waiting_order st)) [] ∙ sym stays;
        sound = g;
        locks = h;
      }

  pub goes_on_sound : (z : Stand) → open_at st s ≡ true
      → within_limits (Open z.op) (length z.path) (length z.beside) ≡ true
      → ((p : ℕ) → member p (z.want ∷ holding z) ≡ true → p < st.n)
      → distinct (holding z) ≡ true
      → converts_rightly (Open z.op) (slot_of z) ≡ true
      → can_want z.op z.lock ≡ true
      → ((p : ℕ) → member p (holding z) ≡ true → can_hold z.op (lock_held (slot_of z) p) ≡ true)
      → ((t : ℕ) → t < slot_count → t ≢ s → (p : ℕ) → member p (holding z) ≡ true → holds_at st t p ≡ true
      → clash (lock_held (slot_of z) p) (lock_held_at st t p) ≡ false)
      → SoundState (goes_on st s z)
  unfolding goes_on
  goes_on_sound z opened limits below different converts rightly under locks =
      let slot = slot_of z in
      let holds : holding z ≡ held slot = sym (held_new z) in
      let g : SoundSlot st.n slot = record {
        limits = limits;
        below = λ _ p m. below p (subst (λ (l : List ℕ). member p (z.want ∷ l) ≡ true) (sym holds) m);
        different = λ _. subst (λ (l : List ℕ). distinct l ≡ true) holds different;
        rightly = rightly;
        converts = converts;
        under = λ op e p m. subst (λ (o : Op). can_hold o (lock_held slot p) ≡ true) (open_op e) (under p (subst (λ (l : List ℕ). member p l ≡ true) (sym holds) m));
      } in
      keeps_sound st shaped f s b slot (leaving s (waiting_order st) ++ s ∷ drop st.waiting st.order) st.waiting
      (subst (λ (l : List ℕ). Fits st s slot l st.waiting) (sym (waiting_requeued st s order_long (f.order_names s b opened) slot))
      (requeued_fits slot opened refl g (λ t c n p m. locks t c n p (subst (λ (l : List ℕ). member p l ≡ true) (sym holds) m))))

  -- The arrays keep their lengths.
  pub begins_shaped : (op : Op) → Shaped (begins st s op)
  unfolding begins
  begins_shaped op = record {
    slots = length-set st.slots s (slot_of (fresh_stand op)) ∙ shaped.slots;
    order = length-set st.order st.waiting s ∙ shaped.order;
  }

  order_same_length : open_at st s ≡ true → (a : ℕ) → length (leaving s (waiting_order st) ++ a ∷ drop st.waiting st.order) ≡ slot_count
  order_same_length opened a =
      let m = f.order_names s b opened in
      length-append (leaving s (waiting_order st)) (a ∷ drop st.waiting st.order)
      ∙ omega (arith, length_leaving s (waiting_order st) m, length_waiting st order_long, length-drop st.waiting st.order, shaped.order, f.waits)

  pub closes_shaped : open_at st s ≡ true → Shaped (closes st s)
  unfolding closes
  closes_shaped opened = record {
    slots = length-set st.slots s closed_slot ∙ shaped.slots;
    order = order_same_length opened 0;
  }

  pub goes_on_shaped : (z : Stand) → open_at st s ≡ true → Shaped (goes_on st s z)
  unfolding goes_on
  goes_on_shaped z opened = record {
    slots = length-set st.slots s (slot_of z) ∙ shaped.slots;
    order = order_same_length opened s;
  }

-- ---- the state of making

-- every slot of a list of equal ones is that one
pub same_everywhere : {A : Type 0} (n i : ℕ) (a : A) → get_or (replicate n a) i a ≡ a
same_everywhere zero i a = refl
same_everywhere (suc n) zero a = refl
same_everywhere (suc n) (suc i) a = same_everywhere n i a

idle_order : (k n : ℕ) → waiting_order (idle_state k n) ≡ []
unfolding waiting_order
idle_order k n = refl

-- A fresh state is sound.
pub idle_sound : (k n : ℕ) → 1 ≤ k → k ≤ largest_k → 1 ≤ n → n ≤ largest_n → SoundState (idle_state k n)
idle_sound k n kl km nl nm =
    record {
      k_least = kl;
      k_most = km;
      n_least = nl;
      n_most = nm;
      waits = zero-le;
      order_below = λ s m. not_both m (nobody s);
      order_open = λ s m. not_both m (nobody s);
      order_once = ap distinct (idle_order k n) ∙ distinct_none;
      order_names = λ s b o. not_both o (shut s);
      slot = λ s b. subst (SoundSlot n) (sym (same_everywhere slot_count s closed_slot)) (closed_sound n);
      locks = λ s t b c d p m _. holds_none (slot_at (idle_state k n) s) (ap held (same_everywhere slot_count s closed_slot) ∙ closed_holds_nothing) p m;
    }
  where
    nobody : (s : ℕ) → member s (waiting_order (idle_state k n)) ≡ false
    nobody s = ap (member s) (idle_order k n) ∙ member_none s

    shut : (s : ℕ) → open_at (idle_state k n) s ≡ false
    shut s = ap (λ (sl : Slot). is_open sl.task) (same_everywhere slot_count s closed_slot)

pub idle_shaped : (k n : ℕ) → Shaped (idle_state k n)
idle_shaped k n = record { slots = length-replicate slot_count closed_slot; order = length-replicate slot_count 0 }
