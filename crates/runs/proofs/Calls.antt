-- Every call keeps what holds of a run: begin, step and report, one after the other.
use Prim.Native.Nat.{ℕ, ◌≤◌, ◌<◌}
use mathlib.Core.Bool.{Bool, true, false, cond, not, ◌&&◌, false≢true}
use mathlib.Core.Logic.{inl, inr, ⊎_elim, ◌≢◌}
use mathlib.Core.List.{List, [], ◌∷◌, ◌++◌, reverse, append-nil, append_assoc}
use mathlib.Core.Path.{◌≡◌, refl, sym, ap, ap₂, subst, ◌∙◌}
use native.Mathlib.Omega.{arith}
use lib.Dec.{ltb, eqb}
use lib.ListN.{length, length-append}
use borrow.Author.Tests.{ltb-true, ltb-false, lt-ltb, eq-eqb, eqb-true, eqb-false}
use Rattle.ground.specs.Limits.{slot_count, word_range, blank_key}
use Rattle.ground.specs.Tests.{member}
use Rattle.ground.proofs.Bools.{true_or_false, not_both, false_if_not_true, and_both, and_first_fails, or_second, not_of_true, not_of_false}
use Rattle.ground.proofs.Choice.{by_test, cond-true, cond-false}
use Rattle.ground.proofs.Tests.{member_none, member_one, member_there, member_last}
use Rattle.page.specs.Words.{Page}
use Rattle.page.specs.Place.{has}
use Rattle.pool.specs.Pool.{Write, pool_length, page_at, applied}
use Rattle.slots.specs.declared.Op.{Op}
use Rattle.slots.specs.declared.Lock.{Lock}
use Rattle.slots.specs.declared.Lock.TheVariants.{Xi, Alpha}
use Rattle.slots.specs.declared.Under.{Under}
use Rattle.slots.specs.declared.Task.{Task}
use Rattle.slots.specs.declared.Task.TheVariants.{Closed, Open}
use Rattle.slots.specs.declared.Slot.{Slot}
use Rattle.slots.specs.declared.State.{State}
use Rattle.slots.specs.declared.Answer.{Answer}
use Rattle.slots.specs.declared.Answer.TheVariants.{Waiting, Moved, BadState, BadPool, BadSlot, SlotIdle}
use Rattle.slots.specs.Operations.{blank_tag}
use Rattle.slots.specs.Parts.{is_open, held, key_of, is_second, is_third, first_way, under, xi_on, with_xi, Stand, fresh_stand, holding, holding_locks, converting, stand_of, slot_of, slot_at, open_at, want_at, holds_at, closed_slot, Opened}
use Rattle.slots.specs.Locks.{lock_among, lock_held, same_lock, can_want}
use Rattle.slots.specs.Sound.{converts_rightly}
use Rattle.slots.specs.Grant.{grants}
use Rattle.slots.specs.Book.{rewritten, begins, goes_on, closes}
use Rattle.slots.proofs.SoundFacts.{SoundState, facts_sound}
use Rattle.slots.proofs.OrderLaws.{same_or_not}
use Rattle.slots.proofs.LockLaws.{third_not_second, third_not_xi, xi_there, xi_elsewhere, among_first, among_behind, can_want_xi}
use Rattle.slots.proofs.Clashes.{update_alone, wanted_alone}
use Rattle.slots.proofs.GrantLaws.{Takable, taking_fits}
use Rattle.slots.proofs.Keeping.{Shaped, slot_here, slot_other, held_new, lock_new, stand_new, begins_sound, begins_shaped, closes_sound, closes_shaped, goes_on_sound, goes_on_shaped}
use Rattle.footing.specs.Fitting.{verdict}
use Rattle.index.specs.Step.{Left, left, acted, stepped_task, stepped}
use Rattle.tree.specs.Tree.{Tr, entries_of, PoolForms}
use Rattle.tree.specs.Change.{memory_after, written_pages}
use Rattle.tree.proofs.Words.{fit_writes, applied_memory, pool_leads}
use Rattle.runs.specs.Stance.{HoldsWith, Locked, Gathering, Converting, Stance, Converts, Takes}
use Rattle.runs.specs.Step.{Scene, Writable, Ended, Comes, moves, stops}
use Rattle.runs.proofs.Invariant.{Invariant, scene}
use Rattle.runs.proofs.BlankTags.{same_tag, ended_unblank}
use Rattle.runs.proofs.Placing.{WellHeld, well_held, gathers_new, turn_held}
use Rattle.runs.proofs.Others.{others_keep, others_wait}
use Rattle.runs.proofs.Stepping.{same_key, granted_comes}
use Rattle.runs.proofs.Locking.{due_held, held_with, paired, due_held_can, fresh_holds, due_wanted}
use Rattle.runs.proofs.Turning.{scene_ordered, once_own, due_left}
use Rattle.runs.proofs.Paths.{no_length}

-- a slot stands in a pool
abbrev StandsIn : ℕ → List ℕ → (l : ℕ) → Tr l → Op → Slot → Type 0
StandsIn k ws l t op slot = Stance k (page_at k ws) l t (stand_of op slot) × Locked (page_at k ws) (stand_of op slot)

-- an open task has one operation, and a closed one none
abbrev op_of : Task → Op → Op
op_of Closed op = op
op_of (Open op) _ = op

pub same_op : {op op' : Op} → Open op ≡ Open op' → op ≡ op'
same_op {op = op} e = ap (λ (task : Task). op_of task op) e

pub closed_open : {op : Op} → Closed ≡ Open op → ⊥
closed_open e = false≢true (ap is_open e)

-- ---- the want

-- a want that a sound slot can have: a page that it does not hold, or a conversion from α to ξ
record WantedRightly (z : Stand) : Type 0 where
  converts : converts_rightly (Open z.op) (slot_of z) ≡ true
  can : can_want z.op z.lock ≡ true
  third : converting z ≡ true → is_third z.op ≡ true

module _ (k n : ℕ) (ws : List ℕ) (l : ℕ) (t : Tr l) (z : Stand) (scene : Scene k n ws l t z) where
  abbrev turns : Bool
  turns = is_third z.op && same_lock (lock_held (slot_of z) z.want) Alpha && same_lock z.lock Xi

  abbrev plain : Bool
  plain = not (is_third z.op && same_lock z.lock Xi)

  -- who gathers by the third way wants with α
  gathers_alpha : converting z ≡ false → is_third z.op && same_lock z.lock Xi ≡ false
  gathers_alpha new =
      by_test (is_third z.op)
      (λ third.
      ap (λ (lock : Lock). is_third z.op && same_lock lock Xi)
      (scene.locked.wants new ∙ due_held z.op (page_at k ws) (reverse z.path) (third_not_second z.op third))
      ∙ third_not_xi z.op)
      (λ other. and_first_fails (same_lock z.lock Xi) other)

  wanted_new : Gathering k (page_at k ws) l t z → WantedRightly z
  wanted_new g =
      let new = gathers_new k n ws l t z scene g in
      record {
        converts = cond-false turns plain (ap (member z.want) (held_new z) ∙ new) ∙ not_of_false (gathers_alpha new);
        can = due_wanted z.op z.lock (page_at k ws) (reverse z.path) (scene.locked.wants new);
        third = λ own. not_both own new;
      }

  wanted_own : Converting k (page_at k ws) l t z → WantedRightly z
  wanted_own c =
      let own = turn_held k n ws l t z scene c in
      let xi : z.lock ≡ Xi = scene.locked.converts own in
      let ordered = scene_ordered k n ws l t z scene in
      let once = (once_own z ordered c.third scene.locked.holds c.done c.rest c.turns).0 in
      let alpha : lock_held (slot_of z) z.want ≡ Alpha
      = lock_new z (paired z scene.locked.holds) z.want
      ∙ held_with z scene.locked.holds z.want own
      ∙ due_left z ordered c.third scene.locked.holds c.done c.rest c.turns z.want once in
      record {
        converts = cond-true turns plain (ap (member z.want) (held_new z) ∙ own)
            ∙ and_both (and_both c.third (ap (λ (lock : Lock). same_lock lock Alpha) alpha)) (ap (λ (lock : Lock). same_lock lock Xi) xi);
        can = ap (can_want z.op) xi ∙ can_want_xi z.op (or_second (is_second z.op) c.third);
        third = λ _. c.third;
      }

  wanted_rightly : WantedRightly z
  wanted_rightly = ⊎_elim wanted_new wanted_own scene.stance

-- One slot is written anew, the words may change: what has to be shown of that slot, and of the others.
module _ (st : State) (ws : List ℕ) (inv : Invariant st ws) (s : ℕ) (b : s < slot_count) where
  pub slot_anew : (slot : Slot) (order : List ℕ) (waiting : ℕ) (after : List ℕ) (l : ℕ) (t : Tr l)
      → Shaped (rewritten st s slot order waiting) → SoundState (rewritten st s slot order waiting)
      → PoolForms st.k st.n after l t → has blank_key (entries_of l t) ≡ false
      → ((op : Op) → slot.task ≡ Open op → (key_of op < word_range) × (blank_tag op ≡ false) × StandsIn st.k after l t op slot)
      → ((u : ℕ) (op : Op) → u < slot_count → u ≢ s → Opened st u op → StandsIn st.k after l t op (slot_at st u))
      → Invariant (rewritten st s slot order waiting) after
  slot_anew slot order waiting after l t shaped sound forms unblank here other =
      record {
        shaped = shaped;
        sound = sound;
        height = l;
        tree = t;
        forms = forms;
        no_blank = unblank;
        keys = λ u op c runs. ⊎_elim (λ e. (here op (now_here u op e runs)).0) (λ n. inv.keys u op c (was_there u op n runs)) (same_or_not u s);
        tags = λ u op c runs. ⊎_elim (λ e. (here op (now_here u op e runs)).1) (λ n. inv.tags u op c (was_there u op n runs)) (same_or_not u s);
        stands = λ u op c runs. (stands_in u op c runs).0;
        locked = λ u op c runs. (stands_in u op c runs).1;
      }
    where
      next : State
      next = rewritten st s slot order waiting

      slot_at_lem : (u : ℕ) → u ≡ s → slot_at next u ≡ slot
      slot_at_lem u e = ap (slot_at next) e ∙ slot_here st inv.shaped s b slot order waiting

      slot_away : (u : ℕ) → u ≢ s → slot_at next u ≡ slot_at st u
      slot_away u n = slot_other st inv.shaped s b slot order waiting u n

      -- what runs in the slot, and what ran in another
      now_here : (u : ℕ) (op : Op) → u ≡ s → Opened next u op → slot.task ≡ Open op
      now_here u op e runs = sym (ap (λ (sl : Slot). sl.task) (slot_at_lem u e)) ∙ runs

      was_there : (u : ℕ) (op : Op) → u ≢ s → Opened next u op → Opened st u op
      was_there u op n runs = sym (ap (λ (sl : Slot). sl.task) (slot_away u n)) ∙ runs

      stands_in : (u : ℕ) (op : Op) → u < slot_count → Opened next u op → StandsIn st.k after l t op (slot_at next u)
      stands_in u op c runs = ⊎_elim
          (λ e. subst (StandsIn st.k after l t op) (sym (slot_at_lem u e)) (here op (now_here u op e runs)).2)
          (λ n. subst (StandsIn st.k after l t op) (sym (slot_away u n)) (other u op c n (was_there u op n runs)))
          (same_or_not u s)

  -- Beginning in a closed slot.
  pub begin_keeps : (op : Op) → open_at st s ≡ false → blank_tag op ≡ false → key_of op < word_range → Invariant (begins st s op) ws
  unfolding begins
  begin_keeps op closed tag key =
      slot_anew (slot_of (fresh_stand op)) _ _ ws inv.height inv.tree
      (begins_shaped st inv.shaped inv.sound s b op)
      (begins_sound st inv.shaped inv.sound s b op closed)
      inv.forms
      inv.no_blank
      (λ op' e. let same : op ≡ op' = same_op e in (
        subst (λ (o : Op). key_of o < word_range) same key,
        ap blank_tag (sym same) ∙ tag,
        subst (λ (o : Op). StandsIn st.k ws inv.height inv.tree o (slot_of (fresh_stand op))) same here,
      ))
      (λ u op' c n runs. (inv.stands u op' c runs, inv.locked u op' c runs))
    where
      here : StandsIn st.k ws inv.height inv.tree op (slot_of (fresh_stand op))
      here =
          subst (λ (z : Stand). Stance st.k (page_at st.k ws) inv.height inv.tree z × Locked (page_at st.k ws) z) (sym (stand_new (fresh_stand op) (paired (fresh_stand op) (fresh_holds op)))) (
            inl (inl (record { no_path = refl; no_siblings = refl; wants_root = refl })),
            record { wants = λ _. refl; converts = λ own. not_both own (member_none 0); holds = fresh_holds op },
          )

  -- Going on: the slot holds what it took and stands again.
  pub move_keeps : (op : Op) (z : Stand) → Opened st s op → grants st s ≡ true
      → first_way z.op ≡ first_way op
      → Stance st.k (page_at st.k ws) inv.height inv.tree z
      → Locked (page_at st.k ws) z
      → ((p : ℕ) → member p (holding z) ≡ true → Takable st s (slot_of z) p)
      → Invariant (goes_on st s z) ws
  unfolding goes_on
  move_keeps op z runs granted asked stance locked from =
      slot_anew (slot_of z) _ _ ws inv.height inv.tree
      (goes_on_shaped st inv.shaped inv.sound s b z opened)
      (goes_on_sound st inv.shaped inv.sound s b z opened well.limits well.below well.different
      wanted.converts wanted.can (due_held_can z wanted.third locked.holds)
      (λ u c n p m. taking_fits st inv.sound s b granted (slot_of z) p (from p m) u c n))
      inv.forms
      inv.no_blank
      (λ op' e. let same : z.op ≡ op' = same_op e in (
        subst (λ (o : Op). key_of o < word_range) same key,
        ap blank_tag (sym same) ∙ same_tag z.op op asked ∙ inv.tags s op b runs,
        subst (λ (o : Op). StandsIn st.k ws inv.height inv.tree o (slot_of z)) same here,
      ))
      (λ u op' c n rs. (inv.stands u op' c rs, inv.locked u op' c rs))
    where
      opened : open_at st s ≡ true
      opened = ap is_open runs

      key : key_of z.op < word_range
      key = subst (λ (y : ℕ). y < word_range) (sym (same_key z.op op asked)) (inv.keys s op b runs)

      seen : Scene st.k st.n ws inv.height inv.tree z
      seen = record {
        k_least = inv.sound.k_least;
        k_most = inv.sound.k_most;
        n_most = inv.sound.n_most;
        key = key;
        forms = inv.forms;
        no_blank = inv.no_blank;
        stance = stance;
        locked = locked;
      }

      well : WellHeld st.n inv.height inv.tree z
      well = well_held st.k st.n ws inv.height inv.tree z seen

      wanted : WantedRightly z
      wanted = wanted_rightly st.k st.n ws inv.height inv.tree z seen

      here : StandsIn st.k ws inv.height inv.tree z.op (slot_of z)
      here =
          subst (λ (y : Stand). Stance st.k (page_at st.k ws) inv.height inv.tree y × Locked (page_at st.k ws) y) (sym (stand_new z (paired z locked.holds))) (stance, locked)

  -- What an operation writes as it ends no other slot holds: it has ξ-locks on what it writes.
  pub others_unwritten : (op : Op) (a : Answer) (writes : List Write) → Opened st s op → grants st s ≡ true
      → Ended st.k st.n ws inv.height inv.tree (stand_of op (slot_at st s)) a writes
      → (u : ℕ) (op' : Op) → u < slot_count → u ≢ s → Opened st u op' → (q : ℕ) → holds_at st u q ≡ true → member q (written_pages writes) ≡ false
  others_unwritten op a writes runs granted e u op' c n rs q m =
      false_if_not_true (member q (written_pages writes)) (λ w. ⊎_elim
      (λ h. not_both m (alone h))
      (λ o. let some = well.pages q (member_there (want_at st u) q (held (slot_at st u)) m) in absurd (omega arith))
      (e.only q w))
    where
      well : WellHeld st.n inv.height inv.tree (stand_of op' (slot_at st u))
      well = well_held st.k st.n ws inv.height inv.tree (stand_of op' (slot_at st u)) (scene st ws inv u op' c rs)

      alone : Writable (stand_of op (slot_at st s)) q → holds_at st u q ≡ false
      alone (inl (w, xi)) = subst (λ (p : ℕ). holds_at st u p ≡ false) (sym w) (wanted_alone st inv.sound s u c n granted xi)
      alone (inr (h, xi)) = update_alone st inv.sound s u q b c (λ i. n (sym i)) xi h

  -- Ending: the slot closes, and what it wrote no other slot holds.
  pub end_keeps : (op : Op) (a : Answer) (writes : List Write) → Opened st s op → grants st s ≡ true
      → Ended st.k st.n ws inv.height inv.tree (stand_of op (slot_at st s)) a writes
      → Invariant (closes st s) (applied st.k writes ws)
  unfolding closes
  end_keeps op a writes runs granted e =
      slot_anew closed_slot _ _ (applied st.k writes ws) e.leads.height e.leads.tree
      (closes_shaped st inv.shaped inv.sound s b opened)
      (closes_sound st inv.shaped inv.sound s b opened)
      (pool_leads st.k st.n ws inv.height inv.tree writes e.entries inv.forms e.leads)
      (ended_unblank st.k st.n ws inv.height inv.tree (stand_of op (slot_at st s)) a writes (inv.tags s op b runs) inv.no_blank e)
      (λ op' c. absurd (closed_open c))
      (λ u op' c n rs. subst
      (λ (m : ℕ → Page). Stance st.k m e.leads.height e.leads.tree (stand_of op' (slot_at st u)) × Locked m (stand_of op' (slot_at st u)))
      (sym memory_after_lem) (
        others_keep st.k st.n (page_at st.k ws) inv.height inv.tree writes e.entries (stand_of op' (slot_at st u))
            inv.sound.k_least (inv.keys u op' c rs) inv.forms.forms e.leads (others_unwritten op a writes runs granted e u op' c n rs) (inv.stands u op' c rs),
        others_wait st.k st.n (page_at st.k ws) inv.height inv.tree writes e.entries (stand_of op' (slot_at st u))
            (inv.keys u op' c rs) inv.forms.forms e.leads (others_unwritten op a writes runs granted e u op' c n rs) (inv.locked u op' c rs),
      ))
    where
      opened : open_at st s ≡ true
      opened = ap is_open runs

      memory_after_lem : page_at st.k (applied st.k writes ws) ≡ memory_after (page_at st.k ws) writes
      memory_after_lem = λ i q. applied_memory st.k st.n writes ws (fit_writes st.k st.n writes e.leads.fitting e.leads.inside) inv.forms.whole q i

-- ---- a step

-- What a step of slot s comes to in a run.
pub data StepOf (st : State) (ws : List ℕ) (inv : Invariant st ws) (s : ℕ) : Type 0 where
  no_slot : slot_count ≤ s → stepped st ws s ≡ left BadSlot st ws → StepOf st ws inv s
  idle : s < slot_count → open_at st s ≡ false → stepped st ws s ≡ left SlotIdle st ws → StepOf st ws inv s
  waits : (op : Op) → s < slot_count → Opened st s op → grants st s ≡ false → stepped st ws s ≡ left Waiting st ws → StepOf st ws inv s
  -- the slot goes on: it stands again, and holds what the rules say
  onward : (op : Op) (z : Stand) → s < slot_count → Opened st s op → grants st s ≡ true
      → stepped st ws s ≡ left Moved (goes_on st s z) ws
      → first_way z.op ≡ first_way op
      → Stance st.k (page_at st.k ws) inv.height inv.tree z
      → Locked (page_at st.k ws) z
      → Takes st.k (page_at st.k ws) (stand_of op (slot_at st s)) z
      → StepOf st ws inv s
  -- the operation ends
  over : (op : Op) (a : Answer) (writes : List Write) → s < slot_count → Opened st s op → grants st s ≡ true
      → stepped st ws s ≡ left a (closes st s) (applied st.k writes ws)
      → Ended st.k st.n ws inv.height inv.tree (stand_of op (slot_at st s)) a writes
      → StepOf st ws inv s

module _ (st : State) (ws : List ℕ) (inv : Invariant st ws) (s : ℕ) where
  -- the refusals BadState and BadPool are not heard
  past : stepped st ws s ≡ cond (not (ltb s slot_count)) (left BadSlot st ws) (stepped_task st ws s (slot_at st s) (slot_at st s).task)
  unfolding stepped
  past =
      cond-false (left BadState st ws) _ (not_of_true (facts_sound st inv.sound))
      ∙ cond-false (left BadPool st ws) _ (not_of_true (eq-eqb (length ws) (pool_length st.k st.n) inv.forms.whole))

  within : s < slot_count → stepped st ws s ≡ stepped_task st ws s (slot_at st s) (slot_at st s).task
  within b = past ∙ cond-false (left BadSlot st ws) _ (not_of_true (lt-ltb s slot_count b))

  comes_to : (op : Op) → (b : s < slot_count) → Opened st s op → grants st s ≡ true
      → stepped st ws s ≡ acted st ws s (verdict st.k st.n ws (stand_of op (slot_at st s)))
      → Comes st.k st.n ws inv.height inv.tree (stand_of op (slot_at st s))
      → StepOf st ws inv s
  comes_to op b runs g e (moves z v same stance locked takes) = onward op z b runs g (e ∙ ap (acted st ws s) v) same stance locked takes
  comes_to op b runs g e (stops a writes v ended) = over op a writes b runs g (e ∙ ap (acted st ws s) v) ended

  -- a granted step does what it comes to by the rule
  pub granted_does : (op : Op) → s < slot_count → Opened st s op → grants st s ≡ true
      → stepped st ws s ≡ acted st ws s (verdict st.k st.n ws (stand_of op (slot_at st s)))
  granted_does op b runs g = within b ∙ ap (stepped_task st ws s (slot_at st s)) runs ∙ cond-true _ (left Waiting st ws) g

  by_task : (b : s < slot_count) (task : Task) → (slot_at st s).task ≡ task → StepOf st ws inv s
  by_task b Closed e = idle b (ap is_open e) (within b ∙ ap (stepped_task st ws s (slot_at st s)) e)
  by_task b (Open op) e =
      let told : stepped st ws s ≡ stepped_task st ws s (slot_at st s) (Open op) = within b ∙ ap (stepped_task st ws s (slot_at st s)) e in
      ⊎_elim
      (λ g. comes_to op b e g (granted_does op b e g)
      (granted_comes st.k st.n ws inv.height inv.tree (stand_of op (slot_at st s)) (scene st ws inv s op b e)))
      (λ g. waits op b e g (told ∙ cond-false (acted st ws s (verdict st.k st.n ws (stand_of op (slot_at st s)))) (left Waiting st ws) g))
      (true_or_false (grants st s))

  pub step_of : StepOf st ws inv s
  step_of =
      ⊎_elim
      (λ y. by_task (ltb-true s slot_count y) (slot_at st s).task refl)
      (λ f. no_slot (ltb-false s slot_count f) (past ∙ cond-true (left BadSlot st ws) _ (not_of_false f)))
      (true_or_false (ltb s slot_count))

-- ---- what a slot holds that goes on

-- the conversions of two lists of pages are those of both together
xi_append : (p : ℕ) (pages more : List ℕ) (locks others : List Under) → length locks ≡ length pages
    → with_xi p pages locks ++ with_xi p more others ≡ with_xi p (pages ++ more) (locks ++ others)
unfolding with_xi
xi_append p [] more [] others e = refl
xi_append p [] more (u ∷ locks) others e = absurd (omega (arith, e))
xi_append p (q ∷ pages) more [] others e = absurd (omega (arith, e))
xi_append p (q ∷ pages) more (u ∷ locks) others e =
    ap (λ (ls : List Under). xi_on p q u ∷ ls) (xi_append p pages more locks others (omega (arith, e)))

-- What it keeps it holds under the kind that it held it under, and what it takes under the kind that it wanted it with.
module _ (st : State) (s : ℕ) (op : Op) (runs : Opened st s op) (memory : ℕ → Page) (was : Locked memory (stand_of op (slot_at st s))) (k : ℕ) (z : Stand) (now : HoldsWith z) where
  abbrev old : Stand
  old = stand_of op (slot_at st s)

  size : length (holding_locks old) ≡ length (holding old)
  size =
      let p = paired old was.holds in
      length-append old.locks old.sidelocks ∙ omega (arith, p.path, p.beside, length-append old.path old.beside)

  kind : (p : ℕ) → lock_held (slot_of z) p ≡ lock_among p (holding z) (holding_locks z)
  kind p = lock_new z (paired z now) p

  -- it holds one page more
  adds : holding z ≡ holding old ++ old.want ∷ [] → holding_locks z ≡ holding_locks old ++ under old.lock ∷ []
      → (p : ℕ) → member p (holding z) ≡ true → Takable st s (slot_of z) p
  unfolding lock_among
  adds pages locks p m =
      let told : lock_held (slot_of z) p ≡ lock_among p (holding old ++ old.want ∷ []) (holding_locks old ++ under old.lock ∷ [])
      = kind p ∙ ap₂ (lock_among p) pages locks in
      by_test (member p (holding old))
      (λ h. inl (h, told ∙ among_first p (old.want ∷ []) (under old.lock ∷ []) (holding old) (holding_locks old) size h))
      (λ f.
      let same : p ≡ old.want
      = ⊎_elim (λ h. not_both h f) (λ e. e) (member_last p (holding old) old.want (sym (ap (member p) pages) ∙ m)) in
      inr (
        same,
        told
            ∙ among_behind p (old.want ∷ []) (under old.lock ∷ []) (holding old) (holding_locks old) size f
            ∙ cond-true old.lock (lock_among p [] []) (eq-eqb p old.want same),
      ))

  -- it holds one page alone
  alone : holding z ≡ old.want ∷ [] → holding_locks z ≡ under old.lock ∷ []
      → (p : ℕ) → member p (holding z) ≡ true → Takable st s (slot_of z) p
  unfolding lock_among
  alone pages locks p m =
      let same : p ≡ old.want = member_one p old.want (sym (ap (member p) pages) ∙ m) in
      inr (same, kind p ∙ ap₂ (lock_among p) pages locks ∙ cond-true old.lock (lock_among p [] []) (eq-eqb p old.want same))

  -- it holds the same pages, the wanted one with ξ
  turned : Converts old z → (p : ℕ) → member p (holding z) ≡ true → Takable st s (slot_of z) p
  turned g p m =
      let pages : holding z ≡ holding old = ap₂ (λ (ps ss : List ℕ). ps ++ ss) g.still g.beside in
      let locks : holding_locks z ≡ with_xi old.want (holding old) (holding_locks old)
      = ap₂ (λ (ls us : List Under). ls ++ us) g.locks g.sidelocks
      ∙ xi_append old.want old.path old.beside old.locks old.sidelocks (paired old was.holds).path in
      let held : member p (holding old) ≡ true = sym (ap (member p) pages) ∙ m in
      let told : lock_held (slot_of z) p ≡ lock_among p (holding old) (with_xi old.want (holding old) (holding_locks old))
      = kind p ∙ ap₂ (lock_among p) pages locks in
      by_test (eqb p old.want)
      (λ e.
      let same = eqb-true p old.want e in
      inr (
        same,
        told
            ∙ ap (λ (q : ℕ). lock_among q (holding old) (with_xi old.want (holding old) (holding_locks old))) same
            ∙ xi_there old.want (holding old) (holding_locks old) size g.held
            ∙ sym (was.converts g.held),
      ))
      (λ o. inl (held, told ∙ xi_elsewhere old.want p (holding old) (holding_locks old) (eqb-false p old.want o)))

  takable : Takes k memory old z → (p : ℕ) → member p (holding z) ≡ true → Takable st s (slot_of z) p
  takable (inl (inl g)) p m =
      alone (ap₂ (λ (ps ss : List ℕ). ps ++ ss) g.holds g.still) (ap₂ (λ (ls us : List Under). ls ++ us) g.locks g.sidelocks) p m
  takable (inl (inr (inl g))) p m =
      let none : old.sidelocks ≡ [] = no_length old.sidelocks ((paired old was.holds).beside ∙ ap length g.no_siblings) in
      adds
      (ap₂ (λ (ps ss : List ℕ). ps ++ ss) g.holds g.still
      ∙ append-nil (old.path ++ old.want ∷ [])
      ∙ ap (λ (ps : List ℕ). ps ++ old.want ∷ []) (sym (append-nil old.path) ∙ ap (λ (ss : List ℕ). old.path ++ ss) (sym g.no_siblings)))
      (ap₂ (λ (ls us : List Under). ls ++ us) g.locks g.sidelocks
      ∙ append-nil (old.locks ++ under old.lock ∷ [])
      ∙ ap (λ (ls : List Under). ls ++ under old.lock ∷ []) (sym (append-nil old.locks) ∙ ap (λ (us : List Under). old.locks ++ us) (sym none)))
      p m
  takable (inl (inr (inr (inl g)))) p m =
      adds
      (ap₂ (λ (ps ss : List ℕ). ps ++ ss) g.still g.holds ∙ sym (append_assoc old.path old.beside (old.want ∷ [])))
      (ap₂ (λ (ls us : List Under). ls ++ us) g.locks g.sidelocks ∙ sym (append_assoc old.locks old.sidelocks (under old.lock ∷ [])))
      p m
  takable (inl (inr (inr (inr g)))) p m = not_both (subst (λ (y : Stand). member p (holding y) ≡ true) g.fresh m) (member_none p)
  takable (inr g) p m = turned g p m

-- A step keeps what holds of a run.
pub step_keeps : (st : State) (ws : List ℕ) (inv : Invariant st ws) (s : ℕ) → StepOf st ws inv s → Invariant (stepped st ws s).state (stepped st ws s).words
step_keeps st ws inv s (no_slot b e) = subst (λ (r : Left). Invariant r.state r.words) (sym e) inv
step_keeps st ws inv s (idle b c e) = subst (λ (r : Left). Invariant r.state r.words) (sym e) inv
step_keeps st ws inv s (waits op b runs g e) = subst (λ (r : Left). Invariant r.state r.words) (sym e) inv
step_keeps st ws inv s (onward op z b runs g e same stance locked takes) =
    subst (λ (r : Left). Invariant r.state r.words) (sym e)
    (move_keeps st ws inv s b op z runs g same stance locked (takable st s op runs (page_at st.k ws) (inv.locked s op b runs) st.k z locked.holds takes))
step_keeps st ws inv s (over op a writes b runs g e ended) =
    subst (λ (r : Left). Invariant r.state r.words) (sym e) (end_keeps st ws inv s b op a writes runs g ended)
