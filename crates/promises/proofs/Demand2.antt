-- Demand 2 holds: it is read off what holds after every call of a run.
use Prim.Native.Nat.{ℕ, suc, ◌-◌, ◌*◌, ◌≤◌, ◌<◌}
use mathlib.Core.Bool.{Bool, true, false, not, ◌&&◌, ◌||◌, false≢true}
use mathlib.Core.Logic.{◌⊎◌, inl, inr, ⊎_elim, ◌≢◌}
use mathlib.Core.List.{List, [], ◌∷◌, ◌++◌, map, reverse}
use mathlib.Core.Path.{◌≡◌, refl, sym, ap, ap₂, subst, ◌∙◌}
use native.Mathlib.Omega.{arith}
use lib.Dec.{leb, ltb, eqb}
use lib.ListN.{length, take, length-append}
use borrow.Author.Tests.{leb-true, eqb-true, eqb-false, ne_eqb, ltb-true, lt-ltb, le-ltb, not-true}
use Rattle.ground.specs.Limits.{slot_count}
use Rattle.ground.specs.Tests.{member, distinct, filled}
use Rattle.ground.proofs.Bools.{not_both, false_if_not_true, and_first, and_second, and_both, not_of_false, or_first, or_second, or_cases}
use Rattle.ground.proofs.Choice.{cond-true, cond-false}
use Rattle.ground.proofs.Tests.{member_here, member_none, member_append, member_inside, member_at}
use Rattle.page.specs.Words.{Page, μ, is_leaf}
use Rattle.page.specs.Place.{place, pointer}
use Rattle.page.specs.Short.{has_right, neighbour}
use Rattle.pool.specs.Pool.{Write, words_of, applied, page_at}
use Rattle.pool.proofs.WriteLaws.{words_of_applied_other}
use Rattle.slots.specs.declared.Op.{Op}
use Rattle.slots.specs.declared.Op.TheVariants.{Search, Insert, Delete, Next, Regrade}
use Rattle.slots.specs.declared.Way.TheVariants.{First, Second, Third}
use Rattle.slots.specs.declared.Lock.{Lock}
use Rattle.slots.specs.declared.Task.{Task}
use Rattle.slots.specs.declared.Task.TheVariants.{Closed, Open}
use Rattle.slots.specs.declared.Slot.{Slot}
use Rattle.slots.specs.declared.State.{State}
use Rattle.slots.specs.declared.Lock.TheVariants.{Xi}
use Rattle.slots.specs.declared.Outcome.{Outcome}
use Rattle.slots.specs.declared.Answer.{Answer}
use Rattle.slots.specs.declared.Answer.TheVariants.{Waiting, Moved, NoRoom, BadSlot, SlotIdle}
use Rattle.slots.specs.Parts.{is_delete, is_next, is_second, is_third, first_way, held_lock, converting, goes_beside, is_open, held, held_locks, path_of, beside_of, Stand, fresh_stand, holding, stand_of, slot_of, slot_at, open_at, want_at, holds_at, waiting_order, closed_slot, Opened}
use Rattle.slots.specs.Locks.{lock_held_at, lock_wanted_at, clash}
use Rattle.slots.specs.Sound.{within_limits}
use Rattle.slots.specs.Heard.{number_of, changes_nothing, is_one_of, counted_answers, ending}
use Rattle.slots.specs.Report.{reported}
use Rattle.slots.specs.Grant.{grants, older_than}
use Rattle.slots.specs.Book.{begins, goes_on, closes}
use Rattle.slots.specs.Begin.{begun}
use Rattle.slots.proofs.SoundFacts.{facts_sound}
use Rattle.slots.proofs.LockLaws.{among_once, third_not_second}
use Rattle.slots.proofs.OrderLaws.{order_has_room, leaving_between, waiting_begins, waiting_requeued, waiting_closes}
use Rattle.slots.proofs.Keeping.{Paired, slot_here, slot_other, held_new, stand_new}
use Rattle.footing.specs.Granted.{Verdict, broken, goes, ends, is_safe, answered_at_once, stays_second, in_turn, pages_in_turn, at_its_leaf}
use Rattle.footing.specs.Fitting.{verdict}
use Rattle.footing.proofs.KeepLaws.{second_safe, regrade_safe}
use Rattle.index.specs.Step.{Left, left, acted, stepped}
use Rattle.tree.specs.Tree.{Tr, entries_of}
use Rattle.tree.specs.Change.{written_pages}
use Rattle.tree.proofs.Words.{fit_writes, outside_words}
use Rattle.runs.specs.Calls.{Call, begin, step, report, called, answers_of}
use Rattle.runs.specs.Run.{run_from}
use Rattle.runs.specs.Stance.{Safe, Converting, Stance, Takes, held_due}
use Rattle.runs.specs.Waits.{Barred}
use Rattle.runs.specs.Step.{Ended}
use Rattle.runs.proofs.Invariant.{Invariant, scene}
use Rattle.runs.proofs.Placing.{one_held, next_beside, deletes_beside, beside_first, gathers_new}
use Rattle.runs.proofs.Locking.{paired, held_with}
use Rattle.runs.proofs.Turning.{scene_ordered, turn_once, in_turn_lem}
use Rattle.runs.proofs.Stepping.{turned_all}
use Rattle.runs.proofs.Calls.{StepOf, no_slot, idle, waits, onward, over, step_of, granted_does}
use Rattle.runs.proofs.Runs.{call_keeps, call_numbers, BeginOf, no_such, busy, blank, begins_so, begin_of, ReportOf, no_page, tells, report_of, holds_after, numbers_after}
use Rattle.runs.proofs.Barring.{coming_above}
use Rattle.runs.proofs.Progress.{barred, barred_waits, older_other, older_waits}
use Rattle.runs.proofs.Older.{older_before, before_older}
use Rattle.runs.proofs.PlainLaws.{none_below, below_none}
use Rattle.runs.proofs.Verdicts.{EndsIf, still_by, coming_stays}
use Rattle.runs.proofs.Measure.{Where, at_start, on_the_way, at_the_leaf, in_turns}
use Rattle.runs.proofs.MeasureLaws.{start_above, low_above, where_slot}
use Rattle.runs.proofs.Agreement.{plain_counted}
use Rattle.promises.specs.Terms.{Exactly, HoldsAs, GoesWith, BySecond, Converted, SiblingsDone}
use Rattle.promises.specs.Demand2.{AfterEveryCall, Anew, HasXi, Seen, InTheWay, StepLocks, CallLocks, Words, Demand2Holds}
use Rattle.promises.proofs.Terms.{in_member, together_told, clash_apart, apart_clash, kind_is, second_named, named_second, third_named, named_third, converts_here, here_converts, holds_as, as_held, sound_kind, wants_as}
use Rattle.promises.proofs.Known.{known_told, known_from, turn_alone, turn_both}
use Rattle.promises.proofs.SoundState.{sound_is}
use Rattle.promises.proofs.Seen.{step_seen}

-- ---- an update by the second way ends

-- it does not begin again: not on page 0, and only where its key is answered at once or its leaf is safe by the first way
ends_told : (test : Bool) (st : State) (ws : List ℕ) (s : ℕ) (v : Verdict) → EndsIf test v → is_one_of (acted st ws s v).answer ending ≡ true → test ≡ true
unfolding member
ends_told test st ws s broken h e = absurd (false≢true e)
ends_told test st ws s (goes z) h e = absurd (false≢true e)
ends_told test st ws s (ends a writes) h e = h

-- a step that is answered so has ended by the rule
verdict_ends : (st : State) (ws : List ℕ) (s : ℕ) (v : Verdict) → is_one_of (acted st ws s v).answer ending ≡ true
    → (a : Answer) × (writes : List Write) × (v ≡ ends a writes)
unfolding member
verdict_ends st ws s broken e = absurd (false≢true e)
verdict_ends st ws s (goes z) e = absurd (false≢true e)
verdict_ends st ws s (ends a writes) e = (a, writes, refl)

-- ---- an update by the third way ends

-- it has ξ on all that it holds
all_turned : (st : State) (ws : List ℕ) (inv : Invariant st ws) (s : ℕ) (op : Op) → s < slot_count → Opened st s op
    → converting (stand_of op (slot_at st s)) ≡ true → (a : Answer) (writes : List Write) → verdict st.k st.n ws (stand_of op (slot_at st s)) ≡ ends a writes
    → (q : ℕ) → holds_at st s q ≡ true → HasXi st s q
all_turned st ws inv s op b runs own a writes is q h =
    let here = scene st ws inv s op b runs in
    let z : Stand = stand_of op (slot_at st s) in
    ⊎_elim
    (λ g. not_both own (gathers_new st.k st.n ws inv.height inv.tree z here g))
    (λ c.
    ⊎_elim inl (λ (m, x). inr (subst (HoldsAs st s q) x (holds_as st s q m)))
    (turned_all st.k st.n ws inv.height inv.tree z here c a writes is q h))
    (inv.stands s op b runs)

-- in a run it stands above its leaf
pub second_above : (st : State) (ws : List ℕ) (inv : Invariant st ws) (s : ℕ) (op : Op) → s < slot_count → Opened st s op → is_second op ≡ true
    → at_its_leaf (page_at st.k ws) (reverse (path_of (slot_at st s))) ≡ false
second_above st ws inv s op b runs second = above (where_slot st ws inv s op b runs)
  where
    above : Where (page_at st.k ws) inv.height inv.tree (stand_of op (slot_at st s)) → at_its_leaf (page_at st.k ws) (reverse (path_of (slot_at st s))) ≡ false
    above (at_start _ none _ _) = start_above (page_at st.k ws) inv.height inv.tree (path_of (slot_at st s)) none
    above (on_the_way _ low stands _ _) = low_above (page_at st.k ws) inv.height inv.tree (path_of (slot_at st s)) low stands
    above (at_the_leaf _ _ _ beside _) = not_both second (beside_first op beside)
    above (in_turns _ turned) = not_both second (third_not_second op turned.third)

stays_second_lem : (st : State) (ws : List ℕ) (inv : Invariant st ws) (s : ℕ) (op : Op) → s < slot_count → Opened st s op → grants st s ≡ true
    → is_one_of (stepped st ws s).answer ending ≡ true → BySecond op
    → (want_at st s ≢ 0)
    × ((answered_at_once op (page_at st.k ws (want_at st s)).entries ≡ true) ⊎ (is_safe (first_way op) st.k (page_at st.k ws (want_at st s)) ≡ true))
stays_second_lem st ws inv s op b runs g e second =
    let memory : ℕ → Page = page_at st.k ws in
    let z : Stand = stand_of op (slot_at st s) in
    let want : ℕ = want_at st s in
    let is-second : is_second op ≡ true = named_second op second in
    let still : still_by op st.k memory want ≡ true
    = ends_told (still_by op st.k memory want) st ws s (verdict st.k st.n ws z) (coming_stays st.k st.n ws z (second_above st ws inv s op b runs is-second))
    (subst (λ (r : Left). is_one_of r.answer ending ≡ true) (granted_does st ws inv s op b runs g) e) in
    let stays : stays_second op st.k memory want ≡ true
    = ⊎_elim (λ n. not_both is-second (not-true (is_second op) n)) (λ t. t) (or_cases (not (is_second op)) (stays_second op st.k memory want) still) in
    let at_once : Bool = answered_at_once op (memory want).entries in
    let safe : Bool = is_safe (first_way op) st.k (memory want) in (
      eqb-false want 0 (not-true (eqb want 0) (and_first (not (eqb want 0)) (at_once || safe) stays)),
      or_cases at_once safe (and_second (not (eqb want 0)) (at_once || safe) stays),
    )

-- ---- after every call

-- "a closed slot holds nothing"
closed_empty : (task : Task) (depth beside : ℕ) (path siblings : List ℕ) → within_limits task depth beside ≡ true → is_open task ≡ false → take depth path ++ take beside siblings ≡ []
closed_empty Closed depth beside path siblings h c =
    let most = and_first (leb depth 0 && leb beside 0) (eqb beside 0 || ltb beside depth) h in
    let d : depth ≡ 0 = omega (arith, leb-true depth 0 (and_first (leb depth 0) (leb beside 0) most)) in
    let e : beside ≡ 0 = omega (arith, leb-true beside 0 (and_second (leb depth 0) (leb beside 0) most)) in
    ap₂ (λ (i j : ℕ). take i path ++ take j siblings) d e
closed_empty (Open op) depth beside path siblings h c = not_both refl c

-- who goes straight takes no siblings and asks for no next lot, and so does everybody by the second way
pub straight_stays : (op : Op) → goes_beside op ≡ false → (is_delete op ≡ false) × (is_next op ≡ false)
straight_stays op straight = (
  false_if_not_true (is_delete op) (λ d. not_both (deletes_beside op d) straight),
  false_if_not_true (is_next op) (λ n. not_both (next_beside op n) straight),
)

pub second_straight : (op : Op) → is_second op ≡ true → goes_beside op ≡ false
second_straight op second = false_if_not_true (goes_beside op) (λ b. not_both second (beside_first op b))

-- who goes straight converts its path alone
turns_alone : (k : ℕ) (memory : ℕ → Page) (l : ℕ) (t : Tr l) (z : Stand) → (c : Converting k memory l t z) → goes_beside z.op ≡ false → z.beside ≡ []
turns_alone k memory l t z c straight = by_op z.op straight c.third (known_told k memory z c.leaf c.fathers c.known).1
  where
    by_op : (op : Op) → goes_beside op ≡ false → is_third op ≡ true → SiblingsDone op k memory (c.leaf ∷ c.fathers) z.beside → z.beside ≡ []
    by_op (Search x) straight third none = none
    by_op (Insert x v way) straight third none = none
    by_op (Delete x First) straight third none = not_both third refl
    by_op (Delete x Second) straight third none = not_both third refl
    by_op (Delete x Third) straight third none = not_both refl straight
    by_op (Next x) straight third none = none
    by_op (Regrade x v way) straight third none = none

-- an operation for which every page is safe, and which takes nothing beside its path, holds one page
holds_one : (k : ℕ) (memory : ℕ → Page) (l : ℕ) (t : Tr l) (z : Stand) → ((P : Page) → is_safe z.op k P ≡ true) → goes_beside z.op ≡ false
    → Stance k memory l t z → length (holding z) ≤ 1
holds_one k memory l t z safe straight (inl (inl s)) =
    omega (arith, length-append z.path z.beside, ap length s.no_path, ap length s.no_siblings)
holds_one k memory l t z safe straight (inl (inr (inl c))) =
    let few = one_held z.op k memory z.path safe c.rightly in
    omega (arith, length-append z.path z.beside, ap length c.no_siblings)
holds_one k memory l t z safe straight (inl (inr (inr (inl b)))) = not_both (deletes_beside z.op b.deletes) straight
holds_one k memory l t z safe straight (inl (inr (inr (inr c)))) = not_both (next_beside z.op c.asks_next) straight
holds_one k memory l t z safe straight (inr c) =
    let few = one_held z.op k memory z.path safe c.rightly in
    omega (arith, length-append z.path z.beside, ap length (turns_alone k memory l t z c straight))

-- the order of conversion names every held page once
ordered_held : (st : State) (ws : List ℕ) (inv : Invariant st ws) (s : ℕ) (op : Op) → s < slot_count → Opened st s op
    → (distinct (pages_in_turn (stand_of op (slot_at st s))) ≡ true)
    × (converting (stand_of op (slot_at st s)) ≡ true → member (want_at st s) (pages_in_turn (stand_of op (slot_at st s))) ≡ true)
ordered_held st ws inv s op b runs =
    let z : Stand = stand_of op (slot_at st s) in
    let o = scene_ordered st.k st.n ws inv.height inv.tree z (scene st ws inv s op b runs) in
    (turn_once z o, λ own. in_turn_lem z o (want_at st s) ∙ own)

after_call : (st : State) (ws : List ℕ) → Invariant st ws → AfterEveryCall st.k st.n st ws
unfolding path_of beside_of
after_call st ws inv = record {
  same_k = refl;
  same_n = refl;
  height = inv.height;
  tree = inv.tree;
  forms = inv.forms;
  free = outside_words st.k st.n ws inv.height inv.tree inv.forms;
  sound_state = facts_sound st inv.sound;
  locks = λ s u p x y b c n h g. ((sound_is st).0 (facts_sound st inv.sound)).together s u p x y b c n h g;
  stands = inv.stands;
  closed = λ s b c. closed_empty (slot_at st s).task (slot_at st s).depth (slot_at st s).breadth (slot_at st s).path (slot_at st s).beside (inv.sound.slot s b).limits c;
  held_as = held_as;
  turns = λ s op b runs c. (((sound_is st).0 (facts_sound st inv.sound)).converts s op b runs c).third;
  wants_as = λ s op b runs. wants_as (page_at st.k ws) (stand_of op (slot_at st s)) (inv.locked s op b runs).converts (inv.locked s op b runs).wants;
  one_held = λ s x v way b runs.
      holds_one st.k (page_at st.k ws) inv.height inv.tree (stand_of (Regrade x v way) (slot_at st s)) (λ P. regrade_safe st.k P {x = x} {v = v} {way = way} refl) refl
      (inv.stands s (Regrade x v way) b runs);
  second_held = λ s op b runs second.
      holds_one st.k (page_at st.k ws) inv.height inv.tree (stand_of op (slot_at st s)) (λ P. second_safe op st.k P (named_second op second))
      (second_straight op (named_second op second)) (inv.stands s op b runs);
  second_above = λ s p op b runs second h. no_leaf s p op b runs second h (inv.stands s op b runs);
}
  where
    -- the kind that is due
    held_as : (s p : ℕ) (op : Op) (lock : Lock) → s < slot_count → Opened st s op → HoldsAs st s p lock
        → (Converted (stand_of op (slot_at st s)) p → lock ≡ Xi) × ((Converted (stand_of op (slot_at st s)) p → ⊥) → GoesWith op lock)
    held_as s p op lock b runs h =
        let z : Stand = stand_of op (slot_at st s) in
        let due : lock ≡ held_due z p
        = sym (sound_kind st inv.sound s p lock b h) ∙ held_with z (inv.locked s op b runs).holds p (as_held st s p lock h) in
        let ordered = ordered_held st ws inv s op b runs in (
          λ c. due ∙ cond-true Xi (held_lock op) (and_both (here_converts z c.0) (before_older z.want p (pages_in_turn z) ordered.0 c.1)),
          λ never. (kind_is op lock).0 (due ∙ cond-false Xi (held_lock op)
              (false_if_not_true (converting z && member p (older_than z.want (pages_in_turn z))) (λ both.
              let own = and_first (converting z) (member p (older_than z.want (pages_in_turn z))) both in
              never (converts_here z own, older_before z.want p (pages_in_turn z) (ordered.1 own) (and_second (converting z) (member p (older_than z.want (pages_in_turn z))) both))))),
        )

    no_leaf : (s p : ℕ) (op : Op) → s < slot_count → Opened st s op → BySecond op → holds_at st s p ≡ true
        → Stance st.k (page_at st.k ws) inv.height inv.tree (stand_of op (slot_at st s)) → (page_at st.k ws p).level ≢ 1
    no_leaf s p op b runs second h (inl (inl e)) =
        not_both h (ap₂ (λ (ps qs : List ℕ). member p (ps ++ qs)) e.no_path e.no_siblings ∙ member_none p)
    no_leaf s p op b runs second h (inl (inr (inl c))) =
        coming_above st.k st.n (page_at st.k ws) inv.height inv.tree inv.sound.k_least inv.forms.forms (stand_of op (slot_at st s)) (inv.keys s op b runs) c p h
    no_leaf s p op b runs second h (inl (inr (inr (inl e)))) =
        not_both (deletes_beside op e.deletes) (second_straight op (named_second op second))
    no_leaf s p op b runs second h (inl (inr (inr (inr c)))) =
        not_both (next_beside op c.asks_next) (second_straight op (named_second op second))
    no_leaf s p op b runs second h (inr c) = not_both (named_second op second) (third_not_second op c.third)

-- ---- what one call takes and gives up

-- who goes on holds afterwards the page that was wanted, or has begun again
abbrev Goes : Stand → Stand → Type 0
Goes z z' = ((z'.op ≡ z.op) × (member z.want (holding z') ≡ true)) ⊎ ((is_second z.op ≡ true) × (z' ≡ fresh_stand (first_way z.op)))

takes_wanted : (k : ℕ) (memory : ℕ → Page) (z z' : Stand) → Takes k memory z z' → Goes z z'
takes_wanted k memory z z' (inl (inl g)) =
    inl (
      g.same,
      member_append z.want z'.path z'.beside
          ∙ or_first (member z.want z'.beside) (ap (member z.want) g.holds ∙ member_here z.want []),
    )
takes_wanted k memory z z' (inl (inr (inl g))) =
    inl (
      g.same,
      member_append z.want z'.path z'.beside
          ∙ or_first (member z.want z'.beside) (ap (member z.want) g.holds ∙ member_inside z.want z.path []),
    )
takes_wanted k memory z z' (inl (inr (inr (inl g)))) =
    inl (
      g.same,
      member_append z.want z'.path z'.beside
          ∙ or_second (member z.want z'.path) (ap (member z.want) g.holds ∙ member_inside z.want z.beside []),
    )
takes_wanted k memory z z' (inl (inr (inr (inr g)))) = inr (g.second, g.fresh)
takes_wanted k memory z z' (inr g) = inl (g.same, ap₂ (λ (ps qs : List ℕ). member z.want (ps ++ qs)) g.still g.beside ∙ g.held)

-- by the first way an update holds with ξ
first_excludes : (op : Op) → is_second op ≡ true → held_lock (first_way op) ≡ Xi
first_excludes (Search x) e = not_both e refl
first_excludes (Insert x v way) e = refl
first_excludes (Delete x way) e = refl
first_excludes (Next x) e = not_both e refl
first_excludes (Regrade x v way) e = refl

module _ (st : State) (ws : List ℕ) (inv : Invariant st ws) where
  order_long : st.waiting ≤ length st.order
  order_long = subst (λ (m : ℕ). st.waiting ≤ m) (sym inv.shaped.order) inv.sound.waits

  -- a step is answered Waiting exactly if it is barred
  abbrev Waits : ℕ → Left → Type 0
  Waits s r = Exactly (r.answer ≡ Waiting) ((s < slot_count) × (open_at st s ≡ true) × Barred st s)

  -- that is, if another slot is in its way
  in_the_way : (s : ℕ) → s < slot_count → open_at st s ≡ true → Barred st s → InTheWay st s
  in_the_way s b o (inl h) = record {
    slot = h.slot;
    inside = h.below;
    other = h.other;
    there = inl (
      lock_held_at st h.slot (want_at st s),
      holds_as st h.slot (want_at st s) h.holds,
      clash_apart (lock_held_at st h.slot (want_at st s)) (lock_wanted_at st s) h.clashes,
    );
  }
  in_the_way s b o (inr (new, inr c)) = record {
    slot = c.slot;
    inside = c.below;
    other = c.other;
    there = inr (
      (λ own. not_both (in_member (want_at st s) (held (slot_at st s)) own) new),
      inr (c.same, member_at (want_at st c.slot) (held (slot_at st c.slot)) 0 c.converts),
    );
  }
  in_the_way s b o (inr (new, inl e)) =
      let waits = older_waits s e.slot (waiting_order st) e.older in
      record {
        slot = e.slot;
        inside = inv.sound.order_below e.slot waits;
        other = older_other s e.slot (waiting_order st) e.older;
        there = inr (
          (λ own. not_both (in_member (want_at st s) (held (slot_at st s)) own) new),
          inl (
            e.same,
            older_before s e.slot (waiting_order st) (inv.sound.order_names s b o) e.older,
            clash_apart (lock_wanted_at st e.slot) (lock_wanted_at st s) e.clashes,
          ),
        );
      }

  way_barred : (s : ℕ) → s < slot_count → open_at st s ≡ true → InTheWay st s → Barred st s
  way_barred s b o w =
      ⊎_elim
      (λ (lock, holds, apart).
      inl (record {
        slot = w.slot;
        below = w.inside;
        other = w.other;
        holds = as_held st w.slot (want_at st s) lock holds;
        clashes = ap (λ (l : Lock). clash l (lock_wanted_at st s)) (sound_kind st inv.sound w.slot (want_at st s) lock w.inside holds)
            ∙ apart_clash lock (lock_wanted_at st s) apart;
      }))
      (λ (new, how).
      inr (
        false_if_not_true (holds_at st s (want_at st s)) (λ m. new (member_at (want_at st s) (held (slot_at st s)) 0 m)),
        ⊎_elim
            (λ (same, before, apart).
            inl (record {
              slot = w.slot;
              older = before_older s w.slot (waiting_order st) inv.sound.order_once before;
              same = same;
              clashes = apart_clash (lock_wanted_at st w.slot) (lock_wanted_at st s) apart;
            }))
            (λ (same, own).
            inr (record {
              slot = w.slot;
              below = w.inside;
              other = w.other;
              same = same;
              converts = in_member (want_at st w.slot) (held (slot_at st w.slot)) own;
            }))
            how,
      ))
      w.there

  waits_for : (s : ℕ) (r : Left) → Waits s r → Exactly (r.answer ≡ Waiting) ((s < slot_count) × (open_at st s ≡ true) × InTheWay st s)
  waits_for s r w = ((λ e. let (b, o, h) = w.0 e in (b, o, in_the_way s b o h)), (λ q. w.1 (q.0, q.1, way_barred s q.0 q.1 q.2)))

  -- another answer, of a slot that is not barred
  not_waiting : (s : ℕ) (a : Answer) (next : State) (words : List ℕ) → is_one_of a (Waiting ∷ []) ≡ false
      → ((s < slot_count) × (open_at st s ≡ true) × Barred st s → ⊥) → Waits s (left a next words)
  unfolding member
  not_waiting s a next words other free = (λ e. absurd (false≢true (sym other ∙ ap (λ (x : Answer). is_one_of x (Waiting ∷ [])) e)), λ w. absurd (free w))

  unchanged : (s : ℕ) (a : Answer) → changes_nothing a ≡ true → Waits s (left a st ws) → stepped st ws s ≡ left a st ws → StepLocks st ws s (stepped st ws s)
  unchanged s a same w e = subst (StepLocks st ws s) (sym e) (record { itself = inl (record { answer = same; state = refl; words = refl }); others = λ u n. refl; waits = w; waits_for = waits_for s (left a st ws) w })

  moved : (s : ℕ) (b : s < slot_count) (op : Op) (z : Stand) → Opened st s op
      → Paired z → Takes st.k (page_at st.k ws) (stand_of op (slot_at st s)) z
      → grants st s ≡ true → StepLocks st ws s (left Moved (goes_on st s z) ws)
  unfolding goes_on member
  moved s b op z runs pairs takes g = record {
    itself = inr (inl (record {
      op = op;
      op' = z.op;
      opened = runs;
      answer = refl;
      words = refl;
      still = ap (λ (sl : Slot). sl.task) here;
      taken = ⊎_elim (λ t. inl (t.0, ap (λ (sl : Slot). member (want_at st s) (held sl)) here ∙ ap (member (want_at st s)) (held_new z) ∙ t.1)) (λ t. inr (anew t.0 t.1))
          (takes_wanted st.k (page_at st.k ws) (stand_of op (slot_at st s)) z takes);
      takes = subst (Takes st.k (page_at st.k ws) (stand_of op (slot_at st s)))
          (sym (ap (stand_of z.op) here ∙ stand_new z pairs)) takes;
      order = waiting_requeued st s order_long (inv.sound.order_names s b (ap is_open runs)) (slot_of z);
    }));
    others = λ u n. slot_other st inv.shaped s b (slot_of z) [] 0 u n;
    waits = waits;
    waits_for = waits_for s (left Moved (goes_on st s z) ws) waits;
  }
    where
      waits : Waits s (left Moved (goes_on st s z) ws)
      waits = not_waiting s Moved (goes_on st s z) ws refl (λ w. not_both g (barred_waits st s w.2))

      here : slot_at (goes_on st s z) s ≡ slot_of z
      here = slot_here st inv.shaped s b (slot_of z) [] 0

      anew : is_second op ≡ true → z ≡ fresh_stand (first_way op) → Anew s op z.op (left Moved (goes_on st s z) ws)
      anew second fresh = record {
        second = second_named op second;
        first = ap (λ (y : Stand). y.op) fresh;
        nothing = ap held here ∙ held_new z ∙ ap holding fresh;
        root = ap (λ (sl : Slot). sl.want) here ∙ ap (λ (y : Stand). y.want) fresh;
        excludes = ap (λ (sl : Slot). sl.lock) here ∙ ap (λ (y : Stand). y.lock) fresh ∙ first_excludes op second;
      }

  -- a page that an ended operation did not write has its words as before
  unwritten : (s : ℕ) (op : Op) (a : Answer) (writes : List Write)
      → Ended st.k st.n ws inv.height inv.tree (stand_of op (slot_at st s)) a writes
      → (q : ℕ) → (member q (written_pages writes) ≡ true → ⊥) → words_of st.k q (applied st.k writes ws) ≡ words_of st.k q ws
  unwritten s op a writes e q never =
      words_of_applied_other st.k st.n q writes ws (fit_writes st.k st.n writes e.leads.fitting e.leads.inside)
      (false_if_not_true (member q (written_pages writes)) never)

  -- so one that it had no ξ-lock on, and that was not free
  untouched : (s : ℕ) (op : Op) (a : Answer) (writes : List Write) → Opened st s op
      → Ended st.k st.n ws inv.height inv.tree (stand_of op (slot_at st s)) a writes
      → (q : ℕ) → q < st.n → (HasXi st s q → ⊥) → (page_at st.k ws q).level ≢ 0 → words_of st.k q (applied st.k writes ws) ≡ words_of st.k q ws
  untouched s op a writes runs e q b none level =
      unwritten s op a writes e q (λ w. ⊎_elim
      (λ m. none (⊎_elim inl (λ (h, x). inr (subst (HoldsAs st s q) x (holds_as st s q h))) m))
      (λ free. level (ap (λ (P : Page). P.level) (inv.forms.forms.others q b free)))
      (e.only q w))

  -- an operation ends with an answer that ends
  ends_so : (op : Op) (s : ℕ) (a : Answer) (writes : List Write)
      → Ended st.k st.n ws inv.height inv.tree (stand_of op (slot_at st s)) a writes → is_one_of a ending ≡ true
  unfolding member
  ends_so op s a writes e =
      ⊎_elim
      (λ p. or_second (eqb (number_of a) (number_of NoRoom)) (ap (λ (x : Answer). is_one_of x counted_answers) p.answer ∙ plain_counted op (entries_of inv.height inv.tree)))
      (λ r. ap (λ (x : Answer). is_one_of x ending) r.0.answer)
      e.how

  -- which is not Waiting
  ends_waiting : (op : Op) (s : ℕ) (a : Answer) (writes : List Write)
      → Ended st.k st.n ws inv.height inv.tree (stand_of op (slot_at st s)) a writes → is_one_of a (Waiting ∷ []) ≡ false
  unfolding member
  ends_waiting op s a writes e =
      false_if_not_true (is_one_of a (Waiting ∷ [])) (λ w.
      let same : number_of a ≡ number_of Waiting = ⊎_elim (λ h. eqb-true (number_of a) (number_of Waiting) h) (λ h. absurd (false≢true h)) (or_cases (eqb (number_of a) (number_of Waiting)) false w) in
      not_both (ends_so op s a writes e) (ap (λ (m : ℕ). member m (map number_of ending)) same))

  ended : (s : ℕ) (b : s < slot_count) (op : Op) (a : Answer) (writes : List Write) → Opened st s op → grants st s ≡ true
      → Ended st.k st.n ws inv.height inv.tree (stand_of op (slot_at st s)) a writes
      → stepped st ws s ≡ left a (closes st s) (applied st.k writes ws)
      → StepLocks st ws s (left a (closes st s) (applied st.k writes ws))
  unfolding closes path_of beside_of filled applied
  ended s b op a writes runs g e told = record {
    itself = inr (inr (record {
      op = op;
      opened = runs;
      answer = ends_so op s a writes e;
      nothing = ap held here;
      closed = ap (λ (sl : Slot). is_open sl.task) here;
      order = waiting_closes st s order_long (inv.sound.order_names s b (ap is_open runs));
      writes = untouched s op a writes runs e;
      reads = λ other. ap (λ (W : List Write). applied st.k W ws) (e.writers other);
      regrades = λ old told-so q other. unwritten s op a writes e q (λ w. other (e.regrades old told-so q w));
      stays = λ second. stays_second_lem st ws inv s op b runs g (subst (λ (r : Left). is_one_of r.answer ending ≡ true) (sym told) (ends_so op s a writes e)) second;
      turned = λ third. (
        (λ changes. converts_here (stand_of op (slot_at st s)) (sym (e.turned (named_third op third)) ∙ changes)),
        (λ own. e.turned (named_third op third) ∙ here_converts (stand_of op (slot_at st s)) own),
      );
      all_xi = λ third own q h.
          let (a', writes', is) = verdict_ends st ws s (verdict st.k st.n ws (stand_of op (slot_at st s)))
          (subst (λ (r : Left). is_one_of r.answer ending ≡ true) (sym told ∙ granted_does st ws inv s op b runs g) (ends_so op s a writes e)) in
          all_turned st ws inv s op b runs (here_converts (stand_of op (slot_at st s)) own) a' writes' is q (in_member q (held (slot_at st s)) h);
      seen = subst (λ (r : Left). Seen (page_at st.k ws (want_at st s)) r.answer) told (step_seen st ws inv s op b runs g);
    }));
    others = λ u n. slot_other st inv.shaped s b closed_slot [] 0 u n;
    waits = waits;
    waits_for = waits_for s (left a (closes st s) (applied st.k writes ws)) waits;
  }
    where
      waits : Waits s (left a (closes st s) (applied st.k writes ws))
      waits = not_waiting s a (closes st s) (applied st.k writes ws) (ends_waiting op s a writes e) (λ w. not_both g (barred_waits st s w.2))

      here : slot_at (closes st s) s ≡ closed_slot
      here = slot_here st inv.shaped s b closed_slot [] 0

  step_locks : (s : ℕ) → StepOf st ws inv s → StepLocks st ws s (stepped st ws s)
  unfolding member
  step_locks s (no_slot b e) = unchanged s BadSlot refl (not_waiting s BadSlot st ws refl (λ w. let inside = w.0 in absurd (omega arith))) e
  step_locks s (idle b c e) = unchanged s SlotIdle refl (not_waiting s SlotIdle st ws refl (λ w. not_both w.1 c)) e
  step_locks s (waits op b runs g e) = unchanged s Waiting refl (λ _. (b, ap is_open runs, barred st s g), λ _. refl) e
  step_locks s (onward op z b runs g e same stance locked takes) = subst (StepLocks st ws s) (sym e) (moved s b op z runs (paired z locked.holds) takes g)
  step_locks s (over op a writes b runs g e done) = subst (StepLocks st ws s) (sym e) (ended s b op a writes runs g done e)

  -- who is told to wait has somebody in its way
  pub call_waits : (s : ℕ) → (stepped st ws s).answer ≡ Waiting → InTheWay st s
  call_waits s e = ((step_locks s (step_of st ws inv s)).waits_for.0 e).2

  begin_locks : (s : ℕ) (op : Op) → BeginOf st s op → CallLocks st ws (begin s op) (called st ws (begin s op))
  unfolding called begins
  begin_locks s op (no_such b e) = subst (λ (r : Outcome). CallLocks st ws (begin s op) (left r.answer r.state ws)) (sym e) (inl (record { answer = refl; state = refl; words = refl }))
  begin_locks s op (busy b o e) = subst (λ (r : Outcome). CallLocks st ws (begin s op) (left r.answer r.state ws)) (sym e) (inl (record { answer = refl; state = refl; words = refl }))
  begin_locks s op (blank b c t e) = subst (λ (r : Outcome). CallLocks st ws (begin s op) (left r.answer r.state ws)) (sym e) (inl (record { answer = refl; state = refl; words = refl }))
  begin_locks s op (begins_so b c t e) =
      let here : slot_at (begins st s op) s ≡ slot_of (fresh_stand op) = slot_here st inv.shaped s b (slot_of (fresh_stand op)) [] 0 in
      subst (λ (r : Outcome). CallLocks st ws (begin s op) (left r.answer r.state ws)) (sym e)
      (inr (record {
        answer = refl;
        words = refl;
        opened = ap (λ (sl : Slot). sl.task) here;
        nothing = ap held here ∙ held_new (fresh_stand op);
        root = ap (λ (sl : Slot). sl.want) here;
        order = waiting_begins st s op (subst (λ (m : ℕ). st.waiting < m) (sym inv.shaped.order) (order_has_room st inv.shaped.order inv.sound s b c));
        others = λ u n. slot_other st inv.shaped s b (slot_of (fresh_stand op)) [] 0 u n;
      }))

  call_locks : (c : Call) → CallLocks st ws c (called st ws c)
  unfolding called
  call_locks (begin s op) = begin_locks s op (begin_of st ws inv s op)
  call_locks (step s) = step_locks s (step_of st ws inv s)
  call_locks (report p) = (refl, refl)

  -- ---- what is heard

  begin_heard : (s : ℕ) (op : Op) → BeginOf st s op → is_one_of (begun st s op).answer (answers_of (begin s op)) ≡ true
  unfolding member
  begin_heard s op (no_such b e) = ap (λ (r : Outcome). is_one_of r.answer (answers_of (begin s op))) e
  begin_heard s op (busy b o e) = ap (λ (r : Outcome). is_one_of r.answer (answers_of (begin s op))) e
  begin_heard s op (blank b c t e) = ap (λ (r : Outcome). is_one_of r.answer (answers_of (begin s op))) e
  begin_heard s op (begins_so b c t e) = ap (λ (r : Outcome). is_one_of r.answer (answers_of (begin s op))) e

  step_heard : (s : ℕ) → StepOf st ws inv s → is_one_of (stepped st ws s).answer (answers_of (step s)) ≡ true
  unfolding member
  step_heard s (no_slot b e) = ap (λ (r : Left). is_one_of r.answer (answers_of (step s))) e
  step_heard s (idle b c e) = ap (λ (r : Left). is_one_of r.answer (answers_of (step s))) e
  step_heard s (waits op b runs g e) = ap (λ (r : Left). is_one_of r.answer (answers_of (step s))) e
  step_heard s (onward op z b runs g e same stance locked takes) = ap (λ (r : Left). is_one_of r.answer (answers_of (step s))) e
  step_heard s (over op a writes b runs g e done) =
      ap (λ (r : Left). is_one_of r.answer (answers_of (step s))) e
      ∙ or_second (eqb (number_of a) (number_of Waiting)) (or_second (eqb (number_of a) (number_of Moved))
      (or_second (eqb (number_of a) (number_of BadSlot)) (or_second (eqb (number_of a) (number_of SlotIdle)) (ends_so op s a writes done))))

  report_heard : (p : ℕ) → ReportOf st p → is_one_of (reported st p) (answers_of (report p)) ≡ true
  unfolding member
  report_heard p (no_page b e) = ap (λ (a : Answer). is_one_of a (answers_of (report p))) e
  report_heard p (tells b e) = ap (λ (a : Answer). is_one_of a (answers_of (report p))) e

  pub call_heard : (c : Call) → is_one_of (called st ws c).answer (answers_of c) ≡ true
  unfolding called
  call_heard (begin s op) = begin_heard s op (begin_of st ws inv s op)
  call_heard (step s) = step_heard s (step_of st ws inv s)
  call_heard (report p) = report_heard p (report_of st ws inv p)

-- ---- the words of the rules

pub safe_is : (k : ℕ) (op : Op) (P : Page) → Exactly (is_safe op k P ≡ true) (Safe op k P)
safe_is k (Search x) P = (λ _. tt, λ _. refl)
safe_is k (Insert x v First) P = (ltb-true (μ P) (2 * k), lt-ltb (μ P) (2 * k))
safe_is k (Insert x v Second) P = (λ _. tt, λ _. refl)
safe_is k (Insert x v Third) P = (ltb-true (μ P) (2 * k), lt-ltb (μ P) (2 * k))
safe_is k (Delete x First) P = (ltb-true k (μ P), lt-ltb k (μ P))
safe_is k (Delete x Second) P = (λ _. tt, λ _. refl)
safe_is k (Delete x Third) P = (ltb-true k (μ P), lt-ltb k (μ P))
safe_is k (Next x) P = (
  λ h. (
    eqb-false P.level 1 (not-true (is_leaf P) (and_first (not (is_leaf P)) (has_right x P) h)),
    ltb-true (place x P.entries) (μ P) (and_second (not (is_leaf P)) (has_right x P) h),
  ),
  λ s. and_both (not_of_false (ne_eqb P.level 1 s.0)) (lt-ltb (place x P.entries) (μ P) s.1),
)
safe_is k (Regrade x v First) P = (λ _. tt, λ _. refl)
safe_is k (Regrade x v Second) P = (λ _. tt, λ _. refl)
safe_is k (Regrade x v Third) P = (λ _. tt, λ _. refl)

-- a deletion, a Next, and what may hold pages beside its path, by name
deletion_named : (op : Op) → is_delete op ≡ true → (x : ℕ) × ((op ≡ Delete x First) ⊎ (op ≡ Delete x Third))
deletion_named (Search x) e = absurd (false≢true e)
deletion_named (Insert x v First) e = absurd (false≢true e)
deletion_named (Insert x v Second) e = absurd (false≢true e)
deletion_named (Insert x v Third) e = absurd (false≢true e)
deletion_named (Delete x First) e = (x, inl refl)
deletion_named (Delete x Second) e = absurd (false≢true e)
deletion_named (Delete x Third) e = (x, inr refl)
deletion_named (Next x) e = absurd (false≢true e)
deletion_named (Regrade x v First) e = absurd (false≢true e)
deletion_named (Regrade x v Second) e = absurd (false≢true e)
deletion_named (Regrade x v Third) e = absurd (false≢true e)

next_named : (op : Op) → is_next op ≡ true → (x : ℕ) × (op ≡ Next x)
next_named (Search x) e = absurd (false≢true e)
next_named (Insert x v First) e = absurd (false≢true e)
next_named (Insert x v Second) e = absurd (false≢true e)
next_named (Insert x v Third) e = absurd (false≢true e)
next_named (Delete x First) e = absurd (false≢true e)
next_named (Delete x Second) e = absurd (false≢true e)
next_named (Delete x Third) e = absurd (false≢true e)
next_named (Next x) e = (x, refl)
next_named (Regrade x v First) e = absurd (false≢true e)
next_named (Regrade x v Second) e = absurd (false≢true e)
next_named (Regrade x v Third) e = absurd (false≢true e)

beside_named : (op : Op) → goes_beside op ≡ true → (x : ℕ) × ((op ≡ Delete x First) ⊎ ((op ≡ Delete x Third) ⊎ (op ≡ Next x)))
beside_named (Search x) e = absurd (false≢true e)
beside_named (Insert x v First) e = absurd (false≢true e)
beside_named (Insert x v Second) e = absurd (false≢true e)
beside_named (Insert x v Third) e = absurd (false≢true e)
beside_named (Delete x First) e = (x, inl refl)
beside_named (Delete x Second) e = absurd (false≢true e)
beside_named (Delete x Third) e = (x, inr (inl refl))
beside_named (Next x) e = (x, inr (inr refl))
beside_named (Regrade x v First) e = absurd (false≢true e)
beside_named (Regrade x v Second) e = absurd (false≢true e)
beside_named (Regrade x v Third) e = absurd (false≢true e)

words_pinned : (k : ℕ) → Words k
unfolding neighbour in_turn
words_pinned k = record {
  key = λ x v way. (refl, refl, refl, refl, refl);
  deletion = λ op. (deletion_named op, λ d. ⊎_elim (λ e. ap is_delete e) (λ e. ap is_delete e) d.1);
  asks_next = λ op. (next_named op, λ n. ap is_next n.1);
  beside = λ op. (beside_named op, λ b. ⊎_elim (λ d. ap goes_beside d) (⊎_elim (λ d. ap goes_beside d) (λ n. ap goes_beside n)) b.1);
  second = λ op. (second_named op, named_second op);
  third = λ op. (third_named op, named_third op);
  first = λ x v way. (refl, refl, refl);
  at_once = λ x v way es. (refl, refl, refl);
  known = λ z memory leaf fathers. (known_told k memory z leaf fathers, known_from k memory z leaf fathers);
  turns_none = λ z e. ap (λ (ps : List ℕ). in_turn 0 ps z.beside) e;
  turns_alone = λ z top below e few. ap (λ (ps : List ℕ). in_turn 0 ps z.beside) e ∙ turn_alone top below z.beside few;
  turns_both = λ z top s below lower e f same. ap₂ (λ (ps ss : List ℕ). in_turn 0 ps ss) e f ∙ turn_both top s below lower same;
  nearest = λ x es. (none_below x es, below_none x es);
  safe = safe_is k;
  right = λ x F h. cond-true (pointer (suc (place x F.entries)) F) (pointer (place x F.entries - 1) F) (lt-ltb (place x F.entries) (μ F) h);
  left = λ x F h. cond-false (pointer (suc (place x F.entries)) F) (pointer (place x F.entries - 1) F) (le-ltb (place x F.entries) (μ F) h);
  clashes = together_told;
  kind = kind_is;
  held_kind = λ a i d b. among_once (held a) (held_locks a) i d b;
  wanted = λ a. refl;
  older = λ s t order d w. ((λ m. older_before s t order w m), (λ b. before_older s t order d b));
  leaves = leaving_between;
}

-- ---- the demand

-- of the numbers of a run
with_numbers : (k n : ℕ) (st : State) (ws : List ℕ) → st.k ≡ k → st.n ≡ n → Invariant st ws → AfterEveryCall k n st ws
with_numbers k n st ws ek en inv = subst (λ (m : ℕ). AfterEveryCall k m st ws) en (subst (λ (m : ℕ). AfterEveryCall m st.n st ws) ek (after_call st ws inv))

pub demand2 : Demand2Holds
demand2 start cs r =
    let k : ℕ = start.state.k in
    let n : ℕ = start.state.n in
    let st : State = (run_from start cs).state in
    let after : List ℕ = (run_from start cs).words in
    let inv : Invariant st after = holds_after start cs r in
    let numbers = numbers_after start cs r in
    record {
      left = with_numbers k n st after numbers.0 numbers.1 inv;
      next = λ c key. let same = call_numbers st after inv c in
          with_numbers k n (called st after c).state (called st after c).words (same.0 ∙ numbers.0) (same.1 ∙ numbers.1) (call_keeps st after inv c key);
      locks = call_locks st after inv;
      heard = call_heard st after inv;
      words = words_pinned k;
    }
