-- Demand 1 holds of every call. What an answer tells is read off a table, and the answer that a condition leads to off the rule.
use Prim.Native.Nat.{ℕ, ◌≤◌, ◌<◌}
use mathlib.Core.Bool.{Bool, true, false, cond, ◌&&◌, true≢false, false≢true}
use mathlib.Core.List.{List, [], ◌∷◌, ◌++◌}
use mathlib.Core.Logic.{◌⊎◌, inl, inr, ◌≢◌}
use mathlib.Core.Path.{◌≡◌, refl, sym, ap, ◌∙◌, subst, transport, transport⁻¹}
use native.Mathlib.Omega.{arith}
use lib.Dec.{leb, ltb, eqb}
use lib.ListN.{length}
use borrow.Author.Tests.{ltb-true, ltb-false, leb-true, eqb-true, eqb-false, lt-ltb, le-ltb, le-leb, eq-eqb, ne_eqb}
use Rattle.ground.specs.Limits.{largest_k, k_in_range, largest_n, n_in_range, slot_count}
use Rattle.ground.specs.Tests.{member}
use Rattle.ground.proofs.Bools.{not_both, false_if_not_true, and_first, and_second, and_both}
use Rattle.ground.proofs.Choice.{cond-false}
use Rattle.pool.specs.Pool.{pool_length, page_at, free_pages}
use Rattle.opening.specs.Opening.{lowest_unsound, is_tree, checked}
use Rattle.opening.proofs.CheckLaws.{none_found}
use Rattle.slots.specs.declared.Op.{Op}
use Rattle.slots.specs.declared.Task.{Task}
use Rattle.slots.specs.declared.Task.TheVariants.{Closed, Open}
use Rattle.slots.specs.declared.Slot.{Slot}
use Rattle.slots.specs.declared.State.{State}
use Rattle.slots.specs.declared.Lock.{Lock}
use Rattle.slots.specs.declared.Answer.{Answer}
use Rattle.slots.specs.declared.Answer.TheVariants.{Waiting, Begun, Made, Reported, BadState, BadPool, BadSlot, SlotBusy, SlotIdle, Damaged, BadPage, Opened, BadPageInPool, BadTree, BadKey}
use Rattle.slots.specs.Heard.{number_of, value_of, refuses, changes_nothing}
use Rattle.slots.specs.Operations.{blank_tag}
use Rattle.slots.specs.Parts.{is_open, slot_at, open_at, holding, stand_of}
use Rattle.slots.specs.Sound.{sound}
use Rattle.slots.specs.Grant.{grants}
use Rattle.slots.specs.Begin.{begun}
use Rattle.slots.specs.Report.{holders, lowest_holder, lock_kind, reported}
use Rattle.slots.proofs.Refusals.{begin_refused}
use Rattle.slots.proofs.SoundFacts.{sound_facts, empty_unsound}
use Rattle.slots.proofs.Keeping.{slot_paired}
use Rattle.footing.specs.Granted.{Verdict, broken, goes, ends, granted}
use Rattle.footing.specs.Fitting.{pages_sound, fitting, next_is_new, sound_for_step, verdict}
use Rattle.ground.proofs.Choice.{by_test}
use Rattle.index.specs.Step.{Left, of_granted, acted, stepped_task, stepped}
use Rattle.index.specs.Make.{made}
use Rattle.index.specs.Open.{opened}
use Rattle.index.proofs.Refusals.{Answers, granted_answers, changes, step_refused, make_refused, step_length, make_length, open_refused, open_words, opened_told}
use Rattle.promises.specs.Terms.{Exactly, Blank}
use Rattle.promises.specs.Report.{Reports}
use Rattle.promises.specs.Demand1.{BeginDemand, WordsFit, PagesSound, PagesSoundAt, Celled, StepDemand, ReportDemand, MakingInRange, MakeDemand, AloneSound, LowestUnsound, FormsTree, OpenDemand, Demand1}
use Rattle.promises.proofs.Terms.{blank_is, unblank_is}
use Rattle.promises.proofs.SoundState.{numbers, sound_is}
use Rattle.promises.proofs.Report.{reports_so, reports_once}
use Rattle.promises.proofs.SoundPages.{Sized}
use Rattle.promises.proofs.NextWant.{sound_for_step_lem}
use Rattle.promises.proofs.Opening.{lowest_told, lowest_is, none_told, none_is, tree_told, tree_is}

-- A row of a table: an answer, and what it tells. By its number an answer tells what stands beside it; one with no row tells `other`.
record Row : Type 1 where
  answer : Answer
  when : Type 0

abbrev row : Answer → Type 0 → Row
row a P = record { answer = a; when = P }

abbrev Tells : List Row → Type 0 → Answer → Type 0
Tells [] other a = other
Tells (r ∷ rows) other a = cond (eqb (number_of a) (number_of r.answer)) r.when (Tells rows other a)

-- what begin's answers tell
abbrev BeginTells : State → ℕ → Op → Answer → Type 0
BeginTells st s op =
    Tells
    (row BadState (sound st ≡ false)
    ∷ row BadSlot ((sound st ≡ true) × (slot_count ≤ s))
    ∷ row SlotBusy ((sound st ≡ true) × (s < slot_count) × (open_at st s ≡ true))
    ∷ row BadKey ((sound st ≡ true) × (s < slot_count) × (open_at st s ≡ false) × Blank op)
    ∷ row Begun ((sound st ≡ true) × (s < slot_count) × (open_at st s ≡ false) × (Blank op → ⊥))
    ∷ [])
    ⊥

begin_tells : (st : State) (s : ℕ) (op : Op) → BeginTells st s op (begun st s op).answer
unfolding begun
begin_tells st s op =
    by_test (sound st)
    (λ a. by_test (ltb s slot_count)
    (λ b. by_test (open_at st s)
    (λ c. rw (a, b, c) (refl, ltb-true s slot_count b, refl))
    (λ c. by_test (blank_tag op)
    (λ d. rw (a, b, c, d) (refl, ltb-true s slot_count b, refl, (blank_is op).0 d))
    (λ d. rw (a, b, c, d) (refl, ltb-true s slot_count b, refl, λ blank. not_both ((blank_is op).1 blank) d))))
    (λ b. rw (a, b) (refl, ltb-false s slot_count b)))
    (λ a. rw a refl)

pub begin_demand : (st : State) (s : ℕ) (op : Op) → BeginDemand st s op
unfolding begun
begin_demand st s op = record {
  bad_state = (told, λ h. rw h);
  bad_slot = (told, λ h. rw (h.0, le-ltb s slot_count h.1));
  slot_busy = (told, λ h. rw (h.0, lt-ltb s slot_count h.1, h.2));
  bad_key = (told, λ h. rw (h.0, lt-ltb s slot_count h.1, h.2, (blank_is op).1 h.3));
  begins = (told, λ h. rw (h.0, lt-ltb s slot_count h.1, h.2, unblank_is op h.3));
  no_other =
      by_test (sound st)
      (λ a. by_test (ltb s slot_count)
      (λ b. by_test (open_at st s)
      (λ c. inr (inr (inl (rw (a, b, c)))))
      (λ c. by_test (blank_tag op) (λ d. inr (inr (inr (inl (rw (a, b, c, d)))))) (λ d. inr (inr (inr (inr (rw (a, b, c, d))))))))
      (λ b. inr (inl (rw (a, b)))))
      (λ a. inl (rw a));
  as_given = begin_refused st s op;
}
  where
    told : {a : Answer} → (begun st s op).answer ≡ a → BeginTells st s op a
    told e = subst (BeginTells st s op) e (begin_tells st s op)

-- a table of answers after which everything is as given
abbrev unchanging : List Row → Bool
unchanging [] = true
unchanging (r ∷ rows) = changes_nothing r.answer && unchanging rows

-- an answer of a granted step has no row in such a table
no_row : (rows : List Row) (other : Type 0) (a : Answer) → unchanging rows ≡ true → of_granted a ≡ true → Tells rows other a ≡ other
no_row [] other a l h = refl
no_row (r ∷ rows) other a l h =
    cond-false r.when (Tells rows other a) (ne_eqb (number_of a) (number_of r.answer) differ)
    ∙ no_row rows other a (and_second (changes_nothing r.answer) (unchanging rows) l) h
  where
    differ : number_of a ≢ number_of r.answer
    differ e =
        not_both (and_first (changes_nothing r.answer) (unchanging rows) l)
        (ap (λ (m : ℕ). leb m (number_of Waiting)) (sym e) ∙ changes a h)

-- "Pages are sound for a step if", by the rule's test, and that it passes exactly where they are in plain terms
abbrev sound_for_task : State → List ℕ → Slot → Task → Bool
sound_for_task st ws slot Closed = true
sound_for_task st ws slot (Open op) = sound_for_step st.k st.n ws (stand_of op slot)

module _ (st : State) (ws : List ℕ) (s : ℕ) (cells : Celled (slot_at st s)) (whole : sound st ≡ true) (b : s < slot_count) where
  -- an open slot of a sound state has no page twice
  slot_sized : (op : Op) → (slot_at st s).task ≡ Open op → Sized (stand_of op (slot_at st s))
  slot_sized op opened = record {
    paired = slot_paired op (slot_at st s) cells.path cells.beside;
    different = ((sound_facts st whole).slot s b).different (ap is_open opened);
  }

  sound_task : (task : Task) → (slot_at st s).task ≡ task → Exactly (sound_for_task st ws (slot_at st s) task ≡ true) (PagesSound st ws (slot_at st s) task)
  sound_task Closed e = ((λ _. tt), (λ _. refl))
  sound_task (Open op) e = sound_for_step_lem st.k st.n ws (stand_of op (slot_at st s)) (slot_sized op e)

  pages_sound_lem : Exactly (sound_for_task st ws (slot_at st s) (slot_at st s).task ≡ true) (PagesSoundAt st ws s)
  pages_sound_lem = sound_task (slot_at st s).task refl

  pages_unsound : (PagesSoundAt st ws s → ⊥) → sound_for_task st ws (slot_at st s) (slot_at st s).task ≡ false
  pages_unsound never = false_if_not_true (sound_for_task st ws (slot_at st s) (slot_at st s).task) (λ t. never (pages_sound_lem.0 t))

-- what step's answers tell, by the slot and its task
abbrev step_rows : State → List ℕ → ℕ → Slot → Task → List Row
step_rows st ws s slot task =
    row BadState (sound st ≡ false)
    ∷ row BadPool ((sound st ≡ true) × (length ws ≢ pool_length st.k st.n))
    ∷ row BadSlot ((sound st ≡ true) × WordsFit st ws × (slot_count ≤ s))
    ∷ row SlotIdle ((sound st ≡ true) × WordsFit st ws × (s < slot_count) × (is_open task ≡ false))
    ∷ row Waiting ((sound st ≡ true) × WordsFit st ws × (s < slot_count) × (is_open task ≡ true) × (grants st s ≡ false))
    ∷ row Damaged ((sound st ≡ true) × WordsFit st ws × (s < slot_count) × (is_open task ≡ true) × (grants st s ≡ true) × (sound_for_task st ws slot task ≡ false))
    ∷ []

abbrev Goes : State → List ℕ → ℕ → Slot → Task → Type 0
Goes st ws s slot task = (sound st ≡ true) × WordsFit st ws × (s < slot_count) × (is_open task ≡ true) × (grants st s ≡ true) × (sound_for_task st ws slot task ≡ true)

abbrev StepTells : State → List ℕ → ℕ → Slot → Task → Answer → Type 0
StepTells st ws s slot task = Tells (step_rows st ws s slot task) (Goes st ws s slot task)

-- a verdict that is not broken answers as a granted step does
acted_answers : (st : State) (ws : List ℕ) (s : ℕ) (v : Verdict) → next_is_new v ≡ true → Answers v → of_granted (acted st ws s v).answer ≡ true
unfolding member
acted_answers st ws s broken new h = absurd (false≢true new)
acted_answers st ws s (goes z) new h = refl
acted_answers st ws s (ends answer writes) new h = h

-- what a granted step comes to where the pages are sound for it
abbrev comes : State → List ℕ → Slot → Op → Verdict
comes st ws slot op = granted st.k (page_at st.k ws) (free_pages st.k st.n ws) (stand_of op slot)

-- it is not broken there
sound_answers : (st : State) (ws : List ℕ) (s : ℕ) (slot : Slot) (op : Op) → sound_for_task st ws slot (Open op) ≡ true → of_granted (acted st ws s (comes st ws slot op)).answer ≡ true
unfolding sound_for_step
sound_answers st ws s slot op h =
    acted_answers st ws s (comes st ws slot op)
    (and_second (pages_sound st.k st.n ws (holding (stand_of op slot) ++ slot.want ∷ []) && fitting st.k (page_at st.k ws) (stand_of op slot)) (next_is_new (comes st ws slot op)) h)
    (granted_answers st.k (page_at st.k ws) (free_pages st.k st.n ws) (stand_of op slot))

-- where each condition leads, once the state is sound, the words fit and there is such a slot
task_idle : (st : State) (ws : List ℕ) (s : ℕ) (slot : Slot) (task : Task) → is_open task ≡ false → (stepped_task st ws s slot task).answer ≡ SlotIdle
task_idle st ws s slot Closed o = refl
task_idle st ws s slot (Open op) o = absurd (true≢false o)

task_waits : (st : State) (ws : List ℕ) (s : ℕ) (slot : Slot) (task : Task) → is_open task ≡ true → grants st s ≡ false → (stepped_task st ws s slot task).answer ≡ Waiting
task_waits st ws s slot Closed o g = absurd (false≢true o)
task_waits st ws s slot (Open op) o g = rw g

task_damaged : (st : State) (ws : List ℕ) (s : ℕ) (slot : Slot) (task : Task) → is_open task ≡ true → grants st s ≡ true → sound_for_task st ws slot task ≡ false → (stepped_task st ws s slot task).answer ≡ Damaged
unfolding verdict
task_damaged st ws s slot Closed o g p = absurd (false≢true o)
task_damaged st ws s slot (Open op) o g p = rw (g, p)

task_goes : (st : State) (ws : List ℕ) (s : ℕ) (slot : Slot) (task : Task) → is_open task ≡ true → grants st s ≡ true → sound_for_task st ws slot task ≡ true → of_granted (stepped_task st ws s slot task).answer ≡ true
unfolding verdict
task_goes st ws s slot Closed o g p = absurd (false≢true o)
task_goes st ws s slot (Open op) o g p = rw (g, p) (sound_answers st ws s slot op p)

-- and what is told where they lead
task_tells : (st : State) (ws : List ℕ) (s : ℕ) (slot : Slot) (task : Task) → sound st ≡ true → WordsFit st ws → s < slot_count → StepTells st ws s slot task (stepped_task st ws s slot task).answer
unfolding verdict
task_tells st ws s slot Closed a b c = (a, b, c, refl)
task_tells st ws s slot (Open op) a b c =
    by_test (grants st s)
    (λ d. by_test (sound_for_task st ws slot (Open op))
    (λ e. transport⁻¹ (no_row (step_rows st ws s slot (Open op)) (Goes st ws s slot (Open op)) (stepped_task st ws s slot (Open op)).answer refl (task_goes st ws s slot (Open op) refl d e)) (a, b, c, refl, d, e))
    (λ e. rw (d, e) (a, b, c, refl, refl, refl)))
    (λ d. rw d (a, b, c, refl, refl))

task_no_other : (st : State) (ws : List ℕ) (s : ℕ) (slot : Slot) (task : Task)
    → ((stepped_task st ws s slot task).answer ≡ SlotIdle) ⊎ ((stepped_task st ws s slot task).answer ≡ Waiting) ⊎ ((stepped_task st ws s slot task).answer ≡ Damaged) ⊎ (of_granted (stepped_task st ws s slot task).answer ≡ true)
task_no_other st ws s slot Closed = inl refl
task_no_other st ws s slot (Open op) =
    by_test (grants st s)
    (λ d. by_test (sound_for_task st ws slot (Open op))
    (λ e. inr (inr (inr (task_goes st ws s slot (Open op) refl d e))))
    (λ e. inr (inr (inl (task_damaged st ws s slot (Open op) refl d e)))))
    (λ d. inr (inl (task_waits st ws s slot (Open op) refl d)))

step_tells : (st : State) (ws : List ℕ) (s : ℕ) → StepTells st ws s (slot_at st s) (slot_at st s).task (stepped st ws s).answer
unfolding stepped
step_tells st ws s =
    by_test (sound st)
    (λ a. by_test (eqb (length ws) (pool_length st.k st.n))
    (λ b. by_test (ltb s slot_count)
    (λ c. rw (a, b, c) (rw a at (task_tells st ws s (slot_at st s) (slot_at st s).task a (eqb-true (length ws) (pool_length st.k st.n) b) (ltb-true s slot_count c))))
    (λ c. rw (a, b, c) (refl, eqb-true (length ws) (pool_length st.k st.n) b, ltb-false s slot_count c)))
    (λ b. rw (a, b) (refl, eqb-false (length ws) (pool_length st.k st.n) b)))
    (λ a. rw a refl)

pub step_demand : (st : State) (ws : List ℕ) (s : ℕ) → Celled (slot_at st s) → StepDemand st ws s
unfolding stepped
step_demand st ws s cells = record {
  bad_state = (told, λ h. rw h);
  bad_pool = (told, λ h. rw (h.0, ne_eqb (length ws) (pool_length st.k st.n) h.1));
  bad_slot = (told, λ h. rw (h.0, fits h.1, le-ltb s slot_count h.2));
  slot_idle = (told, λ h. rw (h.0, fits h.1, lt-ltb s slot_count h.2) (task_idle st ws s slot slot.task h.3));
  waiting = (told, λ h. rw (h.0, fits h.1, lt-ltb s slot_count h.2) (task_waits st ws s slot slot.task h.3 h.4));
  damaged = (
    (λ e. let (a, b, c, d, g, p) = told e in (a, b, c, d, g, λ q. not_both ((pages_sound_lem st ws s cells a c).1 q) p)),
    λ h. rw (h.0, fits h.1, lt-ltb s slot_count h.2) (task_damaged st ws s slot slot.task h.3 h.4 (pages_unsound st ws s cells h.0 h.2 h.5)),
  );
  granted = (
    (λ h.
        let (a, b, c, d, g, p) = transport (no_row (step_rows st ws s slot slot.task) (Goes st ws s slot slot.task) (stepped st ws s).answer refl h) (step_tells st ws s) in
        (a, b, c, d, g, (pages_sound_lem st ws s cells a c).0 p)),
    λ h. rw (h.0, fits h.1, lt-ltb s slot_count h.2) (task_goes st ws s slot slot.task h.3 h.4 ((pages_sound_lem st ws s cells h.0 h.2).1 h.5)),
  );
  no_other =
      by_test (sound st)
      (λ a. by_test (eqb (length ws) (pool_length st.k st.n))
      (λ b. by_test (ltb s slot_count)
      (λ c. inr (inr (inr (rw (a, b, c) (task_no_other st ws s slot slot.task)))))
      (λ c. inr (inr (inl (rw (a, b, c))))))
      (λ b. inr (inl (rw (a, b)))))
      (λ a. inl (rw a));
  as_given = λ e. let r = step_refused st ws s e in (r.state, r.words);
  same_length = step_length st ws s;
}
  where
    slot : Slot
    slot = slot_at st s

    fits : WordsFit st ws → eqb (length ws) (pool_length st.k st.n) ≡ true
    fits = eq-eqb (length ws) (pool_length st.k st.n)

    told : {a : Answer} → (stepped st ws s).answer ≡ a → StepTells st ws s (slot_at st s) (slot_at st s).task a
    told e = subst (StepTells st ws s (slot_at st s) (slot_at st s).task) e (step_tells st ws s)

-- what report's answers tell
abbrev ReportTells : State → ℕ → Answer → Type 0
ReportTells st p = Tells (row BadState (sound st ≡ false) ∷ row BadPage ((sound st ≡ true) × (st.n ≤ p)) ∷ []) ((sound st ≡ true) × (p < st.n))

report_tells : (st : State) (p : ℕ) → ReportTells st p (reported st p)
unfolding reported
report_tells st p =
    by_test (sound st)
    (λ a. by_test (ltb p st.n)
    (λ b. rw (a, b) (refl, ltb-true p st.n b))
    (λ b. rw (a, b) (refl, ltb-false p st.n b)))
    (λ a. rw a refl)

-- a report is that of the rules' kind, number and lowest holder
report_rule : (st : State) (p : ℕ) → sound st ≡ true → p < st.n → reported st p ≡ Reported (lock_kind st p) (holders st p) (lowest_holder st p)
unfolding reported
report_rule st p a b = rw (a, lt-ltb p st.n b)

-- and these are the only ones that satisfy the plain terms
report_is : (st : State) (p : ℕ) (kind : Lock) (count lowest : ℕ) → sound st ≡ true → p < st.n
    → Exactly (reported st p ≡ Reported kind count lowest) (Reports st p kind count lowest)
report_is st p kind count lowest a b =
    let f = sound_facts st a in
    let rule = report_rule st p a b in (
      (λ e. same_report rule e (reports_so st p f)),
      (λ r. let (k, c, l) = reports_once st p f kind count lowest r in cc),
    )
  where
    same_report : {k : Lock} {c l : ℕ} → reported st p ≡ Reported k c l → reported st p ≡ Reported kind count lowest → Reports st p k c l → Reports st p kind count lowest
    same_report {k} {c} {l} rule e r =
        let x : k ≡ kind = cc in
        let y : c ≡ count = cc in
        let z : l ≡ lowest = cc in
        rw (← x, ← y, ← z) r

pub report_demand : (st : State) (p : ℕ) → ReportDemand st p
unfolding reported
report_demand st p = record {
  bad_state = (told, λ h. rw h);
  bad_page = (told, λ h. rw (h.0, le-ltb p st.n h.1));
  reports = λ kind count lowest. (
    (λ e. let (a, b) = told e in (a, b, (report_is st p kind count lowest a b).0 e)),
    (λ h. (report_is st p kind count lowest h.0 h.1).1 h.2),
  );
  no_other =
      by_test (sound st)
      (λ a. by_test (ltb p st.n) (λ b. inr (inr (lock_kind st p, holders st p, lowest_holder st p, report_rule st p a (ltb-true p st.n b)))) (λ b. inr (inl (rw (a, b)))))
      (λ a. inl (rw a));
}
  where
    told : {a : Answer} → reported st p ≡ a → ReportTells st p a
    told e = subst (ReportTells st p) e (report_tells st p)

-- the tests of making, put together and taken apart
in_range : (k n : ℕ) (ws : List ℕ) → k_in_range k && n_in_range n && eqb (length ws) (pool_length k n) ≡ true → MakingInRange k n ws
in_range k n ws h = record {
  k_least = leb-true 1 k (and_first (leb 1 k) (leb k largest_k) ks);
  k_most = leb-true k largest_k (and_second (leb 1 k) (leb k largest_k) ks);
  n_least = leb-true 1 n (and_first (leb 1 n) (leb n largest_n) ns);
  n_most = leb-true n largest_n (and_second (leb 1 n) (leb n largest_n) ns);
  words = eqb-true (length ws) (pool_length k n) (and_second (k_in_range k && n_in_range n) (eqb (length ws) (pool_length k n)) h);
}
  where
    both : k_in_range k && n_in_range n ≡ true
    both = and_first (k_in_range k && n_in_range n) (eqb (length ws) (pool_length k n)) h

    ks : k_in_range k ≡ true
    ks = and_first (k_in_range k) (n_in_range n) both

    ns : n_in_range n ≡ true
    ns = and_second (k_in_range k) (n_in_range n) both

pub range_tested : (k n : ℕ) (ws : List ℕ) → MakingInRange k n ws → k_in_range k && n_in_range n && eqb (length ws) (pool_length k n) ≡ true
range_tested k n ws h =
    and_both
    (and_both (and_both (le-leb 1 k h.k_least) (le-leb k largest_k h.k_most)) (and_both (le-leb 1 n h.n_least) (le-leb n largest_n h.n_most)))
    (eq-eqb (length ws) (pool_length k n) h.words)

abbrev MakeTells : ℕ → ℕ → List ℕ → Answer → Type 0
MakeTells k n ws = Tells (row BadPool (MakingInRange k n ws → ⊥) ∷ row Made (MakingInRange k n ws) ∷ []) ⊥

make_tells : (k n : ℕ) (ws : List ℕ) → MakeTells k n ws (made k n ws).answer
unfolding made
make_tells k n ws =
    by_test (k_in_range k && n_in_range n && eqb (length ws) (pool_length k n))
    (λ a. rw a (in_range k n ws a))
    (λ a. rw a (λ h. not_both (range_tested k n ws h) a))

pub make_demand : (k n : ℕ) (ws : List ℕ) → MakeDemand k n ws
unfolding made
make_demand k n ws = record {
  bad_pool = (told, λ h. rw (false_if_not_true _ (λ t. h (in_range k n ws t))));
  makes = (told, λ h. rw (range_tested k n ws h));
  no_other = by_test (k_in_range k && n_in_range n && eqb (length ws) (pool_length k n)) (λ a. inr (rw a)) (λ a. inl (rw a));
  refused = λ e. let r = make_refused k n ws (ap refuses e) in (r.words, r.state);
  empty_refused = empty_unsound;
  fresh_pool = λ e. rw (range_tested k n ws (told e)) (refl, refl);
  same_length = make_length k n ws;
}
  where
    told : {a : Answer} → (made k n ws).answer ≡ a → MakeTells k n ws a
    told e = subst (MakeTells k n ws) e (make_tells k n ws)

-- what opening's answers tell
abbrev OpenTells : ℕ → ℕ → List ℕ → Answer → Type 0
OpenTells k n ws a =
    Tells
    (row BadPool (MakingInRange k n ws → ⊥)
    ∷ row (BadPageInPool 0) (MakingInRange k n ws × LowestUnsound k n ws (value_of a 0))
    ∷ row BadTree (MakingInRange k n ws × ((q : ℕ) → q < n → AloneSound k n ws q) × (FormsTree k n ws → ⊥))
    ∷ row Opened (MakingInRange k n ws × FormsTree k n ws)
    ∷ [])
    ⊥ a

open_tells : (k n : ℕ) (ws : List ℕ) → OpenTells k n ws (opened k n ws).answer
unfolding opened checked
open_tells k n ws =
    by_test (k_in_range k && n_in_range n && eqb (length ws) (pool_length k n))
    (λ a.
    let range = in_range k n ws a in
    by_test (ltb (lowest_unsound k n ws) n)
    (λ b. rw (a, b) (range, lowest_told k n ws range (ltb-true (lowest_unsound k n ws) n b)))
    (λ b.
    let none = none_found k n ws b in
    by_test (is_tree k n ws)
    (λ c. rw (a, b, c) (range, tree_told k n ws range none c))
    (λ c. rw (a, b, c) (range, none_told k n ws range none, λ f. not_both (tree_is k n ws range f).1 c))))
    (λ a. rw a (λ h. not_both (range_tested k n ws h) a))

pub open_demand : (k n : ℕ) (ws : List ℕ) → OpenDemand k n ws
unfolding opened checked
open_demand k n ws = record {
  bad_pool = (told, λ h. rw (false_if_not_true _ (λ t. h (in_range k n ws t))));
  bad_page = λ p. (
    told,
    (λ h.
        let low = lowest_is k n ws h.0 p h.1 in
        rw (range_tested k n ws h.0, low, lt-ltb p n h.1.in_pool)),
  );
  bad_tree = (
    told,
    (λ h.
        let none = none_is k n ws h.0 h.1 in
        rw (range_tested k n ws h.0, none, le-ltb n n (omega arith), false_if_not_true (is_tree k n ws) (λ t. h.2 (tree_told k n ws h.0 none t)))),
  );
  opens = (
    told,
    (λ h.
        let (none, tree) = tree_is k n ws h.0 h.1 in
        rw (range_tested k n ws h.0, none, le-ltb n n (omega arith), tree)),
  );
  no_other =
      by_test (k_in_range k && n_in_range n && eqb (length ws) (pool_length k n))
      (λ a. by_test (ltb (lowest_unsound k n ws) n)
      (λ b. inr (inl (lowest_unsound k n ws, rw (a, b))))
      (λ b. by_test (is_tree k n ws) (λ c. inr (inr (inr (rw (a, b, c))))) (λ c. inr (inr (inl (rw (a, b, c)))))))
      (λ a. inl (rw a));
  refused = λ e. (open_refused k n ws e).state;
  accepted = λ e. ap (λ (after : Left). after.state) (opened_told k n ws e).1;
  as_given = open_words k n ws;
}
  where
    told : {a : Answer} → (opened k n ws).answer ≡ a → OpenTells k n ws a
    told e = subst (OpenTells k n ws) e (open_tells k n ws)

pub demand1 : Demand1
demand1 = record { begin = begin_demand; step = step_demand; report = report_demand; make = make_demand; opening = open_demand; sound_state = sound_is; numbers = numbers }
