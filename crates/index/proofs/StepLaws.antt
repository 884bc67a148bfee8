-- What a step leaves, test by test of its rule, and a granted step by what was found: the pages do not fit, or the course is the
-- rule's from where the operation then stands.
use Prim.Native.Nat.{ℕ, ◌≤◌, ◌<◌}
use mathlib.Core.Bool.{Bool, true, false, cond, not, ◌&&◌}
use mathlib.Core.List.{List, [], ◌∷◌, ◌++◌}
use mathlib.Core.Path.{◌≡◌, refl, sym, ap, ◌∙◌, subst}
use lib.Dec.{ltb, eqb}
use lib.ListN.{length, get_or}
use borrow.Author.Tests.{le-leb, lt-ltb, le-ltb, eqb-true}
use Rattle.ground.specs.Limits.{largest_k, largest_n, slot_count}
use Rattle.ground.proofs.Bools.{and_second, and_both, and_first_fails, not_of_true, not_of_false}
use Rattle.ground.proofs.Choice.{cond_ind, cond-true, cond-false}
use Rattle.page.specs.Words.{Page}
use Rattle.pool.specs.Pool.{pool_length, page_at, free_pages}
use Rattle.slots.specs.declared.Op.{Op}
use Rattle.slots.specs.declared.Task.{Task}
use Rattle.slots.specs.declared.Task.TheVariants.{Closed, Open}
use Rattle.slots.specs.declared.Slot.{Slot}
use Rattle.slots.specs.declared.State.{State}
use Rattle.slots.specs.declared.Answer.{Answer}
use Rattle.slots.specs.declared.Answer.TheVariants.{Waiting, BadState, BadPool, BadSlot, SlotIdle, Damaged}
use Rattle.slots.specs.Grant.{grants}
use Rattle.slots.specs.Heard.{heard, changes_nothing}
use Rattle.slots.specs.Parts.{slot_at, is_open, Stand, holding, converting, stand_of, slot_of}
use Rattle.slots.specs.Sound.{slot_sound, sound}
use Rattle.slots.proofs.Keeping.{Paired, stand_new}
use Rattle.slots.proofs.SoundFacts.{SoundState, sound_facts, facts_sound, slot_sound_lem}
use Rattle.lent.specs.Words.{as_read, known, state_of, laid_into, lent_after}
use Rattle.lent.proofs.StateLaws.{state_known}
use Rattle.soundness.proofs.CheckingLawsSound.{SoundWords}
use Rattle.course.specs.declared.judging.Course.{Course}
use Rattle.footing.specs.Granted.{Verdict, broken, goes, ends, granted}
use Rattle.footing.specs.Fitting.{pages_sound, fitting, next_is_new, sound_for_step, verdict}
use Rattle.footing.specs.Standing.{Asks, SlotStanding, fits, stood}
use Rattle.course.specs.Judged.{judged, if_new, course_of}
use Rattle.course.proofs.JudgeLaws.{granted_judged}
use Rattle.course.proofs.StandLaws.{stood_paired, stood_stands}
use Rattle.index.specs.Step.{Left, left, acted, stepped_task, stepped}
use Rattle.index.specs.Statements.{StepSays}
use Rattle.index.specs.Acting.{acted_cells, Leaves, Waits, Acts}
use Rattle.index.proofs.MakeLaws.{is_pool}
use Rattle.index.proofs.Refusals.{Answers, verdict_answers, changes}

-- ---- a granted step

-- where it stands then, the operation is the same
stood_op : (k : ℕ) (memory : ℕ → Page) (z : Stand) → (stood k memory z).op ≡ z.op
unfolding stood
stood_op k memory z = cond_ind (λ (y : Stand). y.op ≡ z.op) (converting z) (λ _. refl) (λ _. refl)

module _ (op : Op) (k n : ℕ) (ws : List ℕ) (slot : Slot) where
  abbrev z : Stand
  z = stand_of op slot

  abbrev here : Verdict
  here = verdict k n ws z

  abbrev rule : Verdict
  rule = granted k (page_at k ws) (free_pages k n ws) z

  -- the pages are sound for the step if they fit and the page wanted next is new
  by_fit : here ≡ cond (fits k n ws z && next_is_new rule) rule broken
  unfolding verdict sound_for_step fits
  by_fit = refl

  verdict_damaged : fits k n ws z ≡ false → here ≡ broken
  verdict_damaged f = by_fit ∙ cond-false rule broken (and_first_fails (next_is_new rule) f)

  -- where they fit, the rule is the one for an operation that stands where this one then does
  rule_judged : (stand : Slot) → stand ≡ slot_of (stood k (page_at k ws) z) → Paired z → fits k n ws z ≡ true
      → rule ≡ judged k (page_at k ws) (free_pages k n ws) (stand_of op stand)
  unfolding fits
  rule_judged stand e paired t =
      let after : Stand = stood k (page_at k ws) z in
      granted_judged k (page_at k ws) (free_pages k n ws) z
      (and_second (pages_sound k n ws (holding z ++ z.want ∷ [])) (fitting k (page_at k ws) z) t)
      ∙ sym (ap (judged k (page_at k ws) (free_pages k n ws)) (ap (stand_of op) e ∙ ap (λ (o : Op). stand_of o (slot_of after)) (sym (stood_op k (page_at k ws) z)) ∙ stand_new after (stood_paired k (page_at k ws) z paired)))

  verdict_course : {stand : Slot} (course : Course) → stand ≡ slot_of (stood k (page_at k ws) z) → Paired z → fits k n ws z ≡ true
      → course_of k (page_at k ws) (free_pages k n ws) (stand_of op stand) course
      ≡ if_new (judged k (page_at k ws) (free_pages k n ws) (stand_of op stand))
      → here ≡ course_of k (page_at k ws) (free_pages k n ws) (stand_of op stand) course
  verdict_course {stand = stand} course e paired t found =
      by_fit
      ∙ ap (λ (b : Bool). cond (b && next_is_new rule) rule broken) t
      ∙ ap if_new (rule_judged stand e paired t)
      ∙ sym found

-- The slot's want is granted, and its pages were tested.
module _
    (cells : List ℕ) {ws : List ℕ} {s : ℕ} {op : Op} {slot : Slot} (exist : known cells ≡ true) (waits : Waits (as_read cells) s)
    (asks : Asks (as_read cells).k (as_read cells).n ws op slot)
    {fit : Bool} (told : fit ≡ fits (as_read cells).k (as_read cells).n ws (stand_of op slot))
  where
    abbrev st : State
    st = as_read cells

    -- they do not fit
    pub granted_damaged : fit ≡ false → Leaves cells ws s (here op st.k st.n ws slot) Damaged cells ws
    granted_damaged f =
        subst (λ (v : Verdict). Leaves cells ws s v Damaged cells ws) (sym (verdict_damaged op st.k st.n ws slot (sym told ∙ f)))
        (record { answer = refl; state = state_known cells exist; all = refl; words = refl })

    -- they fit
    module _ (t : fit ≡ true) where
      pub granted_fits : fits st.k st.n ws (stand_of op slot) ≡ true
      granted_fits = sym told ∙ t

      -- the operation stands here; its slot has a kind of lock for every page
      module _ {stand : Slot} (e : stand ≡ slot_of (stood st.k (page_at st.k ws) (stand_of op slot))) (paired : Paired (stand_of op slot)) where
        pub granted_stands : SlotStanding op st.k st.n ws stand
        granted_stands = subst (SlotStanding op st.k st.n ws) (sym e) (stood_stands op st.k st.n ws slot asks granted_fits paired)

        pub granted_acts : Acts st ws s op stand
        granted_acts = record { waits = waits; stands = granted_stands }

        -- what the course leaves is what the rule says
        pub granted_leaves : (course : Course)
            → course_of st.k (page_at st.k ws) (free_pages st.k st.n ws) (stand_of op stand) course
            ≡ if_new (judged st.k (page_at st.k ws) (free_pages st.k st.n ws) (stand_of op stand))
            → {r : Answer} {cells' after : List ℕ}
            → Leaves cells ws s (course_of st.k (page_at st.k ws) (free_pages st.k st.n ws) (stand_of op stand) course) r cells' after
            → Leaves cells ws s (here op st.k st.n ws slot) r cells' after
        granted_leaves course found {r} {cells'} {after} h =
            subst (λ (v : Verdict). Leaves cells ws s v r cells' after) (sym (verdict_course op st.k st.n ws slot course e paired granted_fits found)) h

-- ---- the tests, in their order

-- what is left is what the rule says
left_says : {cells ws : List ℕ} {s : ℕ} {r : Answer} {cells' after : List ℕ} (l : Left) → l ≡ stepped (state_of cells) ws s
    → r ≡ l.answer
    → state_of cells' ≡ l.state
    → cells' ≡ lent_after cells s l.answer l.state
    → after ≡ l.words
    → StepSays cells ws s r cells' after
left_says {cells} {s = s} l e answer state all words =
    record {
      answer = ap heard answer ∙ ap (λ (m : Left). heard m.answer) e;
      state = state ∙ ap (λ (m : Left). m.state) e;
      all = all ∙ ap (λ (m : Left). lent_after cells s m.answer m.state) e;
      words = words ∙ ap (λ (m : Left). m.words) e;
    }

-- an answer with every word as given
same_says : {cells ws : List ℕ} {s : ℕ} (a : Answer) → left a (state_of cells) ws ≡ stepped (state_of cells) ws s → changes_nothing a ≡ true → StepSays cells ws s a cells ws
unfolding lent_after
same_says {cells} {ws} {s} a e q =
    left_says (left a (state_of cells) ws) e refl refl (sym (cond-true cells (laid_into cells s (state_of cells)) q)) refl

-- the words of the state by the verdict, and by the answer
acted_cells_lem : (cells ws : List ℕ) (s : ℕ) (v : Verdict) → Answers v
    → acted_cells cells s v (acted (as_read cells) ws s v).state ≡ lent_after cells s (acted (as_read cells) ws s v).answer (acted (as_read cells) ws s v).state
unfolding lent_after
acted_cells_lem cells ws s broken h = refl
acted_cells_lem cells ws s (goes z) h = refl
acted_cells_lem cells ws s (ends answer writes) h = sym (cond-false cells _ (changes answer h))

-- The state is sound, the words are a pool's, and there is such a slot.
pub record Passed (st : State) (ws : List ℕ) (s : ℕ) : Type 0 where
  pub facts : SoundState st
  pub whole : length ws ≡ pool_length st.k st.n
  pub inside : s < slot_count
  -- what the rule leaves is told by the slot's task
  pub rest : stepped_task st ws s (slot_at st s) (slot_at st s).task ≡ stepped st ws s

-- The state was tested.
module _ (st : State) (ws : List ℕ) (s : ℕ) {ok : Bool} (soundTold : ok ≡ sound st) where
  pub is_unsound : ok ≡ false → left BadState st ws ≡ stepped st ws s
  unfolding stepped
  is_unsound f = sym (cond-true _ _ (not_of_false (sym soundTold ∙ f)))

  -- It is sound, and the pool was tested. From here on a pool is what has the right number of words.
  module _ (good : ok ≡ true) {pool : Bool} (poolTold : pool ≡ is_pool st.k st.n ws) where
    facts : SoundState st
    facts = sound_facts st (sym soundTold ∙ good)

    pool_words : pool ≡ eqb (length ws) (pool_length st.k st.n)
    pool_words =
        poolTold
        ∙ ap (λ (b : Bool). b && eqb (length ws) (pool_length st.k st.n))
        (and_both
        (and_both (le-leb 1 st.k facts.k_least) (le-leb st.k largest_k facts.k_most))
        (and_both (le-leb 1 st.n facts.n_least) (le-leb st.n largest_n facts.n_most)))

    after_sound : cond (not pool) (left BadPool st ws) (cond (not (ltb s slot_count)) (left BadSlot st ws) (stepped_task st ws s (slot_at st s) (slot_at st s).task))
        ≡ stepped st ws s
    unfolding stepped
    after_sound =
        ap (λ (b : Bool). cond (not b) (left BadPool st ws) (cond (not (ltb s slot_count)) (left BadSlot st ws) (stepped_task st ws s (slot_at st s) (slot_at st s).task))) pool_words
        ∙ sym (cond-false _ _ (not_of_true (sym soundTold ∙ good)))

    pub no_pool : pool ≡ false → left BadPool st ws ≡ stepped st ws s
    no_pool f = sym (cond-true _ _ (not_of_false f)) ∙ after_sound

    -- It is a pool.
    module _ (whole : pool ≡ true) where
      after_pool : cond (not (ltb s slot_count)) (left BadSlot st ws) (stepped_task st ws s (slot_at st s) (slot_at st s).task) ≡ stepped st ws s
      after_pool = sym (cond-false _ _ (not_of_true whole)) ∙ after_sound

      pub no_slot : slot_count ≤ s → left BadSlot st ws ≡ stepped st ws s
      no_slot b = sym (cond-true _ _ (not_of_false (le-ltb s slot_count b))) ∙ after_pool

      pub tests_passed : s < slot_count → Passed st ws s
      tests_passed b =
          record {
            facts = facts;
            whole = eqb-true (length ws) (pool_length st.k st.n) (sym pool_words ∙ whole);
            inside = b;
            rest = sym (cond-false _ _ (not_of_true (lt-ltb s slot_count b))) ∙ after_pool;
          }

module _ {st : State} {ws : List ℕ} {s : ℕ} (p : Passed st ws s) where
  -- the slot was read
  module _ {slot : Slot} (read : slot ≡ slot_at st s) where
    by_task : {task : Task} → slot.task ≡ task → stepped_task st ws s slot task ≡ stepped st ws s
    by_task e =
        sym (ap (stepped_task st ws s slot) e)
        ∙ ap (λ (x : Slot). stepped_task st ws s x x.task) read
        ∙ p.rest

    -- it is open
    module _ {op : Op} (task : slot.task ≡ Open op) where
      -- it stands in the waiting order
      pub open_waits : Waits st s
      open_waits =
          record {
            inside = p.inside;
            few = p.facts.waits;
            named = p.facts.order_names s p.inside (ap (λ (x : Slot). is_open x.task) (sym read) ∙ ap is_open task);
          }

      -- and it is as a granted step asks
      pub open_asks : Asks st.k st.n ws op slot
      open_asks =
          record {
            least = p.facts.k_least;
            width = p.facts.k_most;
            most = p.facts.n_most;
            whole = p.whole;
            task = task;
            sound = ap (slot_sound st.n) read ∙ slot_sound_lem st.n (slot_at st s) (p.facts.slot s p.inside);
          }

      -- whether it is granted its want was tested
      module _ {granted : Bool} (told : granted ≡ grants st s) where
        by_grant : cond granted (acted st ws s (here op st.k st.n ws slot)) (left Waiting st ws) ≡ stepped st ws s
        by_grant = ap (λ (b : Bool). cond b (acted st ws s (here op st.k st.n ws slot)) (left Waiting st ws)) told ∙ by_task task

        is_waiting : granted ≡ false → left Waiting st ws ≡ stepped st ws s
        is_waiting f = sym (cond-false _ _ f) ∙ by_grant

        is_granted : granted ≡ true → acted st ws s (here op st.k st.n ws slot) ≡ stepped st ws s
        is_granted t = sym (cond-true _ _ t) ∙ by_grant

-- ---- what is promised, by the words

-- the state is not sound
pub says_unsound : (cells ws : List ℕ) (s : ℕ) → sound (state_of cells) ≡ false → StepSays cells ws s BadState cells ws
says_unsound cells ws s f = same_says BadState (is_unsound (state_of cells) ws s refl f) refl

-- it is
module _ (cells ws : List ℕ) (s : ℕ) (w : SoundWords cells) where
  as_state : (l : Left) → l ≡ stepped (as_read cells) ws s → l ≡ stepped (state_of cells) ws s
  as_state l e = e ∙ ap (λ (st : State). stepped st ws s) (sym w.read)

  given : (a : Answer) → left a (as_read cells) ws ≡ stepped (as_read cells) ws s → changes_nothing a ≡ true → StepSays cells ws s a cells ws
  given a e q = same_says a (ap (λ (st : State). left a st ws) w.read ∙ as_state (left a (as_read cells) ws) e) q

  sound_read : true ≡ sound (as_read cells)
  sound_read = sym (facts_sound (as_read cells) w.facts)

  module _ {pool : Bool} (poolTold : pool ≡ is_pool (get_or cells 0 0) (get_or cells 1 0) ws) where
    pub says_pool : pool ≡ false → StepSays cells ws s BadPool cells ws
    says_pool f = given BadPool (no_pool (as_read cells) ws s sound_read refl poolTold f) refl

    module _ (whole : pool ≡ true) where
      pub says_slot : slot_count ≤ s → StepSays cells ws s BadSlot cells ws
      says_slot b = given BadSlot (no_slot (as_read cells) ws s sound_read refl poolTold whole b) refl

      pub words_passed : s < slot_count → Passed (as_read cells) ws s
      words_passed = tests_passed (as_read cells) ws s sound_read refl poolTold whole

  module _ (p : Passed (as_read cells) ws s) {slot : Slot} (read : slot ≡ slot_at (as_read cells) s) where
    pub says_idle : slot.task ≡ Closed → StepSays cells ws s SlotIdle cells ws
    says_idle e = given SlotIdle (by_task p read e) refl

    module _ {op : Op} (task : slot.task ≡ Open op) {granted : Bool} (told : granted ≡ grants (as_read cells) s) where
      pub says_waiting : granted ≡ false → StepSays cells ws s Waiting cells ws
      says_waiting f = given Waiting (is_waiting p read task told f) refl

      pub says_granted : {r : Answer} {cells' after : List ℕ} → granted ≡ true
          → Leaves cells ws s (here op (get_or cells 0 0) (get_or cells 1 0) ws slot) r cells' after
          → StepSays cells ws s r cells' after
      says_granted t h =
          let v = here op (get_or cells 0 0) (get_or cells 1 0) ws slot in
          let l : Left = acted (as_read cells) ws s v in
          left_says l (as_state l (is_granted p read task told t)) h.answer h.state
          (h.all ∙ acted_cells_lem cells ws s v (verdict_answers (get_or cells 0 0) (get_or cells 1 0) ws (stand_of op slot)))
          h.words
