-- The ended operations of a run are answered as the plain sorted list answers them, and its entries are the tree's.
use Prim.Native.Nat.{ℕ, ◌<◌}
use mathlib.Core.Bool.{true, false}
use mathlib.Core.Logic.{⊎_elim, ◌≢◌}
use mathlib.Core.List.{List, [], ◌∷◌, ◌++◌}
use mathlib.Core.Path.{◌≡◌, refl, sym, ap, ap₂, subst, ◌∙◌}
use borrow.Author.Tests.{eq-eqb, ne_eqb}
use Rattle.ground.specs.Limits.{slot_count}
use Rattle.ground.specs.Tests.{member}
use Rattle.ground.proofs.Choice.{cond_ind, cond-true, cond-false}
use Rattle.page.specs.Words.{Entry}
use Rattle.page.specs.Place.{has, at_or_above}
use Rattle.pool.specs.Pool.{Write, applied}
use Rattle.slots.specs.declared.Op.{Op}
use Rattle.slots.specs.declared.Op.TheVariants.{Search, Insert, Delete, Next, Regrade}
use Rattle.slots.specs.declared.Task.TheVariants.{Open}
use Rattle.slots.specs.declared.Slot.{Slot}
use Rattle.slots.specs.declared.State.{State}
use Rattle.slots.specs.declared.Outcome.{Outcome}
use Rattle.slots.specs.declared.Answer.{Answer}
use Rattle.slots.specs.declared.Answer.TheVariants.{Waiting, Moved, Begun, BadSlot, SlotBusy, SlotIdle, BadKey}
use Rattle.slots.specs.Parts.{first_way, Stand, fresh_stand, stand_of, slot_of, slot_at, closed_slot, Opened}
use Rattle.slots.specs.Heard.{is_one_of, counted_answers}
use Rattle.slots.specs.Book.{rewritten, begins, goes_on, closes}
use Rattle.slots.proofs.OrderLaws.{same_or_not}
use Rattle.slots.proofs.Keeping.{slot_here, slot_other}
use Rattle.footing.specs.Granted.{next_answer}
use Rattle.index.specs.Step.{Left, left, stepped}
use Rattle.tree.specs.Tree.{Tr, entries_of, PoolForms}
use Rattle.tree.specs.Facts.{AnyTree}
use Rattle.tree.proofs.Determined.{pool_determined}
use Rattle.tree.proofs.Words.{pool_leads}
use Rattle.runs.specs.Run.{Call, begin, step, report, called, Told, run, Start, run_from, InWords, Run}
use Rattle.runs.specs.Plain.{Reply, plain}
use Rattle.runs.specs.Done.{Done, ended, nobody, asks, done, plain_answers, plain_entries, ops_of, answers_in}
use Rattle.runs.specs.Step.{Ended}
use Rattle.runs.proofs.Invariant.{Invariant}
use Rattle.runs.proofs.PlainLaws.{plain_ways}
use Rattle.runs.proofs.Calls.{StepOf, no_slot, idle, waits, onward, over, step_of, same_op, closed_open}
use Rattle.runs.proofs.Runs.{BeginOf, no_such, busy, blank, begins_so, begin_of, call_keeps, call_numbers, forms_with, Ready, start_ready}

-- the entries of the tree that the words form
abbrev pub entries_in : (st : State) (ws : List ℕ) → Invariant st ws → List Entry
entries_in st ws inv = entries_of inv.height inv.tree

abbrev entries_any : AnyTree → List Entry
entries_any t = entries_of t.0 t.1

-- the words determine them
pub same_entries : (k n : ℕ) (ws : List ℕ) (l : ℕ) (t : Tr l) (l' : ℕ) (t' : Tr l') → PoolForms k n ws l t → PoolForms k n ws l' t' → entries_of l t ≡ entries_of l' t'
same_entries k n ws l t l' t' f f' = ap entries_any (pool_determined k n ws l t l' t' f f')

-- after an operation that ended they are those that it ended with
pub ended_entries : (st : State) (ws : List ℕ) (inv : Invariant st ws) (z : Stand) (a : Answer) (writes : List Write)
    → (e : Ended st.k st.n ws inv.height inv.tree z a writes)
    → (l : ℕ) (t : Tr l) → PoolForms st.k st.n (applied st.k writes ws) l t → entries_of l t ≡ e.entries
ended_entries st ws inv z a writes e l t f =
    same_entries st.k st.n (applied st.k writes ws) l t e.leads.height e.leads.tree f
    (pool_leads st.k st.n ws inv.height inv.tree writes e.entries inv.forms e.leads)
    ∙ e.leads.entries

-- what was asked in a slot is what runs there, by its way or begun again by the first way
abbrev pub Knows : State → (ℕ → Op) → Type 0
Knows st asked = (s : ℕ) (op : Op) → s < slot_count → Opened st s op → first_way (asked s) ≡ first_way op

-- The plain list, worked through these operations from the entries es, gives their answers, and has then the entries of the
-- tree that the words form.
pub record Agrees (es : List Entry) (ds : List Done) (st : State) (ws : List ℕ) : Type 0 where
  pub answers : answers_in ds ≡ plain_answers (ops_of ds) es
  pub entries : (l : ℕ) (t : Tr l) → PoolForms st.k st.n ws l t → entries_of l t ≡ plain_entries (ops_of ds) es

-- both answers of a Next count
next_counted : (es : List Entry) → is_one_of (next_answer es) counted_answers ≡ true
unfolding member
next_counted [] = refl
next_counted (e ∷ es) = refl

-- an operation of the plain list ends with an answer that counts
pub plain_counted : (op : Op) (es : List Entry) → is_one_of (plain op es).answer counted_answers ≡ true
unfolding plain member
plain_counted (Search x) es = cond_ind (λ (a : Answer). is_one_of a counted_answers ≡ true) (has x es) (λ _. refl) (λ _. refl)
plain_counted (Insert x v way) es = cond_ind (λ (r : Reply). is_one_of r.answer counted_answers ≡ true) (has x es) (λ _. refl) (λ _. refl)
plain_counted (Delete x way) es = cond_ind (λ (r : Reply). is_one_of r.answer counted_answers ≡ true) (has x es) (λ _. refl) (λ _. refl)
plain_counted (Next x) es = next_counted (at_or_above x es)
plain_counted (Regrade x v way) es = cond_ind (λ (r : Reply). is_one_of r.answer counted_answers ≡ true) (has x es) (λ _. refl) (λ _. refl)

-- ---- what was asked stays known

module _ (st : State) (ws : List ℕ) (inv : Invariant st ws) (s : ℕ) (b : s < slot_count) (asked : ℕ → Op) (knows : Knows st asked) where
  -- a slot written anew: what was asked of it, and of the others (the waiting order does not matter)
  knows_anew : (slot : Slot) (asked' : ℕ → Op)
      → ((op : Op) → slot.task ≡ Open op → first_way (asked' s) ≡ first_way op) → ((u : ℕ) → u ≢ s → asked' u ≡ asked u) → Knows (rewritten st s slot [] 0) asked'
  knows_anew slot asked' here other u op c runs =
      ⊎_elim
      (λ e. ap (λ (u : ℕ). first_way (asked' u)) e ∙ here op (sym (ap (λ (sl : Slot). sl.task) (ap (slot_at (rewritten st s slot [] 0)) e ∙ slot_here st inv.shaped s b slot [] 0)) ∙ runs))
      (λ n. ap first_way (other u n) ∙ knows u op c (sym (ap (λ (sl : Slot). sl.task) (slot_other st inv.shaped s b slot [] 0 u n)) ∙ runs))
      (same_or_not u s)

  knows_begun : (op : Op) → Knows (begins st s op) (asks s op asked)
  unfolding begins
  knows_begun op =
      knows_anew (slot_of (fresh_stand op)) (asks s op asked)
      (λ op' e. ap first_way (cond-true op (asked s) (eq-eqb s s refl) ∙ same_op e))
      (λ u n. cond-false op (asked u) (ne_eqb u s n))

  knows_onward : (op : Op) (z : Stand) → Opened st s op → first_way z.op ≡ first_way op → Knows (goes_on st s z) asked
  unfolding goes_on
  knows_onward op z runs same = knows_anew (slot_of z) asked (λ op' e. knows s op b runs ∙ sym same ∙ ap first_way (same_op e)) (λ u n. refl)

  knows_closed : Knows (closes st s) asked
  unfolding closes
  knows_closed = knows_anew closed_slot asked (λ op e. absurd (closed_open e)) (λ u n. refl)

-- ---- one call

-- What a step does to the entries of the tree: nothing, and its answer counts for nothing; or it ends an operation as the plain list has it.
pub data StepDoes (st : State) (ws : List ℕ) (inv : Invariant st ws) (s : ℕ) : Type 0 where
  keeps : is_one_of (stepped st ws s).answer counted_answers ≡ false
      → ((l : ℕ) (t : Tr l) → PoolForms st.k st.n (stepped st ws s).words l t → entries_of l t ≡ entries_in st ws inv)
      → StepDoes st ws inv s
  ends : (op : Op) → s < slot_count → Opened st s op
      → (stepped st ws s).answer ≡ (plain op (entries_in st ws inv)).answer
      → ((l : ℕ) (t : Tr l) → PoolForms st.k st.n (stepped st ws s).words l t → entries_of l t ≡ (plain op (entries_in st ws inv)).entries)
      → StepDoes st ws inv s

module _ (st : State) (ws : List ℕ) (inv : Invariant st ws) (s : ℕ) where
  -- the words stay
  still : (a : Answer) (next : State) → is_one_of a counted_answers ≡ false → stepped st ws s ≡ left a next ws → StepDoes st ws inv s
  still a next uncounted e =
      keeps (ap (λ (r : Left). is_one_of r.answer counted_answers) e ∙ uncounted)
      (λ l t f. same_entries st.k st.n ws l t inv.height inv.tree (subst (λ (r : Left). PoolForms st.k st.n r.words l t) e f) inv.forms)

  by_step : StepOf st ws inv s → StepDoes st ws inv s
  unfolding member
  by_step (no_slot b e) = still BadSlot st refl e
  by_step (idle b c e) = still SlotIdle st refl e
  by_step (waits op b runs g e) = still Waiting st refl e
  by_step (onward op z b runs g e same stance locked takes) = still Moved (goes_on st s z) refl e
  by_step (over op a writes b runs g e ended) =
      let answer : (stepped st ws s).answer ≡ a = ap (λ (r : Left). r.answer) e in
      let entries : (l : ℕ) (t : Tr l) → PoolForms st.k st.n (stepped st ws s).words l t → entries_of l t ≡ ended.entries
      = λ l t f. ended_entries st ws inv (stand_of op (slot_at st s)) a writes ended l t (subst (λ (r : Left). PoolForms st.k st.n r.words l t) e f) in
      ⊎_elim
      (λ p. ends op b runs (answer ∙ p.answer) (λ l t f. entries l t f ∙ p.entries))
      (λ none. keeps (ap (λ (x : Answer). is_one_of x counted_answers) (answer ∙ none.0.answer)) (λ l t f. entries l t f ∙ none.1))
      ended.how

  pub step_does : StepDoes st ws inv s
  step_does = by_step (step_of st ws inv s)

-- What one call that answers a adds to the list: nothing, and the entries stay; or the operation that ended, as the plain list has it.
pub record Adds (es : List Entry) (c : Call) (asked : ℕ → Op) (after : Left) (es' : List Entry) : Type 0 where
  pub asked' : ℕ → Op
  pub knows : Knows after.state asked'
  pub adds : List Done
  pub done_so : (cs : List Call) (heard : List Answer) → done (c ∷ cs) (after.answer ∷ heard) asked ≡ adds ++ done cs heard asked'
  pub answers : (ds : List Done) → answers_in ds ≡ plain_answers (ops_of ds) es' → answers_in (adds ++ ds) ≡ plain_answers (ops_of (adds ++ ds)) es
  pub entries : (ds : List Done) → plain_entries (ops_of (adds ++ ds)) es ≡ plain_entries (ops_of ds) es'

module _ (st : State) (ws : List ℕ) (inv : Invariant st ws) (asked : ℕ → Op) (knows : Knows st asked) where
  -- nothing was added
  same_so : (c : Call) (after : Left) (asked' : ℕ → Op) → Knows after.state asked'
      → ((cs : List Call) (heard : List Answer) → done (c ∷ cs) (after.answer ∷ heard) asked ≡ done cs heard asked')
      → Adds (entries_in st ws inv) c asked after (entries_in st ws inv)
  same_so c after asked' known so = record {
    asked' = asked';
    knows = known;
    adds = [];
    done_so = so;
    answers = λ ds e. e;
    entries = λ ds. refl;
  }

  begin_adds : (s : ℕ) (op : Op) → BeginOf st s op → Adds (entries_in st ws inv) (begin s op) asked (called st ws (begin s op)) (entries_in st ws inv)
  unfolding called done member
  begin_adds s op (no_such b e) =
      subst (λ (r : Outcome). Adds (entries_in st ws inv) (begin s op) asked (left r.answer r.state ws) (entries_in st ws inv)) (sym e)
      (same_so (begin s op) (left BadSlot st ws) asked knows (λ cs heard. refl))
  begin_adds s op (busy b o e) =
      subst (λ (r : Outcome). Adds (entries_in st ws inv) (begin s op) asked (left r.answer r.state ws) (entries_in st ws inv)) (sym e)
      (same_so (begin s op) (left SlotBusy st ws) asked knows (λ cs heard. refl))
  begin_adds s op (blank b c t e) =
      subst (λ (r : Outcome). Adds (entries_in st ws inv) (begin s op) asked (left r.answer r.state ws) (entries_in st ws inv)) (sym e)
      (same_so (begin s op) (left BadKey st ws) asked knows (λ cs heard. refl))
  begin_adds s op (begins_so b c t e) =
      subst (λ (r : Outcome). Adds (entries_in st ws inv) (begin s op) asked (left r.answer r.state ws) (entries_in st ws inv)) (sym e)
      (same_so (begin s op) (left Begun (begins st s op) ws) (asks s op asked) (knows_begun st ws inv s b asked knows op) (λ cs heard. refl))

  -- what is asked is known after a step
  step_knows : (s : ℕ) → StepOf st ws inv s → Knows (stepped st ws s).state asked
  step_knows s (no_slot b e) = subst (λ (r : Left). Knows r.state asked) (sym e) knows
  step_knows s (idle b c e) = subst (λ (r : Left). Knows r.state asked) (sym e) knows
  step_knows s (waits op b runs g e) = subst (λ (r : Left). Knows r.state asked) (sym e) knows
  step_knows s (onward op z b runs g e same stance locked takes) =
      subst (λ (r : Left). Knows r.state asked) (sym e) (knows_onward st ws inv s b asked knows op z runs same)
  step_knows s (over op a writes b runs g e how) = subst (λ (r : Left). Knows r.state asked) (sym e) (knows_closed st ws inv s b asked knows)

  -- a step adds what it does to the entries
  abbrev After : ℕ → Type 0
  After s = (es : List Entry) × Adds (entries_in st ws inv) (step s) asked (stepped st ws s) es
      × ((l : ℕ) (t : Tr l) → PoolForms st.k st.n (stepped st ws s).words l t → entries_of l t ≡ es)

  step_adds : (s : ℕ) → Knows (stepped st ws s).state asked → StepDoes st ws inv s → After s
  unfolding done plain_answers plain_entries
  step_adds s known (keeps uncounted same) = (
    entries_in st ws inv,
    same_so (step s) (stepped st ws s) asked known
        (λ cs heard. cond-false (ended s (asked s) (stepped st ws s).answer ∷ done cs heard asked) (done cs heard asked) uncounted),
    same,
  )
  step_adds s known (ends op b runs answer entries) =
      let es = entries_in st ws inv in
      let so : plain op es ≡ plain (asked s) es
      = plain_ways op es ∙ ap (λ (o : Op). plain o es) (sym (knows s op b runs)) ∙ sym (plain_ways (asked s) es) in
      let next = ap (λ (r : Reply). r.entries) so in (
        (plain op (entries_in st ws inv)).entries,
        record {
          asked' = asked;
          knows = known;
          adds = ended s (asked s) (stepped st ws s).answer ∷ [];
          done_so = λ cs heard. cond-true (ended s (asked s) (stepped st ws s).answer ∷ done cs heard asked) (done cs heard asked)
              (ap (λ (x : Answer). is_one_of x counted_answers) answer ∙ plain_counted op (entries_in st ws inv));
          answers = λ ds h. ap₂ ◌∷◌ (answer ∙ ap (λ (r : Reply). r.answer) so) (h ∙ ap (plain_answers (ops_of ds)) next);
          entries = λ ds. ap (plain_entries (ops_of ds)) (sym next);
        },
        entries,
      )

  -- every call
  pub call_adds : (c : Call) → (es : List Entry) × Adds (entries_in st ws inv) c asked (called st ws c) es
      × ((l : ℕ) (t : Tr l) → PoolForms st.k st.n (called st ws c).words l t → entries_of l t ≡ es)
  unfolding called done
  call_adds (begin s op) =
      (entries_in st ws inv, begin_adds s op (begin_of st ws inv s op), λ l t f. same_entries st.k st.n ws l t inv.height inv.tree f inv.forms)
  call_adds (step s) = step_adds s (step_knows s (step_of st ws inv s)) (step_does st ws inv s)
  call_adds (report p) =
      (entries_in st ws inv, same_so (report p) (called st ws (report p)) asked knows (λ cs heard. refl), λ l t f. same_entries st.k st.n ws l t inv.height inv.tree f inv.forms)

-- ---- all calls

pub agrees : (cs : List Call) (st : State) (ws : List ℕ) (inv : Invariant st ws) (asked : ℕ → Op) → Knows st asked → InWords cs
    → Agrees (entries_in st ws inv) (done cs (run cs st ws).answers asked) (run cs st ws).state (run cs st ws).words
unfolding run done plain_answers plain_entries
agrees [] st ws inv asked knows h = record {
  answers = refl;
  entries = λ l t f. same_entries st.k st.n ws l t inv.height inv.tree f inv.forms;
}
agrees (c ∷ cs) st ws inv asked knows h =
    let (es, adds, told) = call_adds st ws inv asked knows c in
    let one : Left = called st ws c in
    let inv' : Invariant one.state one.words = call_keeps st ws inv c h.0 in
    let same : entries_in one.state one.words inv' ≡ es = told inv'.height inv'.tree (forms_with inv' (call_numbers st ws inv c)) in
    let rest = agrees cs one.state one.words inv' adds.asked' adds.knows h.1 in
    let heard : List Answer = (run cs one.state one.words).answers in
    let ds : List Done = done cs heard adds.asked' in
    subst (λ (list : List Done). Agrees (entries_in st ws inv) list (run cs one.state one.words).state (run cs one.state one.words).words) (sym (adds.done_so cs heard))
    (record {
      answers = adds.answers ds (rest.answers ∙ ap (plain_answers (ops_of ds)) same);
      entries = λ l t f. rest.entries l t f ∙ ap (plain_entries (ops_of ds)) same ∙ sym (adds.entries ds);
    })

-- From every start, with its entries.
pub agreement : (start : Start) (cs : List Call) → Run start cs
    → Agrees start.entries (done cs (run_from start cs).answers nobody) (run_from start cs).state (run_from start cs).words
unfolding run_from
agreement start cs r =
    let ready : Ready start = start_ready start r.starts in
    let told : Told = run cs start.state start.words in
    subst (λ (es : List Entry). Agrees es (done cs told.answers nobody) told.state told.words) ready.entries
    (agrees cs start.state start.words ready.holds nobody (λ s op b runs. absurd (ready.shut s op runs)) r.in_words)
