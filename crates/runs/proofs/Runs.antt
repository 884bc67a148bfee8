-- What holds of a run holds from its start on, call after call.
use Prim.Native.Nat.{ℕ, ◌≤◌, ◌<◌}
use mathlib.Core.Bool.{true, false, cond, not, ◌&&◌, false≢true}
use mathlib.Core.List.{List, [], ◌∷◌, ◌++◌}
use mathlib.Core.Path.{◌≡◌, refl, sym, ap, subst, ◌∙◌}
use lib.Dec.{ltb, leb, eqb}
use lib.ListN.{length}
use borrow.Author.Tests.{leb-true, ltb-true, ltb-false, eq-eqb}
use Rattle.ground.specs.Limits.{largest_k, k_in_range, largest_n, n_in_range, slot_count, word_range, blank_key}
use Rattle.ground.proofs.Bools.{and_first, and_second, and_both, not_of_true, not_of_false}
use Rattle.ground.proofs.Choice.{by_test, cond-true, cond-false}
use Rattle.page.specs.Place.{has}
use Rattle.pool.specs.Pool.{pool_length, fresh}
use Rattle.slots.specs.declared.Op.{Op}
use Rattle.slots.specs.declared.Slot.{Slot}
use Rattle.slots.specs.declared.State.{State}
use Rattle.slots.specs.declared.Outcome.{Outcome}
use Rattle.slots.specs.declared.Answer.TheVariants.{Begun, Made, Reported, BadState, BadPool, BadSlot, SlotBusy, BadPage, BadKey}
use Rattle.slots.specs.Operations.{blank_tag}
use Rattle.slots.specs.Parts.{key_of, is_open, open_at, closed_slot, idle_state, Opened}
use Rattle.slots.specs.Book.{begins, goes_on, closes}
use Rattle.slots.specs.Begin.{outcome, begun}
use Rattle.slots.specs.Report.{holders, lowest_holder, lock_kind, reported}
use Rattle.slots.proofs.SoundFacts.{facts_sound}
use Rattle.slots.proofs.Keeping.{same_everywhere, idle_sound, idle_shaped}
use Rattle.index.specs.Step.{Left, left, stepped}
use Rattle.index.specs.Make.{made}
use Rattle.index.proofs.Refusals.{opened_told, accepted_sound}
use Rattle.tree.specs.Tree.{Tr, entries_of, PoolForms}
use Rattle.tree.specs.Facts.{empty_tree}
use Rattle.tree.proofs.Words.{fresh_forms}
use Rattle.tree.proofs.Opening.{opening_unblank}
use Rattle.runs.specs.Run.{Call, begin, step, report, called, run, Start, IsStart, fresh_pool, accepted_pool, run_from, CallInWords, InWords, Run}
use Rattle.runs.proofs.Invariant.{Invariant}
use Rattle.runs.proofs.Calls.{StepOf, no_slot, idle, waits, onward, over, step_of, step_keeps, begin_keeps}

-- What a begin comes to in a run.
pub data BeginOf (st : State) (s : ℕ) (op : Op) : Type 0 where
  no_such : slot_count ≤ s → begun st s op ≡ outcome BadSlot st → BeginOf st s op
  busy : s < slot_count → open_at st s ≡ true → begun st s op ≡ outcome SlotBusy st → BeginOf st s op
  blank : s < slot_count → open_at st s ≡ false → blank_tag op ≡ true → begun st s op ≡ outcome BadKey st → BeginOf st s op
  begins_so : s < slot_count → open_at st s ≡ false → blank_tag op ≡ false → begun st s op ≡ outcome Begun (begins st s op) → BeginOf st s op

-- What a report comes to in a run.
pub data ReportOf (st : State) (p : ℕ) : Type 0 where
  no_page : st.n ≤ p → reported st p ≡ BadPage → ReportOf st p
  tells : p < st.n → reported st p ≡ Reported (lock_kind st p) (holders st p) (lowest_holder st p) → ReportOf st p

-- what is left of the rule for a closed slot, and for any
abbrev taken : State → ℕ → Op → Outcome
taken st s op = cond (blank_tag op) (outcome BadKey st) (outcome Begun (begins st s op))

abbrev found : State → ℕ → Op → Outcome
found st s op = cond (open_at st s) (outcome SlotBusy st) (taken st s op)

by_tag : (st : State) (s : ℕ) (op : Op) → s < slot_count → open_at st s ≡ false → begun st s op ≡ taken st s op → BeginOf st s op
by_tag st s op b c e =
    by_test (blank_tag op)
    (λ t. blank b c t (e ∙ cond-true (outcome BadKey st) _ t))
    (λ t. begins_so b c t (e ∙ cond-false (outcome BadKey st) _ t))

by_slot : (st : State) (s : ℕ) (op : Op) → s < slot_count → begun st s op ≡ found st s op → BeginOf st s op
by_slot st s op b e =
    by_test (open_at st s)
    (λ o. busy b o (e ∙ cond-true (outcome SlotBusy st) _ o))
    (λ c. by_tag st s op b c (e ∙ cond-false (outcome SlotBusy st) _ c))

module _ (st : State) (ws : List ℕ) (inv : Invariant st ws) where
  pub begin_of : (s : ℕ) (op : Op) → BeginOf st s op
  unfolding begun
  begin_of s op =
      let past : begun st s op ≡ cond (not (ltb s slot_count)) (outcome BadSlot st) (found st s op)
      = cond-false (outcome BadState st) _ (not_of_true (facts_sound st inv.sound)) in
      by_test (ltb s slot_count)
      (λ y. by_slot st s op (ltb-true s slot_count y) (past ∙ cond-false (outcome BadSlot st) _ (not_of_true y)))
      (λ z. no_such (ltb-false s slot_count z) (past ∙ cond-true (outcome BadSlot st) _ (not_of_false z)))

  pub report_of : (p : ℕ) → ReportOf st p
  unfolding reported
  report_of p =
      let past : reported st p ≡ cond (not (ltb p st.n)) BadPage (Reported (lock_kind st p) (holders st p) (lowest_holder st p))
      = cond-false BadState _ (not_of_true (facts_sound st inv.sound)) in
      by_test (ltb p st.n)
      (λ y. tells (ltb-true p st.n y) (past ∙ cond-false BadPage _ (not_of_true y)))
      (λ z. no_page (ltb-false p st.n z) (past ∙ cond-true BadPage _ (not_of_false z)))

  begun_keeps : (s : ℕ) (op : Op) → key_of op < word_range → BeginOf st s op → Invariant (begun st s op).state ws
  begun_keeps s op key (no_such b e) = subst (λ (r : Outcome). Invariant r.state ws) (sym e) inv
  begun_keeps s op key (busy b o e) = subst (λ (r : Outcome). Invariant r.state ws) (sym e) inv
  begun_keeps s op key (blank b c t e) = subst (λ (r : Outcome). Invariant r.state ws) (sym e) inv
  begun_keeps s op key (begins_so b c t e) = subst (λ (r : Outcome). Invariant r.state ws) (sym e) (begin_keeps st ws inv s b op c t key)

  -- Every call keeps what holds of a run.
  pub call_keeps : (c : Call) → CallInWords c → Invariant (called st ws c).state (called st ws c).words
  unfolding called
  call_keeps (begin s op) h = begun_keeps s op h.0 (begin_of s op)
  call_keeps (step s) h = step_keeps st ws inv s (step_of st ws inv s)
  call_keeps (report p) h = inv

-- No call changes k or N.
abbrev pub Numbers : State → State → Type 0
Numbers st after = (after.k ≡ st.k) × (after.n ≡ st.n)

begun_numbers : (st : State) (s : ℕ) (op : Op) → BeginOf st s op → Numbers st (begun st s op).state
unfolding begins
begun_numbers st s op (no_such b e) = subst (λ (r : Outcome). Numbers st r.state) (sym e) (refl, refl)
begun_numbers st s op (busy b o e) = subst (λ (r : Outcome). Numbers st r.state) (sym e) (refl, refl)
begun_numbers st s op (blank b c t e) = subst (λ (r : Outcome). Numbers st r.state) (sym e) (refl, refl)
begun_numbers st s op (begins_so b c t e) = subst (λ (r : Outcome). Numbers st r.state) (sym e) (refl, refl)

stepped_numbers : (st : State) (ws : List ℕ) (inv : Invariant st ws) (s : ℕ) → StepOf st ws inv s → Numbers st (stepped st ws s).state
unfolding goes_on closes
stepped_numbers st ws inv s (no_slot b e) = subst (λ (r : Left). Numbers st r.state) (sym e) (refl, refl)
stepped_numbers st ws inv s (idle b c e) = subst (λ (r : Left). Numbers st r.state) (sym e) (refl, refl)
stepped_numbers st ws inv s (waits op b runs g e) = subst (λ (r : Left). Numbers st r.state) (sym e) (refl, refl)
stepped_numbers st ws inv s (onward op z b runs g e same stance locked takes) = subst (λ (r : Left). Numbers st r.state) (sym e) (refl, refl)
stepped_numbers st ws inv s (over op a writes b runs g e ended) = subst (λ (r : Left). Numbers st r.state) (sym e) (refl, refl)

pub call_numbers : (st : State) (ws : List ℕ) → Invariant st ws → (c : Call) → Numbers st (called st ws c).state
unfolding called
call_numbers st ws inv (begin s op) = begun_numbers st s op (begin_of st ws inv s op)
call_numbers st ws inv (step s) = stepped_numbers st ws inv s (step_of st ws inv s)
call_numbers st ws inv (report p) = (refl, refl)

-- the tree that the words form, by other names of its k and N
pub forms_with : {k n : ℕ} {st : State} {ws : List ℕ} (inv : Invariant st ws) → (st.k ≡ k) × (st.n ≡ n) → PoolForms k n ws inv.height inv.tree
forms_with {k} {n} {st} {ws} inv numbers =
    subst (λ (m : ℕ). PoolForms k m ws inv.height inv.tree) numbers.1
    (subst (λ (m : ℕ). PoolForms m st.n ws inv.height inv.tree) numbers.0 inv.forms)

-- Calls as a caller can make them: those before a moment, those behind it, and the two one behind the other.
pub words_before : (before rest : List Call) → InWords (before ++ rest) → InWords before
words_before [] rest h = tt
words_before (c ∷ before) rest h = (h.0, words_before before rest h.1)

pub words_behind : (before rest : List Call) → InWords (before ++ rest) → InWords rest
words_behind [] rest h = h
words_behind (c ∷ before) rest h = words_behind before rest h.1

pub words_append : (before rest : List Call) → InWords before → InWords rest → InWords (before ++ rest)
words_append [] rest h g = g
words_append (c ∷ before) rest h g = (h.0, words_append before rest h.1 g)

-- What every call keeps, every list of calls keeps.
pub run_keeps : (cs : List Call) (st : State) (ws : List ℕ) → Invariant st ws → InWords cs → Invariant (run cs st ws).state (run cs st ws).words
unfolding run
run_keeps [] st ws inv h = inv
run_keeps (c ∷ cs) st ws inv h = run_keeps cs (called st ws c).state (called st ws c).words (call_keeps st ws inv c h.0) h.1

pub run_numbers : (cs : List Call) (st : State) (ws : List ℕ) → Invariant st ws → InWords cs → Numbers st (run cs st ws).state
unfolding run
run_numbers [] st ws inv h = (refl, refl)
run_numbers (c ∷ cs) st ws inv h =
    let one = call_numbers st ws inv c in
    let rest = run_numbers cs (called st ws c).state (called st ws c).words (call_keeps st ws inv c h.0) h.1 in
    (rest.0 ∙ one.0, rest.1 ∙ one.1)

-- ---- the start

-- no slot of an idle state is open
idle_shut : (k n s : ℕ) (op : Op) → Opened (idle_state k n) s op → ⊥
idle_shut k n s op runs = false≢true (sym (ap (λ (sl : Slot). is_open sl.task) (same_everywhere slot_count s closed_slot)) ∙ ap is_open runs)

-- What every start is: every slot is closed, and the words form a tree, whose entries are those that the list begins with.
pub record Ready (start : Start) : Type 0 where
  pub holds : Invariant start.state start.words
  pub shut : (s : ℕ) (op : Op) → Opened start.state s op → ⊥
  pub entries : entries_of holds.height holds.tree ≡ start.entries

-- Every slot closed, over words that form a tree without a lot of a blank tag: a run can start there.
idle_ready : (k n : ℕ) (ws : List ℕ) (l : ℕ) (t : Tr l) → k_in_range k && n_in_range n ≡ true → PoolForms k n ws l t → has blank_key (entries_of l t) ≡ false
    → Ready (record { state = idle_state k n; words = ws; entries = entries_of l t })
idle_ready k n ws l t h forms unblank =
    record {
      holds = record {
        shaped = idle_shaped k n;
        sound = idle_sound k n
            (leb-true 1 k (and_first (leb 1 k) (leb k largest_k) ks))
            (leb-true k largest_k (and_second (leb 1 k) (leb k largest_k) ks))
            (leb-true 1 n (and_first (leb 1 n) (leb n largest_n) ns))
            (leb-true n largest_n (and_second (leb 1 n) (leb n largest_n) ns));
        height = l;
        tree = t;
        forms = forms;
        no_blank = unblank;
        keys = λ s op b runs. absurd (idle_shut k n s op runs);
        tags = λ s op b runs. absurd (idle_shut k n s op runs);
        stands = λ s op b runs. absurd (idle_shut k n s op runs);
        locked = λ s op b runs. absurd (idle_shut k n s op runs);
      };
      shut = idle_shut k n;
      entries = refl;
    }
  where
    ks : k_in_range k ≡ true
    ks = and_first (k_in_range k) (n_in_range n) h

    ns : n_in_range n ≡ true
    ns = and_second (k_in_range k) (n_in_range n) h

made_told : (k n : ℕ) (ws : List ℕ) → k_in_range k && n_in_range n ≡ true → length ws ≡ pool_length k n → made k n ws ≡ left Made (idle_state k n) (fresh k n)
unfolding made
made_told k n ws h w = cond-true _ (left BadPool (idle_state 0 0) ws) (and_both h (eq-eqb (length ws) (pool_length k n) w))

-- Every start is such a one. "From a fresh pool": its tree is an empty leaf; "from an accepted pool": the tree that its words form.
pub start_ready : (start : Start) → IsStart start → Ready start
unfolding has
start_ready start (fresh_pool k n ws h w) =
    subst (λ (m : Left). Ready (record { state = m.state; words = m.words; entries = [] })) (sym (made_told k n ws h w))
    (idle_ready k n (fresh k n) 0 empty_tree h
    (fresh_forms k n (leb-true 1 n (and_first (leb 1 n) (leb n largest_n) (and_second (k_in_range k) (n_in_range n) h))))
    refl)
start_ready start (accepted_pool k n ws l t a forms) =
    let (range, told) = opened_told k n ws a in
    subst (λ (m : Left). Ready (record { state = m.state; words = m.words; entries = entries_of l t })) (sym told)
    (idle_ready k n ws l t (and_first (k_in_range k && n_in_range n) (eqb (length ws) (pool_length k n)) range) forms
    (opening_unblank k n ws l t forms.whole (accepted_sound k n ws a) forms))

-- After every run, whatever was called.
pub holds_after : (start : Start) (cs : List Call) → Run start cs → Invariant (run_from start cs).state (run_from start cs).words
unfolding run_from
holds_after start cs r = run_keeps cs start.state start.words (start_ready start r.starts).holds r.in_words

-- k and N are those of the start.
pub numbers_after : (start : Start) (cs : List Call) → Run start cs → Numbers start.state (run_from start cs).state
unfolding run_from
numbers_after start cs r = run_numbers cs start.state start.words (start_ready start r.starts).holds r.in_words
