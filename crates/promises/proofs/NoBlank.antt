-- No lot of a blank tag is in a run: read off what holds after every call, where no entry of the tree has its key and no slot is open with it. What a
-- Next is answered is an entry of the tree.
use Prim.Native.Nat.{ℕ, ◌<◌}
use mathlib.Core.Bool.{Bool, true, false, not, ◌&&◌}
use mathlib.Core.List.{List, [], ◌∷◌, ◌++◌, map}
use mathlib.Core.Logic.{◌≢◌}
use mathlib.Core.Path.{◌≡◌, refl, sym, ap, subst, ◌∙◌}
use native.Mathlib.Omega.{arith}
use lib.Dec.{leb, eqb}
use borrow.Author.Tests.{leb-true, leb-false, eqb-true, eqb-false, eq-eqb, ne_eqb, not-true}
use Rattle.ground.specs.Limits.{blank_key}
use Rattle.ground.specs.Tests.{all, member}
use Rattle.ground.proofs.Bools.{not_both, false_if_not_true, and_first, and_second, and_both, and_first_fails, not_of_false}
use Rattle.ground.proofs.Choice.{by_test, cond_ind}
use Rattle.ground.proofs.Tests.{all_append, all_member}
use Rattle.page.specs.Words.{Entry, Page}
use Rattle.page.specs.Place.{has, at_or_above}
use Rattle.page.specs.Sound.{rises}
use Rattle.pool.specs.Pool.{page_at}
use Rattle.slots.specs.declared.Op.{Op}
use Rattle.slots.specs.declared.Op.TheVariants.{Search, Insert, Delete, Next, Regrade}
use Rattle.slots.specs.declared.State.{State}
use Rattle.slots.specs.declared.Answer.{Answer}
use Rattle.slots.specs.declared.Answer.TheVariants.{Next as NextLot}
use Rattle.slots.specs.Heard.{number_of, value_of, is_one_of, counted_answers}
use Rattle.footing.specs.Granted.{next_answer}
use Rattle.index.specs.Step.{stepped}
use Rattle.tree.specs.Tree.{Tr, entries_of, occurs, PoolForms}
use Rattle.tree.proofs.SoundPages.{sound_pages}
use Rattle.runs.specs.Calls.{Call, begin, step, report, called, answers_of}
use Rattle.runs.specs.Run.{run, Start, run_from, InWords, Run}
use Rattle.runs.specs.Plain.{Reply, plain}
use Rattle.runs.specs.PlainFacts.{Missing}
use Rattle.runs.proofs.Invariant.{Invariant}
use Rattle.runs.proofs.PlainLaws.{among_has, has_missing, plain_facts}
use Rattle.runs.proofs.Runs.{call_keeps, holds_after, numbers_after, forms_with, start_ready}
use Rattle.runs.proofs.Agreement.{entries_in, same_entries, StepDoes, keeps, ends, step_does}
use Rattle.promises.specs.NoBlank.{NoBlankHolds}
use Rattle.promises.proofs.Terms.{blank_is}
use Rattle.promises.proofs.Demand2.{call_heard}
use Rattle.promises.proofs.Demand3.{tree_rises, demand3}

-- ---- the lots

-- no leaf of the pool has the key: a page of the tree is sound, and any other is no leaf
abbrev LeavesLack : ℕ → ℕ → List ℕ → Type 0
LeavesLack k n ws = (p : ℕ) → p < n → (page_at k ws p).level ≡ 1 → Missing blank_key (page_at k ws p).entries

leaves_lack : (st : State) (ws : List ℕ) → Invariant st ws → LeavesLack st.k st.n ws
leaves_lack st ws inv p inside leaf =
    let memory : ℕ → Page = page_at st.k ws in
    let times : ℕ = occurs p inv.height inv.tree in
    by_test (leb 1 times)
    (λ y. has_missing blank_key (memory p).entries
    ((sound_pages st.k st.n memory inv.height inv.tree inv.sound.k_least inv.sound.n_most inv.forms.forms inv.no_blank p
    (leb-true 1 times y)).no_blank (eq-eqb (memory p).level 1 leaf)))
    (λ z.
    let few = leb-false 1 times z in
    let free : (memory p).level ≡ 0 = ap (λ (P : Page). P.level) (inv.forms.forms.others p inside (omega arith)) in
    absurd (omega arith))

-- whatever tree the words of a run form, it has no such lot
pub trees_unblank : (start : Start) (cs : List Call) → Run start cs → (l : ℕ) (t : Tr l)
    → PoolForms start.state.k start.state.n (run_from start cs).words l t → has blank_key (entries_of l t) ≡ false
trees_unblank start cs r l t forms =
    let inv : Invariant (run_from start cs).state (run_from start cs).words = holds_after start cs r in
    ap (has blank_key)
    (same_entries start.state.k start.state.n (run_from start cs).words l t inv.height inv.tree forms (forms_with inv (numbers_after start cs r)))
    ∙ inv.no_blank

-- ---- the answers

-- the number of the answer that names a lot, and an answer that names the lot of a blank tag
abbrev lot_number : ℕ
lot_number = number_of (NextLot 0 0)

abbrev pub names_blank : Answer → Bool
names_blank a = eqb (number_of a) lot_number && eqb (value_of a 0) blank_key

-- the plain list answers none: the first entry at or above a key is one of its entries
first_names : (es : List Entry) → rises es ≡ true → has blank_key es ≡ false → (x : ℕ) (found : List Entry) → at_or_above x es ≡ found
    → names_blank (next_answer found) ≡ false
unfolding plain
first_names es r none x [] e = refl
first_names es r none x (f ∷ rest) e =
    let there = among_has f.key f.value es ((plain_facts es r).next x f.key f.value (ap next_answer e)).there in
    ne_eqb f.key blank_key (λ same. not_both there (ap (λ (y : ℕ). has y es) same ∙ none))

plain_names : (es : List Entry) → rises es ≡ true → has blank_key es ≡ false → (op : Op) → names_blank (plain op es).answer ≡ false
unfolding plain
plain_names es r none (Search x) = cond_ind (λ (a : Answer). names_blank a ≡ false) (has x es) (λ _. refl) (λ _. refl)
plain_names es r none (Insert x v way) = cond_ind (λ (p : Reply). names_blank p.answer ≡ false) (has x es) (λ _. refl) (λ _. refl)
plain_names es r none (Delete x way) = cond_ind (λ (p : Reply). names_blank p.answer ≡ false) (has x es) (λ _. refl) (λ _. refl)
plain_names es r none (Next x) = first_names es r none x (at_or_above x es) refl
plain_names es r none (Regrade x v way) = cond_ind (λ (p : Reply). names_blank p.answer ≡ false) (has x es) (λ _. refl) (λ _. refl)

-- an answer that does not count names no lot
uncounted_names : (a : Answer) → is_one_of a counted_answers ≡ false → names_blank a ≡ false
unfolding member
uncounted_names a uncounted =
    and_first_fails (eqb (value_of a 0) blank_key)
    (false_if_not_true (eqb (number_of a) lot_number)
    (λ t. not_both (ap (λ (m : ℕ). member m (map number_of counted_answers)) (eqb-true (number_of a) lot_number t)) uncounted))

-- nor does one of a call that cannot be answered so
other_names : (c : Call) (a : Answer) → all (λ (m : ℕ). not (eqb m lot_number)) (map number_of (answers_of c)) ≡ true → is_one_of a (answers_of c) ≡ true
    → names_blank a ≡ false
other_names c a others h =
    and_first_fails (eqb (value_of a 0) blank_key)
    (not-true (eqb (number_of a) lot_number) (all_member (λ (m : ℕ). not (eqb m lot_number)) (map number_of (answers_of c)) others (number_of a) h))

module _ (st : State) (ws : List ℕ) (inv : Invariant st ws) where
  step_names : (s : ℕ) → StepDoes st ws inv s → names_blank (stepped st ws s).answer ≡ false
  step_names s (keeps uncounted same) = uncounted_names (stepped st ws s).answer uncounted
  step_names s (ends op b runs answer entries) = ap names_blank answer ∙ plain_names (entries_in st ws inv) (tree_rises st ws inv) inv.no_blank op

  call_names : (c : Call) → names_blank (called st ws c).answer ≡ false
  unfolding all called
  call_names (begin s op) = other_names (begin s op) (called st ws (begin s op)).answer refl (call_heard st ws inv (begin s op))
  call_names (step s) = step_names s (step_does st ws inv s)
  call_names (report p) = other_names (report p) (called st ws (report p)).answer refl (call_heard st ws inv (report p))

run_names : (cs : List Call) (st : State) (ws : List ℕ) → Invariant st ws → InWords cs
    → all (λ (a : Answer). not (names_blank a)) (run cs st ws).answers ≡ true
unfolding all run
run_names [] st ws inv h = refl
run_names (c ∷ cs) st ws inv h =
    and_both (not_of_false (call_names st ws inv c))
    (run_names cs (called st ws c).state (called st ws c).words (call_keeps st ws inv c h.0) h.1)

-- no answer of a run names such a lot
pub names_none : (start : Start) (cs : List Call) → Run start cs → all (λ (a : Answer). not (names_blank a)) (run_from start cs).answers ≡ true
unfolding run_from
names_none start cs r = run_names cs start.state start.words (start_ready start r.starts).holds r.in_words

-- and so none in the midst of them does
midst_names : (before after : List Answer) (x v : ℕ) → all (λ (a : Answer). not (names_blank a)) (before ++ NextLot x v ∷ after) ≡ true → x ≢ blank_key
unfolding all
midst_names before after x v h =
    let behind : not (eqb x blank_key) && all (λ (a : Answer). not (names_blank a)) after ≡ true
    = and_second (all (λ (a : Answer). not (names_blank a)) before) _ (sym (all_append (λ (a : Answer). not (names_blank a)) before (NextLot x v ∷ after)) ∙ h) in
    eqb-false x blank_key (not-true (eqb x blank_key) (and_first (not (eqb x blank_key)) (all (λ (a : Answer). not (names_blank a)) after) behind))

-- ---- the theorem

pub no_blank_holds : NoBlankHolds
no_blank_holds start cs r =
    let n : ℕ = start.state.n in
    let st : State = (run_from start cs).state in
    let after : List ℕ = (run_from start cs).words in
    let inv : Invariant st after = holds_after start cs r in
    let numbers = numbers_after start cs r in
    let a = (demand3 start cs r).agreement in
    record {
      leaves = subst (λ (k : ℕ). LeavesLack k n after) numbers.0 (subst (λ (m : ℕ). LeavesLack st.k m after) numbers.1 (leaves_lack st after inv));
      trees = λ l t forms. has_missing blank_key (entries_of l t) (trees_unblank start cs r l t forms);
      list = has_missing blank_key _ (ap (has blank_key) (sym a.entries) ∙ trees_unblank start cs r a.height a.tree a.forms);
      asks = λ s op b runs blank. not_both ((blank_is op).1 blank) (inv.tags s op b runs);
      answers = λ before behind x v e. midst_names before behind x v (ap (all (λ (a : Answer). not (names_blank a))) (sym e) ∙ names_none start cs r);
    }
