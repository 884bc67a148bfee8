-- A refused call, and one answered Waiting, leaves state and words as given, and no call changes the pool's length. Opening changes no word.
use Prim.Native.Nat.{ℕ}
use mathlib.Core.Bool.{true, false, not, ◌&&◌, true≢false, false≢true}
use mathlib.Core.Path.{◌≡◌, refl, sym, ap, ◌∙◌}
use mathlib.Core.List.{List, [], ◌∷◌, map, reverse}
use lib.Dec.{leb, ltb, eqb}
use lib.ListN.{length}
use borrow.Author.Tests.{ltb-true, eqb-true, not-true}
use Rattle.ground.specs.Limits.{k_in_range, n_in_range, slot_count}
use Rattle.ground.specs.Tests.{all, member}
use Rattle.ground.proofs.Bools.{not_both, and_second}
use Rattle.ground.proofs.Choice.{by_test, cond_ind, cond-true}
use Rattle.ground.proofs.Tests.{all_member}
use Rattle.pool.proofs.WriteLaws.{length_applied}
use Rattle.pool.proofs.FreshLaws.{length_fresh}
use Rattle.page.specs.Words.{Entry, Page, is_leaf}
use Rattle.page.specs.Place.{has, at_or_above}
use Rattle.pool.specs.Pool.{pool_length, page_at, free_pages}
use Rattle.std.specs.Prelude.{⊤, Result, Ok, Err}
use Rattle.opening.specs.declared.checking.Fault.{Fault}
use Rattle.opening.specs.declared.checking.Fault.TheVariants.{Unsound, NoTree}
use Rattle.opening.specs.Opening.{lowest_unsound, checked}
use Rattle.opening.proofs.CheckLaws.{none_found, checked_unsound}
use Rattle.change.specs.Insertion.{room}
use Rattle.change.specs.Deletion.{Need, nothing, sibling, astray, needs}
use Rattle.slots.specs.declared.Op.{Op}
use Rattle.slots.specs.declared.Op.TheVariants.{Search, Insert, Delete, Next, Regrade}
use Rattle.slots.specs.declared.Task.{Task}
use Rattle.slots.specs.declared.Task.TheVariants.{Closed, Open}
use Rattle.slots.specs.declared.Slot.{Slot}
use Rattle.slots.specs.declared.State.{State}
use Rattle.slots.specs.declared.Answer.{Answer}
use Rattle.slots.specs.declared.Answer.TheVariants.{Waiting, Moved, BadPool, Opened, BadPageInPool, BadTree}
use Rattle.slots.specs.Heard.{number_of, refuses, changes_nothing, ending}
use Rattle.slots.specs.Begin.{begun}
use Rattle.slots.specs.Parts.{key_of, is_next, is_second, slot_at, idle_state, Stand, on_pages, want_beside, want_converted, converting, stand_of}
use Rattle.slots.specs.Sound.{sound}
use Rattle.slots.specs.Grant.{grants}
use Rattle.lent.specs.Words.{state_of, lent_after}
use Rattle.footing.specs.Granted.{Verdict, broken, goes, ends, is_safe, kept, kept_locks, by_need, deletes, next_answer, crosses, by_nearest, at_leaf, from_leaf, comes_down, goes_left, besides, converts, converted_first, at_its_leaf, stays_second, granted}
use Rattle.footing.proofs.OnTurn.{converted_by}
use Rattle.footing.specs.Fitting.{sound_for_step, verdict}
use Rattle.index.specs.Step.{Left, left, of_granted, acted, stepped_task, stepped}
use Rattle.index.specs.Make.{made}
use Rattle.index.specs.Open.{opened_as, opened}
use Rattle.index.specs.Statements.{BeginSays, StepSays}

-- an operation ends with an answer of a granted step: with no refusal, and not with Waiting
abbrev pub Answers : Verdict → Type 0
Answers broken = Unit {0}
Answers (goes z) = Unit {0}
Answers (ends answer writes) = of_granted answer ≡ true

by_need_lem : (z : Stand) (whole : Verdict) (n : Need) → Answers whole → Answers (by_need z whole n)
by_need_lem z whole nothing h = h
by_need_lem z whole (sibling s) h = tt
by_need_lem z whole astray h = tt

deletes_answers : (k : ℕ) (memory : ℕ → Page) (x : ℕ) (z : Stand) (leaf : ℕ) (fathers : List ℕ) → Answers (deletes k memory x z leaf fathers)
unfolding deletes member
deletes_answers k memory x z leaf fathers = by_need_lem z _ (needs k memory x leaf fathers z.beside) refl

next_answers : (es : List Entry) → of_granted (next_answer es) ≡ true
unfolding member
next_answers [] = refl
next_answers (e ∷ es) = refl

crosses_answers : (x k : ℕ) (memory : ℕ → Page) (z : Stand) (path : List ℕ) → Answers (crosses x k memory z path)
unfolding member
crosses_answers x k memory z [] = tt
crosses_answers x k memory z (top ∷ below) = cond_ind Answers (is_safe (Next x) k (memory top)) (λ _. tt) (λ _. refl)

by_nearest_lem : (further : Verdict) (es : List Entry) → Answers further → Answers (by_nearest further es)
by_nearest_lem further [] h = h
by_nearest_lem further (e ∷ es) h = next_answers (e ∷ es)

leaf_answers : (op : Op) (k : ℕ) (memory : ℕ → Page) (free : List ℕ) (z : Stand) (leaf : ℕ) (fathers : List ℕ) → Answers (at_leaf op k memory free z leaf fathers)
unfolding at_leaf member
leaf_answers (Search x) k memory free z leaf fathers = cond_ind (λ (a : Answer). of_granted a ≡ true) (has x (memory leaf).entries) (λ _. refl) (λ _. refl)
leaf_answers (Insert x v way) k memory free z leaf fathers =
    cond_ind Answers (has x (memory leaf).entries) (λ _. refl)
    (λ _. cond_ind Answers (ltb (length free) (room k memory leaf z.path)) (λ _. refl) (λ _. refl))
leaf_answers (Delete x way) k memory free z leaf fathers =
    cond_ind Answers (has x (memory leaf).entries) (λ _. deletes_answers k memory x z leaf fathers) (λ _. refl)
leaf_answers (Next x) k memory free z leaf fathers =
    by_nearest_lem (crosses x k memory z z.path) (at_or_above x (memory leaf).entries) (crosses_answers x k memory z z.path)
leaf_answers (Regrade x v way) k memory free z leaf fathers = cond_ind Answers (has x (memory leaf).entries) (λ _. refl) (λ _. refl)

from_leaf_lem : (act : ℕ → List ℕ → Verdict) → ((leaf : ℕ) (fathers : List ℕ) → Answers (act leaf fathers)) → (up : List ℕ) → Answers (from_leaf act up)
from_leaf_lem act h [] = tt
from_leaf_lem act h (leaf ∷ fathers) = h leaf fathers

left_answers : (memory : ℕ → Page) (z : Stand) → Answers (goes_left memory z)
unfolding goes_left
left_answers memory z = cond_ind Answers (is_leaf (memory z.want)) (λ _. next_answers (at_or_above (key_of z.op) (memory z.want).entries)) (λ _. tt)

-- by its way, and with conversions first
first_answers : (k : ℕ) (memory : ℕ → Page) (z : Stand) (leaf : ℕ) (fathers : List ℕ) (act : Verdict) → Answers act → Answers (converted_first k memory z leaf fathers act)
first_answers k memory z leaf fathers act h = converted_by Answers k memory z leaf fathers act h (λ _. tt)

pub granted_answers : (k : ℕ) (memory : ℕ → Page) (free : List ℕ) (z : Stand) → Answers (granted k memory free z)
unfolding granted comes_down besides converts
granted_answers k memory free z =
    let down : Stand = on_pages z (kept k memory z) (kept_locks k memory z) [] [] in
    let x : ℕ = key_of z.op in
    cond_ind Answers (converting z)
    (λ _. from_leaf_lem _
    (λ leaf fathers. first_answers k memory (want_converted z) leaf fathers _ (leaf_answers z.op k memory free (want_converted z) leaf fathers))
    (reverse z.path))
    (λ _. cond_ind Answers (at_its_leaf memory (reverse z.path))
    (λ _. cond_ind Answers (is_next z.op)
    (λ _. left_answers memory z)
    (λ _. from_leaf_lem _
    (λ leaf fathers. first_answers k memory (want_beside z) leaf fathers _ (deletes_answers k memory x (want_beside z) leaf fathers))
    (reverse z.path)))
    (λ _. cond_ind Answers (is_leaf (memory z.want)) (λ _. from_leaf_lem _
    (λ leaf fathers. cond_ind Answers (is_second z.op && not (stays_second z.op k memory leaf)) (λ _. tt)
    (λ _. first_answers k memory down leaf fathers _ (leaf_answers z.op k memory free down leaf fathers)))
    (reverse down.path)) (λ _. tt)))

pub verdict_answers : (k n : ℕ) (ws : List ℕ) (z : Stand) → Answers (verdict k n ws z)
unfolding verdict
verdict_answers k n ws z = cond_ind Answers (sound_for_step k n ws z) (λ _. granted_answers k (page_at k ws) (free_pages k n ws) z) (λ _. tt)

-- an answer of a granted step is none that leaves all as given
pub changes : (a : Answer) → of_granted a ≡ true → changes_nothing a ≡ false
unfolding all
changes a h =
    not-true (changes_nothing a)
    (all_member (λ (m : ℕ). not (leb m (number_of Waiting))) (map number_of (Moved ∷ ending)) refl (number_of a) h)

-- state and words are as they were given
pub record AsGiven (st : State) (ws : List ℕ) (after : Left) : Type 0 where
  pub state : after.state ≡ st
  pub words : after.words ≡ ws

abbrev Stays : State → List ℕ → Left → Type 0
Stays st ws after = changes_nothing after.answer ≡ true → AsGiven st ws after

unchanged : (st : State) (ws : List ℕ) (a : Answer) → Stays st ws (left a st ws)
unchanged st ws a _ = record { state = refl; words = refl }

acted_stays : (st : State) (ws : List ℕ) (s : ℕ) (v : Verdict) → Answers v → Stays st ws (acted st ws s v)
acted_stays st ws s broken h = unchanged st ws _
acted_stays st ws s (goes z) h = λ e. absurd (false≢true e)
acted_stays st ws s (ends answer writes) h = λ e. not_both e (changes answer h)

task_stays : (st : State) (ws : List ℕ) (s : ℕ) (slot : Slot) (task : Task) → Stays st ws (stepped_task st ws s slot task)
task_stays st ws s slot Closed = unchanged st ws _
task_stays st ws s slot (Open op) =
    cond_ind (Stays st ws) (grants st s)
    (λ _. acted_stays st ws s (verdict st.k st.n ws (stand_of op slot)) (verdict_answers st.k st.n ws (stand_of op slot)))
    (λ _. unchanged st ws _)

-- A step that is refused or answered Waiting leaves state and words as given.
pub step_refused : (st : State) (ws : List ℕ) (s : ℕ) → changes_nothing (stepped st ws s).answer ≡ true → AsGiven st ws (stepped st ws s)
unfolding stepped
step_refused st ws s =
    cond_ind (Stays st ws) (not (sound st)) (λ _. unchanged st ws _)
    (λ _. cond_ind (Stays st ws) (not (eqb (length ws) (pool_length st.k st.n))) (λ _. unchanged st ws _)
    (λ _. cond_ind (Stays st ws) (not (ltb s slot_count)) (λ _. unchanged st ws _)
    (λ _. task_stays st ws s (slot_at st s) (slot_at st s).task)))

-- "as given; making returns an empty state, k and N 0, which is itself BadState"
pub make_refused : (k n : ℕ) (ws : List ℕ) → refuses (made k n ws).answer ≡ true → AsGiven (idle_state 0 0) ws (made k n ws)
unfolding made
make_refused k n ws =
    cond_ind (λ (after : Left). refuses after.answer ≡ true → AsGiven (idle_state 0 0) ws after)
    (k_in_range k && n_in_range n && eqb (length ws) (pool_length k n))
    (λ _ e. absurd (false≢true e))
    (λ _ _. record { state = refl; words = refl })

-- What an opening can come to: refused it leaves the words and the empty state, accepted the words and every slot closed.
module _ (k n : ℕ) (ws : List ℕ) (P : Left → Type 0) where
  opened_as_lem : P (left Opened (idle_state k n) ws) → ((p : ℕ) → P (left (BadPageInPool p) (idle_state 0 0) ws)) → P (left BadTree (idle_state 0 0) ws)
      → (c : Result ⊤ Fault) → P (opened_as k n ws c)
  opened_as_lem accepted page tree (Err (Unsound p)) = page p
  opened_as_lem accepted page tree (Ok _) = accepted
  opened_as_lem accepted page tree (Err NoTree) = tree

  pub opened_ind : (k_in_range k && n_in_range n && eqb (length ws) (pool_length k n) ≡ true → P (left Opened (idle_state k n) ws))
      → P (left BadPool (idle_state 0 0) ws) → ((p : ℕ) → P (left (BadPageInPool p) (idle_state 0 0) ws)) → P (left BadTree (idle_state 0 0) ws)
      → P (opened k n ws)
  unfolding opened
  opened_ind accepted pool page tree =
      cond_ind P (k_in_range k && n_in_range n && eqb (length ws) (pool_length k n))
      (λ e. opened_as_lem (accepted e) page tree (checked k n ws))
      (λ _. pool)

-- "A refusal leaves the words as given, returns the empty state"
pub open_refused : (k n : ℕ) (ws : List ℕ) → refuses (opened k n ws).answer ≡ true → AsGiven (idle_state 0 0) ws (opened k n ws)
open_refused k n ws =
    opened_ind k n ws (λ (after : Left). refuses after.answer ≡ true → AsGiven (idle_state 0 0) ws after)
    (λ _ e. absurd (false≢true e))
    (λ _. empty)
    (λ _ _. empty)
    (λ _. empty)
  where
    empty : {a : Answer} → AsGiven (idle_state 0 0) ws (left a (idle_state 0 0) ws)
    empty = record { state = refl; words = refl }

-- Accepted or refused, the words are as given.
pub open_words : (k n : ℕ) (ws : List ℕ) → (opened k n ws).words ≡ ws
open_words k n ws = opened_ind k n ws (λ (after : Left). after.words ≡ ws) (λ _. refl) refl (λ _. refl) refl

-- "Acceptance gives a state with all slots closed.": and then k, N and the words' number are in range.
pub opened_told : (k n : ℕ) (ws : List ℕ) → (opened k n ws).answer ≡ Opened
    → (k_in_range k && n_in_range n && eqb (length ws) (pool_length k n) ≡ true) × (opened k n ws ≡ left Opened (idle_state k n) ws)
opened_told k n ws =
    opened_ind k n ws
    (λ (after : Left). after.answer ≡ Opened → (k_in_range k && n_in_range n && eqb (length ws) (pool_length k n) ≡ true) × (after ≡ left Opened (idle_state k n) ws))
    (λ range _. (range, refl))
    (λ e. absurd (true≢false (ap refuses e)))
    (λ p e. absurd (true≢false (ap refuses e)))
    (λ e. absurd (true≢false (ap refuses e)))

-- an opening that finds a page that is not sound is refused; so where it is accepted there is none
pub accepted_sound : (k n : ℕ) (ws : List ℕ) → (opened k n ws).answer ≡ Opened → lowest_unsound k n ws ≡ n
unfolding opened
accepted_sound k n ws a =
    by_test (ltb (lowest_unsound k n ws) n)
    (λ low.
    let refused : opened k n ws ≡ left (BadPageInPool (lowest_unsound k n ws)) (idle_state 0 0) ws
    = cond-true _ (left BadPool (idle_state 0 0) ws) (opened_told k n ws a).0
    ∙ ap (opened_as k n ws) (sym (checked_unsound k n ws (ltb-true (lowest_unsound k n ws) n low))) in
    absurd (true≢false (ap refuses (sym (ap (λ (after : Left). after.answer) refused) ∙ a))))
    (none_found k n ws)

abbrev SameLength : List ℕ → Left → Type 0
SameLength ws after = length after.words ≡ length ws

acted_length : (st : State) (ws : List ℕ) (s : ℕ) (v : Verdict) → SameLength ws (acted st ws s v)
acted_length st ws s broken = refl
acted_length st ws s (goes z) = refl
acted_length st ws s (ends answer writes) = length_applied st.k writes ws

task_length : (st : State) (ws : List ℕ) (s : ℕ) (slot : Slot) (task : Task) → SameLength ws (stepped_task st ws s slot task)
task_length st ws s slot Closed = refl
task_length st ws s slot (Open op) =
    cond_ind (SameLength ws) (grants st s) (λ _. acted_length st ws s (verdict st.k st.n ws (stand_of op slot))) (λ _. refl)

-- No step changes the pool's length, and no making does.
pub step_length : (st : State) (ws : List ℕ) (s : ℕ) → length (stepped st ws s).words ≡ length ws
unfolding stepped
step_length st ws s =
    cond_ind (SameLength ws) (not (sound st)) (λ _. refl)
    (λ _. cond_ind (SameLength ws) (not (eqb (length ws) (pool_length st.k st.n))) (λ _. refl)
    (λ _. cond_ind (SameLength ws) (not (ltb s slot_count)) (λ _. refl)
    (λ _. task_length st ws s (slot_at st s) (slot_at st s).task)))

pub make_length : (k n : ℕ) (ws : List ℕ) → length (made k n ws).words ≡ length ws
unfolding made
make_length k n ws =
    cond_ind (SameLength ws) (k_in_range k && n_in_range n && eqb (length ws) (pool_length k n))
    (λ e. length_fresh k n ∙ sym (eqb-true (length ws) (pool_length k n) (and_second (k_in_range k && n_in_range n) (eqb (length ws) (pool_length k n)) e)))
    (λ _. refl)

-- A beginning that is refused, and a step that is refused or answered Waiting, leaves every word of the state as given.
pub begin_kept : {cells : List ℕ} {s : ℕ} {op : Op} {r : Answer} {after : List ℕ} → BeginSays cells s op r after → changes_nothing (begun (state_of cells) s op).answer ≡ true
    → after ≡ cells
unfolding lent_after
begin_kept {cells} h q = h.all ∙ cond-true cells _ q

pub step_kept : {cells ws : List ℕ} {s : ℕ} {r : Answer} {cells' after : List ℕ} → StepSays cells ws s r cells' after → changes_nothing (stepped (state_of cells) ws s).answer ≡ true
    → cells' ≡ cells
unfolding lent_after
step_kept {cells} h q = h.all ∙ cond-true cells _ q
