-- Demand 3 holds: agreement, room, no standstill, rounds and counts, read off what holds of every state of a run.
use Prim.Native.Nat.{ℕ, ◌*◌, ◌<◌}
use mathlib.Core.Bool.{true}
use mathlib.Core.List.{List, [], ◌∷◌, ◌++◌}
use mathlib.Core.Path.{◌≡◌, sym, ap, subst, ◌∙◌}
use Rattle.ground.specs.Limits.{slot_count, word_range}
use Rattle.ground.proofs.Limits.{rounds_of_slots}
use Rattle.page.specs.Words.{Entry}
use Rattle.page.specs.Sound.{rises}
use Rattle.slots.specs.declared.Op.{Op}
use Rattle.slots.specs.declared.State.{State}
use Rattle.slots.specs.Parts.{open_at, slot_at}
use Rattle.tree.specs.Tree.{root_least, PoolForms}
use Rattle.tree.proofs.Sorted.{rises_within}
use Rattle.tree.proofs.Search.{within_entries}
use Rattle.runs.specs.Run.{Call, Start, run_from, InWords, Run}
use Rattle.runs.specs.Plain.{plain}
use Rattle.runs.specs.Done.{plain_entries}
use Rattle.runs.proofs.Invariant.{Invariant}
use Rattle.runs.proofs.Runs.{holds_after, numbers_after, forms_with, words_before, Ready, start_ready}
use Rattle.runs.proofs.Progress.{some_can_go, opened}
use Rattle.runs.proofs.Agreement.{entries_in, same_entries, agreement}
use Rattle.runs.proofs.PlainLaws.{plain_facts}
use Rattle.runs.proofs.Rounds.{rounds_close}
use Rattle.runs.proofs.Counts.{granted_heard, counts_from}
use Rattle.promises.specs.Demand3.{Agreement, Room, SomeGoes, Demand3Holds}
use Rattle.promises.proofs.Room.{room}

-- ---- the same answers

agrees_so : (start : Start) (cs : List Call) → Run start cs → Agreement start cs (run_from start cs)
agrees_so start cs r =
    let k : ℕ = start.state.k in
    let n : ℕ = start.state.n in
    let after : List ℕ = (run_from start cs).words in
    let inv : Invariant (run_from start cs).state after = holds_after start cs r in
    let a = agreement start cs r in
    let forms : PoolForms k n after inv.height inv.tree = forms_with inv (numbers_after start cs r) in
    record {
      answers = a.answers;
      height = inv.height;
      tree = inv.tree;
      forms = forms;
      only = λ l t f. same_entries k n after l t inv.height inv.tree f forms;
      entries = a.entries inv.height inv.tree inv.forms;
    }

-- the calls before a moment of a run are a run
pub run_before : (start : Start) (cs before rest : List Call) → cs ≡ before ++ rest → Run start cs → Run start before
run_before start cs before rest e r = record { starts = r.starts; in_words = words_before before rest (subst InWords e r.in_words) }

-- ---- no standstill

some_goes : (st : State) (ws : List ℕ) → Invariant st ws → (s : ℕ) → s < slot_count → open_at st s ≡ true → SomeGoes st ws
some_goes st ws inv s b o =
    let (u, c, q, g) = some_can_go st ws inv s b o in
    let (op, runs) = opened (slot_at st u).task q in
    record { slot = u; inside = c; opened = q; granted = g; answered = granted_heard st ws inv u (record { op = op; inside = c; runs = runs; granted = g }) }

-- ---- the plain list

-- from a list on whose keys rise
plain_rises : (ops : List Op) (es : List Entry) → rises es ≡ true → rises (plain_entries ops es) ≡ true
unfolding plain_entries
plain_rises [] es h = h
plain_rises (op ∷ ops) es h = plain_rises ops (plain op es).entries ((plain_facts es h).rising op)

-- and so do those of a tree
pub tree_rises : (st : State) (ws : List ℕ) (inv : Invariant st ws) → rises (entries_in st ws inv) ≡ true
tree_rises st ws inv =
    rises_within 0 word_range (entries_in st ws inv)
    (within_entries st.k (root_least inv.height) (2 * st.k) inv.height inv.tree 0 word_range inv.forms.forms.in_range)

start_rises : (start : Start) → Ready start → rises start.entries ≡ true
start_rises start ready = ap rises (sym ready.entries) ∙ tree_rises start.state start.words ready.holds

-- ---- the demand

pub demand3 : Demand3Holds
demand3 start cs r =
    let k : ℕ = start.state.k in
    let st : State = (run_from start cs).state in
    let after : List ℕ = (run_from start cs).words in
    let inv : Invariant st after = holds_after start cs r in
    let numbers = numbers_after start cs r in
    record {
      agreement = agrees_so start cs r;
      every_moment = λ before rest e. agrees_so start before (run_before start cs before rest e r);
      plain_list = λ ops. plain_facts (plain_entries ops start.entries) (plain_rises ops start.entries (start_rises start (start_ready start r.starts)));
      room = subst (λ (m : ℕ). Room k m st after) numbers.1 (subst (λ (m : ℕ). Room m st.n st after) numbers.0 (room st after inv));
      some_goes = some_goes st after inv;
      rounds = rounds_close st after inv;
      grant_counts = counts_from st after inv;
      rounds_of_slots = rounds_of_slots;
    }
