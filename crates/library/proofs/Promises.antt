-- Calls of the library, one after the other, are a run; so the demands hold of them.
use Prim.Native.Nat.{ℕ, ◌<◌}
use mathlib.Core.Bool.{Bool, true, not, ◌&&◌, true≢false}
use mathlib.Core.List.{List, [], ◌∷◌, ◌++◌, map, append-nil}
use mathlib.Core.Logic.{⊎_elim}
use mathlib.Core.Path.{◌≡◌, refl, sym, ap, subst, ◌∙◌}
use native.Mathlib.Omega.{arith}
use borrow.Author.Tests.{ltb-true, ltb-false}
use lib.Dec.{eqb, ltb}
use lib.ListN.{length, get_or, get_or-eq_default}
use Rattle.ground.specs.Limits.{k_in_range, n_in_range, word_range, slot_count}
use Rattle.ground.specs.Tests.{all, member}
use Rattle.ground.proofs.Bools.{and_first, and_both}
use Rattle.ground.proofs.Choice.{cond_ind, by_test}
use Rattle.ground.proofs.Tests.{all_member}
use Rattle.pool.specs.Pool.{pool_length}
use Rattle.page.specs.Words.{Entry}
use Rattle.std.specs.Prelude.{Option, Some, None}
use Rattle.slots.specs.declared.Op.{Op}
use Rattle.slots.specs.declared.State.{State}
use Rattle.slots.specs.declared.Answer.{Answer}
use Rattle.slots.specs.declared.Answer.TheVariants.{Made, Opened}
use Rattle.slots.specs.Heard.{number_of, is_one_of}
use Rattle.slots.specs.Operations.{kind_number, operations, of_kind, asked_by}
use Rattle.slots.specs.Parts.{slot_at, closed_slot}
use Rattle.slots.proofs.Keeping.{same_everywhere}
use Rattle.lent.specs.Layout.{row_length, path_row, beside_row}
use Rattle.lent.specs.Words.{list_of, slot_in, known, state_of}
use Rattle.lent.proofs.ListLaws.{length_list_of}
use Rattle.lent.proofs.StateLaws.{slot_read, length_column, length_locks, closed_layable}
use Rattle.index.specs.Make.{made}
use Rattle.index.specs.Step.{Left}
use Rattle.index.specs.Open.{opened}
use Rattle.index.proofs.Refusals.{opened_ind}
use Rattle.embed.specs.Told.{told, leaves_all}
use Rattle.embed.specs.Statements.{begin_told, begin_next}
use Rattle.tree.specs.Tree.{PoolForms}
use Rattle.runs.specs.Calls.{Call, begin, step, report, called, answers_of}
use Rattle.runs.specs.Run.{run, Start, IsStart, fresh_pool, accepted_pool, opened_start, run_from, InWords, Run}
use Rattle.runs.proofs.Invariant.{Invariant}
use Rattle.runs.proofs.Runs.{call_keeps, words_append, start_ready}
use Rattle.promises.specs.Demand1.{MakingInRange, Celled}
use Rattle.promises.specs.Demand2.{AfterEveryCall}
use Rattle.promises.specs.TopOpen.{TopOpen}
use Rattle.promises.specs.Regrading.{IsThere, NotDeleted, NeverNowhere}
use Rattle.promises.proofs.Demand1.{range_tested, make_demand, open_demand, step_demand}
use Rattle.promises.proofs.Demand2.{call_heard, demand2}
use Rattle.promises.proofs.Demand3.{demand3}
use Rattle.promises.proofs.TopOpen.{top_open_holds}
use Rattle.promises.proofs.Regrading.{regrading_holds}
use Rattle.promises.proofs.Reopening.{reopening_holds}
use Rattle.promises.proofs.NoBlank.{names_blank, names_none, no_blank_holds}
use Rattle.library.specs.Promises.{Went, begins, steps, reports, Follow, OpenedBy, making, opening, begins_with, calls_in, told_first, told_in, quiet_number, quiet_four, blank_four, LibraryRuns, LibraryOpens, LibraryReopens, LibrarySteps, LibraryPromises, LibraryKeepsLots}

-- ---- what is left and told

-- these calls, from this state and these words on, are these calls of the rules
record Goes (st : State) (ws : List ℕ) (cs : List Call) (fours : List (List ℕ)) (last lastWs : List ℕ) : Type 0 where
  state : state_of last ≡ (run cs st ws).state
  words : lastWs ≡ (run cs st ws).words
  answers : fours ≡ map told (run cs st ws).answers

-- from an equal state and equal words
from_here : {st next : State} {ws after last lastWs : List ℕ} {cs : List Call} {fours : List (List ℕ)} → st ≡ next → ws ≡ after
    → Goes st ws cs fours last lastWs → Goes next after cs fours last lastWs
from_here {st = st} {after = after} {last = last} {lastWs = lastWs} {cs = cs} {fours = fours} e w g =
    subst (λ (next : State). Goes next after cs fours last lastWs) e (subst (λ (ws : List ℕ). Goes st ws cs fours last lastWs) w g)

-- one call more
more : (st : State) (ws : List ℕ) (c : Call) (cs : List Call) (four : List ℕ) (fours : List (List ℕ)) (last lastWs : List ℕ)
    → four ≡ told (called st ws c).answer → Goes (called st ws c).state (called st ws c).words cs fours last lastWs
    → Goes st ws (c ∷ cs) (four ∷ fours) last lastWs
unfolding run
more st ws c cs four fours last lastWs e g = record {
  state = g.state;
  words = g.words;
  answers = ap (λ (f : List ℕ). f ∷ fours) e ∙ ap (λ (fs : List (List ℕ)). told (called st ws c).answer ∷ fs) g.answers;
}

-- a beginning, by what was asked
begin_more : (cells ws : List ℕ) (s : ℕ) (asked : Option Op) (cells' four : List ℕ) (cs : List Call) (fours : List (List ℕ)) (last lastWs : List ℕ)
    → four ≡ begin_told cells s asked → state_of cells' ≡ begin_next cells s asked → Goes (state_of cells') ws cs fours last lastWs
    → Goes (state_of cells) ws (begins_with s asked cs) (told_first four asked fours) last lastWs
unfolding called
begin_more cells ws s (Some op) cells' four cs fours last lastWs e next g = more (state_of cells) ws (begin s op) cs four fours last lastWs e (from_here next refl g)
begin_more cells ws s None cells' four cs fours last lastWs e next g = from_here next refl g

follow_goes : (calls : List Went) (cells ws last lastWs : List ℕ) → Follow cells ws calls last lastWs
    → Goes (state_of cells) ws (calls_in calls) (told_in calls) last lastWs
unfolding calls_in told_in called run
follow_goes [] cells ws last lastWs h = record { state = ap state_of h.0; words = h.1; answers = refl }
follow_goes (begins s kind key information cells' four ∷ rest) cells ws last lastWs h =
    begin_more cells ws s (asked_by kind key information) cells' four (calls_in rest) (told_in rest) last lastWs h.2.answer h.2.state
    (follow_goes rest cells' ws last lastWs h.3)
follow_goes (steps s cells' ws' four ∷ rest) cells ws last lastWs h =
    more (state_of cells) ws (step s) (calls_in rest) four (told_in rest) last lastWs h.0.answer
    (from_here h.0.state h.0.words (follow_goes rest cells' ws' last lastWs h.1))
follow_goes (reports p four ∷ rest) cells ws last lastWs h =
    more (state_of cells) ws (report p) (calls_in rest) four (told_in rest) last lastWs h.0.answer (follow_goes rest cells ws last lastWs h.1)

-- ---- it is a run

-- keys and informations are words: of each operation that a kind may name
each_in_words : (s kind : ℕ) (cs : List Call) → InWords cs → (ops : List Op) → InWords (map (begin s) ops) → InWords (begins_with s (of_kind kind ops) cs)
each_in_words s kind cs h [] none = h
each_in_words s kind cs h (op ∷ ops) (first, others) =
    cond_ind (λ (a : Option Op). InWords (begins_with s a cs)) (eqb kind (kind_number op)) (λ _. (first, h)) (λ _. each_in_words s kind cs h ops others)

asked_in_words : (s kind key information : ℕ) (cs : List Call) → key < word_range → information < word_range → InWords cs
    → InWords (begins_with s (asked_by kind key information) cs)
unfolding word_range
asked_in_words s kind key information cs hk hi h =
    let no : 0 < word_range = omega arith in
    each_in_words s kind cs h (operations key information) ((hk, no), ((hk, hi), ((hk, no), ((hk, no), ((hk, hi), ((hk, hi), ((hk, no), ((hk, hi), ((hk, hi), ((hk, no), ((hk, hi), tt)))))))))))

follow_in_words : (calls : List Went) (cells ws last lastWs : List ℕ) → Follow cells ws calls last lastWs → InWords (calls_in calls)
unfolding calls_in
follow_in_words [] cells ws last lastWs h = tt
follow_in_words (begins s kind key information cells' four ∷ rest) cells ws last lastWs h =
    asked_in_words s kind key information (calls_in rest) h.0 h.1 (follow_in_words rest cells' ws last lastWs h.3)
follow_in_words (steps s cells' ws' four ∷ rest) cells ws last lastWs h = (tt, follow_in_words rest cells' ws' last lastWs h.1)
follow_in_words (reports p four ∷ rest) cells ws last lastWs h = (tt, follow_in_words rest cells ws last lastWs h.1)

-- a making that is told as Made had its numbers in range
made_in_range : (k n : ℕ) (ws : List ℕ) → told (made k n ws).answer ≡ told Made → MakingInRange k n ws
made_in_range k n ws e =
    ⊎_elim
    (λ bad. let z : ◌≡◌ {A = ℕ} 2 42 = sym (ap (λ (a : Answer). get_or (told a) 0 0) bad) ∙ ap (λ (f : List ℕ). get_or f 0 0) e in absurd (omega (arith, z)))
    (make_demand k n ws).makes.0
    (make_demand k n ws).no_other

-- an opening that is told as Opened is one
opened_so : (k n : ℕ) (ws : List ℕ) → told (opened k n ws).answer ≡ told Opened → (opened k n ws).answer ≡ Opened
opened_so k n ws =
    opened_ind k n ws (λ (after : Left). told after.answer ≡ told Opened → after.answer ≡ Opened)
    (λ _ _. refl)
    (λ e. absurd (true≢false (ap leaves_all e)))
    (λ p e. absurd (true≢false (ap leaves_all e)))
    (λ e. absurd (true≢false (ap leaves_all e)))

-- The words that the first call is lent are those of a start.
record Lends (start : Start) (cells ws : List ℕ) : Type 0 where
  starts : IsStart start
  state : state_of cells ≡ start.state
  words : ws ≡ start.words

opened_lends : (cells ws : List ℕ) (start : Start) → OpenedBy cells ws start → Lends start cells ws
opened_lends cells ws start (making k n given four tells made_so) =
    let range = made_in_range k n given (sym tells.answer ∙ made_so) in
    record {
      starts = fresh_pool k n given (and_first (k_in_range k && n_in_range n) (eqb (length given) (pool_length k n)) (range_tested k n given range)) range.words;
      state = tells.state;
      words = tells.words;
    }
opened_lends cells ws start (opening k n four l t tells so forms) = record {
  starts = accepted_pool k n ws l t (opened_so k n ws (sym tells.answer ∙ so)) forms;
  state = tells.state;
  words = sym tells.words;
}

pub library_runs : LibraryRuns
unfolding run_from
library_runs start calls last lastWs h =
    let lends : Lends start h.cells h.words = opened_lends h.cells h.words start h.opened in
    let g : Goes start.state start.words (calls_in calls) (told_in calls) last lastWs =
    from_here lends.state lends.words (follow_goes calls h.cells h.words last lastWs h.follow) in
    record {
      run = record { starts = lends.starts; in_words = follow_in_words calls h.cells h.words last lastWs h.follow };
      state = g.state;
      words = g.words;
      answers = g.answers;
    }

pub library_opens : LibraryOpens
library_opens k n ws cells four tells so =
    let (_, f) = (open_demand k n ws).opens.0 (opened_so k n ws (sym tells.answer ∙ so)) in
    (f.height, f.tree, f.forms, opening k n four f.height f.tree tells so f.forms)

pub library_reopens : LibraryReopens
library_reopens start calls last lastWs cells four h tells =
    let k : ℕ = start.state.k in
    let n : ℕ = start.state.n in
    let is = library_runs start calls last lastWs h in
    let a = (demand3 start (calls_in calls) is.run).agreement in
    let so : four ≡ told Opened
    = tells.answer ∙ ap (λ (ws : List ℕ). told (opened k n ws).answer) is.words ∙ ap told (reopening_holds start (calls_in calls) is.run).answer in (
      so,
      subst (λ (es : List Entry). OpenedBy cells lastWs (opened_start k n lastWs es)) a.entries
          (opening k n four a.height a.tree tells so
          (subst (λ (ws : List ℕ). PoolForms k n ws a.height a.tree) (sym is.words) a.forms)),
    )

-- ---- the demands

-- of what a run's calls hear, none is told by 1, 2 or 6
quiet_told : (c : Call) (a : Answer) → is_one_of a (answers_of c) ≡ true → quiet_four (told a) ≡ true
unfolding all member
quiet_told (begin s op) a h = all_member quiet_number (map number_of (answers_of (begin s op))) refl (number_of a) h
quiet_told (step s) a h = all_member quiet_number (map number_of (answers_of (step s))) refl (number_of a) h
quiet_told (report p) a h = all_member quiet_number (map number_of (answers_of (report p))) refl (number_of a) h

run_quiet : (cs : List Call) (st : State) (ws : List ℕ) → Invariant st ws → InWords cs → all quiet_four (map told (run cs st ws).answers) ≡ true
unfolding all run
run_quiet [] st ws inv h = refl
run_quiet (c ∷ cs) st ws inv h =
    and_both (quiet_told c (called st ws c).answer (call_heard st ws inv c))
    (run_quiet cs (called st ws c).state (called st ws c).words (call_keeps st ws inv c h.0) h.1)

from_quiet : (start : Start) (cs : List Call) → Run start cs → all quiet_four (map told (run_from start cs).answers) ≡ true
unfolding run_from
from_quiet start cs r = run_quiet cs start.state start.words (start_ready start r.starts).holds r.in_words

-- a lot that is told is one that was answered
told_blank : (answers : List Answer) → all (λ (four : List ℕ). not (blank_four four)) (map told answers) ≡ all (λ (a : Answer). not (names_blank a)) answers
unfolding all
told_blank [] = refl
told_blank (a ∷ answers) = ap (λ (b : Bool). not (names_blank a) && b) (told_blank answers)

pub library_promises : LibraryPromises
library_promises start calls last lastWs h =
    let cs : List Call = calls_in calls in
    let is = library_runs start calls last lastWs h in
    let second = demand2 start cs is.run in
    record {
      left = subst (λ (st : State). AfterEveryCall start.state.k start.state.n st lastWs) (sym is.state)
          (subst (λ (after : List ℕ). AfterEveryCall start.state.k start.state.n (run_from start cs).state after) (sym is.words) second.left);
      never_told = ap (all quiet_four) is.answers ∙ from_quiet start cs is.run;
      second = second;
      third = demand3 start cs is.run;
      top = subst (λ (st : State). TopOpen st lastWs) (sym is.state)
          (subst (λ (after : List ℕ). TopOpen (run_from start cs).state after) (sym is.words) (top_open_holds start cs is.run));
      no_blank = no_blank_holds start cs is.run;
      blank_never_told = ap (all (λ (four : List ℕ). not (blank_four four))) is.answers
          ∙ told_blank (run_from start cs).answers
          ∙ names_none start cs is.run;
    }

-- ---- a step, of any words

closed_celled : Celled closed_slot
closed_celled = let l = closed_layable in record { path = l.locks ∙ sym l.path; beside = l.sidelocks ∙ sym l.beside }

read_celled : (cells : List ℕ) (s : ℕ) → Celled (slot_in cells s)
read_celled cells s = record {
  path = length_locks cells path_row s ∙ sym (length_column cells path_row s);
  beside = length_locks cells beside_row s ∙ sym (length_column cells beside_row s);
}

-- A slot of words that are a state, and beyond the last slot; and a slot of the empty state.
words_celled : (cells : List ℕ) (s : ℕ) → Celled (slot_at (state_of cells) s)
unfolding state_of
words_celled cells s =
    cond_ind (λ (st : State). Celled (slot_at st s)) (known cells)
    (λ _. by_test (ltb s row_length)
    (λ h. subst Celled (sym (slot_read cells s (ltb-true s row_length h))) (read_celled cells s))
    (λ h. subst Celled (sym (get_or-eq_default (list_of row_length (slot_in cells)) closed_slot (omega (arith, length_list_of row_length (slot_in cells), ltb-false s row_length h)))) closed_celled))
    (λ _. subst Celled (sym (same_everywhere slot_count s closed_slot)) closed_celled)

pub library_steps : LibrarySteps
library_steps cells ws s = step_demand (state_of cells) ws s (words_celled cells s)

-- ---- a lot that is not deleted

pub library_keeps_lots : LibraryKeepsLots
library_keeps_lots start before between mid midWs last lastWs x h f kept =
    let cs : List Call = calls_in between in
    let was = library_runs start before mid midWs h in
    let then : State = (run_from start (calls_in before)).state in
    let whole : Run start (calls_in before ++ cs) = record {
      starts = was.run.starts;
      in_words = words_append (calls_in before) cs was.run.in_words (follow_in_words between mid midWs last lastWs f);
    } in
    let never : NeverNowhere (state_of mid) midWs cs x =
    subst (λ (st : State). NotDeleted st midWs cs x → NeverNowhere st midWs cs x) (sym was.state)
    (subst (λ (after : List ℕ). NotDeleted then after cs x → NeverNowhere then after cs x) (sym was.words)
    (regrading_holds start (calls_in before) cs x whole)) kept in
    let g = follow_goes between mid midWs last lastWs f in
    let (v, there, _) = never.always cs [] (sym (append-nil cs)) in
    record {
      never = never;
      still = (
        v,
        subst (λ (st : State). IsThere st lastWs x v) (sym g.state)
            (subst (λ (after : List ℕ). IsThere (run cs (state_of mid) midWs).state after x v) (sym g.words) there),
      );
    }
