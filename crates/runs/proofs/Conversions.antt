-- How many grants an operation by the third way takes: one a level on its way down, one for each sibling, and then one for each page that it
-- holds.
use Prim.Native.Nat.{ℕ, ◌+◌, ◌-◌, ◌*◌, ◌≤◌, ◌<◌}
use mathlib.Core.Bool.{true, false, cond}
use mathlib.Core.List.{List, [], ◌∷◌}
use mathlib.Core.Logic.{⊎_elim}
use mathlib.Core.Path.{◌≡◌, refl, sym, ap, ap₂, ◌∙◌, subst}
use native.Mathlib.Omega.{arith}
use lib.ListN.{length, length-append}
use Rattle.ground.specs.Limits.{slot_count}
use Rattle.ground.proofs.Bools.{not_both, and_both, and_first_fails, and_second_fails, not_of_true, not_of_false}
use Rattle.ground.proofs.Choice.{by_test, cond-true, cond-false}
use Rattle.ground.proofs.Limits.{grants_of_third}
use Rattle.page.specs.Words.{Page}
use Rattle.pool.specs.Pool.{Write, page_at}
use Rattle.slots.specs.declared.Op.{Op}
use Rattle.slots.specs.declared.Op.TheVariants.{Regrade}
use Rattle.slots.specs.declared.Way.TheVariants.{Third}
use Rattle.slots.specs.declared.Slot.{Slot}
use Rattle.slots.specs.declared.State.{State}
use Rattle.slots.specs.declared.Answer.{Answer}
use Rattle.slots.specs.Parts.{is_open, is_third, goes_beside, path_of, beside_of, Stand, stand_of, slot_of, slot_at, open_at, Opened}
use Rattle.slots.specs.Grant.{converts_at}
use Rattle.slots.specs.Book.{goes_on}
use Rattle.slots.proofs.LockLaws.{third_not_second}
use Rattle.slots.proofs.Keeping.{stand_new}
use Rattle.footing.specs.Granted.{goes, ends}
use Rattle.footing.specs.Fitting.{verdict}
use Rattle.index.specs.Step.{Left, stepped}
use Rattle.runs.specs.Run.{Call, step, called, InWords}
use Rattle.runs.specs.Stance.{HoldsWith, TakesBeside, Converts}
use Rattle.runs.specs.Counts.{granted_to, grants_of, ends_within, height_granted, Behind, behind, taken_to, converted_to, pages_taken, conversions_of, ends_at, answered_so, ThirdCounts}
use Rattle.runs.proofs.Invariant.{Invariant, scene}
use Rattle.runs.proofs.Runs.{call_keeps}
use Rattle.runs.proofs.Locking.{paired}
use Rattle.runs.proofs.Measure.{lowest_of, converted, left_pages, left_turns, Turned, Where, at_start, on_the_way, at_the_leaf, in_turns, converted_done, turned_all, gathers_none, pages_most, turns_most, pages_some, turns_some}
use Rattle.runs.proofs.MeasureLaws.{undisturbed_pages, undisturbed_turns, Lower, takes_lower, takes_beside, low_at_leaf, lower_left, gathers_fewer, converts_turns, converts_done, goes_on_here, goes_on_k, closes_here, moved, ended_so, where_slot, not_too_tall}
use Rattle.runs.proofs.Steps.{Goes}
use Rattle.runs.proofs.Grants.{ends_later, height_now, height_later, none_ends, GrantCall, OtherCall, call_cases, Under, undisturbed_open, undisturbed_under, root_level}
use Rattle.runs.proofs.ThirdSteps.{ThirdStep, takes, turns, answers, changes, third_step, third_straight, third_alone}

-- ---- the counts, call by call

-- the call takes i pages and converts j
record Counted (s : ℕ) (st : State) (ws : List ℕ) (c : Call) (i j : ℕ) : Type 0 where
  taken : cond (taken_to s st ws c) 1 0 ≡ i
  turned : cond (converted_to s st ws c) 1 0 ≡ j

module _ (s : ℕ) (st : State) (ws : List ℕ) (c : Call) where
  takes_one : granted_to s st ws c ≡ true → converts_at st s ≡ false → Counted s st ws c 1 0
  takes_one g new = record {
    taken = cond-true 1 0 (and_both g (not_of_false new));
    turned = cond-false 1 0 (and_second_fails (granted_to s st ws c) new);
  }

  turns_one : granted_to s st ws c ≡ true → converts_at st s ≡ true → Counted s st ws c 0 1
  turns_one g held = record {
    taken = cond-false 1 0 (and_second_fails (granted_to s st ws c) (not_of_true held));
    turned = cond-true 1 0 (and_both g held);
  }

  does_neither : granted_to s st ws c ≡ false → Counted s st ws c 0 0
  does_neither g = record { taken = cond-false 1 0 (and_first_fails _ g); turned = cond-false 1 0 (and_first_fails _ g) }

  -- a grant is one of the two
  one_of_two : cond (granted_to s st ws c) 1 0 ≡ cond (taken_to s st ws c) 1 0 + cond (converted_to s st ws c) 1 0
  one_of_two =
      by_test (granted_to s st ws c)
      (λ g. by_test (converts_at st s)
      (λ held. let is = turns_one g held in omega (arith, cond-true {A = ℕ} 1 0 g, is.taken, is.turned))
      (λ new. let is = takes_one g new in omega (arith, cond-true {A = ℕ} 1 0 g, is.taken, is.turned)))
      (λ f. let is = does_neither f in omega (arith, cond-false {A = ℕ} 1 0 f, is.taken, is.turned))

module _ (s : ℕ) (c : Call) (cs : List Call) (st : State) (ws : List ℕ) where
  abbrev on_state : State
  on_state = (called st ws c).state

  abbrev on_words : List ℕ
  on_words = (called st ws c).words

  module _ (i j : ℕ) (is : Counted s st ws c i j) where
    pages_on : open_at on_state s ≡ true → pages_taken s (c ∷ cs) st ws ≡ i + pages_taken s cs on_state on_words
    unfolding pages_taken
    pages_on o = ap₂ (λ (a b : ℕ). a + b) is.taken (cond-true (pages_taken s cs on_state on_words) 0 o)

    pages_last : open_at on_state s ≡ false → pages_taken s (c ∷ cs) st ws ≡ i
    unfolding pages_taken
    pages_last o = ap₂ (λ (a b : ℕ). a + b) is.taken (cond-false (pages_taken s cs on_state on_words) 0 o) ∙ omega arith

    turns_on : open_at on_state s ≡ true → conversions_of s (c ∷ cs) st ws ≡ j + conversions_of s cs on_state on_words
    unfolding conversions_of
    turns_on o = ap₂ (λ (a b : ℕ). a + b) is.turned (cond-true (conversions_of s cs on_state on_words) 0 o)

    turns_last : open_at on_state s ≡ false → conversions_of s (c ∷ cs) st ws ≡ j
    unfolding conversions_of
    turns_last o = ap₂ (λ (a b : ℕ). a + b) is.turned (cond-false (conversions_of s cs on_state on_words) 0 o) ∙ omega arith

  end_later : open_at on_state s ≡ true → ends_at s (c ∷ cs) st ws ≡ ends_at s cs on_state on_words
  unfolding ends_at
  end_later o = cond-true (ends_at s cs on_state on_words) (behind (c ∷ cs) st ws) o

  end_now : open_at on_state s ≡ false → ends_at s (c ∷ cs) st ws ≡ behind (c ∷ cs) st ws
  unfolding ends_at
  end_now o = cond-false (ends_at s cs on_state on_words) (behind (c ∷ cs) st ws) o

-- before any call
no_pages : (s : ℕ) (st : State) (ws : List ℕ) → (pages_taken s [] st ws ≡ 0) × (conversions_of s [] st ws ≡ 0)
unfolding pages_taken conversions_of
no_pages s st ws = (refl, refl)

-- each granted step takes a page or converts one
both_together : (s : ℕ) (cs : List Call) (st : State) (ws : List ℕ) → grants_of s cs st ws ≡ pages_taken s cs st ws + conversions_of s cs st ws
unfolding grants_of pages_taken conversions_of
both_together s [] st ws = refl
both_together s (c ∷ cs) st ws =
    let next : State = (called st ws c).state in
    let after : List ℕ = (called st ws c).words in
    let G : ℕ = grants_of s cs next after in
    let T : ℕ = pages_taken s cs next after in
    let C : ℕ = conversions_of s cs next after in
    let rest : G ≡ T + C = both_together s cs next after in
    let one = one_of_two s st ws c in
    by_test (open_at next s)
    (λ o. omega (arith, one, rest, cond-true G 0 o, cond-true T 0 o, cond-true C 0 o))
    (λ f. omega (arith, one, cond-false G 0 f, cond-false T 0 f, cond-false C 0 f))

-- a step of slot s is called so
step_called : (s : ℕ) (st : State) (ws : List ℕ) → called st ws (step s) ≡ stepped st ws s
unfolding called
step_called s st ws = refl

-- ---- a slot that goes on

-- It stands here now, over the same pages.
record Onward (next : State) (after : List ℕ) (s : ℕ) (memory : ℕ → Page) (z' : Stand) : Type 0 where
  runs : Opened next s z'.op
  stands : stand_of z'.op (slot_at next s) ≡ z'
  pages : page_at next.k after ≡ memory

module _ {next : State} {after : List ℕ} {s : ℕ} {memory : ℕ → Page} {z' : Stand} (on : Onward next after s memory z') where
  on_path : path_of (slot_at next s) ≡ z'.path
  on_path = ap (λ (y : Stand). y.path) on.stands

  on_beside : beside_of (slot_at next s) ≡ z'.beside
  on_beside = ap (λ (y : Stand). y.beside) on.stands

  on_under : (op : Op) (level : ℕ) → z'.op ≡ op → 1 ≤ length z'.path → (memory (lowest_of z'.path)).level ≡ level → Under next after s op level
  on_under op level same some low =
      subst (λ (o : Op). Under next after s o level) same
      (record {
        runs = on.runs;
        some = subst (λ (p : List ℕ). 1 ≤ length p) (sym on_path) some;
        lowest = ap₂ (λ (m : ℕ → Page) (p : List ℕ). (m (lowest_of p)).level) on.pages on_path ∙ low;
      })

  -- of what goes by the stand
  on_stand : {X : Type 0} (f : Stand → X) (op : Op) → z'.op ≡ op → f (stand_of op (slot_at next s)) ≡ f z'
  on_stand f op same = ap (λ (o : Op). f (stand_of o (slot_at next s))) (sym same) ∙ ap f on.stands

  on_pages : (op : Op) → z'.op ≡ op → left_pages (page_at next.k after) (stand_of op (slot_at next s)) ≡ left_pages memory z'
  on_pages op same = ap (λ (m : ℕ → Page). left_pages m (stand_of op (slot_at next s))) on.pages ∙ on_stand (left_pages memory) op same

  on_turns : (op : Op) → z'.op ≡ op → left_turns (page_at next.k after) (stand_of op (slot_at next s)) ≡ left_turns memory z'
  on_turns op same = ap (λ (m : ℕ → Page). left_turns m (stand_of op (slot_at next s))) on.pages ∙ on_stand (left_turns memory) op same

-- ---- a granted call

module _ (s : ℕ) (b : s < slot_count) (c : Call) (st : State) (ws : List ℕ) (inv : Invariant st ws) (op : Op) (runs : Opened st s op) (g : GrantCall st ws s c) where
  abbrev z : Stand
  z = stand_of op (slot_at st s)

  abbrev granted_so : Goes st s
  granted_so = record { op = op; inside = b; runs = runs; granted = g.goes.granted }

  called_on : (z' : Stand) → verdict st.k st.n ws z ≡ goes z' → HoldsWith z' → Onward (called st ws c).state (called st ws c).words s (page_at st.k ws) z'
  called_on z' e holds =
      subst (λ (r : Left). Onward r.state r.words s (page_at st.k ws) z') (sym (g.does ∙ moved st ws inv s granted_so z' e))
      (record {
        runs = ap (λ (slot : Slot). slot.task) here;
        stands = ap (stand_of z'.op) here ∙ stand_new z' (paired z' holds);
        pages = ap (λ (k : ℕ). page_at k ws) (goes_on_k st s z');
      })
    where
      here : slot_at (goes_on st s z') s ≡ slot_of z'
      here = goes_on_here st inv.shaped s b z'

  called_ends : (a : Answer) (writes : List Write) → verdict st.k st.n ws z ≡ ends a writes
      → (open_at (called st ws c).state s ≡ false) × ((called st ws (step s)).answer ≡ a)
  called_ends a writes e =
      let so = ended_so st ws inv s granted_so a writes e in (
        subst (λ (r : Left). open_at r.state s ≡ false) (sym (g.does ∙ so)) (ap (λ (slot : Slot). is_open slot.task) (closes_here st inv.shaped s b)),
        ap (λ (r : Left). r.answer) (step_called s st ws ∙ so),
      )

-- ---- what is needed

-- It ends at e after T pages taken and C conversions, from where m levels are to go, so many siblings are held and so many pages converted.
record NeedsAt (s : ℕ) (op : Op) (m sides done T C : ℕ) (e : Behind) : Type 0 where
  taken : T + sides ≡ m + length (beside_of (slot_at e.state s))
  turned : C + done ≡ cond (answered_so (called e.state e.words (step s)).answer) 0 (length (path_of (slot_at e.state s)) + length (beside_of (slot_at e.state s)))
  once : answered_so (called e.state e.words (step s)).answer ≡ true → length (beside_of (slot_at e.state s)) ≡ 0
  straight : goes_beside op ≡ false → length (beside_of (slot_at e.state s)) ≡ 0
  alone : (x v : ℕ) → op ≡ Regrade x v Third → answered_so (called e.state e.words (step s)).answer ≡ false → length (path_of (slot_at e.state s)) ≡ 1

abbrev ThirdNeeds : ℕ → Op → ℕ → ℕ → ℕ → List Call → State → List ℕ → Type 0
ThirdNeeds s op m sides done cs st ws = ends_within s cs st ws ≡ true → NeedsAt s op m sides done (pages_taken s cs st ws) (conversions_of s cs st ws) (ends_at s cs st ws)

module _ (s : ℕ) (op : Op) (c : Call) (cs : List Call) (st : State) (ws : List ℕ) where
  -- it goes on: what this call counts, the rest does not need
  goes_third : (i j : ℕ) → Counted s st ws c i j → open_at (called st ws c).state s ≡ true
      → (m sides done m' sides' done' : ℕ) → i + m + sides' ≡ m' + sides → j + done' ≡ done
      → ThirdNeeds s op m sides done cs (called st ws c).state (called st ws c).words → ThirdNeeds s op m' sides' done' (c ∷ cs) st ws
  goes_third i j is still m sides done m' sides' done' levels turned rest ends_so =
      let tail = rest (sym (ends_later s c cs st ws still) ∙ ends_so) in
      subst (NeedsAt s op m' sides' done' (pages_taken s (c ∷ cs) st ws) (conversions_of s (c ∷ cs) st ws)) (sym (end_later s c cs st ws still))
      (record {
        taken = omega (arith, pages_on s c cs st ws i j is still, tail.taken);
        turned = omega (arith, turns_on s c cs st ws i j is still, tail.turned);
        once = tail.once;
        straight = tail.straight;
        alone = tail.alone;
      })

  -- it ends with this call, which takes i pages and converts j
  ends_third : (i j : ℕ) → Counted s st ws c i j → open_at (called st ws c).state s ≡ false → (m sides done : ℕ)
      → NeedsAt s op m sides done i j (behind (c ∷ cs) st ws) → ThirdNeeds s op m sides done (c ∷ cs) st ws
  ends_third i j is closed m sides done facts ends_so =
      subst (NeedsAt s op m sides done (pages_taken s (c ∷ cs) st ws) (conversions_of s (c ∷ cs) st ws)) (sym (end_now s c cs st ws closed))
      (subst (λ (T : ℕ). NeedsAt s op m sides done T (conversions_of s (c ∷ cs) st ws) (behind (c ∷ cs) st ws)) (sym (pages_last s c cs st ws i j is closed))
      (subst (λ (C : ℕ). NeedsAt s op m sides done i C (behind (c ∷ cs) st ws)) (sym (turns_last s c cs st ws i j is closed)) facts))

module _ (s : ℕ) (b : s < slot_count) (op : Op) (third : is_third op ≡ true) where
  abbrev standing : State → Stand
  standing st = stand_of op (slot_at st s)

  abbrev sides : State → ℕ
  sides st = length (beside_of (slot_at st s))

  step_third : (st : State) (ws : List ℕ) (inv : Invariant st ws) → Opened st s op → ThirdStep st.k st.n ws inv.height inv.tree (standing st)
  step_third st ws inv runs = third_step st.k st.n ws inv.height inv.tree (standing st) (scene st ws inv s op b runs) third

  -- ---- one call

  module _ (c : Call) (st : State) (ws : List ℕ) (inv : Invariant st ws) (runs : Opened st s op) where
    abbrev next : State
    next = (called st ws c).state

    abbrev after : List ℕ
    after = (called st ws c).words

    abbrev memory : ℕ → Page
    memory = page_at st.k ws

    -- ---- what is left

    -- A granted step takes a page or converts one, and what is left of each falls by as much, or the operation ends.
    record LeftAfter : Type 0 where
      i : ℕ
      j : ℕ
      counted : Counted s st ws c i j
      pages : open_at next s ≡ true → i + left_pages (page_at next.k after) (standing next) ≤ left_pages memory (standing st)
      turns : open_at next s ≡ true → j + left_turns (page_at next.k after) (standing next) ≤ left_turns memory (standing st)
      goes_on : open_at next s ≡ true → Opened next s op
      pages_last : open_at next s ≡ false → i ≤ left_pages memory (standing st)
      turns_last : open_at next s ≡ false → j ≤ left_turns memory (standing st)

    left_other : OtherCall st ws s c → LeftAfter
    left_other o =
        let opened : open_at st s ≡ true = ap is_open runs in
        record {
          i = 0;
          j = 0;
          counted = does_neither s st ws c o.other;
          pages = λ _. omega (arith, undisturbed_pages st ws next after s o.keeps op opened);
          turns = λ _. omega (arith, undisturbed_turns st ws next after s o.keeps op opened);
          goes_on = λ _. ap (λ (slot : Slot). slot.task) o.keeps.slot ∙ runs;
          pages_last = λ _. omega arith;
          turns_last = λ _. omega arith;
        }

    left_granted : GrantCall st ws s c → ThirdStep st.k st.n ws inv.height inv.tree (standing st) → LeftAfter
    left_granted g (takes z' e new same holds gathers plain) =
        let on = called_on s b c st ws inv op runs g z' e holds in
        let fewer = (gathers_fewer st.k memory inv.height inv.tree (standing st) z' (not_too_tall st ws inv) (third_not_second op third)
        (where_slot st ws inv s op b runs) gathers).1 in
        let goes' : Opened next s op = subst (λ (o : Op). Opened next s o) same on.runs in
        record {
          i = 1;
          j = 0;
          counted = takes_one s st ws c g.granted new;
          pages = λ _. omega (arith, on_pages on op same, fewer.0);
          turns = λ _. omega (arith, on_turns on op same, fewer.1);
          goes_on = λ _. goes';
          pages_last = λ closed. not_both (ap is_open goes') closed;
          turns_last = λ closed. not_both (ap is_open goes') closed;
        }
    left_granted g (turns z' e o holds turn) =
        let on = called_on s b c st ws inv op runs g z' e holds in
        let fewer = converts_turns memory (standing st) z' o turn in
        let goes' : Opened next s op = subst (λ (i : Op). Opened next s i) turn.same on.runs in
        record {
          i = 0;
          j = 1;
          counted = turns_one s st ws c g.granted o.held;
          pages = λ _. omega (arith, on_pages on op turn.same, fewer.0);
          turns = λ _. omega (arith, on_turns on op turn.same, fewer.1);
          goes_on = λ _. goes';
          pages_last = λ closed. not_both (ap is_open goes') closed;
          turns_last = λ closed. not_both (ap is_open goes') closed;
        }
    left_granted g (answers a writes e new above none level so) =
        let closed = (called_ends s b c st ws inv op runs g a writes e).0 in
        record {
          i = 1;
          j = 0;
          counted = takes_one s st ws c g.granted new;
          pages = λ opened. not_both opened closed;
          turns = λ opened. not_both opened closed;
          goes_on = λ opened. not_both opened closed;
          pages_last = λ _. pages_some memory inv.height inv.tree (standing st) (not_too_tall st ws inv) (where_slot st ws inv s op b runs) new;
          turns_last = λ _. omega arith;
        }
    left_granted g (changes a writes e o last so) =
        let closed = (called_ends s b c st ws inv op runs g a writes e).0 in
        record {
          i = 0;
          j = 1;
          counted = turns_one s st ws c g.granted o.held;
          pages = λ opened. not_both opened closed;
          turns = λ opened. not_both opened closed;
          goes_on = λ opened. not_both opened closed;
          pages_last = λ _. omega arith;
          turns_last = λ _. turns_some memory inv.height inv.tree (standing st) o;
        }

    left_after : LeftAfter
    left_after = ⊎_elim (λ g. left_granted g (step_third st ws inv runs)) left_other (call_cases st ws inv s b (ap is_open runs) c)

    -- ---- what is needed from here on

    module _ (cs : List Call) where
      -- it is answered at its leaf
      answered_now : (a : Answer) → granted_to s st ws c ≡ true → converts_at st s ≡ false → (open_at next s ≡ false) × ((called st ws (step s)).answer ≡ a)
          → beside_of (slot_at st s) ≡ [] → answered_so a ≡ true → ThirdNeeds s op 1 (sides st) (converted (standing st)) (c ∷ cs) st ws
      answered_now a g new (closed, heard) none so =
          let is : answered_so (called st ws (step s)).answer ≡ true = ap answered_so heard ∙ so in
          ends_third s op c cs st ws 1 0 (takes_one s st ws c g new) closed 1 (sides st) (converted (standing st))
          (record {
            taken = omega arith;
            turned = omega (arith, gathers_none (standing st) new) ∙ sym (cond-true 0 (length (path_of (slot_at st s)) + sides st) is);
            once = λ _. ap length none;
            straight = λ _. ap length none;
            alone = λ x v e other. not_both is other;
          })

      -- it makes its change
      changed_now : (a : Answer) → granted_to s st ws c ≡ true → (o : Turned (standing st)) → o.rest ≡ [] → (open_at next s ≡ false) × ((called st ws (step s)).answer ≡ a)
          → answered_so a ≡ false → ThirdNeeds s op 0 (sides st) (converted (standing st)) (c ∷ cs) st ws
      changed_now a g o last (closed, heard) so =
          let is : answered_so (called st ws (step s)).answer ≡ false = ap answered_so heard ∙ so in
          let here = scene st ws inv s op b runs in
          ends_third s op c cs st ws 0 1 (turns_one s st ws c g o.held) closed 0 (sides st) (converted (standing st))
          (record {
            taken = omega arith;
            turned = omega (arith, converted_done (standing st) o, turned_all (standing st) o, ap length last)
                ∙ sym (cond-false 0 (length (path_of (slot_at st s)) + sides st) is);
            once = λ other. not_both other is;
            straight = third_straight st.k st.n ws inv.height inv.tree (standing st) here third;
            alone = λ x v e _.
                let most = third_alone st.k st.n ws inv.height inv.tree (standing st) here third x v e in
                let some = o.fewer in
                omega (arith, most, some);
          })

      -- any other call
      other_third : (m : ℕ) → OtherCall st ws s c → ThirdNeeds s op m (sides next) (converted (standing next)) cs next after
          → ThirdNeeds s op m (sides st) (converted (standing st)) (c ∷ cs) st ws
      other_third m o rest =
          let slot = o.keeps.slot in
          goes_third s op c cs st ws 0 0 (does_neither s st ws c o.other) (undisturbed_open st ws next after s o.keeps (ap is_open runs))
          m (sides next) (converted (standing next)) m (sides st) (converted (standing st))
          (omega (arith, ap (λ (x : Slot). length (beside_of x)) slot)) (omega (arith, ap (λ (x : Slot). converted (stand_of op x)) slot)) rest

      -- a page taken on the way down, and one beside the path
      took_lower : (m : ℕ) (z' : Stand) → granted_to s st ws c ≡ true → Onward next after s memory z' → converts_at st s ≡ false → beside_of (slot_at st s) ≡ [] → Lower (standing st) z'
          → converted z' ≡ 0 → ThirdNeeds s op m (sides next) (converted (standing next)) cs next after
          → ThirdNeeds s op (m + 1) (sides st) (converted (standing st)) (c ∷ cs) st ws
      took_lower m z' g on new none low plain rest =
          goes_third s op c cs st ws 1 0 (takes_one s st ws c g new) (ap is_open (subst (λ (o : Op). Opened next s o) low.same on.runs))
          m (sides next) (converted (standing next)) (m + 1) (sides st) (converted (standing st))
          (omega (arith, ap length none, ap length (on_beside on), ap length low.still))
          (omega (arith, gathers_none (standing st) new, on_stand on converted op low.same, plain)) rest

      took_beside : (z' : Stand) → granted_to s st ws c ≡ true → Onward next after s memory z' → converts_at st s ≡ false → TakesBeside memory (standing st) z'
          → converted z' ≡ 0 → ThirdNeeds s op 0 (sides next) (converted (standing next)) cs next after
          → ThirdNeeds s op 0 (sides st) (converted (standing st)) (c ∷ cs) st ws
      took_beside z' g on new more plain rest =
          goes_third s op c cs st ws 1 0 (takes_one s st ws c g new) (ap is_open (subst (λ (o : Op). Opened next s o) more.same on.runs))
          0 (sides next) (converted (standing next)) 0 (sides st) (converted (standing st))
          (omega (arith, ap length (on_beside on), ap length more.holds, length-append (beside_of (slot_at st s)) ((slot_at st s).want ∷ [])))
          (omega (arith, gathers_none (standing st) new, on_stand on converted op more.same, plain)) rest

      -- a page converted
      turned_one : (z' : Stand) → granted_to s st ws c ≡ true → Onward next after s memory z' → Turned (standing st) → Converts (standing st) z'
          → ThirdNeeds s op 0 (sides next) (converted (standing next)) cs next after
          → ThirdNeeds s op 0 (sides st) (converted (standing st)) (c ∷ cs) st ws
      turned_one z' g on o turn rest =
          goes_third s op c cs st ws 0 1 (turns_one s st ws c g o.held) (ap is_open (subst (λ (i : Op). Opened next s i) turn.same on.runs))
          0 (sides next) (converted (standing next)) 0 (sides st) (converted (standing st))
          (omega (arith, ap length (on_beside on), ap length turn.beside))
          (omega (arith, on_stand on converted op turn.same, converts_done (standing st) z' o turn)) rest

  -- no more pages are taken, and no more converted, than are left
  at_most_third : (cs : List Call) → InWords cs → (st : State) (ws : List ℕ) → Invariant st ws → Opened st s op
      → (pages_taken s cs st ws ≤ left_pages (page_at st.k ws) (standing st)) × (conversions_of s cs st ws ≤ left_turns (page_at st.k ws) (standing st))
  at_most_third [] words st ws inv runs = let none = no_pages s st ws in (omega (arith, none.0), omega (arith, none.1))
  at_most_third (c ∷ cs) words st ws inv runs =
      let next : State = (called st ws c).state in
      let after : List ℕ = (called st ws c).words in
      let is = left_after c st ws inv runs in
      by_test (open_at next s)
      (λ o.
      let rest = at_most_third cs words.1 next after (call_keeps st ws inv c words.0) (is.goes_on o) in (
        omega (arith, pages_on s c cs st ws is.i is.j is.counted o, is.pages o, rest.0),
        omega (arith, turns_on s c cs st ws is.i is.j is.counted o, is.turns o, rest.1),
      ))
      (λ f. (
        omega (arith, pages_last s c cs st ws is.i is.j is.counted f, is.pages_last f),
        omega (arith, turns_last s c cs st ws is.i is.j is.counted f, is.turns_last f),
      ))

  -- ---- from some page on, and from the beginning

  third_way : (cs : List Call) → InWords cs → (st : State) (ws : List ℕ) → Invariant st ws → (level : ℕ) → Under st ws s op level
      → ThirdNeeds s op (level - 1) (sides st) (converted (standing st)) cs st ws
  third_way [] words st ws inv level u = λ ends_so. not_both ends_so (none_ends s st ws)
  third_way (c ∷ cs) words st ws inv level u =
      ⊎_elim
      (λ g. granted_now (third_way cs words.1 next' after' kept_inv) g (where_slot st ws inv s op b u.runs) (step_third st ws inv u.runs))
      (λ o.
      other_third c st ws inv u.runs cs (level - 1) o
      (third_way cs words.1 next' after' kept_inv level (undisturbed_under st ws next' after' s op level o.keeps u)))
      (call_cases st ws inv s b (ap is_open u.runs) c)
    where
      next' : State
      next' = (called st ws c).state

      after' : List ℕ
      after' = (called st ws c).words

      kept_inv : Invariant next' after'
      kept_inv = call_keeps st ws inv c words.0

      granted_now : ((low : ℕ) → Under next' after' s op low → ThirdNeeds s op (low - 1) (sides next') (converted (standing next')) cs next' after')
          → GrantCall st ws s c
          → Where (page_at st.k ws) inv.height inv.tree (standing st)
          → ThirdStep st.k st.n ws inv.height inv.tree (standing st)
          → ThirdNeeds s op (level - 1) (sides st) (converted (standing st)) (c ∷ cs) st ws
      granted_now rest g (at_start new e f h) step' = absurd (omega (arith, u.some, ap length e))
      granted_now rest g (on_the_way new low w f h) (takes z' e _ same holds gathers plain) =
          ⊎_elim
          (λ down.
          let on = called_on s b c st ws inv op u.runs g z' e holds in
          let under = on_under on op (low + 1) same down.some (ap (λ (p : ℕ). (page_at st.k ws p).level) down.lowest ∙ h) in
          subst (λ (m : ℕ). ThirdNeeds s op m (sides st) (converted (standing st)) (c ∷ cs) st ws) (omega (arith, u.lowest, w.level))
          (took_lower c st ws inv u.runs cs low z' g.granted on new f down plain
          (subst (λ (m : ℕ). ThirdNeeds s op m (sides next') (converted (standing next')) cs next' after') (omega arith) (rest (low + 1) under))))
          (λ a. not_both a.second (third_not_second op third))
          (takes_lower st.k (page_at st.k ws) (standing st) z' (λ at. omega (arith, at.1, w.level)) gathers)
      granted_now rest g (on_the_way new low w f h) (turns z' e o holds turn) = not_both o.held new
      granted_now rest g (on_the_way new low w f h) (answers a writes e _ above none one so) =
          subst (λ (m : ℕ). ThirdNeeds s op m (sides st) (converted (standing st)) (c ∷ cs) st ws) (omega (arith, u.lowest, w.level, one))
          (answered_now c st ws inv u.runs cs a g.granted new (called_ends s b c st ws inv op u.runs g a writes e) none so)
      granted_now rest g (on_the_way new low w f h) (changes a writes e o last so) = not_both o.held new
      granted_now rest g (at_the_leaf new w f d there) (takes z' e _ same holds gathers plain) =
          let more = takes_beside st.k (page_at st.k ws) (standing st) z' (w.some, w.level) (third_not_second op third) gathers in
          let on = called_on s b c st ws inv op u.runs g z' e holds in
          let under = on_under on op 1 same (subst (λ (p : List ℕ). 1 ≤ length p) (sym more.still) w.some)
          (ap (λ (p : List ℕ). (page_at st.k ws (lowest_of p)).level) more.still ∙ w.level) in
          subst (λ (m : ℕ). ThirdNeeds s op m (sides st) (converted (standing st)) (c ∷ cs) st ws) (omega (arith, u.lowest, w.level))
          (took_beside c st ws inv u.runs cs z' g.granted on new more plain (rest 1 under))
      granted_now rest g (at_the_leaf new w f d there) (turns z' e o holds turn) = not_both o.held new
      granted_now rest g (at_the_leaf new w f d there) (answers a writes e _ above none one so) =
          not_both (low_at_leaf (page_at st.k ws) inv.height inv.tree (path_of (slot_at st s)) w) above
      granted_now rest g (at_the_leaf new w f d there) (changes a writes e o last so) = not_both o.held new
      granted_now rest g (in_turns w o) (takes z' e new same holds gathers plain) = not_both o.held new
      granted_now rest g (in_turns w o) (turns z' e _ holds turn) =
          let on = called_on s b c st ws inv op u.runs g z' e holds in
          let under = on_under on op 1 turn.same (subst (λ (p : List ℕ). 1 ≤ length p) (sym turn.still) w.some)
          (ap (λ (p : List ℕ). (page_at st.k ws (lowest_of p)).level) turn.still ∙ w.level) in
          subst (λ (m : ℕ). ThirdNeeds s op m (sides st) (converted (standing st)) (c ∷ cs) st ws) (omega (arith, u.lowest, w.level))
          (turned_one c st ws inv u.runs cs z' g.granted on o turn (rest 1 under))
      granted_now rest g (in_turns w o) (answers a writes e new above none one so) = not_both o.held new
      granted_now rest g (in_turns w o) (changes a writes e o' last so) =
          subst (λ (m : ℕ). ThirdNeeds s op m (sides st) (converted (standing st)) (c ∷ cs) st ws) (omega (arith, u.lowest, w.level))
          (changed_now c st ws inv u.runs cs a g.granted o' last (called_ends s b c st ws inv op u.runs g a writes e) so)

  -- From where it has just begun: h pages on its way down, and 2h - 1 at most of each kind.
  record FromStart (cs : List Call) (st : State) (ws : List ℕ) : Type 0 where
    needed : ThirdNeeds s op (height_granted s cs st ws) (sides st) (converted (standing st)) cs st ws
    pages : pages_taken s cs st ws ≤ 2 * height_granted s cs st ws - 1
    turns : conversions_of s cs st ws ≤ 2 * height_granted s cs st ws - 1

  third_start : (cs : List Call) → InWords cs → (st : State) (ws : List ℕ) → Invariant st ws → Opened st s op → path_of (slot_at st s) ≡ [] → FromStart cs st ws
  third_start [] words st ws inv runs none =
      let nothing = no_pages s st ws in
      record {
        needed = λ ends_so. not_both ends_so (none_ends s st ws);
        pages = omega (arith, nothing.0);
        turns = omega (arith, nothing.1);
      }
  third_start (c ∷ cs) words st ws inv runs none =
      ⊎_elim
      (λ g. granted_now g (where_slot st ws inv s op b runs) (step_third st ws inv runs))
      (λ o.
      let still = undisturbed_open st ws next' after' s o.keeps (ap is_open runs) in
      let height = height_later s c cs st ws o.other in
      let neither = does_neither s st ws c o.other in
      let rest = third_start cs words.1 next' after' kept_inv (ap (λ (slot : Slot). slot.task) o.keeps.slot ∙ runs) (ap path_of o.keeps.slot ∙ none) in
      record {
        needed = subst (λ (m : ℕ). ThirdNeeds s op m (sides st) (converted (standing st)) (c ∷ cs) st ws) (sym height)
            (other_third c st ws inv runs cs (height_granted s cs next' after') o rest.needed);
        pages = omega (arith, height, pages_on s c cs st ws 0 0 neither still, rest.pages);
        turns = omega (arith, height, turns_on s c cs st ws 0 0 neither still, rest.turns);
      })
      (call_cases st ws inv s b (ap is_open runs) c)
    where
      next' : State
      next' = (called st ws c).state

      after' : List ℕ
      after' = (called st ws c).words

      kept_inv : Invariant next' after'
      kept_inv = call_keeps st ws inv c words.0

      granted_now : GrantCall st ws s c
          → Where (page_at st.k ws) inv.height inv.tree (standing st)
          → ThirdStep st.k st.n ws inv.height inv.tree (standing st)
          → FromStart (c ∷ cs) st ws
      granted_now g (on_the_way new low w f h) step' = absurd (omega (arith, w.some, ap length none))
      granted_now g (at_the_leaf new w f d there) step' = absurd (omega (arith, w.some, ap length none))
      granted_now g (in_turns w o) step' = absurd (omega (arith, w.some, ap length none))
      granted_now g (at_start new p f h) (turns z' e o holds turn) = not_both o.held new
      granted_now g (at_start new p f h) (changes a writes e o last so) = not_both o.held new
      granted_now g (at_start new p f h) (answers a writes e _ above nothing one so) =
          let l : ℕ = inv.height in
          let height : height_granted s (c ∷ cs) st ws ≡ l + 1 = height_now s c cs st ws g.granted ∙ root_level st ws inv in
          let over = called_ends s b c st ws inv op runs g a writes e in
          let is = takes_one s st ws c g.granted new in
          record {
            needed = subst (λ (m : ℕ). ThirdNeeds s op m (sides st) (converted (standing st)) (c ∷ cs) st ws) (omega (arith, height, h, one))
                (answered_now c st ws inv runs cs a g.granted new over nothing so);
            pages = omega (arith, height, pages_last s c cs st ws 1 0 is over.0);
            turns = omega (arith, turns_last s c cs st ws 1 0 is over.0);
          }
      granted_now g (at_start new p f h) (takes z' e _ same holds gathers plain) =
          let l : ℕ = inv.height in
          let height : height_granted s (c ∷ cs) st ws ≡ l + 1 = height_now s c cs st ws g.granted ∙ root_level st ws inv in
          let on = called_on s b c st ws inv op runs g z' e holds in
          let is = takes_one s st ws c g.granted new in
          let goes' : Opened next' s op = subst (λ (o : Op). Opened next' s o) same on.runs in
          let rest = at_most_third cs words.1 next' after' kept_inv goes' in
          ⊎_elim
          (λ down.
          let under = on_under on op (l + 1) same down.some (ap (λ (q : ℕ). (page_at st.k ws q).level) down.lowest ∙ h) in
          let few = lower_left (page_at st.k ws) (standing st) z' (l + 1) down h in
          let most : length z'.path ≤ 1 = omega (arith, down.most, ap length none) in
          record {
            needed = subst (λ (m : ℕ). ThirdNeeds s op m (sides st) (converted (standing st)) (c ∷ cs) st ws) (sym height)
                (took_lower c st ws inv runs cs l z' g.granted on new f down plain
                (subst (λ (m : ℕ). ThirdNeeds s op m (sides next') (converted (standing next')) cs next' after') (omega arith) (third_way cs words.1 next' after' kept_inv (l + 1) under)));
            pages = omega (arith, height, pages_on s c cs st ws 1 0 is (ap is_open goes'), rest.0, on_pages on op same, few, down.some);
            turns = omega (arith, height, turns_on s c cs st ws 1 0 is (ap is_open goes'), rest.1, on_turns on op same, few, down.some, ap length down.still);
          })
          (λ a. not_both a.second (third_not_second op third))
          (takes_lower st.k (page_at st.k ws) (standing st) z' (λ at. omega (arith, at.0, ap length none)) gathers)

  -- The grants of an operation by the third way that has just begun in a state of a run.
  pub third_counts : (cs : List Call) (st : State) (ws : List ℕ) → Invariant st ws → InWords cs → Opened st s op → path_of (slot_at st s) ≡ [] → ThirdCounts s op cs st ws
  third_counts cs st ws inv words runs none =
      let all = third_start cs words st ws inv runs none in
      let both = both_together s cs st ws in
      let at = where_slot st ws inv s op b runs in
      let most = at_most_third cs words st ws inv runs in
      let few = pages_most (page_at st.k ws) inv.height inv.tree (standing st) (not_too_tall st ws inv) at in
      let fewer = turns_most (page_at st.k ws) inv.height inv.tree (standing st) (not_too_tall st ws inv) at in
      let bare = holds_none at in
      record {
        together = both;
        answered = λ ends_so so.
            let is = all.needed ends_so in
            let turned = is.turned ∙ cond-true 0 _ so in
            omega (arith, both, is.taken, turned, is.once so, bare.0);
        taken = λ ends_so. let is = all.needed ends_so in omega (arith, is.taken, bare.0);
        converted = λ ends_so so.
            let is = all.needed ends_so in
            let turned = is.turned ∙ cond-false 0 _ so in
            omega (arith, turned, bare.1);
        straight = λ so ends_so other.
            let is = all.needed ends_so in
            let turned = is.turned ∙ cond-false 0 _ other in
            omega (arith, both, is.taken, turned, is.straight so, bare.0, bare.1);
        regrades = λ x v e ends_so other.
            let is = all.needed ends_so in
            let turned = is.turned ∙ cond-false 0 _ other in
            omega (arith, both, is.taken, turned, is.straight (ap goes_beside e), is.alone x v e other, bare.0, bare.1);
        changed = λ ends_so so.
            let is = all.needed ends_so in
            let turned = is.turned ∙ cond-false 0 _ so in
            omega (arith, both, is.taken, turned, bare.0, bare.1);
        most_taken = all.pages;
        most_converted = all.turns;
        taken_in_all = omega (arith, most.0, few);
        converted_in_all = omega (arith, most.1, fewer);
        in_all = omega (arith, both, most.0, most.1, few, fewer, grants_of_third);
      }
    where
      holds_none : Where (page_at st.k ws) inv.height inv.tree (standing st) → (sides st ≡ 0) × (converted (standing st) ≡ 0)
      holds_none (at_start new p f h) = (ap length f, gathers_none (standing st) new)
      holds_none (on_the_way new low w f h) = absurd (omega (arith, w.some, ap length none))
      holds_none (at_the_leaf new w f d there) = absurd (omega (arith, w.some, ap length none))
      holds_none (in_turns w o) = absurd (omega (arith, w.some, ap length none))
