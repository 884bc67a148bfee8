-- Calls one after the other, as the counts of grants see them: a call is a granted step of the slot, or leaves it undisturbed; and what a grant
-- does on the way down.
use Prim.Native.Nat.{ℕ, ◌+◌, ◌*◌, ◌≤◌, ◌<◌}
use mathlib.Core.Bool.{true, false, not}
use mathlib.Core.List.{List, [], ◌∷◌, reverse}
use mathlib.Core.Logic.{◌⊎◌, ◌≢◌, inl, inr, ⊎_elim}
use mathlib.Core.Path.{◌≡◌, refl, sym, ap, ap₂, ◌∙◌, subst}
use native.Mathlib.Omega.{arith}
use borrow.Author.Tests.{eq-eqb, ne_eqb, eqb-true}
use lib.Dec.{eqb}
use lib.ListN.{length}
use Rattle.ground.specs.Limits.{slot_count}
use Rattle.ground.proofs.Bools.{not_both, and_both, and_first_fails, and_second_fails, not_of_false, false_if_not_true}
use Rattle.ground.proofs.Limits.{range_rises}
use Rattle.ground.proofs.Choice.{cond-true, cond-false}
use Rattle.page.specs.Words.{Page}
use Rattle.pool.specs.Pool.{page_at}
use Rattle.slots.specs.declared.Op.{Op}
use Rattle.slots.specs.declared.Task.TheVariants.{Open}
use Rattle.slots.specs.declared.Slot.{Slot}
use Rattle.slots.specs.declared.State.{State}
use Rattle.slots.specs.declared.Outcome.{Outcome}
use Rattle.slots.specs.Heard.{changes_nothing}
use Rattle.slots.specs.Parts.{is_open, is_second, is_third, first_way, path_of, Stand, fresh_stand, stand_of, slot_of, slot_at, open_at, want_at, Opened}
use Rattle.slots.specs.Grant.{converts_at}
use Rattle.slots.specs.Book.{begins, goes_on}
use Rattle.slots.specs.Begin.{begun}
use Rattle.slots.proofs.Keeping.{Shaped, slot_here, slot_other, path_new}
use Rattle.slots.proofs.OrderLaws.{same_or_not}
use Rattle.footing.specs.Granted.{at_its_leaf}
use Rattle.index.specs.Step.{Left, stepped}
use Rattle.index.proofs.Refusals.{step_refused}
use Rattle.tree.proofs.Search.{way_facts}
use Rattle.runs.specs.Run.{Call, begin, step, report, called}
use Rattle.runs.specs.Stance.{HoldsWith, BeginsAgain}
use Rattle.runs.specs.Step.{Comes, moves, stops}
use Rattle.runs.specs.Counts.{granted_to, grants_of, ends_within, height_granted}
use Rattle.runs.proofs.Invariant.{Invariant}
use Rattle.runs.proofs.Runs.{BeginOf, no_such, busy, blank, begins_so, begin_of}
use Rattle.runs.proofs.Measure.{lowest_of, grants_left, left_by_first}
use Rattle.runs.proofs.MeasureLaws.{Undisturbed, nothing_disturbed, step_undisturbed, measure_falls, Lower, takes_gathers, takes_lower, goes_on_here, goes_on_k, closes_here, comes, moved, ended_so, after_moving, lower_left}
use Rattle.runs.proofs.Steps.{Goes, step_cases}
use Rattle.runs.proofs.Stepping.{at_leaf_test}
use Rattle.runs.proofs.Verdicts.{coming_ends}

-- ---- the counts, call by call

module _ (s : ℕ) (c : Call) (cs : List Call) (st : State) (ws : List ℕ) where
  -- a grant, and the slot goes on
  pub grants_on : granted_to s st ws c ≡ true → open_at (called st ws c).state s ≡ true
      → grants_of s (c ∷ cs) st ws ≡ 1 + grants_of s cs (called st ws c).state (called st ws c).words
  unfolding grants_of
  grants_on g o = ap₂ (λ (a b : ℕ). a + b) (cond-true 1 0 g) (cond-true (grants_of s cs (called st ws c).state (called st ws c).words) 0 o)

  -- a grant, and its operation ends
  pub grants_last : granted_to s st ws c ≡ true → open_at (called st ws c).state s ≡ false → grants_of s (c ∷ cs) st ws ≡ 1
  unfolding grants_of
  grants_last g o = ap₂ (λ (a b : ℕ). a + b) (cond-true 1 0 g) (cond-false (grants_of s cs (called st ws c).state (called st ws c).words) 0 o)

  -- any other call
  pub grants_other : granted_to s st ws c ≡ false → open_at (called st ws c).state s ≡ true
      → grants_of s (c ∷ cs) st ws ≡ grants_of s cs (called st ws c).state (called st ws c).words
  unfolding grants_of
  grants_other g o =
      ap₂ (λ (a b : ℕ). a + b) (cond-false 1 0 g) (cond-true (grants_of s cs (called st ws c).state (called st ws c).words) 0 o) ∙ omega arith

  pub ends_later : open_at (called st ws c).state s ≡ true → ends_within s (c ∷ cs) st ws ≡ ends_within s cs (called st ws c).state (called st ws c).words
  unfolding ends_within
  ends_later o = cond-true (ends_within s cs (called st ws c).state (called st ws c).words) true o

  pub height_now : granted_to s st ws c ≡ true → height_granted s (c ∷ cs) st ws ≡ (page_at st.k ws 0).level
  unfolding height_granted
  height_now g = cond-true (page_at st.k ws 0).level (height_granted s cs (called st ws c).state (called st ws c).words) g

  pub height_later : granted_to s st ws c ≡ false → height_granted s (c ∷ cs) st ws ≡ height_granted s cs (called st ws c).state (called st ws c).words
  unfolding height_granted
  height_later g = cond-false (page_at st.k ws 0).level (height_granted s cs (called st ws c).state (called st ws c).words) g

-- before any call
pub none_ends : (s : ℕ) (st : State) (ws : List ℕ) → ends_within s [] st ws ≡ false
unfolding ends_within
none_ends s st ws = refl

pub none_granted : (s : ℕ) (st : State) (ws : List ℕ) → grants_of s [] st ws ≡ 0
unfolding grants_of
none_granted s st ws = refl

-- ---- a call is a grant of the slot or leaves it undisturbed

begins_other : (st : State) → Shaped st → (u : ℕ) → u < slot_count → (op : Op) (s : ℕ) → s ≢ u → slot_at (begins st u op) s ≡ slot_at st s
unfolding begins
begins_other st shaped u b op s n = slot_other st shaped u b (slot_of (fresh_stand op)) st.order st.waiting s n

pub begins_here : (st : State) → Shaped st → (s : ℕ) → s < slot_count → (op : Op) → slot_at (begins st s op) s ≡ slot_of (fresh_stand op)
unfolding begins
begins_here st shaped s b op = slot_here st shaped s b (slot_of (fresh_stand op)) st.order st.waiting

begins_k : (st : State) (u : ℕ) (op : Op) → (begins st u op).k ≡ st.k
unfolding begins
begins_k st u op = refl

begin_undisturbed : (st : State) (ws : List ℕ) → Invariant st ws → (u : ℕ) (op : Op) (s : ℕ) → open_at st s ≡ true → BeginOf st u op
    → Undisturbed st ws (begun st u op).state ws s
begin_undisturbed st ws inv u op s opened (no_such b e) = subst (λ (o : Outcome). Undisturbed st ws o.state ws s) (sym e) (nothing_disturbed st ws s)
begin_undisturbed st ws inv u op s opened (busy b o e) = subst (λ (o : Outcome). Undisturbed st ws o.state ws s) (sym e) (nothing_disturbed st ws s)
begin_undisturbed st ws inv u op s opened (blank b c t e) = subst (λ (o : Outcome). Undisturbed st ws o.state ws s) (sym e) (nothing_disturbed st ws s)
begin_undisturbed st ws inv u op s opened (begins_so b closed t e) =
    subst (λ (o : Outcome). Undisturbed st ws o.state ws s) (sym e)
    (record {
      slot = begins_other st inv.shaped u b op s (λ same. not_both opened (ap (open_at st) same ∙ closed));
      level = λ _ _. ap (λ (k : ℕ). (page_at k ws (lowest_of (path_of (slot_at st s)))).level) (begins_k st u op);
    })

-- The call is a granted step of slot s.
pub record GrantCall (st : State) (ws : List ℕ) (s : ℕ) (c : Call) : Type 0 where
  pub does : called st ws c ≡ stepped st ws s
  pub goes : Goes st s
  pub granted : granted_to s st ws c ≡ true

-- Another call: slot s is undisturbed.
pub record OtherCall (st : State) (ws : List ℕ) (s : ℕ) (c : Call) : Type 0 where
  pub other : granted_to s st ws c ≡ false
  pub keeps : Undisturbed st ws (called st ws c).state (called st ws c).words s

-- a granted step is heard as one: it is neither refused nor answered Waiting
pub granted_heard : (st : State) (ws : List ℕ) → Invariant st ws → (s : ℕ) → Goes st s → changes_nothing (stepped st ws s).answer ≡ false
granted_heard st ws inv s g =
    false_if_not_true (changes_nothing (stepped st ws s).answer) (λ h.
    let same = step_refused st ws s h in
    let falls = measure_falls st ws inv s g in
    let stays : grants_left (stepped st ws s).state (stepped st ws s).words s ≡ grants_left st ws s
    = ap₂ (λ (x : State) (y : List ℕ). grants_left x y s) same.state same.words in
    omega (arith, falls, stays))

module _ (st : State) (ws : List ℕ) (inv : Invariant st ws) (s : ℕ) (b : s < slot_count) (opened : open_at st s ≡ true) where
  pub call_cases : (c : Call) → GrantCall st ws s c ⊎ OtherCall st ws s c
  unfolding called
  call_cases (begin u op) = inr (record { other = refl; keeps = begin_undisturbed st ws inv u op s opened (begin_of st ws inv u op) })
  call_cases (report p) = inr (record { other = refl; keeps = nothing_disturbed st ws s })
  call_cases (step u) =
      ⊎_elim
      (λ r. inr (record {
        other = and_second_fails (eqb u s) (ap not (ap (λ (l : Left). changes_nothing l.answer) r.does ∙ r.nothing));
        keeps = subst (λ (l : Left). Undisturbed st ws l.state l.words s) (sym r.does) (nothing_disturbed st ws s);
      }))
      (λ g. ⊎_elim
      (λ e. inl (record {
        does = ap (stepped st ws) e;
        goes = subst (Goes st) e g;
        granted = and_both (eq-eqb u s e) (subst (λ (i : ℕ). not (changes_nothing (stepped st ws i).answer) ≡ true) (sym e) (not_of_false (granted_heard st ws inv s (subst (Goes st) e g))));
      }))
      (λ n. inr (record {
        other = and_first_fails (not (changes_nothing (stepped st ws u).answer)) (ne_eqb u s n);
        keeps = step_undisturbed st ws inv u g s b (λ e. n (sym e));
      }))
      (same_or_not u s))
      (step_cases st ws inv u)

-- ---- what a grant does on the way down

-- the level of the slot's lowest page
abbrev low_level : State → List ℕ → ℕ → ℕ
low_level st ws s = (page_at st.k ws (lowest_of (path_of (slot_at st s)))).level

-- Slot s is open with this operation and holds something; its lowest page is on this level.
pub record Under (st : State) (ws : List ℕ) (s : ℕ) (op : Op) (level : ℕ) : Type 0 where
  pub runs : Opened st s op
  pub some : 1 ≤ length (path_of (slot_at st s))
  pub lowest : low_level st ws s ≡ level

-- What a grant on level m + 1 does: the operation ends, where m is 0; or it goes on, with that page the lowest; or it begins again, where m is 0.
pub data WentDown (st : State) (ws : List ℕ) (s : ℕ) (op : Op) (m depth : ℕ) : Type 0 where
  over : open_at st s ≡ false → m ≡ 0 → WentDown st ws s op m depth
  lower : Under st ws s op (m + 1) → (is_second op ≡ false → is_third op ≡ false → grants_left st ws s ≤ 2 * m + depth) → WentDown st ws s op m depth
  again : is_second op ≡ true → Opened st s (first_way op) → path_of (slot_at st s) ≡ [] → m ≡ 0 → WentDown st ws s op m depth

module _ (st : State) (ws : List ℕ) (inv : Invariant st ws) (s : ℕ) (g : Goes st s) where
  abbrev path : List ℕ
  path = path_of (slot_at st s)

  -- The want of a slot that is not at its leaf is on level m + 1, and is granted.
  pub grant_down : (m : ℕ) → converts_at st s ≡ false → at_its_leaf (page_at st.k ws) (reverse path) ≡ false → (page_at st.k ws (want_at st s)).level ≡ m + 1
      → WentDown (stepped st ws s).state (stepped st ws s).words s g.op m (length path)
  grant_down m new above wanted = by_comes (comes st ws inv s g)
    where
      memory : ℕ → Page
      memory = page_at st.k ws

      z : Stand
      z = stand_of g.op (slot_at st s)

      went_on : (z' : Stand) → HoldsWith z' → Lower z z' ⊎ BeginsAgain st.k memory z z' → WentDown (goes_on st s z') ws s g.op m (length path)
      went_on z' locks (inl low) =
          let here = goes_on_here st inv.shaped s g.inside z' in
          let holds : path_of (slot_at (goes_on st s z') s) ≡ z'.path = ap path_of here ∙ path_new z' in
          lower
          (record {
            runs = ap (λ (slot : Slot). slot.task) here ∙ ap Open low.same;
            some = subst (λ (p : List ℕ). 1 ≤ length p) (sym holds) low.some;
            lowest =
                ap (λ (k : ℕ). (page_at k ws (lowest_of (path_of (slot_at (goes_on st s z') s)))).level) (goes_on_k st s z')
                ∙ ap (λ (p : ℕ). (memory p).level) (ap lowest_of holds ∙ low.lowest)
                ∙ wanted;
          })
          (λ first only.
          let is = left_by_first memory z' (ap is_second low.same ∙ first) (ap is_third low.same ∙ only) in
          omega (arith, after_moving st ws inv s g z' locks, is, lower_left memory z z' (m + 1) low wanted, low.most, low.some))
      went_on z' locks (inr a) =
          let here = goes_on_here st inv.shaped s g.inside z' in
          again a.second
          (ap (λ (slot : Slot). slot.task) here ∙ ap (λ (y : Stand). Open y.op) a.fresh)
          (ap path_of here ∙ path_new z' ∙ ap (λ (y : Stand). y.path) a.fresh)
          (omega (arith, wanted, a.leaf))

      by_comes : Comes st.k st.n ws inv.height inv.tree z
          → WentDown (stepped st ws s).state (stepped st ws s).words s g.op m (length path)
      by_comes (moves z' e same stance locked takes) =
          subst (λ (r : Left). WentDown r.state r.words s g.op m (length path)) (sym (moved st ws inv s g z' e))
          (went_on z' locked.holds (takes_lower st.k memory z z' (λ at. not_both (at_leaf_test memory path at) above) (takes_gathers st.k memory z z' new takes)))
      by_comes (stops a writes e ended) =
          let leaf = coming_ends st.k st.n ws z above a writes e in
          over
          (subst (λ (r : Left). open_at r.state s ≡ false) (sym (ended_so st ws inv s g a writes e))
          (ap (λ (slot : Slot). is_open slot.task) (closes_here st inv.shaped s g.inside)))
          (omega (arith, wanted, eqb-true (page_at st.k ws (want_at st s)).level 1 leaf))

-- ---- what other calls leave

pub undisturbed_open : (st : State) (ws : List ℕ) (next : State) (after : List ℕ) (s : ℕ) → Undisturbed st ws next after s → open_at st s ≡ true → open_at next s ≡ true
undisturbed_open st ws next after s h opened = ap (λ (slot : Slot). is_open slot.task) h.slot ∙ opened

pub undisturbed_under : (st : State) (ws : List ℕ) (next : State) (after : List ℕ) (s : ℕ) (op : Op) (level : ℕ) → Undisturbed st ws next after s
    → Under st ws s op level → Under next after s op level
undisturbed_under st ws next after s op level h u = record {
  runs = ap (λ (slot : Slot). slot.task) h.slot ∙ u.runs;
  some = subst (λ (slot : Slot). 1 ≤ length (path_of slot)) (sym h.slot) u.some;
  lowest =
      ap (λ (slot : Slot). (page_at next.k after (lowest_of (path_of slot))).level) h.slot
      ∙ h.level (ap is_open u.runs) u.some
      ∙ u.lowest;
}

-- "with h the level of page 0"
pub root_level : (st : State) (ws : List ℕ) (inv : Invariant st ws) → (page_at st.k ws 0).level ≡ inv.height + 1
root_level st ws inv =
    let facts = way_facts st.k st.n (page_at st.k ws) inv.height inv.tree inv.forms.forms 0 range_rises in
    ap (λ (p : ℕ). (page_at st.k ws p).level) (sym facts.root) ∙ facts.level inv.height (omega arith)
