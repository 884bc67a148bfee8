-- Rounds: in each round in which a slot is open at its start the sum of the measures falls, so `rounds_enough` rounds close
-- every slot.
use Prim.Native.Nat.{ℕ, zero, suc, ◌+◌, ◌-◌, ◌*◌, ◌≤◌, ◌<◌}
use mathlib.Core.Bool.{true, false, true≢false}
use mathlib.Core.List.{List, [], ◌∷◌, ◌++◌}
use mathlib.Core.Logic.{◌⊎◌, ⊎_elim}
use mathlib.Core.Path.{◌≡◌, refl, sym, subst}
use native.Mathlib.Omega.{arith}
use native.Mathlib.Nat.{suc-mul, not-suc-le-zero, le_of_suc-le-suc, eq-or-lt_of_le}
use borrow.Author.Tests.{eqb-true}
use lib.Dec.{eqb}
use lib.ListN.{length}
use Rattle.ground.specs.Limits.{slot_count, slot_grants, rounds_enough}
use Rattle.ground.specs.Tests.{any_below}
use Rattle.ground.proofs.Bools.{true_or_false, not_both, or_cases, false_if_not_true}
use Rattle.ground.proofs.Limits.{rounds_of_slots}
use Rattle.ground.proofs.Tests.{any_below_at, any_below_false_at}
use Rattle.slots.specs.declared.State.{State}
use Rattle.slots.specs.Parts.{open_at}
use Rattle.slots.specs.Grant.{grants}
use Rattle.slots.proofs.OrderLaws.{same_or_not}
use Rattle.index.specs.Step.{Left, stepped}
use Rattle.tree.proofs.Height.{sum_below}
use Rattle.runs.specs.Run.{Call, begin, step, report, called, run}
use Rattle.runs.specs.Rounds.{any_begin, any_step_of, Round, all_calls, Rounds, RoundsClose}
use Rattle.runs.proofs.Invariant.{Invariant}
use Rattle.runs.proofs.Progress.{some_can_go}
use Rattle.runs.proofs.Calls.{step_of, step_keeps}
use Rattle.runs.proofs.Measure.{grants_left}
use Rattle.runs.proofs.MeasureLaws.{measure_bound, measure_closed, measure_stays, measure_falls}
use Rattle.runs.proofs.Steps.{Rests, Goes, step_cases}

-- ---- sums

-- a sum of smaller numbers is no greater,
sum_most : (n : ℕ) (f g : ℕ → ℕ) → ((i : ℕ) → i < n → f i ≤ g i) → sum_below n f ≤ sum_below n g
unfolding sum_below
sum_most zero f g h = omega arith
sum_most (suc n) f g h = let rest = sum_most n f g (λ i b. h i (omega arith)) in omega (arith, rest, h n (omega arith))

-- and smaller where one of them is
sum_less : (n : ℕ) (f g : ℕ → ℕ) → ((i : ℕ) → i < n → f i ≤ g i) → (s : ℕ) → s < n → f s < g s → sum_below n f < sum_below n g
unfolding sum_below
sum_less zero f g h s b l = absurd (not-suc-le-zero b)
sum_less (suc n) f g h s b l =
    ⊎_elim
    (λ e. let rest = sum_most n f g (λ i c. h i (omega arith)) in
    let here = subst (λ (i : ℕ). f i < g i) e l in
    omega (arith, rest, here))
    (λ c. let rest = sum_less n f g (λ i d. h i (omega arith)) s c l in omega (arith, rest, h n (omega arith)))
    (eq-or-lt_of_le (le_of_suc-le-suc b))

-- a number is at most the sum that it is in
sum_has : (n : ℕ) (f : ℕ → ℕ) (s : ℕ) → s < n → f s ≤ sum_below n f
unfolding sum_below
sum_has zero f s b = absurd (not-suc-le-zero b)
sum_has (suc n) f s b =
    ⊎_elim
    (λ e. subst (λ (i : ℕ). f i ≤ sum_below n f + f n) (sym e) (omega arith))
    (λ c. let rest = sum_has n f s c in omega (arith, rest))
    (eq-or-lt_of_le (le_of_suc-le-suc b))

-- a sum of n numbers of which none is greater than m
sum_bound : (n m : ℕ) (f : ℕ → ℕ) → ((i : ℕ) → i < n → f i ≤ m) → sum_below n f ≤ n * m
unfolding sum_below
sum_bound zero m f h = omega arith
sum_bound (suc n) m f h =
    let rest = sum_bound n m f (λ i b. h i (omega arith)) in
    let more : suc n * m ≡ n * m + m = suc-mul n m in
    omega (arith, rest, h n (omega arith), more)

-- ---- one round

-- the sum of the slots' measures
unfoldable pub all_left : State → List ℕ → ℕ
all_left st ws = sum_below slot_count (grants_left st ws)

-- "16 × 38 = 608": what all slots have left at most
pub all_left_bound : (st : State) (ws : List ℕ) → Invariant st ws → all_left st ws ≤ rounds_enough
unfolding all_left
all_left_bound st ws inv =
    let most : sum_below slot_count (grants_left st ws) ≤ slot_count * slot_grants = sum_bound slot_count slot_grants (grants_left st ws) (λ s b. one s b (true_or_false (open_at st s))) in
    omega (arith, most, rounds_of_slots)
  where
    one : (s : ℕ) → s < slot_count → (open_at st s ≡ true) ⊎ (open_at st s ≡ false) → grants_left st ws s ≤ slot_grants
    one s b = ⊎_elim (λ o. (measure_bound st ws inv s b o).1) (λ f. omega (arith, measure_closed st ws s f))

-- a slot's measure is at most the sum
left_has : (st : State) (ws : List ℕ) (s : ℕ) → s < slot_count → grants_left st ws s ≤ all_left st ws
unfolding all_left
left_has st ws s b = sum_has slot_count (grants_left st ws) s b

-- with every slot closed nothing is left
nothing_left : (st : State) (ws : List ℕ) → ((s : ℕ) → s < slot_count → open_at st s ≡ false) → all_left st ws ≡ 0
unfolding all_left
nothing_left st ws closed =
    let most : sum_below slot_count (grants_left st ws) ≤ slot_count * 0
    = sum_bound slot_count 0 (grants_left st ws) (λ s b. omega (arith, measure_closed st ws s (closed s b))) in
    omega arith

-- calls one behind the other
pub run_append : (cs ds : List Call) (st : State) (ws : List ℕ)
    → ((run (cs ++ ds) st ws).state ≡ (run ds (run cs st ws).state (run cs st ws).words).state)
    × ((run (cs ++ ds) st ws).words ≡ (run ds (run cs st ws).state (run cs st ws).words).words)
unfolding run
run_append [] ds st ws = (refl, refl)
run_append (c ∷ cs) ds st ws = run_append cs ds (called st ws c).state (called st ws c).words

-- the invariant holds, and at most m is left
abbrev pub Fallen : ℕ → State → List ℕ → Type 0
Fallen m st ws = Invariant st ws × (all_left st ws ≤ m)

-- a step keeps the invariant
step_on : (st : State) (ws : List ℕ) → Invariant st ws → (s : ℕ) → Invariant (stepped st ws s).state (stepped st ws s).words
step_on st ws inv s = step_keeps st ws inv s (step_of st ws inv s)

-- no step raises a measure
never_up : (st : State) (ws : List ℕ) → Invariant st ws → (s u : ℕ) → u < slot_count → grants_left (stepped st ws s).state (stepped st ws s).words u ≤ grants_left st ws u
never_up st ws inv s u c =
    ⊎_elim
    (λ r. subst (λ (l : Left). grants_left l.state l.words u ≤ grants_left st ws u) (sym r.does) (omega arith))
    (λ g. ⊎_elim
    (λ e. subst (λ (i : ℕ). grants_left (stepped st ws s).state (stepped st ws s).words i ≤ grants_left st ws i) (sym e) (let falls = measure_falls st ws inv s g in omega (arith, falls)))
    (λ n. let stays = measure_stays st ws inv s g u c n in omega (arith, stays))
    (same_or_not u s))
    (step_cases st ws inv s)

-- a granted step lowers the sum
granted_lowers : (st : State) (ws : List ℕ) → (inv : Invariant st ws) → (s : ℕ) → Goes st s → all_left (stepped st ws s).state (stepped st ws s).words < all_left st ws
unfolding all_left
granted_lowers st ws inv s g =
    sum_less slot_count (grants_left (stepped st ws s).state (stepped st ws s).words) (grants_left st ws) (never_up st ws inv s) s g.inside
    (measure_falls st ws inv s g)

-- no step raises it
step_no_higher : (st : State) (ws : List ℕ) → (inv : Invariant st ws) → (s : ℕ) → all_left (stepped st ws s).state (stepped st ws s).words ≤ all_left st ws
unfolding all_left
step_no_higher st ws inv s = sum_most slot_count (grants_left (stepped st ws s).state (stepped st ws s).words) (grants_left st ws) (never_up st ws inv s)

-- Steps and reports keep the invariant and raise no sum.
pub quiet_calls : (cs : List Call) → any_begin cs ≡ false → (st : State) (ws : List ℕ) → Invariant st ws
    → Fallen (all_left st ws) (run cs st ws).state (run cs st ws).words
unfolding run called
quiet_calls [] quiet st ws inv = (inv, omega arith)
quiet_calls (begin s op ∷ cs) quiet st ws inv = absurd (true≢false quiet)
quiet_calls (report p ∷ cs) quiet st ws inv = quiet_calls cs quiet st ws inv
quiet_calls (step s ∷ cs) quiet st ws inv =
    let rest = quiet_calls cs quiet (stepped st ws s).state (stepped st ws s).words (step_on st ws inv s) in
    let first = step_no_higher st ws inv s in
    (rest.0, omega (arith, rest.1, first))

-- If a slot that can go is stepped among them the sum falls: either another was granted before its step, or nothing changed until
-- then and its own step is granted.
falls_by : (cs : List Call) → any_begin cs ≡ false → (u : ℕ) → u < slot_count → any_step_of u cs ≡ true
    → (st : State) (ws : List ℕ) → Invariant st ws → open_at st u ≡ true → grants st u ≡ true
    → all_left (run cs st ws).state (run cs st ws).words < all_left st ws
unfolding run called
falls_by [] quiet u b stepped-u st ws inv opened goes = absurd (true≢false (sym stepped-u))
falls_by (begin s op ∷ cs) quiet u b stepped-u st ws inv opened goes = absurd (true≢false quiet)
falls_by (report p ∷ cs) quiet u b stepped-u st ws inv opened goes = falls_by cs quiet u b stepped-u st ws inv opened goes
falls_by (step s ∷ cs) quiet u b stepped-u st ws inv opened goes =
    ⊎_elim
    (λ r. subst (λ (l : Left). all_left (run cs l.state l.words).state (run cs l.state l.words).words < all_left st ws) (sym r.does)
    (falls_by cs quiet u b (later r) st ws inv opened goes))
    (λ g. let rest = quiet_calls cs quiet (stepped st ws s).state (stepped st ws s).words (step_on st ws inv s) in
    let first = granted_lowers st ws inv s g in
    omega (arith, rest.1, first))
    (step_cases st ws inv s)
  where
    later : Rests st ws s → any_step_of u cs ≡ true
    later r =
        ⊎_elim
        (λ same. let e : s ≡ u = eqb-true s u same in
        not_both goes (subst (λ (i : ℕ). grants st i ≡ false) e (r.barred (subst (λ (i : ℕ). i < slot_count) (sym e) b) (subst (λ (i : ℕ). open_at st i ≡ true) (sym e) opened))))
        (λ h. h)
        (or_cases (eqb s u) (any_step_of u cs) stepped-u)

-- A round keeps the invariant, and lowers the sum by one at least where there is something left.
round_falls : (cs : List Call) (st : State) (ws : List ℕ) → Invariant st ws → Round st cs
    → Fallen (all_left st ws - 1) (run cs st ws).state (run cs st ws).words
round_falls cs st ws inv round =
    let quiet = quiet_calls cs round.no_begin st ws inv in (
      quiet.0,
      ⊎_elim
          (λ some.
          let found = any_below_at (open_at st) slot_count some in
          let can = some_can_go st ws inv found.0 found.1 found.2 in
          let falls = falls_by cs round.no_begin can.0 can.1 (round.every_open can.0 can.1 can.2) st ws inv can.2 can.3 in
          omega (arith, falls))
          (λ none. let empty : all_left st ws ≡ 0 = nothing_left st ws (any_below_false_at (open_at st) slot_count none) in omega (arith, empty, quiet.1))
          (true_or_false (any_below slot_count (open_at st))),
    )

-- m rounds lower it by m, as far as there is something left
rounds_fall : (rounds : List (List Call)) (st : State) (ws : List ℕ) → Invariant st ws → Rounds st ws rounds
    → Fallen (all_left st ws - length rounds) (run (all_calls rounds) st ws).state (run (all_calls rounds) st ws).words
unfolding run
rounds_fall [] st ws inv rounds = (inv, omega arith)
rounds_fall (cs ∷ rest) st ws inv rounds =
    let first = round_falls cs st ws inv rounds.0 in
    let next : State = (run cs st ws).state in
    let after : List ℕ = (run cs st ws).words in
    let more = rounds_fall rest next after first.0 rounds.1 in
    let whole = run_append cs (all_calls rest) st ws in
    subst (λ (final : State). Fallen (all_left st ws - suc (length rest)) final (run (cs ++ all_calls rest) st ws).words) (sym whole.0)
    (subst (λ (left : List ℕ). Fallen (all_left st ws - suc (length rest)) (run (all_calls rest) next after).state left) (sym whole.1)
    (more.0, omega (arith, first.1, more.1)))

-- From any state of a run `rounds_enough` rounds close every slot.
pub rounds_close : (st : State) (ws : List ℕ) → Invariant st ws → RoundsClose st ws
rounds_close st ws inv rounds each enough s b =
    let after = rounds_fall rounds st ws inv each in
    let before = all_left_bound st ws inv in
    false_if_not_true (open_at (run (all_calls rounds) st ws).state s) (λ opened.
    let some = (measure_bound (run (all_calls rounds) st ws).state (run (all_calls rounds) st ws).words after.0 s b opened).0 in
    let has = left_has (run (all_calls rounds) st ws).state (run (all_calls rounds) st ws).words s b in
    omega (arith, some, has, after.1, before, enough))
