-- How many grants an operation takes: its way down takes one a level, and then a deletion one for each sibling, and a Next one for
-- each page of its second way. (By the third way: Conversions.)
use Prim.Native.Nat.{ℕ, ◌+◌, ◌-◌, ◌*◌, ◌≤◌, ◌<◌}
use mathlib.Core.Bool.{true, false}
use mathlib.Core.List.{List, [], ◌∷◌, reverse}
use mathlib.Core.Logic.{⊎_elim}
use mathlib.Core.Path.{◌≡◌, refl, sym, ap, ap₂, ◌∙◌, subst}
use native.Mathlib.Omega.{arith}
use lib.ListN.{length}
use Rattle.ground.specs.Limits.{slot_count}
use Rattle.ground.proofs.Bools.{true_or_false, not_both}
use Rattle.ground.proofs.Choice.{cond-true, cond-false}
use Rattle.pool.specs.Pool.{page_at}
use Rattle.slots.specs.declared.Op.{Op}
use Rattle.slots.specs.declared.Slot.{Slot}
use Rattle.slots.specs.declared.State.{State}
use Rattle.slots.specs.declared.Outcome.{Outcome}
use Rattle.slots.specs.Heard.{number_of}
use Rattle.slots.specs.Parts.{is_open, is_second, is_third, first_way, goes_beside, path_of, fresh_stand, stand_of, slot_of, slot_at, open_at, want_at, Opened}
use Rattle.slots.specs.Grant.{converts_at}
use Rattle.slots.specs.Begin.{begun}
use Rattle.slots.proofs.LockLaws.{first_not_second, first_not_third, third_not_second}
use Rattle.slots.proofs.Keeping.{path_new}
use Rattle.footing.specs.Granted.{at_its_leaf}
use Rattle.index.specs.Step.{Left, stepped}
use Rattle.runs.specs.Run.{Call, begin, called, InWords}
use Rattle.runs.specs.Counts.{granted_to, grants_of, ends_within, height_granted, second_task, second_at, begins_again, grants_second, Behind, behind, behind_again, FirstCounts, GrantCounts, CountsFrom}
use Rattle.runs.proofs.Invariant.{Invariant}
use Rattle.runs.proofs.Calls.{same_op}
use Rattle.runs.proofs.Runs.{BeginOf, no_such, busy, blank, begins_so, begin_of, call_keeps}
use Rattle.runs.proofs.Measure.{grants_left, beside_first, Where, at_start, on_the_way, at_the_leaf, in_turns}
use Rattle.runs.proofs.MeasureLaws.{undisturbed_measure, measure_falls, measure_bound, measure_first, measure_second, where_slot, low_above, start_above}
pub use Rattle.runs.proofs.Grants.{granted_heard}
use Rattle.runs.proofs.Grants.{grants_on, grants_last, grants_other, ends_later, height_now, height_later, none_ends, none_granted, begins_here, GrantCall, OtherCall, call_cases, Under, WentDown, over, lower, again, grant_down, undisturbed_open, undisturbed_under, root_level}
use Rattle.runs.proofs.Conversions.{third_counts}

-- So many grants were needed: at least m, and for what goes straight down just m.
abbrev Needs : Op → ℕ → ℕ → Type 0
Needs op m grants = (m ≤ grants) × (goes_beside op ≡ false → grants ≡ m)

module _ (s : ℕ) (b : s < slot_count) where
  -- an open slot is granted at most what its measure says
  at_most : (cs : List Call) → InWords cs → (st : State) (ws : List ℕ) → Invariant st ws → open_at st s ≡ true → grants_of s cs st ws ≤ grants_left st ws s
  at_most [] words st ws inv opened = omega (arith, none_granted s st ws)
  at_most (c ∷ cs) words st ws inv opened =
      let next : State = (called st ws c).state in
      let after : List ℕ = (called st ws c).words in
      let kept_inv : Invariant next after = call_keeps st ws inv c words.0 in
      ⊎_elim
      (λ g.
      let falls : grants_left next after s < grants_left st ws s
      = subst (λ (l : Left). grants_left l.state l.words s < grants_left st ws s) (sym g.does) (measure_falls st ws inv s g.goes) in
      ⊎_elim
      (λ o. let rest = at_most cs words.1 next after kept_inv o in omega (arith, grants_on s c cs st ws g.granted o, rest, falls))
      (λ o. omega (arith, grants_last s c cs st ws g.granted o, (measure_bound st ws inv s b opened).0))
      (true_or_false (open_at next s)))
      (λ o.
      let still = undisturbed_open st ws next after s o.keeps opened in
      let rest = at_most cs words.1 next after kept_inv still in
      omega (arith, grants_other s c cs st ws o.other still, rest, undisturbed_measure st ws next after s o.keeps))
      (call_cases st ws inv s b opened c)

  -- the same of a call that is granted
  called_down : (c : Call) (st : State) (ws : List ℕ) → Invariant st ws → (op : Op) → Opened st s op → GrantCall st ws s c → (m : ℕ)
      → converts_at st s ≡ false → at_its_leaf (page_at st.k ws) (reverse (path_of (slot_at st s))) ≡ false → (page_at st.k ws (want_at st s)).level ≡ m + 1
      → WentDown (called st ws c).state (called st ws c).words s op m (length (path_of (slot_at st s)))
  called_down c st ws inv op runs g m new above wanted =
      subst (λ (l : Left). WentDown l.state l.words s op m (length (path_of (slot_at st s)))) (sym g.does)
      (subst (λ (o : Op). WentDown (stepped st ws s).state (stepped st ws s).words s o m (length (path_of (slot_at st s))))
      (same_op (sym g.goes.runs ∙ runs))
      (grant_down st ws inv s g.goes m new above wanted))

  -- one grant more, where the rest needs m
  one_more : (c : Call) (cs : List Call) (st : State) (ws : List ℕ) (op : Op) (m : ℕ) → granted_to s st ws c ≡ true → open_at (called st ws c).state s ≡ true
      → Needs op m (grants_of s cs (called st ws c).state (called st ws c).words) → Needs op (m + 1) (grants_of s (c ∷ cs) st ws)
  one_more c cs st ws op m g o rest =
      let is = grants_on s c cs st ws g o in
      (omega (arith, is, rest.0), λ so. is ∙ omega (arith, rest.1 so))

  -- the last grant
  last_one : (c : Call) (cs : List Call) (st : State) (ws : List ℕ) (op : Op) (m : ℕ) → granted_to s st ws c ≡ true → open_at (called st ws c).state s ≡ false
      → m ≡ 0 → Needs op (m + 1) (grants_of s (c ∷ cs) st ws)
  last_one c cs st ws op m g o e =
      let is = grants_last s c cs st ws g o in
      (omega (arith, is, e), λ so. omega (arith, is, e))

  -- on the way down it is granted one page a level
  going_down : (cs : List Call) → InWords cs → (st : State) (ws : List ℕ) → Invariant st ws → (op : Op) → is_second op ≡ false → is_third op ≡ false → (level : ℕ) → Under st ws s op level
      → ends_within s cs st ws ≡ true → Needs op (level - 1) (grants_of s cs st ws)
  going_down [] words st ws inv op first only level u ends_so = not_both ends_so (none_ends s st ws)
  going_down (c ∷ cs) words st ws inv op first only level u ends_so =
      ⊎_elim
      (λ g. granted_now (going_down cs words.1 next after kept_inv op first only) g (where_slot st ws inv s op b u.runs))
      (λ o.
      let still = undisturbed_open st ws next after s o.keeps (ap is_open u.runs) in
      let rest = going_down cs words.1 next after kept_inv op first only level (undisturbed_under st ws next after s op level o.keeps u)
      (sym (ends_later s c cs st ws still) ∙ ends_so) in
      subst (Needs op (level - 1)) (sym (grants_other s c cs st ws o.other still)) rest)
      (call_cases st ws inv s b (ap is_open u.runs) c)
    where
      next : State
      next = (called st ws c).state

      after : List ℕ
      after = (called st ws c).words

      kept_inv : Invariant next after
      kept_inv = call_keeps st ws inv c words.0

      granted_now : ((lower : ℕ) → Under next after s op lower → ends_within s cs next after ≡ true → Needs op (lower - 1) (grants_of s cs next after))
          → GrantCall st ws s c
          → Where (page_at st.k ws) inv.height inv.tree (stand_of op (slot_at st s))
          → Needs op (level - 1) (grants_of s (c ∷ cs) st ws)
      granted_now rest g (at_start new e f h) = absurd (omega (arith, u.some, ap length e))
      granted_now rest g (in_turns w o) = not_both o.third only
      granted_now rest g (at_the_leaf new w f d there) = (omega (arith, u.lowest, w.level), λ so. not_both d so)
      granted_now rest g (on_the_way new low w e h) =
          subst (λ (m : ℕ). Needs op m (grants_of s (c ∷ cs) st ws)) (omega (arith, u.lowest, w.level))
          (by_down (called_down c st ws inv op u.runs g low new (low_above (page_at st.k ws) inv.height inv.tree (path_of (slot_at st s)) low w) h))
        where
          by_down : WentDown next after s op low (length (path_of (slot_at st s))) → Needs op (low + 1) (grants_of s (c ∷ cs) st ws)
          by_down (over closed e) = last_one c cs st ws op low g.granted closed e
          by_down (lower under few) =
              let still : open_at next s ≡ true = ap is_open under.runs in
              let less : low + 1 - 1 ≡ low = omega arith in
              one_more c cs st ws op low g.granted still
              (subst (λ (m : ℕ). Needs op m (grants_of s cs next after)) less (rest (low + 1) under (sym (ends_later s c cs st ws still) ∙ ends_so)))
          by_down (again second runs none e) = not_both second first

  -- from where it has just begun it is granted h pages on its way down, and at most 2h - 1 in all
  from_start : (cs : List Call) → InWords cs → (st : State) (ws : List ℕ) → Invariant st ws → (op : Op) → is_second op ≡ false → is_third op ≡ false → Opened st s op → path_of (slot_at st s) ≡ []
      → (ends_within s cs st ws ≡ true → Needs op (height_granted s cs st ws) (grants_of s cs st ws))
      × (grants_of s cs st ws ≤ 2 * height_granted s cs st ws - 1)
  from_start [] words st ws inv op first only runs none = (λ ends_so. not_both ends_so (none_ends s st ws), omega (arith, none_granted s st ws))
  from_start (c ∷ cs) words st ws inv op first only runs none =
      ⊎_elim
      (λ g. granted_now g (where_slot st ws inv s op b runs))
      (λ o.
      let still = undisturbed_open st ws next after s o.keeps (ap is_open runs) in
      let rest = from_start cs words.1 next after kept_inv op first only (ap (λ (slot : Slot). slot.task) o.keeps.slot ∙ runs) (ap path_of o.keeps.slot ∙ none) in
      let is = grants_other s c cs st ws o.other still in
      let height = height_later s c cs st ws o.other in (
        λ ends_so.
            subst (λ (h : ℕ). Needs op h (grants_of s (c ∷ cs) st ws)) (sym height)
            (subst (Needs op (height_granted s cs next after)) (sym is) (rest.0 (sym (ends_later s c cs st ws still) ∙ ends_so))),
        omega (arith, is, height, rest.1),
      ))
      (call_cases st ws inv s b (ap is_open runs) c)
    where
      next : State
      next = (called st ws c).state

      after : List ℕ
      after = (called st ws c).words

      kept_inv : Invariant next after
      kept_inv = call_keeps st ws inv c words.0

      granted_now : GrantCall st ws s c
          → Where (page_at st.k ws) inv.height inv.tree (stand_of op (slot_at st s))
          → (ends_within s (c ∷ cs) st ws ≡ true → Needs op (height_granted s (c ∷ cs) st ws) (grants_of s (c ∷ cs) st ws))
          × (grants_of s (c ∷ cs) st ws ≤ 2 * height_granted s (c ∷ cs) st ws - 1)
      granted_now g (on_the_way new low w e h) = absurd (omega (arith, w.some, ap length none))
      granted_now g (at_the_leaf new w f d there) = absurd (omega (arith, w.some, ap length none))
      granted_now g (in_turns w o) = not_both o.third only
      granted_now g (at_start new e f h) =
          let l : ℕ = inv.height in
          let height : height_granted s (c ∷ cs) st ws ≡ l + 1 = height_now s c cs st ws g.granted ∙ root_level st ws inv in
          by_down height (called_down c st ws inv op runs g l new (start_above (page_at st.k ws) l inv.tree (path_of (slot_at st s)) none) h)
        where
          by_down : height_granted s (c ∷ cs) st ws ≡ inv.height + 1 → WentDown next after s op inv.height (length (path_of (slot_at st s)))
              → (ends_within s (c ∷ cs) st ws ≡ true → Needs op (height_granted s (c ∷ cs) st ws) (grants_of s (c ∷ cs) st ws))
              × (grants_of s (c ∷ cs) st ws ≤ 2 * height_granted s (c ∷ cs) st ws - 1)
          by_down height (over closed e') = (
            λ _. subst (λ (m : ℕ). Needs op m (grants_of s (c ∷ cs) st ws)) (sym height) (last_one c cs st ws op inv.height g.granted closed e'),
            omega (arith, height, grants_last s c cs st ws g.granted closed),
          )
          by_down height (lower under few) =
              let l : ℕ = inv.height in
              let still : open_at next s ≡ true = ap is_open under.runs in
              let less : l + 1 - 1 ≡ l = omega arith in (
                λ ends_so. subst (λ (m : ℕ). Needs op m (grants_of s (c ∷ cs) st ws)) (sym height)
                    (one_more c cs st ws op l g.granted still
                    (subst (λ (m : ℕ). Needs op m (grants_of s cs next after)) less
                    (going_down cs words.1 next after kept_inv op first only (l + 1) under (sym (ends_later s c cs st ws still) ∙ ends_so)))),
                omega (arith, height, grants_on s c cs st ws g.granted still, at_most cs words.1 next after kept_inv still, few first only, ap length none),
              )
          by_down height (again second runs' none' e') = not_both second first

  -- The grants of an operation by the first way that has just begun in a state of a run.
  first_counts : (op : Op) (cs : List Call) (st : State) (ws : List ℕ) → Invariant st ws → InWords cs → is_second op ≡ false → is_third op ≡ false → Opened st s op → path_of (slot_at st s) ≡ []
      → FirstCounts s op cs st ws
  first_counts op cs st ws inv words first only runs none =
      let counted = from_start cs words st ws inv op first only runs none in
      record {
        exactly = λ so ends_so. (counted.0 ends_so).1 so;
        least = λ ends_so. (counted.0 ends_so).0;
        most = counted.1;
        in_all = omega (arith, at_most cs words st ws inv (ap is_open runs), measure_first st ws inv s op b runs first only);
      }

  -- ---- by the second way

  -- So many grants are needed: m where it does not begin again, m until it does, and then what the first way needs.
  record SecondNeeds (op : Op) (m : ℕ) (cs : List Call) (st : State) (ws : List ℕ) : Type 0 where
    straight : begins_again s cs st ws ≡ false → ends_within s cs st ws ≡ true → grants_of s cs st ws ≡ m
    downward : begins_again s cs st ws ≡ true → grants_second s cs st ws ≡ m
    afresh : begins_again s cs st ws ≡ true
        → FirstCounts s (first_way op) (behind_again s cs st ws).calls (behind_again s cs st ws).state (behind_again s cs st ws).words
    together : begins_again s cs st ws ≡ true
        → grants_of s cs st ws
        ≡ grants_second s cs st ws + grants_of s (behind_again s cs st ws).calls (behind_again s cs st ws).state (behind_again s cs st ws).words

  -- no call: nothing has ended and nothing has begun again
  none_needed : (op : Op) (m : ℕ) (st : State) (ws : List ℕ) → SecondNeeds op m [] st ws
  unfolding begins_again
  none_needed op m st ws = record {
    straight = λ _ e. not_both e (none_ends s st ws);
    downward = λ e. not_both e refl;
    afresh = λ e. not_both e refl;
    together = λ e. not_both e refl;
  }

  module _ (op : Op) (second : is_second op ≡ true) (c : Call) (cs : List Call) (st : State) (ws : List ℕ) where
    abbrev next : State
    next = (called st ws c).state

    abbrev after : List ℕ
    after = (called st ws c).words

    -- it goes on by the second way, after a grant or another call
    module _ (granted : ℕ) (goes : Opened next s op) (m : ℕ) (is : grants_of s (c ∷ cs) st ws ≡ granted + grants_of s cs next after)
        (downs : grants_second s (c ∷ cs) st ws ≡ granted + grants_second s cs next after) where
      still : open_at next s ≡ true
      still = ap is_open goes

      by_second : second_at next s ≡ true
      by_second = ap second_task goes ∙ second

      same_again : begins_again s (c ∷ cs) st ws ≡ begins_again s cs next after
      unfolding begins_again
      same_again = cond-true _ false still ∙ cond-true (begins_again s cs next after) true by_second

      same_behind : behind_again s (c ∷ cs) st ws ≡ behind_again s cs next after
      unfolding behind_again
      same_behind = cond-true (behind_again s cs next after) (behind cs next after) by_second

      goes_second : SecondNeeds op m cs next after → SecondNeeds op (granted + m) (c ∷ cs) st ws
      goes_second rest = record {
        straight = λ not-again ends_so.
            is ∙ ap (λ (a : ℕ). granted + a) (rest.straight (sym same_again ∙ not-again) (sym (ends_later s c cs st ws still) ∙ ends_so));
        downward = λ anew. downs ∙ ap (λ (a : ℕ). granted + a) (rest.downward (sym same_again ∙ anew));
        afresh = λ anew.
            subst (λ (q : Behind). FirstCounts s (first_way op) q.calls q.state q.words) (sym same_behind) (rest.afresh (sym same_again ∙ anew));
        together = λ anew.
            subst (λ (q : Behind). grants_of s (c ∷ cs) st ws ≡ grants_second s (c ∷ cs) st ws + grants_of s q.calls q.state q.words) (sym same_behind)
            (omega (arith, is, downs, rest.together (sym same_again ∙ anew)));
      }

    -- the grants by the second way, call by call
    second_on : granted_to s st ws c ≡ true → Opened next s op → grants_second s (c ∷ cs) st ws ≡ 1 + grants_second s cs next after
    unfolding grants_second
    second_on g goes =
        ap₂ (λ (i j : ℕ). i + j) (cond-true 1 0 g) (cond-true (grants_second s cs next after) 0 (ap second_task goes ∙ second))

    second_other : granted_to s st ws c ≡ false → Opened next s op → grants_second s (c ∷ cs) st ws ≡ 0 + grants_second s cs next after
    unfolding grants_second
    second_other g goes =
        ap₂ (λ (i j : ℕ). i + j) (cond-false 1 0 g) (cond-true (grants_second s cs next after) 0 (ap second_task goes ∙ second))

    -- its operation ends
    ends_second : granted_to s st ws c ≡ true → open_at next s ≡ false → SecondNeeds op 1 (c ∷ cs) st ws
    unfolding begins_again
    ends_second g closed =
        let never : begins_again s (c ∷ cs) st ws ≡ false = cond-false _ false closed in
        record {
          straight = λ _ _. grants_last s c cs st ws g closed;
          downward = λ anew. not_both anew never;
          afresh = λ anew. not_both anew never;
          together = λ anew. not_both anew never;
        }

    -- it begins again
    again_second : Invariant next after → InWords cs → granted_to s st ws c ≡ true → Opened next s (first_way op) → path_of (slot_at next s) ≡ []
        → SecondNeeds op 1 (c ∷ cs) st ws
    unfolding begins_again grants_second behind_again
    again_second inv' words g runs none =
        let first : second_at next s ≡ false = ap second_task runs ∙ first_not_second op in
        let now : begins_again s (c ∷ cs) st ws ≡ true = cond-true _ false (ap is_open runs) ∙ cond-false (begins_again s cs next after) true first in
        let one : grants_second s (c ∷ cs) st ws ≡ 1 = ap₂ (λ (i j : ℕ). i + j) (cond-true 1 0 g) (cond-false (grants_second s cs next after) 0 first) in
        let rest : behind_again s (c ∷ cs) st ws ≡ behind cs next after = cond-false (behind_again s cs next after) (behind cs next after) first in
        record {
          straight = λ never. not_both now never;
          downward = λ _. one;
          afresh = λ _.
              subst (λ (q : Behind). FirstCounts s (first_way op) q.calls q.state q.words) (sym rest)
              (first_counts (first_way op) cs next after inv' words (first_not_second op) (first_not_third op) runs none);
          together = λ _.
              subst (λ (q : Behind). grants_of s (c ∷ cs) st ws ≡ grants_second s (c ∷ cs) st ws + grants_of s q.calls q.state q.words) (sym rest)
              (omega (arith, grants_on s c cs st ws g (ap is_open runs), one));
        }

    -- a grant on level m + 1
    grant_second : (m depth : ℕ) → Invariant next after → InWords cs → granted_to s st ws c ≡ true → WentDown next after s op m depth
        → (Under next after s op (m + 1) → SecondNeeds op m cs next after) → SecondNeeds op (m + 1) (c ∷ cs) st ws
    grant_second m depth inv' words g (over closed e) rest = subst (λ (i : ℕ). SecondNeeds op i (c ∷ cs) st ws) (omega (arith, e)) (ends_second g closed)
    grant_second m depth inv' words g (lower under few) rest =
        subst (λ (i : ℕ). SecondNeeds op i (c ∷ cs) st ws) (omega arith)
        (goes_second 1 under.runs m (grants_on s c cs st ws g (ap is_open under.runs)) (second_on g under.runs) (rest under))
    grant_second m depth inv' words g (again _ runs none e) rest =
        subst (λ (i : ℕ). SecondNeeds op i (c ∷ cs) st ws) (omega (arith, e)) (again_second inv' words g runs none)

    -- any other call
    other_second : (m : ℕ) → (inv : Invariant st ws) → Opened st s op → OtherCall st ws s c → SecondNeeds op m cs next after → SecondNeeds op m (c ∷ cs) st ws
    other_second m inv runs o rest =
        let goes : Opened next s op = ap (λ (slot : Slot). slot.task) o.keeps.slot ∙ runs in
        subst (λ (i : ℕ). SecondNeeds op i (c ∷ cs) st ws) (omega arith)
        (goes_second 0 goes m (omega (arith, grants_other s c cs st ws o.other (ap is_open goes))) (second_other o.other goes) rest)

  -- on the way down
  second_way : (cs : List Call) → InWords cs → (st : State) (ws : List ℕ) → Invariant st ws → (op : Op) → is_second op ≡ true → (level : ℕ) → Under st ws s op level
      → SecondNeeds op (level - 1) cs st ws
  second_way [] words st ws inv op second level u = none_needed op (level - 1) st ws
  second_way (c ∷ cs) words st ws inv op second level u =
      ⊎_elim
      (λ g. granted_now (second_way cs words.1 next' after' kept_inv op second) g (where_slot st ws inv s op b u.runs))
      (λ o.
      other_second op second c cs st ws (level - 1) inv u.runs o
      (second_way cs words.1 next' after' kept_inv op second level (undisturbed_under st ws next' after' s op level o.keeps u)))
      (call_cases st ws inv s b (ap is_open u.runs) c)
    where
      next' : State
      next' = (called st ws c).state

      after' : List ℕ
      after' = (called st ws c).words

      kept_inv : Invariant next' after'
      kept_inv = call_keeps st ws inv c words.0

      granted_now : ((lower : ℕ) → Under next' after' s op lower → SecondNeeds op (lower - 1) cs next' after')
          → GrantCall st ws s c
          → Where (page_at st.k ws) inv.height inv.tree (stand_of op (slot_at st s))
          → SecondNeeds op (level - 1) (c ∷ cs) st ws
      granted_now rest g (at_start new e f h) = absurd (omega (arith, u.some, ap length e))
      granted_now rest g (at_the_leaf new w f d there) = not_both second (beside_first op d)
      granted_now rest g (in_turns w o) = not_both second (third_not_second op o.third)
      granted_now rest g (on_the_way new low w e h) =
          subst (λ (m : ℕ). SecondNeeds op m (c ∷ cs) st ws) (omega (arith, u.lowest, w.level))
          (grant_second op second c cs st ws low (length (path_of (slot_at st s))) kept_inv words.1 g.granted
          (called_down c st ws inv op u.runs g low new (low_above (page_at st.k ws) inv.height inv.tree (path_of (slot_at st s)) low w) h)
          (λ under. subst (λ (m : ℕ). SecondNeeds op m cs next' after') (omega arith) (rest (low + 1) under)))

  -- from where it has just begun
  second_start : (cs : List Call) → InWords cs → (st : State) (ws : List ℕ) → Invariant st ws → (op : Op) → is_second op ≡ true → Opened st s op → path_of (slot_at st s) ≡ []
      → SecondNeeds op (height_granted s cs st ws) cs st ws
  second_start [] words st ws inv op second runs none = none_needed op (height_granted s [] st ws) st ws
  second_start (c ∷ cs) words st ws inv op second runs none =
      ⊎_elim
      (λ g. granted_now g (where_slot st ws inv s op b runs))
      (λ o.
      subst (λ (m : ℕ). SecondNeeds op m (c ∷ cs) st ws) (sym (height_later s c cs st ws o.other))
      (other_second op second c cs st ws (height_granted s cs next' after') inv runs o
      (second_start cs words.1 next' after' kept_inv op second (ap (λ (slot : Slot). slot.task) o.keeps.slot ∙ runs) (ap path_of o.keeps.slot ∙ none))))
      (call_cases st ws inv s b (ap is_open runs) c)
    where
      next' : State
      next' = (called st ws c).state

      after' : List ℕ
      after' = (called st ws c).words

      kept_inv : Invariant next' after'
      kept_inv = call_keeps st ws inv c words.0

      granted_now : GrantCall st ws s c
          → Where (page_at st.k ws) inv.height inv.tree (stand_of op (slot_at st s))
          → SecondNeeds op (height_granted s (c ∷ cs) st ws) (c ∷ cs) st ws
      granted_now g (on_the_way new low w e h) = absurd (omega (arith, w.some, ap length none))
      granted_now g (at_the_leaf new w f d there) = not_both second (beside_first op d)
      granted_now g (in_turns w o) = not_both second (third_not_second op o.third)
      granted_now g (at_start new e f h) =
          let l : ℕ = inv.height in
          subst (λ (m : ℕ). SecondNeeds op m (c ∷ cs) st ws) (sym (height_now s c cs st ws g.granted ∙ root_level st ws inv))
          (grant_second op second c cs st ws l (length (path_of (slot_at st s))) kept_inv words.1 g.granted
          (called_down c st ws inv op runs g l new (start_above (page_at st.k ws) l inv.tree (path_of (slot_at st s)) none) h)
          (λ under.
          subst (λ (m : ℕ). SecondNeeds op m cs next' after') (omega arith) (second_way cs words.1 next' after' kept_inv op second (l + 1) under)))

  -- The grants of an operation that has just begun in a state of a run.
  pub grant_counts : (op : Op) (cs : List Call) (st : State) (ws : List ℕ) → Invariant st ws → InWords cs → Opened st s op → path_of (slot_at st s) ≡ []
      → GrantCounts s op cs st ws
  grant_counts op cs st ws inv words runs none = record {
    first = λ first only. first_counts op cs st ws inv words first only runs none;
    second = λ second.
        let counted = second_start cs words st ws inv op second runs none in
        let opened : open_at st s ≡ true = ap is_open runs in
        record {
          straight = counted.straight;
          downward = counted.downward;
          afresh = counted.afresh;
          together = counted.together;
          in_all = omega (arith, at_most cs words st ws inv opened, measure_second st ws inv s op b runs second);
        };
    third = λ third. third_counts s b op third cs st ws inv words runs none;
  }

-- In a state of a run: whatever operation is begun, and whatever is called then.
pub counts_from : (st : State) (ws : List ℕ) → Invariant st ws → CountsFrom st ws
unfolding called
counts_from st ws inv s op cs words heard-begun = by_begin (begin_of st ws inv s op)
  where
    by_begin : BeginOf st s op → GrantCounts s op cs (begun st s op).state ws
    by_begin (no_such b e) = absurd (omega (arith, ap number_of (sym (ap (λ (o : Outcome). o.answer) e) ∙ heard-begun)))
    by_begin (busy b o e) = absurd (omega (arith, ap number_of (sym (ap (λ (o : Outcome). o.answer) e) ∙ heard-begun)))
    by_begin (blank b c t e) = absurd (omega (arith, ap number_of (sym (ap (λ (o : Outcome). o.answer) e) ∙ heard-begun)))
    by_begin (begins_so b c t e) =
        let here : slot_at (begun st s op).state s ≡ slot_of (fresh_stand op) = ap (λ (o : Outcome). slot_at o.state s) e ∙ begins_here st inv.shaped s b op in
        grant_counts s b op cs (begun st s op).state ws (call_keeps st ws inv (begin s op) words.0) words.1
        (ap (λ (slot : Slot). slot.task) here)
        (ap path_of here ∙ path_new (fresh_stand op))
