-- A slot that converts: the kinds of lock of its pages in the order of conversion, where it begins, and what the next conversion makes of it.
use Prim.Native.Nat.{ℕ, ◌≤◌}
use native.Mathlib.Omega.{arith}
use mathlib.Core.Bool.{true, false, ◌&&◌, ◌||◌}
use mathlib.Core.List.{List, [], ◌∷◌, ◌++◌, map, append_assoc}
use mathlib.Core.Logic.{⊎_elim, ◌≢◌}
use mathlib.Core.Path.{◌≡◌, refl, sym, ap, ap₂, subst, ◌∙◌}
use borrow.Author.Tests.{eqb-true, eq-eqb, ne_eqb, ltb-true}
use lib.Dec.{leb, ltb, eqb}
use lib.ListN.{length}
use Rattle.ground.specs.Tests.{member, distinct}
use Rattle.ground.proofs.Bools.{not_both, false_if_not_true, and_second, and_both, and_second_fails, or_first, or_cases}
use Rattle.ground.proofs.Choice.{by_test, cond-true, cond-false}
use Rattle.ground.proofs.Tests.{member_here, member_there, member_none, member_append, member_inside, member_last}
use Rattle.slots.specs.declared.Lock.TheVariants.{None, Xi, Alpha}
use Rattle.slots.specs.declared.Under.{Under}
use Rattle.slots.specs.declared.Task.TheVariants.{Open}
use Rattle.slots.specs.Parts.{is_third, held_lock, under, xi_on, with_xi, Stand, holding, converting, want_converted, wants_next}
use Rattle.slots.specs.Sound.{limits_of}
use Rattle.slots.specs.Grant.{older_than}
use Rattle.slots.proofs.LockLaws.{third_alpha}
use Rattle.footing.specs.Granted.{in_turn, pages_in_turn, locks_in_turn, unconverted, to_convert}
use Rattle.footing.specs.Fitting.{xi_then_alpha}
use Rattle.tree.specs.Tree.{Tr}
use Rattle.runs.specs.Stance.{held_due, HoldsWith}
use Rattle.runs.specs.Step.{Scene}
use Rattle.runs.proofs.Placing.{well_held}
use Rattle.runs.proofs.Turns.{beside_one, held_turn, turn_different, turn_first, before_turn, once_before, locks_turn, passed_turn, next_turn, turn_kinds, xi_map}
use Rattle.runs.proofs.Locking.{all_due, holds_plain}
use Rattle.tree.proofs.Memory.{times_append, member_times, distinct_times}

-- the kinds in this order
abbrev in_turn_locks : List Under → List Under → List Under
in_turn_locks locks sidelocks = in_turn (under None) locks sidelocks

-- in a list without doubles nothing stands in both parts
split_once : (xs ys : List ℕ) → distinct (xs ++ ys) ≡ true → (p : ℕ) → member p xs ≡ true → member p ys ≡ true → ⊥
split_once xs ys d p a b =
    let first = member_times p xs a in
    let second = member_times p ys b in
    absurd (omega (arith, distinct_times (xs ++ ys) d p, times_append p xs ys, first, second))

-- the pages in the order of conversion, of a slot that holds fewer beside its path than on it, none twice
pub record Ordered (z : Stand) : Type 0 where
  pub few : length z.beside ≤ length z.path
  pub different : distinct (holding z) ≡ true

module _ (z : Stand) (o : Ordered z) where
  pub in_turn_lem : (q : ℕ) → member q (pages_in_turn z) ≡ member q (holding z)
  in_turn_lem q = held_turn z.path z.beside o.few q

  pub turn_once : distinct (pages_in_turn z) ≡ true
  turn_once = turn_different z.path z.beside o.few o.different

  -- ---- while it converts: so much is done, this page is wanted, and so much is left
  module _ (third : is_third z.op ≡ true) (holds : HoldsWith z) (done rest : List ℕ) (turns : pages_in_turn z ≡ done ++ z.want ∷ rest) where
    pub wants_own : converting z ≡ true
    wants_own = sym (in_turn_lem z.want) ∙ ap (member z.want) turns ∙ member_inside z.want done rest

    pub once_own : (member z.want done ≡ false) × (member z.want rest ≡ false)
    once_own = once_before done z.want rest (subst (λ (l : List ℕ). distinct l ≡ true) turns turn_once)

    before_own : older_than z.want (pages_in_turn z) ≡ done
    before_own = ap (older_than z.want) turns ∙ before_turn done z.want rest once_own.0

    -- what is done has ξ,
    pub due_done : (p : ℕ) → member p done ≡ true → held_due z p ≡ Xi
    due_done p m = cond-true Xi (held_lock z.op) (and_both wants_own (ap (member p) before_own ∙ m))

    -- and nothing else
    pub due_left : (p : ℕ) → member p done ≡ false → held_due z p ≡ Alpha
    due_left p m =
        cond-false Xi (held_lock z.op) (and_second_fails (converting z) (ap (member p) before_own ∙ m)) ∙ third_alpha z.op third

    -- a page that is left is not done
    left_new : (p : ℕ) → member p (z.want ∷ rest) ≡ true → member p done ≡ false
    left_new p m =
        let d = subst (λ (l : List ℕ). distinct l ≡ true) turns turn_once in
        false_if_not_true (member p done) (λ y. split_once done (z.want ∷ rest) d p y m)

    pub locks_own : locks_in_turn z ≡ map (λ (p : ℕ). under (held_due z p)) (pages_in_turn z)
    locks_own =
        ap₂ (λ (ls ss : List Under). in_turn_locks ls ss) holds.path holds.beside ∙ locks_turn (λ (p : ℕ). under (held_due z p)) z.path z.beside

    -- the step's tests of it
    pub turn_test : xi_then_alpha (locks_in_turn z) ≡ true
    turn_test =
        ap xi_then_alpha (locks_own ∙ ap (map (λ (p : ℕ). under (held_due z p))) turns)
        ∙ turn_kinds (λ (p : ℕ). under (held_due z p)) done (z.want ∷ rest) due_done (λ p m. due_left p (left_new p m))

    pub turn_wanted : to_convert z ≡ z.want ∷ rest
    turn_wanted =
        ap₂ unconverted turns (locks_own ∙ ap (map (λ (p : ℕ). under (held_due z p))) turns)
        ∙ passed_turn (λ (p : ℕ). under (held_due z p)) done (z.want ∷ rest) due_done
        ∙ next_turn (λ (p : ℕ). under (held_due z p)) z.want rest (due_left z.want once_own.0)

    -- ---- once the wanted page is converted

    abbrev made : Stand
    made = want_converted z

    abbrev kind_now : ℕ → Under
    kind_now p = xi_on z.want p (under (held_due z p))

    pub made_path : made.locks ≡ map kind_now z.path
    made_path = ap (with_xi z.want z.path) holds.path ∙ xi_map z.want (λ (p : ℕ). under (held_due z p)) z.path

    pub made_beside : made.sidelocks ≡ map kind_now z.beside
    made_beside = ap (with_xi z.want z.beside) holds.beside ∙ xi_map z.want (λ (p : ℕ). under (held_due z p)) z.beside

    now_want : (kind_now z.want).lock ≡ Xi
    now_want = ap (λ (u : Under). u.lock) (cond-true (under Xi) (under (held_due z z.want)) (eq-eqb z.want z.want refl))

    now_other : (p : ℕ) → z.want ≢ p → (kind_now p).lock ≡ held_due z p
    now_other p n = ap (λ (u : Under). u.lock) (cond-false (under Xi) (under (held_due z p)) (ne_eqb z.want p n))

    now_done : (p : ℕ) → member p (done ++ z.want ∷ []) ≡ true → (kind_now p).lock ≡ Xi
    now_done p m =
        by_test (eqb z.want p)
        (λ y. subst (λ (q : ℕ). (kind_now q).lock ≡ Xi) (eqb-true z.want p y) now_want)
        (λ n.
        let other : z.want ≢ p = λ e. not_both (eq-eqb z.want p e) n in
        now_other p other
        ∙ due_done p (⊎_elim (λ h. h) (λ e. absurd (other (sym e))) (member_last p done z.want m)))

    locks_made : locks_in_turn made ≡ map kind_now (pages_in_turn z)
    locks_made =
        ap₂ (λ (ls ss : List Under). in_turn_locks ls ss) made_path made_beside ∙ locks_turn kind_now z.path z.beside

    turns_made : pages_in_turn z ≡ (done ++ z.want ∷ []) ++ rest
    turns_made = turns ∙ sym (append_assoc done (z.want ∷ []) rest)

    -- what is left is what is still to be converted
    made_left : to_convert made ≡ unconverted rest (map kind_now rest)
    made_left =
        ap₂ unconverted turns_made (locks_made ∙ ap (map kind_now) turns_made)
        ∙ passed_turn kind_now (done ++ z.want ∷ []) rest now_done

    pub made_none : rest ≡ [] → to_convert made ≡ []
    unfolding unconverted
    made_none e = made_left ∙ ap (λ (l : List ℕ). unconverted l (map kind_now l)) e

    module _ (q : ℕ) (more : List ℕ) (next : rest ≡ q ∷ more) where
      left_other : z.want ≢ q
      left_other e = not_both (subst (λ (l : List ℕ). member z.want l ≡ true) (sym next) (subst (λ (p : ℕ). member z.want (p ∷ more) ≡ true) e (member_here z.want more))) once_own.1

      pub made_next : to_convert made ≡ q ∷ more
      made_next =
          made_left
          ∙ ap (λ (l : List ℕ). unconverted l (map kind_now l)) next
          ∙ next_turn kind_now q more
          (now_other q left_other ∙ due_left q (left_new q (member_there z.want q rest (ap (member q) next ∙ member_here q more))))

      abbrev after : Stand
      after = wants_next made q Xi

      pub after_turns : pages_in_turn after ≡ (done ++ z.want ∷ []) ++ q ∷ more
      after_turns = turns_made ∙ ap (λ (l : List ℕ). (done ++ z.want ∷ []) ++ l) next

      pub after_own : converting after ≡ true
      after_own = sym (in_turn_lem q) ∙ ap (member q) after_turns ∙ member_inside q (done ++ z.want ∷ []) more

      before_after : older_than q (pages_in_turn after) ≡ done ++ z.want ∷ []
      before_after =
          ap (older_than q) after_turns
          ∙ before_turn (done ++ z.want ∷ []) q more
          (once_before (done ++ z.want ∷ []) q more (subst (λ (l : List ℕ). distinct l ≡ true) after_turns turn_once)).0

      -- each page has the kind that is due now
      now_due : (p : ℕ) → (kind_now p).lock ≡ held_due after p
      now_due p =
          by_test (member p (done ++ z.want ∷ []))
          (λ m. now_done p m ∙ sym (cond-true Xi (held_lock z.op) (and_both after_own (ap (member p) before_after ∙ m))))
          (λ m.
          let other : z.want ≢ p = λ e. not_both (subst (λ (r : ℕ). member r (done ++ z.want ∷ []) ≡ true) e (member_inside z.want done [])) m in
          let not_done : member p done ≡ false
          = false_if_not_true (member p done) (λ y. not_both (member_append p done (z.want ∷ []) ∙ or_first (member p (z.want ∷ [])) y) m) in
          now_other p other
          ∙ due_left p not_done
          ∙ sym (third_alpha z.op third)
          ∙ sym (cond-false Xi (held_lock z.op) (and_second_fails (converting after) (ap (member p) before_after ∙ m))))

      pub after_holds : HoldsWith after
      after_holds = record {
        path = made_path ∙ all_due (λ (p : ℕ). (kind_now p).lock) (held_due after) z.path (λ p _. now_due p);
        beside = made_beside ∙ all_due (λ (p : ℕ). (kind_now p).lock) (held_due after) z.beside (λ p _. now_due p);
      }

-- ---- where it begins to convert: every page has α

module _ (y : Stand) (o : Ordered y) (third : is_third y.op ≡ true) (top : ℕ) (below : List ℕ) (path : y.path ≡ top ∷ below)
    (locks : y.locks ≡ map (λ (p : ℕ). under (held_lock y.op)) y.path) (sidelocks : y.sidelocks ≡ map (λ (p : ℕ). under (held_lock y.op)) y.beside) where
  abbrev first : Stand
  first = wants_next y top Xi

  abbrev behind : List ℕ
  behind = beside_one 0 (length below) y.beside ++ in_turn 0 below y.beside

  pub first_turns : pages_in_turn first ≡ top ∷ behind
  first_turns = ap (λ (ps : List ℕ). in_turn 0 ps y.beside) path ∙ turn_first top below y.beside

  pub first_wanted : to_convert y ≡ top ∷ behind
  first_wanted =
      ap₂ unconverted first_turns
      (ap₂ (λ (ls ss : List Under). in_turn_locks ls ss) locks sidelocks
      ∙ locks_turn (λ (p : ℕ). under (held_lock y.op)) y.path y.beside
      ∙ ap (map (λ (p : ℕ). under (held_lock y.op))) first_turns)
      ∙ next_turn (λ (p : ℕ). under (held_lock y.op)) top behind (third_alpha y.op third)

  pub first_own : converting first ≡ true
  first_own = sym (in_turn_lem y o top) ∙ ap (member top) first_turns ∙ member_here top behind

  first_due : (p : ℕ) → held_due first p ≡ held_lock y.op
  first_due p =
      cond-false Xi (held_lock y.op)
      (and_second_fails (converting first) (ap (λ (l : List ℕ). member p (older_than top l)) first_turns ∙ ap (member p) (before_turn [] top behind (member_none top)) ∙ member_none p))

  pub first_holds : HoldsWith first
  first_holds = holds_plain first first_due locks sidelocks

-- ---- in a run

-- what an open slot holds stands in this order
pub scene_ordered : (k n : ℕ) (ws : List ℕ) (l : ℕ) (t : Tr l) (z : Stand) → Scene k n ws l t z → Ordered z
scene_ordered k n ws l t z scene =
    let well = well_held k n ws l t z scene in
    let path : ℕ = length z.path in
    let beside : ℕ = length z.beside in
    let few = and_second (leb path (limits_of (Open z.op)).on_path && leb beside (limits_of (Open z.op)).beside) (eqb beside 0 || ltb beside path) well.limits in
    record {
      few = ⊎_elim (λ e. omega (arith, eqb-true beside 0 e)) (λ h. omega (arith, ltb-true beside path h)) (or_cases (eqb beside 0) (ltb beside path) few);
      different = well.different;
    }
