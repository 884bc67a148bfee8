-- The rule of a granted step is the rule of where the operation then stands; what the functions of a change may count on there; and
-- the courses by what was read, as the rule's words.
use Prim.Native.Nat.{ℕ, ◌-◌, ◌≤◌, ◌<◌}
use mathlib.Core.Bool.{Bool, true, false, cond, not, ◌&&◌, ◌||◌, false≢true}
use mathlib.Core.List.{List, [], ◌∷◌, ◌++◌, reverse, reverse-append}
use mathlib.Core.Logic.{⊎_elim}
use mathlib.Core.Path.{◌≡◌, refl, sym, ap, ap₂, ◌∙◌, subst}
use native.Mathlib.Omega.{arith}
use lib.Dec.{ltb}
use lib.ListN.{length, get_or}
use Rattle.std.specs.Prelude.{Option, Some, None}
use Rattle.ground.specs.Limits.{path_holds}
use Rattle.ground.specs.Tests.{member}
use Rattle.ground.proofs.Bools.{not_both, and_first, and_second, and_both, and_first_fails, or_second, or_cases}
use Rattle.ground.proofs.Choice.{by_test, cond-true, cond-false}
use Rattle.ground.proofs.Padded.{length_padded}
use Rattle.page.specs.Words.{Page, Entry, is_leaf}
use Rattle.page.specs.Place.{route, has, information}
use Rattle.page.specs.Reading.{looked}
use Rattle.pool.specs.Pool.{Write}
use Rattle.change.specs.Insertion.{room, insertion}
use Rattle.change.specs.Regrading.{regrading}
use Rattle.change.specs.Deletion.{Need, nothing, sibling, astray, needs, deletion}
use Rattle.change.specs.Held.{Needing, Holding, leaf_of, fathers_of}
use Rattle.change.proofs.HeldLaws.{Known, held_front, upward_reverse, upward_father}
use Rattle.slots.specs.declared.Op.{Op}
use Rattle.slots.specs.declared.Op.TheVariants.{Search, Insert, Delete, Next, Regrade}
use Rattle.slots.specs.declared.Way.{Way}
use Rattle.slots.specs.declared.Way.TheVariants.{First, Second, Third}
use Rattle.slots.specs.declared.Lock.{Lock}
use Rattle.slots.specs.declared.Lock.TheVariants.{Xi}
use Rattle.slots.specs.declared.Under.{Under}
use Rattle.slots.specs.declared.Answer.{Answer}
use Rattle.slots.specs.declared.Answer.TheVariants.{Found, NotFound, Inserted, AlreadyThere, Deleted, NoSuchKey, NoRoom, Regraded}
use Rattle.slots.specs.declared.Slot.{Slot}
use Rattle.slots.specs.Locks.{same_lock}
use Rattle.slots.specs.Parts.{key_of, is_delete, is_next, is_third, held_lock, path_of, beside_of, held, under, Stand, on_pages, want_beside, want_converted, converting, wants_next, with_op, stand_of}
use Rattle.slots.proofs.LockLaws.{third_not_second, third_not_xi}
use Rattle.course.specs.declared.judging.Course.{Course}
use Rattle.course.specs.declared.judging.Course.TheVariants.{Broken, Goes, Regrades, Again}
use Rattle.footing.specs.Granted.{Verdict, broken, goes, ends, is_safe, lock_below, deletes, by_need, again, stays_second, is_none, change_known, to_convert, by_turn, converted_first, at_leaf, from_leaf, by_way_at_leaf, comes_down, goes_left, besides, converts, at_its_leaf, granted}
use Rattle.footing.specs.Fitting.{descends, rightly_kept, rightly_beside, same_levels, is_sibling, rightly_across, lock_due, holds_due, fitting_new, rightly_converting, fitting, next_is_new}
use Rattle.footing.specs.Standing.{SlotStanding, stood, turn_of}
use Rattle.footing.proofs.LookLaws.{below_first}
use Rattle.footing.proofs.KeepLaws.{cell_known}
use Rattle.footing.proofs.AcrossLaws.{across_idle}
use Rattle.footing.proofs.OnTurn.{converts_facts}
use Rattle.course.specs.Judged.{on_second, judged_at, begins_again, turn_course, judged, if_new, course_of, ready, next_course, search_course, insert_course, need_course, delete_course, stands_last}
use Rattle.course.proofs.StandLaws.{Topped, cond_both, stood_ind}

-- ---- the rule of a granted step

-- on from page p of its way
abbrev onward : (ℕ → Page) → Stand → ℕ → Verdict
onward memory z p = goes (wants_next z (route (key_of z.op) (memory p)) (lock_below z.op (memory p)))

module _ (k : ℕ) (memory : ℕ → Page) (free : List ℕ) where
  -- what an operation does that stands at this leaf below these fathers, or at a page above the leaves
  leaf_act : Stand → ℕ → List ℕ → Verdict
  leaf_act z leaf fathers =
      cond (begins_again z.op k memory leaf) (again z.op) (converted_first k memory z leaf fathers (judged_at z.op k memory free z leaf fathers))

  act : Stand → ℕ → List ℕ → Verdict
  act z leaf fathers = cond (is_leaf (memory leaf)) (leaf_act z leaf fathers) (onward memory z leaf)

  -- a deletion that stands rightly at its leaf has found its key
  deletion_finds : (op : Op) (z : Stand) (p : ℕ) (up : List ℕ)
      → rightly_beside k memory (with_op op z) (p ∷ up) || rightly_across k memory (with_op op z) z.path ≡ true → is_next op ≡ false
      → has (key_of op) (memory p).entries ≡ true
  deletion_finds op z p up right other =
      let deletion : Bool = is_delete op in
      let found : Bool = has (key_of op) (memory p).entries in
      let next : Bool = is_sibling (needs k memory (key_of op) p up z.beside) z.want in
      let levels : Bool = same_levels memory (p ∷ up) (z.beside ++ z.want ∷ []) in
      ⊎_elim
      (λ beside. and_second deletion found (and_first (deletion && found) next (and_first (deletion && found && next) levels beside)))
      (λ across. not_both across (sym (across_idle k memory (with_op op z) z.path other)))
      (or_cases (deletion && found && next && levels) (rightly_across k memory (with_op op z) z.path) right)

  -- a deletion that stands rightly at its leaf goes on with its siblings, a Next with its second way
  beside_acts : (op : Op) (z : Stand) (up : List ℕ) → at_its_leaf memory up ≡ true
      → rightly_beside k memory (with_op op z) up || rightly_across k memory (with_op op z) z.path ≡ true
      → cond (is_next op)
      (goes_left memory (with_op op z))
      (from_leaf
      (λ (leaf : ℕ) (fathers : List ℕ). converted_first k memory (want_beside (with_op op z)) leaf fathers (deletes k memory (key_of op) (want_beside (with_op op z)) leaf fathers))
      up)
      ≡ from_leaf (act (want_beside (with_op op z))) up
  unfolding act leaf_act judged_at at_leaf goes_left
  beside_acts op z [] leaf right = absurd (false≢true leaf)
  beside_acts (Search x) z (p ∷ up) leaf right = not_both right (sym (across_idle k memory (with_op (Search x) z) z.path refl))
  beside_acts (Insert x v First) z (p ∷ up) leaf right = not_both right (sym (across_idle k memory (with_op (Insert x v First) z) z.path refl))
  beside_acts (Insert x v Second) z (p ∷ up) leaf right = not_both right (sym (across_idle k memory (with_op (Insert x v Second) z) z.path refl))
  beside_acts (Insert x v Third) z (p ∷ up) leaf right = not_both right (sym (across_idle k memory (with_op (Insert x v Third) z) z.path refl))
  beside_acts (Delete x Second) z (p ∷ up) leaf right = not_both right (sym (across_idle k memory (with_op (Delete x Second) z) z.path refl))
  beside_acts (Delete x First) z (p ∷ up) leaf right =
      let more : Stand = want_beside (with_op (Delete x First) z) in
      sym
      (cond-true (judged_at (Delete x First) k memory free more p up) (onward memory more p) leaf
      ∙ cond-true (deletes k memory x more p up) (ends NoSuchKey []) (deletion_finds (Delete x First) z p up right refl))
  beside_acts (Delete x Third) z (p ∷ up) leaf right =
      let more : Stand = want_beside (with_op (Delete x Third) z) in
      sym
      (cond-true (converted_first k memory more p up (judged_at (Delete x Third) k memory free more p up)) (onward memory more p) leaf
      ∙ ap (converted_first k memory more p up) (cond-true (deletes k memory x more p up) (ends NoSuchKey []) (deletion_finds (Delete x Third) z p up right refl)))
  beside_acts (Next x) z (p ∷ up) leaf right =
      let more : Stand = want_beside (with_op (Next x) z) in
      sym
      (cond-true (judged_at (Next x) k memory free more p up) (onward memory more p) leaf
      ∙ ap (on_second (at_leaf (Next x) k memory free more p up) memory more) (reverse-append z.beside (z.want ∷ [])))
  beside_acts (Regrade x v First) z (p ∷ up) leaf right = not_both right (sym (across_idle k memory (with_op (Regrade x v First) z) z.path refl))
  beside_acts (Regrade x v Second) z (p ∷ up) leaf right = not_both right (sym (across_idle k memory (with_op (Regrade x v Second) z) z.path refl))
  beside_acts (Regrade x v Third) z (p ∷ up) leaf right = not_both right (sym (across_idle k memory (with_op (Regrade x v Third) z) z.path refl))

  -- without siblings the rule at a leaf is the one for an operation that comes down
  alone_acts : (op : Op) (z : Stand) (path : List ℕ) (locks : List Under) (leaf : ℕ) (fathers : List ℕ)
      → at_leaf op k memory free (on_pages z path locks [] []) leaf fathers ≡ judged_at op k memory free (on_pages z path locks [] []) leaf fathers
  unfolding judged_at
  alone_acts (Search x) z path locks leaf fathers = refl
  alone_acts (Insert x v way) z path locks leaf fathers = refl
  alone_acts (Delete x way) z path locks leaf fathers = refl
  alone_acts (Next x) z path locks leaf fathers = refl
  alone_acts (Regrade x v way) z path locks leaf fathers = refl

  -- an operation that comes down to page p stands at a path that ends there
  down_acts : (z : Stand) (path : List ℕ) (locks : List Under) (p : ℕ) (fathers : List ℕ) → reverse path ≡ p ∷ fathers
      → cond (is_leaf (memory p))
      (from_leaf (by_way_at_leaf k memory free (on_pages z path locks [] [])) (reverse path))
      (onward memory (on_pages z path locks [] []) p)
      ≡ from_leaf (act (on_pages z path locks [] [])) (reverse path)
  unfolding act leaf_act
  down_acts z path locks p fathers e =
      let down : Stand = on_pages z path locks [] [] in
      subst
      (λ (ups : List ℕ). cond (is_leaf (memory p)) (from_leaf (by_way_at_leaf k memory free down) ups) (onward memory down p) ≡ from_leaf (act down) ups)
      (sym e)
      (ap
      (λ (v : Verdict). cond (is_leaf (memory p)) (cond (begins_again z.op k memory p) (again z.op) (converted_first k memory down p fathers v)) (onward memory down p))
      (alone_acts z.op z path locks p fathers))

  -- by the third way the rule at a leaf is the same, whatever is held beside the path
  third_acts : (op : Op) (z : Stand) (leaf : ℕ) (fathers : List ℕ) → is_third op ≡ true → at_leaf op k memory free z leaf fathers ≡ judged_at op k memory free z leaf fathers
  unfolding judged_at
  third_acts (Search x) z leaf fathers third = refl
  third_acts (Insert x v way) z leaf fathers third = refl
  third_acts (Delete x way) z leaf fathers third = refl
  third_acts (Next x) z leaf fathers third = not_both third refl
  third_acts (Regrade x v way) z leaf fathers third = refl

  -- an update that rightly converts a page stands at its leaf, and does there what it does by the third way
  turn_acts : (z : Stand) (up : List ℕ) → rightly_converting k memory z up ≡ true
      → from_leaf
      (λ (leaf : ℕ) (fathers : List ℕ). converted_first k memory (want_converted z) leaf fathers (at_leaf z.op k memory free (want_converted z) leaf fathers))
      up
      ≡ from_leaf (act (want_converted z)) up
  unfolding act leaf_act
  turn_acts z [] right = absurd (false≢true right)
  turn_acts z (leaf ∷ fathers) right =
      let told = converts_facts k memory z leaf fathers right in
      let now : Stand = want_converted z in
      let stays : begins_again z.op k memory leaf ≡ false = and_first_fails (not (stays_second z.op k memory leaf)) (third_not_second z.op told.third) in
      ap (converted_first k memory now leaf fathers) (third_acts z.op now leaf fathers told.third)
      ∙ sym
      (cond-true (leaf_act now leaf fathers) (onward memory now leaf) told.low
      ∙ cond-false (again z.op) (converted_first k memory now leaf fathers (judged_at z.op k memory free now leaf fathers)) stays)

-- What a step comes to that is granted to an operation with the right pages is what the operation does from where it then stands.
pub granted_judged : (k : ℕ) (memory : ℕ → Page) (free : List ℕ) (z : Stand) → fitting k memory z ≡ true
    → granted k memory free z ≡ judged k memory free (stood k memory z)
unfolding granted judged fitting fitting_new converts besides comes_down act leaf_act
granted_judged k memory free z h =
    let kept : Bool = rightly_kept z.op k memory z.path z.want in
    let turns : Bool = rightly_converting k memory z (reverse z.path) in
    let due : Bool = same_lock z.lock (lock_due z.op memory (reverse z.path)) && holds_due z in
    let way : Bool = descends memory (key_of z.op) z.path in
    let rightly : Bool = rightly_beside k memory z (reverse z.path) || rightly_across k memory z z.path in
    let below : Bool = descends memory (key_of z.op) (z.path ++ z.want ∷ []) && is_none z.beside in
    let goes_down : Bool = cond (at_its_leaf memory (reverse z.path)) (way && rightly) below in
    let fit : cond (converting z) turns (due && goes_down) ≡ true = and_second kept (cond (converting z) turns (due && goes_down)) h in
    let further : Verdict = cond (at_its_leaf memory (reverse z.path)) (besides k memory z) (comes_down k memory free z) in
    stood_ind (λ (now : Stand). granted k memory free z ≡ judged k memory free now) k memory z
    (λ there.
    cond-true (converts k memory free z) further there
    ∙ turn_acts k memory free z (reverse z.path) (sym (cond-true turns (due && goes_down) there) ∙ fit))
    (λ new leaf.
    cond-false (converts k memory free z) further new
    ∙ cond-true (besides k memory z) (comes_down k memory free z) leaf
    ∙ beside_acts k memory free z.op z (reverse z.path) leaf
    (and_second way rightly (sym (cond-true (way && rightly) below leaf) ∙ and_second due goes_down (sym (cond-false turns (due && goes_down) new) ∙ fit))))
    (λ new above.
    cond-false (converts k memory free z) further new
    ∙ cond-false (besides k memory z) (comes_down k memory free z) above
    ∙ cond_both
    (λ (path : List ℕ) (locks : List Under).
    cond (is_leaf (memory z.want))
    (from_leaf (by_way_at_leaf k memory free (on_pages z path locks [] [])) (reverse path))
    (onward memory (on_pages z path locks [] []) z.want)
    ≡ judged k memory free (on_pages z path locks [] []))
    (is_safe z.op k (memory z.want))
    (λ safe. down_acts k memory free z (z.want ∷ []) (under z.lock ∷ []) z.want [] refl)
    (λ full. down_acts k memory free z (z.path ++ z.want ∷ []) (z.locks ++ under z.lock ∷ []) z.want (reverse z.path) (reverse-append z.path (z.want ∷ []))))

-- ---- what is known where an operation stands

module _ {op : Op} {k n : ℕ} {ws : List ℕ} {stand : Slot} (h : SlotStanding op k n ws stand) where
  -- the lists are as long as the slot says
  pub path_long : length (path_of stand) ≡ stand.depth
  path_long = sym (ap (λ (s : Slot). s.depth) h.exact)

  pub siblings_long : length (beside_of stand) ≡ stand.breadth
  siblings_long = sym (ap (λ (s : Slot). s.breadth) h.exact)

  -- its pages are in the cells of its arrays
  pub standing_within : (stand.depth ≤ path_holds) × (stand.breadth ≤ path_holds)
  standing_within =
      let s = h.standing in
      (omega (arith, path_long, s.deep), omega (arith, siblings_long, s.deep, s.few))

  pub standing_cells : (stand.depth ≤ length stand.path) × (stand.breadth ≤ length stand.beside)
  standing_cells =
      let s = h.standing in
      let path = ap length (ap (λ (t : Slot). t.path) h.exact) ∙ length_padded path_holds (path_of stand) s.deep in
      let beside = ap length (ap (λ (t : Slot). t.beside) h.exact) ∙ length_padded path_holds (beside_of stand) (omega (arith, s.deep, s.few)) in
      (omega (arith, path, standing_within.0), omega (arith, beside, standing_within.1))

  -- its pages are as a deletion asks
  pub standing_needing : Needing k n ws (path_of stand) (beside_of stand)
  standing_needing =
      let s = h.standing in
      record { some = s.some; deep = s.deep; few = omega (arith, s.deep, s.few); held = s.held; descends = s.descends }

  -- and as an insertion and a regrading ask
  pub standing_holding : Holding k n ws (path_of stand)
  standing_holding =
      let s = h.standing in
      record { some = s.some; deep = s.deep; held = held_front (path_of stand) (beside_of stand) s.held }

  -- the path upward: the leaf, or the page that the operation has come down to, and those above it
  pub stand_upward : reverse (path_of stand) ≡ leaf_of stand.depth stand.path ∷ fathers_of stand.depth stand.path
  unfolding path_of
  stand_upward =
      sym (upward_reverse stand.depth stand.path standing_cells.0)
      ∙ upward_father stand.depth stand.path (omega (arith, path_long, h.standing.some))

  -- what is known of a page of the path, and of that one
  pub stand_page : (i : ℕ) → i < stand.depth → Known k n ws (get_or stand.path i 0)
  unfolding path_of
  stand_page i l = cell_known stand.path stand.depth standing_cells.0 standing_holding.held i l

  pub stand_known : Known k n ws (leaf_of stand.depth stand.path)
  stand_known = stand_page (stand.depth - 1) (omega (arith, path_long, h.standing.some))

-- ---- the courses, as the rule's words

-- the last page of the path, and those above it, upward
abbrev pub lowest : Slot → ℕ
lowest stand = leaf_of stand.depth stand.path

abbrev pub above : Slot → List ℕ
above stand = fathers_of stand.depth stand.path

-- The course is what the rule says of an operation that stands so, and a change may count on what it asks.
abbrev pub Judges : Op → ℕ → (ℕ → Page) → List ℕ → Slot → Course → Type 0
Judges op k memory free stand course =
    (course_of k memory free (stand_of op stand) course ≡ if_new (judged k memory free (stand_of op stand)))
    × ready op k memory (path_of stand) course

-- an answer, or the whole change, is no page to want next
ends_new : (b : Bool) (a a' : Answer) (ws ws' : List Write) → cond b (ends a ws) (ends a' ws') ≡ if_new (cond b (ends a ws) (ends a' ws'))
ends_new true a a' ws ws' = refl
ends_new false a a' ws ws' = refl

-- who begins again holds nothing, and so wants no page that it holds
again_new : (op : Op) → again op ≡ if_new (again op)
unfolding member
again_new op = refl

-- by whichever way a deletion is no Next
delete_no_next : (x : ℕ) (way : Way) → is_next (Delete x way) ≡ false
delete_no_next x First = refl
delete_no_next x Second = refl
delete_no_next x Third = refl

-- a page below another is wanted with no conversion
below_new : (op : Op) (P : Page) → is_third op && same_lock (lock_below op P) Xi ≡ false
below_new op P =
    by_test (is_third op)
    (λ third. ap (λ (l : Lock). is_third op && same_lock l Xi) (below_first op P (third_not_second op third)) ∙ third_not_xi op)
    (λ other. and_first_fails (same_lock (lock_below op P) Xi) other)

module _ (k : ℕ) (memory : ℕ → Page) (free : List ℕ) (stand : Slot) where
  -- the rule's word for a course
  abbrev said : Op → Course → Verdict
  said op = course_of k memory free (stand_of op stand)

  -- the rule's word for an operation that stands at this leaf
  abbrev told_at : Op → Verdict
  told_at op = judged_at op k memory free (stand_of op stand) (lowest stand) (above stand)

  -- on to a page that is none of those held, and no conversion
  pub next_judges : (op : Op) (next : ℕ) (lock : Lock) → is_third op && same_lock lock Xi ≡ false
      → (said op (next_course stand next lock) ≡ if_new (goes (wants_next (stand_of op stand) next lock))) × ready op k memory (path_of stand) (next_course stand next lock)
  next_judges op next lock new = split (member next (held stand)) (is_third op && same_lock lock Xi) new
    where
      split : (b turn : Bool) → turn ≡ false
          → (said op (cond b Broken (Goes next lock)) ≡ cond (not b || turn) (goes (wants_next (stand_of op stand) next lock)) broken)
          × ready op k memory (path_of stand) (cond b Broken (Goes next lock))
      split true true f = not_both refl f
      split true false f = (refl, tt)
      split false turn f = (refl, tt)

  -- what is due to who converts first, by whose turn it is: the change, or the next conversion
  module _ (op : Op) (change : Verdict) where
    abbrev turning : Bool
    turning = is_third op && change_known k memory (stand_of op stand) (lowest stand) (above stand)

    turn_done : turn_course op k memory stand ≡ None → converted_first k memory (stand_of op stand) (lowest stand) (above stand) change ≡ change
    turn_done e = split turning (to_convert (stand_of op stand)) e
      where
        split : (b : Bool) (pages : List ℕ) → cond b (turn_of pages) None ≡ None → cond b (by_turn (stand_of op stand) change pages) change ≡ change
        split true [] e = refl
        split true (p ∷ pages) e = cc
        split false pages e = refl

    turn_next : {p : ℕ} → turn_course op k memory stand ≡ Some p
        → (is_third op ≡ true) × (converted_first k memory (stand_of op stand) (lowest stand) (above stand) change ≡ goes (wants_next (stand_of op stand) p Xi))
    turn_next {p} e =
        let told = split turning (to_convert (stand_of op stand)) e in
        (and_first (is_third op) (change_known k memory (stand_of op stand) (lowest stand) (above stand)) told.0, told.1)
      where
        split : (b : Bool) (pages : List ℕ) → cond b (turn_of pages) None ≡ Some p
            → (b ≡ true) × (cond b (by_turn (stand_of op stand) change pages) change ≡ goes (wants_next (stand_of op stand) p Xi))
        split true [] e = absurd (cc)
        split true (q ∷ pages) e = (refl, cc)
        split false pages e = absurd (cc)

  module _ (up : reverse (path_of stand) ≡ lowest stand ∷ above stand) where
    -- what the rule says above the leaves, and at a leaf
    judged_above : (op : Op) → is_leaf (memory (lowest stand)) ≡ false → judged k memory free (stand_of op stand) ≡ onward memory (stand_of op stand) (lowest stand)
    unfolding judged act leaf_act
    judged_above op high =
        ap (from_leaf (act k memory free (stand_of op stand))) up
        ∙ cond-false (leaf_act k memory free (stand_of op stand) (lowest stand) (above stand)) (onward memory (stand_of op stand) (lowest stand)) high

    judged_leaf : (op : Op) → is_leaf (memory (lowest stand)) ≡ true
        → judged k memory free (stand_of op stand)
        ≡ cond (begins_again op k memory (lowest stand)) (again op) (converted_first k memory (stand_of op stand) (lowest stand) (above stand) (told_at op))
    unfolding judged act leaf_act
    judged_leaf op low =
        ap (from_leaf (act k memory free (stand_of op stand))) up
        ∙ cond-true (leaf_act k memory free (stand_of op stand) (lowest stand) (above stand)) (onward memory (stand_of op stand) (lowest stand)) low

    -- above the leaves the operation goes on to where its key leads
    pub goes_judges : (op : Op) (key next : ℕ) (lock : Lock) (course : Course) → is_leaf (memory (lowest stand)) ≡ false → key ≡ key_of op
        → next ≡ route key (memory (lowest stand)) → lock ≡ lock_below op (memory (lowest stand)) → course ≡ next_course stand next lock
        → Judges op k memory free stand course
    goes_judges op key next lock course high asked read due r =
        let wants = next_judges op next lock (ap (λ (l : Lock). is_third op && same_lock l Xi) due ∙ below_new op (memory (lowest stand))) in
        let leads : next ≡ route (key_of op) (memory (lowest stand)) = read ∙ ap (λ (y : ℕ). route y (memory (lowest stand))) asked in
        subst (Judges op k memory free stand) (sym r)
        (wants.0 ∙ ap₂ (λ (p : ℕ) (l : Lock). if_new (goes (wants_next (stand_of op stand) p l))) leads due ∙ sym (ap if_new (judged_above op high)), wants.1)

    module _ (low : is_leaf (memory (lowest stand)) ≡ true) where
      -- at a leaf where it does not stay, an operation begins again
      pub again_judges : (op : Op) (course : Course) → begins_again op k memory (lowest stand) ≡ true → course ≡ Again → Judges op k memory free stand course
      again_judges op course leaves r =
          subst (Judges op k memory free stand) (sym r)
          (again_new op ∙ sym (ap if_new (judged_leaf op low ∙ cond-true (again op) (converted_first k memory (stand_of op stand) (lowest stand) (above stand) (told_at op)) leaves)), tt)

      -- where it stays, the rule goes by whose turn it is
      judged_stays : (op : Op) → begins_again op k memory (lowest stand) ≡ false
          → judged k memory free (stand_of op stand) ≡ converted_first k memory (stand_of op stand) (lowest stand) (above stand) (told_at op)
      judged_stays op stays = judged_leaf op low ∙ cond-false (again op) (converted_first k memory (stand_of op stand) (lowest stand) (above stand) (told_at op)) stays

      -- it is a page's
      pub turn_judges : (op : Op) {p : ℕ} {turn : Option ℕ} → begins_again op k memory (lowest stand) ≡ false → turn ≡ turn_course op k memory stand → turn ≡ Some p
          → Judges op k memory free stand (Goes p Xi)
      turn_judges op {p} stays read page =
          let told = turn_next op (told_at op) (sym read ∙ page) in
          let next : Stand = wants_next (stand_of op stand) p Xi in
          let new : next_is_new (goes next) ≡ true = or_second (not (member p (held stand))) (and_both told.0 refl) in
          (sym (ap if_new (judged_stays op stays ∙ told.1) ∙ cond-true (goes next) broken new), tt)

      -- it is none's: the operation does this
      pub leaf_judges : (op o : Op) (course done : Course) → begins_again op k memory (lowest stand) ≡ false → turn_course op k memory stand ≡ None → op ≡ o → course ≡ done
          → (said o done ≡ if_new (told_at o)) × ready o k memory (path_of stand) done
          → Judges op k memory free stand course
      leaf_judges op o course done stays none told r h =
          let here : begins_again o k memory (lowest stand) ≡ false = subst (λ (q : Op). begins_again q k memory (lowest stand) ≡ false) told stays in
          let now : turn_course o k memory stand ≡ None = subst (λ (q : Op). turn_course q k memory stand ≡ None) told none in
          subst (λ (q : Op). Judges q k memory free stand course) (sym told)
          (subst (Judges o k memory free stand) (sym r) (h.0 ∙ sym (ap if_new (judged_stays o here ∙ turn_done o (told_at o) now)), h.1))

      -- a regrading makes its change there, or finds its key missing
      pub regrade_judges : (op : Op) (x v : ℕ) (way : Way) (course : Course) → begins_again op k memory (lowest stand) ≡ false → turn_course op k memory stand ≡ None
          → op ≡ Regrade x v way → course ≡ Regrades x v
          → Judges op k memory free stand course
      unfolding judged_at at_leaf
      regrade_judges op x v way course stays none told r =
          let es : List Entry = (memory (lowest stand)).entries in
          leaf_judges op (Regrade x v way) course (Regrades x v) stays none told r (
            ap (from_leaf (at_leaf (Regrade x v First) k memory free (stand_of (Regrade x v way) stand))) up
                ∙ ends_new (has x es) (Regraded (information x es)) NoSuchKey (regrading memory x v (lowest stand)) [],
            tt,
          )

      -- ---- at a leaf, by what stands there under the key

      module _ (op : Op) (lot : Option ℕ) (course : Course) (stays : begins_again op k memory (lowest stand) ≡ false) (none : turn_course op k memory stand ≡ None) where
        judges_at : (o : Op) (known : Option ℕ → Course) → lot ≡ looked (key_of o) (memory (lowest stand)).entries → op ≡ o → course ≡ known lot
            → (said o (known (looked (key_of o) (memory (lowest stand)).entries)) ≡ if_new (told_at o))
            × ready o k memory (path_of stand) (known (looked (key_of o) (memory (lowest stand)).entries))
            → Judges op k memory free stand course
        judges_at o known read told r h =
            leaf_judges op o course (known (looked (key_of o) (memory (lowest stand)).entries)) stays none told (r ∙ ap known read) h

        pub search_judges : (x : ℕ) → lot ≡ looked x (memory (lowest stand)).entries → op ≡ Search x → course ≡ search_course lot → Judges op k memory free stand course
        unfolding judged_at at_leaf
        search_judges x read told r =
            judges_at (Search x) search_course read told r
            (split (has x (memory (lowest stand)).entries) (information x (memory (lowest stand)).entries))
          where
            split : (b : Bool) (v : ℕ) → (said (Search x) (search_course (cond b (Some v) None)) ≡ ends (cond b (Found v) NotFound) [])
                × ready (Search x) k memory (path_of stand) (search_course (cond b (Some v) None))
            split true v = (refl, tt)
            split false v = (refl, tt)

        -- an insertion of a key that is missing may count on the top page of its path
        pub insert_judges : (x v : ℕ) (way : Way) → lot ≡ looked x (memory (lowest stand)).entries → op ≡ Insert x v way → course ≡ insert_course lot x v
            → (has x (memory (lowest stand)).entries ≡ false → Topped (Insert x v First) k memory (path_of stand))
            → Judges op k memory free stand course
        unfolding judged_at at_leaf
        insert_judges x v way read told r top =
            judges_at (Insert x v way) (λ (l : Option ℕ). insert_course l x v) read told r
            (split (has x (memory (lowest stand)).entries) (information x (memory (lowest stand)).entries) top)
          where
            -- once the key is known to be new
            change : ℕ → List ℕ → Verdict
            change leaf fathers = cond (ltb (length free) (room k memory leaf (path_of stand))) (ends NoRoom []) (ends Inserted (insertion k memory x v free leaf fathers))

            split : (b : Bool) (v' : ℕ) → (b ≡ false → Topped (Insert x v First) k memory (path_of stand))
                → (said (Insert x v way) (insert_course (cond b (Some v') None) x v) ≡ if_new (cond b (ends (AlreadyThere v') []) (change (lowest stand) (above stand))))
                × ready (Insert x v way) k memory (path_of stand) (insert_course (cond b (Some v') None) x v)
            split true v' top = (refl, tt)
            split false v' top = (
              ap (from_leaf change) up
                  ∙ ends_new (ltb (length free) (room k memory (lowest stand) (path_of stand))) NoRoom Inserted [] (insertion k memory x v free (lowest stand) (above stand)),
              top refl,
            )

        pub delete_judges : (x : ℕ) (way : Way) → lot ≡ looked x (memory (lowest stand)).entries → op ≡ Delete x way → course ≡ delete_course k memory x way lot stand
            → Judges op k memory free stand course
        unfolding judged_at at_leaf deletes
        delete_judges x way read told r =
            judges_at (Delete x way) (λ (l : Option ℕ). delete_course k memory x way l stand) read told r (split (has x (memory (lowest stand)).entries) refl)
          where
            found : ℕ
            found = information x (memory (lowest stand)).entries

            -- by what is needed, once the key is known to be there
            by_needs : (need : Need) → has x (memory (lowest stand)).entries ≡ true
                → (said (Delete x way) (need_course stand x way found need) ≡ if_new (by_need (stand_of (Delete x way) stand) (ends (Deleted found) (deletion k memory x (lowest stand) (above stand) (beside_of stand))) need))
                × ready (Delete x way) k memory (path_of stand) (need_course stand x way found need)
            by_needs nothing there = (
              ap (from_leaf (λ (leaf : ℕ) (fathers : List ℕ). ends (Deleted found) (deletion k memory x leaf fathers (beside_of stand)))) up,
              (delete_no_next x way, subst (stands_last memory x) (sym up) there),
            )
            by_needs (sibling s) there = next_judges (Delete x way) s (held_lock (Delete x way)) (third_not_xi (Delete x way))
            by_needs astray there = (refl, tt)

            split : (b : Bool) → has x (memory (lowest stand)).entries ≡ b
                → (said (Delete x way) (delete_course k memory x way (cond b (Some found) None) stand)
                ≡ if_new (cond b (deletes k memory x (stand_of (Delete x way) stand) (lowest stand) (above stand)) (ends NoSuchKey [])))
                × ready (Delete x way) k memory (path_of stand) (delete_course k memory x way (cond b (Some found) None) stand)
            split true there = by_needs (needs k memory x (lowest stand) (above stand) (beside_of stand)) there
            split false missing = (refl, tt)
