-- The course of a Next at its leaf, by what was read, as the rule's word for it.
use Prim.Native.Nat.{ℕ, ◌-◌}
use mathlib.Core.Bool.{Bool, true, false, cond}
use mathlib.Core.List.{List, [], ◌∷◌, reverse}
use mathlib.Core.Logic.{◌≢◌}
use mathlib.Core.Path.{◌≡◌, refl, sym, ap, ◌∙◌, subst}
use native.Mathlib.Omega.{arith}
use borrow.Author.Tests.{eqb-true, eqb-false}
use lib.Dec.{eqb}
use lib.ListN.{get_or, take, drop}
use Rattle.ground.proofs.Padded.{next_cell}
use Rattle.page.specs.Words.{Entry, Page, is_leaf}
use Rattle.page.specs.Place.{pointer, at_or_above}
use Rattle.page.specs.Short.{neighbour}
use Rattle.page.specs.Reading.{nearest}
use Rattle.change.specs.Held.{leaf_of, fathers_of}
use Rattle.change.proofs.HeldLaws.{Known, held_known, among_siblings, upward_reverse, upward_father}
use Rattle.slots.specs.declared.Op.{Op}
use Rattle.slots.specs.declared.Op.TheVariants.{Next}
use Rattle.slots.specs.declared.Lock.TheVariants.{Rho}
use Rattle.slots.specs.declared.Answer.TheVariants.{None as NoLot}
use Rattle.slots.specs.declared.Slot.{Slot}
use Rattle.slots.specs.Parts.{path_of, beside_of, Stand, wants_next, stand_of}
use Rattle.course.specs.declared.judging.Course.{Course}
use Rattle.course.specs.declared.judging.Course.TheVariants.{Ends}
use Rattle.std.specs.Prelude.{None}
use Rattle.footing.specs.Granted.{Verdict, goes, ends, is_safe, next_answer, crosses, by_nearest, at_leaf}
use Rattle.footing.specs.Standing.{SlotStanding}
use Rattle.course.specs.Judged.{on_second, judged_at, begins_again, turn_course, if_new, course_of, ready, next_course, near_course, cross_course, first_course, left_course, nexts_course}
use Rattle.course.proofs.JudgeLaws.{path_long, standing_cells, stand_upward, stand_page, lowest, above, Judges, next_judges, leaf_judges}

-- ---- what is known where it stands

module _ {op : Op} {k n : ℕ} {ws : List ℕ} {stand : Slot} (h : SlotStanding op k n ws stand) where
  -- its path begins with the top page
  stand_top : path_of stand ≡ get_or stand.path 0 0 ∷ drop 1 (path_of stand)
  unfolding path_of
  stand_top =
      next_cell stand.path stand.depth 0 (standing_cells h).0 (omega (arith, path_long h, h.standing.some))

  pub top_known : Known k n ws (get_or stand.path 0 0)
  top_known = stand_page h 0 (omega (arith, path_long h, h.standing.some))

  -- the page that it was granted last on its second way
  pub second_known : stand.breadth ≢ 0 → Known k n ws (leaf_of stand.breadth stand.beside)
  unfolding beside_of
  second_known some =
      held_known h.standing.held (leaf_of stand.breadth stand.beside)
      (among_siblings (path_of stand) stand.beside stand.breadth (stand.breadth - 1) (standing_cells h).1 (omega arith))

  -- its second way upward: the page that it was granted last, and those above it
  second_upward : stand.breadth ≢ 0 → reverse (beside_of stand) ≡ leaf_of stand.breadth stand.beside ∷ fathers_of stand.breadth stand.beside
  unfolding beside_of
  second_upward some =
      sym (upward_reverse stand.breadth stand.beside (standing_cells h).1)
      ∙ upward_father stand.breadth stand.beside (omega arith)

-- no second way yet
none_second : (stand : Slot) → stand.breadth ≡ 0 → beside_of stand ≡ []
unfolding beside_of
none_second stand e = ap (λ (j : ℕ). take j stand.beside) e

module _ (k : ℕ) (memory : ℕ → Page) (free : List ℕ) (x : ℕ) (stand : Slot) where
  abbrev z : Stand
  z = stand_of (Next x) stand

  -- the course is the rule's word, and nothing is to be counted on
  abbrev Says : Verdict → Course → Type 0
  Says verdict course =
      (course_of k memory free z course ≡ if_new verdict) × ready (Next x) k memory (path_of stand) course

  -- ---- at its first leaf

  module _ (below : List ℕ) (top : path_of stand ≡ get_or stand.path 0 0 ∷ below) where
    -- by the top page of its path
    cross_says : Says (crosses x k memory z (path_of stand)) (cross_course k memory x stand)
    cross_says =
        subst (λ (path : List ℕ). Says (crosses x k memory z path) (cross_course k memory x stand)) (sym top)
        (split (is_safe (Next x) k (memory (get_or stand.path 0 0))))
      where
        next : ℕ
        next = neighbour x (memory (get_or stand.path 0 0))

        split : (b : Bool) → Says (cond b (goes (wants_next z next Rho)) (ends NoLot [])) (cond b (next_course stand next Rho) (Ends NoLot))
        split true = next_judges k memory free stand (Next x) next Rho refl
        split false = (refl, tt)

    -- by the leaf's entries at or above the key
    first_says : Says (at_leaf (Next x) k memory free z (lowest stand) (above stand)) (first_course k memory x stand)
    unfolding at_leaf
    first_says = split (at_or_above x (memory (lowest stand)).entries)
      where
        split : (es : List Entry) → Says (by_nearest (crosses x k memory z (path_of stand)) es) (near_course (cross_course k memory x stand) (nearest es))
        split [] = cross_says
        split (e ∷ es) = (refl, tt)

  -- ---- on its second way, at page p

  left_says : (p : ℕ)
      → Says (cond (is_leaf (memory p)) (ends (next_answer (at_or_above x (memory p).entries)) []) (goes (wants_next z (pointer 0 (memory p)) Rho)))
      (left_course memory x stand p)
  left_says p = split (is_leaf (memory p))
    where
      first : (es : List Entry) → Says (ends (next_answer es) []) (near_course (Ends NoLot) (nearest es))
      first [] = (refl, tt)
      first (e ∷ es) = (refl, tt)

      split : (b : Bool)
          → Says (cond b (ends (next_answer (at_or_above x (memory p).entries)) []) (goes (wants_next z (pointer 0 (memory p)) Rho)))
          (cond b (near_course (Ends NoLot) (nearest (at_or_above x (memory p).entries))) (next_course stand (pointer 0 (memory p)) Rho))
      split true = first (at_or_above x (memory p).entries)
      split false = next_judges k memory free stand (Next x) (pointer 0 (memory p)) Rho refl

-- A Next at its leaf does what the rule says.
pub next_does : {k n : ℕ} {ws : List ℕ} {stand : Slot} (op : Op) (x : ℕ) (memory : ℕ → Page) (free : List ℕ) (course : Course)
    → SlotStanding op k n ws stand → is_leaf (memory (lowest stand)) ≡ true → begins_again op k memory (lowest stand) ≡ false → turn_course op k memory stand ≡ None → op ≡ Next x
    → course ≡ nexts_course k memory x stand
    → Judges op k memory free stand course
unfolding judged_at
next_does {k} {stand = stand} op x memory free course h low stays none told r =
    leaf_judges k memory free stand (stand_upward h) low op (Next x) course (nexts_course k memory x stand) stays none told r (split (eqb stand.breadth 0) refl)
  where
    whole : Verdict
    whole = at_leaf (Next x) k memory free (stand_of (Next x) stand) (lowest stand) (above stand)

    split : (b : Bool) → eqb stand.breadth 0 ≡ b
        → Says k memory free x stand (on_second whole memory (stand_of (Next x) stand) (reverse (beside_of stand)))
        (cond b (first_course k memory x stand) (left_course memory x stand (get_or stand.beside (stand.breadth - 1) 0)))
    split true e =
        let none = none_second stand (eqb-true stand.breadth 0 e) in
        subst (λ (up : List ℕ). Says k memory free x stand (on_second whole memory (stand_of (Next x) stand) up) (first_course k memory x stand))
        (sym (ap reverse none))
        (first_says k memory free x stand (drop 1 (path_of stand)) (stand_top h))
    split false e =
        subst
        (λ (up : List ℕ). Says k memory free x stand (on_second whole memory (stand_of (Next x) stand) up)
        (left_course memory x stand (get_or stand.beside (stand.breadth - 1) 0)))
        (sym (second_upward h (eqb-false stand.breadth 0 e)))
        (left_says k memory free x stand (get_or stand.beside (stand.breadth - 1) 0))
