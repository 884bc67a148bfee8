-- Laws of the tests behind a grant: a page looked for in some cells, and the walk over older wants.
use Prim.Native.Nat.{ℕ, suc, ◌+◌, ◌≤◌, ◌<◌}
use mathlib.Core.Bool.{Bool, true, false, not, ◌&&◌, ◌||◌}
use mathlib.Core.Path.{◌≡◌, refl, sym, ap, ◌∙◌}
use mathlib.Core.List.{List, [], ◌∷◌}
use native.Mathlib.Omega.{arith}
use native.Mathlib.Numerals.{add-one}
use lib.ListN.{length, get_or, take, drop, drop_of_length-le}
use lib.Seq.{drop-cons, take_all, get_or-take}
use borrow.Author.Tests.{eq-eqb, ne_eqb}
use Rattle.ground.specs.Limits.{slot_count}
use Rattle.ground.specs.Tests.{all, member}
use Rattle.ground.proofs.Bools.{and_first_fails, or_none, not_of_true, not_of_false}
use Rattle.ground.proofs.Choice.{cond-true, cond-false}
use Rattle.ground.proofs.Tests.{member_more, member_from, member_append}
use Rattle.slots.specs.declared.Slot.{Slot}
use Rattle.slots.specs.declared.State.{State}
use Rattle.slots.specs.Parts.{held, path_of, beside_of, waiting_order}
use Rattle.slots.specs.Grant.{older_than, clashing_want, no_older}
use Rattle.slots.proofs.OrderLaws.{length_waiting}

-- ---- a page looked for in the first cells

-- one cell more, and it is another page
pub among_more : (p : ℕ) (cells : List ℕ) (i : ℕ) → i < length cells → member p (take i cells) ≡ false → (get_or cells i 0 ≡ p → ⊥)
    → member p (take (i + 1) cells) ≡ false
among_more p cells i h none other =
    ap (λ (n : ℕ). member p (take n cells)) (add-one i)
    ∙ member_more p cells i 0 h
    ∙ or_none none (ne_eqb p (get_or cells i 0) (λ e. other (sym e)))

-- behind the last cell there is none
pub among_all : (p : ℕ) (cells : List ℕ) (count i : ℕ) → length cells ≤ i → length cells ≤ count → member p (take i cells) ≡ false
    → false ≡ member p (take count cells)
among_all p cells count i h l none =
    sym (ap (member p) (take_all count cells l ∙ sym (take_all i cells h)) ∙ none)

-- ---- the walk over older wants

module _ (p : ℕ → Bool) (s : ℕ) (order : List ℕ) (i : ℕ) where
  rest : Bool
  rest = all p (older_than s (drop i order))

  rest_end : length order ≤ i → rest ≡ true
  unfolding rest older_than all
  rest_end h = ap (λ (l : List ℕ). all p (older_than s l)) (drop_of_length-le order h)

  module _ (inside : i < length order) where
    opened : rest ≡ all p (older_than s (get_or order i 0 ∷ drop (suc i) order))
    unfolding rest
    opened = ap (λ (l : List ℕ). all p (older_than s l)) (drop-cons order i 0 inside)

    rest_here : get_or order i 0 ≡ s → rest ≡ true
    unfolding older_than all
    rest_here e = opened ∙ ap (all p) (cond-true [] (get_or order i 0 ∷ older_than s (drop (suc i) order)) (eq-eqb (get_or order i 0) s e))

    rest_other : (get_or order i 0 ≡ s → ⊥) → rest ≡ p (get_or order i 0) && all p (older_than s (drop (suc i) order))
    unfolding older_than all
    rest_other n = opened ∙ ap (all p) (cond-false [] (get_or order i 0 ∷ older_than s (drop (suc i) order)) (ne_eqb (get_or order i 0) s n))

-- from place i of the waiting order on, no want older than slot s's clashes with it
unfoldable pub no_older_from : State → ℕ → ℕ → Bool
no_older_from st s i = all (λ (t : ℕ). not (clashing_want st s t)) (older_than s (drop i (waiting_order st)))

pub older_none : (st : State) (s : ℕ) → no_older st s ≡ no_older_from st s 0
unfolding no_older no_older_from
older_none st s = refl

-- the slot at place i of the order, where one waits there
module _ (st : State) (i : ℕ) (long : length st.order ≡ slot_count) (fits : st.waiting ≤ slot_count) (inside : i < st.waiting) where
  named : get_or (waiting_order st) i 0 ≡ get_or st.order i 0
  unfolding waiting_order
  named = get_or-take st.waiting st.order i 0 inside

  within : i < length (waiting_order st)
  within = omega (arith, length_waiting st (omega arith))

  pub order_names : member (get_or st.order i 0) (waiting_order st) ≡ true
  order_names = member_from (get_or st.order i 0) (waiting_order st) i 0 within named

module _ (st : State) (s i : ℕ) (long : length st.order ≡ slot_count) (fits : st.waiting ≤ slot_count) where
  -- behind the last that waits there is none
  pub older_end : st.waiting ≤ i → no_older_from st s i ≡ true
  unfolding no_older_from rest
  older_end h = rest_end (λ (t : ℕ). not (clashing_want st s t)) s (waiting_order st) i (omega (arith, length_waiting st (omega arith)))

  module _ (inside : i < st.waiting) where
    at_i : get_or (waiting_order st) i 0 ≡ get_or st.order i 0
    at_i = named st i long fits inside

    place : i < length (waiting_order st)
    place = within st i long fits inside

    -- slot s itself: no want from there on is older
    pub older_here : get_or st.order i 0 ≡ s → no_older_from st s i ≡ true
    unfolding no_older_from rest
    older_here e = rest_here (λ (t : ℕ). not (clashing_want st s t)) s (waiting_order st) i place (at_i ∙ e)

    module _ (other : get_or st.order i 0 ≡ s → ⊥) where
      at_other : no_older_from st s i ≡ not (clashing_want st s (get_or st.order i 0)) && no_older_from st s (i + 1)
      unfolding no_older_from rest
      at_other =
          let q : ℕ → Bool = λ (t : ℕ). not (clashing_want st s t) in
          rest_other q s (waiting_order st) i place (λ e. other (sym at_i ∙ e))
          ∙ ap (λ (t : ℕ). q t && all q (older_than s (drop (suc i) (waiting_order st)))) at_i
          ∙ ap (λ (n : ℕ). q (get_or st.order i 0) && all q (older_than s (drop n (waiting_order st)))) (sym (add-one i))

      -- an older want that clashes
      pub older_stops : clashing_want st s (get_or st.order i 0) ≡ true → no_older_from st s i ≡ false
      older_stops e = at_other ∙ and_first_fails (no_older_from st s (i + 1)) (not_of_true e)

      -- an older want that does not
      pub older_more : clashing_want st s (get_or st.order i 0) ≡ false → no_older_from st s i ≡ no_older_from st s (i + 1)
      older_more e = at_other ∙ ap (λ (b : Bool). b && no_older_from st s (i + 1)) (not_of_false e)

-- the pages of a slot are those of its path and its siblings
pub holds_split : (slot : Slot) (p : ℕ) → member p (held slot) ≡ member p (take slot.depth slot.path) || member p (take slot.breadth slot.beside)
unfolding path_of beside_of
holds_split slot p = member_append p (take slot.depth slot.path) (take slot.breadth slot.beside)
