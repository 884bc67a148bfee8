-- Laws for the test of the waiting order: the open slots that the order has not named yet are kept as marks. A slot that
-- has no mark when it is named is closed or was named before. As many slots are open as wait, so in the end no mark is left.
use Prim.Native.Nat.{ℕ, ◌+◌, ◌≤◌, ◌<◌}
use mathlib.Core.Bool.{Bool, true, false, not, ◌&&◌, ◌||◌, and-true, or-false}
use mathlib.Core.List.{List, [], ◌∷◌}
use mathlib.Core.Logic.{⊎_elim}
use mathlib.Core.Path.{◌≡◌, refl, sym, ap, ◌∙◌, subst}
use native.Mathlib.Nat.{le_antisymm}
use native.Mathlib.Decide.{ℕ_discrete}
use native.Mathlib.Omega.{arith}
use native.Mathlib.Numerals.{add-one}
use borrow.Author.Tests.{eq-eqb, ne_eqb, ltb-true, lt-ltb, le-ltb, le-leb, lt-leb, not-true, not-false}
use lib.Dec.{eqb, ltb, leb}
use lib.ListN.{length, get_or, take, set}
use lib.Seq.{length-take-le, get_or-set_same, get_or-set_other}
use Rattle.ground.specs.Limits.{slot_count}
use Rattle.ground.specs.Tests.{all, all_below, member, distinct, count_below}
use Rattle.ground.proofs.Bools.{and_both, and_first, and_second, and_first_fails, and_second_fails, and_fails, or_second, not_of_true, not_of_false, false_if_not_true}
use Rattle.ground.proofs.Tests.{all_none, member_none, member_here, member_more, distinct_none, all_below_at, all_below_from, count_below_same, count_below_less, count_below_fails, count_below_some}
use Rattle.slots.specs.Sound.{names_each}
use Rattle.soundness.proofs.CheckingLaws.{all_on, all_stop, differ_on, differ_stop}

-- the first i cells of the order name open slots, none twice, and the marks are those of the other open slots
pub record Naming (busy unnamed : List Bool) (order : List ℕ) (i : ℕ) : Type 0 where
  pub named : all (λ (s : ℕ). ltb s slot_count && get_or busy s false) (take i order) ≡ true
  pub once : distinct (take i order) ≡ true
  pub rest : (s : ℕ) → get_or unnamed s false ≡ get_or busy s false && not (member s (take i order))

-- nothing is named yet
pub naming_start : (busy : List Bool) (order : List ℕ) → Naming busy busy order 0
naming_start busy order = record {
  named = all_none (λ (s : ℕ). ltb s slot_count && get_or busy s false);
  once = distinct_none;
  rest = λ s. sym (ap (λ (b : Bool). get_or busy s false && not b) (member_none s) ∙ and-true (get_or busy s false));
}

-- more slots wait than there are
pub naming_long : (busy : List Bool) (order : List ℕ) (waiting : ℕ) → slot_count < waiting
    → names_each (λ (s : ℕ). get_or busy s false) waiting order ≡ false
unfolding names_each
naming_long busy order waiting h =
    and_first_fails (all_below slot_count (λ (s : ℕ). not (get_or busy s false) || member s (take waiting order)))
    (and_first_fails (distinct (take waiting order))
    (and_first_fails (all (λ (s : ℕ). ltb s slot_count && get_or busy s false) (take waiting order)) (lt-leb waiting slot_count h)))

-- one cell more of the order
member_on : (order : List ℕ) (i s : ℕ) → i < length order → member s (take (i + 1) order) ≡ member s (take i order) || eqb s (get_or order i 0)
member_on order i s h = ap (λ (n : ℕ). member s (take n order)) (add-one i) ∙ member_more s order i 0 h

module _ (busy unnamed : List Bool) (order : List ℕ) (i : ℕ) (so_far : Naming busy unnamed order i) where
  -- one slot more is named, and its mark goes
  pub naming_on : i < length order → get_or order i 0 < slot_count → get_or order i 0 < length unnamed → get_or unnamed (get_or order i 0) false ≡ true
      → Naming busy (set unnamed (get_or order i 0) false) order (i + 1)
  naming_on h low within marked = record {
    named = all_on order i (λ (s : ℕ). ltb s slot_count && get_or busy s false) h so_far.named
        (and_both (lt-ltb a slot_count low) (and_first (get_or busy a false) (not (member a (take i order))) was));
    once = differ_on order i h so_far.once (not-true (member a (take i order)) (and_second (get_or busy a false) (not (member a (take i order))) was));
    rest = λ s. elim (ℕ_discrete s a) [ yes e ↦ this s e | no n ↦ other s n ];
  }
    where
      a : ℕ
      a = get_or order i 0

      was : get_or busy a false && not (member a (take i order)) ≡ true
      was = sym (so_far.rest a) ∙ marked

      this : (s : ℕ) → s ≡ a → get_or (set unnamed a false) s false ≡ get_or busy s false && not (member s (take (i + 1) order))
      this s e =
          ap (λ (j : ℕ). get_or (set unnamed a false) j false) e
          ∙ get_or-set_same unnamed a false false within
          ∙ sym (and_second_fails (get_or busy s false) (not_of_true (member_on order i s h ∙ or_second (member s (take i order)) (eq-eqb s a e))))

      other : (s : ℕ) → (s ≡ a → ⊥) → get_or (set unnamed a false) s false ≡ get_or busy s false && not (member s (take (i + 1) order))
      other s n =
          get_or-set_other unnamed a s false false n
          ∙ so_far.rest s
          ∙ ap (λ (b : Bool). get_or busy s false && not b)
          (sym (member_on order i s h ∙ ap (λ (b : Bool). member s (take i order) || b) (ne_eqb s a n) ∙ or-false (member s (take i order))))

  module _ (waiting : ℕ) (h : i < waiting) (room : waiting ≤ length order) where
    -- what is named is not an open slot
    naming_fails : ltb (get_or order i 0) slot_count && get_or busy (get_or order i 0) false ≡ false → names_each (λ (s : ℕ). get_or busy s false) waiting order ≡ false
    unfolding names_each
    naming_fails f =
        and_first_fails (all_below slot_count (λ (s : ℕ). not (get_or busy s false) || member s (take waiting order)))
        (and_first_fails (distinct (take waiting order))
        (and_second_fails (leb waiting slot_count) (all_stop order i (λ (s : ℕ). ltb s slot_count && get_or busy s false) waiting h room f)))

    -- a number is named that is no slot's
    pub naming_high : slot_count ≤ get_or order i 0 → names_each (λ (s : ℕ). get_or busy s false) waiting order ≡ false
    naming_high high = naming_fails (and_first_fails (get_or busy (get_or order i 0) false) (le-ltb (get_or order i 0) slot_count high))

    -- a slot is named that has no mark: it is closed, or was named before
    pub naming_unmarked : get_or unnamed (get_or order i 0) false ≡ false → names_each (λ (s : ℕ). get_or busy s false) waiting order ≡ false
    unfolding names_each
    naming_unmarked f =
        ⊎_elim
        (λ closed. naming_fails (and_second_fails (ltb a slot_count) closed))
        (λ new. and_first_fails (all_below slot_count (λ (s : ℕ). not (get_or busy s false) || member s (take waiting order)))
        (and_second_fails (leb waiting slot_count && all (λ (s : ℕ). ltb s slot_count && get_or busy s false) (take waiting order))
        (differ_stop order i waiting h room (not-false (member a (take i order)) new))))
        (and_fails (get_or busy a false) (not (member a (take i order))) (sym (so_far.rest a) ∙ f))
      where
        a : ℕ
        a = get_or order i 0

-- ---- as many slots are open as wait

-- some numbers that pass are named, none twice: those that are not named, and the named, are as many as pass
counted_apart : (p : ℕ → Bool) (n : ℕ) (xs : List ℕ) → all (λ (s : ℕ). ltb s n && p s) xs ≡ true → distinct xs ≡ true
    → count_below n (λ (s : ℕ). p s && not (member s xs)) + length xs ≡ count_below n p
unfolding all distinct member
counted_apart p n [] t d = let same = count_below_same (λ (s : ℕ). p s && true) p n (λ s h. and-true (p s)) in omega arith
counted_apart p n (x ∷ xs) t d =
    let this = and_first (ltb x n && p x) (all (λ (s : ℕ). ltb s n && p s) xs) t in
    let new = and_first (not (member x xs)) (distinct xs) d in
    let rest = counted_apart p n xs (and_second (ltb x n && p x) (all (λ (s : ℕ). ltb s n && p s) xs) t) (and_second (not (member x xs)) (distinct xs) d) in
    let less = count_below_less (λ (s : ℕ). p s && not (member s xs)) (λ (s : ℕ). p s && not (member s (x ∷ xs))) x
    (and_both (and_second (ltb x n) (p x) this) new)
    (and_second_fails (p x) (not_of_true (member_here x xs)))
    n (ltb-true x n (and_first (ltb x n) (p x) this))
    (λ i h other. ap (λ (b : Bool). p i && not (b || member i xs)) (ne_eqb i x other)) in
    omega arith

-- a slot is closed or named: it is not open and unnamed
turned : (o m : Bool) → not o || m ≡ not (o && not m)
turned true true = refl
turned true false = refl
turned false m = refl

module _ (busy : List Bool) (order : List ℕ) (waiting : ℕ) (room : waiting ≤ length order) where
  abbrev opened : ℕ → Bool
  opened s = get_or busy s false

  -- the open slots that the order does not name
  abbrev left : ℕ → Bool
  left s = opened s && not (member s (take waiting order))

  abbrev each_open : Bool
  each_open = all (λ (s : ℕ). ltb s slot_count && opened s) (take waiting order)

  abbrev once : Bool
  once = distinct (take waiting order)

  abbrev none_left : Bool
  none_left = all_below slot_count (λ (s : ℕ). not (opened s) || member s (take waiting order))

  counted : each_open ≡ true → once ≡ true → count_below slot_count left + waiting ≡ count_below slot_count opened
  counted t d =
      let long = length-take-le waiting order room in
      let whole = counted_apart opened slot_count (take waiting order) t d in
      omega arith

  -- another number of slots is open than waits
  pub naming_other : (waiting ≡ count_below slot_count opened → ⊥) → names_each opened waiting order ≡ false
  unfolding names_each
  naming_other other =
      false_if_not_true (leb waiting slot_count && each_open && once && none_left)
      (λ t.
      let front = and_first (leb waiting slot_count && each_open && once) none_left t in
      let named = and_second (leb waiting slot_count) each_open (and_first (leb waiting slot_count && each_open) once front) in
      let all_named = all_below_at (λ (s : ℕ). not (opened s) || member s (take waiting order)) slot_count (and_second (leb waiting slot_count && each_open && once) none_left t) in
      let none = count_below_fails left slot_count (λ s h. not-true (left s) (sym (turned (opened s) (member s (take waiting order))) ∙ all_named s h)) in
      let sum = counted named (and_second (leb waiting slot_count && each_open) once front) in
      other (omega arith))

  -- all that wait are named, and as many are open: the order is sound
  pub naming_end : (unnamed : List Bool) (i : ℕ) → Naming busy unnamed order i → i ≤ waiting → waiting ≤ i → waiting ≤ slot_count → waiting ≡ count_below slot_count opened
      → names_each opened waiting order ≡ true
  unfolding names_each
  naming_end unnamed i so_far a b few e =
      let whole : Naming busy unnamed order waiting = subst (Naming busy unnamed order) (le_antisymm a b) so_far in
      let sum = counted whole.named whole.once in
      and_both (and_both (and_both (le-leb waiting slot_count few) whole.named) whole.once)
      (all_below_from (λ (s : ℕ). not (opened s) || member s (take waiting order)) slot_count
      (λ s h. turned (opened s) (member s (take waiting order))
      ∙ not_of_false (false_if_not_true (left s) (λ t. let some = count_below_some left slot_count s h t in absurd (omega arith)))))
