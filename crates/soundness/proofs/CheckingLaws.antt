-- Laws for the test of a state, on lists: the first elements of a list pass a test or differ, pages are named one by one, and so are words.
use Prim.Native.Nat.{ℕ, zero, suc, ◌+◌, ◌≤◌, ◌<◌}
use mathlib.Core.Bool.{Bool, true, false, not, ◌&&◌, ◌||◌}
use mathlib.Core.List.{List, [], ◌++◌}
use mathlib.Core.Logic.{⊎_elim}
use mathlib.Core.Path.{◌≡◌, sym, ap, ap₂, ◌∙◌}
use native.Mathlib.Numerals.{add-one}
use native.Mathlib.Omega.{arith}
use borrow.Author.Tests.{eq-eqb, ne_eqb, lt-ltb, le-ltb}
use lib.Dec.{eqb, ltb}
use lib.ListN.{length, get_or, take}
use lib.Seq.{length-take-le, get_or-take, take_all}
use Rattle.ground.specs.Tests.{all, all_below, member, distinct}
use Rattle.ground.proofs.Bools.{and_both, and_first, and_second, and_first_fails, and_second_fails, or_cases, or_first_fails, or_second_fails, not_of_true, not_of_false, false_if_not_true}
use Rattle.ground.proofs.Tests.{all_none, all_more, all_stops, member_append, member_at, distinct_none, distinct_more, distinct_at, all_below_none, all_below_more, all_below_stops}
use Rattle.std.specs.List.{list_all, range_with_len}
use Rattle.std.proofs.lemmas.List.FromFn.{length-range_with_len, get_or-range_with_len}
use Rattle.std.proofs.lemmas.List.Folds.{list_all_more}
use Rattle.lent.specs.Words.{cell}
use Rattle.soundness.specs.Checking.{enters, may_enter, column_passes}

-- ---- the first elements of a list, one more in each turn

module _ (xs : List ℕ) (i : ℕ) where
  -- one element more passes
  pub all_on : (p : ℕ → Bool) → i < length xs → all p (take i xs) ≡ true → p (get_or xs i 0) ≡ true → all p (take (i + 1) xs) ≡ true
  all_on p h t e = ap (λ (n : ℕ). all p (take n xs)) (add-one i) ∙ all_more p xs i 0 h ∙ and_both t e

  -- an element fails
  pub all_stop : (p : ℕ → Bool) (count : ℕ) → i < count → count ≤ length xs → p (get_or xs i 0) ≡ false → all p (take count xs) ≡ false
  all_stop p count h room f =
      all_stops p (take count xs) 0 i (omega (arith, length-take-le count xs room)) (ap p (get_or-take count xs i 0 h) ∙ f)

  -- one element more, which is new
  pub differ_on : i < length xs → distinct (take i xs) ≡ true → member (get_or xs i 0) (take i xs) ≡ false → distinct (take (i + 1) xs) ≡ true
  differ_on h t f =
      ap (λ (n : ℕ). distinct (take n xs)) (add-one i) ∙ distinct_more xs i 0 h ∙ and_both t (not_of_false f)

  -- an element stood there before
  pub differ_stop : (count : ℕ) → i < count → count ≤ length xs → member (get_or xs i 0) (take i xs) ≡ true → distinct (take count xs) ≡ false
  differ_stop count h room m =
      false_if_not_true (distinct (take count xs))
      (λ t. let found = member_at (get_or xs i 0) (take i xs) 0 m in
      let within = length-take-le i xs (omega arith) in
      let whole = length-take-le count xs room in
      distinct_at (take count xs) 0 t found.0 i (omega arith) (omega arith)
      (get_or-take count xs found.0 0 (omega arith)
      ∙ sym (get_or-take i xs found.0 0 (omega arith))
      ∙ found.2
      ∙ sym (get_or-take count xs i 0 h)))

-- ---- pages, one more in each turn

-- no page: nothing is asked
pub may_none : (n other : ℕ) (own : List ℕ) → may_enter n other own [] ≡ true
unfolding may_enter
may_none n other own = and_both (all_none (enters n other own)) distinct_none

module _ (n other : ℕ) (own pages : List ℕ) (i : ℕ) where
  -- one page more
  pub may_on : i < length pages → may_enter n other own (take i pages) ≡ true → get_or pages i 0 < n → (get_or pages i 0 ≡ other → ⊥)
      → member (get_or pages i 0) (own ++ take i pages) ≡ false → may_enter n other own (take (i + 1) pages) ≡ true
  unfolding may_enter
  may_on h t low apart new =
      let p : ℕ = get_or pages i 0 in
      let parts : member p own || member p (take i pages) ≡ false = sym (member_append p own (take i pages)) ∙ new in
      and_both
      (all_on pages i (enters n other own) h
      (and_first (all (enters n other own) (take i pages)) (distinct (take i pages)) t)
      (and_both (and_both (lt-ltb p n low) (not_of_false (ne_eqb p other apart))) (not_of_false (or_first_fails (member p own) (member p (take i pages)) parts))))
      (differ_on pages i h
      (and_second (all (enters n other own) (take i pages)) (distinct (take i pages)) t)
      (or_second_fails (member p own) (member p (take i pages)) parts))

  module _ (count : ℕ) (h : i < count) (room : count ≤ length pages) where
    -- a page is not below n
    pub may_stop_high : n ≤ get_or pages i 0 → may_enter n other own (take count pages) ≡ false
    unfolding may_enter
    may_stop_high high =
        and_first_fails (distinct (take count pages))
        (all_stop pages i (enters n other own) count h room
        (and_first_fails (not (member (get_or pages i 0) own)) (and_first_fails (not (eqb (get_or pages i 0) other)) (le-ltb (get_or pages i 0) n high))))

    -- a page is the other one
    pub may_stop_other : get_or pages i 0 ≡ other → may_enter n other own (take count pages) ≡ false
    unfolding may_enter
    may_stop_other e =
        and_first_fails (distinct (take count pages))
        (all_stop pages i (enters n other own) count h room
        (and_first_fails (not (member (get_or pages i 0) own)) (and_second_fails (ltb (get_or pages i 0) n) (not_of_true (eq-eqb (get_or pages i 0) other e)))))

    -- a page stands in the list already
    pub may_stop_twice : member (get_or pages i 0) (own ++ take i pages) ≡ true → may_enter n other own (take count pages) ≡ false
    unfolding may_enter
    may_stop_twice m = ⊎_elim first again (or_cases (member p own) (member p (take i pages)) (sym (member_append p own (take i pages)) ∙ m))
      where
        p : ℕ
        p = get_or pages i 0

        first : member p own ≡ true → all (enters n other own) (take count pages) && distinct (take count pages) ≡ false
        first o =
            and_first_fails (distinct (take count pages))
            (all_stop pages i (enters n other own) count h room (and_second_fails (ltb p n && not (eqb p other)) (not_of_true o)))

        again : member p (take i pages) ≡ true → all (enters n other own) (take count pages) && distinct (take count pages) ≡ false
        again w = and_second_fails (all (enters n other own) (take count pages)) (differ_stop pages i count h room w)

-- ---- what the numbers of a range are asked, one behind the other

all_passed : (p : ℕ → Bool) (n i : ℕ) → i ≤ n → list_all p (take i (range_with_len 0 n)) ≡ all_below i p
all_passed p n zero h = sym (all_below_none p)
all_passed p n (suc i) h =
    let long : length (range_with_len 0 n) ≡ n = length-range_with_len 0 n in
    let here : get_or (range_with_len 0 n) i 0 ≡ i = get_or-range_with_len 0 n i 0 (omega arith) ∙ omega arith in
    ap (λ (m : ℕ). list_all p (take m (range_with_len 0 n))) (sym (add-one i))
    ∙ list_all_more p (range_with_len 0 n) i 0 (omega arith)
    ∙ ap₂ (λ (a b : Bool). a && b) (all_passed p n i (omega arith)) (ap p here)
    ∙ sym (all_below_more p i)

pub all_in_range : (p : ℕ → Bool) (n : ℕ) → list_all p (range_with_len 0 n) ≡ all_below n p
all_in_range p n =
    ap (list_all p) (sym (take_all n (range_with_len 0 n) (omega (arith, length-range_with_len 0 n)))) ∙ all_passed p n n (omega arith)

-- ---- the words of a column, one more in each turn

module _ (test : ℕ → Bool) (ws : List ℕ) (row s : ℕ) where
  abbrev passes : ℕ → Bool
  passes j = test (cell ws (row + j) s)

  pub passes_none : column_passes test ws row s 0 ≡ true
  unfolding column_passes
  passes_none = all_below_none passes

  pub passes_on : (i : ℕ) → column_passes test ws row s i ≡ true → test (cell ws (row + i) s) ≡ true → column_passes test ws row s (i + 1) ≡ true
  unfolding column_passes
  passes_on i t e = ap (λ (m : ℕ). all_below m passes) (add-one i) ∙ all_below_more passes i ∙ and_both t e

  pub passes_stop : (i count : ℕ) → i < count → test (cell ws (row + i) s) ≡ false → column_passes test ws row s count ≡ false
  unfolding column_passes
  passes_stop i count h f = all_below_stops passes count i h f
