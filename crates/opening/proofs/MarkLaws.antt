-- Laws of marks: pages met one list after the other, which pages have a mark then, and that each is met for the first time exactly if the list
-- names none twice and none that had a mark before.
use Prim.Native.Nat.{ℕ, zero, suc, ◌≤◌, ◌<◌}
use mathlib.Core.Bool.{Bool, true, false, not, ◌&&◌, ◌||◌, beq, or_assoc}
use mathlib.Core.List.{List, [], ◌∷◌, ◌++◌}
use mathlib.Core.Logic.{⊎_elim}
use mathlib.Core.Path.{◌≡◌, refl, sym, ap, ◌∙◌, subst}
use native.Mathlib.Omega.{arith}
use Rattle.std.specs.List.{list_any}
use lib.Dec.{eqb}
use lib.ListN.{length, get_or, take, set, length-set}
use lib.Seq.{take-suc, get_or-set_same, get_or-set_other}
use borrow.Author.Tests.{eqb-true, eq-eqb, ne_eqb, not-true}
use Rattle.ground.specs.Tests.{member, distinct, all_below}
use Rattle.ground.proofs.Bools.{and_first, and_second, and_both, or_first, or_none, or_second_fails, not_of_false, not_both, false_if_not_true}
use Rattle.ground.proofs.Choice.{by_test}
use Rattle.ground.proofs.Tests.{all_below_none, all_below_more, member_none, member_here, member_there, member_cases}
use Rattle.opening.specs.Marks.{marked, marked_by, unmet}

-- ---- one list behind the other

-- tests one after the other, however they are grouped
and_assoc : (a b c : Bool) → a && (b && c) ≡ a && b && c
and_assoc true b c = refl
and_assoc false b c = refl

pub marked_append : (xs ys : List ℕ) (marks : List Bool) → marked_by (xs ++ ys) marks ≡ marked_by ys (marked_by xs marks)
unfolding marked_by
marked_append [] ys marks = refl
marked_append (x ∷ xs) ys marks = marked_append xs ys (set marks x true)

pub unmet_append : (xs ys : List ℕ) (marks : List Bool) → unmet (xs ++ ys) marks ≡ unmet xs marks && unmet ys (marked_by xs marks)
unfolding unmet marked_by
unmet_append [] ys marks = refl
unmet_append (x ∷ xs) ys marks =
    ap (λ (b : Bool). not (marked marks x) && b) (unmet_append xs ys (set marks x true))
    ∙ and_assoc (not (marked marks x)) (unmet xs (set marks x true)) (unmet ys (marked_by xs (set marks x true)))

pub length_marked : (xs : List ℕ) (marks : List Bool) → length (marked_by xs marks) ≡ length marks
unfolding marked_by
length_marked [] marks = refl
length_marked (x ∷ xs) marks = length_marked xs (set marks x true) ∙ length-set marks x true

-- ---- which pages have a mark

-- each page of a list has a place for its mark
abbrev pub Inside : List ℕ → List Bool → Type 0
Inside xs marks = (q : ℕ) → member q xs ≡ true → q < length marks

inside_first : (x : ℕ) (xs : List ℕ) (marks : List Bool) → Inside (x ∷ xs) marks → x < length marks
inside_first x xs marks inside = inside x (member_here x xs)

inside_rest : (x : ℕ) (xs : List ℕ) (marks : List Bool) → Inside (x ∷ xs) marks → Inside xs (set marks x true)
inside_rest x xs marks inside q m = subst (λ (l : ℕ). q < l) (sym (length-set marks x true)) (inside q (member_there x q xs m))

-- one page more has a mark
marked_one : (marks : List Bool) (x q : ℕ) → x < length marks → marked (set marks x true) q ≡ eqb q x || marked marks q
marked_one marks x q h =
    by_test (eqb q x)
    (λ e.
    ap (λ (i : ℕ). get_or (set marks x true) i false) (eqb-true q x e)
    ∙ get_or-set_same marks x true false h
    ∙ sym (or_first (marked marks q) e))
    (λ d.
    get_or-set_other marks x q true false (λ e. not_both (eq-eqb q x e) d)
    ∙ sym (other (eqb q x) (marked marks q) d))
  where
    other : (a b : Bool) → a ≡ false → a || b ≡ b
    other true b e = not_both refl e
    other false b e = refl

or_swap : (a b c : Bool) → a || (b || c) ≡ b || a || c
or_swap true true c = refl
or_swap true false c = refl
or_swap false true c = refl
or_swap false false c = refl

pub marked_by_lem : (xs : List ℕ) (marks : List Bool) (q : ℕ) → Inside xs marks → marked (marked_by xs marks) q ≡ member q xs || marked marks q
unfolding marked_by member
marked_by_lem [] marks q inside = refl
marked_by_lem (x ∷ xs) marks q inside =
    marked_by_lem xs (set marks x true) q (inside_rest x xs marks inside)
    ∙ ap (λ (b : Bool). member q xs || b) (marked_one marks x q (inside_first x xs marks inside))
    ∙ or_swap (member q xs) (eqb q x) (marked marks q)

-- ---- met for the first time

-- each is met for the first time: none had a mark,
pub unmet_free : (xs : List ℕ) (marks : List Bool) → Inside xs marks → unmet xs marks ≡ true → (q : ℕ) → member q xs ≡ true → marked marks q ≡ false
unfolding unmet
unmet_free [] marks inside h q m = not_both m (member_none q)
unmet_free (x ∷ xs) marks inside h q m =
    ⊎_elim
    (λ e. ap (marked marks) e ∙ not-true (marked marks x) (and_first (not (marked marks x)) (unmet xs (set marks x true)) h))
    (λ later. or_second_fails (eqb q x) (marked marks q)
    (sym (marked_one marks x q (inside_first x xs marks inside))
    ∙ unmet_free xs (set marks x true) (inside_rest x xs marks inside) (and_second (not (marked marks x)) (unmet xs (set marks x true)) h) q later))
    (member_cases q x xs m)

-- and none stands in the list twice,
pub unmet_distinct : (xs : List ℕ) (marks : List Bool) → Inside xs marks → unmet xs marks ≡ true → distinct xs ≡ true
unfolding unmet distinct
unmet_distinct [] marks inside h = refl
unmet_distinct (x ∷ xs) marks inside h =
    let rest = and_second (not (marked marks x)) (unmet xs (set marks x true)) h in
    let inside' : Inside xs (set marks x true) = inside_rest x xs marks inside in
    let has : marked (set marks x true) x ≡ true = marked_one marks x x (inside_first x xs marks inside) ∙ or_first (marked marks x) (eq-eqb x x refl) in
    and_both
    (not_of_false (false_if_not_true (member x xs) (λ m. not_both has (unmet_free xs (set marks x true) inside' rest x m))))
    (unmet_distinct xs (set marks x true) inside' rest)

-- and conversely.
pub distinct_unmet : (xs : List ℕ) (marks : List Bool) → Inside xs marks → distinct xs ≡ true → ((q : ℕ) → member q xs ≡ true → marked marks q ≡ false) → unmet xs marks ≡ true
unfolding unmet distinct
distinct_unmet [] marks inside h free = refl
distinct_unmet (x ∷ xs) marks inside h free =
    let alone : member x xs ≡ false = not-true (member x xs) (and_first (not (member x xs)) (distinct xs) h) in
    let other : (q : ℕ) → member q xs ≡ true → eqb q x ≡ false =
    λ q m. ne_eqb q x (λ e. not_both (subst (λ (r : ℕ). member r xs ≡ true) e m) alone) in
    and_both (not_of_false (free x (member_here x xs)))
    (distinct_unmet xs (set marks x true) (inside_rest x xs marks inside) (and_second (not (member x xs)) (distinct xs) h)
    (λ q m. marked_one marks x q (inside_first x xs marks inside) ∙ or_none (other q m) (free q (member_there x q xs m))))

-- ---- every page has a mark

-- some page has none
abbrev some_free : List Bool → Bool
some_free = list_any (λ (mark : Bool). beq mark false)

free_append : (xs ys : List Bool) → some_free (xs ++ ys) ≡ some_free xs || some_free ys
free_append [] ys = refl
free_append (x ∷ xs) ys = ap (λ (b : Bool). beq x false || b) (free_append xs ys) ∙ sym (or_assoc (beq x false) (some_free xs) (some_free ys))

-- as the library looks for one
pub all_have : (marks : List Bool) (n : ℕ) → n ≤ length marks → not (some_free (take n marks)) ≡ all_below n (marked marks)
all_have marks zero h = sym (all_below_none (marked marks))
all_have marks (suc n) h =
    ap (λ (l : List Bool). not (some_free l)) (take-suc marks n false (omega arith))
    ∙ ap not (free_append (take n marks) (get_or marks n false ∷ []))
    ∙ both (some_free (take n marks)) (get_or marks n false)
    ∙ ap (λ (b : Bool). b && marked marks n) (all_have marks n (omega arith))
    ∙ sym (all_below_more (marked marks) n)
  where
    both : (a b : Bool) → not (a || (beq b false || false)) ≡ not a && b
    both true true = refl
    both true false = refl
    both false true = refl
    both false false = refl
