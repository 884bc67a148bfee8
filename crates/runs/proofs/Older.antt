-- The slots that are older than one of a waiting order are those that stand before it there.
use Prim.Native.Nat.{ℕ}
use mathlib.Core.Bool.{true, false, not}
use mathlib.Core.List.{List, [], ◌∷◌, ◌++◌}
use mathlib.Core.Logic.{⊎_elim}
use mathlib.Core.Path.{◌≡◌, sym, ap, ap₂, subst, ◌∙◌}
use lib.Dec.{eqb}
use borrow.Author.Tests.{not-true}
use Rattle.ground.specs.Tests.{member, distinct}
use Rattle.ground.proofs.Bools.{not_both, and_first, and_second, or_second}
use Rattle.ground.proofs.Tests.{member_none, member_here, member_cases, member_append, member_inside}
use Rattle.slots.specs.Grant.{older_than}
use Rattle.runs.specs.Waits.{Before}
use Rattle.runs.proofs.Progress.{older_there, older_cases}

-- what stands before and behind a number of a list
splits : (s : ℕ) (xs : List ℕ) → member s xs ≡ true → (front : List ℕ) × (back : List ℕ) × (xs ≡ front ++ s ∷ back)
splits s [] m = not_both m (member_none s)
splits s (y ∷ ys) m =
    ⊎_elim
    (λ e. ([], ys, ap (λ (z : ℕ). z ∷ ys) (sym e)))
    (λ h. let (front, back, q) = splits s ys h in (y ∷ front, back, ap (λ (l : List ℕ). y ∷ l) q))
    (member_cases s y ys m)

pub older_before : (s t : ℕ) (order : List ℕ) → member s order ≡ true → member t (older_than s order) ≡ true → Before t s order
older_before s t [] w m = not_both w (member_none s)
older_before s t (y ∷ ys) w m =
    let (n, cases) = older_cases s t y ys m in
    let later : member s ys ≡ true = ⊎_elim (λ e. absurd (n (sym e))) (λ h. h) (member_cases s y ys w) in
    ⊎_elim
    (λ e. let (between, behind, q) = splits s ys later in record { front = []; between = between; behind = behind; whole = ap₂ (λ (z : ℕ) (l : List ℕ). z ∷ l) (sym e) q })
    (λ h. let b = older_before s t ys later h in record { front = y ∷ b.front; between = b.between; behind = b.behind; whole = ap (λ (l : List ℕ). y ∷ l) b.whole })
    cases

stands_older : (s t : ℕ) (front between behind : List ℕ) → distinct (front ++ t ∷ (between ++ s ∷ behind)) ≡ true
    → member t (older_than s (front ++ t ∷ (between ++ s ∷ behind))) ≡ true
unfolding distinct member
stands_older s t [] between behind d =
    let rest : List ℕ = between ++ s ∷ behind in
    let once : member t rest ≡ false = not-true (member t rest) (and_first (not (member t rest)) (distinct rest) d) in
    ap (member t) (older_there s t rest (λ e. not_both (member_inside s between behind) (subst (λ (q : ℕ). member q rest ≡ false) e once)))
    ∙ member_here t (older_than s rest)
stands_older s t (y ∷ ys) between behind d =
    let last : List ℕ = between ++ s ∷ behind in
    let rest : List ℕ = ys ++ t ∷ last in
    let there : member s rest ≡ true = member_append s ys (t ∷ last) ∙ or_second (member s ys) (or_second (eqb s t) (member_inside s between behind)) in
    let once : member y rest ≡ false = not-true (member y rest) (and_first (not (member y rest)) (distinct rest) d) in
    ap (member t) (older_there s y rest (λ e. not_both there (subst (λ (q : ℕ). member q rest ≡ false) e once)))
    ∙ or_second (eqb t y) (stands_older s t ys between behind (and_second (not (member y rest)) (distinct rest) d))

pub before_older : (s t : ℕ) (order : List ℕ) → distinct order ≡ true → Before t s order → member t (older_than s order) ≡ true
before_older s t order d b =
    subst (λ (l : List ℕ). member t (older_than s l) ≡ true) (sym b.whole)
    (stands_older s t b.front b.between b.behind (subst (λ (l : List ℕ). distinct l ≡ true) b.whole d))
