-- The order of conversion: it has each page that is held once, and a page of the path before all that lies lower.
use Prim.Native.Nat.{ℕ, zero, suc, ◌+◌, ◌≤◌, ◌<◌}
use native.Mathlib.Omega.{arith}
use mathlib.Core.Bool.{true, false, cond}
use mathlib.Core.List.{List, [], ◌∷◌, ◌++◌, map, map-append}
use mathlib.Core.Logic.{◌≢◌}
use mathlib.Core.Path.{◌≡◌, refl, sym, ap, ap₂, ◌∙◌}
use borrow.Author.Tests.{ltb-true, ltb-false, eq-eqb, ne_eqb}
use lib.Dec.{ltb}
use lib.ListN.{length, get_or, take, length-map, get_or-map}
use lib.Seq.{take-suc, take_all}
use Rattle.ground.specs.Tests.{all, member, distinct}
use Rattle.ground.proofs.Bools.{not_both, and_both, same_if_true_together}
use Rattle.ground.proofs.Choice.{by_test, cond-true, cond-false}
use Rattle.ground.proofs.Tests.{member_here, member_there}
use Rattle.slots.specs.Grant.{older_than}
use Rattle.slots.specs.declared.Lock.{Lock}
use Rattle.slots.specs.declared.Lock.TheVariants.{None, Xi, Alpha}
use Rattle.slots.specs.declared.Under.{Under}
use Rattle.slots.specs.Parts.{under, xi_on, with_xi}
use Rattle.slots.specs.Locks.{same_lock}
use Rattle.footing.specs.Granted.{in_turn, unconverted}
use Rattle.footing.specs.Fitting.{xi_then_alpha}
use Rattle.tree.specs.Tree.{once}
use Rattle.tree.proofs.Memory.{once_same, times, times_append, member_times, times_member, distinct_times, times_distinct}

-- ---- what goes by pages

-- the sibling of a page with so many below, if there is one
abbrev pub beside_one : {A : Type 0} → A → ℕ → List A → List A
beside_one none below beside = cond (ltb below (length beside)) (get_or beside below none ∷ []) []

one_map : {A B : Type 0} (f : A → B) (none : A) (below : ℕ) (beside : List A) → beside_one (f none) below (map f beside) ≡ map f (beside_one none below beside)
one_map f none below beside =
    let long : length (map f beside) ≡ length beside = length-map beside f in
    by_test (ltb below (length beside))
    (λ y.
    cond-true _ [] (ap (ltb below) long ∙ y)
    ∙ ap (λ v. v ∷ []) (get_or-map f beside below none)
    ∙ ap (map f) (sym (cond-true (get_or beside below none ∷ []) [] y)))
    (λ n. cond-false _ [] (ap (ltb below) long ∙ n) ∙ ap (map f) (sym (cond-false (get_or beside below none ∷ []) [] n)))

pub turn_map : {A B : Type 0} (f : A → B) (none : A) (path beside : List A) → in_turn (f none) (map f path) (map f beside) ≡ map f (in_turn none path beside)
unfolding in_turn
turn_map f none [] beside = refl
turn_map f none (p ∷ below) beside =
    ap (λ l. f p ∷ l)
    (ap₂ ◌++◌
    (ap (λ (m : ℕ). beside_one (f none) m (map f beside)) (length-map below f) ∙ one_map f none (length below) beside)
    (turn_map f none below beside)
    ∙ sym (map-append f (beside_one none (length below) beside) (in_turn none below beside)))

-- ---- every page that is held, as often

one_times : (q below : ℕ) (beside : List ℕ) → times q (beside_one 0 below beside) + times q (take below beside) ≡ times q (take (suc below) beside)
one_times q below beside =
    by_test (ltb below (length beside))
    (λ y.
    let e = ap (times q) (cond-true (get_or beside below 0 ∷ []) [] y) in
    let more = ap (times q) (take-suc beside below 0 (ltb-true below (length beside) y)) in
    omega (arith, e, more, times_append q (take below beside) (get_or beside below 0 ∷ [])))
    (λ n.
    let few = ltb-false below (length beside) n in
    let e = ap (times q) (cond-false (get_or beside below 0 ∷ []) [] n) in
    omega (arith, e, ap (times q) (take_all below beside few), ap (times q) (take_all (suc below) beside (omega (arith, few)))))

turn_times : (q : ℕ) (path beside : List ℕ) → times q (in_turn 0 path beside) ≡ times q path + times q (take (length path) beside)
unfolding in_turn
turn_times q [] beside = refl
turn_times q (p ∷ below) beside =
    omega
    (arith, times_append q (beside_one 0 (length below) beside) (in_turn 0 below beside), turn_times q below beside, one_times q (length below) beside)

-- the pages of a slot with no more siblings than pages on its path
module _ (path beside : List ℕ) (few : length beside ≤ length path) where
  pub held_times : (q : ℕ) → times q (in_turn 0 path beside) ≡ times q (path ++ beside)
  held_times q = omega (arith, turn_times q path beside, ap (times q) (take_all (length path) beside few), times_append q path beside)

  pub held_turn : (q : ℕ) → member q (in_turn 0 path beside) ≡ member q (path ++ beside)
  held_turn q =
      same_if_true_together (member q (in_turn 0 path beside)) (member q (path ++ beside))
      (λ m. times_member q (path ++ beside) (let some = member_times q (in_turn 0 path beside) m in omega (arith, held_times q)))
      (λ m. times_member q (in_turn 0 path beside) (let some = member_times q (path ++ beside) m in omega (arith, held_times q)))

  pub turn_different : distinct (path ++ beside) ≡ true → distinct (in_turn 0 path beside) ≡ true
  turn_different d =
      times_distinct (in_turn 0 path beside) (λ q. omega (arith, held_times q, distinct_times (path ++ beside) d q))

-- the first one is the top page
pub turn_first : (top : ℕ) (below beside : List ℕ) → in_turn 0 (top ∷ below) beside ≡ top ∷ (beside_one 0 (length below) beside ++ in_turn 0 below beside)
unfolding in_turn
turn_first top below beside = refl

-- ---- before a page

-- what stands before a page that stands there once
pub before_turn : (done : List ℕ) (w : ℕ) (rest : List ℕ) → member w done ≡ false → older_than w (done ++ w ∷ rest) ≡ done
unfolding older_than member
before_turn [] w rest new = cond-true [] (w ∷ older_than w rest) (eq-eqb w w refl)
before_turn (p ∷ done) w rest new =
    let other : p ≢ w = λ e. not_both (member_here w done) (ap (λ (q : ℕ). member w (q ∷ done)) (sym e) ∙ new) in
    cond-false [] (p ∷ older_than w (done ++ w ∷ rest)) (ne_eqb p w other)
    ∙ ap (λ (l : List ℕ). p ∷ l) (before_turn done w rest (absent_behind p w done new))
  where
    absent_behind : (p w : ℕ) (done : List ℕ) → member w (p ∷ done) ≡ false → member w done ≡ false
    absent_behind p w done e = by_test (member w done) (λ m. not_both (member_there p w done m) e) (λ f. f)

-- in a list without doubles a page that stands there stands neither before nor behind itself
pub once_before : (done : List ℕ) (w : ℕ) (rest : List ℕ) → distinct (done ++ w ∷ rest) ≡ true → (member w done ≡ false) × (member w rest ≡ false)
once_before done w rest d =
    let count = distinct_times (done ++ w ∷ rest) d w in
    let split = times_append w done (w ∷ rest) in
    let here : once w w ≡ 1 = once_same w w refl in
    (none w done (omega (arith, count, split, here)), none w rest (omega (arith, count, split, here)))
  where
    none : (q : ℕ) (l : List ℕ) → times q l ≡ 0 → member q l ≡ false
    none q l e = by_test (member q l) (λ m. let some = member_times q l m in absurd (omega (arith, e, some))) (λ f. f)

-- ---- the kinds in this order

-- what stands beyond the end does not matter
one_default : {A : Type 0} (a b : A) (below : ℕ) (beside : List A) → beside_one a below beside ≡ beside_one b below beside
one_default {A = A} a b below beside =
    by_test (ltb below (length beside))
    (λ y.
    cond-true _ [] y
    ∙ ap (λ v. v ∷ []) (in_range beside below (ltb-true below (length beside) y))
    ∙ sym (cond-true (get_or beside below b ∷ []) [] y))
    (λ n. cond-false _ [] n ∙ sym (cond-false (get_or beside below b ∷ []) [] n))
  where
    in_range : (xs : List A) (i : ℕ) → i < length xs → get_or xs i a ≡ get_or xs i b
    in_range [] i h = absurd (omega arith)
    in_range (x ∷ xs) zero h = refl
    in_range (x ∷ xs) (suc i) h = in_range xs i (omega arith)

turn_default : {A : Type 0} (a b : A) (path beside : List A) → in_turn a path beside ≡ in_turn b path beside
unfolding in_turn
turn_default a b [] beside = refl
turn_default a b (p ∷ below) beside =
    ap (λ l. p ∷ l) (ap₂ ◌++◌ (one_default a b (length below) beside) (turn_default a b below beside))

-- kinds that go by the page
pub locks_turn : (f : ℕ → Under) (path beside : List ℕ) → in_turn (under None) (map f path) (map f beside) ≡ map f (in_turn 0 path beside)
locks_turn f path beside = turn_default (under None) (f 0) (map f path) (map f beside) ∙ turn_map f 0 path beside

-- pages that have ξ are passed
pub passed_turn : (f : ℕ → Under) (done rest : List ℕ) → ((p : ℕ) → member p done ≡ true → (f p).lock ≡ Xi)
    → unconverted (done ++ rest) (map f (done ++ rest)) ≡ unconverted rest (map f rest)
unfolding unconverted
passed_turn f [] rest xi = refl
passed_turn f (p ∷ done) rest xi =
    cond-true _ _ (ap (λ (l : Lock). same_lock l Xi) (xi p (member_here p done)))
    ∙ passed_turn f done rest (λ q m. xi q (member_there p q done m))

-- and one that has α is next
pub next_turn : (f : ℕ → Under) (p : ℕ) (rest : List ℕ) → (f p).lock ≡ Alpha → unconverted (p ∷ rest) (map f (p ∷ rest)) ≡ p ∷ rest
unfolding unconverted
next_turn f p rest alpha = cond-false _ _ (ap (λ (l : Lock). same_lock l Xi) alpha)

-- ξ on some, then α on all
pub turn_kinds : (f : ℕ → Under) (done rest : List ℕ) → ((p : ℕ) → member p done ≡ true → (f p).lock ≡ Xi) → ((p : ℕ) → member p rest ≡ true → (f p).lock ≡ Alpha)
    → xi_then_alpha (map f (done ++ rest)) ≡ true
unfolding xi_then_alpha all
turn_kinds f [] [] xi alpha = refl
turn_kinds f [] (p ∷ rest) xi alpha =
    cond-false _ _ (ap (λ (l : Lock). same_lock l Xi) (alpha p (member_here p rest)))
    ∙ all_alpha (p ∷ rest) alpha
  where
    all_alpha : (pages : List ℕ) → ((p : ℕ) → member p pages ≡ true → (f p).lock ≡ Alpha) → all (λ (u : Under). same_lock u.lock Alpha) (map f pages) ≡ true
    all_alpha [] h = refl
    all_alpha (q ∷ pages) h =
        and_both (ap (λ (l : Lock). same_lock l Alpha) (h q (member_here q pages))) (all_alpha pages (λ r m. h r (member_there q r pages m)))
turn_kinds f (p ∷ done) rest xi alpha =
    cond-true _ _ (ap (λ (l : Lock). same_lock l Xi) (xi p (member_here p done)))
    ∙ turn_kinds f done rest (λ q m. xi q (member_there p q done m)) alpha

-- a page converted
pub xi_map : (w : ℕ) (f : ℕ → Under) (pages : List ℕ) → with_xi w pages (map f pages) ≡ map (λ (q : ℕ). xi_on w q (f q)) pages
unfolding with_xi
xi_map w f [] = refl
xi_map w f (p ∷ pages) = ap (λ (l : List Under). xi_on w p (f p) ∷ l) (xi_map w f pages)
