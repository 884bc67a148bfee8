-- Pairs and their words: each pair stands on two words, so a cut between pairs is a cut of the words at twice the place.
use Prim.Native.Nat.{ℕ, zero, suc, ◌+◌, ◌-◌, ◌*◌, ◌≤◌}
use mathlib.Core.Bool.{Bool, true, false, cond}
use mathlib.Core.List.{List, [], ◌∷◌, ◌++◌}
use mathlib.Core.Path.{◌≡◌, refl, sym, ap, ◌∙◌}
use native.Mathlib.Omega.{arith}
use lib.Dec.{eqb}
use lib.ListN.{length, take, drop, replicate}
use lib.Seq.{drop-nil}
use Rattle.page.specs.Words.{Entry, Page, entry, μ, flat, used, encode, pairs, pairs_from, size}
use Rattle.sheet.specs.Sheets.{before_pairs}
use Rattle.page.proofs.WordLaws.{length_used}

-- the words of two runs of pairs stand one behind the other
pub flat_append : (a b : List Entry) → flat (a ++ b) ≡ flat a ++ flat b
unfolding flat
flat_append [] b = refl
flat_append (e ∷ a) b = ap (λ (r : List ℕ). e.key ∷ e.value ∷ r) (flat_append a b)

-- the words before the pairs end where the pairs begin
pub length_front : (l m f : ℕ) → length (before_pairs l m f) ≡ pairs_from l
length_front l m f = by_leaf (eqb l 1)
  where
    by_leaf : (leaf : Bool) → length (l ∷ m ∷ cond leaf [] (f ∷ [])) ≡ cond leaf 2 3
    by_leaf true = refl
    by_leaf false = refl

-- the pairs begin at word 2 at the earliest
pub pairs_from_least : (level : ℕ) → 2 ≤ pairs_from level
pairs_from_least level = two_or_three (eqb level 1)
  where
    two_or_three : (leaf : Bool) → 2 ≤ cond leaf 2 3
    two_or_three true = omega arith
    two_or_three false = omega arith

-- The words of a page: those before the pairs, the pairs, zeros.
pub encode_front : (k : ℕ) (P : Page)
    → encode k P ≡ before_pairs P.level (μ P) P.first ++ (flat P.entries ++ replicate (size k - (pairs_from P.level + 2 * μ P)) 0)
unfolding encode
encode_front k P =
    ap (λ (n : ℕ). used P ++ replicate (size k - n) 0) (length_used P)
    ∙ ap (λ (r : List ℕ). P.level ∷ μ P ∷ r)
    (by_leaf (eqb P.level 1) P.first (flat P.entries) (replicate (size k - (pairs_from P.level + 2 * μ P)) 0))
  where
    by_leaf : (leaf : Bool) (f : ℕ) (ws zs : List ℕ) → cond leaf ws (f ∷ ws) ++ zs ≡ cond leaf [] (f ∷ []) ++ (ws ++ zs)
    by_leaf true f ws zs = refl
    by_leaf false f ws zs = refl

-- the first c of the first m pairs of some words
pub take_pairs : (c m : ℕ) (ws : List ℕ) → c ≤ m → take c (pairs m ws) ≡ pairs c ws
unfolding pairs
take_pairs zero m ws h = refl
take_pairs (suc c) zero ws h = absurd (omega arith)
take_pairs (suc c) (suc m) [] h = refl
take_pairs (suc c) (suc m) (x ∷ []) h = refl
take_pairs (suc c) (suc m) (x ∷ (v ∷ ws)) h = ap (λ (r : List Entry). entry x v ∷ r) (take_pairs c m ws (omega arith))

-- no words, no pairs
pairs_none : (m : ℕ) → pairs m [] ≡ []
unfolding pairs
pairs_none zero = refl
pairs_none (suc m) = refl

-- the first m pairs of some words less the first c
pub drop_pairs : (c m : ℕ) (ws : List ℕ) → drop c (pairs m ws) ≡ pairs (m - c) (drop (2 * c) ws)
unfolding pairs
drop_pairs zero m ws = let none : m ≡ m - 0 = omega arith in ap (λ (n : ℕ). pairs n ws) none
drop_pairs (suc c) zero ws = let none : 0 ≡ 0 - suc c = omega arith in ap (λ (n : ℕ). pairs n (drop (2 * suc c) ws)) none
drop_pairs (suc c) (suc m) [] = sym (ap (pairs (suc m - suc c)) (drop-nil (2 * suc c)) ∙ pairs_none (suc m - suc c))
drop_pairs (suc c) (suc m) (x ∷ []) =
    let twice : 2 * suc c ≡ suc (suc (2 * c)) = omega arith in
    sym (ap (λ (n : ℕ). pairs (suc m - suc c) (drop n (x ∷ []))) twice ∙ pairs_none (suc m - suc c))
drop_pairs (suc c) (suc m) (x ∷ (v ∷ ws)) =
    let twice : 2 * suc c ≡ suc (suc (2 * c)) = omega arith in
    let less : m - c ≡ suc m - suc c = omega arith in
    drop_pairs c m ws ∙ ap (λ (n : ℕ). pairs n (drop (2 * c) ws)) less ∙ ap (λ (n : ℕ). pairs (suc m - suc c) (drop n (x ∷ v ∷ ws))) (sym twice)
