-- New information under a key: `regraded` keeps the keys and their order, and changes the one entry under the key.
use Prim.Native.Nat.{ℕ, zero, suc, ◌<◌}
use mathlib.Core.Bool.{Bool, true, false, cond, ◌&&◌, ◌||◌, false≢true}
use mathlib.Core.List.{List, [], ◌∷◌, ◌++◌, map}
use mathlib.Core.Logic.{⊎_elim, ◌≢◌}
use mathlib.Core.Path.{◌≡◌, refl, sym, ap, ◌∙◌}
use native.Mathlib.Nat.{le_of_suc-le-suc, not-suc-le-zero}
use native.Mathlib.Omega.{arith}
use borrow.Author.Tests.{eqb-true, eq-eqb, ne_eqb}
use lib.Dec.{ltb, eqb}
use lib.ListN.{length, take, drop}
use Rattle.ground.proofs.Bools.{or_cases, or_first_fails, or_second_fails, not_both}
use Rattle.ground.proofs.Choice.{by_test, cond_ind, cond-true, cond-false}
use Rattle.page.specs.Words.{Entry, entry, key_of}
use Rattle.page.specs.Sound.{rises_from, rises}
use Rattle.page.specs.Place.{has, information, regraded}
use Rattle.page.proofs.RiseLaws.{key_at, rises_at, rises_drop}

-- ---- what stays

-- the keys are the same,
pub keys_regraded : (x v : ℕ) (es : List Entry) → map key_of (regraded x v es) ≡ map key_of es
unfolding regraded
keys_regraded x v [] = refl
keys_regraded x v (e ∷ es) =
    cond_ind (λ (l : List Entry). map key_of l ≡ e.key ∷ map key_of es) (eqb e.key x)
    (λ here. refl)
    (λ there. ap (λ (l : List ℕ). e.key ∷ l) (keys_regraded x v es))

-- and as many;
pub length_regraded : (x v : ℕ) (es : List Entry) → length (regraded x v es) ≡ length es
unfolding regraded
length_regraded x v [] = refl
length_regraded x v (e ∷ es) =
    cond_ind (λ (l : List Entry). length l ≡ suc (length es)) (eqb e.key x) (λ here. refl) (λ there. ap suc (length_regraded x v es))

-- so they rise where they did,
rises_from_regraded : (x v from : ℕ) (es : List Entry) → rises_from from (regraded x v es) ≡ rises_from from es
unfolding regraded rises_from
rises_from_regraded x v from [] = refl
rises_from_regraded x v from (e ∷ es) =
    cond_ind (λ (l : List Entry). rises_from from l ≡ rises_from from (e ∷ es)) (eqb e.key x)
    (λ here. refl)
    (λ there. ap (λ (b : Bool). ltb from e.key && b) (rises_from_regraded x v e.key es))

pub rises_regraded : (x v : ℕ) (es : List Entry) → rises (regraded x v es) ≡ rises es
unfolding regraded rises
rises_regraded x v [] = refl
rises_regraded x v (e ∷ es) =
    cond_ind (λ (l : List Entry). rises l ≡ rises (e ∷ es)) (eqb e.key x) (λ here. refl) (λ there. rises_from_regraded x v e.key es)

-- and each key stands that did
pub has_regraded : (x v y : ℕ) (es : List Entry) → has y (regraded x v es) ≡ has y es
unfolding regraded has
has_regraded x v y [] = refl
has_regraded x v y (e ∷ es) =
    cond_ind (λ (l : List Entry). has y l ≡ has y (e ∷ es)) (eqb e.key x)
    (λ here. refl)
    (λ there. ap (λ (b : Bool). eqb e.key y || b) (has_regraded x v y es))

-- where the key does not stand, nothing changes
pub regraded_none : (x v : ℕ) (es : List Entry) → has x es ≡ false → regraded x v es ≡ es
unfolding has regraded
regraded_none x v [] f = refl
regraded_none x v (e ∷ es) f =
    cond-false (entry e.key v ∷ es) (e ∷ regraded x v es) (or_first_fails (eqb e.key x) (has x es) f)
    ∙ ap (λ (l : List Entry). e ∷ l) (regraded_none x v es (or_second_fails (eqb e.key x) (has x es) f))

-- ---- information

-- the new information stands under the key,
pub information_regraded : (x v : ℕ) (es : List Entry) → has x es ≡ true → information x (regraded x v es) ≡ v
unfolding has information regraded
information_regraded x v [] t = absurd (false≢true t)
information_regraded x v (e ∷ es) t =
    cond_ind (λ (l : List Entry). information x l ≡ v) (eqb e.key x)
    (λ here. cond-true v (information x es) here)
    (λ there. cond-false e.value (information x (regraded x v es)) there
    ∙ information_regraded x v es (⊎_elim (λ here. not_both here there) (λ later. later) (or_cases (eqb e.key x) (has x es) t)))

-- and the old one under every other
pub information_regraded_other : (x v y : ℕ) (es : List Entry) → y ≢ x → information y (regraded x v es) ≡ information y es
unfolding information regraded
information_regraded_other x v y [] n = refl
information_regraded_other x v y (e ∷ es) n =
    cond_ind (λ (l : List Entry). information y l ≡ information y (e ∷ es)) (eqb e.key x)
    (λ here.
    let other = ne_eqb e.key y (λ s. n (sym s ∙ eqb-true e.key x here)) in
    cond-false v (information y es) other ∙ sym (cond-false e.value (information y es) other))
    (λ there. ap (λ (w : ℕ). cond (eqb e.key y) e.value w) (information_regraded_other x v y es n))

-- ---- parts

-- a key that the first of two lists lacks is regraded in the second,
pub regraded_second : (x v : ℕ) (front back : List Entry) → has x front ≡ false → regraded x v (front ++ back) ≡ front ++ regraded x v back
unfolding has regraded
regraded_second x v [] back f = refl
regraded_second x v (e ∷ front) back f =
    cond-false (entry e.key v ∷ (front ++ back)) (e ∷ regraded x v (front ++ back)) (or_first_fails (eqb e.key x) (has x front) f)
    ∙ ap (λ (l : List Entry). e ∷ l) (regraded_second x v front back (or_second_fails (eqb e.key x) (has x front) f))

-- one that the second lacks in the first,
pub regraded_first : (x v : ℕ) (front back : List Entry) → has x back ≡ false → regraded x v (front ++ back) ≡ regraded x v front ++ back
unfolding regraded
regraded_first x v [] back f = regraded_none x v back f
regraded_first x v (e ∷ front) back f =
    by_test (eqb e.key x)
    (λ t. cond-true _ _ t ∙ sym (ap (λ (l : List Entry). l ++ back) (cond-true (entry e.key v ∷ front) (e ∷ regraded x v front) t)))
    (λ t. cond-false _ _ t
    ∙ ap (λ (l : List Entry). e ∷ l) (regraded_first x v front back f)
    ∙ sym (ap (λ (l : List Entry). l ++ back) (cond-false (entry e.key v ∷ front) (e ∷ regraded x v front) t)))

-- and on rising keys one that stands at index i is regraded there
pub regraded_at : (x v : ℕ) (es : List Entry) → rises es ≡ true → (i : ℕ) → i < length es → key_at i es ≡ x
    → regraded x v es ≡ take i es ++ entry x v ∷ drop (suc i) es
unfolding regraded
regraded_at x v [] t i h e = absurd (not-suc-le-zero h)
regraded_at x v (f ∷ es) t zero h e =
    cond-true (entry f.key v ∷ es) (f ∷ regraded x v es) (eq-eqb f.key x e) ∙ ap (λ (y : ℕ). entry y v ∷ es) e
regraded_at x v (f ∷ es) t (suc i) h e =
    let up = rises_at (f ∷ es) t 0 (suc i) (omega arith) h in
    cond-false (entry f.key v ∷ es) (f ∷ regraded x v es) (ne_eqb f.key x (λ s. absurd (omega arith)))
    ∙ ap (λ (l : List Entry). f ∷ l) (regraded_at x v es (rises_drop 1 (f ∷ es) t) i (le_of_suc-le-suc h) e)
