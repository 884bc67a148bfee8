-- A page's words and a page's value, each from the other. `encode` and `view` undo each other on pages that fit.
use Prim.Native.Nat.{ℕ, zero, suc, ◌+◌, ◌-◌, ◌*◌, ◌≤◌}
use mathlib.Core.Bool.{Bool, true, false, cond}
use mathlib.Core.List.{List, [], ◌∷◌, ◌++◌}
use mathlib.Core.Path.{◌≡◌, refl, sym, ap, ◌∙◌}
use native.Mathlib.Omega.{arith}
use lib.Dec.{eqb}
use lib.ListN.{length, get_or, take, drop, replicate, length-append, length-replicate, take-append-drop, length-drop}
use lib.Seq.{length-take-le, drop_at}
use Rattle.ground.specs.Tests.{all}
use Rattle.ground.proofs.Bools.{and_first, and_second}
use Rattle.ground.proofs.Choice.{cond_ind}
use Rattle.page.specs.Words.{Entry, Page, page, μ, is_leaf, free_page, flat, used, encode, pairs, pairs_from, view, size}
use Rattle.page.specs.Fits.{Fits}
use borrow.Author.Tests.{eqb-true}

-- each pair takes two words
pub length_flat : (es : List Entry) → length (flat es) ≡ 2 * length es
unfolding flat
length_flat [] = refl
length_flat (e ∷ es) = let ih = length_flat es in omega arith

-- the pairs of a list's words are the list, whatever words follow
pub pairs_flat : (es : List Entry) (ws : List ℕ) → pairs (length es) (flat es ++ ws) ≡ es
unfolding flat pairs
pairs_flat [] ws = refl
pairs_flat (e ∷ es) ws = ap (λ (r : List Entry). e ∷ r) (pairs_flat es ws)

-- as many pairs as are asked for, where there are words enough
pub length_pairs : (m : ℕ) (ws : List ℕ) → 2 * m ≤ length ws → length (pairs m ws) ≡ m
unfolding pairs
length_pairs zero ws h = refl
length_pairs (suc m) [] h = absurd (omega arith)
length_pairs (suc m) (x ∷ []) h = absurd (omega arith)
length_pairs (suc m) (x ∷ (v ∷ ws)) h = ap suc (length_pairs m ws (omega arith))

-- the words of the first m pairs are the first 2m words
pub flat_pairs : (m : ℕ) (ws : List ℕ) → 2 * m ≤ length ws → flat (pairs m ws) ≡ take (2 * m) ws
unfolding pairs flat
flat_pairs zero ws h = refl
flat_pairs (suc m) [] h = absurd (omega arith)
flat_pairs (suc m) (x ∷ []) h = absurd (omega arith)
flat_pairs (suc m) (x ∷ (v ∷ ws)) h =
    let twice : 2 * suc m ≡ suc (suc (2 * m)) = omega arith in
    rw twice (ap (λ (r : List ℕ). x ∷ v ∷ r) (flat_pairs m ws (omega arith)))

-- the words behind word 1, counted with the two before them
length_behind_two : (leaf : Bool) (f : ℕ) (es : List Entry)
    → 2 + length (cond leaf (flat es) (f ∷ flat es)) ≡ cond leaf 2 3 + 2 * length es
length_behind_two true f es = let h = length_flat es in omega arith
length_behind_two false f es = let h = length_flat es in omega arith

-- the used words of a page: those before the pairs, and two for each pair
pub length_used : (P : Page) → length (used P) ≡ pairs_from P.level + 2 * μ P
length_used P = let h = length_behind_two (is_leaf P) P.first P.entries in omega arith

-- the pairs begin at word 3 at the latest
pub pairs_from_most : (level : ℕ) → pairs_from level ≤ 3
pairs_from_most level = cond_ind (λ (m : ℕ). m ≤ 3) (eqb level 1) (λ leaf. omega arith) (λ upper. omega arith)

-- a page that fits fills a page's words to the last
pub length_encode : (k : ℕ) (P : Page) → Fits k P → length (encode k P) ≡ size k
unfolding encode
length_encode k P fits =
    let u = length_used P in
    let most = pairs_from_most P.level in
    length-append (used P) (replicate (size k - length (used P)) 0)
    ∙ ap (λ (j : ℕ). length (used P) + j) (length-replicate (size k - length (used P)) 0)
    ∙ omega arith

-- p0 is read back
first_again : (leaf : Bool) (l m f : ℕ) (es : List Entry) (ws : List ℕ) → (leaf ≡ true → f ≡ 0)
    → cond leaf 0 (get_or (l ∷ m ∷ (cond leaf (flat es) (f ∷ flat es) ++ ws)) 2 0) ≡ f
first_again true l m f es ws h = sym (h refl)
first_again false l m f es ws h = refl

-- the pairs are read back
pairs_again : (leaf : Bool) (l m f : ℕ) (es : List Entry) (ws : List ℕ)
    → pairs (length es) (drop (cond leaf 2 3) (l ∷ m ∷ (cond leaf (flat es) (f ∷ flat es) ++ ws))) ≡ es
pairs_again true l m f es ws = pairs_flat es ws
pairs_again false l m f es ws = pairs_flat es ws

-- a page that fits is read back from its words
pub view_encode : (k : ℕ) (P : Page) → Fits k P → view (encode k P) ≡ P
unfolding encode view
view_encode k P fits =
    let zeros : List ℕ = replicate (size k - length (used P)) 0 in
    let f = first_again (is_leaf P) P.level (μ P) P.first P.entries zeros fits.leaf_first in
    let es = pairs_again (is_leaf P) P.level (μ P) P.first P.entries zeros in
    λ i. page P.level (f i) (es i)

-- word 1 of a page's words is its number of pairs
pub encode_μ : (k : ℕ) (P : Page) → get_or (encode k P) 1 0 ≡ μ P
unfolding encode
encode_μ k P = refl

-- the words of what is read from three words and the rest are these words as far as they are used
used_again : (leaf : Bool) (l m f : ℕ) (rest : List ℕ) → cond leaf 2 3 + 2 * m ≤ length (l ∷ m ∷ f ∷ rest)
    → l ∷ length (pairs m (drop (cond leaf 2 3) (l ∷ m ∷ f ∷ rest)))
    ∷ cond leaf
    (flat (pairs m (drop (cond leaf 2 3) (l ∷ m ∷ f ∷ rest))))
    (cond leaf 0 f ∷ flat (pairs m (drop (cond leaf 2 3) (l ∷ m ∷ f ∷ rest))))
    ≡ take (cond leaf 2 3 + 2 * m) (l ∷ m ∷ f ∷ rest)
used_again true l m f rest h =
    let place : 2 + 2 * m ≡ suc (suc (2 * m)) = omega arith in
    rw (length_pairs m (f ∷ rest) (omega arith), flat_pairs m (f ∷ rest) (omega arith), place)
used_again false l m f rest h =
    let place : 3 + 2 * m ≡ suc (suc (suc (2 * m))) = omega arith in
    rw (length_pairs m rest (omega arith), flat_pairs m rest (omega arith), place)

-- the used words of the page that some words stand for are the first of these words
pub used_view : (ws : List ℕ) → 3 ≤ length ws → pairs_from (get_or ws 0 0) + 2 * get_or ws 1 0 ≤ length ws
    → used (view ws) ≡ take (pairs_from (get_or ws 0 0) + 2 * get_or ws 1 0) ws
unfolding view
used_view [] three h = absurd (omega arith)
used_view (l ∷ []) three h = absurd (omega arith)
used_view (l ∷ (m ∷ [])) three h = absurd (omega arith)
used_view (l ∷ (m ∷ (f ∷ rest))) three h = used_again (eqb l 1) l m f rest h

-- word 1 is the number of pairs of the page that some words stand for, where μ is in range
pub view_μ : (k : ℕ) (ws : List ℕ) → length ws ≡ size k → get_or ws 1 0 ≤ 2 * k → μ (view ws) ≡ get_or ws 1 0
unfolding view
view_μ k ws len in_range =
    let most = pairs_from_most (get_or ws 0 0) in
    length_pairs (get_or ws 1 0) (drop (pairs_from (get_or ws 0 0)) ws) (omega (arith, length-drop (pairs_from (get_or ws 0 0)) ws))

-- the words behind a page's pairs are 0
pub encode_behind : (k : ℕ) (P : Page)
    → drop (pairs_from P.level + 2 * μ P) (encode k P) ≡ replicate (size k - length (used P)) 0
unfolding encode
encode_behind k P = drop_at (used P) (replicate (size k - length (used P)) 0) (pairs_from P.level + 2 * μ P) (length_used P)

-- words that are all 0 by test are all 0
pub all_zero : (ws : List ℕ) → all (λ (w : ℕ). eqb w 0) ws ≡ true → ws ≡ replicate (length ws) 0
unfolding all
all_zero [] h = refl
all_zero (w ∷ ws) h =
    let z = eqb-true w 0 (and_first (eqb w 0) (all (λ (v : ℕ). eqb v 0) ws) h) in
    let zs = all_zero ws (and_second (eqb w 0) (all (λ (v : ℕ). eqb v 0) ws) h) in
    λ i. z i ∷ zs i

-- a run of zeros passes the test
pub zeros_pass : (n : ℕ) → all (λ (w : ℕ). eqb w 0) (replicate n 0) ≡ true
unfolding all
zeros_pass zero = refl
zeros_pass (suc n) = zeros_pass n

-- Words of a page's length, with μ in range and nothing but zeros behind the pairs, are the words of the page they stand for.
pub encode_view : (k : ℕ) (ws : List ℕ) → length ws ≡ size k → get_or ws 1 0 ≤ 2 * k
    → all (λ (w : ℕ). eqb w 0) (drop (pairs_from (get_or ws 0 0) + 2 * get_or ws 1 0) ws) ≡ true → encode k (view ws) ≡ ws
unfolding encode
encode_view k ws len in_range zero-behind =
    let n : ℕ = pairs_from (get_or ws 0 0) + 2 * get_or ws 1 0 in
    let most = pairs_from_most (get_or ws 0 0) in
    let fits : n ≤ length ws = omega arith in
    let behind : size k - length (take n ws) ≡ length (drop n ws) = omega (arith, length-take-le n ws fits, length-drop n ws) in
    ap (λ (u : List ℕ). u ++ replicate (size k - length u) 0) (used_view ws (omega arith) fits)
    ∙ ap (λ (j : ℕ). take n ws ++ replicate j 0) behind
    ∙ ap (λ (r : List ℕ). take n ws ++ r) (sym (all_zero (drop n ws) zero-behind))
    ∙ take-append-drop n ws

-- a free page fits
pub free_fits : (k : ℕ) → Fits k free_page
free_fits k = record { room = omega arith; leaf_first = λ e. refl }

-- a free page's words are all 0
pub encode_free : (k : ℕ) → encode k free_page ≡ replicate (size k) 0
unfolding encode flat
encode_free k =
    let e : suc (suc (suc (size k - 3))) ≡ size k = omega arith in
    ap (λ (n : ℕ). replicate n 0) e

-- words that are all 0 stand for a free page
pub view_zeros : (k : ℕ) → view (replicate (size k) 0) ≡ free_page
view_zeros k = ap view (sym (encode_free k)) ∙ view_encode k free_page (free_fits k)
