-- Where pages lie in the pool's words: each inside the pool, no two on common words, and together the whole pool.
use Prim.Native.Nat.{ℕ, zero, suc, ◌+◌, ◌≤◌, ◌<◌}
use mathlib.Core.List.{List, ◌++◌}
use mathlib.Core.Logic.{◌⊎◌, inl, inr, ⊎_elim, ◌≢◌}
use mathlib.Core.Path.{◌≡◌, refl, sym, ap₂, ◌∙◌}
use native.Mathlib.Nat.{mul-le-mul_right}
use native.Mathlib.Omega.{arith}
use borrow.Author.Tests.{ltb-true, ltb-false}
use lib.Dec.{ltb}
use lib.ListN.{length, take, drop, length-drop}
use lib.Seq.{length-take-le, take-add, take_all}
use Rattle.ground.proofs.Bools.{true_or_false}
use Rattle.page.specs.Words.{size}
use Rattle.pool.specs.Pool.{pool_length, start, words_of}

-- page 0 starts at word 0
pub start_zero : (k : ℕ) → start k 0 ≡ 0
unfolding start
start_zero k = omega arith

-- each page starts where the one before it ends
pub start_suc : (k p : ℕ) → start k (suc p) ≡ start k p + size k
unfolding start
start_suc k p = omega arith

-- the pool ends where the page behind its last one would start
pub pool_length_start : (k n : ℕ) → pool_length k n ≡ start k n
unfolding pool_length start
pool_length_start k n = refl

-- a page of a lower number ends before a page of a higher number starts
pub ends_before : (k p q : ℕ) → p < q → start k p + size k ≤ start k q
unfolding start
ends_before k p q h = omega (arith, mul-le-mul_right (size k) h)

-- a page of the pool lies inside the pool
pub ends_in_pool : (k n p : ℕ) → p < n → start k p + size k ≤ pool_length k n
ends_in_pool k n p h = rw (pool_length_start k n) (ends_before k p n h)

-- two pages have no word in common: one ends before the other starts
pub stretches_apart : (k p q : ℕ) → p ≢ q → (start k p + size k ≤ start k q) ⊎ (start k q + size k ≤ start k p)
stretches_apart k p q h =
    ⊎_elim
    (λ t. inl (ends_before k p q (ltb-true p q t)))
    (λ f. let least = ltb-false p q f in inr (ends_before k q p (omega arith)))
    (true_or_false (ltb p q))

-- a page of the pool has a page's number of words
pub length_words_of : (k n p : ℕ) (ws : List ℕ) → p < n → length ws ≡ pool_length k n → length (words_of k p ws) ≡ size k
unfolding words_of
length_words_of k n p ws h len =
    let inside = ends_in_pool k n p h in
    length-take-le (size k) (drop (start k p) ws) (omega (arith, length-drop (start k p) ws))

-- words that agree on the first m pages agree as far as these go
same_front : (k m : ℕ) (vs ws : List ℕ) → ((p : ℕ) → p < m → words_of k p vs ≡ words_of k p ws)
    → take (start k m) vs ≡ take (start k m) ws
unfolding words_of
same_front k zero vs ws h = rw (start_zero k)
same_front k (suc m) vs ws h =
    let before = same_front k m vs ws (λ p l. h p (omega arith)) in
    rw (start_suc k m, take-add (start k m) (size k) vs, take-add (start k m) (size k) ws)
    (ap₂ (λ (a b : List ℕ). a ++ b) before (h m (omega arith)))

-- two pools of one length that agree on every page's words agree on all words
pub pool_by_pages : (k n : ℕ) (vs ws : List ℕ) → length vs ≡ pool_length k n → length ws ≡ pool_length k n
    → ((p : ℕ) → p < n → words_of k p vs ≡ words_of k p ws) → vs ≡ ws
pool_by_pages k n vs ws lv lw h =
    let whole = pool_length_start k n in
    sym (take_all (start k n) vs (omega arith)) ∙ same_front k n vs ws h ∙ take_all (start k n) ws (omega arith)
