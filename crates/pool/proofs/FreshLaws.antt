-- The fresh pool: page 0 is an empty leaf, every other page is free.
use Prim.Native.Nat.{ℕ, suc, ◌+◌, ◌-◌, ◌≤◌, ◌<◌}
use mathlib.Core.List.{List, [], ◌++◌}
use mathlib.Core.Path.{◌≡◌, refl, sym, ap, ◌∙◌}
use native.Mathlib.Omega.{arith}
use lib.ListN.{length, take, drop, set, replicate, length-set, length-replicate, replicate-append-replicate}
use lib.Seq.{take_at, drop_at, take-set-lt, drop-set-lt}
use Rattle.page.specs.Words.{page, free_page, size, view, encode, flat}
use Rattle.page.specs.Fits.{Fits}
use Rattle.page.proofs.WordLaws.{view_encode, view_zeros}
use Rattle.pool.specs.Pool.{pool_length, start, words_of, page_at, fresh}
use Rattle.pool.proofs.StretchLaws.{start_zero, ends_before, ends_in_pool}

-- the fresh pool has a pool's number of words
pub length_fresh : (k n : ℕ) → length (fresh k n) ≡ pool_length k n
unfolding fresh
length_fresh k n = length-set (replicate (pool_length k n) 0) 0 1 ∙ length-replicate (pool_length k n) 0

-- zeros cut in two are zeros
abbrev pub zeros : ℕ → List ℕ
zeros n = replicate n 0

zeros_cut : (m n : ℕ) → m ≤ n → zeros n ≡ zeros m ++ zeros (n - m)
zeros_cut m n h =
    let whole : n ≡ m + (n - m) = omega arith in
    ap zeros whole ∙ sym (replicate-append-replicate m (n - m) 0)

pub take_zeros : (m n : ℕ) → m ≤ n → take m (zeros n) ≡ zeros m
take_zeros m n h = ap (take m) (zeros_cut m n h) ∙ take_at (zeros m) (zeros (n - m)) m (length-replicate m 0)

pub drop_zeros : (m n : ℕ) → m ≤ n → drop m (zeros n) ≡ zeros (n - m)
drop_zeros m n h = ap (drop m) (zeros_cut m n h) ∙ drop_at (zeros m) (zeros (n - m)) m (length-replicate m 0)

-- an empty leaf fits
empty_fits : (k : ℕ) → Fits k (page 1 0 [])
empty_fits k = record { room = omega arith; leaf_first = λ e. refl }

-- the words of an empty leaf: 1, and then zeros
encode_empty : (k : ℕ) → encode k (page 1 0 []) ≡ set (replicate (size k) 0) 0 1
unfolding encode flat
encode_empty k =
    let e : suc (suc (size k - 2)) ≡ size k = omega arith in
    ap (λ (m : ℕ). set (replicate m 0) 0 1) e

-- "all zero but page 0's level, 1": page 0 is an empty leaf
pub words_of_fresh_root : (k n : ℕ) → 0 < n → words_of k 0 (fresh k n) ≡ encode k (page 1 0 [])
unfolding words_of fresh
words_of_fresh_root k n h =
    let inside = ends_in_pool k n 0 h in
    ap (λ (s : ℕ). take (size k) (drop s (set (zeros (pool_length k n)) 0 1))) (start_zero k)
    ∙ take-set-lt (size k) (zeros (pool_length k n)) 0 1 (omega arith)
    ∙ ap (λ (l : List ℕ). set l 0 1) (take_zeros (size k) (pool_length k n) (omega arith))
    ∙ sym (encode_empty k)

-- every other page is all zeros
pub words_of_fresh_other : (k n p : ℕ) → 0 < p → p < n → words_of k p (fresh k n) ≡ replicate (size k) 0
unfolding words_of fresh
words_of_fresh_other k n p up h =
    let inside = ends_in_pool k n p h in
    let behind = ends_before k 0 p up in
    ap (take (size k))
    (drop-set-lt (start k p) (zeros (pool_length k n)) 0 1 (omega arith) ∙ drop_zeros (start k p) (pool_length k n) (omega arith))
    ∙ take_zeros (size k) (pool_length k n - start k p) (omega arith)

-- page 0 is an empty leaf
pub page_at_fresh_root : (k n : ℕ) → 0 < n → page_at k (fresh k n) 0 ≡ page 1 0 []
unfolding page_at
page_at_fresh_root k n h = ap view (words_of_fresh_root k n h) ∙ view_encode k (page 1 0 []) (empty_fits k)

-- every other page is free
pub page_at_fresh_other : (k n p : ℕ) → 0 < p → p < n → page_at k (fresh k n) p ≡ free_page
unfolding page_at
page_at_fresh_other k n p up h = ap view (words_of_fresh_other k n p up h) ∙ view_zeros k
