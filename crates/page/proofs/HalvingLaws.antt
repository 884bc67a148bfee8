-- Halving: what one comparison tells of x's place among rising keys, and how many comparisons it takes to find it.
use Prim.Native.Nat.{ℕ, zero, suc, ◌+◌, ◌-◌, ◌*◌, ◌/◌, ◌≤◌, ◌<◌}
use mathlib.Core.Bool.{true}
use mathlib.Core.List.{List}
use mathlib.Core.Logic.{◌⊎◌, inl, inr}
use mathlib.Core.Path.{◌≡◌}
use native.Mathlib.Nat.{not-suc-le-zero, le_refl}
use native.Mathlib.Omega.{arith}
use lib.ListN.{length}
use Rattle.ground.specs.Limits.{largest_k}
use Rattle.page.specs.Words.{Entry}
use Rattle.page.specs.Sound.{rises}
use Rattle.page.specs.Place.{place}
use Rattle.page.proofs.RiseLaws.{key_at}
use Rattle.page.proofs.PlaceLaws.{at_most_before, above_behind}

-- ---- a comparison as a number

-- p is 1 where the key y is at most x, and 0 where it is not
abbrev pub Passes : ℕ → ℕ → ℕ → Type 0
Passes y x p = ((y ≤ x) × (p ≡ 1)) ⊎ ((x < y) × (p ≡ 0))

-- ---- one comparison

-- Of m keys, x's place is behind the first `low` at least, and behind `left` more at most.
abbrev pub Untold : ℕ → ℕ → List Entry → ℕ → ℕ → Type 0
Untold m x es low left = (low + left ≤ m) × (low ≤ place x es) × (place x es ≤ low + left)

-- the key in the middle tells on which side of it x's place is
pub half_told : (m x : ℕ) (es : List Entry) → length es ≡ m → rises es ≡ true → (low left p : ℕ) → Untold m x es low left → 0 < left
    → Passes (key_at (low + left / 2) es) x p → Untold m x es (low + (left / 2 + 1) * p) ((left - p) / 2)
half_told m x es e t low left p u some (inl (at_most, one)) =
    let before = at_most_before x es t (low + left / 2) (omega arith) at_most in
    rw one (omega arith)
half_told m x es e t low left p u some (inr (above, none)) =
    let behind = above_behind x es t (low + left / 2) above in
    rw none (omega arith)

-- ---- how many comparisons

-- how many times n keys can be halved until none is left, in f times at most
pub within : ℕ → ℕ → ℕ
within zero n = 0
within (suc f) zero = 0
within (suc f) (suc n) = suc (within f (suc n / 2))

-- How many comparisons find a place among n keys: one, and as many as it takes among half of them.
unfoldable pub comparisons : ℕ → ℕ
comparisons n = within n n

within_rises : (f g m n : ℕ) → m ≤ n → n ≤ g → within f m ≤ within g n
unfolding within
within_rises zero g m n h l = omega arith
within_rises (suc f) g zero n h l = omega arith
within_rises (suc f) g (suc m) zero h l = absurd (not-suc-le-zero h)
within_rises (suc f) zero (suc m) (suc n) h l = absurd (not-suc-le-zero l)
within_rises (suc f) (suc g) (suc m) (suc n) h l =
    let rest = within_rises f g (suc m / 2) (suc n / 2) (omega arith) (omega arith) in
    omega arith

-- among half of them or fewer it takes fewer
pub comparisons_fall : (n m : ℕ) → 0 < n → m ≤ n / 2 → comparisons m < comparisons n
unfolding comparisons within
comparisons_fall zero m some h = absurd (not-suc-le-zero some)
comparisons_fall (suc n) m some h =
    let rest = within_rises m n m (suc n / 2) h (omega arith) in
    omega arith

-- among the keys of a page, 2k at most, it takes at most 6
pub six_comparisons : (n : ℕ) → n ≤ 2 * largest_k → comparisons n ≤ 6
unfolding comparisons within largest_k
six_comparisons n h = within_rises n 32 n 32 h (le_refl 32)
