-- Four words written one by one are the list of them.
use Prim.Native.Nat.{ℕ}
use mathlib.Core.List.{List, [], ◌∷◌}
use mathlib.Core.Path.{◌≡◌, refl}
use native.Mathlib.Omega.{arith}
use lib.ListN.{length, set}

pub four_set : (ws : List ℕ) (a b c d : ℕ) → length ws ≡ 4 → set (set (set (set ws 0 a) 1 b) 2 c) 3 d ≡ a ∷ b ∷ c ∷ d ∷ []
four_set [] a b c d e = absurd (omega arith)
four_set (w ∷ []) a b c d e = absurd (omega arith)
four_set (w ∷ x ∷ []) a b c d e = absurd (omega arith)
four_set (w ∷ x ∷ y ∷ []) a b c d e = absurd (omega arith)
four_set (w ∷ x ∷ y ∷ z ∷ []) a b c d e = refl
four_set (w ∷ x ∷ y ∷ z ∷ v ∷ rest) a b c d e = absurd (omega arith)
