-- A word at the front of some bytes: the library's test of it is ours.
use Prim.Native.Nat.{ℕ}
use mathlib.Core.Bool.{◌&&◌}
use mathlib.Core.List.{List, [], ◌∷◌}
use mathlib.Core.Path.{◌≡◌, refl, ap}
use lib.Dec.{eqb}
use lib.ListN.{length, take}
use lib.Pointwise.{pointwise}
use Rattle.lines.specs.Text.{starts_with}

pub begins : (word bs : List ℕ) → starts_with word bs ≡ pointwise eqb (take (length word) bs) word
unfolding starts_with
begins [] bs = refl
begins (w ∷ ws) [] = refl
begins (w ∷ ws) (b ∷ bs) = ap (λ t. eqb b w && t) (begins ws bs)
