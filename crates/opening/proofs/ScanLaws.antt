-- The scan of each page by itself: the marks of the pages passed.
use Prim.Native.Nat.{ℕ, suc, ◌<◌}
use mathlib.Core.Bool.{Bool, false}
use mathlib.Core.List.{List}
use mathlib.Core.Logic.{◌≢◌}
use mathlib.Core.Path.{◌≡◌, sym, ap, ◌∙◌}
use native.Mathlib.Omega.{arith}
use borrow.Author.Tests.{eqb-true, eqb-false, ltb-true, ltb-false}
use lib.Dec.{eqb, ltb}
use lib.ListN.{length, get_or, set}
use lib.Seq.{get_or-set_same, get_or-set_other}
use Rattle.ground.proofs.Choice.{by_test}
use Rattle.opening.specs.Marks.{free_mark}

-- the pages below p have their marks
abbrev pub Passed : ℕ → List ℕ → List Bool → ℕ → Type 0
Passed k ws marks p = (q : ℕ) → q < p → get_or marks q false ≡ free_mark k ws q

pub passed_more : (k : ℕ) (ws : List ℕ) (marks : List Bool) (p : ℕ) (v : Bool) → p < length marks → v ≡ free_mark k ws p → Passed k ws marks p → Passed k ws (set marks p v) (suc p)
passed_more k ws marks p v inside e so q h =
    by_test (eqb q p)
    (λ y.
    let same = eqb-true q p y in
    ap (λ (i : ℕ). get_or (set marks p v) i false) same ∙ get_or-set_same marks p v false inside ∙ e ∙ ap (free_mark k ws) (sym same))
    (λ d. get_or-set_other marks p q v false (eqb-false q p d) ∙ so q (less (eqb-false q p d)))
  where
    less : q ≢ p → q < p
    less d = by_test (ltb q p) (ltb-true q p) (λ z. absurd (d (omega (arith, ltb-false q p z))))
