-- Laws for an array that a function makes from the numbers of its elements.
use Prim.Native.Nat.{ℕ, zero, suc, ◌+◌, ◌≤◌, ◌<◌}
use mathlib.Core.List.{List}
use mathlib.Core.Logic.{⊎_elim}
use mathlib.Core.Path.{◌≡◌, sym, ap, ◌∙◌, subst}
use native.Mathlib.Omega.{arith}
use native.Mathlib.Nat.{eq-or-lt_of_le}
use lib.ListN.{get_or}
use denote.Param.Members.{Mut}
use Rattle.std.specs.Fn.{Called}
use Rattle.std.specs.Array.{IsFromFnResultFrom}

-- the function changes nothing that it holds, and gives of each number this element
module _ {F B : Type 0} (g : Mut F (ℕ × Unit {0}) B) (f : F) (v : ℕ → B) (tells : (i : ℕ) (y : B) (q : F) → Called g f (i, tt) y q → (q ≡ f) × (y ≡ v i)) where
  pub made_at : (ys : List B) (d : B) (i n : ℕ) → IsFromFnResultFrom g f ys i n → (j : ℕ) → i ≤ j → j < i + n → get_or ys j d ≡ v j
  made_at ys d i zero e j a b = absurd (omega arith)
  made_at ys d i (suc n) e j a b =
      let said = tells i e.1 e.0 e.3 in
      ⊎_elim
      (λ same. ap (λ (x : ℕ). get_or ys x d) (sym same) ∙ e.2.1 d ∙ said.1 ∙ ap v same)
      (λ less. made_at ys d (i + 1) n (subst (λ (q : F). IsFromFnResultFrom g q ys (i + 1) n) said.0 e.4) j (omega arith) (omega arith))
      (eq-or-lt_of_le a)
