-- The loop that spells a number from its last digit on: the digits of what is left, laid over the row as it is now, make
-- what the whole number makes over the row as it was; and where no place is left, the row is that.
use Prim.Native.Nat.{ℕ, ◌+◌, ◌-◌, ◌/◌, ◌≤◌, ◌<◌}
use mathlib.Core.List.{List}
use mathlib.Core.Logic.{⊎_elim}
use mathlib.Core.Path.{◌≡◌, refl, sym, ap, ap₂, ◌∙◌}
use native.Mathlib.Omega.{arith}
use borrow.Author.Tests.{ltb-true, ltb-false}
use lib.Dec.{ltb}
use lib.ListN.{length, set, length-set}
use Rattle.ground.proofs.Bools.{true_or_false}
use Rattle.lines.specs.Text.{laid}
use Rattle.lines.specs.Decimal.{last_digit, decimal}
use Rattle.lines.proofs.Decimals.{decimal_one, decimal_more, length_one, length_more, decimal_some}
use Rattle.lines.proofs.LaidLaws.{laid_one, laid_snoc}

-- `place` is behind the places that are left
pub record Spelling (out₀ : List ℕ) (at n : ℕ) (out : List ℕ) (left place : ℕ) : Type 0 where
  pub makes : at < place → laid out at (decimal left) ≡ laid out₀ at (decimal n)
  pub places : at < place → place ≡ at + length (decimal left)
  pub done : place ≤ at → out ≡ laid out₀ at (decimal n)
  pub fewer : place ≤ at + length (decimal n)
  pub long : length out ≡ length out₀

module _ (out₀ : List ℕ) (at n : ℕ) where
  pub spelling_start : {count : ℕ} → count ≡ length (decimal n) → Spelling out₀ at n out₀ n (at + count)
  spelling_start e =
      record { makes = λ h. refl; places = λ h. omega arith; done = λ h. absurd (omega (arith, decimal_some n)); fewer = omega arith; long = refl }

  module _ {out : List ℕ} {left place : ℕ} (s : Spelling out₀ at n out left place) (room : at + length (decimal n) ≤ length out₀) (more : at < place) where
    -- one digit more
    spelling_more : 10 ≤ left → Spelling out₀ at n (set out (place - 1) (last_digit left)) (left / 10) (place - 1)
    spelling_more large =
        let behind : place - 1 ≡ at + length (decimal (left / 10)) = omega (arith, s.places more, length_more left large) in
        record {
          makes = λ h.
              ap (λ (k : ℕ). laid (set out k (last_digit left)) at (decimal (left / 10))) behind
              ∙ laid_snoc out at (decimal (left / 10)) (last_digit left) (omega (arith, s.long, s.fewer, behind))
              ∙ ap (laid out at) (sym (decimal_more left large))
              ∙ s.makes more;
          places = λ h. behind;
          done = λ h. absurd (omega (arith, behind, decimal_some (left / 10)));
          fewer = omega (arith, s.fewer);
          long = length-set out (place - 1) (last_digit left) ∙ s.long;
        }

    -- the first digit
    spelling_last : left < 10 → Spelling out₀ at n (set out (place - 1) (last_digit left)) (left / 10) (place - 1)
    spelling_last small =
        let front : place - 1 ≡ at = omega (arith, s.places more, length_one left small) in
        let digit : last_digit left ≡ 48 + left = omega arith in
        record {
          makes = λ h. absurd (omega (arith, h, front));
          places = λ h. absurd (omega (arith, h, front));
          done = λ h.
              ap₂ (set out) front digit
              ∙ laid_one out at (48 + left) (omega (arith, s.long, s.fewer, room, more))
              ∙ ap (laid out at) (sym (decimal_one left small))
              ∙ s.makes more;
          fewer = omega (arith, s.fewer);
          long = length-set out (place - 1) (last_digit left) ∙ s.long;
        }

    pub spelling_on : Spelling out₀ at n (set out (place - 1) (last_digit left)) (left / 10) (place - 1)
    spelling_on =
        ⊎_elim (λ t. spelling_last (ltb-true left 10 t)) (λ f. spelling_more (ltb-false left 10 f)) (true_or_false (ltb left 10))
