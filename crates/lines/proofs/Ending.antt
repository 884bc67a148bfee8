-- Laws of the end of a line: it stands where the first line feed does, and before it stands the line.
use Prim.Native.Nat.{ℕ, suc, ◌+◌, ◌-◌, ◌≤◌, ◌<◌}
use mathlib.Core.Bool.{false}
use mathlib.Core.List.{List, [], ◌∷◌}
use mathlib.Core.Path.{◌≡◌, refl, sym, ap, ◌∙◌}
use native.Mathlib.Nat.{not-suc-le-zero}
use native.Mathlib.Numerals.{add-one}
use native.Mathlib.Omega.{arith}
use borrow.Author.Tests.{eq-eqb, ne_eqb, eqb-true, eqb-false}
use lib.Dec.{eqb}
use lib.ListN.{length, get_or, take, drop, drop_of_length-le}
use lib.Seq.{drop-cons}
use Rattle.ground.specs.Tests.{member}
use Rattle.ground.proofs.Bools.{or_none}
use Rattle.ground.proofs.Choice.{cond_ind}
use Rattle.lines.specs.Ends.{first_line, line_end}

module _ (input : List ℕ) (at : ℕ) where
  -- behind the last byte no line feed is left
  pub end_none : length input ≤ at → line_end input at ≡ at
  unfolding first_line
  end_none h = rw (drop_of_length-le input h) (omega arith)

  -- a line feed ends the line
  pub end_here : at < length input → get_or input at 0 ≡ 10 → line_end input at ≡ at
  unfolding first_line
  end_here h e = rw (drop-cons input at 0 h, eq-eqb (get_or input at 0) 10 e) (omega arith)

  -- any other byte is part of the line
  pub end_on : at < length input → (get_or input at 0 ≡ 10 → ⊥) → line_end input at ≡ line_end input (at + 1)
  unfolding first_line
  end_on h f = rw (drop-cons input at 0 h, ne_eqb (get_or input at 0) 10 f, add-one at) (omega arith)

-- ---- what the line is

-- it is what stands in front of its end
pub line_taken : (bs : List ℕ) → take (length (first_line bs)) bs ≡ first_line bs
unfolding first_line
line_taken [] = refl
line_taken (b ∷ bs) =
    let rest = line_taken bs in
    cond_ind (λ (l : List ℕ). take (length l) (b ∷ bs) ≡ l) (eqb b 10) (λ t. refl) (λ f. ap (λ (l : List ℕ). b ∷ l) rest)

-- no line feed stands in it
pub line_without : (bs : List ℕ) → member 10 (first_line bs) ≡ false
unfolding first_line member
line_without [] = refl
line_without (b ∷ bs) =
    let rest = line_without bs in
    cond_ind (λ (l : List ℕ). member 10 l ≡ false) (eqb b 10) (λ t. refl)
    (λ f. or_none (ne_eqb 10 b (λ e. eqb-false b 10 f (sym e))) rest)

-- and one stands behind it, unless the bytes end there
pub line_fed : (bs : List ℕ) → length (first_line bs) < length bs → get_or bs (length (first_line bs)) 0 ≡ 10
unfolding first_line
line_fed [] h = absurd (not-suc-le-zero h)
line_fed (b ∷ bs) h =
    let rest = line_fed bs in
    cond_ind (λ (l : List ℕ). length l < suc (length bs) → get_or (b ∷ bs) (length l) 0 ≡ 10) (eqb b 10)
    (λ t k. eqb-true b 10 t) (λ f k. rest (omega (arith, k))) h

-- the part of the input from a position up to the line's end is the line
pub line_part : (input : List ℕ) (from : ℕ) → take (line_end input from - from) (drop from input) ≡ first_line (drop from input)
line_part input from =
    let long : line_end input from - from ≡ length (first_line (drop from input)) = omega arith in
    ap (λ (k : ℕ). take k (drop from input)) long ∙ line_taken (drop from input)
