-- Laws of digits and what they are worth. A loop that passes digits keeps what the passed ones are worth, as far as it
-- counts: what is above the largest number stays above it, whatever digits follow.
use Prim.Native.Nat.{ℕ, ◌+◌, ◌*◌, ◌-◌, ◌^◌, ◌≤◌, ◌<◌}
use mathlib.Core.Bool.{true, false}
use mathlib.Core.List.{List, [], ◌∷◌, ◌++◌, append_assoc, append-nil}
use mathlib.Core.Path.{◌≡◌, refl, sym, ap, ◌∙◌}
use native.Mathlib.Nat.{pow-suc, mul_assoc}
use native.Mathlib.Numerals.{add-one}
use native.Mathlib.Omega.{arith}
use borrow.Author.Tests.{le-leb, leb-true}
use lib.Dec.{leb}
use lib.ListN.{length, get_or, drop, length-append, drop_of_length-le}
use lib.Seq.{drop-cons}
use Rattle.ground.proofs.Bools.{and_first, and_second, and_both}
use Rattle.lines.specs.Meaning.{is_digit, digits, value, largest}
use Rattle.lines.specs.Positions.{Alike, Capped, Counted}

-- ---- a digit

pub digit_low : (b : ℕ) → is_digit b ≡ true → 48 ≤ b
digit_low b t = leb-true 48 b (and_first (leb 48 b) (leb b 57) t)

pub digit_high : (b : ℕ) → is_digit b ≡ true → b ≤ 57
digit_high b t = leb-true b 57 (and_second (leb 48 b) (leb b 57) t)

pub digit_between : (b : ℕ) → 48 ≤ b → b ≤ 57 → is_digit b ≡ true
digit_between b low high = and_both (le-leb 48 b low) (le-leb b 57 high)

-- ---- the digits from a position on

module _ (bs : List ℕ) (at : ℕ) where
  pub digits_none : length bs ≤ at → digits (drop at bs) ≡ []
  unfolding digits
  digits_none h = rw (drop_of_length-le bs h)

  pub digits_stop : at < length bs → is_digit (get_or bs at 0) ≡ false → digits (drop at bs) ≡ []
  unfolding digits
  digits_stop h f = rw (drop-cons bs at 0 h, f)

  pub digits_on : at < length bs → is_digit (get_or bs at 0) ≡ true
      → digits (drop at bs) ≡ get_or bs at 0 ∷ digits (drop (at + 1) bs)
  unfolding digits
  digits_on h t = rw (drop-cons bs at 0 h, t, add-one at)

-- ---- what digits are worth

-- one digit more makes ten times as much and the digit
pub value_snoc : (ds : List ℕ) (d : ℕ) → value (ds ++ d ∷ []) ≡ value ds * 10 + (d - 48)
unfolding value
value_snoc [] d = omega arith
value_snoc (e ∷ es) d =
    let n : ℕ = length es in
    let grown : 10 ^ length (es ++ d ∷ []) ≡ 10 ^ n * 10 = ap (λ (k : ℕ). 10 ^ k) (length-append es (d ∷ []) ∙ add-one n) ∙ pow-suc 10 n in
    let first : (e - 48) * 10 ^ length (es ++ d ∷ []) ≡ (e - 48) * 10 ^ n * 10 = ap (λ (k : ℕ). (e - 48) * k) grown ∙ sym (mul_assoc (e - 48) (10 ^ n) 10) in
    omega (arith, value_snoc es d)

-- ---- the loop that passes digits

-- the digits passed up to `at`, and what they are worth as far as it counts
pub record Passing (bs : List ℕ) (at worth : ℕ) : Type 0 where
  pub passed : List ℕ
  pub whole : digits bs ≡ passed ++ digits (drop at bs)
  pub place : at ≡ length passed
  pub alike : Alike worth (value passed)
  pub small : worth ≤ 10 * largest + 9
  pub within : at ≤ length bs

module _ (bs : List ℕ) where
  pub passing_start : Passing bs 0 0
  unfolding value
  passing_start = record { passed = []; whole = refl; place = refl; alike = refl; small = omega arith; within = omega arith }

  -- one digit more
  pub passing_on : {at worth w : ℕ} → Passing bs at worth → at < length bs → is_digit (get_or bs at 0) ≡ true
      → Capped worth (get_or bs at 0) w → Passing bs (at + 1) w
  passing_on {at} {worth} {w} p h t g =
      let b : ℕ = get_or bs at 0 in
      record {
        passed = p.passed ++ b ∷ [];
        whole = p.whole ∙ ap (λ (l : List ℕ). p.passed ++ l) (digits_on bs at h t) ∙ sym (append_assoc p.passed (b ∷ []) (digits (drop (at + 1) bs)));
        place = omega (arith, p.place, length-append p.passed (b ∷ []));
        alike = omega (arith, p.alike, g.alike, value_snoc p.passed b);
        small = omega (arith, g.small, p.small);
        within = omega (arith, h);
      }

  -- no digit follows
  pub passing_done : {at worth : ℕ} → Passing bs at worth → digits (drop at bs) ≡ [] → Counted bs worth at
  passing_done {at} {worth} p e =
      let all : digits bs ≡ p.passed = p.whole ∙ ap (λ (l : List ℕ). p.passed ++ l) e ∙ append-nil p.passed in
      record {
        ends = p.place ∙ ap length (sym all);
        alike = p.alike ∙ ap (λ (l : List ℕ). Prim.Native.Nat.min (value l) (largest + 1)) (sym all);
        within = p.within;
      }
