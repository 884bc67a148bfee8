-- Laws of a number in decimal: its digits one by one, how many there are, and that they are read back as the number.
use Prim.Native.Nat.{ℕ, zero, suc, ◌+◌, ◌/◌, ◌^◌, ◌≤◌, ◌<◌}
use mathlib.Core.Bool.{true, cond}
use mathlib.Core.List.{List, [], ◌∷◌, ◌++◌}
use mathlib.Core.Logic.{⊎_elim}
use mathlib.Core.Path.{◌≡◌, refl, ap, ◌∙◌}
use native.Mathlib.Nat.{not-suc-le-zero, pow-suc}
use native.Mathlib.Omega.{arith}
use borrow.Author.Tests.{lt-ltb, le-ltb, ltb-true, ltb-false}
use lib.Dec.{ltb}
use lib.ListN.{length, length-append}
use Rattle.ground.specs.Tests.{all}
use Rattle.ground.proofs.Bools.{true_or_false, and_both}
use Rattle.ground.proofs.Tests.{all_append}
use Rattle.lines.specs.Meaning.{is_digit, value}
use Rattle.lines.specs.Decimal.{last_digit, digits_within, decimal}
use Rattle.lines.proofs.DigitLaws.{digit_between, value_snoc}

-- any two bounds above the number do the same
within_same : (f g n : ℕ) → n < f → n < g → digits_within f n ≡ digits_within g n
unfolding digits_within
within_same zero g n h k = absurd (not-suc-le-zero h)
within_same (suc f) zero n h k = absurd (not-suc-le-zero k)
within_same (suc f) (suc g) n h k =
    ⊎_elim
    (λ t. rw t)
    (λ t. let large = ltb-false n 10 t in
    ap (λ (r : List ℕ). cond (ltb n 10) [] r ++ last_digit n ∷ []) (within_same f g (n / 10) (omega arith) (omega arith)))
    (true_or_false (ltb n 10))

-- a number below ten is one digit
pub decimal_one : (n : ℕ) → n < 10 → decimal n ≡ (48 + n) ∷ []
unfolding digits_within decimal
decimal_one n h = rw (lt-ltb n 10 h) (ap (λ (d : ℕ). d ∷ []) (omega arith))

-- a number from ten on has one digit more than its tenth part
pub decimal_more : (n : ℕ) → 10 ≤ n → decimal n ≡ decimal (n / 10) ++ last_digit n ∷ []
unfolding digits_within decimal
decimal_more n h =
    rw (le-ltb n 10 h) (ap (λ (r : List ℕ). r ++ last_digit n ∷ []) (within_same n (suc (n / 10)) (n / 10) (omega arith) (omega arith)))

-- by its digits: what holds of each number below ten, and of a number where it holds of its tenth part, holds of all
pub by_digits : (P : ℕ → Type 0) → ((n : ℕ) → n < 10 → P n) → ((n : ℕ) → 10 ≤ n → P (n / 10) → P n) → (n : ℕ) → P n
by_digits P one more n = go (suc n) n (omega arith)
  where
    go : (f m : ℕ) → m < f → P m
    go zero m h = absurd (not-suc-le-zero h)
    go (suc f) m h =
        ⊎_elim
        (λ t. one m (ltb-true m 10 t))
        (λ t. let large = ltb-false m 10 t in more m large (go f (m / 10) (omega arith)))
        (true_or_false (ltb m 10))

-- how many digits
pub length_one : (n : ℕ) → n < 10 → length (decimal n) ≡ 1
length_one n h = ap length (decimal_one n h)

pub length_more : (n : ℕ) → 10 ≤ n → length (decimal n) ≡ length (decimal (n / 10)) + 1
length_more n h = ap length (decimal_more n h) ∙ length-append (decimal (n / 10)) (last_digit n ∷ [])

-- there is a digit
pub decimal_some : (n : ℕ) → 0 < length (decimal n)
decimal_some =
    by_digits (λ (n : ℕ). 0 < length (decimal n)) (λ n h. omega (arith, length_one n h)) (λ n h b. omega (arith, length_more n h))

-- a number below a power of ten has no more digits than that
pub decimal_short : (k n : ℕ) → n < 10 ^ suc k → length (decimal n) ≤ suc k
decimal_short zero n h = omega (arith, length_one n h)
decimal_short (suc k) n h =
    ⊎_elim
    (λ t. omega (arith, length_one n (ltb-true n 10 t)))
    (λ t. let large = ltb-false n 10 t in
    omega (arith, length_more n large, decimal_short k (n / 10) (omega (arith, h, pow-suc 10 (suc k)))))
    (true_or_false (ltb n 10))

-- a 32-bit number has at most ten digits
pub word_short : (n : ℕ) → n < 2 ^ 32 → length (decimal n) ≤ 10
word_short n h = decimal_short 9 n (omega (arith, h))

-- its digits are worth the number
pub value_decimal : (n : ℕ) → value (decimal n) ≡ n
unfolding value
value_decimal =
    by_digits (λ (n : ℕ). value (decimal n) ≡ n)
    (λ n h. ap value (decimal_one n h) ∙ value_snoc [] (48 + n) ∙ omega arith)
    (λ n h b. ap value (decimal_more n h) ∙ value_snoc (decimal (n / 10)) (last_digit n) ∙ omega (arith, b))

-- its digits are digits
pub decimal_digital : (n : ℕ) → all is_digit (decimal n) ≡ true
unfolding all
decimal_digital =
    by_digits (λ (n : ℕ). all is_digit (decimal n) ≡ true)
    (λ n h. ap (all is_digit) (decimal_one n h) ∙ and_both (digit_between (48 + n) (omega arith) (omega arith)) refl)
    (λ n h b. ap (all is_digit) (decimal_more n h)
    ∙ all_append is_digit (decimal (n / 10)) (last_digit n ∷ [])
    ∙ and_both b (and_both (digit_between (last_digit n) (omega arith) (omega arith)) refl))
