-- A number in decimal, without leading zeros, as the program writes it. That it is read back is in `proofs/Decimals.antt`.
use Rattle.std.specs.Prelude.{ℕ, zero, suc, ◌+◌, ◌/◌, ◌%◌, cond, List, [], ◌∷◌, ◌++◌, ltb}

-- the last digit of a number
abbrev pub last_digit : ℕ → ℕ
last_digit n = 48 + n % 10

-- the digits of a number: those of its tenth part, if it is 10 or more, and its last. `most` is how many there may be:
-- n + 1 are always enough for n.
unfoldable pub digits_within : ℕ → ℕ → List ℕ
digits_within zero n = []
digits_within (suc most) n =
    let front = digits_within most (n / 10) in
    cond (ltb n 10) [] front ++ last_digit n ∷ []

-- the number in decimal; 0 is `0`
unfoldable pub decimal : ℕ → List ℕ
decimal n = digits_within (suc n) n
