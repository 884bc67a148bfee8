-- What the functions that read numbers answer: a number's worth as far as it counts, the position behind it, and a lot.
use Rattle.std.specs.Prelude.{ℕ, ◌+◌, ◌*◌, ◌-◌, ◌≤◌, min, max, ◌≡◌, List, length, Option, Some, None}
use Rattle.lines.specs.declared.Command.{Command}
use Rattle.lines.specs.declared.Command.TheVariants.{Bad}
use Rattle.lines.specs.Meaning.{digits, value, largest, keying}

-- what a key and information mean; where there are none, the line is bad
abbrev pub lot_means : Option (ℕ × ℕ) → (ℕ → ℕ → Command) → Command
lot_means None means = Bad
lot_means (Some lot) means = means lot.0 lot.1

-- an answer stands for these bytes, whatever a key and information mean
abbrev pub IsLot : List ℕ → Option (ℕ × ℕ) → Type 0
IsLot bs r = (means : ℕ → ℕ → Command) → lot_means r means ≡ keying means bs

-- two numbers are the same, or both above the largest
abbrev pub Alike : ℕ → ℕ → Type 0
Alike m n = min m (largest + 1) ≡ min n (largest + 1)

-- one digit more
pub record Capped (worth digit r : ℕ) : Type 0 where
  pub alike : Alike r (worth * 10 + (digit - 48))
  pub small : r ≤ max worth (10 * largest + 9)

-- the digits at the front of some bytes: what they are worth, and where they end
pub record Counted (bs : List ℕ) (worth end : ℕ) : Type 0 where
  pub ends : end ≡ length (digits bs)
  pub alike : Alike worth (value (digits bs))
  pub within : end ≤ length bs
