-- Bytes that are gathered, and numbers written out.
use Rattle.std.specs.Prelude.{ℕ, ◌+◌, ◌*◌, ◌^◌, ◌%◌, cond, List, [], ◌∷◌, ◌++◌, ltb, length}
use Rattle.lines.specs.Decimal.{decimal}

-- one byte more behind those that are gathered; if there is no room, they have gone out first
abbrev pub one_more : List ℕ → ℕ → List ℕ
one_more held b = cond (ltb (length held) 65536) held [] ++ b ∷ []

-- what is gathered after some bytes more
unfoldable pub gather : List ℕ → List ℕ → List ℕ
gather held [] = held
gather held (b ∷ bs) = gather (one_more held b) bs

-- a space and a number, for each of some words
unfoldable pub spelled : List ℕ → List ℕ
spelled [] = []
spelled (n ∷ ns) = 32 ∷ decimal n ++ spelled ns

-- a sum with one word more: it counts as 33 of those behind it, in the 32 bits of a word
abbrev pub summed : ℕ → ℕ → ℕ
summed sum word = (sum * 33 + word) % 2 ^ 32
