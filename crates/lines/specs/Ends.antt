-- Where a line ends: "each line ends in a line feed".
use Rattle.std.specs.Prelude.{ℕ, ◌+◌, cond, List, [], ◌∷◌, eqb, length, drop}

-- the bytes before the first line feed, or all where there is none
unfoldable pub first_line : List ℕ → List ℕ
first_line [] = []
first_line (b ∷ bs) = cond (eqb b 10) [] (b ∷ first_line bs)

-- the position of the first line feed at or behind `from`, or the length where there is none
abbrev pub line_end : List ℕ → ℕ → ℕ
line_end input from = from + length (first_line (drop from input))
