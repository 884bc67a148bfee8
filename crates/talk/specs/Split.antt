-- The lines of an input: "each line ends in a line feed".
use Rattle.std.specs.Prelude.{ℕ, cond, List, [], ◌∷◌, eqb}

-- a line without its line feed, or what stands behind the last line feed
pub data Line : Type 0 where
  ended : List ℕ → Line
  unended : List ℕ → Line

-- one byte more at the front of the first line
abbrev pub longer : ℕ → List Line → List Line
longer b [] = unended (b ∷ []) ∷ []
longer b (ended line ∷ rest) = ended (b ∷ line) ∷ rest
longer b (unended line ∷ rest) = unended (b ∷ line) ∷ rest

-- the lines from first to last; no bytes are no line
unfoldable pub lines_of : List ℕ → List Line
lines_of [] = []
lines_of (b ∷ bs) = cond (eqb b 10) (ended [] ∷ lines_of bs) (longer b (lines_of bs))
