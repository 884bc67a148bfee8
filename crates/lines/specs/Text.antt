-- The bytes of a text, and texts in a row of bytes. Our texts are ASCII, where the byte of a character is its code.
use Rattle.std.specs.Prelude.{ℕ, ◌+◌, Bool, true, false, ◌&&◌, List, [], ◌∷◌, ◌++◌, eqb, length, take, drop}
use Prim.Native.Char.{code}
use Prim.Native.String.{String, [] as none, ◌∷◌ as ◌then◌}

-- the bytes of a text
abbrev pub bytes : String → List ℕ
bytes none = []
bytes (c then s) = code c ∷ bytes s

-- the bytes begin with a word
unfoldable pub starts_with : List ℕ → List ℕ → Bool
starts_with [] bs = true
starts_with (w ∷ ws) [] = false
starts_with (w ∷ ws) (b ∷ bs) = eqb b w && starts_with ws bs

-- a row of bytes with a word laid over it from a position on; before and behind the word it is as it was
abbrev pub laid : List ℕ → ℕ → List ℕ → List ℕ
laid out at word = take at out ++ word ++ drop (at + length word) out
