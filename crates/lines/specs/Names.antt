-- How an answer is written. "Each line is answered by one: the answer's or refusal's name, and for Found and Deleted a
-- space and the information." 02 (iv) of Regraded and AlreadyThere: "The program writes either after a space." Next has its key in
-- front of the information. The line feed is written with it.
use Rattle.std.specs.Prelude.{ℕ, List, [], ◌∷◌, ◌++◌}
use Prim.Native.String.{String}
use Rattle.slots.specs.declared.Answer.{Answer}
use Rattle.slots.specs.Heard.{said}
use Rattle.lines.specs.Text.{bytes}
use Rattle.lines.specs.Decimal.{decimal}

-- a name on a line of its own
abbrev pub name_line : String → List ℕ
name_line name = bytes name ++ bytes "\n"

-- a name, a space and the information
abbrev pub informed : String → ℕ → List ℕ
informed name information = bytes name ++ bytes " " ++ decimal information ++ bytes "\n"

-- a name, a space, the key, a space and the information
abbrev pub lot_line : String → ℕ → ℕ → List ℕ
lot_line name key information = bytes name ++ bytes " " ++ decimal key ++ bytes " " ++ decimal information ++ bytes "\n"

-- A name and the values behind it. The program makes no lock report, so that it never writes `Reported`: of an answer with three
-- values the name alone stands here.
abbrev pub line_of : String → List ℕ → List ℕ
line_of name [] = name_line name
line_of name (information ∷ []) = informed name information
line_of name (key ∷ information ∷ []) = lot_line name key information
line_of name (kind ∷ holders ∷ lowest ∷ rest) = name_line name

abbrev pub answer_line : Answer → List ℕ
answer_line a = line_of (said a).name (said a).values

-- "Another line, an unended last one, or a number above 4,294,967,295, gives BadLine"
abbrev pub bad_line : List ℕ
bad_line = name_line "BadLine"

-- "at most 65,536 bytes (more: one line TooLong)"
abbrev pub too_long : List ℕ
too_long = name_line "TooLong"
