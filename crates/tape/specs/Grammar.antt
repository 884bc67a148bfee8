-- How a line goes on, byte by byte: a letter, then numbers, each behind one space, then a line feed.
use Rattle.std.specs.Prelude.{ℕ, ◌+◌, ◌*◌, ◌-◌, Bool, true, false, cond, ◌&&◌, ◌||◌, List, [], ◌∷◌, ◌++◌, eqb, leb, ltb, length}
use Rattle.lines.specs.Meaning.{is_digit, largest}
use Rattle.tape.specs.declared.reading.Stand.{Stand}
use Rattle.tape.specs.declared.reading.Stand.TheVariants.{Start, Letter, Space, Digits, Spoiled, Good, Bad}

-- the letters are the bytes of `a` to `z`
abbrev pub is_letter : ℕ → Bool
is_letter b = leb 97 b && leb b 122

-- no line is begun: there was none, or the one before is ended
abbrev pub is_over : Stand → Bool
is_over Start = true
is_over Good = true
is_over Bad = true
is_over Letter = false
is_over Space = false
is_over Digits = false
is_over Spoiled = false

-- digits of this worth are a number, and there is room behind so many others
abbrev pub fits : ℕ → ℕ → Bool
fits worth count = leb worth largest && ltb count 17

-- what no line has: a line feed ends it all the same
abbrev pub amiss : ℕ → Stand
amiss b = cond (eqb b 10) Bad Spoiled

-- the first byte of a line
abbrev pub first : ℕ → Stand
first b = cond (is_letter b) Letter (amiss b)

-- how far the line is read behind a byte, where `good` says that the number whose digits are read fits
abbrev pub stand_behind : Stand → Bool → ℕ → Stand
stand_behind Start good b = first b
stand_behind Good good b = first b
stand_behind Bad good b = first b
stand_behind Letter good b = cond (eqb b 32) Space (cond (eqb b 10) Good Spoiled)
stand_behind Space good b = cond (is_digit b) Digits (amiss b)
stand_behind Digits good b =
    cond (is_digit b) Digits (cond (eqb b 32) (cond good Space Spoiled) (cond (eqb b 10) (cond good Good Bad) Spoiled))
stand_behind Spoiled good b = amiss b

-- a line begins with this byte
abbrev pub begins : Stand → ℕ → Bool
begins stand b = is_over stand && is_letter b

-- a number ends at this byte
abbrev pub number_ends : Stand → ℕ → Bool
number_ends Digits b = eqb b 32 || eqb b 10
number_ends Start b = false
number_ends Letter b = false
number_ends Space b = false
number_ends Spoiled b = false
number_ends Good b = false
number_ends Bad b = false

-- a digit is read
abbrev pub digit_read : Stand → ℕ → Bool
digit_read Space b = is_digit b
digit_read Digits b = is_digit b
digit_read Start b = false
digit_read Letter b = false
digit_read Spoiled b = false
digit_read Good b = false
digit_read Bad b = false

-- the letter is the one that the line begins with
abbrev pub letter_behind : Stand → ℕ → ℕ → ℕ
letter_behind stand letter b = cond (begins stand b) b letter

-- a line begins with no numbers, and one that ends and fits goes behind the others
abbrev pub numbers_behind : Stand → ℕ → List ℕ → ℕ → List ℕ
numbers_behind stand worth ns b =
    cond (begins stand b) [] (cond (number_ends stand b && fits worth (length ns)) (ns ++ worth ∷ []) ns)

-- what the digits of the next number are worth: none yet where a line begins or a number has ended
abbrev pub worth_behind : Stand → ℕ → ℕ → ℕ → ℕ
worth_behind stand worth count b =
    cond (begins stand b || (number_ends stand b && fits worth count)) 0 (cond (digit_read stand b) (worth * 10 + (b - 48)) worth)
