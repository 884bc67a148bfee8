-- What a line means: "The little program" of document 01, sentence by sentence. A line is its bytes without the line feed.
use Rattle.std.specs.Prelude.{ℕ, ◌-◌, ◌+◌, ◌*◌, ◌^◌, Bool, cond, ◌&&◌, List, [], ◌∷◌, leb, ltb, length, drop}
use Prim.Native.String.{String}
use Rattle.lines.specs.declared.Command.{Command}
use Rattle.lines.specs.declared.Command.TheVariants.{Begin, Step, Bad}
use Rattle.slots.specs.declared.Op.TheVariants.{Search, Insert, Delete, Next, Regrade}
use Rattle.slots.specs.declared.Way.{Way}
use Rattle.slots.specs.declared.Way.TheVariants.{First, Second, Third}
use Rattle.lines.specs.Text.{bytes, starts_with}

-- ---- "Numbers are decimal"

-- the digits are the bytes of `0` to `9`
abbrev pub is_digit : ℕ → Bool
is_digit b = leb 48 b && leb b 57

-- the digits at the front of some bytes, as many as there are
unfoldable pub digits : List ℕ → List ℕ
digits [] = []
digits (b ∷ bs) = cond (is_digit b) (b ∷ digits bs) []

-- what digits are worth: each counts ten times what it would count one place further on
unfoldable pub value : List ℕ → ℕ
value [] = 0
value (d ∷ ds) = (d - 48) * 10 ^ length ds + value ds

-- "or a number above 4,294,967,295, gives BadLine"
abbrev pub largest : ℕ
largest = 4294967295

-- the front of some bytes: a number with the bytes behind it, or no number
pub data Front : Type 0 where
  no_number : Front
  number : ℕ → List ℕ → Front

-- a number has at least one digit, and "leading zeros are allowed"
abbrev pub counted : List ℕ → List ℕ → Front
counted ds bs = cond (ltb 0 (length ds) && leb (value ds) largest) (number (value ds) (drop (length ds) bs)) no_number

unfoldable pub front : List ℕ → Front
front bs = counted (digits bs) bs

-- a number with nothing behind it
abbrev pub alone : Front → Front
alone no_number = no_number
alone (number n []) = number n []
alone (number n (b ∷ bs)) = no_number

-- ---- the nine forms of a line: "Another line .. gives BadLine"

-- what a number means, with the bytes behind it; where there is none, the line is bad
abbrev pub numbered : Front → (ℕ → List ℕ → Command) → Command
numbered no_number means = Bad
numbered (number n rest) means = means n rest

-- what the bytes behind a word mean; where the word is missing, another form is tried
abbrev pub after : String → List ℕ → (List ℕ → Command) → Command → Command
after word bs means other = cond (starts_with (bytes word) bs) (means (drop (length (bytes word)) bs)) other

-- `t SLOT`
unfoldable pub stepping : List ℕ → Command
stepping bs = numbered (alone (front bs)) (λ slot rest. Step slot)

-- `b SLOT s KEY`
unfoldable pub searching : ℕ → List ℕ → Command
searching slot bs = numbered (alone (front bs)) (λ key rest. Begin slot (Search key))

-- `b SLOT d KEY`, `b SLOT d2 KEY`, `b SLOT d3 KEY`
unfoldable pub deleting : Way → ℕ → List ℕ → Command
deleting way slot bs = numbered (alone (front bs)) (λ key rest. Begin slot (Delete key way))

-- `b SLOT n KEY`
unfoldable pub asking_next : ℕ → List ℕ → Command
asking_next slot bs = numbered (alone (front bs)) (λ key rest. Begin slot (Next key))

-- `KEY INFO`, "one space between": what the two mean
unfoldable pub informing : (ℕ → Command) → List ℕ → Command
informing means bs = numbered (alone (front bs)) (λ information rest. means information)

unfoldable pub keying : (ℕ → ℕ → Command) → List ℕ → Command
keying means bs = numbered (front bs) (λ key rest. after " " rest (informing (means key)) Bad)

-- `b SLOT i KEY INFO`, `b SLOT i2 KEY INFO`, `b SLOT i3 KEY INFO`
unfoldable pub inserting : Way → ℕ → List ℕ → Command
inserting way slot = keying (λ key information. Begin slot (Insert key information way))

-- `b SLOT g KEY INFO`, `b SLOT g2 KEY INFO`, `b SLOT g3 KEY INFO`
unfoldable pub asking_regrade : Way → ℕ → List ℕ → Command
asking_regrade way slot = keying (λ key information. Begin slot (Regrade key information way))

-- 02 (vi): "chosen at begin". A 3 behind the letter of an update chooses the third way: `b SLOT i3 KEY INFO`, `b SLOT d3 KEY`, `b SLOT g3 KEY INFO`.
unfoldable pub asking_third : ℕ → List ℕ → Command
asking_third slot bs =
    after " i3 " bs (inserting Third slot)
    (after " d3 " bs (deleting Third slot) (after " g3 " bs (asking_regrade Third slot) Bad))

-- 02 (v): "chosen per operation at begin". A 2 behind the letter of an update chooses the second way: `b SLOT i2 KEY INFO`, `b SLOT d2 KEY`,
-- `b SLOT g2 KEY INFO`. Who only reads has no way, and so no such letter.
unfoldable pub asking_second : ℕ → List ℕ → Command
asking_second slot bs =
    after " i2 " bs (inserting Second slot)
    (after " d2 " bs (deleting Second slot) (after " g2 " bs (asking_regrade Second slot) (asking_third slot bs)))

-- `b SLOT s KEY`, `b SLOT i KEY INFO`, `b SLOT d KEY`, `b SLOT n KEY`, `b SLOT g KEY INFO`, or an update by the second way
unfoldable pub asking : ℕ → List ℕ → Command
asking slot bs =
    after " s " bs (searching slot)
    (after " i " bs (inserting First slot)
    (after " d " bs (deleting First slot)
    (after " n " bs (asking_next slot) (after " g " bs (asking_regrade First slot) (asking_second slot bs)))))

unfoldable pub beginning : List ℕ → Command
beginning bs = numbered (front bs) asking

-- the meaning of a line
unfoldable pub meaning : List ℕ → Command
meaning line = after "b " line beginning (after "t " line stepping Bad)
