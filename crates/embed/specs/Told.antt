-- An answer as four numbers. "a definition gives this paper's number and values for each of its cases" (document 01).
use Rattle.std.specs.Prelude.{ℕ, ◌-◌, Bool, List, [], ◌∷◌, leb, get_or}
use Rattle.slots.specs.declared.Answer.{Answer}
use Rattle.slots.specs.Heard.{first_answer, number_of, value_of}

-- the number, and room for three values
abbrev pub told : Answer → List ℕ
told answer = number_of answer ∷ value_of answer 0 ∷ value_of answer 1 ∷ value_of answer 2 ∷ []

-- A kind that does not exist: of the library alone, and the last number below the answers.
abbrev pub bad_kind : List ℕ
bad_kind = (first_answer - 1) ∷ 0 ∷ 0 ∷ 0 ∷ []

-- The number that is told is one after which all is as given: a refusal's (01's table, and the one above), or Waiting.
-- (A refused making leaves the pool as given and empties the state.)
abbrev pub leaves_all : List ℕ → Bool
leaves_all heard' = leb (get_or heard' 0 0) first_answer
