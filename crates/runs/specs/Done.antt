-- "list the ended operations, save those answered "no room", in the order of their answers": read off a run's own calls and
-- answers. And the plain list worked through them.
use Rattle.std.specs.Prelude.{ℕ, cond, List, [], ◌∷◌, map, eqb}
use Rattle.page.specs.Words.{Entry}
use Rattle.slots.specs.declared.Op.{Op}
use Rattle.slots.specs.declared.Op.TheVariants.{Search}
use Rattle.slots.specs.declared.Answer.{Answer}
use Rattle.slots.specs.declared.Answer.TheVariants.{Begun}
use Rattle.slots.specs.Heard.{is_one_of, counted_answers}
use Rattle.runs.specs.Calls.{Call, begin, step, report}
use Rattle.runs.specs.Plain.{plain}

-- An operation that has ended: in which slot, which one, and its answer.
pub record Done : Type 0 where
  pub slot : ℕ
  pub op : Op
  pub answer : Answer

abbrev pub ended : ℕ → Op → Answer → Done
ended s op a = record { slot = s; op = op; answer = a }

-- what was asked last in each slot, and nothing yet
abbrev pub nobody : ℕ → Op
nobody s = Search 0

abbrev pub asks : ℕ → Op → (ℕ → Op) → ℕ → Op
asks s op asked u = cond (eqb u s) op (asked u)

-- A begin answered Begun asks its operation in its slot; a step answered by one of `counted_answers` ends what was asked there.
unfoldable pub done : List Call → List Answer → (ℕ → Op) → List Done
done [] heard asked = []
done (c ∷ cs) [] asked = []
done (begin s op ∷ cs) (a ∷ heard) asked = done cs heard (cond (is_one_of a (Begun ∷ [])) (asks s op asked) asked)
done (step s ∷ cs) (a ∷ heard) asked = cond (is_one_of a counted_answers) (ended s (asked s) a ∷ done cs heard asked) (done cs heard asked)
done (report p ∷ cs) (a ∷ heard) asked = done cs heard asked

-- "A plain sorted list, worked through one operation after another": its answers, and its entries at the end
unfoldable pub plain_answers : List Op → List Entry → List Answer
plain_answers [] es = []
plain_answers (op ∷ ops) es = (plain op es).answer ∷ plain_answers ops (plain op es).entries

unfoldable pub plain_entries : List Op → List Entry → List Entry
plain_entries [] es = es
plain_entries (op ∷ ops) es = plain_entries ops (plain op es).entries

abbrev pub ops_of : List Done → List Op
ops_of ds = map (λ (d : Done). d.op) ds

abbrev pub answers_in : List Done → List Answer
answers_in ds = map (λ (d : Done). d.answer) ds
