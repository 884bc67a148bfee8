-- No second outcome satisfies the statement of a public call.
use Prim.Native.Nat.{ℕ}
use mathlib.Core.Path.{◌≡◌, sym, ◌∙◌}
use mathlib.Core.List.{List}
use Rattle.slots.specs.declared.Op.{Op}
use Rattle.slots.specs.declared.Answer.{Answer}
use Rattle.slots.proofs.Unique.{heard_once}
use Rattle.index.specs.Statements.{MakeSays, OpenSays, BeginSays, StepSays, ReportSays}

pub make_once : (k n : ℕ) (ws : List ℕ) (r r' : Answer) (cells cells' after after' : List ℕ) → MakeSays k n ws r cells after → MakeSays k n ws r' cells' after'
    → (r ≡ r') × (cells ≡ cells') × (after ≡ after')
make_once k n ws r r' cells cells' after after' h h' =
    (heard_once r r' (h.answer ∙ sym h'.answer), h.all ∙ sym h'.all, h.words ∙ sym h'.words)

pub open_once : (k n : ℕ) (ws : List ℕ) (r r' : Answer) (cells cells' : List ℕ) → OpenSays k n ws r cells → OpenSays k n ws r' cells'
    → (r ≡ r') × (cells ≡ cells')
open_once k n ws r r' cells cells' h h' = (heard_once r r' (h.answer ∙ sym h'.answer), h.all ∙ sym h'.all)

pub begin_once : (state : List ℕ) (s : ℕ) (op : Op) (r r' : Answer) (cells cells' : List ℕ) → BeginSays state s op r cells → BeginSays state s op r' cells'
    → (r ≡ r') × (cells ≡ cells')
begin_once state s op r r' cells cells' h h' = (heard_once r r' (h.answer ∙ sym h'.answer), h.all ∙ sym h'.all)

pub step_once : (state ws : List ℕ) (s : ℕ) (r r' : Answer) (cells cells' after after' : List ℕ) → StepSays state ws s r cells after → StepSays state ws s r' cells' after'
    → (r ≡ r') × (cells ≡ cells') × (after ≡ after')
step_once state ws s r r' cells cells' after after' h h' =
    (heard_once r r' (h.answer ∙ sym h'.answer), h.all ∙ sym h'.all, h.words ∙ sym h'.words)

pub report_once : (state : List ℕ) (p : ℕ) (r r' : Answer) → ReportSays state p r → ReportSays state p r' → r ≡ r'
report_once state p r r' h h' = heard_once r r' (h.answer ∙ sym h'.answer)
