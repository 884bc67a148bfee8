-- No second outcome satisfies the statement of an exported call: the four numbers, every word of the state and every word
-- of the pool are determined.
use Prim.Native.Nat.{ℕ}
use mathlib.Core.List.{List}
use mathlib.Core.Path.{◌≡◌, sym, ◌∙◌}
use Rattle.embed.specs.Statements.{MakeTells, OpenTells, BeginTells, StepTells, ReportTells}

pub make_told_once : (k n : ℕ) (ws cells' cells'' after after' heard' heard'' : List ℕ) → MakeTells k n ws cells' after heard' → MakeTells k n ws cells'' after' heard''
    → (heard' ≡ heard'') × (cells' ≡ cells'') × (after ≡ after')
make_told_once k n ws cells' cells'' after after' heard' heard'' h h' = (h.answer ∙ sym h'.answer, h.all ∙ sym h'.all, h.words ∙ sym h'.words)

pub open_told_once : (k n : ℕ) (ws cells' cells'' heard' heard'' : List ℕ) → OpenTells k n ws cells' heard' → OpenTells k n ws cells'' heard''
    → (heard' ≡ heard'') × (cells' ≡ cells'')
open_told_once k n ws cells' cells'' heard' heard'' h h' = (h.answer ∙ sym h'.answer, h.all ∙ sym h'.all)

pub begin_told_once : (cells : List ℕ) (s kind key information : ℕ) (cells' cells'' heard' heard'' : List ℕ) → BeginTells cells s kind key information cells' heard'
    → BeginTells cells s kind key information cells'' heard'' → (heard' ≡ heard'') × (cells' ≡ cells'')
begin_told_once cells s kind key information cells' cells'' heard' heard'' h h' = (h.answer ∙ sym h'.answer, h.all ∙ sym h'.all)

pub step_told_once : (cells ws : List ℕ) (s : ℕ) (cells' cells'' after after' heard' heard'' : List ℕ) → StepTells cells ws s cells' after heard'
    → StepTells cells ws s cells'' after' heard'' → (heard' ≡ heard'') × (cells' ≡ cells'') × (after ≡ after')
step_told_once cells ws s cells' cells'' after after' heard' heard'' h h' = (h.answer ∙ sym h'.answer, h.all ∙ sym h'.all, h.words ∙ sym h'.words)

pub report_told_once : (cells : List ℕ) (p : ℕ) (heard' heard'' : List ℕ) → ReportTells cells p heard' → ReportTells cells p heard'' → heard' ≡ heard''
report_told_once cells p heard' heard'' h h' = h.answer ∙ sym h'.answer
