-- What the calls below say, as the exported calls tell it.
use Prim.Native.Nat.{ℕ}
use mathlib.Core.List.{List, [], ◌∷◌}
use mathlib.Core.Path.{◌≡◌, refl, sym, ap, ◌∙◌}
use lib.ListN.{get_or}
use Rattle.slots.specs.declared.Op.{Op}
use Rattle.slots.specs.declared.Answer.{Answer}
use Rattle.std.specs.Prelude.{Option, Some, None}
use Rattle.slots.specs.Heard.{heard}
use Rattle.slots.specs.Operations.{asked_by}
use Rattle.slots.specs.Begin.{begun}
use Rattle.slots.specs.Report.{reported}
use Rattle.lent.specs.Words.{state_of}
use Rattle.index.specs.Step.{stepped}
use Rattle.index.specs.Make.{made}
use Rattle.index.specs.Open.{opened}
use Rattle.index.specs.Statements.{MakeSays, OpenSays, BeginSays, StepSays, ReportSays}
use Rattle.embed.specs.Told.{told, bad_kind}
use Rattle.embed.proofs.Refusals.{make_stays, open_stays, step_stays, begin_stays}
use Rattle.embed.specs.Statements.{begin_told, begin_leaves, begin_next, MakeTells, OpenTells, BeginTells, StepTells, ReportTells}

-- answers that are heard alike are told alike
pub told_heard : (a b : Answer) → heard a ≡ heard b → told a ≡ told b
told_heard a b e = ap (λ (h : List ℕ). get_or h 0 0 ∷ get_or h 1 0 ∷ get_or h 2 0 ∷ get_or h 3 0 ∷ []) e

pub make_tells : (k n : ℕ) (ws : List ℕ) (r : Answer) (cells' after heard' : List ℕ) → MakeSays k n ws r cells' after → heard' ≡ told r
    → MakeTells k n ws cells' after heard'
make_tells k n ws r cells' after heard' says e =
    let t : heard' ≡ told (made k n ws).answer = e ∙ told_heard r (made k n ws).answer says.answer in
    record {
      answer = t;
      state = says.state;
      all = says.all;
      words = says.words;
      kept = λ h. let both = make_stays k n ws heard' t h in (says.all ∙ both.0, says.words ∙ both.1);
    }

pub open_tells : (k n : ℕ) (ws : List ℕ) (r : Answer) (cells' heard' : List ℕ) → OpenSays k n ws r cells' → heard' ≡ told r → OpenTells k n ws cells' heard'
open_tells k n ws r cells' heard' says e =
    let t : heard' ≡ told (opened k n ws).answer = e ∙ told_heard r (opened k n ws).answer says.answer in
    record {
      answer = t;
      state = says.state;
      all = says.all;
      words = says.words;
      kept = λ h. says.all ∙ open_stays k n ws heard' t h;
    }

pub step_tells : (cells ws : List ℕ) (s : ℕ) (r : Answer) (cells' after heard' : List ℕ) → StepSays cells ws s r cells' after → heard' ≡ told r
    → StepTells cells ws s cells' after heard'
step_tells cells ws s r cells' after heard' says e =
    let t : heard' ≡ told (stepped (state_of cells) ws s).answer = e ∙ told_heard r (stepped (state_of cells) ws s).answer says.answer in
    record {
      answer = t;
      state = says.state;
      all = says.all;
      words = says.words;
      kept = λ h. let both = step_stays cells ws s heard' t h in (says.all ∙ both.0, says.words ∙ both.1);
    }

pub report_tells : (cells : List ℕ) (p : ℕ) (r : Answer) (heard' : List ℕ) → ReportSays cells p r → heard' ≡ told r → ReportTells cells p heard'
report_tells cells p r heard' says e = record { answer = e ∙ told_heard r (reported (state_of cells) p) says.answer }

-- a beginning, by what was asked
begins_asked : (cells : List ℕ) (s kind key information : ℕ) (asked : Option Op) (cells' heard' : List ℕ) → asked_by kind key information ≡ asked
    → heard' ≡ begin_told cells s asked → state_of cells' ≡ begin_next cells s asked → cells' ≡ begin_leaves cells s asked → BeginTells cells s kind key information cells' heard'
begins_asked cells s kind key information asked cells' heard' was t next all =
    record {
      answer = t ∙ sym (ap (begin_told cells s) was);
      state = next ∙ sym (ap (begin_next cells s) was);
      all = all ∙ sym (ap (begin_leaves cells s) was);
      kept = λ h. all ∙ begin_stays cells s asked heard' t h;
    }

pub begin_tells : (cells : List ℕ) (s kind key information : ℕ) (op : Op) (r : Answer) (cells' heard' : List ℕ)
    → asked_by kind key information ≡ Some op → BeginSays cells s op r cells' → heard' ≡ told r
    → BeginTells cells s kind key information cells' heard'
begin_tells cells s kind key information op r cells' heard' known says e =
    begins_asked cells s kind key information (Some op) cells' heard' known (e ∙ told_heard r (begun (state_of cells) s op).answer says.answer) says.state says.all

pub begin_unknown : (cells : List ℕ) (s kind key information : ℕ) (heard' : List ℕ)
    → asked_by kind key information ≡ None → heard' ≡ bad_kind → BeginTells cells s kind key information cells heard'
begin_unknown cells s kind key information heard' unknown e = begins_asked cells s kind key information None cells heard' unknown e refl refl
