-- The scan stands at page p: every page before it is sound by itself and has its mark.
use Prim.Native.Nat.{ℕ}
use mathlib.Core.Bool.{Bool, not}
use mathlib.Core.List.{List}
use mathlib.Core.Path.{sym, ap, ◌∙◌, subst}
use native.Mathlib.Numerals.{add-one}
use native.Mathlib.Omega.{arith}
use lib.Dec.{eqb}
use lib.ListN.{set}
use Rattle.ground.specs.Tests.{first_below}
use Rattle.ground.proofs.Bools.{not_of_true}
use Rattle.ground.proofs.Tests.{first_below_goes_on}
use Rattle.opening.specs.Opening.{sound_alone}
use Rattle.opening.proofs.CheckLaws.{scan_stops}
use Rattle.opening.proofs.ScanLaws.{Passed, passed_more}
use Rattle.opening.proofs.marking.lowest_unsound.Goals as goal

-- a page that is not sound by itself
abbrev bad : ℕ → ℕ → List ℕ → ℕ → Bool
bad k n ws p = not (sound_alone k n ws p)

pub loop-p-preserved : goal.loop-p-preserved
loop-p-preserved c =
    let here = c.loop-p in
    let p = here.p in
    let test = bad c.args.shape.k c.args.shape.n c.args.words.now in
    let mark = eqb c.level_of.result 0 in (
      ap (λ m. first_below m test) (add-one p)
          ∙ first_below_goes_on test p here.invariant.0 (not_of_true (sym c.sound_alone.ensures ∙ c.if-not-sound_alone.false))
          ∙ sym (add-one p),
      subst (Passed c.args.shape.k c.args.words.now (set here.marks p mark)) (sym (add-one p))
          (passed_more c.args.shape.k c.args.words.now here.marks p mark (omega arith) (ap (λ (l : ℕ). eqb l 0) c.level_of.ensures) here.invariant.1),
    )

pub returns-then-not-sound_alone-clause-value : goal.returns-then-not-sound_alone-clause-value
returns-then-not-sound_alone-clause-value c =
    scan_stops c.args.shape.k c.args.shape.n c.args.words.now c.loop-p.p c.loop-p-test.true c.loop-p.invariant.0 (sym c.sound_alone.ensures ∙ c.if-not-sound_alone.true)
