-- The marks passed are counted.
use Rattle.ground.proofs.Tests.{count_below_none, count_below_passes, count_below_skips}
use Rattle.ground.specs.Limits.{slot_count}
use Rattle.ground.specs.Tests.{count_below}
use Rattle.lent.specs.Layout.{row_length}
use native.Mathlib.Numerals.{add-one}
use native.Mathlib.Omega.{arith}
use mathlib.Core.Bool.{Bool}
use mathlib.Core.Path.{◌≡◌, sym, ap, ◌∙◌}
use Prim.Native.Nat.{ℕ, suc, ◌+◌}
use Rattle.soundness.proofs.checking.marked.Invariants.{passed}
use Rattle.soundness.proofs.checking.marked.Goals.{then-marks-s, else-marks-s}
use Rattle.soundness.proofs.checking.marked.Goals as goal

pub loop-s-init : goal.loop-s-init
loop-s-init c = (omega arith, omega arith, sym (count_below_none (passed c.args.marks)))

pub overflow_add-count : goal.overflow_add-count
overflow_add-count c = omega arith

pub loop-s-preserved : goal.loop-s-preserved
loop-s-preserved c =
    let test : ℕ → Bool = passed c.args.marks in
    let l = c.loop-s in
    let more : count_below (l.s + 1) test ≡ count_below (suc l.s) test = ap (λ (n : ℕ). count_below n test) (add-one l.s) in (
      omega arith,
      elim c.if-marks-s.branch [ then-marks-s w ↦ omega arith | else-marks-s w ↦ omega arith ],
      elim c.if-marks-s.branch [
        | then-marks-s w ↦ w.count-is ∙ omega (arith, l.invariant.2, count_below_passes test l.s w.if-marks-s.true, more)
        | else-marks-s w ↦ w.count-is ∙ l.invariant.2 ∙ sym (more ∙ count_below_skips test l.s w.if-marks-s.false)
      ],
    )

pub returns : goal.returns
unfolding slot_count
returns c =
    let end : c.loop-s.s ≡ row_length = omega arith in
    c.loop-s.invariant.2 ∙ ap (λ (n : ℕ). count_below n (passed c.args.marks)) end
