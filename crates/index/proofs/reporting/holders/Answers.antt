-- The mask has a bit for each of the slots passed that holds the page.
use Rattle.soundness.proofs.MaskLaws.{mask_none, mask_sets, mask_keeps}
use Rattle.lent.proofs.StateLaws.{slot_read}
use Rattle.lent.specs.Layout.{row_length}
use Rattle.lent.specs.Words.{as_read}
use Rattle.slots.specs.Report.{mask_below}
use Rattle.slots.specs.Parts.{held, holds_at}
use Rattle.slots.specs.declared.Slot.{Slot}
use Rattle.ground.specs.Tests.{member}
use Rattle.ground.specs.Limits.{slot_count}
use lib.Bits.{bit_or}
use native.Mathlib.Omega.{arith}
use mathlib.Core.Path.{◌≡◌, sym, ap, ◌∙◌}
use mathlib.Core.Bool.{Bool}
use Prim.Native.Nat.{ℕ, ◌*◌, ◌%◌, ◌^◌}
use Rattle.index.proofs.reporting.holders.Goals.{then-holds, else-holds}
use Rattle.index.proofs.reporting.holders.Goals as goal

pub loop-s-init : goal.loop-s-init
loop-s-init c = (omega arith, sym (mask_none (λ (s : ℕ). holds_at (as_read c.args.cells.now) s c.args.p)))

pub loop-s-preserved : goal.loop-s-preserved
loop-s-preserved c =
    let st = as_read c.args.cells.now in
    let p = c.args.p in
    let s = c.loop-s.s in
    let inv = c.loop-s.invariant in
    let said = c.holds.ensures ∙ ap (λ (x : Slot). member p (held x)) (sym (slot_read c.args.cells.now s (omega arith))) in
    let test : ℕ → Bool = λ (t : ℕ). holds_at st t p in (
      omega arith,
      elim c.if-holds.branch [
        | then-holds w ↦
            w.mask-is
            ∙ ap (λ (m : ℕ). bit_or m (1 * 2 ^ s % 2 ^ 16)) inv.1
            ∙ mask_sets test 16 s (omega arith) (sym said ∙ w.if-holds.true)
        | else-holds w ↦ w.mask-is ∙ inv.1 ∙ mask_keeps test s (sym said ∙ w.if-holds.false)
      ],
    )

pub returns : goal.returns
unfolding slot_count
returns c =
    let end : c.loop-s.s ≡ row_length = omega arith in
    c.loop-s.invariant.1 ∙ ap (λ (n : ℕ). mask_below n (λ (s : ℕ). holds_at (as_read c.args.cells.now) s c.args.p)) end
