-- The mask has a bit for each of the slots passed that holds under ξ or α.
use Rattle.soundness.proofs.MaskLaws.{mask_none, mask_sets, mask_keeps}
use Rattle.soundness.specs.Checking.{excludes_kind, excludes}
use lib.Bits.{bit_or}
use native.Mathlib.Omega.{arith}
use mathlib.Core.Path.{sym, ap, ◌∙◌}
use Prim.Native.Nat.{ℕ, ◌*◌, ◌%◌, ◌^◌}
use Rattle.soundness.proofs.checking.excluding.Goals.{then-is_exclusive, else-is_exclusive}
use Rattle.soundness.proofs.checking.excluding.Goals as goal

pub loop-s-init : goal.loop-s-init
loop-s-init c = (omega arith, sym (mask_none (excludes c.args.cells.now)))

pub loop-s-preserved : goal.loop-s-preserved
loop-s-preserved c =
    let ws = c.args.cells.now in
    let l = c.loop-s in
    let said = c.is_exclusive.ensures ∙ ap excludes_kind c.kind.ensures in (
      omega arith,
      elim c.if-is_exclusive.branch [
        | then-is_exclusive w ↦
            w.mask-is ∙ ap (λ (m : ℕ). bit_or m (1 * 2 ^ l.s % 2 ^ 16)) l.invariant.1 ∙ mask_sets (excludes ws) 16 l.s (omega arith) (sym said ∙ w.if-is_exclusive.true)
        | else-is_exclusive w ↦ w.mask-is ∙ l.invariant.1 ∙ mask_keeps (excludes ws) l.s (sym said ∙ w.if-is_exclusive.false)
      ],
    )
