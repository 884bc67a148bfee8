-- `write_number` meets its contract: each turn spells the last digit of what is left.
use Prim.Native.Nat.{ℕ, ◌+◌}
use mathlib.Core.Path.{ap}
use Rattle.answers.proofs.Spelling.{spelling_start, spelling_on}
use Rattle.answers.proofs.writing.write_number.Goals as goal

pub loop-place-init : goal.loop-place-init
loop-place-init c = spelling_start _ _ _ c.digit_count.ensures

pub loop-place-preserved : goal.loop-place-preserved
loop-place-preserved c = spelling_on _ _ _ c.loop-place.invariant c.requires c.loop-place-test.true

pub returns : goal.returns
returns c =
    (c.loop-place.invariant.done c.loop-place-test.false, ap (λ (k : ℕ). c.args.at + k) c.digit_count.ensures)
