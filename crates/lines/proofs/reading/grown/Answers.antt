-- `grown` meets its contract: what is above the largest number stays as it is, and ten times as much is above it too.
use native.Mathlib.Omega.{arith}
use Rattle.lines.proofs.DigitLaws.{digit_low, digit_high}
use Rattle.lines.proofs.reading.grown.Goals as goal

pub overflow_sub-result : goal.overflow_sub-result
overflow_sub-result c = digit_low _ c.requires

pub returns : goal.returns
returns c = omega (arith, digit_high c.args.digit c.requires)
