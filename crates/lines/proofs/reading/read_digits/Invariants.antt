-- `read_digits` meets its contract: each turn passes one digit more.
use Rattle.lines.proofs.DigitLaws.{Passing}
use Rattle.lines.proofs.reading.read_digits.Given as goal

abbrev pub invariant-loop-end : goal.invariant-loop-end
invariant-loop-end l = Passing l.bytes l.end l.worth
