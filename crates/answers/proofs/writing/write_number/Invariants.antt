-- `write_number` meets its contract: each turn spells the last digit of what is left.
use Rattle.answers.proofs.Spelling.{Spelling}
use Rattle.answers.proofs.writing.write_number.Given as goal

abbrev pub invariant-loop-place : goal.invariant-loop-place
invariant-loop-place l = Spelling l.initial.out l.at l.n l.out l.left l.place
