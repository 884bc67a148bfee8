-- A space and the number at the place are gathered, and the numbers behind it are left.
use Rattle.std.proofs.Common.{◌∙◌, refl}
use Rattle.tape.proofs.GatherLaws.{spelled_on, spelled_done}
use Rattle.tape.proofs.writing.Output.numbers.Goals as goal

pub loop-word-preserved-then-self : goal.loop-word-preserved-then-self
loop-word-preserved-then-self g c = spelled_on _ _ _ _ _ c.loop-word-test.true refl c.digit.ensures ∙ c.loop-word.invariant

pub loop-word-preserved : goal.loop-word-preserved
loop-word-preserved g c =
    spelled_on _ _ _ _ _ c.loop-word-test.true c.in_ok-byte.ensures c.in_ok-number.ensures ∙ c.loop-word.invariant

pub returns : goal.returns
returns g c = spelled_done _ _ _ _ c.loop-word-test.false c.loop-word.invariant
