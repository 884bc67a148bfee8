-- The byte at the place is gathered, and those behind it are left.
use Rattle.std.proofs.Common.{◌∙◌}
use Rattle.tape.proofs.GatherLaws.{gather_on, gather_done}
use Rattle.tape.proofs.writing.Output.word.Goals as goal

pub loop-b-preserved : goal.loop-b-preserved
loop-b-preserved g c = gather_on _ _ _ _ c.loop-b-test.true c.in_ok-byte.ensures ∙ c.loop-b.invariant

pub returns : goal.returns
returns g c = gather_done _ _ _ _ c.loop-b-test.false c.loop-b.invariant
