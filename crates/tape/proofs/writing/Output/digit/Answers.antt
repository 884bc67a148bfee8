-- The space is put, and then the digit.
use Rattle.std.proofs.Common.{arith}
use Rattle.tape.proofs.GatherLaws.{gather_digit}
use Rattle.tape.proofs.writing.Output.digit.Goals as goal

pub returns : goal.returns
returns g c =
    let was = c.args.self.now in
    gather_digit was.gathered was.end c.args.n (omega arith) c.requires.0 c.requires.1
