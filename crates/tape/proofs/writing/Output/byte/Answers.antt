-- A full row has gone out before the byte is put; else it is put behind those that are there.
use Rattle.std.proofs.Common.{arith}
use Rattle.tape.proofs.GatherLaws.{gather_put, gather_first}
use Rattle.tape.proofs.writing.Output.byte.Goals as goal
use Rattle.tape.proofs.writing.Output.byte.Goals.{then-self-eq-OUT+in_ok-flush, else-self-eq-OUT}

pub returns : goal.returns
returns g c =
    let was = c.args.self.now in
    let now = c.if-self-eq-OUT.self in
    elim c.if-self-eq-OUT.branch [
      | then-self-eq-OUT+in_ok-flush w ↦ gather_first was.gathered now.gathered was.end now.end c.args.b (omega arith) w.if-self-eq-OUT.true (omega arith) (rw w.self-is w.in_ok-flush.ensures)
      | else-self-eq-OUT w ↦ rw w.self-is (gather_put was.gathered was.end c.args.b (omega arith) (omega (arith, was.room)))
    ]
