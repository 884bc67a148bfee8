-- What is gathered, with the bytes that are left, is what would be gathered of them all.
use Rattle.std.proofs.Common.{◌≡◌, take, drop}
use Rattle.tape.specs.Gathered.{gather}
use Rattle.tape.proofs.writing.Output.word.Given as goal

abbrev pub invariant-loop-b : goal.invariant-loop-b
invariant-loop-b g l =
    gather (take l.self.end l.self.gathered) (drop l.b-index l.word) ≡ gather (take l.initial.self.end l.initial.self.gathered) l.word
