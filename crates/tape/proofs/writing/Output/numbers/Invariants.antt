-- What is gathered, with the words that are left, is what would be gathered of them all.
use Rattle.std.proofs.Common.{◌≡◌, take, drop}
use Rattle.tape.specs.Gathered.{gather, spelled}
use Rattle.tape.proofs.writing.Output.numbers.Given as goal

abbrev pub invariant-loop-word : goal.invariant-loop-word
invariant-loop-word g l =
    gather (take l.self.end l.self.gathered) (spelled (drop l.word-index l.words)) ≡ gather (take l.initial.self.end l.initial.self.gathered) (spelled l.words)
