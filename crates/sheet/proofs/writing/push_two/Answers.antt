-- `push_two` moves the words from word a on by two, and stores x and v in the two before them.
use Rattle.sheet.proofs.PasteLaws.{pushed}
use Rattle.sheet.proofs.writing.push_two.Goals as goal

pub returns : goal.returns
returns c =
    rw c.copy_within.ensures.after
    (pushed c.args.w.now c.args.a c.args.e c.args.x c.args.v c.requires.0 c.requires.1)
