-- `pull_two` moves the words behind the two down by two, and makes the freed ones 0.
use Rattle.sheet.proofs.PasteLaws.{pulled}
use Rattle.sheet.proofs.writing.pull_two.Goals as goal

pub returns : goal.returns
returns c = rw c.copy_within.ensures.after (pulled c.args.w.now c.args.a c.args.e c.requires.0 c.requires.1)
