-- The closure tells whether a word is alone.
use Rattle.soundness.specs.Checking.{Tells, word_alone}
use Rattle.std.proofs.Common.{rules}
use Rattle.soundness.proofs.checking.each_alone.Goals as goal

pub returns : goal.returns
unfolding Tells
returns c = c.held_pass.ensures (word_alone c.args.slot.cells.now c.args.slot.s) (λ word r h said. search rules)
