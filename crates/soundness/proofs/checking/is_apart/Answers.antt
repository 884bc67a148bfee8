-- The closure tells whether no other slot holds a word's page under a lock that clashes.
use Rattle.soundness.specs.Checking.{Tells, word_apart}
use Rattle.std.proofs.Common.{rules}
use Rattle.soundness.proofs.checking.is_apart.Goals as goal

pub returns : goal.returns
unfolding Tells
returns c = c.held_pass.ensures (word_apart c.args.slot.cells.now c.args.slot.s c.args.row) (λ word r h said. search rules)
