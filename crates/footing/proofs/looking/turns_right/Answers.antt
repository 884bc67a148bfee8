-- The first page of the way tells, and then the rest of it.
use mathlib.Core.List.{[], ◌∷◌}
use Rattle.change.proofs.HeldLaws.{held_back}
use Rattle.footing.proofs.AcrossLaws.{held_turn}
use Rattle.footing.proofs.looking.turns_right.Goals as goal

pub leads_across-requires : goal.leads_across-requires
leads_across-requires c = held_turn c.args.top c.args.way.now c.requires.0 c.requires.1

pub leftmost-requires : goal.leftmost-requires
leftmost-requires c = held_back (c.args.top ∷ []) c.args.way.now c.requires.1
