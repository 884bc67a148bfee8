-- By another way than the third, and where the change is not known, it is no page's turn. Otherwise the next one to convert tells.
use Rattle.course.proofs.JudgeLaws.{standing_within, standing_needing}
use Rattle.course.proofs.judging.turn.Goals as goal

pub change_known-requires : goal.change_known-requires
change_known-requires c =
    let within = standing_within c.requires in
    (within.0, within.1, standing_needing c.requires)
