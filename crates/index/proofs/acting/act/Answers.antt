-- Each course is carried out as the rule's word for it.
use Rattle.course.proofs.JudgeLaws.{standing_holding}
use Rattle.index.proofs.ActLaws.{stand_cells, stand_short, stand_in_halves, acts_broken, acts_goes, acts_ends, acts_inserts, acts_deletes, acts_regrades, acts_again, inserts_stands, deletes_stands}
use Rattle.ground.specs.Limits.{slot_count}
use Rattle.index.proofs.acting.act.Goals as goal

pub go_on-requires : goal.go_on-requires
go_on-requires c =
    let a = c.requires.state_value.1 in
    let short = stand_short a.stands in
    (a.waits, short.0, short.1, stand_in_halves a.stands)

pub closes-requires : goal.closes-requires
unfolding slot_count
closes-requires c = let w = c.requires.state_value.1.waits in (w.inside, w.few, w.named)

pub insert_lot-answer-requires : goal.insert_lot-answer-requires
insert_lot-answer-requires c = inserts_stands c.requires.state_value.1 c.args.course c.requires.ready c.in-Inserts.is

pub closes-requires-in-Inserts : goal.closes-requires-in-Inserts
unfolding slot_count
closes-requires-in-Inserts c = let w = c.requires.state_value.1.waits in (w.inside, w.few, w.named)

pub delete_lot-requires : goal.delete_lot-requires
delete_lot-requires c =
    let a = c.requires.state_value.1 in
    (stand_cells a.stands, deletes_stands a c.args.course c.requires.ready c.in-Deletes.is)

pub closes-requires-in-Deletes : goal.closes-requires-in-Deletes
unfolding slot_count
closes-requires-in-Deletes c = let w = c.requires.state_value.1.waits in (w.inside, w.few, w.named)

pub regrade_lot-answer-requires : goal.regrade_lot-answer-requires
regrade_lot-answer-requires c =
    let a = c.requires.state_value.1 in
    (stand_cells a.stands, standing_holding a.stands)

pub closes-requires-in-Regrades : goal.closes-requires-in-Regrades
unfolding slot_count
closes-requires-in-Regrades c = let w = c.requires.state_value.1.waits in (w.inside, w.few, w.named)

pub returns-in-Broken : goal.returns-in-Broken
returns-in-Broken c = acts_broken c.args.state.now c.sized.ensures c.requires.state_value.0 c.requires.state_value.1 c.in-Broken.is

pub returns-in-Goes : goal.returns-in-Goes
returns-in-Goes c = acts_goes c.args.state.now c.sized.ensures c.requires.state_value.0 c.requires.state_value.1 c.in-Goes.is c.go_on.ensures

pub returns-in-Ends : goal.returns-in-Ends
returns-in-Ends c = acts_ends c.args.state.now c.sized.ensures c.requires.state_value.0 c.requires.state_value.1 c.in-Ends.is c.closes.ensures

pub returns-in-Inserts : goal.returns-in-Inserts
returns-in-Inserts c =
    acts_inserts c.args.state.now c.sized.ensures c.requires.state_value.0 c.requires.state_value.1 c.in-Inserts.is
    c.insert_lot-answer.ensures.value c.insert_lot-answer.ensures.words_after c.closes-in-Inserts.ensures

pub returns-in-Deletes : goal.returns-in-Deletes
returns-in-Deletes c =
    acts_deletes c.args.state.now c.sized.ensures c.requires.state_value.0 c.requires.state_value.1 c.in-Deletes.is
    c.delete_lot.ensures c.closes-in-Deletes.ensures

pub returns-in-Regrades : goal.returns-in-Regrades
returns-in-Regrades c =
    acts_regrades c.args.state.now c.sized.ensures c.requires.state_value.0 c.requires.state_value.1 c.in-Regrades.is
    c.regrade_lot-answer.ensures.value c.regrade_lot-answer.ensures.words_after c.closes-in-Regrades.ensures

pub returns-in-Again : goal.returns-in-Again
returns-in-Again c = acts_again c.args.state.now c.sized.ensures c.requires.state_value.0 c.requires.state_value.1 c.in-Again.is c.begin_again.ensures
