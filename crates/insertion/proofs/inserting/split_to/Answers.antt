-- The two writes are the rule's, in its order.
use Rattle.pool.proofs.WriteLaws.{applied_two}
use Rattle.insertion.proofs.inserting.split_to.Goals as goal

pub returns : goal.returns
returns c = applied_two _ _ _ _ c.lay_right_at.ensures c.lay_left_at.ensures
