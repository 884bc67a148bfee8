-- The joined row is laid out in the left page, the right one is cleared, and the father, which is another page, loses its key.
use Rattle.deletion.proofs.DeleteLaws.{united, take_out_ready}
use Rattle.deletion.proofs.deleting.unite.Goals as goal

pub take_out_at-requires : goal.take_out_at-requires
take_out_at-requires c = let both = take_out_ready c.requires c.lay_at.ensures c.clear_at.ensures in record { in_pool = both.0; exact = both.1.0; i_bound = both.1.1 }

pub returns : goal.returns
returns c = united c.requires c.lay_at.ensures c.clear_at.ensures c.take_out_at.ensures
