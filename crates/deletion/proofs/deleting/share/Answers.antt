-- The left part and the right part of the joined row are laid out, and the father, which is another page, gets the key between.
use Rattle.deletion.proofs.DeleteLaws.{shared, rekey_ready}
use Rattle.deletion.proofs.deleting.share.Goals as goal

pub rekey_at-requires : goal.rekey_at-requires
rekey_at-requires c = let both = rekey_ready c.requires c.lay_left_at.ensures c.lay_right_at.ensures in record { in_pool = both.0; exact = both.1.0; i_bound = both.1.1 }

pub returns : goal.returns
returns c = shared c.requires c.lay_left_at.ensures c.lay_right_at.ensures c.cut_key.ensures c.rekey_at.ensures
