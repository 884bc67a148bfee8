-- The numbers are tested before a pool's length is computed from them.
use Rattle.index.proofs.MakeLaws.{range_holds}
use Rattle.index.proofs.calls.is_pool.Goals as goal

pub returns-then-numbers_in_range : goal.returns-then-numbers_in_range
returns-then-numbers_in_range c =
    range_holds c.args.k c.args.n c.args.words.now c.numbers_in_range.ensures c.if-numbers_in_range.true c.start_of.ensures
