-- After i turns the first i free pages stand in the cells, and the other free pages are those from `from` on.
use Rattle.pool.proofs.LyingLaws.{Taking}
use Rattle.pool.proofs.lying.take_pages.Given as goal

abbrev pub invariant-loop-page : goal.invariant-loop-page
invariant-loop-page l = Taking l.shape.k l.shape.n l.need l.words l.page-items l.from l.page-index
