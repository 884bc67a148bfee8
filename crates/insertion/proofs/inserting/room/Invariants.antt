-- The loop counts the full pages among the first of those held, and whether page 0 is one of them.
use Rattle.pool.specs.Pool.{page_at}
use Rattle.insertion.proofs.RoomLaws.{Counted}
use Rattle.insertion.proofs.inserting.room.Given as goal

abbrev pub invariant-loop-p : goal.invariant-loop-p
invariant-loop-p l = Counted l.shape.k (page_at l.shape.k l.words) l.path l.p-index l.full l.root
