-- The loop's invariant: the words passed are 0, or not all are.
use native.Mathlib.Omega.{arith}
use borrow.Author.Count.{below_more}
use borrow.Author.Tests.{eqb-true, eqb-false}
use Rattle.page.proofs.SofarLaws.{sofar_on, sofar_done}
use Rattle.page.proofs.CheckingLaws.{unused_stop, unused_done}
use Rattle.page.proofs.checking.unused.Goals as goal

pub loop-i-preserved : goal.loop-i-preserved
loop-i-preserved c =
    sofar_on _ _ _ c.loop-i.invariant
    (λ t p. below_more _ _ p (λ l. eqb-true _ _ t))
    (λ f. unused_stop c.args.w.now c.args.from c.loop-i.i (omega arith) (omega arith) (eqb-false _ _ f))

pub returns : goal.returns
returns c = sofar_done _ _ c.loop-i.invariant (unused_done c.args.w.now c.args.from c.loop-i.i (omega arith))
