-- The loop's invariant: each key passed is above the one before, or the keys do not rise.
use native.Mathlib.Omega.{arith}
use borrow.Author.Count.{below_more}
use borrow.Author.Tests.{ltb-true, ltb-false}
use Rattle.page.proofs.SofarLaws.{sofar_on, sofar_done}
use Rattle.page.proofs.CheckingLaws.{keys_rise, keys_stop, keys_done}
use Rattle.page.proofs.reading.Page.rising.Goals as goal

pub loop-i-preserved : goal.loop-i-preserved
loop-i-preserved c =
    let w = c.args.self.words.now in
    let from = c.pairs_from-from in
    let i = c.loop-i.i in
    sofar_on _ _ _ c.loop-i.invariant
    (λ t p. below_more _ _ p (λ some. keys_rise w c.args.self.readable from.result from.ensures i (omega arith) (omega arith) (ltb-true _ _ t)))
    (λ f. keys_stop w c.args.self.readable from.result from.ensures i (omega arith) (omega arith) (ltb-false _ _ f))

pub returns : goal.returns
returns c =
    let from = c.pairs_from-from in
    sofar_done _ _ c.loop-i.invariant (keys_done c.args.self.words.now c.args.self.readable from.result from.ensures c.loop-i.i (omega arith))
