-- The loop's invariant, `Passed`: the pointers passed are in the pool and differ, and each left its mark. So a pointer that finds
-- no mark is new, and one that finds a mark is looked for among those before it.
use mathlib.Core.Path.{refl, sym, ◌∙◌}
use native.Mathlib.Omega.{arith}
use lib.ListN.{get_or, length-set}
use Rattle.page.specs.Words.{view, pointers}
use Rattle.page.proofs.CheckingLaws.{passed_none, passed_more, passed_outside, passed_again, passed_done, unmarked_new}
use Rattle.page.proofs.ReadingLaws.{length_pointers}
use Rattle.page.proofs.reading.Page.good_pointers.Goals.{else-seen-mark-via-then-seen-mark+else-repeated, else-seen-mark-via-else-seen-mark}
use Rattle.page.proofs.reading.Page.good_pointers.Goals as goal

pub loop-i-init : goal.loop-i-init
loop-i-init c = (refl, passed_none _ _ _)

pub returns-then-not-in_pool : goal.returns-then-not-in_pool
returns-then-not-in_pool c =
    let ps = pointers (view c.args.self.words.now) in
    let head = c.loop-i in
    let len = length_pointers c.args.self.words.now c.args.self.readable in
    passed_outside c.args.n ps head.seen head.i c.pointer-q.result head.invariant.1 (omega arith) c.pointer-q.ensures
    (sym c.in_pool.ensures ∙ c.if-not-in_pool.true)

pub returns-then-repeated : goal.returns-then-repeated
returns-then-repeated c =
    let ps = pointers (view c.args.self.words.now) in
    let head = c.loop-i in
    let len = length_pointers c.args.self.words.now c.args.self.readable in
    passed_again c.args.n ps head.seen head.i (get_or ps head.i 0) head.invariant.1 (omega arith) refl
    (sym c.repeated.ensures ∙ c.if-repeated.true)

pub loop-i-preserved : goal.loop-i-preserved
loop-i-preserved c =
    let ps = pointers (view c.args.self.words.now) in
    let head = c.loop-i in
    let len = length_pointers c.args.self.words.now c.args.self.readable in
    let pool = sym c.in_pool.ensures ∙ c.if-not-in_pool.false in (
      simp length-set head.invariant.0,
      passed_more c.args.n ps head.seen head.i c.pointer-q.result head.invariant.1 (omega arith) c.pointer-q.ensures head.invariant.0 pool
          (elim c.else-seen-mark.branch [ else-seen-mark-via-then-seen-mark+else-repeated w ↦ rw c.pointer-q.ensures (sym w.repeated.ensures ∙ w.if-repeated.false) | else-seen-mark-via-else-seen-mark w ↦ unmarked_new c.args.n ps head.seen head.i c.pointer-q.result head.invariant.1 (omega arith) c.pointer-q.ensures w.if-seen-mark.false ]),
    )

pub returns : goal.returns
returns c =
    let ps = pointers (view c.args.self.words.now) in
    let head = c.loop-i in
    let len = length_pointers c.args.self.words.now c.args.self.readable in
    passed_done c.args.n ps head.seen head.i head.invariant.1 (omega arith)
