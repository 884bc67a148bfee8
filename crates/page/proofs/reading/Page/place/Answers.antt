-- The loop's invariant is `Untold`: x's place is behind the first `low` keys at least, and behind `left` more at most. Its measure is how
-- many comparisons are still to come: at most 6 for the keys of a page (`six_comparisons`).
use Prim.Native.Nat.{ℕ, ◌+◌, ◌*◌, ◌/◌, ◌≤◌}
use mathlib.Core.Logic.{inl, inr}
use native.Mathlib.Omega.{arith}
use Rattle.page.specs.Words.{view}
use Rattle.page.proofs.HalvingLaws.{comparisons_fall}
use Rattle.page.proofs.PlaceLaws.{place_most}
use Rattle.page.proofs.ReadingLaws.{readable_μ, middle_told}
use Rattle.page.proofs.reading.Page.place.Goals.{Joined-middle-x, then-middle-x, else-middle-x}
use Rattle.page.proofs.reading.Page.place.Goals as goal

-- what a comparison leaves is 1 or 0, and what is added for it at most one more than half of what is left
passed-most : (c : Joined-middle-x) → c.if-middle-x.passed ≤ 1
passed-most c = elim c.if-middle-x.branch [ then-middle-x w ↦ omega arith | else-middle-x w ↦ omega arith ]

added-most : (c : Joined-middle-x)
    → let half : ℕ = c.loop-left.left / 2 in (half + 1) * c.if-middle-x.passed ≤ half + 1
added-most c = elim c.if-middle-x.branch [ then-middle-x w ↦ rw w.passed-is (omega arith) | else-middle-x w ↦ rw w.passed-is (omega arith) ]

pub loop-left-init : goal.loop-left-init
loop-left-init c =
    let long = readable_μ c.args.self.words.now c.args.self.readable in
    let most = place_most c.args.x (view c.args.self.words.now).entries in
    omega arith

pub loop-left-smaller : goal.loop-left-smaller
loop-left-smaller c = comparisons_fall c.loop-left.left _ c.loop-left-test.true (omega arith)

pub loop-left-preserved : goal.loop-left-preserved
loop-left-preserved c =
    let from = c.pairs_from-from in
    let at = c.loop-left in
    middle_told c.args.self.words.now c.args.self.readable c.args.x from.result at.low at.left c.if-middle-x.passed
    from.ensures c.requires at.invariant c.loop-left-test.true
    (elim c.if-middle-x.branch [ then-middle-x w ↦ inl (w.if-middle-x.true, w.passed-is) | else-middle-x w ↦ inr (w.if-middle-x.false, w.passed-is) ])
