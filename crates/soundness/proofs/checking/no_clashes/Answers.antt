-- The slots that hold under ξ or α are taken off their mask from the lowest on; each holds its pages alone.
use Rattle.soundness.proofs.WalkLaws.{walk_start, walk_next, walk_on, walk_stops, walk_end}
use Rattle.soundness.proofs.MaskLaws.{bit_fits, Next}
use Rattle.soundness.specs.Checking.{excludes}
use Rattle.std.specs.Int.Count.{count_trailing_zeros}
use native.Mathlib.Nat.{one-mul}
use native.Mathlib.Omega.{arith}
use mathlib.Core.Path.{◌≡◌, refl, sym, ◌∙◌}
use Prim.Native.Nat.{ℕ, ◌*◌, ◌%◌, ◌^◌, ◌≤◌, ◌<◌, ◌-◌}
use Rattle.lent.specs.Layout.{row_length}
use Rattle.soundness.proofs.checking.no_clashes.Goals.{In-loop-left}
use Rattle.soundness.proofs.checking.no_clashes.Goals as goal

pub loop-left-init : goal.loop-left-init
loop-left-init c = walk_start c.args.cells.now c.excluding-left.result c.excluding-left.ensures

-- the slot of the mask's lowest bit
abbrev lowest : ℕ → ℕ
lowest = count_trailing_zeros 16

next : (c : In-loop-left) → Next (excludes c.args.cells.now) c.loop-left.invariant.at (lowest c.loop-left.left)
next c =
    let l = c.loop-left in
    walk_next c.args.cells.now l.left l.invariant (lowest l.left) c.loop-left-test.true refl

pub returns-then-not-is_alone : goal.returns-then-not-is_alone
returns-then-not-is_alone c =
    let l = c.loop-left in
    sym
    (walk_stops c.args.cells.now l.left l.invariant (lowest l.left) (next (goal.at.returns-then-not-is_alone c).In-loop-left)
    (sym c.is_alone.ensures ∙ c.if-not-is_alone.true))

-- its bit, as the code makes it
bit : (s : ℕ) → s < row_length → 1 * 2 ^ s % 65536 ≡ 2 ^ s
bit s h = bit_fits 16 s h ∙ one-mul (2 ^ s)

-- it is in the mask
there : (c : In-loop-left) → 2 ^ lowest c.loop-left.left ≤ c.loop-left.left
there c =
    let l = c.loop-left in
    omega (arith, l.invariant.rest, (next c).taken)

pub overflow_sub-left : goal.overflow_sub-left
overflow_sub-left c =
    let s : ℕ = lowest c.loop-left.left in
    omega (arith, bit s (next (goal.at.overflow_sub-left c).In-loop-left).inside, there (goal.at.overflow_sub-left c).In-loop-left)

pub loop-left-preserved : goal.loop-left-preserved
loop-left-preserved c =
    let l = c.loop-left in
    let s : ℕ = lowest l.left in
    let at = (goal.at.loop-left-preserved c).In-loop-left in
    walk_on c.args.cells.now l.left l.invariant s (next at) (l.left - 1 * 2 ^ s % 65536)
    (omega (arith, bit s (next at).inside, there at))
    (sym c.is_alone.ensures ∙ c.if-not-is_alone.false)

pub returns : goal.returns
returns c =
    let l = c.loop-left in
    sym (walk_end c.args.cells.now l.left l.invariant c.loop-left-test.false)
