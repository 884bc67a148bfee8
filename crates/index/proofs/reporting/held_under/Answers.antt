-- None of the slots passed holds the page under this kind.
use Prim.Native.Nat.{ℕ}
use mathlib.Core.Bool.{Bool}
use mathlib.Core.Path.{◌≡◌, sym, ap, ◌∙◌}
use native.Mathlib.Omega.{arith}
use borrow.Author.Tests.{eq-eqb, ne_eqb}
use Rattle.ground.specs.Limits.{slot_count}
use Rattle.ground.specs.Tests.{any_below}
use Rattle.ground.proofs.Bools.{or_none}
use Rattle.ground.proofs.Tests.{any_below_none, any_below_from}
use Rattle.slots.specs.Heard.{lock_named}
use Rattle.lent.specs.Layout.{row_length}
use Rattle.lent.specs.Words.{as_read}
use Rattle.lent.proofs.HoldLaws.{any_on}
use Rattle.index.proofs.ReportLaws.{under_at, under_told}
use Rattle.index.proofs.reporting.held_under.Goals as goal

pub loop-s-init : goal.loop-s-init
loop-s-init c = any_below_none (under_at (as_read c.args.cells.now) c.args.p (lock_named c.args.lock))

pub returns-then-held_lock-lock : goal.returns-then-held_lock-lock
unfolding slot_count
returns-then-held_lock-lock c =
    let ws = c.args.cells.now in
    let s : ℕ = c.loop-s.s in
    let told = c.held_lock in
    let here = under_told ws s c.args.p told.result c.args.lock (omega arith) c.requires.1 told.ensures in
    sym
    (any_below_from (under_at (as_read ws) c.args.p (lock_named c.args.lock)) row_length s (omega arith)
    (sym here ∙ eq-eqb told.result c.args.lock c.if-held_lock-lock.true))

pub loop-s-preserved : goal.loop-s-preserved
unfolding slot_count
loop-s-preserved c =
    let ws = c.args.cells.now in
    let s : ℕ = c.loop-s.s in
    let told = c.held_lock in
    let here = under_told ws s c.args.p told.result c.args.lock (omega arith) c.requires.1 told.ensures in
    any_on (under_at (as_read ws) c.args.p (lock_named c.args.lock)) s
    ∙ or_none c.loop-s.invariant (sym here ∙ ne_eqb told.result c.args.lock c.if-held_lock-lock.false)

pub returns : goal.returns
unfolding slot_count
returns c =
    let under : ℕ → Bool = under_at (as_read c.args.cells.now) c.args.p (lock_named c.args.lock) in
    let end : c.loop-s.s ≡ row_length = omega arith in
    sym (ap (λ (n : ℕ). any_below n under) (sym end) ∙ c.loop-s.invariant)
