-- What the order has named so far are open slots, none twice, and the marks left are those of the other open slots. As many
-- slots are open as wait, so none is left once all that wait are named.
use Rattle.soundness.proofs.CheckingLawsOrder.{Naming, naming_start, naming_long, naming_other, naming_on, naming_high, naming_unmarked, naming_end}
use Rattle.lent.proofs.StateLaws.{length_order, order_cell}
use Rattle.lent.specs.Layout.{row_length}
use Rattle.lent.specs.Words.{order_in}
use Rattle.ground.specs.Limits.{slot_count}
use lib.ListN.{get_or, set, length-set}
use native.Mathlib.Omega.{arith}
use mathlib.Core.Path.{◌≡◌, sym, ap, ◌∙◌, subst}
use mathlib.Core.List.{List}
use mathlib.Core.Bool.{false}
use Prim.Native.Nat.{ℕ, ◌+◌, ◌≤◌, ◌<◌}
use borrow.Author.Rules.{rules}
use Rattle.soundness.proofs.checking.order_sound.Goals.{After-order_at-s, then-waiting-gt-SLOTS-via-then-waiting-gt-SLOTS, then-waiting-gt-SLOTS-via-else-waiting-gt-SLOTS+then-waiting-marked, then-s-ge-SLOTS-via-then-s-ge-SLOTS, then-s-ge-SLOTS-via-else-s-ge-SLOTS+then-not-unnamed-s}
use Rattle.soundness.proofs.checking.order_sound.Goals as goal

pub returns-then-waiting-gt-SLOTS : goal.returns-then-waiting-gt-SLOTS
unfolding slot_count
returns-then-waiting-gt-SLOTS c =
    let order : List ℕ = order_in c.args.cells.now in
    let long = length_order c.args.cells.now c.sized.ensures in
    elim c.then-waiting-gt-SLOTS.branch [
      | then-waiting-gt-SLOTS-via-then-waiting-gt-SLOTS w ↦ sym (naming_long c.args.busy order c.args.waiting w.if-waiting-gt-SLOTS.true)
      | then-waiting-gt-SLOTS-via-else-waiting-gt-SLOTS+then-waiting-marked w ↦
          sym (naming_other c.args.busy order c.args.waiting (omega arith) (λ e. w.if-waiting-marked.true (e ∙ sym w.marked.ensures)))
    ]

pub loop-i-init : goal.loop-i-init
loop-i-init c =
    (omega arith, c.if-waiting-gt-SLOTS.false, search rules, naming_start c.args.busy (order_in c.args.cells.now))

-- the slot read is the next that the order names
next : (c : After-order_at-s) → get_or (order_in c.args.cells.now) c.loop-i.i 0 ≡ c.order_at-s.result
next c = order_cell c.args.cells.now c.loop-i.i (omega arith) ∙ sym c.order_at-s.ensures

pub returns-then-s-ge-SLOTS : goal.returns-then-s-ge-SLOTS
unfolding slot_count
returns-then-s-ge-SLOTS c =
    let l = c.loop-i in
    let order : List ℕ = order_in c.args.cells.now in
    let long = length_order c.args.cells.now c.sized.ensures in
    let read = next (goal.at.returns-then-s-ge-SLOTS c).After-order_at-s in
    elim c.then-s-ge-SLOTS.branch [
      | then-s-ge-SLOTS-via-then-s-ge-SLOTS w ↦
          sym
          (naming_high c.args.busy l.unnamed order l.i l.invariant.3 c.args.waiting (omega arith) (omega arith) (subst (λ (s : ℕ). row_length ≤ s) (sym read) w.if-s-ge-SLOTS.true))
      | then-s-ge-SLOTS-via-else-s-ge-SLOTS+then-not-unnamed-s w ↦
          sym
          (naming_unmarked c.args.busy l.unnamed order l.i l.invariant.3 c.args.waiting (omega arith) (omega arith)
          (ap (λ (s : ℕ). get_or l.unnamed s false) read ∙ w.if-not-unnamed-s.true))
    ]

pub loop-i-preserved : goal.loop-i-preserved
unfolding slot_count
loop-i-preserved c =
    let l = c.loop-i in
    let order : List ℕ = order_in c.args.cells.now in
    let long = length_order c.args.cells.now c.sized.ensures in
    let s : ℕ = c.order_at-s.result in
    let read : get_or order l.i 0 ≡ s = next (goal.at.loop-i-preserved c).After-order_at-s in (
      omega arith,
      l.invariant.1,
      length-set l.unnamed s false ∙ l.invariant.2,
      subst (λ (x : ℕ). Naming c.args.busy (set l.unnamed x false) order (l.i + 1)) read
          (naming_on c.args.busy l.unnamed order l.i l.invariant.3 (omega arith) (subst (λ (x : ℕ). x < row_length) (sym read) c.if-s-ge-SLOTS.false) (omega arith)
          (ap (λ (x : ℕ). get_or l.unnamed x false) read ∙ c.if-not-unnamed-s.false)),
    )

pub returns : goal.returns
unfolding slot_count
returns c =
    let l = c.loop-i in
    let long = length_order c.args.cells.now c.sized.ensures in
    sym
    (naming_end c.args.busy (order_in c.args.cells.now) c.args.waiting (omega arith) l.unnamed l.i l.invariant.3 l.invariant.0 c.loop-i-test.false l.invariant.1
    (c.if-waiting-marked.false ∙ c.marked.ensures))
