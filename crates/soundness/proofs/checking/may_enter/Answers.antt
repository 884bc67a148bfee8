-- The pages passed may stand beside the other one and the first of the path; a page that may not ends the walk.
use Rattle.soundness.proofs.CheckingLaws.{may_none, may_on, may_stop_high, may_stop_other, may_stop_twice}
use Rattle.lent.proofs.StateLaws.{length_column, column_cell}
use Rattle.lent.specs.Layout.{column_length, path_row}
use Rattle.lent.specs.Words.{page_in, column}
use Rattle.ground.proofs.Tests.{member_append}
use Rattle.ground.proofs.Bools.{or_first, or_second, or_none}
use Rattle.ground.specs.Tests.{member}
use lib.ListN.{length, get_or, take}
use native.Mathlib.Omega.{arith}
use mathlib.Core.Path.{◌≡◌, sym, ap, ◌∙◌, subst}
use mathlib.Core.List.{List, ◌++◌}
use Prim.Native.Nat.{ℕ, ◌≤◌, ◌<◌}
use Rattle.soundness.proofs.checking.may_enter.Goals.{After-page_in-p, then-n-p-via-then-n-p, then-n-p-via-else-n-p+then-p-other, then-n-p-via-else-n-p+else-p-other+then-has, then-n-p-via-else-n-p+else-p-other+else-has+then-has-2}
use Rattle.soundness.proofs.checking.may_enter.Goals as goal

pub loop-i-init : goal.loop-i-init
loop-i-init c =
    (omega arith, may_none c.args.n c.args.other (take c.args.own (column c.args.slot.cells.now path_row c.args.slot.s)))

-- the page read is the next of the column
next : (c : After-page_in-p) → get_or (column c.args.slot.cells.now c.args.row c.args.slot.s) c.loop-i.i 0 ≡ c.page_in-p.result
next c =
    let was = c.args in
    column_cell was.slot.cells.now was.row was.slot.s c.loop-i.i (omega arith) ∙ sym (c.page_in-p.ensures ∙ ap page_in c.word.ensures)

pub returns-then-n-p : goal.returns-then-n-p
returns-then-n-p c =
    let ws = c.args.slot.cells.now in
    let col : List ℕ = column ws c.args.row c.args.slot.s in
    let own : List ℕ = take c.args.own (column ws path_row c.args.slot.s) in
    let i : ℕ = c.loop-i.i in
    let p : ℕ = c.page_in-p.result in
    let long : length col ≡ column_length = length_column ws c.args.row c.args.slot.s in
    let read = next (goal.at.returns-then-n-p c).After-page_in-p in
    let again = ap (λ (q : ℕ). member q (own ++ take i col)) read ∙ member_append p own (take i col) in
    elim c.then-n-p.branch [
      | then-n-p-via-then-n-p w ↦
          sym
          (may_stop_high c.args.n c.args.other own col i c.args.count (omega arith) (omega arith) (subst (λ (q : ℕ). c.args.n ≤ q) (sym read) w.if-n-p.true))
      | then-n-p-via-else-n-p+then-p-other w ↦
          sym (may_stop_other c.args.n c.args.other own col i c.args.count (omega arith) (omega arith) (read ∙ w.if-p-other.true))
      | then-n-p-via-else-n-p+else-p-other+then-has w ↦
          sym
          (may_stop_twice c.args.n c.args.other own col i c.args.count (omega arith) (omega arith)
          (again ∙ or_first (member p (take i col)) (sym w.has.ensures ∙ w.if-has.true)))
      | then-n-p-via-else-n-p+else-p-other+else-has+then-has-2 w ↦
          sym
          (may_stop_twice c.args.n c.args.other own col i c.args.count (omega arith) (omega arith)
          (again ∙ or_second (member p own) (sym w.has-else-has.ensures ∙ w.if-has-2.true)))
    ]

pub loop-i-preserved : goal.loop-i-preserved
loop-i-preserved c =
    let ws = c.args.slot.cells.now in
    let col : List ℕ = column ws c.args.row c.args.slot.s in
    let own : List ℕ = take c.args.own (column ws path_row c.args.slot.s) in
    let i : ℕ = c.loop-i.i in
    let p : ℕ = c.page_in-p.result in
    let long : length col ≡ column_length = length_column ws c.args.row c.args.slot.s in
    let read = next (goal.at.loop-i-preserved c).After-page_in-p in (
      omega arith,
      may_on c.args.n c.args.other own col i (omega arith) c.loop-i.invariant.1
          (subst (λ (q : ℕ). q < c.args.n) (sym read) c.if-n-p.false)
          (λ e. c.if-p-other.false (sym read ∙ e))
          (ap (λ (q : ℕ). member q (own ++ take i col)) read
          ∙ member_append p own (take i col)
          ∙ or_none (sym c.has.ensures ∙ c.if-has.false) (sym c.has-else-has.ensures ∙ c.if-has-2.false)),
    )
