-- Of the rows passed none is page p; the first that is has the lock.
use Rattle.lent.proofs.StateLaws.{length_column, column_cell, length_locks, lock_cell}
use Rattle.lent.specs.Words.{page_in, number_in, column, lock_column}
use Rattle.slots.specs.declared.Lock.TheVariants.{None}
use Rattle.slots.specs.declared.Under.{Under}
use Rattle.slots.specs.Heard.{lock_named}
use Rattle.slots.specs.Parts.{under}
use Rattle.slots.proofs.HoldingLaws.{among_more}
use Rattle.slots.proofs.LockLaws.{among_none, among_at}
use Rattle.ground.proofs.Tests.{member_none}
use Rattle.ground.specs.Tests.{member}
use lib.ListN.{length, get_or, take}
use lib.Seq.{length-take-le, get_or-take, take-take}
use native.Mathlib.Omega.{arith}
use mathlib.Core.List.{List}
use mathlib.Core.Path.{◌≡◌, sym, ap, ◌∙◌}
use Prim.Native.Nat.{ℕ}
use Rattle.lent.proofs.cells.Column.lock_in.Goals.{After-page_in}
use Rattle.lent.proofs.cells.Column.lock_in.Goals as goal

pub loop-j-init : goal.loop-j-init
loop-j-init c = (omega arith, member_none c.args.p)

-- the page read is that of the column
page-read : (c : After-page_in) → get_or (column c.args.self.cells.now c.args.row c.args.self.s) c.loop-j.j 0 ≡ c.page_in.result
page-read c =
    let was = c.args in
    column_cell was.self.cells.now was.row was.self.s c.loop-j.j (omega arith)
    ∙ sym (c.page_in.ensures ∙ ap page_in c.word-word.ensures)

pub returns-then-page_in-p : goal.returns-then-page_in-p
returns-then-page_in-p c =
    let ws = c.args.self.cells.now in
    let j : ℕ = c.loop-j.j in
    let col : List ℕ = column ws c.args.row c.args.self.s in
    let locks : List Under = lock_column ws c.args.row c.args.self.s in
    let long : length (take c.args.count col) ≡ c.args.count = length-take-le c.args.count col (omega (arith, length_column ws c.args.row c.args.self.s)) in
    let many : length (take c.args.count locks) ≡ c.args.count = length-take-le c.args.count locks (omega (arith, length_locks ws c.args.row c.args.self.s)) in
    ap lock_named (c.number_in.ensures ∙ ap number_in c.word-word.ensures)
    ∙ ap (λ (u : Under). u.lock)
    (sym (lock_cell ws c.args.row c.args.self.s j (omega arith)) ∙ sym (get_or-take c.args.count locks j (under None) (omega arith)))
    ∙ sym
    (among_at c.args.p (take c.args.count col) (take c.args.count locks) j (many ∙ sym long) (omega arith)
    (get_or-take c.args.count col j 0 (omega arith) ∙ page-read (goal.at.returns-then-page_in-p c).After-page_in ∙ c.if-page_in-p.true)
    (ap (member c.args.p) (take-take j c.args.count col (omega arith)) ∙ c.loop-j.invariant.1))

pub loop-j-preserved : goal.loop-j-preserved
loop-j-preserved c =
    let j = c.loop-j.j in
    let col = column c.args.self.cells.now c.args.row c.args.self.s in (
      omega arith,
      among_more c.args.p col j (omega (arith, length_column c.args.self.cells.now c.args.row c.args.self.s)) c.loop-j.invariant.1
          (λ e. c.if-page_in-p.false (sym (page-read (goal.at.loop-j-preserved c).After-page_in) ∙ e)),
    )

pub returns : goal.returns
returns c =
    let ws = c.args.self.cells.now in
    let end : c.loop-j.j ≡ c.args.count = omega arith in
    sym
    (among_none c.args.p (take c.args.count (column ws c.args.row c.args.self.s)) (take c.args.count (lock_column ws c.args.row c.args.self.s))
    (ap (λ (n : ℕ). member c.args.p (take n (column ws c.args.row c.args.self.s))) (sym end) ∙ c.loop-j.invariant.1))
