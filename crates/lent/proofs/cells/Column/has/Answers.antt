-- Of the rows passed none is page p.
use Rattle.lent.proofs.StateLaws.{column_cell, length_column}
use Rattle.lent.specs.Words.{page_in, column}
use Rattle.slots.proofs.HoldingLaws.{among_more}
use Rattle.ground.proofs.Tests.{member_none, member_among}
use lib.ListN.{get_or}
use native.Mathlib.Omega.{arith}
use mathlib.Core.Path.{◌≡◌, sym, ap, ◌∙◌}
use Rattle.lent.proofs.cells.Column.has.Goals.{After-page_in}
use Rattle.lent.proofs.cells.Column.has.Goals as goal

pub loop-j-init : goal.loop-j-init
loop-j-init c = (omega arith, member_none c.args.p)

-- the page read is that of the column
page-read : (c : After-page_in) → get_or (column c.args.self.cells.now c.args.row c.args.self.s) c.loop-j.j 0 ≡ c.page_in.result
page-read c =
    let was = c.args in
    column_cell was.self.cells.now was.row was.self.s c.loop-j.j (omega arith)
    ∙ sym (c.page_in.ensures ∙ ap page_in c.word.ensures)

pub returns-then-page_in-p : goal.returns-then-page_in-p
returns-then-page_in-p c =
    let j = c.loop-j.j in
    let col = column c.args.self.cells.now c.args.row c.args.self.s in
    sym (member_among c.args.p col c.args.count j 0 (omega (arith, length_column c.args.self.cells.now c.args.row c.args.self.s)) (omega arith) (page-read (goal.at.returns-then-page_in-p c).After-page_in ∙ c.if-page_in-p.true))

pub loop-j-preserved : goal.loop-j-preserved
loop-j-preserved c =
    let j = c.loop-j.j in
    let col = column c.args.self.cells.now c.args.row c.args.self.s in (
      omega arith,
      among_more c.args.p col j (omega (arith, length_column c.args.self.cells.now c.args.row c.args.self.s)) c.loop-j.invariant.1
          (λ e. c.if-page_in-p.false (sym (page-read (goal.at.loop-j-preserved c).After-page_in) ∙ e)),
    )
