-- Three pages are written, one after the other.
use Rattle.page.specs.Words.{free_page}
use Rattle.sheet.specs.Sheets.{sheet_page}
use Rattle.pool.specs.Pool.{write}
use Rattle.pool.proofs.WriteLaws.{applied_three}
use Rattle.deletion.proofs.deleting.collapse.Goals as goal

pub returns : goal.returns
returns c =
    applied_three c.args.shape.k (write c.args.f (sheet_page c.args.s)) (write c.args.l free_page) (write c.args.w free_page)
    c.args.words.now
    c.lay_at.ensures
    c.clear_at.ensures
    c.clear_at-2.ensures
