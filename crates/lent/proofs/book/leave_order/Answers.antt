-- The part of the words where the order lies is lent on.
use Rattle.lent.proofs.WritingLaws.{left_laid}
use Rattle.lent.proofs.StateLaws.{length_order}
use Rattle.lent.specs.Layout.{order_from, row_length}
use Rattle.lent.specs.Words.{order_in}
use borrow.Rule.Slice.PartMut.{put_mid}
use native.Mathlib.Omega.{arith}
use mathlib.Core.Path.{ap, ◌∙◌}
use Rattle.lent.proofs.book.leave_order.Goals as goal

pub leave-requires : goal.leave-requires
unfolding order_in
leave-requires c =
    (omega (arith, length_order c.args.cells.now c.requires.0), c.requires.2)

pub returns : goal.returns
unfolding order_in
returns c =
    ap (put_mid order_from row_length c.args.cells.now) c.leave.ensures ∙ left_laid c.args.cells.now _ c.requires.0
