-- The row of the word's own lock tells what clashes.
use Rattle.soundness.proofs.CheckingLawsAlone.{same_rows}
use Rattle.lent.specs.Holds.{RowOf, others_hold}
use Rattle.lent.specs.Words.{page_in, number_in}
use mathlib.Core.Bool.{not}
use mathlib.Core.Path.{ap, ◌∙◌, subst}
use Prim.Native.Nat.{ℕ}
use Rattle.soundness.proofs.checking.word_alone.Goals as goal

pub returns : goal.returns
returns c =
    let ws = c.args.slot.cells.now in
    let row = c.row_of in
    ap not
    (c.others_hold.ensures
    ∙ ap (others_hold ws c.args.slot.s row.result) c.page_in.ensures
    ∙ same_rows ws c.args.slot.s (page_in c.args.word) (number_in c.args.word) row.result
    (subst (λ (i : ℕ). RowOf i row.result) c.number_in.ensures row.ensures))
