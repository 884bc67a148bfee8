-- `lay_right` lays the pairs from pair c on; above the leaves pair c's pointer is the first, and its key stays out.
use mathlib.Core.Path.{ap, ◌∙◌}
use native.Mathlib.Omega.{arith}
use Rattle.page.specs.Words.{encode}
use Rattle.sheet.proofs.LayLaws.{cut_right_leaf, cut_right_upper}
use Rattle.sheet.proofs.sheets.lay_right.Goals.{Start}
use Rattle.sheet.proofs.sheets.lay_right.Goals as goal

pub returns-then-s-eq1 : goal.returns-then-s-eq1
returns-then-s-eq1 c =
    let s = c.args.s in
    c.lay_run.ensures ∙ ap (encode c.args.k) (cut_right_leaf c.args.c s.level s.first s.count s.pairs c.if-s-eq1.true)

pub returns : goal.returns
returns c =
    let s = c.args.s in
    c.lay_run-2.ensures
    ∙ ap (encode c.args.k)
    (cut_right_upper c.args.c s.level s.first s.count s.pairs c.if-s-eq1.false c.requires.1 (omega arith))
