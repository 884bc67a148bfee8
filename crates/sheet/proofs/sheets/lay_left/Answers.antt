-- `lay_left` lays a sheet's first c pairs.
use mathlib.Core.Path.{ap, ◌∙◌}
use native.Mathlib.Omega.{arith}
use Rattle.page.specs.Words.{encode}
use Rattle.sheet.proofs.WritingLaws.{small_k}
use Rattle.sheet.proofs.LayLaws.{cut_left}
use Rattle.sheet.proofs.sheets.lay_left.Goals as goal

pub lay_run-requires : goal.lay_run-requires
lay_run-requires c = omega (arith, small_k c.requires.3)

pub returns : goal.returns
returns c =
    let s = c.args.s in
    c.lay_run.ensures ∙ ap (encode c.args.k) (cut_left c.args.c s.level s.first s.count s.pairs (omega arith))
