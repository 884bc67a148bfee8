-- `cut_key` reads the key of pair c from the buffer.
use native.Mathlib.Omega.{arith}
use Rattle.sheet.proofs.LayLaws.{cut_between}
use Rattle.sheet.proofs.sheets.cut_key.Goals.{Start}
use Rattle.sheet.proofs.sheets.cut_key.Goals as goal

pub returns : goal.returns
returns c =
    let s = c.args.s in
    cut_between c.args.c s.level s.first s.count s.pairs c.requires.0 (omega arith)
