-- `lay` lays all of a sheet's pairs.
use native.Mathlib.Omega.{arith}
use Rattle.sheet.proofs.WritingLaws.{small_k}
use Rattle.sheet.proofs.sheets.lay.Goals as goal

pub lay_run-requires : goal.lay_run-requires
lay_run-requires c = omega (arith, small_k c.requires.2)
