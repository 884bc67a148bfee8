-- `rekey` stores one word, the key's: of the words cut before pair i the first.
use native.Mathlib.Omega.{arith}
use Rattle.sheet.proofs.WritingLaws.{Bounds, bounds, rekey_exact}
use Rattle.sheet.proofs.writing.rekey.Goals.{Start}
use Rattle.sheet.proofs.writing.rekey.Goals as goal

near : (c : Start) → Bounds c.args.k c.args.w.now
near c = bounds c.requires.exact

pub overflow_mul-w : goal.overflow_mul-w
overflow_mul-w c = omega (arith, near (goal.at.overflow_mul-w c).Start)

pub overflow_add-w : goal.overflow_add-w
overflow_add-w c = omega (arith, near (goal.at.overflow_add-w c).Start)

pub offset_bounds-w-at : goal.offset_bounds-w-at
offset_bounds-w-at c = omega (arith, near (goal.at.offset_bounds-w-at c).Start)

pub bounds-w-at : goal.bounds-w-at
bounds-w-at c = omega (arith, near (goal.at.bounds-w-at c).Start)

pub returns : goal.returns
returns c = rekey_exact c.requires.exact c.args.i c.pairs_from-at.ensures c.requires.i_bound c.args.r
