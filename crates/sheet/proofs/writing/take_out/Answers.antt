-- `take_out` counts one less and takes out the two words of pair i: the words of the page less the pair.
use mathlib.Core.Path.{refl, ◌∙◌}
use native.Mathlib.Omega.{arith}
use lib.ListN.{length-set}
use Rattle.sheet.proofs.WritingLaws.{Bounds, bounds, pull_exact}
use Rattle.sheet.proofs.writing.take_out.Goals.{Start}
use Rattle.sheet.proofs.writing.take_out.Goals as goal

near : (c : Start) → Bounds c.args.k c.args.w.now
near c = bounds c.requires.exact

pub overflow_sub-w : goal.overflow_sub-w
overflow_sub-w c = omega (arith, near (goal.at.overflow_sub-w c).Start)

pub overflow_mul-i : goal.overflow_mul-i
overflow_mul-i c = omega (arith, near (goal.at.overflow_mul-i c).Start)

pub overflow_add-at : goal.overflow_add-at
overflow_add-at c = omega (arith, near (goal.at.overflow_add-at c).Start)

pub pull_two-requires : goal.pull_two-requires
pull_two-requires c = simp length-set (omega (arith, near (goal.at.pull_two-requires c).Start))

pub returns : goal.returns
returns c =
    c.pull_two.ensures
    ∙ pull_exact c.requires.exact c.args.i c.pairs_from-at.ensures c.requires.i_bound refl
