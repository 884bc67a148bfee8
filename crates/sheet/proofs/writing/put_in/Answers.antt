-- `put_in` counts one more and puts two words in before pair i: the words of the page with the pair more.
use Prim.Native.Nat.{◌≤◌}
use mathlib.Core.Path.{refl, ◌∙◌}
use native.Mathlib.Omega.{arith}
use lib.ListN.{length-set}
use Rattle.sheet.proofs.WritingLaws.{Bounds, bounds, small_k, put_exact}
use Rattle.sheet.proofs.writing.put_in.Goals.{Start}
use Rattle.sheet.proofs.writing.put_in.Goals as goal

near : (c : Start) → Bounds c.args.k c.args.w.now
near c = bounds c.requires.exact

small : (c : Start) → c.args.k ≤ 16
small c = small_k c.requires.k_le_largest_k.0

pub overflow_add-w : goal.overflow_add-w
overflow_add-w c = omega (arith, near (goal.at.overflow_add-w c).Start, small (goal.at.overflow_add-w c).Start)

pub push_two-requires : goal.push_two-requires
push_two-requires c = simp length-set (omega (arith, near (goal.at.push_two-requires c).Start, small (goal.at.push_two-requires c).Start))

pub returns : goal.returns
returns c =
    c.push_two.ensures
    ∙ put_exact c.requires.exact c.args.i c.pairs_from-at.ensures c.args.x c.args.v c.requires.k_le_largest_k.1 c.requires.k_le_largest_k.2 refl
