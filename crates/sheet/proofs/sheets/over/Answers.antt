-- `over` gathers the pairs before place i, the new pair, and the others.
use Prim.Native.Nat.{◌≤◌}
use mathlib.Core.Path.{refl, ◌∙◌}
use native.Mathlib.Omega.{arith}
use lib.ListN.{replicate, length-set}
use Rattle.sheet.proofs.WritingLaws.{Bounds, bounds, small_k}
use Rattle.sheet.proofs.SheetLaws.{over_exact}
use Rattle.sheet.proofs.sheets.over.Goals.{Start}
use Rattle.sheet.proofs.sheets.over.Goals as goal

near : (c : Start) → Bounds c.args.k c.args.w.now
near c = bounds c.requires.exact

small : (c : Start) → c.args.k ≤ 16
small c = small_k c.requires.k_le_largest_k.0

pub overflow_mul-c : goal.overflow_mul-c
overflow_mul-c c = omega (arith, near (goal.at.overflow_mul-c c).Start, small (goal.at.overflow_mul-c c).Start)

pub copy_words-requires : goal.copy_words-requires
copy_words-requires c = omega (arith, near (goal.at.copy_words-requires c).Start, small (goal.at.copy_words-requires c).Start)

pub offset_bounds-pairs-c : goal.offset_bounds-pairs-c
offset_bounds-pairs-c c = omega (arith, near (goal.at.offset_bounds-pairs-c c).Start, small (goal.at.offset_bounds-pairs-c c).Start)

pub bounds-pairs-c : goal.bounds-pairs-c
bounds-pairs-c c = omega (arith, near (goal.at.bounds-pairs-c c).Start, small (goal.at.bounds-pairs-c c).Start)

pub overflow_add-pairs : goal.overflow_add-pairs
overflow_add-pairs c = omega (arith, near (goal.at.overflow_add-pairs c).Start, small (goal.at.overflow_add-pairs c).Start)

pub offset_bounds-pairs-c-2 : goal.offset_bounds-pairs-c-2
offset_bounds-pairs-c-2 c = omega (arith, near (goal.at.offset_bounds-pairs-c-2 c).Start, small (goal.at.offset_bounds-pairs-c-2 c).Start)

pub bounds-pairs-c-2 : goal.bounds-pairs-c-2
bounds-pairs-c-2 c = omega (arith, near (goal.at.bounds-pairs-c-2 c).Start, small (goal.at.bounds-pairs-c-2 c).Start)

pub overflow_add-at : goal.overflow_add-at
overflow_add-at c = omega (arith, near (goal.at.overflow_add-at c).Start, small (goal.at.overflow_add-at c).Start)

pub overflow_add-c : goal.overflow_add-c
overflow_add-c c = omega (arith, near (goal.at.overflow_add-c c).Start, small (goal.at.overflow_add-c c).Start)

pub overflow_sub-m : goal.overflow_sub-m
overflow_sub-m c = omega (arith, near (goal.at.overflow_sub-m c).Start, small (goal.at.overflow_sub-m c).Start)

pub copy_words-requires-2 : goal.copy_words-requires-2
copy_words-requires-2 c = simp length-set (omega (arith, near (goal.at.copy_words-requires-2 c).Start, small (goal.at.copy_words-requires-2 c).Start))

pub returns : goal.returns
returns c =
    over_exact c.requires.exact c.args.i c.args.x c.args.v (replicate 100 0) (small (goal.at.returns c).Start) c.requires.k_le_largest_k.1 c.pairs_from-at.ensures
    refl c.first_of.ensures refl c.copy_words.ensures c.copy_words-2.ensures
    (c.copy_words-2.auto.dst ∙ simp length-set c.copy_words.auto.dst)
