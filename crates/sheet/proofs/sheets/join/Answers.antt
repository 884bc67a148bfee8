-- `join` gathers the pairs of the left page, above the leaves the father's key with the right page's p0, and the pairs of the
-- right page.
use mathlib.Core.Path.{refl, ◌∙◌}
use native.Mathlib.Omega.{arith}
use lib.ListN.{replicate, length-set}
use Rattle.sheet.proofs.WritingLaws.{Bounds, bounds}
use Rattle.sheet.proofs.SheetLaws.{join_leaves, join_uppers}
use Rattle.sheet.proofs.sheets.join.Goals.{Start}
use Rattle.sheet.proofs.sheets.join.Goals as goal

left : (c : Start) → Bounds c.args.k c.args.l.now
left c = bounds c.requires.exact.0

right : (c : Start) → Bounds c.args.k c.args.w.now
right c = bounds c.requires.exact.1

pub copy_words-requires : goal.copy_words-requires
copy_words-requires c = omega (arith, left (goal.at.copy_words-requires c).Start, right (goal.at.copy_words-requires c).Start)

pub copy_words-requires-then-level-eq1 : goal.copy_words-requires-then-level-eq1
copy_words-requires-then-level-eq1 c = omega (arith, left (goal.at.copy_words-requires-then-level-eq1 c).Start, right (goal.at.copy_words-requires-then-level-eq1 c).Start)

pub returns-then-level-eq1 : goal.returns-then-level-eq1
returns-then-level-eq1 c =
    join_leaves c.requires.exact.0 c.requires.exact.1 c.requires.l_value.0 c.args.r (replicate 100 0) c.pairs_from.ensures refl
    refl c.copy_words.ensures c.if-level-eq1.true c.copy_words-then-level-eq1.ensures
    (c.copy_words-then-level-eq1.auto.dst ∙ c.copy_words.auto.dst)

pub bounds-pairs-c : goal.bounds-pairs-c
bounds-pairs-c c = omega (arith, left (goal.at.bounds-pairs-c c).Start, right (goal.at.bounds-pairs-c c).Start)

pub bounds-pairs-c-2 : goal.bounds-pairs-c-2
bounds-pairs-c-2 c = omega (arith, left (goal.at.bounds-pairs-c-2 c).Start, right (goal.at.bounds-pairs-c-2 c).Start)

pub copy_words-requires-2 : goal.copy_words-requires-2
copy_words-requires-2 c = simp length-set (omega (arith, left (goal.at.copy_words-requires-2 c).Start, right (goal.at.copy_words-requires-2 c).Start))

pub returns : goal.returns
returns c =
    join_uppers c.requires.exact.0 c.requires.exact.1 c.requires.l_value.0 c.args.r (replicate 100 0) c.pairs_from.ensures refl
    refl c.copy_words.ensures c.if-level-eq1.false (omega (arith, left (goal.at.returns c).Start, right (goal.at.returns c).Start)) c.copy_words-2.ensures
    (c.copy_words-2.auto.dst ∙ simp length-set c.copy_words.auto.dst)
