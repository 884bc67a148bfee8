-- The walk from page 0, and then every page has a mark.
use Prim.Native.Nat.{ℕ, ◌-◌}
use mathlib.Core.Path.{sym, ap, ◌∙◌}
use Rattle.ground.specs.Limits.{word_range}
use Rattle.pool.specs.Pool.{page_at}
use Rattle.opening.specs.Opening.{met}
use Rattle.opening.specs.Marks.{marked_by}
use Rattle.opening.proofs.WalkLaws.{walked}
use Rattle.opening.proofs.TreeLaws.{walk_passes}
use Rattle.opening.proofs.checking.is_tree.Goals as goal

pub returns-then-hangs : goal.returns-then-hangs
unfolding word_range
returns-then-hangs c =
    let memory = page_at c.args.shape.k c.args.words.now in
    let walk = c.hangs in
    let good = c.if-hangs.true in
    let level = sym c.level_of-level.ensures in
    c.all_marked.ensures
    ∙ walk_passes c.requires.all_sound c.args.marks.now c.requires.n_in_bounds c.requires.by_index
    (ap (λ (l : ℕ). walked memory (l - 1) 0 0 word_range c.args.marks.now) level ∙ sym walk.ensures.value ∙ good)
    _ (walk.ensures.marks_after good ∙ ap (λ (l : ℕ). marked_by (met memory (l - 1) 0) c.args.marks.now) (sym level))
