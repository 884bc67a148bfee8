-- The lock is that of the path, if the page is on it, else that of the siblings.
use Rattle.lent.proofs.HoldLaws.{lock_on_path, lock_beside}
use Rattle.lent.specs.Layout.{path_row, beside_row}
use Rattle.lent.specs.Words.{column, lock_column}
use Rattle.slots.specs.Locks.{lock_among}
use Rattle.ground.specs.Tests.{member}
use lib.ListN.{take}
use mathlib.Core.Path.{sym, ap, ◌∙◌}
use Prim.Native.Nat.{ℕ}
use Rattle.lent.proofs.cells.Column.held_lock.Goals as goal

pub returns-then-has : goal.returns-then-has
returns-then-has c =
    let ws = c.args.self.cells.now in
    let s = c.args.self.s in
    let p = c.args.p in
    let depth = c.depth-depth.ensures in
    c.lock_in.ensures
    ∙ ap (λ (n : ℕ). lock_among p (take n (column ws path_row s)) (take n (lock_column ws path_row s))) depth
    ∙ lock_on_path ws s p (c.requires.path s c.args.self.in_row)
    (ap (λ (n : ℕ). member p (take n (column ws path_row s))) (sym depth) ∙ sym c.has.ensures ∙ c.if-has.true)

pub returns : goal.returns
returns c =
    let ws = c.args.self.cells.now in
    let s = c.args.self.s in
    let p = c.args.p in
    c.lock_in-2.ensures
    ∙ ap (λ (n : ℕ). lock_among p (take n (column ws beside_row s)) (take n (lock_column ws beside_row s))) c.breadth.ensures
    ∙ lock_beside ws s p (c.requires.path s c.args.self.in_row)
    (ap (λ (n : ℕ). member p (take n (column ws path_row s))) (sym (c.depth-depth.ensures)) ∙ sym c.has.ensures ∙ c.if-has.false)
