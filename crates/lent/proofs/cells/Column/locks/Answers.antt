-- The first kinds are copied, and none stands behind them.
use Rattle.lent.proofs.StateLaws.{length_locks, lock_cell, filled_whole}
use Rattle.lent.specs.Layout.{column_length}
use Rattle.lent.specs.Words.{number_in, lock_column}
use Rattle.slots.specs.declared.Lock.TheVariants.{None}
use Rattle.slots.specs.declared.Under.{Under}
use Rattle.slots.specs.Heard.{lock_named}
use Rattle.slots.specs.Parts.{under}
use Rattle.ground.proofs.Padded.{filled_more}
use Rattle.ground.specs.Tests.{filled}
use lib.ListN.{length, get_or, set}
use native.Mathlib.Omega.{arith}
use mathlib.Core.List.{List}
use mathlib.Core.Path.{◌≡◌, sym, ap, ◌∙◌}
use Prim.Native.Nat.{ℕ}
use borrow.Author.Rules.{rules}
use Rattle.lent.proofs.cells.Column.locks.Goals as goal

pub loop-j-init : goal.loop-j-init
unfolding filled
loop-j-init c = search rules

pub loop-j-preserved : goal.loop-j-preserved
loop-j-preserved c =
    let j : ℕ = c.loop-j.j in
    let col : List Under = lock_column c.args.self.cells.now c.args.row c.args.self.s in
    let long : length col ≡ column_length = length_locks c.args.self.cells.now c.args.row c.args.self.s in (
      omega arith,
      ap (λ (u : Under). set c.loop-j.locks j u)
          (ap under (c.read_lock.ensures ∙ ap lock_named (c.number_in.ensures ∙ ap number_in c.word.ensures))
          ∙ sym (lock_cell c.args.self.cells.now c.args.row c.args.self.s j (omega arith)))
          ∙ ap (λ (l : List Under). set l j (get_or col j (under None))) c.loop-j.invariant.1
          ∙ filled_more (under None) column_length col j (omega arith) (omega arith),
    )

pub returns : goal.returns
returns c =
    let col : List Under = lock_column c.args.self.cells.now c.args.row c.args.self.s in
    let long : length col ≡ column_length = length_locks c.args.self.cells.now c.args.row c.args.self.s in
    c.loop-j.invariant.1 ∙ filled_whole (under None) col c.loop-j.j long (omega arith)
