-- The rows passed stand in the array, and 0 behind them.
use Rattle.lent.proofs.StateLaws.{length_column, column_cell, filled_whole}
use lib.ListN.{get_or, length}
use mathlib.Core.Path.{sym}
use Rattle.lent.specs.Layout.{column_length}
use Rattle.lent.specs.Words.{page_in, column}
use Rattle.slots.proofs.MakingLaws.{padded_more}
use Rattle.ground.specs.Tests.{filled}
use lib.ListN.{set}
use native.Mathlib.Omega.{arith}
use mathlib.Core.List.{List}
use mathlib.Core.Path.{◌≡◌, ◌∙◌, ap}
use Prim.Native.Nat.{ℕ}
use borrow.Author.Rules.{rules}
use Rattle.lent.proofs.cells.Column.pages.Goals as goal

pub loop-j-init : goal.loop-j-init
unfolding filled
loop-j-init c = search rules

pub loop-j-preserved : goal.loop-j-preserved
loop-j-preserved c =
    let j : ℕ = c.loop-j.j in
    let col : List ℕ = column c.args.self.cells.now c.args.row c.args.self.s in
    let long : length col ≡ column_length = length_column c.args.self.cells.now c.args.row c.args.self.s in (
      omega arith,
      ap (λ (x : ℕ). set c.loop-j.pages j x) (c.page_in.ensures ∙ ap page_in c.word.ensures ∙ sym (column_cell c.args.self.cells.now c.args.row c.args.self.s j (omega arith)))
          ∙ ap (λ (l : List ℕ). set l j (get_or col j 0)) c.loop-j.invariant.1
          ∙ padded_more column_length col j (omega arith) (omega arith),
    )

pub returns : goal.returns
returns c =
    let col : List ℕ = column c.args.self.cells.now c.args.row c.args.self.s in
    let long : length col ≡ column_length = length_column c.args.self.cells.now c.args.row c.args.self.s in
    c.loop-j.invariant.1 ∙ filled_whole 0 col c.loop-j.j long (omega arith)
