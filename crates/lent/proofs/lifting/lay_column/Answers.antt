-- The words passed are written down the column.
use Rattle.lent.proofs.SpreadLaws.{spread_none, spread_more}
use Rattle.lent.proofs.StateLaws.{length_hold, hold_cell}
use Rattle.lent.specs.Layout.{column_length}
use Rattle.lent.specs.Words.{spread, address, hold_words}
use lib.Seq.{take_all}
use lib.ListN.{length, get_or, set}
use native.Mathlib.Omega.{arith}
use mathlib.Core.List.{List}
use mathlib.Core.Path.{◌≡◌, ◌∙◌, sym, ap}
use Prim.Native.Nat.{ℕ, ◌+◌}
use Rattle.lent.proofs.lifting.lay_column.Goals as goal

pub loop-j-init : goal.loop-j-init
loop-j-init c = (omega arith, spread_none c.args.cells.now c.args.row c.args.s (hold_words c.args.pages c.args.locks))

pub loop-j-preserved : goal.loop-j-preserved
loop-j-preserved c =
    let j : ℕ = c.loop-j.j in
    let words : List ℕ = hold_words c.args.pages c.args.locks in
    let long : length words ≡ column_length = length_hold c.args.pages c.args.locks in (
      omega arith,
      c.put.ensures
          ∙ ap (set c.loop-j.cells (address (c.args.row + j) c.args.s)) (c.hold_word.ensures ∙ sym (hold_cell c.args.pages c.args.locks j (omega arith)))
          ∙ ap (λ (l : List ℕ). set l (address (c.args.row + j) c.args.s) (get_or words j 0)) c.loop-j.invariant.1
          ∙ spread_more c.args.cells.now c.args.row c.args.s words j (omega arith),
    )

pub returns : goal.returns
returns c =
    let words : List ℕ = hold_words c.args.pages c.args.locks in
    let long : length words ≡ column_length = length_hold c.args.pages c.args.locks in
    c.loop-j.invariant.1 ∙ ap (spread c.args.cells.now c.args.row c.args.s) (take_all c.loop-j.j words (omega arith))
