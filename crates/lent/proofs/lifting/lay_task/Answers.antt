-- Three rows, one behind the other.
use Rattle.lent.specs.Layout.{kind_row, key_row, information_row}
use Rattle.lent.specs.Words.{address, spread}
use lib.ListN.{set}
use Rattle.lent.proofs.lifting.lay_task.Goals as goal

pub returns : goal.returns
unfolding spread
returns c =
    let ws = c.args.cells.now in
    let s = c.args.s in
    λ i. set (set (set ws (address kind_row s) (c.numbers_of-kind.ensures.0 i)) (address key_row s) (c.numbers_of-kind.ensures.1 i)) (address information_row s) (c.numbers_of-kind.ensures.2 i)
