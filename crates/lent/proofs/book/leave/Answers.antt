-- The slots behind s move one cell forward, and the last cell takes what is given.
use Rattle.lent.proofs.WritingLaws.{closed_up}
use mathlib.Core.List.{List, ◌∷◌, ◌++◌}
use mathlib.Core.Path.{sym, ap, ◌∙◌}
use lib.ListN.{drop, set}
use Prim.Native.Nat.{ℕ, ◌-◌}
use Rattle.lent.proofs.book.leave.Goals as goal

pub returns : goal.returns
returns c =
    let order = c.args.order.now in
    let at = c.standing-at.result in
    ap (λ (l : List ℕ). set l (c.args.waiting - 1) c.args.last) c.copy_within.ensures.after
    ∙ closed_up order at c.args.waiting c.args.last c.standing-at.ensures.0 c.requires.0
    ∙ ap (λ (l : List ℕ). l ++ c.args.last ∷ drop c.args.waiting order) (sym c.standing-at.ensures.1)
