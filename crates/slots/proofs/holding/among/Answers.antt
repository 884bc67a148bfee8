-- The library looks for p in as many of the cells as there are.
use Prim.Native.Nat.{ℕ, min}
use mathlib.Core.Path.{◌≡◌, sym, ap, ◌∙◌}
use lib.ListN.{length, take}
use borrow.Author.Rules.{rules}
use Rattle.std.proofs.lemmas.List.{take_min}
use Rattle.ground.specs.Tests.{member}
use Rattle.ground.proofs.Tests.{member_any}
use Rattle.slots.proofs.holding.among.Goals as goal

pub returns : goal.returns
returns c =
    let p = c.args.p in
    let count = c.args.count in
    let cells = c.args.cells in
    let ten : length cells ≡ 10 = search rules in
    let few = ap (λ (n : ℕ). take n cells) c.min.ensures ∙ ap (λ (n : ℕ). take (min count n) cells) (sym ten) ∙ take_min count cells in
    c.contains.ensures.value ∙ member_any p (take c.min.result cells) ∙ ap (member p) few
