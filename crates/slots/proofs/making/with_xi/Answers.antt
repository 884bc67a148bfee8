-- The loop's invariant: the first i kinds are copied, with ξ where page p stands, and no lock stands behind them.
use mathlib.Core.Path.{◌≡◌, ap₂, ◌∙◌}
use mathlib.Core.List.{List}
use native.Mathlib.Omega.{arith}
use lib.ListN.{set, get_or}
use borrow.Author.Tests.{eq-eqb, ne_eqb}
use Rattle.ground.specs.Limits.{path_holds}
use Rattle.slots.specs.declared.Under.{Under}
use Rattle.slots.specs.declared.Lock.TheVariants.{None}
use Rattle.slots.specs.Parts.{under, xi_on}
use Rattle.slots.proofs.MakingLaws.{xi_more}
use Rattle.slots.proofs.making.with_xi.Goals.{then-p-pages, else-p-pages}
use Rattle.slots.proofs.making.with_xi.Goals as goal

pub loop-i-preserved : goal.loop-i-preserved
unfolding path_holds
loop-i-preserved c =
    let i = c.loop-i.i in
    let inv = c.loop-i.invariant in
    let p = c.args.p in
    let q = get_or c.args.pages i 0 in
    let u : Under = get_or c.args.locks i (under None) in
    let is : c.if-p-pages.next ≡ xi_on p q u = elim c.if-p-pages.branch [
      | then-p-pages w ↦ w.next-is ∙ rw (eq-eqb p q w.if-p-pages.true)
      | else-p-pages w ↦ w.next-is ∙ rw (ne_eqb p q w.if-p-pages.false)
    ] in (
      omega arith,
      ap₂ (λ (l : List Under) (v : Under). set l i v) inv.1 is ∙ xi_more path_holds c.args.pages c.args.locks p i (omega arith) (omega arith) (omega arith),
      inv.2,
      inv.3,
    )
