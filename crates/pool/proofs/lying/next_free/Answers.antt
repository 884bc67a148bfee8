-- The scan stands at page p and at its first word; no page from `from` up to p is free. It ends at the first page that
-- is free, or behind the last page.
use Prim.Native.Nat.{ℕ, ◌+◌}
use mathlib.Core.Bool.{false}
use mathlib.Core.List.{List}
use mathlib.Core.Path.{◌≡◌, sym, ap, ◌∙◌, subst}
use native.Mathlib.Numerals.{add-one}
use native.Mathlib.Omega.{arith}
use Rattle.ground.specs.Tests.{first_below}
use Rattle.ground.proofs.Tests.{first_below_goes_on}
use Rattle.page.specs.Words.{size}
use Rattle.pool.specs.Pool.{start, free_from}
use Rattle.pool.proofs.StretchLaws.{start_suc}
use Rattle.pool.proofs.LyingLaws.{scan_passes}
use Rattle.pool.proofs.lying.next_free.Goals as goal

pub loop-p-preserved : goal.loop-p-preserved
loop-p-preserved c =
    let k : ℕ = c.args.shape.k in
    let p : ℕ = c.loop-p.p in
    let from : ℕ = c.args.from in
    let ws : List ℕ = c.args.words.now in
    let passed : free_from k ws from p ≡ false = scan_passes k ws from p c.loop-p.at c.loop-p.invariant.2 c.if-words-at-eq0.false in
    let none : first_below (p + 1) (free_from k ws from) ≡ p + 1 =
    subst (λ (q : ℕ). first_below q (free_from k ws from) ≡ q) (sym (add-one p))
    (first_below_goes_on (free_from k ws from) p c.loop-p.invariant.3 passed) in
    let next : start k (p + 1) ≡ start k p + size k = ap (start k) (add-one p) ∙ start_suc k p in
    (omega arith, omega arith, omega (arith, c.loop-p.invariant.2, c.page_size-size.ensures), none)
