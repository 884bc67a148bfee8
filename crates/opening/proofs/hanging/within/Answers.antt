-- The last key tells, since keys rise.
use Prim.Native.Nat.{ℕ, ◌-◌}
use mathlib.Core.Path.{ap, ◌∙◌}
use native.Mathlib.Omega.{arith}
use lib.Dec.{ltb}
use Rattle.page.proofs.RiseLaws.{key_at}
use Rattle.pool.specs.Pool.{page_at}
use Rattle.opening.proofs.PageLaws.{page_sound, within_ends}
use Rattle.opening.proofs.hanging.within.Goals as goal

pub returns-then-low-from : goal.returns-then-low-from
returns-then-low-from c =
    let es = (page_at c.args.shape.k c.args.words.now c.args.p).entries in
    let count = c.count_of-m.ensures in
    let last = c.from-then-low-from.ensures ∙ c.key_of-then-low-from.ensures ∙ ap (λ (m : ℕ). key_at (m - 1) es) count in
    ap (λ (x : ℕ). ltb x c.args.high) last
    ∙ within_ends c.args.low c.args.high es (page_sound c.requires.walk c.requires.fact).rising (omega arith) (omega arith)
