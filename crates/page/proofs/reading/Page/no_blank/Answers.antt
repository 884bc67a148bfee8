-- Where keys rise, the first alone can be that of a blank tag.
use mathlib.Core.Bool.{not}
use mathlib.Core.Path.{sym, ap, ◌∙◌}
use lib.Dec.{eqb}
use native.Mathlib.Omega.{arith}
use Prim.Native.Nat.{ℕ}
use borrow.Author.Tests.{eq-eqb}
use Rattle.ground.specs.Limits.{blank_key}
use Rattle.page.specs.Words.{view}
use Rattle.page.proofs.ReadingLaws.{readable_μ}
use Rattle.page.proofs.CheckingLaws.{no_keys, first_tells}
use Rattle.page.proofs.reading.Page.no_blank.Goals as goal

pub returns-then-count-eq0 : goal.returns-then-count-eq0
returns-then-count-eq0 c =
    let ws = c.args.self.words.now in
    eq-eqb _ _ c.if-count-eq0.true
    ∙ sym (no_keys (view ws).entries (readable_μ ws c.args.self.readable ∙ sym c.count.ensures ∙ c.if-count-eq0.true))

pub returns-else-count-eq0 : goal.returns-else-count-eq0
unfolding blank_key
returns-else-count-eq0 c =
    let ws = c.args.self.words.now in
    ap (λ (x : ℕ). not (eqb x blank_key)) c.key.ensures
    ∙ first_tells (view ws).entries c.requires (omega (arith, readable_μ ws c.args.self.readable, c.count.ensures, c.if-count-eq0.false))
