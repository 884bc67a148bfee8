-- Each sibling is read with the page beside it.
use Prim.Native.Nat.{ℕ}
use mathlib.Core.Bool.{Bool}
use mathlib.Core.List.{reverse}
use mathlib.Core.Path.{sym, ◌∙◌}
use native.Mathlib.Omega.{arith}
use borrow.Author.Rules.{rules}
use lib.Dec.{eqb}
use lib.ListN.{length-reverse}
use Rattle.std.proofs.lemmas.Iterator.{YieldsList-from_slice, YieldsList-from_zip}
use Rattle.std.proofs.lemmas.Iterator.Search.{all_from_yields_List}
use Rattle.std.proofs.lemmas.Iterator.Adapters.{YieldsList-from_rev_slice, serves_from_places}
use Rattle.pool.specs.Pool.{page_at}
use Rattle.footing.proofs.LookLaws.{known_first, known_second}
use Rattle.footing.proofs.KeepLaws.{too_many, levels_listed, held_beside}
use Rattle.footing.proofs.looking.same_levels.Goals as goal

pub all-requires-clause-callable : goal.all-requires-clause-callable
all-requires-clause-callable c =
    serves_from_places (YieldsList-from_zip (YieldsList-from_rev_slice c.args.path.now (search rules)) (YieldsList-from_slice c.args.beside.now (search rules))) (λ x q k. search rules)
    (λ x i h e.
    let held = held_beside c.args.path.now c.args.beside.now c.requires i h (x.0.now, x.1.now) e in
    let page = (known_first held).in_pool in
    let beside = (known_second held).in_pool in
    search rules)

pub returns-then-path-beside : goal.returns-then-path-beside
returns-then-path-beside c =
    sym (too_many (page_at c.args.shape.k c.args.words.now) (reverse c.args.path.now) c.args.beside.now (omega (arith, length-reverse c.args.path.now, c.if-path-beside.true)))

pub returns : goal.returns
returns c =
    let memory = page_at c.args.shape.k c.args.words.now in
    let test : ℕ × ℕ → Bool = λ e. eqb (memory e.0).level (memory e.1).level in
    all_from_yields_List test c.all.new.self _ c.all.result c.all.ensures.ran
    (YieldsList-from_zip (YieldsList-from_rev_slice c.args.path.now (search rules)) (YieldsList-from_slice c.args.beside.now (search rules)))
    (λ x b q k. search rules)
    ∙ levels_listed memory (reverse c.args.path.now) c.args.beside.now (omega (arith, length-reverse c.args.path.now, c.if-path-beside.false))
