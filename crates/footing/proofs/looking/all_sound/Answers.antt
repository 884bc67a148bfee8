-- Each of the pages is read.
use Prim.Native.Nat.{ℕ, ◌<◌}
use mathlib.Core.Bool.{Bool}
use mathlib.Core.Path.{sym, subst, ◌∙◌}
use borrow.Author.Rules.{rules}
use Rattle.pool.specs.Wrapped.{InPool}
use Rattle.std.proofs.lemmas.List.{get_or_default}
use Rattle.std.proofs.lemmas.Iterator.{YieldsList-from_slice}
use Rattle.std.proofs.lemmas.Iterator.Search.{all_from_yields_List}
use Rattle.std.proofs.lemmas.Iterator.Adapters.{serves_from_places}
use Rattle.footing.specs.Fitting.{pages_sound}
use Rattle.footing.proofs.LookLaws.{sound_at, all_listed}
use Rattle.footing.proofs.looking.all_sound.Goals as goal

pub all-requires-clause-callable : goal.all-requires-clause-callable
all-requires-clause-callable c =
    serves_from_places (YieldsList-from_slice c.args.pages.now (search rules)) (λ x q k. search rules)
    (λ x i h e.
    let asked = c.requires.k_le_largest_k in
    let inside : x.now < c.args.shape.n = subst (λ (p : ℕ). p < c.args.shape.n) (sym (e ∙ get_or_default c.args.pages.now i x.now 0 h)) (c.requires.by_index i h) in
    let known : InPool c.args.shape.k c.args.shape.n x.now c.args.words.now =
    record { width = asked.0; most = asked.1; whole = asked.2; inside = inside } in
    search rules)

pub returns : goal.returns
unfolding pages_sound
returns c =
    let test : ℕ → Bool = sound_at c.args.shape.k c.args.shape.n c.args.words.now in
    all_from_yields_List test _ _ c.all.result c.all.ensures.ran (YieldsList-from_slice c.args.pages.now (search rules)) (λ x b q k. search rules)
    ∙ all_listed test c.args.pages.now
