-- Each page but the last is read with the one behind it.
use Prim.Native.Nat.{ℕ}
use mathlib.Core.Bool.{Bool}
use mathlib.Core.List.{List}
use mathlib.Core.Path.{sym, ◌∙◌}
use borrow.Author.Rules.{rules}
use lib.ListN.{get_or}
use Rattle.std.proofs.lemmas.Iterator.Search.{all_from_yields_List}
use Rattle.std.proofs.lemmas.Iterator.Adapters.{serves_from_places}
use Rattle.pool.specs.Pool.{page_at}
use Rattle.footing.proofs.LookLaws.{leads_left, links_given, links_listed, leftmost_chain, held_link}
use Rattle.footing.proofs.looking.leftmost.Goals as goal

pub all-requires-clause-callable : goal.all-requires-clause-callable
all-requires-clause-callable c =
    serves_from_places (links_given c.args.way.now (search rules) (search rules)) (λ x q k. search rules)
    (λ x i h e. let held = held_link c.requires i h x.now e in search rules)

pub returns : goal.returns
returns c =
    let memory = page_at c.args.shape.k c.args.words.now in
    let test : List ℕ → Bool = λ e. leads_left memory (get_or e 0 0) (get_or e 1 0) in
    all_from_yields_List test _ _ c.all.result c.all.ensures.ran (links_given c.args.way.now (search rules) (search rules)) (λ x b q k. search rules)
    ∙ links_listed (leads_left memory) c.args.way.now
    ∙ sym (leftmost_chain memory c.args.way.now)
