-- The top page of the path, and then those below it, are read as in the rule.
use Prim.Native.Nat.{ℕ}
use mathlib.Core.Bool.{Bool, true, ◌||◌}
use mathlib.Core.List.{List}
use mathlib.Core.Path.{◌≡◌, sym, ◌∙◌}
use borrow.Author.Rules.{rules}
use borrow.Author.Tests.{eq-eqb}
use lib.Dec.{eqb}
use lib.ListN.{get_or, drop}
use Rattle.std.proofs.lemmas.Iterator.{YieldsList-from_slice}
use Rattle.std.proofs.lemmas.Iterator.Search.{all_from_yields_List}
use Rattle.std.proofs.lemmas.Iterator.Adapters.{serves_from_places}
use Rattle.ground.proofs.Bools.{or_first, or_second}
use Rattle.pool.specs.Pool.{page_at}
use Rattle.footing.specs.Granted.{is_safe}
use Rattle.footing.proofs.LookLaws.{all_listed}
use Rattle.footing.proofs.KeepLaws.{page_known, page_below, unsafe, below_top, kept_by}
use Rattle.footing.proofs.looking.rightly_kept.Goals.{then-top-eq0, else-top-eq0}
use Rattle.footing.proofs.looking.rightly_kept.Goals as goal

pub is_safe-requires : goal.is_safe-requires
is_safe-requires c =
    let known = page_known c.requires 0 c.in-len1-up.len_at_least in
    record { in_pool = known.in_pool; readable = known.readable; p_value = known.facts.rising }

pub all-requires-clause-callable : goal.all-requires-clause-callable
all-requires-clause-callable c =
    let pages : List ℕ = c.args.path.now in
    serves_from_places (YieldsList-from_slice (drop 1 pages) (c.iter.ensures.rest ∙ below_top pages)) (λ x q k. search rules)
    (λ x i h e. let known = page_below c.requires i x.now h e in search rules)

pub returns-then-is_safe : goal.returns-then-is_safe
returns-then-is_safe c =
    let pages : List ℕ = c.args.path.now in
    let top = get_or pages 0 0 in
    let memory = page_at c.args.shape.k c.args.words.now in
    let test : ℕ → Bool = unsafe c.args.op c.args.shape.k memory in
    let kept : eqb top 0 || is_safe c.args.op c.args.shape.k (memory top) ≡ true =
    (elim c.if-top-eq0.branch [
      | then-top-eq0 w ↦ or_first (is_safe c.args.op c.args.shape.k (memory top)) (eq-eqb top 0 w.if-top-eq0.true)
      | else-top-eq0 w ↦ or_second (eqb top 0) (sym w.is_safe.ensures ∙ sym w.value-is ∙ c.if-is_safe.true)
    ]) in
    all_from_yields_List test _ _ c.all.result c.all.ensures.ran (YieldsList-from_slice (drop 1 pages) (c.iter.ensures.rest ∙ below_top pages)) (λ x b q k. search rules)
    ∙ all_listed test (drop 1 pages)
    ∙ sym (kept_by c.args.op c.args.shape.k memory pages c.args.want c.in-len1-up.len_at_least kept)
