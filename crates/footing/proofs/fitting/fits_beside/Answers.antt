-- The rule for a deletion at its leaf, a test at a time: the operation and its way, the key, what is needed next, and the levels.
use Prim.Native.Nat.{ℕ, ◌+◌, ◌-◌, ◌≤◌}
use mathlib.Core.Bool.{not}
use mathlib.Core.List.{List, [], ◌∷◌, ◌++◌, reverse}
use mathlib.Core.Path.{◌≡◌, sym, ap, ◌∙◌, subst, subst₂}
use native.Mathlib.Omega.{arith}
use borrow.Author.Rules.{rules}
use borrow.Author.Tests.{not-true, not-false}
use lib.ListN.{length, take}
use lib.Seq.{length-take-le}
use Rattle.ground.specs.Limits.{path_holds}
use Rattle.ground.specs.Tests.{padded}
use Rattle.change.specs.Held.{Held, Needing}
use Rattle.change.proofs.HeldLaws.{held_front}
use Rattle.slots.specs.Parts.{key_of, path_of, beside_of, locks_of, sidelocks_of}
use Rattle.footing.specs.Fitting.{same_levels}
use Rattle.footing.proofs.ConvertLaws.{needs_sibling}
use Rattle.pool.specs.Pool.{page_at}
use Rattle.footing.proofs.KeepLaws.{cell_known, leaf_some, needs_taken, beside_needing, beside_added, beside_held, beside_missing, beside_other, beside_levels}
use Rattle.footing.proofs.fitting.fits_beside.Goals.{Start}
use Rattle.footing.proofs.fitting.fits_beside.Goals as goal

-- the path has a page, and the cells are there
some : (c : Start) → 1 ≤ c.args.slot.depth
unfolding path_of
some c = leaf_some (page_at c.args.shape.k c.args.words.now) c.args.slot.path c.args.slot.depth c.requires.slot_value_2

long : (c : Start) → c.args.slot.depth ≤ length c.args.slot.path
unfolding path_holds
long c =
    let cells : length c.args.slot.path ≡ 10 = search rules in
    omega (arith, c.requires.depth_le_path_holds.0)

short : (c : Start) → c.args.slot.breadth ≤ length c.args.slot.beside
unfolding path_holds
short c =
    let cells : length c.args.slot.beside ≡ 10 = search rules in
    omega (arith, c.requires.depth_le_path_holds.1)

-- its pages are those of a deletion at its leaf
stands : (c : Start) → Needing c.args.shape.k c.args.shape.n c.args.words.now (path_of c.args.slot) (beside_of c.args.slot)
unfolding path_of beside_of
stands c =
    let slot = c.args.slot in
    let asks = c.requires.depth_le_path_holds in
    beside_needing (key_of c.args.op) (path_of slot) (beside_of slot) slot.want
    (omega (arith, asks.0, length-take-le slot.depth slot.path (long c)))
    (omega (arith, asks.1, length-take-le slot.breadth slot.beside (short c)))
    asks.2 c.requires.slot_value c.requires.slot_value_2

-- the siblings' cells, with the wanted page behind them
added : (c : Start) {wider : List ℕ} → wider ≡ padded path_holds (take c.args.slot.breadth c.args.slot.beside ++ c.args.slot.want ∷ [])
    → take (c.args.slot.breadth + 1) wider ≡ take c.args.slot.breadth c.args.slot.beside ++ c.args.slot.want ∷ []
added c e =
    let slot = c.args.slot in
    beside_added slot.beside slot.breadth slot.want (short c) e

pub look_of-requires : goal.look_of-requires
unfolding path_of beside_of
look_of-requires c =
    let slot = c.args.slot in
    let start = (goal.at.look_of-requires c).Start in
    let known = cell_known slot.path slot.depth (long start) (held_front (path_of slot) (beside_of slot) (stands start).held) (slot.depth - 1) (omega (arith, some start)) in
    record { in_pool = known.in_pool; readable = known.readable; p_value = known.facts.rising }

pub returns-then-is_none : goal.returns-then-is_none
unfolding path_of beside_of
returns-then-is_none c =
    let slot = c.args.slot in
    let start = (goal.at.returns-then-is_none c).Start in
    beside_missing c.args.shape.k c.args.words.now slot.path slot.depth slot.beside slot.breadth (some start) (long start) (locks_of slot) (sidelocks_of slot) slot.want slot.lock
    c.in-Delete.is (sym c.is_second.ensures ∙ c.if-is_second.false) c.look_of.ensures (c.is_none.ensures ∙ ap not c.if-is_none.true)

pub returns-then-ne : goal.returns-then-ne
unfolding path_of beside_of
returns-then-ne c =
    let slot = c.args.slot in
    let start = (goal.at.returns-then-ne c).Start in
    beside_other c.args.shape.k c.args.words.now slot.path slot.depth slot.beside slot.breadth (some start) (long start) (locks_of slot) (sidelocks_of slot) slot.want slot.lock
    c.in-Delete.is (sym c.is_second.ensures ∙ c.if-is_second.false)
    (c.needs.ensures ∙ needs_taken c.args.shape.k (page_at c.args.shape.k c.args.words.now) c.in-Delete.x slot.path slot.depth (some start) (long start) c.path_pages-path.ensures c.beside_pages.ensures)
    (sym (needs_sibling _ c.needs.result slot.want) ∙ not-true _ (sym c.ne.ensures ∙ c.if-ne.true))

pub overflow_sub-slot : goal.overflow_sub-slot
overflow_sub-slot c = some (goal.at.overflow_sub-slot c).Start

pub needs-requires : goal.needs-requires
needs-requires c =
    subst₂ (Needing c.args.shape.k c.args.shape.n c.args.words.now) (sym c.path_pages-path.ensures) (sym c.beside_pages.ensures) (stands (goal.at.needs-requires c).Start)

pub same_levels-requires : goal.same_levels-requires
unfolding path_of beside_of
same_levels-requires c =
    let slot = c.args.slot in
    subst (λ (path : List ℕ). Held c.args.shape.k c.args.shape.n c.args.words.now (path ++ take (slot.breadth + 1) c.with_page-siblings.result)) (sym c.path_pages-path.ensures)
    (beside_held (path_of slot) (beside_of slot) slot.want (added (goal.at.same_levels-requires c).Start c.with_page-siblings.ensures) c.requires.depth_le_path_holds.2)

pub returns : goal.returns
unfolding path_of beside_of
returns c =
    let slot = c.args.slot in
    let start = (goal.at.returns c).Start in
    let memory = page_at c.args.shape.k c.args.words.now in
    beside_levels c.args.shape.k c.args.words.now slot.path slot.depth slot.beside slot.breadth (some start) (long start) (locks_of slot) (sidelocks_of slot) slot.want slot.lock
    c.in-Delete.is (sym c.is_second.ensures ∙ c.if-is_second.false)
    (c.needs.ensures ∙ needs_taken c.args.shape.k memory c.in-Delete.x slot.path slot.depth (some start) (long start) c.path_pages-path.ensures c.beside_pages.ensures)
    c.look_of.ensures (c.is_none.ensures ∙ ap not c.if-is_none.false)
    (sym (needs_sibling _ c.needs.result slot.want) ∙ not-false _ (sym c.ne.ensures ∙ c.if-ne.false))
    (c.same_levels.ensures ∙ ap (λ (path : List ℕ). same_levels memory (reverse path) (take (slot.breadth + 1) c.with_page-siblings.result)) c.path_pages-path.ensures)
    (added start c.with_page-siblings.ensures)
