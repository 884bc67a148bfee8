-- The rule for a Next on its second way, a test at a time: the operation, its leaf, the top page of its path, and the way.
use Prim.Native.Nat.{ℕ, ◌+◌, ◌-◌, ◌≤◌, ◌<◌}
use mathlib.Core.List.{List, [], ◌∷◌, ◌++◌}
use mathlib.Core.Path.{◌≡◌, sym, ap, ◌∙◌}
use native.Mathlib.Omega.{arith}
use borrow.Author.Rules.{rules}
use lib.ListN.{length, get_or, take, length-append}
use Rattle.ground.specs.Limits.{path_holds}
use Rattle.ground.specs.Tests.{padded}
use Rattle.pool.specs.Pool.{page_at}
use Rattle.change.proofs.HeldLaws.{Known, held_front}
use Rattle.slots.specs.Parts.{path_of, beside_of, locks_of, sidelocks_of}
use Rattle.footing.proofs.KeepLaws.{cell_known, leaf_some, beside_added, beside_held}
use Rattle.footing.proofs.AcrossLaws.{held_top_with, across_found, across_ends, across_turns}
use Rattle.footing.proofs.fitting.fits_across.Goals.{Start}
use Rattle.footing.proofs.fitting.fits_across.Goals as goal

-- the path has a page, and its cells are there
some : (c : Start) → 1 ≤ c.args.slot.depth
unfolding path_of
some c = leaf_some (page_at c.args.shape.k c.args.words.now) c.args.slot.path c.args.slot.depth c.requires.slot_value

long : (c : Start) → c.args.slot.depth ≤ length c.args.slot.path
unfolding path_holds
long c =
    let cells : length c.args.slot.path ≡ 10 = search rules in
    omega (arith, c.requires.depth_le_path_holds.0)

on : (c : Start) (i : ℕ) → i < c.args.slot.depth → Known c.args.shape.k c.args.shape.n c.args.words.now (get_or c.args.slot.path i 0)
unfolding path_of
on c i h =
    let slot = c.args.slot in
    cell_known slot.path slot.depth (long c)
    (held_front (path_of slot) (beside_of slot) (held_front (path_of slot ++ beside_of slot) (slot.want ∷ []) c.requires.depth_le_path_holds.2))
    i h

-- the second way's cells, with the wanted page behind them
added : (c : Start) {wider : List ℕ} → wider ≡ padded path_holds (take c.args.slot.breadth c.args.slot.beside ++ c.args.slot.want ∷ [])
    → take (c.args.slot.breadth + 1) wider ≡ take c.args.slot.breadth c.args.slot.beside ++ c.args.slot.want ∷ []
unfolding path_holds
added c e =
    let slot = c.args.slot in
    let cells : length slot.beside ≡ 10 = search rules in
    beside_added slot.beside slot.breadth slot.want (omega (arith, c.requires.depth_le_path_holds.1)) e

pub overflow_sub-slot : goal.overflow_sub-slot
overflow_sub-slot c = some (goal.at.overflow_sub-slot c).Start

pub at_or_above_of-requires : goal.at_or_above_of-requires
at_or_above_of-requires c =
    let start = (goal.at.at_or_above_of-requires c).Start in
    let known = on start (c.args.slot.depth - 1) (omega (arith, some start)) in
    record { in_pool = known.in_pool; readable = known.readable; p_value = known.facts.rising }

pub returns-then-is_some : goal.returns-then-is_some
unfolding path_of beside_of
returns-then-is_some c =
    let slot = c.args.slot in
    let start = (goal.at.returns-then-is_some c).Start in
    across_found c.args.shape.k (page_at c.args.shape.k c.args.words.now) slot.path slot.depth (locks_of slot) (beside_of slot) (sidelocks_of slot) slot.want slot.lock
    (long start) (some start) c.in-Next.is c.at_or_above_of.ensures (sym c.is_some.ensures ∙ c.if-is_some.true)

pub has_child_right-requires : goal.has_child_right-requires
has_child_right-requires c =
    let start = (goal.at.has_child_right-requires c).Start in
    let known = on start 0 (some start) in
    record { in_pool = known.in_pool; readable = known.readable; p_value = known.facts.rising }

pub returns-then-not-has_child_right : goal.returns-then-not-has_child_right
unfolding path_of beside_of
returns-then-not-has_child_right c =
    let start = (goal.at.returns-then-not-has_child_right c).Start in
    across_ends c.args.shape.k (page_at c.args.shape.k c.args.words.now) c.args.slot.path c.args.slot.depth (locks_of c.args.slot) (beside_of c.args.slot) (sidelocks_of c.args.slot) c.args.slot.want c.args.slot.lock (long start) (some start)
    c.in-Next.is c.at_or_above_of.ensures c.has_child_right.ensures c.if-not-has_child_right.true

pub turns_right-requires : goal.turns_right-requires
unfolding path_of beside_of
turns_right-requires c =
    let slot = c.args.slot in
    let start = (goal.at.turns_right-requires c).Start in
    let second = added start c.with_page-second.ensures in (
      omega (arith, ap length second, length-append (take slot.breadth slot.beside) (slot.want ∷ [])),
      held_top_with slot.path slot.depth _ (long start) (some start) (beside_held (path_of slot) (beside_of slot) slot.want second c.requires.depth_le_path_holds.2),
    )

pub returns : goal.returns
unfolding path_of beside_of
returns c =
    let start = (goal.at.returns c).Start in
    across_turns c.args.shape.k (page_at c.args.shape.k c.args.words.now) c.args.slot.path c.args.slot.depth (locks_of c.args.slot) (beside_of c.args.slot) (sidelocks_of c.args.slot) c.args.slot.want c.args.slot.lock (long start) (some start)
    c.in-Next.is c.at_or_above_of.ensures c.has_child_right.ensures (sym c.is_some.ensures ∙ c.if-is_some.false) c.if-not-has_child_right.false
    c.turns_right.ensures (added start c.with_page-second.ensures)
