-- Converting a page, at its leaf, coming down to a safe page, or to another: each time the slot is the one that the rule names.
use mathlib.Core.Path.{◌≡◌, sym, ◌∙◌, subst}
use native.Mathlib.Omega.{arith}
use lib.ListN.{length}
use borrow.Author.Rules.{rules}
use Rattle.ground.specs.Limits.{path_holds}
use Rattle.pool.specs.Pool.{page_at}
use Rattle.change.specs.Held.{Held}
use Rattle.slots.specs.Parts.{path_of, beside_of}
use Rattle.footing.proofs.LookLaws.{leaf_read, asks_deep, asks_few}
use Rattle.course.proofs.StandLaws.{path_held, want_known, deep_enough, stood_on_turn, stood_at_leaf, stood_on_safe, stood_on_other}
use Rattle.course.proofs.standing.stands.Goals as goal

pub converted-requires : goal.converted-requires
converted-requires c =
    let asks = c.requires.asks in
    let few = asks_few asks in
    (asks_deep asks, omega arith)

pub returns-then-converts : goal.returns-then-converts
returns-then-converts c =
    stood_on_turn c.args.op c.args.shape.k (page_at c.args.shape.k c.args.words.now) c.args.slot c.converts.ensures c.if-converts.true c.converted.ensures

pub path_pages-requires : goal.path_pages-requires
path_pages-requires c = asks_deep c.requires.asks

pub at_leaf-requires : goal.at_leaf-requires
at_leaf-requires c = subst (Held c.args.shape.k c.args.shape.n c.args.words.now) (sym c.path_pages.ensures) (path_held c.requires.asks c.requires.slot_value)

pub holding_beside-requires : goal.holding_beside-requires
holding_beside-requires c =
    let asks = c.requires.asks in
    (asks_deep asks, asks_few asks)

pub returns-then-at_leaf : goal.returns-then-at_leaf
unfolding path_of beside_of
returns-then-at_leaf c =
    stood_at_leaf c.args.op c.args.shape.k (page_at c.args.shape.k c.args.words.now) c.args.slot c.converts.ensures (leaf_read (page_at c.args.shape.k c.args.words.now) c.at_leaf.ensures c.path_pages.ensures) c.if-converts.false
    c.if-at_leaf.true c.holding_beside.ensures

pub is_safe-requires : goal.is_safe-requires
is_safe-requires c =
    let want = want_known c.requires.asks c.requires.slot_value in
    record { in_pool = want.in_pool; readable = want.readable; p_value = want.facts.rising }

pub returns-then-is_safe : goal.returns-then-is_safe
unfolding path_of
returns-then-is_safe c =
    stood_on_safe c.args.op c.args.shape.k (page_at c.args.shape.k c.args.words.now) c.args.slot c.converts.ensures (leaf_read (page_at c.args.shape.k c.args.words.now) c.at_leaf.ensures c.path_pages.ensures) c.if-converts.false c.is_safe.ensures
    c.if-at_leaf.false c.if-is_safe.true c.holding_one.ensures

pub holding_more-requires : goal.holding_more-requires
unfolding path_holds path_of
holding_more-requires c =
    let cells : length c.args.slot.path ≡ 10 = search rules in
    deep_enough c.requires.asks c.requires.slot_value (sym c.converts.ensures ∙ c.if-converts.false) (leaf_read (page_at c.args.shape.k c.args.words.now) c.at_leaf.ensures c.path_pages.ensures) c.if-at_leaf.false cells

pub returns : goal.returns
unfolding path_of
returns c =
    stood_on_other c.args.op c.args.shape.k (page_at c.args.shape.k c.args.words.now) c.args.slot c.converts.ensures (leaf_read (page_at c.args.shape.k c.args.words.now) c.at_leaf.ensures c.path_pages.ensures) c.if-converts.false c.is_safe.ensures
    c.if-at_leaf.false c.if-is_safe.false c.holding_more.ensures
