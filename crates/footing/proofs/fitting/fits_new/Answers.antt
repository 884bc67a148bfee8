-- A test that fails makes the whole fail. Where the lock wanted and those held are the ones due and the pages are a way down, the last test tells.
use mathlib.Core.List.{[], ◌∷◌, ◌++◌}
use mathlib.Core.Path.{subst, sym, ◌∙◌}
use native.Mathlib.Omega.{arith}
use Rattle.pool.specs.Pool.{page_at}
use Rattle.change.specs.Held.{Held}
use Rattle.change.proofs.HeldLaws.{held_front}
use Rattle.slots.specs.Parts.{path_of, beside_of}
use Rattle.footing.proofs.LookLaws.{way_read, leaf_read, asks_deep, asks_few, new_not_due, new_not_held, new_no_way, way_down, new_beside, new_across, new_coming}
use Rattle.footing.proofs.fitting.fits_new.Goals.{Start}
use Rattle.footing.proofs.fitting.fits_new.Goals as goal

-- the pages of its path
path_held : (c : Start) → Held c.args.shape.k c.args.shape.n c.args.words.now (path_of c.args.slot)
path_held c =
    let slot = c.args.slot in
    held_front (path_of slot) (beside_of slot) (held_front (path_of slot ++ beside_of slot) (slot.want ∷ []) c.requires.1)

pub wants_due-requires : goal.wants_due-requires
wants_due-requires c = (c.requires.0, path_held (goal.at.wants_due-requires c).Start, c.requires.2)

pub returns-then-not-wants_due : goal.returns-then-not-wants_due
returns-then-not-wants_due c =
    sym (new_not_due c.args.op c.args.shape.k (page_at c.args.shape.k c.args.words.now) c.args.slot c.wants_due.ensures c.if-not-wants_due.true)

pub returns-then-not-holds_due : goal.returns-then-not-holds_due
returns-then-not-holds_due c =
    sym (new_not_held c.args.op c.args.shape.k (page_at c.args.shape.k c.args.words.now) c.args.slot c.holds_due.ensures c.if-not-holds_due.true)

pub path_pages-path-requires : goal.path_pages-path-requires
path_pages-path-requires c = asks_deep c.requires.0

pub descends-requires : goal.descends-requires
descends-requires c = subst (Held c.args.shape.k c.args.shape.n c.args.words.now) (sym c.path_pages-path.ensures) (path_held (goal.at.descends-requires c).Start)

pub returns-then-not-descends : goal.returns-then-not-descends
unfolding path_of
returns-then-not-descends c =
    sym (new_no_way c.args.op c.args.shape.k (page_at c.args.shape.k c.args.words.now) c.args.slot c.key_asked.ensures (way_read (page_at c.args.shape.k c.args.words.now) c.key_asked.result c.descends.ensures c.path_pages-path.ensures) c.if-not-descends.true)

pub at_leaf-requires : goal.at_leaf-requires
at_leaf-requires c = subst (Held c.args.shape.k c.args.shape.n c.args.words.now) (sym c.path_pages-path.ensures) (path_held (goal.at.at_leaf-requires c).Start)

pub fits_beside-requires : goal.fits_beside-requires
unfolding path_of
fits_beside-requires c =
    let asks = c.requires.0 in record { depth_le_path_holds = (asks_deep asks, asks_few asks, c.requires.1); slot_value = way_down c.args.op c.args.shape.k (page_at c.args.shape.k c.args.words.now) c.args.slot c.key_asked.ensures (way_read (page_at c.args.shape.k c.args.words.now) c.key_asked.result c.descends.ensures c.path_pages-path.ensures) c.if-not-descends.false; slot_value_2 = sym (leaf_read (page_at c.args.shape.k c.args.words.now) c.at_leaf.ensures c.path_pages-path.ensures) ∙ c.if-at_leaf.true }

pub returns-then-fits_beside : goal.returns-then-fits_beside
unfolding path_of
returns-then-fits_beside c =
    c.if-fits_beside.true
    ∙ new_beside c.args.op c.args.shape.k (page_at c.args.shape.k c.args.words.now) c.args.slot c.key_asked.ensures (way_read (page_at c.args.shape.k c.args.words.now) c.key_asked.result c.descends.ensures c.path_pages-path.ensures) c.wants_due.ensures c.if-not-wants_due.false
    c.holds_due.ensures c.if-not-holds_due.false c.if-not-descends.false (leaf_read (page_at c.args.shape.k c.args.words.now) c.at_leaf.ensures c.path_pages-path.ensures) c.fits_beside.ensures c.if-at_leaf.true c.if-fits_beside.true

pub fits_across-requires : goal.fits_across-requires
unfolding path_of
fits_across-requires c =
    let asks = c.requires.0 in
    record { depth_le_path_holds = (asks_deep asks, asks_few asks, c.requires.1); slot_value = sym (leaf_read (page_at c.args.shape.k c.args.words.now) c.at_leaf.ensures c.path_pages-path.ensures) ∙ c.if-at_leaf.true }

pub returns-else-fits_beside : goal.returns-else-fits_beside
unfolding path_of
returns-else-fits_beside c =
    new_across c.args.op c.args.shape.k (page_at c.args.shape.k c.args.words.now) c.args.slot c.key_asked.ensures (way_read (page_at c.args.shape.k c.args.words.now) c.key_asked.result c.descends.ensures c.path_pages-path.ensures) c.wants_due.ensures c.if-not-wants_due.false
    c.holds_due.ensures c.if-not-holds_due.false c.if-not-descends.false (leaf_read (page_at c.args.shape.k c.args.words.now) c.at_leaf.ensures c.path_pages-path.ensures) c.fits_beside.ensures c.if-at_leaf.true c.if-fits_beside.false c.fits_across.ensures

pub fits_below-requires : goal.fits_below-requires
fits_below-requires c =
    let asks = c.requires.0 in
    (asks_deep asks, omega (arith, asks_few asks), c.requires.1)

pub returns : goal.returns
unfolding path_of
returns c =
    new_coming c.args.op c.args.shape.k (page_at c.args.shape.k c.args.words.now) c.args.slot c.key_asked.ensures (way_read (page_at c.args.shape.k c.args.words.now) c.key_asked.result c.descends.ensures c.path_pages-path.ensures) c.wants_due.ensures c.if-not-wants_due.false
    c.holds_due.ensures c.if-not-holds_due.false c.if-not-descends.false (leaf_read (page_at c.args.shape.k c.args.words.now) c.at_leaf.ensures c.path_pages-path.ensures) c.if-at_leaf.false c.key_asked-2.ensures c.fits_below.ensures
