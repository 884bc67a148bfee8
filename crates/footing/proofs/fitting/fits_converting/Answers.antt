-- A test that fails makes the whole fail. Where all of them hold, the turn tells.
use Prim.Native.Nat.{ℕ, ◌≤◌}
use mathlib.Core.Bool.{true}
use mathlib.Core.List.{List, [], ◌∷◌, ◌++◌, reverse}
use mathlib.Core.Path.{subst, subst₂, ap₂, ◌≡◌, sym, ap, ◌∙◌}
use native.Mathlib.Omega.{arith}
use borrow.Author.Rules.{rules}
use lib.ListN.{length}
use lib.Seq.{length-take-le}
use Rattle.ground.specs.Limits.{path_holds}
use Rattle.page.specs.Words.{Page}
use Rattle.pool.specs.Pool.{page_at}
use Rattle.change.specs.Held.{Held, Needing, leaf_of, fathers_of}
use Rattle.change.proofs.HeldLaws.{held_front}
use Rattle.slots.specs.declared.Lock.TheVariants.{Xi}
use Rattle.slots.specs.Parts.{key_of, is_third, path_of, beside_of}
use Rattle.slots.specs.Locks.{same_lock}
use Rattle.footing.specs.Granted.{at_its_leaf}
use Rattle.footing.specs.Fitting.{descends, same_levels}
use Rattle.footing.proofs.LookLaws.{way_read, leaf_read, told_true, asks_deep, asks_few}
use Rattle.footing.proofs.KeepLaws.{last_first, leaf_some, beside_needing}
use Rattle.footing.proofs.ConvertLaws.{converts_told, converting_not_leaf, converting_no_way, converting_unknown, converting_levels, converting_turn}
use Rattle.footing.proofs.fitting.fits_converting.Goals.{Start}
use Rattle.footing.proofs.fitting.fits_converting.Goals as goal

-- the pages as they were read
abbrev memory : Start → ℕ → Page
memory c = page_at c.args.shape.k c.args.words.now

-- the slot goes by the third way, and wants ξ
told : (c : Start) → (is_third c.args.op ≡ true) × (same_lock c.args.slot.lock Xi ≡ true)
told c = let asks = c.requires.0 in converts_told c.args.shape.n c.args.slot asks.task asks.sound c.requires.2

-- the pages of its path
long : (c : Start) → c.args.slot.depth ≤ length c.args.slot.path
unfolding path_holds
long c =
    let cells : length c.args.slot.path ≡ 10 = search rules in
    omega (arith, asks_deep c.requires.0)

path_held : (c : Start) → Held c.args.shape.k c.args.shape.n c.args.words.now (path_of c.args.slot)
path_held c =
    let slot = c.args.slot in
    held_front (path_of slot) (beside_of slot) (held_front (path_of slot ++ beside_of slot) (slot.want ∷ []) c.requires.1)

-- upward it begins with the leaf
upward : (c : Start) → at_its_leaf (memory c) (reverse (path_of c.args.slot)) ≡ true
    → reverse (path_of c.args.slot) ≡ leaf_of c.args.slot.depth c.args.slot.path ∷ fathers_of c.args.slot.depth c.args.slot.path
unfolding path_of
upward c leaf =
    let slot = c.args.slot in
    last_first slot.path slot.depth (long c) (leaf_some (memory c) slot.path slot.depth leaf)

-- its pages are those of an update at its leaf
stands : (c : Start) → descends (memory c) (key_of c.args.op) (path_of c.args.slot) ≡ true → at_its_leaf (memory c) (reverse (path_of c.args.slot)) ≡ true
    → Needing c.args.shape.k c.args.shape.n c.args.words.now (path_of c.args.slot) (beside_of c.args.slot)
unfolding path_of beside_of path_holds
stands c down leaf =
    let slot = c.args.slot in
    let asks = c.requires.0 in
    let cells : length slot.beside ≡ 10 = search rules in
    let few = asks_few asks in
    beside_needing (key_of c.args.op) (path_of slot) (beside_of slot) slot.want
    (omega (arith, asks_deep asks, length-take-le slot.depth slot.path (long c)))
    (omega (arith, few, length-take-le slot.breadth slot.beside (omega arith)))
    c.requires.1 down leaf

pub path_pages-path-requires : goal.path_pages-path-requires
path_pages-path-requires c = asks_deep c.requires.0

pub at_leaf-requires : goal.at_leaf-requires
at_leaf-requires c = subst (Held c.args.shape.k c.args.shape.n c.args.words.now) (sym c.path_pages-path.ensures) (path_held (goal.at.at_leaf-requires c).Start)

pub returns-then-not-at_leaf : goal.returns-then-not-at_leaf
unfolding path_of
returns-then-not-at_leaf c =
    converting_not_leaf c.args.op c.args.shape.k (memory (goal.at.returns-then-not-at_leaf c).Start) c.args.slot (leaf_read (memory (goal.at.returns-then-not-at_leaf c).Start) c.at_leaf.ensures c.path_pages-path.ensures) c.if-not-at_leaf.true

pub descends-requires : goal.descends-requires
descends-requires c = subst (Held c.args.shape.k c.args.shape.n c.args.words.now) (sym c.path_pages-path.ensures) (path_held (goal.at.descends-requires c).Start)

pub returns-then-not-descends : goal.returns-then-not-descends
unfolding path_of
returns-then-not-descends c =
    let start = (goal.at.returns-then-not-descends c).Start in
    let start = start in
    let leaf = leaf_read (memory start) c.at_leaf.ensures c.path_pages-path.ensures in
    converting_no_way c.args.op c.args.shape.k (memory start) c.args.slot (told start).0 (told start).1 (upward start (told_true leaf c.if-not-at_leaf.false)) leaf c.if-not-at_leaf.false
    c.if-not-descends.true c.key_asked.ensures (way_read (memory start) c.key_asked.result c.descends.ensures c.path_pages-path.ensures)

pub change_known-requires : goal.change_known-requires
change_known-requires c =
    let start = (goal.at.change_known-requires c).Start in
    let asks = c.requires.0 in
    let few = asks_few asks in
    let way = way_read (memory start) c.key_asked.result c.descends.ensures c.path_pages-path.ensures in (
      asks_deep asks,
      omega arith,
      stands start (sym (ap (λ (x : ℕ). descends (memory start) x (path_of c.args.slot)) c.key_asked.ensures) ∙ told_true way c.if-not-descends.false)
          (told_true (leaf_read (memory start) c.at_leaf.ensures c.path_pages-path.ensures) c.if-not-at_leaf.false),
    )

pub returns-then-not-change_known : goal.returns-then-not-change_known
unfolding path_of
returns-then-not-change_known c =
    let start = (goal.at.returns-then-not-change_known c).Start in
    let start = start in
    let leaf = leaf_read (memory start) c.at_leaf.ensures c.path_pages-path.ensures in
    converting_unknown c.args.op c.args.shape.k (memory start) c.args.slot (told start).0 (told start).1 (upward start (told_true leaf c.if-not-at_leaf.false)) leaf c.if-not-at_leaf.false
    c.if-not-change_known.true c.change_known.ensures

pub beside_pages-requires : goal.beside_pages-requires
beside_pages-requires c =
    let few = asks_few c.requires.0 in
    omega arith

pub same_levels-requires : goal.same_levels-requires
same_levels-requires c =
    let slot = c.args.slot in
    subst₂ (λ (path beside : List ℕ). Held c.args.shape.k c.args.shape.n c.args.words.now (path ++ beside)) (sym c.path_pages-path.ensures) (sym c.beside_pages.ensures)
    (held_front (path_of slot ++ beside_of slot) (slot.want ∷ []) c.requires.1)

pub returns-then-not-same_levels : goal.returns-then-not-same_levels
unfolding path_of beside_of
returns-then-not-same_levels c =
    let start = (goal.at.returns-then-not-same_levels c).Start in
    let start = start in
    let leaf = leaf_read (memory start) c.at_leaf.ensures c.path_pages-path.ensures in
    converting_levels c.args.op c.args.shape.k (memory start) c.args.slot (told start).0 (told start).1 (upward start (told_true leaf c.if-not-at_leaf.false)) leaf c.if-not-at_leaf.false
    c.if-not-same_levels.true (c.same_levels.ensures ∙ ap₂ (λ (path beside : List ℕ). same_levels (memory start) (reverse path) beside) c.path_pages-path.ensures c.beside_pages.ensures)

pub xi_then_alpha-requires : goal.xi_then_alpha-requires
xi_then_alpha-requires c = let asks = c.requires.0 in let few = asks_few asks in (asks_deep asks, omega arith)

pub next_turn-requires : goal.next_turn-requires
next_turn-requires c = let asks = c.requires.0 in let few = asks_few asks in (asks_deep asks, omega arith)

pub returns : goal.returns
unfolding path_of beside_of
returns c =
    let start = (goal.at.returns c).Start in
    let leaf = leaf_read (memory start) c.at_leaf.ensures c.path_pages-path.ensures in
    c.eq.ensures
    ∙ converting_turn c.args.op c.args.shape.k (memory start) c.args.slot (told start).0 (told start).1 (upward start (told_true leaf c.if-not-at_leaf.false)) leaf c.if-not-at_leaf.false
    c.key_asked.ensures (way_read (memory start) c.key_asked.result c.descends.ensures c.path_pages-path.ensures) c.if-not-descends.false c.change_known.ensures c.if-not-change_known.false (c.same_levels.ensures ∙ ap₂ (λ (path beside : List ℕ). same_levels (memory start) (reverse path) beside) c.path_pages-path.ensures c.beside_pages.ensures) c.if-not-same_levels.false
    c.xi_then_alpha.ensures c.if-not-xi_then_alpha.false c.next_turn.ensures
