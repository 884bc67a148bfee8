-- A deletion's next sibling tells; another operation holds no sibling.
use Prim.Native.Nat.{ℕ, ◌≤◌}
use mathlib.Core.List.{List}
use mathlib.Core.Path.{◌≡◌, refl, sym, ◌∙◌, subst₂}
use native.Mathlib.Omega.{arith}
use borrow.Author.Rules.{rules}
use lib.ListN.{length}
use lib.Seq.{length-take-le}
use Rattle.ground.specs.Limits.{path_holds}
use Rattle.page.specs.Words.{Page}
use Rattle.pool.specs.Pool.{page_at}
use Rattle.change.specs.Held.{Needing, leaf_of, fathers_of}
use Rattle.slots.specs.declared.Op.{Op}
use Rattle.slots.specs.declared.Way.{Way}
use Rattle.slots.specs.declared.Op.TheVariants.{Search, Insert, Delete, Next, Regrade}
use Rattle.slots.specs.Parts.{path_of, beside_of}
use Rattle.footing.specs.Granted.{is_none, needs_no_more}
use Rattle.footing.proofs.ConvertLaws.{none_taken, needs_nothing, no_more_deletion}
use Rattle.footing.proofs.KeepLaws.{needs_taken}
use Rattle.footing.proofs.converting.needs_no_more.Goals.{Start}
use Rattle.footing.proofs.converting.needs_no_more.Goals as goal

-- an operation of another kind is no deletion
others-none : (o : Op) (k : ℕ) (memory : ℕ → Page) (beside : List ℕ) (leaf : ℕ) (fathers : List ℕ) → ((x : ℕ) (way : Way) → o ≡ Delete x way → ⊥)
    → needs_no_more o k memory beside leaf fathers ≡ is_none beside
others-none (Search x) k memory beside leaf fathers t = refl
others-none (Insert x v way) k memory beside leaf fathers t = refl
others-none (Delete x way) k memory beside leaf fathers t = absurd (t x way refl)
others-none (Next x) k memory beside leaf fathers t = refl
others-none (Regrade x v way) k memory beside leaf fathers t = refl

-- the cells of the slot are there
long : (c : Start) → (c.args.slot.depth ≤ length c.args.slot.path) × (c.args.slot.breadth ≤ length c.args.slot.beside)
unfolding path_holds
long c =
    let path : length c.args.slot.path ≡ 10 = search rules in
    let beside : length c.args.slot.beside ≡ 10 = search rules in
    (omega (arith, c.requires.0), omega (arith, c.requires.1))

some : (c : Start) → 1 ≤ c.args.slot.depth
unfolding path_of
some c = omega (arith, c.requires.2.some, length-take-le c.args.slot.depth c.args.slot.path (long c).0)

pub returns-in_default : goal.returns-in_default
unfolding beside_of
returns-in_default c =
    let slot = c.args.slot in
    none_taken slot.beside slot.breadth (long (goal.at.returns-in_default c).Start).1
    ∙ sym (others-none c.args.op c.args.shape.k (page_at c.args.shape.k c.args.words.now) (beside_of slot) (leaf_of slot.depth slot.path) (fathers_of slot.depth slot.path) c.in_default.not-Delete)

pub needs-requires : goal.needs-requires
needs-requires c =
    subst₂ (Needing c.args.shape.k c.args.shape.n c.args.words.now) (sym c.path_pages.ensures) (sym c.beside_pages.ensures) c.requires.2

pub returns : goal.returns
unfolding path_of
returns c =
    let slot = c.args.slot in
    let start = (goal.at.returns c).Start in
    let memory = page_at c.args.shape.k c.args.words.now in
    c.eq.ensures
    ∙ needs_nothing _ c.needs.result
    ∙ no_more_deletion c.args.shape.k memory (beside_of slot) (leaf_of slot.depth slot.path) (fathers_of slot.depth slot.path)
    c.in-Delete.is
    (c.needs.ensures ∙ needs_taken c.args.shape.k memory c.in-Delete.x slot.path slot.depth (some start) (long start).0 c.path_pages.ensures c.beside_pages.ensures)
