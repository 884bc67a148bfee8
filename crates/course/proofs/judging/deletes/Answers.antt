-- A deletion whose key is there goes by what it needs, and the code's word for that is the rule's.
use Prim.Native.Nat.{ℕ}
use mathlib.Core.Path.{◌≡◌, sym, ap, ◌∙◌, subst₂}
use native.Mathlib.Omega.{arith}
use Rattle.page.specs.Words.{Page}
use Rattle.pool.specs.Pool.{page_at}
use Rattle.change.specs.Deletion as rule
use Rattle.change.specs.Held.{Needing, leaf_of, fathers_of, need_of}
use Rattle.std.specs.Prelude.{Option, Some, None, Result, Ok, Err}
use Rattle.change.specs.declared.needing.Astray.{Astray}
use Rattle.slots.specs.declared.Slot.{Slot}
use Rattle.slots.specs.declared.Way.{Way}
use Rattle.slots.specs.Parts.{path_of, beside_of}
use Rattle.course.specs.Judged.{next_course, need_course, delete_course}
use Rattle.course.proofs.JudgeLaws.{path_long, standing_within, standing_cells, standing_needing}
use Rattle.footing.proofs.KeepLaws.{needs_taken}
use Rattle.course.proofs.judging.deletes.Goals.{After-needs}
use Rattle.course.proofs.judging.deletes.Goals as goal

pub path_pages-requires : goal.path_pages-requires
path_pages-requires c = (standing_within c.requires).0

pub beside_pages-requires : goal.beside_pages-requires
beside_pages-requires c = (standing_within c.requires).1

pub needs-requires : goal.needs-requires
needs-requires c =
    subst₂ (Needing c.args.shape.k c.args.shape.n c.args.words.now) (sym c.path_pages.ensures) (sym c.beside_pages.ensures) (standing_needing c.requires)

-- what it needs is told by the arrays
told : (c : After-needs)
    → need_of c.needs.result ≡ rule.needs c.args.shape.k (page_at c.args.shape.k c.args.words.now) c.args.x (leaf_of c.args.stand.depth c.args.stand.path) (fathers_of c.args.stand.depth c.args.stand.path) (beside_of c.args.stand)
unfolding path_of
told c =
    let stand = c.args.stand in
    c.needs.ensures
    ∙ needs_taken c.args.shape.k (page_at c.args.shape.k c.args.words.now) c.args.x stand.path stand.depth (omega (arith, path_long c.requires, c.requires.standing.some)) (standing_cells c.requires).0
    c.path_pages.ensures c.beside_pages.ensures

-- the course of a deletion whose key is there, by what it needs
by_need_lem : (k : ℕ) (memory : ℕ → Page) (x : ℕ) (way : Way) (v : ℕ) (lot : Option ℕ) (stand : Slot) (need known : Result (Option ℕ) Astray) → lot ≡ Some v
    → need_of need ≡ rule.needs k memory x (leaf_of stand.depth stand.path) (fathers_of stand.depth stand.path) (beside_of stand)
    → need ≡ known → need_course stand x way v (need_of known) ≡ delete_course k memory x way lot stand
by_need_lem k memory x way v lot stand need known there e n =
    ap (λ (m : Result (Option ℕ) Astray). need_course stand x way v (need_of m)) (sym n)
    ∙ ap (need_course stand x way v) e
    ∙ ap (λ (l : Option ℕ). delete_course k memory x way l stand) (sym there)

pub returns-in-Ok-None : goal.returns-in-Ok-None
returns-in-Ok-None c =
    by_need_lem c.args.shape.k (page_at c.args.shape.k c.args.words.now) c.args.x c.args.way _ c.args.lot c.args.stand c.needs.result (Ok None)
    c.in-Some.is (told (goal.at.returns-in-Ok-None c).After-needs) (c.in-Ok-None.is ∙ ap Ok c.in-Ok-None.field-0-is)

pub returns-in-Ok-Some : goal.returns-in-Ok-Some
returns-in-Ok-Some c =
    c.goes.ensures
    ∙ ap (next_course c.args.stand c.in-Ok-Some.s) c.held_lock.ensures
    ∙ by_need_lem c.args.shape.k (page_at c.args.shape.k c.args.words.now) c.args.x c.args.way _ c.args.lot c.args.stand c.needs.result (Ok (Some _))
    c.in-Some.is (told (goal.at.returns-in-Ok-Some c).After-needs) (c.in-Ok-Some.is ∙ ap Ok c.in-Ok-Some.field-0-is)

pub returns-in-Err : goal.returns-in-Err
returns-in-Err c =
    by_need_lem c.args.shape.k (page_at c.args.shape.k c.args.words.now) c.args.x c.args.way _ c.args.lot c.args.stand c.needs.result (Err _)
    c.in-Some.is (told (goal.at.returns-in-Err c).After-needs) c.in-Err.is
