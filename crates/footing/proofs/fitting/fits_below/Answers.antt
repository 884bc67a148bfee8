-- With a sibling held it does not fit; with none the last page of the path tells, or nothing is held.
use Prim.Native.Nat.{ℕ}
use mathlib.Core.Bool.{true}
use mathlib.Core.List.{List, reverse}
use mathlib.Core.Path.{◌≡◌, sym, ap, ◌∙◌, subst}
use native.Mathlib.Omega.{arith}
use borrow.Author.Rules.{rules}
use lib.ListN.{length}
use Rattle.std.proofs.lemmas.List.{nil_from_length}
use Rattle.ground.specs.Limits.{path_holds}
use Rattle.ground.specs.Tests.{member}
use Rattle.pool.specs.Pool.{page_at}
use Rattle.footing.proofs.KeepLaws.{last_member, last_up}
use Rattle.footing.proofs.LookLaws.{held_two, path_among, want_among, comes_beside, comes_first, comes_last}
use Rattle.footing.proofs.fitting.fits_below.Goals as goal

pub returns-then-slot-ne0 : goal.returns-then-slot-ne0
unfolding path_holds
returns-then-slot-ne0 c =
    let cells : length c.args.slot.beside ≡ 10 = search rules in
    sym (comes_beside (page_at c.args.shape.k c.args.words.now) c.args.x c.args.slot c.if-slot-ne0.true (omega (arith, c.requires.1)))

pub leads-requires : goal.leads-requires
leads-requires c =
    let slot = c.args.slot in
    let last = c.in-Some.ensures.item in
    let p = c.in-Some.field-0.now in
    held_two c.requires.2 p slot.want
    (path_among slot p (subst (λ (path : List ℕ). member p path ≡ true) c.path_pages.ensures (last_member c.path_pages.result.now p (last.4 (omega arith) 0) last.3.0)))
    (want_among slot)

pub returns-in-Some : goal.returns-in-Some
returns-in-Some c =
    let last = c.in-Some.ensures.item in
    c.leads.ensures
    ∙ sym
    (comes_last (page_at c.args.shape.k c.args.words.now) c.args.x c.args.slot c.if-slot-ne0.false
    (ap reverse (sym c.path_pages.ensures) ∙ last_up c.path_pages.result.now c.in-Some.field-0.now (last.4 (omega arith) 0) last.3.0))

pub returns-in-None : goal.returns-in-None
returns-in-None c =
    sym
    (comes_first (page_at c.args.shape.k c.args.words.now) c.args.x c.args.slot c.if-slot-ne0.false
    (sym c.path_pages.ensures ∙ nil_from_length c.path_pages.result.now (omega (arith, c.in-None.ensures.item.3))))
