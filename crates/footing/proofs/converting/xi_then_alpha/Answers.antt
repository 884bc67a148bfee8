-- The loop's invariant: whether ξ stands before α is what is asked from cell i on, by whether there was α.
use Prim.Native.Nat.{◌+◌}
use mathlib.Core.Bool.{Bool}
use mathlib.Core.Path.{◌≡◌, refl, sym, ap, ◌∙◌}
use native.Mathlib.Omega.{arith}
use borrow.Author.Rules.{rules}
use lib.ListN.{length}
use Rattle.ground.specs.Limits.{path_holds}
use Rattle.slots.specs.declared.Lock.TheVariants.{Alpha}
use Rattle.footing.specs.Standing.{may_follow}
use Rattle.footing.proofs.ConvertLaws.{same_kind, cells_mapped}
use Rattle.footing.proofs.TurnLaws.{kinds_whole, kind_at, side_at, follow_from, follow_stops, follow_alone, follow_stops_beside, follow_both, follow_done}
use Rattle.footing.proofs.converting.xi_then_alpha.Goals.{then-below-slot+else-not-may_follow-2, else-below-slot}
use Rattle.footing.proofs.converting.xi_then_alpha.Goals as goal

pub loop-i-init : goal.loop-i-init
unfolding path_holds
loop-i-init c =
    let slot = c.args.slot in
    let locks : length slot.locks ≡ 10 = search (rules, cells_mapped) in
    let sidelocks : length slot.sidelocks ≡ 10 = search (rules, cells_mapped) in
    (omega arith, c.requires.0, c.requires.1, (locks, sidelocks), refl)

pub returns-then-not-may_follow : goal.returns-then-not-may_follow
returns-then-not-may_follow c =
    let at = c.loop-i in
    let whole = kinds_whole c.args.slot at.invariant.1 at.invariant.2 at.invariant.3 in
    sym (at.invariant.4 ∙ follow_stops whole at.alpha at.i c.loop-i-test.true (sym c.may_follow.ensures ∙ c.if-not-may_follow.true))

pub returns-then-not-may_follow-2 : goal.returns-then-not-may_follow-2
returns-then-not-may_follow-2 c =
    let slot = c.args.slot in
    let at = c.loop-i in
    let whole = kinds_whole slot at.invariant.1 at.invariant.2 at.invariant.3 in
    let follows = sym c.may_follow.ensures ∙ c.if-not-may_follow.false in
    let beside = ap (may_follow (side_at slot at.i)) (sym (c.eq-alpha.ensures ∙ same_kind (kind_at slot at.i) Alpha)) in
    let not_beside = beside ∙ sym c.may_follow-then-below-slot.ensures ∙ c.if-not-may_follow-2.true in
    sym (at.invariant.4 ∙ follow_stops_beside whole at.alpha at.i c.loop-i-test.true follows c.if-below-slot.true not_beside)

pub loop-i-preserved : goal.loop-i-preserved
loop-i-preserved c =
    let slot = c.args.slot in
    let at = c.loop-i in
    let whole = kinds_whole slot at.invariant.1 at.invariant.2 at.invariant.3 in
    let follows = sym c.may_follow.ensures ∙ c.if-not-may_follow.false in
    let on_path = same_kind (kind_at slot at.i) Alpha in
    let by_it = same_kind (side_at slot at.i) Alpha in
    let alone = follow_alone whole at.alpha at.i c.loop-i-test.true follows in
    let both = follow_both whole at.alpha at.i c.loop-i-test.true follows in
    let beside = ap (may_follow (side_at slot at.i)) (sym (c.eq-alpha.ensures ∙ on_path)) in
    let rest : Bool → Bool = λ (alpha : Bool). follow_from slot alpha (at.i + 1) in (
      omega arith,
      at.invariant.1,
      at.invariant.2,
      at.invariant.3,
      at.invariant.4
          ∙ (elim c.if-below-slot.branch [
            | then-below-slot+else-not-may_follow-2 w ↦
                both w.if-below-slot.true (beside ∙ sym w.may_follow-then-below-slot.ensures ∙ w.if-not-may_follow-2.false)
                ∙ ap rest (sym (w.alpha-is ∙ w.eq-alpha-then-below-slot.ensures ∙ by_it))
            | else-below-slot w ↦ alone w.if-below-slot.false ∙ ap rest (sym (w.alpha-is ∙ c.eq-alpha.ensures ∙ on_path))
          ]),
    )

pub returns : goal.returns
returns c =
    let at = c.loop-i in
    sym (at.invariant.4 ∙ follow_done (kinds_whole c.args.slot at.invariant.1 at.invariant.2 at.invariant.3) at.alpha at.i c.loop-i-test.false)
