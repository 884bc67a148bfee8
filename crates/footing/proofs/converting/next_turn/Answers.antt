-- The loop's invariant: what is left to convert is what is left from cell i on.
use mathlib.Core.Path.{◌≡◌, refl, sym, ap, ◌∙◌}
use native.Mathlib.Omega.{arith}
use borrow.Author.Rules.{rules}
use lib.ListN.{length}
use Rattle.ground.specs.Limits.{path_holds}
use Rattle.slots.specs.declared.Lock.TheVariants.{Xi}
use Rattle.footing.specs.Standing.{turn_of}
use Rattle.footing.proofs.ConvertLaws.{kinds_differ, kinds_agree, cells_mapped}
use Rattle.footing.proofs.TurnLaws.{cells_whole, kind_at, side_at, turn_here, turn_alone, turn_beside, turn_both, turn_none}
use Rattle.footing.proofs.converting.next_turn.Goals.{In-loop-i, After-loop-i, else-below-slot-via-then-below-slot+else-ne-2, else-below-slot-via-else-below-slot}
use Rattle.footing.proofs.converting.next_turn.Goals as goal

pub loop-i-init : goal.loop-i-init
unfolding path_holds
loop-i-init c =
    let slot = c.args.slot in
    let path : length slot.path ≡ 10 = search rules in
    let locks : length slot.locks ≡ 10 = search (rules, cells_mapped) in
    let beside : length slot.beside ≡ 10 = search rules in
    let sidelocks : length slot.sidelocks ≡ 10 = search (rules, cells_mapped) in
    (omega arith, c.requires.0, c.requires.1, (path, locks, beside, sidelocks), refl)

pub returns-then-ne : goal.returns-then-ne
returns-then-ne c =
    let at = c.loop-i in
    let whole = cells_whole c.args.slot at.invariant.1 at.invariant.2 at.invariant.3 in
    sym (at.invariant.4 ∙ turn_here whole at.i c.loop-i-test.true (kinds_differ (kind_at c.args.slot at.i) Xi c.ne.ensures c.if-ne.true))

pub returns-then-ne-2 : goal.returns-then-ne-2
returns-then-ne-2 c =
    let at = c.loop-i in
    let whole = cells_whole c.args.slot at.invariant.1 at.invariant.2 at.invariant.3 in
    let converted = kinds_agree (kind_at c.args.slot at.i) Xi c.ne.ensures c.if-ne.false in
    let not_beside = kinds_differ (side_at c.args.slot at.i) Xi c.ne-then-below-slot.ensures c.if-ne-2.true in
    sym (at.invariant.4 ∙ turn_beside whole at.i c.loop-i-test.true converted c.if-below-slot.true not_beside)

pub loop-i-preserved : goal.loop-i-preserved
loop-i-preserved c =
    let at = c.loop-i in
    let whole = cells_whole c.args.slot at.invariant.1 at.invariant.2 at.invariant.3 in
    let converted = kinds_agree (kind_at c.args.slot at.i) Xi c.ne.ensures c.if-ne.false in
    let alone = turn_alone whole at.i c.loop-i-test.true converted in
    let both = turn_both whole at.i c.loop-i-test.true converted in (
      omega arith,
      at.invariant.1,
      at.invariant.2,
      at.invariant.3,
      at.invariant.4
          ∙ ap turn_of
          (elim c.else-below-slot.branch [
            | else-below-slot-via-then-below-slot+else-ne-2 w ↦ both w.if-below-slot.true (kinds_agree (side_at c.args.slot at.i) Xi w.ne-then-below-slot.ensures w.if-ne-2.false)
            | else-below-slot-via-else-below-slot w ↦ alone w.if-below-slot.false
          ]),
    )

pub returns : goal.returns
returns c =
    let at = c.loop-i in
    sym (at.invariant.4 ∙ turn_none (cells_whole c.args.slot at.invariant.1 at.invariant.2 at.invariant.3) at.i c.loop-i-test.false)
