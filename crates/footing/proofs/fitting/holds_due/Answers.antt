-- Who does not go by the third way holds what is due, because the slot is sound. For who does its kinds are looked at, on its path and beside it.
use mathlib.Core.Path.{◌≡◌, sym, ◌∙◌}
use native.Mathlib.Omega.{arith}
use borrow.Author.Rules.{rules}
use lib.ListN.{length}
use Rattle.ground.specs.Limits.{path_holds}
use Rattle.slots.specs.Parts.{locks_of, sidelocks_of}
use Rattle.slots.proofs.Keeping.{slot_paired}
use Rattle.footing.proofs.LookLaws.{sound_within}
use Rattle.footing.proofs.ConvertLaws.{cells_mapped, first_holds, holds_not, holds_beside}
use Rattle.footing.proofs.fitting.holds_due.Goals as goal

pub returns-then-not-is_third : goal.returns-then-not-is_third
returns-then-not-is_third c =
    let slot = c.args.slot in
    let path : length slot.path ≡ 10 = search rules in
    let locks : length slot.locks ≡ 10 = search (rules, cells_mapped) in
    let beside : length slot.beside ≡ 10 = search rules in
    let sidelocks : length slot.sidelocks ≡ 10 = search (rules, cells_mapped) in
    first_holds c.args.n c.args.slot c.requires.0 c.requires.1 c.is_third.ensures
    (slot_paired c.args.op slot (locks ∙ sym path) (sidelocks ∙ sym beside)) c.if-not-is_third.true

pub shared_ref_as_front-all_kind : goal.shared_ref_as_front-all_kind
unfolding path_holds
shared_ref_as_front-all_kind c = (sound_within c.args.n c.args.slot c.requires.0 c.requires.1).0

pub shared_ref_as_front-all_kind-then-all_kind : goal.shared_ref_as_front-all_kind-then-all_kind
unfolding path_holds
shared_ref_as_front-all_kind-then-all_kind c =
    let few = (sound_within c.args.n c.args.slot c.requires.0 c.requires.1).1 in
    omega arith

pub returns-then-all_kind : goal.returns-then-all_kind
unfolding locks_of sidelocks_of
returns-then-all_kind c =
    holds_beside c.args.n c.args.slot c.requires.0 c.requires.1 c.is_third.ensures c.all_kind.ensures c.if-not-is_third.false c.if-all_kind.true
    c.all_kind-then-all_kind.ensures

pub returns-else-all_kind : goal.returns-else-all_kind
unfolding locks_of
returns-else-all_kind c =
    c.if-all_kind.false
    ∙ holds_not c.args.n c.args.slot c.requires.0 c.requires.1 c.is_third.ensures c.all_kind.ensures c.if-not-is_third.false c.if-all_kind.false
