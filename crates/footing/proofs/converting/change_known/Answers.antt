-- What is looked up under the key tells first, and then the siblings.
use Prim.Native.Nat.{◌-◌, ◌≤◌}
use mathlib.Core.Path.{◌≡◌}
use native.Mathlib.Omega.{arith}
use borrow.Author.Rules.{rules}
use lib.ListN.{length}
use lib.Seq.{length-take-le}
use Rattle.ground.specs.Limits.{path_holds}
use Rattle.change.proofs.HeldLaws.{held_front}
use Rattle.slots.specs.Parts.{path_of, beside_of}
use Rattle.footing.proofs.KeepLaws.{cell_known}
use Rattle.footing.proofs.converting.change_known.Goals.{Start}
use Rattle.footing.proofs.converting.change_known.Goals as goal

long : (c : Start) → c.args.slot.depth ≤ length c.args.slot.path
unfolding path_holds
long c =
    let path : length c.args.slot.path ≡ 10 = search rules in
    omega (arith, c.requires.0)

some : (c : Start) → 1 ≤ c.args.slot.depth
unfolding path_of
some c = omega (arith, c.requires.2.some, length-take-le c.args.slot.depth c.args.slot.path (long c))

pub overflow_sub-slot : goal.overflow_sub-slot
overflow_sub-slot c = some (goal.at.overflow_sub-slot c).Start

pub look_of-lot-requires : goal.look_of-lot-requires
unfolding path_of
look_of-lot-requires c =
    let slot = c.args.slot in
    let start = (goal.at.look_of-lot-requires c).Start in
    let known = cell_known slot.path slot.depth (long start) (held_front (path_of slot) (beside_of slot) c.requires.2.held) (slot.depth - 1) (omega (arith, some start)) in
    record { in_pool = known.in_pool; readable = known.readable; p_value = known.facts.rising }
