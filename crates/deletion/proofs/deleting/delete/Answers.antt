-- The leaf loses x where it lies, and the way up does what the rule does with the leaf less x.
use native.Mathlib.Omega.{arith}
use Prim.Native.Nat.{◌-◌, ◌<◌}
use lib.ListN.{length}
use Rattle.change.proofs.NeedLaws.{path_known}
use Rattle.deletion.proofs.DeleteLawsLeaf.{stands_at, leaf_climbs, deleted}
use Rattle.deletion.proofs.deleting.delete.Goals as goal

pub place_of-at-requires : goal.place_of-at-requires
place_of-at-requires c =
    let last : length c.args.path.now - 1 < length c.args.path.now = omega (arith, c.requires.held.some) in
    let known = path_known c.args.x c.requires.held (length c.args.path.now - 1) last in
    record { in_pool = known.in_pool; readable = known.readable; p_value = known.facts.rising }

pub overflow_sub-at : goal.overflow_sub-at
overflow_sub-at c = omega (arith, (stands_at c.requires c.place_of-at.ensures.value).0)

pub take_out_at-requires : goal.take_out_at-requires
take_out_at-requires c =
    let last : length c.args.path.now - 1 < length c.args.path.now = omega (arith, c.requires.held.some) in
    let known = path_known c.args.x c.requires.held (length c.args.path.now - 1) last in
    record { in_pool = known.in_pool; exact = known.exact; i_bound = (stands_at c.requires c.place_of-at.ensures.value).1 }

pub climb-requires : goal.climb-requires
climb-requires c = leaf_climbs c.requires (c.place_of-at.result - 1) c.take_out_at.ensures

pub returns : goal.returns
returns c = deleted c.requires c.place_of-at.ensures.value c.take_out_at.ensures c.climb.ensures
