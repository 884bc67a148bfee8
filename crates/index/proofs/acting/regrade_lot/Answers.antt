-- The leaf is the last page of the path, and what is known of it is what `regrade_at` asks. What stood under the key tells the answer.
use mathlib.Core.Path.{refl}
use native.Mathlib.Omega.{arith}
use Rattle.ground.specs.Limits.{path_holds}
use Rattle.pool.specs.Pool.{applied}
use Rattle.change.specs.Regrading.{regrading}
use Rattle.index.proofs.ActLaws.{lent_long, leaf_known}
use Rattle.index.proofs.acting.regrade_lot.Goals as goal

pub overflow_sub-stand : goal.overflow_sub-stand
overflow_sub-stand c = omega (arith, c.requires.1.some, lent_long c.requires.0 refl)

pub bounds-stand-stand : goal.bounds-stand-stand
unfolding path_holds
bounds-stand-stand c = omega (arith, c.requires.0.deep, c.requires.1.some, lent_long c.requires.0 refl)

pub regrade_at-requires : goal.regrade_at-requires
regrade_at-requires c =
    let leaf = leaf_known c.requires.0 c.requires.1 in
    record { in_pool = leaf.in_pool; exact = leaf.exact; p_value = leaf.facts.rising }

pub returns-in-Some-clause-words_after : goal.returns-in-Some-clause-words_after
unfolding regrading applied
returns-in-Some-clause-words_after c = c.regrade_at.ensures.words_after

pub returns-in-None-clause-words_after : goal.returns-in-None-clause-words_after
unfolding regrading applied
returns-in-None-clause-words_after c = c.regrade_at.ensures.words_after
