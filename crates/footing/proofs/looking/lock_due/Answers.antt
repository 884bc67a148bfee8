-- The last page of the path begins the path upward.
use native.Mathlib.Omega.{arith}
use Rattle.footing.proofs.KeepLaws.{last_known}
use Rattle.footing.proofs.looking.lock_due.Goals as goal

pub lock_below-requires : goal.lock_below-requires
lock_below-requires c =
    let last = c.in-Some.ensures.item in
    (last_known c.requires c.in-Some.field-0.now (last.4 (omega arith) 0) last.3.0).in_pool
