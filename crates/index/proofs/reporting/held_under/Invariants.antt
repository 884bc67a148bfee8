-- None of the slots passed holds the page under this kind.
use Rattle.index.proofs.ReportLaws.{under_at}
use Rattle.lent.specs.Words.{as_read}
use Rattle.slots.specs.Heard.{lock_named}
use Rattle.ground.specs.Tests.{any_below}
use mathlib.Core.Path.{◌≡◌}
use mathlib.Core.Bool.{false}
use Rattle.index.proofs.reporting.held_under.Given as goal

abbrev pub invariant-loop-s : goal.invariant-loop-s
invariant-loop-s l = any_below l.s (under_at (as_read l.cells) l.p (lock_named l.lock)) ≡ false
