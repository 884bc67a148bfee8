-- The loop's invariant, `Passed`: the pointers passed are in the pool and differ, and each left its mark. So a pointer that finds
-- no mark is new, and one that finds a mark is looked for among those before it.
use mathlib.Core.Path.{◌≡◌}
use lib.ListN.{length}
use Rattle.page.specs.Words.{view, pointers}
use Rattle.page.proofs.CheckingLaws.{Passed}
use Rattle.page.proofs.reading.Page.good_pointers.Given as goal

abbrev pub invariant-loop-i : goal.invariant-loop-i
invariant-loop-i l = (length l.seen ≡ 256) × Passed l.n (pointers (view l.self.words.now)) l.seen l.i
