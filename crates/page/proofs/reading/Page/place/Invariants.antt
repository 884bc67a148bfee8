-- The loop's invariant is `Untold`: x's place is behind the first `low` keys at least, and behind `left` more at most. Its measure is how
-- many comparisons are still to come: at most 6 for the keys of a page (`six_comparisons`).
use lib.ListN.{get_or}
use Rattle.page.specs.Words.{view}
use Rattle.page.proofs.HalvingLaws.{Untold, comparisons}
use Rattle.page.proofs.reading.Page.place.Given as goal

abbrev pub invariant-loop-left : goal.invariant-loop-left
invariant-loop-left l = Untold (get_or l.self.words.now 1 0) l.x (view l.self.words.now).entries l.low l.left

abbrev pub decreases-loop-left : goal.decreases-loop-left
decreases-loop-left l = comparisons l.left
