-- Examples of the next entry, in the bench's pool E: leaf 1 has key 10, leaf 2 has 20 and 30, and 20 stands between them in page 0.
use Prim.Native.Nat.{ℕ, zero, suc, ◌≤◌, ◌<◌}
use mathlib.Core.Bool.{false, true}
use mathlib.Core.Logic.{◌≢◌}
use mathlib.Core.Path.{◌≡◌, refl}
use mathlib.Core.List.{[], ◌∷◌}
use native.Mathlib.Omega.{arith}
use lib.ListN.{get_or}
use Rattle.ground.specs.Limits.{word_range}
use Rattle.ground.specs.Tests.{count}
use Rattle.page.specs.Words.{entry, pairs, view}
use Rattle.page.specs.Place.{place, at_or_above}
use Rattle.page.specs.Short.{has_right, neighbour}
use Rattle.pool.specs.Pool.{start, words_of, page_at}
use Rattle.tree.specs.Tree.{entries_of, way}
use Rattle.tree.specs.Facts.{SecondWay}
use Rattle.tree.proofs.Examples.{words_e, tree_e}

-- page 0 has a child to the right of the route of 15, and none to the right of the route of 25
right_of_15 : has_right 15 (page_at 1 words_e 0) ≡ true
unfolding words_of start page_at view pairs place count
right_of_15 = refl

none_right_of_25 : has_right 25 (page_at 1 words_e 0) ≡ false
unfolding words_of start page_at view pairs place count
none_right_of_25 = refl

-- the first at or above 10 is 10 itself, at or above 25 it is 30, and at or above 31 there is none
at_10 : at_or_above 10 (entries_of 1 tree_e) ≡ entry 10 7 ∷ entry 20 7 ∷ entry 30 7 ∷ []
unfolding at_or_above
at_10 = refl

above_25 : at_or_above 25 (entries_of 1 tree_e) ≡ entry 30 7 ∷ []
unfolding at_or_above
above_25 = refl

above_31 : at_or_above 31 (entries_of 1 tree_e) ≡ []
unfolding at_or_above
above_31 = refl

-- the ways of 15 and 20 meet in page 0 and part below it
ways_meet : (j : ℕ) → 0 < j → j ≤ 1 → get_or (way 20 1 tree_e) j 0 ≡ get_or (way 15 1 tree_e) j 0
ways_meet zero a b = absurd (omega arith)
ways_meet (suc zero) a b = refl
ways_meet (suc (suc j)) a b = absurd (omega arith)

ways_part : (j : ℕ) → j ≤ 0 → get_or (way 20 1 tree_e) j 0 ≢ get_or (way 15 1 tree_e) j 0
ways_part zero b e = let two : ◌≡◌ {A = ℕ} 2 1 = e in absurd (omega arith)
ways_part (suc j) b e = absurd (omega arith)

-- 15's leaf is page 1, where nothing is at or above it; the second way is 20's, to page 2, whose first entry is the next
second_of_15 : SecondWay (page_at 1 words_e) 15 1 tree_e 0
unfolding words_of start page_at view pairs place count neighbour at_or_above word_range
second_of_15 = record {
  key = 20;
  in_words = omega arith;
  later = omega arith;
  meets = ways_meet;
  parts = ways_part;
  turns = refl;
  leftmost = λ j b. absurd (omega arith);
  nearest = λ none last. record { first = entry 20 7; rest = entry 30 7 ∷ []; rest' = entry 30 7 ∷ []; one = refl; other = refl };
}
