-- The facts about document 01's fixed numbers on which the theory of trees and runs rests, each once. Proofs of code open the names
-- too: the length of an array, and what a sum may come to, are numbers there.
use Prim.Native.Nat.{ℕ, ◌+◌, ◌-◌, ◌*◌, ◌^◌, ◌<◌, ◌≤◌}
use mathlib.Core.Path.{◌≡◌, refl}
use native.Mathlib.Omega.{arith}
use lib.Dec.{lit<}
use Rattle.ground.specs.Limits.{largest_n, tallest, slot_count, path_holds, sibling_holds, word_range, blank_key, way_grants, second_grants, slot_grants, rounds_enough}

-- there are words
pub range_rises : 0 < word_range
unfolding word_range
range_rises = lit< tt

-- no key is below that of a blank tag
pub blank_lowest : (x : ℕ) → blank_key ≤ x
unfolding blank_key
blank_lowest x = omega arith

-- "a tree of height h has at least 2^h - 1 pages, and h is at most 10": no pool has pages for a tree of height 11
pub pages_few : largest_n < 2 ^ (tallest + 1) - 1
unfolding largest_n tallest
pages_few = lit< tt

-- "a deletion at most 10 on its path and 9 siblings": a whole way, and a sibling on each of its levels but the top
pub path_is_way : path_holds ≡ tallest
unfolding path_holds tallest
path_is_way = refl

pub siblings_below_top : sibling_holds + 1 ≡ tallest
unfolding sibling_holds tallest
siblings_below_top = refl

-- "deletion h to 2h-1. So at most 19"
pub grants_of_height : way_grants ≡ 2 * tallest - 1
unfolding way_grants tallest
grants_of_height = refl

-- "At most 10 + 19 grants"
pub grants_of_ways : second_grants ≡ tallest + way_grants
unfolding second_grants tallest way_grants
grants_of_ways = refl

-- "at most 19 grants and 19 conversions"
pub grants_of_third : slot_grants ≡ 2 * way_grants
unfolding slot_grants way_grants
grants_of_third = refl

-- so a slot takes no more by another way
pub grants_enough : second_grants ≤ slot_grants
unfolding second_grants slot_grants
grants_enough = omega arith

-- "16 × 38 = 608"
pub rounds_of_slots : rounds_enough ≡ slot_count * slot_grants
unfolding rounds_enough slot_count slot_grants
rounds_of_slots = refl
