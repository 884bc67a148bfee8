-- The numbers that document 01 fixes, each by name and once. What is proved rests on the names and on the few
-- facts about them that stand in `proofs/Limits.antt`.
use Rattle.std.specs.Prelude.{ℕ, Bool, ◌&&◌, leb}

-- "k is 1 to 16."
unfoldable pub largest_k : ℕ
largest_k = 16

abbrev pub k_in_range : ℕ → Bool
k_in_range k = leb 1 k && leb k largest_k

-- "The pool has N pages, 1 to 1,024, numbered from 0"
unfoldable pub largest_n : ℕ
largest_n = 1024

abbrev pub n_in_range : ℕ → Bool
n_in_range n = leb 1 n && leb n largest_n

-- "h is at most 10"; "level 1 to 10"
unfoldable pub tallest : ℕ
tallest = 10

-- "There are 16 slots, 0 to 15."
unfoldable pub slot_count : ℕ
slot_count = 16

-- "a search holds at most 1 page, an insertion at most 10, a deletion at most 10 on its path and 9 siblings"; Next, with 10 and 9,
-- "up to 19 pages"
unfoldable pub search_holds : ℕ
search_holds = 1

-- Regrading: "it holds at most 1"
unfoldable pub regrade_holds : ℕ
regrade_holds = 1

unfoldable pub path_holds : ℕ
path_holds = 10

unfoldable pub sibling_holds : ℕ
sibling_holds = 9

-- 02 (v): an update by the second way goes "ρ-locks down", and gives up the father as a search does
unfoldable pub second_holds : ℕ
second_holds = 1

-- "one page for each page it holds with μ = 2k, and one more"
unfoldable pub most_new : ℕ
most_new = 11

-- Keys and information are 32-bit unsigned numbers: all of them are below this.
unfoldable pub word_range : ℕ
word_range = 4294967296

-- 02 (viii): "Lot number 0 is printed on blank tags and gets scanned."
unfoldable pub blank_key : ℕ
blank_key = 0

-- 01: "deletion h to 2h-1. So at most 19": by the first way
unfoldable pub way_grants : ℕ
way_grants = 19

-- 02 (v): "At most 10 + 19 grants": by the second way
unfoldable pub second_grants : ℕ
second_grants = 29

-- 02 (vi): "A deletion takes at most 19 grants and 19 conversions: 16 × 38 = 608 rounds."
unfoldable pub slot_grants : ℕ
slot_grants = 38

unfoldable pub rounds_enough : ℕ
rounds_enough = 608
