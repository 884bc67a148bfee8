-- Small computed rows beside the rules of a change, so that a wrong rule is refused here and not only on the bench.
use Prim.Native.Nat.{ℕ}
use mathlib.Core.Path.{◌≡◌, refl}
use mathlib.Core.List.{[], ◌∷◌}
use lib.ListN.{get_or}
use Rattle.ground.specs.Tests.{count, member}
use Rattle.page.specs.Words.{Page, entry, page, free_page}
use Rattle.page.specs.Place.{place, without}
use Rattle.page.specs.Splits.{put, split}
use Rattle.page.specs.Short.{neighbour, between_at, from_right, joined, less_key, rekeyed}
use Rattle.pool.specs.Pool.{write}
use Rattle.change.specs.Insertion.{room, settled, insertion}
use Rattle.change.specs.Deletion.{nothing, sibling, astray, needs, shares, shrunk, deletion}

-- k = 1: page 0 leads to the leaves 1, 2 and 3, which hold 10, 20 and 30
three : ℕ → Page
three p = get_or (page 2 1 (entry 20 2 ∷ entry 30 3 ∷ []) ∷ page 1 0 (entry 10 7 ∷ []) ∷ page 1 0 (entry 20 7 ∷ []) ∷ page 1 0 (entry 30 7 ∷ []) ∷ []) p free_page

-- 10 taken out: the leaves 1 and 2 join in page 1, page 2 is freed and zeroed, and page 0 loses a reference key
joins : deletion 1 three 10 1 (0 ∷ []) (2 ∷ []) ≡ write 1 (page 1 0 (entry 20 7 ∷ [])) ∷ write 2 free_page ∷ write 0 (page 2 1 (entry 30 3 ∷ [])) ∷ []
unfolding three place count without between_at joined less_key shrunk deletion
joins = refl

-- 30 taken out: leaf 3 is the last and uses its left neighbour
joins_left : deletion 1 three 30 3 (0 ∷ []) (2 ∷ []) ≡ write 2 (page 1 0 (entry 20 7 ∷ [])) ∷ write 3 free_page ∷ write 0 (page 2 1 (entry 20 2 ∷ [])) ∷ []
unfolding three place count without between_at joined less_key shrunk deletion
joins_left = refl

-- what it needs: its right neighbour first, then nothing more; another page in its place is astray
needs_sibling : needs 1 three 10 1 (0 ∷ []) [] ≡ sibling 2
unfolding three place count neighbour needs
needs_sibling = refl

needs_nothing : needs 1 three 10 1 (0 ∷ []) (2 ∷ []) ≡ nothing
unfolding three place count neighbour needs
needs_nothing = refl

needs_astray : needs 1 three 10 1 (0 ∷ []) (3 ∷ []) ≡ astray
unfolding three place count neighbour needs
needs_astray = refl

-- k = 1: page 0 leads to page 1, which holds 10 alone, and page 2, which holds 20 and 30
two : ℕ → Page
two p = get_or (page 2 1 (entry 20 2 ∷ []) ∷ page 1 0 (entry 10 7 ∷ []) ∷ page 1 0 (entry 20 7 ∷ entry 30 7 ∷ []) ∷ []) p free_page

-- case G: 20 moves over, and the father's reference key becomes 30
shares_right : deletion 1 two 10 1 (0 ∷ []) (2 ∷ []) ≡ write 1 (page 1 0 (entry 20 7 ∷ [])) ∷ write 2 (page 1 0 (entry 30 7 ∷ [])) ∷ write 0 (page 2 1 (entry 30 2 ∷ [])) ∷ []
unfolding two place count without between_at from_right rekeyed shares shrunk deletion
shares_right = refl

-- 40 put in: leaf 2 splits, its right half goes to page 3, and the new pointer stands just right of the split page's
splits : insertion 1 two 40 7 (3 ∷ []) 2 (0 ∷ []) ≡ write 3 (page 1 0 (entry 30 7 ∷ entry 40 7 ∷ [])) ∷ write 2 (page 1 0 (entry 20 7 ∷ [])) ∷ write 0 (page 2 1 (entry 20 2 ∷ entry 30 3 ∷ [])) ∷ []
unfolding two place count put split settled insertion
splits = refl

-- one entry in each leaf: the two join, and page 0, left with no reference key, takes the words of its one child
collapsing : ℕ → Page
collapsing p = get_or (page 2 1 (entry 30 2 ∷ []) ∷ page 1 0 (entry 20 7 ∷ []) ∷ page 1 0 (entry 30 7 ∷ []) ∷ []) p free_page

-- case H
collapses : deletion 1 collapsing 20 1 (0 ∷ []) (2 ∷ []) ≡ write 0 (page 1 0 (entry 30 7 ∷ [])) ∷ write 1 free_page ∷ write 2 free_page ∷ []
unfolding collapsing place count without between_at joined less_key shrunk deletion
collapses = refl

-- case E: page 0, a full leaf, splits into pages 1 and 2 and rises a level
root : ℕ → Page
root p = get_or (page 1 0 (entry 10 7 ∷ entry 20 7 ∷ []) ∷ []) p free_page

root_splits : insertion 1 root 30 7 (1 ∷ 2 ∷ []) 0 [] ≡ write 1 (page 1 0 (entry 10 7 ∷ [])) ∷ write 2 (page 1 0 (entry 20 7 ∷ entry 30 7 ∷ [])) ∷ write 0 (page 2 1 (entry 20 2 ∷ [])) ∷ []
unfolding root place count put split settled insertion
root_splits = refl

-- case D: it needs two pages
root_needs_two : room 1 root 0 (0 ∷ []) ≡ 2
unfolding root count member room
root_needs_two = refl
