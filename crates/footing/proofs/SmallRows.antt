-- Small computed rows beside the rules of a granted step, so that a wrong rule is refused here and not only on the bench.
use Prim.Native.Nat.{ℕ}
use mathlib.Core.Path.{◌≡◌, refl}
use mathlib.Core.List.{[], ◌∷◌}
use lib.ListN.{get_or}
use Rattle.ground.specs.Tests.{count, member}
use Rattle.page.specs.Words.{Page, entry, page, free_page}
use Rattle.page.specs.Place.{place, has, information, at_or_above}
use Rattle.page.specs.Short.{neighbour}
use Rattle.change.specs.Insertion.{room}
use Rattle.change.specs.Deletion.{needs}
use Rattle.slots.specs.declared.Op.TheVariants.{Search, Insert, Delete, Next, Regrade}
use Rattle.slots.specs.declared.Way.TheVariants.{First, Second, Third}
use Rattle.slots.specs.declared.Lock.TheVariants.{Rho, Xi, UpdaterRho, Alpha}
use Rattle.slots.specs.declared.Answer.TheVariants.{AlreadyThere, NoRoom, Next as NextLot, None as NoLot}
use Rattle.slots.specs.Parts.{under, with_xi, stand, fresh_stand}
use Rattle.footing.specs.Granted.{goes, ends, deletes, in_turn, unconverted, at_leaf, comes_down, goes_left, besides, converts, granted}

-- case E, k = 1
case_e : ℕ → Page
case_e p = get_or (page 2 1 (entry 20 2 ∷ []) ∷ page 1 0 (entry 10 7 ∷ []) ∷ page 1 0 (entry 20 7 ∷ entry 30 7 ∷ []) ∷ []) p free_page

-- a search that is granted page 0 holds it and wants page 2: the father is not given up before the child is granted
search_keeps : comes_down 1 case_e [] (stand (Search 20) [] [] [] [] 0 Rho) ≡ goes (stand (Search 20) (0 ∷ []) (under Rho ∷ []) [] [] 2 Rho)
unfolding case_e place count comes_down
search_keeps = refl

-- a deletion that is granted a leaf with k entries keeps its father, which must change, and wants the sibling
deletion_keeps : comes_down 1 case_e [] (stand (Delete 10 First) (0 ∷ []) (under Xi ∷ []) [] [] 1 Xi)
    ≡ goes (stand (Delete 10 First) (0 ∷ 1 ∷ []) (under Xi ∷ under Xi ∷ []) [] [] 2 Xi)
unfolding case_e place count has neighbour needs deletes at_leaf comes_down
deletion_keeps = refl

-- an insertion that is granted a page with room for one more holds that page alone
insertion_gives_up : comes_down 1 case_e [] (stand (Insert 15 7 First) [] [] [] [] 0 Xi)
    ≡ goes (stand (Insert 15 7 First) (0 ∷ []) (under Xi ∷ []) [] [] 1 Xi)
unfolding case_e place count comes_down
insertion_gives_up = refl

-- a Next whose leaf has no key at or above its own keeps what it holds, and wants the next child to the right
next_crosses : comes_down 1 case_e [] (stand (Next 15) (0 ∷ []) (under Rho ∷ []) [] [] 1 Rho)
    ≡ goes (stand (Next 15) (0 ∷ 1 ∷ []) (under Rho ∷ under Rho ∷ []) [] [] 2 Rho)
unfolding case_e place count at_or_above neighbour at_leaf comes_down
next_crosses = refl

-- it answers the first entry at or above its key in the second leaf
next_answers : granted 1 case_e [] (stand (Next 15) (0 ∷ 1 ∷ []) (under Rho ∷ under Rho ∷ []) [] [] 2 Rho) ≡ ends (NextLot 20 7) []
unfolding case_e member at_or_above goes_left besides granted
next_answers = refl

-- a key that is there is at or above itself
next_there : comes_down 1 case_e [] (stand (Next 10) (0 ∷ []) (under Rho ∷ []) [] [] 1 Rho) ≡ ends (NextLot 10 7) []
unfolding case_e place count at_or_above at_leaf comes_down
next_there = refl

-- without a child to the right there is none
next_none : comes_down 1 case_e [] (stand (Next 31) (0 ∷ []) (under Rho ∷ []) [] [] 2 Rho) ≡ ends NoLot []
unfolding case_e place count at_or_above at_leaf comes_down
next_none = refl

-- ---- by the second way

-- from a page on level 2 the leaf is wanted with ξ
second_wants_leaf : comes_down 1 case_e [] (stand (Insert 15 7 Second) [] [] [] [] 0 UpdaterRho)
    ≡ goes (stand (Insert 15 7 Second) (0 ∷ []) (under UpdaterRho ∷ []) [] [] 1 Xi)
unfolding case_e place count comes_down
second_wants_leaf = refl

-- a page further up is wanted with updater's ρ
tall : ℕ → Page
tall p = get_or (page 3 1 (entry 20 2 ∷ []) ∷ []) p free_page

second_comes_down : comes_down 1 tall [] (stand (Regrade 15 7 Second) [] [] [] [] 0 UpdaterRho)
    ≡ goes (stand (Regrade 15 7 Second) (0 ∷ []) (under UpdaterRho ∷ []) [] [] 1 UpdaterRho)
unfolding tall place count comes_down
second_comes_down = refl

-- a full leaf is not changed: the insertion begins again by the first way, with ξ on page 0 and nothing held
second_again : comes_down 1 case_e [] (stand (Insert 25 7 Second) (0 ∷ []) (under UpdaterRho ∷ []) [] [] 2 Xi) ≡ goes (fresh_stand (Insert 25 7 First))
unfolding case_e has comes_down
second_again = refl

-- a key that is there is answered at once, in a full leaf too
second_there : comes_down 1 case_e [] (stand (Insert 20 8 Second) (0 ∷ []) (under UpdaterRho ∷ []) [] [] 2 Xi) ≡ ends (AlreadyThere 7) []
unfolding case_e has information at_leaf comes_down
second_there = refl

-- page 0 as a leaf is never changed by the second way, and no key is looked for in it
low : ℕ → Page
low p = get_or (page 1 0 (entry 20 7 ∷ []) ∷ []) p free_page

second_low : comes_down 1 low [] (stand (Regrade 30 8 Second) [] [] [] [] 0 UpdaterRho) ≡ goes (stand (Regrade 30 8 First) [] [] [] [] 0 Xi)
unfolding low comes_down
second_low = refl

-- ---- by the third way

-- an insertion that is granted its leaf under α first wants to convert it
third_converts : comes_down 1 case_e [] (stand (Insert 15 7 Third) (0 ∷ []) (under Alpha ∷ []) [] [] 1 Alpha)
    ≡ goes (stand (Insert 15 7 Third) (1 ∷ []) (under Alpha ∷ []) [] [] 1 Xi)
unfolding case_e has in_turn unconverted comes_down
third_converts = refl

-- a key that is there is answered at once, under α
third_there : comes_down 1 case_e [] (stand (Insert 10 8 Third) (0 ∷ []) (under Alpha ∷ []) [] [] 1 Alpha) ≡ ends (AlreadyThere 7) []
unfolding case_e has information at_leaf comes_down
third_there = refl

-- a deletion takes its sibling under α,
third_sibling : comes_down 1 case_e [] (stand (Delete 10 Third) (0 ∷ []) (under Alpha ∷ []) [] [] 1 Alpha)
    ≡ goes (stand (Delete 10 Third) (0 ∷ 1 ∷ []) (under Alpha ∷ under Alpha ∷ []) [] [] 2 Alpha)
unfolding case_e place count has neighbour needs deletes at_leaf comes_down
third_sibling = refl

-- and once it needs no more it converts from the top down,
third_top : granted 1 case_e [] (stand (Delete 10 Third) (0 ∷ 1 ∷ []) (under Alpha ∷ under Alpha ∷ []) [] [] 2 Alpha)
    ≡ goes (stand (Delete 10 Third) (0 ∷ 1 ∷ []) (under Alpha ∷ under Alpha ∷ []) (2 ∷ []) (under Alpha ∷ []) 0 Xi)
unfolding case_e member place count has neighbour needs in_turn unconverted besides granted
third_top = refl

-- the page of its path before the sibling beside it
third_next : granted 1 case_e [] (stand (Delete 10 Third) (0 ∷ 1 ∷ []) (under Alpha ∷ under Alpha ∷ []) (2 ∷ []) (under Alpha ∷ []) 0 Xi)
    ≡ goes (stand (Delete 10 Third) (0 ∷ 1 ∷ []) (under Xi ∷ under Alpha ∷ []) (2 ∷ []) (under Alpha ∷ []) 1 Xi)
unfolding case_e member place count has neighbour needs with_xi in_turn unconverted converts granted
third_next = refl

third_last : granted 1 case_e [] (stand (Delete 10 Third) (0 ∷ 1 ∷ []) (under Xi ∷ under Alpha ∷ []) (2 ∷ []) (under Alpha ∷ []) 1 Xi)
    ≡ goes (stand (Delete 10 Third) (0 ∷ 1 ∷ []) (under Xi ∷ under Xi ∷ []) (2 ∷ []) (under Alpha ∷ []) 2 Xi)
unfolding case_e member place count has neighbour needs with_xi in_turn unconverted converts granted
third_last = refl

-- its change is made with ξ on all that it holds: room is counted then
third_changes : granted 1 case_e [] (stand (Insert 25 7 Third) (0 ∷ 2 ∷ []) (under Xi ∷ under Alpha ∷ []) [] [] 2 Xi) ≡ ends NoRoom []
unfolding case_e member count has with_xi in_turn unconverted room at_leaf converts granted
third_changes = refl
