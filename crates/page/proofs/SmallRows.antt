-- Small computed rows beside the rules of a page, so that a wrong rule is refused here and not only on the bench.
use mathlib.Core.Path.{◌≡◌, refl}
use mathlib.Core.List.{[], ◌∷◌}
use Rattle.ground.specs.Tests.{count}
use Rattle.page.specs.Words.{entry, page}
use Rattle.page.specs.Place.{place, route}
use Rattle.page.specs.Splits.{parted, split}

-- case F: page 0 of E sends 20 to page 2, for "keys under pi are at least ri"
equal_key_right : route 20 (page 2 1 (entry 20 2 ∷ [])) ≡ 2
unfolding place count
equal_key_right = refl

-- case E: of 10, 20, 30 the leaf keeps the first, and 20 goes up
leaf_splits : split 1 (page 1 0 (entry 10 7 ∷ entry 20 7 ∷ entry 30 7 ∷ [])) ≡ parted (page 1 0 (entry 10 7 ∷ [])) 20 (page 1 0 (entry 20 7 ∷ entry 30 7 ∷ []))
unfolding split
leaf_splits = refl

-- an upper page with three reference keys keeps one, sends the middle one up, and the last goes to the new page
upper_splits : split 1 (page 2 5 (entry 10 6 ∷ entry 20 7 ∷ entry 30 8 ∷ [])) ≡ parted (page 2 5 (entry 10 6 ∷ [])) 20 (page 2 7 (entry 30 8 ∷ []))
unfolding split
upper_splits = refl
