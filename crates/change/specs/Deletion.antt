-- The whole change of a deletion, as a list of page writes, and which sibling it needs next. "How pages change" of
-- document 01 and its sentence on siblings. Every value is read from the memory as it was before the change.
-- A path is given from the leaf upward, siblings likewise: the leaf's first, then the father's, and so on.
use Rattle.std.specs.Prelude.{ℕ, cond, ◌&&◌, ◌||◌, List, [], ◌∷◌, leb, ltb, eqb}
use Rattle.page.specs.Words.{Page, μ, free_page}
use Rattle.page.specs.Place.{without}
use Rattle.page.specs.Splits.{with_entries}
use Rattle.page.specs.Short.{has_right, neighbour, between_at, moved, merged, less_key, rekeyed}
use Rattle.pool.specs.Pool.{Write, write}

-- What a deletion that stands at its leaf needs: nothing more, one more sibling, or the pages it holds are not those
-- that the rules would have it hold.
pub data Need : Type 0 where
  nothing : Need
  sibling : ℕ → Need
  astray : Need

-- nothing more is needed, if no sibling beyond those needed is held
abbrev pub satisfied : List ℕ → Need
satisfied [] = nothing
satisfied (s ∷ ss) = astray

-- The page loses one. "If the leaf would be short, and is not page 0, the slot wants its sibling, then, if the two join
-- and the father would be short too and is not page 0, the father's sibling, and so on up."
unfoldable pub needs : ℕ → (ℕ → Page) → ℕ → ℕ → List ℕ → List ℕ → Need
needs k memory x p [] siblings = cond (eqb p 0 || ltb k (μ (memory p))) (satisfied siblings) astray
needs k memory x p (father ∷ up) [] =
    cond (eqb p 0 || ltb k (μ (memory p))) nothing (sibling (neighbour x (memory father)))
needs k memory x p (father ∷ up) (s ∷ siblings) =
    let further = needs k memory x father up siblings in
    cond (eqb p 0 || ltb k (μ (memory p)))
    astray
    (cond (eqb s (neighbour x (memory father))) (cond (ltb k (μ (memory s))) (satisfied siblings) further) astray)

-- Of the page p to which F routes x and its neighbour s: the left one and the right one.
abbrev pub left_one : ℕ → Page → ℕ → ℕ → ℕ
left_one x F p s = cond (has_right x F) p s

abbrev pub right_one : ℕ → Page → ℕ → ℕ → ℕ
right_one x F p s = cond (has_right x F) s p

-- "If that has more than k, one entry .. moves over": the page that gains, the other one, and their father.
unfoldable pub shares : ℕ → ℕ → Page → ℕ → Page → ℕ → Page → List Write
shares x p P s S father F =
    let M = moved x F P S in
    write p (cond (has_right x F) M.left M.right)
    ∷ write s (cond (has_right x F) M.right M.left)
    ∷ write father (rekeyed (between_at x F) M.between F)
    ∷ []

-- The page p is to have the value P; its fathers and siblings, upward, are held. Where P has k or more, or no father
-- is held (it is page 0, or it can spare one), it is written. Otherwise it shares with its neighbour, or "both join in
-- the left page, the right one is freed, and the father loses a reference key". "If page 0 is left with no reference
-- key, its one child's words move into page 0 and that child is freed."
unfoldable pub shrunk : ℕ → (ℕ → Page) → ℕ → List ℕ → List ℕ → ℕ → Page → List Write
shrunk k memory x [] siblings p P = write p P ∷ []
shrunk k memory x (father ∷ up) [] p P = write p P ∷ []
shrunk k memory x (father ∷ up) (s ∷ siblings) p P =
    let F = memory father in
    let S = memory s in
    let J = merged x F P S in
    let less = less_key (between_at x F) F in
    let above = shrunk k memory x up siblings father less in
    let left = left_one x F p s in
    let right = right_one x F p s in
    cond (leb k (μ P))
    (write p P ∷ [])
    (cond (ltb k (μ S))
    (shares x p P s S father F)
    (cond (eqb father 0 && eqb (μ less) 0)
    (write father J ∷ write left free_page ∷ write right free_page ∷ [])
    (write left J ∷ write right free_page ∷ above)))

-- the key taken out of the leaf, and what follows from it
unfoldable pub deletion : ℕ → (ℕ → Page) → ℕ → ℕ → List ℕ → List ℕ → List Write
deletion k memory x leaf fathers siblings =
    shrunk k memory x fathers siblings leaf (with_entries (memory leaf) (without x (memory leaf).entries))
