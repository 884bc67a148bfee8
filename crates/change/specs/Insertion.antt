-- The whole change of an insertion, as a list of page writes. "How pages change" of document 01, and its count of room.
-- Every value is read from the memory as it was before the change: `memory p` is page p then.
-- A path is given from the leaf upward: the page itself, then its father, and so on.
use Rattle.std.specs.Prelude.{ℕ, ◌+◌, ◌*◌, Bool, cond, ◌&&◌, List, [], ◌∷◌, leb, ltb, eqb, get_or, drop}
use Rattle.ground.specs.Tests.{count, member}
use Rattle.page.specs.Words.{Page, entry, μ}
use Rattle.page.specs.Place.{place}
use Rattle.page.specs.Splits.{put, split, raised}
use Rattle.pool.specs.Pool.{Write, write}

-- "New pages are taken as needed from the leaf upward, each time the lowest-numbered free one."
abbrev pub lowest : List ℕ → ℕ
lowest free = get_or free 0 0

-- "Room: an insertion into a leaf with μ < 2k needs none. Otherwise it needs one page for each page it holds with
-- μ = 2k, and one more if page 0 is one of those full pages."
abbrev pub is_full : ℕ → (ℕ → Page) → ℕ → Bool
is_full k memory p = eqb (μ (memory p)) (2 * k)

unfoldable pub room : ℕ → (ℕ → Page) → ℕ → List ℕ → ℕ
room k memory leaf held =
    cond (ltb (μ (memory leaf)) (2 * k))
    0
    (count (is_full k memory) held + cond (member 0 held && is_full k memory 0) 1 0)

-- The page p is to have the value P; its fathers, upward, are held. Where P has at most 2k pairs, it is written.
-- Otherwise it is split: "In the father the new pointer stands just right of the split page's", which is where the
-- father routes x. With no father held the page is page 0: "the left half goes to one new page, the right half to the
-- next, and page 0 rises a level with one reference key."
unfoldable pub settled : ℕ → (ℕ → Page) → ℕ → List ℕ → List ℕ → ℕ → Page → List Write
settled k memory x free [] p P =
    let S = split k P in
    let left = lowest free in
    let right = lowest (drop 1 free) in
    cond (leb (μ P) (2 * k))
    (write p P ∷ [])
    (write left S.left ∷ write right S.right ∷ write p (raised P left S.between right) ∷ [])
settled k memory x free (father ∷ up) p P =
    let S = split k P in
    let taken = lowest free in
    let F = memory father in
    let above = settled k memory x (drop 1 free) up father (put (place x F.entries) (entry S.between taken) F) in
    cond (leb (μ P) (2 * k)) (write p P ∷ []) (write taken S.right ∷ write p S.left ∷ above)

-- the entry put into the leaf, and what follows from it
unfoldable pub insertion : ℕ → (ℕ → Page) → ℕ → ℕ → List ℕ → ℕ → List ℕ → List Write
insertion k memory x v free leaf fathers =
    settled k memory x free fathers leaf (put (place x (memory leaf).entries) (entry x v) (memory leaf))
