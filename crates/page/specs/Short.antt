-- A page left with k-1 and its neighbour. "How pages change" of document 01, short pages.
use Rattle.std.specs.Prelude.{ℕ, suc, ◌-◌, Bool, cond, [], ◌∷◌, ◌++◌, ltb, take, drop}
use Rattle.page.specs.Words.{Page, entry, page, μ, is_leaf}
use Rattle.page.specs.Place.{place, pointer}
use Rattle.page.specs.Splits.{Parted, parted, with_entries, entry_at}

-- "A page left with k-1 uses its right neighbour under the same father; if it has none, the left one."
-- The page is the one to which the father F routes x.
abbrev pub has_right : ℕ → Page → Bool
has_right x F = ltb (place x F.entries) (μ F)

unfoldable pub neighbour : ℕ → Page → ℕ
neighbour x F = cond (has_right x F) (pointer (suc (place x F.entries)) F) (pointer (place x F.entries - 1) F)

-- which reference key of the father stands between the page and that neighbour, counted from 0
unfoldable pub between_at : ℕ → Page → ℕ
between_at x F = cond (has_right x F) (place x F.entries) (place x F.entries - 1)

-- "one entry (or, above the leaves, one reference key by way of the father, with its child) moves over; between leaves,
-- the father's reference key becomes the right leaf's first key": from the right page to the short left one
unfoldable pub from_right : ℕ → Page → Page → Parted
from_right r L R =
    let moving = entry_at 0 R.entries in
    let rest = drop 1 R.entries in
    cond (is_leaf L)
    (parted (with_entries L (L.entries ++ moving ∷ [])) (entry_at 0 rest).key (with_entries R rest))
    (parted (with_entries L (L.entries ++ entry r R.first ∷ [])) moving.key (page R.level moving.value rest))

-- the same from the left page to the short right one
unfoldable pub from_left : ℕ → Page → Page → Parted
from_left r L R =
    let moving = entry_at (μ L - 1) L.entries in
    let rest = take (μ L - 1) L.entries in
    cond (is_leaf R)
    (parted (with_entries L rest) moving.key (with_entries R (moving ∷ R.entries)))
    (parted (with_entries L rest) moving.key (page R.level moving.value (entry r R.first ∷ R.entries)))

-- "both join in the left page ..  (above the leaves [the father's reference key] comes down between them)"
unfoldable pub joined : ℕ → Page → Page → Page
joined r L R = with_entries L (L.entries ++ cond (is_leaf L) R.entries (entry r R.first ∷ R.entries))

-- "the father loses a reference key", and with it the pointer to the freed page, just right of the key
unfoldable pub less_key : ℕ → Page → Page
less_key i F = with_entries F (take i F.entries ++ drop (suc i) F.entries)

-- the father with another reference key at place i
unfoldable pub rekeyed : ℕ → ℕ → Page → Page
rekeyed i r F = with_entries F (take i F.entries ++ entry r (entry_at i F.entries).value ∷ drop (suc i) F.entries)

-- the father's reference key between the page to which it routes x and that page's neighbour
abbrev pub key_between : ℕ → Page → ℕ
key_between x F = (entry_at (between_at x F) F.entries).key

-- The short page P, to which F routes x, and its neighbour S, after one moved over from S.
abbrev pub moved : ℕ → Page → Page → Page → Parted
moved x F P S = cond (has_right x F) (from_right (key_between x F) P S) (from_left (key_between x F) S P)

-- The short page P, to which F routes x, and its neighbour S, joined.
abbrev pub merged : ℕ → Page → Page → Page → Page
merged x F P S = cond (has_right x F) (joined (key_between x F) P S) (joined (key_between x F) S P)
