-- A page with one pair more, and a page cut in two. "How pages change" of document 01, splits.
use Rattle.std.specs.Prelude.{ℕ, suc, ◌+◌, cond, List, [], ◌∷◌, ◌++◌, get_or, take, drop}
use Rattle.page.specs.Words.{Entry, Page, entry, page, is_leaf}

-- the same page with other pairs
abbrev pub with_entries : Page → List Entry → Page
with_entries P es = page P.level P.first es

-- A pair put in at place i. Above the leaves the new pointer is p(i+1): it stands just right of pi.
unfoldable pub put : ℕ → Entry → Page → Page
put i e P = with_entries P (take i P.entries ++ e ∷ drop i P.entries)

-- Two neighbours, and the reference key between them in their father.
pub record Parted : Type 0 where
  pub left : Page
  pub between : ℕ
  pub right : Page

abbrev pub parted : Page → ℕ → Page → Parted
parted L r R = record { left = L; between = r; right = R }

abbrev pub entry_at : ℕ → List Entry → Entry
entry_at i es = get_or es i (entry 0 0)

-- "A leaf that would hold 2k+1 entries keeps the first k; the other k+1 go to a new page, whose first key goes up as
-- reference key. An upper page with 2k+1 reference keys keeps k, sends the middle one up, and the last k go to a new page."
unfoldable pub split : ℕ → Page → Parted
split k P =
    let es = P.entries in
    let middle = entry_at k es in
    parted
    (with_entries P (take k es))
    middle.key
    (cond (is_leaf P) (with_entries P (drop k es)) (page P.level middle.value (drop (suc k) es)))

-- "page 0 rises a level with one reference key": the root over the two halves, now at pages a and b
abbrev pub raised : Page → ℕ → ℕ → ℕ → Page
raised P a r b = page (P.level + 1) a (entry r b ∷ [])
