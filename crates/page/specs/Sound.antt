-- A page sound by itself: what document 01 asks of one page's words, whatever the other pages hold.
use Rattle.std.specs.Prelude.{ℕ, ◌+◌, ◌*◌, Bool, true, cond, not, ◌&&◌, List, [], ◌∷◌, leb, ltb, eqb, get_or, drop}
use Rattle.ground.specs.Limits.{tallest, blank_key}
use Rattle.ground.specs.Tests.{all, distinct}
use Rattle.page.specs.Words.{Entry, is_leaf, pointers, pairs_from, view}
use Rattle.page.specs.Place.{has}

-- "Keys in a page rise strictly."
unfoldable pub rises_from : ℕ → List Entry → Bool
rises_from x [] = true
rises_from x (e ∷ es) = ltb x e.key && rises_from e.key es

unfoldable pub rises : List Entry → Bool
rises [] = true
rises (e ∷ es) = rises_from e.key es

-- "μ is k to 2k in every page but page 0. Page 0 is always the root: 1 to 2k, or 0 to 2k when it is a leaf"
abbrev pub least : ℕ → ℕ → Bool → ℕ
least k p leaf = cond (eqb p 0) (cond leaf 0 1) k

abbrev pub in_range : ℕ → ℕ → Bool → ℕ → Bool
in_range k p leaf m = leb (least k p leaf) m && leb m (2 * k)

-- "pointers all different and from 1 to N-1"
abbrev pub good_pointers : ℕ → List ℕ → Bool
good_pointers n ps = distinct ps && all (λ (p : ℕ). leb 1 p && ltb p n) ps

-- 02 (viii): "The check of (vii) treats a leaf with key 0 as a page that is not sound; so does Damaged." Only leaves are named: a reference key
-- may be 0.
abbrev pub no_blank : List Entry → Bool
no_blank es = not (has blank_key es)

-- "level 1 to 10 .., μ in range, rising keys, pointers all different and from 1 to N-1, unused words 0"
unfoldable pub sound_by_itself : ℕ → ℕ → ℕ → List ℕ → Bool
sound_by_itself k n p ws =
    let P = view ws in
    leb 1 P.level
    && leb P.level tallest
    && in_range k p (is_leaf P) (get_or ws 1 0)
    && rises P.entries
    && cond (is_leaf P) (no_blank P.entries) (good_pointers n (pointers P))
    && all (λ (w : ℕ). eqb w 0) (drop (pairs_from P.level + 2 * get_or ws 1 0) ws)
