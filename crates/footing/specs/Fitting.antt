-- Pages sound for a step. "What the caller hears" of document 01.
use Rattle.std.specs.Prelude.{ℕ, ◌+◌, Bool, true, false, cond, not, ◌&&◌, ◌||◌, List, [], ◌∷◌, ◌++◌, reverse, eqb, get_or}
use Rattle.ground.specs.Tests.{all, member}
use Rattle.page.specs.Words.{Page, is_leaf}
use Rattle.page.specs.Place.{pointer, route, has, at_or_above}
use Rattle.page.specs.Short.{neighbour}
use Rattle.page.specs.Sound.{sound_by_itself}
use Rattle.pool.specs.Pool.{words_of, page_at, free_pages}
use Rattle.change.specs.Deletion.{Need, nothing, sibling, astray, needs}
use Rattle.slots.specs.declared.Op.{Op}
use Rattle.slots.specs.declared.Lock.{Lock}
use Rattle.slots.specs.declared.Lock.TheVariants.{Xi, Alpha}
use Rattle.slots.specs.declared.Under.{Under}
use Rattle.slots.specs.Parts.{key_of, is_delete, is_next, is_third, held_lock, Stand, holding, holding_locks, converting}
use Rattle.slots.specs.Locks.{same_lock}
pub use Rattle.footing.specs.Granted.{is_none}
use Rattle.footing.specs.Granted.{Verdict, broken, goes, ends, is_safe, lock_below, change_known, locks_in_turn, to_convert, granted, at_its_leaf}

-- "each held page and the wanted one has level 1 to 10 .., μ in range, rising keys, pointers all different and from 1 to
-- N-1, unused words 0"
unfoldable pub pages_sound : ℕ → ℕ → List ℕ → List ℕ → Bool
pages_sound k n ws pages = all (λ (p : ℕ). sound_by_itself k n p (words_of k p ws)) pages

-- page p names page q, by its route, its p0 or as a neighbour, "and, where its father is held, [its level is] one less than the father's"
abbrev pub names_below : (ℕ → Page) → (Page → ℕ) → ℕ → ℕ → Bool
names_below memory named p q = eqb (named (memory p)) q && eqb (memory p).level ((memory q).level + 1)

-- page q is the one to which page p routes x
abbrev pub leads : (ℕ → Page) → ℕ → ℕ → ℕ → Bool
leads memory x p q = names_below memory (route x) p q

-- a way down: each page leads to the one behind it
unfoldable pub descends : (ℕ → Page) → ℕ → List ℕ → Bool
descends memory x [] = true
descends memory x (p ∷ []) = true
descends memory x (p ∷ (q ∷ rest)) = leads memory x p q && descends memory x (q ∷ rest)

-- The pages that are still held are those whose ancestors could not be given up: the top one is page 0 or was safe when
-- granted, and none below it was. Nothing is held before page 0 is granted.
abbrev pub rightly_kept : Op → ℕ → (ℕ → Page) → List ℕ → ℕ → Bool
rightly_kept op k memory [] want = eqb want 0
rightly_kept op k memory (top ∷ below) want =
    (eqb top 0 || is_safe op k (memory top)) && all (λ (p : ℕ). not (is_safe op k (memory p))) below

-- each sibling has the level of the page beside it on the path, given upward
unfoldable pub same_levels : (ℕ → Page) → List ℕ → List ℕ → Bool
same_levels memory path [] = true
same_levels memory [] (s ∷ siblings) = false
same_levels memory (p ∷ up) (s ∷ siblings) = eqb (memory p).level (memory s).level && same_levels memory up siblings

-- what is needed next is this page
abbrev pub is_sibling : Need → ℕ → Bool
is_sibling nothing want = false
is_sibling (sibling s) want = eqb s want
is_sibling astray want = false

-- A deletion that stands at its leaf: the key is there, the siblings held are those that the rules took so far, and the
-- want is the next one. Its path is given upward.
abbrev pub rightly_beside : ℕ → (ℕ → Page) → Stand → List ℕ → Bool
rightly_beside k memory z [] = false
rightly_beside k memory z (leaf ∷ fathers) =
    is_delete z.op
    && has (key_of z.op) (memory leaf).entries
    && is_sibling (needs k memory (key_of z.op) leaf fathers z.beside) z.want
    && same_levels memory (leaf ∷ fathers) (z.beside ++ z.want ∷ [])

-- a leftmost way: p0 of each page is the one behind it, a level lower
unfoldable pub leftmost : (ℕ → Page) → List ℕ → Bool
leftmost memory [] = true
leftmost memory (p ∷ []) = true
leftmost memory (p ∷ (q ∷ rest)) = names_below memory (pointer 0) p q && leftmost memory (q ∷ rest)

-- the next child to the right of page top, a level below it, and its leftmost way
abbrev pub turns_right : (ℕ → Page) → ℕ → ℕ → List ℕ → Bool
turns_right memory x top [] = false
turns_right memory x top (p ∷ rest) = names_below memory (neighbour x) top p && leftmost memory (p ∷ rest)

-- A Next that goes down its second way: its leaf has no key at or above its own, the top page of its path has a child to the
-- right, and what it holds beside the path and wants is that child's leftmost way so far. (Only a deletion and a Next go on
-- from their leaf.)
abbrev pub rightly_across : ℕ → (ℕ → Page) → Stand → List ℕ → Bool
rightly_across k memory z [] = false
rightly_across k memory z (top ∷ below) =
    is_next z.op
    && is_none (at_or_above (key_of z.op) (memory (get_or (reverse (top ∷ below)) 0 0)).entries)
    && is_safe z.op k (memory top)
    && turns_right memory (key_of z.op) top (z.beside ++ z.want ∷ [])

-- The kind of lock with which the rules would have an operation want its next page, coming down: by the lowest page of its path, which
-- is given upward. (At its leaf an operation wants with the kind under which it holds, and so it does from a leaf.)
abbrev pub lock_due : Op → (ℕ → Page) → List ℕ → Lock
lock_due op memory [] = held_lock op
lock_due op memory (p ∷ up) = lock_below op (memory p)

-- it holds every page with the kind with which it goes down
abbrev pub holds_due : Stand → Bool
holds_due z = all (λ (u : Under). same_lock u.lock (held_lock z.op)) (holding_locks z)

-- It goes down, or stands at its leaf and wants one more page.
unfoldable pub fitting_new : ℕ → (ℕ → Page) → Stand → Bool
fitting_new k memory z =
    same_lock z.lock (lock_due z.op memory (reverse z.path))
    && holds_due z
    && cond (at_its_leaf memory (reverse z.path))
    (descends memory (key_of z.op) z.path && (rightly_beside k memory z (reverse z.path) || rightly_across k memory z z.path))
    (descends memory (key_of z.op) (z.path ++ z.want ∷ []) && is_none z.beside)

-- ξ on some, then α on all that follow
unfoldable pub xi_then_alpha : List Under → Bool
xi_then_alpha [] = true
xi_then_alpha (u ∷ locks) = cond (same_lock u.lock Xi) (xi_then_alpha locks) (all (λ (v : Under). same_lock v.lock Alpha) (u ∷ locks))

-- the first of these pages is this one
abbrev pub is_first : ℕ → List ℕ → Bool
is_first want [] = false
is_first want (p ∷ pages) = eqb p want

-- 02 (vi), at its leaf, given upward: it converts. The change is known, the siblings held are those that the rules took, what was converted has ξ and
-- the rest α, and the want is the next conversion.
abbrev pub rightly_converting : ℕ → (ℕ → Page) → Stand → List ℕ → Bool
rightly_converting k memory z [] = false
rightly_converting k memory z (leaf ∷ fathers) =
    is_third z.op
    && is_leaf (memory leaf)
    && descends memory (key_of z.op) z.path
    && change_known k memory z leaf fathers
    && same_levels memory (leaf ∷ fathers) z.beside
    && same_lock z.lock Xi
    && xi_then_alpha (locks_in_turn z)
    && is_first z.want (to_convert z)

-- "and if these pages, read again, are the ones the rules would have this operation hold and want at this point"
unfoldable pub fitting : ℕ → (ℕ → Page) → Stand → Bool
fitting k memory z =
    rightly_kept z.op k memory z.path z.want
    && cond (converting z) (rightly_converting k memory z (reverse z.path)) (fitting_new k memory z)

-- it wants to convert a page
abbrev pub wants_conversion : Stand → Bool
wants_conversion z = is_third z.op && same_lock z.lock Xi

-- "and the page it would want next is none that it would then hold"; 02 (vi): "01's rule on the page wanted next exempts conversions"
abbrev pub next_is_new : Verdict → Bool
next_is_new broken = false
next_is_new (goes z) = not (member z.want (holding z)) || wants_conversion z
next_is_new (ends answer writes) = true

-- "Pages are sound for a step if": all of these together
unfoldable pub sound_for_step : ℕ → ℕ → List ℕ → Stand → Bool
sound_for_step k n ws z =
    pages_sound k n ws (holding z ++ z.want ∷ [])
    && fitting k (page_at k ws) z
    && next_is_new (granted k (page_at k ws) (free_pages k n ws) z)

-- What a granted step comes to, damage included: what the rules say where the pages are sound for the step.
unfoldable pub verdict : ℕ → ℕ → List ℕ → Stand → Verdict
verdict k n ws z = cond (sound_for_step k n ws z) (granted k (page_at k ws) (free_pages k n ws) z) broken
