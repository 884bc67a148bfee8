-- What a granted step does, from the pages as they stand. "Slots, locks and steps" of document 01, "On a grant".
-- A slot's path is given from the top downward, its siblings from the leaf's upward, the second way of a Next from the top
-- downward.
use Rattle.std.specs.Prelude.{ℕ, ◌*◌, Bool, true, false, cond, not, ◌&&◌, ◌||◌, List, [], ◌∷◌, ◌++◌, reverse, eqb, ltb, length, get_or}
use Rattle.page.specs.Words.{Entry, Page, μ, is_leaf}
use Rattle.page.specs.Place.{pointer, route, has, information, at_or_above}
use Rattle.page.specs.Short.{has_right, neighbour}
use Rattle.pool.specs.Pool.{Write}
use Rattle.change.specs.Insertion.{room, insertion}
use Rattle.change.specs.Deletion.{Need, nothing, sibling, astray, needs, deletion}
use Rattle.change.specs.Regrading.{regrading}
use Rattle.slots.specs.declared.Op.{Op}
use Rattle.slots.specs.declared.Op.TheVariants.{Search, Insert, Delete, Next, Regrade}
use Rattle.slots.specs.declared.Way.TheVariants.{First, Second, Third}
use Rattle.slots.specs.declared.Lock.{Lock}
use Rattle.slots.specs.declared.Lock.TheVariants.{None, Xi}
use Rattle.slots.specs.declared.Under.{Under}
use Rattle.slots.specs.declared.Answer.{Answer}
use Rattle.slots.specs.declared.Answer.TheVariants.{Found, NotFound, Inserted, AlreadyThere, Deleted, NoSuchKey, NoRoom, Next as NextLot, None as NoLot, Regraded}
use Rattle.slots.specs.Parts.{key_of, is_next, is_second, is_third, first_way, held_lock, under, Stand, fresh_stand, on_pages, want_beside, want_converted, converting, wants_next}
use Rattle.slots.specs.Locks.{same_lock}

-- What a granted step comes to: the pages are not sound for it; the slot goes on and stands here; or the operation ends with this
-- answer, and these pages are written.
pub data Verdict : Type 0 where
  broken : Verdict
  goes : Stand → Verdict
  ends : Answer → List Write → Verdict

-- "Search gives up the father." "Insertion: if the page has μ < 2k, all its ancestors are given up." "Deletion: the
-- same with μ > k, for pages other than 0": page 0 has no ancestors. Next keeps its locks "from the lowest page on its way that
-- still has a child to the right of the route (from page 0 if none has)": a leaf has no children. Regrading: "every page is safe for it".
-- By the second way an update gives up the father as a search does, by the third its ancestors as by the first.
-- On such a page an operation holds that page alone.
abbrev pub is_safe : Op → ℕ → Page → Bool
is_safe (Search x) k P = true
is_safe (Insert x v First) k P = ltb (μ P) (2 * k)
is_safe (Insert x v Second) k P = true
is_safe (Insert x v Third) k P = ltb (μ P) (2 * k)
is_safe (Delete x First) k P = ltb k (μ P)
is_safe (Delete x Second) k P = true
is_safe (Delete x Third) k P = ltb k (μ P)
is_safe (Next x) k P = not (is_leaf P) && has_right x P
is_safe (Regrade x v First) k P = true
is_safe (Regrade x v Second) k P = true
is_safe (Regrade x v Third) k P = true

-- The kind of lock that an operation wants the next page with, from page P of its way. 02 (v): "ρ-locks down, a ξ-lock wanted on the leaf":
-- the leaf is what a page on level 2 leads to.
abbrev pub lock_below : Op → Page → Lock
lock_below op P = cond (is_second op && eqb P.level 2) Xi (held_lock op)

-- the path after the wanted page is granted
abbrev pub kept : ℕ → (ℕ → Page) → Stand → List ℕ
kept k memory z = cond (is_safe z.op k (memory z.want)) (z.want ∷ []) (z.path ++ z.want ∷ [])

-- and the kinds of lock under which it is held: the granted page's is the one with which it was wanted
abbrev pub kept_locks : ℕ → (ℕ → Page) → Stand → List Under
kept_locks k memory z = cond (is_safe z.op k (memory z.want)) (under z.lock ∷ []) (z.locks ++ under z.lock ∷ [])

-- what a deletion does by what it needs: the whole change, one more page wanted, or nothing at all
abbrev pub by_need : Stand → Verdict → Need → Verdict
by_need z whole nothing = whole
by_need z whole (sibling s) = goes (wants_next z s (held_lock z.op))
by_need z whole astray = broken

-- A deletion of x that stands at its leaf, with the siblings that it holds. "If the leaf would be short, and is not page 0, the
-- slot wants its sibling, then .. the father's sibling, and so on up. When no more is needed, the whole change is made
-- in that step."
unfoldable pub deletes : ℕ → (ℕ → Page) → ℕ → Stand → ℕ → List ℕ → Verdict
deletes k memory x z leaf fathers =
    by_need z
    (ends (Deleted (information x (memory leaf).entries)) (deletion k memory x leaf fathers z.beside))
    (needs k memory x leaf fathers z.beside)

-- "answers Next with the first entry .., or None": of the entries from that one on
abbrev pub next_answer : List Entry → Answer
next_answer [] = NoLot
next_answer (e ∷ es) = NextLot e.key e.value

-- A Next of x whose leaf has no such key, by the top page of its path: it goes on to "the next child to the right" of that page,
-- or there is none at all.
abbrev pub crosses : ℕ → ℕ → (ℕ → Page) → Stand → List ℕ → Verdict
crosses x k memory z [] = broken
crosses x k memory z (top ∷ below) =
    cond (is_safe (Next x) k (memory top)) (goes (wants_next z (neighbour x (memory top)) (held_lock z.op))) (ends NoLot [])

-- a Next at its leaf, by the leaf's entries at or above the key
abbrev pub by_nearest : Verdict → List Entry → Verdict
by_nearest further [] = further
by_nearest further (e ∷ es) = ends (next_answer (e ∷ es)) []

-- 02 (v): "A key already there or missing is answered at once; a safe leaf is changed; otherwise all locks are given up and the operation
-- begins again by the first way. If page 0 is a leaf, it begins again in any case." Beginning again is a begin without a call.
abbrev pub again : Op → Verdict
again op = goes (fresh_stand (first_way op))

-- a key already there, of an insertion, or missing, of another update: by the leaf's entries
abbrev pub answered_at_once : Op → List Entry → Bool
answered_at_once (Search x) es = true
answered_at_once (Insert x v way) es = has x es
answered_at_once (Delete x way) es = not (has x es)
answered_at_once (Next x) es = true
answered_at_once (Regrade x v way) es = not (has x es)

-- an update by the second way does at this leaf what it does by the first way; otherwise it begins again
abbrev pub stays_second : Op → ℕ → (ℕ → Page) → ℕ → Bool
stays_second op k memory leaf =
    not (eqb leaf 0) && (answered_at_once op (memory leaf).entries || is_safe (first_way op) k (memory leaf))

-- ---- the third way

-- nothing more is needed
abbrev pub is_nothing : Need → Bool
is_nothing nothing = true
is_nothing (sibling s) = false
is_nothing astray = false

abbrev pub is_none : {A : Type 0} → List A → Bool
is_none [] = true
is_none (p ∷ ps) = false

-- of siblings: a deletion's are all there, and no other operation has any
abbrev pub needs_no_more : Op → ℕ → (ℕ → Page) → List ℕ → ℕ → List ℕ → Bool
needs_no_more (Search x) k memory beside leaf fathers = is_none beside
needs_no_more (Insert x v way) k memory beside leaf fathers = is_none beside
needs_no_more (Delete x way) k memory beside leaf fathers = is_nothing (needs k memory x leaf fathers beside)
needs_no_more (Next x) k memory beside leaf fathers = is_none beside
needs_no_more (Regrade x v way) k memory beside leaf fathers = is_none beside

-- 02 (vi): "When the change is known": the key is not one that is answered at once, and no sibling is needed any more
abbrev pub change_known : ℕ → (ℕ → Page) → Stand → ℕ → List ℕ → Bool
change_known k memory z leaf fathers =
    not (answered_at_once z.op (memory leaf).entries) && needs_no_more z.op k memory z.beside leaf fathers

-- "path and siblings are converted to ξ from the top down, path page before sibling on each level": what goes by a path, given downward, and by
-- siblings, from the leaf's upward, in this order. The sibling of a page has as many siblings before it as there are pages below.
unfoldable pub in_turn : {A : Type 0} → A → List A → List A → List A
in_turn none [] beside = []
in_turn none (p ∷ below) beside =
    p ∷ (cond (ltb (length below) (length beside)) (get_or beside (length below) none ∷ []) [] ++ in_turn none below beside)

-- the pages that it holds, and the kinds under which it does
abbrev pub pages_in_turn : Stand → List ℕ
pages_in_turn z = in_turn 0 z.path z.beside

abbrev pub locks_in_turn : Stand → List Under
locks_in_turn z = in_turn (under None) z.locks z.sidelocks

-- those from the first on that is not held with ξ yet
unfoldable pub unconverted : List ℕ → List Under → List ℕ
unconverted [] locks = []
unconverted (p ∷ pages) [] = p ∷ pages
unconverted (p ∷ pages) (u ∷ locks) = cond (same_lock u.lock Xi) (unconverted pages locks) (p ∷ pages)

abbrev pub to_convert : Stand → List ℕ
to_convert z = unconverted (pages_in_turn z) (locks_in_turn z)

-- "one conversion a step": the next one is wanted, or, where none is left, this is done
abbrev pub by_turn : Stand → Verdict → List ℕ → Verdict
by_turn z change [] = change
by_turn z change (p ∷ pages) = goes (wants_next z p Xi)

-- An update by the third way whose change is known converts what it holds before it makes the change; everything else is done at once.
abbrev pub converted_first : ℕ → (ℕ → Page) → Stand → ℕ → List ℕ → Verdict → Verdict
converted_first k memory z leaf fathers act =
    cond (is_third z.op && change_known k memory z leaf fathers) (by_turn z act (to_convert z)) act

-- ---- at the leaf

-- At the leaf, with its path upward held: the leaf and its fathers. By the operation of the slot that stands there; an update by the second way
-- comes this far only where it does not begin again, and one by the third way that makes its change only with ξ on all that it holds (`by_way_at_leaf`).
-- "Search .. At a leaf it answers". "Insertion .. At the leaf: a key already there is answered so; then room is counted;
-- then the whole change is made." "Deletion .. At the leaf: a missing key is answered so." Next: a key at or above is answered
-- at once. 02 (iv): "AlreadyThere shall now carry the information there." Regrading "puts new information under a key that is there
-- and answers Regraded with the old information, or NoSuchKey".
unfoldable pub at_leaf : Op → ℕ → (ℕ → Page) → List ℕ → Stand → ℕ → List ℕ → Verdict
at_leaf (Search x) k memory free z leaf fathers =
    ends (cond (has x (memory leaf).entries) (Found (information x (memory leaf).entries)) NotFound) []
at_leaf (Insert x v way) k memory free z leaf fathers =
    cond (has x (memory leaf).entries)
    (ends (AlreadyThere (information x (memory leaf).entries)) [])
    (cond (ltb (length free) (room k memory leaf z.path))
    (ends NoRoom [])
    (ends Inserted (insertion k memory x v free leaf fathers)))
at_leaf (Delete x way) k memory free z leaf fathers =
    cond (has x (memory leaf).entries) (deletes k memory x z leaf fathers) (ends NoSuchKey [])
at_leaf (Next x) k memory free z leaf fathers = by_nearest (crosses x k memory z z.path) (at_or_above x (memory leaf).entries)
at_leaf (Regrade x v way) k memory free z leaf fathers =
    cond (has x (memory leaf).entries)
    (ends (Regraded (information x (memory leaf).entries)) (regrading memory x v leaf))
    (ends NoSuchKey [])

-- the lowest page of a path, given upward, and the pages above it
abbrev pub from_leaf : (ℕ → List ℕ → Verdict) → List ℕ → Verdict
from_leaf act [] = broken
from_leaf act (leaf ∷ fathers) = act leaf fathers

-- an operation at its leaf, by its way
abbrev pub by_way_at_leaf : ℕ → (ℕ → Page) → List ℕ → Stand → ℕ → List ℕ → Verdict
by_way_at_leaf k memory free z leaf fathers =
    cond (is_second z.op && not (stays_second z.op k memory leaf))
    (again z.op)
    (converted_first k memory z leaf fathers (at_leaf z.op k memory free z leaf fathers))

-- Coming down, the wanted page is granted: above the leaves the next want is the route from it.
unfoldable pub comes_down : ℕ → (ℕ → Page) → List ℕ → Stand → Verdict
comes_down k memory free z =
    let down = on_pages z (kept k memory z) (kept_locks k memory z) [] [] in
    cond (is_leaf (memory z.want))
    (from_leaf (by_way_at_leaf k memory free down) (reverse down.path))
    (goes (wants_next down (route (key_of z.op) (memory z.want)) (lock_below z.op (memory z.want))))

-- Standing at its leaf, a Next is granted the wanted page of its second way: "goes down the leftmost way .., giving nothing up until
-- its answer". At the second leaf as at the first it answers the first entry at or above its key, or None.
unfoldable pub goes_left : (ℕ → Page) → Stand → Verdict
goes_left memory z =
    cond (is_leaf (memory z.want))
    (ends (next_answer (at_or_above (key_of z.op) (memory z.want).entries)) [])
    (goes (wants_next (want_beside z) (pointer 0 (memory z.want)) (held_lock z.op)))

-- Standing at its leaf, a deletion is granted the sibling that it wants, or a Next a page of its second way.
unfoldable pub besides : ℕ → (ℕ → Page) → Stand → Verdict
besides k memory z =
    cond (is_next z.op)
    (goes_left memory z)
    (from_leaf
    (λ (leaf : ℕ) (fathers : List ℕ).
    converted_first k memory (want_beside z) leaf fathers (deletes k memory (key_of z.op) (want_beside z) leaf fathers))
    (reverse z.path))

-- Standing at its leaf, an update by the third way is granted the conversion that it wants: the page has ξ now. "Room is counted in the step that
-- makes the change, after the last conversion."
unfoldable pub converts : ℕ → (ℕ → Page) → List ℕ → Stand → Verdict
converts k memory free z =
    from_leaf
    (λ (leaf : ℕ) (fathers : List ℕ).
    converted_first k memory (want_converted z) leaf fathers (at_leaf z.op k memory free (want_converted z) leaf fathers))
    (reverse z.path)

-- the lowest page of a path is a leaf
abbrev pub at_its_leaf : (ℕ → Page) → List ℕ → Bool
at_its_leaf memory [] = false
at_its_leaf memory (p ∷ up) = is_leaf (memory p)

-- What the step comes to in which a slot that stands here is granted its want.
unfoldable pub granted : ℕ → (ℕ → Page) → List ℕ → Stand → Verdict
granted k memory free z =
    cond (converting z)
    (converts k memory free z)
    (cond (at_its_leaf memory (reverse z.path)) (besides k memory z) (comes_down k memory free z))
