-- What a granted step comes to, said of the pages that the operation stands at: one rule, whether it came down or stood at its
-- leaf. `proofs/JudgeLaws.antt` shows that it is the rule of a granted step.
use Rattle.std.specs.Prelude.{ℕ, ◌-◌, Bool, true, false, cond, not, ◌&&◌, List, [], ◌∷◌, reverse, ◌⊎◌, ◌≡◌, ltb, eqb, length, get_or, Option, Some, None}
use Rattle.ground.specs.Tests.{member}
use Rattle.page.specs.Words.{Page, is_leaf}
use Rattle.page.specs.Place.{pointer, route, has, at_or_above}
use Rattle.page.specs.Short.{neighbour}
use Rattle.page.specs.Reading.{nearest}
use Rattle.change.specs.Insertion.{room, insertion}
use Rattle.change.specs.Deletion.{Need, nothing, sibling, astray, needs, deletion}
use Rattle.change.specs.Held.{leaf_of, fathers_of}
use Rattle.slots.specs.declared.Op.{Op}
use Rattle.slots.specs.declared.Op.TheVariants.{Search, Insert, Delete, Next, Regrade}
use Rattle.slots.specs.declared.Way.{Way}
use Rattle.slots.specs.declared.Way.TheVariants.{First}
use Rattle.slots.specs.declared.Lock.{Lock}
use Rattle.slots.specs.declared.Lock.TheVariants.{Rho}
use Rattle.slots.specs.declared.Answer.TheVariants.{Found, NotFound, Inserted, AlreadyThere, Deleted, NoSuchKey, NoRoom, Next as NextLot, None as NoLot}
use Rattle.slots.specs.declared.Slot.{Slot}
use Rattle.slots.specs.Parts.{key_of, is_next, is_second, is_third, held_lock, beside_of, held, Stand, wants_next, stand_of}
use Rattle.course.specs.declared.judging.Course.{Course}
use Rattle.course.specs.declared.judging.Course.TheVariants.{Broken, Goes, Ends, Inserts, Deletes, Regrades, Again}
use Rattle.footing.specs.Granted.{Verdict, broken, goes, ends, is_safe, lock_below, next_answer, again, stays_second, change_known, to_convert, converted_first, at_leaf, from_leaf}
use Rattle.footing.specs.Standing.{turn_of}
use Rattle.footing.specs.Fitting.{next_is_new}

-- A Next at its first leaf, or on its second way, given upward: there the last page of it tells.
abbrev pub on_second : Verdict → (ℕ → Page) → Stand → List ℕ → Verdict
on_second first memory z [] = first
on_second first memory z (p ∷ up) =
    cond (is_leaf (memory p))
    (ends (next_answer (at_or_above (key_of z.op) (memory p).entries)) [])
    (goes (wants_next z (pointer 0 (memory p)) (held_lock z.op)))

-- at the leaf, with the pages beside the path held: by the operation of the slot that stands there
unfoldable pub judged_at : Op → ℕ → (ℕ → Page) → List ℕ → Stand → ℕ → List ℕ → Verdict
judged_at (Search x) k memory free z leaf fathers = at_leaf (Search x) k memory free z leaf fathers
judged_at (Insert x v way) k memory free z leaf fathers = at_leaf (Insert x v way) k memory free z leaf fathers
judged_at (Delete x way) k memory free z leaf fathers = at_leaf (Delete x way) k memory free z leaf fathers
judged_at (Next x) k memory free z leaf fathers =
    on_second (at_leaf (Next x) k memory free z leaf fathers) memory z (reverse z.beside)
judged_at (Regrade x v way) k memory free z leaf fathers = at_leaf (Regrade x v way) k memory free z leaf fathers

-- an update by the second way does not stay at this leaf
abbrev pub begins_again : Op → ℕ → (ℕ → Page) → ℕ → Bool
begins_again op k memory leaf = is_second op && not (stays_second op k memory leaf)

-- the operation stands here
unfoldable pub judged : ℕ → (ℕ → Page) → List ℕ → Stand → Verdict
judged k memory free z =
    from_leaf
    (λ (leaf : ℕ) (fathers : List ℕ).
    cond (is_leaf (memory leaf))
    (cond (begins_again z.op k memory leaf)
    (again z.op)
    (converted_first k memory z leaf fathers (judged_at z.op k memory free z leaf fathers)))
    (goes (wants_next z (route (key_of z.op) (memory leaf)) (lock_below z.op (memory leaf)))))
    (reverse z.path)

-- "and the page it would want next is none that it would then hold"
abbrev pub if_new : Verdict → Verdict
if_new v = cond (next_is_new v) v broken

-- the rule's word for a course, for an operation that stands here
abbrev pub course_of : ℕ → (ℕ → Page) → List ℕ → Stand → Course → Verdict
course_of k memory free z Broken = broken
course_of k memory free z (Goes next lock) = goes (wants_next z next lock)
course_of k memory free z (Ends a) = ends a []
course_of k memory free z (Inserts x v) =
    from_leaf
    (λ (leaf : ℕ) (fathers : List ℕ).
    cond (ltb (length free) (room k memory leaf z.path))
    (ends NoRoom [])
    (ends Inserted (insertion k memory x v free leaf fathers)))
    (reverse z.path)
course_of k memory free z (Deletes x v) =
    from_leaf
    (λ (leaf : ℕ) (fathers : List ℕ). ends (Deleted v) (deletion k memory x leaf fathers z.beside))
    (reverse z.path)
course_of k memory free z (Regrades x v) = from_leaf (at_leaf (Regrade x v First) k memory free z) (reverse z.path)
course_of k memory free z Again = again z.op

-- the key stands in the last page of a path, given upward
abbrev pub stands_last : (ℕ → Page) → ℕ → List ℕ → Type 0
stands_last memory x [] = ⊥
stands_last memory x (leaf ∷ fathers) = has x (memory leaf).entries ≡ true

-- What a change may count on. An insertion, by whichever way: the top page of its path is page 0 or safe for it by the first way. A deletion:
-- what is taken out is there, and what is held beside the path is no second way of a Next.
abbrev pub ready : Op → ℕ → (ℕ → Page) → List ℕ → Course → Type 0
ready op k memory path Broken = Unit {0}
ready op k memory path (Goes next lock) = Unit {0}
ready op k memory path (Ends a) = Unit {0}
ready op k memory path (Inserts x v) = (get_or path 0 0 ≡ 0) ⊎ (is_safe (Insert x v First) k (memory (get_or path 0 0)) ≡ true)
ready op k memory path (Deletes x v) = (is_next op ≡ false) × stands_last memory x (reverse path)
ready op k memory path (Regrades x v) = Unit {0}
ready op k memory path Again = Unit {0}

-- which page is converted next, if one is left, of an update by the third way whose change is known
abbrev pub turn_course : Op → ℕ → (ℕ → Page) → Slot → Option ℕ
turn_course op k memory stand =
    cond (is_third op && change_known k memory (stand_of op stand) (leaf_of stand.depth stand.path) (fathers_of stand.depth stand.path))
    (turn_of (to_convert (stand_of op stand)))
    None

-- The courses by what was read: on to this page with this lock, if it is not held; and, at the leaf, by what stands there under the key.
abbrev pub next_course : Slot → ℕ → Lock → Course
next_course stand next lock = cond (member next (held stand)) Broken (Goes next lock)

abbrev pub search_course : Option ℕ → Course
search_course (Some v) = Ends (Found v)
search_course None = Ends NotFound

abbrev pub insert_course : Option ℕ → ℕ → ℕ → Course
insert_course (Some v') x v = Ends (AlreadyThere v')
insert_course None x v = Inserts x v

abbrev pub need_course : Slot → ℕ → Way → ℕ → Need → Course
need_course stand x way v nothing = Deletes x v
need_course stand x way v (sibling s) = next_course stand s (held_lock (Delete x way))
need_course stand x way v astray = Broken

abbrev pub delete_course : ℕ → (ℕ → Page) → ℕ → Way → Option ℕ → Slot → Course
delete_course k memory x way None stand = Ends NoSuchKey
delete_course k memory x way (Some v) stand =
    need_course stand x way v (needs k memory x (leaf_of stand.depth stand.path) (fathers_of stand.depth stand.path) (beside_of stand))

-- A Next by the first entry that was read; without one it goes this further.
abbrev pub near_course : Course → Option (ℕ × ℕ) → Course
near_course further (Some (y, v)) = Ends (NextLot y v)
near_course further None = further

-- its first leaf has none: by the top page of its path
abbrev pub cross_course : ℕ → (ℕ → Page) → ℕ → Slot → Course
cross_course k memory x stand =
    cond (is_safe (Next x) k (memory (get_or stand.path 0 0))) (next_course stand (neighbour x (memory (get_or stand.path 0 0))) Rho) (Ends NoLot)

abbrev pub first_course : ℕ → (ℕ → Page) → ℕ → Slot → Course
first_course k memory x stand =
    near_course (cross_course k memory x stand) (nearest (at_or_above x (memory (leaf_of stand.depth stand.path)).entries))

-- it was granted page p of its second way
abbrev pub left_course : (ℕ → Page) → ℕ → Slot → ℕ → Course
left_course memory x stand p =
    cond (is_leaf (memory p)) (near_course (Ends NoLot) (nearest (at_or_above x (memory p).entries))) (next_course stand (pointer 0 (memory p)) Rho)

-- at its leaf, by whether it holds pages of a second way
abbrev pub nexts_course : ℕ → (ℕ → Page) → ℕ → Slot → Course
nexts_course k memory x stand =
    cond (eqb stand.breadth 0) (first_course k memory x stand) (left_course memory x stand (get_or stand.beside (stand.breadth - 1) 0))
