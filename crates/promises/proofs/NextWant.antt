-- The page that an operation would want next, by the rule and in plain terms: a granted step goes on to a new page just where there is one, and to it.
use Prim.Native.Nat.{ℕ, suc, ◌+◌, ◌≤◌, ◌<◌}
use mathlib.Core.Bool.{Bool, true, false, cond, not, ◌&&◌, ◌||◌, false≢true}
use mathlib.Core.List.{List, [], ◌∷◌, ◌++◌, reverse, append-nil, reverse-append}
use mathlib.Core.Logic.{◌⊎◌, inl, inr, ⊎_elim, ◌≢◌}
use mathlib.Core.Path.{◌≡◌, refl, sym, ap, ap₂, subst, ◌∙◌}
use native.Mathlib.Omega.{arith}
use lib.Dec.{ltb, eqb}
use lib.ListN.{length, get_or, drop, length-drop, length-reverse}
use lib.Seq.{get_or-drop}
use borrow.Author.Tests.{ltb-true, ltb-false, lt-ltb, le-ltb, eqb-true, eqb-false, eq-eqb, ne_eqb, not-true, not-false}
use Rattle.ground.specs.Tests.{member}
use Rattle.ground.proofs.Bools.{not_both, false_if_not_true, and_first, and_second, and_both, and_first_fails, or_first, or_second, or_none, or_cases, or_first_fails, or_second_fails, not_of_false}
use Rattle.ground.proofs.Choice.{by_test, same_or_not, cond_ind, cond-true, cond-false}
use Rattle.ground.proofs.Tests.{member_none, member_append, member_inside, member_last, member_from, member_at}
use Rattle.page.specs.Words.{Entry, Page, μ, is_leaf}
use Rattle.page.specs.Place.{place, pointer, route, has, information, at_or_above}
use Rattle.page.specs.Splits.{entry_at}
use Rattle.page.specs.Sound.{rises}
use Rattle.page.specs.Short.{neighbour}
use Rattle.page.proofs.RiseLaws.{rises_from_lem}
use Rattle.page.proofs.PlaceLaws.{has_at, has_from}
use Rattle.pool.specs.Pool.{Write, page_at, free_pages}
use Rattle.change.specs.Insertion.{room}
use Rattle.change.specs.Deletion.{Need, nothing, sibling, astray, satisfied, needs, deletion}
use Rattle.slots.specs.declared.Op.{Op}
use Rattle.slots.specs.declared.Op.TheVariants.{Search, Insert, Delete, Next, Regrade}
use Rattle.slots.specs.declared.Way.{Way}
use Rattle.slots.specs.declared.Way.TheVariants.{First, Second, Third}
use Rattle.slots.specs.declared.Lock.{Lock}
use Rattle.slots.specs.declared.Under.{Under}
use Rattle.slots.specs.declared.Lock.TheVariants.{Rho, Xi}
use Rattle.slots.specs.declared.Answer.{Answer}
use Rattle.slots.specs.declared.Answer.TheVariants.{Deleted, None as NoLot}
use Rattle.slots.specs.Parts.{key_of, is_delete, is_next, is_second, is_third, first_way, held_lock, under, Stand, stand, fresh_stand, holding, converting, want_converted, wants_next}
use Rattle.slots.specs.Locks.{same_lock}
use Rattle.slots.proofs.LockLaws.{lock_same, third_not_second, third_not_xi}
use Rattle.footing.specs.Granted.{Verdict, goes, ends, is_safe, lock_below, kept, kept_locks, by_need, deletes, crosses, by_nearest, answered_at_once, stays_second, is_nothing, needs_no_more, change_known, to_convert, by_turn, converted_first, at_leaf, from_leaf, by_way_at_leaf, comes_down, goes_left, besides, converts, at_its_leaf, granted}
use Rattle.footing.specs.Fitting.{pages_sound, fitting, wants_conversion, next_is_new, sound_for_step}
use Rattle.tree.proofs.DeletionRule.{needs_ask, needs_next, needs_root}
use Rattle.runs.specs.PlainFacts.{AllBelow}
use Rattle.runs.specs.Stance.{Safe, StandsAtLeaf}
use Rattle.runs.proofs.PlainLaws.{none_below, below_none}
use Rattle.runs.proofs.Locking.{updates_not_next, third_updates}
use Rattle.runs.proofs.Needing.{Course}
use Rattle.runs.proofs.Across.{top_upward}
use Rattle.runs.proofs.Stepping.{at_leaf_test, test_at_leaf}
use Rattle.promises.specs.Terms.{Exactly, In, ConvertsHere}
use Rattle.promises.specs.SoundPages.{RoutesTo, KeptRightly, SiblingsSoFar, GathersRightly, ConvertsRightly, WouldWant, alone, lower, leaf_sibling, father_sibling, across, onward, SoundForStep}
use Rattle.promises.proofs.Terms.{in_member, converts_here}
use Rattle.promises.proofs.Known.{known_from}
use Rattle.promises.proofs.Demand2.{straight_stays, second_straight, safe_is}
use Rattle.promises.proofs.SoundPages.{Pages, pages_told, pages_from, Rising, Sized, StandsRightly, place_told, route_same, converts_own, fitting_told, fitting_from}

-- it would want no new page
abbrev pub WantsNone : ℕ → (ℕ → Page) → Stand → Type 0
WantsNone k memory z = (h : List ℕ) (q : ℕ) → WouldWant k memory z h q → ⊥

-- What a granted step comes to: the operation ends and would want nothing; it begins again, and holds nothing then; it goes on to a conversion; or it
-- goes on to the one new page that it would want.
pub data Comes (k : ℕ) (memory : ℕ → Page) (z : Stand) (v : Verdict) : Type 0 where
  ended : {a : Answer} {w : List Write} → v ≡ ends a w → WantsNone k memory z → Comes k memory z v
  anew : (op : Op) → v ≡ goes (fresh_stand op) → WantsNone k memory z → Comes k memory z v
  turned : (next : Stand) → v ≡ goes next → wants_conversion next ≡ true → WantsNone k memory z → Comes k memory z v
  further : (next : Stand) → v ≡ goes next → wants_conversion next ≡ false → WouldWant k memory z (holding next) next.want
      → ((h : List ℕ) (q : ℕ) → WouldWant k memory z h q → (h ≡ holding next) × (q ≡ next.want)) → Comes k memory z v

-- so the rule's clause on the page wanted next is the plain one
abbrev pub New : ℕ → (ℕ → Page) → Stand → Type 0
New k memory z = (h : List ℕ) (q : ℕ) → WouldWant k memory z h q → In q h → ⊥

pub new_told : {k : ℕ} {memory : ℕ → Page} {z : Stand} {v : Verdict} → Comes k memory z v → next_is_new v ≡ true → New k memory z
new_told (ended e none) t h q w i = none h q w
new_told (anew op e none) t h q w i = none h q w
new_told (turned next e turn none) t h q w i = none h q w
new_told (further next e plain there only) t h q w i =
    let (f, g) = only h q w in
    let own = member next.want (holding next) in
    not_both (in_member next.want (holding next) (subst (λ (r : ℕ). In r (holding next)) g (subst (λ (l : List ℕ). In q l) f i)))
    (⊎_elim (not-true own) (λ c. not_both c plain) (or_cases (not own) (wants_conversion next) (ap next_is_new (sym e) ∙ t)))

pub new_from : {k : ℕ} {memory : ℕ → Page} {z : Stand} {v : Verdict} → Comes k memory z v → New k memory z → next_is_new v ≡ true
new_from (ended e none) new = ap next_is_new e
new_from (anew op e none) new = ap next_is_new e ∙ or_first (wants_conversion (fresh_stand op)) (not_of_false (member_none 0))
new_from (turned next e turn none) new = ap next_is_new e ∙ or_second (not (member next.want (holding next))) turn
new_from (further next e plain there only) new =
    ap next_is_new e
    ∙ or_first (wants_conversion next)
    (not_of_false (false_if_not_true (member next.want (holding next)) (λ m. new (holding next) next.want there (member_at next.want (holding next) 0 m))))

-- ---- converting first

-- An update by the third way that converts first goes on to a conversion, or does what it would do: the former only where it would want no new page.
turn_comes : {k : ℕ} {memory : ℕ → Page} {z : Stand} (y : Stand) {act : Verdict} → is_third y.op ≡ true → Comes k memory z act → WantsNone k memory z
    → (pages : List ℕ) → Comes k memory z (by_turn y act pages)
turn_comes y third done none [] = done
turn_comes y third done none (p ∷ pages) = turned (wants_next y p Xi) refl (and_both third (lock_same Xi)) none

first_comes : {k : ℕ} {memory : ℕ → Page} {z : Stand} (y : Stand) (leaf : ℕ) (fathers : List ℕ) {act : Verdict} → Comes k memory z act
    → (is_third y.op ≡ true → change_known k memory y leaf fathers ≡ true → WantsNone k memory z)
    → Comes k memory z (converted_first k memory y leaf fathers act)
first_comes {k} {memory} {z} y leaf fathers done none =
    let third = is_third y.op in
    let known = change_known k memory y leaf fathers in
    cond_ind (Comes k memory z) (third && known)
    (λ t. turn_comes y (and_first third known t) done (none (and_first third known t) (and_second third known t)) (to_convert y))
    (λ _. done)

-- a want for a new page is no conversion
below_plain : (op : Op) (P : Page) → is_third op && same_lock (lock_below op P) Xi ≡ false
below_plain op P =
    by_test (is_third op)
    (λ third.
    let held = cond-false Xi (held_lock op) (and_first_fails (eqb P.level 2) (third_not_second op third)) in
    ap (λ (l : Lock). is_third op && same_lock l Xi) held ∙ third_not_xi op)
    (λ other. and_first_fails (same_lock (lock_below op P) Xi) other)

-- ---- what would be wanted, by where the operation stands

never_both_kinds : (op : Op) → is_delete op ≡ true → is_next op ≡ true → ⊥
never_both_kinds (Search x) d n = false≢true d
never_both_kinds (Insert x v First) d n = false≢true d
never_both_kinds (Insert x v Second) d n = false≢true d
never_both_kinds (Insert x v Third) d n = false≢true d
never_both_kinds (Delete x First) d n = false≢true n
never_both_kinds (Delete x Second) d n = false≢true n
never_both_kinds (Delete x Third) d n = false≢true n
never_both_kinds (Next x) d n = false≢true d
never_both_kinds (Regrade x v First) d n = false≢true d
never_both_kinds (Regrade x v Second) d n = false≢true d
never_both_kinds (Regrade x v Third) d n = false≢true d

-- no deletion asks for the next lot
deletes_nothing_next : (x : ℕ) (way : Way) → is_next (Delete x way) ≡ false
deletes_nothing_next x First = refl
deletes_nothing_next x Second = refl
deletes_nothing_next x Third = refl

deletion_safe : (op : Op) (k : ℕ) (P : Page) → is_delete op ≡ true → Safe op k P → k < μ P
deletion_safe (Search x) k P d s = absurd (false≢true d)
deletion_safe (Insert x v First) k P d s = absurd (false≢true d)
deletion_safe (Insert x v Second) k P d s = absurd (false≢true d)
deletion_safe (Insert x v Third) k P d s = absurd (false≢true d)
deletion_safe (Delete x First) k P d s = s
deletion_safe (Delete x Second) k P d s = absurd (false≢true d)
deletion_safe (Delete x Third) k P d s = s
deletion_safe (Next x) k P d s = absurd (false≢true d)
deletion_safe (Regrade x v First) k P d s = absurd (false≢true d)
deletion_safe (Regrade x v Second) k P d s = absurd (false≢true d)
deletion_safe (Regrade x v Third) k P d s = absurd (false≢true d)

safe_deletion : (op : Op) (k : ℕ) (P : Page) → is_delete op ≡ true → k < μ P → Safe op k P
safe_deletion (Search x) k P d s = absurd (false≢true d)
safe_deletion (Insert x v First) k P d s = absurd (false≢true d)
safe_deletion (Insert x v Second) k P d s = absurd (false≢true d)
safe_deletion (Insert x v Third) k P d s = absurd (false≢true d)
safe_deletion (Delete x First) k P d s = s
safe_deletion (Delete x Second) k P d s = absurd (false≢true d)
safe_deletion (Delete x Third) k P d s = s
safe_deletion (Next x) k P d s = absurd (false≢true d)
safe_deletion (Regrade x v First) k P d s = absurd (false≢true d)
safe_deletion (Regrade x v Second) k P d s = absurd (false≢true d)
safe_deletion (Regrade x v Third) k P d s = absurd (false≢true d)

deletion_short : (op : Op) (k : ℕ) (P : Page) → is_delete op ≡ true → (Safe op k P → ⊥) → μ P ≤ k
deletion_short op k P d never =
    ltb-false k (μ P) (false_if_not_true (ltb k (μ P)) (λ t. never (safe_deletion op k P d (ltb-true k (μ P) t))))

-- a deletion whose change is known needs no sibling more
known_needs : (op : Op) (k : ℕ) (memory : ℕ → Page) (beside : List ℕ) (leaf : ℕ) (fathers : List ℕ) → is_delete op ≡ true
    → needs_no_more op k memory beside leaf fathers ≡ true → is_nothing (needs k memory (key_of op) leaf fathers beside) ≡ true
known_needs (Search x) k memory beside leaf fathers d e = absurd (false≢true d)
known_needs (Insert x v First) k memory beside leaf fathers d e = absurd (false≢true d)
known_needs (Insert x v Second) k memory beside leaf fathers d e = absurd (false≢true d)
known_needs (Insert x v Third) k memory beside leaf fathers d e = absurd (false≢true d)
known_needs (Delete x way) k memory beside leaf fathers d e = e
known_needs (Next x) k memory beside leaf fathers d e = absurd (false≢true d)
known_needs (Regrade x v First) k memory beside leaf fathers d e = absurd (false≢true d)
known_needs (Regrade x v Second) k memory beside leaf fathers d e = absurd (false≢true d)
known_needs (Regrade x v Third) k memory beside leaf fathers d e = absurd (false≢true d)

-- a page that would be short, and is not page 0, needs one
short_needs : (k : ℕ) (memory : ℕ → Page) (x p : ℕ) (fathers : List ℕ) → μ (memory p) ≤ k → p ≢ 0 → is_nothing (needs k memory x p fathers []) ≡ false
unfolding needs
short_needs k memory x p [] m o = ap is_nothing (cond-false (satisfied []) astray (or_none (ne_eqb p 0 o) (le-ltb k (μ (memory p)) m)))
short_needs k memory x p (f ∷ up) m o = ap is_nothing (needs_ask k memory x p f up o m)

-- coming down to a page above the leaves
abbrev Downward : ℕ → (ℕ → Page) → Op → List ℕ → ℕ → List ℕ → ℕ → Type 0
Downward k memory op path want h q =
    RoutesTo (key_of op) (memory want) q × ((Safe op k (memory want) × (h ≡ want ∷ [])) ⊎ ((Safe op k (memory want) → ⊥) × (h ≡ path ++ want ∷ [])))

downward : {k : ℕ} {memory : ℕ → Page} {op : Op} {path beside : List ℕ} {want : ℕ} {lock : Lock} {locks sidelocks : List Under} {h : List ℕ} {q : ℕ} → (StandsAtLeaf memory path → ⊥) → (memory want).level ≢ 1
    → WouldWant k memory (stand op path locks beside sidelocks want lock) h q → Downward k memory op path want h q
downward n l (alone c a b s r e) = (r, inl (s, e))
downward n l (lower c a b s r e) = (r, inr (s, e))
downward n l (leaf_sibling c a b d t s r e f) = absurd (l b)
downward n l (father_sibling c a d s t r e f) = absurd (n a)
downward n l (across c a b d t s r e f) = absurd (l b)
downward n l (onward c a d b e f) = absurd (n a)

-- coming to the leaf
abbrev LeafSibling : ℕ → (ℕ → Page) → Op → List ℕ → ℕ → List ℕ → ℕ → Type 0
LeafSibling k memory op path want h q =
    (is_delete op ≡ true) × ((i : ℕ) × (i < μ (memory want)) × ((entry_at i (memory want).entries).key ≡ key_of op)) × (μ (memory want) ≤ k) × (want ≢ 0)
    × (q ≡ neighbour (key_of op) (memory (get_or (reverse path) 0 0))) × (h ≡ path ++ want ∷ [])

abbrev Crossed : ℕ → (ℕ → Page) → Op → List ℕ → ℕ → List ℕ → ℕ → Type 0
Crossed k memory op path want h q =
    (is_next op ≡ true) × AllBelow (key_of op) (memory want).entries × (1 ≤ length path) × Safe op k (memory (get_or path 0 0))
    × (q ≡ neighbour (key_of op) (memory (get_or path 0 0))) × (h ≡ path ++ want ∷ [])

to_leaf : {k : ℕ} {memory : ℕ → Page} {op : Op} {path beside : List ℕ} {want : ℕ} {lock : Lock} {locks sidelocks : List Under} {h : List ℕ} {q : ℕ} → (StandsAtLeaf memory path → ⊥) → (memory want).level ≡ 1
    → WouldWant k memory (stand op path locks beside sidelocks want lock) h q → LeafSibling k memory op path want h q ⊎ Crossed k memory op path want h q
to_leaf n l (alone c a b s r e) = absurd (b l)
to_leaf n l (lower c a b s r e) = absurd (b l)
to_leaf n l (leaf_sibling c a b d t s r e f) = inl (d, t, s, r, e, f)
to_leaf n l (father_sibling c a d s t r e f) = absurd (n a)
to_leaf n l (across c a b d t s r e f) = inr (d, t, s, r, e, f)
to_leaf n l (onward c a d b e f) = absurd (n a)

-- at the leaf
abbrev FatherSibling : ℕ → (ℕ → Page) → Op → List ℕ → List ℕ → ℕ → List ℕ → ℕ → Type 0
FatherSibling k memory op path beside want h q =
    (is_delete op ≡ true) × (μ (memory want) ≤ k) × (μ (memory (get_or (reverse path) (suc (length beside)) 0)) ≤ k)
    × (get_or (reverse path) (suc (length beside)) 0 ≢ 0)
    × (q ≡ neighbour (key_of op) (memory (get_or (reverse path) (suc (suc (length beside))) 0))) × (h ≡ path ++ (beside ++ want ∷ []))

abbrev Leftward : (ℕ → Page) → Op → List ℕ → List ℕ → ℕ → List ℕ → ℕ → Type 0
Leftward memory op path beside want h q = (is_next op ≡ true) × ((memory want).level ≢ 1) × (q ≡ pointer 0 (memory want)) × (h ≡ path ++ (beside ++ want ∷ []))

from_leaf_lem : {k : ℕ} {memory : ℕ → Page} {op : Op} {path beside : List ℕ} {want : ℕ} {lock : Lock} {locks sidelocks : List Under} {h : List ℕ} {q : ℕ} → StandsAtLeaf memory path
    → WouldWant k memory (stand op path locks beside sidelocks want lock) h q → FatherSibling k memory op path beside want h q ⊎ Leftward memory op path beside want h q
from_leaf_lem l (alone c a b s r e) = absurd (a l)
from_leaf_lem l (lower c a b s r e) = absurd (a l)
from_leaf_lem l (leaf_sibling c a b d t s r e f) = absurd (a l)
from_leaf_lem l (father_sibling c a d s t r e f) = inl (d, s, t, r, e, f)
from_leaf_lem l (across c a b d t s r e f) = absurd (a l)
from_leaf_lem l (onward c a d b e f) = inr (d, b, e, f)

-- ---- coming to the leaf

module _ (k : ℕ) (memory : ℕ → Page) (free path beside : List ℕ) (want : ℕ) (lock : Lock) (locks sidelocks locks' : List Under) (new : In want (path ++ beside) → ⊥) (n : StandsAtLeaf memory path → ⊥) (leaf : (memory want).level ≡ 1) where
  -- an operation that goes on from no leaf
  stays : (op : Op) → is_delete op ≡ false → is_next op ≡ false → (h : List ℕ) (q : ℕ) → WouldWant k memory (stand op path locks beside sidelocks want lock) h q → ⊥
  stays op d e h q w = ⊎_elim (λ s. not_both s.0 d) (λ s. not_both s.0 e) (to_leaf n leaf w)

  -- a deletion whose leaf has the key
  module _ (x : ℕ) (way : Way) (begins : length path ≡ 0 → want ≡ 0) (there : has x (memory want).entries ≡ true) where
    abbrev whole : List ℕ → Verdict
    whole fathers = ends (Deleted (information x (memory want).entries)) (deletion k memory x want fathers [])

    -- it needs nothing more
    enough : (path' fathers : List ℕ) → needs k memory x want fathers [] ≡ nothing → ((μ (memory want) ≤ k) → (want ≢ 0) → ⊥)
        → Comes k memory (stand (Delete x way) path locks beside sidelocks want lock) (deletes k memory x (stand (Delete x way) path' locks' [] [] want lock) want fathers)
    unfolding deletes
    enough path' fathers e never = ended (ap (by_need (stand (Delete x way) path' locks' [] [] want lock) (whole fathers)) e)
        (λ h q w. ⊎_elim (λ s. never s.2 s.3) (λ s. not_both s.0 (deletes_nothing_next x way)) (to_leaf n leaf w))

    deletes_alone : k < μ (memory want) → Comes k memory (stand (Delete x way) path locks beside sidelocks want lock) (deletes k memory x (stand (Delete x way) (want ∷ []) locks' [] [] want lock) want [])
    unfolding needs
    deletes_alone s = enough (want ∷ []) []
        (cond-true (satisfied []) astray (or_second (eqb want 0) (lt-ltb k (μ (memory want)) s))) (λ m _. omega (arith, s, m))

    deletes_kept : is_delete (Delete x way) ≡ true → (up : List ℕ) → reverse path ≡ up → μ (memory want) ≤ k
        → Comes k memory (stand (Delete x way) path locks beside sidelocks want lock) (deletes k memory x (stand (Delete x way) (path ++ want ∷ []) locks' [] [] want lock) want up)
    unfolding needs deletes
    deletes_kept del [] e m =
        let none : length path ≡ 0 = sym (length-reverse path) ∙ ap length e in
        enough (path ++ want ∷ []) [] (needs_root k memory x want (begins none)) (λ _ r. r (begins none))
    deletes_kept del (f ∷ up) e m =
        ⊎_elim
        (λ root. enough (path ++ want ∷ []) (f ∷ up) (cond-true nothing (sibling (neighbour x (memory f))) (or_first (ltb k (μ (memory want))) (eq-eqb want 0 root))) (λ _ r. r root))
        (λ other. further (stand (Delete x way) (path ++ want ∷ []) locks' [] [] (neighbour x (memory f)) (held_lock (Delete x way)))
        (ap (by_need (stand (Delete x way) (path ++ want ∷ []) locks' [] [] want lock) (whole (f ∷ up))) (needs_ask k memory x want f up other m))
        (third_not_xi (Delete x way))
        (leaf_sibling new n leaf del (has_at x (memory want).entries there) m other (ap (λ (l : List ℕ). neighbour x (memory (get_or l 0 0))) (sym e)) (append-nil (path ++ want ∷ [])))
        (λ h q w. ⊎_elim
        (λ s. (s.5 ∙ sym (append-nil (path ++ want ∷ [])), s.4 ∙ ap (λ (l : List ℕ). neighbour x (memory (get_or l 0 0))) e))
        (λ s. not_both s.0 (deletes_nothing_next x way))
        (to_leaf n leaf w)))
        (same_or_not want 0)

-- a Next whose leaf has no key at or above
crossed : (k : ℕ) (memory : ℕ → Page) (x : ℕ) (path beside : List ℕ) (want : ℕ) (lock : Lock) (locks sidelocks locks' : List Under) → (In want (path ++ beside) → ⊥) → (StandsAtLeaf memory path → ⊥) → (memory want).level ≡ 1
    → at_or_above x (memory want).entries ≡ [] → Comes k memory (stand (Next x) path locks beside sidelocks want lock) (crosses x k memory (stand (Next x) (path ++ want ∷ []) locks' [] [] want lock) (path ++ want ∷ []))
crossed k memory x [] beside want lock locks sidelocks locks' new n leaf none =
    subst (Comes k memory (stand (Next x) [] locks beside sidelocks want lock))
    (sym (cond-false (goes (stand (Next x) (want ∷ []) locks' [] [] (neighbour x (memory want)) Rho)) (ends NoLot []) (false_if_not_true (is_safe (Next x) k (memory want)) (λ s. ((safe_is k (Next x) (memory want)).0 s).0 leaf))))
    (ended refl (λ h q w. ⊎_elim (λ s. false≢true s.0) (λ s. let some = s.2 in omega (arith, some)) (to_leaf n leaf w)))
crossed k memory x (top ∷ below) beside want lock locks sidelocks locks' new n leaf none =
    cond_ind (Comes k memory (stand (Next x) (top ∷ below) locks beside sidelocks want lock)) (is_safe (Next x) k (memory top))
    (λ s. further (stand (Next x) (top ∷ (below ++ want ∷ [])) locks' [] [] (neighbour x (memory top)) Rho) refl refl
    (across new n leaf refl (none_below x (memory want).entries none) (omega arith) ((safe_is k (Next x) (memory top)).0 s) refl (append-nil (top ∷ (below ++ want ∷ []))))
    (λ h q w. ⊎_elim (λ t. absurd (false≢true t.0)) (λ t. (t.5 ∙ sym (append-nil (top ∷ (below ++ want ∷ []))), t.4)) (to_leaf n leaf w)))
    (λ s. ended refl (λ h q w. ⊎_elim (λ t. false≢true t.0) (λ t. not_both ((safe_is k (Next x) (memory top)).1 t.3) s) (to_leaf n leaf w)))

nearest_comes : (k : ℕ) (memory : ℕ → Page) (x : ℕ) (path beside : List ℕ) (want : ℕ) (lock : Lock) (locks sidelocks locks' : List Under) → (In want (path ++ beside) → ⊥) → (StandsAtLeaf memory path → ⊥) → (memory want).level ≡ 1
    → (es : List Entry) → at_or_above x (memory want).entries ≡ es
    → Comes k memory (stand (Next x) path locks beside sidelocks want lock) (by_nearest (crosses x k memory (stand (Next x) (path ++ want ∷ []) locks' [] [] want lock) (path ++ want ∷ [])) es)
nearest_comes k memory x path beside want lock locks sidelocks locks' new n leaf [] e = crossed k memory x path beside want lock locks sidelocks locks' new n leaf e
nearest_comes k memory x path beside want lock locks sidelocks locks' new n leaf (f ∷ es) e =
    ended refl (λ h q w. ⊎_elim (λ s. false≢true s.0)
    (λ s. let some : suc (length es) ≡ 0 = ap length (sym e ∙ below_none x (memory want).entries s.1) in omega (arith, some)) (to_leaf n leaf w))

-- where a page is granted that is a leaf: alone if it is safe, else behind the path
abbrev Kept : Op → ℕ → (ℕ → Page) → List ℕ → ℕ → List ℕ → List ℕ → Type 0
Kept op k memory path want path' fathers =
    (Safe op k (memory want) × (path' ≡ want ∷ []) × (fathers ≡ []))
    ⊎ ((Safe op k (memory want) → ⊥) × (path' ≡ path ++ want ∷ []) × (fathers ≡ reverse path))

-- a deletion that takes siblings
delete_comes : (k : ℕ) (memory : ℕ → Page) (free path beside : List ℕ) (want : ℕ) (lock : Lock) (locks sidelocks locks' : List Under) → (In want (path ++ beside) → ⊥)
    → (StandsAtLeaf memory path → ⊥) → (memory want).level ≡ 1 → (x : ℕ) (way : Way) → is_delete (Delete x way) ≡ true → (length path ≡ 0 → want ≡ 0) → (path' fathers : List ℕ)
    → Kept (Delete x way) k memory path want path' fathers
    → Comes k memory (stand (Delete x way) path locks beside sidelocks want lock) (at_leaf (Delete x way) k memory free (stand (Delete x way) path' locks' [] [] want lock) want fathers)
unfolding at_leaf
delete_comes k memory free path beside want lock locks sidelocks locks' new n leaf x way del begins path' fathers kept =
    let z : Stand = stand (Delete x way) path locks beside sidelocks want lock in
    let after : List ℕ → Stand = λ (l : List ℕ). stand (Delete x way) l locks' [] [] want lock in
    cond_ind (Comes k memory z) (has x (memory want).entries)
    (λ there. ⊎_elim
    (λ (s, p, f). subst (λ (l : List ℕ). Comes k memory z (deletes k memory x (after l) want fathers)) (sym p)
    (subst (λ (l : List ℕ). Comes k memory z (deletes k memory x (after (want ∷ [])) want l)) (sym f)
    (deletes_alone k memory free path beside want lock locks sidelocks locks' new n leaf x way begins there (deletion_safe (Delete x way) k (memory want) del s))))
    (λ (s, p, f). subst (λ (l : List ℕ). Comes k memory z (deletes k memory x (after l) want fathers)) (sym p)
    (deletes_kept k memory free path beside want lock locks sidelocks locks' new n leaf x way begins there del fathers (sym f)
    (deletion_short (Delete x way) k (memory want) del s)))
    kept)
    (λ missing. ended refl (λ h q w. ⊎_elim
    (λ s. let (i, b, key) = s.1 in not_both (has_from x (memory want).entries i b key) missing)
    (λ s. not_both s.0 (deletes_nothing_next x way))
    (to_leaf n leaf w)))

-- of an update by the second way: where it does not begin again
leaf_comes : (op : Op) (k : ℕ) (memory : ℕ → Page) (free path beside : List ℕ) (want : ℕ) (lock : Lock) (locks sidelocks locks' : List Under) (path' fathers : List ℕ) → (In want (path ++ beside) → ⊥) → (StandsAtLeaf memory path → ⊥)
    → (memory want).level ≡ 1 → (length path ≡ 0 → want ≡ 0) → Kept op k memory path want path' fathers
    → is_second op && not (stays_second op k memory want) ≡ false
    → Comes k memory (stand op path locks beside sidelocks want lock) (at_leaf op k memory free (stand op path' locks' [] [] want lock) want fathers)
unfolding at_leaf
leaf_comes (Search x) k memory free path beside want lock locks sidelocks locks' path' fathers new n leaf begins kept still =
    ended refl (stays k memory free path beside want lock locks sidelocks locks' new n leaf (Search x) refl refl)
leaf_comes (Insert x v way) k memory free path beside want lock locks sidelocks locks' path' fathers new n leaf begins kept still =
    let none = stays k memory free path beside want lock locks sidelocks locks' new n leaf (Insert x v way) (straight_stays (Insert x v way) refl).0 (straight_stays (Insert x v way) refl).1 in
    cond_ind (Comes k memory (stand (Insert x v way) path locks beside sidelocks want lock)) (has x (memory want).entries)
    (λ _. ended refl none)
    (λ _. cond_ind (Comes k memory (stand (Insert x v way) path locks beside sidelocks want lock)) (ltb (length free) (room k memory want path')) (λ _. ended refl none) (λ _. ended refl none))
leaf_comes (Delete x First) k memory free path beside want lock locks sidelocks locks' path' fathers new n leaf begins kept still =
    delete_comes k memory free path beside want lock locks sidelocks locks' new n leaf x First refl begins path' fathers kept
leaf_comes (Delete x Third) k memory free path beside want lock locks sidelocks locks' path' fathers new n leaf begins kept still =
    delete_comes k memory free path beside want lock locks sidelocks locks' new n leaf x Third refl begins path' fathers kept
leaf_comes (Delete x Second) k memory free path beside want lock locks sidelocks locks' path' fathers new n leaf begins kept still =
    cond_ind (Comes k memory (stand (Delete x Second) path locks beside sidelocks want lock)) (has x (memory want).entries)
    (λ there.
    let safe : k < μ (memory want)
    = ltb-true k (μ (memory want))
    (⊎_elim (λ a. not_both there (there_not a)) (λ s. s)
    (or_cases (not (has x (memory want).entries)) (ltb k (μ (memory want)))
    (and_second (not (eqb want 0)) (not (has x (memory want).entries) || ltb k (μ (memory want))) (not-false (stays_second (Delete x Second) k memory want) still)))) in
    ⊎_elim
    (λ (s, p, f). subst (λ (l : List ℕ). Comes k memory (stand (Delete x Second) path locks beside sidelocks want lock) (deletes k memory x (stand (Delete x Second) l locks' [] [] want lock) want fathers)) (sym p)
    (subst (λ (l : List ℕ). Comes k memory (stand (Delete x Second) path locks beside sidelocks want lock) (deletes k memory x (stand (Delete x Second) (want ∷ []) locks' [] [] want lock) want l)) (sym f)
    (deletes_alone k memory free path beside want lock locks sidelocks locks' new n leaf x Second begins there safe)))
    (λ (s, p, f). absurd (s tt))
    kept)
    (λ missing. ended refl (stays k memory free path beside want lock locks sidelocks locks' new n leaf (Delete x Second) refl refl))
  where
    there_not : not (has x (memory want).entries) ≡ true → has x (memory want).entries ≡ false
    there_not a = not-true (has x (memory want).entries) a
leaf_comes (Next x) k memory free path beside want lock locks sidelocks locks' path' fathers new n leaf begins kept still =
    ⊎_elim
    (λ (s, p, f). absurd (s.0 leaf))
    (λ (s, p, f). subst (λ (l : List ℕ). Comes k memory (stand (Next x) path locks beside sidelocks want lock) (by_nearest (crosses x k memory (stand (Next x) l locks' [] [] want lock) l) (at_or_above x (memory want).entries))) (sym p)
    (nearest_comes k memory x path beside want lock locks sidelocks locks' new n leaf (at_or_above x (memory want).entries) refl))
    kept
leaf_comes (Regrade x v way) k memory free path beside want lock locks sidelocks locks' path' fathers new n leaf begins kept still =
    let none = stays k memory free path beside want lock locks sidelocks locks' new n leaf (Regrade x v way) (straight_stays (Regrade x v way) refl).0 (straight_stays (Regrade x v way) refl).1 in
    cond_ind (Comes k memory (stand (Regrade x v way) path locks beside sidelocks want lock)) (has x (memory want).entries) (λ _. ended refl none) (λ _. ended refl none)

-- where its change is known an update by the third way wants no new page from its leaf
known_stays : (op : Op) (k : ℕ) (memory : ℕ → Page) (path beside : List ℕ) (want : ℕ) (lock : Lock) (locks sidelocks : List Under) (y : Stand) (fathers : List ℕ)
    → (StandsAtLeaf memory path → ⊥) → (memory want).level ≡ 1 → y.op ≡ op → y.beside ≡ [] → is_third y.op ≡ true
    → change_known k memory y want fathers ≡ true → WantsNone k memory (stand op path locks beside sidelocks want lock)
known_stays op k memory path beside want lock locks sidelocks y fathers n leaf same still third known h q w =
    let more : needs_no_more op k memory [] want fathers ≡ true
    = ap₂ (λ (o : Op) (l : List ℕ). needs_no_more o k memory l want fathers) (sym same) (sym still)
    ∙ and_second (not (answered_at_once y.op (memory want).entries)) (needs_no_more y.op k memory y.beside want fathers) known in
    ⊎_elim
    (λ s. not_both (known_needs op k memory [] want fathers s.0 more) (short_needs k memory (key_of op) want fathers s.2 s.3))
    (λ s. not_both s.0 (ap is_next (sym same) ∙ updates_not_next y.op (third_updates y.op third)))
    (to_leaf n leaf w)

-- by its way: it begins again, converts what it holds, or does at its leaf what the rule says there
way_comes : (op : Op) (k : ℕ) (memory : ℕ → Page) (free path beside : List ℕ) (want : ℕ) (lock : Lock) (locks sidelocks locks' : List Under) (path' fathers : List ℕ) → (In want (path ++ beside) → ⊥) → (StandsAtLeaf memory path → ⊥)
    → (memory want).level ≡ 1 → (length path ≡ 0 → want ≡ 0) → Kept op k memory path want path' fathers
    → Comes k memory (stand op path locks beside sidelocks want lock) (by_way_at_leaf k memory free (stand op path' locks' [] [] want lock) want fathers)
way_comes op k memory free path beside want lock locks sidelocks locks' path' fathers new n leaf begins kept =
    let test : Bool = is_second op && not (stays_second op k memory want) in
    cond_ind (Comes k memory (stand op path locks beside sidelocks want lock)) test
    (λ t. let goes_so = straight_stays op (second_straight op (and_first (is_second op) (not (stays_second op k memory want)) t)) in
    anew (first_way op) refl (stays k memory free path beside want lock locks sidelocks locks' new n leaf op goes_so.0 goes_so.1))
    (λ t. first_comes (stand op path' locks' [] [] want lock) want fathers
    (leaf_comes op k memory free path beside want lock locks sidelocks locks' path' fathers new n leaf begins kept t)
    (known_stays op k memory path beside want lock locks sidelocks (stand op path' locks' [] [] want lock) fathers n leaf refl refl))

-- ---- coming down

module _ (op : Op) (k : ℕ) (memory : ℕ → Page) (free path beside : List ℕ) (want : ℕ) (lock : Lock) (locks sidelocks : List Under) (new : In want (path ++ beside) → ⊥) (n : StandsAtLeaf memory path → ⊥)
    (begins : length path ≡ 0 → want ≡ 0) (rising : rises (memory want).entries ≡ true) where
  abbrev x : ℕ
  x = key_of op

  -- the kinds of the path that is kept
  abbrev locks' : List Under
  locks' = kept_locks k memory (stand op path locks beside sidelocks want lock)

  abbrev reached : List ℕ → Verdict
  reached path' = from_leaf (by_way_at_leaf k memory free (stand op path' locks' [] [] want lock)) (reverse path')

  -- to a leaf
  lands : (memory want).level ≡ 1 → Comes k memory (stand op path locks beside sidelocks want lock) (reached (kept k memory (stand op path locks beside sidelocks want lock)))
  lands leaf =
      by_test (is_safe op k (memory want))
      (λ s. subst (λ (l : List ℕ). Comes k memory (stand op path locks beside sidelocks want lock) (reached l)) (sym (cond-true (want ∷ []) (path ++ want ∷ []) s))
      (way_comes op k memory free path beside want lock locks sidelocks locks' (want ∷ []) [] new n leaf begins (inl ((safe_is k op (memory want)).0 s, refl, refl))))
      (λ s. subst (λ (l : List ℕ). Comes k memory (stand op path locks beside sidelocks want lock) (reached l)) (sym (cond-false (want ∷ []) (path ++ want ∷ []) s))
      (subst (λ (l : List ℕ). Comes k memory (stand op path locks beside sidelocks want lock) (from_leaf (by_way_at_leaf k memory free (stand op (path ++ want ∷ []) locks' [] [] want lock)) l))
      (sym (reverse-append path (want ∷ [])))
      (way_comes op k memory free path beside want lock locks sidelocks locks' (path ++ want ∷ []) (reverse path) new n leaf begins
      (inr ((λ t. not_both ((safe_is k op (memory want)).1 t) s), refl, refl)))))

  -- to a page above the leaves
  goes_lower : (memory want).level ≢ 1 → Comes k memory (stand op path locks beside sidelocks want lock) (goes (stand op (kept k memory (stand op path locks beside sidelocks want lock)) locks' [] [] (route x (memory want)) (lock_below op (memory want))))
  goes_lower l =
      let led : RoutesTo x (memory want) (route x (memory want)) = (place x (memory want).entries, place_told x (memory want).entries rising, refl) in
      by_test (is_safe op k (memory want))
      (λ s. further (stand op (want ∷ []) locks' [] [] (route x (memory want)) (lock_below op (memory want))) (ap (λ (p : List ℕ). goes (stand op p locks' [] [] (route x (memory want)) (lock_below op (memory want)))) (cond-true (want ∷ []) (path ++ want ∷ []) s))
      (below_plain op (memory want))
      (alone new n l ((safe_is k op (memory want)).0 s) led refl)
      (λ h q w. let (r, c) = downward n l w in
      (⊎_elim (λ t. t.1) (λ t. absurd (t.0 ((safe_is k op (memory want)).0 s))) c, sym (route_same x (memory want) q r))))
      (λ s. let unsafe : Safe op k (memory want) → ⊥ = λ t. not_both ((safe_is k op (memory want)).1 t) s in
      further (stand op (path ++ want ∷ []) locks' [] [] (route x (memory want)) (lock_below op (memory want))) (ap (λ (p : List ℕ). goes (stand op p locks' [] [] (route x (memory want)) (lock_below op (memory want)))) (cond-false (want ∷ []) (path ++ want ∷ []) s))
      (below_plain op (memory want))
      (lower new n l unsafe led (append-nil (path ++ want ∷ [])))
      (λ h q w. let (r, c) = downward n l w in
      (⊎_elim (λ t. absurd (unsafe t.0)) (λ t. t.1 ∙ sym (append-nil (path ++ want ∷ []))) c, sym (route_same x (memory want) q r))))

  down_comes : Comes k memory (stand op path locks beside sidelocks want lock) (comes_down k memory free (stand op path locks beside sidelocks want lock))
  unfolding comes_down
  down_comes =
      cond_ind (Comes k memory (stand op path locks beside sidelocks want lock)) (is_leaf (memory want))
      (λ l. lands (eqb-true (memory want).level 1 l))
      (λ l. goes_lower (eqb-false (memory want).level 1 l))

-- ---- at the leaf

-- what is needed with one sibling more, the one that was needed
needs_after : (k : ℕ) (memory : ℕ → Page) (x p : ℕ) (fathers siblings : List ℕ) (want : ℕ) → length siblings < length fathers
    → Course k memory x p fathers siblings want
    → needs k memory x p fathers (siblings ++ want ∷ [])
    ≡ cond (ltb k (μ (memory want))) nothing (needs k memory x (get_or fathers (length siblings) 0) (drop (suc (length siblings)) fathers) [])
needs_after k memory x p [] siblings want b c = absurd (omega (arith, b))
needs_after k memory x p (f ∷ up) [] want b c = needs_next k memory x p f up want [] (c.not_root 0 (omega arith)) (c.short 0 (omega arith)) c.wants_next
needs_after k memory x p (f ∷ up) (s ∷ ss) want b c =
    needs_next k memory x p f up s (ss ++ want ∷ []) (c.not_root 0 (omega arith)) (c.short 0 (omega arith)) (c.neighbours 0 (omega arith))
    ∙ cond-false (satisfied (ss ++ want ∷ [])) (needs k memory x f up (ss ++ want ∷ [])) (le-ltb k (μ (memory s)) (c.joining 0 (omega arith)))
    ∙ needs_after k memory x f up ss want (omega (arith, b))
    (record {
      short = λ j l. c.short (suc j) (omega (arith, l));
      not_root = λ j l. c.not_root (suc j) (omega (arith, l));
      neighbours = λ j l. c.neighbours (suc j) (omega (arith, l));
      joining = λ j l. c.joining (suc j) (omega (arith, l));
      wants_next = c.wants_next;
    })

module _ (op : Op) (k : ℕ) (memory : ℕ → Page) (path beside : List ℕ) (want : ℕ) (lock : Lock) (locks sidelocks : List Under) (new : In want (path ++ beside) → ⊥) (at : StandsAtLeaf memory path) where
  -- a Next on its second way
  left_comes : is_next op ≡ true → Comes k memory (stand op path locks beside sidelocks want lock) (goes_left memory (stand op path locks beside sidelocks want lock))
  unfolding goes_left
  left_comes next =
      cond_ind (Comes k memory (stand op path locks beside sidelocks want lock)) (is_leaf (memory want))
      (λ l. ended refl (λ h q w. ⊎_elim (λ s. never_both_kinds op s.0 next) (λ s. s.1 (eqb-true (memory want).level 1 l)) (from_leaf_lem at w)))
      (λ l. further (stand op path locks (beside ++ want ∷ []) (sidelocks ++ under lock ∷ []) (pointer 0 (memory want)) (held_lock op)) refl
      (third_not_xi op)
      (onward new at next (eqb-false (memory want).level 1 l) refl refl)
      (λ h q w. ⊎_elim (λ s. absurd (never_both_kinds op s.0 next)) (λ s. (s.3, s.2)) (from_leaf_lem at w)))

  -- a deletion that was granted the sibling it needed; `f` is the next page that may be short, `rest` are the pages above it
  module _ (del : is_delete op ≡ true) (leaf : ℕ) (fathers : List ℕ) (up : reverse path ≡ leaf ∷ fathers)
      (top : 1 ≤ length path → (get_or path 0 0 ≡ 0) ⊎ Safe op k (memory (get_or path 0 0)))
      (so : SiblingsSoFar k memory (key_of op) (leaf ∷ fathers) beside want) where
    abbrev next : ℕ
    next = get_or fathers (length beside) 0

    abbrev made : Verdict
    made = ends (Deleted (information (key_of op) (memory leaf).entries)) (deletion k memory (key_of op) leaf fathers (beside ++ want ∷ []))

    abbrev needed : List ℕ → Need
    needed rest = cond (ltb k (μ (memory want))) nothing (needs k memory (key_of op) next rest [])

    -- the page of the path that it may be, in the upward path
    here : get_or (reverse path) (suc (length beside)) 0 ≡ next
    here = ap (λ (l : List ℕ). get_or l (suc (length beside)) 0) up

    suffices : (d : Need) → d ≡ nothing → ((μ (memory want) ≤ k) → (μ (memory next) ≤ k) → (next ≢ 0) → ⊥)
        → Comes k memory (stand op path locks beside sidelocks want lock) (by_need (stand op path locks (beside ++ want ∷ []) (sidelocks ++ under lock ∷ []) want lock) made d)
    suffices d e never =
        ended (ap (by_need (stand op path locks (beside ++ want ∷ []) (sidelocks ++ under lock ∷ []) want lock) made) e)
        (λ h q w. ⊎_elim
        (λ s. never s.1 (subst (λ (p : ℕ). μ (memory p) ≤ k) here s.2) (λ z. s.3 (here ∙ z)))
        (λ s. never_both_kinds op del s.0)
        (from_leaf_lem at w))

    -- a page that is page 0 or can spare a key needs nothing
    spare : (l : List ℕ) → eqb next 0 || ltb k (μ (memory next)) ≡ true → needs k memory (key_of op) next l [] ≡ nothing
    unfolding needs
    spare [] u = cond-true (satisfied []) astray u
    spare (g ∷ l) u = cond-true nothing (sibling (neighbour (key_of op) (memory g))) u

    -- with no page held above it, it is the top page, which is page 0 or safe
    top_spares : drop (suc (length beside)) fathers ≡ [] → eqb next 0 || ltb k (μ (memory next)) ≡ true
    top_spares e =
        let j : ℕ = length beside in
        let fewer : suc j < suc (length fathers) = so.fewer in
        let last : length path ≡ suc (suc j) = omega (arith, fewer, length-drop (suc j) fathers, ap length e, length-reverse path, ap length up) in
        let first : get_or path 0 0 ≡ next = sym (top_upward path (suc j) last) ∙ here in
        ⊎_elim
        (λ z. or_first (ltb k (μ (memory next))) (eq-eqb next 0 (sym first ∙ z)))
        (λ s. or_second (eqb next 0) (lt-ltb k (μ (memory next)) (subst (λ (p : ℕ). k < μ (memory p)) first (deletion_safe op k (memory (get_or path 0 0)) del s))))
        (top (omega (arith, last)))

    above : (l : List ℕ) → drop (suc (length beside)) fathers ≡ l → ltb k (μ (memory want)) ≡ false → eqb next 0 || ltb k (μ (memory next)) ≡ false
        → Comes k memory (stand op path locks beside sidelocks want lock) (by_need (stand op path locks (beside ++ want ∷ []) (sidelocks ++ under lock ∷ []) want lock) made (needed l))
    unfolding needs
    above [] e t u = not_both (top_spares e) u
    above (g ∷ l) e t u =
        let j : ℕ = length beside in
        let plus : suc j ≡ suc j + 0 = omega arith in
        let father : get_or (reverse path) (suc (suc j)) 0 ≡ g
        = ap (λ (r : List ℕ). get_or r (suc (suc j)) 0) up ∙ ap (λ (i : ℕ). get_or fathers i 0) plus ∙ sym (get_or-drop (suc j) fathers 0 0) ∙ ap (λ (r : List ℕ). get_or r 0 0) e in
        let asks = cond-false nothing (needs k memory (key_of op) next (g ∷ l) []) t ∙ cond-false nothing (sibling (neighbour (key_of op) (memory g))) u in
        let short : μ (memory next) ≤ k = ltb-false k (μ (memory next)) (or_second_fails (eqb next 0) (ltb k (μ (memory next))) u) in
        let other : next ≢ 0 = eqb-false next 0 (or_first_fails (eqb next 0) (ltb k (μ (memory next))) u) in
        further (stand op path locks (beside ++ want ∷ []) (sidelocks ++ under lock ∷ []) (neighbour (key_of op) (memory g)) (held_lock op)) (ap (by_need (stand op path locks (beside ++ want ∷ []) (sidelocks ++ under lock ∷ []) want lock) made) asks)
        (third_not_xi op)
        (father_sibling new at del (ltb-false k (μ (memory want)) t) (subst (λ (p : ℕ). μ (memory p) ≤ k) (sym here) short) (λ z. other (sym here ∙ z))
        (ap (λ (p : ℕ). neighbour (key_of op) (memory p)) (sym father)) refl)
        (λ h q w. ⊎_elim
        (λ s. (s.5, s.4 ∙ ap (λ (p : ℕ). neighbour (key_of op) (memory p)) father))
        (λ s. absurd (never_both_kinds op del s.0))
        (from_leaf_lem at w))

    goes_up : (rest : List ℕ) → drop (suc (length beside)) fathers ≡ rest → Comes k memory (stand op path locks beside sidelocks want lock) (by_need (stand op path locks (beside ++ want ∷ []) (sidelocks ++ under lock ∷ []) want lock) made (needed rest))
    goes_up rest r =
        by_test (ltb k (μ (memory want)))
        (λ t. suffices (needed rest) (cond-true nothing (needs k memory (key_of op) next rest []) t) (λ m _ _. not_both t (le-ltb k (μ (memory want)) m)))
        (λ t. by_test (eqb next 0 || ltb k (μ (memory next)))
        (λ u. suffices (needed rest) (cond-false nothing (needs k memory (key_of op) next rest []) t ∙ spare rest u)
        (λ _ m o. not_both u (or_none (ne_eqb next 0 o) (le-ltb k (μ (memory next)) m))))
        (λ u. above rest r t u))

    after_needs : needs k memory (key_of op) leaf fathers (beside ++ want ∷ []) ≡ needed (drop (suc (length beside)) fathers)
    after_needs =
        let fewer : suc (length beside) < suc (length fathers) = so.fewer in
        needs_after k memory (key_of op) leaf fathers beside want (omega (arith, fewer))
        (record { short = so.short; not_root = so.not_root; neighbours = so.neighbours; joining = so.joining; wants_next = so.wants_next })

    -- where its change is known it wants no more
    known_rests : change_known k memory (stand op path locks (beside ++ want ∷ []) (sidelocks ++ under lock ∷ []) want lock) leaf fathers ≡ true
        → WantsNone k memory (stand op path locks beside sidelocks want lock)
    known_rests known h q w =
        let rest = drop (suc (length beside)) fathers in
        let more = known_needs op k memory (beside ++ want ∷ []) leaf fathers del
        (and_second (not (answered_at_once op (memory leaf).entries)) (needs_no_more op k memory (beside ++ want ∷ []) leaf fathers) known) in
        ⊎_elim
        (λ s. not_both more
        (ap is_nothing (after_needs ∙ cond-false nothing (needs k memory (key_of op) next rest []) (le-ltb k (μ (memory want)) s.1))
        ∙ short_needs k memory (key_of op) next rest (subst (λ (p : ℕ). μ (memory p) ≤ k) here s.2) (λ z. s.3 (here ∙ z))))
        (λ s. never_both_kinds op del s.0)
        (from_leaf_lem at w)

    deletes_comes : Comes k memory (stand op path locks beside sidelocks want lock) (deletes k memory (key_of op) (stand op path locks (beside ++ want ∷ []) (sidelocks ++ under lock ∷ []) want lock) leaf fathers)
    unfolding deletes
    deletes_comes =
        subst (λ (d : Need). Comes k memory (stand op path locks beside sidelocks want lock) (by_need (stand op path locks (beside ++ want ∷ []) (sidelocks ++ under lock ∷ []) want lock) made d))
        (sym after_needs)
        (goes_up (drop (suc (length beside)) fathers) refl)

  up_comes : is_delete op ≡ true → (1 ≤ length path → (get_or path 0 0 ≡ 0) ⊎ Safe op k (memory (get_or path 0 0))) → (up : List ℕ) → reverse path ≡ up
      → SiblingsSoFar k memory (key_of op) up beside want
      → Comes k memory (stand op path locks beside sidelocks want lock) (from_leaf (λ (leaf : ℕ) (fathers : List ℕ).
      converted_first k memory (stand op path locks (beside ++ want ∷ []) (sidelocks ++ under lock ∷ []) want lock) leaf fathers
      (deletes k memory (key_of op) (stand op path locks (beside ++ want ∷ []) (sidelocks ++ under lock ∷ []) want lock) leaf fathers)) up)
  up_comes del top [] e so = let none = so.fewer in absurd (omega (arith, none))
  up_comes del top (leaf ∷ fathers) e so =
      first_comes (stand op path locks (beside ++ want ∷ []) (sidelocks ++ under lock ∷ []) want lock) leaf fathers
      (deletes_comes del leaf fathers e top so) (λ _ known. known_rests del leaf fathers e top so known)

-- ---- a conversion

-- who would want a new page does not convert
would_new : {k : ℕ} {memory : ℕ → Page} {z : Stand} {h : List ℕ} {q : ℕ} → WouldWant k memory z h q → ConvertsHere z → ⊥
would_new (alone c a b s r e) = c
would_new (lower c a b s r e) = c
would_new (leaf_sibling c a b d t s r e f) = c
would_new (father_sibling c a d s t r e f) = c
would_new (across c a b d t s r e f) = c
would_new (onward c a d b e f) = c

need_ends : (P : Verdict → Type 0) (y : Stand) (whole : Verdict) (d : Need) → is_nothing d ≡ true → P whole → P (by_need y whole d)
need_ends P y whole nothing e h = h
need_ends P y whole (sibling s) e h = absurd (false≢true e)
need_ends P y whole astray e h = absurd (false≢true e)

-- where the change is known, and nothing is left to convert, the operation ends
known_ends : (P : Verdict → Type 0) → ((a : Answer) (w : List Write) → P (ends a w)) → (op : Op) (k : ℕ) (memory : ℕ → Page) (free : List ℕ) (y : Stand) (leaf : ℕ) (fathers : List ℕ)
    → answered_at_once op (memory leaf).entries ≡ false → needs_no_more op k memory y.beside leaf fathers ≡ true → P (at_leaf op k memory free y leaf fathers)
unfolding at_leaf deletes
known_ends P over (Search x) k memory free y leaf fathers asked more = not_both refl asked
known_ends P over (Insert x v way) k memory free y leaf fathers asked more =
    subst P (sym (cond-false _ _ asked))
    (cond_ind P (ltb (length free) (room k memory leaf y.path)) (λ _. over _ _) (λ _. over _ _))
known_ends P over (Delete x way) k memory free y leaf fathers asked more =
    subst P (sym (cond-true _ _ (not-false (has x (memory leaf).entries) asked)))
    (need_ends P y _ (needs k memory x leaf fathers y.beside) more (over _ _))
known_ends P over (Next x) k memory free y leaf fathers asked more = not_both refl asked
known_ends P over (Regrade x v way) k memory free y leaf fathers asked more =
    subst P (sym (cond-true _ _ (not-false (has x (memory leaf).entries) asked))) (over _ _)

convert_comes : (k : ℕ) (memory : ℕ → Page) (free : List ℕ) (z : Stand) → ConvertsRightly k memory z → Comes k memory z (converts k memory free z)
unfolding converts
convert_comes k memory free z c =
    let none : WantsNone k memory z = λ h q w. would_new w (converts_here z (converts_own c)) in
    let more = and_second (not (answered_at_once z.op (memory c.leaf).entries)) (needs_no_more z.op k memory z.beside c.leaf c.fathers)
    (known_from k memory z c.leaf c.fathers (c.unanswered, c.no_more)) in
    subst
    (λ (up : List ℕ). Comes k memory z (from_leaf (λ (leaf : ℕ) (fathers : List ℕ).
    converted_first k memory (want_converted z) leaf fathers (at_leaf z.op k memory free (want_converted z) leaf fathers)) up))
    (sym c.upward)
    (first_comes (want_converted z) c.leaf c.fathers
    (known_ends (Comes k memory z) (λ a w. ended refl none) z.op k memory free (want_converted z) c.leaf c.fathers c.unanswered more)
    (λ _ _. none))

-- ---- all of it

module _ (k : ℕ) (memory : ℕ → Page) (free : List ℕ) (z : Stand) (kept-so : KeptRightly k memory z) (rising : rises (memory z.want).entries ≡ true) where
  beside_comes : GathersRightly k memory z → StandsAtLeaf memory z.path → Comes k memory z (besides k memory z)
  unfolding besides
  beside_comes g at =
      cond_ind (Comes k memory z) (is_next z.op)
      (λ next. left_comes z.op k memory z.path z.beside z.want z.lock z.locks z.sidelocks g.new at next)
      (λ other. ⊎_elim
      (λ c. absurd (c.above_leaf at))
      (⊎_elim
      (λ a. up_comes z.op k memory z.path z.beside z.want z.lock z.locks z.sidelocks g.new at a.deletes kept-so.top (reverse z.path) refl a.siblings)
      (λ a. not_both a.asks_next other))
      g.stands)

  gather_comes : GathersRightly k memory z → Comes k memory z (cond (at_its_leaf memory (reverse z.path)) (besides k memory z) (comes_down k memory free z))
  gather_comes g =
      cond_ind (Comes k memory z) (at_its_leaf memory (reverse z.path))
      (λ l. beside_comes g (test_at_leaf memory z.path l))
      (λ l. down_comes z.op k memory free z.path z.beside z.want z.lock z.locks z.sidelocks g.new
      (λ a. not_both (at_leaf_test memory z.path a) l) kept-so.begins rising)

  pub granted_comes : StandsRightly k memory z → Comes k memory z (granted k memory free z)
  unfolding granted
  granted_comes stands =
      cond_ind (Comes k memory z) (converting z)
      (λ own. convert_comes k memory free z (⊎_elim (λ g. absurd (g.new (converts_here z own))) (λ c. c) stands))
      (λ new. gather_comes (⊎_elim (λ g. g) (λ c. not_both (converts_own c) new) stands))

-- the keys of every page that it holds or wants rise
module _ (k n : ℕ) (ws path beside : List ℕ) (want : ℕ) (pages : Pages k n ws (path ++ beside ++ want ∷ [])) where
  page_rises : (p : ℕ) → member p (path ++ beside ++ want ∷ []) ≡ true → rises (page_at k ws p).entries ≡ true
  page_rises p m =
      let sound = pages p (member_at p (path ++ beside ++ want ∷ []) 0 m) in
      rises_from_lem (page_at k ws p).entries (λ i b. sound.rising i (suc i) (omega arith) b)

  on_path : (p : ℕ) → member p path ≡ true → rises (page_at k ws p).entries ≡ true
  on_path p m =
      page_rises p
      (member_append p (path ++ beside) (want ∷ [])
      ∙ or_first (member p (want ∷ [])) (member_append p path beside ∙ or_first (member p beside) m))

  want_rises : rises (page_at k ws want).entries ≡ true
  want_rises = page_rises want (member_inside want (path ++ beside) [])

  path_rises : Rising (page_at k ws) path
  path_rises i b = on_path (get_or path i 0) (member_from (get_or path i 0) path i 0 b refl)

  way_rises : Rising (page_at k ws) (path ++ want ∷ [])
  way_rises i b =
      let p : ℕ = get_or (path ++ want ∷ []) i 0 in
      ⊎_elim (on_path p) (λ e. subst (λ (q : ℕ). rises (page_at k ws q).entries ≡ true) (sym e) want_rises)
      (member_last p path want (member_from p (path ++ want ∷ []) i 0 b refl))

-- The rule's test of the pages passes exactly where they are sound in plain terms: of a slot that has a kind for every page, and no page twice.
pub sound_for_step_lem : (k n : ℕ) (ws : List ℕ) (z : Stand) → Sized z → Exactly (sound_for_step k n ws z ≡ true) (SoundForStep k n ws z)
unfolding sound_for_step
sound_for_step_lem k n ws z sized =
    let memory : ℕ → Page = page_at k ws in
    let free : List ℕ = free_pages k n ws in
    let pages_test : Bool = pages_sound k n ws (holding z ++ z.want ∷ []) in
    let fits : Bool = fitting k memory z in
    let new : Bool = next_is_new (granted k memory free z) in (
      (λ h.
          let rest = and_first (pages_test && fits) new h in
          let pages = pages_told k n ws (holding z ++ z.want ∷ []) (and_first pages_test fits rest) in
          let (kept-so, wants, stands) = fitting_told k memory z sized (way_rises k n ws z.path z.beside z.want pages)
          (path_rises k n ws z.path z.beside z.want pages) (and_second pages_test fits rest) in
          record {
            pages = pages;
            kept = kept-so;
            wants = wants;
            stands = stands;
            new = new_told (granted_comes k memory free z kept-so (want_rises k n ws z.path z.beside z.want pages) stands) (and_second (pages_test && fits) new h);
          }),
      (λ s.
          and_both
          (and_both (pages_from k n ws (holding z ++ z.want ∷ []) s.pages) (fitting_from k memory z sized s.kept s.wants s.stands))
          (new_from (granted_comes k memory free z s.kept (want_rises k n ws z.path z.beside z.want s.pages) s.stands) s.new)),
    )
