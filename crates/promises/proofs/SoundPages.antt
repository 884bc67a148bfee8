-- The rule's test of the pages that a step meets passes exactly where they are sound in plain terms.
use Prim.Native.Nat.{ℕ, zero, suc, ◌+◌, ◌-◌, ◌*◌, ◌≤◌, ◌<◌}
use mathlib.Core.Bool.{Bool, true, false, cond, not, ◌&&◌, ◌||◌, false≢true}
use mathlib.Core.List.{List, [], ◌∷◌, ◌++◌, map, reverse}
use mathlib.Core.Logic.{◌⊎◌, inl, inr, ⊎_elim, ◌≢◌}
use mathlib.Core.Path.{◌≡◌, refl, sym, ap, ap₂, subst, ◌∙◌}
use native.Mathlib.Omega.{arith}
use lib.Dec.{leb, ltb, eqb}
use lib.ListN.{length, get_or, drop, length-append, length-drop, length-reverse}
use lib.Seq.{get_or-drop}
use borrow.Author.Tests.{leb-true, le-leb, ltb-true, lt-ltb, eqb-true, eqb-false, eq-eqb, ne_eqb, not-true}
use Rattle.ground.specs.Limits.{tallest, blank_key}
use Rattle.ground.specs.Tests.{all, member, distinct}
use Rattle.ground.proofs.Bools.{not_both, false_if_not_true, and_first, and_second, and_both, or_first, or_second, or_cases, not_of_false}
use Rattle.ground.proofs.Choice.{by_test, cond_ind, cond-true, cond-false}
use Rattle.ground.proofs.Tests.{all_at, all_from, all_member, all_from_members, member_here, member_append, member_at, distinct_at, distinct_from}
use Rattle.page.specs.Words.{Entry, Page, is_leaf, pointers, pairs_from, view}
use Rattle.page.specs.Place.{place, pointer, route, has, at_or_above}
use Rattle.page.specs.Sound.{rises, least, good_pointers, no_blank, sound_by_itself}
use Rattle.page.specs.Short.{neighbour}
use Rattle.page.proofs.RiseLaws.{rises_at, rises_from_lem}
use Rattle.page.proofs.PlaceLaws.{place_most, place_is, place_before, place_behind, has_at, has_from}
use Rattle.pool.specs.Pool.{words_of, page_at}
use Rattle.change.specs.Deletion.{Need, nothing, sibling, astray, needs}
use Rattle.slots.specs.declared.Op.{Op}
use Rattle.slots.specs.declared.Op.TheVariants.{Search, Insert, Delete, Next, Regrade}
use Rattle.slots.specs.declared.Lock.{Lock}
use Rattle.slots.specs.declared.Lock.TheVariants.{None, Xi, Alpha}
use Rattle.slots.specs.declared.Under.{Under}
use Rattle.slots.specs.Parts.{key_of, is_delete, is_next, held_lock, under, Stand, stand, holding, holding_locks, converting}
use Rattle.slots.specs.Locks.{same_lock}
use Rattle.slots.proofs.Keeping.{Paired, kinds_long}
use Rattle.slots.proofs.LockLaws.{same_lock_lem, lock_same}
use Rattle.footing.specs.Granted.{is_safe, pages_in_turn, locks_in_turn, unconverted, to_convert, at_its_leaf}
use Rattle.footing.specs.Fitting.{pages_sound, leads, descends, rightly_kept, same_levels, is_sibling, rightly_beside, is_none, leftmost, turns_right, rightly_across, lock_due, holds_due, fitting_new, xi_then_alpha, is_first, rightly_converting, fitting}
use Rattle.footing.proofs.OnTurn.{converts_facts}
use Rattle.tree.proofs.DeletionRule.{needs_length}
use Rattle.runs.specs.Stance.{StandsAtLeaf}
use Rattle.runs.proofs.PlainLaws.{missing_has, has_missing, none_below, below_none}
use Rattle.runs.proofs.Paths.{none_is}
use Rattle.runs.proofs.Needing.{course_needs, needs_course}
use Rattle.runs.proofs.Stepping.{at_leaf_test, test_at_leaf}
use Rattle.runs.proofs.Turns.{held_turn, passed_turn, next_turn, turn_kinds}
use Rattle.promises.specs.Terms.{In, GoesWith, HeldHere, WantsAs, SiblingsDone}
use Rattle.promises.specs.SoundPages.{PageSound, PlaceIs, RoutesTo, Way, KeptRightly, ComesDown, SiblingsSoFar, AsksSibling, LeftmostWay, GoesAcross, GathersRightly, ConvertsRightly}
use Rattle.promises.proofs.Terms.{in_member, kind_is, third_named, named_third, converts_here, here_converts, wants_as, wanted_due, wanted_xi}
use Rattle.promises.proofs.Known.{known_told, known_from}
use Rattle.promises.proofs.Turned.{kind_in, turn_kinds_by, held_here, here_held, here_kind, Parted, turn_parted}
use Rattle.promises.proofs.Demand2.{safe_is}

-- ---- a page by itself

-- words that are all 0 from a place on
zero_at : (ws : List ℕ) (from i : ℕ) → all (λ (w : ℕ). eqb w 0) (drop from ws) ≡ true → from ≤ i → i < length ws → get_or ws i 0 ≡ 0
zero_at ws from i t b c =
    let at : from + (i - from) ≡ i = omega (arith, b) in
    sym (get_or-drop from ws (i - from) 0 ∙ ap (λ (m : ℕ). get_or ws m 0) at)
    ∙ eqb-true (get_or (drop from ws) (i - from) 0) 0 (all_at (λ (w : ℕ). eqb w 0) (drop from ws) 0 t (i - from) (omega (arith, b, c, length-drop from ws)))

zeros_from : (ws : List ℕ) (from : ℕ) → ((j : ℕ) → j < length ws → from ≤ j → get_or ws j 0 ≡ 0) → all (λ (w : ℕ). eqb w 0) (drop from ws) ≡ true
zeros_from ws from f =
    all_from (λ (w : ℕ). eqb w 0) (drop from ws) 0
    (λ j h. eq-eqb (get_or (drop from ws) j 0) 0 (get_or-drop from ws j 0 ∙ f (from + j) (omega (arith, h, length-drop from ws)) (omega arith)))

-- where the pairs begin
pairs_in_leaf : (level : ℕ) → level ≡ 1 → pairs_from level ≡ 2
pairs_in_leaf level e = cond-true 2 3 (eq-eqb level 1 e)

pairs_above : (level : ℕ) → level ≢ 1 → pairs_from level ≡ 3
pairs_above level n = cond-false 2 3 (ne_eqb level 1 n)

pub page_told : (k n p : ℕ) (ws : List ℕ) → sound_by_itself k n p ws ≡ true → PageSound k n p ws (view ws)
unfolding sound_by_itself
page_told k n p ws h =
    let P : Page = view ws in
    let a : Bool = leb 1 P.level in
    let b : Bool = leb P.level tallest in
    let c : Bool = leb (least k p (is_leaf P)) (get_or ws 1 0) in
    let d : Bool = leb (get_or ws 1 0) (2 * k) in
    let e : Bool = rises P.entries in
    let f : Bool = cond (is_leaf P) (no_blank P.entries) (good_pointers n (pointers P)) in
    let g : Bool = all (λ (w : ℕ). eqb w 0) (drop (pairs_from P.level + 2 * get_or ws 1 0) ws) in
    let toF = and_first (a && b && (c && d) && e && f) g h in
    let toE = and_first (a && b && (c && d) && e) f toF in
    let toD = and_first (a && b && (c && d)) e toE in
    let toB = and_first (a && b) (c && d) toD in
    let toCD = and_second (a && b) (c && d) toD in
    let low : least k p (is_leaf P) ≤ get_or ws 1 0 = leb-true (least k p (is_leaf P)) (get_or ws 1 0) (and_first c d toCD) in
    let on_level : f ≡ true = and_second (a && b && (c && d) && e) f toF in
    let unblank : P.level ≡ 1 → no_blank P.entries ≡ true
    = λ one. sym (cond-true (no_blank P.entries) (good_pointers n (pointers P)) (eq-eqb P.level 1 one)) ∙ on_level in
    let good : P.level ≢ 1 → good_pointers n (pointers P) ≡ true
    = λ ne. sym (cond-false (no_blank P.entries) (good_pointers n (pointers P)) (ne_eqb P.level 1 ne)) ∙ on_level in
    let inside : Bool = all (λ (q : ℕ). leb 1 q && ltb q n) (pointers P) in
    record {
      lowest = leb-true 1 P.level (and_first a b toB);
      highest = leb-true P.level tallest (and_second a b toB);
      enough = λ ne. subst (λ (m : ℕ). m ≤ get_or ws 1 0) (cond-false (cond (is_leaf P) 0 1) k (ne_eqb p 0 ne)) low;
      root_enough = λ z ne. subst (λ (m : ℕ). m ≤ get_or ws 1 0) (cond-true (cond (is_leaf P) 0 1) k (eq-eqb p 0 z) ∙ cond-false 0 1 (ne_eqb P.level 1 ne)) low;
      room = leb-true (get_or ws 1 0) (2 * k) (and_second c d toCD);
      rising = rises_at P.entries (and_second (a && b && (c && d)) e toE);
      no_blank = λ one. has_missing blank_key P.entries (not-true (has blank_key P.entries) (unblank one));
      different = λ ne. distinct_at (pointers P) 0 (and_first (distinct (pointers P)) inside (good ne));
      in_pool = λ ne q i.
          let t = all_member (λ (r : ℕ). leb 1 r && ltb r n) (pointers P) (and_second (distinct (pointers P)) inside (good ne)) q (in_member q (pointers P) i) in
          (leb-true 1 q (and_first (leb 1 q) (ltb q n) t), ltb-true q n (and_second (leb 1 q) (ltb q n) t));
      unused_in_leaf = λ l i s t. zero_at ws (pairs_from P.level + 2 * get_or ws 1 0) i (and_second (a && b && (c && d) && e && f) g h)
          (subst (λ (m : ℕ). m + 2 * get_or ws 1 0 ≤ i) (sym (pairs_in_leaf P.level l)) s) t;
      unused_above = λ l i s t. zero_at ws (pairs_from P.level + 2 * get_or ws 1 0) i (and_second (a && b && (c && d) && e && f) g h)
          (subst (λ (m : ℕ). m + 2 * get_or ws 1 0 ≤ i) (sym (pairs_above P.level l)) s) t;
    }

least_from : (k p : ℕ) (leaf : Bool) (m : ℕ) → (p ≢ 0 → k ≤ m) → (p ≡ 0 → leaf ≡ false → 1 ≤ m) → least k p leaf ≤ m
least_from k p leaf m above root =
    cond_ind (λ (l : ℕ). l ≤ m) (eqb p 0)
    (λ e. cond_ind (λ (l : ℕ). l ≤ m) leaf (λ _. omega arith) (λ f. root (eqb-true p 0 e) f))
    (λ e. above (eqb-false p 0 e))

pub page_from : (k n p : ℕ) (ws : List ℕ) → PageSound k n p ws (view ws) → sound_by_itself k n p ws ≡ true
unfolding sound_by_itself
page_from k n p ws s =
    let P : Page = view ws in
    let from : ℕ = pairs_from P.level + 2 * get_or ws 1 0 in
    let unused : (j : ℕ) → j < length ws → from ≤ j → get_or ws j 0 ≡ 0
    = λ j b c. by_test (is_leaf P)
    (λ l. let one : P.level ≡ 1 = eqb-true P.level 1 l in s.unused_in_leaf one j (subst (λ (m : ℕ). m + 2 * get_or ws 1 0 ≤ j) (pairs_in_leaf P.level one) c) b)
    (λ l. let more : P.level ≢ 1 = eqb-false P.level 1 l in s.unused_above more j (subst (λ (m : ℕ). m + 2 * get_or ws 1 0 ≤ j) (pairs_above P.level more) c) b) in
    and_both
    (and_both
    (and_both
    (and_both
    (and_both (le-leb 1 P.level s.lowest) (le-leb P.level tallest s.highest))
    (and_both
    (le-leb (least k p (is_leaf P)) (get_or ws 1 0) (least_from k p (is_leaf P) (get_or ws 1 0) s.enough (λ z l. s.root_enough z (eqb-false P.level 1 l))))
    (le-leb (get_or ws 1 0) (2 * k) s.room)))
    (rises_from_lem P.entries (λ i b. s.rising i (suc i) (omega arith) b)))
    (cond_ind (λ (t : Bool). t ≡ true) (is_leaf P)
    (λ l. not_of_false (missing_has blank_key P.entries (s.no_blank (eqb-true P.level 1 l))))
    (λ l. and_both
    (distinct_from (pointers P) 0 (s.different (eqb-false P.level 1 l)))
    (all_from_members (λ (q : ℕ). leb 1 q && ltb q n) (pointers P)
    (λ q m. let (x, y) = s.in_pool (eqb-false P.level 1 l) q (member_at q (pointers P) 0 m) in and_both (le-leb 1 q x) (lt-ltb q n y))))))
    (zeros_from ws from unused)

-- all of some pages
abbrev pub Pages : ℕ → ℕ → List ℕ → List ℕ → Type 0
Pages k n ws pages = (p : ℕ) → In p pages → PageSound k n p (words_of k p ws) (page_at k ws p)

pub pages_told : (k n : ℕ) (ws pages : List ℕ) → pages_sound k n ws pages ≡ true → Pages k n ws pages
unfolding pages_sound page_at
pages_told k n ws pages h p i =
    page_told k n p (words_of k p ws) (all_member (λ (q : ℕ). sound_by_itself k n q (words_of k q ws)) pages h p (in_member p pages i))

pub pages_from : (k n : ℕ) (ws pages : List ℕ) → Pages k n ws pages → pages_sound k n ws pages ≡ true
unfolding pages_sound page_at
pages_from k n ws pages f =
    all_from_members (λ (q : ℕ). sound_by_itself k n q (words_of k q ws)) pages (λ p m. page_from k n p (words_of k p ws) (f p (member_at p pages 0 m)))

-- ---- the way down

pub place_told : (x : ℕ) (es : List Entry) → rises es ≡ true → PlaceIs x es (place x es)
place_told x es r = record { within = place_most x es; before = place_before x es r; behind = place_behind x es r }

place_same : {x : ℕ} {es : List Entry} {i : ℕ} → PlaceIs x es i → place x es ≡ i
place_same {x} {es} {i} p = place_is x es i p.within p.before p.behind

pub route_same : (x : ℕ) (P : Page) (q : ℕ) → RoutesTo x P q → route x P ≡ q
route_same x P q (i, p, e) = ap (λ (j : ℕ). pointer j P) (place_same p) ∙ e

abbrev Link : (ℕ → Page) → ℕ → ℕ → ℕ → Type 0
Link memory x p q = RoutesTo x (memory p) q × ((memory p).level ≡ (memory q).level + 1)

link_told : (memory : ℕ → Page) (x p q : ℕ) → rises (memory p).entries ≡ true → leads memory x p q ≡ true → Link memory x p q
link_told memory x p q r h =
    let a = eqb (route x (memory p)) q in
    let b = eqb (memory p).level ((memory q).level + 1) in (
      (place x (memory p).entries, place_told x (memory p).entries r, eqb-true (route x (memory p)) q (and_first a b h)),
      eqb-true (memory p).level ((memory q).level + 1) (and_second a b h),
    )

link_from : (memory : ℕ → Page) (x p q : ℕ) → Link memory x p q → leads memory x p q ≡ true
link_from memory x p q (r, l) = and_both (eq-eqb (route x (memory p)) q (route_same x (memory p) q r)) (eq-eqb (memory p).level ((memory q).level + 1) l)

-- the keys of each page of a list rise
abbrev pub Rising : (ℕ → Page) → List ℕ → Type 0
Rising memory pages = (i : ℕ) → i < length pages → rises (memory (get_or pages i 0)).entries ≡ true

way_told : (memory : ℕ → Page) (x : ℕ) (pages : List ℕ) → Rising memory pages → descends memory x pages ≡ true → Way memory x pages
unfolding descends
way_told memory x [] r h i b = absurd (omega (arith, b))
way_told memory x (p ∷ []) r h i b = absurd (omega (arith, b))
way_told memory x (p ∷ (q ∷ rest)) r h zero b =
    link_told memory x p q (r 0 (omega arith)) (and_first (leads memory x p q) (descends memory x (q ∷ rest)) h)
way_told memory x (p ∷ (q ∷ rest)) r h (suc i) b =
    way_told memory x (q ∷ rest) (λ j c. r (suc j) (omega (arith, c))) (and_second (leads memory x p q) (descends memory x (q ∷ rest)) h) i (omega (arith, b))

way_from : (memory : ℕ → Page) (x : ℕ) (pages : List ℕ) → Way memory x pages → descends memory x pages ≡ true
unfolding descends
way_from memory x [] w = refl
way_from memory x (p ∷ []) w = refl
way_from memory x (p ∷ (q ∷ rest)) w =
    and_both (link_from memory x p q (w 0 (omega arith))) (way_from memory x (q ∷ rest) (λ i b. w (suc i) (omega (arith, b))))

-- ---- what is still held

kept_told : (op : Op) (k : ℕ) (memory : ℕ → Page) (path beside : List ℕ) (want : ℕ) (lock : Lock) (locks sidelocks : List Under) → rightly_kept op k memory path want ≡ true → KeptRightly k memory (stand op path locks beside sidelocks want lock)
kept_told op k memory [] beside want lock locks sidelocks h = record {
  begins = λ _. eqb-true want 0 h;
  top = λ b. absurd (omega (arith, b));
  unsafe = λ i b _. omega (arith, b);
}
kept_told op k memory (t ∷ below) beside want lock locks sidelocks h =
    let top = eqb t 0 || is_safe op k (memory t) in
    let under = all (λ (p : ℕ). not (is_safe op k (memory p))) below in
    record {
      begins = λ e. absurd (omega (arith, e));
      top = λ _. ⊎_elim (λ e. inl (eqb-true t 0 e)) (λ s. inr ((safe_is k op (memory t)).0 s)) (or_cases (eqb t 0) (is_safe op k (memory t)) (and_first top under h));
      unsafe = λ i b s. not_both ((safe_is k op (memory (get_or below i 0))).1 s)
          (not-true (is_safe op k (memory (get_or below i 0))) (all_at (λ (p : ℕ). not (is_safe op k (memory p))) below 0 (and_second top under h) i (omega (arith, b))));
    }

kept_from : (op : Op) (k : ℕ) (memory : ℕ → Page) (path beside : List ℕ) (want : ℕ) (lock : Lock) (locks sidelocks : List Under) → KeptRightly k memory (stand op path locks beside sidelocks want lock) → rightly_kept op k memory path want ≡ true
kept_from op k memory [] beside want lock locks sidelocks f = eq-eqb want 0 (f.begins refl)
kept_from op k memory (t ∷ below) beside want lock locks sidelocks f =
    and_both
    (⊎_elim (λ e. or_first (is_safe op k (memory t)) (eq-eqb t 0 e)) (λ s. or_second (eqb t 0) ((safe_is k op (memory t)).1 s)) (f.top (omega arith)))
    (all_from (λ (p : ℕ). not (is_safe op k (memory p))) below 0
    (λ i b. not_of_false (false_if_not_true (is_safe op k (memory (get_or below i 0))) (λ s. f.unsafe i (omega (arith, b)) ((safe_is k op (memory (get_or below i 0))).0 s)))))

-- ---- a deletion's siblings

same_levels_told : (memory : ℕ → Page) (up siblings : List ℕ) → same_levels memory up siblings ≡ true
    → (j : ℕ) → j < length siblings → (memory (get_or up j 0)).level ≡ (memory (get_or siblings j 0)).level
unfolding same_levels
same_levels_told memory up [] h j b = absurd (omega (arith, b))
same_levels_told memory [] (s ∷ ss) h j b = absurd (false≢true h)
same_levels_told memory (p ∷ up) (s ∷ ss) h zero b = eqb-true (memory p).level (memory s).level (and_first (eqb (memory p).level (memory s).level) (same_levels memory up ss) h)
same_levels_told memory (p ∷ up) (s ∷ ss) h (suc j) b =
    same_levels_told memory up ss (and_second (eqb (memory p).level (memory s).level) (same_levels memory up ss) h) j (omega (arith, b))

same_levels_from : (memory : ℕ → Page) (up siblings : List ℕ) → length siblings ≤ length up
    → ((j : ℕ) → j < length siblings → (memory (get_or up j 0)).level ≡ (memory (get_or siblings j 0)).level) → same_levels memory up siblings ≡ true
unfolding same_levels
same_levels_from memory up [] l f = refl
same_levels_from memory [] (s ∷ ss) l f = absurd (omega (arith, l))
same_levels_from memory (p ∷ up) (s ∷ ss) l f =
    and_both (eq-eqb (memory p).level (memory s).level (f 0 (omega arith))) (same_levels_from memory up ss (omega (arith, l)) (λ j b. f (suc j) (omega (arith, b))))

is_sibling_lem : (d : Need) (want : ℕ) → is_sibling d want ≡ true → d ≡ sibling want
is_sibling_lem nothing want h = absurd (false≢true h)
is_sibling_lem (sibling s) want h = ap sibling (eqb-true s want h)
is_sibling_lem astray want h = absurd (false≢true h)

so_far_told : (op : Op) (k : ℕ) (memory : ℕ → Page) (path up beside : List ℕ) (want : ℕ) (lock : Lock) (locks sidelocks : List Under) → rightly_beside k memory (stand op path locks beside sidelocks want lock) up ≡ true
    → (is_delete op ≡ true) × SiblingsSoFar k memory (key_of op) up beside want
so_far_told op k memory path [] beside want lock locks sidelocks h = absurd (false≢true h)
so_far_told op k memory path (leaf ∷ fathers) beside want lock locks sidelocks h =
    let x = key_of op in
    let a = is_delete op in
    let b = has x (memory leaf).entries in
    let c = is_sibling (needs k memory x leaf fathers beside) want in
    let d = same_levels memory (leaf ∷ fathers) (beside ++ want ∷ []) in
    let to_c = and_first (a && b && c) d h in
    let toB = and_first (a && b) c to_c in
    let asks = is_sibling_lem (needs k memory x leaf fathers beside) want (and_second (a && b) c to_c) in
    let course = needs_course k memory x leaf fathers beside want asks in
    let fewer = needs_length k memory x leaf fathers beside want asks in (
      and_first a b toB,
      record {
        there = has_at x (memory leaf).entries (and_second a b toB);
        fewer = omega (arith, fewer);
        short = course.short;
        not_root = course.not_root;
        neighbours = course.neighbours;
        joining = course.joining;
        wants_next = course.wants_next;
        levels = same_levels_told memory (leaf ∷ fathers) (beside ++ want ∷ []) (and_second (a && b && c) d h);
      },
    )

so_far_from : (op : Op) (k : ℕ) (memory : ℕ → Page) (path up beside : List ℕ) (want : ℕ) (lock : Lock) (locks sidelocks : List Under) → is_delete op ≡ true
    → SiblingsSoFar k memory (key_of op) up beside want → rightly_beside k memory (stand op path locks beside sidelocks want lock) up ≡ true
so_far_from op k memory path [] beside want lock locks sidelocks e f = let none = f.fewer in absurd (omega (arith, none))
so_far_from op k memory path (leaf ∷ fathers) beside want lock locks sidelocks e f =
    let x = key_of op in
    let (i, b, key) = f.there in
    let fewer = f.fewer in
    let asks : needs k memory x leaf fathers beside ≡ sibling want
    = course_needs k memory x leaf fathers beside want (omega (arith, fewer))
    (record { short = f.short; not_root = f.not_root; neighbours = f.neighbours; joining = f.joining; wants_next = f.wants_next }) in
    and_both (and_both (and_both e (has_from x (memory leaf).entries i b key))
    (subst (λ (d : Need). is_sibling d want ≡ true) (sym asks) (eq-eqb want want refl)))
    (same_levels_from memory (leaf ∷ fathers) (beside ++ want ∷ []) (omega (arith, fewer, length-append beside (want ∷ []))) f.levels)

-- ---- the second way of a Next

leftmost_told : (memory : ℕ → Page) (pages : List ℕ) → leftmost memory pages ≡ true → LeftmostWay memory pages
unfolding leftmost
leftmost_told memory [] h i b = absurd (omega (arith, b))
leftmost_told memory (p ∷ []) h i b = absurd (omega (arith, b))
leftmost_told memory (p ∷ (q ∷ rest)) h zero b =
    let x = eqb (pointer 0 (memory p)) q in
    let y = eqb (memory p).level ((memory q).level + 1) in
    let both = and_first (x && y) (leftmost memory (q ∷ rest)) h in
    (eqb-true (pointer 0 (memory p)) q (and_first x y both), eqb-true (memory p).level ((memory q).level + 1) (and_second x y both))
leftmost_told memory (p ∷ (q ∷ rest)) h (suc i) b =
    let x = eqb (pointer 0 (memory p)) q in
    let y = eqb (memory p).level ((memory q).level + 1) in
    leftmost_told memory (q ∷ rest) (and_second (x && y) (leftmost memory (q ∷ rest)) h) i (omega (arith, b))

leftmost_from : (memory : ℕ → Page) (pages : List ℕ) → LeftmostWay memory pages → leftmost memory pages ≡ true
unfolding leftmost
leftmost_from memory [] w = refl
leftmost_from memory (p ∷ []) w = refl
leftmost_from memory (p ∷ (q ∷ rest)) w =
    let (a, b) = w 0 (omega arith) in
    and_both (and_both (eq-eqb (pointer 0 (memory p)) q a) (eq-eqb (memory p).level ((memory q).level + 1) b))
    (leftmost_from memory (q ∷ rest) (λ i c. w (suc i) (omega (arith, c))))

-- the turn to the right, by the pages beside the path and the wanted one
record Turns (memory : ℕ → Page) (x top : ℕ) (pages : List ℕ) : Type 0 where
  turns : neighbour x (memory top) ≡ get_or pages 0 0
  lower : (memory top).level ≡ (memory (get_or pages 0 0)).level + 1
  leftmost : LeftmostWay memory pages

turns_told : (memory : ℕ → Page) (x top : ℕ) (pages : List ℕ) → turns_right memory x top pages ≡ true → Turns memory x top pages
turns_told memory x top [] h = absurd (false≢true h)
turns_told memory x top (p ∷ rest) h =
    let a = eqb (neighbour x (memory top)) p in
    let b = eqb (memory top).level ((memory p).level + 1) in
    let both = and_first (a && b) (leftmost memory (p ∷ rest)) h in
    record {
      turns = eqb-true (neighbour x (memory top)) p (and_first a b both);
      lower = eqb-true (memory top).level ((memory p).level + 1) (and_second a b both);
      leftmost = leftmost_told memory (p ∷ rest) (and_second (a && b) (leftmost memory (p ∷ rest)) h);
    }

turns_from : (memory : ℕ → Page) (x top : ℕ) (pages : List ℕ) → 1 ≤ length pages → Turns memory x top pages → turns_right memory x top pages ≡ true
turns_from memory x top [] b t = absurd (omega (arith, b))
turns_from memory x top (p ∷ rest) b t =
    and_both (and_both (eq-eqb (neighbour x (memory top)) p t.turns) (eq-eqb (memory top).level ((memory p).level + 1) t.lower))
    (leftmost_from memory (p ∷ rest) t.leftmost)

across_told : (op : Op) (k : ℕ) (memory : ℕ → Page) (path second : List ℕ) (want : ℕ) (lock : Lock) (locks sidelocks : List Under) → StandsAtLeaf memory path → Way memory (key_of op) path
    → rightly_across k memory (stand op path locks second sidelocks want lock) path ≡ true → GoesAcross k memory (stand op path locks second sidelocks want lock)
across_told op k memory [] second want lock locks sidelocks l w h = absurd (false≢true h)
across_told op k memory (top ∷ below) second want lock locks sidelocks l w h =
    let x = key_of op in
    let a = is_next op in
    let es = (memory (get_or (reverse (top ∷ below)) 0 0)).entries in
    let b = is_none (at_or_above x es) in
    let c = is_safe op k (memory top) in
    let d = turns_right memory x top (second ++ want ∷ []) in
    let to_c = and_first (a && b && c) d h in
    let toB = and_first (a && b) c to_c in
    let t = turns_told memory x top (second ++ want ∷ []) (and_second (a && b && c) d h) in
    record {
      asks_next = and_first a b toB;
      at_leaf = l;
      way = w;
      none = none_below x es (none_is (at_or_above x es) (and_second a b toB));
      right = (safe_is k op (memory top)).0 (and_second (a && b) c to_c);
      turns = t.turns;
      lower = t.lower;
      leftmost = t.leftmost;
    }

across_from : (op : Op) (k : ℕ) (memory : ℕ → Page) (path second : List ℕ) (want : ℕ) (lock : Lock) (locks sidelocks : List Under) → GoesAcross k memory (stand op path locks second sidelocks want lock)
    → rightly_across k memory (stand op path locks second sidelocks want lock) path ≡ true
across_from op k memory [] second want lock locks sidelocks g = let some = g.at_leaf.0 in absurd (omega (arith, some))
across_from op k memory (top ∷ below) second want lock locks sidelocks g =
    let x = key_of op in
    let es = (memory (get_or (reverse (top ∷ below)) 0 0)).entries in
    and_both
    (and_both (and_both g.asks_next (ap is_none (below_none x es g.none))) ((safe_is k op (memory top)).1 g.right))
    (turns_from memory x top (second ++ want ∷ []) (omega (arith, length-append second (want ∷ []))) (record { turns = g.turns; lower = g.lower; leftmost = g.leftmost }))

-- ---- the kinds of what it holds

-- What a slot of a sound state has: a kind for every page that it holds, and no page twice.
pub record Sized (z : Stand) : Type 0 where
  pub paired : Paired z
  pub different : distinct (holding z) ≡ true

abbrev due : Stand → Under → Bool
due z u = same_lock u.lock (held_lock z.op)

due_told : (z : Stand) → Paired z → holds_due z ≡ true → (p : ℕ) (lock : Lock) → HeldHere z p lock → GoesWith z.op lock
due_told z paired h p lock (i, b, _, kind) =
    let within : i < length (holding_locks z) = subst (λ (m : ℕ). i < m) (sym (kinds_long z paired)) b in
    (kind_is z.op lock).0
    (sym kind ∙ same_lock_lem (get_or (holding_locks z) i (under None)).lock (held_lock z.op) (all_at (due z) (holding_locks z) (under None) h i within))

due_from : (z : Stand) → Paired z → ((p : ℕ) (lock : Lock) → HeldHere z p lock → GoesWith z.op lock) → holds_due z ≡ true
due_from z paired f =
    all_from (due z) (holding_locks z) (under None)
    (λ i b.
    let lock : Lock = (get_or (holding_locks z) i (under None)).lock in
    let within : i < length (holding z) = subst (λ (m : ℕ). i < m) (kinds_long z paired) b in
    ap (λ (l : Lock). same_lock l (held_lock z.op)) ((kind_is z.op lock).1 (f (get_or (holding z) i 0) lock (i, within, refl, refl)))
    ∙ lock_same (held_lock z.op))

-- ---- it gathers pages

abbrev pub Stands : ℕ → (ℕ → Page) → Stand → Type 0
Stands k memory z = ComesDown memory z ⊎ (AsksSibling k memory z ⊎ GoesAcross k memory z)

module _ (op : Op) (k : ℕ) (memory : ℕ → Page) (path beside : List ℕ) (want : ℕ) (lock : Lock) (locks sidelocks : List Under) where
  abbrev here : Stand
  here = stand op path locks beside sidelocks want lock

  abbrev helps : Bool
  helps = rightly_beside k memory here (reverse path) || rightly_across k memory here path

  abbrev at_it : Bool
  at_it = descends memory (key_of op) path && helps

  abbrev above : Bool
  above = descends memory (key_of op) (path ++ want ∷ []) && is_none beside

  leaf_told : Rising memory path → StandsAtLeaf memory path → at_it ≡ true → Stands k memory here
  leaf_told s l t =
      let w = way_told memory (key_of op) path s (and_first (descends memory (key_of op) path) helps t) in
      ⊎_elim
      (λ b. let (d, f) = so_far_told op k memory path (reverse path) beside want lock locks sidelocks b in inr (inl (record { deletes = d; at_leaf = l; way = w; siblings = f })))
      (λ b. inr (inr (across_told op k memory path beside want lock locks sidelocks l w b)))
      (or_cases (rightly_beside k memory here (reverse path)) (rightly_across k memory here path) (and_second (descends memory (key_of op) path) helps t))

  down : Rising memory (path ++ want ∷ []) → (StandsAtLeaf memory path → ⊥) → above ≡ true → ComesDown memory here
  down r l t = record {
    above_leaf = l;
    way = way_told memory (key_of op) (path ++ want ∷ []) r (and_first (descends memory (key_of op) (path ++ want ∷ [])) (is_none beside) t);
    nothing_beside = none_is beside (and_second (descends memory (key_of op) (path ++ want ∷ [])) (is_none beside) t);
  }

  stands_told : Rising memory (path ++ want ∷ []) → Rising memory path → cond (at_its_leaf memory (reverse path)) at_it above ≡ true → Stands k memory here
  stands_told r s h =
      by_test (at_its_leaf memory (reverse path))
      (λ l. leaf_told s (test_at_leaf memory path l) (sym (cond-true at_it above l) ∙ h))
      (λ l. inl (down r (λ a. not_both (at_leaf_test memory path a) l) (sym (cond-false at_it above l) ∙ h)))

  stands_from : Stands k memory here → cond (at_its_leaf memory (reverse path)) at_it above ≡ true
  stands_from s =
      ⊎_elim
      (λ c. cond-false at_it above (false_if_not_true (at_its_leaf memory (reverse path)) (λ l. c.above_leaf (test_at_leaf memory path l)))
      ∙ and_both (way_from memory (key_of op) (path ++ want ∷ []) c.way) (ap is_none c.nothing_beside))
      (⊎_elim
      (λ a. cond-true at_it above (at_leaf_test memory path a.at_leaf)
      ∙ and_both (way_from memory (key_of op) path a.way)
      (or_first (rightly_across k memory here path) (so_far_from op k memory path (reverse path) beside want lock locks sidelocks a.deletes a.siblings)))
      (λ a. cond-true at_it above (at_leaf_test memory path a.at_leaf)
      ∙ and_both (way_from memory (key_of op) path a.way)
      (or_second (rightly_beside k memory here (reverse path)) (across_from op k memory path beside want lock locks sidelocks a))))
      s

-- ---- it converts

-- siblings that are all needed are no more than the pages of the path
few_done : (op : Op) (k : ℕ) (memory : ℕ → Page) (up beside : List ℕ) → SiblingsDone op k memory up beside → length beside ≤ length up
few_done (Search x) k memory up beside e = omega (arith, ap length e)
few_done (Insert x v way) k memory up beside e = omega (arith, ap length e)
few_done (Delete x way) k memory up beside e = let less = e.fewer in omega (arith, less)
few_done (Next x) k memory up beside e = omega (arith, ap length e)
few_done (Regrade x v way) k memory up beside e = omega (arith, ap length e)

-- it wants a page that it holds
pub converts_own : {k : ℕ} {memory : ℕ → Page} {z : Stand} → ConvertsRightly k memory z → converting z ≡ true
converts_own {z = z} c = here_held z z.want Alpha (c.left z.want (0, omega arith, refl))

module _ (k : ℕ) (memory : ℕ → Page) (z : Stand) (sized : Sized z) where
  -- the kinds in the order of conversion
  kinds : locks_in_turn z ≡ map (kind_in z) (pages_in_turn z)
  kinds = turn_kinds_by z sized.paired sized.different

  parted_told : xi_then_alpha (locks_in_turn z) ≡ true → is_first z.want (to_convert z) ≡ true → Parted (kind_in z) z.want (pages_in_turn z)
  parted_told order first =
      turn_parted (kind_in z) z.want (pages_in_turn z) (sym (ap xi_then_alpha kinds) ∙ order)
      (sym (ap (λ (ls : List Under). is_first z.want (unconverted (pages_in_turn z) ls)) kinds) ∙ first)

  converts_told : Rising memory z.path → (up : List ℕ) → reverse z.path ≡ up → rightly_converting k memory z up ≡ true
      → (z.lock ≡ Xi) × ConvertsRightly k memory z
  converts_told r [] e h = absurd (false≢true h)
  converts_told r (leaf ∷ fathers) e h =
      let c = converts_facts k memory z leaf fathers h in
      let (unanswered, more) = known_told k memory z leaf fathers c.known in
      let parted = parted_told c.kinds c.first in
      let few : length z.beside ≤ length z.path
      = omega (arith, few_done z.op k memory (leaf ∷ fathers) z.beside more, ap length e, length-reverse z.path) in
      let held : (p : ℕ) → member p (parted.done ++ z.want ∷ parted.rest) ≡ true → member p (holding z) ≡ true
      = λ p m. sym (held_turn z.path z.beside few p) ∙ ap (member p) parted.turns ∙ m in (
        same_lock_lem z.lock Xi c.wants,
        record {
          third = third_named z.op c.third;
          leaf = leaf;
          fathers = fathers;
          upward = e;
          at_leaf = test_at_leaf memory z.path (ap (at_its_leaf memory) e ∙ c.low);
          way = way_told memory (key_of z.op) z.path r c.way;
          unanswered = unanswered;
          no_more = more;
          levels = λ j b. ap (λ (up : List ℕ). (memory (get_or up j 0)).level) e
              ∙ same_levels_told memory (leaf ∷ fathers) z.beside c.levels j b;
          done = parted.done;
          rest = parted.rest;
          turns = parted.turns;
          converted = λ p i.
              let m = in_member p parted.done i in
              subst (HeldHere z p) (parted.converted p m)
              (held_here z p (held p (member_append p parted.done (z.want ∷ parted.rest) ∙ or_first (member p (z.want ∷ parted.rest)) m)));
          left = λ p i.
              let m = in_member p (z.want ∷ parted.rest) i in
              subst (HeldHere z p) (parted.left p m)
              (held_here z p (held p (member_append p parted.done (z.want ∷ parted.rest) ∙ or_second (member p parted.done) m)));
        },
      )

  module _ (c : ConvertsRightly k memory z) where
    is_xi : (p : ℕ) → member p c.done ≡ true → (kind_in z p).lock ≡ Xi
    is_xi p m = here_kind z p Xi sized.different (c.converted p (member_at p c.done 0 m))

    is_alpha : (p : ℕ) → member p (z.want ∷ c.rest) ≡ true → (kind_in z p).lock ≡ Alpha
    is_alpha p m = here_kind z p Alpha sized.different (c.left p (member_at p (z.want ∷ c.rest) 0 m))

    in_turn_lem : locks_in_turn z ≡ map (kind_in z) (c.done ++ z.want ∷ c.rest)
    in_turn_lem = kinds ∙ ap (map (kind_in z)) c.turns

    -- the want is the first of what is left
    want_first : to_convert z ≡ z.want ∷ c.rest
    want_first =
        ap₂ unconverted c.turns in_turn_lem
        ∙ passed_turn (kind_in z) c.done (z.want ∷ c.rest) is_xi
        ∙ next_turn (kind_in z) z.want c.rest (is_alpha z.want (member_here z.want c.rest))

    converts_from : z.lock ≡ Xi → rightly_converting k memory z (reverse z.path) ≡ true
    converts_from xi =
        let few : length z.beside ≤ length (c.leaf ∷ c.fathers) = few_done z.op k memory (c.leaf ∷ c.fathers) z.beside c.no_more in
        subst (λ (up : List ℕ). rightly_converting k memory z up ≡ true) (sym c.upward)
        (and_both
        (and_both
        (and_both
        (and_both
        (and_both
        (and_both
        (and_both (named_third z.op c.third) (ap (at_its_leaf memory) (sym c.upward) ∙ at_leaf_test memory z.path c.at_leaf))
        (way_from memory (key_of z.op) z.path c.way))
        (known_from k memory z c.leaf c.fathers (c.unanswered, c.no_more)))
        (same_levels_from memory (c.leaf ∷ c.fathers) z.beside few
        (λ j b. ap (λ (up : List ℕ). (memory (get_or up j 0)).level) (sym c.upward) ∙ c.levels j b)))
        (ap (λ (l : Lock). same_lock l Xi) xi ∙ lock_same Xi))
        (ap xi_then_alpha in_turn_lem ∙ turn_kinds (kind_in z) c.done (z.want ∷ c.rest) is_xi is_alpha))
        (ap (is_first z.want) want_first ∙ eq-eqb z.want z.want refl))

-- ---- the pages that the rules would have it hold and want

abbrev pub StandsRightly : ℕ → (ℕ → Page) → Stand → Type 0
StandsRightly k memory z = GathersRightly k memory z ⊎ ConvertsRightly k memory z

module _ (k : ℕ) (memory : ℕ → Page) (z : Stand) (sized : Sized z) where
  abbrev gathering : Bool
  gathering =
      cond (at_its_leaf memory (reverse z.path))
      (at_it z.op k memory z.path z.beside z.want z.lock z.locks z.sidelocks)
      (above z.op k memory z.path z.beside z.want z.lock z.locks z.sidelocks)

  abbrev wanted : Bool
  wanted = same_lock z.lock (lock_due z.op memory (reverse z.path))

  gathers_told : Rising memory (z.path ++ z.want ∷ []) → Rising memory z.path → converting z ≡ false → fitting_new k memory z ≡ true
      → WantsAs memory z × GathersRightly k memory z
  unfolding fitting_new
  gathers_told r s new h =
      let both = and_first (wanted && holds_due z) gathering h in (
        wants_as memory z (λ own. not_both own new) (λ _. same_lock_lem z.lock (lock_due z.op memory (reverse z.path)) (and_first wanted (holds_due z) both)),
        record {
          new = λ c. not_both (here_converts z c) new;
          holds = due_told z sized.paired (and_second wanted (holds_due z) both);
          stands = stands_told z.op k memory z.path z.beside z.want z.lock z.locks z.sidelocks r s
              (and_second (wanted && holds_due z) gathering h);
        },
      )

  gathers_from : WantsAs memory z → converting z ≡ false → GathersRightly k memory z → fitting_new k memory z ≡ true
  unfolding fitting_new
  gathers_from w new g =
      and_both
      (and_both
      (ap (λ (l : Lock). same_lock l (lock_due z.op memory (reverse z.path))) (wanted_due memory z w new) ∙ lock_same (lock_due z.op memory (reverse z.path)))
      (due_from z sized.paired g.holds))
      (stands_from z.op k memory z.path z.beside z.want z.lock z.locks z.sidelocks g.stands)

  pub fitting_told : Rising memory (z.path ++ z.want ∷ []) → Rising memory z.path → fitting k memory z ≡ true
      → KeptRightly k memory z × WantsAs memory z × StandsRightly k memory z
  unfolding fitting
  fitting_told r s h =
      let keep = rightly_kept z.op k memory z.path z.want in
      let own = rightly_converting k memory z (reverse z.path) in
      let rest = cond (converting z) own (fitting_new k memory z) in
      let kept = kept_told z.op k memory z.path z.beside z.want z.lock z.locks z.sidelocks (and_first keep rest h) in
      by_test (converting z)
      (λ y.
      let (xi, c) = converts_told k memory z sized s (reverse z.path) refl (sym (cond-true own (fitting_new k memory z) y) ∙ and_second keep rest h) in
      (kept, wants_as memory z (λ _. xi) (λ n. not_both y n), inr c))
      (λ n.
      let (w, g) = gathers_told r s n (sym (cond-false own (fitting_new k memory z) n) ∙ and_second keep rest h) in
      (kept, w, inl g))

  pub fitting_from : KeptRightly k memory z → WantsAs memory z → StandsRightly k memory z → fitting k memory z ≡ true
  unfolding fitting
  fitting_from f w s =
      let own = rightly_converting k memory z (reverse z.path) in
      and_both (kept_from z.op k memory z.path z.beside z.want z.lock z.locks z.sidelocks f)
      (⊎_elim
      (λ g.
      let new = false_if_not_true (converting z) (λ m. g.new (converts_here z m)) in
      cond-false own (fitting_new k memory z) new ∙ gathers_from w new g)
      (λ c.
      let y = converts_own c in
      cond-true own (fitting_new k memory z) y ∙ converts_from k memory z sized c (wanted_xi memory z w y))
      s)
