-- The test of a page's words, part by part: what stops each part, and what is known where it comes to its end.
use Prim.Native.Nat.{ℕ, zero, suc, ◌+◌, ◌-◌, ◌*◌, ◌%◌, ◌≤◌, ◌<◌}
use mathlib.Core.Bool.{Bool, true, false, cond, not, ◌&&◌}
use mathlib.Core.List.{List, [], ◌∷◌}
use mathlib.Core.Path.{◌≡◌, refl, sym, ap, ◌∙◌, subst}
use native.Mathlib.Numerals.{add-one}
use native.Mathlib.Omega.{arith}
use borrow.Author.Count.{below_none, below_more}
use borrow.Author.Tests.{leb-true, eqb-true, eq-eqb, ne_eqb}
use lib.Dec.{leb, ltb, eqb}
use lib.ListN.{length, get_or, take, drop, set, length-drop}
use lib.Seq.{length-take-le, get_or-take, get_or-drop, get_or-set_same, take_all}
use Rattle.ground.specs.Limits.{tallest, blank_key}
use Rattle.ground.specs.Tests.{all, member, distinct}
use Rattle.ground.proofs.Limits.{blank_lowest}
use Rattle.ground.proofs.Bools.{not_both, same_if_true_together, and_second, and_both, and_first_fails, and_second_fails, not_of_false, false_if_not_true}
use Rattle.ground.proofs.Tests.{all_from, all_stops, member_at, member_among, not_member_from, distinct_more, distinct_at}
use Rattle.page.specs.Words.{Entry, is_leaf, pointers, pairs_from, view, size}
use Rattle.page.specs.Sound.{rises, least, in_range, good_pointers, no_blank, sound_by_itself}
use Rattle.page.specs.Reading.{Readable, in_shape}
use Rattle.page.specs.Place.{has, pointer}
use Rattle.page.proofs.RiseLaws.{key_at, rises_at, rises_from_lem, rises_stops}
use Rattle.page.proofs.PlaceLaws.{has_from, has_at}
use Rattle.page.proofs.ReadingLaws.{readable, readable_μ, key_word, length_pointers}
use Rattle.std.specs.Bool.{MatchBool}
use Rattle.std.specs.List.{range_with_len, HoldsAt, AllWithin}
use Rattle.std.proofs.Common.{zero-add}
use Rattle.std.proofs.lemmas.List.FromFn.{length-range_with_len, get_or-range_with_len}
use mathlib.Core.Logic.{◌≢◌}

-- ---- level and μ

-- the test in words 0 and 1
pub shape_rewritten : (k p : ℕ) (ws : List ℕ) (l m : ℕ) → l ≡ (view ws).level → m ≡ get_or ws 1 0
    → in_shape k p ws ≡ leb 1 l && leb l tallest && in_range k p (eqb l 1) m
unfolding in_shape
shape_rewritten k p ws l m el em = rw (el, em)

-- words in shape are readable
pub shape_readable : (k p : ℕ) (ws : List ℕ) → length ws ≡ size k → in_shape k p ws ≡ true → Readable ws
unfolding in_shape
shape_readable k p ws len t =
    let l : ℕ = (view ws).level in
    let m : ℕ = get_or ws 1 0 in
    let range = and_second (leb 1 l && leb l tallest) (in_range k p (eqb l 1) m) t in
    readable k ws len (leb-true m (2 * k) (and_second (leb (least k p (eqb l 1)) m) (leb m (2 * k)) range))

-- ---- the keys

module _ (ws : List ℕ) (r : Readable ws) (from : ℕ) (e : from ≡ pairs_from (get_or ws 0 0)) where
  -- the key before key i
  key_before : (i : ℕ) → 1 ≤ i → i < get_or ws 1 0 → key_at (i - 1) (view ws).entries ≡ get_or ws (from + 2 * i - 2) 0
  key_before i some h =
      let at : from + 2 * (i - 1) ≡ from + 2 * i - 2 = omega arith in
      key_word ws r from (i - 1) e (omega arith) ∙ ap (λ (n : ℕ). get_or ws n 0) at

  -- it is below key i
  pub keys_rise : (i : ℕ) → 1 ≤ i → i < get_or ws 1 0 → get_or ws (from + 2 * i - 2) 0 < get_or ws (from + 2 * i) 0
      → key_at (i - 1) (view ws).entries < key_at i (view ws).entries
  keys_rise i some h up = rw (key_before i some h, key_word ws r from i e h) up

  -- it is not below key i
  pub keys_stop : (i : ℕ) → 1 ≤ i → i < get_or ws 1 0 → get_or ws (from + 2 * i) 0 ≤ get_or ws (from + 2 * i - 2) 0
      → false ≡ rises (view ws).entries
  keys_stop i some h down =
      let m = readable_μ ws r in
      let next : suc (i - 1) ≡ i = omega arith in
      sym (rises_stops (view ws).entries (i - 1) (omega arith) (rw (next, key_before i some h, key_word ws r from i e h) down))

  -- each key is above the one before
  pub keys_done : (i : ℕ) → get_or ws 1 0 ≤ i
      → ((j : ℕ) → j < i → 1 ≤ j → key_at (j - 1) (view ws).entries < key_at j (view ws).entries) → true ≡ rises (view ws).entries
  keys_done i h up = let m = readable_μ ws r in sym (rises_from_lem (view ws).entries (λ j l. let back : suc j - 1 ≡ j = omega arith in rw back at (up (suc j) (omega arith) (omega arith))))

-- ---- the pointers

module _ (ps : List ℕ) (q i : ℕ) (h : i ≤ length ps) where
  -- none of the first i is q
  pub repeated_done : ((j : ℕ) → j < i → get_or ps j 0 ≡ q → ⊥) → false ≡ member q (take i ps)
  repeated_done f =
      let len = length-take-le i ps h in
      sym (not_member_from q (take i ps) 0 (λ j l e. f j (omega arith) (sym (get_or-take i ps j 0 (omega arith)) ∙ e)))

-- pi stands among the pointers before it just if one of them is the same
module _ (ws : List ℕ) (r : Readable ws) (i : ℕ) (h : i ≤ get_or ws 1 0) where
  pub repeated_told : (b : Bool)
      → MatchBool b
      ((k : ℕ) × (k < length (range_with_len 0 i)) × HoldsAt (λ j. pointer j (view ws) ≡ pointer i (view ws)) (range_with_len 0 i) k)
      (AllWithin (λ j. pointer j (view ws) ≢ pointer i (view ws)) (range_with_len 0 i) 0 (length (range_with_len 0 i)))
      → b ≡ member (pointer i (view ws)) (take i (pointers (view ws)))
  repeated_told true (k, l, same) =
      let before : k < i = omega (arith, length-range_with_len 0 i) in
      let index : get_or (range_with_len 0 i) k 0 ≡ k = get_or-range_with_len 0 i k 0 before ∙ zero-add k in
      sym
      (member_among (pointer i (view ws)) (pointers (view ws)) i k 0 (omega (arith, length_pointers ws r)) before
      (subst (λ (j : ℕ). pointer j (view ws) ≡ pointer i (view ws)) index (same 0)))
  repeated_told false other =
      repeated_done (pointers (view ws)) (pointer i (view ws)) i (omega (arith, length_pointers ws r))
      (λ j l same. other j 0 (omega arith) (omega (arith, length-range_with_len 0 i))
      (ap (λ (m : ℕ). pointer m (view ws)) (get_or-range_with_len 0 i j 0 l ∙ zero-add j) ∙ same))

-- p is from 1 to n - 1
abbrev pub in_pool : ℕ → ℕ → Bool
in_pool n p = leb 1 p && ltb p n

-- The first i pointers are in the pool and all different, and each left its mark.
pub record Passed (n : ℕ) (ps : List ℕ) (seen : List Bool) (i : ℕ) : Type 0 where
  pub inside : (j : ℕ) → j < i → in_pool n (get_or ps j 0) ≡ true
  pub apart : distinct (take i ps) ≡ true
  pub marked : (j : ℕ) → j < i → get_or seen (get_or ps j 0 % 256) false ≡ true

-- a mark stays where another is set
mark_kept : (seen : List Bool) (a b : ℕ) → get_or seen b false ≡ true → get_or (set seen a true) b false ≡ true
mark_kept [] a b t = t
mark_kept (x ∷ seen) zero zero t = refl
mark_kept (x ∷ seen) zero (suc b) t = t
mark_kept (x ∷ seen) (suc a) zero t = t
mark_kept (x ∷ seen) (suc a) (suc b) t = mark_kept seen a b t

-- none passed
pub passed_none : (n : ℕ) (ps : List ℕ) (seen : List Bool) → Passed n ps seen 0
unfolding distinct
passed_none n ps seen = record { inside = below_none _; apart = refl; marked = below_none _ }

-- the next pointer, q
module _ (n : ℕ) (ps : List ℕ) (seen : List Bool) (i q : ℕ) (was : Passed n ps seen i) (h : i < length ps) (e : q ≡ get_or ps i 0) where
  -- a pointer that finds no mark did not stand before
  pub unmarked_new : get_or seen (q % 256) false ≡ false → member q (take i ps) ≡ false
  unmarked_new no-mark =
      let len = length-take-le i ps (omega arith) in
      false_if_not_true (member q (take i ps))
      (λ m. let found = member_at q (take i ps) 0 m in
      let j : ℕ = found.0 in
      let same : get_or ps j 0 ≡ q = sym (get_or-take i ps j 0 (omega arith)) ∙ found.2 in
      not_both (was.marked j (omega arith)) (ap (λ (p : ℕ). get_or seen (p % 256) false) same ∙ no-mark))

  -- one pointer more
  pub passed_more : length seen ≡ 256 → in_pool n q ≡ true → member q (take i ps) ≡ false
      → Passed n ps (set seen (q % 256) true) (i + 1)
  passed_more len pool new =
      record {
        inside = below_more _ _ was.inside (subst (λ (p : ℕ). in_pool n p ≡ true) e pool);
        apart =
            rw (add-one i)
            (distinct_more ps i 0 h
            ∙ and_both was.apart (not_of_false (subst (λ (p : ℕ). member p (take i ps) ≡ false) e new)));
        marked =
            below_more _ _
            (λ j l. mark_kept seen (q % 256) (get_or ps j 0 % 256) (was.marked j l))
            (subst (λ (p : ℕ). get_or (set seen (q % 256) true) (p % 256) false ≡ true) e
            (get_or-set_same seen (q % 256) true false (omega arith)));
      }

  -- a pointer out of the pool
  pub passed_outside : in_pool n q ≡ false → false ≡ good_pointers n ps
  passed_outside out =
      sym (and_second_fails (distinct ps) (all_stops (in_pool n) ps 0 i h (subst (λ (p : ℕ). in_pool n p ≡ false) e out)))

  -- a pointer that stood before
  pub passed_again : member q (take i ps) ≡ true → false ≡ good_pointers n ps
  passed_again m =
      let len = length-take-le i ps (omega arith) in
      let found = member_at q (take i ps) 0 m in
      let j : ℕ = found.0 in
      let same : get_or ps j 0 ≡ get_or ps i 0 = sym (get_or-take i ps j 0 (omega arith)) ∙ found.2 ∙ e in
      sym
      (and_first_fails (all (in_pool n) ps)
      (false_if_not_true (distinct ps) (λ t. distinct_at ps 0 t j i (omega arith) h same)))

-- all passed
pub passed_done : (n : ℕ) (ps : List ℕ) (seen : List Bool) (i : ℕ) → Passed n ps seen i → length ps ≤ i → true ≡ good_pointers n ps
passed_done n ps seen i was h =
    sym
    (and_both
    (subst (λ (l : List ℕ). distinct l ≡ true) (take_all i ps h) was.apart)
    (all_from (in_pool n) ps 0 (λ j l. was.inside j (omega arith))))

-- ---- the unused words

module _ (ws : List ℕ) (from i : ℕ) where
  -- a word that is not 0
  pub unused_stop : from ≤ i → i < length ws → (get_or ws i 0 ≡ 0 → ⊥) → false ≡ all (λ (x : ℕ). eqb x 0) (drop from ws)
  unused_stop l h d =
      let behind = length-drop from ws in
      let at : from + (i - from) ≡ i = omega arith in
      let word = get_or-drop from ws (i - from) 0 ∙ ap (λ (n : ℕ). get_or ws n 0) at in
      sym
      (all_stops (λ (x : ℕ). eqb x 0) (drop from ws) 0 (i - from) (omega arith)
      (ne_eqb (get_or (drop from ws) (i - from) 0) 0 (λ z. d (sym word ∙ z))))

  -- the words from there on are all 0
  pub unused_done : length ws ≤ i → ((j : ℕ) → j < i → from ≤ j → get_or ws j 0 ≡ 0) → true ≡ all (λ (x : ℕ). eqb x 0) (drop from ws)
  unused_done l f =
      let behind = length-drop from ws in
      sym
      (all_from (λ (x : ℕ). eqb x 0) (drop from ws) 0
      (λ j h. eq-eqb (get_or (drop from ws) j 0) 0 (get_or-drop from ws j 0 ∙ f (from + j) (omega arith) (omega arith))))

-- ---- the key of a blank tag

-- no key is, where there is none
pub no_keys : (es : List Entry) → length es ≡ 0 → no_blank es ≡ true
no_keys es none = not_of_false (false_if_not_true (has blank_key es) (λ t. let found = has_at blank_key es t in absurd (omega (arith, found.1))))

module _ (es : List Entry) (t : rises es ≡ true) (some : 0 < length es) where
  -- where keys rise, it is the first key or none
  blank_first : has blank_key es ≡ true → key_at 0 es ≡ blank_key
  blank_first y =
      let found = has_at blank_key es y in
      first found.0 found.1 found.2
    where
      first : (i : ℕ) → i < length es → key_at i es ≡ blank_key → key_at 0 es ≡ blank_key
      first zero h e = e
      first (suc i) h e = absurd (omega (arith, e, rises_at es t 0 (suc i) (omega arith) h, blank_lowest (key_at 0 es)))

  -- so the first key tells
  pub first_tells : not (eqb (key_at 0 es) blank_key) ≡ no_blank es
  first_tells =
      ap not (same_if_true_together (eqb (key_at 0 es) blank_key) (has blank_key es)
      (λ e. has_from blank_key es 0 some (eqb-true (key_at 0 es) blank_key e))
      (λ y. eq-eqb (key_at 0 es) blank_key (blank_first y)))

-- ---- the whole test

module _ (k n p : ℕ) (ws : List ℕ) where
  shape : Bool
  shape = in_shape k p ws

  keys : Bool
  keys = rises (view ws).entries

  on_level : Bool
  on_level = cond (is_leaf (view ws)) (no_blank (view ws).entries) (good_pointers n (pointers (view ws)))

  zeros : Bool
  zeros = all (λ (w : ℕ). eqb w 0) (drop (pairs_from (get_or ws 0 0) + 2 * get_or ws 1 0) ws)

  parts : sound_by_itself k n p ws ≡ shape && keys && on_level && zeros
  unfolding sound_by_itself in_shape shape keys on_level zeros view
  parts = refl

  -- level or μ out of range, keys that do not rise, a blank tag in a leaf, or pointers that are not good
  pub some_fails : in_shape k p ws && rises (view ws).entries && cond (is_leaf (view ws)) (no_blank (view ws).entries) (good_pointers n (pointers (view ws))) ≡ false
      → false ≡ sound_by_itself k n p ws
  unfolding shape keys on_level
  some_fails f = sym (parts ∙ and_first_fails zeros f)

  -- else what is left is that the unused words are 0
  pub zeros_left : (from m : ℕ)
      → in_shape k p ws && rises (view ws).entries && cond (is_leaf (view ws)) (no_blank (view ws).entries) (good_pointers n (pointers (view ws))) ≡ true
      → from ≡ pairs_from (get_or ws 0 0) → m ≡ get_or ws 1 0 → all (λ (w : ℕ). eqb w 0) (drop (from + 2 * m) ws) ≡ sound_by_itself k n p ws
  unfolding shape keys on_level zeros
  zeros_left from m t ef em = rw (ef, em) (sym (parts ∙ ap (λ (b : Bool). b && zeros) t))
