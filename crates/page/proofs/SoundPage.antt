-- A page sound by itself, as facts: what the test on its words tells of its value, and the test from those facts.
use Prim.Native.Nat.{ℕ, ◌+◌, ◌-◌, ◌*◌, ◌≤◌, ◌<◌}
use mathlib.Core.Bool.{Bool, true, false, cond, ◌&&◌}
use mathlib.Core.List.{List}
use mathlib.Core.Path.{◌≡◌, sym, ◌∙◌}
use borrow.Author.Tests.{leb-true, le-leb, ltb-true, not-true}
use lib.Dec.{leb, ltb, eqb}
use native.Mathlib.Omega.{arith}
use lib.ListN.{length, get_or, drop, length-map}
use Rattle.ground.specs.Limits.{tallest, blank_key}
use Rattle.ground.specs.Tests.{all, distinct}
use Rattle.ground.proofs.Bools.{and_first, and_second, and_both, not_of_false}
use Rattle.ground.proofs.Tests.{all_at}
use Rattle.ground.proofs.Choice.{cond_ind, cond-true, cond-false}
use Rattle.page.specs.Words.{Page, μ, is_leaf, pointers, value_of, used, pairs_from, view, encode, size}
use Rattle.page.specs.Place.{pointer, has}
use Rattle.page.specs.Sound.{rises, least, good_pointers, no_blank, sound_by_itself}
use Rattle.page.specs.Fits.{Fits}
use Rattle.page.proofs.WordLaws.{encode_μ, view_encode, encode_view, view_μ, encode_behind, zeros_pass}

-- The value P is sound as page p of a pool of n pages.
pub record SoundPage (k n p : ℕ) (P : Page) : Type 0 where
  -- "level 1 to 10"
  pub lowest : 1 ≤ P.level
  pub highest : P.level ≤ tallest
  -- "μ in range"
  pub enough : least k p (is_leaf P) ≤ μ P
  pub room : μ P ≤ 2 * k
  -- "rising keys"
  pub rising : rises P.entries ≡ true
  -- 02 (viii): no "leaf with key 0"
  pub no_blank : is_leaf P ≡ true → has blank_key P.entries ≡ false
  -- "pointers all different and from 1 to N-1"
  pub pointers_apart : is_leaf P ≡ false → distinct (pointers P) ≡ true
  pub pointers_in_pool : is_leaf P ≡ false → all (λ (q : ℕ). leb 1 q && ltb q n) (pointers P) ≡ true
  -- a leaf has no p0
  pub leaf_first : is_leaf P ≡ true → P.first ≡ 0

-- a sound page fits
pub sound_fits : {k n p : ℕ} {P : Page} → SoundPage k n p P → Fits k P
sound_fits s = record { room = s.room; leaf_first = s.leaf_first }

-- what the test tells of a page's words
record Passed (k n p : ℕ) (ws : List ℕ) : Type 0 where
  lowest : 1 ≤ (view ws).level
  highest : (view ws).level ≤ tallest
  enough : least k p (is_leaf (view ws)) ≤ get_or ws 1 0
  room : get_or ws 1 0 ≤ 2 * k
  rising : rises (view ws).entries ≡ true
  unblank : is_leaf (view ws) ≡ true → no_blank (view ws).entries ≡ true
  good : is_leaf (view ws) ≡ false → good_pointers n (pointers (view ws)) ≡ true
  zeros : all (λ (w : ℕ). eqb w 0) (drop (pairs_from (view ws).level + 2 * get_or ws 1 0) ws) ≡ true

passed : (k n p : ℕ) (ws : List ℕ) → sound_by_itself k n p ws ≡ true → Passed k n p ws
unfolding sound_by_itself
passed k n p ws h =
    let P : Page = view ws in
    let a : Bool = leb 1 P.level in
    let b : Bool = leb P.level tallest in
    let c : Bool = leb (least k p (is_leaf P)) (get_or ws 1 0) in
    let d : Bool = leb (get_or ws 1 0) (2 * k) in
    let e : Bool = rises P.entries in
    let f : Bool = cond (is_leaf P) (no_blank P.entries) (good_pointers n (pointers P)) in
    let g : Bool = all (λ (w : ℕ). eqb w 0) (drop (pairs_from P.level + 2 * get_or ws 1 0) ws) in
    let toF = and_first (a && b && (c && d) && e && f) g h in
    let toE = and_first (a && b && (c && d) && e) f toF in
    let toD = and_first (a && b && (c && d)) e toE in
    let toB = and_first (a && b) (c && d) toD in
    let toCD = and_second (a && b) (c && d) toD in
    record {
      lowest = leb-true 1 P.level (and_first a b toB);
      highest = leb-true P.level tallest (and_second a b toB);
      enough = leb-true (least k p (is_leaf P)) (get_or ws 1 0) (and_first c d toCD);
      room = leb-true (get_or ws 1 0) (2 * k) (and_second c d toCD);
      rising = and_second (a && b && (c && d)) e toE;
      unblank = λ leaf. sym (cond-true (no_blank P.entries) (good_pointers n (pointers P)) leaf) ∙ and_second (a && b && (c && d) && e) f toF;
      good = λ upper. sym (cond-false (no_blank P.entries) (good_pointers n (pointers P)) upper) ∙ and_second (a && b && (c && d) && e) f toF;
      zeros = and_second (a && b && (c && d) && e && f) g h;
    }

module _ (k n p : ℕ) (ws : List ℕ) (len : length ws ≡ size k) (test : sound_by_itself k n p ws ≡ true) where
  -- where the test passes, word 1 is the number of pairs
  pub sound_μ : μ (view ws) ≡ get_or ws 1 0
  sound_μ = view_μ k ws len (passed k n p ws test).room

  -- words that pass the test are the words of the page they stand for
  pub sound_words : encode k (view ws) ≡ ws
  unfolding view
  sound_words = encode_view k ws len (passed k n p ws test).room (passed k n p ws test).zeros

  -- words that pass the test stand for a sound page
  pub sound_facts : SoundPage k n p (view ws)
  unfolding view
  sound_facts =
      let t = passed k n p ws test in
      let ps : List ℕ = pointers (view ws) in
      record {
        lowest = t.lowest;
        highest = t.highest;
        enough = rw sound_μ t.enough;
        room = rw sound_μ t.room;
        rising = t.rising;
        no_blank = λ leaf. not-true (has blank_key (view ws).entries) (t.unblank leaf);
        pointers_apart = λ upper. and_first (distinct ps) (all (λ (q : ℕ). leb 1 q && ltb q n) ps) (t.good upper);
        pointers_in_pool = λ upper. and_second (distinct ps) (all (λ (q : ℕ). leb 1 q && ltb q n) ps) (t.good upper);
        leaf_first = λ leaf. cond-true 0 (get_or ws 2 0) leaf;
      }

-- the words of a sound page pass the test
pub sound_test : (k n p : ℕ) (P : Page) → SoundPage k n p P → sound_by_itself k n p (encode k P) ≡ true
unfolding sound_by_itself
sound_test k n p P s =
    rw (view_encode k P (sound_fits s), encode_μ k P)
    (and_both
    (and_both
    (and_both
    (and_both
    (and_both (le-leb 1 P.level s.lowest) (le-leb P.level tallest s.highest))
    (and_both (le-leb (least k p (is_leaf P)) (μ P) s.enough) (le-leb (μ P) (2 * k) s.room)))
    s.rising)
    (cond_ind (λ (b : Bool). b ≡ true) (is_leaf P)
    (λ leaf. not_of_false (s.no_blank leaf))
    (λ upper. and_both (s.pointers_apart upper) (s.pointers_in_pool upper))))
    (rw (encode_behind k P) (zeros_pass (size k - length (used P)))))

-- In a sound page above the leaves each pointer is a page of the pool other than page 0.
pub sound_pointer : {k n p : ℕ} {P : Page} → SoundPage k n p P → is_leaf P ≡ false → (i : ℕ) → i ≤ μ P
    → (1 ≤ pointer i P) × (pointer i P < n)
sound_pointer {n = n} {P = P} s upper i h =
    let q : ℕ = pointer i P in
    let len = length-map P.entries value_of in
    let t = all_at (λ (r : ℕ). leb 1 r && ltb r n) (pointers P) 0 (s.pointers_in_pool upper) i (omega arith) in
    (leb-true 1 q (and_first (leb 1 q) (ltb q n) t), ltb-true q n (and_second (leb 1 q) (ltb q n) t))
