-- A page's value read from its words: pair i of the value is the two words at its place, and pi the word before the next key.
use Prim.Native.Nat.{ℕ, zero, suc, ◌+◌, ◌-◌, ◌*◌, ◌/◌, ◌≤◌, ◌<◌}
use mathlib.Core.Bool.{true, false}
use mathlib.Core.List.{List, [], ◌∷◌}
use mathlib.Core.Logic.{◌≢◌, ⊎_elim}
use mathlib.Core.Path.{◌≡◌, refl, sym, ap, ◌∙◌, subst}
use native.Mathlib.Nat.{not-suc-le-zero}
use native.Mathlib.Omega.{arith}
use borrow.Author.Tests.{lt-ltb, le-ltb, eqb-true, eqb-false}
use lib.Dec.{eqb}
use lib.ListN.{length, get_or, drop, length-drop, length-map, get_or-map, drop_of_length-le}
use lib.Seq.{get_or-drop, drop-cons}
use Rattle.ground.proofs.Bools.{false_if_not_true, true_or_false}
use Rattle.ground.proofs.Choice.{cond-true, cond-false}
use Rattle.page.specs.Words.{Entry, Page, entry, key_of, value_of, μ, is_leaf, pointers, pairs, pairs_from, view, size}
use Rattle.page.specs.Place.{place, pointer, has, information, at_or_above}
use Rattle.page.specs.Splits.{entry_at}
use Rattle.page.specs.Sound.{rises, sound_by_itself}
use Rattle.page.specs.Reading.{Readable, FirstFrom, looked}
use Rattle.page.specs.Short.{has_right, between_at, neighbour}
use Rattle.std.specs.Prelude.{Some, None}
use Rattle.page.proofs.RiseLaws.{key_at, rises_at}
use Rattle.page.proofs.PlaceLaws.{place_most, place_before, place_behind, has_from, has_place, information_at, above_first, above_later}
use Rattle.page.proofs.HalvingLaws.{Passes, Untold, half_told}
use Rattle.page.proofs.WordLaws.{length_pairs, pairs_from_most}
use Rattle.page.proofs.SoundPage.{sound_μ, sound_facts}

-- the level is word 0
pub view_level : (ws : List ℕ) → (view ws).level ≡ get_or ws 0 0
unfolding view
view_level ws = refl

-- above the leaves the pairs begin behind p0
pub upper_from : (ws : List ℕ) → is_leaf (view ws) ≡ false → pairs_from (get_or ws 0 0) ≡ 3
unfolding view
upper_from ws upper = cond-false 2 3 upper

-- pair i of some words is the two words at 2i
pub pairs_at : (m : ℕ) (ws : List ℕ) (i : ℕ) → i < m → 2 * m ≤ length ws
    → entry_at i (pairs m ws) ≡ entry (get_or ws (2 * i) 0) (get_or ws (2 * i + 1) 0)
unfolding pairs
pairs_at zero ws i l h = absurd (not-suc-le-zero l)
pairs_at (suc m) [] i l h = absurd (omega arith)
pairs_at (suc m) (x ∷ []) i l h = absurd (omega arith)
pairs_at (suc m) (x ∷ (v ∷ ws)) zero l h = refl
pairs_at (suc m) (x ∷ (v ∷ ws)) (suc i) l h =
    let key : 2 * suc i ≡ suc (suc (2 * i)) = omega arith in
    let value : 2 * suc i + 1 ≡ suc (suc (2 * i + 1)) = omega arith in
    rw (value, key) (pairs_at m ws i (omega arith) (omega arith))

module _ (ws : List ℕ) (r : Readable ws) where
  -- the words behind the start of the pairs hold them all
  enough : 2 * get_or ws 1 0 ≤ length (drop (pairs_from (get_or ws 0 0)) ws)
  enough = omega (arith, r.inside, length-drop (pairs_from (get_or ws 0 0)) ws)

  -- there are as many pairs as word 1 says
  pub readable_μ : μ (view ws) ≡ get_or ws 1 0
  unfolding view
  readable_μ = length_pairs (get_or ws 1 0) (drop (pairs_from (get_or ws 0 0)) ws) enough

  -- the key of pair i
  pub key_word : (from i : ℕ) → from ≡ pairs_from (get_or ws 0 0) → i < get_or ws 1 0
      → (entry_at i (view ws).entries).key ≡ get_or ws (from + 2 * i) 0
  unfolding view
  key_word from i e h =
      rw e
      (ap key_of (pairs_at (get_or ws 1 0) (drop (pairs_from (get_or ws 0 0)) ws) i h enough)
      ∙ get_or-drop (pairs_from (get_or ws 0 0)) ws (2 * i) 0)

  -- what stands behind the key of pair i
  pub value_word : (from i : ℕ) → from ≡ pairs_from (get_or ws 0 0) → i < get_or ws 1 0
      → (entry_at i (view ws).entries).value ≡ get_or ws (from + 2 * i + 1) 0
  unfolding view
  value_word from i e h =
      let next : pairs_from (get_or ws 0 0) + (2 * i + 1) ≡ from + 2 * i + 1 = omega arith in
      ap value_of (pairs_at (get_or ws 1 0) (drop (pairs_from (get_or ws 0 0)) ws) i h enough)
      ∙ get_or-drop (pairs_from (get_or ws 0 0)) ws (2 * i + 1) 0
      ∙ ap (λ (n : ℕ). get_or ws n 0) next

  -- the key in the middle, read where it stands, tells one half of the keys from x
  pub middle_told : (x from low left p : ℕ) → from ≡ pairs_from (get_or ws 0 0) → rises (view ws).entries ≡ true
      → Untold (get_or ws 1 0) x (view ws).entries low left → 0 < left → Passes (get_or ws (from + 2 * (low + left / 2)) 0) x p
      → Untold (get_or ws 1 0) x (view ws).entries (low + (left / 2 + 1) * p) ((left - p) / 2)
  middle_told x from low left p e t u some told =
      half_told (get_or ws 1 0) x (view ws).entries readable_μ t low left p u some
      (rw (key_word from (low + left / 2) e (omega arith)) told)

  -- the word of pi is there
  pub pointer_inside : is_leaf (view ws) ≡ false → (i : ℕ) → i ≤ get_or ws 1 0 → 2 + 2 * i < length ws
  pointer_inside upper i h = omega (arith, upper_from ws upper, r.inside)

  -- above the leaves pi is the word before the key of pair i
  pub pointer_word : is_leaf (view ws) ≡ false → (i : ℕ) → i ≤ get_or ws 1 0 → pointer i (view ws) ≡ get_or ws (2 + 2 * i) 0
  unfolding view
  pointer_word upper zero h = cond-false 0 (get_or ws 2 0) upper
  pointer_word upper (suc i) h =
      let at : 3 + 2 * i + 1 ≡ 2 + 2 * suc i = omega arith in
      get_or-map value_of (view ws).entries i (entry 0 0)
      ∙ value_word 3 i (sym (upper_from ws upper)) h
      ∙ ap (λ (n : ℕ). get_or ws n 0) at

  -- p0 and one pointer for each pair
  pub length_pointers : length (pointers (view ws)) ≡ suc (get_or ws 1 0)
  length_pointers = ap suc (length-map (view ws).entries value_of ∙ readable_μ)

-- a page's words with μ in range are readable
pub readable : (k : ℕ) (ws : List ℕ) → length ws ≡ size k → get_or ws 1 0 ≤ 2 * k → Readable ws
readable k ws len room =
    let most = pairs_from_most (get_or ws 0 0) in
    record { three = omega arith; inside = omega arith }

-- the words of a page that is sound by itself are readable
pub sound_readable : (k n p : ℕ) (ws : List ℕ) → length ws ≡ size k → sound_by_itself k n p ws ≡ true → Readable ws
sound_readable k n p ws len test =
    let m = sound_μ k n p ws len test in
    let room = (sound_facts k n p ws len test).room in
    readable k ws len (omega arith)

-- ---- one look, at the entry just before x's place i

-- nothing stands under a key that is not there
pub look_none : (x : ℕ) (es : List Entry) → has x es ≡ false → None ≡ looked x es
look_none x es none = sym (cond-false (Some (information x es)) None none)

module _ (x i : ℕ) (es : List Entry) (e : i ≡ place x es) (t : rises es ≡ true) where
  -- there is no entry before it
  pub none_before : i ≡ 0 → has x es ≡ false
  none_before z = false_if_not_true (has x es) (λ y. let some = (has_place x es t y).0 in absurd (omega arith))

  -- another key stands there
  pub other_before : (key_at (i - 1) es ≡ x → ⊥) → has x es ≡ false
  other_before d = false_if_not_true (has x es) (λ y. d (ap (λ (j : ℕ). key_at (j - 1) es) e ∙ (has_place x es t y).1))

  -- x stands there, and behind it its information
  module _ (some : i ≡ 0 → ⊥) (same : key_at (i - 1) es ≡ x) where
    within : i - 1 < length es
    within = omega (arith, place_most x es)

    pub key_before : has x es ≡ true
    key_before = has_from x es (i - 1) within same

    pub look_there : Some (entry_at (i - 1) es).value ≡ looked x es
    look_there =
        ap Some (sym (information_at x es t (i - 1) within same))
        ∙ sym (cond-true (Some (information x es)) None key_before)

-- ---- the first entry at or above x

-- those before it are below x
above_behind_all : (x : ℕ) (es : List Entry) (i : ℕ) → i ≤ length es → ((j : ℕ) → j < i → key_at j es < x) → at_or_above x es ≡ at_or_above x (drop i es)
above_behind_all x es zero h low = refl
above_behind_all x [] (suc i) h low = absurd (not-suc-le-zero h)
above_behind_all x (e ∷ es) (suc i) h low =
    above_later x e es (low 0 (omega arith)) ∙ above_behind_all x es i (omega arith) (λ j l. low (suc j) (omega arith))

module _ (x : ℕ) (es : List Entry) (i : ℕ) (first : FirstFrom x es i) where
  -- there is one
  pub above_found : i < length es → at_or_above x es ≡ entry_at i es ∷ drop (suc i) es
  above_found h =
      above_behind_all x es i first.within first.before
      ∙ ap (at_or_above x) (drop-cons es i (entry 0 0) h)
      ∙ above_first x (entry_at i es) (drop (suc i) es) (first.here h)

  -- there is none
  pub above_none : length es ≤ i → at_or_above x es ≡ []
  unfolding at_or_above
  above_none h = above_behind_all x es i first.within first.before ∙ ap (at_or_above x) (drop_of_length-le es h)

-- Rising keys, and the place of x among them.
module _ (x : ℕ) (es : List Entry) (rise : rises es ≡ true) (i : ℕ) (e : i ≡ place x es) where
  -- no key is at most x
  pub first_of_all : i ≡ 0 → FirstFrom x es i
  first_of_all none = record {
    within = omega arith;
    before = λ j l. absurd (omega arith);
    here = λ h. let high = place_behind x es rise i (omega arith) h in omega arith;
  }

  -- x stands just before its place
  pub first_itself : i ≢ 0 → key_at (i - 1) es ≡ x → FirstFrom x es (i - 1)
  first_itself some is = record {
    within = omega (arith, place_most x es);
    before = λ j l. let less = rises_at es rise j (i - 1) l (omega (arith, place_most x es)) in omega (arith, less, is);
    here = λ h. omega (arith, is);
  }

  -- another key does
  pub first_behind : i ≢ 0 → key_at (i - 1) es ≢ x → FirstFrom x es i
  first_behind some other = record {
    within = omega (arith, place_most x es);
    before = λ j l. below_last j l;
    here = λ h. let high = place_behind x es rise i (omega arith) h in omega arith;
  }
    where
      last_below : key_at (i - 1) es < x
      last_below = let low = place_before x es rise (i - 1) (omega arith) in omega (arith, other)

      below_last : (j : ℕ) → j < i → key_at j es < x
      below_last j l =
          ⊎_elim
          (λ y. subst (λ (m : ℕ). key_at m es < x) (sym (eqb-true j (i - 1) y)) last_below)
          (λ f.
          let other-one = eqb-false j (i - 1) f in
          let rising = rises_at es rise j (i - 1) (omega arith) (omega (arith, place_most x es)) in
          omega (arith, last_below))
          (true_or_false (eqb j (i - 1)))

-- ---- the neighbour of the page to which a father F of m reference keys routes x, at place i

module _ (x i m : ℕ) (F : Page) (e : i ≡ place x F.entries) (n : m ≡ μ F) where
  -- it has a right neighbour
  right_there : i < m → has_right x F ≡ true
  right_there h = lt-ltb (place x F.entries) (μ F) (omega arith)

  -- it has none
  right_missing : m ≤ i → has_right x F ≡ false
  right_missing h = le-ltb (place x F.entries) (μ F) (omega arith)

  -- the key between the page and its right neighbour stands at its place
  pub between_right : i < m → i ≡ between_at x F
  unfolding between_at
  between_right h = e ∙ sym (cond-true (place x F.entries) (place x F.entries - 1) (right_there h))

  -- the key between the page and its left neighbour stands just before its place
  pub between_left : m ≤ i → i - 1 ≡ between_at x F
  unfolding between_at
  between_left h =
      ap (λ (j : ℕ). j - 1) e ∙ sym (cond-false (place x F.entries) (place x F.entries - 1) (right_missing h))

  -- the right neighbour is the next pointer
  pub neighbour_right : i < m → pointer (i + 1) F ≡ neighbour x F
  unfolding neighbour
  neighbour_right h =
      let p : ℕ = place x F.entries in
      let next : i + 1 ≡ suc p = omega arith in
      ap (λ (j : ℕ). pointer j F) next ∙ sym (cond-true (pointer (suc p) F) (pointer (p - 1) F) (right_there h))

  -- the left neighbour is the pointer before
  pub neighbour_left : m ≤ i → pointer (i - 1) F ≡ neighbour x F
  unfolding neighbour
  neighbour_left h =
      let p : ℕ = place x F.entries in
      ap (λ (j : ℕ). pointer (j - 1) F) e ∙ sym (cond-false (pointer (suc p) F) (pointer (p - 1) F) (right_missing h))
