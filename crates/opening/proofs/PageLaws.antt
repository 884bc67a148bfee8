-- A page of a pool each page of which is sound by itself: it is all zeros, or it is on a level and can be read. And its keys in a range.
use Prim.Native.Nat.{ℕ, ◌-◌, ◌≤◌, ◌<◌}
use mathlib.Core.Bool.{Bool, true, false, not, ◌&&◌}
use mathlib.Core.List.{List}
use mathlib.Core.Logic.{◌≢◌, ⊎_elim}
use mathlib.Core.Path.{◌≡◌, sym, ap, ◌∙◌}
use native.Mathlib.Omega.{arith}
use borrow.Author.Tests.{ltb-true, ltb-false, le-leb, lt-ltb, lt-leb, eqb-true}
use lib.Dec.{leb, ltb, eqb}
use lib.ListN.{length, get_or}
use Rattle.ground.specs.Tests.{all}
use Rattle.ground.proofs.Bools.{and_second, and_both, and_first_fails, or_cases, same_if_true_together}
use Rattle.ground.proofs.Choice.{by_test}
use Rattle.ground.proofs.Tests.{all_at, all_from, all_stops}
use Rattle.page.specs.Words.{Entry, entry}
use Rattle.page.specs.Reading.{Readable}
use Rattle.page.specs.Sound.{rises, sound_by_itself}
use Rattle.page.proofs.ReadingLaws.{view_level, sound_readable}
use Rattle.page.proofs.RiseLaws.{key_at, rises_at}
use Rattle.page.proofs.SoundPage.{SoundPage, sound_facts}
use Rattle.pool.specs.Pool.{pool_length, words_of, page_at}
use Rattle.pool.specs.Wrapped.{InPool}
use Rattle.pool.proofs.StretchLaws.{length_words_of}
use Rattle.opening.specs.Opening.{is_zero, sound_alone, within}
use Rattle.opening.specs.Marks.{Walk}

-- ---- all zeros, or on a level

module _ (k n : ℕ) (ws : List ℕ) (p : ℕ) (inside : p < n) (whole : length ws ≡ pool_length k n) where
  -- a page that is all zeros is on no level
  pub zero_level : is_zero k ws p ≡ true → (page_at k ws p).level ≡ 0
  unfolding page_at
  zero_level z =
      let long = length_words_of k n p ws inside whole in
      view_level (words_of k p ws)
      ∙ eqb-true (get_or (words_of k p ws) 0 0) 0 (all_at (λ (w : ℕ). eqb w 0) (words_of k p ws) 0 z 0 (omega arith))

  -- a page that is sound by itself as a page of the tree is on a level,
  pub level_sound : sound_by_itself k n p (words_of k p ws) ≡ true → SoundPage k n p (page_at k ws p)
  unfolding page_at
  level_sound s = sound_facts k n p (words_of k p ws) (length_words_of k n p ws inside whole) s

  module _ (alone : sound_alone k n ws p ≡ true) where
    -- and the two are all that there is
    pub on_level : (page_at k ws p).level ≢ 0 → sound_by_itself k n p (words_of k p ws) ≡ true
    on_level some =
        ⊎_elim (λ s. s)
        (λ z. absurd (some (zero_level (and_second (not (eqb p 0)) (is_zero k ws p) z))))
        (or_cases (sound_by_itself k n p (words_of k p ws)) (not (eqb p 0) && is_zero k ws p) alone)

    pub on_none : (page_at k ws p).level ≡ 0 → is_zero k ws p ≡ true
    on_none none =
        ⊎_elim
        (λ s. let low = (level_sound s).lowest in absurd (omega arith))
        (λ z. and_second (not (eqb p 0)) (is_zero k ws p) z)
        (or_cases (sound_by_itself k n p (words_of k p ws)) (not (eqb p 0) && is_zero k ws p) alone)

-- ---- a page that is met

module _ {k n : ℕ} {ws : List ℕ} {p : ℕ} (walk : Walk k n ws p) where
  pub in_pool : InPool k n p ws
  in_pool = record {
    width = walk.pool.handed.width;
    most = walk.pool.handed.most;
    whole = walk.pool.handed.whole;
    inside = walk.inside;
  }

  module _ (some : (page_at k ws p).level ≢ 0) where
    itself : sound_by_itself k n p (words_of k p ws) ≡ true
    itself = on_level k n ws p walk.inside walk.pool.handed.whole (walk.pool.sound p walk.inside) some

    pub can_read : Readable (words_of k p ws)
    can_read = sound_readable k n p (words_of k p ws) (length_words_of k n p ws walk.inside walk.pool.handed.whole) itself

    pub page_sound : SoundPage k n p (page_at k ws p)
    page_sound = level_sound k n ws p walk.inside walk.pool.handed.whole itself

-- ---- keys in a range

-- where keys rise, a later one is no lower
no_lower : (es : List Entry) → rises es ≡ true → (i j : ℕ) → i ≤ j → j < length es → key_at i es ≤ key_at j es
no_lower es up i j l h =
    by_test (ltb i j)
    (λ y. let less = rises_at es up i j (ltb-true i j y) h in omega arith)
    (λ z. let same : key_at i es ≡ key_at j es = ap (λ (m : ℕ). key_at m es) (omega (arith, ltb-false i j z)) in omega arith)

module _ (lo hi : ℕ) where
  abbrev in_range : Entry → Bool
  in_range e = leb lo e.key && ltb e.key hi

  -- no key lies outside,
  pub within_none : (es : List Entry) → length es ≡ 0 → true ≡ within lo hi es
  unfolding within
  within_none es none = sym (all_from in_range es (entry 0 0) (λ i h. absurd (omega arith)))

  -- the first key lies before the range,
  pub within_low : (es : List Entry) → 0 < length es → key_at 0 es < lo → false ≡ within lo hi es
  unfolding within
  within_low es some low = sym (all_stops in_range es (entry 0 0) 0 some (and_first_fails (ltb (key_at 0 es) hi) (lt-leb lo (key_at 0 es) low)))

  -- and where it does not, the last one tells, since keys rise.
  pub within_ends : (es : List Entry) → rises es ≡ true → 0 < length es → lo ≤ key_at 0 es → ltb (key_at (length es - 1) es) hi ≡ within lo hi es
  unfolding within
  within_ends es up some low =
      same_if_true_together (ltb (key_at (length es - 1) es) hi) (all in_range es)
      (λ y. all_from in_range es (entry 0 0) (λ i h. each (ltb-true (key_at (length es - 1) es) hi y) i h))
      (λ a. and_second (leb lo (key_at (length es - 1) es)) (ltb (key_at (length es - 1) es) hi) (all_at in_range es (entry 0 0) a (length es - 1) (omega arith)))
    where
      each : key_at (length es - 1) es < hi → (i : ℕ) → i < length es → in_range (get_or es i (entry 0 0)) ≡ true
      each high i h =
          let front = no_lower es up 0 i (omega arith) h in
          let back = no_lower es up i (length es - 1) (omega arith) (omega arith) in
          and_both (le-leb lo (key_at i es) (omega arith)) (lt-ltb (key_at i es) hi (omega arith))
