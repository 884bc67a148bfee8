-- The numbers that pass a test, as a mask: as many ones as pass, and below the lowest one as many zeros as its number. Then a walk over
-- a mask, from its lowest number on.
use Prim.Native.Nat.{ℕ, zero, suc, ◌+◌, ◌*◌, ◌/◌, ◌%◌, ◌^◌, ◌≤◌, ◌<◌}
use mathlib.Core.Bool.{Bool, true, false, cond, ◌&&◌}
use mathlib.Core.Path.{◌≡◌, refl, sym, ap, ap₂, ◌∙◌, subst}
use mathlib.Core.Logic.{◌⊎◌, inl, inr, ⊎_elim, ◌≢◌}
use native.Mathlib.Omega.{arith}
use native.Mathlib.Nat.{not-suc-le-zero, le_of_suc-le-suc, eq-or-lt_of_le, le_refl, one-mul, pow-zero, pow-suc, mod-eq_of_lt}
use native.Mathlib.Numerals.{add-one, one-add}
use borrow.Author.Tests.{lt-ltb, ltb-true, ltb-false, leb-true, le-leb, lt-leb}
use lib.Dec.{leb, ltb}
use lib.Bits.{bit_or, block_half, block_odd, shifted_half, shifted_even, or_shifted_r}
use lib.Count.{ones, ones_in, ones_cat, under, count_trailing_zeros, trailing_of_zero}
use lib.Pow.{pow_pos, pow-lt}
use Rattle.ground.specs.Tests.{count_below, first_below}
use Rattle.ground.proofs.Bools.{true_or_false, and_first, and_second, and_first_fails}
use Rattle.ground.proofs.Choice.{cond-true, cond-false}
use Rattle.ground.proofs.Tests.{count_below_passes, count_below_skips, first_below_none, first_below_more, first_below_goes_on, first_below_stops, first_below_most, first_below_passes, first_below_before, first_below_all_fail}
use Rattle.slots.specs.Report.{mask_below}

-- ---- zeros below the lowest one

under_same : (d a b : ℕ) → (d ≡ 0 → a ≡ b) → under d a ≡ under d b
under_same zero a b h = ap suc (h refl)
under_same (suc d) a b h = refl

-- a one above the others changes nothing
trailing_high : (k j r : ℕ) → 0 < r → r < 2 ^ j → count_trailing_zeros k (1 * 2 ^ j + r) ≡ count_trailing_zeros k r
unfolding count_trailing_zeros
trailing_high zero j r some below = refl
trailing_high (suc k) zero r some below = absurd (omega (arith, pow-zero 2))
trailing_high (suc k) (suc j) r some below =
    ap₂ (λ (d m : ℕ). under d (count_trailing_zeros k m)) (block_odd 1 j r) (block_half 1 j r)
    ∙ under_same (r % 2) (count_trailing_zeros k (1 * 2 ^ j + r / 2)) (count_trailing_zeros k (r / 2))
    (λ even. trailing_high k j (r / 2) (omega (arith, even)) (omega (arith, pow-suc 2 j)))

-- below a one that stands alone all are zeros
trailing_alone : (k j : ℕ) → j ≤ k → count_trailing_zeros k (1 * 2 ^ j) ≡ j
unfolding count_trailing_zeros
trailing_alone zero zero h = refl
trailing_alone zero (suc j) h = absurd (not-suc-le-zero h)
trailing_alone (suc k) zero h = refl
trailing_alone (suc k) (suc j) h =
    ap₂ (λ (d m : ℕ). under d (count_trailing_zeros k m)) (shifted_even 1 j) (shifted_half 1 j) ∙ ap suc (trailing_alone k j (le_of_suc-le-suc h))

-- a single bit, in a word of w digits
pub bit_fits : (w n : ℕ) → n < w → 1 * 2 ^ n % 2 ^ w ≡ 1 * 2 ^ n
bit_fits w n inside =
    let short : 1 * 2 ^ n < 2 ^ w = omega (arith, one-mul (2 ^ n), pow-lt inside) in
    mod-eq_of_lt short

module _ (p : ℕ → Bool) where
  pub mask_none : mask_below 0 p ≡ 0
  unfolding mask_below
  mask_none = refl

  mask_passes : (n : ℕ) → p n ≡ true → mask_below (suc n) p ≡ 2 ^ n + mask_below n p
  unfolding mask_below
  mask_passes n h = cond-true (2 ^ n + mask_below n p) (mask_below n p) h

  mask_skips : (n : ℕ) → p n ≡ false → mask_below (suc n) p ≡ mask_below n p
  unfolding mask_below
  mask_skips n h = cond-false (2 ^ n + mask_below n p) (mask_below n p) h

  -- a mask of n numbers has at most n digits
  pub mask_fits : (n : ℕ) → mask_below n p < 2 ^ n
  mask_fits zero = omega (arith, mask_none)
  mask_fits (suc n) =
      ⊎_elim
      (λ h. omega (arith, mask_passes n h, mask_fits n, pow-suc 2 n))
      (λ h. omega (arith, mask_skips n h, mask_fits n, pow-suc 2 n))
      (true_or_false (p n))

  -- one number more, and it passes: its bit is set, in a word of w digits
  pub mask_sets : (w n : ℕ) → n < w → p n ≡ true → bit_or (mask_below n p) (1 * 2 ^ n % 2 ^ w) ≡ mask_below (n + 1) p
  mask_sets w n inside h =
      ap (bit_or (mask_below n p)) (bit_fits w n inside)
      ∙ or_shifted_r 1 n (mask_below n p) (mask_fits n)
      ∙ ap (λ (x : ℕ). x + mask_below n p) (one-mul (2 ^ n))
      ∙ sym (ap (λ (m : ℕ). mask_below m p) (add-one n) ∙ mask_passes n h)

  -- one number more, and it fails
  pub mask_keeps : (n : ℕ) → p n ≡ false → mask_below n p ≡ mask_below (n + 1) p
  mask_keeps n h = sym (ap (λ (m : ℕ). mask_below m p) (add-one n) ∙ mask_skips n h)

  -- as many ones as numbers pass
  pub mask_ones : (n : ℕ) → ones (mask_below n p) ≡ count_below n p
  unfolding ones ones_in mask_below count_below
  mask_ones zero = refl
  mask_ones (suc n) =
      ⊎_elim
      (λ h.
      ap ones (mask_passes n h ∙ ap (λ (x : ℕ). x + mask_below n p) (sym (one-mul (2 ^ n))))
      ∙ ones_cat n 1 (mask_below n p) (mask_fits n)
      ∙ ap (λ (x : ℕ). 1 + x) (mask_ones n)
      ∙ one-add (count_below n p)
      ∙ sym (count_below_passes p n h))
      (λ h. ap ones (mask_skips n h) ∙ mask_ones n ∙ sym (count_below_skips p n h))
      (true_or_false (p n))

  -- ---- the lowest of them

  -- none below n passes, or the lowest that does stands above as many zeros
  Lowest : ℕ → ℕ → Type 0
  Lowest k n =
      ((mask_below n p ≡ 0) × (first_below n p ≡ n))
      ⊎ ((0 < mask_below n p) × (first_below n p < n) × (count_trailing_zeros k (mask_below n p) ≡ first_below n p))

  first_found : (n : ℕ) → first_below n p < n → first_below (suc n) p ≡ first_below n p
  first_found n h = first_below_more p n ∙ cond-true (first_below n p) (cond (p n) n (suc n)) (lt-ltb (first_below n p) n h)

  lowest : (k n : ℕ) → n ≤ k → Lowest k n
  unfolding Lowest
  lowest k zero h = inl (mask_none, first_below_none p)
  lowest k (suc n) h =
      ⊎_elim
      (λ none.
      ⊎_elim
      (λ yes'.
      let alone : mask_below (suc n) p ≡ 1 * 2 ^ n = mask_passes n yes' ∙ omega (arith, none.0, one-mul (2 ^ n)) in
      let first : first_below (suc n) p ≡ n = first_below_stops p (suc n) n (omega arith) none.1 yes' in
      inr (
        omega (arith, alone, pow_pos n),
        omega arith,
        ap (count_trailing_zeros k) alone ∙ trailing_alone k n (omega arith) ∙ sym first,
      ))
      (λ no'. inl (mask_skips n no' ∙ none.0, first_below_goes_on p n none.1 no'))
      (true_or_false (p n)))
      (λ some.
      let same : first_below (suc n) p ≡ first_below n p = first_found n some.1 in
      ⊎_elim
      (λ yes'.
      let more : mask_below (suc n) p ≡ 1 * 2 ^ n + mask_below n p = mask_passes n yes' ∙ omega (arith, one-mul (2 ^ n)) in
      inr (
        omega (arith, more, some.0),
        omega (arith, same, some.1),
        ap (count_trailing_zeros k) more ∙ trailing_high k n (mask_below n p) some.0 (mask_fits n) ∙ some.2 ∙ sym same,
      ))
      (λ no'.
      let keeps : mask_below (suc n) p ≡ mask_below n p = mask_skips n no' in
      inr
      (omega (arith, keeps, some.0), omega (arith, same, some.1), ap (count_trailing_zeros k) keeps ∙ some.2 ∙ sym same))
      (true_or_false (p n)))
      (lowest k n (omega arith))

  -- below the lowest one stand as many zeros as its number, or n where there is none
  pub mask_lowest : (n : ℕ) → count_trailing_zeros n (mask_below n p) ≡ first_below n p
  unfolding Lowest
  mask_lowest n =
      ⊎_elim
      (λ none. ap (count_trailing_zeros n) none.0 ∙ trailing_of_zero n ∙ sym none.1)
      (λ some. some.2)
      (lowest n n (le_refl n))

  -- no number passes: nothing is in the mask
  pub mask_fails : (n : ℕ) → ((i : ℕ) → i < n → p i ≡ false) → mask_below n p ≡ 0
  mask_fails zero f = mask_none
  mask_fails (suc n) f = mask_skips n (f n (omega arith)) ∙ mask_fails n (λ i b. f i (omega arith))

  -- and the other way
  pub mask_empty : (n : ℕ) → mask_below n p ≡ 0 → (i : ℕ) → i < n → p i ≡ false
  mask_empty n e = first_below_all_fail p n (sym (mask_lowest n) ∙ ap (count_trailing_zeros n) e ∙ trailing_of_zero n)

-- two tests that agree below n have one mask
pub mask_same : (p q : ℕ → Bool) (n : ℕ) → ((i : ℕ) → i < n → p i ≡ q i) → mask_below n p ≡ mask_below n q
unfolding mask_below
mask_same p q zero f = refl
mask_same p q (suc n) f =
    ap₂ (λ (b : Bool) (m : ℕ). cond b (2 ^ n + m) m) (f n (omega arith)) (mask_same p q n (λ i l. f i (omega arith)))

-- ---- a test with one passing number taken out: q is p, but that a fails

module _ (p q : ℕ → Bool) (a : ℕ) (passed : p a ≡ true) (fails : q a ≡ false) where
  -- the mask loses its bit
  pub mask_less : (n : ℕ) → a < n → ((i : ℕ) → i < n → i ≢ a → q i ≡ p i) → mask_below n p ≡ 2 ^ a + mask_below n q
  mask_less zero h same = absurd (not-suc-le-zero h)
  mask_less (suc n) h same =
      ⊎_elim
      (λ e. let before = mask_same q p n (λ i l. same i (omega arith) (omega arith)) in
      omega (arith, mask_passes p n (sym (ap p e) ∙ passed), mask_skips q n (sym (ap q e) ∙ fails), ap (λ (x : ℕ). 2 ^ x) e))
      (λ l. let less = mask_less n l (λ i b. same i (omega arith)) in
      let agree = same n (omega arith) (omega arith) in
      ⊎_elim
      (λ t. omega (arith, mask_passes p n t, mask_passes q n (agree ∙ t)))
      (λ f. omega (arith, mask_skips p n f, mask_skips q n (agree ∙ f)))
      (true_or_false (p n)))
      (eq-or-lt_of_le (le_of_suc-le-suc h))

-- ---- a walk over a mask, from its lowest number on

module _ (p : ℕ → Bool) where
  -- the numbers from b on that pass
  abbrev pub from : ℕ → ℕ → Bool
  from b i = leb b i && p i

  -- the lowest number of what is left is the next
  pub record Next (b s : ℕ) : Type 0 where
    pub inside : s < 16
    pub passed : p s ≡ true
    pub between : (i : ℕ) → b ≤ i → i < s → p i ≡ false
    pub taken : mask_below 16 (from b) ≡ 2 ^ s + mask_below 16 (from (s + 1))

  pub next_of : (b s : ℕ) → mask_below 16 (from b) ≢ 0 → s ≡ count_trailing_zeros 16 (mask_below 16 (from b)) → Next b s
  next_of b s some e =
      let first : s ≡ first_below 16 (from b) = e ∙ mask_lowest (from b) 16 in
      let most : s ≤ 16 = omega (arith, first, first_below_most (from b) 16) in
      let inside : s < 16 =
      ⊎_elim
      (λ f. absurd (some (mask_fails (from b) 16 (first_below_all_fail (from b) 16 (sym first ∙ f)))))
      (λ l. l)
      (eq-or-lt_of_le most) in
      let here : from b s ≡ true = ap (from b) first ∙ first_below_passes (from b) 16 (subst (λ (x : ℕ). x < 16) first inside) in
      let low : b ≤ s = leb-true b s (and_first (leb b s) (p s) here) in
      let none : (i : ℕ) → i < s → from b i ≡ false = λ i l. first_below_before (from b) 16 i (subst (λ (x : ℕ). i < x) first l) in
      record {
        inside = inside;
        passed = and_second (leb b s) (p s) here;
        between = λ i h l. sym (ap (λ (t : Bool). t && p i) (le-leb b i h)) ∙ none i l;
        taken = mask_less (from b) (from (s + 1)) s here (and_first_fails (p s) (lt-leb (s + 1) s (omega arith))) 16 inside
            (λ i _ n.
            ⊎_elim
            (λ t. and_first_fails (p i) (lt-leb (s + 1) i (omega (arith, ltb-true i s t))) ∙ sym (none i (ltb-true i s t)))
            (λ f. ap (λ (t : Bool). t && p i) (le-leb (s + 1) i (omega (arith, ltb-false i s f)) ∙ sym (le-leb b i (omega (arith, ltb-false i s f)))))
            (true_or_false (ltb i s)));
      }
