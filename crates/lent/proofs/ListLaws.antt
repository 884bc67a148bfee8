-- Laws of lists given by a function of the place.
use Prim.Native.Nat.{ℕ, zero, suc, ◌<◌}
use mathlib.Core.Path.{◌≡◌, refl, sym, ap, ap₂, ◌∙◌}
use mathlib.Core.List.{List, [], ◌∷◌, ◌++◌}
use mathlib.Core.Logic.{◌≢◌, ⊎_elim}
use native.Mathlib.Omega.{arith}
use native.Mathlib.Nat.{not-suc-le-zero}
use lib.ListN.{length, get_or, set, length-append, length-set, get_or-append}
use lib.Seq.{ext_get_or, get_or_at, get_or-set_same, get_or-set_other}
use Rattle.ground.proofs.Tests.{below_or_at}
use Rattle.slots.proofs.OrderLaws.{same_or_not}
use Rattle.lent.specs.Words.{list_of}

module _ {A : Type 0} where
  pub length_list_of : (n : ℕ) (f : ℕ → A) → length (list_of n f) ≡ n
  unfolding list_of
  length_list_of zero f = refl
  length_list_of (suc n) f = length-append (list_of n f) (f n ∷ []) ∙ omega (arith, length_list_of n f)

  pub get_d_list_of : (n : ℕ) (f : ℕ → A) (i : ℕ) (d : A) → i < n → get_or (list_of n f) i d ≡ f i
  unfolding list_of
  get_d_list_of zero f i d h = absurd (not-suc-le-zero h)
  get_d_list_of (suc n) f i d h =
      below_or_at (λ (j : ℕ). get_or (list_of n f ++ f n ∷ []) j d ≡ f j) h
      (λ b. get_or-append (list_of n f) (f n ∷ []) d i (omega (arith, length_list_of n f)) ∙ get_d_list_of n f i d b)
      (get_or_at (list_of n f) (f n) [] d n (length_list_of n f))

  -- two functions that agree give the same list
  pub list_of_same : (n : ℕ) (f g : ℕ → A) → ((i : ℕ) → i < n → f i ≡ g i) → list_of n f ≡ list_of n g
  unfolding list_of
  list_of_same zero f g h = refl
  list_of_same (suc n) f g h =
      ap₂ (λ (l : List A) (x : A). l ++ x ∷ []) (list_of_same n f g (λ i b. h i (omega arith))) (h n (omega arith))

  -- a list is what its places give
  pub list_of_get_d : (l : List A) (d : A) (n : ℕ) → length l ≡ n → list_of n (λ (i : ℕ). get_or l i d) ≡ l
  list_of_get_d l d n e =
      ext_get_or d (list_of n (λ (i : ℕ). get_or l i d)) l (length_list_of n (λ (i : ℕ). get_or l i d) ∙ sym e)
      (λ i h. get_d_list_of n (λ (j : ℕ). get_or l j d) i d (omega (arith, length_list_of n (λ (j : ℕ). get_or l j d))))

  -- one place set
  pub list_of_set : (n : ℕ) (f g : ℕ → A) (s : ℕ) (x d : A) → s < n → g s ≡ x → ((i : ℕ) → i < n → i ≢ s → g i ≡ f i) → list_of n g ≡ set (list_of n f) s x
  list_of_set n f g s x d h here other =
      let long : length (list_of n f) ≡ n = length_list_of n f in
      ext_get_or d (list_of n g) (set (list_of n f) s x) (length_list_of n g ∙ sym (length-set (list_of n f) s x ∙ long))
      (λ i b. let c : i < n = omega (arith, length_list_of n g) in
      get_d_list_of n g i d c
      ∙ ⊎_elim
      (λ e. ap g e ∙ here ∙ sym (ap (λ (j : ℕ). get_or (set (list_of n f) s x) j d) e ∙ get_or-set_same (list_of n f) s x d (omega arith)))
      (λ u. other i c u ∙ sym (get_or-set_other (list_of n f) s i x d u ∙ get_d_list_of n f i d c))
      (same_or_not i s))
