-- The rule's tests of a pool that is handed in, by demand 1's plain terms: each page by itself, the lowest that is not sound, the tree.
use Prim.Native.Nat.{ℕ, ◌<◌}
use mathlib.Core.Bool.{Bool, true, false, not, ◌&&◌}
use mathlib.Core.List.{List}
use mathlib.Core.Logic.{inl, inr, ⊎_elim}
use mathlib.Core.Path.{◌≡◌, ap, ◌∙◌}
use native.Mathlib.Omega.{arith}
use lib.Dec.{eqb}
use lib.ListN.{replicate}
use borrow.Author.Tests.{eqb-false, ne_eqb, not-true, not-false}
use Rattle.ground.specs.Limits.{blank_key}
use Rattle.ground.specs.Tests.{all, first_below}
use Rattle.ground.proofs.Bools.{not_both, false_if_not_true, and_first, and_second, and_both, or_first, or_second, or_cases, not_of_true, not_of_false}
use Rattle.ground.proofs.Tests.{first_below_passes, first_below_before, first_below_found}
use Rattle.page.specs.Words.{size}
use Rattle.page.specs.Place.{has}
use Rattle.page.specs.Sound.{sound_by_itself}
use Rattle.page.proofs.WordLaws.{all_zero, zeros_pass}
use Rattle.pool.specs.Pool.{words_of, page_at}
use Rattle.pool.proofs.StretchLaws.{length_words_of}
use Rattle.opening.specs.Opening.{is_zero, sound_alone, lowest_unsound, is_tree}
use Rattle.opening.proofs.CheckLaws.{none_unsound, none_from}
use Rattle.tree.specs.Tree.{Tr, entries_of, PoolForms}
use Rattle.tree.proofs.Words.{outside_words}
use Rattle.tree.proofs.Opening.{opening_forms, forms_opening}
use Rattle.runs.proofs.PlainLaws.{missing_has, has_missing}
use Rattle.promises.specs.Terms.{Exactly}
use Rattle.promises.specs.Demand1.{MakingInRange, AloneSound, LowestUnsound, FormsTree}
use Rattle.promises.proofs.SoundPages.{page_told, page_from}

-- the test by which the lowest page is found
abbrev unsound_at : ℕ → ℕ → List ℕ → ℕ → Bool
unsound_at k n ws p = not (sound_alone k n ws p)

-- with the tree that the words form, what demand 1 asks of it
pub forms_tree : (k n : ℕ) (ws : List ℕ) (l : ℕ) (t : Tr l) → PoolForms k n ws l t → has blank_key (entries_of l t) ≡ false → FormsTree k n ws
forms_tree k n ws l t forms unblank = record {
  height = l;
  tree = t;
  forms = forms;
  free = outside_words k n ws l t forms;
  no_blank = has_missing blank_key (entries_of l t) unblank;
}

module _ (k n : ℕ) (ws : List ℕ) (range : MakingInRange k n ws) where
  -- ---- each page by itself

  alone_is : (p : ℕ) → p < n → Exactly (sound_alone k n ws p ≡ true) (AloneSound k n ws p)
  unfolding page_at
  alone_is p in_pool = (
    (λ t. ⊎_elim
        (λ s. inr (page_told k n p (words_of k p ws) s))
        (λ z. inl (
          eqb-false p 0 (not-true (eqb p 0) (and_first (not (eqb p 0)) (is_zero k ws p) z)),
          all_zero (words_of k p ws) (and_second (not (eqb p 0)) (is_zero k ws p) z)
              ∙ ap (λ (m : ℕ). replicate m 0) (length_words_of k n p ws in_pool range.words),
        ))
        (or_cases (sound_by_itself k n p (words_of k p ws)) (not (eqb p 0) && is_zero k ws p) t)),
    ⊎_elim
        (λ z. or_second (sound_by_itself k n p (words_of k p ws))
        (and_both (not_of_false (ne_eqb p 0 z.0)) (ap (all (λ (w : ℕ). eqb w 0)) z.1 ∙ zeros_pass (size k))))
        (λ s. or_first (not (eqb p 0) && is_zero k ws p) (page_from k n p (words_of k p ws) s)),
  )

  -- the lowest page that is not sound is found
  pub lowest_told : lowest_unsound k n ws < n → LowestUnsound k n ws (lowest_unsound k n ws)
  unfolding lowest_unsound
  lowest_told found =
      let low : ℕ = first_below n (unsound_at k n ws) in
      record {
        in_pool = found;
        unsound = λ s. not_both ((alone_is low found).1 s) (not-true (sound_alone k n ws low) (first_below_passes (unsound_at k n ws) n found));
        lower = λ q below. (alone_is q (omega arith)).0 (not-false (sound_alone k n ws q) (first_below_before (unsound_at k n ws) n q below));
      }

  pub lowest_is : (p : ℕ) → LowestUnsound k n ws p → lowest_unsound k n ws ≡ p
  unfolding lowest_unsound
  lowest_is p h =
      first_below_found (unsound_at k n ws) n p h.in_pool
      (not_of_false (false_if_not_true (sound_alone k n ws p) (λ t. h.unsound ((alone_is p h.in_pool).0 t))))
      (λ q below. not_of_true ((alone_is q (omega (arith, h.in_pool))).1 (h.lower q below)))

  -- there is none exactly if every page is sound
  pub none_told : lowest_unsound k n ws ≡ n → (q : ℕ) → q < n → AloneSound k n ws q
  none_told none q in_pool = (alone_is q in_pool).0 (none_unsound k n ws none q in_pool)

  pub none_is : ((q : ℕ) → q < n → AloneSound k n ws q) → lowest_unsound k n ws ≡ n
  none_is sound = none_from k n ws (λ q in_pool. (alone_is q in_pool).1 (sound q in_pool))

  -- ---- the tree

  pub tree_told : lowest_unsound k n ws ≡ n → is_tree k n ws ≡ true → FormsTree k n ws
  tree_told none test =
      let a = opening_forms k n ws range.n_least range.words none test in
      forms_tree k n ws a.height a.tree a.forms a.no_blank

  pub tree_is : FormsTree k n ws → (lowest_unsound k n ws ≡ n) × (is_tree k n ws ≡ true)
  tree_is f =
      forms_opening k n ws f.height f.tree range.k_least range.n_most f.forms
      (missing_has blank_key (entries_of f.height f.tree) f.no_blank)
