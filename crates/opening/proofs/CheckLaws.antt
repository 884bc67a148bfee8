-- What the check comes to: by the scan, and where every page is sound by itself, by the walk.
use Prim.Native.Nat.{ℕ, ◌≤◌, ◌<◌}
use mathlib.Core.Bool.{Bool, true, false, cond, not, true≢false}
use mathlib.Core.List.{List}
use mathlib.Core.Path.{◌≡◌, sym, ap, ◌∙◌}
use native.Mathlib.Omega.{arith}
use lib.Dec.{ltb}
use borrow.Author.Tests.{lt-ltb, le-ltb, ltb-false, not-false}
use Rattle.std.specs.Prelude.{Ok, Err, Result, ⊤, Option, Some, None, is_some, is_none, unwrap_or}
use Rattle.opening.specs.declared.checking.Fault.{Fault}
use Rattle.ground.specs.Tests.{first_below}
use Rattle.ground.proofs.Bools.{not_of_true, not_of_false, false_if_not_true}
use Rattle.ground.proofs.Choice.{cond-true, cond-false}
use Rattle.ground.proofs.Tests.{first_below_most, first_below_stops, first_below_fails, first_below_all_fail}
use Rattle.opening.specs.declared.checking.Fault.TheVariants.{Unsound, NoTree}
use Rattle.opening.specs.Opening.{sound_alone, lowest_unsound, unsound_page, is_tree, checked}
use Rattle.opening.specs.Marks.{Handed, AllSound}

module _ (k n : ℕ) (ws : List ℕ) where
  pub lowest_most : lowest_unsound k n ws ≤ n
  unfolding lowest_unsound
  lowest_most = first_below_most (λ (p : ℕ). not (sound_alone k n ws p)) n

  -- the test by which the rule tells that no page is named
  pub none_found : ltb (lowest_unsound k n ws) n ≡ false → lowest_unsound k n ws ≡ n
  none_found f = omega (arith, ltb-false (lowest_unsound k n ws) n f, lowest_most)

  -- no page is named exactly if each is sound by itself
  pub none_unsound : lowest_unsound k n ws ≡ n → (q : ℕ) → q < n → sound_alone k n ws q ≡ true
  unfolding lowest_unsound
  none_unsound none q h = not-false (sound_alone k n ws q) (first_below_all_fail (λ (p : ℕ). not (sound_alone k n ws p)) n none q h)

  pub none_from : ((q : ℕ) → q < n → sound_alone k n ws q ≡ true) → lowest_unsound k n ws ≡ n
  unfolding lowest_unsound
  none_from sound = first_below_fails (λ (p : ℕ). not (sound_alone k n ws p)) n (λ q h. not_of_true (sound q h))

  -- as the scan tells it: it stops at a page,
  pub scan_stops : (p : ℕ) → p < n → first_below p (λ (q : ℕ). not (sound_alone k n ws q)) ≡ p → sound_alone k n ws p ≡ false
      → Some p ≡ unsound_page k n ws
  unfolding lowest_unsound
  scan_stops p h before bad =
      let here : lowest_unsound k n ws ≡ p = first_below_stops (λ (q : ℕ). not (sound_alone k n ws q)) n p h before (not_of_false bad) in
      sym (cond-true (Some (lowest_unsound k n ws)) None (lt-ltb (lowest_unsound k n ws) n (omega arith)) ∙ ap Some here)

  -- or comes to the end
  pub scan_ends : (p : ℕ) → p ≡ n → first_below p (λ (q : ℕ). not (sound_alone k n ws q)) ≡ p → None ≡ unsound_page k n ws
  unfolding lowest_unsound
  scan_ends p e before =
      let none : lowest_unsound k n ws ≡ n = ap (λ m. first_below m (λ (q : ℕ). not (sound_alone k n ws q))) (sym e) ∙ before ∙ e in
      sym (cond-false (Some (lowest_unsound k n ws)) None (le-ltb (lowest_unsound k n ws) n (omega arith)))

  pub none_told : None ≡ unsound_page k n ws → lowest_unsound k n ws ≡ n
  none_told e =
      none_found (false_if_not_true (ltb (lowest_unsound k n ws) n) (λ t. true≢false (ap is_none (e ∙ cond-true (Some (lowest_unsound k n ws)) None t))))

  pub checked_unsound : lowest_unsound k n ws < n → Err (Unsound (lowest_unsound k n ws)) ≡ checked k n ws
  unfolding checked
  checked_unsound h = sym (cond-true (Err (Unsound (lowest_unsound k n ws))) (cond (is_tree k n ws) (Ok tt) (Err NoTree)) (lt-ltb (lowest_unsound k n ws) n h))

  pub checked_page : (p : ℕ) → Some p ≡ unsound_page k n ws → Err (Unsound p) ≡ checked k n ws
  unfolding checked
  checked_page p e = told (ltb (lowest_unsound k n ws) n) (cond (is_tree k n ws) (Ok tt) (Err NoTree)) e
    where
      told : (b : Bool) (other : Result ⊤ Fault) → Some p ≡ cond b (Some (lowest_unsound k n ws)) None
          → Err (Unsound p) ≡ cond b (Err (Unsound (lowest_unsound k n ws))) other
      told true other f = ap (λ (o : Option ℕ). Err (Unsound (unwrap_or o 0))) f
      told false other f = absurd (true≢false (ap is_some f))

  module _ (none : None ≡ unsound_page k n ws) where
    sound_checked : cond (is_tree k n ws) (Ok tt) (Err NoTree) ≡ checked k n ws
    unfolding checked
    sound_checked = sym (cond-false (Err (Unsound (lowest_unsound k n ws))) (cond (is_tree k n ws) (Ok tt) (Err NoTree)) (le-ltb (lowest_unsound k n ws) n (omega (arith, none_told none))))

    pub checked_tree : is_tree k n ws ≡ true → Ok tt ≡ checked k n ws
    checked_tree t = sym (cond-true (Ok tt) (Err NoTree) t) ∙ sound_checked

    pub checked_none : is_tree k n ws ≡ false → Err NoTree ≡ checked k n ws
    checked_none t = sym (cond-false (Ok tt) (Err NoTree) t) ∙ sound_checked

-- no page is named, so each is sound by itself
pub all_sound : {k n : ℕ} {ws : List ℕ} → Handed k n ws → None ≡ unsound_page k n ws → AllSound k n ws
all_sound {k} {n} {ws} handed none = record { handed = handed; sound = none_unsound k n ws (none_told k n ws none) }
