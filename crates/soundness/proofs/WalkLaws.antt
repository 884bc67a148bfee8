-- The walk over the slots that hold under ξ or α, by their mask, from the lowest on.
use Prim.Native.Nat.{ℕ, ◌+◌, ◌^◌}
use mathlib.Core.Bool.{Bool, true, false, not, ◌&&◌}
use mathlib.Core.List.{List}
use mathlib.Core.Logic.{⊎_elim, ◌≢◌}
use mathlib.Core.Path.{◌≡◌, sym, ap, ◌∙◌, subst}
use native.Mathlib.Omega.{arith}
use borrow.Author.Tests.{le-leb, ltb-true, ltb-false}
use lib.Count.{count_trailing_zeros}
use lib.Dec.{ltb}
use Rattle.ground.specs.Tests.{all_below}
use Rattle.ground.proofs.Bools.{true_or_false, or_first, or_second, or_none, not_of_true, not_of_false}
use Rattle.ground.proofs.Tests.{all_below_none, all_below_at, all_below_from, all_below_stops}
use Rattle.slots.specs.Report.{mask_below}
use Rattle.lent.specs.Layout.{row_length}
use Rattle.soundness.specs.Checking.{excludes, alone_in, stands_alone}
use Rattle.soundness.proofs.MaskLaws.{mask_same, mask_empty, from, Next, next_of}

-- the slots below `at` have been looked at, and the mask has those of the others that hold under ξ or α
pub record Walked (ws : List ℕ) (left : ℕ) : Type 0 where
  pub at : ℕ
  pub alone : all_below at (stands_alone ws) ≡ true
  pub rest : left ≡ mask_below row_length (from (excludes ws) at)

module _ (ws : List ℕ) where
  idle : (s : ℕ) → excludes ws s ≡ false → stands_alone ws s ≡ true
  idle s e = or_first (alone_in ws s) (not_of_false e)

  pub walk_start : (left : ℕ) → left ≡ mask_below row_length (excludes ws) → Walked ws left
  walk_start left e = record {
    at = 0;
    alone = all_below_none (stands_alone ws);
    rest = e ∙ mask_same (excludes ws) (from (excludes ws) 0) row_length (λ i _. sym (ap (λ (t : Bool). t && excludes ws i) (le-leb 0 i (omega arith))));
  }

  module _ (left : ℕ) (w : Walked ws left) where
    pub walk_next : (s : ℕ) → left ≢ 0 → s ≡ count_trailing_zeros 16 left → Next (excludes ws) w.at s
    walk_next s some e =
        next_of (excludes ws) w.at s (λ z. some (w.rest ∙ z)) (e ∙ ap (count_trailing_zeros 16) w.rest)

    -- nothing is left
    pub walk_end : left ≡ 0 → all_below row_length (stands_alone ws) ≡ true
    walk_end e =
        all_below_from (stands_alone ws) row_length
        (λ i b.
        ⊎_elim
        (λ t. all_below_at (stands_alone ws) w.at w.alone i (ltb-true i w.at t))
        (λ f. idle i (sym (ap (λ (t : Bool). t && excludes ws i) (le-leb w.at i (ltb-false i w.at f))) ∙ mask_empty (from (excludes ws) w.at) row_length (sym w.rest ∙ e) i b))
        (true_or_false (ltb i w.at)))

    module _ (s : ℕ) (n : Next (excludes ws) w.at s) where
      -- the next slot holds its pages alone: it is taken off the mask
      pub walk_on : (less : ℕ) → less + 2 ^ s ≡ left → alone_in ws s ≡ true → Walked ws less
      walk_on less e a = record {
        at = s + 1;
        alone =
            all_below_from (stands_alone ws) (s + 1)
            (λ i b.
            ⊎_elim
            (λ t. all_below_at (stands_alone ws) w.at w.alone i (ltb-true i w.at t))
            (λ f.
            ⊎_elim
            (λ t. idle i (n.between i (ltb-false i w.at f) (ltb-true i s t)))
            (λ g. subst (λ (x : ℕ). stands_alone ws x ≡ true) (omega (arith, ltb-false i s g)) (or_second (not (excludes ws s)) a))
            (true_or_false (ltb i s)))
            (true_or_false (ltb i w.at)));
        rest = omega (arith, e, w.rest, n.taken);
      }

      -- it does not
      pub walk_stops : alone_in ws s ≡ false → all_below row_length (stands_alone ws) ≡ false
      walk_stops a = all_below_stops (stands_alone ws) row_length s n.inside (or_none (not_of_true n.passed) a)
