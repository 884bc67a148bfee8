-- What an insertion by the second way that stays at its leaf may count on.
use Prim.Native.Nat.{ℕ, ◌-◌}
use mathlib.Core.Bool.{Bool, true, false, not, ◌&&◌, ◌||◌}
use mathlib.Core.List.{List}
use mathlib.Core.Logic.{inr, ⊎_elim}
use mathlib.Core.Path.{◌≡◌, refl, sym, ap, ◌∙◌, subst}
use native.Mathlib.Omega.{arith}
use borrow.Author.Tests.{not-false}
use lib.Dec.{eqb}
use lib.ListN.{get_or}
use lib.Seq.{get_or-take}
use Rattle.ground.proofs.Bools.{not_both, and_second, or_cases}
use Rattle.page.specs.Place.{has}
use Rattle.pool.specs.Pool.{page_at}
use Rattle.slots.specs.declared.Op.{Op}
use Rattle.slots.specs.declared.Op.TheVariants.{Insert}
use Rattle.slots.specs.declared.Way.{Way}
use Rattle.slots.specs.declared.Way.TheVariants.{First, Second, Third}
use Rattle.slots.specs.declared.Slot.{Slot}
use Rattle.slots.specs.Parts.{path_of}
use Rattle.footing.specs.Granted.{is_safe}
use Rattle.footing.specs.Standing.{SlotStanding}
use Rattle.course.specs.Judged.{begins_again}
use Rattle.course.proofs.StandLaws.{Topped}
use Rattle.course.proofs.JudgeLaws.{path_long, lowest}

-- ---- an insertion that stays

module _ {x v k n : ℕ} {ws : List ℕ} {stand : Slot} where
  -- the one page of its path is its leaf
  top_is_lowest : SlotStanding (Insert x v Second) k n ws stand → get_or (path_of stand) 0 0 ≡ lowest stand
  unfolding path_of
  top_is_lowest h =
      let one = h.standing.alone refl in
      let long = path_long h in
      let last : 0 ≡ stand.depth - 1 = omega arith in
      get_or-take stand.depth stand.path 0 0 (omega arith) ∙ ap (λ (i : ℕ). get_or stand.path i 0) last

  -- by the first and the third way the top page is as it was; by the second the leaf is safe, if the key is missing
  by_way : (way : Way) → SlotStanding (Insert x v way) k n ws stand → begins_again (Insert x v way) k (page_at k ws) (lowest stand) ≡ false
      → has x (page_at k ws (lowest stand)).entries ≡ false → Topped (Insert x v First) k (page_at k ws) (path_of stand)
  by_way First h _ _ = h.standing.top
  by_way Third h _ _ = h.standing.top
  by_way Second h stays missing =
      let leaf : ℕ = lowest stand in
      let there : Bool = has x (page_at k ws leaf).entries in
      let safe : Bool = is_safe (Insert x v First) k (page_at k ws leaf) in
      let staying : not (eqb leaf 0) && (there || safe) ≡ true = not-false (not (eqb leaf 0) && (there || safe)) stays in
      inr
      (subst (λ (p : ℕ). is_safe (Insert x v First) k (page_at k ws p) ≡ true) (sym (top_is_lowest h))
      (⊎_elim (λ e. not_both e missing) (λ e. e) (or_cases there safe (and_second (not (eqb leaf 0)) (there || safe) staying))))

  pub insert_tops : (op : Op) (way : Way) → op ≡ Insert x v way → SlotStanding op k n ws stand → begins_again op k (page_at k ws) (lowest stand) ≡ false
      → has x (page_at k ws (lowest stand)).entries ≡ false → Topped (Insert x v First) k (page_at k ws) (path_of stand)
  insert_tops op way told h stays missing =
      by_way way (subst (λ (o : Op). SlotStanding o k n ws stand) told h) (subst (λ (o : Op). begins_again o k (page_at k ws) (lowest stand) ≡ false) told stays) missing
