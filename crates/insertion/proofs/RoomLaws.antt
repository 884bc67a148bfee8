-- The count of room, a page of the path at a time.
use Prim.Native.Nat.{ℕ, ◌+◌, ◌*◌, ◌≤◌, ◌<◌}
use mathlib.Core.Bool.{Bool, true, false, cond, ◌&&◌, ◌||◌}
use mathlib.Core.List.{List}
use mathlib.Core.Logic.{⊎_elim, ◌≢◌}
use mathlib.Core.Path.{◌≡◌, refl, sym, ap, ap₂, ◌∙◌, subst}
use native.Mathlib.Numerals.{add-one}
use native.Mathlib.Omega.{arith}
use borrow.Author.Tests.{lt-ltb, le-ltb, eq-eqb, ne_eqb, eqb-true}
use lib.Dec.{eqb}
use lib.ListN.{length, get_or, take}
use lib.Seq.{length-take-le, take-length}
use Rattle.std.specs.Int.{from_bool}
use Rattle.ground.specs.Tests.{count, member}
use Rattle.ground.proofs.Bools.{same_if_true_together, or_first, or_cases}
use Rattle.ground.proofs.Choice.{cond-true, cond-false}
use Rattle.ground.proofs.Tests.{count_more, count_most, member_more}
use Rattle.page.specs.Words.{Page, μ}
use Rattle.change.specs.Insertion.{is_full, room}

-- one page more that is not a full page 0
skip : (m e f : Bool) → (e ≡ true → f ≡ false) → (m || e) && f ≡ m && f
skip true e f h = refl
skip false true f h = h refl
skip false false f h = refl

-- and one that is, where page 0 is full
add : (m e f : Bool) → (e ≡ true → f ≡ true) → (m && f) || e ≡ (m || e) && f
add true e f h = same_if_true_together (f || e) f (λ t. ⊎_elim (λ a. a) h (or_cases f e t)) (or_first e)
add false true f h = sym (h refl)
add false false f h = refl

-- a test as a number
one_if : (b : Bool) → from_bool b ≡ cond b 1 0
one_if true = refl
one_if false = refl

pub from_bool_most : (b : Bool) → from_bool b ≤ 1
from_bool_most true = omega arith
from_bool_most false = omega arith

module _ (k : ℕ) (memory : ℕ → Page) (held : List ℕ) where
  -- among the first i pages held so many are full, and page 0 is one of them or not
  pub record Counted (i full : ℕ) (root : Bool) : Type 0 where
    pub pages : full ≡ count (is_full k memory) (take i held)
    pub top : root ≡ member 0 (take i held) && is_full k memory 0

  pub counted_none : Counted 0 0 false
  unfolding count member
  counted_none = record { pages = refl; top = refl }

  -- the same counts, by other names
  pub counted_as : {i m full : ℕ} {b root : Bool} → m ≡ full → b ≡ root → Counted i full root → Counted i m b
  counted_as e d h = record { pages = e ∙ h.pages; top = d ∙ h.top }

  module _ {i full : ℕ} {root : Bool} (inside : i < length held) (was : Counted i full root) where
    -- what the next page adds
    more_pages : {b : Bool} → is_full k memory (get_or held i 0) ≡ b → count (is_full k memory) (take (i + 1) held) ≡ full + cond b 1 0
    more_pages {b} e =
        ap (λ (j : ℕ). count (is_full k memory) (take j held)) (add-one i)
        ∙ count_more (is_full k memory) held i 0 inside
        ∙ ap₂ (λ (m : ℕ) (t : Bool). m + cond t 1 0) (sym was.pages) e

    more_top : member 0 (take (i + 1) held) ≡ member 0 (take i held) || eqb 0 (get_or held i 0)
    more_top = ap (λ (j : ℕ). member 0 (take j held)) (add-one i) ∙ member_more 0 held i 0 inside

    same_top : (eqb 0 (get_or held i 0) ≡ true → is_full k memory 0 ≡ false) → root ≡ member 0 (take (i + 1) held) && is_full k memory 0
    same_top h =
        was.top
        ∙ sym (ap (λ (b : Bool). b && is_full k memory 0) more_top ∙ skip (member 0 (take i held)) (eqb 0 (get_or held i 0)) (is_full k memory 0) h)

    -- the next page is not full
    pub counted_space : μ (memory (get_or held i 0)) ≢ 2 * k → Counted (i + 1) full root
    counted_space ne =
        let not = ne_eqb (μ (memory (get_or held i 0))) (2 * k) ne in
        record {
          pages = let e = more_pages not in omega arith;
          top = same_top (λ z. subst (λ (q : ℕ). is_full k memory q ≡ false) (sym (eqb-true 0 (get_or held i 0) z)) not);
        }

    -- it is full, and may be page 0
    pub counted_full : μ (memory (get_or held i 0)) ≡ 2 * k → Counted (i + 1) (full + 1) (root || eqb (get_or held i 0) 0)
    counted_full e =
        let full = eq-eqb (μ (memory (get_or held i 0))) (2 * k) e in
        let zero : eqb 0 (get_or held i 0) ≡ eqb (get_or held i 0) 0 = same_if_true_together _ _ (λ t. eq-eqb _ 0 (sym (eqb-true 0 _ t))) (λ t. eq-eqb 0 _ (sym (eqb-true _ 0 t))) in
        record {
          pages = sym (more_pages full);
          top =
              ap (λ (b : Bool). b || eqb (get_or held i 0) 0) was.top
              ∙ add (member 0 (take i held)) (eqb (get_or held i 0) 0) (is_full k memory 0)
              (λ z. subst (λ (q : ℕ). is_full k memory q ≡ true) (eqb-true (get_or held i 0) 0 z) full)
              ∙ ap (λ (b : Bool). b && is_full k memory 0) (sym (more_top ∙ ap (λ (b : Bool). member 0 (take i held) || b) zero));
        }

  -- so many are at most all
  pub counted_most : {i full : ℕ} {root : Bool} → i ≤ length held → Counted i full root → full ≤ i
  counted_most {i} inside was =
      let few = count_most (is_full k memory) (take i held) in
      let long = length-take-le i held inside in omega (arith, was.pages)

  module _ (leaf : ℕ) where
    -- the leaf has space
    pub room_none : μ (memory leaf) < 2 * k → 0 ≡ room k memory leaf held
    unfolding room
    room_none h = sym (cond-true 0 _ (lt-ltb (μ (memory leaf)) (2 * k) h))

    -- it has none
    pub room_counted : {full : ℕ} {root : Bool} → 2 * k ≤ μ (memory leaf) → Counted (length held) full root
        → full + from_bool root ≡ room k memory leaf held
    unfolding room
    room_counted {full = full} {root = root} h was =
        ap (λ (m : ℕ). full + m) (one_if root)
        ∙ ap₂ (λ (m : ℕ) (b : Bool). m + cond b 1 0) was.pages was.top
        ∙ ap (λ (l : List ℕ). count (is_full k memory) l + cond (member 0 l && is_full k memory 0) 1 0) (take-length held)
        ∙ sym (cond-false 0 _ (le-ltb (μ (memory leaf)) (2 * k) h))
