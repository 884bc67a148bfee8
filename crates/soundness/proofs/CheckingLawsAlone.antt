-- No two slots hold one page under locks that clash: the rule goes over all slots, the words over those that hold under ξ or α, of which one
-- is in every clash.
use Prim.Native.Nat.{ℕ, ◌≤◌, ◌<◌}
use mathlib.Core.Bool.{Bool, true, false, cond, not, ◌&&◌, ◌||◌}
use mathlib.Core.List.{List}
use mathlib.Core.Logic.{◌≢◌, ⊎_elim}
use mathlib.Core.Path.{◌≡◌, refl, sym, ap, ap₂, subst, ◌∙◌}
use lib.Dec.{eqb, ltb}
use Rattle.ground.specs.Limits.{slot_count}
use Rattle.ground.specs.Tests.{all, all_below, member, distinct}
use Rattle.ground.proofs.Bools.{not_both, or_first, or_second, not_of_false, same_if_true_together}
use Rattle.ground.proofs.Choice.{by_test, cond-true, cond-false}
use Rattle.ground.proofs.Tests.{all_member, all_from_members, all_below_at, all_below_from, any_below_same}
use Rattle.slots.specs.declared.Op.{Op}
use Rattle.slots.specs.declared.Op.TheVariants.{Search, Insert, Delete, Next, Regrade}
use Rattle.slots.specs.declared.Way.TheVariants.{First, Second}
use Rattle.slots.specs.declared.Task.TheVariants.{Open}
use Rattle.slots.specs.declared.Lock.{Lock}
use Rattle.slots.specs.declared.Lock.TheVariants.{Rho, Xi, UpdaterRho}
use Rattle.slots.specs.declared.Slot.{Slot}
use Rattle.slots.specs.Heard.{lock_number, lock_named}
use Rattle.slots.specs.Operations.{held_lock, is_third}
use Rattle.slots.specs.Parts.{is_open, held, slot_at, holds_at}
use Rattle.slots.specs.Locks.{lock_held, lock_held_at, clash, no_clash_on}
use Rattle.slots.specs.Sound.{no_clashing_holds}
use Rattle.slots.proofs.LockLaws.{clash_swap, others_go, others_go_from}
use Rattle.slots.proofs.SoundFacts.{SoundSlot}
use Rattle.slots.proofs.GrantLaws.{holder_open, held_lock_lem}
use Rattle.lent.specs.Layout.{row_length, kind_row, key_row, information_row}
use Rattle.lent.specs.Words.{cell, page_in, number_in, highest_kind, task_from, slot_in, as_read, known}
use Rattle.lent.specs.Holds.{WithinRows, RowOf, other_holds, others_hold}
use Rattle.lent.proofs.StateLaws.{slot_read}
use Rattle.lent.proofs.HoldLaws.{by_kind, kind_known, others_words}
use Rattle.soundness.specs.Checking.{third_kind, excludes_kind, word_apart, apart_in, row_for, xi_row, word_alone, each_alone, alone_in, excludes, stands_alone}
use Rattle.soundness.proofs.CheckingLawsHeld.{all_same, held_pass_lem}

-- ---- the row of a word's lock

-- a row that says what the table says finds the same slots
pub same_rows : (ws : List ℕ) (s p number : ℕ) (row : List Bool) → RowOf number row → others_hold ws s row p ≡ others_hold ws s (row_for number) p
unfolding others_hold
same_rows ws s p number row says =
    any_below_same (other_holds ws s row p) (other_holds ws s (row_for number) p) row_length
    (λ t _. ap (λ (b : Bool). not (eqb t s) && b) (says (lock_held (slot_in ws t) p)))

-- the page of a word held against the others, by the rule: by the word's own lock, or by ξ
word_alone_lem : (ws : List ℕ) (s w : ℕ) → word_alone ws s w ≡ no_clash_on (as_read ws) s (page_in w) (lock_named (number_in w))
word_alone_lem ws s w = sym (others_words ws s (page_in w) (row_for (number_in w)) (lock_named (number_in w)) (λ (l : Lock). refl))

word_apart_lem : (ws : List ℕ) (s w : ℕ) → word_apart ws s xi_row w ≡ no_clash_on (as_read ws) s (page_in w) Xi
word_apart_lem ws s w = sym (others_words ws s (page_in w) xi_row Xi (λ (l : Lock). refl))

-- ---- the locks of the kinds

-- who excludes nobody holds under one of the two ρ
abbrev rho_of : ℕ → Lock
rho_of kind = lock_named (cond (ltb 5 kind) (lock_number UpdaterRho) (lock_number Rho))

-- and these do not clash
none_clash : (a b : Bool) → clash (lock_named (cond a (lock_number UpdaterRho) (lock_number Rho))) (lock_named (cond b (lock_number UpdaterRho) (lock_number Rho))) ≡ false
none_clash true true = refl
none_clash true false = refl
none_clash false true = refl
none_clash false false = refl

module _ (n : ℕ) (slot : Slot) (p : ℕ) (fact : SoundSlot n slot) (m : member p (held slot) ≡ true) (key information : ℕ) where
  abbrev Under-rho : ℕ → Type 0
  Under-rho kind = excludes_kind kind ≡ false → slot.task ≡ task_from kind key information → lock_held slot p ≡ rho_of kind

  -- an operation that does not go by the third way holds under one kind alone
  by_op : (op : Op) → is_third op ≡ false → slot.task ≡ Open op → lock_held slot p ≡ held_lock op
  by_op op other e = ⊎_elim (λ same. same) (λ xi. not_both xi.0 other) (held_lock_lem n slot op p fact e m)

  under_rho : (kind : ℕ) → kind ≤ highest_kind → Under-rho kind
  under_rho =
      by_kind Under-rho
      (λ _ e. not_both (holder_open n slot p fact m) (ap is_open e))
      (λ _ e. by_op (Search key) refl e)
      (λ x e. not_both refl x)
      (λ x e. not_both refl x)
      (λ _ e. by_op (Next key) refl e)
      (λ x e. not_both refl x)
      (λ _ e. by_op (Insert key information Second) refl e)
      (λ _ e. by_op (Delete key Second) refl e)
      (λ _ e. by_op (Regrade key information Second) refl e)
      (λ x e. not_both refl x)
      (λ x e. not_both refl x)
      (λ x e. not_both refl x)

  -- who excludes others, by the first way, holds under ξ
  abbrev Under-xi : ℕ → Type 0
  Under-xi kind = excludes_kind kind ≡ true → third_kind kind ≡ false → slot.task ≡ task_from kind key information → lock_held slot p ≡ Xi

  under_xi : (kind : ℕ) → kind ≤ highest_kind → Under-xi kind
  under_xi =
      by_kind Under-xi
      (λ x _ e. not_both x refl)
      (λ x _ e. not_both x refl)
      (λ _ _ e. by_op (Insert key information First) refl e)
      (λ _ _ e. by_op (Delete key First) refl e)
      (λ x _ e. not_both x refl)
      (λ _ _ e. by_op (Regrade key information First) refl e)
      (λ x _ e. not_both x refl)
      (λ x _ e. not_both x refl)
      (λ x _ e. not_both x refl)
      (λ _ f e. not_both refl f)
      (λ _ f e. not_both refl f)
      (λ _ f e. not_both refl f)

-- a slot that excludes others is open
open_excludes : (key information kind : ℕ) → kind ≤ highest_kind → excludes_kind kind ≡ true → is_open (task_from kind key information) ≡ true
open_excludes key information =
    by_kind (λ (k : ℕ). excludes_kind k ≡ true → is_open (task_from k key information) ≡ true)
    (λ x. not_both x refl) (λ _. refl) (λ _. refl) (λ _. refl) (λ _. refl) (λ _. refl) (λ _. refl) (λ _. refl) (λ _. refl) (λ _. refl) (λ _. refl) (λ _. refl)

-- ---- the slots of a state

module _ (ws : List ℕ) (n : ℕ) (e : known ws ≡ true) (short : WithinRows ws) (facts : (s : ℕ) → s < row_length → SoundSlot n (slot_at (as_read ws) s)) where
  -- all pages of slot s against the others, by the rule
  abbrev pages_go : ℕ → Bool
  pages_go s = all (λ (p : ℕ). no_clash_on (as_read ws) s p (lock_held_at (as_read ws) s p)) (held (slot_at (as_read ws) s))

  -- it holds no page twice
  once : (s : ℕ) → s < row_length → excludes ws s ≡ true → distinct (held (slot_in ws s)) ≡ true
  once s h x =
      (subst (SoundSlot n) (slot_read ws s h) (facts s h)).different
      (open_excludes (cell ws key_row s) (cell ws information_row s) (cell ws kind_row s) (kind_known ws e s h) x)

  each_is : (s : ℕ) → s < row_length → excludes ws s ≡ true → each_alone ws s ≡ pages_go s
  each_is s h x =
      held_pass_lem (word_alone ws s) (no_clash_on (as_read ws) s) (word_alone_lem ws s) ws s (short.path s h) (short.beside s h) (once s h x)
      ∙ ap (λ (y : Slot). all (λ (p : ℕ). no_clash_on (as_read ws) s p (lock_held y p)) (held y)) (sym (slot_read ws s h))

  apart_is : (s : ℕ) → s < row_length → excludes ws s ≡ true → third_kind (cell ws kind_row s) ≡ false → apart_in ws s xi_row ≡ pages_go s
  apart_is s h x f =
      held_pass_lem (word_apart ws s xi_row) (λ (p : ℕ) (l : Lock). no_clash_on (as_read ws) s p Xi) (word_apart_lem ws s) ws s (short.path s h) (short.beside s h) (once s h x)
      ∙ ap (λ (y : Slot). all (λ (p : ℕ). no_clash_on (as_read ws) s p Xi) (held y)) (sym (slot_read ws s h))
      ∙ all_same (λ (p : ℕ). no_clash_on (as_read ws) s p Xi) (λ (p : ℕ). no_clash_on (as_read ws) s p (lock_held_at (as_read ws) s p)) (held (slot_at (as_read ws) s))
      (λ p m. ap (no_clash_on (as_read ws) s p)
      (sym
      (under_xi n (slot_at (as_read ws) s) p (facts s h) m (cell ws key_row s) (cell ws information_row s) (cell ws kind_row s) (kind_known ws e s h) x f
      (ap (λ (y : Slot). y.task) (slot_read ws s h)))))

  alone_is : (s : ℕ) → s < row_length → excludes ws s ≡ true → alone_in ws s ≡ pages_go s
  alone_is s h x =
      by_test (third_kind (cell ws kind_row s))
      (λ t. cond-true (each_alone ws s) (apart_in ws s xi_row) t ∙ each_is s h x)
      (λ f. cond-false (each_alone ws s) (apart_in ws s xi_row) f ∙ apart_is s h x f)

  lock_rho : (s p : ℕ) → s < row_length → holds_at (as_read ws) s p ≡ true → excludes ws s ≡ false → lock_held_at (as_read ws) s p ≡ rho_of (cell ws kind_row s)
  lock_rho s p h m f =
      under_rho n (slot_at (as_read ws) s) p (facts s h) m (cell ws key_row s) (cell ws information_row s) (cell ws kind_row s) (kind_known ws e s h) f
      (ap (λ (x : Slot). x.task) (slot_read ws s h))

  rule_alone : no_clashing_holds (as_read ws) ≡ true → all_below row_length (stands_alone ws) ≡ true
  unfolding no_clashing_holds slot_count
  rule_alone told =
      all_below_from (stands_alone ws) row_length
      (λ s h. by_test (excludes ws s)
      (λ x. or_second (not (excludes ws s)) (alone_is s h x ∙ all_below_at pages_go row_length told s h))
      (λ f. or_first (alone_in ws s) (not_of_false f)))

  module _ (told : all_below row_length (stands_alone ws) ≡ true) where
    -- what a slot holds under ξ or α goes with the locks of the others
    exclusive_goes : (s t p : ℕ) → s < row_length → t < row_length → t ≢ s → excludes ws s ≡ true → holds_at (as_read ws) s p ≡ true → holds_at (as_read ws) t p ≡ true
        → clash (lock_held_at (as_read ws) t p) (lock_held_at (as_read ws) s p) ≡ false
    unfolding slot_count
    exclusive_goes s t p h b n x ms mt =
        others_go (as_read ws) s p (lock_held_at (as_read ws) s p)
        (all_member (λ (q : ℕ). no_clash_on (as_read ws) s q (lock_held_at (as_read ws) s q)) (held (slot_at (as_read ws) s))
        (sym (alone_is s h x) ∙ sym (ap (λ (b : Bool). not b || alone_in ws s) x) ∙ all_below_at (stands_alone ws) row_length told s h) p ms)
        t b n mt

    two_go : (s t p : ℕ) → s < row_length → t < row_length → t ≢ s → holds_at (as_read ws) s p ≡ true → holds_at (as_read ws) t p ≡ true
        → clash (lock_held_at (as_read ws) t p) (lock_held_at (as_read ws) s p) ≡ false
    two_go s t p h b n ms mt =
        by_test (excludes ws s)
        (λ x. exclusive_goes s t p h b n x ms mt)
        (λ f. by_test (excludes ws t)
        (λ x. clash_swap (lock_held_at (as_read ws) t p) (lock_held_at (as_read ws) s p) ∙ exclusive_goes t s p b h (λ q. n (sym q)) x mt ms)
        (λ g. ap₂ clash (lock_rho t p b mt g) (lock_rho s p h ms f) ∙ none_clash (ltb 5 (cell ws kind_row t)) (ltb 5 (cell ws kind_row s))))

    alone_rule : no_clashing_holds (as_read ws) ≡ true
    unfolding no_clashing_holds slot_count
    alone_rule =
        all_below_from pages_go row_length
        (λ s h. all_from_members (λ (q : ℕ). no_clash_on (as_read ws) s q (lock_held_at (as_read ws) s q)) (held (slot_at (as_read ws) s))
        (λ p m. others_go_from (as_read ws) s p (lock_held_at (as_read ws) s p) (λ t b n mt. two_go s t p h b n m mt)))

  pub no_clashes : no_clashing_holds (as_read ws) ≡ all_below row_length (stands_alone ws)
  no_clashes = same_if_true_together (no_clashing_holds (as_read ws)) (all_below row_length (stands_alone ws)) rule_alone alone_rule
