-- Laws for the test of one slot: its path and then its siblings, page by page, and the page that it wants.
use Prim.Native.Nat.{ℕ, ◌≤◌, ◌<◌}
use mathlib.Core.Bool.{Bool, true, false, not, ◌&&◌, ◌||◌, and-true}
use mathlib.Core.List.{List, [], ◌++◌}
use mathlib.Core.Path.{◌≡◌, refl, sym, ap, ap₂, ◌∙◌, subst}
use borrow.Author.Tests.{lt-ltb, le-ltb, ltb-true, ne_eqb, eq-eqb, not-true}
use native.Mathlib.Omega.{arith}
use lib.Dec.{eqb, ltb}
use lib.ListN.{take}
use Rattle.ground.specs.Tests.{all, member, distinct, apart}
use Rattle.ground.proofs.Bools.{and_both, and_first, and_second, and_first_fails, and_second_fails, or_first_fails, or_second_fails, or_none, not_both, not_of_false, false_if_not_true, same_if_true_together}
use Rattle.ground.proofs.Choice.{by_test, cond-true, cond-false}
use Rattle.ground.proofs.Tests.{all_append, all_member, all_from_members, member_none, member_append, distinct_front, distinct_back, distinct_apart, distinct_join, apart_member, apart_from, apart_swap}
use Rattle.slots.specs.declared.Lock.{Lock}
use Rattle.slots.specs.declared.Lock.TheVariants.{Alpha}
use Rattle.slots.specs.declared.Slot.{Slot}
use Rattle.slots.specs.Heard.{lock_number, lock_named}
use Rattle.slots.specs.Parts.{held, path_of, beside_of}
use Rattle.slots.specs.Locks.{lock_held, same_lock}
use Rattle.slots.specs.Sound.{below_and_once}
use Rattle.lent.specs.Layout.{kind_row, want_row, lock_row}
use Rattle.lent.specs.Words.{cell, slot_in}
use Rattle.lent.proofs.HoldLaws.{same_number}
use Rattle.soundness.specs.Checking.{enters, may_enter, held_once, as_conversion, converts_fine, pages_fine}

-- ---- the pages of one slot

-- all pages are below n
abbrev low : ℕ → List ℕ → Bool
low n pages = all (λ (p : ℕ). ltb p n) pages

-- what may enter, by its four parts
module _ (n other : ℕ) (own pages : List ℕ) where
  enter_from : low n pages ≡ true → member other pages ≡ false → apart pages own ≡ true → distinct pages ≡ true → may_enter n other own pages ≡ true
  unfolding may_enter
  enter_from below away others differ =
      and_both
      (all_from_members (enters n other own) pages
      (λ x m. and_both
      (and_both (all_member (λ (p : ℕ). ltb p n) pages below x m) (not_of_false (ne_eqb x other (λ e. not_both (subst (λ (z : ℕ). member z pages ≡ true) e m) away))))
      (not_of_false (apart_member pages own others x m))))
      differ

  module _ (t : may_enter n other own pages ≡ true) where
    enter_each : (x : ℕ) → member x pages ≡ true → enters n other own x ≡ true
    unfolding may_enter
    enter_each = all_member (enters n other own) pages (and_first (all (enters n other own) pages) (distinct pages) t)

    enter_low : low n pages ≡ true
    enter_low =
        all_from_members (λ (p : ℕ). ltb p n) pages
        (λ x m. and_first (ltb x n) (not (eqb x other)) (and_first (ltb x n && not (eqb x other)) (not (member x own)) (enter_each x m)))

    enter_other : member other pages ≡ false
    enter_other =
        false_if_not_true (member other pages)
        (λ m. not_both (eq-eqb other other refl)
        (not-true (eqb other other)
        (and_second (ltb other n) (not (eqb other other)) (and_first (ltb other n && not (eqb other other)) (not (member other own)) (enter_each other m)))))

    enter_apart : apart pages own ≡ true
    enter_apart =
        apart_from pages own
        (λ x m. not-true (member x own) (and_second (ltb x n && not (eqb x other)) (not (member x own)) (enter_each x m)))

    enter_differ : distinct pages ≡ true
    unfolding may_enter
    enter_differ = and_second (all (enters n other own) pages) (distinct pages) t

-- the pages held, path and siblings
abbrev asked : ℕ → ℕ → List ℕ → List ℕ → Bool
asked n other path siblings = low n (path ++ siblings) && distinct (path ++ siblings) && not (member other (path ++ siblings))

module _ (n other : ℕ) (path siblings : List ℕ) where
  -- what holds of all pages lets the path enter, and the siblings behind it
  asked_enter : asked n other path siblings ≡ true → may_enter n other [] path && may_enter n other path siblings ≡ true
  asked_enter y =
      and_both
      (enter_from n other [] path
      (and_first (low n path) (low n siblings) below)
      (or_first_fails (member other path) (member other siblings) away)
      (apart_from path [] (λ x m. member_none x))
      (distinct_front path siblings differ))
      (enter_from n other path siblings
      (and_second (low n path) (low n siblings) below)
      (or_second_fails (member other path) (member other siblings) away)
      (apart_swap path siblings (distinct_apart path siblings differ))
      (distinct_back path siblings differ))
    where
      both : low n (path ++ siblings) && distinct (path ++ siblings) ≡ true
      both = and_first (low n (path ++ siblings) && distinct (path ++ siblings)) (not (member other (path ++ siblings))) y

      below : low n path && low n siblings ≡ true
      below = sym (all_append (λ (p : ℕ). ltb p n) path siblings) ∙ and_first (low n (path ++ siblings)) (distinct (path ++ siblings)) both

      differ : distinct (path ++ siblings) ≡ true
      differ = and_second (low n (path ++ siblings)) (distinct (path ++ siblings)) both

      away : member other path || member other siblings ≡ false
      away =
          sym (member_append other path siblings)
          ∙ not-true (member other (path ++ siblings)) (and_second (low n (path ++ siblings) && distinct (path ++ siblings)) (not (member other (path ++ siblings))) y)

  -- and the other way round
  enter_asked : may_enter n other [] path && may_enter n other path siblings ≡ true → asked n other path siblings ≡ true
  enter_asked y =
      let first = and_first (may_enter n other [] path) (may_enter n other path siblings) y in
      let second = and_second (may_enter n other [] path) (may_enter n other path siblings) y in
      and_both
      (and_both
      (all_append (λ (p : ℕ). ltb p n) path siblings ∙ and_both (enter_low n other [] path first) (enter_low n other path siblings second))
      (distinct_join path siblings (enter_differ n other [] path first) (enter_differ n other path siblings second)
      (apart_swap siblings path (enter_apart n other path siblings second))))
      (not_of_false (member_append other path siblings ∙ or_none (enter_other n other [] path first) (enter_other n other path siblings second)))

  -- path and siblings put in one after the other
  asked_is : asked n other path siblings ≡ may_enter n other [] path && may_enter n other path siblings
  asked_is = same_if_true_together (asked n other path siblings) (may_enter n other [] path && may_enter n other path siblings) asked_enter enter_asked

-- ---- path and siblings of a slot, the one behind the other

module _ (n other : ℕ) (s : Slot) {r : Bool} (said : r ≡ may_enter n other [] (take s.depth s.path)) where
  -- the path fails
  pub once_path : r ≡ false → false ≡ held_once n other s
  unfolding held_once path_of
  once_path f =
      sym (asked_is n other (path_of s) (beside_of s) ∙ and_first_fails (may_enter n other (path_of s) (beside_of s)) (sym said ∙ f))

  -- the path passes: the siblings decide
  pub once_siblings : r ≡ true → {q : Bool} → q ≡ may_enter n other (take s.depth s.path) (take s.breadth s.beside) → q ≡ held_once n other s
  unfolding held_once path_of beside_of
  once_siblings t e =
      e
      ∙ sym (ap (λ (b : Bool). b && may_enter n other (path_of s) (beside_of s)) (sym said ∙ t))
      ∙ sym (asked_is n other (path_of s) (beside_of s))

-- ---- the page that it wants

-- n is none of the pages below n
once_any : (n : ℕ) (s : Slot) → held_once n n s ≡ low n (held s) && distinct (held s)
unfolding held_once
once_any n s =
    by_test (low n (held s))
    (λ t.
    ap (λ (b : Bool). low n (held s) && distinct (held s) && not b)
    (false_if_not_true (member n (held s)) (λ m. let z = ltb-true n n (all_member (λ (p : ℕ). ltb p n) (held s) t n m) in omega arith))
    ∙ and-true (low n (held s) && distinct (held s)))
    (λ f.
    and_first_fails (not (member n (held s))) (and_first_fails (distinct (held s)) f)
    ∙ sym (and_first_fails (distinct (held s)) f))

module _ (ws : List ℕ) (n s : ℕ) {want : ℕ} (read : want ≡ cell ws want_row s) where
  abbrev slot : Slot
  slot = slot_in ws s

  -- it is not below n
  pub pages_high : n ≤ want → false ≡ pages_fine ws n s
  unfolding all
  pages_high high =
      sym
      (and_first_fails (converts_fine ws s)
      (and_first_fails (distinct (held slot)) (and_first_fails (low n (held slot)) (le-ltb (cell ws want_row s) n (subst (λ (w : ℕ). n ≤ w) read high)))))

  module _ (below : want < n) {c : Bool} (said : c ≡ as_conversion (cell ws kind_row s) (cell ws lock_row s)) where
    below_is : below_and_once n slot ≡ low n (held slot) && distinct (held slot)
    unfolding all
    below_is =
        ap (λ (b : Bool). b && low n (held slot) && distinct (held slot)) (lt-ltb (cell ws want_row s) n (subst (λ (w : ℕ). w < n) read below))

    -- no conversion: it is none of those held
    pub pages_plain : c ≡ false → {q : Bool} → q ≡ held_once n want slot → q ≡ pages_fine ws n s
    unfolding held_once
    pages_plain f e =
        e
        ∙ ap₂ (λ (b : Bool) (w : ℕ). b && not (member w (held slot))) (sym below_is) read
        ∙ ap (λ (b : Bool). below_and_once n slot && b)
        (sym (cond-false (same_lock (lock_held slot (cell ws want_row s)) Alpha) (not (member (cell ws want_row s) (held slot))) (sym said ∙ f)))

    -- a conversion, of a page that is held under the lock of this number
    module _ (t : c ≡ true) (number : ℕ) (named : lock_named number ≡ lock_held slot want) where
      converts_is : converts_fine ws s ≡ eqb number (lock_number Alpha)
      converts_is =
          cond-true (same_lock (lock_held slot (cell ws want_row s)) Alpha) (not (member (cell ws want_row s) (held slot))) (sym said ∙ t)
          ∙ ap (λ (l : Lock). same_lock l Alpha) (ap (lock_held slot) (sym read) ∙ sym named)
          ∙ sym (same_number Alpha refl number)

      pub pages_other : (number ≡ lock_number Alpha → ⊥) → false ≡ pages_fine ws n s
      pages_other o = sym (and_second_fails (below_and_once n slot) (converts_is ∙ ne_eqb number (lock_number Alpha) o))

      pub pages_converted : number ≡ lock_number Alpha → {q : Bool} → q ≡ held_once n n slot → q ≡ pages_fine ws n s
      pages_converted a e =
          e
          ∙ once_any n slot
          ∙ sym below_is
          ∙ sym (and-true (below_and_once n slot))
          ∙ ap (λ (b : Bool). below_and_once n slot && b) (sym (converts_is ∙ eq-eqb number (lock_number Alpha) a))
