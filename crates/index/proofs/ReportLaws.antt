-- The kind of lock on a page: the first that is found of those in the report's order, each looked for by its number.
use Prim.Native.Nat.{ℕ, zero, suc, ◌<◌}
use mathlib.Core.Bool.{Bool, true, false, ◌&&◌}
use mathlib.Core.List.{List}
use mathlib.Core.Path.{◌≡◌, refl, sym, ap, ◌∙◌}
use native.Mathlib.Omega.{arith}
use lib.Dec.{eqb, leb}
use borrow.Author.Tests.{leb-true}
use Rattle.ground.proofs.Bools.{not_both, and_second, and_first_fails}
use Rattle.ground.proofs.Choice.{by_test}
use Rattle.ground.specs.Tests.{member}
use Rattle.slots.specs.declared.Lock.{Lock}
use Rattle.slots.specs.declared.Lock.TheVariants.{None, Rho, Xi, UpdaterRho, Alpha}
use Rattle.slots.specs.declared.Slot.{Slot}
use Rattle.slots.specs.declared.State.{State}
use Rattle.slots.specs.Parts.{held, held_locks, holds_at}
use Rattle.slots.specs.Locks.{lock_held, lock_held_at, same_lock}
use Rattle.slots.specs.Heard.{lock_number, lock_named}
use Rattle.slots.proofs.LockLaws.{is_lock, among_none}
use Rattle.lent.specs.Layout.{row_length}
use Rattle.lent.specs.Words.{slot_in, as_read}
use Rattle.lent.specs.Holds.{is_lock_number}
use Rattle.lent.proofs.HoldLaws.{same_number}
use Rattle.lent.proofs.StateLaws.{slot_read}

-- the number of a kind stands for a lock, and is the number of that lock
pub record Names (number : ℕ) : Type 0 where
  pub back : lock_number (lock_named number) ≡ number
  pub lock : is_lock (lock_named number) ≡ true

pub names : (number : ℕ) → is_lock_number number ≡ true → Names number
names zero t = not_both t refl
names (suc zero) t = record { back = refl; lock = refl }
names (suc (suc zero)) t = record { back = refl; lock = refl }
names (suc (suc (suc zero))) t = record { back = refl; lock = refl }
names (suc (suc (suc (suc zero)))) t = record { back = refl; lock = refl }
names (suc (suc (suc (suc (suc n))))) t =
    let i : ℕ = suc (suc (suc (suc (suc n)))) in
    absurd (omega (arith, leb-true i 4 (and_second (leb 1 i) (leb i 4) t)))

-- no lock is none of the kinds
none_other : (l : Lock) → is_lock l ≡ true → same_lock None l ≡ false
none_other None o = not_both o refl
none_other Rho o = refl
none_other Xi o = refl
none_other UpdaterRho o = refl
none_other Alpha o = refl

-- who has a lock on a page holds it
lock_held_lem : (slot : Slot) (p : ℕ) (l : Lock) → is_lock l ≡ true → same_lock (lock_held slot p) l ≡ member p (held slot) && same_lock (lock_held slot p) l
lock_held_lem slot p l o =
    by_test (member p (held slot))
    (λ m. sym (ap (λ (b : Bool). b && same_lock (lock_held slot p) l) m))
    (λ f.
    ap (λ (k : Lock). same_lock k l) (among_none p (held slot) (held_locks slot) f)
    ∙ none_other l o
    ∙ sym (and_first_fails (same_lock (lock_held slot p) l) f))

-- slot s holds page p under this kind
abbrev pub under_at : State → ℕ → Lock → ℕ → Bool
under_at st p lock s = holds_at st s p && eqb (lock_number (lock_held_at st s p)) (lock_number lock)

-- the number of a lock that was found is the one looked for, if the lock is
pub number_told : (found number : ℕ) (l : Lock) → is_lock_number number ≡ true → lock_named found ≡ l → eqb found number ≡ same_lock l (lock_named number)
number_told found number l t told =
    let is = names number t in
    ap (eqb found) (sym is.back) ∙ same_number (lock_named number) is.lock found ∙ ap (λ (k : Lock). same_lock k (lock_named number)) told

-- the lock under which slot s holds page p is of this kind, if the slot holds the page under that kind
pub held_told : (ws : List ℕ) (s p number : ℕ) → s < row_length → is_lock_number number ≡ true
    → same_lock (lock_held (slot_in ws s) p) (lock_named number) ≡ under_at (as_read ws) p (lock_named number) s
held_told ws s p number inside t =
    let kind : Lock = lock_named number in
    lock_held_lem (slot_in ws s) p kind (names number t).lock
    ∙ ap (λ (slot : Slot). member p (held slot) && same_lock (lock_held slot p) kind) (sym (slot_read ws s inside))

-- the number of the lock that is found at slot s is the one looked for, if the slot holds page p under that kind
pub under_told : (ws : List ℕ) (s p found number : ℕ) → s < row_length → is_lock_number number ≡ true
    → lock_named found ≡ lock_held (slot_in ws s) p → eqb found number ≡ under_at (as_read ws) p (lock_named number) s
under_told ws s p found number inside t told = number_told found number (lock_held (slot_in ws s) p) t told ∙ held_told ws s p number inside t
