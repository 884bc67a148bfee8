-- What is heard fixes the answer: two answers that are heard alike are the same.
use Prim.Native.Nat.{ℕ}
use mathlib.Core.Bool.{cond}
use mathlib.Core.Path.{◌≡◌, refl, sym, ap, ◌∙◌}
use mathlib.Core.List.{List, [], ◌∷◌}
use lib.Dec.{eqb}
use Rattle.slots.specs.declared.Lock.{Lock}
use Rattle.slots.specs.declared.Lock.TheVariants.{None, Rho, Xi, UpdaterRho, Alpha}
use Rattle.slots.specs.declared.Answer.{Answer}
use Rattle.slots.specs.declared.Answer.TheVariants.{Waiting, Moved, Found, NotFound, Inserted, AlreadyThere, Deleted, NoSuchKey, NoRoom, Begun, Made, Reported, BadState, BadPool, BadSlot, SlotBusy, SlotIdle, Damaged, BadPage, Next, None as NoLot, Regraded, Opened, BadPageInPool, BadTree, BadKey}
use Rattle.slots.specs.Heard.{lock_number, lock_named, answers_with, number_of, heard}

pub lock_back : (l : Lock) → lock_named (lock_number l) ≡ l
lock_back None = refl
lock_back Rho = refl
lock_back Xi = refl
lock_back UpdaterRho = refl
lock_back Alpha = refl

-- the first of a list with this number
abbrev numbered : ℕ → List Answer → Answer
numbered i [] = BadState
numbered i (a ∷ list) = cond (eqb i (number_of a)) a (numbered i list)

-- the answer that is heard as these numbers
abbrev hearing : List ℕ → Answer
hearing [] = BadState
hearing (i ∷ vs) = numbered i (answers_with vs)

told_back : (a : Answer) → hearing (heard a) ≡ a
told_back BadState = refl
told_back BadPool = refl
told_back BadSlot = refl
told_back SlotBusy = refl
told_back SlotIdle = refl
told_back Damaged = refl
told_back BadPage = refl
told_back Waiting = refl
told_back Moved = refl
told_back (Found v) = refl
told_back NotFound = refl
told_back Inserted = refl
told_back (AlreadyThere v) = refl
told_back (Deleted v) = refl
told_back NoSuchKey = refl
told_back NoRoom = refl
told_back Begun = refl
told_back Made = refl
told_back (Reported l n i) = ap (λ (m : Lock). Reported m n i) (lock_back l)
told_back (Next x v) = refl
told_back NoLot = refl
told_back (Regraded v) = refl
told_back Opened = refl
told_back (BadPageInPool p) = refl
told_back BadTree = refl
told_back BadKey = refl

-- two answers that are heard alike are the same
pub heard_once : (a b : Answer) → heard a ≡ heard b → a ≡ b
heard_once a b e = sym (told_back a) ∙ ap hearing e ∙ told_back b
