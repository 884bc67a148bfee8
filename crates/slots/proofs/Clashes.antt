-- In a sound state no two locks clash.
use Prim.Native.Nat.{ℕ, ◌<◌}
use mathlib.Core.Bool.{true, false}
use mathlib.Core.Logic.{◌≢◌}
use mathlib.Core.Path.{◌≡◌, ap, sym, ◌∙◌}
use Rattle.ground.specs.Limits.{slot_count}
use Rattle.ground.proofs.Bools.{not_both, false_if_not_true}
use Rattle.slots.specs.declared.Lock.TheVariants.{Xi}
use Rattle.slots.specs.declared.State.{State}
use Rattle.slots.specs.Parts.{slot_at, want_at, holds_at}
use Rattle.slots.specs.Locks.{lock_held_at, lock_wanted_at, clash}
use Rattle.slots.specs.Grant.{grants}
use Rattle.slots.proofs.SoundFacts.{SoundState}
use Rattle.slots.proofs.LockLaws.{xi_clashes}
use Rattle.slots.proofs.GrantLaws.{granted_no_clash, holder_locks}

-- Two slots that hold one page hold it with locks that go together.
pub no_two_locks_clash : (st : State) → SoundState st → (s t p : ℕ) → s < slot_count → t < slot_count → s ≢ t → holds_at st s p ≡ true → holds_at st t p ≡ true → clash (lock_held_at st s p) (lock_held_at st t p) ≡ false
no_two_locks_clash st f s t p b c n = f.locks s t b c n p

-- whatever holds a page clashes with ξ
holder_clashes : (st : State) → SoundState st → (t p : ℕ) → t < slot_count → holds_at st t p ≡ true → clash (lock_held_at st t p) Xi ≡ true
holder_clashes st f t p c h = xi_clashes (lock_held_at st t p) (holder_locks st.n (slot_at st t) p (f.slot t c) h)

-- A page held under ξ is held by no other slot,
pub update_alone : (st : State) → SoundState st → (s t p : ℕ) → s < slot_count → t < slot_count → s ≢ t → lock_held_at st s p ≡ Xi → holds_at st s p ≡ true → holds_at st t p ≡ false
update_alone st f s t p b c n x h =
    false_if_not_true (holds_at st t p)
    (λ m. not_both (holder_clashes st f t p c m) (ap (clash (lock_held_at st t p)) (sym x) ∙ f.locks t s c b (λ e. n (sym e)) p m h))

-- and a page that is granted under ξ is held by none.
pub wanted_alone : (st : State) → SoundState st → (s t : ℕ) → t < slot_count → t ≢ s → grants st s ≡ true → lock_wanted_at st s ≡ Xi → holds_at st t (want_at st s) ≡ false
wanted_alone st f s t c n g x =
    false_if_not_true (holds_at st t (want_at st s))
    (λ m. not_both (holder_clashes st f t (want_at st s) c m) (ap (clash (lock_held_at st t (want_at st s))) (sym x) ∙ granted_no_clash st s g t c n m))
