-- A granted want clashes with nothing, so a slot that takes it keeps the locks apart.
use Prim.Native.Nat.{ℕ, ◌<◌}
use mathlib.Core.Bool.{true, false, ◌&&◌, ◌||◌}
use mathlib.Core.Logic.{◌≢◌, ◌⊎◌, inl, inr}
use mathlib.Core.Path.{◌≡◌, refl, sym, ap, ap₂, subst, ◌∙◌}
use mathlib.Core.List.{List, ◌++◌}
use lib.Dec.{eqb, leb, ltb}
use lib.ListN.{take}
use native.Mathlib.Omega.{arith}
use borrow.Author.Tests.{leb-true}
use Rattle.ground.specs.Limits.{slot_count}
use Rattle.ground.specs.Tests.{member}
use Rattle.ground.proofs.Bools.{not_both, and_first, and_second}
use Rattle.ground.proofs.Tests.{member_none}
use Rattle.slots.specs.declared.Op.{Op}
use Rattle.slots.specs.declared.Task.{Task}
use Rattle.slots.specs.declared.Task.TheVariants.{Closed, Open}
use Rattle.slots.specs.declared.Slot.{Slot}
use Rattle.slots.specs.declared.Lock.{Lock}
use Rattle.slots.specs.declared.Lock.TheVariants.{Xi}
use Rattle.slots.specs.declared.State.{State}
use Rattle.slots.specs.Parts.{is_open, held_lock, is_third, held, path_of, beside_of, want_at, holds_at}
use Rattle.slots.specs.Locks.{lock_held, lock_held_at, lock_wanted_at, clash}
use Rattle.slots.specs.Sound.{within_limits}
use Rattle.slots.specs.Grant.{no_clash, no_older, converts_at, no_conversion, grants}
use Rattle.slots.proofs.SoundFacts.{SoundSlot, SoundState}
use Rattle.slots.proofs.LockLaws.{is_lock, can_hold_lem, can_hold_locks, clash_swap, others_go}

-- No other slot holds the wanted page of a granted slot with a clashing lock.
pub granted_no_clash : (st : State) (s : ℕ) → grants st s ≡ true → (t : ℕ) → t < slot_count → t ≢ s → holds_at st t (want_at st s) ≡ true → clash (lock_held_at st t (want_at st s)) (lock_wanted_at st s) ≡ false
unfolding no_clash
granted_no_clash st s g = others_go st s (want_at st s) (lock_wanted_at st s) (and_first (no_clash st s) (converts_at st s || (no_older st s && no_conversion st s)) g)

-- a slot that holds a page is open
holder_task : (task : Task) (depth beside p : ℕ) (path siblings : List ℕ) → within_limits task depth beside ≡ true → member p (take depth path ++ take beside siblings) ≡ true → is_open task ≡ true
holder_task Closed depth beside p path siblings h m =
    let fewer = eqb beside 0 || ltb beside depth in
    let most = and_first (leb depth 0 && leb beside 0) fewer h in
    let d : depth ≡ 0 = omega (arith, leb-true depth 0 (and_first (leb depth 0) (leb beside 0) most)) in
    let e : beside ≡ 0 = omega (arith, leb-true beside 0 (and_second (leb depth 0) (leb beside 0) most)) in
    not_both (subst (λ (l : List ℕ). member p l ≡ true) (ap₂ (λ (i j : ℕ). take i path ++ take j siblings) d e) m) (member_none p)
holder_task (Open op) depth beside p path siblings h m = refl

pub holder_open : (n : ℕ) (s : Slot) (p : ℕ) → SoundSlot n s → member p (held s) ≡ true → is_open s.task ≡ true
unfolding path_of beside_of
holder_open n s p f m = holder_task s.task s.depth s.breadth p s.path s.beside f.limits m

-- what it holds it holds under the kind with which its operation goes down, or by the third way with ξ,
pub held_lock_lem : (n : ℕ) (s : Slot) (op : Op) (p : ℕ) → SoundSlot n s → s.task ≡ Open op → member p (held s) ≡ true
    → (lock_held s p ≡ held_lock op) ⊎ ((is_third op ≡ true) × (lock_held s p ≡ Xi))
held_lock_lem n s op p f e m = can_hold_lem op (lock_held s p) (f.under op e p m)

-- so with a lock
holder_under : (n : ℕ) (s : Slot) (p : ℕ) (task : Task) → SoundSlot n s → s.task ≡ task → is_open task ≡ true → member p (held s) ≡ true → is_lock (lock_held s p) ≡ true
holder_under n s p Closed f e o m = not_both o refl
holder_under n s p (Open op) f e o m = can_hold_locks op (lock_held s p) (f.under op e p m)

pub holder_locks : (n : ℕ) (s : Slot) (p : ℕ) → SoundSlot n s → member p (held s) ≡ true → is_lock (lock_held s p) ≡ true
holder_locks n s p f m = holder_under n s p s.task f refl (holder_open n s p f m) m

-- A granted slot that holds from now on a page that it held, under the same kind, or the one that it wanted, under the kind that it wanted,
-- clashes with no other slot that holds it: what `goes_on_sound` asks.
abbrev pub Takable : State → ℕ → Slot → ℕ → Type 0
Takable st s slot p =
    ((holds_at st s p ≡ true) × (lock_held slot p ≡ lock_held_at st s p)) ⊎ ((p ≡ want_at st s) × (lock_held slot p ≡ lock_wanted_at st s))

pub taking_fits : (st : State) → SoundState st → (s : ℕ) → s < slot_count → grants st s ≡ true → (slot : Slot)
    → (p : ℕ) → Takable st s slot p
    → (t : ℕ) → t < slot_count → t ≢ s → holds_at st t p ≡ true → clash (lock_held slot p) (lock_held_at st t p) ≡ false
taking_fits st f s b g slot p (inl (h, same)) t c n m =
    ap (λ (lock : Lock). clash lock (lock_held_at st t p)) same ∙ f.locks s t b c (λ e. n (sym e)) p h m
taking_fits st f s b g slot p (inr (e, same)) t c n m =
    ap (λ (lock : Lock). clash lock (lock_held_at st t p)) same
    ∙ clash_swap (lock_wanted_at st s) (lock_held_at st t p)
    ∙ subst (λ (q : ℕ). clash (lock_held_at st t q) (lock_wanted_at st s) ≡ false) (sym e)
    (granted_no_clash st s g t c n (subst (λ (q : ℕ). holds_at st t q ≡ true) e m))
