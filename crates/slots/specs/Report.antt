-- The lock report for a page, for every argument. "What the caller hears" of document 01.
use Rattle.std.specs.Prelude.{ℕ, zero, suc, ◌+◌, ◌^◌, Bool, cond, not, ◌&&◌, ltb, eqb}
use Rattle.ground.specs.Limits.{slot_count}
use Rattle.ground.specs.Tests.{any_below, count_below, first_below}
use Rattle.slots.specs.declared.State.{State}
use Rattle.slots.specs.declared.Lock.{Lock}
use Rattle.slots.specs.declared.Lock.TheVariants.{None, Rho, Xi, UpdaterRho, Alpha}
use Rattle.slots.specs.declared.Answer.{Answer}
use Rattle.slots.specs.declared.Answer.TheVariants.{Reported, BadState, BadPage}
use Rattle.slots.specs.Parts.{holds_at}
use Rattle.slots.specs.Locks.{lock_held_at}
use Rattle.slots.specs.Heard.{lock_number}
use Rattle.slots.specs.Sound.{sound}

-- "how many slots hold the page"
abbrev pub holders : State → ℕ → ℕ
holders st p = count_below slot_count (λ (s : ℕ). holds_at st s p)

-- "the lowest-numbered holder; with no holder: .. 16"
abbrev pub lowest_holder : State → ℕ → ℕ
lowest_holder st p = first_below slot_count (λ (s : ℕ). holds_at st s p)

-- the numbers below n that pass, as a mask: bit i stands for i
unfoldable pub mask_below : ℕ → (ℕ → Bool) → ℕ
mask_below zero p = 0
mask_below (suc n) p = cond (p n) (2 ^ n + mask_below n p) (mask_below n p)

-- the slots that hold the page, as a mask
abbrev pub holders_mask : State → ℕ → ℕ
holders_mask st p = mask_below slot_count (λ (s : ℕ). holds_at st s p)

-- some slot holds page p under this kind
abbrev pub held_under : State → ℕ → Lock → Bool
held_under st p lock = any_below slot_count (λ (s : ℕ). holds_at st s p && eqb (lock_number (lock_held_at st s p)) (lock_number lock))

-- "the lock kind .. with no holder: none". 02 (vi): "a lock report gives the first that is there of ξ, α, updater's ρ, ρ"
abbrev pub lock_kind : State → ℕ → Lock
lock_kind st p =
    cond (held_under st p Xi) Xi
    (cond (held_under st p Alpha) Alpha
    (cond (held_under st p UpdaterRho) UpdaterRho
    (cond (held_under st p Rho) Rho
    None)))

-- "Report: 1, 7."
unfoldable pub reported : State → ℕ → Answer
reported st p =
    cond (not (sound st))
    BadState
    (cond (not (ltb p st.n)) BadPage (Reported (lock_kind st p) (holders st p) (lowest_holder st p)))
