-- When a step grants a want. "Slots, locks and steps" of document 01, as 02 (iii) corrects it, with the conversions of 02 (vi).
use Rattle.std.specs.Prelude.{ℕ, Bool, cond, not, ◌&&◌, ◌||◌, List, [], ◌∷◌, eqb}
use Rattle.ground.specs.Limits.{slot_count}
use Rattle.ground.specs.Tests.{all, all_below}
use Rattle.slots.specs.declared.State.{State}
use Rattle.slots.specs.Parts.{want_at, holds_at, waiting_order}
use Rattle.slots.specs.Locks.{lock_wanted_at, clash, no_clash_on}

-- the slots whose wants are older than slot s's
unfoldable pub older_than : ℕ → List ℕ → List ℕ
older_than s [] = []
older_than s (t ∷ ts) = cond (eqb t s) [] (t ∷ older_than s ts)

-- "no other slot holds a clashing lock on that page"
unfoldable pub no_clash : State → ℕ → Bool
no_clash st s = no_clash_on st s (want_at st s) (lock_wanted_at st s)

-- slot t wants the page that slot s wants, and the kinds they want clash
abbrev pub clashing_want : State → ℕ → ℕ → Bool
clashing_want st s t = eqb (want_at st t) (want_at st s) && clash (lock_wanted_at st t) (lock_wanted_at st s)

-- 01: "no older want is for the same page". 02 (iii): "The paper makes a want wait behind every older want on its page. .. Correct
-- it: a want waits only for held locks and older wants that clash with it."
unfoldable pub no_older : State → ℕ → Bool
no_older st s = all (λ (t : ℕ). not (clashing_want st s t)) (older_than s (waiting_order st))

-- 02 (vi): "A conversion wants a held page"
abbrev pub converts_at : State → ℕ → Bool
converts_at st s = holds_at st s (want_at st s)

-- another slot waits to convert the page that slot s wants
abbrev pub conversion_on : State → ℕ → ℕ → Bool
conversion_on st s t = eqb (want_at st t) (want_at st s) && converts_at st t

-- "and comes before every other want on it": whatever their kinds, and whichever is older
unfoldable pub no_conversion : State → ℕ → Bool
no_conversion st s = all_below slot_count (λ (t : ℕ). eqb t s || not (conversion_on st s t))

-- 01: "A step grants the want when no other slot holds a clashing lock on that page and no older want is for the same page.", of
-- older wants those that clash. A conversion waits for held locks alone; any other want waits for conversions of its page too.
abbrev pub grants : State → ℕ → Bool
grants st s = no_clash st s && (converts_at st s || (no_older st s && no_conversion st s))
