-- 02 (i): a Next answers "with the first entry whose key is at or above a given one". In a run that is the plain list's answer. This is
-- said of every state and all words, damaged ones too.
use Rattle.std.specs.Prelude.{ℕ, ◌≤◌, true, List, ◌≡◌}
use Rattle.slots.specs.declared.Op.{Op}
use Rattle.slots.specs.declared.State.{State}
use Rattle.slots.specs.declared.Answer.TheVariants.{Next as NextLot}
use Rattle.slots.specs.Parts.{key_of, is_next, Opened}
use Rattle.index.specs.Step.{stepped}

-- A step that is answered with a lot is a Next's, and the lot's key is at or above the one asked.
abbrev pub NextAbove : Type 0
NextAbove =
    (st : State) (ws : List ℕ) (s : ℕ) (op : Op) (y v : ℕ) → Opened st s op → (stepped st ws s).answer ≡ NextLot y v
    → (is_next op ≡ true) × (key_of op ≤ y)
