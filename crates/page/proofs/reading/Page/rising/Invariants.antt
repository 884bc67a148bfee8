-- The loop's invariant: each key passed is above the one before, or the keys do not rise.
use Prim.Native.Nat.{ℕ, ◌-◌, ◌≤◌, ◌<◌}
use Rattle.page.specs.Words.{view}
use Rattle.page.specs.Sound.{rises}
use Rattle.page.proofs.RiseLaws.{key_at}
use Rattle.page.proofs.SofarLaws.{Sofar}
use Rattle.page.proofs.reading.Page.rising.Given as goal

abbrev pub invariant-loop-i : goal.invariant-loop-i
invariant-loop-i l = Sofar (rises (view l.self.words.now).entries) l.good ((j : ℕ) → j < l.i → 1 ≤ j → key_at (j - 1) (view l.self.words.now).entries < key_at j (view l.self.words.now).entries)
