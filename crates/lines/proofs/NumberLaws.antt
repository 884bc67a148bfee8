-- Laws of a number at the front: what the digits that were counted there make of it, and what stands of it alone on a line.
use Prim.Native.Nat.{ℕ, ◌≤◌, ◌<◌}
use mathlib.Core.List.{List}
use mathlib.Core.Path.{◌≡◌, ap, ap₂, sym, ◌∙◌}
use native.Mathlib.Omega.{arith}
use borrow.Author.Tests.{lt-ltb, le-ltb, le-leb, lt-leb}
use lib.Dec.{leb, ltb}
use lib.ListN.{length, drop, drop_of_length-le}
use lib.Seq.{drop-cons}
use Rattle.ground.proofs.Bools.{and_both, and_first_fails, and_second_fails}
use Rattle.ground.proofs.Choice.{cond-true, cond-false}
use Rattle.lines.specs.Meaning.{digits, value, largest, no_number, number, front, alone}
use Rattle.lines.specs.Positions.{Counted}

module _ (bs : List ℕ) {worth end : ℕ} (c : Counted bs worth end) where
  -- no digit, no number
  pub front_empty : end ≡ 0 → front bs ≡ no_number
  unfolding front
  front_empty e =
      let ds : List ℕ = digits bs in
      cond-false _ _ (and_first_fails (leb (value ds) largest) (le-ltb 0 (length ds) (omega (arith, c.ends))))

  -- a number above the largest is none
  pub front_large : largest < worth → front bs ≡ no_number
  unfolding front
  front_large h =
      let ds : List ℕ = digits bs in
      cond-false _ _ (and_second_fails (ltb 0 (length ds)) (lt-leb (value ds) largest (omega (arith, c.alike))))

  -- any other is the number
  pub front_number : (end ≡ 0 → ⊥) → worth ≤ largest → front bs ≡ number worth (drop end bs)
  unfolding front
  front_number f h =
      let ds : List ℕ = digits bs in
      let same : value ds ≡ worth = omega (arith, c.alike) in
      cond-true _ _ (and_both (lt-ltb 0 (length ds) (omega (arith, c.ends, f))) (le-leb (value ds) largest (omega arith)))
      ∙ ap₂ number same (ap (λ (k : ℕ). drop k bs) (sym c.ends))

module _ (line : List ℕ) (n : ℕ) {end : ℕ} where
  -- bytes are left behind the number
  pub alone_not : end < length line → alone (number n (drop end line)) ≡ no_number
  alone_not h = rw (drop-cons line end 0 h)

  -- the number ends the line
  pub alone_is : length line ≤ end → alone (number n (drop end line)) ≡ number n (drop end line)
  alone_is h = rw (drop_of_length-le line h)
