-- The lines of an input, from its first line on: an ended line and the lines behind its line feed, or one unended line.
use Prim.Native.Nat.{ℕ, suc, ◌+◌, ◌-◌, ◌≤◌, ◌<◌}
use mathlib.Core.Bool.{Bool, true, false, cond}
use mathlib.Core.List.{List, [], ◌∷◌}
use mathlib.Core.Path.{◌≡◌, refl, sym, ap, ap₂, ◌∙◌}
use native.Mathlib.Nat.{not-suc-le-zero}
use native.Mathlib.Omega.{arith}
use lib.Dec.{eqb}
use lib.ListN.{length, take, drop, drop_of_length-le, length-drop}
use lib.Seq.{drop-drop}
use Rattle.lines.specs.Ends.{first_line, line_end}
use Rattle.lines.proofs.Ending.{line_part}
use Rattle.talk.specs.Split.{Line, ended, unended, longer, lines_of}

-- a line feed stands behind the first line
split_ended : (bs : List ℕ) → length (first_line bs) < length bs
    → lines_of bs ≡ ended (first_line bs) ∷ lines_of (drop (suc (length (first_line bs))) bs)
unfolding first_line lines_of
split_ended [] h = absurd (not-suc-le-zero h)
split_ended (b ∷ bs) h = go (eqb b 10) (split_ended bs) h
  where
    go : (t : Bool)
        → (length (first_line bs) < length bs → lines_of bs ≡ ended (first_line bs) ∷ lines_of (drop (suc (length (first_line bs))) bs))
        → length (cond t [] (b ∷ first_line bs)) < suc (length bs)
        → cond t (ended [] ∷ lines_of bs) (longer b (lines_of bs))
        ≡ ended (cond t [] (b ∷ first_line bs)) ∷ lines_of (drop (suc (length (cond t [] (b ∷ first_line bs)))) (b ∷ bs))
    go true rest k = refl
    go false rest k = ap (longer b) (rest (omega (arith, k)))

-- none stands behind it: it is the only line, if there is one
only : List ℕ → List Line
only [] = []
only (b ∷ bs) = unended (b ∷ bs) ∷ []

longer_only : (b : ℕ) (bs : List ℕ) → longer b (only bs) ≡ unended (b ∷ bs) ∷ []
unfolding only
longer_only b [] = refl
longer_only b (c ∷ bs) = refl

split_only : (bs : List ℕ) → length (first_line bs) ≡ length bs → lines_of bs ≡ only bs
unfolding first_line lines_of only
split_only [] e = refl
split_only (b ∷ bs) e = go (eqb b 10) (split_only bs) e
  where
    go : (t : Bool) → (length (first_line bs) ≡ length bs → lines_of bs ≡ only bs)
        → length (cond t [] (b ∷ first_line bs)) ≡ suc (length bs)
        → cond t (ended [] ∷ lines_of bs) (longer b (lines_of bs)) ≡ unended (b ∷ bs) ∷ []
    go true rest k = absurd (omega (arith, k))
    go false rest k = ap (longer b) (rest (omega (arith, k))) ∙ longer_only b bs

unended_line : (bs : List ℕ) → 0 < length bs → length (first_line bs) ≡ length bs → lines_of bs ≡ unended bs ∷ []
unfolding only
unended_line [] h e = absurd (not-suc-le-zero h)
unended_line (b ∷ bs) h e = split_only (b ∷ bs) e

-- ---- the same from a position of the input on

module _ (input : List ℕ) (at : ℕ) where
  -- the line ends before the input does
  pub next_line : line_end input at < length input
      → lines_of (drop at input) ≡ ended (take (line_end input at - at) (drop at input)) ∷ lines_of (drop (line_end input at + 1) input)
  next_line h =
      let n : ℕ = length (first_line (drop at input)) in
      let feed : at + suc n ≡ at + n + 1 = omega arith in
      let behind : drop (suc n) (drop at input) ≡ drop (at + n + 1) input =
      drop-drop (suc n) at input ∙ ap (λ (k : ℕ). drop k input) feed in
      split_ended (drop at input) (omega (arith, h, length-drop at input))
      ∙ ap₂ (λ (l : List ℕ) (rest : List ℕ). ended l ∷ lines_of rest) (sym (line_part input at)) behind

  -- it ends with the input: no line feed is left
  pub last_line : at < length input → line_end input at ≡ length input → lines_of (drop at input) ≡ unended (drop at input) ∷ []
  last_line h e = unended_line (drop at input) (omega (arith, length-drop at input)) (omega (arith, e, length-drop at input))

  -- behind the last byte stands no line
  pub no_line : length input ≤ at → lines_of (drop at input) ≡ []
  unfolding lines_of
  no_line h = rw (drop_of_length-le input h)
