-- Writing the line of an answer's case writes the line of the answer; and no line of an answer is longer than 32 bytes.
use Prim.Native.Nat.{ℕ, ◌+◌, ◌^◌, ◌≤◌, ◌<◌}
use mathlib.Core.List.{List, [], ◌∷◌, ◌++◌, append_assoc}
use mathlib.Core.Path.{◌≡◌, sym, ap, ◌∙◌, subst⁻¹}
use native.Mathlib.Omega.{arith}
use lib.ListN.{length, length-append}
use Rattle.slots.specs.declared.Answer.{Answer}
use Rattle.slots.specs.declared.Answer.TheVariants.{Next}
use Rattle.lines.specs.Text.{laid}
use Rattle.lines.specs.Decimal.{decimal}
use Rattle.lines.specs.Names.{answer_line}
use Rattle.lines.proofs.Decimals.{word_short}

pub answered : (x : Answer) {a : Answer} (out : List ℕ) (at : ℕ) {out' : List ℕ} {r : ℕ} → a ≡ x
    → (out' ≡ laid out at (answer_line x)) × (r ≡ at + length (answer_line x))
    → length (answer_line x) ≤ 32
    → (out' ≡ laid out at (answer_line a)) × (r ≡ at + length (answer_line a)) × (length (answer_line a) ≤ 32)
answered x out at {out'} {r} e w h =
    subst⁻¹ (λ (y : Answer). (out' ≡ laid out at (answer_line y)) × (r ≡ at + length (answer_line y)) × (length (answer_line y) ≤ 32)) e
    (w.0, w.1, h)

-- a name with a space, and information behind it, a 32-bit number
pub informed-short : (name : List ℕ) (v : ℕ) → length name ≤ 21 → v < 2 ^ 32 → length (name ++ decimal v ++ (10 ∷ [])) ≤ 32
informed-short name v g h =
    omega (arith, g, word_short v h, length-append (name ++ decimal v) (10 ∷ []), length-append name (decimal v))

-- with a key in front of it
pub next-short : (x v : ℕ) → x < 2 ^ 32 → v < 2 ^ 32 → length (answer_line (Next x v)) ≤ 32
next-short x v g h =
    omega (
      arith,
      word_short x g,
      word_short v h,
      length-append (decimal x ++ (32 ∷ []) ++ decimal v) (10 ∷ []),
      length-append (decimal x ++ (32 ∷ [])) (decimal v),
      length-append (decimal x) (32 ∷ []),
    )

-- a word, and behind it a space, a number and a line feed: one word
pub value-behind : (word spelt : List ℕ) → word ++ ((32 ∷ []) ++ spelt ++ (10 ∷ [])) ≡ word ++ (32 ∷ []) ++ spelt ++ (10 ∷ [])
value-behind word spelt =
    sym (append_assoc word ((32 ∷ []) ++ spelt) (10 ∷ []))
    ∙ ap (λ (l : List ℕ). l ++ (10 ∷ [])) (sym (append_assoc word (32 ∷ []) spelt))
