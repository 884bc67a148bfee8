-- A test that goes through to its end: so far all is well, and something is known of what was passed; or not, and then the
-- whole is not well either.
use mathlib.Core.Bool.{Bool, true, false, ◌&&◌, false≢true}
use mathlib.Core.Logic.{◌⊎◌, inl, inr}
use mathlib.Core.Path.{◌≡◌, refl, sym, ◌∙◌}

abbrev pub Sofar : Bool → Bool → Type 0 → Type 0
Sofar whole good Passed = ((good ≡ true) × Passed) ⊎ ((good ≡ false) × (false ≡ whole))

-- one thing more
pub sofar_on : {P Q : Type 0} (whole good test : Bool) → Sofar whole good P → (test ≡ true → P → Q) → (test ≡ false → false ≡ whole)
    → Sofar whole (good && test) Q
sofar_on whole true true (inl (g, p)) on stop = inl (refl, on refl p)
sofar_on whole true false (inl (g, p)) on stop = inr (refl, stop refl)
sofar_on whole false test (inl (g, p)) on stop = inr (refl, absurd (false≢true g))
sofar_on whole false test (inr (g, b)) on stop = inr (refl, b)
sofar_on whole true test (inr (g, b)) on stop = absurd (false≢true (sym g))

-- the end
pub sofar_done : {P : Type 0} (whole good : Bool) → Sofar whole good P → (P → true ≡ whole) → good ≡ whole
sofar_done whole good (inl (g, p)) done = g ∙ done p
sofar_done whole good (inr (g, b)) done = g ∙ b
