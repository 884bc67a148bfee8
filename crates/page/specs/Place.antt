-- Where a key stands in a page, and where it leads. "Pool and pages" of document 01.
use Rattle.std.specs.Prelude.{ℕ, Bool, false, cond, ◌||◌, List, [], ◌∷◌, leb, eqb, get_or}
use Rattle.ground.specs.Tests.{count}
use Rattle.page.specs.Words.{Keyed, Entry, Page, entry, pointers}

-- "how many reference keys are at most the key". In a leaf: how many keys are, which is where a new key goes.
unfoldable pub place : {A : Type 0} → ℕ → List (Keyed A) → ℕ
place {A} x es = count (λ (e : Keyed A). leb e.key x) es

-- pi
abbrev pub pointer : ℕ → Page → ℕ
pointer i P = get_or (pointers P) i 0

-- "The route for a key is pi, where i is how many reference keys are at most the key."
abbrev pub route : ℕ → Page → ℕ
route x P = pointer (place x P.entries) P

-- the key stands among the entries
unfoldable pub has : ℕ → List Entry → Bool
has x [] = false
has x (e ∷ es) = eqb e.key x || has x es

-- the information that stands with the key; 0 where the key does not stand
unfoldable pub information : ℕ → List Entry → ℕ
information x [] = 0
information x (e ∷ es) = cond (eqb e.key x) e.value (information x es)

-- the entries from the first one on whose key is at or above x
unfoldable pub at_or_above : ℕ → List Entry → List Entry
at_or_above x [] = []
at_or_above x (e ∷ es) = cond (leb x e.key) (e ∷ es) (at_or_above x es)

-- the entries less the key
unfoldable pub without : ℕ → List Entry → List Entry
without x [] = []
without x (e ∷ es) = cond (eqb e.key x) es (e ∷ without x es)

-- the entries with new information under the key: the same keys, where the key does not stand the same entries
unfoldable pub regraded : ℕ → ℕ → List Entry → List Entry
regraded x v [] = []
regraded x v (e ∷ es) = cond (eqb e.key x) (entry e.key v ∷ es) (e ∷ regraded x v es)
