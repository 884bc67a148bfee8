-- A page as words and as a value. "Pool and pages" of document 01.
use Rattle.std.specs.Prelude.{ℕ, zero, suc, ◌+◌, ◌-◌, ◌*◌, Bool, cond, List, [], ◌∷◌, ◌++◌, map, eqb, length, get_or, drop, replicate}

-- "A page is 4k+3 words."
abbrev pub size : ℕ → ℕ
size k = 4 * k + 3

-- A pair of a key and what stands behind it.
pub record Keyed (A : Type 0) : Type 0 where
  pub key : ℕ
  pub value : A

abbrev pub keyed : {A : Type 0} → ℕ → A → Keyed A
keyed x v = record { key = x; value = v }

-- A pair of a leaf: key and information. A pair above the leaves: reference key ri and pointer pi.
abbrev pub Entry : Type 0
Entry = Keyed ℕ

abbrev pub entry : ℕ → ℕ → Entry
entry x v = keyed x v

abbrev pub key_of : Entry → ℕ
key_of e = e.key

abbrev pub value_of : Entry → ℕ
value_of e = e.value

-- A page's value: its level, p0 (0 in a leaf) and its pairs in order.
pub record Page : Type 0 where
  pub level : ℕ
  pub first : ℕ
  pub entries : List Entry

abbrev pub page : ℕ → ℕ → List Entry → Page
page l p es = record { level = l; first = p; entries = es }

-- "the number μ"
abbrev pub μ : Page → ℕ
μ P = length P.entries

-- "A leaf is level 1"
abbrev pub is_leaf : Page → Bool
is_leaf P = eqb P.level 1

-- p0, p1, ... pμ
abbrev pub pointers : Page → List ℕ
pointers P = P.first ∷ map value_of P.entries

-- "A free page has level 0, and in a pool that only these calls wrote it is all zeros."
abbrev pub free_page : Page
free_page = page 0 0 []

-- pairs as words, one after the other
unfoldable pub flat : List Entry → List ℕ
flat [] = []
flat (e ∷ es) = e.key ∷ e.value ∷ flat es

-- "Word 0 is the level, word 1 the number μ. Above level 1 follow p0, r1, p1, ... rμ, pμ in 000's order.
-- A leaf is level 1: after word 1 come μ pairs of key and information."
abbrev pub used : Page → List ℕ
used P = P.level ∷ μ P ∷ cond (is_leaf P) (flat P.entries) (P.first ∷ flat P.entries)

-- "Unused words are 0."
unfoldable pub encode : ℕ → Page → List ℕ
encode k P = used P ++ replicate (size k - length (used P)) 0

-- the first m pairs of some words
unfoldable pub pairs : ℕ → List ℕ → List Entry
pairs zero ws = []
pairs (suc m) [] = []
pairs (suc m) (x ∷ []) = []
pairs (suc m) (x ∷ (v ∷ ws)) = entry x v ∷ pairs m ws

-- where the pairs begin: behind word 1 in a leaf, behind p0 above
abbrev pub pairs_from : ℕ → ℕ
pairs_from level = cond (eqb level 1) 2 3

-- The value that a page's words stand for.
unfoldable pub view : List ℕ → Page
view ws =
    page (get_or ws 0 0) (cond (eqb (get_or ws 0 0) 1) 0 (get_or ws 2 0)) (pairs (get_or ws 1 0) (drop (pairs_from (get_or ws 0 0)) ws))
