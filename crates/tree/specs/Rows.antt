-- Rows: things in order, each behind a key. The entries of a leaf are a row, and so are the children of an upper page,
-- where the first child's key is the lower end of the page's range and the others are its reference keys. So what is
-- said of cutting and joining is said once for both.
use Rattle.std.specs.Prelude.{ℕ, ◌+◌, ◌<◌, cond, List, [], ◌∷◌, ◌++◌, map, ◌⊎◌, leb, drop}
use Rattle.page.specs.Words.{Keyed, Entry, Page, entry, page}

-- where a row begins: its first key, or the end of the range where it is empty
abbrev pub head_key : {C : Type 0} → List (Keyed C) → ℕ → ℕ
head_key [] hi = hi
head_key (d ∷ ds) hi = d.key

-- Keys rise strictly and lie below hi, and each thing has P with its range: from its key to the next key, or to hi.
abbrev pub Span : {C : Type 0} → (C → ℕ → ℕ → Type 0) → List (Keyed C) → ℕ → Type 0
Span P [] hi = Unit {0}
Span P (d ∷ ds) hi = (d.key < head_key ds hi) × P d.value d.key (head_key ds hi) × Span P ds hi

-- some thing of the row has P with its range
abbrev pub Somewhere : {C : Type 0} → (C → ℕ → ℕ → Type 0) → List (Keyed C) → ℕ → Type 0
Somewhere P [] hi = ⊥
Somewhere P (d ∷ ds) hi = P d.value d.key (head_key ds hi) ⊎ Somewhere P ds hi

-- each thing of the row has P
abbrev pub Each : {C : Type 0} → (C → Type 0) → List (Keyed C) → Type 0
Each P [] = Unit {0}
Each P (d ∷ ds) = P d.value × Each P ds

-- what f gives for each thing, one behind the other; and summed up
abbrev pub gathered : {C : Type 0} → (C → List Entry) → List (Keyed C) → List Entry
gathered f [] = []
gathered f (d ∷ ds) = f d.value ++ gathered f ds

abbrev pub total : {C : Type 0} → (C → ℕ) → List (Keyed C) → ℕ
total f [] = 0
total f (d ∷ ds) = f d.value + total f ds

-- what f gives for the thing to which x belongs: the last one whose key is at most x, or the first
abbrev pub followed : {C B : Type 0} → (C → B) → B → ℕ → List (Keyed C) → B
followed f none x [] = none
followed f none x (d ∷ []) = f d.value
followed f none x (d ∷ (e ∷ es)) = cond (leb e.key x) (followed f none x (e ∷ es)) (f d.value)

-- The upper page of a row of children: p0 is the first child's page, the others stand behind their reference keys.
abbrev pub top_pointer : {C : Type 0} → (C → ℕ) → List (Keyed C) → ℕ
top_pointer at [] = 0
top_pointer at (d ∷ ds) = at d.value

abbrev pub references : {C : Type 0} → (C → ℕ) → List (Keyed C) → List Entry
references {C} at row = map (λ (d : Keyed C). entry d.key (at d.value)) row

abbrev pub row_page : {C : Type 0} → ℕ → (C → ℕ) → List (Keyed C) → Page
row_page level at row = page level (top_pointer at row) (references at (drop 1 row))
