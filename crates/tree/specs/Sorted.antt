-- The plain sorted list that the tree stands for.
use Rattle.std.specs.Prelude.{ℕ, List, ◌∷◌, ◌++◌, take, drop}
use Rattle.page.specs.Words.{Entry, entry}
use Rattle.page.specs.Place.{place}

-- the list with a new entry in its place
unfoldable pub inserted : ℕ → ℕ → List Entry → List Entry
inserted x v es = take (place x es) es ++ entry x v ∷ drop (place x es) es
