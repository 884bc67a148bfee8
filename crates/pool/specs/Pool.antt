-- Pages in the lent words: reading and writing one, the fresh pool, free pages. "Pool and pages" of document 01.
use Rattle.std.specs.Prelude.{ℕ, ◌*◌, Bool, not, ◌&&◌, List, [], ◌∷◌, leb, eqb, get_or, take, drop, set, replicate}
use Rattle.std.proofs.lemmas.List.Edits.{sets}
use Rattle.ground.specs.Tests.{list_below}
use Rattle.page.specs.Words.{Page, size, view, encode}

-- "The pool has N pages .. and exactly N(4k+3) words."
unfoldable pub pool_length : ℕ → ℕ → ℕ
pool_length k n = n * size k

-- "numbered from 0": where page p starts
unfoldable pub start : ℕ → ℕ → ℕ
start k p = p * size k

-- the words of page p
unfoldable pub words_of : ℕ → ℕ → List ℕ → List ℕ
words_of k p ws = take (size k) (drop (start k p) ws)

-- the page that the words of page p stand for
unfoldable pub page_at : ℕ → List ℕ → ℕ → Page
page_at k ws p = view (words_of k p ws)

-- One page written, and its new value.
pub record Write : Type 0 where
  pub at : ℕ
  pub value : Page

abbrev pub write : ℕ → Page → Write
write p P = record { at = p; value = P }

-- the words with page p written whole
unfoldable pub written : ℕ → Write → List ℕ → List ℕ
written k w ws = sets ws (start k w.at) (encode k w.value)

-- the words with a list of pages written, the first one first
unfoldable pub applied : ℕ → List Write → List ℕ → List ℕ
applied k [] ws = ws
applied k (w ∷ rest) ws = applied k rest (written k w ws)

-- "A free page has level 0 .. Page 0 is never free."
unfoldable pub is_free : ℕ → List ℕ → ℕ → Bool
is_free k ws p = not (eqb p 0) && eqb (get_or (words_of k p ws) 0 0) 0

-- all free pages; "each time the lowest-numbered free one" is then one after the other from the front
unfoldable pub free_pages : ℕ → ℕ → List ℕ → List ℕ
free_pages k n ws = list_below n (is_free k ws)

-- page p is free, and not below page `from`: where a scan goes on
abbrev pub free_from : ℕ → List ℕ → ℕ → ℕ → Bool
free_from k ws from p = leb from p && is_free k ws p

-- "Making a fresh pool writes every word: all zero but page 0's level, 1."
unfoldable pub fresh : ℕ → ℕ → List ℕ
fresh k n = set (replicate (pool_length k n) 0) 0 1
