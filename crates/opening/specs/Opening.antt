-- Opening a pool that somebody hands us: what is asked of its words. 02 (vii): "a check that accepts words with k and N exactly if they
-- form the B*-tree of document 01 from page 0, every other page is all zeros, and no page hangs in two places". That this test passes
-- exactly then is proved of the tree of demand 2 (crate tree, Opening).
use Rattle.std.specs.Prelude.{ℕ, zero, suc, ◌-◌, Bool, cond, not, ◌&&◌, ◌||◌, List, [], ◌∷◌, ◌++◌, leb, ltb, eqb, ⊤, Result, Ok, Err, Option, Some, None}
use Rattle.ground.specs.Limits.{word_range}
use Rattle.ground.specs.Tests.{all, member, distinct, all_below, first_below}
use Rattle.page.specs.Words.{Entry, Page, pointers}
use Rattle.page.specs.Sound.{sound_by_itself}
use Rattle.pool.specs.Pool.{words_of, page_at}
use Rattle.opening.specs.declared.checking.Fault.{Fault}
use Rattle.opening.specs.declared.checking.Fault.TheVariants.{Unsound, NoTree}

-- ---- each page by itself

-- "all zeros"
abbrev pub is_zero : ℕ → List ℕ → ℕ → Bool
is_zero k ws p = all (λ (w : ℕ). eqb w 0) (words_of k p ws)

-- "sound by itself (all zeros and not page 0, or its level, μ, keys, pointers and unused words as 01 has them)"
abbrev pub sound_alone : ℕ → ℕ → List ℕ → ℕ → Bool
sound_alone k n ws p = sound_by_itself k n p (words_of k p ws) || (not (eqb p 0) && is_zero k ws p)

-- "the lowest-numbered page that is not sound by itself"; N where there is none
unfoldable pub lowest_unsound : ℕ → ℕ → List ℕ → ℕ
lowest_unsound k n ws = first_below n (λ (p : ℕ). not (sound_alone k n ws p))

-- that page, if there is one
abbrev pub unsound_page : ℕ → ℕ → List ℕ → Option ℕ
unsound_page k n ws = cond (ltb (lowest_unsound k n ws) n) (Some (lowest_unsound k n ws)) None

-- ---- the tree

-- the keys are from lo on and below hi
unfoldable pub within : ℕ → ℕ → List Entry → Bool
within lo hi es = all (λ (e : Entry). leb lo e.key && ltb e.key hi) es

-- "Keys under p(i-1) are less than ri; keys under pi are at least ri": child p of a page has the keys from lo up to the next reference
-- key, and the last child up to where the page's own keys end. `es` are the reference keys behind p, each with its child.
unfoldable pub children : (ℕ → ℕ → ℕ → Bool) → ℕ → ℕ → List Entry → ℕ → Bool
children hangs p lo [] hi = hangs p lo hi
children hangs p lo (e ∷ es) hi = hangs p lo e.key && children hangs e.value e.key es hi

-- Page p is on level l + 1, and its keys, and those of all pages below it, are from lo on and below hi. (A reference key lo would leave
-- no key for the child before it.)
unfoldable pub hangs : (ℕ → Page) → ℕ → ℕ → ℕ → ℕ → Bool
hangs memory zero p lo hi = eqb (memory p).level 1 && within lo hi (memory p).entries
hangs memory (suc l) p lo hi =
    eqb (memory p).level (suc (suc l))
    && within (suc lo) hi (memory p).entries
    && children (hangs memory l) (memory p).first lo (memory p).entries hi

-- what f gives for each, one behind the other
unfoldable pub for_each : (ℕ → List ℕ) → List ℕ → List ℕ
for_each f [] = []
for_each f (q ∷ qs) = f q ++ for_each f qs

-- The pages that are met from page p on level l + 1 downward, each before those below it, from the left.
unfoldable pub met : (ℕ → Page) → ℕ → ℕ → List ℕ
met memory zero p = p ∷ []
met memory (suc l) p = p ∷ for_each (met memory l) (pointers (memory p))

-- how many levels are below page 0's
abbrev pub depth : ℕ → List ℕ → ℕ
depth k ws = (page_at k ws 0).level - 1

-- "they form the B*-tree of document 01 from page 0, every other page is all zeros, and no page hangs in two places": of pages that are
-- each sound by itself.
unfoldable pub is_tree : ℕ → ℕ → List ℕ → Bool
is_tree k n ws =
    let pages = met (page_at k ws) (depth k ws) 0 in
    hangs (page_at k ws) (depth k ws) 0 0 word_range
    && distinct pages
    && all_below n (λ (q : ℕ). member q pages || is_zero k ws q)

-- "gives the lowest-numbered page that is not sound by itself ..; if all are, it says BadTree"
unfoldable pub checked : ℕ → ℕ → List ℕ → Result ⊤ Fault
checked k n ws = cond (ltb (lowest_unsound k n ws) n) (Err (Unsound (lowest_unsound k n ws))) (cond (is_tree k n ws) (Ok tt) (Err NoTree))
