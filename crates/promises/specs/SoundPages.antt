-- Pages sound for a step, in plain terms. "Pages are sound for a step if each held page and the wanted one has level 1 to 10 and, where its father is
-- held, one less than the father's, μ in range, rising keys, pointers all different and from 1 to N-1, unused words 0, and if these pages, read
-- again, are the ones the rules would have this operation hold and want at this point, and the page it would want next is none that it would
-- then hold." Demand 1 has that the rule's test, `sound_for_step`, passes exactly then.
-- A slot's path is given from the top downward, a deletion's siblings from the leaf's upward, the second way of a Next from the top downward.
use Rattle.std.specs.Prelude.{ℕ, suc, ◌+◌, ◌*◌, ◌≤◌, ◌<◌, true, false, List, [], ◌∷◌, ◌++◌, reverse, ◌⊎◌, ◌≢◌, ◌≡◌, length, get_or}
use Rattle.ground.specs.Limits.{tallest, blank_key}
use Rattle.page.specs.Words.{Entry, Page, μ, pointers}
use Rattle.page.specs.Place.{pointer}
use Rattle.page.specs.Splits.{entry_at}
use Rattle.page.specs.Short.{neighbour}
use Rattle.pool.specs.Pool.{words_of, page_at}
use Rattle.slots.specs.declared.Lock.{Lock}
use Rattle.slots.specs.declared.Lock.TheVariants.{Xi, Alpha}
use Rattle.slots.specs.Parts.{key_of, is_delete, is_next, Stand}
use Rattle.footing.specs.Granted.{answered_at_once, pages_in_turn}
use Rattle.runs.specs.PlainFacts.{Missing, AllBelow}
use Rattle.runs.specs.Stance.{Safe, StandsAtLeaf}
use Rattle.promises.specs.Terms.{In, Once, GoesWith, ByThird, ConvertsHere, HeldHere, WantsAs, NoMore}

-- ---- a page by itself

-- Page p of a pool of n pages, with these words, which stand for P. Word 1 is the number μ.
pub record PageSound (k n p : ℕ) (words : List ℕ) (P : Page) : Type 0 where
  -- "level 1 to 10"
  pub lowest : 1 ≤ P.level
  pub highest : P.level ≤ tallest
  -- "μ is k to 2k in every page but page 0. Page 0 is always the root: 1 to 2k, or 0 to 2k when it is a leaf"
  pub enough : p ≢ 0 → k ≤ get_or words 1 0
  pub root_enough : p ≡ 0 → P.level ≢ 1 → 1 ≤ get_or words 1 0
  pub room : get_or words 1 0 ≤ 2 * k
  -- "rising keys"
  pub rising : (i j : ℕ) → i < j → j < μ P → (entry_at i P.entries).key < (entry_at j P.entries).key
  -- 02 (viii): "a leaf with key 0" is "a page that is not sound"; of a reference key nothing is said
  pub no_blank : P.level ≡ 1 → Missing blank_key P.entries
  -- "pointers all different and from 1 to N-1": a leaf has none
  pub different : P.level ≢ 1 → Once (pointers P)
  pub in_pool : P.level ≢ 1 → (q : ℕ) → In q (pointers P) → (1 ≤ q) × (q < n)
  -- "unused words 0": those behind the pairs, which begin at word 2 of a leaf, and behind p0 above
  pub unused_in_leaf : P.level ≡ 1 → (i : ℕ) → 2 + 2 * get_or words 1 0 ≤ i → i < length words → get_or words i 0 ≡ 0
  pub unused_above : P.level ≢ 1 → (i : ℕ) → 3 + 2 * get_or words 1 0 ≤ i → i < length words → get_or words i 0 ≡ 0

-- ---- the pages that the rules would have it hold and want

-- just the first i keys are at most x
pub record PlaceIs (x : ℕ) (es : List Entry) (i : ℕ) : Type 0 where
  pub within : i ≤ length es
  pub before : (j : ℕ) → j < i → (entry_at j es).key ≤ x
  pub behind : (j : ℕ) → i ≤ j → j < length es → x < (entry_at j es).key

-- "The route for a key is pi, where i is how many reference keys are at most the key."
abbrev pub RoutesTo : ℕ → Page → ℕ → Type 0
RoutesTo x P q = (i : ℕ) × PlaceIs x P.entries i × (pointer i P ≡ q)

-- each page of a way leads x to the one behind it, whose level is "one less than the father's"
abbrev pub Way : (ℕ → Page) → ℕ → List ℕ → Type 0
Way memory x pages = (i : ℕ) → suc i < length pages
    → RoutesTo x (memory (get_or pages i 0)) (get_or pages (suc i) 0) × ((memory (get_or pages i 0)).level ≡ (memory (get_or pages (suc i) 0)).level + 1)

-- The pages still held are those whose ancestors could not be given up.
pub record KeptRightly (k : ℕ) (memory : ℕ → Page) (z : Stand) : Type 0 where
  -- nothing is held before page 0 is granted
  pub begins : length z.path ≡ 0 → z.want ≡ 0
  -- the top page is page 0 or safe
  pub top : 1 ≤ length z.path → (get_or z.path 0 0 ≡ 0) ⊎ Safe z.op k (memory (get_or z.path 0 0))
  -- none below it is safe
  pub unsafe : (i : ℕ) → suc i < length z.path → Safe z.op k (memory (get_or z.path (suc i) 0)) → ⊥

-- Coming down: the want is where the key leads, and nothing is held beside the path.
pub record ComesDown (memory : ℕ → Page) (z : Stand) : Type 0 where
  pub above_leaf : StandsAtLeaf memory z.path → ⊥
  pub way : Way memory (key_of z.op) (z.path ++ z.want ∷ [])
  pub nothing_beside : z.beside ≡ []

-- The siblings that a deletion of x took so far, and the one that it wants. Its path is given upward here, from the leaf. "If the leaf would be
-- short, and is not page 0, the slot wants its sibling, then, if the two join and the father would be short too and is not page 0, the father's
-- sibling, and so on up."
pub record SiblingsSoFar (k : ℕ) (memory : ℕ → Page) (x : ℕ) (upward beside : List ℕ) (want : ℕ) : Type 0 where
  -- the key is there
  pub there : (i : ℕ) × (i < μ (memory (get_or upward 0 0))) × ((entry_at i (memory (get_or upward 0 0)).entries).key ≡ x)
  -- the father of the page that the wanted sibling is to help is held
  pub fewer : suc (length beside) < length upward
  -- each page so far would be short and is not page 0; its sibling is its neighbour, and has none to spare
  pub short : (j : ℕ) → j ≤ length beside → μ (memory (get_or upward j 0)) ≤ k
  pub not_root : (j : ℕ) → j ≤ length beside → get_or upward j 0 ≢ 0
  pub neighbours : (j : ℕ) → j < length beside → get_or beside j 0 ≡ neighbour x (memory (get_or upward (suc j) 0))
  pub joining : (j : ℕ) → j < length beside → μ (memory (get_or beside j 0)) ≤ k
  -- the want is the next one
  pub wants_next : want ≡ neighbour x (memory (get_or upward (suc (length beside)) 0))
  -- a sibling has the level of the page beside it
  pub levels : (j : ℕ) → j < length (beside ++ want ∷ []) → (memory (get_or upward j 0)).level ≡ (memory (get_or (beside ++ want ∷ []) j 0)).level

-- A deletion at its leaf.
pub record AsksSibling (k : ℕ) (memory : ℕ → Page) (z : Stand) : Type 0 where
  pub deletes : is_delete z.op ≡ true
  pub at_leaf : StandsAtLeaf memory z.path
  pub way : Way memory (key_of z.op) z.path
  pub siblings : SiblingsSoFar k memory (key_of z.op) (reverse z.path) z.beside z.want

-- p0 of each page is the one behind it, a level lower
abbrev pub LeftmostWay : (ℕ → Page) → List ℕ → Type 0
LeftmostWay memory pages = (i : ℕ) → suc i < length pages
    → (pointer 0 (memory (get_or pages i 0)) ≡ get_or pages (suc i) 0) × ((memory (get_or pages i 0)).level ≡ (memory (get_or pages (suc i) 0)).level + 1)

-- A Next past its leaf: "if the leaf has no such key, goes down the leftmost way of the next child to the right".
pub record GoesAcross (k : ℕ) (memory : ℕ → Page) (z : Stand) : Type 0 where
  pub asks_next : is_next z.op ≡ true
  pub at_leaf : StandsAtLeaf memory z.path
  pub way : Way memory (key_of z.op) z.path
  -- its leaf has no key at or above, and the top page has a child to the right
  pub none : AllBelow (key_of z.op) (memory (get_or (reverse z.path) 0 0)).entries
  pub right : Safe z.op k (memory (get_or z.path 0 0))
  -- the next child to the right, a level lower, and its leftmost way
  pub turns : neighbour (key_of z.op) (memory (get_or z.path 0 0)) ≡ get_or (z.beside ++ z.want ∷ []) 0 0
  pub lower : (memory (get_or z.path 0 0)).level ≡ (memory (get_or (z.beside ++ z.want ∷ []) 0 0)).level + 1
  pub leftmost : LeftmostWay memory (z.beside ++ z.want ∷ [])

-- ---- where it stands

-- It gathers pages: it wants one that it does not hold, and holds all with the kind with which it goes down.
pub record GathersRightly (k : ℕ) (memory : ℕ → Page) (z : Stand) : Type 0 where
  pub new : ConvertsHere z → ⊥
  pub holds : (p : ℕ) (lock : Lock) → HeldHere z p lock → GoesWith z.op lock
  pub stands : ComesDown memory z ⊎ (AsksSibling k memory z ⊎ GoesAcross k memory z)

-- 02 (vi): "When the change is known, path and siblings are converted to ξ from the top down, path page before sibling on each level, one conversion a
-- step. A conversion wants a held page". Its path is given upward as leaf and fathers.
pub record ConvertsRightly (k : ℕ) (memory : ℕ → Page) (z : Stand) : Type 0 where
  pub third : ByThird z.op
  pub leaf : ℕ
  pub fathers : List ℕ
  pub upward : reverse z.path ≡ leaf ∷ fathers
  pub at_leaf : StandsAtLeaf memory z.path
  pub way : Way memory (key_of z.op) z.path
  -- the change is known, and a sibling has the level of the page beside it
  pub unanswered : answered_at_once z.op (memory leaf).entries ≡ false
  pub no_more : NoMore k memory z leaf fathers
  pub levels : (j : ℕ) → j < length z.beside → (memory (get_or (reverse z.path) j 0)).level ≡ (memory (get_or z.beside j 0)).level
  -- what stands before the want in the order of conversion has ξ, the want and what stands behind it α
  pub done : List ℕ
  pub rest : List ℕ
  pub turns : pages_in_turn z ≡ done ++ z.want ∷ rest
  pub converted : (p : ℕ) → In p done → HeldHere z p Xi
  pub left : (p : ℕ) → In p (z.want ∷ rest) → HeldHere z p Alpha

-- ---- the page wanted next

-- Granted its want, the operation would hold these pages and want page q. Conversions are exempt: neither who converts nor who would then is asked.
pub data WouldWant (k : ℕ) (memory : ℕ → Page) (z : Stand) (holding : List ℕ) (q : ℕ) : Type 0 where
  -- It comes down to a safe page above the leaves, which it holds alone; to one that is not safe, beside all that it holds.
  alone : (ConvertsHere z → ⊥) → (StandsAtLeaf memory z.path → ⊥) → (memory z.want).level ≢ 1 → Safe z.op k (memory z.want)
      → RoutesTo (key_of z.op) (memory z.want) q → holding ≡ z.want ∷ [] → WouldWant k memory z holding q
  lower : (ConvertsHere z → ⊥) → (StandsAtLeaf memory z.path → ⊥) → (memory z.want).level ≢ 1 → (Safe z.op k (memory z.want) → ⊥)
      → RoutesTo (key_of z.op) (memory z.want) q → holding ≡ z.path ++ z.want ∷ [] → WouldWant k memory z holding q
  -- A deletion comes to its leaf, where the key is: it would be short, and is not page 0.
  leaf_sibling : (ConvertsHere z → ⊥) → (StandsAtLeaf memory z.path → ⊥) → (memory z.want).level ≡ 1 → is_delete z.op ≡ true
      → (i : ℕ) × (i < μ (memory z.want)) × ((entry_at i (memory z.want).entries).key ≡ key_of z.op)
      → μ (memory z.want) ≤ k → z.want ≢ 0
      → q ≡ neighbour (key_of z.op) (memory (get_or (reverse z.path) 0 0)) → holding ≡ z.path ++ z.want ∷ [] → WouldWant k memory z holding q
  -- The sibling granted has none to spare, and the father would be short and is not page 0.
  father_sibling : (ConvertsHere z → ⊥) → StandsAtLeaf memory z.path → is_delete z.op ≡ true → μ (memory z.want) ≤ k
      → μ (memory (get_or (reverse z.path) (suc (length z.beside)) 0)) ≤ k → get_or (reverse z.path) (suc (length z.beside)) 0 ≢ 0
      → q ≡ neighbour (key_of z.op) (memory (get_or (reverse z.path) (suc (suc (length z.beside))) 0))
      → holding ≡ z.path ++ (z.beside ++ z.want ∷ []) → WouldWant k memory z holding q
  -- A Next comes to its leaf, which has no key at or above, and the top page has a child to the right.
  across : (ConvertsHere z → ⊥) → (StandsAtLeaf memory z.path → ⊥) → (memory z.want).level ≡ 1 → is_next z.op ≡ true
      → AllBelow (key_of z.op) (memory z.want).entries → 1 ≤ length z.path → Safe z.op k (memory (get_or z.path 0 0))
      → q ≡ neighbour (key_of z.op) (memory (get_or z.path 0 0)) → holding ≡ z.path ++ z.want ∷ [] → WouldWant k memory z holding q
  -- On its second way it is granted a page above the leaves.
  onward : (ConvertsHere z → ⊥) → StandsAtLeaf memory z.path → is_next z.op ≡ true → (memory z.want).level ≢ 1
      → q ≡ pointer 0 (memory z.want) → holding ≡ z.path ++ (z.beside ++ z.want ∷ []) → WouldWant k memory z holding q

-- ---- all of it

-- (An update by the second way that begins again holds nothing then: so page 0, which it wants, is none that it holds.)
pub record SoundForStep (k n : ℕ) (ws : List ℕ) (z : Stand) : Type 0 where
  pub pages : (p : ℕ) → In p (z.path ++ z.beside ++ z.want ∷ []) → PageSound k n p (words_of k p ws) (page_at k ws p)
  pub kept : KeptRightly k (page_at k ws) z
  -- the page is wanted with the kind of lock that the rules would have it want
  pub wants : WantsAs (page_at k ws) z
  -- so are its pages held, and so it stands
  pub stands : GathersRightly k (page_at k ws) z ⊎ ConvertsRightly k (page_at k ws) z
  pub new : (holding : List ℕ) (q : ℕ) → WouldWant k (page_at k ws) z holding q → In q holding → ⊥
