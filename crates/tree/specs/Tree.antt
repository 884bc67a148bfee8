-- The B*-tree of 000 with parameter k, as document 01 fixes it, and when a pool's words are one.
-- `Tr l` is a tree whose root page has level l + 1: all its leaves are on level 1 by its type.
use Rattle.std.specs.Prelude.{ℕ, zero, suc, ◌+◌, ◌*◌, ◌≤◌, ◌<◌, cond, ◌≡◌, List, [], ◌∷◌, ◌++◌, ◌⊎◌, eqb, length}
use Rattle.ground.specs.Limits.{word_range}
use Rattle.page.specs.Words.{Keyed, Entry, Page, page, free_page, encode}
use Rattle.pool.specs.Pool.{pool_length, words_of, page_at}
use Rattle.tree.specs.Rows.{head_key, Span, Somewhere, Each, gathered, total, followed, row_page}

-- a leaf: its page number and its entries
pub record Leaf : Type 0 where
  pub at : ℕ
  pub entries : List Entry

-- an upper page: its number and its children, the first behind the lower end of the page's range
pub record Node (C : Type 0) : Type 0 where
  pub at : ℕ
  pub row : List (Keyed C)

abbrev pub node : {C : Type 0} → ℕ → List (Keyed C) → Node C
node p row = record { at = p; row = row }

abbrev pub Tr : ℕ → Type 0
Tr zero = Leaf
Tr (suc l) = Node (Tr l)

-- the page number of the root
abbrev pub page_number : (l : ℕ) → Tr l → ℕ
page_number zero t = t.at
page_number (suc l) t = t.at

-- the value of the root page
abbrev pub page_of : (l : ℕ) → Tr l → Page
page_of zero t = page 1 0 t.entries
page_of (suc l) t = row_page (suc (suc l)) (page_number l) t.row

-- the entries, in order
abbrev pub entries_of : (l : ℕ) → Tr l → List Entry
entries_of zero t = t.entries
entries_of (suc l) t = gathered (entries_of l) t.row

-- how often page q is a page of the tree
abbrev pub once : ℕ → ℕ → ℕ
once q p = cond (eqb q p) 1 0

abbrev pub occurs : ℕ → (l : ℕ) → Tr l → ℕ
occurs q zero t = once q t.at
occurs q (suc l) t = once q t.at + total (occurs q l) t.row

-- The entries of one leaf with keys from lo on and below hi: at least m of them and at most M.
pub record LeafIn (m M : ℕ) (t : Leaf) (lo hi : ℕ) : Type 0 where
  pub least : m ≤ length t.entries
  pub most : length t.entries ≤ M
  pub low : lo ≤ head_key t.entries hi
  pub rising : Span (λ (v a b : ℕ). Unit {0}) t.entries hi

-- "Keys under p(i-1) are less than ri; keys under pi are at least ri": the children share the page's range, and each
-- has P with its part. The number of reference keys, one less than of children, is at least m and at most M.
pub record NodeIn {C : Type 0} (P : C → ℕ → ℕ → Type 0) (m M : ℕ) (t : Node C) (lo hi : ℕ) : Type 0 where
  pub least : m + 1 ≤ length t.row
  pub most : length t.row ≤ M + 1
  pub low : head_key t.row hi ≡ lo
  pub children : Span P t.row hi

-- "μ is k to 2k in every page but page 0": a tree with range lo to hi whose root page has m to M, and every other k to 2k.
abbrev pub InRange : ℕ → ℕ → ℕ → (l : ℕ) → Tr l → ℕ → ℕ → Type 0
InRange k m M zero t lo hi = LeafIn m M t lo hi
InRange k m M (suc l) t lo hi = NodeIn (InRange k k (2 * k) l) m M t lo hi

-- a tree below the root, in its range
abbrev pub ChildIn : ℕ → (l : ℕ) → Tr l → ℕ → ℕ → Type 0
ChildIn k l = InRange k k (2 * k) l

-- "Page 0 is always the root: 1 to 2k, or 0 to 2k when it is a leaf"
abbrev pub root_least : ℕ → ℕ
root_least zero = 0
root_least (suc l) = 1

-- the memory has at each page of the tree what the tree says; and at each page below the root
abbrev pub Holds : (ℕ → Page) → (l : ℕ) → Tr l → Type 0
Holds memory zero t = memory t.at ≡ page_of zero t
Holds memory (suc l) t = (memory t.at ≡ page_of (suc l) t) × Each (Holds memory l) t.row

abbrev pub HoldsBelow : (ℕ → Page) → (l : ℕ) → Tr l → Type 0
HoldsBelow memory zero t = Unit {0}
HoldsBelow memory (suc l) t = Each (Holds memory l) t.row

-- page q is a page of the tree, on this level, with the range from a to b
abbrev pub Stands : (l : ℕ) → Tr l → ℕ → ℕ → (q level a b : ℕ) → Type 0
Stands zero t lo hi q level a b = (t.at ≡ q) × (level ≡ 1) × (a ≡ lo) × (b ≡ hi)
Stands (suc l) t lo hi q level a b =
    ((t.at ≡ q) × (level ≡ suc (suc l)) × (a ≡ lo) × (b ≡ hi))
    ⊎ Somewhere (λ (c : Tr l) (lo' hi' : ℕ). Stands l c lo' hi' q level a b) t.row hi

-- the pages on x's way, from the leaf upward, and the entries of its leaf
abbrev pub way : ℕ → (l : ℕ) → Tr l → List ℕ
way x zero t = t.at ∷ []
way x (suc l) t = followed (way x l) [] x t.row ++ t.at ∷ []

abbrev pub leaf_on : ℕ → (l : ℕ) → Tr l → List Entry
leaf_on x zero t = t.entries
leaf_on x (suc l) t = followed (leaf_on x l) [] x t.row

-- The pages of a memory, 0 to n - 1, form the tree t, and every other page is free.
pub record Forms (k n : ℕ) (memory : ℕ → Page) (l : ℕ) (t : Tr l) : Type 0 where
  -- "Page 0 is always the root"
  pub root : page_number l t ≡ 0
  pub in_range : InRange k (root_least l) (2 * k) l t 0 word_range
  pub holds : Holds memory l t
  -- no page hangs in two places
  pub different : (q : ℕ) → occurs q l t ≤ 1
  pub within : (q : ℕ) → 1 ≤ occurs q l t → q < n
  -- "A free page has level 0, and in a pool that only these calls wrote it is all zeros."
  pub others : (q : ℕ) → q < n → occurs q l t ≡ 0 → memory q ≡ free_page

-- The words of a pool form the tree t: each page's words are the words of its value.
pub record PoolForms (k n : ℕ) (ws : List ℕ) (l : ℕ) (t : Tr l) : Type 0 where
  pub whole : length ws ≡ pool_length k n
  pub exact : (p : ℕ) → p < n → words_of k p ws ≡ encode k (page_at k ws p)
  pub forms : Forms k n (page_at k ws) l t
