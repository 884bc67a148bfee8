-- Pages of both tiers, seen alike: a page is a row of things, a leaf of its entries and an upper page of its children.
-- So what a deletion does to short pages, joining two rows or cutting them elsewhere, is said once.
use Prim.Native.Nat.{ℕ, zero, suc, ◌+◌, ◌*◌, ◌≤◌}
use native.Mathlib.Omega.{arith}
use mathlib.Core.List.{List, [], ◌∷◌, ◌++◌}
use mathlib.Core.Logic.{◌⊎◌, inl, inr}
use mathlib.Core.Path.{◌≡◌, refl, sym, ap, ◌∙◌, subst}
use lib.ListN.{length}
use Rattle.page.specs.Words.{Keyed, Entry, Page, page, μ}
use Rattle.page.specs.Splits.{parted}
use Rattle.page.specs.Short.{joined, from_right, from_left}
use Rattle.page.specs.Fits.{Fits}
use Rattle.tree.specs.Rows.{head_key, Span, Somewhere, Each, gathered, total, row_page}
use Rattle.tree.specs.Tree.{Tr, page_number, page_of, entries_of, once, occurs, InRange, Holds, Stands, ChildIn}
use Rattle.tree.proofs.Rows.{head_key_append, span_left, span_right, span_append, gathered_append, total_append, each_append, each_left, each_right, somewhere_left, somewhere_right, somewhere_cases}
use Rattle.tree.proofs.Sorted.{Within, within_append, within_left, within_right, within_gathered}
use Rattle.tree.proofs.Memory.{row_same, top_holds, fits_page}
use Rattle.tree.proofs.Pages.{leaf_joined, leaf_from_right, leaf_from_left, row_page_joined, row_page_from_right, row_page_from_left, row_page_μ}
use Rattle.tree.proofs.Search.{within_entries}

-- what stands behind a key: the information of an entry, or a child
abbrev pub Thing : ℕ → Type 0
Thing zero = ℕ
Thing (suc l) = Tr l

abbrev pub Things : ℕ → Type 0
Things l = List (Keyed (Thing l))

-- the things of a tree's top page, the tree whose top page has given things, and that page's value
abbrev pub things_of : (l : ℕ) → Tr l → Things l
things_of zero t = t.entries
things_of (suc l) t = t.row

abbrev pub tree_at : (l : ℕ) → ℕ → Things l → Tr l
tree_at zero p es = record { at = p; entries = es }
tree_at (suc l) p row = record { at = p; row = row }

abbrev pub page_in : (l : ℕ) → Things l → Page
page_in zero es = page 1 0 es
page_in (suc l) row = row_page (suc (suc l)) (page_number l) row

-- how many things a page has more than keys: an upper page's first child has no reference key
abbrev pub tier : ℕ → ℕ
tier zero = 0
tier (suc l) = 1

-- things with the range lo to hi: entries rise in it, children share it
abbrev pub Run : ℕ → (l : ℕ) → Things l → ℕ → ℕ → Type 0
Run k zero es lo hi = Within lo es hi
Run k (suc l) row lo hi = (head_key row hi ≡ lo) × Span (ChildIn k l) row hi

-- the entries in the things,
abbrev pub entries_in : (l : ℕ) → Things l → List Entry
entries_in zero es = es
entries_in (suc l) row = gathered (entries_of l) row

-- how often q is a page of theirs,
abbrev pub occurs_in : ℕ → (l : ℕ) → Things l → ℕ
occurs_in q zero es = 0
occurs_in q (suc l) row = total (occurs q l) row

-- that a memory holds them,
abbrev pub HoldsIn : (ℕ → Page) → (l : ℕ) → Things l → Type 0
HoldsIn memory zero es = Unit {0}
HoldsIn memory (suc l) row = Each (Holds memory l) row

-- and that page q is one of theirs, with this level and range
abbrev pub StandsIn : (l : ℕ) → Things l → ℕ → (q level a b : ℕ) → Type 0
StandsIn zero es hi q level a b = ⊥
StandsIn (suc l) row hi q level a b = Somewhere (λ (c : Tr l) (lo' hi' : ℕ). Stands l c lo' hi' q level a b) row hi

-- the top page itself is page q, with this level and range
abbrev pub TopStands : (l : ℕ) → Tr l → ℕ → ℕ → (q level a b : ℕ) → Type 0
TopStands l t lo hi q level a b = (page_number l t ≡ q) × (level ≡ suc l) × (a ≡ lo) × (b ≡ hi)

-- ---- a tree and its things

-- the tree made of a page number and things has them,
pub things_back : (l p : ℕ) (ts : Things l) → things_of l (tree_at l p ts) ≡ ts
things_back zero p ts = refl
things_back (suc l) p ts = refl

pub number_back : (l p : ℕ) (ts : Things l) → page_number l (tree_at l p ts) ≡ p
number_back zero p ts = refl
number_back (suc l) p ts = refl

-- and their page's value
pub page_back : (l p : ℕ) (ts : Things l) → page_of l (tree_at l p ts) ≡ page_in l ts
page_back zero p ts = refl
page_back (suc l) p ts = refl

pub page_things : (l : ℕ) (t : Tr l) → page_of l t ≡ page_in l (things_of l t)
page_things zero t = refl
page_things (suc l) t = refl

-- a tree's entries are those of its things,
pub entries_things : (l : ℕ) (t : Tr l) → entries_of l t ≡ entries_in l (things_of l t)
entries_things zero t = refl
entries_things (suc l) t = refl

-- its pages are its top page and its things',
pub occurs_things : (q l : ℕ) (t : Tr l) → occurs q l t ≡ once q (page_number l t) + occurs_in q l (things_of l t)
occurs_things q zero t = omega arith
occurs_things q (suc l) t = refl

-- a memory holds it that has the top page and holds the things,
pub holds_things : (memory : ℕ → Page) (l : ℕ) (t : Tr l) → memory (page_number l t) ≡ page_of l t → HoldsIn memory l (things_of l t) → Holds memory l t
holds_things memory zero t h s = h
holds_things memory (suc l) t h s = (h, s)

-- and back;
pub holds_page : (memory : ℕ → Page) (l : ℕ) (t : Tr l) → Holds memory l t → memory (page_number l t) ≡ page_in l (things_of l t)
holds_page memory l t h = top_holds memory l t h ∙ page_things l t

pub holds_below : (memory : ℕ → Page) (l : ℕ) (t : Tr l) → Holds memory l t → HoldsIn memory l (things_of l t)
holds_below memory zero t h = tt
holds_below memory (suc l) t h = h.1

-- a page stands in it as the top page or among the things.
pub stands_things : (l : ℕ) (t : Tr l) (lo hi q level a b : ℕ) → Stands l t lo hi q level a b
    → TopStands l t lo hi q level a b ⊎ StandsIn l (things_of l t) hi q level a b
stands_things zero t lo hi q level a b s = inl s
stands_things (suc l) t lo hi q level a b s = s

pub stands_top : (l : ℕ) (t : Tr l) (lo hi q level a b : ℕ) → TopStands l t lo hi q level a b → Stands l t lo hi q level a b
stands_top zero t lo hi q level a b s = s
stands_top (suc l) t lo hi q level a b s = inl s

pub stands_below : (l : ℕ) (t : Tr l) (lo hi q level a b : ℕ) → StandsIn l (things_of l t) hi q level a b → Stands l t lo hi q level a b
stands_below zero t lo hi q level a b s = absurd s
stands_below (suc l) t lo hi q level a b s = inr s

-- ---- a tree's range is its things' range, with their number

pub range_run : (k m M l : ℕ) (t : Tr l) (lo hi : ℕ) → InRange k m M l t lo hi → Run k l (things_of l t) lo hi
range_run k m M zero t lo hi r = (r.low, r.rising)
range_run k m M (suc l) t lo hi r = (r.low, r.children)

pub range_least : (k m M l : ℕ) (t : Tr l) (lo hi : ℕ) → InRange k m M l t lo hi → m + tier l ≤ length (things_of l t)
range_least k m M zero t lo hi r = omega (arith, r.least)
range_least k m M (suc l) t lo hi r = r.least

pub range_most : (k m M l : ℕ) (t : Tr l) (lo hi : ℕ) → InRange k m M l t lo hi → length (things_of l t) ≤ M + tier l
range_most k m M zero t lo hi r = omega (arith, r.most)
range_most k m M (suc l) t lo hi r = r.most

pub run_range : (k m M l p : ℕ) (ts : Things l) (lo hi : ℕ) → Run k l ts lo hi → m + tier l ≤ length ts → length ts ≤ M + tier l
    → InRange k m M l (tree_at l p ts) lo hi
run_range k m M zero p ts lo hi r least most = record { least = omega arith; most = omega arith; low = r.0; rising = r.1 }
run_range k m M (suc l) p ts lo hi r least most = record { least = least; most = most; low = r.0; children = r.1 }

-- ---- rows of things joined and cut

pub entries_in_append : (l : ℕ) (L R : Things l) → entries_in l (L ++ R) ≡ entries_in l L ++ entries_in l R
entries_in_append zero L R = refl
entries_in_append (suc l) L R = gathered_append (entries_of l) L R

pub occurs_in_append : (q l : ℕ) (L R : Things l) → occurs_in q l (L ++ R) ≡ occurs_in q l L + occurs_in q l R
occurs_in_append q zero L R = omega arith
occurs_in_append q (suc l) L R = total_append (occurs q l) L R

pub holds_in_append : (memory : ℕ → Page) (l : ℕ) (L R : Things l) → HoldsIn memory l L → HoldsIn memory l R → HoldsIn memory l (L ++ R)
holds_in_append memory zero L R h g = tt
holds_in_append memory (suc l) L R h g = each_append (Holds memory l) L R h g

pub holds_in_left : (memory : ℕ → Page) (l : ℕ) (L R : Things l) → HoldsIn memory l (L ++ R) → HoldsIn memory l L
holds_in_left memory zero L R h = tt
holds_in_left memory (suc l) L R h = each_left (Holds memory l) L R h

pub holds_in_right : (memory : ℕ → Page) (l : ℕ) (L R : Things l) → HoldsIn memory l (L ++ R) → HoldsIn memory l R
holds_in_right memory zero L R h = tt
holds_in_right memory (suc l) L R h = each_right (Holds memory l) L R h

-- two runs of which the first ends where the second begins join into a run, and a run is cut into two
pub run_append : (k l : ℕ) (L R : Things l) (lo mid hi : ℕ) → Run k l L lo mid → Run k l R mid hi → Run k l (L ++ R) lo hi
run_append k zero L R lo mid hi r s = within_append lo mid hi L R r s
run_append k (suc l) L R lo mid hi r s = (
  head_key_append L R hi ∙ ap (head_key L) s.0 ∙ r.0,
  span_append (ChildIn k l) L R hi (subst (λ (n : ℕ). Span (ChildIn k l) L n) (sym s.0) r.1) s.1,
)

pub run_left : (k l : ℕ) (L R : Things l) (lo hi : ℕ) → Run k l (L ++ R) lo hi → Run k l L lo (head_key R hi)
run_left k zero L R lo hi r = within_left lo hi L R r
run_left k (suc l) L R lo hi r = (sym (head_key_append L R hi) ∙ r.0, span_left (ChildIn k l) L R hi r.1)

pub run_right : (k l : ℕ) (L R : Things l) (lo hi : ℕ) → Run k l (L ++ R) lo hi → Run k l R (head_key R hi) hi
run_right k zero L R lo hi r = within_right lo hi L R r
run_right k (suc l) L R lo hi r = (refl, span_right (ChildIn k l) L R hi r.1)

pub run_nil : (k l hi : ℕ) → Run k l [] hi hi
run_nil k zero hi = (omega arith, tt)
run_nil k (suc l) hi = (refl, tt)

-- a page of the joined rows is one of the left, which ends where the right begins, or one of the right
pub stands_in_cases : (k l : ℕ) (L R : Things l) (mid hi q level a b : ℕ) → Run k l R mid hi
    → StandsIn l (L ++ R) hi q level a b → StandsIn l L mid q level a b ⊎ StandsIn l R hi q level a b
stands_in_cases k zero L R mid hi q level a b r s = inl s
stands_in_cases k (suc l) L R mid hi q level a b r s =
    let P : Tr l → ℕ → ℕ → Type 0 = λ c lo' hi'. Stands l c lo' hi' q level a b in
    subst (λ (n : ℕ). Somewhere P L n ⊎ Somewhere P R hi) r.0 (somewhere_cases P L R hi s)

pub stands_in_left : (k l : ℕ) (L R : Things l) (mid hi q level a b : ℕ) → Run k l R mid hi
    → StandsIn l L mid q level a b → StandsIn l (L ++ R) hi q level a b
stands_in_left k zero L R mid hi q level a b r s = s
stands_in_left k (suc l) L R mid hi q level a b r s =
    let P : Tr l → ℕ → ℕ → Type 0 = λ c lo' hi'. Stands l c lo' hi' q level a b in
    somewhere_left P L R hi (subst (λ (n : ℕ). Somewhere P L n) (sym r.0) s)

pub stands_in_right : (l : ℕ) (L R : Things l) (hi q level a b : ℕ) → StandsIn l R hi q level a b → StandsIn l (L ++ R) hi q level a b
stands_in_right zero L R hi q level a b s = s
stands_in_right (suc l) L R hi q level a b s = somewhere_right (λ (c : Tr l) (lo' hi' : ℕ). Stands l c lo' hi' q level a b) L R hi s

-- the entries in a run rise in its range
pub run_within : (k l : ℕ) (ts : Things l) (lo hi : ℕ) → Run k l ts lo hi → Within lo (entries_in l ts) hi
run_within k zero ts lo hi r = r
run_within k (suc l) ts lo hi r =
    subst (λ (n : ℕ). Within n (entries_in (suc l) ts) hi) r.0
    (within_gathered (ChildIn k l) (entries_of l) ts hi (λ c a b h s. within_entries k k (2 * k) l c a b s) r.1)

-- things are held by a memory that agrees on their pages
pub things_same : (M M' : ℕ → Page) (l : ℕ) (ts : Things l) → ((q : ℕ) → 1 ≤ occurs_in q l ts → M' q ≡ M q)
    → HoldsIn M l ts → HoldsIn M' l ts
things_same M M' zero ts a h = tt
things_same M M' (suc l) ts a h = row_same M M' l ts a h

-- ---- the rules on pages, as rows of things joined and cut

-- a page has as many keys as things, or one less
pub things_μ : (l : ℕ) (ts : Things l) → tier l ≤ length ts → μ (page_in l ts) + tier l ≡ length ts
things_μ zero ts h = omega arith
things_μ (suc l) [] h = absurd (omega arith)
things_μ (suc l) (d ∷ ds) h = omega (arith, row_page_μ (suc (suc l)) (page_number l) d ds)

-- one with at most 2k keys has room
pub things_fit : (k l : ℕ) (ts : Things l) → tier l ≤ length ts → length ts ≤ 2 * k + tier l → Fits k (page_in l ts)
things_fit k l ts h g =
    let n = things_μ l ts h in
    subst (Fits k) (page_back l 0 ts) (fits_page k l (tree_at l 0 ts) (rw (page_back l 0 ts) (omega arith)))

module _ (k : ℕ) where
  -- two pages join as their things do,
  pub things_joined : (l r hi : ℕ) (L R : Things l) → Run k l R r hi → tier l ≤ length L → tier l ≤ length R
      → joined r (page_in l L) (page_in l R) ≡ page_in l (L ++ R)
  things_joined zero r hi L R run h g = leaf_joined r L R
  things_joined (suc l) r hi L [] run h g = absurd (omega arith)
  things_joined (suc l) r hi L (e ∷ R) run h g = row_page_joined l (page_number l) r L e R h run.0

  -- the first thing of the right page moves over to the left one,
  pub things_from_right : (l r hi : ℕ) (L : Things l) (e f : Keyed (Thing l)) (R : Things l) → Run k l (e ∷ f ∷ R) r hi → tier l ≤ length L
      → from_right r (page_in l L) (page_in l (e ∷ f ∷ R)) ≡ parted (page_in l (L ++ e ∷ [])) f.key (page_in l (f ∷ R))
  things_from_right zero r hi L e f R run h = leaf_from_right r L e f R
  things_from_right (suc l) r hi L e f R run h = row_page_from_right l (page_number l) r L e f R h run.0

  -- and the last thing of the left page to the right one
  pub things_from_left : (l r hi : ℕ) (L : Things l) (e : Keyed (Thing l)) (R : Things l) → Run k l R r hi → tier l ≤ length L → tier l ≤ length R
      → from_left r (page_in l (L ++ e ∷ [])) (page_in l R) ≡ parted (page_in l L) e.key (page_in l (e ∷ R))
  things_from_left zero r hi L e R run h g = leaf_from_left r L e R
  things_from_left (suc l) r hi L e [] run h g = absurd (omega arith)
  things_from_left (suc l) r hi L e (f ∷ R) run h g = row_page_from_left l (page_number l) r L e f R h run.0
