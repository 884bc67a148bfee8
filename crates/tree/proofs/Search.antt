-- Search: the way of a key through the tree is the way by the pages' routes, and the leaf at its end decides.
use Prim.Native.Nat.{ℕ, zero, suc, ◌+◌, ◌*◌, ◌≤◌, ◌<◌}
use mathlib.Core.Path.{◌≡◌, refl, sym, ap, ◌∙◌, subst}
use mathlib.Core.List.{List, [], ◌∷◌, ◌++◌}
use native.Mathlib.Omega.{arith}
use borrow.Author.Tests.{leb-true, leb-false, ltb-true, ltb-false}
use lib.Dec.{leb, ltb}
use lib.ListN.{length, get_or, length-append, get_or-append}
use lib.Seq.{get_or_at, get_or-append_seam, get_or-append-add}
use Rattle.ground.specs.Limits.{word_range}
use Rattle.ground.proofs.Choice.{by_test}
use Rattle.page.specs.Words.{Keyed, Page, page}
use Rattle.page.specs.Place.{route, has, information}
use Rattle.tree.specs.Rows.{head_key, Span, Each, gathered, followed, row_page}
use Rattle.tree.specs.Tree.{Tr, page_number, page_of, entries_of, root_least, InRange, Holds, way, leaf_on, Forms}
use Rattle.tree.specs.Facts.{WayFacts}
use Rattle.tree.proofs.Rows.{spot, followed_spot, gathered_append, each_right, middle_has, middle_before, middle_after}
use Rattle.tree.proofs.Sorted.{Within, within_gathered, has_parts, information_parts}
use Rattle.tree.proofs.Pages.{row_page_route}

-- One level down on x's way: the child whose range has x, with what stands before and behind it.
pub record Down (k x l : ℕ) (t : Tr (suc l)) (hi : ℕ) : Type 0 where
  pub before : List (Keyed (Tr l))
  pub here : Keyed (Tr l)
  pub after : List (Keyed (Tr l))
  pub whole : t.row ≡ before ++ here ∷ after
  pub span : Span (InRange k k (2 * k) l) (before ++ here ∷ after) hi
  pub from : here.key ≤ x
  pub to : x < head_key after hi
  -- the child is a tree with that range
  pub child : InRange k k (2 * k) l here.value here.key (head_key after hi)
  -- x's way goes through it, and to its leaf
  pub way_on : way x (suc l) t ≡ way x l here.value ++ t.at ∷ []
  pub leaf_of : leaf_on x (suc l) t ≡ leaf_on x l here.value

-- where a key of its range belongs to a child of the tree
unfoldable pub down_at : (k m M x l : ℕ) (t : Tr (suc l)) (lo hi : ℕ) → InRange k m M (suc l) t lo hi
    → (before : List (Keyed (Tr l))) (here : Keyed (Tr l)) (after : List (Keyed (Tr l))) → t.row ≡ before ++ here ∷ after
    → here.key ≤ x → x < head_key after hi → Down k x l t hi
down_at k m M x l t lo hi r before here after whole from to =
    let P : Tr l → ℕ → ℕ → Type 0 = InRange k k (2 * k) l in
    let span : Span P (before ++ here ∷ after) hi = subst (λ (row : List (Keyed (Tr l))). Span P row hi) whole r.children in
    record {
      before = before;
      here = here;
      after = after;
      whole = whole;
      span = span;
      from = from;
      to = to;
      child = middle_has P before here after hi span;
      way_on =
          ap (λ (row : List (Keyed (Tr l))). followed (way x l) [] x row ++ t.at ∷ []) whole
          ∙ ap (λ (w : List ℕ). w ++ t.at ∷ []) (followed_spot P (way x l) [] x before here after hi span from to);
      leaf_of = ap (followed (leaf_on x l) [] x) whole ∙ followed_spot P (leaf_on x l) [] x before here after hi span from to;
    }

-- every key of its range belongs to one
pub down : (k m M x l : ℕ) (t : Tr (suc l)) (lo hi : ℕ) → InRange k m M (suc l) t lo hi → lo ≤ x → x < hi → Down k x l t hi
down k m M x l t lo hi r low high =
    let s = spot (InRange k k (2 * k) l) x t.row hi r.children (omega (arith, r.low)) high in
    down_at k m M x l t lo hi r s.before s.here s.after s.whole s.from s.to

-- a thing of the row has what each has
pub each_here : {C : Type 0} (Q : C → Type 0) (xs : List (Keyed C)) (d : Keyed C) (ys : List (Keyed C)) (row : List (Keyed C))
    → row ≡ xs ++ d ∷ ys → Each Q row → Q d.value
each_here {C} Q xs d ys row e h = (each_right Q xs (d ∷ ys) (subst (λ (r : List (Keyed C)). Each Q r) e h)).0

-- the root page's level
pub page_of_level : (l : ℕ) (t : Tr l) → (page_of l t).level ≡ l + 1
page_of_level zero t = refl
page_of_level (suc l) t = omega arith

-- the entries rise in the tree's range
pub within_entries : (k m M l : ℕ) (t : Tr l) (lo hi : ℕ) → InRange k m M l t lo hi → Within lo (entries_of l t) hi
within_entries k m M zero t lo hi r = (r.low, r.rising)
within_entries k m M (suc l) t lo hi r =
    subst (λ (a : ℕ). Within a (gathered (entries_of l) t.row) hi) r.low
    (within_gathered (InRange k k (2 * k) l) (entries_of l) t.row hi (λ c a b h s. within_entries k k (2 * k) l c a b s) r.children)

-- x's way through a tree whose range has x
module _ (k x : ℕ) where
  -- has a page on each level,
  pub way_length : (m M l : ℕ) (t : Tr l) (lo hi : ℕ) → InRange k m M l t lo hi → lo ≤ x → x < hi → length (way x l t) ≡ l + 1
  way_length m M zero t lo hi r low high = refl
  way_length m M (suc l) t lo hi r low high =
      let d = down k m M x l t lo hi r low high in
      let ih = way_length k (2 * k) l d.here.value d.here.key (head_key d.after hi) d.child d.from d.to in
      ap length d.way_on ∙ length-append (way x l d.here.value) (t.at ∷ []) ∙ omega arith

  -- below the root page it is the child's,
  pub way_lower : (l : ℕ) (t : Tr (suc l)) (hi : ℕ) (d : Down k x l t hi) (i : ℕ) → i ≤ l → get_or (way x (suc l) t) i 0 ≡ get_or (way x l d.here.value) i 0
  way_lower l t hi d i h =
      let len = way_length k (2 * k) l d.here.value d.here.key (head_key d.after hi) d.child d.from d.to in
      ap (λ (w : List ℕ). get_or w i 0) d.way_on ∙ get_or-append (way x l d.here.value) (t.at ∷ []) 0 i (omega arith)

  -- and ends at the root page
  pub way_top : (m M l : ℕ) (t : Tr l) (lo hi : ℕ) → InRange k m M l t lo hi → lo ≤ x → x < hi → get_or (way x l t) l 0 ≡ page_number l t
  way_top m M zero t lo hi r low high = refl
  way_top m M (suc l) t lo hi r low high =
      let d = down k m M x l t lo hi r low high in
      let len = way_length k (2 * k) l d.here.value d.here.key (head_key d.after hi) d.child d.from d.to in
      ap (λ (w : List ℕ). get_or w (suc l) 0) d.way_on ∙ get_or_at (way x l d.here.value) t.at [] 0 (suc l) (omega arith)

  module _ (memory : ℕ → Page) where
    -- page i of the way is on level i + 1
    pub way_level : (m M l : ℕ) (t : Tr l) (lo hi : ℕ) → InRange k m M l t lo hi → Holds memory l t → lo ≤ x → x < hi
        → (i : ℕ) → i ≤ l → (memory (get_or (way x l t) i 0)).level ≡ i + 1
    way_level m M zero t lo hi r h low high i b =
        let e : i ≡ 0 = omega arith in
        rw (e) (ap (λ (Q : Page). Q.level) h)
    way_level m M (suc l) t lo hi r h low high i b =
        let d = down k m M x l t lo hi r low high in
        let ih = way_level k (2 * k) l d.here.value d.here.key (head_key d.after hi) d.child
        (each_here (Holds memory l) d.before d.here d.after t.row d.whole h.1) d.from d.to in
        by_test (leb i l)
        (λ t₁. let under = leb-true i l t₁ in ap (λ (q : ℕ). (memory q).level) (way_lower l t hi d i under) ∙ ih i under)
        (λ f₁. let over = leb-false i l f₁ in
        let e : i ≡ suc l = omega arith in
        rw (e) (ap (λ (q : ℕ). (memory q).level) (way_top m M (suc l) t lo hi r low high) ∙ ap (λ (Q : Page). Q.level) h.0 ∙ omega arith))

    -- each page of the way but the leaf routes x to the next lower one
    pub way_route : (m M l : ℕ) (t : Tr l) (lo hi : ℕ) → InRange k m M l t lo hi → Holds memory l t → lo ≤ x → x < hi
        → (i : ℕ) → i < l → route x (memory (get_or (way x l t) (suc i) 0)) ≡ get_or (way x l t) i 0
    way_route m M zero t lo hi r h low high i b = absurd (omega arith)
    way_route m M (suc l) t lo hi r h low high i b =
        let d = down k m M x l t lo hi r low high in
        let ih = way_route k (2 * k) l d.here.value d.here.key (head_key d.after hi) d.child
        (each_here (Holds memory l) d.before d.here d.after t.row d.whole h.1) d.from d.to in
        by_test (ltb i l)
        (λ t₁. let under = ltb-true i l t₁ in
        ap (λ (q : ℕ). route x (memory q)) (way_lower l t hi d (suc i) under) ∙ ih i under ∙ sym (way_lower l t hi d i (omega arith)))
        (λ f₁. let over = ltb-false i l f₁ in
        let e : i ≡ l = omega arith in
        rw (e)
        (ap (λ (q : ℕ). route x (memory q)) (way_top m M (suc l) t lo hi r low high)
        ∙ ap (route x) (h.0 ∙ ap (row_page (suc (suc l)) (page_number l)) d.whole)
        ∙ row_page_route (InRange k k (2 * k) l) (suc (suc l)) (page_number l) d.before d.here d.after hi x d.span d.from d.to
        ∙ sym (way_top k (2 * k) l d.here.value d.here.key (head_key d.after hi) d.child d.from d.to)
        ∙ sym (way_lower l t hi d l (omega arith))))

    -- the way begins at its leaf
    pub way_leaf : (m M l : ℕ) (t : Tr l) (lo hi : ℕ) → InRange k m M l t lo hi → Holds memory l t → lo ≤ x → x < hi
        → memory (get_or (way x l t) 0 0) ≡ page 1 0 (leaf_on x l t)
    way_leaf m M zero t lo hi r h low high = h
    way_leaf m M (suc l) t lo hi r h low high =
        let d = down k m M x l t lo hi r low high in
        ap memory (way_lower l t hi d 0 (omega arith))
        ∙ way_leaf k (2 * k) l d.here.value d.here.key (head_key d.after hi) d.child
        (each_here (Holds memory l) d.before d.here d.after t.row d.whole h.1) d.from d.to
        ∙ ap (page 1 0) (sym d.leaf_of)

  -- the entries before, in and behind the child to which x belongs
  pub entries_parts : (l : ℕ) (t : Tr (suc l)) (hi : ℕ) (d : Down k x l t hi)
      → entries_of (suc l) t ≡ gathered (entries_of l) d.before ++ (entries_of l d.here.value ++ gathered (entries_of l) d.after)
  entries_parts l t hi d = ap (gathered (entries_of l)) d.whole ∙ gathered_append (entries_of l) d.before (d.here ∷ d.after)

  -- the leaf decides whether x is there,
  pub leaf_has : (m M l : ℕ) (t : Tr l) (lo hi : ℕ) → InRange k m M l t lo hi → lo ≤ x → x < hi
      → has x (leaf_on x l t) ≡ has x (entries_of l t)
  leaf_has m M zero t lo hi r low high = refl
  leaf_has m M (suc l) t lo hi r low high =
      let d = down k m M x l t lo hi r low high in
      let P : Tr l → ℕ → ℕ → Type 0 = InRange k k (2 * k) l in
      let inner : (c : Tr l) (a b : ℕ) → a < b → P c a b → Within a (entries_of l c) b = λ c a b h s. within_entries k k (2 * k) l c a b s in
      ap (has x) d.leaf_of
      ∙ leaf_has k (2 * k) l d.here.value d.here.key (head_key d.after hi) d.child d.from d.to
      ∙ sym (has_parts x (head_key d.before d.here.key) d.here.key (head_key d.after hi) hi
      (gathered (entries_of l) d.before) (entries_of l d.here.value) (gathered (entries_of l) d.after)
      (within_gathered P (entries_of l) d.before d.here.key inner (middle_before P d.before d.here d.after hi d.span))
      (within_gathered P (entries_of l) d.after hi inner (middle_after P d.before d.here d.after hi d.span))
      d.from d.to)
      ∙ sym (ap (has x) (entries_parts l t hi d))

  -- and tells its information
  pub leaf_information : (m M l : ℕ) (t : Tr l) (lo hi : ℕ) → InRange k m M l t lo hi → lo ≤ x → x < hi
      → information x (leaf_on x l t) ≡ information x (entries_of l t)
  leaf_information m M zero t lo hi r low high = refl
  leaf_information m M (suc l) t lo hi r low high =
      let d = down k m M x l t lo hi r low high in
      let P : Tr l → ℕ → ℕ → Type 0 = InRange k k (2 * k) l in
      let inner : (c : Tr l) (a b : ℕ) → a < b → P c a b → Within a (entries_of l c) b = λ c a b h s. within_entries k k (2 * k) l c a b s in
      ap (information x) d.leaf_of
      ∙ leaf_information k (2 * k) l d.here.value d.here.key (head_key d.after hi) d.child d.from d.to
      ∙ sym (information_parts x (head_key d.before d.here.key) d.here.key (head_key d.after hi) hi
      (gathered (entries_of l) d.before) (entries_of l d.here.value) (gathered (entries_of l) d.after)
      (within_gathered P (entries_of l) d.before d.here.key inner (middle_before P d.before d.here d.after hi d.span))
      (within_gathered P (entries_of l) d.after hi inner (middle_after P d.before d.here d.after hi d.span))
      d.from d.to)
      ∙ sym (ap (information x) (entries_parts l t hi d))

-- The way of a key through a tree that a memory holds.
module _ (k n : ℕ) (memory : ℕ → Page) (l : ℕ) (t : Tr l) (forms : Forms k n memory l t) (x : ℕ) (key : x < word_range) where
  way_father : (lower : List ℕ) (q p : ℕ) (upper : List ℕ) → way x l t ≡ lower ++ q ∷ p ∷ upper
      → (route x (memory p) ≡ q) × ((memory p).level ≡ (memory q).level + 1)
  way_father lower q p upper e =
      let i : ℕ = length lower in
      let len : length (way x l t) ≡ l + 1 = way_length k x (root_least l) (2 * k) l t 0 word_range forms.in_range (omega arith) key in
      let inside : suc i ≤ l = omega (arith, ap length e, length-append lower (q ∷ p ∷ upper)) in
      let atQ : get_or (way x l t) i 0 ≡ q = ap (λ (w : List ℕ). get_or w i 0) e ∙ get_or-append_seam lower q (p ∷ upper) 0 in
      let s : i + 1 ≡ suc i = omega arith in
      let at_p : get_or (way x l t) (suc i) 0 ≡ p
      = ap (λ (w : List ℕ). get_or w (suc i) 0) e ∙ ap (λ (j : ℕ). get_or (lower ++ q ∷ p ∷ upper) j 0) (sym s) ∙ get_or-append-add lower (q ∷ p ∷ upper) 1 0 in
      let level = way_level k x memory (root_least l) (2 * k) l t 0 word_range forms.in_range forms.holds (omega arith) key in
      let levelQ : (memory q).level ≡ i + 1 = subst (λ (c : ℕ). (memory c).level ≡ i + 1) atQ (level i (omega arith)) in
      let levelP : (memory p).level ≡ suc i + 1 = subst (λ (c : ℕ). (memory c).level ≡ suc i + 1) at_p (level (suc i) inside) in
      let leads = way_route k x memory (root_least l) (2 * k) l t 0 word_range forms.in_range forms.holds (omega arith) key i inside in
      (ap (λ (c : ℕ). route x (memory c)) (sym at_p) ∙ leads ∙ atQ, omega arith)

  pub way_facts : WayFacts memory x l t
  way_facts = record {
    pages = way_length k x (root_least l) (2 * k) l t 0 word_range forms.in_range (omega arith) key;
    level = way_level k x memory (root_least l) (2 * k) l t 0 word_range forms.in_range forms.holds (omega arith) key;
    root = way_top k x (root_least l) (2 * k) l t 0 word_range forms.in_range (omega arith) key ∙ forms.root;
    leads = way_route k x memory (root_least l) (2 * k) l t 0 word_range forms.in_range forms.holds (omega arith) key;
    father = way_father;
    leaf = way_leaf k x memory (root_least l) (2 * k) l t 0 word_range forms.in_range forms.holds (omega arith) key;
    decides = leaf_has k x (root_least l) (2 * k) l t 0 word_range forms.in_range (omega arith) key;
    tells = leaf_information k x (root_least l) (2 * k) l t 0 word_range forms.in_range (omega arith) key;
  }
