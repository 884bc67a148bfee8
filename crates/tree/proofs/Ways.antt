-- Ways and places: a page of the tree stands in one place, with one level and one key range, and it is on the way of
-- the keys of that range and of no others. So ways that meet have met above.
use Prim.Native.Nat.{ℕ, zero, suc, ◌+◌, ◌-◌, ◌*◌, ◌≤◌, ◌<◌}
use mathlib.Core.Path.{◌≡◌, refl, sym, ap, ◌∙◌, subst, subst₂}
use mathlib.Core.List.{List, [], ◌∷◌, ◌++◌}
use mathlib.Core.Logic.{inl, inr}
use native.Mathlib.Omega.{arith}
use borrow.Author.Tests.{leb-true, leb-false, ltb-true}
use lib.Dec.{leb}
use lib.ListN.{length, get_or, drop, length-append, get_or-append}
use lib.Seq.{drop_at, drop-append-le, drop-append_seam, get_or-append_seam}
use Rattle.ground.specs.Limits.{word_range}
use Rattle.ground.proofs.Limits.{range_rises}
use Rattle.ground.proofs.Choice.{by_test, cond-true, cond-false}
use Rattle.page.specs.Words.{Keyed, Page, μ}
use Rattle.page.specs.Place.{pointer, place}
use Rattle.page.specs.Short.{has_right, neighbour}
use Rattle.page.proofs.PlaceLaws.{place_most}
use Rattle.tree.specs.Rows.{head_key, Span, Somewhere, total, row_page}
use Rattle.tree.specs.Tree.{Tr, page_number, once, occurs, root_least, InRange, Holds, Stands, way, Forms}
use Rattle.tree.specs.Facts.{Placed, PlacedWithin, PlacedFor, PlaceInside, SamePlace, PlaceFacts}
use Rattle.tree.proofs.Rows.{head_key_append, head_key_most, somewhere_right, middle_has, middle_rises, middle_before, middle_after}
use Rattle.tree.proofs.Pages.{row_page_μ, row_page_pointer}
use Rattle.tree.proofs.Memory.{once_same, once_is, somewhere_total, stands_occurs}
use Rattle.tree.proofs.Search.{Down, down, down_at, each_here, way_length, way_lower, way_top}

-- ---- one thing of a row

-- A thing of a row that has P with its range, and what stands before and behind it.
pub record Found {C : Type 0} (P : C → ℕ → ℕ → Type 0) (row : List (Keyed C)) (hi : ℕ) : Type 0 where
  pub before : List (Keyed C)
  pub here : Keyed C
  pub after : List (Keyed C)
  pub whole : row ≡ before ++ here ∷ after
  pub has : P here.value here.key (head_key after hi)

found_behind : {C : Type 0} (P : C → ℕ → ℕ → Type 0) (d : Keyed C) (ds : List (Keyed C)) (hi : ℕ) → Found P ds hi → Found P (d ∷ ds) hi
found_behind {C} P d ds hi f =
    record { before = d ∷ f.before; here = f.here; after = f.after; whole = ap (λ (l : List (Keyed C)). d ∷ l) f.whole; has = f.has }

-- what some thing has, a thing found in the row has,
pub found : {C : Type 0} (P : C → ℕ → ℕ → Type 0) (row : List (Keyed C)) (hi : ℕ) → Somewhere P row hi → Found P row hi
found P [] hi h = absurd h
found P (d ∷ ds) hi (inl h) = record { before = []; here = d; after = ds; whole = refl; has = h }
found P (d ∷ ds) hi (inr h) = found_behind P d ds hi (found P ds hi h)

-- and back
pub found_somewhere : {C : Type 0} (P : C → ℕ → ℕ → Type 0) (row : List (Keyed C)) (hi : ℕ) → Found P row hi → Somewhere P row hi
found_somewhere {C} P row hi f =
    subst (λ (r : List (Keyed C)). Somewhere P r hi) (sym f.whole) (somewhere_right P f.before (f.here ∷ f.after) hi (inl f.has))

-- a sum over a row that is not 0 has a part that is not 0
pub total_found : {C : Type 0} (f : C → ℕ) (row : List (Keyed C)) (hi : ℕ) → 1 ≤ total f row → Found (λ (c : C) (a b : ℕ). 1 ≤ f c) row hi
total_found f [] hi h = absurd (omega arith)
total_found {C} f (d ∷ ds) hi h =
    by_test (leb 1 (f d.value))
    (λ t. record { before = []; here = d; after = ds; whole = refl; has = leb-true 1 (f d.value) t })
    (λ t. let none = leb-false 1 (f d.value) t in
    found_behind (λ (c : C) (a b : ℕ). 1 ≤ f c) d ds hi (total_found f ds hi (omega arith)))

-- ---- places

-- a page of the tree stands in it
pub occurs_placed : (l : ℕ) (t : Tr l) (lo hi q : ℕ) → 1 ≤ occurs q l t → Placed l t lo hi q
occurs_placed zero t lo hi q h = record { level = 1; from = lo; to = hi; stands = (sym (once_is q t.at h), refl, refl, refl) }
occurs_placed (suc l) t lo hi q h =
    by_test (leb 1 (once q t.at))
    (λ y. record { level = suc (suc l); from = lo; to = hi; stands = inl (sym (once_is q t.at (leb-true 1 (once q t.at) y)), refl, refl, refl) })
    (λ n.
    let none = leb-false 1 (once q t.at) n in
    let f = total_found (occurs q l) t.row hi (omega arith) in
    let p = occurs_placed l f.here.value f.here.key (head_key f.after hi) q f.has in
    record {
      level = p.level;
      from = p.from;
      to = p.to;
      stands = inr (found_somewhere (λ (c : Tr l) (lo' hi' : ℕ). Stands l c lo' hi' q p.level p.from p.to) t.row hi
          (record { before = f.before; here = f.here; after = f.after; whole = f.whole; has = p.stands }));
    })

-- ---- one place

-- the root page stands on the top level, with the whole range
pub stands_root : (l : ℕ) (t : Tr l) (lo hi : ℕ) → Stands l t lo hi (page_number l t) (l + 1) lo hi
stands_root zero t lo hi = (refl, refl, refl, refl)
stands_root (suc l) t lo hi = inl (refl, omega arith, refl, refl)

-- Two things of a row have the same place, where each thing has its page once at most and so has the row.
same_place : {C : Type 0} (f : C → ℕ) (P P' : C → ℕ → ℕ → Type 0) (X : Type 0) (row : List (Keyed C)) (hi : ℕ)
    → ((c : C) (a b : ℕ) → P c a b → 1 ≤ f c) → ((c : C) (a b : ℕ) → P' c a b → 1 ≤ f c)
    → ((c : C) (a b : ℕ) → f c ≤ 1 → P c a b → P' c a b → X) → total f row ≤ 1 → Somewhere P row hi → Somewhere P' row hi → X
same_place f P P' X [] hi g g' same most h h' = absurd h
same_place f P P' X (d ∷ ds) hi g g' same most (inl h) (inl h') = same d.value d.key (head_key ds hi) (omega arith) h h'
same_place f P P' X (d ∷ ds) hi g g' same most (inl h) (inr h') =
    let one = g d.value d.key (head_key ds hi) h in
    let rest = somewhere_total P' f ds hi g' h' in
    absurd (omega arith)
same_place f P P' X (d ∷ ds) hi g g' same most (inr h) (inl h') =
    let one = g' d.value d.key (head_key ds hi) h' in
    let rest = somewhere_total P f ds hi g h in
    absurd (omega arith)
same_place f P P' X (d ∷ ds) hi g g' same most (inr h) (inr h') = same_place f P P' X ds hi g g' same (omega arith) h h'

-- a page that occurs once at most stands in one place only
pub stands_once : (l : ℕ) (t : Tr l) (lo hi q level a b level' a' b' : ℕ) → occurs q l t ≤ 1
    → Stands l t lo hi q level a b → Stands l t lo hi q level' a' b' → SamePlace level a b level' a' b'
stands_once zero t lo hi q level a b level' a' b' most s s' =
    record { same_level = s.1 ∙ sym s'.1; same_from = s.2 ∙ sym s'.2; same_to = s.3 ∙ sym s'.3 }
stands_once (suc l) t lo hi q level a b level' a' b' most (inl s) (inl s') =
    record { same_level = s.1 ∙ sym s'.1; same_from = s.2 ∙ sym s'.2; same_to = s.3 ∙ sym s'.3 }
stands_once (suc l) t lo hi q level a b level' a' b' most (inl s) (inr s') =
    let one = once_same q t.at (sym s.0) in
    let rest = somewhere_total (λ (c : Tr l) (lo' hi' : ℕ). Stands l c lo' hi' q level' a' b') (occurs q l) t.row hi
    (λ c lo' hi' h. stands_occurs l c lo' hi' q level' a' b' h) s' in
    absurd (omega arith)
stands_once (suc l) t lo hi q level a b level' a' b' most (inr s) (inl s') =
    let one = once_same q t.at (sym s'.0) in
    let rest = somewhere_total (λ (c : Tr l) (lo' hi' : ℕ). Stands l c lo' hi' q level a b) (occurs q l) t.row hi
    (λ c lo' hi' h. stands_occurs l c lo' hi' q level a b h) s in
    absurd (omega arith)
stands_once (suc l) t lo hi q level a b level' a' b' most (inr s) (inr s') =
    same_place (occurs q l)
    (λ (c : Tr l) (lo' hi' : ℕ). Stands l c lo' hi' q level a b)
    (λ (c : Tr l) (lo' hi' : ℕ). Stands l c lo' hi' q level' a' b')
    (SamePlace level a b level' a' b') t.row hi
    (λ c lo' hi' h. stands_occurs l c lo' hi' q level a b h)
    (λ c lo' hi' h. stands_occurs l c lo' hi' q level' a' b' h)
    (λ c lo' hi' once h h'. stands_once l c lo' hi' q level a b level' a' b' once h h')
    (omega arith) s s'

-- the memory has at a page that stands on a level a page of that level
pub holds_level : (memory : ℕ → Page) (l : ℕ) (t : Tr l) (lo hi q level a b : ℕ) → Holds memory l t → Stands l t lo hi q level a b → (memory q).level ≡ level
holds_level memory zero t lo hi q level a b h s =
    ap (λ (p : ℕ). (memory p).level) (sym s.0) ∙ ap (λ (Q : Page). Q.level) h ∙ sym s.1
holds_level memory (suc l) t lo hi q level a b h (inl s) =
    ap (λ (p : ℕ). (memory p).level) (sym s.0) ∙ ap (λ (Q : Page). Q.level) h.0 ∙ sym s.1
holds_level memory (suc l) t lo hi q level a b h (inr s) =
    let f = found (λ (c : Tr l) (lo' hi' : ℕ). Stands l c lo' hi' q level a b) t.row hi s in
    holds_level memory l f.here.value f.here.key (head_key f.after hi) q level a b
    (each_here (Holds memory l) f.before f.here f.after t.row f.whole h.1) f.has

-- ---- places and ways

-- A row cut behind its first j things.
record Cut {C : Type 0} (row : List (Keyed C)) (j : ℕ) : Type 0 where
  before : List (Keyed C)
  here : Keyed C
  after : List (Keyed C)
  whole : row ≡ before ++ here ∷ after
  count : length before ≡ j

cut : {C : Type 0} (row : List (Keyed C)) (j : ℕ) → j < length row → Cut row j
cut [] j h = absurd (omega arith)
cut (d ∷ ds) zero h = record { before = []; here = d; after = ds; whole = refl; count = refl }
cut {C} (d ∷ ds) (suc j) h =
    let c = cut ds j (omega arith) in
    record { before = d ∷ c.before; here = c.here; after = c.after; whole = ap (λ (r : List (Keyed C)). d ∷ r) c.whole; count = ap suc c.count }

-- pointer j of a page is the page number of the child behind the first j
cut_pointer : {C : Type 0} (level : ℕ) (at : C → ℕ) (row : List (Keyed C)) (j : ℕ) (c : Cut row j) → at c.here.value ≡ pointer j (row_page level at row)
cut_pointer {C} level at row j c =
    sym (row_page_pointer level at c.before c.here c.after)
    ∙ ap (λ (n : ℕ). pointer n (row_page level at (c.before ++ c.here ∷ c.after))) c.count
    ∙ ap (λ (r : List (Keyed C)). pointer j (row_page level at r)) (sym c.whole)

-- a page has one reference key less than children, where it has a child
pub row_μ : {C : Type 0} (level : ℕ) (at : C → ℕ) (row : List (Keyed C)) → 1 ≤ length row → suc (μ (row_page level at row)) ≡ length row
row_μ level at [] h = absurd (omega arith)
row_μ level at (d ∷ ds) h = ap suc (row_page_μ level at d ds)

module _ (k : ℕ) where
  -- a page stands inside the tree's levels and range
  pub stands_inside : (m M l : ℕ) (t : Tr l) (lo hi q level a b : ℕ) → InRange k m M l t lo hi → lo < hi
      → Stands l t lo hi q level a b → PlaceInside l lo hi level a b
  stands_inside m M zero t lo hi q level a b r rising s =
      let e = s.1 in
      let f = s.2 in
      let g = s.3 in
      record { lowest = omega arith; highest = omega arith; low = omega arith; rises = omega arith; high = omega arith }
  stands_inside m M (suc l) t lo hi q level a b r rising (inl s) =
      let e = s.1 in
      let f = s.2 in
      let g = s.3 in
      record { lowest = omega arith; highest = omega arith; low = omega arith; rises = omega arith; high = omega arith }
  stands_inside m M (suc l) t lo hi q level a b r rising (inr s) =
      let P : Tr l → ℕ → ℕ → Type 0 = InRange k k (2 * k) l in
      let f = found (λ (c : Tr l) (lo' hi' : ℕ). Stands l c lo' hi' q level a b) t.row hi s in
      let span : Span P (f.before ++ f.here ∷ f.after) hi = subst (λ (row : List (Keyed (Tr l))). Span P row hi) f.whole r.children in
      let inner = stands_inside k (2 * k) l f.here.value f.here.key (head_key f.after hi) q level a b
      (middle_has P f.before f.here f.after hi span) (middle_rises P f.before f.here f.after hi span) f.has in
      let first : head_key (f.before ++ f.here ∷ f.after) hi ≡ lo = sym (ap (λ (row : List (Keyed (Tr l))). head_key row hi) f.whole) ∙ r.low in
      let seam = head_key_append f.before (f.here ∷ f.after) hi in
      let begins = head_key_most P f.before f.here.key (middle_before P f.before f.here f.after hi span) in
      let ends = head_key_most P f.after hi (middle_after P f.before f.here f.after hi span) in
      record { lowest = omega arith; highest = omega arith; low = omega arith; rises = omega arith; high = omega arith }

  -- a page that stands in the child on x's way stands in the tree
  stands_below : (x l : ℕ) (t : Tr (suc l)) (lo hi : ℕ) (d : Down k x l t hi) (q level a b : ℕ)
      → Stands l d.here.value d.here.key (head_key d.after hi) q level a b → Stands (suc l) t lo hi q level a b
  stands_below x l t lo hi d q level a b s =
      inr (found_somewhere (λ (c : Tr l) (lo' hi' : ℕ). Stands l c lo' hi' q level a b) t.row hi
      (record { before = d.before; here = d.here; after = d.after; whole = d.whole; has = s }))

  -- page i of x's way stands on level i + 1, with a range that has x
  pub way_stands : (x m M l : ℕ) (t : Tr l) (lo hi : ℕ) → InRange k m M l t lo hi → lo ≤ x → x < hi
      → (i : ℕ) → i ≤ l → PlacedFor x l t lo hi (get_or (way x l t) i 0) (i + 1)
  way_stands x m M zero t lo hi r low high i b =
      let e : i ≡ 0 = omega arith in
      record { from = lo; to = hi; stands = (ap (λ (j : ℕ). get_or (t.at ∷ []) j 0) (sym e), omega arith, refl, refl); low = low; high = high }
  way_stands x m M (suc l) t lo hi r low high i b =
      let d = down k m M x l t lo hi r low high in
      by_test (leb i l)
      (λ y.
      let under = leb-true i l y in
      let p = way_stands x k (2 * k) l d.here.value d.here.key (head_key d.after hi) d.child d.from d.to i under in
      record {
        from = p.from;
        to = p.to;
        stands = stands_below x l t lo hi d (get_or (way x (suc l) t) i 0) (i + 1) p.from p.to
            (rw (way_lower k x l t hi d i under) p.stands);
        low = p.low;
        high = p.high;
      })
      (λ n.
      let over = leb-false i l n in
      let e : i ≡ suc l = omega arith in
      record {
        from = lo;
        to = hi;
        stands = inl (sym (way_top k x m M (suc l) t lo hi r low high) ∙ ap (λ (j : ℕ). get_or (way x (suc l) t) j 0) (sym e), omega arith, refl, refl);
        low = low;
        high = high;
      })

  -- One level down, to a page below the root page: the child in which it stands.
  pub record Under (l : ℕ) (t : Tr (suc l)) (hi q level a b : ℕ) : Type 0 where
    pub before : List (Keyed (Tr l))
    pub here : Keyed (Tr l)
    pub after : List (Keyed (Tr l))
    pub whole : t.row ≡ before ++ here ∷ after
    pub child : InRange k k (2 * k) l here.value here.key (head_key after hi)
    pub stands : Stands l here.value here.key (head_key after hi) q level a b
    pub low : here.key ≤ a
    pub rises : a < b
    pub high : b ≤ head_key after hi
    pub highest : level ≤ l + 1

  pub under : (m M l : ℕ) (t : Tr (suc l)) (lo hi q level a b : ℕ) → InRange k m M (suc l) t lo hi
      → Somewhere (λ (c : Tr l) (lo' hi' : ℕ). Stands l c lo' hi' q level a b) t.row hi → Under l t hi q level a b
  under m M l t lo hi q level a b r s =
      let P : Tr l → ℕ → ℕ → Type 0 = InRange k k (2 * k) l in
      let f = found (λ (c : Tr l) (lo' hi' : ℕ). Stands l c lo' hi' q level a b) t.row hi s in
      let span : Span P (f.before ++ f.here ∷ f.after) hi = subst (λ (row : List (Keyed (Tr l))). Span P row hi) f.whole r.children in
      let child = middle_has P f.before f.here f.after hi span in
      let inner = stands_inside k (2 * k) l f.here.value f.here.key (head_key f.after hi) q level a b
      child (middle_rises P f.before f.here f.after hi span) f.has in
      record {
        before = f.before;
        here = f.here;
        after = f.after;
        whole = f.whole;
        child = child;
        stands = f.has;
        low = inner.low;
        rises = inner.rises;
        high = inner.high;
        highest = inner.highest;
      }

  -- the way of a key in the page's range goes through that child
  under_way : (x m M l : ℕ) (t : Tr (suc l)) (lo hi q level a b : ℕ) → InRange k m M (suc l) t lo hi → (u : Under l t hi q level a b)
      → a ≤ x → x < b → way x (suc l) t ≡ way x l u.here.value ++ t.at ∷ []
  unfolding down_at
  under_way x m M l t lo hi q level a b r u from to =
      (down_at k m M x l t lo hi r u.before u.here u.after u.whole (omega (arith, u.low)) (omega (arith, u.high))).way_on

  under_length : (x l : ℕ) (t : Tr (suc l)) (hi q level a b : ℕ) (u : Under l t hi q level a b)
      → a ≤ x → x < b → length (way x l u.here.value) ≡ l + 1
  under_length x l t hi q level a b u from to =
      way_length k x k (2 * k) l u.here.value u.here.key (head_key u.after hi) u.child (omega (arith, u.low)) (omega (arith, u.high))

  -- a page that stands in a range with x is on x's way, on its level
  pub stands_way : (x m M l : ℕ) (t : Tr l) (lo hi q level a b : ℕ) → InRange k m M l t lo hi → lo ≤ x → x < hi
      → Stands l t lo hi q level a b → a ≤ x → x < b → (i : ℕ) → level ≡ i + 1 → get_or (way x l t) i 0 ≡ q
  stands_way x m M zero t lo hi q level a b r low high s from to i e =
      let one = s.1 in
      let z : i ≡ 0 = omega arith in
      ap (λ (j : ℕ). get_or (t.at ∷ []) j 0) z ∙ s.0
  stands_way x m M (suc l) t lo hi q level a b r low high (inl s) from to i e =
      let top = s.1 in
      let z : i ≡ suc l = omega arith in
      ap (λ (j : ℕ). get_or (way x (suc l) t) j 0) z ∙ way_top k x m M (suc l) t lo hi r low high ∙ s.0
  stands_way x m M (suc l) t lo hi q level a b r low high (inr s) from to i e =
      let u = under m M l t lo hi q level a b r s in
      let len = under_length x l t hi q level a b u from to in
      ap (λ (w : List ℕ). get_or w i 0) (under_way x m M l t lo hi q level a b r u from to)
      ∙ get_or-append (way x l u.here.value) (t.at ∷ []) 0 i (omega (arith, u.highest))
      ∙ stands_way x k (2 * k) l u.here.value u.here.key (head_key u.after hi) q level a b u.child
      (omega (arith, u.low)) (omega (arith, u.high)) u.stands from to i e

  -- from that page on upward, the ways of all keys in its range are one
  pub way_above : (x y m M l : ℕ) (t : Tr l) (lo hi q level a b : ℕ) → InRange k m M l t lo hi → lo ≤ x → x < hi → lo ≤ y → y < hi
      → Stands l t lo hi q level a b → a ≤ x → x < b → a ≤ y → y < b → (i : ℕ) → level ≡ i + 1 → drop i (way x l t) ≡ drop i (way y l t)
  way_above x y m M zero t lo hi q level a b r low high low' high' s from to from' to' i e = refl
  way_above x y m M (suc l) t lo hi q level a b r low high low' high' (inl s) from to from' to' i e =
      let top = s.1 in
      last x low high ∙ sym (last y low' high')
    where
      last : (z : ℕ) → lo ≤ z → z < hi → drop i (way z (suc l) t) ≡ t.at ∷ []
      last z low high =
          let d = down k m M z l t lo hi r low high in
          let top = s.1 in
          let len = way_length k z k (2 * k) l d.here.value d.here.key (head_key d.after hi) d.child d.from d.to in
          ap (drop i) d.way_on ∙ drop_at (way z l d.here.value) (t.at ∷ []) i (omega arith)
  way_above x y m M (suc l) t lo hi q level a b r low high low' high' (inr s) from to from' to' i e =
      let u = under m M l t lo hi q level a b r s in
      let len = under_length x l t hi q level a b u from to in
      let len' = under_length y l t hi q level a b u from' to' in
      ap (drop i) (under_way x m M l t lo hi q level a b r u from to)
      ∙ drop-append-le i (way x l u.here.value) (t.at ∷ []) (omega (arith, u.highest))
      ∙ ap (λ (w : List ℕ). w ++ t.at ∷ [])
      (way_above x y k (2 * k) l u.here.value u.here.key (head_key u.after hi) q level a b u.child
      (omega (arith, u.low)) (omega (arith, u.high)) (omega (arith, u.low)) (omega (arith, u.high)) u.stands from to from' to' i e)
      ∙ sym (drop-append-le i (way y l u.here.value) (t.at ∷ []) (omega (arith, u.highest)))
      ∙ sym (ap (drop i) (under_way y m M l t lo hi q level a b r u from' to'))

  -- what an upper page points to stands one level lower, in a part of the page's range
  pub pointed_stands : (memory : ℕ → Page) (m M l : ℕ) (t : Tr l) (lo hi p level a b i j : ℕ) → InRange k m M l t lo hi → lo < hi → Holds memory l t
      → Stands l t lo hi p level a b → level ≡ i + 2 → j ≤ μ (memory p) → PlacedWithin l t lo hi (pointer j (memory p)) (i + 1) a b
  pointed_stands memory m M zero t lo hi p level a b i j r rising h s e most = let one = s.1 in absurd (omega arith)
  pointed_stands memory m M (suc l) t lo hi p level a b i j r rising h (inl s) e most =
      let value : memory p ≡ row_page (suc (suc l)) (page_number l) t.row = ap memory (sym s.0) ∙ h.0 in
      let top : level ≡ suc (suc l) = s.1 in
      let least : m + 1 ≤ length t.row = r.least in
      let many = row_μ (suc (suc l)) (page_number l) t.row (omega arith) in
      let c = cut t.row j (omega (arith, ap μ value)) in
      let child : page_number l c.here.value ≡ pointer j (memory p)
      = cut_pointer (suc (suc l)) (page_number l) t.row j c ∙ ap (pointer j) (sym value) in
      let from : ℕ = c.here.key in
      let to : ℕ = head_key c.after hi in
      let lower : l + 1 ≡ i + 1 = omega arith in
      let stands : Stands (suc l) t lo hi (pointer j (memory p)) (i + 1) from to
      = inr (found_somewhere (λ (d : Tr l) (lo' hi' : ℕ). Stands l d lo' hi' (pointer j (memory p)) (i + 1) from to) t.row hi
      (record {
        before = c.before;
        here = c.here;
        after = c.after;
        whole = c.whole;
        has = subst₂ (λ (q v : ℕ). Stands l c.here.value from to q v from to) child lower (stands_root l c.here.value from to);
      })) in
      let inner = stands_inside m M (suc l) t lo hi (pointer j (memory p)) (i + 1) from to r rising stands in
      record { from = from; to = to; stands = stands; low = omega (arith, s.2); rises = inner.rises; high = omega (arith, s.3) }
  pointed_stands memory m M (suc l) t lo hi p level a b i j r rising h (inr s) e most =
      let u = under m M l t lo hi p level a b r s in
      let w = pointed_stands memory k (2 * k) l u.here.value u.here.key (head_key u.after hi) p level a b i j u.child
      (omega (arith, u.low, u.rises, u.high))
      (each_here (Holds memory l) u.before u.here u.after t.row u.whole h.1) u.stands e most in
      record {
        from = w.from;
        to = w.to;
        stands = inr (found_somewhere (λ (d : Tr l) (lo' hi' : ℕ). Stands l d lo' hi' (pointer j (memory p)) (i + 1) w.from w.to) t.row hi
            (record { before = u.before; here = u.here; after = u.after; whole = u.whole; has = w.stands }));
        low = w.low;
        rises = w.rises;
        high = w.high;
      }

-- a father's neighbour of the page to which it routes x is one of its pointers
pub neighbour_pointer : (x : ℕ) (F : Page) → (j : ℕ) × (j ≤ μ F) × (neighbour x F ≡ pointer j F)
unfolding neighbour
neighbour_pointer x F =
    let most = place_most x F.entries in
    by_test (has_right x F)
    (λ y. let right = ltb-true (place x F.entries) (μ F) y in
    (suc (place x F.entries), right, cond-true (pointer (suc (place x F.entries)) F) (pointer (place x F.entries - 1) F) y))
    (λ n. (place x F.entries - 1, omega arith, cond-false (pointer (suc (place x F.entries)) F) (pointer (place x F.entries - 1) F) n))

-- The places of the pages of a tree that a memory holds.
module _ (k n : ℕ) (memory : ℕ → Page) (l : ℕ) (t : Tr l) (forms : Forms k n memory l t) where
  place_inside : (q level a b : ℕ) → Stands l t 0 word_range q level a b → PlaceInside l 0 word_range level a b
  place_inside q level a b s = stands_inside k (root_least l) (2 * k) l t 0 word_range q level a b forms.in_range range_rises s

  place_only : (q level a b level' a' b' : ℕ) → Stands l t 0 word_range q level a b → Stands l t 0 word_range q level' a' b'
      → SamePlace level a b level' a' b'
  place_only q level a b level' a' b' = stands_once l t 0 word_range q level a b level' a' b' (forms.different q)

  place_on_way : (x i : ℕ) → x < word_range → i ≤ l → PlacedFor x l t 0 word_range (get_or (way x l t) i 0) (i + 1)
  place_on_way x i key most = way_stands k x (root_least l) (2 * k) l t 0 word_range forms.in_range (omega arith) key i most

  place_way_has : (x i q a b : ℕ) → Stands l t 0 word_range q (i + 1) a b → a ≤ x → x < b → get_or (way x l t) i 0 ≡ q
  place_way_has x i q a b s from to =
      let inside = place_inside q (i + 1) a b s in
      stands_way k x (root_least l) (2 * k) l t 0 word_range q (i + 1) a b forms.in_range (omega arith) (omega arith) s from to i refl

  -- the range of a page of the way, which its place in the list gives
  split_place : (x q : ℕ) (lower upper : List ℕ) → x < word_range → way x l t ≡ lower ++ q ∷ upper → PlacedFor x l t 0 word_range q (length lower + 1)
  split_place x q lower upper key e =
      let len = way_length k x (root_least l) (2 * k) l t 0 word_range forms.in_range (omega arith) key in
      subst (λ (p : ℕ). PlacedFor x l t 0 word_range p (length lower + 1))
      (ap (λ (w : List ℕ). get_or w (length lower) 0) e ∙ get_or-append_seam lower q upper 0)
      (place_on_way x (length lower) key (omega (arith, ap length e, length-append lower (q ∷ upper))))

  place_above : (x y q : ℕ) (lower upper lower' upper' : List ℕ) → x < word_range → y < word_range
      → way x l t ≡ lower ++ q ∷ upper → way y l t ≡ lower' ++ q ∷ upper' → upper ≡ upper'
  place_above x y q lower upper lower' upper' key key' e e' =
      let p = split_place x q lower upper key e in
      let p' = split_place y q lower' upper' key' e' in
      let same = place_only q (length lower + 1) p.from p.to (length lower' + 1) p'.from p'.to p.stands p'.stands in
      let one : length lower' ≡ length lower = omega arith in
      let shared : drop (length lower) (way x l t) ≡ drop (length lower) (way y l t)
      = way_above k x y (root_least l) (2 * k) l t 0 word_range q (length lower + 1) p.from p.to forms.in_range
      (omega arith) key (omega arith) key' p.stands p.low p.high (omega arith) (omega arith) (length lower) refl in
      let whole : q ∷ upper ≡ q ∷ upper'
      = sym (drop-append_seam lower (q ∷ upper))
      ∙ ap (drop (length lower)) (sym e) ∙ shared ∙ ap (drop (length lower)) e'
      ∙ drop_at lower' (q ∷ upper') (length lower) one in
      ap (drop 1) whole

  place_pointed : (p i a b j : ℕ) → Stands l t 0 word_range p (i + 2) a b → j ≤ μ (memory p)
      → PlacedWithin l t 0 word_range (pointer j (memory p)) (i + 1) a b
  place_pointed p i a b j s most =
      pointed_stands k memory (root_least l) (2 * k) l t 0 word_range p (i + 2) a b i j forms.in_range range_rises forms.holds s refl most

  place_neighbours : (p i a b x : ℕ) → Stands l t 0 word_range p (i + 2) a b → PlacedWithin l t 0 word_range (neighbour x (memory p)) (i + 1) a b
  place_neighbours p i a b x s =
      let next = neighbour_pointer x (memory p) in
      subst (λ (q : ℕ). PlacedWithin l t 0 word_range q (i + 1) a b) (sym next.2) (place_pointed p i a b next.0 s next.1)

  -- a page is on the way of a key in the range of something that it points to, one level above that
  father_way : (x p i a b j : ℕ) (s : Stands l t 0 word_range p (i + 2) a b) (most : j ≤ μ (memory p))
      → (place_pointed p i a b j s most).from ≤ x → x < (place_pointed p i a b j s most).to → get_or (way x l t) (suc i) 0 ≡ p
  father_way x p i a b j s most from to =
      let c = place_pointed p i a b j s most in
      let e : i + 2 ≡ suc i + 1 = omega arith in
      place_way_has x (suc i) p a b (subst (λ (v : ℕ). Stands l t 0 word_range p v a b) e s) (omega (arith, c.low)) (omega (arith, c.high))

  place_one_father : (p i a b j p' i' a' b' j' : ℕ) → Stands l t 0 word_range p (i + 2) a b → j ≤ μ (memory p)
      → Stands l t 0 word_range p' (i' + 2) a' b' → j' ≤ μ (memory p') → pointer j (memory p) ≡ pointer j' (memory p') → p ≡ p'
  place_one_father p i a b j p' i' a' b' j' s most s' most' e =
      let c = place_pointed p i a b j s most in
      let c' = place_pointed p' i' a' b' j' s' most' in
      let same = place_only (pointer j (memory p)) (i + 1) c.from c.to (i' + 1) c'.from c'.to c.stands
      (subst (λ (q : ℕ). Stands l t 0 word_range q (i' + 1) c'.from c'.to) (sym e) c'.stands) in
      let level : i ≡ i' = omega arith in
      sym (father_way c.from p i a b j s most (omega arith) c.rises)
      ∙ ap (λ (v : ℕ). get_or (way c.from l t) (suc v) 0) level
      ∙ father_way c.from p' i' a' b' j' s' most' (omega arith) (omega (arith, c.rises))

  place_father_above : (x c p i a b j : ℕ) → x < word_range → c ≤ l → Stands l t 0 word_range p (i + 2) a b → j ≤ μ (memory p)
      → get_or (way x l t) c 0 ≡ pointer j (memory p) → get_or (way x l t) (suc c) 0 ≡ p
  place_father_above x c p i a b j key inside s most e =
      let w = place_on_way x c key inside in
      let d = place_pointed p i a b j s most in
      let same = place_only (pointer j (memory p)) (c + 1) w.from w.to (i + 1) d.from d.to
      (subst (λ (q : ℕ). Stands l t 0 word_range q (c + 1) w.from w.to) e w.stands) d.stands in
      let level : c ≡ i = omega arith in
      ap (λ (v : ℕ). get_or (way x l t) (suc v) 0) level
      ∙ father_way x p i a b j s most (omega (arith, w.low)) (omega (arith, w.high))

  pub place_facts : PlaceFacts memory l t
  place_facts = record {
    placed = occurs_placed l t 0 word_range;
    counted = stands_occurs l t 0 word_range;
    only = place_only;
    inside = place_inside;
    level = λ q level a b s. holds_level memory l t 0 word_range q level a b forms.holds s;
    on_way = place_on_way;
    way_has = place_way_has;
    above = place_above;
    pointed = place_pointed;
    neighbours = place_neighbours;
    one_father = place_one_father;
    father_above = place_father_above;
  }
