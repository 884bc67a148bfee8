-- What the rules' page functions do to the pages of a tree: an upper page is the row of its children, a leaf the row of
-- its entries, and each rule is a cut, a join or a small change of rows.
use Prim.Native.Nat.{ℕ, suc, ◌+◌, ◌-◌, ◌≤◌, ◌<◌}
use native.Mathlib.Omega.{arith}
use mathlib.Core.Bool.{true, false}
use mathlib.Core.Path.{◌≡◌, refl, sym, ap, ◌∙◌, subst}
use mathlib.Core.List.{List, [], ◌∷◌, ◌++◌, map, map-append, map-map}
use lib.Dec.{eqb}
use lib.ListN.{length, get_or, drop, length-append, length-map}
use lib.Seq.{append_snoc, take_at, drop_at, get_or_at}
use borrow.Author.Tests.{lt-ltb, le-ltb, le-leb, lt-leb, ne_eqb}
use Rattle.ground.specs.Tests.{count}
use Rattle.ground.proofs.Choice.{cond-true, cond-false}
use Rattle.page.specs.Words.{Keyed, Entry, Page, entry, page, μ, key_of, value_of, pointers}
use Rattle.page.specs.Place.{place, pointer, route}
use Rattle.page.specs.Splits.{parted, entry_at, put, split, raised}
use Rattle.page.specs.Short.{has_right, neighbour, between_at, key_between, from_right, from_left, joined, less_key, rekeyed, moved, merged}
use Rattle.tree.specs.Rows.{head_key, Span, top_pointer, references, row_page}

-- ---- pairs at a known place

-- behind a list and one element more
drop_past : {A : Type 0} (es : List A) (a : A) (fs : List A) (n : ℕ) → length es ≡ n → drop (suc n) (es ++ a ∷ fs) ≡ fs
drop_past {A} es a fs n e =
    subst (λ (k : ℕ). drop (suc k) (es ++ a ∷ fs) ≡ fs) e (seam es)
  where
    seam : (xs : List A) → drop (suc (length xs)) (xs ++ a ∷ fs) ≡ fs
    seam [] = refl
    seam (x ∷ xs) = seam xs

-- a pair put in
put_at : (lv p n : ℕ) (e : Entry) (es fs : List Entry) → length es ≡ n → put n e (page lv p (es ++ fs)) ≡ page lv p (es ++ e ∷ fs)
unfolding put
put_at lv p n e es fs h = rw (take_at es fs n h, drop_at es fs n h)

-- a pair taken out
less_at : (lv p n : ℕ) (es : List Entry) (e : Entry) (fs : List Entry)
    → length es ≡ n → less_key n (page lv p (es ++ e ∷ fs)) ≡ page lv p (es ++ fs)
unfolding less_key
less_at lv p n es e fs h = rw (take_at es (e ∷ fs) n h, drop_past es e fs n h)

-- a pair given another key
rekeyed_at : (lv p n r : ℕ) (es : List Entry) (e : Entry) (fs : List Entry)
    → length es ≡ n → rekeyed n r (page lv p (es ++ e ∷ fs)) ≡ page lv p (es ++ entry r e.value ∷ fs)
unfolding rekeyed
rekeyed_at lv p n r es e fs h = rw (take_at es (e ∷ fs) n h, drop_past es e fs n h, get_or_at es e fs (entry 0 0) n h)

-- the place of the last pair
last_at : (L : List Entry) (e : Entry) → length L ≡ length (L ++ e ∷ []) - 1
last_at L e = rw (length-append L (e ∷ [])) (omega arith)

-- ---- leaves

-- a leaf with 2k + 1 entries splits behind its first k
pub leaf_split : (k : ℕ) (L : List Entry) (e : Entry) (R : List Entry)
    → length L ≡ k → split k (page 1 0 (L ++ e ∷ R)) ≡ parted (page 1 0 L) e.key (page 1 0 (e ∷ R))
unfolding split
leaf_split k L e R h = rw (take_at L (e ∷ R) k h, drop_at L (e ∷ R) k h, get_or_at L e R (entry 0 0) k h)

-- two leaves join as their entries do
pub leaf_joined : (r : ℕ) (L R : List Entry) → joined r (page 1 0 L) (page 1 0 R) ≡ page 1 0 (L ++ R)
unfolding joined
leaf_joined r L R = refl

-- the first entry of the right leaf moves over to the left one
pub leaf_from_right : (r : ℕ) (L : List Entry) (e f : Entry) (R : List Entry)
    → from_right r (page 1 0 L) (page 1 0 (e ∷ f ∷ R)) ≡ parted (page 1 0 (L ++ e ∷ [])) f.key (page 1 0 (f ∷ R))
unfolding from_right
leaf_from_right r L e f R = refl

-- the last entry of the left leaf moves over to the right one
pub leaf_from_left : (r : ℕ) (L : List Entry) (e : Entry) (R : List Entry)
    → from_left r (page 1 0 (L ++ e ∷ [])) (page 1 0 R) ≡ parted (page 1 0 L) e.key (page 1 0 (e ∷ R))
unfolding from_left
leaf_from_left r L e R =
    let h : length L ≡ length (L ++ e ∷ []) - 1 = last_at L e in
    rw (take_at L (e ∷ []) (length (L ++ e ∷ []) - 1) h, get_or_at L e [] (entry 0 0) (length (L ++ e ∷ []) - 1) h)

-- ---- pages above the leaves, by their pairs

-- a page of level 2 or more is no leaf
pub no_leaf : (l : ℕ) → eqb (suc (suc l)) 1 ≡ false
no_leaf l = ne_eqb (suc (suc l)) 1 (λ e. omega arith)

-- the middle pair's key goes up, and its pointer leads the right page
upper_split : (l p k : ℕ) (L : List Entry) (e : Entry) (R : List Entry)
    → length L ≡ k
    → split k (page (suc (suc l)) p (L ++ e ∷ R))
    ≡ parted (page (suc (suc l)) p L) e.key (page (suc (suc l)) e.value R)
unfolding split
upper_split l p k L e R h = rw (no_leaf l, take_at L (e ∷ R) k h, drop_past L e R k h, get_or_at L e R (entry 0 0) k h)

-- the key r comes down before the right page's first pointer
upper_joined : (l r p q : ℕ) (L R : List Entry)
    → joined r (page (suc (suc l)) p L) (page (suc (suc l)) q R) ≡ page (suc (suc l)) p (L ++ entry r q ∷ R)
unfolding joined
upper_joined l r p q L R = rw (no_leaf l)

-- r comes down with the right page's first pointer, and the first pair's key goes up
upper_from_right : (l r p q : ℕ) (L : List Entry) (e : Entry) (R : List Entry)
    → from_right r (page (suc (suc l)) p L) (page (suc (suc l)) q (e ∷ R))
    ≡ parted (page (suc (suc l)) p (L ++ entry r q ∷ [])) e.key (page (suc (suc l)) e.value R)
unfolding from_right
upper_from_right l r p q L e R = rw (no_leaf l)

-- r comes down before the right page's first pointer, and the last pair of the left page goes over
upper_from_left : (l r p q : ℕ) (L : List Entry) (e : Entry) (R : List Entry)
    → from_left r (page (suc (suc l)) p (L ++ e ∷ [])) (page (suc (suc l)) q R)
    ≡ parted (page (suc (suc l)) p L) e.key (page (suc (suc l)) e.value (entry r q ∷ R))
unfolding from_left
upper_from_left l r p q L e R =
    let h : length L ≡ length (L ++ e ∷ []) - 1 = last_at L e in
    rw (no_leaf l, take_at L (e ∷ []) (length (L ++ e ∷ []) - 1) h, get_or_at L e [] (entry 0 0) (length (L ++ e ∷ []) - 1) h)

-- ---- pages above the leaves, by their children

module _ {C : Type 0} where
  -- in a Span, no key behind x's end is at most x
  none_below : (P : C → ℕ → ℕ → Type 0) (at : C → ℕ) (ys : List (Keyed C)) (hi x : ℕ)
      → Span P ys hi → x < head_key ys hi → place x (references at ys) ≡ 0
  unfolding place count
  none_below P at [] hi x s h = refl
  none_below P at (e ∷ ys) hi x s h =
      let r : e.key < head_key ys hi = s.0 in
      rw (lt-leb e.key x h) (none_below P at ys hi x s.2 (omega arith))

  -- in a Span, the first key is at most any other
  head_least : (P : C → ℕ → ℕ → Type 0) (xs : List (Keyed C)) (d : Keyed C) (ys : List (Keyed C)) (hi : ℕ)
      → Span P (xs ++ d ∷ ys) hi → head_key (xs ++ d ∷ ys) hi ≤ d.key
  head_least P [] d ys hi s = omega arith
  head_least P (y ∷ xs) d ys hi s =
      let r : y.key < head_key (xs ++ d ∷ ys) hi = s.0 in
      let t : head_key (xs ++ d ∷ ys) hi ≤ d.key = head_least P xs d ys hi s.2 in
      omega arith

  -- in a Span, the keys at most x are those up to the thing to which x belongs
  all_below : (P : C → ℕ → ℕ → Type 0) (at : C → ℕ) (xs : List (Keyed C)) (d : Keyed C) (ys : List (Keyed C)) (hi x : ℕ)
      → Span P (xs ++ d ∷ ys) hi → d.key ≤ x → x < head_key ys hi → place x (references at (xs ++ d ∷ ys)) ≡ suc (length xs)
  unfolding place count
  all_below P at [] d ys hi x s a b = rw (le-leb d.key x a) (ap suc (none_below P at ys hi x s.2 b))
  all_below P at (y ∷ xs) d ys hi x s a b =
      let r : y.key < head_key (xs ++ d ∷ ys) hi = s.0 in
      let t : head_key (xs ++ d ∷ ys) hi ≤ d.key = head_least P xs d ys hi s.2 in
      let u : y.key ≤ x = omega arith in
      rw (le-leb y.key x u) (ap suc (all_below P at xs d ys hi x s.2 a b))

  -- the place of x in a page is the number of children before the one to which x belongs
  pub row_page_place : (P : C → ℕ → ℕ → Type 0) (lv : ℕ) (at : C → ℕ) (xs : List (Keyed C)) (d : Keyed C) (ys : List (Keyed C)) (hi x : ℕ)
      → Span P (xs ++ d ∷ ys) hi → d.key ≤ x → x < head_key ys hi → place x (row_page lv at (xs ++ d ∷ ys)).entries ≡ length xs
  row_page_place P lv at [] d ys hi x s a b = none_below P at ys hi x s.2 b
  row_page_place P lv at (y ∷ xs) d ys hi x s a b = all_below P at xs d ys hi x s.2 a b

  -- a page has one reference key less than children
  pub row_page_μ : (lv : ℕ) (at : C → ℕ) (d : Keyed C) (ds : List (Keyed C)) → μ (row_page lv at (d ∷ ds)) ≡ length ds
  row_page_μ lv at d ds = length-map ds (λ (c : Keyed C). entry c.key (at c.value))

  -- ---- where a page leads

  -- the pointers of a page are the page numbers of the children, in order
  pub row_page_pointers : (lv : ℕ) (at : C → ℕ) (d : Keyed C) (ds : List (Keyed C))
      → pointers (row_page lv at (d ∷ ds)) ≡ at d.value ∷ map (λ (c : Keyed C). at c.value) ds
  row_page_pointers lv at d ds =
      ap (λ (ps : List ℕ). at d.value ∷ ps) (map-map value_of (λ (c : Keyed C). entry c.key (at c.value)) ds)

  -- the same, around one child
  pointers_split : (lv : ℕ) (at : C → ℕ) (xs : List (Keyed C)) (d : Keyed C) (ys : List (Keyed C))
      → pointers (row_page lv at (xs ++ d ∷ ys))
      ≡ map (λ (c : Keyed C). at c.value) xs ++ at d.value ∷ map (λ (c : Keyed C). at c.value) ys
  pointers_split lv at [] d ys = row_page_pointers lv at d ys
  pointers_split lv at (y ∷ xs) d ys =
      row_page_pointers lv at y (xs ++ d ∷ ys)
      ∙ ap (λ (ps : List ℕ). at y.value ∷ ps) (map-append (λ (c : Keyed C). at c.value) xs (d ∷ ys))

  -- a pointer is the page number of the child with as many children before it
  pub row_page_pointer : (lv : ℕ) (at : C → ℕ) (xs : List (Keyed C)) (d : Keyed C) (ys : List (Keyed C))
      → pointer (length xs) (row_page lv at (xs ++ d ∷ ys)) ≡ at d.value
  row_page_pointer lv at xs d ys =
      ap (λ (ps : List ℕ). get_or ps (length xs) 0) (pointers_split lv at xs d ys)
      ∙ get_or_at (map (λ (c : Keyed C). at c.value) xs) (at d.value) (map (λ (c : Keyed C). at c.value) ys) 0 (length xs)
      (length-map xs (λ (c : Keyed C). at c.value))

  -- the route for x leads to the child to which x belongs
  pub row_page_route : (P : C → ℕ → ℕ → Type 0) (lv : ℕ) (at : C → ℕ) (xs : List (Keyed C)) (d : Keyed C) (ys : List (Keyed C)) (hi x : ℕ)
      → Span P (xs ++ d ∷ ys) hi → d.key ≤ x → x < head_key ys hi → route x (row_page lv at (xs ++ d ∷ ys)) ≡ at d.value
  row_page_route P lv at xs d ys hi x s a b =
      ap (λ (i : ℕ). pointer i (row_page lv at (xs ++ d ∷ ys))) (row_page_place P lv at xs d ys hi x s a b)
      ∙ row_page_pointer lv at xs d ys

  -- ---- changes of a father

  -- the reference keys up to the child d's
  keys_to : (C → ℕ) → List (Keyed C) → Keyed C → List Entry
  keys_to at xs d = references at (drop 1 (xs ++ d ∷ []))

  -- they are as many as the children before d
  keys_to_length : (at : C → ℕ) (xs : List (Keyed C)) (d : Keyed C) → length (keys_to at xs d) ≡ length xs
  unfolding keys_to
  keys_to_length at [] d = refl
  keys_to_length at (y ∷ xs) d =
      length-map (xs ++ d ∷ []) (λ (c : Keyed C). entry c.key (at c.value)) ∙ length-append xs (d ∷ []) ∙ omega arith

  -- a page, cut behind the child d
  behind : (lv : ℕ) (at : C → ℕ) (xs : List (Keyed C)) (d : Keyed C) (ys : List (Keyed C))
      → row_page lv at (xs ++ d ∷ ys) ≡ page lv (top_pointer at (xs ++ d ∷ [])) (keys_to at xs d ++ references at ys)
  unfolding keys_to
  behind lv at [] d ys = refl
  behind lv at (y ∷ xs) d ys =
      ap (λ (es : List Entry). page lv (at y.value) es)
      (ap (λ (ds : List (Keyed C)). references at ds) (sym (append_snoc xs d ys))
      ∙ map-append (λ (c : Keyed C). entry c.key (at c.value)) (xs ++ d ∷ []) ys)

  -- the same key and the same page number give the same pair
  references_same : (at : C → ℕ) (xs : List (Keyed C)) (d d' : Keyed C) (ys : List (Keyed C))
      → d'.key ≡ d.key → at d'.value ≡ at d.value → references at (xs ++ d' ∷ ys) ≡ references at (xs ++ d ∷ ys)
  references_same at [] d d' ys p q = rw (p, q)
  references_same at (y ∷ xs) d d' ys p q =
      ap (λ (es : List Entry). entry y.key (at y.value) ∷ es) (references_same at xs d d' ys p q)

  -- another child behind the same key and at the same page number leaves the page as it was
  pub row_page_same : (lv : ℕ) (at : C → ℕ) (xs : List (Keyed C)) (d d' : Keyed C) (ys : List (Keyed C))
      → d'.key ≡ d.key → at d'.value ≡ at d.value → row_page lv at (xs ++ d' ∷ ys) ≡ row_page lv at (xs ++ d ∷ ys)
  row_page_same lv at [] d d' ys p q = ap (λ (n : ℕ). page lv n (references at ys)) q
  row_page_same lv at (y ∷ xs) d d' ys p q = ap (λ (es : List Entry). page lv (at y.value) es) (references_same at xs d d' ys p q)

  -- a father with one reference key more: the new child e stands just right of d
  pub row_page_put : (lv : ℕ) (at : C → ℕ) (xs : List (Keyed C)) (d d' e : Keyed C) (ys : List (Keyed C)) (r a : ℕ)
      → d'.key ≡ d.key
      → at d'.value ≡ at d.value
      → e.key ≡ r
      → at e.value ≡ a
      → put (length xs) (entry r a) (row_page lv at (xs ++ d ∷ ys)) ≡ row_page lv at (xs ++ d' ∷ e ∷ ys)
  row_page_put lv at xs d d' e ys r a p q u v =
      ap (put (length xs) (entry r a)) (behind lv at xs d ys)
      ∙ put_at lv (top_pointer at (xs ++ d ∷ [])) (length xs) (entry r a) (keys_to at xs d) (references at ys) (keys_to_length at xs d)
      ∙ rw (← u, ← v) (sym (behind lv at xs d (e ∷ ys)))
      ∙ sym (row_page_same lv at xs d d' (e ∷ ys) p q)

  -- a father with one reference key less: s, the child right of d, is gone
  pub row_page_less_key : (lv : ℕ) (at : C → ℕ) (xs : List (Keyed C)) (d d' s : Keyed C) (ys : List (Keyed C))
      → d'.key ≡ d.key
      → at d'.value ≡ at d.value
      → less_key (length xs) (row_page lv at (xs ++ d ∷ s ∷ ys)) ≡ row_page lv at (xs ++ d' ∷ ys)
  row_page_less_key lv at xs d d' s ys p q =
      ap (less_key (length xs)) (behind lv at xs d (s ∷ ys))
      ∙ less_at lv (top_pointer at (xs ++ d ∷ [])) (length xs) (keys_to at xs d) (entry s.key (at s.value)) (references at ys)
      (keys_to_length at xs d)
      ∙ sym (behind lv at xs d ys)
      ∙ sym (row_page_same lv at xs d d' ys p q)

  -- a father with another reference key between d and s, the child right of it
  pub row_page_rekeyed : (lv : ℕ) (at : C → ℕ) (xs : List (Keyed C)) (d d' s s' : Keyed C) (ys : List (Keyed C)) (r : ℕ)
      → d'.key ≡ d.key
      → at d'.value ≡ at d.value
      → s'.key ≡ r
      → at s'.value ≡ at s.value
      → rekeyed (length xs) r (row_page lv at (xs ++ d ∷ s ∷ ys)) ≡ row_page lv at (xs ++ d' ∷ s' ∷ ys)
  row_page_rekeyed lv at xs d d' s s' ys r p q u v =
      ap (rekeyed (length xs) r) (behind lv at xs d (s ∷ ys))
      ∙ rekeyed_at lv (top_pointer at (xs ++ d ∷ [])) (length xs) r (keys_to at xs d) (entry s.key (at s.value)) (references at ys)
      (keys_to_length at xs d)
      ∙ rw (← u, ← v) (sym (behind lv at xs d (s' ∷ ys)))
      ∙ sym (row_page_same lv at xs d d' (s' ∷ ys) p q)

  -- ---- cuts and joins above the leaves

  -- the pairs of a row, cut in two
  references_append : (at : C → ℕ) (L R : List (Keyed C)) → references at (L ++ R) ≡ references at L ++ references at R
  references_append at L R = map-append (λ (c : Keyed C). entry c.key (at c.value)) L R

  -- an upper page with 2k + 2 children splits behind its first k + 1
  pub row_page_split : (l : ℕ) (at : C → ℕ) (k : ℕ) (L : List (Keyed C)) (e : Keyed C) (R : List (Keyed C))
      → length L ≡ suc k
      → split k (row_page (suc (suc l)) at (L ++ e ∷ R))
      ≡ parted (row_page (suc (suc l)) at L) e.key (row_page (suc (suc l)) at (e ∷ R))
  row_page_split l at k [] e R h = absurd (omega arith)
  row_page_split l at k (y ∷ L) e R h =
      ap (λ (es : List Entry). split k (page (suc (suc l)) (at y.value) es)) (references_append at L (e ∷ R))
      ∙ upper_split l (at y.value) k (references at L) (entry e.key (at e.value)) (references at R)
      (length-map L (λ (c : Keyed C). entry c.key (at c.value)) ∙ omega arith)

  -- two upper pages join as their rows do: the father's key r comes down before the right page's first child
  pub row_page_joined : (l : ℕ) (at : C → ℕ) (r : ℕ) (L : List (Keyed C)) (e : Keyed C) (R : List (Keyed C))
      → 0 < length L
      → e.key ≡ r
      → joined r (row_page (suc (suc l)) at L) (row_page (suc (suc l)) at (e ∷ R)) ≡ row_page (suc (suc l)) at (L ++ e ∷ R)
  row_page_joined l at r [] e R h u = absurd (omega arith)
  row_page_joined l at r (y ∷ L) e R h u =
      upper_joined l r (at y.value) (at e.value) (references at L) (references at R)
      ∙ rw (← u) (ap (λ (es : List Entry). page (suc (suc l)) (at y.value) es) (sym (references_append at L (e ∷ R))))

  -- the first child e of the right page moves over to the left one
  pub row_page_from_right : (l : ℕ) (at : C → ℕ) (r : ℕ) (L : List (Keyed C)) (e f : Keyed C) (R : List (Keyed C))
      → 0 < length L
      → e.key ≡ r
      → from_right r (row_page (suc (suc l)) at L) (row_page (suc (suc l)) at (e ∷ f ∷ R))
      ≡ parted (row_page (suc (suc l)) at (L ++ e ∷ [])) f.key (row_page (suc (suc l)) at (f ∷ R))
  row_page_from_right l at r [] e f R h u = absurd (omega arith)
  row_page_from_right l at r (y ∷ L) e f R h u =
      upper_from_right l r (at y.value) (at e.value) (references at L) (entry f.key (at f.value)) (references at R)
      ∙ rw (← u) (ap (λ (es : List Entry). parted (page (suc (suc l)) (at y.value) es) f.key (row_page (suc (suc l)) at (f ∷ R))) (sym (references_append at L (e ∷ []))))

  -- the last child e of the left page moves over to the right one
  pub row_page_from_left : (l : ℕ) (at : C → ℕ) (r : ℕ) (L : List (Keyed C)) (e f : Keyed C) (R : List (Keyed C))
      → 0 < length L
      → f.key ≡ r
      → from_left r (row_page (suc (suc l)) at (L ++ e ∷ [])) (row_page (suc (suc l)) at (f ∷ R))
      ≡ parted (row_page (suc (suc l)) at L) e.key (row_page (suc (suc l)) at (e ∷ f ∷ R))
  row_page_from_left l at r [] e f R h u = absurd (omega arith)
  row_page_from_left l at r (y ∷ L) e f R h u =
      ap (λ (es : List Entry). from_left r (page (suc (suc l)) (at y.value) es) (row_page (suc (suc l)) at (f ∷ R))) (references_append at L (e ∷ []))
      ∙ upper_from_left l r (at y.value) (at f.value) (references at L) (entry e.key (at e.value)) (references at R)
      ∙ rw (← u)

  -- the root over its two halves: d, where the range begins, and e
  pub row_page_raised : (l : ℕ) (at : C → ℕ) (Q : Page) (d e : Keyed C) (a r b : ℕ)
      → Q.level ≡ suc l
      → at d.value ≡ a
      → e.key ≡ r
      → at e.value ≡ b
      → raised Q a r b ≡ row_page (suc (suc l)) at (d ∷ e ∷ [])
  row_page_raised l at Q d e a r b h p u v =
      let n : Q.level + 1 ≡ suc (suc l) = omega arith in
      rw (n, ← p, ← u, ← v)

  -- ---- a short page, its neighbour and the reference key between them, in their father

  -- reference keys, counted around a child
  pub row_page_μ_around : (lv : ℕ) (at : C → ℕ) (xs : List (Keyed C)) (d : Keyed C) (ys : List (Keyed C))
      → μ (row_page lv at (xs ++ d ∷ ys)) ≡ length xs + length ys
  row_page_μ_around lv at [] d ys = row_page_μ lv at d ys ∙ omega arith
  row_page_μ_around lv at (y ∷ xs) d ys = row_page_μ lv at y (xs ++ d ∷ ys) ∙ length-append xs (d ∷ ys) ∙ omega arith

  -- the pointer just right of the child d's
  pub row_page_pointer_next : (lv : ℕ) (at : C → ℕ) (xs : List (Keyed C)) (d s : Keyed C) (ys : List (Keyed C))
      → pointer (suc (length xs)) (row_page lv at (xs ++ d ∷ s ∷ ys)) ≡ at s.value
  row_page_pointer_next lv at xs d s ys =
      let n : suc (length xs) ≡ length (xs ++ d ∷ []) = rw (length-append xs (d ∷ [])) (omega arith) in
      ap (λ (i : ℕ). pointer i (row_page lv at (xs ++ d ∷ s ∷ ys))) n
      ∙ ap (λ (ds : List (Keyed C)). pointer (length (xs ++ d ∷ [])) (row_page lv at ds)) (sym (append_snoc xs d (s ∷ ys)))
      ∙ row_page_pointer lv at (xs ++ d ∷ []) s ys

  -- the reference key just right of the child d's pointer
  pub row_page_key_next : (lv : ℕ) (at : C → ℕ) (xs : List (Keyed C)) (d s : Keyed C) (ys : List (Keyed C))
      → (entry_at (length xs) (row_page lv at (xs ++ d ∷ s ∷ ys)).entries).key ≡ s.key
  row_page_key_next lv at xs d s ys =
      ap (λ (Q : Page). (entry_at (length xs) Q.entries).key) (behind lv at xs d (s ∷ ys))
      ∙ ap key_of
      (get_or_at (keys_to at xs d) (entry s.key (at s.value)) (references at ys) (entry 0 0) (length xs) (keys_to_length at xs d))

  -- x belongs to d, which has a right neighbour s
  module _ (P : C → ℕ → ℕ → Type 0) (lv : ℕ) (at : C → ℕ) (xs : List (Keyed C)) (d s : Keyed C) (ys : List (Keyed C)) (hi x : ℕ)
      (span : Span P (xs ++ d ∷ s ∷ ys) hi) (low : d.key ≤ x) (high : x < s.key) where
    -- d has a right neighbour
    pub right_has_right : has_right x (row_page lv at (xs ++ d ∷ s ∷ ys)) ≡ true
    right_has_right =
        rw (row_page_place P lv at xs d (s ∷ ys) hi x span low high, row_page_μ_around lv at xs d (s ∷ ys))
        (lt-ltb (length xs) (length xs + suc (length ys)) (omega arith))

    -- it is s
    pub right_neighbour : neighbour x (row_page lv at (xs ++ d ∷ s ∷ ys)) ≡ at s.value
    unfolding neighbour
    right_neighbour =
        rw right_has_right (rw (row_page_place P lv at xs d (s ∷ ys) hi x span low high) (row_page_pointer_next lv at xs d s ys))

    -- the key between them is the one behind as many others as children stand before d
    pub right_between_at : between_at x (row_page lv at (xs ++ d ∷ s ∷ ys)) ≡ length xs
    unfolding between_at
    right_between_at = rw right_has_right (row_page_place P lv at xs d (s ∷ ys) hi x span low high)

    -- it is the key before s
    pub right_key_between : key_between x (row_page lv at (xs ++ d ∷ s ∷ ys)) ≡ s.key
    right_key_between =
        ap (λ (i : ℕ). (entry_at i (row_page lv at (xs ++ d ∷ s ∷ ys)).entries).key) right_between_at ∙ row_page_key_next lv at xs d s ys

    -- what moves over comes from s
    pub right_moved : (Q S : Page) → moved x (row_page lv at (xs ++ d ∷ s ∷ ys)) Q S ≡ from_right s.key Q S
    right_moved Q S =
        cond-true (from_right (key_between x (row_page lv at (xs ++ d ∷ s ∷ ys))) Q S) (from_left (key_between x (row_page lv at (xs ++ d ∷ s ∷ ys))) S Q) right_has_right
        ∙ ap (λ (r : ℕ). from_right r Q S) right_key_between

    -- a join takes s in
    pub right_merged : (Q S : Page) → merged x (row_page lv at (xs ++ d ∷ s ∷ ys)) Q S ≡ joined s.key Q S
    right_merged Q S =
        cond-true (joined (key_between x (row_page lv at (xs ++ d ∷ s ∷ ys))) Q S) (joined (key_between x (row_page lv at (xs ++ d ∷ s ∷ ys))) S Q) right_has_right
        ∙ ap (λ (r : ℕ). joined r Q S) right_key_between

  -- x belongs to d, the last child, which has a left neighbour s
  module _ (P : C → ℕ → ℕ → Type 0) (lv : ℕ) (at : C → ℕ) (xs : List (Keyed C)) (s d : Keyed C) (hi x : ℕ)
      (span : Span P (xs ++ s ∷ d ∷ []) hi) (low : d.key ≤ x) (high : x < hi) where
    -- the place of x is behind all keys
    pub left_place : place x (row_page lv at (xs ++ s ∷ d ∷ [])).entries ≡ suc (length xs)
    left_place =
        let e : (xs ++ s ∷ []) ++ d ∷ [] ≡ xs ++ s ∷ d ∷ [] = append_snoc xs s (d ∷ []) in
        rw (← e)
        (row_page_place P lv at (xs ++ s ∷ []) d [] hi x (rw e span) low high ∙ length-append xs (s ∷ []) ∙ omega arith)

    -- d has no right neighbour
    pub left_has_right : has_right x (row_page lv at (xs ++ s ∷ d ∷ [])) ≡ false
    left_has_right =
        rw (left_place, row_page_μ_around lv at xs s (d ∷ []))
        (le-ltb (suc (length xs)) (length xs + 1) (omega arith))

    -- its neighbour is s
    pub left_neighbour : neighbour x (row_page lv at (xs ++ s ∷ d ∷ [])) ≡ at s.value
    unfolding neighbour
    left_neighbour =
        let n : suc (length xs) - 1 ≡ length xs = omega arith in
        rw left_has_right (rw (left_place, n) (row_page_pointer lv at xs s (d ∷ [])))

    -- the key between them is the last one
    pub left_between_at : between_at x (row_page lv at (xs ++ s ∷ d ∷ [])) ≡ length xs
    unfolding between_at
    left_between_at = rw left_has_right (rw left_place (omega arith))

    -- it is the key before d
    pub left_key_between : key_between x (row_page lv at (xs ++ s ∷ d ∷ [])) ≡ d.key
    left_key_between =
        ap (λ (i : ℕ). (entry_at i (row_page lv at (xs ++ s ∷ d ∷ [])).entries).key) left_between_at ∙ row_page_key_next lv at xs s d []

    -- what moves over comes from s
    pub left_moved : (Q S : Page) → moved x (row_page lv at (xs ++ s ∷ d ∷ [])) Q S ≡ from_left d.key S Q
    left_moved Q S =
        cond-false (from_right (key_between x (row_page lv at (xs ++ s ∷ d ∷ []))) Q S) (from_left (key_between x (row_page lv at (xs ++ s ∷ d ∷ []))) S Q) left_has_right
        ∙ ap (λ (r : ℕ). from_left r S Q) left_key_between

    -- a join is into s
    pub left_merged : (Q S : Page) → merged x (row_page lv at (xs ++ s ∷ d ∷ [])) Q S ≡ joined d.key S Q
    left_merged Q S =
        cond-false (joined (key_between x (row_page lv at (xs ++ s ∷ d ∷ []))) Q S) (joined (key_between x (row_page lv at (xs ++ s ∷ d ∷ []))) S Q) left_has_right
        ∙ ap (λ (r : ℕ). joined r S Q) left_key_between
