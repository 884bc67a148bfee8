-- Laws of sorted lists of entries: the parts of a list, a key looked up, inserted and taken out where it belongs, and
-- the entries at or above a key.
use Prim.Native.Nat.{ℕ, suc, ◌+◌, ◌≤◌, ◌<◌}
use mathlib.Core.Bool.{Bool, true, false, cond, ◌&&◌, ◌||◌, true≢false}
use mathlib.Core.List.{List, [], ◌∷◌, ◌++◌, append_assoc}
use mathlib.Core.Path.{◌≡◌, refl, sym, ap, ap₂, ◌∙◌, subst}
use native.Mathlib.Omega.{arith}
use borrow.Author.Tests.{lt-ltb, leb-true, leb-false, le-leb, eqb-false, eq-eqb, ne_eqb}
use lib.Dec.{leb, eqb}
use lib.ListN.{length, take, drop, length-append, take-append-drop}
use lib.Seq.{take-append-le, drop-append-le, take-append-add, drop-append-add}
use Rattle.ground.specs.Tests.{count}
use Rattle.ground.proofs.Choice.{by_test, cond-true, cond-false, cond_ind}
use Rattle.page.specs.Words.{Keyed, Entry, entry}
use Rattle.page.specs.Place.{place, has, information, at_or_above, without}
use Rattle.page.specs.Sound.{rises, rises_from}
use Rattle.page.proofs.PlaceLaws.{place_most, place_append, above_first, above_later}
use Rattle.tree.specs.Rows.{head_key, Span, gathered, references}
use Rattle.tree.specs.Sorted.{inserted}
use Rattle.tree.proofs.Rows.{head_key_append, span_left, span_right, span_append, Keys, keys_below, keys_from, keys_map, place_behind, place_before}

-- nothing is asked of an entry's information
abbrev pub Anything : ℕ → ℕ → ℕ → Type 0
Anything v a b = Unit {0}

-- the keys rise strictly, from lo on and below hi
abbrev pub Within : ℕ → List Entry → ℕ → Type 0
Within lo es hi = (lo ≤ head_key es hi) × Span Anything es hi

-- rising keys below a bound are below a greater one
pub span_widen : (es : List Entry) (a b : ℕ) → a ≤ b → Span Anything es a → Span Anything es b
span_widen [] a b h s = tt
span_widen (e ∷ []) a b h s = (omega (arith, s.0), tt, tt)
span_widen (e ∷ (f ∷ fs)) a b h s = (s.0, tt, span_widen (f ∷ fs) a b h s.2)

-- a list begins no earlier for a greater end
head_key_widen : (es : List Entry) (a b : ℕ) → a ≤ b → head_key es a ≤ head_key es b
head_key_widen [] a b h = h
head_key_widen (e ∷ es) a b h = omega arith

-- keys in a range are in a wider one
pub within_widen : (lo lo' : ℕ) (es : List Entry) (hi hi' : ℕ) → lo' ≤ lo → hi ≤ hi' → Within lo es hi → Within lo' es hi'
within_widen lo lo' es hi hi' l h w = (let m = head_key_widen es hi hi' h in omega (arith, w.0), span_widen es hi hi' h w.1)

-- a list from lo to mid and one from mid to hi join into one from lo to hi
pub within_append : (lo mid hi : ℕ) (xs ys : List Entry) → Within lo xs mid → Within mid ys hi → Within lo (xs ++ ys) hi
within_append lo mid hi xs ys v w =
    let u : Within lo xs (head_key ys hi) = within_widen lo lo xs mid (head_key ys hi) (omega arith) w.0 v in
    (subst (λ (n : ℕ). lo ≤ n) (sym (head_key_append xs ys hi)) u.0, span_append Anything xs ys hi u.1 w.1)

-- the first part of a list reaches to where the second begins
pub within_left : (lo hi : ℕ) (xs ys : List Entry) → Within lo (xs ++ ys) hi → Within lo xs (head_key ys hi)
within_left lo hi xs ys w = (subst (λ (n : ℕ). lo ≤ n) (head_key_append xs ys hi) w.0, span_left Anything xs ys hi w.1)

-- the second part of a list reaches from where it begins to the end
pub within_right : (lo hi : ℕ) (xs ys : List Entry) → Within lo (xs ++ ys) hi → Within (head_key ys hi) ys hi
within_right lo hi xs ys w = (omega arith, span_right Anything xs ys hi w.1)

-- the entries of a spanned row, gathered, lie in its range, where those of each thing lie in the thing's range
pub within_gathered : {C : Type 0} (P : C → ℕ → ℕ → Type 0) (f : C → List Entry) (row : List (Keyed C)) (hi : ℕ)
    → ((c : C) (a b : ℕ) → a < b → P c a b → Within a (f c) b) → Span P row hi → Within (head_key row hi) (gathered f row) hi
within_gathered P f [] hi h s = (omega arith, tt)
within_gathered P f (d ∷ ds) hi h s =
    within_append d.key (head_key ds hi) hi (f d.value) (gathered f ds) (h d.value d.key (head_key ds hi) s.0 s.1) (within_gathered P f ds hi h s.2)

-- the reference keys of a spanned row rise in its range
pub within_references : {C : Type 0} (P : C → ℕ → ℕ → Type 0) (at : C → ℕ) (row : List (Keyed C)) (hi : ℕ) → Span P row hi → Within (head_key row hi) (references at row) hi
within_references P at [] hi s = (omega arith, tt)
within_references P at (d ∷ []) hi s = (omega arith, (s.0, tt, tt))
within_references P at (d ∷ (e ∷ es)) hi s = (omega arith, (s.0, tt, (within_references P at (e ∷ es) hi s.2).1))

-- the key is none of the list's keys
abbrev pub Lacks : ℕ → List Entry → Type 0
Lacks x es = Keys (λ k. k ≡ x → ⊥) es

-- a list lacks a key below its range,
pub lacks_before : (x lo hi : ℕ) (es : List Entry) → Within lo es hi → x < lo → Lacks x es
lacks_before x lo hi es w h = keys_map (λ k. lo ≤ k) (λ k. k ≡ x → ⊥) es (λ k l e. omega arith) (keys_from Anything es lo hi w.0 w.1)

-- and one behind it
pub lacks_behind : (x lo hi : ℕ) (es : List Entry) → Within lo es hi → hi ≤ x → Lacks x es
lacks_behind x lo hi es w h = keys_map (λ k. k < hi) (λ k. k ≡ x → ⊥) es (λ k l e. omega arith) (keys_below Anything es hi w.1)

-- a key that a list lacks does not stand in it,
pub has_lacks : (x : ℕ) (es : List Entry) → Lacks x es → has x es ≡ false
unfolding has
has_lacks x [] h = refl
has_lacks x (e ∷ es) h = ap (λ (b : Bool). b || has x es) (ne_eqb e.key x h.0) ∙ has_lacks x es h.1

-- and back
pub lacks_has : (x : ℕ) (es : List Entry) → has x es ≡ false → Lacks x es
unfolding has
lacks_has x [] h = tt
lacks_has x (e ∷ es) h =
    by_test (eqb e.key x)
    (λ t. absurd (true≢false (sym (ap (λ (b : Bool). b || has x es) t) ∙ h)))
    (λ t. (eqb-false e.key x t, lacks_has x es (sym (ap (λ (b : Bool). b || has x es) t) ∙ h)))

-- the information of a key that a list lacks is 0
pub information_lacks : (x : ℕ) (es : List Entry) → Lacks x es → information x es ≡ 0
unfolding information
information_lacks x [] h = refl
information_lacks x (e ∷ es) h = cond-false _ _ (ne_eqb e.key x h.0) ∙ information_lacks x es h.1

-- nothing is taken out of a list that lacks the key
pub without_lacks : (x : ℕ) (es : List Entry) → Lacks x es → without x es ≡ es
unfolding without
without_lacks x [] h = refl
without_lacks x (e ∷ es) h = cond-false _ _ (ne_eqb e.key x h.0) ∙ ap (λ (l : List Entry). e ∷ l) (without_lacks x es h.1)

-- a key that the first of two lists lacks is sought in the second,
pub has_second : (x : ℕ) (xs ys : List Entry) → Lacks x xs → has x (xs ++ ys) ≡ has x ys
unfolding has
has_second x [] ys h = refl
has_second x (e ∷ es) ys h = ap (λ (b : Bool). b || has x (es ++ ys)) (ne_eqb e.key x h.0) ∙ has_second x es ys h.1

-- its information is found there,
pub information_second : (x : ℕ) (xs ys : List Entry) → Lacks x xs → information x (xs ++ ys) ≡ information x ys
unfolding information
information_second x [] ys h = refl
information_second x (e ∷ es) ys h = cond-false _ _ (ne_eqb e.key x h.0) ∙ information_second x es ys h.1

-- and it is taken out there
pub without_second : (x : ℕ) (xs ys : List Entry) → Lacks x xs → without x (xs ++ ys) ≡ xs ++ without x ys
unfolding without
without_second x [] ys h = refl
without_second x (e ∷ es) ys h = cond-false _ _ (ne_eqb e.key x h.0) ∙ ap (λ (l : List Entry). e ∷ l) (without_second x es ys h.1)

-- a key that the second of two lists lacks is sought in the first,
pub has_first : (x : ℕ) (xs ys : List Entry) → Lacks x ys → has x (xs ++ ys) ≡ has x xs
unfolding has
has_first x [] ys h = has_lacks x ys h
has_first x (e ∷ es) ys h = ap (λ (b : Bool). eqb e.key x || b) (has_first x es ys h)

-- its information is found there,
pub information_first : (x : ℕ) (xs ys : List Entry) → Lacks x ys → information x (xs ++ ys) ≡ information x xs
unfolding information
information_first x [] ys h = information_lacks x ys h
information_first x (e ∷ es) ys h = ap (λ (n : ℕ). cond (eqb e.key x) e.value n) (information_first x es ys h)

-- and it is taken out there
pub without_first : (x : ℕ) (xs ys : List Entry) → Lacks x ys → without x (xs ++ ys) ≡ without x xs ++ ys
unfolding without
without_first x [] ys h = without_lacks x ys h
without_first x (e ∷ es) ys h =
    by_test (eqb e.key x)
    (λ t. cond-true _ _ t ∙ sym (ap (λ (l : List Entry). l ++ ys) (cond-true es (e ∷ without x es) t)))
    (λ t. cond-false _ _ t ∙ ap (λ (l : List Entry). e ∷ l) (without_first x es ys h) ∙ sym (ap (λ (l : List Entry). l ++ ys) (cond-false es (e ∷ without x es) t)))

-- Three parts of a list: one that ends at or before x, one with x in its range, and one that begins behind x.
module _ (x lo a b hi : ℕ) (A B C : List Entry) (first : Within lo A a) (last : Within b C hi) (from : a ≤ x) (to : x < b) where
  -- x stands in the list if it stands in the middle part,
  pub has_parts : has x (A ++ (B ++ C)) ≡ has x B
  has_parts = has_second x A (B ++ C) (lacks_behind x lo a A first from) ∙ has_first x B C (lacks_before x b hi C last to)

  -- with the information that it has there;
  pub information_parts : information x (A ++ (B ++ C)) ≡ information x B
  information_parts = information_second x A (B ++ C) (lacks_behind x lo a A first from) ∙ information_first x B C (lacks_before x b hi C last to)

  -- it is taken out of the middle part,
  pub without_parts : without x (A ++ (B ++ C)) ≡ A ++ (without x B ++ C)
  without_parts =
      without_second x A (B ++ C) (lacks_behind x lo a A first from)
      ∙ ap (λ (l : List Entry). A ++ l) (without_first x B C (lacks_before x b hi C last to))

  -- its place is in the middle part,
  place_parts : place x (A ++ (B ++ C)) ≡ length A + place x B
  place_parts =
      let outer : place x (A ++ (B ++ C)) ≡ place x A + place x (B ++ C) = place_append x A (B ++ C) in
      let inner : place x (B ++ C) ≡ place x B + place x C = place_append x B C in
      let left : place x A ≡ length A = place_behind Anything x A a first.1 from in
      let right : place x C ≡ 0 = place_before Anything x C hi last.1 (omega (arith, last.0)) in
      omega arith

  -- and it is inserted there
  pub inserted_parts : (v : ℕ) → inserted x v (A ++ (B ++ C)) ≡ A ++ (inserted x v B ++ C)
  unfolding inserted
  inserted_parts v =
      let n : ℕ = place x B in
      let fits : n ≤ length B = place_most x B in
      let front : take (length A + n) (A ++ (B ++ C)) ≡ A ++ take n B
      = take-append-add A (B ++ C) n ∙ ap (λ (l : List Entry). A ++ l) (take-append-le n B C fits) in
      let back : drop (length A + n) (A ++ (B ++ C)) ≡ drop n B ++ C
      = drop-append-add A (B ++ C) n ∙ drop-append-le n B C fits in
      ap (λ (p : ℕ). take p (A ++ (B ++ C)) ++ entry x v ∷ drop p (A ++ (B ++ C))) place_parts
      ∙ ap₂ (λ (l r : List Entry). l ++ entry x v ∷ r) front back
      ∙ append_assoc A (take n B) (entry x v ∷ (drop n B ++ C))
      ∙ sym (ap (λ (l : List Entry). A ++ l) (append_assoc (take n B) (entry x v ∷ drop n B) C))

-- a list that begins at or above x is all at or above it,
pub at_or_above_from : (x hi : ℕ) (es : List Entry) → x ≤ head_key es hi → at_or_above x es ≡ es
unfolding at_or_above
at_or_above_from x hi [] h = refl
at_or_above_from x hi (e ∷ es) h = above_first x e es h

-- and nothing of one that ends at or before x is
pub at_or_above_behind : (x hi : ℕ) (es : List Entry) → Span Anything es hi → hi ≤ x → at_or_above x es ≡ []
unfolding at_or_above
at_or_above_behind x hi [] s h = refl
at_or_above_behind x hi (e ∷ es) s h =
    let below : e.key < hi = (keys_below Anything (e ∷ es) hi s).0 in
    above_later x e es (omega arith) ∙ at_or_above_behind x hi es s.2 h

-- where the first of two lists has no entry at or above x, those of the second are the next,
pub at_or_above_second : (x : ℕ) (xs ys : List Entry) → at_or_above x xs ≡ [] → at_or_above x (xs ++ ys) ≡ at_or_above x ys
unfolding at_or_above
at_or_above_second x [] ys h = refl
at_or_above_second x (d ∷ ds) ys h =
    by_test (leb x d.key)
    (λ t. let none : suc (length ds) ≡ 0 = ap length (sym (cond-true (d ∷ ds) (at_or_above x ds) t) ∙ h) in absurd (omega arith))
    (λ t. cond-false (d ∷ (ds ++ ys)) (at_or_above x (ds ++ ys)) t
    ∙ at_or_above_second x ds ys (sym (cond-false (d ∷ ds) (at_or_above x ds) t) ∙ h))

-- and where it has one, the second comes behind
pub at_or_above_first : (x : ℕ) (xs ys : List Entry) (e : Entry) (es : List Entry) → at_or_above x xs ≡ e ∷ es → at_or_above x (xs ++ ys) ≡ e ∷ (es ++ ys)
unfolding at_or_above
at_or_above_first x [] ys e es h = let some : 0 ≡ suc (length es) = ap length h in absurd (omega arith)
at_or_above_first x (d ∷ ds) ys e es h =
    by_test (leb x d.key)
    (λ t. cond-true (d ∷ (ds ++ ys)) (at_or_above x (ds ++ ys)) t
    ∙ ap (λ (l : List Entry). l ++ ys) (sym (cond-true (d ∷ ds) (at_or_above x ds) t) ∙ h))
    (λ t. cond-false (d ∷ (ds ++ ys)) (at_or_above x (ds ++ ys)) t
    ∙ at_or_above_first x ds ys e es (sym (cond-false (d ∷ ds) (at_or_above x ds) t) ∙ h))

-- a new entry goes behind an entry whose key is at most its own,
pub inserted_behind : (x v : ℕ) (e : Entry) (es : List Entry) → e.key ≤ x → inserted x v (e ∷ es) ≡ e ∷ inserted x v es
unfolding inserted place count
inserted_behind x v e es h =
    ap (λ (p : ℕ). take p (e ∷ es) ++ entry x v ∷ drop p (e ∷ es)) (cond-true (suc (place x es)) (place x es) (le-leb e.key x h))

-- and before a list of greater keys
pub inserted_before : (x v hi : ℕ) (es : List Entry) → Span Anything es hi → x < head_key es hi → inserted x v es ≡ entry x v ∷ es
unfolding inserted
inserted_before x v hi es s h = ap (λ (p : ℕ). take p es ++ entry x v ∷ drop p es) (place_before Anything x es hi s h)

-- a list with a new key still rises in its range
pub within_inserted : (x v lo hi : ℕ) (es : List Entry) → Within lo es hi → lo ≤ x → x < hi → has x es ≡ false → Within lo (inserted x v es) hi
within_inserted x v lo hi es w l h n = go es lo w l (lacks_has x es n)
  where
    go : (es : List Entry) (lo : ℕ) → Within lo es hi → lo ≤ x → Lacks x es → Within lo (inserted x v es) hi
    go [] lo w l n = subst (λ (r : List Entry). Within lo r hi) (sym (inserted_before x v hi [] tt h)) (l, (h, tt, tt))
    go (e ∷ es) lo w l n =
        by_test (leb e.key x)
        (λ t.
        let below : e.key ≤ x = leb-true e.key x t in
        let other : e.key ≡ x → ⊥ = n.0 in
        let ih : Within (suc e.key) (inserted x v es) hi = go es (suc e.key) (w.1.0, w.1.2) (omega arith) n.1 in
        subst (λ (r : List Entry). Within lo r hi) (sym (inserted_behind x v e es below)) (w.0, (ih.0, tt, ih.1)))
        (λ t.
        let above : x < e.key = leb-false e.key x t in
        subst (λ (r : List Entry). Within lo r hi) (sym (inserted_before x v hi (e ∷ es) w.1 above)) (l, (above, tt, w.1)))

-- a list with a new entry is one longer
pub length_inserted : (x v : ℕ) (es : List Entry) → length (inserted x v es) ≡ suc (length es)
unfolding inserted
length_inserted x v es =
    let whole : length (take (place x es) es ++ drop (place x es) es) ≡ length es = ap length (take-append-drop (place x es) es) in
    let joined : length (take (place x es) es ++ drop (place x es) es) ≡ length (take (place x es) es) + length (drop (place x es) es)
    = length-append (take (place x es) es) (drop (place x es) es) in
    length-append (take (place x es) es) (entry x v ∷ drop (place x es) es) ∙ omega arith

-- a key stands in a list that has its entry
has_middle : (x v : ℕ) (l r : List Entry) → has x (l ++ entry x v ∷ r) ≡ true
unfolding has
has_middle x v [] r = ap (λ (b : Bool). b || has x r) (eq-eqb x x refl)
has_middle x v (e ∷ es) r =
    by_test (eqb e.key x)
    (λ t. ap (λ (b : Bool). b || has x (es ++ entry x v ∷ r)) t)
    (λ t. ap (λ (b : Bool). b || has x (es ++ entry x v ∷ r)) t ∙ has_middle x v es r)

-- a key stands where it was inserted
pub has_inserted : (x v : ℕ) (es : List Entry) → has x (inserted x v es) ≡ true
unfolding inserted
has_inserted x v es = has_middle x v (take (place x es) es) (drop (place x es) es)

-- a list with a key taken out still rises in its range
pub within_without : (x lo hi : ℕ) (es : List Entry) → Within lo es hi → Within lo (without x es) hi
unfolding without
within_without x lo hi [] w = w
within_without x lo hi (e ∷ es) w =
    let ih : Within (suc e.key) (without x es) hi = within_without x (suc e.key) hi es (w.1.0, w.1.2) in
    cond_ind (λ (r : List Entry). Within lo r hi) (eqb e.key x)
    (λ t. (omega (arith, w.0, w.1.0), w.1.2))
    (λ t. (w.0, (ih.0, tt, ih.1)))

-- keys in a range rise from a number before them
rises_from_span : (x hi : ℕ) (es : List Entry) → x < head_key es hi → Span Anything es hi → rises_from x es ≡ true
unfolding rises_from
rises_from_span x hi [] h s = refl
rises_from_span x hi (e ∷ es) h s = ap₂ (λ (a b : Bool). a && b) (lt-ltb x e.key h) (rises_from_span e.key hi es s.0 s.2)

-- keys in a range rise, as the test of a page has it
pub rises_within : (lo hi : ℕ) (es : List Entry) → Within lo es hi → rises es ≡ true
unfolding rises
rises_within lo hi [] w = refl
rises_within lo hi (e ∷ es) w = rises_from_span e.key hi es w.1.0 w.1.2
