-- A tree whose root page has one pair too many, cut in two as the rule splits that page.
use Prim.Native.Nat.{ℕ, zero, suc, ◌+◌, ◌*◌, ◌≤◌, ◌<◌}
use mathlib.Core.List.{List, [], ◌∷◌, ◌++◌}
use mathlib.Core.Logic.{◌⊎◌, inl, inr, ⊎_elim}
use mathlib.Core.Path.{◌≡◌, refl, sym, ap, ◌∙◌, subst}
use native.Mathlib.Omega.{arith}
use lib.ListN.{length, length-append}
use Rattle.page.specs.Words.{Keyed, Entry, Page, μ}
use Rattle.page.specs.Splits.{split, parted}
use Rattle.tree.specs.Rows.{head_key, Span}
use Rattle.tree.specs.Tree.{Tr, page_number, page_of, entries_of, once, occurs, LeafIn, NodeIn, InRange, HoldsBelow, Holds, Stands}
use Rattle.tree.proofs.Ways.{row_μ}
use Rattle.tree.proofs.Rows.{head_key_append, span_left, span_right, head_key_most, gathered_append, total_append, each_left, each_right, somewhere_cases}
use Rattle.tree.proofs.Pages.{leaf_split, row_page_split}
use Rattle.tree.proofs.Memory.{once_not}

-- The halves of t, the left one at page p and the right one at page a.
pub record Halves (k l : ℕ) (t : Tr l) (lo hi p a : ℕ) : Type 0 where
  pub left : Tr l
  pub right : Tr l
  pub between : ℕ
  pub left_at : page_number l left ≡ p
  pub right_at : page_number l right ≡ a
  -- they have the pages into which the rule splits the root page
  pub pages : split k (page_of l t) ≡ parted (page_of l left) between (page_of l right)
  pub from : lo < between
  pub to : between < hi
  pub left_in : InRange k k (2 * k) l left lo between
  pub right_in : InRange k k (2 * k) l right between hi
  pub entries : entries_of l left ++ entries_of l right ≡ entries_of l t
  pub occur : (q : ℕ) → occurs q l left + occurs q l right + once q (page_number l t) ≡ occurs q l t + once q p + once q a
  pub below : (M : ℕ → Page) → HoldsBelow M l t → HoldsBelow M l left × HoldsBelow M l right
  -- every page but the root keeps its level and range
  pub stands : (q level c d : ℕ) → once q (page_number l t) ≡ 0 → Stands l t lo hi q level c d
      → Stands l left lo between q level c d ⊎ Stands l right between hi q level c d

-- a row that is not empty begins before its end
head_key_below : {C : Type 0} (P : C → ℕ → ℕ → Type 0) (row : List (Keyed C)) (hi : ℕ)
    → 0 < length row → Span P row hi → head_key row hi < hi
head_key_below P [] hi h s = absurd (omega arith)
head_key_below P (d ∷ ds) hi h s = let m = head_key_most P ds hi s.2 in omega (arith, s.0)

-- the entries of a leaf, already cut
leaf_cut : (k m at : ℕ) (L : List Entry) (e : Entry) (R : List Entry) (lo hi p a : ℕ)
    → 1 ≤ k
    → LeafIn m (2 * k + 1) (record { at = at; entries = L ++ e ∷ R }) lo hi
    → length L ≡ k
    → length R ≡ k
    → Halves k zero (record { at = at; entries = L ++ e ∷ R }) lo hi p a
leaf_cut k m at L e R lo hi p a one r nl nr =
    let P : ℕ → ℕ → ℕ → Type 0 = λ (v c d : ℕ). Unit {0} in
    let before : Span P L e.key = span_left P L (e ∷ R) hi r.rising in
    let behind : Span P (e ∷ R) hi = span_right P L (e ∷ R) hi r.rising in
    let starts : lo ≤ head_key L e.key = subst (λ (n : ℕ). lo ≤ n) (head_key_append L (e ∷ R) hi) r.low in
    record {
      left = record { at = p; entries = L };
      right = record { at = a; entries = e ∷ R };
      between = e.key;
      left_at = refl;
      right_at = refl;
      pages = leaf_split k L e R nl;
      from = let h = head_key_below P L e.key (omega arith) before in omega arith;
      to = head_key_below P (e ∷ R) hi (omega arith) behind;
      left_in = record { least = omega arith; most = omega arith; low = starts; rising = before };
      right_in = record { least = omega arith; most = omega arith; low = omega arith; rising = behind };
      entries = refl;
      occur = λ q. omega arith;
      below = λ M h. (tt, tt);
      stands = λ q level c d o s. absurd (once_not q at o (sym s.0));
    }

-- the children of an upper page, already cut
node_cut : (k m l at : ℕ) (L : List (Keyed (Tr l))) (e : Keyed (Tr l)) (R : List (Keyed (Tr l))) (lo hi p a : ℕ)
    → NodeIn (InRange k k (2 * k) l) m (2 * k + 1) (record { at = at; row = L ++ e ∷ R }) lo hi
    → length L ≡ suc k
    → length R ≡ k
    → Halves k (suc l) (record { at = at; row = L ++ e ∷ R }) lo hi p a
node_cut k m l at L e R lo hi p a r nl nr =
    let P : Tr l → ℕ → ℕ → Type 0 = InRange k k (2 * k) l in
    let before : Span P L e.key = span_left P L (e ∷ R) hi r.children in
    let behind : Span P (e ∷ R) hi = span_right P L (e ∷ R) hi r.children in
    let starts : head_key L e.key ≡ lo = sym (head_key_append L (e ∷ R) hi) ∙ r.low in
    record {
      left = record { at = p; row = L };
      right = record { at = a; row = e ∷ R };
      between = e.key;
      left_at = refl;
      right_at = refl;
      pages = row_page_split l (page_number l) k L e R nl;
      from = let h = head_key_below P L e.key (omega arith) before in omega arith;
      to = head_key_below P (e ∷ R) hi (omega arith) behind;
      left_in = record { least = omega arith; most = omega arith; low = starts; children = before };
      right_in = record { least = omega arith; most = omega arith; low = refl; children = behind };
      entries = sym (gathered_append (entries_of l) L (e ∷ R));
      occur = λ q. let sum = total_append (occurs q l) L (e ∷ R) in omega arith;
      below = λ M h. (each_left (Holds M l) L (e ∷ R) h, each_right (Holds M l) L (e ∷ R) h);
      stands =
          λ q level c d o s.
          ⊎_elim
          (λ root. absurd (once_not q at o (sym root.0)))
          (λ some.
          ⊎_elim (λ w. inl (inr w)) (λ w. inr (inr w))
          (somewhere_cases (λ (t : Tr l) (lo' hi' : ℕ). Stands l t lo' hi' q level c d) L (e ∷ R) hi some))
          s;
    }

-- a list, cut before its n-th thing
record Cut {A : Type 0} (n : ℕ) (xs : List A) : Type 0 where
  before : List A
  here : A
  after : List A
  whole : before ++ here ∷ after ≡ xs
  long : length before ≡ n

-- every longer list can be cut so
cut : {A : Type 0} (n : ℕ) (xs : List A) → n < length xs → Cut n xs
cut n [] h = absurd (omega arith)
cut zero (a ∷ rest) h = record { before = []; here = a; after = rest; whole = refl; long = refl }
cut {A} (suc n) (a ∷ rest) h =
    let c = cut n rest (omega arith) in
    record {
      before = a ∷ c.before;
      here = c.here;
      after = c.after;
      whole = ap (λ (l : List A). a ∷ l) c.whole;
      long = ap suc c.long;
    }

-- a tree with 2k + 1 in its root page splits into two trees in range
pub halves : (k m l : ℕ) (t : Tr l) (lo hi p a : ℕ)
    → 1 ≤ k → InRange k m (2 * k + 1) l t lo hi → 2 * k < μ (page_of l t) → Halves k l t lo hi p a
halves k m zero t lo hi p a one r n =
    let c = cut k t.entries (omega arith) in
    let size = length-append c.before (c.here ∷ c.after) in
    let same : length (c.before ++ c.here ∷ c.after) ≡ length t.entries = ap length c.whole in
    subst (λ (es : List Entry). Halves k zero (record { at = t.at; entries = es }) lo hi p a) c.whole
    (leaf_cut k m t.at c.before c.here c.after lo hi p a one
    (subst (λ (es : List Entry). LeafIn m (2 * k + 1) (record { at = t.at; entries = es }) lo hi) (sym c.whole) r)
    c.long (omega (arith, r.most, c.long)))
halves k m (suc l) t lo hi p a one r n =
    let count : suc (μ (page_of (suc l) t)) ≡ length t.row = row_μ (suc (suc l)) (page_number l) t.row (omega (arith, r.least)) in
    let c = cut (suc k) t.row (omega arith) in
    let size = length-append c.before (c.here ∷ c.after) in
    let same : length (c.before ++ c.here ∷ c.after) ≡ length t.row = ap length c.whole in
    let R : List (Keyed (Tr l)) → Type 0
    = λ (row : List (Keyed (Tr l))). NodeIn (InRange k k (2 * k) l) m (2 * k + 1) (record { at = t.at; row = row }) lo hi in
    subst (λ (row : List (Keyed (Tr l))). Halves k (suc l) (record { at = t.at; row = row }) lo hi p a) c.whole
    (node_cut k m l t.at c.before c.here c.after lo hi p a
    (subst R (sym c.whole) r)
    c.long (omega (arith, r.most, c.long)))
