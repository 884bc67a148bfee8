-- Determined: a memory holds one tree only. So what is said of a pool's tree is said of the tree, never of one of several.
use Prim.Native.Nat.{ℕ, zero, suc, ◌+◌, ◌*◌, ◌≤◌}
use mathlib.Core.Path.{◌≡◌, refl, sym, ap, ◌∙◌, subst}
use mathlib.Core.List.{List, [], ◌∷◌}
use native.Mathlib.Omega.{arith}
use lib.ListN.{length, drop}
use Rattle.ground.specs.Limits.{word_range}
use Rattle.page.specs.Words.{Keyed, Entry, Page, entry}
use Rattle.page.specs.Splits.{entry_at}
use Rattle.pool.specs.Pool.{page_at}
use Rattle.tree.specs.Rows.{head_key, Span, Each, references, row_page}
use Rattle.tree.specs.Tree.{Tr, page_number, page_of, root_least, InRange, Holds, Forms, PoolForms}
use Rattle.tree.specs.Facts.{any_tree}
use Rattle.tree.proofs.Memory.{top_holds}
use Rattle.tree.proofs.Search.{page_of_level}

-- a row of things with the same references as another is that other, where things at one page are the same
same_rows : {C : Type 0} (P P' : C → ℕ → ℕ → Type 0) (Q : C → Type 0) (at : C → ℕ) (hi hi' : ℕ)
    → ((c c' : C) (a b b' : ℕ) → at c ≡ at c' → P c a b → P' c' a b' → Q c → Q c' → c ≡ c')
    → (row row' : List (Keyed C)) → references at row ≡ references at row'
    → Span P row hi → Span P' row' hi' → Each Q row → Each Q row' → row ≡ row'
same_rows P P' Q at hi hi' same [] [] e s s' h h' = refl
same_rows P P' Q at hi hi' same [] (d' ∷ ds') e s s' h h' = let z : ◌≡◌ {A = ℕ} 0 1 = cc in absurd (omega arith)
same_rows P P' Q at hi hi' same (d ∷ ds) [] e s s' h h' = let z : ◌≡◌ {A = ℕ} 0 1 = cc in absurd (omega arith)
same_rows {C} P P' Q at hi hi' same (d ∷ ds) (d' ∷ ds') e s s' h h' =
    let key : d.key ≡ d'.key = ap (λ (es : List Entry). head_key es 0) e in
    let number : at d.value ≡ at d'.value = ap (λ (es : List Entry). (entry_at 0 es).value) e in
    let rest : references at ds ≡ references at ds' = ap (drop 1) e in
    let child : d.value ≡ d'.value
    = same d.value d'.value d.key (head_key ds hi) (head_key ds' hi') number s.1
    (subst (λ (a : ℕ). P' d'.value a (head_key ds' hi')) (sym key) s'.1) h.0 h'.0 in
    let tail = same_rows P P' Q at hi hi' same ds ds' rest s.2 s'.2 h.1 h'.1 in
    λ i. record { key = key i; value = child i } ∷ tail i

-- two upper pages with the same value, each with a child and their ranges beginning alike, have the same references
same_references : {C : Type 0} (level : ℕ) (at : C → ℕ) (lo hi hi' : ℕ) (row row' : List (Keyed C)) → 1 ≤ length row → 1 ≤ length row'
    → head_key row hi ≡ lo → head_key row' hi' ≡ lo → row_page level at row ≡ row_page level at row' → references at row ≡ references at row'
same_references level at lo hi hi' [] row' h h' low low' e = absurd (omega arith)
same_references level at lo hi hi' (d ∷ ds) [] h h' low low' e = absurd (omega arith)
same_references level at lo hi hi' (d ∷ ds) (d' ∷ ds') h h' low low' e =
    let key : d.key ≡ d'.key = low ∙ sym low' in
    let number : at d.value ≡ at d'.value = ap (λ (Q : Page). Q.first) e in
    let rest : references at ds ≡ references at ds' = ap (λ (Q : Page). Q.entries) e in
    λ i. entry (key i) (number i) ∷ rest i

-- two trees of one height that a memory holds at one page, and whose ranges begin alike, are one
pub same_tree : (k m m' M M' : ℕ) (memory : ℕ → Page) (l : ℕ) (t t' : Tr l) (lo hi hi' : ℕ) → page_number l t ≡ page_number l t'
    → InRange k m M l t lo hi → InRange k m' M' l t' lo hi' → Holds memory l t → Holds memory l t' → t ≡ t'
same_tree k m m' M M' memory zero t t' lo hi hi' e r r' h h' =
    let value : page_of zero t ≡ page_of zero t' = sym h ∙ ap memory e ∙ h' in
    let entries : t.entries ≡ t'.entries = ap (λ (Q : Page). Q.entries) value in
    λ i. record { at = e i; entries = entries i }
same_tree k m m' M M' memory (suc l) t t' lo hi hi' e r r' h h' =
    let value : page_of (suc l) t ≡ page_of (suc l) t' = sym h.0 ∙ ap memory e ∙ h'.0 in
    let P : Tr l → ℕ → ℕ → Type 0 = InRange k k (2 * k) l in
    let row : t.row ≡ t'.row
    = same_rows P P (Holds memory l) (page_number l) hi hi'
    (λ c c' a b b' n s s' g g'. same_tree k k k (2 * k) (2 * k) memory l c c' a b b' n s s' g g')
    t.row t'.row
    (same_references (suc (suc l)) (page_number l) lo hi hi' t.row t'.row (omega (arith, r.least)) (omega (arith, r'.least)) r.low r'.low value)
    r.children r'.children h.1 h'.1 in
    λ i. record { at = e i; row = row i }

-- page 0's level is the tree's height
pub root_level : (k n : ℕ) (memory : ℕ → Page) (l : ℕ) (t : Tr l) → Forms k n memory l t → (memory 0).level ≡ l + 1
root_level k n memory l t forms =
    ap (λ (q : ℕ). (memory q).level) (sym forms.root)
    ∙ ap (λ (Q : Page). Q.level) (top_holds memory l t forms.holds)
    ∙ page_of_level l t

module _ (k n : ℕ) (memory : ℕ → Page) (l : ℕ) (t : Tr l) (forms : Forms k n memory l t) where
  -- the memory's tree of that height is t
  same_of_height : (l' : ℕ) (e : l ≡ l') (t' : Tr l') → Forms k n memory l' t' → any_tree l t ≡ any_tree l' t'
  same_of_height l' e =
      subst (λ (h : ℕ). (t' : Tr h) → Forms k n memory h t' → any_tree l t ≡ any_tree h t') e
      (λ t' forms'. ap (any_tree l)
      (same_tree k (root_least l) (root_least l) (2 * k) (2 * k) memory l t t' 0 word_range word_range (forms.root ∙ sym forms'.root)
      forms.in_range forms'.in_range forms.holds forms'.holds))

  -- two trees of one memory are one
  pub determined : (l' : ℕ) (t' : Tr l') → Forms k n memory l' t' → any_tree l t ≡ any_tree l' t'
  determined l' t' forms' =
      let level : (memory 0).level ≡ l + 1 = root_level k n memory l t forms in
      let level' : (memory 0).level ≡ l' + 1 = root_level k n memory l' t' forms' in
      same_of_height l' (omega arith) t' forms'

-- Two trees of one pool's words are one.
pub pool_determined : (k n : ℕ) (ws : List ℕ) (l : ℕ) (t : Tr l) (l' : ℕ) (t' : Tr l') → PoolForms k n ws l t → PoolForms k n ws l' t'
    → any_tree l t ≡ any_tree l' t'
pool_determined k n ws l t l' t' pool pool' = determined k n (page_at k ws) l t pool.forms l' t' pool'.forms
