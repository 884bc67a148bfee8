-- A regrading leads from the tree to the tree with one information changed. That tree is the old one with every leaf regraded:
-- a key stands in one leaf at most, so every leaf but the one on its way stays as it is.
use Prim.Native.Nat.{ℕ, zero, suc, ◌+◌, ◌*◌, ◌≤◌, ◌<◌}
use mathlib.Core.Bool.{true, cond}
use mathlib.Core.List.{List, [], ◌∷◌, ◌++◌}
use mathlib.Core.Logic.{◌≢◌, inl, inr}
use mathlib.Core.Path.{◌≡◌, refl, sym, ap, ap₂, ◌∙◌, subst}
use native.Mathlib.Omega.{arith}
use borrow.Author.Tests.{leb-true, leb-false, eqb-true, eqb-false, ne_eqb}
use lib.Dec.{leb, eqb}
use lib.ListN.{length, get_or}
use Rattle.ground.specs.Limits.{word_range}
use Rattle.ground.specs.Tests.{member, distinct}
use Rattle.ground.proofs.Choice.{by_test, cond_ind, cond-true, cond-false}
use Rattle.ground.proofs.Tests.{member_one}
use Rattle.page.specs.Words.{Keyed, Entry, Page, keyed, page}
use Rattle.page.specs.Place.{regraded}
use Rattle.page.specs.Splits.{with_entries}
use Rattle.page.specs.Fits.{Fits}
use Rattle.page.proofs.RegradeLaws.{length_regraded, regraded_none, regraded_second, regraded_first}
use Rattle.pool.specs.Pool.{write}
use Rattle.change.specs.Regrading.{regrading}
use Rattle.tree.specs.Rows.{head_key, Span, Somewhere, Each, gathered, total, followed, references, row_page}
use Rattle.tree.specs.Tree.{Leaf, Tr, node, page_number, entries_of, once, occurs, LeafIn, InRange, ChildIn, root_least, Holds, Stands, way, leaf_on, Forms}
use Rattle.tree.specs.Change.{memory_with, Leads}
use Rattle.tree.specs.Regrading.{RegradingLeads}
use Rattle.tree.proofs.Sorted.{Anything, Within, within_gathered, Lacks, lacks_before, lacks_behind, has_lacks}
use Rattle.tree.proofs.Search.{down, within_entries, way_facts}
use Rattle.tree.proofs.Memory.{once_same, times, way_occurs}
use Rattle.tree.proofs.Ways.{place_facts}

-- ---- a row with each of its things changed, its keys kept

abbrev changed : {C : Type 0} → (C → C) → List (Keyed C) → List (Keyed C)
changed f [] = []
changed f (d ∷ ds) = keyed d.key (f d.value) ∷ changed f ds

head_key_changed : {C : Type 0} (f : C → C) (row : List (Keyed C)) (hi : ℕ) → head_key (changed f row) hi ≡ head_key row hi
head_key_changed f [] hi = refl
head_key_changed f (d ∷ ds) hi = refl

length_changed : {C : Type 0} (f : C → C) (row : List (Keyed C)) → length (changed f row) ≡ length row
length_changed f [] = refl
length_changed f (d ∷ ds) = ap suc (length_changed f ds)

-- what each thing has with its range, each has after,
span_changed : {C : Type 0} (P : C → ℕ → ℕ → Type 0) (f : C → C) (row : List (Keyed C)) (hi : ℕ)
    → ((c : C) (a b : ℕ) → P c a b → P (f c) a b) → Span P row hi → Span P (changed f row) hi
span_changed P f [] hi g s = tt
span_changed P f (d ∷ ds) hi g s =
    let same = sym (head_key_changed f ds hi) in (
      subst (λ (b : ℕ). d.key < b) same s.0,
      subst (P (f d.value) d.key) same (g d.value d.key (head_key ds hi) s.1),
      span_changed P f ds hi g s.2,
    )

-- and so what some thing has;
somewhere_changed : {C : Type 0} (P : C → ℕ → ℕ → Type 0) (f : C → C) (row : List (Keyed C)) (hi : ℕ)
    → ((c : C) (a b : ℕ) → P c a b → P (f c) a b) → Somewhere P row hi → Somewhere P (changed f row) hi
somewhere_changed P f [] hi g s = absurd s
somewhere_changed P f (d ∷ ds) hi g (inl s) =
    inl (subst (P (f d.value) d.key) (sym (head_key_changed f ds hi)) (g d.value d.key (head_key ds hi) s))
somewhere_changed P f (d ∷ ds) hi g (inr s) = inr (somewhere_changed P f ds hi g s)

-- what is the same of each thing is the same summed up,
total_changed : {C : Type 0} (g : C → ℕ) (f : C → C) (row : List (Keyed C)) → ((c : C) → g (f c) ≡ g c) → total g (changed f row) ≡ total g row
total_changed g f [] e = refl
total_changed g f (d ∷ ds) e = ap₂ (λ (a b : ℕ). a + b) (e d.value) (total_changed g f ds e)

-- followed,
followed_changed : {C B : Type 0} (g : C → B) (none : B) (y : ℕ) (f : C → C) (row : List (Keyed C))
    → ((c : C) → g (f c) ≡ g c) → followed g none y (changed f row) ≡ followed g none y row
followed_changed g none y f [] e = refl
followed_changed g none y f (d ∷ []) e = e d.value
followed_changed {B = B} g none y f (d ∷ (d' ∷ ds)) e =
    ap₂ (λ (a b : B). cond (leb d'.key y) a b) (followed_changed g none y f (d' ∷ ds) e) (e d.value)

-- and on the row's page
references_changed : {C : Type 0} (at : C → ℕ) (f : C → C) (row : List (Keyed C)) → ((c : C) → at (f c) ≡ at c)
    → references at (changed f row) ≡ references at row
references_changed at f [] e = refl
references_changed at f (d ∷ ds) e =
    ap₂ (λ (p : ℕ) (es : List Entry). keyed d.key p ∷ es) (e d.value) (references_changed at f ds e)

row_page_changed : {C : Type 0} (level : ℕ) (at : C → ℕ) (f : C → C) (row : List (Keyed C)) → ((c : C) → at (f c) ≡ at c)
    → row_page level at (changed f row) ≡ row_page level at row
row_page_changed level at f [] e = refl
row_page_changed level at f (d ∷ ds) e = ap₂ (page level) (e d.value) (references_changed at f ds e)

-- ---- sorted lists

module _ (x v : ℕ) where
  head_key_regraded : (es : List Entry) (hi : ℕ) → head_key (regraded x v es) hi ≡ head_key es hi
  unfolding regraded
  head_key_regraded [] hi = refl
  head_key_regraded (e ∷ es) hi = cond_ind (λ (l : List Entry). head_key l hi ≡ e.key) (eqb e.key x) (λ here. refl) (λ there. refl)

  span_regraded : (es : List Entry) (hi : ℕ) → Span Anything es hi → Span Anything (regraded x v es) hi
  unfolding regraded
  span_regraded [] hi s = tt
  span_regraded (e ∷ es) hi s =
      cond_ind (λ (l : List Entry). Span Anything l hi) (eqb e.key x)
      (λ here. s)
      (λ there. (subst (λ (b : ℕ). e.key < b) (sym (head_key_regraded es hi)) s.0, tt, span_regraded es hi s.2))

  -- two lists, one behind the other, each regraded: x is in one of them at most
  regraded_both : (lo mid hi : ℕ) (A B : List Entry) → Within lo A mid → Within mid B hi → regraded x v A ++ regraded x v B ≡ regraded x v (A ++ B)
  regraded_both lo mid hi A B a b =
      by_test (leb mid x)
      (λ t. let none = has_lacks x A (lacks_behind x lo mid A a (leb-true mid x t)) in
      ap (λ (l : List Entry). l ++ regraded x v B) (regraded_none x v A none) ∙ sym (regraded_second x v A B none))
      (λ f. let none = has_lacks x B (lacks_before x mid hi B b (leb-false mid x f)) in
      ap (λ (l : List Entry). regraded x v A ++ l) (regraded_none x v B none) ∙ sym (regraded_first x v A B none))

  -- so are the entries of a row
  gathered_changed : {C : Type 0} (P : C → ℕ → ℕ → Type 0) (g : C → List Entry) (f : C → C) (row : List (Keyed C)) (hi : ℕ)
      → ((c : C) (a b : ℕ) → a < b → P c a b → Within a (g c) b) → ((c : C) (a b : ℕ) → P c a b → g (f c) ≡ regraded x v (g c))
      → Span P row hi → gathered g (changed f row) ≡ regraded x v (gathered g row)
  unfolding regraded
  gathered_changed P g f [] hi w e s = refl
  gathered_changed P g f (d ∷ ds) hi w e s =
      ap₂ (λ (l r : List Entry). l ++ r) (e d.value d.key (head_key ds hi) s.1) (gathered_changed P g f ds hi w e s.2)
      ∙ regraded_both d.key (head_key ds hi) hi (g d.value) (gathered g ds)
      (w d.value d.key (head_key ds hi) s.0 s.1) (within_gathered P g ds hi w s.2)

  -- ---- the tree with every leaf regraded

  abbrev regraded_tree : (l : ℕ) → Tr l → Tr l
  regraded_tree zero t = record { at = t.at; entries = regraded x v t.entries }
  regraded_tree (suc l) t = node t.at (changed (regraded_tree l) t.row)

  number_same : (l : ℕ) (t : Tr l) → page_number l (regraded_tree l t) ≡ page_number l t
  number_same zero t = refl
  number_same (suc l) t = refl

  occurs_same : (q l : ℕ) (t : Tr l) → occurs q l (regraded_tree l t) ≡ occurs q l t
  occurs_same q zero t = refl
  occurs_same q (suc l) t = ap (λ (n : ℕ). once q t.at + n) (total_changed (occurs q l) (regraded_tree l) t.row (occurs_same q l))

  way_same : (y l : ℕ) (t : Tr l) → way y l (regraded_tree l t) ≡ way y l t
  way_same y zero t = refl
  way_same y (suc l) t = ap (λ (w : List ℕ). w ++ t.at ∷ []) (followed_changed (way y l) [] y (regraded_tree l) t.row (way_same y l))

  stands_same : (l : ℕ) (t : Tr l) (lo hi q level a b : ℕ) → Stands l t lo hi q level a b → Stands l (regraded_tree l t) lo hi q level a b
  stands_same zero t lo hi q level a b s = s
  stands_same (suc l) t lo hi q level a b (inl s) = inl s
  stands_same (suc l) t lo hi q level a b (inr s) =
      inr
      (somewhere_changed (λ (c : Tr l) (lo' hi' : ℕ). Stands l c lo' hi' q level a b) (regraded_tree l) t.row hi
      (λ c lo' hi' r. stands_same l c lo' hi' q level a b r) s)

  range_same : (k m M l : ℕ) (t : Tr l) (lo hi : ℕ) → InRange k m M l t lo hi → InRange k m M l (regraded_tree l t) lo hi
  range_same k m M zero t lo hi r =
      let len = length_regraded x v t.entries in
      record {
        least = omega (arith, r.least);
        most = omega (arith, r.most);
        low = subst (λ (a : ℕ). lo ≤ a) (sym (head_key_regraded t.entries hi)) r.low;
        rising = span_regraded t.entries hi r.rising;
      }
  range_same k m M (suc l) t lo hi r =
      let len = length_changed (regraded_tree l) t.row in
      record {
        least = omega (arith, r.least);
        most = omega (arith, r.most);
        low = head_key_changed (regraded_tree l) t.row hi ∙ r.low;
        children = span_changed (ChildIn k l) (regraded_tree l) t.row hi (range_same k k (2 * k) l) r.children;
      }

  -- its entries are the tree's, regraded
  entries_regraded : (k m M l : ℕ) (t : Tr l) (lo hi : ℕ) → InRange k m M l t lo hi → entries_of l (regraded_tree l t) ≡ regraded x v (entries_of l t)
  entries_regraded k m M zero t lo hi r = refl
  entries_regraded k m M (suc l) t lo hi r =
      gathered_changed (ChildIn k l) (entries_of l) (regraded_tree l) t.row hi
      (λ c a b h s. within_entries k k (2 * k) l c a b s) (entries_regraded k k (2 * k) l) r.children

-- the leaf on x's way has no more than a page may
leaf_most : (k x m l : ℕ) (t : Tr l) (lo hi : ℕ) → InRange k m (2 * k) l t lo hi → lo ≤ x → x < hi → length (leaf_on x l t) ≤ 2 * k
leaf_most k x m zero t lo hi r low high = r.most
leaf_most k x m (suc l) t lo hi r low high =
    let d = down k m (2 * k) x l t lo hi r low high in
    subst (λ (es : List Entry). length es ≤ 2 * k) (sym d.leaf_of)
    (leaf_most k x k l d.here.value d.here.key (head_key d.after hi) d.child d.from d.to)

-- a page alone is no page twice
one_different : (p : ℕ) → distinct (p ∷ []) ≡ true
unfolding distinct member
one_different p = refl

-- ---- the memory after

module _ (k n : ℕ) (memory : ℕ → Page) (height : ℕ) (whole : Tr height) (x v leaf : ℕ) (rest : List ℕ)
    (forms : Forms k n memory height whole) (key : x < word_range) (path : way x height whole ≡ leaf ∷ rest) where
  abbrev new : Page
  new = with_entries (memory leaf) (regraded x v (memory leaf).entries)

  abbrev after : ℕ → Page
  after = memory_with memory (write leaf new)

  after_other : (q : ℕ) → q ≢ leaf → after q ≡ memory q
  after_other q other = cond-false new (memory q) (ne_eqb q leaf other)

  -- the leaf is the first page of the way,
  first : get_or (way x height whole) 0 0 ≡ leaf
  first = ap (λ (w : List ℕ). get_or w 0 0) path

  -- a page of the tree
  leaf_occurs : 1 ≤ occurs leaf height whole
  leaf_occurs =
      let one = once_same leaf leaf refl in
      let on = way_occurs leaf x height whole in
      let here = ap (times leaf) path in
      omega arith

  -- and a leaf
  leaf_page : memory leaf ≡ page 1 0 (leaf_on x height whole)
  leaf_page = ap memory (sym first) ∙ (way_facts k n memory height whole forms x key).leaf

  -- the new page has room
  fits : Fits k new
  fits =
      let len = length_regraded x v (memory leaf).entries in
      let same : length (memory leaf).entries ≡ length (leaf_on x height whole) = ap (λ (P : Page). length P.entries) leaf_page in
      let most = leaf_most k x (root_least height) height whole 0 word_range forms.in_range (omega arith) key in
      record { room = omega arith; leaf_first = λ l. ap (λ (P : Page). P.first) leaf_page }

  -- this tree's pages stand in the whole tree
  abbrev Part : (l : ℕ) → Tr l → ℕ → ℕ → Type 0
  Part l t lo hi = (q level a b : ℕ) → Stands l t lo hi q level a b → Stands height whole 0 word_range q level a b

  -- a leaf that is not on x's way has not x
  away : (m M : ℕ) (t : Leaf) (lo hi : ℕ) → LeafIn m M t lo hi → Part zero t lo hi → t.at ≢ leaf → Lacks x t.entries
  away m M t lo hi r part other =
      by_test (leb lo x)
      (λ low. by_test (leb hi x)
      (λ high. lacks_behind x lo hi t.entries (r.low, r.rising) (leb-true hi x high))
      (λ high. absurd
      (other
      (sym ((place_facts k n memory height whole forms).way_has x 0 t.at lo hi (part t.at 1 lo hi (refl, refl, refl, refl))
      (leb-true lo x low) (leb-false hi x high))
      ∙ first))))
      (λ low. lacks_before x lo hi t.entries (r.low, r.rising) (leb-false lo x low))

  -- the memory after holds every leaf regraded,
  leaf_holds : (m M : ℕ) (t : Leaf) (lo hi : ℕ) → LeafIn m M t lo hi → Part zero t lo hi → memory t.at ≡ page 1 0 t.entries
      → after t.at ≡ page 1 0 (regraded x v t.entries)
  leaf_holds m M t lo hi r part h =
      by_test (eqb t.at leaf)
      (λ here. cond-true new (memory t.at) here
      ∙ ap (λ (P : Page). with_entries P (regraded x v P.entries)) (ap memory (sym (eqb-true t.at leaf here)) ∙ h))
      (λ there.
      let other = eqb-false t.at leaf there in
      after_other t.at other
      ∙ h
      ∙ ap (page 1 0) (sym (regraded_none x v t.entries (has_lacks x t.entries (away m M t lo hi r part other)))))

  -- each tree of a row,
  row_holds : (l : ℕ) (row : List (Keyed (Tr l))) (hi : ℕ)
      → ((c : Tr l) (a b : ℕ) → ChildIn k l c a b → Part l c a b → Holds memory l c → Holds after l (regraded_tree x v l c))
      → Span (ChildIn k l) row hi
      → ((q level a b : ℕ) → Somewhere (λ (c : Tr l) (lo' hi' : ℕ). Stands l c lo' hi' q level a b) row hi → Stands height whole 0 word_range q level a b)
      → Each (Holds memory l) row → Each (Holds after l) (changed (regraded_tree x v l) row)
  row_holds l [] hi f s part h = tt
  row_holds l (d ∷ ds) hi f s part h = (
    f d.value d.key (head_key ds hi) s.1 (λ q level a b r. part q level a b (inl r)) h.0,
    row_holds l ds hi f s.2 (λ q level a b r. part q level a b (inr r)) h.1,
  )

  -- and so the tree
  tree_holds : (m M l : ℕ) (t : Tr l) (lo hi : ℕ) → InRange k m M l t lo hi → Part l t lo hi → Holds memory l t → Holds after l (regraded_tree x v l t)
  tree_holds m M zero t lo hi r part h = leaf_holds m M t lo hi r part h
  tree_holds m M (suc l) t lo hi r part h =
      let low : (memory leaf).level ≡ 1 = ap (λ (P : Page). P.level) leaf_page in
      let high : (memory t.at).level ≡ suc (suc l) = ap (λ (P : Page). P.level) h.0 in
      let other : t.at ≢ leaf = λ e. let same = ap (λ (q : ℕ). (memory q).level) e in omega arith in (
        after_other t.at other ∙ h.0 ∙ sym (row_page_changed (suc (suc l)) (page_number l) (regraded_tree x v l) t.row (number_same x v l)),
        row_holds l t.row hi (tree_holds k (2 * k) l) r.children (λ q level a b s. part q level a b (inr s)) h.1,
      )

  -- the memory after forms the regraded tree
  after_forms : Forms k n after height (regraded_tree x v height whole)
  after_forms = record {
    root = number_same x v height whole ∙ forms.root;
    in_range = range_same x v k (root_least height) (2 * k) height whole 0 word_range forms.in_range;
    holds = tree_holds (root_least height) (2 * k) height whole 0 word_range forms.in_range (λ q level a b s. s) forms.holds;
    different = λ q. omega (arith, occurs_same x v q height whole, forms.different q);
    within = λ q o. forms.within q (omega (arith, occurs_same x v q height whole));
    others =
        λ q h o.
        let none : occurs q height whole ≡ 0 = omega (arith, occurs_same x v q height whole) in
        after_other q (λ e. let same = ap (λ (p : ℕ). occurs p height whole) e in omega (arith, leaf_occurs)) ∙ forms.others q h none;
  }

  after_leads : Leads k n memory height whole (write leaf new ∷ []) (regraded x v (entries_of height whole))
  after_leads = record {
    height = height;
    tree = regraded_tree x v height whole;
    forms = after_forms;
    entries = entries_regraded x v k (root_least height) (2 * k) height whole 0 word_range forms.in_range;
    different = one_different leaf;
    inside = λ q m. forms.within q (subst (λ (p : ℕ). 1 ≤ occurs p height whole) (sym (member_one q leaf m)) leaf_occurs);
    fitting = (fits, tt);
    keeps = λ q level a b m s. stands_same x v height whole 0 word_range q level a b s;
  }

-- A regrading leads to a tree with the new information, and writes the leaf.
pub regrading_leads : RegradingLeads
unfolding regrading after_leads
regrading_leads k n memory l t x v leaf rest forms key path = record {
  leads = after_leads k n memory l t x v leaf rest forms key path;
  writes = λ q m. member_one q leaf m;
  height = refl;
  pages = λ q. occurs_same x v q l t;
  ways = λ y. way_same x v y l t;
}
