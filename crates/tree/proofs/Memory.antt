-- Laws of memories: how often a page stands in a list and in a tree, the memory after a list of writes, and a tree
-- held by another memory that agrees on its pages. A page standing once is counted, so that most of this is arithmetic.
use Prim.Native.Nat.{ℕ, zero, suc, ◌+◌, ◌*◌, ◌≤◌}
use mathlib.Core.Bool.{true, false, not, false≢true}
use mathlib.Core.List.{List, [], ◌∷◌, ◌++◌, map-append}
use mathlib.Core.Logic.{inl, inr, ⊎_elim}
use mathlib.Core.Path.{◌≡◌, refl, sym, ap, ◌∙◌}
use native.Mathlib.Omega.{arith}
use borrow.Author.Tests.{eqb-true, eq-eqb, ne_eqb, not-true}
use lib.Dec.{eqb, leb}
use lib.ListN.{take, drop, take-append-drop}
use Rattle.ground.specs.Tests.{member, distinct}
use Rattle.ground.proofs.Bools.{and_first, and_second, and_both, or_first, or_second, or_cases, or_first_fails, or_second_fails, not_of_false, not_both, false_if_not_true}
use Rattle.ground.proofs.Choice.{by_test, cond-true, cond-false, cond_ind}
use Rattle.page.specs.Words.{Keyed, Page, μ}
use Rattle.page.specs.Fits.{Fits}
use Rattle.pool.specs.Pool.{Write}
use Rattle.tree.specs.Rows.{head_key, Somewhere, Each, total, followed}
use Rattle.tree.specs.Tree.{Tr, page_number, page_of, once, occurs, Holds, HoldsBelow, Stands, way}
use Rattle.tree.specs.Change.{memory_with, memory_after, written_pages, Fitting}
use Rattle.tree.proofs.Rows.{total_append}
use Rattle.tree.proofs.Pages.{no_leaf}

-- ---- how often a page stands in a list

-- a page is itself once,
pub once_same : (q p : ℕ) → q ≡ p → once q p ≡ 1
once_same q p e = cond-true 1 0 (eq-eqb q p e)

-- no other is,
pub once_other : (q p : ℕ) → (q ≡ p → ⊥) → once q p ≡ 0
once_other q p n = cond-false 1 0 (ne_eqb q p n)

-- a page that counts once is the page itself,
pub once_is : (q p : ℕ) → 1 ≤ once q p → q ≡ p
once_is q p h =
    by_test (eqb q p)
    (λ t. eqb-true q p t)
    (λ t. let z : once q p ≡ 0 = cond-false 1 0 t in absurd (omega arith))

-- and one that counts no time is another
pub once_not : (q p : ℕ) → once q p ≡ 0 → q ≡ p → ⊥
once_not q p h e = let one = once_same q p e in omega arith

-- how often q stands in a list
abbrev pub times : ℕ → List ℕ → ℕ
times q [] = 0
times q (p ∷ ps) = once q p + times q ps

-- in two lists joined
pub times_append : (q : ℕ) (ps rs : List ℕ) → times q (ps ++ rs) ≡ times q ps + times q rs
times_append q [] rs = omega arith
times_append q (p ∷ ps) rs = let ih = times_append q ps rs in omega arith

-- in a list cut in two
pub times_cut : (q i : ℕ) (ps : List ℕ) → times q ps ≡ times q (take i ps) + times q (drop i ps)
times_cut q i ps = sym (ap (times q) (take-append-drop i ps)) ∙ times_append q (take i ps) (drop i ps)

-- what stands in a list stands there at least once,
pub member_times : (q : ℕ) (ps : List ℕ) → member q ps ≡ true → 1 ≤ times q ps
unfolding member
member_times q [] h = absurd (false≢true h)
member_times q (p ∷ ps) h =
    ⊎_elim
    (λ t. let one = once_same q p (eqb-true q p t) in omega arith)
    (λ t. let ih = member_times q ps t in omega arith)
    (or_cases (eqb q p) (member q ps) h)

-- and back
pub times_member : (q : ℕ) (ps : List ℕ) → 1 ≤ times q ps → member q ps ≡ true
unfolding member
times_member q [] h = absurd (omega arith)
times_member q (p ∷ ps) h =
    by_test (eqb q p)
    (λ t. or_first (member q ps) t)
    (λ t. let z : once q p ≡ 0 = cond-false 1 0 t in or_second (eqb q p) (times_member q ps (omega arith)))

-- what does not stand in a list stands there no time,
pub absent_times : (q : ℕ) (ps : List ℕ) → member q ps ≡ false → times q ps ≡ 0
unfolding member
absent_times q [] h = refl
absent_times q (p ∷ ps) h =
    let here : once q p ≡ 0 = cond-false 1 0 (or_first_fails (eqb q p) (member q ps) h) in
    let ih = absent_times q ps (or_second_fails (eqb q p) (member q ps) h) in
    omega arith

-- and back
pub times_absent : (q : ℕ) (ps : List ℕ) → times q ps ≡ 0 → member q ps ≡ false
times_absent q ps h = false_if_not_true (member q ps) (λ t. let one = member_times q ps t in omega arith)

-- in a list without repetitions everything stands at most once,
pub distinct_times : (ps : List ℕ) → distinct ps ≡ true → (q : ℕ) → times q ps ≤ 1
unfolding distinct
distinct_times [] h q = omega arith
distinct_times (p ∷ ps) h q =
    let ih = distinct_times ps (and_second (not (member p ps)) (distinct ps) h) q in
    by_test (eqb q p)
    (λ t.
    let one : once q p ≡ 1 = cond-true 1 0 t in
    let none : times p ps ≡ 0 = absent_times p ps (not-true (member p ps) (and_first (not (member p ps)) (distinct ps) h)) in
    let same : times q ps ≡ times p ps = ap (λ (r : ℕ). times r ps) (eqb-true q p t) in
    omega arith)
    (λ t. let z : once q p ≡ 0 = cond-false 1 0 t in omega arith)

-- and back
pub times_distinct : (ps : List ℕ) → ((q : ℕ) → times q ps ≤ 1) → distinct ps ≡ true
unfolding distinct
times_distinct [] h = refl
times_distinct (p ∷ ps) h =
    let one = once_same p p refl in
    and_both
    (not_of_false (times_absent p ps (omega (arith, h p))))
    (times_distinct ps (λ q. omega (arith, h q)))

-- ---- the memory after a list of writes

-- the pages of two lists of writes
pub written_append : (W U : List Write) → written_pages (W ++ U) ≡ written_pages W ++ written_pages U
written_append W U = map-append (λ (w : Write). w.at) W U

-- how often a page is among them
pub times_written : (q : ℕ) (W U : List Write) → times q (written_pages (W ++ U)) ≡ times q (written_pages W) + times q (written_pages U)
times_written q W U = ap (times q) (written_append W U) ∙ times_append q (written_pages W) (written_pages U)

-- a page that is not written is as it was
pub unwritten : (memory : ℕ → Page) (W : List Write) (q : ℕ) → times q (written_pages W) ≡ 0 → memory_after memory W q ≡ memory q
unwritten memory [] q h = refl
unwritten memory (w ∷ W) q h =
    unwritten (memory_with memory w) W q (omega arith)
    ∙ cond-false w.value (memory q) (ne_eqb q w.at (once_not q w.at (omega arith)))

-- the memory has what each write says
abbrev pub Stores : (ℕ → Page) → List Write → Type 0
Stores M [] = Unit {0}
Stores M (w ∷ W) = (M w.at ≡ w.value) × Stores M W

-- of the first part of a list of writes,
pub stores_left : (M : ℕ → Page) (W U : List Write) → Stores M (W ++ U) → Stores M W
stores_left M [] U s = tt
stores_left M (w ∷ W) U s = (s.0, stores_left M W U s.1)

-- and of the second
pub stores_right : (M : ℕ → Page) (W U : List Write) → Stores M (W ++ U) → Stores M U
stores_right M [] U s = s
stores_right M (w ∷ W) U s = stores_right M W U s.1

-- where no page is written twice, the memory after the writes has what each says
pub written_stores : (memory : ℕ → Page) (W : List Write) → ((q : ℕ) → times q (written_pages W) ≤ 1) → Stores (memory_after memory W) W
written_stores memory [] h = tt
written_stores memory (w ∷ W) h =
    let one = once_same w.at w.at refl in (
      unwritten (memory_with memory w) W w.at (omega (arith, h w.at))
          ∙ cond-true w.value (memory w.at) (eq-eqb w.at w.at refl),
      written_stores (memory_with memory w) W (λ q. omega (arith, h q)),
    )

-- room for the values of two lists of writes
pub fitting_append : (k : ℕ) (W U : List Write) → Fitting k W → Fitting k U → Fitting k (W ++ U)
fitting_append k [] U f g = g
fitting_append k (w ∷ W) U f g = (f.0, fitting_append k W U f.1 g)

-- the page of a tree with at most 2k has room
pub fits_page : (k l : ℕ) (t : Tr l) → μ (page_of l t) ≤ 2 * k → Fits k (page_of l t)
fits_page k zero t h = record { room = omega arith; leaf_first = λ e. refl }
fits_page k (suc l) t h = record { room = omega arith; leaf_first = λ e. not_both e (no_leaf l) }

-- ---- the pages of a tree

-- the root's page is a page of the tree
pub root_occurs : (q l : ℕ) (t : Tr l) → once q (page_number l t) ≤ occurs q l t
root_occurs q zero t = omega arith
root_occurs q (suc l) t = omega arith

-- a sum around a thing
pub total_middle : {C : Type 0} (f : C → ℕ) (xs : List (Keyed C)) (d : Keyed C) (ys : List (Keyed C))
    → total f (xs ++ d ∷ ys) ≡ total f xs + (f d.value + total f ys)
total_middle f xs d ys = total_append f xs (d ∷ ys)

-- a sum is at least what one of its things gives
pub somewhere_total : {C : Type 0} (P : C → ℕ → ℕ → Type 0) (f : C → ℕ) (row : List (Keyed C)) (hi : ℕ)
    → ((c : C) (a b : ℕ) → P c a b → 1 ≤ f c) → Somewhere P row hi → 1 ≤ total f row
somewhere_total P f [] hi h s = absurd s
somewhere_total P f (d ∷ ds) hi h (inl s) = let here = h d.value d.key (head_key ds hi) s in omega arith
somewhere_total P f (d ∷ ds) hi h (inr s) = let ih = somewhere_total P f ds hi h s in omega arith

-- a page that stands in the tree is one of its pages
pub stands_occurs : (l : ℕ) (t : Tr l) (lo hi q level a b : ℕ) → Stands l t lo hi q level a b → 1 ≤ occurs q l t
stands_occurs zero t lo hi q level a b s = let one = once_same q t.at (sym s.0) in omega arith
stands_occurs (suc l) t lo hi q level a b (inl r) = let one = once_same q t.at (sym r.0) in omega arith
stands_occurs (suc l) t lo hi q level a b (inr r) =
    let some = somewhere_total (λ (c : Tr l) (lo' hi' : ℕ). Stands l c lo' hi' q level a b) (occurs q l) t.row hi
    (λ c lo' hi' s. stands_occurs l c lo' hi' q level a b s) r in
    omega arith

-- what is followed stands in a sum over the row
followed_total : {C : Type 0} (q x : ℕ) (f : C → List ℕ) (g : C → ℕ) (row : List (Keyed C))
    → ((c : C) → times q (f c) ≤ g c) → times q (followed f [] x row) ≤ total g row
followed_total q x f g [] h = omega arith
followed_total q x f g (d ∷ []) h = omega (arith, h d.value)
followed_total q x f g (d ∷ (e ∷ es)) h =
    let ih = followed_total q x f g (e ∷ es) h in
    cond_ind (λ (w : List ℕ). times q w ≤ g d.value + total g (e ∷ es)) (leb e.key x)
    (λ t. omega arith)
    (λ t. omega (arith, h d.value))

-- the pages on a key's way are pages of the tree, each as often as it is on the way
pub way_occurs : (q x l : ℕ) (t : Tr l) → times q (way x l t) ≤ occurs q l t
way_occurs q x zero t = omega arith
way_occurs q x (suc l) t =
    let cut = times_append q (followed (way x l) [] x t.row) (t.at ∷ []) in
    let below = followed_total q x (way x l) (occurs q l) t.row (λ c. way_occurs q x l c) in
    omega arith

-- ---- trees held by memories

-- a tree is held whose root page and whose pages below are
pub holds_top : (M : ℕ → Page) (l : ℕ) (t : Tr l) → M (page_number l t) ≡ page_of l t → HoldsBelow M l t → Holds M l t
holds_top M zero t e h = e
holds_top M (suc l) t e h = (e, h)

-- a tree that is held has its root page in the memory
pub top_holds : (M : ℕ → Page) (l : ℕ) (t : Tr l) → Holds M l t → M (page_number l t) ≡ page_of l t
top_holds M zero t h = h
top_holds M (suc l) t h = h.0

-- each thing of a row is held by a memory that agrees on the row's pages
each_same : {C : Type 0} (H H' : C → Type 0) (f : ℕ → C → ℕ) (R : ℕ → Type 0) (row : List (Keyed C))
    → ((c : C) → ((q : ℕ) → 1 ≤ f q c → R q) → H c → H' c) → ((q : ℕ) → 1 ≤ total (f q) row → R q) → Each H row → Each H' row
each_same H H' f R [] g a h = tt
each_same H H' f R (d ∷ ds) g a h =
    (g d.value (λ q o. a q (omega arith)) h.0, each_same H H' f R ds g (λ q o. a q (omega arith)) h.1)

-- memories that agree on the tree's pages hold the same tree
pub holds_same : (M M' : ℕ → Page) (l : ℕ) (t : Tr l) → ((q : ℕ) → 1 ≤ occurs q l t → M' q ≡ M q) → Holds M l t → Holds M' l t
holds_same M M' zero t a h = let one = once_same t.at t.at refl in a t.at (omega arith) ∙ h
holds_same M M' (suc l) t a h =
    let one = once_same t.at t.at refl in (
      a t.at (omega arith) ∙ h.0,
      each_same (Holds M l) (Holds M' l) (λ q. occurs q l) (λ q. M' q ≡ M q) t.row (λ c. holds_same M M' l c) (λ q o. a q (omega arith)) h.1,
    )

-- so do those that agree on the pages of a row, each of its trees
pub row_same : (M M' : ℕ → Page) (l : ℕ) (row : List (Keyed (Tr l)))
    → ((q : ℕ) → 1 ≤ total (occurs q l) row → M' q ≡ M q) → Each (Holds M l) row → Each (Holds M' l) row
row_same M M' l row a h = each_same (Holds M l) (Holds M' l) (λ q. occurs q l) (λ q. M' q ≡ M q) row (λ c. holds_same M M' l c) a h
