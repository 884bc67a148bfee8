-- Height: a tree has many pages for its height, no pool has more than its own, and so no tree is higher than 10.
use Prim.Native.Nat.{ℕ, zero, suc, ◌+◌, ◌-◌, ◌*◌, ◌^◌, ◌≤◌, ◌<◌}
use mathlib.Core.Path.{◌≡◌, refl, ◌∙◌, subst}
use mathlib.Core.List.{List, [], ◌∷◌}
use native.Mathlib.Nat.{pow-le-pow_right}
use native.Mathlib.Omega.{arith}
use borrow.Author.Tests.{leb-true, leb-false}
use lib.Dec.{leb}
use lib.ListN.{length}
use Rattle.ground.specs.Limits.{largest_n, tallest, word_range}
use Rattle.ground.proofs.Choice.{by_test}
use Rattle.ground.proofs.Limits.{pages_few}
use Rattle.page.specs.Words.{Keyed, Page}
use Rattle.tree.specs.Rows.{Each, total}
use Rattle.tree.specs.Tree.{Tr, once, occurs, root_least, InRange, Forms}
use Rattle.tree.specs.Facts.{page_count, HeightFacts}
use Rattle.tree.proofs.Rows.{each_span}
use Rattle.tree.proofs.Memory.{once_same, once_other}

-- ---- many pages for its height

-- a sum over two things or more, each of at least a
total_twice : {C : Type 0} (f : C → ℕ) (a : ℕ) (row : List (Keyed C)) → 2 ≤ length row → Each (λ (c : C). a ≤ f c) row → a + a ≤ total f row
total_twice f a [] h e = absurd (omega arith)
total_twice f a (d ∷ []) h e = absurd (omega arith)
total_twice f a (d ∷ (d' ∷ ds)) h e = omega (arith, e.0, e.1.0)

-- "Each page above level 1 has at least two children, so a tree of height h has at least 2^h - 1 pages"
pub pages_many : (k m M l : ℕ) (t : Tr l) (lo hi : ℕ) → 1 ≤ k → (1 ≤ l → 1 ≤ m) → InRange k m M l t lo hi → 2 ^ suc l ≤ page_count l t + 1
pages_many k m M zero t lo hi one root r = omega arith
pages_many k m M (suc l) t lo hi one root r =
    let least : m + 1 ≤ length t.row = r.least in
    let some : 1 ≤ m = root (omega arith) in
    let children = each_span (InRange k k (2 * k) l) (λ (c : Tr l). 2 ^ suc l - 1 ≤ page_count l c) t.row hi
    (λ c a b h s. let ih = pages_many k k (2 * k) l c a b one (λ up. one) s in omega arith) r.children in
    let twice = total_twice (page_count l) (2 ^ suc l - 1) t.row (omega arith) children in
    omega arith

-- ---- no more pages than the pool's

-- the sum of f over the numbers below n
unfoldable pub sum_below : ℕ → (ℕ → ℕ) → ℕ
sum_below zero f = 0
sum_below (suc n) f = sum_below n f + f n

sum_zero : (n : ℕ) → sum_below n (λ q. 0) ≡ 0
unfolding sum_below
sum_zero zero = refl
sum_zero (suc n) = let ih = sum_zero n in omega arith

sum_add : (n : ℕ) (f g : ℕ → ℕ) → sum_below n (λ q. f q + g q) ≡ sum_below n f + sum_below n g
unfolding sum_below
sum_add zero f g = refl
sum_add (suc n) f g = let ih = sum_add n f g in omega arith

sum_most : (n : ℕ) (f : ℕ → ℕ) → ((q : ℕ) → f q ≤ 1) → sum_below n f ≤ n
unfolding sum_below
sum_most zero f h = omega arith
sum_most (suc n) f h = let ih = sum_most n f h in omega (arith, h n)

-- a page number counts once among those below n, where it is one of them
sum_once_not : (n p : ℕ) → n ≤ p → sum_below n (λ q. once q p) ≡ 0
unfolding sum_below
sum_once_not zero p h = refl
sum_once_not (suc n) p h =
    let ih = sum_once_not n p (omega arith) in
    let other = once_other n p (λ e. omega arith) in
    omega arith

sum_once : (n p : ℕ) → p < n → sum_below n (λ q. once q p) ≡ 1
unfolding sum_below
sum_once zero p h = absurd (omega arith)
sum_once (suc n) p h =
    by_test (leb n p)
    (λ t. let last = leb-true n p t in
    let before = sum_once_not n p last in
    let same = once_same n p (omega arith) in
    omega arith)
    (λ t. let under = leb-false n p t in
    let ih = sum_once n p under in
    let other = once_other n p (λ e. omega arith) in
    omega arith)

-- a sum of sums over a row is the row's sum of the sums
sum_total : {C : Type 0} (n : ℕ) (f : ℕ → C → ℕ) (g : C → ℕ) (row : List (Keyed C))
    → Each (λ (c : C). sum_below n (λ q. f q c) ≡ g c) row → sum_below n (λ q. total (f q) row) ≡ total g row
sum_total n f g [] e = sum_zero n
sum_total n f g (d ∷ ds) e =
    let ih = sum_total n f g ds e.1 in
    sum_add n (λ q. f q d.value) (λ q. total (f q) ds) ∙ omega (arith, e.0)

-- what holds of each child's pages, where it holds of all pages of the row
each_within : {C : Type 0} (f : ℕ → C → ℕ) (n : ℕ) (X : C → Type 0) (row : List (Keyed C)) → ((c : C) → ((q : ℕ) → 1 ≤ f q c → q < n) → X c)
    → ((q : ℕ) → 1 ≤ total (f q) row → q < n) → Each X row
each_within f n X [] h w = tt
each_within f n X (d ∷ ds) h w = (h d.value (λ q o. w q (omega arith)), each_within f n X ds h (λ q o. w q (omega arith)))

-- the tree's pages, counted by their numbers
pub sum_occurs : (n l : ℕ) (t : Tr l) → ((q : ℕ) → 1 ≤ occurs q l t → q < n) → sum_below n (λ q. occurs q l t) ≡ page_count l t
sum_occurs n zero t w = let one = once_same t.at t.at refl in sum_once n t.at (w t.at (omega arith))
sum_occurs n (suc l) t w =
    let one = once_same t.at t.at refl in
    let here = sum_once n t.at (w t.at (omega arith)) in
    let below = sum_total n (λ q. occurs q l) (page_count l) t.row
    (each_within (λ q. occurs q l) n (λ (c : Tr l). sum_below n (λ q. occurs q l c) ≡ page_count l c) t.row
    (λ c. sum_occurs n l c) (λ q o. w q (omega arith))) in
    sum_add n (λ q. once q t.at) (λ q. total (occurs q l) t.row) ∙ omega arith

-- a tree whose pages are different and below n has at most n pages
pub pages_in_pool : (n l : ℕ) (t : Tr l) → ((q : ℕ) → occurs q l t ≤ 1) → ((q : ℕ) → 1 ≤ occurs q l t → q < n) → page_count l t ≤ n
pages_in_pool n l t once w =
    let counted = sum_occurs n l t w in
    let most = sum_most n (λ q. occurs q l t) once in
    omega arith

-- ---- the height

root_has_key : (l : ℕ) → 1 ≤ l → 1 ≤ root_least l
root_has_key zero h = absurd (omega arith)
root_has_key (suc l) h = omega arith

pub height_facts : (k n : ℕ) (memory : ℕ → Page) (l : ℕ) (t : Tr l) → 1 ≤ k → n ≤ largest_n → Forms k n memory l t → HeightFacts n l t
height_facts k n memory l t one most forms =
    let many : 2 ^ suc l ≤ page_count l t + 1 = pages_many k (root_least l) (2 * k) l t 0 word_range one (root_has_key l) forms.in_range in
    let room : page_count l t ≤ n = pages_in_pool n l t forms.different forms.within in
    let e : suc l ≡ l + 1 = omega arith in
    record {
      many = subst (λ (h : ℕ). 2 ^ h - 1 ≤ page_count l t) e (omega arith);
      in_pool = room;
      height =
          by_test (leb (l + 1) tallest)
          (λ y. leb-true (l + 1) tallest y)
          (λ n. let over = leb-false (l + 1) tallest n in
          let grows : 2 ^ (tallest + 1) ≤ 2 ^ suc l = pow-le-pow_right (omega arith) (omega arith) in
          absurd (omega (arith, pages_few)));
    }
