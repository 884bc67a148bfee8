-- Sound pages: every page of a tree without the lot of a blank tag passes the rule's test of a page sound by itself.
use Prim.Native.Nat.{ℕ, zero, suc, ◌+◌, ◌*◌, ◌≤◌, ◌<◌}
use mathlib.Core.Bool.{Bool, true, false, ◌&&◌, true≢false}
use mathlib.Core.Path.{◌≡◌, refl, sym, ap, ◌∙◌, subst}
use mathlib.Core.List.{List, [], ◌∷◌, ◌++◌, map}
use native.Mathlib.Omega.{arith}
use borrow.Author.Tests.{leb-true, leb-false, le-leb, lt-ltb}
use lib.Dec.{leb, ltb, eqb}
use lib.ListN.{length}
use Rattle.ground.specs.Limits.{largest_n, tallest, word_range, blank_key}
use Rattle.ground.specs.Tests.{all, distinct}
use Rattle.ground.proofs.Bools.{and_both, or_first_fails, or_second_fails, not_both}
use Rattle.ground.proofs.Choice.{by_test, cond_ind}
use Rattle.ground.proofs.Tests.{all_from_members}
use Rattle.page.specs.Words.{Keyed, Entry, Page, is_leaf, pointers}
use Rattle.page.specs.Place.{has}
use Rattle.page.specs.Sound.{rises, least, sound_by_itself}
use Rattle.page.proofs.PlaceLaws.{has_append}
use Rattle.page.proofs.SoundPage.{SoundPage, sound_test}
use Rattle.pool.specs.Pool.{words_of, page_at}
use Rattle.tree.specs.Rows.{head_key, Span, gathered, total, references, row_page}
use Rattle.tree.specs.Tree.{Tr, page_number, page_of, entries_of, once, occurs, root_least, InRange, Holds, Forms, PoolForms}
use Rattle.tree.proofs.Rows.{middle_has, gathered_append}
use Rattle.tree.proofs.Sorted.{rises_within, within_references}
use Rattle.tree.proofs.Memory.{once_same, once_is, times, member_times, times_distinct, root_occurs, total_middle}
use Rattle.tree.proofs.Pages.{no_leaf, row_page_pointers}
use Rattle.tree.proofs.Search.{each_here}
use Rattle.tree.proofs.Ways.{total_found, row_μ}
use Rattle.tree.proofs.Height.{height_facts}

-- the page numbers of a row of trees
abbrev pub numbers : (l : ℕ) → List (Keyed (Tr l)) → List ℕ
numbers l row = map (λ (d : Keyed (Tr l)). page_number l d.value) row

-- each is a page of its tree
numbers_occur : (q l : ℕ) (row : List (Keyed (Tr l))) → times q (numbers l row) ≤ total (occurs q l) row
numbers_occur q l [] = omega arith
numbers_occur q l (d ∷ ds) = let ih = numbers_occur q l ds in omega (arith, root_occurs q l d.value)

-- what an upper page points to, as page numbers of its children
pub row_pointers : (level l : ℕ) (row : List (Keyed (Tr l))) → 1 ≤ length row → pointers (row_page level (page_number l) row) ≡ numbers l row
row_pointers level l [] h = absurd (omega arith)
row_pointers level l (d ∷ ds) h = row_page_pointers level (page_number l) d ds

-- the reference keys of a page rise
row_rises : (l : ℕ) (P : Tr l → ℕ → ℕ → Type 0) (level : ℕ) (row : List (Keyed (Tr l))) (hi : ℕ) → Span P row hi → rises (row_page level (page_number l) row).entries ≡ true
unfolding rises
row_rises l P level [] hi s = refl
row_rises l P level (d ∷ ds) hi s = rises_within (head_key ds hi) hi (references (page_number l) ds) (within_references P (page_number l) ds hi s.2)

-- a key that no entry of a row of trees has no tree of it has
middle_lacks : (x l : ℕ) (before : List (Keyed (Tr l))) (d : Keyed (Tr l)) (after : List (Keyed (Tr l)))
    → has x (gathered (entries_of l) (before ++ d ∷ after)) ≡ false → has x (entries_of l d.value) ≡ false
middle_lacks x l before d after f =
    let front : List Entry = gathered (entries_of l) before in
    let here : List Entry = entries_of l d.value in
    let back : List Entry = gathered (entries_of l) after in
    or_first_fails (has x here) (has x back)
    (sym (has_append x here back)
    ∙ or_second_fails (has x front) (has x (here ++ back))
    (sym (ap (has x) (gathered_append (entries_of l) before (d ∷ after)) ∙ has_append x front (here ++ back)) ∙ f))

-- What the root page of a tree needs to be sound as page p: enough in it, different pages of the pool, page 0 not below it, and no lot of a
-- blank tag.
pub root_sound : (k n m p l : ℕ) (t : Tr l) (lo hi : ℕ) → InRange k m (2 * k) l t lo hi → least k p (is_leaf (page_of l t)) ≤ m
    → ((q : ℕ) → occurs q l t ≤ 1) → ((q : ℕ) → 1 ≤ occurs q l t → q < n) → occurs 0 l t ≤ once 0 (page_number l t) → l + 1 ≤ tallest
    → has blank_key (entries_of l t) ≡ false → SoundPage k n p (page_of l t)
root_sound k n m p zero t lo hi r enough once within top height unblank =
    record {
      lowest = omega arith;
      highest = height;
      enough = omega (arith, r.least);
      room = r.most;
      rising = rises_within lo hi t.entries (r.low, r.rising);
      no_blank = λ leaf. unblank;
      pointers_apart = λ upper. absurd (true≢false upper);
      pointers_in_pool = λ upper. absurd (true≢false upper);
      leaf_first = λ leaf. refl;
    }
root_sound k n m p (suc l) t lo hi r enough different within top height unblank =
    let least' : m + 1 ≤ length t.row = r.least in
    let many = row_μ (suc (suc l)) (page_number l) t.row (omega arith) in
    let ps = row_pointers (suc (suc l)) l t.row (omega arith) in
    record {
      lowest = omega arith;
      highest = omega arith;
      enough = omega arith;
      room = omega (arith, r.most);
      rising = row_rises l (InRange k k (2 * k) l) (suc (suc l)) t.row hi r.children;
      no_blank = λ leaf. not_both leaf (no_leaf l);
      pointers_apart = λ upper. ap distinct ps
          ∙ times_distinct (numbers l t.row) (λ q. omega (arith, numbers_occur q l t.row, different q));
      pointers_in_pool = λ upper. ap (all (λ (q : ℕ). leb 1 q && ltb q n)) ps
          ∙ all_from_members (λ (q : ℕ). leb 1 q && ltb q n) (numbers l t.row)
          (λ q h.
          let some = member_times q (numbers l t.row) h in
          let counted = numbers_occur q l t.row in
          and_both (le-leb 1 q (from_one q (omega arith))) (lt-ltb q n (within q (omega arith))));
      leaf_first = λ leaf. not_both leaf (no_leaf l);
    }
  where
    from_one : (q : ℕ) → 1 ≤ total (occurs q l) t.row → 1 ≤ q
    from_one zero h = absurd (omega arith)
    from_one (suc q) h = omega arith

-- a page other than page 0 needs k, and page 0 no more
least_most : (k p : ℕ) (leaf : Bool) → 1 ≤ k → least k p leaf ≤ k
least_most k p leaf one =
    cond_ind (λ (m : ℕ). m ≤ k) (eqb p 0)
    (λ t. cond_ind (λ (m : ℕ). m ≤ k) leaf (λ y. omega arith) (λ n. omega arith))
    (λ f. omega arith)

-- what page 0 needs as the root
least_root : (k l : ℕ) (t : Tr l) → least k 0 (is_leaf (page_of l t)) ≤ root_least l
least_root k zero t = omega arith
least_root k (suc l) t = cond_ind (λ (m : ℕ). m ≤ 1) (eqb (suc (suc l)) 1) (λ y. omega arith) (λ n. omega arith)

module _ (k n : ℕ) (memory : ℕ → Page) (one : 1 ≤ k) (q : ℕ) where
  -- each page of a tree is sound, its root page and every page below it
  pub all_sound : (m l : ℕ) (t : Tr l) (lo hi : ℕ) → InRange k m (2 * k) l t lo hi → Holds memory l t
      → least k (page_number l t) (is_leaf (page_of l t)) ≤ m
      → ((q : ℕ) → occurs q l t ≤ 1) → ((q : ℕ) → 1 ≤ occurs q l t → q < n) → occurs 0 l t ≤ once 0 (page_number l t) → l + 1 ≤ tallest
      → has blank_key (entries_of l t) ≡ false → 1 ≤ occurs q l t → SoundPage k n q (memory q)
  all_sound m zero t lo hi r h enough different within top height unblank o =
      subst (λ (p : ℕ). SoundPage k n p (memory p)) (sym (once_is q t.at o))
      (subst (SoundPage k n t.at) (sym h) (root_sound k n m t.at zero t lo hi r enough different within top height unblank))
  all_sound m (suc l) t lo hi r h enough different within top height unblank o =
      by_test (leb 1 (once q t.at))
      (λ y.
      subst (λ (p : ℕ). SoundPage k n p (memory p)) (sym (once_is q t.at (leb-true 1 (once q t.at) y)))
      (subst (SoundPage k n t.at) (sym h.0) (root_sound k n m t.at (suc l) t lo hi r enough different within top height unblank)))
      (λ z.
      let none = leb-false 1 (once q t.at) z in
      let f = total_found (occurs q l) t.row hi (omega arith) in
      let P : Tr l → ℕ → ℕ → Type 0 = InRange k k (2 * k) l in
      let c : Tr l = f.here.value in
      let span : Span P (f.before ++ f.here ∷ f.after) hi = subst (λ (row : List (Keyed (Tr l))). Span P row hi) f.whole r.children in
      let part : (p : ℕ) → occurs p l c ≤ total (occurs p l) t.row
      = λ p. omega (arith, ap (total (occurs p l)) f.whole, total_middle (occurs p l) f.before f.here f.after) in
      all_sound k l c f.here.key (head_key f.after hi)
      (middle_has P f.before f.here f.after hi span)
      (each_here (Holds memory l) f.before f.here f.after t.row f.whole h.1)
      (least_most k (page_number l c) (is_leaf (page_of l c)) one)
      (λ p. omega (arith, part p, different p))
      (λ p s. within p (omega (arith, part p)))
      (omega (arith, part 0))
      (omega arith)
      (middle_lacks blank_key l f.before f.here f.after (ap (λ (row : List (Keyed (Tr l))). has blank_key (gathered (entries_of l) row)) (sym f.whole) ∙ unblank))
      f.has)

-- Every page of a tree that a memory holds is sound by itself, where no lot is that of a blank tag.
pub sound_pages : (k n : ℕ) (memory : ℕ → Page) (l : ℕ) (t : Tr l) → 1 ≤ k → n ≤ largest_n → Forms k n memory l t
    → has blank_key (entries_of l t) ≡ false → (q : ℕ) → 1 ≤ occurs q l t → SoundPage k n q (memory q)
sound_pages k n memory l t one most forms unblank q o =
    let root : once 0 (page_number l t) ≡ 1 = once_same 0 (page_number l t) (sym forms.root) in
    all_sound k n memory one q (root_least l) l t 0 word_range forms.in_range forms.holds
    (subst (λ (p : ℕ). least k p (is_leaf (page_of l t)) ≤ root_least l) (sym forms.root) (least_root k l t))
    forms.different forms.within (omega (arith, forms.different 0)) (height_facts k n memory l t one most forms).height unblank o

-- The words of every page of a pool's tree pass the rule's test.
pub pool_sound : (k n : ℕ) (ws : List ℕ) (l : ℕ) (t : Tr l) → 1 ≤ k → n ≤ largest_n → PoolForms k n ws l t
    → has blank_key (entries_of l t) ≡ false → (q : ℕ) → 1 ≤ occurs q l t → sound_by_itself k n q (words_of k q ws) ≡ true
pool_sound k n ws l t one most pool unblank q o =
    ap (sound_by_itself k n q) (pool.exact q (pool.forms.within q o))
    ∙ sound_test k n q (page_at k ws q) (sound_pages k n (page_at k ws) l t one most pool.forms unblank q o)
