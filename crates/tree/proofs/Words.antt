-- Words: writing a list of pages into a pool's words is changing the memory page by page. So a change that leads from
-- tree to tree leads from a pool's words to a pool's words; the fresh pool is the empty tree; and the free pages of a
-- pool are the pages that are not its tree's.
use Prim.Native.Nat.{ℕ, zero, suc, ◌+◌, ◌≤◌, ◌<◌}
use mathlib.Core.Bool.{Bool, true, false, cond}
use mathlib.Core.Path.{◌≡◌, refl, sym, ap, ◌∙◌, subst}
use mathlib.Core.List.{List, [], ◌∷◌}
use native.Mathlib.Omega.{arith}
use borrow.Author.Tests.{leb-true, leb-false, eqb-true, eqb-false, eq-eqb}
use lib.Dec.{leb, eqb}
use lib.ListN.{length, replicate}
use Rattle.ground.specs.Tests.{member, count_below}
use Rattle.ground.proofs.Bools.{or_first, or_second, not_both, same_if_true_together}
use Rattle.ground.proofs.Choice.{by_test, cond-true, cond-false, cond_ind}
use Rattle.ground.proofs.Tests.{list_below_distinct, length_list_below, count_below_none, count_below_passes, count_below_skips}
use Rattle.page.specs.Words.{Entry, Page, free_page, encode, size}
use Rattle.page.proofs.WordLaws.{length_encode, encode_free}
use Rattle.pool.specs.Pool.{pool_length, words_of, page_at, Write, written, applied, is_free, free_pages, fresh}
use Rattle.pool.proofs.WriteLaws.{FitWrite, AllFit, length_written, length_applied, words_of_written_same, words_of_written_other, page_at_written_same, page_at_written_other}
use Rattle.pool.proofs.StretchLaws.{pool_by_pages}
use Rattle.pool.proofs.FreeLaws.{Free, test_free, free_test, free_pages_free, free_free_pages}
use Rattle.pool.proofs.FreshLaws.{length_fresh, words_of_fresh_root, words_of_fresh_other, page_at_fresh_root, page_at_fresh_other}
use Rattle.tree.specs.Tree.{Tr, page_number, once, occurs, Holds, Forms, PoolForms}
use Rattle.tree.specs.Change.{memory_with, memory_after, written_pages, Fitting, Leads}
use Rattle.tree.specs.Facts.{empty_tree, FreeFacts}
use Rattle.tree.proofs.Memory.{once_same, once_is, holds_same, root_occurs}
use Rattle.tree.proofs.Ways.{total_found, place_facts}
use Rattle.tree.proofs.Search.{each_here}
use Rattle.tree.proofs.Height.{sum_below, sum_occurs}

-- ---- writing pages

-- writes that fit and lie in the pool, one by one
pub fit_writes : (k n : ℕ) (writes : List Write) → Fitting k writes → ((q : ℕ) → member q (written_pages writes) ≡ true → q < n) → AllFit k n writes
unfolding member
fit_writes k n [] fits inside = tt
fit_writes k n (w ∷ rest) fits inside = (
  record { in_pool = inside w.at (or_first (member w.at (written_pages rest)) (eq-eqb w.at w.at refl)); fits = fits.0 },
  fit_writes k n rest fits.1 (λ q m. inside q (or_second (eqb q w.at) m)),
)

-- what a memory has at a page after writes rests on what it had at that page
memory_after_at : (memory memory' : ℕ → Page) (writes : List Write) (q : ℕ) → memory q ≡ memory' q → memory_after memory writes q ≡ memory_after memory' writes q
memory_after_at memory memory' [] q e = e
memory_after_at memory memory' (w ∷ rest) q e =
    memory_after_at (memory_with memory w) (memory_with memory' w) rest q (ap (cond (eqb q w.at) w.value) e)

module _ (k n : ℕ) where
  -- one page written into the words is one page changed in the memory
  written_memory : (w : Write) (ws : List ℕ) → FitWrite k n w → length ws ≡ pool_length k n → (q : ℕ) → page_at k (written k w ws) q ≡ memory_with (page_at k ws) w q
  written_memory w ws fit len q =
      by_test (eqb q w.at)
      (λ t.
      ap (page_at k (written k w ws)) (eqb-true q w.at t)
      ∙ page_at_written_same k n w.at w.value ws fit.in_pool len fit.fits
      ∙ sym (cond-true w.value (page_at k ws q) t))
      (λ f. page_at_written_other k w.at q w.value ws (eqb-false q w.at f) fit.fits ∙ sym (cond-false w.value (page_at k ws q) f))

  -- a list of pages written into the words is the memory changed page by page
  pub applied_memory : (writes : List Write) (ws : List ℕ) → AllFit k n writes → length ws ≡ pool_length k n
      → (q : ℕ) → page_at k (applied k writes ws) q ≡ memory_after (page_at k ws) writes q
  unfolding applied
  applied_memory [] ws fit len q = refl
  applied_memory (w ∷ rest) ws fit len q =
      applied_memory rest (written k w ws) fit.1 (length_written k w ws ∙ len) q
      ∙ memory_after_at (page_at k (written k w ws)) (memory_with (page_at k ws) w) rest q (written_memory w ws fit.0 len q)

  -- each page's words are the words of its value
  abbrev pub Exact : List ℕ → Type 0
  Exact ws = (p : ℕ) → p < n → words_of k p ws ≡ encode k (page_at k ws p)

  -- they still are after a page is written,
  written_exact : (w : Write) (ws : List ℕ) → FitWrite k n w → length ws ≡ pool_length k n → Exact ws → Exact (written k w ws)
  written_exact w ws fit len exact p in_pool =
      let full = length_encode k w.value fit.fits in
      by_test (eqb p w.at)
      (λ t.
      subst (λ (q : ℕ). words_of k q (written k w ws) ≡ encode k (page_at k (written k w ws) q)) (sym (eqb-true p w.at t))
      (words_of_written_same k n w.at w.value ws fit.in_pool len full
      ∙ ap (encode k) (sym (page_at_written_same k n w.at w.value ws fit.in_pool len fit.fits))))
      (λ f.
      words_of_written_other k w.at p w.value ws (eqb-false p w.at f) full
      ∙ exact p in_pool
      ∙ ap (encode k) (sym (page_at_written_other k w.at p w.value ws (eqb-false p w.at f) fit.fits)))

  -- and after a list of pages is
  pub applied_exact : (writes : List Write) (ws : List ℕ) → AllFit k n writes → length ws ≡ pool_length k n → Exact ws → Exact (applied k writes ws)
  unfolding applied
  applied_exact [] ws fit len exact = exact
  applied_exact (w ∷ rest) ws fit len exact =
      applied_exact rest (written k w ws) fit.1 (length_written k w ws ∙ len) (written_exact w ws fit.0 len exact)

  -- memories that agree on the pool's pages form the same tree
  pub forms_same : (memory memory' : ℕ → Page) (l : ℕ) (t : Tr l) → ((q : ℕ) → q < n → memory' q ≡ memory q) → Forms k n memory l t → Forms k n memory' l t
  forms_same memory memory' l t same forms =
      record {
        root = forms.root;
        in_range = forms.in_range;
        holds = holds_same memory memory' l t (λ q o. same q (forms.within q o)) forms.holds;
        different = forms.different;
        within = forms.within;
        others = λ q in_pool o. same q in_pool ∙ forms.others q in_pool o;
      }

  -- A change that leads from tree to tree leads from a pool's words to a pool's words.
  pub pool_leads : (ws : List ℕ) (l : ℕ) (t : Tr l) (writes : List Write) (es : List Entry) → PoolForms k n ws l t
      → (leads : Leads k n (page_at k ws) l t writes es) → PoolForms k n (applied k writes ws) leads.height leads.tree
  pool_leads ws l t writes es pool leads =
      let fit = fit_writes k n writes leads.fitting leads.inside in
      record {
        whole = length_applied k writes ws ∙ pool.whole;
        exact = applied_exact writes ws fit pool.whole pool.exact;
        forms = forms_same (memory_after (page_at k ws) writes) (page_at k (applied k writes ws)) leads.height leads.tree
            (λ q in_pool. applied_memory writes ws fit pool.whole q) leads.forms;
      }

-- ---- one tree, one pool

-- two memories that hold one tree agree on its pages
pub holds_agree : (memory memory' : ℕ → Page) (l : ℕ) (t : Tr l) (q : ℕ) → Holds memory l t → Holds memory' l t → 1 ≤ occurs q l t → memory q ≡ memory' q
holds_agree memory memory' zero t q h h' o =
    subst (λ (p : ℕ). memory p ≡ memory' p) (sym (once_is q t.at o)) (h ∙ sym h')
holds_agree memory memory' (suc l) t q h h' o =
    by_test (leb 1 (once q t.at))
    (λ y. subst (λ (p : ℕ). memory p ≡ memory' p) (sym (once_is q t.at (leb-true 1 (once q t.at) y))) (h.0 ∙ sym h'.0))
    (λ z.
    let none = leb-false 1 (once q t.at) z in
    let f = total_found (occurs q l) t.row 0 (omega arith) in
    holds_agree memory memory' l f.here.value q
    (each_here (Holds memory l) f.before f.here f.after t.row f.whole h.1)
    (each_here (Holds memory' l) f.before f.here f.after t.row f.whole h'.1)
    f.has)

-- Two pools of one tree have the same words.
pub pool_words : (k n : ℕ) (ws ws' : List ℕ) (l : ℕ) (t : Tr l) → PoolForms k n ws l t → PoolForms k n ws' l t → ws ≡ ws'
pool_words k n ws ws' l t pool pool' =
    pool_by_pages k n ws ws' pool.whole pool'.whole
    (λ p in_pool. pool.exact p in_pool ∙ ap (encode k) (same p in_pool) ∙ sym (pool'.exact p in_pool))
  where
    same : (p : ℕ) → p < n → page_at k ws p ≡ page_at k ws' p
    same p in_pool =
        by_test (leb 1 (occurs p l t))
        (λ y. holds_agree (page_at k ws) (page_at k ws') l t p pool.forms.holds pool'.forms.holds (leb-true 1 (occurs p l t) y))
        (λ z.
        let few = leb-false 1 (occurs p l t) z in
        let none : occurs p l t ≡ 0 = omega arith in
        pool.forms.others p in_pool none ∙ sym (pool'.forms.others p in_pool none))

-- ---- the fresh pool

-- "Making a fresh pool writes every word: all zero but page 0's level, 1." It is the empty tree.
pub fresh_forms : (k n : ℕ) → 1 ≤ n → PoolForms k n (fresh k n) 0 empty_tree
fresh_forms k n some =
    record {
      whole = length_fresh k n;
      exact = fresh_exact;
      forms = record {
        root = refl;
        in_range = record { least = omega arith; most = omega arith; low = omega arith; rising = tt };
        holds = page_at_fresh_root k n some;
        different = λ q. cond_ind (λ (m : ℕ). m ≤ 1) (eqb q 0) (λ t. omega arith) (λ f. omega arith);
        within = λ q o. let e = once_is q 0 o in omega arith;
        others = fresh_others;
      };
    }
  where
    fresh_exact : (p : ℕ) → p < n → words_of k p (fresh k n) ≡ encode k (page_at k (fresh k n) p)
    fresh_exact zero h = words_of_fresh_root k n some ∙ ap (encode k) (sym (page_at_fresh_root k n some))
    fresh_exact (suc p) h =
        words_of_fresh_other k n (suc p) (omega arith) h
        ∙ sym (encode_free k)
        ∙ ap (encode k) (sym (page_at_fresh_other k n (suc p) (omega arith) h))

    fresh_others : (q : ℕ) → q < n → once q 0 ≡ 0 → page_at k (fresh k n) q ≡ free_page
    fresh_others zero h o = absurd (omega arith)
    fresh_others (suc q) h o = page_at_fresh_other k n (suc q) (omega arith) h

-- ---- free pages

-- as many numbers below n pass a test as the sum of what is 0 for these and 1 for the others leaves of n
count_rest : (n : ℕ) (p : ℕ → Bool) (f : ℕ → ℕ) → ((q : ℕ) → q < n → p q ≡ true → f q ≡ 0) → ((q : ℕ) → q < n → p q ≡ false → f q ≡ 1)
    → count_below n p + sum_below n f ≡ n
unfolding sum_below
count_rest zero p f yes' no' = ap (λ (m : ℕ). m + 0) (count_below_none p)
count_rest (suc n) p f yes' no' =
    let ih = count_rest n p f (λ q h. yes' q (omega arith)) (λ q h. no' q (omega arith)) in
    by_test (p n)
    (λ t. omega (arith, count_below_passes p n t, yes' n (omega arith) t))
    (λ t. omega (arith, count_below_skips p n t, no' n (omega arith) t))

module _ (k n : ℕ) (ws : List ℕ) (l : ℕ) (t : Tr l) (pool : PoolForms k n ws l t) where
  -- a page of level 0 is none of the tree's
  level_outside : (q : ℕ) → (page_at k ws q).level ≡ 0 → occurs q l t ≡ 0
  level_outside q zero_level =
      by_test (leb 1 (occurs q l t))
      (λ y.
      let facts = place_facts k n (page_at k ws) l t pool.forms in
      let p = facts.placed q (leb-true 1 (occurs q l t) y) in
      let inside = facts.inside q p.level p.from p.to p.stands in
      let level = facts.level q p.level p.from p.to p.stands in
      absurd (omega arith))
      (λ z. let none = leb-false 1 (occurs q l t) z in omega arith)

  -- a page below n that is none of the tree's is free
  outside_free : (q : ℕ) → q < n → occurs q l t ≡ 0 → Free k n ws q
  outside_free q in_pool none =
      let root : once 0 (page_number l t) ≡ 1 = once_same 0 (page_number l t) (sym pool.forms.root) in
      record {
        in_pool = in_pool;
        not_root = λ e. let zero-none : occurs 0 l t ≡ 0 = subst (λ (p : ℕ). occurs p l t ≡ 0) e none in
            absurd (omega (arith, root_occurs 0 l t));
        level = ap (λ (Q : Page). Q.level) (pool.forms.others q in_pool none);
      }

  -- and all its words are 0
  pub outside_words : (q : ℕ) → q < n → occurs q l t ≡ 0 → words_of k q ws ≡ replicate (size k) 0
  outside_words q in_pool none = pool.exact q in_pool ∙ ap (encode k) (pool.forms.others q in_pool none) ∙ encode_free k

  pub free_facts : FreeFacts k n ws l t
  unfolding free_pages
  free_facts =
      record {
        test = λ q in_pool. same_if_true_together (is_free k ws q) (eqb (occurs q l t) 0)
            (λ t₁. eq-eqb (occurs q l t) 0 (level_outside q (test_free k n ws q in_pool t₁).level))
            (λ e₁. free_test k n ws q (outside_free q in_pool (eqb-true (occurs q l t) 0 e₁)));
        free = record {
          different = list_below_distinct (is_free k ws) n;
          within = λ q m. (free_pages_free k n ws q m).in_pool;
          outside = λ q m. level_outside q (free_pages_free k n ws q m).level;
        };
        every = λ q in_pool none. free_free_pages k n ws q (outside_free q in_pool none);
        count =
            let counted = sum_occurs n l t pool.forms.within in
            let rest = count_rest n (is_free k ws) (λ q. occurs q l t)
            (λ q in_pool t₁. level_outside q (test_free k n ws q in_pool t₁).level)
            (λ q in_pool f₁. occurs_once q in_pool f₁) in
            omega (arith, length_list_below (is_free k ws) n);
      }
    where
      occurs_once : (q : ℕ) → q < n → is_free k ws q ≡ false → occurs q l t ≡ 1
      occurs_once q in_pool f =
          by_test (leb 1 (occurs q l t))
          (λ y. let some = leb-true 1 (occurs q l t) y in omega (arith, pool.forms.different q))
          (λ z. let none = leb-false 1 (occurs q l t) z in not_both (free_test k n ws q (outside_free q in_pool (omega arith))) f)
