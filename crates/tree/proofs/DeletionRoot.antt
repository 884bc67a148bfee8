-- A deletion at the root: page 0 stays as it is, is written, or takes in its one child. Then the pages form a tree again.
use Prim.Native.Nat.{ℕ, zero, suc, ◌+◌, ◌*◌, ◌≤◌, ◌<◌}
use native.Mathlib.Omega.{arith}
use mathlib.Core.Bool.{true, false, ◌&&◌}
use mathlib.Core.List.{List, [], ◌∷◌, ◌++◌, append-nil}
use mathlib.Core.Logic.{◌≢◌, inl, inr, ⊎_elim}
use mathlib.Core.Path.{◌≡◌, refl, sym, ap, ap₂, ◌∙◌, subst}
use borrow.Author.Tests.{leb-true, leb-false, eqb-true, eqb-false, eq-eqb}
use lib.Dec.{leb, eqb}
use lib.ListN.{length, length-append}
use Rattle.ground.specs.Limits.{word_range}
use Rattle.ground.proofs.Bools.{and_second, and_fails, not_both}
use Rattle.ground.proofs.Choice.{by_test, cond-true}
use Rattle.page.specs.Words.{Keyed, Page, μ, free_page}
use Rattle.page.specs.Place.{without}
use Rattle.page.proofs.WordLaws.{free_fits}
use Rattle.pool.specs.Pool.{Write, write}
use Rattle.change.specs.Deletion.{shrunk}
use Rattle.change.proofs.RuleLaws.{shrunk_top}
use Rattle.tree.specs.Rows.{head_key}
use Rattle.tree.specs.Tree.{Tr, page_number, page_of, entries_of, once, occurs, InRange, root_least, Holds, Stands, Forms}
use Rattle.tree.specs.Change.{memory_after, written_pages, Fitting, Leads}
use Rattle.tree.proofs.Memory.{once_same, once_is, times_distinct, times_written, absent_times, member_times, unwritten, Stores, stores_left, stores_right, written_stores, fitting_append}
use Rattle.tree.proofs.Mend.{Things, things_of, tree_at, page_in, tier, Run, entries_in, occurs_in, HoldsIn, StandsIn, things_back, number_back, page_back, entries_things, occurs_things, holds_things, stands_things, stands_top, stands_below, run_range, things_μ, things_fit}
use Rattle.tree.proofs.MendPatch.{hits, Elsewhere, Patch, opened, opened_occurs, opened_entries, opened_cases}
use Rattle.tree.proofs.DeletionStep.{Reached, Joined, Step, stays, evens, joins}
use Rattle.tree.proofs.DeletionTree.{joined_on}

root_least_most : (l : ℕ) → root_least l ≤ 1
root_least_most zero = omega arith
root_least_most (suc l) = omega arith

-- The tree t replaced by `new`, with the writes W, so that the key x is gone.
record Replaced (k : ℕ) (memory : ℕ → Page) (x l : ℕ) (t : Tr l) (height : ℕ) (new : Tr height) (W : List Write) : Type 0 where
  root : page_number height new ≡ 0
  in_range : InRange k (root_least height) (2 * k) height new 0 word_range
  entries : entries_of height new ≡ without x (entries_of l t)
  fewer : (q : ℕ) → occurs q height new ≤ occurs q l t
  gone : (M : ℕ → Page) → Stores M W → (q : ℕ) → 1 ≤ occurs q l t → occurs q height new ≡ 0 → M q ≡ free_page
  holds : (M : ℕ → Page) → Stores M W → Elsewhere memory M (λ q. occurs q l t) W → Holds M height new
  writes : (q : ℕ) → hits q W ≤ occurs q l t
  fitting : Fitting k W
  keeps : (q level a b : ℕ) → hits q W ≡ 0 → Stands l t 0 word_range q level a b → Stands height new 0 word_range q level a b

-- A replaced tree is what the memory forms after the writes.
module _ (k n : ℕ) (memory : ℕ → Page) (x l : ℕ) (t : Tr l) (forms : Forms k n memory l t)
    (height : ℕ) (new : Tr height) (W : List Write) (r : Replaced k memory x l t height new W) where
  once_written : (q : ℕ) → hits q W ≤ 1
  once_written q = omega (arith, r.writes q, forms.different q)

  stored : Stores (memory_after memory W) W
  stored = written_stores memory W once_written

  others : (q : ℕ) → q < n → occurs q height new ≡ 0 → memory_after memory W q ≡ free_page
  others q h none =
      by_test (leb 1 (occurs q l t))
      (λ u. r.gone (memory_after memory W) stored q (leb-true 1 (occurs q l t) u) none)
      (λ u.
      let never = leb-false 1 (occurs q l t) u in
      unwritten memory W q (omega (arith, r.writes q)) ∙ forms.others q h (omega arith))

  leads : Leads k n memory l t W (without x (entries_of l t))
  leads =
      record {
        height = height;
        tree = new;
        forms =
            record {
              root = r.root;
              in_range = r.in_range;
              holds = r.holds (memory_after memory W) stored (λ q o u. unwritten memory W q u);
              different = λ q. omega (arith, r.fewer q, forms.different q);
              within = λ q o. forms.within q (omega (arith, r.fewer q));
              others = others;
            };
        entries = r.entries;
        different = times_distinct (written_pages W) once_written;
        inside = λ q m. let o = member_times q (written_pages W) m in forms.within q (omega (arith, r.writes q));
        fitting = r.fitting;
        keeps = λ q level a b m s. r.keeps q level a b (absent_times q (written_pages W) m) s;
      }

-- Page 0 keeps its number; what it holds is patched; U is what is written of page 0 itself.
module _ (k : ℕ) (memory : ℕ → Page) (x l : ℕ) (t : Tr l) (root : page_number l t ≡ 0) (different : (q : ℕ) → occurs q l t ≤ 1)
    (new : Things l) (W U : List Write) (least : root_least l + tier l ≤ length new) (most : length new ≤ 2 * k + tier l)
    (p : Patch k memory x l (things_of l t) new 0 word_range W)
    (writesTop : (q : ℕ) → hits q U ≤ once q 0)
    (holdsTop : (M : ℕ → Page) → Stores M U → (hits 0 U ≡ 0 → M 0 ≡ memory 0) → M 0 ≡ page_in l new) (fits : Fitting k U) where
  before : (q : ℕ) → occurs q l t ≡ once q 0 + occurs_in q l (things_of l t)
  before q = occurs_things q l t ∙ ap (λ (a : ℕ). once q a + occurs_in q l (things_of l t)) root

  after : (q : ℕ) → occurs q l (tree_at l 0 new) ≡ once q 0 + occurs_in q l new
  after q =
      occurs_things q l (tree_at l 0 new)
      ∙ ap (λ (a : ℕ). once q a + occurs_in q l (things_of l (tree_at l 0 new))) (number_back l 0 new)
      ∙ ap (λ (ts : Things l). once q 0 + occurs_in q l ts) (things_back l 0 new)

  replaced_gone : (M : ℕ → Page) → Stores M (W ++ U) → (q : ℕ) → 1 ≤ occurs q l t → occurs q l (tree_at l 0 new) ≡ 0 → M q ≡ free_page
  replaced_gone M s q o none = p.gone M (stores_left M W U s) q (omega (arith, before q, after q)) (omega (arith, after q))

  replaced_holds : (M : ℕ → Page) → Stores M (W ++ U) → Elsewhere memory M (λ q. occurs q l t) (W ++ U) → Holds M l (tree_at l 0 new)
  replaced_holds M s same =
      let one = once_same 0 0 refl in
      let top : M 0 ≡ page_in l new
      = holdsTop M (stores_right M W U s)
      (λ u. same 0 (omega (arith, before 0)) (omega (arith, times_written 0 W U, p.writes 0, before 0, different 0))) in
      holds_things M l (tree_at l 0 new) (ap M (number_back l 0 new) ∙ top ∙ sym (page_back l 0 new))
      (subst (λ (ts : Things l). HoldsIn M l ts) (sym (things_back l 0 new))
      (p.holds M (stores_left M W U s)
      (λ q o u. same q (omega (arith, before q)) (omega (arith, times_written q W U, writesTop q, before q, different q)))))

  replaced_keeps : (q level a b : ℕ) → hits q (W ++ U) ≡ 0 → Stands l t 0 word_range q level a b → Stands l (tree_at l 0 new) 0 word_range q level a b
  replaced_keeps q level a b u s =
      ⊎_elim
      (λ h. stands_top l (tree_at l 0 new) 0 word_range q level a b (number_back l 0 new ∙ sym root ∙ h.0, h.1, h.2, h.3))
      (λ h.
      stands_below l (tree_at l 0 new) 0 word_range q level a b
      (subst (λ (ts : Things l). StandsIn l ts word_range q level a b) (sym (things_back l 0 new))
      (p.keeps q level a b (omega (arith, times_written q W U)) h)))
      (stands_things l t 0 word_range q level a b s)

  replaced : Replaced k memory x l t l (tree_at l 0 new) (W ++ U)
  replaced =
      record {
        root = number_back l 0 new;
        in_range = run_range k (root_least l) (2 * k) l 0 new 0 word_range p.runs least most;
        entries =
            entries_things l (tree_at l 0 new) ∙ ap (entries_in l) (things_back l 0 new) ∙ p.entries ∙ ap (without x) (sym (entries_things l t));
        fewer = λ q. omega (arith, before q, after q, p.fewer q);
        gone = replaced_gone;
        holds = replaced_holds;
        writes = λ q. omega (arith, times_written q W U, before q, p.writes q, writesTop q);
        fitting = fitting_append k W U p.fitting fits;
        keeps = replaced_keeps;
      }

module _ (k : ℕ) (memory : ℕ → Page) (x l : ℕ) (t : Tr l) (root : page_number l t ≡ 0) (different : (q : ℕ) → occurs q l t ≤ 1)
    (new : Things l) (W : List Write) (least : root_least l + tier l ≤ length new) (most : length new ≤ 2 * k + tier l)
    (p : Patch k memory x l (things_of l t) new 0 word_range W) where
  -- page 0 is written
  root_written : Replaced k memory x l t l (tree_at l 0 new) (W ++ write 0 (page_in l new) ∷ [])
  root_written =
      replaced k memory x l t root different new W (write 0 (page_in l new) ∷ []) least most p
      (λ q. omega arith)
      (λ M s same. s.0)
      (things_fit k l new (omega arith) most, tt)

  -- page 0 stays as it is
  root_kept : page_in l new ≡ page_of l t → memory 0 ≡ page_of l t → Replaced k memory x l t l (tree_at l 0 new) W
  root_kept page held =
      subst (λ (U : List Write). Replaced k memory x l t l (tree_at l 0 new) U) (append-nil W)
      (replaced k memory x l t root different new W [] least most p
      (λ q. omega arith)
      (λ M s same. same refl ∙ held ∙ sym page)
      tt)

-- "If page 0 is left with no reference key, its one child's words move into page 0 and that child is freed."
module _ (k : ℕ) (memory : ℕ → Page) (x l : ℕ) (one : 1 ≤ k) (a b : Keyed (Tr l))
    (different : (q : ℕ) → occurs q (suc l) (tree_at (suc l) 0 (a ∷ b ∷ [])) ≤ 1)
    (range : InRange k 1 (2 * k) (suc l) (tree_at (suc l) 0 (a ∷ b ∷ [])) 0 word_range)
    (ws : Things l) (W : List Write) (least : k + tier l ≤ length ws) (most : length ws ≤ 2 * k + tier l)
    (p : Patch k memory x l (opened l (a ∷ b ∷ [])) ws a.key word_range W) where
  frees : List Write
  frees = write 0 (page_in l ws) ∷ write (page_number l a.value) free_page ∷ write (page_number l b.value) free_page ∷ []

  frees_hits : (q : ℕ) → hits q frees ≡ once q 0 + (once q (page_number l a.value) + (once q (page_number l b.value) + 0))
  unfolding frees
  frees_hits q = refl

  collapsed_before : (q : ℕ) → occurs q (suc l) (tree_at (suc l) 0 (a ∷ b ∷ []))
      ≡ once q 0 + (once q (page_number l a.value) + (once q (page_number l b.value) + 0) + occurs_in q l (opened l (a ∷ b ∷ [])))
  collapsed_before q = ap (λ (n : ℕ). once q 0 + n) (opened_occurs q l (a ∷ b ∷ []))

  collapsed_after : (q : ℕ) → occurs q l (tree_at l 0 ws) ≡ once q 0 + occurs_in q l ws
  collapsed_after q =
      occurs_things q l (tree_at l 0 ws)
      ∙ ap (λ (n : ℕ). once q n + occurs_in q l (things_of l (tree_at l 0 ws))) (number_back l 0 ws)
      ∙ ap (λ (ts : Things l). once q 0 + occurs_in q l ts) (things_back l 0 ws)

  collapsed_gone : (M : ℕ → Page) → Stores M (W ++ frees) → (q : ℕ) → 1 ≤ occurs q (suc l) (tree_at (suc l) 0 (a ∷ b ∷ []))
      → occurs q l (tree_at l 0 ws) ≡ 0 → M q ≡ free_page
  unfolding frees
  collapsed_gone M s q o none =
      by_test (leb 1 (once q (page_number l a.value)))
      (λ u. ap M (once_is q (page_number l a.value) (leb-true 1 (once q (page_number l a.value)) u)) ∙ (stores_right M W frees s).1.0)
      (λ u.
      let notA = leb-false 1 (once q (page_number l a.value)) u in
      by_test (leb 1 (once q (page_number l b.value)))
      (λ v. ap M (once_is q (page_number l b.value) (leb-true 1 (once q (page_number l b.value)) v)) ∙ (stores_right M W frees s).1.1.0)
      (λ v.
      let notB = leb-false 1 (once q (page_number l b.value)) v in
      p.gone M (stores_left M W frees s) q (omega (arith, collapsed_before q, collapsed_after q)) (omega (arith, collapsed_after q))))

  collapsed_holds : (M : ℕ → Page) → Stores M (W ++ frees)
      → ((q : ℕ) → 1 ≤ occurs q (suc l) (tree_at (suc l) 0 (a ∷ b ∷ [])) → hits q (W ++ frees) ≡ 0 → M q ≡ memory q) → Holds M l (tree_at l 0 ws)
  unfolding frees
  collapsed_holds M s same =
      holds_things M l (tree_at l 0 ws) (ap M (number_back l 0 ws) ∙ (stores_right M W frees s).0 ∙ sym (page_back l 0 ws))
      (subst (λ (ts : Things l). HoldsIn M l ts) (sym (things_back l 0 ws))
      (p.holds M (stores_left M W frees s)
      (λ q o u. same q (omega (arith, collapsed_before q)) (omega (arith, times_written q W frees, frees_hits q, collapsed_before q, different q)))))

  collapsed_keeps : (q level c d : ℕ) → hits q (W ++ frees) ≡ 0 → Stands (suc l) (tree_at (suc l) 0 (a ∷ b ∷ [])) 0 word_range q level c d
      → Stands l (tree_at l 0 ws) 0 word_range q level c d
  collapsed_keeps q level c d u (inl h) =
      let is = once_same q 0 (sym h.0) in
      absurd (omega (arith, times_written q W frees, frees_hits q))
  collapsed_keeps q level c d u (inr h) =
      ⊎_elim
      (⊎_elim
      (λ g.
      let is = once_same q (page_number l a.value) (sym g.0) in
      absurd (omega (arith, times_written q W frees, frees_hits q)))
      (⊎_elim
      (λ g.
      let is = once_same q (page_number l b.value) (sym g.0) in
      absurd (omega (arith, times_written q W frees, frees_hits q)))
      (λ g. absurd g)))
      (λ g.
      stands_below l (tree_at l 0 ws) 0 word_range q level c d
      (subst (λ (ts : Things l). StandsIn l ts word_range q level c d) (sym (things_back l 0 ws))
      (p.keeps q level c d (omega (arith, times_written q W frees)) g)))
      (opened_cases k l (a ∷ b ∷ []) word_range q level c d range.children h)

  root_collapsed : Replaced k memory x (suc l) (tree_at (suc l) 0 (a ∷ b ∷ [])) l (tree_at l 0 ws)
      (W ++ write 0 (page_in l ws) ∷ write (page_number l a.value) free_page ∷ write (page_number l b.value) free_page ∷ [])
  unfolding frees
  root_collapsed =
      record {
        root = number_back l 0 ws;
        in_range =
            run_range k (root_least l) (2 * k) l 0 ws 0 word_range (subst (λ (n : ℕ). Run k l ws n word_range) range.low p.runs)
            (omega (arith, root_least_most l)) most;
        entries =
            entries_things l (tree_at l 0 ws)
            ∙ ap (entries_in l) (things_back l 0 ws)
            ∙ p.entries
            ∙ ap (without x) (sym (opened_entries l (a ∷ b ∷ [])));
        fewer = λ q. omega (arith, collapsed_before q, collapsed_after q, p.fewer q);
        gone = collapsed_gone;
        holds = collapsed_holds;
        writes = λ q. omega (arith, times_written q W frees, frees_hits q, collapsed_before q, p.writes q);
        fitting = fitting_append k W frees p.fitting (things_fit k l ws (omega arith) most, (free_fits k, (free_fits k, tt)));
        keeps = collapsed_keeps;
      }

-- a row of two has nothing beside the two
two_only : {C : Type 0} (xs : List C) (a b : C) (ys : List C) → length (xs ++ a ∷ b ∷ ys) ≡ 2 → (xs ≡ []) × (ys ≡ [])
two_only [] a b [] h = (refl, refl)
two_only [] a b (y ∷ ys) h = absurd (omega arith)
two_only (z ∷ xs) a b ys h = absurd (omega (arith, length-append xs (a ∷ b ∷ ys)))

module _ (k n : ℕ) (memory : ℕ → Page) (x : ℕ) (one : 1 ≤ k) where
  -- the root is a leaf: it is written
  pub leaf_leads : (t : Tr zero) → Forms k n memory zero t → (W : List Write) → Reached k memory x zero t 0 word_range [] W
      → Leads k n memory zero t W (without x (entries_of zero t))
  leaf_leads t forms W h =
      let most = forms.in_range.most in
      let shorter = h.shorter in
      subst (λ (U : List Write). Leads k n memory zero t U (without x (entries_of zero t)))
      (ap (λ (m : ℕ). h.below ++ write m (page_in zero h.new) ∷ []) (sym forms.root)
      ∙ ap (λ (U : List Write). h.below ++ U) (sym (shrunk_top k memory x h.rest t.at (page_in zero h.new)))
      ∙ sym h.rule)
      (leads k n memory x zero t forms zero (tree_at zero 0 h.new) (h.below ++ write 0 (page_in zero h.new) ∷ [])
      (root_written k memory x zero t forms.root forms.different h.new h.below (omega arith) (omega arith) h.patch))

  module _ (l : ℕ) (t : Tr (suc l)) (forms : Forms k n memory (suc l) t) (W : List Write) where
    -- two children of page 0 joined, and it has no reference key left: its row was these two
    collapse_leads : (h : Joined k memory x l t.at [] t.row 0 word_range W)
        → eqb t.at 0 && eqb (μ (page_in (suc l) h.new)) 0 ≡ true → Leads k n memory (suc l) t W (without x (entries_of (suc l) t))
    collapse_leads h test =
        let a = h.left in
        let b = h.right in
        let m = page_number l a.value in
        let m' = page_number l b.value in
        let less : Page = page_in (suc l) h.new in
        let none : μ less ≡ 0 = eqb-true (μ less) 0 (and_second (eqb t.at 0) (eqb (μ less) 0) test) in
        let least = forms.in_range.least in
        let shorter = h.shorter in
        let count = things_μ (suc l) h.new (omega arith) in
        let only = two_only h.before a b h.after (sym (ap length h.whole) ∙ omega arith) in
        let two : t.row ≡ a ∷ b ∷ [] = h.whole ∙ ap₂ (λ (xs ys : List (Keyed (Tr l))). xs ++ a ∷ b ∷ ys) only.0 only.1 in
        let tree : t ≡ tree_at (suc l) 0 (a ∷ b ∷ []) = λ i. tree_at (suc l) (forms.root i) (two i) in
        let final : ℕ → List Write = λ p. write p (page_in l h.things) ∷ write m free_page ∷ write m' free_page ∷ [] in
        let on : List Write = write m (page_in l h.things) ∷ write m' free_page ∷ shrunk k memory x [] h.rest t.at less in
        let is : h.below ++ final 0 ≡ W
        = ap (λ (p : ℕ). h.below ++ final p) (sym forms.root)
        ∙ ap (λ (U : List Write). h.below ++ U) (sym (cond-true (final t.at) on test))
        ∙ sym h.rule in
        let patch : Patch k memory x l (opened l (a ∷ b ∷ [])) h.things a.key word_range h.below
        = subst (λ (ys : List (Keyed (Tr l))). Patch k memory x l (opened l (a ∷ b ∷ [])) h.things a.key (head_key ys word_range) h.below)
        only.1 h.inner in
        subst (λ (U : List Write). Leads k n memory (suc l) t U (without x (entries_of (suc l) t))) is
        (leads k n memory x (suc l) t forms l (tree_at l 0 h.things) (h.below ++ final 0)
        (subst (λ (s : Tr (suc l)). Replaced k memory x (suc l) s l (tree_at l 0 h.things) (h.below ++ final 0)) (sym tree)
        (root_collapsed k memory x l one a b
        (subst (λ (s : Tr (suc l)). (q : ℕ) → occurs q (suc l) s ≤ 1) tree forms.different)
        (subst (λ (s : Tr (suc l)). InRange k 1 (2 * k) (suc l) s 0 word_range) tree forms.in_range)
        h.things h.below h.least h.most patch)))

    -- two children of page 0 joined, and it has a reference key left: it is written
    shorter_leads : (h : Joined k memory x l t.at [] t.row 0 word_range W)
        → eqb t.at 0 && eqb (μ (page_in (suc l) h.new)) 0 ≡ false → Leads k n memory (suc l) t W (without x (entries_of (suc l) t))
    shorter_leads h test =
        let below : List Write
        = h.below ++ write (page_number l h.left.value) (page_in l h.things) ∷ write (page_number l h.right.value) free_page ∷ [] in
        let some : μ (page_in (suc l) h.new) ≢ 0
        = ⊎_elim
        (λ u. not_both (eq-eqb t.at 0 forms.root) u)
        (λ u. eqb-false (μ (page_in (suc l) h.new)) 0 u)
        (and_fails (eqb t.at 0) (eqb (μ (page_in (suc l) h.new)) 0) test) in
        let least = forms.in_range.least in
        let most = forms.in_range.most in
        let shorter = h.shorter in
        let count = things_μ (suc l) h.new (omega arith) in
        subst (λ (U : List Write). Leads k n memory (suc l) t U (without x (entries_of (suc l) t)))
        (ap (λ (p : ℕ). below ++ write p (page_in (suc l) h.new) ∷ []) (sym forms.root)
        ∙ ap (λ (U : List Write). below ++ U) (sym (shrunk_top k memory x h.rest t.at (page_in (suc l) h.new)))
        ∙ sym (joined_on k memory x l t.at [] t.row 0 word_range W h test))
        (leads k n memory x (suc l) t forms (suc l) (tree_at (suc l) 0 h.new) (below ++ write 0 (page_in (suc l) h.new) ∷ [])
        (root_written k memory x (suc l) t forms.root forms.different h.new below (omega arith) (omega arith) h.patch))

    -- what becomes of page 0, from what became of its children
    pub root_leads : Step k memory x l t.at [] t.row 0 word_range W → Leads k n memory (suc l) t W (without x (entries_of (suc l) t))
    root_leads (stays h) =
        let least = forms.in_range.least in
        let most = forms.in_range.most in
        let size = h.size in
        leads k n memory x (suc l) t forms (suc l) (tree_at (suc l) 0 h.new) W
        (root_kept k memory x (suc l) t forms.root forms.different h.new W (omega arith) (omega arith) h.patch h.same
        (ap memory (sym forms.root) ∙ forms.holds.0))
    root_leads (evens h) =
        let least = forms.in_range.least in
        let most = forms.in_range.most in
        let size = h.size in
        subst (λ (U : List Write). Leads k n memory (suc l) t U (without x (entries_of (suc l) t)))
        (ap (λ (m : ℕ). h.below ++ write m (page_in (suc l) h.new) ∷ []) (sym forms.root) ∙ sym h.rule)
        (leads k n memory x (suc l) t forms (suc l) (tree_at (suc l) 0 h.new) (h.below ++ write 0 (page_in (suc l) h.new) ∷ [])
        (root_written k memory x (suc l) t forms.root forms.different h.new h.below (omega arith) (omega arith) h.patch))
    root_leads (joins h) =
        by_test (eqb t.at 0 && eqb (μ (page_in (suc l) h.new)) 0)
        (λ test. collapse_leads h test)
        (λ test. shorter_leads h test)
