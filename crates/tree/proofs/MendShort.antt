-- A page whose things are patched: written or left as it is; and two neighbours whose things are patched as one row:
-- joined in the left page, or evened out. Evening out is a join cut at another place.
use Prim.Native.Nat.{ℕ, zero, suc, ◌+◌, ◌*◌, ◌≤◌, ◌<◌}
use native.Mathlib.Omega.{arith}
use mathlib.Core.List.{List, [], ◌∷◌, ◌++◌, append-nil}
use mathlib.Core.Path.{◌≡◌, refl, sym, ap₂, ◌∙◌, subst, subst₂}
use lib.ListN.{length}
use Rattle.page.specs.Words.{Keyed, Page, free_page, keyed}
use Rattle.pool.specs.Pool.{Write, write}
use Rattle.tree.specs.Rows.{head_key, Span}
use Rattle.tree.specs.Tree.{Tr, page_number, page_of, once, occurs, ChildIn}
use Rattle.tree.specs.Change.{Fitting}
use Rattle.tree.proofs.Rows.{head_key_most}
use Rattle.tree.proofs.Sorted.{Anything}
use Rattle.tree.proofs.Memory.{Stores}
use Rattle.tree.proofs.Mend.{Things, things_of, tree_at, page_in, tier, Run, occurs_in, things_back, number_back, page_back, run_range, run_left, run_right, things_μ}
use Rattle.tree.proofs.MendPatch.{hits, Patch, opened, closed, top_kept, top_written, tops_moved, tops_joined}

-- the range of a run that is not empty is not empty
run_rises : (k l : ℕ) (ts : Things l) (lo hi : ℕ) → Run k l ts lo hi → 0 < length ts → lo < hi
run_rises k l [] lo hi r h = absurd (omega arith)
run_rises k zero (d ∷ ds) lo hi r h = omega (arith, head_key_most Anything ds hi r.1.2, r.0, r.1.0)
run_rises k (suc l) (d ∷ ds) lo hi r h = omega (arith, head_key_most (ChildIn k l) ds hi r.1.2, r.0, r.1.0)

module _ (k : ℕ) (memory : ℕ → Page) (x l : ℕ) (one : 1 ≤ k) where
  -- the same patch, its rows told another way
  patch_as : {old old' new new' : Things l} {lo hi : ℕ} {W : List Write} → old ≡ old' → new ≡ new'
      → Patch k memory x l old new lo hi W → Patch k memory x l old' new' lo hi W
  patch_as {lo = lo} {hi = hi} {W = W} p q h = subst₂ (λ (o n : Things l). Patch k memory x l o n lo hi W) p q h

  -- ---- one page

  module _ (c : Keyed (Tr l)) (hi : ℕ) (new : Things l) (W : List Write)
      (range : ChildIn k l c.value c.key hi) (rises : c.key < hi) (different : (q : ℕ) → occurs q l c.value ≤ 1)
      (p : Patch k memory x l (things_of l c.value) new c.key hi W)
      (least : k + tier l ≤ length new) (most : length new ≤ 2 * k + tier l) where
    abbrev changed : Keyed (Tr l)
    changed = keyed c.key (tree_at l (page_number l c.value) new)

    changed_span : Span (ChildIn k l) (changed ∷ []) hi
    changed_span = (rises, run_range k k (2 * k) l (page_number l c.value) new c.key hi p.runs least most, tt)

    changed_patch : Patch k memory x l (opened l (c ∷ [])) (opened l (changed ∷ [])) c.key hi W
    changed_patch =
        patch_as
        (sym (append-nil (things_of l c.value)))
        (sym (append-nil (things_of l changed.value) ∙ things_back l (page_number l c.value) new))
        p

    -- the page is written
    pub page_written : Patch k memory x (suc l) (c ∷ []) (keyed c.key (tree_at l (page_number l c.value) new) ∷ []) c.key hi
        (W ++ write (page_number l c.value) (page_in l new) ∷ [])
    page_written =
        let n = page_number l c.value in
        let room = things_μ l new (omega arith) in
        subst (λ (Q : Page). Patch k memory x (suc l) (c ∷ []) (changed ∷ []) c.key hi (W ++ write n Q ∷ [])) (page_back l n new)
        (closed k memory x l (c ∷ []) (changed ∷ []) hi W (write n (page_of l changed.value) ∷ []) (rises, range, tt) changed_span refl
        (λ q. omega (arith, different q))
        changed_patch
        (top_written k memory l c changed hi refl (number_back l n new) (rw (page_back l n new) (omega arith))))

    -- the page stays as it is
    pub page_kept : page_in l new ≡ page_of l c.value → memory (page_number l c.value) ≡ page_of l c.value
        → Patch k memory x (suc l) (c ∷ []) (keyed c.key (tree_at l (page_number l c.value) new) ∷ []) c.key hi W
    page_kept same held =
        let n = page_number l c.value in
        subst (λ (U : List Write). Patch k memory x (suc l) (c ∷ []) (changed ∷ []) c.key hi U) (append-nil W)
        (closed k memory x l (c ∷ []) (changed ∷ []) hi W [] (rises, range, tt) changed_span refl
        (λ q. omega (arith, different q))
        changed_patch
        (top_kept k memory l c changed hi refl (number_back l n new) (page_back l n new ∙ same) held))

  -- ---- two neighbours

  module _ (a b : Keyed (Tr l)) (hi : ℕ) (W : List Write)
      (span : Span (ChildIn k l) (a ∷ b ∷ []) hi) (different : (q : ℕ) → occurs_in q (suc l) (a ∷ b ∷ []) ≤ 1) where
    -- the row in the left page, the right one freed
    pub pair_joined : (ws : Things l) → Patch k memory x l (opened l (a ∷ b ∷ [])) ws a.key hi W
        → k + tier l ≤ length ws → length ws ≤ 2 * k + tier l
        → Patch k memory x (suc l) (a ∷ b ∷ []) (keyed a.key (tree_at l (page_number l a.value) ws) ∷ []) a.key hi
        (W ++ write (page_number l a.value) (page_in l ws) ∷ write (page_number l b.value) free_page ∷ [])
    pair_joined ws p least most =
        let n = page_number l a.value in
        let j : Keyed (Tr l) = keyed a.key (tree_at l n ws) in
        let free : Write = write (page_number l b.value) free_page in
        let room = things_μ l ws (omega arith) in
        let rises = run_rises k l ws a.key hi p.runs (omega arith) in
        subst (λ (Q : Page). Patch k memory x (suc l) (a ∷ b ∷ []) (j ∷ []) a.key hi (W ++ write n Q ∷ free ∷ [])) (page_back l n ws)
        (closed k memory x l (a ∷ b ∷ []) (j ∷ []) hi W (write n (page_of l j.value) ∷ free ∷ []) span
        (rises, run_range k k (2 * k) l n ws a.key hi p.runs least most, tt)
        refl
        different
        (patch_as refl (sym (append-nil (things_of l j.value) ∙ things_back l n ws)) p)
        (tops_joined k memory l a b j hi (number_back l n ws) (rw (page_back l n ws) (omega arith))))

    -- the row cut in two
    pub pair_moved : (L R : Things l) (U : List Write) → Patch k memory x l (opened l (a ∷ b ∷ [])) (L ++ R) a.key hi W
        → k + tier l ≤ length L → length L ≤ 2 * k + tier l → k + tier l ≤ length R → length R ≤ 2 * k + tier l
        → ((q : ℕ) → hits q U ≡ once q (page_number l a.value) + once q (page_number l b.value))
        → ((M : ℕ → Page) → Stores M U → (M (page_number l a.value) ≡ page_in l L) × (M (page_number l b.value) ≡ page_in l R))
        → Fitting k U
        → Patch k memory x (suc l) (a ∷ b ∷ [])
        (keyed a.key (tree_at l (page_number l a.value) L) ∷ keyed (head_key R hi) (tree_at l (page_number l b.value) R) ∷ [])
        a.key hi (W ++ U)
    pair_moved L R U p leastL mostL leastR mostR each stored fits =
        let m = page_number l a.value in
        let n = page_number l b.value in
        let a' : Keyed (Tr l) = keyed a.key (tree_at l m L) in
        let b' : Keyed (Tr l) = keyed (head_key R hi) (tree_at l n R) in
        let left : Run k l L a.key (head_key R hi) = run_left k l L R a.key hi p.runs in
        let right : Run k l R (head_key R hi) hi = run_right k l L R a.key hi p.runs in
        closed k memory x l (a ∷ b ∷ []) (a' ∷ b' ∷ []) hi W U span (
          run_rises k l L a.key (head_key R hi) left (omega arith),
          run_range k k (2 * k) l m L a.key (head_key R hi) left leastL mostL,
          (run_rises k l R (head_key R hi) hi right (omega arith), run_range k k (2 * k) l n R (head_key R hi) hi right leastR mostR, tt),
        )
        refl
        different
        (patch_as refl
        (sym (ap₂ (λ (ts us : Things l). ts ++ us) (things_back l m L) (append-nil (things_of l b'.value) ∙ things_back l n R)))
        p)
        (tops_moved k memory l a b a' b' hi U (number_back l m L) (number_back l n R) each
        (λ M s. ((stored M s).0 ∙ sym (page_back l m L), (stored M s).1 ∙ sym (page_back l n R)))
        fits)
