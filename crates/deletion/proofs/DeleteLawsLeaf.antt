-- The leaf loses x where it lies; every other page is as it was, so that the way up can begin.
use Prim.Native.Nat.{ℕ, zero, suc, ◌+◌, ◌-◌, ◌≤◌, ◌<◌}
use mathlib.Core.Bool.{true}
use mathlib.Core.List.{List}
use mathlib.Core.Logic.{◌≢◌, ⊎_elim}
use mathlib.Core.Path.{◌≡◌, refl, sym, ap, ◌∙◌, subst}
use native.Mathlib.Omega.{arith}
use borrow.Author.Tests.{ne_eqb, eqb-true}
use lib.Dec.{eqb}
use Rattle.ground.specs.Tests.{member}
use Rattle.ground.proofs.Bools.{not_both, or_cases}
use Rattle.ground.proofs.Tests.{member_at}
use Rattle.page.specs.Place.{place, without}
use Rattle.page.specs.Splits.{with_entries}
use Rattle.page.proofs.RiseLaws.{key_at}
use Rattle.page.proofs.PlaceLaws.{place_most, has_place, without_at}
use Rattle.change.specs.Deletion.{shrunk, deletion}
use lib.ListN.{length, get_or}
use Rattle.ground.proofs.Choice.{same_or_not, cond-false}
use Rattle.page.specs.Words.{Page, μ, view}
use Rattle.page.specs.Short.{less_key}
use Rattle.page.specs.Sound.{rises}
use Rattle.page.specs.Exact.{Exact}
use Rattle.page.proofs.SoundPage.{sound_fits}
use Rattle.page.proofs.ExactLaws.{exact_encode, less_key_fits}
use Rattle.page.proofs.WordLaws.{length_encode}
use Rattle.pool.specs.Pool.{pool_length, words_of, page_at, Write, write, written, applied}
use Rattle.pool.proofs.PagesLaws.{in_pool_written}
use Rattle.pool.proofs.WriteLaws.{length_written, words_of_written_same, page_at_written_same, FitWrite}
use Rattle.change.specs.Held.{upward, leaf_of, fathers_of}
use Rattle.deletion.specs.Deleting.{Climbing, Deleting}
use Rattle.change.proofs.AppliedLaws.{elsewhere}
use Rattle.deletion.proofs.ClimbLaws.{climbed_over, shrunk_memory}
use Rattle.change.proofs.NeedLaws.{path_known, sibling_known, father_key}

module _ {k n : ℕ} {ws : List ℕ} {x : ℕ} {path siblings : List ℕ}
    (h : Deleting k n ws x path siblings) (b : ℕ) {vs : List ℕ}
    (done : vs ≡ written k (write (leaf_of (length path) path) (less_key b (page_at k ws (leaf_of (length path) path)))) ws) where
  abbrev leaf : ℕ
  leaf = leaf_of (length path) path

  abbrev left : Page
  left = less_key b (page_at k ws leaf)

  last : length path - 1 < length path
  last = let some : 1 ≤ length path = h.held.some in omega arith

  pub left_fit : FitWrite k n (write leaf left)
  left_fit =
      record {
        in_pool = (path_known x h.held (length path - 1) last).in_pool.inside;
        fits = less_key_fits (sound_fits (path_known x h.held (length path - 1) last).facts) b;
      }

  whole : length vs ≡ pool_length k n
  whole = ap length done ∙ length_written k (write leaf left) ws ∙ h.held.held.whole

  kept : (q : ℕ) → q ≢ leaf → words_of k q vs ≡ words_of k q ws
  kept q ne = ap (words_of k q) done ∙ elsewhere k n ws (write leaf left) left_fit q ne

  pub kept_value : (q : ℕ) → q ≢ leaf → page_at k vs q ≡ page_at k ws q
  unfolding page_at
  kept_value q ne = ap view (kept q ne)

  pub leaf_value : page_at k vs leaf ≡ left
  leaf_value =
      ap (λ (l : List ℕ). page_at k l leaf) done
      ∙ page_at_written_same k n leaf left ws left_fit.in_pool h.held.held.whole left_fit.fits

  leaf_exact : Exact k (words_of k leaf vs)
  leaf_exact =
      subst (Exact k)
      (sym
      (ap (words_of k leaf) done
      ∙ words_of_written_same k n leaf left ws left_fit.in_pool h.held.held.whole (length_encode k left left_fit.fits)))
      (exact_encode k left left_fit.fits)

  other : (i : ℕ) → i + 1 < length path → get_or path i 0 ≢ leaf
  other i l = h.path_apart i (length path - 1) (omega arith) last

  beside_other : (j : ℕ) → j < length siblings → get_or siblings j 0 ≢ leaf
  beside_other j l e = h.across (length path - 1) j last l (sym e)

  level_same : (i : ℕ) → i < length path → (page_at k vs (get_or path i 0)).level ≡ (page_at k ws (get_or path i 0)).level
  unfolding less_key
  level_same i l =
      ⊎_elim
      (λ e.
      subst (λ (t : ℕ). (page_at k vs (get_or path t 0)).level ≡ (page_at k ws (get_or path t 0)).level) (sym e)
      (ap (λ (P : Page). P.level) leaf_value))
      (λ ne. ap (λ (P : Page). P.level) (kept_value (get_or path i 0) (other i (omega arith))))
      (same_or_not i (length path - 1))

  pub leaf_climbs : Climbing k n vs path siblings
  leaf_climbs =
      record {
        some = h.held.some;
        deep = h.held.deep;
        few = h.held.few;
        whole = whole;
        path_in = λ i l. in_pool_written (write leaf left) done (path_known x h.held i l).in_pool;
        path_exact =
            λ i l.
            ⊎_elim
            (λ e. subst (λ (t : ℕ). Exact k (words_of k (get_or path t 0) vs)) (sym e) leaf_exact)
            (λ ne. subst (Exact k) (sym (kept (get_or path i 0) (other i (omega arith)))) (path_known x h.held i l).exact)
            (same_or_not i (length path - 1));
        rising =
            λ i l.
            subst (λ (P : Page). rises P.entries ≡ true) (sym (kept_value (get_or path i 0) (other i l)))
            (path_known x h.held i (omega arith)).facts.rising;
        key =
            λ i l.
            let e : i + 1 - 1 ≡ i = omega arith in
            subst (λ (P : Page). 1 ≤ μ P) (sym (kept_value (get_or path i 0) (other i l)))
            (subst (λ (t : ℕ). 1 ≤ μ (page_at k ws (get_or path t 0))) e (father_key x h.held (i + 1) (omega arith) l));
        beside_in = λ j l. in_pool_written (write leaf left) done (sibling_known x h.held j l).in_pool;
        beside_exact = λ j l. subst (Exact k) (sym (kept (get_or siblings j 0) (beside_other j l))) (sibling_known x h.held j l).exact;
        beside_some =
            λ j l.
            let least : 1 ≤ k = h.held.held.least in
            let many : k ≤ μ (page_at k ws (get_or siblings j 0)) =
            subst (λ (m : ℕ). m ≤ μ (page_at k ws (get_or siblings j 0))) (cond-false _ k (ne_eqb (get_or siblings j 0) 0 (h.others j l)))
            (sibling_known x h.held j l).facts.enough in
            subst (λ (P : Page). 1 ≤ μ P) (sym (kept_value (get_or siblings j 0) (beside_other j l))) (omega arith);
        levels =
            λ i j l e.
            level_same i (omega arith)
            ∙ h.levels i j l e
            ∙ sym (ap (λ (P : Page). P.level) (kept_value (get_or siblings j 0) (beside_other j l)));
        path_apart = h.path_apart;
        beside_apart = h.beside_apart;
        across = h.across;
      }

-- a page above the leaf stands at an index of the path
above_index : (i : ℕ) (path : List ℕ) (q : ℕ) → member q (upward i path) ≡ true → (t : ℕ) × (t < i) × (get_or path t 0 ≡ q)
unfolding upward member
above_index zero path q m = not_both m refl
above_index (suc i) path q m =
    ⊎_elim
    (λ e. (i, omega arith, sym (eqb-true q (get_or path i 0) e)))
    (λ later. let found = above_index i path q later in (found.0, omega arith, found.2))
    (or_cases (eqb q (get_or path i 0)) (member q (upward i path)) m)

module _ {k n : ℕ} {ws : List ℕ} {x : ℕ} {path siblings : List ℕ}
    (h : Deleting k n ws x path siblings) where
  abbrev was : Page
  was = page_at k ws (leaf_of (length path) path)

  leaf_rises : rises was.entries ≡ true
  leaf_rises = let some : 1 ≤ length path = h.held.some in (path_known x h.held (length path - 1) (omega arith)).facts.rising

  -- x stands just before its place
  pub stands_at : {at : ℕ} → at ≡ place x was.entries → (0 < at) × (at - 1 < μ was)
  stands_at e =
      let found = has_place x was.entries leaf_rises h.stands in
      let most = place_most x was.entries in
      (omega arith, omega arith)

  -- the leaf less the key
  lost_x : {at : ℕ} → at ≡ place x was.entries → less_key (at - 1) was ≡ with_entries was (without x was.entries)
  unfolding less_key
  lost_x {at} e =
      let found = has_place x was.entries leaf_rises h.stands in
      ap (with_entries was)
      (sym
      (without_at x was.entries leaf_rises (at - 1) (stands_at e).1
      (ap (λ (t : ℕ). key_at (t - 1) was.entries) e ∙ found.1)))

  -- the whole change
  pub deleted : {at : ℕ} {vs out : List ℕ} → at ≡ place x was.entries
      → vs ≡ written k (write (leaf_of (length path) path) (less_key (at - 1) was)) ws
      → out ≡ applied k (shrunk k (page_at k vs) x (fathers_of (length path) path) siblings (leaf_of (length path) path) (page_at k vs (leaf_of (length path) path))) vs
      → out ≡ applied k (deletion k (page_at k ws) x (leaf_of (length path) path) (fathers_of (length path) path) siblings) ws
  unfolding deletion
  deleted {at} {vs} {out} e done climbed =
      climbed
      ∙ climbed_over x (leaf_climbs h (at - 1) done) ws (less_key (at - 1) was) h.held.held.whole (left_fit h (at - 1) done).fits done
      ∙ ap (λ (list : List Write). applied k list ws)
      (shrunk_memory k (page_at k vs) (page_at k ws) x (fathers_of (length path) path) siblings (leaf_of (length path) path) (page_at k vs (leaf_of (length path) path))
      (λ q m.
      let found = above_index (length path - 1) path q m in
      kept_value h (at - 1) done q
      (λ z. h.path_apart found.0 (length path - 1) found.1 (let some : 1 ≤ length path = h.held.some in omega arith) (found.2 ∙ z)))
      (λ q m.
      let found = member_at q siblings 0 m in
      kept_value h (at - 1) done q
      (λ z.
      h.across (length path - 1) found.0 (let some : 1 ≤ length path = h.held.some in omega arith) found.1
      (sym z ∙ sym found.2)))
      ∙ ap (λ (P : Page). shrunk k (page_at k ws) x (fathers_of (length path) path) siblings (leaf_of (length path) path) P)
      (leaf_value h (at - 1) done ∙ lost_x e))
