-- The whole pool: every page that is met is on a level, so it had no mark before the walk; and a page that has no mark after it is neither met nor all zeros.
use Prim.Native.Nat.{ℕ, zero, suc, ◌≤◌, ◌<◌}
use mathlib.Core.Bool.{Bool, true, false, not, ◌&&◌, ◌||◌}
use mathlib.Core.List.{List, [], ◌∷◌, map}
use mathlib.Core.Logic.{◌≢◌, ⊎_elim}
use mathlib.Core.Path.{◌≡◌, refl, sym, ap, ◌∙◌, subst}
use native.Mathlib.Omega.{arith}
use borrow.Author.Tests.{eqb-true, eq-eqb, ne_eqb, ltb-true}
use lib.Dec.{leb, ltb, eqb}
use lib.ListN.{length, get_or}
use Rattle.ground.specs.Limits.{word_range}
use Rattle.ground.specs.Tests.{all, member, distinct, all_below}
use Rattle.ground.proofs.Bools.{and_first, and_second, and_both, not_both, or_cases, false_if_not_true, same_if_true_together}
use Rattle.ground.proofs.Tests.{member_none, member_cases, member_append, all_below_same}
use Rattle.page.specs.Words.{Entry, Page, value_of, pointers}
use Rattle.page.specs.Sound.{sound_by_itself}
use Rattle.pool.specs.Pool.{words_of, page_at}
use Rattle.opening.specs.Opening.{is_zero, within, children, hangs, for_each, met, depth, is_tree}
use Rattle.opening.specs.Marks.{AllSound, Walk, marked, marked_by, unmet, free_mark}
use Rattle.opening.proofs.PageLaws.{zero_level, level_sound, on_none, page_sound}
use Rattle.opening.proofs.MarkLaws.{Inside, marked_by_lem, unmet_distinct, distinct_unmet}
use Rattle.opening.proofs.WalkLaws.{walked}

-- what holds of the pages met from each child on holds of all that are met
each_met : (n : ℕ) (f : ℕ → ℕ → ℕ → Bool) (g : ℕ → List ℕ) (hi q : ℕ) (X : Type 0) → ((c a b : ℕ) → c < n → f c a b ≡ true → member q (g c) ≡ true → X)
    → (es : List Entry) (c from : ℕ) → all (λ (p : ℕ). leb 1 p && ltb p n) (c ∷ map value_of es) ≡ true → children f c from es hi ≡ true
    → member q (for_each g (c ∷ map value_of es)) ≡ true → X
unfolding children for_each all
each_met n f g hi q X each [] c from inside kids m =
    ⊎_elim (each c from hi (ltb-true c n (and_second (leb 1 c) (ltb c n) (and_first (leb 1 c && ltb c n) true inside))) kids)
    (λ no. not_both no (member_none q))
    (or_cases (member q (g c)) (member q []) (sym (member_append q (g c) []) ∙ m))
each_met n f g hi q X each (e ∷ es) c from inside kids m =
    let others : Bool = all (λ (p : ℕ). leb 1 p && ltb p n) (map value_of (e ∷ es)) in
    ⊎_elim
    (each c from e.key (ltb-true c n (and_second (leb 1 c) (ltb c n) (and_first (leb 1 c && ltb c n) others inside)))
    (and_first (f c from e.key) (children f e.value e.key es hi) kids))
    (each_met n f g hi q X each es e.value e.key (and_second (leb 1 c && ltb c n) others inside)
    (and_second (f c from e.key) (children f e.value e.key es hi) kids))
    (or_cases (member q (g c)) (member q (for_each g (map value_of (e ∷ es)))) (sym (member_append q (g c) (for_each g (map value_of (e ∷ es)))) ∙ m))

module _ {k n : ℕ} {ws : List ℕ} (pool : AllSound k n ws) where
  -- every page that is met is one of the pool, and on a level
  met_inside : (l p lo hi : ℕ) → p < n → hangs (page_at k ws) l p lo hi ≡ true → (q : ℕ) → member q (met (page_at k ws) l p) ≡ true
      → (q < n) × ((page_at k ws q).level ≢ 0)
  unfolding hangs met
  met_inside zero p lo hi inside h q m =
      ⊎_elim
      (λ e.
      let level = eqb-true (page_at k ws p).level 1 (and_first (eqb (page_at k ws p).level 1) (within lo hi (page_at k ws p).entries) h) in
      subst (λ (r : ℕ). (r < n) × ((page_at k ws r).level ≢ 0)) (sym e) (inside, λ z. absurd (omega arith)))
      (λ no. not_both no (member_none q))
      (member_cases q p [] m)
  met_inside (suc l) p lo hi inside h q m =
      let P : Page = page_at k ws p in
      let kids : Bool = children (hangs (page_at k ws) l) P.first lo P.entries hi in
      let fits : Bool = eqb P.level (suc (suc l)) && within (suc lo) hi P.entries in
      let level = eqb-true P.level (suc (suc l)) (and_first (eqb P.level (suc (suc l))) (within (suc lo) hi P.entries) (and_first fits kids h)) in
      let here : Walk k n ws p = record { pool = pool; inside = inside } in
      ⊎_elim
      (λ e. subst (λ (r : ℕ). (r < n) × ((page_at k ws r).level ≢ 0)) (sym e) (inside, λ z. absurd (omega arith)))
      (each_met n (hangs (page_at k ws) l) (met (page_at k ws) l) hi q ((q < n) × ((page_at k ws q).level ≢ 0))
      (λ c a b i f m'. met_inside l c a b i f q m')
      P.entries P.first lo
      ((page_sound here (λ z. absurd (omega arith))).pointers_in_pool (ne_eqb P.level 1 (λ z. absurd (omega arith))))
      (and_second fits kids h))
      (member_cases q p (for_each (met (page_at k ws) l) (pointers P)) m)

  -- page 0 is on a level
  pub root_some : 1 ≤ (page_at k ws 0).level
  root_some =
      let zeroth : 0 < n = pool.handed.some in
      ⊎_elim
      (λ s. (level_sound k n ws 0 zeroth pool.handed.whole s).lowest)
      (λ no. not_both no refl)
      (or_cases (sound_by_itself k n 0 (words_of k 0 ws)) (not (eqb 0 0) && is_zero k ws 0) (pool.sound 0 zeroth))

  -- a page is all zeros exactly if it is on no level
  zero_is : (q : ℕ) → q < n → eqb (page_at k ws q).level 0 ≡ is_zero k ws q
  zero_is q inside =
      same_if_true_together (eqb (page_at k ws q).level 0) (is_zero k ws q)
      (λ e. on_none k n ws q inside pool.handed.whole (pool.sound q inside) (eqb-true (page_at k ws q).level 0 e))
      (λ z. eq-eqb (page_at k ws q).level 0 (zero_level k n ws q inside pool.handed.whole z))

  module _ (marks : List Bool) (long : n ≤ length marks) (free : (q : ℕ) → q < n → get_or marks q false ≡ free_mark k ws q) where
    abbrev pages : List ℕ
    pages = met (page_at k ws) (depth k ws) 0

    abbrev hung : Bool
    hung = hangs (page_at k ws) (depth k ws) 0 0 word_range

    abbrev rest : Bool
    rest = all_below n (λ (q : ℕ). member q pages || is_zero k ws q)

    -- before the walk just the pages that are all zeros have a mark
    marked_free : (q : ℕ) → q < n → marked marks q ≡ is_zero k ws q
    marked_free q inside = free q inside ∙ zero_is q inside

    inside_marks : hung ≡ true → Inside pages marks
    inside_marks h q m = let here = (met_inside (depth k ws) 0 0 word_range pool.handed.some h q m).0 in omega arith

    unmarked : hung ≡ true → (q : ℕ) → member q pages ≡ true → marked marks q ≡ false
    unmarked h q m =
        let (here, level) = met_inside (depth k ws) 0 0 word_range pool.handed.some h q m in
        marked_free q here ∙ sym (zero_is q here) ∙ ne_eqb (page_at k ws q).level 0 level

    -- The walk fails: there is no tree.
    pub walk_fails : walked (page_at k ws) (depth k ws) 0 0 word_range marks ≡ false → false ≡ is_tree k n ws
    unfolding is_tree
    walk_fails bad =
        sym (false_if_not_true (hung && distinct pages && rest)
        (λ t.
        let both = and_first (hung && distinct pages) rest t in
        let h = and_first hung (distinct pages) both in
        not_both (and_both h (distinct_unmet pages marks (inside_marks h) (and_second hung (distinct pages) both) (unmarked h))) bad))

    -- It passes: there is one if every page has a mark now.
    pub walk_passes : walked (page_at k ws) (depth k ws) 0 0 word_range marks ≡ true → (after : List Bool) → after ≡ marked_by pages marks
        → all_below n (marked after) ≡ is_tree k n ws
    unfolding is_tree
    walk_passes good after e =
        let h = and_first hung (unmet pages marks) good in
        let d = unmet_distinct pages marks (inside_marks h) (and_second hung (unmet pages marks) good) in
        all_below_same (marked after) (λ (q : ℕ). member q pages || is_zero k ws q) n
        (λ q inside. ap (λ (l : List Bool). marked l q) e ∙ marked_by_lem pages marks q (inside_marks h) ∙ ap (λ (b : Bool). member q pages || b) (marked_free q inside))
        ∙ ap (λ (b : Bool). b && rest) (sym (and_both h d))
