-- Going up, the page that lost one is written already, and the rule would write it only now. What the rule has still to write
-- holds that page again or leaves it as it is, so that the words come to the same.
use Prim.Native.Nat.{ℕ, zero, suc, ◌+◌, ◌-◌, ◌≤◌, ◌<◌}
use mathlib.Core.Bool.{Bool, true, false, cond, ◌||◌}
use mathlib.Core.List.{List, [], ◌∷◌}
use mathlib.Core.Logic.{◌≢◌, ◌⊎◌, ⊎_elim}
use mathlib.Core.Path.{◌≡◌, refl, sym, ap, ap₂, ◌∙◌, subst, subst₂}
use native.Mathlib.Omega.{arith}
use borrow.Author.Tests.{le-leb, lt-leb, leb-true, leb-false, ltb-true, ltb-false, eq-eqb, eqb-true, eqb-false}
use lib.Dec.{leb, ltb, eqb}
use lib.ListN.{length, get_or, take, drop, drop_of_length-le, length-drop}
use lib.Seq.{take-length}
use Rattle.std.proofs.lemmas.List.{drop_more}
use Rattle.ground.specs.Tests.{member}
use Rattle.ground.proofs.Bools.{not_both, true_or_false, or_first, or_second}
use Rattle.ground.proofs.Choice.{cond-true, cond-false}
use Rattle.page.specs.Words.{Page, μ, free_page, encode, view}
use Rattle.page.specs.Short.{has_right, between_at, merged, less_key}
use Rattle.page.specs.Sound.{rises}
use Rattle.page.specs.Reading.{Readable}
use Rattle.page.specs.Exact.{Exact}
use Rattle.page.specs.Fits.{Fits}
use Rattle.page.proofs.ExactLaws.{exact_fits, exact_encode}
use Rattle.page.proofs.WordLaws.{length_encode}
use Rattle.page.proofs.ReadingLaws.{readable}
use Rattle.pool.specs.Pool.{pool_length, words_of, page_at, Write, write, written, applied}
use Rattle.pool.specs.Wrapped.{InPool}
use Rattle.pool.proofs.WriteLaws.{length_written, words_of_written_same, page_at_written_same, FitWrite, AllFit}
use Rattle.change.specs.Deletion.{left_one, right_one, shares, shrunk}
use Rattle.change.specs.Held.{upward, leaf_of, fathers_of}
use Rattle.deletion.specs.Deleting.{Mending, Climbing, collapsing, uniting, emptied, lost, round}
use Rattle.change.proofs.HeldLaws.{upward_top, upward_father, pair_father, pair_page, held_less}
use Rattle.change.proofs.AppliedLaws.{elsewhere, written_again, applied_over}
use Rattle.change.proofs.RuleLaws.{shrunk_top, shrunk_alone}
use Rattle.deletion.proofs.MendLaws.{Covers, round_covers}

-- ---- the rule, a page at a time

-- with two tests of which one holds, the last choice does not matter; with none it is the last
stays : (t e : Bool) (a b c d : List Write) → cond t false (cond e false true) ≡ false → cond t a (cond e b c) ≡ cond t a (cond e b d)
stays true e a b c d h = refl
stays false true a b c d h = refl
stays false false a b c d h = not_both refl h

goes : (t e : Bool) (a b c : List Write) → cond t false (cond e false true) ≡ true → cond t a (cond e b c) ≡ c
goes true e a b c h = not_both h refl
goes false true a b c h = not_both h refl
goes false false a b c h = refl

module _ (k : ℕ) (m : ℕ → Page) (x p : ℕ) (P : Page) where
  shrunk_enough : (fathers ss : List ℕ) → k ≤ μ P → shrunk k m x fathers ss p P ≡ write p P ∷ []
  unfolding shrunk
  shrunk_enough [] ss h = refl
  shrunk_enough (f ∷ up) [] h = refl
  shrunk_enough (f ∷ up) (s ∷ ss) h = cond-true (write p P ∷ []) _ (le-leb k (μ P) h)

  module _ (f : ℕ) (up : List ℕ) (s : ℕ) (ss : List ℕ) (short : μ P < k) where
    -- what the rule does with a short page and its sibling
    shrunk_short : shrunk k m x (f ∷ up) (s ∷ ss) p P
        ≡ cond (ltb k (μ (m s)))
        (shares x p P s (m s) f (m f))
        (cond (emptied f (m f) (between_at x (m f)))
        (collapsing f (left_one x (m f) p s) (right_one x (m f) p s) (merged x (m f) P (m s)))
        (write (left_one x (m f) p s) (merged x (m f) P (m s))
        ∷ write (right_one x (m f) p s) free_page
        ∷ shrunk k m x up ss f (less_key (between_at x (m f)) (m f))))
    unfolding shrunk
    shrunk_short = cond-false (write p P ∷ []) _ (lt-leb k (μ P) short)

    -- the father lost no key: a round is all
    shrunk_stays : lost (ltb k (μ (m s))) f (m f) (between_at x (m f)) ≡ false
        → shrunk k m x (f ∷ up) (s ∷ ss) p P ≡ round k x p P s (m s) f (m f)
    unfolding lost round
    shrunk_stays t = shrunk_short ∙ stays (ltb k (μ (m s))) (emptied f (m f) (between_at x (m f))) _ _ _ _ t

    -- it lost one: the two neighbours, and then the father
    shrunk_goes : lost (ltb k (μ (m s))) f (m f) (between_at x (m f)) ≡ true
        → shrunk k m x (f ∷ up) (s ∷ ss) p P
        ≡ write (left_one x (m f) p s) (merged x (m f) P (m s))
        ∷ write (right_one x (m f) p s) free_page
        ∷ shrunk k m x up ss f (less_key (between_at x (m f)) (m f))
    unfolding lost
    shrunk_goes t = shrunk_short ∙ goes (ltb k (μ (m s))) (emptied f (m f) (between_at x (m f))) _ _ _ t

    round_goes : lost (ltb k (μ (m s))) f (m f) (between_at x (m f)) ≡ true
        → round k x p P s (m s) f (m f) ≡ uniting f (m f) (between_at x (m f)) (left_one x (m f) p s) (right_one x (m f) p s) (merged x (m f) P (m s))
    unfolding lost round
    round_goes t = goes (ltb k (μ (m s))) (emptied f (m f) (between_at x (m f))) _ _ _ t

-- of the page and its neighbour, neither is a third page
neither_left : (x : ℕ) (F : Page) (p s q : ℕ) → q ≢ p → q ≢ s → q ≢ left_one x F p s
neither_left x F p s q a b =
    ⊎_elim (λ t e. a (e ∙ cond-true p s t)) (λ t e. b (e ∙ cond-false p s t)) (true_or_false (has_right x F))

neither_right : (x : ℕ) (F : Page) (p s q : ℕ) → q ≢ p → q ≢ s → q ≢ right_one x F p s
neither_right x F p s q a b =
    ⊎_elim (λ t e. b (e ∙ cond-true s p t)) (λ t e. a (e ∙ cond-false s p t)) (true_or_false (has_right x F))

-- ---- on the way

-- From the words ws₀ on: the page at index i of the path was written last, over the words `was`; the rule has it still to
-- write, and what is above and beside it is as it was.
pub record Underway (k n : ℕ) (ws₀ : List ℕ) (x : ℕ) (path siblings : List ℕ) (ws : List ℕ) (i j : ℕ) : Type 0 where
  pub was : List ℕ
  pub value : Page
  pub turn : i + j + 1 ≡ length path
  pub among : j ≤ length siblings
  pub whole : length was ≡ pool_length k n
  pub fits : Fits k value
  pub level : value.level ≡ (page_at k ws₀ (get_or path i 0)).level
  pub done : ws ≡ written k (write (get_or path i 0) value) was
  pub rest : applied k (shrunk k (page_at k ws₀) x (fathers_of (length path) path) siblings (leaf_of (length path) path) (page_at k ws₀ (leaf_of (length path) path))) ws₀
      ≡ applied k (shrunk k (page_at k ws₀) x (upward i path) (drop j siblings) (get_or path i 0) value) was
  pub path_kept : (t : ℕ) → t < i → words_of k (get_or path t 0) was ≡ words_of k (get_or path t 0) ws₀
  pub beside_kept : (t : ℕ) → j ≤ t → t < length siblings → words_of k (get_or siblings t 0) was ≡ words_of k (get_or siblings t 0) ws₀

module _ {k n : ℕ} {ws₀ path siblings : List ℕ} (x : ℕ) (h : Climbing k n ws₀ path siblings) where
  -- what the rule comes to
  abbrev all : List ℕ
  all = applied k (shrunk k (page_at k ws₀) x (fathers_of (length path) path) siblings (leaf_of (length path) path) (page_at k ws₀ (leaf_of (length path) path))) ws₀

  -- at the leaf
  unfoldable starts_here : Underway k n ws₀ x path siblings ws₀ (length path - 1) 0
  unfolding page_at
  starts_here =
      let some : 1 ≤ length path = h.some in
      let inside : length path - 1 < length path = omega arith in
      let exact : Exact k (words_of k (leaf_of (length path) path) ws₀) = h.path_exact (length path - 1) inside in
      record {
        was = ws₀;
        value = page_at k ws₀ (leaf_of (length path) path);
        turn = omega arith;
        among = omega arith;
        whole = h.whole;
        fits = exact_fits exact;
        level = refl;
        done =
            sym
            (written_again k n ws₀ h.whole (write (leaf_of (length path) path) (page_at k ws₀ (leaf_of (length path) path)))
            (record { in_pool = (h.path_in (length path - 1) inside).inside; fits = exact_fits exact })
            exact.words);
        rest = refl;
        path_kept = λ t l. refl;
        beside_kept = λ t l m. refl;
      }

  pub climb_starts : Underway k n ws₀ x path siblings ws₀ (length path - 1) 0
  climb_starts = starts_here

  module _ {ws : List ℕ} {i j : ℕ} (u : Underway k n ws₀ x path siblings ws i j) where
    here : i < length path
    here = let turn : i + j + 1 ≡ length path = u.turn in omega arith

    -- nothing but the page itself is to be written
    finished : shrunk k (page_at k ws₀) x (upward i path) (drop j siblings) (get_or path i 0) u.value ≡ write (get_or path i 0) u.value ∷ []
        → ws ≡ all
    unfolding applied
    finished e = u.done ∙ sym (u.rest ∙ ap (λ (list : List Write). applied k list u.was) e)

    still_top : i ≡ 0 → shrunk k (page_at k ws₀) x (upward i path) (drop j siblings) (get_or path i 0) u.value ≡ write (get_or path i 0) u.value ∷ []
    still_top z =
        (ap (λ (up : List ℕ). shrunk k (page_at k ws₀) x up (drop j siblings) (get_or path i 0) u.value) (upward_top i path z)
        ∙ shrunk_top k (page_at k ws₀) x (drop j siblings) (get_or path i 0) u.value)

    -- at the top of the path
    pub climb_top : i ≡ 0 → ws ≡ all
    climb_top z = finished (still_top z)

    -- behind the last sibling
    still_alone : length siblings ≤ j → shrunk k (page_at k ws₀) x (upward i path) (drop j siblings) (get_or path i 0) u.value ≡ write (get_or path i 0) u.value ∷ []
    still_alone l =
        (ap (λ (ss : List ℕ). shrunk k (page_at k ws₀) x (upward i path) ss (get_or path i 0) u.value) (drop_of_length-le siblings l)
        ∙ shrunk_alone k (page_at k ws₀) x (upward i path) (get_or path i 0) u.value)

    pub climb_alone : length siblings ≤ j → ws ≡ all
    climb_alone l = finished (still_alone l)

    -- the page's words and value
    page_words : words_of k (get_or path i 0) ws ≡ encode k u.value
    page_words =
        ap (words_of k (get_or path i 0)) u.done
        ∙ words_of_written_same k n (get_or path i 0) u.value u.was (h.path_in i here).inside u.whole (length_encode k u.value u.fits)

    page_value : page_at k ws (get_or path i 0) ≡ u.value
    page_value =
        ap (λ (vs : List ℕ). page_at k vs (get_or path i 0)) u.done
        ∙ page_at_written_same k n (get_or path i 0) u.value u.was (h.path_in i here).inside u.whole u.fits

    -- the page has enough
    pub climb_enough : {own : ℕ} → own ≡ μ (page_at k ws (get_or path i 0)) → k ≤ own → ws ≡ all
    climb_enough {own} e l =
        finished
        (shrunk_enough k (page_at k ws₀) x (get_or path i 0) u.value (upward i path) (drop j siblings)
        (subst (λ (m : ℕ). k ≤ m) (e ∙ ap μ page_value) l))

    -- the words are a pool's still
    pool_kept : {p : ℕ} → InPool k n p ws₀ → InPool k n p ws
    pool_kept g =
        record {
          width = g.width;
          most = g.most;
          whole = ap length u.done ∙ length_written k (write (get_or path i 0) u.value) u.was ∙ u.whole;
          inside = g.inside;
        }

    pub page_in : InPool k n (get_or path i 0) ws
    page_in = pool_kept (h.path_in i here)

    page_exact : Exact k (words_of k (get_or path i 0) ws)
    page_exact = subst (Exact k) (sym page_words) (exact_encode k u.value u.fits)

    pub page_readable : Readable (words_of k (get_or path i 0) ws)
    page_readable = readable k (words_of k (get_or path i 0) ws) page_exact.whole page_exact.in_room

    fit_here : FitWrite k n (write (get_or path i 0) u.value)
    fit_here = record { in_pool = (h.path_in i here).inside; fits = u.fits }

    module _ (below : 0 < i) (more : j < length siblings) where
      abbrev f : ℕ
      f = get_or path (i - 1) 0

      abbrev p : ℕ
      p = get_or path i 0

      abbrev s : ℕ
      s = get_or siblings j 0

      above_in : i - 1 < length path
      above_in = let l : i < length path = here in omega arith

      above_key : i - 1 + 1 < length path
      above_key = let l : i < length path = here in omega arith

      over_page : f ≢ p
      over_page = h.path_apart (i - 1) i (omega arith) here

      over_beside : f ≢ s
      over_beside = h.across (i - 1) j above_in more

      page_beside : p ≢ s
      page_beside = h.across i j here more

      father_words : words_of k f ws ≡ words_of k f ws₀
      father_words =
          ap (words_of k f) u.done
          ∙ elsewhere k n u.was (write p u.value) fit_here f over_page
          ∙ u.path_kept (i - 1) (omega arith)

      beside_words : words_of k s ws ≡ words_of k s ws₀
      beside_words =
          ap (words_of k s) u.done
          ∙ elsewhere k n u.was (write p u.value) fit_here s (λ e. page_beside (sym e))
          ∙ u.beside_kept j (omega arith) more

      father_value : page_at k ws f ≡ page_at k ws₀ f
      unfolding page_at
      father_value = ap view father_words

      beside_value : page_at k ws s ≡ page_at k ws₀ s
      unfolding page_at
      beside_value = ap view beside_words

      -- what mending asks
      pub climb_mends : {own : ℕ} → own ≡ μ (page_at k ws p) → own < k → Mending k n ws f p s
      climb_mends {own} e l =
          record {
            father = pool_kept (h.path_in (i - 1) above_in);
            page = page_in;
            beside = pool_kept (h.beside_in j more);
            over_page = over_page;
            over_beside = over_beside;
            apart = page_beside;
            father_exact = subst (Exact k) (sym father_words) (h.path_exact (i - 1) above_in);
            page_exact = page_exact;
            beside_exact = subst (Exact k) (sym beside_words) (h.beside_exact j more);
            rising = subst (λ (F : Page). rises F.entries ≡ true) (sym father_value) (h.rising (i - 1) above_key);
            key = subst (λ (F : Page). 1 ≤ μ F) (sym father_value) (h.key (i - 1) above_key);
            level =
                ap (λ (P : Page). P.level) page_value
                ∙ u.level
                ∙ h.levels i j more u.turn
                ∙ sym (ap (λ (S : Page). S.level) beside_value);
            short = subst (λ (m : ℕ). m < k) e l;
            some = subst (λ (S : Page). 1 ≤ μ S) (sym beside_value) (h.beside_some j more);
          }

      module _ {own : ℕ} (owns : own ≡ μ (page_at k ws p)) (short : own < k) {vs : List ℕ} {up : Bool}
          (mended : (vs ≡ applied k (round k x p (page_at k ws p) s (page_at k ws s) f (page_at k ws f)) ws)
          × (up ≡ lost (ltb k (μ (page_at k ws s))) f (page_at k ws f) (between_at x (page_at k ws f)))) where
        abbrev F : Page
        F = page_at k ws₀ f

        abbrev S : Page
        S = page_at k ws₀ s

        short_value : μ u.value < k
        short_value = subst (λ (m : ℕ). m < k) (owns ∙ ap μ page_value) short

        -- a round on the values from before
        round_same : round k x p (page_at k ws p) s (page_at k ws s) f (page_at k ws f) ≡ round k x p u.value s S f F
        round_same =
            ap (λ (P : Page). round k x p P s (page_at k ws s) f (page_at k ws f)) page_value
            ∙ ap₂ (λ (A B : Page). round k x p u.value s A f B) beside_value father_value

        covers : Covers k n p (round k x p u.value s S f F)
        covers = subst (Covers k n p) round_same (round_covers (climb_mends owns short) x)

        -- and over the words before the page was written
        over : vs ≡ applied k (round k x p u.value s S f F) u.was
        over =
            mended.0
            ∙ ap₂ (λ (list : List Write) (v : List ℕ). applied k list v) round_same u.done
            ∙ applied_over k n (round k x p u.value s S f F) (write p u.value) u.was u.whole covers.0 fit_here covers.1

        told : up ≡ lost (ltb k (μ S)) f F (between_at x F)
        told = mended.1 ∙ ap₂ (λ (A B : Page). lost (ltb k (μ A)) f B (between_at x B)) beside_value father_value

        next : drop j siblings ≡ s ∷ drop (j + 1) siblings
        next = drop_more siblings j 0 more

        by_father : shrunk k (page_at k ws₀) x (upward i path) (drop j siblings) p u.value
            ≡ shrunk k (page_at k ws₀) x (f ∷ upward (i - 1) path) (s ∷ drop (j + 1) siblings) p u.value
        by_father = ap₂ (λ (fathers ss : List ℕ). shrunk k (page_at k ws₀) x fathers ss p u.value) (upward_father i path below) next

        -- the father lost no key
        pub climb_stays : up ≡ false → vs ≡ all
        climb_stays t =
            over
            ∙ sym
            (u.rest
            ∙ ap (λ (list : List Write). applied k list u.was)
            (by_father
            ∙ shrunk_stays k (page_at k ws₀) x p u.value f (upward (i - 1) path) s (drop (j + 1) siblings) short_value (sym told ∙ t)))

        -- the father lost one
        unfoldable goes_on : up ≡ true → Underway k n ws₀ x path siblings vs (i - 1) (j + 1)
        unfolding applied less_key
        goes_on t =
            let lostIt : lost (ltb k (μ S)) f F (between_at x F) ≡ true = sym told ∙ t in
            let J : Page = merged x F u.value S in
            let L : ℕ = left_one x F p s in
            let R : ℕ = right_one x F p s in
            let list : round k x p u.value s S f F ≡ uniting f F (between_at x F) L R J =
            round_goes k (page_at k ws₀) x p u.value f (upward (i - 1) path) s (drop (j + 1) siblings) short_value lostIt in
            let fit : AllFit k n (uniting f F (between_at x F) L R J) = subst (AllFit k n) list covers.0 in
            let first : List ℕ = written k (write L J) u.was in
            let both : List ℕ = written k (write R free_page) first in
            let kept : (q : ℕ) → q ≢ p → q ≢ s → words_of k q both ≡ words_of k q u.was =
            λ q a b.
            elsewhere k n first (write R free_page) fit.1.0 q (neither_right x F p s q a b)
            ∙ elsewhere k n u.was (write L J) fit.0 q (neither_left x F p s q a b) in
            let turn : i + j + 1 ≡ length path = u.turn in
            record {
              was = both;
              value = less_key (between_at x F) F;
              turn = omega arith;
              among = omega arith;
              whole = length_written k (write R free_page) first ∙ length_written k (write L J) u.was ∙ u.whole;
              fits = fit.1.1.0.fits;
              level = refl;
              done = over ∙ ap (λ (l : List Write). applied k l u.was) list;
              rest =
                  u.rest
                  ∙ ap (λ (l : List Write). applied k l u.was)
                  (by_father
                  ∙ shrunk_goes k (page_at k ws₀) x p u.value f (upward (i - 1) path) s (drop (j + 1) siblings) short_value lostIt);
              path_kept =
                  λ q l.
                  kept (get_or path q 0) (h.path_apart q i (omega arith) here) (h.across q j (omega (arith, here)) more)
                  ∙ u.path_kept q (omega arith);
              beside_kept =
                  λ q l m.
                  kept (get_or siblings q 0) (λ e. h.across i q here m (sym e)) (λ e. h.beside_apart j q (omega arith) m (sym e))
                  ∙ u.beside_kept q (omega arith) m;
            }

        pub climb_goes : up ≡ true → Underway k n ws₀ x path siblings vs (i - 1) (j + 1)
        climb_goes t = goes_on t

-- ---- the pages of the path and the siblings beside them, from the leaf upward

-- The page that was written last is the last one of `held`, the pages left: the siblings left stand beside it and above.
pub record Going (k n : ℕ) (ws₀ : List ℕ) (x : ℕ) (path siblings ws left held : List ℕ) (size : ℕ) : Type 0 where
  pub two : size ≡ 2
  pub some : 1 ≤ length held
  pub part : held ≡ take (length held) path
  pub left_is : left ≡ drop (length path - length held) siblings
  pub under : Underway k n ws₀ x path siblings ws (length held - 1) (length path - length held)

-- what mending did: to the words, and whether the father f lost a key
abbrev Mended : (k : ℕ) (ws : List ℕ) (x f p s : ℕ) (vs : List ℕ) (up : Bool) → Type 0
Mended k ws x f p s vs up =
    (vs ≡ applied k (round k x p (page_at k ws p) s (page_at k ws s) f (page_at k ws f)) ws)
    × (up ≡ lost (ltb k (μ (page_at k ws s))) f (page_at k ws f) (between_at x (page_at k ws f)))

module _ {k n : ℕ} {ws₀ path siblings : List ℕ} (x : ℕ) (h : Climbing k n ws₀ path siblings) where
  pub going_starts : {left held : List ℕ} {size : ℕ} → left ≡ siblings → held ≡ path → size ≡ 2
      → Going k n ws₀ x path siblings ws₀ left held size
  going_starts {left} {held} {size} e d two =
      let none : length path - length path ≡ 0 = omega arith in
      subst (λ (l : List ℕ). Going k n ws₀ x path siblings ws₀ left l size) (sym d)
      (record {
        two = two;
        some = h.some;
        part = sym (take-length path);
        left_is = e ∙ ap (λ (j : ℕ). drop j siblings) (sym none);
        under = subst (λ (j : ℕ). Underway k n ws₀ x path siblings ws₀ (length path - 1) j) (sym none) (climb_starts x h);
      })

  module _ {ws left held : List ℕ} {size : ℕ} (g : Going k n ws₀ x path siblings ws left held size) where
    -- so many pages below it were left
    abbrev turn : ℕ
    turn = length path - length held

    -- no sibling is left, or no page above
    pub going_ends : (length left ≡ 0) ⊎ (length held < size) → ws ≡ all x h
    going_ends e =
        ⊎_elim
        (λ none. climb_alone x h g.under (omega (arith, none, ap length g.left_is, length-drop turn siblings)))
        (λ few. climb_top x h g.under (omega (arith, few, g.two)))
        e

    -- one more of each: a page, its father and its sibling
    module _ (s : ℕ) (more pair : List ℕ) (first : left ≡ s ∷ more) (enough : size ≤ length held)
        (last : pair ≡ drop (length held - size) held) where
      father : get_or pair 0 0 ≡ get_or path (length held - 1 - 1) 0
      father = pair_father path held pair g.part g.two enough last

      page : get_or pair 1 0 ≡ get_or path (length held - 1) 0
      page = pair_page path held pair g.part g.two enough last

      below : 0 < length held - 1
      below = omega (arith, g.two)

      has_sibling : turn < length siblings
      has_sibling = omega (arith, ap length first, ap length g.left_is, length-drop turn siblings)

      both : s ∷ more ≡ get_or siblings turn 0 ∷ drop (turn + 1) siblings
      both = sym first ∙ g.left_is ∙ drop_more siblings turn 0 has_sibling

      is_sibling : get_or siblings turn 0 ≡ s
      is_sibling = let e = both in cc

      -- what is known of this page is known of the path's
      owned : {own : ℕ} → own ≡ μ (page_at k ws (get_or pair 1 0)) → own ≡ μ (page_at k ws (get_or path (length held - 1) 0))
      owned e = e ∙ ap (λ (q : ℕ). μ (page_at k ws q)) page

      told_here : {vs : List ℕ} {up : Bool} → Mended k ws x (get_or pair 0 0) (get_or pair 1 0) s vs up
          → Mended k ws x (get_or path (length held - 1 - 1) 0) (get_or path (length held - 1) 0) (get_or siblings turn 0) vs up
      told_here {vs} {up} m =
          subst (λ (q : ℕ). Mended k ws x (get_or path (length held - 1 - 1) 0) (get_or path (length held - 1) 0) q vs up) (sym is_sibling)
          (subst₂ (λ (f p : ℕ). Mended k ws x f p s vs up) father page m)

      pub going_readable : Readable (words_of k (get_or pair 1 0) ws)
      going_readable = subst (λ (q : ℕ). Readable (words_of k q ws)) (sym page) (page_readable x h g.under)

      module _ {own : ℕ} (e : own ≡ μ (page_at k ws (get_or pair 1 0))) where
        pub going_enough : k ≤ own → ws ≡ all x h
        going_enough l = climb_enough x h g.under (owned e) l

        pub going_mends : own < k → Mending k n ws (get_or pair 0 0) (get_or pair 1 0) s
        going_mends l =
            subst (Mending k n ws (get_or pair 0 0) (get_or pair 1 0)) is_sibling
            (subst₂ (λ (f p : ℕ). Mending k n ws f p (get_or siblings turn 0)) (sym father) (sym page)
            (climb_mends x h g.under below has_sibling (owned e) l))

        module _ (short : own < k) {vs : List ℕ} {up : Bool} (mended : Mended k ws x (get_or pair 0 0) (get_or pair 1 0) s vs up) where
          pub going_stays : up ≡ false → vs ≡ all x h
          going_stays t = climb_stays x h g.under below has_sibling (owned e) short (told_here mended) t

          pub going_goes : up ≡ true → {rest : List ℕ} {size' : ℕ} → size' ≡ size → rest ≡ take (length held - 1) held
              → Going k n ws₀ x path siblings vs more rest size'
          going_goes t {rest} {size'} same less =
              let (part, long) = held_less path held g.part g.some less in
              let whole = g.under.turn in
              let one : length held - 1 - 1 ≡ length rest - 1 = omega arith in
              let on : turn + 1 ≡ length path - length rest = omega (arith, below) in
              let behind : more ≡ drop (turn + 1) siblings = (let e = both in cc) in
              record {
                two = same ∙ g.two;
                some = omega (arith, below);
                part = part;
                left_is = behind ∙ ap (λ (j : ℕ). drop j siblings) on;
                under = subst₂ (λ (i j : ℕ). Underway k n ws₀ x path siblings vs i j) one on (climb_goes x h g.under below has_sibling (owned e) short (told_here mended) t);
              }

-- ---- the pages that the rule has still to write

-- one of the two is the page
member_pair : (x : ℕ) (F : Page) (p s : ℕ) (rest : List ℕ) → member p (left_one x F p s ∷ right_one x F p s ∷ rest) ≡ true
unfolding member
member_pair x F p s rest =
    ⊎_elim
    (λ t. or_first (eqb p (right_one x F p s) || member p rest) (eq-eqb p (left_one x F p s) (sym (cond-true p s t))))
    (λ t. or_second (eqb p (left_one x F p s)) (or_first (member p rest) (eq-eqb p (right_one x F p s) (sym (cond-false s p t)))))
    (true_or_false (has_right x F))

alone_covers : {k n p : ℕ} {P : Page} (list : List Write) → FitWrite k n (write p P) → list ≡ write p P ∷ [] → Covers k n p list
unfolding member
alone_covers {k} {n} {p} list fit e = subst (Covers k n p) (sym e) ((fit, tt), or_first false (eq-eqb p p refl))

-- a number that is not 0 is more
pos : (i : ℕ) → (i ≡ 0 → ⊥) → 0 < i
pos zero ne = absurd (ne refl)
pos (suc i) ne = omega arith

module _ {k n : ℕ} {ws₀ path siblings : List ℕ} (x : ℕ) (h : Climbing k n ws₀ path siblings)
    {ws : List ℕ} {i j : ℕ} (u : Underway k n ws₀ x path siblings ws i j) (below : 0 < i) (more : j < length siblings)
    (short : μ (page_at k ws (get_or path i 0)) < k) where
  abbrev down : ℕ
  down = get_or path (i - 1) 0

  abbrev left : ℕ
  left = get_or siblings j 0

  abbrev after : List ℕ
  after =
      applied k (round k x (get_or path i 0) (page_at k ws (get_or path i 0)) left (page_at k ws left) down (page_at k ws down)) ws

  abbrev answer : Bool
  answer = lost (ltb k (μ (page_at k ws left))) down (page_at k ws down) (between_at x (page_at k ws down))

  -- one round, and what is above if the father lost a key
  round_or_up : ((v : Underway k n ws₀ x path siblings after (i - 1) (j + 1))
      → Covers k n down (shrunk k (page_at k ws₀) x (upward (i - 1) path) (drop (j + 1) siblings) down v.value))
      → Covers k n (get_or path i 0) (shrunk k (page_at k ws₀) x (upward i path) (drop j siblings) (get_or path i 0) u.value)
  unfolding goes_on
  round_or_up above =
      ⊎_elim
      (λ t.
      let v = goes_on x h u below more refl short (refl, refl) t in
      let lostIt = sym (told x h u below more refl short {vs = after} {up = answer} (refl, refl)) ∙ t in
      let fit = subst (AllFit k n) (round_goes k (page_at k ws₀) x (get_or path i 0) u.value down (upward (i - 1) path) left (drop (j + 1) siblings) (short_value x h u below more refl short {vs = after} {up = answer} (refl, refl)) lostIt) (covers x h u below more refl short {vs = after} {up = answer} (refl, refl)).0 in
      subst (Covers k n (get_or path i 0))
      (sym
      (by_father x h u below more refl short {vs = after} {up = answer} (refl, refl)
      ∙ shrunk_goes k (page_at k ws₀) x (get_or path i 0) u.value down (upward (i - 1) path) left (drop (j + 1) siblings) (short_value x h u below more refl short {vs = after} {up = answer} (refl, refl)) lostIt))
      ((fit.0, (fit.1.0, (above v).0)), member_pair x (page_at k ws₀ down) (get_or path i 0) left _))
      (λ t.
      subst (Covers k n (get_or path i 0))
      (sym
      (by_father x h u below more refl short {vs = after} {up = answer} (refl, refl)
      ∙ shrunk_stays k (page_at k ws₀) x (get_or path i 0) u.value down (upward (i - 1) path) left (drop (j + 1) siblings) (short_value x h u below more refl short {vs = after} {up = answer} (refl, refl))
      (sym (told x h u below more refl short {vs = after} {up = answer} (refl, refl)) ∙ t)))
      (covers x h u below more refl short {vs = after} {up = answer} (refl, refl)))
      (true_or_false answer)

module _ {k n : ℕ} {ws₀ path siblings : List ℕ} (x : ℕ) (h : Climbing k n ws₀ path siblings) where
  -- each page that the rule has still to write fits, and the page at index i is one of them
  pub way_covers : (fuel : ℕ) {ws : List ℕ} {i j : ℕ} (u : Underway k n ws₀ x path siblings ws i j) → i ≤ fuel
      → Covers k n (get_or path i 0) (shrunk k (page_at k ws₀) x (upward i path) (drop j siblings) (get_or path i 0) u.value)
  way_covers zero {ws} {i} {j} u l = alone_covers _ (fit_here x h u) (still_top x h u (omega arith))
  way_covers (suc fuel) {ws} {i} {j} u l =
      ⊎_elim
      (λ t. alone_covers _ (fit_here x h u) (still_top x h u (eqb-true i 0 t)))
      (λ inner.
      ⊎_elim
      (λ more.
      ⊎_elim
      (λ t. alone_covers _ (fit_here x h u)
      (shrunk_enough k (page_at k ws₀) x (get_or path i 0) u.value (upward i path) (drop j siblings) (leb-true k (μ u.value) t)))
      (λ t.
      let below : 0 < i = pos i (eqb-false i 0 inner) in
      let besides : j < length siblings = ltb-true j (length siblings) more in
      let short : μ (page_at k ws (get_or path i 0)) < k = subst (λ (m : ℕ). m < k) (sym (ap μ (page_value x h u))) (leb-false k (μ u.value) t) in
      round_or_up x h u below besides short
      (λ v. way_covers fuel v (omega arith)))
      (true_or_false (leb k (μ u.value))))
      (λ none. alone_covers _ (fit_here x h u) (still_alone x h u (ltb-false j (length siblings) none)))
      (true_or_false (ltb j (length siblings))))
      (true_or_false (eqb i 0))

  -- the rule's writes over the words before the leaf was written
  pub climbed_over : (ws : List ℕ) (P : Page) → length ws ≡ pool_length k n → Fits k P → ws₀ ≡ written k (write (leaf_of (length path) path) P) ws
      → applied k (shrunk k (page_at k ws₀) x (fathers_of (length path) path) siblings (leaf_of (length path) path) (page_at k ws₀ (leaf_of (length path) path))) ws₀
      ≡ applied k (shrunk k (page_at k ws₀) x (fathers_of (length path) path) siblings (leaf_of (length path) path) (page_at k ws₀ (leaf_of (length path) path))) ws
  unfolding starts_here
  climbed_over ws P whole fits e =
      let some : 1 ≤ length path = h.some in
      let list : List Write = shrunk k (page_at k ws₀) x (fathers_of (length path) path) siblings (leaf_of (length path) path) (page_at k ws₀ (leaf_of (length path) path)) in
      let cover : Covers k n (leaf_of (length path) path) list = way_covers (length path) (starts_here x h) (omega arith) in
      ap (applied k list) e
      ∙ applied_over k n list (write (leaf_of (length path) path) P) ws whole cover.0
      (record { in_pool = (h.path_in (length path - 1) (omega arith)).inside; fits = fits })
      cover.1

-- memories that agree on the pages above and beside
pub shrunk_memory : (k : ℕ) (m m' : ℕ → Page) (x : ℕ) (fathers siblings : List ℕ) (p : ℕ) (P : Page)
    → ((q : ℕ) → member q fathers ≡ true → m q ≡ m' q)
    → ((q : ℕ) → member q siblings ≡ true → m q ≡ m' q)
    → shrunk k m x fathers siblings p P ≡ shrunk k m' x fathers siblings p P
unfolding shrunk member
shrunk_memory k m m' x [] siblings p P a b = refl
shrunk_memory k m m' x (f ∷ up) [] p P a b = refl
shrunk_memory k m m' x (f ∷ up) (s ∷ siblings) p P a b =
    let more = shrunk_memory k m m' x up siblings f (less_key (between_at x (m' f)) (m' f)) (λ q t. a q (or_second (eqb q f) t)) (λ q t. b q (or_second (eqb q s) t)) in
    rw (a f (or_first (member f up) (eq-eqb f f refl)), b s (or_first (member s siblings) (eq-eqb s s refl)), more)
