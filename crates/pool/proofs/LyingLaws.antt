-- Where pages lie, for the code: no number of words wraps, and the free pages behind a page.
use Prim.Native.Nat.{ℕ, zero, suc, ◌+◌, ◌-◌, ◌*◌, ◌≤◌, ◌<◌}
use mathlib.Core.Bool.{Bool, true, false, not, ◌&&◌}
use mathlib.Core.List.{List, [], ◌∷◌, ◌++◌, append-nil}
use mathlib.Core.Logic.{⊎_elim}
use mathlib.Core.Path.{◌≡◌, refl, sym, ap, ap₂, ◌∙◌, subst}
use native.Mathlib.Nat.{mul-le-mul}
use native.Mathlib.Omega.{arith}
use borrow.Author.Tests.{leb-true, le-leb, lt-leb, eq-eqb, ne_eqb, ltb-true, ltb-false}
use lib.Dec.{leb, eqb, ltb}
use lib.ListN.{length, get_or, take, drop, set, length-append}
use lib.Seq.{get_or-take, get_or-drop, drop-cons, append_snoc, take_at}
use Rattle.std.specs.Prelude.{Some, None}
use Rattle.ground.specs.Limits.{largest_k, largest_n, most_new}
use Rattle.ground.specs.Tests.{list_below, first_below, padded, filled}
use Rattle.ground.proofs.Bools.{and_first, and_both, and_first_fails, and_second_fails, not_of_false, true_or_false}
use Rattle.ground.proofs.Padded.{length_padded, padded_at, padded_set}
use Rattle.pool.proofs.StretchLaws.{ends_in_pool}
use Rattle.ground.proofs.Tests.{first_below_stops, list_below_same, list_below_fails, list_below_first, list_below_less, list_below_from, member_at, first_below_fails, first_below_most, first_below_passes, first_below_before, first_below_all_fail}
use Rattle.page.specs.Words.{size}
use Rattle.pool.proofs.FreshLaws.{zeros, take_zeros, drop_zeros}
use Rattle.pool.specs.Pool.{start, words_of, is_free, free_pages, free_from}
use Rattle.pool.specs.Scan.{Scanned}

-- a pool has few words
pub start_few : (k p : ℕ) → k ≤ largest_k → p ≤ largest_n → start k p ≤ largest_n * size largest_k
unfolding start
start_few k p h b = let few : size k ≤ size largest_k = omega arith in mul-le-mul b few

-- the level of page p is the word at its start
pub level_word : (k p at : ℕ) (ws : List ℕ) → at ≡ start k p → get_or (words_of k p ws) 0 0 ≡ get_or ws at 0
unfolding words_of
level_word k p at ws e =
    let here : start k p + 0 ≡ at = omega arith in
    get_or-take (size k) (drop (start k p) ws) 0 0 (omega arith)
    ∙ get_or-drop (start k p) ws 0 0
    ∙ ap (λ (i : ℕ). get_or ws i 0) here

module _ (k : ℕ) (ws : List ℕ) where
  -- ---- a scan that stands at page p and at its first word

  -- the word is 0: the page is free
  pub scan_finds : (from p at : ℕ) → at ≡ start k p → 1 ≤ from → from ≤ p → get_or ws at 0 ≡ 0 → free_from k ws from p ≡ true
  unfolding is_free
  scan_finds from p at e up h z =
      and_both (le-leb from p h)
      (and_both
      (not_of_false (ne_eqb p 0 (omega arith)))
      (eq-eqb (get_or (words_of k p ws) 0 0) 0 (level_word k p at ws e ∙ z)))

  -- the word is not 0: the page is not free
  pub scan_passes : (from p at : ℕ) → at ≡ start k p → (get_or ws at 0 ≡ 0 → ⊥) → free_from k ws from p ≡ false
  unfolding is_free
  scan_passes from p at e ne =
      and_second_fails (leb from p)
      (and_second_fails (not (eqb p 0)) (ne_eqb (get_or (words_of k p ws) 0 0) 0 (λ z. ne (sym (level_word k p at ws e) ∙ z))))

  -- no page below `from` is looked at
  pub scan_starts : (from : ℕ) → first_below from (free_from k ws from) ≡ from
  scan_starts from = first_below_fails (free_from k ws from) from (λ i h. and_first_fails (is_free k ws i) (lt-leb from i h))

  -- ---- the free pages behind a page

  module _ (n : ℕ) where
    -- from page 1 on they are all free pages
    pub free_from_one : list_below n (free_from k ws 1) ≡ free_pages k n ws
    unfolding free_pages is_free
    free_from_one = list_below_same (free_from k ws 1) (is_free k ws) n same
      where
        same : (i : ℕ) → i < n → free_from k ws 1 i ≡ is_free k ws i
        same zero h = refl
        same (suc i) h = ap (λ (t : Bool). t && is_free k ws (suc i)) (le-leb 1 (suc i) (omega arith))

    -- none is found: there are none
    pub free_from_none : (from : ℕ) → first_below n (free_from k ws from) ≡ n → list_below n (free_from k ws from) ≡ []
    free_from_none from e = list_below_fails (free_from k ws from) n (first_below_all_fail (free_from k ws from) n e)

    -- page p is found: it is the first, and the others are those behind it
    pub free_from_next : (from p : ℕ) → first_below n (free_from k ws from) ≡ p → p < n
        → list_below n (free_from k ws from) ≡ p ∷ list_below n (free_from k ws (p + 1))
    free_from_next from p e h =
        let old : ℕ → Bool = free_from k ws from in
        let rest : ℕ → Bool = free_from k ws (p + 1) in
        let passed : old p ≡ true = subst (λ (q : ℕ). old q ≡ true) e (first_below_passes old n (omega arith)) in
        let reached = leb-true from p (and_first (leb from p) (is_free k ws p) passed) in
        let fails : rest p ≡ false = and_first_fails (is_free k ws p) (lt-leb (p + 1) p (omega arith)) in
        let before : ((i : ℕ) → i < p → old i ≡ false) = λ i l. first_below_before old n i (omega arith) in
        let found = member_at p (list_below n old) 0 (list_below_from old n p h passed) in
        drop-cons (list_below n old) 0 0 (omega (arith, found.1))
        ∙ ap₂ (λ (q : ℕ) (qs : List ℕ). q ∷ qs) (list_below_first old n 0 (omega arith) ∙ e)
        (sym (list_below_less old rest p passed fails n h before
        (λ i l ne. ⊎_elim
        (λ t. let b = ltb-true i p t in and_first_fails (is_free k ws i) (lt-leb (p + 1) i (omega arith)) ∙ sym (before i b))
        (λ f. let b = ltb-false i p f in
        ap (λ (t : Bool). t && is_free k ws i) (le-leb (p + 1) i (omega arith) ∙ sym (le-leb from i (omega arith))))
        (true_or_false (ltb i p)))))

-- ---- free pages taken one after the other

-- The first i free pages are taken and stand in the first of `need` cells; the others are those behind the last one taken.
pub record Taking (k n need : ℕ) (ws pages : List ℕ) (from i : ℕ) : Type 0 where
  pub taken : List ℕ
  pub few : i ≤ need
  pub behind : 1 ≤ from
  pub within : from ≤ n
  pub whole : free_pages k n ws ≡ taken ++ list_below n (free_from k ws from)
  pub counted : length taken ≡ i
  pub cells : pages ≡ padded need taken

module _ (k n need : ℕ) (ws : List ℕ) (most : need ≤ most_new) where
  -- none is taken yet
  pub taking_starts : 1 ≤ n → Taking k n need ws (take need (zeros most_new)) 1 0
  unfolding filled
  taking_starts h =
      let all : need ≡ need - 0 = omega arith in
      record {
        taken = [];
        few = omega arith;
        behind = omega arith;
        within = h;
        whole = sym (free_from_one k ws n);
        counted = refl;
        cells = take_zeros need most_new most ∙ ap zeros all;
      }

  module _ (pages : List ℕ) (from i : ℕ) (was : Taking k n need ws pages from i) where
    -- one more is taken
    pub taking_on : (p : ℕ) → i < need → p ≡ first_below n (free_from k ws from) → (p ≡ n → ⊥)
        → Taking k n need ws (set pages i p) (p + 1) (i + 1)
    taking_on p more found ne =
        let below : p < n = omega (arith, first_below_most (free_from k ws from) n) in
        record {
          taken = was.taken ++ p ∷ [];
          few = omega arith;
          behind = omega arith;
          within = omega arith;
          whole = was.whole
              ∙ ap (λ (ps : List ℕ). was.taken ++ ps) (free_from_next k ws n from p (sym found) below)
              ∙ sym (append_snoc was.taken p (list_below n (free_from k ws (p + 1))));
          counted = omega (arith, length-append was.taken (p ∷ []), was.counted);
          cells = ap (λ (ps : List ℕ). set ps i p) was.cells ∙ padded_set need was.taken i p was.counted more;
        }

    -- as many are taken as are needed: the cells hold them and no more, and behind them stands nothing
    pub taking_done : need ≤ i → Scanned need (free_pages k n ws) (Some (pages ++ drop need (zeros most_new)))
    unfolding filled
    taking_done h =
        let all : length was.taken ≡ need = omega (arith, was.few, was.counted) in
        let none : need - length was.taken ≡ 0 = omega arith in
        let rest : List ℕ = list_below n (free_from k ws from) in
        let full : pages ≡ was.taken =
        was.cells ∙ ap (λ (m : ℕ). was.taken ++ zeros m) none ∙ append-nil was.taken in
        let same : pages ++ drop need (zeros most_new) ≡ padded most_new was.taken =
        ap₂ (λ (ps qs : List ℕ). ps ++ qs) full
        (drop_zeros need most_new most ∙ ap (λ (m : ℕ). zeros (most_new - m)) (sym all)) in
        record {
          enough = sym (le-leb need (length (free_pages k n ws))
              (omega (arith, ap length was.whole, length-append was.taken rest)));
          pages = same ∙ ap (padded most_new) (sym (ap (take need) was.whole ∙ take_at was.taken rest need all));
          cells = ap length same ∙ length_padded most_new was.taken (omega arith);
        }

    -- there is none left and more are needed
    pub taking_stops : i < need → first_below n (free_from k ws from) ≡ n → Scanned need (free_pages k n ws) None
    taking_stops h none =
        let all : free_pages k n ws ≡ was.taken =
        was.whole ∙ ap (λ (ps : List ℕ). was.taken ++ ps) (free_from_none k ws n from none) ∙ append-nil was.taken in
        record {
          enough = sym (lt-leb need (length (free_pages k n ws)) (omega (arith, ap length all, was.counted)));
          pages = tt;
          cells = tt;
        }

-- of the pages found, the one in cell i is the free page at index i
pub scanned_at : {need : ℕ} {free pages : List ℕ} → Scanned need free (Some pages)
    → (i : ℕ) → i < need → get_or pages i 0 ≡ get_or free i 0
scanned_at {need} {free} found i h =
    ap (λ (ps : List ℕ). get_or ps i 0) found.pages
    ∙ padded_at most_new (take need free) i
    ∙ get_or-take need free i 0 h

-- what the functions that look for pages are told
pub ruleset lying_known = (start_few, ends_in_pool, scan_starts, scan_finds, scan_passes, first_below_most, first_below_stops)
