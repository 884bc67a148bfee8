-- Opening: the test of a pool that is handed in accepts exactly the words that form a tree without the lot of a blank tag. 02 (vii): "a check that accepts words with
-- k and N exactly if they form the B*-tree of document 01 from page 0, every other page is all zeros, and no page hangs in two places".
use Prim.Native.Nat.{ℕ, zero, suc, ◌+◌, ◌*◌, ◌≤◌, ◌<◌}
use mathlib.Core.Bool.{Bool, true, false, not, ◌&&◌, ◌||◌}
use mathlib.Core.List.{List, [], ◌∷◌, map}
use mathlib.Core.Logic.{⊎_elim}
use mathlib.Core.Path.{◌≡◌, refl, sym, ap, ◌∙◌, subst}
use native.Mathlib.Omega.{arith}
use borrow.Author.Tests.{leb-true, leb-false, le-leb, ltb-true, lt-ltb, eqb-true, eq-eqb, ne_eqb}
use lib.Dec.{leb, ltb, eqb}
use lib.ListN.{length, drop, replicate, length-map}
use Rattle.ground.specs.Limits.{largest_n, word_range, blank_key}
use Rattle.ground.specs.Tests.{all, member, distinct, all_below}
use Rattle.ground.proofs.Bools.{and_first, and_second, and_both, or_first, or_second, or_cases, or_none, not_of_false, not_both}
use Rattle.ground.proofs.Choice.{by_test, cond_ind}
use Rattle.ground.proofs.Limits.{range_rises}
use Rattle.ground.proofs.Tests.{all_below_at, all_below_from}
use Rattle.page.specs.Words.{Keyed, Entry, Page, keyed, entry, page, μ, is_leaf, value_of, pointers, free_page, encode, view, size}
use Rattle.page.specs.Place.{has}
use Rattle.page.specs.Sound.{rises_from, rises, least, sound_by_itself}
use Rattle.page.proofs.WordLaws.{all_zero, zeros_pass, encode_free, view_encode, free_fits}
use Rattle.page.proofs.PlaceLaws.{has_append}
use Rattle.page.proofs.SoundPage.{SoundPage, sound_words}
use Rattle.pool.specs.Pool.{pool_length, words_of, page_at}
use Rattle.pool.proofs.StretchLaws.{length_words_of}
use Rattle.opening.specs.Opening.{is_zero, sound_alone, lowest_unsound, within, children, hangs, for_each, met, depth, is_tree}
use Rattle.opening.proofs.PageLaws.{level_sound, on_level}
use Rattle.opening.proofs.CheckLaws.{none_unsound, none_from}
use Rattle.tree.specs.Rows.{head_key, Span, Each, gathered, total, top_pointer, references}
use Rattle.tree.specs.Tree.{Tr, page_number, entries_of, node, once, occurs, InRange, root_least, Holds, Forms, PoolForms}
use Rattle.tree.proofs.Rows.{Keys, keys_below, keys_from}
use Rattle.tree.proofs.Memory.{once_same, once_is, times, times_append, times_member, times_absent, distinct_times, times_distinct, root_occurs}
use Rattle.tree.proofs.Sorted.{Anything, Within, within_references}
use Rattle.tree.proofs.SoundPages.{numbers, row_pointers, pool_sound}
use Rattle.tree.proofs.Determined.{root_level}
use Rattle.tree.proofs.Words.{outside_words}
use Rattle.tree.proofs.Pages.{no_leaf}

-- ---- keys in a range

-- where keys pass the test of a range, the first is in it,
first_within : (lo hi : ℕ) (e : Entry) (es : List Entry) → within lo hi (e ∷ es) ≡ true → (lo ≤ e.key) × (e.key < hi)
unfolding within all
first_within lo hi e es w =
    let here = and_first (leb lo e.key && ltb e.key hi) (within lo hi es) w in
    (leb-true lo e.key (and_first (leb lo e.key) (ltb e.key hi) here), ltb-true e.key hi (and_second (leb lo e.key) (ltb e.key hi) here))

-- and those behind it pass the test
later_within : (lo hi : ℕ) (e : Entry) (es : List Entry) → within lo hi (e ∷ es) ≡ true → within lo hi es ≡ true
unfolding within all
later_within lo hi e es w = and_second (leb lo e.key && ltb e.key hi) (within lo hi es) w

-- rising keys that pass the test of a range are in it
test_within : (lo hi : ℕ) (es : List Entry) → lo ≤ hi → rises es ≡ true → within lo hi es ≡ true → Within lo es hi
unfolding rises rises_from
test_within lo hi [] h t w = (h, tt)
test_within lo hi (e ∷ []) h t w = let here = first_within lo hi e [] w in (here.0, (here.1, tt, tt))
test_within lo hi (e ∷ (f ∷ fs)) h t w =
    let a : Bool = ltb e.key f.key in
    let b : Bool = rises_from f.key fs in
    let rest = test_within lo hi (f ∷ fs) h (and_second a b t) (later_within lo hi e (f ∷ fs) w) in
    ((first_within lo hi e (f ∷ fs) w).0, (ltb-true e.key f.key (and_first a b t), tt, rest.1))

-- keys from lo on and below hi pass the test,
keys_test : (lo hi : ℕ) (es : List Entry) → Keys (λ k. lo ≤ k) es → Keys (λ k. k < hi) es → within lo hi es ≡ true
unfolding within all
keys_test lo hi [] a b = refl
keys_test lo hi (e ∷ es) a b =
    and_both (and_both (le-leb lo e.key a.0) (lt-ltb e.key hi b.0)) (keys_test lo hi es a.1 b.1)

-- and so do rising ones in the range
within_test : (lo hi : ℕ) (es : List Entry) → Within lo es hi → within lo hi es ≡ true
within_test lo hi es w = keys_test lo hi es (keys_from Anything es lo hi w.0 w.1) (keys_below Anything es hi w.1)

-- ---- the pages that are met are the tree's

module _ (k : ℕ) (memory : ℕ → Page) where
  -- below a row of trees the pages of each are met
  row_met : (l q : ℕ) (row : List (Keyed (Tr l))) (hi : ℕ)
      → ((c : Tr l) (a b : ℕ) → InRange k k (2 * k) l c a b → Holds memory l c → times q (met memory l (page_number l c)) ≡ occurs q l c)
      → Span (InRange k k (2 * k) l) row hi → Each (Holds memory l) row
      → times q (for_each (met memory l) (numbers l row)) ≡ total (occurs q l) row
  unfolding for_each
  row_met l q [] hi same s h = refl
  row_met l q (d ∷ ds) hi same s h =
      let here = same d.value d.key (head_key ds hi) s.1 h.0 in
      let rest = row_met l q ds hi same s.2 h.1 in
      omega (arith, times_append q (met memory l (page_number l d.value)) (for_each (met memory l) (numbers l ds)))

  -- each page is met as often as it is a page of the tree
  tree_met : (m M l : ℕ) (t : Tr l) (lo hi q : ℕ) → InRange k m M l t lo hi → Holds memory l t → times q (met memory l (page_number l t)) ≡ occurs q l t
  unfolding met
  tree_met m M zero t lo hi q r h = omega arith
  tree_met m M (suc l) t lo hi q r h =
      let ps : pointers (memory t.at) ≡ numbers l t.row
      = ap pointers h.0 ∙ row_pointers (suc (suc l)) l t.row (omega (arith, r.least)) in
      ap (λ (qs : List ℕ). once q t.at + times q (for_each (met memory l) qs)) ps
      ∙ ap (λ (m : ℕ). once q t.at + m)
      (row_met l q t.row hi (λ c a b s g. tree_met k (2 * k) l c a b q s g) r.children h.1)

  -- from page 0, too, where it is the root
  root_met : (m M l : ℕ) (t : Tr l) (lo hi : ℕ) → page_number l t ≡ 0 → InRange k m M l t lo hi → Holds memory l t
      → (q : ℕ) → times q (met memory l 0) ≡ occurs q l t
  root_met m M l t lo hi root r h q = ap (λ (p : ℕ). times q (met memory l p)) (sym root) ∙ tree_met m M l t lo hi q r h

  -- ---- from the tree to the test

  -- the reference keys of a row are behind its first key
  row_keys : (l : ℕ) (row : List (Keyed (Tr l))) (lo hi : ℕ) → head_key row hi ≡ lo → Span (InRange k k (2 * k) l) row hi
      → within (suc lo) hi (references (page_number l) (drop 1 row)) ≡ true
  row_keys l [] lo hi low s = keys_test (suc lo) hi [] tt tt
  row_keys l (d ∷ ds) lo hi low s =
      let w = within_references (InRange k k (2 * k) l) (page_number l) ds hi s.2 in
      within_test (suc lo) hi (references (page_number l) ds) (omega (arith, w.0, s.0), w.1)

  -- each tree of a row hangs in its range
  row_hangs : (l : ℕ) (d : Keyed (Tr l)) (ds : List (Keyed (Tr l))) (hi : ℕ)
      → ((c : Tr l) (a b : ℕ) → InRange k k (2 * k) l c a b → Holds memory l c → hangs memory l (page_number l c) a b ≡ true)
      → Span (InRange k k (2 * k) l) (d ∷ ds) hi → Each (Holds memory l) (d ∷ ds)
      → children (hangs memory l) (page_number l d.value) d.key (references (page_number l) ds) hi ≡ true
  unfolding children
  row_hangs l d [] hi f s h = f d.value d.key hi s.1 h.0
  row_hangs l d (e ∷ es) hi f s h = and_both (f d.value d.key e.key s.1 h.0) (row_hangs l e es hi f s.2 h.1)

  -- a tree hangs in its range
  tree_hangs : (m M l : ℕ) (t : Tr l) (lo hi : ℕ) → InRange k m M l t lo hi → Holds memory l t → hangs memory l (page_number l t) lo hi ≡ true
  unfolding hangs
  tree_hangs m M zero t lo hi r h =
      and_both (eq-eqb (memory t.at).level 1 (ap (λ (P : Page). P.level) h))
      (ap (λ (P : Page). within lo hi P.entries) h ∙ within_test lo hi t.entries (r.low, r.rising))
  tree_hangs m M (suc l) t lo hi r h =
      and_both
      (and_both (eq-eqb (memory t.at).level (suc (suc l)) (ap (λ (P : Page). P.level) h.0))
      (ap (λ (P : Page). within (suc lo) hi P.entries) h.0 ∙ row_keys l t.row lo hi r.low r.children))
      (ap (λ (P : Page). children (hangs memory l) P.first lo P.entries hi) h.0
      ∙ below t.row (omega (arith, r.least)) r.low r.children h.1 (λ c a b s g. tree_hangs k (2 * k) l c a b s g))
    where
      below : (row : List (Keyed (Tr l))) → 1 ≤ length row → head_key row hi ≡ lo → Span (InRange k k (2 * k) l) row hi → Each (Holds memory l) row
          → ((c : Tr l) (a b : ℕ) → InRange k k (2 * k) l c a b → Holds memory l c → hangs memory l (page_number l c) a b ≡ true)
          → children (hangs memory l) (top_pointer (page_number l) row) lo (references (page_number l) (drop 1 row)) hi ≡ true
      below [] some low s g f = absurd (omega arith)
      below (d ∷ ds) some low s g f =
          subst (λ (a : ℕ). children (hangs memory l) (page_number l d.value) a (references (page_number l) ds) hi ≡ true) low
          (row_hangs l d ds hi f s g)

-- ---- from the test to the tree

-- Page p of the memory is the root page of a tree, with the range from lo to hi and at least m in it, whose pages are all below n.
record Hanging (k n : ℕ) (memory : ℕ → Page) (m l p lo hi : ℕ) : Type 0 where
  tree : Tr l
  number : page_number l tree ≡ p
  in_range : InRange k m (2 * k) l tree lo hi
  holds : Holds memory l tree
  in_pool : (q : ℕ) → 1 ≤ occurs q l tree → q < n

-- The same of a row of trees: the first one's page is p, and its range begins at lo; the others stand behind their references.
record HangingRow (k n : ℕ) (memory : ℕ → Page) (l p lo : ℕ) (es : List Entry) (hi : ℕ) : Type 0 where
  first : Tr l
  rest : List (Keyed (Tr l))
  number : page_number l first ≡ p
  behind : references (page_number l) rest ≡ es
  in_range : Span (InRange k k (2 * k) l) (keyed lo first ∷ rest) hi
  holds : Each (Holds memory l) (keyed lo first ∷ rest)
  in_pool : (q : ℕ) → 1 ≤ total (occurs q l) (keyed lo first ∷ rest) → q < n

-- the first page that a page points to is a page of the pool other than page 0,
first_pointer : (n p : ℕ) (ps : List ℕ) → all (λ (q : ℕ). leb 1 q && ltb q n) (p ∷ ps) ≡ true → (1 ≤ p) × (p < n)
unfolding all
first_pointer n p ps t =
    let here = and_first (leb 1 p && ltb p n) (all (λ (q : ℕ). leb 1 q && ltb q n) ps) t in
    (leb-true 1 p (and_first (leb 1 p) (ltb p n) here), ltb-true p n (and_second (leb 1 p) (ltb p n) here))

-- and so are those behind it
later_pointers : (n p : ℕ) (ps : List ℕ) → all (λ (q : ℕ). leb 1 q && ltb q n) (p ∷ ps) ≡ true → all (λ (q : ℕ). leb 1 q && ltb q n) ps ≡ true
unfolding all
later_pointers n p ps t = and_second (leb 1 p && ltb p n) (all (λ (q : ℕ). leb 1 q && ltb q n) ps) t

-- a page other than page 0 needs k
least_child : (k q : ℕ) (leaf : Bool) → 1 ≤ q → k ≤ least k q leaf
least_child k q leaf one =
    cond_ind (λ (v : ℕ). k ≤ v) (eqb q 0) (λ y. let z = eqb-true q 0 y in absurd (omega arith)) (λ f. omega arith)

module _ (k n : ℕ) (memory : ℕ → Page) where
  -- pages that hang side by side, each the root page of a tree, give a row of trees
  hanging_row : (l p lo : ℕ) (es : List Entry) (hi : ℕ)
      → ((p lo hi : ℕ) → (1 ≤ p) × (p < n) → lo < hi → hangs memory l p lo hi ≡ true → Hanging k n memory k l p lo hi)
      → Span Anything (entry lo p ∷ es) hi → all (λ (q : ℕ). leb 1 q && ltb q n) (p ∷ map value_of es) ≡ true
      → children (hangs memory l) p lo es hi ≡ true → HangingRow k n memory l p lo es hi
  unfolding children
  hanging_row l p lo [] hi grow s inside c =
      let b = grow p lo hi (first_pointer n p [] inside) s.0 c in
      record {
        first = b.tree;
        rest = [];
        number = b.number;
        behind = refl;
        in_range = (s.0, b.in_range, tt);
        holds = (b.holds, tt);
        in_pool = λ q o. b.in_pool q (omega arith);
      }
  hanging_row l p lo (e ∷ es) hi grow s inside c =
      let here = and_first (hangs memory l p lo e.key) (children (hangs memory l) e.value e.key es hi) c in
      let later = and_second (hangs memory l p lo e.key) (children (hangs memory l) e.value e.key es hi) c in
      let b = grow p lo e.key (first_pointer n p (map value_of (e ∷ es)) inside) s.0 here in
      let r = hanging_row l e.value e.key es hi grow s.2 (later_pointers n p (map value_of (e ∷ es)) inside) later in
      record {
        first = b.tree;
        rest = keyed e.key r.first ∷ r.rest;
        number = b.number;
        behind = λ i. entry e.key (r.number i) ∷ r.behind i;
        in_range = (s.0, b.in_range, r.in_range);
        holds = (b.holds, r.holds);
        in_pool = λ q o.
            by_test (leb 1 (occurs q l b.tree))
            (λ y. b.in_pool q (leb-true 1 (occurs q l b.tree) y))
            (λ z. let none = leb-false 1 (occurs q l b.tree) z in r.in_pool q (omega arith));
      }

  -- a page above a row of trees is the root page of a tree
  hanging_upper : (m l p lo hi : ℕ) → p < n → (memory p).level ≡ suc (suc l) → m ≤ μ (memory p) → μ (memory p) ≤ 2 * k
      → HangingRow k n memory l (memory p).first lo (memory p).entries hi → Hanging k n memory m (suc l) p lo hi
  hanging_upper m l p lo hi inside level enough room row =
      let many = length-map row.rest (λ (d : Keyed (Tr l)). entry d.key (page_number l d.value)) in
      let same = ap length row.behind in
      record {
        tree = node p (keyed lo row.first ∷ row.rest);
        number = refl;
        in_range = record { least = omega arith; most = omega arith; low = refl; children = row.in_range };
        holds = (λ i. page (level i) (sym row.number i) (sym row.behind i), row.holds);
        in_pool = λ q o.
            by_test (leb 1 (once q p))
            (λ y. let same = once_is q p (leb-true 1 (once q p) y) in omega arith)
            (λ z. let none = leb-false 1 (once q p) z in row.in_pool q (omega arith));
      }

  module _ (sound : (q : ℕ) → q < n → 1 ≤ (memory q).level → SoundPage k n q (memory q)) where
    -- a page that hangs in its range is the root page of a tree
    hanging : (m l p lo hi : ℕ) → p < n → lo < hi → m ≤ least k p (is_leaf (memory p)) → hangs memory l p lo hi ≡ true
        → Hanging k n memory m l p lo hi
    unfolding hangs
    hanging m zero p lo hi inside rise enough h =
        let P : Page = memory p in
        let leaf : is_leaf P ≡ true = and_first (is_leaf P) (within lo hi P.entries) h in
        let level : P.level ≡ 1 = eqb-true P.level 1 leaf in
        let s = sound p inside (omega arith) in
        let w = test_within lo hi P.entries (omega arith) s.rising (and_second (is_leaf P) (within lo hi P.entries) h) in
        record {
          tree = record { at = p; entries = P.entries };
          number = refl;
          in_range = record { least = omega (arith, s.enough); most = s.room; low = w.0; rising = w.1 };
          holds = λ i. page (level i) (s.leaf_first leaf i) P.entries;
          in_pool = λ q o. let same = once_is q p o in omega arith;
        }
    hanging m (suc l) p lo hi inside rise enough h =
        let P : Page = memory p in
        let a : Bool = eqb P.level (suc (suc l)) in
        let b : Bool = within (suc lo) hi P.entries in
        let c : Bool = children (hangs memory l) P.first lo P.entries hi in
        let ab = and_first (a && b) c h in
        let level : P.level ≡ suc (suc l) = eqb-true P.level (suc (suc l)) (and_first a b ab) in
        let s = sound p inside (omega arith) in
        let w = test_within (suc lo) hi P.entries rise s.rising (and_second a b ab) in
        hanging_upper m l p lo hi inside level (omega (arith, s.enough)) s.room
        (hanging_row l P.first lo P.entries hi
        (λ q from to there up g. hanging k l q from to there.1 up (least_child k q (is_leaf (memory q)) there.0) g)
        (w.0, tt, w.1) (s.pointers_in_pool (ap (λ (v : ℕ). eqb v 1) level ∙ no_leaf l)) (and_second (a && b) c h))

    -- page 0 is the root page of a tree, where it hangs in the range of all keys
    hanging_root : (l : ℕ) → 0 < n → hangs memory l 0 0 word_range ≡ true → Hanging k n memory (root_least l) l 0 0 word_range
    unfolding hangs
    hanging_root zero some h = hanging 0 zero 0 0 word_range some range_rises (omega arith) h
    hanging_root (suc l) some h =
        let P : Page = memory 0 in
        let a : Bool = eqb P.level (suc (suc l)) in
        let b : Bool = within 1 word_range P.entries in
        let c : Bool = children (hangs memory l) P.first 0 P.entries word_range in
        let level = eqb-true P.level (suc (suc l)) (and_first a b (and_first (a && b) c h)) in
        hanging 1 (suc l) 0 0 word_range some range_rises
        (cond_ind (λ (v : ℕ). 1 ≤ v) (is_leaf P) (λ y. let z = eqb-true P.level 1 y in absurd (omega arith)) (λ f. omega arith)) h

-- ---- the words

module _ (k n : ℕ) (ws : List ℕ) (whole : length ws ≡ pool_length k n) (q : ℕ) (inside : q < n) where
  -- the words of a page that passes the test of zeros are zeros,
  zero_words : is_zero k ws q ≡ true → words_of k q ws ≡ encode k free_page
  zero_words t =
      all_zero (words_of k q ws) t
      ∙ ap (λ (m : ℕ). replicate m 0) (length_words_of k n q ws inside whole)
      ∙ sym (encode_free k)

  -- and its value is that of a free page
  zero_page : is_zero k ws q ≡ true → page_at k ws q ≡ free_page
  unfolding page_at
  zero_page t = ap view (zero_words t) ∙ view_encode k free_page (free_fits k)

  -- a page sound by itself and on a level is a sound page
  alone_page : sound_alone k n ws q ≡ true → 1 ≤ (page_at k ws q).level → SoundPage k n q (page_at k ws q)
  alone_page t some = level_sound k n ws q inside whole (on_level k n ws q inside whole t (λ z. absurd (omega arith)))

  -- the words of a page sound by itself are those of its value
  alone_exact : sound_alone k n ws q ≡ true → words_of k q ws ≡ encode k (page_at k ws q)
  unfolding page_at
  alone_exact t =
      ⊎_elim
      (λ s. sym (sound_words k n q (words_of k q ws) (length_words_of k n q ws inside whole) s))
      (λ z.
      let zeros = and_second (not (eqb q 0)) (is_zero k ws q) z in
      zero_words zeros ∙ ap (encode k) (sym (zero_page zeros)))
      (or_cases (sound_by_itself k n q (words_of k q ws)) (not (eqb q 0) && is_zero k ws q) t)

-- The words form a tree.
pub record Accepted (k n : ℕ) (ws : List ℕ) : Type 0 where
  pub height : ℕ
  pub tree : Tr height
  pub forms : PoolForms k n ws height tree
  pub no_blank : has blank_key (entries_of height tree) ≡ false

-- where page 0 is the root page of a tree, no page is met twice from there, and what is not met is zeros, the words form that tree
hanging_forms : (k n : ℕ) (ws : List ℕ) (l : ℕ) → length ws ≡ pool_length k n → ((q : ℕ) → q < n → sound_alone k n ws q ≡ true)
    → (h : Hanging k n (page_at k ws) (root_least l) l 0 0 word_range) → distinct (met (page_at k ws) l 0) ≡ true
    → ((q : ℕ) → q < n → member q (met (page_at k ws) l 0) || is_zero k ws q ≡ true) → PoolForms k n ws l h.tree
hanging_forms k n ws l whole sound h apart rest =
    let pages : List ℕ = met (page_at k ws) l 0 in
    let counted = root_met k (page_at k ws) (root_least l) (2 * k) l h.tree 0 word_range h.number h.in_range h.holds in
    record {
      whole = whole;
      exact = λ q inside. alone_exact k n ws whole q inside (sound q inside);
      forms = record {
        root = h.number;
        in_range = h.in_range;
        holds = h.holds;
        different = λ q. omega (arith, counted q, distinct_times pages apart q);
        within = h.in_pool;
        others = λ q inside none.
            zero_page k n ws whole q inside
            (⊎_elim
            (λ y. not_both y (times_absent q pages (omega (arith, counted q))))
            (λ z. z)
            (or_cases (member q pages) (is_zero k ws q) (rest q inside)));
      };
    }

-- ---- the blank tag

module _ (memory : ℕ → Page) (x : ℕ) where
  -- a key that no leaf of a tree has, in the memory, is not among the entries: of a row of trees,
  row_lacks : (l : ℕ) (row : List (Keyed (Tr l)))
      → ((c : Tr l) → Holds memory l c → ((q : ℕ) → 1 ≤ occurs q l c → (memory q).level ≡ 1 → has x (memory q).entries ≡ false) → has x (entries_of l c) ≡ false)
      → Each (Holds memory l) row → ((q : ℕ) → 1 ≤ total (occurs q l) row → (memory q).level ≡ 1 → has x (memory q).entries ≡ false)
      → has x (gathered (entries_of l) row) ≡ false
  unfolding has
  row_lacks l [] tree h f = refl
  row_lacks l (d ∷ ds) tree h f =
      has_append x (entries_of l d.value) (gathered (entries_of l) ds)
      ∙ or_none (tree d.value h.0 (λ q o. f q (omega arith))) (row_lacks l ds tree h.1 (λ q o. f q (omega arith)))

  -- and of a tree
  tree_lacks : (l : ℕ) (t : Tr l) → Holds memory l t → ((q : ℕ) → 1 ≤ occurs q l t → (memory q).level ≡ 1 → has x (memory q).entries ≡ false)
      → has x (entries_of l t) ≡ false
  tree_lacks zero t h f =
      ap (λ (P : Page). has x P.entries) (sym h) ∙ f t.at (omega (arith, once_same t.at t.at refl)) (ap (λ (P : Page). P.level) h)
  tree_lacks (suc l) t h f = row_lacks l t.row (tree_lacks l) h.1 (λ q o. f q (omega arith))

-- where every page is sound by itself, no tree that the words form has the lot of a blank tag
sound_unblank : (k n : ℕ) (ws : List ℕ) (l : ℕ) (t : Tr l) → length ws ≡ pool_length k n → ((q : ℕ) → q < n → sound_alone k n ws q ≡ true)
    → PoolForms k n ws l t → has blank_key (entries_of l t) ≡ false
sound_unblank k n ws l t whole sound pool =
    tree_lacks (page_at k ws) blank_key l t pool.forms.holds
    (λ q o leaf.
    let inside = pool.forms.within q o in
    (alone_page k n ws whole q inside (sound q inside) (omega arith)).no_blank (eq-eqb (page_at k ws q).level 1 leaf))

-- Whatever tree the words of an accepted pool form, it has no lot of a blank tag.
pub opening_unblank : (k n : ℕ) (ws : List ℕ) (l : ℕ) (t : Tr l) → length ws ≡ pool_length k n → lowest_unsound k n ws ≡ n → PoolForms k n ws l t
    → has blank_key (entries_of l t) ≡ false
opening_unblank k n ws l t whole low pool = sound_unblank k n ws l t whole (none_unsound k n ws low) pool

-- Words that the test accepts form a tree, without the lot of a blank tag.
pub opening_forms : (k n : ℕ) (ws : List ℕ) → 1 ≤ n → length ws ≡ pool_length k n → lowest_unsound k n ws ≡ n → is_tree k n ws ≡ true → Accepted k n ws
unfolding is_tree
opening_forms k n ws some whole low test =
    let l : ℕ = depth k ws in
    let pages : List ℕ = met (page_at k ws) l 0 in
    let a : Bool = hangs (page_at k ws) l 0 0 word_range in
    let b : Bool = distinct pages in
    let c : Bool = all_below n (λ (q : ℕ). member q pages || is_zero k ws q) in
    let ab = and_first (a && b) c test in
    let sound = none_unsound k n ws low in
    let h = hanging_root k n (page_at k ws) (λ q inside. alone_page k n ws whole q inside (sound q inside)) l some (and_first a b ab) in
    let forms = hanging_forms k n ws l whole sound h (and_second a b ab)
    (all_below_at (λ (q : ℕ). member q pages || is_zero k ws q) n (and_second (a && b) c test)) in
    record { height = l; tree = h.tree; forms = forms; no_blank = sound_unblank k n ws l h.tree whole sound forms }

module _ (k n : ℕ) (ws : List ℕ) (l : ℕ) (t : Tr l) (pool : PoolForms k n ws l t) where
  -- a page that is none of the tree's is zeros
  outside_zero : (q : ℕ) → q < n → occurs q l t ≡ 0 → is_zero k ws q ≡ true
  outside_zero q inside none =
      ap (all (λ (w : ℕ). eqb w 0)) (outside_words k n ws l t pool q inside none) ∙ zeros_pass (size k)

  -- page 0 is one of the tree's
  root_inside : 1 ≤ occurs 0 l t
  root_inside =
      let one = once_same 0 (page_number l t) (sym pool.forms.root) in
      omega (arith, root_occurs 0 l t)

  -- every page is sound by itself, where those of the tree are
  outside_alone : (q : ℕ) → q < n → (1 ≤ occurs q l t → sound_by_itself k n q (words_of k q ws) ≡ true) → sound_alone k n ws q ≡ true
  outside_alone q inside sound =
      by_test (leb 1 (occurs q l t))
      (λ y. or_first (not (eqb q 0) && is_zero k ws q) (sound (leb-true 1 (occurs q l t) y)))
      (λ z.
      let few = leb-false 1 (occurs q l t) z in
      let other : eqb q 0 ≡ false
      = ne_eqb q 0 (λ e. let same = ap (λ (p : ℕ). occurs p l t) e in omega (arith, root_inside)) in
      or_second (sound_by_itself k n q (words_of k q ws)) (and_both (not_of_false other) (outside_zero q inside (omega arith))))

  -- the pages of the tree are met from page 0, and the others are zeros
  met_or_zero : (q : ℕ) → q < n → times q (met (page_at k ws) l 0) ≡ occurs q l t → member q (met (page_at k ws) l 0) || is_zero k ws q ≡ true
  met_or_zero q inside counted =
      by_test (leb 1 (occurs q l t))
      (λ y.
      let some = leb-true 1 (occurs q l t) y in
      or_first (is_zero k ws q) (times_member q (met (page_at k ws) l 0) (omega arith)))
      (λ z.
      let few = leb-false 1 (occurs q l t) z in
      or_second (member q (met (page_at k ws) l 0)) (outside_zero q inside (omega arith)))

-- Words that form a tree without the lot of a blank tag are accepted by the test.
pub forms_opening : (k n : ℕ) (ws : List ℕ) (l : ℕ) (t : Tr l) → 1 ≤ k → n ≤ largest_n → PoolForms k n ws l t → has blank_key (entries_of l t) ≡ false
    → (lowest_unsound k n ws ≡ n) × (is_tree k n ws ≡ true)
unfolding is_tree
forms_opening k n ws l t one most pool unblank =
    let memory : ℕ → Page = page_at k ws in
    let forms : Forms k n memory l t = pool.forms in
    let level = root_level k n memory l t forms in
    let height : l ≡ depth k ws = omega arith in
    let counted = root_met k memory (root_least l) (2 * k) l t 0 word_range forms.root forms.in_range forms.holds in (
      none_from k n ws (λ q inside. outside_alone k n ws l t pool q inside (pool_sound k n ws l t one most pool unblank q)),
      subst (λ (h : ℕ). hangs memory h 0 0 word_range && distinct (met memory h 0)
          && all_below n (λ (q : ℕ). member q (met memory h 0) || is_zero k ws q) ≡ true) height
          (and_both
          (and_both
          (subst (λ (p : ℕ). hangs memory l p 0 word_range ≡ true) forms.root
          (tree_hangs k memory (root_least l) (2 * k) l t 0 word_range forms.in_range forms.holds))
          (times_distinct (met memory l 0) (λ q. omega (arith, counted q, forms.different q))))
          (all_below_from (λ (q : ℕ). member q (met memory l 0) || is_zero k ws q) n
          (λ q inside. met_or_zero k n ws l t pool q inside (counted q)))),
    )
