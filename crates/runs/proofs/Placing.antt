-- The pages that an open slot of a run holds and wants: as many as the rules allow, all of the tree, none twice.
use Prim.Native.Nat.{ℕ, suc, ◌+◌, ◌≤◌, ◌<◌}
use native.Mathlib.Omega.{arith}
use mathlib.Core.Bool.{true, false, not, false≢true}
use mathlib.Core.List.{List, [], ◌∷◌, ◌++◌, reverse}
use mathlib.Core.Logic.{⊎_elim}
use mathlib.Core.Path.{◌≡◌, refl, sym, ap, ◌∙◌, subst}
use borrow.Author.Tests.{leb-true, leb-false, le-leb, lt-ltb, eqb-true, eq-eqb, not-true, not-false}
use lib.Dec.{leb, ltb, eqb}
use lib.ListN.{length, get_or, length-append, length-reverse}
use Rattle.ground.specs.Limits.{largest_n, search_holds, regrade_holds, second_holds, path_holds, sibling_holds, word_range}
use Rattle.ground.specs.Tests.{member, distinct}
use Rattle.ground.proofs.Bools.{not_both, and_both, and_first, and_second, or_first, or_second, or_cases}
use Rattle.ground.proofs.Tests.{member_none, member_cases, member_append, member_inside}
use Rattle.ground.proofs.Choice.{cond-false}
use Rattle.ground.proofs.Limits.{path_is_way, siblings_below_top}
use Rattle.page.specs.Words.{Page}
use Rattle.pool.specs.Pool.{page_at}
use Rattle.slots.specs.declared.Op.{Op}
use Rattle.slots.specs.declared.Op.TheVariants.{Search, Insert, Delete, Next, Regrade}
use Rattle.slots.specs.declared.Way.TheVariants.{First, Second, Third}
use Rattle.slots.specs.declared.Task.TheVariants.{Open}
use Rattle.slots.specs.declared.Way.{Way}
use Rattle.slots.specs.Parts.{key_of, is_delete, is_next, is_second, is_third, goes_beside, Stand, holding, converting, with_op}
use Rattle.slots.specs.Sound.{limits_of, within_limits}
use Rattle.footing.specs.Granted.{is_safe, answered_at_once, needs_no_more}
use Rattle.page.specs.Place.{has}
use Rattle.tree.specs.Tree.{Tr, page_number, once, occurs, entries_of, way, Forms}
use Rattle.tree.specs.Facts.{WayFacts}
use Rattle.ground.proofs.Choice.{by_test}
use Rattle.tree.proofs.Memory.{once_same, times, times_append, member_times, absent_times, distinct_times, times_distinct, root_occurs, way_occurs, stands_occurs}
use Rattle.tree.proofs.Search.{way_facts}
use Rattle.tree.proofs.Height.{height_facts}
use Rattle.runs.specs.Stance.{Rightly, Starting, Coming, WantsSibling, Crossing, Converting, Gathering}
use Rattle.runs.specs.Step.{Scene}
use Rattle.runs.proofs.Paths.{none_is, times_reverse}
use Rattle.runs.proofs.Across.{across, second_pages, second_new, second_different}
use Rattle.runs.proofs.Needing.{AtLeaf, rightly_as, leaf_needed, beside_leaf}
use Rattle.runs.proofs.Turns.{held_turn}

-- What an open slot holds and wants: "all pages named are below N; no slot holds a page twice".
pub record WellHeld (n l : ℕ) (t : Tr l) (z : Stand) : Type 0 where
  pub limits : within_limits (Open z.op) (length z.path) (length z.beside) ≡ true
  pub below : (p : ℕ) → member p (z.want ∷ holding z) ≡ true → p < n
  pub different : distinct (holding z) ≡ true
  -- they are pages of the tree
  pub pages : (p : ℕ) → member p (z.want ∷ holding z) ≡ true → 1 ≤ occurs p l t

-- who gathers pages does not want "one it holds"
pub record NewHeld (n l : ℕ) (t : Tr l) (z : Stand) : Type 0 where
  pub well : WellHeld n l t z
  pub new : converting z ≡ false

-- ---- who goes beside its path

-- a deletion goes beside its path
pub deletes_beside : (op : Op) → is_delete op ≡ true → goes_beside op ≡ true
deletes_beside (Search x) e = e
deletes_beside (Insert x v First) e = e
deletes_beside (Insert x v Second) e = e
deletes_beside (Insert x v Third) e = e
deletes_beside (Delete x First) e = refl
deletes_beside (Delete x Second) e = e
deletes_beside (Delete x Third) e = refl
deletes_beside (Next x) e = refl
deletes_beside (Regrade x v First) e = e
deletes_beside (Regrade x v Second) e = e
deletes_beside (Regrade x v Third) e = e

-- who goes beside its path does not go by the second way
pub beside_first : (op : Op) → goes_beside op ≡ true → is_second op ≡ false
beside_first (Search x) e = refl
beside_first (Insert x v way) e = not_both e refl
beside_first (Delete x First) e = refl
beside_first (Delete x Second) e = not_both e refl
beside_first (Delete x Third) e = refl
beside_first (Next x) e = refl
beside_first (Regrade x v way) e = not_both e refl

-- ---- as many as the rules allow

-- with none beside the path
limits_alone : (op : Op) (depth : ℕ) → depth ≤ (limits_of (Open op)).on_path → within_limits (Open op) depth 0 ≡ true
limits_alone op depth few =
    and_both
    (and_both (le-leb depth (limits_of (Open op)).on_path few) (le-leb 0 (limits_of (Open op)).beside (omega arith)))
    (or_first (ltb 0 depth) (eq-eqb 0 0 refl))

-- with fewer beside the path than on it
limits_beside : (op : Op) (depth beside : ℕ) → goes_beside op ≡ true → depth ≤ path_holds → beside ≤ sibling_holds → beside < depth
    → within_limits (Open op) depth beside ≡ true
limits_beside (Search x) depth beside both deep few fewer = absurd (false≢true both)
limits_beside (Insert x v way) depth beside both deep few fewer = absurd (false≢true both)
limits_beside (Delete x First) depth beside both deep few fewer =
    and_both (and_both (le-leb depth path_holds deep) (le-leb beside sibling_holds few)) (or_second (eqb beside 0) (lt-ltb beside depth fewer))
limits_beside (Delete x Second) depth beside both deep few fewer = absurd (false≢true both)
limits_beside (Delete x Third) depth beside both deep few fewer =
    and_both (and_both (le-leb depth path_holds deep) (le-leb beside sibling_holds few)) (or_second (eqb beside 0) (lt-ltb beside depth fewer))
limits_beside (Next x) depth beside both deep few fewer =
    and_both (and_both (le-leb depth path_holds deep) (le-leb beside sibling_holds few)) (or_second (eqb beside 0) (lt-ltb beside depth fewer))
limits_beside (Regrade x v way) depth beside both deep few fewer = absurd (false≢true both)

-- an operation for which every page is safe holds one
pub one_held : (op : Op) (k : ℕ) (memory : ℕ → Page) (path : List ℕ) → ((P : Page) → is_safe op k P ≡ true) → Rightly op k memory path → length path ≤ 1
one_held op k memory path safe rightly =
    by_test (leb (length path) 1)
    (λ t. leb-true (length path) 1 t)
    (λ f. not_both (safe (memory (get_or path 1 0))) (rightly.unsafe 0 (leb-false (length path) 1 f)))

-- so do a search, a regrading and an update by the second way; the others may hold as many as a way has
path_limit : (op : Op) (k : ℕ) (memory : ℕ → Page) (path : List ℕ) → Rightly op k memory path → length path ≤ path_holds
    → length path ≤ (limits_of (Open op)).on_path
unfolding search_holds regrade_holds second_holds
path_limit (Search x) k memory path rightly deep = one_held (Search x) k memory path (λ P. refl) rightly
path_limit (Insert x v First) k memory path rightly deep = deep
path_limit (Insert x v Second) k memory path rightly deep = one_held (Insert x v Second) k memory path (λ P. refl) rightly
path_limit (Insert x v Third) k memory path rightly deep = deep
path_limit (Delete x First) k memory path rightly deep = deep
path_limit (Delete x Second) k memory path rightly deep = one_held (Delete x Second) k memory path (λ P. refl) rightly
path_limit (Delete x Third) k memory path rightly deep = deep
path_limit (Next x) k memory path rightly deep = deep
path_limit (Regrade x v First) k memory path rightly deep = one_held (Regrade x v First) k memory path (λ P. refl) rightly
path_limit (Regrade x v Second) k memory path rightly deep = one_held (Regrade x v Second) k memory path (λ P. refl) rightly
path_limit (Regrade x v Third) k memory path rightly deep = one_held (Regrade x v Third) k memory path (λ P. refl) rightly

-- ---- all of the tree, none twice

-- pages of which each is counted as a page of the tree
counted : (k n : ℕ) (memory : ℕ → Page) (l : ℕ) (t : Tr l) (z : Stand) → Forms k n memory l t
    → within_limits (Open z.op) (length z.path) (length z.beside) ≡ true
    → ((q : ℕ) → times q (z.want ∷ holding z) ≤ occurs q l t)
    → NewHeld n l t z
unfolding distinct
counted k n memory l t z forms limits count =
    let held : List ℕ = z.want ∷ holding z in
    let pages : (p : ℕ) → member p held ≡ true → 1 ≤ occurs p l t = λ p m. let some = member_times p held m in omega (arith, count p) in
    let all_different : distinct held ≡ true = times_distinct held (λ q. omega (arith, count q, forms.different q)) in
    record {
      well = record {
        limits = limits;
        below = λ p m. forms.within p (pages p m);
        different = and_second (not (member z.want (holding z))) (distinct (holding z)) all_different;
        pages = pages;
      };
      new = not-true (member z.want (holding z)) (and_first (not (member z.want (holding z))) (distinct (holding z)) all_different);
    }

module _ (k n : ℕ) (memory : ℕ → Page) (l : ℕ) (t : Tr l) (z : Stand)
    (one : 1 ≤ k) (most : n ≤ largest_n) (key : key_of z.op < word_range) (forms : Forms k n memory l t) where
  -- it holds nothing yet
  well_starting : Starting z → NewHeld n l t z
  well_starting s =
      let no_path = ap length s.no_path in
      let no_siblings : length z.beside ≡ 0 = ap length s.no_siblings in
      counted k n memory l t z forms
      (subst (λ (b : ℕ). within_limits (Open z.op) (length z.path) b ≡ true) (sym no_siblings)
      (limits_alone z.op (length z.path) (omega arith)))
      (λ q.
      let first = ap (times q) s.no_path in
      let second = ap (times q) s.no_siblings in
      let root : once q z.want ≡ once q (page_number l t) = ap (once q) (s.wants_root ∙ sym forms.root) in
      omega (arith, times_append q z.path z.beside, root_occurs q l t))

  -- it holds a stretch of its key's way, and wants the next page of it
  well_coming : Coming k memory l t z → NewHeld n l t z
  well_coming c =
      let x : ℕ = key_of z.op in
      let part : List ℕ = z.want ∷ (reverse z.path ++ c.upper) in
      let no_siblings : length z.beside ≡ 0 = ap length c.no_siblings in
      let size : l + 1 ≡ length c.lower + length part
      = sym (way_facts k n memory l t forms x key).pages ∙ ap length c.whole ∙ length-append c.lower part in
      let height = (height_facts k n memory l t one most forms).height in
      counted k n memory l t z forms
      (subst (λ (b : ℕ). within_limits (Open z.op) (length z.path) b ≡ true) (sym no_siblings)
      (limits_alone z.op (length z.path)
      (path_limit z.op k memory z.path c.rightly
      (omega (arith, length-append (reverse z.path) c.upper, length-reverse z.path, path_is_way)))))
      (λ q.
      let second = ap (times q) c.no_siblings in
      let cut : times q (way x l t) ≡ times q c.lower + times q part = ap (times q) c.whole ∙ times_append q c.lower part in
      omega (arith, times_append q z.path z.beside, times_append q (reverse z.path) c.upper, times_reverse q z.path, way_occurs q x l t))

-- a deletion at its leaf holds the lower part of its way, and siblings beside it
module _ (x k n : ℕ) (memory : ℕ → Page) (l : ℕ) (t : Tr l) (z : Stand)
    (one : 1 ≤ k) (most : n ≤ largest_n) (key : x < word_range) (forms : Forms k n memory l t) where
  well_beside : (way' : Way) → WantsSibling k memory l t (with_op (Delete x way') z) → NewHeld n l t (with_op (Delete x way') z)
  well_beside way' b =
      let (leaf, fathers, a, need) = beside_leaf way' z forms one key b in
      let needed = leaf_needed a in
      let wanted = needed.wanted z.want need in
      let height = (height_facts k n memory l t one most forms).height in
      let size : l + 1 ≡ length (reverse z.path) + length b.upper
      = sym (way_facts k n memory l t forms x key).pages ∙ ap length b.whole ∙ length-append (reverse z.path) b.upper in
      counted k n memory l t (with_op (Delete x way') z) forms
      (limits_beside (Delete x way') (length z.path) (length z.beside) (deletes_beside (Delete x way') b.deletes)
      (omega (arith, length-reverse z.path, path_is_way))
      (omega (arith, length-reverse z.path, siblings_below_top, b.fewer))
      (omega (arith, b.fewer)))
      (λ q.
      let lower : times q (way x l t) ≡ times q (reverse z.path) + times q b.upper
      = ap (times q) b.whole ∙ times_append q (reverse z.path) b.upper in
      let once-each = distinct_times (way x l t ++ z.beside) needed.different q in
      let both = times_append q (way x l t) z.beside in
      let held = times_append q z.path z.beside in
      let turned = times_reverse q z.path in
      by_test (eqb q z.want)
      (λ y.
      let same : q ≡ z.want = eqb-true q z.want y in
      let here = once_same q z.want same in
      let off_way : times q (way x l t) ≡ 0 = ap (λ (p : ℕ). times p (way x l t)) same ∙ absent_times z.want (way x l t) wanted.off_way in
      let not_held : times q z.beside ≡ 0 = ap (λ (p : ℕ). times p z.beside) same ∙ absent_times z.want z.beside wanted.not_held in
      let place = wanted.place in
      let page : 1 ≤ occurs q l t
      = subst (λ (p : ℕ). 1 ≤ occurs p l t) (sym same)
      (stands_occurs l t 0 word_range z.want (suc (length z.beside)) place.low place.high place.stands) in
      omega arith)
      (λ o.
      let other : once q z.want ≡ 0 = cond-false 1 0 o in
      by_test (member q z.beside)
      (λ m. omega (arith, needed.pages q m))
      (λ m. omega (arith, absent_times q z.beside m, way_occurs q x l t))))

-- only a deletion wants a sibling
well_beside_any : (op : Op) (k n : ℕ) (memory : ℕ → Page) (l : ℕ) (t : Tr l) (z : Stand) → 1 ≤ k → n ≤ largest_n
    → key_of op < word_range → Forms k n memory l t → WantsSibling k memory l t (with_op op z) → NewHeld n l t (with_op op z)
well_beside_any op k n memory l t z one most key forms b = by_op op key b b.deletes
  where
    by_op : (op : Op) → key_of op < word_range → WantsSibling k memory l t (with_op op z) → is_delete op ≡ true → NewHeld n l t (with_op op z)
    by_op (Search x) key b d = absurd (false≢true d)
    by_op (Insert x v First) key b d = absurd (false≢true d)
    by_op (Insert x v Second) key b d = absurd (false≢true d)
    by_op (Insert x v Third) key b d = absurd (false≢true d)
    by_op (Delete x way') key b d = well_beside x k n memory l t z one most key forms way' b
    by_op (Next x) key b d = absurd (false≢true d)
    by_op (Regrade x v First) key b d = absurd (false≢true d)
    by_op (Regrade x v Second) key b d = absurd (false≢true d)
    by_op (Regrade x v Third) key b d = absurd (false≢true d)

-- a Next may hold pages beside its path
pub next_beside : (op : Op) → is_next op ≡ true → goes_beside op ≡ true
next_beside (Search x) asks = absurd (false≢true asks)
next_beside (Insert x v First) asks = absurd (false≢true asks)
next_beside (Insert x v Second) asks = absurd (false≢true asks)
next_beside (Insert x v Third) asks = absurd (false≢true asks)
next_beside (Delete x First) asks = absurd (false≢true asks)
next_beside (Delete x Second) asks = absurd (false≢true asks)
next_beside (Delete x Third) asks = absurd (false≢true asks)
next_beside (Next x) asks = refl
next_beside (Regrade x v First) asks = absurd (false≢true asks)
next_beside (Regrade x v Second) asks = absurd (false≢true asks)
next_beside (Regrade x v Third) asks = absurd (false≢true asks)

-- past its leaf it holds the lower part of its way, and the upper part of its second way beside it
well_crossing : (k n : ℕ) (memory : ℕ → Page) (l : ℕ) (t : Tr l) (z : Stand) → 1 ≤ k → n ≤ largest_n
    → key_of z.op < word_range → Forms k n memory l t → Crossing k memory l t z → NewHeld n l t z
well_crossing k n memory l t z one most key forms c =
    let x : ℕ = key_of z.op in
    let a = across k n memory l t one forms z key c in
    let height = (height_facts k n memory l t one most forms).height in
    counted k n memory l t z forms
    (limits_beside z.op (length z.path) (length z.beside) (next_beside z.op c.asks_next)
    (omega (arith, a.long, a.inside, path_is_way))
    (omega (arith, a.few, a.inside, siblings_below_top))
    (omega (arith, c.fewer)))
    (λ q.
    let lower : times q (way x l t) ≡ times q (reverse z.path) + times q c.upper
    = ap (times q) c.whole ∙ times_append q (reverse z.path) c.upper in
    let held = times_append q z.path z.beside in
    let beside : times q (z.beside ++ z.want ∷ []) ≡ times q z.beside + times q (z.want ∷ []) = times_append q z.beside (z.want ∷ []) in
    let turned = times_reverse q z.path in
    by_test (member q (z.beside ++ z.want ∷ []))
    (λ m.
    let offPath = absent_times q z.path (second_new k n memory l t forms z key a q m) in
    let once-each = distinct_times (z.beside ++ z.want ∷ []) (second_different k n memory l t forms z key a) q in
    let page = second_pages k n memory l t forms z key a q m in
    omega arith)
    (λ o.
    let none = absent_times q (z.beside ++ z.want ∷ []) o in
    omega (arith, way_occurs q x l t)))

-- ---- who converts

module _ (k n : ℕ) (memory : ℕ → Page) (l : ℕ) (t : Tr l) (one : 1 ≤ k) (most : n ≤ largest_n) (forms : Forms k n memory l t) where
  -- What is beside the path of a slot that stands at its leaf: few pages, of the tree, none twice nor on the way.
  pub record Besides (z : Stand) (fathers : List ℕ) : Type 0 where
    pub few : length z.beside ≤ length fathers
    pub different : distinct (way (key_of z.op) l t ++ z.beside) ≡ true
    pub pages : (q : ℕ) → member q z.beside ≡ true → 1 ≤ occurs q l t

  -- nothing is
  nothing_beside : (z : Stand) (fathers : List ℕ) → key_of z.op < word_range → z.beside ≡ [] → Besides z fathers
  nothing_beside z fathers key none =
      let x : ℕ = key_of z.op in
      record {
        few = omega (arith, ap length none);
        different = subst (λ (ss : List ℕ). distinct (way x l t ++ ss) ≡ true) (sym none)
            (times_distinct (way x l t ++ []) (λ q. omega (arith, times_append q (way x l t) [], way_occurs q x l t, forms.different q)));
        pages = λ q m. not_both (subst (λ (ss : List ℕ). member q ss ≡ true) none m) (member_none q);
      }

  module _ (z : Stand) (key : key_of z.op < word_range) (c : Converting k memory l t z) where
    no_more : needs_no_more z.op k memory z.beside c.leaf c.fathers ≡ true
    no_more = and_second (not (answered_at_once z.op (memory c.leaf).entries)) (needs_no_more z.op k memory z.beside c.leaf c.fathers) c.known

    unanswered : answered_at_once z.op (memory c.leaf).entries ≡ false
    unanswered = not-true (answered_at_once z.op (memory c.leaf).entries)
        (and_first (not (answered_at_once z.op (memory c.leaf).entries)) (needs_no_more z.op k memory z.beside c.leaf c.fathers) c.known)

  -- a deletion's siblings are those that it was asked to take
  pub converting_leaf : (x : ℕ) (way' : Way) (z : Stand) → x < word_range → (c : Converting k memory l t (with_op (Delete x way') z))
      → AtLeaf k n memory l t x z c.leaf c.fathers
  converting_leaf x way' z key c =
      let facts = way_facts k n memory l t forms x key in
      record {
        forms = forms;
        k_least = one;
        key = key;
        there = leaf_there facts (c.whole ∙ ap (λ (up : List ℕ). up ++ c.upper) c.upward) ∙ not-false (has x (memory c.leaf).entries) (unanswered (with_op (Delete x way') z) key c);
        upward = c.upward;
        upper = c.upper;
        whole = c.whole;
        rightly = rightly_as (Delete x way') (Delete x First) k memory z.path (λ P. sym (third_safe x way' c.third P)) c.rightly;
        asked = c.asked;
      }
    where
      third_safe : (x : ℕ) (way' : Way) → is_third (Delete x way') ≡ true → (P : Page) → is_safe (Delete x way') k P ≡ is_safe (Delete x First) k P
      third_safe x First e P = refl
      third_safe x Second e P = not_both e refl
      third_safe x Third e P = refl

      -- the leaf decides whether the key is there
      leaf_there : WayFacts memory x l t → way x l t ≡ c.leaf ∷ (c.fathers ++ c.upper) → has x (entries_of l t) ≡ has x (memory c.leaf).entries
      leaf_there facts e =
          sym facts.decides
          ∙ ap (λ (P : Page). has x P.entries) (sym facts.leaf)
          ∙ ap (λ (w : List ℕ). has x (memory (get_or w 0 0)).entries) e

  converting_beside : (op : Op) (z : Stand) → key_of op < word_range → (c : Converting k memory l t (with_op op z)) → Besides (with_op op z) c.fathers
  converting_beside (Search x) z key c = absurd (false≢true c.third)
  converting_beside (Insert x v way') z key c =
      nothing_beside (with_op (Insert x v way') z) c.fathers key (none_is z.beside (no_more (with_op (Insert x v way') z) key c))
  converting_beside (Delete x way') z key c =
      let needed = leaf_needed (converting_leaf x way' z key c) in
      record { few = needed.few; different = needed.different; pages = needed.pages }
  converting_beside (Next x) z key c = absurd (false≢true c.third)
  converting_beside (Regrade x v way') z key c =
      nothing_beside (with_op (Regrade x v way') z) c.fathers key (none_is z.beside (no_more (with_op (Regrade x v way') z) key c))

  -- within its limits: who has siblings is a deletion by the third way
  third_limits : (op : Op) (z : Stand) → key_of op < word_range → (c : Converting k memory l t (with_op op z)) → length z.path ≤ path_holds → length z.beside ≤ sibling_holds
      → length z.beside < length z.path → within_limits (Open op) (length z.path) (length z.beside) ≡ true
  third_limits (Search x) z key c deep few fewer = absurd (false≢true c.third)
  third_limits (Insert x v way') z key c deep few fewer =
      let none : length z.beside ≡ 0 = ap length (none_is z.beside (no_more (with_op (Insert x v way') z) key c)) in
      subst (λ (b : ℕ). within_limits (Open (Insert x v way')) (length z.path) b ≡ true) (sym none)
      (limits_alone (Insert x v way') (length z.path) (path_limit (Insert x v way') k memory z.path c.rightly deep))
  third_limits (Delete x First) z key c deep few fewer = absurd (false≢true c.third)
  third_limits (Delete x Second) z key c deep few fewer = absurd (false≢true c.third)
  third_limits (Delete x Third) z key c deep few fewer = limits_beside (Delete x Third) (length z.path) (length z.beside) refl deep few fewer
  third_limits (Next x) z key c deep few fewer = absurd (false≢true c.third)
  third_limits (Regrade x v way') z key c deep few fewer =
      let none : length z.beside ≡ 0 = ap length (none_is z.beside (no_more (with_op (Regrade x v way') z) key c)) in
      subst (λ (b : ℕ). within_limits (Open (Regrade x v way')) (length z.path) b ≡ true) (sym none)
      (limits_alone (Regrade x v way') (length z.path) (path_limit (Regrade x v way') k memory z.path c.rightly deep))

  module _ (z : Stand) (key : key_of z.op < word_range) (c : Converting k memory l t z) where
    besides : Besides z c.fathers
    besides = converting_beside z.op z key c

    pub fewer_beside : length z.beside < length z.path
    fewer_beside = omega (arith, besides.few, sym (length-reverse z.path) ∙ ap length c.upward)

    -- what it wants it holds
    pub wants_held : converting z ≡ true
    wants_held =
        sym (held_turn z.path z.beside (omega (arith, fewer_beside)) z.want)
        ∙ ap (member z.want) c.turns
        ∙ member_inside z.want c.done c.rest

    well_converting : WellHeld n l t z
    well_converting =
        let x : ℕ = key_of z.op in
        let height = (height_facts k n memory l t one most forms).height in
        let size : l + 1 ≡ length (reverse z.path) + length c.upper
        = sym (way_facts k n memory l t forms x key).pages ∙ ap length c.whole ∙ length-append (reverse z.path) c.upper in
        let on_way : (q : ℕ) → times q z.path ≤ times q (way x l t)
        = λ q. omega (arith, times_reverse q z.path, ap (times q) c.whole, times_append q (reverse z.path) c.upper) in
        let pages : (p : ℕ) → member p (holding z) ≡ true → 1 ≤ occurs p l t
        = λ p m. ⊎_elim
        (λ h. let some = member_times p z.path h in omega (arith, on_way p, way_occurs p x l t))
        (λ h. besides.pages p h)
        (or_cases (member p z.path) (member p z.beside) (sym (member_append p z.path z.beside) ∙ m)) in
        let named : (p : ℕ) → member p (z.want ∷ holding z) ≡ true → member p (holding z) ≡ true
        = λ p m. ⊎_elim (λ e. subst (λ (q : ℕ). member q (holding z) ≡ true) (sym e) wants_held) (λ h. h) (member_cases p z.want (holding z) m) in
        record {
          limits = third_limits z.op z key c (omega (arith, length-reverse z.path, path_is_way))
              (omega (arith, length-reverse z.path, siblings_below_top, fewer_beside)) fewer_beside;
          below = λ p m. forms.within p (pages p (named p m));
          different = times_distinct (holding z) (λ q. omega (
            arith,
            times_append q z.path z.beside,
            on_way q,
            times_append q (way x l t) z.beside,
            distinct_times (way x l t ++ z.beside) besides.different q,
          ));
          pages = λ p m. pages p (named p m);
        }

-- ---- all of them

pub new_held : (k n : ℕ) (memory : ℕ → Page) (l : ℕ) (t : Tr l) (z : Stand) → 1 ≤ k → n ≤ largest_n → key_of z.op < word_range → Forms k n memory l t
    → Gathering k memory l t z → NewHeld n l t z
new_held k n memory l t z one most key forms gathers =
    ⊎_elim
    (well_starting k n memory l t z one most key forms)
    (λ h. ⊎_elim
    (well_coming k n memory l t z one most key forms)
    (⊎_elim
    (well_beside_any z.op k n memory l t z one most key forms)
    (well_crossing k n memory l t z one most key forms))
    h)
    gathers

module _ (k n : ℕ) (ws : List ℕ) (l : ℕ) (t : Tr l) (z : Stand) (scene : Scene k n ws l t z) where
  pub well_held : WellHeld n l t z
  well_held =
      ⊎_elim
      (λ g. (new_held k n (page_at k ws) l t z scene.k_least scene.n_most scene.key scene.forms.forms g).well)
      (λ c. well_converting k n (page_at k ws) l t scene.k_least scene.n_most scene.forms.forms z scene.key c)
      scene.stance

  -- who gathers wants a page that it does not hold, and who converts one that it holds
  pub gathers_new : Gathering k (page_at k ws) l t z → converting z ≡ false
  gathers_new g = (new_held k n (page_at k ws) l t z scene.k_least scene.n_most scene.key scene.forms.forms g).new

  pub turn_held : Converting k (page_at k ws) l t z → converting z ≡ true
  turn_held c = wants_held k n (page_at k ws) l t scene.k_least scene.n_most scene.forms.forms z scene.key c
