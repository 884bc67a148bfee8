-- One level of a deletion: from what became of a child to what becomes of its father's row.
-- Either the father stays as it is, or two of its children were evened out and it is written with another reference
-- key, or two of them joined and it has lost one.
use Prim.Native.Nat.{ℕ, zero, suc, ◌+◌, ◌*◌, ◌≤◌, ◌<◌}
use native.Mathlib.Omega.{arith}
use mathlib.Core.Bool.{cond, ◌&&◌}
use mathlib.Core.List.{List, [], ◌∷◌, ◌++◌, append-nil, append_assoc}
use mathlib.Core.Logic.{◌⊎◌, inl, inr, ⊎_elim}
use mathlib.Core.Path.{◌≡◌, refl, sym, ap, ◌∙◌, subst}
use lib.Dec.{eqb}
use lib.ListN.{length, length-append}
use lib.Seq.{append_snoc}
use Rattle.page.specs.Words.{Keyed, Page, μ, free_page, keyed}
use Rattle.page.specs.Splits.{parted}
use Rattle.page.specs.Short.{from_right, from_left, neighbour, between_at, moved, less_key, rekeyed}
use Rattle.pool.specs.Pool.{Write, write}
use Rattle.change.specs.Deletion.{nothing, needs, shrunk}
use Rattle.change.proofs.RuleLaws.{shrunk_alone}
use Rattle.tree.specs.Rows.{head_key, Span, Each}
use Rattle.tree.specs.Tree.{Tr, page_number, once, occurs, Holds, ChildIn}
use Rattle.tree.specs.Change.{Fitting}
use Rattle.tree.proofs.Rows.{span_right, total_append, each_right}
use Rattle.tree.proofs.Memory.{Stores}
use Rattle.tree.proofs.Mend.{Thing, Things, things_of, tree_at, page_in, tier, Run, occurs_in, HoldsIn, number_back, holds_page, range_run, range_least, range_most, run_left, run_right, run_nil, things_μ, things_fit, things_joined, things_from_right, things_from_left}
use Rattle.tree.proofs.MendPatch.{hits, Patch, graft, opened, opened_run, holds_opened, opened_occurs}
use Rattle.tree.proofs.MendShort.{page_written, pair_joined, pair_moved}
use Rattle.tree.proofs.Pages.{row_page_same, row_page_less_key, row_page_rekeyed, right_has_right, right_neighbour, right_between_at, right_moved, right_merged, left_has_right, left_neighbour, left_between_at, left_moved, left_merged}
use Rattle.tree.proofs.DeletionRule.{needs_none, needs_shared, right_moves, left_moves, right_joins, left_joins}

-- The change is done below the page t or at it: t becomes `tree`, by these writes.
pub record Settled (k : ℕ) (memory : ℕ → Page) (x l : ℕ) (t : Tr l) (lo hi : ℕ) (W : List Write) : Type 0 where
  pub tree : Tr l
  pub number : page_number l tree ≡ page_number l t
  pub patch : Patch k memory x (suc l) (keyed lo t ∷ []) (keyed lo tree ∷ []) lo hi W

-- The page t has lost one, and its new value is not written yet: these writes are those below it, and then the rule
-- goes on from it with the pages above it and the siblings that are left.
pub record Reached (k : ℕ) (memory : ℕ → Page) (x l : ℕ) (t : Tr l) (lo hi : ℕ) (up : List ℕ) (W : List Write) : Type 0 where
  pub new : Things l
  pub shorter : suc (length new) ≡ length (things_of l t)
  pub below : List Write
  pub patch : Patch k memory x l (things_of l t) new lo hi below
  pub rest : List ℕ
  pub rule : W ≡ below ++ shrunk k memory x up rest (page_number l t) (page_in l new)
  pub asks : needs k memory x (page_number l t) up rest ≡ nothing

-- What becomes of a father's row by the writes W. It stays, up to what is below its children;
pub record Kept (k : ℕ) (memory : ℕ → Page) (x l : ℕ) (row : List (Keyed (Tr l))) (lo hi : ℕ) (W : List Write) : Type 0 where
  pub new : List (Keyed (Tr l))
  pub size : length new ≡ length row
  pub patch : Patch k memory x (suc l) row new lo hi W
  pub same : page_in (suc l) new ≡ page_in (suc l) row

-- two children were evened out, and it is written;
pub record Moved (k : ℕ) (memory : ℕ → Page) (x l f : ℕ) (row : List (Keyed (Tr l))) (lo hi : ℕ) (W : List Write) : Type 0 where
  pub new : List (Keyed (Tr l))
  pub size : length new ≡ length row
  pub below : List Write
  pub patch : Patch k memory x (suc l) row new lo hi below
  pub rule : W ≡ below ++ write f (page_in (suc l) new) ∷ []

-- or two children joined: what they hold is now the one row `things`.
pub record Joined (k : ℕ) (memory : ℕ → Page) (x l f : ℕ) (up : List ℕ) (row : List (Keyed (Tr l))) (lo hi : ℕ) (W : List Write) : Type 0 where
  pub before : List (Keyed (Tr l))
  pub left : Keyed (Tr l)
  pub right : Keyed (Tr l)
  pub after : List (Keyed (Tr l))
  pub whole : row ≡ before ++ left ∷ right ∷ after
  pub things : Things l
  pub least : k + tier l ≤ length things
  pub most : length things ≤ 2 * k + tier l
  pub below : List Write
  pub inner : Patch k memory x l (opened l (left ∷ right ∷ [])) things left.key (head_key after hi) below
  -- the row that is left, with the joined page at the place of the two
  pub new : List (Keyed (Tr l))
  pub shorter : suc (length new) ≡ length row
  pub patch : Patch k memory x (suc l) row new lo hi
      (below ++ write (page_number l left.value) (page_in l things) ∷ write (page_number l right.value) free_page ∷ [])
  pub rest : List ℕ
  pub rule : W
      ≡ below
      ++ cond (eqb f 0 && eqb (μ (page_in (suc l) new)) 0)
      (write f (page_in l things) ∷ write (page_number l left.value) free_page ∷ write (page_number l right.value) free_page ∷ [])
      (write (page_number l left.value) (page_in l things)
      ∷ write (page_number l right.value) free_page
      ∷ shrunk k memory x up rest f (page_in (suc l) new))
  pub asks : needs k memory x f up rest ≡ nothing

pub data Step (k : ℕ) (memory : ℕ → Page) (x l f : ℕ) (up : List ℕ) (row : List (Keyed (Tr l))) (lo hi : ℕ) (W : List Write) : Type 0 where
  stays : Kept k memory x l row lo hi W → Step k memory x l f up row lo hi W
  evens : Moved k memory x l f row lo hi W → Step k memory x l f up row lo hi W
  joins : Joined k memory x l f up row lo hi W → Step k memory x l f up row lo hi W

-- What is known of a father's row: its children share the range, the memory holds them, no page hangs in two places.
pub record Row (k : ℕ) (memory : ℕ → Page) (l : ℕ) (row : List (Keyed (Tr l))) (lo hi : ℕ) : Type 0 where
  pub span : Span (ChildIn k l) row hi
  pub begins : head_key row hi ≡ lo
  pub held : Each (Holds memory l) row
  pub different : (q : ℕ) → occurs_in q (suc l) row ≤ 1

-- A child c that lost one and is short, and its neighbour s, for which it asked.
record Short (k : ℕ) (memory : ℕ → Page) (x l : ℕ) (c : Keyed (Tr l)) (hi f : ℕ) (up : List ℕ) (s : ℕ) (ss : List ℕ) (W : List Write) : Type 0 where
  new : Things l
  shorter : suc (length new) ≡ length (things_of l c.value)
  below : List Write
  patch : Patch k memory x l (things_of l c.value) new c.key hi below
  few : μ (memory (page_number l c.value)) ≤ k
  rule : W ≡ below ++ shrunk k memory x (f ∷ up) (s ∷ ss) (page_number l c.value) (page_in l new)

-- two short pages have room in one
tier_most : (n k l : ℕ) → n + 1 ≡ k + tier l + (k + tier l) → n ≤ 2 * k + tier l
tier_most n k zero h = omega arith
tier_most n k (suc l) h = omega arith

-- a row of two or more begins with two, and a row that is not empty ends with one
two_first : {A : Type 0} (ts : List A) → 2 ≤ length ts → (d : A) × (e : A) × (R : List A) × (ts ≡ d ∷ e ∷ R)
two_first [] h = absurd (omega arith)
two_first (d ∷ []) h = absurd (omega arith)
two_first (d ∷ (e ∷ R)) h = (d, e, R, refl)

pub one_last : {A : Type 0} (ts : List A) → 1 ≤ length ts → (L : List A) × (e : A) × (ts ≡ L ++ e ∷ [])
one_last [] h = absurd (omega arith)
one_last (d ∷ []) h = ([], d, refl)
one_last {A} (d ∷ (e ∷ ts)) h =
    let (L, z, p) = one_last (e ∷ ts) (omega arith) in
    (d ∷ L, z, ap (λ (us : List A). d ∷ us) p)

module _ (k : ℕ) (memory : ℕ → Page) (x l : ℕ) where
  -- ---- a row and its parts

  -- children next to each other patched, the others as they were
  row_graft : (xs : List (Keyed (Tr l))) (d : Keyed (Tr l)) (ds new ys : List (Keyed (Tr l))) (lo hi : ℕ) (W : List Write)
      → Row k memory l (xs ++ (d ∷ ds ++ ys)) lo hi → d.key ≤ x → x < head_key ys hi
      → Patch k memory x (suc l) (d ∷ ds) new d.key (head_key ys hi) W
      → Patch k memory x (suc l) (xs ++ (d ∷ ds ++ ys)) (xs ++ (new ++ ys)) lo hi W
  row_graft xs d ds new ys lo hi W r from to p =
      let all : Run k (suc l) (xs ++ (d ∷ ds ++ ys)) lo hi = (r.begins, r.span) in
      let tail : Run k (suc l) (d ∷ ds ++ ys) d.key hi = run_right k (suc l) xs (d ∷ ds ++ ys) lo hi all in
      graft k memory x (suc l) xs (d ∷ ds) new ys lo d.key (head_key ys hi) hi W
      (run_left k (suc l) xs (d ∷ ds ++ ys) lo hi all)
      (run_left k (suc l) (d ∷ ds) ys d.key hi tail)
      (run_right k (suc l) (d ∷ ds) ys d.key hi tail)
      from to r.different r.held p

  -- a page of a tree has as many keys as it has things, or one less
  tree_μ : (t : Tr l) (lo hi : ℕ) → ChildIn k l t lo hi → μ (page_in l (things_of l t)) + tier l ≡ length (things_of l t)
  tree_μ t lo hi r = things_μ l (things_of l t) (omega (arith, range_least k k (2 * k) l t lo hi r))

  -- how many things it has if it cannot spare one
  tree_least : (t : Tr l) (lo hi : ℕ) → ChildIn k l t lo hi → Holds memory l t → μ (memory (page_number l t)) ≤ k → length (things_of l t) ≡ k + tier l
  tree_least t lo hi r held few =
      let count = tree_μ t lo hi r in
      let least = range_least k k (2 * k) l t lo hi r in
      let same : μ (page_in l (things_of l t)) ≤ k = subst (λ (Q : Page). μ Q ≤ k) (holds_page memory l t held) few in
      omega arith

  -- what is known of one child
  module _ (xs : List (Keyed (Tr l))) (c : Keyed (Tr l)) (ys : List (Keyed (Tr l))) (lo hi : ℕ) (r : Row k memory l (xs ++ c ∷ ys) lo hi) where
    child_rises : c.key < head_key ys hi
    child_rises = (span_right (ChildIn k l) xs (c ∷ ys) hi r.span).0

    pub child_range : ChildIn k l c.value c.key (head_key ys hi)
    child_range = (span_right (ChildIn k l) xs (c ∷ ys) hi r.span).1

    pub child_held : Holds memory l c.value
    child_held = (each_right (Holds memory l) xs (c ∷ ys) r.held).0

    pub child_different : (q : ℕ) → occurs q l c.value ≤ 1
    child_different q = omega (arith, r.different q, total_append (occurs q l) xs (c ∷ ys))

    -- a child at which or below which the change is done
    settled_step : (W : List Write) → c.key ≤ x → x < head_key ys hi → Settled k memory x l c.value c.key (head_key ys hi) W
        → Kept k memory x l (xs ++ c ∷ ys) lo hi W
    settled_step W from to s =
        let d : Keyed (Tr l) = keyed c.key s.tree in
        record {
          new = xs ++ d ∷ ys;
          size = length-append xs (d ∷ ys) ∙ sym (length-append xs (c ∷ ys));
          patch = row_graft xs c [] (d ∷ []) ys lo hi W r from to s.patch;
          same = row_page_same (suc (suc l)) (page_number l) xs c d ys refl s.number;
        }

  -- what is known of two neighbours
  module _ (xs : List (Keyed (Tr l))) (a b : Keyed (Tr l)) (ys : List (Keyed (Tr l))) (lo hi : ℕ) (r : Row k memory l (xs ++ a ∷ b ∷ ys) lo hi) where
    pair_span : Span (ChildIn k l) (a ∷ b ∷ []) (head_key ys hi)
    pair_span =
        let s = span_right (ChildIn k l) xs (a ∷ b ∷ ys) hi r.span in
        (s.0, s.1, (s.2.0, s.2.1, tt))

    pair_different : (q : ℕ) → occurs_in q (suc l) (a ∷ b ∷ []) ≤ 1
    pair_different q = omega (arith, r.different q, total_append (occurs q l) xs (a ∷ b ∷ ys))

    pair_held : Each (Holds memory l) (a ∷ b ∷ [])
    pair_held =
        let h = each_right (Holds memory l) xs (a ∷ b ∷ ys) r.held in
        (h.0, (h.1.0, tt))

    opened_different : (q : ℕ) → occurs_in q l (opened l (a ∷ b ∷ [])) ≤ 1
    opened_different q = omega (arith, pair_different q, opened_occurs q l (a ∷ b ∷ []))

    opened_held : HoldsIn memory l (opened l (a ∷ b ∷ []))
    opened_held = holds_opened memory l (a ∷ b ∷ []) pair_held

  -- Two neighbours of which what they hold is patched as one row,
  module _ (xs : List (Keyed (Tr l))) (a b : Keyed (Tr l)) (ys : List (Keyed (Tr l))) (lo hi f : ℕ) (W below : List Write)
      (one : 1 ≤ k) (r : Row k memory l (xs ++ a ∷ b ∷ ys) lo hi) (from : a.key ≤ x) (to : x < head_key ys hi) where
    -- cut again elsewhere,
    pair_evens : (L R : Things l) (U : List Write) (value : Page)
        → Patch k memory x l (opened l (a ∷ b ∷ [])) (L ++ R) a.key (head_key ys hi) below
        → k + tier l ≤ length L → length L ≤ 2 * k + tier l → k + tier l ≤ length R → length R ≤ 2 * k + tier l
        → ((q : ℕ) → hits q U ≡ once q (page_number l a.value) + once q (page_number l b.value))
        → ((M : ℕ → Page) → Stores M U → (M (page_number l a.value) ≡ page_in l L) × (M (page_number l b.value) ≡ page_in l R))
        → Fitting k U
        → value
        ≡ page_in (suc l)
        (xs
        ++ keyed a.key (tree_at l (page_number l a.value) L)
        ∷ keyed (head_key R (head_key ys hi)) (tree_at l (page_number l b.value) R)
        ∷ ys)
        → W ≡ below ++ (U ++ write f value ∷ [])
        → Moved k memory x l f (xs ++ a ∷ b ∷ ys) lo hi W
    pair_evens L R U value p leastL mostL leastR mostR each stored fits is rule =
        let a' : Keyed (Tr l) = keyed a.key (tree_at l (page_number l a.value) L) in
        let b' : Keyed (Tr l) = keyed (head_key R (head_key ys hi)) (tree_at l (page_number l b.value) R) in
        record {
          new = xs ++ a' ∷ b' ∷ ys;
          size = length-append xs (a' ∷ b' ∷ ys) ∙ sym (length-append xs (a ∷ b ∷ ys));
          below = below ++ U;
          patch =
              row_graft xs a (b ∷ []) (a' ∷ b' ∷ []) ys lo hi (below ++ U) r from to
              (pair_moved k memory x l one a b (head_key ys hi) below (pair_span xs a b ys lo hi r) (pair_different xs a b ys lo hi r) L R U p leastL mostL leastR
              mostR each stored fits);
          rule = rule ∙ sym (append_assoc below U (write f value ∷ [])) ∙ ap (λ (Q : Page). (below ++ U) ++ write f Q ∷ []) is;
        }

    -- or left joined
    pair_joins : (up : List ℕ) (ws : Things l) (rest : List ℕ) (less : Page)
        → Patch k memory x l (opened l (a ∷ b ∷ [])) ws a.key (head_key ys hi) below
        → k + tier l ≤ length ws → length ws ≤ 2 * k + tier l
        → less ≡ page_in (suc l) (xs ++ keyed a.key (tree_at l (page_number l a.value) ws) ∷ ys)
        → W
        ≡ below
        ++ cond (eqb f 0 && eqb (μ less) 0)
        (write f (page_in l ws) ∷ write (page_number l a.value) free_page ∷ write (page_number l b.value) free_page ∷ [])
        (write (page_number l a.value) (page_in l ws) ∷ write (page_number l b.value) free_page ∷ shrunk k memory x up rest f less)
        → needs k memory x f up rest ≡ nothing
        → Joined k memory x l f up (xs ++ a ∷ b ∷ ys) lo hi W
    pair_joins up ws rest less p least most is rule asks =
        let j : Keyed (Tr l) = keyed a.key (tree_at l (page_number l a.value) ws) in
        record {
          before = xs;
          left = a;
          right = b;
          after = ys;
          whole = refl;
          things = ws;
          least = least;
          most = most;
          below = below;
          inner = p;
          new = xs ++ j ∷ ys;
          shorter = ap suc (length-append xs (j ∷ ys)) ∙ sym (length-append xs (a ∷ b ∷ ys) ∙ omega arith);
          patch =
              row_graft xs a (b ∷ []) (j ∷ []) ys lo hi
              (below ++ write (page_number l a.value) (page_in l ws) ∷ write (page_number l b.value) free_page ∷ [])
              r from to
              (pair_joined k memory x l one a b (head_key ys hi) below (pair_span xs a b ys lo hi r) (pair_different xs a b ys lo hi r) ws p least most);
          rest = rest;
          rule = rw (is) at rule;
          asks = asks;
        }

module _ (k : ℕ) (memory : ℕ → Page) (x l : ℕ) (one : 1 ≤ k) where
  -- ---- a child c that lost one and needs no sibling is written

  module _ (xs : List (Keyed (Tr l))) (c : Keyed (Tr l)) (ys : List (Keyed (Tr l))) (lo hi f : ℕ) (up : List ℕ) (W : List Write)
      (r : Row k memory l (xs ++ c ∷ ys) lo hi) (from : c.key ≤ x) (to : x < head_key ys hi) where
    alone_step : (page_number l c.value ≡ 0 → ⊥) → (new : Things l) (below : List Write) → suc (length new) ≡ length (things_of l c.value)
        → Patch k memory x l (things_of l c.value) new c.key (head_key ys hi) below
        → W ≡ below ++ shrunk k memory x (f ∷ up) [] (page_number l c.value) (page_in l new)
        → needs k memory x (page_number l c.value) (f ∷ up) [] ≡ nothing
        → Kept k memory x l (xs ++ c ∷ ys) lo hi W
    alone_step other new below shorter p rule asks =
        let n = page_number l c.value in
        let range = child_range k memory x l xs c ys lo hi r in
        let spare : k < μ (page_in l (things_of l c.value))
        = subst (λ (Q : Page). k < μ Q) (holds_page memory l c.value (child_held k memory x l xs c ys lo hi r)) (needs_none k memory x n f up asks other) in
        let count = tree_μ k memory x l c.value c.key (head_key ys hi) range in
        let most = range_most k k (2 * k) l c.value c.key (head_key ys hi) range in
        settled_step k memory x l xs c ys lo hi r W from to
        (record {
          tree = tree_at l n new;
          number = number_back l n new;
          patch =
              subst (λ (U : List Write). Patch k memory x (suc l) (c ∷ []) (keyed c.key (tree_at l n new) ∷ []) c.key (head_key ys hi) U)
              (ap (λ (U : List Write). below ++ U) (sym (shrunk_alone k memory x (f ∷ up) n (page_in l new))) ∙ sym rule)
              (page_written k memory x l one c (head_key ys hi) new below range (child_rises k memory x l xs c ys lo hi r)
              (child_different k memory x l xs c ys lo hi r) p (omega arith) (omega arith));
        })

  -- ---- a short child c and its right neighbour s

  module _ (xs : List (Keyed (Tr l))) (c s : Keyed (Tr l)) (ys : List (Keyed (Tr l))) (lo hi f : ℕ) (up : List ℕ) (W : List Write)
      (r : Row k memory l (xs ++ c ∷ s ∷ ys) lo hi) (top : memory f ≡ page_in (suc l) (xs ++ c ∷ s ∷ ys))
      (from : c.key ≤ x) (to : x < s.key) (ss : List ℕ) (h : Short k memory x l c s.key f up (page_number l s.value) ss W) where
    right_span : Span (ChildIn k l) (c ∷ s ∷ []) (head_key ys hi)
    right_span = pair_span k memory x l xs c s ys lo hi r

    right_to : x < head_key ys hi
    right_to = omega (arith, right_span.2.0)

    right_range : ChildIn k l s.value s.key (head_key ys hi)
    right_range = right_span.2.1

    right_page : memory (page_number l s.value) ≡ page_in l (things_of l s.value)
    right_page = holds_page memory l s.value (pair_held k memory x l xs c s ys lo hi r).1.0

    right_count : μ (page_in l (things_of l s.value)) + tier l ≡ length (things_of l s.value)
    right_count = tree_μ k memory x l s.value s.key (head_key ys hi) right_range

    -- how many things the short page has
    right_new : length h.new + 1 ≡ k + tier l
    right_new =
        let held = (pair_held k memory x l xs c s ys lo hi r).0 in
        omega (arith, tree_least k memory x l c.value c.key s.key right_span.1 held h.few, h.shorter)

    right_short : μ (page_in l h.new) < k
    right_short = let n = right_new in omega (arith, things_μ l h.new (omega arith))

    -- what both hold, as one row
    right_both : Patch k memory x l (opened l (c ∷ s ∷ [])) (h.new ++ things_of l s.value) c.key (head_key ys hi) h.below
    right_both =
        subst (λ (ts : Things l). Patch k memory x l (opened l (c ∷ s ∷ [])) (h.new ++ ts) c.key (head_key ys hi) h.below)
        (append-nil (things_of l s.value))
        (graft k memory x l [] (things_of l c.value) h.new (opened l (s ∷ [])) c.key c.key s.key (head_key ys hi) h.below
        (run_nil k l c.key)
        (range_run k k (2 * k) l c.value c.key s.key right_span.1)
        (opened_run k l (s ∷ []) (head_key ys hi) right_span.2)
        from to
        (opened_different k memory x l xs c s ys lo hi r)
        (opened_held k memory x l xs c s ys lo hi r)
        h.patch)

    -- the neighbour's first thing d moves over
    right_evens_at : k < μ (page_in l (things_of l s.value)) → (d e : Keyed (Thing l)) (R : Things l) → things_of l s.value ≡ d ∷ e ∷ R
        → Moved k memory x l f (xs ++ c ∷ s ∷ ys) lo hi W
    right_evens_at spare d e R cut =
        let at = page_number l in
        let lv = suc (suc l) in
        let P = ChildIn k l in
        let F : Page = page_in (suc l) (xs ++ c ∷ s ∷ ys) in
        let S : Page = page_in l (things_of l s.value) in
        let L : Things l = h.new ++ d ∷ [] in
        let counted = right_count in
        let count : length (things_of l s.value) ≡ suc (suc (length R)) = ap length cut in
        let most = range_most k k (2 * k) l s.value s.key (head_key ys hi) right_range in
        let number = right_new in
        let leftNumber : length L ≡ length h.new + 1 = length-append h.new (d ∷ []) in
        let run : Run k l (d ∷ e ∷ R) s.key (head_key ys hi)
        = subst (λ (ts : Things l). Run k l ts s.key (head_key ys hi)) cut (range_run k k (2 * k) l s.value s.key (head_key ys hi) right_range) in
        let parts : moved x F (page_in l h.new) S ≡ parted (page_in l L) e.key (page_in l (e ∷ R))
        = right_moved P lv at xs c s ys hi x r.span from to (page_in l h.new) S
        ∙ ap (λ (ts : Things l). from_right s.key (page_in l h.new) (page_in l ts)) cut
        ∙ things_from_right k l s.key (head_key ys hi) h.new d e R run (omega arith) in
        let both : Patch k memory x l (opened l (c ∷ s ∷ [])) (L ++ (e ∷ R)) c.key (head_key ys hi) h.below
        = subst (λ (ts : Things l). Patch k memory x l (opened l (c ∷ s ∷ [])) ts c.key (head_key ys hi) h.below)
        (ap (λ (ts : Things l). h.new ++ ts) cut ∙ sym (append_snoc h.new d (e ∷ R)))
        right_both in
        let c' : Keyed (Tr l) = keyed c.key (tree_at l (at c.value) L) in
        let s' : Keyed (Tr l) = keyed e.key (tree_at l (at s.value) (e ∷ R)) in
        pair_evens k memory x l xs c s ys lo hi f W h.below one r from right_to L (e ∷ R)
        (write (at c.value) (page_in l L) ∷ write (at s.value) (page_in l (e ∷ R)) ∷ [])
        (rekeyed (between_at x F) e.key F)
        both
        (omega arith) (omega arith) (omega arith) (omega arith)
        (λ q. omega arith)
        (λ M st. (st.0, st.1.0))
        (things_fit k l L (omega arith) (omega arith), (things_fit k l (e ∷ R) (omega arith) (omega arith), tt))
        (ap (λ (i : ℕ). rekeyed i e.key F) (right_between_at P lv at xs c s ys hi x r.span from to)
        ∙ row_page_rekeyed lv at xs c c' s s' ys e.key refl (number_back l (at c.value) L) refl (number_back l (at s.value) (e ∷ R)))
        (h.rule
        ∙ ap (λ (U : List Write). h.below ++ U)
        (right_moves k memory x f up (at s.value) ss (at c.value) (page_in l h.new) F S top right_page right_short
        (page_in l L) (page_in l (e ∷ R)) e.key spare (right_has_right P lv at xs c s ys hi x r.span from to) parts))

    right_evens : k < μ (page_in l (things_of l s.value)) → Moved k memory x l f (xs ++ c ∷ s ∷ ys) lo hi W
    right_evens spare =
        let (d, e, R, cut) = two_first (things_of l s.value) (omega (arith, right_count)) in
        right_evens_at spare d e R cut

    -- the two join in c's page
    right_joined : μ (page_in l (things_of l s.value)) ≤ k → needs k memory x f up ss ≡ nothing → Joined k memory x l f up (xs ++ c ∷ s ∷ ys) lo hi W
    right_joined full asks =
        let at = page_number l in
        let lv = suc (suc l) in
        let P = ChildIn k l in
        let F : Page = page_in (suc l) (xs ++ c ∷ s ∷ ys) in
        let S : Page = page_in l (things_of l s.value) in
        let ws : Things l = h.new ++ things_of l s.value in
        let number = right_new in
        let count = right_count in
        let least = range_least k k (2 * k) l s.value s.key (head_key ys hi) right_range in
        let both : length ws ≡ length h.new + length (things_of l s.value) = length-append h.new (things_of l s.value) in
        let run = range_run k k (2 * k) l s.value s.key (head_key ys hi) right_range in
        let j : Keyed (Tr l) = keyed c.key (tree_at l (at c.value) ws) in
        pair_joins k memory x l xs c s ys lo hi f W h.below one r from right_to up ws ss (less_key (between_at x F) F)
        right_both (omega arith) (tier_most (length ws) k l (omega arith))
        (ap (λ (i : ℕ). less_key i F) (right_between_at P lv at xs c s ys hi x r.span from to)
        ∙ row_page_less_key lv at xs c j s ys refl (number_back l (at c.value) ws))
        (h.rule
        ∙ ap (λ (U : List Write). h.below ++ U)
        (right_joins k memory x f up (at s.value) ss (at c.value) (page_in l h.new) F S top right_page right_short
        (page_in l ws) (less_key (between_at x F) F) full
        (right_has_right P lv at xs c s ys hi x r.span from to)
        (right_merged P lv at xs c s ys hi x r.span from to (page_in l h.new) S
        ∙ things_joined k l s.key (head_key ys hi) h.new (things_of l s.value) run (omega arith) (omega arith))
        refl))
        asks

  -- ---- a short child c, the last of its row, and its left neighbour s

  module _ (xs : List (Keyed (Tr l))) (s c : Keyed (Tr l)) (lo hi f : ℕ) (up : List ℕ) (W : List Write)
      (r : Row k memory l (xs ++ s ∷ c ∷ []) lo hi) (top : memory f ≡ page_in (suc l) (xs ++ s ∷ c ∷ []))
      (from : c.key ≤ x) (to : x < hi) (ss : List ℕ) (h : Short k memory x l c hi f up (page_number l s.value) ss W) where
    left_span : Span (ChildIn k l) (s ∷ c ∷ []) hi
    left_span = pair_span k memory x l xs s c [] lo hi r

    left_from : s.key ≤ x
    left_from = omega (arith, left_span.0)

    left_range : ChildIn k l s.value s.key c.key
    left_range = left_span.1

    left_page : memory (page_number l s.value) ≡ page_in l (things_of l s.value)
    left_page = holds_page memory l s.value (pair_held k memory x l xs s c [] lo hi r).0

    left_count : μ (page_in l (things_of l s.value)) + tier l ≡ length (things_of l s.value)
    left_count = tree_μ k memory x l s.value s.key c.key left_range

    -- how many things the short page has
    left_new : length h.new + 1 ≡ k + tier l
    left_new =
        let held = (pair_held k memory x l xs s c [] lo hi r).1.0 in
        omega (arith, tree_least k memory x l c.value c.key hi left_span.2.1 held h.few, h.shorter)

    left_short : μ (page_in l h.new) < k
    left_short = let n = left_new in omega (arith, things_μ l h.new (omega arith))

    -- what both hold, as one row
    left_both : Patch k memory x l (opened l (s ∷ c ∷ [])) (things_of l s.value ++ h.new) s.key hi h.below
    left_both =
        subst (λ (ts : Things l). Patch k memory x l (opened l (s ∷ c ∷ [])) (things_of l s.value ++ ts) s.key hi h.below) (append-nil h.new)
        (graft k memory x l (things_of l s.value) (things_of l c.value) h.new [] s.key c.key hi hi h.below
        (range_run k k (2 * k) l s.value s.key c.key left_span.1)
        (range_run k k (2 * k) l c.value c.key hi left_span.2.1)
        (run_nil k l hi)
        from to
        (opened_different k memory x l xs s c [] lo hi r)
        (opened_held k memory x l xs s c [] lo hi r)
        h.patch)

    -- the neighbour's last thing e moves over
    left_evens_at : k < μ (page_in l (things_of l s.value)) → (L : Things l) (e : Keyed (Thing l)) → things_of l s.value ≡ L ++ e ∷ []
        → Moved k memory x l f (xs ++ s ∷ c ∷ []) lo hi W
    left_evens_at spare L e cut =
        let at = page_number l in
        let lv = suc (suc l) in
        let P = ChildIn k l in
        let F : Page = page_in (suc l) (xs ++ s ∷ c ∷ []) in
        let S : Page = page_in l (things_of l s.value) in
        let counted = left_count in
        let count : length (things_of l s.value) ≡ length L + 1 = ap length cut ∙ length-append L (e ∷ []) in
        let most = range_most k k (2 * k) l s.value s.key c.key left_range in
        let number = left_new in
        let both : Patch k memory x l (opened l (s ∷ c ∷ [])) (L ++ e ∷ h.new) s.key hi h.below
        = subst (λ (ts : Things l). Patch k memory x l (opened l (s ∷ c ∷ [])) ts s.key hi h.below)
        (ap (λ (ts : Things l). ts ++ h.new) cut ∙ append_snoc L e h.new)
        left_both in
        let parts : moved x F (page_in l h.new) S ≡ parted (page_in l L) e.key (page_in l (e ∷ h.new))
        = left_moved P lv at xs s c hi x r.span from to (page_in l h.new) S
        ∙ ap (λ (ts : Things l). from_left c.key (page_in l ts) (page_in l h.new)) cut
        ∙ things_from_left k l c.key hi L e h.new h.patch.runs (omega arith) (omega arith) in
        let s' : Keyed (Tr l) = keyed s.key (tree_at l (at s.value) L) in
        let c' : Keyed (Tr l) = keyed e.key (tree_at l (at c.value) (e ∷ h.new)) in
        pair_evens k memory x l xs s c [] lo hi f W h.below one r left_from to L (e ∷ h.new)
        (write (at c.value) (page_in l (e ∷ h.new)) ∷ write (at s.value) (page_in l L) ∷ [])
        (rekeyed (between_at x F) e.key F)
        both
        (omega arith) (omega arith) (omega arith) (omega arith)
        (λ q. omega arith)
        (λ M st. (st.1.0, st.0))
        (things_fit k l (e ∷ h.new) (omega arith) (omega arith), (things_fit k l L (omega arith) (omega arith), tt))
        (ap (λ (i : ℕ). rekeyed i e.key F) (left_between_at P lv at xs s c hi x r.span from to)
        ∙ row_page_rekeyed lv at xs s s' c c' [] e.key refl (number_back l (at s.value) L) refl (number_back l (at c.value) (e ∷ h.new)))
        (h.rule
        ∙ ap (λ (U : List Write). h.below ++ U)
        (left_moves k memory x f up (at s.value) ss (at c.value) (page_in l h.new) F S top left_page left_short
        (page_in l L) (page_in l (e ∷ h.new)) e.key spare (left_has_right P lv at xs s c hi x r.span from to) parts))

    left_evens : k < μ (page_in l (things_of l s.value)) → Moved k memory x l f (xs ++ s ∷ c ∷ []) lo hi W
    left_evens spare =
        let (L, e, cut) = one_last (things_of l s.value) (omega (arith, left_count)) in
        left_evens_at spare L e cut

    -- the two join in s's page
    left_joined : μ (page_in l (things_of l s.value)) ≤ k → needs k memory x f up ss ≡ nothing → Joined k memory x l f up (xs ++ s ∷ c ∷ []) lo hi W
    left_joined full asks =
        let at = page_number l in
        let lv = suc (suc l) in
        let P = ChildIn k l in
        let F : Page = page_in (suc l) (xs ++ s ∷ c ∷ []) in
        let S : Page = page_in l (things_of l s.value) in
        let ws : Things l = things_of l s.value ++ h.new in
        let number = left_new in
        let count = left_count in
        let least = range_least k k (2 * k) l s.value s.key c.key left_range in
        let both : length ws ≡ length (things_of l s.value) + length h.new = length-append (things_of l s.value) h.new in
        let j : Keyed (Tr l) = keyed s.key (tree_at l (at s.value) ws) in
        pair_joins k memory x l xs s c [] lo hi f W h.below one r left_from to up ws ss (less_key (between_at x F) F)
        left_both (omega arith) (tier_most (length ws) k l (omega arith))
        (ap (λ (i : ℕ). less_key i F) (left_between_at P lv at xs s c hi x r.span from to)
        ∙ row_page_less_key lv at xs s j c [] refl (number_back l (at s.value) ws))
        (h.rule
        ∙ ap (λ (U : List Write). h.below ++ U)
        (left_joins k memory x f up (at s.value) ss (at c.value) (page_in l h.new) F S top left_page left_short
        (page_in l ws) (less_key (between_at x F) F) full
        (left_has_right P lv at xs s c hi x r.span from to)
        (left_merged P lv at xs s c hi x r.span from to (page_in l h.new) S
        ∙ things_joined k l c.key hi (things_of l s.value) h.new h.patch.runs (omega arith) (omega arith))
        refl))
        asks

  -- ---- a short child: its neighbour is the one that the rule asks for

  module _ (c : Keyed (Tr l)) (lo hi f : ℕ) (up : List ℕ) (n : ℕ) (ns : List ℕ) (W : List Write) (from : c.key ≤ x)
      (asks : needs k memory x (page_number l c.value) (f ∷ up) (n ∷ ns) ≡ nothing) where
    -- n is the page of the neighbour s
    short_as : (end s : ℕ) → n ≡ s → Short k memory x l c end f up n ns W → Short k memory x l c end f up s ns W
    short_as end s is h = subst (λ (m : ℕ). Short k memory x l c end f up m ns W) is h

    right_step : (xs : List (Keyed (Tr l))) (s : Keyed (Tr l)) (ys : List (Keyed (Tr l)))
        → Row k memory l (xs ++ c ∷ s ∷ ys) lo hi → memory f ≡ page_in (suc l) (xs ++ c ∷ s ∷ ys) → x < s.key
        → Short k memory x l c s.key f up n ns W → Step k memory x l f up (xs ++ c ∷ s ∷ ys) lo hi W
    right_step xs s ys r top to h =
        let shared = needs_shared k memory x (page_number l c.value) f up n ns asks in
        let is : n ≡ page_number l s.value
        = shared.beside ∙ ap (neighbour x) top ∙ right_neighbour (ChildIn k l) (suc (suc l)) (page_number l) xs c s ys hi x r.span from to in
        let h' = short_as s.key (page_number l s.value) is h in
        let value : memory n ≡ page_in l (things_of l s.value) = ap memory is ∙ right_page xs c s ys lo hi f up W r top from to ns h' in
        ⊎_elim
        (λ g. evens (right_evens xs c s ys lo hi f up W r top from to ns h' (subst (λ (Q : Page). k < μ Q) value g.0)))
        (λ g. joins (right_joined xs c s ys lo hi f up W r top from to ns h' (subst (λ (Q : Page). μ Q ≤ k) value g.0) g.1))
        shared.then

    left_step : (xs : List (Keyed (Tr l))) (s : Keyed (Tr l)) → x < hi → Short k memory x l c hi f up n ns W
        → Row k memory l (xs ++ s ∷ c ∷ []) lo hi → memory f ≡ page_in (suc l) (xs ++ s ∷ c ∷ [])
        → Step k memory x l f up (xs ++ s ∷ c ∷ []) lo hi W
    left_step xs s to h r top =
        let shared = needs_shared k memory x (page_number l c.value) f up n ns asks in
        let is : n ≡ page_number l s.value
        = shared.beside ∙ ap (neighbour x) top ∙ left_neighbour (ChildIn k l) (suc (suc l)) (page_number l) xs s c hi x r.span from to in
        let h' = short_as hi (page_number l s.value) is h in
        let value : memory n ≡ page_in l (things_of l s.value) = ap memory is ∙ left_page xs s c lo hi f up W r top from to ns h' in
        ⊎_elim
        (λ g. evens (left_evens xs s c lo hi f up W r top from to ns h' (subst (λ (Q : Page). k < μ Q) value g.0)))
        (λ g. joins (left_joined xs s c lo hi f up W r top from to ns h' (subst (λ (Q : Page). μ Q ≤ k) value g.0) g.1))
        shared.then

    -- the right one if there is one, otherwise the left one
    neighbour_step : (xs ys : List (Keyed (Tr l))) → 2 ≤ length (xs ++ c ∷ ys)
        → Row k memory l (xs ++ c ∷ ys) lo hi → memory f ≡ page_in (suc l) (xs ++ c ∷ ys) → x < head_key ys hi
        → Short k memory x l c (head_key ys hi) f up n ns W
        → Step k memory x l f up (xs ++ c ∷ ys) lo hi W
    neighbour_step xs (s ∷ ys) enough r top to h = right_step xs s ys r top to h
    neighbour_step xs [] enough r top to h =
        let (L, s, cut) = one_last xs (omega (arith, length-append xs (c ∷ []))) in
        subst (λ (row : List (Keyed (Tr l))). Row k memory l row lo hi → memory f ≡ page_in (suc l) row → Step k memory x l f up row lo hi W)
        (sym (ap (λ (row : List (Keyed (Tr l))). row ++ c ∷ []) cut ∙ append_snoc L s (c ∷ [])))
        (left_step L s to h)
        r top

  -- What became of a child gives what becomes of its father's row.
  pub child_step : (xs : List (Keyed (Tr l))) (c : Keyed (Tr l)) (ys : List (Keyed (Tr l))) (lo hi f : ℕ) (up : List ℕ) (W : List Write)
      → Row k memory l (xs ++ c ∷ ys) lo hi → 2 ≤ length (xs ++ c ∷ ys) → memory f ≡ page_in (suc l) (xs ++ c ∷ ys)
      → (page_number l c.value ≡ 0 → ⊥) → c.key ≤ x → x < head_key ys hi
      → Settled k memory x l c.value c.key (head_key ys hi) W ⊎ Reached k memory x l c.value c.key (head_key ys hi) (f ∷ up) W
      → Step k memory x l f up (xs ++ c ∷ ys) lo hi W
  child_step xs c ys lo hi f up W r enough top other from to (inl s) = stays (settled_step k memory x l xs c ys lo hi r W from to s)
  child_step xs c ys lo hi f up W r enough top other from to (inr h) = by_rest h.rest h.rule h.asks
    where
      by_rest : (rest : List ℕ) → W ≡ h.below ++ shrunk k memory x (f ∷ up) rest (page_number l c.value) (page_in l h.new)
          → needs k memory x (page_number l c.value) (f ∷ up) rest ≡ nothing → Step k memory x l f up (xs ++ c ∷ ys) lo hi W
      by_rest [] rule asks = stays (alone_step xs c ys lo hi f up W r from to other h.new h.below h.shorter h.patch rule asks)
      by_rest (n ∷ ns) rule asks =
          neighbour_step c lo hi f up n ns W from asks xs ys enough r top to
          (record {
            new = h.new;
            shorter = h.shorter;
            below = h.below;
            patch = h.patch;
            few = (needs_shared k memory x (page_number l c.value) f up n ns asks).short;
            rule = rule;
          })
