-- A granted step of a Next at a leaf, or past it. At its leaf it answers at once, or goes on to its second way, or there is no such
-- entry in the tree. On its second way its pages are the ones the rules would have it hold and want, and it takes one more, or the
-- first entry of the second leaf at or above its key is its answer.
use Prim.Native.Nat.{ℕ, suc, ◌+◌, ◌-◌, ◌≤◌, ◌<◌}
use mathlib.Core.Bool.{Bool, true, false, ◌&&◌, true≢false, false≢true}
use mathlib.Core.List.{List, [], ◌∷◌, ◌++◌, map, reverse}
use mathlib.Core.Logic.{inl, inr, ⊎_elim}
use mathlib.Core.Path.{◌≡◌, refl, sym, ap, ◌∙◌, subst}
use native.Mathlib.Omega.{arith}
use borrow.Author.Tests.{ltb-true, ltb-false, eqb-true, eqb-false, eq-eqb, ne_eqb}
use lib.Dec.{ltb}
use lib.ListN.{length, get_or, length-append, length-reverse, get_or-append}
use lib.Seq.{get_or_at}
use Rattle.ground.specs.Limits.{word_range}
use Rattle.ground.proofs.Bools.{not_both, and_both, and_first_fails, not_of_false, not_of_true}
use Rattle.ground.proofs.Choice.{by_test, cond_ind}
use Rattle.page.specs.Words.{Entry, Page, is_leaf}
use Rattle.page.specs.Place.{pointer, at_or_above}
use Rattle.page.specs.Short.{has_right, neighbour}
use Rattle.page.proofs.PlaceLaws.{above_first}
use Rattle.pool.specs.Pool.{page_at, free_pages}
use Rattle.slots.specs.declared.Op.TheVariants.{Next}
use Rattle.slots.specs.declared.Answer.TheVariants.{None as NoLot}
use Rattle.slots.specs.declared.Lock.TheVariants.{Rho}
use Rattle.slots.specs.declared.Under.{Under}
use Rattle.slots.specs.Parts.{only_reads, under, converting, Stand, on_pages, want_beside, wants_next, with_op}
use Rattle.footing.specs.Granted.{is_safe, next_answer, crosses, by_nearest, at_leaf, goes_left, besides}
use Rattle.footing.specs.Fitting.{is_none, leftmost, turns_right, rightly_across}
use Rattle.tree.specs.Tree.{Tr, entries_of, way, leaf_on, Forms, PoolForms}
use Rattle.tree.specs.Facts.{WayFacts, SameFirst, NextFacts}
use Rattle.tree.proofs.Next.{next_facts}
use Rattle.runs.specs.Stance.{WantsWith, Rightly, Crossing, StandsAtLeaf, Takes}
use Rattle.runs.specs.Plain.{plain}
use Rattle.runs.specs.Step.{Ended}
use Rattle.runs.proofs.Locking.{due_held, beside_plain}
use Rattle.runs.proofs.PlainLaws.{above_key}
use Rattle.runs.proofs.HeldPath.{below_unsafe}
use Rattle.runs.proofs.Across.{Across, across, top_upward, first_facts, second_facts, second_level}
use Rattle.runs.proofs.Landing.{Plain, Does, on, done, leaf_page, leaf_is, nothing_ends}

-- ---- answers and tests

-- lists that begin with the same entry are answered alike
first_answers : (es es' : List Entry) → SameFirst es es' → next_answer es ≡ next_answer es'
first_answers es es' s = ap next_answer s.one ∙ sym (ap next_answer s.other)

-- and where the one begins with the first entry at or above a key of the other, so does what it has at or above that key
above_answers : (x : ℕ) (es es' : List Entry) → SameFirst es (at_or_above x es') → next_answer (at_or_above x es) ≡ next_answer (at_or_above x es')
above_answers x es es' s =
    ap (λ (l : List Entry). next_answer (at_or_above x l)) s.one
    ∙ ap next_answer (above_first x s.first s.rest (above_key x es' s.first s.rest' s.other))
    ∙ sym (ap next_answer s.other)

-- a leaf is not safe for a Next
leaf_unsafe : (x k : ℕ) (P : Page) → is_leaf P ≡ true → is_safe (Next x) k P ≡ false
leaf_unsafe x k P leaf = and_first_fails (has_right x P) (not_of_true leaf)

-- a page above the leaves that is not safe has no child to the right
no_right : (x k : ℕ) (P : Page) → is_leaf P ≡ false → is_safe (Next x) k P ≡ false → has_right x P ≡ false
no_right x k P upper f = sym (ap (λ (b : Bool). b && has_right x P) (not_of_false upper)) ∙ f

-- a leftmost way, and one that begins right of the route, page by page
leftmost_from : (memory : ℕ → Page) (ps : List ℕ)
    → ((j : ℕ) → suc j < length ps → get_or ps (suc j) 0 ≡ pointer 0 (memory (get_or ps j 0)))
    → ((j : ℕ) → suc j < length ps → (memory (get_or ps j 0)).level ≡ (memory (get_or ps (suc j) 0)).level + 1)
    → leftmost memory ps ≡ true
unfolding leftmost
leftmost_from memory [] leads level = refl
leftmost_from memory (p ∷ []) leads level = refl
leftmost_from memory (p ∷ (q ∷ rest)) leads level =
    and_both
    (and_both
    (eq-eqb (pointer 0 (memory p)) q (sym (leads 0 (omega arith))))
    (eq-eqb (memory p).level ((memory q).level + 1) (level 0 (omega arith))))
    (leftmost_from memory (q ∷ rest) (λ j h. leads (suc j) (omega arith)) (λ j h. level (suc j) (omega arith)))

turns_from : (memory : ℕ → Page) (x top : ℕ) (ps : List ℕ) → 1 ≤ length ps → get_or ps 0 0 ≡ neighbour x (memory top)
    → (memory top).level ≡ (memory (get_or ps 0 0)).level + 1 → leftmost memory ps ≡ true → turns_right memory x top ps ≡ true
turns_from memory x top [] some turns level left = absurd (omega arith)
turns_from memory x top (p ∷ rest) some turns level left =
    and_both (and_both (eq-eqb (neighbour x (memory top)) p (sym turns)) (eq-eqb (memory top).level ((memory p).level + 1) level)) left

across_from : (x k : ℕ) (memory : ℕ → Page) (z : Stand) (path : List ℕ) → 1 ≤ length path
    → at_or_above x (memory (get_or (reverse path) 0 0)).entries ≡ [] → is_safe (Next x) k (memory (get_or path 0 0)) ≡ true
    → turns_right memory x (get_or path 0 0) (z.beside ++ z.want ∷ []) ≡ true → rightly_across k memory (with_op (Next x) z) path ≡ true
across_from x k memory z [] some none right turns = absurd (omega arith)
across_from x k memory z (top ∷ below) some none right turns =
    and_both (and_both (and_both {a = true} refl (ap is_none none)) right) turns

-- ---- at its leaf

module _ (k n : ℕ) (ws : List ℕ) (l : ℕ) (t : Tr l) (pool : PoolForms k n ws l t) (one : 1 ≤ k) (z₀ : Stand)
    (x : ℕ) (key : x < word_range) (facts : WayFacts (page_at k ws) x l t) where
  abbrev memory : ℕ → Page
  memory = page_at k ws

  abbrev es : List Entry
  es = entries_of l t

  nexts : NextFacts memory x l t
  nexts = next_facts k n memory l t one pool.forms x key

  -- a Next ends with the plain list's answer
  answers : (found : List Entry) → next_answer found ≡ next_answer (at_or_above x es)
      → Ended k n ws l t (with_op (Next x) z₀) (next_answer found) []
  unfolding plain
  answers found same =
      nothing_ends k n ws l t pool z₀ (Next x) (next_answer found)
      (inl (record { answer = same; entries = refl; room = λ y v w e m. absurd (true≢false (ap only_reads e)) }))
      (λ third. absurd (false≢true third))

  -- where it stands with this path, held so
  abbrev down : List ℕ → List Under → Stand
  down path locks = on_pages (with_op (Next x) z₀) path locks [] []

  module _ (path : List ℕ) (locks : List Under) (leaf : ℕ) (fathers upper : List ℕ) (upward : reverse path ≡ leaf ∷ fathers)
      (whole : way x l t ≡ leaf ∷ (fathers ++ upper)) (rightly : Rightly (Next x) k memory path)
      (takes : (q : ℕ) → Takes k memory (with_op (Next x) z₀) (wants_next (down path locks) q Rho))
      (plain : locks ≡ map (λ (p : ℕ). under Rho) path) where
    on_way : way x l t ≡ reverse path ++ upper
    on_way = whole ∙ ap (λ (ps : List ℕ). ps ++ upper) (sym upward)

    leaf_entries : (memory leaf).entries ≡ leaf_on x l t
    leaf_entries = ap (λ (P : Page). P.entries) (leaf_page memory x l t facts leaf (fathers ++ upper) whole)

    lowest : get_or (reverse path) 0 0 ≡ leaf
    lowest = ap (λ (up : List ℕ). get_or up 0 0) upward

    path_size : length path + length upper ≡ l + 1
    path_size =
        omega (arith, ap length on_way, length-append (reverse path) upper, length-reverse path, facts.pages)

    -- a top page that has a child to the right is above the leaf
    two_pages : is_safe (Next x) k (memory (get_or path 0 0)) ≡ true → 1 < length path
    two_pages safe =
        by_test (ltb 1 (length path))
        (λ y. ltb-true 1 (length path) y)
        (λ o.
        let short = ltb-false 1 (length path) o in
        let top : get_or path 0 0 ≡ leaf = sym (top_upward path 0 (omega (arith, rightly.some))) ∙ lowest in
        not_both safe
        (ap (λ (p : ℕ). is_safe (Next x) k (memory p)) top
        ∙ leaf_unsafe x k (memory leaf) (leaf_is memory x l t facts leaf (fathers ++ upper) whole)))

    -- it goes on to the next child to the right of the top page
    goes_across : at_or_above x (leaf_on x l t) ≡ [] → is_safe (Next x) k (memory (get_or path 0 0)) ≡ true
        → Crossing k memory l t (wants_next (down path locks) (neighbour x (memory (get_or path 0 0))) Rho)
    goes_across none safe = record {
      asks_next = refl;
      upper = upper;
      whole = on_way;
      rightly = rightly;
      none = ap (λ (p : ℕ). at_or_above x (memory p).entries) lowest ∙ ap (at_or_above x) leaf_entries ∙ none;
      right = safe;
      fewer = two_pages safe;
      turns = refl;
      leftmost = λ j h. absurd (omega arith);
    }

    -- the top page is page 0, and no page of the way has a child to the right
    nothing_right : is_safe (Next x) k (memory (get_or path 0 0)) ≡ false → (i : ℕ) → i < l
        → has_right x (memory (get_or (way x l t) (suc i) 0)) ≡ false
    nothing_right f i h =
        let p : ℕ = get_or (way x l t) (suc i) 0 in
        let m : ℕ = length path - 1 in
        let long : length path ≡ suc m = omega (arith, rightly.some) in
        let top = top_upward path m long in
        let root : get_or path 0 0 ≡ 0 = ⊎_elim (λ e. e) (λ safe. not_both safe f) rightly.top in
        let here : (j : ℕ) → j < length path → get_or (way x l t) j 0 ≡ get_or (reverse path) j 0
        = λ j b. ap (λ (w : List ℕ). get_or w j 0) on_way ∙ get_or-append (reverse path) upper 0 j (omega (arith, length-reverse path)) in
        let level : (memory 0).level ≡ m + 1
        = ap (λ (q : ℕ). (memory q).level) (sym (here m (omega arith) ∙ top ∙ root)) ∙ facts.level m (omega (arith, path_size)) in
        let highest : (memory 0).level ≡ l + 1 = ap (λ (q : ℕ). (memory q).level) (sym facts.root) ∙ facts.level l (omega arith) in
        let inside : suc i < length path = omega arith in
        no_right x k (memory p) (ne_eqb (memory p).level 1 (λ e. absurd (omega (arith, facts.level (suc i) h))))
        (ap (λ (q : ℕ). is_safe (Next x) k (memory q)) (here (suc i) inside)
        ∙ by_test (ltb (suc (suc i)) (length path))
        (λ y. below_unsafe (Next x) k memory path rightly (suc i) (ltb-true (suc (suc i)) (length path) y))
        (λ o.
        let last = ltb-false (suc (suc i)) (length path) o in
        ap (λ (q : ℕ). is_safe (Next x) k (memory q)) (top_upward path (suc i) (omega arith)) ∙ f))

    -- by the top page, where the leaf has no such key
    by_top : (ps : List ℕ) → path ≡ ps → at_or_above x (leaf_on x l t) ≡ []
        → Does k n ws l t (with_op (Next x) z₀) (crosses x k memory (down path locks) ps)
    by_top [] e none = absurd (omega (arith, ap length e, rightly.some))
    by_top (top ∷ below) e none =
        let first : get_or path 0 0 ≡ top = ap (λ (ps : List ℕ). get_or ps 0 0) e in
        cond_ind (Does k n ws l t (with_op (Next x) z₀)) (is_safe (Next x) k (memory top))
        (λ safe.
        on (wants_next (down path locks) (neighbour x (memory top)) Rho) refl refl
        (inl (
          inr (inr (inr
              (subst (λ (p : ℕ). Crossing k memory l t (wants_next (down path locks) (neighbour x (memory p)) Rho)) first
              (goes_across none (ap (λ (p : ℕ). is_safe (Next x) k (memory p)) first ∙ safe))))),
          sym (due_held (Next x) memory (reverse path) refl),
          (plain, refl),
        ))
        (takes (neighbour x (memory top))))
        (λ f.
        done NoLot [] refl
        (answers []
        (ap next_answer (sym (nexts.nowhere none (nothing_right (ap (λ (p : ℕ). is_safe (Next x) k (memory p)) first ∙ f)))))))

    by_nearest_lem : (found : List Entry) → at_or_above x (leaf_on x l t) ≡ found
        → Does k n ws l t (with_op (Next x) z₀) (by_nearest (crosses x k memory (down path locks) path) found)
    by_nearest_lem [] e = by_top path refl e
    by_nearest_lem (first ∷ rest) e =
        done (next_answer (first ∷ rest)) [] refl
        (answers (first ∷ rest)
        (ap next_answer (sym e) ∙ first_answers (at_or_above x (leaf_on x l t)) (at_or_above x es) (nexts.here first rest e)))

    pub next_does : Does k n ws l t (with_op (Next x) z₀) (at_leaf (Next x) k memory (free_pages k n ws) (down path locks) leaf fathers)
    unfolding at_leaf
    next_does = by_nearest_lem (at_or_above x (memory leaf).entries) (ap (at_or_above x) (sym leaf_entries))

-- ---- past its leaf

module _ (x k n : ℕ) (ws : List ℕ) (l : ℕ) (t : Tr l) (pool : PoolForms k n ws l t) (one : 1 ≤ k) (key : x < word_range)
    (z₀ : Stand) (c : Crossing k (page_at k ws) l t (with_op (Next x) z₀)) where
  abbrev z : Stand
  z = with_op (Next x) z₀

  abbrev pages : ℕ → Page
  pages = page_at k ws

  abbrev forms : Forms k n pages l t
  forms = pool.forms

  abbrev ps : List ℕ
  ps = z.beside ++ z.want ∷ []

  two_ways : Across pages l t z
  two_ways = across k n pages l t one forms z key c

  first_way : WayFacts pages x l t
  first_way = first_facts k n pages l t forms z key two_ways

  level_at : (j : ℕ) → j ≤ length z.beside → (pages (get_or ps j 0)).level ≡ (two_ways.index - j) + 1
  level_at = second_level k n pages l t forms z key two_ways

  size : length ps ≡ length z.beside + 1
  size = length-append z.beside (z.want ∷ [])

  -- the leaf of its path
  leaf_at : get_or (way x l t) 0 0 ≡ get_or (reverse z.path) 0 0
  leaf_at = sym (two_ways.first 0 (omega arith))

  pub crossing_leaf : StandsAtLeaf pages z.path
  crossing_leaf = (omega (arith, c.fewer), ap (λ (p : ℕ). (pages p).level) (sym leaf_at) ∙ first_way.level 0 (omega arith))

  leaf_none : at_or_above x (leaf_on x l t) ≡ []
  leaf_none =
      ap (λ (P : Page). at_or_above x P.entries) (sym first_way.leaf)
      ∙ ap (λ (p : ℕ). at_or_above x (pages p).entries) leaf_at
      ∙ c.none

  -- what it holds beside its path and wants is the leftmost way of the next child to the right
  pub crossing_test : rightly_across k pages z z.path ≡ true
  crossing_test =
      let i : ℕ = two_ways.index in
      let top : (pages (get_or z.path 0 0)).level ≡ suc i + 1
      = ap (λ (p : ℕ). (pages p).level) (sym two_ways.top) ∙ first_way.level (suc i) two_ways.inside in
      across_from x k pages z z.path (omega (arith, c.fewer)) c.none c.right
      (turns_from pages x (get_or z.path 0 0) ps (omega (arith, size)) c.turns
      (omega (arith, top, level_at 0 (omega arith)))
      (leftmost_from pages ps
      (λ j h.
      let inside : j < length z.beside = omega (arith, size) in
      c.leftmost j inside ∙ ap (λ (p : ℕ). pointer 0 (pages p)) (sym (get_or-append z.beside (z.want ∷ []) 0 j inside)))
      (λ j h.
      let inside : suc j ≤ length z.beside = omega (arith, size) in
      omega (arith, level_at j (omega arith), level_at (suc j) inside, two_ways.few))))

  -- ---- the granted page

  want_at : get_or ps (length z.beside) 0 ≡ z.want
  want_at = get_or_at z.beside z.want [] 0 (length z.beside) refl

  want_level : (pages z.want).level ≡ (two_ways.index - length z.beside) + 1
  want_level = ap (λ (p : ℕ). (pages p).level) (sym want_at) ∙ level_at (length z.beside) (omega arith)

  -- above the leaves it takes the page beside the others, and wants p0 of it
  one_more : is_leaf (pages z.want) ≡ false → Crossing k pages l t (wants_next (want_beside z) (pointer 0 (pages z.want)) Rho)
  one_more upperPage =
      let higher = eqb-false (pages z.want).level 1 upperPage in
      let next : ℕ = pointer 0 (pages z.want) in
      let deeper : suc (length ps) < length z.path
      = by_test (ltb (length z.beside) two_ways.index)
      (λ y. let low = ltb-true (length z.beside) two_ways.index y in omega (arith, size, two_ways.long))
      (λ o. let low = ltb-false (length z.beside) two_ways.index o in absurd (higher (omega (arith, want_level)))) in
      record {
        asks_next = refl;
        upper = c.upper;
        whole = c.whole;
        rightly = c.rightly;
        none = c.none;
        right = c.right;
        fewer = deeper;
        turns = get_or-append ps (next ∷ []) 0 0 (omega (arith, size)) ∙ c.turns;
        leftmost = λ j h.
            by_test (ltb j (length z.beside))
            (λ y.
            let inside = ltb-true j (length z.beside) y in
            get_or-append ps (next ∷ []) 0 (suc j) (omega (arith, size))
            ∙ c.leftmost j inside
            ∙ ap (λ (p : ℕ). pointer 0 (pages p)) (sym (get_or-append z.beside (z.want ∷ []) 0 j inside)))
            (λ o.
            let last = ltb-false j (length z.beside) o in
            let at : length z.beside ≡ j = omega (arith, size) in
            get_or_at ps next [] 0 (suc j) (omega (arith, size))
            ∙ ap (λ (p : ℕ). pointer 0 (pages p)) (sym (get_or_at z.beside z.want [] 0 j at)));
      }

  -- no page of the path below its top has a child to the right
  none_lower : (j : ℕ) → j < two_ways.index → has_right x (pages (get_or (way x l t) (suc j) 0)) ≡ false
  none_lower j h =
      let p : ℕ = get_or (way x l t) (suc j) 0 in
      no_right x k (pages p) (ne_eqb (pages p).level 1 (λ e. absurd (omega (arith, first_way.level (suc j) (omega (arith, two_ways.inside))))))
      (ap (λ (q : ℕ). is_safe (Next x) k (pages q)) (sym (two_ways.first (suc j) (omega arith)))
      ∙ below_unsafe (Next x) k pages z.path c.rightly (suc j) (omega (arith, two_ways.long)))

  -- a leaf is the second way's, and its first entry at or above the key is the tree's
  second_answers : is_leaf (pages z.want) ≡ true → next_answer (at_or_above x (pages z.want).entries) ≡ next_answer (at_or_above x (entries_of l t))
  second_answers leafPage =
      let level = eqb-true (pages z.want).level 1 leafPage in
      let y : ℕ = two_ways.beyond.key in
      let end : two_ways.index - length z.beside ≡ 0 = omega (arith, want_level) in
      let lowest : z.want ≡ get_or (way y l t) 0 0
      = sym want_at
      ∙ two_ways.on (length z.beside) (omega arith)
      ∙ ap (λ (j : ℕ). get_or (way y l t) j 0) end in
      ap (λ (p : ℕ). next_answer (at_or_above x (pages p).entries)) lowest
      ∙ ap (λ (P : Page). next_answer (at_or_above x P.entries)) (second_facts k n pages l t forms z key two_ways).leaf
      ∙ above_answers x (leaf_on y l t) (entries_of l t) (two_ways.beyond.nearest leaf_none none_lower)

  left_does : converting z ≡ false → WantsWith pages z → Plain z → Does k n ws l t z (goes_left pages z)
  unfolding goes_left
  left_does new wants plain =
      cond_ind (Does k n ws l t z) (is_leaf (pages z.want))
      (λ y.
      done (next_answer (at_or_above x (pages z.want).entries)) [] refl
      (answers k n ws l t pool one z₀ x key first_way (at_or_above x (pages z.want).entries) (second_answers y)))
      (λ f.
      on (wants_next (want_beside z) (pointer 0 (pages z.want)) Rho) refl refl
      (inl (
        inr (inr (inr (one_more f))),
        sym (due_held (Next x) pages (reverse z.path) refl),
        (plain.0, beside_plain z plain.1 (wants ∙ due_held (Next x) pages (reverse z.path) refl)),
      ))
      (inl (inr (inr (inl (record {
        same = refl;
        new = new;
        beside = refl;
        at_leaf = crossing_leaf;
        still = refl;
        locks = refl;
        holds = refl;
        sidelocks = refl;
      }))))))

  pub crossing_does : converting z ≡ false → WantsWith pages z → Plain z → Does k n ws l t z (besides k pages z)
  unfolding besides
  crossing_does = left_does
