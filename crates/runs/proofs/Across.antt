-- A Next past its leaf, in the tree: the second way, as far as it is held, and the want behind it are pages of another key's
-- way, which leaves the first way below the top page of the path. So they are pages of the tree, none of them on the path.
use Prim.Native.Nat.{ℕ, zero, suc, ◌+◌, ◌-◌, ◌≤◌, ◌<◌}
use mathlib.Core.Bool.{true, false, not, false≢true}
use mathlib.Core.List.{List, [], ◌∷◌, ◌++◌, reverse, reverse-cons}
use mathlib.Core.Path.{◌≡◌, sym, ap, ◌∙◌, subst}
use native.Mathlib.Omega.{arith}
use borrow.Author.Tests.{leb-true, leb-false}
use lib.Dec.{leb}
use lib.ListN.{length, get_or, length-append, length-reverse, get_or-append}
use lib.Seq.{get_or_at}
use Rattle.ground.specs.Limits.{word_range}
use Rattle.ground.specs.Tests.{member, distinct}
use Rattle.ground.proofs.Bools.{and_second, false_if_not_true}
use Rattle.ground.proofs.Choice.{by_test}
use Rattle.ground.proofs.Tests.{member_at, distinct_from}
use Rattle.page.specs.Words.{Page, is_leaf}
use Rattle.page.specs.Place.{pointer}
use Rattle.page.specs.Short.{has_right, neighbour}
use Rattle.slots.specs.declared.Op.{Op}
use Rattle.slots.specs.declared.Op.TheVariants.{Search, Insert, Delete, Next, Regrade}
use Rattle.slots.specs.declared.Way.TheVariants.{First, Second, Third}
use Rattle.slots.specs.Parts.{key_of, is_next, Stand}
use Rattle.footing.specs.Granted.{is_safe}
use Rattle.tree.specs.Tree.{Tr, occurs, way, Forms}
use Rattle.tree.specs.Facts.{WayFacts, SecondWay, PlacedFor}
use Rattle.tree.proofs.Search.{way_facts}
use Rattle.tree.proofs.Ways.{place_facts}
use Rattle.tree.proofs.Next.{next_facts}
use Rattle.runs.specs.Stance.{Crossing}
use Rattle.runs.proofs.Paths.{member_reverse}

-- Where the two ways run: the top page of the path is page `index` + 1 of x's way, and the second way goes down below it, by pages of
-- the way of the key `beyond.key`.
pub record Across (memory : ℕ → Page) (l : ℕ) (t : Tr l) (z : Stand) : Type 0 where
  pub index : ℕ
  pub long : length z.path ≡ index + 2
  pub inside : index < l
  pub top : get_or (way (key_of z.op) l t) (suc index) 0 ≡ get_or z.path 0 0
  -- the path, read upward, is x's way
  pub first : (j : ℕ) → j ≤ suc index → get_or (reverse z.path) j 0 ≡ get_or (way (key_of z.op) l t) j 0
  pub beyond : SecondWay memory (key_of z.op) l t index
  pub few : length z.beside ≤ index
  -- the pages of the second way and the want, from the top downward
  pub on : (j : ℕ) → j ≤ length z.beside → get_or (z.beside ++ z.want ∷ []) j 0 ≡ get_or (way beyond.key l t) (index - j) 0

-- the top page is the last one of the path read upward
pub top_upward : (path : List ℕ) (i : ℕ) → length path ≡ suc i → get_or (reverse path) i 0 ≡ get_or path 0 0
top_upward [] i e = absurd (omega arith)
top_upward (top ∷ below) i e =
    ap (λ (up : List ℕ). get_or up i 0) (reverse-cons top below)
    ∙ get_or_at (reverse below) top [] 0 i (omega (arith, length-reverse below))

-- a page that is safe for a Next has a child to the right of the route
pub next_right : (op : Op) (k : ℕ) (P : Page) → is_next op ≡ true → is_safe op k P ≡ true → has_right (key_of op) P ≡ true
next_right (Search x) k P asks safe = absurd (false≢true asks)
next_right (Insert x v First) k P asks safe = absurd (false≢true asks)
next_right (Insert x v Second) k P asks safe = absurd (false≢true asks)
next_right (Insert x v Third) k P asks safe = absurd (false≢true asks)
next_right (Delete x First) k P asks safe = absurd (false≢true asks)
next_right (Delete x Second) k P asks safe = absurd (false≢true asks)
next_right (Delete x Third) k P asks safe = absurd (false≢true asks)
next_right (Next x) k P asks safe = and_second (not (is_leaf P)) (has_right x P) safe
next_right (Regrade x v First) k P asks safe = absurd (false≢true asks)
next_right (Regrade x v Second) k P asks safe = absurd (false≢true asks)
next_right (Regrade x v Third) k P asks safe = absurd (false≢true asks)

module _ (k n : ℕ) (memory : ℕ → Page) (l : ℕ) (t : Tr l) (one : 1 ≤ k) (forms : Forms k n memory l t)
    (z : Stand) (key : key_of z.op < word_range) (c : Crossing k memory l t z) where
  abbrev x : ℕ
  x = key_of z.op

  abbrev i : ℕ
  i = length z.path - 2

  path_inside : i < l
  path_inside =
      omega
      (arith, c.fewer, ap length c.whole, length-append (reverse z.path) c.upper, length-reverse z.path, (way_facts k n memory l t forms x key).pages)

  upward_first : (j : ℕ) → j ≤ suc i → get_or (reverse z.path) j 0 ≡ get_or (way x l t) j 0
  upward_first j h =
      sym (get_or-append (reverse z.path) c.upper 0 j (omega (arith, length-reverse z.path, c.fewer)))
      ∙ ap (λ (w : List ℕ). get_or w j 0) (sym c.whole)

  top_page : get_or (way x l t) (suc i) 0 ≡ get_or z.path 0 0
  top_page = sym (upward_first (suc i) (omega arith)) ∙ top_upward z.path (suc i) (omega (arith, c.fewer))

  turning : SecondWay memory x l t i
  turning =
      (next_facts k n memory l t one forms x key).second i path_inside
      (ap (λ (p : ℕ). has_right x (memory p)) top_page ∙ next_right z.op k (memory (get_or z.path 0 0)) c.asks_next c.right)

  -- each page is what the one before it leads to, in the slot and on the second way
  second_on : (j : ℕ) → j ≤ length z.beside → get_or (z.beside ++ z.want ∷ []) j 0 ≡ get_or (way turning.key l t) (i - j) 0
  second_on zero h =
      let e : i ≡ i - 0 = omega arith in
      c.turns
      ∙ ap (λ (p : ℕ). neighbour x (memory p)) (sym top_page)
      ∙ sym turning.turns
      ∙ ap (λ (a : ℕ). get_or (way turning.key l t) a 0) e
  second_on (suc j) h =
      let e : suc (i - suc j) ≡ i - j = omega (arith, c.fewer) in
      let before : get_or z.beside j 0 ≡ get_or (way turning.key l t) (suc (i - suc j)) 0
      = sym (get_or-append z.beside (z.want ∷ []) 0 j h)
      ∙ second_on j (omega arith)
      ∙ ap (λ (a : ℕ). get_or (way turning.key l t) a 0) (sym e) in
      c.leftmost j h
      ∙ ap (λ (p : ℕ). pointer 0 (memory p)) before
      ∙ sym (turning.leftmost (i - suc j) (omega (arith, c.fewer)))

  -- A Next past its leaf stands on two ways of the tree.
  pub across : Across memory l t z
  across = record {
    index = i;
    long = omega (arith, c.fewer);
    inside = path_inside;
    top = top_page;
    first = upward_first;
    beyond = turning;
    few = omega (arith, c.fewer);
    on = second_on;
  }

-- ---- what follows for the pages of the second way and the want

module _ (k n : ℕ) (memory : ℕ → Page) (l : ℕ) (t : Tr l) (forms : Forms k n memory l t) (z : Stand)
    (key : key_of z.op < word_range) (a : Across memory l t z) where
  -- the first way, and the second
  pub first_facts : WayFacts memory (key_of z.op) l t
  first_facts = way_facts k n memory l t forms (key_of z.op) key

  pub second_facts : WayFacts memory a.beyond.key l t
  second_facts = way_facts k n memory l t forms a.beyond.key a.beyond.in_words

  -- their levels fall by one
  pub second_level : (j : ℕ) → j ≤ length z.beside → (memory (get_or (z.beside ++ z.want ∷ []) j 0)).level ≡ (a.index - j) + 1
  second_level j h =
      ap (λ (p : ℕ). (memory p).level) (a.on j h) ∙ second_facts.level (a.index - j) (omega (arith, a.inside))

  -- they stand in ranges that have the second key
  pub second_placed : (j : ℕ) → j ≤ length z.beside
      → PlacedFor a.beyond.key l t 0 word_range (get_or (z.beside ++ z.want ∷ []) j 0) ((a.index - j) + 1)
  second_placed j h =
      subst (λ (p : ℕ). PlacedFor a.beyond.key l t 0 word_range p ((a.index - j) + 1)) (sym (a.on j h))
      ((place_facts k n memory l t forms).on_way a.beyond.key (a.index - j) a.beyond.in_words (omega (arith, a.inside)))

  -- which begin beyond the first key: on its level the first way has another page
  pub second_later : (j : ℕ) (h : j ≤ length z.beside) → key_of z.op < (second_placed j h).from
  second_later j h =
      let x : ℕ = key_of z.op in
      let spot = second_placed j h in
      by_test (leb spot.from x)
      (λ y.
      let on-first = (place_facts k n memory l t forms).way_has x (a.index - j) (get_or (z.beside ++ z.want ∷ []) j 0) spot.from spot.to spot.stands
      (leb-true spot.from x y) (omega (arith, a.beyond.later, spot.high)) in
      absurd (a.beyond.parts (a.index - j) (omega arith) (sym (a.on j h) ∙ sym on-first)))
      (λ o. leb-false spot.from x o)

  -- where such a page stands among them
  pub second_at : (q : ℕ) → member q (z.beside ++ z.want ∷ []) ≡ true → (j : ℕ) × (j ≤ length z.beside) × (get_or (z.beside ++ z.want ∷ []) j 0 ≡ q)
  second_at q m =
      let found = member_at q (z.beside ++ z.want ∷ []) 0 m in
      (found.0, omega (arith, found.1, length-append z.beside (z.want ∷ [])), found.2)

  -- they are pages of the tree,
  pub second_pages : (q : ℕ) → member q (z.beside ++ z.want ∷ []) ≡ true → 1 ≤ occurs q l t
  second_pages q m =
      let (j, h, e) = second_at q m in
      let spot = second_placed j h in
      subst (λ (p : ℕ). 1 ≤ occurs p l t) e
      ((place_facts k n memory l t forms).counted (get_or (z.beside ++ z.want ∷ []) j 0) ((a.index - j) + 1) spot.from spot.to spot.stands)

  -- none of them on the path, for on each level the two ways have different pages,
  pub second_new : (q : ℕ) → member q (z.beside ++ z.want ∷ []) ≡ true → member q z.path ≡ false
  second_new q m =
      false_if_not_true (member q z.path)
      (λ y.
      let (j, h, e) = second_at q m in
      let (i, b, f) = member_at q (reverse z.path) 0 (member_reverse q z.path ∙ y) in
      let low : i ≤ suc a.index = omega (arith, b, length-reverse z.path, a.long) in
      let here : get_or (way (key_of z.op) l t) i 0 ≡ q = sym (a.first i low) ∙ f in
      let level : (memory q).level ≡ i + 1 = sym (ap (λ (p : ℕ). (memory p).level) here) ∙ first_facts.level i (omega (arith, a.inside)) in
      let beside : (memory q).level ≡ (a.index - j) + 1 = sym (ap (λ (p : ℕ). (memory p).level) e) ∙ second_level j h in
      let same : i ≡ a.index - j = omega arith in
      a.beyond.parts (a.index - j) (omega arith)
      (sym (a.on j h) ∙ e ∙ sym here ∙ ap (λ (b : ℕ). get_or (way (key_of z.op) l t) b 0) same))

  -- and all of them different, for their levels are
  pub second_different : distinct (z.beside ++ z.want ∷ []) ≡ true
  second_different =
      distinct_from (z.beside ++ z.want ∷ []) 0
      (λ i j below inside e.
      let len = length-append z.beside (z.want ∷ []) in
      let upper = second_level i (omega arith) in
      let lower = second_level j (omega arith) in
      let same = ap (λ (p : ℕ). (memory p).level) e in
      absurd (omega (arith, a.few)))
