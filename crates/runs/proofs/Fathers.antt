-- Fathers of the pages that a slot holds and wants: it holds the father of each of them, but for the top page of its path and
-- for page 0, and what it wants lies inside the range of the top page, on a lower level. Who converts wants a page that it holds: the top page,
-- or one of those inside it. It converts a father before what lies under it.
use Prim.Native.Nat.{ℕ, zero, suc, ◌+◌, ◌-◌, ◌≤◌, ◌<◌}
use mathlib.Core.Bool.{true}
use mathlib.Core.List.{List, [], ◌∷◌, ◌++◌, reverse, reverse-cons, append_assoc}
use mathlib.Core.Logic.{◌⊎◌, inl, inr, ⊎_elim}
use mathlib.Core.Path.{◌≡◌, refl, sym, ap, ◌∙◌, subst}
use native.Mathlib.Nat.{eq-or-lt_of_le}
use native.Mathlib.Omega.{arith}
use borrow.Author.Tests.{ltb-true}
use lib.Dec.{ltb}
use lib.ListN.{length, get_or, take, drop, length-append, length-reverse, take-append-drop, get_or-append}
use lib.Seq.{length-take-le, drop-cons, get_or-append_seam, get_or-append-add}
use Rattle.ground.specs.Limits.{word_range}
use Rattle.ground.specs.Tests.{member}
use Rattle.ground.proofs.Bools.{not_both, or_cases, or_first, or_second}
use Rattle.ground.proofs.Choice.{by_test, cond-true, cond-false}
use Rattle.ground.proofs.Tests.{member_none, member_there, member_one, member_cases, member_append, member_inside, member_from, member_at}
use Rattle.page.specs.Words.{Page, μ}
use Rattle.page.specs.Place.{place, pointer}
use Rattle.page.specs.Short.{neighbour}
use Rattle.page.proofs.PlaceLaws.{place_most}
use Rattle.slots.specs.Parts.{key_of, Stand, holding, converting}
use Rattle.footing.specs.Granted.{in_turn, pages_in_turn}
use Rattle.tree.specs.Tree.{Tr, Stands, way, Forms}
use Rattle.tree.specs.Facts.{Placed, WayFacts, PlaceFacts}
use Rattle.tree.proofs.DeletionRule.{needs_length}
use Rattle.tree.proofs.Search.{way_facts}
use Rattle.tree.proofs.Ways.{stands_root, neighbour_pointer, place_facts}
use Rattle.runs.specs.Stance.{Stance, Gathering, Coming, WantsSibling, Crossing, Converting}
use Rattle.runs.proofs.Paths.{member_reverse}
use Rattle.runs.proofs.Across.{top_upward}
use Rattle.runs.proofs.Needing.{needs_course}
use Rattle.runs.proofs.Turns.{beside_one, held_turn}

-- ---- a path read upward

-- what stands in a path read upward is held
pub upward_held : (path siblings : List ℕ) (j : ℕ) → j < length path → member (get_or (reverse path) j 0) (path ++ siblings) ≡ true
upward_held path siblings j h =
    let q : ℕ = get_or (reverse path) j 0 in
    member_append q path siblings
    ∙ or_first (member q siblings)
    (sym (member_reverse q path) ∙ member_from q (reverse path) j 0 (omega (arith, length-reverse path)) refl)

-- A page that is held stands in the path read upward, or among the siblings.
held_at : (p : ℕ) (path siblings : List ℕ) → member p (path ++ siblings) ≡ true
    → ((j : ℕ) × (j < length path) × (get_or (reverse path) j 0 ≡ p)) ⊎ ((j : ℕ) × (j < length siblings) × (get_or siblings j 0 ≡ p))
held_at p path siblings m =
    ⊎_elim
    (λ h. let found = member_at p (reverse path) 0 (member_reverse p path ∙ h) in
    inl (found.0, omega (arith, length-reverse path, found.1), found.2))
    (λ h. inr (member_at p siblings 0 h))
    (or_cases (member p path) (member p siblings) (sym (member_append p path siblings) ∙ m))

-- ---- the order of conversion goes down, level by level

-- no page of the list is on a higher level than one before it
abbrev Falling : (ℕ → ℕ) → List ℕ → Type 0
Falling level [] = Unit {0}
Falling level (p ∷ ps) = ((q : ℕ) → member q ps ≡ true → level q ≤ level p) × Falling level ps

-- so none of the back part is on a higher level than one of the front part
falling_split : (level : ℕ → ℕ) (front back : List ℕ) → Falling level (front ++ back) → (p q : ℕ) → member p front ≡ true → member q back ≡ true
    → level q ≤ level p
falling_split level [] back f p q a b = not_both a (member_none p)
falling_split level (r ∷ front) back f p q a b =
    ⊎_elim
    (λ e. subst (λ (s : ℕ). level q ≤ level s) (sym e) (f.0 q (member_append q front back ∙ or_second (member q front) b)))
    (λ h. falling_split level front back f.1 p q h b)
    (member_cases p r front a)

-- from the leaf upward the pages are on levels 1, 2 ..
abbrev Levels : (ℕ → ℕ) → List ℕ → Type 0
Levels level up = (j : ℕ) → j < length up → level (get_or up j 0) ≡ suc j

-- a path without its top page
levels_below : (level : ℕ → ℕ) (p : ℕ) (below : List ℕ) → Levels level (reverse (p ∷ below)) → Levels level (reverse below)
levels_below level p below up j h =
    ap level (sym (ap (λ (ps : List ℕ). get_or ps j 0) (reverse-cons p below) ∙ get_or-append (reverse below) (p ∷ []) 0 j h))
    ∙ up j (omega (arith, length-reverse below, length-reverse (p ∷ below)))

level_top : (level : ℕ → ℕ) (p : ℕ) (below : List ℕ) → Levels level (reverse (p ∷ below)) → level p ≡ suc (length below)
level_top level p below up =
    ap level (sym (top_upward (p ∷ below) (length below) refl)) ∙ up (length below) (omega (arith, length-reverse (p ∷ below)))

-- siblings too, from the leaf's upward
module _ (level : ℕ → ℕ) (beside : List ℕ) (siblings : Levels level beside) where
  one_level : (below q : ℕ) → member q (beside_one 0 below beside) ≡ true → level q ≡ suc below
  one_level below q m =
      by_test (ltb below (length beside))
      (λ y.
      ap level (member_one q (get_or beside below 0) (subst (λ (ps : List ℕ). member q ps ≡ true) (cond-true (get_or beside below 0 ∷ []) [] y) m))
      ∙ siblings below (ltb-true below (length beside) y))
      (λ n. not_both (subst (λ (ps : List ℕ). member q ps ≡ true) (cond-false (get_or beside below 0 ∷ []) [] n) m) (member_none q))

  turn_levels : (path : List ℕ) → Levels level (reverse path) → (q : ℕ) → member q (in_turn 0 path beside) ≡ true → level q ≤ length path
  unfolding in_turn
  turn_levels [] up q m = not_both m (member_none q)
  turn_levels (p ∷ below) up q m =
      ⊎_elim
      (λ e. omega (arith, ap level e, level_top level p below up))
      (λ h. ⊎_elim
      (λ s. omega (arith, one_level (length below) q s))
      (λ r. omega (arith, turn_levels below (levels_below level p below up) q r))
      (or_cases (member q (beside_one 0 (length below) beside)) (member q (in_turn 0 below beside))
      (sym (member_append q (beside_one 0 (length below) beside) (in_turn 0 below beside)) ∙ h)))
      (member_cases q p (beside_one 0 (length below) beside ++ in_turn 0 below beside) m)

  behind_falls : (below : List ℕ) → Levels level (reverse below) → Falling level (in_turn 0 below beside)
      → Falling level (beside_one 0 (length below) beside ++ in_turn 0 below beside)
  behind_falls below up falls =
      by_test (ltb (length below) (length beside))
      (λ y.
      let s : ℕ = get_or beside (length below) 0 in
      let high : level s ≡ suc (length below) = siblings (length below) (ltb-true (length below) (length beside) y) in
      subst (λ (ps : List ℕ). Falling level (ps ++ in_turn 0 below beside)) (sym (cond-true (s ∷ []) [] y))
      ((λ (q : ℕ) m. omega (arith, high, turn_levels below up q m)), falls))
      (λ n.
      subst (λ (ps : List ℕ). Falling level (ps ++ in_turn 0 below beside)) (sym (cond-false (get_or beside (length below) 0 ∷ []) [] n)) falls)

  turn_falls : (path : List ℕ) → Levels level (reverse path) → Falling level (in_turn 0 path beside)
  unfolding in_turn
  turn_falls [] up = tt
  turn_falls (p ∷ below) up =
      let lower : Levels level (reverse below) = levels_below level p below up in
      let rest : List ℕ = beside_one 0 (length below) beside ++ in_turn 0 below beside in (
        (λ (q : ℕ) m. omega (arith, level_top level p below up, turn_levels (p ∷ below) up q (member_there p q rest m))),
        behind_falls below lower (turn_falls below lower),
      )

-- ---- fathers

-- Page p of the tree points to page q.
pub record Father (memory : ℕ → Page) (l : ℕ) (t : Tr l) (p q : ℕ) : Type 0 where
  pub under : ℕ
  pub from : ℕ
  pub to : ℕ
  pub stands : Stands l t 0 word_range p (under + 2) from to
  pub index : ℕ
  pub most : index ≤ μ (memory p)
  pub points : pointer index (memory p) ≡ q

-- Page q stands lower than this level, with a range that begins at this key or behind it.
pub record Inside (l : ℕ) (t : Tr l) (level low q : ℕ) : Type 0 where
  pub new_level : ℕ
  pub from : ℕ
  pub to : ℕ
  pub stands : Stands l t 0 word_range q new_level from to
  pub lower : new_level < level
  pub later : low ≤ from

-- The top page of a path.
pub record Top (path : List ℕ) (p : ℕ) : Type 0 where
  pub index : ℕ
  pub last : suc index ≡ length path
  pub here : get_or (reverse path) index 0 ≡ p

-- The father of page q is in the path.
pub record UnderPath (memory : ℕ → Page) (l : ℕ) (t : Tr l) (path : List ℕ) (q : ℕ) : Type 0 where
  pub index : ℕ
  pub held : index < length path
  pub father : Father memory l t (get_or (reverse path) index 0) q

-- The father of page q is held: in the path, or beside it.
pub record UnderHeld (memory : ℕ → Page) (l : ℕ) (t : Tr l) (z : Stand) (q : ℕ) : Type 0 where
  pub above : ℕ
  pub held : member above (holding z) ≡ true
  pub father : Father memory l t above q

under_held : (memory : ℕ → Page) (l : ℕ) (t : Tr l) (z : Stand) (q : ℕ) → UnderPath memory l t z.path q → UnderHeld memory l t z q
under_held memory l t z q u =
    record { above = get_or (reverse z.path) u.index 0; held = upward_held z.path z.beside u.index u.held; father = u.father }

module _ (k n : ℕ) (memory : ℕ → Page) (l : ℕ) (t : Tr l) (forms : Forms k n memory l t) where
  facts : PlaceFacts memory l t
  facts = place_facts k n memory l t forms

  ways : (x : ℕ) → x < word_range → WayFacts memory x l t
  ways x key = way_facts k n memory l t forms x key

  -- a page has one father
  pub one_father : (p p' q : ℕ) → Father memory l t p q → Father memory l t p' q → p ≡ p'
  one_father p p' q f f' =
      facts.one_father p f.under f.from f.to f.index p' f'.under f'.from f'.to f'.index
      f.stands f.most f'.stands f'.most (f.points ∙ sym f'.points)

  -- "Page 0 is always the root"
  root_place : Stands l t 0 word_range 0 (l + 1) 0 word_range
  root_place = subst (λ (q : ℕ). Stands l t 0 word_range q (l + 1) 0 word_range) forms.root (stands_root l t 0 word_range)

  pub root_fatherless : (p : ℕ) → Father memory l t p 0 → ⊥
  root_fatherless p f =
      let c = facts.pointed p f.under f.from f.to f.index f.stands f.most in
      let same = facts.only 0 (f.under + 1) c.from c.to (l + 1) 0 word_range
      (subst (λ (q : ℕ). Stands l t 0 word_range q (f.under + 1) c.from c.to) f.points c.stands) root_place in
      let inside = facts.inside p (f.under + 2) f.from f.to f.stands in
      omega (arith, same.same_level, inside.highest)

  -- each page of a way but the top one has the next one for its father
  father_on_way : (x i : ℕ) → x < word_range → i < l → Father memory l t (get_or (way x l t) (suc i) 0) (get_or (way x l t) i 0)
  father_on_way x i key h =
      let p : ℕ = get_or (way x l t) (suc i) 0 in
      let place_here = facts.on_way x (suc i) key h in
      let e : suc i + 1 ≡ i + 2 = omega arith in
      record {
        under = i;
        from = place_here.from;
        to = place_here.to;
        stands = subst (λ (v : ℕ). Stands l t 0 word_range p v place_here.from place_here.to) e place_here.stands;
        index = place x (memory p).entries;
        most = place_most x (memory p).entries;
        points = (ways x key).leads i h;
      }

  -- the neighbour of the page to which a page of a way routes a key has that page for its father
  father_of_neighbour : (x i y : ℕ) → x < word_range → i < l
      → Father memory l t (get_or (way x l t) (suc i) 0) (neighbour y (memory (get_or (way x l t) (suc i) 0)))
  father_of_neighbour x i y key h =
      let p : ℕ = get_or (way x l t) (suc i) 0 in
      let f = father_on_way x i key h in
      let (j, most, e) = neighbour_pointer y (memory p) in
      record { under = f.under; from = f.from; to = f.to; stands = f.stands; index = j; most = most; points = sym e }

  -- what a page points to lies inside it, and lower
  child_inside : (p q level a b : ℕ) → Stands l t 0 word_range p level a b → Father memory l t p q → Inside l t level a q
  child_inside p q level a b s f =
      let c = facts.pointed p f.under f.from f.to f.index f.stands f.most in
      let same = facts.only p level a b (f.under + 2) f.from f.to s f.stands in
      record {
        new_level = f.under + 1;
        from = c.from;
        to = c.to;
        stands = subst (λ (v : ℕ). Stands l t 0 word_range v (f.under + 1) c.from c.to) f.points c.stands;
        lower = omega (arith, same.same_level);
        later = omega (arith, same.same_from, c.low);
      }

  -- and one level lower
  father_level : (p q : ℕ) → Father memory l t p q → (memory p).level ≡ (memory q).level + 1
  father_level p q f =
      let c = facts.pointed p f.under f.from f.to f.index f.stands f.most in
      let high : (memory p).level ≡ f.under + 2 = facts.level p (f.under + 2) f.from f.to f.stands in
      let low : (memory q).level ≡ f.under + 1
      = ap (λ (r : ℕ). (memory r).level) (sym f.points) ∙ facts.level (pointer f.index (memory p)) (f.under + 1) c.from c.to c.stands in
      omega (arith, high, low)

  -- and so does what lies inside that
  inside_inside : (q r level a : ℕ) (i : Inside l t level a q) → Inside l t i.new_level i.from r → Inside l t level a r
  inside_inside q r level a i j =
      record {
        new_level = j.new_level;
        from = j.from;
        to = j.to;
        stands = j.stands;
        lower = omega (arith, i.lower, j.lower);
        later = omega (arith, i.later, j.later);
      }

  -- a page of a way lies inside every page above it
  pub way_inside : (x u c level a b : ℕ) → x < word_range → c < u → u ≤ l → Stands l t 0 word_range (get_or (way x l t) u 0) level a b
      → Inside l t level a (get_or (way x l t) c 0)
  way_inside x zero c level a b key h most s = absurd (omega arith)
  way_inside x (suc v) c level a b key h most s =
      let w = way x l t in
      let next = child_inside (get_or w (suc v) 0) (get_or w v 0) level a b s (father_on_way x v key most) in
      ⊎_elim
      (λ e. subst (λ (i : ℕ). Inside l t level a (get_or w i 0)) (sym e) next)
      (λ below. inside_inside (get_or w v 0) (get_or w c 0) level a next
      (way_inside x v c next.new_level next.from next.to key below (omega arith) next.stands))
      (eq-or-lt_of_le {n = c} {m = v} (omega arith))

  -- ---- a slot that holds a stretch of its key's way

  -- Read upward, the path stands in the way from an index on.
  record Climbs (x : ℕ) (path : List ℕ) (base : ℕ) : Type 0 where
    inside : base + length path ≤ l + 1
    at : (j : ℕ) → j < length path → get_or (reverse path) j 0 ≡ get_or (way x l t) (base + j) 0

  climbs : (x : ℕ) (lower path upper : List ℕ) → x < word_range → way x l t ≡ lower ++ (reverse path ++ upper)
      → Climbs x path (length lower)
  climbs x lower path upper key e =
      let long = ap length e ∙ length-append lower (reverse path ++ upper) in
      record {
        inside = omega (arith, long, (ways x key).pages, length-append (reverse path) upper, length-reverse path);
        at = λ j h. sym (ap (λ (w : List ℕ). get_or w (length lower + j) 0) e
            ∙ get_or-append-add lower (reverse path ++ upper) j 0
            ∙ get_or-append (reverse path) upper 0 j (omega (arith, length-reverse path)));
      }

  module _ (x : ℕ) (key : x < word_range) (path : List ℕ) (base : ℕ) (up : Climbs x path base) where
    -- a page of the path is on the way
    path_at : (j i : ℕ) → j < length path → i ≡ base + j → get_or (way x l t) i 0 ≡ get_or (reverse path) j 0
    path_at j i h e = ap (λ (v : ℕ). get_or (way x l t) v 0) e ∙ sym (up.at j h)

    -- each page of the path but the top one is under the path
    path_under : (j : ℕ) → suc j < length path → UnderPath memory l t path (get_or (reverse path) j 0)
    path_under j h =
        let f = father_on_way x (base + j) key (omega (arith, up.inside)) in
        record {
          index = suc j;
          held = h;
          father = subst (Father memory l t (get_or (reverse path) (suc j) 0)) (path_at j (base + j) (omega arith) refl)
              (subst (λ (p : ℕ). Father memory l t p (get_or (way x l t) (base + j) 0)) (path_at (suc j) (suc (base + j)) h (omega arith)) f);
        }

    path_cases : (p j : ℕ) → j < length path → get_or (reverse path) j 0 ≡ p → Top path p ⊎ UnderPath memory l t path p
    path_cases p j h e =
        ⊎_elim
        (λ top. inl (record { index = j; last = top; here = e }))
        (λ more. inr (subst (UnderPath memory l t path) e (path_under j more)))
        (eq-or-lt_of_le h)

    -- and so is the neighbour of each
    neighbour_father : (j q : ℕ) → suc j < length path → q ≡ neighbour x (memory (get_or (reverse path) (suc j) 0))
        → Father memory l t (get_or (reverse path) (suc j) 0) q
    neighbour_father j q h e =
        subst (Father memory l t (get_or (reverse path) (suc j) 0)) (sym e)
        (subst (λ (p : ℕ). Father memory l t p (neighbour x (memory p))) (path_at (suc j) (suc (base + j)) h (omega arith))
        (father_of_neighbour x (base + j) x key (omega (arith, up.inside))))

    neighbour_under : (j q : ℕ) → suc j < length path → q ≡ neighbour x (memory (get_or (reverse path) (suc j) 0)) → UnderPath memory l t path q
    neighbour_under j q h e = record { index = suc j; held = h; father = neighbour_father j q h e }

    -- what is under the path lies inside its top page, and lower
    under_inside : (p q level a b : ℕ) → Top path p → Stands l t 0 word_range p level a b → UnderPath memory l t path q → Inside l t level a q
    under_inside p q level a b top s u =
        let i : ℕ = u.index in
        let j : ℕ = top.index in
        let there = path_at j (base + j) (omega (arith, top.last)) refl ∙ top.here in
        ⊎_elim
        (λ e. child_inside p q level a b s (subst (λ (r : ℕ). Father memory l t r q) (ap (λ (v : ℕ). get_or (reverse path) v 0) e ∙ top.here) u.father))
        (λ below.
        let f = way_inside x (base + j) (base + i) level a b key (omega arith) (omega (arith, up.inside, top.last))
        (subst (λ (r : ℕ). Stands l t 0 word_range r level a b) (sym there) s) in
        inside_inside (get_or (way x l t) (base + i) 0) q level a f
        (child_inside (get_or (way x l t) (base + i) 0) q f.new_level f.from f.to f.stands
        (subst (λ (r : ℕ). Father memory l t r q) (sym (path_at i (base + i) u.held refl)) u.father)))
        (eq-or-lt_of_le {n = i} {m = j} (omega (arith, u.held, top.last)))

  -- ---- what an open slot holds and wants

  module _ (z : Stand) (key : key_of z.op < word_range) where
    -- coming down, it wants the page under the lowest one of its path
    module _ (c : Coming k memory l t z) where
      base : ℕ
      base = length (c.lower ++ z.want ∷ [])

      base_is : base ≡ suc (length c.lower)
      unfolding base
      base_is = omega (arith, length-append c.lower (z.want ∷ []))

      coming_climbs : Climbs (key_of z.op) z.path base
      unfolding base
      coming_climbs =
          climbs (key_of z.op) (c.lower ++ z.want ∷ []) z.path c.upper key (c.whole ∙ sym (append_assoc c.lower (z.want ∷ []) (reverse z.path ++ c.upper)))

      coming_under : UnderPath memory l t z.path z.want
      coming_under =
          let i : ℕ = length c.lower in
          let some = c.rightly.some in
          let wanted : get_or (way (key_of z.op) l t) i 0 ≡ z.want
          = ap (λ (w : List ℕ). get_or w i 0) c.whole ∙ get_or-append_seam c.lower z.want (reverse z.path ++ c.upper) 0 in
          record {
            index = 0;
            held = some;
            father = subst (Father memory l t (get_or (reverse z.path) 0 0)) wanted
                (subst (λ (p : ℕ). Father memory l t p (get_or (way (key_of z.op) l t) i 0))
                (path_at (key_of z.op) key z.path base coming_climbs 0 (suc i) some (omega (arith, base_is)))
                (father_on_way (key_of z.op) i key (omega (arith, coming_climbs.inside, base_is))));
          }

    -- at its leaf, it wants a neighbour
    module _ (b : WantsSibling k memory l t z) where
      beside_climbs : Climbs (key_of z.op) z.path 0
      beside_climbs = climbs (key_of z.op) [] z.path b.upper key b.whole

      beside_under : UnderPath memory l t z.path z.want
      beside_under = neighbour_under (key_of z.op) key z.path 0 beside_climbs (length z.beside) z.want b.fewer b.wants_next

    -- Past its leaf, it wants a page of its second way.
    module _ (c : Crossing k memory l t z) where
      crossing_climbs : Climbs (key_of z.op) z.path 0
      crossing_climbs = climbs (key_of z.op) [] z.path c.upper key c.whole

      -- the pages of the second way from the top downward, the want behind them
      abbrev second_way : List ℕ
      second_way = z.beside ++ z.want ∷ []

      -- the first one is under the top page of the path
      turns_under : UnderPath memory l t z.path (get_or second_way 0 0)
      turns_under =
          neighbour_under (key_of z.op) key z.path 0 crossing_climbs (length z.path - 2) (get_or second_way 0 0) (omega (arith, c.fewer))
          (c.turns ∙ ap (λ (p : ℕ). neighbour (key_of z.op) (memory p)) (sym (top_upward z.path (suc (length z.path - 2)) (omega (arith, c.fewer)))))

      -- Page j of the second way stands j + 1 levels below the top page, in a range that begins at this key or behind it.
      record SecondAt (low j : ℕ) : Type 0 where
        under : ℕ
        from : ℕ
        to : ℕ
        stands : Stands l t 0 word_range (get_or second_way j 0) (under + 1) from to
        deep : under + j + 2 ≡ length z.path
        later : low ≤ from

      -- the top page is on the level of the path's length
      top_level : (p level a b : ℕ) → Top z.path p → Stands l t 0 word_range p level a b → level ≡ length z.path
      top_level p level a b top s =
          let i : ℕ = top.index in
          let spot = facts.on_way (key_of z.op) i key (omega (arith, top.last, crossing_climbs.inside)) in
          let here : get_or (way (key_of z.op) l t) i 0 ≡ p
          = path_at (key_of z.op) key z.path 0 crossing_climbs i i (omega (arith, top.last)) (omega arith) ∙ top.here in
          let same = facts.only p level a b (i + 1) spot.from spot.to s
          (subst (λ (q : ℕ). Stands l t 0 word_range q (i + 1) spot.from spot.to) here spot.stands) in
          omega (arith, same.same_level, top.last)

      -- from one page to the next, by p0
      second_next : (low j : ℕ) → j < length z.beside → SecondAt low j → SecondAt low (suc j)
      second_next low j h s =
          let v : ℕ = s.under - 1 in
          let e : s.under + 1 ≡ v + 2 = omega (arith, s.deep, c.fewer) in
          let below = facts.pointed (get_or z.beside j 0) v s.from s.to 0
          (subst (λ (q : ℕ). Stands l t 0 word_range q (v + 2) s.from s.to) (get_or-append z.beside (z.want ∷ []) 0 j h)
          (subst (λ (level : ℕ). Stands l t 0 word_range (get_or second_way j 0) level s.from s.to) e s.stands))
          (omega arith) in
          record {
            under = v;
            from = below.from;
            to = below.to;
            stands = subst (λ (q : ℕ). Stands l t 0 word_range q (v + 1) below.from below.to) (sym (c.leftmost j h)) below.stands;
            deep = omega (arith, s.deep, c.fewer);
            later = omega (arith, s.later, below.low);
          }

      module _ (p level a b : ℕ) (top : Top z.path p) (st : Stands l t 0 word_range p level a b) where
        second_first : SecondAt a 0
        second_first =
            let v : ℕ = length z.path - 2 in
            let e : level ≡ v + 2 = omega (arith, top_level p level a b top st, c.fewer) in
            let named : p ≡ get_or z.path 0 0
            = sym top.here ∙ top_upward z.path top.index (omega (arith, top.last)) in
            let below = facts.neighbours p v a b (key_of z.op) (subst (λ (m : ℕ). Stands l t 0 word_range p m a b) e st) in
            record {
              under = v;
              from = below.from;
              to = below.to;
              stands = subst (λ (q : ℕ). Stands l t 0 word_range q (v + 1) below.from below.to)
                  (ap (λ (r : ℕ). neighbour (key_of z.op) (memory r)) named ∙ sym c.turns) below.stands;
              deep = omega (arith, c.fewer);
              later = below.low;
            }

        second_at : (j : ℕ) → j ≤ length z.beside → SecondAt a j
        second_at zero h = second_first
        second_at (suc j) h = second_next a j h (second_at j (omega arith))

        -- so all of them lie inside the top page
        second_inside : Inside l t level a z.want
        second_inside =
            let s = second_at (length z.beside) (omega arith) in
            record {
              new_level = s.under + 1;
              from = s.from;
              to = s.to;
              stands = subst (λ (q : ℕ). Stands l t 0 word_range q (s.under + 1) s.from s.to) (get_or-append_seam z.beside z.want [] 0) s.stands;
              lower = omega (arith, s.deep, top_level p level a b top st);
              later = s.later;
            }

      -- each of them stands in the tree
      second_placed : (j : ℕ) → j ≤ length z.beside → SecondAt 0 j
      second_placed j h =
          let i : ℕ = length z.path - 1 in
          let spot = facts.on_way (key_of z.op) i key (omega (arith, crossing_climbs.inside, c.fewer)) in
          let s = second_at (get_or (way (key_of z.op) l t) i 0) (i + 1) spot.from spot.to
          (record {
            index = i;
            last = omega (arith, c.fewer);
            here = sym (path_at (key_of z.op) key z.path 0 crossing_climbs i i (omega (arith, c.fewer)) (omega arith));
          })
          spot.stands j h in
          record { under = s.under; from = s.from; to = s.to; stands = s.stands; deep = s.deep; later = omega arith }

      -- the father of each is held: the top page of the path, or the page before it
      second_under : (j : ℕ) → j ≤ length z.beside → UnderHeld memory l t z (get_or second_way j 0)
      second_under zero h = under_held memory l t z (get_or second_way 0 0) turns_under
      second_under (suc j) h =
          let s = second_placed j (omega arith) in
          let q : ℕ = get_or z.beside j 0 in
          let e : s.under + 1 ≡ (s.under - 1) + 2 = omega (arith, s.deep, c.fewer) in
          record {
            above = q;
            held = member_append q z.path z.beside ∙ or_second (member q z.path) (member_from q z.beside j 0 h refl);
            father = record {
              under = s.under - 1;
              from = s.from;
              to = s.to;
              stands = subst (λ (r : ℕ). Stands l t 0 word_range r ((s.under - 1) + 2) s.from s.to) (get_or-append z.beside (z.want ∷ []) 0 j h)
                  (subst (λ (level : ℕ). Stands l t 0 word_range (get_or second_way j 0) level s.from s.to) e s.stands);
              index = 0;
              most = omega arith;
              points = sym (c.leftmost j h);
            };
          }

    -- Its change known, it converts what it holds.
    module _ (c : Converting k memory l t z) where
      turning_climbs : Climbs (key_of z.op) z.path 0
      turning_climbs = climbs (key_of z.op) [] z.path c.upper key c.whole

      -- each sibling was asked for as a neighbour, and the father of the two is held
      sibling_asked : (j : ℕ) → j < length z.beside
          → (suc j < length z.path) × (get_or z.beside j 0 ≡ neighbour (key_of z.op) (memory (get_or (reverse z.path) (suc j) 0)))
      sibling_asked j h =
          let x : ℕ = key_of z.op in
          let s : ℕ = get_or z.beside j 0 in
          let before : List ℕ = take j z.beside in
          let after : List ℕ = drop (suc j) z.beside in
          let cut : z.beside ≡ before ++ s ∷ after
          = sym (take-append-drop j z.beside) ∙ ap (λ (ss : List ℕ). before ++ ss) (drop-cons z.beside j 0 h) in
          let need = c.asked before s after cut in
          let long : length before ≡ j = length-take-le j z.beside (omega arith) in
          let size : length z.path ≡ suc (length c.fathers) = sym (length-reverse z.path) ∙ ap length c.upward in (
            omega (arith, needs_length k memory x c.leaf c.fathers before s need),
            (needs_course k memory x c.leaf c.fathers before s need).wants_next
                ∙ ap (λ (i : ℕ). neighbour x (memory (get_or c.fathers i 0))) long
                ∙ ap (λ (up : List ℕ). neighbour x (memory (get_or up (suc j) 0))) (sym c.upward),
          )

      pub turning_few : length z.beside ≤ length z.path
      turning_few =
          ⊎_elim
          (λ e. omega arith)
          (λ some. omega (arith, (sibling_asked (length z.beside - 1) (omega arith)).0))
          (eq-or-lt_of_le {n = 0} {m = length z.beside} (omega arith))

      -- what it converts is what it holds
      turning_holds : (q : ℕ) → member q (pages_in_turn z) ≡ member q (holding z)
      turning_holds q = held_turn z.path z.beside turning_few q

      turning_own : converting z ≡ true
      turning_own = sym (turning_holds z.want) ∙ ap (member z.want) c.turns ∙ member_inside z.want c.done c.rest

      -- each page of it is the top one, or its father is in the path
      turning_under : (p : ℕ) → member p (holding z) ≡ true → Top z.path p ⊎ UnderPath memory l t z.path p
      turning_under p m =
          ⊎_elim
          (λ found. path_cases (key_of z.op) key z.path 0 turning_climbs p found.0 found.1 found.2)
          (λ found. inr (neighbour_under (key_of z.op) key z.path 0 turning_climbs found.0 p (sibling_asked found.0 found.1).0
          (sym found.2 ∙ (sibling_asked found.0 found.1).1)))
          (held_at p z.path z.beside m)

      -- So the page that it wants is the top one, or inside it.
      turning_inside : (p level a b : ℕ) → Top z.path p → Stands l t 0 word_range p level a b → (z.want ≡ p) ⊎ Inside l t level a z.want
      turning_inside p level a b top st =
          ⊎_elim
          (λ own. let same : own.index ≡ top.index = omega (arith, own.last, top.last) in
          inl (sym own.here ∙ ap (λ (i : ℕ). get_or (reverse z.path) i 0) same ∙ top.here))
          (λ u. inr (under_inside (key_of z.op) key z.path 0 turning_climbs p z.want level a b top st u))
          (turning_under z.want turning_own)

      -- ---- fathers first

      path_levels : Levels (λ (q : ℕ). (memory q).level) (reverse z.path)
      path_levels j h =
          let inside : j < length z.path = omega (arith, length-reverse z.path) in
          let here = path_at (key_of z.op) key z.path 0 turning_climbs j j inside (omega arith) in
          sym (ap (λ (q : ℕ). (memory q).level) here)
          ∙ (ways (key_of z.op) key).level j (omega (arith, turning_climbs.inside))
          ∙ omega arith

      sibling_levels : Levels (λ (q : ℕ). (memory q).level) z.beside
      sibling_levels j h =
          let asked = sibling_asked j h in
          let above : ℕ = get_or (reverse z.path) (suc j) 0 in
          let f : Father memory l t above (get_or z.beside j 0)
          = neighbour_father (key_of z.op) key z.path 0 turning_climbs j (get_or z.beside j 0) asked.0 asked.1 in
          let high : (memory above).level ≡ suc (suc j) = path_levels (suc j) (omega (arith, length-reverse z.path, asked.0)) in
          omega (arith, high, father_level above (get_or z.beside j 0) f)

      -- what is converted has its father converted
      pub father_first : (p q : ℕ) → Father memory l t p q → member p (holding z) ≡ true → member q c.done ≡ true → member p c.done ≡ true
      father_first p q f holds m =
          let level : ℕ → ℕ = λ (r : ℕ). (memory r).level in
          let falls : Falling level (c.done ++ z.want ∷ c.rest)
          = subst (Falling level) c.turns (turn_falls level z.beside sibling_levels z.path path_levels) in
          let there : member p (c.done ++ z.want ∷ c.rest) ≡ true = ap (member p) (sym c.turns) ∙ turning_holds p ∙ holds in
          ⊎_elim
          (λ h. h)
          (λ h. absurd (omega (arith, father_level p q f, falling_split level c.done (z.want ∷ c.rest) falls q p m h)))
          (or_cases (member p c.done) (member p (z.want ∷ c.rest)) (sym (member_append p c.done (z.want ∷ c.rest)) ∙ there))

    -- Who gathers pages wants page 0, or a page whose father it holds.
    pub wants_under : Gathering k memory l t z → (z.want ≡ 0) ⊎ UnderHeld memory l t z z.want
    wants_under (inl s) = inl s.wants_root
    wants_under (inr (inl c)) = inr (under_held memory l t z z.want (coming_under c))
    wants_under (inr (inr (inl b))) = inr (under_held memory l t z z.want (beside_under b))
    wants_under (inr (inr (inr c))) =
        inr (subst (UnderHeld memory l t z) (get_or-append_seam z.beside z.want [] 0) (second_under c (length z.beside) (omega arith)))

    -- A page that it holds is the top one of its path, or it holds the page's father.
    above_held : (p : ℕ) → Top z.path p ⊎ UnderPath memory l t z.path p → Top z.path p ⊎ UnderHeld memory l t z p
    above_held p = ⊎_elim inl (λ u. inr (under_held memory l t z p u))

    pub held_under_lem : Stance k memory l t z → (p : ℕ) → member p (holding z) ≡ true
        → Top z.path p ⊎ UnderHeld memory l t z p
    held_under_lem (inl (inl s)) p m =
        not_both (subst (λ (xs : List ℕ). member p (xs ++ z.beside) ≡ true) s.no_path m) (ap (member p) s.no_siblings ∙ member_none p)
    held_under_lem (inl (inr (inl c))) p m =
        ⊎_elim
        (λ found. above_held p (path_cases (key_of z.op) key z.path (base c) (coming_climbs c) p found.0 found.1 found.2))
        (λ found. absurd (omega (arith, ap length c.no_siblings, found.1)))
        (held_at p z.path z.beside m)
    held_under_lem (inl (inr (inr (inl b)))) p m =
        ⊎_elim
        (λ found. above_held p (path_cases (key_of z.op) key z.path 0 (beside_climbs b) p found.0 found.1 found.2))
        (λ found. inr (under_held memory l t z p (neighbour_under (key_of z.op) key z.path 0 (beside_climbs b) found.0 p
        (omega (arith, b.fewer, found.1)) (sym found.2 ∙ b.neighbours found.0 found.1))))
        (held_at p z.path z.beside m)
    held_under_lem (inl (inr (inr (inr c)))) p m =
        ⊎_elim
        (λ found. above_held p (path_cases (key_of z.op) key z.path 0 (crossing_climbs c) p found.0 found.1 found.2))
        (λ found. inr (subst (UnderHeld memory l t z)
        (get_or-append z.beside (z.want ∷ []) 0 found.0 found.1 ∙ found.2)
        (second_under c found.0 (omega (arith, found.1)))))
        (held_at p z.path z.beside m)
    held_under_lem (inr c) p m = above_held p (turning_under c p m)

    -- What it wants lies inside the top page of its path, and lower, or it converts the top page.
    pub wants_inside : Stance k memory l t z → (p level a b : ℕ) → Top z.path p → Stands l t 0 word_range p level a b
        → ((converting z ≡ true) × (z.want ≡ p)) ⊎ Inside l t level a z.want
    wants_inside (inl (inl s)) p level a b top st = absurd (omega (arith, ap length s.no_path, top.last))
    wants_inside (inl (inr (inl c))) p level a b top st =
        inr (under_inside (key_of z.op) key z.path (base c) (coming_climbs c) p z.want level a b top st (coming_under c))
    wants_inside (inl (inr (inr (inl d)))) p level a b top st =
        inr (under_inside (key_of z.op) key z.path 0 (beside_climbs d) p z.want level a b top st (beside_under d))
    wants_inside (inl (inr (inr (inr c)))) p level a b top st = inr (second_inside c p level a b top st)
    wants_inside (inr c) p level a b top st = ⊎_elim (λ e. inl (turning_own c, e)) inr (turning_inside c p level a b top st)

    -- The wanted page stands in the tree.
    child_placed : (q : ℕ) → UnderHeld memory l t z q → Placed l t 0 word_range q
    child_placed q u =
        let f = u.father in
        let c = child_inside u.above q (f.under + 2) f.from f.to f.stands f in
        record { level = c.new_level; from = c.from; to = c.to; stands = c.stands }

    turning_placed : Converting k memory l t z → Placed l t 0 word_range z.want
    turning_placed c =
        ⊎_elim
        (λ top.
        let i : ℕ = top.index in
        let spot = facts.on_way (key_of z.op) i key (omega (arith, top.last, (turning_climbs c).inside)) in
        let here = path_at (key_of z.op) key z.path 0 (turning_climbs c) i i (omega (arith, top.last)) (omega arith) ∙ top.here in
        record {
          level = i + 1;
          from = spot.from;
          to = spot.to;
          stands = subst (λ (q : ℕ). Stands l t 0 word_range q (i + 1) spot.from spot.to) here spot.stands;
        })
        (λ u. child_placed z.want (under_held memory l t z z.want u))
        (turning_under c z.want (turning_own c))

    pub wants_placed : Stance k memory l t z → Placed l t 0 word_range z.want
    wants_placed (inl g) =
        ⊎_elim
        (λ e. record { level = l + 1; from = 0; to = word_range; stands = subst (λ (q : ℕ). Stands l t 0 word_range q (l + 1) 0 word_range) (sym e) root_place })
        (child_placed z.want)
        (wants_under g)
    wants_placed (inr c) = turning_placed c
