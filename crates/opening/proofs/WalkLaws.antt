-- The walk, page by page: what one page tells, then its children one by one, each with the marks that the last one left.
use Prim.Native.Nat.{ℕ, zero, suc, ◌+◌, ◌-◌, ◌≤◌, ◌<◌}
use mathlib.Core.Bool.{Bool, true, false, cond, not, ◌&&◌}
use mathlib.Core.List.{List, [], ◌∷◌, ◌++◌}
use mathlib.Core.Logic.{◌≢◌}
use mathlib.Core.Path.{◌≡◌, refl, sym, ap, ap₂, ◌∙◌, subst, subst₂}
use native.Mathlib.Numerals.{add-one}
use native.Mathlib.Omega.{arith}
use borrow.Author.Tests.{ltb-true, ltb-false, lt-ltb, le-ltb, eqb-true, eq-eqb, ne_eqb}
use lib.Dec.{eqb, leb, ltb}
use lib.ListN.{length, get_or, drop, set, length-map, length-drop, get_or-map}
use lib.Seq.{drop-cons}
use Rattle.ground.specs.Limits.{word_range}
use Rattle.ground.proofs.Bools.{and_first, and_second, and_both, and_first_fails, and_second_fails, not_of_true, not_of_false, not_both, false_if_not_true}
use Rattle.ground.proofs.Choice.{by_test, cond-true, cond-false}
use Rattle.ground.proofs.Tests.{all_at}
use Rattle.page.specs.Words.{Entry, Page, entry, μ, is_leaf, value_of, pointers}
use Rattle.page.specs.Place.{pointer}
use Rattle.page.specs.Splits.{entry_at}
use Rattle.pool.specs.Pool.{page_at}
use Rattle.opening.specs.Opening.{within, children, hangs, for_each, met}
use Rattle.opening.specs.Marks.{Walk, marked, marked_by, unmet, fits_at, end_at}
use Rattle.opening.proofs.PageLaws.{page_sound}
use Rattle.opening.proofs.MarkLaws.{marked_append, unmet_append, length_marked}

-- ---- one page

-- whether page p on level l + 1 hangs rightly and is met for the first time, with all below it
abbrev pub walked : (ℕ → Page) → ℕ → ℕ → ℕ → ℕ → List Bool → Bool
walked memory l p lo hi marks = hangs memory l p lo hi && unmet (met memory l p) marks

-- A page is met: on another level, with a key out of its range, for the second time, or rightly.
module _ (P : Page) (level lo hi from : ℕ) (mark : Bool) (at : from ≡ cond (eqb level 1) lo (suc lo)) where
  pub meet_off : P.level ≢ level → false ≡ fits_at P level lo hi && not mark
  meet_off off = sym (and_first_fails (not mark) (and_first_fails (within (cond (eqb level 1) lo (suc lo)) hi P.entries) (ne_eqb P.level level off)))

  pub meet_out : within from hi P.entries ≡ false → false ≡ fits_at P level lo hi && not mark
  meet_out out =
      sym (and_first_fails (not mark) (and_second_fails (eqb P.level level) (ap (λ (f : ℕ). within f hi P.entries) (sym at) ∙ out)))

  pub meet_again : mark ≡ true → false ≡ fits_at P level lo hi && not mark
  meet_again m = sym (and_second_fails (fits_at P level lo hi) (not_of_true m))

  pub meet_new : P.level ≡ level → within from hi P.entries ≡ true → mark ≡ false → true ≡ fits_at P level lo hi && not mark
  meet_new on inside m =
      sym (and_both (and_both (eq-eqb P.level level on) (ap (λ (f : ℕ). within f hi P.entries) (sym at) ∙ inside)) (not_of_false m))

-- above the leaves the reference keys lie behind lo
fits_upper : (P : Page) (l lo hi : ℕ) → fits_at P (suc (suc l)) lo hi ≡ eqb P.level (suc (suc l)) && within (suc lo) hi P.entries
fits_upper P l lo hi =
    ap (λ (from : ℕ). eqb P.level (suc (suc l)) && within from hi P.entries) (cond-false lo (suc lo) (ne_eqb (suc (suc l)) 1 (λ e. absurd (omega arith))))

module _ (memory : ℕ → Page) (p lo hi : ℕ) (marks : List Bool) where
  -- a page that does not fit itself, or was met before, decides
  hangs_fits : (l : ℕ) → hangs memory l p lo hi ≡ true → fits_at (memory p) (suc l) lo hi ≡ true
  unfolding hangs
  hangs_fits zero h = h
  hangs_fits (suc l) h =
      fits_upper (memory p) l lo hi
      ∙ and_first (eqb (memory p).level (suc (suc l)) && within (suc lo) hi (memory p).entries)
      (children (hangs memory l) (memory p).first lo (memory p).entries hi) h

  met_first : (l : ℕ) → unmet (met memory l p) marks ≡ true → not (marked marks p) ≡ true
  unfolding met unmet
  met_first zero h = and_first (not (marked marks p)) true h
  met_first (suc l) h = and_first (not (marked marks p)) (unmet (for_each (met memory l) (pointers (memory p))) (set marks p true)) h

  pub page_fails : (l : ℕ) → fits_at (memory p) (suc l) lo hi && not (marked marks p) ≡ false → false ≡ walked memory l p lo hi marks
  page_fails l f =
      sym (false_if_not_true (walked memory l p lo hi marks)
      (λ h. not_both
      (and_both
      (hangs_fits l (and_first (hangs memory l p lo hi) (unmet (met memory l p) marks) h))
      (met_first l (and_second (hangs memory l p lo hi) (unmet (met memory l p) marks) h)))
      f))

  -- a leaf is all that there is
  pub leaf_done : fits_at (memory p) 1 lo hi && not (marked marks p) ≡ true → true ≡ walked memory 0 p lo hi marks
  unfolding hangs met unmet
  leaf_done h =
      sym (and_both (and_first (fits_at (memory p) 1 lo hi) (not (marked marks p)) h)
      (and_both (and_second (fits_at (memory p) 1 lo hi) (not (marked marks p)) h) refl))

  pub leaf_marked : marked_by (met memory 0 p) marks ≡ set marks p true
  unfolding met marked_by
  leaf_marked = refl

-- ---- its children

-- pi is the page behind reference key i - 1
pointer_next : (P : Page) (i : ℕ) → pointer (suc i) P ≡ (entry_at i P.entries).value
pointer_next P i = get_or-map value_of P.entries i (entry 0 0)

-- nothing is left behind the end of a list
none_left : {A : Type 0} (xs : List A) (i : ℕ) → length xs ≤ i → drop i xs ≡ []
none_left xs i h = empty (drop i xs) (omega (arith, length-drop i xs))
  where
    empty : {A : Type 0} (l : List A) → length l ≡ 0 → l ≡ []
    empty [] e = refl
    empty (x ∷ l) e = absurd (omega arith)

module _ (f : ℕ → ℕ → ℕ → Bool) (hi : ℕ) (es : List Entry) where
  -- one child, and those behind it
  children_more : (i p from : ℕ) → i < length es
      → children f p from (drop i es) hi ≡ f p from (entry_at i es).key && children f (entry_at i es).value (entry_at i es).key (drop (suc i) es) hi
  unfolding children
  children_more i p from h = ap (λ (l : List Entry). children f p from l hi) (drop-cons es i (entry 0 0) h)

  -- the last child
  children_last : (i p from : ℕ) → length es ≤ i → children f p from (drop i es) hi ≡ f p from hi
  unfolding children
  children_last i p from h = ap (λ (l : List Entry). children f p from l hi) (none_left es i h)

each_more : (g : ℕ → List ℕ) (ps : List ℕ) (i : ℕ) → i < length ps → for_each g (drop i ps) ≡ g (get_or ps i 0) ++ for_each g (drop (suc i) ps)
unfolding for_each
each_more g ps i h = ap (for_each g) (drop-cons ps i 0 h)

-- p0, and one pointer for each reference key
count_pointers : (P : Page) → length (pointers P) ≡ suc (μ P)
count_pointers P = ap suc (length-map P.entries value_of)

-- Before child i: of what was asked at the beginning the rest is asked from here on, with these marks.
pub record Going (f : ℕ → ℕ → ℕ → Bool) (g : ℕ → List ℕ) (P : Page) (hi : ℕ) (whole : Bool) (final : List Bool) (i from : ℕ) (marks : List Bool) : Type 0 where
  pub here : i ≤ μ P → whole ≡ children f (pointer i P) from (drop i P.entries) hi && unmet (for_each g (drop i (pointers P))) marks
  pub over : μ P < i → whole ≡ true
  pub last : final ≡ marked_by (for_each g (drop i (pointers P))) marks

and_four : (a b c d : Bool) → a && b && (c && d) ≡ a && c && (b && d)
and_four true true c d = refl
and_four true false true d = refl
and_four true false false d = refl
and_four false b c d = refl

-- what is asked of all children, and the pages met under them
abbrev pub all_kids : (ℕ → ℕ → ℕ → Bool) → (ℕ → List ℕ) → Page → ℕ → ℕ → List Bool → Bool
all_kids f g P lo hi marks = children f P.first lo P.entries hi && unmet (for_each g (pointers P)) marks

-- the first child
pub going_starts : (f : ℕ → ℕ → ℕ → Bool) (g : ℕ → List ℕ) (P : Page) (lo hi : ℕ) (marks : List Bool)
    → Going f g P hi (all_kids f g P lo hi marks) (marked_by (for_each g (pointers P)) marks) 0 lo marks
going_starts f g P lo hi marks = record { here = λ _. refl; over = λ few. absurd (omega arith); last = refl }

-- an upper page that fits itself and is met for the first time: its children decide
module _ (memory : ℕ → Page) (p lo hi l : ℕ) (marks marks' : List Bool) (new : marks' ≡ set marks p true) where
  pub upper_is : fits_at (memory p) (suc (suc l)) lo hi && not (marked marks p) ≡ true
      → walked memory (suc l) p lo hi marks ≡ all_kids (hangs memory l) (met memory l) (memory p) lo hi marks'
  unfolding hangs met unmet
  upper_is h =
      ap₂ ◌&&◌
      (ap (λ (b : Bool). b && children (hangs memory l) (memory p).first lo (memory p).entries hi)
      (sym (fits_upper (memory p) l lo hi) ∙ and_first (fits_at (memory p) (suc (suc l)) lo hi) (not (marked marks p)) h))
      (ap (λ (b : Bool). b && unmet (for_each (met memory l) (pointers (memory p))) (set marks p true))
      (and_second (fits_at (memory p) (suc (suc l)) lo hi) (not (marked marks p)) h)
      ∙ ap (unmet (for_each (met memory l) (pointers (memory p)))) (sym new))

  pub upper_marked : marked_by (met memory (suc l) p) marks ≡ marked_by (for_each (met memory l) (pointers (memory p))) marks'
  unfolding met marked_by
  upper_marked = ap (marked_by (for_each (met memory l) (pointers (memory p)))) (sym new)

-- what is asked of child i alone
abbrev pub of_child : (ℕ → ℕ → ℕ → Bool) → (ℕ → List ℕ) → Page → ℕ → ℕ → ℕ → List Bool → Bool
of_child f g P hi i from marks = f (pointer i P) from (end_at i hi P.entries) && unmet (g (pointer i P)) marks

module _ {f : ℕ → ℕ → ℕ → Bool} {g : ℕ → List ℕ} {P : Page} {hi : ℕ} {whole : Bool} {final : List Bool} {i from : ℕ} {marks : List Bool}
    (going : Going f g P hi whole final i from marks) where
  -- the pages met behind child i, and the marks that it leaves
  behind : List ℕ
  behind = for_each g (drop (suc i) (pointers P))

  after : List Bool
  after = marked_by (g (pointer i P)) marks

  meets : i ≤ μ P → unmet (for_each g (drop i (pointers P))) marks ≡ unmet (g (pointer i P)) marks && unmet behind after
  unfolding behind after
  meets h =
      let long = count_pointers P in
      ap (λ (l : List ℕ). unmet l marks) (each_more g (pointers P) i (omega arith)) ∙ unmet_append (g (pointer i P)) behind marks

  -- behind child i there is another,
  more : i < μ P
      → whole ≡ of_child f g P hi i from marks && (children f (pointer (suc i) P) (end_at i hi P.entries) (drop (suc i) P.entries) hi && unmet behind after)
  more h =
      let es : List Entry = P.entries in
      let key : end_at i hi es ≡ (entry_at i es).key = cond-true (entry_at i es).key hi (lt-ltb i (μ P) h) in
      going.here (omega arith)
      ∙ ap₂ ◌&&◌
      (children_more f hi es i (pointer i P) from h
      ∙ ap₂ (λ (to q : ℕ). f (pointer i P) from to && children f q to (drop (suc i) es) hi) (sym key) (sym (pointer_next P i)))
      (meets (omega arith))
      ∙ and_four (f (pointer i P) from (end_at i hi es)) (children f (pointer (suc i) P) (end_at i hi es) (drop (suc i) es) hi)
      (unmet (g (pointer i P)) marks) (unmet behind after)

  -- or none
  none : i ≡ μ P → whole ≡ of_child f g P hi i from marks
  unfolding behind after for_each unmet
  none m =
      let long = count_pointers P in
      let end : end_at i hi P.entries ≡ hi = cond-false (entry_at i P.entries).key hi (le-ltb i (μ P) (omega arith)) in
      going.here (omega arith)
      ∙ ap₂ ◌&&◌
      (children_last f hi P.entries i (pointer i P) from (omega arith) ∙ ap (f (pointer i P) from) (sym end))
      (meets (omega arith)
      ∙ ap (λ (l : List ℕ). unmet (g (pointer i P)) marks && unmet (for_each g l) after) (none_left (pointers P) (suc i) (omega arith))
      ∙ and-true (unmet (g (pointer i P)) marks))
    where
      and-true : (a : Bool) → a && true ≡ a
      and-true true = refl
      and-true false = refl

  -- child i fails, and so all
  pub going_fails : i ≤ μ P → of_child f g P hi i from marks ≡ false → false ≡ whole
  going_fails h bad =
      by_test (ltb i (μ P))
      (λ y. sym (more (ltb-true i (μ P) y) ∙ and_first_fails _ bad))
      (λ z. sym (none (omega (arith, ltb-false i (μ P) z)) ∙ bad))

  -- child i passes, and the next one is asked
  pub going_on : i ≤ μ P → of_child f g P hi i from marks ≡ true → {marks' : List Bool} → marks' ≡ marked_by (g (pointer i P)) marks
      → Going f g P hi whole final (suc i) (end_at i hi P.entries) marks'
  unfolding behind after
  going_on h good {marks'} e = record {
    here = λ m. more m ∙ ap (λ (b : Bool). b && kids) good
        ∙ ap (λ (l : List Bool). children f (pointer (suc i) P) (end_at i hi P.entries) (drop (suc i) P.entries) hi && unmet behind l) (sym e);
    over = λ m. none (omega arith) ∙ good;
    last =
        let long = count_pointers P in
        going.last
        ∙ ap (λ (l : List ℕ). marked_by l marks) (each_more g (pointers P) i (omega arith))
        ∙ marked_append (g (pointer i P)) behind marks
        ∙ ap (marked_by behind) (sym e);
  }
    where
      kids : Bool
      kids = children f (pointer (suc i) P) (end_at i hi P.entries) (drop (suc i) P.entries) hi && unmet behind after

  -- every child has passed
  pub going_done : μ P < i → (true ≡ whole) × (marks ≡ final)
  unfolding for_each marked_by
  going_done h =
      let long = count_pointers P in
      (sym (going.over h), sym (going.last ∙ ap (λ (l : List ℕ). marked_by (for_each g l) marks) (none_left (pointers P) i (omega arith))))

-- ---- by levels as pages have them, counted from 1

module _ (k n : ℕ) (ws : List ℕ) (level p lo hi : ℕ) (marks : List Bool) where
  abbrev here : Bool
  here = fits_at (page_at k ws p) level lo hi && not (marked marks p)

  abbrev below : ℕ
  below = level - 1 - 1

  abbrev memory : ℕ → Page
  memory = page_at k ws

  -- the page decides
  pub level_fails : 1 ≤ level → here ≡ false → false ≡ walked (page_at k ws) (level - 1) p lo hi marks
  level_fails low bad =
      let up : level ≡ suc (level - 1) = omega arith in
      page_fails memory p lo hi marks (level - 1) (ap (λ (v : ℕ). fits_at (memory p) v lo hi && not (marked marks p)) (sym up) ∙ bad)

  -- it is on this level
  pub fits_on : here ≡ true → (page_at k ws p).level ≡ level
  fits_on good =
      let fits = and_first (fits_at (memory p) level lo hi) (not (marked marks p)) good in
      eqb-true (memory p).level level (and_first (eqb (memory p).level level) (within (cond (eqb level 1) lo (suc lo)) hi (memory p).entries) fits)

  -- it is a leaf
  pub level_leaf : level ≡ 1 → here ≡ true → (true ≡ walked (page_at k ws) (level - 1) p lo hi marks) × (marked_by (met (page_at k ws) (level - 1) p) marks ≡ set marks p true)
  level_leaf one good =
      let down : level - 1 ≡ 0 = omega arith in (
        leaf_done memory p lo hi marks (ap (λ (v : ℕ). fits_at (memory p) v lo hi && not (marked marks p)) (sym one) ∙ good)
            ∙ ap (λ (l : ℕ). walked memory l p lo hi marks) (sym down),
        ap (λ (l : ℕ). marked_by (met memory l p) marks) down ∙ leaf_marked memory p lo hi marks,
      )

  -- its children do
  module _ (above : 2 ≤ level) (good : here ≡ true) (marks' : List Bool) (new : marks' ≡ set marks p true) where
    pub level_upper : walked (page_at k ws) (level - 1) p lo hi marks ≡ all_kids (hangs (page_at k ws) (level - 1 - 1)) (met (page_at k ws) (level - 1 - 1)) (page_at k ws p) lo hi marks'
    level_upper =
        let down : level - 1 ≡ suc below = omega arith in
        let up : level ≡ suc (suc below) = omega arith in
        ap (λ (l : ℕ). walked memory l p lo hi marks) down
        ∙ upper_is memory p lo hi below marks marks' new (ap (λ (v : ℕ). fits_at (memory p) v lo hi && not (marked marks p)) (sym up) ∙ good)

    pub level_marked : marked_by (met (page_at k ws) (level - 1) p) marks ≡ marked_by (for_each (met (page_at k ws) (level - 1 - 1)) (pointers (page_at k ws p))) marks'
    level_marked =
        let down : level - 1 ≡ suc below = omega arith in
        ap (λ (l : ℕ). marked_by (met memory l p) marks) down ∙ upper_marked memory p lo hi below marks marks' new

-- ---- going down from page p: the invariant

-- Before child i of page p, which is on this level and has m reference keys; `marks₀` are the marks once p was met.
pub record Descends (k n : ℕ) (ws : List ℕ) (level p lo hi : ℕ) (marks₀ : List Bool) (m i from : ℕ) (marks : List Bool) : Type 0 where
  pub walk : Walk k n ws p
  pub on : (page_at k ws p).level ≡ level
  pub above : 2 ≤ level
  pub count : m ≡ μ (page_at k ws p)
  pub most : i ≤ m + 1
  pub bottom : from ≤ word_range
  pub top : hi ≤ word_range
  pub room : n ≤ length marks
  pub kept : length marks ≡ length marks₀
  pub going : Going (hangs (page_at k ws) (level - 1 - 1)) (met (page_at k ws) (level - 1 - 1)) (page_at k ws p) hi
      (all_kids (hangs (page_at k ws) (level - 1 - 1)) (met (page_at k ws) (level - 1 - 1)) (page_at k ws p) lo hi marks₀)
      (marked_by (for_each (met (page_at k ws) (level - 1 - 1)) (pointers (page_at k ws p))) marks₀) i from marks

module _ {k n : ℕ} {ws : List ℕ} {level p lo hi : ℕ} {marks₀ : List Bool} {m i from : ℕ} {marks : List Bool} (d : Descends k n ws level p lo hi marks₀ m i from marks) where
  -- the page is on a level, and not the lowest
  pub on_some : (page_at k ws p).level ≢ 0
  on_some z = let e = d.on in let a = d.above in absurd (omega arith)

  pub no_leaf : is_leaf (page_at k ws p) ≡ false
  no_leaf = ne_eqb (page_at k ws p).level 1 (λ z. let e = d.on in let a = d.above in absurd (omega arith))

  -- what it points to is a page of the pool
  pub child_walk : (c : ℕ) → c ≡ pointer i (page_at k ws p) → i ≤ m → Walk k n ws c
  child_walk c e h =
      let ps : List ℕ = pointers (page_at k ws p) in
      let long = count_pointers (page_at k ws p) in
      let few = d.count in
      record {
        pool = d.walk.pool;
        inside = subst (λ (q : ℕ). q < n) (sym e)
            (ltb-true (get_or ps i 0) n (and_second (leb 1 (get_or ps i 0)) (ltb (get_or ps i 0) n)
            (all_at (λ (q : ℕ). leb 1 q && ltb q n) ps 0 ((page_sound d.walk on_some).pointers_in_pool no_leaf) i (omega arith))));
      }

  -- child i, as it was asked, with its answer
  module _ (r : Bool) (c to : ℕ) (is : c ≡ pointer i (page_at k ws p)) (end : to ≡ end_at i hi (page_at k ws p).entries) (h : i ≤ m)
      (told : r ≡ walked (page_at k ws) (level - 1 - 1) c from to marks) where
    asked : r ≡ of_child (hangs (page_at k ws) (level - 1 - 1)) (met (page_at k ws) (level - 1 - 1)) (page_at k ws p) hi i from marks
    asked = told ∙ ap₂ (λ (q e : ℕ). walked (page_at k ws) (level - 1 - 1) q from e marks) is end

    pub descends_fails : r ≡ false → false ≡ all_kids (hangs (page_at k ws) (level - 1 - 1)) (met (page_at k ws) (level - 1 - 1)) (page_at k ws p) lo hi marks₀
    descends_fails bad = let few = d.count in going_fails d.going (omega arith) (sym asked ∙ bad)

    pub descends_on : r ≡ true → to ≤ word_range → (marks' : List Bool) → marks' ≡ marked_by (met (page_at k ws) (level - 1 - 1) c) marks
        → Descends k n ws level p lo hi marks₀ m (i + 1) to marks'
    descends_on good high marks' new =
        let few = d.count in
        let same : length marks' ≡ length marks = ap length new ∙ length_marked (met (page_at k ws) (level - 1 - 1) c) marks in
        let room = d.room in
        let next : Going _ _ (page_at k ws p) hi _ _ (suc i) (end_at i hi (page_at k ws p).entries) marks' =
        going_on d.going (omega arith) (sym asked ∙ good) (new ∙ ap (λ (q : ℕ). marked_by (met (page_at k ws) (level - 1 - 1) q) marks) is) in
        record {
          walk = d.walk;
          on = d.on;
          above = d.above;
          count = d.count;
          most = omega arith;
          bottom = high;
          top = d.top;
          room = omega arith;
          kept = same ∙ d.kept;
          going = subst₂ (λ (j e : ℕ). Going (hangs (page_at k ws) (level - 1 - 1)) (met (page_at k ws) (level - 1 - 1)) (page_at k ws p) hi
              (all_kids (hangs (page_at k ws) (level - 1 - 1)) (met (page_at k ws) (level - 1 - 1)) (page_at k ws p) lo hi marks₀)
              (marked_by (for_each (met (page_at k ws) (level - 1 - 1)) (pointers (page_at k ws p))) marks₀) j e marks') (sym (add-one i)) (sym end) next;
        }

  -- every child has passed
  pub descends_done : m < i → (true ≡ all_kids (hangs (page_at k ws) (level - 1 - 1)) (met (page_at k ws) (level - 1 - 1)) (page_at k ws p) lo hi marks₀)
      × (marks ≡ marked_by (for_each (met (page_at k ws) (level - 1 - 1)) (pointers (page_at k ws p))) marks₀)
  descends_done h = let few = d.count in going_done d.going (omega arith)

-- the last child passes, and so every one has
pub descends_last : {k n : ℕ} {ws : List ℕ} {level p lo hi : ℕ} {marks₀ : List Bool} {m i from : ℕ} {marks : List Bool}
    (d : Descends k n ws level p lo hi marks₀ m i from marks) (r : Bool) (c to : ℕ) → c ≡ pointer i (page_at k ws p) → to ≡ end_at i hi (page_at k ws p).entries
    → i ≡ m → r ≡ walked (page_at k ws) (level - 1 - 1) c from to marks → r ≡ true → to ≤ word_range
    → (marks' : List Bool) → marks' ≡ marked_by (met (page_at k ws) (level - 1 - 1) c) marks
    → (true ≡ all_kids (hangs (page_at k ws) (level - 1 - 1)) (met (page_at k ws) (level - 1 - 1)) (page_at k ws p) lo hi marks₀)
    × (marks' ≡ marked_by (for_each (met (page_at k ws) (level - 1 - 1)) (pointers (page_at k ws p))) marks₀)
descends_last d r c to is end last told good high marks' new =
    descends_done (descends_on d r c to is end (omega arith) told good high marks' new) (omega arith)
