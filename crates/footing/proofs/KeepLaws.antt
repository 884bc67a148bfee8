-- The pages that an operation holds, looked at one by one: each law is one step of a walk along the cells of its path or of
-- its siblings, or one way through the rule that it answers.
use Rattle.std.proofs.lemmas.List.{get_or_default, get_or-drop, length-drop}
use Rattle.std.proofs.lemmas.Grind.{reverse_onto}
use Rattle.std.proofs.lemmas.Slice.Zip.{length-zip, get_or-zip}
use Rattle.std.specs.List.{list_all, zip}
use Prim.Native.Nat.{ℕ, zero, suc, ◌+◌, ◌-◌, ◌≤◌, ◌<◌}
use mathlib.Core.Bool.{Bool, true, false, cond, not, ◌&&◌, ◌||◌, false≢true}
use mathlib.Core.List.{List, [], ◌∷◌, ◌++◌, reverse, append_assoc}
use mathlib.Core.Logic.{⊎_elim}
use mathlib.Core.Path.{◌≡◌, refl, sym, ap, ap₂, ◌∙◌, subst}
use native.Mathlib.Nat.{le_of_suc-le-suc, not-suc-le-zero}
use native.Mathlib.Omega.{arith}
use lib.Dec.{eqb}
use lib.ListN.{length, get_or, take, drop, replicate}
use lib.Seq.{length-take-le, get_or-take, take_at, take_all}
use Rattle.ground.specs.Limits.{path_holds}
use Rattle.ground.specs.Tests.{all, member, padded, filled}
use Rattle.ground.proofs.Bools.{not_both, and_both, and_first_fails, and_second_fails, or_first, or_second}
use Rattle.ground.proofs.Padded.{next_cell}
use Rattle.ground.proofs.Tests.{member_from, member_append, member_here, member_there, member_last}
use Rattle.page.specs.Words.{Entry, Page}
use Rattle.page.specs.Place.{has, information}
use Rattle.page.specs.Reading.{looked}
use Rattle.std.specs.Prelude.{Option, Some, None, is_some}
use Rattle.pool.specs.Pool.{page_at}
use Rattle.change.specs.Deletion.{Need, needs}
use Rattle.change.specs.Held.{Held, Needing, leaf_of, fathers_of}
use Rattle.change.proofs.HeldLaws.{Known, held_known, held_front, upward_father, upward_reverse, leaf_taken, fathers_taken}
use Rattle.slots.specs.declared.Op.{Op}
use Rattle.slots.specs.declared.Op.TheVariants.{Search, Insert, Delete, Next, Regrade}
use Rattle.slots.specs.declared.Way.{Way}
use Rattle.slots.specs.declared.Way.TheVariants.{First, Second, Third}
use Rattle.slots.specs.declared.Lock.{Lock}
use Rattle.slots.specs.declared.Under.{Under}
use Rattle.slots.specs.Parts.{is_delete, is_second, Stand, stand, with_op}
use Rattle.slots.proofs.MakingLaws.{length_add}
use Rattle.footing.specs.Granted.{is_safe, at_its_leaf}
use Rattle.footing.specs.Fitting.{descends, rightly_kept, same_levels, is_sibling, rightly_beside}
use Rattle.footing.proofs.LookLaws.{descends_levels, held_two}

-- ---- cells

-- what is known of the page in a cell
pub cell_known : {k n : ℕ} {ws : List ℕ} (cells : List ℕ) (count : ℕ) → count ≤ length cells → Held k n ws (take count cells)
    → (i : ℕ) → i < count → Known k n ws (get_or cells i 0)
cell_known cells count long held i h =
    let same = length-take-le count cells long in
    held_known held (get_or cells i 0) (member_from (get_or cells i 0) (take count cells) i 0 (omega arith) (get_or-take count cells i 0 h))

-- what is known of a held page, and of a page below the top one
pub page_known : {k n : ℕ} {ws pages : List ℕ} → Held k n ws pages → (i : ℕ) → i < length pages → Known k n ws (get_or pages i 0)
page_known {pages = pages} held i h = held_known held (get_or pages i 0) (member_from (get_or pages i 0) pages i 0 h refl)

pub page_below : {k n : ℕ} {ws pages : List ℕ} → Held k n ws pages → (i p : ℕ) → i < length (drop 1 pages) → p ≡ get_or (drop 1 pages) i p → Known k n ws p
page_below {k} {n} {ws} {pages} held i p h e =
    subst (Known k n ws) (sym (e ∙ get_or_default (drop 1 pages) i p 0 h ∙ get_or-drop 1 pages i 0)) (page_known held (1 + i) (omega (arith, length-drop 1 pages)))

-- as many as there are below it are all that are there
pub below_top : (pages : List ℕ) → take (length pages - 1) (drop 1 pages) ≡ drop 1 pages
below_top pages = take_all (length pages - 1) (drop 1 pages) (omega (arith, length-drop 1 pages))

-- ---- a path upward

-- turned round, the pages are the same
member_turned : (p : ℕ) (pages : List ℕ) → member p (reverse pages) ≡ true → member p pages ≡ true
member_turned p [] m = m
member_turned p (q ∷ pages) m =
    ⊎_elim (λ t. member_there q p pages (member_turned p pages t)) (λ e. subst (λ (s : ℕ). member p (s ∷ pages) ≡ true) e (member_here p pages))
    (member_last p (reverse pages) q (subst (λ (l : List ℕ). member p l ≡ true) (reverse_onto pages q []) m))

-- upward, a path begins with its last page
pub last_first : (path : List ℕ) (depth : ℕ) → depth ≤ length path → 0 < depth
    → reverse (take depth path) ≡ leaf_of depth path ∷ fathers_of depth path
last_first path depth long some = sym (upward_reverse depth path long) ∙ upward_father depth path some

-- its last page, read off the path as it stands
pub last_up : (path : List ℕ) (p : ℕ) → p ≡ leaf_of (length path) path → 1 ≤ length path → reverse path ≡ p ∷ fathers_of (length path) path
last_up path p e some =
    ap reverse (sym (take_all (length path) path (omega arith)))
    ∙ last_first path (length path) (omega arith) some
    ∙ ap (λ (q : ℕ). q ∷ fathers_of (length path) path) (sym e)

pub last_member : (path : List ℕ) (p : ℕ) → p ≡ leaf_of (length path) path → 1 ≤ length path → member p path ≡ true
last_member path p e some = member_from p path (length path - 1) 0 (omega arith) (sym e)

pub last_known : {k n : ℕ} {ws path : List ℕ} → Held k n ws path → (p : ℕ) → p ≡ leaf_of (length path) path → 1 ≤ length path → Known k n ws p
last_known {path = path} held p e some = held_known held p (last_member path p e some)

-- ---- safe pages

-- every page is safe for who goes by the second way: it holds no other
pub second_safe : (op : Op) (k : ℕ) (P : Page) → is_second op ≡ true → is_safe op k P ≡ true
second_safe (Search x) k P e = refl
second_safe (Insert x v First) k P e = not_both e refl
second_safe (Insert x v Second) k P e = refl
second_safe (Insert x v Third) k P e = not_both e refl
second_safe (Delete x First) k P e = not_both e refl
second_safe (Delete x Second) k P e = refl
second_safe (Delete x Third) k P e = not_both e refl
second_safe (Next x) k P e = not_both e refl
second_safe (Regrade x v First) k P e = refl
second_safe (Regrade x v Second) k P e = refl
second_safe (Regrade x v Third) k P e = refl

-- and for a regrading
pub regrade_safe : (k : ℕ) (P : Page) {op : Op} {x v : ℕ} {way : Way} → op ≡ Regrade x v way → is_safe op k P ≡ true
regrade_safe k P {x = x} {v} {way} e = ap (λ (o : Op). is_safe o k P) e ∙ by_way way
  where
    by_way : (w : Way) → is_safe (Regrade x v w) k P ≡ true
    by_way First = refl
    by_way Second = refl
    by_way Third = refl

-- ---- the pages below the top

-- the page is not safe for the operation
abbrev pub unsafe : Op → ℕ → (ℕ → Page) → ℕ → Bool
unsafe op k memory p = not (is_safe op k (memory p))

module _ (op : Op) (k : ℕ) (memory : ℕ → Page) (path : List ℕ) (depth : ℕ) (long : depth ≤ length path) where
  -- none of the pages from index i on is safe
  abbrev unsafe_from : ℕ → Bool
  unsafe_from i = all (unsafe op k memory) (drop i (take depth path))

  -- nothing is held
  pub kept_none : (want : ℕ) → depth ≡ 0 → eqb want 0 ≡ rightly_kept op k memory (take depth path) want
  kept_none want e = sym (ap (λ (d : ℕ). rightly_kept op k memory (take d path) want) e)

  -- the top page and the others
  by_top : (want : ℕ) → 0 < depth
      → rightly_kept op k memory (take depth path) want
      ≡ (eqb (get_or path 0 0) 0 || is_safe op k (memory (get_or path 0 0))) && unsafe_from 1
  by_top want some = ap (λ (pages : List ℕ). rightly_kept op k memory pages want) (next_cell path depth 0 long some)

  -- the top page is page 0 or safe: it is the others that count
  pub kept_top : (want : ℕ) → 0 < depth → eqb (get_or path 0 0) 0 || is_safe op k (memory (get_or path 0 0)) ≡ true
      → rightly_kept op k memory (take depth path) want ≡ unsafe_from 1
  kept_top want some t = by_top want some ∙ ap (λ (b : Bool). b && unsafe_from 1) t

  -- it is neither
  pub kept_stops_top : (want : ℕ) → 0 < depth → eqb (get_or path 0 0) 0 || is_safe op k (memory (get_or path 0 0)) ≡ false
      → false ≡ rightly_kept op k memory (take depth path) want
  kept_stops_top want some f = sym (by_top want some ∙ ap (λ (b : Bool). b && unsafe_from 1) f)

-- where the top page is page 0 or safe it is the others that count
pub kept_by : (op : Op) (k : ℕ) (memory : ℕ → Page) (pages : List ℕ) (want : ℕ) → 1 ≤ length pages
    → eqb (get_or pages 0 0) 0 || is_safe op k (memory (get_or pages 0 0)) ≡ true
    → rightly_kept op k memory pages want ≡ all (unsafe op k memory) (drop 1 pages)
kept_by op k memory [] want some t = absurd (not-suc-le-zero some)
kept_by op k memory (top ∷ below) want some t = ap (λ (b : Bool). b && all (unsafe op k memory) below) t

-- ---- levels beside the path

-- there are more siblings than pages on the path
pub too_many : (memory : ℕ → Page) (up siblings : List ℕ) → length up < length siblings → same_levels memory up siblings ≡ false
unfolding same_levels
too_many memory up [] h = absurd (not-suc-le-zero h)
too_many memory [] (s ∷ siblings) h = refl
too_many memory (p ∷ up) (s ∷ siblings) h =
    and_second_fails (eqb (memory p).level (memory s).level) (too_many memory up siblings (le_of_suc-le-suc h))

-- each sibling has a page beside it: the pairs tell
pub levels_listed : (memory : ℕ → Page) (up siblings : List ℕ) → length siblings ≤ length up
    → list_all (λ (e : ℕ × ℕ). eqb (memory e.0).level (memory e.1).level) (zip up siblings) ≡ same_levels memory up siblings
unfolding same_levels
levels_listed memory [] [] h = refl
levels_listed memory [] (s ∷ siblings) h = absurd (not-suc-le-zero h)
levels_listed memory (p ∷ up) [] h = refl
levels_listed memory (p ∷ up) (s ∷ siblings) h =
    ap (λ (b : Bool). eqb (memory p).level (memory s).level && b) (levels_listed memory up siblings (le_of_suc-le-suc h))

-- a page of a path and one beside it
pub held_beside : {k n : ℕ} {ws : List ℕ} (path siblings : List ℕ) → Held k n ws (path ++ siblings) → (i : ℕ) → i < length (zip (reverse path) siblings)
    → (e : ℕ × ℕ) → e ≡ get_or (zip (reverse path) siblings) i e → Held k n ws (e.0 ∷ e.1 ∷ [])
held_beside path siblings held i h e at =
    let pairs = length-zip (reverse path) siblings in
    let up : i < length (reverse path) = omega arith in
    let side : i < length siblings = omega arith in
    let both = at ∙ get_or-zip (reverse path) siblings i e up side in
    held_two held e.0 e.1
    (member_append e.0 path siblings
    ∙ or_first (member e.0 siblings) (member_turned e.0 path (member_from e.0 (reverse path) i e.0 up (sym (ap (λ (f : ℕ × ℕ). f.0) both)))))
    (member_append e.1 path siblings ∙ or_second (member e.1 path) (member_from e.1 siblings i e.1 side (sym (ap (λ (f : ℕ × ℕ). f.1) both))))

-- ---- a deletion at its leaf

-- a path that ends in a leaf has a page
path_some : (memory : ℕ → Page) (path : List ℕ) → at_its_leaf memory (reverse path) ≡ true → 1 ≤ length path
path_some memory [] e = absurd (false≢true e)
path_some memory (p ∷ path) e = omega arith

pub leaf_some : (memory : ℕ → Page) (path : List ℕ) (depth : ℕ) → at_its_leaf memory (reverse (take depth path)) ≡ true → 1 ≤ depth
leaf_some memory path zero e = absurd (false≢true e)
leaf_some memory path (suc depth) e = omega arith

-- what the search for the next sibling asks, of the pages of a deletion that stands at its leaf
pub beside_needing : {k n : ℕ} {ws : List ℕ} (x : ℕ) (path siblings : List ℕ) (want : ℕ) → length path ≤ path_holds → length siblings ≤ path_holds
    → Held k n ws (path ++ siblings ++ want ∷ [])
    → descends (page_at k ws) x path ≡ true
    → at_its_leaf (page_at k ws) (reverse path) ≡ true
    → Needing k n ws path siblings
beside_needing {k} {n} {ws} x path siblings want deep few held down leaf =
    record {
      some = path_some (page_at k ws) path leaf;
      deep = deep;
      few = few;
      held = held_front (path ++ siblings) (want ∷ []) held;
      descends = descends_levels (page_at k ws) x path down;
    }

-- what it finds is told by the first cells of the path's array
pub needs_taken : (k : ℕ) (memory : ℕ → Page) (x : ℕ) (cells : List ℕ) (depth : ℕ) {path siblings beside : List ℕ} → 1 ≤ depth → depth ≤ length cells
    → path ≡ take depth cells → siblings ≡ beside
    → needs k memory x (leaf_of (length path) path) (fathers_of (length path) path) siblings ≡ needs k memory x (leaf_of depth cells) (fathers_of depth cells) beside
needs_taken k memory x cells depth {beside = beside} some long e f =
    ap₂ (λ (pages taken : List ℕ). needs k memory x (leaf_of (length pages) pages) (fathers_of (length pages) pages) taken) e f
    ∙ ap₂ (λ (leaf : ℕ) (fathers : List ℕ). needs k memory x leaf fathers beside) (leaf_taken depth cells some long) (fathers_taken depth cells long)

-- the siblings' cells with the wanted page behind them
pub beside_added : (siblings : List ℕ) (beside want : ℕ) {wider : List ℕ} → beside ≤ length siblings
    → wider ≡ padded path_holds (take beside siblings ++ want ∷ [])
    → take (beside + 1) wider ≡ take beside siblings ++ want ∷ []
unfolding filled
beside_added siblings beside want long e =
    let more : List ℕ = take beside siblings ++ want ∷ [] in
    ap (take (beside + 1)) e
    ∙ take_at more (replicate (path_holds - length more) 0) (beside + 1) (sym (length_add siblings beside want long))

-- they are held
pub beside_held : {k n : ℕ} {ws : List ℕ} (pages siblings : List ℕ) (want : ℕ) {taken : List ℕ} → taken ≡ siblings ++ want ∷ []
    → Held k n ws (pages ++ siblings ++ want ∷ [])
    → Held k n ws (pages ++ taken)
beside_held {k} {n} {ws} pages siblings want e held =
    subst (Held k n ws) (append_assoc pages siblings (want ∷ []) ∙ ap (λ (l : List ℕ). pages ++ l) (sym e)) held

-- what was read under a key tells whether it is there
pub looked_has : (x : ℕ) (es : List Entry) {lot : Option ℕ} → lot ≡ looked x es → is_some lot ≡ has x es
looked_has x es e = ap is_some e ∙ by_test (has x es) (information x es)
  where
    by_test : (b : Bool) (v : ℕ) → is_some (cond b (Some v) None) ≡ b
    by_test true v = refl
    by_test false v = refl

-- a deletion that does not go by the second way takes siblings
pub takes_siblings : (x : ℕ) (way : Way) → is_second (Delete x way) ≡ false → is_delete (Delete x way) ≡ true
takes_siblings x First f = refl
takes_siblings x Second f = not_both refl f
takes_siblings x Third f = refl

-- The rule for a deletion of x that takes siblings and stands at its leaf, a test at a time.
module _ (k : ℕ) (ws path : List ℕ) (depth : ℕ) (siblings : List ℕ) (beside : ℕ) (some : 1 ≤ depth) (long : depth ≤ length path)
    (locks sidelocks : List Under) (want : ℕ) (lock : Lock) {op : Op} {x : ℕ} {way : Way} (deletes : op ≡ Delete x way) (takes : is_second (Delete x way) ≡ false) where
  abbrev memory : ℕ → Page
  memory = page_at k ws

  abbrev z : Stand
  z = stand op (take depth path) locks (take beside siblings) sidelocks want lock

  abbrev answer : Bool
  answer = rightly_beside k memory z (reverse (take depth path))

  abbrev there : Bool
  there = has x (memory (leaf_of depth path)).entries

  abbrev next : Need
  next = needs k memory x (leaf_of depth path) (fathers_of depth path) (take beside siblings)

  abbrev levelled : Bool
  levelled = same_levels memory (reverse (take depth path)) (take beside siblings ++ want ∷ [])

  by_leaf : answer ≡ there && is_sibling next want && levelled
  by_leaf =
      let turned = last_first path depth long some in
      ap₂ (λ (o : Op) (up : List ℕ). rightly_beside k memory (with_op o z) up) deletes turned
      ∙ ap (λ (b : Bool). b && there && is_sibling next want && same_levels memory (leaf_of depth path ∷ fathers_of depth path) (take beside siblings ++ want ∷ []))
      (takes_siblings x way takes)
      ∙ ap (λ (up : List ℕ). there && is_sibling next want && same_levels memory up (take beside siblings ++ want ∷ [])) (sym turned)

  -- the key is not there
  pub beside_missing : {lot : Option ℕ} → lot ≡ looked x (memory (leaf_of depth path)).entries → is_some lot ≡ false → false ≡ answer
  beside_missing e f = sym (by_leaf ∙ ap (λ (b : Bool). b && is_sibling next want && levelled) (sym (looked_has x _ e) ∙ f))

  module _ {need : Need} (needed : need ≡ next) where
    -- what is needed is not the wanted page
    pub beside_other : is_sibling need want ≡ false → false ≡ answer
    beside_other f =
        sym (by_leaf ∙ and_first_fails levelled (and_second_fails there (ap (λ (d : Need). is_sibling d want) (sym needed) ∙ f)))

    -- it is: the levels tell
    pub beside_levels : {lot : Option ℕ} {taken : List ℕ} {r : Bool} → lot ≡ looked x (memory (leaf_of depth path)).entries → is_some lot ≡ true
        → is_sibling need want ≡ true
        → r ≡ same_levels memory (reverse (take depth path)) taken
        → taken ≡ take beside siblings ++ want ∷ []
        → r ≡ answer
    beside_levels e t w s added =
        s
        ∙ ap (same_levels memory (reverse (take depth path))) added
        ∙ sym
        (by_leaf
        ∙ ap (λ (b : Bool). b && levelled)
        (and_both (sym (looked_has x _ e) ∙ t) (ap (λ (d : Need). is_sibling d want) (sym needed) ∙ w)))
