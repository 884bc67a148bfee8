-- What a granted step by the third way comes to: it takes a page, converts one, is answered at its leaf, or makes its change after the last
-- conversion. Read off the rule, and off where the slot stands.
use Prim.Native.Nat.{ℕ, ◌≤◌, ◌<◌}
use mathlib.Core.Bool.{Bool, true, false, not, ◌&&◌, ◌||◌}
use mathlib.Core.List.{List, [], ◌∷◌, ◌++◌, map, reverse}
use mathlib.Core.Logic.{inl, inr, ⊎_elim}
use mathlib.Core.Path.{◌≡◌, refl, sym, ap, ◌∙◌, subst}
use native.Mathlib.Omega.{arith}
use borrow.Author.Tests.{eqb-true, leb-true}
use lib.Dec.{leb, eqb, ltb}
use lib.ListN.{length, get_or, length-append}
use Rattle.ground.specs.Limits.{path_holds, regrade_holds, word_range}
use Rattle.ground.specs.Tests.{member}
use Rattle.ground.proofs.Bools.{not_both, and_both, and_first, and_second, and_fails, not_of_false, not_of_true}
use Rattle.ground.proofs.Choice.{by_test, cond_ind, cond-true, cond-false}
use Rattle.ground.proofs.Tests.{member_here}
use Rattle.page.specs.Words.{Page, is_leaf}
use Rattle.page.specs.Place.{has, information}
use Rattle.pool.specs.Pool.{Write, page_at, free_pages}
use Rattle.change.specs.Insertion.{room}
use Rattle.change.specs.Deletion.{Need, nothing, sibling, astray, needs, deletion}
use Rattle.slots.specs.declared.Op.{Op}
use Rattle.slots.specs.declared.Op.TheVariants.{Search, Insert, Delete, Next, Regrade}
use Rattle.slots.specs.declared.Way.TheVariants.{First, Second, Third}
use Rattle.slots.specs.declared.Lock.{Lock}
use Rattle.slots.specs.declared.Lock.TheVariants.{None, Xi, Alpha}
use Rattle.slots.specs.declared.Under.{Under}
use Rattle.slots.specs.declared.Task.TheVariants.{Open}
use Rattle.slots.specs.declared.Answer.{Answer}
use Rattle.slots.specs.declared.Answer.TheVariants.{Deleted}
use Rattle.slots.specs.Parts.{key_of, is_next, is_second, is_third, goes_beside, held_lock, under, Stand, converting, on_pages, want_beside, want_converted}
use Rattle.slots.specs.Locks.{same_lock}
use Rattle.slots.specs.Sound.{within_limits}
use Rattle.slots.proofs.LockLaws.{third_alpha, third_not_second, alpha_not_xi}
use Rattle.footing.specs.Granted.{Verdict, broken, goes, ends, is_safe, kept, kept_locks, by_need, deletes, answered_at_once, stays_second, is_nothing, is_none, needs_no_more, change_known, in_turn, pages_in_turn, unconverted, to_convert, by_turn, converted_first, at_leaf, from_leaf, by_way_at_leaf, comes_down, besides, converts, at_its_leaf, granted}
use Rattle.footing.specs.Fitting.{sound_for_step, verdict}
use Rattle.tree.specs.Tree.{Tr}
use Rattle.runs.specs.Stance.{held_due, HoldsWith, Locked, Converting, Stance, Gathers, Converts}
use Rattle.runs.specs.Step.{Scene, Comes, moves, stops}
use Rattle.runs.specs.Counts.{answered_so}
use Rattle.runs.proofs.Placing.{well_held, gathers_new}
use Rattle.runs.proofs.Locking.{due_held, due_plain, plain_holds, kept_plain}
use Rattle.runs.proofs.Turns.{turn_first}
use Rattle.runs.proofs.Turning.{Ordered, due_done, made_none, made_next}
use Rattle.runs.proofs.Measure.{lowest_of, converted, Turned, Where, at_start, on_the_way, at_the_leaf, in_turns, converted_done, gathers_none, where_it_stands, where_turned}
use Rattle.runs.proofs.MeasureLaws.{start_above, low_above, low_at_leaf, takes_gathers, takes_converts}
use Rattle.runs.proofs.Stepping.{granted_comes}
use Rattle.runs.proofs.Verdicts.{coming_ends}

-- ---- what is left to convert

-- the kind of the top page
abbrev top_kind : List Under → Lock
top_kind [] = None
top_kind (u ∷ us) = u.lock

map_top : (lock : Lock) (pages : List ℕ) → 1 ≤ length pages → top_kind (map (λ (p : ℕ). under lock) pages) ≡ lock
map_top lock [] h = absurd (omega arith)
map_top lock (p ∷ pages) h = refl

no_turn : (beside : List ℕ) → in_turn 0 [] beside ≡ []
unfolding in_turn
no_turn beside = refl

-- where the top page has α, there is something to convert
some_left : (path beside : List ℕ) (locks sidelocks : List Under) → 1 ≤ length path → top_kind locks ≡ Alpha
    → (q : ℕ) × (qs : List ℕ) × (unconverted (in_turn 0 path beside) (in_turn (under None) locks sidelocks) ≡ q ∷ qs)
unfolding in_turn unconverted
some_left [] beside locks sidelocks h alpha = absurd (omega arith)
some_left (p ∷ below) beside [] sidelocks h alpha = (p, _, refl)
some_left (p ∷ below) beside (u ∷ us) sidelocks h alpha = (p, _, cond-false _ _ (ap (λ (l : Lock). same_lock l Xi) alpha))

-- ---- how an operation ends at its leaf

-- it ends only with an answer of this sort
abbrev EndsSo : Bool → Verdict → Type 0
EndsSo so broken = Unit {0}
EndsSo so (goes z) = Unit {0}
EndsSo so (ends answer writes) = answered_so answer ≡ so

-- it does not end
abbrev NoEnd : Verdict → Type 0
NoEnd broken = Unit {0}
NoEnd (goes z) = Unit {0}
NoEnd (ends answer writes) = ⊥

need_on : (y : Stand) (whole : Verdict) (need : Need) → is_nothing need ≡ false → NoEnd (by_need y whole need)
need_on y whole nothing e = not_both refl e
need_on y whole (sibling s) e = tt
need_on y whole astray e = tt

no_end_so : (so : Bool) (v : Verdict) → NoEnd v → EndsSo so v
no_end_so so broken n = tt
no_end_so so (goes z) n = tt
no_end_so so (ends a writes) n = absurd n

module _ (k : ℕ) (memory : ℕ → Page) (free : List ℕ) (y : Stand) (leaf : ℕ) (fathers : List ℕ) where
  -- the test of `change_known`, by operation
  abbrev known : Op → Bool
  known op = not (answered_at_once op (memory leaf).entries) && needs_no_more op k memory y.beside leaf fathers

  need_so : (i : ℕ) (writes : List Write) (need : Need) → EndsSo false (by_need y (ends (Deleted i) writes) need)
  unfolding member
  need_so i writes nothing = refl
  need_so i writes (sibling s) = tt
  need_so i writes astray = tt

  -- where its change is not known, and it holds nothing beside its path, it is answered so, or goes on
  leaf_answers : (op : Op) → is_third op ≡ true → y.beside ≡ [] → known op ≡ false → EndsSo true (at_leaf op k memory free y leaf fathers)
  unfolding at_leaf deletes member
  leaf_answers (Search x) third none unknown = not_both third refl
  leaf_answers (Insert x v way) third none unknown =
      cond_ind (EndsSo true) (has x (memory leaf).entries)
      (λ _. refl)
      (λ missing. not_both (and_both (not_of_false missing) (ap is_none none)) unknown)
  leaf_answers (Delete x way) third none unknown =
      cond_ind (EndsSo true) (has x (memory leaf).entries)
      (λ there.
      no_end_so true (deletes k memory x y leaf fathers)
      (need_on y (ends (Deleted (information x (memory leaf).entries)) (deletion k memory x leaf fathers y.beside)) (needs k memory x leaf fathers y.beside)
      (⊎_elim (λ f. not_both (not_of_false (not_of_true there)) f) (λ f. f) (and_fails _ _ unknown))))
      (λ _. refl)
  leaf_answers (Next x) third none unknown = not_both third refl
  leaf_answers (Regrade x v way) third none unknown =
      cond_ind (EndsSo true) (has x (memory leaf).entries)
      (λ there. not_both (and_both (not_of_false (not_of_true there)) (ap is_none none)) unknown)
      (λ _. refl)

  -- where it is known, the change is made, or there is no room
  leaf_changes : (op : Op) → is_third op ≡ true → known op ≡ true → EndsSo false (at_leaf op k memory free y leaf fathers)
  unfolding at_leaf deletes member
  leaf_changes (Search x) third is_Known = not_both third refl
  leaf_changes (Insert x v way) third is_Known =
      cond_ind (EndsSo false) (has x (memory leaf).entries)
      (λ there. not_both (and_first (not (has x (memory leaf).entries)) (is_none y.beside) is_Known) (not_of_true there))
      (λ _. cond_ind (EndsSo false) (ltb (length free) (room k memory leaf y.path)) (λ _. refl) (λ _. refl))
  leaf_changes (Delete x way) third is_Known =
      cond_ind (EndsSo false) (has x (memory leaf).entries)
      (λ _. need_so (information x (memory leaf).entries) (deletion k memory x leaf fathers y.beside) (needs k memory x leaf fathers y.beside))
      (λ missing. not_both (and_first (not (not (has x (memory leaf).entries))) (is_nothing (needs k memory x leaf fathers y.beside)) is_Known) (not_of_true (not_of_false missing)))
  leaf_changes (Next x) third is_Known = not_both third refl
  leaf_changes (Regrade x v way) third is_Known =
      cond_ind (EndsSo false) (has x (memory leaf).entries)
      (λ _. refl)
      (λ missing. not_both (and_first (not (not (has x (memory leaf).entries))) (is_none y.beside) is_Known) (not_of_true (not_of_false missing)))

-- What holds of every verdict that goes on, and of what is done where the change is not known, holds of who has something to convert.
first_by : (P : Verdict → Type 0) (k : ℕ) (memory : ℕ → Page) (y : Stand) (leaf : ℕ) (fathers : List ℕ) (act : Verdict) → ((x : Stand) → P (goes x))
    → is_third y.op ≡ true → 1 ≤ length y.path → top_kind y.locks ≡ Alpha → (change_known k memory y leaf fathers ≡ false → P act)
    → P (converted_first k memory y leaf fathers act)
first_by P k memory y leaf fathers act further third some alpha otherwise =
    let (q, qs, left) = some_left y.path y.beside y.locks y.sidelocks some alpha in
    cond_ind P (is_third y.op && change_known k memory y leaf fathers)
    (λ _. subst (λ (ps : List ℕ). P (by_turn y act ps)) (sym left) (further _))
    (λ no. otherwise (⊎_elim (λ f. not_both third f) (λ f. f) (and_fails (is_third y.op) (change_known k memory y leaf fathers) no)))

-- by the pages of a path, upward
from_leaf_lem : (P : Verdict → Type 0) (act : ℕ → List ℕ → Verdict) (up : List ℕ) → P broken
    → ((leaf : ℕ) (fathers : List ℕ) → up ≡ leaf ∷ fathers → P (act leaf fathers)) → P (from_leaf act up)
from_leaf_lem P act [] b f = b
from_leaf_lem P act (leaf ∷ fathers) b f = f leaf fathers refl

-- ---- the top page, and the limits

append_top : (lock : Lock) (pages : List ℕ) → top_kind (map (λ (p : ℕ). under lock) pages ++ under lock ∷ []) ≡ lock
append_top lock [] = refl
append_top lock (p ∷ pages) = refl

-- where the top page has α, nothing is converted: it would be the first
top_first : (y : Stand) (o : Ordered y) → is_third y.op ≡ true → HoldsWith y → (done rest : List ℕ) → pages_in_turn y ≡ done ++ y.want ∷ rest
    → top_kind y.locks ≡ Alpha → done ≡ []
top_first y o third holds [] rest turns alpha = refl
top_first y o third holds (p ∷ done) rest turns alpha =
    by_path y.path refl
  where
    by_path : (path : List ℕ) → y.path ≡ path → p ∷ done ≡ []
    by_path [] e =
        let none : length (p ∷ done ++ y.want ∷ rest) ≡ 0 = ap length (sym turns ∙ ap (λ (ps : List ℕ). in_turn 0 ps y.beside) e ∙ no_turn y.beside) in
        absurd (omega arith)
    by_path (top ∷ below) e =
        let first : top ≡ p
        = ap (λ (ps : List ℕ). get_or ps 0 0) (sym (turn_first top below y.beside) ∙ ap (λ (ps : List ℕ). in_turn 0 ps y.beside) (sym e) ∙ turns) in
        let xi : held_due y p ≡ Xi = due_done y o third holds (p ∷ done) rest turns p (member_here p done) in
        let kind : top_kind y.locks ≡ held_due y top = ap top_kind (holds.path ∙ ap (map (λ (q : ℕ). under (held_due y q))) e) in
        absurd (alpha_not_xi (sym alpha ∙ kind ∙ ap (held_due y) first ∙ xi))

-- who goes straight down holds nothing beside its path
no_beside : (op : Op) (depth beside : ℕ) → is_third op ≡ true → goes_beside op ≡ false → within_limits (Open op) depth beside ≡ true → beside ≡ 0
no_beside (Search x) depth beside third so h = not_both third refl
no_beside (Insert x v First) depth beside third so h = not_both third refl
no_beside (Insert x v Second) depth beside third so h = not_both third refl
no_beside (Insert x v Third) depth beside third so h = omega (arith, leb-true beside 0 (and_second (leb depth path_holds) (leb beside 0) (and_first _ (eqb beside 0 || ltb beside depth) h)))
no_beside (Delete x First) depth beside third so h = not_both third refl
no_beside (Delete x Second) depth beside third so h = not_both third refl
no_beside (Delete x Third) depth beside third so h = not_both refl so
no_beside (Next x) depth beside third so h = not_both third refl
no_beside (Regrade x v First) depth beside third so h = not_both third refl
no_beside (Regrade x v Second) depth beside third so h = not_both third refl
no_beside (Regrade x v Third) depth beside third so h = omega (arith, leb-true beside 0 (and_second (leb depth regrade_holds) (leb beside 0) (and_first _ (eqb beside 0 || ltb beside depth) h)))

one_on_path : (x v depth beside : ℕ) → within_limits (Open (Regrade x v Third)) depth beside ≡ true → depth ≤ 1
unfolding regrade_holds
one_on_path x v depth beside h = leb-true depth 1 (and_first (leb depth 1) (leb beside 0) (and_first _ (eqb beside 0 || ltb beside depth) h))

-- ---- the step, by cases

-- It takes a page, and has converted nothing; it converts one; it is answered at its leaf; or it makes its change after the last conversion.
pub data ThirdStep (k n : ℕ) (ws : List ℕ) (l : ℕ) (t : Tr l) (z : Stand) : Type 0 where
  takes : (z' : Stand) → verdict k n ws z ≡ goes z' → converting z ≡ false → z'.op ≡ z.op → HoldsWith z' → Gathers k (page_at k ws) z z' → converted z' ≡ 0
      → ThirdStep k n ws l t z
  turns : (z' : Stand) → verdict k n ws z ≡ goes z' → Turned z → HoldsWith z' → Converts z z' → ThirdStep k n ws l t z
  answers : (a : Answer) (writes : List Write) → verdict k n ws z ≡ ends a writes → converting z ≡ false → at_its_leaf (page_at k ws) (reverse z.path) ≡ false
      → z.beside ≡ [] → (page_at k ws z.want).level ≡ 1 → answered_so a ≡ true → ThirdStep k n ws l t z
  changes : (a : Answer) (writes : List Write) → verdict k n ws z ≡ ends a writes → (o : Turned z) → o.rest ≡ [] → answered_so a ≡ false → ThirdStep k n ws l t z

-- ---- where it stands

module _ (k n : ℕ) (ws : List ℕ) (l : ℕ) (t : Tr l) (z : Stand) (scene : Scene k n ws l t z) (third : is_third z.op ≡ true) where
  abbrev memory : ℕ → Page
  memory = page_at k ws

  abbrev free : List ℕ
  free = free_pages k n ws

  -- while it gathers it holds every page with α, and wants one with α
  module _ (new : converting z ≡ false) where
    abbrev all_alpha : List ℕ → List Under
    all_alpha pages = map (λ (p : ℕ). under (held_lock z.op)) pages

    plain_locks : z.locks ≡ all_alpha z.path
    plain_locks = (plain_holds z (λ p. due_plain z p new) scene.locked.holds).0

    plain_want : z.lock ≡ held_lock z.op
    plain_want = scene.locked.wants new ∙ due_held z.op memory (reverse z.path) (third_not_second z.op third)

    all_top : (pages : List ℕ) → 1 ≤ length pages → top_kind (all_alpha pages) ≡ Alpha
    all_top pages some = map_top (held_lock z.op) pages some ∙ third_alpha z.op third

    kept_some : 1 ≤ length (kept k memory z)
    kept_some = cond_ind (λ (ps : List ℕ). 1 ≤ length ps) (is_safe z.op k (memory z.want)) (λ _. omega arith) (λ _. omega (arith, length-append z.path (z.want ∷ [])))

    kept_top : top_kind (kept_locks k memory z) ≡ Alpha
    kept_top = ap top_kind (kept_plain k memory z plain_locks plain_want) ∙ all_top (kept k memory z) kept_some

    -- coming down it ends only with such an answer
    coming_so : at_its_leaf memory (reverse z.path) ≡ false → EndsSo true (verdict k n ws z)
    unfolding verdict granted comes_down
    coming_so above =
        let P : Verdict → Type 0 = EndsSo true in
        let down : Stand = on_pages z (kept k memory z) (kept_locks k memory z) [] [] in
        cond_ind P (sound_for_step k n ws z)
        (λ _. subst P (sym (cond-false (converts k memory free z) _ new ∙ cond-false (besides k memory z) (comes_down k memory free z) above))
        (cond_ind P (is_leaf (memory z.want))
        (λ _. from_leaf_lem P (by_way_at_leaf k memory free down) (reverse down.path) tt
        (λ leaf fathers _. cond_ind P (is_second z.op && not (stays_second z.op k memory leaf))
        (λ _. tt)
        (λ _. first_by P k memory down leaf fathers (at_leaf z.op k memory free down leaf fathers) (λ _. tt) third kept_some kept_top
        (leaf_answers k memory free down leaf fathers z.op third refl))))
        (λ _. tt)))
        (λ _. tt)

    -- with a page beside its path it goes on: its key is there
    beside_on : at_its_leaf memory (reverse z.path) ≡ true → 1 ≤ length z.path → is_next z.op ≡ false
        → has (key_of z.op) (memory (lowest_of z.path)).entries ≡ true → goes_beside z.op ≡ true → NoEnd (verdict k n ws z)
    unfolding verdict granted besides deletes
    beside_on at some other there beside =
        cond_ind NoEnd (sound_for_step k n ws z)
        (λ _. subst NoEnd (sym (cond-false (converts k memory free z) _ new ∙ cond-true (besides k memory z) (comes_down k memory free z) at ∙ cond-false _ _ other))
        (from_leaf_lem NoEnd _ (reverse z.path) tt
        (λ leaf fathers up.
        first_by NoEnd k memory (want_beside z) leaf fathers (deletes k memory (key_of z.op) (want_beside z) leaf fathers) (λ _. tt) third some
        (ap top_kind plain_locks ∙ all_top z.path some)
        (λ unknown. need_on (want_beside z) _ (needs k memory (key_of z.op) leaf fathers (z.beside ++ z.want ∷ []))
        (no_more z.op leaf fathers third beside (ap (λ (p : List ℕ). has (key_of z.op) (memory (get_or p 0 0)).entries) (sym up) ∙ there) unknown)))))
        (λ _. tt)
      where
        no_more : (op : Op) (leaf : ℕ) (fathers : List ℕ) → is_third op ≡ true → goes_beside op ≡ true → has (key_of op) (memory leaf).entries ≡ true
            → not (answered_at_once op (memory leaf).entries) && needs_no_more op k memory (z.beside ++ z.want ∷ []) leaf fathers ≡ false
            → is_nothing (needs k memory (key_of op) leaf fathers (z.beside ++ z.want ∷ [])) ≡ false
        no_more (Search x) leaf fathers is so h unknown = not_both is refl
        no_more (Insert x v way) leaf fathers is so h unknown = not_both so refl
        no_more (Delete x way) leaf fathers is so h unknown =
            ⊎_elim (λ f. not_both (not_of_false (not_of_true h)) f) (λ f. f) (and_fails _ _ unknown)
        no_more (Next x) leaf fathers is so h unknown = not_both is refl
        no_more (Regrade x v way) leaf fathers is so h unknown = not_both so refl

    -- the top page has α still once a page is taken
    gathers_top : (z' : Stand) → Gathers k memory z z' → top_kind z'.locks ≡ Alpha
    gathers_top z' (inl g) = ap top_kind g.locks ∙ plain_want ∙ third_alpha z.op third
    gathers_top z' (inr (inl g)) =
        ap top_kind g.locks
        ∙ ap (λ (us : List Under). top_kind (us ++ under z.lock ∷ [])) plain_locks
        ∙ ap (λ (lock : Lock). top_kind (all_alpha z.path ++ under lock ∷ [])) plain_want
        ∙ append_top (held_lock z.op) z.path
        ∙ third_alpha z.op third
    gathers_top z' (inr (inr (inl g))) = ap top_kind g.locks ∙ ap top_kind plain_locks ∙ all_top z.path g.at_leaf.0
    gathers_top z' (inr (inr (inr g))) = not_both g.second (third_not_second z.op third)

    gathers_same : (z' : Stand) → Gathers k memory z z' → z'.op ≡ z.op
    gathers_same z' (inl g) = g.same
    gathers_same z' (inr (inl g)) = g.same
    gathers_same z' (inr (inr (inl g))) = g.same
    gathers_same z' (inr (inr (inr g))) = not_both g.second (third_not_second z.op third)

    -- and so nothing is converted yet
    gathers_plain : (z' : Stand) → Stance k memory l t z' → Locked memory z' → Gathers k memory z z' → converted z' ≡ 0
    gathers_plain z' stance locked gathers = by_where (where_it_stands k n ws l t z' scene')
      where
        scene' : Scene k n ws l t z'
        scene' = record {
          k_least = scene.k_least;
          k_most = scene.k_most;
          n_most = scene.n_most;
          key = subst (λ (op : Op). key_of op < word_range) (sym (gathers_same z' gathers)) scene.key;
          forms = scene.forms;
          no_blank = scene.no_blank;
          stance = stance;
          locked = locked;
        }

        by_where : Where memory l t z' → converted z' ≡ 0
        by_where (at_start new' e f g) = gathers_none z' new'
        by_where (on_the_way new' low w e g) = gathers_none z' new'
        by_where (at_the_leaf new' w f d there) = gathers_none z' new'
        by_where (in_turns w o) = converted_done z' o ∙ ap length (top_first z' o.ordered o.third locked.holds o.done o.rest o.turns (gathers_top z' gathers))

  -- ---- a conversion

  module _ (c : Converting k memory l t z) (o : Ordered z) (held : converting z ≡ true) where
    abbrev made : Stand
    made = want_converted z

    abbrev act : Verdict
    act = at_leaf z.op k memory free made c.leaf c.fathers

    turn_by : (P : Verdict → Type 0) → P broken → P (by_turn made act (to_convert made)) → P (verdict k n ws z)
    unfolding verdict granted converts
    turn_by P b h =
        cond_ind P (sound_for_step k n ws z)
        (λ _. subst P
        (sym
        (cond-true (converts k memory free z) _ held
        ∙ ap (from_leaf (λ (leaf : ℕ) (fathers : List ℕ). converted_first k memory made leaf fathers (at_leaf z.op k memory free made leaf fathers))) c.upward
        ∙ cond-true (by_turn made act (to_convert made)) act (and_both third c.known)))
        h)
        (λ _. b)

    -- it ends after the last one, and then the change is made
    turn_ends : (rest : List ℕ) → c.rest ≡ rest → (a : Answer) (writes : List Write) → verdict k n ws z ≡ ends a writes → (rest ≡ []) × (answered_so a ≡ false)
    turn_ends [] e a writes v = (
      refl,
      subst (EndsSo false) v
          (turn_by (EndsSo false) tt
          (subst (λ (ps : List ℕ). EndsSo false (by_turn made act ps))
          (sym (made_none z o third scene.locked.holds c.done c.rest c.turns e))
          (leaf_changes k memory free made c.leaf c.fathers z.op third c.known))),
    )
    turn_ends (q ∷ more) e a writes v =
        absurd
        (subst NoEnd v
        (turn_by NoEnd tt
        (subst (λ (ps : List ℕ). NoEnd (by_turn made act ps)) (sym (made_next z o third scene.locked.holds c.done c.rest c.turns q more e)) tt)))

  -- ---- the step

  by_comes : Comes k n ws l t z → Where memory l t z → ThirdStep k n ws l t z
  by_comes (moves z' e same stance locked takes') at =
      by_test (converting z)
      (λ held. turns z' e (where_turned memory l t z at held) locked.holds (takes_converts k memory z z' held takes'))
      (λ new.
      let gathers = takes_gathers k memory z z' new takes' in
      takes z' e new (gathers_same new z' gathers) locked.holds gathers (gathers_plain new z' stance locked gathers))
  by_comes (stops a writes e ended) (at_start new p q level) =
      let above = start_above memory l t z.path p in
      answers a writes e new above q (eqb-true (memory z.want).level 1 (coming_ends k n ws z above a writes e)) (subst (EndsSo true) e (coming_so new above))
  by_comes (stops a writes e ended) (on_the_way new low w p level) =
      let above = low_above memory l t z.path low w in
      answers a writes e new above p (eqb-true (memory z.want).level 1 (coming_ends k n ws z above a writes e)) (subst (EndsSo true) e (coming_so new above))
  by_comes (stops a writes e ended) (at_the_leaf new w f d there) =
      absurd (subst NoEnd e (beside_on new (low_at_leaf memory l t z.path w) w.some (there third).0 (there third).1 d))
  by_comes (stops a writes e ended) (in_turns w o) = by_stance scene.stance
    where
      by_stance : Stance k memory l t z → ThirdStep k n ws l t z
      by_stance (inl g) = not_both o.held (gathers_new k n ws l t z scene g)
      by_stance (inr c) =
          let last = turn_ends c o.ordered o.held c.rest refl a writes e in
          changes a writes e
          (record { third = third; ordered = o.ordered; fewer = o.fewer; held = o.held; done = c.done; rest = c.rest; turns = c.turns })
          last.0 last.1

  pub third_step : ThirdStep k n ws l t z
  third_step = by_comes (granted_comes k n ws l t z scene) (where_it_stands k n ws l t z scene)

  -- ---- what it holds

  pub third_straight : goes_beside z.op ≡ false → length z.beside ≡ 0
  third_straight so = no_beside z.op (length z.path) (length z.beside) third so (well_held k n ws l t z scene).limits

  pub third_alone : (x v : ℕ) → z.op ≡ Regrade x v Third → length z.path ≤ 1
  third_alone x v is =
      one_on_path x v (length z.path) (length z.beside)
      (subst (λ (op : Op). within_limits (Open op) (length z.path) (length z.beside) ≡ true) is (well_held k n ws l t z scene).limits)
