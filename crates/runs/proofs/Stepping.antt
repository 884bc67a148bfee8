-- A granted step of a slot that stands as it should: its pages are sound for the step, and it goes on and stands as it should
-- again, or its operation ends. It is never broken.
use Prim.Native.Nat.{ℕ, zero, suc, ◌+◌, ◌≤◌, ◌<◌}
use mathlib.Core.Bool.{Bool, true, false, not, ◌&&◌, ◌||◌, or-false, true≢false, false≢true}
use mathlib.Core.List.{List, [], ◌∷◌, ◌++◌, map, reverse, append-nil, append_assoc}
use mathlib.Core.Logic.{◌⊎◌, inl, inr, ⊎_elim, ◌≢◌}
use mathlib.Core.Path.{◌≡◌, refl, sym, ap, ◌∙◌, subst}
use native.Mathlib.Nat.{le_of_suc-le-suc}
use native.Mathlib.Omega.{arith}
use borrow.Author.Tests.{ltb-true, ltb-false, eq-eqb, eqb-true, eqb-false, not-true, not-false}
use lib.Dec.{ltb, eqb}
use lib.ListN.{length, get_or, length-append, length-reverse, get_or-append}
use lib.Seq.{get_or_at}
use Rattle.ground.specs.Limits.{word_range}
use Rattle.ground.specs.Tests.{member, distinct}
use Rattle.ground.proofs.Tests.{all_from_members, member_one, member_none, member_here, member_cases, member_append, member_first, member_wider, member_behind, member_last, distinct_none, distinct_snoc}
use Rattle.ground.proofs.Bools.{not_both, false_if_not_true, and_both, and_first, and_second, or_first, or_second, or_cases, or_first_fails, or_second_fails, not_of_true, not_of_false}
use Rattle.ground.proofs.Choice.{cond_ind, cond-true, cond-false}
use Rattle.page.specs.Words.{Page, μ, is_leaf}
use Rattle.page.specs.Place.{route, has}
use Rattle.page.specs.Sound.{sound_by_itself}
use Rattle.page.specs.Short.{neighbour}
use Rattle.pool.specs.Pool.{Write, words_of, page_at, free_pages}
use Rattle.change.specs.Deletion.{Need, nothing, sibling, needs}
use Rattle.slots.specs.declared.Op.{Op}
use Rattle.slots.specs.declared.Op.TheVariants.{Search, Insert, Delete, Next, Regrade}
use Rattle.slots.specs.declared.Way.{Way}
use Rattle.slots.specs.declared.Way.TheVariants.{First, Second, Third}
use Rattle.slots.specs.declared.Lock.{Lock}
use Rattle.slots.specs.declared.Lock.TheVariants.{Rho, Xi, Alpha}
use Rattle.slots.specs.declared.Under.{Under}
use Rattle.slots.specs.declared.Answer.{Answer}
use Rattle.slots.specs.declared.Answer.TheVariants.{NoSuchKey}
use Rattle.slots.specs.Parts.{key_of, only_reads, is_second, is_third, first_way, held_lock, under, Stand, fresh_stand, holding, converting, on_pages, want_beside, want_converted, wants_next, with_op}
use Rattle.slots.specs.Locks.{same_lock}
use Rattle.slots.proofs.OperationLaws.{first_key}
use Rattle.slots.proofs.LockLaws.{first_twice, third_not_second}
use Rattle.footing.specs.Granted.{Verdict, broken, goes, ends, is_safe, lock_below, kept, kept_locks, deletes, again, answered_at_once, stays_second, is_nothing, needs_no_more, change_known, to_convert, by_turn, converted_first, at_leaf, from_leaf, by_way_at_leaf, comes_down, besides, converts, at_its_leaf, granted}
use Rattle.footing.specs.Fitting.{pages_sound, descends, rightly_beside, rightly_across, rightly_converting, same_levels, is_sibling, is_none, is_first, lock_due, fitting_new, fitting, wants_conversion, next_is_new, sound_for_step, verdict}
use Rattle.footing.proofs.KeepLaws.{second_safe, regrade_safe}
use Rattle.tree.specs.Tree.{Tr, Stands, way, Forms, PoolForms}
use Rattle.tree.specs.Facts.{WayFacts}
use Rattle.ground.proofs.Choice.{by_test}
use Rattle.tree.proofs.Search.{way_facts}
use Rattle.tree.proofs.Ways.{place_facts}
use Rattle.tree.proofs.SoundPages.{pool_sound}
use Rattle.runs.specs.Stance.{Rightly, WantsWith, Locked, WantsSibling, Crossing, Converting, Gathering, Stance, StandsAtLeaf, Takes}
use Rattle.runs.specs.Step.{Scene, Writable, Comes, moves, stops}
use Rattle.runs.proofs.Paths.{no_length, none_is, member_reverse}
use Rattle.runs.proofs.Placing.{deletes_beside, converting_leaf, fewer_beside, new_held, well_held, gathers_new, turn_held}
use Rattle.tree.specs.Deletion.{Asked}
use Rattle.runs.proofs.Needing.{AtLeaf, needs_course, rightly_as, leaf_goes, beside_leaf, beside_asked}
use Rattle.runs.proofs.Locking.{due_held, due_above, due_leaf, deletes_first, held_with, due_plain, holds_plain, plain_holds, kept_plain, beside_plain, update_xi, updates_not_next}
use Rattle.runs.proofs.Turning.{Ordered, scene_ordered, in_turn_lem, due_done, turn_test, turn_wanted, made_none, made_next, after_turns, after_own, after_holds, first_turns, first_wanted, first_own, first_holds}
use Rattle.runs.proofs.Granting.{fits_new, Down, Reached, descends_way, rightly_alone, rightly_test, starting_down, coming_down, down_above, down_fitting, down_reached, reached_next, reached_leaf}
use Rattle.runs.proofs.Landing.{Plain, StandsSo, Does, on, done, leaf_is, leaf_has, search_does, insert_does, missing_ends, delete_does, regrade_does}
use Rattle.runs.proofs.NextSteps.{next_does, crossing_leaf, crossing_test, crossing_does}

-- ---- pages in lists

-- what is kept was held or wanted
kept_inside : (k : ℕ) (memory : ℕ → Page) (z : Stand) (q : ℕ) → member q (kept k memory z) ≡ true → member q (z.want ∷ holding z) ≡ true
unfolding member
kept_inside k memory z q =
    cond_ind (λ (ps : List ℕ). member q ps ≡ true → member q (z.want ∷ holding z) ≡ true) (is_safe z.op k (memory z.want))
    (λ y m. or_first (member q (holding z)) (sym (or-false (eqb q z.want)) ∙ m))
    (λ f m. member_wider q z.want z.path z.beside (member_first q z.want z.path m))

-- ---- the levels of siblings

levels_from : (memory : ℕ → Page) (up ss : List ℕ) → length ss ≤ length up
    → ((j : ℕ) → j < length ss → (memory (get_or up j 0)).level ≡ (memory (get_or ss j 0)).level) → same_levels memory up ss ≡ true
unfolding same_levels
levels_from memory up [] h f = refl
levels_from memory [] (s ∷ ss) h f = absurd (omega arith)
levels_from memory (p ∷ up) (s ∷ ss) h f =
    and_both
    (eq-eqb (memory p).level (memory s).level (f 0 (omega arith)))
    (levels_from memory up ss (le_of_suc-le-suc h) (λ j b. f (suc j) (omega arith)))

-- operations that are one by the first way have one key
pub same_key : (op op' : Op) → first_way op ≡ first_way op' → key_of op ≡ key_of op'
same_key op op' e = sym (first_key op) ∙ ap key_of e ∙ first_key op'

-- who does not go by the second way finds pages as safe as by the first
first_safe : (op : Op) (k : ℕ) → is_second op ≡ false → (P : Page) → is_safe (first_way op) k P ≡ is_safe op k P
first_safe (Search x) k e P = refl
first_safe (Insert x v First) k e P = refl
first_safe (Insert x v Second) k e P = not_both refl e
first_safe (Insert x v Third) k e P = refl
first_safe (Delete x First) k e P = refl
first_safe (Delete x Second) k e P = not_both refl e
first_safe (Delete x Third) k e P = refl
first_safe (Next x) k e P = refl
first_safe (Regrade x v First) k e P = refl
first_safe (Regrade x v Second) k e P = refl
first_safe (Regrade x v Third) k e P = refl

-- ---- sound for the step

module _ (k n : ℕ) (ws : List ℕ) (l : ℕ) (t : Tr l) (z : Stand) (scene : Scene k n ws l t z) where
  abbrev memory : ℕ → Page
  memory = page_at k ws

  abbrev free : List ℕ
  free = free_pages k n ws

  abbrev x : ℕ
  x = key_of z.op

  abbrev forms : Forms k n memory l t
  forms = scene.forms.forms

  facts : WayFacts memory x l t
  facts = way_facts k n memory l t forms x scene.key

  -- the pages that it holds and wants are pages of the tree
  pages_test : pages_sound k n ws (holding z ++ z.want ∷ []) ≡ true
  unfolding pages_sound
  pages_test =
      all_from_members (λ (p : ℕ). sound_by_itself k n p (words_of k p ws)) (holding z ++ z.want ∷ [])
      (λ q m.
      pool_sound k n ws l t scene.k_least scene.n_most scene.forms scene.no_blank q
      ((well_held k n ws l t z scene).pages q (member_first q z.want (holding z) m)))

  -- the key of an operation that goes on with it
  next_key : (z' : Stand) → first_way z'.op ≡ first_way z.op → key_of z'.op < word_range
  next_key z' same = subst (λ (y : ℕ). y < word_range) (sym (same_key z'.op z.op same)) scene.key

  -- who gathers wants a page that it does not hold
  next_new : (z' : Stand) → first_way z'.op ≡ first_way z.op → Gathering k memory l t z' → converting z' ≡ false
  next_new z' same g = (new_held k n memory l t z' scene.k_least scene.n_most (next_key z' same) forms g).new

  -- a page that it would want next is none that it would then hold, or is to be converted
  new_test : (z' : Stand) → first_way z'.op ≡ first_way z.op → StandsSo k memory l t z' → next_is_new (goes z') ≡ true
  new_test z' same (inl (g, _, _)) = or_first (wants_conversion z') (not_of_false (next_new z' same g))
  new_test z' same (inr (c, xi, _, _)) =
      or_second (not (member z'.want (holding z'))) (and_both c.third (ap (λ (l : Lock). same_lock l Xi) xi))

  stance_so : (z' : Stand) → StandsSo k memory l t z' → Stance k memory l t z'
  stance_so z' (inl (g, _, _)) = inl g
  stance_so z' (inr (c, _, _, _)) = inr c

  locked_so : (z' : Stand) → first_way z'.op ≡ first_way z.op → StandsSo k memory l t z' → Locked memory z'
  locked_so z' same (inl (g, wants, plain)) =
      let new = next_new z' same g in
      record { wants = λ _. wants; converts = λ y. not_both y new; holds = holds_plain z' (λ p. due_plain z' p new) plain.0 plain.1 }
  locked_so z' same (inr (c, xi, holds, own)) = record { wants = λ new. not_both own new; converts = λ _. xi; holds = holds }

  verdict_is : (v : Verdict) → fitting k memory z ≡ true → granted k memory free z ≡ v → next_is_new v ≡ true → verdict k n ws z ≡ v
  unfolding verdict sound_for_step
  verdict_is v fits is new = cond-true (granted k memory free z) broken (and_both (and_both pages_test fits) (ap next_is_new is ∙ new)) ∙ is

  does_comes : fitting k memory z ≡ true → Does k n ws l t z (granted k memory free z) → Comes k n ws l t z
  does_comes fits (on z' is same so takes) =
      moves z' (verdict_is (goes z') fits is (new_test z' same so)) same (stance_so z' so) (locked_so z' same so) takes
  does_comes fits (done a writes is ended) = stops a writes (verdict_is (ends a writes) fits is refl) ended

-- ---- kinds of who gathers

-- every page has the kind with which the operation goes down
plain_held : (memory : ℕ → Page) (z : Stand) → converting z ≡ false → Locked memory z → Plain z
plain_held memory z new locked = plain_holds z (λ p. due_plain z p new) locked.holds

-- a path has a top page
top_first : (path : List ℕ) → 1 ≤ length path → (top : ℕ) × (below : List ℕ) × (path ≡ top ∷ below)
top_first [] h = absurd (omega arith)
top_first (top ∷ below) h = (top, below, refl)

-- ---- it begins to convert

module _ (k n : ℕ) (ws : List ℕ) (l : ℕ) (t : Tr l) (z : Stand) (op : Op) (y : Stand) (same : y.op ≡ op) (asked : first_way op ≡ first_way z.op)
    (o : Ordered y) (third : is_third y.op ≡ true) (plain : Plain y)
    (leaf : ℕ) (fathers upper : List ℕ) (upward : reverse y.path ≡ leaf ∷ fathers) (whole : way (key_of y.op) l t ≡ reverse y.path ++ upper)
    (rightly : Rightly y.op k (page_at k ws) y.path) (known : change_known k (page_at k ws) y leaf fathers ≡ true)
    (siblings : Asked k (page_at k ws) (key_of y.op) leaf fathers y.beside)
    (takes : (q : ℕ) → Takes k (page_at k ws) z (wants_next y q Xi)) where
  turn_starts : (act : Verdict) → Does k n ws l t z (by_turn y act (to_convert y))
  turn_starts act =
      let (top, below, path) = top_first y.path rightly.some in
      let turns = first_turns y o third top below path plain.0 plain.1 in
      on (wants_next y top Xi) (ap (by_turn y act) (first_wanted y o third top below path plain.0 plain.1)) (ap first_way same ∙ asked)
      (inr (
        record {
          third = third;
          leaf = leaf;
          fathers = fathers;
          upward = upward;
          upper = upper;
          whole = whole;
          rightly = rightly;
          known = known;
          asked = siblings;
          done = [];
          rest = _;
          turns = turns;
        },
        refl,
        first_holds y o third top below path plain.0 plain.1,
        first_own y o third top below path plain.0 plain.1,
      ))
      (takes top)

-- ---- at its leaf or not

first_leaf : (memory : ℕ → Page) (up : List ℕ) → 1 ≤ length up → (memory (get_or up 0 0)).level ≡ 1 → at_its_leaf memory up ≡ true
first_leaf memory [] some level = absurd (omega arith)
first_leaf memory (p ∷ up) some level = eq-eqb (memory p).level 1 level

leaf_first : (memory : ℕ → Page) (up : List ℕ) → at_its_leaf memory up ≡ true → (1 ≤ length up) × ((memory (get_or up 0 0)).level ≡ 1)
leaf_first memory [] test = absurd (false≢true test)
leaf_first memory (p ∷ up) test = (omega arith, eqb-true (memory p).level 1 test)

pub at_leaf_test : (memory : ℕ → Page) (path : List ℕ) → StandsAtLeaf memory path → at_its_leaf memory (reverse path) ≡ true
at_leaf_test memory path at = first_leaf memory (reverse path) (omega (arith, at.0, length-reverse path)) at.1

pub test_at_leaf : (memory : ℕ → Page) (path : List ℕ) → at_its_leaf memory (reverse path) ≡ true → StandsAtLeaf memory path
test_at_leaf memory path test =
    let (some, level) = leaf_first memory (reverse path) test in
    (omega (arith, some, length-reverse path), level)

-- ---- coming down

-- at its leaf, by the operation: `rightly` is known of it where it makes a change. An update by the second way stays, one by the third has not to convert.
module _ (k n : ℕ) (ws : List ℕ) (l : ℕ) (t : Tr l) (pool : PoolForms k n ws l t) (one : 1 ≤ k) (z₀ : Stand) (path : List ℕ)
    (locks : List Under) (leaf : ℕ) (last : leaf ≡ z₀.want) (fathers upper : List ℕ) (upward : reverse path ≡ leaf ∷ fathers) where
  -- where it stands then
  abbrev landed : Op → Stand
  landed op = on_pages (with_op op z₀) path locks [] []

  -- what is known of an operation there
  record Landed (op : Op) : Type 0 where
    key : key_of op < word_range
    facts : WayFacts (page_at k ws) (key_of op) l t
    whole : way (key_of op) l t ≡ leaf ∷ (fathers ++ upper)
    rightly : (is_second op ≡ true → answered_at_once op (page_at k ws leaf).entries ≡ false) → Rightly (first_way op) k (page_at k ws) path
    alone : is_second op ≡ true → answered_at_once op (page_at k ws leaf).entries ≡ false → is_safe (first_way op) k (page_at k ws leaf) ≡ true
    takes : is_second op ≡ false → (q : ℕ) (lock : Lock) → Takes k (page_at k ws) (with_op op z₀) (wants_next (landed op) q lock)
    plain : is_second op ≡ false → locks ≡ map (λ (p : ℕ). under (held_lock op)) path
    inside : only_reads op ≡ false → change_known k (page_at k ws) (landed op) leaf fathers ≡ true → (q : ℕ) → member q path ≡ true → Writable (with_op op z₀) q
    new : converting (with_op op z₀) ≡ false
    unturned : is_third op ≡ true → change_known k (page_at k ws) (landed op) leaf fathers ≡ true → ⊥

  -- the leaf is on the path
  leaf_inside : member z₀.want path ≡ true
  leaf_inside =
      sym (member_reverse z₀.want path) ∙ ap (member z₀.want) (upward ∙ ap (λ (p : ℕ). p ∷ fathers) last) ∙ member_here z₀.want fathers

  -- a deletion whose key is there
  module _ (y : ℕ) (way' : Way) (at : Landed (Delete y way')) (h : has y (page_at k ws leaf).entries ≡ true) where
    deletion_leaf : AtLeaf k n (page_at k ws) l t y (on_pages z₀ path locks [] []) leaf fathers
    deletion_leaf = record {
      forms = pool.forms;
      k_least = one;
      key = at.key;
      there = sym (leaf_has (page_at k ws) y l t at.facts leaf (fathers ++ upper) at.whole) ∙ h;
      upward = upward;
      upper = upper;
      whole = at.whole ∙ ap (λ (ps : List ℕ). ps ++ upper) (sym upward);
      rightly = at.rightly (λ _. not_of_true h);
      asked = λ before s after e. absurd (omega (arith, ap length e, length-append before (s ∷ after)));
    }

    deletion_inside : needs k (page_at k ws) y leaf fathers [] ≡ nothing → (q : ℕ) → member q (leaf ∷ fathers ++ []) ≡ true → Writable (with_op (Delete y way') z₀) q
    deletion_inside enough q m =
        at.inside refl (and_both (not_of_false (not_of_true h)) (ap is_nothing enough)) q
        (sym (member_reverse q path) ∙ ap (member q) (upward ∙ sym (append-nil (leaf ∷ fathers))) ∙ m)

  -- it goes on to the sibling; by the second way its leaf can spare an entry, and it needs none
  further : (y : ℕ) (way' : Way) (at : Landed (Delete y way')) (h : has y (page_at k ws leaf).entries ≡ true) (s : ℕ)
      → needs k (page_at k ws) y leaf fathers [] ≡ sibling s
      → Does k n ws l t (with_op (Delete y way') z₀) (goes (wants_next (landed (Delete y way')) s (held_lock (Delete y way'))))
  further y First at h s e =
      on (wants_next (landed (Delete y First)) s Xi) refl refl
      (inl (
        inr (inr (inl (leaf_goes (deletion_leaf y First at h) First refl s e Xi))),
        sym (due_held (Delete y First) (page_at k ws) (reverse path) refl),
        (at.plain refl, refl),
      ))
      (at.takes refl s Xi)
  further y Second at h s e =
      let stands = leaf_goes (deletion_leaf y Second at h) First refl s e Xi in
      let short : μ (page_at k ws leaf) ≡ k
      = ap (λ (up : List ℕ). μ (page_at k ws (get_or up 0 0))) (sym upward) ∙ stands.short 0 (omega arith) in
      absurd (omega (arith, short, ltb-true k (μ (page_at k ws leaf)) (at.alone refl (not_of_true h))))
  further y Third at h s e =
      on (wants_next (landed (Delete y Third)) s Alpha) refl refl
      (inl (
        inr (inr (inl (leaf_goes (deletion_leaf y Third at h) Third refl s e Alpha))),
        sym (due_held (Delete y Third) (page_at k ws) (reverse path) refl),
        (at.plain refl, refl),
      ))
      (at.takes refl s Alpha)

  -- by the third way nothing is changed here
  insert_turn : (y v : ℕ) (way' : Way) (at : Landed (Insert y v way')) (b : Bool) → has y (page_at k ws leaf).entries ≡ b
      → is_third (Insert y v way') ≡ true → converting (with_op (Insert y v way') z₀) ≡ not b
  insert_turn y v way' at true h third = at.new
  insert_turn y v way' at false h third = absurd (at.unturned third (and_both (not_of_false h) refl))

  regrade_turn : (y v : ℕ) (way' : Way) (at : Landed (Regrade y v way')) (b : Bool) → has y (page_at k ws leaf).entries ≡ b
      → is_third (Regrade y v way') ≡ true → converting (with_op (Regrade y v way') z₀) ≡ b
  regrade_turn y v way' at true h third = absurd (at.unturned third (and_both (not_of_false (not_of_true h)) refl))
  regrade_turn y v way' at false h third = at.new

  landed_does : (op : Op) → Landed op
      → Does k n ws l t (with_op op z₀) (at_leaf op k (page_at k ws) (free_pages k n ws) (landed op) leaf fathers)
  unfolding at_leaf
  landed_does (Search y) at =
      search_does k n ws l t pool z₀ y at.facts leaf (fathers ++ upper) at.whole (landed (Search y)) fathers
  landed_does (Insert y v way') at =
      let tells = leaf_has (page_at k ws) y l t at.facts leaf (fathers ++ upper) at.whole in
      insert_does k n ws l t pool z₀ y at.facts leaf (fathers ++ upper) at.whole at.key v way' (landed (Insert y v way')) fathers upper upward
      (at.whole ∙ ap (λ (ps : List ℕ). ps ++ upper) (sym upward))
      (λ new. at.rightly (λ _. tells ∙ new))
      one (λ new. at.inside refl (and_both (not_of_false (tells ∙ new)) refl))
      (λ b e. insert_turn y v way' at b (tells ∙ e))
  landed_does (Delete y way') at =
      cond_ind (Does k n ws l t (with_op (Delete y way') z₀)) (has y (page_at k ws leaf).entries)
      (λ h.
      delete_does k n ws l t pool z₀ y at.facts leaf (fathers ++ upper) at.whole way' (on_pages z₀ path locks [] []) fathers
      (deletion_leaf y way' at h) (further y way' at h) (deletion_inside y way' at h)
      (λ enough third. absurd (at.unturned third (and_both (not_of_false (not_of_true h)) (ap is_nothing enough)))))
      (λ f.
      done NoSuchKey [] refl
      (missing_ends k n ws l t pool z₀ y at.facts leaf (fathers ++ upper) at.whole way'
      (sym (leaf_has (page_at k ws) y l t at.facts leaf (fathers ++ upper) at.whole) ∙ f) (λ _. at.new)))
  landed_does (Next y) at =
      next_does k n ws l t pool one z₀ y at.key at.facts path locks leaf fathers upper upward at.whole (at.rightly (λ s. absurd (false≢true s)))
      (λ q. at.takes refl q Rho) (at.plain refl)
  landed_does (Regrade y v way') at =
      let tells = leaf_has (page_at k ws) y l t at.facts leaf (fathers ++ upper) at.whole in
      regrade_does k n ws l t pool z₀ y at.facts leaf (fathers ++ upper) at.whole at.key v way' (λ _. last)
      (λ there. at.inside refl (and_both (not_of_false (not_of_true (tells ∙ there))) refl) z₀.want leaf_inside)
      (λ b e. regrade_turn y v way' at b (tells ∙ e)) (landed (Regrade y v way')) fathers

module _ (k n : ℕ) (ws : List ℕ) (l : ℕ) (t : Tr l) (z : Stand) (scene : Scene k n ws l t z) (new : converting z ≡ false) (none : z.beside ≡ [])
    (down : Down k (page_at k ws) l t z) where
  abbrev path' : List ℕ
  path' = kept k (page_at k ws) z

  abbrev locks' : List Under
  locks' = kept_locks k (page_at k ws) z

  abbrev here' : Stand
  here' = on_pages z path' locks' [] []

  wants : WantsWith (page_at k ws) z
  wants = scene.locked.wants new

  plain : Plain z
  plain = plain_held (page_at k ws) z new scene.locked

  -- it does not stand at its leaf
  above : StandsAtLeaf (page_at k ws) z.path → ⊥
  above at = true≢false (sym (at_leaf_test (page_at k ws) z.path at) ∙ down_above k (page_at k ws) l t z (facts k n ws l t z scene) down)

  -- "if the page has μ < 2k, all its ancestors are given up", or nothing is
  down_takes : (q : ℕ) (lock : Lock) → Takes k (page_at k ws) z (wants_next here' q lock)
  down_takes q lock =
      by_test (is_safe z.op k (page_at k ws z.want))
      (λ y.
      inl (inl (record {
        same = refl;
        new = new;
        comes_down = above;
        safe = y;
        no_siblings = none;
        holds = cond-true (z.want ∷ []) (z.path ++ z.want ∷ []) y;
        locks = cond-true (under z.lock ∷ []) (z.locks ++ under z.lock ∷ []) y;
        still = refl;
        sidelocks = refl;
      })))
      (λ f.
      inl (inr (inl (record {
        same = refl;
        new = new;
        comes_down = above;
        unsafe = f;
        no_siblings = none;
        holds = cond-false (z.want ∷ []) (z.path ++ z.want ∷ []) f;
        locks = cond-false (under z.lock ∷ []) (z.locks ++ under z.lock ∷ []) f;
        still = refl;
        sidelocks = refl;
      }))))

  reached : Reached z.op k (page_at k ws) l t path' z.want
  reached = down_reached k (page_at k ws) l t z (facts k n ws l t z scene) down

  abbrev stays_here : Bool
  stays_here = stays_second z.op k (page_at k ws) z.want

  -- ---- beginning again

  -- why it does
  why_again : stays_here ≡ false → (z.want ≡ 0)
      ⊎ ((answered_at_once z.op (page_at k ws z.want).entries ≡ false) × (is_safe (first_way z.op) k (page_at k ws z.want) ≡ false))
  why_again gone =
      let answered = answered_at_once z.op (page_at k ws z.want).entries in
      let safe = is_safe (first_way z.op) k (page_at k ws z.want) in
      by_test (eqb z.want 0)
      (λ y. inl (eqb-true z.want 0 y))
      (λ o.
      let neither : answered || safe ≡ false = false_if_not_true (answered || safe) (λ e. not_both (and_both (not_of_false o) e) gone) in
      inr (or_first_fails answered safe neither, or_second_fails answered safe neither))

  again_does : is_leaf (page_at k ws z.want) ≡ true → is_second z.op ≡ true → stays_here ≡ false → Does k n ws l t z (again z.op)
  again_does leafPage second gone =
      on (fresh_stand (first_way z.op)) refl (first_twice z.op)
      (inl (inl (record { no_path = refl; no_siblings = refl; wants_root = refl }), refl, (refl, refl)))
      (inl (inr (inr (inr (record {
        second = second;
        new = new;
        leaf = eqb-true (page_at k ws z.want).level 1 leafPage;
        why = why_again gone;
        fresh = refl;
      })))))

  -- ---- staying

  module _ (leafPage : is_leaf (page_at k ws z.want) ≡ true) where
    whole_here : way (key_of z.op) l t ≡ z.want ∷ (reached.fathers ++ reached.upper)
    whole_here = reached_leaf k (page_at k ws) l t z (facts k n ws l t z scene) path' reached leafPage

    -- who does not go by the second way takes the page with the kind with which it goes down
    plain_here : is_second z.op ≡ false → locks' ≡ map (λ (p : ℕ). under (held_lock z.op)) path'
    plain_here first = kept_plain k (page_at k ws) z plain.0 (wants ∙ due_held z.op (page_at k ws) (reverse z.path) first)

    -- ---- by the third way, its change is known: it begins to convert

    -- what it holds then is all different
    ordered_here : Ordered here'
    ordered_here = record { few = omega arith; different = ap distinct (append-nil path') ∙ kept_different }
      where
        path_different : distinct z.path ≡ true
        path_different =
            ap distinct (sym (ap (λ (ss : List ℕ). z.path ++ ss) none ∙ append-nil z.path)) ∙ (well_held k n ws l t z scene).different

        path_new : member z.want z.path ≡ false
        path_new = ap (member z.want) (sym (ap (λ (ss : List ℕ). z.path ++ ss) none ∙ append-nil z.path)) ∙ new

        kept_different : distinct path' ≡ true
        kept_different =
            cond_ind (λ (ps : List ℕ). distinct ps ≡ true) (is_safe z.op k (page_at k ws z.want))
            (λ _. distinct_snoc [] z.want ∙ and_both distinct_none (ap not (member_none z.want)))
            (λ _. distinct_snoc z.path z.want ∙ and_both path_different (ap not path_new))

    turns_here : is_third z.op ≡ true → change_known k (page_at k ws) here' z.want reached.fathers ≡ true → (act : Verdict)
        → Does k n ws l t z (by_turn here' act (to_convert here'))
    turns_here third known act =
        let first = third_not_second z.op third in
        turn_starts k n ws l t z z.op here' refl refl ordered_here third (plain_here first, refl)
        z.want reached.fathers reached.upper reached.upward
        (whole_here ∙ ap (λ (up : List ℕ). up ++ reached.upper) (sym reached.upward))
        reached.rightly known
        (λ before s after e. absurd (omega (arith, ap length e, length-append before (s ∷ after))))
        (λ q. down_takes q Xi) act

  module _ (leafPage : is_leaf (page_at k ws z.want) ≡ true) (here : is_second z.op ≡ true → stays_here ≡ true)
      (at_once : is_third z.op && change_known k (page_at k ws) here' z.want reached.fathers ≡ false) where
    -- by the second way: its leaf is not page 0, and what makes a change is safe for it
    not_root : is_second z.op ≡ true → z.want ≢ 0
    not_root second e =
        let answered = answered_at_once z.op (page_at k ws z.want).entries in
        let safe = is_safe (first_way z.op) k (page_at k ws z.want) in
        not_both (and_first (not (eqb z.want 0)) (answered || safe) (here second)) (not_of_true (eq-eqb z.want 0 e))

    safe_here : is_second z.op ≡ true → answered_at_once z.op (page_at k ws z.want).entries ≡ false
        → is_safe (first_way z.op) k (page_at k ws z.want) ≡ true
    safe_here second unanswered =
        let answered = answered_at_once z.op (page_at k ws z.want).entries in
        let safe = is_safe (first_way z.op) k (page_at k ws z.want) in
        ⊎_elim (λ a. not_both a unanswered) (λ e. e)
        (or_cases answered safe (and_second (not (eqb z.want 0)) (answered || safe) (here second)))

    -- it holds the leaf alone
    path_alone : is_second z.op ≡ true → path' ≡ z.want ∷ []
    path_alone second = cond-true (z.want ∷ []) (z.path ++ z.want ∷ []) (second_safe z.op k (page_at k ws z.want) second)

    -- it wanted the leaf with ξ
    xi_by : (up : List ℕ) → reverse z.path ≡ up → is_second z.op ≡ true → z.lock ≡ Xi
    xi_by [] e second =
        ⊎_elim
        (λ h. absurd (not_root second h.1))
        (λ r. absurd (omega (arith, r.some, length-reverse z.path, ap length e)))
        down.held
    xi_by (p ∷ up) e second =
        let level = eqb-true (page_at k ws z.want).level 1 leafPage in
        let next = (facts k n ws l t z scene).father down.lower z.want p (up ++ down.upper)
        (down.whole ∙ ap (λ (ps : List ℕ). down.lower ++ z.want ∷ (ps ++ down.upper)) e) in
        wants
        ∙ ap (lock_due z.op (page_at k ws)) e
        ∙ due_leaf z.op (page_at k ws) p up second (omega (arith, next.1, level))

    -- where it makes its change it has ξ on all that it holds: by the first way, and on its leaf by the second
    inside_here : only_reads z.op ≡ false → change_known k (page_at k ws) here' z.want reached.fathers ≡ true
        → (q : ℕ) → member q path' ≡ true → Writable z q
    inside_here updates known q m =
        by_test (is_second z.op)
        (λ second.
        inl
        (member_one q z.want (subst (λ (ps : List ℕ). member q ps ≡ true) (path_alone second) m), xi_by (reverse z.path) refl second))
        (λ first.
        let only : is_third z.op ≡ false = false_if_not_true (is_third z.op) (λ third. not_both (and_both third known) at_once) in
        let xi = update_xi z.op updates first only in
        ⊎_elim
        (λ e. inl (e, wants ∙ due_held z.op (page_at k ws) (reverse z.path) first ∙ xi))
        (λ h. inr (h, held_with z scene.locked.holds q h ∙ due_plain z q new ∙ xi))
        (member_cases q z.want (holding z) (kept_inside k (page_at k ws) z q m)))

    landed_here : Landed k n ws l t scene.forms scene.k_least z path' locks' z.want refl reached.fathers reached.upper reached.upward z.op
    landed_here = record {
      key = scene.key;
      facts = facts k n ws l t z scene;
      whole = whole_here leafPage;
      rightly = λ unanswered.
          by_test (is_second z.op)
          (λ second.
          subst (Rightly (first_way z.op) k (page_at k ws)) (sym (path_alone second))
          (rightly_alone (first_way z.op) k (page_at k ws) z.want (safe_here second (unanswered second))))
          (λ first. rightly_as z.op (first_way z.op) k (page_at k ws) path' (first_safe z.op k first) reached.rightly);
      alone = safe_here;
      takes = λ _ q lock. down_takes q lock;
      plain = plain_here leafPage;
      inside = inside_here;
      new = new;
      unturned = λ third known. not_both (and_both third known) at_once;
    }

    stays_does : Does k n ws l t z (at_leaf z.op k (page_at k ws) (free_pages k n ws) here' z.want reached.fathers)
    stays_does =
        landed_does k n ws l t scene.forms scene.k_least z path' locks' z.want refl reached.fathers reached.upper reached.upward
        z.op landed_here

  -- above the leaves: it was wanted with the kind under which it is held
  upper_lock : (up : List ℕ) → reverse z.path ≡ up → is_leaf (page_at k ws z.want) ≡ false → z.lock ≡ held_lock z.op
  upper_lock [] e upperPage = wants ∙ ap (lock_due z.op (page_at k ws)) e
  upper_lock (p ∷ up) e upperPage =
      let higher = eqb-false (page_at k ws z.want).level 1 upperPage in
      let next = (facts k n ws l t z scene).father down.lower z.want p (up ++ down.upper)
      (down.whole ∙ ap (λ (ps : List ℕ). down.lower ++ z.want ∷ (ps ++ down.upper)) e) in
      wants
      ∙ ap (lock_due z.op (page_at k ws)) e
      ∙ due_above z.op (page_at k ws) p up (λ two. higher (omega (arith, next.1)))

  -- and the kind of lock of the next want
  next_locked : (q : ℕ) → WantsWith (page_at k ws) (wants_next here' q (lock_below z.op (page_at k ws z.want)))
  next_locked q = ap (lock_due z.op (page_at k ws)) (sym reached.upward)

  down_does : Does k n ws l t z (comes_down k (page_at k ws) (free_pages k n ws) z)
  unfolding comes_down
  down_does =
      let way_of = facts k n ws l t z scene in
      cond_ind (Does k n ws l t z) (is_leaf (page_at k ws z.want))
      (λ y.
      subst
      (λ (up : List ℕ). Does k n ws l t z (from_leaf (by_way_at_leaf k (page_at k ws) (free_pages k n ws) here') up))
      (sym reached.upward)
      (cond_ind (Does k n ws l t z) (is_second z.op && not stays_here)
      (λ a. again_does y (and_first (is_second z.op) (not stays_here) a) (not-true stays_here (and_second (is_second z.op) (not stays_here) a)))
      (λ s.
      cond_ind (Does k n ws l t z) (is_third z.op && change_known k (page_at k ws) here' z.want reached.fathers)
      (λ turn.
      turns_here y
      (and_first (is_third z.op) (change_known k (page_at k ws) here' z.want reached.fathers) turn)
      (and_second (is_third z.op) (change_known k (page_at k ws) here' z.want reached.fathers) turn) _)
      (λ at_once.
      stays_does y (λ second. not-false stays_here (false_if_not_true (not stays_here) (λ g. not_both (and_both second g) s))) at_once))))
      (λ f.
      on (wants_next here' (route (key_of z.op) (page_at k ws z.want)) (lock_below z.op (page_at k ws z.want))) refl refl
      (inl (
        inr (inl (reached_next k (page_at k ws) l t z way_of path' reached f locks' (lock_below z.op (page_at k ws z.want)))),
        next_locked (route (key_of z.op) (page_at k ws z.want)),
        (kept_plain k (page_at k ws) z plain.0 (upper_lock (reverse z.path) refl f), refl),
      ))
      (down_takes (route (key_of z.op) (page_at k ws z.want)) (lock_below z.op (page_at k ws z.want))))

  down_comes : Comes k n ws l t z
  unfolding granted
  down_comes =
      let way_of = facts k n ws l t z scene in
      does_comes k n ws l t z scene
      (down_fitting k (page_at k ws) l t z way_of down none new scene.locked)
      (subst (Does k n ws l t z)
      (sym
      (cond-false (converts k (page_at k ws) (free_pages k n ws) z) _ new
      ∙ cond-false
      (besides k (page_at k ws) z)
      (comes_down k (page_at k ws) (free_pages k n ws) z)
      (down_above k (page_at k ws) l t z way_of down)))
      down_does)

-- ---- the levels of neighbours

-- a path that is the lower part of its key's way
module _ (k n : ℕ) (ws : List ℕ) (l : ℕ) (t : Tr l) (forms : Forms k n (page_at k ws) l t) (y : ℕ) (key : y < word_range) (path upper : List ℕ)
    (whole : way y l t ≡ reverse path ++ upper) where
  path_facts : WayFacts (page_at k ws) y l t
  path_facts = way_facts k n (page_at k ws) l t forms y key

  -- a page of the path and the one of the way
  on_way : (j : ℕ) → j < length path → get_or (way y l t) j 0 ≡ get_or (reverse path) j 0
  on_way j h = ap (λ (w : List ℕ). get_or w j 0) whole ∙ get_or-append (reverse path) upper 0 j (omega (arith, length-reverse path))

  path_short : length path ≤ l + 1
  path_short = omega (arith, ap length whole, length-append (reverse path) upper, length-reverse path, path_facts.pages)

  -- the neighbour of a page of the path stands on its level
  neighbour_level : (j : ℕ) → suc j < length path
      → (page_at k ws (get_or (reverse path) j 0)).level ≡ (page_at k ws (neighbour y (page_at k ws (get_or (reverse path) (suc j) 0)))).level
  neighbour_level j h =
      let places = place_facts k n (page_at k ws) l t forms in
      let father : ℕ = get_or (reverse path) (suc j) 0 in
      let spot = places.on_way y (suc j) key (omega (arith, path_short)) in
      let e : suc j + 1 ≡ j + 2 = omega arith in
      let stands : Stands l t 0 word_range father (j + 2) spot.from spot.to
      = subst (λ (p : ℕ). Stands l t 0 word_range p (j + 2) spot.from spot.to) (on_way (suc j) h)
      (subst (λ (v : ℕ). Stands l t 0 word_range (get_or (way y l t) (suc j) 0) v spot.from spot.to) e spot.stands) in
      let next = places.neighbours father j spot.from spot.to y stands in
      ap (λ (p : ℕ). (page_at k ws p).level) (sym (on_way j (omega arith)))
      ∙ path_facts.level j (omega (arith, path_short))
      ∙ sym (places.level (neighbour y (page_at k ws father)) (j + 1) next.from next.to next.stands)

  -- and so do siblings that are these neighbours
  pub siblings_level : (siblings : List ℕ) → length siblings < length path
      → ((j : ℕ) → j < length siblings → get_or siblings j 0 ≡ neighbour y (page_at k ws (get_or (reverse path) (suc j) 0)))
      → same_levels (page_at k ws) (reverse path) siblings ≡ true
  siblings_level siblings fewer each =
      levels_from (page_at k ws) (reverse path) siblings (omega (arith, length-reverse path, fewer))
      (λ j h. neighbour_level j (omega (arith, fewer)) ∙ ap (λ (p : ℕ). (page_at k ws p).level) (sym (each j h)))

-- ---- at its leaf

module _ (y : ℕ) (way' : Way) (k n : ℕ) (ws : List ℕ) (l : ℕ) (t : Tr l) (z₀ : Stand)
    (scene : Scene k n ws l t (with_op (Delete y way') z₀)) (b : WantsSibling k (page_at k ws) l t (with_op (Delete y way') z₀)) where
  abbrev z : Stand
  z = with_op (Delete y way') z₀

  new_here : converting z ≡ false
  new_here = gathers_new k n ws l t z scene (inr (inr (inl b)))

  first_here : is_second (Delete y way') ≡ false
  first_here = deletes_first (Delete y way') b.deletes

  -- it wants with the kind with which it goes down, and so it holds
  wants_here : z.lock ≡ held_lock (Delete y way')
  wants_here = scene.locked.wants new_here ∙ due_held (Delete y way') (page_at k ws) (reverse z.path) first_here

  plain_all : Plain z
  plain_all = plain_held (page_at k ws) z new_here scene.locked

  beside_facts : WayFacts (page_at k ws) y l t
  beside_facts = facts k n ws l t z scene

  -- each sibling, the wanted one too, is that neighbour
  each_neighbour : (j : ℕ) → j < length (z.beside ++ z.want ∷ [])
      → get_or (z.beside ++ z.want ∷ []) j 0 ≡ neighbour y (page_at k ws (get_or (reverse z.path) (suc j) 0))
  each_neighbour j h =
      by_test (ltb j (length z.beside))
      (λ i.
      let inside = ltb-true j (length z.beside) i in
      get_or-append z.beside (z.want ∷ []) 0 j inside ∙ b.neighbours j inside)
      (λ o.
      let last = ltb-false j (length z.beside) o in
      let at : length z.beside ≡ j = omega (arith, length-append z.beside (z.want ∷ [])) in
      get_or_at z.beside z.want [] 0 j at
      ∙ b.wants_next
      ∙ ap (λ (i : ℕ). neighbour y (page_at k ws (get_or (reverse z.path) (suc i) 0))) at)

  levels_test : same_levels (page_at k ws) (reverse z.path) (z.beside ++ z.want ∷ []) ≡ true
  levels_test =
      siblings_level k n ws l t scene.forms.forms y scene.key z.path b.upper b.whole (z.beside ++ z.want ∷ [])
      (omega (arith, b.fewer, length-append z.beside (z.want ∷ []))) each_neighbour

  module _ (leaf : ℕ) (fathers : List ℕ) (at : AtLeaf k n (page_at k ws) l t y z leaf fathers)
      (asks : needs k (page_at k ws) y leaf fathers z.beside ≡ sibling z.want) where
    from_leaf_lem : way y l t ≡ leaf ∷ (fathers ++ at.upper)
    from_leaf_lem = at.whole ∙ ap (λ (ps : List ℕ). ps ++ at.upper) at.upward

    lowest_is_leaf : at_its_leaf (page_at k ws) (reverse z.path) ≡ true
    lowest_is_leaf =
        ap (at_its_leaf (page_at k ws)) at.upward
        ∙ leaf_is (page_at k ws) y l t beside_facts leaf (fathers ++ at.upper) from_leaf_lem

    beside_test : rightly_beside k (page_at k ws) z (reverse z.path) ≡ true
    beside_test =
        ap (λ (up : List ℕ). rightly_beside k (page_at k ws) z up) at.upward
        ∙ and_both
        (and_both
        (and_both b.deletes
        (leaf_has (page_at k ws) y l t beside_facts leaf (fathers ++ at.upper) from_leaf_lem ∙ at.there))
        (ap (λ (d : Need). is_sibling d z.want) asks ∙ eq-eqb z.want z.want refl))
        (subst (λ (up : List ℕ). same_levels (page_at k ws) up (z.beside ++ z.want ∷ []) ≡ true) at.upward levels_test)

    beside_fitting : fitting k (page_at k ws) z ≡ true
    beside_fitting =
        fits_new k (page_at k ws) z new_here scene.locked
        (rightly_test (Delete y way') k (page_at k ws) z.path z.want b.rightly)
        (cond-true
        (descends (page_at k ws) y z.path
        && (rightly_beside k (page_at k ws) z (reverse z.path) || rightly_across k (page_at k ws) z z.path))
        (descends (page_at k ws) y (z.path ++ z.want ∷ []) && is_none z.beside)
        lowest_is_leaf
        ∙ and_both
        (descends_way (page_at k ws) y l t beside_facts z.path [] at.upper at.whole)
        (or_first (rightly_across k (page_at k ws) z z.path) beside_test))

    -- the pages of the change are held, or the granted one
    beside_inside : (q : ℕ) → member q (leaf ∷ fathers ++ (z.beside ++ z.want ∷ [])) ≡ true → member q (z.want ∷ holding z) ≡ true
    unfolding member
    beside_inside q m =
        ⊎_elim
        (λ h.
        or_second (eqb q z.want)
        (member_append q z.path z.beside
        ∙ or_first (member q z.beside) (sym (member_reverse q z.path) ∙ ap (member q) at.upward ∙ h)))
        (λ h. member_behind q z.want z.path z.beside (member_first q z.want z.beside h))
        (or_cases (member q (leaf ∷ fathers)) (member q (z.beside ++ z.want ∷ []))
        (sym (member_append q (leaf ∷ fathers) (z.beside ++ z.want ∷ [])) ∙ m))

    -- by the first way it has ξ-locks on them
    beside_writable : is_third (Delete y way') ≡ false → (q : ℕ) → member q (leaf ∷ fathers ++ (z.beside ++ z.want ∷ [])) ≡ true → Writable z q
    beside_writable only q m =
        let xi = update_xi (Delete y way') refl first_here only in
        ⊎_elim
        (λ e. inl (e, wants_here ∙ xi))
        (λ h. inr (h, held_with z scene.locked.holds q h ∙ due_plain z q new_here ∙ xi))
        (member_cases q z.want (holding z) (beside_inside q m))

    abbrev taken : Stand
    taken = want_beside z

    taken_plain : Plain taken
    taken_plain = (plain_all.0, beside_plain z plain_all.1 wants_here)

    taken_takes : (s : ℕ) (lock : Lock) → Takes k (page_at k ws) z (wants_next taken s lock)
    taken_takes s lock =
        inl (inr (inr (inl (record {
          same = refl;
          new = new_here;
          beside = deletes_beside (Delete y way') b.deletes;
          at_leaf = test_at_leaf (page_at k ws) z.path lowest_is_leaf;
          still = refl;
          locks = refl;
          holds = refl;
          sidelocks = refl;
        }))))

    -- one sibling more is needed
    beside_further : (s : ℕ) → needs k (page_at k ws) y leaf fathers (z.beside ++ z.want ∷ []) ≡ sibling s
        → Does k n ws l t z (goes (wants_next taken s (held_lock (Delete y way'))))
    beside_further s e =
        on (wants_next taken s (held_lock (Delete y way'))) refl refl
        (inl (
          inr (inr (inl (leaf_goes (beside_asked at asks) way' b.deletes s e (held_lock (Delete y way'))))),
          sym (due_held (Delete y way') (page_at k ws) (reverse z.path) first_here),
          taken_plain,
        ))
        (taken_takes s (held_lock (Delete y way')))

    -- with it the change is known just if nothing more is needed: the key is there
    abbrev known_now : Bool
    known_now = change_known k (page_at k ws) taken leaf fathers

    nothing_known : needs k (page_at k ws) y leaf fathers (z.beside ++ z.want ∷ []) ≡ nothing → known_now ≡ true
    nothing_known e =
        and_both
        (not_of_false (not_of_true (leaf_has (page_at k ws) y l t beside_facts leaf (fathers ++ at.upper) from_leaf_lem ∙ at.there)))
        (ap is_nothing e)

    -- all that it holds then is different, and fewer pages are beside the path than on it
    ordered_taken : Ordered taken
    ordered_taken = record {
      few = omega (arith, b.fewer, length-append z.beside (z.want ∷ []));
      different =
          ap distinct (sym (append_assoc z.path z.beside (z.want ∷ [])))
          ∙ distinct_snoc (z.path ++ z.beside) z.want
          ∙ and_both (well_held k n ws l t z scene).different (ap not new_here);
    }

    beside_does : Does k n ws l t z (besides k (page_at k ws) z)
    unfolding besides
    beside_does =
        subst
        (Does k n ws l t z)
        (sym (cond-false _ _ (updates_not_next (Delete y way') refl)))
        (subst
        (λ (up : List ℕ).
        Does k n ws l t z
        (from_leaf (λ (p : ℕ) (ps : List ℕ). converted_first k (page_at k ws) taken p ps (deletes k (page_at k ws) y taken p ps)) up))
        (sym at.upward)
        (cond_ind (Does k n ws l t z) (is_third (Delete y way') && known_now)
        (λ turn.
        turn_starts k n ws l t z (Delete y way') taken refl refl ordered_taken (and_first (is_third (Delete y way')) known_now turn) taken_plain
        leaf fathers at.upper at.upward at.whole b.rightly (and_second (is_third (Delete y way')) known_now turn)
        (beside_asked at asks).asked (λ q. taken_takes q Xi) _)
        (λ at_once.
        delete_does k n ws l t scene.forms z y beside_facts leaf (fathers ++ at.upper) from_leaf_lem way'
        taken fathers (beside_asked at asks) beside_further
        (λ enough. beside_writable (false_if_not_true (is_third (Delete y way')) (λ third. not_both (and_both third (nothing_known enough)) at_once)))
        (λ enough third. not_both (and_both third (nothing_known enough)) at_once))))

    beside_comes : Comes k n ws l t z
    unfolding granted
    beside_comes =
        does_comes k n ws l t z scene beside_fitting
        (subst (Does k n ws l t z)
        (sym
        (cond-false (converts k (page_at k ws) (free_pages k n ws) z) _ new_here
        ∙ cond-true
        (besides k (page_at k ws) z)
        (comes_down k (page_at k ws) (free_pages k n ws) z)
        lowest_is_leaf))
        beside_does)

  deletion_comes : Comes k n ws l t z
  deletion_comes =
      let (leaf, fathers, at, asks) = beside_leaf way' z scene.forms.forms scene.k_least scene.key b in
      beside_comes leaf fathers at asks

-- only a deletion wants siblings
stays : (op : Op) (k n : ℕ) (ws : List ℕ) (l : ℕ) (t : Tr l) (z : Stand) → Scene k n ws l t (with_op op z)
    → WantsSibling k (page_at k ws) l t (with_op op z) → Comes k n ws l t (with_op op z)
stays (Search y) k n ws l t z scene b = absurd (false≢true b.deletes)
stays (Insert y v First) k n ws l t z scene b = absurd (false≢true b.deletes)
stays (Insert y v Second) k n ws l t z scene b = absurd (false≢true b.deletes)
stays (Insert y v Third) k n ws l t z scene b = absurd (false≢true b.deletes)
stays (Delete y way') k n ws l t z scene b = deletion_comes y way' k n ws l t z scene b
stays (Next y) k n ws l t z scene b = absurd (false≢true b.deletes)
stays (Regrade y v First) k n ws l t z scene b = absurd (false≢true b.deletes)
stays (Regrade y v Second) k n ws l t z scene b = absurd (false≢true b.deletes)
stays (Regrade y v Third) k n ws l t z scene b = absurd (false≢true b.deletes)

-- ---- past its leaf

module _ (y k n : ℕ) (ws : List ℕ) (l : ℕ) (t : Tr l) (z₀ : Stand)
    (scene : Scene k n ws l t (with_op (Next y) z₀)) (c : Crossing k (page_at k ws) l t (with_op (Next y) z₀)) where
  abbrev past : Stand
  past = with_op (Next y) z₀

  past_leaf : at_its_leaf (page_at k ws) (reverse past.path) ≡ true
  past_leaf =
      at_leaf_test (page_at k ws) past.path (crossing_leaf y k n ws l t scene.forms scene.k_least scene.key z₀ c)

  new_past : converting past ≡ false
  new_past = gathers_new k n ws l t past scene (inr (inr (inr c)))

  crossing_fitting : fitting k (page_at k ws) past ≡ true
  crossing_fitting =
      fits_new k (page_at k ws) past new_past scene.locked
      (rightly_test (Next y) k (page_at k ws) past.path past.want c.rightly)
      (cond-true
      (descends (page_at k ws) y past.path
      && (rightly_beside k (page_at k ws) past (reverse past.path) || rightly_across k (page_at k ws) past past.path))
      (descends (page_at k ws) y (past.path ++ past.want ∷ []) && is_none past.beside)
      past_leaf
      ∙ and_both
      (descends_way (page_at k ws) y l t (facts k n ws l t past scene) past.path [] c.upper c.whole)
      (or_second (rightly_beside k (page_at k ws) past (reverse past.path))
      (crossing_test y k n ws l t scene.forms scene.k_least scene.key z₀ c)))

  next_comes : Comes k n ws l t past
  unfolding granted
  next_comes =
      does_comes k n ws l t past scene crossing_fitting
      (subst (Does k n ws l t past)
      (sym
      (cond-false (converts k (page_at k ws) (free_pages k n ws) past) _ new_past
      ∙ cond-true
      (besides k (page_at k ws) past)
      (comes_down k (page_at k ws) (free_pages k n ws) past)
      past_leaf))
      (crossing_does y k n ws l t scene.forms scene.k_least scene.key z₀ c new_past (scene.locked.wants new_past)
      (plain_held (page_at k ws) past new_past scene.locked)))

-- only a Next goes down a second way
crosses_over : (op : Op) (k n : ℕ) (ws : List ℕ) (l : ℕ) (t : Tr l) (z : Stand) → Scene k n ws l t (with_op op z)
    → Crossing k (page_at k ws) l t (with_op op z) → Comes k n ws l t (with_op op z)
crosses_over (Search y) k n ws l t z scene c = absurd (false≢true c.asks_next)
crosses_over (Insert y v First) k n ws l t z scene c = absurd (false≢true c.asks_next)
crosses_over (Insert y v Second) k n ws l t z scene c = absurd (false≢true c.asks_next)
crosses_over (Insert y v Third) k n ws l t z scene c = absurd (false≢true c.asks_next)
crosses_over (Delete y First) k n ws l t z scene c = absurd (false≢true c.asks_next)
crosses_over (Delete y Second) k n ws l t z scene c = absurd (false≢true c.asks_next)
crosses_over (Delete y Third) k n ws l t z scene c = absurd (false≢true c.asks_next)
crosses_over (Next y) k n ws l t z scene c = next_comes y k n ws l t z scene c
crosses_over (Regrade y v First) k n ws l t z scene c = absurd (false≢true c.asks_next)
crosses_over (Regrade y v Second) k n ws l t z scene c = absurd (false≢true c.asks_next)
crosses_over (Regrade y v Third) k n ws l t z scene c = absurd (false≢true c.asks_next)

-- ---- converting

-- an operation has ended
abbrev ended : Verdict → Bool
ended broken = false
ended (goes z) = false
ended (ends a writes) = true

-- a list, split at a place
split_at : (xs : List ℕ) (j : ℕ) → j < length xs → (before : List ℕ) × (after : List ℕ) × (xs ≡ before ++ get_or xs j 0 ∷ after) × (length before ≡ j)
split_at [] j h = absurd (omega arith)
split_at (x ∷ xs) zero h = ([], xs, refl, refl)
split_at (x ∷ xs) (suc j) h =
    let (before, after, e, size) = split_at xs j (omega arith) in
    (x ∷ before, after, ap (λ (ys : List ℕ). x ∷ ys) e, ap suc size)

-- With ξ on all that it holds, the change is made.
module _ (k n : ℕ) (ws : List ℕ) (l : ℕ) (t : Tr l) where
  record Turned (op : Op) (z : Stand) : Type 0 where
    scene : Scene k n ws l t (with_op op z)
    turn : Converting k (page_at k ws) l t (with_op op z)
    on_path : (q : ℕ) → member q z.path ≡ true → Writable (with_op op z) q
    upward : (q : ℕ) → member q (turn.leaf ∷ turn.fathers ++ z.beside) ≡ true → Writable (with_op op z) q

  module _ (op : Op) (z : Stand) (m : Turned op z) where
    made_facts : WayFacts (page_at k ws) (key_of op) l t
    made_facts = facts k n ws l t (with_op op z) m.scene

    made_way : way (key_of op) l t ≡ m.turn.leaf ∷ (m.turn.fathers ++ m.turn.upper)
    made_way = m.turn.whole ∙ ap (λ (up : List ℕ). up ++ m.turn.upper) m.turn.upward

    made_rightly : Rightly (first_way op) k (page_at k ws) z.path
    made_rightly =
        rightly_as op (first_way op) k (page_at k ws) z.path (first_safe op k (third_not_second op m.turn.third)) m.turn.rightly

    made_own : converting (with_op op z) ≡ true
    made_own = turn_held k n ws l t (with_op op z) m.scene m.turn

    made_known : (answered_at_once op (page_at k ws m.turn.leaf).entries ≡ false) × (needs_no_more op k (page_at k ws) z.beside m.turn.leaf m.turn.fathers ≡ true)
    made_known =
        let asked : Bool = answered_at_once op (page_at k ws m.turn.leaf).entries in
        let enough : Bool = needs_no_more op k (page_at k ws) z.beside m.turn.leaf m.turn.fathers in
        (not-true asked (and_first (not asked) enough m.turn.known), and_second (not asked) enough m.turn.known)

  -- a deletion has all the siblings that it needs
  module _ (y : ℕ) (way' : Way) (z : Stand) (m : Turned (Delete y way') z) where
    made_leaf : AtLeaf k n (page_at k ws) l t y (want_converted (with_op (Delete y way') z)) m.turn.leaf m.turn.fathers
    made_leaf =
        let a = converting_leaf k n (page_at k ws) l t m.scene.k_least m.scene.n_most m.scene.forms.forms y way' z m.scene.key m.turn in
        record {
          forms = a.forms;
          k_least = a.k_least;
          key = a.key;
          there = a.there;
          upward = a.upward;
          upper = a.upper;
          whole = a.whole;
          rightly = a.rightly;
          asked = a.asked;
        }

    none_further : (s : ℕ) → needs k (page_at k ws) y m.turn.leaf m.turn.fathers z.beside ≡ sibling s → ⊥
    none_further s e = not_both (made_known (Delete y way') z m).1 (ap is_nothing e)

  -- a regrading holds its leaf alone, and has converted it
  module _ (y v : ℕ) (way' : Way) (z : Stand) (m : Turned (Regrade y v way') z) where
    leaf_alone : m.turn.fathers ≡ []
    leaf_alone =
        let size : length z.path ≡ suc (length m.turn.fathers) = sym (length-reverse z.path) ∙ ap length m.turn.upward in
        by_test (ltb 0 (length m.turn.fathers))
        (λ h.
        not_both
        (regrade_safe k (page_at k ws (get_or z.path 1 0)) {op = Regrade y v way'} {x = y} {v = v} {way = way'} refl)
        (m.turn.rightly.unsafe 0 (omega (arith, ltb-true 0 (length m.turn.fathers) h))))
        (λ h. no_length m.turn.fathers (omega (arith, ltb-false 0 (length m.turn.fathers) h)))

    wanted_leaf : m.turn.leaf ≡ z.want
    wanted_leaf =
        let own = turn_held k n ws l t (with_op (Regrade y v way') z) m.scene m.turn in
        let none : z.beside ≡ [] = none_is z.beside (made_known (Regrade y v way') z m).1 in
        let up : reverse z.path ≡ m.turn.leaf ∷ [] = m.turn.upward ∙ ap (λ (ps : List ℕ). m.turn.leaf ∷ ps) leaf_alone in
        sym (member_one z.want m.turn.leaf
        (sym (ap (member z.want) up)
        ∙ member_reverse z.want z.path
        ∙ sym (ap (member z.want) (append-nil z.path))
        ∙ ap (λ (ss : List ℕ). member z.want (z.path ++ ss)) (sym none)
        ∙ own))

    wanted_xi : Writable (with_op (Regrade y v way') z) z.want
    wanted_xi =
        m.upward z.want
        (member_append z.want (m.turn.leaf ∷ m.turn.fathers) z.beside
        ∙ or_first (member z.want z.beside)
        (subst (λ (p : ℕ). member p (m.turn.leaf ∷ m.turn.fathers) ≡ true) wanted_leaf (member_here m.turn.leaf m.turn.fathers)))

  -- a new key is put in, and one that is there is regraded
  made_new : (y v : ℕ) (way' : Way) (z : Stand) (m : Turned (Insert y v way') z) (b : Bool) → has y (page_at k ws m.turn.leaf).entries ≡ b
      → converting (with_op (Insert y v way') z) ≡ not b
  made_new y v way' z m true h = not_both h (made_known (Insert y v way') z m).0
  made_new y v way' z m false h = made_own (Insert y v way') z m

  made_there : (y v : ℕ) (way' : Way) (z : Stand) (m : Turned (Regrade y v way') z) (b : Bool) → has y (page_at k ws m.turn.leaf).entries ≡ b
      → converting (with_op (Regrade y v way') z) ≡ b
  made_there y v way' z m true h = made_own (Regrade y v way') z m
  made_there y v way' z m false h = not_both (not_of_false h) (made_known (Regrade y v way') z m).0

  change_does : (op : Op) (z : Stand) (m : Turned op z)
      → Does k n ws l t (with_op op z) (at_leaf op k (page_at k ws) (free_pages k n ws) (want_converted (with_op op z)) m.turn.leaf m.turn.fathers)
  unfolding at_leaf
  change_does (Search y) z m = absurd (false≢true m.turn.third)
  change_does (Insert y v way') z m =
      let up = made_way (Insert y v way') z m in
      insert_does k n ws l t m.scene.forms z y (made_facts (Insert y v way') z m) m.turn.leaf (m.turn.fathers ++ m.turn.upper) up
      m.scene.key v way' (want_converted (with_op (Insert y v way') z)) m.turn.fathers m.turn.upper m.turn.upward m.turn.whole
      (λ _. made_rightly (Insert y v way') z m) m.scene.k_least (λ _. m.on_path)
      (λ b e _. made_new y v way' z m b (leaf_has (page_at k ws) y l t (made_facts (Insert y v way') z m) m.turn.leaf (m.turn.fathers ++ m.turn.upper) up ∙ e))
  change_does (Delete y way') z m =
      let up = made_way (Delete y way') z m in
      cond_ind (Does k n ws l t (with_op (Delete y way') z)) (has y (page_at k ws m.turn.leaf).entries)
      (λ _.
      delete_does k n ws l t m.scene.forms z y (made_facts (Delete y way') z m) m.turn.leaf (m.turn.fathers ++ m.turn.upper) up
      way' (want_converted (with_op (Delete y way') z)) m.turn.fathers (made_leaf y way' z m)
      (λ s e. absurd (none_further y way' z m s e)) (λ _. m.upward) (λ _ _. made_own (Delete y way') z m))
      (λ f. not_both (not_of_false f) (made_known (Delete y way') z m).0)
  change_does (Next y) z m = absurd (false≢true m.turn.third)
  change_does (Regrade y v way') z m =
      let up = made_way (Regrade y v way') z m in
      regrade_does k n ws l t m.scene.forms z y (made_facts (Regrade y v way') z m) m.turn.leaf (m.turn.fathers ++ m.turn.upper) up
      m.scene.key v way' (λ _. wanted_leaf y v way' z m) (λ _. wanted_xi y v way' z m)
      (λ b e _. made_there y v way' z m b (leaf_has (page_at k ws) y l t (made_facts (Regrade y v way') z m) m.turn.leaf (m.turn.fathers ++ m.turn.upper) up ∙ e))
      (want_converted (with_op (Regrade y v way') z)) m.turn.fathers

module _ (k n : ℕ) (ws : List ℕ) (l : ℕ) (t : Tr l) (z : Stand) (scene : Scene k n ws l t z) (c : Converting k (page_at k ws) l t z) where
  own_turn : converting z ≡ true
  own_turn = turn_held k n ws l t z scene c

  lock_xi : z.lock ≡ Xi
  lock_xi = scene.locked.converts own_turn

  ordered_turn : Ordered z
  ordered_turn = scene_ordered k n ws l t z scene

  turn_facts : WayFacts (page_at k ws) (key_of z.op) l t
  turn_facts = facts k n ws l t z scene

  from_turn : way (key_of z.op) l t ≡ c.leaf ∷ (c.fathers ++ c.upper)
  from_turn = c.whole ∙ ap (λ (up : List ℕ). up ++ c.upper) c.upward

  turn_leaf : at_its_leaf (page_at k ws) (reverse z.path) ≡ true
  turn_leaf = ap (at_its_leaf (page_at k ws)) c.upward ∙ leaf_is (page_at k ws) (key_of z.op) l t turn_facts c.leaf (c.fathers ++ c.upper) from_turn

  -- its siblings lie beside their pages
  turn_levels : same_levels (page_at k ws) (c.leaf ∷ c.fathers) z.beside ≡ true
  turn_levels =
      subst (λ (up : List ℕ). same_levels (page_at k ws) up z.beside ≡ true) c.upward
      (siblings_level k n ws l t scene.forms.forms (key_of z.op) scene.key z.path c.upper c.whole z.beside
      (fewer_beside k n (page_at k ws) l t scene.k_least scene.n_most scene.forms.forms z scene.key c)
      (λ j h.
      let (before, after, e, size) = split_at z.beside j h in
      (needs_course k (page_at k ws) (key_of z.op) c.leaf c.fathers before (get_or z.beside j 0) (c.asked before (get_or z.beside j 0) after e)).wants_next
      ∙ ap (λ (i : ℕ). neighbour (key_of z.op) (page_at k ws (get_or c.fathers i 0))) size
      ∙ ap (λ (up : List ℕ). neighbour (key_of z.op) (page_at k ws (get_or up (suc j) 0))) (sym c.upward)))

  turn_fitting : fitting k (page_at k ws) z ≡ true
  unfolding fitting
  turn_fitting =
      and_both
      (rightly_test z.op k (page_at k ws) z.path z.want c.rightly)
      (cond-true (rightly_converting k (page_at k ws) z (reverse z.path)) (fitting_new k (page_at k ws) z) own_turn
      ∙ ap (rightly_converting k (page_at k ws) z) c.upward
      ∙ and_both
      (and_both
      (and_both
      (and_both
      (and_both
      (and_both
      (and_both c.third (leaf_is (page_at k ws) (key_of z.op) l t turn_facts c.leaf (c.fathers ++ c.upper) from_turn))
      (descends_way (page_at k ws) (key_of z.op) l t turn_facts z.path [] c.upper c.whole))
      c.known)
      turn_levels)
      (ap (λ (l : Lock). same_lock l Xi) lock_xi))
      (turn_test z ordered_turn c.third scene.locked.holds c.done c.rest c.turns))
      (ap (is_first z.want) (turn_wanted z ordered_turn c.third scene.locked.holds c.done c.rest c.turns) ∙ eq-eqb z.want z.want refl))

  abbrev made' : Stand
  made' = want_converted z

  -- with the last page converted it has ξ on all that it holds
  all_xi : c.rest ≡ [] → (q : ℕ) → member q (holding z) ≡ true → Writable z q
  all_xi last q h =
      ⊎_elim
      (λ m. inr (h, held_with z scene.locked.holds q h ∙ due_done z ordered_turn c.third scene.locked.holds c.done c.rest c.turns q m))
      (λ m. inl (m, lock_xi))
      (member_last q c.done z.want
      (ap (λ (r : List ℕ). member q (c.done ++ z.want ∷ r)) (sym last) ∙ ap (member q) (sym c.turns) ∙ in_turn_lem z ordered_turn q ∙ h))

  -- then the change is made
  module _ (last : c.rest ≡ []) where
    path_xi : (q : ℕ) → member q z.path ≡ true → Writable z q
    path_xi q m = all_xi last q (member_append q z.path z.beside ∙ or_first (member q z.beside) m)

    up_xi : (q : ℕ) → member q (c.leaf ∷ c.fathers ++ z.beside) ≡ true → Writable z q
    up_xi q m =
        all_xi last q
        (member_append q z.path z.beside
        ∙ ⊎_elim
        (λ h. or_first (member q z.beside) (sym (member_reverse q z.path) ∙ ap (member q) c.upward ∙ h))
        (λ h. or_second (member q z.path) h)
        (or_cases (member q (c.leaf ∷ c.fathers)) (member q z.beside) (sym (member_append q (c.leaf ∷ c.fathers) z.beside) ∙ m)))

  abbrev act' : Verdict
  act' = at_leaf z.op k (page_at k ws) (free_pages k n ws) made' c.leaf c.fathers

  -- the last conversion, or one more is to come
  turn_does : (rest : List ℕ) → c.rest ≡ rest → Does k n ws l t z (by_turn made' act' (to_convert made'))
  turn_does [] last =
      subst (λ (ps : List ℕ). Does k n ws l t z (by_turn made' act' ps))
      (sym (made_none z ordered_turn c.third scene.locked.holds c.done c.rest c.turns last))
      (change_does k n ws l t z.op z (record { scene = scene; turn = c; on_path = path_xi last; upward = up_xi last }))
  turn_does (q ∷ more) next =
      subst (λ (ps : List ℕ). Does k n ws l t z (by_turn made' act' ps))
      (sym (made_next z ordered_turn c.third scene.locked.holds c.done c.rest c.turns q more next))
      (on (wants_next made' q Xi) refl refl
      (inr (
        record {
          third = c.third;
          leaf = c.leaf;
          fathers = c.fathers;
          upward = c.upward;
          upper = c.upper;
          whole = c.whole;
          rightly = c.rightly;
          known = c.known;
          asked = c.asked;
          done = c.done ++ z.want ∷ [];
          rest = more;
          turns = after_turns z ordered_turn c.third scene.locked.holds c.done c.rest c.turns q more next;
        },
        refl,
        after_holds z ordered_turn c.third scene.locked.holds c.done c.rest c.turns q more next,
        after_own z ordered_turn c.third scene.locked.holds c.done c.rest c.turns q more next,
      ))
      (inr (record {
        same = refl;
        third = c.third;
        held = own_turn;
        still = refl;
        locks = refl;
        beside = refl;
        sidelocks = refl;
        done = c.done;
        rest = more;
        turns = c.turns ∙ ap (λ (ps : List ℕ). c.done ++ z.want ∷ ps) next;
      })))

  granted_turn : granted k (page_at k ws) (free_pages k n ws) z ≡ by_turn made' act' (to_convert made')
  unfolding granted converts
  granted_turn =
      cond-true (converts k (page_at k ws) (free_pages k n ws) z) _ own_turn
      ∙ ap
      (from_leaf (λ (leaf : ℕ) (fathers : List ℕ).
      converted_first k (page_at k ws) made' leaf fathers (at_leaf z.op k (page_at k ws) (free_pages k n ws) made' leaf fathers)))
      c.upward
      ∙ cond-true (by_turn made' act' (to_convert made')) act' (and_both c.third c.known)

  turn_comes : Comes k n ws l t z
  turn_comes = does_comes k n ws l t z scene turn_fitting (subst (Does k n ws l t z) (sym granted_turn) (turn_does c.rest refl))

  -- where it ends, everything that it holds has ξ
  pub turned_all : (a : Answer) (writes : List Write) → verdict k n ws z ≡ ends a writes → (q : ℕ) → member q (holding z) ≡ true → Writable z q
  turned_all a writes over q h = by_rest c.rest refl
    where
      by_rest : (rest : List ℕ) → c.rest ≡ rest → Writable z q
      by_rest [] last = all_xi last q h
      by_rest (p ∷ more) next =
          let on_it : granted k (page_at k ws) (free_pages k n ws) z ≡ goes (wants_next made' p Xi)
          = granted_turn
          ∙ ap (by_turn made' act') (made_next z ordered_turn c.third scene.locked.holds c.done c.rest c.turns p more next) in
          let new : next_is_new (goes (wants_next made' p Xi)) ≡ true = or_second (not (member p (holding made'))) (and_both c.third refl) in
          absurd (true≢false (ap ended (sym over ∙ verdict_is k n ws l t z scene (goes (wants_next made' p Xi)) turn_fitting on_it new)))

-- A granted step of a slot that stands as it should.
pub granted_comes : (k n : ℕ) (ws : List ℕ) (l : ℕ) (t : Tr l) (z : Stand) → Scene k n ws l t z → Comes k n ws l t z
granted_comes k n ws l t z scene =
    let way_of = facts k n ws l t z scene in
    ⊎_elim
    (⊎_elim
    (λ s. down_comes k n ws l t z scene (gathers_new k n ws l t z scene (inl s)) s.no_siblings (starting_down k (page_at k ws) l t z way_of s))
    (⊎_elim
    (λ c. down_comes k n ws l t z scene (gathers_new k n ws l t z scene (inr (inl c))) c.no_siblings (coming_down k (page_at k ws) l t z way_of c))
    (⊎_elim
    (λ b. stays z.op k n ws l t z scene b)
    (λ c. crosses_over z.op k n ws l t z scene c))))
    (λ c. turn_comes k n ws l t z scene c)
    scene.stance
