-- "No room" comes exactly when a new key needs more pages than are free, and changes nothing.
use Prim.Native.Nat.{ℕ, ◌≤◌, ◌<◌}
use mathlib.Core.Bool.{true, false, false≢true}
use mathlib.Core.Logic.{◌⊎◌, inl, inr, ⊎_elim, ◌≢◌}
use mathlib.Core.List.{List, [], ◌∷◌, reverse, reverse-append}
use mathlib.Core.Path.{◌≡◌, refl, sym, ap, subst, ◌∙◌}
use native.Mathlib.Omega.{arith}
use lib.ListN.{length, get_or, length-append}
use borrow.Author.Tests.{eqb-true}
use Rattle.ground.specs.Limits.{slot_count, word_range}
use Rattle.ground.specs.Tests.{member}
use Rattle.ground.proofs.Bools.{not_both}
use Rattle.ground.proofs.Choice.{by_test, cond-true, cond-false}
use Rattle.page.specs.Words.{Page, Entry, is_leaf}
use Rattle.page.specs.Place.{has, information}
use Rattle.pool.specs.Pool.{Write, page_at, free_pages, applied}
use Rattle.slots.specs.declared.Op.{Op}
use Rattle.slots.specs.declared.Op.TheVariants.{Insert}
use Rattle.slots.specs.declared.Way.{Way}
use Rattle.slots.specs.declared.Way.TheVariants.{First, Second, Third}
use Rattle.slots.specs.declared.Task.TheVariants.{Open}
use Rattle.slots.specs.declared.State.{State}
use Rattle.slots.specs.declared.Answer.{Answer}
use Rattle.slots.specs.declared.Answer.TheVariants.{Moved, Inserted, AlreadyThere, NoRoom}
use Rattle.slots.specs.Parts.{is_open, key_of, is_second, is_third, goes_beside, converting, slot_at, want_at, path_of, Stand, stand_of, Opened}
use Rattle.slots.specs.Heard.{is_one_of, counted_answers, writing}
use Rattle.slots.specs.Grant.{grants}
use Rattle.slots.specs.Book.{goes_on, closes}
use Rattle.footing.specs.Granted.{Verdict, broken, goes, ends, at_its_leaf}
use Rattle.footing.specs.Fitting.{verdict}
use Rattle.index.specs.Step.{Left, left, acted, stepped}
use Rattle.tree.specs.Tree.{entries_of}
use Rattle.tree.specs.Facts.{AnyTree}
use Rattle.tree.specs.Insertion.{tree_room}
use Rattle.tree.specs.Sorted.{inserted}
use Rattle.tree.proofs.Determined.{pool_determined}
use Rattle.tree.proofs.Words.{free_facts}
use Rattle.runs.specs.Plain.{Reply, reply, plain}
use Rattle.runs.specs.Stance.{Locked, Stance, Takes}
use Rattle.runs.specs.Step.{Ended, NoRoomLeft, Comes, moves, stops}
use Rattle.runs.proofs.Invariant.{Invariant, scene}
use Rattle.runs.proofs.Stepping.{granted_comes}
use Rattle.runs.proofs.Verdicts.{coming_ends, FirstLacks, coming_lacks}
use Rattle.runs.proofs.Calls.{StepOf, no_slot, idle, waits, onward, over, step_of, same_op, granted_does}
use Rattle.runs.proofs.Measure.{lowest_of, Where, at_start, on_the_way, at_the_leaf, in_turns, where_it_stands}
use Rattle.runs.proofs.MeasureLaws.{start_above, low_above}
use Rattle.runs.proofs.Agreement.{plain_counted}
use Rattle.promises.specs.Terms.{Converts}
use Rattle.promises.proofs.Terms.{converts_here}
use Rattle.promises.proofs.Demand2.{second_above}
use Rattle.promises.specs.Demand3.{RoomExact, NoRoomSays, Room}

-- who does not go by the second way goes on with its operation
same_taken : (k : ℕ) (memory : ℕ → Page) (z z' : Stand) → is_second z.op ≡ false → Takes k memory z z' → z'.op ≡ z.op
same_taken k memory z z' first (inl (inl g)) = g.same
same_taken k memory z z' first (inl (inr (inl g))) = g.same
same_taken k memory z z' first (inl (inr (inr (inl g)))) = g.same
same_taken k memory z z' first (inl (inr (inr (inr g)))) = not_both g.second first
same_taken k memory z z' first (inr g) = g.same

-- A page that it took coming down, and from which it goes on, is no leaf. (An insertion takes no sibling.)
lowest_taken : (k : ℕ) (memory : ℕ → Page) (z z' : Stand) → is_second z.op ≡ false → is_third z.op ≡ false → z'.beside ≡ [] → Takes k memory z z' → lowest_of z'.path ≡ z.want
lowest_taken k memory z z' first only none (inl (inl g)) = ap lowest_of g.holds
lowest_taken k memory z z' first only none (inl (inr (inl g))) =
    ap lowest_of g.holds ∙ ap (λ (ps : List ℕ). get_or ps 0 0) (reverse-append z.path (z.want ∷ []))
lowest_taken k memory z z' first only none (inl (inr (inr (inl g)))) =
    absurd (omega (arith, ap length (sym none ∙ g.holds), length-append z.beside (z.want ∷ [])))
lowest_taken k memory z z' first only none (inl (inr (inr (inr g)))) = not_both g.second first
lowest_taken k memory z z' first only none (inr g) = not_both g.third only

some_taken : (k : ℕ) (memory : ℕ → Page) (z z' : Stand) → is_second z.op ≡ false → is_third z.op ≡ false → z'.beside ≡ [] → Takes k memory z z' → 1 ≤ length z'.path
some_taken k memory z z' first only none (inl (inl g)) = omega (arith, ap length g.holds)
some_taken k memory z z' first only none (inl (inr (inl g))) = omega (arith, ap length g.holds, length-append z.path (z.want ∷ []))
some_taken k memory z z' first only none (inl (inr (inr (inl g)))) =
    absurd (omega (arith, ap length (sym none ∙ g.holds), length-append z.beside (z.want ∷ [])))
some_taken k memory z z' first only none (inl (inr (inr (inr g)))) = not_both g.second first
some_taken k memory z z' first only none (inr g) = not_both g.third only

module _ (st : State) (ws : List ℕ) (inv : Invariant st ws) (s x v : ℕ) where
  abbrev memory : ℕ → Page
  memory = page_at st.k ws

  abbrev es : List Entry
  es = entries_of inv.height inv.tree

  abbrev Here : Left → Type 0
  Here r = RoomExact st.k st.n ws inv.height inv.tree x r

  plain_room : (way : Way) (a : Answer) (next : State) (words : List ℕ) → a ≡ (plain (Insert x v way) es).answer
      → (has x es ≡ false → tree_room st.k x inv.height inv.tree ≤ length (free_pages st.k st.n ws)) → Here (left a next words)
  unfolding plain
  plain_room way a next words e enough = record {
    there = λ h. e ∙ ap (λ (r : Reply). r.answer) (cond-true (reply (AlreadyThere (information x es)) es) (reply Inserted (inserted x v es)) h);
    no_room = λ h few. let most = enough h in absurd (omega arith);
    room = λ h most. e ∙ ap (λ (r : Reply). r.answer) (cond-false (reply (AlreadyThere (information x es)) es) (reply Inserted (inserted x v es)) h);
  }

  ended_room : (way : Way) (a : Answer) (writes : List Write) (next : State) (words : List ℕ)
      → Ended st.k st.n ws inv.height inv.tree (stand_of (Insert x v way) (slot_at st s)) a writes → Here (left a next words)
  ended_room way a writes next words e =
      ⊎_elim (λ p. plain_room way a next words p.answer (p.room x v way refl)) (λ r. roomless r.0) e.how
    where
      roomless : NoRoomLeft (Insert x v way) st.k st.n ws inv.height inv.tree a writes → Here (left a next words)
      roomless r =
          let same : r.key ≡ x = sym (ap key_of r.inserts) in
          record {
            there = λ h. not_both h (subst (λ (y : ℕ). has y es ≡ false) same r.missing);
            no_room = λ h few. r.answer;
            room = λ h most.
                let few = subst (λ (y : ℕ). length (free_pages st.k st.n ws) < tree_room st.k y inv.height inv.tree) same r.needs_more in
                absurd (omega arith);
          }

module _ (st : State) (ws : List ℕ) (inv : Invariant st ws) (s x v : ℕ) (b : s < slot_count) (runs : Opened st s (Insert x v First)) where
  abbrev pages₁ : ℕ → Page
  pages₁ = page_at st.k ws

  -- an insertion that is granted its leaf does not go on
  not_onward : (op : Op) (z : Stand) → is_second op ≡ false → is_third op ≡ false → is_leaf (pages₁ (want_at st s)) ≡ true → z.op ≡ Insert x v First
      → Stance st.k pages₁ inv.height inv.tree z → Locked pages₁ z
      → Takes st.k pages₁ (stand_of op (slot_at st s)) z → ⊥
  not_onward op z first only leaf same stance locked takes =
      by_place (where_it_stands st.k st.n ws inv.height inv.tree z
      (record {
        k_least = inv.sound.k_least;
        k_most = inv.sound.k_most;
        n_most = inv.sound.n_most;
        key = subst (λ (o : Op). key_of o < word_range) (sym same) (inv.keys s (Insert x v First) b runs);
        forms = inv.forms;
        no_blank = inv.no_blank;
        stance = stance;
        locked = locked;
      }))
    where
      by_place : Where pages₁ inv.height inv.tree z → ⊥
      by_place (at_start _ none alone _) =
          let some = some_taken st.k pages₁ (stand_of op (slot_at st s)) z first only alone takes in
          omega (arith, ap length none)
      by_place (on_the_way _ low stands alone _) =
          let taken = lowest_taken st.k pages₁ (stand_of op (slot_at st s)) z first only alone takes in
          let level : (pages₁ (lowest_of z.path)).level ≡ 1 = ap (λ (p : ℕ). (pages₁ p).level) taken ∙ eqb-true (pages₁ (want_at st s)).level 1 leaf in
          omega (arith, stands.level)
      by_place (at_the_leaf _ _ _ deletes _) = not_both deletes (ap goes_beside same)
      by_place (in_turns _ turned) = not_both turned.third (ap is_third same)

  exact_here : grants st s ≡ true → is_leaf (pages₁ (want_at st s)) ≡ true → StepOf st ws inv s → Here st ws inv s x v (stepped st ws s)
  exact_here g leaf (no_slot c e) = absurd (omega arith)
  exact_here g leaf (idle c d e) = not_both (ap is_open runs) d
  exact_here g leaf (waits op c rs h e) = not_both g h
  exact_here g leaf (onward op z c rs h e same stance locked takes) =
      let asked : op ≡ Insert x v First = same_op (sym rs ∙ runs) in
      absurd (not_onward op z (ap is_second asked) (ap is_third asked) leaf (same_taken st.k pages₁ (stand_of op (slot_at st s)) z (ap is_second asked) takes ∙ asked) stance locked takes)
  exact_here g leaf (over op a writes c rs h e done) =
      subst (Here st ws inv s x v) (sym e)
      (ended_room st ws inv s x v First a writes (closes st s) (applied st.k writes ws)
      (subst (λ (o : Op). Ended st.k st.n ws inv.height inv.tree (stand_of o (slot_at st s)) a writes) (same_op (sym rs ∙ runs)) done))

-- by the third way, where it is not answered Moved
module _ (st : State) (ws : List ℕ) (inv : Invariant st ws) (s x v : ℕ) (b : s < slot_count) (runs : Opened st s (Insert x v Third)) where
  exact_turn : grants st s ≡ true → (stepped st ws s).answer ≢ Moved → StepOf st ws inv s → Here st ws inv s x v (stepped st ws s)
  exact_turn g other (no_slot c e) = absurd (omega arith)
  exact_turn g other (idle c d e) = not_both (ap is_open runs) d
  exact_turn g other (waits op c rs h e) = not_both g h
  exact_turn g other (onward op z c rs h e same stance locked takes) = absurd (other (ap (λ (r : Left). r.answer) e))
  exact_turn g other (over op a writes c rs h e done) =
      subst (Here st ws inv s x v) (sym e)
      (ended_room st ws inv s x v Third a writes (closes st s) (applied st.k writes ws)
      (subst (λ (o : Op). Ended st.k st.n ws inv.height inv.tree (stand_of o (slot_at st s)) a writes) (same_op (sym rs ∙ runs)) done))

-- ---- a step answered NoRoom

moved_not : is_one_of Moved (NoRoom ∷ []) ≡ false
unfolding member
moved_not = refl

module _ (st : State) (ws : List ℕ) (inv : Invariant st ws) (s : ℕ) where
  abbrev Says : Left → Type 0
  Says r = NoRoomSays st.k st.n st ws inv.height inv.tree s r

  -- no other answer is NoRoom
  says_not : (a : Answer) (next : State) (words : List ℕ) → is_one_of a (NoRoom ∷ []) ≡ false → stepped st ws s ≡ left a next words → (stepped st ws s).answer ≡ NoRoom → ⊥
  unfolding member
  says_not a next words other e none = false≢true (sym other ∙ ap (λ (r : Answer). is_one_of r (NoRoom ∷ [])) (sym (ap (λ (r : Left). r.answer) e) ∙ none))

  abbrev path : List ℕ
  path = path_of (slot_at st s)

  abbrev pages : ℕ → Page
  pages = page_at st.k ws

  -- an insertion does not end above the leaves
  leaf_reached : (x v : ℕ) → s < slot_count → Opened st s (Insert x v First) → grants st s ≡ true → (stepped st ws s).answer ≡ NoRoom → is_leaf (page_at st.k ws (want_at st s)) ≡ true
  leaf_reached x v b runs g none = by_comes (granted_comes st.k st.n ws inv.height inv.tree (stand_of (Insert x v First) (slot_at st s)) (scene st ws inv s (Insert x v First) b runs))
    where
      above : Where pages inv.height inv.tree (stand_of (Insert x v First) (slot_at st s)) → at_its_leaf pages (reverse path) ≡ false
      above (at_start _ e _ _) = start_above pages inv.height inv.tree path e
      above (on_the_way _ low w _ _) = low_above pages inv.height inv.tree path low w
      above (at_the_leaf _ _ _ deletes _) = absurd (false≢true deletes)
      above (in_turns _ turned) = absurd (false≢true turned.third)

      by_comes : Comes st.k st.n ws inv.height inv.tree (stand_of (Insert x v First) (slot_at st s)) → is_leaf (pages (want_at st s)) ≡ true
      by_comes (moves z' e same stance locked takes) =
          absurd (says_not Moved (goes_on st s z') ws moved_not (granted_does st ws inv s (Insert x v First) b runs g ∙ ap (acted st ws s) e) none)
      by_comes (stops a writes e ended) =
          coming_ends st.k st.n ws (stand_of (Insert x v First) (slot_at st s))
          (above (where_it_stands st.k st.n ws inv.height inv.tree (stand_of (Insert x v First) (slot_at st s)) (scene st ws inv s (Insert x v First) b runs)))
          a writes e

  -- nor does an update by the second way lack room
  acted_lacks : (op : Op) (v : Verdict) → FirstLacks op v → (acted st ws s v).answer ≡ NoRoom → is_second op ≡ false
  unfolding member
  acted_lacks op broken h e = absurd (false≢true (ap (λ (r : Answer). is_one_of r (NoRoom ∷ [])) e))
  acted_lacks op (goes z) h e = absurd (false≢true (ap (λ (r : Answer). is_one_of r (NoRoom ∷ [])) e))
  acted_lacks op (ends a writes) h e = h e

  lacks_first : (op : Op) → s < slot_count → Opened st s op → grants st s ≡ true → (stepped st ws s).answer ≡ NoRoom → is_second op ≡ false
  lacks_first op b runs g none =
      by_test (is_second op)
      (λ second. acted_lacks op (verdict st.k st.n ws (stand_of op (slot_at st s)))
      (coming_lacks st.k st.n ws (stand_of op (slot_at st s)) (second_above st ws inv s op b runs second))
      (sym (ap (λ (r : Left). r.answer) (granted_does st ws inv s op b runs g)) ∙ none))
      (λ first. first)

  -- by the first way it was granted its leaf, by the third a conversion
  by_way : (x v : ℕ) (way : Way) → is_second (Insert x v way) ≡ false → s < slot_count → Opened st s (Insert x v way) → grants st s ≡ true
      → (stepped st ws s).answer ≡ NoRoom → (is_third (Insert x v way) ≡ true → converting (stand_of (Insert x v way) (slot_at st s)) ≡ true)
      → ((way ≡ First) × (is_leaf (page_at st.k ws (want_at st s)) ≡ true)) ⊎ ((way ≡ Third) × Converts st s)
  by_way x v First e b runs g none turned = inl (refl, leaf_reached x v b runs g none)
  by_way x v Second e b runs g none turned = not_both refl e
  by_way x v Third e b runs g none turned = inr (refl, converts_here (stand_of (Insert x v Third) (slot_at st s)) (turned refl))

  says_here : (stepped st ws s).answer ≡ NoRoom → StepOf st ws inv s → Says (stepped st ws s)
  unfolding member applied
  says_here none (no_slot c e) = absurd (says_not _ _ _ refl e none)
  says_here none (idle c d e) = absurd (says_not _ _ _ refl e none)
  says_here none (waits op c rs h e) = absurd (says_not _ _ _ refl e none)
  says_here none (onward op z c rs h e same stance locked takes) = absurd (says_not _ _ _ refl e none)
  says_here none (over op a writes c rs h e done) =
      let here : a ≡ NoRoom = sym (ap (λ (r : Left). r.answer) e) ∙ none in
      ⊎_elim
      (λ p. not_both (ap (λ (y : Answer). is_one_of y counted_answers) p.answer ∙ plain_counted op (entries_of inv.height inv.tree)) (ap (λ (y : Answer). is_one_of y counted_answers) here))
      (λ r.
      let inserts-so : Opened st s (Insert r.0.key r.0.lot r.0.way) = rs ∙ ap Open r.0.inserts in
      record {
        key = r.0.key;
        lot = r.0.lot;
        way = r.0.way;
        inserts = inserts-so;
        granted = h;
        here = by_way r.0.key r.0.lot r.0.way (sym (ap is_second r.0.inserts) ∙ lacks_first op c rs h none) c inserts-so h none
            (λ third.
            subst (λ (o : Op). converting (stand_of o (slot_at st s)) ≡ true) r.0.inserts
            (sym (done.turned (ap is_third r.0.inserts ∙ third)) ∙ ap (λ (y : Answer). is_one_of y (NoRoom ∷ writing)) here));
        new = r.0.missing;
        needs_more = r.0.needs_more;
        words = ap (λ (q : Left). q.words) e ∙ ap (λ (W : List Write). applied st.k W ws) r.0.nothing;
      })
      done.how

-- For whatever tree the words form: there is one.
pub room : (st : State) (ws : List ℕ) → Invariant st ws → Room st.k st.n st ws
room st ws inv = record {
  free = λ l t f. (free_facts st.k st.n ws l t f).count;
  exact = λ l t s x v f b runs g leaf. subst (λ (a : AnyTree). RoomExact st.k st.n ws a.0 a.1 x (stepped st ws s))
      (pool_determined st.k st.n ws inv.height inv.tree l t inv.forms f)
      (exact_here st ws inv s x v b runs g leaf (step_of st ws inv s));
  exact_in_turn = λ l t s x v f b runs g other. subst (λ (a : AnyTree). RoomExact st.k st.n ws a.0 a.1 x (stepped st ws s))
      (pool_determined st.k st.n ws inv.height inv.tree l t inv.forms f)
      (exact_turn st ws inv s x v b runs g other (step_of st ws inv s));
  says = λ l t s f none. subst (λ (a : AnyTree). NoRoomSays st.k st.n st ws a.0 a.1 s (stepped st ws s))
      (pool_determined st.k st.n ws inv.height inv.tree l t inv.forms f)
      (says_here st ws inv s none (step_of st ws inv s));
}
