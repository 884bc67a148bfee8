-- A lot that is not deleted is never nowhere: the plain list keeps it, and every call of a run acts on the tree's entries as the plain
-- list does, or not at all.
use Prim.Native.Nat.{ℕ, ◌≤◌}
use mathlib.Core.Bool.{true, false, true≢false}
use mathlib.Core.List.{List, [], ◌∷◌, ◌++◌, append_assoc}
use mathlib.Core.Logic.{◌⊎◌, inl, inr, ⊎_elim}
use mathlib.Core.Path.{◌≡◌, refl, sym, ap, subst, ◌∙◌}
use native.Mathlib.Omega.{arith}
use Rattle.ground.specs.Tests.{member}
use Rattle.ground.proofs.Bools.{not_both}
use Rattle.ground.proofs.Choice.{same_or_not}
use Rattle.page.specs.Words.{Entry}
use Rattle.page.specs.Place.{has, information, at_or_above}
use Rattle.page.specs.Sound.{rises}
use Rattle.pool.specs.Pool.{Write, applied}
use Rattle.slots.specs.declared.Op.{Op}
use Rattle.slots.specs.declared.Op.TheVariants.{Search, Insert, Delete, Next, Regrade}
use Rattle.slots.specs.declared.Way.{Way}
use Rattle.slots.specs.declared.State.{State}
use Rattle.slots.specs.declared.Answer.{Answer}
use Rattle.slots.specs.declared.Answer.TheVariants.{Waiting, Moved, Found, NotFound, Deleted, NoSuchKey, BadSlot, SlotIdle, Next as NextLot, Regraded}
use Rattle.slots.specs.Parts.{key_of, first_way, only_reads, stand_of, slot_at, Opened}
use Rattle.slots.specs.Heard.{is_one_of, ending}
use Rattle.slots.specs.Book.{closes}
use Rattle.footing.specs.Granted.{next_answer}
use Rattle.index.specs.Step.{Left, left, stepped}
use Rattle.tree.specs.Tree.{Tr, entries_of, PoolForms}
use Rattle.runs.specs.Run.{Call, begin, step, report, called, run, run_from, CallInWords, InWords}
use Rattle.runs.specs.Plain.{Reply, plain}
use Rattle.runs.specs.PlainFacts.{Among, FirstFrom, PlainFacts}
use Rattle.runs.specs.Step.{Ended}
use Rattle.runs.proofs.Invariant.{Invariant}
use Rattle.runs.proofs.Calls.{StepOf, no_slot, idle, waits, onward, over, step_of, same_op}
use Rattle.runs.proofs.Runs.{call_keeps, call_numbers, forms_with, words_before, words_behind, holds_after}
use Rattle.runs.proofs.Rounds.{run_append}
use Rattle.runs.proofs.Agreement.{entries_in, same_entries, ended_entries, StepDoes, keeps as nothingEnds, ends as endsPlainly, step_does}
use Rattle.runs.proofs.PlainLaws.{plain_facts, among_has, among_information, clashes}
use Rattle.promises.specs.Regrading.{IsThere, EndsAmong, PutBy, NotDeleted, NeverNowhere, RegradingHolds}
use Rattle.promises.proofs.Demand3.{run_before, tree_rises}

-- ---- the plain list

-- it does the same by either way: its laws are of the first
answer_by : {es : List Entry} → PlainFacts es → (op : Op) → (plain op es).answer ≡ (plain (first_way op) es).answer
answer_by facts op = ap (λ (r : Reply). r.answer) (facts.ways op)

entries_by : {es : List Entry} → PlainFacts es → (op : Op) → (plain op es).entries ≡ (plain (first_way op) es).entries
entries_by facts op = ap (λ (r : Reply). r.entries) (facts.ways op)

-- What one operation does to a lot that is there: it is still there, with the same information, or with that of a regrading.
record StillAmong (x v : ℕ) (op : Op) (es : List Entry) : Type 0 where
  now : ℕ
  there : Among x now es
  from : (now ≡ v) ⊎ ((way : Way) × (op ≡ Regrade x now way))

module _ (x v : ℕ) (es : List Entry) (r : rises es ≡ true) (a : Among x v es) where
  abbrev facts : PlainFacts es
  facts = plain_facts es r

  -- it is there as it was if a search says so
  found_after : (op : Op) (w : ℕ) → (plain (Search x) (plain op es).entries).answer ≡ Found w → Among x w (plain op es).entries
  found_after op w e = (plain_facts (plain op es).entries (facts.rising op)).found x w e

  same_among : (op : Op) → (plain op es).entries ≡ es → StillAmong x v op (plain op es).entries
  same_among op e = record { now = v; there = subst (Among x v) (sym e) a; from = inl refl }

  by_key : (op : Op) → x ≡ key_of op → ((way : Way) → op ≡ Delete x way → ⊥) → StillAmong x v op (plain op es).entries
  by_key (Search y) e kept = same_among (Search y) (facts.search_keeps y)
  by_key (Insert y u way) e kept = same_among (Insert y u way) (entries_by facts (Insert y u way) ∙ facts.already_keeps y u v (subst (λ (z : ℕ). Among z v es) e a))
  by_key (Delete y way) e kept = absurd (kept way (ap (λ (z : ℕ). Delete z way) (sym e)))
  by_key (Next y) e kept = same_among (Next y) (facts.next_keeps y)
  by_key (Regrade y w way) e kept = record {
    now = w;
    there = found_after (Regrade y w way) w
        (subst (λ (z : ℕ). (plain (Search z) (plain (Regrade y w way) es).entries).answer ≡ Found w) (sym e)
        (ap (λ (after : List Entry). (plain (Search y) after).answer) (entries_by facts (Regrade y w way))
        ∙ facts.regraded_found y w v (facts.regrades y w v (subst (λ (z : ℕ). Among z v es) e a))));
    from = inr (way, ap (λ (z : ℕ). Regrade z w way) (sym e));
  }

  plain_keeps : (op : Op) → ((way : Way) → op ≡ Delete x way → ⊥) → StillAmong x v op (plain op es).entries
  plain_keeps op kept =
      ⊎_elim
      (λ same. by_key op same kept)
      (λ other. record { now = v; there = found_after op v (facts.others op x other ∙ facts.finds x v a); from = inl refl })
      (same_or_not x (key_of op))

  -- a Next from its key or a lower one answers the first lot from there on, which is this one or comes before it
  not_passed : (y : ℕ) → y ≤ x → (rest : List Entry) → (plain (Next y) es).answer ≡ next_answer rest
      → (z : ℕ) × (w : ℕ) × ((plain (Next y) es).answer ≡ NextLot z w) × FirstFrom y z w es
  not_passed y h [] e = let below = facts.none_above y e x v a in absurd (omega arith)
  not_passed y h (d ∷ ds) e = (d.key, d.value, e, facts.next y d.key d.value e)

  next_plain : (y : ℕ) → y ≤ x → (z : ℕ) × (w : ℕ) × ((plain (Next y) es).answer ≡ NextLot z w) × FirstFrom y z w es
  unfolding plain
  next_plain y h = not_passed y h (at_or_above y es) refl

-- ---- one call

-- What a call does to the entries of the tree: nothing; or it is a step that ends an operation, and does what the plain list does.
data OnEntries (st : State) (ws : List ℕ) (inv : Invariant st ws) (c : Call) (es : List Entry) : Type 0 where
  keeps : es ≡ entries_in st ws inv → OnEntries st ws inv c es
  ends : (s : ℕ) (op : Op) → c ≡ step s → Opened st s op → (stepped st ws s).answer ≡ (plain op (entries_in st ws inv)).answer
      → es ≡ (plain op (entries_in st ws inv)).entries → OnEntries st ws inv c es

module _ (st : State) (ws : List ℕ) (inv : Invariant st ws) where
  abbrev es : List Entry
  es = entries_in st ws inv

  module _ (s : ℕ) (op : Op) (a : Answer) (writes : List Write) (e : stepped st ws s ≡ left a (closes st s) (applied st.k writes ws))
      (ended : Ended st.k st.n ws inv.height inv.tree (stand_of op (slot_at st s)) a writes) where
    -- the entries behind a step that ends an operation
    entries_after : (l : ℕ) (t : Tr l) → PoolForms st.k st.n (stepped st ws s).words l t → entries_of l t ≡ ended.entries
    entries_after l t f =
        ended_entries st ws inv (stand_of op (slot_at st s)) a writes ended l t
        (subst (λ (r : Left). PoolForms st.k st.n r.words l t) e f)

    answer_after : (stepped st ws s).answer ≡ a
    answer_after = ap (λ (r : Left). r.answer) e

  on_step : (s : ℕ) → StepDoes st ws inv s → (l : ℕ) (t : Tr l) → PoolForms st.k st.n (stepped st ws s).words l t
      → OnEntries st ws inv (step s) (entries_of l t)
  on_step s (nothingEnds uncounted same) l t f = keeps (same l t f)
  on_step s (endsPlainly op b runs answer entries) l t f = ends s op refl runs answer (entries l t f)

  call_does : (c : Call) (l : ℕ) (t : Tr l) → PoolForms st.k st.n (called st ws c).words l t → OnEntries st ws inv c (entries_of l t)
  unfolding called
  call_does (begin s op) l t f = keeps (same_entries st.k st.n ws l t inv.height inv.tree f inv.forms)
  call_does (step s) l t f = on_step s (step_does st ws inv s) l t f
  call_does (report p) l t f = keeps (same_entries st.k st.n ws l t inv.height inv.tree f inv.forms)

  -- the tree that stands after a call, with the numbers from before
  forms_after : (c : Call) (h : CallInWords c) → PoolForms st.k st.n (called st ws c).words (call_keeps st ws inv c h).height (call_keeps st ws inv c h).tree
  forms_after c h = forms_with (call_keeps st ws inv c h) (call_numbers st ws inv c)

  -- the step of slot s does what the plain list does with op
  abbrev AsPlainList : ℕ → Op → Type 0
  AsPlainList s op =
      ((stepped st ws s).answer ≡ (plain op es).answer)
      × ((l : ℕ) (t : Tr l) → PoolForms st.k st.n (stepped st ws s).words l t → entries_of l t ≡ (plain op es).entries)

  -- An operation that ends, and inserts no new key, ends so.
  module _ (s : ℕ) (op : Op) (runs : Opened st s op) (counts : is_one_of (stepped st ws s).answer ending ≡ true)
      (old : (y u : ℕ) (way : Way) → op ≡ Insert y u way → has y es ≡ true) where
    other_answer : (a : Answer) (next : State) → is_one_of a ending ≡ false → stepped st ws s ≡ left a next ws → AsPlainList s op
    other_answer a next other e = not_both counts (ap (λ (r : Left). is_one_of r.answer ending) e ∙ other)

    by_step : StepOf st ws inv s → AsPlainList s op
    unfolding member
    by_step (no_slot b e) = other_answer BadSlot st refl e
    by_step (idle b c e) = other_answer SlotIdle st refl e
    by_step (waits op' b rs g e) = other_answer Waiting st refl e
    by_step (onward op' z b rs g e same stance locked takes) = other_answer Moved _ refl e
    by_step (over op' a writes b rs g e ended) =
        let same : op' ≡ op = same_op (sym rs ∙ runs) in
        ⊎_elim
        (λ p. (
          answer_after s op' a writes e ended ∙ p.answer ∙ ap (λ (o : Op). (plain o es).answer) same,
          λ l t f. entries_after s op' a writes e ended l t f ∙ p.entries ∙ ap (λ (o : Op). (plain o es).entries) same,
        ))
        (λ none. not_both (old none.0.key none.0.lot none.0.way (sym same ∙ none.0.inserts)) none.0.missing)
        ended.how

    ended_plainly : AsPlainList s op
    ended_plainly = by_step (step_of st ws inv s)

-- ---- all calls

-- more calls before, and more calls behind
ends_later : (st : State) (ws : List ℕ) (c : Call) (between first : List Call) (s : ℕ) (op : Op) (a : Answer)
    → EndsAmong (called st ws c).state (called st ws c).words between first s op a → EndsAmong st ws (c ∷ between) (c ∷ first) s op a
unfolding run
ends_later st ws c between first s op a e =
    record { rest = e.rest; whole = ap (λ (cs : List Call). c ∷ cs) e.whole; opened = e.opened; answer = e.answer; ends = e.ends }

ends_longer : (st : State) (ws : List ℕ) (between front behind first : List Call) (s : ℕ) (op : Op) (a : Answer) → between ≡ front ++ behind
    → EndsAmong st ws front first s op a → EndsAmong st ws between first s op a
ends_longer st ws between front behind first s op a whole e = record {
  rest = e.rest ++ behind;
  whole = whole ∙ ap (λ (cs : List Call). cs ++ behind) e.whole ∙ append_assoc first (step s ∷ e.rest) behind;
  opened = e.opened;
  answer = e.answer;
  ends = e.ends;
}

-- the first of the calls
ends_first : (st : State) (ws : List ℕ) (c : Call) (between : List Call) (s : ℕ) (op : Op) (a : Answer) → c ≡ step s → Opened st s op
    → (stepped st ws s).answer ≡ a → is_one_of a ending ≡ true → EndsAmong st ws (c ∷ between) [] s op a
unfolding run
ends_first st ws c between s op a e opened answer counts =
    record { rest = between; whole = ap (λ (d : Call). d ∷ between) e; opened = opened; answer = answer; ends = counts }

-- No deletion of x ends among the calls.
abbrev Undeleted : ℕ → State → List ℕ → List Call → Type 0
Undeleted x st ws between = (first : List Call) (s v : ℕ) (way : Way) → EndsAmong st ws between first s (Delete x way) (Deleted v) → ⊥

-- Where calls have left off, with the lot x there that was there with information v when they began.
record Later (x v : ℕ) (st : State) (ws : List ℕ) (between : List Call) : Type 0 where
  holds : Invariant (run between st ws).state (run between st ws).words
  rising : rises (entries_in (run between st ws).state (run between st ws).words holds) ≡ true
  now : ℕ
  there : Among x now (entries_in (run between st ws).state (run between st ws).words holds)
  from : (now ≡ v) ⊎ PutBy st ws between x now

module _ (x : ℕ) where
  put_later : (st : State) (ws : List ℕ) (c : Call) (cs : List Call) (v : ℕ) → PutBy (called st ws c).state (called st ws c).words cs x v → PutBy st ws (c ∷ cs) x v
  put_later st ws c cs v p = record {
    first = c ∷ p.first;
    slot = p.slot;
    way = p.way;
    old = p.old;
    ended = ends_later st ws c cs p.first p.slot (Regrade x v p.way) (Regraded p.old) p.ended;
  }

  module _ (st : State) (ws : List ℕ) (inv : Invariant st ws) (v : ℕ) (r : rises (entries_in st ws inv) ≡ true) (a : Among x v (entries_in st ws inv))
      (c : Call) (cs : List Call) (kept : Undeleted x st ws (c ∷ cs)) where
    -- the call is no deletion of it that ends
    not_deleted : (s : ℕ) (op : Op) → c ≡ step s → Opened st s op → (stepped st ws s).answer ≡ (plain op (entries_in st ws inv)).answer → (way : Way) → op ≡ Delete x way → ⊥
    unfolding member
    not_deleted s op e runs answer way deletes =
        let facts = plain_facts (entries_in st ws inv) r in
        kept [] s v way
        (ends_first st ws c cs s (Delete x way) (Deleted v) e (subst (Opened st s) deletes runs)
        (answer ∙ ap (λ (o : Op). (plain o (entries_in st ws inv)).answer) deletes ∙ answer_by facts (Delete x way) ∙ facts.deletes x v a) refl)

    -- the lot after the call, its information, and that keys still rise
    abbrev NextSo : List Entry → Type 0
    NextSo es = (w : ℕ) × Among x w es × (rises es ≡ true) × ((w ≡ v) ⊎ PutBy st ws (c ∷ cs) x w)

    next_so : (es : List Entry) → OnEntries st ws inv c es → NextSo es
    unfolding member
    next_so _ (keeps e) = (v, subst (Among x v) (sym e) a, ap rises e ∙ r, inl refl)
    next_so _ (ends s op e runs answer after) =
        let facts = plain_facts (entries_in st ws inv) r in
        let still = plain_keeps x v (entries_in st ws inv) r a op (not_deleted s op e runs answer) in (
          still.now,
          subst (Among x still.now) (sym after) still.there,
          ap rises after ∙ facts.rising op,
          ⊎_elim inl
              (λ (way, g). inr (record {
                first = [];
                slot = s;
                way = way;
                old = v;
                ended = ends_first st ws c cs s (Regrade x still.now way) (Regraded v) e (subst (Opened st s) g runs)
                    (answer ∙ ap (λ (o : Op). (plain o (entries_in st ws inv)).answer) g ∙ answer_by facts (Regrade x still.now way) ∙ facts.regrades x still.now v a) refl;
              }))
              still.from,
        )

  -- where its information comes from, one call earlier
  from_first : (st : State) (ws : List ℕ) (c : Call) (cs : List Call) (v w u : ℕ) → (w ≡ v) ⊎ PutBy st ws (c ∷ cs) x w
      → (u ≡ w) ⊎ PutBy (called st ws c).state (called st ws c).words cs x u → (u ≡ v) ⊎ PutBy st ws (c ∷ cs) x u
  from_first st ws c cs v w u from (inl same) = subst (λ (i : ℕ). (i ≡ v) ⊎ PutBy st ws (c ∷ cs) x i) (sym same) from
  from_first st ws c cs v w u from (inr p) = inr (put_later st ws c cs u p)

  stays : (cs : List Call) (st : State) (ws : List ℕ) (inv : Invariant st ws) (v : ℕ) → rises (entries_in st ws inv) ≡ true → Among x v (entries_in st ws inv)
      → InWords cs → Undeleted x st ws cs → Later x v st ws cs
  unfolding run
  stays [] st ws inv v r a h kept = record { holds = inv; rising = r; now = v; there = a; from = inl refl }
  stays (c ∷ cs) st ws inv v r a h kept =
      let after : Invariant (called st ws c).state (called st ws c).words = call_keeps st ws inv c h.0 in
      let (w, b, up, from) = next_so st ws inv v r a c cs kept (entries_in (called st ws c).state (called st ws c).words after)
      (call_does st ws inv c after.height after.tree (forms_after st ws inv c h.0)) in
      let later = stays cs (called st ws c).state (called st ws c).words after w up b h.1
      (λ first s u way e. kept (c ∷ first) s u way (ends_later st ws c cs first s (Delete x way) (Deleted u) e)) in
      record {
        holds = later.holds;
        rising = later.rising;
        now = later.now;
        there = later.there;
        from = from_first st ws c cs v w later.now from later.from;
      }

-- ---- whoever asks

module _ (x : ℕ) (st : State) (ws : List ℕ) (inv : Invariant st ws) (r : rises (entries_in st ws inv) ≡ true) (between : List Call)
    (words : InWords between) (h : NotDeleted st ws between x) where
  -- where the first of the calls have left off
  at : (first rest : List Call) → between ≡ first ++ rest → Later x h.there.0 st ws first
  at first rest e =
      let began = h.there.1 in
      stays x first st ws inv h.there.0 r
      (subst (Among x h.there.0) (same_entries st.k st.n ws began.height began.tree inv.height inv.tree began.forms inv.forms) began.there)
      (words_before first rest (subst InWords e words))
      (λ earlier s u way d. h.kept earlier s u way (ends_longer st ws between first rest earlier s (Delete x way) (Deleted u) e d))

  is_there : (first : List Call) (v : ℕ) (later : Later x v st ws first) → IsThere (run first st ws).state (run first st ws).words x later.now
  is_there first v later = record { height = later.holds.height; tree = later.holds.tree; forms = later.holds.forms; there = later.there }

  -- the information there is that of the tree's entries
  told_there : (first : List Call) (v w : ℕ) (later : Later x v st ws first) → IsThere (run first st ws).state (run first st ws).words x w
      → information x (entries_in (run first st ws).state (run first st ws).words later.holds) ≡ w
  told_there first v w later t =
      let here : State = (run first st ws).state in
      let inv' = later.holds in
      among_information x w (entries_in here (run first st ws).words inv')
      (subst (Among x w) (same_entries here.k here.n (run first st ws).words t.height t.tree inv'.height inv'.tree t.forms inv'.forms) t.there)
      later.rising

  -- an operation that ends among the calls
  module _ (first : List Call) (s : ℕ) (op : Op) (a : Answer) (e : EndsAmong st ws between first s op a) where
    abbrev here : State
    here = (run first st ws).state

    abbrev lying : List ℕ
    lying = (run first st ws).words

    later : Later x h.there.0 st ws first
    later = at first (step s ∷ e.rest) e.whole

    abbrev lots : List Entry
    lots = entries_in here lying later.holds

    facts_here : PlainFacts lots
    facts_here = plain_facts lots later.rising

    lot_there : IsThere here lying x later.now
    lot_there = is_there first h.there.0 later

    -- which inserts no other key
    module _ (old : (y u : ℕ) (way : Way) → op ≡ Insert y u way → x ≡ y) where
      as_plain : AsPlainList here lying later.holds s op
      as_plain =
          ended_plainly here lying later.holds s op e.opened (ap (λ (b : Answer). is_one_of b ending) e.answer ∙ e.ends)
          (λ y u way i. subst (λ (z : ℕ). has z lots ≡ true) (old y u way i) (among_has x later.now lots later.there))

      answered : a ≡ (plain op lots).answer
      answered = sym e.answer ∙ as_plain.0

  -- an operation on the lot inserts no other key
  on_it : {op : Op} → x ≡ key_of op → (y u : ℕ) (way : Way) → op ≡ Insert y u way → x ≡ y
  on_it key y u way i = key ∙ ap key_of i

  -- a regrading leaves the new information
  module _ (first : List Call) (s w : ℕ) (way : Way) (a : Answer) (e : EndsAmong st ws between first s (Regrade x w way) a) where
    abbrev old : State
    old = (run first st ws).state

    abbrev pool : List ℕ
    pool = (run first st ws).words

    new_stepped : IsThere (called old pool (step s)).state (called old pool (step s)).words x w
    unfolding called
    new_stepped =
        let lot = later first s (Regrade x w way) a e in
        let after : Invariant (called old pool (step s)).state (called old pool (step s)).words = call_keeps old pool lot.holds (step s) tt in
        record {
          height = after.height;
          tree = after.tree;
          forms = after.forms;
          there = record {
            before = lot.there.before;
            after = lot.there.after;
            whole = (as_plain first s (Regrade x w way) a e (on_it refl)).1 after.height after.tree (forms_after old pool lot.holds (step s) tt)
                ∙ entries_by (facts_here first s (Regrade x w way) a e) (Regrade x w way)
                ∙ (facts_here first s (Regrade x w way) a e).regraded_there x w lot.now lot.there;
          };
        }

    new_there : IsThere (run (first ++ step s ∷ []) st ws).state (run (first ++ step s ∷ []) st ws).words x w
    unfolding run
    new_there =
        let same = run_append first (step s ∷ []) st ws in
        subst (λ (next : State). IsThere next (run (first ++ step s ∷ []) st ws).words x w) (sym same.0)
        (subst (λ (after : List ℕ). IsThere (called old pool (step s)).state after x w) (sym same.1) new_stepped)

  searches : (first : List Call) (s : ℕ) (a : Answer) (e : EndsAmong st ws between first s (Search x) a)
      → (v : ℕ) × (a ≡ Found v) × IsThere (run first st ws).state (run first st ws).words x v
  searches first s a e =
      let lot = later first s (Search x) a e in (
        lot.now,
        answered first s (Search x) a e (on_it refl) ∙ (facts_here first s (Search x) a e).finds x lot.now lot.there,
        lot_there first s (Search x) a e,
      )

  regrades : (first : List Call) (s w : ℕ) (way : Way) (a : Answer) (e : EndsAmong st ws between first s (Regrade x w way) a)
      → (v : ℕ) × (a ≡ Regraded v) × IsThere (run first st ws).state (run first st ws).words x v
      × IsThere (run (first ++ step s ∷ []) st ws).state (run (first ++ step s ∷ []) st ws).words x w
  regrades first s w way a e =
      let lot = later first s (Regrade x w way) a e in (
        lot.now,
        answered first s (Regrade x w way) a e (on_it refl) ∙ answer_by (facts_here first s (Regrade x w way) a e) (Regrade x w way) ∙ (facts_here first s (Regrade x w way) a e).regrades x w lot.now lot.there,
        lot_there first s (Regrade x w way) a e,
        new_there first s w way a e,
      )

  never_nowhere : NeverNowhere st ws between x
  never_nowhere = record {
    always = λ first rest e.
        let lot = at first rest e in (
          lot.now,
          is_there first h.there.0 lot,
          ⊎_elim (λ same. inl (subst (IsThere st ws x) (sym same) h.there.1)) (λ p. inr p) lot.from,
        );
    single = λ first rest v w e one other.
        let lot = at first rest e in
        sym (told_there first h.there.0 v lot one) ∙ told_there first h.there.0 w lot other;
    searched = searches;
    never_not_found = λ first s e. let (v, same, _) = searches first s NotFound e in clashes same (λ q. omega (arith, q));
    regraded = regrades;
    never_no_such_key = λ first s w way e. let (v, same, _, _) = regrades first s w way NoSuchKey e in clashes same (λ q. omega (arith, q));
    already = λ first s w way a e.
        let lot = later first s (Insert x w way) a e in (
          lot.now,
          answered first s (Insert x w way) a e (on_it refl) ∙ answer_by (facts_here first s (Insert x w way) a e) (Insert x w way) ∙ (facts_here first s (Insert x w way) a e).already x w lot.now lot.there,
          lot_there first s (Insert x w way) a e,
        );
    nexts = λ first s y a low e.
        let lot = later first s (Next y) a e in
        let (z, w, told, next) = next_plain x lot.now (lots first s (Next y) a e) lot.rising lot.there y low in (
          z,
          w,
          answered first s (Next y) a e (λ z u way i. absurd (true≢false (ap only_reads i))) ∙ told,
          next.above,
          next.first x lot.now lot.there low,
          record { height = lot.holds.height; tree = lot.holds.tree; forms = lot.holds.forms; there = next.there },
        );
    never_deleted = λ first s way a e.
        let lot = later first s (Delete x way) a e in
        let same : a ≡ Deleted lot.now
        = answered first s (Delete x way) a e (on_it refl) ∙ answer_by (facts_here first s (Delete x way) a e) (Delete x way) ∙ (facts_here first s (Delete x way) a e).deletes x lot.now lot.there in
        h.kept first s lot.now way (subst (EndsAmong st ws between first s (Delete x way)) same e);
  }

-- ---- the theorem

pub regrading_holds : RegradingHolds
regrading_holds start before between x r h =
    let st : State = (run_from start before).state in
    let after : List ℕ = (run_from start before).words in
    let inv : Invariant st after = holds_after start before (run_before start (before ++ between) before between refl r) in
    never_nowhere x st after inv (tree_rises st after inv) between (words_behind before between r.in_words) h
