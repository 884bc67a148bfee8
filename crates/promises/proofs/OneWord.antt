-- A regrading writes one word, the information under its key: of every state and all words. The page that is written is sound by
-- itself, for the step has tested it; so its words are those of its value, and the changed value's differ in one.
use Prim.Native.Nat.{ℕ, ◌+◌, ◌-◌, ◌*◌, ◌≤◌, ◌<◌}
use mathlib.Core.Bool.{Bool, true, false, not, ◌&&◌}
use mathlib.Core.List.{List, [], ◌∷◌, ◌++◌, reverse, append_assoc}
use mathlib.Core.Path.{◌≡◌, refl, sym, ap, ◌∙◌, subst}
use native.Mathlib.Omega.{arith}
use borrow.Author.Tests.{not-false, ltb-true, eqb-true, eqb-false}
use borrow.Rule.Slice.PartMut.{set_mid_at}
use lib.Dec.{ltb, eqb}
use lib.ListN.{length, get_or, set, take, drop, length-set}
use lib.Seq.{sets, sets-eq, get_or-take, get_or-drop, drop-drop}
use Rattle.ground.specs.Limits.{slot_count}
use Rattle.ground.specs.Tests.{member}
use Rattle.ground.proofs.Bools.{not_both, and_first, or_first, or_second}
use Rattle.ground.proofs.Choice.{cond_ind}
use Rattle.ground.proofs.Tests.{all_member, member_append, member_here, member_first}
use Rattle.page.specs.Words.{Entry, Page, size, pairs_from, view}
use Rattle.page.specs.Place.{place, has, information}
use Rattle.page.specs.Sound.{sound_by_itself}
use Rattle.page.proofs.PlaceLaws.{place_most, has_place, information_at}
use Rattle.page.proofs.ReadingLaws.{key_word, value_word}
use Rattle.sheet.proofs.WritingLaws.{Bounds, bounds, regrade_exact}
use Rattle.pool.specs.Pool.{pool_length, start, words_of, page_at, written, applied, free_pages}
use Rattle.pool.proofs.StretchLaws.{ends_in_pool}
use Rattle.change.specs.Deletion.{Need, nothing, sibling, astray, needs}
use Rattle.change.specs.Regrading.{regrading}
use Rattle.change.proofs.HeldLaws.{Known, held_page}
use Rattle.slots.specs.declared.Op.TheVariants.{Regrade}
use Rattle.slots.specs.declared.Way.{Way}
use Rattle.slots.specs.declared.Task.{Task}
use Rattle.slots.specs.declared.Slot.{Slot}
use Rattle.slots.specs.declared.State.{State}
use Rattle.slots.specs.declared.Answer.{Answer}
use Rattle.slots.specs.declared.Answer.TheVariants.{Waiting, Moved, Deleted, NoSuchKey, BadState, BadPool, BadSlot, Damaged, Regraded}
use Rattle.slots.specs.declared.Under.{Under}
use Rattle.slots.specs.Parts.{is_open, is_next, is_second, held, Stand, holding, converting, on_pages, want_beside, want_converted, with_op, stand_of, slot_at}
use Rattle.slots.specs.Heard.{heard, number_of}
use Rattle.slots.specs.Grant.{grants}
use Rattle.slots.specs.Sound.{sound}
use Rattle.slots.proofs.SoundFacts.{SoundState, sound_facts}
use Rattle.footing.specs.Granted.{Verdict, broken, goes, ends, by_need, deletes, stays_second, converted_first, at_leaf, from_leaf, by_way_at_leaf, besides, converts, at_its_leaf, granted}
use Rattle.footing.proofs.OnTurn.{converted_by}
use Rattle.footing.specs.Fitting.{pages_sound, fitting, next_is_new, sound_for_step, verdict}
use Rattle.index.specs.Step.{Left, acted, stepped_task, stepped}
use Rattle.runs.proofs.Paths.{member_reverse}
use Rattle.runs.proofs.Locking.{updates_not_next}
use Rattle.runs.proofs.PlainLaws.{clashes}
use Rattle.runs.proofs.Verdicts.{comes_down_by}
use Rattle.promises.specs.Regrading.{OneWord, RegradingWrites}

-- ---- one word of a part is one word of the whole

part_set : (a m j v : ℕ) (ws : List ℕ) → a + m ≤ length ws → length (take m (drop a ws)) ≡ m → j < m
    → sets ws a (set (take m (drop a ws)) j v) ≡ set ws (a + j) v
part_set a m j v ws room long h =
    let new : List ℕ = set (take m (drop a ws)) j v in
    let same : length new ≡ m = length-set (take m (drop a ws)) j v ∙ long in
    sets-eq new ws a (omega arith)
    ∙ append_assoc (take a ws) new (drop (a + length new) ws)
    ∙ ap (λ (z : ℕ). take a ws ++ (new ++ drop (a + z) ws)) same
    ∙ ap (λ (r : List ℕ). take a ws ++ (new ++ r)) (sym (drop-drop m a ws))
    ∙ set_mid_at a m j ws v (omega arith)

-- ---- the page

page_writes : {k n p : ℕ} {ws : List ℕ} (x new : ℕ) → Known k n ws p → has x (page_at k ws p).entries ≡ true
    → OneWord ws (applied k (regrading (page_at k ws) x new p) ws) x (information x (page_at k ws p).entries) new
unfolding page_at words_of written applied regrading
page_writes {k} {n} {p} {ws} x new known there =
    let W : List ℕ = words_of k p ws in
    let es : List Entry = (view W).entries in
    let from : ℕ = pairs_from (get_or W 0 0) in
    let behind : ℕ = place x es in
    let i : ℕ = from + 2 * (behind - 1) in
    let a : ℕ = start k p in
    let near : Bounds k W = bounds known.exact in
    let stands = has_place x es known.facts.rising there in
    let before : behind ≤ length es = place_most x es in
    let room : a + size k ≤ length ws = omega (arith, ends_in_pool k n p known.in_pool.inside, known.in_pool.whole) in
    let inside : i + 1 < size k = omega (arith, near, stands.0) in
    let next : from + 2 * behind - 1 ≡ i + 1 = omega (arith, stands.0) in
    let word : a + (i + 1) ≡ a + i + 1 = omega arith in
    -- word j of the page is word a + j of the pool
    let read : (j : ℕ) → j < size k → get_or ws (a + j) 0 ≡ get_or W j 0 = λ j h.
    sym (get_or-drop a ws j 0) ∙ sym (get_or-take (size k) (drop a ws) j 0 h) in
    record {
      at = a + i;
      inside = omega arith;
      key =
          read i (omega arith)
          ∙ sym (key_word W known.readable from (behind - 1) refl (omega (arith, near, stands.0)))
          ∙ stands.1;
      was =
          ap (λ (z : ℕ). get_or ws z 0) (sym word)
          ∙ read (i + 1) inside
          ∙ sym (value_word W known.readable from (behind - 1) refl (omega (arith, near, stands.0)))
          ∙ sym (information_at x es known.facts.rising (behind - 1) (omega (arith, stands.0)) stands.1);
      words =
          ap (sets ws a) (sym (regrade_exact known.exact x new refl refl known.facts.rising there))
          ∙ ap (λ (j : ℕ). sets ws a (set W j new)) next
          ∙ part_set a (size k) (i + 1) new ws room near.long inside
          ∙ ap (λ (z : ℕ). set ws z new) word;
    }

-- ---- the step

-- a verdict that answers Regraded writes one word
abbrev Writes : ℕ → List ℕ → ℕ → ℕ → ℕ → Verdict → Type 0
Writes k ws x new old broken = Unit {0}
Writes k ws x new old (goes z) = Unit {0}
Writes k ws x new old (ends answer writes) = answer ≡ Regraded old → OneWord ws (applied k writes ws) x old new

-- another answer is not Regraded
another : {A : Type 0} {old : ℕ} (a : Answer) → eqb (number_of a) (number_of (Regraded 0)) ≡ false → a ≡ Regraded old → A
another a other e = clashes e (eqb-false (number_of a) (number_of (Regraded 0)) other)

module _ (k n : ℕ) (ws : List ℕ) (x new old : ℕ) (way : Way) (z₀ : Stand) where
  abbrev z : Stand
  z = with_op (Regrade x new way) z₀

  abbrev memory : ℕ → Page
  memory = page_at k ws

  abbrev Wrote : Verdict → Type 0
  Wrote = Writes k ws x new old

  -- a deletion's verdict answers otherwise
  need_writes : (y : Stand) (whole : Verdict) → Wrote whole → (need : Need) → Wrote (by_need y whole need)
  need_writes y whole h nothing = h
  need_writes y whole h (sibling s) = tt
  need_writes y whole h astray = tt

  beside_writes : (up : List ℕ)
      → Wrote (from_leaf (λ (leaf : ℕ) (fathers : List ℕ). converted_first k memory (want_beside z) leaf fathers (deletes k memory x (want_beside z) leaf fathers)) up)
  unfolding deletes
  beside_writes [] = tt
  beside_writes (leaf ∷ fathers) =
      converted_by Wrote k memory (want_beside z) leaf fathers (deletes k memory x (want_beside z) leaf fathers)
      (need_writes (want_beside z) _ (another (Deleted (information x (memory leaf).entries)) refl) (needs k memory x leaf fathers (z.beside ++ z.want ∷ [])))
      (λ _. tt)

  leaf_writes : (y : Stand) (leaf : ℕ) (fathers : List ℕ) → Known k n ws leaf
      → Wrote (at_leaf (Regrade x new way) k memory (free_pages k n ws) y leaf fathers)
  unfolding at_leaf
  leaf_writes y leaf fathers known =
      cond_ind Wrote (has x (memory leaf).entries)
      (λ there e.
      subst (λ (v : ℕ). OneWord ws (applied k (regrading memory x new leaf) ws) x v new) (ap (λ (a : Answer). get_or (heard a) 1 0) e) (page_writes x new known there))
      (λ _. another NoSuchKey refl)

  -- converting first, it writes what it writes then
  turn_writes : (y : Stand) (leaf : ℕ) (fathers : List ℕ) → Known k n ws leaf
      → Wrote (converted_first k memory y leaf fathers (at_leaf (Regrade x new way) k memory (free_pages k n ws) y leaf fathers))
  turn_writes y leaf fathers known =
      converted_by Wrote k memory y leaf fathers (at_leaf (Regrade x new way) k memory (free_pages k n ws) y leaf fathers) (leaf_writes y leaf fathers known) (λ _. tt)

  -- by its way: where it begins again it writes nothing
  way_writes : Known k n ws z.want → (path : List ℕ) (locks : List Under) (fathers : List ℕ)
      → Wrote (by_way_at_leaf k memory (free_pages k n ws) (on_pages z path locks [] []) z.want fathers)
  way_writes known path locks fathers =
      cond_ind Wrote (is_second z.op && not (stays_second z.op k memory z.want)) (λ _. tt) (λ _. turn_writes (on_pages z path locks [] []) z.want fathers known)

  -- each page that it holds or wants is one that the step has tested
  abbrev Tested : Type 0
  Tested = (p : ℕ) → member p (holding z ++ z.want ∷ []) ≡ true → Known k n ws p

  converts_writes : Tested → (up : List ℕ) → reverse z.path ≡ up
      → Wrote (from_leaf (λ (leaf : ℕ) (fathers : List ℕ).
      converted_first k memory (want_converted z) leaf fathers (at_leaf (Regrade x new way) k memory (free_pages k n ws) (want_converted z) leaf fathers)) up)
  converts_writes known [] e = tt
  converts_writes known (leaf ∷ fathers) e =
      turn_writes (want_converted z) leaf fathers
      (known leaf
      (member_append leaf (holding z) (z.want ∷ [])
      ∙ or_first (member leaf (z.want ∷ []))
      (member_append leaf z.path z.beside
      ∙ or_first (member leaf z.beside) (sym (member_reverse leaf z.path) ∙ ap (member leaf) e ∙ member_here leaf fathers))))

  granted_writes : Tested → Wrote (granted k memory (free_pages k n ws) z)
  unfolding granted converts besides
  granted_writes known =
      cond_ind Wrote (converting z)
      (λ _. converts_writes known (reverse z.path) refl)
      (λ _.
      cond_ind Wrote (at_its_leaf memory (reverse z.path))
      (λ _. cond_ind Wrote (is_next z.op) (λ asks. not_both asks (updates_not_next (Regrade x new way) refl)) (λ _. beside_writes (reverse z.path)))
      (λ _. comes_down_by Wrote k memory (free_pages k n ws) z (λ _ path locks fathers. way_writes (known z.want want_there) path locks fathers) (λ _. tt)))
    where
      want_there : member z.want (holding z ++ z.want ∷ []) ≡ true
      want_there = member_append z.want (holding z) (z.want ∷ []) ∙ or_second (member z.want (holding z)) (member_here z.want [])

  verdict_writes : (sound_for_step k n ws z ≡ true → Tested) → Wrote (verdict k n ws z)
  unfolding verdict
  verdict_writes known = cond_ind Wrote (sound_for_step k n ws z) (λ sure. granted_writes (known sure)) (λ _. tt)

  -- each of them is sound by itself
  page_sound : sound_for_step k n ws z ≡ true → (p : ℕ) → member p (holding z ++ z.want ∷ []) ≡ true → sound_by_itself k n p (words_of k p ws) ≡ true
  unfolding sound_for_step pages_sound
  page_sound sure =
      let pages : Bool = pages_sound k n ws (holding z ++ z.want ∷ []) in
      let fits : Bool = fitting k memory z in
      all_member (λ (p : ℕ). sound_by_itself k n p (words_of k p ws)) (holding z ++ z.want ∷ [])
      (and_first pages fits (and_first (pages && fits) (next_is_new (granted k memory (free_pages k n ws) z)) sure))

acted_writes : (st : State) (ws : List ℕ) (s x new old : ℕ) (v : Verdict) → Writes st.k ws x new old v
    → (acted st ws s v).answer ≡ Regraded old → OneWord ws (acted st ws s v).words x old new
acted_writes st ws s x new old broken h = another Damaged refl
acted_writes st ws s x new old (goes z) h = another Moved refl
acted_writes st ws s x new old (ends answer writes) h = h

pub regrading_writes : RegradingWrites
unfolding stepped
regrading_writes st ws s x new old way opened =
    cond_ind Told (not (sound st)) (λ _. another BadState refl)
    (λ ok. cond_ind Told (not (eqb (length ws) (pool_length st.k st.n))) (λ _. another BadPool refl)
    (λ whole. cond_ind Told (not (ltb s slot_count)) (λ _. another BadSlot refl)
    (λ inside. subst (λ (task : Task). Told (stepped_task st ws s slot task)) (sym opened)
    (cond_ind Told (grants st s)
    (λ _. acted_writes st ws s x new old (verdict st.k st.n ws (stand_of (Regrade x new way) slot))
    (verdict_writes st.k st.n ws x new old way (stand_of (Regrade x new way) slot)
    (known (not-false (sound st) ok) (eqb-true (length ws) (pool_length st.k st.n) (not-false (eqb (length ws) (pool_length st.k st.n)) whole))
    (ltb-true s slot_count (not-false (ltb s slot_count) inside)))))
    (λ _. another Waiting refl)))))
  where
    slot : Slot
    slot = slot_at st s

    Told : Left → Type 0
    Told r = r.answer ≡ Regraded old → OneWord ws r.words x old new

    -- the step has tested the page that it is granted
    known : sound st ≡ true → length ws ≡ pool_length st.k st.n → s < slot_count
        → sound_for_step st.k st.n ws (stand_of (Regrade x new way) slot) ≡ true
        → (p : ℕ) → member p (held slot ++ slot.want ∷ []) ≡ true → Known st.k st.n ws p
    known ok whole inside sure p m =
        let facts : SoundState st = sound_facts st ok in
        let below : p < st.n = (facts.slot s inside).below (ap is_open opened) p (member_first p slot.want (held slot) m) in
        held_page facts.k_most facts.n_most whole
        (record { inside = below; sound = page_sound st.k st.n ws x new old way (stand_of (Regrade x new way) slot) sure p m })
