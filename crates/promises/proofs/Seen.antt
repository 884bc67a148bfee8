-- The lot that a Next answers stands on the leaf that its last step was granted: read off the rule.
use Prim.Native.Nat.{ℕ, ◌<◌}
use mathlib.Core.Bool.{true, false, not, ◌&&◌, false≢true}
use mathlib.Core.List.{List, [], ◌∷◌, reverse}
use mathlib.Core.Path.{◌≡◌, refl, sym, ap, ◌∙◌, subst}
use borrow.Author.Tests.{eqb-true}
use lib.Dec.{leb, ltb, eqb}
use lib.ListN.{length, get_or}
use Rattle.ground.specs.Limits.{slot_count}
use Rattle.ground.proofs.Bools.{not_both}
use Rattle.ground.proofs.Choice.{by_test, cond_ind, cond-true, cond-false}
use Rattle.page.specs.Words.{Entry, Page, is_leaf}
use Rattle.page.specs.Place.{has, information, at_or_above}
use Rattle.pool.specs.Pool.{page_at, free_pages}
use Rattle.change.specs.Insertion.{room}
use Rattle.change.specs.Deletion.{Need, nothing, sibling, astray, needs}
use Rattle.slots.specs.declared.Op.{Op}
use Rattle.slots.specs.declared.Op.TheVariants.{Search, Insert, Delete, Next, Regrade}
use Rattle.slots.specs.declared.State.{State}
use Rattle.slots.specs.declared.Answer.{Answer}
use Rattle.slots.specs.declared.Answer.TheVariants.{Moved, Found, NotFound, Inserted, AlreadyThere, Deleted, NoSuchKey, NoRoom, Damaged, None as NoLot, Regraded}
use Rattle.slots.specs.Parts.{key_of, is_next, is_second, Stand, converting, on_pages, want_beside, want_converted, stand_of, slot_at, want_at, Opened}
use Rattle.slots.specs.Heard.{heard, number_of}
use Rattle.slots.specs.Grant.{grants}
use Rattle.footing.specs.Granted.{Verdict, broken, goes, ends, is_safe, by_need, deletes, next_answer, crosses, by_nearest, stays_second, converted_first, at_leaf, from_leaf, by_way_at_leaf, comes_down, goes_left, besides, converts, at_its_leaf, granted}
use Rattle.footing.proofs.OnTurn.{converted_by}
use Rattle.footing.specs.Fitting.{sound_for_step, verdict}
use Rattle.index.specs.Step.{Left, acted, stepped}
use Rattle.runs.specs.PlainFacts.{Among}
use Rattle.runs.proofs.Invariant.{Invariant}
use Rattle.runs.proofs.PlainLaws.{among_later}
use Rattle.runs.proofs.Calls.{granted_does}
use Rattle.runs.proofs.Locking.{updates_not_next, third_updates}
use Rattle.runs.proofs.Verdicts.{comes_down_by, turn_parts, sound_turn}
use Rattle.promises.specs.Demand2.{Seen}

-- every answer but Next tells of no lot
no_next : (P : Page) (a : Answer) → eqb (number_of a) 44 ≡ false → Seen P a
no_next P a other y v e = absurd (false≢true (sym other ∙ ap (λ (b : Answer). eqb (number_of b) 44) e))

-- the first of entries that stand on a leaf
first_seen : (P : Page) → is_leaf P ≡ true → (es : List Entry) → ((y v : ℕ) → Among y v es → Among y v P.entries) → Seen P (next_answer es)
first_seen P leaf [] inside = no_next P NoLot refl
first_seen P leaf (e ∷ es) inside =
    λ y v told. (
      eqb-true P.level 1 leaf,
      inside y v
          (subst (λ (w : ℕ). Among y w (e ∷ es)) (ap (λ (a : Answer). get_or (heard a) 2 0) told)
          (subst (λ (z : ℕ). Among z e.value (e ∷ es)) (ap (λ (a : Answer). get_or (heard a) 1 0) told) (record { before = []; after = es; whole = refl }))),
    )

-- the entries at or above a key are some of the entries
above_among : (x : ℕ) (es : List Entry) (y v : ℕ) → Among y v (at_or_above x es) → Among y v es
unfolding at_or_above
above_among x [] y v a = a
above_among x (e ∷ es) y v a =
    by_test (leb x e.key)
    (λ t. subst (Among y v) (cond-true (e ∷ es) (at_or_above x es) t) a)
    (λ f. among_later y v e es (above_among x es y v (subst (Among y v) (cond-false (e ∷ es) (at_or_above x es) f) a)))

-- a lot that is told at the end stands on this leaf
abbrev SeenBy : Page → Verdict → Type 0
SeenBy P broken = Unit {0}
SeenBy P (goes z) = Unit {0}
SeenBy P (ends answer writes) = Seen P answer

-- ---- at the leaf

crosses_seen : (P : Page) (x k : ℕ) (memory : ℕ → Page) (z : Stand) (path : List ℕ) → SeenBy P (crosses x k memory z path)
crosses_seen P x k memory z [] = tt
crosses_seen P x k memory z (top ∷ below) = cond_ind (SeenBy P) (is_safe (Next x) k (memory top)) (λ _. tt) (λ _. no_next P NoLot refl)

nearest_seen : (P : Page) → is_leaf P ≡ true → (further : Verdict) → SeenBy P further → (es : List Entry)
    → ((y v : ℕ) → Among y v es → Among y v P.entries) → SeenBy P (by_nearest further es)
nearest_seen P leaf further h [] inside = h
nearest_seen P leaf further h (e ∷ es) inside = first_seen P leaf (e ∷ es) inside

need_seen : (P : Page) (z : Stand) (whole : Verdict) → SeenBy P whole → (n : Need) → SeenBy P (by_need z whole n)
need_seen P z whole h nothing = h
need_seen P z whole h (sibling s) = tt
need_seen P z whole h astray = tt

deletes_seen : (P : Page) (k : ℕ) (memory : ℕ → Page) (x : ℕ) (z : Stand) (leaf : ℕ) (fathers : List ℕ) → SeenBy P (deletes k memory x z leaf fathers)
unfolding deletes
deletes_seen P k memory x z leaf fathers =
    need_seen P z _ (no_next P (Deleted (information x (memory leaf).entries)) refl) (needs k memory x leaf fathers z.beside)

-- who does not ask for the next lot tells none
plain_seen : (P : Page) (op : Op) (k : ℕ) (memory : ℕ → Page) (free : List ℕ) (z : Stand) (leaf : ℕ) (fathers : List ℕ) → is_next op ≡ false
    → SeenBy P (at_leaf op k memory free z leaf fathers)
unfolding at_leaf
plain_seen P (Search x) k memory free z leaf fathers n =
    cond_ind (Seen P) (has x (memory leaf).entries)
    (λ _. no_next P (Found (information x (memory leaf).entries)) refl)
    (λ _. no_next P NotFound refl)
plain_seen P (Insert x v way) k memory free z leaf fathers n =
    cond_ind (SeenBy P) (has x (memory leaf).entries)
    (λ _. no_next P (AlreadyThere (information x (memory leaf).entries)) refl)
    (λ _.
    cond_ind (SeenBy P) (ltb (length free) (room k memory leaf z.path))
    (λ _. no_next P NoRoom refl)
    (λ _. no_next P Inserted refl))
plain_seen P (Delete x way) k memory free z leaf fathers n =
    cond_ind (SeenBy P) (has x (memory leaf).entries)
    (λ _. deletes_seen P k memory x z leaf fathers)
    (λ _. no_next P NoSuchKey refl)
plain_seen P (Next x) k memory free z leaf fathers n = not_both refl n
plain_seen P (Regrade x v way) k memory free z leaf fathers n =
    cond_ind (SeenBy P) (has x (memory leaf).entries)
    (λ _. no_next P (Regraded (information x (memory leaf).entries)) refl)
    (λ _. no_next P NoSuchKey refl)

leaf_seen : (op : Op) (k : ℕ) (memory : ℕ → Page) (free : List ℕ) (z : Stand) (leaf : ℕ) (fathers : List ℕ) → is_leaf (memory leaf) ≡ true
    → SeenBy (memory leaf) (at_leaf op k memory free z leaf fathers)
unfolding at_leaf
leaf_seen (Search x) k memory free z leaf fathers h = plain_seen (memory leaf) (Search x) k memory free z leaf fathers refl
leaf_seen (Insert x v way) k memory free z leaf fathers h = plain_seen (memory leaf) (Insert x v way) k memory free z leaf fathers (updates_not_next (Insert x v way) refl)
leaf_seen (Delete x way) k memory free z leaf fathers h = plain_seen (memory leaf) (Delete x way) k memory free z leaf fathers (updates_not_next (Delete x way) refl)
leaf_seen (Next x) k memory free z leaf fathers h =
    nearest_seen (memory leaf) h (crosses x k memory z z.path) (crosses_seen (memory leaf) x k memory z z.path)
    (at_or_above x (memory leaf).entries) (above_among x (memory leaf).entries)
leaf_seen (Regrade x v way) k memory free z leaf fathers h = plain_seen (memory leaf) (Regrade x v way) k memory free z leaf fathers (updates_not_next (Regrade x v way) refl)

-- by its way: where it begins again it tells nothing
way_seen : (k : ℕ) (memory : ℕ → Page) (free : List ℕ) (z : Stand) (leaf : ℕ) (fathers : List ℕ) → is_leaf (memory leaf) ≡ true
    → SeenBy (memory leaf) (by_way_at_leaf k memory free z leaf fathers)
way_seen k memory free z leaf fathers h =
    cond_ind (SeenBy (memory leaf)) (is_second z.op && not (stays_second z.op k memory leaf)) (λ _. tt)
    (λ _.
    converted_by (SeenBy (memory leaf)) k memory z leaf fathers (at_leaf z.op k memory free z leaf fathers)
    (leaf_seen z.op k memory free z leaf fathers h) (λ _. tt))

-- ---- a granted step

module _ (k : ℕ) (memory : ℕ → Page) (free : List ℕ) (z : Stand) where
  abbrev P : Page
  P = memory z.want

  -- coming down, what is told at the leaf is told at the granted page
  coming_seen : SeenBy P (comes_down k memory free z)
  coming_seen = comes_down_by (SeenBy P) k memory free z (λ leaf path locks fathers. way_seen k memory free (on_pages z path locks [] []) z.want fathers leaf) (λ _. tt)

  left_seen : SeenBy P (goes_left memory z)
  unfolding goes_left
  left_seen = cond_ind (SeenBy P) (is_leaf P) (λ leaf. first_seen P leaf (at_or_above (key_of z.op) P.entries) (above_among (key_of z.op) P.entries)) (λ _. tt)

  -- a step that converts first tells nothing by that
  first_converts : (y : Stand) (act : ℕ → List ℕ → Verdict) → ((leaf : ℕ) (fathers : List ℕ) → SeenBy P (act leaf fathers)) → (up : List ℕ)
      → SeenBy P (from_leaf (λ (leaf : ℕ) (fathers : List ℕ). converted_first k memory y leaf fathers (act leaf fathers)) up)
  first_converts y act each [] = tt
  first_converts y act each (leaf ∷ fathers) = converted_by (SeenBy P) k memory y leaf fathers (act leaf fathers) (each leaf fathers) (λ _. tt)

  beside_seen : SeenBy P (besides k memory z)
  unfolding besides
  beside_seen = cond_ind (SeenBy P) (is_next z.op) (λ _. left_seen)
      (λ _. first_converts (want_beside z) (deletes k memory (key_of z.op) (want_beside z)) (deletes_seen P k memory (key_of z.op) (want_beside z)) (reverse z.path))

  turn_seen : is_next z.op ≡ false → SeenBy P (converts k memory free z)
  unfolding converts
  turn_seen other =
      first_converts (want_converted z) (at_leaf z.op k memory free (want_converted z))
      (λ leaf fathers. plain_seen P z.op k memory free (want_converted z) leaf fathers other) (reverse z.path)

  granted_seen : (converting z ≡ true → is_next z.op ≡ false) → SeenBy P (granted k memory free z)
  unfolding granted
  granted_seen other =
      cond_ind (SeenBy P) (converting z)
      (λ own. turn_seen (other own))
      (λ _. cond_ind (SeenBy P) (at_its_leaf memory (reverse z.path)) (λ _. beside_seen) (λ _. coming_seen))

verdict_seen : (k n : ℕ) (ws : List ℕ) (z : Stand) → SeenBy (page_at k ws z.want) (verdict k n ws z)
unfolding verdict
verdict_seen k n ws z =
    cond_ind (SeenBy (page_at k ws z.want)) (sound_for_step k n ws z)
    (λ fits.
    granted_seen k (page_at k ws) (free_pages k n ws) z
    (λ own. updates_not_next z.op (third_updates z.op (turn_parts k (page_at k ws) z (reverse z.path) (sound_turn k n ws z fits own)).0)))
    (λ _. tt)

acted_seen : (P : Page) (st : State) (ws : List ℕ) (s : ℕ) (v : Verdict) → SeenBy P v → Seen P (acted st ws s v).answer
acted_seen P st ws s broken h = no_next P Damaged refl
acted_seen P st ws s (goes z) h = no_next P Moved refl
acted_seen P st ws s (ends answer writes) h = h

-- what a granted step of a run tells stands on the page that it was granted
pub step_seen : (st : State) (ws : List ℕ) (inv : Invariant st ws) (s : ℕ) (op : Op) → s < slot_count → Opened st s op → grants st s ≡ true
    → Seen (page_at st.k ws (want_at st s)) (stepped st ws s).answer
step_seen st ws inv s op b runs g =
    let P : Page = page_at st.k ws (want_at st s) in
    let z : Stand = stand_of op (slot_at st s) in
    subst (λ (r : Left). Seen P r.answer) (sym (granted_does st ws inv s op b runs g))
    (acted_seen P st ws s (verdict st.k st.n ws z) (verdict_seen st.k st.n ws z))
