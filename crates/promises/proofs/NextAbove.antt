-- No key below the one asked is answered: read off the rule, for every state and all words.
use Prim.Native.Nat.{ℕ, ◌≤◌}
use mathlib.Core.Bool.{true, false, not, false≢true, ◌&&◌}
use mathlib.Core.List.{List, [], ◌∷◌, reverse}
use mathlib.Core.Path.{◌≡◌, refl, sym, ap, ◌∙◌, subst}
use lib.Dec.{ltb, eqb}
use lib.ListN.{length, get_or}
use Rattle.ground.specs.Limits.{slot_count}
use Rattle.ground.proofs.Choice.{cond_ind}
use Rattle.page.specs.Words.{Entry, Page, is_leaf}
use Rattle.page.specs.Place.{has, information, at_or_above}
use Rattle.pool.specs.Pool.{pool_length, page_at, free_pages}
use Rattle.change.specs.Insertion.{room}
use Rattle.change.specs.Deletion.{Need, nothing, sibling, astray, needs}
use Rattle.slots.specs.declared.Op.{Op}
use Rattle.slots.specs.declared.Op.TheVariants.{Search, Insert, Delete, Next, Regrade}
use Rattle.slots.specs.declared.Task.{Task}
use Rattle.slots.specs.declared.State.{State}
use Rattle.slots.specs.declared.Answer.{Answer}
use Rattle.slots.specs.declared.Answer.TheVariants.{Waiting, Moved, Found, NotFound, Inserted, AlreadyThere, Deleted, NoSuchKey, NoRoom, BadState, BadPool, BadSlot, Damaged, Next as NextLot, None as NoLot, Regraded}
use Rattle.slots.specs.Parts.{key_of, is_next, is_second, Stand, on_pages, want_beside, want_converted, converting, stand_of, slot_at}
use Rattle.slots.specs.Heard.{heard, number_of}
use Rattle.slots.specs.Grant.{grants}
use Rattle.slots.specs.Sound.{sound}
use Rattle.footing.specs.Granted.{Verdict, broken, goes, ends, is_safe, by_need, deletes, next_answer, crosses, by_nearest, stays_second, at_leaf, from_leaf, by_way_at_leaf, comes_down, goes_left, besides, converts, at_its_leaf, granted}
use Rattle.footing.specs.Fitting.{sound_for_step, verdict}
use Rattle.footing.proofs.OnTurn.{converted_by}
use Rattle.index.specs.Step.{Left, acted, stepped_task, stepped}
use Rattle.runs.proofs.PlainLaws.{above_key}
use Rattle.runs.proofs.Verdicts.{comes_down_by}
use Rattle.promises.specs.NextAbove.{NextAbove}

-- an answer with a lot is told a Next, and the lot is at or above its key
abbrev Tells : Op → Answer → Type 0
Tells op a = (y v : ℕ) → a ≡ NextLot y v → (is_next op ≡ true) × (key_of op ≤ y)

-- every other answer tells of no lot
no_lot : (op : Op) (a : Answer) → eqb (number_of a) 44 ≡ false → Tells op a
no_lot op a other y v e = absurd (false≢true (sym other ∙ ap (λ (b : Answer). eqb (number_of b) 44) e))

-- the first of the entries at or above the key
first_tells : (op : Op) → is_next op ≡ true → (es : List Entry) → Tells op (next_answer (at_or_above (key_of op) es))
first_tells op asks es = by_first (at_or_above (key_of op) es) refl
  where
    by_first : (found : List Entry) → at_or_above (key_of op) es ≡ found → Tells op (next_answer found)
    by_first [] e = no_lot op NoLot refl
    by_first (f ∷ rest) e =
        λ y v told. (asks, subst (λ (q : ℕ). key_of op ≤ q) (ap (λ (a : Answer). get_or (heard a) 1 0) told) (above_key (key_of op) es f rest e))

-- a verdict that ends tells so
abbrev TellsBy : Op → Verdict → Type 0
TellsBy op broken = Unit {0}
TellsBy op (goes z) = Unit {0}
TellsBy op (ends answer writes) = Tells op answer

-- ---- at the leaf

crosses_tells : (op : Op) (x k : ℕ) (memory : ℕ → Page) (z : Stand) (path : List ℕ) → TellsBy op (crosses x k memory z path)
crosses_tells op x k memory z [] = tt
crosses_tells op x k memory z (top ∷ below) = cond_ind (TellsBy op) (is_safe (Next x) k (memory top)) (λ _. tt) (λ _. no_lot op NoLot refl)

nearest_tells : (op : Op) (further : Verdict) → TellsBy op further → (found : List Entry) → Tells op (next_answer found) → TellsBy op (by_nearest further found)
nearest_tells op further h [] told = h
nearest_tells op further h (e ∷ es) told = told

need_tells : (op : Op) (z : Stand) (whole : Verdict) → TellsBy op whole → (n : Need) → TellsBy op (by_need z whole n)
need_tells op z whole h nothing = h
need_tells op z whole h (sibling s) = tt
need_tells op z whole h astray = tt

deletes_tells : (op : Op) (k : ℕ) (memory : ℕ → Page) (x : ℕ) (z : Stand) (leaf : ℕ) (fathers : List ℕ) → TellsBy op (deletes k memory x z leaf fathers)
unfolding deletes
deletes_tells op k memory x z leaf fathers =
    need_tells op z _ (no_lot op (Deleted (information x (memory leaf).entries)) refl) (needs k memory x leaf fathers z.beside)

leaf_tells : (op : Op) (k : ℕ) (memory : ℕ → Page) (free : List ℕ) (z : Stand) (leaf : ℕ) (fathers : List ℕ)
    → TellsBy op (at_leaf op k memory free z leaf fathers)
unfolding at_leaf
leaf_tells (Search x) k memory free z leaf fathers =
    cond_ind (Tells (Search x)) (has x (memory leaf).entries)
    (λ _. no_lot (Search x) (Found (information x (memory leaf).entries)) refl)
    (λ _. no_lot (Search x) NotFound refl)
leaf_tells (Insert x v way) k memory free z leaf fathers =
    cond_ind (TellsBy (Insert x v way)) (has x (memory leaf).entries)
    (λ _. no_lot (Insert x v way) (AlreadyThere (information x (memory leaf).entries)) refl)
    (λ _.
    cond_ind (TellsBy (Insert x v way)) (ltb (length free) (room k memory leaf z.path))
    (λ _. no_lot (Insert x v way) NoRoom refl)
    (λ _. no_lot (Insert x v way) Inserted refl))
leaf_tells (Delete x way) k memory free z leaf fathers =
    cond_ind (TellsBy (Delete x way)) (has x (memory leaf).entries)
    (λ _. deletes_tells (Delete x way) k memory x z leaf fathers)
    (λ _. no_lot (Delete x way) NoSuchKey refl)
leaf_tells (Next x) k memory free z leaf fathers =
    nearest_tells (Next x) (crosses x k memory z z.path) (crosses_tells (Next x) x k memory z z.path)
    (at_or_above x (memory leaf).entries) (first_tells (Next x) refl (memory leaf).entries)
leaf_tells (Regrade x v way) k memory free z leaf fathers =
    cond_ind (TellsBy (Regrade x v way)) (has x (memory leaf).entries)
    (λ _. no_lot (Regrade x v way) (Regraded (information x (memory leaf).entries)) refl)
    (λ _. no_lot (Regrade x v way) NoSuchKey refl)

-- by its way: where it begins again, or converts first, it tells nothing
way_tells : (k : ℕ) (memory : ℕ → Page) (free : List ℕ) (z : Stand) (leaf : ℕ) (fathers : List ℕ) → TellsBy z.op (by_way_at_leaf k memory free z leaf fathers)
way_tells k memory free z leaf fathers =
    cond_ind (TellsBy z.op) (is_second z.op && not (stays_second z.op k memory leaf)) (λ _. tt)
    (λ _. converted_by (TellsBy z.op) k memory z leaf fathers _ (leaf_tells z.op k memory free z leaf fathers) (λ _. tt))

-- ---- a granted step

from_leaf_tells : (op : Op) (act : ℕ → List ℕ → Verdict) → ((leaf : ℕ) (fathers : List ℕ) → TellsBy op (act leaf fathers)) → (up : List ℕ)
    → TellsBy op (from_leaf act up)
from_leaf_tells op act h [] = tt
from_leaf_tells op act h (leaf ∷ fathers) = h leaf fathers

module _ (k : ℕ) (memory : ℕ → Page) (free : List ℕ) (z : Stand) where
  coming_tells : TellsBy z.op (comes_down k memory free z)
  coming_tells = comes_down_by (TellsBy z.op) k memory free z (λ _ path locks fathers. way_tells k memory free (on_pages z path locks [] []) z.want fathers) (λ _. tt)

  beside_tells : TellsBy z.op (besides k memory z)
  unfolding besides goes_left
  beside_tells =
      cond_ind (TellsBy z.op) (is_next z.op)
      (λ asks.
      cond_ind (TellsBy z.op) (is_leaf (memory z.want))
      (λ _. first_tells z.op asks (memory z.want).entries)
      (λ _. tt))
      (λ _. from_leaf_tells z.op _
      (λ leaf fathers. converted_by (TellsBy z.op) k memory (want_beside z) leaf fathers _ (deletes_tells z.op k memory (key_of z.op) (want_beside z) leaf fathers) (λ _. tt))
      (reverse z.path))

  converting_tells : TellsBy z.op (converts k memory free z)
  unfolding converts
  converting_tells =
      from_leaf_tells z.op _
      (λ leaf fathers. converted_by (TellsBy z.op) k memory (want_converted z) leaf fathers _ (leaf_tells z.op k memory free (want_converted z) leaf fathers) (λ _. tt))
      (reverse z.path)

  granted_tells : TellsBy z.op (granted k memory free z)
  unfolding granted
  granted_tells =
      cond_ind (TellsBy z.op) (converting z)
      (λ _. converting_tells)
      (λ _. cond_ind (TellsBy z.op) (at_its_leaf memory (reverse z.path)) (λ _. beside_tells) (λ _. coming_tells))

verdict_tells : (k n : ℕ) (ws : List ℕ) (z : Stand) → TellsBy z.op (verdict k n ws z)
unfolding verdict
verdict_tells k n ws z =
    cond_ind (TellsBy z.op) (sound_for_step k n ws z) (λ _. granted_tells k (page_at k ws) (free_pages k n ws) z) (λ _. tt)

acted_tells : (op : Op) (st : State) (ws : List ℕ) (s : ℕ) (v : Verdict) → TellsBy op v → Tells op (acted st ws s v).answer
acted_tells op st ws s broken h = no_lot op Damaged refl
acted_tells op st ws s (goes z) h = no_lot op Moved refl
acted_tells op st ws s (ends answer writes) h = h

pub next_above : NextAbove
unfolding stepped
next_above st ws s op y v opened =
    cond_ind Told (not (sound st)) (λ _. other BadState refl)
    (λ _. cond_ind Told (not (eqb (length ws) (pool_length st.k st.n))) (λ _. other BadPool refl)
    (λ _. cond_ind Told (not (ltb s slot_count)) (λ _. other BadSlot refl)
    (λ _. subst (λ (task : Task). Told (stepped_task st ws s (slot_at st s) task)) (sym opened)
    (cond_ind Told (grants st s)
    (λ _. acted_tells op st ws s (verdict st.k st.n ws here) (verdict_tells st.k st.n ws here) y v)
    (λ _. other Waiting refl)))))
  where
    here : Stand
    here = stand_of op (slot_at st s)

    Told : Left → Type 0
    Told r = r.answer ≡ NextLot y v → (is_next op ≡ true) × (key_of op ≤ y)

    other : (a : Answer) → eqb (number_of a) 44 ≡ false → a ≡ NextLot y v → (is_next op ≡ true) × (key_of op ≤ y)
    other a e = no_lot op a e y v
