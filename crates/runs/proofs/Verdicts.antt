-- What a granted step comes to, read off the rule: an operation that comes down ends only at a leaf, and an update by the second way only
-- where it does not begin again, and never for want of room.
use Prim.Native.Nat.{ℕ, ◌+◌, ◌*◌, ◌<◌}
use mathlib.Core.Bool.{Bool, true, false, cond, not, ◌&&◌, ◌||◌}
use mathlib.Core.List.{List, [], ◌∷◌, ◌++◌, reverse, reverse-append}
use mathlib.Core.Logic.{⊎_elim}
use mathlib.Core.Path.{◌≡◌, refl, sym, subst, ◌∙◌}
use native.Mathlib.Omega.{arith}
use lib.Dec.{eqb, ltb}
use lib.ListN.{length}
use borrow.Author.Tests.{ltb-true, eqb-false, not-false}
use Rattle.ground.specs.Tests.{count, member}
use Rattle.ground.proofs.Bools.{not_both, false_if_not_true, and_first, and_second, or_cases}
use Rattle.ground.proofs.Choice.{cond_ind, cond-true, cond-false}
use Rattle.page.specs.Words.{Page, μ, is_leaf}
use Rattle.page.specs.Place.{has, information}
use Rattle.pool.specs.Pool.{Write, page_at, free_pages}
use Rattle.change.specs.Insertion.{is_full, room}
use Rattle.change.specs.Deletion.{Need, nothing, sibling, astray, needs, deletion}
use Rattle.slots.specs.declared.Op.{Op}
use Rattle.slots.specs.declared.Op.TheVariants.{Search, Insert, Delete, Next, Regrade}
use Rattle.slots.specs.declared.Way.TheVariants.{First, Second, Third}
use Rattle.slots.specs.declared.Answer.{Answer}
use Rattle.slots.specs.declared.Answer.TheVariants.{Inserted, AlreadyThere, Deleted, NoSuchKey, NoRoom, Regraded}
use Rattle.slots.specs.Heard.{number_of}
use Rattle.slots.specs.declared.Under.{Under}
use Rattle.slots.specs.Parts.{is_second, is_third, Stand, holding, converting, on_pages}
use Rattle.footing.specs.Granted.{Verdict, broken, goes, ends, is_safe, kept_locks, by_need, deletes, stays_second, converted_first, at_leaf, from_leaf, by_way_at_leaf, comes_down, besides, converts, at_its_leaf, granted}
use Rattle.footing.specs.Fitting.{pages_sound, rightly_kept, rightly_converting, fitting_new, fitting, next_is_new, sound_for_step, verdict}
use Rattle.footing.proofs.OnTurn.{converted_by, converts_facts}
use Rattle.runs.proofs.PlainLaws.{clashes}

-- an operation ends only if this test holds
abbrev pub EndsIf : Bool → Verdict → Type 0
EndsIf test broken = Unit {0}
EndsIf test (goes z) = Unit {0}
EndsIf test (ends answer writes) = test ≡ true

ends_if : {test : Bool} → test ≡ true → (v : Verdict) → EndsIf test v
ends_if h broken = tt
ends_if h (goes y) = tt
ends_if h (ends a writes) = h

-- What holds of the wanted page as a leaf, on whatever path it stands then, and of every verdict that goes on, holds of coming down.
pub comes_down_by : (P : Verdict → Type 0) (k : ℕ) (memory : ℕ → Page) (free : List ℕ) (z : Stand)
    → (is_leaf (memory z.want) ≡ true → (path : List ℕ) (locks : List Under) (fathers : List ℕ) → P (by_way_at_leaf k memory free (on_pages z path locks [] []) z.want fathers))
    → ((y : Stand) → P (goes y)) → P (comes_down k memory free z)
unfolding comes_down
comes_down_by P k memory free z at_leaf further =
    let reached : List ℕ → List Under → List ℕ → Verdict
    = λ (path : List ℕ) (locks : List Under) (up : List ℕ). from_leaf (by_way_at_leaf k memory free (on_pages z path locks [] [])) up in
    let under' : List Under = kept_locks k memory z in
    cond_ind P (is_leaf (memory z.want))
    (λ leaf. cond_ind (λ (path : List ℕ). P (reached path under' (reverse path))) (is_safe z.op k (memory z.want))
    (λ _. at_leaf leaf (z.want ∷ []) under' [])
    (λ _. subst (λ (up : List ℕ). P (reached (z.path ++ z.want ∷ []) under' up)) (sym (reverse-append z.path (z.want ∷ [])))
    (at_leaf leaf (z.path ++ z.want ∷ []) under' (reverse z.path))))
    (λ _. further _)

comes_down_ends : (k : ℕ) (memory : ℕ → Page) (free : List ℕ) (z : Stand) → EndsIf (is_leaf (memory z.want)) (comes_down k memory free z)
comes_down_ends k memory free z =
    comes_down_by (EndsIf (is_leaf (memory z.want))) k memory free z
    (λ leaf path locks fathers. ends_if leaf (by_way_at_leaf k memory free (on_pages z path locks [] []) z.want fathers)) (λ _. tt)

-- it does not go by the second way, or does not begin again at this leaf
abbrev pub still_by : Op → ℕ → (ℕ → Page) → ℕ → Bool
still_by op k memory leaf = not (is_second op) || stays_second op k memory leaf

still_by_lem : (second stays : Bool) → second && not stays ≡ false → not second || stays ≡ true
still_by_lem true true e = refl
still_by_lem true false e = sym e
still_by_lem false stays e = refl

way_ends : (k : ℕ) (memory : ℕ → Page) (free : List ℕ) (z : Stand) (leaf : ℕ) (fathers : List ℕ)
    → EndsIf (still_by z.op k memory leaf) (by_way_at_leaf k memory free z leaf fathers)
way_ends k memory free z leaf fathers =
    cond_ind (EndsIf (still_by z.op k memory leaf)) (is_second z.op && not (stays_second z.op k memory leaf))
    (λ _. tt)
    (λ no.
    ends_if (still_by_lem (is_second z.op) (stays_second z.op k memory leaf) no)
    (converted_first k memory z leaf fathers (at_leaf z.op k memory free z leaf fathers)))

comes_down_stays : (k : ℕ) (memory : ℕ → Page) (free : List ℕ) (z : Stand) → EndsIf (still_by z.op k memory z.want) (comes_down k memory free z)
comes_down_stays k memory free z =
    comes_down_by (EndsIf (still_by z.op k memory z.want)) k memory free z (λ _ path locks fathers. way_ends k memory free (on_pages z path locks [] []) z.want fathers) (λ _. tt)

-- ---- room

-- an operation that ends for want of room does not go by the second way
abbrev pub FirstLacks : Op → Verdict → Type 0
FirstLacks op broken = Unit {0}
FirstLacks op (goes z) = Unit {0}
FirstLacks op (ends answer writes) = answer ≡ NoRoom → is_second op ≡ false

first_lacks : (op : Op) → is_second op ≡ false → (v : Verdict) → FirstLacks op v
first_lacks op first broken = tt
first_lacks op first (goes z) = tt
first_lacks op first (ends a writes) = λ _. first

-- every other answer is not NoRoom
another : {A : Type 0} (a : Answer) → eqb (number_of a) (number_of NoRoom) ≡ false → a ≡ NoRoom → A
another a other e = clashes e (eqb-false (number_of a) (number_of NoRoom) other)

-- a leaf that is safe for an insertion needs no page
safe_room : (k : ℕ) (memory : ℕ → Page) (leaf : ℕ) (held : List ℕ) (free : List ℕ) → ltb (μ (memory leaf)) (2 * k) ≡ true
    → ltb (length free) (room k memory leaf held) ≡ true → ⊥
unfolding room
safe_room k memory leaf held free safe few =
    let none = cond-true 0 (count (is_full k memory) held + cond (member 0 held && is_full k memory 0) 1 0) safe in
    let less = ltb-true (length free) (room k memory leaf held) few in
    omega (arith, subst (λ (m : ℕ). length free < m) none less)

need_lacks : (op : Op) (z : Stand) (i : ℕ) (writes : List Write) (need : Need) → FirstLacks op (by_need z (ends (Deleted i) writes) need)
need_lacks op z i writes nothing = another (Deleted i) refl
need_lacks op z i writes (sibling s) = tt
need_lacks op z i writes astray = tt

leaf_lacks : (op : Op) (k : ℕ) (memory : ℕ → Page) (free : List ℕ) (z : Stand) (leaf : ℕ) (fathers : List ℕ)
    → is_second op && not (stays_second op k memory leaf) ≡ false → FirstLacks op (at_leaf op k memory free z leaf fathers)
unfolding at_leaf deletes
leaf_lacks (Search x) k memory free z leaf fathers still = λ _. refl
leaf_lacks (Insert x v First) k memory free z leaf fathers still = first_lacks (Insert x v First) refl (at_leaf (Insert x v First) k memory free z leaf fathers)
leaf_lacks (Insert x v Third) k memory free z leaf fathers still = first_lacks (Insert x v Third) refl (at_leaf (Insert x v Third) k memory free z leaf fathers)
leaf_lacks (Insert x v Second) k memory free z leaf fathers still =
    let there : Bool = has x (memory leaf).entries in
    let safe : Bool = ltb (μ (memory leaf)) (2 * k) in
    let stays : there || safe ≡ true = and_second (not (eqb leaf 0)) (there || safe) (not-false (stays_second (Insert x v Second) k memory leaf) still) in
    cond_ind (FirstLacks (Insert x v Second)) there
    (λ _. another (AlreadyThere (information x (memory leaf).entries)) refl)
    (λ missing. cond_ind (FirstLacks (Insert x v Second)) (ltb (length free) (room k memory leaf z.path))
    (λ few _. absurd (safe_room k memory leaf z.path free (⊎_elim (λ t. not_both t missing) (λ t. t) (or_cases there safe stays)) few))
    (λ _. another Inserted refl))
leaf_lacks (Delete x First) k memory free z leaf fathers still = first_lacks (Delete x First) refl (at_leaf (Delete x First) k memory free z leaf fathers)
leaf_lacks (Delete x Third) k memory free z leaf fathers still = first_lacks (Delete x Third) refl (at_leaf (Delete x Third) k memory free z leaf fathers)
leaf_lacks (Delete x Second) k memory free z leaf fathers still =
    cond_ind (FirstLacks (Delete x Second)) (has x (memory leaf).entries)
    (λ _. need_lacks (Delete x Second) z (information x (memory leaf).entries) (deletion k memory x leaf fathers z.beside) (needs k memory x leaf fathers z.beside))
    (λ _. another NoSuchKey refl)
leaf_lacks (Next x) k memory free z leaf fathers still = first_lacks (Next x) refl (at_leaf (Next x) k memory free z leaf fathers)
leaf_lacks (Regrade x v First) k memory free z leaf fathers still = first_lacks (Regrade x v First) refl (at_leaf (Regrade x v First) k memory free z leaf fathers)
leaf_lacks (Regrade x v Third) k memory free z leaf fathers still = first_lacks (Regrade x v Third) refl (at_leaf (Regrade x v Third) k memory free z leaf fathers)
leaf_lacks (Regrade x v Second) k memory free z leaf fathers still =
    cond_ind (FirstLacks (Regrade x v Second)) (has x (memory leaf).entries)
    (λ _. another (Regraded (information x (memory leaf).entries)) refl)
    (λ _. another NoSuchKey refl)

way_lacks : (k : ℕ) (memory : ℕ → Page) (free : List ℕ) (z : Stand) (leaf : ℕ) (fathers : List ℕ) → FirstLacks z.op (by_way_at_leaf k memory free z leaf fathers)
way_lacks k memory free z leaf fathers =
    cond_ind (FirstLacks z.op) (is_second z.op && not (stays_second z.op k memory leaf)) (λ _. tt)
    (λ still.
    converted_by (FirstLacks z.op) k memory z leaf fathers (at_leaf z.op k memory free z leaf fathers)
    (leaf_lacks z.op k memory free z leaf fathers still) (λ _. tt))

comes_down_lacks : (k : ℕ) (memory : ℕ → Page) (free : List ℕ) (z : Stand) → FirstLacks z.op (comes_down k memory free z)
comes_down_lacks k memory free z =
    comes_down_by (FirstLacks z.op) k memory free z (λ _ path locks fathers. way_lacks k memory free (on_pages z path locks [] []) z.want fathers) (λ _. tt)

-- Who converts goes by the third way, and stands at its leaf.
pub turn_parts : (k : ℕ) (memory : ℕ → Page) (z : Stand) (up : List ℕ) → rightly_converting k memory z up ≡ true
    → (is_third z.op ≡ true) × (at_its_leaf memory up ≡ true)
turn_parts k memory z [] e = not_both e refl
turn_parts k memory z (leaf ∷ fathers) e = let c = converts_facts k memory z leaf fathers e in (c.third, c.low)

-- What the step comes to in these words.
module _ (k n : ℕ) (ws : List ℕ) (z : Stand) where
  -- it is damaged, or what the rule says
  by_verdict : (P : Verdict → Type 0) → P broken → (sound_for_step k n ws z ≡ true → P (granted k (page_at k ws) (free_pages k n ws) z))
      → P (verdict k n ws z)
  unfolding verdict
  by_verdict P b f = cond_ind P (sound_for_step k n ws z) f (λ _. b)

  -- who converts, in pages sound for the step, passes the test of conversions
  pub sound_turn : sound_for_step k n ws z ≡ true → converting z ≡ true → rightly_converting k (page_at k ws) z (reverse z.path) ≡ true
  unfolding sound_for_step fitting
  sound_turn fits own =
      let pages : Bool = pages_sound k n ws (holding z ++ z.want ∷ []) in
      let right : Bool = rightly_kept z.op k (page_at k ws) z.path z.want in
      let turn : Bool = rightly_converting k (page_at k ws) z (reverse z.path) in
      let new : Bool = fitting_new k (page_at k ws) z in
      let fit : Bool = fitting k (page_at k ws) z in
      let here = and_second pages fit (and_first (pages && fit) (next_is_new (granted k (page_at k ws) (free_pages k n ws) z)) fits) in
      sym (cond-true turn new own) ∙ and_second right (cond (converting z) turn new) here

  -- above its leaf it converts nothing,
  above_new : sound_for_step k n ws z ≡ true → at_its_leaf (page_at k ws) (reverse z.path) ≡ false → converting z ≡ false
  above_new fits at =
      false_if_not_true (converting z)
      (λ own. not_both (turn_parts k (page_at k ws) z (reverse z.path) (sound_turn fits own)).1 at)

  -- and is granted the next page of its way
  above_rule : sound_for_step k n ws z ≡ true → at_its_leaf (page_at k ws) (reverse z.path) ≡ false
      → granted k (page_at k ws) (free_pages k n ws) z ≡ comes_down k (page_at k ws) (free_pages k n ws) z
  unfolding granted
  above_rule fits at =
      cond-false (converts k (page_at k ws) (free_pages k n ws) z) _ (above_new fits at)
      ∙ cond-false (besides k (page_at k ws) z) (comes_down k (page_at k ws) (free_pages k n ws) z) at

  -- an operation that comes down ends only at a leaf
  pub coming_ends : at_its_leaf (page_at k ws) (reverse z.path) ≡ false → (a : Answer) (writes : List Write)
      → verdict k n ws z ≡ ends a writes → is_leaf (page_at k ws z.want) ≡ true
  coming_ends at a writes e =
      let P : Verdict → Type 0 = EndsIf (is_leaf (page_at k ws z.want)) in
      subst P e (by_verdict P tt (λ fits. subst P (sym (above_rule fits at)) (comes_down_ends k (page_at k ws) (free_pages k n ws) z)))

  -- and an update by the second way only where it does not begin again
  pub coming_stays : at_its_leaf (page_at k ws) (reverse z.path) ≡ false → EndsIf (still_by z.op k (page_at k ws) z.want) (verdict k n ws z)
  coming_stays at =
      let P : Verdict → Type 0 = EndsIf (still_by z.op k (page_at k ws) z.want) in
      by_verdict P tt (λ fits. subst P (sym (above_rule fits at)) (comes_down_stays k (page_at k ws) (free_pages k n ws) z))

  -- nor does it end for want of room
  pub coming_lacks : at_its_leaf (page_at k ws) (reverse z.path) ≡ false → FirstLacks z.op (verdict k n ws z)
  coming_lacks at = by_verdict (FirstLacks z.op) tt (λ fits. subst (FirstLacks z.op) (sym (above_rule fits at)) (comes_down_lacks k (page_at k ws) (free_pages k n ws) z))
