-- "While any operation is open, some open one can be granted its step" (demand 3).
-- The wants are ranked: first the one whose page's range begins latest, then the one on the lowest level, then conversions, then the oldest.
-- Whoever is barred is barred by a slot whose own want ranks before, so the first of them is granted.
use Prim.Native.Nat.{ℕ, zero, suc, ◌+◌, ◌-◌, ◌*◌, ◌≤◌, ◌<◌}
use mathlib.Core.Bool.{true, false, cond, not, ◌&&◌, ◌||◌}
use mathlib.Core.List.{List, [], ◌∷◌, reverse}
use mathlib.Core.Logic.{◌⊎◌, inl, inr, ⊎_elim, ◌≢◌}
use mathlib.Core.Path.{◌≡◌, refl, sym, ap, ◌∙◌, subst}
use native.Mathlib.Nat.{mul-le-mul_right, suc-mul}
use native.Mathlib.Omega.{arith}
use borrow.Author.Tests.{eqb-true, eqb-false, eq-eqb, ne_eqb, not-true, not-false}
use lib.Dec.{eqb}
use lib.ListN.{length}
use Rattle.ground.specs.Limits.{slot_count, word_range}
use Rattle.ground.specs.Tests.{member}
use Rattle.ground.proofs.Bools.{true_or_false, not_both, false_if_not_true, and_first, and_second, and_both, and_fails, or_cases, or_first_fails, or_second_fails}
use Rattle.ground.proofs.Choice.{by_test, cond-true, cond-false}
use Rattle.ground.proofs.Tests.{member_none, member_here, member_there, member_cases, all_member, all_fails_at, all_below_at, all_below_false_at}
use Rattle.page.specs.Words.{Page}
use Rattle.pool.specs.Pool.{page_at}
use Rattle.slots.specs.declared.Op.{Op}
use Rattle.slots.specs.declared.Task.{Task}
use Rattle.slots.specs.declared.Task.TheVariants.{Closed, Open}
use Rattle.slots.specs.declared.State.{State}
use Rattle.slots.specs.Parts.{key_of, is_second, is_third, held_lock, is_open, path_of, Stand, stand_of, slot_at, open_at, want_at, holds_at, waiting_order}
use Rattle.slots.specs.declared.Lock.{Lock}
use Rattle.slots.specs.declared.Lock.TheVariants.{None, Rho, Xi, UpdaterRho, Alpha}
use Rattle.slots.specs.Heard.{lock_number}
use Rattle.slots.specs.Locks.{lock_held_at, lock_wanted_at, same_lock, clash}
use Rattle.slots.specs.Sound.{converts_rightly}
use Rattle.slots.specs.Grant.{older_than, clashing_want, no_clash, no_older, converts_at, conversion_on, no_conversion, grants}
use Rattle.slots.proofs.LockLaws.{is_lock, xi_clashes, clashes_rho, clash_swap, second_rho, same_lock_lem, lock_same, alpha_not_xi}
use Rattle.slots.proofs.Clashes.{no_two_locks_clash}
use Rattle.slots.proofs.GrantLaws.{granted_no_clash, holder_open, holder_locks, held_lock_lem}
use Rattle.slots.proofs.OrderLaws.{same_or_not}
use Rattle.tree.specs.Tree.{Tr, Stands, Forms}
use Rattle.tree.specs.Facts.{Placed}
use Rattle.runs.specs.Stance.{Locked, Stance, Gathering, held_due}
use Rattle.runs.specs.Waits.{Holder, Older, Converter, Barred}
use Rattle.runs.proofs.Invariant.{Invariant, scene}
use Rattle.runs.proofs.Fathers.{Father, Inside, UnderHeld, one_father, root_fatherless, wants_under, held_under_lem, wants_inside, wants_placed}
use Rattle.runs.proofs.Locking.{due_held, due_plain, held_with}
use Rattle.runs.proofs.Placing.{gathers_new, turn_held}
use Rattle.runs.proofs.Turning.{scene_ordered}
use Rattle.runs.proofs.Barring.{Later, shared_beyond, father_due}

-- ---- what bars a want

clash_found : (st : State) (s : ℕ) → no_clash st s ≡ false → Holder st s
unfolding no_clash
clash_found st s f =
    let (t, below, fails) = all_below_false_at (λ (u : ℕ). eqb u s || not (holds_at st u (want_at st s) && clash (lock_held_at st u (want_at st s)) (lock_wanted_at st s))) slot_count f in
    let holds = holds_at st t (want_at st s) in
    let clashes = clash (lock_held_at st t (want_at st s)) (lock_wanted_at st s) in
    let both = not-false (holds && clashes) (or_second_fails (eqb t s) (not (holds && clashes)) fails) in
    record {
      slot = t;
      below = below;
      other = eqb-false t s (or_first_fails (eqb t s) (not (holds && clashes)) fails);
      holds = and_first holds clashes both;
      clashes = and_second holds clashes both;
    }

older_found : (st : State) (s : ℕ) → no_older st s ≡ false → Older st s
unfolding no_older
older_found st s f =
    let (t, m, fails) = all_fails_at (λ (u : ℕ). not (clashing_want st s u)) (older_than s (waiting_order st)) f in
    let same = eqb (want_at st t) (want_at st s) in
    let clashes = clash (lock_wanted_at st t) (lock_wanted_at st s) in
    let both = not-false (same && clashes) fails in
    record { slot = t; older = m; same = eqb-true (want_at st t) (want_at st s) (and_first same clashes both); clashes = and_second same clashes both }

conversion_found : (st : State) (s : ℕ) → no_conversion st s ≡ false → Converter st s
unfolding no_conversion
conversion_found st s f =
    let (t, below, fails) = all_below_false_at (λ (u : ℕ). eqb u s || not (conversion_on st s u)) slot_count f in
    let same = eqb (want_at st t) (want_at st s) in
    let both = not-false (conversion_on st s t) (or_second_fails (eqb t s) (not (conversion_on st s t)) fails) in
    record {
      slot = t;
      below = below;
      other = eqb-false t s (or_first_fails (eqb t s) (not (conversion_on st s t)) fails);
      same = eqb-true (want_at st t) (want_at st s) (and_first same (converts_at st t) both);
      converts = and_second same (converts_at st t) both;
    }

-- A want that is not granted is barred by a held clash, or, if it is no conversion, by an older want that clashes or by a conversion.
pub barred : (st : State) (s : ℕ) → grants st s ≡ false → Barred st s
barred st s f =
    ⊎_elim
    (λ e. inl (clash_found st s e))
    (λ e. inr (
      or_first_fails (converts_at st s) (no_older st s && no_conversion st s) e,
      ⊎_elim
          (λ o. inl (older_found st s o))
          (λ c. inr (conversion_found st s c))
          (and_fails (no_older st s) (no_conversion st s) (or_second_fails (converts_at st s) (no_older st s && no_conversion st s) e)),
    ))
    (and_fails (no_clash st s) (converts_at st s || (no_older st s && no_conversion st s)) f)

-- who is granted a want that is no conversion has neither before it
granted_first : (st : State) (s : ℕ) → grants st s ≡ true → converts_at st s ≡ false → no_older st s && no_conversion st s ≡ true
granted_first st s g new =
    ⊎_elim (λ own. not_both own new) (λ h. h)
    (or_cases (converts_at st s) (no_older st s && no_conversion st s) (and_second (no_clash st s) (converts_at st s || (no_older st s && no_conversion st s)) g))

-- And what is so barred is not granted.
pub barred_waits : (st : State) (s : ℕ) → Barred st s → grants st s ≡ false
unfolding no_older no_conversion
barred_waits st s (inl h) =
    false_if_not_true (grants st s) (λ g. not_both h.clashes (granted_no_clash st s g h.slot h.below h.other h.holds))
barred_waits st s (inr (new, inl o)) =
    false_if_not_true (grants st s) (λ g. not_both (and_both (eq-eqb (want_at st o.slot) (want_at st s) o.same) o.clashes)
    (not-true (clashing_want st s o.slot)
    (all_member (λ (u : ℕ). not (clashing_want st s u)) (older_than s (waiting_order st))
    (and_first (no_older st s) (no_conversion st s) (granted_first st s g new)) o.slot o.older)))
barred_waits st s (inr (new, inr c)) =
    false_if_not_true (grants st s) (λ g.
    ⊎_elim
    (λ same. c.other (eqb-true c.slot s same))
    (λ none. not_both (and_both (eq-eqb (want_at st c.slot) (want_at st s) c.same) c.converts) (not-true (conversion_on st s c.slot) none))
    (or_cases (eqb c.slot s) (not (conversion_on st s c.slot))
    (all_below_at (λ (u : ℕ). eqb u s || not (conversion_on st s u)) slot_count
    (and_second (no_older st s) (no_conversion st s) (granted_first st s g new)) c.slot c.below)))

-- ---- older wants

older_here : (s t : ℕ) (ts : List ℕ) → t ≡ s → older_than s (t ∷ ts) ≡ []
unfolding older_than
older_here s t ts e = cond-true [] (t ∷ older_than s ts) (eq-eqb t s e)

pub older_there : (s t : ℕ) (ts : List ℕ) → t ≢ s → older_than s (t ∷ ts) ≡ t ∷ older_than s ts
unfolding older_than
older_there s t ts n = cond-false [] (t ∷ older_than s ts) (ne_eqb t s n)

-- the wants older than one are some of the order's
older_most : (s : ℕ) (xs : List ℕ) → length (older_than s xs) ≤ length xs
unfolding older_than
older_most s [] = omega arith
older_most s (t ∷ ts) =
    ⊎_elim
    (λ e. omega (arith, ap length (older_here s t ts e)))
    (λ n. omega (arith, ap length (older_there s t ts n), older_most s ts))
    (same_or_not t s)

-- an older want is the first of the order, or older behind the first
pub older_cases : (s t y : ℕ) (ys : List ℕ) → member t (older_than s (y ∷ ys)) ≡ true → (y ≢ s) × ((t ≡ y) ⊎ (member t (older_than s ys) ≡ true))
older_cases s t y ys m =
    ⊎_elim
    (λ e. not_both m (ap (member t) (older_here s y ys e) ∙ member_none t))
    (λ n. (n, member_cases t y (older_than s ys) (sym (ap (member t) (older_there s y ys n)) ∙ m)))
    (same_or_not y s)

-- it is another slot's
pub older_other : (s t : ℕ) (xs : List ℕ) → member t (older_than s xs) ≡ true → t ≢ s
unfolding older_than
older_other s t [] m = not_both m (member_none t)
older_other s t (y ∷ ys) m =
    let (n, how) = older_cases s t y ys m in
    ⊎_elim (λ e same. n (sym e ∙ same)) (older_other s t ys) how

-- it is one of the order's
pub older_waits : (s t : ℕ) (xs : List ℕ) → member t (older_than s xs) ≡ true → member t xs ≡ true
unfolding older_than member
older_waits s t [] m = m
older_waits s t (y ∷ ys) m =
    ⊎_elim
    (λ e. subst (λ (q : ℕ). member q (y ∷ ys) ≡ true) (sym e) (member_here y ys))
    (λ h. member_there y t ys (older_waits s t ys h))
    (older_cases s t y ys m).1

-- and fewer are older than it
older_fewer : (s t : ℕ) (xs : List ℕ) → member t (older_than s xs) ≡ true → length (older_than t xs) < length (older_than s xs)
unfolding older_than
older_fewer s t [] m = not_both m (member_none t)
older_fewer s t (y ∷ ys) m =
    let (n, how) = older_cases s t y ys m in
    ⊎_elim
    (λ e. omega (arith, ap length (older_here t y ys (sym e)), ap length (older_there s y ys n)))
    (λ h. ⊎_elim
    (λ e. omega (arith, ap length (older_here t y ys e), ap length (older_there s y ys n)))
    (λ o. omega (arith, ap length (older_there t y ys o), ap length (older_there s y ys n), older_fewer s t ys h))
    (same_or_not y t))
    how

-- ---- the order of the wants

-- The rank of a page of this level whose range begins at low, in a tree of l + 1 levels. Low ranks come first.
abbrev place_rank : (l level low : ℕ) → ℕ
place_rank l level low = (word_range - low) * (l + 2) + level

-- of the wants for one page a conversion comes first
abbrev turn_rank : (st : State) (s : ℕ) → ℕ
turn_rank st s = cond (converts_at st s) 0 1

turn_most : (st : State) (s : ℕ) → turn_rank st s ≤ 1
turn_most st s =
    by_test (converts_at st s) (λ y. omega (arith, cond-true {A = ℕ} 0 1 y)) (λ n. omega (arith, cond-false {A = ℕ} 0 1 n))

-- the rank of slot s's want for such a page
abbrev rank : (st : State) (l s level low : ℕ) → ℕ
rank st l s level low = (2 * place_rank l level low + turn_rank st s) * suc (length (waiting_order st)) + length (older_than s (waiting_order st))

-- what comes before does so whatever wants are older
place_first : (st : State) (s s' a a' : ℕ) → a' < a
    → a' * suc (length (waiting_order st)) + length (older_than s' (waiting_order st)) < a * suc (length (waiting_order st)) + length (older_than s (waiting_order st))
place_first st s s' a a' less =
    let m : ℕ = length (waiting_order st) in
    let more : suc a' * suc m ≤ a * suc m = mul-le-mul_right (suc m) less in
    let few : length (older_than s' (waiting_order st)) ≤ m = older_most s' (waiting_order st) in
    omega (arith, suc-mul a' (suc m))

-- a page inside another, and lower, comes before it
inside_first : (st : State) (l s s' level low level' low' : ℕ) → low ≤ low' → level' < level → rank st l s' level' low' < rank st l s level low
inside_first st l s s' level low level' low' later lower =
    let parts : (word_range - low') * (l + 2) ≤ (word_range - low) * (l + 2) = mul-le-mul_right (l + 2) (omega arith) in
    place_first st s s' (2 * place_rank l level low + turn_rank st s) (2 * place_rank l level' low' + turn_rank st s') (omega (arith, parts, turn_most st s'))

-- a page whose range begins later comes before it, whatever their levels
later_first : (st : State) (l s s' level low level' low' : ℕ) → low < low' → low' < word_range → level' ≤ l + 1 → rank st l s' level' low' < rank st l s level low
later_first st l s s' level low level' low' later words in_tree =
    let parts : suc (word_range - low') * (l + 2) ≤ (word_range - low) * (l + 2) = mul-le-mul_right (l + 2) (omega arith) in
    place_first st s s' (2 * place_rank l level low + turn_rank st s) (2 * place_rank l level' low' + turn_rank st s')
    (omega (arith, parts, suc-mul (word_range - low') (l + 2), turn_most st s'))

-- of two wants for one page a conversion comes first,
conversion_first : (st : State) (l s s' level low : ℕ) → converts_at st s ≡ false → converts_at st s' ≡ true → rank st l s' level low < rank st l s level low
conversion_first st l s s' level low new own =
    let mine : turn_rank st s ≡ 1 = cond-false 0 1 new in
    let its : turn_rank st s' ≡ 0 = cond-true 0 1 own in
    place_first st s s' (2 * place_rank l level low + turn_rank st s) (2 * place_rank l level low + turn_rank st s') (omega (arith, mine, its))

-- and of others the older
older_first : (st : State) (l s s' level low : ℕ) → converts_at st s ≡ false → member s' (older_than s (waiting_order st)) ≡ true
    → rank st l s' level low < rank st l s level low
older_first st l s s' level low new m =
    let mine : turn_rank st s ≡ 1 = cond-false 0 1 new in
    let parts : (2 * place_rank l level low + turn_rank st s') * suc (length (waiting_order st)) ≤ (2 * place_rank l level low + turn_rank st s) * suc (length (waiting_order st))
    = mul-le-mul_right (suc (length (waiting_order st))) (omega (arith, mine, turn_most st s')) in
    omega (arith, parts, older_fewer s s' (waiting_order st) m)

-- ---- kinds of lock

-- who goes down with ξ or α
abbrev Guards : Lock → Type 0
Guards a = (a ≡ Xi) ⊎ (a ≡ Alpha)

-- "α with ρ only; ξ with nothing"
guard_clashes : (a : Lock) → Guards a → clash a Alpha ≡ true
guard_clashes a (inl e) = ap (λ (lock : Lock). clash lock Alpha) e
guard_clashes a (inr e) = ap (λ (lock : Lock). clash lock Alpha) e

alpha_goes : (a : Lock) → is_lock a ≡ true → clash Alpha a ≡ false → a ≡ Rho
alpha_goes None o e = not_both o refl
alpha_goes Rho o e = refl
alpha_goes Xi o e = not_both refl e
alpha_goes UpdaterRho o e = not_both refl e
alpha_goes Alpha o e = not_both refl e

-- with ρ nobody goes by the second way
rho_first : (op : Op) → held_lock op ≡ Rho → is_second op ≡ false
rho_first op e =
    false_if_not_true (is_second op)
    (λ y. let z : ◌≡◌ {A = ℕ} 1 3 = ap lock_number (sym e ∙ second_rho op y) in omega arith)

-- ---- some want is granted

pub opened : (task : Task) → is_open task ≡ true → (op : Op) × (task ≡ Open op)
opened Closed e = not_both e refl
opened (Open op) e = (op, refl)

-- An open slot whose want ranks before a rank.
record RankedBelow (st : State) (l : ℕ) (t : Tr l) (bound : ℕ) : Type 0 where
  slot : ℕ
  below : slot < slot_count
  runs : open_at st slot ≡ true
  place : Placed l t 0 word_range (want_at st slot)
  less : rank st l slot place.level place.from < bound

-- An open slot that is granted its step.
abbrev pub CanGo : State → Type 0
CanGo st = (u : ℕ) × (u < slot_count) × (open_at st u ≡ true) × (grants st u ≡ true)

module _ (st : State) (ws : List ℕ) (inv : Invariant st ws) where
  -- an open slot's operation, and where it stands
  record OpenStance (s : ℕ) : Type 0 where
    op : Op
    key : key_of op < word_range
    runs : (slot_at st s).task ≡ Open op
    stance : Stance st.k (page_at st.k ws) inv.height inv.tree (stand_of op (slot_at st s))
    locked : Locked (page_at st.k ws) (stand_of op (slot_at st s))

  standing : (s : ℕ) → s < slot_count → open_at st s ≡ true → OpenStance s
  standing s b o =
      let (op, runs) = opened (slot_at st s).task o in
      record { op = op; key = inv.keys s op b runs; runs = runs; stance = inv.stands s op b runs; locked = inv.locked s op b runs }

  holder_opens : (s : ℕ) (h : Holder st s) → open_at st h.slot ≡ true
  holder_opens s h = holder_open st.n (slot_at st h.slot) (want_at st s) (inv.sound.slot h.slot h.below) h.holds

  -- the kind under which a slot holds a page is the one that is due
  held_by : (s p : ℕ) → s < slot_count → (op : Op) → (slot_at st s).task ≡ Open op → holds_at st s p ≡ true
      → lock_held_at st s p ≡ held_due (stand_of op (slot_at st s)) p
  held_by s p b op runs holds = held_with (stand_of op (slot_at st s)) (inv.locked s op b runs).holds p holds

  -- who waits to convert a page has α on it
  alpha_at : (s : ℕ) → s < slot_count → open_at st s ≡ true → converts_at st s ≡ true → lock_held_at st s (want_at st s) ≡ Alpha
  alpha_at s b o own =
      let (op, runs) = opened (slot_at st s).task o in
      let third = is_third op in
      let alpha = same_lock (lock_held_at st s (want_at st s)) Alpha in
      let xi = same_lock (lock_wanted_at st s) Xi in
      let test : converts_rightly (Open op) (slot_at st s) ≡ true
      = subst (λ (task : Task). converts_rightly task (slot_at st s) ≡ true) runs (inv.sound.slot s b).converts in
      same_lock_lem (lock_held_at st s (want_at st s)) Alpha
      (and_second third alpha (and_first (third && alpha) xi (sym (cond-true (third && alpha && xi) (not (third && xi)) own) ∙ test)))

  -- another want for the same page comes before
  same_better : (s t : ℕ) (w : Placed inv.height inv.tree 0 word_range (want_at st s)) → t < slot_count → open_at st t ≡ true → want_at st t ≡ want_at st s
      → rank st inv.height t w.level w.from < rank st inv.height s w.level w.from
      → RankedBelow st inv.height inv.tree (rank st inv.height s w.level w.from)
  same_better s t w b o e less = record {
    slot = t;
    below = b;
    runs = o;
    place = record {
      level = w.level;
      from = w.from;
      to = w.to;
      stands = subst (λ (q : ℕ). Stands inv.height inv.tree 0 word_range q w.level w.from w.to) (sym e) w.stands;
    };
    less = less;
  }

  -- A slot, and a holder of the page that it wants.
  module _ (s : ℕ) (b : s < slot_count) (o : open_at st s ≡ true) (w : Placed inv.height inv.tree 0 word_range (want_at st s)) (h : Holder st s) where
    abbrev v : ℕ
    v = h.slot

    abbrev p : ℕ
    p = want_at st s

    abbrev me : OpenStance s
    me = standing s b o

    abbrev it : OpenStance v
    it = standing v h.below (holder_opens s h)

    abbrev mine : Stand
    mine = stand_of me.op (slot_at st s)

    abbrev its : Stand
    its = stand_of it.op (slot_at st v)

    abbrev Better : Type 0
    Better = RankedBelow st inv.height inv.tree (rank st inv.height s w.level w.from)

    -- ---- the holder's want comes before: it lies inside the page, to the right of it, or it is a conversion of the page

    better_inside : Inside inv.height inv.tree w.level w.from (want_at st v) → Better
    better_inside i = record {
      slot = v;
      below = h.below;
      runs = holder_opens s h;
      place = record { level = i.new_level; from = i.from; to = i.to; stands = i.stands };
      less = inside_first st inv.height s v w.level w.from i.new_level i.from i.later i.lower;
    }

    better_later : Later st.k st.n (page_at st.k ws) inv.height inv.tree inv.sound.k_least inv.forms.forms its it.key w.from → Better
    better_later i = record {
      slot = v;
      below = h.below;
      runs = holder_opens s h;
      place = record { level = i.level; from = i.from; to = i.to; stands = i.stands };
      less = later_first st inv.height s v w.level w.from i.level i.from i.later i.in_words i.in_tree;
    }

    -- ---- who goes down with ξ or α

    module _ (guards : Guards (held_lock it.op)) where
      -- so does it hold each page
      guards_at : (q : ℕ) → holds_at st v q ≡ true → Guards (lock_held_at st v q)
      guards_at q holds =
          ⊎_elim
          (λ e. ⊎_elim (λ xi. inl (e ∙ xi)) (λ alpha. inr (e ∙ alpha)) guards)
          (λ third. inl third.1)
          (held_lock_lem st.n (slot_at st v) it.op q (inv.sound.slot v h.below) it.runs holds)

      -- it bars no conversion: that slot would hold the page with α
      wants_new : converts_at st s ≡ false
      wants_new =
          false_if_not_true (converts_at st s)
          (λ own. not_both (guard_clashes (lock_held_at st v p) (guards_at p h.holds))
          (ap (clash (lock_held_at st v p)) (sym (alpha_at s b o own))
          ∙ no_two_locks_clash st inv.sound v s p h.below b h.other h.holds own))

      wants_gathering : Gathering st.k (page_at st.k ws) inv.height inv.tree mine
      wants_gathering =
          ⊎_elim
          (λ g. g)
          (λ c. not_both (turn_held st.k st.n ws inv.height inv.tree mine (scene st ws inv s me.op b me.runs) c) wants_new)
          me.stance

      -- It does not hold the page's father too, q, which the slot holds that wants the page. For then it would hold q with α, and the page with ξ.
      module _ (q : ℕ) (father : Father (page_at st.k ws) inv.height inv.tree q p) (its-holds : holds_at st v q ≡ true) (mine-holds : holds_at st s q ≡ true) where
        apart : clash (lock_held_at st v q) (lock_held_at st s q) ≡ false
        apart = no_two_locks_clash st inv.sound v s q h.below b h.other its-holds mine-holds

        mine_locks : is_lock (lock_held_at st s q) ≡ true
        mine_locks = holder_locks st.n (slot_at st s) q (inv.sound.slot s b) mine-holds

        father_alpha : lock_held_at st v q ≡ Alpha
        father_alpha =
            ⊎_elim
            (λ xi. not_both (clash_swap Xi (lock_held_at st s q) ∙ xi_clashes (lock_held_at st s q) mine_locks)
            (ap (λ (lock : Lock). clash lock (lock_held_at st s q)) (sym xi) ∙ apart))
            (λ alpha. alpha)
            (guards_at q its-holds)

        -- so who wants the page goes down with ρ, and wants it with ρ
        goes_rho : held_lock me.op ≡ Rho
        goes_rho =
            sym (held_by s q b me.op me.runs mine-holds ∙ due_plain mine q wants_new)
            ∙ alpha_goes (lock_held_at st s q) mine_locks (ap (λ (lock : Lock). clash lock (lock_held_at st s q)) (sym father_alpha) ∙ apart)

        wants_rho : lock_wanted_at st s ≡ Rho
        wants_rho = me.locked.wants wants_new ∙ due_held me.op (page_at st.k ws) (reverse (path_of (slot_at st s))) (rho_first me.op goes_rho) ∙ goes_rho

        -- with which ξ alone clashes
        page_xi : lock_held_at st v p ≡ Xi
        page_xi = clashes_rho (lock_held_at st v p) (ap (clash (lock_held_at st v p)) (sym wants_rho) ∙ h.clashes)

        -- but a page is converted after its father
        father_xi : lock_held_at st v q ≡ Xi
        father_xi =
            ⊎_elim
            (λ g.
            let new = gathers_new st.k st.n ws inv.height inv.tree its (scene st ws inv v it.op h.below it.runs) g in
            at_father ∙ due_plain its q new ∙ sym (due_plain its p new) ∙ sym at_page ∙ page_xi)
            (λ c.
            let ordered = scene_ordered st.k st.n ws inv.height inv.tree its (scene st ws inv v it.op h.below it.runs) in
            at_father
            ∙ father_due st.k st.n (page_at st.k ws) inv.height inv.tree inv.sound.k_least inv.forms.forms its it.key c ordered it.locked.holds
            q p father its-holds (sym at_page ∙ page_xi))
            it.stance
          where
            at_father : lock_held_at st v q ≡ held_due its q
            at_father = held_by v q h.below it.op it.runs its-holds

            at_page : lock_held_at st v p ≡ held_due its p
            at_page = held_by v p h.below it.op it.runs h.holds

        not_both_held : ⊥
        not_both_held = alpha_not_xi (sym father_alpha ∙ father_xi)

      no_father : UnderHeld (page_at st.k ws) inv.height inv.tree its p → ⊥
      no_father u =
          let memory : ℕ → Page = page_at st.k ws in
          let forms : Forms st.k st.n memory inv.height inv.tree = inv.forms.forms in
          ⊎_elim
          (λ root. root_fatherless st.k st.n memory inv.height inv.tree forms u.above (subst (Father memory inv.height inv.tree u.above) root u.father))
          (λ w'.
          let same = one_father st.k st.n memory inv.height inv.tree forms w'.above u.above p w'.father u.father in
          not_both_held u.above u.father u.held (subst (λ (q : ℕ). holds_at st s q ≡ true) same w'.held))
          (wants_under st.k st.n memory inv.height inv.tree forms mine me.key wants_gathering)

      -- So the page is the top one of its path, and what it wants lies inside it, or is the page itself as a conversion.
      guard_better : Better
      guard_better =
          let memory : ℕ → Page = page_at st.k ws in
          let forms : Forms st.k st.n memory inv.height inv.tree = inv.forms.forms in
          ⊎_elim
          (λ top. ⊎_elim
          (λ own. same_better s v w h.below (holder_opens s h) own.1 (conversion_first st inv.height s v w.level w.from wants_new own.0))
          better_inside
          (wants_inside st.k st.n memory inv.height inv.tree forms its it.key it.stance p w.level w.from w.to top w.stands))
          (λ u. absurd (no_father u))
          (held_under_lem st.k st.n memory inv.height inv.tree forms its it.key it.stance p h.holds)

    -- ---- who goes down with another kind

    share_better : held_lock it.op ≢ Xi → held_lock it.op ≢ Alpha → Better
    share_better noXi noAlpha =
        ⊎_elim better_inside better_later
        (shared_beyond st.k st.n (page_at st.k ws) inv.height inv.tree inv.sound.k_least inv.forms.forms its it.key it.stance
        noXi noAlpha p h.holds w)

    holder_better : Better
    holder_better =
        let kind : Lock = held_lock it.op in
        let differs : (lock : Lock) → same_lock kind lock ≡ false → kind ≢ lock
        = λ lock n e. not_both (ap (λ (a : Lock). same_lock a lock) e ∙ lock_same lock) n in
        by_test (same_lock kind Xi)
        (λ xi. guard_better (inl (same_lock_lem kind Xi xi)))
        (λ noXi. by_test (same_lock kind Alpha)
        (λ alpha. guard_better (inr (same_lock_lem kind Alpha alpha)))
        (λ noAlpha. share_better (differs Xi noXi) (differs Alpha noAlpha)))

  -- Whoever is barred is barred by a slot whose own want ranks before.
  better : (s : ℕ) → s < slot_count → open_at st s ≡ true → (w : Placed inv.height inv.tree 0 word_range (want_at st s)) → Barred st s
      → RankedBelow st inv.height inv.tree (rank st inv.height s w.level w.from)
  better s b o w (inl h) = holder_better s b o w h
  better s b o w (inr (new, inl e)) =
      let waits = older_waits s e.slot (waiting_order st) e.older in
      same_better s e.slot w (inv.sound.order_below e.slot waits) (inv.sound.order_open e.slot waits) e.same
      (older_first st inv.height s e.slot w.level w.from new e.older)
  better s b o w (inr (new, inr c)) =
      same_better s c.slot w c.below
      (holder_open st.n (slot_at st c.slot) (want_at st c.slot) (inv.sound.slot c.slot c.below) c.converts) c.same
      (conversion_first st inv.height s c.slot w.level w.from new c.converts)

  -- so, from one slot to a better one, some slot is granted: ranks end at 0
  best : (bound : ℕ) → RankedBelow st inv.height inv.tree bound → CanGo st
  best zero c = absurd (omega (arith, c.less))
  best (suc bound) c =
      ⊎_elim
      (λ g. (c.slot, c.below, c.runs, g))
      (λ f.
      let d = better c.slot c.below c.runs c.place (barred st c.slot f) in
      best bound (record { slot = d.slot; below = d.below; runs = d.runs; place = d.place; less = omega (arith, c.less, d.less) }))
      (true_or_false (grants st c.slot))

  -- While any operation is open, some open one can be granted its step.
  pub some_can_go : (s : ℕ) → s < slot_count → open_at st s ≡ true → CanGo st
  some_can_go s b o =
      let me = standing s b o in
      let w = wants_placed st.k st.n (page_at st.k ws) inv.height inv.tree inv.forms.forms (stand_of me.op (slot_at st s)) me.key me.stance in
      best (suc (rank st inv.height s w.level w.from)) (record { slot = s; below = b; runs = o; place = w; less = omega arith })
