-- The measure's laws: it falls at a grant of the slot (`measure_falls`), stays at other slots' steps (`measure_stays`), and is
-- from 1 to `slot_grants` while the slot is open (`measure_bound`).
use Prim.Native.Nat.{ℕ, suc, ◌+◌, ◌-◌, ◌*◌, ◌≤◌, ◌<◌}
use mathlib.Core.Bool.{true, false, cond}
use mathlib.Core.List.{List, [], ◌∷◌, ◌++◌, reverse, reverse-append, append_assoc}
use mathlib.Core.Logic.{◌⊎◌, inl, inr, ⊎_elim, ◌≢◌}
use mathlib.Core.Path.{◌≡◌, refl, sym, ap, ap₂, ◌∙◌, subst}
use native.Mathlib.Omega.{arith}
use borrow.Author.Tests.{eq-eqb, ne_eqb}
use lib.ListN.{length, get_or, length-append, length-reverse}
use Rattle.ground.specs.Limits.{slot_count, tallest, way_grants, second_grants, slot_grants}
use Rattle.ground.specs.Tests.{member, distinct}
use Rattle.ground.proofs.Bools.{not_both}
use Rattle.ground.proofs.Choice.{by_test}
use Rattle.ground.proofs.Tests.{member_inside}
use Rattle.ground.proofs.Limits.{grants_of_height, grants_of_ways}
use Rattle.page.specs.Words.{Page, is_leaf}
use Rattle.pool.specs.Pool.{Write, page_at, applied}
use Rattle.slots.specs.declared.Op.{Op}
use Rattle.slots.specs.declared.Task.{Task}
use Rattle.slots.specs.declared.Task.TheVariants.{Closed, Open}
use Rattle.slots.specs.declared.Slot.{Slot}
use Rattle.slots.specs.declared.State.{State}
use Rattle.slots.specs.declared.Answer.{Answer}
use Rattle.slots.specs.declared.Answer.TheVariants.{Moved}
use Rattle.slots.specs.Parts.{is_open, is_second, is_third, first_way, closed_slot, path_of, beside_of, Stand, stand_of, slot_of, slot_at, open_at, holds_at, converting, fresh_stand, Opened}
use Rattle.slots.specs.Book.{goes_on, closes}
use Rattle.slots.proofs.LockLaws.{first_not_second, first_not_third, third_not_second}
use Rattle.slots.proofs.Keeping.{Shaped, slot_here, slot_other, stand_new}
use Rattle.footing.specs.Granted.{Verdict, goes, ends, at_its_leaf, in_turn, pages_in_turn}
use Rattle.footing.specs.Fitting.{verdict}
use Rattle.index.specs.Step.{Left, left, acted, stepped}
use Rattle.footing.proofs.KeepLaws.{second_safe}
use Rattle.tree.specs.Tree.{Tr}
use Rattle.tree.specs.Change.{written_pages}
use Rattle.tree.proofs.Height.{height_facts}
use Rattle.tree.proofs.Memory.{absent_times, unwritten}
use Rattle.tree.proofs.Words.{fit_writes, applied_memory}
use Rattle.runs.specs.Stance.{HoldsWith, StandsAtLeaf, TakesBeside, BeginsAgain, Converts, Gathers, Takes}
use Rattle.runs.specs.Step.{Comes, moves, stops}
use Rattle.runs.proofs.Invariant.{Invariant, scene}
use Rattle.runs.proofs.Stepping.{granted_comes}
use Rattle.runs.proofs.Fathers.{upward_held}
use Rattle.runs.proofs.Progress.{opened as open-task}
use Rattle.runs.proofs.Calls.{granted_does, others_unwritten}
use Rattle.runs.proofs.Locking.{paired}
use Rattle.runs.proofs.Turning.{Ordered, in_turn_lem}
use Rattle.runs.proofs.Measure.{lowest_of, left_first, left_second, converted, left_pages, left_turns, left_open, left_task, left_slot, grants_left, beside_first, Low, Turned, Where, at_start, on_the_way, at_the_leaf, in_turns, converted_done, turned_all, gathers_none, where_it_stands, left_some, second_some, left_by_first, left_by_second, left_by_third, left_start, second_start, left_coming, second_coming, left_leaf, where_turned, left_bounds, left_first_most, left_second_most}
use Rattle.runs.proofs.Steps.{Goes}

-- ---- the lowest page

-- the lowest page tells whether the slot stands at its leaf
leaf_by_low : (memory : ℕ → Page) (up : List ℕ) → 1 ≤ length up → at_its_leaf memory up ≡ is_leaf (memory (get_or up 0 0))
leaf_by_low memory [] h = absurd (omega arith)
leaf_by_low memory (p ∷ up) h = refl

pub at_its_leaf_lem : (memory : ℕ → Page) (path : List ℕ) → 1 ≤ length path → at_its_leaf memory (reverse path) ≡ is_leaf (memory (lowest_of path))
at_its_leaf_lem memory path h = leaf_by_low memory (reverse path) (omega (arith, length-reverse path))

-- What a slot that comes down holds once its want is granted: that page is its lowest.
pub record Lower (z z' : Stand) : Type 0 where
  pub same : z'.op ≡ z.op
  pub lowest : lowest_of z'.path ≡ z.want
  pub some : 1 ≤ length z'.path
  pub most : length z'.path ≤ length z.path + 1
  pub still : z'.beside ≡ []
  -- by the second way it holds it alone
  pub alone : is_second z.op ≡ true → length z'.path ≡ 1

-- who wants a page that it does not hold gathers
pub takes_gathers : (k : ℕ) (memory : ℕ → Page) (z z' : Stand) → converting z ≡ false → Takes k memory z z' → Gathers k memory z z'
takes_gathers k memory z z' new (inl g) = g
takes_gathers k memory z z' new (inr c) = not_both c.held new

-- and who wants one that it holds converts it
pub takes_converts : (k : ℕ) (memory : ℕ → Page) (z z' : Stand) → converting z ≡ true → Takes k memory z z' → Converts z z'
takes_converts k memory z z' held (inl (inl g)) = not_both held g.new
takes_converts k memory z z' held (inl (inr (inl g))) = not_both held g.new
takes_converts k memory z z' held (inl (inr (inr (inl g)))) = not_both held g.new
takes_converts k memory z z' held (inl (inr (inr (inr g)))) = not_both held g.new
takes_converts k memory z z' held (inr c) = c

-- It goes lower, or it begins again.
pub takes_lower : (k : ℕ) (memory : ℕ → Page) (z z' : Stand) → (StandsAtLeaf memory z.path → ⊥) → Gathers k memory z z'
    → Lower z z' ⊎ BeginsAgain k memory z z'
takes_lower k memory z z' above (inl g) =
    let size = ap length g.holds in
    inl (record {
      same = g.same;
      lowest = ap lowest_of g.holds;
      some = omega arith;
      most = omega arith;
      still = g.still;
      alone = λ _. size;
    })
takes_lower k memory z z' above (inr (inl g)) =
    let size = ap length g.holds in
    let long = length-append z.path (z.want ∷ []) in
    inl (record {
      same = g.same;
      lowest = ap lowest_of g.holds ∙ ap (λ (p : List ℕ). get_or p 0 0) (reverse-append z.path (z.want ∷ []));
      some = omega arith;
      most = omega arith;
      still = g.still;
      alone = λ second. not_both (second_safe z.op k (memory z.want) second) g.unsafe;
    })
takes_lower k memory z z' above (inr (inr (inl g))) = absurd (above g.at_leaf)
takes_lower k memory z z' above (inr (inr (inr g))) = inr g

-- at its leaf it takes a page beside its path
pub takes_beside : (k : ℕ) (memory : ℕ → Page) (z z' : Stand) → StandsAtLeaf memory z.path → is_second z.op ≡ false → Gathers k memory z z' → TakesBeside memory z z'
takes_beside k memory z z' at first (inl g) = absurd (g.comes_down at)
takes_beside k memory z z' at first (inr (inl g)) = absurd (g.comes_down at)
takes_beside k memory z z' at first (inr (inr (inl g))) = g
takes_beside k memory z z' at first (inr (inr (inr g))) = not_both g.second first

-- ---- a slot that goes on

module _ (memory : ℕ → Page) (l : ℕ) (t : Tr l) (path : List ℕ) where
  -- by its levels a slot is at its leaf or above
  pub start_above : path ≡ [] → at_its_leaf memory (reverse path) ≡ false
  start_above e = ap (λ (p : List ℕ). at_its_leaf memory (reverse p)) e

  pub low_above : (low : ℕ) → Low memory l t path (low + 2) → at_its_leaf memory (reverse path) ≡ false
  low_above low w = at_its_leaf_lem memory path w.some ∙ ne_eqb (memory (lowest_of path)).level 1 (λ e. omega (arith, e, w.level))

  pub low_at_leaf : Low memory l t path 1 → at_its_leaf memory (reverse path) ≡ true
  low_at_leaf w = at_its_leaf_lem memory path w.some ∙ eq-eqb (memory (lowest_of path)).level 1 w.level

-- what is left to take once a page is granted on the way down
pub lower_left : (memory : ℕ → Page) (z z' : Stand) (level : ℕ) → Lower z z' → (memory z.want).level ≡ level
    → left_pages memory z' ≡ 2 * level + (length z'.path - 1) - 2
lower_left memory z z' level low e =
    let there : (memory (lowest_of z'.path)).level ≡ level = ap (λ (p : ℕ). (memory p).level) low.lowest ∙ e in
    left_some memory z'.path z'.beside low.some ∙ omega (arith, there, ap length low.still)

-- and by the second way what is left at all
lower_second : (memory : ℕ → Page) (z z' : Stand) (level : ℕ) → Lower z z' → is_second z.op ≡ true → (memory z.want).level ≡ level
    → left_open memory z' ≡ way_grants + (level - 1)
lower_second memory z z' level low second e =
    left_by_second memory z' (ap is_second low.same ∙ second)
    ∙ second_some memory z'.path low.some
    ∙ ap (λ (m : ℕ). way_grants + (m - 1)) (ap (λ (p : ℕ). (memory p).level) low.lowest ∙ e)

-- begun again it has what the first way takes
again_left : (k : ℕ) (memory : ℕ → Page) (z z' : Stand) → BeginsAgain k memory z z' → left_open memory z' ≡ way_grants
again_left k memory z z' g =
    ap (left_open memory) g.fresh ∙ left_by_first memory (fresh_stand (first_way z.op)) (first_not_second z.op) (first_not_third z.op)

-- Of a page taken: one fewer is left to take, at least, and no more to convert, for it is held now.
abbrev pub Fewer : (ℕ → Page) → Stand → Stand → Type 0
Fewer memory z z' = (left_pages memory z' < left_pages memory z) × (left_turns memory z' ≤ left_turns memory z)

-- Of a page converted: one fewer is left to convert.
abbrev pub Turns : (ℕ → Page) → Stand → Stand → Type 0
Turns memory z z' = (left_pages memory z' ≡ left_pages memory z) × (left_turns memory z' < left_turns memory z)

-- after a conversion: the next one
unfoldable converts_turned : (z z' : Stand) → Turned z → (c : Converts z z') → Turned z'
converts_turned z z' o c =
    let ordered' : Ordered z' = record {
      few = omega (arith, o.ordered.few, ap length c.still, ap length c.beside);
      different = ap₂ (λ (ps bs : List ℕ). distinct (ps ++ bs)) c.still c.beside ∙ o.ordered.different;
    } in
    let turns' : pages_in_turn z' ≡ (c.done ++ z.want ∷ []) ++ z'.want ∷ c.rest
    = ap₂ (in_turn 0) c.still c.beside ∙ c.turns ∙ sym (append_assoc c.done (z.want ∷ []) (z'.want ∷ c.rest)) in
    record {
      third = ap is_third c.same ∙ o.third;
      ordered = ordered';
      fewer = omega (arith, o.fewer, ap length c.still, ap length c.beside);
      held = sym (in_turn_lem z' ordered' z'.want) ∙ ap (member z'.want) turns' ∙ member_inside z'.want (c.done ++ z.want ∷ []) c.rest;
      done = c.done ++ z.want ∷ [];
      rest = c.rest;
      turns = turns';
    }

-- one page more is converted
pub converts_done : (z z' : Stand) → Turned z → Converts z z' → converted z' ≡ converted z + 1
unfolding converts_turned
converts_done z z' o c =
    let now : Turned z = record { third = o.third; ordered = o.ordered; fewer = o.fewer; held = o.held; done = c.done; rest = z'.want ∷ c.rest; turns = c.turns } in
    omega (arith, converted_done z now, converted_done z' (converts_turned z z' o c), length-append c.done (z.want ∷ []))

pub converts_turns : (memory : ℕ → Page) (z z' : Stand) → Turned z → Converts z z' → Turns memory z z'
converts_turns memory z z' o c =
    let pages : left_pages memory z' ≡ left_pages memory z = ap₂ (left_first memory) c.still c.beside in
    let o' = converts_turned z z' o c in (
      pages,
      omega (arith, pages, converts_done z z' o c, converted_done z' o', turned_all z' o', ap length c.still, ap length c.beside),
    )

module _ (k : ℕ) (memory : ℕ → Page) (l : ℕ) (t : Tr l) (z z' : Stand) where
  -- a page taken by who does not go by the second way: the first one,
  start_fewer : l + 1 ≤ tallest → converting z ≡ false → z.path ≡ [] → z.beside ≡ [] → (memory z.want).level ≡ l + 1 → Lower z z' → Fewer memory z z'
  start_fewer h new e f g low =
      let is = lower_left memory z z' (l + 1) low g in
      let was = left_start memory l t z.path z.beside e in
      let none = gathers_none z new in
      let most : length z'.path ≤ length z.path + 1 = low.most in
      (omega (arith, is, was, low.some, ap length e, grants_of_height), omega (arith, is, was, none, low.some, ap length e, ap length f, ap length low.still, grants_of_height))

  -- another one on the way down,
  way_fewer : converting z ≡ false → (low : ℕ) → Low memory l t z.path (low + 2) → z.beside ≡ [] → (memory z.want).level ≡ low + 1 → Lower z z' → Fewer memory z z'
  way_fewer new low w e g down =
      let is = lower_left memory z z' (low + 1) down g in
      let was = left_coming memory l t z.path z.beside low w e in
      let none = gathers_none z new in
      let most : length z'.path ≤ length z.path + 1 = down.most in
      (omega (arith, is, was, down.some), omega (arith, is, was, none, down.some, ap length e, ap length down.still))

  -- and one beside its path
  leaf_fewer : converting z ≡ false → Low memory l t z.path 1 → suc (length z.beside) < length z.path → TakesBeside memory z z' → Fewer memory z z'
  leaf_fewer new w f g =
      let was = left_leaf memory l t z.path z.beside w in
      let is : left_pages memory z' ≡ length z.path - 1 - length (z.beside ++ z.want ∷ [])
      = ap₂ (left_first memory) g.still g.holds ∙ left_leaf memory l t z.path (z.beside ++ z.want ∷ []) w in
      let more = length-append z.beside (z.want ∷ []) in
      (omega (arith, was, is, more), omega (arith, was, is, more, gathers_none z new, ap length g.still, ap length g.holds))

  pub gathers_fewer : l + 1 ≤ tallest → is_second z.op ≡ false → Where memory l t z → Gathers k memory z z' → (z'.op ≡ z.op) × Fewer memory z z'
  gathers_fewer h first (at_start new e f g) gathers =
      ⊎_elim (λ low. (low.same, start_fewer h new e f g low)) (λ a. not_both a.second first)
      (takes_lower k memory z z' (λ at. omega (arith, at.0, ap length e)) gathers)
  gathers_fewer h first (on_the_way new low w e g) gathers =
      ⊎_elim (λ down. (down.same, way_fewer new low w e g down)) (λ a. not_both a.second first)
      (takes_lower k memory z z' (λ at. omega (arith, at.1, w.level)) gathers)
  gathers_fewer h first (at_the_leaf new w f d there) gathers =
      let takes = takes_beside k memory z z' (w.some, w.level) first gathers in
      (takes.same, leaf_fewer new w f takes)
  gathers_fewer h first (in_turns w o) gathers = not_both o.held (gathers_new gathers)
    where
      gathers_new : Gathers k memory z z' → converting z ≡ false
      gathers_new (inl g) = g.new
      gathers_new (inr (inl g)) = g.new
      gathers_new (inr (inr (inl g))) = g.new
      gathers_new (inr (inr (inr g))) = g.new

  -- by the second way it comes down, or begins again
  second_falls : l + 1 ≤ tallest → is_second z.op ≡ true → Where memory l t z → Gathers k memory z z' → left_open memory z' < left_open memory z
  second_falls h second (at_start new e f g) gathers =
      let was = left_by_second memory z second ∙ second_start memory l t z.path e in
      ⊎_elim
      (λ low. omega (arith, lower_second memory z z' (l + 1) low second g, was, grants_of_ways))
      (λ a. omega (arith, again_left k memory z z' a, was, grants_of_ways))
      (takes_lower k memory z z' (λ at. omega (arith, at.0, ap length e)) gathers)
  second_falls h second (on_the_way new low w e g) gathers =
      let was = left_by_second memory z second ∙ second_coming memory l t z.path low w in
      ⊎_elim
      (λ down. omega (arith, lower_second memory z z' (low + 1) down second g, was))
      (λ a. omega (arith, again_left k memory z z' a, was))
      (takes_lower k memory z z' (λ at. omega (arith, at.1, w.level)) gathers)
  second_falls h second (at_the_leaf new w f d there) gathers = not_both second (beside_first z.op d)
  second_falls h second (in_turns w o) gathers = not_both second (third_not_second z.op o.third)

  -- by the third the sum falls, whatever it does
  third_falls : is_third z.op ≡ true → z'.op ≡ z.op → left_pages memory z' + left_turns memory z' < left_pages memory z + left_turns memory z
      → left_open memory z' < left_open memory z
  third_falls third same less = omega (arith, left_by_third memory z third, left_by_third memory z' (ap is_third same ∙ third), less)

  gathers_falls : l + 1 ≤ tallest → Where memory l t z → Gathers k memory z z' → left_open memory z' < left_open memory z
  gathers_falls h at gathers =
      by_test (is_second z.op)
      (λ second. second_falls h second at gathers)
      (λ first.
      let (same, fewer) = gathers_fewer h first at gathers in
      by_test (is_third z.op)
      (λ third. third_falls third same (omega (arith, fewer.0, fewer.1)))
      (λ only.
      omega (arith, left_by_first memory z first only, left_by_first memory z' (ap is_second same ∙ first) (ap is_third same ∙ only), fewer.0)))

  -- A slot that goes on has fewer grants left.
  moved_falls : l + 1 ≤ tallest → Where memory l t z → Takes k memory z z' → left_open memory z' < left_open memory z
  moved_falls h at (inl gathers) = gathers_falls h at gathers
  moved_falls h at (inr c) =
      let (same, less) = converts_turns memory z z' (where_turned memory l t z at c.held) c in
      third_falls c.third c.same (omega (arith, same, less))

-- ---- one slot written

module _ (st : State) (shaped : Shaped st) (s : ℕ) (b : s < slot_count) where
  pub goes_on_here : (z : Stand) → slot_at (goes_on st s z) s ≡ slot_of z
  unfolding goes_on
  goes_on_here z = slot_here st shaped s b (slot_of z) st.order st.waiting

  pub goes_on_other : (z : Stand) (u : ℕ) → u ≢ s → slot_at (goes_on st s z) u ≡ slot_at st u
  unfolding goes_on
  goes_on_other z u n = slot_other st shaped s b (slot_of z) st.order st.waiting u n

  pub closes_here : slot_at (closes st s) s ≡ closed_slot
  unfolding closes
  closes_here = slot_here st shaped s b closed_slot st.order st.waiting

  pub closes_other : (u : ℕ) → u ≢ s → slot_at (closes st s) u ≡ slot_at st u
  unfolding closes
  closes_other u n = slot_other st shaped s b closed_slot st.order st.waiting u n

pub goes_on_k : (st : State) (s : ℕ) (z : Stand) → (goes_on st s z).k ≡ st.k
unfolding goes_on
goes_on_k st s z = refl

pub closes_k : (st : State) (s : ℕ) → (closes st s).k ≡ st.k
unfolding closes
closes_k st s = refl

-- the operation of an open slot
pub open_runs : (st : State) (s : ℕ) → open_at st s ≡ true → (op : Op) × Opened st s op
open_runs st s o = open-task (slot_at st s).task o

-- ---- where a slot of a run stands, and its measure's bounds

module _ (st : State) (ws : List ℕ) (inv : Invariant st ws) where
  pub where_slot : (s : ℕ) (op : Op) → s < slot_count → Opened st s op
      → Where (page_at st.k ws) inv.height inv.tree (stand_of op (slot_at st s))
  where_slot s op b runs =
      where_it_stands st.k st.n ws inv.height inv.tree (stand_of op (slot_at st s)) (scene st ws inv s op b runs)

  -- "h is at most 10"
  pub not_too_tall : inv.height + 1 ≤ tallest
  not_too_tall = (height_facts st.k st.n (page_at st.k ws) inv.height inv.tree inv.sound.k_least inv.sound.n_most inv.forms.forms).height

  pub left_of_open : (s : ℕ) (op : Op) → Opened st s op → grants_left st ws s ≡ left_open (page_at st.k ws) (stand_of op (slot_at st s))
  left_of_open s op runs = ap (left_task (page_at st.k ws) (slot_at st s)) runs

  -- An open slot has at least one grant left, and at most so many as document 01 allows a slot.
  pub measure_bound : (s : ℕ) → s < slot_count → open_at st s ≡ true → (1 ≤ grants_left st ws s) × (grants_left st ws s ≤ slot_grants)
  measure_bound s b opened =
      let found = open_runs st s opened in
      let is = left_of_open s found.0 found.1 in
      let bounds = left_bounds (page_at st.k ws) inv.height inv.tree (stand_of found.0 (slot_at st s))
      not_too_tall (where_slot s found.0 b found.1) in
      (omega (arith, is, bounds.0), omega (arith, is, bounds.1))

  -- by the first way, and by the second, at most what that takes
  pub measure_first : (s : ℕ) (op : Op) → s < slot_count → Opened st s op → is_second op ≡ false → is_third op ≡ false → grants_left st ws s ≤ way_grants
  measure_first s op b runs first only =
      omega
      (arith, left_of_open s op runs, left_first_most (page_at st.k ws) inv.height inv.tree (stand_of op (slot_at st s)) first only not_too_tall (where_slot s op b runs))

  pub measure_second : (s : ℕ) (op : Op) → s < slot_count → Opened st s op → is_second op ≡ true → grants_left st ws s ≤ second_grants
  measure_second s op b runs second =
      omega
      (arith, left_of_open s op runs, left_second_most (page_at st.k ws) inv.height inv.tree (stand_of op (slot_at st s)) second not_too_tall (where_slot s op b runs))

-- a closed slot has none
pub measure_closed : (st : State) (ws : List ℕ) (s : ℕ) → open_at st s ≡ false → grants_left st ws s ≡ 0
measure_closed st ws s = by_task (slot_at st s).task
  where
    by_task : (task : Task) → is_open task ≡ false → left_task (page_at st.k ws) (slot_at st s) task ≡ 0
    by_task Closed h = refl
    by_task (Open op) h = not_both refl h

-- ---- a slot that another's step leaves alone

-- Slot u is as it was, and its lowest page is on the same level.
pub record Undisturbed (st : State) (ws : List ℕ) (next : State) (after : List ℕ) (u : ℕ) : Type 0 where
  pub slot : slot_at next u ≡ slot_at st u
  pub level : open_at st u ≡ true → 1 ≤ length (path_of (slot_at st u))
      → (page_at next.k after (lowest_of (path_of (slot_at st u)))).level ≡ (page_at st.k ws (lowest_of (path_of (slot_at st u)))).level

-- its measure is as it was: it goes by the level of the lowest page
module _ (memory memory' : ℕ → Page) where
  first_same : (path siblings : List ℕ) → (1 ≤ length path → (memory' (lowest_of path)).level ≡ (memory (lowest_of path)).level)
      → left_first memory' path siblings ≡ left_first memory path siblings
  first_same [] siblings h = refl
  first_same (p ∷ ps) siblings h = ap (λ (n : ℕ). 2 * n + length ps - 2 - length siblings) (h (omega arith))

  second_same : (path : List ℕ) → (1 ≤ length path → (memory' (lowest_of path)).level ≡ (memory (lowest_of path)).level) → left_second memory' path ≡ left_second memory path
  second_same [] h = refl
  second_same (p ∷ ps) h = ap (λ (n : ℕ). way_grants + (n - 1)) (h (omega arith))

  open_same : (z : Stand) → (1 ≤ length z.path → (memory' (lowest_of z.path)).level ≡ (memory (lowest_of z.path)).level) → left_open memory' z ≡ left_open memory z
  open_same z h =
      ap₂ (λ (a b : ℕ). cond (is_second z.op) b (cond (is_third z.op) (a + (a + (length z.path + length z.beside) - converted z)) a))
      (first_same z.path z.beside h) (second_same z.path h)

  left_same : (slot : Slot) (task : Task)
      → (is_open task ≡ true → 1 ≤ length (path_of slot) → (memory' (lowest_of (path_of slot))).level ≡ (memory (lowest_of (path_of slot))).level) → left_task memory' slot task ≡ left_task memory slot task
  left_same slot Closed h = refl
  left_same slot (Open op) h = open_same (stand_of op slot) (h refl)

module _ (st : State) (ws : List ℕ) (next : State) (after : List ℕ) (u : ℕ) (h : Undisturbed st ws next after u) where
  pub undisturbed_measure : grants_left next after u ≡ grants_left st ws u
  undisturbed_measure =
      ap (left_slot (page_at next.k after)) h.slot
      ∙ left_same (page_at st.k ws) (page_at next.k after) (slot_at st u) (slot_at st u).task h.level

  -- and so are both of its parts
  pub undisturbed_pages : (op : Op) → open_at st u ≡ true
      → left_pages (page_at next.k after) (stand_of op (slot_at next u)) ≡ left_pages (page_at st.k ws) (stand_of op (slot_at st u))
  undisturbed_pages op opened =
      ap (λ (slot : Slot). left_pages (page_at next.k after) (stand_of op slot)) h.slot
      ∙ first_same (page_at st.k ws) (page_at next.k after) (path_of (slot_at st u)) (beside_of (slot_at st u)) (h.level opened)

  pub undisturbed_turns : (op : Op) → open_at st u ≡ true
      → left_turns (page_at next.k after) (stand_of op (slot_at next u)) ≡ left_turns (page_at st.k ws) (stand_of op (slot_at st u))
  undisturbed_turns op opened =
      let z : Stand = stand_of op (slot_at st u) in
      ap (λ (slot : Slot). left_turns (page_at next.k after) (stand_of op slot)) h.slot
      ∙ ap (λ (a : ℕ). a + (length z.path + length z.beside) - converted z)
      (first_same (page_at st.k ws) (page_at next.k after) z.path z.beside (h.level opened))

pub nothing_disturbed : (st : State) (ws : List ℕ) (u : ℕ) → Undisturbed st ws st ws u
nothing_disturbed st ws u = record { slot = refl; level = λ _ _. refl }

-- ---- a granted step

-- where its slot stands, and what it comes to
abbrev stand_at : State → ℕ → Op → Stand
stand_at st s op = stand_of op (slot_at st s)

abbrev verdict_of : State → List ℕ → ℕ → Op → Verdict
verdict_of st ws s op = verdict st.k st.n ws (stand_at st s op)

module _ (st : State) (ws : List ℕ) (inv : Invariant st ws) (s : ℕ) (g : Goes st s) where
  abbrev op : Op
  op = g.op

  pub comes : Comes st.k st.n ws inv.height inv.tree (stand_at st s op)
  comes = granted_comes st.k st.n ws inv.height inv.tree (stand_at st s op) (scene st ws inv s op g.inside g.runs)

  -- the measure once it has moved
  pub after_moving : (z' : Stand) → HoldsWith z' → grants_left (goes_on st s z') ws s ≡ left_open (page_at st.k ws) z'
  after_moving z' holds =
      ap₂ (λ (k : ℕ) (slot : Slot). left_slot (page_at k ws) slot) (goes_on_k st s z') (goes_on_here st inv.shaped s g.inside z')
      ∙ ap (left_open (page_at st.k ws)) (stand_new z' (paired z' holds))

  pub moved : (z' : Stand) → verdict_of st ws s op ≡ goes z' → stepped st ws s ≡ left Moved (goes_on st s z') ws
  moved z' e = granted_does st ws inv s op g.inside g.runs g.granted ∙ ap (acted st ws s) e

  pub ended_so : (a : Answer) (writes : List Write) → verdict_of st ws s op ≡ ends a writes
      → stepped st ws s ≡ left a (closes st s) (applied st.k writes ws)
  ended_so a writes e = granted_does st ws inv s op g.inside g.runs g.granted ∙ ap (acted st ws s) e

  -- Another slot is undisturbed by the step.
  pub step_undisturbed : (u : ℕ) → u < slot_count → u ≢ s → Undisturbed st ws (stepped st ws s).state (stepped st ws s).words u
  step_undisturbed u c n = by_comes comes
    where
      by_comes : Comes st.k st.n ws inv.height inv.tree (stand_at st s op)
          → Undisturbed st ws (stepped st ws s).state (stepped st ws s).words u
      by_comes (moves z' e same stance locked takes) =
          subst (λ (r : Left). Undisturbed st ws r.state r.words u) (sym (moved z' e))
          (record {
            slot = goes_on_other st inv.shaped s g.inside z' u n;
            level = λ _ _. ap (λ (k : ℕ). (page_at k ws (lowest_of (path_of (slot_at st u)))).level) (goes_on_k st s z');
          })
      by_comes (stops a writes e ended) =
          let low : ℕ = lowest_of (path_of (slot_at st u)) in
          subst (λ (r : Left). Undisturbed st ws r.state r.words u) (sym (ended_so a writes e))
          (record {
            slot = closes_other st inv.shaped s g.inside u n;
            level = λ opened some.
                let found = open_runs st u opened in
                let holds : holds_at st u low ≡ true = upward_held (path_of (slot_at st u)) (beside_of (slot_at st u)) 0 some in
                let none : member low (written_pages writes) ≡ false
                = others_unwritten st ws inv s g.inside op a writes g.runs g.granted ended u found.0 c n found.1 low holds in
                let fit = fit_writes st.k st.n writes ended.leads.fitting ended.leads.inside in
                ap (λ (k : ℕ). (page_at k (applied st.k writes ws) low).level) (closes_k st s)
                ∙ ap (λ (P : Page). P.level)
                (applied_memory st.k st.n writes ws fit inv.forms.whole low
                ∙ unwritten (page_at st.k ws) writes low (absent_times low (written_pages writes) none));
          })

  -- The measure stays at another slot's step.
  pub measure_stays : (u : ℕ) → u < slot_count → u ≢ s → grants_left (stepped st ws s).state (stepped st ws s).words u ≡ grants_left st ws u
  measure_stays u c n = undisturbed_measure st ws (stepped st ws s).state (stepped st ws s).words u (step_undisturbed u c n)

  -- The measure falls at a grant of the slot.
  pub measure_falls : grants_left (stepped st ws s).state (stepped st ws s).words s < grants_left st ws s
  measure_falls = by_comes comes
    where
      by_comes : Comes st.k st.n ws inv.height inv.tree (stand_at st s op)
          → grants_left (stepped st ws s).state (stepped st ws s).words s < grants_left st ws s
      by_comes (moves z' e same stance locked takes) =
          let M : ℕ → Page = page_at st.k ws in
          let z : Stand = stand_at st s op in
          let was = left_of_open st ws inv s op g.runs in
          let falls = moved_falls st.k M inv.height inv.tree z z' (not_too_tall st ws inv)
          (where_slot st ws inv s op g.inside g.runs) takes in
          let is = after_moving z' locked.holds in
          subst (λ (r : Left). grants_left r.state r.words s < grants_left st ws s) (sym (moved z' e)) (omega (arith, was, falls, is))
      by_comes (stops a writes e ended) =
          let some = (measure_bound st ws inv s g.inside (ap is_open g.runs)).0 in
          let is : grants_left (closes st s) (applied st.k writes ws) s ≡ 0 = ap (left_slot (page_at (closes st s).k (applied st.k writes ws))) (closes_here st inv.shaped s g.inside) in
          subst (λ (r : Left). grants_left r.state r.words s < grants_left st ws s) (sym (ended_so a writes e)) (omega (arith, some, is))
