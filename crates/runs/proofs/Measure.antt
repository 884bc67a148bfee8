-- The measure of a slot: at most so many grants are still to come before its operation ends. It falls at each grant of the slot,
-- stays at every other call, is at least 1 while the slot is open and at most what document 01 allows a slot.
use Prim.Native.Nat.{ℕ, suc, ◌+◌, ◌-◌, ◌*◌, ◌≤◌, ◌<◌}
use mathlib.Core.Bool.{true, false, cond}
use mathlib.Core.List.{List, [], ◌∷◌, ◌++◌, reverse, append_assoc}
use mathlib.Core.Logic.{inl, inr}
use mathlib.Core.Path.{◌≡◌, refl, sym, ap, ◌∙◌, subst}
use native.Mathlib.Omega.{arith}
use borrow.Author.Tests.{ltb-true, ltb-false}
use lib.Dec.{ltb}
use lib.ListN.{length, get_or, take, length-append, length-reverse, get_or-append}
use lib.Seq.{take-suc, take_all, get_or-append_seam, get_or-append-add}
use Rattle.ground.specs.Limits.{tallest, word_range, way_grants, second_grants, slot_grants}
use Rattle.ground.proofs.Limits.{grants_of_height, grants_of_ways, grants_of_third, grants_enough}
use Rattle.ground.specs.Tests.{distinct}
use Rattle.ground.proofs.Bools.{not_both, false_if_not_true}
use Rattle.ground.proofs.Choice.{by_test, cond-true, cond-false}
use Rattle.page.specs.Words.{Page}
use Rattle.page.specs.Place.{has}
use Rattle.pool.specs.Pool.{page_at}
use Rattle.slots.specs.declared.Op.{Op}
use Rattle.slots.specs.declared.Op.TheVariants.{Search, Insert, Delete, Next, Regrade}
use Rattle.slots.specs.declared.Way.TheVariants.{First, Second, Third}
use Rattle.slots.specs.declared.Task.{Task}
use Rattle.slots.specs.declared.Task.TheVariants.{Closed, Open}
use Rattle.slots.specs.declared.Slot.{Slot}
use Rattle.slots.specs.declared.State.{State}
use Rattle.slots.specs.Parts.{key_of, is_delete, is_next, is_second, is_third, goes_beside, Stand, stand_of, converting, slot_at}
use Rattle.slots.specs.Grant.{older_than}
use Rattle.slots.proofs.LockLaws.{third_not_second}
use Rattle.footing.specs.Granted.{in_turn, pages_in_turn}
use Rattle.tree.specs.Tree.{Tr, entries_of, way, Forms}
use Rattle.tree.proofs.Search.{way_facts}
use Rattle.runs.specs.Stance.{Gathering, Stance}
use Rattle.runs.specs.Step.{Scene}
pub use Rattle.runs.proofs.Placing.{deletes_beside, beside_first}
use Rattle.runs.proofs.Placing.{next_beside, fewer_beside, gathers_new, turn_held}
use Rattle.runs.proofs.Turns.{beside_one, before_turn, once_before}
use Rattle.runs.proofs.Turning.{Ordered, scene_ordered, turn_once}
use Rattle.runs.proofs.Locking.{deletes_updates, updates_not_next}

-- the lowest page of a path
abbrev pub lowest_of : List ℕ → ℕ
lowest_of path = get_or (reverse path) 0 0

-- How many grants are left at most to an open slot with this path and these siblings. From its lowest page it may go down to
-- the leaf, and then take a page beside it for each page of the path but the top.
abbrev pub left_first : (ℕ → Page) → List ℕ → List ℕ → ℕ
left_first memory [] siblings = way_grants
left_first memory (p ∷ ps) siblings = 2 * (memory (lowest_of (p ∷ ps))).level + length ps - 2 - length siblings

-- By the second way it goes down to the leaf, and may begin again by the first way.
abbrev pub left_second : (ℕ → Page) → List ℕ → ℕ
left_second memory [] = second_grants
left_second memory (p ∷ ps) = way_grants + ((memory (lowest_of (p ∷ ps))).level - 1)

-- By the third way it takes as many pages as by the first, and converts each page that it holds or has still to take, but for those that it has
-- converted: they stand before the one that it wants.
abbrev pub converted : Stand → ℕ
converted z = cond (converting z) (length (older_than z.want (pages_in_turn z))) 0

abbrev pub left_pages : (ℕ → Page) → Stand → ℕ
left_pages memory z = left_first memory z.path z.beside

abbrev pub left_turns : (ℕ → Page) → Stand → ℕ
left_turns memory z = left_pages memory z + (length z.path + length z.beside) - converted z

-- the measure of a slot that stands here, by its way
abbrev pub left_open : (ℕ → Page) → Stand → ℕ
left_open memory z = cond (is_second z.op) (left_second memory z.path) (cond (is_third z.op) (left_pages memory z + left_turns memory z) (left_pages memory z))

abbrev pub left_task : (ℕ → Page) → Slot → Task → ℕ
left_task memory slot Closed = 0
left_task memory slot (Open op) = left_open memory (stand_of op slot)

abbrev pub left_slot : (ℕ → Page) → Slot → ℕ
left_slot memory slot = left_task memory slot slot.task

-- the measure of slot s
abbrev pub grants_left : State → List ℕ → ℕ → ℕ
grants_left st ws s = left_slot (page_at st.k ws) (slot_at st s)

-- ---- where the lowest page stands

-- The lowest page of the path is on this level, and the path goes up from it inside the tree.
pub record Low (memory : ℕ → Page) (l : ℕ) (t : Tr l) (path : List ℕ) (height : ℕ) : Type 0 where
  pub some : 1 ≤ length path
  pub level : (memory (lowest_of path)).level ≡ height
  pub inside : height + length path ≤ l + 2

-- What it holds, in the order of conversion: what is converted, the page that it wants, and what is still to be converted.
pub record Turned (z : Stand) : Type 0 where
  pub third : is_third z.op ≡ true
  pub ordered : Ordered z
  pub fewer : length z.beside < length z.path
  pub held : converting z ≡ true
  pub done : List ℕ
  pub rest : List ℕ
  pub turns : pages_in_turn z ≡ done ++ z.want ∷ rest

-- Where an open slot stands, in levels. While it gathers it wants a page that it does not hold.
pub data Where (memory : ℕ → Page) (l : ℕ) (t : Tr l) (z : Stand) : Type 0 where
  at_start : converting z ≡ false → z.path ≡ [] → z.beside ≡ [] → (memory z.want).level ≡ l + 1 → Where memory l t z
  on_the_way : converting z ≡ false → (low : ℕ) → Low memory l t z.path (low + 2) → z.beside ≡ [] → (memory z.want).level ≡ low + 1 → Where memory l t z
  -- (who goes by the third way is a deletion here, and its key is there)
  at_the_leaf : converting z ≡ false → Low memory l t z.path 1 → suc (length z.beside) < length z.path → goes_beside z.op ≡ true
      → (is_third z.op ≡ true → (is_next z.op ≡ false) × (has (key_of z.op) (memory (lowest_of z.path)).entries ≡ true)) → Where memory l t z
  in_turns : Low memory l t z.path 1 → Turned z → Where memory l t z

-- ---- the order of conversion has every page that is held

-- the siblings of so many pages, and of one more
one_more : (below : ℕ) (beside : List ℕ) → length (beside_one 0 below beside) + length (take below beside) ≡ length (take (suc below) beside)
one_more below beside =
    by_test (ltb below (length beside))
    (λ y.
    let e = ap length (cond-true (get_or beside below 0 ∷ []) [] y) in
    let more = ap length (take-suc beside below 0 (ltb-true below (length beside) y)) in
    omega (arith, e, more, length-append (take below beside) (get_or beside below 0 ∷ [])))
    (λ n.
    let few = ltb-false below (length beside) n in
    let e = ap length (cond-false (get_or beside below 0 ∷ []) [] n) in
    omega (arith, e, ap length (take_all below beside few), ap length (take_all (suc below) beside (omega (arith, few)))))

turn_length : (path beside : List ℕ) → length (in_turn 0 path beside) ≡ length path + length (take (length path) beside)
unfolding in_turn
turn_length [] beside = refl
turn_length (p ∷ below) beside =
    omega (arith, length-append (beside_one 0 (length below) beside) (in_turn 0 below beside), turn_length below beside, one_more (length below) beside)

module _ (z : Stand) (o : Turned z) where
  -- what stands before the want is converted
  pub converted_done : converted z ≡ length o.done
  converted_done =
      cond-true (length (older_than z.want (pages_in_turn z))) 0 o.held
      ∙ ap length
      (ap (older_than z.want) o.turns
      ∙ before_turn o.done z.want o.rest
      (once_before o.done z.want o.rest (subst (λ (ps : List ℕ). distinct ps ≡ true) o.turns (turn_once z o.ordered))).0)

  pub turned_all : length o.done + suc (length o.rest) ≡ length z.path + length z.beside
  turned_all =
      sym (length-append o.done (z.want ∷ o.rest))
      ∙ ap length (sym o.turns)
      ∙ turn_length z.path z.beside
      ∙ ap (λ (bs : List ℕ). length z.path + length bs) (take_all (length z.path) z.beside o.ordered.few)

-- who gathers has converted nothing
pub gathers_none : (z : Stand) → converting z ≡ false → converted z ≡ 0
gathers_none z new = cond-false (length (older_than z.want (pages_in_turn z))) 0 new

module _ (op : Op) (k n : ℕ) (memory : ℕ → Page) (l : ℕ) (t : Tr l) (forms : Forms k n memory l t) (key : key_of op < word_range) where
  -- a page of the way is on the level of its index
  way_level : (i q : ℕ) → i ≤ l → get_or (way (key_of op) l t) i 0 ≡ q → (memory q).level ≡ i + 1
  way_level i q h e = ap (λ (p : ℕ). (memory p).level) (sym e) ∙ (way_facts k n memory l t forms (key_of op) key).level i h

  low_at : (path lower upper : List ℕ) → 1 ≤ length path → way (key_of op) l t ≡ lower ++ (reverse path ++ upper) → Low memory l t path (length lower + 1)
  low_at path lower upper some e =
      let turned : length (reverse path) ≡ length path = length-reverse path in
      let len : length (way (key_of op) l t) ≡ l + 1 = (way_facts k n memory l t forms (key_of op) key).pages in
      let outer : length (way (key_of op) l t) ≡ length lower + length (reverse path ++ upper) = ap length e ∙ length-append lower (reverse path ++ upper) in
      let inner : length (reverse path ++ upper) ≡ length (reverse path) + length upper = length-append (reverse path) upper in
      let spot : get_or (way (key_of op) l t) (length lower) 0 ≡ lowest_of path
      = ap (λ (w : List ℕ). get_or w (length lower) 0) e
      ∙ ap (λ (i : ℕ). get_or (lower ++ (reverse path ++ upper)) i 0) (omega arith)
      ∙ get_or-append-add lower (reverse path ++ upper) 0 0
      ∙ get_or-append (reverse path) upper 0 0 (omega arith) in
      record { some = some; level = way_level (length lower) (lowest_of path) (omega arith) spot; inside = omega arith }

  leaf_at : (path upper : List ℕ) → 1 ≤ length path → way (key_of op) l t ≡ reverse path ++ upper → Low memory l t path 1
  leaf_at path upper some e = subst (Low memory l t path) (omega arith) (low_at path [] upper some e)

  -- which tells whether the key is there
  leaf_key : (path upper : List ℕ) → 1 ≤ length path → way (key_of op) l t ≡ reverse path ++ upper
      → has (key_of op) (memory (lowest_of path)).entries ≡ has (key_of op) (entries_of l t)
  leaf_key path upper some e =
      let facts = way_facts k n memory l t forms (key_of op) key in
      let spot : lowest_of path ≡ get_or (way (key_of op) l t) 0 0
      = sym (get_or-append (reverse path) upper 0 0 (omega (arith, length-reverse path))) ∙ ap (λ (w : List ℕ). get_or w 0 0) (sym e) in
      ap (λ (p : ℕ). has (key_of op) (memory p).entries) spot ∙ ap (λ (P : Page). has (key_of op) P.entries) facts.leaf ∙ facts.decides

-- a Next has no ways, and is no deletion
nexts_not_third : (op : Op) → is_next op ≡ true → is_third op ≡ false
nexts_not_third (Search x) d = refl
nexts_not_third (Insert x v First) d = refl
nexts_not_third (Insert x v Second) d = refl
nexts_not_third (Insert x v Third) d = not_both d refl
nexts_not_third (Delete x First) d = refl
nexts_not_third (Delete x Second) d = refl
nexts_not_third (Delete x Third) d = not_both d refl
nexts_not_third (Next x) d = refl
nexts_not_third (Regrade x v First) d = refl
nexts_not_third (Regrade x v Second) d = refl
nexts_not_third (Regrade x v Third) d = not_both d refl

deletes_not_next : (op : Op) → is_delete op ≡ true → is_next op ≡ false
deletes_not_next op d = updates_not_next op (deletes_updates op d)

module _ (k n : ℕ) (ws : List ℕ) (l : ℕ) (t : Tr l) (z : Stand) (scene : Scene k n ws l t z) where
  abbrev memory : ℕ → Page
  memory = page_at k ws

  abbrev forms : Forms k n memory l t
  forms = scene.forms.forms

  abbrev key : key_of z.op < word_range
  key = scene.key

  gathers_where : converting z ≡ false → Gathering k memory l t z → Where memory l t z
  gathers_where new (inl s) =
      let facts = way_facts k n memory l t forms (key_of z.op) key in
      at_start new s.no_path s.no_siblings (ap (λ (p : ℕ). (memory p).level) (s.wants_root ∙ sym facts.root) ∙ facts.level l (omega arith))
  gathers_where new (inr (inl c)) =
      let lower : List ℕ = c.lower in
      let rest : List ℕ = reverse z.path ++ c.upper in
      let longer : length (lower ++ z.want ∷ []) + 1 ≡ length lower + 2 = omega (arith, length-append lower (z.want ∷ [])) in
      let low : Low memory l t z.path (length (lower ++ z.want ∷ []) + 1)
      = low_at z.op k n memory l t forms key z.path (lower ++ z.want ∷ []) c.upper c.rightly.some (c.whole ∙ sym (append_assoc lower (z.want ∷ []) rest)) in
      let len : length (way (key_of z.op) l t) ≡ l + 1 = (way_facts k n memory l t forms (key_of z.op) key).pages in
      let wanted = way_level z.op k n memory l t forms key (length lower) z.want (omega (arith, len, ap length c.whole, length-append lower (z.want ∷ rest)))
      (ap (λ (w : List ℕ). get_or w (length lower) 0) c.whole ∙ get_or-append_seam lower z.want rest 0) in
      on_the_way new (length lower) (subst (Low memory l t z.path) longer low) c.no_siblings wanted
  gathers_where new (inr (inr (inl b))) =
      at_the_leaf new (leaf_at z.op k n memory l t forms key z.path b.upper b.rightly.some b.whole) b.fewer (deletes_beside z.op b.deletes)
      (λ _. (deletes_not_next z.op b.deletes, leaf_key z.op k n memory l t forms key z.path b.upper b.rightly.some b.whole ∙ b.there))
  gathers_where new (inr (inr (inr c))) =
      at_the_leaf new (leaf_at z.op k n memory l t forms key z.path c.upper c.rightly.some c.whole) c.fewer (next_beside z.op c.asks_next)
      (λ third. not_both third (nexts_not_third z.op c.asks_next))

  by_stance : Stance k memory l t z → Where memory l t z
  by_stance (inl g) = gathers_where (gathers_new k n ws l t z scene g) g
  by_stance (inr c) =
      let few = fewer_beside k n memory l t scene.k_least scene.n_most forms z key c in
      in_turns (leaf_at z.op k n memory l t forms key z.path c.upper c.rightly.some c.whole)
      (record {
        third = c.third;
        ordered = scene_ordered k n ws l t z scene;
        fewer = few;
        held = turn_held k n ws l t z scene c;
        done = c.done;
        rest = c.rest;
        turns = c.turns;
      })

  pub where_it_stands : Where memory l t z
  where_it_stands = by_stance scene.stance

-- ---- the measure of an open slot, by where it stands

pub left_some : (memory : ℕ → Page) (path siblings : List ℕ) → 1 ≤ length path
    → left_first memory path siblings ≡ 2 * (memory (lowest_of path)).level + (length path - 1) - 2 - length siblings
left_some memory [] siblings h = absurd (omega arith)
left_some memory (p ∷ ps) siblings h = omega arith

pub second_some : (memory : ℕ → Page) (path : List ℕ) → 1 ≤ length path → left_second memory path ≡ way_grants + ((memory (lowest_of path)).level - 1)
second_some memory [] h = absurd (omega arith)
second_some memory (p ∷ ps) h = refl

-- the measure by the way
pub left_by_first : (memory : ℕ → Page) (z : Stand) → is_second z.op ≡ false → is_third z.op ≡ false → left_open memory z ≡ left_pages memory z
left_by_first memory z first only =
    cond-false (left_second memory z.path) _ first ∙ cond-false (left_pages memory z + left_turns memory z) (left_pages memory z) only

pub left_by_second : (memory : ℕ → Page) (z : Stand) → is_second z.op ≡ true → left_open memory z ≡ left_second memory z.path
left_by_second memory z second = cond-true (left_second memory z.path) _ second

pub left_by_third : (memory : ℕ → Page) (z : Stand) → is_third z.op ≡ true → left_open memory z ≡ left_pages memory z + left_turns memory z
left_by_third memory z third =
    cond-false (left_second memory z.path) _ (third_not_second z.op third)
    ∙ cond-true (left_pages memory z + left_turns memory z) (left_pages memory z) third

module _ (memory : ℕ → Page) (l : ℕ) (t : Tr l) where
  -- holding nothing
  pub left_start : (path siblings : List ℕ) → path ≡ [] → left_first memory path siblings ≡ way_grants
  left_start path siblings e = ap (λ (p : List ℕ). left_first memory p siblings) e

  pub second_start : (path : List ℕ) → path ≡ [] → left_second memory path ≡ second_grants
  second_start path e = ap (left_second memory) e

  -- coming down
  pub left_coming : (path siblings : List ℕ) (low : ℕ) → Low memory l t path (low + 2) → siblings ≡ [] → left_first memory path siblings ≡ 2 * low + length path + 1
  left_coming path siblings low w e =
      let some : 1 ≤ length path = w.some in
      let level : (memory (lowest_of path)).level ≡ low + 2 = w.level in
      let none : length siblings ≡ 0 = ap length e in
      left_some memory path siblings some ∙ omega arith

  pub second_coming : (path : List ℕ) (low : ℕ) → Low memory l t path (low + 2) → left_second memory path ≡ way_grants + low + 1
  second_coming path low w = second_some memory path w.some ∙ omega (arith, w.level)

  -- at the leaf
  pub left_leaf : (path siblings : List ℕ) → Low memory l t path 1 → left_first memory path siblings ≡ length path - 1 - length siblings
  left_leaf path siblings w =
      let level : (memory (lowest_of path)).level ≡ 1 = w.level in
      let some : 1 ≤ length path = w.some in
      left_some memory path siblings some ∙ omega arith

  -- "So at most 19": what is left of pages to take,
  pub pages_most : (z : Stand) → l + 1 ≤ tallest → Where memory l t z → left_pages memory z ≤ way_grants
  pages_most z h (at_start new e f g) = omega (arith, left_start z.path z.beside e)
  pages_most z h (on_the_way new low w e g) = omega (arith, left_coming z.path z.beside low w e, grants_of_height, w.some, w.inside)
  pages_most z h (at_the_leaf new w f d there) = omega (arith, left_leaf z.path z.beside w, grants_of_height, w.inside)
  pages_most z h (in_turns w o) = omega (arith, left_leaf z.path z.beside w, grants_of_height, w.inside)

  -- "and 19 conversions": and what is left to convert
  pub turns_most : (z : Stand) → l + 1 ≤ tallest → Where memory l t z → left_turns memory z ≤ way_grants
  turns_most z h (at_start new e f g) = omega (arith, left_start z.path z.beside e, ap length e, ap length f)
  turns_most z h (on_the_way new low w e g) = omega (arith, left_coming z.path z.beside low w e, grants_of_height, w.some, w.inside, ap length e)
  turns_most z h (at_the_leaf new w f d there) = omega (arith, left_leaf z.path z.beside w, grants_of_height, w.inside)
  turns_most z h (in_turns w o) = omega (arith, left_leaf z.path z.beside w, grants_of_height, w.inside, o.fewer)

  -- while it gathers, there is a page to take
  pub pages_some : (z : Stand) → l + 1 ≤ tallest → Where memory l t z → converting z ≡ false → 1 ≤ left_pages memory z
  pages_some z h (at_start new e f g) _ = omega (arith, left_start z.path z.beside e, grants_of_height)
  pages_some z h (on_the_way new low w e g) _ = omega (arith, left_coming z.path z.beside low w e)
  pages_some z h (at_the_leaf new w f d there) _ = omega (arith, left_leaf z.path z.beside w)
  pages_some z h (in_turns w o) new = not_both o.held new

  -- while it converts, there is one to convert
  pub turns_some : (z : Stand) → Turned z → 1 ≤ left_turns memory z
  turns_some z o = omega (arith, converted_done z o, turned_all z o)

  pub where_turned : (z : Stand) → Where memory l t z → converting z ≡ true → Turned z
  where_turned z (at_start new e f g) held = not_both held new
  where_turned z (on_the_way new low w e g) held = not_both held new
  where_turned z (at_the_leaf new w f d there) held = not_both held new
  where_turned z (in_turns w o) held = o

  -- who converts goes by the third way
  gathers_or_third : (z : Stand) → is_third z.op ≡ false → Where memory l t z → converting z ≡ false
  gathers_or_third z only at = false_if_not_true (converting z) (λ held. not_both (where_turned z at held).third only)

  first_bounds : (z : Stand) → is_third z.op ≡ false → l + 1 ≤ tallest → Where memory l t z → (1 ≤ left_pages memory z) × (left_pages memory z ≤ way_grants)
  first_bounds z only h at = (pages_some z h at (gathers_or_third z only at), pages_most z h at)

  -- "At most 10 + 19 grants", by the second way
  second_bounds : (z : Stand) → is_second z.op ≡ true → l + 1 ≤ tallest → Where memory l t z
      → (1 ≤ left_second memory z.path) × (left_second memory z.path ≤ second_grants)
  second_bounds z second h (at_start new e f g) =
      let is = second_start z.path e in (omega (arith, is, grants_of_ways, grants_of_height), omega (arith, is))
  second_bounds z second h (on_the_way new low w e g) =
      let is = second_coming z.path low w in
      let inside : low + 2 + length z.path ≤ l + 2 = w.inside in
      (omega (arith, is), omega (arith, is, grants_of_ways))
  second_bounds z second h (at_the_leaf new w f d there) = not_both second (beside_first z.op d)
  second_bounds z second h (in_turns w o) = not_both second (third_not_second z.op o.third)

  -- "at most 19 grants and 19 conversions", by the third
  third_bounds : (z : Stand) → l + 1 ≤ tallest → Where memory l t z
      → (1 ≤ left_pages memory z + left_turns memory z) × (left_pages memory z + left_turns memory z ≤ slot_grants)
  third_bounds z h at =
      let pages = pages_most z h at in
      let turns = turns_most z h at in (
        by_test (converting z)
            (λ held. omega (arith, turns_some z (where_turned z at held)))
            (λ new. omega (arith, pages_some z h at new)),
        omega (arith, pages, turns, grants_of_third),
      )

  -- At most so many as a slot takes, at least one while it is open.
  pub left_bounds : (z : Stand) → l + 1 ≤ tallest → Where memory l t z → (1 ≤ left_open memory z) × (left_open memory z ≤ slot_grants)
  left_bounds z h at =
      by_test (is_second z.op)
      (λ second.
      let is = left_by_second memory z second in
      let bounds = second_bounds z second h at in
      (omega (arith, is, bounds.0), omega (arith, is, bounds.1, grants_enough)))
      (λ first. by_test (is_third z.op)
      (λ third.
      let is = left_by_third memory z third in
      let bounds = third_bounds z h at in
      (omega (arith, is, bounds.0), omega (arith, is, bounds.1)))
      (λ only.
      let is = left_by_first memory z first only in
      let bounds = first_bounds z only h at in
      (omega (arith, is, bounds.0), omega (arith, is, bounds.1, grants_of_ways, grants_enough))))

  -- and fewer by the first way and by the second
  pub left_first_most : (z : Stand) → is_second z.op ≡ false → is_third z.op ≡ false → l + 1 ≤ tallest → Where memory l t z → left_open memory z ≤ way_grants
  left_first_most z first only h at = omega (arith, left_by_first memory z first only, pages_most z h at)

  pub left_second_most : (z : Stand) → is_second z.op ≡ true → l + 1 ≤ tallest → Where memory l t z → left_open memory z ≤ second_grants
  left_second_most z second h at = omega (arith, left_by_second memory z second, (second_bounds z second h at).1)
