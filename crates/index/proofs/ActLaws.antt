-- What the functions of an insertion, a deletion and a regrading ask, from where the operation stands; and each course, carried out, as the
-- rule's word for it.
use Prim.Native.Nat.{ℕ, ◌+◌, ◌-◌, ◌*◌, ◌≤◌, ◌<◌}
use mathlib.Core.Bool.{Bool, true, false, cond}
use mathlib.Core.List.{List, [], ◌∷◌, ◌++◌, reverse}
use mathlib.Core.Logic.{◌⊎◌, inl, inr, ⊎_elim}
use mathlib.Core.Path.{◌≡◌, refl, sym, ap, ap₂, ◌∙◌, subst}
use native.Mathlib.Omega.{arith}
use borrow.Author.Tests.{leb-true, leb-false, ltb-true, lt-ltb, le-ltb}
use lib.Dec.{ltb}
use lib.ListN.{length, get_or, take, drop, replicate, length-append, length-drop, length-take, take-append-drop}
use lib.Seq.{length-take-le, take_at}
use Rattle.ground.specs.Limits.{largest_n, slot_count, path_holds, most_new}
use Rattle.ground.specs.Tests.{member, distinct, filled}
use Rattle.ground.proofs.Bools.{or_first, or_second, false_if_not_true}
use Rattle.ground.proofs.Choice.{cond-true, cond-false}
use Rattle.ground.proofs.Tests.{member_append, member_from, not_member_at, distinct_front, distinct_back, distinct_apart, distinct_at, distinct_join, apart_member, apart_from, list_below_distinct}
use Rattle.std.specs.Prelude.{Some, None}
use Rattle.page.specs.Words.{Page, Entry, μ}
use Rattle.page.specs.Place.{has, information}
use Rattle.page.specs.Reading.{looked}
use Rattle.page.specs.Splits.{with_entries}
use Rattle.page.proofs.RegradeLaws.{regraded_none}
use Rattle.pool.specs.Pool.{Write, write, written, page_at, free_pages, is_free, applied}
use Rattle.pool.specs.Scan.{Scanned}
use Rattle.pool.proofs.LyingLaws.{scanned_at}
use Rattle.pool.proofs.PagesLaws.{written_same}
use Rattle.pool.proofs.FreeLaws.{Free, free_pages_at, free_pages_free}
use Rattle.change.specs.Insertion.{room, insertion}
use Rattle.change.specs.Deletion.{deletion}
use Rattle.change.specs.Regrading.{regrading}
use Rattle.change.specs.Held.{Holding, leaf_of, fathers_of}
use Rattle.change.proofs.HeldLaws.{Known, held_known, holding_known, leaf_taken, fathers_taken}
use Rattle.insertion.specs.Inserting.{Inserting}
use Rattle.insertion.proofs.InsertLaws.{insertion_same}
use Rattle.deletion.specs.Deleting.{Deleting}
use Rattle.slots.specs.declared.Op.{Op}
use Rattle.slots.specs.declared.Op.TheVariants.{Insert, Regrade}
use Rattle.slots.specs.declared.Way.TheVariants.{First}
use Rattle.slots.specs.declared.Lock.{Lock}
use Rattle.slots.specs.declared.Slot.{Slot}
use Rattle.slots.specs.declared.State.{State}
use Rattle.slots.specs.declared.Answer.{Answer}
use Rattle.slots.specs.declared.Answer.TheVariants.{Moved, Inserted, Deleted, NoSuchKey, NoRoom, Damaged, Regraded}
use Rattle.slots.specs.Parts.{is_next, first_way, path_of, beside_of, locks_of, sidelocks_of, fresh_stand, wants_next, stand_of, slot_of, closed_slot, waiting_order}
use Rattle.slots.specs.Book.{leaving, requeued, goes_on, closes}
use Rattle.slots.proofs.OrderLaws.{length_leaving, length_waiting}
use Rattle.lent.specs.Layout.{page_range, row_length, column_length, state_length}
use Rattle.lent.specs.Words.{order_in, as_read, known, state_of, laid_into}
use Rattle.lent.specs.Holds.{InHalves}
use Rattle.lent.proofs.StateLaws.{length_order, state_known, Layable, below_halves, stand_halves, stand_layable, fresh_layable, closed_layable, state_written}
use Rattle.course.specs.declared.judging.Course.{Course}
use Rattle.course.specs.declared.judging.Course.TheVariants.{Broken, Goes, Ends, Inserts, Deletes, Regrades, Again}
use Rattle.footing.specs.Granted.{Verdict, ends, at_leaf, from_leaf}
use Rattle.footing.specs.Standing.{SlotStanding}
use Rattle.course.specs.Judged.{course_of, ready, stands_last}
use Rattle.course.proofs.StandLaws.{Topped}
use Rattle.course.proofs.JudgeLaws.{path_long, siblings_long, standing_within, standing_cells, standing_needing, standing_holding, stand_upward, stand_known}
use Rattle.index.specs.Acting.{InCells, Leaves, Acts, MayInsert, wanting, stand_leaf, stand_fathers, lacks_room, room_answer, after_insertion, after_deletion, regrade_answer, after_regrading}

-- ---- the pages of a slot's path as a list of their own

pub lent_long : {stand : Slot} → InCells stand → {path : List ℕ} → path ≡ path_of stand → length path ≡ stand.depth
unfolding path_of
lent_long {stand} c e = ap length e ∙ length-take-le stand.depth stand.path c.path

module _ {stand : Slot} (c : InCells stand) (some : 1 ≤ stand.depth) {path : List ℕ} (e : path ≡ path_of stand) where
  lent_leaf : leaf_of (length path) path ≡ stand_leaf stand
  unfolding path_of
  lent_leaf = ap (λ (p : List ℕ). leaf_of (length p) p) e ∙ leaf_taken stand.depth stand.path some c.path

  lent_fathers : fathers_of (length path) path ≡ stand_fathers stand
  unfolding path_of
  lent_fathers = ap (λ (p : List ℕ). fathers_of (length p) p) e ∙ fathers_taken stand.depth stand.path c.path

-- the words that a deletion leaves, with both lists as lists of their own
pub deletion_told : (k : ℕ) (ws : List ℕ) {stand : Slot} (x : ℕ) → InCells stand → 1 ≤ length (path_of stand)
    → {path beside : List ℕ} → path ≡ path_of stand → beside ≡ beside_of stand
    → applied k (deletion k (page_at k ws) x (leaf_of (length path) path) (fathers_of (length path) path) beside) ws ≡ after_deletion k ws x stand
deletion_told k ws {stand} x c some {path} {beside} e f =
    let long : 1 ≤ stand.depth = omega (arith, some, lent_long c refl) in
    ap (λ (b : List ℕ). applied k (deletion k (page_at k ws) x (leaf_of (length path) path) (fathers_of (length path) path) b) ws) f
    ∙ ap₂ (λ (leaf : ℕ) (up : List ℕ). applied k (deletion k (page_at k ws) x leaf up (beside_of stand)) ws) (lent_leaf c long e) (lent_fathers c long e)

-- what is known of the leaf of a path
pub leaf_known : {k n : ℕ} {ws : List ℕ} {stand : Slot} → InCells stand → Holding k n ws (path_of stand) → Known k n ws (stand_leaf stand)
leaf_known {k} {n} {ws} {stand} c h =
    let long = lent_long c refl in
    let some : 1 ≤ stand.depth = omega (arith, h.some, long) in
    subst (Known k n ws) (lent_leaf c some refl) (holding_known h (length (path_of stand) - 1) (omega (arith, h.some)))

-- ---- an operation that stands somewhere

pub stand_cells : {op : Op} {k n : ℕ} {ws : List ℕ} {stand : Slot} → SlotStanding op k n ws stand → InCells stand
stand_cells h = record { deep = (standing_within h).0; few = (standing_within h).1; path = (standing_cells h).0 }

stand_some : {op : Op} {k n : ℕ} {ws : List ℕ} {stand : Slot} → SlotStanding op k n ws stand → 1 ≤ stand.depth
stand_some h = omega (arith, h.standing.some, path_long h)

module _ {op : Op} {k n : ℕ} {ws : List ℕ} {stand : Slot} (h : SlotStanding op k n ws stand) where
  -- a deletion may be made of the key that stands at its leaf
  stand_deleting : (x : ℕ) → is_next op ≡ false → stands_last (page_at k ws) x (reverse (path_of stand))
      → Deleting k n ws x (path_of stand) (beside_of stand)
  stand_deleting x no_next there =
      let s = h.standing in
      let path : List ℕ = path_of stand in
      let beside : List ℕ = beside_of stand in
      record {
        held = standing_needing h;
        stands =
            subst (λ (p : ℕ). has x (page_at k ws p).entries ≡ true) (sym (lent_leaf (stand_cells h) (stand_some h) refl))
            (subst (stands_last (page_at k ws) x) (stand_upward h) there);
        levels = λ i j l e. s.levels no_next i j (omega arith) (omega arith);
        others = λ j l e. s.others no_next j (omega arith) e;
        path_apart = λ i t l u e. distinct_at path 0 (distinct_front path beside s.different) i t l u e;
        beside_apart = λ j t l u e. distinct_at beside 0 (distinct_back path beside s.different) j t l u e;
        across = λ i j l u e.
            let p : ℕ = get_or path i 0 in
            let off = apart_member path beside (distinct_apart path beside s.different) p (member_from p path i 0 l refl) in
            not_member_at p beside 0 off j u (sym e);
      }

-- ---- pages found by a scan

module _ (k n : ℕ) (ws : List ℕ) {need : ℕ} {pages : List ℕ} (found : Scanned need (free_pages k n ws) (Some pages)) where
  -- as many are free
  free_enough : need ≤ length (free_pages k n ws)
  free_enough = leb-true need (length (free_pages k n ws)) (sym found.enough)

  -- they are the first of the free ones
  taken_first : take need pages ≡ take need (free_pages k n ws)
  unfolding filled
  taken_first =
      ap (take need) found.pages
      ∙ take_at (take need (free_pages k n ws)) (replicate (most_new - length (take need (free_pages k n ws))) 0) need
      (length-take-le need (free_pages k n ws) free_enough)

  -- each of them is free
  taken_free : (p : ℕ) → member p (take need pages) ≡ true → Free k n ws p
  taken_free p m =
      let front = take need (free_pages k n ws) in
      let back = drop need (free_pages k n ws) in
      free_pages_free k n ws p
      (subst (λ (l : List ℕ). member p l ≡ true) (take-append-drop need (free_pages k n ws))
      (member_append p front back ∙ or_first (member p back) (sym (ap (member p) taken_first) ∙ m)))

  -- none is taken twice
  taken_distinct : distinct (take need pages) ≡ true
  unfolding free_pages
  taken_distinct =
      ap distinct taken_first
      ∙ distinct_front (take need (free_pages k n ws)) (drop need (free_pages k n ws))
      (subst (λ (l : List ℕ). distinct l ≡ true) (sym (take-append-drop need (free_pages k n ws))) (list_below_distinct (is_free k ws) n))

  -- each of them is one of the pool
  taken_inside : (t : ℕ) → t < need → get_or pages t 0 < n
  taken_inside t l =
      let many = free_enough in
      subst (λ (p : ℕ). p < n) (sym (scanned_at found t l)) (free_pages_at k n ws t 0 (omega arith)).in_pool

-- ---- an insertion

-- An operation whose top page is page 0 or safe for an insertion may make one where it stands.
stand_inserting : {op : Op} {k n : ℕ} {ws : List ℕ} {stand : Slot} (x v : ℕ) → SlotStanding op k n ws stand
    → Topped (Insert x v First) k (page_at k ws) (path_of stand) → MayInsert k n ws stand
stand_inserting {k = k} {ws = ws} {stand = stand} x v h top =
    record {
      cells = stand_cells h;
      holding = standing_holding h;
      different = distinct_front (path_of stand) (beside_of stand) h.standing.different;
      top = ⊎_elim inl (λ e. inr (ltb-true (μ (page_at k ws (get_or (path_of stand) 0 0))) (2 * k) e)) top;
    }

-- the words after the change with new pages from this list
abbrev change_with : ℕ → List ℕ → ℕ → ℕ → Slot → List ℕ → List ℕ
change_with k ws x v stand free = applied k (insertion k (page_at k ws) x v free (stand_leaf stand) (stand_fathers stand)) ws

-- An insertion that stands here, with the pages of its path as a list of their own, and the count of room.
module _
    {k n : ℕ} {ws : List ℕ} {stand : Slot} (h : MayInsert k n ws stand) {path : List ℕ} (e : path ≡ path_of stand)
    {need : ℕ} (count : need ≡ room k (page_at k ws) (leaf_of (length path) path) path)
  where
    some : 1 ≤ stand.depth
    some = omega (arith, h.holding.some, lent_long h.cells refl)

    -- it is the rule's
    room_told : need ≡ room k (page_at k ws) (stand_leaf stand) (path_of stand)
    room_told = count ∙ ap₂ (λ (leaf : ℕ) (held : List ℕ). room k (page_at k ws) leaf held) (lent_leaf h.cells some e) e

    -- too few pages are free for it
    pub room_lacks : Scanned need (free_pages k n ws) None → (x v : ℕ) → (NoRoom ≡ room_answer k n ws stand) × (ws ≡ after_insertion k n ws x v stand)
    room_lacks found x v =
        let few = leb-false need (length (free_pages k n ws)) (sym found.enough) in
        let lacks : lacks_room k n ws stand ≡ true =
        lt-ltb (length (free_pages k n ws)) (room k (page_at k ws) (stand_leaf stand) (path_of stand)) (omega (arith, room_told)) in
        (sym (cond-true NoRoom Inserted lacks), sym (cond-true ws (change_with k ws x v stand (free_pages k n ws)) lacks))

    -- the pages that it asks for are found
    module _ {pages : List ℕ} (found : Scanned need (free_pages k n ws) (Some pages)) where
      -- no page held is free
      held_taken : (p : ℕ) → member p (path_of stand) ≡ true → member p (take need pages) ≡ false
      held_taken p m =
          let known = held_known h.holding.held p m in
          false_if_not_true (member p (take need pages))
          (λ t. let low = (taken_free k n ws found p t).level in
          let high = known.facts.lowest in
          omega arith)

      -- so the change may be made
      pub taken_inserting : need ≤ length path + 1 → Inserting k n ws path pages
      unfolding path_holds most_new
      taken_inserting few =
          let deep = h.holding.deep in
          let here : List ℕ = path_of stand in
          subst (λ (m : ℕ). m ≤ most_new → ((t : ℕ) → t < m → get_or pages t 0 < n) → distinct (path ++ take m pages) ≡ true → Inserting k n ws path pages)
          (sym count)
          (λ most inside apart.
          record {
            holding = subst (Holding k n ws) (sym e) h.holding;
            top = subst (λ (ps : List ℕ). (get_or ps 0 0 ≡ 0) ⊎ (μ (page_at k ws (get_or ps 0 0)) < 2 * k)) (sym e) h.top;
            cells = found.cells;
            enough = most;
            inside = inside;
            apart = apart;
          })
          (omega (arith, ap length e))
          (taken_inside k n ws found)
          (subst (λ (ps : List ℕ). distinct (ps ++ take need pages) ≡ true) (sym e)
          (distinct_join here (take need pages) h.different (taken_distinct k n ws found)
          (apart_from here (take need pages) held_taken)))

      -- and for this key and information it was made, with the pages found, which are those that the rule takes
      pub room_enough : (x v : ℕ) → need ≤ length path + 1 → {after : List ℕ}
          → after ≡ applied k (insertion k (page_at k ws) x v pages (leaf_of (length path) path) (fathers_of (length path) path)) ws
          → (Inserted ≡ room_answer k n ws stand) × (after ≡ after_insertion k n ws x v stand)
      room_enough x v few made =
          let many = free_enough k n ws found in
          let room_is : lacks_room k n ws stand ≡ false =
          le-ltb (length (free_pages k n ws)) (room k (page_at k ws) (stand_leaf stand) (path_of stand)) (omega (arith, room_told)) in
          let agree : (t : ℕ) → t < room k (page_at k ws) (leaf_of (length path) path) path → get_or (free_pages k n ws) t 0 ≡ get_or pages t 0
          = λ t l. sym (scanned_at found t (omega arith)) in
          let same = insertion_same x v (taken_inserting few) (free_pages k n ws) agree in (
            sym (cond-false NoRoom Inserted room_is),
            made
                ∙ sym (ap (λ (ws' : List Write). applied k ws' ws) same)
                ∙ ap₂ (λ (leaf : ℕ) (up : List ℕ). applied k (insertion k (page_at k ws) x v (free_pages k n ws) leaf up) ws)
                (lent_leaf h.cells some e)
                (lent_fathers h.cells some e)
                ∙ sym (cond-false ws (change_with k ws x v stand (free_pages k n ws)) room_is),
          )

-- ---- a regrading

-- where its key is not there, the leaf is written as it is
regraded_nothing : {op : Op} {k n : ℕ} {ws : List ℕ} {stand : Slot} → SlotStanding op k n ws stand → (x v : ℕ)
    → has x (page_at k ws (stand_leaf stand)).entries ≡ false → after_regrading k ws x v stand ≡ ws
unfolding regrading applied
regraded_nothing {k = k} {ws = ws} {stand = stand} h x v missing =
    let leaf : ℕ = stand_leaf stand in
    let known = stand_known h in
    ap (λ (es : List Entry). written k (write leaf (with_entries (page_at k ws leaf) es)) ws) (regraded_none x v (page_at k ws leaf).entries missing)
    ∙ written_same known.in_pool known.exact

-- ---- each course, carried out

-- the arrays of a slot where an operation stands, and its numbers
module _ {op : Op} {k n : ℕ} {ws : List ℕ} {stand : Slot} (h : SlotStanding op k n ws stand) where
  deep : length (path_of stand) ≤ column_length
  unfolding path_holds
  deep = h.standing.deep

  pub stand_short : (stand.depth ≤ column_length) × (stand.breadth ≤ column_length)
  stand_short =
      let few = h.standing.few in
      let most = deep in
      (omega (arith, path_long h), omega (arith, siblings_long h))

  -- a page that is held is one of the pool, and so fits its half of a word
  in_half : (p : ℕ) → member p (path_of stand ++ beside_of stand) ≡ true → p < page_range
  unfolding largest_n
  in_half p m = omega (arith, (h.standing.held.each p m).inside, h.standing.held.most)

  pub stand_in_halves : InHalves stand
  stand_in_halves =
      subst InHalves (sym h.exact)
      (stand_halves (stand_of op stand)
      (below_halves (path_of stand) (λ p m. in_half p (member_append p (path_of stand) (beside_of stand) ∙ or_first (member p (beside_of stand)) m)))
      (below_halves (beside_of stand) (λ p m. in_half p (member_append p (path_of stand) (beside_of stand) ∙ or_second (member p (path_of stand)) m))))

  -- it can be laid down, whatever it wants next
  stand_lies : Layable stand
  unfolding locks_of sidelocks_of
  stand_lies =
      let few = h.standing.few in
      let most = deep in
      let short = stand_short in
      subst Layable (sym h.exact)
      (stand_layable (stand_of op stand) deep
      (omega (arith, length-take stand.depth stand.locks))
      (omega arith)
      (omega (arith, length-take stand.breadth stand.sidelocks))
      (subst InHalves h.exact stand_in_halves))

  wanting_lies : (next : ℕ) (lock : Lock) → Layable (wanting next lock stand)
  wanting_lies next lock = record {
    path = stand_lies.path;
    locks = stand_lies.locks;
    beside = stand_lies.beside;
    sidelocks = stand_lies.sidelocks;
    halves = record { path = stand_in_halves.path; beside = stand_in_halves.beside };
  }

module _ (cells : List ℕ) {ws : List ℕ} {s : ℕ} {op : Op} {stand : Slot} (long : length cells ≡ state_length) (exist : known cells ≡ true) (a : Acts (as_read cells) ws s op stand) where
  abbrev st : State
  st = as_read cells

  -- the rule's word for a course, and what it leaves
  abbrev said : Course → Verdict
  said = course_of st.k (page_at st.k ws) (free_pages st.k st.n ws) (stand_of op stand)

  abbrev leaves : Course → Answer → List ℕ → List ℕ → Type 0
  leaves course r cells' after = Leaves cells ws s (said course) r cells' after

  inside : s < row_length
  unfolding slot_count
  inside = a.waits.inside

  -- an order that slot s left has the cells that it had
  order_long : (last : ℕ) → length (leaving s (waiting_order st) ++ last ∷ drop st.waiting st.order) ≡ row_length
  unfolding slot_count
  order_long last =
      let whole : length (order_in cells) ≡ row_length = length_order cells long in
      let few = a.waits.few in
      let fewer = length_leaving s (waiting_order st) a.waits.named in
      let waiting = length_waiting st (omega arith) in
      length-append (leaving s (waiting_order st)) (last ∷ drop st.waiting st.order) ∙ omega (arith, length-drop st.waiting st.order)

  closed_state : state_of (laid_into cells s (closes st s)) ≡ closes st s
  unfolding closes
  closed_state = state_written cells s closed_slot (leaving s (waiting_order st) ++ 0 ∷ drop st.waiting st.order) (st.waiting - 1) long inside (order_long 0) closed_layable exist

  gone_state : (next : ℕ) (lock : Lock) → state_of (laid_into cells s (requeued st s (wanting next lock stand))) ≡ requeued st s (wanting next lock stand)
  gone_state next lock =
      state_written cells s (wanting next lock stand) (leaving s (waiting_order st) ++ s ∷ drop st.waiting st.order) st.waiting long inside (order_long s)
      (wanting_lies a.stands next lock) exist

  pub acts_broken : {course : Course} → course ≡ Broken → leaves course Damaged cells ws
  acts_broken is = subst (λ (c : Course). leaves c Damaged cells ws) (sym is) (record { answer = refl; state = state_known cells exist; all = refl; words = refl })

  pub acts_goes : {course : Course} {next : ℕ} {lock : Lock} {cells' : List ℕ} → course ≡ Goes next lock
      → cells' ≡ laid_into cells s (requeued st s (wanting next lock stand)) → leaves course Moved cells' ws
  unfolding goes_on
  acts_goes {next = next} {lock} {cells' = cells'} is e =
      let same : requeued st s (wanting next lock stand) ≡ goes_on st s (wants_next (stand_of op stand) next lock) =
      ap (λ (slot : Slot). requeued st s (wanting next lock slot)) a.stands.exact in
      subst (λ (c : Course). leaves c Moved cells' ws) (sym is)
      (record { answer = refl; state = ap state_of e ∙ gone_state next lock ∙ same; all = e ∙ ap (laid_into cells s) same; words = refl })

  -- beginning again: nothing is held, and the want is a new one
  fresh_state : state_of (laid_into cells s (goes_on st s (fresh_stand (first_way op)))) ≡ goes_on st s (fresh_stand (first_way op))
  unfolding goes_on
  fresh_state =
      state_written cells s (slot_of (fresh_stand (first_way op))) (leaving s (waiting_order st) ++ s ∷ drop st.waiting st.order) st.waiting long inside (order_long s) (fresh_layable (first_way op)) exist

  pub acts_again : {course : Course} {cells' : List ℕ} → course ≡ Again → cells' ≡ laid_into cells s (goes_on st s (fresh_stand (first_way op)))
      → leaves course Moved cells' ws
  acts_again {cells' = cells'} is e =
      subst (λ (c : Course). leaves c Moved cells' ws) (sym is) (record { answer = refl; state = ap state_of e ∙ fresh_state; all = e; words = refl })

  pub acts_ends : {course : Course} {answer : Answer} {cells' : List ℕ} → course ≡ Ends answer → cells' ≡ laid_into cells s (closes st s) → leaves course answer cells' ws
  unfolding applied
  acts_ends {answer = answer} {cells' = cells'} is e =
      subst (λ (c : Course). leaves c answer cells' ws) (sym is) (record { answer = refl; state = ap state_of e ∙ closed_state; all = e; words = refl })

  -- an insertion: with room or without
  pub acts_inserts : {course : Course} {x v : ℕ} {answer : Answer} {cells' words : List ℕ} → course ≡ Inserts x v
      → answer ≡ room_answer st.k st.n ws stand
      → words ≡ after_insertion st.k st.n ws x v stand
      → cells' ≡ laid_into cells s (closes st s)
      → leaves course answer cells' words
  unfolding applied
  acts_inserts {x = x} {v = v} {answer = answer} {cells' = cells'} {words = words} is heard made e =
      subst (λ (c : Course). leaves c answer cells' words) (sym is)
      (subst (λ (up : List ℕ). Leaves cells ws s (from_leaf change up) answer cells' words) (sym (stand_upward a.stands))
      (split (lacks_room st.k st.n ws stand) heard made))
    where
      free : List ℕ
      free = free_pages st.k st.n ws

      change : ℕ → List ℕ → Verdict
      change leaf fathers =
          cond (ltb (length free) (room st.k (page_at st.k ws) leaf (path_of stand)))
          (ends NoRoom [])
          (ends Inserted (insertion st.k (page_at st.k ws) x v free leaf fathers))

      writes : List Write
      writes = insertion st.k (page_at st.k ws) x v free (stand_leaf stand) (stand_fathers stand)

      split : (b : Bool) → answer ≡ cond b NoRoom Inserted → words ≡ cond b ws (applied st.k writes ws)
          → Leaves cells ws s (cond b (ends NoRoom []) (ends Inserted writes)) answer cells' words
      split true h w = record { answer = h; state = ap state_of e ∙ closed_state; all = e; words = w }
      split false h w = record { answer = h; state = ap state_of e ∙ closed_state; all = e; words = w }

  -- a deletion
  pub acts_deletes : {course : Course} {x v : ℕ} {cells' words : List ℕ} → course ≡ Deletes x v
      → words ≡ after_deletion st.k ws x stand
      → cells' ≡ laid_into cells s (closes st s)
      → leaves course (Deleted v) cells' words
  acts_deletes {x = x} {v = v} {cells' = cells'} {words = words} is made e =
      subst (λ (c : Course). leaves c (Deleted v) cells' words) (sym is)
      (subst (λ (up : List ℕ). Leaves cells ws s (from_leaf change up) (Deleted v) cells' words) (sym (stand_upward a.stands))
      (record { answer = refl; state = ap state_of e ∙ closed_state; all = e; words = made }))
    where
      change : ℕ → List ℕ → Verdict
      change leaf fathers = ends (Deleted v) (deletion st.k (page_at st.k ws) x leaf fathers (beside_of stand))

  -- a regrading: its key is there, or the page is written as it is
  pub acts_regrades : {course : Course} {x v : ℕ} {answer : Answer} {cells' words : List ℕ} → course ≡ Regrades x v
      → answer ≡ regrade_answer (looked x (page_at st.k ws (stand_leaf stand)).entries)
      → words ≡ after_regrading st.k ws x v stand
      → cells' ≡ laid_into cells s (closes st s)
      → leaves course answer cells' words
  unfolding applied at_leaf
  acts_regrades {x = x} {v = v} {answer = answer} {cells' = cells'} {words = words} is heard made e =
      subst (λ (c : Course). leaves c answer cells' words) (sym is)
      (subst (λ (up : List ℕ). Leaves cells ws s (from_leaf (at_leaf (Regrade x v First) st.k memory (free_pages st.k st.n ws) (stand_of op stand)) up) answer cells' words)
      (sym (stand_upward a.stands))
      (split (has x es) refl heard))
    where
      memory : ℕ → Page
      memory = page_at st.k ws

      es : List Entry
      es = (memory (stand_leaf stand)).entries

      writes : List Write
      writes = regrading memory x v (stand_leaf stand)

      split : (b : Bool) → has x es ≡ b → answer ≡ regrade_answer (cond b (Some (information x es)) None)
          → Leaves cells ws s (cond b (ends (Regraded (information x es)) writes) (ends NoSuchKey [])) answer cells' words
      split true there h = record { answer = h; state = ap state_of e ∙ closed_state; all = e; words = made }
      split false missing h = record { answer = h; state = ap state_of e ∙ closed_state; all = e; words = made ∙ regraded_nothing a.stands x v missing }

-- what a change may count on
module _ {st : State} {ws : List ℕ} {s : ℕ} {op : Op} {stand : Slot} (a : Acts st ws s op stand) where
  module _ (course : Course) (fit : ready op st.k (page_at st.k ws) (path_of stand) course) where
    pub inserts_stands : {x v : ℕ} → course ≡ Inserts x v → MayInsert st.k st.n ws stand
    inserts_stands {x} {v} is = stand_inserting x v a.stands (subst (ready op st.k (page_at st.k ws) (path_of stand)) is fit)

    pub deletes_stands : {x v : ℕ} → course ≡ Deletes x v
        → Deleting st.k st.n ws x (path_of stand) (beside_of stand)
    deletes_stands {x = x} is =
        let sure = subst (ready op st.k (page_at st.k ws) (path_of stand)) is fit in
        stand_deleting a.stands x sure.0 sure.1
