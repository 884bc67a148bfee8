-- Laws of looking for a page in the other slots: tops first, then the slots that hold more; and that this is the rule's test of
-- clashing locks; and the walk over older wants.
use Prim.Native.Nat.{ℕ, zero, suc, ◌+◌, ◌≤◌, ◌<◌}
use mathlib.Core.Bool.{Bool, true, false, cond, not, ◌&&◌, ◌||◌, false≢true, or-false}
use mathlib.Core.Path.{◌≡◌, refl, sym, ap, ap₂, ◌∙◌, subst}
use mathlib.Core.List.{List, [], ◌∷◌, ◌++◌}
use native.Mathlib.Omega.{arith}
use native.Mathlib.Numerals.{add-one}
use lib.Dec.{eqb, leb, ltb}
use lib.ListN.{length, get_or, take, get_or-eq_default}
use lib.Seq.{length-take-le, take_all}
use borrow.Author.Tests.{ltb-false, leb-true, eqb-true}
use Rattle.ground.specs.Limits.{slot_count}
use Rattle.ground.specs.Tests.{all_below, any_below, member}
use Rattle.ground.proofs.Bools.{not_both, and_second, and_first_fails, or_first, or_first_fails, or_second_fails}
use Rattle.ground.proofs.Choice.{by_test, cond-true}
use Rattle.std.specs.List.{list_any, range_with_len}
use Rattle.std.proofs.lemmas.List.FromFn.{length-range_with_len, get_or-range_with_len}
use Rattle.std.proofs.lemmas.List.Folds.{list_any_more}
use Rattle.ground.proofs.Tests.{member_none, any_below_none, any_below_more, any_below_same, any_below_fails, any_below_false_at, all_below_same, all_below_more, all_below_at}
use Rattle.slots.specs.declared.Lock.{Lock}
use Rattle.slots.specs.declared.Lock.TheVariants.{None, Rho, Xi, UpdaterRho, Alpha}
use Rattle.slots.specs.declared.Under.{Under}
use Rattle.slots.specs.declared.Slot.{Slot}
use Rattle.slots.specs.Parts.{under, held, held_locks, path_of, beside_of, locks_of, sidelocks_of, holds_at, waiting_order}
use Rattle.slots.specs.Heard.{lock_number, lock_named}
use Rattle.slots.specs.Locks.{lock_among, lock_held, lock_held_at, same_lock, in_row, clash, no_clash_on}
use Rattle.slots.specs.Grant.{clashing_want, converts_at, conversion_on, no_clash, no_older, no_conversion}
use Rattle.slots.proofs.LockLaws.{is_lock, clash_swap, among_none, among_first, among_behind}
use Rattle.slots.proofs.HoldingLaws.{no_older_from, older_end, older_here, older_stops, older_more, order_names}
use Rattle.lent.specs.Layout.{waiting_at, order_from, row_length, column_length, kind_row, want_row, lock_row, depth_row, breadth_row, path_row, beside_row, state_length}
use Rattle.lent.specs.Words.{cell, page_in, number_in, column, lock_column, highest_kind, slot_in, order_in, as_read, known}
use Rattle.lent.specs.Holds.{OpenOrder, other_holds, top_holds, is_deep, deep_holds, others_hold, also_wants, other_converts, may_convert, RowOf}
use Rattle.lent.proofs.StateLaws.{slot_read, length_column, column_cell, length_locks, lock_cell, length_order, order_cell}

-- ---- some number below a bound

pub any_on : (p : ℕ → Bool) (n : ℕ) → any_below (n + 1) p ≡ any_below n p || p n
any_on p n = ap (λ (m : ℕ). any_below m p) (add-one n) ∙ any_below_more p n

-- what the numbers of a range are asked, one behind the other
any_passed : (p : ℕ → Bool) (n i : ℕ) → i ≤ n → list_any p (take i (range_with_len 0 n)) ≡ any_below i p
any_passed p n zero h = sym (any_below_none p)
any_passed p n (suc i) h =
    let long : length (range_with_len 0 n) ≡ n = length-range_with_len 0 n in
    let here : get_or (range_with_len 0 n) i 0 ≡ i = get_or-range_with_len 0 n i 0 (omega arith) ∙ omega arith in
    ap (λ (m : ℕ). list_any p (take m (range_with_len 0 n))) (sym (add-one i))
    ∙ list_any_more p (range_with_len 0 n) i 0 (omega arith)
    ∙ ap₂ (λ (a b : Bool). a || b) (any_passed p n i (omega arith)) (ap p here)
    ∙ sym (any_below_more p i)

pub any_in_range : (p : ℕ → Bool) (n : ℕ) → list_any p (range_with_len 0 n) ≡ any_below n p
any_in_range p n =
    ap (list_any p) (sym (take_all n (range_with_len 0 n) (omega (arith, length-range_with_len 0 n)))) ∙ any_passed p n n (omega arith)

pub all_on : (p : ℕ → Bool) (n : ℕ) → all_below (n + 1) p ≡ all_below n p && p n
all_on p n = ap (λ (m : ℕ). all_below m p) (add-one n) ∙ all_below_more p n

mixed : (a b c d : Bool) → (a || c) || (b || d) ≡ (a || b) || (c || d)
mixed true b c d = refl
mixed false true true d = refl
mixed false true false d = refl
mixed false false true d = refl
mixed false false false d = refl

any_or : (f g : ℕ → Bool) (n : ℕ) → any_below n f || any_below n g ≡ any_below n (λ (t : ℕ). f t || g t)
unfolding any_below
any_or f g zero = refl
any_or f g (suc n) = mixed (any_below n f) (any_below n g) (f n) (g n) ∙ ap (λ (b : Bool). b || (f n || g n)) (any_or f g n)

mixed_all : (a b c d : Bool) → (a && c) && (b && d) ≡ (a && b) && (c && d)
mixed_all false b c d = refl
mixed_all true true c d = refl
mixed_all true false true d = refl
mixed_all true false false d = refl

pub all_both : (f g : ℕ → Bool) (n : ℕ) → all_below n f && all_below n g ≡ all_below n (λ (t : ℕ). f t && g t)
unfolding all_below
all_both f g zero = refl
all_both f g (suc n) = mixed_all (all_below n f) (all_below n g) (f n) (g n) ∙ ap (λ (b : Bool). b && (f n && g n)) (all_both f g n)

turned : (a b : Bool) → not a && not b ≡ not (a || b)
turned true b = refl
turned false b = refl

any_not : (f : ℕ → Bool) (n : ℕ) → all_below n (λ (t : ℕ). not (f t)) ≡ not (any_below n f)
unfolding any_below all_below
any_not f zero = refl
any_not f (suc n) = ap (λ (b : Bool). b && not (f n)) (any_not f n) ∙ turned (any_below n f) (f n)

-- ---- locks by number

-- the numbers of the four kinds, and those that stand for none
pub by_number : (P : ℕ → Type 0) → P 1 → P 2 → P 3 → P 4 → ((i : ℕ) → eqb i 1 ≡ false → eqb i 2 ≡ false → eqb i 3 ≡ false → eqb i 4 ≡ false → P i) → (i : ℕ) → P i
by_number P one two three four other i =
    by_test (eqb i 1) (λ e. subst P (sym (eqb-true i 1 e)) one)
    (λ a. by_test (eqb i 2) (λ e. subst P (sym (eqb-true i 2 e)) two)
    (λ b. by_test (eqb i 3) (λ e. subst P (sym (eqb-true i 3 e)) three)
    (λ c. by_test (eqb i 4) (λ e. subst P (sym (eqb-true i 4 e)) four)
    (λ d. other i a b c d))))

none_named : (i : ℕ) → eqb i 1 ≡ false → eqb i 2 ≡ false → eqb i 3 ≡ false → eqb i 4 ≡ false → lock_named i ≡ None
none_named i a b c d = rw (a, b, c, d) refl

-- a number is that of a kind, if it stands for it
pub same_number : (l : Lock) → is_lock l ≡ true → (i : ℕ) → eqb i (lock_number l) ≡ same_lock (lock_named i) l
same_number None o i = not_both o refl
same_number Rho o i = by_number (λ (j : ℕ). eqb j 1 ≡ same_lock (lock_named j) Rho) refl refl refl refl (λ j a b c d. a ∙ ap (λ (l : Lock). same_lock l Rho) (sym (none_named j a b c d))) i
same_number Xi o i = by_number (λ (j : ℕ). eqb j 2 ≡ same_lock (lock_named j) Xi) refl refl refl refl (λ j a b c d. b ∙ ap (λ (l : Lock). same_lock l Xi) (sym (none_named j a b c d))) i
same_number UpdaterRho o i = by_number (λ (j : ℕ). eqb j 3 ≡ same_lock (lock_named j) UpdaterRho) refl refl refl refl (λ j a b c d. c ∙ ap (λ (l : Lock). same_lock l UpdaterRho) (sym (none_named j a b c d))) i
same_number Alpha o i = by_number (λ (j : ℕ). eqb j 4 ≡ same_lock (lock_named j) Alpha) refl refl refl refl (λ j a b c d. d ∙ ap (λ (l : Lock). same_lock l Alpha) (sym (none_named j a b c d))) i

-- ---- rows of the table

-- a row has a place for each kind, and none for no lock
none_in : (row : List Bool) → length row ≡ 4 → in_row row None ≡ false
none_in row four = get_or-eq_default row false (omega arith)

-- ---- the lock under which a slot holds a page

-- path and siblings, one behind the other
module _ (ws : List ℕ) (s p : ℕ) (short : cell ws depth_row s ≤ column_length) where
  paired : length (take (cell ws depth_row s) (lock_column ws path_row s)) ≡ length (take (cell ws depth_row s) (column ws path_row s))
  paired =
      length-take-le (cell ws depth_row s) (lock_column ws path_row s) (omega (arith, length_locks ws path_row s))
      ∙ sym (length-take-le (cell ws depth_row s) (column ws path_row s) (omega (arith, length_column ws path_row s)))

  pub lock_on_path : member p (take (cell ws depth_row s) (column ws path_row s)) ≡ true
      → lock_among p (take (cell ws depth_row s) (column ws path_row s)) (take (cell ws depth_row s) (lock_column ws path_row s)) ≡ lock_held (slot_in ws s) p
  unfolding path_of beside_of locks_of sidelocks_of
  lock_on_path m =
      sym
      (among_first p (take (cell ws breadth_row s) (column ws beside_row s)) (take (cell ws breadth_row s) (lock_column ws beside_row s))
      (take (cell ws depth_row s) (column ws path_row s)) (take (cell ws depth_row s) (lock_column ws path_row s)) paired m)

  pub lock_beside : member p (take (cell ws depth_row s) (column ws path_row s)) ≡ false
      → lock_among p (take (cell ws breadth_row s) (column ws beside_row s)) (take (cell ws breadth_row s) (lock_column ws beside_row s)) ≡ lock_held (slot_in ws s) p
  unfolding path_of beside_of locks_of sidelocks_of
  lock_beside f =
      sym
      (among_behind p (take (cell ws breadth_row s) (column ws beside_row s)) (take (cell ws breadth_row s) (lock_column ws beside_row s))
      (take (cell ws depth_row s) (column ws path_row s)) (take (cell ws depth_row s) (lock_column ws path_row s)) paired f)

-- ---- tops, and the slots that hold more

-- the lock of a slot that holds one page or none
shallow : (row : List Bool) → length row ≡ 4 → (p depth breadth : ℕ) (path siblings : List ℕ) (locks others : List Under)
    → length path ≡ column_length → length locks ≡ column_length → ltb 1 depth || ltb 0 breadth ≡ false
    → (ltb 0 depth && eqb p (get_or path 0 0)) && in_row row (get_or locks 0 (under None)).lock
    ≡ in_row row (lock_among p (take depth path ++ take breadth siblings) (take depth locks ++ take breadth others))
unfolding lock_among
shallow row four p depth breadth path siblings locks others long many e =
    let none : breadth ≡ 0 = omega (arith, ltb-false 0 breadth (or_second_fails (ltb 1 depth) (ltb 0 breadth) e)) in
    let few : depth ≤ 1 = ltb-false 1 depth (or_first_fails (ltb 1 depth) (ltb 0 breadth) e) in
    by_depth depth few path locks long many
    ∙ ap (λ (b : ℕ). in_row row (lock_among p (take depth path ++ take b siblings) (take depth locks ++ take b others))) (sym none)
  where
    one : (b : Bool) (l : Lock) → b && in_row row l ≡ in_row row (cond b l None)
    one true l = refl
    one false l = sym (none_in row four)

    by_depth : (d : ℕ) → d ≤ 1 → (l : List ℕ) (us : List Under) → length l ≡ column_length → length us ≡ column_length
        → (ltb 0 d && eqb p (get_or l 0 0)) && in_row row (get_or us 0 (under None)).lock ≡ in_row row (lock_among p (take d l ++ []) (take d us ++ []))
    by_depth zero h l us k m = sym (none_in row four)
    by_depth (suc zero) h [] us k m = absurd (omega arith)
    by_depth (suc zero) h (x ∷ l) [] k m = absurd (omega arith)
    by_depth (suc zero) h (x ∷ l) (u ∷ us) k m = one (eqb p x) u.lock
    by_depth (suc (suc d)) h l us k m = absurd (omega arith)

-- the lock of the top
top_lock : (p depth : ℕ) (path rest : List ℕ) (locks others : List Under) → length path ≡ column_length → length locks ≡ column_length
    → ltb 0 depth && eqb p (get_or path 0 0) ≡ true → (get_or locks 0 (under None)).lock ≡ lock_among p (take depth path ++ rest) (take depth locks ++ others)
unfolding lock_among
top_lock p zero path rest locks others long many e = absurd (false≢true e)
top_lock p (suc d) [] rest locks others long many e = absurd (omega arith)
top_lock p (suc d) (x ∷ path) rest [] others long many e = absurd (omega arith)
top_lock p (suc d) (x ∷ path) rest (u ∷ locks) others long many e =
    sym (cond-true u.lock (lock_among p (take d path ++ rest) (take d locks ++ others)) (and_second (ltb 0 (suc d)) (eqb p x) e))

joins : (c a l d m : Bool) → (d ≡ false → a && l ≡ m) → (a ≡ true → l ≡ m) → c && a && l || d && (c && m) ≡ c && m
joins false a l true m f g = refl
joins false a l false m f g = refl
joins true true l true m f g = ap (λ (b : Bool). b || m) (g refl) ∙ twice m
  where
    twice : (b : Bool) → b || b ≡ b
    twice true = refl
    twice false = refl
joins true false l true m f g = refl
joins true a l false m f g = or-false (a && l) ∙ f refl

module _ (ws : List ℕ) (s : ℕ) (row : List Bool) (four : length row ≡ 4) (p : ℕ) where
  top_or_deep : (t : ℕ) → top_holds ws s row p t || deep_holds ws s row p t ≡ other_holds ws s row p t
  unfolding path_of beside_of locks_of sidelocks_of
  top_or_deep t =
      let path : List ℕ = column ws path_row t in
      let locks : List Under = lock_column ws path_row t in
      let first : get_or path 0 0 ≡ page_in (cell ws path_row t) = column_cell ws path_row t 0 (omega arith) in
      let lock : (get_or locks 0 (under None)).lock ≡ lock_named (number_in (cell ws path_row t)) = ap (λ (u : Under). u.lock) (lock_cell ws path_row t 0 (omega arith)) in
      joins (not (eqb t s)) (ltb 0 (cell ws depth_row t) && eqb p (page_in (cell ws path_row t))) (in_row row (lock_named (number_in (cell ws path_row t)))) (is_deep ws t)
      (in_row row (lock_held (slot_in ws t) p))
      (λ e. ap₂ (λ (x : ℕ) (l : Lock). (ltb 0 (cell ws depth_row t) && eqb p x) && in_row row l) (sym first) (sym lock)
      ∙ shallow row four p (cell ws depth_row t) (cell ws breadth_row t) path (column ws beside_row t) locks (lock_column ws beside_row t)
      (length_column ws path_row t) (length_locks ws path_row t) e)
      (λ e. ap (in_row row)
      (sym lock
      ∙ top_lock p (cell ws depth_row t) path (take (cell ws breadth_row t) (column ws beside_row t)) locks (take (cell ws breadth_row t) (lock_column ws beside_row t))
      (length_column ws path_row t) (length_locks ws path_row t) (ap (λ (x : ℕ). ltb 0 (cell ws depth_row t) && eqb p x) first ∙ e)))

  both_ways : any_below row_length (top_holds ws s row p) || any_below row_length (deep_holds ws s row p) ≡ others_hold ws s row p
  unfolding others_hold
  both_ways = any_or (top_holds ws s row p) (deep_holds ws s row p) row_length ∙ any_below_same _ _ row_length (λ t _. top_or_deep t)

  pub others_top : {r : Bool} → r ≡ any_below row_length (top_holds ws s row p) → r ≡ true → true ≡ others_hold ws s row p
  others_top e t = sym (sym both_ways ∙ or_first (any_below row_length (deep_holds ws s row p)) (sym e ∙ t))

  pub others_deep : {r q : Bool} → r ≡ any_below row_length (top_holds ws s row p) → r ≡ false → q ≡ any_below row_length (deep_holds ws s row p) → q ≡ others_hold ws s row p
  others_deep e f d = d ∙ sym (ap (λ (b : Bool). b || any_below row_length (deep_holds ws s row p)) (sym e ∙ f)) ∙ both_ways

  -- where no slot holds more than one page
  pub others_shallow : {r q : Bool} → r ≡ any_below row_length (top_holds ws s row p) → r ≡ false → q ≡ any_below row_length (is_deep ws) → q ≡ false → false ≡ others_hold ws s row p
  others_shallow e f d n =
      others_deep e f
      (sym (any_below_fails (deep_holds ws s row p) row_length
      (λ t b. and_first_fails (other_holds ws s row p t) (any_below_false_at (is_deep ws) row_length (sym d ∙ n) t b))))

-- ---- kinds of tasks

pub by_kind : (P : ℕ → Type 0) → P 0 → P 1 → P 2 → P 3 → P 4 → P 5 → P 6 → P 7 → P 8 → P 9 → P 10 → P 11 → (n : ℕ) → n ≤ highest_kind → P n
by_kind P a b c d e f g i j k l m zero h = a
by_kind P a b c d e f g i j k l m (suc zero) h = b
by_kind P a b c d e f g i j k l m (suc (suc zero)) h = c
by_kind P a b c d e f g i j k l m (suc (suc (suc zero))) h = d
by_kind P a b c d e f g i j k l m (suc (suc (suc (suc zero)))) h = e
by_kind P a b c d e f g i j k l m (suc (suc (suc (suc (suc zero))))) h = f
by_kind P a b c d e f g i j k l m (suc (suc (suc (suc (suc (suc zero)))))) h = g
by_kind P a b c d e f g i j k l m (suc (suc (suc (suc (suc (suc (suc zero))))))) h = i
by_kind P a b c d e f g i j k l m (suc (suc (suc (suc (suc (suc (suc (suc zero)))))))) h = j
by_kind P a b c d e f g i j k l m (suc (suc (suc (suc (suc (suc (suc (suc (suc zero))))))))) h = k
by_kind P a b c d e f g i j k l m (suc (suc (suc (suc (suc (suc (suc (suc (suc (suc zero)))))))))) h = l
by_kind P a b c d e f g i j k l m (suc (suc (suc (suc (suc (suc (suc (suc (suc (suc (suc zero))))))))))) h = m
by_kind P a b c d e f g i j k l m (suc (suc (suc (suc (suc (suc (suc (suc (suc (suc (suc (suc n)))))))))))) h = absurd (omega arith)

pub kind_known : (ws : List ℕ) → known ws ≡ true → (t : ℕ) → t < row_length → cell ws kind_row t ≤ highest_kind
unfolding known slot_count
kind_known ws e t h = leb-true (cell ws kind_row t) highest_kind (all_below_at (λ (s : ℕ). leb (cell ws kind_row s) highest_kind) row_length e t h)

-- ---- the rule's tests

-- A page held against the locks of the other slots, by the rule and on the words: the row is that of the kind wanted.
module _ (ws : List ℕ) (s p : ℕ) (row : List Bool) (lock : Lock) (says : (l : Lock) → in_row row l ≡ clash lock l) where
  -- what is not held is under no lock, and that clashes with nothing
  one_clash : (slot : Slot) → member p (held slot) && clash (lock_held slot p) lock ≡ in_row row (lock_held slot p)
  one_clash slot =
      by_test (member p (held slot))
      (λ m. ap (λ (b : Bool). b && clash (lock_held slot p) lock) m ∙ clash_swap (lock_held slot p) lock ∙ sym (says (lock_held slot p)))
      (λ f.
      and_first_fails (clash (lock_held slot p) lock) f
      ∙ sym (says (lock_held slot p) ∙ ap (clash lock) (among_none p (held slot) (held_locks slot) f) ∙ clash_swap lock None))

  turn : (own c : Bool) → own || not c ≡ not (not own && c)
  turn true c = refl
  turn false c = refl

  each : (t : ℕ) → t < row_length → eqb t s || not (holds_at (as_read ws) t p && clash (lock_held_at (as_read ws) t p) lock) ≡ not (other_holds ws s row p t)
  each t b =
      ap (λ (x : Slot). eqb t s || not (member p (held x) && clash (lock_held x p) lock)) (slot_read ws t b)
      ∙ ap (λ (c : Bool). eqb t s || not c) (one_clash (slot_in ws t))
      ∙ turn (eqb t s) (in_row row (lock_held (slot_in ws t) p))

  pub others_words : no_clash_on (as_read ws) s p lock ≡ not (others_hold ws s row p)
  unfolding slot_count others_hold
  others_words = all_below_same _ _ row_length each ∙ any_not (other_holds ws s row p) row_length

-- so of the page that a slot wants
pub no_clash_words : (ws : List ℕ) (s : ℕ) → s < row_length → (row : List Bool) → RowOf (cell ws lock_row s) row
    → {want : ℕ} {r : Bool} → want ≡ cell ws want_row s → r ≡ others_hold ws s row want → not r ≡ no_clash (as_read ws) s
unfolding no_clash
no_clash_words ws s h row says {want} w said =
    ap not said
    ∙ sym (others_words ws s want row (lock_named (cell ws lock_row s)) says)
    ∙ ap₂ (λ (p : ℕ) (l : Lock). no_clash_on (as_read ws) s p l)
    (w ∙ sym (ap (λ (x : Slot). x.want) (slot_read ws s h)))
    (sym (ap (λ (x : Slot). x.lock) (slot_read ws s h)))

-- ---- conversions

-- who holds no page converts none
only_holders : (o w k m : Bool) → (k ≡ false → m ≡ false) → o && w && k ≡ false → o && (w && m) ≡ false
only_holders false w k m h e = refl
only_holders true false k m h e = refl
only_holders true true k m h e = h e

none_held : (ws : List ℕ) (p t : ℕ) → ltb 0 (cell ws depth_row t) || ltb 0 (cell ws breadth_row t) ≡ false → member p (held (slot_in ws t)) ≡ false
unfolding path_of beside_of
none_held ws p t e =
    let path : cell ws depth_row t ≡ 0 = omega (arith, ltb-false 0 (cell ws depth_row t) (or_first_fails (ltb 0 (cell ws depth_row t)) (ltb 0 (cell ws breadth_row t)) e)) in
    let beside : cell ws breadth_row t ≡ 0 = omega (arith, ltb-false 0 (cell ws breadth_row t) (or_second_fails (ltb 0 (cell ws depth_row t)) (ltb 0 (cell ws breadth_row t)) e)) in
    ap₂ (λ (d b : ℕ). member p (take d (column ws path_row t) ++ take b (column ws beside_row t))) path beside ∙ member_none p

none_converts : (ws : List ℕ) (s p : ℕ) → any_below row_length (may_convert ws s p) ≡ false → any_below row_length (other_converts ws s p) ≡ false
none_converts ws s p e =
    any_below_fails (other_converts ws s p) row_length
    (λ t b.
    only_holders (not (eqb t s)) (eqb (cell ws want_row t) p) (ltb 0 (cell ws depth_row t) || ltb 0 (cell ws breadth_row t)) (member p (held (slot_in ws t)))
    (none_held ws p t) (any_below_false_at (may_convert ws s p) row_length e t b))

-- that a slot converts the page that it wants, and that another one does
module _ (ws : List ℕ) (s : ℕ) (h : s < row_length) where
  pub converts_words : {want : ℕ} {r : Bool} → want ≡ cell ws want_row s → r ≡ member want (held (slot_in ws s)) → r ≡ converts_at (as_read ws) s
  converts_words w said =
      said
      ∙ ap (λ (p : ℕ). member p (held (slot_in ws s))) w
      ∙ ap (λ (x : Slot). member x.want (held x)) (sym (slot_read ws s h))

  same_page : (own : Bool) (a b : ℕ) (pages : List ℕ) → own || not (eqb a b && member a pages) ≡ not (not own && (eqb a b && member b pages))
  same_page true a b pages = refl
  same_page false a b pages =
      by_test (eqb a b)
      (λ y. ap (λ (p : ℕ). not (eqb a b && member p pages)) (eqb-true a b y))
      (λ n. ap not (and_first_fails (member a pages) n ∙ sym (and_first_fails (member b pages) n)))

  conversion_words : no_conversion (as_read ws) s ≡ not (any_below row_length (other_converts ws s (cell ws want_row s)))
  unfolding no_conversion slot_count
  conversion_words =
      all_below_same (λ (t : ℕ). eqb t s || not (conversion_on (as_read ws) s t)) (λ (t : ℕ). not (other_converts ws s (cell ws want_row s) t)) row_length
      (λ t b.
      ap₂ (λ (x y : Slot). eqb t s || not (eqb x.want y.want && member x.want (held x))) (slot_read ws t b) (slot_read ws s h)
      ∙ same_page (eqb t s) (cell ws want_row t) (cell ws want_row s) (held (slot_in ws t)))
      ∙ any_not (other_converts ws s (cell ws want_row s)) row_length

  -- by what was found
  pub conversion_none : {want : ℕ} {r : Bool} → want ≡ cell ws want_row s → r ≡ any_below row_length (may_convert ws s want) → r ≡ false → true ≡ no_conversion (as_read ws) s
  conversion_none {want} w said f =
      sym
      (conversion_words
      ∙ ap (λ (p : ℕ). not (any_below row_length (other_converts ws s p))) (sym w)
      ∙ ap not (none_converts ws s want (sym said ∙ f)))

  pub conversion_some : {want : ℕ} {r : Bool} → want ≡ cell ws want_row s → r ≡ any_below row_length (other_converts ws s want) → not r ≡ no_conversion (as_read ws) s
  conversion_some w said = ap not said ∙ ap (λ (p : ℕ). not (any_below row_length (other_converts ws s p))) w ∙ sym conversion_words

-- ---- the walk over older wants, on the words

module _ (ws : List ℕ) (s : ℕ) (long : length ws ≡ state_length) (inside : s < row_length) (waits : OpenOrder ws) where
  few : get_or ws waiting_at 0 ≤ slot_count
  unfolding slot_count
  few = waits.few

  cells : length (order_in ws) ≡ slot_count
  unfolding slot_count
  cells = length_order ws long

  -- behind the last that waits
  pub walk_end : {i : ℕ} → no_older (as_read ws) s ≡ no_older_from (as_read ws) s i → get_or ws waiting_at 0 ≤ i → true ≡ no_older (as_read ws) s
  walk_end {i} so_far h = sym (so_far ∙ older_end (as_read ws) s i cells few h)

  -- at place i
  module _ {i t : ℕ} (so_far : no_older (as_read ws) s ≡ no_older_from (as_read ws) s i) (here : i < get_or ws waiting_at 0) (read : t ≡ get_or ws (i + order_from) 0) where
    place : get_or (order_in ws) i 0 ≡ t
    place = order_cell ws i (omega (arith, waits.few)) ∙ sym read

    named : member t (waiting_order (as_read ws)) ≡ true
    named = subst (λ (x : ℕ). member x (waiting_order (as_read ws)) ≡ true) place (order_names (as_read ws) i cells few here)

    pub walk_slot : t < row_length
    unfolding slot_count
    walk_slot = waits.below t named

    pub walk_own : t ≡ s → true ≡ no_older (as_read ws) s
    walk_own q = sym (so_far ∙ older_here (as_read ws) s i cells few here (place ∙ q))

    -- another slot, with what was found of its want
    module _ (other : t ≡ s → ⊥) (row : List Bool) (says : RowOf (cell ws lock_row s) row) {found : Bool} {want : ℕ}
        (wanted : want ≡ cell ws want_row s) (said : found ≡ also_wants ws row want t) where
      -- it wants the page that slot s wants, with a clashing lock
      want_words : clashing_want (as_read ws) s t ≡ also_wants ws row (cell ws want_row s) t
      want_words =
          ap₂ (λ (x y : Slot). eqb x.want y.want && clash x.lock y.lock) (slot_read ws t walk_slot) (slot_read ws s inside)
          ∙ ap (λ (b : Bool). eqb (cell ws want_row t) (cell ws want_row s) && b)
          (clash_swap (lock_named (cell ws lock_row t)) (lock_named (cell ws lock_row s)) ∙ sym (says (lock_named (cell ws lock_row t))))

      is_found : clashing_want (as_read ws) s (get_or (order_in ws) i 0) ≡ found
      is_found =
          ap (clashing_want (as_read ws) s) place
          ∙ want_words
          ∙ ap (λ (w : ℕ). also_wants ws row w t) (sym wanted)
          ∙ sym said

      pub walk_older : found ≡ true → false ≡ no_older (as_read ws) s
      walk_older b = sym (so_far ∙ older_stops (as_read ws) s i cells few here (λ q. other (sym place ∙ q)) (is_found ∙ b))

      pub walk_on : found ≡ false → no_older (as_read ws) s ≡ no_older_from (as_read ws) s (i + 1)
      walk_on b = so_far ∙ older_more (as_read ws) s i cells few here (λ q. other (sym place ∙ q)) (is_found ∙ b)
