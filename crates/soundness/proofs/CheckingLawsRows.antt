-- Laws for the rows of the slots: what they tell of a slot's pages, and that with the slots that hold more than one page they
-- are the rule of a sound slot.
use Prim.Native.Nat.{ℕ, zero, suc, ◌+◌, ◌-◌, ◌≤◌, ◌<◌}
use mathlib.Core.Bool.{Bool, true, false, cond, not, ◌&&◌, ◌||◌, and-true, and-false}
use mathlib.Core.List.{List, [], ◌∷◌, ◌++◌}
use mathlib.Core.Logic.{◌⊎◌, inl, inr, ⊎_elim}
use mathlib.Core.Path.{◌≡◌, refl, sym, ap, ap₂, ◌∙◌}
use native.Mathlib.Omega.{arith}
use borrow.Author.Tests.{eq-eqb, eqb-true, le-leb, lt-leb, leb-true, ltb-true, ltb-false}
use lib.Dec.{eqb, ltb, leb}
use lib.ListN.{length, get_or, take}
use Rattle.ground.specs.Limits.{search_holds, regrade_holds, second_holds, path_holds, sibling_holds}
use Rattle.ground.specs.Tests.{all, all_below, member, distinct}
use Rattle.ground.proofs.Bools.{and_first, and_second, and_both, and_first_fails, or_cases, or_first, or_second, or_first_fails, or_second_fails, not_of_false, same_if_true_together, true_or_false}
use Rattle.ground.proofs.Choice.{by_test}
use Rattle.ground.proofs.Tests.{all_below_at}
use Rattle.slots.specs.declared.Op.{Op}
use Rattle.slots.specs.declared.Op.TheVariants.{Search, Insert, Delete, Next, Regrade}
use Rattle.slots.specs.declared.Way.TheVariants.{First, Second, Third}
use Rattle.slots.specs.declared.Task.TheVariants.{Open}
use Rattle.slots.specs.declared.Lock.{Lock}
use Rattle.slots.specs.declared.Lock.TheVariants.{None, Rho, Xi, UpdaterRho, Alpha}
use Rattle.slots.specs.declared.Under.{Under}
use Rattle.slots.specs.declared.Slot.{Slot}
use Rattle.slots.specs.Heard.{lock_number, lock_named}
use Rattle.slots.specs.Operations.{is_third}
use Rattle.slots.specs.Parts.{under, held, held_locks, path_of, beside_of, locks_of, sidelocks_of}
use Rattle.slots.specs.Locks.{lock_among, lock_held, same_lock, can_hold}
use Rattle.slots.specs.Sound.{within_limits, below_and_once, if_open, wants_rightly, holds_rightly, converts_rightly, slot_sound}
use Rattle.slots.proofs.LockLaws.{is_lock, among_none}
use Rattle.lent.specs.Layout.{row_length, column_length, kind_row, key_row, information_row, want_row, lock_row, depth_row, breadth_row, path_row, beside_row}
use Rattle.lent.specs.Words.{cell, page_in, number_in, column, lock_column, highest_kind, task_from, slot_in}
use Rattle.lent.specs.Holds.{WithinRows}
use Rattle.lent.proofs.HoldLaws.{by_kind, same_number}
use Rattle.lent.proofs.StateLaws.{length_column, column_cell, length_locks, lock_cell}
use Rattle.soundness.specs.Checking.{kind_holds, top_row, kind_wants, as_conversion, row_fine, may_hold_more, column_passes, held_pass, word_under, under_kind, converts_fine, pages_fine, deep_fine}
use Rattle.soundness.proofs.CheckingLawsHeld.{held_pass_lem}

-- ---- what the rows tell of the pages

-- more than one page is held
abbrev more : ℕ → ℕ → Bool
more depth breadth = ltb 1 depth || ltb 0 breadth

-- the wanted page and the top of the path, if there is one, are below n
abbrev named : ℕ → ℕ → ℕ → ℕ → Bool
named depth n want top = ltb want n && (eqb depth 0 || ltb top n)

-- a slot that holds no more than its top converts it if it wants it, and nothing else; c: it wants a conversion, own: its top, a: that is under α
abbrev turns : Bool → Bool → Bool → Bool → Bool
turns deep c own a = deep || (c && own && a) || (not c && not own)

abbrev asked : ℕ → ℕ → List ℕ → Bool
asked n want pages = all (λ (p : ℕ). ltb p n) (want ∷ pages) && distinct pages

abbrev converts : Bool → ℕ → List ℕ → List Under → Bool
converts c want pages locks = cond c (same_lock (lock_among want pages locks) Alpha) (not (member want pages))

none_held : (x c a : Bool) → (x && true) && turns false c false a ≡ ((x && true) && true) && cond c false true
none_held true true a = refl
none_held true false a = refl
none_held false c a = refl

one_held : (x b c e a : Bool) (l : Lock) → a ≡ same_lock l Alpha
    → (x && b) && turns false c e a ≡ ((x && (b && true)) && (not false && true)) && cond c (same_lock (cond e l None) Alpha) (not (e || false))
one_held false b c e a l s = refl
one_held true false c e a l s = refl
one_held true true true true true l s = s
one_held true true true true false l s = s
one_held true true true false a l s = refl
one_held true true false true a l s = refl
one_held true true false false a l s = refl

-- one page or none is held
shallow : (n want depth breadth : ℕ) (c a : Bool) (path siblings : List ℕ) (locks others : List Under) → length path ≡ column_length → length locks ≡ column_length
    → a ≡ same_lock (get_or locks 0 (under None)).lock Alpha → more depth breadth ≡ false
    → named depth n want (get_or path 0 0) && turns (more depth breadth) c (ltb 0 depth && eqb want (get_or path 0 0)) a
    ≡ asked n want (take depth path ++ take breadth siblings) && converts c want (take depth path ++ take breadth siblings) (take depth locks ++ take breadth others)
unfolding all distinct member lock_among
shallow n want depth breadth c a path siblings locks others long many alpha e =
    let none : breadth ≡ 0 = omega (arith, ltb-false 0 breadth (or_second_fails (ltb 1 depth) (ltb 0 breadth) e)) in
    ap (λ (m : Bool). named depth n want (get_or path 0 0) && turns m c (ltb 0 depth && eqb want (get_or path 0 0)) a) e
    ∙ by_depth depth (ltb-false 1 depth (or_first_fails (ltb 1 depth) (ltb 0 breadth) e)) path locks long many alpha
    ∙ ap (λ (b : ℕ). asked n want (take depth path ++ take b siblings) && converts c want (take depth path ++ take b siblings) (take depth locks ++ take b others)) (sym none)
  where
    by_depth : (d : ℕ) → d ≤ 1 → (l : List ℕ) (us : List Under) → length l ≡ column_length → length us ≡ column_length → a ≡ same_lock (get_or us 0 (under None)).lock Alpha
        → named d n want (get_or l 0 0) && turns false c (ltb 0 d && eqb want (get_or l 0 0)) a ≡ asked n want (take d l ++ []) && converts c want (take d l ++ []) (take d us ++ [])
    by_depth zero h l us k m s = none_held (ltb want n) c a
    by_depth (suc zero) h [] us k m s = absurd (omega arith)
    by_depth (suc zero) h (x ∷ l) [] k m s = absurd (omega arith)
    by_depth (suc zero) h (x ∷ l) (u ∷ us) k m s = one_held (ltb want n) (ltb x n) c (eqb want x) a u.lock s
    by_depth (suc (suc d)) h l us k m s = absurd (omega arith)

-- however many are held
rows_of_pages : (n want depth : ℕ) (path rest : List ℕ) → length path ≡ column_length → asked n want (take depth path ++ rest) ≡ true → named depth n want (get_or path 0 0) ≡ true
unfolding all
rows_of_pages n want zero path rest long e =
    and_both (and_first (ltb want n) (all (λ (p : ℕ). ltb p n) rest) (and_first (all (λ (p : ℕ). ltb p n) (want ∷ rest)) (distinct rest) e)) refl
rows_of_pages n want (suc d) [] rest long e = absurd (omega arith)
rows_of_pages n want (suc d) (x ∷ path) rest long e =
    let pages : List ℕ = x ∷ (take d path ++ rest) in
    let low = and_first (all (λ (p : ℕ). ltb p n) (want ∷ pages)) (distinct pages) e in
    let below = and_first (ltb x n) (all (λ (p : ℕ). ltb p n) (take d path ++ rest)) (and_second (ltb want n) (all (λ (p : ℕ). ltb p n) pages) low) in
    and_both (and_first (ltb want n) (all (λ (p : ℕ). ltb p n) pages) low) (or_second (eqb (suc d) 0) below)

-- ---- the locks of the pages

-- the lock of the top is asked behind what is asked of its page, and of the want
lock_behind : (x z b h k : Bool) → x && ((z || b && h) && k) ≡ (x && (z || b) && k) && (z || h)
lock_behind false z b h k = refl
lock_behind true true b h k = sym (and-true k)
lock_behind true false true true k = sym (and-true k)
lock_behind true false true false k = sym (and-false k)
lock_behind true false false h k = refl

module _ (test : ℕ → Bool) (ws : List ℕ) (s : ℕ) where
  -- one page or none is held
  under_shallow : (depth breadth : ℕ) → more depth breadth ≡ false
      → eqb depth 0 || test (cell ws path_row s) ≡ column_passes test ws path_row s depth && column_passes test ws beside_row s breadth
  unfolding column_passes all_below
  under_shallow depth breadth e =
      let none : breadth ≡ 0 = omega (arith, ltb-false 0 breadth (or_second_fails (ltb 1 depth) (ltb 0 breadth) e)) in
      by_depth depth (ltb-false 1 depth (or_first_fails (ltb 1 depth) (ltb 0 breadth) e))
      ∙ ap (λ (b : ℕ). column_passes test ws path_row s depth && column_passes test ws beside_row s b) (sym none)
    where
      by_depth : (d : ℕ) → d ≤ 1 → eqb d 0 || test (cell ws path_row s) ≡ column_passes test ws path_row s d && true
      by_depth zero h = refl
      by_depth (suc zero) h = sym (and-true (test (cell ws path_row s)))
      by_depth (suc (suc d)) h = absurd (omega arith)

  -- however many are held
  under_top : (depth : ℕ) → column_passes test ws path_row s depth ≡ true → eqb depth 0 || test (cell ws path_row s) ≡ true
  unfolding column_passes
  under_top zero e = refl
  under_top (suc d) e = or_second (eqb (suc d) 0) (all_below_at (λ (j : ℕ). test (cell ws (path_row + j) s)) (suc d) e 0 (omega arith))

-- ---- what a fine row says

-- fewer beside the path than on it
abbrev fewer : ℕ → ℕ → Bool
fewer depth breadth = eqb breadth 0 || ltb breadth depth

-- the numbers of pages held, as the rows test them
abbrev row_limits : ℕ → ℕ → ℕ → Bool
row_limits kind depth breadth = leb kind highest_kind && leb depth column_length && (not (eqb kind 0) || eqb depth 0) && fewer depth breadth

-- and what is asked of the wanted page and of the top behind them
abbrev row_pages : ℕ → ℕ → ℕ → ℕ → ℕ → Bool → Bool
row_pages kind depth breadth n want top = row_limits kind depth breadth && (eqb kind 0 || ltb want n) && top

pub record Row (kind depth breadth : ℕ) : Type 0 where
  pub exists : kind ≤ highest_kind
  pub path : depth ≤ column_length
  pub beside : breadth ≤ column_length
  pub closed : kind ≡ 0 → (depth ≡ 0) × (breadth ≡ 0)

row_says : (kind depth breadth n want : ℕ) (top : Bool) → row_pages kind depth breadth n want top ≡ true → Row kind depth breadth
row_says kind depth breadth n want top e =
    let g = not (eqb kind 0) || eqb depth 0 in
    let w = eqb kind 0 || ltb want n in
    let limits = and_first (row_limits kind depth breadth) w (and_first (row_limits kind depth breadth && w) top e) in
    let numbers = and_first (leb kind highest_kind && leb depth column_length && g) (fewer depth breadth) limits in
    let both = and_first (leb kind highest_kind && leb depth column_length) g numbers in
    let l = leb-true depth column_length (and_second (leb kind highest_kind) (leb depth column_length) both) in
    let few : (breadth ≡ 0) ⊎ (breadth < depth) =
    ⊎_elim (λ z. inl (eqb-true breadth 0 z)) (λ d. inr (ltb-true breadth depth d))
    (or_cases (eqb breadth 0) (ltb breadth depth) (and_second (leb kind highest_kind && leb depth column_length && g) (fewer depth breadth) limits)) in
    let none : kind ≡ 0 → depth ≡ 0 = λ z.
    eqb-true depth 0
    (ap (λ (k : ℕ). not (eqb k 0) || eqb depth 0) (sym z) ∙ and_second (leb kind highest_kind && leb depth column_length) g numbers) in
    record {
      exists = leb-true kind highest_kind (and_first (leb kind highest_kind) (leb depth column_length) both);
      path = l;
      beside = ⊎_elim (λ z. omega arith) (λ d. omega arith) few;
      closed = λ z. (none z, ⊎_elim (λ y. y) (λ d. let empty = none z in absurd (omega arith)) few);
    }

-- ---- kind by kind

-- the limits of a kind
abbrev most : ℕ → ℕ → ℕ → ℕ → Bool
most on_path aside depth breadth = leb depth on_path && leb breadth aside && fewer depth breadth

-- at most so many, and none
at_most : (a b : ℕ) → not (ltb b a) ≡ leb a b
at_most a b =
    ⊎_elim
    (λ t. ap not t ∙ sym (lt-leb a b (ltb-true b a t)))
    (λ f. ap not f ∙ sym (le-leb a b (ltb-false b a f)))
    (true_or_false (ltb b a))

at_most_none : (b : ℕ) → eqb b 0 ≡ leb b 0
at_most_none b =
    same_if_true_together (eqb b 0) (leb b 0)
    (λ t. let none = eqb-true b 0 t in le-leb b 0 (omega arith))
    (λ t. let few = leb-true b 0 t in eq-eqb b 0 (omega arith))

-- A kind that may hold one page at most. l: the path is no longer than its rows, x: more than one page is on it, y: some are beside it,
-- f: those are fewer
one_page : (l f x y : Bool) → (x ≡ false → l ≡ true) → l && true && f && (not (x || y) || false) ≡ not x && not y && f
one_page l f true y h = and-false (l && true && f)
one_page l f false true h = and-false (l && true && f)
one_page l f false false h = and-true (l && true && f) ∙ ap (λ (b : Bool). b && true && f) (h refl)

-- one that may hold more on its path alone
path_alone : (l f x y : Bool) → l && true && f && (not (x || y) || not y) ≡ l && not y && f
path_alone l f true true = and-false (l && true && f) ∙ sym (ap (λ (b : Bool). b && f) (and-false l))
path_alone l f true false = and-true (l && true && f)
path_alone l f false true = and-false (l && true && f) ∙ sym (ap (λ (b : Bool). b && f) (and-false l))
path_alone l f false false = and-true (l && true && f)

-- a test that follows from the others may be left out
follows : (a f g : Bool) → (a ≡ true → g ≡ true → f ≡ true) → a && true && g ≡ a && f && g
follows false f g h = refl
follows true true g h = refl
follows true false true h = sym (h refl refl)
follows true false false h = refl

-- fewer siblings than path pages are few enough
few_beside : (depth breadth : ℕ) → leb depth column_length ≡ true → fewer depth breadth ≡ true → leb breadth (column_length - 1) ≡ true
few_beside depth breadth a g =
    let short = leb-true depth column_length a in
    ⊎_elim
    (λ z. let none = eqb-true breadth 0 z in le-leb breadth (column_length - 1) (omega arith))
    (λ l. let less = ltb-true breadth depth l in le-leb breadth (column_length - 1) (omega arith))
    (or_cases (eqb breadth 0) (ltb breadth depth) g)

-- and one that may hold more beside it too
beside_too : (depth breadth : ℕ) → leb depth column_length && true && fewer depth breadth && (not (more depth breadth) || true) ≡ most column_length (column_length - 1) depth breadth
beside_too depth breadth =
    ap (λ (b : Bool). leb depth column_length && true && fewer depth breadth && b) (or_second (not (more depth breadth)) refl)
    ∙ and-true (leb depth column_length && true && fewer depth breadth)
    ∙ follows (leb depth column_length) (leb breadth (column_length - 1)) (fewer depth breadth) (few_beside depth breadth)

-- the kind's test stands before that of the pages, which asks what the rows ask
fits : (r w t d m p : Bool) → (d ≡ false → w && t ≡ p) → (d ≡ true → p ≡ true → w && t ≡ true) → r && w && t && (not d || (m && p)) ≡ r && (not d || m) && p
fits false w t d m p f g = refl
fits true w t false m p f g = and-true (w && t) ∙ f refl
fits true w t true false p f g = and-false (w && t)
fits true w t true true true f g = and-true (w && t) ∙ g refl refl
fits true w t true true false f g = and-false (w && t)

module _ (key information depth breadth n want : ℕ) (top pages : Bool)
    (same : more depth breadth ≡ false → ltb want n && top ≡ pages) (told : more depth breadth ≡ true → pages ≡ true → ltb want n && top ≡ true) where
  -- of a closed slot the top, which is not there, tells nothing
  abbrev Fits : ℕ → Type 0
  Fits kind = (eqb kind 0 ≡ true → depth ≡ 0 → top ≡ true)
      → row_pages kind depth breadth n want top && (not (more depth breadth) || (may_hold_more kind breadth && pages))
      ≡ within_limits (task_from kind key information) depth breadth && if_open (task_from kind key information) pages

  -- the limits of an open kind are the rule's; what is left are the pages
  limited : (on_path aside : ℕ) (m : Bool)
      → leb depth column_length && true && fewer depth breadth && (not (more depth breadth) || m) ≡ most on_path aside depth breadth
      → leb depth column_length && true && fewer depth breadth && ltb want n && top && (not (more depth breadth) || (m && pages)) ≡ most on_path aside depth breadth && pages
  limited on_path aside m e =
      fits (leb depth column_length && true && fewer depth breadth) (ltb want n) top (more depth breadth) m pages same told
      ∙ ap (λ (l : Bool). l && pages) e

  -- a closed slot: nothing is held, and nothing asked of its pages
  nothing : Fits 0
  nothing empty =
      same_if_true_together (row_pages 0 depth breadth n want top && (not (more depth breadth) || false)) (most 0 0 depth breadth && true)
      (λ e.
      let none = (row_says 0 depth breadth n want top (and_first (row_pages 0 depth breadth n want top) (not (more depth breadth) || false) e)).closed refl in
      ap₂ (λ (d b : ℕ). most 0 0 d b && true) none.0 none.1)
      (λ e.
      let both = and_first (leb depth 0 && leb breadth 0) (fewer depth breadth) (and_first (most 0 0 depth breadth) true e) in
      let path = leb-true depth 0 (and_first (leb depth 0) (leb breadth 0) both) in
      let aside = leb-true breadth 0 (and_second (leb depth 0) (leb breadth 0) both) in
      let no-path : depth ≡ 0 = omega arith in
      let none-aside : breadth ≡ 0 = omega arith in
      ap₂ (λ (d b : ℕ). row_pages 0 d b n want top && (not (more d b) || false)) no-path none-aside ∙ and_both (empty refl no-path) refl)

  -- a search, a regrading, and the updates by the second way
  at_most_one : Fits 1
  unfolding search_holds
  at_most_one _ =
      limited 1 0 false
      (one_page (leb depth column_length) (fewer depth breadth) (ltb 1 depth) (ltb 0 breadth) (λ e. let few = ltb-false 1 depth e in le-leb depth column_length (omega arith))
      ∙ ap₂ (λ (a b : Bool). a && b && fewer depth breadth) (at_most depth 1) (at_most breadth 0))

  -- an insertion
  on_path : Fits 2
  unfolding path_holds
  on_path _ =
      limited column_length 0 (eqb breadth 0)
      (ap (λ (m : Bool). leb depth column_length && true && fewer depth breadth && (not (more depth breadth) || m)) (at_most_none breadth ∙ sym (at_most breadth 0))
      ∙ path_alone (leb depth column_length) (fewer depth breadth) (ltb 1 depth) (ltb 0 breadth)
      ∙ ap (λ (b : Bool). leb depth column_length && b && fewer depth breadth) (at_most breadth 0))

  -- a deletion, and Next
  with_siblings : Fits 3
  unfolding path_holds sibling_holds
  with_siblings _ = limited column_length (column_length - 1) true (beside_too depth breadth)

  kind_fits : (kind : ℕ) → kind ≤ highest_kind → Fits kind
  unfolding search_holds regrade_holds second_holds path_holds sibling_holds
  kind_fits =
      by_kind Fits
      nothing
      at_most_one
      on_path
      with_siblings
      with_siblings
      at_most_one
      at_most_one
      at_most_one
      at_most_one
      on_path
      with_siblings
      at_most_one

-- what is within the limits of a kind is within the rows
limits_short : (key information depth breadth kind : ℕ) → kind ≤ highest_kind → within_limits (task_from kind key information) depth breadth ≡ true → (depth ≤ column_length) × (breadth ≤ column_length)
unfolding search_holds regrade_holds second_holds path_holds sibling_holds
limits_short key information depth breadth =
    by_kind (λ (kind : ℕ). within_limits (task_from kind key information) depth breadth ≡ true → (depth ≤ column_length) × (breadth ≤ column_length))
    (few 0 0 (omega arith) (omega arith))
    (few 1 0 (omega arith) (omega arith))
    (few 10 0 (omega arith) (omega arith))
    (few 10 9 (omega arith) (omega arith))
    (few 10 9 (omega arith) (omega arith))
    (few 1 0 (omega arith) (omega arith))
    (few 1 0 (omega arith) (omega arith))
    (few 1 0 (omega arith) (omega arith))
    (few 1 0 (omega arith) (omega arith))
    (few 10 0 (omega arith) (omega arith))
    (few 10 9 (omega arith) (omega arith))
    (few 1 0 (omega arith) (omega arith))
  where
    few : (on_path aside : ℕ) → on_path ≤ column_length → aside ≤ column_length → most on_path aside depth breadth ≡ true → (depth ≤ column_length) × (breadth ≤ column_length)
    few on_path aside a b e =
        let both = and_first (leb depth on_path && leb breadth aside) (fewer depth breadth) e in
        let path = leb-true depth on_path (and_first (leb depth on_path) (leb breadth aside) both) in
        let beside = leb-true breadth aside (and_second (leb depth on_path) (leb breadth aside) both) in
        (omega arith, omega arith)

-- ---- the lock of the want

-- kind by kind: the lock that it can want is the rule's
module _ (key information lock : ℕ) where
  abbrev Wants : ℕ → Type 0
  Wants kind = eqb kind 0 || kind_wants kind lock ≡ wants_rightly (task_from kind key information) (lock_named lock)

  reads : eqb lock (lock_number Rho) || false ≡ same_lock (lock_named lock) Rho || false
  reads = ap (λ (b : Bool). b || false) (same_number Rho refl lock)

  updates : eqb lock (lock_number Xi) || false ≡ same_lock (lock_named lock) Xi || false
  updates = ap (λ (b : Bool). b || false) (same_number Xi refl lock)

  second : eqb lock (lock_number UpdaterRho) || eqb lock (lock_number Xi) ≡ same_lock (lock_named lock) UpdaterRho || same_lock (lock_named lock) Xi
  second = ap₂ (λ (a b : Bool). a || b) (same_number UpdaterRho refl lock) (same_number Xi refl lock)

  third : eqb lock (lock_number Alpha) || eqb lock (lock_number Xi) ≡ same_lock (lock_named lock) Alpha || same_lock (lock_named lock) Xi
  third = ap₂ (λ (a b : Bool). a || b) (same_number Alpha refl lock) (same_number Xi refl lock)

  wants_fit : (kind : ℕ) → kind ≤ highest_kind → Wants kind
  wants_fit = by_kind Wants refl reads updates updates reads updates second second second third third third

-- ---- the locks of what is held, and what is converted

-- m: the wanted page is held, a: under α, t: by the third way, x: ξ is wanted
turned : (m a t x : Bool) → (m ≡ false → a ≡ false) → cond (t && x) a (not m) ≡ cond m (t && a && x) (not (t && x))
turned true a true true h = sym (and-true a)
turned true a true false h = sym (and-false a)
turned true a false x h = refl
turned false a true true h = h refl
turned false a true false h = refl
turned false a false x h = refl

swapped : (p c u : Bool) → (p && c) && u ≡ p && u && c
swapped false c u = refl
swapped true true u = sym (and-true u)
swapped true false u = sym (and-false u)

-- kind by kind: the pages of a slot are under locks that its kind can hold them under, and it converts rightly, as the rule has it
module _ (ws : List ℕ) (n s key information : ℕ) (path : cell ws depth_row s ≤ column_length) (beside : cell ws breadth_row s ≤ column_length) where
  abbrev slot : Slot
  slot = slot_in ws s

  abbrev held_want : Bool
  held_want = same_lock (lock_held slot slot.want) Alpha

  abbrev converts_by : ℕ → Bool
  converts_by kind = cond (as_conversion kind (cell ws lock_row s)) held_want (not (member slot.want (held slot)))

  abbrev Holds : ℕ → Type 0
  Holds kind = if_open (task_from kind key information) ((below_and_once n slot && converts_by kind) && held_pass (word_under kind) ws s)
      ≡ if_open (task_from kind key information) (below_and_once n slot) && holds_rightly (task_from kind key information) slot && converts_rightly (task_from kind key information) slot

  -- what is not held is under no lock
  not_alpha : member slot.want (held slot) ≡ false → held_want ≡ false
  not_alpha f = ap (λ (l : Lock). same_lock l Alpha) (among_none slot.want (held slot) (held_locks slot) f)

  -- an open slot, whose kind can hold and converts as the rule says
  open_fits : (kind : ℕ) (op : Op) → ((i : ℕ) → kind_holds kind i ≡ can_hold op (lock_named i)) → as_conversion kind (cell ws lock_row s) ≡ is_third op && same_lock slot.lock Xi
      → (below_and_once n slot && converts_by kind) && held_pass (word_under kind) ws s
      ≡ below_and_once n slot && all (λ (p : ℕ). can_hold op (lock_held slot p)) (held slot) && converts_rightly (Open op) slot
  open_fits kind op holds third =
      by_test (below_and_once n slot)
      (λ t.
      let names = all (λ (p : ℕ). ltb p n) (slot.want ∷ held slot) in
      ap₂ (λ (c u : Bool). (below_and_once n slot && c) && u)
      (ap (λ (c : Bool). cond c held_want (not (member slot.want (held slot)))) third
      ∙ turned (member slot.want (held slot)) held_want (is_third op) (same_lock slot.lock Xi) not_alpha)
      (held_pass_lem (word_under kind) (λ (p : ℕ) (l : Lock). can_hold op l) (λ w. holds (number_in w)) ws s path beside (and_second names (distinct (held slot)) t))
      ∙ swapped (below_and_once n slot) (converts_rightly (Open op) slot) (all (λ (p : ℕ). can_hold op (lock_held slot p)) (held slot)))
      (λ f.
      and_first_fails (held_pass (word_under kind) ws s) (and_first_fails (converts_by kind) f)
      ∙ sym (and_first_fails (converts_rightly (Open op) slot) (and_first_fails (all (λ (p : ℕ). can_hold op (lock_held slot p)) (held slot)) f)))

  -- the kinds that hold under one lock alone, and those of the third way
  alone : (l : Lock) → is_lock l ≡ true → (i : ℕ) → eqb i (lock_number l) || false ≡ same_lock (lock_named i) l || false
  alone l o i = ap (λ (b : Bool). b || false) (same_number l o i)

  either : (i : ℕ) → eqb i (lock_number Alpha) || eqb i (lock_number Xi) ≡ same_lock (lock_named i) Alpha || same_lock (lock_named i) Xi
  either i = ap₂ (λ (a b : Bool). a || b) (same_number Alpha refl i) (same_number Xi refl i)

  holds_fit : (kind : ℕ) → kind ≤ highest_kind → Holds kind
  holds_fit =
      by_kind Holds
      refl
      (open_fits 1 (Search key) (alone Rho refl) refl)
      (open_fits 2 (Insert key information First) (alone Xi refl) refl)
      (open_fits 3 (Delete key First) (alone Xi refl) refl)
      (open_fits 4 (Next key) (alone Rho refl) refl)
      (open_fits 5 (Regrade key information First) (alone Xi refl) refl)
      (open_fits 6 (Insert key information Second) (alone UpdaterRho refl) refl)
      (open_fits 7 (Delete key Second) (alone UpdaterRho refl) refl)
      (open_fits 8 (Regrade key information Second) (alone UpdaterRho refl) refl)
      (open_fits 9 (Insert key information Third) either (same_number Xi refl (cell ws lock_row s)))
      (open_fits 10 (Delete key Third) either (same_number Xi refl (cell ws lock_row s)))
      (open_fits 11 (Regrade key information Third) either (same_number Xi refl (cell ws lock_row s)))

-- ---- one slot

-- the test of the lock wanted stands among those of the pages in the rows, and behind them in the rule
want_last : (r k d : Bool) → r && k && d ≡ r && d && k
want_last false k d = refl
want_last true true d = sym (and-true d)
want_last true false d = sym (and-false d)

-- and those of the locks held and of what is converted behind it
holds_last : (w o h v k : Bool) → w && (o && h && v) && k ≡ w && o && k && h && v
holds_last false o h v k = refl
holds_last true false h v k = refl
holds_last true true true true k = sym (and-true (k && true) ∙ and-true k)
holds_last true true true false k = sym (and-false (k && true))
holds_last true true false v k = sym (and_first_fails v (and-false k))

together : (a b c : Bool) → a && b && c ≡ a && (b && c)
together true b c = refl
together false b c = refl

module _ (ws : List ℕ) (n s : ℕ) (known : cell ws kind_row s ≤ highest_kind) where
  abbrev kind : ℕ
  kind = cell ws kind_row s

  abbrev depth : ℕ
  depth = cell ws depth_row s

  abbrev breadth : ℕ
  breadth = cell ws breadth_row s

  abbrev want : ℕ
  want = cell ws want_row s

  abbrev word : ℕ
  word = cell ws path_row s

  abbrev lock : ℕ
  lock = cell ws lock_row s

  abbrev top : Bool
  top = top_row kind depth breadth n want lock word

  abbrev task_within : Bool
  task_within = within_limits (slot_in ws s).task depth breadth

  abbrev pages : Bool
  pages = below_and_once n (slot_in ws s)

  first : get_or (column ws path_row s) 0 0 ≡ page_in word
  first = column_cell ws path_row s 0 (omega arith)

  first_lock : eqb (number_in word) (lock_number Alpha) ≡ same_lock (get_or (lock_column ws path_row s) 0 (under None)).lock Alpha
  first_lock =
      same_number Alpha refl (number_in word)
      ∙ ap (λ (u : Under). same_lock u.lock Alpha) (sym (lock_cell ws path_row s 0 (omega arith)))

  -- what the rows tell of the pages and of the want, and then of the lock of the top
  top_parts : ltb want n && top
      ≡ (named depth n want (get_or (column ws path_row s) 0 0)
      && turns (more depth breadth) (as_conversion kind lock) (ltb 0 depth && eqb want (get_or (column ws path_row s) 0 0)) (eqb (number_in word) (lock_number Alpha)))
      && (eqb depth 0 || word_under kind word)
  top_parts =
      lock_behind (ltb want n) (eqb depth 0) (ltb (page_in word) n) (word_under kind word)
      (turns (more depth breadth) (as_conversion kind lock) (ltb 0 depth && eqb want (page_in word)) (eqb (number_in word) (lock_number Alpha)))
      ∙ ap (λ (p : ℕ). (named depth n want p
      && turns (more depth breadth) (as_conversion kind lock) (ltb 0 depth && eqb want p) (eqb (number_in word) (lock_number Alpha)))
      && (eqb depth 0 || word_under kind word)) (sym first)

  rows_same : more depth breadth ≡ false → ltb want n && top ≡ pages_fine ws n s && under_kind ws s
  unfolding path_of beside_of locks_of sidelocks_of
  rows_same e =
      top_parts
      ∙ ap₂ (λ (a b : Bool). a && b)
      (shallow n want depth breadth (as_conversion kind lock) (eqb (number_in word) (lock_number Alpha)) (column ws path_row s) (column ws beside_row s) (lock_column ws path_row s) (lock_column ws beside_row s)
      (length_column ws path_row s) (length_locks ws path_row s) first_lock e)
      (under_shallow (word_under kind) ws s depth breadth e)

  rows_told : more depth breadth ≡ true → pages_fine ws n s && under_kind ws s ≡ true → ltb want n && top ≡ true
  unfolding path_of beside_of
  rows_told m e =
      let own = ltb 0 depth && eqb want (get_or (column ws path_row s) 0 0) in
      let turn = as_conversion kind lock in
      let alpha = eqb (number_in word) (lock_number Alpha) in
      top_parts
      ∙ and_both
      (and_both
      (rows_of_pages n want depth (column ws path_row s) (take breadth (column ws beside_row s)) (length_column ws path_row s)
      (and_first pages (converts_fine ws s) (and_first (pages_fine ws n s) (under_kind ws s) e)))
      (or_first (not turn && not own) (or_first (turn && own && alpha) m)))
      (under_top (word_under kind) ws s depth
      (and_first (column_passes (word_under kind) ws path_row s depth) (column_passes (word_under kind) ws beside_row s breadth) (and_second (pages_fine ws n s) (under_kind ws s) e)))

  -- a closed slot has no top, and wants no conversion
  empty : eqb kind 0 ≡ true → depth ≡ 0 → top ≡ true
  empty z none =
      let own = ltb 0 depth && eqb want (page_in word) in
      let turn = as_conversion kind lock in
      let still : turn ≡ false = ap (λ (k : ℕ). as_conversion k lock) (eqb-true kind 0 z) in
      and_both
      (or_first (ltb (page_in word) n && word_under kind word) (eq-eqb depth 0 none))
      (or_second (more depth breadth || (turn && own && eqb (number_in word) (lock_number Alpha)))
      (and_both (not_of_false still) (not_of_false (and_first_fails (eqb want (page_in word)) (ap (ltb 0) none)))))

  -- limits and pages
  pages_fit : row_pages kind depth breadth n want top && deep_fine ws n s ≡ task_within && if_open (slot_in ws s).task (pages_fine ws n s && under_kind ws s)
  pages_fit =
      ap (λ (b : Bool). row_pages kind depth breadth n want top && (not (more depth breadth) || b)) (together (may_hold_more kind breadth) (pages_fine ws n s) (under_kind ws s))
      ∙ kind_fits (cell ws key_row s) (cell ws information_row s) depth breadth n want top (pages_fine ws n s && under_kind ws s) rows_same rows_told kind known empty

  -- and the locks of the pages, and what is converted
  locks_fit : task_within && if_open (slot_in ws s).task (pages_fine ws n s && under_kind ws s)
      ≡ task_within && (if_open (slot_in ws s).task pages && holds_rightly (slot_in ws s).task (slot_in ws s) && converts_rightly (slot_in ws s).task (slot_in ws s))
  locks_fit =
      by_test task_within
      (λ t.
      let short = limits_short (cell ws key_row s) (cell ws information_row s) depth breadth kind known t in
      ap (λ (b : Bool). task_within && b) (holds_fit ws n s (cell ws key_row s) (cell ws information_row s) short.0 short.1 kind known))
      (λ f.
      and_first_fails (if_open (slot_in ws s).task (pages_fine ws n s && under_kind ws s)) f
      ∙ sym (and_first_fails (if_open (slot_in ws s).task pages && holds_rightly (slot_in ws s).task (slot_in ws s) && converts_rightly (slot_in ws s).task (slot_in ws s)) f))

  -- the rows and the pages of a slot that holds more are the rule
  pub slot_fits : row_fine ws n s && deep_fine ws n s ≡ slot_sound n (slot_in ws s)
  unfolding slot_sound
  slot_fits =
      want_last (row_pages kind depth breadth n want top) (eqb kind 0 || kind_wants kind (cell ws lock_row s)) (deep_fine ws n s)
      ∙ ap₂ (λ (a b : Bool). a && b) (pages_fit ∙ locks_fit) (wants_fit (cell ws key_row s) (cell ws information_row s) (cell ws lock_row s) kind known)
      ∙ holds_last task_within (if_open (slot_in ws s).task pages) (holds_rightly (slot_in ws s).task (slot_in ws s)) (converts_rightly (slot_in ws s).task (slot_in ws s))
      (wants_rightly (slot_in ws s).task (slot_in ws s).lock)

-- ---- the rows of every slot

module _ (ws : List ℕ) (n : ℕ) (e : all_below row_length (row_fine ws n) ≡ true) where
  pub row_at : (s : ℕ) → s < row_length → Row (cell ws kind_row s) (cell ws depth_row s) (cell ws breadth_row s)
  row_at s h =
      let top = top_row (cell ws kind_row s) (cell ws depth_row s) (cell ws breadth_row s) n (cell ws want_row s) (cell ws lock_row s) (cell ws path_row s) in
      row_says (cell ws kind_row s) (cell ws depth_row s) (cell ws breadth_row s) n (cell ws want_row s) top
      (and_first (row_pages (cell ws kind_row s) (cell ws depth_row s) (cell ws breadth_row s) n (cell ws want_row s) top) (eqb (cell ws kind_row s) 0 || kind_wants (cell ws kind_row s) (cell ws lock_row s))
      (all_below_at (row_fine ws n) row_length e s h))

  -- no path and no list of siblings is longer than its rows
  pub rows_short : WithinRows ws
  rows_short = record {
    path = λ s h. (row_at s h).path;
    beside = λ s h. (row_at s h).beside;
  }
