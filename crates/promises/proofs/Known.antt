-- When the change of an update is known, and the order of conversion, in plain terms.
use Prim.Native.Nat.{ℕ, zero, suc, ◌≤◌, ◌<◌}
use mathlib.Core.Bool.{Bool, true, false, not, ◌||◌, false≢true}
use mathlib.Core.List.{List, [], ◌∷◌, ◌++◌}
use mathlib.Core.Logic.{◌⊎◌, inl, inr, ⊎_elim, ◌≢◌}
use mathlib.Core.Path.{◌≡◌, refl, sym, ap, ap₂, subst, ◌∙◌}
use native.Mathlib.Omega.{arith}
use lib.Dec.{eqb, ltb}
use lib.ListN.{length, get_or, length-append, get_or-append}
use lib.Seq.{get_or_at}
use borrow.Author.Tests.{eqb-true, eq-eqb, ltb-true, lt-ltb, le-ltb, not-true}
use Rattle.ground.proofs.Bools.{not_both, and_first, and_second, and_both, or_first, or_second, or_cases, not_of_false}
use Rattle.ground.proofs.Choice.{by_test, cond-true, cond-false}
use Rattle.page.specs.Words.{Page, μ}
use Rattle.page.specs.Short.{neighbour}
use Rattle.change.specs.Deletion.{Need, nothing, sibling, astray, satisfied, needs}
use Rattle.slots.specs.declared.Op.{Op}
use Rattle.slots.specs.declared.Op.TheVariants.{Search, Insert, Delete, Next, Regrade}
use Rattle.slots.specs.Parts.{Stand}
use Rattle.footing.specs.Granted.{answered_at_once, is_nothing, is_none, needs_no_more, change_known, in_turn}
use Rattle.tree.proofs.DeletionRule.{sibling≢nothing, astray≢nothing, needs_top, needs_shared, needs_next}
use Rattle.runs.proofs.Paths.{none_is}
use Rattle.promises.specs.Terms.{Enough, SiblingsDone, NoMore}

-- ---- what a deletion needs

is_nothing_lem : (d : Need) → is_nothing d ≡ true → d ≡ nothing
is_nothing_lem nothing e = refl
is_nothing_lem (sibling s) e = absurd (false≢true e)
is_nothing_lem astray e = absurd (false≢true e)

-- of places from the first on
shifted : (n : ℕ) (P : ℕ → Type 0) → P 0 → ((j : ℕ) → suc j < suc n → P (suc j)) → (j : ℕ) → j < suc n → P j
shifted n P first rest zero h = first
shifted n P first rest (suc j) h = rest j h

module _ (k : ℕ) (memory : ℕ → Page) (x : ℕ) where
  -- a page that would not be short, or page 0
  spares : (p : ℕ) → eqb p 0 || ltb k (μ (memory p)) ≡ true → (p ≡ 0) ⊎ (k < μ (memory p))
  spares p e = ⊎_elim (λ h. inl (eqb-true p 0 h)) (λ h. inr (ltb-true k (μ (memory p)) h)) (or_cases (eqb p 0) (ltb k (μ (memory p))) e)

  spared : (p : ℕ) → (p ≡ 0) ⊎ (k < μ (memory p)) → eqb p 0 || ltb k (μ (memory p)) ≡ true
  spared p (inl e) = or_first (ltb k (μ (memory p))) (eq-eqb p 0 e)
  spared p (inr h) = or_second (eqb p 0) (lt-ltb k (μ (memory p)) h)

  pub needs_enough : (p : ℕ) (fathers siblings : List ℕ) → needs k memory x p fathers siblings ≡ nothing → Enough k memory x (p ∷ fathers) siblings
  unfolding needs
  needs_enough p fathers [] e = record {
    fewer = omega arith;
    short = λ j h. absurd (omega arith);
    not_root = λ j h. absurd (omega arith);
    neighbours = λ j h. absurd (omega arith);
    joining = λ j h. absurd (omega arith);
    last = inr (by_fathers fathers e);
  }
    where
      by_fathers : (fs : List ℕ) → needs k memory x p fs [] ≡ nothing → (p ≡ 0) ⊎ (k < μ (memory p))
      by_fathers [] e =
          by_test (eqb p 0 || ltb k (μ (memory p))) (spares p) (λ f. astray≢nothing (sym (cond-false nothing astray f) ∙ e))
      by_fathers (f ∷ up) e =
          by_test (eqb p 0 || ltb k (μ (memory p))) (spares p)
          (λ o. sibling≢nothing (sym (cond-false nothing (sibling (neighbour x (memory f))) o) ∙ e))
  needs_enough p [] (s ∷ ss) e = let none = ap length (needs_top k memory x p (s ∷ ss) e) in absurd (omega (arith, none))
  needs_enough p (f ∷ up) (s ∷ ss) e =
      let here = needs_shared k memory x p f up s ss e in
      ⊎_elim
      (λ (spare, none).
      let one : length ss ≡ 0 = ap length none in
      record {
        fewer = omega arith;
        short = λ j h. let at : 0 ≡ j = omega (arith, one, h) in subst (λ (i : ℕ). μ (memory (get_or (p ∷ f ∷ up) i 0)) ≤ k) at here.short;
        not_root = λ j h. let at : 0 ≡ j = omega (arith, one, h) in subst (λ (i : ℕ). get_or (p ∷ f ∷ up) i 0 ≢ 0) at here.other;
        neighbours = λ j h. let at : 0 ≡ j = omega (arith, one, h) in
            subst (λ (i : ℕ). get_or (s ∷ ss) i 0 ≡ neighbour x (memory (get_or (f ∷ up) i 0))) at here.beside;
        joining = λ j h. absurd (omega arith);
        last = inl (0, omega arith, spare);
      })
      (λ (joins, further).
      let rest = needs_enough f up ss further in
      record {
        fewer = let less = rest.fewer in omega (arith, less);
        short = shifted (length ss) (λ (j : ℕ). μ (memory (get_or (p ∷ f ∷ up) j 0)) ≤ k) here.short (λ j h. rest.short j (omega arith));
        not_root = shifted (length ss) (λ (j : ℕ). get_or (p ∷ f ∷ up) j 0 ≢ 0) here.other (λ j h. rest.not_root j (omega arith));
        neighbours = shifted (length ss) (λ (j : ℕ). get_or (s ∷ ss) j 0 ≡ neighbour x (memory (get_or (f ∷ up) j 0))) here.beside
            (λ j h. rest.neighbours j (omega arith));
        joining = by_place s ss joins rest.joining;
        last = ⊎_elim (λ (j, e, h). inl (suc j, ap suc e, h)) inr rest.last;
      })
      here.then
    where
      by_place : (s : ℕ) (ss : List ℕ) → μ (memory s) ≤ k → ((j : ℕ) → suc j < length ss → μ (memory (get_or ss j 0)) ≤ k)
          → (j : ℕ) → suc j < suc (length ss) → μ (memory (get_or (s ∷ ss) j 0)) ≤ k
      by_place s ss first rest zero h = first
      by_place s ss first rest (suc j) h = rest j (omega arith)

  pub enough_needs : (p : ℕ) (fathers siblings : List ℕ) → Enough k memory x (p ∷ fathers) siblings → needs k memory x p fathers siblings ≡ nothing
  unfolding needs
  enough_needs p [] [] e = cond-true nothing astray (spared p (⊎_elim (λ (j, at, h). absurd (omega (arith, at))) (λ h. h) e.last))
  enough_needs p [] (s ∷ ss) e = let less = e.fewer in absurd (omega (arith, less))
  enough_needs p (f ∷ up) [] e =
      cond-true nothing (sibling (neighbour x (memory f))) (spared p (⊎_elim (λ (j, at, h). absurd (omega (arith, at))) (λ h. h) e.last))
  enough_needs p (f ∷ up) (s ∷ []) e =
      needs_next k memory x p f up s [] (e.not_root 0 (omega arith)) (e.short 0 (omega arith)) (e.neighbours 0 (omega arith))
      ∙ by_test (ltb k (μ (memory s)))
      (λ y. cond-true nothing (needs k memory x f up []) y)
      (λ n.
      cond-false nothing (needs k memory x f up []) n
      ∙ enough_needs f up []
      (record {
        fewer = omega arith;
        short = λ j h. absurd (omega arith);
        not_root = λ j h. absurd (omega arith);
        neighbours = λ j h. absurd (omega arith);
        joining = λ j h. absurd (omega arith);
        last = ⊎_elim
            (λ (j, at, h). let zeroth : j ≡ 0 = omega (arith, at) in
            not_both (lt-ltb k (μ (memory s)) (subst (λ (i : ℕ). k < μ (memory (get_or (s ∷ []) i 0))) zeroth h)) n)
            inr e.last;
      }))
  enough_needs p (f ∷ up) (s ∷ (r ∷ rs)) e =
      let less = e.fewer in
      needs_next k memory x p f up s (r ∷ rs) (e.not_root 0 (omega arith)) (e.short 0 (omega arith)) (e.neighbours 0 (omega arith))
      ∙ cond-false (satisfied (r ∷ rs)) (needs k memory x f up (r ∷ rs)) (le-ltb k (μ (memory s)) (e.joining 0 (omega arith)))
      ∙ enough_needs f up (r ∷ rs)
      (record {
        fewer = omega (arith, less);
        short = λ j h. e.short (suc j) (omega arith);
        not_root = λ j h. e.not_root (suc j) (omega arith);
        neighbours = λ j h. e.neighbours (suc j) (omega arith);
        joining = λ j h. e.joining (suc j) (omega arith);
        last = ⊎_elim (λ (j, at, h). inl (by_end j at h)) inr e.last;
      })
    where
      by_end : (j : ℕ) → suc j ≡ suc (suc (length rs)) → k < μ (memory (get_or (s ∷ r ∷ rs) j 0))
          → (i : ℕ) × (suc i ≡ length (r ∷ rs)) × (k < μ (memory (get_or (r ∷ rs) i 0)))
      by_end zero at h = absurd (omega (arith, at))
      by_end (suc j) at h = (j, omega (arith, at), h)

-- ---- when the change is known

more_told : (op : Op) (k : ℕ) (memory : ℕ → Page) (beside : List ℕ) (leaf : ℕ) (fathers : List ℕ)
    → needs_no_more op k memory beside leaf fathers ≡ true → SiblingsDone op k memory (leaf ∷ fathers) beside
more_told (Search x) k memory beside leaf fathers h = none_is beside h
more_told (Insert x v way) k memory beside leaf fathers h = none_is beside h
more_told (Delete x way) k memory beside leaf fathers h =
    needs_enough k memory x leaf fathers beside (is_nothing_lem (needs k memory x leaf fathers beside) h)
more_told (Next x) k memory beside leaf fathers h = none_is beside h
more_told (Regrade x v way) k memory beside leaf fathers h = none_is beside h

more_from : (op : Op) (k : ℕ) (memory : ℕ → Page) (beside : List ℕ) (leaf : ℕ) (fathers : List ℕ)
    → SiblingsDone op k memory (leaf ∷ fathers) beside → needs_no_more op k memory beside leaf fathers ≡ true
more_from (Search x) k memory beside leaf fathers e = ap is_none e
more_from (Insert x v way) k memory beside leaf fathers e = ap is_none e
more_from (Delete x way) k memory beside leaf fathers e = ap is_nothing (enough_needs k memory x leaf fathers beside e)
more_from (Next x) k memory beside leaf fathers e = ap is_none e
more_from (Regrade x v way) k memory beside leaf fathers e = ap is_none e

module _ (k : ℕ) (memory : ℕ → Page) (z : Stand) (leaf : ℕ) (fathers : List ℕ) where
  abbrev asked : Bool
  asked = answered_at_once z.op (memory leaf).entries

  abbrev enough : Bool
  enough = needs_no_more z.op k memory z.beside leaf fathers

  pub known_told : change_known k memory z leaf fathers ≡ true → (answered_at_once z.op (memory leaf).entries ≡ false) × NoMore k memory z leaf fathers
  known_told h = (
    not-true asked (and_first (not asked) enough h),
    more_told z.op k memory z.beside leaf fathers (and_second (not asked) enough h),
  )

  pub known_from : (answered_at_once z.op (memory leaf).entries ≡ false) × NoMore k memory z leaf fathers → change_known k memory z leaf fathers ≡ true
  known_from (new, more) = and_both (not_of_false new) (more_from z.op k memory z.beside leaf fathers more)

-- ---- the order of conversion

-- siblings above the path do not count
turn_below : (below lower : List ℕ) (s : ℕ) → length below ≤ length lower → in_turn 0 below (lower ++ s ∷ []) ≡ in_turn 0 below lower
unfolding in_turn
turn_below [] lower s h = refl
turn_below (p ∷ below) lower s h =
    let inside : length below < length lower = omega arith in
    ap (λ (ps : List ℕ). p ∷ ps)
    (ap₂ (λ (a b : List ℕ). a ++ b)
    (cond-true (get_or (lower ++ s ∷ []) (length below) 0 ∷ []) [] (lt-ltb (length below) (length (lower ++ s ∷ [])) (omega (arith, length-append lower (s ∷ []))))
    ∙ ap (λ (q : ℕ). q ∷ []) (get_or-append lower (s ∷ []) 0 (length below) inside)
    ∙ sym (cond-true (get_or lower (length below) 0 ∷ []) [] (lt-ltb (length below) (length lower) inside)))
    (turn_below below lower s (omega arith)))

-- the top page alone, or with its sibling, and then those below
pub turn_alone : (top : ℕ) (below beside : List ℕ) → length beside ≤ length below → in_turn 0 (top ∷ below) beside ≡ top ∷ in_turn 0 below beside
unfolding in_turn
turn_alone top below beside h =
    ap (λ (ps : List ℕ). top ∷ (ps ++ in_turn 0 below beside)) (cond-false (get_or beside (length below) 0 ∷ []) [] (le-ltb (length below) (length beside) h))

pub turn_both : (top s : ℕ) (below lower : List ℕ) → length lower ≡ length below
    → in_turn 0 (top ∷ below) (lower ++ s ∷ []) ≡ top ∷ (s ∷ in_turn 0 below lower)
unfolding in_turn
turn_both top s below lower h =
    ap₂ (λ (ps qs : List ℕ). top ∷ (ps ++ qs))
    (cond-true (get_or (lower ++ s ∷ []) (length below) 0 ∷ []) [] (lt-ltb (length below) (length (lower ++ s ∷ [])) (omega (arith, length-append lower (s ∷ []))))
    ∙ ap (λ (q : ℕ). q ∷ []) (get_or_at lower s [] 0 (length below) h))
    (turn_below below lower s (omega (arith, h)))
