-- Pages and their kinds of lock in the order of conversion: ξ on what was converted, α on the want and what stands behind it. Of a slot that holds no
-- page twice, and has a kind for every page.
use Prim.Native.Nat.{ℕ}
use mathlib.Core.Bool.{true, not}
use mathlib.Core.List.{List, [], ◌∷◌, ◌++◌, map}
use mathlib.Core.Logic.{⊎_elim}
use mathlib.Core.Path.{◌≡◌, refl, sym, ap, ap₂, subst, ◌∙◌}
use native.Mathlib.Omega.{arith}
use borrow.Author.Tests.{eqb-true, eq-eqb, ne_eqb, not-true}
use lib.ListN.{length}
use Rattle.ground.specs.Tests.{all, member, distinct}
use Rattle.ground.proofs.Bools.{not_both, false_if_not_true, and_first, and_second}
use Rattle.ground.proofs.Choice.{by_test, cond-true, cond-false}
use Rattle.ground.proofs.Tests.{member_none, member_cases, member_from, distinct_front, distinct_back, distinct_apart, apart_member}
use Rattle.slots.specs.declared.Lock.{Lock}
use Rattle.slots.specs.declared.Lock.TheVariants.{None, Xi, Alpha}
use Rattle.slots.specs.declared.Under.{Under}
use Rattle.slots.specs.Parts.{under, Stand, holding, holding_locks}
use Rattle.slots.specs.Locks.{lock_among, lock_in, same_lock}
use Rattle.slots.proofs.Keeping.{Paired}
use Rattle.slots.proofs.LockLaws.{among_first, among_behind, among_once, same_lock_lem}
use Rattle.footing.specs.Granted.{in_turn, pages_in_turn, locks_in_turn, unconverted}
use Rattle.footing.specs.Fitting.{xi_then_alpha, is_first}
use Rattle.runs.proofs.Locking.{all_due}
use Rattle.runs.proofs.Turns.{locks_turn}
use Rattle.promises.specs.Terms.{HeldHere}
use Rattle.promises.proofs.Terms.{among_at}

-- ---- kinds that go by the page

-- kinds in cells, where no page stands twice
kinds_by : (pages : List ℕ) (locks : List Under) → length locks ≡ length pages → distinct pages ≡ true
    → locks ≡ map (λ (p : ℕ). under (lock_among p pages locks)) pages
unfolding distinct lock_among
kinds_by [] [] e d = refl
kinds_by [] (u ∷ locks) e d = absurd (omega (arith, e))
kinds_by (q ∷ pages) [] e d = absurd (omega (arith, e))
kinds_by (q ∷ pages) (u ∷ locks) e d =
    let new = not-true (member q pages) (and_first (not (member q pages)) (distinct pages) d) in
    ap₂ (λ (v : Under) (vs : List Under). v ∷ vs)
    (ap under (sym (cond-true u.lock (lock_among q pages locks) (eq-eqb q q refl))))
    (kinds_by pages locks (omega (arith, e)) (and_second (not (member q pages)) (distinct pages) d)
    ∙ all_due (λ (p : ℕ). lock_among p pages locks) (λ (p : ℕ). lock_among p (q ∷ pages) (u ∷ locks)) pages
    (λ p m. sym (cond-false u.lock (lock_among p pages locks) (ne_eqb p q (λ s. not_both (subst (λ (r : ℕ). member r pages ≡ true) s m) new)))))

-- the kind of a page that a slot holds, as a cell
abbrev pub kind_in : Stand → ℕ → Under
kind_in z p = under (lock_in z p)

module _ (z : Stand) (paired : Paired z) (different : distinct (holding z) ≡ true) where
  path_kinds : z.locks ≡ map (kind_in z) z.path
  path_kinds =
      kinds_by z.path z.locks paired.path (distinct_front z.path z.beside different)
      ∙ all_due (λ (p : ℕ). lock_among p z.path z.locks) (lock_in z) z.path
      (λ p m. sym (among_first p z.beside z.sidelocks z.path z.locks paired.path m))

  beside_kinds : z.sidelocks ≡ map (kind_in z) z.beside
  beside_kinds =
      kinds_by z.beside z.sidelocks paired.beside (distinct_back z.path z.beside different)
      ∙ all_due (λ (p : ℕ). lock_among p z.beside z.sidelocks) (lock_in z) z.beside
      (λ p m. sym (among_behind p z.beside z.sidelocks z.path z.locks paired.path
      (false_if_not_true (member p z.path) (λ o. not_both m (apart_member z.path z.beside (distinct_apart z.path z.beside different) p o)))))

  -- the kinds in the order of conversion are those of the pages in this order
  pub turn_kinds_by : locks_in_turn z ≡ map (kind_in z) (pages_in_turn z)
  turn_kinds_by =
      ap₂ (λ (ls ss : List Under). in_turn (under None) ls ss) path_kinds beside_kinds ∙ locks_turn (kind_in z) z.path z.beside

-- ---- the kind of a held page

pub held_here : (z : Stand) (p : ℕ) → member p (holding z) ≡ true → HeldHere z p (lock_in z p)
held_here z p m = among_at p (holding z) (holding_locks z) m

pub here_held : (z : Stand) (p : ℕ) (lock : Lock) → HeldHere z p lock → member p (holding z) ≡ true
here_held z p lock (i, b, e, _) = member_from p (holding z) i 0 b e

pub here_kind : (z : Stand) (p : ℕ) (lock : Lock) → distinct (holding z) ≡ true → HeldHere z p lock → lock_in z p ≡ lock
here_kind z p lock d (i, b, e, k) =
    subst (λ (q : ℕ). lock_among q (holding z) (holding_locks z) ≡ lock) e (among_once (holding z) (holding_locks z) i d b ∙ k)

-- ---- where the first kind stands that is not ξ

-- Pages in turn, parted before this one: those before it have ξ, it and those behind it α.
pub record Parted (kind : ℕ → Under) (want : ℕ) (pages : List ℕ) : Type 0 where
  pub done : List ℕ
  pub rest : List ℕ
  pub turns : pages ≡ done ++ want ∷ rest
  pub converted : (p : ℕ) → member p done ≡ true → (kind p).lock ≡ Xi
  pub left : (p : ℕ) → member p (want ∷ rest) ≡ true → (kind p).lock ≡ Alpha

all_alpha : (kind : ℕ → Under) (pages : List ℕ) → all (λ (u : Under). same_lock u.lock Alpha) (map kind pages) ≡ true
    → (p : ℕ) → member p pages ≡ true → (kind p).lock ≡ Alpha
unfolding all
all_alpha kind [] h p m = not_both m (member_none p)
all_alpha kind (q ∷ pages) h p m =
    let here = same_lock (kind q).lock Alpha in
    let behind = all (λ (u : Under). same_lock u.lock Alpha) (map kind pages) in
    ⊎_elim
    (λ e. ap (λ (r : ℕ). (kind r).lock) e ∙ same_lock_lem (kind q).lock Alpha (and_first here behind h))
    (all_alpha kind pages (and_second here behind h) p)
    (member_cases p q pages m)

pub turn_parted : (kind : ℕ → Under) (want : ℕ) (pages : List ℕ) → xi_then_alpha (map kind pages) ≡ true
    → is_first want (unconverted pages (map kind pages)) ≡ true → Parted kind want pages
unfolding xi_then_alpha unconverted
turn_parted kind want [] kinds first = not_both first refl
turn_parted kind want (q ∷ pages) kinds first =
    by_test (same_lock (kind q).lock Xi)
    (λ y.
    let s = turn_parted kind want pages (sym (cond-true _ _ y) ∙ kinds) (sym (ap (is_first want) (cond-true _ _ y)) ∙ first) in
    record {
      done = q ∷ s.done;
      rest = s.rest;
      turns = ap (λ (ps : List ℕ). q ∷ ps) s.turns;
      converted = λ p m.
          ⊎_elim
          (λ e. ap (λ (r : ℕ). (kind r).lock) e ∙ same_lock_lem (kind q).lock Xi y)
          (s.converted p)
          (member_cases p q s.done m);
      left = s.left;
    })
    (λ n.
    let here : q ≡ want = eqb-true q want (sym (ap (is_first want) (cond-false _ _ n)) ∙ first) in
    record {
      done = [];
      rest = pages;
      turns = ap (λ (p : ℕ). p ∷ pages) here;
      converted = λ p m. not_both m (member_none p);
      left = subst (λ (r : ℕ). (p : ℕ) → member p (r ∷ pages) ≡ true → (kind p).lock ≡ Alpha) here
          (all_alpha kind (q ∷ pages) (sym (cond-false _ _ n) ∙ kinds));
    })
