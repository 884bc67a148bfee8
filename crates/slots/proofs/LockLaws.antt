-- The table of kinds of lock, and a page held against the locks of the other slots.
use Prim.Native.Nat.{ℕ, zero, suc, ◌<◌}
use mathlib.Core.Bool.{Bool, true, false, not, ◌&&◌, ◌||◌}
use mathlib.Core.Logic.{◌⊎◌, inl, inr, ◌≢◌, ⊎_elim}
use mathlib.Core.Path.{◌≡◌, refl, sym, ap, ◌∙◌}
use mathlib.Core.List.{List, [], ◌∷◌, ◌++◌, map}
use native.Mathlib.Omega.{arith}
use lib.Dec.{eqb}
use lib.ListN.{length, get_or, take}
use borrow.Author.Tests.{eq-eqb, eqb-true, eqb-false, ne_eqb, not-true}
use Rattle.ground.specs.Limits.{slot_count}
use Rattle.ground.proofs.Bools.{not_both, false_if_not_true, same_if_true_together, and_first, and_second, and_both, or_first, or_second, or_cases, or_first_fails, or_second_fails, or_none, not_of_false}
use Rattle.ground.specs.Tests.{all, member, distinct}
use Rattle.ground.proofs.Choice.{by_test, cond-true, cond-false}
use Rattle.ground.proofs.Tests.{all_at, all_from, all_from_members, member_from, all_below_at, all_below_from}
use Rattle.slots.specs.declared.Op.{Op}
use Rattle.slots.specs.declared.Op.TheVariants.{Search, Insert, Delete, Next, Regrade}
use Rattle.slots.specs.declared.Way.TheVariants.{First, Second, Third}
use Rattle.slots.specs.declared.Lock.{Lock}
use Rattle.slots.specs.declared.Under.{Under}
use Rattle.slots.specs.declared.Lock.TheVariants.{None, Rho, Xi, UpdaterRho, Alpha}
use Rattle.slots.specs.declared.State.{State}
use Rattle.slots.specs.Operations.{held_lock, is_second, is_third, first_way}
use Rattle.slots.specs.Parts.{under, xi_on, with_xi, holds_at}
use Rattle.slots.specs.Locks.{lock_among, lock_held_at, same_lock, can_hold, can_want, clash, no_clash_on}
use Rattle.slots.specs.Heard.{lock_number}

-- ---- the table

-- it is symmetric
pub clash_swap : (a b : Lock) → clash a b ≡ clash b a
clash_swap None None = refl
clash_swap None Rho = refl
clash_swap None Xi = refl
clash_swap None UpdaterRho = refl
clash_swap None Alpha = refl
clash_swap Rho None = refl
clash_swap Rho Rho = refl
clash_swap Rho Xi = refl
clash_swap Rho UpdaterRho = refl
clash_swap Rho Alpha = refl
clash_swap Xi None = refl
clash_swap Xi Rho = refl
clash_swap Xi Xi = refl
clash_swap Xi UpdaterRho = refl
clash_swap Xi Alpha = refl
clash_swap UpdaterRho None = refl
clash_swap UpdaterRho Rho = refl
clash_swap UpdaterRho Xi = refl
clash_swap UpdaterRho UpdaterRho = refl
clash_swap UpdaterRho Alpha = refl
clash_swap Alpha None = refl
clash_swap Alpha Rho = refl
clash_swap Alpha Xi = refl
clash_swap Alpha UpdaterRho = refl
clash_swap Alpha Alpha = refl

-- a lock at all
abbrev pub is_lock : Lock → Bool
is_lock None = false
is_lock Rho = true
is_lock Xi = true
is_lock UpdaterRho = true
is_lock Alpha = true

-- "ξ goes with nothing"
pub xi_clashes : (a : Lock) → is_lock a ≡ true → clash a Xi ≡ true
xi_clashes None o = o
xi_clashes Rho o = refl
xi_clashes Xi o = refl
xi_clashes UpdaterRho o = refl
xi_clashes Alpha o = refl

-- "ρ goes with all but ξ"
pub clashes_rho : (a : Lock) → clash a Rho ≡ true → a ≡ Xi
clashes_rho None e = not_both e refl
clashes_rho Rho e = not_both e refl
clashes_rho Xi e = refl
clashes_rho UpdaterRho e = not_both e refl
clashes_rho Alpha e = not_both e refl

-- ---- the locks of slots

-- an open slot has a lock on what it holds
pub op_locks : (op : Op) → is_lock (held_lock op) ≡ true
op_locks (Search x) = refl
op_locks (Insert x v First) = refl
op_locks (Insert x v Second) = refl
op_locks (Insert x v Third) = refl
op_locks (Delete x First) = refl
op_locks (Delete x Second) = refl
op_locks (Delete x Third) = refl
op_locks (Next x) = refl
op_locks (Regrade x v First) = refl
op_locks (Regrade x v Second) = refl
op_locks (Regrade x v Third) = refl

-- the kind in the cell of a page, where the cells hold what goes by the page
pub among_map : (f : ℕ → Lock) (p : ℕ) (pages : List ℕ) → member p pages ≡ true → lock_among p pages (map (λ (q : ℕ). under (f q)) pages) ≡ f p
unfolding lock_among member
among_map f p [] m = not_both m refl
among_map f p (q ∷ pages) m =
    by_test (eqb p q)
    (λ e. cond-true (f q) (lock_among p pages (map (λ (r : ℕ). under (f r)) pages)) e ∙ ap f (sym (eqb-true p q e)))
    (λ e. cond-false (f q) (lock_among p pages (map (λ (r : ℕ). under (f r)) pages)) e ∙ among_map f p pages (sym (ap (λ (b : Bool). b || member p pages) e) ∙ m))

-- ---- the kind in the cell of a page

-- none, if the page is not there
pub among_none : (p : ℕ) (pages : List ℕ) (locks : List Under) → member p pages ≡ false → lock_among p pages locks ≡ None
unfolding lock_among member
among_none p [] locks f = refl
among_none p (q ∷ pages) [] f = refl
among_none p (q ∷ pages) (u ∷ locks) f =
    cond-false u.lock (lock_among p pages locks) (or_first_fails (eqb p q) (member p pages) f)
    ∙ among_none p pages locks (or_second_fails (eqb p q) (member p pages) f)

-- the kind in the first cell that has the page
pub among_at : (p : ℕ) (pages : List ℕ) (locks : List Under) (j : ℕ) → length locks ≡ length pages → j < length pages
    → get_or pages j 0 ≡ p → member p (take j pages) ≡ false → lock_among p pages locks ≡ (get_or locks j (under None)).lock
unfolding lock_among member
among_at p [] locks j same h e f = absurd (omega arith)
among_at p (q ∷ pages) [] j same h e f = absurd (omega arith)
among_at p (q ∷ pages) (u ∷ locks) zero same h e f = cond-true u.lock (lock_among p pages locks) (eq-eqb p q (sym e))
among_at p (q ∷ pages) (u ∷ locks) (suc j) same h e f =
    cond-false u.lock (lock_among p pages locks) (or_first_fails (eqb p q) (member p (take j pages)) f)
    ∙ among_at p pages locks j (omega arith) (omega arith) e (or_second_fails (eqb p q) (member p (take j pages)) f)

-- where no page stands twice, the kind of a page is that of its cell
pub among_once : (pages : List ℕ) (locks : List Under) (i : ℕ) → distinct pages ≡ true → i < length pages
    → lock_among (get_or pages i 0) pages locks ≡ (get_or locks i (under None)).lock
unfolding distinct lock_among
among_once [] locks i d b = absurd (omega arith)
among_once (q ∷ pages) [] zero d b = refl
among_once (q ∷ pages) [] (suc i) d b = refl
among_once (q ∷ pages) (u ∷ locks) zero d b = cond-true u.lock (lock_among q pages locks) (eq-eqb q q refl)
among_once (q ∷ pages) (u ∷ locks) (suc i) d b =
    let inside : i < length pages = omega arith in
    let apart = not-true (member q pages) (and_first (not (member q pages)) (distinct pages) d) in
    cond-false u.lock (lock_among (get_or pages i 0) pages locks)
    (ne_eqb (get_or pages i 0) q (λ e. not_both (member_from q pages i 0 inside e) apart))
    ∙ among_once pages locks i (and_second (not (member q pages)) (distinct pages) d) inside

-- a test that every kind passes, the kind of every page passes
pub among_passes : (test : Lock → Bool) (p : ℕ) (pages : List ℕ) (locks : List Under) → length locks ≡ length pages
    → all (λ (u : Under). test u.lock) locks ≡ true → member p pages ≡ true → test (lock_among p pages locks) ≡ true
unfolding lock_among member all
among_passes test p [] locks same t m = not_both m refl
among_passes test p (q ∷ pages) [] same t m = absurd (omega arith)
among_passes test p (q ∷ pages) (u ∷ locks) same t m =
    by_test (eqb p q)
    (λ e. ap test (cond-true u.lock (lock_among p pages locks) e) ∙ and_first (test u.lock) (all (λ (v : Under). test v.lock) locks) t)
    (λ e.
    ap test (cond-false u.lock (lock_among p pages locks) e)
    ∙ among_passes test p pages locks (omega arith) (and_second (test u.lock) (all (λ (v : Under). test v.lock) locks) t)
    (sym (ap (λ (b : Bool). b || member p pages) e) ∙ m))

-- and the other way round, where no page stands twice
pub among_every : (test : Lock → Bool) (pages : List ℕ) (locks : List Under) → length locks ≡ length pages → distinct pages ≡ true
    → all (λ (u : Under). test u.lock) locks ≡ all (λ (p : ℕ). test (lock_among p pages locks)) pages
among_every test pages locks same different =
    same_if_true_together (all (λ (u : Under). test u.lock) locks) (all (λ (p : ℕ). test (lock_among p pages locks)) pages)
    (λ t. all_from_members (λ (p : ℕ). test (lock_among p pages locks)) pages (λ p m. among_passes test p pages locks same t m))
    (λ t. all_from (λ (u : Under). test u.lock) locks (under None)
    (λ j h.
    let within : j < length pages = omega arith in
    sym (ap test (among_once pages locks j different within)) ∙ all_at (λ (p : ℕ). test (lock_among p pages locks)) pages 0 t j within))

-- cells behind others: the kind in the first ones, if the page is there, and else in those behind them
module _ (p : ℕ) (more : List ℕ) (others : List Under) where
  pub among_first : (pages : List ℕ) (locks : List Under) → length locks ≡ length pages → member p pages ≡ true
      → lock_among p (pages ++ more) (locks ++ others) ≡ lock_among p pages locks
  unfolding lock_among member
  among_first [] locks same m = not_both m refl
  among_first (q ∷ pages) [] same m = absurd (omega arith)
  among_first (q ∷ pages) (u ∷ locks) same m =
      by_test (eqb p q)
      (λ e. cond-true u.lock (lock_among p (pages ++ more) (locks ++ others)) e ∙ sym (cond-true u.lock (lock_among p pages locks) e))
      (λ e.
      cond-false u.lock (lock_among p (pages ++ more) (locks ++ others)) e
      ∙ among_first pages locks (omega arith) (sym (ap (λ (b : Bool). b || member p pages) e) ∙ m)
      ∙ sym (cond-false u.lock (lock_among p pages locks) e))

  pub among_behind : (pages : List ℕ) (locks : List Under) → length locks ≡ length pages → member p pages ≡ false
      → lock_among p (pages ++ more) (locks ++ others) ≡ lock_among p more others
  unfolding lock_among member
  among_behind [] [] same f = refl
  among_behind [] (u ∷ locks) same f = absurd (omega arith)
  among_behind (q ∷ pages) [] same f = absurd (omega arith)
  among_behind (q ∷ pages) (u ∷ locks) same f =
      cond-false u.lock (lock_among p (pages ++ more) (locks ++ others)) (or_first_fails (eqb p q) (member p pages) f)
      ∙ among_behind pages locks (omega arith) (or_second_fails (eqb p q) (member p pages) f)

-- ---- the second way

-- who goes by the second way holds with updater's ρ
pub second_rho : (op : Op) → is_second op ≡ true → held_lock op ≡ UpdaterRho
second_rho (Search x) e = not_both e refl
second_rho (Insert x v First) e = not_both e refl
second_rho (Insert x v Second) e = refl
second_rho (Insert x v Third) e = not_both e refl
second_rho (Delete x First) e = not_both e refl
second_rho (Delete x Second) e = refl
second_rho (Delete x Third) e = not_both e refl
second_rho (Next x) e = not_both e refl
second_rho (Regrade x v First) e = not_both e refl
second_rho (Regrade x v Second) e = refl
second_rho (Regrade x v Third) e = not_both e refl

-- by the first way an operation is the same, or one of the first way
pub first_not_second : (op : Op) → is_second (first_way op) ≡ false
first_not_second (Search x) = refl
first_not_second (Insert x v way) = refl
first_not_second (Delete x way) = refl
first_not_second (Next x) = refl
first_not_second (Regrade x v way) = refl

pub first_not_third : (op : Op) → is_third (first_way op) ≡ false
first_not_third (Search x) = refl
first_not_third (Insert x v way) = refl
first_not_third (Delete x way) = refl
first_not_third (Next x) = refl
first_not_third (Regrade x v way) = refl

pub first_same : (op : Op) → is_second op ≡ false → is_third op ≡ false → first_way op ≡ op
first_same (Search x) e f = refl
first_same (Insert x v First) e f = refl
first_same (Insert x v Second) e f = not_both refl e
first_same (Insert x v Third) e f = not_both refl f
first_same (Delete x First) e f = refl
first_same (Delete x Second) e f = not_both refl e
first_same (Delete x Third) e f = not_both refl f
first_same (Next x) e f = refl
first_same (Regrade x v First) e f = refl
first_same (Regrade x v Second) e f = not_both refl e
first_same (Regrade x v Third) e f = not_both refl f

pub first_twice : (op : Op) → first_way (first_way op) ≡ first_way op
first_twice op = first_same (first_way op) (first_not_second op) (first_not_third op)

-- ---- the third way

-- who goes by the third way goes down with α, and not by the second
pub third_alpha : (op : Op) → is_third op ≡ true → held_lock op ≡ Alpha
third_alpha (Search x) e = not_both e refl
third_alpha (Insert x v First) e = not_both e refl
third_alpha (Insert x v Second) e = not_both e refl
third_alpha (Insert x v Third) e = refl
third_alpha (Delete x First) e = not_both e refl
third_alpha (Delete x Second) e = not_both e refl
third_alpha (Delete x Third) e = refl
third_alpha (Next x) e = not_both e refl
third_alpha (Regrade x v First) e = not_both e refl
third_alpha (Regrade x v Second) e = not_both e refl
third_alpha (Regrade x v Third) e = refl

pub third_not_second : (op : Op) → is_third op ≡ true → is_second op ≡ false
third_not_second (Search x) e = refl
third_not_second (Insert x v First) e = refl
third_not_second (Insert x v Second) e = not_both e refl
third_not_second (Insert x v Third) e = refl
third_not_second (Delete x First) e = refl
third_not_second (Delete x Second) e = not_both e refl
third_not_second (Delete x Third) e = refl
third_not_second (Next x) e = refl
third_not_second (Regrade x v First) e = refl
third_not_second (Regrade x v Second) e = not_both e refl
third_not_second (Regrade x v Third) e = refl

-- nobody goes down by the third way with ξ
pub third_not_xi : (op : Op) → is_third op && same_lock (held_lock op) Xi ≡ false
third_not_xi (Search x) = refl
third_not_xi (Insert x v First) = refl
third_not_xi (Insert x v Second) = refl
third_not_xi (Insert x v Third) = refl
third_not_xi (Delete x First) = refl
third_not_xi (Delete x Second) = refl
third_not_xi (Delete x Third) = refl
third_not_xi (Next x) = refl
third_not_xi (Regrade x v First) = refl
third_not_xi (Regrade x v Second) = refl
third_not_xi (Regrade x v Third) = refl

-- a page converted has ξ, and the others the kind that they had
pub xi_there : (p : ℕ) (pages : List ℕ) (locks : List Under) → length locks ≡ length pages → member p pages ≡ true → lock_among p pages (with_xi p pages locks) ≡ Xi
unfolding lock_among with_xi member
xi_there p [] locks e m = not_both m refl
xi_there p (q ∷ pages) [] e m = absurd (omega (arith, e))
xi_there p (q ∷ pages) (u ∷ locks) e m =
    by_test (eqb p q)
    (λ y. cond-true _ _ y ∙ ap (λ (v : Under). v.lock) (cond-true (under Xi) u y))
    (λ n. cond-false _ _ n ∙ xi_there p pages locks (omega (arith, e)) (sym (ap (λ (b : Bool). b || member p pages) n) ∙ m))

pub xi_elsewhere : (p q : ℕ) (pages : List ℕ) (locks : List Under) → q ≢ p → lock_among q pages (with_xi p pages locks) ≡ lock_among q pages locks
unfolding lock_among with_xi
xi_elsewhere p q [] locks n = refl
xi_elsewhere p q (r ∷ pages) [] n = refl
xi_elsewhere p q (r ∷ pages) (u ∷ locks) n =
    by_test (eqb q r)
    (λ y.
    cond-true _ _ y
    ∙ ap (λ (v : Under). v.lock) (cond-false (under Xi) u (ne_eqb p r (λ e. n (eqb-true q r y ∙ sym e))))
    ∙ sym (cond-true u.lock (lock_among q pages locks) y))
    (λ o. cond-false _ _ o ∙ xi_elsewhere p q pages locks n ∙ sym (cond-false u.lock (lock_among q pages locks) o))

-- one page more
pub xi_snoc : (p : ℕ) (pages : List ℕ) (locks : List Under) (q : ℕ) (u : Under) → length locks ≡ length pages
    → with_xi p (pages ++ q ∷ []) (locks ++ u ∷ []) ≡ with_xi p pages locks ++ xi_on p q u ∷ []
unfolding with_xi
xi_snoc p [] [] q u e = refl
xi_snoc p [] (v ∷ locks) q u e = absurd (omega (arith, e))
xi_snoc p (r ∷ pages) [] q u e = absurd (omega (arith, e))
xi_snoc p (r ∷ pages) (v ∷ locks) q u e = ap (λ (l : List Under). xi_on p r v ∷ l) (xi_snoc p pages locks q u (omega (arith, e)))

pub length_xi : (p : ℕ) (pages : List ℕ) (locks : List Under) → length locks ≡ length pages → length (with_xi p pages locks) ≡ length pages
unfolding with_xi
length_xi p [] locks e = e
length_xi p (q ∷ pages) [] e = e
length_xi p (q ∷ pages) (u ∷ locks) e = ap suc (length_xi p pages locks (omega (arith, e)))

-- ---- the kinds apart

-- the kind whose number is that of ξ
pub is_xi : (l : Lock) → eqb (lock_number l) (lock_number Xi) ≡ true → l ≡ Xi
is_xi None e = not_both e refl
is_xi Rho e = not_both e refl
is_xi Xi e = refl
is_xi UpdaterRho e = not_both e refl
is_xi Alpha e = not_both e refl

-- ξ is another kind than none, ρ and updater's ρ
pub none_not_xi : None ≡ Xi → ⊥
none_not_xi e = let z : ◌≡◌ {A = ℕ} 0 2 = ap lock_number e in omega arith

pub rho_not_xi : Rho ≡ Xi → ⊥
rho_not_xi e = let z : ◌≡◌ {A = ℕ} 1 2 = ap lock_number e in omega arith

pub updater_not_xi : UpdaterRho ≡ Xi → ⊥
updater_not_xi e = let z : ◌≡◌ {A = ℕ} 3 2 = ap lock_number e in omega arith

pub alpha_not_xi : Alpha ≡ Xi → ⊥
alpha_not_xi e = let z : ◌≡◌ {A = ℕ} 4 2 = ap lock_number e in omega arith

-- kinds of one number are the same
pub same_lock_lem : (a b : Lock) → same_lock a b ≡ true → a ≡ b
same_lock_lem None None e = refl
same_lock_lem None Rho e = not_both e refl
same_lock_lem None Xi e = not_both e refl
same_lock_lem None UpdaterRho e = not_both e refl
same_lock_lem None Alpha e = not_both e refl
same_lock_lem Rho None e = not_both e refl
same_lock_lem Rho Rho e = refl
same_lock_lem Rho Xi e = not_both e refl
same_lock_lem Rho UpdaterRho e = not_both e refl
same_lock_lem Rho Alpha e = not_both e refl
same_lock_lem Xi None e = not_both e refl
same_lock_lem Xi Rho e = not_both e refl
same_lock_lem Xi Xi e = refl
same_lock_lem Xi UpdaterRho e = not_both e refl
same_lock_lem Xi Alpha e = not_both e refl
same_lock_lem UpdaterRho None e = not_both e refl
same_lock_lem UpdaterRho Rho e = not_both e refl
same_lock_lem UpdaterRho Xi e = not_both e refl
same_lock_lem UpdaterRho UpdaterRho e = refl
same_lock_lem UpdaterRho Alpha e = not_both e refl
same_lock_lem Alpha None e = not_both e refl
same_lock_lem Alpha Rho e = not_both e refl
same_lock_lem Alpha Xi e = not_both e refl
same_lock_lem Alpha UpdaterRho e = not_both e refl
same_lock_lem Alpha Alpha e = refl

pub lock_same : (a : Lock) → same_lock a a ≡ true
lock_same None = refl
lock_same Rho = refl
lock_same Xi = refl
lock_same UpdaterRho = refl
lock_same Alpha = refl

-- an operation holds every page under the kind with which it goes down, or by the third way with ξ
pub can_hold_lem : (op : Op) (lock : Lock) → can_hold op lock ≡ true → (lock ≡ held_lock op) ⊎ ((is_third op ≡ true) × (lock ≡ Xi))
can_hold_lem op lock e =
    ⊎_elim
    (λ h. inl (same_lock_lem lock (held_lock op) h))
    (λ h. inr (and_first (is_third op) (same_lock lock Xi) h, same_lock_lem lock Xi (and_second (is_third op) (same_lock lock Xi) h)))
    (or_cases (same_lock lock (held_lock op)) (is_third op && same_lock lock Xi) e)

pub can_hold_held : (op : Op) → can_hold op (held_lock op) ≡ true
can_hold_held op = or_first (is_third op && same_lock (held_lock op) Xi) (lock_same (held_lock op))

pub can_hold_xi : (op : Op) → is_third op ≡ true → can_hold op Xi ≡ true
can_hold_xi op third = or_second (same_lock Xi (held_lock op)) (and_both third (lock_same Xi))

pub can_hold_locks : (op : Op) (lock : Lock) → can_hold op lock ≡ true → is_lock lock ≡ true
can_hold_locks op lock e = ⊎_elim (λ h. ap is_lock h ∙ op_locks op) (λ h. ap is_lock h.1) (can_hold_lem op lock e)

-- an operation can want the kind with which it goes down
pub can_want_held : (op : Op) → can_want op (held_lock op) ≡ true
can_want_held op = or_first ((is_second op || is_third op) && same_lock (held_lock op) Xi) (lock_same (held_lock op))

-- by the second and the third way ξ too
pub can_want_xi : (op : Op) → is_second op || is_third op ≡ true → can_want op Xi ≡ true
can_want_xi op other = or_second (same_lock Xi (held_lock op)) (and_both other (lock_same Xi))

-- and nothing else
pub can_want_lem : (op : Op) (lock : Lock) → can_want op lock ≡ true → (lock ≡ held_lock op) ⊎ ((is_second op || is_third op ≡ true) × (lock ≡ Xi))
can_want_lem op lock e =
    ⊎_elim
    (λ h. inl (same_lock_lem lock (held_lock op) h))
    (λ h. inr (and_first (is_second op || is_third op) (same_lock lock Xi) h, same_lock_lem lock Xi (and_second (is_second op || is_third op) (same_lock lock Xi) h)))
    (or_cases (same_lock lock (held_lock op)) ((is_second op || is_third op) && same_lock lock Xi) e)

-- who goes by neither wants no other
pub wants_held : (op : Op) (lock : Lock) → is_second op ≡ false → is_third op ≡ false → can_want op lock ≡ true → lock ≡ held_lock op
wants_held op lock first only e =
    ⊎_elim (λ h. h) (λ h. not_both h.0 (or_none first only)) (can_want_lem op lock e)

-- what can be wanted is a lock
pub can_want_locks : (op : Op) (lock : Lock) → can_want op lock ≡ true → is_lock lock ≡ true
can_want_locks op lock e = ⊎_elim (λ h. ap is_lock h ∙ op_locks op) (λ h. ap is_lock h.1) (can_want_lem op lock e)

-- ---- one page and the other slots

module _ (st : State) (s p : ℕ) (lock : Lock) where
  abbrev test : ℕ → Bool
  test t = eqb t s || not (holds_at st t p && clash (lock_held_at st t p) lock)

  pub others_go : no_clash_on st s p lock ≡ true → (t : ℕ) → t < slot_count → t ≢ s → holds_at st t p ≡ true → clash (lock_held_at st t p) lock ≡ false
  others_go e t b n h =
      let clashes = clash (lock_held_at st t p) lock in
      ⊎_elim
      (λ q. not_both q (ne_eqb t s n))
      (λ q. false_if_not_true clashes (λ c. not_both (and_both h c) (not-true (holds_at st t p && clashes) q)))
      (or_cases (eqb t s) (not (holds_at st t p && clashes)) (all_below_at test slot_count e t b))

  pub others_go_from : ((t : ℕ) → t < slot_count → t ≢ s → holds_at st t p ≡ true → clash (lock_held_at st t p) lock ≡ false) → no_clash_on st s p lock ≡ true
  others_go_from f =
      all_below_from test slot_count
      (λ t b.
      let clashes = clash (lock_held_at st t p) lock in
      by_test (eqb t s)
      (λ e. or_first (not (holds_at st t p && clashes)) e)
      (λ e. or_second (eqb t s)
      (not_of_false (false_if_not_true (holds_at st t p && clashes) (λ both.
      both_fail (holds_at st t p) clashes both (f t b (eqb-false t s e)))))))
    where
      both_fail : (a c : Bool) → a && c ≡ true → (a ≡ true → c ≡ false) → ⊥
      both_fail true c e g = not_both e (g refl)
      both_fail false c e g = not_both e refl
