-- The plain terms and the tests of the rules: one gives the other.
use Prim.Native.Nat.{ℕ, suc, ◌<◌}
use mathlib.Core.Bool.{Bool, true, false, ◌&&◌, ◌||◌, false≢true}
use mathlib.Core.List.{List, [], ◌∷◌, reverse}
use mathlib.Core.Path.{◌≡◌, refl, sym, ap, subst, ◌∙◌}
use native.Mathlib.Omega.{arith}
use lib.Dec.{eqb}
use lib.ListN.{length, get_or, length-reverse}
use borrow.Author.Tests.{eqb-true, eq-eqb}
use Rattle.ground.specs.Limits.{slot_count, blank_key}
use Rattle.ground.specs.Tests.{member, distinct}
use Rattle.ground.proofs.Bools.{not_both, false_if_not_true, and_first, and_second, and_both}
use Rattle.ground.proofs.Choice.{by_test, cond-true, cond-false}
use Rattle.ground.proofs.Tests.{member_from, member_at}
use Rattle.page.specs.Words.{Page}
use Rattle.slots.specs.declared.Op.{Op}
use Rattle.slots.specs.declared.Op.TheVariants.{Search, Insert, Delete, Next, Regrade}
use Rattle.slots.specs.declared.Way.TheVariants.{First, Second, Third}
use Rattle.slots.specs.declared.Lock.{Lock}
use Rattle.slots.specs.declared.Lock.TheVariants.{None, Rho, Xi, UpdaterRho, Alpha}
use Rattle.slots.specs.declared.Under.{Under}
use Rattle.slots.specs.declared.State.{State}
use Rattle.slots.specs.Operations.{blank_tag}
use Rattle.slots.specs.Parts.{is_second, is_third, held_lock, held, held_locks, under, Stand, stand, holding, converting, slot_at, holds_at}
use Rattle.slots.specs.Locks.{lock_among, lock_held_at, clash}
use Rattle.slots.proofs.SoundFacts.{SoundState}
use Rattle.slots.proofs.GrantLaws.{holder_open}
use Rattle.slots.proofs.LockLaws.{among_once, rho_not_xi, updater_not_xi, alpha_not_xi}
use Rattle.footing.specs.Fitting.{lock_due}
use Rattle.promises.specs.Terms.{Exactly, In, Blank, GoTogether, HoldsAs, GoesWith, ByFirst, BySecond, ByThird, ConvertsHere, AboveItsLeaf, WantsAs}

-- what stands in a list is a member of it (`member_at` is the way back)
pub in_member : (x : ℕ) (xs : List ℕ) → In x xs → member x xs ≡ true
in_member x xs (i, b, e) = member_from x xs i 0 b e

-- ---- the blank tag

key_blank : (x : ℕ) → Exactly (eqb x blank_key ≡ true) (x ≡ blank_key)
key_blank x = (eqb-true x blank_key, eq-eqb x blank_key)

-- the rule's test passes just those operations that 02 (viii) names
pub blank_is : (op : Op) → Exactly (blank_tag op ≡ true) (Blank op)
unfolding blank_tag
blank_is (Search x) = key_blank x
blank_is (Insert x v First) = key_blank x
blank_is (Insert x v Second) = key_blank x
blank_is (Insert x v Third) = key_blank x
blank_is (Delete x First) = key_blank x
blank_is (Delete x Second) = key_blank x
blank_is (Delete x Third) = key_blank x
blank_is (Next x) = ((λ t. false≢true t), (λ b. absurd b))
blank_is (Regrade x v First) = key_blank x
blank_is (Regrade x v Second) = key_blank x
blank_is (Regrade x v Third) = key_blank x

pub unblank_is : (op : Op) → (Blank op → ⊥) → blank_tag op ≡ false
unblank_is op never = false_if_not_true (blank_tag op) (λ t. never ((blank_is op).0 t))

-- ---- kinds of lock

-- the rule's table is 02's
pub together_told : (a b : Lock) → Exactly (clash a b ≡ false) (GoTogether a b)
together_told None None = (λ _. tt, λ _. refl)
together_told None Rho = (λ _. tt, λ _. refl)
together_told None Xi = (λ _. tt, λ _. refl)
together_told None UpdaterRho = (λ _. tt, λ _. refl)
together_told None Alpha = (λ _. tt, λ _. refl)
together_told Rho None = (λ _. tt, λ _. refl)
together_told Rho Rho = (λ _. tt, λ _. refl)
together_told Rho Xi = (λ e. not_both refl e, λ g. absurd g)
together_told Rho UpdaterRho = (λ _. tt, λ _. refl)
together_told Rho Alpha = (λ _. tt, λ _. refl)
together_told Xi None = (λ _. tt, λ _. refl)
together_told Xi Rho = (λ e. not_both refl e, λ g. absurd g)
together_told Xi Xi = (λ e. not_both refl e, λ g. absurd g)
together_told Xi UpdaterRho = (λ e. not_both refl e, λ g. absurd g)
together_told Xi Alpha = (λ e. not_both refl e, λ g. absurd g)
together_told UpdaterRho None = (λ _. tt, λ _. refl)
together_told UpdaterRho Rho = (λ _. tt, λ _. refl)
together_told UpdaterRho Xi = (λ e. not_both refl e, λ g. absurd g)
together_told UpdaterRho UpdaterRho = (λ _. tt, λ _. refl)
together_told UpdaterRho Alpha = (λ e. not_both refl e, λ g. absurd g)
together_told Alpha None = (λ _. tt, λ _. refl)
together_told Alpha Rho = (λ _. tt, λ _. refl)
together_told Alpha Xi = (λ e. not_both refl e, λ g. absurd g)
together_told Alpha UpdaterRho = (λ e. not_both refl e, λ g. absurd g)
together_told Alpha Alpha = (λ e. not_both refl e, λ g. absurd g)

pub clash_apart : (a b : Lock) → clash a b ≡ true → GoTogether a b → ⊥
clash_apart a b c g = not_both c ((together_told a b).1 g)

pub apart_clash : (a b : Lock) → (GoTogether a b → ⊥) → clash a b ≡ true
apart_clash a b never = by_test (clash a b) (λ c. c) (λ f. absurd (never ((together_told a b).0 f)))

-- the kind with which an operation goes down
pub goes_with : (op : Op) → GoesWith op (held_lock op)
goes_with (Search x) = refl
goes_with (Insert x v First) = refl
goes_with (Insert x v Second) = refl
goes_with (Insert x v Third) = refl
goes_with (Delete x First) = refl
goes_with (Delete x Second) = refl
goes_with (Delete x Third) = refl
goes_with (Next x) = refl
goes_with (Regrade x v First) = refl
goes_with (Regrade x v Second) = refl
goes_with (Regrade x v Third) = refl

pub with_goes : (op : Op) (lock : Lock) → GoesWith op lock → lock ≡ held_lock op
with_goes (Search x) lock e = e
with_goes (Insert x v First) lock e = e
with_goes (Insert x v Second) lock e = e
with_goes (Insert x v Third) lock e = e
with_goes (Delete x First) lock e = e
with_goes (Delete x Second) lock e = e
with_goes (Delete x Third) lock e = e
with_goes (Next x) lock e = e
with_goes (Regrade x v First) lock e = e
with_goes (Regrade x v Second) lock e = e
with_goes (Regrade x v Third) lock e = e

pub kind_is : (op : Op) (lock : Lock) → Exactly (lock ≡ held_lock op) (GoesWith op lock)
kind_is op lock = ((λ e. subst (GoesWith op) (sym e) (goes_with op)), with_goes op lock)

-- who goes down with ξ updates by the first way
pub xi_first : (op : Op) → held_lock op ≡ Xi → ByFirst op
xi_first (Search x) e = absurd (rho_not_xi e)
xi_first (Insert x v First) e = tt
xi_first (Insert x v Second) e = absurd (updater_not_xi e)
xi_first (Insert x v Third) e = absurd (alpha_not_xi e)
xi_first (Delete x First) e = tt
xi_first (Delete x Second) e = absurd (updater_not_xi e)
xi_first (Delete x Third) e = absurd (alpha_not_xi e)
xi_first (Next x) e = absurd (rho_not_xi e)
xi_first (Regrade x v First) e = tt
xi_first (Regrade x v Second) e = absurd (updater_not_xi e)
xi_first (Regrade x v Third) e = absurd (alpha_not_xi e)

-- the kind in the cell of a page: the first cell that has it,
pub among_at : (p : ℕ) (pages : List ℕ) (locks : List Under) → member p pages ≡ true
    → (i : ℕ) × (i < length pages) × (get_or pages i 0 ≡ p) × ((get_or locks i (under None)).lock ≡ lock_among p pages locks)
unfolding member lock_among
among_at p [] locks m = not_both m refl
among_at p (q ∷ pages) [] m = let (i, b, e) = member_at p (q ∷ pages) 0 m in (i, b, e, refl)
among_at p (q ∷ pages) (u ∷ locks) m =
    by_test (eqb p q)
    (λ e. (0, omega arith, sym (eqb-true p q e), sym (cond-true u.lock (lock_among p pages locks) e)))
    (λ e.
    let (i, b, at, kind) = among_at p pages locks (sym (ap (λ (h : Bool). h || member p pages) e) ∙ m) in
    (suc i, omega arith, at, kind ∙ sym (cond-false u.lock (lock_among p pages locks) e)))

-- what a slot holds it holds with the kind that the rule reads
pub holds_as : (st : State) (s p : ℕ) → holds_at st s p ≡ true → HoldsAs st s p (lock_held_at st s p)
holds_as st s p h = among_at p (held (slot_at st s)) (held_locks (slot_at st s)) h

pub as_held : (st : State) (s p : ℕ) (lock : Lock) → HoldsAs st s p lock → holds_at st s p ≡ true
as_held st s p lock (i, b, e, _) = member_from p (held (slot_at st s)) i 0 b e

pub as_kind : (st : State) (s p : ℕ) (lock : Lock) → distinct (held (slot_at st s)) ≡ true → HoldsAs st s p lock → lock_held_at st s p ≡ lock
as_kind st s p lock d (i, b, e, k) =
    subst (λ (q : ℕ). lock_among q (held (slot_at st s)) (held_locks (slot_at st s)) ≡ lock) e (among_once (held (slot_at st s)) (held_locks (slot_at st s)) i d b ∙ k)

-- in a sound state no slot holds a page twice
pub held_once : (st : State) → SoundState st → (s : ℕ) → s < slot_count → (p : ℕ) → holds_at st s p ≡ true → distinct (held (slot_at st s)) ≡ true
held_once st f s b p h = (f.slot s b).different (holder_open st.n (slot_at st s) p (f.slot s b) h)

pub sound_kind : (st : State) → SoundState st → (s p : ℕ) (lock : Lock) → s < slot_count → HoldsAs st s p lock → lock_held_at st s p ≡ lock
sound_kind st f s p lock b h = as_kind st s p lock (held_once st f s b p (as_held st s p lock h)) h

-- ---- the second way

pub second_named : (op : Op) → is_second op ≡ true → BySecond op
second_named (Search x) e = absurd (false≢true e)
second_named (Insert x v First) e = absurd (false≢true e)
second_named (Insert x v Second) e = tt
second_named (Insert x v Third) e = absurd (false≢true e)
second_named (Delete x First) e = absurd (false≢true e)
second_named (Delete x Second) e = tt
second_named (Delete x Third) e = absurd (false≢true e)
second_named (Next x) e = absurd (false≢true e)
second_named (Regrade x v First) e = absurd (false≢true e)
second_named (Regrade x v Second) e = tt
second_named (Regrade x v Third) e = absurd (false≢true e)

pub named_second : (op : Op) → BySecond op → is_second op ≡ true
named_second (Search x) b = absurd b
named_second (Insert x v First) b = absurd b
named_second (Insert x v Second) b = refl
named_second (Insert x v Third) b = absurd b
named_second (Delete x First) b = absurd b
named_second (Delete x Second) b = refl
named_second (Delete x Third) b = absurd b
named_second (Next x) b = absurd b
named_second (Regrade x v First) b = absurd b
named_second (Regrade x v Second) b = refl
named_second (Regrade x v Third) b = absurd b

-- ---- the third way

pub third_named : (op : Op) → is_third op ≡ true → ByThird op
third_named (Search x) e = absurd (false≢true e)
third_named (Insert x v First) e = absurd (false≢true e)
third_named (Insert x v Second) e = absurd (false≢true e)
third_named (Insert x v Third) e = tt
third_named (Delete x First) e = absurd (false≢true e)
third_named (Delete x Second) e = absurd (false≢true e)
third_named (Delete x Third) e = tt
third_named (Next x) e = absurd (false≢true e)
third_named (Regrade x v First) e = absurd (false≢true e)
third_named (Regrade x v Second) e = absurd (false≢true e)
third_named (Regrade x v Third) e = tt

pub named_third : (op : Op) → ByThird op → is_third op ≡ true
named_third (Search x) b = absurd b
named_third (Insert x v First) b = absurd b
named_third (Insert x v Second) b = absurd b
named_third (Insert x v Third) b = refl
named_third (Delete x First) b = absurd b
named_third (Delete x Second) b = absurd b
named_third (Delete x Third) b = refl
named_third (Next x) b = absurd b
named_third (Regrade x v First) b = absurd b
named_third (Regrade x v Second) b = absurd b
named_third (Regrade x v Third) b = refl

-- a conversion by the rule's test
pub converts_here : (z : Stand) → converting z ≡ true → ConvertsHere z
converts_here z m = member_at z.want (holding z) 0 m

pub here_converts : (z : Stand) → ConvertsHere z → converting z ≡ true
here_converts z i = in_member z.want (holding z) i

-- ---- the kind that is wanted

-- what is due by the rule is what the plain terms say, by the path upward
module _ (op : Op) (memory : ℕ → Page) (path : List ℕ) (locks : List Under) (beside : List ℕ) (sidelocks : List Under) (want : ℕ) (lock : Lock) where
  abbrev z : Stand
  z = stand op path locks beside sidelocks want lock

  -- above its leaf, by the lowest page of the path
  above_test : (p : ℕ) (up : List ℕ) → reverse path ≡ p ∷ up → is_second op && eqb (memory p).level 2 ≡ true → AboveItsLeaf memory z
  above_test p up turned both = (
    second_named op (and_first (is_second op) (eqb (memory p).level 2) both),
    omega (arith, sym (length-reverse path) ∙ ap length turned),
    ap (λ (ps : List ℕ). (memory (get_or ps 0 0)).level) turned ∙ eqb-true (memory p).level 2 (and_second (is_second op) (eqb (memory p).level 2) both),
  )

  test_above : (p : ℕ) (up : List ℕ) → reverse path ≡ p ∷ up → AboveItsLeaf memory z → is_second op && eqb (memory p).level 2 ≡ true
  test_above p up turned a =
      and_both (named_second op a.0) (eq-eqb (memory p).level 2 (ap (λ (ps : List ℕ). (memory (get_or ps 0 0)).level) (sym turned) ∙ a.2))

  nothing_above : reverse path ≡ [] → AboveItsLeaf memory z → ⊥
  nothing_above turned a = absurd (omega (arith, a.1, sym (length-reverse path) ∙ ap length turned))

  -- the kind with which a new page is wanted
  due_leaf : (up : List ℕ) → reverse path ≡ up → lock ≡ lock_due op memory up → AboveItsLeaf memory z → lock ≡ Xi
  due_leaf [] turned e a = absurd (nothing_above turned a)
  due_leaf (p ∷ up) turned e a = e ∙ cond-true Xi (held_lock op) (test_above p up turned a)

  due_other : (up : List ℕ) → reverse path ≡ up → lock ≡ lock_due op memory up → (AboveItsLeaf memory z → ⊥) → GoesWith op lock
  due_other [] turned e away = subst (GoesWith op) (sym e) (goes_with op)
  due_other (p ∷ up) turned e away =
      subst (GoesWith op)
      (sym (e ∙ cond-false Xi (held_lock op) (false_if_not_true (is_second op && eqb (memory p).level 2) (λ both. away (above_test p up turned both)))))
      (goes_with op)

  -- and the other way
  as_due : (up : List ℕ) → reverse path ≡ up → (ConvertsHere z → ⊥) → WantsAs memory z → lock ≡ lock_due op memory up
  as_due [] turned new w = with_goes op lock (w.other new (nothing_above turned))
  as_due (p ∷ up) turned new w =
      by_test (is_second op && eqb (memory p).level 2)
      (λ both. w.leaf (above_test p up turned both) ∙ sym (cond-true Xi (held_lock op) both))
      (λ no. with_goes op lock (w.other new (λ a. not_both (test_above p up turned a) no)) ∙ sym (cond-false Xi (held_lock op) no))

pub wants_as : (memory : ℕ → Page) (z : Stand) → (converting z ≡ true → z.lock ≡ Xi)
    → (converting z ≡ false → z.lock ≡ lock_due z.op memory (reverse z.path)) → WantsAs memory z
wants_as memory z own new = record {
  turn = λ c. own (here_converts z c);
  leaf = λ a.
      by_test (converting z) own
      (λ f. due_leaf z.op memory z.path z.locks z.beside z.sidelocks z.want z.lock (reverse z.path) refl (new f) a);
  other = λ c a.
      due_other z.op memory z.path z.locks z.beside z.sidelocks z.want z.lock (reverse z.path) refl
      (new (false_if_not_true (converting z) (λ m. c (converts_here z m)))) a;
}

pub wanted_due : (memory : ℕ → Page) (z : Stand) → WantsAs memory z → converting z ≡ false → z.lock ≡ lock_due z.op memory (reverse z.path)
wanted_due memory z w new =
    as_due z.op memory z.path z.locks z.beside z.sidelocks z.want z.lock (reverse z.path) refl
    (λ c. not_both (here_converts z c) new) w

pub wanted_xi : (memory : ℕ → Page) (z : Stand) → WantsAs memory z → converting z ≡ true → z.lock ≡ Xi
wanted_xi memory z w own = w.turn (converts_here z own)
