-- A report says what the plain terms say, and nothing else satisfies them.
use Prim.Native.Nat.{ℕ, ◌≤◌, ◌<◌}
use mathlib.Core.Bool.{Bool, true, false, ◌&&◌}
use mathlib.Core.List.{List}
use mathlib.Core.Logic.{◌⊎◌, inl, inr, ⊎_elim, ◌≢◌}
use mathlib.Core.Path.{◌≡◌, refl, sym, ap, subst, ◌∙◌}
use native.Mathlib.Omega.{arith}
use lib.Arith.{lt_of_le-ne}
use lib.Dec.{eqb, ltb}
use lib.ListN.{length}
use borrow.Author.Tests.{eq-eqb, ltb-true, ltb-false}
use Rattle.ground.specs.Limits.{slot_count}
use Rattle.ground.specs.Tests.{member, list_below}
use Rattle.ground.proofs.Bools.{not_both, same_if_true_together, and_first, and_second, and_both}
use Rattle.ground.proofs.Choice.{by_test, same_or_not, cond_ind}
use Rattle.ground.proofs.Tests.{member_at, distinct_at, distinct_from, any_below_at, any_below_false_at, count_below_same, length_list_below, list_below_at, list_below_from, list_below_distinct, first_below_passes, first_below_before, first_below_most, first_below_all_fail}
use Rattle.slots.specs.declared.Lock.{Lock}
use Rattle.slots.specs.declared.Lock.TheVariants.{None, Rho, Xi, UpdaterRho, Alpha}
use Rattle.slots.specs.declared.State.{State}
use Rattle.slots.specs.Parts.{held, slot_at, holds_at}
use Rattle.slots.specs.Locks.{lock_held_at, same_lock}
use Rattle.slots.specs.Heard.{lock_number}
use Rattle.slots.specs.Report.{holders, lowest_holder, held_under, lock_kind}
use Rattle.slots.proofs.SoundFacts.{SoundState}
use Rattle.slots.proofs.LockLaws.{is_lock, same_lock_lem}
use Rattle.slots.proofs.GrantLaws.{holder_locks}
use Rattle.slots.proofs.OrderLaws.{length_counted}
use Rattle.promises.specs.Terms.{Holds, HoldsAs}
use Rattle.promises.specs.Report.{Holders, Nobody, Lowest, HeldAs, NotHeldAs, KindIs, Reports}
use Rattle.promises.proofs.Terms.{in_member, holds_as, as_held, sound_kind}

module _ (st : State) (p : ℕ) where
  -- the slots that hold the page, by the rule's test
  abbrev theirs : List ℕ
  theirs = list_below slot_count (λ (s : ℕ). holds_at st s p)

  holds_told : (s : ℕ) → holds_at st s p ≡ true → Holds st s p
  holds_told s = member_at p (held (slot_at st s)) 0

  holds_test : (s : ℕ) → Holds st s p → holds_at st s p ≡ true
  holds_test s = in_member p (held (slot_at st s))

  -- ---- how many

  counted : (slots : List ℕ) × Holders st p slots × (length slots ≡ holders st p)
  counted = (
    theirs,
    record {
      different = distinct_at theirs 0 (list_below_distinct (λ (s : ℕ). holds_at st s p) slot_count);
      just = λ s. (
        (λ i. let (b, h) = list_below_at (λ (t : ℕ). holds_at st t p) slot_count s (in_member s theirs i) in (b, holds_told s h)),
        (λ (b, h). member_at s theirs 0 (list_below_from (λ (t : ℕ). holds_at st t p) slot_count s b (holds_test s h))),
      );
    },
    length_list_below (λ (s : ℕ). holds_at st s p) slot_count,
  )

  -- any list of just these slots, all different, has that many
  count_once : (slots : List ℕ) → Holders st p slots → length slots ≡ holders st p
  count_once slots h =
      length_counted slot_count slots (distinct_from slots 0 h.different) (λ s m. ((h.just s).0 (member_at s slots 0 m)).0)
      ∙ count_below_same (λ (s : ℕ). member s slots) (λ (s : ℕ). holds_at st s p) slot_count
      (λ s b. same_if_true_together (member s slots) (holds_at st s p)
      (λ m. holds_test s ((h.just s).0 (member_at s slots 0 m)).1)
      (λ t. in_member s slots ((h.just s).1 (b, holds_told s t))))

  -- ---- the lowest

  lowest_told : (Nobody st p × (lowest_holder st p ≡ slot_count)) ⊎ Lowest st p (lowest_holder st p)
  lowest_told = ⊎_elim (λ e. inl (nobody e, e)) (λ n. inr (found n)) (same_or_not (lowest_holder st p) slot_count)
    where
      nobody : lowest_holder st p ≡ slot_count → Nobody st p
      nobody e s b h = not_both (holds_test s h) (first_below_all_fail (λ (t : ℕ). holds_at st t p) slot_count e s b)

      found : lowest_holder st p ≢ slot_count → Lowest st p (lowest_holder st p)
      found n =
          let most : lowest_holder st p ≤ slot_count = first_below_most (λ (t : ℕ). holds_at st t p) slot_count in
          let inside : lowest_holder st p < slot_count = lt_of_le-ne most n in
          record {
            inside = inside;
            holds = holds_told (lowest_holder st p) (first_below_passes (λ (t : ℕ). holds_at st t p) slot_count inside);
            none_below = λ t b h. not_both (holds_test t h) (first_below_before (λ (u : ℕ). holds_at st u p) slot_count t b);
          }

  -- ---- the kind

  -- slot s holds the page under this kind
  abbrev under : Lock → ℕ → Bool
  under lock s = holds_at st s p && eqb (lock_number (lock_held_at st s p)) (lock_number lock)

  under_of : (lock : Lock) (s : ℕ) → holds_at st s p ≡ true → lock_held_at st s p ≡ lock → under lock s ≡ true
  under_of lock s h e = and_both h (eq-eqb (lock_number (lock_held_at st s p)) (lock_number lock) (ap lock_number e))

  module _ (f : SoundState st) where
    -- the rule's test of a kind, and its plain terms
    held_told : (lock : Lock) → held_under st p lock ≡ true → HeldAs st p lock
    held_told lock t =
        let (s, b, e) = any_below_at (under lock) slot_count t in
        let holds = and_first (holds_at st s p) (same_lock (lock_held_at st s p) lock) e in
        (s, b, subst (HoldsAs st s p) (same_lock_lem (lock_held_at st s p) lock (and_second (holds_at st s p) (same_lock (lock_held_at st s p) lock) e)) (holds_as st s p holds))

    none_told : (lock : Lock) → held_under st p lock ≡ false → NotHeldAs st p lock
    none_told lock t s b h =
        not_both (under_of lock s (as_held st s p lock h) (sound_kind st f s p lock b h)) (any_below_false_at (under lock) slot_count t s b)

    -- whoever holds the page holds it with one of the four
    nobody : held_under st p Xi ≡ false → held_under st p Alpha ≡ false → held_under st p UpdaterRho ≡ false → held_under st p Rho ≡ false → Nobody st p
    nobody x a u r s b h = by_kind (lock_held_at st s p) refl
      where
        holds : holds_at st s p ≡ true
        holds = holds_test s h

        never : (lock : Lock) → held_under st p lock ≡ false → lock_held_at st s p ≡ lock → ⊥
        never lock t e = not_both (under_of lock s holds e) (any_below_false_at (under lock) slot_count t s b)

        by_kind : (lock : Lock) → lock_held_at st s p ≡ lock → ⊥
        by_kind None e = not_both (holder_locks st.n (slot_at st s) p (f.slot s b) holds) (ap is_lock e)
        by_kind Rho e = never Rho r e
        by_kind Xi e = never Xi x e
        by_kind UpdaterRho e = never UpdaterRho u e
        by_kind Alpha e = never Alpha a e

    kind_told : KindIs st p (lock_kind st p)
    kind_told =
        cond_ind (KindIs st p) (held_under st p Xi) (held_told Xi)
        (λ x. cond_ind (KindIs st p) (held_under st p Alpha) (λ a. (held_told Alpha a, none_told Xi x))
        (λ a. cond_ind (KindIs st p) (held_under st p UpdaterRho) (λ u. (held_told UpdaterRho u, none_told Alpha a, none_told Xi x))
        (λ u. cond_ind (KindIs st p) (held_under st p Rho) (λ r. (held_told Rho r, none_told UpdaterRho u, none_told Alpha a, none_told Xi x))
        (λ r. nobody x a u r))))

  -- ---- the whole

  pub reports_so : SoundState st → Reports st p (lock_kind st p) (holders st p) (lowest_holder st p)
  reports_so f = record { kind_is = kind_told f; count_is = counted; lowest_is = lowest_told }

  -- no second kind, count or lowest holder satisfies the plain terms
  held_some : (lock : Lock) → HeldAs st p lock → Nobody st p → ⊥
  held_some lock (s, b, h) none = none s b (holds_told s (as_held st s p lock h))

  never_both : (lock : Lock) → HeldAs st p lock → NotHeldAs st p lock → ⊥
  never_both lock (s, b, h) none = none s b h

  kind_once : (a b : Lock) → KindIs st p a → KindIs st p b → a ≡ b
  kind_once None None x y = refl
  kind_once None Rho x y = absurd (held_some Rho y.0 x)
  kind_once None Xi x y = absurd (held_some Xi (y) x)
  kind_once None UpdaterRho x y = absurd (held_some UpdaterRho y.0 x)
  kind_once None Alpha x y = absurd (held_some Alpha y.0 x)
  kind_once Rho None x y = absurd (held_some Rho x.0 y)
  kind_once Rho Rho x y = refl
  kind_once Rho Xi x y = absurd (never_both Xi (y) x.3)
  kind_once Rho UpdaterRho x y = absurd (never_both UpdaterRho y.0 x.1)
  kind_once Rho Alpha x y = absurd (never_both Alpha y.0 x.2)
  kind_once Xi None x y = absurd (held_some Xi (x) y)
  kind_once Xi Rho x y = absurd (never_both Xi (x) y.3)
  kind_once Xi Xi x y = refl
  kind_once Xi UpdaterRho x y = absurd (never_both Xi (x) y.2)
  kind_once Xi Alpha x y = absurd (never_both Xi (x) y.1)
  kind_once UpdaterRho None x y = absurd (held_some UpdaterRho x.0 y)
  kind_once UpdaterRho Rho x y = absurd (never_both UpdaterRho x.0 y.1)
  kind_once UpdaterRho Xi x y = absurd (never_both Xi (y) x.2)
  kind_once UpdaterRho UpdaterRho x y = refl
  kind_once UpdaterRho Alpha x y = absurd (never_both Alpha y.0 x.1)
  kind_once Alpha None x y = absurd (held_some Alpha x.0 y)
  kind_once Alpha Rho x y = absurd (never_both Alpha x.0 y.2)
  kind_once Alpha Xi x y = absurd (never_both Xi (y) x.1)
  kind_once Alpha UpdaterRho x y = absurd (never_both Alpha x.0 y.1)
  kind_once Alpha Alpha x y = refl

  lowest_same : (a b : ℕ) → Lowest st p a → Lowest st p b → a ≡ b
  lowest_same a b x y =
      by_test (ltb a b)
      (λ l. absurd (y.none_below a (ltb-true a b l) x.holds))
      (λ l. by_test (ltb b a)
      (λ m. absurd (x.none_below b (ltb-true b a m) y.holds))
      (λ m. omega (arith, ltb-false a b l, ltb-false b a m)))

  lowest_once : (a b : ℕ) → (Nobody st p × (a ≡ slot_count)) ⊎ Lowest st p a → (Nobody st p × (b ≡ slot_count)) ⊎ Lowest st p b → a ≡ b
  lowest_once a b x y =
      ⊎_elim
      (λ n. ⊎_elim (λ m. n.1 ∙ sym m.1) (λ l. absurd (n.0 b l.inside l.holds)) y)
      (λ l. ⊎_elim (λ m. absurd (m.0 a l.inside l.holds)) (λ m. lowest_same a b l m) y)
      x

  pub reports_once : SoundState st → (kind : Lock) (count lowest : ℕ) → Reports st p kind count lowest
      → (kind ≡ lock_kind st p) × (count ≡ holders st p) × (lowest ≡ lowest_holder st p)
  reports_once f kind count lowest r = (
    kind_once kind (lock_kind st p) r.kind_is (kind_told f),
    sym r.count_is.2 ∙ count_once r.count_is.0 r.count_is.1,
    lowest_once lowest (lowest_holder st p) r.lowest_is lowest_told,
  )
