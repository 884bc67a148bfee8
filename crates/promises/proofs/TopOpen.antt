-- Who waits for page 0 or for an upper page updates by the first or the third way, or waits for one who does; and who reads waits for nobody who goes by
-- the third way and does not convert: read off what holds after every call.
use Prim.Native.Nat.{ℕ, ◌<◌}
use mathlib.Core.Bool.{false}
use mathlib.Core.List.{List, reverse}
use mathlib.Core.Logic.{◌⊎◌, inl, inr, ⊎_elim, ◌≢◌}
use mathlib.Core.Path.{◌≡◌, refl, sym, ap₂, subst, ◌∙◌}
use Rattle.ground.specs.Limits.{slot_count}
use Rattle.pool.specs.Pool.{page_at}
use Rattle.slots.specs.declared.Op.{Op}
use Rattle.slots.specs.declared.Op.TheVariants.{Search, Insert, Delete, Next, Regrade}
use Rattle.slots.specs.declared.Way.TheVariants.{First, Second, Third}
use Rattle.slots.specs.declared.Lock.{Lock}
use Rattle.slots.specs.declared.Lock.TheVariants.{Rho, Xi, UpdaterRho, Alpha}
use Rattle.slots.specs.declared.State.{State}
use Rattle.slots.specs.declared.Answer.TheVariants.{Waiting}
use Rattle.slots.specs.Parts.{held_lock, is_second, is_third, held, path_of, Stand, converting, slot_at, want_at, stand_of, waiting_order, Opened}
use Rattle.slots.specs.Locks.{clash}
use Rattle.slots.proofs.SoundFacts.{facts_sound}
use Rattle.slots.proofs.GrantLaws.{holder_open, held_lock_lem}
use Rattle.slots.proofs.LockLaws.{clashes_rho, third_alpha, third_not_second, rho_not_xi, alpha_not_xi}
use Rattle.ground.proofs.Bools.{not_both, false_if_not_true}
use Rattle.index.specs.Step.{stepped}
use Rattle.runs.specs.Run.{run_from}
use Rattle.runs.proofs.Invariant.{Invariant, scene}
use Rattle.runs.proofs.Placing.{gathers_new}
use Rattle.runs.proofs.Locking.{due_held, due_plain, held_with}
use Rattle.runs.proofs.Runs.{holds_after}
use Rattle.runs.proofs.Barring.{upper_wanted}
use Rattle.runs.proofs.Progress.{older_waits, opened}
use Rattle.runs.proofs.Older.{before_older}
use Rattle.promises.specs.Terms.{GoTogether, HoldsAs, ByFirst, ByThird, Converts}
use Rattle.promises.specs.Demand2.{InTheWay}
use Rattle.promises.specs.TopOpen.{WantsUpper, KeepsOff, Reads, NobodyExcludes, TopOpen, TopOpenHolds}
use Rattle.promises.proofs.Terms.{in_member, apart_clash, named_third, converts_here, as_held, sound_kind}
use Rattle.promises.proofs.SoundState.{sound_is}
use Rattle.promises.proofs.Demand2.{call_waits}

-- both ρ
abbrev AnyRho : Lock → Type 0
AnyRho lock = (lock ≡ Rho) ⊎ (lock ≡ UpdaterRho)

-- who updates by neither the first nor the third way goes down with one of them
by_way : (op : Op) → (ByFirst op ⊎ ByThird op) ⊎ (AnyRho (held_lock op) × (is_third op ≡ false))
by_way (Search x) = inr (inl refl, refl)
by_way (Insert x v First) = inl (inl tt)
by_way (Insert x v Second) = inr (inr refl, refl)
by_way (Insert x v Third) = inl (inr tt)
by_way (Delete x First) = inl (inl tt)
by_way (Delete x Second) = inr (inr refl, refl)
by_way (Delete x Third) = inl (inr tt)
by_way (Next x) = inr (inl refl, refl)
by_way (Regrade x v First) = inl (inl tt)
by_way (Regrade x v Second) = inr (inr refl, refl)
by_way (Regrade x v Third) = inl (inr tt)

-- both ρ go together
rhos_go : (a b : Lock) → AnyRho a → AnyRho b → clash a b ≡ false
rhos_go a b (inl e) (inl f) = ap₂ clash e f
rhos_go a b (inl e) (inr f) = ap₂ clash e f
rhos_go a b (inr e) (inl f) = ap₂ clash e f
rhos_go a b (inr e) (inr f) = ap₂ clash e f

-- who reads goes down with ρ, and not by the third way
reads_rho : (op : Op) → Reads op → (held_lock op ≡ Rho) × (is_second op ≡ false) × (is_third op ≡ false)
reads_rho (Search x) r = (refl, refl, refl)
reads_rho (Insert x v way) r = absurd r
reads_rho (Delete x way) r = absurd r
reads_rho (Next x) r = (refl, refl, refl)
reads_rho (Regrade x v way) r = absurd r

module _ (st : State) (ws : List ℕ) (inv : Invariant st ws) where
  -- who does not go by the third way converts nothing
  wants_new : (s : ℕ) (op : Op) → s < slot_count → Opened st s op → is_third op ≡ false → converting (stand_of op (slot_at st s)) ≡ false
  wants_new s op b runs other =
      ⊎_elim
      (λ g. gathers_new st.k st.n ws inv.height inv.tree (stand_of op (slot_at st s)) (scene st ws inv s op b runs) g)
      (λ c. not_both c.third other)
      (inv.stands s op b runs)

  -- with which kind such a page is wanted: the one with which the operation goes down
  wants_going : (s : ℕ) (op : Op) → s < slot_count → Opened st s op → is_third op ≡ false → (want_at st s ≡ 0) ⊎ ((page_at st.k ws (want_at st s)).level ≢ 1)
      → (slot_at st s).lock ≡ held_lock op
  wants_going s op b runs other upper =
      upper_wanted st.k st.n (page_at st.k ws) inv.height inv.tree inv.sound.k_least inv.forms.forms (stand_of op (slot_at st s))
      (inv.keys s op b runs) (inv.stands s op b runs) ((inv.locked s op b runs).wants (wants_new s op b runs other)) upper

  -- and held, by who does not go by the third way
  holds_going : (s : ℕ) (op : Op) (p : ℕ) (lock : Lock) → s < slot_count → Opened st s op → is_third op ≡ false → HoldsAs st s p lock → lock ≡ held_lock op
  holds_going s op p lock b runs other holds =
      sym (sound_kind st inv.sound s p lock b holds)
      ∙ ⊎_elim (λ e. e) (λ e. not_both e.0 other)
      (held_lock_lem st.n (slot_at st s) op p (inv.sound.slot s b) runs (as_held st s p lock holds))

  -- who holds a page, and who stands in the order, is open
  holder_op : (s : ℕ) (p : ℕ) (lock : Lock) → s < slot_count → HoldsAs st s p lock → (op : Op) × Opened st s op
  holder_op s p lock b holds = opened (slot_at st s).task (holder_open st.n (slot_at st s) p (inv.sound.slot s b) (as_held st s p lock holds))

  -- both ρ are not in each other's way
  not_apart : (a b : Lock) → AnyRho a → AnyRho b → (GoTogether a b → ⊥) → ⊥
  not_apart a b r q apart = not_both (apart_clash a b apart) (rhos_go a b r q)

  -- who converts goes by the third way
  converter : (s : ℕ) → s < slot_count → Converts st s → KeepsOff st s
  converter s b own =
      let (op, runs) = opened (slot_at st s).task (holder_open st.n (slot_at st s) (want_at st s) (inv.sound.slot s b) (in_member (want_at st s) (held (slot_at st s)) own)) in
      inr (op, runs, (((sound_is st).0 (facts_sound st inv.sound)).converts s op b runs own).third)

  keeps : (s : ℕ) (op : Op) → Opened st s op → ByFirst op ⊎ ByThird op → KeepsOff st s
  keeps s op runs how = ⊎_elim (λ f. inl (op, runs, f)) (λ t. inr (op, runs, t)) how

  -- whoever is in its way, one of the two updates by the first or the third way
  by_first : (s : ℕ) → WantsUpper st ws s → (way : InTheWay st s) → KeepsOff st s ⊎ KeepsOff st way.slot
  by_first s (b, o, upper) way =
      let (op, runs) = opened (slot_at st s).task o in
      ⊎_elim
      (λ how. inl (keeps s op runs how))
      (λ (rho, other).
      let mine : AnyRho (slot_at st s).lock = subst AnyRho (sym (wants_going s op b runs other upper)) rho in
      inr (⊎_elim
      (λ (lock, holds, apart).
      let (op', runs') = holder_op way.slot (want_at st s) lock way.inside holds in
      ⊎_elim
      (λ how. keeps way.slot op' runs' how)
      (λ (rho', other').
      absurd (not_apart lock (slot_at st s).lock (subst AnyRho (sym (holds_going way.slot op' (want_at st s) lock way.inside runs' other' holds)) rho') mine apart))
      (by_way op'))
      (λ (new, how). ⊎_elim
      (λ (same, before, apart).
      let (op', runs') = opened (slot_at st way.slot).task
      (inv.sound.order_open way.slot (older_waits s way.slot (waiting_order st) (before_older s way.slot (waiting_order st) inv.sound.order_once before))) in
      ⊎_elim
      (λ how. keeps way.slot op' runs' how)
      (λ (rho', other').
      let theirs : AnyRho (slot_at st way.slot).lock
      = subst AnyRho
      (sym (wants_going way.slot op' way.inside runs' other' (subst (λ (p : ℕ). (p ≡ 0) ⊎ ((page_at st.k ws p).level ≢ 1)) (sym same) upper))) rho' in
      absurd (not_apart (slot_at st way.slot).lock (slot_at st s).lock theirs mine apart))
      (by_way op'))
      (λ (same, own). converter way.slot way.inside own)
      how)
      way.there))
      (by_way op)

  waits_for_first : (s : ℕ) → WantsUpper st ws s → (stepped st ws s).answer ≡ Waiting → (way : InTheWay st s) × (KeepsOff st s ⊎ KeepsOff st way.slot)
  waits_for_first s wants e = let way = call_waits st ws inv s e in (way, by_first s wants way)

  -- ---- readers stay

  -- where nobody excludes, a slot holds with ρ or α, and wants so: neither clashes with ρ
  holds_mild : NobodyExcludes st → (s : ℕ) (p : ℕ) (lock : Lock) → s < slot_count → HoldsAs st s p lock → lock ≢ Xi
  holds_mild none s p lock b holds xi =
      let (op, runs) = holder_op s p lock b holds in
      ⊎_elim
      (λ r. let (rho, _, other) = reads_rho op r in rho_not_xi (sym (holds_going s op p lock b runs other holds ∙ rho) ∙ xi))
      (λ (third, new).
      let z : Stand = stand_of op (slot_at st s) in
      let not_own : converting z ≡ false = false_if_not_true (converting z) (λ m. new (converts_here z m)) in
      let alpha : lock ≡ Alpha
      = sym (sound_kind st inv.sound s p lock b holds)
      ∙ held_with z (inv.locked s op b runs).holds p (as_held st s p lock holds)
      ∙ due_plain z p not_own
      ∙ third_alpha op (named_third op third) in
      alpha_not_xi (sym alpha ∙ xi))
      (none s op b runs)

  wants_mild : NobodyExcludes st → (s : ℕ) (op : Op) → s < slot_count → Opened st s op → (slot_at st s).lock ≢ Xi
  wants_mild none s op b runs xi =
      let z : Stand = stand_of op (slot_at st s) in
      ⊎_elim
      (λ r.
      let (rho, first, other) = reads_rho op r in
      rho_not_xi (sym ((inv.locked s op b runs).wants (wants_new s op b runs other) ∙ due_held op (page_at st.k ws) (reverse z.path) first ∙ rho) ∙ xi))
      (λ (third, new).
      let not_own : converting z ≡ false = false_if_not_true (converting z) (λ m. new (converts_here z m)) in
      let is-third = named_third op third in
      alpha_not_xi
      (sym ((inv.locked s op b runs).wants not_own ∙ due_held op (page_at st.k ws) (reverse z.path) (third_not_second op is-third) ∙ third_alpha op is-third) ∙ xi))
      (none s op b runs)

  -- so nobody is in the way of who reads
  readers_stay : NobodyExcludes st → (s : ℕ) (op : Op) → s < slot_count → Opened st s op → Reads op → (stepped st ws s).answer ≢ Waiting
  readers_stay none s op b runs r e =
      let way = call_waits st ws inv s e in
      let (rho, first, other) = reads_rho op r in
      let mine : (slot_at st s).lock ≡ Rho
      = (inv.locked s op b runs).wants (wants_new s op b runs other) ∙ due_held op (page_at st.k ws) (reverse (path_of (slot_at st s))) first ∙ rho in
      let only-xi : (lock : Lock) → (GoTogether lock (slot_at st s).lock → ⊥) → lock ≡ Xi
      = λ lock apart. clashes_rho lock (apart_clash lock Rho (λ g. apart (subst (GoTogether lock) (sym mine) g))) in
      ⊎_elim
      (λ (lock, holds, apart). holds_mild none way.slot (want_at st s) lock way.inside holds (only-xi lock apart))
      (λ (new, how). ⊎_elim
      (λ (same, before, apart).
      let (op', runs') = opened (slot_at st way.slot).task
      (inv.sound.order_open way.slot (older_waits s way.slot (waiting_order st) (before_older s way.slot (waiting_order st) inv.sound.order_once before))) in
      wants_mild none way.slot op' way.inside runs' (only-xi (slot_at st way.slot).lock apart))
      (λ (same, own). nobody_converts way.slot way.inside own)
      how)
      way.there
    where
      nobody_converts : (u : ℕ) → u < slot_count → Converts st u → ⊥
      nobody_converts u c own =
          let m = in_member (want_at st u) (held (slot_at st u)) own in
          let (op', runs') = opened (slot_at st u).task (holder_open st.n (slot_at st u) (want_at st u) (inv.sound.slot u c) m) in
          ⊎_elim
          (λ r'. not_both m (wants_new u op' c runs' (reads_rho op' r').2))
          (λ (third, new). new own)
          (none u op' c runs')

  top_open : TopOpen st ws
  top_open = record {
    waits_for = waits_for_first;
    free = λ none s wants e.
        let (way, one) = waits_for_first s wants e in
        ⊎_elim (none s wants.0) (none way.slot way.inside) one;
    readers_stay = readers_stay;
  }

pub top_open_holds : TopOpenHolds
top_open_holds start cs r = top_open (run_from start cs).state (run_from start cs).words (holds_after start cs r)
