-- The waiting order: it has room while a slot is closed, and how it stands after a slot began, went on or closed.
use Prim.Native.Nat.{ℕ, suc, ◌+◌, ◌-◌, ◌≤◌, ◌<◌}
use mathlib.Core.Bool.{Bool, true, false, not, ◌||◌}
use mathlib.Core.Logic.{◌≢◌, ⊎_elim}
use mathlib.Core.Path.{◌≡◌, refl, sym, ap, subst, ◌∙◌}
use mathlib.Core.List.{List, [], ◌∷◌, ◌++◌}
use native.Mathlib.Omega.{arith}
use native.Mathlib.Numerals.{add-one}
use lib.Dec.{eqb}
use lib.ListN.{length, take, drop, set, length-append}
use lib.Seq.{length-take-le, take-suc-set, take_at, append_snoc}
use borrow.Author.Tests.{eq-eqb, ne_eqb, not-true}
use Rattle.ground.specs.Limits.{slot_count}
use Rattle.ground.specs.Tests.{member, distinct, count_below}
use Rattle.ground.proofs.Bools.{not_both, and_first, and_second, and_both, false_if_not_true}
use Rattle.ground.proofs.Choice.{cond-true, cond-false}
pub use Rattle.ground.proofs.Choice.{same_or_not}
use Rattle.ground.proofs.Tests.{member_none, member_here, member_there, member_cases, member_other, count_below_less, count_below_fails, count_below_most}
use Rattle.slots.specs.declared.Op.{Op}
use Rattle.slots.specs.declared.Slot.{Slot}
use Rattle.slots.specs.declared.State.{State}
use Rattle.slots.specs.Parts.{open_at, waiting_order}
use Rattle.slots.specs.Book.{leaving, begins, requeued, closes}
use Rattle.slots.proofs.SoundFacts.{SoundState}

-- a list of different numbers below n is as long as there are numbers below n in it
pub length_counted : (n : ℕ) (xs : List ℕ) → distinct xs ≡ true → ((x : ℕ) → member x xs ≡ true → x < n) → length xs ≡ count_below n (λ (i : ℕ). member i xs)
unfolding distinct
length_counted n [] d b = sym (count_below_fails (λ (i : ℕ). member i []) n (λ i _. member_none i))
length_counted n (x ∷ xs) d b =
    let apart : member x xs ≡ false = not-true (member x xs) (and_first (not (member x xs)) (distinct xs) d) in
    let shorter : length xs ≡ count_below n (λ (i : ℕ). member i xs) = length_counted n xs (and_second (not (member x xs)) (distinct xs) d) (λ y m. b y (member_there x y xs m)) in
    let one : count_below n (λ (i : ℕ). member i xs) + 1 ≡ count_below n (λ (i : ℕ). member i (x ∷ xs)) =
    count_below_less (λ (i : ℕ). member i (x ∷ xs)) (λ (i : ℕ). member i xs) x (member_here x xs) apart n (b x (member_here x xs)) (λ i _ e. member_other x i xs e) in
    omega arith

-- with one number below n missing it is shorter than n
pub length_missing : (n m : ℕ) (xs : List ℕ) → distinct xs ≡ true → ((x : ℕ) → member x xs ≡ true → x < n) → m < n → member m xs ≡ false → length xs < n
length_missing n m xs d b below missing =
    let counted : length xs ≡ count_below n (λ (i : ℕ). member i xs) = length_counted n xs d b in
    let one : count_below n (λ (i : ℕ). member i xs) + 1 ≡ count_below n (λ (i : ℕ). member i (m ∷ xs)) =
    count_below_less (λ (i : ℕ). member i (m ∷ xs)) (λ (i : ℕ). member i xs) m (member_here m xs) missing n below (λ i _ e. member_other m i xs e) in
    omega (arith, count_below_most (λ (i : ℕ). member i (m ∷ xs)) n)

-- the waiting order is as long as it says
pub length_waiting : (st : State) → st.waiting ≤ length st.order → length (waiting_order st) ≡ st.waiting
unfolding waiting_order
length_waiting st h = length-take-le st.waiting st.order h

-- If a slot is closed, the waiting order has room.
pub order_has_room : (st : State) → length st.order ≡ slot_count → SoundState st → (s : ℕ) → s < slot_count → open_at st s ≡ false → st.waiting < slot_count
order_has_room st len f s b closed =
    let long : length (waiting_order st) ≡ st.waiting = length_waiting st (subst (λ (m : ℕ). st.waiting ≤ m) (sym len) f.waits) in
    let absent : member s (waiting_order st) ≡ false = false_if_not_true (member s (waiting_order st)) (λ m. not_both (f.order_open s m) closed) in
    subst (λ (m : ℕ). m < slot_count) long (length_missing slot_count s (waiting_order st) f.order_once f.order_below b absent)

-- ---- a slot taken out of the order

in_front : (x t : ℕ) (xs ys : List ℕ) → member x xs ≡ member x ys → member x (t ∷ xs) ≡ member x (t ∷ ys)
unfolding member
in_front x t xs ys e = ap (λ (m : Bool). eqb x t || m) e

-- it stands in front, and those behind it stay,
pub leaving_here : (s t : ℕ) (ts : List ℕ) → t ≡ s → leaving s (t ∷ ts) ≡ ts
unfolding leaving
leaving_here s t ts e = cond-true ts (t ∷ leaving s ts) (eq-eqb t s e)

-- or it is looked for behind the first
pub leaving_there : (s t : ℕ) (ts : List ℕ) → t ≢ s → leaving s (t ∷ ts) ≡ t ∷ leaving s ts
unfolding leaving
leaving_there s t ts n = cond-false ts (t ∷ leaving s ts) (ne_eqb t s n)

-- those before it and those behind it stand as they stood
pub leaving_between : (s : ℕ) (front behind : List ℕ) → member s front ≡ false → leaving s (front ++ s ∷ behind) ≡ front ++ behind
leaving_between s [] behind m = leaving_here s s behind refl
leaving_between s (t ∷ front) behind m =
    let other : t ≢ s = λ e. not_both (subst (λ (x : ℕ). member s (x ∷ front) ≡ true) (sym e) (member_here s front)) m in
    leaving_there s t (front ++ s ∷ behind) other
    ∙ ap (λ (l : List ℕ). t ∷ l) (leaving_between s front behind (member_other t s front (λ e. other (sym e)) ∙ m))

-- it is one shorter
pub length_leaving : (s : ℕ) (xs : List ℕ) → member s xs ≡ true → suc (length (leaving s xs)) ≡ length xs
length_leaving s [] m = not_both m (member_none s)
length_leaving s (t ∷ ts) m =
    ⊎_elim
    (λ e. ap (λ (l : List ℕ). suc (length l)) (leaving_here s t ts e))
    (λ n. ap (λ (l : List ℕ). suc (length l)) (leaving_there s t ts n)
    ∙ ap suc (length_leaving s ts (⊎_elim (λ e. absurd (n (sym e))) (λ h. h) (member_cases s t ts m))))
    (same_or_not t s)

-- the others stay
pub member_leaving : (s x : ℕ) (xs : List ℕ) → x ≢ s → member x (leaving s xs) ≡ member x xs
unfolding leaving
member_leaving s x [] n = refl
member_leaving s x (t ∷ ts) n =
    ⊎_elim
    (λ e. ap (member x) (leaving_here s t ts e) ∙ member_other t x ts (λ q. n (q ∙ e)))
    (λ k. ap (member x) (leaving_there s t ts k) ∙ in_front x t (leaving s ts) ts (member_leaving s x ts n))
    (same_or_not t s)

-- it leaves for good, and those that stay are different
pub leaving_gone : (s : ℕ) (xs : List ℕ) → distinct xs ≡ true → member s (leaving s xs) ≡ false
unfolding distinct leaving
leaving_gone s [] d = member_none s
leaving_gone s (t ∷ ts) d =
    let apart : member t ts ≡ false = not-true (member t ts) (and_first (not (member t ts)) (distinct ts) d) in
    let rest : distinct ts ≡ true = and_second (not (member t ts)) (distinct ts) d in
    ⊎_elim
    (λ e. ap (member s) (leaving_here s t ts e) ∙ subst (λ (q : ℕ). member q ts ≡ false) e apart)
    (λ n. ap (member s) (leaving_there s t ts n) ∙ sym (member_other t s (leaving s ts) (λ e. n (sym e))) ∙ leaving_gone s ts rest)
    (same_or_not t s)

pub distinct_leaving : (s : ℕ) (xs : List ℕ) → distinct xs ≡ true → distinct (leaving s xs) ≡ true
unfolding distinct leaving
distinct_leaving s [] d = refl
distinct_leaving s (t ∷ ts) d =
    let apart : member t ts ≡ false = not-true (member t ts) (and_first (not (member t ts)) (distinct ts) d) in
    let rest : distinct ts ≡ true = and_second (not (member t ts)) (distinct ts) d in
    ⊎_elim
    (λ e. ap distinct (leaving_here s t ts e) ∙ rest)
    (λ n. ap distinct (leaving_there s t ts n) ∙ and_both (ap not (member_leaving s t ts n ∙ apart)) (distinct_leaving s ts rest))
    (same_or_not t s)

-- those that stay were there
pub leaving_was : (s x : ℕ) (xs : List ℕ) → distinct xs ≡ true → member x (leaving s xs) ≡ true → (x ≢ s) × (member x xs ≡ true)
leaving_was s x xs d m =
    let other : x ≢ s = λ e. not_both m (subst (λ (q : ℕ). member q (leaving s xs) ≡ false) (sym e) (leaving_gone s xs d)) in
    (other, sym (member_leaving s x xs other) ∙ m)

-- ---- the waiting order after a slot began, went on or closed

pub waiting_begins : (st : State) (s : ℕ) (op : Op) → st.waiting < length st.order → waiting_order (begins st s op) ≡ waiting_order st ++ s ∷ []
unfolding waiting_order begins
waiting_begins st s op h =
    ap (λ (m : ℕ). take m (set st.order st.waiting s)) (add-one st.waiting) ∙ take-suc-set st.order st.waiting s h

module _ (st : State) (s : ℕ) (len : st.waiting ≤ length st.order) (m : member s (waiting_order st) ≡ true) where
  -- one less than there were
  shorter : suc (length (leaving s (waiting_order st))) ≡ st.waiting
  shorter = length_leaving s (waiting_order st) m ∙ length_waiting st len

  pub waiting_requeued : (slot : Slot) → waiting_order (requeued st s slot) ≡ leaving s (waiting_order st) ++ s ∷ []
  unfolding waiting_order
  waiting_requeued slot =
      let front = leaving s (take st.waiting st.order) in
      ap (take st.waiting) (sym (append_snoc front s (drop st.waiting st.order)))
      ∙ take_at (front ++ s ∷ []) (drop st.waiting st.order) st.waiting
      (length-append front (s ∷ []) ∙ omega (arith, shorter))

  pub waiting_closes : waiting_order (closes st s) ≡ leaving s (waiting_order st)
  unfolding waiting_order closes
  waiting_closes =
      take_at (leaving s (take st.waiting st.order)) (0 ∷ drop st.waiting st.order) (st.waiting - 1) (omega (arith, shorter))
