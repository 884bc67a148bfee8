-- The laws of the plain sorted list.
use Prim.Native.Nat.{ℕ, suc, ◌+◌, ◌≤◌}
use mathlib.Core.Bool.{Bool, true, false, cond, ◌||◌, false≢true}
use mathlib.Core.List.{List, [], ◌∷◌, ◌++◌, map}
use mathlib.Core.Logic.{◌⊎◌, inl, inr, ◌≢◌, ⊎_elim}
use mathlib.Core.Path.{◌≡◌, refl, sym, ap, ap₂, ◌∙◌, subst}
use native.Mathlib.Omega.{arith}
use borrow.Author.Tests.{leb-true, leb-false, eqb-true, eq-eqb, ne_eqb}
use lib.Dec.{leb, eqb}
use lib.ListN.{length, get_or, take, drop, set, length-append, take-append-drop}
use lib.Seq.{get_or-append_seam, set_split, set-append_seam}
use Rattle.ground.proofs.Bools.{true_or_false, not_both, false_if_not_true, or_first_fails, or_cases}
use Rattle.ground.proofs.Choice.{by_test, cond_ind, cond-true, cond-false}
use Rattle.page.specs.Words.{Entry, entry, key_of, value_of, page}
use Rattle.page.specs.Place.{place, has, information, at_or_above, without, regraded}
use Rattle.page.specs.Sound.{rises}
use Rattle.page.proofs.PlaceLaws.{has_from, has_at, has_append, information_at, above_later, rises_without}
use Rattle.page.proofs.RiseLaws.{rises_at, rises_drop}
use Rattle.page.proofs.PutLaws.{put_entries, put_place_rises}
use Rattle.page.proofs.RegradeLaws.{keys_regraded, rises_regraded, has_regraded, information_regraded, information_regraded_other, regraded_at}
use Rattle.slots.specs.declared.Op.{Op}
use Rattle.slots.specs.declared.Op.TheVariants.{Search, Insert, Delete, Next, Regrade}
use Rattle.slots.specs.declared.Way.TheVariants.{First}
use Rattle.slots.specs.declared.Answer.{Answer}
use Rattle.slots.specs.declared.Answer.TheVariants.{Found, NotFound, Inserted, AlreadyThere, Deleted, NoSuchKey, Next as NextLot, None as NoLot, Regraded}
use Rattle.slots.specs.Heard.{heard, number_of}
use Rattle.slots.specs.Parts.{key_of as keyOfOp, first_way}
use Rattle.footing.specs.Granted.{next_answer}
use Rattle.tree.specs.Sorted.{inserted}
use Rattle.tree.proofs.Sorted.{has_inserted}
use Rattle.runs.specs.Plain.{Reply, reply, plain}
use Rattle.runs.specs.PlainFacts.{Among, Missing, FirstFrom, AllBelow, PlainFacts}

-- ---- an entry stands where `has` and `information` say so

-- one entry further on
pub among_later : (x v : ℕ) (e : Entry) (es : List Entry) → Among x v es → Among x v (e ∷ es)
among_later x v e es a = record { before = e ∷ a.before; after = a.after; whole = ap (λ (l : List Entry). e ∷ l) a.whole }

-- a key that stands does so with its information
pub has_among : (x : ℕ) (es : List Entry) → has x es ≡ true → Among x (information x es) es
unfolding has information
has_among x [] h = absurd (false≢true h)
has_among x (e ∷ es) h =
    ⊎_elim
    (λ here. record {
      before = [];
      after = es;
      whole = ap₂ (λ (k v : ℕ). entry k v ∷ es) (eqb-true e.key x here) (sym (cond-true e.value (information x es) here));
    })
    (λ other.
    let later : has x es ≡ true = ⊎_elim (λ t. not_both t other) (λ t. t) (or_cases (eqb e.key x) (has x es) h) in
    subst (λ (v : ℕ). Among x v (e ∷ es)) (sym (cond-false e.value (information x es) other)) (among_later x (information x es) e es (has_among x es later)))
    (true_or_false (eqb e.key x))

module _ (x v : ℕ) (es : List Entry) (a : Among x v es) where
  at_seam : get_or es (length a.before) (entry 0 0) ≡ entry x v
  at_seam = ap (λ (l : List Entry). get_or l (length a.before) (entry 0 0)) a.whole ∙ get_or-append_seam a.before (entry x v) a.after (entry 0 0)

  -- a key with an entry stands,
  pub among_has : has x es ≡ true
  among_has =
      let long : length es ≡ length a.before + length (entry x v ∷ a.after) = ap length a.whole ∙ length-append a.before (entry x v ∷ a.after) in
      has_from x es (length a.before) (omega arith) (ap key_of at_seam)

  -- and where keys rise, with that information
  pub among_information : rises es ≡ true → information x es ≡ v
  among_information r =
      let long : length es ≡ length a.before + length (entry x v ∷ a.after) = ap length a.whole ∙ length-append a.before (entry x v ∷ a.after) in
      information_at x es r (length a.before) (omega arith) (ap key_of at_seam) ∙ ap value_of at_seam

-- a key without an entry does not stand, and one that does not stand has none
pub missing_has : (x : ℕ) (es : List Entry) → Missing x es → has x es ≡ false
missing_has x es m = ⊎_elim (λ t. absurd (m (information x es) (has_among x es t))) (λ f. f) (true_or_false (has x es))

pub has_missing : (x : ℕ) (es : List Entry) → has x es ≡ false → Missing x es
has_missing x es f = λ v a. not_both (among_has x v es a) f

-- ---- inserted

-- the information of a new key is the one that was put in
information_middle : (x v : ℕ) (l r : List Entry) → has x l ≡ false → information x (l ++ entry x v ∷ r) ≡ v
unfolding has information
information_middle x v [] r h = cond-true v (information x r) (eq-eqb x x refl)
information_middle x v (e ∷ l) r h =
    ⊎_elim
    (λ t. not_both (ap (λ (b : Bool). b || has x l) t) h)
    (λ f. cond-false e.value (information x (l ++ entry x v ∷ r)) f ∙ information_middle x v l r (sym (ap (λ (b : Bool). b || has x l) f) ∙ h))
    (true_or_false (eqb e.key x))

-- another key stands, and with the same information, whether an entry is in the middle or not
has_beside : (x v y : ℕ) (l r : List Entry) → y ≢ x → has y (l ++ entry x v ∷ r) ≡ has y (l ++ r)
unfolding has
has_beside x v y [] r n = ap (λ (b : Bool). b || has y r) (ne_eqb x y (λ e. n (sym e)))
has_beside x v y (e ∷ l) r n = ap (λ (b : Bool). eqb e.key y || b) (has_beside x v y l r n)

information_beside : (x v y : ℕ) (l r : List Entry) → y ≢ x → information y (l ++ entry x v ∷ r) ≡ information y (l ++ r)
unfolding information
information_beside x v y [] r n = cond-false v (information y r) (ne_eqb x y (λ e. n (sym e)))
information_beside x v y (e ∷ l) r n = ap (cond (eqb e.key y) e.value) (information_beside x v y l r n)

module _ (x v : ℕ) (es : List Entry) where
  -- keys still rise
  pub rises_inserted : rises es ≡ true → has x es ≡ false → rises (inserted x v es) ≡ true
  unfolding inserted
  rises_inserted r new =
      subst (λ (l : List Entry). rises l ≡ true) (put_entries (place x es) (entry x v) (page 1 0 es)) (put_place_rises (entry x v) (page 1 0 es) r new)

  pub information_inserted : has x es ≡ false → information x (inserted x v es) ≡ v
  unfolding inserted
  information_inserted new =
      let n : ℕ = place x es in
      let parts : has x (take n es) || has x (drop n es) ≡ false
      = sym (has_append x (take n es) (drop n es)) ∙ ap (has x) (take-append-drop n es) ∙ new in
      information_middle x v (take n es) (drop n es) (or_first_fails (has x (take n es)) (has x (drop n es)) parts)

  pub has_inserted_other : (y : ℕ) → y ≢ x → has y (inserted x v es) ≡ has y es
  unfolding inserted
  has_inserted_other y n = has_beside x v y (take (place x es) es) (drop (place x es) es) n ∙ ap (has y) (take-append-drop (place x es) es)

  pub information_inserted_other : (y : ℕ) → y ≢ x → information y (inserted x v es) ≡ information y es
  unfolding inserted
  information_inserted_other y n =
      information_beside x v y (take (place x es) es) (drop (place x es) es) n ∙ ap (information y) (take-append-drop (place x es) es)

-- ---- without

pub has_without_other : (x y : ℕ) (es : List Entry) → y ≢ x → has y (without x es) ≡ has y es
unfolding has without
has_without_other x y [] n = refl
has_without_other x y (e ∷ es) n =
    cond_ind (λ (l : List Entry). has y l ≡ eqb e.key y || has y es) (eqb e.key x)
    (λ t. sym (ap (λ (b : Bool). b || has y es) (ne_eqb e.key y (λ q. n (sym q ∙ eqb-true e.key x t)))))
    (λ f. ap (λ (b : Bool). eqb e.key y || b) (has_without_other x y es n))

pub information_without_other : (x y : ℕ) (es : List Entry) → y ≢ x → information y (without x es) ≡ information y es
unfolding information without
information_without_other x y [] n = refl
information_without_other x y (e ∷ es) n =
    cond_ind (λ (l : List Entry). information y l ≡ cond (eqb e.key y) e.value (information y es)) (eqb e.key x)
    (λ t. sym (cond-false e.value (information y es) (ne_eqb e.key y (λ q. n (sym q ∙ eqb-true e.key x t)))))
    (λ f. ap (cond (eqb e.key y) e.value) (information_without_other x y es n))

-- on rising keys the first key stands nowhere behind it
first_once : (e : Entry) (es : List Entry) → rises (e ∷ es) ≡ true → has e.key es ≡ false
first_once e es r =
    false_if_not_true (has e.key es)
    (λ t. let found = has_at e.key es t in
    let up = rises_at (e ∷ es) r 0 (suc found.0) (omega arith) (omega (arith, found.1)) in
    omega (arith, up, found.2))

-- a key that was taken out of rising keys does not stand there any more
pub has_without_rising : (x : ℕ) (es : List Entry) → rises es ≡ true → has x (without x es) ≡ false
unfolding has without
has_without_rising x [] r = refl
has_without_rising x (e ∷ es) r =
    cond_ind (λ (l : List Entry). has x l ≡ false) (eqb e.key x)
    (λ t. subst (λ (k : ℕ). has k es ≡ false) (eqb-true e.key x t) (first_once e es r))
    (λ f. ap (λ (b : Bool). b || has x (without x es)) f ∙ has_without_rising x es (rises_drop 1 (e ∷ es) r))

-- ---- regraded

-- on rising keys an entry that stands is regraded in its place
regraded_among : (x w v : ℕ) (es : List Entry) → rises es ≡ true → (a : Among x v es) → regraded x w es ≡ a.before ++ entry x w ∷ a.after
regraded_among x w v es r a =
    let i : ℕ = length a.before in
    let long : length es ≡ length a.before + length (entry x v ∷ a.after) = ap length a.whole ∙ length-append a.before (entry x v ∷ a.after) in
    regraded_at x w es r i (omega arith) (ap key_of (at_seam x v es a))
    ∙ sym (set_split es i (entry x w) (omega arith))
    ∙ ap (λ (l : List Entry). set l i (entry x w)) a.whole
    ∙ set-append_seam a.before (entry x v) a.after (entry x w)

-- ---- at or above

-- an entry of a longer list is its first, or stands behind it
among_cases : (x v : ℕ) (e : Entry) (es : List Entry) → Among x v (e ∷ es) → (e.key ≡ x) ⊎ Among x v es
among_cases x v e es a = by_front a.before a.whole
  where
    by_front : (before : List Entry) → e ∷ es ≡ before ++ entry x v ∷ a.after → (e.key ≡ x) ⊎ Among x v es
    by_front [] whole = inl (ap (λ (l : List Entry). (get_or l 0 (entry 0 0)).key) whole)
    by_front (f ∷ fs) whole = inr (record { before = fs; after = a.after; whole = ap (λ (l : List Entry). drop 1 l) whole })

-- where keys rise, the first of them is the lowest
first_lowest : (e : Entry) (es : List Entry) → rises (e ∷ es) ≡ true → (z w : ℕ) → Among z w (e ∷ es) → e.key ≤ z
first_lowest e es r z w a =
    ⊎_elim
    (λ here. omega (arith, here))
    (λ later.
    let found = has_at z es (among_has z w es later) in
    let up = rises_at (e ∷ es) r 0 (suc found.0) (omega arith) (omega (arith, found.1)) in
    omega (arith, up, found.2))
    (among_cases z w e es a)

-- no entry is at or above a key just if every key is below it
pub none_below : (x : ℕ) (es : List Entry) → at_or_above x es ≡ [] → AllBelow x es
unfolding at_or_above has
none_below x [] none z w a = not_both (among_has z w [] a) refl
none_below x (e ∷ es) none z w a =
    by_test (leb x e.key)
    (λ high. let some : suc (length es) ≡ 0 = ap length (sym (cond-true (e ∷ es) (at_or_above x es) high) ∙ none) in absurd (omega arith))
    (λ low.
    let later : at_or_above x es ≡ [] = sym (cond-false (e ∷ es) (at_or_above x es) low) ∙ none in
    ⊎_elim (λ here. omega (arith, here, leb-false x e.key low)) (λ there. none_below x es later z w there) (among_cases z w e es a))

-- the first entry at or above a key is so
pub above_key : (x : ℕ) (es : List Entry) (f : Entry) (rest : List Entry) → at_or_above x es ≡ f ∷ rest → x ≤ f.key
unfolding at_or_above
above_key x [] f rest e = absurd (omega (arith, ap length e))
above_key x (e ∷ es) f rest found =
    by_test (leb x e.key)
    (λ high.
    let whole : e ∷ es ≡ f ∷ rest = sym (cond-true (e ∷ es) (at_or_above x es) high) ∙ found in
    let same : e ≡ f = cc in
    subst (λ (g : Entry). x ≤ g.key) same (leb-true x e.key high))
    (λ low. above_key x es f rest (sym (cond-false (e ∷ es) (at_or_above x es) low) ∙ found))

pub below_none : (x : ℕ) (es : List Entry) → AllBelow x es → at_or_above x es ≡ []
unfolding at_or_above
below_none x [] below = refl
below_none x (e ∷ es) below =
    above_later x e es (below e.key e.value (record { before = []; after = es; whole = refl }))
    ∙ below_none x es (λ z w a. below z w (among_later z w e es a))

-- What the entries at or above a key begin with: there is none, or the first of them.
data Nearest (x : ℕ) (es : List Entry) : Type 0 where
  nowhere : at_or_above x es ≡ [] → Nearest x es
  begins : (e : Entry) (rest : List Entry) → at_or_above x es ≡ e ∷ rest → FirstFrom x e.key e.value es → Nearest x es

-- an entry that is below changes nothing
nearest_later : (x : ℕ) (e : Entry) (es : List Entry) → leb x e.key ≡ false → Nearest x es → Nearest x (e ∷ es)
unfolding at_or_above
nearest_later x e es low (nowhere none) = nowhere (cond-false (e ∷ es) (at_or_above x es) low ∙ none)
nearest_later x e es low (begins f rest some first) =
    begins f rest (cond-false (e ∷ es) (at_or_above x es) low ∙ some) (record {
      there = among_later f.key f.value e es first.there;
      above = first.above;
      first = λ z w a h.
          ⊎_elim (λ here. absurd (omega (arith, here, h, leb-false x e.key low))) (λ later. first.first z w later h) (among_cases z w e es a);
    })

nearest : (x : ℕ) (es : List Entry) → rises es ≡ true → Nearest x es
unfolding at_or_above
nearest x [] r = nowhere refl
nearest x (e ∷ es) r =
    ⊎_elim
    (λ high. begins e es (cond-true (e ∷ es) (at_or_above x es) high) (record {
      there = record { before = []; after = es; whole = refl };
      above = leb-true x e.key high;
      first = λ z w a h. first_lowest e es r z w a;
    }))
    (λ low. nearest_later x e es low (nearest x es (rises_drop 1 (e ∷ es) r)))
    (true_or_false (leb x e.key))

-- ---- the answers

-- a search by whether the key stands
search_there : (x : ℕ) (es : List Entry) → has x es ≡ true → (plain (Search x) es).answer ≡ Found (information x es)
unfolding plain
search_there x es h = cond-true (Found (information x es)) NotFound h

search_missing : (x : ℕ) (es : List Entry) → has x es ≡ false → (plain (Search x) es).answer ≡ NotFound
unfolding plain
search_missing x es h = cond-false (Found (information x es)) NotFound h

-- searches of lists that agree on the key are answered alike
search_same : (x : ℕ) (es fs : List Entry) → has x es ≡ has x fs → information x es ≡ information x fs → (plain (Search x) es).answer ≡ (plain (Search x) fs).answer
unfolding plain
search_same x es fs h i = ap₂ (λ (b : Bool) (v : ℕ). cond b (Found v) NotFound) h i

-- an insertion, a deletion and a regrading by whether the key stands
insert_there : (x v : ℕ) (es : List Entry) → has x es ≡ true → plain (Insert x v First) es ≡ reply (AlreadyThere (information x es)) es
unfolding plain
insert_there x v es h = cond-true (reply (AlreadyThere (information x es)) es) (reply Inserted (inserted x v es)) h

insert_missing : (x v : ℕ) (es : List Entry) → has x es ≡ false → plain (Insert x v First) es ≡ reply Inserted (inserted x v es)
unfolding plain
insert_missing x v es h = cond-false (reply (AlreadyThere (information x es)) es) (reply Inserted (inserted x v es)) h

delete_there : (x : ℕ) (es : List Entry) → has x es ≡ true → plain (Delete x First) es ≡ reply (Deleted (information x es)) (without x es)
unfolding plain
delete_there x es h = cond-true (reply (Deleted (information x es)) (without x es)) (reply NoSuchKey es) h

delete_missing : (x : ℕ) (es : List Entry) → has x es ≡ false → plain (Delete x First) es ≡ reply NoSuchKey es
unfolding plain
delete_missing x es h = cond-false (reply (Deleted (information x es)) (without x es)) (reply NoSuchKey es) h

regrade_there : (x w : ℕ) (es : List Entry) → has x es ≡ true → plain (Regrade x w First) es ≡ reply (Regraded (information x es)) (regraded x w es)
unfolding plain
regrade_there x w es h = cond-true (reply (Regraded (information x es)) (regraded x w es)) (reply NoSuchKey es) h

regrade_missing : (x w : ℕ) (es : List Entry) → has x es ≡ false → plain (Regrade x w First) es ≡ reply NoSuchKey es
unfolding plain
regrade_missing x w es h = cond-false (reply (Regraded (information x es)) (regraded x w es)) (reply NoSuchKey es) h

pub search_keeps : (x : ℕ) (es : List Entry) → (plain (Search x) es).entries ≡ es
unfolding plain
search_keeps x es = refl

-- a Next by what the entries at or above its key begin with
next_none : (x : ℕ) (es : List Entry) → at_or_above x es ≡ [] → (plain (Next x) es).answer ≡ NoLot
unfolding plain
next_none x es e = ap next_answer e

next_begins : (x : ℕ) (es : List Entry) (e : Entry) (rest : List Entry) → at_or_above x es ≡ e ∷ rest → (plain (Next x) es).answer ≡ NextLot e.key e.value
unfolding plain
next_begins x es e rest some = ap next_answer some

pub next_keeps : (x : ℕ) (es : List Entry) → (plain (Next x) es).entries ≡ es
unfolding plain
next_keeps x es = refl

-- the first value in an answer, and the second
abbrev told : Answer → ℕ
told a = get_or (heard a) 1 0

abbrev told_too : Answer → ℕ
told_too a = get_or (heard a) 2 0

-- two answers with different numbers are different
pub clashes : {a b : Answer} {X : Type 0} → a ≡ b → (number_of a ≡ number_of b → ⊥) → X
clashes e n = absurd (n (ap number_of e))

-- an update does the same by either way
pub plain_ways : (op : Op) (es : List Entry) → plain op es ≡ plain (first_way op) es
unfolding plain
plain_ways (Search x) es = refl
plain_ways (Insert x v way) es = refl
plain_ways (Delete x way) es = refl
plain_ways (Next x) es = refl
plain_ways (Regrade x v way) es = refl

module _ (es : List Entry) (r : rises es ≡ true) where
  rising_first : (op : Op) → rises (plain (first_way op) es).entries ≡ true
  rising_first (Search x) = ap rises (search_keeps x es) ∙ r
  rising_first (Insert x v way) =
      ⊎_elim
      (λ t. ap (λ (p : Reply). rises p.entries) (insert_there x v es t) ∙ r)
      (λ f. ap (λ (p : Reply). rises p.entries) (insert_missing x v es f) ∙ rises_inserted x v es r f)
      (true_or_false (has x es))
  rising_first (Delete x way) =
      ⊎_elim
      (λ t. ap (λ (p : Reply). rises p.entries) (delete_there x es t) ∙ rises_without x es r)
      (λ f. ap (λ (p : Reply). rises p.entries) (delete_missing x es f) ∙ r)
      (true_or_false (has x es))
  rising_first (Next x) = ap rises (next_keeps x es) ∙ r
  rising_first (Regrade x w way) =
      ⊎_elim
      (λ t. ap (λ (p : Reply). rises p.entries) (regrade_there x w es t) ∙ rises_regraded x w es ∙ r)
      (λ f. ap (λ (p : Reply). rises p.entries) (regrade_missing x w es f) ∙ r)
      (true_or_false (has x es))

  rising : (op : Op) → rises (plain op es).entries ≡ true
  rising op = ap (λ (p : Reply). rises p.entries) (plain_ways op es) ∙ rising_first op

  found : (x v : ℕ) → (plain (Search x) es).answer ≡ Found v → Among x v es
  found x v e =
      ⊎_elim
      (λ t. subst (λ (w : ℕ). Among x w es) (ap told (sym (search_there x es t) ∙ e)) (has_among x es t))
      (λ f. clashes (sym (search_missing x es f) ∙ e) (λ q. omega (arith, q)))
      (true_or_false (has x es))

  inserted_found : (x v : ℕ) → (plain (Insert x v First) es).answer ≡ Inserted → (plain (Search x) (plain (Insert x v First) es).entries).answer ≡ Found v
  inserted_found x v e =
      ⊎_elim
      (λ t. clashes (sym (ap (λ (p : Reply). p.answer) (insert_there x v es t)) ∙ e) (λ q. omega (arith, q)))
      (λ f. ap (λ (p : Reply). (plain (Search x) p.entries).answer) (insert_missing x v es f)
      ∙ search_there x (inserted x v es) (has_inserted x v es)
      ∙ ap (λ (w : ℕ). Found w) (information_inserted x v es f))
      (true_or_false (has x es))

  deleted : (x v : ℕ) → (plain (Delete x First) es).answer ≡ Deleted v → Among x v es
  deleted x v e =
      ⊎_elim
      (λ t. subst (λ (w : ℕ). Among x w es) (ap told (sym (ap (λ (p : Reply). p.answer) (delete_there x es t)) ∙ e)) (has_among x es t))
      (λ f. clashes (sym (ap (λ (p : Reply). p.answer) (delete_missing x es f)) ∙ e) (λ q. omega (arith, q)))
      (true_or_false (has x es))

  deleted_gone : (x v : ℕ) → (plain (Delete x First) es).answer ≡ Deleted v → (plain (Search x) (plain (Delete x First) es).entries).answer ≡ NotFound
  deleted_gone x v e =
      let t : has x es ≡ true = among_has x v es (deleted x v e) in
      ap (λ (p : Reply). (plain (Search x) p.entries).answer) (delete_there x es t)
      ∙ search_missing x (without x es) (has_without_rising x es r)

  nexts : (x y v : ℕ) → FirstFrom x y v es → (plain (Next x) es).answer ≡ NextLot y v
  nexts x y v f = by_nearest_lem (nearest x es r)
    where
      by_nearest_lem : Nearest x es → (plain (Next x) es).answer ≡ NextLot y v
      by_nearest_lem (nowhere none) = absurd (omega (arith, none_below x es none y v f.there, f.above))
      by_nearest_lem (begins e rest some first) =
          let key : e.key ≡ y = omega (arith, first.first y v f.there f.above, f.first e.key e.value first.there first.above) in
          let value : e.value ≡ v
          = sym (among_information e.key e.value es first.there r) ∙ ap (λ (z : ℕ). information z es) key ∙ among_information y v es f.there r in
          next_begins x es e rest some ∙ ap₂ NextLot key value

  next : (x y v : ℕ) → (plain (Next x) es).answer ≡ NextLot y v → FirstFrom x y v es
  next x y v h = by_nearest_lem (nearest x es r)
    where
      by_nearest_lem : Nearest x es → FirstFrom x y v es
      by_nearest_lem (nowhere none) = clashes (sym (next_none x es none) ∙ h) (λ q. omega (arith, q))
      by_nearest_lem (begins e rest some first) =
          let same : NextLot e.key e.value ≡ NextLot y v = sym (next_begins x es e rest some) ∙ h in
          subst (λ (w : ℕ). FirstFrom x y w es) (ap told_too same) (subst (λ (z : ℕ). FirstFrom x z e.value es) (ap told same) first)

  none : (x : ℕ) → AllBelow x es → (plain (Next x) es).answer ≡ NoLot
  none x below = next_none x es (below_none x es below)

  none_above : (x : ℕ) → (plain (Next x) es).answer ≡ NoLot → AllBelow x es
  none_above x h = by_nearest_lem (nearest x es r)
    where
      by_nearest_lem : Nearest x es → AllBelow x es
      by_nearest_lem (nowhere none) = none_below x es none
      by_nearest_lem (begins e rest some first) = clashes (sym (next_begins x es e rest some) ∙ h) (λ q. omega (arith, q))

  regraded_old : (x w v : ℕ) → (plain (Regrade x w First) es).answer ≡ Regraded v → Among x v es
  regraded_old x w v e =
      ⊎_elim
      (λ t. subst (λ (u : ℕ). Among x u es) (ap told (sym (ap (λ (p : Reply). p.answer) (regrade_there x w es t)) ∙ e)) (has_among x es t))
      (λ f. clashes (sym (ap (λ (p : Reply). p.answer) (regrade_missing x w es f)) ∙ e) (λ q. omega (arith, q)))
      (true_or_false (has x es))

  regraded_found : (x w v : ℕ) → (plain (Regrade x w First) es).answer ≡ Regraded v → (plain (Search x) (plain (Regrade x w First) es).entries).answer ≡ Found w
  regraded_found x w v e =
      let t : has x es ≡ true = among_has x v es (regraded_old x w v e) in
      ap (λ (p : Reply). (plain (Search x) p.entries).answer) (regrade_there x w es t)
      ∙ search_there x (regraded x w es) (has_regraded x w x es ∙ t)
      ∙ ap (λ (u : ℕ). Found u) (information_regraded x w es t)

  regraded_keys : (x w : ℕ) → map key_of (plain (Regrade x w First) es).entries ≡ map key_of es
  regraded_keys x w =
      ⊎_elim
      (λ t. ap (λ (p : Reply). map key_of p.entries) (regrade_there x w es t) ∙ keys_regraded x w es)
      (λ f. ap (λ (p : Reply). map key_of p.entries) (regrade_missing x w es f))
      (true_or_false (has x es))

  others_first : (op : Op) (y : ℕ) → y ≢ keyOfOp op → (plain (Search y) (plain (first_way op) es).entries).answer ≡ (plain (Search y) es).answer
  others_first (Search x) y n = ap (λ (l : List Entry). (plain (Search y) l).answer) (search_keeps x es)
  others_first (Insert x v way) y n =
      ⊎_elim
      (λ t. ap (λ (p : Reply). (plain (Search y) p.entries).answer) (insert_there x v es t))
      (λ f. ap (λ (p : Reply). (plain (Search y) p.entries).answer) (insert_missing x v es f)
      ∙ search_same y (inserted x v es) es (has_inserted_other x v es y n) (information_inserted_other x v es y n))
      (true_or_false (has x es))
  others_first (Delete x way) y n =
      ⊎_elim
      (λ t. ap (λ (p : Reply). (plain (Search y) p.entries).answer) (delete_there x es t)
      ∙ search_same y (without x es) es (has_without_other x y es n) (information_without_other x y es n))
      (λ f. ap (λ (p : Reply). (plain (Search y) p.entries).answer) (delete_missing x es f))
      (true_or_false (has x es))
  others_first (Next x) y n = ap (λ (l : List Entry). (plain (Search y) l).answer) (next_keeps x es)
  others_first (Regrade x w way) y n =
      ⊎_elim
      (λ t. ap (λ (p : Reply). (plain (Search y) p.entries).answer) (regrade_there x w es t)
      ∙ search_same y (regraded x w es) es (has_regraded x w y es) (information_regraded_other x w y es n))
      (λ f. ap (λ (p : Reply). (plain (Search y) p.entries).answer) (regrade_missing x w es f))
      (true_or_false (has x es))

  others : (op : Op) (y : ℕ) → y ≢ keyOfOp op → (plain (Search y) (plain op es).entries).answer ≡ (plain (Search y) es).answer
  others op y n = ap (λ (p : Reply). (plain (Search y) p.entries).answer) (plain_ways op es) ∙ others_first op y n

  -- The plain list's laws hold of every list whose keys rise.
  pub plain_facts : PlainFacts es
  plain_facts = record {
    rising = rising;
    ways = λ op. plain_ways op es;
    finds = λ x v a. search_there x es (among_has x v es a) ∙ ap (λ (w : ℕ). Found w) (among_information x v es a r);
    found = found;
    not_found = λ x m. search_missing x es (missing_has x es m);
    search_keeps = λ x. search_keeps x es;
    inserts = λ x v m. ap (λ (p : Reply). p.answer) (insert_missing x v es (missing_has x es m));
    inserted_found = inserted_found;
    already = λ x v w a.
        ap (λ (p : Reply). p.answer) (insert_there x v es (among_has x w es a)) ∙ ap (λ (u : ℕ). AlreadyThere u) (among_information x w es a r);
    already_keeps = λ x v w a. ap (λ (p : Reply). p.entries) (insert_there x v es (among_has x w es a));
    deletes = λ x v a.
        ap (λ (p : Reply). p.answer) (delete_there x es (among_has x v es a)) ∙ ap (λ (w : ℕ). Deleted w) (among_information x v es a r);
    deleted = deleted;
    deleted_gone = deleted_gone;
    no_such_key = λ x m. ap (λ (p : Reply). p.answer) (delete_missing x es (missing_has x es m));
    no_such_key_keeps = λ x m. ap (λ (p : Reply). p.entries) (delete_missing x es (missing_has x es m));
    nexts = nexts;
    next = next;
    none = none;
    none_above = none_above;
    next_keeps = λ x. next_keeps x es;
    regrades = λ x w v a.
        ap (λ (p : Reply). p.answer) (regrade_there x w es (among_has x v es a)) ∙ ap (λ (u : ℕ). Regraded u) (among_information x v es a r);
    regraded = regraded_old;
    regraded_found = regraded_found;
    regraded_there = λ x w v a. ap (λ (p : Reply). p.entries) (regrade_there x w es (among_has x v es a)) ∙ regraded_among x w v es r a;
    regraded_keys = regraded_keys;
    none_to_regrade = λ x w m. ap (λ (p : Reply). p.answer) (regrade_missing x w es (missing_has x es m));
    none_to_regrade_keeps = λ x w m. ap (λ (p : Reply). p.entries) (regrade_missing x w es (missing_has x es m));
    others = others;
  }
