-- A page's words after a change where they lie, against the words of the changed value. A page's words are those before the
-- pairs, the pairs' words and zeros; a cut between two pairs is a cut of the words, and the change is made at the cut.
use Prim.Native.Nat.{ℕ, suc, ◌+◌, ◌-◌, ◌*◌, ◌≤◌, ◌<◌}
use mathlib.Core.Bool.{true, false}
use mathlib.Core.List.{List, [], ◌∷◌, ◌++◌, append_assoc}
use mathlib.Core.Path.{◌≡◌, refl, sym, ap, ◌∙◌}
use native.Mathlib.Omega.{arith}
use lib.ListN.{length, get_or, set, take, drop, replicate, length-append, length-drop, take-append-drop}
use lib.Seq.{paste, take_at, drop_at, set_at, drop-drop, drop-append-add, split_at, length-take-le}
use Rattle.ground.specs.Limits.{largest_k}
use Rattle.page.specs.Words.{Entry, Page, entry, page, μ, flat, encode, view, pairs_from, size}
use Rattle.page.specs.Place.{place, has, regraded}
use Rattle.page.specs.Sound.{rises}
use Rattle.page.specs.Splits.{with_entries, put, entry_at}
use Rattle.page.specs.Short.{less_key, rekeyed}
use Rattle.page.specs.Exact.{Exact}
use Rattle.sheet.specs.Sheets.{before_pairs}
use Rattle.page.proofs.WordLaws.{length_flat, pairs_from_most, view_μ}
use Rattle.page.proofs.PlaceLaws.{place_most, has_place}
use Rattle.page.proofs.RegradeLaws.{regraded_none, regraded_at}
use Rattle.page.proofs.ReadingLaws.{view_level}
use Rattle.sheet.proofs.FlatLaws.{flat_append, length_front, pairs_from_least, encode_front}

module _ (F : List ℕ) (a : List Entry) where
  -- words cut before pair b
  cut_words : (b : List Entry) (zs : List ℕ) → F ++ (flat (a ++ b) ++ zs) ≡ F ++ flat a ++ (flat b ++ zs)
  cut_words b zs =
      ap (λ (r : List ℕ). F ++ (r ++ zs)) (flat_append a b)
      ∙ ap (λ (r : List ℕ). F ++ r) (append_assoc (flat a) (flat b) zs)
      ∙ sym (append_assoc F (flat a) (flat b ++ zs))

  cut_place : length (F ++ flat a) ≡ length F + 2 * length a
  cut_place = length-append F (flat a) ∙ ap (λ (n : ℕ). length F + n) (length_flat a)

  -- two words put in at the cut
  put_words : (b : List Entry) (zs : List ℕ) (x v : ℕ) {p n : ℕ} → p ≡ length F + 2 * length a → n ≡ 2 * length b + 2
      → paste (F ++ (flat (a ++ b) ++ zs)) p (x ∷ v ∷ drop p (F ++ (flat (a ++ b) ++ zs))) n ≡ F ++ (flat (a ++ entry x v ∷ b) ++ drop 2 zs)
  unfolding flat
  put_words b zs x v {p} {n} place count =
      let A : List ℕ = F ++ flat a in
      let B : List ℕ = flat b ++ zs in
      let cut : length A ≡ p = cut_place ∙ sym place in
      let words : length (flat b) ≡ 2 * length b = length_flat b in
      let run : n ≡ suc (suc (length (flat b))) = omega arith in
      let past : n ≡ length (flat b) + 2 = omega arith in
      ap (λ (u : List ℕ). paste u p (x ∷ v ∷ drop p u) n) (cut_words b zs)
      ∙ ap (λ (u : List ℕ). u ++ take n (x ∷ v ∷ drop p (A ++ B)) ++ drop (p + n) (A ++ B)) (take_at A B p cut)
      ∙ ap (λ (u : List ℕ). A ++ take n (x ∷ v ∷ u) ++ drop (p + n) (A ++ B)) (drop_at A B p cut)
      ∙ ap (λ (u : List ℕ). A ++ u ++ drop (p + n) (A ++ B))
      (ap (λ (m : ℕ). take m (x ∷ v ∷ B)) run ∙ ap (λ (u : List ℕ). x ∷ v ∷ u) (take_at (flat b) zs (length (flat b)) refl))
      ∙ ap (λ (u : List ℕ). A ++ (x ∷ v ∷ flat b) ++ u)
      (sym (drop-drop n p (A ++ B)) ∙ ap (drop n) (drop_at A B p cut) ∙ ap (λ (m : ℕ). drop m B) past ∙ drop-append-add (flat b) zs 2)
      ∙ append_assoc A (x ∷ v ∷ flat b) (drop 2 zs)
      ∙ sym (cut_words (entry x v ∷ b) (drop 2 zs))

  -- the two words at the cut taken out, and two zeros behind the pairs
  pull_words : (e : Entry) (b : List Entry) (zs : List ℕ) {p n q : ℕ} → p ≡ length F + 2 * length a → n ≡ 2 * length b → q ≡ p + 2 + n
      → take p (F ++ (flat (a ++ e ∷ b) ++ zs))
      ++ take n (drop (p + 2) (F ++ (flat (a ++ e ∷ b) ++ zs)))
      ++ 0 ∷ 0 ∷ drop q (F ++ (flat (a ++ e ∷ b) ++ zs))
      ≡ F ++ (flat (a ++ b) ++ 0 ∷ 0 ∷ zs)
  unfolding flat
  pull_words e b zs {p} {n} {q} place count end =
      let A : List ℕ = F ++ flat a in
      let B : List ℕ = flat b ++ zs in
      let whole : List ℕ = A ++ e.key ∷ e.value ∷ B in
      let cut : length A ≡ p = cut_place ∙ sym place in
      let words : length (flat b) ≡ n = length_flat b ∙ sym count in
      let behind : drop (p + 2) whole ≡ B = sym (drop-drop 2 p whole) ∙ ap (drop 2) (drop_at A (e.key ∷ e.value ∷ B) p cut) in
      ap (λ (u : List ℕ). take p u ++ take n (drop (p + 2) u) ++ 0 ∷ 0 ∷ drop q u) (cut_words (e ∷ b) zs)
      ∙ ap (λ (u : List ℕ). u ++ take n (drop (p + 2) whole) ++ 0 ∷ 0 ∷ drop q whole) (take_at A (e.key ∷ e.value ∷ B) p cut)
      ∙ ap (λ (u : List ℕ). A ++ take n u ++ 0 ∷ 0 ∷ drop q whole) behind
      ∙ ap (λ (u : List ℕ). A ++ u ++ 0 ∷ 0 ∷ drop q whole) (take_at (flat b) zs n words)
      ∙ ap (λ (u : List ℕ). A ++ flat b ++ 0 ∷ 0 ∷ u)
      (ap (λ (m : ℕ). drop m whole) end ∙ sym (drop-drop n (p + 2) whole) ∙ ap (drop n) behind ∙ drop_at (flat b) zs n words)
      ∙ append_assoc A (flat b) (0 ∷ 0 ∷ zs)
      ∙ sym (cut_words b (0 ∷ 0 ∷ zs))

  -- another key at the cut
  rekey_words : (e : Entry) (b : List Entry) (zs : List ℕ) (r : ℕ) {p : ℕ} → p ≡ length F + 2 * length a
      → set (F ++ (flat (a ++ e ∷ b) ++ zs)) p r ≡ F ++ (flat (a ++ entry r e.value ∷ b) ++ zs)
  unfolding flat
  rekey_words e b zs r {p} place =
      ap (λ (u : List ℕ). set u p r) (cut_words (e ∷ b) zs)
      ∙ set_at (F ++ flat a) e.key (e.value ∷ (flat b ++ zs)) r p (cut_place ∙ sym place)
      ∙ sym (cut_words (entry r e.value ∷ b) zs)

  -- another value at the cut: it is the word behind the key
  revalue_words : (e : Entry) (b : List Entry) (zs : List ℕ) (v : ℕ) {p : ℕ} → p ≡ length F + 2 * length a + 1
      → set (F ++ (flat (a ++ e ∷ b) ++ zs)) p v ≡ F ++ (flat (a ++ entry e.key v ∷ b) ++ zs)
  unfolding flat
  revalue_words e b zs v {p} place =
      let A : List ℕ = F ++ flat a in
      let key : List ℕ = e.key ∷ [] in
      ap (λ (u : List ℕ). set u p v) (cut_words (e ∷ b) zs ∙ sym (append_assoc A key (e.value ∷ (flat b ++ zs))))
      ∙ set_at (A ++ key) e.value (flat b ++ zs) v p (length-append A key ∙ ap (λ (n : ℕ). n + 1) cut_place ∙ sym place)
      ∙ append_assoc A key (v ∷ (flat b ++ zs))
      ∙ sym (cut_words (entry e.key v ∷ b) zs)

module _ (k l f : ℕ) (a b : List Entry) where
  -- a pair put in between a and b
  put_encoded : (x v : ℕ) {p n : ℕ} {ws : List ℕ} → ws ≡ encode k (page l f (a ++ b)) → length (a ++ b) < 2 * k → p ≡ pairs_from l + 2 * length a
      → n ≡ 2 * length b + 2
      → paste (set ws 1 (get_or ws 1 0 + 1)) p (x ∷ v ∷ drop p (set ws 1 (get_or ws 1 0 + 1))) n ≡ encode k (page l f (a ++ entry x v ∷ b))
  put_encoded x v {p} {n} {ws} e room place count =
      let m : ℕ = length (a ++ b) in
      let F : List ℕ = before_pairs l (m + 1) f in
      let before : length (a ++ b) ≡ length a + length b = length-append a b in
      let more : length (a ++ entry x v ∷ b) ≡ m + 1 = omega (arith, length-append a (entry x v ∷ b)) in
      let most : pairs_from l ≤ 3 = pairs_from_most l in
      let zeros : size k - (pairs_from l + 2 * m) ≡ suc (suc (size k - (pairs_from l + 2 * (m + 1)))) = omega arith in
      ap (λ (u : List ℕ). paste (set u 1 (get_or u 1 0 + 1)) p (x ∷ v ∷ drop p (set u 1 (get_or u 1 0 + 1))) n) (e ∙ encode_front k (page l f (a ++ b)))
      ∙ put_words F a b (replicate (size k - (pairs_from l + 2 * m)) 0) x v (place ∙ ap (λ (z : ℕ). z + 2 * length a) (sym (length_front l (m + 1) f))) count
      ∙ ap (λ (z : ℕ). F ++ (flat (a ++ entry x v ∷ b) ++ drop 2 (replicate z 0))) zeros
      ∙ ap (λ (z : ℕ). before_pairs l z f ++ (flat (a ++ entry x v ∷ b) ++ replicate (size k - (pairs_from l + 2 * z)) 0)) (sym more)
      ∙ sym (encode_front k (page l f (a ++ entry x v ∷ b)))

  -- the pair between a and b taken out
  pull_encoded : (e : Entry) {p n q : ℕ} {ws : List ℕ} → ws ≡ encode k (page l f (a ++ e ∷ b)) → length (a ++ e ∷ b) ≤ 2 * k
      → p ≡ pairs_from l + 2 * length a → n ≡ 2 * length b → q ≡ p + 2 + n
      → take p (set ws 1 (get_or ws 1 0 - 1))
      ++ take n (drop (p + 2) (set ws 1 (get_or ws 1 0 - 1)))
      ++ 0 ∷ 0 ∷ drop q (set ws 1 (get_or ws 1 0 - 1))
      ≡ encode k (page l f (a ++ b))
  pull_encoded e {p} {n} {q} {ws} same room place count end =
      let m : ℕ = length (a ++ e ∷ b) in
      let F : List ℕ = before_pairs l (m - 1) f in
      let before : length (a ++ b) ≡ length a + length b = length-append a b in
      let less : m - 1 ≡ length (a ++ b) = omega (arith, length-append a (e ∷ b)) in
      let one : m ≡ suc (length (a ++ b)) = omega (arith, length-append a (e ∷ b)) in
      let most : pairs_from l ≤ 3 = pairs_from_most l in
      let zeros : suc (suc (size k - (pairs_from l + 2 * m))) ≡ size k - (pairs_from l + 2 * length (a ++ b)) = omega arith in
      ap (λ (u : List ℕ). take p (set u 1 (get_or u 1 0 - 1)) ++ take n (drop (p + 2) (set u 1 (get_or u 1 0 - 1))) ++ 0 ∷ 0 ∷ drop q (set u 1 (get_or u 1 0 - 1)))
      (same ∙ encode_front k (page l f (a ++ e ∷ b)))
      ∙ pull_words F a e b (replicate (size k - (pairs_from l + 2 * m)) 0) (place ∙ ap (λ (z : ℕ). z + 2 * length a) (sym (length_front l (m - 1) f))) count end
      ∙ ap (λ (z : ℕ). F ++ (flat (a ++ b) ++ replicate z 0)) zeros
      ∙ ap (λ (z : ℕ). before_pairs l z f ++ (flat (a ++ b) ++ replicate (size k - (pairs_from l + 2 * length (a ++ b))) 0)) less
      ∙ sym (encode_front k (page l f (a ++ b)))

  -- one word set makes the pair e between a and b another one
  pair_encoded : (e other : Entry) (r : ℕ) {p : ℕ} {ws : List ℕ} → ws ≡ encode k (page l f (a ++ e ∷ b))
      → ((F zs : List ℕ) → length F ≡ pairs_from l → set (F ++ (flat (a ++ e ∷ b) ++ zs)) p r ≡ F ++ (flat (a ++ other ∷ b) ++ zs))
      → set ws p r ≡ encode k (page l f (a ++ other ∷ b))
  pair_encoded e other r {p} {ws} same words =
      let m : ℕ = length (a ++ e ∷ b) in
      let as_many : length (a ++ other ∷ b) ≡ m = length-append a (other ∷ b) ∙ sym (length-append a (e ∷ b)) in
      ap (λ (u : List ℕ). set u p r) (same ∙ encode_front k (page l f (a ++ e ∷ b)))
      ∙ words (before_pairs l m f) (replicate (size k - (pairs_from l + 2 * m)) 0) (length_front l m f)
      ∙ ap (λ (z : ℕ). before_pairs l z f ++ (flat (a ++ other ∷ b) ++ replicate (size k - (pairs_from l + 2 * z)) 0)) (sym as_many)
      ∙ sym (encode_front k (page l f (a ++ other ∷ b)))

  -- another key for it
  rekey_encoded : (e : Entry) (r : ℕ) {p : ℕ} {ws : List ℕ} → ws ≡ encode k (page l f (a ++ e ∷ b)) → p ≡ pairs_from l + 2 * length a
      → set ws p r ≡ encode k (page l f (a ++ entry r e.value ∷ b))
  rekey_encoded e r same place =
      pair_encoded e (entry r e.value) r same (λ F zs long. rekey_words F a e b zs r (place ∙ ap (λ (z : ℕ). z + 2 * length a) (sym long)))

  -- another value for it
  revalue_encoded : (e : Entry) (v : ℕ) {p : ℕ} {ws : List ℕ} → ws ≡ encode k (page l f (a ++ e ∷ b)) → p ≡ pairs_from l + 2 * length a + 1
      → set ws p v ≡ encode k (page l f (a ++ entry e.key v ∷ b))
  revalue_encoded e v same place =
      pair_encoded e (entry e.key v) v same (λ F zs long. revalue_words F a e b zs v (place ∙ ap (λ (z : ℕ). z + 2 * length a + 1) (sym long)))

-- Where things lie in words that are exactly a page's.
pub record Bounds (k : ℕ) (ws : List ℕ) : Type 0 where
  pub long : length ws ≡ size k
  pub counted : μ (view ws) ≡ get_or ws 1 0
  pub few : get_or ws 1 0 ≤ 2 * k
  pub low : 2 ≤ pairs_from (get_or ws 0 0)
  pub high : pairs_from (get_or ws 0 0) ≤ 3

pub bounds : {k : ℕ} {ws : List ℕ} → Exact k ws → Bounds k ws
bounds {k} {ws} exact =
    record {
      long = exact.whole;
      counted = view_μ k ws exact.whole exact.in_room;
      few = exact.in_room;
      low = pairs_from_least (get_or ws 0 0);
      high = pairs_from_most (get_or ws 0 0);
    }

-- k is small, so that sums of places fit
pub small_k : {k : ℕ} → k ≤ largest_k → k ≤ 16
unfolding largest_k
small_k h = h

module _ {k : ℕ} {ws : List ℕ} (exact : Exact k ws) (i : ℕ) {at : ℕ} (from : at ≡ pairs_from (get_or ws 0 0)) where
  -- what `put_in` leaves are the words of the page with a pair more
  pub put_exact : (x v : ℕ) {m : ℕ} → μ (view ws) < 2 * k → i ≤ μ (view ws) → m ≡ get_or ws 1 0
      → paste (set ws 1 (get_or ws 1 0 + 1)) (at + 2 * i) (x ∷ v ∷ drop (at + 2 * i) (set ws 1 (get_or ws 1 0 + 1))) (at + 2 * m + 2 - (at + 2 * i))
      ≡ encode k (put i (entry x v) (view ws))
  unfolding put
  put_exact x v {m} room inside all =
      let P : Page = view ws in
      let es : List Entry = P.entries in
      let level : P.level ≡ get_or ws 0 0 = view_level ws in
      let start : pairs_from P.level ≡ at = ap pairs_from level ∙ sym from in
      let near = bounds exact in
      let parts : take i es ++ drop i es ≡ es = take-append-drop i es in
      let before : length (take i es) ≡ i = length-take-le i es inside in
      let behind : length (drop i es) ≡ length es - i = length-drop i es in
      let place : at + 2 * i ≡ pairs_from P.level + 2 * length (take i es) = omega arith in
      let count : at + 2 * m + 2 - (at + 2 * i) ≡ 2 * length (drop i es) + 2 = omega arith in
      put_encoded k P.level P.first (take i es) (drop i es) x v
      (exact.words ∙ ap (λ (z : List Entry). encode k (page P.level P.first z)) (sym parts))
      (rw parts room)
      place
      count

  module _ (inside : i < μ (view ws)) where
    -- the pairs before pair i, pair i, those behind it
    around : (view ws).entries ≡ take i (view ws).entries ++ entry_at i (view ws).entries ∷ drop (suc i) (view ws).entries
    around = split_at (view ws).entries i (entry 0 0) inside

    cut_exact : ws ≡ encode k (page (view ws).level (view ws).first (take i (view ws).entries ++ entry_at i (view ws).entries ∷ drop (suc i) (view ws).entries))
    cut_exact = exact.words ∙ ap (λ (z : List Entry). encode k (page (view ws).level (view ws).first z)) around

    place_exact : at + 2 * i ≡ pairs_from (view ws).level + 2 * length (take i (view ws).entries)
    place_exact =
        let start : pairs_from (view ws).level ≡ at = ap pairs_from (view_level ws) ∙ sym from in
        let before : length (take i (view ws).entries) ≡ i = length-take-le i (view ws).entries (omega arith) in
        omega arith

    -- what `take_out` leaves are the words of the page less the pair
    pub pull_exact : {m : ℕ} → m ≡ get_or ws 1 0
        → take (at + 2 * i) (set ws 1 (get_or ws 1 0 - 1))
        ++ take (at + 2 * m - 2 - (at + 2 * i)) (drop (at + 2 * i + 2) (set ws 1 (get_or ws 1 0 - 1)))
        ++ 0 ∷ 0 ∷ drop (at + 2 * m) (set ws 1 (get_or ws 1 0 - 1))
        ≡ encode k (less_key i (view ws))
    unfolding less_key
    pull_exact {m} all =
        let P : Page = view ws in
        let es : List Entry = P.entries in
        let near = bounds exact in
        let behind : length (drop (suc i) es) ≡ length es - suc i = length-drop (suc i) es in
        let count : at + 2 * m - 2 - (at + 2 * i) ≡ 2 * length (drop (suc i) es) = omega arith in
        let end : at + 2 * m ≡ at + 2 * i + 2 + (at + 2 * m - 2 - (at + 2 * i)) = omega arith in
        let whole : length es ≡ length (take i es ++ entry_at i es ∷ drop (suc i) es) = ap length around in
        pull_encoded k P.level P.first (take i es) (drop (suc i) es) (entry_at i es) cut_exact (omega arith) place_exact count end

    -- what `rekey` leaves are the words of the page with another key
    pub rekey_exact : (r : ℕ) → set ws (at + 2 * i) r ≡ encode k (rekeyed i r (view ws))
    unfolding rekeyed
    rekey_exact r =
        let P : Page = view ws in
        let es : List Entry = P.entries in
        rekey_encoded k P.level P.first (take i es) (drop (suc i) es) (entry_at i es) r cut_exact place_exact

-- what `regrade` leaves are the words of the page with new information under the key, which stands just before its place
pub regrade_exact : {k : ℕ} {ws : List ℕ} → Exact k ws → (x v : ℕ) {behind at : ℕ} → behind ≡ place x (view ws).entries
    → at ≡ pairs_from (get_or ws 0 0) → rises (view ws).entries ≡ true → has x (view ws).entries ≡ true
    → set ws (at + 2 * behind - 1) v ≡ encode k (with_entries (view ws) (regraded x v (view ws).entries))
regrade_exact {k} {ws} exact x v {behind} {at} place from up there =
    let P : Page = view ws in
    let es : List Entry = P.entries in
    let stands = has_place x es up there in
    let i : ℕ = behind - 1 in
    let inside : i < length es = omega (arith, place_most x es) in
    let index : at + 2 * behind - 1 ≡ at + 2 * i + 1 = omega arith in
    let key : (entry_at i es).key ≡ x = ap (λ (z : ℕ). (entry_at (z - 1) es).key) place ∙ stands.1 in
    ap (λ (z : ℕ). set ws z v) index
    ∙ revalue_encoded k P.level P.first (take i es) (drop (suc i) es) (entry_at i es) v (cut_exact exact i from inside)
    (ap (λ (z : ℕ). z + 1) (place_exact exact i from inside))
    ∙ ap (λ (l : List Entry). encode k (with_entries P l))
    (ap (λ (z : ℕ). take i es ++ entry z v ∷ drop (suc i) es) key ∙ sym (regraded_at x v es up i inside key))

-- where the key does not stand, they are the words as they are
pub regrade_none : {k : ℕ} {ws : List ℕ} → Exact k ws → (x v : ℕ) → has x (view ws).entries ≡ false
    → ws ≡ encode k (with_entries (view ws) (regraded x v (view ws).entries))
regrade_none {k} {ws} exact x v none =
    exact.words ∙ ap (λ (l : List Entry). encode k (with_entries (view ws) l)) (sym (regraded_none x v (view ws).entries none))
