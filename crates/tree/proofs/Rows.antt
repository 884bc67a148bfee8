-- Laws of rows: a row cut in two, two rows joined, a thing replaced, and the thing to which a key belongs.
use Prim.Native.Nat.{ℕ, suc, ◌+◌, ◌≤◌, ◌<◌}
use mathlib.Core.List.{List, [], ◌∷◌, ◌++◌, append_assoc}
use mathlib.Core.Logic.{◌⊎◌, inl, inr, ⊎_elim}
use mathlib.Core.Path.{◌≡◌, refl, sym, ap, ◌∙◌, subst}
use native.Mathlib.Omega.{arith}
use borrow.Author.Tests.{leb-true, leb-false, le-leb, lt-leb}
use lib.Dec.{leb}
use lib.ListN.{length}
use Rattle.ground.specs.Tests.{count}
pub use Rattle.ground.proofs.Choice.{by_test}
use Rattle.ground.proofs.Choice.{cond-true, cond-false}
use Rattle.page.specs.Words.{Keyed, Entry}
use Rattle.page.specs.Place.{place}
use Rattle.tree.specs.Rows.{head_key, Span, Somewhere, Each, gathered, total, followed}

-- a joined row begins where its first part does, which ends where the second begins
pub head_key_append : {C : Type 0} (xs ys : List (Keyed C)) (hi : ℕ) → head_key (xs ++ ys) hi ≡ head_key xs (head_key ys hi)
head_key_append [] ys hi = refl
head_key_append (d ∷ ds) ys hi = refl

-- the first part of a spanned row spans up to where the second begins
pub span_left : {C : Type 0} (P : C → ℕ → ℕ → Type 0) (xs ys : List (Keyed C)) (hi : ℕ) → Span P (xs ++ ys) hi → Span P xs (head_key ys hi)
span_left P [] ys hi s = tt
span_left P (d ∷ []) ys hi s = (s.0, s.1, tt)
span_left P (d ∷ (e ∷ es)) ys hi s = (s.0, s.1, span_left P (e ∷ es) ys hi s.2)

-- the second part of a spanned row spans up to its end
pub span_right : {C : Type 0} (P : C → ℕ → ℕ → Type 0) (xs ys : List (Keyed C)) (hi : ℕ) → Span P (xs ++ ys) hi → Span P ys hi
span_right P [] ys hi s = s
span_right P (d ∷ ds) ys hi s = span_right P ds ys hi s.2

-- two spanned rows of which the first ends where the second begins join into a spanned row
pub span_append : {C : Type 0} (P : C → ℕ → ℕ → Type 0) (xs ys : List (Keyed C)) (hi : ℕ) → Span P xs (head_key ys hi) → Span P ys hi → Span P (xs ++ ys) hi
span_append P [] ys hi s t = t
span_append P (d ∷ []) ys hi s t = (s.0, s.1, t)
span_append P (d ∷ (e ∷ es)) ys hi s t = (s.0, s.1, span_append P (e ∷ es) ys hi s.2 t)

-- a spanned row begins at or before its end
pub head_key_most : {C : Type 0} (P : C → ℕ → ℕ → Type 0) (row : List (Keyed C)) (hi : ℕ) → Span P row hi → head_key row hi ≤ hi
head_key_most P [] hi s = omega arith
head_key_most P (d ∷ ds) hi s = let ih = head_key_most P ds hi s.2 in omega (arith, s.0)

-- each key of the row has P
abbrev pub Keys : {C : Type 0} → (ℕ → Type 0) → List (Keyed C) → Type 0
Keys P [] = Unit {0}
Keys P (d ∷ ds) = P d.key × Keys P ds

-- what P tells of a key, told of each
pub keys_map : {C : Type 0} (P Q : ℕ → Type 0) (row : List (Keyed C)) → ((k : ℕ) → P k → Q k) → Keys P row → Keys Q row
keys_map P Q [] f h = tt
keys_map P Q (d ∷ ds) f h = (f d.key h.0, keys_map P Q ds f h.1)

-- every key of a spanned row is below its end
pub keys_below : {C : Type 0} (P : C → ℕ → ℕ → Type 0) (row : List (Keyed C)) (hi : ℕ) → Span P row hi → Keys (λ k. k < hi) row
keys_below P [] hi s = tt
keys_below P (d ∷ ds) hi s = (let m = head_key_most P ds hi s.2 in omega (arith, s.0), keys_below P ds hi s.2)

-- every key of a spanned row is at least lo, where its first one is
pub keys_from : {C : Type 0} (P : C → ℕ → ℕ → Type 0) (row : List (Keyed C)) (lo hi : ℕ) → lo ≤ head_key row hi → Span P row hi → Keys (λ k. lo ≤ k) row
keys_from P [] lo hi l s = tt
keys_from P (d ∷ ds) lo hi l s = (l, keys_from P ds lo hi (omega (arith, s.0)) s.2)

-- A thing d in a spanned row: its range is not empty,
pub middle_rises : {C : Type 0} (P : C → ℕ → ℕ → Type 0) (xs : List (Keyed C)) (d : Keyed C) (ys : List (Keyed C)) (hi : ℕ) → Span P (xs ++ d ∷ ys) hi → d.key < head_key ys hi
middle_rises P xs d ys hi s = (span_right P xs (d ∷ ys) hi s).0

-- it has P with its range,
pub middle_has : {C : Type 0} (P : C → ℕ → ℕ → Type 0) (xs : List (Keyed C)) (d : Keyed C) (ys : List (Keyed C)) (hi : ℕ) → Span P (xs ++ d ∷ ys) hi → P d.value d.key (head_key ys hi)
middle_has P xs d ys hi s = (span_right P xs (d ∷ ys) hi s).1

-- what stands before it spans up to its key,
pub middle_before : {C : Type 0} (P : C → ℕ → ℕ → Type 0) (xs : List (Keyed C)) (d : Keyed C) (ys : List (Keyed C)) (hi : ℕ) → Span P (xs ++ d ∷ ys) hi → Span P xs d.key
middle_before P xs d ys hi s = span_left P xs (d ∷ ys) hi s

-- and what stands behind it spans up to the end.
pub middle_after : {C : Type 0} (P : C → ℕ → ℕ → Type 0) (xs : List (Keyed C)) (d : Keyed C) (ys : List (Keyed C)) (hi : ℕ) → Span P (xs ++ d ∷ ys) hi → Span P ys hi
middle_after P xs d ys hi s = (span_right P xs (d ∷ ys) hi s).2

-- a part of a spanned row replaced by another with the same ends
pub span_replace : {C : Type 0} (P : C → ℕ → ℕ → Type 0) (xs old new ys : List (Keyed C)) (hi : ℕ)
    → Span P (xs ++ (old ++ ys)) hi → Span P new (head_key ys hi) → head_key new (head_key ys hi) ≡ head_key old (head_key ys hi)
    → Span P (xs ++ (new ++ ys)) hi
span_replace P xs old new ys hi s n e =
    let same : head_key (old ++ ys) hi ≡ head_key (new ++ ys) hi = head_key_append old ys hi ∙ sym e ∙ sym (head_key_append new ys hi) in
    span_append P xs (new ++ ys) hi
    (subst (λ (m : ℕ). Span P xs m) same (span_left P xs (old ++ ys) hi s))
    (span_append P new ys hi n (span_right P old ys hi (span_right P xs (old ++ ys) hi s)))

-- Where x belongs in a row: the thing whose range has x, and what stands before and behind it.
pub record Spot {C : Type 0} (x : ℕ) (row : List (Keyed C)) (hi : ℕ) : Type 0 where
  pub before : List (Keyed C)
  pub here : Keyed C
  pub after : List (Keyed C)
  pub whole : row ≡ before ++ here ∷ after
  pub from : here.key ≤ x
  pub to : x < head_key after hi

-- where x belongs in a row, it belongs in that row behind one more thing
spot_behind : {C : Type 0} (x : ℕ) (d : Keyed C) (ds : List (Keyed C)) (hi : ℕ) → Spot x ds hi → Spot x (d ∷ ds) hi
spot_behind {C} x d ds hi s =
    record { before = d ∷ s.before; here = s.here; after = s.after; whole = ap (λ (l : List (Keyed C)). d ∷ l) s.whole; from = s.from; to = s.to }

-- a key in the range of a spanned row belongs to one of its things
pub spot : {C : Type 0} (P : C → ℕ → ℕ → Type 0) (x : ℕ) (row : List (Keyed C)) (hi : ℕ) → Span P row hi → head_key row hi ≤ x → x < hi → Spot x row hi
spot P x [] hi s low up = absurd (omega arith)
spot P x (d ∷ ds) hi s low up =
    by_test (leb (head_key ds hi) x)
    (λ t. spot_behind x d ds hi (spot P x ds hi s.2 (leb-true (head_key ds hi) x t) up))
    (λ t. record { before = []; here = d; after = ds; whole = refl; from = low; to = leb-false (head_key ds hi) x t })

-- x is followed to the thing whose range has it
pub followed_spot : {C B : Type 0} (P : C → ℕ → ℕ → Type 0) (f : C → B) (none : B) (x : ℕ) (xs : List (Keyed C)) (d : Keyed C) (ys : List (Keyed C)) (hi : ℕ)
    → Span P (xs ++ d ∷ ys) hi → d.key ≤ x → x < head_key ys hi → followed f none x (xs ++ d ∷ ys) ≡ f d.value
followed_spot P f none x [] d [] hi s from to = refl
followed_spot P f none x [] d (e ∷ es) hi s from to = cond-false _ _ (lt-leb e.key x to)
followed_spot P f none x (a ∷ []) d ys hi s from to = cond-true _ _ (le-leb d.key x from) ∙ followed_spot P f none x [] d ys hi s.2 from to
followed_spot P f none x (a ∷ (b ∷ bs)) d ys hi s from to =
    let below : b.key ≤ d.key = head_key_most P (b ∷ bs) d.key (span_left P (b ∷ bs) (d ∷ ys) hi s.2) in
    cond-true _ _ (le-leb b.key x (omega arith)) ∙ followed_spot P f none x (b ∷ bs) d ys hi s.2 from to

-- a key's place is behind keys that are at most it
pub place_all : {C : Type 0} (x : ℕ) (row : List (Keyed C)) → Keys (λ k. k ≤ x) row → place x row ≡ length row
unfolding place count
place_all x [] h = refl
place_all x (d ∷ ds) h = cond-true _ _ (le-leb d.key x h.0) ∙ ap suc (place_all x ds h.1)

-- a key's place is before keys that are greater
pub place_none : {C : Type 0} (x : ℕ) (row : List (Keyed C)) → Keys (λ k. x < k) row → place x row ≡ 0
unfolding place count
place_none x [] h = refl
place_none x (d ∷ ds) h = cond-false _ _ (lt-leb d.key x h.0) ∙ place_none x ds h.1

-- a key's place is behind a row that ends at it or before it
pub place_behind : {C : Type 0} (P : C → ℕ → ℕ → Type 0) (x : ℕ) (row : List (Keyed C)) (hi : ℕ) → Span P row hi → hi ≤ x → place x row ≡ length row
place_behind P x row hi s h = place_all x row (keys_map (λ k. k < hi) (λ k. k ≤ x) row (λ k l. omega arith) (keys_below P row hi s))

-- a key's place is before a row that begins behind it
pub place_before : {C : Type 0} (P : C → ℕ → ℕ → Type 0) (x : ℕ) (row : List (Keyed C)) (hi : ℕ) → Span P row hi → x < head_key row hi → place x row ≡ 0
place_before P x row hi s h = place_none x row (keys_from P row (suc x) hi h s)

-- entries gathered from two rows joined
pub gathered_append : {C : Type 0} (f : C → List Entry) (xs ys : List (Keyed C)) → gathered f (xs ++ ys) ≡ gathered f xs ++ gathered f ys
gathered_append f [] ys = refl
gathered_append f (d ∷ ds) ys =
    ap (λ (l : List Entry). f d.value ++ l) (gathered_append f ds ys) ∙ sym (append_assoc (f d.value) (gathered f ds) (gathered f ys))

-- a sum over two rows joined
pub total_append : {C : Type 0} (f : C → ℕ) (xs ys : List (Keyed C)) → total f (xs ++ ys) ≡ total f xs + total f ys
total_append f [] ys = omega arith
total_append f (d ∷ ds) ys = let ih = total_append f ds ys in omega arith

-- what each thing of two rows has, each of the joined row has,
pub each_append : {C : Type 0} (P : C → Type 0) (xs ys : List (Keyed C)) → Each P xs → Each P ys → Each P (xs ++ ys)
each_append P [] ys h k = k
each_append P (d ∷ ds) ys h k = (h.0, each_append P ds ys h.1 k)

-- and so has each of its first part,
pub each_left : {C : Type 0} (P : C → Type 0) (xs ys : List (Keyed C)) → Each P (xs ++ ys) → Each P xs
each_left P [] ys h = tt
each_left P (d ∷ ds) ys h = (h.0, each_left P ds ys h.1)

-- and each of its second
pub each_right : {C : Type 0} (P : C → Type 0) (xs ys : List (Keyed C)) → Each P (xs ++ ys) → Each P ys
each_right P [] ys h = h
each_right P (d ∷ ds) ys h = each_right P ds ys h.1

-- what P tells of a thing and its range, told of each without its range
pub each_span : {C : Type 0} (P : C → ℕ → ℕ → Type 0) (Q : C → Type 0) (row : List (Keyed C)) (hi : ℕ) → ((c : C) (a b : ℕ) → a < b → P c a b → Q c) → Span P row hi → Each Q row
each_span P Q [] hi f s = tt
each_span P Q (d ∷ ds) hi f s = (f d.value d.key (head_key ds hi) s.0 s.1, each_span P Q ds hi f s.2)

-- what some thing of the first part has, some thing of the joined row has,
pub somewhere_left : {C : Type 0} (P : C → ℕ → ℕ → Type 0) (xs ys : List (Keyed C)) (hi : ℕ) → Somewhere P xs (head_key ys hi) → Somewhere P (xs ++ ys) hi
somewhere_left P [] ys hi h = absurd h
somewhere_left P (d ∷ []) ys hi (inl h) = inl h
somewhere_left P (d ∷ []) ys hi (inr h) = absurd h
somewhere_left P (d ∷ (e ∷ es)) ys hi (inl h) = inl h
somewhere_left P (d ∷ (e ∷ es)) ys hi (inr h) = inr (somewhere_left P (e ∷ es) ys hi h)

-- and so of the second;
pub somewhere_right : {C : Type 0} (P : C → ℕ → ℕ → Type 0) (xs ys : List (Keyed C)) (hi : ℕ) → Somewhere P ys hi → Somewhere P (xs ++ ys) hi
somewhere_right P [] ys hi h = h
somewhere_right P (d ∷ ds) ys hi h = inr (somewhere_right P ds ys hi h)

-- and there is no other.
pub somewhere_cases : {C : Type 0} (P : C → ℕ → ℕ → Type 0) (xs ys : List (Keyed C)) (hi : ℕ) → Somewhere P (xs ++ ys) hi → Somewhere P xs (head_key ys hi) ⊎ Somewhere P ys hi
somewhere_cases P [] ys hi h = inr h
somewhere_cases P (d ∷ []) ys hi (inl h) = inl (inl h)
somewhere_cases P (d ∷ []) ys hi (inr h) = inr h
somewhere_cases P (d ∷ (e ∷ es)) ys hi (inl h) = inl (inl h)
somewhere_cases P (d ∷ (e ∷ es)) ys hi (inr h) = ⊎_elim (λ l. inl (inr l)) (λ r. inr r) (somewhere_cases P (e ∷ es) ys hi h)

-- what P tells of a thing and its range, told of some thing
pub somewhere_map : {C : Type 0} (P Q : C → ℕ → ℕ → Type 0) (row : List (Keyed C)) (hi : ℕ) → ((c : C) (a b : ℕ) → P c a b → Q c a b) → Somewhere P row hi → Somewhere Q row hi
somewhere_map P Q [] hi f h = absurd h
somewhere_map P Q (d ∷ ds) hi f (inl h) = inl (f d.value d.key (head_key ds hi) h)
somewhere_map P Q (d ∷ ds) hi f (inr h) = inr (somewhere_map P Q ds hi f h)
