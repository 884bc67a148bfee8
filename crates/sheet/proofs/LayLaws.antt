-- A page written whole: the words before the pairs, a run of words for the pairs, zeros. That is how a page's words are made.
use Prim.Native.Nat.{ℕ, suc, ◌+◌, ◌-◌, ◌*◌, ◌≤◌, ◌<◌}
use mathlib.Core.List.{List, [], ◌∷◌, ◌++◌, append_assoc}
use mathlib.Core.Path.{◌≡◌, sym, ap, ◌∙◌}
use native.Mathlib.Numerals.{add-one}
use native.Mathlib.Omega.{arith}
use borrow.Author.Tests.{eq-eqb, ne_eqb}
use lib.ListN.{length, get_or, set, take, drop, replicate, length-append, length-drop}
use lib.Seq.{paste, length-paste, take-paste, take_at, sets-eq}
use Rattle.ground.proofs.Choice.{cond-true, cond-false}
use Rattle.page.specs.Words.{Entry, entry, key_of, value_of, page, flat, encode, pairs, pairs_from, size}
use Rattle.page.specs.Splits.{entry_at, split}
use Rattle.sheet.specs.Sheets.{before_pairs}
use Rattle.page.proofs.ReadingLaws.{pairs_at}
use Rattle.page.proofs.WordLaws.{length_pairs, flat_pairs, pairs_from_most}
use Rattle.sheet.proofs.FlatLaws.{length_front, encode_front, take_pairs, drop_pairs}

module _ (k l f n : ℕ) (w₀ : List ℕ) {at : ℕ} {w₁ : List ℕ} (long : length w₀ ≡ size k) (from : at ≡ pairs_from l)
    (fronted : w₁ ≡ before_pairs l n f ++ drop (pairs_from l) w₀) where
  -- the words before the pairs leave the length as it was
  pub length_fronted : length w₁ ≡ size k
  length_fronted =
      let most : pairs_from l ≤ 3 = pairs_from_most l in
      let first : length (before_pairs l n f) ≡ pairs_from l = length_front l n f in
      let rest : length (drop (pairs_from l) w₀) ≡ length w₀ - pairs_from l = length-drop (pairs_from l) w₀ in
      ap length fronted ∙ length-append (before_pairs l n f) (drop (pairs_from l) w₀) ∙ omega arith

  -- the words laid down are the words of the page with the run's pairs
  pub lay_encoded : (ps : List ℕ) {w₂ w₃ : List ℕ} → n ≤ 2 * k → 2 * n ≤ length ps → w₂ ≡ paste w₁ at ps (2 * n)
      → w₃ ≡ take (at + 2 * n) w₂ ++ replicate (length w₂ - (at + 2 * n)) 0 → w₃ ≡ encode k (page l f (pairs n ps))
  lay_encoded ps {w₂} {w₃} room enough copied wiped =
      let most : pairs_from l ≤ 3 = pairs_from_most l in
      let all : length w₁ ≡ size k = length_fronted in
      let es : List Entry = pairs n ps in
      let many : length es ≡ n = length_pairs n ps enough in
      let ahead : take at w₁ ≡ before_pairs l n f =
      ap (take at) fronted ∙ take_at (before_pairs l n f) (drop (pairs_from l) w₀) at (length_front l n f ∙ sym from) in
      let written : take (at + 2 * n) w₂ ≡ before_pairs l n f ++ flat es =
      ap (take (at + 2 * n)) copied
      ∙ take-paste w₁ at ps (2 * n) (omega arith) enough
      ∙ ap (λ (u : List ℕ). u ++ take (2 * n) ps) ahead
      ∙ ap (λ (u : List ℕ). before_pairs l n f ++ u) (sym (flat_pairs n ps enough)) in
      let same : length w₂ ≡ size k = ap length copied ∙ length-paste w₁ at ps (2 * n) (omega arith) enough ∙ all in
      let left : length w₂ - (at + 2 * n) ≡ size k - (pairs_from l + 2 * n) = omega arith in
      wiped
      ∙ ap (λ (u : List ℕ). u ++ replicate (length w₂ - (at + 2 * n)) 0) written
      ∙ ap (λ (z : ℕ). before_pairs l n f ++ flat es ++ replicate z 0) left
      ∙ append_assoc (before_pairs l n f) (flat es) (replicate (size k - (pairs_from l + 2 * n)) 0)
      ∙ ap (λ (z : ℕ). before_pairs l z f ++ (flat es ++ replicate (size k - (pairs_from l + 2 * z)) 0)) (sym many)
      ∙ sym (encode_front k (page l f es))

-- a root's words
pub root_encoded : (k l f r b : ℕ) (w₀ : List ℕ) {at : ℕ} {w₁ w₃ : List ℕ} → length w₀ ≡ size k → 1 ≤ k → at ≡ pairs_from l
    → w₁ ≡ before_pairs l 1 f ++ drop (pairs_from l) w₀
    → w₃ ≡ take (at + 2) (set (set w₁ at r) (at + 1) b) ++ replicate (length (set (set w₁ at r) (at + 1) b) - (at + 2)) 0
    → w₃ ≡ encode k (page l f (entry r b ∷ []))
unfolding pairs
root_encoded k l f r b w₀ {at} {w₁} {w₃} long one from fronted wiped =
    let most : pairs_from l ≤ 3 = pairs_from_most l in
    let all : length w₁ ≡ size k = length_fronted k l f 1 w₀ long from fronted in
    let stored : set (set w₁ at r) (at + 1) b ≡ paste w₁ at (r ∷ b ∷ []) 2 =
    ap (λ (z : ℕ). set (set w₁ at r) z b) (add-one at) ∙ sets-eq (r ∷ b ∷ []) w₁ at (omega arith) in
    lay_encoded k l f 1 w₀ long from fronted (r ∷ b ∷ []) (omega arith) (omega arith) stored wiped

-- ---- a sheet's page cut at pair c

module _ (c l f n : ℕ) (ps : List ℕ) where
  -- the left part
  pub cut_left : c ≤ n → page l f (pairs c ps) ≡ (split c (page l f (pairs n ps))).left
  unfolding split
  cut_left inside = ap (page l f) (sym (take_pairs c n ps inside))

  -- the key between the parts
  pub cut_between : c < n → 2 * n ≤ length ps → get_or ps (2 * c) 0 ≡ (split c (page l f (pairs n ps))).between
  unfolding split
  cut_between inside enough = ap key_of (sym (pairs_at n ps c inside enough))

  -- the right part of a leaf
  pub cut_right_leaf : l ≡ 1 → page l f (pairs (n - c) (drop (2 * c) ps)) ≡ (split c (page l f (pairs n ps))).right
  unfolding split
  cut_right_leaf leaf = ap (page l f) (sym (drop_pairs c n ps)) ∙ sym (cond-true _ _ (eq-eqb l 1 leaf))

  -- the right part of a page above the leaves
  pub cut_right_upper : (l ≡ 1 → ⊥) → c < n → 2 * n ≤ length ps
      → page l (get_or ps (2 * c + 1) 0) (pairs (n - c - 1) (drop (2 * (c + 1)) ps)) ≡ (split c (page l f (pairs n ps))).right
  unfolding split
  cut_right_upper upper inside enough =
      let less : n - c - 1 ≡ n - suc c = omega arith in
      ap (λ (v : ℕ). page l v (pairs (n - c - 1) (drop (2 * (c + 1)) ps))) (ap value_of (sym (pairs_at n ps c inside enough)))
      ∙ ap (λ (z : ℕ). page l (entry_at c (pairs n ps)).value (pairs z (drop (2 * (c + 1)) ps))) less
      ∙ ap (λ (z : ℕ). page l (entry_at c (pairs n ps)).value (pairs (n - suc c) (drop (2 * z) ps))) (add-one c)
      ∙ ap (page l (entry_at c (pairs n ps)).value) (sym (drop_pairs (suc c) n ps))
      ∙ sym (cond-false _ _ (ne_eqb l 1 upper))
