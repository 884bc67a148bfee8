-- Pairs gathered in a buffer, one run behind the other. What a buffer holds is the first pairs of its words.
use Prim.Native.Nat.{ℕ, ◌+◌, ◌-◌, ◌*◌, ◌≤◌}
use mathlib.Core.Bool.{true, false}
use mathlib.Core.List.{List, [], ◌∷◌, ◌++◌, append_assoc}
use mathlib.Core.Path.{◌≡◌, refl, sym, ap, ◌∙◌}
use native.Mathlib.Numerals.{add-one}
use native.Mathlib.Omega.{arith}
use borrow.Author.Tests.{eq-eqb, ne_eqb}
use lib.ListN.{length, get_or, set, take, drop, replicate, length-append, length-drop, take-append-drop}
use lib.Seq.{paste, take_at, drop_at, drop-drop, sets-eq, length-take-le}
use Rattle.ground.proofs.Choice.{cond-true, cond-false}
use Rattle.page.specs.Words.{Entry, Page, entry, page, μ, is_leaf, flat, encode, view, pairs, pairs_from, size}
use Rattle.page.specs.Splits.{put}
use Rattle.page.specs.Short.{joined}
use Rattle.page.specs.Exact.{Exact}
use Rattle.sheet.specs.Sheets.{OnSheet, before_pairs}
use Rattle.page.proofs.WordLaws.{length_flat, pairs_flat}
use Rattle.page.proofs.ReadingLaws.{view_level}
use Rattle.sheet.proofs.WritingLaws.{bounds}
use Rattle.sheet.proofs.FlatLaws.{flat_append, length_front, encode_front}

-- a run of pairs behind those that the buffer holds
pub poured : (a b : List Entry) (rest more : List ℕ) {q n : ℕ} → q ≡ 2 * length a → n ≡ 2 * length b
    → paste (flat a ++ rest) q (flat b ++ more) n ≡ flat (a ++ b) ++ drop n rest
poured a b rest more {q} {n} place count =
    let held : length (flat a) ≡ q = length_flat a ∙ sym place in
    ap (λ (u : List ℕ). u ++ take n (flat b ++ more) ++ drop (q + n) (flat a ++ rest)) (take_at (flat a) rest q held)
    ∙ ap (λ (u : List ℕ). flat a ++ u ++ drop (q + n) (flat a ++ rest)) (take_at (flat b) more n (length_flat b ∙ sym count))
    ∙ ap (λ (u : List ℕ). flat a ++ flat b ++ u) (sym (drop-drop n q (flat a ++ rest)) ∙ ap (drop n) (drop_at (flat a) rest q held))
    ∙ ap (λ (u : List ℕ). u ++ drop n rest) (sym (flat_append a b))

-- one pair behind those that the buffer holds
pub poured_one : (a : List Entry) (x v : ℕ) (rest : List ℕ) {q : ℕ} → q ≡ 2 * length a → 2 ≤ length rest
    → set (set (flat a ++ rest) q x) (q + 1) v ≡ flat (a ++ entry x v ∷ []) ++ drop 2 rest
unfolding flat
poured_one a x v rest {q} place two =
    let held : length (flat a) ≡ 2 * length a = length_flat a in
    let room : q + 2 ≤ length (flat a ++ rest) = omega (arith, length-append (flat a) rest) in
    ap (λ (z : ℕ). set (set (flat a ++ rest) q x) z v) (add-one q)
    ∙ sets-eq (x ∷ v ∷ []) (flat a ++ rest) q room
    ∙ poured a (entry x v ∷ []) rest [] place refl

module _ (k l f : ℕ) (a b : List Entry) where
  -- the words from pair b on
  words_behind : {ws : List ℕ} {at : ℕ} → ws ≡ encode k (page l f (a ++ b)) → at ≡ pairs_from l
      → drop at ws ≡ flat a ++ (flat b ++ replicate (size k - (pairs_from l + 2 * length (a ++ b))) 0)
  words_behind {ws} {at} same from =
      let zs : List ℕ = replicate (size k - (pairs_from l + 2 * length (a ++ b))) 0 in
      let F : List ℕ = before_pairs l (length (a ++ b)) f in
      ap (drop at) (same ∙ encode_front k (page l f (a ++ b)))
      ∙ drop_at F (flat (a ++ b) ++ zs) at (length_front l (length (a ++ b)) f ∙ sym from)
      ∙ ap (λ (u : List ℕ). u ++ zs) (flat_append a b)
      ∙ append_assoc (flat a) (flat b) zs

  -- a page's pairs with one more between a and b, in a buffer
  over_poured : (x v : ℕ) (ps₀ : List ℕ) {at c n : ℕ} {ws ps₁ ps₃ : List ℕ} → ws ≡ encode k (page l f (a ++ b)) → at ≡ pairs_from l → c ≡ 2 * length a
      → n ≡ 2 * length b → c + 2 ≤ length ps₀ → ps₁ ≡ paste ps₀ 0 (drop at ws) c
      → ps₃ ≡ paste (set (set ps₁ c x) (c + 1) v) (c + 2) (drop (at + c) ws) n
      → ps₃ ≡ flat (a ++ entry x v ∷ b) ++ drop n (drop 2 (drop c ps₀))
  unfolding flat
  over_poured x v ps₀ {at} {c} {n} {ws} {ps₁} {ps₃} same from first second room copied again =
      let zs : List ℕ = replicate (size k - (pairs_from l + 2 * length (a ++ b))) 0 in
      let left : length (drop c ps₀) ≡ length ps₀ - c = length-drop c ps₀ in
      let one : length (a ++ entry x v ∷ []) ≡ length a + 1 = length-append a (entry x v ∷ []) in
      let begun : ps₁ ≡ flat a ++ drop c ps₀ =
      copied ∙ ap (λ (u : List ℕ). paste ps₀ 0 u c) (words_behind same from) ∙ poured [] a ps₀ (flat b ++ zs) refl first in
      let more : set (set ps₁ c x) (c + 1) v ≡ flat (a ++ entry x v ∷ []) ++ drop 2 (drop c ps₀) =
      ap (λ (u : List ℕ). set (set u c x) (c + 1) v) begun ∙ poured_one a x v (drop c ps₀) first (omega arith) in
      let behind : drop (at + c) ws ≡ flat b ++ zs =
      sym (drop-drop c at ws) ∙ ap (drop c) (words_behind same from) ∙ drop_at (flat a) (flat b ++ zs) c (length_flat a ∙ sym first) in
      let place : c + 2 ≡ 2 * length (a ++ entry x v ∷ []) = omega arith in
      again
      ∙ ap (λ (u : List ℕ). paste u (c + 2) (drop (at + c) ws) n) more
      ∙ ap (λ (u : List ℕ). paste (flat (a ++ entry x v ∷ []) ++ drop 2 (drop c ps₀)) (c + 2) u n) behind
      ∙ poured (a ++ entry x v ∷ []) b (drop 2 (drop c ps₀)) zs place second
      ∙ ap (λ (es : List Entry). flat es ++ drop n (drop 2 (drop c ps₀))) (append_assoc a (entry x v ∷ []) b)

-- a sheet over pairs that stand first in its buffer
held : (l f : ℕ) (es : List Entry) (rest : List ℕ) {n : ℕ} {ps : List ℕ} → n ≡ length es → ps ≡ flat es ++ rest
    → page l f (pairs n ps) ≡ page l f es
held l f es rest {n} {ps} counted same =
    ap (page l f) (ap (λ (z : ℕ). pairs z ps) counted ∙ ap (pairs (length es)) same ∙ pairs_flat es rest)

-- what `over` gathers is the page with the pair more
pub over_exact : {k : ℕ} {ws : List ℕ} → Exact k ws → (i x v : ℕ) (ps₀ : List ℕ) {at m f : ℕ} {ps₁ ps₃ : List ℕ} → k ≤ 16 → i ≤ μ (view ws)
    → at ≡ pairs_from (get_or ws 0 0) → m ≡ get_or ws 1 0 → f ≡ (view ws).first → length ps₀ ≡ 100
    → ps₁ ≡ paste ps₀ 0 (drop at ws) (2 * i)
    → ps₃ ≡ paste (set (set ps₁ (2 * i) x) (2 * i + 1) v) (2 * i + 2) (drop (at + 2 * i) ws) (2 * m - 2 * i)
    → length ps₃ ≡ 100
    → OnSheet (put i (entry x v) (view ws)) (record { level = get_or ws 0 0; first = f; count = m + 1; pairs = ps₃ })
unfolding put view
over_exact {k} {ws} exact i x v ps₀ {at} {m} {f} {ps₁} {ps₃} small inside from all first whole copied again kept =
    let P : Page = view ws in
    let es : List Entry = P.entries in
    let near = bounds exact in
    let parts : take i es ++ drop i es ≡ es = take-append-drop i es in
    let before : length (take i es) ≡ i = length-take-le i es inside in
    let behind : length (drop i es) ≡ length es - i = length-drop i es in
    let more : List Entry = take i es ++ entry x v ∷ drop i es in
    let n : ℕ = 2 * m - 2 * i in
    let counted : μ P ≡ m = near.counted ∙ sym all in
    let front-words : 2 * i ≡ 2 * length (take i es) = omega arith in
    let back-words : 2 * m - 2 * i ≡ 2 * length (drop i es) = omega arith in
    let many : m + 1 ≡ length more = omega (arith, length-append (take i es) (entry x v ∷ drop i es)) in
    let filled : ps₃ ≡ flat more ++ drop n (drop 2 (drop (2 * i) ps₀)) =
    over_poured k P.level P.first (take i es) (drop i es) x v ps₀
    (exact.words ∙ ap (λ (z : List Entry). encode k (page P.level P.first z)) (sym parts))
    from front-words back-words (omega arith) copied again in
    record {
      value = held (get_or ws 0 0) f more (drop n (drop 2 (drop (2 * i) ps₀))) many filled ∙ ap (λ (z : ℕ). page (get_or ws 0 0) z more) first;
      counted = many;
      buffer = kept;
    }

-- the words from the pairs on are the pairs' words and zeros
pairs_behind : {k : ℕ} {ws : List ℕ} → Exact k ws → {at : ℕ} → at ≡ pairs_from (view ws).level
    → drop at ws ≡ flat (view ws).entries ++ replicate (size k - (pairs_from (view ws).level + 2 * μ (view ws))) 0
unfolding flat
pairs_behind {k} {ws} exact from = words_behind k (view ws).level (view ws).first [] (view ws).entries exact.words from

module _ {k : ℕ} {lw w : List ℕ} (left : Exact k lw) (right : Exact k w) (alike : is_leaf (view lw) ≡ is_leaf (view w)) (r : ℕ) (ps₀ : List ℕ)
    {at m n : ℕ} {ps₁ : List ℕ} (from : at ≡ pairs_from (get_or lw 0 0)) (all : m ≡ get_or lw 1 0) (others : n ≡ get_or w 1 0)
    (copied : ps₁ ≡ paste ps₀ 0 (drop at lw) (2 * m)) where
  left_count : m ≡ μ (view lw)
  left_count = all ∙ sym (bounds left).counted

  right_count : n ≡ μ (view w)
  right_count = others ∙ sym (bounds right).counted

  -- the left page's pairs stand first
  left_poured : ps₁ ≡ flat (view lw).entries ++ drop (2 * m) ps₀
  unfolding flat
  left_poured =
      copied
      ∙ ap (λ (u : List ℕ). paste ps₀ 0 u (2 * m)) (pairs_behind left (from ∙ ap pairs_from (sym (view_level lw))))
      ∙ poured [] (view lw).entries ps₀ (replicate (size k - (pairs_from (view lw).level + 2 * μ (view lw))) 0) refl (ap (λ (z : ℕ). 2 * z) left_count)

  -- what `join` gathers of two leaves
  pub join_leaves : {ps₂ : List ℕ} → get_or lw 0 0 ≡ 1 → ps₂ ≡ paste ps₁ (2 * m) (drop 2 w) (2 * n) → length ps₂ ≡ 100
      → OnSheet (joined r (view lw) (view w)) (record { level = get_or lw 0 0; first = 0; count = m + n; pairs = ps₂ })
  unfolding joined view
  join_leaves {ps₂} leaf again kept =
      let esL : List Entry = (view lw).entries in
      let esR : List Entry = (view w).entries in
      let test : is_leaf (view lw) ≡ true = eq-eqb (get_or lw 0 0) 1 leaf in
      let two : 2 ≡ pairs_from (view w).level = sym (cond-true 2 3 (sym alike ∙ test)) in
      let zs : List ℕ = replicate (size k - (pairs_from (view w).level + 2 * μ (view w))) 0 in
      let rest : List ℕ = drop (2 * n) (drop (2 * m) ps₀) in
      let filled : ps₂ ≡ flat (esL ++ esR) ++ rest =
      again
      ∙ ap (λ (u : List ℕ). paste u (2 * m) (drop 2 w) (2 * n)) left_poured
      ∙ ap (λ (u : List ℕ). paste (flat esL ++ drop (2 * m) ps₀) (2 * m) u (2 * n)) (pairs_behind right two)
      ∙ poured esL esR (drop (2 * m) ps₀) zs (ap (λ (z : ℕ). 2 * z) left_count) (ap (λ (z : ℕ). 2 * z) right_count) in
      let both : esL ++ esR ≡ (joined r (view lw) (view w)).entries =
      ap (λ (es : List Entry). esL ++ es) (sym (cond-true esR (entry r (view w).first ∷ esR) test)) in
      let none : 0 ≡ (view lw).first = sym (cond-true 0 (get_or lw 2 0) test) in
      let many : m + n ≡ length (esL ++ esR) = ap (λ (z : ℕ). z + n) left_count ∙ ap (λ (z : ℕ). μ (view lw) + z) right_count ∙ sym (length-append esL esR) in
      record {
        value = held (get_or lw 0 0) 0 (esL ++ esR) rest many filled ∙ (λ i. page (get_or lw 0 0) (none i) (both i));
        counted = many ∙ ap length both;
        buffer = kept;
      }

  -- what `join` gathers of two pages above the leaves
  pub join_uppers : {ps₃ : List ℕ} → (get_or lw 0 0 ≡ 1 → ⊥) → 2 * m + 2 ≤ length ps₀
      → ps₃ ≡ paste (set (set ps₁ (2 * m) r) (2 * m + 1) (get_or w 2 0)) (2 * m + 2) (drop 3 w) (2 * n) → length ps₃ ≡ 100
      → OnSheet (joined r (view lw) (view w)) (record { level = get_or lw 0 0; first = get_or lw 2 0; count = m + n + 1; pairs = ps₃ })
  unfolding joined view
  join_uppers {ps₃} upper room again kept =
      let esL : List Entry = (view lw).entries in
      let esR : List Entry = (view w).entries in
      let p₀ : ℕ = get_or w 2 0 in
      let test : is_leaf (view lw) ≡ false = ne_eqb (get_or lw 0 0) 1 upper in
      let test' : is_leaf (view w) ≡ false = sym alike ∙ test in
      let three : 3 ≡ pairs_from (view w).level = sym (cond-false 2 3 test') in
      let down : get_or w 2 0 ≡ (view w).first = sym (cond-false 0 (get_or w 2 0) test') in
      let zs : List ℕ = replicate (size k - (pairs_from (view w).level + 2 * μ (view w))) 0 in
      let rest : List ℕ = drop (2 * n) (drop 2 (drop (2 * m) ps₀)) in
      let space : length (drop (2 * m) ps₀) ≡ length ps₀ - 2 * m = length-drop (2 * m) ps₀ in
      let first : 2 * m ≡ 2 * length esL = ap (λ (z : ℕ). 2 * z) left_count in
      let more : set (set ps₁ (2 * m) r) (2 * m + 1) p₀ ≡ flat (esL ++ entry r p₀ ∷ []) ++ drop 2 (drop (2 * m) ps₀) =
      ap (λ (u : List ℕ). set (set u (2 * m) r) (2 * m + 1) p₀) left_poured ∙ poured_one esL r p₀ (drop (2 * m) ps₀) first (omega arith) in
      let place : 2 * m + 2 ≡ 2 * length (esL ++ entry r p₀ ∷ []) = omega (arith, length-append esL (entry r p₀ ∷ [])) in
      let filled : ps₃ ≡ flat (esL ++ entry r p₀ ∷ esR) ++ rest =
      again
      ∙ ap (λ (u : List ℕ). paste u (2 * m + 2) (drop 3 w) (2 * n)) more
      ∙ ap (λ (u : List ℕ). paste (flat (esL ++ entry r p₀ ∷ []) ++ drop 2 (drop (2 * m) ps₀)) (2 * m + 2) u (2 * n)) (pairs_behind right three)
      ∙ poured (esL ++ entry r p₀ ∷ []) esR (drop 2 (drop (2 * m) ps₀)) zs place (ap (λ (z : ℕ). 2 * z) right_count)
      ∙ ap (λ (es : List Entry). flat es ++ rest) (append_assoc esL (entry r p₀ ∷ []) esR) in
      let both : esL ++ entry r p₀ ∷ esR ≡ (joined r (view lw) (view w)).entries =
      ap (λ (p : ℕ). esL ++ entry r p ∷ esR) down ∙ ap (λ (es : List Entry). esL ++ es) (sym (cond-false esR (entry r (view w).first ∷ esR) test)) in
      let same : get_or lw 2 0 ≡ (view lw).first = sym (cond-false 0 (get_or lw 2 0) test) in
      let many : m + n + 1 ≡ length (esL ++ entry r p₀ ∷ esR) = omega (arith, left_count, right_count, length-append esL (entry r p₀ ∷ esR)) in
      record {
        value = held (get_or lw 0 0) (get_or lw 2 0) (esL ++ entry r p₀ ∷ esR) rest many filled ∙ (λ i. page (get_or lw 0 0) (same i) (both i));
        counted = many ∙ ap length both;
        buffer = kept;
      }
