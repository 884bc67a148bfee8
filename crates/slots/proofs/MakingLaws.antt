-- Laws of the lists behind the bookkeeping: what stands behind the first cells.
use Prim.Native.Nat.{ℕ, zero, suc, ◌+◌, ◌-◌, ◌≤◌, ◌<◌}
use mathlib.Core.Bool.{true, false≢true}
use mathlib.Core.Path.{◌≡◌, sym, ap, ap₂, ◌∙◌}
use mathlib.Core.List.{List, [], ◌∷◌, ◌++◌, append-nil}
use native.Mathlib.Omega.{arith}
use native.Mathlib.Numerals.{add-one}
use lib.ListN.{length, get_or, take, drop, set, replicate, length-append, length-drop, length-replicate, drop_of_length-le}
use lib.Seq.{set_at, take-suc, drop-cons, length-take-le, append_snoc}
use borrow.Rule.Slice.PartMut.{mid_of, put_mid}
use Rattle.std.proofs.lemmas.List.{replicate-append-replicate}
use Rattle.ground.specs.Tests.{member, filled}
use Rattle.slots.specs.declared.Lock.TheVariants.{None}
use Rattle.slots.specs.declared.Under.{Under}
use Rattle.slots.specs.Parts.{under, xi_on, with_xi}
pub use Rattle.ground.proofs.Padded.{padded_more, filled_set, filled_add, filled_more}
use Rattle.slots.proofs.LockLaws.{xi_snoc, length_xi}

-- one page more behind the first i cells
pub length_add : (cells : List ℕ) (i a : ℕ) → i ≤ length cells → i + 1 ≡ length (take i cells ++ a ∷ [])
length_add cells i a h =
    let e : length (take i cells) ≡ i = length-take-le i cells h in
    omega (arith, length-append (take i cells) (a ∷ []))

-- where a slot stands among the first w cells, there is a cell
pub member_some : (s : ℕ) (cells : List ℕ) (w : ℕ) → member s (take w cells) ≡ true → 0 < w
unfolding member
member_some s cells zero h = absurd (false≢true h)
member_some s cells (suc w) h = omega arith

-- the next kind stored, with ξ where page p stands
pub xi_more : (n : ℕ) (pages : List ℕ) (locks : List Under) (p i : ℕ) → i < n → i < length pages → i < length locks
    → set (filled (under None) n (with_xi p (take i pages) (take i locks))) i (xi_on p (get_or pages i 0) (get_or locks i (under None)))
    ≡ filled (under None) n (with_xi p (take (i + 1) pages) (take (i + 1) locks))
xi_more n pages locks p i h a b =
    let la : length (take i pages) ≡ i = length-take-le i pages (omega arith) in
    let lb : length (take i locks) ≡ i = length-take-le i locks (omega arith) in
    let next : Under = xi_on p (get_or pages i 0) (get_or locks i (under None)) in
    filled_set (under None) n (with_xi p (take i pages) (take i locks)) i next (length_xi p (take i pages) (take i locks) (lb ∙ sym la) ∙ la) h
    ∙ ap (filled (under None) n)
    (sym (xi_snoc p (take i pages) (take i locks) (get_or pages i 0) (get_or locks i (under None)) (lb ∙ sym la))
    ∙ ap₂ (with_xi p) (sym (take-suc pages i 0 a)) (sym (take-suc locks i (under None) b))
    ∙ ap (λ (m : ℕ). with_xi p (take m pages) (take m locks)) (sym (add-one i)))

-- ---- an array kept up to a count

module _ {A : Type 0} (none : A) where
  -- the next cell cleared
  pub cleared_more : (xs : List A) (i : ℕ) → i < length xs → set (replicate i none ++ drop i xs) i none ≡ replicate (i + 1) none ++ drop (i + 1) xs
  cleared_more xs i h =
      ap (λ (l : List A). set (replicate i none ++ l) i none) (drop-cons xs i none h)
      ∙ set_at (replicate i none) (get_or xs i none) (drop (suc i) xs) none i (length-replicate i none)
      ∙ sym (append_snoc (replicate i none) none (drop (suc i) xs))
      ∙ ap₂ (λ (l : List A) (n : ℕ). l ++ drop n xs) (replicate-append-replicate i 1 none) (sym (add-one i))

  -- all behind the count cleared
  pub cleared_all : (cells items : List A) (count i : ℕ) → count ≤ length cells → length items ≡ length cells - count → length cells - count ≤ i
      → items ≡ replicate i none ++ drop i (mid_of count (length cells - count) cells)
      → put_mid count (length cells - count) cells items ≡ filled none (length cells) (take count cells)
  unfolding filled
  cleared_all cells items count i h long end e =
      let k : ℕ = length cells - count in
      let rest : length (drop count cells) ≡ k = length-drop count cells in
      let short : length (mid_of count k cells) ≤ i = omega (arith, length-take-le k (drop count cells) (omega arith)) in
      let same : items ≡ replicate i none = e ∙ ap (λ (l : List A). replicate i none ++ l) (drop_of_length-le (mid_of count k cells) short) ∙ append-nil (replicate i none) in
      let many : i ≡ length cells - length (take count cells) = omega (arith, ap (λ (l : List A). length l) same, length-replicate i none, length-take-le count cells h) in
      ap₂ (λ (xs ys : List A). take count cells ++ (xs ++ ys)) same (drop_of_length-le (drop count cells) (omega arith))
      ∙ ap (λ (l : List A). take count cells ++ l) (append-nil (replicate i none) ∙ ap (λ (n : ℕ). replicate n none) many)
