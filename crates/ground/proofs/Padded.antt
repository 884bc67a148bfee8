-- A list in an array: its first cells one after another, and `filled`, cell by cell.
use Prim.Native.Nat.{ℕ, zero, suc, ◌+◌, ◌-◌, ◌≤◌, ◌<◌}
use mathlib.Core.List.{List, [], ◌∷◌, ◌++◌}
use mathlib.Core.Path.{◌≡◌, refl, sym, ap, ap₂, ◌∙◌}
use native.Mathlib.Numerals.{add-one}
use native.Mathlib.Omega.{arith}
use lib.ListN.{length, get_or, take, drop, set, replicate, length-append, length-replicate, drop_of_length-le}
use lib.Seq.{set_at, append_snoc, take-append_seam, take-suc, length-take-le, get_or-take, drop-cons}
use Rattle.ground.specs.Tests.{padded, filled}

-- the next of the first cells, and the others
pub next_cell : (cells : List ℕ) (count i : ℕ) → count ≤ length cells → i < count
    → drop i (take count cells) ≡ get_or cells i 0 ∷ drop (i + 1) (take count cells)
next_cell cells count i long h =
    let same = length-take-le count cells long in
    drop-cons (take count cells) i 0 (omega arith)
    ∙ ap₂ (λ (p m : ℕ). p ∷ drop m (take count cells)) (get_or-take count cells i 0 h) (sym (add-one i))

-- behind the last of them there is none
pub no_cell : (cells : List ℕ) (count i : ℕ) → count ≤ length cells → count ≤ i → drop i (take count cells) ≡ []
no_cell cells count i long h =
    let none : length (take count cells) ≤ i = omega (arith, length-take-le count cells long) in
    drop_of_length-le (take count cells) none

-- ---- an array of anything

module _ {A : Type 0} (none : A) (n : ℕ) where
  -- the array has all its cells
  pub length_filled : (xs : List A) → length xs ≤ n → length (filled none n xs) ≡ n
  unfolding filled
  length_filled xs h = omega (arith, length-append xs (replicate (n - length xs) none), length-replicate {A = A} (n - length xs) none)

  -- its first cells are the list
  pub filled_list : (xs : List A) → take (length xs) (filled none n xs) ≡ xs
  unfolding filled
  filled_list xs = take-append_seam xs (replicate (n - length xs) none)

  -- a cell holds what stands there in the list, and nothing behind it
  pub filled_at : (xs : List A) (i : ℕ) → get_or (filled none n xs) i none ≡ get_or xs i none
  unfolding filled
  filled_at xs i = behind xs (n - length xs) i
    where
      nothing : (m j : ℕ) → get_or {A = A} (replicate m none) j none ≡ none
      nothing zero j = refl
      nothing (suc m) zero = refl
      nothing (suc m) (suc j) = nothing m j

      behind : (ys : List A) (m j : ℕ) → get_or (ys ++ replicate m none) j none ≡ get_or ys j none
      behind [] m j = nothing m j
      behind (y ∷ ys) m zero = refl
      behind (y ∷ ys) m (suc j) = behind ys m j

  -- the next cell stored is the list with one more
  pub filled_set : (xs : List A) (i : ℕ) (v : A) → length xs ≡ i → i < n → set (filled none n xs) i v ≡ filled none n (xs ++ v ∷ [])
  unfolding filled
  filled_set xs i v len h =
      let left : ℕ = n - suc (length xs) in
      let one : n - length xs ≡ suc left = omega arith in
      let rest : left ≡ n - length (xs ++ v ∷ []) = omega (arith, length-append xs (v ∷ [])) in
      ap (λ (j : ℕ). set (xs ++ replicate j none) i v) one
      ∙ set_at xs none (replicate left none) v i len
      ∙ sym (append_snoc xs v (replicate left none))
      ∙ ap (λ (j : ℕ). (xs ++ v ∷ []) ++ replicate j none) rest

  -- the next cell stored behind the first i of some cells
  pub filled_add : (cells : List A) (i : ℕ) (a : A) → i < n → i ≤ length cells
      → set (filled none n (take i cells)) i a ≡ filled none n (take i cells ++ a ∷ [])
  filled_add cells i a h j = filled_set (take i cells) i a (length-take-le i cells j) h

  -- the next of some cells copied
  pub filled_more : (cells : List A) (i : ℕ) → i < n → i < length cells
      → set (filled none n (take i cells)) i (get_or cells i none) ≡ filled none n (take (i + 1) cells)
  filled_more cells i h j =
      filled_add cells i (get_or cells i none) h (omega arith)
      ∙ ap (filled none n) (sym (take-suc cells i none j) ∙ ap (λ (m : ℕ). take m cells) (sym (add-one i)))

-- ---- one of numbers

pub length_padded : (n : ℕ) (xs : List ℕ) → length xs ≤ n → length (padded n xs) ≡ n
length_padded n xs h = length_filled 0 n xs h

pub padded_at : (n : ℕ) (xs : List ℕ) (i : ℕ) → get_or (padded n xs) i 0 ≡ get_or xs i 0
padded_at n xs i = filled_at 0 n xs i

pub padded_set : (n : ℕ) (xs : List ℕ) (i v : ℕ) → length xs ≡ i → i < n → set (padded n xs) i v ≡ padded n (xs ++ v ∷ [])
padded_set n xs i v len h = filled_set 0 n xs i v len h

pub padded_more : (n : ℕ) (cells : List ℕ) (i : ℕ) → i < n → i < length cells
    → set (padded n (take i cells)) i (get_or cells i 0) ≡ padded n (take (i + 1) cells)
padded_more n cells i h j = filled_more 0 n cells i h j
