-- Laws of numbers written down the column of a slot: the cells written, the words beside them, and one row more.
use Prim.Native.Nat.{ℕ, zero, suc, ◌+◌, ◌*◌, ◌≤◌, ◌<◌}
use mathlib.Core.Path.{◌≡◌, refl, sym, ap, ◌∙◌}
use mathlib.Core.List.{List, [], ◌∷◌, ◌++◌}
use mathlib.Core.Logic.{◌≢◌}
use native.Mathlib.Omega.{arith}
use native.Mathlib.Nat.{not-suc-le-zero, le_of_suc-le-suc}
use native.Mathlib.Numerals.{add-one}
use lib.ListN.{length, get_or, take, set, length-set}
use lib.Seq.{take-suc, get_or-set_same, get_or-set_other, length-take-le}
use Rattle.lent.specs.Layout.{rows_from, row_length}
use Rattle.lent.specs.Words.{address, cell, spread}

pub length_spread : (ws : List ℕ) (r s : ℕ) (xs : List ℕ) → length (spread ws r s xs) ≡ length ws
unfolding spread
length_spread ws r s [] = refl
length_spread ws r s (x ∷ xs) = length_spread (set ws (address r s) x) (suc r) s xs ∙ length-set ws (address r s) x

-- a word that lies in none of the rows
pub spread_out : (ws : List ℕ) (r s : ℕ) (xs : List ℕ) (i : ℕ) → ((q : ℕ) → r ≤ q → i ≢ address q s) → get_or (spread ws r s xs) i 0 ≡ get_or ws i 0
unfolding spread
spread_out ws r s [] i h = refl
spread_out ws r s (x ∷ xs) i h =
    spread_out (set ws (address r s) x) (suc r) s xs i (λ q b. h q (omega arith))
    ∙ get_or-set_other ws (address r s) i x 0 (h r (omega arith))

-- a cell of another slot
pub spread_beside : (ws : List ℕ) (r s : ℕ) (xs : List ℕ) (q t : ℕ) → s < row_length → t < row_length → t ≢ s → cell (spread ws r s xs) q t ≡ cell ws q t
spread_beside ws r s xs q t a b n = spread_out ws r s xs (address q t) (λ p _ e. n (apart p e))
  where
    apart : (p : ℕ) → address q t ≡ address p s → t ≡ s
    apart p e = omega arith

-- a word before the rows
pub spread_front : (ws : List ℕ) (r s : ℕ) (xs : List ℕ) (i : ℕ) → i < rows_from → get_or (spread ws r s xs) i 0 ≡ get_or ws i 0
spread_front ws r s xs i h = spread_out ws r s xs i (λ p _ e. absurd (omega arith))

-- the cells written
pub spread_at : (ws : List ℕ) (r s : ℕ) (xs : List ℕ) (j : ℕ) → s < row_length → j < length xs → rows_from + row_length * (r + length xs) ≤ length ws
    → cell (spread ws r s xs) (r + j) s ≡ get_or xs j 0
unfolding spread
spread_at ws r s [] j a h room = absurd (not-suc-le-zero h)
spread_at ws r s (x ∷ xs) zero a h room =
    let same : r + 0 ≡ r = omega arith in
    ap (λ (q : ℕ). cell (spread (set ws (address r s) x) (suc r) s xs) q s) same
    ∙ spread_out (set ws (address r s) x) (suc r) s xs (address r s) (λ q b e. absurd (omega arith))
    ∙ get_or-set_same ws (address r s) x 0 (omega arith)
spread_at ws r s (x ∷ xs) (suc j) a h room =
    let same : r + suc j ≡ suc r + j = omega arith in
    ap (λ (q : ℕ). cell (spread (set ws (address r s) x) (suc r) s xs) q s) same
    ∙ spread_at (set ws (address r s) x) (suc r) s xs j a (le_of_suc-le-suc h) (omega (arith, length-set ws (address r s) x))

-- the one list behind the other
pub spread_append : (ws : List ℕ) (r s : ℕ) (xs ys : List ℕ) → spread ws r s (xs ++ ys) ≡ spread (spread ws r s xs) (r + length xs) s ys
unfolding spread
spread_append ws r s [] ys =
    let same : r ≡ r + 0 = omega arith in
    ap (λ (q : ℕ). spread ws q s ys) same
spread_append ws r s (x ∷ xs) ys =
    let same : suc r + length xs ≡ r + suc (length xs) = omega arith in
    spread_append (set ws (address r s) x) (suc r) s xs ys
    ∙ ap (λ (q : ℕ). spread (spread (set ws (address r s) x) (suc r) s xs) q s ys) same

-- nothing yet
pub spread_none : (ws : List ℕ) (r s : ℕ) (xs : List ℕ) → ws ≡ spread ws r s (take 0 xs)
unfolding spread
spread_none ws r s xs = refl

-- one row more
pub spread_more : (ws : List ℕ) (r s : ℕ) (xs : List ℕ) (j : ℕ) → j < length xs
    → set (spread ws r s (take j xs)) (address (r + j) s) (get_or xs j 0) ≡ spread ws r s (take (j + 1) xs)
unfolding spread
spread_more ws r s xs j h =
    let long : length (take j xs) ≡ j = length-take-le j xs (omega arith) in
    sym
    (ap (λ (n : ℕ). spread ws r s (take n xs)) (add-one j)
    ∙ ap (spread ws r s) (take-suc xs j 0 h)
    ∙ spread_append ws r s (take j xs) (get_or xs j 0 ∷ [])
    ∙ ap (λ (n : ℕ). spread (spread ws r s (take j xs)) (r + n) s (get_or xs j 0 ∷ [])) long)
