-- What is read after pages were written: a written page has its new value, every other page is as it was.
use Prim.Native.Nat.{ℕ, suc, ◌+◌, ◌-◌, ◌≤◌, ◌<◌}
use mathlib.Core.Bool.{false}
use mathlib.Core.List.{List, [], ◌∷◌, ◌++◌, map, append_assoc}
use mathlib.Core.Logic.{⊎_elim, ◌≢◌}
use mathlib.Core.Path.{◌≡◌, refl, sym, ap, ◌∙◌}
use native.Mathlib.Omega.{arith}
use lib.ListN.{length, take, drop, set}
use lib.Seq.{sets, length-sets, sets-eq, take_at, drop_at, length-take-le, drop-set-lt, drop-set-add, take-set-le}
use borrow.Author.Tests.{eqb-false}
use lib.Dec.{eqb}
use Rattle.ground.specs.Tests.{member}
use Rattle.ground.proofs.Bools.{or_first_fails, or_second_fails}
use Rattle.page.specs.Words.{Page, size, encode}
use Rattle.page.specs.Fits.{Fits}
use Rattle.page.proofs.WordLaws.{length_encode, view_encode}
use Rattle.pool.specs.Pool.{pool_length, start, words_of, page_at, Write, write, written, applied}
use Rattle.pool.proofs.StretchLaws.{ends_in_pool, stretches_apart}

-- writing a page leaves the number of words
pub length_written : (k : ℕ) (w : Write) (ws : List ℕ) → length (written k w ws) ≡ length ws
unfolding written
length_written k w ws = length-sets ws (start k w.at) (encode k w.value)

-- writing pages leaves the number of words
pub length_applied : (k : ℕ) (writes : List Write) (ws : List ℕ) → length (applied k writes ws) ≡ length ws
unfolding applied
length_applied k [] ws = refl
length_applied k (w ∷ rest) ws = length_applied k rest (written k w ws) ∙ length_written k w ws

-- two pages written, one after the other
pub applied_two : (k : ℕ) (w u : Write) (ws : List ℕ) {mid after : List ℕ} → mid ≡ written k w ws → after ≡ written k u mid
    → after ≡ applied k (w ∷ u ∷ []) ws
unfolding applied
applied_two k w u ws e f = f ∙ ap (written k u) e

-- three
pub applied_three : (k : ℕ) (w u z : Write) (ws : List ℕ) {first second after : List ℕ} → first ≡ written k w ws → second ≡ written k u first
    → after ≡ written k z second → after ≡ applied k (w ∷ u ∷ z ∷ []) ws
unfolding applied
applied_three k w u z ws e f g = g ∙ ap (written k z) (applied_two k w u ws e f)

-- a stretch that was stored is read back
read_stored : (l : List ℕ) (i n : ℕ) (vs : List ℕ) → length vs ≡ n → i + n ≤ length l → take n (drop i (sets l i vs)) ≡ vs
read_stored l i n vs len inside =
    let rest : List ℕ = drop (i + length vs) l in
    ap (λ (r : List ℕ). take n (drop i r)) (sets-eq vs l i (omega arith) ∙ append_assoc (take i l) vs rest)
    ∙ ap (λ (r : List ℕ). take n r) (drop_at (take i l) (vs ++ rest) i (length-take-le i l (omega arith)))
    ∙ take_at vs rest n len

-- a store behind a stretch leaves the stretch
read_before_store : (l : List ℕ) (j n i a : ℕ) → j + n ≤ i → take n (drop j (set l i a)) ≡ take n (drop j l)
read_before_store l j n i a h =
    let e : j + (i - j) ≡ i = omega arith in
    ap (λ (m : ℕ). take n (drop j (set l m a))) (sym e)
    ∙ ap (λ (r : List ℕ). take n r) (drop-set-add j l (i - j) a)
    ∙ take-set-le n (drop j l) (i - j) a (omega arith)

-- stores behind a stretch leave the stretch
read_before : (l : List ℕ) (j n i : ℕ) (vs : List ℕ) → j + n ≤ i → take n (drop j (sets l i vs)) ≡ take n (drop j l)
read_before l j n i [] h = refl
read_before l j n i (v ∷ vs) h = read_before (set l i v) j n (suc i) vs (omega arith) ∙ read_before_store l j n i v h

-- stores before a stretch leave the stretch
read_behind : (l : List ℕ) (j i : ℕ) (vs : List ℕ) → i + length vs ≤ j → drop j (sets l i vs) ≡ drop j l
read_behind l j i [] h = refl
read_behind l j i (v ∷ vs) h = read_behind (set l i v) j (suc i) vs (omega arith) ∙ drop-set-lt j l i v (omega arith)

-- the words of a page just written are those of its new value
pub words_of_written_same : (k n p : ℕ) (P : Page) (ws : List ℕ) → p < n → length ws ≡ pool_length k n
    → length (encode k P) ≡ size k
    → words_of k p (written k (write p P) ws) ≡ encode k P
unfolding words_of written
words_of_written_same k n p P ws h len full =
    let inside = ends_in_pool k n p h in
    read_stored ws (start k p) (size k) (encode k P) full (omega arith)

-- the words of every other page are as they were
pub words_of_written_other : (k p q : ℕ) (P : Page) (ws : List ℕ) → q ≢ p → length (encode k P) ≡ size k
    → words_of k q (written k (write p P) ws) ≡ words_of k q ws
unfolding words_of written
words_of_written_other k p q P ws ne full =
    ⊎_elim
    (λ b. read_before ws (start k q) (size k) (start k p) (encode k P) b)
    (λ a. ap (λ (r : List ℕ). take (size k) r) (read_behind ws (start k q) (start k p) (encode k P) (omega arith)))
    (stretches_apart k q p ne)

-- a page just written has its new value
pub page_at_written_same : (k n p : ℕ) (P : Page) (ws : List ℕ) → p < n → length ws ≡ pool_length k n → Fits k P
    → page_at k (written k (write p P) ws) p ≡ P
unfolding page_at
page_at_written_same k n p P ws h len fits =
    rw (words_of_written_same k n p P ws h len (length_encode k P fits)) (view_encode k P fits)

-- every other page has its old value
pub page_at_written_other : (k p q : ℕ) (P : Page) (ws : List ℕ) → q ≢ p → Fits k P
    → page_at k (written k (write p P) ws) q ≡ page_at k ws q
unfolding page_at
page_at_written_other k p q P ws ne fits = rw (words_of_written_other k p q P ws ne (length_encode k P fits))

-- the pages that a list of writes names
abbrev pub named_by : List Write → List ℕ
named_by writes = map (λ (w : Write). w.at) writes

-- every write names a page of the pool and gives it a value that fits
pub record FitWrite (k n : ℕ) (w : Write) : Type 0 where
  pub in_pool : w.at < n
  pub fits : Fits k w.value

abbrev pub AllFit : ℕ → ℕ → List Write → Type 0
AllFit k n [] = Unit {0}
AllFit k n (w ∷ rest) = FitWrite k n w × AllFit k n rest

-- a page that no write names keeps its words
pub words_of_applied_other : (k n q : ℕ) (writes : List Write) (ws : List ℕ) → AllFit k n writes
    → member q (named_by writes) ≡ false
    → words_of k q (applied k writes ws) ≡ words_of k q ws
unfolding applied member
words_of_applied_other k n q [] ws fit h = refl
words_of_applied_other k n q (w ∷ rest) ws fit h =
    let ne = eqb-false q w.at (or_first_fails (eqb q w.at) (member q (named_by rest)) h) in
    words_of_applied_other k n q rest (written k w ws) fit.1 (or_second_fails (eqb q w.at) (member q (named_by rest)) h)
    ∙ words_of_written_other k w.at q w.value ws ne (length_encode k w.value fit.0.fits)
