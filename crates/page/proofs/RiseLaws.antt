-- Rising keys: the test and the order of any two keys, each from the other, and what parts and joins keep of it.
use Prim.Native.Nat.{ℕ, zero, suc, ◌+◌, ◌≤◌, ◌<◌}
use mathlib.Core.Bool.{true, false}
use mathlib.Core.List.{List, [], ◌∷◌, ◌++◌}
use mathlib.Core.Path.{◌≡◌, refl, ap}
use native.Mathlib.Nat.{le_of_suc-le-suc, not-suc-le-zero, lt_trans}
use native.Mathlib.Omega.{arith}
use borrow.Author.Tests.{ltb-true, lt-ltb}
use lib.Dec.{ltb}
use lib.ListN.{length, take, drop, length-take, length-drop}
use lib.Seq.{get_or-take, get_or-drop}
use Rattle.ground.proofs.Bools.{and_first, and_second, and_both, false_if_not_true}
use Rattle.page.specs.Words.{Entry, entry, key_of}
use Rattle.page.specs.Splits.{entry_at}
use Rattle.page.specs.Sound.{rises_from, rises}

-- the key at index i
abbrev pub key_at : ℕ → List Entry → ℕ
key_at i es = (entry_at i es).key

-- the keys of a front, and of what is behind it
pub key_at_take : (n : ℕ) (es : List Entry) (i : ℕ) → i < n → key_at i (take n es) ≡ key_at i es
key_at_take n es i h = ap key_of (get_or-take n es i (entry 0 0) h)

pub key_at_drop : (n : ℕ) (es : List Entry) (i : ℕ) → key_at i (drop n es) ≡ key_at (n + i) es
key_at_drop n es i = ap key_of (get_or-drop n es i (entry 0 0))

-- keys that rise from x on are all greater than x
rises_from_above : (x : ℕ) (es : List Entry) → rises_from x es ≡ true → (i : ℕ) → i < length es → x < key_at i es
unfolding rises_from
rises_from_above x [] t i h = absurd (not-suc-le-zero h)
rises_from_above x (e ∷ es) t zero h = ltb-true x e.key (and_first (ltb x e.key) (rises_from e.key es) t)
rises_from_above x (e ∷ es) t (suc i) h =
    lt_trans
    (ltb-true x e.key (and_first (ltb x e.key) (rises_from e.key es) t))
    (rises_from_above e.key es (and_second (ltb x e.key) (rises_from e.key es) t) i (le_of_suc-le-suc h))

-- keys that rise from x on rise
rises_from_rises : (x : ℕ) (es : List Entry) → rises_from x es ≡ true → rises es ≡ true
unfolding rises_from rises
rises_from_rises x [] t = refl
rises_from_rises x (e ∷ es) t = and_second (ltb x e.key) (rises_from e.key es) t

-- keys that rise, the first greater than x, rise from x on
rises_from_from : (x : ℕ) (es : List Entry) → rises es ≡ true → (0 < length es → x < key_at 0 es) → rises_from x es ≡ true
unfolding rises_from rises
rises_from_from x [] t f = refl
rises_from_from x (e ∷ es) t f = and_both (lt-ltb x e.key (f (omega arith))) t

-- where keys rise, the key at the lower of two indices is the lower
pub rises_at : (es : List Entry) → rises es ≡ true → (i j : ℕ) → i < j → j < length es → key_at i es < key_at j es
unfolding rises
rises_at [] t i j l h = absurd (not-suc-le-zero h)
rises_at (e ∷ es) t i zero l h = absurd (not-suc-le-zero l)
rises_at (e ∷ es) t zero (suc j) l h = rises_from_above e.key es t j (le_of_suc-le-suc h)
rises_at (e ∷ es) t (suc i) (suc j) l h =
    rises_at es (rises_from_rises e.key es t) i j (le_of_suc-le-suc l) (le_of_suc-le-suc h)

-- keys rise where each is lower than the next
pub rises_from_lem : (es : List Entry) → ((i : ℕ) → suc i < length es → key_at i es < key_at (suc i) es) → rises es ≡ true
unfolding rises
rises_from_lem [] f = refl
rises_from_lem (e ∷ es) f =
    rises_from_from e.key es (rises_from_lem es (λ i h. f (suc i) (omega arith))) (λ h. f 0 (omega arith))

-- a key that is not lower than the next, so the keys do not rise
pub rises_stops : (es : List Entry) (i : ℕ) → suc i < length es → key_at (suc i) es ≤ key_at i es → rises es ≡ false
rises_stops es i h l =
    false_if_not_true (rises es) (λ t. let up = rises_at es t i (suc i) (omega arith) h in absurd (omega arith))

-- the first n of rising keys rise
pub rises_take : (n : ℕ) (es : List Entry) → rises es ≡ true → rises (take n es) ≡ true
rises_take n es t =
    rises_from_lem (take n es)
    (λ i h. let len = length-take n es in
    rw (key_at_take n es i (omega arith), key_at_take n es (suc i) (omega arith))
    (rises_at es t i (suc i) (omega arith) (omega arith)))

-- all but the first n of rising keys rise
pub rises_drop : (n : ℕ) (es : List Entry) → rises es ≡ true → rises (drop n es) ≡ true
rises_drop n es t =
    rises_from_lem (drop n es)
    (λ i h. let len = length-drop n es in
    rw (key_at_drop n es i, key_at_drop n es (suc i))
    (rises_at es t (n + i) (n + suc i) (omega arith) (omega arith)))

-- x is lower than the first of two lists of keys
first_above : (x : ℕ) (front back : List Entry) → rises_from x front ≡ true → (0 < length back → x < key_at 0 back)
    → 0 < length (front ++ back) → x < key_at 0 (front ++ back)
first_above x [] back t f h = f h
first_above x (e ∷ front) back t f h = rises_from_above x (e ∷ front) t 0 (omega arith)

-- keys that rise, each lower than each of others that rise, rise with them
pub rises_join : (front back : List Entry) → rises front ≡ true → rises back ≡ true
    → ((i j : ℕ) → i < length front → j < length back → key_at i front < key_at j back) → rises (front ++ back) ≡ true
unfolding rises
rises_join [] back tf tb f = tb
rises_join (e ∷ front) back tf tb f =
    rises_from_from e.key (front ++ back)
    (rises_join front back (rises_from_rises e.key front tf) tb (λ i j hi hj. f (suc i) j (omega arith) hj))
    (first_above e.key front back tf (λ h. f 0 0 (omega arith) h))

-- rising keys with some in the middle taken out rise
pub rises_without_middle : (es : List Entry) → rises es ≡ true → (i j : ℕ) → i ≤ j → rises (take i es ++ drop j es) ≡ true
rises_without_middle es t i j l =
    let front = length-take i es in
    let back = length-drop j es in
    rises_join (take i es) (drop j es) (rises_take i es t) (rises_drop j es t)
    (λ a b ha hb. rw (key_at_take i es a (omega arith), key_at_drop j es b) (rises_at es t a (j + b) (omega arith) (omega arith)))

-- one key more in front of rising ones, lower than the first of them
pub rises_cons : (e : Entry) (es : List Entry) → rises es ≡ true → (0 < length es → e.key < key_at 0 es) → rises (e ∷ es) ≡ true
unfolding rises
rises_cons e es = rises_from_from e.key es
