-- A page with one pair more: how many pairs it has, and where its keys still rise.
use Prim.Native.Nat.{ℕ, zero, suc, ◌+◌, ◌≤◌, ◌<◌}
use mathlib.Core.Bool.{true, false}
use mathlib.Core.List.{List, ◌∷◌, ◌++◌}
use mathlib.Core.Path.{◌≡◌, refl, ap}
use native.Mathlib.Omega.{arith}
use lib.ListN.{length, take, drop, length-append, take-append-drop, length-take, length-drop}
use Rattle.page.specs.Words.{Entry, Page, μ}
use Rattle.page.specs.Splits.{put}
use Rattle.page.specs.Sound.{rises}
use Rattle.page.specs.Place.{place, has}
use Rattle.page.proofs.RiseLaws.{key_at, key_at_take, key_at_drop, rises_at, rises_take, rises_drop, rises_cons, rises_join}
use Rattle.page.proofs.PlaceLaws.{place_before, place_behind, has_not_at}

-- the page keeps its level
pub put_level : (i : ℕ) (e : Entry) (P : Page) → (put i e P).level ≡ P.level
unfolding put
put_level i e P = refl

-- the page's pairs are those before place i, the new one, and the others
pub put_entries : (i : ℕ) (e : Entry) (P : Page) → (put i e P).entries ≡ take i P.entries ++ e ∷ drop i P.entries
unfolding put
put_entries i e P = refl

-- the page has one pair more
pub put_μ : (i : ℕ) (e : Entry) (P : Page) → μ (put i e P) ≡ suc (μ P)
unfolding put
put_μ i e P =
    let es : List Entry = P.entries in
    let all = ap length (take-append-drop i es) in
    omega (arith, length-append (take i es) (e ∷ drop i es), length-append (take i es) (drop i es))

-- Keys rise on where the new key is greater than all before place i and lower than all from there on.
pub put_rises : (i : ℕ) (e : Entry) (P : Page) → rises P.entries ≡ true
    → ((j : ℕ) → j < i → j < μ P → key_at j P.entries < e.key)
    → ((j : ℕ) → i ≤ j → j < μ P → e.key < key_at j P.entries) → rises (put i e P).entries ≡ true
unfolding put
put_rises i e P t low high =
    let es : List Entry = P.entries in
    let back = length-drop i es in
    rises_join (take i es) (e ∷ drop i es) (rises_take i es t)
    (rises_cons e (drop i es) (rises_drop i es t) (λ h. rw (key_at_drop i es 0) (high (i + 0) (omega arith) (omega arith))))
    lower
  where
    lower : (a b : ℕ) → a < length (take i P.entries) → b < suc (length (drop i P.entries))
        → key_at a (take i P.entries) < key_at b (e ∷ drop i P.entries)
    lower a zero ha hb =
        let front = length-take i P.entries in
        rw (key_at_take i P.entries a (omega arith)) (low a (omega arith) (omega arith))
    lower a (suc b) ha hb =
        let front = length-take i P.entries in
        let back = length-drop i P.entries in
        rw (key_at_take i P.entries a (omega arith), key_at_drop i P.entries b)
        (rises_at P.entries t a (i + b) (omega arith) (omega arith))

-- Keys rise on where a new key is put at its place.
pub put_place_rises : (e : Entry) (P : Page) → rises P.entries ≡ true → has e.key P.entries ≡ false
    → rises (put (place e.key P.entries) e P).entries ≡ true
put_place_rises e P t new =
    put_rises (place e.key P.entries) e P t
    (λ j l h. let most = place_before e.key P.entries t j l in
    let other = has_not_at e.key P.entries new j h in
    omega arith)
    (λ j l h. place_behind e.key P.entries t j l h)
