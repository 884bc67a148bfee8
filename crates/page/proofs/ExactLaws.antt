-- Which words are exactly a page's: those that pass the test of a page sound by itself, and those of a value that fits.
use Prim.Native.Nat.{ℕ, suc, ◌+◌, ◌*◌, ◌≤◌, ◌<◌}
use mathlib.Core.Bool.{Bool, true, false, cond}
use mathlib.Core.List.{List, ◌∷◌, ◌++◌}
use mathlib.Core.Path.{◌≡◌, refl, sym, ap, ◌∙◌, subst}
use native.Mathlib.Omega.{arith}
use lib.ListN.{length, get_or, take, drop, length-append, length-take, length-drop}
use Rattle.ground.proofs.Bools.{not_both}
use Rattle.ground.proofs.Choice.{cond_ind, cond-true}
use Rattle.page.specs.Words.{Entry, Page, entry, μ, is_leaf, encode, view, size}
use Rattle.page.specs.Sound.{sound_by_itself}
use Rattle.page.specs.Splits.{split, entry_at}
use Rattle.page.specs.Short.{joined, less_key, rekeyed}
use Rattle.page.specs.Exact.{Exact}
use Rattle.page.specs.Fits.{Fits}
use Rattle.page.proofs.WordLaws.{length_encode, view_encode, encode_μ, view_μ}
use Rattle.page.proofs.SoundPage.{sound_facts, sound_words, sound_μ}

-- words of a page sound by itself
pub exact_sound : (k n p : ℕ) (ws : List ℕ) → length ws ≡ size k → sound_by_itself k n p ws ≡ true → Exact k ws
exact_sound k n p ws len test =
    record {
      whole = len;
      in_room = subst (λ (m : ℕ). m ≤ 2 * k) (sound_μ k n p ws len test) (sound_facts k n p ws len test).room;
      words = sym (sound_words k n p ws len test);
    }

-- words of a value that fits
pub exact_encode : (k : ℕ) (P : Page) → Fits k P → Exact k (encode k P)
exact_encode k P fits =
    record {
      whole = length_encode k P fits;
      in_room = subst (λ (m : ℕ). m ≤ 2 * k) (sym (encode_μ k P)) fits.room;
      words = ap (encode k) (sym (view_encode k P fits));
    }

-- the value of words that are exactly a page's fits
pub exact_fits : {k : ℕ} {ws : List ℕ} → Exact k ws → Fits k (view ws)
unfolding view
exact_fits {k} {ws} exact =
    record {
      room = subst (λ (m : ℕ). m ≤ 2 * k) (sym (view_μ k ws exact.whole exact.in_room)) exact.in_room;
      leaf_first = λ leaf. cond-true 0 (get_or ws 2 0) leaf;
    }

-- ---- changed pages fit

module _ {k : ℕ} {P : Page} (fits : Fits k P) where
  -- a pair less
  pub less_key_fits : (i : ℕ) → Fits k (less_key i P)
  unfolding less_key
  less_key_fits i =
      let es : List Entry = P.entries in
      let few : length es ≤ 2 * k = fits.room in
      let both : length (take i es ++ drop (suc i) es) ≡ length (take i es) + length (drop (suc i) es) = length-append (take i es) (drop (suc i) es) in
      record {
        room = omega (arith, length-take i es, length-drop (suc i) es);
        leaf_first = fits.leaf_first;
      }

  -- another key
  pub rekeyed_fits : (i r : ℕ) → i < μ P → Fits k (rekeyed i r P)
  unfolding rekeyed
  rekeyed_fits i r inside =
      let es : List Entry = P.entries in
      let few : length es ≤ 2 * k = fits.room in
      let e : Entry = entry r (entry_at i es).value in
      record {
        room = omega (arith, length-append (take i es) (e ∷ drop (suc i) es), length-take i es, length-drop (suc i) es);
        leaf_first = fits.leaf_first;
      }

-- a page with no p0 in a leaf, cut where its left part has room
pub left_fits : (k c : ℕ) (P : Page) → (is_leaf P ≡ true → P.first ≡ 0) → c ≤ 2 * k → Fits k (split c P).left
unfolding split
left_fits k c P none room = record { room = omega (arith, length-take c P.entries); leaf_first = none }

-- the right part, where it has room
pub right_fits : (k c : ℕ) (P : Page) → (is_leaf P ≡ true → P.first ≡ 0) → μ P ≤ c + 2 * k → Fits k (split c P).right
unfolding split
right_fits k c P none room =
    let v : ℕ = (entry_at c P.entries).value in
    cond_ind (Fits k) (is_leaf P)
    (λ leaf. record { room = omega (arith, length-drop c P.entries); leaf_first = none })
    (λ upper. record { room = omega (arith, length-drop (suc c) P.entries); leaf_first = λ leaf. not_both leaf upper })

-- two pages joined, where there is room
pub joined_fits : (k r : ℕ) (L R : Page) → (is_leaf L ≡ true → L.first ≡ 0) → μ (joined r L R) ≤ 2 * k → Fits k (joined r L R)
unfolding joined
joined_fits k r L R none room = record { room = room; leaf_first = none }

-- how many pairs two pages joined have
pub joined_μ : (r : ℕ) (L R : Page) → μ (joined r L R) ≡ μ L + cond (is_leaf L) (μ R) (suc (μ R))
unfolding joined
joined_μ r L R =
    length-append L.entries (cond (is_leaf L) R.entries (entry r R.first ∷ R.entries))
    ∙ ap (λ (n : ℕ). μ L + n) (by_leaf (is_leaf L) R.entries)
  where
    by_leaf : (leaf : Bool) (es : List Entry) → length (cond leaf es (entry r R.first ∷ es)) ≡ cond leaf (length es) (suc (length es))
    by_leaf true es = refl
    by_leaf false es = refl
