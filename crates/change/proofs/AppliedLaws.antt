-- A page that is written twice has its last value, and writes of different pages may change places: so a page that was
-- written too early, and that a list of writes writes again, leaves no trace.
use Prim.Native.Nat.{ℕ}
use mathlib.Core.Bool.{true}
use mathlib.Core.List.{List, [], ◌∷◌}
use mathlib.Core.Logic.{⊎_elim}
use mathlib.Core.Path.{◌≡◌, refl, sym, ap, ◌∙◌}
use borrow.Author.Tests.{eqb-true}
use lib.Dec.{eqb}
use lib.ListN.{length}
use Rattle.ground.specs.Tests.{member}
use Rattle.ground.proofs.Bools.{not_both, or_cases}
use Rattle.ground.proofs.Choice.{same_or_not}
use Rattle.page.specs.Words.{encode}
use Rattle.page.proofs.WordLaws.{length_encode}
use Rattle.pool.specs.Pool.{pool_length, words_of, Write, written, applied}
use Rattle.pool.proofs.StretchLaws.{pool_by_pages}
use Rattle.pool.proofs.WriteLaws.{length_written, words_of_written_same, words_of_written_other, FitWrite, AllFit, named_by}

module _ (k n : ℕ) (ws : List ℕ) (whole : length ws ≡ pool_length k n) where
  -- the length of the words after one page was written, and after two
  once : (w : Write) → length (written k w ws) ≡ pool_length k n
  once w = length_written k w ws ∙ whole

  twice : (w v : Write) → length (written k w (written k v ws)) ≡ pool_length k n
  twice w v = length_written k w (written k v ws) ∙ once v

  -- the words of a page just written, and of another
  here : (w : Write) → FitWrite k n w → (q : ℕ) → q ≡ w.at → words_of k q (written k w ws) ≡ encode k w.value
  here w fit q e =
      ap (λ (p : ℕ). words_of k p (written k w ws)) e
      ∙ words_of_written_same k n w.at w.value ws fit.in_pool whole (length_encode k w.value fit.fits)

pub elsewhere : (k n : ℕ) (ws : List ℕ) (w : Write) → FitWrite k n w → (q : ℕ) → (q ≡ w.at → ⊥) → words_of k q (written k w ws) ≡ words_of k q ws
elsewhere k n ws w fit q ne = words_of_written_other k w.at q w.value ws ne (length_encode k w.value fit.fits)

module _ (k n : ℕ) (ws : List ℕ) (whole : length ws ≡ pool_length k n) where
  -- the last value written counts
  pub written_over : (w v : Write) → FitWrite k n w → FitWrite k n v → v.at ≡ w.at → written k w (written k v ws) ≡ written k w ws
  written_over w v fw fv same =
      let early : List ℕ = written k v ws in
      pool_by_pages k n (written k w early) (written k w ws) (twice k n ws whole w v) (once k n ws whole w)
      (λ q l.
      ⊎_elim
      (λ e. here k n early (once k n ws whole v) w fw q e ∙ sym (here k n ws whole w fw q e))
      (λ ne.
      elsewhere k n early w fw q ne
      ∙ elsewhere k n ws v fv q (λ e. ne (e ∙ same))
      ∙ sym (elsewhere k n ws w fw q ne))
      (same_or_not q w.at))

  -- two different pages, in either order
  pub written_swap : (w v : Write) → FitWrite k n w → FitWrite k n v → (v.at ≡ w.at → ⊥)
      → written k w (written k v ws) ≡ written k v (written k w ws)
  written_swap w v fw fv apart =
      let early : List ℕ = written k v ws in
      let late : List ℕ = written k w ws in
      pool_by_pages k n (written k w early) (written k v late) (twice k n ws whole w v) (twice k n ws whole v w)
      (λ q l.
      ⊎_elim
      (λ e.
      here k n early (once k n ws whole v) w fw q e
      ∙ sym (here k n ws whole w fw q e)
      ∙ sym (elsewhere k n late v fv q (λ s. apart (sym s ∙ e))))
      (λ ne.
      elsewhere k n early w fw q ne
      ∙ ⊎_elim
      (λ e. here k n ws whole v fv q e ∙ sym (here k n late (once k n ws whole w) v fv q e))
      (λ no. elsewhere k n ws v fv q no ∙ sym (elsewhere k n late v fv q no ∙ elsewhere k n ws w fw q ne))
      (same_or_not q v.at))
      (same_or_not q w.at))

  -- a page that has a value's words already, written with that value
  pub written_again : (w : Write) → FitWrite k n w → words_of k w.at ws ≡ encode k w.value → written k w ws ≡ ws
  written_again w fw has =
      pool_by_pages k n (written k w ws) ws (once k n ws whole w) whole
      (λ q l.
      ⊎_elim
      (λ e. here k n ws whole w fw q e ∙ sym (ap (λ (p : ℕ). words_of k p ws) e ∙ has))
      (λ ne. elsewhere k n ws w fw q ne)
      (same_or_not q w.at))

-- a page that was written too early, and that the list writes
pub applied_over : (k n : ℕ) (list : List Write) (v : Write) (ws : List ℕ) → length ws ≡ pool_length k n → AllFit k n list
    → FitWrite k n v
    → member v.at (named_by list) ≡ true
    → applied k list (written k v ws) ≡ applied k list ws
unfolding applied member
applied_over k n [] v ws whole fit fv m = not_both m refl
applied_over k n (w ∷ rest) v ws whole fit fv m =
    ⊎_elim
    (λ e. ap (applied k rest) (written_over k n ws whole w v fit.0 fv e))
    (λ ne.
    ap (applied k rest) (written_swap k n ws whole w v fit.0 fv ne)
    ∙ applied_over k n rest v (written k w ws) (length_written k w ws ∙ whole) fit.1 fv
    (⊎_elim (λ t. absurd (ne (eqb-true v.at w.at t))) (λ later. later) (or_cases (eqb v.at w.at) (member v.at (named_by rest)) m)))
    (same_or_not v.at w.at)
