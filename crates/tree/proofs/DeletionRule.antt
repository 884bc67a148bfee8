-- The rule of a deletion by itself: what it says step by step, that it stops at a safe page, and that it writes only
-- pages that are held.
use Prim.Native.Nat.{ℕ, suc, ◌+◌, ◌≤◌, ◌<◌}
use native.Mathlib.Omega.{arith}
use mathlib.Core.Bool.{Bool, true, false, cond, ◌&&◌, ◌||◌}
use mathlib.Core.List.{List, [], ◌∷◌, ◌++◌, append-nil, head-eq_of_cons-eq, tail-eq_of_cons-eq}
use mathlib.Core.Logic.{◌⊎◌, inl, inr, ⊎_elim}
use mathlib.Core.Path.{◌≡◌, refl, sym, ap, ◌∙◌, subst}
use borrow.Author.Tests.{ltb-true, ltb-false, lt-ltb, le-ltb, leb-true, leb-false, lt-leb, eqb-true, eqb-false, eq-eqb, ne_eqb}
use lib.Dec.{leb, ltb, eqb}
use lib.ListN.{length, length-append}
use Rattle.ground.specs.Tests.{member}
use Rattle.ground.proofs.Bools.{or_first, or_second, or_none, or_first_fails, or_second_fails}
use Rattle.ground.proofs.Choice.{by_test, cond-true, cond-false, cond_ind}
use Rattle.page.specs.Words.{Page, μ, free_page}
use Rattle.page.specs.Splits.{parted, with_entries}
use Rattle.page.specs.Place.{without}
use Rattle.page.specs.Short.{has_right, neighbour, between_at, moved, merged, less_key, rekeyed}
use Rattle.pool.specs.Pool.{Write, write}
use Rattle.change.specs.Deletion.{Need, nothing, sibling, astray, satisfied, needs, left_one, right_one, shares, shrunk, deletion}
use Rattle.tree.specs.Tree.{once}
use Rattle.tree.specs.Change.{written_pages, top_of}
use Rattle.tree.specs.Deletion.{Asked}
use Rattle.tree.proofs.Memory.{times, times_append, member_times, times_member}

-- ---- what is needed

pub sibling≢nothing : {s : ℕ} {X : Type 0} → sibling s ≡ nothing → X
sibling≢nothing e = let z : ◌≡◌ {A = ℕ} 0 1 = cc in absurd (omega arith)

pub astray≢nothing : {X : Type 0} → astray ≡ nothing → X
astray≢nothing e = let z : ◌≡◌ {A = ℕ} 0 1 = cc in absurd (omega arith)

pub astray≢sibling : {s : ℕ} {X : Type 0} → astray ≡ sibling s → X
astray≢sibling e = let z : ◌≡◌ {A = ℕ} 0 1 = cc in absurd (omega arith)

pub satisfied≢sibling : {s : ℕ} {X : Type 0} (ss : List ℕ) → satisfied ss ≡ sibling s → X
satisfied≢sibling [] e = sibling≢nothing (sym e)
satisfied≢sibling (r ∷ ss) e = astray≢sibling e

-- a choice between going astray and something else that needs nothing
not_here : (b : Bool) (n : Need) → cond b astray n ≡ nothing → (b ≡ false) × (n ≡ nothing)
not_here true n e = astray≢nothing e
not_here false n e = (refl, e)

only_here : (b : Bool) (n : Need) → cond b n astray ≡ nothing → (b ≡ true) × (n ≡ nothing)
only_here true n e = (refl, e)
only_here false n e = astray≢nothing e

satisfied_none : (ss : List ℕ) → satisfied ss ≡ nothing → ss ≡ []
satisfied_none [] e = refl
satisfied_none (s ∷ ss) e = astray≢nothing e

module _ (k : ℕ) (memory : ℕ → Page) (x : ℕ) where
  -- a page that needs no sibling can spare one, or is page 0
  pub needs_none : (p f : ℕ) (up : List ℕ) → needs k memory x p (f ∷ up) [] ≡ nothing → (p ≡ 0 → ⊥) → k < μ (memory p)
  unfolding needs
  needs_none p f up e n =
      by_test (ltb k (μ (memory p)))
      (λ t. ltb-true k (μ (memory p)) t)
      (λ t. sibling≢nothing (sym (cond-false nothing (sibling (neighbour x (memory f))) (or_none (ne_eqb p 0 n) t)) ∙ e))

  -- no more is held than the top page needs
  pub needs_top : (p : ℕ) (ss : List ℕ) → needs k memory x p [] ss ≡ nothing → ss ≡ []
  unfolding needs
  needs_top p ss e = satisfied_none ss (only_here (eqb p 0 || ltb k (μ (memory p))) (satisfied ss) e).1

-- A page needs a sibling, has it, and needs no more: either the sibling can spare one, or the two join, and the father
-- needs no more.
pub record Shared (k : ℕ) (memory : ℕ → Page) (x p f : ℕ) (up : List ℕ) (s : ℕ) (ss : List ℕ) : Type 0 where
  pub short : μ (memory p) ≤ k
  pub other : p ≡ 0 → ⊥
  pub beside : s ≡ neighbour x (memory f)
  pub then : ((k < μ (memory s)) × (ss ≡ [])) ⊎ ((μ (memory s) ≤ k) × (needs k memory x f up ss ≡ nothing))

module _ (k : ℕ) (memory : ℕ → Page) (x : ℕ) where
  pub needs_shared : (p f : ℕ) (up : List ℕ) (s : ℕ) (ss : List ℕ) → needs k memory x p (f ∷ up) (s ∷ ss) ≡ nothing → Shared k memory x p f up s ss
  unfolding needs
  needs_shared p f up s ss e =
      let further : Need = needs k memory x f up ss in
      let spare : Bool = ltb k (μ (memory s)) in
      let inner : Need = cond spare (satisfied ss) further in
      let outer : Need = cond (eqb s (neighbour x (memory f))) inner astray in
      let a = not_here (eqb p 0 || ltb k (μ (memory p))) outer e in
      let b = only_here (eqb s (neighbour x (memory f))) inner a.1 in
      record {
        short = ltb-false k (μ (memory p)) (or_second_fails (eqb p 0) (ltb k (μ (memory p))) a.0);
        other = eqb-false p 0 (or_first_fails (eqb p 0) (ltb k (μ (memory p))) a.0);
        beside = eqb-true s (neighbour x (memory f)) b.0;
        then =
            by_test spare
            (λ t. inl (ltb-true k (μ (memory s)) t, satisfied_none ss (sym (cond-true (satisfied ss) further t) ∙ b.1)))
            (λ t. inr (ltb-false k (μ (memory s)) t, sym (cond-false (satisfied ss) further t) ∙ b.1));
      }

-- ---- which sibling is asked for

pub sibling_same : {a b : ℕ} → sibling a ≡ sibling b → a ≡ b
sibling_same e = cc

module _ (k : ℕ) (memory : ℕ → Page) (x : ℕ) where
  -- a page that can spare one needs none,
  pub needs_spare : (p f : ℕ) (up : List ℕ) → k < μ (memory p) → needs k memory x p (f ∷ up) [] ≡ nothing
  unfolding needs
  needs_spare p f up h = cond-true nothing (sibling (neighbour x (memory f))) (or_second (eqb p 0) (lt-ltb k (μ (memory p)) h))

  -- another asks for its neighbour,
  pub needs_ask : (p f : ℕ) (up : List ℕ) → (p ≡ 0 → ⊥) → μ (memory p) ≤ k → needs k memory x p (f ∷ up) [] ≡ sibling (neighbour x (memory f))
  unfolding needs
  needs_ask p f up n h = cond-false nothing (sibling (neighbour x (memory f))) (or_none (ne_eqb p 0 n) (le-ltb k (μ (memory p)) h))

  -- and with it needs what the father needs, unless the neighbour can spare one.
  pub needs_next : (p f : ℕ) (up : List ℕ) (s : ℕ) (ss : List ℕ) → (p ≡ 0 → ⊥) → μ (memory p) ≤ k → s ≡ neighbour x (memory f)
      → needs k memory x p (f ∷ up) (s ∷ ss) ≡ cond (ltb k (μ (memory s))) (satisfied ss) (needs k memory x f up ss)
  unfolding needs
  needs_next p f up s ss n h e =
      let inner : Need = cond (ltb k (μ (memory s))) (satisfied ss) (needs k memory x f up ss) in
      cond-false astray (cond (eqb s (neighbour x (memory f))) inner astray) (or_none (ne_eqb p 0 n) (le-ltb k (μ (memory p)) h))
      ∙ cond-true inner astray (eq-eqb s (neighbour x (memory f)) e)

  -- page 0 needs nothing
  pub needs_root : (p : ℕ) → p ≡ 0 → needs k memory x p [] [] ≡ nothing
  unfolding needs
  needs_root p e = cond-true nothing astray (or_first (ltb k (μ (memory p))) (eq-eqb p 0 e))

  -- a page asks only where its father is held
  pub needs_length : (p : ℕ) (fathers ss : List ℕ) (s : ℕ) → needs k memory x p fathers ss ≡ sibling s → length ss < length fathers
  unfolding needs
  needs_length p [] [] s e =
      cond_ind (λ (n : Need). n ≡ sibling s → 0 < 0) (eqb p 0 || ltb k (μ (memory p)))
      (λ t h. sibling≢nothing (sym h))
      (λ t h. astray≢sibling h)
      e
  needs_length p [] (s' ∷ ss) s e =
      cond_ind (λ (n : Need). n ≡ sibling s → suc (length ss) < 0) (eqb p 0 || ltb k (μ (memory p)))
      (λ t h. astray≢sibling h)
      (λ t h. astray≢sibling h)
      e
  needs_length p (f ∷ up) [] s e = omega arith
  needs_length p (f ∷ up) (s' ∷ ss) s e =
      cond_ind (λ (n : Need). n ≡ sibling s → suc (length ss) < suc (length up)) (eqb p 0 || ltb k (μ (memory p)))
      (λ t h. astray≢sibling h)
      (λ t.
      cond_ind (λ (n : Need). n ≡ sibling s → suc (length ss) < suc (length up)) (eqb s' (neighbour x (memory f)))
      (λ u.
      cond_ind (λ (n : Need). n ≡ sibling s → suc (length ss) < suc (length up)) (ltb k (μ (memory s')))
      (λ v h. satisfied≢sibling ss h)
      (λ v h. let ih = needs_length f up ss s h in omega arith))
      (λ u h. astray≢sibling h))
      e

-- ---- siblings taken as they were asked for

-- a list cut somewhere, where its last number is known
last_cut : (xs : List ℕ) (s : ℕ) (before : List ℕ) (r : ℕ) (after : List ℕ) → xs ++ s ∷ [] ≡ before ++ r ∷ after
    → ((before ≡ xs) × (s ≡ r)) ⊎ ((rest : List ℕ) × (xs ≡ before ++ r ∷ rest))
last_cut [] s [] r after e = inl (refl, head-eq_of_cons-eq e)
last_cut [] s (b ∷ bs) r after e =
    absurd (omega (arith, ap length (tail-eq_of_cons-eq e), length-append bs (r ∷ after)))
last_cut (x ∷ xs) s [] r after e = inr (xs, ap (λ (n : ℕ). n ∷ xs) (head-eq_of_cons-eq e))
last_cut (x ∷ xs) s (b ∷ bs) r after e =
    let same : x ≡ b = head-eq_of_cons-eq e in
    ⊎_elim
    (λ h. inl ((λ i. sym same i ∷ h.0 i), h.1))
    (λ h. inr (h.0, (λ i. same i ∷ h.1 i)))
    (last_cut xs s bs r after (tail-eq_of_cons-eq e))

-- a choice between going astray and something else that does not go astray
astray_not : (b : Bool) (n : Need) → (cond b astray n ≡ astray → ⊥) → (b ≡ false) × (n ≡ astray → ⊥)
astray_not true n h = absurd (h refl)
astray_not false n h = (refl, h)

only_not : (b : Bool) (n : Need) → (cond b n astray ≡ astray → ⊥) → (b ≡ true) × (n ≡ astray → ⊥)
only_not true n h = (refl, h)
only_not false n h = absurd (h refl)

-- more siblings than are needed lead astray
too_many : (bs : List ℕ) (s : ℕ) (after : List ℕ) → satisfied (bs ++ s ∷ after) ≡ astray
too_many [] s after = refl
too_many (b ∷ bs) s after = refl

module _ (k : ℕ) (memory : ℕ → Page) (x : ℕ) where
  -- one sibling more, when it was asked for
  pub asked_more : (leaf : ℕ) (fathers siblings : List ℕ) (s : ℕ) → Asked k memory x leaf fathers siblings
      → needs k memory x leaf fathers siblings ≡ sibling s → Asked k memory x leaf fathers (siblings ++ s ∷ [])
  asked_more leaf fathers siblings s asked e before r after cut =
      ⊎_elim
      (λ h. ap (needs k memory x leaf fathers) h.0 ∙ e ∙ ap sibling h.1)
      (λ h. asked before r h.0 h.1)
      (last_cut siblings s before r after cut)

  -- what is asked for with some of the siblings r and ss, from what the father asks for with some of ss
  course_step : (p f : ℕ) (up : List ℕ) (r : ℕ) (ss before : List ℕ) (s : ℕ) (after : List ℕ)
      → μ (memory p) ≤ k → (p ≡ 0 → ⊥) → r ≡ neighbour x (memory f)
      → (cond (ltb k (μ (memory r))) (satisfied ss) (needs k memory x f up ss) ≡ astray → ⊥)
      → ((needs k memory x f up ss ≡ astray → ⊥) → (bs : List ℕ) → ss ≡ bs ++ s ∷ after → needs k memory x f up bs ≡ sibling s)
      → r ∷ ss ≡ before ++ s ∷ after → needs k memory x p (f ∷ up) before ≡ sibling s
  course_step p f up r ss [] s after few other beside course ih cut =
      needs_ask k memory x p f up other few ∙ ap sibling (sym beside ∙ head-eq_of_cons-eq cut)
  course_step p f up r ss (b ∷ bs) s after few other beside course ih cut =
      let rest : ss ≡ bs ++ s ∷ after = tail-eq_of_cons-eq cut in
      let further : Need = needs k memory x f up ss in
      ap (λ (n : ℕ). needs k memory x p (f ∷ up) (n ∷ bs)) (sym (head-eq_of_cons-eq cut))
      ∙ needs_next k memory x p f up r bs other few beside
      ∙ by_test (ltb k (μ (memory r)))
      (λ t. absurd (course (cond-true (satisfied ss) further t ∙ ap satisfied rest ∙ too_many bs s after)))
      (λ t.
      cond-false (satisfied bs) (needs k memory x f up bs) t
      ∙ ih (λ e. course (cond-false (satisfied ss) further t ∙ e)) bs rest)

  -- siblings with which the rule does not go astray were asked for one after the other
  pub course_asked : (leaf : ℕ) (fathers siblings : List ℕ) → (needs k memory x leaf fathers siblings ≡ astray → ⊥)
      → Asked k memory x leaf fathers siblings
  unfolding needs
  course_asked p fathers [] course before s after cut = absurd (omega (arith, ap length cut, length-append before (s ∷ after)))
  course_asked p [] (r ∷ ss) course before s after cut =
      absurd (course (cond_ind (λ (n : Need). n ≡ astray) (eqb p 0 || ltb k (μ (memory p))) (λ t. refl) (λ t. refl)))
  course_asked p (f ∷ up) (r ∷ ss) course before s after cut =
      let inner : Need = cond (ltb k (μ (memory r))) (satisfied ss) (needs k memory x f up ss) in
      let a = astray_not (eqb p 0 || ltb k (μ (memory p))) (cond (eqb r (neighbour x (memory f))) inner astray) course in
      let b = only_not (eqb r (neighbour x (memory f))) inner a.1 in
      course_step p f up r ss before s after
      (ltb-false k (μ (memory p)) (or_second_fails (eqb p 0) (ltb k (μ (memory p))) a.0))
      (eqb-false p 0 (or_first_fails (eqb p 0) (ltb k (μ (memory p))) a.0))
      (eqb-true r (neighbour x (memory f)) b.0)
      b.1
      (λ further bs rest. course_asked f up ss further bs s after rest)
      cut

-- ---- the change, step by step

-- one step of the rule, where T is what follows above
stepped : ℕ → (ℕ → Page) → ℕ → ℕ → ℕ → ℕ → Page → List Write → List Write
stepped k memory x f s p P T =
    cond (leb k (μ P))
    (write p P ∷ [])
    (cond (ltb k (μ (memory s)))
    (shares x p P s (memory s) f (memory f))
    (cond (eqb f 0 && eqb (μ (less_key (between_at x (memory f)) (memory f))) 0)
    (write f (merged x (memory f) P (memory s)) ∷ write (left_one x (memory f) p s) free_page ∷ write (right_one x (memory f) p s) free_page ∷ [])
    (write (left_one x (memory f) p s) (merged x (memory f) P (memory s)) ∷ write (right_one x (memory f) p s) free_page ∷ T)))

module _ (k : ℕ) (memory : ℕ → Page) (x : ℕ) where
  shrunk_step : (f : ℕ) (up : List ℕ) (s : ℕ) (ss : List ℕ) (p : ℕ) (P : Page)
      → shrunk k memory x (f ∷ up) (s ∷ ss) p P ≡ stepped k memory x f s p P (shrunk k memory x up ss f (less_key (between_at x (memory f)) (memory f)))
  unfolding shrunk stepped
  shrunk_step f up s ss p P = refl

  -- a short page whose neighbour has more than k shares with it
  pub shrunk_shares : (f : ℕ) (up : List ℕ) (s : ℕ) (ss : List ℕ) (p : ℕ) (P : Page) → μ P < k → k < μ (memory s)
      → shrunk k memory x (f ∷ up) (s ∷ ss) p P ≡ shares x p P s (memory s) f (memory f)
  unfolding stepped
  shrunk_shares f up s ss p P h g = shrunk_step f up s ss p P ∙ rw (lt-leb k (μ P) h, lt-ltb k (μ (memory s)) g)

  -- one whose neighbour has k joins with it
  pub shrunk_joins : (f : ℕ) (up : List ℕ) (s : ℕ) (ss : List ℕ) (p : ℕ) (P : Page) → μ P < k → μ (memory s) ≤ k
      → shrunk k memory x (f ∷ up) (s ∷ ss) p P
      ≡ cond (eqb f 0 && eqb (μ (less_key (between_at x (memory f)) (memory f))) 0)
      (write f (merged x (memory f) P (memory s)) ∷ write (left_one x (memory f) p s) free_page ∷ write (right_one x (memory f) p s) free_page ∷ [])
      (write (left_one x (memory f) p s) (merged x (memory f) P (memory s))
      ∷ write (right_one x (memory f) p s) free_page
      ∷ shrunk k memory x up ss f (less_key (between_at x (memory f)) (memory f)))
  unfolding stepped
  shrunk_joins f up s ss p P h g = shrunk_step f up s ss p P ∙ rw (lt-leb k (μ P) h, le-ltb k (μ (memory s)) g)

  -- what follows above matters only where the neighbour has k
  step_same : (f s p : ℕ) (P : Page) (T T' : List Write) → k < μ (memory s) → stepped k memory x f s p P T ≡ stepped k memory x f s p P T'
  unfolding stepped
  step_same f s p P T T' h = rw (lt-ltb k (μ (memory s)) h)

  -- ---- the pages above a safe one are not touched

  pub shrunk_stops : (fathers above ss : List ℕ) (p : ℕ) (P : Page) → needs k memory x p fathers ss ≡ nothing
      → shrunk k memory x (fathers ++ above) ss p P ≡ shrunk k memory x fathers ss p P
  unfolding shrunk
  shrunk_stops [] [] ss p P e = refl
  shrunk_stops [] (a ∷ rest) ss p P e = rw (needs_top k memory x p ss e)
  shrunk_stops (f ∷ up) above [] p P e = refl
  shrunk_stops (f ∷ up) above (s ∷ ss) p P e =
      let less : Page = less_key (between_at x (memory f)) (memory f) in
      ⊎_elim
      (λ g.
      shrunk_step f (up ++ above) s ss p P
      ∙ step_same f s p P (shrunk k memory x (up ++ above) ss f less) (shrunk k memory x up ss f less) g.0
      ∙ sym (shrunk_step f up s ss p P))
      (λ g.
      shrunk_step f (up ++ above) s ss p P
      ∙ ap (stepped k memory x f s p P) (shrunk_stops up above ss f less g.1)
      ∙ sym (shrunk_step f up s ss p P))
      (needs_shared k memory x p f up s ss e).then

  -- what is needed does not depend on the pages above a safe one
  needs_stops : (fathers above ss : List ℕ) (p : ℕ) → ltb k (μ (memory (top_of p fathers))) ≡ true
      → needs k memory x p (fathers ++ above) ss ≡ needs k memory x p fathers ss
  unfolding needs
  needs_stops [] [] ss p safe = refl
  needs_stops [] (a ∷ rest) [] p safe =
      let test : eqb p 0 || ltb k (μ (memory p)) ≡ true = or_second (eqb p 0) safe in
      cond-true nothing (sibling (neighbour x (memory a))) test ∙ sym (cond-true nothing astray test)
  needs_stops [] (a ∷ rest) (s ∷ ss) p safe =
      let test : eqb p 0 || ltb k (μ (memory p)) ≡ true = or_second (eqb p 0) safe in
      let further : Need = needs k memory x a rest ss in
      cond-true astray (cond (eqb s (neighbour x (memory a))) (cond (ltb k (μ (memory s))) (satisfied ss) further) astray) test
      ∙ sym (cond-true astray astray test)
  needs_stops (f ∷ up) above [] p safe = refl
  needs_stops (f ∷ up) above (s ∷ ss) p safe =
      ap
      (λ (further : Need).
      cond (eqb p 0 || ltb k (μ (memory p)))
      astray
      (cond (eqb s (neighbour x (memory f))) (cond (ltb k (μ (memory s))) (satisfied ss) further) astray))
      (needs_stops up above ss f safe)

  -- nor where there are none above
  pub needs_held : (fathers above ss : List ℕ) (p : ℕ) → (above ≡ []) ⊎ (ltb k (μ (memory (top_of p fathers))) ≡ true)
      → needs k memory x p (fathers ++ above) ss ≡ needs k memory x p fathers ss
  needs_held fathers above ss p (inl e) =
      ap (λ (up : List ℕ). needs k memory x p (fathers ++ up) ss) e ∙ ap (λ (up : List ℕ). needs k memory x p up ss) (append-nil fathers)
  needs_held fathers above ss p (inr safe) = needs_stops fathers above ss p safe

-- ---- only held pages are written

-- of two pages the left one and the right one are among them
either_once : (q p s : ℕ) (b : Bool) → once q (cond b p s) ≤ once q p + once q s
either_once q p s b = cond_ind (λ (n : ℕ). once q n ≤ once q p + once q s) b (λ t. omega arith) (λ t. omega arith)

module _ (k : ℕ) (memory : ℕ → Page) (x q : ℕ) where
  shares_held : (p : ℕ) (P : Page) (s : ℕ) (S : Page) (f : ℕ) (F : Page)
      → times q (written_pages (shares x p P s S f F)) ≡ once q p + (once q s + (once q f + 0))
  unfolding shares
  shares_held p P s S f F = refl

  step_held : (f s p n : ℕ) (P : Page) (T : List Write) → once q f ≤ n → (1 ≤ times q (written_pages T) → 1 ≤ n)
      → 1 ≤ times q (written_pages (stepped k memory x f s p P T)) → 1 ≤ once q p + (once q s + n)
  unfolding stepped
  step_held f s p n P T h g =
      let left = either_once q p s (has_right x (memory f)) in
      let right = either_once q s p (has_right x (memory f)) in
      cond_ind (λ (W : List Write). 1 ≤ times q (written_pages W) → 1 ≤ once q p + (once q s + n)) (leb k (μ P))
      (λ t o. omega arith)
      (λ t.
      cond_ind (λ (W : List Write). 1 ≤ times q (written_pages W) → 1 ≤ once q p + (once q s + n)) (ltb k (μ (memory s)))
      (λ u o. let e = shares_held p P s (memory s) f (memory f) in omega arith)
      (λ u.
      cond_ind (λ (W : List Write). 1 ≤ times q (written_pages W) → 1 ≤ once q p + (once q s + n))
      (eqb f 0 && eqb (μ (less_key (between_at x (memory f)) (memory f))) 0)
      (λ v o. omega arith)
      (λ v o.
      by_test (leb 1 (times q (written_pages T)))
      (λ w. let up = g (leb-true 1 (times q (written_pages T)) w) in omega arith)
      (λ w. let none = leb-false 1 (times q (written_pages T)) w in omega arith))))

  shrunk_held : (fathers ss : List ℕ) (p : ℕ) (P : Page)
      → 1 ≤ times q (written_pages (shrunk k memory x fathers ss p P)) → 1 ≤ times q (p ∷ fathers) + times q ss
  unfolding shrunk
  shrunk_held [] ss p P o = omega arith
  shrunk_held (f ∷ up) [] p P o = omega arith
  shrunk_held (f ∷ up) (s ∷ ss) p P o =
      let less : Page = less_key (between_at x (memory f)) (memory f) in
      let T : List Write = shrunk k memory x up ss f less in
      let m = step_held f s p (times q (f ∷ up) + times q ss) P T (omega arith) (λ u. shrunk_held up ss f less u)
      (subst (λ (W : List Write). 1 ≤ times q (written_pages W)) (shrunk_step k memory x f up s ss p P) o) in
      omega arith

  -- every page that a deletion writes is held
  pub deletion_held : (leaf : ℕ) (fathers siblings : List ℕ)
      → member q (written_pages (deletion k memory x leaf fathers siblings)) ≡ true → member q ((leaf ∷ fathers) ++ siblings) ≡ true
  unfolding deletion
  deletion_held leaf fathers siblings m =
      let P : Page = with_entries (memory leaf) (without x (memory leaf).entries) in
      let o = shrunk_held fathers siblings leaf P (member_times q (written_pages (shrunk k memory x fathers siblings leaf P)) m) in
      times_member q ((leaf ∷ fathers) ++ siblings) (omega (arith, times_append q (leaf ∷ fathers) siblings))

-- ---- a short page and its neighbour, right or left of it

module _ (k : ℕ) (memory : ℕ → Page) (x f : ℕ) (up : List ℕ) (s : ℕ) (ss : List ℕ) (p : ℕ) (P F S : Page)
    (father : memory f ≡ F) (other : memory s ≡ S) (short : μ P < k) where
  spare : k < μ S → k < μ (memory s)
  spare h = subst (λ (Q : Page). k < μ Q) (sym other) h

  full : μ S ≤ k → μ (memory s) ≤ k
  full h = subst (λ (Q : Page). μ Q ≤ k) (sym other) h

  pub right_moves : (A B : Page) (r : ℕ) → k < μ S → has_right x F ≡ true → moved x F P S ≡ parted A r B
      → shrunk k memory x (f ∷ up) (s ∷ ss) p P ≡ write p A ∷ write s B ∷ write f (rekeyed (between_at x F) r F) ∷ []
  unfolding shares
  right_moves A B r h right e = shrunk_shares k memory x f up s ss p P short (spare h) ∙ rw (father, other, e, right)

  pub left_moves : (A B : Page) (r : ℕ) → k < μ S → has_right x F ≡ false → moved x F P S ≡ parted A r B
      → shrunk k memory x (f ∷ up) (s ∷ ss) p P ≡ write p B ∷ write s A ∷ write f (rekeyed (between_at x F) r F) ∷ []
  unfolding shares
  left_moves A B r h left e = shrunk_shares k memory x f up s ss p P short (spare h) ∙ rw (father, other, e, left)

  pub right_joins : (J less : Page) → μ S ≤ k → has_right x F ≡ true → merged x F P S ≡ J → less_key (between_at x F) F ≡ less
      → shrunk k memory x (f ∷ up) (s ∷ ss) p P
      ≡ cond (eqb f 0 && eqb (μ less) 0)
      (write f J ∷ write p free_page ∷ write s free_page ∷ [])
      (write p J ∷ write s free_page ∷ shrunk k memory x up ss f less)
  right_joins J less h right e g = shrunk_joins k memory x f up s ss p P short (full h) ∙ rw (father, other, e, g, right)

  pub left_joins : (J less : Page) → μ S ≤ k → has_right x F ≡ false → merged x F P S ≡ J → less_key (between_at x F) F ≡ less
      → shrunk k memory x (f ∷ up) (s ∷ ss) p P
      ≡ cond (eqb f 0 && eqb (μ less) 0)
      (write f J ∷ write s free_page ∷ write p free_page ∷ [])
      (write s J ∷ write p free_page ∷ shrunk k memory x up ss f less)
  left_joins J less h left e g = shrunk_joins k memory x f up s ss p P short (full h) ∙ rw (father, other, e, g, left)
