-- The rule of insertion along the pages that it holds: where it stops, which pages it writes and how many it takes.
-- Nothing here speaks of the tree: a way is a list of pages, from the leaf upward, all full but its top.
use Prim.Native.Nat.{ℕ, suc, ◌+◌, ◌*◌, ◌≤◌, ◌<◌}
use mathlib.Core.Bool.{Bool, true, false, cond, not, ◌&&◌}
use mathlib.Core.List.{List, [], ◌∷◌, ◌++◌, map, append-nil}
use mathlib.Core.Logic.{◌⊎◌, inl, inr}
use mathlib.Core.Path.{◌≡◌, refl, sym, ap, ◌∙◌}
use native.Mathlib.Omega.{arith}
use borrow.Author.Tests.{ltb-true, ltb-false, leb-true, leb-false, eqb-true, eqb-false, eq-eqb, ne_eqb, not-true}
use lib.Dec.{leb, ltb, eqb}
use lib.ListN.{length, take, drop, length-drop}
use Rattle.ground.specs.Tests.{all, count, member}
use Rattle.ground.proofs.Bools.{and_first, and_second}
use Rattle.ground.proofs.Choice.{by_test, cond-true, cond-false}
use Rattle.page.specs.Words.{Page, entry, μ}
use Rattle.page.specs.Place.{place}
use Rattle.page.specs.Splits.{put, split}
use Rattle.pool.specs.Pool.{Write, write}
use Rattle.change.specs.Insertion.{lowest, is_full, room, settled}
use Rattle.change.proofs.RuleLaws.{settled_fits, settled_splits, settled_raises}
use Rattle.tree.specs.Tree.{once}
use Rattle.tree.specs.Change.{written_pages, top_of, below_top}
use Rattle.tree.specs.Insertion.{has_space, new_pages}
use Rattle.page.proofs.PutLaws.{put_μ}
use Rattle.tree.proofs.Memory.{times}

-- a full page takes one new page more than those above it,
pub new_pages_full : (k n : ℕ) (ns : List ℕ) → n ≡ 2 * k → new_pages k (n ∷ ns) ≡ suc (new_pages k ns)
new_pages_full k n ns e = cond-true (suc (new_pages k ns)) 0 (eq-eqb n (2 * k) e)

-- and one with space takes none
pub new_pages_space : (k n : ℕ) (ns : List ℕ) → n < 2 * k → new_pages k (n ∷ ns) ≡ 0
new_pages_space k n ns h = cond-false (suc (new_pages k ns)) 0 (ne_eqb n (2 * k) (λ e. omega arith))

-- the first pages of a free list: its lowest, and the first of the others
taken_first : (q : ℕ) (free : List ℕ) (n : ℕ)
    → n < length free → times q (take (suc n) free) ≡ once q (lowest free) + times q (take n (drop 1 free))
taken_first q [] n h = absurd (omega arith)
taken_first q (a ∷ rest) n h = refl

module _ (k : ℕ) (memory : ℕ → Page) where
  -- no page of the list has more than 2k
  abbrev pub AtMost : List ℕ → Type 0
  AtMost [] = Unit {0}
  AtMost (p ∷ ps) = (μ (memory p) ≤ 2 * k) × AtMost ps

  -- every page below the top of the way is full
  abbrev pub FullBelow : ℕ → List ℕ → Type 0
  FullBelow p [] = Unit {0}
  FullBelow p (f ∷ up) = (μ (memory p) ≡ 2 * k) × FullBelow f up

  -- the numbers μ of a way
  abbrev pub numbers : List ℕ → List ℕ
  numbers ps = map (λ (p : ℕ). μ (memory p)) ps

  -- pages without space are full
  pub full_below : (p : ℕ) (fathers : List ℕ)
      → AtMost (p ∷ fathers)
      → all (λ (q : ℕ). not (has_space k memory q)) (below_top p fathers) ≡ true
      → FullBelow p fathers
  unfolding all
  full_below p [] m a = tt
  full_below p (f ∷ up) m a =
      let rest : Bool = all (λ (q : ℕ). not (has_space k memory q)) (below_top f up) in
      let none = ltb-false (μ (memory p)) (2 * k) (not-true (has_space k memory p) (and_first (not (has_space k memory p)) rest a)) in
      (omega (arith, m.0), full_below f up m.1 (and_second (not (has_space k memory p)) rest a))

  -- the pages that a way takes: one for each full page below its top, and two where its top is full
  pub new_pages_way : (p : ℕ) (fathers : List ℕ) → FullBelow p fathers
      → new_pages k (numbers (p ∷ fathers)) ≡ length fathers + cond (is_full k memory (top_of p fathers)) 2 0
  new_pages_way p [] f = omega arith
  new_pages_way p (q ∷ up) f =
      let ih = new_pages_way q up f.1 in
      new_pages_full k (μ (memory p)) (numbers (q ∷ up)) f.0 ∙ omega arith

  -- its full pages: those below its top, and its top where that is full
  count_way : (p : ℕ) (fathers : List ℕ) → FullBelow p fathers
      → count (is_full k memory) (p ∷ fathers) ≡ length fathers + cond (is_full k memory (top_of p fathers)) 1 0
  unfolding count
  count_way p [] f = omega arith
  count_way p (q ∷ up) f =
      let ih = count_way q up f.1 in
      let n : ℕ = count (is_full k memory) (q ∷ up) in
      cond-true (suc n) n (eq-eqb (μ (memory p)) (2 * k) f.0) ∙ omega arith

  -- a choice of 1 made twice is a choice of 2
  twice : (b : Bool) → cond b 1 0 + cond b 1 0 ≡ cond b 2 0
  twice true = refl
  twice false = refl

  -- the count of room is the number of pages that the way takes
  pub room_way : (p : ℕ) (fathers : List ℕ) → FullBelow p fathers
      → member 0 (p ∷ fathers) && is_full k memory 0 ≡ is_full k memory (top_of p fathers)
      → room k memory p (p ∷ fathers) ≡ new_pages k (numbers (p ∷ fathers))
  unfolding room
  room_way p fathers f z =
      by_test (ltb (μ (memory p)) (2 * k))
      (λ t. cond-true 0 (count (is_full k memory) (p ∷ fathers) + cond (member 0 (p ∷ fathers) && is_full k memory 0) 1 0) t
      ∙ sym (new_pages_space k (μ (memory p)) (numbers fathers) (ltb-true (μ (memory p)) (2 * k) t)))
      (λ t. cond-false 0 (count (is_full k memory) (p ∷ fathers) + cond (member 0 (p ∷ fathers) && is_full k memory 0) 1 0) t
      ∙ ap (λ (b : Bool). count (is_full k memory) (p ∷ fathers) + cond b 1 0) z
      ∙ (let counted = count_way p fathers f in
      let taken = new_pages_way p fathers f in
      let both = twice (is_full k memory (top_of p fathers)) in
      omega arith))

  -- the way stops at its top: there is nothing above it, or it has space
  abbrev pub Stops : ℕ → List ℕ → List ℕ → Type 0
  Stops p fathers above = (above ≡ []) ⊎ (has_space k memory (top_of p fathers) ≡ true)

  -- the pages above such a top need no new page
  pub new_pages_stops : (p : ℕ) (fathers above : List ℕ) → Stops p fathers above
      → new_pages k (numbers ((p ∷ fathers) ++ above)) ≡ new_pages k (numbers (p ∷ fathers))
  new_pages_stops p fathers above (inl e) =
      ap (λ (a : List ℕ). new_pages k (numbers ((p ∷ fathers) ++ a))) e
      ∙ ap (λ (ps : List ℕ). new_pages k (numbers ps)) (append-nil (p ∷ fathers))
  new_pages_stops p [] above (inr e) =
      let less = ltb-true (μ (memory p)) (2 * k) e in
      new_pages_space k (μ (memory p)) (numbers above) less ∙ sym (new_pages_space k (μ (memory p)) [] less)
  new_pages_stops p (f ∷ up) above (inr e) =
      ap (λ (n : ℕ). cond (eqb (μ (memory p)) (2 * k)) (suc n) 0) (new_pages_stops f up above (inr e))

  module _ (x : ℕ) where
    -- the father with one reference key more, as the rule puts it in
    abbrev pub father_with : ℕ → Page → ℕ → Page
    father_with father P taken = put (place x (memory father).entries) (entry (split k P).between taken) (memory father)

    -- the pages above such a top do not matter to the rule
    pub settled_stops : (free : List ℕ) (p : ℕ) (P : Page) (fathers above : List ℕ) → μ P ≡ suc (μ (memory p)) → Stops p fathers above
        → settled k memory x free (fathers ++ above) p P ≡ settled k memory x free fathers p P
    settled_stops free p P fathers above m (inl e) =
        ap (λ (ps : List ℕ). settled k memory x free ps p P) (ap (λ (a : List ℕ). fathers ++ a) e ∙ append-nil fathers)
    settled_stops free p P [] above m (inr e) =
        let less = ltb-true (μ (memory p)) (2 * k) e in
        settled_fits k memory x free above p P (omega arith) ∙ sym (settled_fits k memory x free [] p P (omega arith))
    settled_stops free p P (f ∷ up) above m (inr e) =
        by_test (leb (μ P) (2 * k))
        (λ t.
        let fits = leb-true (μ P) (2 * k) t in
        settled_fits k memory x free (f ∷ (up ++ above)) p P fits ∙ sym (settled_fits k memory x free (f ∷ up) p P fits))
        (λ t.
        let more = leb-false (μ P) (2 * k) t in
        settled_splits k memory x free f (up ++ above) p P more
        ∙ ap (λ (W : List Write). write (lowest free) (split k P).right ∷ write p (split k P).left ∷ W)
        (settled_stops (drop 1 free) f (father_with f P (lowest free)) up above (put_μ _ _ _) (inr e))
        ∙ sym (settled_splits k memory x free f up p P more))

    -- the rule writes each page of the way once, and each page that it takes, which are the first ones of the free list
    pub settled_pages : (q : ℕ) (free : List ℕ) (p : ℕ) (P : Page) (fathers : List ℕ)
        → μ P ≡ suc (μ (memory p))
        → AtMost (p ∷ fathers)
        → FullBelow p fathers
        → new_pages k (numbers (p ∷ fathers)) ≤ length free
        → times q (written_pages (settled k memory x free fathers p P))
        ≡ times q (p ∷ fathers) + times q (take (new_pages k (numbers (p ∷ fathers))) free)
    settled_pages q free p P [] m a f r =
        by_test (eqb (μ (memory p)) (2 * k))
        (λ t.
        let full : new_pages k (numbers (p ∷ [])) ≡ 2 = new_pages_full k (μ (memory p)) [] (eqb-true (μ (memory p)) (2 * k) t) in
        let is = eqb-true (μ (memory p)) (2 * k) t in
        let first = taken_first q free 1 (omega arith) in
        let second = taken_first q (drop 1 free) 0 (rw (length-drop 1 free) (omega arith)) in
        let count : times q (take (new_pages k (numbers (p ∷ []))) free) ≡ times q (take 2 free)
        = ap (λ (n : ℕ). times q (take n free)) full in
        ap (λ (W : List Write). times q (written_pages W)) (settled_raises k memory x free p P (omega arith)) ∙ omega arith)
        (λ t.
        let other : μ (memory p) ≡ 2 * k → ⊥ = eqb-false (μ (memory p)) (2 * k) t in
        let none : new_pages k (numbers (p ∷ [])) ≡ 0 = new_pages_space k (μ (memory p)) [] (omega (arith, a.0)) in
        let count : times q (take (new_pages k (numbers (p ∷ []))) free) ≡ 0 = ap (λ (n : ℕ). times q (take n free)) none in
        ap (λ (W : List Write). times q (written_pages W)) (settled_fits k memory x free [] p P (omega (arith, a.0))) ∙ omega arith)
    settled_pages q free p P (g ∷ up) m a f r =
        let n : ℕ = new_pages k (numbers (g ∷ up)) in
        let full : new_pages k (numbers (p ∷ g ∷ up)) ≡ suc n = new_pages_full k (μ (memory p)) (numbers (g ∷ up)) f.0 in
        let first = taken_first q free n (omega arith) in
        let count : times q (take (new_pages k (numbers (p ∷ g ∷ up))) free) ≡ times q (take (suc n) free)
        = ap (λ (i : ℕ). times q (take i free)) full in
        let above = settled_pages q (drop 1 free) g (father_with g P (lowest free)) up (put_μ _ _ _) a.1 f.1
        (rw (length-drop 1 free) (omega arith)) in
        ap (λ (W : List Write). times q (written_pages W)) (settled_splits k memory x free g up p P (omega (arith, f.0))) ∙ omega arith
