-- A slot that comes down its key's way: the step's tests of its pages hold, and once its want is granted it holds a stretch
-- of the way again, with the granted page as its lowest.
use Prim.Native.Nat.{ℕ, suc, ◌+◌, ◌≤◌, ◌<◌}
use mathlib.Core.Bool.{true, false, cond, not, ◌&&◌, ◌||◌}
use mathlib.Core.List.{List, [], ◌∷◌, ◌++◌, map, map-append, reverse, reverse-append, reverse-cons, append_assoc}
use mathlib.Core.Logic.{◌⊎◌, inl, inr, ⊎_elim}
use mathlib.Core.Path.{◌≡◌, refl, sym, ap, ap₂, ◌∙◌, subst}
use native.Mathlib.Omega.{arith}
use borrow.Author.Tests.{ltb-true, ltb-false, eqb-true, eqb-false, eq-eqb, ne_eqb}
use lib.Dec.{ltb, eqb}
use lib.ListN.{length, get_or, length-append, get_or-append}
use lib.Seq.{append_snoc, get_or_at, get_or-append_seam}
use Rattle.ground.proofs.Tests.{all_from}
use Rattle.ground.proofs.Bools.{and_both, or_first, or_second, not_of_false}
use Rattle.ground.proofs.Choice.{cond_ind, cond-false}
use Rattle.page.specs.Words.{Page, is_leaf}
use Rattle.page.specs.Place.{route}
use Rattle.slots.specs.declared.Op.{Op}
use Rattle.slots.specs.declared.Lock.{Lock}
use Rattle.slots.specs.declared.Under.{Under}
use Rattle.slots.specs.Parts.{key_of, held_lock, under, Stand, holding, converting, on_pages, wants_next}
use Rattle.slots.specs.Locks.{same_lock}
use Rattle.slots.proofs.LockLaws.{lock_same}
use Rattle.ground.specs.Tests.{all}
use Rattle.footing.specs.Granted.{is_safe, kept, at_its_leaf}
use Rattle.footing.specs.Fitting.{descends, rightly_kept, rightly_beside, rightly_across, rightly_converting, is_none, holds_due, fitting_new, fitting}
use Rattle.tree.specs.Tree.{Tr, way}
use Rattle.tree.specs.Facts.{WayFacts}
use Rattle.ground.proofs.Choice.{by_test}
use Rattle.tree.proofs.DeletionStep.{one_last}
use Rattle.runs.specs.Stance.{Rightly, HoldsWith, Locked, Starting, Coming}
use Rattle.runs.proofs.Paths.{no_length}
use Rattle.runs.proofs.Locking.{lock_test, due_plain, plain_holds}

-- ---- the step's tests of a slot that gathers pages

-- every page has the kind with which the operation goes down
plain_test : (lock : Lock) (pages : List ℕ) → all (λ (u : Under). same_lock u.lock lock) (map (λ (p : ℕ). under lock) pages) ≡ true
unfolding all
plain_test lock [] = refl
plain_test lock (p ∷ pages) = and_both (lock_same lock) (plain_test lock pages)

holds_test : (z : Stand) → converting z ≡ false → HoldsWith z → holds_due z ≡ true
holds_test z new w =
    let plain = plain_holds z (λ p. due_plain z p new) w in
    ap (all (λ (u : Under). same_lock u.lock (held_lock z.op)))
    (ap₂ (λ (ls ss : List Under). ls ++ ss) plain.0 plain.1 ∙ sym (map-append (λ (p : ℕ). under (held_lock z.op)) z.path z.beside))
    ∙ plain_test (held_lock z.op) (holding z)

pub fits_new : (k : ℕ) (memory : ℕ → Page) (z : Stand) → converting z ≡ false → Locked memory z
    → rightly_kept z.op k memory z.path z.want ≡ true
    → cond (at_its_leaf memory (reverse z.path))
    (descends memory (key_of z.op) z.path && (rightly_beside k memory z (reverse z.path) || rightly_across k memory z z.path))
    (descends memory (key_of z.op) (z.path ++ z.want ∷ []) && is_none z.beside) ≡ true
    → fitting k memory z ≡ true
unfolding fitting fitting_new
fits_new k memory z new locked kept rest =
    and_both kept
    (cond-false (rightly_converting k memory z (reverse z.path)) (fitting_new k memory z) new
    ∙ and_both (and_both (lock_test memory z (locked.wants new)) (holds_test z new locked.holds)) rest)

-- ---- a slot that comes down

-- The pages that a slot holds while it comes down are those that it should, or none yet, where it wants page 0.
abbrev pub HeldRightly : Op → ℕ → (ℕ → Page) → List ℕ → ℕ → Type 0
HeldRightly op k memory path want = ((path ≡ []) × (want ≡ 0)) ⊎ Rightly op k memory path

-- A slot that comes down: it holds a stretch of its key's way, or nothing yet, and wants the next page of it.
pub record Down (k : ℕ) (memory : ℕ → Page) (l : ℕ) (t : Tr l) (z : Stand) : Type 0 where
  pub lower : List ℕ
  pub upper : List ℕ
  pub whole : way (key_of z.op) l t ≡ lower ++ z.want ∷ (reverse z.path ++ upper)
  pub held : HeldRightly z.op k memory z.path z.want

-- Once page p is granted: the path is a stretch of the key's way, and p is its lowest page.
pub record Reached (op : Op) (k : ℕ) (memory : ℕ → Page) (l : ℕ) (t : Tr l) (path : List ℕ) (p : ℕ) : Type 0 where
  pub fathers : List ℕ
  pub upward : reverse path ≡ p ∷ fathers
  pub lower : List ℕ
  pub upper : List ℕ
  pub whole : way (key_of op) l t ≡ lower ++ p ∷ (fathers ++ upper)
  pub rightly : Rightly op k memory path

-- ---- what the way tells

module _ (memory : ℕ → Page) (x l : ℕ) (t : Tr l) (facts : WayFacts memory x l t) where
  -- the level of a page of the way, by the pages below it
  level_on_way : (lower : List ℕ) (q : ℕ) (upper : List ℕ) → way x l t ≡ lower ++ q ∷ upper → (memory q).level ≡ length lower + 1
  level_on_way lower q upper e =
      let inside : length lower ≤ l = omega (arith, ap length e, length-append lower (q ∷ upper), facts.pages) in
      subst (λ (p : ℕ). (memory p).level ≡ length lower + 1)
      (ap (λ (w : List ℕ). get_or w (length lower) 0) e ∙ get_or-append_seam lower q upper 0)
      (facts.level (length lower) inside)

  -- each page of a stretch of the way leads to the next lower one
  pub descends_way : (path lower upper : List ℕ) → way x l t ≡ lower ++ (reverse path ++ upper) → descends memory x path ≡ true
  unfolding descends
  descends_way [] lower upper e = refl
  descends_way (p ∷ []) lower upper e = refl
  descends_way (p ∷ (q ∷ rest)) lower upper e =
      let one : reverse (p ∷ (q ∷ rest)) ++ upper ≡ reverse (q ∷ rest) ++ p ∷ upper
      = ap (λ (ps : List ℕ). ps ++ upper) (reverse-cons p (q ∷ rest)) ∙ append_snoc (reverse (q ∷ rest)) p upper in
      let two : reverse (q ∷ rest) ++ p ∷ upper ≡ reverse rest ++ q ∷ p ∷ upper
      = ap (λ (ps : List ℕ). ps ++ p ∷ upper) (reverse-cons q rest) ∙ append_snoc (reverse rest) q (p ∷ upper) in
      let cut : way x l t ≡ lower ++ reverse rest ++ q ∷ p ∷ upper
      = e ∙ ap (λ (ps : List ℕ). lower ++ ps) (one ∙ two) ∙ sym (append_assoc lower (reverse rest) (q ∷ p ∷ upper)) in
      let next = facts.father (lower ++ reverse rest) q p upper cut in
      and_both
      (and_both (eq-eqb (route x (memory p)) q next.0) (eq-eqb (memory p).level ((memory q).level + 1) next.1))
      (descends_way (q ∷ rest) lower (p ∷ upper) (e ∙ ap (λ (ps : List ℕ). lower ++ ps) one))

  -- a page above another one of the way is no leaf
  above_leaf : (up lower : List ℕ) (want : ℕ) (upper : List ℕ) → way x l t ≡ lower ++ want ∷ (up ++ upper) → at_its_leaf memory up ≡ false
  above_leaf [] lower want upper e = refl
  above_leaf (p ∷ up) lower want upper e =
      let next = facts.father lower want p (up ++ upper) e in
      let level = level_on_way lower want (p ∷ (up ++ upper)) e in
      ne_eqb (memory p).level 1 (λ h. absurd (omega (arith, next.1)))

module _ (op : Op) (k : ℕ) (memory : ℕ → Page) where
  -- ---- the pages that are kept

  -- one page that is safe
  pub rightly_alone : (p : ℕ) → is_safe op k (memory p) ≡ true → Rightly op k memory (p ∷ [])
  rightly_alone p safe = record { some = omega arith; top = inr safe; unsafe = λ i h. absurd (omega arith) }

  -- page 0
  rightly_root : (p : ℕ) → p ≡ 0 → Rightly op k memory (p ∷ [])
  rightly_root p e = record { some = omega arith; top = inl e; unsafe = λ i h. absurd (omega arith) }

  -- one page more that is not safe
  rightly_more : (path : List ℕ) (p : ℕ) → Rightly op k memory path → is_safe op k (memory p) ≡ false → Rightly op k memory (path ++ p ∷ [])
  rightly_more path p r f =
      let len : length (path ++ p ∷ []) ≡ length path + 1 = length-append path (p ∷ []) in
      let first : get_or path 0 0 ≡ get_or (path ++ p ∷ []) 0 0 = sym (get_or-append path (p ∷ []) 0 0 r.some) in
      record {
        some = omega arith;
        top = subst (λ (q : ℕ). (q ≡ 0) ⊎ (is_safe op k (memory q) ≡ true)) first r.top;
        unsafe = λ i h.
            by_test (ltb (suc i) (length path))
            (λ y.
            let inside : suc i < length path = ltb-true (suc i) (length path) y in
            subst (λ (q : ℕ). is_safe op k (memory q) ≡ false) (sym (get_or-append path (p ∷ []) 0 (suc i) inside)) (r.unsafe i inside))
            (λ o.
            let last : length path ≤ suc i = ltb-false (suc i) (length path) o in
            let at : length path ≡ suc i = omega arith in
            subst (λ (q : ℕ). is_safe op k (memory q) ≡ false) (sym (get_or_at path p [] 0 (suc i) at)) f);
      }

  rightly_on : (path : List ℕ) (want : ℕ) → HeldRightly op k memory path want → is_safe op k (memory want) ≡ false
      → Rightly op k memory (path ++ want ∷ [])
  rightly_on path want (inl (none, root)) f =
      subst (λ (ps : List ℕ). Rightly op k memory (ps ++ want ∷ [])) (sym none) (rightly_root want root)
  rightly_on path want (inr r) f = rightly_more path want r f

  -- the step's test of the pages that are kept
  kept_test : (path : List ℕ) (want : ℕ) → HeldRightly op k memory path want → rightly_kept op k memory path want ≡ true
  kept_test [] want (inl (none, root)) = eq-eqb want 0 root
  kept_test [] want (inr r) = absurd (omega (arith, r.some))
  kept_test (top ∷ below) want (inl (none, root)) = absurd (omega (arith, ap length none))
  kept_test (top ∷ below) want (inr r) =
      and_both
      (⊎_elim
      (λ e. or_first (is_safe op k (memory top)) (eq-eqb top 0 e))
      (λ safe. or_second (eqb top 0) safe)
      r.top)
      (all_from (λ (p : ℕ). not (is_safe op k (memory p))) below 0 (λ i h. not_of_false (r.unsafe i (omega arith))))

  pub rightly_test : (path : List ℕ) (want : ℕ) → Rightly op k memory path → rightly_kept op k memory path want ≡ true
  rightly_test path want r = kept_test path want (inr r)

module _ (k : ℕ) (memory : ℕ → Page) (l : ℕ) (t : Tr l) (z : Stand) (facts : WayFacts memory (key_of z.op) l t) where
  -- a slot that has begun, or comes down
  pub starting_down : Starting z → Down k memory l t z
  starting_down s =
      let (L, p, cut) = one_last (way (key_of z.op) l t) (omega (arith, facts.pages)) in
      let len : length L ≡ l = omega (arith, ap length cut, length-append L (p ∷ []), facts.pages) in
      let root : p ≡ z.want
      = sym (get_or_at L p [] 0 l len) ∙ ap (λ (w : List ℕ). get_or w l 0) (sym cut) ∙ facts.root ∙ sym s.wants_root in
      record {
        lower = L;
        upper = [];
        whole = cut ∙ ap₂ (λ (q : ℕ) (ps : List ℕ). L ++ q ∷ (reverse ps ++ [])) root (sym s.no_path);
        held = inl (s.no_path, s.wants_root);
      }

  pub coming_down : Coming k memory l t z → Down k memory l t z
  coming_down c = record { lower = c.lower; upper = c.upper; whole = c.whole; held = inr c.rightly }

  module _ (down : Down k memory l t z) where
    -- it does not stand at its leaf
    pub down_above : at_its_leaf memory (reverse z.path) ≡ false
    down_above = above_leaf memory (key_of z.op) l t facts (reverse z.path) down.lower z.want down.upper down.whole

    -- its pages are the ones the rules would have it hold and want
    pub down_fitting : z.beside ≡ [] → converting z ≡ false → Locked memory z → fitting k memory z ≡ true
    down_fitting none new locked =
        let stretch : way (key_of z.op) l t ≡ down.lower ++ (reverse (z.path ++ z.want ∷ []) ++ down.upper)
        = down.whole ∙ ap (λ (ps : List ℕ). down.lower ++ (ps ++ down.upper)) (sym (reverse-append z.path (z.want ∷ []))) in
        fits_new k memory z new locked
        (kept_test z.op k memory z.path z.want down.held)
        (cond-false
        (descends memory (key_of z.op) z.path
        && (rightly_beside k memory z (reverse z.path) || rightly_across k memory z z.path))
        (descends memory (key_of z.op) (z.path ++ z.want ∷ []) && is_none z.beside)
        down_above
        ∙ and_both
        (descends_way memory (key_of z.op) l t facts (z.path ++ z.want ∷ []) down.lower down.upper stretch)
        (ap is_none none))

    -- what it holds once the want is granted
    pub down_reached : Reached z.op k memory l t (kept k memory z) z.want
    down_reached =
        cond_ind (λ (ps : List ℕ). Reached z.op k memory l t ps z.want) (is_safe z.op k (memory z.want))
        (λ safe. record {
          fathers = [];
          upward = refl;
          lower = down.lower;
          upper = reverse z.path ++ down.upper;
          whole = down.whole;
          rightly = rightly_alone z.op k memory z.want safe;
        })
        (λ f. record {
          fathers = reverse z.path;
          upward = reverse-append z.path (z.want ∷ []);
          lower = down.lower;
          upper = down.upper;
          whole = down.whole;
          rightly = rightly_on z.op k memory z.path z.want down.held f;
        })

  -- ---- the granted page

  module _ (path : List ℕ) (r : Reached z.op k memory l t path z.want) where
    reached_level : (memory z.want).level ≡ length r.lower + 1
    reached_level = level_on_way memory (key_of z.op) l t facts r.lower z.want (r.fathers ++ r.upper) r.whole

    -- above the leaves, its route for the key is the next page of the way
    pub reached_next : is_leaf (memory z.want) ≡ false → (locks : List Under) (lock : Lock) → Coming k memory l t (wants_next (on_pages z path locks [] []) (route (key_of z.op) (memory z.want)) lock)
    reached_next upperPage locks lock =
        let higher = eqb-false (memory z.want).level 1 upperPage in
        let some : 1 ≤ length r.lower
        = by_test (ltb 0 (length r.lower))
        (λ y. ltb-true 0 (length r.lower) y)
        (λ o. let none = ltb-false 0 (length r.lower) o in absurd (higher (omega (arith, reached_level)))) in
        let (L, q, cut) = one_last r.lower some in
        let whole : way (key_of z.op) l t ≡ L ++ q ∷ z.want ∷ (r.fathers ++ r.upper)
        = r.whole ∙ ap (λ (ps : List ℕ). ps ++ z.want ∷ (r.fathers ++ r.upper)) cut ∙ append_snoc L q (z.want ∷ (r.fathers ++ r.upper)) in
        let leadsTo : route (key_of z.op) (memory z.want) ≡ q = (facts.father L q z.want (r.fathers ++ r.upper) whole).0 in
        record {
          lower = L;
          upper = r.upper;
          whole =
              whole
              ∙ ap₂ (λ (c : ℕ) (ps : List ℕ). L ++ c ∷ (ps ++ r.upper)) (sym leadsTo) (sym r.upward);
          rightly = r.rightly;
          no_siblings = refl;
        }

    -- a leaf is where the way ends
    pub reached_leaf : is_leaf (memory z.want) ≡ true → way (key_of z.op) l t ≡ z.want ∷ (r.fathers ++ r.upper)
    reached_leaf leafPage =
        let level = eqb-true (memory z.want).level 1 leafPage in
        r.whole ∙ ap (λ (ps : List ℕ). ps ++ z.want ∷ (r.fathers ++ r.upper)) (no_length r.lower (omega (arith, reached_level)))
