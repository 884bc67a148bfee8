-- A path and its siblings in turn, from the top down, cell by cell: which page is converted next, and whether ξ stands before α. Each law is one
-- step of a walk along the cells.
use Prim.Native.Nat.{ℕ, ◌+◌, ◌-◌, ◌≤◌, ◌<◌}
use mathlib.Core.Bool.{Bool, true, false, cond}
use mathlib.Core.List.{List, [], ◌∷◌, ◌++◌}
use mathlib.Core.Path.{◌≡◌, refl, sym, ap, ap₂, ◌∙◌}
use native.Mathlib.Numerals.{add-one}
use native.Mathlib.Omega.{arith}
use borrow.Author.Tests.{lt-ltb, le-ltb}
use lib.Dec.{ltb}
use lib.ListN.{length, get_or, take, drop, length-drop, drop_of_length-le}
use lib.Seq.{length-take-le, get_or-take, drop-cons}
use Rattle.ground.specs.Tests.{all}
use Rattle.ground.proofs.Bools.{not_both}
use Rattle.ground.proofs.Choice.{cond-true, cond-false}
use Rattle.slots.specs.declared.Lock.{Lock}
use Rattle.slots.specs.declared.Lock.TheVariants.{None, Rho, Xi, UpdaterRho, Alpha}
use Rattle.slots.specs.declared.Under.{Under}
use Rattle.slots.specs.declared.Slot.{Slot}
use Rattle.slots.specs.Parts.{under, path_of, beside_of, locks_of, sidelocks_of}
use Rattle.slots.specs.Locks.{same_lock}
use Rattle.std.specs.Prelude.{Some, None as Nothing}
use Rattle.footing.specs.Granted.{in_turn, unconverted}
use Rattle.footing.specs.Fitting.{xi_then_alpha}
use Rattle.footing.specs.Standing.{turn_of, may_follow}

-- ---- cells in turn

module _ {A : Type 0} (none : A) (cells : List A) (depth : ℕ) (beside : List A) (breadth : ℕ) (long : depth ≤ length cells)
    (long' : breadth ≤ length beside) where
  -- from cell i of the path on
  abbrev turns_from : ℕ → List A
  turns_from i = in_turn none (drop i (take depth cells)) (take breadth beside)

  -- the sibling of a page above these, if it has one
  abbrev sibling_of : List A → List A
  sibling_of below = cond (ltb (length below) (length (take breadth beside))) (get_or (take breadth beside) (length below) none ∷ []) []

  -- those below cell i
  abbrev below : ℕ → List A
  below i = drop (i + 1) (take depth cells)

  length_below : (i : ℕ) → length (below i) ≡ depth - 1 - i
  length_below i = omega (arith, length-drop (i + 1) (take depth cells), length-take-le depth cells long)

  length_beside : length (take breadth beside) ≡ breadth
  length_beside = length-take-le breadth beside long'

  -- the page in cell i, its sibling, and the others
  pub turns_next : (i : ℕ) → i < depth → turns_from i ≡ get_or cells i none ∷ (sibling_of (below i) ++ turns_from (i + 1))
  unfolding in_turn
  turns_next i h =
      let same : length (take depth cells) ≡ depth = length-take-le depth cells long in
      ap (λ (l : List A). in_turn none l (take breadth beside))
      (drop-cons (take depth cells) i none (omega arith)
      ∙ ap₂ (λ (a : A) (m : ℕ). a ∷ drop m (take depth cells)) (get_or-take depth cells i none h) (sym (add-one i)))

  -- where it has one
  pub turns_both : (i : ℕ) → i < depth → depth - 1 - i < breadth
      → turns_from i ≡ get_or cells i none ∷ (get_or beside (depth - 1 - i) none ∷ turns_from (i + 1))
  turns_both i h l =
      turns_next i h
      ∙ ap (λ (s : List A). get_or cells i none ∷ (s ++ turns_from (i + 1)))
      (cond-true _ _ (lt-ltb (length (below i)) (length (take breadth beside)) (omega (arith, length_below i, length_beside)))
      ∙ ap (λ (j : ℕ). get_or (take breadth beside) j none ∷ []) (length_below i)
      ∙ ap (λ (a : A). a ∷ []) (get_or-take breadth beside (depth - 1 - i) none l))

  -- where it has none
  pub turns_alone : (i : ℕ) → i < depth → breadth ≤ depth - 1 - i → turns_from i ≡ get_or cells i none ∷ turns_from (i + 1)
  turns_alone i h l =
      turns_next i h
      ∙ ap (λ (s : List A). get_or cells i none ∷ (s ++ turns_from (i + 1)))
      (cond-false _ _ (le-ltb (length (below i)) (length (take breadth beside)) (omega (arith, length_below i, length_beside))))

  -- where none is left
  pub turns_done : (i : ℕ) → depth ≤ i → turns_from i ≡ []
  unfolding in_turn
  turns_done i h =
      let none_left : length (take depth cells) ≤ i = omega (arith, length-take-le depth cells long) in
      ap (λ (l : List A). in_turn none l (take breadth beside)) (drop_of_length-le (take depth cells) none_left)

-- ---- the cells of a slot

-- there are as many as it holds pages, and as many kinds of lock
pub record Kinds (s : Slot) : Type 0 where
  pub path : s.depth ≤ length s.locks
  pub beside : s.breadth ≤ length s.sidelocks

pub record Cells (s : Slot) : Type 0 where
  pub path : s.depth ≤ length s.path
  pub beside : s.breadth ≤ length s.beside
  pub kinds : Kinds s

pub kinds_whole : (s : Slot) → s.depth ≤ 10 → s.breadth ≤ 10 → (length s.locks ≡ 10) × (length s.sidelocks ≡ 10) → Kinds s
kinds_whole s deep few long = record { path = omega arith; beside = omega arith }

pub cells_whole : (s : Slot) → s.depth ≤ 10 → s.breadth ≤ 10
    → (length s.path ≡ 10) × (length s.locks ≡ 10) × (length s.beside ≡ 10) × (length s.sidelocks ≡ 10) → Cells s
cells_whole s deep few long = record { path = omega arith; beside = omega arith; kinds = kinds_whole s deep few (long.1, long.3) }

-- the kinds under which it holds the page in cell i of its path, and the one beside that
abbrev pub kind_at : Slot → ℕ → Lock
kind_at s i = (get_or s.locks i (under None)).lock

abbrev pub side_at : Slot → ℕ → Lock
side_at s i = (get_or s.sidelocks (s.depth - 1 - i) (under None)).lock

-- ---- the page that is converted next

-- the first is held with another kind than ξ, or with ξ
unconverted_here : (p : ℕ) (pages : List ℕ) (u : Under) (locks : List Under) → same_lock u.lock Xi ≡ false
    → unconverted (p ∷ pages) (u ∷ locks) ≡ p ∷ pages
unfolding unconverted
unconverted_here p pages u locks f = cond-false _ _ f

unconverted_on : (p : ℕ) (pages : List ℕ) (u : Under) (locks : List Under) → same_lock u.lock Xi ≡ true
    → unconverted (p ∷ pages) (u ∷ locks) ≡ unconverted pages locks
unfolding unconverted
unconverted_on p pages u locks t = cond-true _ _ t

-- what of a slot is left to convert from cell i of its path on
abbrev pub left_from : Slot → ℕ → List ℕ
left_from s i = unconverted (in_turn 0 (drop i (path_of s)) (beside_of s)) (in_turn (under None) (drop i (locks_of s)) (sidelocks_of s))

module _ {s : Slot} (whole : Cells s) (i : ℕ) where
  abbrev pages : ℕ → List ℕ
  pages j = turns_from 0 s.path s.depth s.beside s.breadth whole.path whole.beside j

  abbrev kinds : ℕ → List Under
  kinds j = turns_from (under None) s.locks s.depth s.sidelocks s.breadth whole.kinds.path whole.kinds.beside j

  module _ (h : i < s.depth) where
    -- the page is not converted
    pub turn_here : same_lock (kind_at s i) Xi ≡ false → turn_of (left_from s i) ≡ Some (get_or s.path i 0)
    unfolding path_of beside_of locks_of sidelocks_of
    turn_here f =
        ap turn_of
        (ap₂ unconverted (turns_next 0 s.path s.depth s.beside s.breadth whole.path whole.beside i h)
        (turns_next (under None) s.locks s.depth s.sidelocks s.breadth whole.kinds.path whole.kinds.beside i h)
        ∙ unconverted_here _ _ _ _ f)

    module _ (t : same_lock (kind_at s i) Xi ≡ true) where
      -- it is, and has no sibling
      pub turn_alone : s.breadth ≤ s.depth - 1 - i → left_from s i ≡ left_from s (i + 1)
      unfolding path_of beside_of locks_of sidelocks_of
      turn_alone l =
          ap₂ unconverted (turns_alone 0 s.path s.depth s.beside s.breadth whole.path whole.beside i h l)
          (turns_alone (under None) s.locks s.depth s.sidelocks s.breadth whole.kinds.path whole.kinds.beside i h l)
          ∙ unconverted_on _ _ _ _ t

      module _ (l : s.depth - 1 - i < s.breadth) where
        with_sibling : left_from s i ≡ unconverted (get_or s.beside (s.depth - 1 - i) 0 ∷ pages (i + 1)) (get_or s.sidelocks (s.depth - 1 - i) (under None) ∷ kinds (i + 1))
        unfolding path_of beside_of locks_of sidelocks_of
        with_sibling =
            ap₂ unconverted (turns_both 0 s.path s.depth s.beside s.breadth whole.path whole.beside i h l)
            (turns_both (under None) s.locks s.depth s.sidelocks s.breadth whole.kinds.path whole.kinds.beside i h l)
            ∙ unconverted_on _ _ _ _ t

        -- its sibling is not
        pub turn_beside : same_lock (side_at s i) Xi ≡ false → turn_of (left_from s i) ≡ Some (get_or s.beside (s.depth - 1 - i) 0)
        turn_beside f = ap turn_of (with_sibling ∙ unconverted_here _ _ _ _ f)

        -- both are
        pub turn_both : same_lock (side_at s i) Xi ≡ true → left_from s i ≡ left_from s (i + 1)
        unfolding path_of beside_of locks_of sidelocks_of
        turn_both u = with_sibling ∙ unconverted_on _ _ _ _ u

  -- none is left
  pub turn_none : s.depth ≤ i → turn_of (left_from s i) ≡ Nothing
  unfolding unconverted path_of beside_of locks_of sidelocks_of
  turn_none h = ap (λ (ps : List ℕ). turn_of (unconverted ps (kinds i))) (turns_done 0 s.path s.depth s.beside s.breadth whole.path whole.beside i h)

-- ---- ξ, then α

-- what is asked of those that follow: once there was α, all have α
abbrev pub follow : Bool → List Under → Bool
follow alpha locks = cond alpha (all (λ (u : Under). same_lock u.lock Alpha) locks) (xi_then_alpha locks)

-- one that may come next
follow_on : (alpha : Bool) (lock : Lock) (locks : List Under) → may_follow lock alpha ≡ true
    → follow alpha (under lock ∷ locks) ≡ follow (same_lock lock Alpha) locks
unfolding xi_then_alpha all
follow_on true None locks t = not_both t refl
follow_on true Rho locks t = not_both t refl
follow_on true Xi locks t = not_both t refl
follow_on true UpdaterRho locks t = not_both t refl
follow_on true Alpha locks t = refl
follow_on false None locks t = not_both t refl
follow_on false Rho locks t = not_both t refl
follow_on false Xi locks t = refl
follow_on false UpdaterRho locks t = not_both t refl
follow_on false Alpha locks t = refl

-- one that may not
follow_not : (alpha : Bool) (lock : Lock) (locks : List Under) → may_follow lock alpha ≡ false → follow alpha (under lock ∷ locks) ≡ false
unfolding xi_then_alpha all
follow_not true None locks f = refl
follow_not true Rho locks f = refl
follow_not true Xi locks f = refl
follow_not true UpdaterRho locks f = refl
follow_not true Alpha locks f = not_both refl f
follow_not false None locks f = refl
follow_not false Rho locks f = refl
follow_not false Xi locks f = not_both refl f
follow_not false UpdaterRho locks f = refl
follow_not false Alpha locks f = not_both refl f

-- what is asked from cell i of a slot's path on
abbrev pub follow_from : Slot → Bool → ℕ → Bool
follow_from s alpha i = follow alpha (in_turn (under None) (drop i (locks_of s)) (sidelocks_of s))

module _ {s : Slot} (whole : Kinds s) (alpha : Bool) (i : ℕ) where
  abbrev after : List Under
  after = turns_from (under None) s.locks s.depth s.sidelocks s.breadth whole.path whole.beside (i + 1)

  module _ (h : i < s.depth) where
    -- the page may not come next
    pub follow_stops : may_follow (kind_at s i) alpha ≡ false → follow_from s alpha i ≡ false
    unfolding locks_of sidelocks_of
    follow_stops f =
        ap (follow alpha) (turns_next (under None) s.locks s.depth s.sidelocks s.breadth whole.path whole.beside i h) ∙ follow_not alpha (kind_at s i) _ f

    module _ (t : may_follow (kind_at s i) alpha ≡ true) where
      -- it may, and has no sibling
      pub follow_alone : s.breadth ≤ s.depth - 1 - i → follow_from s alpha i ≡ follow_from s (same_lock (kind_at s i) Alpha) (i + 1)
      unfolding locks_of sidelocks_of
      follow_alone l =
          ap (follow alpha) (turns_alone (under None) s.locks s.depth s.sidelocks s.breadth whole.path whole.beside i h l) ∙ follow_on alpha (kind_at s i) _ t

      module _ (l : s.depth - 1 - i < s.breadth) where
        then_sibling : follow_from s alpha i ≡ follow (same_lock (kind_at s i) Alpha) (under (side_at s i) ∷ after)
        unfolding locks_of sidelocks_of
        then_sibling =
            ap (follow alpha) (turns_both (under None) s.locks s.depth s.sidelocks s.breadth whole.path whole.beside i h l) ∙ follow_on alpha (kind_at s i) _ t

        -- its sibling may not
        pub follow_stops_beside : may_follow (side_at s i) (same_lock (kind_at s i) Alpha) ≡ false → follow_from s alpha i ≡ false
        follow_stops_beside f = then_sibling ∙ follow_not (same_lock (kind_at s i) Alpha) (side_at s i) _ f

        -- both may
        pub follow_both : may_follow (side_at s i) (same_lock (kind_at s i) Alpha) ≡ true
            → follow_from s alpha i ≡ follow_from s (same_lock (side_at s i) Alpha) (i + 1)
        unfolding locks_of sidelocks_of
        follow_both u = then_sibling ∙ follow_on (same_lock (kind_at s i) Alpha) (side_at s i) _ u

  -- none is left
  pub follow_done : s.depth ≤ i → follow_from s alpha i ≡ true
  unfolding locks_of sidelocks_of xi_then_alpha all
  follow_done h = ap (follow alpha) (turns_done (under None) s.locks s.depth s.sidelocks s.breadth whole.path whole.beside i h) ∙ of_none alpha
    where
      of_none : (b : Bool) → follow b [] ≡ true
      of_none true = refl
      of_none false = refl
