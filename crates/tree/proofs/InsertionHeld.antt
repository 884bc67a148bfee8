-- The way of a key and the part of it that an insertion holds: the memory says there what the tree says, so the count of
-- room on the held pages is the tree's own.
use Prim.Native.Nat.{ℕ, zero, suc, ◌+◌, ◌*◌, ◌≤◌, ◌<◌}
use mathlib.Core.Bool.{Bool, true, ◌&&◌}
use mathlib.Core.List.{List, [], ◌∷◌, ◌++◌, map-append, append-nil}
use mathlib.Core.Logic.{inl, inr}
use mathlib.Core.Path.{◌≡◌, refl, sym, ap, ◌∙◌, subst}
use native.Mathlib.Omega.{arith}
use borrow.Author.Tests.{ltb-true, ne_eqb}
use lib.ListN.{length, take}
use Rattle.ground.specs.Limits.{word_range}
use Rattle.ground.specs.Tests.{member}
use Rattle.ground.proofs.Bools.{and_first_fails}
use Rattle.page.specs.Words.{Keyed, Page, entry, μ}
use Rattle.page.specs.Place.{place}
use Rattle.page.specs.Splits.{put}
use Rattle.change.specs.Insertion.{is_full, room, insertion}
use Rattle.tree.specs.Rows.{head_key, Span, Each, followed}
use Rattle.tree.specs.Tree.{Tr, page_number, page_of, InRange, root_least, Holds, way, Forms}
use Rattle.tree.specs.Change.{written_pages, top_of, HeldWay}
use Rattle.tree.specs.Insertion.{has_space, fillings, new_pages, tree_room}
use Rattle.tree.proofs.Rows.{spot, followed_spot, middle_has, each_right}
use Rattle.tree.proofs.Memory.{once_same, times, times_append, times_member, times_absent, way_occurs}
use Rattle.page.proofs.PutLaws.{put_μ}
use Rattle.tree.proofs.InsertionWay.{AtMost, FullBelow, numbers, full_below, Stops, new_pages_stops, room_way, settled_stops, settled_pages}
use Rattle.tree.proofs.InsertionTree.{tree_most, begun}

-- the last page of a way
abbrev last_of : List ℕ → ℕ
last_of [] = 0
last_of (p ∷ ps) = top_of p ps

-- it is the last of what stands behind
last_append : (ps : List ℕ) (a : ℕ) (rest : List ℕ) → last_of (ps ++ a ∷ rest) ≡ top_of a rest
last_append [] a rest = refl
last_append (p ∷ []) a rest = refl
last_append (p ∷ (q ∷ qs)) a rest = last_append (q ∷ qs) a rest

-- and stands on the way
top_times : (p : ℕ) (ps : List ℕ) → 1 ≤ times (top_of p ps) (p ∷ ps)
top_times p [] = let one = once_same p p refl in omega arith
top_times p (q ∷ qs) = let ih = top_times q qs in omega arith

-- the last page of a way is the root's
way_last : (x l : ℕ) (t : Tr l) → last_of (way x l t) ≡ page_number l t
way_last x zero t = refl
way_last x (suc l) t = last_append (followed (way x l) [] x t.row) t.at []

module _ (k : ℕ) (memory : ℕ → Page) where
  -- of two lists
  at_most_append : (ps rs : List ℕ) → AtMost k memory ps → AtMost k memory rs → AtMost k memory (ps ++ rs)
  at_most_append [] rs h g = g
  at_most_append (p ∷ ps) rs h g = (h.0, at_most_append ps rs h.1 g)

  -- of the first part of a list
  at_most_left : (ps rs : List ℕ) → AtMost k memory (ps ++ rs) → AtMost k memory ps
  at_most_left [] rs h = tt
  at_most_left (p ∷ ps) rs h = (h.0, at_most_left ps rs h.1)

  -- What the memory says of x's way: no page has more than 2k, and the numbers are the tree's.
  record OnWay (x l : ℕ) (t : Tr l) : Type 0 where
    most : AtMost k memory (way x l t)
    same : fillings x l t ≡ numbers k memory (way x l t)

  -- one level, by the child on the way
  on_way_node : (x l : ℕ) (t : Tr (suc l)) (m lo hi : ℕ) (xs : List (Keyed (Tr l))) (d : Keyed (Tr l)) (ys : List (Keyed (Tr l)))
      → InRange k m (2 * k) (suc l) t lo hi
      → memory t.at ≡ page_of (suc l) t
      → t.row ≡ xs ++ d ∷ ys
      → d.key ≤ x
      → x < head_key ys hi
      → OnWay x l d.value
      → OnWay x (suc l) t
  on_way_node x l t m lo hi xs d ys r held e from to o =
      let P : Tr l → ℕ → ℕ → Type 0 = InRange k k (2 * k) l in
      let span : Span P (xs ++ d ∷ ys) hi = subst (λ (row : List (Keyed (Tr l))). Span P row hi) e r.children in
      let ways : followed (way x l) [] x t.row ≡ way x l d.value
      = ap (followed (way x l) [] x) e ∙ followed_spot P (way x l) [] x xs d ys hi span from to in
      let fills : followed (fillings x l) [] x t.row ≡ fillings x l d.value
      = ap (followed (fillings x l) [] x) e ∙ followed_spot P (fillings x l) [] x xs d ys hi span from to in
      let own : μ (memory t.at) ≡ μ (page_of (suc l) t) = ap μ held in
      record {
        most =
            subst (λ (w : List ℕ). AtMost k memory (w ++ t.at ∷ [])) (sym ways)
            (at_most_append (way x l d.value) (t.at ∷ []) o.most (omega (arith, tree_most k m (2 * k) (suc l) t lo hi r), tt));
        same =
            ap (λ (w : List ℕ). w ++ μ (page_of (suc l) t) ∷ []) (fills ∙ o.same)
            ∙ ap (λ (n : ℕ). numbers k memory (way x l d.value) ++ n ∷ []) (sym own)
            ∙ sym (map-append (λ (p : ℕ). μ (memory p)) (way x l d.value) (t.at ∷ []))
            ∙ ap (λ (w : List ℕ). numbers k memory (w ++ t.at ∷ [])) (sym ways);
      }

  -- down to the leaf
  on_way : (x l : ℕ) (t : Tr l) (m lo hi : ℕ) → InRange k m (2 * k) l t lo hi → lo ≤ x → x < hi → Holds memory l t → OnWay x l t
  on_way x zero t m lo hi r low high held =
      let own : μ (memory t.at) ≡ μ (page_of zero t) = ap μ held in
      record { most = (omega (arith, r.most), tt); same = ap (λ (n : ℕ). n ∷ []) (sym own) }
  on_way x (suc l) t m lo hi r low high held =
      let P : Tr l → ℕ → ℕ → Type 0 = InRange k k (2 * k) l in
      let s = spot P x t.row hi r.children (omega (arith, r.low)) high in
      let span : Span P (s.before ++ s.here ∷ s.after) hi
      = subst (λ (row : List (Keyed (Tr l))). Span P row hi) s.whole r.children in
      let each : Each (Holds memory l) (s.before ++ s.here ∷ s.after)
      = subst (λ (row : List (Keyed (Tr l))). Each (Holds memory l) row) s.whole held.1 in
      on_way_node x l t m lo hi s.before s.here s.after r held.0 s.whole s.from s.to
      (on_way x l s.here.value k s.here.key (head_key s.after hi)
      (middle_has P s.before s.here s.after hi span)
      s.from
      s.to
      (each_right (Holds memory l) s.before (s.here ∷ s.after) each).0)

  -- page 0 is held and full where the top of the held way is full: it is that top, or it is not held
  zero_top : (leaf : ℕ) (fathers above : List ℕ)
      → last_of ((leaf ∷ fathers) ++ above) ≡ 0
      → times 0 ((leaf ∷ fathers) ++ above) ≤ 1
      → Stops k memory leaf fathers above
      → member 0 (leaf ∷ fathers) && is_full k memory 0 ≡ is_full k memory (top_of leaf fathers)
  zero_top leaf fathers [] last once stops =
      let top : top_of leaf fathers ≡ 0 = ap last_of (sym (append-nil (leaf ∷ fathers))) ∙ last in
      let once : 1 ≤ times 0 (leaf ∷ fathers) = subst (λ (q : ℕ). 1 ≤ times q (leaf ∷ fathers)) top (top_times leaf fathers) in
      let on : member 0 (leaf ∷ fathers) ≡ true = times_member 0 (leaf ∷ fathers) once in
      ap (λ (b : Bool). b && is_full k memory 0) on ∙ ap (is_full k memory) (sym top)
  zero_top leaf fathers (a ∷ rest) last once (inl e) = let z : suc (length rest) ≡ 0 = ap length e in absurd (omega arith)
  zero_top leaf fathers (a ∷ rest) last once (inr s) =
      let top : top_of a rest ≡ 0 = sym (last_append (leaf ∷ fathers) a rest) ∙ last in
      let above : 1 ≤ times 0 (a ∷ rest) = subst (λ (q : ℕ). 1 ≤ times q (a ∷ rest)) top (top_times a rest) in
      let sum = times_append 0 (leaf ∷ fathers) (a ∷ rest) in
      let less = ltb-true (μ (memory (top_of leaf fathers))) (2 * k) s in
      and_first_fails (is_full k memory 0) (times_absent 0 (leaf ∷ fathers) (omega arith))
      ∙ sym (ne_eqb (μ (memory (top_of leaf fathers))) (2 * k) (λ e. omega arith))

  -- The pages that an insertion of x holds in the tree of the memory.
  module _ (n l : ℕ) (t : Tr l) (x leaf : ℕ) (fathers : List ℕ) (forms : Forms k n memory l t) (small : x < word_range)
      (held : HeldWay (has_space k memory) x l t leaf fathers) where
    -- what the memory says of the whole way
    whole_way : OnWay x l t
    whole_way = on_way x l t (root_least l) 0 word_range forms.in_range (omega arith) small forms.holds

    -- no held page has more than 2k,
    pub held_most : AtMost k memory (leaf ∷ fathers)
    held_most = at_most_left (leaf ∷ fathers) held.above (subst (AtMost k memory) held.whole whole_way.most)

    -- those below the top are full,
    pub held_full : FullBelow k memory leaf fathers
    held_full = full_below k memory leaf fathers held_most held.unsafe

    -- and there is nothing above the top, or the top has space
    pub held_stops : Stops k memory leaf fathers held.above
    held_stops = held.top

    -- the count of room is the number of pages that the held pages take,
    pub held_room : room k memory leaf (leaf ∷ fathers) ≡ new_pages k (numbers k memory (leaf ∷ fathers))
    held_room =
        room_way k memory leaf fathers held_full
        (zero_top leaf fathers held.above
        (sym (ap last_of held.whole) ∙ way_last x l t ∙ forms.root)
        (let on = way_occurs 0 x l t in
        let one = forms.different 0 in
        let same : times 0 (way x l t) ≡ times 0 ((leaf ∷ fathers) ++ held.above) = ap (times 0) held.whole in
        omega arith)
        held_stops)

    -- and so the number that the tree needs
    pub room_tree : room k memory leaf (leaf ∷ fathers) ≡ tree_room k x l t
    room_tree =
        held_room
        ∙ sym (new_pages_stops k memory leaf fathers held.above held_stops)
        ∙ ap (λ (w : List ℕ). new_pages k (numbers k memory w)) (sym held.whole)
        ∙ sym (ap (new_pages k) whole_way.same)

    -- the rule along the held pages is the rule along the whole way
    pub held_rule : (v : ℕ) (free : List ℕ) → begun k memory x v free (way x l t ++ []) ≡ insertion k memory x v free leaf fathers
    unfolding insertion
    held_rule v free =
        ap (begun k memory x v free) (append-nil (way x l t) ∙ held.whole)
        ∙ settled_stops k memory x free leaf (put (place x (memory leaf).entries) (entry x v) (memory leaf))
        fathers held.above (put_μ _ _ _) held_stops

    -- the pages that the rule writes: the held ones, and as many from the front of the free list as the count of room says
    pub held_pages : (v : ℕ) (free : List ℕ) → room k memory leaf (leaf ∷ fathers) ≤ length free
        → (q : ℕ)
        → times q (written_pages (insertion k memory x v free leaf fathers))
        ≡ times q (leaf ∷ fathers) + times q (take (room k memory leaf (leaf ∷ fathers)) free)
    unfolding insertion
    held_pages v free enough q =
        settled_pages k memory x q free leaf (put (place x (memory leaf).entries) (entry x v) (memory leaf))
        fathers (put_μ _ _ _) held_most held_full
        (subst (λ (i : ℕ). i ≤ length free) held_room enough)
        ∙ ap (λ (i : ℕ). times q (leaf ∷ fathers) + times q (take i free)) (sym held_room)
