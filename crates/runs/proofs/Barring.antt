-- Who bars a want by what it holds. 02 (v) lets a slot want with another kind than it holds under: a leaf, with ξ. 02 (vi) lets it want ξ on a page that
-- it holds. So it may meet a slot that holds the wanted page and the page's father with a lock that it shares: a search, a Next or an update by the
-- second way. What such a slot wants lies inside each page that it holds, or to the right of it.
-- All others hold with ξ or α, and who converts has ξ on no page whose father it holds with α.
use Prim.Native.Nat.{ℕ, suc, ◌+◌, ◌-◌, ◌≤◌, ◌<◌}
use mathlib.Core.Bool.{true, ◌&&◌}
use mathlib.Core.List.{List, [], ◌∷◌, ◌++◌, reverse}
use mathlib.Core.Logic.{◌⊎◌, inl, inr, ⊎_elim, ◌≢◌}
use mathlib.Core.Path.{◌≡◌, refl, sym, ap, ◌∙◌, subst}
use native.Mathlib.Omega.{arith}
use borrow.Author.Tests.{eqb-true}
use lib.Dec.{eqb}
use lib.ListN.{length, get_or, length-append, length-reverse, get_or-append}
use lib.Seq.{get_or-append_seam, get_or-append-add}
use Rattle.ground.specs.Limits.{word_range}
use Rattle.ground.specs.Tests.{member}
use Rattle.ground.proofs.Bools.{and_second, not_both, or_cases}
use Rattle.ground.proofs.Choice.{by_test, cond-false}
use Rattle.ground.proofs.Tests.{member_at, member_none, member_append}
use Rattle.page.specs.Words.{Page}
use Rattle.slots.specs.declared.Op.{Op}
use Rattle.slots.specs.declared.Lock.{Lock}
use Rattle.slots.specs.declared.Lock.TheVariants.{Xi, Alpha}
use Rattle.slots.specs.Parts.{key_of, is_delete, is_second, is_third, held_lock, Stand, holding}
use Rattle.slots.specs.Locks.{same_lock}
use Rattle.slots.proofs.LockLaws.{same_lock_lem, lock_same, third_alpha, third_not_second, alpha_not_xi}
use Rattle.footing.specs.Fitting.{lock_due}
use Rattle.tree.specs.Tree.{Tr, Stands, way, Forms}
use Rattle.tree.specs.Facts.{Placed}
use Rattle.tree.proofs.Determined.{root_level}
use Rattle.tree.proofs.Search.{way_facts}
use Rattle.tree.proofs.Ways.{place_facts}
use Rattle.runs.specs.Stance.{WantsWith, held_due, HoldsWith, Coming, Crossing, Converting, Stance}
use Rattle.runs.proofs.Paths.{member_reverse}
use Rattle.runs.proofs.Across.{Across, across, second_placed, second_later}
use Rattle.runs.proofs.Locking.{due_held, deletes_first, deletes_updates, nexts_first, update_xi}
use Rattle.runs.proofs.Turning.{Ordered, due_done, due_left}
use Rattle.runs.proofs.Fathers.{Father, Inside, way_inside, father_first}

-- a deletion that takes siblings holds with ξ or α
deletes_lock : (op : Op) → is_delete op ≡ true → (held_lock op ≡ Xi) ⊎ (held_lock op ≡ Alpha)
deletes_lock op d =
    by_test (is_third op)
    (λ third. inr (third_alpha op third))
    (λ other. inl (update_xi op (deletes_updates op d) (deletes_first op d) other))

module _ (k n : ℕ) (memory : ℕ → Page) (l : ℕ) (t : Tr l) (one : 1 ≤ k) (forms : Forms k n memory l t) (z : Stand) (key : key_of z.op < word_range) where
  -- ---- who wants with another kind than it holds under

  -- by the lowest page that it holds, above the wanted one on the way
  due_level : (up : List ℕ) (lower upper : List ℕ) → way (key_of z.op) l t ≡ lower ++ z.want ∷ (up ++ upper) → lock_due z.op memory up ≢ held_lock z.op
      → (memory z.want).level ≡ 1
  due_level [] lower upper whole other = absurd (other refl)
  due_level (p ∷ up) lower upper whole other =
      by_test (is_second z.op && eqb (memory p).level 2)
      (λ y.
      let two = eqb-true (memory p).level 2 (and_second (is_second z.op) (eqb (memory p).level 2) y) in
      let next = (way_facts k n memory l t forms (key_of z.op) key).father lower z.want p (up ++ upper) whole in
      omega (arith, next.1))
      (λ o. absurd (other (cond-false Xi (held_lock z.op) o)))

  -- it wants a leaf
  pub leaf_wanted : Stance k memory l t z → WantsWith memory z → z.lock ≢ held_lock z.op → (memory z.want).level ≡ 1
  leaf_wanted (inl (inl s)) locked other = absurd (other (locked ∙ ap (λ (ps : List ℕ). lock_due z.op memory (reverse ps)) s.no_path))
  leaf_wanted (inl (inr (inl c))) locked other = due_level (reverse z.path) c.lower c.upper c.whole (λ e. other (locked ∙ e))
  leaf_wanted (inl (inr (inr (inl b)))) locked other =
      absurd (other (locked ∙ due_held z.op memory (reverse z.path) (deletes_first z.op b.deletes)))
  leaf_wanted (inl (inr (inr (inr c)))) locked other =
      absurd (other (locked ∙ due_held z.op memory (reverse z.path) (nexts_first z.op c.asks_next)))
  leaf_wanted (inr c) locked other =
      absurd (other (locked ∙ due_held z.op memory (reverse z.path) (third_not_second z.op c.third)))

  -- So with the kind under which it holds it wants a page above the leaves, and page 0: where page 0 is a leaf it holds nothing.
  pub upper_wanted : Stance k memory l t z → WantsWith memory z → (z.want ≡ 0) ⊎ ((memory z.want).level ≢ 1) → z.lock ≡ held_lock z.op
  upper_wanted stance locked upper =
      by_test (same_lock z.lock (held_lock z.op))
      (λ same. same_lock_lem z.lock (held_lock z.op) same)
      (λ differ.
      let other : z.lock ≢ held_lock z.op
      = λ e. not_both (ap (λ (lock : Lock). same_lock lock (held_lock z.op)) e ∙ lock_same (held_lock z.op)) differ in
      let level : (memory z.want).level ≡ 1 = leaf_wanted stance locked other in
      ⊎_elim (λ root. absurd (other (locked ∙ nothing_held stance root level))) (λ high. absurd (high level)) upper)
    where
      -- page 0 is wanted, and is a leaf
      nothing_held : Stance k memory l t z → z.want ≡ 0 → (memory z.want).level ≡ 1 → lock_due z.op memory (reverse z.path) ≡ held_lock z.op
      nothing_held (inl (inl s)) root level = ap (λ (ps : List ℕ). lock_due z.op memory (reverse ps)) s.no_path
      nothing_held (inl (inr (inl c))) root level = by_path (reverse z.path) c.whole
        where
          low : l ≡ 0
          low = omega (arith, root_level k n memory l t forms, ap (λ (q : ℕ). (memory q).level) (sym root) ∙ level)

          by_path : (up : List ℕ) → way (key_of z.op) l t ≡ c.lower ++ z.want ∷ (up ++ c.upper) → lock_due z.op memory up ≡ held_lock z.op
          by_path [] whole = refl
          by_path (p ∷ up) whole =
              absurd (omega (
                arith,
                low,
                (way_facts k n memory l t forms (key_of z.op) key).pages,
                ap length whole,
                length-append c.lower (z.want ∷ (p ∷ (up ++ c.upper))),
              ))
      nothing_held (inl (inr (inr (inl b)))) root level = due_held z.op memory (reverse z.path) (deletes_first z.op b.deletes)
      nothing_held (inl (inr (inr (inr c)))) root level = due_held z.op memory (reverse z.path) (nexts_first z.op c.asks_next)
      nothing_held (inr c) root level = due_held z.op memory (reverse z.path) (third_not_second z.op c.third)

  -- ---- who comes down

  -- a page that it holds is above the wanted one on the way
  coming_at : (c : Coming k memory l t z) (p : ℕ) → member p (holding z) ≡ true
      → (i : ℕ) × (length c.lower < i) × (i ≤ l) × (get_or (way (key_of z.op) l t) i 0 ≡ p)
  coming_at c p m =
      let x : ℕ = key_of z.op in
      let on_path : member p (reverse z.path) ≡ true
      = member_reverse p z.path
      ∙ ⊎_elim (λ h. h) (λ h. not_both (subst (λ (ps : List ℕ). member p ps ≡ true) c.no_siblings h) (member_none p))
      (or_cases (member p z.path) (member p z.beside) (sym (member_append p z.path z.beside) ∙ m)) in
      let (j, h, e) = member_at p (reverse z.path) 0 on_path in
      let i : ℕ = length c.lower + suc j in
      let size = length-append c.lower (z.want ∷ (reverse z.path ++ c.upper)) in
      let more = length-append (reverse z.path) c.upper in (
        i,
        omega arith,
        omega (arith, ap length c.whole, size, more, h, (way_facts k n memory l t forms x key).pages),
        ap (λ (w : List ℕ). get_or w i 0) c.whole
            ∙ get_or-append-add c.lower (z.want ∷ (reverse z.path ++ c.upper)) (suc j) 0
            ∙ get_or-append (reverse z.path) c.upper 0 j h
            ∙ e,
      )

  -- so no leaf,
  pub coming_above : Coming k memory l t z → (p : ℕ) → member p (holding z) ≡ true → (memory p).level ≢ 1
  coming_above c p m level =
      let (i, above, inside, at) = coming_at c p m in
      let high : (memory p).level ≡ i + 1
      = ap (λ (q : ℕ). (memory q).level) (sym at) ∙ (way_facts k n memory l t forms (key_of z.op) key).level i inside in
      absurd (omega (arith, above, high, level))

  -- and what it wants lies inside it
  coming_inside : Coming k memory l t z → (p : ℕ) → member p (holding z) ≡ true → (spot : Placed l t 0 word_range p)
      → Inside l t spot.level spot.from z.want
  coming_inside c p m spot =
      let x : ℕ = key_of z.op in
      let (i, above, inside, at) = coming_at c p m in
      let wanted : get_or (way x l t) (length c.lower) 0 ≡ z.want
      = ap (λ (w : List ℕ). get_or w (length c.lower) 0) c.whole ∙ get_or-append_seam c.lower z.want (reverse z.path ++ c.upper) 0 in
      subst (Inside l t spot.level spot.from) wanted
      (way_inside k n memory l t forms x i (length c.lower) spot.level spot.from spot.to key above inside
      (subst (λ (q : ℕ). Stands l t 0 word_range q spot.level spot.from spot.to) (sym at) spot.stands))

  -- ---- a Next past its leaf

  -- Where a want lies: behind this key.
  pub record Later (low : ℕ) : Type 0 where
    pub level : ℕ
    pub from : ℕ
    pub to : ℕ
    pub stands : Stands l t 0 word_range z.want level from to
    pub in_tree : level ≤ l + 1
    pub in_words : from < word_range
    pub later : low < from

  module _ (c : Crossing k memory l t z) (p : ℕ) (spot : Placed l t 0 word_range p) where
    ways : Across memory l t z
    ways = across k n memory l t one forms z key c

    -- What it wants lies to the right of each page of its path: that page's range has the key.
    wants_later : member p z.path ≡ true → Later spot.from
    wants_later m =
        let x : ℕ = key_of z.op in
        let places = place_facts k n memory l t forms in
        let (j, b, e) = member_at p (reverse z.path) 0 (member_reverse p z.path ∙ m) in
        let low : j ≤ suc ways.index = omega (arith, b, length-reverse z.path, ways.long) in
        let here = places.on_way x j key (omega (arith, low, ways.inside)) in
        let same = places.only p spot.level spot.from spot.to (j + 1) here.from here.to spot.stands
        (subst (λ (q : ℕ). Stands l t 0 word_range q (j + 1) here.from here.to) (sym (ways.first j low) ∙ e) here.stands) in
        let last : ℕ = length z.beside in
        let next = second_placed k n memory l t forms z key ways last (omega arith) in
        let beyond = second_later k n memory l t forms z key ways last (omega arith) in
        record {
          level = (ways.index - last) + 1;
          from = next.from;
          to = next.to;
          stands = subst (λ (q : ℕ). Stands l t 0 word_range q ((ways.index - last) + 1) next.from next.to) (get_or-append_seam z.beside z.want [] 0) next.stands;
          in_tree = omega (arith, ways.inside);
          in_words = omega (arith, next.low, ways.beyond.in_words);
          later = omega (arith, same.same_from, here.low, beyond);
        }

    -- And inside each page of its second way.
    second_inside : member p z.beside ≡ true → Inside l t spot.level spot.from z.want
    second_inside m =
        let y : ℕ = ways.beyond.key in
        let last : ℕ = length z.beside in
        let (j, b, e) = member_at p z.beside 0 m in
        let here : get_or (way y l t) (ways.index - j) 0 ≡ p
        = sym (ways.on j (omega arith)) ∙ get_or-append z.beside (z.want ∷ []) 0 j b ∙ e in
        let wanted : get_or (way y l t) (ways.index - last) 0 ≡ z.want
        = sym (ways.on last (omega arith)) ∙ get_or-append_seam z.beside z.want [] 0 in
        subst (Inside l t spot.level spot.from) wanted
        (way_inside k n memory l t forms y (ways.index - j) (ways.index - last) spot.level spot.from spot.to ways.beyond.in_words
        (omega (arith, b, ways.few)) (omega (arith, ways.inside))
        (subst (λ (q : ℕ). Stands l t 0 word_range q spot.level spot.from spot.to) (sym here) spot.stands))

  -- ---- who holds with a lock that it shares

  -- What it wants lies inside each page that it holds, and lower, or to the right of it.
  pub shared_beyond : Stance k memory l t z → held_lock z.op ≢ Xi → held_lock z.op ≢ Alpha → (p : ℕ) → member p (holding z) ≡ true
      → (spot : Placed l t 0 word_range p) → Inside l t spot.level spot.from z.want ⊎ Later spot.from
  shared_beyond (inl (inl s)) noXi noAlpha p m spot =
      not_both (subst (λ (ps : List ℕ). member p (ps ++ z.beside) ≡ true) s.no_path m) (ap (member p) s.no_siblings ∙ member_none p)
  shared_beyond (inl (inr (inl c))) noXi noAlpha p m spot = inl (coming_inside c p m spot)
  shared_beyond (inl (inr (inr (inl b)))) noXi noAlpha p m spot = absurd (⊎_elim noXi noAlpha (deletes_lock z.op b.deletes))
  shared_beyond (inl (inr (inr (inr c)))) noXi noAlpha p m spot =
      ⊎_elim
      (λ h. inr (wants_later c p spot h))
      (λ h. inl (second_inside c p spot h))
      (or_cases (member p z.path) (member p z.beside) (sym (member_append p z.path z.beside) ∙ m))
  shared_beyond (inr c) noXi noAlpha p m spot = absurd (noAlpha (third_alpha z.op c.third))

  -- ---- who converts

  -- A page that it holds with ξ has its father converted too.
  pub father_due : Converting k memory l t z → Ordered z → HoldsWith z → (p q : ℕ) → Father memory l t p q → member p (holding z) ≡ true
      → held_due z q ≡ Xi → held_due z p ≡ Xi
  father_due c o holds p q f m xi =
      by_test (member q c.done)
      (λ y. due_done z o c.third holds c.done c.rest c.turns p (father_first k n memory l t forms z key c p q f m y))
      (λ left. absurd (alpha_not_xi (sym (due_left z o c.third holds c.done c.rest c.turns q left) ∙ xi)))
