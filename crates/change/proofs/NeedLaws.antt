-- The rule of what a deletion needs, a page at a time: each law is one way through the rule.
use Prim.Native.Nat.{ℕ, zero, suc, ◌-◌, ◌≤◌, ◌<◌}
use mathlib.Core.Bool.{Bool, true, false, ◌||◌}
use mathlib.Core.List.{List, [], ◌∷◌}
use mathlib.Core.Logic.{◌≢◌}
use mathlib.Core.Path.{◌≡◌, refl, sym, ap, ap₂, ◌∙◌, subst}
use native.Mathlib.Nat.{not-suc-le-zero}
use native.Mathlib.Omega.{arith}
use borrow.Author.Tests.{lt-ltb, le-ltb, eq-eqb, ne_eqb}
use lib.Dec.{eqb, ltb}
use lib.Seq.{take-length}
use lib.ListN.{length, get_or, take, drop}
use Rattle.ground.proofs.Choice.{cond-true, cond-false}
use Rattle.ground.proofs.Bools.{or_first}
use Rattle.ground.specs.Tests.{member}
use Rattle.ground.proofs.Tests.{member_from}
use Rattle.std.proofs.lemmas.List.{nil_from_length}
use Rattle.page.specs.Words.{Page, μ, is_leaf}
use Rattle.page.specs.Short.{neighbour}
use Rattle.change.specs.Deletion.{Need, nothing, sibling, astray, satisfied, needs}
use Rattle.pool.specs.Pool.{page_at}
use Rattle.change.specs.Held.{Held, Needing, upward, leaf_of, fathers_of}
use Rattle.change.proofs.HeldLaws.{Known, held_known, held_front, held_back, held_upper, upward_top, upward_father, pair_father, pair_page, held_less}

module _ (k : ℕ) (memory : ℕ → Page) (x p : ℕ) where
  -- the page can lose one
  abbrev pub can_lose : Bool
  can_lose = eqb p 0 || ltb k (μ (memory p))

  -- it can lose one: nothing more is needed
  pub needs_spared : (fathers siblings : List ℕ) → can_lose ≡ true → needs k memory x p fathers siblings ≡ satisfied siblings
  unfolding needs
  needs_spared [] siblings t = cond-true (satisfied siblings) astray t
  needs_spared (f ∷ up) [] t = cond-true nothing (sibling (neighbour x (memory f))) t
  needs_spared (f ∷ up) (s ∷ siblings) t = cond-true astray _ t

  module _ (short : can_lose ≡ false) where
    -- it cannot, and its father is not held
    pub needs_top : (siblings : List ℕ) → needs k memory x p [] siblings ≡ astray
    unfolding needs
    needs_top siblings = cond-false (satisfied siblings) astray short

    -- its sibling is not held yet
    pub needs_sibling : (f : ℕ) (up : List ℕ) → needs k memory x p (f ∷ up) [] ≡ sibling (neighbour x (memory f))
    unfolding needs
    needs_sibling f up = cond-false nothing (sibling (neighbour x (memory f))) short

    -- another page is held in its sibling's place
    pub needs_astray : (f : ℕ) (up : List ℕ) (s : ℕ) (siblings : List ℕ) → s ≢ neighbour x (memory f)
        → needs k memory x p (f ∷ up) (s ∷ siblings) ≡ astray
    unfolding needs
    needs_astray f up s siblings ne = cond-false astray _ short ∙ cond-false _ astray (ne_eqb s (neighbour x (memory f)) ne)

    module _ (f : ℕ) (up : List ℕ) (s : ℕ) (siblings : List ℕ) (beside : s ≡ neighbour x (memory f)) where
      -- the sibling can spare one
      pub needs_shares : k < μ (memory s) → needs k memory x p (f ∷ up) (s ∷ siblings) ≡ satisfied siblings
      unfolding needs
      needs_shares h =
          cond-false astray _ short
          ∙ cond-true _ astray (eq-eqb s (neighbour x (memory f)) beside)
          ∙ cond-true (satisfied siblings) (needs k memory x f up siblings) (lt-ltb k (μ (memory s)) h)

      -- the two join, and the father loses one
      pub needs_further : μ (memory s) ≤ k → needs k memory x p (f ∷ up) (s ∷ siblings) ≡ needs k memory x f up siblings
      unfolding needs
      needs_further h =
          cond-false astray _ short
          ∙ cond-true _ astray (eq-eqb s (neighbour x (memory f)) beside)
          ∙ cond-false (satisfied siblings) (needs k memory x f up siblings) (le-ltb k (μ (memory s)) h)

module _ (k n : ℕ) (ws path siblings : List ℕ) (x : ℕ) where
  -- The pages of the path down to the one that loses, `held`, and the siblings left: what is needed is needed by them.
  pub record Losing (held left : List ℕ) (size : ℕ) : Type 0 where
    pub two : size ≡ 2
    pub some : 1 ≤ length held
    pub long : length held ≤ length path
    pub part : held ≡ take (length held) path
    pub left_held : Held k n ws left
    pub same : needs k (page_at k ws) x (leaf_of (length path) path) (fathers_of (length path) path) siblings
        ≡ needs k (page_at k ws) x (get_or path (length held - 1) 0) (upward (length held - 1) path) left

-- A deletion that stands at its leaf.
module _ {k n : ℕ} {ws path siblings : List ℕ} (x : ℕ) (h : Needing k n ws path siblings) where
  -- what is needed, and what is needed from the page at index i on with these siblings left
  abbrev pub whole : Need
  whole = needs k (page_at k ws) x (leaf_of (length path) path) (fathers_of (length path) path) siblings

  abbrev pub from : ℕ → List ℕ → Need
  from i left = needs k (page_at k ws) x (get_or path i 0) (upward i path) left

  -- all siblings are held
  pub siblings_held : Held k n ws siblings
  siblings_held = held_back path siblings h.held

  -- what is known of a page of the path, and of a sibling
  pub path_known : (i : ℕ) → i < length path → Known k n ws (get_or path i 0)
  path_known i l =
      held_known (held_front path siblings h.held) (get_or path i 0) (member_from (get_or path i 0) path i 0 l refl)

  pub sibling_known : (j : ℕ) → j < length siblings → Known k n ws (get_or siblings j 0)
  sibling_known j l =
      held_known siblings_held (get_or siblings j 0) (member_from (get_or siblings j 0) siblings j 0 l refl)

  -- a father lies above the leaves
  pub father_upper : (i : ℕ) → 0 < i → i < length path → is_leaf (page_at k ws (get_or path (i - 1) 0)) ≡ false
  father_upper zero l d = absurd (not-suc-le-zero l)
  father_upper (suc i) l d =
      let e : suc i - 1 ≡ i = omega arith in
      let low = (path_known (suc i) d).facts.lowest in
      let above = h.descends i d in
      subst (λ (m : ℕ). is_leaf (page_at k ws (get_or path m 0)) ≡ false) (sym e)
      (ne_eqb (page_at k ws (get_or path i 0)).level 1 (λ one. omega arith))

  -- and has a reference key
  pub father_key : (i : ℕ) → 0 < i → i < length path → 1 ≤ μ (page_at k ws (get_or path (i - 1) 0))
  father_key i l d = held_upper h.held.least (path_known (i - 1) (omega arith)) (father_upper i l d)

  -- of the siblings left the first is known, and those behind it are held
  pub next_known : {left rest : List ℕ} {s : ℕ} → left ≡ s ∷ rest → Held k n ws left → Known k n ws s
  unfolding member
  next_known {left} {rest} {s} e held =
      held_known held s (ap (member s) e ∙ or_first (member s rest) (eq-eqb s s refl))

  pub rest_held : {left rest : List ℕ} {s : ℕ} → left ≡ s ∷ rest → Held k n ws left → Held k n ws rest
  rest_held {left} {rest} {s} e held = held_back (s ∷ []) rest (subst (Held k n ws) e held)

  -- the last page of those held can lose one, or the rule goes up to the pages above it
  module _ (p : ℕ) (up left : List ℕ) (same : whole ≡ needs k (page_at k ws) x p up left) where
    pub stop_spared : can_lose k (page_at k ws) x p ≡ true → {d : Need} → d ≡ satisfied left → d ≡ whole
    stop_spared t e = e ∙ sym (same ∙ needs_spared k (page_at k ws) x p up left t)

  -- the top of the path cannot, and its father is not held
  pub stop_top : (p : ℕ) (left : List ℕ) → whole ≡ needs k (page_at k ws) x p [] left → can_lose k (page_at k ws) x p ≡ false → astray ≡ whole
  stop_top p left same short = sym (same ∙ needs_top k (page_at k ws) x p short left)

  module _ (p f : ℕ) (up left : List ℕ) (same : whole ≡ needs k (page_at k ws) x p (f ∷ up) left) (short : can_lose k (page_at k ws) x p ≡ false)
      {w : ℕ} (wanted : w ≡ neighbour x (page_at k ws f)) where
    by_left : (rest : List ℕ) → left ≡ rest → whole ≡ needs k (page_at k ws) x p (f ∷ up) rest
    by_left rest e = same ∙ ap (needs k (page_at k ws) x p (f ∷ up)) e

    -- its sibling is not held yet
    pub stop_sibling : length left ≡ 0 → sibling w ≡ whole
    stop_sibling e = ap sibling wanted ∙ sym (by_left [] (nil_from_length left e) ∙ needs_sibling k (page_at k ws) x p short f up)

    module _ (s : ℕ) (rest : List ℕ) (next : left ≡ s ∷ rest) where
      -- another page is held in its sibling's place
      pub stop_astray : s ≢ w → astray ≡ whole
      stop_astray ne = sym (by_left (s ∷ rest) next ∙ needs_astray k (page_at k ws) x p short f up s rest (λ e. ne (e ∙ sym wanted)))

      module _ (beside-it : s ≡ w) where
        -- the sibling can spare one
        pub stop_shares : k < μ (page_at k ws s) → {d : Need} → d ≡ satisfied rest → d ≡ whole
        stop_shares l e = e ∙ sym (by_left (s ∷ rest) next ∙ needs_shares k (page_at k ws) x p short f up s rest (beside-it ∙ wanted) l)

        -- the two join, and the father loses one
        pub goes_up : μ (page_at k ws s) ≤ k → whole ≡ needs k (page_at k ws) x f up rest
        goes_up l = by_left (s ∷ rest) next ∙ needs_further k (page_at k ws) x p short f up s rest (beside-it ∙ wanted) l

  pub losing_starts : {held : List ℕ} {size : ℕ} → held ≡ path → size ≡ 2 → Losing k n ws path siblings x held siblings size
  losing_starts {held} {size} e two =
      subst (λ (l : List ℕ). Losing k n ws path siblings x l siblings size) (sym e)
      (record { two = two; some = h.some; long = omega arith; part = sym (take-length path); left_held = siblings_held; same = refl })

  module _ {held left : List ℕ} {size : ℕ} (l : Losing k n ws path siblings x held left size) where
    -- the top alone is left
    pub at_top : length held < size → whole ≡ needs k (page_at k ws) x (get_or path 0 0) [] left
    at_top few =
        let top : length held - 1 ≡ 0 = omega (arith, l.two) in
        l.same
        ∙ ap (λ (i : ℕ). from i left) top
        ∙ ap (λ (up : List ℕ). needs k (page_at k ws) x (get_or path 0 0) up left) (upward_top 0 path refl)

    -- the last one and its father
    module _ (pair : List ℕ) (more : size ≤ length held) (last : pair ≡ drop (length held - size) held) where
      below : 0 < length held - 1
      below = omega (arith, l.two)

      inside : length held - 1 < length path
      inside = omega (arith, l.long, l.some)

      father : get_or pair 0 0 ≡ get_or path (length held - 1 - 1) 0
      father = pair_father path held pair l.part l.two more last

      page : get_or pair 1 0 ≡ get_or path (length held - 1) 0
      page = pair_page path held pair l.part l.two more last

      pub page_known : Known k n ws (get_or pair 1 0)
      page_known = subst (Known k n ws) (sym page) (path_known (length held - 1) inside)

      pub above_known : Known k n ws (get_or pair 0 0)
      above_known = subst (Known k n ws) (sym father) (path_known (length held - 1 - 1) (omega arith))

      pub above_upper : is_leaf (page_at k ws (get_or pair 0 0)) ≡ false
      above_upper = subst (λ (f : ℕ). is_leaf (page_at k ws f) ≡ false) (sym father) (father_upper (length held - 1) below inside)

      pub above_key : 1 ≤ μ (page_at k ws (get_or pair 0 0))
      above_key = subst (λ (f : ℕ). 1 ≤ μ (page_at k ws f)) (sym father) (father_key (length held - 1) below inside)

      pub here : whole ≡ needs k (page_at k ws) x (get_or pair 1 0) (get_or pair 0 0 ∷ upward (length held - 1 - 1) path) left
      here =
          l.same
          ∙ ap₂ (λ (p : ℕ) (up : List ℕ). needs k (page_at k ws) x p up left) (sym page)
          (upward_father (length held - 1) path below ∙ ap (λ (f : ℕ). f ∷ upward (length held - 1 - 1) path) (sym father))

      -- the father is next
      pub loses_on : {held' left' : List ℕ} {size' : ℕ} → size' ≡ size → held' ≡ take (length held - 1) held → Held k n ws left'
          → whole ≡ needs k (page_at k ws) x (get_or pair 0 0) (upward (length held - 1 - 1) path) left'
          → Losing k n ws path siblings x held' left' size'
      loses_on {held'} {left'} e less known same =
          let (part, long) = held_less path held l.part l.some less in
          let next : length held - 1 - 1 ≡ length held' - 1 = omega arith in
          record {
            two = e ∙ l.two;
            some = omega (arith, below);
            long = omega (arith, l.long);
            part = part;
            left_held = known;
            same = same ∙ ap (λ (f : ℕ). needs k (page_at k ws) x f (upward (length held - 1 - 1) path) left') father ∙ ap (λ (i : ℕ). from i left') next;
          }
