-- An insertion on its way up. The pages above the one that it stands at are as they were before the change, since no page
-- stands twice among those held and those taken; so what the code reads there is what the rule reads.
use Prim.Native.Nat.{ℕ, zero, suc, ◌+◌, ◌-◌, ◌*◌, ◌≤◌, ◌<◌}
use mathlib.Core.Bool.{true, cond, ◌&&◌}
use mathlib.Core.List.{List, [], ◌∷◌, ◌++◌, append-nil}
use mathlib.Core.Logic.{◌⊎◌, ⊎_elim, ◌≢◌}
use mathlib.Core.Path.{◌≡◌, refl, sym, ap, ap₂, ◌∙◌, subst, subst₂}
use native.Mathlib.Nat.{eq-or-lt_of_le}
use native.Mathlib.Omega.{arith}
use borrow.Author.Tests.{le-ltb, leb-true, leb-false, eq-eqb, eqb-true}
use lib.Dec.{leb}
use lib.ListN.{length, get_or, take, drop, length-drop}
use lib.Seq.{get_or-append_seam, length-take-le, get_or-take, get_or-drop, drop-drop, take-length}
use Rattle.std.specs.Prelude.{Option, Some, None}
use Rattle.std.proofs.lemmas.List.{length_push, append_assoc, take_all}
use Rattle.ground.specs.Limits.{path_holds, most_new}
use Rattle.ground.specs.Tests.{count, member}
use Rattle.ground.proofs.Bools.{and_both, true_or_false}
use Rattle.ground.proofs.Choice.{cond-true, cond-false}
use Rattle.ground.proofs.Tests.{count_more, member_from, distinct_front, distinct_apart, distinct_at, apart_member, not_member_at}
use Rattle.page.specs.Words.{Page, μ, is_leaf, size, encode, view}
use Rattle.page.specs.Sound.{sound_by_itself}
use Rattle.page.specs.Splits.{put, split}
use Rattle.page.proofs.WordLaws.{length_encode}
use Rattle.page.proofs.ExactLaws.{left_fits, right_fits}
use Rattle.pool.specs.Pool.{Write, words_of, page_at, write, written, applied}
use Rattle.pool.proofs.WriteLaws.{length_written, words_of_written_other}
use Rattle.change.specs.Insertion.{is_full, lowest, room, settled, insertion}
use Rattle.change.specs.Held.{Held, upward, leaf_of, fathers_of}
use Rattle.insertion.specs.Inserting.{Inserting, grown, settled_as}
use Rattle.change.proofs.HeldLaws.{Known, holding_known, holding_page, one_held, upward_top, upward_father}
use Rattle.change.proofs.RuleLaws.{settled_fits, settled_splits}
use Rattle.insertion.proofs.SettleLaws.{grown_μ, settled_top, settled_done, settled_on}

-- from index i on all pages are full, so there are as many full pages
count_suffix : (k : ℕ) (memory : ℕ → Page) (path : List ℕ) (i m : ℕ) → i + m ≤ length path
    → ((j : ℕ) → i ≤ j → j < i + m → is_full k memory (get_or path j 0) ≡ true) → m ≤ count (is_full k memory) (take (i + m) path)
count_suffix k memory path i zero h full = omega arith
count_suffix k memory path i (suc m) h full =
    let before = count_suffix k memory path i m (omega arith) (λ j l u. full j l (omega arith)) in
    let next : i + suc m ≡ suc (i + m) = omega arith in
    let more = count_more (is_full k memory) path (i + m) 0 (omega arith) in
    let one = cond-true {A = ℕ} 1 0 (full (i + m) (omega arith) (omega arith)) in
    subst (λ (j : ℕ). suc m ≤ count (is_full k memory) (take j path)) (sym next) (omega arith)

-- the words of a page with a pair more that was cut in two
cut_sizes : (k : ℕ) (P : Page) → 1 ≤ k → μ P ≤ 2 * k + 1 → (is_leaf P ≡ true → P.first ≡ 0)
    → (length (encode k (split k P).left) ≡ size k) × (length (encode k (split k P).right) ≡ size k)
cut_sizes k P one few none =
    (length_encode k (split k P).left (left_fits k k P none (omega arith)), length_encode k (split k P).right (right_fits k k P none (omega arith)))

-- a leaf with a pair more has no p0
grown_first : (x key value : ℕ) (F : Page) → (is_leaf F ≡ true → F.first ≡ 0) → is_leaf (grown x key value F) ≡ true → (grown x key value F).first ≡ 0
unfolding put
grown_first x key value F none = none

-- An insertion of x with the information v.
module _ (k : ℕ) (ws₀ path pages : List ℕ) (x v : ℕ) where
  -- the words after the whole change
  abbrev pub changed : List ℕ
  changed = applied k (insertion k (page_at k ws₀) x v pages (leaf_of (length path) path) (fathers_of (length path) path)) ws₀

  -- The insertion stands at the page of index i, into which the pair goes; t pages below it were split.
  pub record Along (ws : List ℕ) (i t key value : ℕ) : Type 0 where
    pub risen : t + suc i ≡ length path
    pub kept : length ws ≡ length ws₀
    pub same : (j : ℕ) → j ≤ i → words_of k (get_or path j 0) ws ≡ words_of k (get_or path j 0) ws₀
    pub full : (j : ℕ) → i < j → j < length path → is_full k (page_at k ws₀) (get_or path j 0) ≡ true
    pub rest : changed
        ≡ applied k
        (settled k (page_at k ws₀) x (drop t pages) (upward i path) (get_or path i 0) (grown x key value (page_at k ws₀ (get_or path i 0))))
        ws

  -- The pages below the top are gone over from the leaf upward: `held` are those that are left, from the top downward, and
  -- `left` are the new pages that are left for them and the top.
  pub record Rising (ws left held : List ℕ) (key value : ℕ) : Type 0 where
    pub gone : List ℕ
    pub held_is : drop 1 path ≡ held ++ gone
    pub left_is : left ≡ drop (length path - (length held + 1)) pages
    pub along : Along ws (length held) (length path - (length held + 1)) key value

module _ {k n : ℕ} {ws₀ path pages : List ℕ} (x v : ℕ) (h : Inserting k n ws₀ path pages) where
  -- how many pages are taken
  abbrev need : ℕ
  need = room k (page_at k ws₀) (leaf_of (length path) path) path

  -- at the leaf
  pub along_starts : Along k ws₀ path pages x v ws₀ (length path - 1) 0 x v
  unfolding insertion
  along_starts =
      record {
        risen = omega (arith, h.holding.some);
        kept = refl;
        same = λ j l. refl;
        full = λ j l u. absurd (omega arith);
        rest = refl;
      }

  pub rising_starts : {left held : List ℕ} → left ≡ pages → held ≡ take (length path - 1) (drop 1 path)
      → Rising k ws₀ path pages x v ws₀ left held x v
  rising_starts {left} {held} e d =
      let long = length-drop 1 path in
      let whole : held ≡ drop 1 path = d ∙ take_all (length path - 1) (drop 1 path) (omega arith) in
      let all : length held ≡ length path - 1 = ap length whole ∙ long in
      let none : length path - (length held + 1) ≡ 0 = omega (arith, h.holding.some) in
      record {
        gone = [];
        held_is = sym (append-nil held ∙ whole);
        left_is = e ∙ ap (λ (t : ℕ). drop t pages) (sym none);
        along = subst₂ (λ (i t : ℕ). Along k ws₀ path pages x v ws₀ i t x v) (sym all) (sym none) along_starts;
      }

  pages_long : need ≤ length pages
  pages_long = omega (arith, h.enough, h.cells)

  -- two pages of the path differ
  path_differ : (i j : ℕ) → j < i → i < length path → get_or path j 0 ≢ get_or path i 0
  path_differ i j l u e =
      distinct_at path 0 (distinct_front path (take need pages) h.apart) j i l u e

  -- no page of the path is a new one
  path_old : (j t : ℕ) → j < length path → t < need → get_or path j 0 ≢ get_or pages t 0
  path_old j t l u e =
      let longPages = length-take-le need pages pages_long in
      let there = member_from (get_or path j 0) path j 0 l refl in
      let none = apart_member path (take need pages) (distinct_apart path (take need pages) h.apart) (get_or path j 0) there in
      not_member_at (get_or path j 0) (take need pages) 0 none t (omega arith) (get_or-take need pages t 0 u ∙ sym e)

  -- from index i on all pages are full: so many pages are taken at least
  need_least : (i m : ℕ) → i + suc m ≡ length path → ((j : ℕ) → i ≤ j → j < length path → is_full k (page_at k ws₀) (get_or path j 0) ≡ true)
      → suc m + cond (member 0 path && is_full k (page_at k ws₀) 0) 1 0 ≤ need
  unfolding room
  need_least i m e full =
      let many = count_suffix k (page_at k ws₀) path i (suc m) (omega arith) (λ j l u. full j l (omega arith)) in
      let leafFull = eqb-true (μ (page_at k ws₀ (leaf_of (length path) path))) (2 * k) (full (length path - 1) (omega arith) (omega arith)) in
      let extra : ℕ = cond (member 0 path && is_full k (page_at k ws₀) 0) 1 0 in
      let counting = cond-false 0 (count (is_full k (page_at k ws₀)) path + extra) (le-ltb (μ (page_at k ws₀ (leaf_of (length path) path))) (2 * k) (omega arith)) in
      let counted = subst (λ (held : List ℕ). suc m ≤ count (is_full k (page_at k ws₀)) held) (ap (λ (d : ℕ). take d path) e ∙ take-length path) many in
      subst (λ (r : ℕ). suc m + extra ≤ r) (sym counting) (omega arith)

  -- the page at index i is full, and those below it are: all from index i on are
  full_from : (i : ℕ) → i < length path → ((j : ℕ) → i < j → j < length path → is_full k (page_at k ws₀) (get_or path j 0) ≡ true)
      → 2 * k ≤ μ (page_at k ws₀ (get_or path i 0))
      → (j : ℕ)
      → i ≤ j
      → j < length path
      → is_full k (page_at k ws₀) (get_or path j 0) ≡ true
  full_from i low below over j l u =
      let few = (holding_known h.holding i low).facts.room in
      let here = eq-eqb (μ (page_at k ws₀ (get_or path i 0))) (2 * k) (omega arith) in
      ⊎_elim
      (λ e. subst (λ (m : ℕ). is_full k (page_at k ws₀) (get_or path m 0) ≡ true) e here)
      (λ b. below j b u)
      (eq-or-lt_of_le l)

  -- then a new page is there for it
  one_needed : (i t : ℕ) → t + suc i ≡ length path → ((j : ℕ) → i < j → j < length path → is_full k (page_at k ws₀) (get_or path j 0) ≡ true)
      → 2 * k ≤ μ (page_at k ws₀ (get_or path i 0))
      → t < need
  one_needed i t e below over =
      let many = need_least i t (omega arith) (full_from i (omega arith) below over) in
      omega arith

  -- and two for the top, which is page 0
  two_needed : (t : ℕ) → t + 1 ≡ length path → ((j : ℕ) → 0 < j → j < length path → is_full k (page_at k ws₀) (get_or path j 0) ≡ true)
      → 2 * k ≤ μ (page_at k ws₀ (get_or path 0 0))
      → t + 1 < need
  two_needed t e below over =
      let full = full_from 0 (omega arith) below over in
      let topFull = full 0 (omega arith) (omega arith) in
      let many = need_least 0 t (omega arith) full in
      ⊎_elim
      (λ root. let there = member_from 0 path 0 0 (omega arith) root in
      let is_zero = subst (λ (q : ℕ). is_full k (page_at k ws₀) q ≡ true) root topFull in
      let one = cond-true {A = ℕ} 1 0 (and_both there is_zero) in
      omega arith)
      (λ space. absurd (omega arith))
      h.top

  module _ {ws : List ℕ} (i t key value : ℕ) (a : Along k ws₀ path pages x v ws i t key value) where
    -- what is known of the page at index j as it was
    was : (j : ℕ) → j ≤ i → Known k n ws₀ (get_or path j 0)
    was j l = holding_known h.holding j (omega (arith, a.risen))

    -- a page from here upward is as it was
    same_page : (j : ℕ) → j ≤ i → page_at k ws (get_or path j 0) ≡ page_at k ws₀ (get_or path j 0)
    unfolding page_at
    same_page j l = ap view (a.same j l)

    -- the page is held
    pub along_held : Held k n ws (get_or path i 0 ∷ [])
    along_held =
        let held = h.holding.held in
        let page = holding_page h.holding i (omega (arith, a.risen)) in
        one_held held.least held.width held.most (a.kept ∙ held.whole)
        (record {
          inside = page.inside;
          sound = subst (λ (u : List ℕ). sound_by_itself k n (get_or path i 0) u ≡ true) (sym (a.same i (omega arith))) page.sound;
        })

    module _ (over : 2 * k ≤ μ (page_at k ws (get_or path i 0))) where
      -- it was full
      full_before : 2 * k ≤ μ (page_at k ws₀ (get_or path i 0))
      full_before = subst (λ (F : Page). 2 * k ≤ μ F) (same_page i (omega arith)) over

      -- a new page is there for it
      pub along_new : get_or pages t 0 < n
      along_new = h.inside t (one_needed i t a.risen a.full full_before)

    -- the page fits: the change is made
    pub along_done : {after : List ℕ}
        → settled_as k (get_or path i 0) (grown x key value (page_at k ws (get_or path i 0))) (get_or pages t 0) ws after None
        → after ≡ changed k ws₀ path pages x v
    along_done {after} told =
        let F : Page = page_at k ws₀ (get_or path i 0) in
        let s : settled_as k (get_or path i 0) (grown x key value F) (get_or pages t 0) ws after None
        = subst (λ (G : Page). settled_as k (get_or path i 0) (grown x key value G) (get_or pages t 0) ws after None) (same_page i (omega arith)) told in
        settled_done k (page_at k ws₀) x (drop t pages) (upward i path) (get_or path i 0) (grown x key value F) ws after s.0 s.1
        ∙ sym a.rest

    -- the page was split: the insertion goes on at its father
    pub along_on : {up new : ℕ} {after : List ℕ} → 0 < i → new ≡ get_or pages t 0
        → settled_as k (get_or path i 0) (grown x key value (page_at k ws (get_or path i 0))) new ws after (Some up)
        → Along k ws₀ path pages x v after (i - 1) (t + 1) up new
    along_on {up} {new} {after} low e told =
        let F : Page = page_at k ws₀ (get_or path i 0) in
        let G : Page = grown x key value F in
        let p : ℕ = get_or path i 0 in
        let known = was i (omega arith) in
        let s₀ : settled_as k p G new ws after (Some up)
        = subst (λ (E : Page). settled_as k p (grown x key value E) new ws after (Some up)) (same_page i (omega arith)) told in
        let pairs = grown_μ x key value F in
        let few = known.facts.room in
        let full : 2 * k ≤ μ F = omega (arith, s₀.0) in
        let sizes = cut_sizes k G h.holding.held.least (omega arith) (grown_first x key value F known.facts.leaf_first) in
        let first : List ℕ = written k (write new (split k G).right) ws in
        record {
          risen = omega (arith, a.risen);
          kept =
              ap length s₀.2
              ∙ length_written k (write p (split k G).left) first
              ∙ length_written k (write new (split k G).right) ws
              ∙ a.kept;
          same = λ j l.
              ap (words_of k (get_or path j 0)) s₀.2
              ∙ words_of_written_other k p (get_or path j 0) (split k G).left first (path_differ i j (omega arith) (omega (arith, a.risen))) sizes.0
              ∙ words_of_written_other k new (get_or path j 0) (split k G).right ws (subst (λ (b : ℕ). get_or path j 0 ≢ b) (sym e) (path_old j t (omega (arith, a.risen)) (one_needed i t a.risen a.full full))) sizes.1
              ∙ a.same j (omega arith);
          full = λ j l u. full_from i (omega (arith, a.risen)) a.full full j (omega arith) u;
          rest =
              a.rest
              ∙ settled_on k (page_at k ws₀) x (drop t pages) (drop (t + 1) pages) (upward i path) (get_or path (i - 1) 0) (upward (i - 1) path) p G new up
              ws after (upward_father i path low) (next_page ∙ sym e) (drop-drop 1 t pages) s₀.0 s₀.1 s₀.2;
        }
      where
        next_page : lowest (drop t pages) ≡ get_or pages t 0
        next_page = let z : t + 0 ≡ t = omega arith in get_or-drop t pages 0 0 ∙ ap (λ (m : ℕ). get_or pages m 0) z

  -- two new pages are there for the top
  pub along_two : {ws : List ℕ} (t key value : ℕ) → Along k ws₀ path pages x v ws 0 t key value
      → 2 * k ≤ μ (page_at k ws (get_or path 0 0))
      → (get_or pages t 0 < n) × (get_or pages (length path) 0 < n)
  along_two t key value a over =
      let was = full_before 0 t key value a over in
      let two = two_needed t (omega (arith, a.risen)) a.full was in
      (h.inside t (one_needed 0 t a.risen a.full was), h.inside (length path) (omega (arith, a.risen)))

  -- the top is written, or it is page 0 and rises: the change is made
  pub along_top : {ws after : List ℕ} (t key value : ℕ) → Along k ws₀ path pages x v ws 0 t key value
      → after
      ≡ applied k
      (settled k (page_at k ws) x (get_or pages t 0 ∷ get_or pages (length path) 0 ∷ []) [] (get_or path 0 0) (grown x key value (page_at k ws (get_or path 0 0))))
      ws
      → after ≡ changed k ws₀ path pages x v
  along_top {ws} {after} t key value a e =
      let F : Page = page_at k ws₀ (get_or path 0 0) in
      let p : ℕ = get_or path 0 0 in
      let zero_more : t + 0 ≡ t = omega arith in
      let first : lowest (drop t pages) ≡ get_or pages t 0 = get_or-drop t pages 0 0 ∙ ap (λ (m : ℕ). get_or pages m 0) zero_more in
      let last : t + 1 ≡ length path = omega (arith, a.risen) in
      let second : lowest (drop 1 (drop t pages)) ≡ get_or pages (length path) 0 =
      get_or-drop 1 (drop t pages) 0 0 ∙ get_or-drop t pages 1 0 ∙ ap (λ (m : ℕ). get_or pages m 0) last in
      e
      ∙ ap
      (λ (G : Page). applied k (settled k (page_at k ws) x (get_or pages t 0 ∷ get_or pages (length path) 0 ∷ []) [] p (grown x key value G)) ws)
      (same_page 0 t key value a 0 (omega arith))
      ∙ sym
      (ap (λ (l : List Write). applied k l ws)
      (settled_top k (page_at k ws₀) x (page_at k ws) (drop t pages) (get_or pages t 0) (get_or pages (length path) 0) p (grown x key value F) first second))
      ∙ sym (ap (λ (up : List ℕ). applied k (settled k (page_at k ws₀) x (drop t pages) up p (grown x key value F)) ws) (upward_top 0 path refl))
      ∙ sym a.rest

  module _ {ws left held : List ℕ} {key value : ℕ} (r : Rising k ws₀ path pages x v ws left held key value) where
    -- no new page is left, or no page but the top: it stands at the top
    pub rising_ends : (length left ≡ 0) ⊎ (length held ≡ 0) → Along k ws₀ path pages x v ws 0 (length path - 1) key value
    unfolding path_holds most_new
    rising_ends e =
        let risen = r.along.risen in
        let top : length held ≡ 0 =
        ⊎_elim
        (λ none. omega (arith, none, ap length r.left_is, length-drop (length path - (length held + 1)) pages, h.cells, h.holding.deep))
        (λ none. none)
        e in
        subst (λ (m : ℕ). Along k ws₀ path pages x v ws m (length path - (m + 1)) key value) top r.along

    -- so many pages below it were split
    abbrev t : ℕ
    t = length path - (length held + 1)

    -- one more of each: the last of the pages left, and its new page
    module _ (new p : ℕ) (more rest : List ℕ) (first : left ≡ new ∷ more) (last : held ≡ rest ++ p ∷ []) where
      one_less : length held ≡ 1 + length rest
      one_less = let e = length_push rest p in omega (arith, ap length last)

      split_here : drop 1 path ≡ rest ++ p ∷ r.gone
      split_here = r.held_is ∙ ap (λ (l : List ℕ). l ++ r.gone) last ∙ append_assoc rest (p ∷ []) r.gone

      is_page : get_or path (length held) 0 ≡ p
      is_page =
          ap (λ (i : ℕ). get_or path i 0) one_less
          ∙ sym (get_or-drop 1 path (length rest) 0)
          ∙ ap (λ (l : List ℕ). get_or l (length rest) 0) split_here
          ∙ get_or-append_seam rest p r.gone 0

      both : new ∷ more ≡ drop t pages
      both = sym first ∙ r.left_is

      is_new : new ≡ get_or pages t 0
      is_new =
          let e : t + 0 ≡ t = omega arith in
          ap (λ (l : List ℕ). get_or l 0 0) both ∙ get_or-drop t pages 0 0 ∙ ap (λ (m : ℕ). get_or pages m 0) e

      pub rising_held : Held k n ws (p ∷ [])
      rising_held = subst (λ (q : ℕ). Held k n ws (q ∷ [])) is_page (along_held (length held) t key value r.along)

      pub rising_new : 2 * k ≤ μ (page_at k ws p) → new < n
      rising_new over =
          subst (λ (a : ℕ). a < n) (sym is_new)
          (along_new (length held) t key value r.along (subst (λ (q : ℕ). 2 * k ≤ μ (page_at k ws q)) (sym is_page) over))

      -- what became of it, by its place in the path
      told : (after : List ℕ) (up : Option ℕ) → settled_as k p (grown x key value (page_at k ws p)) new ws after up
          → settled_as k (get_or path (length held) 0) (grown x key value (page_at k ws (get_or path (length held) 0))) new ws after up
      told after up s = subst (λ (q : ℕ). settled_as k q (grown x key value (page_at k ws q)) new ws after up) (sym is_page) s

      pub rising_done : {after : List ℕ} → settled_as k p (grown x key value (page_at k ws p)) new ws after None
          → after ≡ changed k ws₀ path pages x v
      rising_done {after} s = along_done (length held) t key value r.along (told after None s)

      pub rises : {after : List ℕ} {up : ℕ} → settled_as k p (grown x key value (page_at k ws p)) new ws after (Some up)
          → Rising k ws₀ path pages x v after more rest up new
      rises {after} {up} s =
          let risen = r.along.risen in
          let less = one_less in
          let next : t + 1 ≡ length path - (length rest + 1) = omega arith in
          record {
            gone = p ∷ r.gone;
            held_is = split_here;
            left_is = ap (drop 1) both ∙ drop-drop 1 t pages ∙ ap (λ (m : ℕ). drop m pages) next;
            along =
                subst₂ (λ (i m : ℕ). Along k ws₀ path pages x v after i m up new) (omega arith) next
                (along_on (length held) t key value r.along (omega arith) is_new (told after (Some up) s));
          }

  -- A list that begins with the same new pages gives the same change: the array's cells behind them do not matter.
  module _ (free : List ℕ) (agree : (t : ℕ) → t < need → get_or free t 0 ≡ get_or pages t 0) where
    -- the first of the pages left, and the second
    first_left : (t : ℕ) (l : List ℕ) → lowest (drop t l) ≡ get_or l t 0
    first_left t l = let e : t + 0 ≡ t = omega arith in get_or-drop t l 0 0 ∙ ap (λ (m : ℕ). get_or l m 0) e

    second_left : (t : ℕ) (l : List ℕ) → lowest (drop 1 (drop t l)) ≡ get_or l (t + 1) 0
    second_left t l = get_or-drop 1 (drop t l) 0 0 ∙ get_or-drop t l 1 0

    rest_same : (i t : ℕ) (P : Page) → t + suc i ≡ length path
        → ((j : ℕ) → i < j → j < length path → is_full k (page_at k ws₀) (get_or path j 0) ≡ true)
        → μ P ≡ suc (μ (page_at k ws₀ (get_or path i 0)))
        → settled k (page_at k ws₀) x (drop t free) (upward i path) (get_or path i 0) P
        ≡ settled k (page_at k ws₀) x (drop t pages) (upward i path) (get_or path i 0) P
    unfolding upward
    rest_same zero t P e below more =
        let p : ℕ = get_or path 0 0 in
        ⊎_elim
        (λ fits. let l = leb-true (μ P) (2 * k) fits in
        settled_fits k (page_at k ws₀) x (drop t free) [] p P l ∙ sym (settled_fits k (page_at k ws₀) x (drop t pages) [] p P l))
        (λ over. let l = leb-false (μ P) (2 * k) over in
        let one = one_needed 0 t e below (omega arith) in
        let two = two_needed t (omega arith) below (omega arith) in
        settled_top k (page_at k ws₀) x (page_at k ws₀) (drop t free) (get_or pages t 0) (get_or pages (t + 1) 0) p P
        (first_left t free ∙ agree t one)
        (second_left t free ∙ agree (t + 1) two)
        ∙ sym
        (settled_top k (page_at k ws₀) x (page_at k ws₀) (drop t pages) (get_or pages t 0) (get_or pages (t + 1) 0) p P
        (first_left t pages)
        (second_left t pages)))
        (true_or_false (leb (μ P) (2 * k)))
    rest_same (suc i) t P e below more =
        let p : ℕ = get_or path (suc i) 0 in
        let f : ℕ = get_or path i 0 in
        let up : List ℕ = upward i path in
        ⊎_elim
        (λ fits. let l = leb-true (μ P) (2 * k) fits in
        settled_fits k (page_at k ws₀) x (drop t free) (f ∷ up) p P l ∙ sym (settled_fits k (page_at k ws₀) x (drop t pages) (f ∷ up) p P l))
        (λ over. let l = leb-false (μ P) (2 * k) over in
        let full : 2 * k ≤ μ (page_at k ws₀ p) = omega arith in
        let one = one_needed (suc i) t e below full in
        let new : ℕ = get_or pages t 0 in
        let F : Page = page_at k ws₀ f in
        let G : Page = grown x (split k P).between new F in
        let above = rest_same i (t + 1) G (omega arith) (λ j b u. full_from (suc i) (omega arith) below full j b u) (grown_μ x (split k P).between new F) in
        settled_splits k (page_at k ws₀) x (drop t free) f up p P l
        ∙ ap₂
        (λ (b : ℕ) (rest : List ℕ).
        write b (split k P).right ∷ write p (split k P).left ∷ settled k (page_at k ws₀) x rest up f (grown x (split k P).between b F))
        (first_left t free ∙ agree t one)
        (drop-drop 1 t free)
        ∙ ap (λ (ws : List Write). write new (split k P).right ∷ write p (split k P).left ∷ ws) above
        ∙ sym
        (settled_splits k (page_at k ws₀) x (drop t pages) f up p P l
        ∙ ap₂
        (λ (b : ℕ) (rest : List ℕ).
        write b (split k P).right ∷ write p (split k P).left ∷ settled k (page_at k ws₀) x rest up f (grown x (split k P).between b F))
        (first_left t pages)
        (drop-drop 1 t pages)))
        (true_or_false (leb (μ P) (2 * k)))

    pub insertion_same : insertion k (page_at k ws₀) x v free (leaf_of (length path) path) (fathers_of (length path) path)
        ≡ insertion k (page_at k ws₀) x v pages (leaf_of (length path) path) (fathers_of (length path) path)
    unfolding insertion
    insertion_same =
        rest_same (length path - 1) 0 (grown x x v (page_at k ws₀ (leaf_of (length path) path)))
        (omega (arith, h.holding.some))
        (λ j l u. absurd (omega arith))
        (grown_μ x x v (page_at k ws₀ (leaf_of (length path) path)))
