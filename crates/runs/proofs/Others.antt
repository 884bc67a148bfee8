-- Kept for the others: a change that writes none of the pages that a slot holds leaves it standing as it stood. Each held page
-- keeps its level and its range, so it is still on the key's way; the wanted page is found again from the held one above it.
use Prim.Native.Nat.{ℕ, suc, ◌+◌, ◌-◌, ◌≤◌, ◌<◌}
use native.Mathlib.Nat.{add-zero}
use native.Mathlib.Omega.{arith}
use mathlib.Core.Bool.{Bool, true, false, not, ◌&&◌}
use mathlib.Core.List.{List, [], ◌∷◌, ◌++◌, reverse}
use mathlib.Core.Logic.{inl, inr, ⊎_elim}
use mathlib.Core.Path.{◌≡◌, refl, sym, ap, ap₂, ◌∙◌, subst}
use lib.ListN.{length, get_or, take, drop, length-append, length-reverse, get_or-append}
use lib.Seq.{append_snoc, get_or-append_seam, get_or-append-add}
use Rattle.ground.specs.Limits.{word_range}
use Rattle.ground.specs.Tests.{member}
use Rattle.ground.proofs.Bools.{or_first, or_second, or_cases}
use Rattle.ground.proofs.Tests.{member_here, member_append, member_from}
use Rattle.page.specs.Words.{Page, Entry, μ}
use Rattle.page.specs.Place.{pointer, route, has, at_or_above}
use Rattle.page.specs.Short.{neighbour}
use Rattle.pool.specs.Pool.{Write}
use Rattle.slots.specs.declared.Op.{Op}
use Rattle.slots.specs.declared.Op.TheVariants.{Search, Insert, Delete, Next, Regrade}
use Rattle.slots.specs.Parts.{key_of, Stand, holding, with_op}
use Rattle.footing.specs.Granted.{is_safe, answered_at_once, is_nothing, needs_no_more, change_known}
use Rattle.tree.specs.Tree.{Tr, way, leaf_on, Forms}
use Rattle.tree.specs.Facts.{WayFacts}
use Rattle.tree.specs.Change.{memory_after, written_pages, Leads}
use Rattle.tree.proofs.Memory.{absent_times, unwritten}
use Rattle.tree.proofs.Search.{way_facts}
use Rattle.tree.proofs.Ways.{place_facts}
use Rattle.runs.specs.Stance.{Locked, Rightly, Coming, WantsSibling, Crossing, Converting, Stance}
use Rattle.runs.proofs.Paths.{first_below, member_reverse, stretch}
use Rattle.runs.proofs.Needing.{needs_by}
use Rattle.runs.proofs.Locking.{due_by}

-- ---- the way of a key, before and after

-- a page of a part of the way
part_at : (x l : ℕ) (t : Tr l) (lower part upper : List ℕ) → way x l t ≡ lower ++ (part ++ upper) → (j : ℕ) → j < length part
    → get_or (way x l t) (length lower + j) 0 ≡ get_or part j 0
part_at x l t lower part upper whole j h =
    ap (λ (w : List ℕ). get_or w (length lower + j) 0) whole
    ∙ get_or-append-add lower (part ++ upper) j 0
    ∙ get_or-append part upper 0 j h

module _ (k n : ℕ) (memory : ℕ → Page) (l : ℕ) (t : Tr l) (writes : List Write) (es : List Entry) (forms : Forms k n memory l t)
    (leads : Leads k n memory l t writes es) (x : ℕ) (key : x < word_range) where
  abbrev after : ℕ → Page
  after = memory_after memory writes

  abbrev height : ℕ
  height = leads.height

  abbrev way_after : List ℕ
  way_after = way x height leads.tree

  facts : WayFacts memory x l t
  facts = way_facts k n memory l t forms x key

  facts_after : WayFacts after x height leads.tree
  facts_after = way_facts k n after height leads.tree leads.forms x key

  -- a page of the way that is not written is on the way again, as far from the leaf
  stays : (i : ℕ) → i ≤ l → member (get_or (way x l t) i 0) (written_pages writes) ≡ false
      → (i ≤ height) × (get_or way_after i 0 ≡ get_or (way x l t) i 0)
  stays i h not_written =
      let q : ℕ = get_or (way x l t) i 0 in
      let p = (place_facts k n memory l t forms).on_way x i key h in
      let places = place_facts k n after height leads.tree leads.forms in
      let stands = leads.keeps q (i + 1) p.from p.to not_written p.stands in
      (omega (arith, (places.inside q (i + 1) p.from p.to stands).highest), places.way_has x i q p.from p.to stands p.low p.high)

  -- a part of the way of which no page is written
  module _ (lower part upper : List ℕ) (whole : way x l t ≡ lower ++ (part ++ upper))
      (free : (q : ℕ) → member q part ≡ true → member q (written_pages writes) ≡ false) where
    part_stays : (j : ℕ) → j < length part → (length lower + j ≤ height) × (get_or way_after (length lower + j) 0 ≡ get_or part j 0)
    part_stays j h =
        let here = part_at x l t lower part upper whole j h in
        let size : l + 1 ≡ length lower + (length part + length upper)
        = sym facts.pages ∙ ap length whole ∙ length-append lower (part ++ upper) ∙ ap (λ (m : ℕ). length lower + m) (length-append part upper) in
        let kept = stays (length lower + j) (omega arith)
        (subst (λ (p : ℕ). member p (written_pages writes) ≡ false) (sym here) (free (get_or part j 0) (member_from (get_or part j 0) part j 0 h refl))) in
        (kept.0, kept.1 ∙ here)

-- ---- the pages of a slot

module _ (k n : ℕ) (memory : ℕ → Page) (l : ℕ) (t : Tr l) (writes : List Write) (es : List Entry) (z : Stand)
    (key : key_of z.op < word_range) (forms : Forms k n memory l t) (leads : Leads k n memory l t writes es)
    (apart : (q : ℕ) → member q (holding z) ≡ true → member q (written_pages writes) ≡ false) where
  abbrev x : ℕ
  x = key_of z.op

  abbrev before : WayFacts memory x l t
  before = facts k n memory l t writes es forms leads x key

  abbrev now : WayFacts (memory_after memory writes) x leads.height leads.tree
  now = facts_after k n memory l t writes es forms leads x key

  abbrev on_way : List ℕ
  on_way = way x leads.height leads.tree

  -- a held page is as it was
  same : (q : ℕ) → member q (holding z) ≡ true → memory_after memory writes q ≡ memory q
  same q m = unwritten memory writes q (absent_times q (written_pages writes) (apart q m))

  of_path : (q : ℕ) → member q z.path ≡ true → member q (holding z) ≡ true
  of_path q m = member_append q z.path z.beside ∙ or_first (member q z.beside) m

  of_upward : (q : ℕ) → member q (reverse z.path) ≡ true → member q (holding z) ≡ true
  of_upward q m = of_path q (sym (member_reverse q z.path) ∙ m)

  path_same : (i : ℕ) → i < length z.path → memory_after memory writes (get_or z.path i 0) ≡ memory (get_or z.path i 0)
  path_same i h = same (get_or z.path i 0) (of_path (get_or z.path i 0) (member_from (get_or z.path i 0) z.path i 0 h refl))

  upward_same : (j : ℕ) → j < length z.path → memory_after memory writes (get_or (reverse z.path) j 0) ≡ memory (get_or (reverse z.path) j 0)
  upward_same j h =
      let q : ℕ = get_or (reverse z.path) j 0 in
      same q (of_upward q (member_from q (reverse z.path) j 0 (omega (arith, length-reverse z.path)) refl))

  sibling_same : (j : ℕ) → j < length z.beside → memory_after memory writes (get_or z.beside j 0) ≡ memory (get_or z.beside j 0)
  sibling_same j h =
      let q : ℕ = get_or z.beside j 0 in
      same q (member_append q z.path z.beside ∙ or_second (member q z.path) (member_from q z.beside j 0 h refl))

  -- its pages are as safe as they were
  rightly_keeps : Rightly z.op k memory z.path → Rightly z.op k (memory_after memory writes) z.path
  rightly_keeps r = record {
    some = r.some;
    top =
        ⊎_elim inl
        (λ s. inr (ap (λ (P : Page). is_safe z.op k P) (path_same 0 r.some) ∙ s))
        r.top;
    unsafe = λ i h. ap (λ (P : Page). is_safe z.op k P) (path_same (suc i) h) ∙ r.unsafe i h;
  }

  -- and its path is a stretch of the way, as far from the leaf as it was
  module _ (lower upper : List ℕ) (whole : way x l t ≡ lower ++ (reverse z.path ++ upper)) (i j : ℕ) (at : i ≡ length lower + j) (h : j < length z.path) where
    path_was : get_or (way x l t) i 0 ≡ get_or (reverse z.path) j 0
    path_was =
        ap (λ (c : ℕ). get_or (way x l t) c 0) at ∙ part_at x l t lower (reverse z.path) upper whole j (omega (arith, length-reverse z.path))

    path_stays : (i ≤ leads.height) × (get_or on_way i 0 ≡ get_or (reverse z.path) j 0)
    path_stays =
        subst (λ (c : ℕ). (c ≤ leads.height) × (get_or on_way c 0 ≡ get_or (reverse z.path) j 0)) (sym at)
        (part_stays k n memory l t writes es forms leads x key lower (reverse z.path) upper whole (λ q m. apart q (of_upward q m)) j
        (omega (arith, length-reverse z.path)))

  -- the page that it wants is again the next one of the way
  coming_keeps : Coming k memory l t z
      → Coming k (memory_after memory writes) leads.height leads.tree z
  coming_keeps c =
      let m : ℕ = length c.lower in
      let some = c.rightly.some in
      let rest : List ℕ = reverse z.path ++ c.upper in
      let lower : List ℕ = c.lower ++ z.want ∷ [] in
      let size : length lower ≡ m + 1 = length-append c.lower (z.want ∷ []) in
      let cut : way x l t ≡ lower ++ rest = c.whole ∙ sym (append_snoc c.lower z.want rest) in
      let inside : m < l
      = omega (arith, before.pages, ap length c.whole, length-append c.lower (z.want ∷ rest), length-append (reverse z.path) c.upper, length-reverse z.path) in
      let first = path_stays lower c.upper cut (suc m) 0 (omega arith) some in
      let last = path_stays lower c.upper cut (m + length z.path) (length z.path - 1) (omega arith) (omega arith) in
      let wanted : get_or on_way m 0 ≡ z.want
      = sym (now.leads m first.0)
      ∙ ap (λ (p : ℕ). route x (memory_after memory writes p)) first.1
      ∙ ap (route x) (upward_same 0 some)
      ∙ ap (λ (p : ℕ). route x (memory p)) (sym (path_was lower c.upper cut (suc m) 0 (omega arith) some))
      ∙ before.leads m inside
      ∙ ap (λ (w : List ℕ). get_or w m 0) c.whole
      ∙ get_or-append_seam c.lower z.want rest 0 in
      record {
        lower = take m on_way;
        upper = drop (m + length (z.want ∷ reverse z.path)) on_way;
        whole =
            stretch on_way (z.want ∷ reverse z.path) m
            (omega (arith, last.0, now.pages, length-reverse z.path))
            (first_below (length (reverse z.path)) (λ (j : ℕ). get_or on_way (m + j) 0 ≡ get_or (z.want ∷ reverse z.path) j 0)
            (ap (λ (i : ℕ). get_or on_way i 0) (add-zero m) ∙ wanted)
            (λ j h. (path_stays lower c.upper cut (m + suc j) j (omega arith) (omega (arith, length-reverse z.path))).1));
        rightly = rightly_keeps c.rightly;
        no_siblings = c.no_siblings;
      }

  -- a path down to the leaf is so again
  leaf_whole : (upper : List ℕ) → 1 ≤ length z.path → way x l t ≡ reverse z.path ++ upper → on_way ≡ reverse z.path ++ drop (0 + length (reverse z.path)) on_way
  leaf_whole upper some whole =
      let last = path_stays [] upper whole (length z.path - 1) (length z.path - 1) (omega arith) (omega arith) in
      stretch on_way (reverse z.path) 0
      (omega (arith, last.0, now.pages, length-reverse z.path))
      (λ j h. (path_stays [] upper whole (0 + j) j (omega arith) (omega (arith, length-reverse z.path))).1)

  -- it still stands at its leaf, which decides that the key is there
  beside_keeps : WantsSibling k memory l t z
      → WantsSibling k (memory_after memory writes) leads.height leads.tree z
  beside_keeps b =
      let some = b.rightly.some in
      let first = path_stays [] b.upper b.whole 0 0 (omega arith) some in
      let leaf : leaf_on x leads.height leads.tree ≡ leaf_on x l t
      = ap (λ (P : Page). P.entries)
      (sym now.leaf
      ∙ ap (memory_after memory writes) first.1
      ∙ upward_same 0 some
      ∙ ap memory (sym (path_was [] b.upper b.whole 0 0 (omega arith) some))
      ∙ before.leaf) in
      record {
        deletes = b.deletes;
        there = sym now.decides ∙ ap (has x) leaf ∙ before.decides ∙ b.there;
        upper = drop (0 + length (reverse z.path)) on_way;
        whole = leaf_whole b.upper some b.whole;
        rightly = rightly_keeps b.rightly;
        fewer = b.fewer;
        short = λ j h. ap μ (upward_same j (omega (arith, b.fewer))) ∙ b.short j h;
        not_root = b.not_root;
        neighbours = λ j h. b.neighbours j h ∙ ap (neighbour x) (sym (upward_same (suc j) (omega (arith, b.fewer))));
        joining = λ j h. ap μ (sibling_same j h) ∙ b.joining j h;
        wants_next = b.wants_next ∙ ap (neighbour x) (sym (upward_same (suc (length z.beside)) (omega (arith, b.fewer))));
      }

  -- and so does a Next past its leaf: the second way goes by pages that it holds
  crossing_keeps : Crossing k memory l t z
      → Crossing k (memory_after memory writes) leads.height leads.tree z
  crossing_keeps c =
      let some = c.rightly.some in
      let top-same = path_same 0 some in
      record {
        asks_next = c.asks_next;
        upper = drop (0 + length (reverse z.path)) on_way;
        whole = leaf_whole c.upper some c.whole;
        rightly = rightly_keeps c.rightly;
        none = ap (λ (P : Page). at_or_above x P.entries) (upward_same 0 some) ∙ c.none;
        right = ap (λ (P : Page). is_safe z.op k P) top-same ∙ c.right;
        fewer = c.fewer;
        turns = c.turns ∙ ap (neighbour x) (sym top-same);
        leftmost = λ j h. c.leftmost j h ∙ ap (pointer 0) (sym (sibling_same j h));
      }

  -- and so does a slot that converts: what is needed goes by pages that it holds
  known_keeps : (op : Op) (leaf : ℕ) (fathers : List ℕ) → ((q : ℕ) → member q (leaf ∷ fathers ++ z.beside) ≡ true → memory_after memory writes q ≡ memory q)
      → change_known k (memory_after memory writes) (with_op op z) leaf fathers ≡ change_known k memory (with_op op z) leaf fathers
  known_keeps op leaf fathers agree =
      ap₂ (λ (P : Page) (b : Bool). not (answered_at_once op P.entries) && b) (agree leaf (member_here leaf (fathers ++ z.beside))) (more op)
    where
      more : (op : Op) → needs_no_more op k (memory_after memory writes) z.beside leaf fathers ≡ needs_no_more op k memory z.beside leaf fathers
      more (Search x) = refl
      more (Insert x v way') = refl
      more (Delete x way') = ap is_nothing (needs_by k memory (memory_after memory writes) x leaf fathers z.beside agree)
      more (Next x) = refl
      more (Regrade x v way') = refl

  converting_keeps : Converting k memory l t z
      → Converting k (memory_after memory writes) leads.height leads.tree z
  converting_keeps c =
      let some = c.rightly.some in
      let agree : (q : ℕ) → member q (c.leaf ∷ c.fathers ++ z.beside) ≡ true → memory_after memory writes q ≡ memory q
      = λ q m. same q
      (member_append q z.path z.beside
      ∙ ⊎_elim
      (λ h. or_first (member q z.beside) (sym (member_reverse q z.path) ∙ ap (member q) c.upward ∙ h))
      (λ h. or_second (member q z.path) h)
      (or_cases (member q (c.leaf ∷ c.fathers)) (member q z.beside) (sym (member_append q (c.leaf ∷ c.fathers) z.beside) ∙ m))) in
      record {
        third = c.third;
        leaf = c.leaf;
        fathers = c.fathers;
        upward = c.upward;
        upper = drop (0 + length (reverse z.path)) on_way;
        whole = leaf_whole c.upper some c.whole;
        rightly = rightly_keeps c.rightly;
        known = known_keeps z.op c.leaf c.fathers agree ∙ c.known;
        asked = λ before s after e.
            needs_by k memory (memory_after memory writes) x c.leaf c.fathers before (λ q m. agree q (earlier q before s after e m))
            ∙ c.asked before s after e;
        done = c.done;
        rest = c.rest;
        turns = c.turns;
      }
    where
      earlier : (q : ℕ) (before : List ℕ) (s : ℕ) (after : List ℕ) → z.beside ≡ before ++ s ∷ after → member q (c.leaf ∷ c.fathers ++ before) ≡ true
          → member q (c.leaf ∷ c.fathers ++ z.beside) ≡ true
      earlier q before s after e m =
          member_append q (c.leaf ∷ c.fathers) z.beside
          ∙ ⊎_elim
          (λ h. or_first (member q z.beside) h)
          (λ h. or_second (member q (c.leaf ∷ c.fathers))
          (ap (member q) e ∙ member_append q before (s ∷ after) ∙ or_first (member q (s ∷ after)) h))
          (or_cases (member q (c.leaf ∷ c.fathers)) (member q before) (sym (member_append q (c.leaf ∷ c.fathers) before) ∙ m))

-- and it still wants with the kind of lock that is due: the lowest page that it holds is as it was
pub others_wait : (k n : ℕ) (memory : ℕ → Page) (l : ℕ) (t : Tr l) (writes : List Write) (es : List Entry) (z : Stand)
    → key_of z.op < word_range → Forms k n memory l t → (leads : Leads k n memory l t writes es)
    → ((q : ℕ) → member q (holding z) ≡ true → member q (written_pages writes) ≡ false)
    → Locked memory z
    → Locked (memory_after memory writes) z
others_wait k n memory l t writes es z key forms leads apart locked = record {
  wants = λ new.
      locked.wants new ∙ due_by z.op memory (memory_after memory writes) (reverse z.path)
      (λ q m. same k n memory l t writes es z key forms leads apart q (of_upward k n memory l t writes es z key forms leads apart q m));
  converts = locked.converts;
  holds = locked.holds;
}

pub others_keep : (k n : ℕ) (memory : ℕ → Page) (l : ℕ) (t : Tr l) (writes : List Write) (es : List Entry) (z : Stand)
    → 1 ≤ k → key_of z.op < word_range → Forms k n memory l t → (leads : Leads k n memory l t writes es)
    → ((q : ℕ) → member q (holding z) ≡ true → member q (written_pages writes) ≡ false)
    → Stance k memory l t z
    → Stance k (memory_after memory writes) leads.height leads.tree z
others_keep k n memory l t writes es z one key forms leads apart (inl (inl s)) = inl (inl s)
others_keep k n memory l t writes es z one key forms leads apart (inl (inr (inl c))) =
    inl (inr (inl (coming_keeps k n memory l t writes es z key forms leads apart c)))
others_keep k n memory l t writes es z one key forms leads apart (inl (inr (inr (inl b)))) =
    inl (inr (inr (inl (beside_keeps k n memory l t writes es z key forms leads apart b))))
others_keep k n memory l t writes es z one key forms leads apart (inl (inr (inr (inr c)))) =
    inl (inr (inr (inr (crossing_keeps k n memory l t writes es z key forms leads apart c))))
others_keep k n memory l t writes es z one key forms leads apart (inr c) =
    inr (converting_keeps k n memory l t writes es z key forms leads apart c)
