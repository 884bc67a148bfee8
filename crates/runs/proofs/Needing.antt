-- A deletion that stands at its leaf: which sibling it needs next, against where the slot stands. It goes on to the next
-- sibling, or the change is made; it never goes astray.
use Prim.Native.Nat.{ℕ, suc, ◌≤◌, ◌<◌}
use native.Mathlib.Omega.{arith}
use mathlib.Core.Bool.{Bool, true, false, cond, ◌||◌}
use mathlib.Core.List.{List, [], ◌∷◌, ◌++◌, reverse}
use mathlib.Core.Logic.{◌≢◌, inl, inr, ⊎_elim}
use mathlib.Core.Path.{◌≡◌, refl, sym, ap, ap₂, ◌∙◌}
use borrow.Author.Tests.{ltb-false, le-ltb, eqb-true, eqb-false}
use lib.Dec.{eqb, ltb}
use lib.ListN.{length, get_or, length-reverse}
use Rattle.ground.specs.Limits.{word_range}
use Rattle.ground.proofs.Bools.{not_both, or_first, or_second, or_cases, or_first_fails, or_second_fails}
use Rattle.ground.proofs.Choice.{cond-false}
use Rattle.ground.specs.Tests.{member}
use Rattle.ground.proofs.Tests.{member_from, member_here, member_there, member_append, member_inside}
use Rattle.page.specs.Words.{Page, μ}
use Rattle.page.specs.Place.{has}
use Rattle.page.specs.Short.{neighbour}
use Rattle.change.specs.Deletion.{Need, nothing, sibling, astray, satisfied, needs}
use Rattle.slots.specs.declared.Op.{Op}
use Rattle.slots.specs.declared.Op.TheVariants.{Delete}
use Rattle.slots.specs.declared.Way.{Way}
use Rattle.slots.specs.declared.Way.TheVariants.{First, Second, Third}
use Rattle.slots.specs.declared.Lock.{Lock}
use Rattle.slots.specs.Parts.{is_delete, Stand, want_beside, wants_next, with_op}
use Rattle.footing.specs.Granted.{is_safe}
use Rattle.tree.specs.Tree.{Tr, entries_of, way, Forms}
use Rattle.tree.specs.Change.{HeldWay}
use Rattle.tree.specs.Deletion.{can_spare, Deletes, Asked, Needed}
use Rattle.tree.proofs.Memory.{times_append, member_times, distinct_times}
use Rattle.tree.proofs.Search.{way_facts}
use Rattle.tree.proofs.DeletionRule.{sibling≢nothing, astray≢sibling, satisfied≢sibling, sibling_same, needs_ask, needs_next, needs_length, asked_more, course_asked}
use Rattle.tree.proofs.Deletion.{deletion_leads}
use Rattle.tree.proofs.DeletionNeeds.{siblings_there}
use Rattle.runs.specs.Stance.{Rightly, WantsSibling}
use Rattle.runs.proofs.Paths.{first_alone, first_up_to, first_below}
use Rattle.runs.proofs.HeldPath.{page_least, held_way, way_pages}

-- ---- what is needed, sibling by sibling

-- The page p, with its fathers upward, has these siblings, and needs one more: each page that a sibling was taken for is short
-- and not page 0, each sibling is its page's neighbour and joins with it, and the next page wants its neighbour.
pub record Course (k : ℕ) (memory : ℕ → Page) (x p : ℕ) (fathers siblings : List ℕ) (want : ℕ) : Type 0 where
  pub short : (j : ℕ) → j ≤ length siblings → μ (memory (get_or (p ∷ fathers) j 0)) ≤ k
  pub not_root : (j : ℕ) → j ≤ length siblings → get_or (p ∷ fathers) j 0 ≢ 0
  pub neighbours : (j : ℕ) → j < length siblings → get_or siblings j 0 ≡ neighbour x (memory (get_or fathers j 0))
  pub joining : (j : ℕ) → j < length siblings → μ (memory (get_or siblings j 0)) ≤ k
  pub wants_next : want ≡ neighbour x (memory (get_or fathers (length siblings) 0))

-- choices that end in a sibling
asks_here : (b : Bool) (r : ℕ) {s : ℕ} → cond b nothing (sibling r) ≡ sibling s → (b ≡ false) × (r ≡ s)
asks_here true r e = sibling≢nothing (sym e)
asks_here false r e = (refl, sibling_same e)

asks_unless : (b : Bool) (n : Need) {s : ℕ} → cond b astray n ≡ sibling s → (b ≡ false) × (n ≡ sibling s)
asks_unless true n e = astray≢sibling e
asks_unless false n e = (refl, e)

asks_if : (b : Bool) (n : Need) {s : ℕ} → cond b n astray ≡ sibling s → (b ≡ true) × (n ≡ sibling s)
asks_if true n e = (refl, e)
asks_if false n e = astray≢sibling e

asks_further : (b : Bool) (ss : List ℕ) (n : Need) {s : ℕ} → cond b (satisfied ss) n ≡ sibling s → (b ≡ false) × (n ≡ sibling s)
asks_further true ss n e = satisfied≢sibling ss e
asks_further false ss n e = (refl, e)

module _ (k : ℕ) (memory : ℕ → Page) (x : ℕ) where
  -- from the facts to the rule,
  pub course_needs : (p : ℕ) (fathers siblings : List ℕ) (want : ℕ) → length siblings < length fathers
      → Course k memory x p fathers siblings want → needs k memory x p fathers siblings ≡ sibling want
  course_needs p [] siblings want h c = absurd (omega arith)
  course_needs p (f ∷ up) [] want h c =
      needs_ask k memory x p f up (c.not_root 0 (omega arith)) (c.short 0 (omega arith)) ∙ ap sibling (sym c.wants_next)
  course_needs p (f ∷ up) (s ∷ ss) want h c =
      needs_next k memory x p f up s ss (c.not_root 0 (omega arith)) (c.short 0 (omega arith)) (c.neighbours 0 (omega arith))
      ∙ cond-false (satisfied ss) (needs k memory x f up ss) (le-ltb k (μ (memory s)) (c.joining 0 (omega arith)))
      ∙ course_needs f up ss want (omega arith)
      (record {
        short = λ j b. c.short (suc j) (omega arith);
        not_root = λ j b. c.not_root (suc j) (omega arith);
        neighbours = λ j b. c.neighbours (suc j) (omega arith);
        joining = λ j b. c.joining (suc j) (omega arith);
        wants_next = c.wants_next;
      })

  -- and back
  pub needs_course : (p : ℕ) (fathers siblings : List ℕ) (want : ℕ) → needs k memory x p fathers siblings ≡ sibling want
      → Course k memory x p fathers siblings want
  unfolding needs
  needs_course p [] siblings want e = let short = needs_length k memory x p [] siblings want e in absurd (omega arith)
  needs_course p (f ∷ up) [] want e =
      let a = asks_here (eqb p 0 || ltb k (μ (memory p))) (neighbour x (memory f)) e in
      record {
        short = first_alone (λ (j : ℕ). μ (memory (get_or (p ∷ f ∷ up) j 0)) ≤ k)
            (ltb-false k (μ (memory p)) (or_second_fails (eqb p 0) (ltb k (μ (memory p))) a.0));
        not_root = first_alone (λ (j : ℕ). get_or (p ∷ f ∷ up) j 0 ≢ 0)
            (eqb-false p 0 (or_first_fails (eqb p 0) (ltb k (μ (memory p))) a.0));
        neighbours = λ j b. absurd (omega arith);
        joining = λ j b. absurd (omega arith);
        wants_next = sym a.1;
      }
  needs_course p (f ∷ up) (s ∷ ss) want e =
      let further : Need = needs k memory x f up ss in
      let inner : Need = cond (ltb k (μ (memory s))) (satisfied ss) further in
      let a = asks_unless (eqb p 0 || ltb k (μ (memory p))) (cond (eqb s (neighbour x (memory f))) inner astray) e in
      let b = asks_if (eqb s (neighbour x (memory f))) inner a.1 in
      let c = asks_further (ltb k (μ (memory s))) ss further b.1 in
      let rest = needs_course f up ss want c.1 in
      record {
        short = first_up_to (length ss) (λ (j : ℕ). μ (memory (get_or (p ∷ f ∷ up) j 0)) ≤ k)
            (ltb-false k (μ (memory p)) (or_second_fails (eqb p 0) (ltb k (μ (memory p))) a.0)) rest.short;
        not_root = first_up_to (length ss) (λ (j : ℕ). get_or (p ∷ f ∷ up) j 0 ≢ 0)
            (eqb-false p 0 (or_first_fails (eqb p 0) (ltb k (μ (memory p))) a.0)) rest.not_root;
        neighbours = first_below (length ss) (λ (j : ℕ). get_or (s ∷ ss) j 0 ≡ neighbour x (memory (get_or (f ∷ up) j 0)))
            (eqb-true s (neighbour x (memory f)) b.0) rest.neighbours;
        joining = first_below (length ss) (λ (j : ℕ). μ (memory (get_or (s ∷ ss) j 0)) ≤ k)
            (ltb-false k (μ (memory s)) c.0) rest.joining;
        wants_next = rest.wants_next;
      }

-- what is needed goes by the pages of the path and the siblings
pub needs_by : (k : ℕ) (memory after : ℕ → Page) (x p : ℕ) (fathers siblings : List ℕ)
    → ((q : ℕ) → member q (p ∷ fathers ++ siblings) ≡ true → after q ≡ memory q)
    → needs k after x p fathers siblings ≡ needs k memory x p fathers siblings
unfolding needs
needs_by k memory after x p [] siblings same =
    ap (λ (P : Page). cond (eqb p 0 || ltb k (μ P)) (satisfied siblings) astray) (same p (member_here p siblings))
needs_by k memory after x p (f ∷ up) [] same =
    ap₂ (λ (P F : Page). cond (eqb p 0 || ltb k (μ P)) nothing (sibling (neighbour x F)))
    (same p (member_here p (f ∷ up ++ []))) (same f (member_there p f (f ∷ up ++ []) (member_here f (up ++ []))))
needs_by k memory after x p (f ∷ up) (s ∷ ss) same =
    let further = needs_by k memory after x f up ss
    (λ q m. same q (member_there p q (f ∷ up ++ s ∷ ss) (widened q f up ss m))) in
    let last : member s (p ∷ (f ∷ up) ++ s ∷ ss) ≡ true = member_inside s (p ∷ f ∷ up) ss in
    ap₂ (λ (P F : Page). cond (eqb p 0 || ltb k (μ P)) astray (cond (eqb s (neighbour x F)) (cond (ltb k (μ (after s))) (satisfied ss) (needs k after x f up ss)) astray))
    (same p (member_here p (f ∷ up ++ s ∷ ss))) (same f (member_there p f (f ∷ up ++ s ∷ ss) (member_here f (up ++ s ∷ ss))))
    ∙ ap₂ (λ (S : Page) (d : Need). cond (eqb p 0 || ltb k (μ (memory p))) astray (cond (eqb s (neighbour x (memory f))) (cond (ltb k (μ S)) (satisfied ss) d) astray))
    (same s last) further
  where
    widened : (q f : ℕ) (up ss : List ℕ) → member q (f ∷ up ++ ss) ≡ true → member q (f ∷ up ++ s ∷ ss) ≡ true
    widened q f up ss m =
        member_append q (f ∷ up) (s ∷ ss)
        ∙ ⊎_elim
        (λ h. or_first (member q (s ∷ ss)) h)
        (λ h. or_second (member q (f ∷ up)) (member_there s q ss h))
        (or_cases (member q (f ∷ up)) (member q ss) (sym (member_append q (f ∷ up) ss) ∙ m))

-- ---- pages as safe by one way as by another

pub rightly_as : (op op' : Op) (k : ℕ) (memory : ℕ → Page) (path : List ℕ) → ((P : Page) → is_safe op' k P ≡ is_safe op k P)
    → Rightly op k memory path → Rightly op' k memory path
rightly_as op op' k memory path same r = record {
  some = r.some;
  top = ⊎_elim inl (λ s. inr (same (memory (get_or path 0 0)) ∙ s)) r.top;
  unsafe = λ i h. same (memory (get_or path (suc i) 0)) ∙ r.unsafe i h;
}

-- a deletion that takes siblings goes by the first way or the third: its pages are as safe
pub deletes_safe : (x : ℕ) (way' : Way) (k : ℕ) → is_delete (Delete x way') ≡ true → (P : Page) → is_safe (Delete x way') k P ≡ is_safe (Delete x First) k P
deletes_safe x First k d P = refl
deletes_safe x Second k d P = not_both d refl
deletes_safe x Third k d P = refl

-- ---- a deletion at its leaf

-- A deletion of x at its leaf, with the siblings that it took so far, each when asked.
pub record AtLeaf (k n : ℕ) (memory : ℕ → Page) (l : ℕ) (t : Tr l) (x : ℕ) (z : Stand) (leaf : ℕ) (fathers : List ℕ) : Type 0 where
  pub forms : Forms k n memory l t
  pub k_least : 1 ≤ k
  pub key : x < word_range
  pub there : has x (entries_of l t) ≡ true
  pub upward : reverse z.path ≡ leaf ∷ fathers
  pub upper : List ℕ
  pub whole : way x l t ≡ reverse z.path ++ upper
  pub rightly : Rightly (Delete x First) k memory z.path
  pub asked : Asked k memory x leaf fathers z.beside

module _ {k n : ℕ} {memory : ℕ → Page} {l : ℕ} {t : Tr l} {x : ℕ} {z : Stand} {leaf : ℕ} {fathers : List ℕ}
    (a : AtLeaf k n memory l t x z leaf fathers) where
  leaf_held : HeldWay (can_spare k memory) x l t leaf fathers
  leaf_held = held_way (Delete x First) k n memory l t z.path leaf fathers a.upper a.forms a.key a.rightly a.upward a.whole

  -- what it holds and wants is there to be had
  pub leaf_needed : Needed k memory l t x leaf fathers z.beside
  leaf_needed = siblings_there k n memory l t x leaf fathers z.beside a.k_least a.forms a.key a.there leaf_held a.asked

  -- it needs nothing: the change is made
  pub leaf_ends : needs k memory x leaf fathers z.beside ≡ nothing → Deletes k n memory l t x leaf fathers z.beside
  leaf_ends e = deletion_leads k n memory l t x leaf fathers z.beside a.k_least a.forms a.key a.there leaf_held e

  -- it holds the pages that the rules would have it hold
  pub leaf_on_course : needs k memory x leaf fathers z.beside ≡ astray → ⊥
  leaf_on_course = leaf_needed.on_course

  -- no sibling is page 0, which is on every way
  sibling_other : (j : ℕ) → j < length z.beside → get_or z.beside j 0 ≢ 0
  sibling_other j h e =
      let facts = way_facts k n memory l t a.forms x a.key in
      let root = member_times 0 (way x l t) (member_from 0 (way x l t) l 0 (omega (arith, facts.pages)) facts.root) in
      let here = member_times 0 z.beside (member_from 0 z.beside j 0 h e) in
      omega (arith, times_append 0 (way x l t) z.beside, distinct_times (way x l t ++ z.beside) leaf_needed.different 0)

  -- it needs a sibling: it stands as a slot that wants it
  pub leaf_goes : (way' : Way) → is_delete (Delete x way') ≡ true → (s : ℕ) → needs k memory x leaf fathers z.beside ≡ sibling s → (lock : Lock)
      → WantsSibling k memory l t (wants_next (with_op (Delete x way') z) s lock)
  leaf_goes way' takes s e lock =
      let course = needs_course k memory x leaf fathers z.beside s e in
      let fewer = needs_length k memory x leaf fathers z.beside s e in
      let size : length z.path ≡ suc (length fathers) = sym (length-reverse z.path) ∙ ap length a.upward in
      let at : (j : ℕ) → get_or (reverse z.path) j 0 ≡ get_or (leaf ∷ fathers) j 0 = λ j. ap (λ (up : List ℕ). get_or up j 0) a.upward in
      record {
        deletes = takes;
        there = a.there;
        upper = a.upper;
        whole = a.whole;
        rightly = rightly_as (Delete x First) (Delete x way') k memory z.path (deletes_safe x way' k takes) a.rightly;
        fewer = omega arith;
        short = λ j h.
            let other = course.not_root j h in
            let least = page_least k memory n l t a.forms (get_or (leaf ∷ fathers) j 0)
            (way_pages k n memory l t a.forms x a.key (leaf ∷ fathers) a.upper (a.whole ∙ ap (λ (up : List ℕ). up ++ a.upper) a.upward)
            (get_or (leaf ∷ fathers) j 0) (member_from (get_or (leaf ∷ fathers) j 0) (leaf ∷ fathers) j 0 (omega arith) refl)) other in
            let most = course.short j h in
            ap (λ (p : ℕ). μ (memory p)) (at j) ∙ omega arith;
        not_root = λ j h e. course.not_root j h (sym (at j) ∙ e);
        neighbours = λ j h. course.neighbours j h ∙ ap (λ (p : ℕ). neighbour x (memory p)) (sym (at (suc j)));
        joining = λ j h.
            let least = page_least k memory n l t a.forms (get_or z.beside j 0)
            (leaf_needed.pages (get_or z.beside j 0) (member_from (get_or z.beside j 0) z.beside j 0 h refl)) (sibling_other j h) in
            let most = course.joining j h in
            omega arith;
        wants_next = course.wants_next ∙ ap (λ (p : ℕ). neighbour x (memory p)) (sym (at (suc (length z.beside))));
      }

  -- the sibling that was wanted is granted
  pub beside_asked : needs k memory x leaf fathers z.beside ≡ sibling z.want → AtLeaf k n memory l t x (want_beside z) leaf fathers
  beside_asked e = record {
    forms = a.forms;
    k_least = a.k_least;
    key = a.key;
    there = a.there;
    upward = a.upward;
    upper = a.upper;
    whole = a.whole;
    rightly = a.rightly;
    asked = asked_more k memory x leaf fathers z.beside z.want a.asked e;
  }

-- a path that is not empty, upward: its leaf and the fathers
leaf_first : (up : List ℕ) → 1 ≤ length up → (leaf : ℕ) × (fathers : List ℕ) × (up ≡ leaf ∷ fathers)
leaf_first [] h = absurd (omega arith)
leaf_first (p ∷ up) h = (p, up, refl)

-- a slot that wants a sibling stands at its leaf, and that sibling is the one it needs
pub beside_leaf : {k n : ℕ} {memory : ℕ → Page} {l : ℕ} {t : Tr l} {x : ℕ} (way' : Way) (z : Stand)
    → Forms k n memory l t → 1 ≤ k → x < word_range → WantsSibling k memory l t (with_op (Delete x way') z)
    → (leaf : ℕ) × (fathers : List ℕ) × AtLeaf k n memory l t x z leaf fathers
    × (needs k memory x leaf fathers z.beside ≡ sibling z.want)
beside_leaf {k} {n} {memory} {l} {t} {x} way' z forms one key b =
    let (leaf, fathers, upward) = leaf_first (reverse z.path) (omega (arith, b.rightly.some, length-reverse z.path)) in
    let size : length z.path ≡ suc (length fathers) = sym (length-reverse z.path) ∙ ap length upward in
    let at : (j : ℕ) → get_or (reverse z.path) j 0 ≡ get_or (leaf ∷ fathers) j 0 = λ j. ap (λ (up : List ℕ). get_or up j 0) upward in
    let need : needs k memory x leaf fathers z.beside ≡ sibling z.want
    = course_needs k memory x leaf fathers z.beside z.want (omega (arith, b.fewer))
    (record {
      short = λ j h. let same = ap (λ (p : ℕ). μ (memory p)) (at j) in omega (arith, b.short j h);
      not_root = λ j h e. b.not_root j h (at j ∙ e);
      neighbours = λ j h. b.neighbours j h ∙ ap (λ (p : ℕ). neighbour x (memory p)) (at (suc j));
      joining = λ j h. omega (arith, b.joining j h);
      wants_next = b.wants_next ∙ ap (λ (p : ℕ). neighbour x (memory p)) (at (suc (length z.beside)));
    }) in (
      leaf,
      fathers,
      record {
        forms = forms;
        k_least = one;
        key = key;
        there = b.there;
        upward = upward;
        upper = b.upper;
        whole = b.whole;
        rightly = rightly_as (Delete x way') (Delete x First) k memory z.path (λ P. sym (deletes_safe x way' k b.deletes P)) b.rightly;
        asked = course_asked k memory x leaf fathers z.beside (λ h. astray≢sibling (sym h ∙ need));
      },
      need,
    )
