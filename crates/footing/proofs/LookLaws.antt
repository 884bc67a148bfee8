-- The pages of a slot, read again one by one: what a page that leads to another tells, a way down link by link, and what a
-- sound slot and sound pages give the functions that read them.
use Rattle.std.specs.List.{list_all}
use Rattle.std.specs.Iterator.{AlwaysYields}
use Rattle.std.specs.Slice.Iter.{windows_rest, windows_size, windows_steps}
use Rattle.std.specs.declared.slice.Windows.{Windows}
use Rattle.std.proofs.lemmas.Iterator.{YieldsList}
use Prim.Native.Nat.{ℕ, suc, zero, ◌+◌, ◌≤◌, ◌<◌}
use mathlib.Core.Bool.{Bool, true, false, not, cond, ◌&&◌, ◌||◌, and-true, and_assoc, or-false}
use mathlib.Core.List.{List, [], ◌∷◌, ◌++◌, reverse, reverse_aux}
use mathlib.Core.Logic.{◌≢◌, ⊎_elim}
use mathlib.Core.Path.{◌≡◌, refl, sym, ap, ap₂, ◌∙◌, subst}
use native.Mathlib.Nat.{not-suc-le-zero, le_of_suc-le-suc}
use native.Mathlib.Omega.{arith}
use borrow.Author.Tests.{eqb-true, eq-eqb, ne_eqb, leb-true, not-true, not-false}
use lib.Dec.{eqb, leb, ltb}
use lib.ListN.{length, get_or, take, drop}
use lib.Seq.{length-take-le}
use Rattle.ground.specs.Limits.{path_holds, search_holds, regrade_holds, second_holds, sibling_holds}
use Rattle.ground.specs.Tests.{all, member}
use Rattle.ground.proofs.Bools.{and_first, and_second, and_both, and_first_fails, and_second_fails, or_first, or_second, or_cases}
use Rattle.ground.proofs.Choice.{cond_ind, cond-true, cond-false}
use Rattle.ground.proofs.Tests.{all_append, all_member, member_append, member_from, member_here, member_there}
use Rattle.page.specs.Words.{Page, is_leaf}
use Rattle.page.specs.Place.{pointer, route}
use Rattle.page.specs.Sound.{sound_by_itself}
use Rattle.pool.specs.Pool.{words_of, page_at}
use Rattle.change.specs.Held.{Held}
use Rattle.change.proofs.HeldLaws.{Known, held_known, held_some, held_front}
use Rattle.slots.specs.declared.Op.{Op}
use Rattle.slots.specs.declared.Op.TheVariants.{Search, Insert, Delete, Next, Regrade}
use Rattle.slots.specs.declared.Way.TheVariants.{First, Second, Third}
use Rattle.slots.specs.declared.Task.{Task}
use Rattle.slots.specs.declared.Task.TheVariants.{Open}
use Rattle.slots.specs.declared.Slot.{Slot}
use Rattle.slots.specs.declared.Lock.TheVariants.{Xi}
use Rattle.slots.specs.Parts.{key_of, held_lock, is_second, is_open, path_of, beside_of, held, Stand, converting, stand_of}
use Rattle.slots.specs.Locks.{same_lock}
use Rattle.slots.specs.Sound.{limits_of, within_limits, slot_sound}
use Rattle.slots.proofs.SoundFacts.{SoundSlot, sound_slot}
use Rattle.footing.specs.Granted.{lock_below, at_its_leaf}
use Rattle.footing.specs.Fitting.{names_below, pages_sound, leads, descends, rightly_kept, rightly_beside, is_none, leftmost, rightly_across, lock_due, holds_due, fitting_new, rightly_converting, fitting}
use Rattle.footing.specs.Standing.{Asks, fits, last_leads}

-- what a branch on a test's opposite tells of the test
pub told_true : {answer test : Bool} → answer ≡ test → answer ≡ true → test ≡ true
told_true e t = sym e ∙ t

pub told_false : {answer test : Bool} → answer ≡ test → answer ≡ false → test ≡ false
told_false e f = sym e ∙ f

-- ---- pages one by one

-- the library's word for what all items pass is the rule's
pub all_listed : {A : Type 0} (p : A → Bool) (xs : List A) → list_all p xs ≡ all p xs
unfolding all
all_listed p [] = refl
all_listed p (x ∷ xs) = ap (λ (b : Bool). p x && b) (all_listed p xs)

-- ---- one page below another

module _ (memory : ℕ → Page) (names : Page → ℕ) (p q : ℕ) where
  -- the test of the levels
  abbrev level_below : Bool
  level_below = eqb (memory p).level ((memory q).level + 1)

  module _ {answer : Bool} (said : answer ≡ level_below) where
    -- where the levels are wrong it is not so
    pub below_astray : not answer ≡ true → false ≡ names_below memory names p q
    below_astray f = sym (and_second_fails (eqb (names (memory p)) q) (told_false said (not-true answer f)))

    -- where they are right the page that is named tells
    pub below_named : not answer ≡ false → {named : ℕ} → named ≡ names (memory p) → eqb named q ≡ names_below memory names p q
    below_named t e =
        ap (λ (r : ℕ). eqb r q) e
        ∙ sym (ap (λ (b : Bool). eqb (names (memory p)) q && b) (told_true said (not-false answer t)) ∙ and-true (eqb (names (memory p)) q))

  pub below_level : names_below memory names p q ≡ true → (memory p).level ≡ (memory q).level + 1
  below_level t = eqb-true (memory p).level ((memory q).level + 1) (and_second (eqb (names (memory p)) q) level_below t)

-- ---- a way, link by link

-- each page is linked to the one behind it
unfoldable pub chain : (ℕ → ℕ → Bool) → List ℕ → Bool
chain link [] = true
chain link (p ∷ []) = true
chain link (p ∷ (q ∷ rest)) = link p q && chain link (q ∷ rest)

-- each page but the last with the one behind it: the windows of two
unfoldable pub links : List ℕ → List (List ℕ)
links [] = []
links (p ∷ []) = []
links (p ∷ (q ∷ rest)) = (p ∷ q ∷ []) ∷ links (q ∷ rest)

windows_give : (path : List ℕ) (s : Windows ℕ) → windows_rest s ≡ path → windows_size s ≡ 2 → AlwaysYields windows_steps (λ w. w.now) s (links path)
unfolding links
windows_give [] s e two = λ x t h. omega (arith, h.1.0, ap length e)
windows_give (p ∷ []) s e two = λ x t h. omega (arith, h.1.0, ap length e)
windows_give (p ∷ (q ∷ rest)) s e two = (
  λ t h. omega (arith, h.1.0, ap length e),
  λ x t h. (h.1.1 ∙ ap₂ (λ (m : ℕ) (ys : List ℕ). take m ys) two e, windows_give (q ∷ rest) t (h.1.2 ∙ ap (drop 1) e) (h.0 ∙ two)),
)

pub links_given : {s : Windows ℕ} (path : List ℕ) → windows_rest s ≡ path → windows_size s ≡ 2 → YieldsList windows_steps (λ w. w.now) s (links path)
links_given {s} path e two = record { runs = windows_give path s e two }

module _ (link : ℕ → ℕ → Bool) where
  pub chain_at : (path : List ℕ) → chain link path ≡ true → (i : ℕ) → suc i < length path → link (get_or path i 0) (get_or path (suc i) 0) ≡ true
  unfolding chain
  chain_at [] t i h = absurd (not-suc-le-zero h)
  chain_at (p ∷ []) t i h = absurd (not-suc-le-zero (le_of_suc-le-suc h))
  chain_at (p ∷ (q ∷ rest)) t zero h = and_first (link p q) (chain link (q ∷ rest)) t
  chain_at (p ∷ (q ∷ rest)) t (suc i) h = chain_at (q ∷ rest) (and_second (link p q) (chain link (q ∷ rest)) t) i (le_of_suc-le-suc h)

  -- it is a way just if all that is beside each other is linked
  pub links_listed : (path : List ℕ) → list_all (λ (e : List ℕ). link (get_or e 0 0) (get_or e 1 0)) (links path) ≡ chain link path
  unfolding links chain
  links_listed [] = refl
  links_listed (p ∷ []) = refl
  links_listed (p ∷ (q ∷ rest)) = ap (λ (b : Bool). link p q && b) (links_listed (q ∷ rest))

-- ---- a way by p0

module _ (memory : ℕ → Page) where
  -- p0 of page p is page q, a level below
  abbrev pub leads_left : ℕ → ℕ → Bool
  leads_left = names_below memory (pointer 0)

  pub leftmost_chain : (way : List ℕ) → leftmost memory way ≡ chain leads_left way
  unfolding leftmost chain
  leftmost_chain [] = refl
  leftmost_chain (p ∷ []) = refl
  leftmost_chain (p ∷ (q ∷ rest)) = ap (λ (b : Bool). leads_left p q && b) (leftmost_chain (q ∷ rest))

  -- each page of it lies a level above the one behind it
  pub leftmost_levels : (way : List ℕ) → leftmost memory way ≡ true → (i : ℕ) → suc i < length way
      → (memory (get_or way i 0)).level ≡ (memory (get_or way (suc i) 0)).level + 1
  leftmost_levels way t i h =
      below_level memory (pointer 0) (get_or way i 0) (get_or way (suc i) 0)
      (chain_at leads_left way (sym (leftmost_chain way) ∙ t) i h)

-- ---- a way down by a key

module _ (memory : ℕ → Page) (x : ℕ) where
  pub descends_chain : (path : List ℕ) → descends memory x path ≡ chain (leads memory x) path
  unfolding descends chain
  descends_chain [] = refl
  descends_chain (p ∷ []) = refl
  descends_chain (p ∷ (q ∷ rest)) = ap (λ (b : Bool). leads memory x p q && b) (descends_chain (q ∷ rest))

  -- each page of it lies a level above the one behind it
  pub descends_levels : (path : List ℕ) → descends memory x path ≡ true → (i : ℕ) → suc i < length path
      → (memory (get_or path i 0)).level ≡ (memory (get_or path (suc i) 0)).level + 1
  descends_levels path t i h =
      below_level memory (route x) (get_or path i 0) (get_or path (suc i) 0)
      (chain_at (leads memory x) path (sym (descends_chain path) ∙ t) i h)

  -- the last page does not depend on those above it
  last_same : (rest above above' : List ℕ) (q want : ℕ)
      → last_leads memory x (reverse_aux rest (q ∷ above)) want ≡ last_leads memory x (reverse_aux rest (q ∷ above')) want
  last_same [] above above' q want = refl
  last_same (r ∷ rest) above above' q want = last_same rest (q ∷ above) (q ∷ above') r want

  -- one page more: the last page leads to it
  pub descends_snoc : (path : List ℕ) (want : ℕ)
      → descends memory x (path ++ want ∷ []) ≡ descends memory x path && last_leads memory x (reverse path) want
  unfolding descends
  descends_snoc [] want = refl
  descends_snoc (p ∷ []) want = and-true (leads memory x p want)
  descends_snoc (p ∷ (q ∷ rest)) want =
      let link : Bool = leads memory x p q in
      let below : Bool = descends memory x (q ∷ rest) in
      ap (λ (b : Bool). link && b) (descends_snoc (q ∷ rest) want)
      ∙ sym (and_assoc link below (last_leads memory x (reverse (q ∷ rest)) want))
      ∙ ap (λ (b : Bool). link && below && b) (last_same rest [] (p ∷ []) q want)

-- what was read of pages that are a path's was read of the path
pub way_read : (memory : ℕ → Page) (x : ℕ) {pages path : List ℕ} {answer : Bool} → answer ≡ descends memory x pages → pages ≡ path → answer ≡ descends memory x path
way_read memory x said e = said ∙ ap (descends memory x) e

pub leaf_read : (memory : ℕ → Page) {pages path : List ℕ} {answer : Bool} → answer ≡ at_its_leaf memory (reverse pages) → pages ≡ path
    → answer ≡ at_its_leaf memory (reverse path)
leaf_read memory said e = said ∙ ap (λ (path : List ℕ). at_its_leaf memory (reverse path)) e

-- ---- pages held

-- two of the pages held
pub held_two : {k n : ℕ} {ws pages : List ℕ} → Held k n ws pages → (p q : ℕ) → member p pages ≡ true → member q pages ≡ true
    → Held k n ws (p ∷ q ∷ [])
unfolding member
held_two {pages = pages} h p q mp mq =
    held_some (p ∷ q ∷ []) h
    (λ r m. ⊎_elim (λ e. subst (λ (s : ℕ). member s pages ≡ true) (sym (eqb-true r p e)) mp)
    (λ e. subst (λ (s : ℕ). member s pages ≡ true) (sym (eqb-true r q (sym (or-false (eqb r q)) ∙ e))) mq)
    (or_cases (eqb r p) (eqb r q || false) m))

-- a page of a way and the one behind it
pub held_link : {k n : ℕ} {ws path : List ℕ} → Held k n ws path → (i : ℕ) → i < length (links path) → (e : List ℕ) → e ≡ get_or (links path) i e
    → (length e ≡ 2) × Held k n ws (get_or e 0 0 ∷ get_or e 1 0 ∷ [])
unfolding links
held_link {k} {n} {ws} {path} h i l e at =
    let two = among path i l e at in
    (two.0, held_two h (get_or e 0 0) (get_or e 1 0) two.1 two.2)
  where
    Among : List ℕ → List ℕ → Type 0
    Among way e = (length e ≡ 2) × (member (get_or e 0 0) way ≡ true) × (member (get_or e 1 0) way ≡ true)

    among : (way : List ℕ) (i : ℕ) → i < length (links way) → (e : List ℕ) → e ≡ get_or (links way) i e → Among way e
    among [] i l e at = absurd (not-suc-le-zero l)
    among (p ∷ []) i l e at = absurd (not-suc-le-zero l)
    among (p ∷ (q ∷ rest)) zero l e at =
        subst (Among (p ∷ (q ∷ rest))) (sym at) (refl, member_here p (q ∷ rest), member_there p q (q ∷ rest) (member_here q rest))
    among (p ∷ (q ∷ rest)) (suc i) l e at =
        let below = among (q ∷ rest) i (le_of_suc-le-suc l) e at in
        (below.0, member_there p (get_or e 0 0) (q ∷ rest) below.1, member_there p (get_or e 1 0) (q ∷ rest) below.2)

module _ {k n : ℕ} {ws : List ℕ} {p q : ℕ} (h : Held k n ws (p ∷ q ∷ [])) where
  -- what is known of the one and of the other
  pub known_first : Known k n ws p
  unfolding member
  known_first = held_known h p (or_first (eqb p q || false) (eq-eqb p p refl))

  pub known_second : Known k n ws q
  unfolding member
  known_second = held_known h q (or_second (eqb q p) (or_first false (eq-eqb q q refl)))

  -- a page a level above another one is no leaf
  pub father_upper : (page_at k ws p).level ≡ (page_at k ws q).level + 1 → is_leaf (page_at k ws p) ≡ false
  father_upper e = ne_eqb (page_at k ws p).level 1 (λ leaf. omega (arith, known_second.facts.lowest))

-- ---- pages sound by themselves

module _ (k n : ℕ) (ws : List ℕ) where
  -- the test of one page
  abbrev pub sound_at : ℕ → Bool
  sound_at p = sound_by_itself k n p (words_of k p ws)

  -- a path, siblings and a wanted page, one after the other
  pages_apart : (path siblings : List ℕ) (want : ℕ)
      → pages_sound k n ws (path ++ siblings ++ want ∷ []) ≡ pages_sound k n ws path && pages_sound k n ws siblings && sound_at want
  unfolding pages_sound all
  pages_apart path siblings want =
      all_append sound_at (path ++ siblings) (want ∷ [])
      ∙ ap₂ ◌&&◌ (all_append sound_at path siblings) (and-true (sound_at want))

  module _ (path siblings : List ℕ) (want : ℕ) where
    abbrev whole_test : Bool
    whole_test = pages_sound k n ws (path ++ siblings ++ want ∷ [])

    pub path_unsound : {answer : Bool} → answer ≡ pages_sound k n ws path → answer ≡ false → whole_test ≡ false
    path_unsound said f =
        pages_apart path siblings want ∙ and_first_fails (sound_at want) (and_first_fails (pages_sound k n ws siblings) (told_false said f))

    pub siblings_unsound : {answer : Bool} → answer ≡ pages_sound k n ws siblings → answer ≡ false → whole_test ≡ false
    siblings_unsound said f =
        pages_apart path siblings want ∙ and_first_fails (sound_at want) (and_second_fails (pages_sound k n ws path) (told_false said f))

    -- the wanted page tells
    pub want_sound : {a b c : Bool} → a ≡ pages_sound k n ws path → a ≡ true → b ≡ pages_sound k n ws siblings → b ≡ true
        → c ≡ sound_at want → c ≡ whole_test
    want_sound p t s u said =
        said ∙ sym (pages_apart path siblings want ∙ ap (λ (r : Bool). r && sound_at want) (and_both (told_true p t) (told_true s u)))

-- ---- a sound slot

-- how many pages it holds
within_table : (op : Op) → ((limits_of (Open op)).on_path ≤ path_holds) × ((limits_of (Open op)).beside < path_holds)
unfolding search_holds regrade_holds second_holds path_holds sibling_holds
within_table (Search x) = (omega arith, omega arith)
within_table (Insert x v First) = (omega arith, omega arith)
within_table (Insert x v Second) = (omega arith, omega arith)
within_table (Insert x v Third) = (omega arith, omega arith)
within_table (Delete x First) = (omega arith, omega arith)
within_table (Delete x Second) = (omega arith, omega arith)
within_table (Delete x Third) = (omega arith, omega arith)
within_table (Next x) = (omega arith, omega arith)
within_table (Regrade x v First) = (omega arith, omega arith)
within_table (Regrade x v Second) = (omega arith, omega arith)
within_table (Regrade x v Third) = (omega arith, omega arith)

limits : (op : Op) (depth beside : ℕ) → within_limits (Open op) depth beside ≡ true → (depth ≤ path_holds) × (beside < path_holds)
limits op depth beside t =
    let table = within_table op in
    let on_path = leb depth (limits_of (Open op)).on_path in
    let few = leb beside (limits_of (Open op)).beside in
    let both : on_path && few ≡ true = and_first (on_path && few) (eqb beside 0 || ltb beside depth) t in
    let d = leb-true depth (limits_of (Open op)).on_path (and_first on_path few both) in
    let b = leb-true beside (limits_of (Open op)).beside (and_second on_path few both) in
    (omega (arith, table.0), omega (arith, table.1))

pub sound_within : (n : ℕ) {op : Op} (slot : Slot) → slot.task ≡ Open op → slot_sound n slot ≡ true → (slot.depth ≤ path_holds) × (slot.breadth < path_holds)
sound_within n {op} slot task sound =
    limits op slot.depth slot.breadth
    (subst (λ (t : Task). within_limits t slot.depth slot.breadth ≡ true) task (sound_slot n slot sound).limits)

-- all that it holds and wants
abbrev pub pages_of : Slot → List ℕ
pages_of slot = path_of slot ++ beside_of slot ++ slot.want ∷ []

-- where its pages stand among them
module _ (slot : Slot) where
  pub path_among : (p : ℕ) → member p (path_of slot) ≡ true → member p (pages_of slot) ≡ true
  path_among p m =
      member_append p (held slot) (slot.want ∷ [])
      ∙ or_first (member p (slot.want ∷ [])) (member_append p (path_of slot) (beside_of slot) ∙ or_first (member p (beside_of slot)) m)

  sibling_among : (p : ℕ) → member p (beside_of slot) ≡ true → member p (pages_of slot) ≡ true
  sibling_among p m =
      member_append p (held slot) (slot.want ∷ [])
      ∙ or_first (member p (slot.want ∷ [])) (member_append p (path_of slot) (beside_of slot) ∙ or_second (member p (path_of slot)) m)

  pub want_among : member slot.want (pages_of slot) ≡ true
  unfolding member
  want_among =
      member_append slot.want (held slot) (slot.want ∷ [])
      ∙ or_second (member slot.want (held slot)) (or_first false (eq-eqb slot.want slot.want refl))

module _ {k n : ℕ} {ws : List ℕ} {op : Op} {slot : Slot} (h : Asks k n ws op slot) where
  facts : SoundSlot n slot
  facts = sound_slot n slot h.sound

  within : (slot.depth ≤ path_holds) × (slot.breadth < path_holds)
  within = sound_within n slot h.task h.sound

  pub asks_deep : slot.depth ≤ path_holds
  asks_deep = within.0

  pub asks_few : slot.breadth < path_holds
  asks_few = within.1

  -- its pages are pages of the pool
  asks_inside : (p : ℕ) → member p (pages_of slot) ≡ true → p < n
  unfolding member
  asks_inside p m =
      let before : Bool = member p (held slot) in
      facts.below (ap is_open h.task) p
      (⊎_elim (λ e. or_second (eqb p slot.want) e) (λ e. or_first before (sym (or-false (eqb p slot.want)) ∙ e))
      (or_cases before (eqb p slot.want || false) (sym (member_append p (held slot) (slot.want ∷ [])) ∙ m)))

  pub asks_path : {pages : List ℕ} → pages ≡ path_of slot → (i : ℕ) → i < length pages → get_or pages i 0 < n
  asks_path {pages} e i l =
      let p : ℕ = get_or pages i 0 in
      asks_inside p (path_among slot p (subst (λ (ps : List ℕ). member p ps ≡ true) e (member_from p pages i 0 l refl)))

  pub asks_siblings : {pages : List ℕ} → pages ≡ beside_of slot → (j : ℕ) → j < length pages → get_or pages j 0 < n
  asks_siblings {pages} e j l =
      let p : ℕ = get_or pages j 0 in
      asks_inside p (sibling_among slot p (subst (λ (ps : List ℕ). member p ps ≡ true) e (member_from p pages j 0 l refl)))

  pub asks_want : slot.want < n
  asks_want = asks_inside slot.want (want_among slot)

  -- sound by themselves, they are held
  pub asks_held : {answer : Bool} → answer ≡ pages_sound k n ws (pages_of slot) → answer ≡ true → Held k n ws (pages_of slot)
  unfolding pages_sound
  asks_held said t =
      record {
        least = h.least;
        width = h.width;
        most = h.most;
        whole = h.whole;
        each = λ p m. record { inside = asks_inside p m; sound = all_member (λ (q : ℕ). sound_by_itself k n q (words_of k q ws)) (pages_of slot) (told_true said t) p m };
      }

  -- and those of its path alone
  pub asks_path_held : {answer : Bool} → answer ≡ pages_sound k n ws (pages_of slot) → answer ≡ true → Held k n ws (path_of slot)
  asks_path_held said t =
      held_front (path_of slot) (beside_of slot) (held_front (held slot) (slot.want ∷ []) (asks_held said t))

-- ---- the kind of lock that is due

-- ξ is due to who goes by the second way, from level 2
pub below_leaf : (op : Op) (P : Page) {level : ℕ} → is_second op ≡ true → level ≡ P.level → eqb level 2 ≡ true → lock_below op P ≡ Xi
below_leaf op P second read two = cond-true Xi (held_lock op) (and_both second (ap (λ (l : ℕ). eqb l 2) (sym read) ∙ two))

-- from another level, and to everybody else, the kind under which the operation holds
pub below_higher : (op : Op) (P : Page) {level : ℕ} → level ≡ P.level → eqb level 2 ≡ false → lock_below op P ≡ held_lock op
below_higher op P read other = cond-false Xi (held_lock op) (and_second_fails (is_second op) (ap (λ (l : ℕ). eqb l 2) (sym read) ∙ other))

-- to who does not go by the second way it is the kind under which the operation holds
pub below_first : (op : Op) (P : Page) → is_second op ≡ false → lock_below op P ≡ held_lock op
below_first op P f = cond-false Xi (held_lock op) (and_first_fails (eqb P.level 2) f)

-- who does not go by the second way is due that kind everywhere
pub first_due : (op : Op) (memory : ℕ → Page) (up : List ℕ) → is_second op ≡ false → lock_due op memory up ≡ held_lock op
first_due op memory [] f = refl
first_due op memory (p ∷ up) f = below_first op (memory p) f

-- ---- coming down

-- some sibling is held
some_length : (siblings : List ℕ) → length siblings ≢ 0 → is_none siblings ≡ false
some_length [] ne = absurd (ne refl)
some_length (s ∷ siblings) ne = refl

module _ (memory : ℕ → Page) (x : ℕ) (slot : Slot) where
  abbrev comes_rightly : Bool
  comes_rightly = last_leads memory x (reverse (path_of slot)) slot.want && is_none (beside_of slot)

  -- a sibling is held
  pub comes_beside : slot.breadth ≢ 0 → slot.breadth ≤ length slot.beside → comes_rightly ≡ false
  unfolding beside_of
  comes_beside ne long =
      and_second_fails (last_leads memory x (reverse (path_of slot)) slot.want)
      (some_length (beside_of slot) (λ e. ne (sym (length-take-le slot.breadth slot.beside long) ∙ e)))

  module _ (none : slot.breadth ≡ 0) where
    alone : comes_rightly ≡ last_leads memory x (reverse (path_of slot)) slot.want
    unfolding beside_of
    alone =
        let last : Bool = last_leads memory x (reverse (path_of slot)) slot.want in
        ap (λ (j : ℕ). last && is_none (take j slot.beside)) none ∙ and-true last

    -- nothing is held
    pub comes_first : path_of slot ≡ [] → comes_rightly ≡ true
    comes_first top = alone ∙ ap (λ (path : List ℕ). last_leads memory x (reverse path) slot.want) top

    -- the last page of the path tells
    pub comes_last : {p : ℕ} {up : List ℕ} → reverse (path_of slot) ≡ p ∷ up → comes_rightly ≡ leads memory x p slot.want
    comes_last e = alone ∙ ap (λ (up : List ℕ). last_leads memory x up slot.want) e

-- ---- going down, or at the leaf with one more page to want

module _ (op : Op) (k : ℕ) (memory : ℕ → Page) (slot : Slot) where
  abbrev z : Stand
  z = stand_of op slot

  abbrev lock_test : Bool
  lock_test = same_lock slot.lock (lock_due op memory (reverse (path_of slot)))

  abbrev way_test : ℕ → Bool
  way_test x = descends memory x (path_of slot)

  abbrev beside_test : Bool
  beside_test = rightly_beside k memory z (reverse (path_of slot))

  abbrev across_test : Bool
  across_test = rightly_across k memory z (path_of slot)

  abbrev last_test : ℕ → Bool
  last_test x = last_leads memory x (reverse (path_of slot)) slot.want

  -- the two that the leaf chooses from
  abbrev at_leaf_test : Bool
  at_leaf_test = way_test (key_of op) && (beside_test || across_test)

  abbrev coming_test : Bool
  coming_test = descends memory (key_of op) (path_of slot ++ slot.want ∷ []) && is_none (beside_of slot)

  abbrev leaf_test : Bool
  leaf_test = cond (at_its_leaf memory (reverse (path_of slot))) at_leaf_test coming_test

  -- one test that fails
  pub new_not_due : {answer : Bool} → answer ≡ lock_test → answer ≡ false → fitting_new k memory z ≡ false
  unfolding fitting_new
  new_not_due said f = and_first_fails leaf_test (and_first_fails (holds_due z) (told_false said f))

  pub new_not_held : {answer : Bool} → answer ≡ holds_due z → answer ≡ false → fitting_new k memory z ≡ false
  unfolding fitting_new
  new_not_held said f = and_first_fails leaf_test (and_second_fails lock_test (told_false said f))

  module _ {x : ℕ} {down : Bool} (key : x ≡ key_of op) (way : down ≡ way_test x) where
    pub new_no_way : down ≡ false → fitting_new k memory z ≡ false
    unfolding fitting_new
    new_no_way f =
        let none : way_test (key_of op) ≡ false = sym (ap way_test key) ∙ told_false way f in
        and_second_fails (lock_test && holds_due z)
        (cond_ind (λ (b : Bool). b ≡ false) (at_its_leaf memory (reverse (path_of slot))) (λ leaf. and_first_fails (beside_test || across_test) none)
        (λ upper. and_first_fails (is_none (beside_of slot))
        (descends_snoc memory (key_of op) (path_of slot) slot.want ∙ and_first_fails (last_test (key_of op)) none)))

    -- the way down is one for the operation's key
    pub way_down : down ≡ true → way_test (key_of op) ≡ true
    way_down t = sym (ap way_test key) ∙ told_true way t

    module _ {due kinds : Bool} (lock : due ≡ lock_test) (l : due ≡ true) (held : kinds ≡ holds_due z) (m : kinds ≡ true)
        (d : down ≡ true) {leaf : Bool} (at : leaf ≡ at_its_leaf memory (reverse (path_of slot))) where
      whichever : fitting_new k memory z ≡ leaf_test
      unfolding fitting_new
      whichever = ap (λ (t : Bool). t && leaf_test) (and_both (told_true lock l) (told_true held m))

      -- where they hold, it is the pages beside the path that count at the leaf: a deletion's siblings, or a second way
      at_the_leaf : leaf ≡ true → fitting_new k memory z ≡ beside_test || across_test
      at_the_leaf there =
          whichever ∙ cond-true at_leaf_test coming_test (sym at ∙ there) ∙ ap (λ (t : Bool). t && (beside_test || across_test)) (way_down d)

      module _ {beside : Bool} (sibling : beside ≡ beside_test) where
        pub new_beside : leaf ≡ true → beside ≡ true → true ≡ fitting_new k memory z
        new_beside there t = sym (at_the_leaf there ∙ or_first across_test (sym sibling ∙ t))

        pub new_across : {answer : Bool} → leaf ≡ true → beside ≡ false → answer ≡ across_test → answer ≡ fitting_new k memory z
        new_across there f said = said ∙ sym (at_the_leaf there ∙ ap (λ (t : Bool). t || across_test) (sym sibling ∙ f))

      -- and the last page of the path above it
      pub new_coming : {answer : Bool} {y : ℕ} → leaf ≡ false → y ≡ key_of op → answer ≡ last_test y && is_none (beside_of slot) → answer ≡ fitting_new k memory z
      new_coming above key' said =
          said
          ∙ ap (λ (u : ℕ). last_test u && is_none (beside_of slot)) key'
          ∙ sym
          (whichever
          ∙ cond-false at_leaf_test coming_test (sym at ∙ above)
          ∙ ap (λ (t : Bool). t && is_none (beside_of slot))
          (descends_snoc memory (key_of op) (path_of slot) slot.want ∙ ap (λ (t : Bool). t && last_test (key_of op)) (way_down d)))

-- ---- all of it together

module _ (op : Op) (k n : ℕ) (ws : List ℕ) (slot : Slot) where
  abbrev stands : Stand
  stands = stand_of op slot

  abbrev kept_test : Bool
  kept_test = rightly_kept op k (page_at k ws) (path_of slot) slot.want

  abbrev converts_test : Bool
  converts_test = rightly_converting k (page_at k ws) stands (reverse (path_of slot))

  abbrev new_test : Bool
  new_test = fitting_new k (page_at k ws) stands

  -- one test that fails
  pub fits_unsound : {answer : Bool} → answer ≡ pages_sound k n ws (pages_of slot) → answer ≡ false → fits k n ws stands ≡ false
  unfolding fits
  fits_unsound said f = and_first_fails (fitting k (page_at k ws) stands) (told_false said f)

  pub fits_not_kept : {answer : Bool} → answer ≡ kept_test → answer ≡ false → fits k n ws stands ≡ false
  unfolding fits fitting
  fits_not_kept said f =
      and_second_fails (pages_sound k n ws (pages_of slot)) (and_first_fails (cond (converting stands) converts_test new_test) (told_false said f))

  module _ {sound kept : Bool} (pages : sound ≡ pages_sound k n ws (pages_of slot)) (p : sound ≡ true) (rightly : kept ≡ kept_test)
      (q : kept ≡ true) {converts : Bool} (wants : converts ≡ converting stands) where
    whole : fits k n ws stands ≡ cond (converting stands) converts_test new_test
    unfolding fits fitting
    whole =
        let rest : Bool = cond (converting stands) converts_test new_test in
        ap (λ (t : Bool). t && (kept_test && rest)) (told_true pages p) ∙ ap (λ (t : Bool). t && rest) (told_true rightly q)

    -- where they hold, it is the rule for who converts that counts, or the one for who wants a new page
    pub fits_converting : {answer : Bool} → converts ≡ true → answer ≡ converts_test → answer ≡ fits k n ws stands
    fits_converting t said = said ∙ sym (whole ∙ cond-true converts_test new_test (sym wants ∙ t))

    pub fits_new : {answer : Bool} → converts ≡ false → answer ≡ new_test → answer ≡ fits k n ws stands
    fits_new f said = said ∙ sym (whole ∙ cond-false converts_test new_test (sym wants ∙ f))
