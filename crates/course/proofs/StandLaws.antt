-- Where an operation stands once its want is granted: what the test of its pages tells of those that it then holds.
use Prim.Native.Nat.{ℕ, zero, suc, ◌+◌, ◌-◌, ◌≤◌, ◌<◌, zero-le}
use mathlib.Core.Bool.{Bool, true, false, cond, not, ◌&&◌, ◌||◌, false≢true}
use mathlib.Core.List.{List, [], ◌∷◌, ◌++◌, reverse, append-nil, append_assoc}
use mathlib.Core.Logic.{◌⊎◌, inl, inr, ⊎_elim, ◌≢◌}
use mathlib.Core.Path.{◌≡◌, refl, sym, ap, ◌∙◌, subst}
use native.Mathlib.Nat.{le_of_suc-le-suc, not-suc-le-zero}
use native.Mathlib.Numerals.{add-one}
use native.Mathlib.Omega.{arith}
use borrow.Author.Tests.{eqb-true, ne_eqb, ltb-true}
use lib.Dec.{eqb, ltb}
use lib.ListN.{length, get_or, take, length-append, length-take, length-reverse}
use lib.Seq.{take-length}
use Rattle.ground.specs.Limits.{path_holds}
use Rattle.ground.specs.Tests.{all, member, distinct}
use Rattle.ground.proofs.Bools.{not_both, not_of_true, not_of_false, and_first, and_second, and_both, or_cases}
use Rattle.ground.proofs.Choice.{cond_ind, cond-true, cond-false}
use Rattle.ground.proofs.Limits.{path_is_way}
use Rattle.ground.proofs.Tests.{member_from, distinct_back, distinct_snoc}
use Rattle.page.specs.Words.{Page, μ, is_leaf}
use Rattle.page.specs.Place.{place, has, at_or_above}
use Rattle.page.specs.Short.{has_right, neighbour}
use Rattle.page.proofs.SoundPage.{SoundPage, sound_pointer}
use Rattle.page.proofs.PlaceLaws.{place_most}
use Rattle.pool.specs.Pool.{page_at}
use Rattle.change.specs.Deletion.{Need, satisfied, needs}
use Rattle.change.specs.Held.{Held, upward}
use Rattle.change.proofs.HeldLaws.{Known, held_known, held_front, held_back, held_upper, upward_reverse, upward_father}
use Rattle.slots.specs.declared.Op.{Op}
use Rattle.slots.specs.declared.Op.TheVariants.{Search, Insert, Delete, Next, Regrade}
use Rattle.slots.specs.declared.Slot.{Slot}
use Rattle.slots.specs.declared.Under.{Under}
use Rattle.slots.specs.Locks.{same_lock}
use Rattle.slots.specs.Parts.{key_of, is_delete, is_next, is_second, is_open, path_of, beside_of, held, locks_of, under, Stand, holding, on_pages, want_beside, want_converted, converting, stand_of, slot_of}
use Rattle.slots.proofs.SoundFacts.{sound_slot}
use Rattle.slots.proofs.LockLaws.{length_xi}
use Rattle.slots.proofs.Keeping.{Paired, stand_new}
use Rattle.footing.specs.Granted.{is_safe, kept, kept_locks, answered_at_once, is_nothing, is_none, needs_no_more, at_its_leaf}
use Rattle.footing.specs.Fitting.{descends, pages_sound, rightly_kept, same_levels, is_sibling, rightly_beside, leftmost, turns_right, rightly_across, lock_due, holds_due, fitting_new, rightly_converting, fitting}
use Rattle.footing.specs.Standing.{Asks, fits, stood, Standing, SlotStanding}
use Rattle.footing.proofs.LookLaws.{descends_levels, leftmost_levels, pages_of, asks_held}
use Rattle.footing.proofs.KeepLaws.{second_safe}
use Rattle.footing.proofs.OnTurn.{Converts, converts_facts}

-- what holds of both branches of two choices by one test holds of the choices
pub cond_both : {A B : Type 0} (P : A → B → Type 0) (b : Bool) {x y : A} {u v : B} → (b ≡ true → P x u) → (b ≡ false → P y v)
    → P (cond b x y) (cond b u v)
cond_both P true f g = f refl
cond_both P false f g = g refl

-- ---- a way down

-- each page of a path lies a level above the next one
abbrev Falls : (ℕ → Page) → List ℕ → Type 0
Falls memory path = (i : ℕ) → suc i < length path → (memory (get_or path i 0)).level ≡ (memory (get_or path (suc i) 0)).level + 1

-- the top page lies a level higher for each step down
falls_steps : (memory : ℕ → Page) (path : List ℕ) → Falls memory path → (i : ℕ) → i < length path
    → (memory (get_or path 0 0)).level ≡ (memory (get_or path i 0)).level + i
falls_steps memory path falls zero h = omega arith
falls_steps memory path falls (suc i) h =
    let above = falls_steps memory path falls i (omega arith) in
    let step = falls i h in
    omega arith

-- ---- pages held

held_at : {k n : ℕ} {ws pages : List ℕ} → Held k n ws pages → (i : ℕ) → i < length pages → Known k n ws (get_or pages i 0)
held_at {pages = pages} held i h = held_known held (get_or pages i 0) (member_from (get_or pages i 0) pages i 0 h refl)

-- "level 1 to 10": a way down has no more pages than that
way_short : {k n : ℕ} {ws path : List ℕ} → Held k n ws path → Falls (page_at k ws) path → length path ≤ path_holds
way_short {path = []} held falls = zero-le
way_short {k} {ws = ws} {path = top ∷ below} held falls =
    let low = (held_at held (length below) (omega arith)).facts.lowest in
    let high = (held_at held 0 (omega arith)).facts.highest in
    let steps = falls_steps (page_at k ws) (top ∷ below) falls (length below) (omega arith) in
    omega (arith, path_is_way)

-- ---- the top of a path

-- it is page 0 or safe
abbrev pub Topped : Op → ℕ → (ℕ → Page) → List ℕ → Type 0
Topped op k memory path = (get_or path 0 0 ≡ 0) ⊎ (is_safe op k (memory (get_or path 0 0)) ≡ true)

kept_top : (op : Op) (k : ℕ) (memory : ℕ → Page) (path : List ℕ) (want : ℕ) → 1 ≤ length path
    → rightly_kept op k memory path want ≡ true → Topped op k memory path
kept_top op k memory [] want some t = absurd (not-suc-le-zero some)
kept_top op k memory (top ∷ below) want some t =
    let safe = is_safe op k (memory top) in
    ⊎_elim (λ e. inl (eqb-true top 0 e)) (λ s. inr s)
    (or_cases (eqb top 0) safe (and_first (eqb top 0 || safe) (all (λ (p : ℕ). not (is_safe op k (memory p))) below) t))

-- with the want behind it; nothing is held before page 0 is granted
longer_top : (op : Op) (k : ℕ) (memory : ℕ → Page) (path : List ℕ) (want : ℕ) → rightly_kept op k memory path want ≡ true
    → Topped op k memory (path ++ want ∷ [])
longer_top op k memory [] want t = inl (eqb-true want 0 t)
longer_top op k memory (top ∷ below) want t = kept_top op k memory (top ∷ below) want (omega arith) t

-- who goes by the second way holds one page: no page below the top is unsafe for it
kept_alone : (op : Op) (k : ℕ) (memory : ℕ → Page) (path : List ℕ) (want : ℕ) → 1 ≤ length path
    → rightly_kept op k memory path want ≡ true → is_second op ≡ true → length path ≡ 1
unfolding all
kept_alone op k memory [] want some t second = absurd (not-suc-le-zero some)
kept_alone op k memory (top ∷ []) want some t second = refl
kept_alone op k memory (top ∷ (p ∷ below)) want some t second =
    let safe = eqb top 0 || is_safe op k (memory top) in
    let rest = all (λ (q : ℕ). not (is_safe op k (memory q))) below in
    let unsafe = not (is_safe op k (memory p)) in
    not_both (and_first unsafe rest (and_second safe (unsafe && rest) t)) (not_of_true (second_safe op k (memory p) second))

-- a page that is not in a list, behind it
distinct_last : (xs : List ℕ) (a : ℕ) → distinct (a ∷ xs) ≡ true → distinct (xs ++ a ∷ []) ≡ true
unfolding distinct
distinct_last xs a t =
    distinct_snoc xs a ∙ and_both (and_second (not (member a xs)) (distinct xs) t) (and_first (not (member a xs)) (distinct xs) t)

-- ---- coming down

-- the operation has come down to the wanted page
abbrev come_down : ℕ → (ℕ → Page) → Stand → Stand
come_down k memory z = on_pages z (kept k memory z) (kept_locks k memory z) [] []

-- a path without siblings, whatever its kinds of lock
stands_alone : (z : Stand) {k n : ℕ} {ws path : List ℕ} {locks : List Under} → 1 ≤ length path → Held k n ws path → Falls (page_at k ws) path
    → distinct path ≡ true → Topped z.op k (page_at k ws) path → (is_second z.op ≡ true → length path ≡ 1)
    → Standing k n ws (on_pages z path locks [] [])
stands_alone z {k} {n} {ws} {path} some held falls different top alone =
    record {
      some = some;
      deep = way_short held falls;
      few = zero-le;
      held = subst (Held k n ws) (sym (append-nil path)) held;
      descends = falls;
      different = subst (λ (ps : List ℕ). distinct ps ≡ true) (sym (append-nil path)) different;
      top = top;
      alone = alone;
      levels = λ _ i j h. absurd (not-suc-le-zero h);
      others = λ _ j h. absurd (not-suc-le-zero h);
    }

-- the want at the end of the path, or alone
stands_below : {k n : ℕ} {ws : List ℕ} (z : Stand) → Held k n ws (z.path ++ z.want ∷ [])
    → distinct (z.want ∷ z.path) ≡ true → Falls (page_at k ws) (z.path ++ z.want ∷ []) → rightly_kept z.op k (page_at k ws) z.path z.want ≡ true
    → Standing k n ws (come_down k (page_at k ws) z)
stands_below {k} {n} {ws} z held different falls right =
    let last = distinct_last z.path z.want different in
    cond_both (λ (now : List ℕ) (locks : List Under). Standing k n ws (on_pages z now locks [] [])) (is_safe z.op k (page_at k ws z.want))
    (λ safe. stands_alone z (omega arith) (held_back z.path (z.want ∷ []) held) (λ i h. absurd (not-suc-le-zero (le_of_suc-le-suc h)))
    (distinct_back z.path (z.want ∷ []) last) (inr safe) (λ _. refl))
    (λ unsafe. stands_alone z (omega (arith, length-append z.path (z.want ∷ []))) held falls last (longer_top z.op k (page_at k ws) z.path z.want right)
    (λ second. not_both (second_safe z.op k (page_at k ws z.want) second) unsafe))

-- ---- at its leaf

-- a path upward, by index
upward_at : (i j m : ℕ) (path : List ℕ) → m + j + 1 ≡ i → get_or (upward i path) j 0 ≡ get_or path m 0
unfolding upward
upward_at zero j m path e = absurd (omega arith)
upward_at (suc i) zero m path e = let same : i ≡ m = omega arith in ap (λ (l : ℕ). get_or path l 0) same
upward_at (suc i) (suc j) m path e = upward_at i j m path (omega arith)

length_upward : (i : ℕ) (path : List ℕ) → length (upward i path) ≡ i
unfolding upward
length_upward zero path = refl
length_upward (suc i) path = ap suc (length_upward i path)

reverse_upward : (path : List ℕ) → reverse path ≡ upward (length path) path
reverse_upward path = sym (upward_reverse (length path) path (omega arith) ∙ ap reverse (take-length path))

-- siblings are no more than the pages they stand beside, and each has the level of its page
levels_few : (memory : ℕ → Page) (up siblings : List ℕ) → same_levels memory up siblings ≡ true → length siblings ≤ length up
unfolding same_levels
levels_few memory up [] t = zero-le
levels_few memory [] (s ∷ siblings) t = absurd (false≢true t)
levels_few memory (p ∷ up) (s ∷ siblings) t =
    let rest = levels_few memory up siblings (and_second (eqb (memory p).level (memory s).level) (same_levels memory up siblings) t) in
    omega arith

levels_at : (memory : ℕ → Page) (up siblings : List ℕ) → same_levels memory up siblings ≡ true → (j : ℕ) → j < length siblings
    → (memory (get_or up j 0)).level ≡ (memory (get_or siblings j 0)).level
unfolding same_levels
levels_at memory up [] t j h = absurd (not-suc-le-zero h)
levels_at memory [] (s ∷ siblings) t j h = absurd (false≢true t)
levels_at memory (p ∷ up) (s ∷ siblings) t zero h =
    eqb-true (memory p).level (memory s).level (and_first (eqb (memory p).level (memory s).level) (same_levels memory up siblings) t)
levels_at memory (p ∷ up) (s ∷ siblings) t (suc j) h =
    levels_at memory up siblings (and_second (eqb (memory p).level (memory s).level) (same_levels memory up siblings) t) j (le_of_suc-le-suc h)

-- the neighbour that a sound page above the leaves names is not page 0
neighbour_other : {k n p : ℕ} {P : Page} (x : ℕ) → SoundPage k n p P → is_leaf P ≡ false → 1 ≤ μ P → neighbour x P ≢ 0
unfolding neighbour
neighbour_other {P = P} x sound upper keyed =
    let most = place_most x P.entries in
    cond_ind (λ (q : ℕ). q ≢ 0) (has_right x P)
    (λ right. let l = ltb-true (place x P.entries) (μ P) right in
    let one = (sound_pointer sound upper (suc (place x P.entries)) l).0 in λ z. omega arith)
    (λ none. let one = (sound_pointer sound upper (place x P.entries - 1) (omega arith)).0 in λ z. omega arith)

-- nothing more is needed, or the pages are astray: no page is wanted
satisfied_wants : (siblings : List ℕ) (want : ℕ) → is_sibling (satisfied siblings) want ≡ false
satisfied_wants [] want = refl
satisfied_wants (s ∷ siblings) want = refl

-- none of these is page 0
abbrev Others : List ℕ → Type 0
Others pages = (j : ℕ) → j < length pages → get_or pages j 0 ≢ 0

others_more : (s : ℕ) (pages : List ℕ) → s ≢ 0 → Others pages → Others (s ∷ pages)
others_more s pages first rest zero h = first
others_more s pages first rest (suc j) h = rest j (le_of_suc-le-suc h)

-- the siblings that a deletion holds, and the one it wants, are neighbours that its fathers name
needed_others : (k : ℕ) (memory : ℕ → Page) (x p : ℕ) (fathers siblings : List ℕ) (want : ℕ)
    → ((i : ℕ) → i < length fathers → neighbour x (memory (get_or fathers i 0)) ≢ 0)
    → is_sibling (needs k memory x p fathers siblings) want ≡ true → Others (siblings ++ want ∷ [])
unfolding needs
needed_others k memory x p [] siblings want other t =
    cond_ind (λ (need : Need). is_sibling need want ≡ true → Others (siblings ++ want ∷ [])) (eqb p 0 || ltb k (μ (memory p)))
    (λ spare. λ e. not_both e (satisfied_wants siblings want))
    (λ short. λ e. absurd (false≢true e))
    t
needed_others k memory x p (father ∷ up) [] want other t =
    cond_ind (λ (need : Need). is_sibling need want ≡ true → Others (want ∷ [])) (eqb p 0 || ltb k (μ (memory p)))
    (λ spare. λ e. absurd (false≢true e))
    (λ short. λ e. others_more want [] (subst (λ (q : ℕ). q ≢ 0) (eqb-true (neighbour x (memory father)) want e) (other 0 (omega arith)))
    (λ j h. absurd (not-suc-le-zero h)))
    t
needed_others k memory x p (father ∷ up) (s ∷ siblings) want other t =
    let beside = neighbour x (memory father) in
    let Wanted : Need → Type 0 = λ (need : Need). is_sibling need want ≡ true → Others (s ∷ (siblings ++ want ∷ [])) in
    cond_ind Wanted (eqb p 0 || ltb k (μ (memory p)))
    (λ spare. λ e. absurd (false≢true e))
    (λ short. cond_ind Wanted (eqb s beside)
    (λ same. cond_ind Wanted (ltb k (μ (memory s)))
    (λ shares. λ e. not_both e (satisfied_wants siblings want))
    (λ joins. λ e. others_more s (siblings ++ want ∷ []) (subst (λ (q : ℕ). q ≢ 0) (sym (eqb-true s beside same)) (other 0 (omega arith)))
    (needed_others k memory x father up siblings want (λ i h. other (suc i) (omega arith)) e)))
    (λ strange. λ e. absurd (false≢true e)))
    t

-- and so are those of a deletion that needs no more
satisfied_others : (siblings : List ℕ) → is_nothing (satisfied siblings) ≡ true → Others siblings
satisfied_others [] t j h = absurd (not-suc-le-zero h)
satisfied_others (s ∷ siblings) t j h = absurd (false≢true t)

all_others : (k : ℕ) (memory : ℕ → Page) (x p : ℕ) (fathers siblings : List ℕ)
    → ((i : ℕ) → i < length fathers → neighbour x (memory (get_or fathers i 0)) ≢ 0)
    → is_nothing (needs k memory x p fathers siblings) ≡ true → Others siblings
unfolding needs
all_others k memory x p [] siblings other t =
    cond_ind (λ (need : Need). is_nothing need ≡ true → Others siblings) (eqb p 0 || ltb k (μ (memory p)))
    (λ spare. λ e. satisfied_others siblings e)
    (λ short. λ e. absurd (false≢true e))
    t
all_others k memory x p (father ∷ up) [] other t = λ j h. absurd (not-suc-le-zero h)
all_others k memory x p (father ∷ up) (s ∷ siblings) other t =
    let beside = neighbour x (memory father) in
    let All : Need → Type 0 = λ (need : Need). is_nothing need ≡ true → Others (s ∷ siblings) in
    cond_ind All (eqb p 0 || ltb k (μ (memory p)))
    (λ spare. λ e. absurd (false≢true e))
    (λ short. cond_ind All (eqb s beside)
    (λ same.
    let first : s ≢ 0 = subst (λ (q : ℕ). q ≢ 0) (sym (eqb-true s beside same)) (other 0 (omega arith)) in
    cond_ind All (ltb k (μ (memory s)))
    (λ shares. λ e. others_more s siblings first (satisfied_others siblings e))
    (λ joins. λ e. others_more s siblings first (all_others k memory x father up siblings (λ i h. other (suc i) (omega arith)) e)))
    (λ strange. λ e. absurd (false≢true e)))
    t

-- no other operation has any
none_others : (siblings : List ℕ) → is_none siblings ≡ true → Others siblings
none_others [] t j h = absurd (not-suc-le-zero h)
none_others (s ∷ siblings) t j h = absurd (false≢true t)

no_more_others : (op : Op) (k : ℕ) (memory : ℕ → Page) (leaf : ℕ) (fathers siblings : List ℕ)
    → ((i : ℕ) → i < length fathers → neighbour (key_of op) (memory (get_or fathers i 0)) ≢ 0)
    → needs_no_more op k memory siblings leaf fathers ≡ true → Others siblings
no_more_others (Search x) k memory leaf fathers siblings other t = none_others siblings t
no_more_others (Insert x v way) k memory leaf fathers siblings other t = none_others siblings t
no_more_others (Delete x way) k memory leaf fathers siblings other t = all_others k memory x leaf fathers siblings other t
no_more_others (Next x) k memory leaf fathers siblings other t = none_others siblings t
no_more_others (Regrade x v way) k memory leaf fathers siblings other t = none_others siblings t

-- what a deletion at its leaf tells, by the leaf and its fathers
beside_needs : (k : ℕ) (memory : ℕ → Page) (z : Stand) (leaf : ℕ) (fathers : List ℕ) → rightly_beside k memory z (leaf ∷ fathers) ≡ true
    → is_sibling (needs k memory (key_of z.op) leaf fathers z.beside) z.want ≡ true
beside_needs k memory z leaf fathers t =
    let a = is_delete z.op && has (key_of z.op) (memory leaf).entries in
    let b = is_sibling (needs k memory (key_of z.op) leaf fathers z.beside) z.want in
    and_second a b (and_first (a && b) (same_levels memory (leaf ∷ fathers) (z.beside ++ z.want ∷ [])) t)

beside_levels : (k : ℕ) (memory : ℕ → Page) (z : Stand) (up : List ℕ) → rightly_beside k memory z up ≡ true
    → same_levels memory up (z.beside ++ z.want ∷ []) ≡ true
beside_levels k memory z [] t = absurd (false≢true t)
beside_levels k memory z (leaf ∷ fathers) t =
    let a = is_delete z.op && has (key_of z.op) (memory leaf).entries in
    let b = is_sibling (needs k memory (key_of z.op) leaf fathers z.beside) z.want in
    and_second (a && b) (same_levels memory (leaf ∷ fathers) (z.beside ++ z.want ∷ [])) t

-- a path whose last page is a leaf has a page
leaf_some : (memory : ℕ → Page) (path : List ℕ) → at_its_leaf memory (reverse path) ≡ true → 1 ≤ length path
leaf_some memory [] t = absurd (false≢true t)
leaf_some memory (p ∷ path) t = omega arith

-- the want behind the pages beside a path
stands_with : {k n : ℕ} {ws : List ℕ} (z : Stand) → 1 ≤ length z.path → Falls (page_at k ws) z.path
    → Held k n ws (holding z ++ z.want ∷ [])
    → distinct (z.want ∷ holding z) ≡ true
    → rightly_kept z.op k (page_at k ws) z.path z.want ≡ true
    → length (z.beside ++ z.want ∷ []) ≤ length z.path
    → (is_next z.op ≡ false → (i j : ℕ) → j < length (z.beside ++ z.want ∷ []) → i + j + 1 ≡ length z.path
    → (page_at k ws (get_or z.path i 0)).level ≡ (page_at k ws (get_or (z.beside ++ z.want ∷ []) j 0)).level)
    → (is_next z.op ≡ false → Others (z.beside ++ z.want ∷ []))
    → Standing k n ws (want_beside z)
stands_with {k} {n} {ws} z some falls held different above few levels others =
    let together = append_assoc z.path z.beside (z.want ∷ []) in
    let pages : Held k n ws (holding (want_beside z)) = subst (Held k n ws) together held in
    record {
      some = some;
      deep = way_short (held_front z.path (z.beside ++ z.want ∷ []) pages) falls;
      few = few;
      held = pages;
      descends = falls;
      different = subst (λ (ps : List ℕ). distinct ps ≡ true) together (distinct_last (holding z) z.want different);
      top = kept_top z.op k (page_at k ws) z.path z.want some above;
      alone = kept_alone z.op k (page_at k ws) z.path z.want some above;
      levels = levels;
      others = others;
    }

-- a father's neighbour is not page 0
father_names : {k n : ℕ} {ws path : List ℕ} (x : ℕ) → Held k n ws path → Falls (page_at k ws) path
    → (i : ℕ) → suc i < length path → neighbour x (page_at k ws (get_or path i 0)) ≢ 0
father_names {k} {ws = ws} {path = path} x held falls i h =
    let father = held_at held i (omega arith) in
    let low = (held_at held (suc i) h).facts.lowest in
    let above = falls i h in
    let upper = ne_eqb (page_at k ws (get_or path i 0)).level 1 (λ one. omega arith) in
    neighbour_other x father.facts upper (held_upper held.least father upper)

-- those above the leaf of a path, upward, name no page 0
fathers_name : {k n : ℕ} {ws path : List ℕ} (x : ℕ) → Held k n ws path → Falls (page_at k ws) path
    → (i : ℕ) → i < length (upward (length path - 1) path) → neighbour x (page_at k ws (get_or (upward (length path - 1) path) i 0)) ≢ 0
fathers_name {k} {ws = ws} {path = path} x held falls i h =
    let d = length path - 1 in
    let long = length_upward d path in
    subst (λ (p : ℕ). neighbour x (page_at k ws p) ≢ 0) (sym (upward_at d i (d - 1 - i) path (omega arith)))
    (father_names x held falls (d - 1 - i) (omega arith))

-- a path upward: its last page, and those above it
up_from : (path : List ℕ) → 1 ≤ length path → reverse path ≡ get_or path (length path - 1) 0 ∷ upward (length path - 1) path
up_from path some = reverse_upward path ∙ upward_father (length path) path some

-- siblings that have the levels of the pages beside them, by index from the top
level_beside : (memory : ℕ → Page) (path beside : List ℕ) → same_levels memory (reverse path) beside ≡ true
    → (i j : ℕ) → j < length beside → i + j + 1 ≡ length path → (memory (get_or path i 0)).level ≡ (memory (get_or beside j 0)).level
level_beside memory path beside levels i j h e =
    subst (λ (p : ℕ). (memory p).level ≡ (memory (get_or beside j 0)).level)
    (ap (λ (up : List ℕ). get_or up j 0) (reverse_upward path) ∙ upward_at (length path) j i path e)
    (levels_at memory (reverse path) beside levels j h)

module _ {k n : ℕ} {ws : List ℕ} (z : Stand) (some : 1 ≤ length z.path) (falls : Falls (page_at k ws) z.path)
    (right : rightly_beside k (page_at k ws) z (reverse z.path) ≡ true) where
  -- neither a sibling nor the want is page 0
  beside_others : Held k n ws z.path → Others (z.beside ++ z.want ∷ [])
  beside_others held =
      let path = z.path in
      let d = length path - 1 in
      needed_others k (page_at k ws) (key_of z.op) (get_or path d 0) (upward d path) z.beside z.want (fathers_name (key_of z.op) held falls)
      (beside_needs k (page_at k ws) z (get_or path d 0) (upward d path)
      (subst (λ (up : List ℕ). rightly_beside k (page_at k ws) z up ≡ true) (up_from path some) right))

  -- the want behind the siblings
  stands_beside : Held k n ws (holding z ++ z.want ∷ []) → distinct (z.want ∷ holding z) ≡ true
      → rightly_kept z.op k (page_at k ws) z.path z.want ≡ true → Standing k n ws (want_beside z)
  stands_beside held different above =
      let path = z.path in
      let beside = z.beside ++ z.want ∷ [] in
      let levels = beside_levels k (page_at k ws) z (reverse path) right in
      stands_with z some falls held different above
      (omega (arith, levels_few (page_at k ws) (reverse path) beside levels, length-reverse path))
      (λ _. level_beside (page_at k ws) path beside levels)
      (λ _. beside_others (held_front path z.beside (held_front (holding z) (z.want ∷ []) held)))

-- ---- converting

-- where it converts, the path has a page
converting_some : (k : ℕ) (memory : ℕ → Page) (z : Stand) (path : List ℕ) → rightly_converting k memory z (reverse path) ≡ true → 1 ≤ length path
converting_some k memory z [] t = absurd (false≢true t)
converting_some k memory z (p ∷ path) t = omega arith

-- the pages are those that it held, whatever their kinds of lock
stands_converted : {k n : ℕ} {ws : List ℕ} (z : Stand) → rightly_converting k (page_at k ws) z (reverse z.path) ≡ true → Held k n ws (holding z)
    → distinct (holding z) ≡ true → rightly_kept z.op k (page_at k ws) z.path z.want ≡ true → Standing k n ws (want_converted z)
stands_converted {k} {n} {ws} z right held different above =
    let memory : ℕ → Page = page_at k ws in
    let path : List ℕ = z.path in
    let some : 1 ≤ length path = converting_some k memory z path right in
    let up = up_from path some in
    let told : Converts k memory z (get_or path (length path - 1) 0) (upward (length path - 1) path) =
    converts_facts k memory z (get_or path (length path - 1) 0) (upward (length path - 1) path) (subst (λ (l : List ℕ). rightly_converting k memory z l ≡ true) up right) in
    let falls : Falls memory path = descends_levels memory (key_of z.op) path told.way in
    let levels : same_levels memory (reverse path) z.beside ≡ true = subst (λ (l : List ℕ). same_levels memory l z.beside ≡ true) (sym up) told.levels in
    let below : Held k n ws path = held_front path z.beside held in
    let more = needs_no_more z.op k memory z.beside (get_or path (length path - 1) 0) (upward (length path - 1) path) in
    record {
      some = some;
      deep = way_short below falls;
      few = omega (arith, levels_few memory (reverse path) z.beside levels, length-reverse path);
      held = held;
      descends = falls;
      different = different;
      top = kept_top z.op k memory path z.want some above;
      alone = kept_alone z.op k memory path z.want some above;
      levels = λ _. level_beside memory path z.beside levels;
      others = λ _.
          no_more_others z.op k memory (get_or path (length path - 1) 0) (upward (length path - 1) path) z.beside (fathers_name (key_of z.op) below falls)
          (and_second (not (answered_at_once z.op (memory (get_or path (length path - 1) 0)).entries)) more told.known);
    }

-- ---- on a second way

-- what a Next on its second way tells: it is a Next, and its way turns right at its top page
across_told : (k : ℕ) (memory : ℕ → Page) (z : Stand) (path : List ℕ) → rightly_across k memory z path ≡ true
    → (is_next z.op ≡ true) × (turns_right memory (key_of z.op) (get_or path 0 0) (z.beside ++ z.want ∷ []) ≡ true)
across_told k memory z [] t = absurd (false≢true t)
across_told k memory z (top ∷ below) t =
    let nexts = is_next z.op in
    let none = is_none (at_or_above (key_of z.op) (memory (get_or (reverse (top ∷ below)) 0 0)).entries) in
    let safe = is_safe z.op k (memory top) in
    let turns = turns_right memory (key_of z.op) top (z.beside ++ z.want ∷ []) in (
      and_first nexts none (and_first (nexts && none) safe (and_first (nexts && none && safe) turns t)),
      and_second (nexts && none && safe) turns t,
    )

-- below the top page each page of the way lies a level above the next one
turn_falls : (memory : ℕ → Page) (x top : ℕ) (way : List ℕ) → turns_right memory x top way ≡ true → Falls memory (top ∷ way)
turn_falls memory x top [] t i h = absurd (false≢true t)
turn_falls memory x top (p ∷ rest) t zero h =
    let named = eqb (neighbour x (memory top)) p in
    let level = eqb (memory top).level ((memory p).level + 1) in
    eqb-true (memory top).level ((memory p).level + 1) (and_second named level (and_first (named && level) (leftmost memory (p ∷ rest)) t))
turn_falls memory x top (p ∷ rest) t (suc i) h =
    let turns = eqb (neighbour x (memory top)) p && eqb (memory top).level ((memory p).level + 1) in
    leftmost_levels memory (p ∷ rest) (and_second turns (leftmost memory (p ∷ rest)) t) i (le_of_suc-le-suc h)

-- a path that ends in a leaf
leaf_level : (memory : ℕ → Page) (path : List ℕ) → 1 ≤ length path → at_its_leaf memory (reverse path) ≡ true
    → (memory (get_or path (length path - 1) 0)).level ≡ 1
leaf_level memory path some leaf =
    eqb-true (memory (get_or path (length path - 1) 0)).level 1
    (subst (λ (up : List ℕ). at_its_leaf memory up ≡ true) (reverse_upward path ∙ upward_father (length path) path some) leaf)

module _ {k n : ℕ} {ws : List ℕ} (z : Stand) (some : 1 ≤ length z.path) (falls : Falls (page_at k ws) z.path)
    (right : rightly_across k (page_at k ws) z z.path ≡ true) (leaf : at_its_leaf (page_at k ws) (reverse z.path) ≡ true) where
  -- the way has fewer pages than the path: both go down from the top page, and the path ends in a leaf
  across_few : Held k n ws (holding (want_beside z)) → length (z.beside ++ z.want ∷ []) ≤ length z.path
  across_few held =
      let memory : ℕ → Page = page_at k ws in
      let path : List ℕ = z.path in
      let second : List ℕ = z.beside in
      let way : List ℕ = second ++ z.want ∷ [] in
      let top : ℕ = get_or path 0 0 in
      let long : length way ≡ length second + 1 = length-append second (z.want ∷ []) in
      let down = falls_steps memory path falls (length path - 1) (omega arith) in
      let low = leaf_level memory path some leaf in
      let left = turn_falls memory (key_of z.op) top way (across_told k memory z path right).1 in
      let across = falls_steps memory (top ∷ way) left (length second + 1) (omega arith) in
      let last = (held_at (held_back path way held) (length second) (omega arith)).facts.lowest in
      let same : (memory (get_or (top ∷ way) (length second + 1) 0)).level ≡ (memory (get_or way (length second) 0)).level =
      ap (λ (i : ℕ). (memory (get_or (top ∷ way) i 0)).level) (add-one (length second)) in
      omega arith

  -- the want behind the second way
  stands_across : Held k n ws (holding z ++ z.want ∷ []) → distinct (z.want ∷ holding z) ≡ true
      → rightly_kept z.op k (page_at k ws) z.path z.want ≡ true → Standing k n ws (want_beside z)
  stands_across held different above =
      let next = (across_told k (page_at k ws) z z.path right).0 in
      stands_with z some falls held different above
      (across_few (subst (Held k n ws) (append_assoc z.path z.beside (z.want ∷ [])) held))
      (λ other. not_both next other)
      (λ other. not_both next other)

-- ---- the slot

-- a path without siblings is all that is held
none_beside : (path siblings : List ℕ) → is_none siblings ≡ true → path ++ siblings ≡ path
none_beside path [] t = append-nil path
none_beside path (s ∷ siblings) t = absurd (false≢true t)

-- a slot made to stand here stands here
stands_new : {k n : ℕ} {ws : List ℕ} (z : Stand) → Paired z → Standing k n ws z → SlotStanding z.op k n ws (slot_of z)
stands_new {k} {n} {ws} z paired h =
    let same : z ≡ stand_of z.op (slot_of z) = sym (stand_new z paired) in
    record { exact = ap slot_of same; standing = subst (Standing k n ws) same h }

module _ {op : Op} {k n : ℕ} {ws : List ℕ} {slot : Slot} (asks : Asks k n ws op slot) (fit : fits k n ws (stand_of op slot) ≡ true) where
  abbrev z : Stand
  z = stand_of op slot

  -- the pages that the slot holds and wants
  fits_held : Held k n ws (pages_of slot)
  unfolding fits
  fits_held =
      asks_held asks (sym (and_first (pages_sound k n ws (pages_of slot)) (fitting k (page_at k ws) z) fit)) refl

  pub path_held : Held k n ws (path_of slot)
  path_held = held_front (path_of slot) (beside_of slot) (held_front (held slot) (slot.want ∷ []) fits_held)

  pub want_known : Known k n ws slot.want
  want_known = held_at (held_back (held slot) (slot.want ∷ []) fits_held) 0 (omega arith)

  -- no two that it holds are the same
  held_different : distinct (held slot) ≡ true
  held_different = (sound_slot n slot asks.sound).different (ap is_open asks.task)

  -- they are those that the rules would have it hold and want: by the ways of the rule
  abbrev beside_test : Bool
  beside_test = rightly_beside k (page_at k ws) z (reverse (path_of slot))

  abbrev across_test : Bool
  across_test = rightly_across k (page_at k ws) z (path_of slot)

  abbrev at_leaf_test : Bool
  at_leaf_test = descends (page_at k ws) (key_of op) (path_of slot) && (beside_test || across_test)

  abbrev below_test : Bool
  below_test = descends (page_at k ws) (key_of op) (path_of slot ++ slot.want ∷ []) && is_none (beside_of slot)

  abbrev kept_test : Bool
  kept_test = rightly_kept op k (page_at k ws) (path_of slot) slot.want

  abbrev lock_test : Bool
  lock_test = same_lock slot.lock (lock_due op (page_at k ws) (reverse (path_of slot)))

  abbrev way_test : Bool
  way_test = cond (at_its_leaf (page_at k ws) (reverse (path_of slot))) at_leaf_test below_test

  abbrev converts_test : Bool
  converts_test = rightly_converting k (page_at k ws) z (reverse (path_of slot))

  abbrev rest_test : Bool
  rest_test = cond (converting z) converts_test (fitting_new k (page_at k ws) z)

  fits_fitting : kept_test && rest_test ≡ true
  unfolding fits fitting
  fits_fitting =
      and_second (pages_sound k n ws (pages_of slot)) (fitting k (page_at k ws) z) fit

  fits_kept : kept_test ≡ true
  fits_kept = and_first kept_test rest_test fits_fitting

  -- it converts
  stood_converted : converting z ≡ true → Standing k n ws (want_converted z)
  stood_converted there =
      stands_converted z (sym (cond-true converts_test (fitting_new k (page_at k ws) z) there) ∙ and_second kept_test rest_test fits_fitting)
      (held_front (held slot) (slot.want ∷ []) fits_held) held_different fits_kept

  -- or it wants a new page
  module _ (new : converting z ≡ false) where
    fits_way : way_test ≡ true
    unfolding fitting_new
    fits_way =
        and_second (lock_test && holds_due z) way_test
        (sym (cond-false converts_test (fitting_new k (page_at k ws) z) new) ∙ and_second kept_test rest_test fits_fitting)

    -- no two that it holds and wants are the same
    all_different : distinct (slot.want ∷ held slot) ≡ true
    unfolding distinct
    all_different = and_both (not_of_false new) held_different

    module _ (leaf : at_its_leaf (page_at k ws) (reverse (path_of slot)) ≡ true) where
      leaf_told : at_leaf_test ≡ true
      leaf_told = sym (cond-true at_leaf_test below_test leaf) ∙ fits_way

      stood_beside : Standing k n ws (want_beside z)
      stood_beside =
          let way = descends (page_at k ws) (key_of op) (path_of slot) in
          let some = leaf_some (page_at k ws) (path_of slot) leaf in
          let falls = descends_levels (page_at k ws) (key_of op) (path_of slot) (and_first way (beside_test || across_test) leaf_told) in
          ⊎_elim
          (λ beside. stands_beside z some falls beside fits_held all_different fits_kept)
          (λ across. stands_across z some falls across leaf fits_held all_different fits_kept)
          (or_cases beside_test across_test (and_second way (beside_test || across_test) leaf_told))

    module _ (coming : at_its_leaf (page_at k ws) (reverse (path_of slot)) ≡ false) where
      below_told : below_test ≡ true
      below_told = sym (cond-false at_leaf_test below_test coming) ∙ fits_way

      no_siblings : path_of slot ++ beside_of slot ≡ path_of slot
      no_siblings =
          none_beside (path_of slot) (beside_of slot)
          (and_second (descends (page_at k ws) (key_of op) (path_of slot ++ slot.want ∷ [])) (is_none (beside_of slot)) below_told)

      longer_held : Held k n ws (path_of slot ++ slot.want ∷ [])
      longer_held = subst (λ (pages : List ℕ). Held k n ws (pages ++ slot.want ∷ [])) no_siblings fits_held

      longer_falls : Falls (page_at k ws) (path_of slot ++ slot.want ∷ [])
      longer_falls =
          descends_levels (page_at k ws) (key_of op) (path_of slot ++ slot.want ∷ [])
          (and_first (descends (page_at k ws) (key_of op) (path_of slot ++ slot.want ∷ [])) (is_none (beside_of slot)) below_told)

      stood_below : Standing k n ws (come_down k (page_at k ws) z)
      stood_below =
          stands_below z longer_held
          (subst (λ (pages : List ℕ). distinct (slot.want ∷ pages) ≡ true) no_siblings all_different)
          longer_falls
          fits_kept

    -- coming down there is room for one more page on the path; `leaf` is what the test of the last page answered
    pub deep_enough : {leaf : Bool} → leaf ≡ at_its_leaf (page_at k ws) (reverse (path_of slot)) → leaf ≡ false
        → length slot.path ≡ path_holds → slot.depth < path_holds
    unfolding path_of
    deep_enough told f cells =
        let coming = sym told ∙ f in
        let short = way_short (longer_held coming) (longer_falls coming) in
        omega (arith, length-append (take slot.depth slot.path) (slot.want ∷ []), length-take slot.depth slot.path)

-- ---- where it stands, by whether it converts and by the test of its leaf

-- with the want converted, with the want beside its path, or come down to it
pub stood_ind : (P : Stand → Type 0) (k : ℕ) (memory : ℕ → Page) (z : Stand)
    → (converting z ≡ true → P (want_converted z))
    → (converting z ≡ false → at_its_leaf memory (reverse z.path) ≡ true → P (want_beside z))
    → (converting z ≡ false → at_its_leaf memory (reverse z.path) ≡ false → P (come_down k memory z))
    → P (stood k memory z)
unfolding stood
stood_ind P k memory z turned beside down =
    cond_ind P (converting z) turned (λ new. split (at_its_leaf memory (reverse z.path)) (beside new) (down new))
  where
    split : (b : Bool) → (b ≡ true → P (want_beside z)) → (b ≡ false → P (come_down k memory z))
        → P
        (on_pages z (cond b z.path (kept k memory z)) (cond b z.locks (kept_locks k memory z)) (cond b (z.beside ++ z.want ∷ []) [])
        (cond b (z.sidelocks ++ under z.lock ∷ []) []))
    split true f g = f refl
    split false f g = g refl

-- ---- a kind of lock for every page

-- one behind each of two lists
one_more : (locks : List Under) (pages : List ℕ) (u : Under) (p : ℕ) → length locks ≡ length pages → length (locks ++ u ∷ []) ≡ length (pages ++ p ∷ [])
one_more locks pages u p e = length-append locks (u ∷ []) ∙ ap (λ (m : ℕ). m + 1) e ∙ sym (length-append pages (p ∷ []))

-- the granted page has the one with which it was wanted
pub stood_paired : (k : ℕ) (memory : ℕ → Page) (z : Stand) → Paired z → Paired (stood k memory z)
stood_paired k memory z paired =
    stood_ind Paired k memory z
    (λ _. record { path = length_xi z.want z.path z.locks paired.path; beside = length_xi z.want z.beside z.sidelocks paired.beside })
    (λ _ _. record { path = paired.path; beside = one_more z.sidelocks z.beside (under z.lock) z.want paired.beside })
    (λ _ _. record {
      path = cond_both (λ (pages : List ℕ) (locks : List Under). length locks ≡ length pages) (is_safe z.op k (memory z.want))
          (λ _. refl)
          (λ _. one_more z.locks z.path (under z.lock) z.want paired.path);
      beside = refl;
    })

-- Once its want is granted, an operation stands where the rules would have it.
pub stood_stands : (op : Op) (k n : ℕ) (ws : List ℕ) (slot : Slot) → Asks k n ws op slot → fits k n ws (stand_of op slot) ≡ true → Paired (stand_of op slot)
    → SlotStanding op k n ws (slot_of (stood k (page_at k ws) (stand_of op slot)))
stood_stands op k n ws slot asks fit paired =
    let here : Stand = stand_of op slot in
    let memory : ℕ → Page = page_at k ws in
    stood_ind (λ (now : Stand). Paired now → SlotStanding op k n ws (slot_of now)) k memory here
    (λ turned p. stands_new (want_converted here) p (stood_converted asks fit turned))
    (λ new leaf p. stands_new (want_beside here) p (stood_beside asks fit new leaf))
    (λ new above p. stands_new (come_down k memory here) p (stood_below asks fit new above))
    (stood_paired k memory here paired)

-- ---- the slot by the answers of the tests

module _ (op : Op) (k : ℕ) (memory : ℕ → Page) (slot : Slot) {converts : Bool} (wants : converts ≡ converting (stand_of op slot)) where
  abbrev here : Stand
  here = stand_of op slot

  -- it wants to convert a page
  pub stood_on_turn : {r : Slot} → converts ≡ true → r ≡ slot_of (want_converted here) → r ≡ slot_of (stood k memory here)
  stood_on_turn {r} t e =
      stood_ind (λ (z : Stand). r ≡ slot_of z) k memory here (λ _. e) (λ new _. not_both (sym wants ∙ t) new) (λ new _. not_both (sym wants ∙ t) new)

  module _ {leaf : Bool} (told : leaf ≡ at_its_leaf memory (reverse (path_of slot))) (no : converts ≡ false) where
    -- the last page of the path is a leaf
    pub stood_at_leaf : {r : Slot} → leaf ≡ true → r ≡ slot_of (want_beside here) → r ≡ slot_of (stood k memory here)
    stood_at_leaf {r} t e =
        stood_ind (λ (z : Stand). r ≡ slot_of z) k memory here (λ turned. not_both turned (sym wants ∙ no)) (λ _ _. e) (λ _ coming. not_both (sym told ∙ t) coming)

    -- it is not
    stood_coming : {r : Slot} → leaf ≡ false → r ≡ slot_of (come_down k memory here) → r ≡ slot_of (stood k memory here)
    stood_coming {r} f e =
        stood_ind (λ (z : Stand). r ≡ slot_of z) k memory here (λ turned. not_both turned (sym wants ∙ no)) (λ _ there. not_both there (sym told ∙ f)) (λ _ _. e)

    abbrev on_path : List ℕ → List Under → Slot
    on_path path locks = slot_of (on_pages here path locks [] [])

    module _ {safe : Bool} (tested : safe ≡ is_safe op k (memory slot.want)) where
      -- coming down to a safe page
      pub stood_on_safe : {r : Slot} → leaf ≡ false → safe ≡ true → r ≡ on_path (slot.want ∷ []) (under slot.lock ∷ [])
          → r ≡ slot_of (stood k memory here)
      stood_on_safe {r} f t e =
          stood_coming f
          (cond_both (λ (ps : List ℕ) (ls : List Under). r ≡ on_path ps ls) (is_safe op k (memory slot.want)) (λ _. e) (λ u. not_both (sym tested ∙ t) u))

      -- and to another
      pub stood_on_other : {r : Slot} → leaf ≡ false → safe ≡ false → r ≡ on_path (path_of slot ++ slot.want ∷ []) (locks_of slot ++ under slot.lock ∷ [])
          → r ≡ slot_of (stood k memory here)
      stood_on_other {r} f u e =
          stood_coming f
          (cond_both (λ (ps : List ℕ) (ls : List Under). r ≡ on_path ps ls) (is_safe op k (memory slot.want)) (λ s. not_both s (sym tested ∙ u)) (λ _. e))
