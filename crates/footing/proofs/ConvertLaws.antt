-- Updates by the third way: which page a sound slot wants as a conversion, and under which kinds it holds the others; whether a change is known;
-- and the rule for a slot that converts, a test at a time.
use Prim.Native.Nat.{ℕ, zero, suc, ◌≤◌}
use mathlib.Core.Bool.{Bool, true, false, cond, not, ◌&&◌, and-true}
use mathlib.Core.List.{List, [], ◌∷◌, map, reverse}
use mathlib.Core.Logic.{⊎_elim}
use mathlib.Core.Path.{◌≡◌, refl, sym, ap, ap₂, ◌∙◌, subst}
use native.Mathlib.Nat.{not-suc-le-zero}
use native.Mathlib.Omega.{arith}
use borrow.Author.Tests.{ne_eqb, not-true, not-false}
use lib.Dec.{eqb}
use lib.ListN.{length, take, length-map}
use Rattle.std.specs.Prelude.{Option, Some, None as Nothing, Result, Ok, Err}
use Rattle.std.specs.Result.{result_eq}
use Rattle.change.specs.declared.needing.Astray.{Astray}
use Rattle.std.specs.Option.{option_eq}
use Rattle.ground.specs.Tests.{all, member}
use Rattle.ground.proofs.Bools.{not_both, and_first, and_second, and_both, and_first_fails, and_second_fails, or_cases}
use Rattle.ground.proofs.Tests.{all_append, all_from_members}
use Rattle.page.specs.Words.{Page, is_leaf}
use Rattle.change.specs.Deletion.{Need, needs}
use Rattle.change.specs.Held.{leaf_of, fathers_of, need_of}
use Rattle.slots.specs.declared.Op.{Op}
use Rattle.slots.specs.declared.Op.TheVariants.{Delete}
use Rattle.slots.specs.declared.Way.{Way}
use Rattle.slots.specs.declared.Task.{Task}
use Rattle.slots.specs.declared.Task.TheVariants.{Open}
use Rattle.slots.specs.declared.Lock.{Lock}
use Rattle.slots.specs.declared.Lock.TheVariants.{None, Rho, Xi, UpdaterRho, Alpha}
use Rattle.slots.specs.declared.Under.{Under}
use Rattle.slots.specs.declared.Slot.{Slot}
use Rattle.slots.specs.Heard.{lock_number}
use denote.Enum.Bare.{sameb}
use denote.Enum.Declared.{tag_of}
use Rattle.slots.specs.contracts.Lock.{the_type}
use Rattle.slots.specs.Parts.{key_of, is_open, is_second, is_third, held_lock, path_of, beside_of, held, locks_of, sidelocks_of, held_locks, Stand, converting, stand_of}
use Rattle.slots.specs.Locks.{same_lock, lock_held}
use Rattle.slots.specs.Sound.{wants_rightly, converts_rightly, slot_sound}
use Rattle.slots.proofs.SoundFacts.{SoundSlot, sound_slot}
use Rattle.slots.proofs.LockLaws.{among_every, third_alpha, lock_same, can_hold_lem, can_want_lem}
use Rattle.slots.proofs.Keeping.{Paired, kinds_long}
use Rattle.footing.specs.Granted.{is_nothing, is_none, needs_no_more, change_known, locks_in_turn, to_convert, at_its_leaf}
use Rattle.footing.specs.Fitting.{is_sibling, descends, same_levels, lock_due, holds_due, xi_then_alpha, is_first, rightly_converting}
use Rattle.footing.specs.Standing.{turn_of}
use Rattle.footing.proofs.LookLaws.{told_true, told_false, first_due}

-- ---- kinds of lock

-- two kinds that are compared are the same just where the rule says so
pub same_kind : (a b : Lock) → sameb the_type a b ≡ same_lock a b
same_kind a b = ap₂ eqb (number a) (number b)
  where
    number : (l : Lock) → tag_of the_type l ≡ lock_number l
    number None = refl
    number Rho = refl
    number Xi = refl
    number UpdaterRho = refl
    number Alpha = refl

-- what a branch on two kinds that differ tells of the rule's test
pub kinds_differ : (a b : Lock) {answer : Bool} → answer ≡ not (sameb the_type a b) → answer ≡ true → same_lock a b ≡ false
kinds_differ a b e t = sym (same_kind a b) ∙ not-true (sameb the_type a b) (sym e ∙ t)

pub kinds_agree : (a b : Lock) {answer : Bool} → answer ≡ not (sameb the_type a b) → answer ≡ false → same_lock a b ≡ true
kinds_agree a b e f = sym (same_kind a b) ∙ not-false (sameb the_type a b) (sym e ∙ f)

-- ---- a sound slot

-- where a held page is wanted it is wanted so, and nowhere else is it wanted so
wanted_so : (wants third alpha xi : Bool) → cond wants (third && alpha && xi) (not (third && xi)) ≡ true → wants ≡ third && xi
wanted_so true third alpha xi t = sym (and_both (and_first third alpha (and_first (third && alpha) xi t)) (and_second (third && alpha) xi t))
wanted_so false third alpha xi t = sym (not-true (third && xi) t)

module _ (n : ℕ) {op : Op} (slot : Slot) (task : slot.task ≡ Open op) (sound : slot_sound n slot ≡ true) where
  abbrev z : Stand
  z = stand_of op slot

  abbrev wants_xi : Bool
  wants_xi = same_lock slot.lock Xi

  facts : SoundSlot n slot
  facts = sound_slot n slot sound

  -- it wants a page that it holds just if it goes by the third way and wants ξ
  pub converts_third : converting z ≡ is_third op && wants_xi
  converts_third =
      wanted_so (member slot.want (held slot)) (is_third op) (same_lock (lock_held slot slot.want) Alpha) wants_xi
      (subst (λ (t : Task). converts_rightly t slot ≡ true) task facts.converts)

  pub converts_told : converting z ≡ true → (is_third op ≡ true) × (wants_xi ≡ true)
  converts_told t =
      let both = sym converts_third ∙ t in
      (and_first (is_third op) wants_xi both, and_second (is_third op) wants_xi both)

  -- who wants no page that it holds, and does not go by the second way, wants the kind with which it goes down
  pub wants_due : is_second op ≡ false → converting z ≡ false → slot.lock ≡ held_lock op
  wants_due first new =
      ⊎_elim
      (λ e. e)
      (λ xi.
      let third : is_third op ≡ true = ⊎_elim (λ second. not_both second first) (λ t. t) (or_cases (is_second op) (is_third op) xi.0) in
      not_both (converts_third ∙ and_both third (ap (λ (l : Lock). same_lock l Xi) xi.1)) new)
      (can_want_lem op slot.lock (subst (λ (t : Task). wants_rightly t slot.lock ≡ true) task facts.rightly))

  pub first_wants : (memory : ℕ → Page) (up : List ℕ) {second : Bool} → second ≡ is_second op → second ≡ false → converting z ≡ false
      → true ≡ same_lock slot.lock (lock_due op memory up)
  first_wants memory up said f new =
      let first : is_second op ≡ false = told_false said f in
      sym (ap₂ same_lock (wants_due first new) (first_due op memory up first) ∙ lock_same (held_lock op))

  module _ {third : Bool} (said : third ≡ is_third op) where
    -- by another way it converts nothing, and by the third the kind that it wants tells
    pub converts_not : third ≡ false → false ≡ converting z
    converts_not f = sym (converts_third ∙ and_first_fails wants_xi (told_false said f))

    pub converts_by_kind : {same : Bool} → third ≡ true → same ≡ wants_xi → same ≡ converting z
    converts_by_kind t e = e ∙ sym (converts_third ∙ ap (λ (b : Bool). b && wants_xi) (told_true said t))

    -- by another way it holds every page with the kind with which it goes down
    pub first_holds : Paired z → third ≡ false → true ≡ holds_due z
    first_holds paired f =
        let due : Lock → Bool = λ (l : Lock). same_lock l (held_lock op) in
        sym
        (among_every due (held slot) (held_locks slot) (kinds_long z paired) (facts.different (ap is_open task))
        ∙ all_from_members (λ (p : ℕ). due (lock_held slot p)) (held slot)
        (λ p m. ap due (⊎_elim (λ e. e) (λ xi. not_both xi.0 (told_false said f)) (can_hold_lem op (lock_held slot p) (facts.under op task p m))) ∙ lock_same (held_lock op)))

    -- by the third its kinds tell, on its path and beside it
    abbrev alphas : List Under → Bool
    alphas locks = all (λ (u : Under). same_lock u.lock Alpha) locks

    by_lists : third ≡ true → holds_due z ≡ alphas (locks_of slot) && alphas (sidelocks_of slot)
    by_lists t =
        ap (λ (l : Lock). all (λ (u : Under). same_lock u.lock l) (held_locks slot)) (third_alpha op (told_true said t))
        ∙ all_append (λ (u : Under). same_lock u.lock Alpha) (locks_of slot) (sidelocks_of slot)

    module _ {path : Bool} (on : path ≡ alphas (locks_of slot)) where
      pub holds_not : third ≡ true → path ≡ false → false ≡ holds_due z
      holds_not t f = sym (by_lists t ∙ and_first_fails (alphas (sidelocks_of slot)) (told_false on f))

      pub holds_beside : {beside : Bool} → third ≡ true → path ≡ true → beside ≡ alphas (sidelocks_of slot) → beside ≡ holds_due z
      holds_beside t g e = e ∙ sym (by_lists t ∙ ap (λ (b : Bool). b && alphas (sidelocks_of slot)) (told_true on g))

-- ---- cells

-- cells are as many as what they stand for
pub cells_mapped : (A B : Type 0) (f : A → B) (cells : List A) (n : ℕ) → length (map f cells) ≡ n → length cells ≡ n
cells_mapped A B f cells n e = sym (length-map cells f) ∙ e

-- ---- whether the change is known

-- none of the first cells is there just where there are none
pub none_taken : (cells : List ℕ) (count : ℕ) → count ≤ length cells → eqb count 0 ≡ is_none (take count cells)
none_taken cells zero h = refl
none_taken [] (suc count) h = absurd (not-suc-le-zero h)
none_taken (p ∷ cells) (suc count) h = ne_eqb (suc count) 0 (λ e. omega arith)

-- what a deletion needs, compared with nothing more and with a sibling
pub needs_nothing : (same : Astray → Astray → Bool) (r : Result (Option ℕ) Astray) → result_eq (option_eq eqb) same r (Ok Nothing) ≡ is_nothing (need_of r)
needs_nothing same (Ok Nothing) = refl
needs_nothing same (Ok (Some s)) = refl
needs_nothing same (Err e) = refl

pub needs_sibling : (same : Astray → Astray → Bool) (r : Result (Option ℕ) Astray) (want : ℕ)
    → result_eq (option_eq eqb) same r (Ok (Some want)) ≡ is_sibling (need_of r) want
needs_sibling same (Ok Nothing) want = refl
needs_sibling same (Ok (Some s)) want = refl
needs_sibling same (Err e) want = refl

-- a deletion's next sibling tells
pub no_more_deletion : (k : ℕ) (memory : ℕ → Page) (beside : List ℕ) (leaf : ℕ) (fathers : List ℕ) {op : Op} {x : ℕ} {way : Way} {need : Need}
    → op ≡ Delete x way → need ≡ needs k memory x leaf fathers beside → is_nothing need ≡ needs_no_more op k memory beside leaf fathers
no_more_deletion k memory beside leaf fathers told e = ap is_nothing e ∙ sym (ap (λ (o : Op). needs_no_more o k memory beside leaf fathers) told)

-- ---- the rule for a slot that converts

-- where the path does not end in a leaf, none converts
leaf_fails : (k : ℕ) (memory : ℕ → Page) (z : Stand) (up : List ℕ) → at_its_leaf memory up ≡ false → rightly_converting k memory z up ≡ false
leaf_fails k memory z [] f = refl
leaf_fails k memory z (leaf ∷ fathers) f =
    and_first_fails _ (and_first_fails _ (and_first_fails _ (and_first_fails _ (and_first_fails _ (and_first_fails _ (and_second_fails (is_third z.op) f))))))

-- the turn is this page's
pub turn_first : (want : ℕ) (pages : List ℕ) → option_eq eqb (turn_of pages) (Some want) ≡ is_first want pages
turn_first want [] = refl
turn_first want (p ∷ pages) = refl

-- two tests that hold, taken out of eight
without_two : {a f : Bool} (b c d e g h : Bool) → a ≡ true → f ≡ true → a && b && c && d && e && f && g && h ≡ b && c && d && e && g && h
without_two {f = f} b c d e g h p q =
    ap (λ (t : Bool). t && b && c && d && e && f && g && h) p
    ∙ ap (λ (t : Bool). b && c && d && e && t && g && h) q
    ∙ ap (λ (t : Bool). t && g && h) (and-true (b && c && d && e))

module _ (op : Op) (k : ℕ) (memory : ℕ → Page) (slot : Slot) where
  abbrev here : Stand
  here = stand_of op slot

  abbrev answer : Bool
  answer = rightly_converting k memory here (reverse (path_of slot))

  -- its path does not end in a leaf
  pub converting_not_leaf : {leaf : Bool} → leaf ≡ at_its_leaf memory (reverse (path_of slot)) → leaf ≡ false → false ≡ answer
  converting_not_leaf said f = sym (leaf_fails k memory here (reverse (path_of slot)) (told_false said f))

  module _ (third : is_third op ≡ true) (xi : same_lock slot.lock Xi ≡ true) (up : reverse (path_of slot) ≡ leaf_of slot.depth slot.path ∷ fathers_of slot.depth slot.path)
      {leaf : Bool} (at : leaf ≡ at_its_leaf memory (reverse (path_of slot))) (low : leaf ≡ true) where
    abbrev way : Bool
    way = descends memory (key_of op) (path_of slot)

    abbrev known : Bool
    known = change_known k memory here (leaf_of slot.depth slot.path) (fathers_of slot.depth slot.path)

    abbrev levels : Bool
    levels = same_levels memory (reverse (path_of slot)) (beside_of slot)

    abbrev kinds : Bool
    kinds = xi_then_alpha (locks_in_turn here)

    abbrev next : Bool
    next = is_first slot.want (to_convert here)

    by_tests : answer ≡ way && known && levels && kinds && next
    by_tests =
        let last : Bool = is_leaf (memory (leaf_of slot.depth slot.path)) in
        ap (rightly_converting k memory here) up
        ∙ without_two last way known (same_levels memory (leaf_of slot.depth slot.path ∷ fathers_of slot.depth slot.path) (beside_of slot)) kinds next third xi
        ∙ ap (λ (t : Bool). t && way && known && same_levels memory (leaf_of slot.depth slot.path ∷ fathers_of slot.depth slot.path) (beside_of slot) && kinds && next)
        (sym (ap (at_its_leaf memory) up) ∙ told_true at low)
        ∙ ap (λ (l : List ℕ). way && known && same_levels memory l (beside_of slot) && kinds && next) (sym up)

    -- one test that fails
    module _ {a : Bool} (f : a ≡ false) where
      pub converting_no_way : {x : ℕ} → x ≡ key_of op → a ≡ descends memory x (path_of slot) → false ≡ answer
      converting_no_way key said =
          sym (by_tests ∙ and_first_fails next (and_first_fails kinds (and_first_fails levels (and_first_fails known (sym (ap (λ (x : ℕ). descends memory x (path_of slot)) key) ∙ told_false said f)))))

      pub converting_unknown : a ≡ known → false ≡ answer
      converting_unknown said = sym (by_tests ∙ and_first_fails next (and_first_fails kinds (and_first_fails levels (and_second_fails way (told_false said f)))))

      pub converting_levels : a ≡ levels → false ≡ answer
      converting_levels said = sym (by_tests ∙ and_first_fails next (and_first_fails kinds (and_second_fails (way && known) (told_false said f))))

    -- all of them hold: the turn tells
    pub converting_turn : {x : ℕ} {a b c d : Bool} {turn : Option ℕ} → x ≡ key_of op → a ≡ descends memory x (path_of slot) → a ≡ true → b ≡ known → b ≡ true
        → c ≡ levels → c ≡ true → d ≡ kinds → d ≡ true → turn ≡ turn_of (to_convert here) → option_eq eqb turn (Some slot.want) ≡ answer
    converting_turn key p s q t r u e v said =
        ap (λ (t : Option ℕ). option_eq eqb t (Some slot.want)) said
        ∙ turn_first slot.want (to_convert here)
        ∙ sym
        (by_tests
        ∙ ap (λ (b : Bool). b && next)
        (and_both (and_both (and_both (sym (ap (λ (x : ℕ). descends memory x (path_of slot)) key) ∙ told_true p s) (told_true q t)) (told_true r u)) (told_true e v)))
