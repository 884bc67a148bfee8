-- The second way of a Next: each law is one way through the rule for the way itself, or for the slot that goes down it.
use Prim.Native.Nat.{ℕ, ◌≤◌}
use mathlib.Core.Bool.{Bool, true, false, ◌&&◌}
use mathlib.Core.List.{List, [], ◌∷◌, ◌++◌, reverse}
use mathlib.Core.Logic.{⊎_elim}
use mathlib.Core.Path.{◌≡◌, refl, sym, ap, ap₂, ◌∙◌, subst}
use borrow.Author.Tests.{eqb-true}
use lib.Dec.{eqb}
use lib.ListN.{length, get_or, take}
use Rattle.ground.specs.Tests.{member}
use Rattle.ground.proofs.Bools.{and_both, and_first_fails, and_second_fails, or_second, or_cases}
use Rattle.ground.proofs.Padded.{next_cell}
use Rattle.ground.proofs.Tests.{member_append, member_from, member_here, member_there}
use Rattle.page.specs.Words.{Entry, Page}
use Rattle.page.specs.Place.{at_or_above}
use Rattle.page.specs.Reading.{nearest}
use Rattle.std.specs.Prelude.{Option, is_some, not}
use Rattle.change.specs.Held.{Held, leaf_of}
use Rattle.change.proofs.HeldLaws.{held_some, on_path}
use Rattle.slots.specs.declared.Op.{Op}
use Rattle.slots.specs.declared.Op.TheVariants.{Next}
use Rattle.slots.specs.declared.Lock.{Lock}
use Rattle.slots.specs.declared.Under.{Under}
use Rattle.slots.specs.Parts.{key_of, is_next, Stand, stand, with_op}
use Rattle.footing.specs.Granted.{is_safe}
use Rattle.footing.specs.Fitting.{is_none, turns_right, rightly_across}
use Rattle.footing.proofs.LookLaws.{told_true, told_false, held_two}
use Rattle.footing.proofs.KeepLaws.{last_first}

-- ---- the way itself

-- the page above the way, and its first page
pub held_turn : {k n : ℕ} {ws : List ℕ} (top : ℕ) (way : List ℕ) → 1 ≤ length way → Held k n ws (top ∷ way) → Held k n ws (top ∷ get_or way 0 0 ∷ [])
held_turn top way some held =
    held_two held top (get_or way 0 0) (member_here top way) (member_there top (get_or way 0 0) way (member_from (get_or way 0 0) way 0 0 some refl))

-- the top page of a path, with the pages beside it
pub held_top_with : {k n : ℕ} {ws : List ℕ} (path : List ℕ) (depth : ℕ) (more : List ℕ) → depth ≤ length path → 1 ≤ depth
    → Held k n ws (take depth path ++ more) → Held k n ws (get_or path 0 0 ∷ more)
unfolding member
held_top_with path depth more long some held =
    let top : ℕ = get_or path 0 0 in
    held_some (top ∷ more) held
    (λ p m. ⊎_elim
    (λ e. subst (λ (q : ℕ). member q (take depth path ++ more) ≡ true) (sym (eqb-true p top e)) (on_path path depth 0 more long some))
    (λ e. member_append p (take depth path) more ∙ or_second (member p (take depth path)) e)
    (or_cases (eqb p top) (member p more) m))

-- ---- a slot on its second way

-- only a Next has one
pub across_idle : (k : ℕ) (memory : ℕ → Page) (z : Stand) (path : List ℕ) → is_next z.op ≡ false → false ≡ rightly_across k memory z path
across_idle k memory z [] f = refl
across_idle k memory z (top ∷ below) f =
    sym
    (ap
    (λ (b : Bool).
    b
    && is_none (at_or_above (key_of z.op) (memory (get_or (reverse (top ∷ below)) 0 0)).entries)
    && is_safe z.op k (memory top)
    && turns_right memory (key_of z.op) top (z.beside ++ z.want ∷ []))
    f)

-- what was read at or above a key tells whether there is none
nearest_none : {near : Option (ℕ × ℕ)} (es : List Entry) → near ≡ nearest es → not (is_some near) ≡ is_none es
nearest_none es e = ap (λ (near : Option (ℕ × ℕ)). not (is_some near)) e ∙ by_entries es
  where
    by_entries : (es : List Entry) → not (is_some (nearest es)) ≡ is_none es
    by_entries [] = refl
    by_entries (e ∷ es) = refl

-- The rule for a Next of x that stands at its leaf, a test at a time.
module _ (k : ℕ) (memory : ℕ → Page) (path : List ℕ) (depth : ℕ) (locks : List Under) (second : List ℕ) (sidelocks : List Under) (want : ℕ)
    (lock : Lock) (long : depth ≤ length path) (some : 1 ≤ depth) {op : Op} {x : ℕ} (nexts : op ≡ Next x) where
  abbrev z : Stand
  z = stand op (take depth path) locks second sidelocks want lock

  abbrev answer : Bool
  answer = rightly_across k memory z (take depth path)

  abbrev top : ℕ
  top = get_or path 0 0

  abbrev above : List Entry
  above = at_or_above x (memory (leaf_of depth path)).entries

  abbrev none : Bool
  none = is_none above

  abbrev more : Bool
  more = is_safe (Next x) k (memory top)

  abbrev turned : Bool
  turned = turns_right memory x top (second ++ want ∷ [])

  by_tests : answer ≡ none && more && turned
  by_tests =
      let first = next_cell path depth 0 long some in
      let leaf = ap (λ (up : List ℕ). get_or up 0 0) (ap reverse (sym first) ∙ last_first path depth long some) in
      ap₂ (λ (o : Op) (pages : List ℕ). rightly_across k memory (with_op o z) pages) nexts first
      ∙ ap (λ (p : ℕ). is_none (at_or_above x (memory p).entries) && more && turned) leaf

  module _ {near : Option (ℕ × ℕ)} (read : near ≡ nearest above) where
    -- the leaf has such a key
    pub across_found : is_some near ≡ true → false ≡ answer
    across_found t = sym (by_tests ∙ and_first_fails turned (and_first_fails more (sym (nearest_none above read) ∙ ap not t)))

    module _ {safe : Bool} (said : safe ≡ more) where
      -- the top page has no child to the right
      pub across_ends : safe ≡ false → false ≡ answer
      across_ends f = sym (by_tests ∙ and_first_fails turned (and_second_fails none (told_false said f)))

      -- it has one: the way tells
      pub across_turns : {r : Bool} {taken : List ℕ} → is_some near ≡ false → safe ≡ true → r ≡ turns_right memory x top taken
          → taken ≡ second ++ want ∷ [] → r ≡ answer
      across_turns f u e added =
          e
          ∙ ap (turns_right memory x top) added
          ∙ sym (by_tests ∙ ap (λ (b : Bool). b && turned) (and_both (sym (nearest_none above read) ∙ ap not f) (told_true said u)))
