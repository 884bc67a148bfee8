-- An update by the third way that converts: what holds of a verdict holds of it too where it converts first, if it holds of every verdict that goes on;
-- and what its test of a conversion says.
use Prim.Native.Nat.{ℕ}
use mathlib.Core.Bool.{Bool, true, ◌&&◌}
use mathlib.Core.List.{List, [], ◌∷◌}
use mathlib.Core.Path.{◌≡◌}
use Rattle.ground.proofs.Bools.{and_first, and_second}
use Rattle.ground.proofs.Choice.{cond_ind}
use Rattle.page.specs.Words.{Page, is_leaf}
use Rattle.slots.specs.declared.Lock.TheVariants.{Xi}
use Rattle.slots.specs.Parts.{key_of, is_third, Stand, wants_next}
use Rattle.slots.specs.Locks.{same_lock}
use Rattle.footing.specs.Granted.{Verdict, goes, change_known, locks_in_turn, to_convert, by_turn, converted_first}
use Rattle.footing.specs.Fitting.{descends, same_levels, xi_then_alpha, is_first, rightly_converting}

pub turn_by : (P : Verdict → Type 0) (z : Stand) (act : Verdict) → P act → ((y : Stand) → P (goes y)) → (pages : List ℕ) → P (by_turn z act pages)
turn_by P z act done further [] = done
turn_by P z act done further (p ∷ pages) = further (wants_next z p Xi)

pub converted_by : (P : Verdict → Type 0) (k : ℕ) (memory : ℕ → Page) (z : Stand) (leaf : ℕ) (fathers : List ℕ) (act : Verdict)
    → P act → ((y : Stand) → P (goes y)) → P (converted_first k memory z leaf fathers act)
converted_by P k memory z leaf fathers act done further =
    cond_ind P (is_third z.op && change_known k memory z leaf fathers)
    (λ _. turn_by P z act done further (to_convert z))
    (λ _. done)

-- the whole test as facts, by the leaf and its fathers
pub record Converts (k : ℕ) (memory : ℕ → Page) (z : Stand) (leaf : ℕ) (fathers : List ℕ) : Type 0 where
  pub third : is_third z.op ≡ true
  pub low : is_leaf (memory leaf) ≡ true
  pub way : descends memory (key_of z.op) z.path ≡ true
  pub known : change_known k memory z leaf fathers ≡ true
  pub levels : same_levels memory (leaf ∷ fathers) z.beside ≡ true
  pub wants : same_lock z.lock Xi ≡ true
  pub kinds : xi_then_alpha (locks_in_turn z) ≡ true
  pub first : is_first z.want (to_convert z) ≡ true

pub converts_facts : (k : ℕ) (memory : ℕ → Page) (z : Stand) (leaf : ℕ) (fathers : List ℕ) → rightly_converting k memory z (leaf ∷ fathers) ≡ true
    → Converts k memory z leaf fathers
converts_facts k memory z leaf fathers t =
    let a : Bool = is_third z.op in
    let b : Bool = is_leaf (memory leaf) in
    let c : Bool = descends memory (key_of z.op) z.path in
    let d : Bool = change_known k memory z leaf fathers in
    let e : Bool = same_levels memory (leaf ∷ fathers) z.beside in
    let f : Bool = same_lock z.lock Xi in
    let g : Bool = xi_then_alpha (locks_in_turn z) in
    let h : Bool = is_first z.want (to_convert z) in
    let seven = and_first (a && b && c && d && e && f && g) h t in
    let six = and_first (a && b && c && d && e && f) g seven in
    let five = and_first (a && b && c && d && e) f six in
    let four = and_first (a && b && c && d) e five in
    let three = and_first (a && b && c) d four in
    let two = and_first (a && b) c three in
    record {
      third = and_first a b two;
      low = and_second a b two;
      way = and_second (a && b) c three;
      known = and_second (a && b && c) d four;
      levels = and_second (a && b && c && d) e five;
      wants = and_second (a && b && c && d && e) f six;
      kinds = and_second (a && b && c && d && e && f) g seven;
      first = and_second (a && b && c && d && e && f && g) h t;
    }
