-- A deletion leads from the tree to the tree less the key, and writes only pages that it holds.
-- The pages above the held ones are not touched, so the rule on the held way is the rule on the whole way; there the
-- change is followed level by level up to the root.
use Prim.Native.Nat.{ℕ, zero, suc, ◌≤◌, ◌<◌}
use native.Mathlib.Omega.{arith}
use mathlib.Core.Bool.{true}
use mathlib.Core.List.{List, [], ◌∷◌, ◌++◌, append-nil}
use mathlib.Core.Path.{◌≡◌, sym, ap, ◌∙◌, subst}
use Rattle.ground.specs.Limits.{word_range}
use Rattle.page.specs.Words.{Page}
use Rattle.page.specs.Place.{has, without}
use Rattle.page.specs.Splits.{with_entries}
use Rattle.pool.specs.Pool.{Write}
use Rattle.change.specs.Deletion.{nothing, needs, deletion}
use Rattle.tree.specs.Tree.{Tr, entries_of, way, Forms}
use Rattle.tree.specs.Change.{Leads, HeldWay}
use Rattle.tree.specs.Deletion.{can_spare, DeletionLeads}
use Rattle.tree.proofs.Memory.{once_same}
use Rattle.tree.proofs.DeletionRule.{shrunk_stops, needs_held, deletion_held}
use Rattle.tree.proofs.DeletionTree.{asks_on, changes_on, forms_given, leaf_reached, step_in, outcome}
use Rattle.tree.proofs.DeletionRoot.{leaf_leads, root_leads}

module _ (k n : ℕ) (memory : ℕ → Page) (x : ℕ) (one : 1 ≤ k) where
  -- the rule on the whole way, which ends at the root
  whole_leads : (l : ℕ) (t : Tr l) (siblings : List ℕ) → Forms k n memory l t → x < word_range → has x (entries_of l t) ≡ true
      → asks_on k memory x (way x l t ++ []) siblings ≡ nothing
      → Leads k n memory l t (changes_on k memory x (way x l t ++ []) siblings) (without x (entries_of l t))
  whole_leads zero t siblings forms word there asks =
      leaf_leads k n memory x one t forms (changes_on k memory x (way x zero t ++ []) siblings)
      (leaf_reached k memory x 0 t 0 word_range (forms_given k n memory x zero t forms word there) [] siblings asks)
  whole_leads (suc l) t siblings forms word there asks =
      let root = once_same 0 t.at (sym forms.root) in
      root_leads k n memory x one l t forms (changes_on k memory x (way x (suc l) t ++ []) siblings)
      (step_in k memory x one 1 l (omega arith)
      (λ c lo hi g none up siblings' asks'. outcome k memory x one l c lo hi g none up siblings' asks')
      t 0 word_range (forms_given k n memory x (suc l) t forms word there) (omega (arith, forms.different 0)) [] siblings asks)

  held_leads : (l : ℕ) (t : Tr l) (leaf : ℕ) (fathers siblings : List ℕ) → Forms k n memory l t → x < word_range → has x (entries_of l t) ≡ true
      → HeldWay (can_spare k memory) x l t leaf fathers → needs k memory x leaf fathers siblings ≡ nothing
      → Leads k n memory l t (deletion k memory x leaf fathers siblings) (without x (entries_of l t))
  unfolding deletion
  held_leads l t leaf fathers siblings forms word there held asks =
      let path : way x l t ++ [] ≡ leaf ∷ (fathers ++ held.above) = append-nil (way x l t) ∙ held.whole in
      let wholeAsks : needs k memory x leaf (fathers ++ held.above) siblings ≡ nothing
      = needs_held k memory x fathers held.above siblings leaf held.top ∙ asks in
      subst (λ (W : List Write). Leads k n memory l t W (without x (entries_of l t)))
      (ap (λ (p : List ℕ). changes_on k memory x p siblings) path
      ∙ shrunk_stops k memory x fathers held.above siblings leaf (with_entries (memory leaf) (without x (memory leaf).entries)) asks)
      (whole_leads l t siblings forms word there
      (subst (λ (p : List ℕ). asks_on k memory x p siblings ≡ nothing) (sym path) wholeAsks))

pub deletion_leads : DeletionLeads
deletion_leads k n memory l t x leaf fathers siblings one forms word there held asks =
    record {
      leads = held_leads k n memory x one l t leaf fathers siblings forms word there held asks;
      writes = λ q m. deletion_held k memory x q leaf fathers siblings m;
    }
