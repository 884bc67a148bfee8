-- The path that a slot holds in a pool that is a tree: the held part of its key's way, as the changes of the tree ask for it; and
-- that a page of the tree, other than page 0, has at least k.
use Prim.Native.Nat.{ℕ, zero, suc, ◌+◌, ◌*◌, ◌≤◌, ◌<◌}
use native.Mathlib.Omega.{arith}
use mathlib.Core.Bool.{true, false, not}
use mathlib.Core.List.{List, [], ◌∷◌, ◌++◌, reverse, reverse-cons}
use mathlib.Core.Logic.{inl, inr, ⊎_elim, ◌≢◌}
use mathlib.Core.Path.{◌≡◌, refl, sym, ap, ◌∙◌, subst}
use borrow.Author.Tests.{leb-true, leb-false}
use lib.Dec.{leb}
use lib.ListN.{length, get_or, length-append, length-reverse, get_or-append}
use lib.Seq.{append_snoc, get_or-append_seam}
use Rattle.ground.specs.Limits.{word_range}
use Rattle.ground.specs.Tests.{all, member}
use Rattle.ground.proofs.Bools.{not_of_false}
use Rattle.ground.proofs.Tests.{member_at, member_from, all_from_members}
use Rattle.page.specs.Words.{Keyed, Page, μ}
use Rattle.slots.specs.declared.Op.{Op}
use Rattle.slots.specs.Parts.{key_of}
use Rattle.footing.specs.Granted.{is_safe}
use Rattle.tree.specs.Rows.{head_key, Span}
use Rattle.tree.specs.Tree.{Tr, page_number, page_of, once, occurs, root_least, InRange, Holds, way, Forms}
use Rattle.tree.specs.Change.{HeldWay}
use Rattle.ground.proofs.Choice.{by_test}
use Rattle.tree.proofs.Rows.{middle_has}
use Rattle.tree.proofs.Memory.{once_is, times, times_append, member_times, way_occurs}
use Rattle.tree.proofs.Search.{each_here, way_facts}
use Rattle.tree.proofs.Ways.{total_found, row_μ}
use Rattle.runs.specs.Stance.{Rightly}
use Rattle.runs.proofs.Paths.{no_length, member_reverse, top_last}

-- ---- how much a page has

module _ (k : ℕ) (memory : ℕ → Page) where
  -- a page of a tree has k, if the root page has
  has_least : (m M l : ℕ) (t : Tr l) (lo hi q : ℕ) → InRange k m M l t lo hi → Holds memory l t → 1 ≤ occurs q l t
      → (q ≡ page_number l t → k ≤ m) → k ≤ μ (memory q)
  has_least m M zero t lo hi q r h o root =
      let same : q ≡ t.at = once_is q t.at o in
      let value : μ (memory q) ≡ μ (page_of zero t) = ap (λ (p : ℕ). μ (memory p)) same ∙ ap μ h in
      omega (arith, root same, r.least)
  has_least m M (suc l) t lo hi q r h o root =
      by_test (leb 1 (once q t.at))
      (λ y.
      let same : q ≡ t.at = once_is q t.at (leb-true 1 (once q t.at) y) in
      let value : μ (memory q) ≡ μ (page_of (suc l) t) = ap (λ (p : ℕ). μ (memory p)) same ∙ ap μ h.0 in
      omega (arith, root same, r.least, row_μ (suc (suc l)) (page_number l) t.row (omega (arith, r.least))))
      (λ z.
      let none = leb-false 1 (once q t.at) z in
      let f = total_found (occurs q l) t.row hi (omega arith) in
      let P : Tr l → ℕ → ℕ → Type 0 = InRange k k (2 * k) l in
      has_least k (2 * k) l f.here.value f.here.key (head_key f.after hi) q
      (middle_has P f.before f.here f.after hi
      (subst (λ (row : List (Keyed (Tr l))). Span P row hi) f.whole r.children))
      (each_here (Holds memory l) f.before f.here f.after t.row f.whole h.1)
      f.has
      (λ e. omega arith))

  -- "μ is k to 2k in every page but page 0."
  pub page_least : (n l : ℕ) (t : Tr l) → Forms k n memory l t → (q : ℕ) → 1 ≤ occurs q l t → q ≢ 0 → k ≤ μ (memory q)
  page_least n l t forms q o other =
      has_least (root_least l) (2 * k) l t 0 word_range q forms.in_range forms.holds o (λ e. absurd (other (e ∙ forms.root)))

-- ---- the held part of a way

module _ (k n : ℕ) (memory : ℕ → Page) (l : ℕ) (t : Tr l) (forms : Forms k n memory l t) (x : ℕ) (key : x < word_range) where
  -- nothing is above page 0
  pub root_last : (lower upper : List ℕ) → way x l t ≡ lower ++ 0 ∷ upper → upper ≡ []
  root_last lower upper e =
      let facts = way_facts k n memory l t forms x key in
      let i : ℕ = length lower in
      let size : l + 1 ≡ i + suc (length upper) = sym facts.pages ∙ ap length e ∙ length-append lower (0 ∷ upper) in
      let here : get_or (way x l t) i 0 ≡ 0 = ap (λ (w : List ℕ). get_or w i 0) e ∙ get_or-append_seam lower 0 upper 0 in
      let level : (memory 0).level ≡ i + 1 = sym (ap (λ (p : ℕ). (memory p).level) here) ∙ facts.level i (omega arith) in
      let top : (memory 0).level ≡ l + 1 = sym (ap (λ (p : ℕ). (memory p).level) facts.root) ∙ facts.level l (omega arith) in
      no_length upper (omega arith)

  -- the pages of a part of the way are pages of the tree
  pub way_pages : (part upper : List ℕ) → way x l t ≡ part ++ upper → (q : ℕ) → member q part ≡ true → 1 ≤ occurs q l t
  way_pages part upper e q m =
      let here = member_times q part m in
      omega (arith, ap (times q) e, times_append q part upper, way_occurs q x l t)

-- no page of a path below its top is safe, read upward
pub below_unsafe : (op : Op) (k : ℕ) (memory : ℕ → Page) (path : List ℕ) → Rightly op k memory path → (j : ℕ) → suc j < length path
    → is_safe op k (memory (get_or (reverse path) j 0)) ≡ false
below_unsafe op k memory [] rightly j h = absurd (omega arith)
below_unsafe op k memory (top ∷ below) rightly j h =
    let q : ℕ = get_or (reverse below) j 0 in
    let inside : j < length (reverse below) = omega (arith, length-reverse below) in
    let here : get_or (reverse (top ∷ below)) j 0 ≡ q
    = ap (λ (up : List ℕ). get_or up j 0) (reverse-cons top below) ∙ get_or-append (reverse below) (top ∷ []) 0 j inside in
    let found = member_at q below 0 (sym (member_reverse q below) ∙ member_from q (reverse below) j 0 inside refl) in
    subst (λ (p : ℕ). is_safe op k (memory p) ≡ false) (found.2 ∙ sym here) (rightly.unsafe found.0 (omega (arith, found.1)))

-- The pages of a path that reaches the leaf, upward: the top one is safe or page 0, and none below it is safe.
pub held_way : (op : Op) (k n : ℕ) (memory : ℕ → Page) (l : ℕ) (t : Tr l) (path : List ℕ) (leaf : ℕ) (fathers upper : List ℕ)
    → Forms k n memory l t → key_of op < word_range → Rightly op k memory path → reverse path ≡ leaf ∷ fathers
    → way (key_of op) l t ≡ reverse path ++ upper
    → HeldWay (λ (p : ℕ). is_safe op k (memory p)) (key_of op) l t leaf fathers
held_way op k n memory l t [] leaf fathers upper forms key rightly upward whole = absurd (omega (arith, rightly.some))
held_way op k n memory l t (top ∷ below) leaf fathers upper forms key rightly upward whole =
    let turned : reverse (top ∷ below) ≡ reverse below ++ top ∷ [] = reverse-cons top below in
    let ends = top_last leaf fathers (reverse below) top (sym upward ∙ turned) in
    let above : way (key_of op) l t ≡ reverse below ++ top ∷ upper
    = whole ∙ ap (λ (up : List ℕ). up ++ upper) turned ∙ append_snoc (reverse below) top upper in
    record {
      above = upper;
      whole = whole ∙ ap (λ (up : List ℕ). up ++ upper) upward;
      top =
          ⊎_elim
          (λ e. inl (root_last k n memory l t forms (key_of op) key (reverse below) upper
          (above ∙ ap (λ (p : ℕ). reverse below ++ p ∷ upper) e)))
          (λ s. inr (ap (λ (p : ℕ). is_safe op k (memory p)) ends.0 ∙ s))
          rightly.top;
      unsafe =
          subst (λ (ps : List ℕ). all (λ (p : ℕ). not (is_safe op k (memory p))) ps ≡ true) (sym ends.1)
          (all_from_members (λ (p : ℕ). not (is_safe op k (memory p))) (reverse below)
          (λ q m.
          let found = member_at q below 0 (sym (member_reverse q below) ∙ m) in
          subst (λ (p : ℕ). not (is_safe op k (memory p)) ≡ true) found.2
          (not_of_false (rightly.unsafe found.0 (omega (arith, found.1))))));
    }
