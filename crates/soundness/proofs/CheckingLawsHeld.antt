-- Laws for the words of the pages that a slot holds. Where it holds no page twice, a test of the words is one of the pages and of the
-- kinds under which the slot holds them.
use Prim.Native.Nat.{ℕ, ◌+◌, ◌≤◌}
use mathlib.Core.Bool.{Bool, true, ◌&&◌}
use mathlib.Core.List.{List}
use mathlib.Core.Path.{◌≡◌, sym, ap, ap₂, ◌∙◌}
use native.Mathlib.Omega.{arith}
use lib.ListN.{length, get_or, take}
use lib.Seq.{length-take-le, get_or-take}
use Rattle.ground.specs.Tests.{all, all_below, distinct, member}
use Rattle.ground.proofs.Bools.{same_if_true_together}
use Rattle.ground.proofs.Tests.{all_append, all_at, all_from, all_member, all_from_members, all_below_at, all_below_from, all_below_same, distinct_front, distinct_back, distinct_apart, apart_member, apart_swap}
use Rattle.slots.specs.declared.Lock.{Lock}
use Rattle.slots.specs.declared.Lock.TheVariants.{None}
use Rattle.slots.specs.declared.Under.{Under}
use Rattle.slots.specs.Heard.{lock_named}
use Rattle.slots.specs.Parts.{under, held, path_of, beside_of}
use Rattle.slots.specs.Locks.{lock_among, lock_held}
use Rattle.slots.proofs.LockLaws.{among_once}
use Rattle.lent.specs.Layout.{column_length, depth_row, breadth_row, path_row, beside_row}
use Rattle.lent.specs.Words.{cell, page_in, number_in, column, lock_column, slot_in}
use Rattle.lent.proofs.StateLaws.{length_column, column_cell, lock_cell}
use Rattle.lent.proofs.HoldLaws.{lock_on_path, lock_beside}
use Rattle.soundness.specs.Checking.{column_passes, held_pass}

-- two tests that agree on the pages of a list
pub all_same : (p q : ℕ → Bool) (xs : List ℕ) → ((x : ℕ) → member x xs ≡ true → p x ≡ q x) → all p xs ≡ all q xs
all_same p q xs same =
    same_if_true_together (all p xs) (all q xs)
    (λ t. all_from_members q xs (λ x m. sym (same x m) ∙ all_member p xs t x m))
    (λ t. all_from_members p xs (λ x m. same x m ∙ all_member q xs t x m))

-- cell by cell, and page by page
cells_pass : (f : ℕ → Lock → Bool) (pages : List ℕ) (locks : List Under) → distinct pages ≡ true
    → all_below (length pages) (λ (j : ℕ). f (get_or pages j 0) (get_or locks j (under None)).lock) ≡ all (λ (p : ℕ). f p (lock_among p pages locks)) pages
cells_pass f pages locks different =
    same_if_true_together
    (all_below (length pages) (λ (j : ℕ). f (get_or pages j 0) (get_or locks j (under None)).lock))
    (all (λ (p : ℕ). f p (lock_among p pages locks)) pages)
    (λ t. all_from (λ (p : ℕ). f p (lock_among p pages locks)) pages 0
    (λ j h.
    ap (f (get_or pages j 0)) (among_once pages locks j different h)
    ∙ all_below_at (λ (i : ℕ). f (get_or pages i 0) (get_or locks i (under None)).lock) (length pages) t j h))
    (λ t. all_below_from (λ (i : ℕ). f (get_or pages i 0) (get_or locks i (under None)).lock) (length pages)
    (λ j h.
    sym (ap (f (get_or pages j 0)) (among_once pages locks j different h))
    ∙ all_at (λ (p : ℕ). f p (lock_among p pages locks)) pages 0 t j h))

module _ (test : ℕ → Bool) (f : ℕ → Lock → Bool) (agree : (w : ℕ) → test w ≡ f (page_in w) (lock_named (number_in w))) (ws : List ℕ) where
  -- a column
  column_pass : (row s count : ℕ) → count ≤ column_length → distinct (take count (column ws row s)) ≡ true
      → column_passes test ws row s count
      ≡ all (λ (p : ℕ). f p (lock_among p (take count (column ws row s)) (take count (lock_column ws row s)))) (take count (column ws row s))
  unfolding column_passes
  column_pass row s count few different =
      let pages : List ℕ = take count (column ws row s) in
      let locks : List Under = take count (lock_column ws row s) in
      let long : length pages ≡ count = length-take-le count (column ws row s) (omega (arith, length_column ws row s)) in
      all_below_same (λ (j : ℕ). test (cell ws (row + j) s)) (λ (j : ℕ). f (get_or pages j 0) (get_or locks j (under None)).lock) count
      (λ j h.
      agree (cell ws (row + j) s)
      ∙ ap₂ f
      (sym (get_or-take count (column ws row s) j 0 h ∙ column_cell ws row s j (omega arith)))
      (sym (ap (λ (u : Under). u.lock) (get_or-take count (lock_column ws row s) j (under None) h ∙ lock_cell ws row s j (omega arith)))))
      ∙ ap (λ (m : ℕ). all_below m (λ (j : ℕ). f (get_or pages j 0) (get_or locks j (under None)).lock)) (sym long)
      ∙ cells_pass f pages locks different

  -- path and siblings
  pub held_pass_lem : (s : ℕ) → cell ws depth_row s ≤ column_length → cell ws breadth_row s ≤ column_length → distinct (held (slot_in ws s)) ≡ true
      → held_pass test ws s ≡ all (λ (p : ℕ). f p (lock_held (slot_in ws s) p)) (held (slot_in ws s))
  unfolding path_of beside_of
  held_pass_lem s path beside different =
      let on_path : List ℕ = take (cell ws depth_row s) (column ws path_row s) in
      let aside : List ℕ = take (cell ws breadth_row s) (column ws beside_row s) in
      ap₂ (λ (a b : Bool). a && b)
      (column_pass path_row s (cell ws depth_row s) path (distinct_front on_path aside different)
      ∙ all_same (λ (p : ℕ). f p (lock_among p on_path (take (cell ws depth_row s) (lock_column ws path_row s)))) (λ (p : ℕ). f p (lock_held (slot_in ws s) p)) on_path
      (λ p m. ap (f p) (lock_on_path ws s p path m)))
      (column_pass beside_row s (cell ws breadth_row s) beside (distinct_back on_path aside different)
      ∙ all_same (λ (p : ℕ). f p (lock_among p aside (take (cell ws breadth_row s) (lock_column ws beside_row s)))) (λ (p : ℕ). f p (lock_held (slot_in ws s) p)) aside
      (λ p m. ap (f p) (lock_beside ws s p path (apart_member aside on_path (apart_swap on_path aside (distinct_apart on_path aside different)) p m))))
      ∙ sym (all_append (λ (p : ℕ). f p (lock_held (slot_in ws s) p)) on_path aside)
