-- Laws of the waiting order written in place, and that what a call on a slot writes is the rule's next state in words.
use Prim.Native.Nat.{ℕ, suc, ◌+◌, ◌-◌, ◌<◌, ◌≤◌}
use native.Mathlib.Numerals.{add-one}
use mathlib.Core.Path.{◌≡◌, refl, sym, ap, ap₂, ◌∙◌, subst}
use mathlib.Core.Logic.{◌≢◌}
use mathlib.Core.Bool.{true, false}
use Rattle.std.proofs.Common.{Option, Some, None}
use Rattle.std.proofs.lemmas.List.{drop-take}
use Rattle.std.specs.List.{AllWithin, HoldsAt, copy_within}
use Rattle.std.specs.Option.{MatchOption, IsSome}
use Rattle.ground.specs.Tests.{member}
use Rattle.ground.proofs.Tests.{member_at, not_member_from}
use Rattle.slots.proofs.OrderLaws.{leaving_between}
use mathlib.Core.List.{List, [], ◌∷◌, ◌++◌}
use native.Mathlib.Omega.{arith}
use lib.ListN.{length, get_or, take, drop, set, length-append, length-drop, take-append-drop}
use borrow.Rule.Slice.PartMut.{put_mid}
use lib.Seq.{length-take-le, set-append_left, set_at, drop-cons, get_or-take, take-take}
use Rattle.slots.specs.declared.Op.{Op}
use Rattle.slots.specs.declared.Slot.{Slot}
use Rattle.slots.specs.Parts.{fresh_stand, slot_of, closed_slot, waiting_order}
use Rattle.slots.specs.Heard.{lock_number}
use Rattle.slots.specs.Book.{leaving, begins, requeued, closes}
use Rattle.lent.specs.Layout.{waiting_at, order_from, row_length, kind_row, want_row, lock_row, depth_row, breadth_row, path_row, beside_row, state_length}
use Rattle.lent.specs.Words.{address, order_in, as_read, kind_of, key_in, information_in, hold_words, spread, slot_laid, order_laid, laid_into}
use Rattle.lent.proofs.SpreadLaws.{spread_append}
use Rattle.lent.proofs.StateLaws.{by_front, length_hold, written_laid}

-- ---- one more that waits

joined_front : (w s a b x : ℕ) (rest : List ℕ) → w < row_length → length (a ∷ b ∷ x ∷ rest) ≡ state_length
    → set (set (a ∷ b ∷ x ∷ rest) (w + 3) s) 2 (w + 1) ≡ order_laid (a ∷ b ∷ x ∷ rest) (w + 1) (set (order_in (a ∷ b ∷ x ∷ rest)) w s)
unfolding order_laid order_in
joined_front w s a b x rest h long =
    let at : w + 3 ≡ suc (suc (suc w)) = omega arith in
    let room : length (take row_length rest) ≡ row_length = length-take-le row_length rest (omega arith) in
    ap (λ (i : ℕ). set (set (a ∷ b ∷ x ∷ rest) i s) 2 (w + 1)) at
    ∙ ap (λ (l : List ℕ). a ∷ b ∷ (w + 1) ∷ set l w s) (sym (take-append-drop row_length rest))
    ∙ ap (λ (l : List ℕ). a ∷ b ∷ (w + 1) ∷ l) (set-append_left (take row_length rest) (drop row_length rest) w s (omega arith))

pub joined : (ws : List ℕ) (w s : ℕ) → length ws ≡ state_length → w < row_length → set (set ws (w + order_from) s) waiting_at (w + 1) ≡ order_laid ws (w + 1) (set (order_in ws) w s)
joined ws w s long h =
    by_front (λ (l : List ℕ). length l ≡ state_length → set (set l (w + order_from) s) waiting_at (w + 1) ≡ order_laid l (w + 1) (set (order_in l) w s))
    (λ a b x rest e. joined_front w s a b x rest h e)
    ws (omega arith) long

-- ---- one leaves

-- the first place at which slot s stands in an order, if it stands there
abbrev pub FirstOf : ℕ → List ℕ → Option ℕ → Type 0
FirstOf s order found =
    MatchOption found (AllWithin (λ t. t ≢ s) order 0 (length order))
    (λ i. (i < length order) × HoldsAt (λ t. t ≡ s) order i × AllWithin (λ t. t ≢ s) order 0 i)

pub stands_some : (s : ℕ) (order : List ℕ) (found : Option ℕ) → member s order ≡ true → FirstOf s order found → IsSome found
stands_some s order None here first =
    let there = member_at s order 0 here in
    absurd (first there.0 0 (omega arith) there.1 there.2)
stands_some s order (Some i) here first = refl

-- the order is cut there
pub stands_at : (s : ℕ) (cells : List ℕ) (w i : ℕ) {found : Option ℕ} → w ≤ length cells → found ≡ Some i → FirstOf s (take w cells) found
    → (i < w) × (leaving s (take w cells) ≡ take i cells ++ drop (i + 1) (take w cells))
stands_at s cells w i fits e first =
    let order : List ℕ = take w cells in
    let long : length order ≡ w = length-take-le w cells fits in
    let f : (i < length order) × HoldsAt (λ t. t ≡ s) order i × AllWithin (λ t. t ≢ s) order 0 i = subst (FirstOf s order) e first in
    let before : member s (take i order) ≡ false =
    not_member_from s (take i order) 0 (λ k h same. let below : k < i = omega (arith, length-take-le i order (omega arith)) in
    f.2 k 0 (omega arith) below (sym (get_or-take i order k 0 below) ∙ same)) in (
      omega arith,
      ap (leaving s) (sym (take-append-drop i order) ∙ ap (λ (l : List ℕ). take i order ++ l) (drop-cons order i 0 f.0 ∙ ap (λ (x : ℕ). x ∷ drop (suc i) order) (f.1 0)))
          ∙ leaving_between s (take i order) (drop (suc i) order) before
          ∙ ap₂ (λ (l : List ℕ) (n : ℕ). l ++ drop n order) (take-take i w cells (omega arith)) (sym (add-one i)),
    )

-- those behind place `at` moved one place forward, and the last place written
pub closed_up : (order : List ℕ) (at w last : ℕ) → at < w → w ≤ length order
    → set (copy_within order (at + 1) w at) (w - 1) last ≡ (take at order ++ drop (at + 1) (take w order)) ++ last ∷ drop w order
closed_up order at w last behind fits =
    let n : ℕ = w - (at + 1) in
    let front : List ℕ = take at order ++ take n (drop (at + 1) order) in
    let a : length (take at order) ≡ at = length-take-le at order (omega arith) in
    let b : length (take n (drop (at + 1) order)) ≡ n = length-take-le n (drop (at + 1) order) (omega (arith, length-drop (at + 1) order)) in
    let long : length front ≡ w - 1 = length-append (take at order) (take n (drop (at + 1) order)) ∙ omega arith in
    let there : at + n ≡ w - 1 = omega arith in
    let next : suc (w - 1) ≡ w = omega arith in
    let moved : at + 1 + n ≡ w = omega arith in
    ap (λ (m : ℕ). set (front ++ drop m order) (w - 1) last) there
    ∙ ap (λ (l : List ℕ). set (front ++ l) (w - 1) last) (drop-cons order (w - 1) 0 (omega arith))
    ∙ set_at front (get_or order (w - 1) 0) (drop (suc (w - 1)) order) last (w - 1) long
    ∙ ap (λ (m : ℕ). front ++ last ∷ drop m order) next
    ∙ ap (λ (l : List ℕ). (take at order ++ l) ++ last ∷ drop w order)
    (sym (drop-take (at + 1) n order) ∙ ap (λ (m : ℕ). drop (at + 1) (take m order)) moved)

-- the order alone written anew
pub left_laid : (ws order : List ℕ) → length ws ≡ state_length → put_mid order_from row_length ws order ≡ order_laid ws (get_or ws waiting_at 0) order
unfolding order_laid
left_laid ws order long =
    by_front (λ (l : List ℕ). put_mid order_from row_length l order ≡ order_laid l (get_or l 2 0) order) (λ a b x rest. refl) ws (omega arith)

-- then the number of those that wait
pub fewer_laid : (ws order : List ℕ) (w v : ℕ) → length ws ≡ state_length → set (order_laid ws w order) waiting_at v ≡ order_laid ws v order
unfolding order_laid
fewer_laid ws order w v long =
    by_front (λ (l : List ℕ). set (order_laid l w order) waiting_at v ≡ order_laid l v order) (λ a b x rest. refl) ws (omega arith)

-- ---- the whole

module _ (ws : List ℕ) (s : ℕ) (long : length ws ≡ state_length) (inside : s < row_length) where
  pub begins_writes : (op : Op) → slot_laid (order_laid ws (get_or ws waiting_at 0 + 1) (set (order_in ws) (get_or ws waiting_at 0) s)) s (slot_of (fresh_stand op)) ≡ laid_into ws s (begins (as_read ws) s op)
  unfolding begins
  begins_writes op = sym (written_laid ws s (slot_of (fresh_stand op)) (set (order_in ws) (get_or ws waiting_at 0) s) (get_or ws waiting_at 0 + 1) long inside)

  pub requeued_writes : (slot : Slot)
      → slot_laid (order_laid ws (get_or ws waiting_at 0) (leaving s (take (get_or ws waiting_at 0) (order_in ws)) ++ s ∷ drop (get_or ws waiting_at 0) (order_in ws))) s slot ≡ laid_into ws s (requeued (as_read ws) s slot)
  unfolding waiting_order
  requeued_writes slot = sym (written_laid ws s slot _ (get_or ws waiting_at 0) long inside)

  pub closes_writes : slot_laid (order_laid ws (get_or ws waiting_at 0 - 1) (leaving s (take (get_or ws waiting_at 0) (order_in ws)) ++ 0 ∷ drop (get_or ws waiting_at 0) (order_in ws))) s closed_slot ≡ laid_into ws s (closes (as_read ws) s)
  unfolding waiting_order closes
  closes_writes = sym (written_laid ws s closed_slot _ (get_or ws waiting_at 0 - 1) long inside)

-- a slot laid down number by number
pub laid_by : (ws : List ℕ) (s : ℕ) (slot : Slot) {c₁ c₂ c₃ c₄ c₅ c₆ c₇ : List ℕ} {number : ℕ}
    → c₁ ≡ spread ws kind_row s (kind_of slot.task ∷ key_in slot.task ∷ information_in slot.task ∷ [])
    → c₂ ≡ set c₁ (address want_row s) slot.want
    → number ≡ lock_number slot.lock
    → c₃ ≡ set c₂ (address lock_row s) number
    → c₄ ≡ set c₃ (address depth_row s) slot.depth
    → c₅ ≡ set c₄ (address breadth_row s) slot.breadth
    → c₆ ≡ spread c₅ path_row s (hold_words slot.path slot.locks)
    → c₇ ≡ spread c₆ beside_row s (hold_words slot.beside slot.sidelocks)
    → c₇ ≡ slot_laid ws s slot
unfolding slot_laid spread
laid_by ws s slot {c₂ = c₂} e₁ e₂ n e₃ e₄ e₅ e₆ e₇ =
    let seven : List ℕ = spread ws kind_row s (kind_of slot.task ∷ key_in slot.task ∷ information_in slot.task ∷ slot.want ∷ lock_number slot.lock ∷ slot.depth ∷ slot.breadth ∷ []) in
    let there : _ ≡ seven =
    e₅
    ∙ ap (λ (l : List ℕ). set l (address breadth_row s) slot.breadth)
    (e₄
    ∙ ap (λ (l : List ℕ). set l (address depth_row s) slot.depth)
    (e₃
    ∙ ap (set c₂ (address lock_row s)) n
    ∙ ap (λ (l : List ℕ). set l (address lock_row s) (lock_number slot.lock)) (e₂ ∙ ap (λ (l : List ℕ). set l (address want_row s) slot.want) e₁))) in
    let on_path : List ℕ = hold_words slot.path slot.locks in
    let aside : List ℕ = hold_words slot.beside slot.sidelocks in
    let behind : path_row + length on_path ≡ beside_row = omega (arith, length_hold slot.path slot.locks) in
    e₇
    ∙ ap (λ (l : List ℕ). spread l beside_row s aside) (e₆ ∙ ap (λ (l : List ℕ). spread l path_row s on_path) there)
    ∙ ap (λ (r : ℕ). spread (spread seven path_row s on_path) r s aside) (sym behind)
    ∙ sym (spread_append seven path_row s on_path aside)
