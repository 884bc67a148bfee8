-- What a call on slots answers and leaves, case by case of its rule, and that this is what is promised.
use Prim.Native.Nat.{ℕ, ◌+◌, ◌≤◌, ◌<◌}
use mathlib.Core.Bool.{true, false, cond, not}
use mathlib.Core.List.{List}
use mathlib.Core.Path.{◌≡◌, refl, sym, ap, ◌∙◌}
use lib.Dec.{ltb}
use lib.ListN.{length, get_or, set, length-set}
use borrow.Author.Tests.{lt-ltb, le-ltb}
use Rattle.ground.specs.Limits.{slot_count}
use Rattle.ground.proofs.Bools.{not_of_true, not_of_false}
use Rattle.ground.proofs.Choice.{cond-true, cond-false}
use Rattle.slots.specs.declared.Op.{Op}
use Rattle.slots.specs.declared.State.{State}
use Rattle.slots.specs.declared.Outcome.{Outcome}
use Rattle.slots.specs.declared.Answer.{Answer}
use Rattle.slots.specs.declared.Answer.TheVariants.{Begun, Reported, BadState, BadSlot, SlotBusy, BadPage, BadKey}
use Rattle.slots.specs.Operations.{blank_tag}
use Rattle.slots.specs.Parts.{open_at, fresh_stand, slot_of}
use Rattle.slots.specs.Heard.{heard, changes_nothing}
use Rattle.slots.specs.Sound.{sound}
use Rattle.slots.specs.Book.{begins}
use Rattle.slots.specs.Begin.{outcome, begun}
use Rattle.slots.specs.Report.{lock_kind, holders, lowest_holder, reported}
use Rattle.lent.specs.Layout.{n_at, waiting_at, state_length}
use Rattle.lent.specs.Words.{order_in, as_read, known, state_of, laid_into, lent_after}
use Rattle.lent.proofs.StateLaws.{length_order, state_known, fresh_layable, state_written}
use Rattle.index.specs.Statements.{BeginSays, ReportSays}

-- ---- begin

module _ (st : State) (s : ℕ) (op : Op) where
  begun_unsound : sound st ≡ false → outcome BadState st ≡ begun st s op
  unfolding begun
  begun_unsound h = sym (cond-true _ _ (not_of_false h))

  sound_begins : sound st ≡ true
      → cond (not (ltb s slot_count)) (outcome BadSlot st) (cond (open_at st s) (outcome SlotBusy st) (cond (blank_tag op) (outcome BadKey st) (outcome Begun (begins st s op)))) ≡ begun st s op
  unfolding begun
  sound_begins h = sym (cond-false _ _ (not_of_true h))

  begun_nowhere : sound st ≡ true → slot_count ≤ s → outcome BadSlot st ≡ begun st s op
  begun_nowhere h b = sym (cond-true _ _ (not_of_false (le-ltb s slot_count b))) ∙ sound_begins h

  slot_begins : sound st ≡ true → s < slot_count
      → cond (open_at st s) (outcome SlotBusy st) (cond (blank_tag op) (outcome BadKey st) (outcome Begun (begins st s op))) ≡ begun st s op
  slot_begins h b = sym (cond-false _ _ (not_of_true (lt-ltb s slot_count b))) ∙ sound_begins h

  begun_busy : sound st ≡ true → s < slot_count → open_at st s ≡ true → outcome SlotBusy st ≡ begun st s op
  begun_busy h b o = sym (cond-true _ _ o) ∙ slot_begins h b

  closed_begins : sound st ≡ true → s < slot_count → open_at st s ≡ false → cond (blank_tag op) (outcome BadKey st) (outcome Begun (begins st s op)) ≡ begun st s op
  closed_begins h b o = sym (cond-false _ _ o) ∙ slot_begins h b

  begun_blank : sound st ≡ true → s < slot_count → open_at st s ≡ false → blank_tag op ≡ true → outcome BadKey st ≡ begun st s op
  begun_blank h b o t = sym (cond-true _ _ t) ∙ closed_begins h b o

  begun_done : sound st ≡ true → s < slot_count → open_at st s ≡ false → blank_tag op ≡ false → outcome Begun (begins st s op) ≡ begun st s op
  begun_done h b o t = sym (cond-false _ _ t) ∙ closed_begins h b o

-- an answer and words that are the rule's
begin_says : (cells : List ℕ) (s : ℕ) (op : Op) (r : Outcome) {after : List ℕ} → r ≡ begun (state_of cells) s op → state_of after ≡ r.state
    → after ≡ lent_after cells s r.answer r.state
    → BeginSays cells s op r.answer after
begin_says cells s op r e state words = record {
  answer = ap (λ (o : Outcome). heard o.answer) e;
  state = state ∙ ap (λ (o : Outcome). o.state) e;
  all = words ∙ ap (λ (o : Outcome). lent_after cells s o.answer o.state) e;
}

module _ (cells : List ℕ) (s : ℕ) (op : Op) where
  -- a refusal leaves every word
  refused : (a : Answer) → outcome a (state_of cells) ≡ begun (state_of cells) s op → changes_nothing a ≡ true → BeginSays cells s op a cells
  unfolding lent_after
  refused a e q = begin_says cells s op (outcome a (state_of cells)) e refl (sym (cond-true cells (laid_into cells s (state_of cells)) q))

  pub says_unsound : sound (state_of cells) ≡ false → BeginSays cells s op BadState cells
  says_unsound h = refused BadState (begun_unsound (state_of cells) s op h) refl

  module _ (h : sound (state_of cells) ≡ true) where
    pub says_nowhere : slot_count ≤ s → BeginSays cells s op BadSlot cells
    says_nowhere b = refused BadSlot (begun_nowhere (state_of cells) s op h b) refl

    module _ (b : s < slot_count) (exist : known cells ≡ true) where
      pub says_busy : open_at (as_read cells) s ≡ true → BeginSays cells s op SlotBusy cells
      says_busy o = refused SlotBusy (begun_busy (state_of cells) s op h b (ap (λ (st : State). open_at st s) (state_known cells exist) ∙ o)) refl

      pub says_blank : open_at (as_read cells) s ≡ false → blank_tag op ≡ true → BeginSays cells s op BadKey cells
      says_blank o t = refused BadKey (begun_blank (state_of cells) s op h b (ap (λ (st : State). open_at st s) (state_known cells exist) ∙ o) t) refl

      pub says_begun : length cells ≡ state_length → open_at (as_read cells) s ≡ false → blank_tag op ≡ false → {after : List ℕ} → after ≡ laid_into cells s (begins (as_read cells) s op)
          → BeginSays cells s op Begun after
      unfolding begins slot_count lent_after
      says_begun long o t {after} e =
          let read : state_of cells ≡ as_read cells = state_known cells exist in
          begin_says cells s op (outcome Begun (begins (state_of cells) s op))
          (begun_done (state_of cells) s op h b (ap (λ (st : State). open_at st s) read ∙ o) t)
          (ap state_of e
          ∙ state_written cells s (slot_of (fresh_stand op)) (set (order_in cells) (get_or cells waiting_at 0) s) (get_or cells waiting_at 0 + 1) long b
          (length-set (order_in cells) (get_or cells waiting_at 0) s ∙ length_order cells long) (fresh_layable op) exist
          ∙ ap (λ (st : State). begins st s op) (sym read))
          (e ∙ ap (λ (st : State). laid_into cells s (begins st s op)) (sym read))

-- ---- report

module _ (st : State) (p : ℕ) where
  reported_unsound : sound st ≡ false → BadState ≡ reported st p
  unfolding reported
  reported_unsound h = sym (cond-true _ _ (not_of_false h))

  sound_reports : sound st ≡ true → cond (not (ltb p st.n)) BadPage (Reported (lock_kind st p) (holders st p) (lowest_holder st p)) ≡ reported st p
  unfolding reported
  sound_reports h = sym (cond-false _ _ (not_of_true h))

  reported_nowhere : sound st ≡ true → st.n ≤ p → BadPage ≡ reported st p
  reported_nowhere h b = sym (cond-true _ _ (not_of_false (le-ltb p st.n b))) ∙ sound_reports h

  reported_done : sound st ≡ true → p < st.n → Reported (lock_kind st p) (holders st p) (lowest_holder st p) ≡ reported st p
  reported_done h b = sym (cond-false _ _ (not_of_true (lt-ltb p st.n b))) ∙ sound_reports h

module _ (cells : List ℕ) (p : ℕ) where
  pub report_unsound : sound (state_of cells) ≡ false → ReportSays cells p BadState
  report_unsound h = record { answer = ap heard (reported_unsound (state_of cells) p h) }

  module _ (h : sound (state_of cells) ≡ true) (exist : known cells ≡ true) where
    read : state_of cells ≡ as_read cells
    read = state_known cells exist

    h' : sound (as_read cells) ≡ true
    h' = ap sound (sym read) ∙ h

    pub report_nowhere : get_or cells n_at 0 ≤ p → ReportSays cells p BadPage
    report_nowhere b = record { answer = ap heard (reported_nowhere (as_read cells) p h' b ∙ ap (λ (st : State). reported st p) (sym read)) }

    pub report_done : p < get_or cells n_at 0 → {r : Answer} → r ≡ Reported (lock_kind (as_read cells) p) (holders (as_read cells) p) (lowest_holder (as_read cells) p) → ReportSays cells p r
    report_done b e = record { answer = ap heard (e ∙ reported_done (as_read cells) p h' b ∙ ap (λ (st : State). reported st p) (sym read)) }
