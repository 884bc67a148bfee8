-- Each way out is a case of the rule; a closed slot of a sound state leaves room in the waiting order.
use Rattle.index.proofs.CallLaws.{says_unsound, says_nowhere, says_busy, says_blank, says_begun}
use Rattle.soundness.proofs.CheckingLawsSound.{sound_words, kind_closed, kind_open}
use Rattle.lent.proofs.StateLaws.{length_order}
use Rattle.lent.specs.Words.{as_read, state_of}
use Rattle.slots.proofs.OrderLaws.{order_has_room}
use Rattle.slots.specs.Sound.{sound}
use Rattle.slots.specs.Parts.{open_at}
use Rattle.ground.specs.Limits.{slot_count}
use mathlib.Core.Path.{◌≡◌, sym, ◌∙◌}
use mathlib.Core.Bool.{true, false}
use Rattle.index.proofs.beginning.begin.Goals.{Else-kind-ne0, Else-not-is_sound}
use Rattle.index.proofs.beginning.begin.Goals as goal

pub returns-then-not-is_sound : goal.returns-then-not-is_sound
returns-then-not-is_sound c =
    says_unsound c.args.state.now c.args.s c.args.op (sym c.is_sound.ensures ∙ c.if-not-is_sound.true)

kept : (c : Else-not-is_sound) → sound (state_of c.args.state.now) ≡ true
kept c =
    sym c.is_sound.ensures ∙ c.if-not-is_sound.false

pub returns-then-s-ge-SLOTS : goal.returns-then-s-ge-SLOTS
unfolding slot_count
returns-then-s-ge-SLOTS c =
    says_nowhere c.args.state.now c.args.s c.args.op (kept (goal.at.returns-then-s-ge-SLOTS c).Else-not-is_sound) c.if-s-ge-SLOTS.true

pub returns-then-kind-ne0 : goal.returns-then-kind-ne0
unfolding slot_count
returns-then-kind-ne0 c =
    let known = sound_words c.args.state.now (kept (goal.at.returns-then-kind-ne0 c).Else-not-is_sound) in
    says_busy c.args.state.now c.args.s c.args.op (kept (goal.at.returns-then-kind-ne0 c).Else-not-is_sound) c.if-s-ge-SLOTS.false known.exist
    (kind_open c.args.state.now c.args.s known.exist c.if-s-ge-SLOTS.false (λ e. c.if-kind-ne0.true (c.kind.ensures ∙ e)))

-- the slot is closed
shut : (c : Else-kind-ne0) → open_at (as_read c.args.state.now) c.args.s ≡ false
shut c =
    kind_closed c.args.state.now c.args.s (sound_words c.args.state.now (sym c.is_sound.ensures ∙ c.if-not-is_sound.false)).exist
    c.if-s-ge-SLOTS.false (sym c.kind.ensures ∙ c.if-kind-ne0.false)

pub returns-then-blank_tag : goal.returns-then-blank_tag
unfolding slot_count
returns-then-blank_tag c =
    let known = sound_words c.args.state.now (kept (goal.at.returns-then-blank_tag c).Else-not-is_sound) in
    says_blank c.args.state.now c.args.s c.args.op (kept (goal.at.returns-then-blank_tag c).Else-not-is_sound) c.if-s-ge-SLOTS.false known.exist
    (shut (goal.at.returns-then-blank_tag c).Else-kind-ne0) (sym c.blank_tag.ensures ∙ c.if-blank_tag.true)

pub begins-requires : goal.begins-requires
unfolding slot_count
begins-requires c =
    let known = sound_words c.args.state.now (kept (goal.at.begins-requires c).Else-not-is_sound) in (
      c.if-s-ge-SLOTS.false,
      order_has_room (as_read c.args.state.now) (length_order c.args.state.now c.sized.ensures) known.facts c.args.s c.if-s-ge-SLOTS.false
          (shut (goal.at.begins-requires c).Else-kind-ne0),
    )

pub returns : goal.returns
unfolding slot_count
returns c =
    let known = sound_words c.args.state.now (kept (goal.at.returns c).Else-not-is_sound) in
    says_begun c.args.state.now c.args.s c.args.op (kept (goal.at.returns c).Else-not-is_sound) c.if-s-ge-SLOTS.false known.exist c.sized.ensures
    (shut (goal.at.returns c).Else-kind-ne0) (sym c.blank_tag.ensures ∙ c.if-blank_tag.false) c.begins.ensures
