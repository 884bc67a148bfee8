-- Each way out is a case of the rule, in the rule's order. Past the tests the slot waits and is as a granted step asks.
use Rattle.ground.specs.Limits.{slot_count}
use Rattle.index.proofs.StepLaws.{Passed, says_unsound, says_pool, says_slot, words_passed, says_idle, open_waits, open_asks, says_waiting, says_granted}
use Rattle.soundness.proofs.CheckingLawsSound.{SoundWords, sound_words}
use Rattle.lent.proofs.StateLaws.{slot_read}
use Rattle.lent.specs.Words.{as_read}
use Rattle.slots.specs.Parts.{slot_at}
use mathlib.Core.Path.{◌≡◌, sym, ◌∙◌}
use Rattle.index.proofs.calls.step.Goals.{After-slot-slot, Else-not-is_sound, Else-s-ge-SLOTS}
use Rattle.index.proofs.calls.step.Goals as goal

pub returns-then-not-is_sound : goal.returns-then-not-is_sound
returns-then-not-is_sound c =
    says_unsound c.args.state.now c.args.words.now c.args.s (sym c.is_sound.ensures ∙ c.if-not-is_sound.true)

-- past the first test
kept : (c : Else-not-is_sound) → SoundWords c.args.state.now
kept c =
    sound_words c.args.state.now (sym c.is_sound.ensures ∙ c.if-not-is_sound.false)

pub returns-then-not-is_pool : goal.returns-then-not-is_pool
returns-then-not-is_pool c =
    says_pool c.args.state.now c.args.words.now c.args.s (kept (goal.at.returns-then-not-is_pool c).Else-not-is_sound) c.is_pool.ensures
    c.if-not-is_pool.true

pub returns-then-s-ge-SLOTS : goal.returns-then-s-ge-SLOTS
unfolding slot_count
returns-then-s-ge-SLOTS c =
    says_slot c.args.state.now c.args.words.now c.args.s (kept (goal.at.returns-then-s-ge-SLOTS c).Else-not-is_sound) c.is_pool.ensures
    c.if-not-is_pool.false c.if-s-ge-SLOTS.true

-- past the first three
passed : (c : Else-s-ge-SLOTS) → Passed (as_read c.args.state.now) c.args.words.now c.args.s
unfolding slot_count
passed c =
    words_passed c.args.state.now c.args.words.now c.args.s (sound_words c.args.state.now (sym c.is_sound.ensures ∙ c.if-not-is_sound.false))
    c.is_pool.ensures c.if-not-is_pool.false c.if-s-ge-SLOTS.false

-- the slot that is lifted out is the state's
slot_is : (c : After-slot-slot) → c.slot-slot.result ≡ slot_at (as_read c.args.state.now) c.args.s
unfolding slot_count
slot_is c = c.slot-slot.ensures ∙ sym (slot_read c.args.state.now c.args.s c.if-s-ge-SLOTS.false)

pub returns-in_default : goal.returns-in_default
returns-in_default c =
    says_idle c.args.state.now c.args.words.now c.args.s (kept (goal.at.returns-in_default c).Else-not-is_sound)
    (passed (goal.at.returns-in_default c).Else-s-ge-SLOTS) (slot_is (goal.at.returns-in_default c).After-slot-slot) c.in_default.is

pub grants-requires : goal.grants-requires
unfolding slot_count
grants-requires c =
    let w = kept (goal.at.grants-requires c).Else-not-is_sound in
    (w.short, w.order, c.lock_table.ensures)

pub returns-then-not-grants : goal.returns-then-not-grants
returns-then-not-grants c =
    says_waiting c.args.state.now c.args.words.now c.args.s (kept (goal.at.returns-then-not-grants c).Else-not-is_sound)
    (passed (goal.at.returns-then-not-grants c).Else-s-ge-SLOTS) (slot_is (goal.at.returns-then-not-grants c).After-slot-slot) c.in-Open.is
    c.grants.ensures c.if-not-grants.true

pub granted_step-requires : goal.granted_step-requires
granted_step-requires c =
    let at = goal.at.granted_step-requires c in
    let far = passed at.Else-s-ge-SLOTS in
    let read = slot_is at.After-slot-slot in
    record {
      state_value = ((kept at.Else-not-is_sound).exist, open_waits far read c.in-Open.is);
      asks = open_asks far read c.in-Open.is;
    }

pub returns : goal.returns
returns c =
    says_granted c.args.state.now c.args.words.now c.args.s (kept (goal.at.returns c).Else-not-is_sound) (passed (goal.at.returns c).Else-s-ge-SLOTS)
    (slot_is (goal.at.returns c).After-slot-slot) c.in-Open.is c.grants.ensures c.if-not-grants.false c.granted_step.ensures
