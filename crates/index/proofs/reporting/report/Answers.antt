-- Each way out is a case of the rule; the mask has as many ones as there are holders, and below its lowest one as many zeros as slots that do not hold the page.
use Rattle.soundness.proofs.CheckingLawsSound.{sound_words}
use Rattle.index.proofs.CallLaws.{report_unsound, report_nowhere, report_done}
use Rattle.soundness.proofs.MaskLaws.{mask_ones, mask_lowest}
use Rattle.lent.specs.Words.{as_read, state_of}
use Rattle.slots.specs.Report.{holders, lowest_holder}
use Rattle.slots.specs.Sound.{sound}
use Rattle.slots.specs.Parts.{holds_at}
use Rattle.slots.specs.declared.Answer.TheVariants.{Reported}
use Rattle.ground.specs.Limits.{slot_count}
use lib.Count.{ones, count_trailing_zeros}
use mathlib.Core.Path.{◌≡◌, sym, ap, ◌∙◌, subst}
use mathlib.Core.Bool.{Bool, true}
use Prim.Native.Nat.{ℕ, ◌≤◌, ◌<◌}
use Rattle.index.proofs.reporting.report.Goals.{Else-not-is_sound}
use Rattle.index.proofs.reporting.report.Goals as goal

pub returns-then-not-is_sound : goal.returns-then-not-is_sound
returns-then-not-is_sound c =
    report_unsound c.args.state.now c.args.p (sym c.is_sound.ensures ∙ c.if-not-is_sound.true)

kept : (c : Else-not-is_sound) → sound (state_of c.args.state.now) ≡ true
kept c =
    sym c.is_sound.ensures ∙ c.if-not-is_sound.false

pub returns-then-n_of-p : goal.returns-then-n_of-p
returns-then-n_of-p c =
    report_nowhere c.args.state.now c.args.p (kept (goal.at.returns-then-n_of-p c).Else-not-is_sound)
    (sound_words c.args.state.now (kept (goal.at.returns-then-n_of-p c).Else-not-is_sound)).exist
    (subst (λ (n : ℕ). n ≤ c.args.p) c.n_of.ensures c.if-n_of-p.true)

pub holders-mask-requires : goal.holders-mask-requires
holders-mask-requires c = (sound_words c.args.state.now (kept (goal.at.holders-mask-requires c).Else-not-is_sound)).short

pub lock_kind-requires : goal.lock_kind-requires
lock_kind-requires c = (sound_words c.args.state.now (kept (goal.at.lock_kind-requires c).Else-not-is_sound)).short

pub returns : goal.returns
unfolding slot_count
returns c =
    let ws = c.args.state.now in
    let st = as_read ws in
    let p = c.args.p in
    let known = sound_words ws (kept (goal.at.returns c).Else-not-is_sound) in
    let mask = c.holders-mask.ensures in
    let test : ℕ → Bool = λ (s : ℕ). holds_at st s p in
    let many : ones c.holders-mask.result ≡ holders st p = ap ones mask ∙ mask_ones test slot_count in
    let lowest : count_trailing_zeros slot_count c.holders-mask.result ≡ lowest_holder st p = ap (count_trailing_zeros slot_count) mask ∙ mask_lowest test slot_count in
    report_done ws p (kept (goal.at.returns c).Else-not-is_sound) known.exist (subst (λ (n : ℕ). p < n) c.n_of.ensures c.if-n_of-p.false)
    (λ i. Reported (c.lock_kind.ensures i) (many i) (lowest i))
