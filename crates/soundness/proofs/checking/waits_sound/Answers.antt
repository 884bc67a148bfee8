-- The marks are those of the open slots.
use Rattle.soundness.proofs.CheckingLawsSound.{named_same}
use Rattle.soundness.specs.Checking.{open_kind}
use Rattle.slots.specs.Sound.{names_each}
use Rattle.lent.specs.Layout.{kind_row}
use Rattle.lent.specs.Words.{cell, order_in}
use Rattle.ground.specs.Limits.{slot_count}
use lib.ListN.{get_or}
use mathlib.Core.Path.{ap, ◌∙◌}
use mathlib.Core.Bool.{false}
use Prim.Native.Nat.{ℕ}
use Rattle.soundness.proofs.checking.waits_sound.Goals as goal

pub returns : goal.returns
unfolding slot_count
returns c =
    let ws = c.args.cells.now in
    let busy = c.busy_of-busy in
    c.order_sound.ensures
    ∙ named_same (λ (s : ℕ). get_or busy.result s false) (λ (s : ℕ). open_kind (cell ws kind_row s)) c.waiting_of-waiting.result (order_in ws) busy.ensures.1
    ∙ ap (λ (w : ℕ). names_each (λ (s : ℕ). open_kind (cell ws kind_row s)) w (order_in ws)) c.waiting_of-waiting.ensures
