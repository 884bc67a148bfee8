-- The closure tells whether a word's lock is one that the kind can hold a page under.
use Rattle.soundness.specs.Checking.{Tells, word_under, held_pass}
use Rattle.std.proofs.Common.{rules}
use mathlib.Core.Path.{ap, ◌∙◌}
use Prim.Native.Nat.{ℕ}
use Rattle.soundness.proofs.checking.under_kind.Goals as goal

pub returns : goal.returns
unfolding Tells
returns c =
    c.held_pass.ensures (word_under c.kind-kind.result) (λ word r h said. search rules)
    ∙ ap (λ (kind : ℕ). held_pass (word_under kind) c.args.slot.cells.now c.args.slot.s) c.kind-kind.ensures
