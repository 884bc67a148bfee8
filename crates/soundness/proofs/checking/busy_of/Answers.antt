-- Each slot is marked as its kind tells.
use Rattle.std.proofs.Common.{rules, ℕ, Bool, false}
use native.Mathlib.Omega.{arith}
use Rattle.soundness.proofs.MadeLaws.{made_at}
use Rattle.soundness.specs.Checking.{open_kind}
use Rattle.lent.specs.Layout.{row_length, kind_row}
use Rattle.lent.specs.Words.{cell}
use Rattle.soundness.proofs.checking.busy_of.Goals as goal

pub returns : goal.returns
returns c =
    let made = c.from_fn.ensures.items in
    let open' : ℕ → Bool = λ s. open_kind (cell c.args.cells.now kind_row s) in
    (made.long, λ s h. made_at _ _ open' (λ i y q k. search rules) c.from_fn.result false 0 row_length made.each s (omega arith) (omega arith))
