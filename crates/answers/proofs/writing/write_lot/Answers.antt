-- `write_lot` meets its contract: three words one behind the other are one.
use Prim.Native.Nat.{ℕ, ◌+◌}
use mathlib.Core.List.{List, [], ◌∷◌, ◌++◌}
use mathlib.Core.Path.{ap, ◌∙◌}
use native.Mathlib.Omega.{arith}
use lib.ListN.{length}
use Rattle.lines.specs.Text.{laid}
use Rattle.lines.specs.Decimal.{decimal}
use Rattle.lines.proofs.LaidLaws.{laid_two, behind_two}
use Rattle.answers.proofs.Answers.{value-behind}
use Rattle.answers.proofs.writing.write_lot.Goals as goal

pub returns : goal.returns
returns c =
    let first = c.write_word-behind.ensures in
    let second = c.write_number-end.ensures in
    let third = c.write_value.ensures in
    let out : List ℕ = c.args.out.now in
    let at : ℕ = c.args.at in
    let word : List ℕ = c.args.word.now in
    let key : List ℕ = decimal c.args.key in
    let information : List ℕ = decimal c.args.information in
    let value : List ℕ = (32 ∷ []) ++ information ++ (10 ∷ []) in
    let same = value-behind (word ++ key) information in
    let behind = behind_two at word key first.1 second.1 in
    let both = laid_two out at word key (omega (arith, c.requires)) first.0 first.1 second.0 in
    (laid_two out at (word ++ key) value (omega (arith, c.requires)) both behind third.0 ∙ ap (laid out at) same, behind_two at (word ++ key) value behind third.1 ∙ ap (λ (l : List ℕ). at + length l) same)
