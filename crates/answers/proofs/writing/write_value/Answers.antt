-- `write_value` meets its contract: three words one behind the other are one.
use Prim.Native.Nat.{ℕ}
use mathlib.Core.List.{List, [], ◌∷◌, ◌++◌}
use native.Mathlib.Omega.{arith}
use Rattle.lines.specs.Decimal.{decimal}
use Rattle.lines.proofs.LaidLaws.{laid_two, behind_two}
use Rattle.answers.proofs.writing.write_value.Goals as goal

pub returns : goal.returns
returns c =
    let first = c.write_word-behind.ensures in
    let second = c.write_number-end.ensures in
    let third = c.write_word.ensures in
    let out : List ℕ = c.args.out.now in
    let at : ℕ = c.args.at in
    let word : List ℕ = c.args.word.now in
    let spelt : List ℕ = decimal c.args.n in
    let behind = behind_two at word spelt first.1 second.1 in
    let both = laid_two out at word spelt (omega (arith, c.requires)) first.0 first.1 second.0 in
    (laid_two out at (word ++ spelt) (10 ∷ []) (omega (arith, c.requires)) both behind third.0, behind_two at (word ++ spelt) (10 ∷ []) behind third.1)
