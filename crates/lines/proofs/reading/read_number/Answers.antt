-- `read_number` meets its contract: what stands behind the digits is the rest.
use mathlib.Core.Path.{sym, ap, ◌∙◌}
use native.Mathlib.Omega.{arith}
use Rattle.std.proofs.lemmas.List.{take_rest}
use Rattle.lines.specs.Meaning.{number}
use Rattle.lines.proofs.NumberLaws.{front_number}
use Rattle.lines.proofs.reading.read_number.Goals as goal

pub returns : goal.returns
returns c =
    front_number _ c.read_digits-read.ensures c.if-read-eq0.false (omega arith)
    ∙ ap (number c.read_digits-read.result.worth) (sym (take_rest c.args.bytes.now c.read_digits-read.result.end))
