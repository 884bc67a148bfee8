-- Pair i is the two words at its place, and the second of them stands behind the key.
use mathlib.Core.Path.{sym}
use Rattle.page.proofs.ReadingLaws.{value_word}
use Rattle.page.proofs.reading.Page.value.Goals as goal

pub returns : goal.returns
returns c =
    let from = c.pairs_from in
    sym (value_word c.args.self.words.now c.args.self.readable from.result c.args.i from.ensures c.requires)
