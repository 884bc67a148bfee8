-- Pair i is the two words at its place, and the first of them is the key.
use mathlib.Core.Path.{sym}
use Rattle.page.proofs.ReadingLaws.{key_word}
use Rattle.page.proofs.reading.Page.key.Goals as goal

pub returns : goal.returns
returns c =
    let from = c.pairs_from in
    sym (key_word c.args.self.words.now c.args.self.readable from.result c.args.i from.ensures c.requires)
