-- Both sides of the test are what the callees say: x's place and the number of pairs.
use mathlib.Core.Path.{sym, ap₂, ◌∙◌}
use lib.Dec.{ltb}
use Rattle.page.proofs.ReadingLaws.{readable_μ}
use Rattle.page.proofs.reading.Page.has_right.Goals as goal

pub returns : goal.returns
returns c = ap₂ ltb c.place.ensures.value (c.count.ensures ∙ sym (readable_μ c.args.self.words.now c.args.self.readable))
