-- The level is word 0.
use mathlib.Core.Path.{ap, ◌∙◌}
use Rattle.page.specs.Words.{pairs_from}
use Rattle.page.proofs.ReadingLaws.{view_level}
use Rattle.page.proofs.reading.Page.pairs_from.Goals as goal

pub returns : goal.returns
returns c = c.pairs_from.ensures ∙ ap pairs_from (c.level.ensures ∙ view_level c.args.self.words.now)
