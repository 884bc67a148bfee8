-- The library looks for a page without a mark.
use mathlib.Core.Bool.{not}
use mathlib.Core.Path.{ap, ◌∙◌}
use Rattle.opening.proofs.MarkLaws.{all_have}
use Rattle.opening.proofs.marking.all_marked.Goals as goal

pub returns : goal.returns
returns c = ap not c.contains.ensures.value ∙ all_have c.args.marks.now c.args.n c.requires
