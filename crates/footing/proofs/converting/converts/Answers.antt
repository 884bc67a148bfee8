-- By another way than the third nothing is converted. By the third the kinds are compared, because the slot is sound.
use mathlib.Core.Path.{◌∙◌}
use Rattle.slots.specs.declared.Lock.TheVariants.{Xi}
use Rattle.footing.proofs.ConvertLaws.{same_kind, converts_not, converts_by_kind}
use Rattle.footing.proofs.converting.converts.Goals as goal

pub returns-then-is_third : goal.returns-then-is_third
returns-then-is_third c =
    converts_by_kind c.args.n c.args.slot c.requires.0 c.requires.1 c.is_third.ensures c.if-is_third.true
    (c.eq.ensures ∙ same_kind c.args.slot.lock Xi)

pub returns-else-is_third : goal.returns-else-is_third
returns-else-is_third c =
    c.if-is_third.false ∙ converts_not c.args.n c.args.slot c.requires.0 c.requires.1 c.is_third.ensures c.if-is_third.false
