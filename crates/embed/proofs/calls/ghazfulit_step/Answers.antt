use Rattle.embed.proofs.TellLaws.{step_tells}
use Rattle.embed.proofs.calls.ghazfulit_step.Goals as goal

pub returns : goal.returns
returns c = step_tells _ _ _ _ _ _ _ c.step-heard.ensures c.tell.ensures
