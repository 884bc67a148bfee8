use Rattle.embed.proofs.TellLaws.{open_tells}
use Rattle.embed.proofs.calls.ghazfulit_open.Goals as goal

pub returns : goal.returns
returns c = open_tells _ _ _ _ _ _ c.open-heard.ensures c.tell.ensures
