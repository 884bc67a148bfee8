use Rattle.embed.proofs.TellLaws.{make_tells}
use Rattle.embed.proofs.calls.ghazfulit_make.Goals as goal

pub returns : goal.returns
returns c = make_tells _ _ _ _ _ _ _ c.make-heard.ensures c.tell.ensures
