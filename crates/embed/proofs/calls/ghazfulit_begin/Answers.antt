use mathlib.Core.Path.{sym}
use Rattle.embed.proofs.TellLaws.{begin_tells}
use Rattle.embed.proofs.calls.ghazfulit_begin.Goals as goal

pub returns : goal.returns
returns c = begin_tells _ _ _ _ _ _ _ _ _ (sym c.in-Some.ensures) c.begin-heard.ensures c.tell.ensures
