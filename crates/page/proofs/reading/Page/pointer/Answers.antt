-- Above the leaves the pairs begin behind p0, so pi is the word before the key of pair i.
use mathlib.Core.Path.{sym}
use Rattle.page.proofs.ReadingLaws.{pointer_inside, pointer_word}
use Rattle.page.proofs.reading.Page.pointer.Goals as goal

pub bounds-self-i : goal.bounds-self-i
bounds-self-i c =
    pointer_inside c.args.self.words.now c.args.self.readable c.requires.above_leaves c.args.i c.requires.i_bound

pub returns : goal.returns
returns c =
    sym (pointer_word c.args.self.words.now c.args.self.readable c.requires.above_leaves c.args.i c.requires.i_bound)
