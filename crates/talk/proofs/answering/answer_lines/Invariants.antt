-- `answer_lines` meets its contract: what is written so far, with the answers to the lines that are left, is the whole.
-- Each answer is at most 8 bytes for each byte of its line, so that there is room for the next.
use Rattle.lent.specs.Words.{state_of}
use Prim.Native.Nat.{◌-◌}
use mathlib.Core.Path.{◌≡◌}
use lib.ListN.{length}
use Rattle.talk.specs.Split.{lines_of}
use Rattle.talk.specs.Talk.{replies}
use Rattle.talk.proofs.Going.{Going}
use Rattle.talk.proofs.answering.answer_lines.Given as goal

abbrev pub invariant-loop-at : goal.invariant-loop-at
invariant-loop-at l =
    Going (replies (state_of l.initial.state) l.initial.words (lines_of l.input)) l.input l.initial.out (state_of l.state) l.words l.out l.at l.end
    × (length l.words ≡ length l.initial.words)
    × (length l.out ≡ length l.initial.out)

abbrev pub decreases-loop-at : goal.decreases-loop-at
decreases-loop-at l = length l.input - l.at
