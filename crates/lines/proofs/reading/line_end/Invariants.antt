-- `line_end` meets its contract: until a line feed comes, the line ends where it ends seen from the next byte.
use Prim.Native.Nat.{◌≤◌, max}
use mathlib.Core.Path.{◌≡◌}
use lib.ListN.{length}
use Rattle.lines.specs.Ends.{line_end}
use Rattle.lines.proofs.reading.line_end.Given as goal

abbrev pub invariant-loop-at : goal.invariant-loop-at
invariant-loop-at l = (line_end l.input l.at ≡ line_end l.input l.from) × (l.from ≤ l.at) × (l.at ≤ max l.from (length l.input))
