-- The answer is that of the walk from place i on: at the end, at slot s and at an older want that clashes it is known.
use Rattle.lent.proofs.HoldLaws.{walk_end, walk_slot, walk_own, walk_older, walk_on}
use Rattle.lent.specs.Layout.{waiting_at}
use Rattle.lent.specs.Words.{as_read}
use Rattle.slots.proofs.HoldingLaws.{older_none}
use lib.ListN.{get_or}
use Rattle.std.proofs.Common.{arith}
use mathlib.Core.Path.{◌≡◌}
use Rattle.lent.proofs.cells.Column.no_older.Goals as goal

pub loop-i-init : goal.loop-i-init
loop-i-init c = (omega arith, older_none (as_read c.args.self.cells.now) c.args.self.s)

pub invariant_of-other : goal.invariant_of-other
invariant_of-other c =
    let w : c.waiting_of-waiting.result ≡ get_or c.args.self.cells.now waiting_at 0 = c.waiting_of-waiting.ensures in
    record { in_row = walk_slot c.args.self.cells.now c.args.self.s c.sized.ensures c.args.self.in_row c.requires.0 c.loop-i.invariant.1 (omega arith) c.order_at-t.ensures }

pub loop-i-preserved : goal.loop-i-preserved
loop-i-preserved c =
    let w : c.waiting_of-waiting.result ≡ get_or c.args.self.cells.now waiting_at 0 = c.waiting_of-waiting.ensures in (
      omega arith,
      walk_on c.args.self.cells.now c.args.self.s c.sized.ensures c.args.self.in_row c.requires.0 c.loop-i.invariant.1 (omega arith) c.order_at-t.ensures
          c.if-t-self.false c.args.row c.requires.1 c.want-want.ensures c.also_wants.ensures c.if-also_wants.false,
    )

pub returns-then-waiting-i : goal.returns-then-waiting-i
returns-then-waiting-i c =
    let w : c.waiting_of-waiting.result ≡ get_or c.args.self.cells.now waiting_at 0 = c.waiting_of-waiting.ensures in
    walk_end c.args.self.cells.now c.args.self.s c.sized.ensures c.args.self.in_row c.requires.0 c.loop-i.invariant.1 (omega arith)

pub returns-then-t-self : goal.returns-then-t-self
returns-then-t-self c =
    let w : c.waiting_of-waiting.result ≡ get_or c.args.self.cells.now waiting_at 0 = c.waiting_of-waiting.ensures in
    walk_own c.args.self.cells.now c.args.self.s c.sized.ensures c.args.self.in_row c.requires.0 c.loop-i.invariant.1 (omega arith) c.order_at-t.ensures c.if-t-self.true

pub returns-then-also_wants : goal.returns-then-also_wants
returns-then-also_wants c =
    let w : c.waiting_of-waiting.result ≡ get_or c.args.self.cells.now waiting_at 0 = c.waiting_of-waiting.ensures in
    walk_older c.args.self.cells.now c.args.self.s c.sized.ensures c.args.self.in_row c.requires.0 c.loop-i.invariant.1 (omega arith) c.order_at-t.ensures
    c.if-t-self.false c.args.row c.requires.1 c.want-want.ensures c.also_wants.ensures c.if-also_wants.true
