-- `write_answer` meets its contract: each case writes its own line.
use native.Mathlib.Omega.{arith}
use lib.Dec.{lit≤}
use Rattle.slots.specs.declared.Answer.TheVariants.{Waiting, Moved, Found, NotFound, Inserted, AlreadyThere, Deleted, NoSuchKey, NoRoom, Begun, Made, Reported, Next, None, Regraded, BadState, BadPool, BadSlot, SlotBusy, SlotIdle, Damaged, BadPage, Opened, BadPageInPool, BadTree, BadKey}
use Rattle.lines.specs.Text.{bytes}
use Rattle.answers.proofs.Answers.{answered, informed-short, next-short}
use Rattle.answers.proofs.writing.write_answer.Goals as goal

pub returns-in-BadState : goal.returns-in-BadState
returns-in-BadState c = answered BadState c.args.out.now c.args.at c.in-BadState.is c.write_word.ensures (lit≤ tt)

pub returns-in-BadPool : goal.returns-in-BadPool
returns-in-BadPool c = answered BadPool c.args.out.now c.args.at c.in-BadPool.is c.write_word-in-BadPool.ensures (lit≤ tt)

pub returns-in-BadSlot : goal.returns-in-BadSlot
returns-in-BadSlot c = answered BadSlot c.args.out.now c.args.at c.in-BadSlot.is c.write_word-in-BadSlot.ensures (lit≤ tt)

pub returns-in-SlotBusy : goal.returns-in-SlotBusy
returns-in-SlotBusy c = answered SlotBusy c.args.out.now c.args.at c.in-SlotBusy.is c.write_word-in-SlotBusy.ensures (lit≤ tt)

pub returns-in-SlotIdle : goal.returns-in-SlotIdle
returns-in-SlotIdle c = answered SlotIdle c.args.out.now c.args.at c.in-SlotIdle.is c.write_word-in-SlotIdle.ensures (lit≤ tt)

pub returns-in-Damaged : goal.returns-in-Damaged
returns-in-Damaged c = answered Damaged c.args.out.now c.args.at c.in-Damaged.is c.write_word-in-Damaged.ensures (lit≤ tt)

pub returns-in-BadPage : goal.returns-in-BadPage
returns-in-BadPage c = answered BadPage c.args.out.now c.args.at c.in-BadPage.is c.write_word-in-BadPage.ensures (lit≤ tt)

pub returns-in-Waiting : goal.returns-in-Waiting
returns-in-Waiting c = answered Waiting c.args.out.now c.args.at c.in-Waiting.is c.write_word-in-Waiting.ensures (lit≤ tt)

pub returns-in-Moved : goal.returns-in-Moved
returns-in-Moved c = answered Moved c.args.out.now c.args.at c.in-Moved.is c.write_word-in-Moved.ensures (lit≤ tt)

pub returns-in-Found : goal.returns-in-Found
returns-in-Found c =
    let v = c.in-Found.information in
    answered (Found v) c.args.out.now c.args.at c.in-Found.is c.write_value.ensures (informed-short (bytes "Found ") v (lit≤ tt) (omega arith))

pub returns-in-NotFound : goal.returns-in-NotFound
returns-in-NotFound c = answered NotFound c.args.out.now c.args.at c.in-NotFound.is c.write_word-in-NotFound.ensures (lit≤ tt)

pub returns-in-Inserted : goal.returns-in-Inserted
returns-in-Inserted c = answered Inserted c.args.out.now c.args.at c.in-Inserted.is c.write_word-in-Inserted.ensures (lit≤ tt)

pub returns-in-AlreadyThere : goal.returns-in-AlreadyThere
returns-in-AlreadyThere c =
    let v = c.in-AlreadyThere.information in
    answered (AlreadyThere v) c.args.out.now c.args.at c.in-AlreadyThere.is c.write_value-in-AlreadyThere.ensures (informed-short (bytes "AlreadyThere ") v (lit≤ tt) (omega arith))

pub returns-in-Deleted : goal.returns-in-Deleted
returns-in-Deleted c =
    let v = c.in-Deleted.information in
    answered (Deleted v) c.args.out.now c.args.at c.in-Deleted.is c.write_value-in-Deleted.ensures (informed-short (bytes "Deleted ") v (lit≤ tt) (omega arith))

pub returns-in-NoSuchKey : goal.returns-in-NoSuchKey
returns-in-NoSuchKey c = answered NoSuchKey c.args.out.now c.args.at c.in-NoSuchKey.is c.write_word-in-NoSuchKey.ensures (lit≤ tt)

pub returns-in-NoRoom : goal.returns-in-NoRoom
returns-in-NoRoom c = answered NoRoom c.args.out.now c.args.at c.in-NoRoom.is c.write_word-in-NoRoom.ensures (lit≤ tt)

pub returns-in-Begun : goal.returns-in-Begun
returns-in-Begun c = answered Begun c.args.out.now c.args.at c.in-Begun.is c.write_word-in-Begun.ensures (lit≤ tt)

pub returns-in-Made : goal.returns-in-Made
returns-in-Made c = answered Made c.args.out.now c.args.at c.in-Made.is c.write_word-in-Made.ensures (lit≤ tt)

pub returns-in-Reported : goal.returns-in-Reported
returns-in-Reported c = answered (Reported _ _ _) c.args.out.now c.args.at c.in-Reported.is c.write_word-in-Reported.ensures (lit≤ tt)

pub returns-in-Next : goal.returns-in-Next
returns-in-Next c =
    let x = c.in-Next.key in
    let v = c.in-Next.information in
    answered (Next x v) c.args.out.now c.args.at c.in-Next.is c.write_lot.ensures (next-short x v (omega arith) (omega arith))

pub returns-in-None : goal.returns-in-None
returns-in-None c = answered None c.args.out.now c.args.at c.in-None.is c.write_word-in-None.ensures (lit≤ tt)

pub returns-in-Regraded : goal.returns-in-Regraded
returns-in-Regraded c =
    let v = c.in-Regraded.information in
    answered (Regraded v) c.args.out.now c.args.at c.in-Regraded.is c.write_value-in-Regraded.ensures (informed-short (bytes "Regraded ") v (lit≤ tt) (omega arith))

pub returns-in-Opened : goal.returns-in-Opened
returns-in-Opened c = answered Opened c.args.out.now c.args.at c.in-Opened.is c.write_word-in-Opened.ensures (lit≤ tt)

pub returns-in-BadPageInPool : goal.returns-in-BadPageInPool
returns-in-BadPageInPool c =
    let v = c.in-BadPageInPool.page in
    answered (BadPageInPool v) c.args.out.now c.args.at c.in-BadPageInPool.is c.write_value-in-BadPageInPool.ensures (informed-short (bytes "BadPageInPool ") v (lit≤ tt) (omega arith))

pub returns-in-BadTree : goal.returns-in-BadTree
returns-in-BadTree c = answered BadTree c.args.out.now c.args.at c.in-BadTree.is c.write_word-in-BadTree.ensures (lit≤ tt)

pub returns-in-BadKey : goal.returns-in-BadKey
returns-in-BadKey c = answered BadKey c.args.out.now c.args.at c.in-BadKey.is c.write_word-in-BadKey.ensures (lit≤ tt)
