-- The count of room says how many free pages are looked for. With enough of them the change is the rule's.
use lib.ListN.{length}
use mathlib.Core.Path.{sym, ap, subst}
use native.Mathlib.Omega.{arith}
use Rattle.ground.specs.Limits.{path_holds, most_new}
use Rattle.change.specs.Held.{Holding}
use Rattle.change.proofs.HeldLaws.{holding_page}
use Rattle.index.proofs.ActLaws.{taken_inserting, room_lacks, room_enough}
use Rattle.index.proofs.acting.insert_lot.Goals as goal

pub path_pages-path-requires : goal.path_pages-path-requires
path_pages-path-requires c = c.requires.cells.deep

pub room-need-requires : goal.room-need-requires
room-need-requires c = subst (Holding c.args.shape.k c.args.shape.n c.args.words.now) (sym c.path_pages-path.ensures) c.requires.holding

pub take_pages-requires : goal.take_pages-requires
unfolding path_holds most_new
take_pages-requires c =
    let here = c.requires.holding in
    let top = (holding_page here 0 here.some).inside in
    let long = ap length c.path_pages-path.ensures in
    (omega arith, here.held.whole, omega (arith, here.deep, long, c.room-need.ensures.upper_bound))

pub returns-in_default : goal.returns-in_default
returns-in_default c =
    let both = room_lacks c.requires c.path_pages-path.ensures c.room-need.ensures.value c.in_default.ensures c.args.x c.args.v in
    record { value = both.0; words_after = both.1 }

pub insert-requires : goal.insert-requires
insert-requires c = taken_inserting c.requires c.path_pages-path.ensures c.room-need.ensures.value c.in-Some.ensures c.room-need.ensures.upper_bound

pub returns : goal.returns
returns c =
    let both = room_enough c.requires c.path_pages-path.ensures c.room-need.ensures.value c.in-Some.ensures c.args.x c.args.v c.room-need.ensures.upper_bound c.insert.ensures in
    record { value = both.0; words_after = both.1 }
