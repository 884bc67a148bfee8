-- The pages fit, or the step is answered Damaged. Where they fit, the operation stands as the rule has it, and the course that is found there is the rule's.
use Rattle.index.proofs.StepLaws.{granted_damaged, granted_stands, granted_acts, granted_leaves}
use Rattle.slots.proofs.Keeping.{Paired, slot_paired}
use Rattle.slots.specs.Parts.{stand_of}
use lib.ListN.{length, length-map}
use mathlib.Core.List.{List, map}
use Prim.Native.Nat.{ℕ}
use mathlib.Core.Path.{◌≡◌, sym, ◌∙◌}
use borrow.Author.Rules.{rules}
use Rattle.index.proofs.acting.granted_step.Goals.{Start}
use Rattle.index.proofs.acting.granted_step.Goals as goal

pub returns-then-not-fits : goal.returns-then-not-fits
returns-then-not-fits c =
    granted_damaged c.args.state.now c.requires.state_value.0 c.requires.state_value.1 c.requires.asks c.fits.ensures c.if-not-fits.true

-- of an array of structs the length is told by way of its elements' values
length-mapped : (X Y : Type 0) (f : X → Y) (l : List X) (n : ℕ) → length (map f l) ≡ n → length l ≡ n
length-mapped X Y f l n e = sym (length-map l f) ∙ e

-- the slot's arrays have as many cells for kinds of lock as for pages
paired : (c : Start) → Paired (stand_of c.args.op c.args.slot)
paired c =
    let path : length c.args.slot.path ≡ 10 = search rules in
    let locks : length c.args.slot.locks ≡ 10 = search (rules, length-mapped) in
    let beside : length c.args.slot.beside ≡ 10 = search rules in
    let sidelocks : length c.args.slot.sidelocks ≡ 10 = search (rules, length-mapped) in
    slot_paired c.args.op c.args.slot (locks ∙ sym path) (sidelocks ∙ sym beside)

pub judge-course-requires : goal.judge-course-requires
judge-course-requires c =
    granted_stands c.args.state.now c.requires.state_value.0 c.requires.state_value.1 c.requires.asks c.fits.ensures c.if-not-fits.false
    c.stands-stand.ensures (paired (goal.at.judge-course-requires c).Start)

pub act-requires-clause-state_value : goal.act-requires-clause-state_value
act-requires-clause-state_value c =
    let may = c.requires.state_value in
    let halves = paired (goal.at.act-requires-clause-state_value c).Start in
    (may.0, granted_acts c.args.state.now may.0 may.1 c.requires.asks c.fits.ensures c.if-not-fits.false c.stands-stand.ensures halves)

pub returns : goal.returns
returns c =
    let found = c.judge-course in
    granted_leaves c.args.state.now c.requires.state_value.0 c.requires.state_value.1 c.requires.asks c.fits.ensures c.if-not-fits.false
    c.stands-stand.ensures (paired (goal.at.returns c).Start)
    found.result found.ensures.result_value c.act.ensures
