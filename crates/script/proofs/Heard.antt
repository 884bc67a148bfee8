-- What the calls of a script hear, and that none of the lines written is BadState, BadPool or Damaged.
use Prim.Native.Nat.{ℕ}
use mathlib.Core.Bool.{Bool, true, false≢true}
use mathlib.Core.List.{List, [], ◌∷◌, ◌++◌, map, flatten}
use mathlib.Core.Path.{◌≡◌, refl, ap, ◌∙◌}
use Rattle.ground.specs.Tests.{all, member}
use Rattle.ground.proofs.Bools.{and_first, and_second, and_both, or_first, or_second}
use Rattle.ground.proofs.Tests.{member_append}
use Rattle.slots.specs.declared.Op.{Op}
use Rattle.slots.specs.declared.Op.TheVariants.{Search}
use Rattle.slots.specs.declared.State.{State}
use Rattle.slots.specs.declared.Answer.{Answer}
use Rattle.slots.specs.declared.Answer.TheVariants.{Waiting, Moved, Found, NotFound, Inserted, AlreadyThere, Deleted, NoSuchKey, NoRoom, Begun, Made, Reported, Next, None, Regraded, BadState, BadPool, BadSlot, SlotBusy, SlotIdle, Damaged, BadPage, Opened, BadPageInPool, BadTree, BadKey}
use Rattle.slots.specs.Heard.{number_of, is_one_of}
use Rattle.lines.specs.declared.Command.{Command}
use Rattle.lines.specs.declared.Command.TheVariants.{Begin, Step, Bad}
use Rattle.lines.specs.Text.{starts_with}
use Rattle.lines.specs.Names.{answer_line, bad_line}
use Rattle.lines.specs.Ends.{first_line}
use Rattle.talk.specs.Split.{ended, lines_of}
use Rattle.talk.proofs.OneEach.{answer_line_lem, bad_line_lem}
use Rattle.runs.specs.Calls.{Call, begin, step, called, answers_of}
use Rattle.runs.specs.Run.{run, InWords}
use Rattle.runs.proofs.Invariant.{Invariant}
use Rattle.runs.proofs.Runs.{call_keeps}
use Rattle.promises.proofs.Demand2.{call_heard}
use Rattle.script.specs.Script.{calls_by, said_to}
use Rattle.script.specs.Promises.{quiet}

-- what beginning and stepping hear
abbrev pub spoken : List Answer
spoken = answers_of (begin 0 (Search 0)) ++ answers_of (step 0)

abbrev pub is_spoken : Answer → Bool
is_spoken a = is_one_of a spoken

begin_spoken : (a : Answer) (s : ℕ) (op : Op) → is_one_of a (answers_of (begin s op)) ≡ true → is_spoken a ≡ true
begin_spoken a s op h =
    member_append (number_of a) (map number_of (answers_of (begin s op))) (map number_of (answers_of (step 0))) ∙ or_first (is_one_of a (answers_of (step 0))) h

step_spoken : (a : Answer) (s : ℕ) → is_one_of a (answers_of (step s)) ≡ true → is_spoken a ≡ true
step_spoken a s h =
    member_append (number_of a) (map number_of (answers_of (begin 0 (Search 0)))) (map number_of (answers_of (step s)))
    ∙ or_second (is_one_of a (answers_of (begin 0 (Search 0)))) h

-- every answer to the calls of a script
pub script_hears : (cs : List Command) (st : State) (ws : List ℕ) → Invariant st ws → InWords (calls_by cs) → all is_spoken (run (calls_by cs) st ws).answers ≡ true
unfolding all calls_by run
script_hears [] st ws inv h = refl
script_hears (Begin s op ∷ cs) st ws inv h =
    let c : Call = begin s op in
    and_both (begin_spoken (called st ws c).answer s op (call_heard st ws inv c))
    (script_hears cs (called st ws c).state (called st ws c).words (call_keeps st ws inv c h.0) h.1)
script_hears (Step s ∷ cs) st ws inv h =
    let c : Call = step s in
    and_both (step_spoken (called st ws c).answer s (call_heard st ws inv c))
    (script_hears cs (called st ws c).state (called st ws c).words (call_keeps st ws inv c h.0) h.1)
script_hears (Bad ∷ cs) st ws inv h = script_hears cs st ws inv h

-- none of these is written as one of the three
answer_quiet : (a : Answer) → is_spoken a ≡ true → quiet (ended (first_line (answer_line a))) ≡ true
unfolding member starts_with first_line
answer_quiet Waiting h = refl
answer_quiet Moved h = refl
answer_quiet (Found v) h = refl
answer_quiet NotFound h = refl
answer_quiet Inserted h = refl
answer_quiet (AlreadyThere v) h = refl
answer_quiet (Deleted v) h = refl
answer_quiet NoSuchKey h = refl
answer_quiet NoRoom h = refl
answer_quiet Begun h = refl
answer_quiet Made h = refl
answer_quiet (Reported kind holders lowest) h = refl
answer_quiet (Next x v) h = refl
answer_quiet None h = refl
answer_quiet (Regraded v) h = refl
answer_quiet BadState h = absurd (false≢true h)
answer_quiet BadPool h = absurd (false≢true h)
answer_quiet BadSlot h = refl
answer_quiet SlotBusy h = refl
answer_quiet SlotIdle h = refl
answer_quiet Damaged h = absurd (false≢true h)
answer_quiet BadPage h = refl
answer_quiet Opened h = refl
answer_quiet (BadPageInPool p) h = refl
answer_quiet BadTree h = refl
answer_quiet BadKey h = refl

bad_quiet : quiet (ended (first_line bad_line)) ≡ true
unfolding starts_with first_line
bad_quiet = refl

-- an answer's line in front of others
answer_more : (a : Answer) (rest : List ℕ) → is_spoken a ≡ true → all quiet (lines_of rest) ≡ true → all quiet (lines_of (answer_line a ++ rest)) ≡ true
unfolding all
answer_more a rest h r = ap (all quiet) (answer_line_lem a rest) ∙ and_both (answer_quiet a h) r

bad_more : (rest : List ℕ) → all quiet (lines_of rest) ≡ true → all quiet (lines_of (bad_line ++ rest)) ≡ true
unfolding all
bad_more rest r = ap (all quiet) (bad_line_lem rest) ∙ and_both bad_quiet r

pub said_quiet : (cs : List Command) (heard : List Answer) → all is_spoken heard ≡ true → all quiet (lines_of (flatten (said_to cs heard))) ≡ true
unfolding all flatten said_to lines_of
said_quiet [] heard h = refl
said_quiet (Begin s op ∷ cs) [] h = refl
said_quiet (Begin s op ∷ cs) (a ∷ heard) h =
    answer_more a (flatten (said_to cs heard)) (and_first (is_spoken a) (all is_spoken heard) h)
    (said_quiet cs heard (and_second (is_spoken a) (all is_spoken heard) h))
said_quiet (Step s ∷ cs) [] h = refl
said_quiet (Step s ∷ cs) (a ∷ heard) h =
    answer_more a (flatten (said_to cs heard)) (and_first (is_spoken a) (all is_spoken heard) h)
    (said_quiet cs heard (and_second (is_spoken a) (all is_spoken heard) h))
said_quiet (Bad ∷ cs) heard h = bad_more (flatten (said_to cs heard)) (said_quiet cs heard h)
