-- The answers to a script can be read off what is written, in one way only.
use Prim.Native.Nat.{ℕ, suc}
use mathlib.Core.Bool.{Bool, true, false, cond, not}
use mathlib.Core.List.{List, [], ◌∷◌, ◌++◌, map, flatten, append_assoc}
use mathlib.Core.Logic.{⊎_elim}
use mathlib.Core.Path.{◌≡◌, refl, sym, ap, ap₂, ◌∙◌}
use native.Mathlib.Omega.{arith}
use borrow.Author.Tests.{not-true}
use lib.Dec.{eqb}
use lib.ListN.{length, drop}
use lib.Seq.{drop-append_seam}
use Rattle.ground.specs.Tests.{all, member}
use Rattle.ground.proofs.Bools.{true_or_false, not_both, and_first, and_second}
use Rattle.ground.proofs.Choice.{cond-true, cond-false}
use Rattle.ground.proofs.Tests.{all_member}
use Rattle.slots.specs.declared.State.{State}
use Rattle.slots.specs.declared.Lock.TheVariants.{None}
use Rattle.slots.specs.declared.Answer.{Answer}
use Rattle.slots.specs.declared.Answer.TheVariants.{Waiting, Moved, Found, NotFound, Inserted, AlreadyThere, Deleted, NoSuchKey, NoRoom, Begun, Made, Reported, Next, None as NoLot, Regraded, BadState, BadPool, BadSlot, SlotBusy, SlotIdle, Damaged, BadPage, Opened, BadPageInPool, BadTree, BadKey}
use Rattle.slots.specs.Heard.{number_of}
use Rattle.lines.specs.declared.Command.{Command}
use Rattle.lines.specs.declared.Command.TheVariants.{Begin, Step, Bad}
use Rattle.lines.specs.Text.{bytes, starts_with}
use Rattle.lines.specs.Meaning.{digits, value}
use Rattle.lines.specs.Decimal.{decimal}
use Rattle.lines.specs.Names.{answer_line}
use Rattle.lines.specs.Ends.{first_line}
use Rattle.lines.proofs.Grammar.{digits_of}
use Rattle.lines.proofs.Decimals.{decimal_digital, value_decimal}
use Rattle.talk.specs.Split.{Line, ended, lines_of}
use Rattle.talk.proofs.OneEach.{first_of, digits_plain, lot_plain, answer_line_lem, bad_line_lem}
use Rattle.runs.specs.Run.{Call, called, run}
use Rattle.script.specs.Script.{calls_by, said_to}
use Rattle.script.specs.Promises.{text_of}
use Rattle.script.proofs.Heard.{spoken, is_spoken}

-- ---- an answer is read back from its line. A report's values are not written: it is read back as one without them.

-- two numbers with a byte between
unfoldable lot_back : List ℕ → Answer
lot_back bs =
    let key = digits bs in
    Next (value key) (value (drop 1 (drop (length key) bs)))

unfoldable read_back : List ℕ → Answer
read_back line =
    cond (starts_with (bytes "Waiting") line) Waiting
    (cond (starts_with (bytes "Moved") line) Moved
    (cond (starts_with (bytes "Found ") line) (Found (value (drop (length (bytes "Found ")) line)))
    (cond (starts_with (bytes "NotFound") line) NotFound
    (cond (starts_with (bytes "Inserted") line) Inserted
    (cond (starts_with (bytes "AlreadyThere ") line) (AlreadyThere (value (drop (length (bytes "AlreadyThere ")) line)))
    (cond (starts_with (bytes "Deleted ") line) (Deleted (value (drop (length (bytes "Deleted ")) line)))
    (cond (starts_with (bytes "NoSuchKey") line) NoSuchKey
    (cond (starts_with (bytes "NoRoom") line) NoRoom
    (cond (starts_with (bytes "Begun") line) Begun
    (cond (starts_with (bytes "Made") line) Made
    (cond (starts_with (bytes "Next ") line) (lot_back (drop (length (bytes "Next ")) line))
    (cond (starts_with (bytes "None") line) NoLot
    (cond (starts_with (bytes "Regraded ") line) (Regraded (value (drop (length (bytes "Regraded ")) line)))
    (cond (starts_with (bytes "BadState") line) BadState
    (cond (starts_with (bytes "BadPool") line) BadPool
    (cond (starts_with (bytes "BadSlot") line) BadSlot
    (cond (starts_with (bytes "SlotBusy") line) SlotBusy
    (cond (starts_with (bytes "SlotIdle") line) SlotIdle
    (cond (starts_with (bytes "Damaged") line) Damaged
    -- in front of BadPage, with which it begins
    (cond (starts_with (bytes "BadPageInPool ") line) (BadPageInPool (value (drop (length (bytes "BadPageInPool ")) line)))
    (cond (starts_with (bytes "BadPage") line) BadPage
    (cond (starts_with (bytes "Opened") line) Opened
    (cond (starts_with (bytes "BadTree") line) BadTree
    (cond (starts_with (bytes "BadKey") line) BadKey
    (Reported None 0 0)))))))))))))))))))))))))

is_report : Answer → Bool
is_report a = eqb (number_of a) (number_of (Reported None 0 0))

abbrev as_read : Answer → Answer
as_read a = cond (is_report a) (Reported None 0 0) a

-- the number in the line
number_back : (v : ℕ) → value (first_line (decimal v ++ 10 ∷ [])) ≡ v
number_back v = ap value (first_of (decimal v) [] (digits_plain (decimal v) (decimal_digital v))) ∙ value_decimal v

-- and two of them
lot_back_lem : (x v : ℕ) → lot_back (first_line (decimal x ++ bytes " " ++ decimal v ++ 10 ∷ [])) ≡ Next x v
unfolding digits lot_back
lot_back_lem x v =
    let line : List ℕ = decimal x ++ 32 ∷ decimal v in
    ap lot_back (first_of (decimal x ++ bytes " " ++ decimal v) [] (lot_plain x v) ∙ append_assoc (decimal x) (bytes " ") (decimal v))
    ∙ ap (λ (key : List ℕ). Next (value key) (value (drop 1 (drop (length key) line)))) (digits_of (decimal x) (32 ∷ decimal v) (decimal_digital x) refl)
    ∙ ap (λ (rest : List ℕ). Next (value (decimal x)) (value (drop 1 rest))) (drop-append_seam (decimal x) (32 ∷ decimal v))
    ∙ ap₂ Next (value_decimal x) (value_decimal v)

reads_back : (a : Answer) → read_back (first_line (answer_line a)) ≡ as_read a
unfolding starts_with first_line read_back is_report
reads_back Waiting = refl
reads_back Moved = refl
reads_back (Found v) = ap Found (number_back v)
reads_back NotFound = refl
reads_back Inserted = refl
reads_back (AlreadyThere v) = ap AlreadyThere (number_back v)
reads_back (Deleted v) = ap Deleted (number_back v)
reads_back NoSuchKey = refl
reads_back NoRoom = refl
reads_back Begun = refl
reads_back Made = refl
reads_back (Reported kind holders lowest) = refl
reads_back (Next x v) = lot_back_lem x v
reads_back NoLot = refl
reads_back (Regraded v) = ap Regraded (number_back v)
reads_back BadState = refl
reads_back BadPool = refl
reads_back BadSlot = refl
reads_back SlotBusy = refl
reads_back SlotIdle = refl
reads_back Damaged = refl
reads_back BadPage = refl
reads_back Opened = refl
reads_back (BadPageInPool p) = ap BadPageInPool (number_back p)
reads_back BadTree = refl
reads_back BadKey = refl

-- beginning and stepping hear no report
spoken_plain : (a : Answer) → is_spoken a ≡ true → is_report a ≡ false
unfolding all member is_report
spoken_plain a h = not-true (is_report a) (all_member (λ n. not (eqb n (number_of (Reported None 0 0)))) (map number_of spoken) refl (number_of a) h)

-- so that such an answer stands alone with its line
line_once : (b a : Answer) → is_spoken a ≡ true → first_line (answer_line b) ≡ first_line (answer_line a) → b ≡ a
unfolding is_report
line_once b a h e =
    let same : as_read b ≡ a = sym (reads_back b) ∙ ap read_back e ∙ reads_back a ∙ cond-false (Reported None 0 0) a (spoken_plain a h) in
    ⊎_elim
    (λ r. not_both (ap is_report (sym (sym (cond-true (Reported None 0 0) b r) ∙ same))) (spoken_plain a h))
    (λ n. sym (cond-false (Reported None 0 0) b n) ∙ same)
    (true_or_false (is_report b))

-- ---- line by line

abbrev first_text : List Line → List ℕ
first_text [] = []
first_text (line ∷ lines) = text_of line

abbrev behind_first : List Line → List Line
behind_first [] = []
behind_first (line ∷ lines) = lines

-- two outputs of the same lines begin with the same answer, and go on with the same lines
answers_first : (b a : Answer) (bs rest : List ℕ) → is_spoken a ≡ true → lines_of (answer_line b ++ bs) ≡ lines_of (answer_line a ++ rest)
    → (b ≡ a) × (lines_of bs ≡ lines_of rest)
answers_first b a bs rest h e =
    let same : ended (first_line (answer_line b)) ∷ lines_of bs ≡ ended (first_line (answer_line a)) ∷ lines_of rest = sym (answer_line_lem b bs) ∙ e ∙ answer_line_lem a rest in
    (line_once b a h (ap first_text same), ap behind_first same)

-- the answers of an output are determined by its lines
pub answers_once : (cs : List Command) (other heard : List Answer) → length other ≡ length (calls_by cs) → length heard ≡ length (calls_by cs) → all is_spoken heard ≡ true
    → lines_of (flatten (said_to cs other)) ≡ lines_of (flatten (said_to cs heard)) → other ≡ heard
unfolding all flatten calls_by said_to
answers_once [] [] [] m n h e = refl
answers_once [] [] (a ∷ heard) m n h e = absurd (omega (arith, n))
answers_once [] (b ∷ other) heard m n h e = absurd (omega (arith, m))
answers_once (Begin s op ∷ cs) [] heard m n h e = absurd (omega (arith, m))
answers_once (Begin s op ∷ cs) (b ∷ other) [] m n h e = absurd (omega (arith, n))
answers_once (Begin s op ∷ cs) (b ∷ other) (a ∷ heard) m n h e =
    let first = answers_first b a (flatten (said_to cs other)) (flatten (said_to cs heard)) (and_first (is_spoken a) (all is_spoken heard) h) e in
    ap₂ (λ (x : Answer) (xs : List Answer). x ∷ xs) first.0
    (answers_once cs other heard (omega (arith, m)) (omega (arith, n)) (and_second (is_spoken a) (all is_spoken heard) h) first.1)
answers_once (Step s ∷ cs) [] heard m n h e = absurd (omega (arith, m))
answers_once (Step s ∷ cs) (b ∷ other) [] m n h e = absurd (omega (arith, n))
answers_once (Step s ∷ cs) (b ∷ other) (a ∷ heard) m n h e =
    let first = answers_first b a (flatten (said_to cs other)) (flatten (said_to cs heard)) (and_first (is_spoken a) (all is_spoken heard) h) e in
    ap₂ (λ (x : Answer) (xs : List Answer). x ∷ xs) first.0
    (answers_once cs other heard (omega (arith, m)) (omega (arith, n)) (and_second (is_spoken a) (all is_spoken heard) h) first.1)
answers_once (Bad ∷ cs) other heard m n h e =
    answers_once cs other heard m n h
    (ap behind_first (sym (bad_line_lem (flatten (said_to cs other))) ∙ e ∙ bad_line_lem (flatten (said_to cs heard))))

-- each call is answered
pub each_answered : (cs : List Call) (st : State) (ws : List ℕ) → length (run cs st ws).answers ≡ length cs
unfolding run
each_answered [] st ws = refl
each_answered (c ∷ cs) st ws = ap suc (each_answered cs (called st ws c).state (called st ws c).words)
