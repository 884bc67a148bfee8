-- "Each line is answered by one": what the program writes has as many lines as its input, unless that is too long.
use Prim.Native.Nat.{ℕ, suc, ◌≤◌}
use mathlib.Core.Bool.{Bool, true, not}
use mathlib.Core.List.{List, [], ◌∷◌, ◌++◌, append_assoc}
use mathlib.Core.Path.{◌≡◌, refl, sym, ap, ◌∙◌}
use native.Mathlib.Omega.{arith}
use borrow.Author.Tests.{ne_eqb, leb-true, le-ltb, not-true}
use lib.Dec.{leb, eqb}
use lib.ListN.{length}
use Rattle.ground.specs.Tests.{all}
use Rattle.ground.proofs.Bools.{and_first, and_second, and_both}
use Rattle.ground.proofs.Tests.{all_append}
use Rattle.slots.specs.declared.State.{State}
use Rattle.slots.specs.declared.Answer.{Answer}
use Rattle.slots.specs.declared.Answer.TheVariants.{Waiting, Moved, Found, NotFound, Inserted, AlreadyThere, Deleted, NoSuchKey, NoRoom, Begun, Made, Reported, Next, None, Regraded, BadState, BadPool, BadSlot, SlotBusy, SlotIdle, Damaged, BadPage, Opened, BadPageInPool, BadTree, BadKey}
use Rattle.slots.specs.Begin.{begun}
use Rattle.lines.specs.declared.Command.{Command}
use Rattle.lines.specs.declared.Command.TheVariants.{Begin, Step, Bad}
use Rattle.lines.specs.Text.{bytes}
use Rattle.lines.specs.Meaning.{is_digit, meaning}
use Rattle.lines.specs.Decimal.{decimal}
use Rattle.lines.specs.Names.{answer_line, bad_line}
use Rattle.lines.specs.Ends.{first_line}
use Rattle.lines.proofs.Decimals.{decimal_digital}
use Rattle.index.specs.Step.{stepped}
use Rattle.talk.specs.Split.{Line, ended, unended, longer, lines_of}
use Rattle.talk.specs.Talk.{commanded, answered, replies, opening, most_bytes, program_writes}

-- no line feed
abbrev pub plain : ℕ → Bool
plain b = not (eqb b 10)

-- a word of plain bytes and a line feed are one line
line_of : (word rest : List ℕ) → all plain word ≡ true → lines_of (word ++ 10 ∷ rest) ≡ ended word ∷ lines_of rest
unfolding all lines_of
line_of [] rest t = refl
line_of (b ∷ word) rest t =
    rw (not-true (eqb b 10) (and_first (plain b) (all plain word) t))
    (ap (longer b) (line_of word rest (and_second (plain b) (all plain word) t)))

-- and the word is the first line there
pub first_of : (word rest : List ℕ) → all plain word ≡ true → first_line (word ++ 10 ∷ rest) ≡ word
unfolding all first_line
first_of [] rest t = refl
first_of (b ∷ word) rest t =
    rw (not-true (eqb b 10) (and_first (plain b) (all plain word) t))
    (ap (λ (l : List ℕ). b ∷ l) (first_of word rest (and_second (plain b) (all plain word) t)))

one_line : (word rest : List ℕ) → all plain word ≡ true → lines_of (word ++ (10 ∷ []) ++ rest) ≡ ended (first_line (word ++ 10 ∷ [])) ∷ lines_of rest
one_line word rest t =
    ap lines_of (append_assoc word (10 ∷ []) rest) ∙ line_of word rest t ∙ ap (λ (l : List ℕ). ended l ∷ lines_of rest) (sym (first_of word [] t))

-- a digit is no line feed
pub digits_plain : (ds : List ℕ) → all is_digit ds ≡ true → all plain ds ≡ true
unfolding all
digits_plain [] t = refl
digits_plain (d ∷ ds) t =
    let digit = and_first (is_digit d) (all is_digit ds) t in
    and_both (ap not (ne_eqb d 10 (λ e. omega (arith, leb-true 48 d (and_first (leb 48 d) (leb d 57) digit)))))
    (digits_plain ds (and_second (is_digit d) (all is_digit ds) t))

-- nor is a byte of two numbers with a space between
pub lot_plain : (x v : ℕ) → all plain (decimal x ++ bytes " " ++ decimal v) ≡ true
unfolding all
lot_plain x v =
    let spelt : (n : ℕ) → all plain (decimal n) ≡ true = λ n. digits_plain (decimal n) (decimal_digital n) in
    all_append plain (decimal x ++ bytes " ") (decimal v)
    ∙ and_both (all_append plain (decimal x) (bytes " ") ∙ and_both (spelt x) refl) (spelt v)

-- the line of an answer is one line
pub answer_line_lem : (a : Answer) (rest : List ℕ) → lines_of (answer_line a ++ rest) ≡ ended (first_line (answer_line a)) ∷ lines_of rest
unfolding all
answer_line_lem Waiting rest = one_line (bytes "Waiting") rest refl
answer_line_lem Moved rest = one_line (bytes "Moved") rest refl
answer_line_lem (Found v) rest = one_line (bytes "Found " ++ decimal v) rest (digits_plain (decimal v) (decimal_digital v))
answer_line_lem NotFound rest = one_line (bytes "NotFound") rest refl
answer_line_lem Inserted rest = one_line (bytes "Inserted") rest refl
answer_line_lem (AlreadyThere v) rest = one_line (bytes "AlreadyThere " ++ decimal v) rest (digits_plain (decimal v) (decimal_digital v))
answer_line_lem (Deleted v) rest = one_line (bytes "Deleted " ++ decimal v) rest (digits_plain (decimal v) (decimal_digital v))
answer_line_lem NoSuchKey rest = one_line (bytes "NoSuchKey") rest refl
answer_line_lem NoRoom rest = one_line (bytes "NoRoom") rest refl
answer_line_lem Begun rest = one_line (bytes "Begun") rest refl
answer_line_lem Made rest = one_line (bytes "Made") rest refl
answer_line_lem (Reported kind holders lowest) rest = one_line (bytes "Reported") rest refl
answer_line_lem (Next x v) rest = one_line (bytes "Next " ++ decimal x ++ bytes " " ++ decimal v) rest (lot_plain x v)
answer_line_lem None rest = one_line (bytes "None") rest refl
answer_line_lem (Regraded v) rest = one_line (bytes "Regraded " ++ decimal v) rest (digits_plain (decimal v) (decimal_digital v))
answer_line_lem BadState rest = one_line (bytes "BadState") rest refl
answer_line_lem BadPool rest = one_line (bytes "BadPool") rest refl
answer_line_lem BadSlot rest = one_line (bytes "BadSlot") rest refl
answer_line_lem SlotBusy rest = one_line (bytes "SlotBusy") rest refl
answer_line_lem SlotIdle rest = one_line (bytes "SlotIdle") rest refl
answer_line_lem Damaged rest = one_line (bytes "Damaged") rest refl
answer_line_lem BadPage rest = one_line (bytes "BadPage") rest refl
answer_line_lem Opened rest = one_line (bytes "Opened") rest refl
answer_line_lem (BadPageInPool p) rest = one_line (bytes "BadPageInPool " ++ decimal p) rest (digits_plain (decimal p) (decimal_digital p))
answer_line_lem BadTree rest = one_line (bytes "BadTree") rest refl
answer_line_lem BadKey rest = one_line (bytes "BadKey") rest refl

pub bad_line_lem : (rest : List ℕ) → lines_of (bad_line ++ rest) ≡ ended (first_line bad_line) ∷ lines_of rest
unfolding all
bad_line_lem rest = one_line (bytes "BadLine") rest refl

module _ (st : State) (ws : List ℕ) where
  command_one : (c : Command) (rest : List ℕ) → length (lines_of ((commanded st ws c).said ++ rest)) ≡ suc (length (lines_of rest))
  command_one (Begin s op) rest = ap length (answer_line_lem (begun st s op).answer rest)
  command_one (Step s) rest = ap length (answer_line_lem (stepped st ws s).answer rest)
  command_one Bad rest = ap length (bad_line_lem rest)

  line_one : (line : Line) (rest : List ℕ) → length (lines_of ((answered st ws line).said ++ rest)) ≡ suc (length (lines_of rest))
  line_one (ended line) = command_one (meaning line)
  line_one (unended line) = command_one Bad

one_each : (st : State) (ws : List ℕ) (lines : List Line) → length (lines_of (replies st ws lines)) ≡ length lines
unfolding lines_of replies
one_each st ws [] = refl
one_each st ws (line ∷ lines) =
    let r = answered st ws line in
    line_one st ws line (replies r.state r.words lines) ∙ ap suc (one_each r.state r.words lines)

pub each_line_answered : (input : List ℕ) → length input ≤ most_bytes → length (lines_of (program_writes input)) ≡ length (lines_of input)
unfolding program_writes
each_line_answered input h =
    rw (le-ltb most_bytes (length input) h) (one_each opening.state opening.words (lines_of input))
