-- `read_digits` meets its contract: each turn passes one digit more.
use Prim.Native.Nat.{ℕ}
use mathlib.Core.Path.{◌≡◌, sym, ◌∙◌, subst}
use native.Mathlib.Omega.{arith}
use lib.ListN.{length}
use Rattle.lines.specs.Positions.{Counted}
use Rattle.lines.proofs.DigitLaws.{digits_none, digits_stop, passing_start, passing_on, passing_done}
use Rattle.lines.proofs.reading.read_digits.Goals as goal

pub loop-end-init : goal.loop-end-init
loop-end-init c = passing_start _

pub returns-then-not-is_ascii_digit : goal.returns-then-not-is_ascii_digit
returns-then-not-is_ascii_digit c =
    passing_done _ c.loop-end.invariant
    (digits_stop c.args.bytes.now c.loop-end.end (omega arith) (sym c.is_ascii_digit.ensures.value ∙ c.if-not-is_ascii_digit.true))

pub loop-end-preserved : goal.loop-end-preserved
loop-end-preserved c =
    passing_on _ c.loop-end.invariant (omega arith) (sym c.is_ascii_digit.ensures.value ∙ c.if-not-is_ascii_digit.false) c.grown-worth.ensures

pub returns : goal.returns
returns c =
    let all : c.loop-end.end ≡ length c.args.bytes.now = omega arith in
    subst (λ (end : ℕ). Counted c.args.bytes.now c.loop-end.worth end) all
    (passing_done _ c.loop-end.invariant (digits_none c.args.bytes.now c.loop-end.end (omega arith)))
