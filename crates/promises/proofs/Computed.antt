-- The bench holds: the rules, computed.
use Prim.Native.Nat.{ℕ}
use mathlib.Core.Bool.{Bool, true, false, ◌&&◌, false≢true}
use mathlib.Core.Path.{◌≡◌, refl, ap₂}
use mathlib.Core.List.{List, [], ◌∷◌}
use lib.Dec.{eqb}
use borrow.Author.Tests.{eqb-true}
use Rattle.index.specs.Unfolded.{every_call}
use Rattle.runs.specs.Run.{called, run, run_from}
use Rattle.promises.specs.Bench.{Row, RowsHold, bench}
use Rattle.promises.specs.MoreRows.{more}
use Rattle.promises.specs.LongRun.{again, long_rows}
use Rattle.promises.specs.NextRows.{next_rows}
use Rattle.promises.specs.RegradeRows.{regrade_rows}
use Rattle.promises.specs.WideRows.{wide_rows}
use Rattle.promises.specs.DamageRows.{damage_rows}
use Rattle.promises.specs.SecondRows.{second_rows}
use Rattle.promises.specs.ThirdRows.{third_rows}
use Rattle.promises.specs.OpenRows.{open_rows}
use Rattle.promises.specs.BlankRows.{blank_rows}

-- Everything that a run unfolds to: who unfolds this unfolds all of it.
calls : Unit {0}
unfolding every_call called run run_from
calls = tt

-- Two lists are compared number by number, so that the prover computes a test and compares no terms.
same : List ℕ → List ℕ → Bool
same [] [] = true
same [] (y ∷ ys) = false
same (x ∷ xs) [] = false
same (x ∷ xs) (y ∷ ys) = eqb x y && same xs ys

sames : List (List ℕ) → List (List ℕ) → Bool
sames [] [] = true
sames [] (y ∷ ys) = false
sames (x ∷ xs) [] = false
sames (x ∷ xs) (y ∷ ys) = same x y && sames xs ys

agree : List Row → Bool
agree [] = true
agree (r ∷ rows) = sames r.given r.said && agree rows

both : (a b : Bool) → (a && b) ≡ true → (a ≡ true) × (b ≡ true)
both true b h = (refl, h)
both false b h = absurd (false≢true h)

same_is : (xs ys : List ℕ) → same xs ys ≡ true → xs ≡ ys
unfolding same
same_is [] [] h = refl
same_is [] (y ∷ ys) h = absurd (false≢true h)
same_is (x ∷ xs) [] h = absurd (false≢true h)
same_is (x ∷ xs) (y ∷ ys) h =
    let (e, t) = both (eqb x y) (same xs ys) h in
    ap₂ ◌∷◌ (eqb-true x y e) (same_is xs ys t)

sames_is : (xs ys : List (List ℕ)) → sames xs ys ≡ true → xs ≡ ys
unfolding sames
sames_is [] [] h = refl
sames_is [] (y ∷ ys) h = absurd (false≢true h)
sames_is (x ∷ xs) [] h = absurd (false≢true h)
sames_is (x ∷ xs) (y ∷ ys) h =
    let (e, t) = both (same x y) (sames xs ys) h in
    ap₂ ◌∷◌ (same_is x y e) (sames_is xs ys t)

agree_holds : (rows : List Row) → agree rows ≡ true → RowsHold rows
unfolding agree
agree_holds [] h = tt
agree_holds (r ∷ rows) h =
    let (e, t) = both (sames r.given r.said) (agree rows) h in
    (sames_is r.given r.said e, agree_holds rows t)

pub bench_holds : RowsHold bench
unfolding calls same sames agree
bench_holds = agree_holds bench refl

pub more_holds : RowsHold more
unfolding calls same sames agree
more_holds = agree_holds more refl

pub long_holds : RowsHold long_rows
unfolding calls same sames agree again
long_holds = agree_holds long_rows refl

pub next_holds : RowsHold next_rows
unfolding calls same sames agree
next_holds = agree_holds next_rows refl

pub regrade_holds : RowsHold regrade_rows
unfolding calls same sames agree
regrade_holds = agree_holds regrade_rows refl

pub wide_holds : RowsHold wide_rows
unfolding calls same sames agree
wide_holds = agree_holds wide_rows refl

pub damage_holds : RowsHold damage_rows
unfolding calls same sames agree
damage_holds = agree_holds damage_rows refl

pub second_holds : RowsHold second_rows
unfolding calls same sames agree
second_holds = agree_holds second_rows refl

pub third_holds : RowsHold third_rows
unfolding calls same sames agree
third_holds = agree_holds third_rows refl

pub open_holds : RowsHold open_rows
unfolding calls same sames agree
open_holds = agree_holds open_rows refl

pub blank_holds : RowsHold blank_rows
unfolding calls same sames agree
blank_holds = agree_holds blank_rows refl
