-- How long answers are: at most 8 bytes for each byte of the input. A bad line is answered by 8 bytes and has at least its
-- line feed; a good one is answered by at most 32 and has at least 3 bytes and its line feed.
use Prim.Native.Nat.{ℕ, ◌+◌, ◌*◌, ◌≤◌}
use mathlib.Core.List.{List, ◌++◌}
use mathlib.Core.Logic.{⊎_elim}
use mathlib.Core.Path.{ap, subst⁻¹}
use native.Mathlib.Omega.{arith}
use lib.ListN.{length, length-append}
use Rattle.slots.specs.declared.State.{State}
use Rattle.slots.specs.Operations.{by_way}
use Rattle.lines.specs.declared.Command.{Command}
use Rattle.lines.specs.Text.{bytes}
use Rattle.lines.specs.Meaning.{meaning}
use Rattle.lines.specs.Forms.{Good, to_search, to_insert, to_delete, to_next, to_regrade, to_step}
use Rattle.lines.proofs.Grammar.{means_good}
use Rattle.talk.specs.Talk.{commanded}

-- the shortest good line is `t` with a slot of one digit
good_long : (line : List ℕ) {c : Command} → Good line c → 3 ≤ length line
good_long line (to_search ss ks hs hk e) = omega (arith, ap length e, hs.some, length-append ss (bytes " s " ++ ks))
good_long line (to_insert way ss ks is hs hk hi e) =
    omega (arith, ap length e, hs.some, length-append ss (bytes (by_way way " i " " i2 " " i3 ") ++ (ks ++ (bytes " " ++ is))))
good_long line (to_delete way ss ks hs hk e) = omega (arith, ap length e, hs.some, length-append ss (bytes (by_way way " d " " d2 " " d3 ") ++ ks))
good_long line (to_next ss ks hs hk e) = omega (arith, ap length e, hs.some, length-append ss (bytes " n " ++ ks))
good_long line (to_regrade way ss ks is hs hk hi e) =
    omega (arith, ap length e, hs.some, length-append ss (bytes (by_way way " g " " g2 " " g3 ") ++ (ks ++ (bytes " " ++ is))))
good_long line (to_step ss hs e) = omega (arith, ap length e, hs.some)

pub reply_short : (st : State) (ws line : List ℕ) → length (commanded st ws (meaning line)).said ≤ 32
    → length (commanded st ws (meaning line)).said ≤ 8 * (length line + 1)
reply_short st ws line h =
    ⊎_elim (λ e. subst⁻¹ (λ (c : Command). length (commanded st ws c).said ≤ 8 * (length line + 1)) e (omega arith))
    (λ g. omega (arith, h, good_long line g)) (means_good line)
