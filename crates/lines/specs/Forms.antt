-- The good lines as a grammar, a form each: `b SLOT s KEY`, `b SLOT i KEY INFO`, `b SLOT d KEY`, `b SLOT n KEY`,
-- `b SLOT g KEY INFO`, `t SLOT`; for the second way `i2`, `d2`, `g2`, for the third `i3`, `d3`, `g3` instead of `i`, `d`, `g`. `Meaning` computes what a line means;
-- that it gives a good line its command, and every other line none, is in `proofs/Grammar.antt`.
use Rattle.std.specs.Prelude.{ℕ, ◌≤◌, ◌<◌, true, List, ◌++◌, ◌≡◌, length}
use Rattle.ground.specs.Tests.{all}
use Rattle.slots.specs.declared.Op.TheVariants.{Search, Insert, Delete, Next, Regrade}
use Rattle.slots.specs.declared.Way.{Way}
use Rattle.slots.specs.Operations.{by_way}
use Rattle.lines.specs.declared.Command.{Command}
use Rattle.lines.specs.declared.Command.TheVariants.{Begin, Step}
use Rattle.lines.specs.Text.{bytes}
use Rattle.lines.specs.Meaning.{is_digit, value, largest}

-- a number as it stands in a line: digits, at least one, worth no more than 4,294,967,295
pub record Numeral (ds : List ℕ) (n : ℕ) : Type 0 where
  pub digital : all is_digit ds ≡ true
  pub some : 0 < length ds
  pub worth : value ds ≡ n
  pub small : n ≤ largest

pub data Good (line : List ℕ) : Command → Type 0 where
  to_search : {slot key : ℕ} (ss ks : List ℕ) → Numeral ss slot → Numeral ks key
      → line ≡ bytes "b " ++ (ss ++ (bytes " s " ++ ks))
      → Good line (Begin slot (Search key))
  to_insert : (way : Way) {slot key information : ℕ} (ss ks is : List ℕ) → Numeral ss slot → Numeral ks key → Numeral is information
      → line ≡ bytes "b " ++ (ss ++ (bytes (by_way way " i " " i2 " " i3 ") ++ (ks ++ (bytes " " ++ is))))
      → Good line (Begin slot (Insert key information way))
  to_delete : (way : Way) {slot key : ℕ} (ss ks : List ℕ) → Numeral ss slot → Numeral ks key
      → line ≡ bytes "b " ++ (ss ++ (bytes (by_way way " d " " d2 " " d3 ") ++ ks))
      → Good line (Begin slot (Delete key way))
  to_next : {slot key : ℕ} (ss ks : List ℕ) → Numeral ss slot → Numeral ks key
      → line ≡ bytes "b " ++ (ss ++ (bytes " n " ++ ks))
      → Good line (Begin slot (Next key))
  to_regrade : (way : Way) {slot key information : ℕ} (ss ks is : List ℕ) → Numeral ss slot → Numeral ks key → Numeral is information
      → line ≡ bytes "b " ++ (ss ++ (bytes (by_way way " g " " g2 " " g3 ") ++ (ks ++ (bytes " " ++ is))))
      → Good line (Begin slot (Regrade key information way))
  to_step : {slot : ℕ} (ss : List ℕ) → Numeral ss slot
      → line ≡ bytes "t " ++ ss
      → Good line (Step slot)
