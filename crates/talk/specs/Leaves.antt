-- What the functions that answer leave: a reply's bytes, laid over a row of bytes, and its state and words.
use Rattle.std.specs.Prelude.{ℕ, ◌+◌, ◌≤◌, List, ◌≡◌, length}
use Rattle.slots.specs.declared.State.{State}
use Rattle.lines.specs.Text.{laid}
use Rattle.talk.specs.Talk.{AfterLine}

-- a reply written over `out` at a position: `st`, `ws` and `after` are the state, the words and the row as they are left, and
-- `end` is behind what was written
pub record LineLeaves (r : AfterLine) (out : List ℕ) (at : ℕ) (st : State) (end : ℕ) (ws after : List ℕ) : Type 0 where
  pub state : st ≡ r.state
  pub words : ws ≡ r.words
  pub bytes : after ≡ laid out at r.said
  pub behind : end ≡ at + length r.said
  pub short : length r.said ≤ 32

-- all that is written, from the front of `out` on
pub record Writes (whole out : List ℕ) (end : ℕ) (after : List ℕ) : Type 0 where
  pub bytes : after ≡ laid out 0 whole
  pub behind : end ≡ length whole
