-- The walk over the lines: what is written so far, with the answers to the lines that are left, is the whole.
use Prim.Native.Nat.{ℕ, ◌+◌, ◌*◌, ◌-◌, ◌≤◌, ◌<◌}
use mathlib.Core.List.{List, [], ◌∷◌, ◌++◌, append_assoc, append-nil}
use mathlib.Core.Path.{◌≡◌, refl, sym, ap, ap₂, ◌∙◌, subst, subst⁻¹}
use native.Mathlib.Omega.{arith}
use lib.ListN.{length, take, drop, length-append, length-drop}
use lib.Seq.{length-take-le}
use Rattle.slots.specs.declared.State.{State}
use Rattle.lines.specs.declared.Command.{Command}
use Rattle.lines.specs.Text.{laid}
use Rattle.lines.specs.Meaning.{meaning}
use Rattle.lines.specs.Names.{bad_line}
use Rattle.lines.specs.Ends.{line_end}
use Rattle.lines.proofs.LaidLaws.{laid_two}
use Rattle.talk.specs.Split.{Line, ended, lines_of}
use Rattle.talk.specs.Talk.{commanded, replies}
use Rattle.talk.specs.Leaves.{LineLeaves, Writes}
use Rattle.talk.proofs.SplitLaws.{next_line, last_line, no_line}
use Rattle.talk.proofs.LengthLaws.{reply_short}

pub record Going (whole input out₀ : List ℕ) (st : State) (ws out : List ℕ) (at end : ℕ) : Type 0 where
  pub done : List ℕ
  pub makes : done ++ replies st ws (lines_of (drop at input)) ≡ whole
  pub bytes : out ≡ laid out₀ 0 done
  pub behind : end ≡ length done
  pub within : at ≤ length input
  pub room : end ≤ 8 * at

pub going_start : (st : State) (ws input out₀ : List ℕ) → Going (replies st ws (lines_of input)) input out₀ st ws out₀ 0 0
going_start st ws input out₀ =
    record { done = []; makes = refl; bytes = refl; behind = refl; within = omega arith; room = omega arith }

module _ (whole input out₀ : List ℕ) {st : State} {ws out : List ℕ} {at end : ℕ} (g : Going whole input out₀ st ws out at end) where
  -- one line more
  pub going_on : {stop : ℕ} {command : Command} {st' : State} {end' : ℕ} {ws' out' : List ℕ} → stop ≡ line_end input at → stop < length input
      → command ≡ meaning (take (stop - at) (drop at input))
      → LineLeaves (commanded st ws command) out end st' end' ws' out'
      → Going whole input out₀ st' ws' out' (stop + 1) end'
  unfolding replies
  going_on {stop} {command} {st'} {end'} {ws'} {out'} e h m l =
      let line : List ℕ = take (stop - at) (drop at input) in
      let left : List Line = lines_of (drop (stop + 1) input) in
      let word : List ℕ = (commanded st ws command).said in
      let split : lines_of (drop at input) ≡ ended line ∷ left =
      subst (λ (n : ℕ). lines_of (drop at input) ≡ ended (take (n - at) (drop at input)) ∷ lines_of (drop (n + 1) input)) (sym e)
      (next_line input at (omega (arith, e, h))) in
      let answers : word ++ replies st' ws' left ≡ replies st ws (lines_of (drop at input)) =
      ap₂ (λ (s : State) (w : List ℕ). word ++ replies s w left) l.state l.words
      ∙ ap (λ (c : Command). (commanded st ws c).said ++ replies (commanded st ws c).state (commanded st ws c).words left) m
      ∙ sym (ap (replies st ws) split) in
      let short : length word ≤ 8 * (length line + 1) =
      subst⁻¹ (λ (c : Command). length (commanded st ws c).said ≤ 8 * (length line + 1)) m
      (reply_short st ws line (subst (λ (c : Command). length (commanded st ws c).said ≤ 32) m l.short)) in
      let front : end ≡ 0 + length g.done = omega (arith, g.behind) in
      let long : length line ≡ stop - at = length-take-le (stop - at) (drop at input) (omega (arith, h, length-drop at input)) in
      record {
        done = g.done ++ word;
        makes = append_assoc g.done word (replies st' ws' left) ∙ ap (λ (w : List ℕ). g.done ++ w) answers ∙ g.makes;
        bytes = laid_two out₀ 0 g.done word (omega arith) g.bytes front l.bytes;
        behind = omega (arith, l.behind, g.behind, length-append g.done word);
        within = omega (arith, h);
        room = omega (arith, e, short, long, l.behind, g.room);
      }

  -- the last line, unended
  pub going_last : {out' : List ℕ} {r : ℕ} → at < length input → line_end input at ≡ length input → out' ≡ laid out end bad_line
      → r ≡ end + length bad_line
      → Writes whole out₀ r out'
  unfolding replies
  going_last {out'} {r} h e f k =
      let all : g.done ++ bad_line ≡ whole =
      ap (λ (ls : List Line). g.done ++ replies st ws ls) (sym (last_line input at h e)) ∙ g.makes in
      let front : end ≡ 0 + length g.done = omega (arith, g.behind) in
      record {
        bytes = laid_two out₀ 0 g.done bad_line (omega arith) g.bytes front f ∙ ap (laid out₀ 0) all;
        behind = let long : r ≡ length (g.done ++ bad_line) = omega (arith, k, g.behind, length-append g.done bad_line) in long ∙ ap length all;
      }

  -- no line is left
  pub going_done : length input ≤ at → Writes whole out₀ end out
  unfolding replies
  going_done h =
      let all : g.done ≡ whole =
      sym (append-nil g.done) ∙ ap (λ (ls : List Line). g.done ++ replies st ws ls) (sym (no_line input at h)) ∙ g.makes in
      record { bytes = g.bytes ∙ ap (laid out₀ 0) all; behind = g.behind ∙ ap length all }
