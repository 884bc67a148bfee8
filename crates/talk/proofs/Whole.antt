-- The whole: too long, or the answers to its lines from a pool freshly made; and all that is written lies within the row.
use Prim.Native.Nat.{ℕ, ◌+◌, ◌≤◌, ◌<◌}
use mathlib.Core.List.{List}
use mathlib.Core.Path.{◌≡◌, sym, ap, ap₂, ◌∙◌, subst}
use native.Mathlib.Omega.{arith}
use borrow.Author.Tests.{lt-ltb, le-ltb}
use lib.ListN.{length, drop, length-append}
use Rattle.slots.specs.declared.State.{State}
use Rattle.slots.specs.declared.Answer.{Answer}
use Rattle.lent.specs.Words.{state_of}
use Rattle.lines.specs.Text.{laid}
use Rattle.lines.specs.Names.{too_long}
use Rattle.index.specs.Statements.{MakeSays}
use Rattle.talk.specs.Split.{lines_of}
use Rattle.talk.specs.Talk.{replies, program_k, program_pages, blank, opening, most_bytes, program_writes}
use Rattle.talk.specs.Leaves.{Writes}

module _ (input out : List ℕ) {end : ℕ} {after : List ℕ} where
  pub too_long_writes : 65536 < length input → after ≡ laid out 0 too_long → end ≡ 0 + length too_long → Writes (program_writes input) out end after
  unfolding program_writes most_bytes
  too_long_writes h b e = rw (lt-ltb 65536 (length input) h) (record { bytes = b; behind = e })

  pub lines_write : {cells words : List ℕ} {r : Answer} → length input ≤ 65536 → MakeSays program_k program_pages blank r cells words
      → Writes (replies (state_of cells) words (lines_of input)) out end after
      → Writes (program_writes input) out end after
  unfolding program_writes most_bytes
  lines_write {cells} {words} h made w =
      let all : replies (state_of cells) words (lines_of input) ≡ replies opening.state opening.words (lines_of input) =
      ap₂ (λ (st : State) (ws : List ℕ). replies st ws (lines_of input)) made.state made.words in
      rw (le-ltb 65536 (length input) h) (subst (λ (whole : List ℕ). Writes whole out end after) all w)

-- what is written lies within the row
module _ {whole out : List ℕ} {end : ℕ} {after : List ℕ} (w : Writes whole out end after) where
  pub written_within : end ≤ length after
  written_within = omega (arith, ap length w.bytes, w.behind, length-append whole (drop (0 + length whole) out))

-- no second outcome satisfies the statement
pub writes_once : (whole out : List ℕ) (end end' : ℕ) (after after' : List ℕ) → Writes whole out end after → Writes whole out end' after'
    → (end ≡ end') × (after ≡ after')
writes_once whole out end end' after after' w w' = (w.behind ∙ sym w'.behind, w.bytes ∙ sym w'.bytes)
