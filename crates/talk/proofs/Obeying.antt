-- A call and its answer written out leave what the rules say: what is heard of an answer fixes it, and so its line.
use Prim.Native.Nat.{ℕ, ◌+◌, ◌≤◌}
use mathlib.Core.List.{List}
use mathlib.Core.Path.{◌≡◌, refl, subst, subst⁻¹}
use native.Mathlib.Omega.{arith}
use lib.ListN.{length}
use Rattle.slots.specs.declared.Op.{Op}
use Rattle.slots.specs.declared.State.{State}
use Rattle.slots.specs.declared.Answer.{Answer}
use Rattle.slots.specs.Begin.{begun}
use Rattle.lent.specs.Words.{state_of}
use Rattle.slots.proofs.Unique.{heard_once}
use Rattle.lines.specs.declared.Command.{Command}
use Rattle.lines.specs.declared.Command.TheVariants.{Begin, Step, Bad}
use Rattle.lines.specs.Text.{laid}
use Rattle.lines.specs.Names.{answer_line, bad_line}
use Rattle.index.specs.Step.{stepped}
use Rattle.index.specs.Statements.{BeginSays, StepSays}
use Rattle.talk.specs.Talk.{after_line, commanded}
use Rattle.talk.specs.Leaves.{LineLeaves}

-- the line of an answer is written over `out` at a position
abbrev AnswerStands : List ℕ → ℕ → List ℕ → ℕ → Answer → Type 0
AnswerStands out at after end a = (after ≡ laid out at (answer_line a)) × (end ≡ at + length (answer_line a)) × (length (answer_line a) ≤ 32)

module _ (out : List ℕ) (at : ℕ) {after : List ℕ} {end : ℕ} where
  leaves : (a : Answer) (st : State) (ws : List ℕ) → AnswerStands out at after end a → LineLeaves (after_line (answer_line a) st ws) out at st end ws after
  leaves a st ws w = record { state = refl; words = refl; bytes = w.0; behind = w.1; short = w.2 }

  pub begin_leaves : (cells ws : List ℕ) (s : ℕ) (op : Op) {cells' : List ℕ} {command : Command} {r : Answer} → command ≡ Begin s op
      → BeginSays cells s op r cells'
      → AnswerStands out at after end r
      → LineLeaves (commanded (state_of cells) ws command) out at (state_of cells') end ws after
  begin_leaves cells ws s op {cells'} {command} {r} e says w =
      let st : State = state_of cells in
      let heard : r ≡ (begun st s op).answer = heard_once r (begun st s op).answer says.answer in
      subst⁻¹ (λ (c : Command). LineLeaves (commanded st ws c) out at (state_of cells') end ws after) e
      (subst⁻¹ (λ (t : State). LineLeaves (commanded st ws (Begin s op)) out at t end ws after) says.state
      (leaves (begun st s op).answer (begun st s op).state ws (subst (AnswerStands out at after end) heard w)))

  pub step_leaves : (cells ws : List ℕ) (s : ℕ) {cells' ws' : List ℕ} {command : Command} {r : Answer} → command ≡ Step s
      → StepSays cells ws s r cells' ws'
      → AnswerStands out at after end r
      → LineLeaves (commanded (state_of cells) ws command) out at (state_of cells') end ws' after
  step_leaves cells ws s {cells'} {ws'} {command} {r} e says w =
      let st : State = state_of cells in
      let heard : r ≡ (stepped st ws s).answer = heard_once r (stepped st ws s).answer says.answer in
      subst⁻¹ (λ (c : Command). LineLeaves (commanded st ws c) out at (state_of cells') end ws' after) e
      (subst⁻¹ (λ (t : State). LineLeaves (commanded st ws (Step s)) out at t end ws' after) says.state
      (subst⁻¹ (λ (v : List ℕ). LineLeaves (commanded st ws (Step s)) out at (stepped st ws s).state end v after) says.words
      (leaves (stepped st ws s).answer (stepped st ws s).state (stepped st ws s).words (subst (AnswerStands out at after end) heard w))))

  pub bad_leaves : (st : State) (ws : List ℕ) {command : Command} → command ≡ Bad
      → (after ≡ laid out at bad_line) × (end ≡ at + length bad_line)
      → LineLeaves (commanded st ws command) out at st end ws after
  bad_leaves st ws e w =
      subst⁻¹ (λ (c : Command). LineLeaves (commanded st ws c) out at st end ws after) e
      (record { state = refl; words = refl; bytes = w.0; behind = w.1; short = omega arith })
