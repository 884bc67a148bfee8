-- The tests one behind the other.
use Rattle.soundness.proofs.CheckingLawsSound.{numbers, rows, names, deeps, alones, whole}
use Rattle.soundness.proofs.CheckingLawsRows.{rows_short}
use Rattle.soundness.specs.Checking.{row_fine, deep_fine}
use Rattle.ground.proofs.Bools.{and_first, and_second, and_first_fails}
use Rattle.ground.specs.Tests.{all_below}
use Rattle.ground.specs.Limits.{k_in_range, n_in_range}
use Rattle.lent.specs.Layout.{n_at, row_length}
use Rattle.lent.specs.Holds.{WithinRows}
use lib.ListN.{get_or}
use mathlib.Core.Path.{◌≡◌, sym, ap, ap₂, ◌∙◌}
use mathlib.Core.Bool.{Bool, true, ◌&&◌}
use mathlib.Core.List.{List}
use Prim.Native.Nat.{ℕ}
use Rattle.soundness.proofs.checking.is_sound.Goals.{Joined-numbers_in_range, Joined-rows_fine, Joined-waits_sound, then-numbers_in_range, else-numbers_in_range, then-rows_fine, else-rows_fine, then-waits_sound, else-waits_sound}
use Rattle.soundness.proofs.checking.is_sound.Goals as goal

-- the first two, and what each further one adds
first : (c : Joined-numbers_in_range) → c.if-numbers_in_range.value ≡ numbers c.args.cells.now && rows c.args.cells.now
first c =
    let ws = c.args.cells.now in
    let said = c.numbers_in_range.ensures ∙ ap₂ (λ (k n : ℕ). k_in_range k && n_in_range n) c.k_of.ensures c.n_of-n.ensures in
    elim c.if-numbers_in_range.branch [
      | then-numbers_in_range w ↦
          w.value-is
          ∙ w.rows_fine.ensures
          ∙ ap (λ (n : ℕ). all_below row_length (row_fine ws n)) c.n_of-n.ensures
          ∙ sym (ap (λ (b : Bool). b && rows ws) (sym said ∙ w.if-numbers_in_range.true))
      | else-numbers_in_range w ↦
          w.value-is ∙ w.if-numbers_in_range.false ∙ sym (and_first_fails (rows ws) (sym said ∙ w.if-numbers_in_range.false))
    ]

second : (c : Joined-rows_fine) → c.if-rows_fine.value ≡ c.if-numbers_in_range.value && names c.args.cells.now
second c =
    let named = names c.args.cells.now in
    elim c.if-rows_fine.branch [
      | then-rows_fine w ↦ w.value-is ∙ w.waits_sound.ensures ∙ sym (ap (λ (b : Bool). b && named) w.if-rows_fine.true)
      | else-rows_fine w ↦ w.value-is ∙ w.if-rows_fine.false ∙ sym (and_first_fails named w.if-rows_fine.false)
    ]

third : (c : Joined-waits_sound) → c.if-waits_sound.value ≡ c.if-rows_fine.value && deeps c.args.cells.now
third c =
    let ws = c.args.cells.now in
    elim c.if-waits_sound.branch [
      | then-waits_sound w ↦
          w.value-is
          ∙ w.deep_fine.ensures
          ∙ ap (λ (n : ℕ). all_below row_length (deep_fine ws n)) c.n_of-n.ensures
          ∙ sym (ap (λ (b : Bool). b && deeps ws) w.if-waits_sound.true)
      | else-waits_sound w ↦ w.value-is ∙ w.if-waits_sound.false ∙ sym (and_first_fails (deeps ws) w.if-waits_sound.false)
    ]

-- put together: the first three, and all but the last
three : (ws : List ℕ) {a b : Bool} → a ≡ numbers ws && rows ws → b ≡ a && names ws → b ≡ numbers ws && rows ws && names ws
three ws e f = f ∙ ap (λ (x : Bool). x && names ws) e

four : (ws : List ℕ) {a b d : Bool} → a ≡ numbers ws && rows ws → b ≡ a && names ws → d ≡ b && deeps ws
    → d ≡ numbers ws && rows ws && names ws && deeps ws
four ws e f g = g ∙ ap (λ (x : Bool). x && deeps ws) (three ws e f)

-- the rows are fine where these three are
short : (ws : List ℕ) → numbers ws && rows ws && names ws ≡ true → WithinRows ws
short ws t = rows_short ws (get_or ws n_at 0) (and_second (numbers ws) (rows ws) (and_first (numbers ws && rows ws) (names ws) t))

pub deep_fine-requires : goal.deep_fine-requires
deep_fine-requires c =
    let ws = c.args.cells.now in
    let at = goal.at.deep_fine-requires c in
    short ws (sym (three ws (first at.Joined-numbers_in_range) (second at.Joined-rows_fine)) ∙ c.if-waits_sound.true)

pub no_clashes-requires : goal.no_clashes-requires
no_clashes-requires c =
    let ws = c.args.cells.now in
    let at = goal.at.no_clashes-requires c in
    short ws
    (and_first (numbers ws && rows ws && names ws) (deeps ws)
    (sym (four ws (first at.Joined-numbers_in_range) (second at.Joined-rows_fine) (third at.Joined-waits_sound)) ∙ c.if-deep_fine.true))

pub returns-then-deep_fine : goal.returns-then-deep_fine
returns-then-deep_fine c =
    let ws = c.args.cells.now in
    let at = goal.at.returns-then-deep_fine c in
    let before = four ws (first at.Joined-numbers_in_range) (second at.Joined-rows_fine) (third at.Joined-waits_sound) in
    c.no_clashes.ensures ∙ sym (whole ws ∙ ap (λ (b : Bool). b && alones ws) (sym before ∙ c.if-deep_fine.true))

pub returns-else-deep_fine : goal.returns-else-deep_fine
returns-else-deep_fine c =
    let ws = c.args.cells.now in
    let at = goal.at.returns-else-deep_fine c in
    let before = four ws (first at.Joined-numbers_in_range) (second at.Joined-rows_fine) (third at.Joined-waits_sound) in
    c.if-deep_fine.false ∙ sym (whole ws ∙ and_first_fails (alones ws) (sym before ∙ c.if-deep_fine.false))
