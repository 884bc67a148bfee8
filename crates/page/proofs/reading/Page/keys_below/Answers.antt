-- On rising keys the keys at most x stand before its place; of these only the last can be x itself.
use mathlib.Core.Path.{sym, ◌∙◌}
use native.Mathlib.Omega.{arith}
use Rattle.page.specs.Words.{view}
use Rattle.page.proofs.ReadingLaws.{first_of_all, first_itself, first_behind}
use Rattle.page.proofs.reading.Page.keys_below.Goals.{else-i-gt0-via-then-i-gt0+else-key-x, else-i-gt0-via-else-i-gt0}
use Rattle.page.proofs.reading.Page.keys_below.Goals as goal

pub returns-then-key-x : goal.returns-then-key-x
returns-then-key-x c =
    let place = c.place-i in
    first_itself c.args.x (view c.args.self.words.now).entries c.requires place.result place.ensures.value
    (omega arith)
    (sym c.key.ensures ∙ c.if-key-x.true)

pub returns-else-i-gt0 : goal.returns-else-i-gt0
returns-else-i-gt0 c =
    let place = c.place-i in
    elim c.else-i-gt0.branch [
      | else-i-gt0-via-then-i-gt0+else-key-x w ↦ first_behind c.args.x (view c.args.self.words.now).entries c.requires place.result place.ensures.value (omega (arith, w.if-i-gt0.true)) (λ same. w.if-key-x.false (w.key.ensures ∙ same))
      | else-i-gt0-via-else-i-gt0 w ↦ first_of_all c.args.x (view c.args.self.words.now).entries c.requires place.result place.ensures.value (omega (arith, w.if-i-gt0.false))
    ]
