-- `first_of` tests for a leaf as the rule does.
use borrow.Author.Tests.{eq-eqb, ne_eqb}
use Rattle.page.specs.Words.{view}
use Rattle.sheet.proofs.sheets.first_of.Goals as goal

pub returns-then-w-eq1 : goal.returns-then-w-eq1
unfolding view
returns-then-w-eq1 c = simp (eq-eqb _ _ c.if-w-eq1.true)

pub returns-else-w-eq1 : goal.returns-else-w-eq1
unfolding view
returns-else-w-eq1 c = simp (ne_eqb _ _ c.if-w-eq1.false)
