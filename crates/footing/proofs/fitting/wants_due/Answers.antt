-- Who does not go by the second way wants its new page with what is due, because the slot is sound. For who does the kinds are compared.
use Prim.Native.Nat.{ℕ}
use mathlib.Core.List.{List, reverse}
use mathlib.Core.Path.{sym, ap, ◌∙◌, subst}
use Rattle.pool.specs.Pool.{page_at}
use Rattle.change.specs.Held.{Held}
use Rattle.footing.specs.Fitting.{lock_due}
use Rattle.slots.specs.Locks.{same_lock}
use Rattle.slots.specs.Parts.{path_of}
use Rattle.footing.proofs.LookLaws.{asks_deep}
use Rattle.footing.proofs.ConvertLaws.{same_kind, first_wants}
use Rattle.footing.proofs.fitting.wants_due.Goals as goal

pub returns-then-not-is_second : goal.returns-then-not-is_second
returns-then-not-is_second c =
    let asks = c.requires.0 in
    first_wants c.args.shape.n c.args.slot asks.task asks.sound (page_at c.args.shape.k c.args.words.now) (reverse (path_of c.args.slot)) c.is_second.ensures c.if-not-is_second.true c.requires.2

pub path_pages-requires : goal.path_pages-requires
path_pages-requires c = asks_deep c.requires.0

pub lock_due-requires : goal.lock_due-requires
lock_due-requires c = subst (Held c.args.shape.k c.args.shape.n c.args.words.now) (sym c.path_pages.ensures) c.requires.1

pub returns : goal.returns
returns c =
    c.eq.ensures
    ∙ same_kind c.args.slot.lock c.lock_due.result
    ∙ ap (same_lock c.args.slot.lock) (c.lock_due.ensures ∙ ap (λ (path : List ℕ). lock_due c.args.op (page_at c.args.shape.k c.args.words.now) (reverse path)) c.path_pages.ensures)
