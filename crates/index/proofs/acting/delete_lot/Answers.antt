-- The lists lent to `delete` are the slot's.
use mathlib.Core.Path.{sym, ◌∙◌, subst₂}
use Rattle.deletion.specs.Deleting.{Deleting}
use Rattle.index.proofs.ActLaws.{deletion_told}
use Rattle.index.proofs.acting.delete_lot.Goals as goal

pub path_pages-requires : goal.path_pages-requires
path_pages-requires c = c.requires.0.deep

pub beside_pages-requires : goal.beside_pages-requires
beside_pages-requires c = c.requires.0.few

pub delete-requires : goal.delete-requires
delete-requires c =
    subst₂ (Deleting c.args.shape.k c.args.shape.n c.args.words.now c.args.x) (sym c.path_pages.ensures) (sym c.beside_pages.ensures) c.requires.1

pub returns : goal.returns
returns c = c.delete.ensures ∙ deletion_told c.args.shape.k c.args.words.now c.args.x c.requires.0 c.requires.1.held.some c.path_pages.ensures c.beside_pages.ensures
