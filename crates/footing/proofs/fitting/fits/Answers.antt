-- A test that fails makes the whole fail. Where the pages are sound and rightly kept, the rule for who converts tells, or the one for who wants a new page.
use Prim.Native.Nat.{ℕ}
use mathlib.Core.List.{List}
use mathlib.Core.Path.{◌≡◌, sym, ap, ◌∙◌, subst}
use Rattle.pool.specs.Pool.{page_at}
use Rattle.change.specs.Held.{Held}
use Rattle.slots.specs.Parts.{path_of}
use Rattle.footing.proofs.LookLaws.{asks_deep, asks_held, asks_path_held, fits_unsound, fits_not_kept, fits_converting, fits_new}
use Rattle.footing.specs.Fitting.{rightly_kept}
use Rattle.footing.proofs.fitting.fits.Goals.{After-rightly_kept}
use Rattle.footing.proofs.fitting.fits.Goals as goal

pub returns-then-not-pages_sound : goal.returns-then-not-pages_sound
returns-then-not-pages_sound c =
    sym (fits_unsound c.args.op c.args.shape.k c.args.shape.n c.args.words.now c.args.slot c.pages_sound.ensures c.if-not-pages_sound.true)

pub path_pages-requires : goal.path_pages-requires
path_pages-requires c = asks_deep c.requires

pub rightly_kept-requires : goal.rightly_kept-requires
rightly_kept-requires c =
    subst (Held c.args.shape.k c.args.shape.n c.args.words.now) (sym c.path_pages.ensures) (asks_path_held c.requires c.pages_sound.ensures c.if-not-pages_sound.false)

-- the pages that are kept are its path's
kept : (c : After-rightly_kept) → c.rightly_kept.result ≡ rightly_kept c.args.op c.args.shape.k (page_at c.args.shape.k c.args.words.now) (path_of c.args.slot) c.args.slot.want
kept c =
    c.rightly_kept.ensures
    ∙ ap (λ (path : List ℕ). rightly_kept c.args.op c.args.shape.k (page_at c.args.shape.k c.args.words.now) path c.args.slot.want) c.path_pages.ensures

pub returns-then-not-rightly_kept : goal.returns-then-not-rightly_kept
returns-then-not-rightly_kept c =
    sym (fits_not_kept c.args.op c.args.shape.k c.args.shape.n c.args.words.now c.args.slot (kept (goal.at.returns-then-not-rightly_kept c).After-rightly_kept) c.if-not-rightly_kept.true)

pub fits_converting-requires : goal.fits_converting-requires
fits_converting-requires c = (c.requires, asks_held c.requires c.pages_sound.ensures c.if-not-pages_sound.false, sym c.converts.ensures ∙ c.if-converts.true)

pub returns-then-converts : goal.returns-then-converts
returns-then-converts c =
    fits_converting c.args.op c.args.shape.k c.args.shape.n c.args.words.now c.args.slot c.pages_sound.ensures c.if-not-pages_sound.false (kept (goal.at.returns-then-converts c).After-rightly_kept) c.if-not-rightly_kept.false
    c.converts.ensures c.if-converts.true c.fits_converting.ensures

pub fits_new-requires : goal.fits_new-requires
fits_new-requires c = (c.requires, asks_held c.requires c.pages_sound.ensures c.if-not-pages_sound.false, sym c.converts.ensures ∙ c.if-converts.false)

pub returns : goal.returns
returns c =
    fits_new c.args.op c.args.shape.k c.args.shape.n c.args.words.now c.args.slot c.pages_sound.ensures c.if-not-pages_sound.false (kept (goal.at.returns c).After-rightly_kept) c.if-not-rightly_kept.false
    c.converts.ensures c.if-converts.false c.fits_new.ensures
