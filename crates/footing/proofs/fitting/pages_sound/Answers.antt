-- The path, the siblings and the wanted page are tested one after the other.
use mathlib.Core.Path.{sym, ap, ◌∙◌}
use native.Mathlib.Omega.{arith}
use Rattle.ground.proofs.Bools.{not_both}
use Rattle.footing.specs.Fitting.{pages_sound}
use Rattle.slots.specs.Parts.{path_of, beside_of}
use Rattle.footing.proofs.LookLaws.{path_unsound, siblings_unsound, want_sound, asks_deep, asks_few, asks_path, asks_siblings, asks_want}
use Rattle.footing.proofs.fitting.pages_sound.Goals.{then-all_sound, else-all_sound}
use Rattle.footing.proofs.fitting.pages_sound.Goals as goal

pub path_pages-requires : goal.path_pages-requires
path_pages-requires c = asks_deep c.requires

pub all_sound-requires : goal.all_sound-requires
all_sound-requires c =
    let asked = c.requires in
    record { k_le_largest_k = (asked.width, asked.most, asked.whole); by_index = asks_path asked c.path_pages.ensures }

pub beside_pages-requires : goal.beside_pages-requires
beside_pages-requires c = omega (arith, asks_few c.requires)

pub all_sound-requires-then-all_sound : goal.all_sound-requires-then-all_sound
all_sound-requires-then-all_sound c =
    let asked = c.requires in
    record { k_le_largest_k = (asked.width, asked.most, asked.whole); by_index = asks_siblings asked c.beside_pages.ensures }

pub sound_of-requires : goal.sound_of-requires
sound_of-requires c =
    let asked = c.requires in
    record { width = asked.width; most = asked.most; whole = asked.whole; inside = asks_want asked }

pub returns-then-all_sound-2 : goal.returns-then-all_sound-2
returns-then-all_sound-2 c =
    elim c.if-all_sound.branch [
      | then-all_sound w ↦
          want_sound c.args.shape.k c.args.shape.n c.args.words.now (path_of c.args.slot) (beside_of c.args.slot) c.args.slot.want (c.all_sound.ensures ∙ ap (pages_sound c.args.shape.k c.args.shape.n c.args.words.now) c.path_pages.ensures) w.if-all_sound.true
          (w.all_sound-then-all_sound.ensures ∙ ap (pages_sound c.args.shape.k c.args.shape.n c.args.words.now) w.beside_pages.ensures) (sym w.value-is ∙ c.if-all_sound-2.true) c.sound_of.ensures
      | else-all_sound w ↦ not_both c.if-all_sound-2.true (w.value-is ∙ w.if-all_sound.false)
    ]

pub returns-else-all_sound-2 : goal.returns-else-all_sound-2
returns-else-all_sound-2 c =
    c.if-all_sound-2.false
    ∙ sym
    (elim c.if-all_sound.branch [
      | then-all_sound w ↦
          siblings_unsound c.args.shape.k c.args.shape.n c.args.words.now (path_of c.args.slot) (beside_of c.args.slot) c.args.slot.want
          (w.all_sound-then-all_sound.ensures ∙ ap (pages_sound c.args.shape.k c.args.shape.n c.args.words.now) w.beside_pages.ensures) (sym w.value-is ∙ c.if-all_sound-2.false)
      | else-all_sound w ↦
          path_unsound c.args.shape.k c.args.shape.n c.args.words.now (path_of c.args.slot) (beside_of c.args.slot) c.args.slot.want
          (c.all_sound.ensures ∙ ap (pages_sound c.args.shape.k c.args.shape.n c.args.words.now) c.path_pages.ensures) w.if-all_sound.false
    ])
