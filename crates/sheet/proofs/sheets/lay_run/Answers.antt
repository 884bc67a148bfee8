-- `lay_run` writes the words before the pairs, a run of the buffer's words, and zeros.
use Prim.Native.Nat.{◌+◌, ◌-◌, ◌*◌}
use mathlib.Core.Path.{◌≡◌}
use native.Mathlib.Omega.{arith}
use lib.ListN.{length, drop, length-drop}
use Rattle.page.proofs.WordLaws.{pairs_from_most}
use Rattle.sheet.proofs.PasteLaws.{zeroed}
use Rattle.sheet.proofs.LayLaws.{lay_encoded}
use Rattle.sheet.proofs.sheets.lay_run.Goals as goal

pub returns : goal.returns
returns c =
    let front = c.put_front-at in
    let ps = drop (2 * c.args.c) c.args.words.now in
    let most = pairs_from_most c.args.level in
    let rest : length ps ≡ length c.args.words.now - 2 * c.args.c = length-drop (2 * c.args.c) c.args.words.now in
    lay_encoded c.args.k c.args.level c.args.first c.args.n c.args.w.now c.requires.0 front.ensures.0 front.ensures.1 ps c.requires.1 (omega arith)
    c.copy_words.ensures (zeroed _ (front.result + 2 * c.args.n) (omega arith) (c.fill.ensures.after (λ y e. e)))
