-- `lay_root` writes the words before the pairs, one pair, and zeros.
use Prim.Native.Nat.{◌+◌}
use native.Mathlib.Omega.{arith}
use lib.ListN.{length-set}
use Rattle.ground.specs.Limits.{word_range}
use Rattle.page.proofs.WordLaws.{pairs_from_most}
use Rattle.sheet.proofs.PasteLaws.{zeroed}
use Rattle.sheet.proofs.LayLaws.{root_encoded}
use Rattle.sheet.proofs.writing.lay_root.Goals as goal

pub overflow_add-level : goal.overflow_add-level
unfolding word_range
overflow_add-level c = omega arith

pub returns : goal.returns
returns c =
    let fronted = c.put_front-at.ensures in
    let most = pairs_from_most (c.args.level + 1) in
    root_encoded c.args.k (c.args.level + 1) c.args.a c.args.r c.args.b c.args.w.now c.requires.0 c.requires.1 fronted.0 fronted.1
    (zeroed _ (c.put_front-at.result + 2) (simp length-set (omega arith)) (c.fill.ensures.after (λ y e. e)))
