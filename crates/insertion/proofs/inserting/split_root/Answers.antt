-- The three writes are the rule's, in its order.
use Prim.Native.Nat.{ℕ, ◌+◌}
use mathlib.Core.List.{[], ◌∷◌}
use mathlib.Core.Path.{ap, ◌∙◌}
use Rattle.page.specs.Words.{entry, page}
use Rattle.pool.specs.Pool.{write, written}
use Rattle.pool.proofs.WriteLaws.{applied_three}
use Rattle.insertion.proofs.inserting.split_root.Goals as goal

pub returns : goal.returns
returns c =
    applied_three _ _ _ _ _ c.lay_left_at.ensures c.lay_right_at.ensures
    (c.lay_root_at.ensures
    ∙ ap (λ (r : ℕ). written c.args.shape.k (write c.args.p (page (c.args.s.level + 1) c.args.a (entry r c.args.b ∷ []))) c.lay_right_at.new.words) c.cut_key.ensures)
