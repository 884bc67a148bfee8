-- The first place at which slot s stands in the order. It stands there, so there is one.
use Rattle.std.proofs.Common.{◌≡◌, ◌≢◌, take, rules}
use Rattle.std.proofs.lemmas.Iterator.{IsFirst-from_position, YieldsList-from_slice}
use Rattle.lent.proofs.WritingLaws.{FirstOf, stands_some, stands_at}
use Rattle.lent.proofs.book.standing.Goals.{After-position}
use Rattle.lent.proofs.book.standing.Goals as goal

found : (c : After-position) → FirstOf c.args.s (take c.args.waiting c.args.order.now) c.position.result
found c =
    let order = take c.args.waiting c.args.order.now in
    IsFirst-from_position _ _ c.position.result (λ t. t ≡ c.args.s) (λ t. t ≢ c.args.s) c.position.ensures.ran
    (YieldsList-from_slice order (search rules)) (λ x q k. search rules) (λ x q k. search rules)

pub unwrap-requires : goal.unwrap-requires
unwrap-requires c = stands_some c.args.s _ c.position.result c.requires.1 (found (goal.at.unwrap-requires c).After-position)

pub returns : goal.returns
returns c = stands_at c.args.s c.args.order.now c.args.waiting c.unwrap.result c.requires.0 c.unwrap.ensures (found (goal.at.returns c).After-position)
