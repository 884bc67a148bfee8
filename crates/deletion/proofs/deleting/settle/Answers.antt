-- Each way through the code is one way through the rule, with the joined page in the buffer for its value.
use Rattle.deletion.proofs.DeleteLaws.{cutting, joining, settled_shares, settled_collapses, settled_unites}
use Rattle.deletion.proofs.deleting.settle.Goals as goal

pub share-requires : goal.share-requires
share-requires c = cutting c.requires c.join_of-s.ensures c.if-spares.true

pub returns-then-spares : goal.returns-then-spares
returns-then-spares c = let both = settled_shares c.requires c.join_of-s.ensures c.if-spares.true c.share.ensures in record { words_after = both.0; value = both.1 }

pub collapse-requires : goal.collapse-requires
collapse-requires c = joining c.requires c.join_of-s.ensures c.if-spares.false

pub returns-then-at_last_key : goal.returns-then-at_last_key
returns-then-at_last_key c =
    let both = settled_collapses c.requires c.join_of-s.ensures c.if-spares.false c.at_last_key.ensures c.if-at_last_key.true
    c.collapse.ensures in record { words_after = both.0; value = both.1 }

pub unite-requires : goal.unite-requires
unite-requires c = joining c.requires c.join_of-s.ensures c.if-spares.false

pub returns : goal.returns
returns c =
    let both = settled_unites c.requires c.join_of-s.ensures c.if-spares.false c.at_last_key.ensures c.if-at_last_key.false
    c.unite.ensures in record { words_after = both.0; value = both.1 }
