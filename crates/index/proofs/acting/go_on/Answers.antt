-- The slot with its new want is put where it was, and stands last in the waiting order.
use Rattle.ground.specs.Limits.{slot_count}
use Rattle.index.proofs.acting.go_on.Goals as goal

pub requeues-requires : goal.requeues-requires
unfolding slot_count
requeues-requires c =
    let pre = c.requires in
    let w = pre.0 in
    (w.inside, w.few, w.named, pre.1, pre.2, record { path = pre.3.path; beside = pre.3.beside })
