use Rattle.std.specs.Vec.Iter.{into_iter_items}
use Rattle.cq_listen.proofs.Seating.{rest_of}
use Rattle.cq_listen.proofs.workers.start_workers.Goals as goal

pub workers-preserved-else-is_err : goal.workers-preserved-else-is_err
workers-preserved-else-is_err g c =
    rest_of (λ one. g.M.Worker.settings one) c.args.keyer.now.settings (into_iter_items c.workers.worker-iterator) (into_iter_items c.next.new.self) c.in-Some.worker c.in-Some.ensures.steps.0 c.workers.invariant
