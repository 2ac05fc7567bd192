use Rattle.std.proofs.Common.{◌≡◌, All}
use Rattle.std.specs.Vec.Iter.{into_iter_items}
use Rattle.cq_listen.proofs.workers.start_workers.Given as goal

abbrev pub invariant-workers : goal.invariant-workers
invariant-workers g l = All (λ one. g.M.Worker.settings one ≡ l.keyer.settings) (into_iter_items l.worker-iterator)
