use Rattle.std.specs.Vec.Iter.{into_iter_items}
use Rattle.cq_projects.proofs.Moving.{left_on}
use Rattle.cq_projects.proofs.merging.let_go.Goals as goal

pub loop-step-preserved : goal.loop-step-preserved
loop-step-preserved g c =
    let rest = c.loop-step.rest.rest in
    left_on c.loop-step._step (into_iter_items c.args.rest.now) rest.items c.loop-step.invariant rest.len c.next.result (into_iter_items c.next.new.self) rest.ok.0 c.next.ensures.variant c.next.ensures.items
