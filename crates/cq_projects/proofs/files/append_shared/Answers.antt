use Rattle.std.specs.Arc.{arc_value}
use Rattle.cq_projects.proofs.Fronts.{shared_more}
use Rattle.cq_projects.proofs.files.append_shared.Goals as goal

pub loop-f-preserved : goal.loop-f-preserved
loop-f-preserved g c =
    shared_more arc_value c.args.files.now c.loop-f.f-index c.f-item.result c.loop-f-test.true c.f-item.is
    c.args.all.now.items c.loop-f.all.items c.push.new.self.items c.in_ok-f.f c.in_ok-f.ensures c.in_ok-push.ensures.items c.loop-f.invariant
