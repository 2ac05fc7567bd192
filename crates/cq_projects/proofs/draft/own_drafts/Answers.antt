use Rattle.std.specs.Vec.Iter.{into_iter_items}
use Rattle.cq_projects.proofs.Gathering.{drafted_more}
use Rattle.cq_projects.proofs.draft.own_drafts.Goals as goal

pub loop-project-preserved : goal.loop-project-preserved
loop-project-preserved g c =
    drafted_more c.loop-project.drafts.items c.push.new.self.items c.of.result c.in-Some.project (into_iter_items c.next.new.self) (into_iter_items c.loop-project.project-iterator) _ c.in_ok-push.ensures.items c.of.ensures c.in-Some.ensures.steps.0 c.loop-project.invariant
