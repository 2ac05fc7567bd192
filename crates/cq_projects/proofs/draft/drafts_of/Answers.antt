use Rattle.std.proofs.Common.{◌∙◌}
use Rattle.std.specs.Arc.{arc_value}
use Rattle.cq_projects.proofs.Fronts.{made_more}
use Rattle.cq_projects.proofs.draft.drafts_of.Goals as goal

pub loop-project-preserved : goal.loop-project-preserved
loop-project-preserved g c =
    made_more arc_value c.args.projects.now c.loop-project.project-index c.project-item.result c.loop-project-test.true c.project-item.is
    c.loop-project.drafts.items c.push.new.self.items c.of.result (c.of.ensures ∙ c.in_ok-project.ensures) c.in_ok-push.ensures.items c.loop-project.invariant
