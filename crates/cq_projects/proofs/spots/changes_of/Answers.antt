use Rattle.std.proofs.Common.{ap, ◌∙◌}
use Rattle.cq_history.specs.Files.{File}
use Rattle.cq_projects.proofs.Fronts.{numbers_more}
use Rattle.cq_projects.proofs.spots.changes_of.Goals as goal

pub loop-file-preserved : goal.loop-file-preserved
loop-file-preserved g c =
    numbers_more c.args.files.now c.loop-file.file-index c.file-item.result c.loop-file-test.true c.file-item.is
    c.loop-file.changes.items c.push.new.self.items c.behind-file.inside.change (ap (λ (h : File g.row.W.Denot). h.number) (c.behind-file.view_is ∙ c.deref.ensures)) c.in_ok-push.ensures.items c.loop-file.invariant
