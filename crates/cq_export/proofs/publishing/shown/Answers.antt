use Rattle.std.proofs.Common.{◌∙◌, ap, refl}
use Rattle.cq_board.specs.Listings.{Listed}
use Rattle.cq_export.proofs.Showing.{shown_of}
use Rattle.cq_export.proofs.publishing.shown.Goals as goal
use Rattle.cq_projects.specs.Projects.{files_in, conditions_in}
use Rattle.cq_work.specs.declared.work.Work.{Work}

pub returns-clause-shows : goal.returns-clause-shows
returns-clause-shows g c = λ set changes all.
    shown_of set changes c.args.project.now c.args.view.now _ all refl (c.in_ok-project.ensures ∙ c.as_bytes.ensures)
    (c.in_ok-files.ensures ∙ c.project.ensures ∙ ap (λ (l : Listed (Work g.row.L.Denot)). files_in l.projects c.args.project.now) c.deref.ensures)
    (c.in_ok-conditions.ensures.same ∙ c.conditions.ensures ∙ ap (λ (l : Listed (Work g.row.L.Denot)). conditions_in l.projects c.args.project.now) c.deref-2.ensures)
