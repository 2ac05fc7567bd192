use Rattle.std.proofs.Common.{refl, ap, ◌∙◌}
use Rattle.cq_board.specs.Listings.{Listed}
use Rattle.cq_projects.specs.Projects.{files_in, conditions_in}
use Rattle.cq_work.specs.declared.work.Work.{Work}
use Rattle.cq_answer.proofs.Listable.{given_version}
use Rattle.cq_drive.proofs.InView.{have_version, in_view, was_answered}
use Rattle.cq_drive.proofs.viewing.answered.Goals as goal

pub answer-requires-clause-given : goal.answer-requires-clause-given
answer-requires-clause-given g c κs lives =
    given_version c.args.driver.now.keyer.now.settings c.args.view.now.version c.args.query.now.project c.project-files.result.now c.conditions-conditions.result.now c.requires.in_range
    (have_version g.row.L.Denot c.args.driver.now.keyer.now.settings c.args.core.now c.args.by c.args.view.now c.args.query.now.project c.project-files.result.now c.conditions-conditions.result.now c.requires.driven c.requires.listing
    (c.project-files.ensures ∙ ap (λ (l : Listed (Work g.row.L.Denot)). files_in l.projects c.args.query.now.project) c.deref.ensures)
    (c.conditions-conditions.ensures ∙ ap (λ (l : Listed (Work g.row.L.Denot)). conditions_in l.projects c.args.query.now.project) c.deref-2.ensures)
    c.requires.opened)

pub answer-requires-clause-ready : goal.answer-requires-clause-ready
answer-requires-clause-ready g c κs lives =
    in_view g.row.L.Denot c.args.driver.now.keyer.now.settings c.args.core.now c.args.by c.args.view.now c.args.query.now.project c.project-files.result.now c.conditions-conditions.result.now c.requires.driven c.requires.listing
    (c.project-files.ensures ∙ ap (λ (l : Listed (Work g.row.L.Denot)). files_in l.projects c.args.query.now.project) c.deref.ensures)
    (c.conditions-conditions.ensures ∙ ap (λ (l : Listed (Work g.row.L.Denot)). conditions_in l.projects c.args.query.now.project) c.deref-2.ensures)
    c.requires.in_range c.requires.caller c.requires.opened

pub returns-clause-led : goal.returns-clause-led
returns-clause-led g c =
    was_answered g.row.L.Denot c.args.driver.now.keyer.now.settings c.args.core.now c.args.by c.args.view.now c.args.query.now.project c.project-files.result.now c.conditions-conditions.result.now c.requires.driven c.requires.listing
    (c.project-files.ensures ∙ ap (λ (l : Listed (Work g.row.L.Denot)). files_in l.projects c.args.query.now.project) c.deref.ensures)
    (c.conditions-conditions.ensures ∙ ap (λ (l : Listed (Work g.row.L.Denot)). conditions_in l.projects c.args.query.now.project) c.deref-2.ensures)
    c.args.query.now c.in_ok-reply.reply refl c.requires.opened c.in_ok-reply.ensures.reply
