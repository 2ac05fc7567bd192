use Rattle.std.proofs.Common.{◌∙◌}
use Rattle.cq_projects.specs.Spotted.{numbers_of}
use Rattle.cq_session.proofs.ProjectEntries.{among_positions}
use Rattle.cq_session.proofs.project.is_among.Goals as goal

pub returns : goal.returns
returns g c = c.is_some.ensures ∙ among_positions (numbers_of c.args.files.now) c.args.change c.position_of_change.result c.position_of_change.ensures
