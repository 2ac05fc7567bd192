use Rattle.cq_export.proofs.Sessions.{asks_as}
use Rattle.cq_export.proofs.laws.a_written_version_answers_as_a_session.Goals as goal

pub returns : goal.returns
returns g c = asks_as g.row.L.Denot c.a_kept_version_answers_as_its_changes.ensures
