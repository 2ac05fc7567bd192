use Rattle.cq_export.proofs.SessionsBeside.{asks_as_beside}
use Rattle.cq_export.proofs.laws.a_written_version_answers_as_a_session_beside.Goals as goal

pub returns : goal.returns
returns g c = asks_as_beside g.row.L.Denot c.a_kept_version_answers_as_its_changes.ensures
