use Rattle.cq_program.proofs.Agreeing.{asked_as_run}
use Rattle.cq_program.proofs.laws.what_was_exported_is_asked_as_run.Goals as goal

pub returns : goal.returns
returns g c = asked_as_run g.row.L.Denot g.S.Source g.K.Sink c.a_written_version_answers_as_a_session_beside.ensures
