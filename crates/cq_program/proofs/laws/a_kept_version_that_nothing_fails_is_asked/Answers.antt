use Rattle.cq_program.proofs.Complete.{asks_complete}
use Rattle.cq_program.proofs.laws.a_kept_version_that_nothing_fails_is_asked.Goals as goal

pub returns : goal.returns
returns g c = asks_complete g.row.L.Denot g.S.Source g.K.Sink
