use Rattle.cq_program.proofs.Complete.{exports_complete}
use Rattle.cq_program.proofs.laws.a_version_that_nothing_fails_is_written.Goals as goal

pub returns : goal.returns
returns g c = exports_complete g.row.L.Denot g.S.Source g.K.Sink
