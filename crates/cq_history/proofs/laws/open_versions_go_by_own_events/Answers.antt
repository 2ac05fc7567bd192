use Rattle.cq_history.proofs.Openings.{view_is, view_own}
use Rattle.cq_history.proofs.laws.open_versions_go_by_own_events.Goals as goal

pub returns : goal.returns
returns c = λ settings callers h by lawful. (view_is settings callers h by lawful, view_own by h)
