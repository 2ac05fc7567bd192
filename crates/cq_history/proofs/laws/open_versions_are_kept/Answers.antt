use Rattle.cq_history.proofs.Bounds.{in_order}
use Rattle.cq_history.proofs.laws.open_versions_are_kept.Goals as goal

pub returns : goal.returns
returns c = λ settings callers h lawful by version is. (in_order settings callers h lawful).views by version is
