use Rattle.cq_history.proofs.Prefixes.{changes_in-state}
use Rattle.cq_history.proofs.laws.changes_are_accepted.Goals as goal

pub returns : goal.returns
returns c = changes_in-state
