use Rattle.cq_history.proofs.Holding.{taken_since}
use Rattle.cq_history.proofs.laws.taken_goes_by_own_events.Goals as goal

pub returns : goal.returns
returns c = taken_since
