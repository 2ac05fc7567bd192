use Rattle.cq_history.proofs.Openings.{callers_there}
use Rattle.cq_history.proofs.laws.callers_are_there.Goals as goal

pub returns : goal.returns
returns c = callers_there
