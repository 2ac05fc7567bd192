use Rattle.cq_history.proofs.Doing.{accepted_stays}
use Rattle.cq_history.proofs.laws.accepted_changes_stay.Goals as goal

pub returns : goal.returns
returns c = accepted_stays
