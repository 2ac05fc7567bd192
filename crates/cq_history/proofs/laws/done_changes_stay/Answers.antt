use Rattle.cq_history.proofs.Doing.{done_stays}
use Rattle.cq_history.proofs.laws.done_changes_stay.Goals as goal

pub returns : goal.returns
returns c = done_stays
