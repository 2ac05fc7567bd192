use Rattle.cq_history.proofs.KeptConditions.{kept_leave_the_conditions}
use Rattle.cq_history.proofs.laws.kept_leave_the_conditions.Goals as goal

pub returns : goal.returns
returns c = kept_leave_the_conditions
