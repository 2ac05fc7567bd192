use Rattle.cq_history.proofs.Limits.{few_accepted}
use Rattle.cq_history.proofs.laws.few_are_accepted.Goals as goal

pub returns : goal.returns
returns c = few_accepted
