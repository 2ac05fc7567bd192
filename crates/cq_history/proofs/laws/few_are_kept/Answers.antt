use Rattle.cq_history.proofs.Limits.{few_kept}
use Rattle.cq_history.proofs.laws.few_are_kept.Goals as goal

pub returns : goal.returns
returns c = few_kept
