use Rattle.cq_history.proofs.Keeping.{one_more}
use Rattle.cq_history.proofs.laws.one_more_is_kept.Goals as goal

pub returns : goal.returns
returns c = one_more
