use Rattle.cq_history.proofs.Holding.{over_is_free}
use Rattle.cq_history.proofs.laws.nobody_has_what_is_over.Goals as goal

pub returns : goal.returns
returns c = over_is_free
