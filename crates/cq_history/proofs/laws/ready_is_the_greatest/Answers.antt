use Rattle.cq_history.proofs.Doing.{ready_greatest}
use Rattle.cq_history.proofs.laws.ready_is_the_greatest.Goals as goal

pub returns : goal.returns
returns c = ready_greatest
