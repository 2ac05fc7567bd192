use Rattle.cq_history.proofs.Forgetting.{stays_gone}
use Rattle.cq_history.proofs.laws.gone_stays_gone.Goals as goal

pub returns : goal.returns
returns c = stays_gone
