use Rattle.cq_history.proofs.Forgetting.{gone_is}
use Rattle.cq_history.proofs.laws.gone_is_as_said.Goals as goal

pub returns : goal.returns
returns c = gone_is
