use Rattle.cq_log.proofs.Growing.{log_grows}
use Rattle.cq_log.proofs.laws.a_log_grows.Goals as goal

pub returns : goal.returns
returns c = log_grows
