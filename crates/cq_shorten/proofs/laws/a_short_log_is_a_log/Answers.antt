use Rattle.cq_shorten.proofs.Shorter.{short_log}
use Rattle.cq_shorten.proofs.laws.a_short_log_is_a_log.Goals as goal

pub returns : goal.returns
returns c = short_log
