use Rattle.cq_history.proofs.Holders.{took_last}
use Rattle.cq_history.proofs.laws.holders_took_last.Goals as goal

pub returns : goal.returns
returns c = took_last
