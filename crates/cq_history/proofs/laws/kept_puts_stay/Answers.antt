use Rattle.cq_history.proofs.KeptPuts.{kept_puts_stay}
use Rattle.cq_history.proofs.laws.kept_puts_stay.Goals as goal

pub returns : goal.returns
returns c = kept_puts_stay
