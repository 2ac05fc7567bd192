use Rattle.cq_history.proofs.Gates.{conditions_are}
use Rattle.cq_history.proofs.laws.conditions_are_the_last_gates.Goals as goal

pub returns : goal.returns
returns c = conditions_are
