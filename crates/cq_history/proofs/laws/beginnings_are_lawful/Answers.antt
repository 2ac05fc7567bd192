use Rattle.cq_history.proofs.States.{Lawful-prefix}
use Rattle.cq_history.proofs.laws.beginnings_are_lawful.Goals as goal

pub returns : goal.returns
returns c = Lawful-prefix
